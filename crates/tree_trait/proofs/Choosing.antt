-- What is chosen is an image.
use Rattle.std.proofs.Common.{◌≡◌, ℕ, Bool, true, false, not, ◌&&◌, List, [], ◌∷◌, refl, inl, inr, cond}
use Rattle.std.proofs.lemmas.Bool.{and_parts}
use Rattle.tree_trait.specs.declared.file_system.FileSystem.{FileSystem}
use Rattle.tree_trait.specs.Change.{Change, Nothing, Makes, Moves, Removes, Sets, Writes, Syncs, after_change}
use Rattle.tree_trait.specs.CrashImages.{is_unsynced, Lost, MayLeave, is_write, without, unless_synced, image_by_bits}

lost_without : (fill : List ℕ → List ℕ) (s : FileSystem) (c : Change) → Lost s c (without fill s c)
lost_without fill s Nothing = refl
lost_without fill s (Makes f name made) = refl
lost_without fill s (Moves f old g new i r) = refl
lost_without fill s (Removes f name i) = refl
lost_without fill s (Sets i mode) = refl
lost_without fill s (Writes i bytes mtime) = (fill bytes, refl)
lost_without fill s (Syncs i) = refl

-- a change that waits is lost, and another stands
either_way : (fill : List ℕ → List ℕ) (s image : FileSystem) (c : Change) (later : List Change) (waits : Bool) → is_unsynced c later ≡ waits
    → MayLeave (cond waits (without fill s c) (after_change s c)) later image → MayLeave s (c ∷ later) image
either_way fill s image c later true is h = inr (is, (without fill s c, lost_without fill s c, h))
either_way fill s image c later false is h = inl h

pub chosen_leaves : (fill : List ℕ → List ℕ) (s : FileSystem) (cs : List Change) (keep : List Bool) → MayLeave s cs (image_by_bits fill s cs keep)
chosen_leaves fill s [] keep = refl
chosen_leaves fill s (c ∷ later) [] =
    either_way fill s (image_by_bits fill s (c ∷ later) []) c later (is_unsynced c later) refl (chosen_leaves fill (unless_synced fill s c later) later [])
chosen_leaves fill s (c ∷ later) (bit ∷ keep) =
    go (is_unsynced c later && not (is_write c)) bit refl (λ x. chosen_leaves fill x later keep) (chosen_leaves fill (unless_synced fill s c later) later (bit ∷ keep))
  where
    go : (p b : Bool) → (is_unsynced c later && not (is_write c)) ≡ p → ((x : FileSystem) → MayLeave x later (image_by_bits fill x later keep))
        → MayLeave (unless_synced fill s c later) later (image_by_bits fill (unless_synced fill s c later) later (bit ∷ keep))
        → MayLeave s (c ∷ later) (cond p (image_by_bits fill (cond b (after_change s c) (without fill s c)) later keep) (image_by_bits fill (unless_synced fill s c later) later (bit ∷ keep)))
    go true true is ih other = inl (ih (after_change s c))
    go true false is ih other = inr ((and_parts _ _ is).0, (without fill s c, lost_without fill s c, ih (without fill s c)))
    go false b is ih other = either_way fill s (image_by_bits fill (unless_synced fill s c later) later (bit ∷ keep)) c later (is_unsynced c later) refl other
