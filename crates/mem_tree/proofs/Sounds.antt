-- What fits stays fit as the tree changes.
use Rattle.std.proofs.Common.{◌≡◌, ℕ, ◌^◌, ◌≤◌, zero, suc, Bool, true, false, List, [], ◌∷◌, ◌++◌, ◌+◌, not, ◌&&◌, length, take, length-append, refl, sym, ◌∙◌, ap, subst, inl, inr, ◌⊎◌, Option, Some, None, arith}
use Rattle.std.specs.Bool.{⊤}
use Rattle.std.specs.Prelude.{unwrap_or, slice_get, slice_set, if◌then◌else◌}
use Rattle.std.proofs.lemmas.List.{length-set, length-replicate}
use Rattle.tree_trait.specs.declared.file_system.NameEdit.{NameEdit}
use Rattle.tree_trait.specs.CrashImages.{image_by_bits, without, is_unsynced, is_write}
use Rattle.tree_trait.proofs.Kept.{kind_set}
use Rattle.mem_tree.specs.declared.choice.Fill.{Fill}
use Rattle.mem_tree.specs.declared.choice.Fill.TheVariants.{Written, Zeros, Junk}
use Rattle.mem_tree.specs.Fills.{filled_bytes}
use Rattle.mem_tree.specs.Live.{standing}
use Rattle.mem_tree.specs.Held.{IsKept}
use Rattle.std.proofs.lemmas.Bool.{false≢true}
use Rattle.tree_trait.specs.declared.file_system.Node.{Node}
use Rattle.tree_trait.specs.declared.file_system.FileSystem.{FileSystem}
use Rattle.tree_trait.specs.FileSystem.{node, no_node}
use Rattle.tree_trait.specs.Refusals.{is_link, link_kind}
use Rattle.tree_trait.specs.Change.{Change, Nothing, Makes, Moves, Removes, Sets, Writes, Syncs, after_change, after_changes}
use Rattle.mem_tree.specs.Sound.{FitsNode, IsSound, FitsChange, AllFit}

abbrev at : List Node → ℕ → Node
at xs i = unwrap_or (slice_get xs i) no_node

pub fits_none : FitsNode no_node
fits_none = record { mode = omega arith; size = omega arith; link = λ h. absurd (false≢true h) }

pub fits_more : (xs : List Node) (n : Node) (i : ℕ) → ((j : ℕ) → FitsNode (at xs j)) → FitsNode n → FitsNode (at (xs ++ n ∷ []) i)
fits_more [] n zero all fits = fits
fits_more [] n (suc i) all fits = fits_none
fits_more (x ∷ xs) n zero all fits = all 0
fits_more (x ∷ xs) n (suc i) all fits = fits_more xs n i (λ j. all (suc j)) fits

pub fits_set : (xs : List Node) (j : ℕ) (n : Node) (i : ℕ) → ((k : ℕ) → FitsNode (at xs k)) → FitsNode n → FitsNode (at (slice_set xs j n) i)
fits_set [] j n i all fits = fits_none
fits_set (x ∷ xs) zero n zero all fits = fits
fits_set (x ∷ xs) zero n (suc i) all fits = all (suc i)
fits_set (x ∷ xs) (suc j) n zero all fits = all 0
fits_set (x ∷ xs) (suc j) n (suc i) all fits = fits_set xs j n i (λ k. all (suc k)) fits

pub sound_change : (s : FileSystem) (c : Change) → IsSound s → FitsChange s c → IsSound (after_change s c)
sound_change s Nothing sound fits = sound
sound_change s (Makes f name made) sound fits = record { nodes = λ i. fits_more s.nodes made i sound.nodes fits; mounts = sound.mounts }
sound_change s (Moves f old g new i replaced) sound fits = record { nodes = sound.nodes; mounts = sound.mounts }
sound_change s (Removes f name i) sound fits = record { nodes = sound.nodes; mounts = sound.mounts }
sound_change s (Sets j mode) sound fits =
    record { nodes = λ i. fits_set s.nodes j (record (node s j) { mode = mode }) i sound.nodes (record { mode = fits; size = (sound.nodes j).size; link = (sound.nodes j).link }); mounts = sound.mounts }
sound_change s (Writes j bytes mtime) sound fits =
    record { nodes = λ i. fits_set s.nodes j (record (node s j) { bytes = bytes; mtime = mtime }) i sound.nodes (record { mode = (sound.nodes j).mode; size = fits.0; link = λ h. absurd (false≢true (sym fits.1 ∙ h)) }); mounts = sound.mounts }
sound_change s (Syncs i) sound fits = sound

pub sound_after : (s : FileSystem) (cs : List Change) → IsSound s → AllFit s cs → IsSound (after_changes s cs)
sound_after s [] sound fits = sound
sound_after s (c ∷ cs) sound fits = sound_after (after_change s c) cs (sound_change s c sound fits.0) fits.1

pub fit_last : (s : FileSystem) (cs : List Change) (c : Change) → AllFit s cs → FitsChange (after_changes s cs) c → AllFit s (cs ++ c ∷ [])
fit_last s [] c fits last = (last, tt)
fit_last s (d ∷ cs) c fits last = (fits.0, fit_last (after_change s d) cs c fits.1 last)

pub fit_take : (k : ℕ) (s : FileSystem) (cs : List Change) → AllFit s cs → AllFit s (take k cs)
fit_take zero s cs fits = tt
fit_take (suc k) s [] fits = tt
fit_take (suc k) s (c ∷ cs) fits = (fits.0, fit_take k (after_change s c) cs fits.1)

-- two file systems have as many nodes, of the same kinds
pub record IsAlike (s t : FileSystem) : Type 0 where
  pub count : length s.nodes ≡ length t.nodes
  pub kinds : (i : ℕ) → (node s i).kind ≡ (node t i).kind

kinds_more : (xs ys : List Node) (n : Node) (i : ℕ) → length xs ≡ length ys → ((j : ℕ) → (at xs j).kind ≡ (at ys j).kind) → (at (xs ++ n ∷ []) i).kind ≡ (at (ys ++ n ∷ []) i).kind
kinds_more [] [] n i l h = refl
kinds_more [] (y ∷ ys) n i l h = absurd (omega (arith, l))
kinds_more (x ∷ xs) [] n i l h = absurd (omega (arith, l))
kinds_more (x ∷ xs) (y ∷ ys) n zero l h = h 0
kinds_more (x ∷ xs) (y ∷ ys) n (suc i) l h = kinds_more xs ys n i (omega (arith, l)) (λ j. h (suc j))

alike_more : (s t : FileSystem) (n : Node) (a b : List NameEdit) → IsAlike s t
    → IsAlike (record s { nodes = s.nodes ++ n ∷ []; names = a }) (record t { nodes = t.nodes ++ n ∷ []; names = b })
alike_more s t n a b alike = record {
  count = length-append s.nodes (n ∷ []) ∙ (ap (λ c. c + 1) alike.count ∙ sym (length-append t.nodes (n ∷ [])));
  kinds = λ i. kinds_more s.nodes t.nodes n i alike.count alike.kinds;
}

-- nodes that keep their kinds
alike_set : (s t : FileSystem) (i j : ℕ) (m n : Node) → m.kind ≡ (node s i).kind → n.kind ≡ (node t j).kind → IsAlike s t
    → IsAlike (record s { nodes = slice_set s.nodes i m }) (record t { nodes = slice_set t.nodes j n })
alike_set s t i j m n a b alike = record {
  count = length-set s.nodes i m ∙ (alike.count ∙ sym (length-set t.nodes j n));
  kinds = λ k. kind_set s.nodes i k m a ∙ (alike.kinds k ∙ sym (kind_set t.nodes j k n b));
}

alike_left : (s t : FileSystem) (i : ℕ) (m : Node) → m.kind ≡ (node s i).kind → IsAlike s t → IsAlike (record s { nodes = slice_set s.nodes i m }) t
alike_left s t i m a alike = record {
  count = length-set s.nodes i m ∙ alike.count;
  kinds = λ k. kind_set s.nodes i k m a ∙ alike.kinds k;
}

alike_change : (s t : FileSystem) (c : Change) → IsAlike s t → IsAlike (after_change s c) (after_change t c)
alike_change s t Nothing alike = alike
alike_change s t (Makes f name made) alike = alike_more s t made _ _ alike
alike_change s t (Moves f old g new i replaced) alike = record { count = alike.count; kinds = alike.kinds }
alike_change s t (Removes f name i) alike = record { count = alike.count; kinds = alike.kinds }
alike_change s t (Sets i mode) alike = alike_set s t i i (record (node s i) { mode = mode }) (record (node t i) { mode = mode }) refl refl alike
alike_change s t (Writes i bytes mtime) alike = alike_set s t i i (record (node s i) { bytes = bytes; mtime = mtime }) (record (node t i) { bytes = bytes; mtime = mtime }) refl refl alike
alike_change s t (Syncs i) alike = alike

alike_without : (fill : List ℕ → List ℕ) (s t : FileSystem) (c : Change) → IsAlike s t → IsAlike (after_change s c) (without fill t c)
alike_without fill s t Nothing alike = alike
alike_without fill s t (Makes f name made) alike = alike_more s t made _ t.names alike
alike_without fill s t (Moves f old g new i replaced) alike = record { count = alike.count; kinds = alike.kinds }
alike_without fill s t (Removes f name i) alike = record { count = alike.count; kinds = alike.kinds }
alike_without fill s t (Sets i mode) alike = alike_left s t i (record (node s i) { mode = mode }) refl alike
alike_without fill s t (Writes i bytes mtime) alike = alike_set s t i i (record (node s i) { bytes = bytes; mtime = mtime }) (record (node t i) { bytes = fill bytes; mtime = mtime }) refl refl alike
alike_without fill s t (Syncs i) alike = alike

fits_alike : (s t : FileSystem) (c : Change) → IsAlike s t → FitsChange s c → FitsChange t c
fits_alike s t Nothing alike fits = fits
fits_alike s t (Makes f name made) alike fits = fits
fits_alike s t (Moves f old g new i replaced) alike fits = fits
fits_alike s t (Removes f name i) alike fits = fits
fits_alike s t (Sets i mode) alike fits = fits
fits_alike s t (Writes i bytes mtime) alike fits = (fits.0, ap link_kind (sym (alike.kinds i)) ∙ fits.1)
fits_alike s t (Syncs i) alike fits = fits

module _ (fill : List ℕ → List ℕ) (shorter : (bytes : List ℕ) → length (fill bytes) ≤ length bytes) where
  sound_without : (t : FileSystem) (c : Change) → IsSound t → FitsChange t c → IsSound (without fill t c)
  sound_without t Nothing sound fits = sound
  sound_without t (Makes f name made) sound fits = record { nodes = λ i. fits_more t.nodes made i sound.nodes fits; mounts = sound.mounts }
  sound_without t (Moves f old g new i replaced) sound fits = sound
  sound_without t (Removes f name i) sound fits = sound
  sound_without t (Sets i mode) sound fits = sound
  sound_without t (Writes i bytes mtime) sound fits = sound_change t (Writes i (fill bytes) mtime) sound ((let a = shorter bytes in let b = fits.0 in omega (arith, a, b)), fits.1)
  sound_without t (Syncs i) sound fits = sound

  -- each node of an image fits
  pub sound_chosen : (s t : FileSystem) (cs : List Change) (keep : List Bool) → IsAlike s t → IsSound t → AllFit s cs → IsSound (image_by_bits fill t cs keep)
  sound_chosen s t [] keep alike sound fits = sound
  sound_chosen s t (c ∷ cs) [] alike sound fits = go (is_unsynced c cs)
      (sound_chosen (after_change s c) (without fill t c) cs [] (alike_without fill s t c alike) (sound_without t c sound (fits_alike s t c alike fits.0)) fits.1)
      (sound_chosen (after_change s c) (after_change t c) cs [] (alike_change s t c alike) (sound_change t c sound (fits_alike s t c alike fits.0)) fits.1)
    where
      go : (b : Bool) → IsSound (image_by_bits fill (without fill t c) cs []) → IsSound (image_by_bits fill (after_change t c) cs []) → IsSound (image_by_bits fill (if b then without fill t c else after_change t c) cs [])
      go true lost stands = lost
      go false lost stands = stands
  sound_chosen s t (c ∷ cs) (bit ∷ keep) alike sound fits = go (is_unsynced c cs && not (is_write c)) (is_unsynced c cs) bit
      (λ k. sound_chosen (after_change s c) (without fill t c) cs k (alike_without fill s t c alike) (sound_without t c sound (fits_alike s t c alike fits.0)) fits.1)
      (λ k. sound_chosen (after_change s c) (after_change t c) cs k (alike_change s t c alike) (sound_change t c sound (fits_alike s t c alike fits.0)) fits.1)
    where
      go : (a b d : Bool) → ((k : List Bool) → IsSound (image_by_bits fill (without fill t c) cs k)) → ((k : List Bool) → IsSound (image_by_bits fill (after_change t c) cs k))
          → IsSound (if a then image_by_bits fill (if d then after_change t c else without fill t c) cs keep else image_by_bits fill (if b then without fill t c else after_change t c) cs (bit ∷ keep))
      go true b true lost stands = stands keep
      go true b false lost stands = lost keep
      go false true d lost stands = lost (bit ∷ keep)
      go false false d lost stands = stands (bit ∷ keep)

pub shorter_fill : (fill : Fill) (bytes : List ℕ) → length (filled_bytes fill bytes) ≤ length bytes
shorter_fill Written bytes = omega arith
shorter_fill Fill.Nothing bytes = omega arith
shorter_fill Zeros bytes = let e = length-replicate {A = ℕ} (length bytes) 0 in omega (arith, e)
shorter_fill (Junk byte) bytes = let e = length-replicate {A = ℕ} (length bytes) byte in omega (arith, e)

-- an image is kept as a tree that was not called yet
pub kept_image : (fill : Fill) (s stands : FileSystem) (cs : List Change) (keep : List Bool) → IsSound s → AllFit s cs → stands ≡ standing (image_by_bits (filled_bytes fill) s cs keep)
    → IsKept (image_by_bits (filled_bytes fill) s cs keep) [] stands
kept_image fill s stands cs keep sound fits is = record {
  stands_is = is;
  sound = sound_chosen (filled_bytes fill) (shorter_fill fill) s s cs keep (record { count = refl; kinds = λ i. refl }) sound fits;
  fits = tt;
  tree = λ t. t;
}
