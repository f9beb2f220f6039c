-- A change that meets neither path of a thing that was moved leaves it where it is in each image.
use Rattle.std.proofs.Common.{◌≡◌, ◌⊎◌, ℕ, List, [], ◌∷◌, ◌++◌, length, refl, sym, ◌∙◌, ap, subst, inl, inr, Option, Some, None, append_assoc}
use Rattle.std.specs.Prelude.{is_some, option_and_then}
use Rattle.mc_text.specs.Routes.{Route}
use Rattle.tree_trait.specs.declared.file_system.FileSystem.{FileSystem}
use Rattle.tree_trait.specs.FileSystem.{find, lookup}
use Rattle.tree_trait.specs.Change.{Change, CallLog, current, with_change}
use Rattle.tree_trait.specs.CrashImages.{says}
use Rattle.laws_crash.specs.Possible.{IsImage}
use Rattle.laws_crash.specs.Guarded.{IsUnder, Touches}
use Rattle.laws_crash.specs.Moved.{IsMoved, Lies, MovedLaw, SparesPath}
use Rattle.laws_crash.proofs.Guarding.{find_same}
use Rattle.laws_crash.proofs.Wholeness.{Grown, grown, name_same}

module _ (log : CallLog) (c : Change) where
  abbrev now : CallLog
  now = with_change log c

  -- what the change doesn't go through is found as before
  found_same : (p : Route) → (IsUnder log c p → ⊥) → find (current now) p ≡ find (current log) p
  found_same p off = elim (find_same log c p) [ inl same ↦ same | inr under ↦ absurd (off under) ]

  module _ (image : FileSystem) (x : Grown log c image) where
    -- a name in a folder that is found in the image where another path leads now
    unsaid : (up there : Route) (m : List ℕ) (h : ℕ) (o : Option (Option ℕ)) → says c (length (current log).nodes) h m ≡ o → find x.mid up ≡ Some h → find x.mid up ≡ find (current log) there
        → (IsUnder log c (m ∷ there) → ⊥) → says c (length (current log).nodes) h m ≡ None
    unsaid up there m h None is at same off = is
    unsaid up there m h (Some to) is at same off =
        absurd (off (inr (subst (λ o. Touches log c o m) (sym at ∙ same) (ap is_some is))))

    leads_on : (up there : Route) (m : List ℕ) → find image up ≡ find x.mid up → find x.mid up ≡ find (current log) there → (IsUnder log c (m ∷ there) → ⊥) → find image (m ∷ up) ≡ find x.mid (m ∷ up)
    leads_on up there m same found off = by (find x.mid up) refl
      where
        by : (o : Option ℕ) → find x.mid up ≡ o → find image (m ∷ up) ≡ find x.mid (m ∷ up)
        by None is = ap (option_and_then (λ k. lookup image.names k m)) (same ∙ is) ∙ sym (ap (option_and_then (λ k. lookup x.mid.names k m)) is)
        by (Some h) is =
            ap (option_and_then (λ k. lookup image.names k m)) (same ∙ is)
            ∙ (name_same log c image x h m (unsaid up there m h (says c (length (current log).nodes) h m) refl is found off) ∙ sym (ap (option_and_then (λ k. lookup x.mid.names k m)) is))

    module _ (name : List ℕ) (folder : Route) (new : List ℕ) (to : Route) (lay : Route → Option ℕ) (off : SparesPath log c (name ∷ folder)) (off_target : SparesPath log c (new ∷ to))
        (there : (rest : Route) → find (current log) (rest ++ new ∷ to) ≡ lay rest) (lies : Lies log x.mid name folder lay) where
      -- the way to the folder
      way_same : (up rest : Route) → folder ≡ rest ++ up → find image up ≡ find x.mid up
      way_same [] rest is = refl
      way_same (m ∷ up) rest is =
          let longer : folder ≡ (rest ++ m ∷ []) ++ up = is ∙ sym (append_assoc rest (m ∷ []) up) in
          leads_on up up m (way_same up (rest ++ m ∷ []) longer) (lies.way (rest ++ m ∷ []) up longer) (off (m ∷ up) (inr (name ∷ rest, ap (λ (q : Route). name ∷ q) is)))

      off_way : (up rest : Route) → folder ≡ rest ++ up → IsUnder log c up → ⊥
      off_way up rest is = off up (inr (name ∷ rest, ap (λ (q : Route). name ∷ q) is))

      all_same : (rest : Route) → find image (rest ++ name ∷ folder) ≡ find x.mid (rest ++ name ∷ folder)
      all_same [] = leads_on folder folder name (way_same folder [] refl) (lies.way [] folder refl) (off (name ∷ folder) (inl ([], refl)))
      all_same (m ∷ rest) =
          leads_on (rest ++ name ∷ folder) (rest ++ new ∷ to) m (all_same rest) (lies.all rest ∙ sym (there rest)) (off_target (m ∷ rest ++ new ∷ to) (inl (m ∷ rest, refl)))

      still_lies : Lies now image name folder lay
      still_lies = record {
        way = λ rest up is. way_same up rest is ∙ (lies.way rest up is ∙ sym (found_same up (off_way up rest is)));
        all = λ rest. all_same rest ∙ lies.all rest;
      }

pub moved_law : MovedLaw
moved_law log c old from new to lay off_source off_target moved = record {
  there = λ rest. found_same log c (rest ++ new ∷ to) (off_target (rest ++ new ∷ to) (inl (rest, refl))) ∙ moved.there rest;
  images = λ image left.
      let x = grown log c image left in
      elim (moved.images x.mid x.left) [
        | inl here ↦ inl (still_lies log c image x old from new to lay off_source off_target moved.there here)
        | inr there ↦ inr (still_lies log c image x new to new to lay off_target off_target moved.there there)
      ];
}
