-- What a job found below a path, or removed there, while it works.
use Rattle.std.proofs.Common.{◌≡◌, ◌⊎◌, ℕ, true, false, List, ◌∷◌, ◌++◌, length, sym, ◌∙◌, ap, subst, inl, inr, Option, None, append_assoc}
use Rattle.mc_text.specs.Routes.{Route}
use Rattle.tree_trait.specs.FileSystem.{find}
use Rattle.tree_trait.specs.Change.{Change, Removes, CallLog, current, with_change}
use Rattle.tree_trait.specs.CrashImages.{says}
use Rattle.laws_crash.specs.Guarded.{Marks, IsGuarded}
use Rattle.laws_crash.specs.NameKnowledge.{IsUnworked, StandsAt, UnworkedLaw}
use Rattle.laws_crash.proofs.Guarding.{find_same, same_quiet}
use Rattle.laws_crash.proofs.Removing.{removed_paths}

-- where each path leads as it did, or nowhere
pub unworked_still : (marks : Marks) (log now : CallLog) (top : Route) → ((p : Route) → (find (current now) p ≡ find (current log) p) ⊎ (find (current now) p ≡ None)) → IsUnworked marks log top → IsUnworked marks now top
unworked_still marks log now top leads known rest out = elim (leads (rest ++ top)) [
  | inl same ↦ elim (known rest out) [ inl found ↦ inl (same ∙ found) | inr gone ↦ inr (same ∙ gone) ]
  | inr gone ↦ inr gone
]

pub unworked_below : (marks : Marks) (log : CallLog) (top rest : Route) → IsUnworked marks log top → IsUnworked marks log (rest ++ top)
unworked_below marks log top rest known more out =
    let e = append_assoc more rest top in
    subst (λ (p : Route). (find (current log) p ≡ marks.was p) ⊎ (find (current log) p ≡ None)) e (known (more ++ rest) (subst (λ (p : Route). marks.aside p ≡ false) (sym e) out))

pub unworked_law : UnworkedLaw
unworked_law = record {
  below = unworked_below;
  removed = λ marks log top up m f i guarded stands known. unworked_still marks log (with_change log (Removes f m i)) top (removed_paths marks log up m f i guarded stands) known;
  unnamed = λ marks log c top none known. unworked_still marks log (with_change log c) top (λ p. inl (same_quiet log c none p)) known;
  remarked = λ old new log top same known rest out. elim (same (rest ++ top) out) [
    | inl found ↦ inl found
    | inr (inl gone) ↦ inr gone
    | inr (inr was) ↦ elim (known rest was.0) [ inl found ↦ inl (found ∙ sym was.1) | inr gone ↦ inr gone ]
  ];
}
