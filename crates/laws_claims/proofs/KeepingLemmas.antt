-- A thing that is moved is never lost.
use Rattle.std.proofs.Common.{◌≡◌, Bool, true, false, ◌++◌, refl, ◌∙◌, ap, inl, inr, ◌⊎◌}
use Rattle.mc_text.specs.Routes.{Route}
use Rattle.tree_trait.specs.FileSystem.{Spot, View}
use Rattle.job_reports.specs.declared.job.Pair.{Pair}
use Rattle.laws_claims.specs.Works.{Remove, Place}
use Rattle.laws_claims.specs.Outcome.{Decisions, AtTarget, AtSource, is_carried, moved_spot}
use Rattle.laws_claims.specs.Keeping.{KeptLaw}
use Rattle.laws_claims.proofs.PlaceLemmas.{home, at_target}
use Rattle.laws_claims.proofs.SoundLemmas.{sound_pairs}

kept_by : (v : View) (d : Decisions) (pair : Pair) (rest : Route) (carried removed : Bool) → is_carried v d pair rest ≡ carried → d Remove (rest ++ pair.source) ≡ removed
    → (removed ≡ true → d Place (rest ++ pair.target) ≡ true)
    → ((moved_spot v d (rest ++ pair.source) (AtSource pair rest)).value ≡ (v (rest ++ pair.source)).value)
    ⊎ ((moved_spot v d (rest ++ pair.target) (AtTarget pair rest)).value ≡ (v (rest ++ pair.source)).value)
kept_by v d pair rest true removed is gone placed = inr (rw is refl)
kept_by v d pair rest false true is gone placed = let p = placed refl in inr (rw (is, p) refl)
kept_by v d pair rest false false is gone placed = inl (rw (is, gone) refl)

pub kept_law : KeptLaw
kept_law v pairs d sound placed pair rest at whole =
    let h = home pairs pair (sound_pairs pairs sound) (at_target pairs (rest ++ pair.target) pair rest at).among in
    let s = h.sources rest in
    let k = kept_by v d pair rest (is_carried v d pair rest) (d Remove (rest ++ pair.source)) refl refl (λ r. placed pair rest at r whole) in
    elim k [
      | inl x ↦ inl (ap (λ (o : Spot). o.value) (ap (moved_spot v d (rest ++ pair.source)) s) ∙ x)
      | inr x ↦ inr (ap (λ (o : Spot). o.value) (ap (moved_spot v d (rest ++ pair.target)) at) ∙ x)
    ]
