-- Works of two jobs change places one by one.
use Rattle.std.proofs.Common.{◌≡◌, Bool, false, List, [], ◌∷◌, refl, sym, ap, ◌∙◌}
use Rattle.tree_trait.specs.FileSystem.{View}
use Rattle.op_plan.specs.declared.job.Job.{Job}
use Rattle.job_claims.specs.Claiming.{claims, clashes}
use Rattle.laws_claims.specs.Works.{Work, does, after_works}
use Rattle.laws_claims.specs.Outcome.{decisions_of_works, outcome}
use Rattle.laws_claims.specs.Commuting.{WorksCommute, OutcomesCommute}
use Rattle.laws_claims.proofs.LocalLemmas.{order_law, work_law}
use Rattle.laws_claims.proofs.Whole.{fit_law}

-- one work of mine and all of theirs
one_past : (mine theirs : Job) (work : Work) (works : List Work) (v : View) → clashes (claims mine) (claims theirs) ≡ false
    → does mine work (after_works theirs works v) ≡ after_works theirs works (does mine work v)
one_past mine theirs work [] v apart = refl
one_past mine theirs work (other ∷ works) v apart =
    order_law (claims mine) (claims theirs) (does mine work) (does theirs other) apart (work_law mine work) (work_law theirs other) (after_works theirs works v)
    ∙ ap (does theirs other) (one_past mine theirs work works v apart)

pub works_commute : WorksCommute
works_commute mine theirs [] their_works v apart = refl
works_commute mine theirs (work ∷ works) their_works v apart =
    ap (does mine work) (works_commute mine theirs works their_works v apart)
    ∙ one_past mine theirs work their_works (after_works mine works v) apart

pub outcomes_commute : OutcomesCommute
outcomes_commute mine theirs my_works their_works v apart my_sound their_sound my_fit their_fit =
    ap (λ (w : View). outcome w mine (decisions_of_works my_works)) (sym (fit_law theirs their_works v their_sound their_fit))
    ∙ (sym (fit_law mine my_works (after_works theirs their_works v) my_sound my_fit)
    ∙ (works_commute mine theirs my_works their_works v apart
    ∙ (ap (after_works theirs their_works) (fit_law mine my_works v my_sound my_fit)
    ∙ fit_law theirs their_works (outcome v mine (decisions_of_works my_works)) their_sound their_fit)))
