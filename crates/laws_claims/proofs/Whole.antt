-- The laws whole.
use Rattle.std.proofs.Common.{◌≡◌, ℕ, zero, suc, List, [], ◌∷◌, ◌++◌, refl, sym, ◌∙◌, ap, Option}
use Rattle.mc_text.specs.Routes.{Route}
use Rattle.tree_trait.specs.FileSystem.{Value, View}
use Rattle.laws_claims.specs.Views.{Change, apply}
use Rattle.op_plan.specs.declared.job.Job.{Job}
use Rattle.op_plan.specs.declared.job.Job.TheVariants.{Copy, Move, Delete, MakeFolder, SetMode, MakeLink, Save}
use Rattle.laws_claims.specs.Works.{Part, Work, Did, Plain, deleting, making, setting, linking, saving, plainly, change, does, after_works}
use Rattle.laws_claims.specs.Outcome.{Decisions, decisions_of_works, plain_left, outcome}
use Rattle.laws_claims.specs.Fits.{FitLaw}
use Rattle.laws_claims.proofs.CopyLemmas.{copy_fits}
use Rattle.laws_claims.proofs.MoveLemmas.{move_fits}
use Rattle.laws_claims.proofs.SoundLemmas.{sound_pairs}
use Rattle.laws_claims.proofs.OtherLemmas.{plain_step, plain_start, set_twice}

plain_fits : (job : Job) (plain : Plain) → ((x : Option Value) → plain.new (plain.new x) ≡ plain.new x)
    → ((v : View) (part : Part) (p : Route) → change job v (Did part p) ≡ plainly plain v part p)
    → ((v : View) (d : Decisions) → outcome v job d ≡ plain_left plain v d)
    → (works : List Work) (v : View) → after_works job works v ≡ outcome v job (decisions_of_works works)
plain_fits job plain twice changes leaves [] v = plain_start v plain twice ∙ sym (leaves v (decisions_of_works []))
plain_fits job plain twice changes leaves (Did part p ∷ older) v =
    let old : after_works job older v ≡ plain_left plain v (decisions_of_works older) = plain_fits job plain twice changes leaves older v ∙ leaves v (decisions_of_works older) in
    ap (does job (Did part p)) old
    ∙ (ap (λ (c : Change). apply c (plain_left plain v (decisions_of_works older))) (changes (plain_left plain v (decisions_of_works older)) part p)
    ∙ (plain_step v plain twice part p older ∙ sym (leaves v (decisions_of_works (Did part p ∷ older)))))

pub fit_law : FitLaw
fit_law (Copy pairs) works v sound fits = copy_fits pairs v (sound_pairs pairs sound) works fits
fit_law (Move pairs) works v sound fits = move_fits pairs v (sound_pairs pairs sound) works fits
fit_law (Delete paths) works v sound fits = plain_fits (Delete paths) (deleting paths) (λ x. refl) (λ v part p. refl) (λ v d. refl) works v
fit_law (MakeFolder path) works v sound fits = plain_fits (MakeFolder path) (making path) (λ x. refl) (λ v part p. refl) (λ v d. refl) works v
fit_law (SetMode paths mode) works v sound fits = plain_fits (SetMode paths mode) (setting paths mode) (set_twice mode) (λ v part p. refl) (λ v d. refl) works v
fit_law (MakeLink path text) works v sound fits = plain_fits (MakeLink path text) (linking path text) (λ x. refl) (λ v part p. refl) (λ v d. refl) works v
fit_law (Save path bytes) works v sound fits = plain_fits (Save path bytes) (saving path bytes) (λ x. refl) (λ v part p. refl) (λ v d. refl) works v
