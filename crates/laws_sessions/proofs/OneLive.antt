-- With one job live at a time no path is another's.
use Rattle.std.proofs.Common.{◌≡◌, ℕ, true, false, List, [], ◌∷◌, refl, sym, ◌∙◌, subst, Option, Some, None, if◌then◌else◌}
use Rattle.std.specs.Prelude.{◌==◌, Bool}
use Rattle.std.proofs.lemmas.Bool.{eqb-true}
use Rattle.mc_text.specs.Routes.{Route}
use Rattle.job_reports.specs.Jobs.{ItemOfJob}
use Rattle.session_entries.specs.LiveJobs.{LiveJob, live_item, live_jobs}
use Rattle.copy_move.specs.Jobs.{Running}
use Rattle.laws_sessions.specs.OneLive.{OneLiveLaw}
use Rattle.laws_sessions.proofs.Histories.{traced_reached}
use Rattle.laws_sessions.proofs.Reports.{HasLive}
use Rattle.laws_sessions.proofs.Sources.{item_in}

-- where one job is live, a live one has its number
pub one_id : (job : LiveJob) (id : ℕ) (item : ItemOfJob) → live_item id (job ∷ []) ≡ Some item → job.id ≡ id
one_id job id item its = by (job.id == id) refl its
  where
    by : (b : Bool) → (job.id == id) ≡ b → if◌then◌else◌ b (Some job.item) None ≡ Some item → job.id ≡ id
    by true same h = eqb-true job.id id same
    by false apart h = let no : ⊥ = cc in absurd no

-- two live jobs have the same number
pub one_live : (jobs : List Running) (live : List LiveJob) (part : Option Route) → HasLive live jobs part → (id other : ℕ) (item its : ItemOfJob)
    → live_item id live ≡ Some item → live_item other live ≡ Some its → other ≡ id
one_live [] live part is id other item its mine lives = let no : ⊥ = (let gone : live_item id [] ≡ Some item = subst (λ l. live_item id l ≡ Some item) is mine in cc) in absurd no
one_live (job ∷ []) live part is id other item its mine lives =
    let l : LiveJob = record { id = job.id; item = item_in job.work; part = part } in
    let a : job.id ≡ id = one_id l id item (subst (λ x. live_item id x ≡ Some item) is mine) in
    let b : job.id ≡ other = one_id l other its (subst (λ x. live_item other x ≡ Some its) is lives) in
    sym b ∙ a
one_live (job ∷ more ∷ jobs) live part is id other item its mine lives = absurd is

pub one_live_law : OneLiveLaw
one_live_law opening now newest stand id item path tree settled traced mine o =
    let r = traced_reached opening tree settled newest stand now traced in
    o.apart (one_live stand.jobs (live_jobs newest) r.part r.live id o.other item o.item mine o.lives)
