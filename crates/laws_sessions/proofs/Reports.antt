-- What a report makes of the live jobs, and of what is known of them.
use Rattle.std.proofs.Common.{◌≡◌, ℕ, Bool, true, false, List, [], ◌∷◌, refl, sym, ◌∙◌, ap, subst, Option, Some, None}
use Rattle.std.specs.Prelude.{◌==◌, if◌then◌else◌, is_some, nat_le, not, ◌&&◌}
use Rattle.std.proofs.lemmas.Bool.{false≢true, and_parts, eq-eqb, not-true}
use Rattle.mc_text.specs.Routes.{Route, parent_of, same_path}
use Rattle.tree_trait.specs.Change.{CallLog}
use Rattle.laws_crash.specs.Guarded.{Marks}
use Rattle.job_reports.specs.declared.report.Did.{Did}
use Rattle.job_reports.specs.declared.report.Did.TheVariants.{Began, Chunk, Placed, Removed, Made, Set, Kept, Skipped, Cleaned, Barrier, Asked, Merges, Moved, Troubled, Ended}
use Rattle.job_reports.specs.declared.job.Pair.{Pair}
use Rattle.job_reports.specs.declared.job.Job.{Job}
use Rattle.job_reports.specs.declared.job.Job.TheVariants as plan
use Rattle.job_reports.specs.Jobs.{ItemOfJob, is_link_text}
use Rattle.copy_move.specs.declared.run.Course.TheVariants.{GoesOn}
use Rattle.make_job.specs.declared.new_thing.NewThing.{NewThing}
use Rattle.make_job.specs.declared.new_thing.NewThing.TheVariants as thing
use Rattle.copy_move.specs.declared.work.Work.{Work}
use Rattle.copy_move.specs.Jobs.{Running, first_work}
use Rattle.session_entries.specs.LiveJobs.{LiveJob, after_report, live_item}
use Rattle.laws_sessions.specs.Traces.{before_others, unless_ended, with_job}
use Rattle.laws_sessions.proofs.Knowing.{HistoryFacts}
use Rattle.laws_sessions.proofs.JobKnows.{HasName, KnowsAfter, WorkKnows}
use Rattle.laws_sessions.proofs.Sources.{item_in}
use Rattle.laws_sessions.proofs.Stepped.{part_after}
use Rattle.laws_sessions.proofs.TreeSkipped.{begins_tree}

-- what is known of the live jobs: of none no part stands
abbrev pub JobsKnow : HistoryFacts → List Route → Marks → CallLog → List Running → Type 0
JobsKnow told dirty marks log [] = told.part ≡ None
JobsKnow told dirty marks log (job ∷ []) = WorkKnows told dirty marks log job.course job.work
JobsKnow told dirty marks log (job ∷ other ∷ jobs) = ⊥

-- the history tells of these live jobs
abbrev pub HasLive : List LiveJob → List Running → Option Route → Type 0
HasLive live [] part = live ≡ []
HasLive live (job ∷ []) part = live ≡ (let l : LiveJob = record { id = job.id; item = item_in job.work; part = part } in l) ∷ []
HasLive live (job ∷ other ∷ jobs) part = ⊥

same_id : (id : ℕ) → (id == id) ≡ true
same_id id = eq-eqb id id refl

-- the item that the history tells of a job is that of the live one
pub told_item : (job : Running) (live : List LiveJob) (part : Option Route) (item : ItemOfJob) → HasLive live (job ∷ []) part → live_item job.id live ≡ Some item → item_in job.work ≡ item
told_item job live part item is its =
    let first : Some (item_in job.work) ≡ Some item =
    sym (ap (λ b. if◌then◌else◌ b (Some (item_in job.work)) None) (same_id job.id)) ∙ (sym (ap (live_item job.id) is) ∙ its) in cc

pub with_one : (job : Running) (new : Option Running) → with_job job.id new (job ∷ []) ≡ before_others new []
with_one job new = ap (λ b. if◌then◌else◌ b (before_others new []) (job ∷ [])) (same_id job.id)

module _ (told : HistoryFacts) (dirty : List Route) (marks : Marks) (log : CallLog) (new : Running) where
  -- the jobs after a report
  pub knows_after : (did : Did) → KnowsAfter did told dirty log new.course new.work marks → JobsKnow told dirty marks log (before_others (unless_ended did new) [])
  knows_after (Ended ending part) k = k
  knows_after (Began part) k = k
  knows_after (Chunk count) k = k
  knows_after (Set path) k = k
  knows_after (Placed path) k = k
  knows_after (Removed path) k = k
  knows_after (Made made) k = k
  knows_after (Kept kept) k = k
  knows_after (Asked question) k = k
  knows_after (Merges transfer pair names) k = k
  knows_after (Moved pair) k = k
  knows_after (Skipped path why) k = k
  knows_after (Cleaned part) k = k
  knows_after Barrier k = k
  knows_after (Troubled trouble) k = k

module _ (id : ℕ) (item : ItemOfJob) (part : Option Route) (new : Running) (same : new.id ≡ id) (same_item : item ≡ item_in new.work) where
  abbrev one : List LiveJob
  one = (let l : LiveJob = record { id = id; item = item; part = part } in l) ∷ []

  stays : (later : Option Route) → (live : List LiveJob) → live ≡ (let l : LiveJob = record { id = id; item = item; part = later } in l) ∷ [] → HasLive live (new ∷ []) later
  stays later live is =
      is ∙ (ap (λ n. (let l : LiveJob = record { id = n; item = item; part = later } in l) ∷ []) (sym same)
      ∙ ap (λ i. (let l : LiveJob = record { id = new.id; item = i; part = later } in l) ∷ []) same_item)

  kept_if : (b : Bool) (x y : List LiveJob) → b ≡ true → if◌then◌else◌ b x y ≡ x
  kept_if true x y h = refl
  kept_if false x y h = absurd (false≢true h)

  pub live_after : (did : Did) → HasLive (after_report id did one) (before_others (unless_ended did new) []) (part_after did part)
  live_after (Ended ending left) = kept_if (id == id) _ _ (same_id id)
  live_after (Began p) = stays (Some p) _ (kept_if (id == id) _ _ (same_id id))
  live_after (Chunk count) = stays part _ (kept_if (id == id) _ _ (same_id id))
  live_after (Set path) = stays part _ (kept_if (id == id) _ _ (same_id id))
  live_after (Placed path) = stays None _ (kept_if (id == id) _ _ (same_id id))
  live_after (Removed path) = stays part _ (kept_if (id == id) _ _ (same_id id))
  live_after (Made made) = stays part _ (kept_if (id == id) _ _ (same_id id))
  live_after (Kept kept) = stays part _ (kept_if (id == id) _ _ (same_id id))
  live_after (Asked question) = stays part _ (kept_if (id == id) _ _ (same_id id))
  live_after (Merges transfer pair names) = stays part _ (kept_if (id == id) _ _ (same_id id))
  live_after (Moved pair) = stays part _ (kept_if (id == id) _ _ (same_id id))
  live_after (Skipped path why) = stays part _ (kept_if (id == id) _ _ (same_id id))
  live_after (Cleaned p) = stays None _ (kept_if (id == id) _ _ (same_id id))
  live_after Barrier = stays part _ (kept_if (id == id) _ _ (same_id id))
  live_after (Troubled trouble) = stays part _ (kept_if (id == id) _ _ (same_id id))

has_name : (p : Route) → is_some (parent_of p) ≡ true → HasName p
has_name [] h = absurd (false≢true h)
has_name (name ∷ folder) h = record { name = name; is = refl }

-- the work of a plan knows its target
module _ (told : HistoryFacts) (dirty : List Route) (marks : Marks) (log : CallLog) (none : told.part ≡ None) where
  deletes : (path : Route) (w : Work) (b : Bool) → is_some (parent_of path) ≡ b → (let o : Option Work = if◌then◌else◌ b (Some (Rattle.copy_move.specs.Jobs.deletes path)) None in o) ≡ Some w → WorkKnows told dirty marks log GoesOn w
  deletes path w true has is = subst (λ x. WorkKnows told dirty marks log GoesOn x) (let e : Rattle.copy_move.specs.Jobs.deletes path ≡ w = cc in e) (has_name path has, none, λ e. absurd (let f : ⊥ = cc in f))
  deletes path w false has is = absurd (let f : ⊥ = cc in f)

  makes : (new : NewThing) (path : Route) (w : Work) (b : Bool) → (b ≡ true → is_some (parent_of path) ≡ true) → (let o : Option Work = if◌then◌else◌ b (Some (Rattle.copy_move.specs.Jobs.makes new path)) None in o) ≡ Some w → WorkKnows told dirty marks log GoesOn w
  makes new path w true has is = subst (λ x. WorkKnows told dirty marks log GoesOn x) (let e : Rattle.copy_move.specs.Jobs.makes new path ≡ w = cc in e) (has_name path (has refl), none)
  makes new path w false has is = absurd (let f : ⊥ = cc in f)

  sets : (path : Route) (mode : ℕ) (w : Work) (b : Bool) → (b ≡ true → is_some (parent_of path) ≡ true) → (let o : Option Work = if◌then◌else◌ b (Some (Rattle.copy_move.specs.Jobs.sets path mode)) None in o) ≡ Some w → WorkKnows told dirty marks log GoesOn w
  sets path mode w true has is = subst (λ x. WorkKnows told dirty marks log GoesOn x) (let e : Rattle.copy_move.specs.Jobs.sets path mode ≡ w = cc in e) (has_name path (has refl), none)
  sets path mode w false has is = absurd (let f : ⊥ = cc in f)

  removes : (path : Route) (w : Work) (b : Bool) → is_some (parent_of path) ≡ b → (let o : Option Work = if◌then◌else◌ b (Some (Rattle.copy_move.specs.Jobs.removes_emptied path)) None in o) ≡ Some w → WorkKnows told dirty marks log GoesOn w
  removes path w true has is = subst (λ x. WorkKnows told dirty marks log GoesOn x) (let e : Rattle.copy_move.specs.Jobs.removes_emptied path ≡ w = cc in e) (has_name path has, none)
  removes path w false has is = absurd (let f : ⊥ = cc in f)

  moves : (pair : Pair) (w : Work) (b : Bool) → ((is_some (parent_of pair.source) && is_some (parent_of pair.target)) && not (same_path pair.source pair.target)) ≡ b
      → (let o : Option Work = if◌then◌else◌ b (Some (Rattle.copy_move.specs.Jobs.moves pair)) None in o) ≡ Some w → WorkKnows told dirty marks log GoesOn w
  moves pair w true has is =
      let both = and_parts (is_some (parent_of pair.source) && is_some (parent_of pair.target)) (not (same_path pair.source pair.target)) has in
      let named = and_parts (is_some (parent_of pair.source)) (is_some (parent_of pair.target)) both.0 in
      subst (λ x. WorkKnows told dirty marks log GoesOn x) (let e : Rattle.copy_move.specs.Jobs.moves pair ≡ w = cc in e)
      (record { source = has_name pair.source named.0; target = has_name pair.target named.1; none = none; other = not-true (same_path pair.source pair.target) both.1; moved = λ on is. absurd (false≢true is) })
  moves pair w false has is = absurd (let f : ⊥ = cc in f)

  copies : (id : ℕ) (pair : Pair) (w : Work) (b : Bool) → (is_some (parent_of pair.source) && is_some (parent_of pair.target)) ≡ b
      → (let o : Option Work = if◌then◌else◌ b (Some (Rattle.copy_move.specs.Jobs.copies id pair)) None in o) ≡ Some w → WorkKnows told dirty marks log GoesOn w
  copies id pair w true has is =
      let both = and_parts (is_some (parent_of pair.source)) (is_some (parent_of pair.target)) has in
      subst (λ x. WorkKnows told dirty marks log GoesOn x) (let e : Rattle.copy_move.specs.Jobs.copies id pair ≡ w = cc in e)
      (begins_tree told dirty marks log id pair none both.0 both.1 (has_name pair.target both.1))
  copies id pair w false has is = absurd (let f : ⊥ = cc in f)

  pub first_knows : (id : ℕ) (job : Job) (w : Work) → first_work id job ≡ Some w → WorkKnows told dirty marks log GoesOn w
  first_knows id (plan.Delete []) w is = absurd (let f : ⊥ = cc in f)
  first_knows id (plan.Delete (path ∷ [])) w is = deletes path w (is_some (parent_of path)) refl is
  first_knows id (plan.Delete (path ∷ more ∷ paths)) w is = absurd (let f : ⊥ = cc in f)
  first_knows id (plan.Copy []) w is = absurd (let f : ⊥ = cc in f)
  first_knows id (plan.Copy (pair ∷ [])) w is = copies id pair w (is_some (parent_of pair.source) && is_some (parent_of pair.target)) refl is
  first_knows id (plan.Copy (pair ∷ more ∷ pairs)) w is = absurd (let f : ⊥ = cc in f)
  first_knows id (plan.Move []) w is = absurd (let f : ⊥ = cc in f)
  first_knows id (plan.Move (pair ∷ [])) w is = moves pair w ((is_some (parent_of pair.source) && is_some (parent_of pair.target)) && not (same_path pair.source pair.target)) refl is
  first_knows id (plan.Move (pair ∷ more ∷ pairs)) w is = absurd (let f : ⊥ = cc in f)
  first_knows id (plan.MakeFolder path) w is = makes thing.Folder path w (is_some (parent_of path)) (λ has. has) is
  first_knows id (plan.MakeLink path text) w is = makes (thing.Link text) path w (is_some (parent_of path) && is_link_text text) (λ has. (and_parts _ _ has).0) is
  first_knows id (plan.SetMode [] mode) w is = absurd (let f : ⊥ = cc in f)
  first_knows id (plan.SetMode (path ∷ []) mode) w is = sets path mode w (is_some (parent_of path) && nat_le mode 0o7777) (λ has. (and_parts _ _ has).0) is
  first_knows id (plan.SetMode (path ∷ more ∷ paths) mode) w is = absurd (let f : ⊥ = cc in f)
  first_knows id (plan.RemoveEmptied path) w is = removes path w (is_some (parent_of path)) refl is
