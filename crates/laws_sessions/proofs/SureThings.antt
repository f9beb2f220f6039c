-- Where a job has given a thing its mode no change of that thing's name waits: none did before, since nothing that stands was dirty then, and no later report of
-- the job names it.
use Rattle.std.proofs.Common.{◌≡◌, Bool, true, false, List, [], ◌∷◌, refl, sym, ◌∙◌, ap, subst, inl, inr, Some, None}
use Rattle.std.specs.Option.{option_map_or}
use Rattle.std.proofs.lemmas.Bool.{false_from_ne_true, true≢false}
use Rattle.mc_text.specs.Routes.{Route, same_path}
use Rattle.tree_trait.specs.Calls.{SetMode as Sets_mode}
use Rattle.tree_trait.specs.Change.{Sets, CallLog, current, found_node}
use Rattle.laws_crash.specs.Guarded.{Marks}
use Rattle.job_answers.specs.declared.replies.Replies.{Replies}
use Rattle.job_reports.specs.Jobs.{ItemOfJob, Sets as Sets_item}
use Rattle.job_reports.specs.declared.report.Ending.{Ending}
use Rattle.job_reports.specs.declared.report.Ending.TheVariants.{Finished, Aborted, Killed, NoMemory}
use Rattle.job_reports.specs.declared.report.Did.{Did}
use Rattle.job_reports.specs.declared.report.Did.TheVariants.{Began, Chunk, Placed, Removed, Made, Set, Kept, Skipped, Cleaned, Barrier, Asked, Merges, Moved, Troubled, Ended}
use Rattle.job_reports.proofs.CallAnswers.{one_done}
use Rattle.session_entries.specs.Named.{begins_change, names}
use Rattle.make_job.specs.declared.new_thing.NewThing.{NewThing}
use Rattle.make_job.specs.declared.new_thing.NewThing.TheVariants as thing
use Rattle.mode_job.specs.Settings.{Setting}
use Rattle.mode_job.specs.Settings as settings
use Rattle.mode_job.specs.SettingSteps.{SettingCalls}
use Rattle.mode_job.specs.ModeSettings as modes
use Rattle.copy_move.specs.declared.run.Course.{Course}
use Rattle.copy_move.specs.declared.run.Course.TheVariants.{GoesOn, Asking, InTrouble, OwedSyncFailed, Skips, Ends}
use Rattle.copy_move.specs.declared.work.Work.{Work}
use Rattle.copy_move.specs.declared.work.Work.TheVariants.{Copy, Delete, Make, Move, SetMode, RemoveEmptied}
use Rattle.copy_move.specs.Jobs.{CallsOn, Running, TellsOn, WorkCalls, WorkTells, WorkWinds, is_fresh}
use Rattle.copy_move.specs.Settling.{NoneOwed}
use Rattle.laws_sessions.specs.Doubt.{name_waits}
use Rattle.laws_sessions.specs.Traces.{IsUnclaimed, WorkLeads}
use Rattle.laws_sessions.proofs.Beginnings.{goes_then}
use Rattle.laws_sessions.proofs.JobKnows.{WorkKnows}
use Rattle.laws_sessions.proofs.Knowing.{IsKnown, HistoryFacts}
use Rattle.laws_sessions.proofs.NameChanges.{WaitsIf}
use Rattle.laws_sessions.proofs.NameRuns.{quiet_waits}
use Rattle.laws_sessions.proofs.Sources.{item_in, making_item}
use Rattle.laws_sessions.proofs.Untouched.{NoneOn, none_waits}
use Rattle.laws_sessions.proofs.WaitsAlone.{alone_calm}

-- no change waits of the name of the thing to which a job gives a mode
abbrev pub IsSureThing : ItemOfJob → CallLog → Type 0
IsSureThing (Sets_item thing mode) log = name_waits log thing ≡ false
IsSureThing item log = Unit {0}

-- the setting of a mode names its thing only where it sets the mode
told_unnamed : (replies : Replies) (s new : Setting) (did : Did) (path : Route) → settings.Tells replies s did new → (begins_change did ≡ true → ⊥) → names did path ≡ false
told_unnamed replies s new (Set thing) path t none = absurd (none refl)
told_unnamed replies s new Barrier path t none = refl
told_unnamed replies s new (Troubled trouble) path t none = refl
told_unnamed replies s new (Ended Finished part) path (is_done, part_is, new_is) none = ap (λ o. option_map_or (same_path path) o false) part_is
told_unnamed replies s new (Skipped skipped why) path t none = refl
told_unnamed replies s new did path t none = absurd t

wound_unnamed : (ending : Ending) (s new : Setting) (did : Did) (path : Route) → modes.Winds ending s did new → names did path ≡ false
wound_unnamed ending s new Barrier path t = refl
wound_unnamed ending s new (Ended how part) path (clean, how_is, part_is, new_is) = ap (λ o. option_map_or (same_path path) o false) part_is
wound_unnamed ending s new did path t = absurd t

work_unnamed : (replies : Replies) (s : Setting) (work : Work) (did : Did) (path : Route) → WorkTells replies (SetMode s) did work → (begins_change did ≡ true → ⊥) → names did path ≡ false
work_unnamed replies s (SetMode new) did path t none = told_unnamed replies s new did path t none
work_unnamed replies s work did path t none = absurd t

wind_unnamed : (ending : Ending) (s : Setting) (work : Work) (did : Did) (path : Route) → WorkWinds ending (SetMode s) did work → names did path ≡ false
wind_unnamed ending s (SetMode new) did path t = wound_unnamed ending s new did path t
wind_unnamed ending s work did path t = absurd t

unnamed_on : (job new : Running) (did : Did) (s : Setting) (course : Course) (path : Route) → job.work ≡ SetMode s → TellsOn course job did new → (begins_change did ≡ true → ⊥) → names did path ≡ false
unnamed_on job new did s GoesOn path is (work, tells, new_is) none = work_unnamed job.replies s work did path (subst (λ w. WorkTells job.replies w did work) is tells) none
unnamed_on job new did s (InTrouble halt) path is t none = absurd t
unnamed_on job new did s (OwedSyncFailed why) path is t none = absurd t
unnamed_on job new did s Asking path is t none = absurd t
unnamed_on job new did s (Skips why) path is (inl (skipped, work, did_is, passes, new_is)) none = ap (λ d. names d path) did_is
unnamed_on job new did s (Skips why) path is (inr (apart, did_is, new_is)) none = ap (λ d. names d path) did_is
unnamed_on job new did s (Ends ending) path is (work, winds, new_is) none = wind_unnamed ending s work did path (subst (λ w. WorkWinds ending w did work) is winds)

-- where a mode is given nothing waits
set_sure : (told : HistoryFacts) (dirty : List Route) (marks : Marks) (log now : CallLog) (s new : Setting) (path : Route) → IsKnown told dirty marks log → NoneOwed (current log) (SetMode s) dirty → SettingCalls s (Set path) log (Some now) → name_waits now s.path ≡ false
set_sure told dirty marks log now s new path known none calls = by s.path
  where
    on : (up : Route) → NoneOn (current log) up dirty
    on up kept among = elim (none kept among) [ inl gone ↦ inl gone | inr apart ↦ absurd (true≢false apart.0) ]

    by : (q : Route) → name_waits now q ≡ false
    by [] = refl
    by (name ∷ up) =
        let d = one_done log (Sets_mode s.path s.mode) now calls in
        let before : WaitsIf name up log ⊥ = (λ waits. true≢false (sym waits ∙ none_waits told dirty marks log up known (on up) name), alone_calm log (name ∷ up) (none_waits told dirty marks log up known (on up) name)) in
        let after = quiet_waits name up ⊥ log (Sets (found_node (current log) s.path) s.mode) known.guarded.tree (λ n g m. refl) before in
        subst (λ (l : CallLog). name_waits l (name ∷ up) ≡ false) (sym d.is) (false_from_ne_true _ after.0)

set_then : (replies : Replies) (told : HistoryFacts) (dirty : List Route) (marks : Marks) (log now : CallLog) (s : Setting) (work : Work) (did : Did) → IsKnown told dirty marks log → (settings.is_fresh s.stage ≡ true → NoneOwed (current log) (SetMode s) dirty) → WorkTells replies (SetMode s) did work
    → SettingCalls s did log (Some now) → begins_change did ≡ true → name_waits now s.path ≡ false
set_then replies told dirty marks log now s (SetMode new) (Set path) known owed t calls h = set_sure told dirty marks log now s new path known (owed (ap settings.is_fresh t.0)) calls
set_then replies told dirty marks log now s (SetMode new) (Began part) known owed t calls h = absurd t
set_then replies told dirty marks log now s (SetMode new) (Removed path) known owed t calls h = absurd t
set_then replies told dirty marks log now s (SetMode new) (Made path) known owed t calls h = absurd t
set_then replies told dirty marks log now s (SetMode new) (Moved pair) known owed t calls h = absurd t
set_then replies told dirty marks log now s (SetMode new) (Chunk count) known owed t calls h = absurd (true≢false (sym h))
set_then replies told dirty marks log now s (SetMode new) (Placed path) known owed t calls h = absurd (true≢false (sym h))
set_then replies told dirty marks log now s (SetMode new) (Kept kept) known owed t calls h = absurd (true≢false (sym h))
set_then replies told dirty marks log now s (SetMode new) (Asked question) known owed t calls h = absurd (true≢false (sym h))
set_then replies told dirty marks log now s (SetMode new) (Merges transfer pair within) known owed t calls h = absurd (true≢false (sym h))
set_then replies told dirty marks log now s (SetMode new) (Skipped path why) known owed t calls h = absurd (true≢false (sym h))
set_then replies told dirty marks log now s (SetMode new) (Cleaned part) known owed t calls h = absurd (true≢false (sym h))
set_then replies told dirty marks log now s (SetMode new) Barrier known owed t calls h = absurd (true≢false (sym h))
set_then replies told dirty marks log now s (SetMode new) (Troubled trouble) known owed t calls h = absurd (true≢false (sym h))
set_then replies told dirty marks log now s (SetMode new) (Ended ending part) known owed t calls h = absurd (true≢false (sym h))
set_then replies told dirty marks log now s work did known owed t calls h = absurd t

module _ (told : HistoryFacts) (dirty dirty_after : List Route) (marks : Marks) (log now : CallLog) (known : IsKnown told dirty marks log) (job new : Running) (did : Did)
    (still : (path : Route) → (told.part ≡ Some path → ⊥) → names did path ≡ false → name_waits log path ≡ false → name_waits now path ≡ false) where
  -- a name that waits for nothing, and isn't named, goes on so
  still_sure : (s : Setting) → told.part ≡ None → names did s.path ≡ false → name_waits log s.path ≡ false → name_waits now s.path ≡ false
  still_sure s none unnamed sure = still s.path (λ is. let f : ⊥ = cc in f) unnamed sure

  making_sure : (new_thing : NewThing) (path : Route) → IsSureThing (making_item new_thing path) now
  making_sure thing.Folder path = tt
  making_sure (thing.Link text) path = tt

  -- after a step of such a job
  pub sure_step : WorkKnows told dirty marks log job.course job.work → WorkLeads job did new dirty dirty_after log now → ((begins_change did ≡ true → ⊥) → IsSureThing (item_in job.work) log) → IsSureThing (item_in job.work) now
  sure_step knows works before = by job.work refl
    where
      set : (s : Setting) → job.work ≡ SetMode s → (b : Bool) → begins_change did ≡ b → name_waits now s.path ≡ false
      set s is true begins =
          let goes = goes_then job new did job.course refl works.tells begins in
          let calls = subst (λ w. WorkCalls IsUnclaimed job.replies w did new.work log (Some now)) is (subst (λ c. CallsOn IsUnclaimed c job did new log (Some now)) goes.0 works.called) in
          set_then job.replies told dirty marks log now s goes.1.0 did known (λ fresh. subst (λ w. NoneOwed (current log) w dirty) is (works.settled goes.0 (ap is_fresh is ∙ fresh))) (subst (λ w. WorkTells job.replies w did goes.1.0) is goes.1.1) calls begins
      set s is false begins =
          let none : begins_change did ≡ true → ⊥ = λ h. true≢false (sym h ∙ begins) in
          let k : WorkKnows told dirty marks log job.course (SetMode s) = subst (λ w. WorkKnows told dirty marks log job.course w) is knows in
          still_sure s k.1 (unnamed_on job new did s job.course s.path is works.tells none) (subst (λ w. IsSureThing (item_in w) log) is (before none))

      by : (work : Work) → job.work ≡ work → IsSureThing (item_in job.work) now
      by (Copy c) is = subst (λ w. IsSureThing (item_in w) now) (sym is) tt
      by (Delete d) is = subst (λ w. IsSureThing (item_in w) now) (sym is) tt
      by (Make m) is = subst (λ w. IsSureThing (item_in w) now) (sym is) (making_sure m.thing m.path)
      by (Move m) is = subst (λ w. IsSureThing (item_in w) now) (sym is) tt
      by (SetMode s) is = subst (λ w. IsSureThing (item_in w) now) (sym is) (set s is (begins_change did) refl)
      by (RemoveEmptied r) is = subst (λ w. IsSureThing (item_in w) now) (sym is) tt

  -- and after a report that names nothing
  pub sure_still : (course : Course) → WorkKnows told dirty marks log course job.work → ((path : Route) → names did path ≡ false) → IsSureThing (item_in job.work) log → IsSureThing (item_in job.work) now
  sure_still course knows unnamed before = by job.work refl
    where
      by : (work : Work) → job.work ≡ work → IsSureThing (item_in job.work) now
      by (Copy c) is = subst (λ w. IsSureThing (item_in w) now) (sym is) tt
      by (Delete d) is = subst (λ w. IsSureThing (item_in w) now) (sym is) tt
      by (Make m) is = subst (λ w. IsSureThing (item_in w) now) (sym is) (making_sure m.thing m.path)
      by (Move m) is = subst (λ w. IsSureThing (item_in w) now) (sym is) tt
      by (SetMode s) is =
          let k : WorkKnows told dirty marks log course (SetMode s) = subst (λ w. WorkKnows told dirty marks log course w) is knows in
          subst (λ w. IsSureThing (item_in w) now) (sym is) (still_sure s k.1 (unnamed s.path) (subst (λ w. IsSureThing (item_in w) log) is before))
      by (RemoveEmptied r) is = subst (λ w. IsSureThing (item_in w) now) (sym is) tt
