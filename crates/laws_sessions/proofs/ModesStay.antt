-- A path at which no mode waits for a sync waits for none until an entry names it.
use Rattle.std.proofs.Common.{◌≡◌, ℕ, Bool, true, false, ◌||◌, List, [], ◌∷◌, refl, sym, ◌∙◌, ap, subst, inl, inr, Option, None, append-nil}
use Rattle.std.proofs.lemmas.Bool.{both_ways, false_from_ne_true}
use Rattle.mc_text.specs.Routes.{Route, same_path}
use Rattle.tree_trait.specs.Shape.{IsTree}
use Rattle.tree_trait.specs.Change.{CallLog, current}
use Rattle.tree_trait.specs.CrashImages.{Among, all_settled}
use Rattle.laws_crash.specs.Guarded.{Marks}
use Rattle.job_reports.specs.declared.report.Did.{Did}
use Rattle.job_reports.specs.declared.report.Did.TheVariants.{Began, Chunk, Placed, Removed, Made, Set, Kept, Skipped, Cleaned, Barrier, Asked, Merges, Moved, Troubled, Ended}
use Rattle.job_reports.specs.declared.report.Ending.TheVariants.{Finished}
use Rattle.session_entries.specs.declared.history.Event.{Event}
use Rattle.session_entries.specs.declared.history.Event.TheVariants.{Key, Look, Sought, Order, Step, Next, Closed}
use Rattle.session_entries.specs.declared.history.Event.TheVariants as event
use Rattle.session_entries.specs.declared.history.Entry.{Entry}
use Rattle.session_entries.specs.Entries.{IsMoment, calls_in}
use Rattle.session_entries.specs.Named.{IsUnnamedSince, NamedPart, is_part_of_other, left_parts, live_parts, named_after, named_parts, names, names_path}
use Rattle.copy_move.specs.declared.work.Work.{Work}
use Rattle.copy_move.specs.Jobs.{Running}
use Rattle.laws_sessions.specs.Doubt.{node_waits}
use Rattle.laws_sessions.specs.Replayed.{log_prefix}
use Rattle.laws_sessions.specs.StayingLaw.{StaysLaw}
use Rattle.laws_sessions.specs.Traces.{EventLeads, IsTraced, Stand, StepLeads}
use Rattle.laws_sessions.proofs.Going.{only_job}
use Rattle.laws_sessions.proofs.Histories.{IsReached, traced_reached}
use Rattle.laws_sessions.proofs.JobKnows.{WorkKnows}
use Rattle.laws_sessions.proofs.JobLeads.{sync_leads, work_leads}
use Rattle.laws_sessions.proofs.JobSteps.{gives_up}
use Rattle.laws_sessions.proofs.Knowing.{IsKept, HistoryFacts, mode_waits}
use Rattle.laws_sessions.proofs.Moments.{log_of}
use Rattle.laws_sessions.proofs.Prefixes.{told_of}
use Rattle.laws_sessions.proofs.Reports.{JobsKnow}
use Rattle.laws_sessions.proofs.Staying.{IsStill, doubting, kept_doubting, names_stay, sure_moment, work_doubting}
use Rattle.laws_sessions.proofs.Stepped.{StepRan, modes_by, no_other, said_after}
use Rattle.laws_sessions.proofs.Unnamed.{named_step}

abbrev ModeStill : Route → CallLog → CallLog → Type 0
ModeStill path before now = IsStill (λ log. node_waits log path) before now

-- none waits of a path of which none is said to, and that was named as no part
unsaid_mode : (said : HistoryFacts) (path : Route) → said.modes path ≡ false → (Among said.named path → ⊥) → (dirty : List Route) (marks : Marks) (log : CallLog) → IsKept said dirty marks log → node_waits log path ≡ false
unsaid_mode said path sure unnamed dirty marks log kept = false_from_ne_true _ (λ waits. both_ways _ sure (mode_waits said dirty marks log kept.known path (out (marks.aside path) refl) waits).1)
  where
    out : (b : Bool) → marks.aside path ≡ b → marks.aside path ≡ false
    out false is = is
    out true is = absurd (unnamed (kept.known.aside path is))

-- a report that doesn't name a path sets no mode of it
unset : (did : Did) (before : Route → Bool) (path : Route) → before path ≡ false → names did path ≡ false → modes_by did before path ≡ false
unset (Set changed) before path sure unnamed = ap (λ b. b || same_path path changed) sure ∙ unnamed
unset did before path sure unnamed = sure

module _ (opening : CallLog) (older : List Entry) (was : Stand) (before : CallLog) (r : IsReached opening older was before) (path : Route) (sure : node_waits before path ≡ false)
    (other : Among (named_parts older) path → ⊥) where
  abbrev told : HistoryFacts
  told = told_of opening before older r.part

  still_by : (dirty_after : List Route) (now : CallLog) (did : Did) (work : Work) (knows : Marks → Type 0) → names did path ≡ false
      → StepRan (doubting told before) (said_after now did work (doubting told before)) dirty_after before now knows → ModeStill path before now
  still_by dirty_after now did work knows unnamed come = record {
    made = come.made;
    now_is = come.now_is;
    said = doubting told before;
    mids = come.mids;
    sure = unsaid_mode (doubting told before) path sure other;
    after = unsaid_mode (said_after now did work (doubting told before)) path (unset did (node_waits before) path sure unnamed) (λ among. other (named_step did no_other (left_parts older) (named_parts older) path unnamed among)) dirty_after come.marks now come.kept;
  }

  step_still : (dirty_after : List Route) (now : CallLog) (did : Did) (job : Running) (after : Option Running) → was.jobs ≡ job ∷ [] → names did path ≡ false → StepLeads job did after was.dirty dirty_after before now
      → ModeStill path before now
  step_still dirty_after now did job after jobs_is unnamed leads = by leads
    where
      kept : IsKept (doubting told before) was.dirty r.marks before
      kept = kept_doubting told before was.dirty r.marks r.kept

      knows : WorkKnows (doubting told before) was.dirty r.marks before job.course job.work
      knows = work_doubting told before was.dirty r.marks before job.course job.work (subst (λ js. JobsKnow told was.dirty r.marks before js) jobs_is r.knows)

      by : StepLeads job did after was.dirty dirty_after before now → ModeStill path before now
      by (inl (new, inl works, after_is)) = still_by dirty_after now did job.work _ unnamed (work_leads (doubting told before) was.dirty dirty_after r.marks before now kept job new did knows works)
      by (inl (new, inr syncs, after_is)) = still_by dirty_after now did job.work _ unnamed (sync_leads (doubting told before) was.dirty dirty_after r.marks before now kept job new did knows syncs)
      by (inr (gives, after_is)) =
          still_by dirty_after now did job.work _ unnamed (gives_up (doubting told before) was.dirty dirty_after r.marks before now kept job.work job.course did knows gives.did_is gives.same gives.none)

  none_still : (now : CallLog) → now ≡ before → ModeStill path before now
  none_still now same = record {
    made = [];
    now_is = same ∙ ap (log_of before) (sym (append-nil before.changes));
    said = doubting told before;
    mids = tt;
    sure = unsaid_mode (doubting told before) path sure other;
    after = subst (λ (l : CallLog). node_waits l path ≡ false) (sym same) sure;
  }

  pub event_still : (what : Event) (after : Stand) (now : CallLog) → EventLeads was what after before now → names_path what path ≡ false → ModeStill path before now
  event_still (Step id did) after now s unnamed = step_still after.dirty now did s.job s.new (only_job id was.jobs s.job told was.dirty r.marks before s.its r.knows).0 unnamed s.leads
  event_still (event.Began id plan background) after now s unnamed = none_still now s.now_is
  event_still (Order id order) after now s unnamed = none_still now s.now_is
  event_still (Next id plan) after now s unnamed =
      step_still after.dirty now (Ended Finished None) s.job None (only_job id was.jobs s.job told was.dirty r.marks before s.its r.knows).0 refl (inl (s.over, inl s.done, refl))
  event_still (Key key time refusals lost) after now s unnamed = none_still now s.now_is
  event_still (Look refusals) after now s unnamed = none_still now s.now_is
  event_still Sought after now s unnamed = none_still now s.now_is
  event_still Closed after now s unnamed = none_still now s.now_is

-- what an entry doesn't name is a named part only if it was one
pub named_before : (what : Event) (live : List NamedPart) (left parts : List Route) (path : Route) → names_path what path ≡ false → Among (named_after what live left parts) path → Among parts path
named_before (Step id did) live left parts path unnamed among = named_step did (is_part_of_other id live) left parts path unnamed among
named_before (event.Began id plan background) live left parts path unnamed among = among
named_before (Order id order) live left parts path unnamed among = among
named_before (Next id plan) live left parts path unnamed among = among
named_before (Key key time refusals lost) live left parts path unnamed among = among
named_before (Look refusals) live left parts path unnamed among = among
named_before Sought live left parts path unnamed among = among
named_before Closed live left parts path unnamed among = among

modes_stay : (opening now : CallLog) (newest older standing coming : List Entry) (stand : Stand) (calls : ℕ) (path : Route) → IsTree (current opening) → all_settled opening.changes ≡ true → IsTraced opening newest stand now
    → IsMoment newest standing coming calls → IsUnnamedSince older path standing → IsUnnamedSince older path coming → node_waits (log_prefix opening (calls_in older) now) path ≡ false → (Among (named_parts older) path → ⊥)
    → node_waits (log_prefix opening calls now) path ≡ false
modes_stay opening now newest older standing coming stand calls path tree settled traced moment since later sure other =
    sure_moment opening tree settled now older path (λ l. node_waits l path) (λ g. Among (named_parts g) path)
    (λ e g was before after mid before_is leads unnamed calm none. event_still opening g was before (traced_reached opening tree settled g was before before_is) path calm none e.what after mid leads unnamed)
    (λ e g unnamed among. named_before e.what (live_parts g) (left_parts g) (named_parts g) path unnamed among)
    sure other newest standing coming stand calls now [] traced (ap (log_of now) (sym (append-nil now.changes))) moment since later

pub stays_law : StaysLaw
stays_law = record {
  names = λ opening now newest older standing coming stand calls path tree settled traced moment since later sure no_part.
      names_stay opening now newest older standing coming stand calls path tree settled traced moment since later sure no_part;
  modes = λ opening now newest older standing coming stand calls path tree settled traced moment since later sure other.
      modes_stay opening now newest older standing coming stand calls path tree settled traced moment since later sure other;
}
