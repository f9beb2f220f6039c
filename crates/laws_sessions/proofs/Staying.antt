-- A path of which no change waits for a sync waits for none until an entry names it: each step is asked with what waits before it.
use Rattle.std.proofs.Common.{◌≡◌, ℕ, ◌+◌, ◌≤◌, Bool, true, false, ◌||◌, List, [], ◌∷◌, ◌++◌, length, refl, sym, ◌∙◌, ap, subst, inl, inr, Option, Some, None, arith, append_assoc, append-nil, drop}
use Rattle.std.specs.Prelude.{◌==◌, if◌then◌else◌, map, not}
use Rattle.std.specs.Option.{option_map_or}
use Rattle.std.proofs.lemmas.Bool.{true≢false, both_ways, false_from_ne_true, not-false}
use Rattle.mc_text.specs.Routes.{Route, same_path}
use Rattle.tree_trait.specs.FileSystem.{find}
use Rattle.tree_trait.specs.Shape.{IsTree}
use Rattle.tree_trait.specs.Change.{Change, CallLog, current}
use Rattle.tree_trait.specs.CrashImages.{all_settled, is_clean}
use Rattle.tree_trait.proofs.Visible.{same_path-self, same_path-true}
use Rattle.job_reports.specs.declared.report.Transfer.TheVariants.{ByCopy}
use Rattle.job_reports.specs.Jobs.{ItemOfJob, item_of}
use Rattle.laws_crash.specs.Guarded.{Marks}
use Rattle.job_reports.specs.declared.report.Did.{Did}
use Rattle.job_reports.specs.declared.report.Did.TheVariants.{Began, Chunk, Placed, Removed, Made, Set, Kept, Skipped, Cleaned, Barrier, Asked, Merges, Moved, Troubled, Ended}
use Rattle.job_reports.specs.declared.report.Ending.TheVariants.{Finished}
use Rattle.session_entries.specs.declared.history.Event.{Event}
use Rattle.session_entries.specs.declared.history.Event.TheVariants.{Key, Look, Sought, Order, Step, Next, Closed}
use Rattle.session_entries.specs.declared.history.Event.TheVariants as event
use Rattle.session_entries.specs.declared.history.Entry.{Entry}
use Rattle.copy_move.specs.declared.run.Course.{Course}
use Rattle.copy_move.specs.declared.work.Work.{Work}
use Rattle.copy_move.specs.Jobs.{Running}
use Rattle.laws_sessions.specs.Doubt.{name_waits, node_waits}
use Rattle.session_entries.specs.LiveJobs.{IsLivePart, LiveJob, after_event, after_report, live, live_jobs, part_after, turned_live_job}
use Rattle.laws_sessions.specs.Replayed.{log_prefix}
use Rattle.session_entries.specs.Entries.{IsMoment, calls_in}
use Rattle.session_entries.specs.Named.{IsUnnamedSince, names, names_path}
use Rattle.session_entries.specs.Sources.{first_item}
use Rattle.laws_sessions.specs.Traces.{EventLeads, IsTraced, Stand, StepLeads}
use Rattle.laws_sessions.proofs.Prefixes.{told_of}
use Rattle.laws_sessions.proofs.Going.{only_job}
use Rattle.laws_sessions.proofs.Histories.{IsReached, enters, traced_reached}
use Rattle.laws_sessions.proofs.JobKnows.{WorkKnows, work_said}
use Rattle.laws_sessions.proofs.JobLeads.{sync_leads, work_leads}
use Rattle.laws_sessions.proofs.JobSteps.{gives_up}
use Rattle.laws_sessions.proofs.Knowing.{IsKept, HistoryFacts, waits_there}
use Rattle.laws_sessions.proofs.Moments.{prefix_cut, prefix_is, live_part, log_of, traced_count}
use Rattle.laws_sessions.proofs.MovedPaths.{off_ends}
use Rattle.laws_sessions.proofs.Reports.{JobsKnow}
use Rattle.laws_sessions.proofs.Stepped.{AreMids, StepRan, cut, doubt_by, mid_at, more, said_after}
use Rattle.laws_sessions.proofs.Since.{altered_since, renamed_since, since_first}

-- what a history says, where a change may wait only of the paths of which one waits now, and a mode only where one does
abbrev pub doubting : HistoryFacts → CallLog → HistoryFacts
doubting told log = record told { doubt = λ n. renamed_since n log; written = λ n. altered_since n log; modes = node_waits log }

module _ (told : HistoryFacts) (log : CallLog) where
  pub work_doubting : (dirty : List Route) (marks : Marks) (now : CallLog) (course : Course) (work : Work) → WorkKnows told dirty marks now course work → WorkKnows (doubting told log) dirty marks now course work
  work_doubting dirty marks now course work k = work_said told (doubting told log) refl refl refl refl dirty marks now course work k

  pub kept_doubting : (dirty : List Route) (marks : Marks) → IsKept told dirty marks log → IsKept (doubting told log) dirty marks log
  kept_doubting dirty marks kept = record {
    known = record {
      guarded = kept.known.guarded;
      files = kept.known.files;
      moded = λ i before is unclean.
          let h = kept.known.moded i before is unclean in
          record { path = h.path; leads = h.leads; out = h.out; listed = h.listed; told = waits_there log h.path i h.leads unclean; shown = h.shown };
      calm = kept.known.calm;
      folders = kept.known.folders;
      aside = kept.known.aside;
      left = kept.known.left;
      was_there = kept.known.was_there;
      was_shown = kept.known.was_shown;
      shows = kept.known.shows;
      part = kept.known.part;
      tracked = kept.known.tracked;
      joint = kept.known.joint;
      doubts = λ n p waits. waits;
      written = λ n p i other off at.
          not-false (is_clean i (drop n log.changes)) (sym (ap (λ o. option_map_or (λ j. not (is_clean j (drop n log.changes))) o false) at) ∙ off);
      stand = kept.known.stand;
    };
    aside = kept.aside;
    was = kept.was;
    modes = kept.modes;
    roams = kept.roams;
  }

neither : (a b : Bool) → a ≡ false → b ≡ false → (a || b) ≡ true → ⊥
neither true b a_is b_is h = true≢false a_is
neither false b a_is b_is h = both_ways b b_is h

no_route : (part : Option Route) (path : Route) → (part ≡ Some path → ⊥) → option_map_or (same_path path) part false ≡ false
no_route None path other = refl
no_route (Some part) path other = false_from_ne_true _ (λ same. other (ap (λ q. (let o : Option Route = Some q in o)) (sym (same_path-true path part same))))

untold_facts : (a b : Bool) → a ≡ false → b ≡ false → (a || b) ≡ false
untold_facts a b a_is b_is = false_from_ne_true _ (neither a b a_is b_is)

-- a report that doesn't name a path, which is no part, leaves no change of it
pub unnamed_sure : (did : Did) (part : Option Route) (before : ℕ → Route → Bool) (n : ℕ) (path : Route) → before n path ≡ false → names did path ≡ false → (part ≡ Some path → ⊥) → doubt_by did part before n path ≡ false
unnamed_sure (Began made) part before n path sure unnamed other = untold_facts (before n path) (same_path path made) sure unnamed
unnamed_sure (Placed target) part before n path sure unnamed other =
    untold_facts (before n path || same_path path target) (option_map_or (same_path path) part false) (untold_facts (before n path) (same_path path target) sure unnamed) (no_route part path other)
unnamed_sure (Removed file) part before n path sure unnamed other = untold_facts (before n path) (same_path path file) sure unnamed
unnamed_sure (Cleaned gone) part before n path sure unnamed other = untold_facts (before n path) (same_path path gone) sure unnamed
unnamed_sure (Set changed) part before n path sure unnamed other = untold_facts (before n path) (same_path path changed) sure unnamed
unnamed_sure (Made folder) part before n path sure unnamed other = untold_facts (before n path) (same_path path folder) sure unnamed
unnamed_sure (Moved pair) part before n path sure unnamed other = untold_facts (before n path) (same_path path pair.source || same_path path pair.target) sure (off_ends pair path unnamed)
unnamed_sure did part before n path sure unnamed other = sure

-- from one log to another nothing of a kind waits, before each call and at the end
pub record IsStill (waits : CallLog → Bool) (before now : CallLog) : Type 0 where
  pub made : List Change
  pub now_is : now ≡ more before made
  pub said : HistoryFacts
  pub mids : AreMids said before made
  pub sure : (dirty : List Route) (marks : Marks) (log : CallLog) → IsKept said dirty marks log → waits log ≡ false
  pub after : waits now ≡ false

-- no change of this path's name
abbrev NameStill : Route → CallLog → CallLog → Type 0
NameStill path before now = IsStill (λ log. name_waits log path) before now

-- nor does one where none is said to
pub unsaid : (said : HistoryFacts) (path : Route) → said.doubt 0 path ≡ false → (dirty : List Route) (marks : Marks) (log : CallLog) → IsKept said dirty marks log → name_waits log path ≡ false
unsaid said path sure dirty marks log kept = false_from_ne_true _ (λ waits. both_ways _ sure (kept.known.doubts 0 path (since_first log path ∙ waits)))

still_by : (told : HistoryFacts) (dirty_after : List Route) (before now : CallLog) (did : Did) (work : Work) (knows : Marks → Type 0) (path : Route) → name_waits before path ≡ false → names did path ≡ false
    → (told.part ≡ Some path → ⊥) → StepRan (doubting told before) (said_after now did work (doubting told before)) dirty_after before now knows → NameStill path before now
still_by told dirty_after before now did work knows path sure unnamed other come = record {
  made = come.made;
  now_is = come.now_is;
  said = doubting told before;
  mids = come.mids;
  sure = unsaid (doubting told before) path (since_first before path ∙ sure);
  after = unsaid (said_after now did work (doubting told before)) path (unnamed_sure did told.part (λ n. renamed_since n before) 0 path (since_first before path ∙ sure) unnamed other) dirty_after come.marks now come.kept;
}

module _ (opening : CallLog) (older : List Entry) (was : Stand) (before : CallLog) (r : IsReached opening older was before) (path : Route) (sure : name_waits before path ≡ false) (other : r.part ≡ Some path → ⊥) where
  abbrev told : HistoryFacts
  told = told_of opening before older r.part

  step_still : (dirty_after : List Route) (now : CallLog) (did : Did) (job : Running) (after : Option Running) → was.jobs ≡ job ∷ [] → names did path ≡ false → StepLeads job did after was.dirty dirty_after before now
      → NameStill path before now
  step_still dirty_after now did job after jobs_is unnamed leads = by leads
    where
      kept : IsKept (doubting told before) was.dirty r.marks before
      kept = kept_doubting told before was.dirty r.marks r.kept

      knows : WorkKnows (doubting told before) was.dirty r.marks before job.course job.work
      knows = work_doubting told before was.dirty r.marks before job.course job.work (subst (λ js. JobsKnow told was.dirty r.marks before js) jobs_is r.knows)

      by : StepLeads job did after was.dirty dirty_after before now → NameStill path before now
      by (inl (new, inl works, after_is)) =
          still_by told dirty_after before now did job.work _ path sure unnamed other (work_leads (doubting told before) was.dirty dirty_after r.marks before now kept job new did knows works)
      by (inl (new, inr syncs, after_is)) =
          still_by told dirty_after before now did job.work _ path sure unnamed other (sync_leads (doubting told before) was.dirty dirty_after r.marks before now kept job new did knows syncs)
      by (inr (gives, after_is)) =
          still_by told dirty_after before now did job.work _ path sure unnamed other
          (gives_up (doubting told before) was.dirty dirty_after r.marks before now kept job.work job.course did knows gives.did_is gives.same gives.none)

  none_still : (now : CallLog) → now ≡ before → NameStill path before now
  none_still now same = record {
    made = [];
    now_is = same ∙ ap (log_of before) (sym (append-nil before.changes));
    said = doubting told before;
    mids = tt;
    sure = unsaid (doubting told before) path (since_first before path ∙ sure);
    after = subst (λ (l : CallLog). name_waits l path ≡ false) (sym same) sure;
  }

  pub event_still : (what : Event) (after : Stand) (now : CallLog) → EventLeads was what after before now → names_path what path ≡ false → NameStill path before now
  event_still (Step id did) after now s unnamed = step_still after.dirty now did s.job s.new (only_job id was.jobs s.job told was.dirty r.marks before s.its r.knows).0 unnamed s.leads
  event_still (event.Began id plan background) after now s unnamed = none_still now s.now_is
  event_still (Order id order) after now s unnamed = none_still now s.now_is
  event_still (Next id plan) after now s unnamed =
      step_still after.dirty now (Ended Finished None) s.job None (only_job id was.jobs s.job told was.dirty r.marks before s.its r.knows).0 refl (inl (s.over, inl s.done, refl))
  event_still (Key key time refusals lost) after now s unnamed = none_still now s.now_is
  event_still (Look refusals) after now s unnamed = none_still now s.now_is
  event_still Sought after now s unnamed = none_still now s.now_is
  event_still Closed after now s unnamed = none_still now s.now_is

-- a path that an entry doesn't name is a part only if it was one
part_before : (did : Did) (part : Option Route) (path : Route) → names did path ≡ false → part_after did part ≡ Some path → part ≡ Some path
part_before (Began made) part path unnamed is =
    let same : made ≡ path = cc in absurd (both_ways _ unnamed (subst (λ q. same_path path q ≡ true) (sym same) (same_path-self path)))
part_before (Placed target) part path unnamed is = absurd (let f : ⊥ = cc in f)
part_before (Cleaned gone) part path unnamed is = absurd (let f : ⊥ = cc in f)
part_before did part path unnamed is = is

module _ (path : Route) where
  stepped_part : (b : Bool) (job : LiveJob) (did : Did) (jobs after : List LiveJob) → names did path ≡ false → (IsLivePart after path → IsLivePart jobs path)
      → IsLivePart (if◌then◌else◌ b (record job { part = part_after did job.part } ∷ jobs) (job ∷ after)) path → IsLivePart (job ∷ jobs) path
  stepped_part true job did jobs after unnamed rest (found, inl same, is) = (job, inl refl, part_before did job.part path unnamed (ap (λ (l : LiveJob). l.part) (sym same) ∙ is))
  stepped_part true job did jobs after unnamed rest (found, inr among, is) = (found, inr among, is)
  stepped_part false job did jobs after unnamed rest (found, inl same, is) = (found, inl same, is)
  stepped_part false job did jobs after unnamed rest (found, inr among, is) = let k = rest (found, among, is) in (k.0, inr k.1, k.2)

  ended_part : (b : Bool) (job : LiveJob) (jobs after : List LiveJob) → (IsLivePart after path → IsLivePart jobs path) → IsLivePart (if◌then◌else◌ b jobs (job ∷ after)) path → IsLivePart (job ∷ jobs) path
  ended_part true job jobs after rest (found, among, is) = (found, inr among, is)
  ended_part false job jobs after rest (found, inl same, is) = (found, inl same, is)
  ended_part false job jobs after rest (found, inr among, is) = let k = rest (found, among, is) in (k.0, inr k.1, k.2)

  report_part : (id : ℕ) (did : Did) (jobs : List LiveJob) → names did path ≡ false → IsLivePart (after_report id did jobs) path → IsLivePart jobs path
  report_part id did [] unnamed h = h
  report_part id (Ended ending left) (job ∷ jobs) unnamed h = ended_part (job.id == id) job jobs (after_report id (Ended ending left) jobs) (report_part id (Ended ending left) jobs unnamed) h
  report_part id (Began made) (job ∷ jobs) unnamed h = stepped_part (job.id == id) job (Began made) jobs (after_report id (Began made) jobs) unnamed (report_part id (Began made) jobs unnamed) h
  report_part id (Chunk count) (job ∷ jobs) unnamed h = stepped_part (job.id == id) job (Chunk count) jobs (after_report id (Chunk count) jobs) unnamed (report_part id (Chunk count) jobs unnamed) h
  report_part id (Set path) (job ∷ jobs) unnamed h = stepped_part (job.id == id) job (Set path) jobs (after_report id (Set path) jobs) unnamed (report_part id (Set path) jobs unnamed) h
  report_part id (Placed target) (job ∷ jobs) unnamed h = stepped_part (job.id == id) job (Placed target) jobs (after_report id (Placed target) jobs) unnamed (report_part id (Placed target) jobs unnamed) h
  report_part id (Removed file) (job ∷ jobs) unnamed h = stepped_part (job.id == id) job (Removed file) jobs (after_report id (Removed file) jobs) unnamed (report_part id (Removed file) jobs unnamed) h
  report_part id (Made made) (job ∷ jobs) unnamed h = stepped_part (job.id == id) job (Made made) jobs (after_report id (Made made) jobs) unnamed (report_part id (Made made) jobs unnamed) h
  report_part id (Kept kept) (job ∷ jobs) unnamed h = stepped_part (job.id == id) job (Kept kept) jobs (after_report id (Kept kept) jobs) unnamed (report_part id (Kept kept) jobs unnamed) h
  report_part id (Asked question) (job ∷ jobs) unnamed h = stepped_part (job.id == id) job (Asked question) jobs (after_report id (Asked question) jobs) unnamed (report_part id (Asked question) jobs unnamed) h
  report_part id (Merges transfer pair within) (job ∷ jobs) unnamed h =
      stepped_part (job.id == id) job (Merges ByCopy pair within) jobs (after_report id (Merges ByCopy pair within) jobs) unnamed (report_part id (Merges ByCopy pair within) jobs unnamed) h
  report_part id (Moved pair) (job ∷ jobs) unnamed h =
      stepped_part (job.id == id) job (Moved pair) jobs (after_report id (Moved pair) jobs) unnamed (report_part id (Moved pair) jobs unnamed) h
  report_part id (Skipped file cause) (job ∷ jobs) unnamed h =
      stepped_part (job.id == id) job (Skipped file cause) jobs (after_report id (Skipped file cause) jobs) unnamed (report_part id (Skipped file cause) jobs unnamed) h
  report_part id (Cleaned gone) (job ∷ jobs) unnamed h = stepped_part (job.id == id) job (Cleaned gone) jobs (after_report id (Cleaned gone) jobs) unnamed (report_part id (Cleaned gone) jobs unnamed) h
  report_part id Barrier (job ∷ jobs) unnamed h = stepped_part (job.id == id) job Barrier jobs (after_report id Barrier jobs) unnamed (report_part id Barrier jobs unnamed) h
  report_part id (Troubled trouble) (job ∷ jobs) unnamed h = stepped_part (job.id == id) job (Troubled trouble) jobs (after_report id (Troubled trouble) jobs) unnamed (report_part id (Troubled trouble) jobs unnamed) h

  begun_part : (id : ℕ) (jobs : List LiveJob) (o : Option ItemOfJob) → IsLivePart (option_map_or (λ item. live id item ∷ jobs) o jobs) path → IsLivePart jobs path
  begun_part id jobs None h = h
  begun_part id jobs (Some item) (found, inl same, is) = let e : (let o : Option Route = None in o) ≡ Some path = ap (λ (l : LiveJob). l.part) (sym same) ∙ is in absurd (let f : ⊥ = cc in f)
  begun_part id jobs (Some item) (found, inr among, is) = (found, among, is)

  -- no part of a source stands before it is worked
  turned_among : (id : ℕ) (item : ItemOfJob) (jobs : List LiveJob) → IsLivePart (map (turned_live_job id item) jobs) path → IsLivePart jobs path
  turned_among id item [] h = h
  turned_among id item (job ∷ jobs) (found, inl same, is) = by (job.id == id) (ap (λ (l : LiveJob). l.part) (sym same) ∙ is)
    where
      by : (b : Bool) → (let l : LiveJob = if◌then◌else◌ b (live id item) job in l.part) ≡ Some path → IsLivePart (job ∷ jobs) path
      by true none = absurd (let f : ⊥ = cc in f)
      by false is = (job, inl refl, is)
  turned_among id item (job ∷ jobs) (found, inr among, is) = let k = turned_among id item jobs (found, among, is) in (k.0, inr k.1, k.2)

  turned_part : (id : ℕ) (jobs : List LiveJob) (o : Option ItemOfJob) → IsLivePart (option_map_or (λ item. map (turned_live_job id item) jobs) o jobs) path → IsLivePart jobs path
  turned_part id jobs None h = h
  turned_part id jobs (Some item) h = turned_among id item jobs h

  pub event_part : (what : Event) (jobs : List LiveJob) → names_path what path ≡ false → IsLivePart (after_event what jobs) path → IsLivePart jobs path
  event_part (Step id did) jobs unnamed h = report_part id did jobs unnamed h
  event_part (event.Began id plan background) jobs unnamed h = begun_part id jobs (first_item plan) h
  event_part (Order id order) jobs unnamed h = h
  event_part (Next id plan) jobs unnamed h = turned_part id jobs (item_of plan) h
  event_part (Key key time refusals lost) jobs unnamed h = h
  event_part (Look refusals) jobs unnamed h = h
  event_part Sought jobs unnamed h = h
  event_part Closed jobs unnamed h = h

pub since_longer : (older g : List Entry) (path : Route) → IsUnnamedSince older path g → length older ≤ length g
since_longer older [] path same = let n = ap (λ (xs : List Entry). length xs) same in omega (arith, n)
since_longer older (e ∷ g) path (inl same) = let n = ap (λ (xs : List Entry). length xs) same in omega (arith, n)
since_longer older (e ∷ g) path (inr (unnamed, since)) = let n = since_longer older g path since in omega (arith, n)

module _ (opening : CallLog) (tree : IsTree (current opening)) (settled : all_settled opening.changes ≡ true) (end : CallLog) (older : List Entry) (path : Route) (waits : CallLog → Bool) (Excepted : List Entry → Type 0)
    (step : (e : Entry) (g : List Entry) (was : Stand) (before : CallLog) (after : Stand) (now : CallLog) → IsTraced opening g was before → EventLeads was e.what after before now → names_path e.what path ≡ false
    → waits before ≡ false → (Excepted g → ⊥) → IsStill waits before now) (apart : (e : Entry) (g : List Entry) → names_path e.what path ≡ false → Excepted (e ∷ g) → Excepted g)
    (sure : waits (log_prefix opening (calls_in older) end) ≡ false) (no_part : Excepted older → ⊥) where
  -- after these entries nothing waits, and the path isn't excepted
  abbrev IsSure : List Entry → CallLog → Type 0
  IsSure g now = (waits now ≡ false) × (Excepted g → ⊥)

  at_older : (g : List Entry) (stand : Stand) (now : CallLog) (rest : List Change) → older ≡ g → IsTraced opening g stand now → end ≡ more now rest → IsSure g now
  at_older g stand now rest same traced end_is =
      let n = traced_count opening now g stand traced in
      let calls : calls_in older ≡ calls_in g = ap calls_in same in (
        subst (λ (l : CallLog). waits l ≡ false) (prefix_is opening end (calls_in older) now rest end_is (omega (arith, n, calls))) sure,
        subst (λ x. Excepted x → ⊥) same no_part,
      )

  -- what came before an entry, in the log of the whole
  earlier : (before now : CallLog) (made rest : List Change) → now ≡ more before made → end ≡ more now rest → end ≡ more before (made ++ rest)
  earlier before now made rest now_is end_is = end_is ∙ (ap (λ (l : CallLog). more l rest) now_is ∙ ap (log_of before) (append_assoc before.changes made rest))

  sure_after : (g : List Entry) (stand : Stand) (now : CallLog) (rest : List Change) → IsTraced opening g stand now → end ≡ more now rest → IsUnnamedSince older path g → IsSure g now
  sure_after [] stand now rest traced end_is same = at_older [] stand now rest same traced end_is
  sure_after (e ∷ g) stand now rest traced end_is (inl same) = at_older (e ∷ g) stand now rest same traced end_is
  sure_after (e ∷ g) stand now rest (was, before, traced, f) end_is (inr (unnamed, since)) =
      let r = traced_reached opening tree settled g was before traced in
      let n = enters opening g e.calls was before r e.what f.after now f.leads f.counts in
      let s = sure_after g was before (n.made ++ rest) traced (earlier before now n.made rest n.now_is end_is) since in
      let still = step e g was before f.after now traced f.leads unnamed s.0 s.1 in
      (still.after, λ is. s.1 (apart e g unnamed is))

  -- within an entry
  sure_within : (calls : ℕ) (before now : CallLog) (rest : List Change) → IsStill waits before now → end ≡ more now rest → length before.changes ≤ length opening.changes + calls → length opening.changes + calls ≤ length now.changes
      → waits (log_prefix opening calls end) ≡ false
  sure_within calls before now rest still end_is least most =
      let count : ℕ = length opening.changes + calls in
      let at : log_prefix opening calls end ≡ cut (more before still.made) count = prefix_cut opening end calls now rest end_is most ∙ ap (λ (l : CallLog). cut l count) still.now_is in
      elim (mid_at still.said still.made before count still.mids least (subst (λ (l : CallLog). count ≤ length l.changes) still.now_is most)) [
        | inl whole ↦ subst (λ (l : CallLog). waits l ≡ false) (sym (at ∙ (whole ∙ sym still.now_is))) still.after
        | inr mid ↦ subst (λ (l : CallLog). waits l ≡ false) (sym at) (still.sure mid.0 mid.1 (cut (more before still.made) count) mid.2)
      ]

  pub sure_moment : (newest standing coming : List Entry) (stand : Stand) (calls : ℕ) (now : CallLog) (rest : List Change) → IsTraced opening newest stand now → end ≡ more now rest → IsMoment newest standing coming calls
      → IsUnnamedSince older path standing → IsUnnamedSince older path coming → waits (log_prefix opening calls end) ≡ false
  sure_moment [] standing coming stand calls now rest traced end_is (standing_is, coming_is, calls_is) since later =
      let n = traced_count opening now [] stand traced in
      subst (λ (l : CallLog). waits l ≡ false) (sym (prefix_is opening end calls now rest end_is (omega (arith, n, calls_is))))
      (sure_after [] stand now rest traced end_is (subst (IsUnnamedSince older path) standing_is since)).0
  sure_moment (e ∷ g) standing coming stand calls now rest traced end_is (inl (standing_is, coming_is, calls_is)) since later =
      let n = traced_count opening now (e ∷ g) stand traced in
      subst (λ (l : CallLog). waits l ≡ false) (sym (prefix_is opening end calls now rest end_is (omega (arith, n, calls_is))))
      (sure_after (e ∷ g) stand now rest traced end_is (subst (IsUnnamedSince older path) standing_is since)).0
  sure_moment (e ∷ g) standing coming stand calls now rest (was, before, traced, f) end_is (inr (inl (standing_is, coming_is, least, most))) since later =
      by (subst (IsUnnamedSince older path) coming_is later)
    where
      by : IsUnnamedSince older path (e ∷ g) → waits (log_prefix opening calls end) ≡ false
      by (inl same) =
          let longer = since_longer older g path (subst (IsUnnamedSince older path) standing_is since) in
          let n = ap (λ (xs : List Entry). length xs) same in
          absurd (omega (arith, longer, n))
      by (inr (unnamed, more_since)) =
          let r = traced_reached opening tree settled g was before traced in
          let n = enters opening g e.calls was before r e.what f.after now f.leads f.counts in
          let s = sure_after g was before (n.made ++ rest) traced (earlier before now n.made rest n.now_is end_is) more_since in
          let b = traced_count opening before g was traced in
          let c = f.counts in
          sure_within calls before now rest (step e g was before f.after now traced f.leads unnamed s.0 s.1) end_is (omega (arith, b, least)) (omega (arith, c, most))
  sure_moment (e ∷ g) standing coming stand calls now rest (was, before, traced, f) end_is (inr (inr before_that)) since later =
      let r = traced_reached opening tree settled g was before traced in
      let n = enters opening g e.calls was before r e.what f.after now f.leads f.counts in
      sure_moment g standing coming was calls before (n.made ++ rest) traced (earlier before now n.made rest n.now_is end_is) before_that since later

module _ (opening now : CallLog) (newest older standing coming : List Entry) (stand : Stand) (calls : ℕ) (path : Route) (tree : IsTree (current opening)) (settled : all_settled opening.changes ≡ true) where
  name_step : (e : Entry) (g : List Entry) (was : Stand) (before : CallLog) (after : Stand) (now : CallLog) → IsTraced opening g was before → EventLeads was e.what after before now → names_path e.what path ≡ false
      → name_waits before path ≡ false → (IsLivePart (live_jobs g) path → ⊥) → NameStill path before now
  name_step e g was before after now traced leads unnamed sure no_part =
      let r = traced_reached opening tree settled g was before traced in
      event_still opening g was before r path sure (λ is. no_part (live_part was.jobs (told_of opening before g r.part) was.dirty r.marks before (live_jobs g) path r.knows r.live is)) e.what after now leads unnamed

  pub names_stay : IsTraced opening newest stand now → IsMoment newest standing coming calls → IsUnnamedSince older path standing → IsUnnamedSince older path coming
      → name_waits (log_prefix opening (calls_in older) now) path ≡ false → (IsLivePart (live_jobs older) path → ⊥) → name_waits (log_prefix opening calls now) path ≡ false
  names_stay traced moment since later sure no_part =
      sure_moment opening tree settled now older path (λ l. name_waits l path) (λ g. IsLivePart (live_jobs g) path) name_step (λ e g unnamed is. event_part path e.what (live_jobs g) unnamed is) sure no_part
      newest standing coming stand calls now [] traced (ap (log_of now) (sym (append-nil now.changes))) moment since later
