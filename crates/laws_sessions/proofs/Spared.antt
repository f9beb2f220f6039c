-- What an entry does that names no path which meets those of a move: none of its calls goes through a name at one of them, above or below, nor alters what stands there.
use Rattle.std.proofs.Common.{◌≡◌, ◌⊎◌, ℕ, ◌≤◌, Bool, true, false, ◌||◌, List, [], ◌∷◌, ◌++◌, length, refl, sym, ◌∙◌, ap, subst, inl, inr, Option, Some, None, arith, append_assoc, append-nil, length-append, drop}
use Rattle.std.specs.Prelude.{is_some}
use Rattle.std.specs.Option.{option_map_or}
use Rattle.std.proofs.lemmas.Bool.{both_ways, or_left, or_right, true≢false}
use Rattle.mc_text.specs.Routes.{Route, is_prefix, same_path}
use Rattle.tree_trait.specs.FileSystem.{find}
use Rattle.tree_trait.specs.Shape.{IsTree}
use Rattle.tree_trait.specs.Change.{Change, CallLog, current, with_change}
use Rattle.tree_trait.specs.CrashImages.{alters, says}
use Rattle.tree_trait.proofs.Visible.{same_path-self}
use Rattle.laws_crash.specs.Guarded.{IsUnder, Marks, Touches}
use Rattle.laws_crash.specs.Moved.{Meets}
use Rattle.laws_crash.proofs.Guarding.{find_same}
use Rattle.job_reports.specs.declared.job.Pair.{Pair}
use Rattle.job_reports.specs.declared.report.Did.{Did}
use Rattle.job_reports.specs.declared.report.Did.TheVariants.{Began, Chunk, Placed, Removed, Made, Set, Kept, Skipped, Cleaned, Barrier, Asked, Merges, Moved, Troubled, Ended}
use Rattle.job_reports.specs.declared.report.Ending.TheVariants.{Finished}
use Rattle.session_entries.specs.declared.history.Event.{Event}
use Rattle.session_entries.specs.declared.history.Event.TheVariants.{Key, Look, Sought, Order, Step, Next, Closed}
use Rattle.session_entries.specs.declared.history.Event.TheVariants as event
use Rattle.session_entries.specs.declared.history.Entry.{Entry}
use Rattle.session_entries.specs.Named.{names, names_path}
use Rattle.copy_move.specs.declared.work.Work.{Work}
use Rattle.copy_move.specs.Jobs.{Running}
use Rattle.laws_sessions.specs.Doubt.{is_pending}
use Rattle.laws_sessions.specs.Traces.{EventLeads, Stand, StepLeads}
use Rattle.laws_sessions.specs.Whole.{meets}
use Rattle.laws_sessions.proofs.Going.{only_job}
use Rattle.laws_sessions.proofs.Histories.{IsReached}
use Rattle.laws_sessions.proofs.JobKnows.{WorkKnows}
use Rattle.laws_sessions.proofs.JobLeads.{sync_leads, work_leads}
use Rattle.laws_sessions.proofs.JobSteps.{gives_up}
use Rattle.laws_sessions.proofs.Knowing.{HistoryFacts, IsKept}
use Rattle.laws_sessions.proofs.Moments.{log_of}
use Rattle.laws_sessions.proofs.PathsBelow.{is_below}
use Rattle.laws_sessions.proofs.Pending.{says_at}
use Rattle.laws_sessions.proofs.Prefixes.{told_of}
use Rattle.laws_sessions.proofs.Reports.{JobsKnow}
use Rattle.laws_sessions.proofs.Since.{altered_since, none_altered, none_renamed, pending_last, renamed_since, unaltered_last}
use Rattle.laws_sessions.proofs.Staying.{doubting, kept_doubting, unnamed_sure, work_doubting}
use Rattle.laws_sessions.proofs.Stepped.{AreMids, StepRan, more, more_one, part_after, said_after, written_by}

-- the path meets that of the source or that of the target
abbrev pub IsOn : Pair → Route → Type 0
IsOn pair path = Meets pair.source path ⊎ Meets pair.target path

so_meets : (top path : Route) → Meets top path → meets top path ≡ true
so_meets top path (inl (rest, is)) = or_left _ _ (ap (is_prefix top) is ∙ is_below top rest)
so_meets top path (inr (rest, is)) = or_right _ _ (ap (is_prefix path) is ∙ is_below path rest)

pub on_meets : (pair : Pair) (path : Route) → IsOn pair path → (meets pair.source path || meets pair.target path) ≡ true
on_meets pair path (inl source) = or_left _ _ (so_meets pair.source path source)
on_meets pair path (inr target) = or_right _ _ (so_meets pair.target path target)

-- so does the folder that holds it
meets_up : (top : Route) (name : List ℕ) (up : Route) → Meets top (name ∷ up) → Meets top up
meets_up top name up (inl ([], is)) = inr (name ∷ [], sym is)
meets_up top name up (inl (other ∷ rest, is)) = inl (rest, (let same : up ≡ rest ++ top = cc in same))
meets_up top name up (inr (rest, is)) = inr (rest ++ name ∷ [], is ∙ sym (append_assoc rest (name ∷ []) up))

on_up : (pair : Pair) (name : List ℕ) (up : Route) → IsOn pair (name ∷ up) → IsOn pair up
on_up pair name up (inl source) = inl (meets_up pair.source name up source)
on_up pair name up (inr target) = inr (meets_up pair.target name up target)

-- A call that changes no name at such a path, and alters nothing that stands at one.
pub record IsOff (pair : Pair) (log : CallLog) (c : Change) : Type 0 where
  pub tree : IsTree (current log)
  pub names : (name : List ℕ) (up : Route) (f : ℕ) → IsOn pair (name ∷ up) → find (current (with_change log c)) up ≡ Some f → is_some (says c 0 f name) ≡ true → ⊥
  pub nodes : (path : Route) (i : ℕ) → IsOn pair path → find (current (with_change log c)) path ≡ Some i → alters i c ≡ false

abbrev pub AreOff : Pair → CallLog → List Change → Type 0
AreOff pair log [] = Unit {0}
AreOff pair log (c ∷ cs) = IsOff pair log c × AreOff pair (with_change log c) cs

module _ (pair : Pair) (log : CallLog) (c : Change) (off : IsOff pair log c) where
  touched : (name : List ℕ) (up : Route) → IsOn pair (name ∷ up) → (IsUnder log c up → ⊥) → Touches log c (find (current log) up) name → ⊥
  touched name up on none touches = by (find (current log) up) refl touches
    where
      found : find (current (with_change log c)) up ≡ find (current log) up
      found = elim (find_same log c up) [ inl same ↦ same | inr under ↦ absurd (none under) ]

      by : (o : Option ℕ) → find (current log) up ≡ o → Touches log c o name → ⊥
      by None is h = h
      by (Some g) is h = off.names name up g on (found ∙ is) (says_at c (length (current log).nodes) g name ∙ h)

  -- so it goes through no such path
  pub off_spares : (path : Route) → IsOn pair path → IsUnder log c path → ⊥
  off_spares [] on under = under
  off_spares (name ∷ up) on (inl under) = off_spares up (on_up pair name up on) under
  off_spares (name ∷ up) on (inr touches) = touched name up on (off_spares up (on_up pair name up on)) touches

both_off : (a b : Bool) → a ≡ false → b ≡ false → (a || b) ≡ false
both_off true b a_is b_is = absurd (true≢false a_is)
both_off false b a_is b_is = b_is

-- a report that doesn't name a path alters nothing there
unnamed_unwritten : (did : Did) (before : ℕ → Route → Bool) (n : ℕ) (path : Route) → before n path ≡ false → names did path ≡ false → written_by did before n path ≡ false
unnamed_unwritten (Began made) before n path off unnamed = both_off _ _ off unnamed
unnamed_unwritten (Placed target) before n path off unnamed = both_off _ _ off unnamed
unnamed_unwritten (Removed gone) before n path off unnamed = both_off _ _ off unnamed
unnamed_unwritten (Cleaned gone) before n path off unnamed = both_off _ _ off unnamed
unnamed_unwritten (Set changed) before n path off unnamed = both_off _ _ off unnamed
unnamed_unwritten (Made made) before n path off unnamed = both_off _ _ off unnamed
unnamed_unwritten (Moved pair) before n path off unnamed = both_off _ _ off unnamed
unnamed_unwritten (Ended ending (Some part)) before n path off unnamed = both_off _ _ off unnamed
unnamed_unwritten (Ended ending None) before n path off unnamed = off
unnamed_unwritten did before n path off unnamed = off

-- nor is it a part then that was none
part_before : (did : Did) (part : Option Route) (path : Route) → names did path ≡ false → part_after did part ≡ Some path → part ≡ Some path
part_before (Began made) part path unnamed is =
    let same : made ≡ path = cc in absurd (both_ways _ unnamed (subst (λ q. same_path path q ≡ true) (sym same) (same_path-self path)))
part_before (Placed target) part path unnamed is = absurd (let f : ⊥ = cc in f)
part_before (Cleaned gone) part path unnamed is = absurd (let f : ⊥ = cc in f)
part_before (Ended ending left) part path unnamed is = absurd (let f : ⊥ = cc in f)
part_before did part path unnamed is = is

-- What is said of no such path: that something was changed there after so many calls, or that it is the part.
abbrev Says : Pair → ℕ → HistoryFacts → Type 0
Says pair n said = (path : Route) → IsOn pair path → (said.doubt n path ≡ false) × (said.written n path ≡ false) × (said.part ≡ Some path → ⊥)

off_by : (pair : Pair) (n : ℕ) (said : HistoryFacts) (dirty : List Route) (marks : Marks) (log : CallLog) (c : Change) → IsTree (current log) → n ≤ length log.changes → IsKept said dirty marks (with_change log c) → Says pair n said
    → IsOff pair log c
off_by pair n said dirty marks log c tree few kept none = record {
  tree = tree;
  names = λ name up f on at says_so.
      both_ways _ (none (name ∷ up) on).0
      (kept.known.doubts n (name ∷ up) (ap (λ o. option_map_or (λ g. is_pending g name (drop n (log.changes ++ c ∷ []))) o false) at ∙ pending_last n f name log.changes c few says_so));
  nodes = λ path i on at. unaltered_last n i log.changes c few (kept.known.written n path i (none path on).2 (none path on).1 at);
}

are_off : (pair : Pair) (n : ℕ) (said after : HistoryFacts) (dirty : List Route) (marks : Marks) → Says pair n said → Says pair n after → (made : List Change) (log : CallLog) → n ≤ length log.changes → AreMids said log made
    → IsKept after dirty marks (more log made) → AreOff pair log made
are_off pair n said after dirty marks none none_then [] log few mids kept = tt
are_off pair n said after dirty marks none none_then (c ∷ []) log few (mid, last) kept = (off_by pair n after dirty marks log c (let k = mid.2 in k.known.guarded.tree) few kept none_then, tt)
are_off pair n said after dirty marks none none_then (c ∷ d ∷ cs) log few (mid, (next, later)) kept = (
  off_by pair n said next.0 next.1 log c (let k = mid.2 in k.known.guarded.tree) few next.2 none,
  are_off pair n said after dirty marks none none_then (d ∷ cs) (with_change log c) (let e = length-append log.changes (c ∷ []) in omega (arith, few, e)) (next, later) (subst (IsKept after dirty marks) (more_one log c (d ∷ cs)) kept),
)

-- So are all calls of an entry.
pub record EventOff (pair : Pair) (before now : CallLog) : Type 0 where
  pub made : List Change
  pub now_is : now ≡ more before made
  pub off : AreOff pair before made

module _ (opening : CallLog) (older : List Entry) (was : Stand) (before : CallLog) (r : IsReached opening older was before) (pair : Pair) (no_part : (path : Route) → IsOn pair path → r.part ≡ Some path → ⊥) where
  abbrev told : HistoryFacts
  told = told_of opening before older r.part

  abbrev said : HistoryFacts
  said = doubting told before

  abbrev calls : ℕ
  calls = length before.changes

  none_said : Says pair calls said
  none_said path on = (none_renamed before path, none_altered before path, no_part path on)

  none_after : (now : CallLog) (did : Did) (work : Work) → ((path : Route) → IsOn pair path → names did path ≡ false) → Says pair calls (said_after now did work said)
  none_after now did work unnamed path on = (
    unnamed_sure did r.part (λ n. renamed_since n before) calls path (none_renamed before path) (unnamed path on) (no_part path on),
    unnamed_unwritten did (λ n. altered_since n before) calls path (none_altered before path) (unnamed path on),
    λ is. no_part path on (part_before did r.part path (unnamed path on) is),
  )

  off_ran : (dirty_after : List Route) (now : CallLog) (did : Did) (work : Work) (knows : Marks → Type 0) → ((path : Route) → IsOn pair path → names did path ≡ false) → StepRan said (said_after now did work said) dirty_after before now knows
      → EventOff pair before now
  off_ran dirty_after now did work knows unnamed come = record {
    made = come.made;
    now_is = come.now_is;
    off = are_off pair calls said (said_after now did work said) dirty_after come.marks none_said (none_after now did work unnamed) come.made before (omega arith) come.mids
        (subst (IsKept (said_after now did work said) dirty_after come.marks) come.now_is come.kept);
  }

  step_off : (dirty_after : List Route) (now : CallLog) (did : Did) (job : Running) (after : Option Running) → was.jobs ≡ job ∷ [] → ((path : Route) → IsOn pair path → names did path ≡ false)
      → StepLeads job did after was.dirty dirty_after before now → EventOff pair before now
  step_off dirty_after now did job after jobs_is unnamed leads = by leads
    where
      kept : IsKept said was.dirty r.marks before
      kept = kept_doubting told before was.dirty r.marks r.kept

      knows : WorkKnows said was.dirty r.marks before job.course job.work
      knows = work_doubting told before was.dirty r.marks before job.course job.work (subst (λ js. JobsKnow told was.dirty r.marks before js) jobs_is r.knows)

      by : StepLeads job did after was.dirty dirty_after before now → EventOff pair before now
      by (inl (new, inl works, after_is)) = off_ran dirty_after now did job.work _ unnamed (work_leads said was.dirty dirty_after r.marks before now kept job new did knows works)
      by (inl (new, inr syncs, after_is)) = off_ran dirty_after now did job.work _ unnamed (sync_leads said was.dirty dirty_after r.marks before now kept job new did knows syncs)
      by (inr (gives, after_is)) =
          off_ran dirty_after now did job.work _ unnamed (gives_up said was.dirty dirty_after r.marks before now kept job.work job.course did knows gives.did_is gives.same gives.none)

  none_off : (now : CallLog) → now ≡ before → EventOff pair before now
  none_off now same = record { made = []; now_is = same ∙ ap (log_of before) (sym (append-nil before.changes)); off = tt }

  pub event_off : (what : Event) (after : Stand) (now : CallLog) → EventLeads was what after before now → ((path : Route) → IsOn pair path → names_path what path ≡ false) → EventOff pair before now
  event_off (Step id did) after now s unnamed = step_off after.dirty now did s.job s.new (only_job id was.jobs s.job told was.dirty r.marks before s.its r.knows).0 unnamed s.leads
  event_off (event.Began id plan background) after now s unnamed = none_off now s.now_is
  event_off (Order id order) after now s unnamed = none_off now s.now_is
  event_off (Next id plan) after now s unnamed =
      step_off after.dirty now (Ended Finished None) s.job None (only_job id was.jobs s.job told was.dirty r.marks before s.its r.knows).0 (λ path on. refl) (inl (s.over, inl s.done, refl))
  event_off (Key key time refusals lost) after now s unnamed = none_off now s.now_is
  event_off (Look refusals) after now s unnamed = none_off now s.now_is
  event_off Sought after now s unnamed = none_off now s.now_is
  event_off Closed after now s unnamed = none_off now s.now_is
