-- What waits for a sync after a job's first change.
use Rattle.std.proofs.Common.{◌≡◌, ◌⊎◌, Bool, true, false, ◌||◌, List, [], ◌∷◌, refl, sym, ◌∙◌, ap, subst, inl, inr, Option, Some, None}
use Rattle.std.proofs.lemmas.Bool.{both_ways, true≢false}
use Rattle.mc_text.specs.Routes.{Route, same_path}
use Rattle.tree_trait.specs.Shape.{IsTree}
use Rattle.tree_trait.specs.Change.{CallLog, current}
use Rattle.tree_trait.specs.CrashImages.{Among, all_settled}
use Rattle.laws_crash.specs.Guarded.{Marks}
use Rattle.job_reports.specs.declared.job.Pair.{Pair}
use Rattle.job_reports.specs.declared.report.Did.{Did}
use Rattle.job_reports.specs.declared.report.Did.TheVariants.{Began, Chunk, Placed, Removed, Made, Set, Kept, Skipped, Cleaned, Barrier, Asked, Merges, Moved, Troubled, Ended}
use Rattle.job_reports.specs.Paths.{folder_of}
use Rattle.session_entries.specs.declared.history.Event.TheVariants.{Step}
use Rattle.session_entries.specs.declared.history.Entry.{Entry}
use Rattle.copy_move.specs.declared.run.Course.{Course}
use Rattle.copy_move.specs.declared.run.Course.TheVariants.{GoesOn}
use Rattle.copy_tree.specs.Standing.{is_fresh as is_fresh_tree}
use Rattle.copy_job.specs.Standing.{SubtreeCopying}
use Rattle.copy_move.specs.declared.work.Work.{Work}
use Rattle.copy_move.specs.declared.work.Work.TheVariants.{Copy, Delete, Make, Move, SetMode, RemoveEmptied}
use Rattle.copy_move.specs.Settling.{NoneOwed, changed_folder}
use Rattle.laws_sessions.specs.Doubt.{name_waits, node_waits}
use Rattle.laws_sessions.specs.ApartFolders.{IsApart}
use Rattle.laws_sessions.proofs.Prefixes.{told_of}
use Rattle.laws_sessions.proofs.JobKnows.{WorkKnows}
use Rattle.laws_sessions.proofs.JobLeads.{work_leads}
use Rattle.laws_sessions.proofs.Knowing.{IsKept, HistoryFacts, mode_waits}
use Rattle.laws_sessions.proofs.ModesStay.{event_still as mode_still}
use Rattle.laws_sessions.proofs.Owing.{apart_from, owed_apart, owed_modes, owed_names}
use Rattle.laws_sessions.proofs.TreeKnown.{ItemHas, TreeKnown, is_over}
use Rattle.laws_sessions.proofs.Staying.{doubting, event_still, kept_doubting, unsaid, work_doubting}
use Rattle.laws_sessions.proofs.StillParts.{named_more}
use Rattle.laws_sessions.proofs.Stepped.{StepRan, said_after}
use Rattle.copy_move.specs.Jobs.{Running, is_fresh}
use Rattle.session_entries.specs.Named.{is_part_of_other, left_parts, live_parts, named_by, named_parts, names}
use Rattle.laws_sessions.specs.Calmed.{changes_name, changes_thing}
use Rattle.laws_sessions.proofs.Reports.{JobsKnow}
use Rattle.laws_sessions.specs.Owed.{FirstChangeLaw, IsOwed}
use Rattle.laws_sessions.specs.Traces.{IsJob, IsTraced, JobSteps, Stand, WorkLeads, unless_ended, with_job}
use Rattle.laws_sessions.proofs.Histories.{IsReached, traced_reached}
use Rattle.laws_sessions.proofs.Since.{renamed_since, since_first}

-- of a job that has changed nothing no part stands
module _ (told : HistoryFacts) (dirty : List Route) (marks : Marks) (log : CallLog) (course : Course) (going : is_over course ≡ false) where
  pub fresh_none : (work : Work) → is_fresh work ≡ true → WorkKnows told dirty marks log course work → told.part ≡ None
  fresh_none (Copy c) fresh k = of_copy c fresh k
    where
      of_copy : (c : SubtreeCopying) → is_fresh_tree c.at.stage ≡ true → TreeKnown told dirty marks log course c → told.part ≡ None
      of_copy c fresh k =
          let g = k.goes going in
          let s = g.stands in
          let o = s.unbegun fresh in
          subst (λ i. ItemHas told dirty marks (current log) course i) o.none k.part
  fresh_none (Delete d) fresh (name, none, intact) = none
  fresh_none (Make m) fresh (name, none) = none
  fresh_none (Move m) fresh k = k.none
  fresh_none (SetMode s) fresh (name, none) = none
  fresh_none (RemoveEmptied r) fresh (name, none) = none

no_route : (part : Option Route) (path : Route) → part ≡ None → part ≡ Some path → ⊥
no_route part path none some = let f : ⊥ = cc in f

-- what is reported changes what it names, if nothing was moved
record IsAsNamed (did : Did) : Type 0 where
  pub name_is : (path : Route) → changes_name did path ≡ names did path
  pub thing_is : (path : Route) → changes_thing did path ≡ names did path

moves_or_names : (did : Did) → ((pair : Pair) × (did ≡ Moved pair)) ⊎ IsAsNamed did
moves_or_names (Moved pair) = inl (pair, refl)
moves_or_names did = inr (record { name_is = λ q. refl; thing_is = λ q. refl })

neither_is : (a b : Bool) → a ≡ false → b ≡ false → (a || b) ≡ false
neither_is true b sure off = absurd (true≢false sure)
neither_is false b sure off = off

-- a mode that waits, of a path of which none is said to, is that of a part
part_waits : (said : HistoryFacts) (path : Route) → said.modes path ≡ false → (dirty : List Route) (marks : Marks) (log : CallLog) → IsKept said dirty marks log → node_waits log path ≡ true → Among said.named path
part_waits said path sure dirty marks log kept waits = by (marks.aside path) refl
  where
    by : (b : Bool) → marks.aside path ≡ b → Among said.named path
    by true is = kept.known.aside path is
    by false is = absurd (both_ways _ sure (mode_waits said dirty marks log kept.known path is waits).1)

-- Before a job's first change nothing that is owed waits; so after it only what its report changes waits, and what lay apart before.
module _ (opening log now : CallLog) (older : List Entry) (was : Stand) (dirty_after : List Route) (job new : Running) (did : Did) (tree : IsTree (current opening)) (settled : all_settled opening.changes ≡ true)
    (before : IsTraced opening older was log) (jobs_is : was.jobs ≡ job ∷ []) (works : WorkLeads job did new was.dirty dirty_after log now) (goes : job.course ≡ GoesOn) (fresh : is_fresh job.work ≡ true) where
  r : IsReached opening older was log
  r = traced_reached opening tree settled older was log before

  abbrev told : HistoryFacts
  told = told_of opening log older r.part

  knows : WorkKnows told was.dirty r.marks log job.course job.work
  knows = subst (λ js. JobsKnow told was.dirty r.marks log js) jobs_is r.knows

  none_owed : NoneOwed (current log) job.work was.dirty
  none_owed = works.settled goes fresh

  no_part : r.part ≡ None
  no_part = fresh_none told was.dirty r.marks log job.course (ap is_over goes) job.work fresh knows

  -- the paths that other live jobs named as parts
  abbrev others : Route → Bool
  others = is_part_of_other job.id (live_parts older)

  -- as an event
  abbrev after : Stand
  after = record { jobs = with_job job.id (unless_ended did new) was.jobs; dirty = dirty_after }

  steps : JobSteps was job.id did after log now
  steps = record {
    job = job;
    its = subst (λ js. IsJob job.id js job) (sym jobs_is) (inl (refl, refl));
    new = unless_ended did new;
    leads = inl (new, inl works, refl);
    jobs_is = refl;
  }

  -- what is owed lies apart
  apart_folder : (q : Route) → IsOwed was.dirty log q → IsApart log (changed_folder job.work) q
  apart_folder q owed = owed_apart told was.dirty r.marks log job.work q r.kept.known none_owed owed

  -- and so does a dirty path
  apart : (q : Route) → Among was.dirty q → IsApart log (changed_folder job.work) q
  apart q among = apart_from (current log) job.work was.dirty q among none_owed

  -- After the report of a move only its two names wait that didn't before, and of modes only those of parts.
  module _ (pair : Pair) (did_is : did ≡ Moved pair) where
    abbrev doubts : HistoryFacts
    doubts = doubting told log

    come : StepRan doubts (said_after now (Moved pair) job.work doubts) dirty_after log now (λ marks. Unit {0})
    come =
        let c = work_leads doubts was.dirty dirty_after r.marks log now (kept_doubting told log was.dirty r.marks r.kept) job new did (work_doubting told log was.dirty r.marks log job.course job.work knows) works in
        subst (λ d. StepRan doubts (said_after now d job.work doubts) dirty_after log now (λ marks. Unit {0})) did_is
        (record { made = c.made; now_is = c.now_is; mids = c.mids; marks = c.marks; kept = c.kept; known_of = tt })

    moved_names : (path : Route) → name_waits log path ≡ false → (same_path path pair.source || same_path path pair.target) ≡ false → name_waits now path ≡ false
    moved_names path sure off = (let c = come in unsaid _ path (neither_is (renamed_since 0 log path) _ (since_first log path ∙ sure) off) dirty_after c.marks now c.kept)

    moved_modes : (path : Route) → node_waits log path ≡ false → node_waits now path ≡ true → Among (named_by did others (left_parts older) (named_parts older)) path
    moved_modes path sure waits =
        let c = come in
        subst (λ d. Among (named_by d others (left_parts older) (named_parts older)) path) (sym did_is)
        (named_more (Moved pair) others (left_parts older) (named_parts older) path (part_waits _ path sure dirty_after c.marks now c.kept waits))

  pub names_calm : (path : Route) → name_waits now path ≡ true → (changes_name did path ≡ true) ⊎ ((name_waits log path ≡ true) × IsApart log (changed_folder job.work) (folder_of path))
  names_calm path waits = by (name_waits log path) refl
    where
      still : changes_name did path ≡ false → name_waits log path ≡ false → name_waits now path ≡ false
      still off sure = elim (moves_or_names did) [
        | inl m ↦ moved_names m.0 m.1 path sure (sym (ap (λ d. changes_name d path) m.1) ∙ off)
        | inr named ↦ (event_still opening older was log r path sure (no_route r.part path no_part) (Step job.id did) after now steps (sym (named.name_is path) ∙ off)).after
      ]

      of_did : (b : Bool) → changes_name did path ≡ b → name_waits log path ≡ false → (changes_name did path ≡ true) ⊎ ((name_waits log path ≡ true) × IsApart log (changed_folder job.work) (folder_of path))
      of_did true changed sure = inl changed
      of_did false off sure = absurd (both_ways _ (still off sure) waits)

      by : (waited : Bool) → name_waits log path ≡ waited → (changes_name did path ≡ true) ⊎ ((name_waits log path ≡ true) × IsApart log (changed_folder job.work) (folder_of path))
      by true waited = inr (waited, apart_folder (folder_of path) (owed_names opening log older was path tree settled before waited))
      by false sure = of_did (changes_name did path) refl sure

  abbrev ModeThen : Route → Type 0
  ModeThen path = (changes_thing did path ≡ true) ⊎ (Among (named_by did others (left_parts older) (named_parts older)) path ⊎ ((node_waits log path ≡ true) × IsApart log (changed_folder job.work) path))

  pub modes_calm : (path : Route) → (Among (named_parts older) path → ⊥) → node_waits now path ≡ true
      → (changes_thing did path ≡ true)
      ⊎ (Among (named_by did (is_part_of_other job.id (live_parts older)) (left_parts older) (named_parts older)) path ⊎ ((node_waits log path ≡ true) × IsApart log (changed_folder job.work) path))
  modes_calm path unnamed waits = by (node_waits log path) refl
    where
      of_named : IsAsNamed did → node_waits log path ≡ false → (b : Bool) → names did path ≡ b → ModeThen path
      of_named named sure true is = inl (named.thing_is path ∙ is)
      of_named named sure false is = absurd (both_ways _ (mode_still opening older was log r path sure unnamed (Step job.id did) after now steps is).after waits)

      by : (waited : Bool) → node_waits log path ≡ waited → ModeThen path
      by true waited = inr (inr (waited, apart path (owed_modes opening log older was path tree settled before unnamed waited)))
      by false sure = elim (moves_or_names did) [
        | inl m ↦ inr (inl (moved_modes m.0 m.1 path sure waits))
        | inr named ↦ of_named named sure (names did path) refl
      ]

pub first_change_law : FirstChangeLaw
first_change_law = record {
  names = λ opening log now older was dirty job new did path tree settled before jobs_is works goes fresh not_others waits.
      names_calm opening log now older was dirty job new did tree settled before jobs_is works goes fresh path waits;
  modes = λ opening log now older was dirty job new did path tree settled before jobs_is works goes fresh not_others unnamed waits.
      modes_calm opening log now older was dirty job new did tree settled before jobs_is works goes fresh path unnamed waits;
}
