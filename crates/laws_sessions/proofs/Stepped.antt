-- What a step of a job comes to: at each call of it what is known holds, and at its end what the history says then.
use Rattle.std.proofs.Common.{◌≡◌, ◌⊎◌, ℕ, ◌≤◌, Bool, false, not, ◌&&◌, ◌||◌, List, [], ◌∷◌, ◌++◌, length, sym, ◌∙◌, ap, subst, inl, inr, Option, Some, None, arith, take, append_assoc, append-nil, length-append}
use Rattle.std.specs.Option.{option_map_or}
use Rattle.std.proofs.lemmas.Bool.{cases_lt}
use Rattle.std.proofs.Math.Seq.{take-append_seam, take-length}
use Rattle.mc_text.specs.Routes.{Route, same_path}
use Rattle.tree_trait.specs.Change.{Change, CallLog, with_change}
use Rattle.laws_crash.specs.Guarded.{Marks}
use Rattle.job_reports.specs.Jobs.{ItemOfJob, folder_changed}
use Rattle.job_reports.specs.Paths.{folder_of}
use Rattle.job_reports.specs.declared.report.Did.{Did}
use Rattle.job_reports.specs.declared.report.Did.TheVariants.{Began, Chunk, Placed, Removed, Made, Set, Kept, Skipped, Cleaned, Barrier, Asked, Merges, Moved, Troubled, Ended}
use Rattle.copy_move.specs.declared.work.Work.{Work}
use Rattle.session_entries.specs.Moves.{is_of_move}
use Rattle.laws_sessions.specs.Replayed.{earlier_step, replayed_step}
use Rattle.session_entries.specs.Named.{left_by, named_by}
use Rattle.laws_sessions.proofs.Knowing.{HistoryFacts, IsKnown, IsKept, settled_kept, settled_marks}
use Rattle.laws_sessions.proofs.OwnNames.{may_change}
use Rattle.laws_sessions.proofs.Sources.{item_in}

-- the log with these changes more
abbrev pub more : CallLog → List Change → CallLog
more log cs = record log { changes = log.changes ++ cs }

-- the log as it was when so many calls had been made
abbrev pub cut : CallLog → ℕ → CallLog
cut log count = record log { changes = take count log.changes }

-- all this is known at some moment
abbrev pub IsMid : HistoryFacts → CallLog → Type 0
IsMid said log = (dirty : List Route) × (marks : Marks) × IsKept said dirty marks log

-- and before each of these changes
abbrev pub AreMids : HistoryFacts → CallLog → List Change → Type 0
AreMids said log [] = Unit {0}
AreMids said log (c ∷ cs) = IsMid said log × AreMids said (with_change log c) cs

pub more_one : (log : CallLog) (c : Change) (cs : List Change) → more log (c ∷ cs) ≡ more (with_change log c) cs
more_one log c cs = ap (λ xs. (let l : CallLog = record log { changes = xs } in l)) (sym (append_assoc log.changes (c ∷ []) cs))

pub mids_more : (said : HistoryFacts) (log : CallLog) (xs ys : List Change) → AreMids said log xs → AreMids said (more log xs) ys → AreMids said log (xs ++ ys)
mids_more said log [] ys front back = subst (λ (l : CallLog). AreMids said l ys) (ap (λ xs. (let l : CallLog = record log { changes = xs } in l)) (append-nil log.changes)) back
mids_more said log (x ∷ xs) ys front back = (front.0, mids_more said (with_change log x) xs ys front.1 (subst (λ (l : CallLog). AreMids said l ys) (more_one log x xs) back))

-- so at each count of calls
pub mid_at : (said : HistoryFacts) (cs : List Change) (log : CallLog) (count : ℕ) → AreMids said log cs → length log.changes ≤ count → count ≤ length (log.changes ++ cs)
    → (cut (more log cs) count ≡ more log cs) ⊎ IsMid said (cut (more log cs) count)
mid_at said [] log count mids least most =
    let same : count ≡ length (log.changes ++ []) = (let n = length-append log.changes [] in omega (arith, least, most, n)) in
    inl (ap (λ xs. (let l : CallLog = record log { changes = xs } in l)) (ap (λ n. take n (log.changes ++ [])) same ∙ take-length (log.changes ++ [])))
mid_at said (c ∷ cs) log count mids least most = elim (cases_lt (length log.changes) count) [
  | inl later ↦
      let n = length-append log.changes (c ∷ []) in
      let least_on : length (with_change log c).changes ≤ count = omega (arith, later, n) in
      let most_on = subst (λ (l : CallLog). count ≤ length l.changes) (more_one log c cs) most in
      subst (λ (l : CallLog). (cut l count ≡ l) ⊎ IsMid said (cut l count)) (sym (more_one log c cs)) (mid_at said cs (with_change log c) count mids.1 least_on most_on)
  | inr here ↦
      let same : count ≡ length log.changes = omega (arith, least, here) in
      let at : take count (log.changes ++ c ∷ cs) ≡ log.changes = ap (λ n. take n (log.changes ++ c ∷ cs)) same ∙ take-append_seam log.changes (c ∷ cs) in
      inr (subst (λ (l : CallLog). IsMid said l) (sym (ap (λ xs. (let l : CallLog = record log { changes = xs } in l)) at)) mids.0)
]

-- what a history says after a report
abbrev pub part_after : Did → Option Route → Option Route
part_after (Began part) before = Some part
part_after (Placed path) before = None
part_after (Cleaned part) before = None
part_after (Ended ending part) before = None
part_after did before = before

-- of which paths a change may wait then
abbrev pub doubt_by : Did → Option Route → (ℕ → Route → Bool) → ℕ → Route → Bool
doubt_by (Began made) part before = λ n p. before n p || same_path p made
doubt_by (Placed path) part before = λ n p. (before n p || same_path p path) || option_map_or (same_path p) part false
doubt_by (Removed path) part before = λ n p. before n p || same_path p path
doubt_by (Cleaned gone) part before = λ n p. before n p || same_path p gone
doubt_by (Set path) part before = λ n p. before n p || same_path p path
doubt_by (Made path) part before = λ n p. before n p || same_path p path
doubt_by (Moved pair) part before = λ n p. before n p || (same_path p pair.source || same_path p pair.target)
doubt_by did part before = before

-- and where something may have been altered
abbrev pub written_by : Did → (ℕ → Route → Bool) → ℕ → Route → Bool
written_by (Began made) before = λ n p. before n p || same_path p made
written_by (Placed path) before = λ n p. before n p || same_path p path
written_by (Removed path) before = λ n p. before n p || same_path p path
written_by (Cleaned gone) before = λ n p. before n p || same_path p gone
written_by (Set path) before = λ n p. before n p || same_path p path
written_by (Made path) before = λ n p. before n p || same_path p path
written_by (Moved pair) before = λ n p. before n p || is_of_move pair p
written_by (Ended ending (Some part)) before = λ n p. before n p || same_path p part
written_by did before = before

-- the folder of a job's item is on the disk from its first change on, until it is removed or moved, and so is that of each part or thing which a report names; of a
-- move both
abbrev pub folders_by : Did → Route → (Route → Bool) → Route → Bool
folders_by (Began made) folder before = λ p. (same_path p folder || same_path p (folder_of made)) || before p
folders_by (Removed path) folder before = λ p. (same_path p folder || before p) && not (same_path p path)
folders_by (Made path) folder before = λ p. (same_path p folder || same_path p (folder_of path)) || before p
folders_by (Set path) folder before = λ p. (same_path p folder || same_path p (folder_of path)) || before p
folders_by (Moved pair) folder before = λ p. (before p && not (is_of_move pair p)) || (same_path p (folder_of pair.source) || same_path p (folder_of pair.target))
folders_by did folder before = before

-- of which paths a mode may wait then
abbrev pub modes_by : Did → (Route → Bool) → Route → Bool
modes_by (Set path) before = λ p. before p || same_path p path
modes_by did before = before

-- The paths of which a job may change the names are calm from its first change on, until a mode is set there, or they are moved.
abbrev pub calm_by : Did → ItemOfJob → (Route → Bool) → Route → Bool
calm_by (Began made) item before = λ p. may_change item p || before p
calm_by (Removed path) item before = λ p. may_change item p || before p
calm_by (Made path) item before = λ p. may_change item p || before p
calm_by (Set path) item before = λ p. before p && not (same_path p path)
calm_by (Moved pair) item before = λ p. before p && not (is_of_move pair p)
calm_by did item before = before

-- no other job is live that could have named a part
abbrev pub no_other : Route → Bool
no_other path = false

abbrev pub said_after : CallLog → Did → Work → HistoryFacts → HistoryFacts
said_after now did work told = record {
  tree = replayed_step now did (Some (item_in work)) told.tree;
  earlier = earlier_step did told.tree told.earlier;
  named = named_by did no_other told.left told.named;
  left = left_by did told.left;
  part = part_after did told.part;
  doubt = doubt_by did told.part told.doubt;
  written = written_by did told.written;
  folders = folders_by did (folder_changed (item_in work)) told.folders;
  modes = modes_by did told.modes;
  calm = calm_by did (item_in work) told.calm;
}

-- What a step comes to.
pub record StepRan (told after : HistoryFacts) (dirty_after : List Route) (log now : CallLog) (knows : Marks → Type 0) : Type 0 where
  pub made : List Change
  pub now_is : now ≡ more log made
  pub mids : AreMids told log made
  pub marks : Marks
  pub kept : IsKept after dirty_after marks now
  pub known_of : knows marks

-- no call was made
pub comes_none : (told after : HistoryFacts) (dirty_after : List Route) (log now : CallLog) (knows : Marks → Type 0) (marks : Marks) → now ≡ log → IsKept after dirty_after marks log → knows marks
    → StepRan told after dirty_after log now knows
comes_none told after dirty_after log now knows marks is kept known_of = record {
  made = [];
  now_is = is ∙ ap (λ xs. (let l : CallLog = record log { changes = xs } in l)) (sym (append-nil log.changes));
  mids = tt;
  marks = marks;
  kept = subst (λ (l : CallLog). IsKept after dirty_after marks l) (sym is) kept;
  known_of = known_of;
}

-- one call was made
pub comes_one : (told after : HistoryFacts) (dirty dirty_after : List Route) (before marks : Marks) (log now : CallLog) (c : Change) (knows : Marks → Type 0) → IsKept told dirty before log → now ≡ with_change log c
    → IsKnown after dirty_after marks now → knows (settled_marks now marks) → StepRan told after dirty_after log now knows
comes_one told after dirty dirty_after before marks log now c knows kept is known known_of = record {
  made = c ∷ [];
  now_is = is;
  mids = ((dirty, before, kept), tt);
  marks = settled_marks now marks;
  kept = settled_kept after dirty_after marks now known;
  known_of = known_of;
}

-- one step after another
pub comes_then : (told after : HistoryFacts) (dirty dirty_after : List Route) (log mid now : CallLog) (knows knows_then : Marks → Type 0) → StepRan told told dirty log mid knows
    → ((marks : Marks) → IsKept told dirty marks mid → knows marks → StepRan told after dirty_after mid now knows_then) → StepRan told after dirty_after log now knows_then
comes_then told after dirty dirty_after log mid now knows knows_then first next =
    let second = next first.marks first.kept first.known_of in
    record {
      made = first.made ++ second.made;
      now_is = second.now_is ∙ (ap (λ (l : CallLog). more l second.made) first.now_is ∙ ap (λ xs. (let l : CallLog = record log { changes = xs } in l)) (append_assoc log.changes first.made second.made));
      mids = mids_more told log first.made second.made first.mids (subst (λ (l : CallLog). AreMids told l second.made) first.now_is second.mids);
      marks = second.marks;
      kept = second.kept;
      known_of = second.known_of;
    }

-- what follows from what is known
pub comes_map : (told after : HistoryFacts) (dirty_after : List Route) (log now : CallLog) (knows other : Marks → Type 0) → ((marks : Marks) → IsKept after dirty_after marks now → knows marks → other marks)
    → StepRan told after dirty_after log now knows → StepRan told after dirty_after log now other
comes_map told after dirty_after log now knows other map come =
    record { made = come.made; now_is = come.now_is; mids = come.mids; marks = come.marks; kept = come.kept; known_of = map come.marks come.kept come.known_of }
