-- A job's first change comes in work that goes on, and from then on the folder that holds what it changes is on the disk.
use Rattle.std.proofs.Common.{◌≡◌, ◌⊎◌, Bool, true, false, not, ◌||◌, List, [], refl, sym, ◌∙◌, ap, subst, inl, inr, Some}
use Rattle.std.proofs.lemmas.Bool.{and_from, both_ways, false≢true, or_left, or_right, true≢false}
use Rattle.mc_text.specs.Routes.{Route, same_path}
use Rattle.tree_trait.specs.Shape.{IsTree}
use Rattle.tree_trait.specs.Change.{CallLog, current}
use Rattle.tree_trait.proofs.Visible.{same_path-self}
use Rattle.job_reports.specs.declared.job.Pair.{Pair}
use Rattle.job_reports.specs.Paths.{folder_of}
use Rattle.job_reports.specs.declared.report.Did.{Did}
use Rattle.job_reports.specs.declared.report.Did.TheVariants.{Began, Chunk, Placed, Removed, Made, Set, Kept, Skipped, Cleaned, Barrier, Asked, Merges, Moved, Troubled, Ended}
use Rattle.job_reports.specs.declared.report.Ending.{Ending}
use Rattle.session_entries.specs.Named.{begins_change}
use Rattle.job_answers.specs.declared.replies.Replies.{Replies}
use Rattle.copy_move.specs.declared.run.Course.{Course}
use Rattle.copy_move.specs.declared.run.Course.TheVariants.{GoesOn, Asking, InTrouble, OwedSyncFailed, Skips, Ends}
use Rattle.copy_move.specs.declared.work.Work.{Work}
use Rattle.copy_move.specs.declared.work.Work.TheVariants.{Copy, Delete, Make, Move, SetMode, RemoveEmptied}
use Rattle.copy_move.specs.Jobs.{CallsOn, Running, TellsOn, WorkCalls, WorkTells, WorkWinds}
use Rattle.copy_move.specs.Settling.{changed_folder}
use Rattle.laws_sessions.specs.Traces.{IsUnclaimed, WorkLeads}
use Rattle.laws_sessions.proofs.Deleted.{folder_removed, removal_done}
use Rattle.laws_sessions.proofs.Intact.{folder_apart, prefix_append}
use Rattle.laws_sessions.proofs.OwnNames.{may_change}
use Rattle.laws_sessions.proofs.Sources.{item_in}
use Rattle.laws_sessions.proofs.Stepped.{calm_by, folders_by}
use Rattle.laws_sessions.proofs.Unchanged.{knows_calm}

-- a change begins only in work that goes on
winds_none : (ending : Ending) (old new : Work) (did : Did) → WorkWinds ending old did new → begins_change did ≡ true → ⊥
winds_none ending (Copy c) (Copy new) (Began part) t h = t.may
winds_none ending (Copy c) (Copy new) (Removed path) t h = t.may
winds_none ending (Copy c) (Copy new) (Made path) t h = t.may
winds_none ending (Copy c) (Copy new) (Set path) t h = t.may
winds_none ending (Copy c) (Copy new) (Moved pair) t h = t.may
winds_none ending (Delete d) (Delete new) (Began part) t h = t
winds_none ending (Make m) (Make new) (Began part) t h = t
winds_none ending (Move m) (Move new) (Began part) t h = t
winds_none ending (SetMode s) (SetMode new) (Began part) t h = t
winds_none ending (RemoveEmptied r) (RemoveEmptied new) (Began part) t h = t
winds_none ending old new (Chunk count) t h = false≢true h
winds_none ending old new (Placed path) t h = false≢true h
winds_none ending old new (Kept kept) t h = false≢true h
winds_none ending old new (Asked question) t h = false≢true h
winds_none ending old new (Merges transfer pair names) t h = false≢true h
winds_none ending old new (Skipped path why) t h = false≢true h
winds_none ending old new (Cleaned part) t h = false≢true h
winds_none ending old new Barrier t h = false≢true h
winds_none ending old new (Troubled trouble) t h = false≢true h
winds_none ending old new (Ended how part) t h = false≢true h
winds_none ending old new did t h = t

pub goes_then : (job new : Running) (did : Did) (course : Course) → job.course ≡ course → TellsOn course job did new → begins_change did ≡ true → (job.course ≡ GoesOn) × ((work : Work) × WorkTells job.replies job.work did work)
goes_then job new did GoesOn is (work, tells, new_is) h = (is, (work, tells))
goes_then job new did (InTrouble halt) is t h = absurd t
goes_then job new did (OwedSyncFailed why) is t h = absurd t
goes_then job new did Asking is t h = absurd t
goes_then job new did (Skips why) is (inl (path, work, did_is, passes, new_is)) h = absurd (false≢true (sym (ap begins_change did_is) ∙ h))
goes_then job new did (Skips why) is (inr (apart, did_is, new_is)) h = absurd (false≢true (sym (ap begins_change did_is) ∙ h))
goes_then job new did (Ends ending) is (work, winds, new_is) h = absurd (winds_none ending job.work work did winds h)

-- what is removed isn't the folder in which a job changes names
stays_by : (replies : Replies) (log now : CallLog) → IsTree (current log) → (old work new : Work) (path : Route) → WorkTells replies old (Removed path) work → WorkCalls IsUnclaimed replies old (Removed path) new log (Some now) → same_path (changed_folder old) path ≡ false
stays_by replies log now tree (Delete d) (Delete work) new path (going, within, at) (inl done) = folder_apart log now d.path path within (removal_done log now path tree done)
stays_by replies log now tree (Delete d) (Delete work) new path (going, within, at) (inr done) = folder_apart log now d.path path within (folder_removed log now path tree done)
stays_by replies log now tree (Make m) (Make work) new path t calls = absurd t
stays_by replies log now tree (Move m) (Move work) new path t calls = absurd t
stays_by replies log now tree (SetMode s) (SetMode work) new path t calls = absurd t
stays_by replies log now tree (Copy c) (Copy work) new path t calls = absurd t.may
stays_by replies log now tree (RemoveEmptied r) (RemoveEmptied work) new path (stage, path_is, new_is) done =
    subst (λ q. same_path (folder_of r.path) q ≡ false) (sym path_is) (folder_apart log now r.path r.path (prefix_append r.path []) (folder_removed log now r.path tree done))
stays_by replies log now tree old work new path t calls = absurd t

-- only a move moves a thing, to a path in its folder
moves_in : (replies : Replies) (old new : Work) (pair : Pair) → WorkTells replies old (Moved pair) new → (knows_calm old ≡ true) × (changed_folder old ≡ folder_of pair.target)
moves_in replies (Move m) (Move new) pair (stage, pair_is, new_is) = (refl, ap (λ (p : Pair). folder_of p.target) (sym pair_is))
moves_in replies (Copy c) (Copy new) pair t = absurd t.may
moves_in replies (Delete d) (Delete new) pair t = absurd t
moves_in replies (Make m) (Make new) pair t = absurd t
moves_in replies (SetMode s) (SetMode new) pair t = absurd t
moves_in replies (RemoveEmptied r) (RemoveEmptied new) pair t = absurd t
moves_in replies old new pair t = absurd t

-- so that is known to be on the disk from its first change on
pub folder_stays : (job new : Running) (did : Did) (dirty dirty_after : List Route) (log now : CallLog) (folders : Route → Bool) → IsTree (current log) → WorkLeads job did new dirty dirty_after log now
    → (folders (changed_folder job.work) ≡ true) ⊎ (begins_change did ≡ true) → folders_by did (changed_folder job.work) folders (changed_folder job.work) ≡ true
folder_stays job new (Removed path) dirty dirty_after log now folders tree works known =
    let goes = goes_then job new (Removed path) job.course refl works.tells refl in
    let off = stays_by job.replies log now tree job.work goes.1.0 new.work path goes.1.1 (subst (λ c. CallsOn IsUnclaimed c job (Removed path) new log (Some now)) goes.0 works.called) in
    and_from (same_path (changed_folder job.work) (changed_folder job.work) || folders (changed_folder job.work)) (not (same_path (changed_folder job.work) path)) (or_left _ _ (same_path-self (changed_folder job.work))) (ap not off)
folder_stays job new (Began part) dirty dirty_after log now folders tree works known = or_left _ _ (or_left _ _ (same_path-self (changed_folder job.work)))
folder_stays job new (Made path) dirty dirty_after log now folders tree works known = or_left _ _ (or_left _ _ (same_path-self (changed_folder job.work)))
folder_stays job new (Chunk count) dirty dirty_after log now folders tree works known = elim known [ inl stands ↦ stands | inr begins ↦ absurd (false≢true begins) ]
folder_stays job new (Set path) dirty dirty_after log now folders tree works known = or_left _ _ (or_left _ _ (same_path-self (changed_folder job.work)))
folder_stays job new (Placed path) dirty dirty_after log now folders tree works known = elim known [ inl stands ↦ stands | inr begins ↦ absurd (false≢true begins) ]
folder_stays job new (Kept path) dirty dirty_after log now folders tree works known = elim known [ inl stands ↦ stands | inr begins ↦ absurd (false≢true begins) ]
folder_stays job new (Asked question) dirty dirty_after log now folders tree works known = elim known [ inl stands ↦ stands | inr begins ↦ absurd (false≢true begins) ]
folder_stays job new (Merges transfer pair names) dirty dirty_after log now folders tree works known = elim known [ inl stands ↦ stands | inr begins ↦ absurd (false≢true begins) ]
folder_stays job new (Moved pair) dirty dirty_after log now folders tree works known =
    let goes = goes_then job new (Moved pair) job.course refl works.tells refl in
    let there = (moves_in job.replies job.work goes.1.0 pair goes.1.1).1 in
    or_right _ _ (or_right _ _ (subst (λ q. same_path q (folder_of pair.target) ≡ true) (sym there) (same_path-self (folder_of pair.target))))
folder_stays job new (Skipped path why) dirty dirty_after log now folders tree works known = elim known [ inl stands ↦ stands | inr begins ↦ absurd (false≢true begins) ]
folder_stays job new (Cleaned part) dirty dirty_after log now folders tree works known = elim known [ inl stands ↦ stands | inr begins ↦ absurd (false≢true begins) ]
folder_stays job new Barrier dirty dirty_after log now folders tree works known = elim known [ inl stands ↦ stands | inr begins ↦ absurd (false≢true begins) ]
folder_stays job new (Troubled trouble) dirty dirty_after log now folders tree works known = elim known [ inl stands ↦ stands | inr begins ↦ absurd (false≢true begins) ]
folder_stays job new (Ended ending part) dirty dirty_after log now folders tree works known = elim known [ inl stands ↦ stands | inr begins ↦ absurd (false≢true begins) ]

-- a job that sets a mode changes no names, but for a copy or a move
sets_none : (replies : Replies) (old new : Work) (path q : Route) → knows_calm old ≡ false → WorkTells replies old (Set path) new → may_change (item_in old) q ≡ true → ⊥
sets_none replies (Delete d) (Delete new) path q other t own = t
sets_none replies (Make m) (Make new) path q other t own = t
sets_none replies (SetMode s) (SetMode new) path q other t own = false≢true own
sets_none replies (Copy c) new path q other t own = true≢false other
sets_none replies (Move m) new path q other t own = true≢false other
sets_none replies (RemoveEmptied r) (RemoveEmptied new) path q other t own = t
sets_none replies old new path q other t own = t

-- and its paths are calm from then on, but for a copy or a move
pub calm_stays : (job new : Running) (did : Did) (dirty dirty_after : List Route) (log now : CallLog) (calm : Route → Bool) (q : Route) → knows_calm job.work ≡ false → WorkLeads job did new dirty dirty_after log now
    → may_change (item_in job.work) q ≡ true → (calm q ≡ true) ⊎ (begins_change did ≡ true) → calm_by did (item_in job.work) calm q ≡ true
calm_stays job new (Removed path) dirty dirty_after log now calm q other works own known = or_left _ _ own
calm_stays job new (Began part) dirty dirty_after log now calm q other works own known = or_left _ _ own
calm_stays job new (Made path) dirty dirty_after log now calm q other works own known = or_left _ _ own
calm_stays job new (Set path) dirty dirty_after log now calm q other works own known = let goes = goes_then job new (Set path) job.course refl works.tells refl in absurd (sets_none job.replies job.work goes.1.0 path q other goes.1.1 own)
calm_stays job new (Chunk count) dirty dirty_after log now calm q other works own known = elim known [ inl stands ↦ stands | inr begins ↦ absurd (false≢true begins) ]
calm_stays job new (Placed path) dirty dirty_after log now calm q other works own known = elim known [ inl stands ↦ stands | inr begins ↦ absurd (false≢true begins) ]
calm_stays job new (Kept path) dirty dirty_after log now calm q other works own known = elim known [ inl stands ↦ stands | inr begins ↦ absurd (false≢true begins) ]
calm_stays job new (Asked question) dirty dirty_after log now calm q other works own known = elim known [ inl stands ↦ stands | inr begins ↦ absurd (false≢true begins) ]
calm_stays job new (Merges transfer pair names) dirty dirty_after log now calm q other works own known = elim known [ inl stands ↦ stands | inr begins ↦ absurd (false≢true begins) ]
calm_stays job new (Moved pair) dirty dirty_after log now calm q other works own known =
    let goes = goes_then job new (Moved pair) job.course refl works.tells refl in absurd (both_ways _ other (moves_in job.replies job.work goes.1.0 pair goes.1.1).0)
calm_stays job new (Skipped path why) dirty dirty_after log now calm q other works own known = elim known [ inl stands ↦ stands | inr begins ↦ absurd (false≢true begins) ]
calm_stays job new (Cleaned part) dirty dirty_after log now calm q other works own known = elim known [ inl stands ↦ stands | inr begins ↦ absurd (false≢true begins) ]
calm_stays job new Barrier dirty dirty_after log now calm q other works own known = elim known [ inl stands ↦ stands | inr begins ↦ absurd (false≢true begins) ]
calm_stays job new (Troubled trouble) dirty dirty_after log now calm q other works own known = elim known [ inl stands ↦ stands | inr begins ↦ absurd (false≢true begins) ]
calm_stays job new (Ended ending part) dirty dirty_after log now calm q other works own known = elim known [ inl stands ↦ stands | inr begins ↦ absurd (false≢true begins) ]
