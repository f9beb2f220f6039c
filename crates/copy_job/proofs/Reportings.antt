-- The reports of steps and last steps, and the folders that they change.
use Rattle.std.proofs.Common.{◌≡◌, ℕ, refl, sym, ◌∙◌, ap, subst, inl, inr, Bool, true, false, List, [], ◌∷◌, ◌++◌, Option, Some, None}
use Rattle.std.specs.Prelude.{◌⊎◌, ◌||◌, ◌&&◌, ⊤, not, if◌then◌else◌}
use Rattle.std.proofs.lemmas.Bool.{false≢true}
use Rattle.mc_text.specs.Routes.{Route, is_prefix, same_path}
use Rattle.tree_trait.specs.Change.{CallLog}
use Rattle.tree_trait.proofs.Visible.{same_path-self}
use Rattle.job_answers.specs.Skipping.{holds, kind_in, passed_cause}
use Rattle.job_answers.specs.declared.skips.Skips.{Skips as Kinds}
use Rattle.job_answers.specs.declared.replies.Replies.{Replies}
use Rattle.job_reports.specs.declared.job.Pair.{Pair}
use Rattle.job_reports.specs.declared.report.Cause.{Cause}
use Rattle.job_reports.specs.declared.report.Did.{Did}
use Rattle.job_reports.specs.declared.report.Did.TheVariants.{Began, Chunk, Placed, Removed, Made, Set, Kept, Skipped, Cleaned, Barrier, Asked, Merges, Moved, Troubled, Ended}
use Rattle.job_reports.specs.declared.report.Ending.{Ending}
use Rattle.job_reports.specs.declared.report.Ending.TheVariants.{Finished, Aborted, Killed, NoMemory}
use Rattle.job_reports.specs.declared.report.LastStepResult.{LastStepResult}
use Rattle.job_reports.specs.declared.report.StepResult.{StepResult}
use Rattle.job_reports.specs.declared.report.Transfer.TheVariants.{ByCopy, ByMove}
use Rattle.job_reports.specs.Paths.{folder_of}
use Rattle.copy_file.specs.Copying as file
use Rattle.copy_file.specs.Copying.{Copying, part_at}
use Rattle.copy_file.specs.LastSteps as file_last
use Rattle.copy_file.specs.LastSteps.{left_at}
use Rattle.copy_file.specs.declared.stage.Stage.{Stage as FileStage}
use Rattle.copy_file.specs.declared.stage.Stage.TheVariants as file_stage
use Rattle.copy_folders.specs.declared.stage.FolderDid.{FolderDid}
use Rattle.copy_folders.specs.declared.stage.FolderDid.TheVariants as folder_did
use Rattle.copy_link.specs.LinkCopying as link
use Rattle.copy_link.specs.LinkCopying.{LinkCopying, has_part, is_removable}
use Rattle.copy_link.specs.declared.stage.Stage.{Stage as LinkStage}
use Rattle.copy_link.specs.declared.stage.Stage.TheVariants as link_stage
use Rattle.copy_folders.specs.declared.level.Level.{Level}
use Rattle.copy_folders.specs.Levels.{is_around_dirty, target_around}
use Rattle.copy_tree.specs.declared.item.ItemAtWork.{ItemAtWork}
use Rattle.copy_tree.specs.declared.item.ItemAtWork.TheVariants.{Next, File, Link, Stays}
use Rattle.copy_tree.specs.declared.progress.Progress.TheVariants.{UnderWay}
use Rattle.copy_tree.specs.Ending.{EndsAll, FoldersWind, IsWindable, TriesFolder, WindsAt, stays_if}
use Rattle.copy_tree.specs.InPlace.{AreMoved, IsInPlace}
use Rattle.copy_tree.specs.Parts.{IsPartPlace}
use Rattle.copy_tree.specs.Progress.{progress}
use Rattle.copy_tree.specs.Reports.{IsToldAs}
use Rattle.copy_tree.specs.Skipping as machine
use Rattle.copy_tree.specs.Standing.{Seen}
use Rattle.copy_tree.specs.TreeCopySteps.{TakesNext, WorksOn, idle, link_begun}
use Rattle.copy_tree.proofs.InPlaces.{leaves_all}
use Rattle.job_unsynced.specs.Folders.{is_of}
use Rattle.copy_job.specs.Leaving.{may_leave}
use Rattle.copy_job.specs.Marks.{brings_in, brings_made, folder_worked, is_dirty_after, was_dirty}
use Rattle.copy_job.specs.Passing.{OrPassedOver}
use Rattle.copy_job.specs.Reporting.{ChangesOwn, MayTell, MayTellLast, ReportingLaw, part_after_last_step}
use Rattle.copy_job.specs.Standing.{SubtreeCopying, part_of}
use Rattle.copy_job.specs.SubtreeSteps.{ListSteps, step_result}
use Rattle.copy_tree.proofs.PartsBegin.{file_taken}
use Rattle.copy_job.proofs.Barred.{passed_trouble}
use Rattle.copy_job.proofs.Syncs.{cleaned_by_sync, passed_barrier}
use Rattle.copy_job.proofs.Targets.{works_at_once}

-- a report of a file, of a link, of a folder
file_may : (f m : Copying) (did : Did) → file.Tells f did m → MayTell did
file_may f m (Ended Finished part) t = t.2
file_may f m (Ended Aborted part) t = t
file_may f m (Ended Killed part) t = t
file_may f m (Ended NoMemory part) t = t
file_may f m (Removed path) t = t
file_may f m (Kept path) t = tt
file_may f m (Asked question) t = tt
file_may f m (Merges ByCopy pair names) t = tt
file_may f m (Merges ByMove pair names) t = t
file_may f m (Moved pair) t = t
file_may f m (Began part) t = tt
file_may f m (Chunk count) t = tt
file_may f m (Placed path) t = tt
file_may f m (Made path) t = tt
file_may f m (Set path) t = tt
file_may f m (Skipped path cause) t = tt
file_may f m (Cleaned part) t = tt
file_may f m Barrier t = tt
file_may f m (Troubled trouble) t = tt

link_may : (l m : LinkCopying) (did : Did) → link.Tells l did m → MayTell did
link_may l m (Ended ending part) t = absurd t
link_may l m (Removed path) t = t
link_may l m (Kept path) t = tt
link_may l m (Asked question) t = tt
link_may l m (Merges ByCopy pair names) t = tt
link_may l m (Merges ByMove pair names) t = t
link_may l m (Moved pair) t = absurd t
link_may l m (Began part) t = tt
link_may l m (Chunk count) t = tt
link_may l m (Placed path) t = tt
link_may l m (Made path) t = tt
link_may l m (Set path) t = tt
link_may l m (Skipped path cause) t = tt
link_may l m (Cleaned part) t = tt
link_may l m Barrier t = tt
link_may l m (Troubled trouble) t = tt

folder_may : (report : FolderDid) (did : Did) → IsToldAs report did → MayTell did
folder_may (folder_did.Made path) did told = subst MayTell (sym told) tt
folder_may (folder_did.Set path) did told = subst MayTell (sym told) tt
folder_may folder_did.Barrier did told = subst MayTell (sym told) tt
folder_may folder_did.Closed did told = absurd told
folder_may (folder_did.Troubled trouble) did told = subst MayTell (sym told) tt

module _ (unclaimed : Route → Type 0) (replies : Replies) (old new : Seen) (did : Did) (before after : Option CallLog) where
  takes_may : TakesNext unclaimed replies old new did before after → MayTell did
  takes_may (inl s) = subst MayTell (sym s.says) tt
  takes_may (inr (inl t)) = (let w = file_taken unclaimed replies old new did before after t in file_may (file.begun_copy old.job t.pair.source t.pair.target) w.moved did w.tells)
  takes_may (inr (inr (inl t))) = (let w = t.works in link_may (link_begun t.pair t.part) w.moved did w.tells)
  takes_may (inr (inr (inr (inl t)))) = (let w = t.works in folder_may w.report did w.says)
  takes_may (inr (inr (inr (inr (inl t))))) = subst MayTell (sym t.says) tt
  takes_may (inr (inr (inr (inr (inr (inl t)))))) = subst MayTell (sym t.says) tt
  takes_may (inr (inr (inr (inr (inr (inr (inl t))))))) = subst MayTell (sym t.says) tt
  takes_may (inr (inr (inr (inr (inr (inr (inr (next, inl (debt, e))))))))) = folder_may e.report did e.says
  takes_may (inr (inr (inr (inr (inr (inr (inr (next, inr (debt, f, same))))))))) = subst MayTell (sym f.says) refl

  works_may : (item : ItemAtWork) → WorksOn item unclaimed replies old new did before after → MayTell did
  works_may Next (inl s) = folder_may s.report did s.says
  works_may Next (inr t) = takes_may t.1
  works_may (File f) w = file_may f w.moved did w.tells
  works_may (Link l) w = link_may l w.moved did w.tells
  works_may (Stays part) w = absurd w

named_may : (names : List (List ℕ)) (cause : Cause) (old new : Seen) (did : Did) → machine.SkipsNamed names cause old did new → MayTell did
named_may [] cause old new did (moved, inl s, stands) = subst MayTell (sym s.0) tt
named_may [] cause old new did (moved, inr room, stands) = subst MayTell (sym room.0) tt
named_may (name ∷ names) cause old new did (inl s) = subst MayTell (sym s.0) tt
named_may (name ∷ names) cause old new did (inr (inl (long, inl s))) = subst MayTell (sym s.0) tt
named_may (name ∷ names) cause old new did (inr (inl (long, inr room))) = subst MayTell (sym room.0) tt
named_may (name ∷ names) cause old new did (inr (inr room)) = subst MayTell (sym room.0) tt

skip_may : (item : ItemAtWork) (cause : Cause) (old new : Seen) (did : Did) → machine.SkipsAt item cause old did new → MayTell did
skip_may Next cause old new did s = named_may old.levels.inner.names.names cause old new did s
skip_may (File f) cause old new did (moved, inl s, stands) = subst MayTell (sym s.0) tt
skip_may (File f) cause old new did (moved, inr room, stands) = subst MayTell (sym room.0) tt
skip_may (Link l) cause old new did (moved, inl s, stands) = subst MayTell (sym s.0) tt
skip_may (Link l) cause old new did (moved, inr room, stands) = subst MayTell (sym room.0) tt
skip_may (Stays part) cause old new did s = absurd s

list_may : (free : Route → Bool) (replies : Replies) (old new : Seen) (worked : StepResult) (dirty dirty_after : List Route) (before after : Option CallLog) (f0 f1 : ℕ) → ListSteps free replies old new worked dirty dirty_after before after f0 f1
    → may_leave old ≡ false → MayTell worked.did
list_may free replies old new worked dirty dirty_after before after f0 f1 (inl s) settled = subst MayTell (sym (ap (λ (r : StepResult). r.did) s.says)) tt
list_may free replies old new worked dirty dirty_after before after f0 f1 (inr s) settled =
    works_may (IsPartPlace free old) replies old new worked.did before after old.item (works_at_once free replies old new worked.did worked.calls before after f0 f1 s.steps settled)

passes_may : (skips : Kinds) (worked : StepResult) (old new : Seen) (result : StepResult) → OrPassedOver skips worked old new result → MayTell worked.did → MayTell result.did
passes_may skips worked old new result (inl p) may = subst (λ (r : StepResult). MayTell r.did) (sym p.1) may
passes_may skips worked old new result (inr p) may = skip_may old.item p.0 old new result.did p.3

-- only what is passed over tells that something was skipped, with the cause for which it was
abbrev SkippedFor : Cause → Did → Type 0
SkippedFor cause (Skipped path why) = why ≡ cause
SkippedFor cause did = ⊤

abbrev NotSkipped : Did → Type 0
NotSkipped (Skipped path cause) = ⊥
NotSkipped did = ⊤

file_not : (f m : Copying) (did : Did) → file.Tells f did m → NotSkipped did
file_not f m (Skipped path cause) t = t
file_not f m (Ended ending part) t = tt
file_not f m (Removed path) t = tt
file_not f m (Kept path) t = tt
file_not f m (Asked question) t = tt
file_not f m (Merges transfer pair names) t = tt
file_not f m (Moved pair) t = tt
file_not f m (Began part) t = tt
file_not f m (Chunk count) t = tt
file_not f m (Placed path) t = tt
file_not f m (Made path) t = tt
file_not f m (Set path) t = tt
file_not f m (Cleaned part) t = tt
file_not f m Barrier t = tt
file_not f m (Troubled trouble) t = tt

link_not : (l m : LinkCopying) (did : Did) → link.Tells l did m → NotSkipped did
link_not l m (Skipped path cause) t = t
link_not l m (Ended ending part) t = tt
link_not l m (Removed path) t = tt
link_not l m (Kept path) t = tt
link_not l m (Asked question) t = tt
link_not l m (Merges transfer pair names) t = tt
link_not l m (Moved pair) t = tt
link_not l m (Began part) t = tt
link_not l m (Chunk count) t = tt
link_not l m (Placed path) t = tt
link_not l m (Made path) t = tt
link_not l m (Set path) t = tt
link_not l m (Cleaned part) t = tt
link_not l m Barrier t = tt
link_not l m (Troubled trouble) t = tt

folder_not : (report : FolderDid) (did : Did) → IsToldAs report did → NotSkipped did
folder_not (folder_did.Made path) did told = subst NotSkipped (sym told) tt
folder_not (folder_did.Set path) did told = subst NotSkipped (sym told) tt
folder_not folder_did.Barrier did told = subst NotSkipped (sym told) tt
folder_not folder_did.Closed did told = absurd told
folder_not (folder_did.Troubled trouble) did told = subst NotSkipped (sym told) tt

module _ (unclaimed : Route → Type 0) (replies : Replies) (old new : Seen) (did : Did) (before after : Option CallLog) where
  takes_not : TakesNext unclaimed replies old new did before after → NotSkipped did
  takes_not (inl s) = subst NotSkipped (sym s.says) tt
  takes_not (inr (inl t)) = (let w = file_taken unclaimed replies old new did before after t in file_not (file.begun_copy old.job t.pair.source t.pair.target) w.moved did w.tells)
  takes_not (inr (inr (inl t))) = (let w = t.works in link_not (link_begun t.pair t.part) w.moved did w.tells)
  takes_not (inr (inr (inr (inl t)))) = (let w = t.works in folder_not w.report did w.says)
  takes_not (inr (inr (inr (inr (inl t))))) = subst NotSkipped (sym t.says) tt
  takes_not (inr (inr (inr (inr (inr (inl t)))))) = subst NotSkipped (sym t.says) tt
  takes_not (inr (inr (inr (inr (inr (inr (inl t))))))) = subst NotSkipped (sym t.says) tt
  takes_not (inr (inr (inr (inr (inr (inr (inr (next, inl (debt, e))))))))) = folder_not e.report did e.says
  takes_not (inr (inr (inr (inr (inr (inr (inr (next, inr (debt, f, same))))))))) = subst NotSkipped (sym f.says) tt

  works_not : (item : ItemAtWork) → WorksOn item unclaimed replies old new did before after → NotSkipped did
  works_not Next (inl s) = folder_not s.report did s.says
  works_not Next (inr t) = takes_not t.1
  works_not (File f) w = file_not f w.moved did w.tells
  works_not (Link l) w = link_not l w.moved did w.tells
  works_not (Stays part) w = absurd w

list_not : (free : Route → Bool) (replies : Replies) (old new : Seen) (worked : StepResult) (dirty dirty_after : List Route) (before after : Option CallLog) (f0 f1 : ℕ) → ListSteps free replies old new worked dirty dirty_after before after f0 f1
    → may_leave old ≡ false → NotSkipped worked.did
list_not free replies old new worked dirty dirty_after before after f0 f1 (inl s) settled = subst NotSkipped (sym (ap (λ (r : StepResult). r.did) s.says)) tt
list_not free replies old new worked dirty dirty_after before after f0 f1 (inr s) settled =
    works_not (IsPartPlace free old) replies old new worked.did before after old.item (works_at_once free replies old new worked.did worked.calls before after f0 f1 s.steps settled)

named_for : (names : List (List ℕ)) (cause : Cause) (old new : Seen) (did : Did) → machine.SkipsNamed names cause old did new → SkippedFor cause did
named_for [] cause old new did (moved, inl s, stands) = subst (SkippedFor cause) (sym s.0) refl
named_for [] cause old new did (moved, inr room, stands) = subst (SkippedFor cause) (sym room.0) tt
named_for (name ∷ names) cause old new did (inl s) = subst (SkippedFor cause) (sym s.0) refl
named_for (name ∷ names) cause old new did (inr (inl (long, inl s))) = subst (SkippedFor cause) (sym s.0) refl
named_for (name ∷ names) cause old new did (inr (inl (long, inr room))) = subst (SkippedFor cause) (sym room.0) tt
named_for (name ∷ names) cause old new did (inr (inr room)) = subst (SkippedFor cause) (sym room.0) tt

skip_for : (item : ItemAtWork) (cause : Cause) (old new : Seen) (did : Did) → machine.SkipsAt item cause old did new → SkippedFor cause did
skip_for Next cause old new did s = named_for old.levels.inner.names.names cause old new did s
skip_for (File f) cause old new did (moved, inl s, stands) = subst (SkippedFor cause) (sym s.0) refl
skip_for (File f) cause old new did (moved, inr room, stands) = subst (SkippedFor cause) (sym room.0) tt
skip_for (Link l) cause old new did (moved, inl s, stands) = subst (SkippedFor cause) (sym s.0) refl
skip_for (Link l) cause old new did (moved, inr room, stands) = subst (SkippedFor cause) (sym room.0) tt
skip_for (Stays part) cause old new did s = absurd s

-- such a cause is of a kind that is skipped
held_so : (barrier held : Bool) (cause why : Cause) → (if not barrier && held then Some cause else None) ≡ Some why → (held ≡ true) × (cause ≡ why)
held_so true held cause why is = absurd (let f : ⊥ = cc in f)
held_so false true cause why is = (refl, cc)
held_so false false cause why is = absurd (let f : ⊥ = cc in f)

passed_kind : (skips : Kinds) (did : Did) (why : Cause) → passed_cause skips did ≡ Some why → holds skips (kind_in why) ≡ true
passed_kind skips did why is =
    let t = passed_trouble skips did why is in
    let u = t.0 in
    let so = held_so u.barrier (holds skips (kind_in u.cause)) u.cause why (sym (ap (passed_cause skips) t.1) ∙ is) in
    sym (ap (λ c. holds skips (kind_in c)) so.1) ∙ so.0

passes_kind : (skips : Kinds) (worked : StepResult) (old new : Seen) (path : Route) (cause : Cause) (calls : ℕ) → OrPassedOver skips worked old new (step_result (Skipped path cause) calls) → NotSkipped worked.did
    → holds skips (kind_in cause) ≡ true
passes_kind skips worked old new path cause calls (inl p) none = absurd (subst NotSkipped (sym (ap (λ (r : StepResult). r.did) p.1)) none)
passes_kind skips worked old new path cause calls (inr p) none =
    let same : cause ≡ p.0 = skip_for old.item p.0 old new (Skipped path cause) p.3 in
    ap (λ c. holds skips (kind_in c)) same ∙ passed_kind skips worked.did p.0 p.1

-- a last step
pub stays_part : (part : Option Route) → part_of (stays_if part) ≡ part
stays_part (Some part) = refl
stays_part None = refl

pub record LastStepMade (ending : Ending) (stands : Option Route) (old : Seen) (did : Did) (new : Seen) : Type 0 where
  pub may : MayTellLast ending stands did
  pub stage : new.stage ≡ old.stage
  pub part : part_of new.item ≡ part_after_last_step did stands

folders_wound : (ending : Ending) (part : Option Route) (old new : Seen) (last : LastStepResult) (before after : Option CallLog) (f0 f1 : ℕ) → FoldersWind ending part old new last before after f0 f1 → LastStepMade ending part old last.did new
folders_wound ending part old new last before after f0 f1 w = by w.winds
  where
    by : TriesFolder part w.mid old new last before after f0 f1 ⊎ EndsAll ending part w.mid old new last before after f0 f1 → LastStepMade ending part old last.did new
    by (inl t) =
        let tried = t.tried in
        subst (λ d. LastStepMade ending part old d new) (sym tried.did)
        record { may = tt; stage = ap (λ (c : Seen). c.stage) t.stands; part = ap (λ (c : Seen). part_of c.item) t.stands ∙ stays_part part }
    by (inr e) =
        subst (λ d. LastStepMade ending part old d new) (sym (ap (λ (r : LastStepResult). r.did) e.says))
        record { may = (refl, refl); stage = ap (λ (c : Seen). c.stage) e.stands; part = ap (λ (c : Seen). part_of c.item) e.stands }

-- where a file is at work its part stands
pub file_removable : (stage : FileStage) → progress stage ≡ UnderWay → left_at stage ≡ None → file_last.removable stage ≡ part_at stage
file_removable (file_stage.Fill part facts done) going none = refl
file_removable (file_stage.Clean part follows) going none = refl
file_removable (file_stage.Left part) going none = absurd (let f : ⊥ = cc in f)
file_removable file_stage.Begin going none = refl
file_removable file_stage.Decided going none = refl

pub no_more : (stage : FileStage) → progress stage ≡ UnderWay → left_at stage ≡ None → file_last.removable stage ≡ None → ⊥
no_more (file_stage.Fill part facts done) going none gone = (let f : ⊥ = cc in f)
no_more (file_stage.Clean part follows) going none gone = (let f : ⊥ = cc in f)
no_more (file_stage.Left part) going none gone = (let f : ⊥ = cc in f)
no_more file_stage.Begin going none gone = (let f : ⊥ = cc in f)
no_more file_stage.Decided going none gone = (let f : ⊥ = cc in f)

given_up_part : (stage : FileStage) → part_at (file_last.given_up stage) ≡ part_at stage
given_up_part (file_stage.Fill part facts done) = refl
given_up_part (file_stage.Clean part follows) = refl
given_up_part (file_stage.Left part) = refl
given_up_part file_stage.Begin = refl
given_up_part file_stage.Decided = refl

file_wound : (ending : Ending) (f m : Copying) (old new : Seen) (did : Did) → file_last.Winds ending f did m → (progress f.stage ≡ UnderWay) × (left_at f.stage ≡ None) → new.stage ≡ old.stage
    → part_of new.item ≡ part_at m.stage → LastStepMade ending (part_at f.stage) old did new
file_wound ending f m old new (Cleaned part) w can stage now =
    record { may = sym (file_removable f.stage can.0 can.1) ∙ w.0; stage = stage; part = now ∙ ap (λ (c : Copying). part_at c.stage) w.1 }
file_wound ending f m old new Barrier w can stage now = record { may = tt; stage = stage; part = now ∙ (ap (λ (c : Copying). part_at c.stage) w.1 ∙ given_up_part f.stage) }
file_wound ending f m old new (Ended how part) w can stage now = absurd (no_more f.stage can.0 can.1 w.0)
file_wound ending f m old new (Began part) w can stage now = absurd w
file_wound ending f m old new (Chunk count) w can stage now = absurd w
file_wound ending f m old new (Placed path) w can stage now = absurd w
file_wound ending f m old new (Removed path) w can stage now = absurd w
file_wound ending f m old new (Made path) w can stage now = absurd w
file_wound ending f m old new (Set path) w can stage now = absurd w
file_wound ending f m old new (Kept path) w can stage now = absurd w
file_wound ending f m old new (Asked question) w can stage now = absurd w
file_wound ending f m old new (Merges transfer pair names) w can stage now = absurd w
file_wound ending f m old new (Moved pair) w can stage now = absurd w
file_wound ending f m old new (Skipped path cause) w can stage now = absurd w
file_wound ending f m old new (Troubled trouble) w can stage now = absurd w

pub removable_part : (stage : LinkStage) → is_removable stage ≡ true → has_part stage ≡ true
removable_part link_stage.Place h = refl
removable_part (link_stage.Clean follows) h = refl
removable_part link_stage.Left h = refl
removable_part link_stage.Make h = absurd (false≢true h)
removable_part link_stage.Again h = absurd (false≢true h)
removable_part link_stage.Decided h = absurd (false≢true h)

pub winds_wound : (item : ItemAtWork) (ending : Ending) (old new : Seen) (last : LastStepResult) (before after : Option CallLog) (f0 f1 : ℕ) → WindsAt item ending old new last before after f0 f1 → IsWindable item
    → LastStepMade ending (part_of item) old last.did new
winds_wound Next ending old new last before after f0 f1 w can = folders_wound ending None old new last before after f0 f1 w
winds_wound (File f) ending old new last before after f0 f1 w can =
    let m = w.moved in
    let on = w.winds in
    file_wound ending f m old new last.did on.tells can (ap (λ (c : Seen). c.stage) w.stands) (ap (λ (c : Seen). part_of c.item) w.stands ∙ stays_part (part_at m.stage))
winds_wound (Link l) ending old new last before after f0 f1 (inl c) can =
    let stands : part_of (Link l) ≡ Some l.part = ap (λ b. if b then Some l.part else None) (removable_part l.stage can) in
    subst (λ d. LastStepMade ending (part_of (Link l)) old d new) (sym (ap (λ (r : LastStepResult). r.did) c.says))
    record { may = stands; stage = ap (λ (s : Seen). s.stage) c.stands; part = ap (λ (s : Seen). part_of s.item) c.stands }
winds_wound (Link l) ending old new last before after f0 f1 (inr s) can =
    let stands : part_of (Link l) ≡ Some l.part = ap (λ b. if b then Some l.part else None) (removable_part l.stage can) in
    let later = s.winds in
    let next = folders_wound ending (Some l.part) (idle old) new later.next s.mid after s.since f1 later.winds in
    subst (λ p. LastStepMade ending p old last.did new) (sym stands)
    (subst (λ d. LastStepMade ending (Some l.part) old d new) (sym (ap (λ (r : LastStepResult). r.did) later.says)) record { may = next.may; stage = next.stage; part = next.part })
winds_wound (Stays part) ending old new last before after f0 f1 w can =
    let next = folders_wound ending (Some part) (idle old) new last before after f0 f1 w in record { may = next.may; stage = next.stage; part = next.part }

-- the copy's own folders
or_true : (a b : Bool) → b ≡ true → (a || b) ≡ true
or_true true b h = refl
or_true false b h = h

prefix_of : (rest top : Route) → is_prefix top (rest ++ top) ≡ true
prefix_of [] [] = refl
prefix_of [] (name ∷ top) = ap (λ b. b || is_prefix (name ∷ top) top) (same_path-self (name ∷ top))
prefix_of (name ∷ rest) top = or_true (same_path top (name ∷ rest ++ top)) (is_prefix top (rest ++ top)) (prefix_of rest top)

pub moved_own : (top : Pair) (inner : Level) (around : List Level) → AreMoved top inner around → is_of (folder_of top.target) top.target inner.copy.target ≡ true
moved_own top inner [] h = ap (λ r. same_path r (folder_of top.target) || is_prefix top.target inner.copy.target) h.to ∙ ap (λ b. b || is_prefix top.target inner.copy.target) (same_path-self (folder_of top.target))
moved_own top inner (outer ∷ around) h =
    let m = h.0 in
    or_true (same_path inner.copy.target (folder_of top.target)) (is_prefix top.target inner.copy.target) (ap (is_prefix top.target) m.to ∙ prefix_of m.rest top.target)

around_own : (top : Pair) (inner : Level) (around : List Level) → AreMoved top inner around → is_around_dirty around ≡ true → is_of (folder_of top.target) top.target (target_around around) ≡ true
around_own top inner [] h marked = absurd (false≢true marked)
around_own top inner (outer ∷ around) h marked = moved_own top outer around h.1

brings_around : (item : ItemAtWork) (c : Seen) → brings_in item c.levels ≡ true → is_around_dirty c.levels.around ≡ true
brings_around Next c h = h
brings_around (File f) c h = absurd (false≢true h)
brings_around (Link l) c h = absurd (false≢true h)
brings_around (Stays part) c h = absurd (false≢true h)

worked_own : (top : Pair) (c : Seen) → IsInPlace top c → is_of (folder_of top.target) top.target (folder_worked c) ≡ true
worked_own top c h = by (brings_made c) refl
  where
    by : (b : Bool) → brings_made c ≡ b → is_of (folder_of top.target) top.target (if b then target_around c.levels.around else c.levels.inner.copy.target) ≡ true
    by true is = around_own top c.levels.inner c.levels.around h.levels (brings_around c.item c is)
    by false is = moved_own top c.levels.inner c.levels.around h.levels

pub list_own : (free : Route → Bool) (replies : Replies) (c : SubtreeCopying) (old new : Seen) (worked : StepResult) (did : Did) (dirty dirty_after : List Route) (before after : Option CallLog) (f0 f1 : ℕ)
    → ListSteps free replies old new worked dirty dirty_after before after f0 f1 → IsInPlace c.top old → may_leave old ≡ false → (worked.did ≡ Barrier → did ≡ Barrier) → ChangesOwn c did dirty dirty_after
list_own free replies c old new worked did dirty dirty_after before after f0 f1 (inl s) h settled told =
    record { folder = folder_worked old; own = worked_own c.top old h; was = false; now = false; list = s.list; synced = λ was now. absurd (false≢true was) }
list_own free replies c old new worked did dirty dirty_after before after f0 f1 (inr s) h settled told = record {
  folder = folder_worked old;
  own = worked_own c.top old h;
  was = was_dirty old;
  now = is_dirty_after old worked.did new;
  list = s.list;
  synced = λ was now. told (cleaned_by_sync free replies old new worked.did worked.calls before after f0 f1 s.steps settled was now);
}

pub reporting_law : ReportingLaw
reporting_law = record {
  step = λ free replies old new did calls dirty dirty_after before after f0 f1 s.
      passes_may replies.skips s.worked s.moved new.at (step_result did calls) s.passes (list_may free replies s.mid s.moved s.worked dirty dirty_after before after f0 f1 s.works s.settled);
  last = λ ending old new last dirty dirty_after before after f0 f1 s can.
      let w = winds_wound old.at.item ending old.at new.at last before after f0 f1 s.winds can in
      record { may = w.may; top = ap (λ (c : SubtreeCopying). c.top) s.stands; stage = w.stage; part = w.part };
  list = λ free replies old new did calls dirty dirty_after before after f0 f1 s h.
      let l = s.leaves in
      list_own free replies old s.mid s.moved s.worked did dirty dirty_after before after f0 f1 s.works (leaves_all old.top l.0 old.at s.mid l.1 h) s.settled
      (passed_barrier replies.skips s.worked s.moved new.at (step_result did calls) s.passes);
  kinds = λ free replies old new path cause calls dirty dirty_after before after f0 f1 s.
      passes_kind replies.skips s.worked s.moved new.at path cause calls s.passes (list_not free replies s.mid s.moved s.worked dirty dirty_after before after f0 f1 s.works s.settled);
  tried = λ old new same h. moved_own old.top new.at.levels.inner new.at.levels.around h.levels;
}
