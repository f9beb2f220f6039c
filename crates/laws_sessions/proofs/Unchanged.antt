-- A job whose history tells of no change has begun none, as far as its work tells.
use Rattle.std.proofs.Common.{◌≡◌, ℕ, Bool, true, false, [], ◌∷◌, refl, sym, ◌∙◌, ap, subst, inl, inr, Option, Some, None}
use Rattle.std.specs.Prelude.{if◌then◌else◌, is_some, nat_le, not, ◌&&◌}
use Rattle.std.proofs.lemmas.Bool.{true≢false}
use Rattle.mc_text.specs.Routes.{Route, parent_of, same_path}
use Rattle.job_answers.specs.declared.replies.Replies.{Replies}
use Rattle.job_reports.specs.declared.report.Did.{Did}
use Rattle.job_reports.specs.declared.report.Did.TheVariants.{Began, Chunk, Placed, Removed, Made, Set, Kept, Skipped, Cleaned, Barrier, Asked, Merges, Moved, Troubled, Ended}
use Rattle.make_job.specs.declared.making.MakingStage.{MakingStage}
use Rattle.make_job.specs.declared.making.MakingStage.TheVariants as making
use Rattle.job_reports.specs.declared.job.Job.{Job}
use Rattle.job_reports.specs.declared.job.Pair.{Pair}
use Rattle.job_reports.specs.declared.report.Ending.{Ending}
use Rattle.job_reports.specs.declared.job.Job.TheVariants as plan
use Rattle.job_reports.specs.Jobs.{is_link_text}
use Rattle.delete_job.specs.declared.deletion.Stage.{Stage}
use Rattle.delete_job.specs.declared.deletion.Stage.TheVariants.{Begin, Going, Sync}
use Rattle.delete_job.specs.Standing.{after_item}
use Rattle.make_job.specs.declared.new_thing.NewThing.{NewThing}
use Rattle.make_job.specs.declared.new_thing.NewThing.TheVariants as thing
use Rattle.copy_move.specs.declared.work.Work.{Work}
use Rattle.copy_move.specs.declared.work.Work.TheVariants.{Copy, Delete, Make, Move, SetMode, RemoveEmptied}
use Rattle.make_job.specs.Makings as makings
use Rattle.move_job.specs.declared.moving.MovingStage.{MovingStage}
use Rattle.move_job.specs.declared.moving.MovingStage.TheVariants as moving
use Rattle.move_job.specs.Movings as movings
use Rattle.emptied_job.specs.declared.removal.RemovalStage.{RemovalStage}
use Rattle.emptied_job.specs.declared.removal.RemovalStage.TheVariants as removal
use Rattle.emptied_job.specs.Removals as removals
use Rattle.mode_job.specs.ModeSettings as modes
use Rattle.mode_job.specs.declared.setting.Stage.{Stage as SettingStage}
use Rattle.mode_job.specs.declared.setting.Stage.TheVariants as setting
use Rattle.mode_job.specs.Settings as settings
use Rattle.copy_move.specs.Jobs.{JobTells, PassesOver, Running, TellsOn, WorkTells, WorkWinds, copies, deletes, first_work, makes, moves, removes_emptied, sets}
use Rattle.job_reports.specs.Reports.{ends}
use Rattle.copy_move.specs.Told.{after_step, cleaned_work, merged_work, placed_work, skipped_work, spared_work, synced_work, told_job, work_told}
use Rattle.copy_move.specs.declared.run.Course.{Course}
use Rattle.copy_move.specs.declared.run.Course.TheVariants.{GoesOn, Asking, InTrouble, OwedSyncFailed, Skips, Ends}
use Rattle.copy_job.specs.Standing.{SubtreeCopying}
use Rattle.copy_job.specs.Unbegun.{MayBegin}
use Rattle.copy_tree.specs.Standing.{after_report, is_fresh}
use Rattle.copy_tree.specs.declared.copy.Stage.{Stage as TreeStage}
use Rattle.copy_move.proofs.Telling.{told_follows}
use Rattle.session_entries.specs.Named.{begins_change}

-- a deletion has removed something, and goes on
abbrev pub is_going : Stage → Bool
is_going Begin = false
is_going Going = true
is_going Sync = false

-- a change was begun: a copy or a deletion goes on, or what a making, a move, the setting of a mode or the removal of an emptied folder changed is dirty
abbrev pub has_begun : Work → Bool
has_begun (Copy c) = not (is_fresh c.at.stage)
has_begun (Delete d) = is_going d.stage
has_begun (Make m) = makings.is_dirty m.stage
has_begun (Move m) = movings.is_dirty m.stage
has_begun (SetMode s) = settings.is_dirty s.stage
has_begun (RemoveEmptied r) = removals.is_dirty r.stage

told_begun : (id : ℕ) (work : Work) → has_begun (work_told id work) ≡ has_begun work
told_begun id (Copy c) = refl
told_begun id (Delete d) = refl
told_begun id (Make m) = refl
told_begun id (Move m) = refl
told_begun id (SetMode s) = refl
told_begun id (RemoveEmptied r) = refl

item_begun : (top path : Route) (stage : Stage) → is_going stage ≡ false → is_going (after_item top path stage) ≡ false
item_begun top path stage clean = by (same_path path top)
  where
    by : (b : Bool) → is_going (if b then Sync else stage) ≡ false
    by true = refl
    by false = clean

skip_making : (stage : MakingStage) → makings.is_dirty (makings.skipped_stage stage) ≡ makings.is_dirty stage
skip_making making.Make = refl
skip_making making.Sync = refl
skip_making making.Finish = refl
skip_making making.PassedOver = refl

synced_making : (stage : MakingStage) → makings.is_dirty (makings.after_sync stage) ≡ false
synced_making making.Make = refl
synced_making making.Sync = refl
synced_making making.Finish = refl
synced_making making.PassedOver = refl

skip_moving : (stage : MovingStage) → movings.is_dirty (movings.skipped_stage stage) ≡ movings.is_dirty stage
skip_moving moving.Take = refl
skip_moving moving.SyncTarget = refl
skip_moving moving.SyncSource = refl
skip_moving moving.Finish = refl
skip_moving moving.PassedOver = refl

-- a move that owes no sync owes none after one
synced_moving : (pair : Pair) (stage : MovingStage) → movings.is_dirty stage ≡ false → movings.is_dirty (movings.after_sync pair stage) ≡ false
synced_moving pair moving.Take clean = refl
synced_moving pair moving.SyncTarget clean = absurd (true≢false clean)
synced_moving pair moving.SyncSource clean = absurd (true≢false clean)
synced_moving pair moving.Finish clean = refl
synced_moving pair moving.PassedOver clean = refl

pub skip_setting : (stage : SettingStage) → settings.is_dirty (settings.skipped_stage stage) ≡ settings.is_dirty stage
skip_setting setting.Give = refl
skip_setting setting.Sync = refl
skip_setting setting.Done = refl

synced_setting : (stage : SettingStage) → settings.is_dirty (modes.after_sync stage) ≡ false
synced_setting setting.Give = refl
synced_setting setting.Sync = refl
synced_setting setting.Done = refl

skip_removal : (stage : RemovalStage) → removals.is_dirty (removals.skipped_stage stage) ≡ removals.is_dirty stage
skip_removal removal.Remove = refl
skip_removal removal.Sync = refl
skip_removal removal.Finish = refl
skip_removal removal.PassedOver = refl

synced_removal : (stage : RemovalStage) → removals.is_dirty (removals.after_sync stage) ≡ false
synced_removal removal.Remove = refl
synced_removal removal.Sync = refl
synced_removal removal.Finish = refl
synced_removal removal.PassedOver = refl

skipped_begun : (path : Route) (work : Work) → has_begun work ≡ false → has_begun (skipped_work path work) ≡ false
skipped_begun path (Copy c) clean = clean
skipped_begun path (Delete d) clean = item_begun d.path path d.stage clean
skipped_begun path (Make m) clean = skip_making m.stage ∙ clean
skipped_begun path (Move m) clean = skip_moving m.stage ∙ clean
skipped_begun path (SetMode s) clean = skip_setting s.stage ∙ clean
skipped_begun path (RemoveEmptied r) clean = skip_removal r.stage ∙ clean

spared_begun : (path : Route) (work : Work) → has_begun work ≡ false → has_begun (spared_work path work) ≡ false
spared_begun path (Copy c) clean = clean
spared_begun path (Delete d) clean = item_begun d.path path d.stage clean
spared_begun path (Make m) clean = clean
spared_begun path (Move m) clean = refl
spared_begun path (SetMode s) clean = clean
spared_begun path (RemoveEmptied r) clean = refl

merged_begun : (work : Work) → has_begun work ≡ false → has_begun (merged_work work) ≡ false
merged_begun (Copy c) clean = clean
merged_begun (Delete d) clean = clean
merged_begun (Make m) clean = clean
merged_begun (Move m) clean = refl
merged_begun (SetMode s) clean = clean
merged_begun (RemoveEmptied r) clean = clean

-- it is a copy
abbrev is_tree : Work → Bool
is_tree (Copy c) = true
is_tree (Delete d) = false
is_tree (Make m) = false
is_tree (Move m) = false
is_tree (SetMode s) = false
is_tree (RemoveEmptied r) = false

-- a copy or a move: which names and modes wait in its folders is known of the work itself
abbrev pub knows_calm : Work → Bool
knows_calm (Copy c) = true
knows_calm (Delete d) = false
knows_calm (Make m) = false
knows_calm (Move m) = true
knows_calm (SetMode s) = false
knows_calm (RemoveEmptied r) = false

-- a step leaves it so
tells_calm : (replies : Replies) (old new : Work) (did : Did) → WorkTells replies old did new → knows_calm new ≡ false → knows_calm old ≡ false
tells_calm replies (Delete d) new did t other = refl
tells_calm replies (Make m) new did t other = refl
tells_calm replies (SetMode s) new did t other = refl
tells_calm replies (Copy c) (Copy new) did t other = other
tells_calm replies (Move m) (Move new) did t other = other
tells_calm replies (RemoveEmptied r) new did t other = refl
tells_calm replies old new did t other = absurd t

winds_calm : (ending : Ending) (old new : Work) (did : Did) → WorkWinds ending old did new → knows_calm new ≡ false → knows_calm old ≡ false
winds_calm ending (Delete d) new did t other = refl
winds_calm ending (Make m) new did t other = refl
winds_calm ending (SetMode s) new did t other = refl
winds_calm ending (Copy c) (Copy new) did t other = other
winds_calm ending (Move m) (Move new) did t other = other
winds_calm ending (RemoveEmptied r) new did t other = refl
winds_calm ending old new did t other = absurd t

passes_calm : (old new : Work) (path : Route) → PassesOver old path new → knows_calm new ≡ false → knows_calm old ≡ false
passes_calm (Delete d) new path h other = refl
passes_calm (Make m) new path h other = refl
passes_calm (SetMode s) new path h other = refl
passes_calm (Copy c) (Copy new) path h other = other
passes_calm (Move m) (Move new) path h other = other
passes_calm (RemoveEmptied r) new path h other = refl
passes_calm old new path h other = absurd h

on_calm : (old new : Running) (did : Did) (course : Course) → TellsOn course old did new → knows_calm new.work ≡ false → knows_calm old.work ≡ false
on_calm old new did GoesOn (work, tells, new_is) other = tells_calm old.replies old.work work did tells (sym (ap (λ (x : Running). knows_calm x.work) new_is) ∙ other)
on_calm old new did (InTrouble halt) t other = absurd t
on_calm old new did (OwedSyncFailed why) t other = absurd t
on_calm old new did Asking t other = absurd t
on_calm old new did (Skips why) (inl (path, work, did_is, passes, new_is)) other = passes_calm old.work work path passes (sym (ap (λ (x : Running). knows_calm x.work) new_is) ∙ other)
on_calm old new did (Skips why) (inr (apart, did_is, new_is)) other = sym (ap (λ (x : Running). knows_calm x.work) new_is) ∙ other
on_calm old new did (Ends ending) (work, winds, new_is) other = winds_calm ending old.work work did winds (sym (ap (λ (x : Running). knows_calm x.work) new_is) ∙ other)

pub step_calm : (old new : Running) (did : Did) → JobTells old did new → knows_calm new.work ≡ false → knows_calm old.work ≡ false
step_calm old new did t other = on_calm old new did old.course t other

told_tree : (id : ℕ) (work : Work) → is_tree (work_told id work) ≡ is_tree work
told_tree id (Copy c) = refl
told_tree id (Delete d) = refl
told_tree id (Make m) = refl
told_tree id (Move m) = refl
told_tree id (SetMode s) = refl
told_tree id (RemoveEmptied r) = refl

placed_begun : (work : Work) → is_tree work ≡ false → has_begun (placed_work work) ≡ has_begun work
placed_begun (Copy c) other = absurd (true≢false other)
placed_begun (Delete d) other = refl
placed_begun (Make m) other = refl
placed_begun (Move m) other = refl
placed_begun (SetMode s) other = refl
placed_begun (RemoveEmptied r) other = refl

cleaned_begun : (course : Course) (work : Work) → is_tree work ≡ false → has_begun (cleaned_work course work) ≡ has_begun work
cleaned_begun course (Copy c) other = absurd (true≢false other)
cleaned_begun course (Delete d) other = refl
cleaned_begun course (Make m) other = refl
cleaned_begun course (Move m) other = refl
cleaned_begun course (SetMode s) other = refl
cleaned_begun course (RemoveEmptied r) other = refl

synced_begun : (work : Work) → has_begun work ≡ false → has_begun (synced_work work) ≡ false
synced_begun (Copy c) clean = clean
synced_begun (Delete d) clean = clean
synced_begun (Make m) clean = synced_making m.stage
synced_begun (Move m) clean = synced_moving m.pair m.stage clean
synced_begun (SetMode s) clean = synced_setting s.stage
synced_begun (RemoveEmptied r) clean = synced_removal r.stage

some_job : (a b : Running) → (let o : Option Running = Some a in o) ≡ Some b → has_begun b.work ≡ has_begun a.work
some_job a b h = let e : a ≡ b = cc in ap (λ (x : Running). has_begun x.work) (sym e)

-- a report that begins no change leaves it so
clean_after : (did : Did) (job new : Running) → is_tree job.work ≡ false → begins_change did ≡ false → after_step did job ≡ Some new → has_begun job.work ≡ false → has_begun new.work ≡ false
clean_after (Began part) job new other none h clean = absurd (true≢false none)
clean_after (Removed path) job new other none h clean = absurd (true≢false none)
clean_after (Chunk count) job new other none h clean = some_job job new h ∙ clean
clean_after (Set path) job new other none h clean = absurd (true≢false none)
clean_after (Placed path) job new other none h clean = some_job (record job { work = placed_work job.work }) new h ∙ (placed_begun job.work other ∙ clean)
clean_after (Made path) job new other none h clean = absurd (true≢false none)
clean_after (Kept path) job new other none h clean = some_job (record job { work = spared_work path job.work }) new h ∙ spared_begun path job.work clean
clean_after (Asked question) job new other none h clean = some_job (record job { course = Rattle.copy_move.specs.declared.run.Course.TheVariants.Asking }) new h ∙ clean
clean_after (Merges transfer pair names) job new other none h clean = some_job (record job { work = merged_work job.work }) new h ∙ merged_begun job.work clean
clean_after (Moved pair) job new other none h clean = absurd (true≢false none)
clean_after (Skipped path why) job new other none h clean = some_job (record job { work = skipped_work path job.work; course = Rattle.copy_move.specs.declared.run.Course.TheVariants.GoesOn }) new h ∙ skipped_begun path job.work clean
clean_after (Cleaned part) job new other none h clean = some_job (record job { work = cleaned_work job.course job.work }) new h ∙ (cleaned_begun job.course job.work other ∙ clean)
clean_after Barrier job new other none h clean = some_job (record job { work = synced_work job.work }) new h ∙ synced_begun job.work clean
clean_after (Troubled trouble) job new other none h clean = some_job (record job { course = Rattle.copy_move.specs.Told.course_told job.work trouble }) new h ∙ clean
clean_after (Ended ending part) job new other none h clean = absurd (let f : ⊥ = cc in f)

-- So it is of a copy, whose first change begins a part or makes a folder.
stage_stays : (did : Did) (stage : TreeStage) → MayBegin did → begins_change did ≡ false → after_report did stage ≡ stage
stage_stays (Began part) stage may none = absurd (true≢false none)
stage_stays (Made path) stage may none = absurd (true≢false none)
stage_stays (Skipped path cause) stage may none = refl
stage_stays (Troubled trouble) stage may none = refl
stage_stays (Ended ending part) stage may none = refl
stage_stays (Kept path) stage may none = refl
stage_stays (Asked question) stage may none = refl
stage_stays (Merges transfer pair names) stage may none = refl
stage_stays (Moved pair) stage may none = absurd (true≢false none)
stage_stays did stage may none = absurd may

not_true : (b : Bool) → not b ≡ false → b ≡ true
not_true true h = refl
not_true false h = absurd (true≢false h)

as_stage : (old new : TreeStage) → new ≡ old → not (is_fresh old) ≡ false → not (is_fresh new) ≡ false
as_stage old new is clean = ap (λ s. not (is_fresh s)) is ∙ clean

tree_tells : (replies : Replies) (c : SubtreeCopying) (work : Work) (did : Did) → WorkTells replies (Copy c) did work → begins_change did ≡ false → has_begun (Copy c) ≡ false → has_begun work ≡ false
tree_tells replies c (Copy new) did t none clean =
    let after = t.after in as_stage c.at.stage new.at.stage (after.stage ∙ stage_stays did c.at.stage (t.first (not_true (is_fresh c.at.stage) clean)) none) clean
tree_tells replies c new did t none clean = absurd t

tree_passes : (c : SubtreeCopying) (work : Work) (path : Route) → PassesOver (Copy c) path work → has_begun (Copy c) ≡ false → has_begun work ≡ false
tree_passes c (Copy new) path (cause, after) clean = as_stage c.at.stage new.at.stage after.stage clean
tree_passes c new path h clean = absurd h

tree_winds : (ending : Ending) (c : SubtreeCopying) (work : Work) (did : Did) → WorkWinds ending (Copy c) did work → has_begun (Copy c) ≡ false → has_begun work ≡ false
tree_winds ending c (Copy new) did t clean = as_stage c.at.stage new.at.stage t.stage clean
tree_winds ending c new did t clean = absurd t

tree_clean : (job new : Running) (did : Did) (c : SubtreeCopying) (course : Course) → job.work ≡ Copy c → TellsOn course job did new → begins_change did ≡ false → has_begun job.work ≡ false → has_begun new.work ≡ false
tree_clean job new did c GoesOn is (work, tells, new_is) none clean =
    ap (λ (x : Running). has_begun x.work) new_is ∙ tree_tells job.replies c work did (subst (λ w. WorkTells job.replies w did work) is tells) none (sym (ap has_begun is) ∙ clean)
tree_clean job new did c (InTrouble halt) is t none clean = absurd t
tree_clean job new did c (OwedSyncFailed why) is t none clean = absurd t
tree_clean job new did c Asking is t none clean = absurd t
tree_clean job new did c (Skips why) is (inl (path, work, did_is, passes, new_is)) none clean =
    ap (λ (x : Running). has_begun x.work) new_is ∙ tree_passes c work path (subst (λ w. PassesOver w path work) is passes) (sym (ap has_begun is) ∙ clean)
tree_clean job new did c (Skips why) is (inr (apart, did_is, new_is)) none clean = ap (λ (x : Running). has_begun x.work) new_is ∙ clean
tree_clean job new did c (Ends ending) is (work, winds, new_is) none clean =
    ap (λ (x : Running). has_begun x.work) new_is ∙ tree_winds ending c work did (subst (λ w. WorkWinds ending w did work) is winds) (sym (ap has_begun is) ∙ clean)

pub step_clean : (job new : Running) (did : Did) → JobTells job did new → ends did ≡ false → begins_change did ≡ false → has_begun job.work ≡ false → has_begun new.work ≡ false
step_clean job new did tells on none clean = by job.work refl
  where
    other : is_tree job.work ≡ false → has_begun new.work ≡ false
    other is = sym (told_begun new.id new.work) ∙ clean_after did (told_job job) (told_job new) (told_tree job.id job.work ∙ is) none (told_follows job new did tells on) (told_begun job.id job.work ∙ clean)

    by : (work : Work) → job.work ≡ work → has_begun new.work ≡ false
    by (Copy c) is = tree_clean job new did c job.course is tells none clean
    by (Delete d) is = other (ap is_tree is)
    by (Make m) is = other (ap is_tree is)
    by (Move m) is = other (ap is_tree is)
    by (SetMode s) is = other (ap is_tree is)
    by (RemoveEmptied r) is = other (ap is_tree is)

-- a job begins so
deletes_clean : (path : Route) (w : Work) (b : Bool) → (let o : Option Work = if◌then◌else◌ b (Some (deletes path)) None in o) ≡ Some w → has_begun w ≡ false
deletes_clean path w true is = let e : deletes path ≡ w = cc in ap has_begun (sym e)
deletes_clean path w false is = absurd (let f : ⊥ = cc in f)

makes_clean : (new : NewThing) (path : Route) (w : Work) (b : Bool) → (let o : Option Work = if◌then◌else◌ b (Some (makes new path)) None in o) ≡ Some w → has_begun w ≡ false
makes_clean new path w true is = let e : makes new path ≡ w = cc in ap has_begun (sym e)
makes_clean new path w false is = absurd (let f : ⊥ = cc in f)

trees_clean : (id : ℕ) (pair : Pair) (w : Work) (b : Bool) → (let o : Option Work = if◌then◌else◌ b (Some (copies id pair)) None in o) ≡ Some w → has_begun w ≡ false
trees_clean id pair w true is = let e : copies id pair ≡ w = cc in ap has_begun (sym e)
trees_clean id pair w false is = absurd (let f : ⊥ = cc in f)

moves_clean : (pair : Pair) (w : Work) (b : Bool) → (let o : Option Work = if◌then◌else◌ b (Some (moves pair)) None in o) ≡ Some w → has_begun w ≡ false
moves_clean pair w true is = let e : moves pair ≡ w = cc in ap has_begun (sym e)
moves_clean pair w false is = absurd (let f : ⊥ = cc in f)

sets_clean : (path : Route) (mode : ℕ) (w : Work) (b : Bool) → (let o : Option Work = if◌then◌else◌ b (Some (sets path mode)) None in o) ≡ Some w → has_begun w ≡ false
sets_clean path mode w true is = let e : sets path mode ≡ w = cc in ap has_begun (sym e)
sets_clean path mode w false is = absurd (let f : ⊥ = cc in f)

emptied_clean : (path : Route) (w : Work) (b : Bool) → (let o : Option Work = if◌then◌else◌ b (Some (removes_emptied path)) None in o) ≡ Some w → has_begun w ≡ false
emptied_clean path w true is = let e : removes_emptied path ≡ w = cc in ap has_begun (sym e)
emptied_clean path w false is = absurd (let f : ⊥ = cc in f)

pub first_clean : (id : ℕ) (job : Job) (w : Work) → first_work id job ≡ Some w → has_begun w ≡ false
first_clean id (plan.Delete []) w is = absurd (let f : ⊥ = cc in f)
first_clean id (plan.Delete (path ∷ [])) w is = deletes_clean path w (is_some (parent_of path)) is
first_clean id (plan.Delete (path ∷ more ∷ paths)) w is = absurd (let f : ⊥ = cc in f)
first_clean id (plan.Copy []) w is = absurd (let f : ⊥ = cc in f)
first_clean id (plan.Copy (pair ∷ [])) w is = trees_clean id pair w (is_some (parent_of pair.source) && is_some (parent_of pair.target)) is
first_clean id (plan.Copy (pair ∷ more ∷ pairs)) w is = absurd (let f : ⊥ = cc in f)
first_clean id (plan.Move []) w is = absurd (let f : ⊥ = cc in f)
first_clean id (plan.Move (pair ∷ [])) w is = moves_clean pair w ((is_some (parent_of pair.source) && is_some (parent_of pair.target)) && not (same_path pair.source pair.target)) is
first_clean id (plan.Move (pair ∷ more ∷ pairs)) w is = absurd (let f : ⊥ = cc in f)
first_clean id (plan.MakeFolder path) w is = makes_clean thing.Folder path w (is_some (parent_of path)) is
first_clean id (plan.MakeLink path text) w is = makes_clean (thing.Link text) path w (is_some (parent_of path) && is_link_text text) is
first_clean id (plan.SetMode [] mode) w is = absurd (let f : ⊥ = cc in f)
first_clean id (plan.SetMode (path ∷ []) mode) w is = sets_clean path mode w (is_some (parent_of path) && nat_le mode 0o7777) is
first_clean id (plan.SetMode (path ∷ more ∷ paths) mode) w is = absurd (let f : ⊥ = cc in f)
first_clean id (plan.RemoveEmptied path) w is = emptied_clean path w (is_some (parent_of path)) is
