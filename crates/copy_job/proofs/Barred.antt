-- A trouble stands at a barrier where the copy does after it.
use Rattle.std.proofs.Common.{◌≡◌, ℕ, zero, suc, refl, sym, ◌∙◌, ◌||◌, ap, subst, inl, inr, Bool, true, false, List, [], ◌∷◌, Option, Some, None}
use Rattle.std.proofs.lemmas.Bool.{false≢true, true≢false}
use Rattle.mc_text.specs.Routes.{Route}
use Rattle.tree_trait.specs.Change.{CallLog}
use Rattle.job_answers.specs.declared.replies.Replies.{Replies}
use Rattle.job_reports.specs.declared.job.Pair.{Pair}
use Rattle.job_reports.specs.declared.report.Cause.{Cause}
use Rattle.job_reports.specs.declared.report.Did.{Did}
use Rattle.job_reports.specs.declared.report.Did.TheVariants.{Began, Chunk, Placed, Removed, Made, Set, Kept, Skipped, Cleaned, Barrier, Asked, Merges, Moved, Troubled, Ended}
use Rattle.job_reports.specs.declared.report.StepResult.{StepResult}
use Rattle.job_reports.specs.declared.report.Trouble.{Trouble}
use Rattle.job_reports.specs.Stops.{out_of_memory_at}
use Rattle.std.specs.Prelude.{◌&&◌, not, if◌then◌else◌}
use Rattle.job_answers.specs.Skipping.{holds, kind_in, passed_cause}
use Rattle.job_answers.specs.declared.skips.Skips.{Skips}
use Rattle.copy_file.specs.Copying as file
use Rattle.copy_file.specs.Copying.{Copying}
use Rattle.copy_file.specs.CopySteps as file_steps
use Rattle.copy_file.specs.declared.stage.Stage.TheVariants as file_stage
use Rattle.copy_folders.specs.FolderCopying as folder
use Rattle.copy_folders.specs.FolderCopying.{FolderCopying, is_dirty}
use Rattle.copy_folders.specs.FolderSteps as folder_steps
use Rattle.copy_folders.specs.FolderSteps.{at_sync}
use Rattle.copy_folders.specs.declared.stage.FolderDid.{FolderDid}
use Rattle.copy_folders.specs.declared.stage.FolderDid.TheVariants as folder_did
use Rattle.copy_folders.specs.declared.stage.NamesState.TheVariants as marks
use Rattle.copy_folders.specs.declared.stage.Stage.{Stage}
use Rattle.copy_folders.specs.declared.stage.Stage.TheVariants.{Make, Fill, Close, Done}
use Rattle.copy_link.specs.LinkCopying as link
use Rattle.copy_link.specs.LinkCopying.{LinkCopying}
use Rattle.copy_link.specs.LinkSteps as link_steps
use Rattle.copy_link.specs.declared.stage.Stage.TheVariants as link_stage
use Rattle.tree_walk.specs.Places.{opened_folder}
use Rattle.copy_folders.specs.declared.level.Level.{Level}
use Rattle.copy_folders.specs.Levels.{Levels, is_around_dirty, made_levels, owed_at}
use Rattle.copy_tree.specs.declared.due.Due.TheVariants.{End, Thing}
use Rattle.copy_tree.specs.declared.item.ItemAtWork.{ItemAtWork}
use Rattle.copy_tree.specs.declared.item.ItemAtWork.TheVariants.{Next, File, Link, Stays}
use Rattle.copy_tree.specs.declared.progress.Progress.TheVariants.{UnderWay}
use Rattle.copy_tree.specs.Falling.{AllMade, IsSteady, is_made}
use Rattle.copy_tree.specs.Parts.{IsPartPlace}
use Rattle.copy_tree.specs.Progress.{link_progress, progress}
use Rattle.copy_tree.specs.Reports.{IsToldAs}
use Rattle.copy_tree.specs.Skipping as machine
use Rattle.copy_tree.specs.Standing.{Seen, due, due_at}
use Rattle.copy_tree.specs.TreeCopySteps.{FileWorks, FolderEnds, FolderMakes, GoesOn, IsWorkable, LeavesAll, LinkWorks, SyncsAround, TakesNext, WhyStopped, WorksOn, at_end, has_debt, idle, link_begun, noted_copy, copy_after_progress}
use Rattle.copy_tree.proofs.Fallings.{all_leave}
use Rattle.copy_job.specs.Barriers.{BarrierLaw}
use Rattle.copy_job.specs.Leaving.{may_leave}
use Rattle.copy_job.specs.Passing.{OrPassedOver}
use Rattle.copy_job.specs.Standing.{at_barrier, barrier_at, barrier_at_end, barrier_at_name}
use Rattle.copy_job.specs.SubtreeSteps.{ListSteps, step_result}
use Rattle.copy_tree.proofs.PartsBegin.{file_taken}
use Rattle.copy_job.proofs.Targets.{works_at_once}

-- what is in a trouble
abbrev pub Says : Did → Trouble → Type 0
Says did t = did ≡ Troubled t

-- a name is next
abbrev pub HasNext : Seen → Type 0
HasNext c = (name : List ℕ) × (rest : List (List ℕ)) × (c.levels.inner.names.names ≡ name ∷ rest)

pub next_at : (names : List (List ℕ)) (c : Seen) (pair : Pair) → due_at names c ≡ Thing pair → (name : List ℕ) × (rest : List (List ℕ)) × (names ≡ name ∷ rest)
next_at [] c pair is = absurd (let f : ⊥ = cc in f)
next_at (name ∷ names) c pair is = (name, names, refl)

-- nothing bars a name that is next
pub unbarred : (c : Seen) → c.item ≡ Next → is_around_dirty c.levels.around ≡ false → HasNext c → at_barrier c ≡ false
unbarred c free clean h =
    ap (λ (i : ItemAtWork). barrier_at i c.levels) free
    ∙ (ap (λ b. b || barrier_at_name c.levels.inner.names.names c.levels.inner.copy.stage) clean ∙ ap (λ names. barrier_at_name names c.levels.inner.copy.stage) h.2)

pub why_next : (unclaimed : Route → Type 0) (replies : Replies) (c : Seen) (t : Trouble) (before : Option CallLog) → WhyStopped unclaimed replies c t before → HasNext c
why_next unclaimed replies c t before (inl d) = (d.0, d.1, d.2)
why_next unclaimed replies c t before (inr (inl d)) = next_at c.levels.inner.names.names c d.0 d.1
why_next unclaimed replies c t before (inr (inr (inl d))) = next_at c.levels.inner.names.names c d.0 d.1
why_next unclaimed replies c t before (inr (inr (inr d))) = next_at c.levels.inner.names.names c d.0 d.1

-- a trouble of a file leaves its copy where it stood
pub file_same : (f m : Copying) (report : Did) (t : Trouble) → file.Tells f report m → report ≡ Troubled t → (t.barrier ≡ file.at_barrier f.stage) × (m ≡ f)
file_same f m report t tells is = subst (λ (d : Did). file.Tells f d m) is tells

pub link_same : (l m : LinkCopying) (report : Did) (t : Trouble) → link.Tells l report m → report ≡ Troubled t → (t.barrier ≡ link.at_barrier l.stage) × (m ≡ l)
link_same l m report t tells is = subst (λ (d : Did). link.Tells l d m) is tells

-- what is taken up anew has a name yet
anew_next : (changed : Bool) (did : Did) (c : Seen) → is_around_dirty c.levels.around ≡ false → HasNext c → at_barrier (noted_copy did changed (idle c)) ≡ false
anew_next true did c clean h = unbarred (noted_copy did true (idle c)) refl clean h
anew_next false did c clean h = unbarred (noted_copy did false (idle c)) refl clean h

file_begins : (unclaimed : Route → Type 0) (f : Copying) (old new : Seen) (did : Did) (before after : Option CallLog) (t : Trouble) → FileWorks unclaimed f old new did before after → Says did t → f.stage ≡ file_stage.Begin
    → is_around_dirty old.levels.around ≡ false → HasNext old → t.barrier ≡ at_barrier new
file_begins unclaimed f old new did before after t w says begin clean h =
    let same = file_same f w.moved did t w.tells says in
    let m = w.moved in
    let stage : m.stage ≡ file_stage.Begin = ap (λ (x : Copying). x.stage) same.1 ∙ begin in
    (same.0 ∙ ap file.at_barrier begin)
    ∙ sym (ap at_barrier w.stands ∙ (ap (λ s. at_barrier (copy_after_progress (progress s) (File m) (noted_copy did (file.is_dirty m.folder) (idle old)))) stage ∙ anew_next (file.is_dirty m.folder) did old clean h))

link_begins : (l : LinkCopying) (old new : Seen) (did : Did) (before after : Option CallLog) (t : Trouble) → LinkWorks l old new did before after → Says did t → l.stage ≡ link_stage.Make
    → is_around_dirty old.levels.around ≡ false → HasNext old → t.barrier ≡ at_barrier new
link_begins l old new did before after t w says begin clean h =
    let same = link_same l w.moved did t w.tells says in
    let m = w.moved in
    let stage : m.stage ≡ link_stage.Make = ap (λ (x : LinkCopying). x.stage) same.1 ∙ begin in
    (same.0 ∙ ap link.at_barrier begin)
    ∙ sym (ap at_barrier w.stands ∙ (ap (λ s. at_barrier (copy_after_progress (link_progress s) (Link m) (noted_copy did (link.is_dirty m.folder) (idle old)))) stage ∙ anew_next (link.is_dirty m.folder) did old clean h))

-- a file or a link that is at work stays so
file_on : (unclaimed : Route → Type 0) (f : Copying) (old new : Seen) (did : Did) (before after : Option CallLog) (t : Trouble) → FileWorks unclaimed f old new did before after → Says did t → progress f.stage ≡ UnderWay
    → t.barrier ≡ at_barrier new
file_on unclaimed f old new did before after t w says going =
    let same = file_same f w.moved did t w.tells says in
    let m = w.moved in
    let stage : m.stage ≡ f.stage = ap (λ (x : Copying). x.stage) same.1 in
    (same.0 ∙ sym (ap file.at_barrier stage)) ∙ sym (ap at_barrier w.stands ∙ ap (λ p. at_barrier (copy_after_progress p (File m) (noted_copy did (file.is_dirty m.folder) (idle old)))) (ap progress stage ∙ going))

link_on : (l : LinkCopying) (old new : Seen) (did : Did) (before after : Option CallLog) (t : Trouble) → LinkWorks l old new did before after → Says did t → link_progress l.stage ≡ UnderWay → t.barrier ≡ at_barrier new
link_on l old new did before after t w says going =
    let same = link_same l w.moved did t w.tells says in
    let m = w.moved in
    let stage : m.stage ≡ l.stage = ap (λ (x : LinkCopying). x.stage) same.1 in
    (same.0 ∙ sym (ap link.at_barrier stage)) ∙ sym (ap at_barrier w.stands ∙ ap (λ p. at_barrier (copy_after_progress p (Link m) (noted_copy did (link.is_dirty m.folder) (idle old)))) (ap link_progress stage ∙ going))

-- a trouble at a folder
pub folder_same : (c m : FolderCopying) (report : FolderDid) (did : Did) (t : Trouble) → IsToldAs report did → folder.Tells c report m → Says did t → (t.barrier ≡ folder.at_barrier c.stage) × (m ≡ c)
folder_same c m (folder_did.Troubled trouble) did t told tells says =
    let same : trouble ≡ t = (let e : Troubled trouble ≡ Troubled t = sym told ∙ says in cc) in
    subst (λ (x : Trouble). (x.barrier ≡ folder.at_barrier c.stage) × (m ≡ c)) same tells
folder_same c m (folder_did.Made path) did t told tells says = absurd (let e = sym told ∙ says in let f : ⊥ = cc in f)
folder_same c m (folder_did.Set path) did t told tells says = absurd (let e = sym told ∙ says in let f : ⊥ = cc in f)
folder_same c m folder_did.Barrier did t told tells says = absurd (let e = sym told ∙ says in let f : ⊥ = cc in f)
folder_same c m folder_did.Closed did t told tells says = absurd told

makes_next : (pair : Pair) (names : List (List ℕ)) (mode : ℕ) (old new : Seen) (did : Did) (before after : Option CallLog) (t : Trouble) → FolderMakes pair names mode old new did before after → Says did t → old.item ≡ Next
    → is_around_dirty old.levels.around ≡ false → HasNext old → t.barrier ≡ at_barrier new
makes_next pair names mode old new did before after t w says free clean h =
    let same = folder_same (folder.copying pair.source pair.target (Make mode) marks.Synced) w.moved w.report did t w.says w.tells says in
    let stage : (let m = w.moved in m.stage) ≡ Make mode = ap (λ (x : FolderCopying). x.stage) same.1 in
    let levels : new.levels ≡ old.levels = ap (λ (c : Seen). c.levels) w.stands ∙ ap (λ (s : Stage). made_levels s (opened_folder pair.source names) w.moved old.levels) stage in
    let item : new.item ≡ Next = ap (λ (c : Seen). c.item) w.stands ∙ free in
    same.0 ∙ sym (unbarred new item (ap (λ (l : Levels). is_around_dirty l.around) levels ∙ clean) (h.0, h.1, ap (λ (l : Levels). l.inner.names.names) levels ∙ h.2))

-- the end of a folder that stands
owed_barrier : (stage : Stage) (dirty : Bool) → is_made stage ≡ true → owed_at (folder.closing stage) dirty ≡ true → folder.at_barrier (folder.closing stage) ≡ barrier_at_end (folder.closing stage)
owed_barrier (Make mode) dirty made owes = absurd (false≢true made)
owed_barrier (Fill None) dirty made owes = refl
owed_barrier (Fill (Some mode)) dirty made owes = refl
owed_barrier (Close None) dirty made owes = refl
owed_barrier (Close (Some mode)) dirty made owes = refl
owed_barrier Done dirty made owes = absurd (false≢true owes)

no_name : (names : List (List ℕ)) (c : Seen) → due_at names c ≡ End → names ≡ []
no_name [] c is = refl
no_name (name ∷ names) c is = absurd (let f : ⊥ = cc in f)

inner_made : (inner : Level) (around : List Level) → AllMade inner around → is_made inner.copy.stage ≡ true
inner_made inner [] h = h
inner_made inner (outer ∷ around) h = h.0

ends_barred : (old new : Seen) (did : Did) (before after : Option CallLog) (t : Trouble) → FolderEnds (at_end old) new did before after → Says did t → due old ≡ End → has_debt (at_end old) ≡ true → old.item ≡ Next
    → is_around_dirty old.levels.around ≡ false → IsSteady old → t.barrier ≡ at_barrier new
ends_barred old new did before after t e says next owes free clean steady =
    let c : FolderCopying = (let s = at_end old in s.levels.inner.copy) in
    let same = folder_same c e.moved e.report did t e.says e.tells says in
    let there : at_barrier new ≡ barrier_at_end (folder.closing old.levels.inner.copy.stage) =
    ap at_barrier e.stands
    ∙ (ap (λ (i : ItemAtWork). barrier_at i (let s : Levels = record old.levels { inner = record { names = old.levels.inner.names; copy = e.moved } } in s)) free
    ∙ (ap (λ b. b || barrier_at_name old.levels.inner.names.names (let m = e.moved in m.stage)) clean
    ∙ (ap (λ names. barrier_at_name names (let m = e.moved in m.stage)) (no_name old.levels.inner.names.names old next) ∙ ap (λ (x : FolderCopying). barrier_at_end x.stage) same.1))) in
    (same.0 ∙ owed_barrier old.levels.inner.copy.stage (is_dirty old.levels.inner.copy.names) (inner_made old.levels.inner old.levels.around steady.made) owes) ∙ sym there

syncs_barred : (old new : Seen) (did : Did) (before after : Option CallLog) (t : Trouble) → SyncsAround old new did before after → Says did t → old.item ≡ Next → t.barrier ≡ at_barrier new
syncs_barred old new did before after t s says free =
    let same = folder_same (at_sync s.outer.copy) (record (at_sync s.outer.copy) { names = s.names }) s.report did t s.says s.tells says in
    let dirty : is_dirty s.names ≡ true = ap (λ (x : FolderCopying). is_dirty x.names) same.1 in
    same.0
    ∙ sym (ap at_barrier s.stands
    ∙ (ap (λ (i : ItemAtWork). barrier_at i (let l : Levels = record old.levels { around = (let o : Level = record { names = s.outer.names; copy = record s.outer.copy { names = s.names } } in o) ∷ s.around } in l)) free ∙ ap (λ b. b || barrier_at_name old.levels.inner.names.names old.levels.inner.copy.stage) dirty))

takes_barred : (unclaimed : Route → Type 0) (replies : Replies) (old new : Seen) (did : Did) (before after : Option CallLog) (t : Trouble) → TakesNext unclaimed replies old new did before after → Says did t → old.item ≡ Next
    → is_around_dirty old.levels.around ≡ false → IsSteady old → t.barrier ≡ at_barrier new
takes_barred unclaimed replies old new did before after t (inl s) says free clean steady =
    let same : s.trouble ≡ t = (let e : Troubled s.trouble ≡ Troubled t = sym s.says ∙ says in cc) in
    (sym (ap (λ (x : Trouble). x.barrier) same) ∙ s.apart) ∙ sym (ap at_barrier s.stands ∙ unbarred old free clean (why_next unclaimed replies old s.trouble before s.why))
takes_barred unclaimed replies old new did before after t (inr (inl w)) says free clean steady =
    file_begins unclaimed (file.begun_copy old.job w.pair.source w.pair.target) old new did None None t (file_taken unclaimed replies old new did before after w) says refl clean (next_at old.levels.inner.names.names old w.pair w.next)
takes_barred unclaimed replies old new did before after t (inr (inr (inl w))) says free clean steady =
    link_begins (link_begun w.pair w.part) old new did before after t w.works says refl clean (next_at old.levels.inner.names.names old w.pair w.next)
takes_barred unclaimed replies old new did before after t (inr (inr (inr (inl w)))) says free clean steady =
    makes_next w.pair w.names w.mode old new did before after t w.works says free clean (next_at old.levels.inner.names.names old w.pair w.next)
takes_barred unclaimed replies old new did before after t (inr (inr (inr (inr (inl m))))) says free clean steady = absurd (let e = sym m.says ∙ says in let g : ⊥ = cc in g)
takes_barred unclaimed replies old new did before after t (inr (inr (inr (inr (inr (inl m)))))) says free clean steady = absurd (let e = sym m.says ∙ says in let g : ⊥ = cc in g)
takes_barred unclaimed replies old new did before after t (inr (inr (inr (inr (inr (inr (inl m))))))) says free clean steady = absurd (let e = sym m.says ∙ says in let g : ⊥ = cc in g)
takes_barred unclaimed replies old new did before after t (inr (inr (inr (inr (inr (inr (inr (next, inl (debt, e))))))))) says free clean steady = ends_barred old new did before after t e says next debt free clean steady
takes_barred unclaimed replies old new did before after t (inr (inr (inr (inr (inr (inr (inr (next, inr (debt, f, same))))))))) says free clean steady = absurd (let e = sym f.says ∙ says in let g : ⊥ = cc in g)

goes_barred : (unclaimed : Route → Type 0) (replies : Replies) (old new : Seen) (did : Did) (before after : Option CallLog) (t : Trouble) → GoesOn unclaimed replies old new did before after → Says did t → old.item ≡ Next → IsSteady old
    → t.barrier ≡ at_barrier new
goes_barred unclaimed replies old new did before after t (inl s) says free steady = syncs_barred old new did before after t s says free
goes_barred unclaimed replies old new did before after t (inr s) says free steady = takes_barred unclaimed replies old new did before after t s.1 says free s.0 steady

works_barred : (unclaimed : Route → Type 0) (replies : Replies) (item : ItemAtWork) (old new : Seen) (did : Did) (before after : Option CallLog) (t : Trouble) → WorksOn item unclaimed replies old new did before after → Says did t → old.item ≡ item → IsSteady old
    → IsWorkable item → t.barrier ≡ at_barrier new
works_barred unclaimed replies Next old new did before after t w says is steady can = goes_barred unclaimed replies old new did before after t w says is steady
works_barred unclaimed replies (File f) old new did before after t w says is steady can = file_on unclaimed f old new did before after t w says can.0
works_barred unclaimed replies (Link l) old new did before after t w says is steady can = link_on l old new did before after t w says can.0
works_barred unclaimed replies (Stays part) old new did before after t w says is steady can = absurd w

pub list_barred : (free : Route → Bool) (replies : Replies) (old new : Seen) (worked : StepResult) (dirty dirty_after : List Route) (before after : Option CallLog) (f0 f1 : ℕ) (t : Trouble)
    → ListSteps free replies old new worked dirty dirty_after before after f0 f1 → worked.did ≡ Troubled t → may_leave old ≡ false → IsSteady old → IsWorkable old.item → t.barrier ≡ at_barrier new
list_barred free replies old new worked dirty dirty_after before after f0 f1 t (inl s) says settled steady can =
    let same : out_of_memory_at (at_barrier old) ≡ t = (let e : Troubled (out_of_memory_at (at_barrier old)) ≡ Troubled t = sym (ap (λ (r : StepResult). r.did) s.says) ∙ says in cc) in
    sym (ap (λ (x : Trouble). x.barrier) same) ∙ sym (ap at_barrier s.stays)
list_barred free replies old new worked dirty dirty_after before after f0 f1 t (inr s) says settled steady can =
    works_barred (IsPartPlace free old) replies old.item old new worked.did before after t (works_at_once free replies old new worked.did worked.calls before after f0 f1 s.steps settled) says refl steady can

-- what is left where a trouble was passed over
end_unbarred : (stage : Stage) → barrier_at_end stage ≡ false → folder.at_barrier stage ≡ false
end_unbarred (Close (Some mode)) h = refl
end_unbarred (Close None) h = absurd (true≢false h)
end_unbarred (Fill owed) h = absurd (true≢false h)
end_unbarred (Make mode) h = absurd (true≢false h)
end_unbarred Done h = absurd (true≢false h)

or_parts : (a b : Bool) → (a || b) ≡ false → (a ≡ false) × (b ≡ false)
or_parts true b h = absurd (true≢false h)
or_parts false b h = (refl, h)

-- nothing is barred in the levels
abbrev pub IsOpenAt : Seen → Type 0
IsOpenAt c = (is_around_dirty c.levels.around ≡ false) × (barrier_at_name c.levels.inner.names.names c.levels.inner.copy.stage ≡ false)

pub opens_at : (c : Seen) → c.item ≡ Next → at_barrier c ≡ false → IsOpenAt c
opens_at c free open_at = or_parts _ _ (sym (ap (λ (i : ItemAtWork). barrier_at i c.levels) free) ∙ open_at)

no_room : (cause : Cause) (old new : Seen) (did : Did) (t : Trouble) → machine.NoRoom old did new → did ≡ Troubled t → at_barrier old ≡ false → t.barrier ≡ at_barrier new
no_room cause old new did t n says free =
    let same : out_of_memory_at false ≡ t = (let e : Troubled (out_of_memory_at false) ≡ Troubled t = sym n.0 ∙ says in cc) in
    sym (ap (λ (x : Trouble). x.barrier) same) ∙ sym (ap at_barrier n.1 ∙ free)

rest_barred : (cause : Cause) (old new : Seen) (did : Did) (t : Trouble) → machine.SkipsRest cause old did new → did ≡ Troubled t → at_barrier old ≡ false → t.barrier ≡ at_barrier new
rest_barred cause old new did t (inl s) says free = absurd (let e = sym s.0 ∙ says in let f : ⊥ = cc in f)
rest_barred cause old new did t (inr n) says free = no_room cause old new did t n says free

name_barred : (name : List ℕ) (cause : Cause) (old new : Seen) (did : Did) (t : Trouble) → machine.SkipsName name cause old did new → did ≡ Troubled t → at_barrier old ≡ false → t.barrier ≡ at_barrier new
name_barred name cause old new did t (inl s) says free = absurd (let e = sym s.0 ∙ says in let f : ⊥ = cc in f)
name_barred name cause old new did t (inr (inl s)) says free = rest_barred cause old new did t s.1 says free
name_barred name cause old new did t (inr (inr n)) says free = no_room cause old new did t n says free

end_barred : (cause : Cause) (old new : Seen) (did : Did) (t : Trouble) → machine.SkipsEnd cause old did new → did ≡ Troubled t → old.item ≡ Next → at_barrier old ≡ false → old.levels.inner.names.names ≡ [] → t.barrier ≡ at_barrier new
end_barred cause old new did t s says free open_at none = go s.1
  where
    go : folder_steps.Skips cause old.levels.inner.copy did s.0 → t.barrier ≡ at_barrier new
    go (inl k) = absurd (let e = sym k.0 ∙ says in let f : ⊥ = cc in f)
    go (inr k) =
        let opens = opens_at old free open_at in
        let stage = sym (ap (λ names. barrier_at_name names old.levels.inner.copy.stage) none) ∙ opens.1 in
        let same : out_of_memory_at (folder.at_barrier old.levels.inner.copy.stage) ≡ t = (let e : Troubled (out_of_memory_at (folder.at_barrier old.levels.inner.copy.stage)) ≡ Troubled t = sym k.0 ∙ says in cc) in
        (sym (ap (λ (x : Trouble). x.barrier) same) ∙ end_unbarred old.levels.inner.copy.stage stage)
        ∙ sym (ap at_barrier s.2 ∙ (ap (λ (x : FolderCopying). at_barrier (record old { levels = record old.levels { inner = (let l : Level = record { names = old.levels.inner.names; copy = x } in l) } })) k.1 ∙ open_at))

named_barred : (names : List (List ℕ)) (cause : Cause) (old new : Seen) (did : Did) (t : Trouble) → machine.SkipsNamed names cause old did new → did ≡ Troubled t → old.item ≡ Next → at_barrier old ≡ false
    → old.levels.inner.names.names ≡ names → t.barrier ≡ at_barrier new
named_barred [] cause old new did t s says free open_at is = end_barred cause old new did t s says free open_at is
named_barred (name ∷ names) cause old new did t s says free open_at is = name_barred name cause old new did t s says open_at

file_left : (cause : Cause) (f : Copying) (old new : Seen) (did : Did) (t : Trouble) → machine.SkipsFile cause f old did new → did ≡ Troubled t → progress f.stage ≡ UnderWay → t.barrier ≡ at_barrier new
file_left cause f old new did t s says going = go s.1
  where
    go : file_steps.Skips cause f did s.0 → t.barrier ≡ at_barrier new
    go (inl k) = absurd (let e = sym k.0 ∙ says in let f : ⊥ = cc in f)
    go (inr k) =
        let same : out_of_memory_at (file.at_barrier f.stage) ≡ t = (let e : Troubled (out_of_memory_at (file.at_barrier f.stage)) ≡ Troubled t = sym k.0 ∙ says in cc) in
        sym (ap (λ (x : Trouble). x.barrier) same)
        ∙ sym (ap at_barrier s.2 ∙ (ap (λ (x : Copying). at_barrier (copy_after_progress (progress x.stage) (File x) old)) k.1 ∙ ap (λ p. at_barrier (copy_after_progress p (File f) old)) going))

link_left : (cause : Cause) (l : LinkCopying) (old new : Seen) (did : Did) (t : Trouble) → machine.SkipsLink cause l old did new → did ≡ Troubled t → link_progress l.stage ≡ UnderWay → t.barrier ≡ at_barrier new
link_left cause l old new did t s says going = go s.1
  where
    go : link_steps.Skips cause l did s.0 → t.barrier ≡ at_barrier new
    go (inl k) = absurd (let e = sym k.0 ∙ says in let f : ⊥ = cc in f)
    go (inr k) =
        let same : out_of_memory_at (link.at_barrier l.stage) ≡ t = (let e : Troubled (out_of_memory_at (link.at_barrier l.stage)) ≡ Troubled t = sym k.0 ∙ says in cc) in
        sym (ap (λ (x : Trouble). x.barrier) same)
        ∙ sym (ap at_barrier s.2 ∙ (ap (λ (x : LinkCopying). at_barrier (copy_after_progress (link_progress x.stage) (Link x) old)) k.1 ∙ ap (λ p. at_barrier (copy_after_progress p (Link l) old)) going))

skip_barred : (item : ItemAtWork) (cause : Cause) (old new : Seen) (did : Did) (t : Trouble) → machine.SkipsAt item cause old did new → did ≡ Troubled t → old.item ≡ item → IsWorkable item → at_barrier old ≡ false → t.barrier ≡ at_barrier new
skip_barred Next cause old new did t s says is can open_at = named_barred old.levels.inner.names.names cause old new did t s says is open_at refl
skip_barred (File f) cause old new did t s says is can open_at = file_left cause f (idle old) new did t s says can.0
skip_barred (Link l) cause old new did t s says is can open_at = link_left cause l (idle old) new did t s says can.0
skip_barred (Stays part) cause old new did t s says is can open_at = absurd s

-- a trouble that is passed over doesn't stand at a barrier
passed_so : (barrier held : Bool) (cause why : Cause) → (if not barrier && held then Some cause else None) ≡ Some why → barrier ≡ false
passed_so true held cause why is = absurd (let f : ⊥ = cc in f)
passed_so false held cause why is = refl

pub passed_trouble : (skips : Skips) (did : Did) (why : Cause) → passed_cause skips did ≡ Some why → (t : Trouble) × (did ≡ Troubled t) × (t.barrier ≡ false)
passed_trouble skips (Troubled t) why is = (t, refl, passed_so t.barrier (holds skips (kind_in t.cause)) t.cause why is)
passed_trouble skips (Began part) why is = absurd (let f : ⊥ = cc in f)
passed_trouble skips (Chunk count) why is = absurd (let f : ⊥ = cc in f)
passed_trouble skips (Set path) why is = absurd (let f : ⊥ = cc in f)
passed_trouble skips (Placed path) why is = absurd (let f : ⊥ = cc in f)
passed_trouble skips (Removed path) why is = absurd (let f : ⊥ = cc in f)
passed_trouble skips (Made path) why is = absurd (let f : ⊥ = cc in f)
passed_trouble skips (Kept path) why is = absurd (let f : ⊥ = cc in f)
passed_trouble skips (Asked question) why is = absurd (let f : ⊥ = cc in f)
passed_trouble skips (Merges transfer pair names) why is = absurd (let f : ⊥ = cc in f)
passed_trouble skips (Moved pair) why is = absurd (let f : ⊥ = cc in f)
passed_trouble skips (Skipped path cause) why is = absurd (let f : ⊥ = cc in f)
passed_trouble skips (Cleaned part) why is = absurd (let f : ⊥ = cc in f)
passed_trouble skips Barrier why is = absurd (let f : ⊥ = cc in f)
passed_trouble skips (Ended ending part) why is = absurd (let f : ⊥ = cc in f)

-- a step can be made where some folders were left
pub left_workable : (n : ℕ) (old mid : Seen) → LeavesAll n old mid → IsWorkable old.item → IsWorkable mid.item
left_workable zero old mid is can = subst (λ (c : Seen). IsWorkable c.item) (sym is) can
left_workable (suc n) old mid l can = let left = l.3 in let r = left.returns in subst IsWorkable (sym (ap (λ (c : Seen). c.item) r.stands ∙ l.2)) tt

pub barrier_law : BarrierLaw
barrier_law free replies old new t calls dirty dirty_after before after f0 f1 s steady can =
    let l = s.leaves in
    let m = all_leave l.0 old.at s.mid l.1 steady in
    let there = left_workable l.0 old.at s.mid l.1 can in
    go m.0 there s.passes
  where
    go : IsSteady s.mid → IsWorkable s.mid.item → OrPassedOver replies.skips s.worked s.moved new.at (step_result (Troubled t) calls) → t.barrier ≡ at_barrier new.at
    go steady_there can_there (inl p) =
        list_barred free replies s.mid s.moved s.worked dirty dirty_after before after f0 f1 t s.works (sym (ap (λ (r : StepResult). r.did) p.1)) s.settled steady_there can_there ∙ sym (ap at_barrier p.2)
    go steady_there can_there (inr p) =
        let trouble = passed_trouble replies.skips s.worked.did p.0 p.1 in
        let open_at = sym (list_barred free replies s.mid s.moved s.worked dirty dirty_after before after f0 f1 trouble.0 s.works trouble.1 s.settled steady_there can_there) ∙ trouble.2 in
        skip_barred s.moved.item p.0 s.moved new.at (Troubled t) t p.3 refl refl s.going open_at
