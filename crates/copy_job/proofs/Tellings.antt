-- The part that stands, and whether anything was changed, after each step, skip and retry.
use Rattle.std.proofs.Common.{◌≡◌, ℕ, suc, zero, Bool, false, List, [], ◌∷◌, refl, sym, ◌∙◌, ap, inl, inr, Option, Some, None}
use Rattle.std.specs.Prelude.{if◌then◌else◌}
use Rattle.mc_text.specs.Routes.{Route}
use Rattle.tree_trait.specs.Change.{CallLog}
use Rattle.job_answers.specs.declared.replies.Replies.{Replies}
use Rattle.job_reports.specs.declared.report.Cause.{Cause}
use Rattle.job_reports.specs.declared.report.Did.{Did}
use Rattle.job_reports.specs.declared.report.Did.TheVariants.{Began, Chunk, Placed, Removed, Made, Set, Kept, Skipped, Cleaned, Barrier, Asked, Merges, Moved, Troubled, Ended}
use Rattle.job_reports.specs.declared.report.Ending.TheVariants.{Finished, Aborted, Killed, NoMemory}
use Rattle.job_reports.specs.declared.report.StepResult.{StepResult}
use Rattle.job_reports.specs.declared.report.Trouble.{Trouble}
use Rattle.copy_file.specs.Copying as file
use Rattle.copy_file.specs.Copying.{Copying, part_at}
use Rattle.copy_file.specs.declared.stage.Next.{Next as FileNext}
use Rattle.copy_file.specs.declared.stage.Next.TheVariants as file_next
use Rattle.copy_file.specs.declared.stage.Stage.{Stage as FileStage}
use Rattle.copy_file.specs.declared.stage.Stage.TheVariants as file_stage
use Rattle.copy_folders.specs.declared.stage.FolderDid.{FolderDid}
use Rattle.copy_folders.specs.declared.stage.FolderDid.TheVariants as folder_did
use Rattle.copy_link.specs.LinkCopying as link
use Rattle.copy_link.specs.LinkCopying.{LinkCopying, has_part}
use Rattle.copy_link.specs.declared.stage.Next.{Next as LinkNext}
use Rattle.copy_link.specs.declared.stage.Next.TheVariants as link_next
use Rattle.copy_link.specs.declared.stage.Stage.{Stage as LinkStage}
use Rattle.copy_link.specs.declared.stage.Stage.TheVariants as link_stage
use Rattle.copy_tree.specs.declared.copy.Stage.{Stage}
use Rattle.copy_tree.specs.declared.item.ItemAtWork.{ItemAtWork}
use Rattle.copy_tree.specs.declared.item.ItemAtWork.TheVariants.{Next, File, Link, Stays}
use Rattle.copy_tree.specs.declared.progress.Progress.{Progress}
use Rattle.copy_tree.specs.declared.progress.Progress.TheVariants.{UnderWay, Decided, Anew}
use Rattle.copy_tree.specs.Parts.{IsPartPlace}
use Rattle.copy_tree.specs.Progress.{link_progress, progress}
use Rattle.copy_tree.specs.Reports.{IsToldAs}
use Rattle.copy_tree.specs.Skipping as machine
use Rattle.copy_tree.specs.Standing.{Seen, after_report}
use Rattle.copy_tree.specs.TreeCopySteps.{FileWorks, IsWorkable, LeavesAll, LinkWorks, TakesNext, WorksOn, idle, noted_copy, copy_after_progress}
use Rattle.copy_job.specs.Leaving.{may_leave}
use Rattle.copy_job.specs.Passing.{OrPassedOver}
use Rattle.copy_job.specs.Standing.{SubtreeCopying, part_of}
use Rattle.copy_job.specs.SubtreeSteps.{ListSteps, SubtreeSteps, step_result}
use Rattle.copy_job.specs.Told.{ToldLaw, part_after}
use Rattle.copy_tree.proofs.PartsBegin.{file_taken}
use Rattle.copy_job.proofs.Barred.{passed_trouble}
use Rattle.copy_job.proofs.Targets.{works_at_once}

-- The part and the stage of the machine after a report.
pub record Goes (did : Did) (old new : Seen) : Type 0 where
  pub part : part_of new.item ≡ part_after did (part_of old.item)
  pub stage : new.stage ≡ after_report did old.stage

-- of a file: what is decided or to be begun has no part
settled_file : (stage : FileStage) (moved : Copying) (c : Seen) → moved.stage ≡ stage → c.item ≡ Next → part_of (let s : Seen = copy_after_progress (progress stage) (File moved) c in s.item) ≡ part_at stage
settled_file (file_stage.Fill part facts done) moved c is none = ap part_at is
settled_file (file_stage.Clean part next) moved c is none = ap part_at is
settled_file (file_stage.Left part) moved c is none = ap part_at is
settled_file file_stage.Begin moved c is none = ap part_of none
settled_file file_stage.Decided moved c is none = ap part_of none

abbrev link_part : LinkStage → Route → Option Route
link_part stage part = if has_part stage then Some part else None

settled_link : (stage : LinkStage) (moved : LinkCopying) (c : Seen) → moved.stage ≡ stage → c.item ≡ Next → part_of (let s : Seen = copy_after_progress (link_progress stage) (Link moved) c in s.item) ≡ link_part stage moved.part
settled_link link_stage.Place moved c is none = ap (λ s. link_part s moved.part) is
settled_link (link_stage.Clean next) moved c is none = ap (λ s. link_part s moved.part) is
settled_link link_stage.Left moved c is none = ap (λ s. link_part s moved.part) is
settled_link link_stage.Make moved c is none = ap part_of none
settled_link link_stage.Again moved c is none = ap part_of none
settled_link link_stage.Decided moved c is none = ap part_of none

pub settled_stage : (p : Progress) (item : ItemAtWork) (c : Seen) → (let s : Seen = copy_after_progress p item c in s.stage) ≡ c.stage
settled_stage UnderWay item c = refl
settled_stage Decided item c = refl
settled_stage Anew item c = refl

cleaned_file : (next : FileNext) → part_at (file.after_clean next) ≡ None
cleaned_file file_next.Begin = refl
cleaned_file file_next.Decided = refl

file_after : (f moved : Copying) (did : Did) → file.Tells f did moved → part_at moved.stage ≡ part_after did (part_at f.stage)
file_after f moved (Began part) (stage, (facts, is)) = ap (λ (c : Copying). part_at c.stage) is
file_after f moved (Chunk count) (part, facts, done, stage, least, most, fits, is) = ap (λ (c : Copying). part_at c.stage) is ∙ sym (ap part_at stage)
file_after f moved (Placed path) (part, facts, stage, path_is, is) = ap (λ (c : Copying). part_at c.stage) is
file_after f moved (Cleaned part) (next, stage, is) = ap (λ (c : Copying). part_at c.stage) is ∙ cleaned_file next
file_after f moved Barrier (stage, dirty, is) = ap (λ (c : Copying). part_at c.stage) is
file_after f moved (Troubled trouble) (barrier, is) = ap (λ (c : Copying). part_at c.stage) is
file_after f moved (Ended Finished part) (stage, clean, none, is) = ap (λ (c : Copying). part_at c.stage) is
file_after f moved (Ended Aborted part) t = absurd t
file_after f moved (Ended Killed part) t = absurd t
file_after f moved (Ended NoMemory part) t = absurd t
file_after f moved (Removed path) t = absurd t
file_after f moved (Made path) t = absurd t
file_after f moved (Set path) t = absurd t
file_after f moved (Kept path) t = absurd t
file_after f moved (Asked question) t = absurd t
file_after f moved (Merges transfer pair names) t = absurd t
file_after f moved (Moved pair) t = absurd t
file_after f moved (Skipped path cause) t = absurd t

cleaned_link : (next : LinkNext) (part : Route) → link_part (link.after_clean next) part ≡ None
cleaned_link link_next.Again part = refl
cleaned_link link_next.Decided part = refl

abbrev part_in : LinkCopying → Option Route
part_in l = link_part l.stage l.part

link_after : (l moved : LinkCopying) (did : Did) → link.Tells l did moved → part_in moved ≡ part_after did (part_in l)
link_after l moved (Began part) (stage, same, is) = ap part_in is ∙ ap (λ p. (let o : Option Route = Some p in o)) (sym same)
link_after l moved (Placed path) (stage, same, is) = ap part_in is
link_after l moved (Cleaned part) (next, stage, same, is) = ap part_in is ∙ cleaned_link next l.part
link_after l moved Barrier (stage, dirty, is) = ap part_in is
link_after l moved (Troubled trouble) (barrier, is) = ap part_in is
link_after l moved (Chunk count) t = absurd t
link_after l moved (Ended ending part) t = absurd t
link_after l moved (Removed path) t = absurd t
link_after l moved (Made path) t = absurd t
link_after l moved (Set path) t = absurd t
link_after l moved (Kept path) t = absurd t
link_after l moved (Asked question) t = absurd t
link_after l moved (Merges transfer pair names) t = absurd t
link_after l moved (Moved pair) t = absurd t
link_after l moved (Skipped path cause) t = absurd t

-- no part is begun or gone at a folder
told_none : (report : FolderDid) (did : Did) → IsToldAs report did → part_after did None ≡ None
told_none (folder_did.Made path) did told = ap (λ d. part_after d None) told
told_none (folder_did.Set path) did told = ap (λ d. part_after d None) told
told_none folder_did.Barrier did told = ap (λ d. part_after d None) told
told_none folder_did.Closed did told = absurd told
told_none (folder_did.Troubled trouble) did told = ap (λ d. part_after d None) told

module _ (old new : Seen) (did : Did) (before after : Option CallLog) where
  file_goes : (unclaimed : Route → Type 0) (f : Copying) (log log_after : Option CallLog) → part_of old.item ≡ part_at f.stage → FileWorks unclaimed f old new did log log_after → Goes did old new
  file_goes unclaimed f log log_after was w =
      let m = w.moved in
      let c = noted_copy did (file.is_dirty m.folder) (idle old) in record {
        part = ap (λ (s : Seen). part_of s.item) w.stands ∙ (settled_file m.stage m c refl refl ∙ (file_after f m did w.tells ∙ ap (part_after did) (sym was)));
        stage = ap (λ (s : Seen). s.stage) w.stands ∙ settled_stage (progress m.stage) (File m) c;
      }

  link_goes : (l : LinkCopying) → part_of old.item ≡ part_in l → LinkWorks l old new did before after → Goes did old new
  link_goes l was w =
      let m = w.moved in
      let c = noted_copy did (link.is_dirty m.folder) (idle old) in record {
        part = ap (λ (s : Seen). part_of s.item) w.stands ∙ (settled_link m.stage m c refl refl ∙ (link_after l m did w.tells ∙ ap (part_after did) (sym was)));
        stage = ap (λ (s : Seen). s.stage) w.stands ∙ settled_stage (link_progress m.stage) (Link m) c;
      }

  -- where nothing is at work, and no part is begun
  none_goes : old.item ≡ Next → new.item ≡ old.item → part_after did None ≡ None → new.stage ≡ after_report did old.stage → Goes did old new
  none_goes none same gone stage = record { part = ap part_of (same ∙ none) ∙ (sym gone ∙ ap (λ (i : ItemAtWork). part_after did (part_of i)) (sym none)); stage = stage }

  takes_goes : (unclaimed : Route → Type 0) (replies : Replies) → old.item ≡ Next → TakesNext unclaimed replies old new did before after → Goes did old new
  takes_goes unclaimed replies none (inl s) =
      none_goes none (ap (λ (c : Seen). c.item) s.stands) (ap (λ d. part_after d None) s.says) (ap (λ (c : Seen). c.stage) s.stands ∙ sym (ap (λ d. after_report d old.stage) s.says))
  takes_goes unclaimed replies none (inr (inl t)) = file_goes unclaimed _ None None (ap part_of none) (file_taken unclaimed replies old new did before after t)
  takes_goes unclaimed replies none (inr (inr (inl t))) = link_goes _ (ap part_of none) t.works
  takes_goes unclaimed replies none (inr (inr (inr (inl t)))) =
      let w = t.works in none_goes none (ap (λ (c : Seen). c.item) w.stands) (told_none w.report did w.says) (ap (λ (c : Seen). c.stage) w.stands)
  takes_goes unclaimed replies none (inr (inr (inr (inr (inl t))))) =
      none_goes none (ap (λ (c : Seen). c.item) t.stands) (ap (λ d. part_after d None) t.says) (ap (λ (c : Seen). c.stage) t.stands ∙ sym (ap (λ d. after_report d old.stage) t.says))
  takes_goes unclaimed replies none (inr (inr (inr (inr (inr (inl t)))))) =
      none_goes none (ap (λ (c : Seen). c.item) t.stands) (ap (λ d. part_after d None) t.says) (ap (λ (c : Seen). c.stage) t.stands ∙ sym (ap (λ d. after_report d old.stage) t.says))
  takes_goes unclaimed replies none (inr (inr (inr (inr (inr (inr (inl t))))))) =
      none_goes none (ap (λ (c : Seen). c.item) t.stands) (ap (λ d. part_after d None) t.says) (ap (λ (c : Seen). c.stage) t.stands ∙ sym (ap (λ d. after_report d old.stage) t.says))
  takes_goes unclaimed replies none (inr (inr (inr (inr (inr (inr (inr (next, inl (debt, e))))))))) = none_goes none (ap (λ (c : Seen). c.item) e.stands) (told_none e.report did e.says) (ap (λ (c : Seen). c.stage) e.stands)
  takes_goes unclaimed replies none (inr (inr (inr (inr (inr (inr (inr (next, inr (debt, f, same))))))))) =
      none_goes none (ap (λ (c : Seen). c.item) f.stands) (ap (λ d. part_after d None) f.says) (ap (λ (c : Seen). c.stage) f.stands ∙ sym (ap (λ d. after_report d old.stage) f.says))

  works_goes : (unclaimed : Route → Type 0) (replies : Replies) (item : ItemAtWork) → old.item ≡ item → WorksOn item unclaimed replies old new did before after → Goes did old new
  works_goes unclaimed replies Next is (inl s) = none_goes is (ap (λ (c : Seen). c.item) s.stands) (told_none s.report did s.says) (ap (λ (c : Seen). c.stage) s.stands)
  works_goes unclaimed replies Next is (inr t) = takes_goes unclaimed replies is t.1
  works_goes unclaimed replies (File f) is w = file_goes unclaimed f before after (ap part_of is) w
  works_goes unclaimed replies (Link l) is w = link_goes l (ap part_of is) w
  works_goes unclaimed replies (Stays part) is w = absurd w

-- A skip and a retry leave the part of what is at work where it stands.
same_file : (stage : FileStage) → progress stage ≡ UnderWay → part_at (file.skipped_stage stage) ≡ part_at stage
same_file (file_stage.Fill part facts done) going = refl
same_file (file_stage.Clean part next) going = refl
same_file (file_stage.Left part) going = refl
same_file file_stage.Begin going = refl
same_file file_stage.Decided going = refl

anew_file : (stage : FileStage) → part_at (file.taken_anew stage) ≡ part_at stage
anew_file (file_stage.Fill part facts done) = refl
anew_file (file_stage.Clean part next) = refl
anew_file (file_stage.Left part) = refl
anew_file file_stage.Begin = refl
anew_file file_stage.Decided = refl

same_link : (stage : LinkStage) (part : Route) → link_part (link.skipped_stage stage) part ≡ link_part stage part
same_link link_stage.Make part = refl
same_link link_stage.Place part = refl
same_link (link_stage.Clean next) part = refl
same_link link_stage.Left part = refl
same_link link_stage.Again part = refl
same_link link_stage.Decided part = refl

anew_link : (stage : LinkStage) (part : Route) → link_part (link.taken_anew stage) part ≡ link_part stage part
anew_link link_stage.Make part = refl
anew_link link_stage.Place part = refl
anew_link (link_stage.Clean next) part = refl
anew_link link_stage.Left part = refl
anew_link link_stage.Again part = refl
anew_link link_stage.Decided part = refl

-- nothing was changed, and no part is begun or gone
abbrev IsQuiet : Did → Type 0
IsQuiet did = ((part : Option Route) → part_after did part ≡ part) × ((stage : Stage) → after_report did stage ≡ stage)

quiet_skip : (did : Did) (path : Route) (cause : Cause) → did ≡ Skipped path cause → IsQuiet did
quiet_skip did path cause is = (λ part. ap (λ d. part_after d part) is, λ stage. ap (λ d. after_report d stage) is)

quiet_trouble : (did : Did) (trouble : Trouble) → did ≡ Troubled trouble → IsQuiet did
quiet_trouble did trouble is = (λ part. ap (λ d. part_after d part) is, λ stage. ap (λ d. after_report d stage) is)

pub stays : (did : Did) (old new : Seen) → IsQuiet did → part_of new.item ≡ part_of old.item → new.stage ≡ old.stage → Goes did old new
stays did old new quiet part stage = record { part = part ∙ sym (quiet.0 (part_of old.item)); stage = stage ∙ sym (quiet.1 old.stage) }

same_goes : (did : Did) (old new : Seen) → IsQuiet did → new ≡ old → Goes did old new
same_goes did old new quiet is = stays did old new quiet (ap (λ (c : Seen). part_of c.item) is) (ap (λ (c : Seen). c.stage) is)

rest_goes : (cause : Cause) (old new : Seen) (did : Did) → machine.SkipsRest cause old did new → Goes did old new
rest_goes cause old new did (inl s) = stays did old new (quiet_skip did _ cause s.0) (ap (λ (c : Seen). part_of c.item) s.1) (ap (λ (c : Seen). c.stage) s.1)
rest_goes cause old new did (inr room) = same_goes did old new (quiet_trouble did _ room.0) room.1

named_goes : (names : List (List ℕ)) (cause : Cause) (old new : Seen) (did : Did) → machine.SkipsNamed names cause old did new → Goes did old new
named_goes [] cause old new did (moved, inl s, stands) = stays did old new (quiet_skip did _ cause s.0) (ap (λ (c : Seen). part_of c.item) stands) (ap (λ (c : Seen). c.stage) stands)
named_goes [] cause old new did (moved, inr room, stands) = stays did old new (quiet_trouble did _ room.0) (ap (λ (c : Seen). part_of c.item) stands) (ap (λ (c : Seen). c.stage) stands)
named_goes (name ∷ names) cause old new did (inl s) = stays did old new (quiet_skip did _ cause s.0) (ap (λ (c : Seen). part_of c.item) s.1) (ap (λ (c : Seen). c.stage) s.1)
named_goes (name ∷ names) cause old new did (inr (inl s)) = rest_goes cause old new did s.1
named_goes (name ∷ names) cause old new did (inr (inr room)) = same_goes did old new (quiet_trouble did _ room.0) room.1

pub skips_goes : (item : ItemAtWork) (cause : Cause) (old new : Seen) (did : Did) → old.item ≡ item → IsWorkable item → machine.SkipsAt item cause old did new → Goes did old new
skips_goes Next cause old new did is can s = named_goes old.levels.inner.names.names cause old new did s
skips_goes (File f) cause old new did is can (moved, inl s, stands) =
    stays did old new (quiet_skip did _ cause s.0)
    (ap (λ (c : Seen). part_of c.item) stands
    ∙ (settled_file moved.stage moved (idle old) refl refl ∙ (ap (λ (c : Copying). part_at c.stage) s.1 ∙ (same_file f.stage can.0 ∙ sym (ap part_of is)))))
    (ap (λ (c : Seen). c.stage) stands ∙ settled_stage (progress moved.stage) (File moved) (idle old))
skips_goes (File f) cause old new did is can (moved, inr room, stands) =
    stays did old new (quiet_trouble did _ room.0) (ap (λ (c : Seen). part_of c.item) stands ∙ (settled_file moved.stage moved (idle old) refl refl ∙ (ap (λ (c : Copying). part_at c.stage) room.1 ∙ sym (ap part_of is))))
    (ap (λ (c : Seen). c.stage) stands ∙ settled_stage (progress moved.stage) (File moved) (idle old))
skips_goes (Link l) cause old new did is can (moved, inl s, stands) =
    stays did old new (quiet_skip did _ cause s.0)
    (ap (λ (c : Seen). part_of c.item) stands ∙ (settled_link moved.stage moved (idle old) refl refl ∙ (ap part_in s.1 ∙ (same_link l.stage l.part ∙ sym (ap part_of is)))))
    (ap (λ (c : Seen). c.stage) stands ∙ settled_stage (link_progress moved.stage) (Link moved) (idle old))
skips_goes (Link l) cause old new did is can (moved, inr room, stands) =
    stays did old new (quiet_trouble did _ room.0) (ap (λ (c : Seen). part_of c.item) stands ∙ (settled_link moved.stage moved (idle old) refl refl ∙ (ap part_in room.1 ∙ sym (ap part_of is))))
    (ap (λ (c : Seen). c.stage) stands ∙ settled_stage (link_progress moved.stage) (Link moved) (idle old))
skips_goes (Stays part) cause old new did is can s = absurd can

retry_part : (item : ItemAtWork) (c : Seen) → c.item ≡ item → part_of (let r : Seen = machine.retried_at item c in r.item) ≡ part_of item
retry_part Next c is = ap part_of is
retry_part (File f) c is = settled_file _ (record f { stage = file.taken_anew f.stage }) (idle c) refl refl ∙ anew_file f.stage
retry_part (Link l) c is = settled_link _ (record l { stage = link.taken_anew l.stage }) (idle c) refl refl ∙ anew_link l.stage l.part
retry_part (Stays part) c is = ap part_of is

retry_stage : (item : ItemAtWork) (c : Seen) → (let r : Seen = machine.retried_at item c in r.stage) ≡ c.stage
retry_stage Next c = refl
retry_stage (File f) c = settled_stage (progress (file.taken_anew f.stage)) (File (record f { stage = file.taken_anew f.stage })) (idle c)
retry_stage (Link l) c = settled_stage (link_progress (link.taken_anew l.stage)) (Link (record l { stage = link.taken_anew l.stage })) (idle c)
retry_stage (Stays part) c = refl

-- folders that are left
pub leaves_item : (n : ℕ) (old mid : Seen) → LeavesAll n old mid → (mid.item ≡ old.item) × (mid.stage ≡ old.stage)
leaves_item zero old mid is = (ap (λ (c : Seen). c.item) is, ap (λ (c : Seen). c.stage) is)
leaves_item (suc n) old mid (last, all, none, one) =
    let k = leaves_item n old last all in
    let r = one.returns in
    (ap (λ (c : Seen). c.item) r.stands ∙ k.0, ap (λ (c : Seen). c.stage) r.stands ∙ k.1)

pub list_goes : (free : Route → Bool) (replies : Replies) (old new : Seen) (worked : StepResult) (dirty dirty_after : List Route) (before after : Option CallLog) (f0 f1 : ℕ) → ListSteps free replies old new worked dirty dirty_after before after f0 f1
    → may_leave old ≡ false → Goes worked.did old new
list_goes free replies old new worked dirty dirty_after before after f0 f1 (inl s) settled_at = same_goes worked.did old new (quiet_trouble worked.did _ (ap (λ (r : StepResult). r.did) s.says)) s.stays
list_goes free replies old new worked dirty dirty_after before after f0 f1 (inr s) settled_at =
    works_goes old new worked.did before after (IsPartPlace free old) replies old.item refl (works_at_once free replies old new worked.did worked.calls before after f0 f1 s.steps settled_at)

step_goes : (free : Route → Bool) (replies : Replies) (old new : SubtreeCopying) (did : Did) (calls : ℕ) (dirty dirty_after : List Route) (before after : Option CallLog) (f0 f1 : ℕ) → SubtreeSteps free replies old new did calls dirty dirty_after before after f0 f1
    → Goes did old.at new.at
step_goes free replies old new did calls dirty dirty_after before after f0 f1 s = by s.passes
  where
    worked : Goes s.worked.did s.mid s.moved
    worked = list_goes free replies s.mid s.moved s.worked dirty dirty_after before after f0 f1 s.works s.settled

    same : (s.mid.item ≡ old.at.item) × (s.mid.stage ≡ old.at.stage)
    same = (let l = s.leaves in leaves_item l.0 old.at s.mid l.1)

    by : OrPassedOver replies.skips s.worked s.moved new.at (step_result did calls) → Goes did old.at new.at
    by (inl p) =
        let is : did ≡ s.worked.did = ap (λ (r : StepResult). r.did) p.1 in record {
          part = ap (λ (c : Seen). part_of c.item) p.2 ∙ (worked.part ∙ (ap (λ (i : ItemAtWork). part_after s.worked.did (part_of i)) same.0 ∙ ap (λ d. part_after d (part_of old.at.item)) (sym is)));
          stage = ap (λ (c : Seen). c.stage) p.2 ∙ (worked.stage ∙ (ap (λ st. after_report s.worked.did st) same.1 ∙ ap (λ d. after_report d old.at.stage) (sym is)));
        }
    by (inr p) =
        let t = passed_trouble replies.skips s.worked.did p.0 p.1 in
        let quiet = quiet_trouble s.worked.did t.0 t.1 in
        let skipped = skips_goes s.moved.item p.0 s.moved new.at did refl s.going p.3 in
        let part : part_of s.moved.item ≡ part_of old.at.item = worked.part ∙ (quiet.0 (part_of s.mid.item) ∙ ap part_of same.0) in
        let stage : s.moved.stage ≡ old.at.stage = worked.stage ∙ (quiet.1 s.mid.stage ∙ same.1) in
        record { part = skipped.part ∙ ap (part_after did) part; stage = skipped.stage ∙ ap (after_report did) stage }

pub told_law : ToldLaw
told_law = record {
  step = λ free replies old new did calls dirty dirty_after before after f0 f1 s going.
      let g = step_goes free replies old new did calls dirty dirty_after before after f0 f1 s in
      record { top = ap (λ (c : SubtreeCopying). c.top) s.stands; part = g.part; stage = g.stage };
  skip = λ cause old new did s going.
      let g = skips_goes old.at.item cause old.at new.at did refl going s.skips in
      record { top = ap (λ (c : SubtreeCopying). c.top) s.stands; part = g.part; stage = g.stage };
  retry = λ c. record { part = retry_part c.at.item c.at refl; stage = retry_stage c.at.item c.at };
}
