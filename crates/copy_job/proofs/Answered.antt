-- What an answered skip and retry leave; and last steps are fewer than those of a copy that goes on.
use Rattle.std.proofs.Common.{◌≡◌, ℕ, ◌+◌, ◌^◌, ◌<◌, ◌≤◌, refl, sym, ◌∙◌, ap, subst, inl, inr, Bool, true, List, [], ◌∷◌, arith, Option, None}
use Rattle.mc_text.specs.Routes.{Route}
use Rattle.tree_trait.specs.Change.{CallLog}
use Rattle.job_answers.specs.declared.skips.Skips.{Skips as Kinds}
use Rattle.job_answers.specs.declared.replies.Replies.{Replies}
use Rattle.job_reports.specs.declared.report.Cause.{Cause}
use Rattle.job_reports.specs.declared.report.Did.{Did}
use Rattle.job_reports.specs.declared.report.StepResult.{StepResult}
use Rattle.copy_file.specs.Copying.{Copying, taken_anew as file_anew}
use Rattle.copy_file.specs.LastSteps.{left_at}
use Rattle.copy_file.specs.declared.stage.Stage.{Stage as FileStage}
use Rattle.copy_file.specs.declared.stage.Stage.TheVariants as file_stage
use Rattle.copy_file.specs.declared.stage.Next.TheVariants as file_next
use Rattle.copy_folders.specs.FolderCopying as folder
use Rattle.copy_folders.specs.FolderCopying.{FolderCopying}
use Rattle.copy_folders.specs.FolderSteps as folder_steps
use Rattle.copy_folders.specs.declared.stage.Stage.{Stage}
use Rattle.copy_folders.specs.declared.stage.Stage.TheVariants.{Make, Fill, Close, Done}
use Rattle.copy_link.specs.LinkCopying.{LinkCopying, taken_anew as link_anew}
use Rattle.copy_link.specs.declared.stage.Stage.{Stage as LinkStage}
use Rattle.copy_link.specs.declared.stage.Stage.TheVariants as link_stage
use Rattle.copy_link.specs.declared.stage.Next.TheVariants as link_next
use Rattle.tree_walk.specs.Places.{OpenFolder}
use Rattle.copy_folders.specs.Levels.{level}
use Rattle.copy_folders.specs.declared.level.Level.{Level}
use Rattle.copy_tree.specs.declared.item.ItemAtWork.{ItemAtWork}
use Rattle.copy_tree.specs.declared.item.ItemAtWork.TheVariants.{Next, File, Link, Stays}
use Rattle.copy_tree.specs.declared.progress.Progress.{Progress}
use Rattle.copy_tree.specs.declared.progress.Progress.TheVariants.{UnderWay, Decided, Anew}
use Rattle.copy_tree.specs.Falling.{AllMade, HasName, IsSteady, is_made}
use Rattle.copy_tree.specs.Progress.{link_progress, progress}
use Rattle.copy_tree.specs.Skipping.{SkipsAt, SkipsNamed, SkipsRest, retried_at}
use Rattle.copy_tree.specs.Standing.{Seen}
use Rattle.copy_tree.specs.TreeCopySteps.{IsWorkable, idle, copy_after_progress}
use Rattle.copy_tree.proofs.Beginnings.{beginning_law}
use Rattle.copy_tree.proofs.Fallings.{all_leave, falling_law}
use Rattle.copy_job.specs.Passing.{OrPassedOver}
use Rattle.copy_job.specs.Ranks.{AnsweredLaw, SteadyLaw, WaitingLaw, anew, around_rank, dirt, file_rank, item_rank, last_of, last_rank, level_rank, link_rank, marks_around, rank_by}
use Rattle.copy_job.specs.Standing.{named_of}
use Rattle.copy_job.specs.SubtreeSteps.{ListSteps, step_result}
use Rattle.copy_job.proofs.Ranked.{skip_falls}

-- a folder stays made whatever names are left in it
other_names : (inner : Level) (names : OpenFolder) (around : List Level) → AllMade inner around → AllMade (level names inner.copy) around
other_names inner names [] h = h
other_names inner names (outer ∷ around) h = h

other_copy : (inner : Level) (copy : FolderCopying) (around : List Level) → (is_made inner.copy.stage ≡ true → is_made copy.stage ≡ true) → AllMade inner around → AllMade (level inner.names copy) around
other_copy inner copy [] same h = same h
other_copy inner copy (outer ∷ around) same h = (same h.0, h.1)

settled_steady : (p : Progress) (item : ItemAtWork) (c : Seen) → HasName item c.levels → AllMade c.levels.inner c.levels.around → IsSteady (copy_after_progress p item (idle c))
settled_steady UnderWay item c has made = record { named = has; made = made }
settled_steady Decided item c has made = record { named = tt; made = other_names c.levels.inner _ c.levels.around made }
settled_steady Anew item c has made = record { named = tt; made = made }

-- nothing is at work
steady_next : (c : Seen) → c.item ≡ Next → AllMade c.levels.inner c.levels.around → IsSteady c
steady_next c none made = record { named = subst (λ (i : ItemAtWork). HasName i c.levels) (sym none) tt; made = made }

same_steady : (old new : Seen) → new ≡ old → IsSteady old → IsSteady new
same_steady old new is h = subst IsSteady (sym is) h

rest_steady : (cause : Cause) (old new : Seen) (did : Did) → SkipsRest cause old did new → old.item ≡ Next → IsSteady old → IsSteady new
rest_steady cause old new did (inl s) none h = subst IsSteady (sym s.1) (steady_next _ none (other_names old.levels.inner _ old.levels.around h.made))
rest_steady cause old new did (inr room) none h = same_steady old new room.1 h

skipped_made : (stage : Stage) → is_made stage ≡ true → is_made (folder.skipped_stage stage) ≡ true
skipped_made (Make mode) h = refl
skipped_made (Fill owed) h = refl
skipped_made (Close owed) h = refl
skipped_made Done h = refl

end_made : (cause : Cause) (c moved : FolderCopying) (did : Did) → folder_steps.Skips cause c did moved → is_made c.stage ≡ true → is_made moved.stage ≡ true
end_made cause c moved did (inl s) h = ap (λ (x : FolderCopying). is_made x.stage) s.1 ∙ skipped_made c.stage h
end_made cause c moved did (inr room) h = ap (λ (x : FolderCopying). is_made x.stage) room.1 ∙ h

named_steady : (names : List (List ℕ)) (cause : Cause) (old new : Seen) (did : Did) → SkipsNamed names cause old did new → old.item ≡ Next → IsSteady old → IsSteady new
named_steady [] cause old new did (moved, skips, stands) none h =
    subst IsSteady (sym stands) (steady_next _ none (other_copy old.levels.inner moved old.levels.around (end_made cause old.levels.inner.copy moved did skips) h.made))
named_steady (name ∷ names) cause old new did (inl s) none h = subst IsSteady (sym s.1) (steady_next _ none (other_names old.levels.inner _ old.levels.around h.made))
named_steady (name ∷ names) cause old new did (inr (inl s)) none h = rest_steady cause old new did s.1 none h
named_steady (name ∷ names) cause old new did (inr (inr room)) none h = same_steady old new room.1 h

skip_steady : (item : ItemAtWork) (cause : Cause) (old new : Seen) (did : Did) → old.item ≡ item → SkipsAt item cause old did new → IsSteady old → IsSteady new
skip_steady Next cause old new did is s h = named_steady old.levels.inner.names.names cause old new did s is h
skip_steady (File f) cause old new did is (moved, skips, stands) h =
    subst IsSteady (sym stands) (settled_steady (progress moved.stage) (File moved) old (let n = subst (λ (i : ItemAtWork). HasName i old.levels) is h.named in n) h.made)
skip_steady (Link l) cause old new did is (moved, skips, stands) h =
    subst IsSteady (sym stands) (settled_steady (link_progress moved.stage) (Link moved) old (let n = subst (λ (i : ItemAtWork). HasName i old.levels) is h.named in n) h.made)
skip_steady (Stays part) cause old new did is s h = absurd s

retry_steady : (item : ItemAtWork) (c : Seen) → c.item ≡ item → IsSteady c → IsSteady (retried_at item c)
retry_steady Next c is h = h
retry_steady (File f) c is h = settled_steady _ (File (record f { stage = file_anew f.stage })) c (let n = subst (λ (i : ItemAtWork). HasName i c.levels) is h.named in n) h.made
retry_steady (Link l) c is h = settled_steady _ (Link (record l { stage = link_anew l.stage })) c (let n = subst (λ (i : ItemAtWork). HasName i c.levels) is h.named in n) h.made
retry_steady (Stays part) c is h = h

-- each step does
passes_steady : (skips : Kinds) (worked : StepResult) (old new : Seen) (result : StepResult) → OrPassedOver skips worked old new result → IsSteady old → IsSteady new
passes_steady skips worked old new result (inl s) h = same_steady old new s.2 h
passes_steady skips worked old new result (inr s) h = skip_steady old.item s.0 old new result.did refl s.3 h

list_steady : (free : Route → Bool) (replies : Replies) (old new : Seen) (worked : StepResult) (dirty dirty_after : List Route) (before after : Option CallLog) (f0 f1 : ℕ) → ListSteps free replies old new worked dirty dirty_after before after f0 f1 → IsSteady old → IsSteady new
list_steady free replies old new worked dirty dirty_after before after f0 f1 (inl s) h = same_steady old new s.stays h
list_steady free replies old new worked dirty dirty_after before after f0 f1 (inr s) h = (let l = falling_law free replies old new worked.did worked.calls before after f0 f1 s.steps h in l.0)

pub steady_law : SteadyLaw
steady_law = record {
  begins = λ job top. (let law = beginning_law job (named_of top.source) (named_of top.target) in law.1);
  step = λ free replies old new did calls dirty dirty_after before after f0 f1 s h.
      let l = s.leaves in
      let mid = all_leave l.0 old.at s.mid l.1 h in
      passes_steady replies.skips s.worked s.moved new.at (step_result did calls) s.passes (list_steady free replies s.mid s.moved s.worked dirty dirty_after before after f0 f1 s.works mid.0);
  skip = λ cause old new did s h. skip_steady old.at.item cause old.at new.at did refl s.skips h;
  retry = λ c h. retry_steady c.at.item c.at refl h;
}

-- what is retried is begun once more, and its part is removed before
abbrev OneMore : ℕ → Seen → Seen → Type 0
OneMore most old new = rank_by most new ≤ rank_by most old + anew most + 4

file_retried : (most : ℕ) (c : Seen) (f : Copying) (stage : FileStage) → f.stage ≡ stage → progress stage ≡ UnderWay → left_at stage ≡ None → c.item ≡ File f
    → OneMore most c (copy_after_progress (progress (file_anew stage)) (File (record f { stage = file_anew stage })) (idle c))
file_retried most c f (file_stage.Fill part facts done) at going left is =
    let was : item_rank most c.item ≡ file_rank most (file_stage.Fill part facts done) = ap (item_rank most) is ∙ ap (file_rank most) at in omega (arith, was)
file_retried most c f (file_stage.Clean part file_next.Begin) at going left is =
    let was : item_rank most c.item ≡ anew most + 4 = ap (item_rank most) is ∙ ap (file_rank most) at in omega (arith, was)
file_retried most c f (file_stage.Clean part file_next.Decided) at going left is =
    let was : item_rank most c.item ≡ 4 = ap (item_rank most) is ∙ ap (file_rank most) at in omega (arith, was)
file_retried most c f (file_stage.Left part) at going left is = absurd (let e : ⊥ = cc in e)
file_retried most c f file_stage.Begin at going left is = absurd (let e : ⊥ = cc in e)
file_retried most c f file_stage.Decided at going left is = absurd (let e : ⊥ = cc in e)

link_retried : (most : ℕ) (c : Seen) (l : LinkCopying) (stage : LinkStage) → l.stage ≡ stage → link_progress stage ≡ UnderWay → c.item ≡ Link l
    → OneMore most c (copy_after_progress (link_progress (link_anew stage)) (Link (record l { stage = link_anew stage })) (idle c))
link_retried most c l link_stage.Place at going is = let was : item_rank most c.item ≡ 8 = ap (item_rank most) is ∙ ap (link_rank most) at in omega (arith, was)
link_retried most c l (link_stage.Clean link_next.Again) at going is = let was : item_rank most c.item ≡ anew most + 4 = ap (item_rank most) is ∙ ap (link_rank most) at in omega (arith, was)
link_retried most c l (link_stage.Clean link_next.Decided) at going is = let was : item_rank most c.item ≡ 4 = ap (item_rank most) is ∙ ap (link_rank most) at in omega (arith, was)
link_retried most c l link_stage.Left at going is = let was : item_rank most c.item ≡ 4 = ap (item_rank most) is ∙ ap (link_rank most) at in omega (arith, was)
link_retried most c l link_stage.Make at going is = absurd (let e : ⊥ = cc in e)
link_retried most c l link_stage.Again at going is = absurd (let e : ⊥ = cc in e)
link_retried most c l link_stage.Decided at going is = absurd (let e : ⊥ = cc in e)

retry_more : (most : ℕ) (item : ItemAtWork) (c : Seen) → c.item ≡ item → IsWorkable item → OneMore most c (retried_at item c)
retry_more most Next c is can = omega arith
retry_more most (File f) c is can = file_retried most c f f.stage refl can.0 can.1 is
retry_more most (Link l) c is can = link_retried most c l l.stage refl can.0 is
retry_more most (Stays part) c is can = absurd can

pub answered_law : AnsweredLaw
answered_law = record {
  skip = λ cause old new did s steady open_at h. skip_falls (2 ^ 64) old.at.item cause old.at new.at did s.skips refl open_at steady.named h;
  retry = λ c going. retry_more (2 ^ 64) c.at.item c.at refl going;
}

-- each mark is a step of its folder
mark_counts : (l : Level) → dirt l.copy.names ≤ level_rank l
mark_counts l = omega arith

marks_count : (around : List Level) → marks_around around ≤ around_rank around
marks_count [] = omega arith
marks_count (outer ∷ around) = let one = mark_counts outer in let more = marks_count around in omega (arith, one, more)

file_last : (most : ℕ) (stage : FileStage) → 3 < file_rank most stage
file_last most file_stage.Begin = omega arith
file_last most (file_stage.Fill part facts done) = omega arith
file_last most (file_stage.Clean part file_next.Begin) = omega arith
file_last most (file_stage.Clean part file_next.Decided) = omega arith
file_last most (file_stage.Left part) = omega arith
file_last most file_stage.Decided = omega arith

link_last : (most : ℕ) (stage : LinkStage) → 3 < link_rank most stage
link_last most link_stage.Make = omega arith
link_last most link_stage.Place = omega arith
link_last most (link_stage.Clean link_next.Again) = omega arith
link_last most (link_stage.Clean link_next.Decided) = omega arith
link_last most link_stage.Left = omega arith
link_last most link_stage.Again = omega arith
link_last most link_stage.Decided = omega arith

item_last : (most : ℕ) (item : ItemAtWork) → IsWorkable item → last_of item < item_rank most item
item_last most Next can = omega arith
item_last most (File f) can = file_last most f.stage
item_last most (Link l) can = link_last most l.stage
item_last most (Stays part) can = absurd can

waits : (most : ℕ) (c : Seen) → IsWorkable c.item → last_rank c < rank_by most c
waits most c going =
    let item = item_last most c.item going in
    let inner = mark_counts c.levels.inner in
    let around = marks_count c.levels.around in
    omega (arith, item, inner, around)

pub waiting_law : WaitingLaw
waiting_law c going = waits (2 ^ 64) c.at going
