-- The calls of a step are those of the machine's.
use Rattle.std.specs.Prelude.{◌⊎◌, ◌&&◌, not, if◌then◌else◌}
use Rattle.std.proofs.Common.{◌≡◌, ℕ, refl, sym, ◌∙◌, ap, subst, inl, inr, arith, Bool, true, false, List, [], ◌∷◌, length, Option, Some, None}
use Rattle.mc_text.specs.Routes.{Route}
use Rattle.tree_trait.specs.declared.calls.TreeError.TheVariants as refused
use Rattle.tree_trait.specs.Answers.{IfKnown, HasRisen}
use Rattle.tree_trait.specs.Change.{CallLog}
use Rattle.job_answers.specs.Skipping.{holds, kind_in, passed_cause}
use Rattle.job_answers.specs.declared.skips.Skips.{Skips}
use Rattle.job_answers.specs.declared.replies.Replies.{Replies}
use Rattle.job_reports.specs.declared.report.Cause.{Cause}
use Rattle.job_reports.specs.declared.report.Cause.TheVariants.{Tree}
use Rattle.job_reports.specs.declared.report.Did.{Did}
use Rattle.job_reports.specs.declared.report.Did.TheVariants.{Began, Chunk, Placed, Removed, Made, Set, Kept, Skipped, Cleaned, Barrier, Asked, Merges, Moved, Troubled, Ended}
use Rattle.job_reports.specs.declared.report.StepResult.{StepResult}
use Rattle.job_reports.specs.declared.report.Trouble.{Trouble}
use Rattle.job_reports.specs.Reports.{IsFault}
use Rattle.job_reports.specs.CallRuns.{HasMore}
use Rattle.job_reports.specs.Stops.{out_of_memory_at}
use Rattle.copy_file.specs.Copying as file
use Rattle.copy_file.specs.Copying.{Copying}
use Rattle.copy_file.specs.CopySteps as file_steps
use Rattle.copy_folders.specs.declared.stage.FolderDid.{FolderDid}
use Rattle.copy_folders.specs.declared.stage.FolderDid.TheVariants as folder_did
use Rattle.copy_folders.specs.FolderSteps as folder_steps
use Rattle.copy_link.specs.LinkCopying as link
use Rattle.copy_link.specs.LinkCopying.{LinkCopying}
use Rattle.copy_link.specs.LinkSteps as link_steps
use Rattle.copy_tree.specs.declared.item.ItemAtWork.{ItemAtWork}
use Rattle.copy_tree.specs.declared.item.ItemAtWork.TheVariants.{Next, File, Link, Stays}
use Rattle.copy_tree.specs.Reports.{IsToldAs}
use Rattle.copy_tree.specs.Parts.{IsPartPlace}
use Rattle.copy_tree.specs.Skipping as machine
use Rattle.copy_tree.specs.Standing.{Seen}
use Rattle.copy_tree.specs.TreeCopySteps.{FileWorks, LinkWorks, TakesNext, WorksOn}
use Rattle.copy_job.specs.Counted.{CountLaw, MeetsFault, StepCounts}
use Rattle.copy_job.specs.Passing.{OrPassedOver}
use Rattle.copy_job.specs.SubtreeSteps.{ListSteps, step_result}
use Rattle.copy_tree.proofs.PartsBegin.{file_taken}
use Rattle.copy_job.proofs.Barred.{passed_trouble}

-- no call was made
pub none_made : (before after : Option CallLog) → after ≡ before → IfKnown before (λ log. IfKnown after (HasMore log 0))
none_made before after same log known now known_now =
    let e : Some now ≡ Some log = sym known_now ∙ (same ∙ known) in
    let f : now ≡ log = cc in
    let l : length now.changes ≡ length log.changes = ap (λ (x : CallLog). length x.changes) f in
    omega (arith, l)

-- a report that meets a fault tells of one
meets : (did : Did) → MeetsFault did → ((t : Trouble) × (did ≡ Troubled t) × (t.cause ≡ Tree refused.Fault)) ⊎ ((path : Route) × (cause : Cause) × (did ≡ Skipped path cause) × (cause ≡ Tree refused.Fault))
meets (Troubled t) h = inl (t, refl, h)
meets (Skipped path cause) h = inr (path, cause, refl, h)
meets (Began part) h = absurd h
meets (Chunk count) h = absurd h
meets (Placed path) h = absurd h
meets (Removed path) h = absurd h
meets (Made path) h = absurd h
meets (Set path) h = absurd h
meets (Kept path) h = absurd h
meets (Asked question) h = absurd h
meets (Merges transfer pair names) h = absurd h
meets (Moved pair) h = absurd h
meets (Cleaned part) h = absurd h
meets Barrier h = absurd h
meets (Ended ending part) h = absurd h

-- the machine's steps pass over nothing
abbrev Passes : Did → Type 0
Passes did = (path : Route) × (cause : Cause) × (did ≡ Skipped path cause)

file_keeps : (unclaimed : Route → Type 0) (f : Copying) (old new : Seen) (did : Did) (before after : Option CallLog) → FileWorks unclaimed f old new did before after → Passes did → ⊥
file_keeps unclaimed f old new did before after w p = subst (λ (d : Did). file.Tells f d w.moved) p.2 w.tells

link_keeps : (l : LinkCopying) (old new : Seen) (did : Did) (before after : Option CallLog) → LinkWorks l old new did before after → Passes did → ⊥
link_keeps l old new did before after w p = subst (λ (d : Did). link.Tells l d w.moved) p.2 w.tells

told_keeps : (report : FolderDid) (did : Did) → IsToldAs report did → Passes did → ⊥
told_keeps (folder_did.Made path) did told p = let e = sym told ∙ p.2 in let f : ⊥ = cc in f
told_keeps (folder_did.Set path) did told p = let e = sym told ∙ p.2 in let f : ⊥ = cc in f
told_keeps folder_did.Barrier did told p = let e = sym told ∙ p.2 in let f : ⊥ = cc in f
told_keeps folder_did.Closed did told p = told
told_keeps (folder_did.Troubled trouble) did told p = let e = sym told ∙ p.2 in let f : ⊥ = cc in f

takes_keep : (unclaimed : Route → Type 0) (replies : Replies) (old new : Seen) (did : Did) (before after : Option CallLog) → TakesNext unclaimed replies old new did before after → Passes did → ⊥
takes_keep unclaimed replies old new did before after (inl s) p = let e = sym s.says ∙ p.2 in let f : ⊥ = cc in f
takes_keep unclaimed replies old new did before after (inr (inl t)) p = file_keeps unclaimed _ old new did None None (file_taken unclaimed replies old new did before after t) p
takes_keep unclaimed replies old new did before after (inr (inr (inl t))) p = link_keeps _ old new did before after t.works p
takes_keep unclaimed replies old new did before after (inr (inr (inr (inl t)))) p = let w = t.works in told_keeps w.report did w.says p
takes_keep unclaimed replies old new did before after (inr (inr (inr (inr (inl t))))) p = let e = sym t.says ∙ p.2 in let g : ⊥ = cc in g
takes_keep unclaimed replies old new did before after (inr (inr (inr (inr (inr (inl t)))))) p = let e = sym t.says ∙ p.2 in let g : ⊥ = cc in g
takes_keep unclaimed replies old new did before after (inr (inr (inr (inr (inr (inr (inl t))))))) p = let e = sym t.says ∙ p.2 in let g : ⊥ = cc in g
takes_keep unclaimed replies old new did before after (inr (inr (inr (inr (inr (inr (inr (next, inl (debt, e))))))))) p = told_keeps e.report did e.says p
takes_keep unclaimed replies old new did before after (inr (inr (inr (inr (inr (inr (inr (next, inr (debt, f, same))))))))) p = let e = sym f.says ∙ p.2 in let g : ⊥ = cc in g

works_keep : (unclaimed : Route → Type 0) (replies : Replies) (item : ItemAtWork) (old new : Seen) (did : Did) (before after : Option CallLog) → WorksOn item unclaimed replies old new did before after → Passes did → ⊥
works_keep unclaimed replies Next old new did before after (inl s) p = told_keeps s.report did s.says p
works_keep unclaimed replies Next old new did before after (inr s) p = takes_keep unclaimed replies old new did before after s.1 p
works_keep unclaimed replies (File f) old new did before after w p = file_keeps unclaimed f old new did before after w p
works_keep unclaimed replies (Link l) old new did before after w p = link_keeps l old new did before after w p
works_keep unclaimed replies (Stays part) old new did before after w p = w

-- a step with the list of dirty folders
list_counts : (free : Route → Bool) (replies : Replies) (old new : Seen) (worked : StepResult) (dirty dirty_after : List Route) (before after : Option CallLog) (f0 f1 : ℕ)
    → ListSteps free replies old new worked dirty dirty_after before after f0 f1 → StepCounts worked.did worked.calls before after f0 f1
list_counts free replies old new worked dirty dirty_after before after f0 f1 (inl s) =
    subst (λ (r : StepResult). StepCounts r.did r.calls before after f0 f1) (sym s.says) record {
      counted = none_made before after s.same;
      few = omega arith;
      unknown = λ h. s.same ∙ h;
      later = (let l = s.later in omega (arith, l));
      fault = λ h. absurd (let f : ⊥ = cc in f);
    }
list_counts free replies old new worked dirty dirty_after before after f0 f1 (inr s) =
    let steps = s.steps in
    let c = steps.counts in
    record { counted = c.counted; few = c.few; unknown = c.unknown; later = c.later; fault = λ h. risen (meets worked.did h) }
  where
    risen : ((t : Trouble) × (worked.did ≡ Troubled t) × (t.cause ≡ Tree refused.Fault)) ⊎ ((path : Route) × (cause : Cause) × (worked.did ≡ Skipped path cause) × (cause ≡ Tree refused.Fault)) → HasRisen f0 f1
    risen (inl m) =
        let steps = s.steps in
        let c = steps.counts in
        c.fault (subst IsFault (sym m.1) m.2)
    risen (inr m) =
        let steps = s.steps in
        absurd (works_keep (IsPartPlace free steps.mid) replies (let mid = steps.mid in mid.item) steps.mid new worked.did before after steps.works (m.0, m.1, m.2))

-- what is passed over is told with its cause, or there is no memory to tell it
abbrev TellsCause : Cause → Did → Type 0
TellsCause cause did = MeetsFault did → cause ≡ Tree refused.Fault

says_cause : (cause : Cause) (did : Did) (path : Route) → did ≡ Skipped path cause → TellsCause cause did
says_cause cause did path is h = subst MeetsFault is h

says_room : (cause : Cause) (did : Did) (barrier : Bool) → did ≡ Troubled (out_of_memory_at barrier) → TellsCause cause did
says_room cause did barrier is h = absurd (let e : MeetsFault (Troubled (out_of_memory_at barrier)) = subst MeetsFault is h in let f : ⊥ = cc in f)

rest_cause : (cause : Cause) (old new : Seen) (did : Did) → machine.SkipsRest cause old did new → TellsCause cause did
rest_cause cause old new did (inl s) = says_cause cause did _ s.0
rest_cause cause old new did (inr n) = says_room cause did false n.0

named_cause : (names : List (List ℕ)) (cause : Cause) (old new : Seen) (did : Did) → machine.SkipsNamed names cause old did new → TellsCause cause did
named_cause [] cause old new did s = go s.1
  where
    go : folder_steps.Skips cause old.levels.inner.copy did s.0 → TellsCause cause did
    go (inl k) = says_cause cause did _ k.0
    go (inr k) = says_room cause did _ k.0
named_cause (name ∷ names) cause old new did (inl s) = says_cause cause did _ s.0
named_cause (name ∷ names) cause old new did (inr (inl s)) = rest_cause cause old new did s.1
named_cause (name ∷ names) cause old new did (inr (inr n)) = says_room cause did false n.0

file_cause : (cause : Cause) (f m : Copying) (did : Did) → file_steps.Skips cause f did m → TellsCause cause did
file_cause cause f m did (inl k) = says_cause cause did _ k.0
file_cause cause f m did (inr k) = says_room cause did _ k.0

link_cause : (cause : Cause) (l m : LinkCopying) (did : Did) → link_steps.Skips cause l did m → TellsCause cause did
link_cause cause l m did (inl k) = says_cause cause did _ k.0
link_cause cause l m did (inr k) = says_room cause did _ k.0

skip_cause : (item : ItemAtWork) (cause : Cause) (old new : Seen) (did : Did) → machine.SkipsAt item cause old did new → TellsCause cause did
skip_cause Next cause old new did s = named_cause old.levels.inner.names.names cause old new did s
skip_cause (File f) cause old new did s = file_cause cause f s.0 did s.1
skip_cause (Link l) cause old new did s = link_cause cause l s.0 did s.1
skip_cause (Stays part) cause old new did s = absurd s

-- the cause that is passed over is that of the trouble
cause_so : (barrier held : Bool) (cause why : Cause) → (if not barrier && held then Some cause else None) ≡ Some why → why ≡ cause
cause_so true held cause why is = absurd (let f : ⊥ = cc in f)
cause_so false true cause why is = (let e : Some cause ≡ Some why = is in cc)
cause_so false false cause why is = absurd (let f : ⊥ = cc in f)

passed_so : (skips : Skips) (did : Did) (t : Trouble) (why : Cause) → did ≡ Troubled t → passed_cause skips did ≡ Some why → why ≡ t.cause
passed_so skips did t why says is = cause_so t.barrier (holds skips (kind_in t.cause)) t.cause why (sym (ap (λ d. passed_cause skips d) says) ∙ is)

pub count_law : CountLaw
count_law free replies old new did calls dirty dirty_after before after f0 f1 s = go s.passes
  where
    go : OrPassedOver replies.skips s.worked s.moved new.at (step_result did calls) → StepCounts did calls before after f0 f1
    go (inl p) =
        subst (λ (r : StepResult). StepCounts r.did r.calls before after f0 f1) (sym p.1) (list_counts free replies s.mid s.moved s.worked dirty dirty_after before after f0 f1 s.works)
    go (inr p) =
        let c = list_counts free replies s.mid s.moved s.worked dirty dirty_after before after f0 f1 s.works in
        let same : calls ≡ (let w = s.worked in w.calls) = p.2 in
        let t = passed_trouble replies.skips s.worked.did p.0 p.1 in
        record {
          counted = subst (λ n. IfKnown before (λ log. IfKnown after (HasMore log n))) (sym same) c.counted;
          few = (let few = c.few in omega (arith, few, same));
          unknown = c.unknown;
          later = c.later;
          fault = λ h. c.fault (subst MeetsFault (sym t.1) (sym (passed_so replies.skips s.worked.did t.0 p.0 t.1 p.1) ∙ skip_cause s.moved.item p.0 s.moved new.at did p.3 h));
        }
