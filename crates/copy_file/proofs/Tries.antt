-- The last steps: a part is removed or stays, and the folder's sync is tried.
use Rattle.std.proofs.Common.{◌≡◌, ℕ, ◌+◌, ◌<◌, ◌≤◌, false, refl, sym, ap, subst, Option, Some, None, Result, Ok, Err, arith}
use Rattle.mc_text.specs.Routes.{Route}
use Rattle.tree_trait.specs.declared.calls.TreeError.{TreeError}
use Rattle.tree_trait.specs.declared.calls.TreeError.TheVariants as refused
use Rattle.tree_trait.specs.Calls.{Call, RemoveFile, SyncFolder}
use Rattle.tree_trait.specs.Change.{CallLog}
use Rattle.tree_trait.specs.Answers.{IfKnown, HasCause, HasRisen, Performs}
use Rattle.job_reports.specs.declared.report.Ending.{Ending}
use Rattle.job_reports.specs.declared.report.Did.{Did}
use Rattle.job_reports.specs.declared.report.Did.TheVariants.{Began, Chunk, Placed, Removed, Made, Set, Kept, Skipped, Cleaned, Barrier, Asked, Merges, Moved, Troubled, Ended}
use Rattle.copy_file.specs.declared.stage.Stage.{Stage}
use Rattle.copy_file.specs.declared.stage.Stage.TheVariants.{Begin, Fill, Clean, Left, Decided}
use Rattle.copy_file.specs.declared.stage.FolderState.{FolderState}
use Rattle.copy_file.specs.declared.stage.FolderState.TheVariants.{Synced, Dirty}
use Rattle.copy_file.specs.declared.winding.AfterLastStep.{AfterLastStep}
use Rattle.job_reports.specs.CallRuns.{HasMore}
use Rattle.copy_file.specs.Copying.{Copying, IsSound, Places, copying}
use Rattle.job_reports.specs.Paths.{folder_of}
use Rattle.copy_file.specs.LastSteps.{Leaves, SyncAnswers, SyncTried, WindMoves, Winds, WindsOn, given_up, last_steps, let_go, removable}
use Rattle.job_reports.specs.Stops.{refusal_in, calls_made_for}
use Rattle.job_reports.proofs.Runs.{ran_one, risen_before}
use Rattle.job_reports.proofs.Tried.{answered, counts_try, fault_tried, tries_few}

-- a refused call leaves a log
err_some : (call : Call) (e : TreeError) (log : CallLog) (after : Option CallLog) → Performs {A = Unit {0}} log call (Err e) after → (now : CallLog) × (after ≡ Some now)
err_some call refused.Memory log after h = (log, h)
err_some call refused.Fault log after h = (_, h.1.1)
err_some call e log after h = (_, h.1)

-- with no part to be removed
settled_same : (stage : Stage) → removable stage ≡ None → given_up stage ≡ stage
settled_same Begin h = refl
settled_same (Fill part facts done) h = absurd cc
settled_same (Clean part follows) h = absurd cc
settled_same (Left part) h = refl
settled_same Decided h = refl

settled_fewer : (stage : Stage) → removable stage ≡ None → last_steps stage Synced < last_steps stage Dirty
settled_fewer Begin h = omega arith
settled_fewer (Fill part facts done) h = absurd cc
settled_fewer (Clean part follows) h = absurd cc
settled_fewer (Left part) h = omega arith
settled_fewer Decided h = omega arith

-- with a part to be removed
left_after : (stage : Stage) (part : Route) → removable stage ≡ Some part → given_up stage ≡ Left part
left_after Begin part h = absurd cc
left_after (Fill q facts done) part h = let same : q ≡ part = cc in ap Left same
left_after (Clean q follows) part h = let same : q ≡ part = cc in ap Left same
left_after (Left q) part h = absurd cc
left_after Decided part h = absurd cc

three_left : (stage : Stage) (part : Route) → removable stage ≡ Some part → last_steps stage Dirty ≡ 3
three_left Begin part h = absurd cc
three_left (Fill q facts done) part h = refl
three_left (Clean q follows) part h = refl
three_left (Left q) part h = absurd cc
three_left Decided part h = absurd cc

module _ (ending : Ending) (p : Places) (stage : Stage) (before after : Option CallLog) where
  -- the sync of the folder was tried
  pub winds_tried : (folder : FolderState) (at : Route) (answer : Result (Unit {0}) TreeError) (calls : ℕ) (left : Option TreeError) (f0 f1 : ℕ) → removable stage ≡ None → folder ≡ Dirty → at ≡ folder_of p.target
      → calls ≡ calls_made_for answer → left ≡ refusal_in answer → IfKnown before (λ log. Performs {A = Unit {0}} log (SyncFolder at) answer after) → (before ≡ None → after ≡ None) → HasCause refused.Fault f0 f1 answer
      → WindsOn ending (copying p stage folder) (copying p stage Synced) Barrier calls left before after f0 f1
  winds_tried folder at answer calls left f0 f1 settled owed at_is calls_is left_is called unknown cause = record {
    tells = (owed, ap (λ s. copying p s Synced) (sym (settled_same stage settled)));
    called = λ log known.
        subst (λ part. SyncTried (copying p stage folder) part log after) (sym settled)
        (answer, subst (λ q. Performs {A = Unit {0}} log (SyncFolder q) answer after) at_is (called log known));
    synced = λ log known.
        subst (λ part. SyncAnswers (copying p stage folder) part left log after) (sym settled)
        (subst (λ a. Performs {A = Unit {0}} log (SyncFolder (folder_of p.target)) a after) (answered answer left left_is)
        (subst (λ q. Performs {A = Unit {0}} log (SyncFolder q) answer after) at_is (called log known)));
    counted = λ log known now is. subst (λ n. HasMore log n now) (sym calls_is) (counts_try (SyncFolder at) answer log now after (called log known) is);
    few = let few = tries_few answer in omega (arith, few, calls_is);
    unknown = unknown;
    later = cause.later;
    fault = fault_tried answer left f0 f1 left_is cause;
    falls = subst (λ f. last_steps stage Synced < last_steps stage f) (sym owed) (settled_fewer stage settled);
  }

  module _ (part : Route) (has : removable stage ≡ Some part) where
    -- the part was removed
    pub winds_cleaned : (done : Unit {0}) (f0 f1 : ℕ) → IfKnown before (λ log. Performs {A = Unit {0}} log (RemoveFile part) (Ok done) after) → (before ≡ None → after ≡ None)
        → HasCause refused.Fault f0 f1 (let r : Result (Unit {0}) TreeError = Ok done in r)
        → WindsOn ending (copying p stage Dirty) (copying p Decided Dirty) (Cleaned part) 1 None before after f0 f1
    winds_cleaned done f0 f1 called unknown cause =
        let ran = ran_one (RemoveFile part) (Ok done) part false before after f0 f1 refl called unknown cause in
        let three = three_left stage part has in
        record {
          tells = (has, refl);
          called = ran.done;
          synced = λ log known. refl;
          counted = ran.counted;
          few = omega arith;
          unknown = unknown;
          later = cause.later;
          fault = λ h. absurd cc;
          falls = omega (arith, three);
        }

    -- the part stays, and the sync of the folder was tried
    winds_stays : (e : TreeError) (mid : Option CallLog) (answer : Result (Unit {0}) TreeError) (left : Option TreeError) (calls total f0 f1 f2 : ℕ) → calls ≡ calls_made_for (Err e) → total ≡ calls + calls_made_for answer
        → left ≡ refusal_in answer → IfKnown before (λ log. Performs {A = Unit {0}} log (RemoveFile part) (Err e) mid) → IfKnown mid (λ log. Performs {A = Unit {0}} log (SyncFolder (folder_of p.target)) answer after)
        → (before ≡ None → after ≡ None) → f0 ≤ f2 → (left ≡ Some refused.Fault → HasRisen f0 f2)
        → WindsOn ending (copying p stage Dirty) (copying p (Left part) Synced) Barrier total left before after f0 f2
    winds_stays e mid answer left calls total f0 f1 f2 calls_is total_is left_is removed synced unknown later fault =
        let three = three_left stage part has in
        record {
          tells = (refl, ap (λ s. copying p s Synced) (sym (left_after stage part has)));
          called = λ log known.
              let middle = err_some (RemoveFile part) e log mid (removed log known) in
              subst (λ q. SyncTried (copying p stage Dirty) q log after) (sym has)
              (e, middle.0, subst (Performs {A = Unit {0}} log (RemoveFile part) (Err e)) middle.1 (removed log known), (answer, synced middle.0 middle.1));
          synced = λ log known.
              let middle = err_some (RemoveFile part) e log mid (removed log known) in
              subst (λ q. SyncAnswers (copying p stage Dirty) q left log after) (sym has) (
                e,
                middle.0,
                subst (Performs {A = Unit {0}} log (RemoveFile part) (Err e)) middle.1 (removed log known),
                subst (λ a. Performs {A = Unit {0}} middle.0 (SyncFolder (folder_of p.target)) a after) (answered answer left left_is) (synced middle.0 middle.1),
              );
          counted = λ log known now is.
              let middle = err_some (RemoveFile part) e log mid (removed log known) in
              let first = counts_try (RemoveFile part) (Err e) log middle.0 mid (removed log known) middle.1 in
              let second = counts_try (SyncFolder (folder_of p.target)) answer middle.0 now after (synced middle.0 middle.1) is in
              omega (arith, first, second, calls_is, total_is);
          few = let one = tries_few (Err e) in let two = tries_few answer in omega (arith, one, two, calls_is, total_is);
          unknown = unknown;
          later = later;
          fault = fault;
          falls = omega (arith, three);
        }

    pub winds_left : (e : TreeError) (mid : Option CallLog) (last_step : AfterLastStep) (calls f0 f1 f2 : ℕ) → calls ≡ calls_made_for (Err e)
        → IfKnown before (λ log. Performs {A = Unit {0}} log (RemoveFile part) (Err e) mid) → (before ≡ None → mid ≡ None) → f0 ≤ f1 → Leaves p part calls last_step mid after f1 f2
        → WindMoves ending (copying p stage Dirty) last_step before after f0 f2
    winds_left e mid last_step calls f0 f1 f2 calls_is removed unknown later l =
        let stays = winds_stays e mid l.tried.0 last_step.left calls last_step.calls f0 f1 f2 calls_is l.tried.1 l.tried.2 removed l.tried.3 (λ h. l.unknown (unknown h)) (let more = l.later in omega (arith, later, more))
        (λ h. risen_before f0 f1 f2 later (l.fault h)) in
        let at_stage = subst (λ s. WindsOn ending (copying p stage Dirty) (copying p s Synced) Barrier last_step.calls last_step.left before after f0 f2) (sym l.stage) stays in
        let at_folder = subst (λ f. WindsOn ending (copying p stage Dirty) (copying p last_step.stage f) Barrier last_step.calls last_step.left before after f0 f2) (sym l.folder) at_stage in
        subst (λ d. WindsOn ending (copying p stage Dirty) (copying p last_step.stage last_step.folder) d last_step.calls last_step.left before after f0 f2) (sym l.did) at_folder

-- where the copy stands at this stage
pub winds_at : (ending : Ending) (p : Places) (stage at : Stage) (folder : FolderState) (last_step : AfterLastStep) (before after : Option CallLog) (f0 f1 : ℕ)
    → stage ≡ at → folder ≡ Dirty → WindMoves ending (copying p at Dirty) last_step before after f0 f1 → WindMoves ending (copying p stage folder) last_step before after f0 f1
winds_at ending p stage at folder last_step before after f0 f1 is folder_is m =
    subst (λ s. WindMoves ending (copying p s folder) last_step before after f0 f1) (sym is)
    (subst (λ f. WindMoves ending (copying p at f) last_step before after f0 f1) (sym folder_is) m)

-- a last step leaves the copy sound
given_sound : (stage : Stage) → IsSound (given_up stage) Synced
given_sound Begin = tt
given_sound (Fill part facts done) = tt
given_sound (Clean part follows) = tt
given_sound (Left part) = tt
given_sound Decided = tt

let_go_sound : (stage : Stage) (folder : FolderState) → removable stage ≡ None → IsSound (let_go stage) folder
let_go_sound Begin folder h = tt
let_go_sound (Fill part facts done) folder h = absurd cc
let_go_sound (Clean part follows) folder h = absurd cc
let_go_sound (Left part) folder h = tt
let_go_sound Decided folder h = tt

pub winds_sound : (ending : Ending) (c new : Copying) (did : Did) → Winds ending c did new → IsSound new.stage new.folder
winds_sound ending c new (Cleaned part) w = subst (λ (n : Copying). IsSound n.stage n.folder) (sym w.1) tt
winds_sound ending c new Barrier w = subst (λ (n : Copying). IsSound n.stage n.folder) (sym w.1) (given_sound c.stage)
winds_sound ending c new (Ended how part) w = subst (λ (n : Copying). IsSound n.stage n.folder) (sym w.4) (let_go_sound c.stage c.folder w.0)
winds_sound ending c new (Began part) w = absurd w
winds_sound ending c new (Chunk count) w = absurd w
winds_sound ending c new (Set path) w = absurd w
winds_sound ending c new (Placed path) w = absurd w
winds_sound ending c new (Removed path) w = absurd w
winds_sound ending c new (Made made) w = absurd w
winds_sound ending c new (Kept kept) w = absurd w
winds_sound ending c new (Asked question) w = absurd w
winds_sound ending c new (Merges transfer pair names) w = absurd w
winds_sound ending c new (Moved pair) w = absurd w
winds_sound ending c new (Skipped path cause) w = absurd w
winds_sound ending c new (Troubled trouble) w = absurd w
