-- The source is removed only where the copy was placed, and the target's folder was synced then.
use Rattle.std.proofs.Common.{◌≡◌, ℕ, Bool, true, false, List, [], ◌∷◌, refl, sym, ◌∙◌, ap, subst, inl, inr, Option, Result, Ok, Err}
use Rattle.std.specs.Prelude.{⊤}
use Rattle.mc_text.specs.Routes.{Route}
use Rattle.tree_trait.specs.Calls.{Call, RemoveFile, SyncFolder}
use Rattle.tree_trait.specs.Change.{CallLog}
use Rattle.tree_trait.specs.Answers.{IfKnown}
use Rattle.job_reports.specs.declared.report.Cause.{Cause}
use Rattle.job_reports.specs.declared.report.Did.{Did}
use Rattle.job_reports.specs.declared.report.Did.TheVariants as did
use Rattle.job_reports.specs.declared.stop.Stop.{Stop}
use Rattle.job_reports.specs.CallRuns.{AllDone}
use Rattle.job_reports.specs.Paths.{folder_of}
use Rattle.job_reports.specs.Stops.{Ran}
use Rattle.job_answers.specs.declared.replies.Replies.{Replies}
use Rattle.copy_file.specs.Copying as file
use Rattle.copy_file.specs.Copying.{Copying, Places}
use Rattle.copy_file.specs.declared.stage.FolderState.{FolderState}
use Rattle.copy_file.specs.declared.stage.FolderState.TheVariants.{Synced, Dirty}
use Rattle.copy_file.specs.declared.stage.Stage.{Stage as FileStage}
use Rattle.copy_file.specs.declared.stage.Stage.TheVariants as file_stage
use Rattle.copy_link.specs.LinkCopying as link
use Rattle.copy_link.specs.LinkCopying.{LinkCopying}
use Rattle.copy_link.specs.declared.stage.Stage.{Stage as LinkStage}
use Rattle.copy_link.specs.declared.stage.Stage.TheVariants as link_stage
use Rattle.carry_job.specs.declared.stage.AfterStep.{AfterStep}
use Rattle.carry_job.specs.declared.stage.CarryStage.{CarryStage}
use Rattle.carry_job.specs.declared.stage.CarryStage.TheVariants.{Take, File, Link, SyncTarget, Remove, SyncSource, Finish, Settle, PassedOver, Stays}
use Rattle.carry_job.specs.declared.taking.Taken.{Taken}
use Rattle.carry_job.specs.declared.taking.Taken.TheVariants as taken
use Rattle.carry_job.specs.Carryings.{Carrying, IsFileOf, IsLinkOf, IsOwn, after_beginning, after_cleaning, after_file, after_link, after_link_beginning, after_link_cleaning, passed, skipped_stage, taken_anew}
use Rattle.carry_job.specs.CarrySteps.{Begins, IsLinkBegun, MakesCall, Passes, SaysOnly, SkipsAt, Works, after_step, link_begun, told_call}
use Rattle.carry_job.specs.Orders.{IsOnDiskIn, IsPlacedIn, LeadTo, OrderLaw, RemovesLast, Steps, Skips, Retries, Turn}
use Rattle.carry_job.proofs.Ending.{anew_own, skips_file, skips_link}
use Rattle.carry_job.proofs.Stepping.{begun_of, file_going, going_own, link_begun_going, link_going}

-- what was done by where a carrying stands
abbrev Done : Places → List Turn → CarryStage → Type 0
Done p turns SyncTarget = IsPlacedIn p turns
Done p turns Remove = IsOnDiskIn p turns
Done p turns SyncSource = IsOnDiskIn p turns
Done p turns Finish = IsOnDiskIn p turns
Done p turns (Take folder) = ⊤
Done p turns (File f) = ⊤
Done p turns (Link l) = ⊤
Done p turns Settle = ⊤
Done p turns PassedOver = ⊤
Done p turns (Stays part) = ⊤

record Knows (p : Places) (turns : List Turn) (stage : CarryStage) : Type 0 where
  own : IsOwn p stage
  done : Done p turns stage

-- what was done stays done
later : (p : Places) (turn : Turn) (turns : List Turn) (stage : CarryStage) → Done p turns stage → Done p (turn ∷ turns) stage
later p turn turns SyncTarget h = inr h
later p turn turns Remove h = inr h
later p turn turns SyncSource h = inr h
later p turn turns Finish h = inr h
later p turn turns (Take folder) h = tt
later p turn turns (File f) h = tt
later p turn turns (Link l) h = tt
later p turn turns Settle h = tt
later p turn turns PassedOver h = tt
later p turn turns (Stays part) h = tt

passed_knows : (p : Places) (turns : List Turn) (folder : FolderState) → Knows p turns (passed folder)
passed_knows p turns Dirty = record { own = tt; done = tt }
passed_knows p turns Synced = record { own = tt; done = tt }

taking_knows : (p : Places) (turns : List Turn) (folder : FolderState) → Knows p turns (Take folder)
taking_knows p turns folder = record { own = tt; done = tt }

module _ (p : Places) (turns : List Turn) where
  -- the copies' own stages say nothing of what was done, but for the placing
  file_begun_done : (report : Did) (f : Copying) (folder : FolderState) → Done p turns (after_beginning report f folder)
  file_begun_done (did.Began part) f folder = tt
  file_begun_done (did.Chunk count) f folder = tt
  file_begun_done (did.Placed path) f folder = tt
  file_begun_done (did.Removed path) f folder = tt
  file_begun_done (did.Made path) f folder = tt
  file_begun_done (did.Set path) f folder = tt
  file_begun_done (did.Kept path) f folder = tt
  file_begun_done (did.Skipped path cause) f folder = tt
  file_begun_done (did.Cleaned part) f folder = tt
  file_begun_done did.Barrier f folder = tt
  file_begun_done (did.Asked question) f folder = tt
  file_begun_done (did.Merges transfer pair names) f folder = tt
  file_begun_done (did.Moved pair) f folder = tt
  file_begun_done (did.Troubled trouble) f folder = tt
  file_begun_done (did.Ended how part) f folder = tt

  link_begun_done : (report : Did) (l : LinkCopying) (folder : FolderState) → Done p turns (after_link_beginning report l folder)
  link_begun_done (did.Began part) l folder = tt
  link_begun_done (did.Chunk count) l folder = tt
  link_begun_done (did.Placed path) l folder = tt
  link_begun_done (did.Removed path) l folder = tt
  link_begun_done (did.Made path) l folder = tt
  link_begun_done (did.Set path) l folder = tt
  link_begun_done (did.Kept path) l folder = tt
  link_begun_done (did.Skipped path cause) l folder = tt
  link_begun_done (did.Cleaned part) l folder = tt
  link_begun_done did.Barrier l folder = tt
  link_begun_done (did.Asked question) l folder = tt
  link_begun_done (did.Merges transfer pair names) l folder = tt
  link_begun_done (did.Moved pair) l folder = tt
  link_begun_done (did.Troubled trouble) l folder = tt
  link_begun_done (did.Ended how part) l folder = tt

  cleaned_done : (stage : FileStage) → Done p turns (after_cleaning stage)
  cleaned_done file_stage.Begin = tt
  cleaned_done (file_stage.Fill part facts done) = tt
  cleaned_done (file_stage.Clean part follows) = tt
  cleaned_done (file_stage.Left part) = tt
  cleaned_done file_stage.Decided = tt

  link_cleaned_done : (stage : LinkStage) → Done p turns (after_link_cleaning stage)
  link_cleaned_done link_stage.Again = tt
  link_cleaned_done link_stage.Make = tt
  link_cleaned_done link_stage.Place = tt
  link_cleaned_done (link_stage.Clean follows) = tt
  link_cleaned_done link_stage.Left = tt
  link_cleaned_done link_stage.Decided = tt

-- one turn more, which is a step
module _ (p : Places) (turns : List Turn) (replies : Replies) (calls : ℕ) (before after : Option CallLog) (f0 f1 : ℕ) where
  abbrev With : Did → List Turn
  With report = Steps replies report calls before after f0 f1 ∷ turns

  file_done : (report : Did) (old new : Copying) → IsFileOf p old → file.Tells old report new → Done p (With report) (after_file report new)
  file_done (did.Placed path) old new own (part, facts, at, path_is, is) = inl (ap did.Placed (path_is ∙ own.target))
  file_done (did.Cleaned part) old new own h = cleaned_done p (With (did.Cleaned part)) new.stage
  file_done (did.Chunk count) old new own h = tt
  file_done (did.Troubled trouble) old new own h = tt
  file_done (did.Began part) old new own h = tt
  file_done did.Barrier old new own h = tt
  file_done (did.Ended how part) old new own h = tt
  file_done report old new own h = absurd h

  link_done : (report : Did) (old new : LinkCopying) → IsLinkOf p old → link.Tells old report new → Done p (With report) (after_link report new)
  link_done (did.Placed path) old new own (at, path_is, is) = inl (ap did.Placed (path_is ∙ own.target))
  link_done (did.Cleaned part) old new own h = link_cleaned_done p (With (did.Cleaned part)) new.stage
  link_done (did.Troubled trouble) old new own h = tt
  link_done (did.Began part) old new own h = tt
  link_done did.Barrier old new own h = tt
  link_done report old new own h = absurd h

  module _ (unclaimed : Route → Type 0) where
    -- the stage that one call leaves, by its answer
    call_knows : (call : Call) (b : Bool) (report told : Did) (at next stage : CarryStage) → MakesCall call b report at next (after_step told calls stage) before after f0 f1
        → Knows p (With told) at → (told ≡ report → IfKnown before (λ log. AllDone log (call ∷ []) after) → Knows p (With told) next) → Knows p (With told) stage
    call_knows call b report told at next stage h here there = by h.answer h.ran h.told where
      by : (answer : Result ℕ Stop) → Ran (call ∷ []) b answer before after f0 f1 → after_step told calls stage ≡ told_call report at next answer → Knows p (With told) stage
      by (Ok n) ran is = subst (Knows p (With told)) (sym (ap (λ (m : AfterStep). m.stage) is)) (there (ap (λ (m : AfterStep). m.did) is) ran.done)
      by (Err stop) ran is = subst (Knows p (With told)) (sym (ap (λ (m : AfterStep). m.stage) is)) here

    said_knows : (said : AfterStep) (told : Did) (stage : CarryStage) → SaysOnly said (after_step told calls stage) before after f0 f1 → Knows p (With told) said.stage → Knows p (With told) stage
    said_knows said told stage h k = subst (Knows p (With told)) (sym (ap (λ (m : AfterStep). m.stage) h.says)) k

module _ (p : Places) (turns : List Turn) (unclaimed : Route → Type 0) (folder : FolderState) (report : Did) (calls : ℕ) (stage : CarryStage) (before after : Option CallLog) where
  abbrev Moved : AfterStep
  Moved = after_step report calls stage

  at_stage : (at : CarryStage) → stage ≡ at → Knows p turns at → Knows p turns stage
  at_stage at is k = subst (Knows p turns) (sym is) k

  stage_of : (said : AfterStep) → Moved ≡ said → stage ≡ said.stage
  stage_of said is = ap (λ (m : AfterStep). m.stage) is

  -- what is begun has no more of the order to tell
  begins_knows : (what : Taken) (f0 f1 : ℕ) → Begins unclaimed p folder what Moved before after f0 f1 → Knows p turns stage
  begins_knows (taken.File facts) f0 f1 (inl h) = at_stage (Take folder) (stage_of _ h.says) (taking_knows p turns folder)
  begins_knows (taken.File facts) f0 f1 (inr h) = at_stage (after_beginning report h.begun folder) h.stands (record {
    own = going_own p (after_beginning report h.begun folder) (begun_of facts p folder h.begun report (let m = h.makes in m.tells));
    done = file_begun_done p turns report h.begun folder;
  })
  begins_knows taken.Link f0 f1 (inl h) = at_stage (Take folder) (stage_of _ (let s = h.says in s.says)) (taking_knows p turns folder)
  begins_knows taken.Link f0 f1 (inr h) = by h.part h.since h.begins where
    by : (part : Route) (since : ℕ) → IsLinkBegun p part folder Moved before after since f1 → Knows p turns stage
    by part since (inl s) = at_stage (Take folder) (stage_of _ s.says) (taking_knows p turns folder)
    by part since (inr m) = at_stage (after_link_beginning report m.begun folder) m.stands (record {
      own = going_own p (after_link_beginning report m.begun folder) (link_begun_going p folder (link_begun p part) m.begun refl refl report (let s = m.makes in s.tells));
      done = link_begun_done p turns report m.begun folder;
    })
  begins_knows taken.Keeps f0 f1 (inl is, same, later) = at_stage (passed folder) (stage_of _ is) (passed_knows p turns folder)
  begins_knows taken.Keeps f0 f1 (inr is, same, later) = at_stage (Take folder) (stage_of _ is) (taking_knows p turns folder)
  begins_knows (taken.Asks question) f0 f1 h = at_stage (Take folder) (stage_of _ h.says) (taking_knows p turns folder)

module _ (p : Places) (turns : List Turn) (unclaimed : Route → Type 0) (replies : Replies) (report : Did) (calls : ℕ) (new : CarryStage) (before after : Option CallLog) (f0 f1 : ℕ) where
  abbrev Stepped : List Turn
  Stepped = Steps replies report calls before after f0 f1 ∷ turns

  -- a step keeps what is known
  step_knows : (stage : CarryStage) → IsOwn p stage → Done p turns stage → Works unclaimed replies p stage (after_step report calls new) before after f0 f1 → Knows p Stepped new
  step_knows (Take folder) own d (inl h) = at_stage p Stepped unclaimed folder report calls new before after (Take folder) (stage_of p Stepped unclaimed folder report calls new before after _ (let s = h.says in s.says)) (taking_knows p Stepped folder)
  step_knows (Take folder) own d (inr h) = begins_knows p Stepped unclaimed folder report calls new before after h.what h.since f1 h.begins
  step_knows (File f) own d h = subst (Knows p Stepped) (sym h.stands) (record {
    own = going_own p (after_file report h.copied) (file_going p f h.copied own report (let s = h.steps in s.tells));
    done = file_done p turns replies calls before after f0 f1 report f h.copied own (let s = h.steps in s.tells);
  })
  step_knows (Link l) own d h = subst (Knows p Stepped) (sym h.stands) (record {
    own = going_own p (after_link report h.copied) (link_going p l h.copied own report (let s = h.steps in s.tells));
    done = link_done p turns replies calls before after f0 f1 report l h.copied own (let s = h.steps in s.tells);
  })
  step_knows SyncTarget own d h =
      call_knows p turns replies calls before after f0 f1 unclaimed (SyncFolder (folder_of p.target)) true did.Barrier report SyncTarget Remove new h (record { own = tt; done = inr d })
      (λ is called. record { own = tt; done = inl ((is, called), d) })
  step_knows Remove own d (inl h) = said_knows p turns replies calls before after f0 f1 unclaimed _ report new h (record { own = tt; done = inr d })
  step_knows Remove own d (inr h) =
      call_knows p turns replies calls before after f0 f1 unclaimed (RemoveFile p.source) false (did.Removed p.source) report Remove SyncSource new h (record { own = tt; done = inr d })
      (λ is called. record { own = tt; done = inr d })
  step_knows SyncSource own d h =
      call_knows p turns replies calls before after f0 f1 unclaimed (SyncFolder (folder_of p.source)) true did.Barrier report SyncSource Finish new h (record { own = tt; done = inr d })
      (λ is called. record { own = tt; done = inr d })
  step_knows Settle own d h =
      call_knows p turns replies calls before after f0 f1 unclaimed (SyncFolder (folder_of p.target)) true did.Barrier report Settle PassedOver new h (record { own = tt; done = tt })
      (λ is called. record { own = tt; done = tt })
  step_knows Finish own d h = said_knows p turns replies calls before after f0 f1 unclaimed _ report new h (record { own = tt; done = inr d })
  step_knows PassedOver own d h = said_knows p turns replies calls before after f0 f1 unclaimed _ report new h (record { own = tt; done = tt })
  step_knows (Stays part) own d h = absurd h

module _ (p : Places) (turn : Turn) (turns : List Turn) where
  -- a skip, and a retry
  skipped_knows : (stage : CarryStage) → Knows p turns stage → Knows p (turn ∷ turns) (skipped_stage stage)
  skipped_knows (Take folder) k = passed_knows p (turn ∷ turns) folder
  skipped_knows Remove k = record { own = tt; done = tt }
  skipped_knows (File f) k = record { own = k.own; done = tt }
  skipped_knows (Link l) k = record { own = k.own; done = tt }
  skipped_knows SyncTarget k = record { own = tt; done = inr k.done }
  skipped_knows SyncSource k = record { own = tt; done = inr k.done }
  skipped_knows Finish k = record { own = tt; done = inr k.done }
  skipped_knows Settle k = record { own = tt; done = tt }
  skipped_knows PassedOver k = record { own = tt; done = tt }
  skipped_knows (Stays part) k = record { own = tt; done = tt }

  passes_knows : (stage new : CarryStage) (cause : Cause) (report : Did) → Knows p turns stage → Passes p stage cause report new → Knows p (turn ∷ turns) new
  passes_knows stage new cause report k (inl (is, stands)) = subst (Knows p (turn ∷ turns)) (sym stands) (skipped_knows stage k)
  passes_knows stage new cause report k (inr (is, stands)) = subst (Knows p (turn ∷ turns)) (sym stands) (record { own = k.own; done = later p turn turns stage k.done })

  skip_knows : (stage new : CarryStage) (cause : Cause) (report : Did) → Knows p turns stage → SkipsAt p stage cause report new → Knows p (turn ∷ turns) new
  skip_knows (File f) new cause report k (moved, skips, stands) = subst (Knows p (turn ∷ turns)) (sym stands) (record { own = skips_file p f moved cause report k.own skips; done = tt })
  skip_knows (Link l) new cause report k (moved, skips, stands) = subst (Knows p (turn ∷ turns)) (sym stands) (record { own = skips_link p l moved cause report k.own skips; done = tt })
  skip_knows (Take folder) new cause report k h = passes_knows (Take folder) new cause report k h
  skip_knows SyncTarget new cause report k h = passes_knows SyncTarget new cause report k h
  skip_knows Remove new cause report k h = passes_knows Remove new cause report k h
  skip_knows SyncSource new cause report k h = passes_knows SyncSource new cause report k h
  skip_knows Finish new cause report k h = passes_knows Finish new cause report k h
  skip_knows Settle new cause report k h = passes_knows Settle new cause report k h
  skip_knows PassedOver new cause report k h = passes_knows PassedOver new cause report k h
  skip_knows (Stays part) new cause report k h = passes_knows (Stays part) new cause report k h

  anew_done : (stage : CarryStage) → Done p turns stage → Done p (turn ∷ turns) (taken_anew stage)
  anew_done (File f) d = tt
  anew_done (Link l) d = tt
  anew_done (Take folder) d = tt
  anew_done SyncTarget d = inr d
  anew_done Remove d = inr d
  anew_done SyncSource d = inr d
  anew_done Finish d = inr d
  anew_done Settle d = tt
  anew_done PassedOver d = tt
  anew_done (Stays part) d = tt

record Held (p : Places) (turns : List Turn) (c : Carrying) : Type 0 where
  places : c.places ≡ p
  knows : Knows p turns c.stage

-- so much is known wherever turns have led
history : (free : Route → Bool) (p : Places) (turns : List Turn) (c : Carrying) → LeadTo free p turns c → Held p turns c
history free p [] c is = subst (Held p []) (sym is) (record { places = refl; knows = record { own = tt; done = tt } })
history free p (Steps replies report calls before after f0 f1 ∷ older) c (old, leads, step) =
    let h = history free p older old leads in
    let k = h.knows in
    record {
      places = step.places ∙ h.places;
      knows = step_knows p older (λ path. free path ≡ true) replies report calls c.stage before after f0 f1 old.stage k.own k.done
          (subst (λ q. Works (λ path. free path ≡ true) replies q old.stage (after_step report calls c.stage) before after f0 f1) h.places step.works);
    }
history free p (Skips cause report ∷ older) c (old, leads, skip) =
    let h = history free p older old leads in
    record {
      places = skip.places ∙ h.places;
      knows = skip_knows p (Skips cause report) older old.stage c.stage cause report h.knows (subst (λ q. SkipsAt q old.stage cause report c.stage) h.places skip.skips);
    }
history free p (Retries ∷ older) c (old, leads, is) =
    let h = history free p older old leads in
    let k = h.knows in
    subst (Held p (Retries ∷ older)) (sym is) (record { places = h.places; knows = record { own = anew_own p old.stage k.own; done = anew_done p Retries older old.stage k.done } })

module _ (p : Places) (older : List Turn) (unclaimed : Route → Type 0) (replies : Replies) (path : Route) (calls : ℕ) (new : CarryStage) (before after : Option CallLog) where
  abbrev Removing : AfterStep
  Removing = after_step (did.Removed path) calls new

  report_is : (said : AfterStep) → Removing ≡ said → did.Removed path ≡ said.did
  report_is said is = ap (λ (m : AfterStep). m.did) is

  -- no other call reports a removal
  no_call : (call : Call) (b : Bool) (report : Did) (at next : CarryStage) (f0 f1 : ℕ) → (did.Removed path ≡ report → ⊥) → MakesCall call b report at next Removing before after f0 f1 → ⊥
  no_call call b report at next f0 f1 other h = by h.answer h.told where
    by : (answer : Result ℕ Stop) → Removing ≡ told_call report at next answer → ⊥
    by (Ok n) is = other (report_is _ is)
    by (Err stop) is = let e = report_is _ is in absurd cc

  no_beginning : (folder : FolderState) (what : Taken) (f0 f1 : ℕ) → Begins unclaimed p folder what Removing before after f0 f1 → ⊥
  no_beginning folder (taken.File facts) f0 f1 (inl h) = let e = report_is _ h.says in absurd cc
  no_beginning folder (taken.File facts) f0 f1 (inr h) = let m = h.makes in absurd m.tells
  no_beginning folder taken.Link f0 f1 (inl h) = let s = h.says in let e = report_is _ s.says in absurd cc
  no_beginning folder taken.Link f0 f1 (inr h) = by h.part h.since h.begins where
    by : (part : Route) (since : ℕ) → IsLinkBegun p part folder Removing before after since f1 → ⊥
    by part since (inl s) = let e = report_is _ s.says in absurd cc
    by part since (inr m) = let s = m.makes in absurd s.tells
  no_beginning folder taken.Keeps f0 f1 (inl is, same, later) = let e = report_is _ is in absurd cc
  no_beginning folder taken.Keeps f0 f1 (inr is, same, later) = let e = report_is _ is in absurd cc
  no_beginning folder (taken.Asks question) f0 f1 h = let e = report_is _ h.says in absurd cc

  removed : (f0 f1 : ℕ) → MakesCall (RemoveFile p.source) false (did.Removed p.source) Remove SyncSource Removing before after f0 f1 → IsOnDiskIn p older → RemovesLast p older path before after
  removed f0 f1 h d = by h.answer h.ran h.told where
    by : (answer : Result ℕ Stop) → Ran (RemoveFile p.source ∷ []) false answer before after f0 f1 → Removing ≡ told_call (did.Removed p.source) Remove SyncSource answer → RemovesLast p older path before after
    by (Ok n) ran is = record { path_is = (let e = report_is _ is in cc); on_disk = d; called = ran.done }
    by (Err stop) ran is = let e = report_is _ is in absurd cc

  last : (stage : CarryStage) (f0 f1 : ℕ) → Done p older stage → Works unclaimed replies p stage Removing before after f0 f1 → RemovesLast p older path before after
  last (Take folder) f0 f1 d (inl h) = let s = h.says in let e = report_is _ s.says in absurd cc
  last (Take folder) f0 f1 d (inr h) = absurd (no_beginning folder h.what h.since f1 h.begins)
  last (File f) f0 f1 d h = let s = h.steps in absurd s.tells
  last (Link l) f0 f1 d h = let s = h.steps in absurd s.tells
  last SyncTarget f0 f1 d h = absurd (no_call _ _ did.Barrier SyncTarget Remove f0 f1 (λ e. absurd cc) h)
  last Remove f0 f1 d (inl h) = let e = report_is _ h.says in absurd cc
  last Remove f0 f1 d (inr h) = removed f0 f1 h d
  last SyncSource f0 f1 d h = absurd (no_call _ _ did.Barrier SyncSource Finish f0 f1 (λ e. absurd cc) h)
  last Settle f0 f1 d h = absurd (no_call _ _ did.Barrier Settle PassedOver f0 f1 (λ e. absurd cc) h)
  last Finish f0 f1 d h = let e = report_is _ h.says in absurd cc
  last PassedOver f0 f1 d h = let e = report_is _ h.says in absurd cc
  last (Stays part) f0 f1 d h = absurd h

pub order_law : OrderLaw
order_law free p older old new replies path calls before after f0 f1 leads step =
    let h = history free p older old leads in
    let k = h.knows in
    last p older (λ route. free route ≡ true) replies path calls new.stage before after old.stage f0 f1 k.done
    (subst (λ q. Works (λ route. free route ≡ true) replies q old.stage (after_step (did.Removed path) calls new.stage) before after f0 f1) h.places step.works)
