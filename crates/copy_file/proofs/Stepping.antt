-- What a step tells, piece by piece, and that only the beginning asks which paths may be taken.
use Rattle.std.proofs.Common.{◌≡◌, ℕ, ◌+◌, ◌==◌, ◌≤◌, Bool, true, false, cond, List, [], ◌∷◌, length, length-append, refl, sym, ◌∙◌, ap, subst, inl, inr, Option, None, Result, Ok, Err, IfErr, arith}
use Rattle.mc_text.specs.Routes.{Route}
use Rattle.tree_trait.specs.Calls.{Call, WriteAt, SetMode, SyncFile, Rename}
use Rattle.tree_trait.specs.Change.{CallLog, current}
use Rattle.tree_trait.specs.Answers.{IfKnown, HasRisen}
use Rattle.job_reports.specs.declared.report.Cause.{Cause}
use Rattle.job_reports.specs.declared.report.Cause.TheVariants.{Tree}
use Rattle.tree_trait.specs.declared.calls.TreeError.TheVariants as refused
use Rattle.job_reports.specs.declared.report.Ending.TheVariants.{Finished, Aborted, Killed, NoMemory}
use Rattle.job_reports.specs.declared.report.Did.{Did}
use Rattle.job_reports.specs.declared.report.Did.TheVariants.{Began, Chunk, Placed, Removed, Made as MadeFolder, Set, Kept, Skipped, Cleaned, Barrier, Asked, Merges, Moved, Troubled, Ended}
use Rattle.job_reports.specs.declared.report.Trouble.{Trouble}
use Rattle.copy_file.specs.declared.stage.SourceFacts.{SourceFacts}
use Rattle.copy_file.specs.declared.stage.Next.{Next}
use Rattle.copy_file.specs.declared.stage.Next.TheVariants as next
use Rattle.copy_file.specs.declared.stage.Stage.{Stage}
use Rattle.copy_file.specs.declared.stage.Stage.TheVariants.{Begin, Fill, Clean, Left, Decided}
use Rattle.copy_file.specs.declared.stage.FolderState.{FolderState}
use Rattle.copy_file.specs.declared.stage.FolderState.TheVariants.{Dirty}
use Rattle.job_reports.specs.declared.stop.Stop.{Stop}
use Rattle.copy_file.specs.declared.work.Made.{Made}
use Rattle.copy_file.specs.declared.work.AfterStep.{AfterStep}
use Rattle.copy_file.specs.Chunks.{Wrote}
use Rattle.copy_file.specs.CopyCalls.{CopyCalls, CopyStops, making_with, moding, part_mode, placing}
use Rattle.copy_file.specs.CopySteps.{Begins, BeginRuns, IfBegun, IfNamed, MovesOn, NameRuns, Names, StepsOn, moved_by}
use Rattle.copy_file.specs.Copying.{Copying, IsSound, Places, Tells, after_clean, copying}
use Rattle.copy_file.specs.PartSteps.{MakesPart, WritesNext}
use Rattle.copy_file.specs.LastSteps.{left_at}
use Rattle.copy_file.specs.Looking.{IsReady, AreFactsOf, HasRange}
use Rattle.job_reports.specs.Reading.{Peeks}
use Rattle.job_reports.specs.Stops.{Ran}
use Rattle.job_reports.specs.CallRuns.{AllDone, RunStops}
use Rattle.job_reports.proofs.Runs.{risen_before}

-- a part that was made of a file with these facts is that of the source
module _ (unclaimed : Route → Type 0) (p : Places) (facts : SourceFacts) (after : Option CallLog) where
  named_runs : (r : Result Made Stop) (log : CallLog) → IfNamed facts r → IsReady (current log) p × AreFactsOf (current log) p.source facts → NameRuns unclaimed facts p r log after → BeginRuns unclaimed p r log after
  named_runs (Ok made) log named is h = (
    is.0,
    subst (λ f. AreFactsOf (current log) p.source f) (sym named.1) is.1,
    (h.0, h.1, h.2, subst (λ m. AllDone log (making_with m p h.0 ∷ []) after) is.1.mode h.3),
  )
  named_runs (Err stop) log named is (inl h) = inr (inl (is.0, h.0, h.1))
  named_runs (Err stop) log named is (inr h) =
      inr (inr (h.0, is.0, h.1, subst (λ m. RunStops (making_with m p h.0 ∷ []) stop.trouble.cause stop.trouble.path log after) is.1.mode h.2))

  named_begun : (r : Result Made Stop) → HasRange facts → IfNamed facts r → IfBegun r
  named_begun (Ok made) range named = (named.0, subst HasRange (sym named.1) range)
  named_begun (Err stop) range named = named

later_fault : (r : Result Made Stop) (f0 f1 f2 : ℕ) → f0 ≤ f1 → IfErr r (λ stop. stop.trouble.cause ≡ Tree refused.Fault → HasRisen f1 f2) → IfErr r (λ stop. stop.trouble.cause ≡ Tree refused.Fault → HasRisen f0 f2)
later_fault (Ok made) f0 f1 f2 least h = tt
later_fault (Err stop) f0 f1 f2 least h = λ e. risen_before f0 f1 f2 least (h e)

pub begins_named : (unclaimed : Route → Type 0) (p : Places) (facts : SourceFacts) (result : Result Made Stop) (before mid after : Option CallLog) (f0 f1 f2 : ℕ)
    → HasRange facts → IfKnown before (λ log. IsReady (current log) p × AreFactsOf (current log) p.source facts) → Peeks {A = SourceFacts} (Ok facts) before mid f0 f1
    → Names unclaimed facts p result mid after f1 f2 → Begins unclaimed p result before after f0 f2
begins_named unclaimed p facts result before mid after f0 f1 f2 range ready one n = record {
  runs = λ log known. named_runs unclaimed p facts after result log n.named (ready log known) (n.runs log (one.same ∙ known));
  begun = named_begun unclaimed p facts after result range n.named;
  counted = λ log known. n.counted log (one.same ∙ known);
  few = n.few;
  unknown = λ h. n.unknown (one.same ∙ h);
  later = let a = one.later in let b = n.later in omega (arith, a, b);
  fault = later_fault result f0 f1 f2 one.later n.fault;
}

-- a part was made of a file with these facts
pub makes_named : (unclaimed : Route → Type 0) (facts : SourceFacts) (p : Places) (folder : FolderState) (made : Made) (before after : Option CallLog) (f0 f1 : ℕ)
    → Names unclaimed facts p (Ok made) before after f0 f1
    → MakesPart unclaimed facts (copying p Begin folder) (copying p (Fill made.part made.facts 0) Dirty) (Began made.named) 1 before after f0 f1
makes_named unclaimed facts p folder made before after f0 f1 n = record {
  tells = ap (λ q. copying p (Fill q made.facts 0) Dirty) (sym n.named.0) ∙ ap (λ f. copying p (Fill made.named f 0) Dirty) n.named.1;
  called = λ log known. let r = n.runs log known in (r.0, n.named.0 ∙ r.1, r.2, r.3);
  counted = n.counted;
  few = omega arith;
  unknown = n.unknown;
  later = n.later;
  fault = λ h. absurd h;
}

-- of a copy that stands so
pub makes_from : (unclaimed : Route → Type 0) (facts : SourceFacts) (old new : Copying) (p : Places) (stage : Stage) (folder : FolderState) (did : Did) (calls : ℕ) (before after : Option CallLog) (f0 f1 : ℕ)
    → copying p stage folder ≡ old → old.stage ≡ Begin → MakesPart unclaimed facts (copying p Begin folder) new did calls before after f0 f1 → MakesPart unclaimed facts old new did calls before after f0 f1
makes_from unclaimed facts old new p stage folder did calls before after f0 f1 view begin m =
    let at : stage ≡ Begin = ap (λ (c : Copying). c.stage) view ∙ begin in
    subst (λ (c : Copying). MakesPart unclaimed facts c new did calls before after f0 f1) (ap (λ s. copying p s folder) (sym at) ∙ view) m

-- or its trouble came before
pub makes_stopped : (unclaimed : Route → Type 0) (facts : SourceFacts) (p : Places) (folder : FolderState) (stop : Stop) (moved : AfterStep) (before after : Option CallLog) (f0 f1 : ℕ)
    → moved ≡ moved_by stop Begin folder → Names unclaimed facts p (Err stop) before after f0 f1
    → MakesPart unclaimed facts (copying p Begin folder) (copying p moved.stage moved.folder) moved.did moved.calls before after f0 f1
makes_stopped unclaimed facts p folder stop moved before after f0 f1 is n =
    subst (λ (m : AfterStep). MakesPart unclaimed facts (copying p Begin folder) (copying p m.stage m.folder) m.did m.calls before after f0 f1) (sym is) (record {
      tells = (n.named, refl);
      called = n.runs;
      counted = n.counted;
      few = n.few;
      unknown = n.unknown;
      later = n.later;
      fault = n.fault;
    })

-- the next bytes weren't written
pub writes_stopped : (bytes : List ℕ) (part : Route) (facts : SourceFacts) (done : ℕ) (folder : FolderState) (stop : Stop) (moved : AfterStep) (before after : Option CallLog) (f0 f1 : ℕ)
    → moved ≡ moved_by stop (Fill part facts done) folder → Ran (WriteAt part done bytes ∷ []) false (Err stop) before after f0 f1
    → WritesNext bytes (Fill part facts done) moved.stage moved.did moved.calls before after f0 f1
writes_stopped bytes part facts done folder stop moved before after f0 f1 is ran =
    subst (λ (m : AfterStep). WritesNext bytes (Fill part facts done) m.stage m.did m.calls before after f0 f1) (sym is) (record {
      tells = (ran.barrier, refl);
      called = ran.stopped;
      counted = ran.counted;
      few = ran.few;
      unknown = ran.unknown;
      later = ran.later;
      fault = ran.fault;
    })

-- the part was made
pub moves_began : (unclaimed : Route → Type 0) (p : Places) (folder : FolderState) (made : Made) (before after : Option CallLog) (f0 f1 : ℕ)
    → Begins unclaimed p (Ok made) before after f0 f1
    → MovesOn unclaimed (copying p Begin folder) (record { did = Began made.named; calls = 1; stage = Fill made.part made.facts 0; folder = Dirty }) before after f0 f1
moves_began unclaimed p folder made before after f0 f1 b = record {
  steps = record {
    tells = (refl, (made.facts, ap (λ q. copying p (Fill q made.facts 0) Dirty) (sym b.begun.0)));
    called = λ log known. let r = b.runs log known in (r.0, r.1, (r.2.0, b.begun.0 ∙ r.2.1, r.2.2, r.2.3));
    counted = b.counted;
    few = omega arith;
    unknown = b.unknown;
    later = b.later;
    fault = λ h. absurd h;
    falls = tt;
  };
  sound = (omega arith, b.begun.1.size, b.begun.1.mode, refl);
}

module _ (unclaimed : Route → Type 0) (p : Places) (part : Route) (facts : SourceFacts) (done : ℕ) (before after : Option CallLog) (f0 f1 : ℕ) (sound : IsSound (Fill part facts done) Dirty) where
  -- a chunk was written
  pub moves_chunk : (count : ℕ) → Wrote p part facts done (Ok count) before after f0 f1
      → MovesOn unclaimed (copying p (Fill part facts done) Dirty) (record { did = Chunk count; calls = 1; stage = Fill part facts (done + count); folder = Dirty }) before after f0 f1
  moves_chunk count w = record {
    steps = record {
      tells = (part, facts, done, refl, w.written.some, w.written.few, w.written.within, refl);
      called = λ log known. let r = w.runs log known in (part, facts, done, refl, r.0, r.1);
      counted = w.counted;
      few = omega arith;
      unknown = w.unknown;
      later = w.later;
      fault = λ h. absurd h;
      falls = let some = w.written.some in let within = w.written.within in omega (arith, some, within);
    };
    sound = (w.written.within, sound.1, sound.2, refl);
  }

  moding_few : (b : Bool) (x : Call) → length (let xs : List Call = cond b [] (x ∷ []) in xs) ≤ 1
  moding_few true x = omega arith
  moding_few false x = omega arith

  placing_few : length (placing facts.mode part p.target) ≤ 3
  placing_few =
      let one : length (moding part facts.mode) ≤ 1 = moding_few (part_mode facts.mode == facts.mode) (SetMode part facts.mode) in
      let all = length-append (moding part facts.mode) (SyncFile part ∷ Rename part p.target ∷ []) in
      let two : length (let xs : List Call = SyncFile part ∷ Rename part p.target ∷ [] in xs) ≡ 2 = refl in
      omega (arith, one, all, two)

  -- the full part was brought to its place
  pub moves_placed : (n : ℕ) (placed to : Route) → facts.size ≤ done → placed ≡ p.target → to ≡ p.target → Ran (placing facts.mode part to) false (Ok n) before after f0 f1
      → MovesOn unclaimed (copying p (Fill part facts done) Dirty) (record { did = Placed placed; calls = n; stage = Decided; folder = Dirty }) before after f0 f1
  moves_placed n placed to full is to_is ran_to =
      let ran : Ran (placing facts.mode part p.target) false (Ok n) before after f0 f1 = subst (λ q. Ran (placing facts.mode part q) false (Ok n) before after f0 f1) to_is ran_to in
      let le = sound.0 in
      let exact : done ≡ facts.size = omega (arith, le, full) in
      let at : Fill part facts done ≡ Fill part facts facts.size = ap (λ n. Fill part facts n) exact in
      record {
        steps = record {
          tells = (part, facts, at, is, refl);
          called = λ log known. (part, facts, at, ran.done log known);
          counted = ran.counted;
          few = let a = ran.few in let b = placing_few in omega (arith, a, b);
          unknown = ran.unknown;
          later = ran.later;
          fault = λ h. absurd h;
          falls = omega arith;
        };
        sound = tt;
      }

-- once the part stands, or the file is decided, nothing asks which paths may be taken
stops_any : (P Q : Route → Type 0) (p : Places) (stage : Stage) (cause : Cause) (path : Option Route) (log : CallLog) (after : Option CallLog)
    → (stage ≡ Begin → ⊥) → CopyStops P p stage cause path log after → CopyStops Q p stage cause path log after
stops_any P Q p Begin cause path log after past h = absurd (past refl)
stops_any P Q p (Fill part facts done) cause path log after past h = h
stops_any P Q p (Clean part follows) cause path log after past h = h
stops_any P Q p (Left part) cause path log after past h = h
stops_any P Q p Decided cause path log after past h = h

calls_any : (P Q : Route → Type 0) (c : Copying) (did : Did) (new : Copying) (log : CallLog) (after : Option CallLog)
    → (c.stage ≡ Begin → ⊥) → Tells c did new → CopyCalls P c did new log after → CopyCalls Q c did new log after
calls_any P Q c (Began part) new log after past tells h = absurd (past tells.0)
calls_any P Q c (Chunk count) new log after past tells h = h
calls_any P Q c (Set path) new log after past tells h = h
calls_any P Q c (Placed path) new log after past tells h = h
calls_any P Q c (Cleaned part) new log after past tells h = h
calls_any P Q c Barrier new log after past tells h = h
calls_any P Q c (Troubled t) new log after past tells h = stops_any P Q _ c.stage t.cause t.path log after past h
calls_any P Q c (Removed path) new log after past tells h = h
calls_any P Q c (MadeFolder made) new log after past tells h = h
calls_any P Q c (Kept kept) new log after past tells h = h
calls_any P Q c (Asked question) new log after past tells h = h
calls_any P Q c (Merges transfer pair names) new log after past tells h = h
calls_any P Q c (Moved pair) new log after past tells h = h
calls_any P Q c (Skipped path cause) new log after past tells h = h
calls_any P Q c (Ended ending part) new log after past tells h = h

pub moves_any : (P Q : Route → Type 0) (old : Copying) (moved : AfterStep) (before after : Option CallLog) (f0 f1 : ℕ)
    → (old.stage ≡ Begin → ⊥) → MovesOn P old moved before after f0 f1 → MovesOn Q old moved before after f0 f1
moves_any P Q old moved before after f0 f1 past m = record {
  steps = record {
    tells = m.steps.tells;
    called = λ log known. calls_any P Q old moved.did _ log after past m.steps.tells (m.steps.called log known);
    counted = m.steps.counted;
    few = m.steps.few;
    unknown = m.steps.unknown;
    later = m.steps.later;
    fault = m.steps.fault;
    falls = m.steps.falls;
  };
  sound = m.sound;
}

-- where the copy stands at this stage
pub moves_at : (P Q : Route → Type 0) (p : Places) (stage at : Stage) (folder state : FolderState) (moved : AfterStep) (before after : Option CallLog) (f0 f1 : ℕ)
    → stage ≡ at → folder ≡ state → (at ≡ Begin → ⊥) → MovesOn P (copying p at state) moved before after f0 f1 → MovesOn Q (copying p stage folder) moved before after f0 f1
moves_at P Q p stage at folder state moved before after f0 f1 is folder_is past m =
    subst (λ s. MovesOn Q (copying p s folder) moved before after f0 f1) (sym is)
    (subst (λ f. MovesOn Q (copying p at f) moved before after f0 f1) (sym folder_is) (moves_any P Q (copying p at state) moved before after f0 f1 past m))

pub moves_begin : (P : Route → Type 0) (p : Places) (stage : Stage) (folder : FolderState) (moved : AfterStep) (before after : Option CallLog) (f0 f1 : ℕ)
    → stage ≡ Begin → MovesOn P (copying p Begin folder) moved before after f0 f1 → MovesOn P (copying p stage folder) moved before after f0 f1
moves_begin P p stage folder moved before after f0 f1 is m = subst (λ s. MovesOn P (copying p s folder) moved before after f0 f1) (sym is) m

-- a part that stands at this stage is filled in a folder that is to be synced
pub dirty_fill : (stage : Stage) (folder : FolderState) (part : Route) (facts : SourceFacts) (done : ℕ) → stage ≡ Fill part facts done → IsSound stage folder → folder ≡ Dirty
dirty_fill stage folder part facts done is sound = (subst (λ s. IsSound s folder) is sound).3

pub sound_fill : (stage : Stage) (folder : FolderState) (part : Route) (facts : SourceFacts) (done : ℕ) → stage ≡ Fill part facts done → IsSound stage folder → IsSound (Fill part facts done) Dirty
sound_fill stage folder part facts done is sound = let s = subst (λ s. IsSound s folder) is sound in (s.0, s.1, s.2, refl)

-- the step of a copy that stands so
pub steps_from : (P : Route → Type 0) (old : Copying) (p : Places) (stage taken : Stage) (folder : FolderState) (moved : AfterStep) (before after : Option CallLog) (f0 f1 : ℕ)
    → taken ≡ stage → copying p stage folder ≡ old → StepsOn P (copying p taken folder) (copying p moved.stage moved.folder) moved.did moved.calls before after f0 f1
    → StepsOn P old (copying p moved.stage moved.folder) moved.did moved.calls before after f0 f1
steps_from P old p stage taken folder moved before after f0 f1 is view s =
    subst (λ (c : Copying). StepsOn P c (copying p moved.stage moved.folder) moved.did moved.calls before after f0 f1) (ap (λ s. copying p s folder) is ∙ view) s

-- a copy that goes on has no part that it could not remove
cleaned_ready : (follows : Next) → left_at (after_clean follows) ≡ None
cleaned_ready next.Begin = refl
cleaned_ready next.Decided = refl

pub tells_ready : (c : Copying) (did : Did) (new : Copying) → Tells c did new → left_at c.stage ≡ None → left_at new.stage ≡ None
tells_ready c (Began part) new t ready = subst (λ (n : Copying). left_at n.stage ≡ None) (sym t.1.1) refl
tells_ready c (Chunk count) new t ready = subst (λ (n : Copying). left_at n.stage ≡ None) (sym t.7) refl
tells_ready c (Set path) new t ready = absurd t
tells_ready c (Placed path) new t ready = subst (λ (n : Copying). left_at n.stage ≡ None) (sym t.4) refl
tells_ready c (Cleaned part) new t ready = subst (λ (n : Copying). left_at n.stage ≡ None) (sym t.2) (cleaned_ready t.0)
tells_ready c Barrier new t ready = subst (λ (n : Copying). left_at n.stage ≡ None) (sym t.2) ready
tells_ready c (Troubled trouble) new t ready = subst (λ (n : Copying). left_at n.stage ≡ None) (sym t.1) ready
tells_ready c (Ended Finished part) new t ready = subst (λ (n : Copying). left_at n.stage ≡ None) (sym t.3) ready
tells_ready c (Ended Aborted part) new t ready = absurd t
tells_ready c (Ended Killed part) new t ready = absurd t
tells_ready c (Ended NoMemory part) new t ready = absurd t
tells_ready c (Removed path) new t ready = absurd t
tells_ready c (MadeFolder made) new t ready = absurd t
tells_ready c (Kept path) new t ready = absurd t
tells_ready c (Asked question) new t ready = absurd t
tells_ready c (Merges transfer pair names) new t ready = absurd t
tells_ready c (Moved pair) new t ready = absurd t
tells_ready c (Skipped path cause) new t ready = absurd t
