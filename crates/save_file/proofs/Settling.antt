-- What a save does as any copy: a full part is placed, one that isn't to be is removed, the folder is synced. And the skip, the retry and the
-- last steps, which keep the save its own.
use Rattle.std.proofs.Common.{◌≡◌, ℕ, ◌<◌, nat_lt, true, cond, refl, sym, ap, subst, inl, inr, List, length, Option, None, arith}
use Rattle.std.proofs.lemmas.Bool.Decides.{nat_tests}
use Rattle.mc_text.specs.Routes.{Route}
use Rattle.tree_trait.specs.Change.{CallLog}
use Rattle.job_reports.specs.declared.report.Cause.{Cause}
use Rattle.job_reports.specs.declared.report.Did.{Did}
use Rattle.job_reports.specs.declared.report.Did.TheVariants.{Began, Chunk, Placed, Removed, Made, Set, Kept, Skipped, Cleaned, Barrier, Asked, Merges, Moved, Troubled, Ended}
use Rattle.job_reports.specs.declared.report.Ending.{Ending}
use Rattle.job_reports.specs.declared.report.Ending.TheVariants.{Finished, Aborted, Killed, NoMemory}
use Rattle.copy_file.specs.declared.stage.SourceFacts.{SourceFacts}
use Rattle.copy_file.specs.declared.stage.Next.{Next}
use Rattle.copy_file.specs.declared.stage.Next.TheVariants as next
use Rattle.copy_file.specs.declared.stage.Stage.{Stage}
use Rattle.copy_file.specs.declared.stage.Stage.TheVariants.{Begin, Fill, Clean, Left, Decided}
use Rattle.copy_file.specs.CopyCalls.{CopyCalls, CopyStops}
use Rattle.copy_file.specs.CopySteps as file
use Rattle.copy_file.specs.Copying.{Copying, Tells, after_clean, places_of, skipped_stage, taken_anew}
use Rattle.copy_file.specs.LastSteps.{Winds, given_up, let_go, removable}
use Rattle.save_file.specs.declared.piece.Piece.{Piece}
use Rattle.save_file.specs.declared.piece.Piece.TheVariants.{Make, Write, Settle}
use Rattle.save_file.specs.SaveCalls.{SaveCalls, SaveStops}
use Rattle.save_file.specs.SaveSteps.{StepsOn}
use Rattle.save_file.specs.Saving.{IsOfSize, IsOwn, Saving, piece_at, saving}

-- a part that isn't full is filled, and not settled
full_here : (part : Route) (facts : SourceFacts) (done : ℕ) → piece_at (Fill part facts done) ≡ Settle → done < facts.size → ⊥
full_here part facts done settles less =
    let test : nat_lt done facts.size ≡ true = grind (arith, nat_tests) in
    let writes : piece_at (Fill part facts done) ≡ Write done = ap (λ b. (let p : Piece = cond b (Write done) Settle in p)) test in
    cc

begin_settles : (stage : Stage) → piece_at stage ≡ Settle → stage ≡ Begin → ⊥
begin_settles stage settles begin = let makes : piece_at stage ≡ Make = ap piece_at begin in cc

full : (stage : Stage) (part : Route) (facts : SourceFacts) (done : ℕ) → piece_at stage ≡ Settle → stage ≡ Fill part facts done → done < facts.size → ⊥
full stage part facts done settles at less = full_here part facts done (subst (λ s. piece_at s ≡ Settle) at settles) less

removed_size : (size : ℕ) (follows : Next) → IsOfSize size (after_clean follows)
removed_size size next.Begin = tt
removed_size size next.Decided = tt

module _ (unclaimed : Route → Type 0) (c : Copying) (bytes : List ℕ) (own : IsOwn (saving c bytes)) where
  -- the same places, at a stage of a file with so many bytes
  own_at : (new : Copying) (stage : Stage) → new ≡ record c { stage = stage } → IsOfSize (length bytes) stage → IsOwn (saving new bytes)
  own_at new stage is size = subst (λ (n : Copying). IsOwn (saving n bytes)) (sym is) (record { source = own.source; size = size })

  module _ (settles : piece_at c.stage ≡ Settle) where
    settled_own : (did : Did) (new : Copying) → Tells c did new → IsOwn (saving new bytes)
    settled_own (Began part) new h = absurd (begin_settles c.stage settles h.0)
    settled_own (Chunk count) new h = absurd (full c.stage h.0 h.1 h.2 settles h.3 (let some = h.4 in let within = h.6 in omega (arith, some, within)))
    settled_own (Placed path) new h = own_at new Decided h.4 tt
    settled_own (Cleaned part) new h = own_at new (after_clean h.0) h.2 (removed_size (length bytes) h.0)
    settled_own Barrier new h = subst (λ (n : Copying). IsOwn (saving n bytes)) (sym h.2) (record { source = own.source; size = own.size })
    settled_own (Troubled t) new h = subst (λ (n : Copying). IsOwn (saving n bytes)) (sym h.1) own
    settled_own (Ended Finished part) new h = subst (λ (n : Copying). IsOwn (saving n bytes)) (sym h.3) own
    settled_own (Ended Aborted part) new h = absurd h
    settled_own (Ended Killed part) new h = absurd h
    settled_own (Ended NoMemory part) new h = absurd h
    settled_own (Removed path) new h = absurd h
    settled_own (Made path) new h = absurd h
    settled_own (Set path) new h = absurd h
    settled_own (Kept path) new h = absurd h
    settled_own (Asked question) new h = absurd h
    settled_own (Merges transfer pair names) new h = absurd h
    settled_own (Moved pair) new h = absurd h
    settled_own (Skipped path cause) new h = absurd h

    settled_stops : (stage : Stage) (cause : Cause) (path : Option Route) (log : CallLog) (after : Option CallLog) → piece_at stage ≡ Settle
        → CopyStops unclaimed (places_of c) stage cause path log after → SaveStops unclaimed (saving c bytes) stage cause path log after
    settled_stops Begin cause path log after is h = absurd (begin_settles Begin is refl)
    settled_stops (Fill part facts done) cause path log after is (inl h) = absurd (full_here part facts done is h.0)
    settled_stops (Fill part facts done) cause path log after is (inr h) = inr h
    settled_stops (Clean part follows) cause path log after is h = h
    settled_stops (Left part) cause path log after is h = h
    settled_stops Decided cause path log after is h = h

    settled_calls : (did : Did) (new : Copying) (log : CallLog) (after : Option CallLog) → Tells c did new → CopyCalls unclaimed c did new log after
        → SaveCalls unclaimed (saving c bytes) did (saving new bytes) log after
    settled_calls (Began part) new log after tells h = absurd (begin_settles c.stage settles tells.0)
    settled_calls (Chunk count) new log after tells h = absurd (full c.stage tells.0 tells.1 tells.2 settles tells.3 (let some = tells.4 in let within = tells.6 in omega (arith, some, within)))
    settled_calls (Troubled t) new log after tells h = settled_stops c.stage t.cause t.path log after settles h
    settled_calls (Placed path) new log after tells h = h
    settled_calls (Cleaned part) new log after tells h = h
    settled_calls Barrier new log after tells h = h
    settled_calls (Ended ending part) new log after tells h = h
    settled_calls (Removed path) new log after tells h = h
    settled_calls (Made path) new log after tells h = h
    settled_calls (Set path) new log after tells h = h
    settled_calls (Kept path) new log after tells h = h
    settled_calls (Asked question) new log after tells h = h
    settled_calls (Merges transfer pair names) new log after tells h = h
    settled_calls (Moved pair) new log after tells h = h
    settled_calls (Skipped path cause) new log after tells h = h

    pub settled : (did : Did) (new : Copying) (calls : ℕ) (before after : Option CallLog) (f0 f1 : ℕ) → file.StepsOn unclaimed c new did calls before after f0 f1
        → StepsOn unclaimed (saving c bytes) (saving new bytes) did calls before after f0 f1
    settled did new calls before after f0 f1 s = record {
      tells = s.tells;
      bytes = refl;
      own = settled_own did new s.tells;
      called = λ log known. settled_calls did new log after s.tells (s.called log known);
      counted = s.counted;
      few = s.few;
      unknown = s.unknown;
      later = s.later;
      fault = s.fault;
      falls = s.falls;
    }

  skipped_size : (stage : Stage) → IsOfSize (length bytes) (skipped_stage stage)
  skipped_size Begin = tt
  skipped_size (Fill part facts done) = tt
  skipped_size (Clean part follows) = tt
  skipped_size (Left part) = tt
  skipped_size Decided = tt

  pub skipped_own : (cause : Cause) (did : Did) (new : Copying) → file.Skips cause c did new → IsOwn (saving new bytes)
  skipped_own cause did new (inl h) = own_at new (skipped_stage c.stage) h.1 (skipped_size c.stage)
  skipped_own cause did new (inr h) = subst (λ (n : Copying). IsOwn (saving n bytes)) (sym h.1) own

  anew_size : (stage : Stage) → IsOfSize (length bytes) (taken_anew stage)
  anew_size Begin = tt
  anew_size (Fill part facts done) = tt
  anew_size (Clean part follows) = tt
  anew_size (Left part) = tt
  anew_size Decided = tt

  pub anew_own : (new : Copying) → new ≡ record c { stage = taken_anew c.stage } → IsOwn (saving new bytes)
  anew_own new is = own_at new (taken_anew c.stage) is (anew_size c.stage)

  left_size : (stage : Stage) → IsOfSize (length bytes) (given_up stage)
  left_size Begin = tt
  left_size (Fill part facts done) = tt
  left_size (Clean part follows) = tt
  left_size (Left part) = tt
  left_size Decided = tt

  gone_size : (stage : Stage) → removable stage ≡ None → IsOfSize (length bytes) (let_go stage)
  gone_size Begin none = tt
  gone_size (Fill part facts done) none = absurd cc
  gone_size (Clean part follows) none = tt
  gone_size (Left part) none = tt
  gone_size Decided none = tt

  pub wound_own : (ending : Ending) (did : Did) (new : Copying) → Winds ending c did new → IsOwn (saving new bytes)
  wound_own ending (Cleaned part) new h = own_at new Decided h.1 tt
  wound_own ending Barrier new h = subst (λ (n : Copying). IsOwn (saving n bytes)) (sym h.1) (record { source = own.source; size = left_size c.stage })
  wound_own ending (Ended how part) new h = own_at new (let_go c.stage) h.4 (gone_size c.stage h.0)
  wound_own ending (Began part) new h = absurd h
  wound_own ending (Chunk count) new h = absurd h
  wound_own ending (Set path) new h = absurd h
  wound_own ending (Placed path) new h = absurd h
  wound_own ending (Removed path) new h = absurd h
  wound_own ending (Made path) new h = absurd h
  wound_own ending (Kept path) new h = absurd h
  wound_own ending (Asked question) new h = absurd h
  wound_own ending (Merges transfer pair names) new h = absurd h
  wound_own ending (Moved pair) new h = absurd h
  wound_own ending (Skipped path cause) new h = absurd h
  wound_own ending (Troubled t) new h = absurd h

-- the step of a save that is seen so, whose bytes were read from where they are kept
pub seen_step : (unclaimed : Route → Type 0) (old : Saving) (c new : Copying) (kept read : List ℕ) (did : Did) (calls : ℕ) (before after : Option CallLog) (f0 f1 : ℕ) → saving c kept ≡ old → read ≡ kept
    → StepsOn unclaimed (saving c read) (saving new read) did calls before after f0 f1 → StepsOn unclaimed old (saving new kept) did calls before after f0 f1
seen_step unclaimed old c new kept read did calls before after f0 f1 view read_is s =
    subst (λ (o : Saving). StepsOn unclaimed o (saving new kept) did calls before after f0 f1) view
    (subst (λ (xs : List ℕ). StepsOn unclaimed (saving c xs) (saving new xs) did calls before after f0 f1) read_is s)
