-- The next bytes are written.
use Rattle.std.proofs.Common.{◌≡◌, ℕ, ◌+◌, ◌-◌, ◌<◌, ◌≤◌, nat_lt, Bool, true, false, cond, refl, sym, ◌∙◌, ap, subst, inl, List, [], ◌∷◌, length, min, Option, arith}
use Rattle.std.specs.Prelude.{drop}
use Rattle.std.proofs.lemmas.Bool.Decides.{nat_tests}
use Rattle.std.proofs.lemmas.List.{length-drop, length-take}
use Rattle.mc_text.specs.Routes.{Route}
use Rattle.tree_trait.specs.Calls.{Call, WriteAt}
use Rattle.tree_trait.specs.Change.{CallLog}
use Rattle.job_reports.specs.declared.report.Did.{Did}
use Rattle.job_reports.specs.declared.report.Did.TheVariants.{Began, Chunk, Placed, Removed, Made, Set, Kept, Skipped, Cleaned, Barrier, Asked, Merges, Moved, Troubled, Ended}
use Rattle.job_reports.specs.CallRuns.{AllDone, RunStops}
use Rattle.copy_file.specs.declared.stage.SourceFacts.{SourceFacts}
use Rattle.copy_file.specs.declared.stage.Stage.{Stage}
use Rattle.copy_file.specs.declared.stage.Stage.TheVariants.{Begin, Fill, Clean, Left, Decided}
use Rattle.copy_file.specs.Chunks.{HasCount}
use Rattle.copy_file.specs.Copying.{Copying, at_barrier, chunk_bytes, steps_left}
use Rattle.copy_file.specs.PartSteps.{IsNext, WritesNext, filled_by, writing_next}
use Rattle.save_file.specs.declared.piece.Piece.{Piece}
use Rattle.save_file.specs.declared.piece.Piece.TheVariants.{Write, Settle}
use Rattle.save_file.specs.SaveCalls.{SaveStops}
use Rattle.save_file.specs.SaveSteps.{StepsOn}
use Rattle.save_file.specs.Saving.{IsOfSize, IsOwn, chunk_at, piece_at, saving}

-- Where bytes are to be written, a part stands that isn't full.
pub record Unfilled (stage : Stage) (done : ℕ) : Type 0 where
  pub part : Route
  pub facts : SourceFacts
  pub at : stage ≡ Fill part facts done
  pub unfilled : done < facts.size

writes_here : (b : Bool) (part : Route) (facts : SourceFacts) (written done : ℕ) → nat_lt written facts.size ≡ b → (let p : Piece = cond b (Write written) Settle in p) ≡ Write done → Unfilled (Fill part facts written) done
writes_here true part facts written done test h =
    let same : written ≡ done = cc in
    let less : written < facts.size = grind (arith, nat_tests) in
    record { part = part; facts = facts; at = ap (λ n. Fill part facts n) same; unfilled = omega (arith, same, less) }
writes_here false part facts written done test h = absurd cc

pub writes_at : (stage : Stage) (done : ℕ) → piece_at stage ≡ Write done → Unfilled stage done
writes_at (Fill part facts written) done h = writes_here (nat_lt written facts.size) part facts written done refl h
writes_at Begin done h = absurd cc
writes_at (Clean part follows) done h = absurd cc
writes_at (Left part) done h = absurd cc
writes_at Decided done h = absurd cc

-- a chunk has at least one byte, as long as some are left, and no more than are
pub chunk_counts : (bytes : List ℕ) (facts : SourceFacts) (done : ℕ) → facts.size ≡ length bytes → done < facts.size → HasCount facts done (length (chunk_at bytes done))
chunk_counts bytes facts done size less =
    let long : length (chunk_at bytes done) ≡ min chunk_bytes (length (drop done bytes)) = length-take chunk_bytes (drop done bytes) in
    let rest : length (drop done bytes) ≡ length bytes - done = length-drop done bytes in
    record {
      some = omega (arith, long, rest, size, less);
      few = omega (arith, long, rest, size, less);
      within = omega (arith, long, rest, size, less);
    }

pub size_at : (size : ℕ) (stage : Stage) (part : Route) (facts : SourceFacts) (done : ℕ) → stage ≡ Fill part facts done → IsOfSize size stage → facts.size ≡ size
size_at size stage part facts done at is = subst (IsOfSize size) at is

module _ (c : Copying) (bytes : List ℕ) (own : IsOwn (saving c bytes)) (done : ℕ) (piece : piece_at c.stage ≡ Write done) where
  abbrev u : Unfilled c.stage done
  u = writes_at c.stage done piece

  abbrev chunk : List ℕ
  chunk = chunk_at bytes done

  counts : HasCount u.facts done (length chunk)
  counts = chunk_counts bytes u.facts done (size_at (length bytes) c.stage u.part u.facts done u.at own.size) u.unfilled

  -- so much may be written
  pub may_write : (next : List ℕ) → next ≡ chunk → IsNext c.stage (length next)
  may_write next is = subst (λ stage. IsNext stage (length next)) (sym u.at) (subst (λ (xs : List ℕ). HasCount u.facts done (length xs)) (sym is) counts)

  pub within : done ≤ length bytes
  within = let size = size_at (length bytes) c.stage u.part u.facts done u.at own.size in let less = u.unfilled in omega (arith, size, less)

  writes : (next : List ℕ) → next ≡ chunk → writing_next next c.stage ≡ WriteAt u.part done chunk ∷ []
  writes next is = ap (writing_next next) u.at ∙ ap (λ (xs : List ℕ). (let calls : List Call = WriteAt u.part done xs ∷ [] in calls)) is

  -- the copy, with so many bytes more in its part
  filled : (new : Copying) → new ≡ record c { stage = new.stage } → new.stage ≡ filled_by (length chunk) c.stage → new ≡ record c { stage = Fill u.part u.facts (done + length chunk) }
  filled new stays is = stays ∙ ap (λ stage. (let n : Copying = record c { stage = stage } in n)) (is ∙ ap (filled_by (length chunk)) u.at)

  fewer : steps_left (Fill u.part u.facts (done + length chunk)) c.folder < steps_left c.stage c.folder
  fewer =
      let some = counts.some in
      let within = counts.within in
      let less : steps_left (Fill u.part u.facts (done + length chunk)) c.folder < steps_left (Fill u.part u.facts done) c.folder = omega (arith, some, within) in
      subst (λ stage. steps_left (Fill u.part u.facts (done + length chunk)) c.folder < steps_left stage c.folder) (sym u.at) less

  -- the next bytes were written, or that is a trouble
  module _ (P : Route → Type 0) (next : List ℕ) (is : next ≡ chunk) where
    pub writes_on : (did : Did) (new : Copying) (calls : ℕ) (before after : Option CallLog) (f0 f1 : ℕ) → new ≡ record c { stage = new.stage }
        → WritesNext next c.stage new.stage did calls before after f0 f1 → StepsOn P (saving c bytes) (saving new bytes) did calls before after f0 f1
    writes_on (Chunk count) new calls before after f0 f1 stays w =
        let same : length chunk ≡ count = ap (λ (xs : List ℕ). length xs) (sym is) ∙ sym w.tells.0 in
        let further : new ≡ record c { stage = Fill u.part u.facts (done + length chunk) } = filled new stays (w.tells.1 ∙ ap (λ (xs : List ℕ). filled_by (length xs) c.stage) is) in
        record {
          tells = (
            u.part,
            u.facts,
            done,
            u.at,
            subst (λ n. 1 ≤ n) same counts.some,
            subst (λ n. n ≤ chunk_bytes) same counts.few,
            subst (λ n. done + n ≤ u.facts.size) same counts.within,
            further ∙ ap (λ n. (let m : Copying = record c { stage = Fill u.part u.facts (done + n) } in m)) same,
          );
          bytes = refl;
          own = subst (λ (n : Copying). IsOwn (saving n bytes)) (sym further) (record { source = own.source; size = size_at (length bytes) c.stage u.part u.facts done u.at own.size });
          called = λ log known. (u.part, u.facts, done, u.at, sym same, subst (λ (calls : List Call). AllDone log calls after) (writes next is) (w.called log known));
          counted = w.counted;
          few = let most = w.few in omega (arith, most);
          unknown = w.unknown;
          later = w.later;
          fault = w.fault;
          falls = subst (λ (n : Copying). steps_left n.stage n.folder < steps_left c.stage c.folder) (sym further) fewer;
        }
    writes_on (Troubled t) new calls before after f0 f1 stays w =
        let still : new ≡ c = stays ∙ ap (λ stage. (let n : Copying = record c { stage = stage } in n)) w.tells.1 in
        record {
          tells = (w.tells.0 ∙ sym (ap at_barrier u.at), still);
          bytes = refl;
          own = subst (λ (n : Copying). IsOwn (saving n bytes)) (sym still) own;
          called = λ log known.
              subst (λ stage. SaveStops P (saving c bytes) stage t.cause t.path log after) (sym u.at)
              (inl (u.unfilled, subst (λ (calls : List Call). RunStops calls t.cause t.path log after) (writes next is) (w.called log known)));
          counted = w.counted;
          few = let most = w.few in omega (arith, most);
          unknown = w.unknown;
          later = w.later;
          fault = w.fault;
          falls = tt;
        }
    writes_on (Began part) new calls before after f0 f1 stays w = absurd w.tells
    writes_on (Set path) new calls before after f0 f1 stays w = absurd w.tells
    writes_on (Placed path) new calls before after f0 f1 stays w = absurd w.tells
    writes_on (Cleaned part) new calls before after f0 f1 stays w = absurd w.tells
    writes_on Barrier new calls before after f0 f1 stays w = absurd w.tells
    writes_on (Removed path) new calls before after f0 f1 stays w = absurd w.tells
    writes_on (Made path) new calls before after f0 f1 stays w = absurd w.tells
    writes_on (Kept path) new calls before after f0 f1 stays w = absurd w.tells
    writes_on (Asked question) new calls before after f0 f1 stays w = absurd w.tells
    writes_on (Merges transfer pair names) new calls before after f0 f1 stays w = absurd w.tells
    writes_on (Moved pair) new calls before after f0 f1 stays w = absurd w.tells
    writes_on (Skipped path cause) new calls before after f0 f1 stays w = absurd w.tells
    writes_on (Ended ending part) new calls before after f0 f1 stays w = absurd w.tells
