-- The part is made, behind the looks.
use Rattle.std.proofs.Common.{◌≡◌, ℕ, nat_lt, Bool, true, false, cond, refl, sym, ◌∙◌, ap, subst, inl, inr, List, [], ◌∷◌, length, Option, Ok, Err, arith}
use Rattle.mc_text.specs.Routes.{Route}
use Rattle.tree_trait.specs.Change.{CallLog, current}
use Rattle.tree_trait.specs.Answers.{IfKnown}
use Rattle.job_reports.specs.declared.report.Did.{Did}
use Rattle.job_reports.specs.declared.report.Did.TheVariants.{Began, Chunk, Placed, Removed, Made, Set, Kept, Skipped, Cleaned, Barrier, Asked, Merges, Moved, Troubled, Ended}
use Rattle.job_reports.specs.declared.report.Trouble.{Trouble}
use Rattle.job_reports.specs.Reading.{Peeks}
use Rattle.job_reports.specs.CallRuns.{AllDone}
use Rattle.job_reports.proofs.Runs.{no_more, risen_before}
use Rattle.copy_file.specs.declared.stage.SourceFacts.{SourceFacts}
use Rattle.copy_file.specs.declared.stage.Stage.{Stage}
use Rattle.copy_file.specs.declared.stage.Stage.TheVariants.{Begin, Fill, Clean, Left, Decided}
use Rattle.copy_file.specs.declared.stage.FolderState.TheVariants.{Dirty}
use Rattle.copy_file.specs.CopyCalls.{PartStops, making_with}
use Rattle.copy_file.specs.Copying.{Copying, at_barrier, places_of}
use Rattle.copy_file.specs.PartSteps.{MakesPart}
use Rattle.save_file.specs.declared.piece.Piece.{Piece}
use Rattle.save_file.specs.declared.piece.Piece.TheVariants.{Make, Write, Settle}
use Rattle.save_file.specs.Looking.{LookStops, TakesMode}
use Rattle.save_file.specs.SaveCalls.{SaveStops}
use Rattle.save_file.specs.SaveSteps.{StepsOn}
use Rattle.save_file.specs.Saving.{IsOwn, piece_at, saving}

-- where a part is to be made, none stands
made_here : (b : Bool) (written : ℕ) → (let p : Piece = cond b (Write written) Settle in p) ≡ Make → ⊥
made_here true written h = cc
made_here false written h = cc

pub makes_at : (stage : Stage) → piece_at stage ≡ Make → stage ≡ Begin
makes_at Begin h = refl
makes_at (Fill part facts done) h = absurd (made_here (nat_lt done facts.size) done h)
makes_at (Clean part follows) h = absurd cc
makes_at (Left part) h = absurd cc
makes_at Decided h = absurd cc

module _ (unclaimed : Route → Type 0) (c : Copying) (bytes : List ℕ) (own : IsOwn (saving c bytes)) (begin : c.stage ≡ Begin) where
  -- a look is a trouble, and nothing was changed
  pub looks_refused : (target : Route) (t : Trouble) (before after : Option CallLog) (f0 f1 : ℕ) → target ≡ c.target → IfKnown before (λ log. LookStops (current log) target t.cause t.path)
      → Peeks {A = ℕ} (Err t) before after f0 f1 → StepsOn unclaimed (saving c bytes) (saving c bytes) (Troubled t) 0 before after f0 f1
  looks_refused target t before after f0 f1 is stops p = record {
    tells = (p.apart ∙ sym (ap at_barrier begin), refl);
    bytes = refl;
    own = own;
    called = λ log known.
        subst (λ stage. SaveStops unclaimed (saving c bytes) stage t.cause t.path log after) (sym begin)
        (inl (subst (λ path. LookStops (current log) path t.cause t.path) is (stops log known), p.same ∙ known));
    counted = λ log known now is_now. no_more log now (sym (p.same ∙ known) ∙ is_now);
    few = omega arith;
    unknown = λ h. p.same ∙ h;
    later = p.later;
    fault = p.fault;
    falls = tt;
  }

  -- the part was made, or that is a trouble
  module _ (mode : ℕ) (target : Route) (facts : SourceFacts) (is : target ≡ c.target) (facts_are : facts ≡ record { size = length bytes; mode = mode }) where
    pub makes : (did : Did) (new : Copying) (calls : ℕ) (before mid after : Option CallLog) (f0 f1 f2 : ℕ) → IfKnown before (λ log. TakesMode (current log) target mode)
        → Peeks {A = ℕ} (Ok mode) before mid f0 f1 → MakesPart unclaimed facts c new did calls mid after f1 f2 → StepsOn unclaimed (saving c bytes) (saving new bytes) did calls before after f0 f2
    makes (Began part) new calls before mid after f0 f1 f2 takes p m =
        let same : new ≡ record c { stage = Fill part (record { size = length bytes; mode = mode }) 0; folder = Dirty } = m.tells ∙ ap (λ f. (let n : Copying = record c { stage = Fill part f 0; folder = Dirty } in n)) facts_are in
        record {
          tells = (begin, (facts, m.tells));
          bytes = refl;
          own = subst (λ (n : Copying). IsOwn (saving n bytes)) (sym same) (record { source = own.source; size = refl });
          called = λ log known.
              let made = m.called log (p.same ∙ known) in (
                mode,
                subst (λ path. TakesMode (current log) path mode) is (takes log known),
                ap (λ (n : Copying). n.stage) same,
                (made.0, made.1, made.2, subst (λ (f : SourceFacts). AllDone log (making_with f.mode (places_of c) made.0 ∷ []) after) facts_are made.3),
              );
          counted = λ log known. m.counted log (p.same ∙ known);
          few = let most = m.few in omega (arith, most);
          unknown = λ h. m.unknown (p.same ∙ h);
          later = let a = p.later in let b = m.later in omega (arith, a, b);
          fault = λ h. risen_before f0 f1 f2 p.later (m.fault h);
          falls = tt;
        }
    makes (Troubled t) new calls before mid after f0 f1 f2 takes p m = record {
      tells = (m.tells.0 ∙ sym (ap at_barrier begin), m.tells.1);
      bytes = refl;
      own = subst (λ (n : Copying). IsOwn (saving n bytes)) (sym m.tells.1) own;
      called = λ log known.
          subst (λ stage. SaveStops unclaimed (saving c bytes) stage t.cause t.path log after) (sym begin)
          (inr (
            mode,
            subst (λ path. TakesMode (current log) path mode) is (takes log known),
            subst (λ (f : SourceFacts). PartStops unclaimed (places_of c) f.mode t.cause t.path log after) facts_are (m.called log (p.same ∙ known)),
          ));
      counted = λ log known. m.counted log (p.same ∙ known);
      few = let most = m.few in omega (arith, most);
      unknown = λ h. m.unknown (p.same ∙ h);
      later = let a = p.later in let b = m.later in omega (arith, a, b);
      fault = λ h. risen_before f0 f1 f2 p.later (m.fault h);
      falls = tt;
    }
    makes (Chunk count) new calls before mid after f0 f1 f2 takes p m = absurd m.tells
    makes (Set path) new calls before mid after f0 f1 f2 takes p m = absurd m.tells
    makes (Placed path) new calls before mid after f0 f1 f2 takes p m = absurd m.tells
    makes (Cleaned part) new calls before mid after f0 f1 f2 takes p m = absurd m.tells
    makes Barrier new calls before mid after f0 f1 f2 takes p m = absurd m.tells
    makes (Removed path) new calls before mid after f0 f1 f2 takes p m = absurd m.tells
    makes (Made path) new calls before mid after f0 f1 f2 takes p m = absurd m.tells
    makes (Kept path) new calls before mid after f0 f1 f2 takes p m = absurd m.tells
    makes (Asked question) new calls before mid after f0 f1 f2 takes p m = absurd m.tells
    makes (Merges transfer pair names) new calls before mid after f0 f1 f2 takes p m = absurd m.tells
    makes (Moved pair) new calls before mid after f0 f1 f2 takes p m = absurd m.tells
    makes (Skipped path cause) new calls before mid after f0 f1 f2 takes p m = absurd m.tells
    makes (Ended ending part) new calls before mid after f0 f1 f2 takes p m = absurd m.tells
