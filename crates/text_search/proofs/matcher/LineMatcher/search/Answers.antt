-- A line is searched where it ends within the part; what is found in none of them is sought behind them.
use Rattle.std.proofs.Common.{◌≡◌, Some, None, length, take, drop, refl, ap, subst, ◌∙◌, arith, length-drop}
use Rattle.std.specs.Prelude.{nat_lt}
use Rattle.text_search.specs.Lines.{first_line, line_place}
use Rattle.text_search.specs.Parts.{IsLine}
use Rattle.text_search.proofs.LineLemmas.{full_part, last_part, line-too_long, line-found, line-passed}
use Rattle.text_search.proofs.matcher.LineMatcher.search.Goals as goal

pub returns-then-start-eq0-clause-answer : goal.returns-then-start-eq0-clause-answer
returns-then-start-eq0-clause-answer c = λ at rest is.
    let part = c.args.part.now in
    line-too_long c.args.self.now at c.loop-start.start 1048577 part rest refl is c.loop-start-test.true (c.loop-start.invariant.left at rest is)
    c.if-start-eq0.true (full_part (length part) 1048577 c.in_default.ensures.0) (subst (λ l. first_line l ≡ l) c.split_at.ensures.back c.in_default.ensures.1)

pub returns-in-Some-place_in-clause-answer : goal.returns-in-Some-place_in-clause-answer
returns-in-Some-place_in-clause-answer c = λ at rest is.
    let part = c.args.part.now in
    let text = c.args.self.now in
    let start = c.loop-start.start in
    let count = c.in-Some.count in
    let line : IsLine (drop start part) (nat_lt (length part) 1048577) count =
    subst (λ l. IsLine l (nat_lt (length part) 1048577) count) c.split_at.ensures.back c.in-Some.ensures in
    let found : Some c.in-Some-place_in.place ≡ line_place text (take count (drop start part)) =
    c.in-Some-place_in.ensures.place ∙ ap (λ t. line_place t c.split_at-in-loop-start.result.0.now) c.loop-start.invariant.same
    ∙ ap (line_place text) (c.split_at-in-loop-start.ensures.front ∙ ap (take count) c.split_at.ensures.back) in
    line-found text at start 1048577 part rest refl is c.loop-start-test.true (c.loop-start.invariant.left at rest is)
    count (nat_lt (length part) 1048577) (λ e. last_part (length part) 1048577 e) line.line line.within line.ended c.in-Some-place_in.place found

pub loop-start-preserved : goal.loop-start-preserved
loop-start-preserved c =
    let part = c.args.part.now in
    let text = c.args.self.now in
    let start = c.loop-start.start in
    let count = c.in-Some.count in
    let line : IsLine (drop start part) (nat_lt (length part) 1048577) count =
    subst (λ l. IsLine l (nat_lt (length part) 1048577) count) c.split_at.ensures.back c.in-Some.ensures in
    let nowhere : None ≡ line_place text (take count (drop start part)) =
    c.in_default-place_in.ensures.place ∙ ap (λ t. line_place t c.split_at-in-loop-start.result.0.now) c.loop-start.invariant.same
    ∙ ap (line_place text) (c.split_at-in-loop-start.ensures.front ∙ ap (take count) c.split_at.ensures.back) in
    record {
      same = c.in_default-place_in.ensures.same ∙ c.loop-start.invariant.same;
      low = omega (arith, line.within, length-drop start part, c.loop-start-test.true);
      last = refl;
      left = λ at rest is.
          line-passed text at start 1048577 part rest refl is c.loop-start-test.true (c.loop-start.invariant.left at rest is)
          count (nat_lt (length part) 1048577) (λ e. last_part (length part) 1048577 e) line.line line.within line.ended nowhere;
    }
