-- A newline ends a line; without one the line goes on behind the piece.
use Rattle.std.proofs.Common.{◌≡◌, ℕ, ◌-◌, ◌<◌, suc, true, List, length, get_or, subst, ◌∙◌, arith, length-drop}
use Rattle.memchr.specs.Find.{is_byte}
use Rattle.mc_viewer.proofs.PassingLemmas.{pass-one, pass-none}
use Rattle.mc_viewer.proofs.passing.pass_lines.Goals as goal

pub returns-in_default-clause-way : goal.returns-in_default-clause-way
returns-in_default-clause-way c = λ bytes count at piece_is.
    let more = c.loop-left.left in
    let one_more : more ≡ suc (more - 1) = omega (arith, c.loop-left-test.true) in
    let nowhere = subst (λ (l : List ℕ). (k : ℕ) → k < length l → is_byte 10 (get_or l k 0) ≡ true → ⊥) c.rest_from.ensures
    (λ k low here. c.in_default.ensures k (omega arith) low here) in
    c.loop-left.invariant.way bytes count at piece_is
    ∙ pass-none bytes c.args.piece.now count at c.loop-left.at piece_is c.loop-left.invariant.within (more - 1) more one_more nowhere

pub loop-left-preserved : goal.loop-left-preserved
loop-left-preserved c =
    let piece = c.args.piece.now in
    let passed = c.loop-left.at in
    let more = c.loop-left.left in
    let newline = c.in-Some.newline in
    let rest = c.rest_from.ensures in
    let one_more : more ≡ suc (more - 1) = omega (arith, c.loop-left-test.true) in
    let low = subst (λ (l : List ℕ). newline < length l) rest c.in-Some.ensures.0.high in
    let before = subst (λ (l : List ℕ). (k : ℕ) → k < newline → is_byte 10 (get_or l k 0) ≡ true → ⊥) rest
    (λ k less there. c.in-Some.ensures.0.before k (omega arith) less there) in
    let here = subst (λ (l : List ℕ). is_byte 10 (get_or l newline 0) ≡ true) rest c.in-Some.ensures.1 in
    record {
      within = omega (arith, low, length-drop passed piece, c.loop-left.invariant.within);
      passed = omega (arith, one_more, c.loop-left.invariant.passed);
      way = λ bytes count at piece_is.
          c.loop-left.invariant.way bytes count at piece_is
          ∙ pass-one bytes piece count at passed piece_is c.loop-left.invariant.within newline (more - 1) more one_more low before here;
    }
