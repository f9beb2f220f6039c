-- the last path of the shortest front meets one before it, so the first such one is found
use Rattle.std.proofs.Common.{◌≡◌, ◌∙◌, ap, sym, subst, Some, take, arith}
use Rattle.std.specs.List.{position, slice_get}
use Rattle.std.proofs.lemmas.Bool.{false≢true}
use Rattle.std.proofs.lemmas.List.{length-take-le}
use Rattle.std.proofs.lemmas.List.Quantifiers.{position-Some}
use Rattle.std.proofs.lemmas.Option.{slice_get-get_or}
use Rattle.mc_text.specs.Routes.{Route}
use Rattle.op_plan.specs.Meeting.{meet}
use Rattle.op_plan.proofs.Twos.{last-passes, position-none}
use Rattle.op_plan.proofs.meeting.first_meeting.Goals as goal

pub unreachable-requires : goal.unreachable-requires
unreachable-requires c =
    let paths = c.args.paths.now in
    let last = c.in_ok-last.last in
    let path = c.index-paths-last.result in
    let met = last-passes meet paths last path c.in_ok-last.ensures.within c.index-paths-last.is c.in_ok-last.ensures.before c.in_ok-last.ensures.meets in
    let none = position-none (λ other. meet other path) (take last paths) (sym c.first_met.ensures ∙ c.in-None.is) in
    false≢true (sym none ∙ met)

pub returns : goal.returns
returns c =
    let paths = c.args.paths.now in
    let last = c.in_ok-last.last in
    let path = c.index-paths-last.result in
    let found : position (λ other. meet other path) (take last paths) ≡ Some c.in-Some.first = sym c.first_met.ensures ∙ c.in-Some.is in
    let before = (position-Some (λ other. meet other path) (take last paths) c.in-Some.first path found).0 in
    let within = c.in_ok-last.ensures.within in
    let size = length-take-le last paths (omega arith) in
    record {
      order = omega (arith, before, size);
      within = c.in_ok-last.ensures.within;
      before = c.in_ok-last.ensures.before;
      first_is = λ other at.
          let here : slice_get paths last ≡ Some path = slice_get-get_or paths last path c.in_ok-last.ensures.within ∙ ap (λ (r : Route). Some r) (sym c.index-paths-last.is) in
          let same : path ≡ other = cc in
          let P : Route → Type 0 = λ r. position (λ other. meet other r) (take last paths) ≡ Some c.in-Some.first in
          subst P same found;
    }
