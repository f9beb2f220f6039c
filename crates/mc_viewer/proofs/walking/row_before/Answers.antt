-- A row begins where a line begins, and in hexadecimal at each multiple of sixteen.
use Rattle.std.proofs.Common.{◌≡◌, ◌-◌, ◌*◌, ◌/◌, ◌%◌, sym, subst, arith}
use Rattle.std.proofs.lemmas.Result.{IfOk-weaker}
use Rattle.mc_viewer.specs.Rows.{IsRow}
use Rattle.mc_viewer.proofs.StartLemmas.{IsRow-line, IsRow-hex}
use Rattle.mc_viewer.proofs.walking.row_before.Goals as goal

pub returns-in-Hex-clause-row : goal.returns-in-Hex-clause-row
returns-in-Hex-clause-row g c = λ bytes known size_is columns.
    let count = c.args.byte / 16 in
    let place : 16 * count ≡ c.args.byte - c.args.byte % 16 = omega arith in
    subst (λ at. IsRow c.args.shape columns bytes at) place
    (subst (λ s. IsRow s columns bytes (16 * count)) (sym c.in-Hex.is) (IsRow-hex columns bytes count (omega (arith, c.requires.inside))))

pub returns-in_default : goal.returns-in_default
returns-in_default g c = record {
  row = λ bytes known size_is.
      IfOk-weaker c.line_begin.result _ _ (λ row start columns. IsRow-line c.args.shape columns c.in_default.not-Hex bytes row start)
      (c.line_begin.ensures.shown bytes known);
  before = c.line_begin.ensures.before;
  refused = c.line_begin.ensures.refused;
  kinds = c.line_begin.ensures.kinds;
  same = c.line_begin.ensures.same;
  apart = c.line_begin.ensures.apart;
  cause = c.line_begin.ensures.cause;
}
