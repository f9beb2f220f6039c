use Rattle.std.proofs.Common.{ap, ◌∙◌, FitsSigned, w64, ℕ, Option}
use Rattle.std.proofs.lemmas.Int.{to_z-of_z}
use Rattle.mc_text.specs.Times.{time_text, text_of_second}
use Rattle.mc_text.proofs.times.time_text.Goals as goal

pub returns-in_default : goal.returns-in_default
unfolding time_text
returns-in_default c =
    let fits : FitsSigned w64 c.args.secs = c.ranges.secs in
    let none = simp to_z-of_z at c.in_default.ensures.value in
    c.in_ok-push_str.ensures.bytes ∙ rw c.new-line.ensures.bytes (ap (λ (o : Option ℕ). text_of_second o c.args.now) none)

pub returns : goal.returns
unfolding time_text
returns c =
    let fits : FitsSigned w64 c.args.secs = c.ranges.secs in
    let some = simp to_z-of_z at c.in-Some.ensures.value in
    c.in_ok-push_civil.ensures ∙ rw (c.new-line.ensures.bytes, c.civil_at.ensures.value, c.is_recent.ensures)
    (ap (λ (o : Option ℕ). text_of_second o c.args.now) some)
