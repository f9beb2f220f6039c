-- sources that lie side by side aren't nested
use Rattle.std.proofs.Common.{Option, subst}
use Rattle.std.specs.Prelude.{IfSome}
use Rattle.mc_text.specs.Routes.{Route}
use Rattle.op_plan.specs.Digests.{LieApart}
use Rattle.op_plan.proofs.CheckLemmas.{nested-none}
use Rattle.op_plan.proofs.sources.refuse_nested_unless.Goals as goal

pub returns-in-Some-clause-answer : goal.returns-in-Some-clause-answer
returns-in-Some-clause-answer c =
    let Held : Option Route → Type 0 = λ o. IfSome o (λ folder. LieApart folder c.args.sources.now) in
    let lie : LieApart c.in-Some.field-0 c.args.sources.now = subst Held c.in-Some.is c.requires in
    nested-none c.args.sources.now lie.apart
