-- One name for each source.
use Rattle.std.proofs.Common.{◌≡◌, ◌++◌, [], ◌∙◌, sym, ap, drop, length, List, Some}
use Rattle.std.proofs.lemmas.List.{drop_all, append-nil}
use Rattle.mc_text.specs.Routes.{Route}
use Rattle.op_plan.specs.Naming.{all_of, target_name}
use Rattle.op_plan.proofs.NamingLemmas.{joined}
use Rattle.op_plan.proofs.PlanLemmas.{all-length}
use Rattle.op_plan.proofs.naming.target_names.Goals as goal

pub returns-clause-many : goal.returns-clause-many
returns-clause-many c =
    let sources = c.args.sources.now in
    let named = target_name c.args.pattern.now c.args.mask.now in
    let names = c.loop-source.names.items in
    let none_left : drop c.loop-source.source-index sources ≡ [] = drop_all c.loop-source.source-index sources c.loop-source-test.false in
    let whole : Some (names ++ []) ≡ all_of named sources =
    ap (λ (l : List Route). joined names (all_of named l)) (sym none_left) ∙ c.loop-source.invariant in
    ap length (sym (append-nil names)) ∙ all-length named sources (names ++ []) (sym whole)
