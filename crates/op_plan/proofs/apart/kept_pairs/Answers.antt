-- the source at hand is one of the list, and at the end all were yielded
use Rattle.std.proofs.Common.{◌∙◌, Bool, ap, sym, length}
use Rattle.std.specs.List.{list_any}
use Rattle.std.proofs.lemmas.Iterator.Adapters.{YieldsList-from_vec}
use Rattle.std.proofs.lemmas.Iterator.Consumers.{YieldsList-turn, YieldsList-end}
use Rattle.mc_text.specs.Routes.{Route}
use Rattle.op_plan.specs.Checks.{is_too_long}
use Rattle.op_plan.specs.Digests.{name_of}
use Rattle.op_plan.proofs.BesideLemmas.{any_at, any_name, all_yielded}
use Rattle.op_plan.proofs.apart.kept_pairs.Goals as goal

pub returns-in-Err-clause-too_long : goal.returns-in-Err-clause-too_long
returns-in-Err-clause-too_long c =
    let sources = c.args.sources in
    let yielded = c.loop-source.yielded in
    let source = c.in-Some.source in
    let long : Route → Bool = λ path. is_too_long c.args.folder.now (name_of path) in
    let turn = YieldsList-turn (YieldsList-from_vec sources (cc) (cc)) yielded c.loop-source.source-iterator c.loop-source.yielded_by
    c.next.result c.next.new.self source c.in-Some.is c.next.ensures.steps in
    λ differs.
    let refused = c.in-Err.ensures.too_long differs in
    (refused.0, any_name (is_too_long c.args.folder.now) sources ∙ any_at long sources (length yielded) source turn.0 (ap long (sym turn.1) ∙ refused.1))

pub returns-clause-fits : goal.returns-clause-fits
returns-clause-fits c =
    let sources = c.args.sources in
    let long : Route → Bool = λ path. is_too_long c.args.folder.now (name_of path) in
    let end = YieldsList-end (YieldsList-from_vec sources (cc) (cc)) c.loop-source.yielded c.loop-source.source-iterator c.loop-source.yielded_by
    c.next.result c.next.new.self c.in-None.is c.next.ensures.steps in
    any_name (is_too_long c.args.folder.now) sources ∙ (ap (list_any long) (sym (all_yielded c.loop-source.yielded sources end.0)) ∙ c.loop-source.invariant.fits)
