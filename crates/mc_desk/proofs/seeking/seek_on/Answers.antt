-- Each step goes on from where the one before it left the screen.
use Rattle.std.proofs.Common.{rules, ◌≡◌, ◌≤◌, ◌+◌, true, false, ◌∙◌, refl, inl, inr, arith}
use Rattle.mc_ui.specs.Seekings.{is_seeking}
use Rattle.mc_desk.proofs.SeekSteps.{left_fewer, may_have_lacked, not_none, one_step_more, some_made}
use Rattle.mc_desk.proofs.seeking.seek_on.Goals as goal

pub returns-in_err-seek-clause-sought : goal.returns-in_err-seek-clause-sought
returns-in_err-seek-clause-sought g c =
    let was = c.loop-ui.invariant in
    let seeking : is_seeking c.loop-ui.ui ≡ true = search rules in
    let few : c.loop-ui.steps + 1 ≤ 50000 = search rules in
    record {
      steps = c.loop-ui.steps + 1;
      some = omega arith;
      most = few;
      made = one_step_more true c.loop-ui.steps (g.T.ReadTree.contents c.args.tree.now) (g.T.ReadTree.contents c.loop-ui.tree) was.same (g.T.ReadTree.fault_count c.args.tree.now) (g.T.ReadTree.fault_count c.loop-ui.tree)
          (g.T.ReadTree.fault_count c.seek.new.tree) c.args.ui.now c.loop-ui.ui c.seek.new.self was.made seeking (inr (refl, c.in_err-seek.ensures.lost)) c.seek.ensures.kept c.seek.ensures.rest c.seek.ensures.later;
    }

pub loop-ui-preserved : goal.loop-ui-preserved
loop-ui-preserved g c =
    let was = c.loop-ui.invariant in
    let seeking : is_seeking c.loop-ui.ui ≡ true = search rules in
    let few : c.loop-ui.steps + 1 ≤ 50000 = search rules in
    record {
      made = one_step_more false c.loop-ui.steps (g.T.ReadTree.contents c.args.tree.now) (g.T.ReadTree.contents c.loop-ui.tree) was.same (g.T.ReadTree.fault_count c.args.tree.now) (g.T.ReadTree.fault_count c.loop-ui.tree)
          (g.T.ReadTree.fault_count c.seek.new.tree) c.args.ui.now c.loop-ui.ui c.seek.new.self was.made seeking (inl c.in_ok-seek.ensures.leads) c.seek.ensures.kept c.seek.ensures.rest c.seek.ensures.later;
      most = few;
      settled = c.seek.ensures.settled;
      size = record { same_lines = c.seek.ensures.size.same_lines ∙ was.size.same_lines; same_columns = c.seek.ensures.size.same_columns ∙ was.size.same_columns };
      same = c.seek.ensures.same ∙ was.same;
      later = let before = was.later in let after = c.seek.ensures.later in omega (arith, before, after);
      source = (c.is_stopped.ensures.source.0 ∙ was.source.0, c.is_stopped.ensures.source.1 ∙ was.source.1);
      none = λ h. absurd (not_none c.loop-ui.steps h);
      nearer = λ some. left_fewer c.loop-ui.steps c.args.ui.now c.loop-ui.ui c.seek.new.self was.none was.nearer (c.in_ok-seek.ensures.falls seeking);
    }

pub returns-else-is_seeking-clause-sought : goal.returns-else-is_seeking-clause-sought
returns-else-is_seeking-clause-sought g c =
    let was = c.loop-ui.invariant in
    let ended : is_seeking c.loop-ui.ui ≡ false = search rules in
    record {
      steps = c.loop-ui.steps;
      some = some_made c.loop-ui.steps c.args.ui.now c.loop-ui.ui was.none c.requires.seeking ended;
      most = was.most;
      made = may_have_lacked c.loop-ui.steps _ _ _ c.args.ui.now c.loop-ui.ui was.made;
    }

pub returns-after-loop-ui-clause-sought : goal.returns-after-loop-ui-clause-sought
returns-after-loop-ui-clause-sought g c =
    let was = c.loop-ui.invariant in
    let many : 1 ≤ c.loop-ui.steps = search rules in
    record {
      steps = c.loop-ui.steps;
      some = many;
      most = was.most;
      made = may_have_lacked c.loop-ui.steps _ _ _ c.args.ui.now c.loop-ui.ui was.made;
    }

pub returns-then-is_stopped-clause-sought : goal.returns-then-is_stopped-clause-sought
returns-then-is_stopped-clause-sought g c =
    let was = c.loop-ui.invariant in
    let many : 1 ≤ c.loop-ui.steps = search rules in
    record {
      steps = c.loop-ui.steps;
      some = many;
      most = was.most;
      made = may_have_lacked c.loop-ui.steps _ _ _ c.args.ui.now c.loop-ui.ui was.made;
    }
