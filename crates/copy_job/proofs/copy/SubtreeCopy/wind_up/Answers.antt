-- The machine makes the last step, and the folder that it tried leaves the list.
use Rattle.std.proofs.Common.{◌≡◌, true, refl, subst, ap, ◌∙◌}
use Rattle.copy_tree.specs.Ending.{WindsAt}
use Rattle.copy_tree.specs.Standing.{seen_copy}
use Rattle.job_unsynced.specs.Folders.{after_try}
use Rattle.copy_job.specs.Standing.{SubtreeCopying}
use Rattle.copy_job.specs.SubtreeSteps.{LastSubtreeStep}
use Rattle.copy_job.proofs.Held.{wound_held}
use Rattle.copy_job.specs.Reporting.{IsAfterLastStep}
use Rattle.copy_job.specs.Standing.{is_own, part_of}
use Rattle.copy_job.specs.LastCalls.{LastCalls, TellsTried}
use Rattle.copy_job.proofs.LastRuns.{winds_told}
use Rattle.copy_job.proofs.Reportings.{moved_own, winds_wound}
use Rattle.copy_job.proofs.copy.SubtreeCopy.wind_up.Goals as goal

pub invariant_of-self : goal.invariant_of-self
invariant_of-self g c = wound_held c.self.inside.top c.self.inside.folder c.args.ending (seen_copy c.self.inside.machine) (seen_copy c.wind_up-last.new.self) c.wind_up-last.result _ _ _ _ c.wind_up-last.ensures.winds c.wind_up-last.ensures.windable c.self.invariant

pub returns-clause-winds : goal.returns-clause-winds
returns-clause-winds g c =
    subst (λ (d : SubtreeCopying). LastSubtreeStep c.args.ending d (record { top = c.self.inside.top; at = seen_copy c.wind_up-last.new.self }) c.wind_up-last.result c.args.dirty.now c.note_try.new.self
    (g.T.ReadTree.contents c.args.tree.now) (g.T.ReadTree.contents c.wind_up-last.new.tree) (g.T.ReadTree.fault_count c.args.tree.now) (g.T.ReadTree.fault_count c.wind_up-last.new.tree)) c.self.view_is record {
      winds = c.wind_up-last.ensures.winds;
      list = c.note_try.ensures ∙ ap (λ f. after_try c.wind_up-last.result.did c.wind_up-last.result.left f c.args.dirty.now) c.folder.ensures;
      stands = refl;
    }

pub returns-clause-wound : goal.returns-clause-wound
returns-clause-wound g c =
    let held = c.self.invariant in
    let w = winds_wound c.self.inside.machine.item c.args.ending (seen_copy c.self.inside.machine) (seen_copy c.wind_up-last.new.self) c.wind_up-last.result _ _ _ _ c.wind_up-last.ensures.winds held.windable in
    subst (λ (d : SubtreeCopying). IsAfterLastStep c.args.ending d c.wind_up-last.result.did (record { top = c.self.inside.top; at = seen_copy c.wind_up-last.new.self })) c.self.view_is
    record { may = w.may; top = refl; stage = w.stage; part = w.part }

pub returns-clause-own : goal.returns-clause-own
returns-clause-own g c =
    let held = wound_held c.self.inside.top c.self.inside.folder c.args.ending (seen_copy c.self.inside.machine) (seen_copy c.wind_up-last.new.self) c.wind_up-last.result _ _ _ _ c.wind_up-last.ensures.winds c.wind_up-last.ensures.windable c.self.invariant in
    let place = held.in_place in
    subst (λ (d : SubtreeCopying). is_own d c.wind_up-last.new.self.stack.levels.inner.copy.target ≡ true) c.self.view_is
    (moved_own c.self.inside.top c.wind_up-last.new.self.stack.levels.inner c.wind_up-last.new.self.stack.levels.around place.levels)

pub returns-clause-called : goal.returns-clause-called
returns-clause-called g c log known =
    let held = c.self.invariant in
    subst (λ (d : SubtreeCopying). LastCalls (part_of d.at.item) c.wind_up-last.result.did log (g.T.ReadTree.contents c.wind_up-last.new.tree)) c.self.view_is
    (let t = winds_told c.self.inside.machine.item c.args.ending (seen_copy c.self.inside.machine) (seen_copy c.wind_up-last.new.self) c.wind_up-last.result log (g.T.ReadTree.contents c.wind_up-last.new.tree) _ _
    (subst (λ b. WindsAt c.self.inside.machine.item c.args.ending (seen_copy c.self.inside.machine) (seen_copy c.wind_up-last.new.self) c.wind_up-last.result b (g.T.ReadTree.contents c.wind_up-last.new.tree) (g.T.ReadTree.fault_count c.args.tree.now)
    (g.T.ReadTree.fault_count c.wind_up-last.new.tree)) known c.wind_up-last.ensures.winds) held.windable held.in_worked in t.called)

pub returns-clause-told : goal.returns-clause-told
returns-clause-told g c log known =
    let held = c.self.invariant in
    subst (λ (d : SubtreeCopying). TellsTried (part_of d.at.item) c.wind_up-last.result.did c.wind_up-last.result.left c.wind_up-last.new.self.stack.levels.inner.copy.target log (g.T.ReadTree.contents c.wind_up-last.new.tree)) c.self.view_is
    (let t = winds_told c.self.inside.machine.item c.args.ending (seen_copy c.self.inside.machine) (seen_copy c.wind_up-last.new.self) c.wind_up-last.result log (g.T.ReadTree.contents c.wind_up-last.new.tree) _ _
    (subst (λ b. WindsAt c.self.inside.machine.item c.args.ending (seen_copy c.self.inside.machine) (seen_copy c.wind_up-last.new.self) c.wind_up-last.result b (g.T.ReadTree.contents c.wind_up-last.new.tree) (g.T.ReadTree.fault_count c.args.tree.now)
    (g.T.ReadTree.fault_count c.wind_up-last.new.tree)) known c.wind_up-last.ensures.winds) held.windable held.in_worked in t.told)
