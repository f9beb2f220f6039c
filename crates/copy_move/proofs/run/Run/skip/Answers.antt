-- The file is passed over, or there is no memory for the report.
use Rattle.std.proofs.Common.{ap, subst, sym, ◌∙◌, refl}
use Rattle.copy_move.specs.declared.run.Course.{Course}
use Rattle.copy_move.specs.Jobs.{IsSound, Running, at_barrier}
use Rattle.copy_move.specs.JobStepReports.{WorkSkips}
use Rattle.copy_move.proofs.run.Run.skip.Goals as goal

pub returns : goal.returns
returns c =
    record {
      skips =
          let now = c.args.self.now in
          let work = c.skip-did.new.self in
          record {
            work = work;
            apart = sym (ap (λ (j : Running). at_barrier j.work) c.self.view_is)
                ∙ (subst (λ k. IsSound k c.self.inside.work) (ap (λ (j : Running). j.course) c.self.view_is ∙ c.requires.course) c.self.invariant).1;
            skips = subst (λ w. WorkSkips c.args.cause w c.skip-did.result work) (ap (λ (j : Running). j.work) c.self.view_is) c.skip-did.ensures.skips;
            new_is = ap (λ (j : Running). let k : Running = record j { work = work; course = c.after_report-self-inside.result } in k) c.self.view_is
                ∙ ap (λ (course : Course). let k : Running = record now { work = work; course = course } in k) c.after_report-self-inside.ensures;
            none = refl;
          };
    }
