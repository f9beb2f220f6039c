-- The job turns to the source that was taken, or there is no memory for that.
use Rattle.std.proofs.Common.{rules, ℕ, Ok, ◌≡◌, ◌⊎◌, ◌∷◌, [], List, Option, Some, Result, true, sym, inl, inr, subst, IfOk}
use Rattle.mc_text.specs.declared.error.NoMemory.{NoMemory}
use Rattle.job_reports.specs.declared.job.Job.{Job}
use Rattle.job_reports.specs.declared.report.Did.{Did}
use Rattle.copy_move.specs.Jobs.{Running}
use Rattle.job_sources.specs.declared.turning.Stepped.{Stepped}
use Rattle.job_sources.specs.Turning.{GoesOn, RunsShort, Takes, Turns, finishes}
use Rattle.job_sources.proofs.turning.go_on.Goals as goal

turned : (job : Running) (did : Did) (calls : ℕ) (old taken new : List Job) (source : Job) (stepped : Stepped) → finishes did ≡ true → Takes old (Some source) taken
    → (Turns job source stepped × (new ≡ taken)) ⊎ (RunsShort job stepped × (new ≡ [])) → GoesOn job did calls old stepped new
turned job did calls old taken new source stepped is takes (inl (t, same)) = inr (inl (is, source, subst (λ l. old ≡ source ∷ l) (sym same) takes.0, t))
turned job did calls old taken new source stepped is takes (inr (r, none)) = inr (inr (inl is, none, r))

-- the same, from what taking it told
turned_by : (job : Running) (did : Did) (calls : ℕ) (old taken new : List Job) (source : Job) (stepped : Stepped) (result : Result (Option Job) NoMemory) → finishes did ≡ true → result ≡ Ok (Some source) → IfOk result (λ next. Takes old next taken)
    → (Turns job source stepped × (new ≡ taken)) ⊎ (RunsShort job stepped × (new ≡ [])) → GoesOn job did calls old stepped new
turned_by job did calls old taken new source stepped result is got takes goes = turned job did calls old taken new source stepped is (subst (λ r. IfOk r (λ next. Takes old next taken)) got takes) goes

pub returns-in-Ok-Some : goal.returns-in-Ok-Some
returns-in-Ok-Some c =
    let is : finishes c.args.made.did ≡ true = search rules in
    let got : c.take_next.result ≡ Ok (Some c.in-Ok-Some.source) = search rules in
    record {
      goes = turned_by c.args.job c.args.made.did c.args.made.calls c.args.later.now c.take_next.new.self c.turn.new.later c.in-Ok-Some.source c.turn.result c.take_next.result is got c.take_next.ensures c.turn.ensures.goes;
    }
