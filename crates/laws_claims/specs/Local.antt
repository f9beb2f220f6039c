-- A change that keeps to claims: it touches only what they write, and what it does rests
-- only on what lies near them.
use Rattle.std.specs.Prelude.{◌≡◌, true, false, List}
use Rattle.mc_text.specs.Routes.{Route}
use Rattle.tree_trait.specs.FileSystem.{View}
use Rattle.job_claims.specs.Claiming.{claims, clashes}
use Rattle.laws_claims.specs.Near.{is_written, is_near}
use Rattle.job_claims.specs.declared.claim.Claim.{Claim}
use Rattle.op_plan.specs.declared.job.Job.{Job}
use Rattle.laws_claims.specs.Works.{Work, does}

-- two views are the same near these claims
abbrev pub Agree : List Claim → View → View → Type 0
Agree cs v w = (p : Route) → is_near cs p ≡ true → v p ≡ w p

pub record KeepsTo (cs : List Claim) (f : View → View) : Type 0 where
  pub frame : (v : View) (p : Route) → is_written cs p ≡ false → f v p ≡ v p
  pub rests : (v w : View) → Agree cs v w → Agree cs (f v) (f w)

-- Each work of a job keeps to the job's claims.
abbrev pub WorkLaw : Type 0
WorkLaw = (job : Job) (work : Work) → KeepsTo (claims job) (does job work)

-- What keeps to claims that don't clash comes to the same in either order.
abbrev pub OrderLaw : Type 0
OrderLaw = (mine theirs : List Claim) (f g : View → View) → clashes mine theirs ≡ false → KeepsTo mine f
    → KeepsTo theirs g
    → (v : View) → f (g v) ≡ g (f v)
