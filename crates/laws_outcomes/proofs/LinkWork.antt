-- What the copy of a link has done, after each step, skip and retry.
use Rattle.std.proofs.Common.{List, ◌∷◌, sym, subst, inl, inr, Some}
use Rattle.mc_text.specs.Routes.{Route}
use Rattle.tree_trait.specs.Change.{CallLog}
use Rattle.tree_trait.specs.FileSystem.{View}
use Rattle.job_reports.specs.Jobs.{Copies}
use Rattle.job_reports.specs.declared.job.Pair.{Pair}
use Rattle.job_reports.specs.declared.report.Cause.{Cause}
use Rattle.job_reports.specs.declared.report.Did.{Did}
use Rattle.job_reports.specs.declared.report.Did.TheVariants.{Began, Chunk, Placed, Removed, Made, Set, Kept, Skipped, Cleaned, Barrier, Asked, Merges, Moved, Troubled, Ended}
use Rattle.copy_link.specs.LinkCopying.{LinkCopying, Tells, after_clean, skipped_stage, taken_anew}
use Rattle.copy_link.specs.LinkSteps as link
use Rattle.copy_link.specs.declared.stage.Next.{Next}
use Rattle.copy_link.specs.declared.stage.Next.TheVariants as next
use Rattle.copy_link.specs.declared.stage.Stage.{Stage}
use Rattle.copy_link.specs.declared.stage.Stage.TheVariants as at
use Rattle.copy_folders.specs.declared.level.Level.{Level}
use Rattle.copy_tree.specs.InPlace.{IsMoved}
use Rattle.laws_sessions.specs.Replayed.{replayed_step}
use Rattle.laws_outcomes.proofs.Accounts.{LinkDone, covered_more, covered_now, passed_at}
use Rattle.laws_outcomes.proofs.FileWork.{placed_all, self_prefix}

module _ (now : CallLog) (v : View) (passed : List Route) (top : Pair) (around : List Level) where
  abbrev Then : Did → View
  Then did = replayed_step now did (Some (Copies top.source top.target)) v

  abbrev Done : View → Route → Route → Stage → Type 0
  Done w source target stage = LinkDone w passed top.target around source target stage

  by_clean : (source target : Route) (follows : Next) → Done v source target (at.Clean follows) → Done v source target (after_clean follows)
  by_clean source target next.Again d = tt
  by_clean source target next.Decided d = inl d

  pub link_goes : (l moved : LinkCopying) (did : Did) → IsMoved top l.source l.target → Tells l did moved → Done v l.source l.target l.stage
      → LinkDone (Then did) (passed_at top did passed) top.target around moved.source moved.target moved.stage
  link_goes l moved (Began part) m (stage, part_is, new_is) d = subst (λ (x : LinkCopying). Done v x.source x.target x.stage) (sym new_is) (subst (λ s. Done v l.source l.target s) stage d)
  link_goes l moved (Placed path) m (stage, path_is, new_is) d =
      subst (λ (x : LinkCopying). Done (Then (Placed path)) x.source x.target x.stage) (sym new_is)
      (subst (λ p. Done (Then (Placed p)) l.source l.target at.Decided) (sym path_is) (inr (placed_all now v passed top l.source l.target m (subst (λ s. Done v l.source l.target s) stage d).0)))
  link_goes l moved (Cleaned part) m (follows, stage, part_is, new_is) d =
      subst (λ (x : LinkCopying). Done v x.source x.target x.stage) (sym new_is) (by_clean l.source l.target follows (subst (λ s. Done v l.source l.target s) stage d))
  link_goes l moved Barrier m (stage, dirty, new_is) d = subst (λ (x : LinkCopying). Done v x.source x.target x.stage) (sym new_is) d
  link_goes l moved (Troubled trouble) m (barrier, new_is) d = subst (λ (x : LinkCopying). Done v x.source x.target x.stage) (sym new_is) d
  link_goes l moved did m t d = absurd t

-- a link that is skipped is covered
module _ (v : View) (passed : List Route) (top : Pair) (around : List Level) where
  skipped_done : (source target : Route) (stage : Stage) → LinkDone v passed top.target around source target stage → LinkDone v (source ∷ passed) top.target around source target (skipped_stage stage)
  skipped_done source target at.Make d = inl (covered_now passed source source (self_prefix source))
  skipped_done source target at.Place d = covered_now passed source source (self_prefix source)
  skipped_done source target (at.Clean follows) d = covered_now passed source source (self_prefix source)
  skipped_done source target at.Left d = tt
  skipped_done source target at.Again d = inl (covered_now passed source source (self_prefix source))
  skipped_done source target at.Decided (inl covered) = inl (covered_more passed source source covered)
  skipped_done source target at.Decided (inr all) = inr all

  pub link_skips : (cause : Cause) (l moved : LinkCopying) (did : Did) → link.Skips cause l did moved → LinkDone v passed top.target around l.source l.target l.stage → LinkDone v (passed_at top did passed) top.target around moved.source moved.target moved.stage
  link_skips cause l moved did (inl s) d =
      subst (λ x. LinkDone v (passed_at top x passed) top.target around moved.source moved.target moved.stage) (sym s.0)
      (subst (λ (x : LinkCopying). LinkDone v (l.source ∷ passed) top.target around x.source x.target x.stage) (sym s.1) (skipped_done l.source l.target l.stage d))
  link_skips cause l moved did (inr s) d =
      subst (λ x. LinkDone v (passed_at top x passed) top.target around moved.source moved.target moved.stage) (sym s.0)
      (subst (λ (x : LinkCopying). LinkDone v passed top.target around x.source x.target x.stage) (sym s.1) d)

  pub link_anew : (source target : Route) (stage : Stage) → LinkDone v passed top.target around source target stage → LinkDone v passed top.target around source target (taken_anew stage)
  link_anew source target at.Make d = tt
  link_anew source target at.Place d = tt
  link_anew source target (at.Clean follows) d = d
  link_anew source target at.Left d = d
  link_anew source target at.Again d = d
  link_anew source target at.Decided d = d
