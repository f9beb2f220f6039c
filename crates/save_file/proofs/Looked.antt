-- What the looks come to.
use Rattle.std.proofs.Common.{◌≡◌, ℕ, ◌≤◌, refl, sym, ap, subst, inl, inr, Option, Some, None, Result, Ok, Err, IfOk, IfSome, MatchResult, arith}
use Rattle.mc_text.specs.Routes.{Route}
use Rattle.mc_text.specs.declared.kind.Kind.{Kind}
use Rattle.mc_text.specs.declared.kind.Kind.TheVariants.{File, Folder, Link, Other}
use Rattle.tree_trait.specs.declared.file_system.FileSystem.{FileSystem}
use Rattle.tree_trait.specs.declared.calls.Meta.{Meta}
use Rattle.tree_trait.specs.Calls.{Stat}
use Rattle.tree_trait.specs.Refusals.{refusal_of}
use Rattle.tree_trait.specs.Answers.{IsInRange}
use Rattle.job_reports.specs.declared.report.Cause.{Cause}
use Rattle.job_reports.specs.declared.report.Cause.TheVariants.{Tree, TargetKind, SpecialSource, TooDeep, PartTaken, TooLong, Unnamed, Changed, Memory}
use Rattle.job_reports.specs.declared.report.Trouble.{Trouble}
use Rattle.job_reports.specs.Paths.{folder_of}
use Rattle.job_reports.specs.Reading.{StatStops, TargetStops}
use Rattle.copy_file.specs.Looking.{IsThere, file_at}
use Rattle.copy_file.proofs.LooksInOrder.{must_be, passes_there}
use Rattle.save_file.specs.Looking.{Judges, LookStops, TakesMode, mode_over}

-- a mode that a file takes has twelve bits, where that of the thing has
over_range : (kind : Kind) (mode taken : ℕ) → mode_over kind mode ≡ Some taken → mode ≤ 0o7777 → taken ≤ 0o7777
over_range File mode taken h few = let same : mode ≡ taken = cc in omega (arith, same, few)
over_range Link mode taken h few = let same : 0o644 ≡ taken = cc in omega (arith, same)
over_range Folder mode taken h few = absurd cc
over_range Other mode taken h few = absurd cc

judged_range : (target : Route) (found : Option Meta) (mode : ℕ) → IfSome found IsInRange → Judges target found (Ok mode) → mode ≤ 0o7777
judged_range target None mode few h = omega (arith, h)
judged_range target (Some meta) mode few h = over_range meta.kind meta.mode mode h few.mode

module _ (s : FileSystem) (target : Route) where
  -- the look at the target is refused, and not for want of a thing there
  pub first_look : (cause : Cause) (path : Option Route) → TargetStops s target cause path → LookStops s target cause path
  first_look (Tree e) path h = (target, h.0.0, inl (refl, h.0.1, (λ k. h.1 (ap Tree k.1))))
  first_look Memory path h = h.0
  first_look (TargetKind kind) path h = absurd h.0
  first_look SpecialSource path h = absurd h.0
  first_look TooDeep path h = absurd h.0
  first_look (Unnamed count) path h = absurd h.0
  first_look PartTaken path h = absurd h.0
  first_look TooLong path h = absurd h.0
  first_look (Changed said got) path h = absurd h.0

  module _ (found : Option Meta) (there : IsThere s target found) where
    -- the look at the folder is
    pub second_look : (cause : Cause) (path : Option Route) → StatStops s (folder_of target) cause path → LookStops s target cause path
    second_look (Tree e) path h = (folder_of target, h.0, inr (passes_there s target found there, inl (refl, h.1, (λ k. must_be k.0))))
    second_look Memory path h = h
    second_look (TargetKind kind) path h = absurd h
    second_look SpecialSource path h = absurd h
    second_look TooDeep path h = absurd h
    second_look (Unnamed count) path h = absurd h
    second_look PartTaken path h = absurd h
    second_look TooLong path h = absurd h
    second_look (Changed said got) path h = absurd h

  -- what stands at the target gives way, or nothing stands there
  judged_mode : (found : Option Meta) (mode : ℕ) → IsThere s target found → Judges target found (Ok mode) → TakesMode s target mode
  judged_mode None mode there h = inl (there, h)
  judged_mode (Some meta) mode there h =
      inr (there.0, subst (λ k. mode_over k (file_at s target).mode ≡ Some mode) there.1.kind (subst (λ m. mode_over meta.kind m ≡ Some mode) there.1.mode h))

  -- what stands there doesn't give way
  judged_stop : (found : Option Meta) (t : Trouble) → IsThere s target found → refusal_of s (Stat (folder_of target)) ≡ None → Judges target found (Err t) → LookStops s target t.cause t.path
  judged_stop None t there folder h = absurd h
  judged_stop (Some meta) t there folder (none, inl is) =
      subst (λ (u : Trouble). LookStops s target u.cause u.path) (sym is)
      (refl, (inl there.0, (inl folder, tt)), there.0, there.1.kind, subst (λ m. mode_over meta.kind m ≡ None) there.1.mode none)
  judged_stop (Some meta) t there folder (none, inr is) = subst (λ (u : Trouble). LookStops s target u.cause u.path) (sym is) refl

  pub judged : (found : Option Meta) (r : Result ℕ Trouble) → IsThere s target found → refusal_of s (Stat (folder_of target)) ≡ None → Judges target found r
      → MatchResult r (λ mode. TakesMode s target mode) (λ t. LookStops s target t.cause t.path)
  judged found (Ok mode) there folder h = judged_mode found mode there h
  judged found (Err t) there folder h = judged_stop found t there folder h

pub judged_in_range : (target : Route) (found : Option Meta) (r : Result ℕ Trouble) → IfSome found IsInRange → Judges target found r → IfOk r (λ mode. mode ≤ 0o7777)
judged_in_range target found (Ok mode) few h = judged_range target found mode few h
judged_in_range target found (Err t) few h = tt
