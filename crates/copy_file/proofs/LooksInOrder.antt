-- The looks one behind the other: the first that is refused is the trouble.
use Rattle.std.proofs.Common.{◌≡◌, true, false, refl, inl, inr, ap, Option, Some, None}
use Rattle.mc_text.specs.Routes.{Route}
use Rattle.tree_trait.specs.declared.file_system.FileSystem.{FileSystem}
use Rattle.tree_trait.specs.declared.calls.Meta.{Meta}
use Rattle.tree_trait.specs.Calls.{Stat}
use Rattle.tree_trait.specs.Refusals.{refusal_of}
use Rattle.job_reports.specs.declared.report.Cause.{Cause}
use Rattle.job_reports.specs.declared.report.Cause.TheVariants.{Tree, TargetKind, SpecialSource, TooDeep, PartTaken, TooLong, Unnamed, Changed, Memory}
use Rattle.copy_file.specs.Copying.{Places}
use Rattle.job_reports.specs.Paths.{folder_of}
use Rattle.copy_file.specs.Looking.{IsThere, LookRefused, Passes}
use Rattle.job_reports.specs.Reading.{StatStops, TargetStops}

pub must_be : {P : Type 0} → (let b = false in b) ≡ true → P
must_be h = absurd cc

pub passes_there : (s : FileSystem) (target : Route) (found : Option Meta) → IsThere s target found → Passes s (target, true)
passes_there s target None h = inr (refl, h)
passes_there s target (Some meta) h = inl h.0

module _ (s : FileSystem) (p : Places) where
  pub first_look : (cause : Cause) (path : Option Route) → StatStops s p.source cause path → LookRefused s p cause path
  first_look (Tree e) path h = (p.source, h.0, inl (refl, h.1, (λ k. must_be k.0)))
  first_look Memory path h = h
  first_look (TargetKind kind) path h = absurd h
  first_look SpecialSource path h = absurd h
  first_look TooDeep path h = absurd h
  first_look (Unnamed count) path h = absurd h
  first_look PartTaken path h = absurd h
  first_look TooLong path h = absurd h
  first_look (Changed said got) path h = absurd h

  module _ (source : refusal_of s (Stat p.source) ≡ None) where
    pub second_look : (cause : Cause) (path : Option Route) → TargetStops s p.target cause path → LookRefused s p cause path
    second_look (Tree e) path h = (p.target, h.0.0, inr (inl source, inl (refl, h.0.1, (λ k. h.1 (ap Tree k.1)))))
    second_look Memory path h = h.0
    second_look (TargetKind kind) path h = absurd h.0
    second_look SpecialSource path h = absurd h.0
    second_look TooDeep path h = absurd h.0
    second_look (Unnamed count) path h = absurd h.0
    second_look PartTaken path h = absurd h.0
    second_look TooLong path h = absurd h.0
    second_look (Changed said got) path h = absurd h.0

    module _ (found : Option Meta) (target : IsThere s p.target found) where
      pub third_look : (cause : Cause) (path : Option Route) → StatStops s (folder_of p.source) cause path → LookRefused s p cause path
      third_look (Tree e) path h =
          (folder_of p.source, h.0, inr (inl source, inr (passes_there s p.target found target, inl (refl, h.1, (λ k. must_be k.0)))))
      third_look Memory path h = h
      third_look (TargetKind kind) path h = absurd h
      third_look SpecialSource path h = absurd h
      third_look TooDeep path h = absurd h
      third_look (Unnamed count) path h = absurd h
      third_look PartTaken path h = absurd h
      third_look TooLong path h = absurd h
      third_look (Changed said got) path h = absurd h

      pub fourth_look : (cause : Cause) (path : Option Route) → refusal_of s (Stat (folder_of p.source)) ≡ None → StatStops s (folder_of p.target) cause path → LookRefused s p cause path
      fourth_look (Tree e) path folder h =
          (folder_of p.target, h.0, inr (inl source, inr (passes_there s p.target found target, inr (inl folder, inl (refl, h.1, (λ k. must_be k.0))))))
      fourth_look Memory path folder h = h
      fourth_look (TargetKind kind) path folder h = absurd h
      fourth_look SpecialSource path folder h = absurd h
      fourth_look TooDeep path folder h = absurd h
      fourth_look (Unnamed count) path folder h = absurd h
      fourth_look PartTaken path folder h = absurd h
      fourth_look TooLong path folder h = absurd h
      fourth_look (Changed said got) path folder h = absurd h
