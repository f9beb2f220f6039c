-- What is decided of what the looks told.
use Rattle.std.proofs.Common.{◌≡◌, sym, ◌∙◌, ap, subst, inl, inr, refl, Option, Some, None, Result, Ok, Err}
use Rattle.std.specs.Prelude.{MatchResult}
use Rattle.mc_text.specs.declared.kind.Kind.TheVariants.{File}
use Rattle.tree_trait.specs.declared.file_system.FileSystem.{FileSystem}
use Rattle.tree_trait.specs.declared.calls.Meta.{Meta}
use Rattle.tree_trait.specs.Answers.{IsMeta}
use Rattle.tree_trait.specs.Calls.{Stat}
use Rattle.tree_trait.specs.Refusals.{refusal_of}
use Rattle.mc_text.specs.Routes.{Route}
use Rattle.job_reports.specs.declared.report.Cause.{Cause}
use Rattle.job_reports.specs.declared.report.Cause.TheVariants.{Tree, TargetKind, SpecialSource, TooDeep, PartTaken, TooLong, Unnamed, Changed, Memory}
use Rattle.job_reports.specs.declared.report.Trouble.{Trouble}
use Rattle.copy_file.specs.declared.stage.SourceFacts.{SourceFacts}
use Rattle.copy_file.specs.Copying.{Places}
use Rattle.copy_file.specs.Looking.{AllPass, AreFactsOf, IsReady, IsThere, Judges, LookRefused, LookStops, facts_in, file_at, looks_at}

-- a refused look is a trouble, whatever may stand at the target
pub refused_stops : (s : FileSystem) (p : Places) (cause : Cause) (path : Option Route) → LookRefused s p cause path → LookStops s p cause path
refused_stops s p (Tree e) path h = h
refused_stops s p Memory path h = h
refused_stops s p (TargetKind kind) path h = absurd h
refused_stops s p SpecialSource path h = absurd h
refused_stops s p TooDeep path h = absurd h
refused_stops s p (Unnamed count) path h = absurd h
refused_stops s p PartTaken path h = absurd h
refused_stops s p TooLong path h = absurd h
refused_stops s p (Changed said got) path h = absurd h

module _ (s : FileSystem) (p : Places) (source : Meta) (passes : AllPass s (looks_at p)) (stands : refusal_of s (Stat p.source) ≡ None) (is : IsMeta s p.source source) where
  facts_are : (facts : SourceFacts) → facts ≡ facts_in source → AreFactsOf s p.source facts
  facts_are facts e = record {
    size = ap (λ (f : SourceFacts). f.size) e ∙ is.size;
    mode = ap (λ (f : SourceFacts). f.mode) e ∙ is.mode;
  }

  no_file : (source.kind ≡ File → ⊥) → (file_at s p.source).kind ≡ File → ⊥
  no_file other same = other (is.kind ∙ same)

  -- nothing may stand at the target
  pub judged : (target : Option Meta) (result : Result SourceFacts Trouble) → IsThere s p.target target → Judges p source target result
      → MatchResult result (λ facts. IsReady s p × AreFactsOf s p.source facts) (λ trouble. LookStops s p trouble.cause trouble.path)
  judged None (Ok facts) there (file, e) = (record { source = stands; file = sym is.kind ∙ file; target = there }, facts_are facts e)
  judged None (Err trouble) there (other, inl e) = subst (λ (t : Trouble). LookStops s p t.cause t.path) (sym e) (refl, passes, there, no_file other)
  judged None (Err trouble) there (other, inr e) = subst (λ (t : Trouble). LookStops s p t.cause t.path) (sym e) refl
  judged (Some target) (Ok facts) there h = absurd h
  judged (Some target) (Err trouble) there (inl e) = subst (λ (t : Trouble). LookStops s p t.cause t.path) (sym e) (refl, passes, there.0, there.1.kind)
  judged (Some target) (Err trouble) there (inr e) = subst (λ (t : Trouble). LookStops s p t.cause t.path) (sym e) refl
