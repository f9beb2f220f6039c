-- What the looks tell of a folder that comes onto a folder.
use Rattle.std.specs.Prelude.{MatchResult}
use Rattle.std.proofs.Common.{◌≡◌, ℕ, List, Result, Ok, Err, refl, sym, subst, inl, inr, Some}
use Rattle.tree_trait.specs.declared.file_system.FileSystem.{FileSystem}
use Rattle.tree_trait.specs.declared.calls.Meta.{Meta}
use Rattle.job_reports.specs.declared.job.Pair.{Pair}
use Rattle.job_reports.specs.declared.report.Trouble.{Trouble}
use Rattle.job_answers.specs.declared.placing.Origin.TheVariants.{Moved}
use Rattle.job_answers.specs.declared.placing.Placing.TheVariants.{Merges}
use Rattle.job_answers.specs.Questions.{placing_at}
use Rattle.copy_tree.specs.Merging.{NamesStop}
use Rattle.copy_tree.specs.Taking.{Lists}
use Rattle.move_job.specs.Takings.{IsMerged, LooksStop, MeetsFolder, Stands}

module _ (s : FileSystem) (pair : Pair) (source target : Meta) (stands : Stands s pair.source source) (there : Stands s pair.target target)
    (meets : placing_at (Moved source.kind) (Some target.kind) ≡ Merges) where
  module _ (together : source.mount ≡ target.mount) where
    meets_folder : MeetsFolder s pair
    meets_folder = record { source = source; target = target; of_source = stands; of_target = there; meets = meets; together = together }

    -- the names of what lies in it can't be had, or something in it can't be told
    merge_stops : (trouble : Trouble) → NamesStop s pair trouble → LooksStop s pair trouble.cause trouble.path
    merge_stops trouble (inl listing) =
        inr (inl (inl (record { meets = meets_folder; trouble = trouble; cause_is = refl; path_is = refl; stops = inl listing })))
    merge_stops trouble (inr (inl child)) = inr (inl (inl (record { meets = meets_folder; trouble = trouble; cause_is = refl; path_is = refl; stops = inr child })))
    merge_stops trouble (inr (inr same)) = subst (λ (t : Trouble). LooksStop s pair t.cause t.path) (sym same) (inr (inr (refl, refl)))

    pub merges_or : (result : Result (List (List ℕ)) Trouble) → MatchResult result (Lists s pair.source) (NamesStop s pair)
        → MatchResult result (IsMerged s pair) (λ trouble. LooksStop s pair trouble.cause trouble.path)
    merges_or (Ok names) lists = record { meets = meets_folder; lists = lists }
    merges_or (Err trouble) stops = merge_stops trouble stops
