-- What is renamed lies apart from where it goes: no path lies at or below both.
use Rattle.std.proofs.Common.{◌≡◌, ◌⊎◌, ℕ, false, List, ◌∷◌, ◌++◌, sym, ◌∙◌, ap, subst, inl, inr, Some, None}
use Rattle.std.proofs.lemmas.Bool.{both_ways, or_right}
use Rattle.mc_text.specs.Routes.{Route, is_prefix, same_path}
use Rattle.tree_trait.specs.Calls.{Rename}
use Rattle.tree_trait.specs.Change.{CallLog, current, found_node}
use Rattle.tree_trait.specs.FileSystem.{find, node}
use Rattle.tree_trait.specs.Refusals.{folder_kind, is_folder, refusal_of}
use Rattle.tree_trait.specs.Shape.{IsTree}
use Rattle.tree_trait.proofs.Visible.{same_path-self}
use Rattle.job_reports.proofs.PermittedCalls.{stat_missing}
use Rattle.job_reports.specs.declared.job.Pair.{Pair}
use Rattle.job_reports.specs.Paths.{folder_of}
use Rattle.job_answers.specs.declared.replies.Replies.{Replies}
use Rattle.move_job.specs.Takings.{MayMove}
use Rattle.laws_sessions.proofs.KnownParts.{HasName}
use Rattle.laws_sessions.proofs.MovedTree.{MovesThing, apart}
use Rattle.laws_sessions.proofs.PathsBelow.{is_below}
use Rattle.laws_sessions.proofs.Renamings.{IsRenaming, renaming_passes}

abbrev pub AreApart : Pair → Type 0
AreApart pair = (rest more : Route) → rest ++ pair.source ≡ more ++ pair.target → ⊥

-- What is renamed lies apart from where it goes, stands, and goes onto no folder.
pub record GoesTo (log : CallLog) (pair : Pair) : Type 0 where
  pub apart : AreApart pair
  pub node_there : ℕ
  pub leads : find (current log) pair.source ≡ Some node_there
  pub bare : (j : ℕ) → find (current log) pair.target ≡ Some j → is_folder (node (current log) j) ≡ false

-- a thing that may be moved was renamed
module _ (log : CallLog) (tree : IsTree (current log)) (replies : Replies) (old : List ℕ) (from : Route) (new : List ℕ) (to : Route) (other : same_path (old ∷ from) (new ∷ to) ≡ false)
    (may : MayMove (current log) (record { source = old ∷ from; target = new ∷ to }) replies) (passes : refusal_of (current log) (Rename (old ∷ from) (new ∷ to)) ≡ None) where
  renaming : IsRenaming (current log) old from new to
  renaming = renaming_passes (current log) old from new to other passes

  -- a folder goes where nothing stands
  free : (is_folder (node (current log) (found_node (current log) (old ∷ from))) ≡ false) ⊎ (find (current log) (new ∷ to) ≡ None)
  free = elim may.free [
    | inl missing ↦ inr (stat_missing (current log) (new ∷ to) missing)
    | inr (question, decided) ↦ inl (ap folder_kind (sym decided.of_source.is.kind) ∙ decided.single)
  ]

  moves_thing : MovesThing log old from new to (found_node (current log) from) (found_node (current log) to) (found_node (current log) (old ∷ from))
  moves_thing = record {
    tree = tree;
    from = renaming.from_at;
    to = renaming.to_at;
    leads = renaming.leads;
    folder = renaming.holds;
    bare = λ j at. elim free [
      | inl single ↦ renaming.bare single j at
      | inr none ↦ absurd (let f : ⊥ = (let e : None ≡ Some j = sym none ∙ at in cc) in f)
    ];
    free = λ folder. elim free [ inl single ↦ absurd (both_ways _ single folder) | inr none ↦ none ];
    not_into = λ rest into. both_ways _ renaming.into (or_right _ _ (ap (is_prefix (old ∷ from)) into ∙ is_below (old ∷ from) rest));
    other = λ same. both_ways _ other (ap (same_path (old ∷ from)) (sym same) ∙ same_path-self (old ∷ from));
    mount = renaming.unmounted;
  }

  renamed_apart : AreApart (record { source = old ∷ from; target = new ∷ to })
  renamed_apart = apart log old from new to (found_node (current log) from) (found_node (current log) to) (found_node (current log) (old ∷ from)) None moves_thing

  renamed_goes : GoesTo log (record { source = old ∷ from; target = new ∷ to })
  renamed_goes = record {
    apart = renamed_apart;
    node_there = found_node (current log) (old ∷ from);
    leads = renaming.leads;
    bare = λ j at. elim free [
      | inl single ↦ renaming.bare single j at
      | inr none ↦ absurd (let f : ⊥ = (let e : None ≡ Some j = sym none ∙ at in cc) in f)
    ];
  }

-- the pair of these two paths
abbrev pair_of : Route → Route → Pair
pair_of source target = record { source = source; target = target }

-- so it is of each pair
module _ (log : CallLog) (tree : IsTree (current log)) (replies : Replies) where
  abbrev pub GoesSo : Pair → Type 0
  GoesSo pair = same_path pair.source pair.target ≡ false → MayMove (current log) pair replies → refusal_of (current log) (Rename pair.source pair.target) ≡ None → GoesTo log pair

  pub named_goes : (pair : Pair) → HasName pair.source → HasName pair.target → GoesSo pair
  named_goes pair source target =
      subst GoesSo (sym (ap (λ s. pair_of s pair.target) source.is ∙ ap (λ t. pair_of (source.name ∷ folder_of pair.source) t) target.is))
      (λ other may passes. renamed_goes log tree replies source.name (folder_of pair.source) target.name (folder_of pair.target) other may passes)
