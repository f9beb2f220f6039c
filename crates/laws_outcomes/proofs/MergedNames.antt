-- What is listed of a folder that is merged is all that stands in it, as the history shows that.
use Rattle.std.proofs.Common.{◌≡◌, ℕ, List, ◌∷◌, refl, sym, ◌∙◌, ap, Option, Some, None}
use Rattle.std.specs.Prelude.{is_some, option_and_then}
use Rattle.std.specs.Option.{option_map}
use Rattle.mc_text.specs.Routes.{Route}
use Rattle.tree_trait.specs.Calls.{Stat}
use Rattle.tree_trait.specs.Change.{CallLog, current, found_node}
use Rattle.tree_trait.specs.FileSystem.{Value, View, find, lookup, node, value}
use Rattle.tree_trait.specs.Answers.{IsAscending}
use Rattle.tree_trait.specs.Refusals.{refusal_of}
use Rattle.tree_trait.proofs.Walking.{stat-found}
use Rattle.job_reports.specs.declared.job.Pair.{Pair}
use Rattle.copy_tree.specs.Taking.{Lists}
use Rattle.laws_sessions.proofs.OwedModes.{ShowsTree}
use Rattle.laws_outcomes.specs.Answered.{IsMergedWhole}

map_some : (of : ℕ → Value) (o : Option ℕ) → is_some (option_map of o) ≡ is_some o
map_some of None = refl
map_some of (Some i) = refl

module _ (v : View) (log : CallLog) (shows : ShowsTree v log) where
  -- what stands where a path leads is shown
  pub shown_at : (path : Route) (i : ℕ) → find (current log) path ≡ Some i → (v path).value ≡ Some (value (node (current log) i))
  shown_at path i at = sym (shows path) ∙ ap (option_map (λ k. value (node (current log) k))) at

  -- something is shown under a name of a folder where the name leads somewhere
  pub shown_below : (path : Route) (i : ℕ) → find (current log) path ≡ Some i → (name : List ℕ) → is_some (v (name ∷ path)).value ≡ is_some (lookup (current log).names i name)
  shown_below path i at name =
      ap is_some (sym (shows (name ∷ path)))
      ∙ (map_some (λ k. value (node (current log) k)) (find (current log) (name ∷ path))
      ∙ ap (λ o. is_some (option_and_then (λ f. lookup (current log).names f name) o)) at)

  pub merged_whole : (pair : Pair) (names : List (List ℕ)) → refusal_of (current log) (Stat pair.source) ≡ None → Lists (current log) pair.source names → IsAscending names → IsMergedWhole v pair names
  merged_whole pair names there (may, lists) in_order =
      let at = stat-found (current log) pair.source there in
      record {
        in_order = in_order;
        all = λ name.
            let same = shown_below pair.source (found_node (current log) pair.source) at name in
            let both = lists.names name in
            (λ among. same ∙ both.0 among, λ stands. both.1 (sym same ∙ stands));
        named = ap (option_map (λ (x : Value). x.unnamed)) (shown_at pair.source (found_node (current log) pair.source) at) ∙ ap Some (sym lists.unnamed);
      }
