-- The tree where a job was begun doesn't hang on later calls.
use Rattle.std.proofs.Common.{◌≡◌, ℕ, List, [], ◌∷◌, refl, ◌∙◌, ap}
use Rattle.tree_trait.specs.Change.{Change, CallLog}
use Rattle.session_entries.specs.declared.history.Entry.{Entry}
use Rattle.laws_sessions.specs.Replayed.{replayed_tree}
use Rattle.laws_sessions.proofs.Prefixes.{AreWithin, replayed_more}
use Rattle.laws_sessions.proofs.Stepped.{more}
use Rattle.laws_outcomes.specs.Begun.{begun_after, tree_begun}

pub begun_more : (opening now : CallLog) (cs : List Change) (id : ℕ) (g : List Entry) → AreWithin opening g now → tree_begun opening (more now cs) id g ≡ tree_begun opening now id g
begun_more opening now cs id [] w = refl
begun_more opening now cs id (e ∷ older) (few, w) =
    ap (λ v. begun_after id e.what v (tree_begun opening (more now cs) id older)) (replayed_more opening now cs older w)
    ∙ ap (begun_after id e.what (replayed_tree opening now older)) (begun_more opening now cs id older w)
