-- A child whose path isn't too long is looked at there.
use Rattle.std.proofs.Common.{◌≡◌, ℕ, ◌≤◌, List, ◌∷◌, None, cond, length, sym, ap, ◌∙◌}
use borrow.Author.Tests.{le-ltb}
use Rattle.mc_text.specs.Routes.{Route, spelled_route}
use Rattle.tree_trait.specs.declared.file_system.FileSystem.{FileSystem}
use Rattle.panel_listing.specs.Items.{seen_at, child_seen}

pub child_fits : (s : FileSystem) (folder : Route) (name : List ℕ) (path : Route) → path ≡ name ∷ folder → length (spelled_route (name ∷ folder)) ≤ 4096
    → seen_at s path ≡ child_seen s folder name
child_fits s folder name path is fits =
    ap (seen_at s) is ∙ sym (ap (λ long. cond long None (seen_at s (name ∷ folder))) (le-ltb 4096 (length (spelled_route (name ∷ folder))) fits))
