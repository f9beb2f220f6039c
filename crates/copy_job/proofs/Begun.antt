-- A copy that begins is in its place.
use Rattle.std.proofs.Common.{◌≡◌, ℕ, refl, sym, ◌∙◌, ap, subst, List, [], ◌∷◌, drop, true, Some}
use Rattle.std.specs.Prelude.{is_some}
use Rattle.mc_text.specs.Routes.{Route, parent_of}
use Rattle.job_reports.specs.declared.job.Pair.{Pair}
use Rattle.job_reports.specs.Paths.{folder_of}
use Rattle.copy_tree.specs.declared.copy.Named.{Named}
use Rattle.copy_tree.specs.Beginning.{top_of}
use Rattle.copy_tree.specs.InPlace.{IsInPlace}
use Rattle.copy_tree.specs.Standing.{Seen, begun_tree_copy}
use Rattle.copy_tree.specs.TreeCopySteps.{IsWorkable}
use Rattle.copy_tree.proofs.Beginnings.{beginning_law}
use Rattle.copy_job.specs.Standing.{IsHeld, SubtreeCopying, named_of, begun_subtree_copy}

abbrev named : Route → List ℕ → Named
named folder name = record { folder = folder; name = name }

pub named_so : (path folder : Route) (name : List ℕ) → Some folder ≡ parent_of path → path ≡ name ∷ drop 1 path → named folder name ≡ named_of path
named_so [] folder name held is = absurd (let f : ⊥ = cc in f)
named_so (last ∷ rest) folder name held is =
    let same : folder ≡ rest = cc in
    let last_same : name ≡ last = (let e : last ∷ rest ≡ name ∷ rest = is in cc) in
    ap (λ f. named f name) same ∙ ap (λ n. named rest n) last_same

joined_again : (path : Route) → is_some (parent_of path) ≡ true → (let n = named_of path in n.name ∷ n.folder) ≡ path
joined_again [] held = absurd (let f : ⊥ = cc in f)
joined_again (last ∷ rest) held = refl

pub begins_held : (job : ℕ) (top : Pair) → is_some (parent_of top.source) ≡ true → is_some (parent_of top.target) ≡ true → IsHeld top (folder_of top.target) (begun_tree_copy job (named_of top.source) (named_of top.target))
begins_held job top source target =
    let law = beginning_law job (named_of top.source) (named_of top.target) in
    let same : top_of (named_of top.source) (named_of top.target) ≡ top =
    ap (λ s. (let p : Pair = record { source = s; target = (let n = named_of top.target in n.name ∷ n.folder) } in p)) (joined_again top.source source)
    ∙ ap (λ t. (let p : Pair = record { source = top.source; target = t } in p)) (joined_again top.target target) in
    record { holds = refl; in_place = subst (λ (t : Pair). IsInPlace t (begun_tree_copy job (named_of top.source) (named_of top.target))) same law.0; in_worked = tt; windable = tt }

-- the same of what was copied and joined
begun_same : (job : ℕ) (top : Pair) (source target : Named) (c : Seen) → source ≡ named_of top.source → target ≡ named_of top.target → c ≡ begun_tree_copy job source target → c ≡ begun_tree_copy job (named_of top.source) (named_of top.target)
begun_same job top source target c s t is = is ∙ (ap (λ n. begun_tree_copy job n target) s ∙ ap (λ n. begun_tree_copy job (named_of top.source) n) t)

folder_held : (path : Route) → is_some (parent_of path) ≡ true → (let n = named_of path in n.folder) ≡ folder_of path
folder_held [] held = refl
folder_held (last ∷ rest) held = refl

pub begun_held : (job : ℕ) (top : Pair) (source target : Named) (folder : Route) (c : Seen) → is_some (parent_of top.source) ≡ true → is_some (parent_of top.target) ≡ true → source ≡ named_of top.source → target ≡ named_of top.target
    → folder ≡ target.folder → c ≡ begun_tree_copy job source target → IsHeld top folder c
begun_held job top source target folder c from to s t f is =
    let held = begins_held job top from to in
    let same = begun_same job top source target c s t is in
    let there : folder ≡ folder_of top.target = f ∙ (ap (λ (n : Named). n.folder) t ∙ folder_held top.target to) in
    subst (λ (x : Seen). IsHeld top folder x) (sym same) (subst (λ (x : Route). IsHeld top x (begun_tree_copy job (named_of top.source) (named_of top.target))) (sym there) held)

pub begun_so : (job : ℕ) (top : Pair) (source target : Named) (c : Seen) → source ≡ named_of top.source → target ≡ named_of top.target → c ≡ begun_tree_copy job source target
    → (let d : SubtreeCopying = record { top = top; at = c } in d) ≡ begun_subtree_copy job top
begun_so job top source target c s t is = ap (λ (x : Seen). (let d : SubtreeCopying = record { top = top; at = x } in d)) (begun_same job top source target c s t is)

pub begun_going : (job : ℕ) (source target : Named) (c : Seen) → c ≡ begun_tree_copy job source target → IsWorkable c.item
begun_going job source target c is = subst (λ (x : Seen). IsWorkable x.item) (sym is) tt
