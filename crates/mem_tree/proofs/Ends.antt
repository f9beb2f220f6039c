-- What is left where a name ends.
use Rattle.std.proofs.Common.{◌≡◌, ℕ, ◌-◌, ◌<◌, ◌≤◌, zero, suc, List, [], ◌∷◌, ◌++◌, length, take, drop, refl, sym, ◌∙◌, ap, subst, Option, Some, None, arith, true, false}
use Rattle.std.specs.Prelude.{slice_get, remove}
use Rattle.std.specs.List.{list_any}
use Rattle.tree_trait.specs.declared.file_system.NameEdit.{NameEdit}
use Rattle.tree_trait.specs.declared.file_system.FileSystem.{FileSystem}
use Rattle.tree_trait.specs.FileSystem.{is_of}
use Rattle.tree_trait.specs.Change.{Change, Moves, Removes, edit}
use Rattle.mem_tree.specs.Live.{without_name, IsOnce, IsPlaceBehind}
use Rattle.mem_tree.specs.CallSteps.{standing_after, at_edit}
use Rattle.mem_tree.proofs.Leading.{own_key, remove_out, nothing_out, once_without}

pub ended : (s : FileSystem) (at node : ℕ) (e : NameEdit) → IsOnce s.names → slice_get s.names at ≡ Some e
    → (let t : FileSystem = record s { names = remove s.names at } in t) ≡ standing_after s (at_edit (slice_get s.names at) (λ e. Removes e.folder e.name node))
ended s at node e once there = rw there (rw (remove_out e.folder e.name s.names at e once there (own_key e)) refl)

pub moved : (s : FileSystem) (at to : ℕ) (name : List ℕ) (i : ℕ) (replaced : Option ℕ) (e : NameEdit) (names : List NameEdit) → IsOnce s.names → slice_get s.names at ≡ Some e
    → (IsOnce (remove s.names at) → names ≡ edit to name (Some i) ∷ without_name to name (remove s.names at))
    → (let t : FileSystem = record s { names = names } in t) ≡ standing_after s (at_edit (slice_get s.names at) (λ e. Moves e.folder e.name to name i replaced))
moved s at to name i replaced e names once there taken =
    let out : remove s.names at ≡ without_name e.folder e.name s.names = remove_out e.folder e.name s.names at e once there (own_key e) in
    let left : IsOnce (remove s.names at) = rw out (once_without e.folder e.name s.names once) in
    let is : names ≡ edit to name (Some i) ∷ without_name to name (without_name e.folder e.name s.names) =
    taken left ∙ ap (λ (es : List NameEdit). edit to name (Some i) ∷ without_name to name es) out in
    rw there (ap (λ (es : List NameEdit). let t : FileSystem = record s { names = es } in t) is)

none_behind : (f : ℕ) (n : List ℕ) (es : List NameEdit) → list_any (is_of f n) (drop 1 es) ≡ false → es ≡ take 1 es ++ without_name f n (drop 1 es)
none_behind f n [] h = refl
none_behind f n (e ∷ es) h = ap (λ xs. e ∷ xs) (sym (nothing_out f n es h))

some_behind : (f : ℕ) (n : List ℕ) (es : List NameEdit) (k : ℕ) (e : NameEdit) → 1 ≤ k → k < length es → slice_get (drop 1 es) (k - 1) ≡ Some e → is_of f n e ≡ true
    → IsOnce (drop 1 es) → remove es k ≡ take 1 es ++ without_name f n (drop 1 es)
some_behind f n es zero e low high there is once = absurd (omega (arith, low))
some_behind f n [] (suc k) e low high there is once = absurd (omega (arith, high))
some_behind f n (x ∷ es) (suc k) e low high there is once = ap (λ xs. x ∷ xs) (remove_out f n es k e once (let same : suc k - 1 ≡ k = omega arith in subst (λ j. slice_get es j ≡ Some e) same there) is)

pub taken_behind : (f : ℕ) (n : List ℕ) (es : List NameEdit) (k : ℕ) → IsPlaceBehind f n es (Some k) → IsOnce (drop 1 es) → remove es k ≡ take 1 es ++ without_name f n (drop 1 es)
taken_behind f n es k p once = some_behind f n es k p.2.0 p.0 p.1 p.2.1 p.2.2 once

pub none_taken : (f : ℕ) (n : List ℕ) (es : List NameEdit) → IsPlaceBehind f n es None → es ≡ take 1 es ++ without_name f n (drop 1 es)
none_taken f n es h = none_behind f n es h
