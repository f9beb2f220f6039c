-- the item that the loop has come to is one of the files
use Rattle.std.proofs.Common.{◌≡◌, ℕ, ◌<◌, List, length, get_or, sym, ◌∙◌, subst}
use Rattle.std.specs.List.{Contains}
use Rattle.host_tree.proofs.kept.Kept.at.Goals as goal

Contains-read : {X : Type 0} (xs ys : List X) (k : ℕ) (x : X) → xs ≡ ys → k < length xs → x ≡ get_or xs k x → Contains ys x
Contains-read {X} xs ys k x e within is = let P : List X → Type 0 = λ zs. Contains zs x in subst P e (k, within, sym is)

pub returns-then-same : goal.returns-then-same
returns-then-same g c = (
  Contains-read _ _ c.loop-kept.kept-index _ c.deref-kept-items.ensures.value c.loop-kept-test.true c.kept-item.is,
  sym c.same.ensures ∙ c.if-same.true,
)
