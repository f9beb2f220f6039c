-- the item that the loop has come to is one of the folders
use Rattle.std.proofs.Common.{◌≡◌, ℕ, ◌<◌, List, length, get_or, sym, ◌∙◌, subst, refl}
use Rattle.std.specs.List.{Contains}
use Rattle.host_tree.proofs.seen.Seen.at.Goals as goal

Contains-read : {X : Type 0} (xs ys : List X) (k : ℕ) (x : X) → xs ≡ ys → k < length xs → x ≡ get_or xs k x → Contains ys x
Contains-read {X} xs ys k x e within is = let P : List X → Type 0 = λ zs. Contains zs x in subst P e (k, within, sym is)

pub returns-then-is_at : goal.returns-then-is_at
returns-then-is_at c = (
  _,
  Contains-read _ _ c.loop-seen.seen-index _ c.deref-seen-items.ensures.value c.loop-seen-test.true c.seen-item.is,
  sym c.is_at.ensures ∙ c.if-is_at.true,
  refl,
)
