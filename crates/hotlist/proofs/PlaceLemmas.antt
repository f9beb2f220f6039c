-- Items by their positions.
use Rattle.std.proofs.Common.{◌≡◌, ℕ, zero, suc, ◌<◌, ◌+◌, List, [], ◌∷◌, ◌++◌, length, drop, Option, Some, None, refl, ap, ◌∙◌, sym, ⊎_elim, arith, MatchOption}
use denote.Ref.{Bor}
use Rattle.hotlist.specs.declared.items.HotItem.{HotItem}
use Rattle.hotlist.specs.HotLists.{HotList, NoMore, AnEntry, AGroup, before, list_of}
use Rattle.hotlist.specs.Places.{from_position, first_of, inside, items_of_group, item_at}
use Rattle.hotlist.proofs.ListLemmas.{item_is}

-- behind its first item a list goes on with the others
from_position-before : (position : ℕ) (item : HotItem) (others : HotList) → from_position (suc position) (before item others) ≡ from_position position others
from_position-before position item others =
    ⊎_elim
    (λ (entry : (label : List ℕ) × (path : List ℕ) × ((others : HotList) → before item others ≡ AnEntry label path others)).
    ap (from_position (suc position)) (entry.2 others))
    (λ (group : (label : List ℕ) × (items : HotList) × ((others : HotList) → before item others ≡ AGroup label items others)).
    ap (from_position (suc position)) (group.2 others))
    (item_is item)

pub from_position-drop : (position : ℕ) (items : List HotItem) → from_position position (list_of items) ≡ list_of (drop position items)
from_position-drop zero items = refl
from_position-drop (suc position) [] = refl
from_position-drop (suc position) (item ∷ items) = from_position-before position item (list_of items) ∙ from_position-drop position items

first_of-before : (item : HotItem) (others : HotList) → first_of (before item others) ≡ Some (before item NoMore)
first_of-before item others =
    ⊎_elim
    (λ (entry : (label : List ℕ) × (path : List ℕ) × ((others : HotList) → before item others ≡ AnEntry label path others)).
    ap first_of (entry.2 others) ∙ ap Some (sym (entry.2 NoMore)))
    (λ (group : (label : List ℕ) × (items : HotList) × ((others : HotList) → before item others ≡ AGroup label items others)).
    ap first_of (group.2 others) ∙ ap Some (sym (group.2 NoMore)))
    (item_is item)

nothing_from : (position : ℕ) → from_position position NoMore ≡ NoMore
nothing_from zero = refl
nothing_from (suc position) = refl

nothing_at : (place : List ℕ) → item_at place NoMore ≡ None
nothing_at [] = refl
nothing_at (position ∷ []) = ap first_of (nothing_from position)
nothing_at (position ∷ next ∷ place) = ap (λ list. item_at (next ∷ place) (inside list)) (nothing_from position) ∙ nothing_at (next ∷ place)

-- what stands at a place, by its first position
pub item_at-none : (position : ℕ) (below : List ℕ) (list : HotList) → from_position position list ≡ NoMore → item_at (position ∷ below) list ≡ None
item_at-none position [] list is = ap first_of is
item_at-none position (next ∷ below) list is = ap (λ l. item_at (next ∷ below) (inside l)) is ∙ nothing_at (next ∷ below)

pub item_at-here : (position : ℕ) (list : HotList) (item : HotItem) (others : HotList) → from_position position list ≡ before item others
    → item_at (position ∷ []) list ≡ Some (before item NoMore)
item_at-here position list item others is = ap first_of is ∙ first_of-before item others

pub item_at-below : (position : ℕ) (below : List ℕ) (list inner : HotList) → 0 < length below → inside (from_position position list) ≡ inner
    → item_at (position ∷ below) list ≡ item_at below inner
item_at-below position [] list inner some is = absurd (omega arith)
item_at-below position (next ∷ below) list inner some is = ap (item_at (next ∷ below)) is

-- no group stands in an empty list, nor behind the last item of one
nothing_in : (place : List ℕ) → items_of_group place NoMore ≡ NoMore
nothing_in [] = refl
nothing_in (position ∷ place) = ap (λ list. items_of_group place (inside list)) (nothing_from position) ∙ nothing_in place

pub items_of_group-none : (position : ℕ) (below : List ℕ) (list : HotList) → from_position position list ≡ NoMore
    → items_of_group (position ∷ below) list ≡ NoMore
items_of_group-none position below list is = ap (λ l. items_of_group below (inside l)) is ∙ nothing_in below
