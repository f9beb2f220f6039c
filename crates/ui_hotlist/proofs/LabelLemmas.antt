-- The labels of a list are those of its items in their order.
use Rattle.std.proofs.Common.{◌≡◌, ℕ, List, [], ◌∷◌, length, map, take, drop, refl, ap, ◌∙◌, sym, ⊎_elim}
use Rattle.std.proofs.lemmas.List.{length-map, take-map, drop-map}
use Rattle.hotlist.specs.declared.items.HotItem.{HotItem}
use Rattle.hotlist.specs.HotLists.{HotList, NoMore, AnEntry, AGroup, before, list_of}
use Rattle.hotlist.proofs.ListLemmas.{item_is}
use Rattle.ui_hotlist.specs.HotlistRows.{labels}

abbrev first_label : List (List ℕ) → List ℕ
first_label [] = []
first_label (label ∷ more) = label

-- the label of one item
abbrev pub label_in : HotItem → List ℕ
label_in item = first_label (labels (before item NoMore))

labels-before : (item : HotItem) (others : HotList) → labels (before item others) ≡ label_in item ∷ labels others
labels-before item others =
    ⊎_elim
    (λ (entry : (label : List ℕ) × (path : List ℕ) × ((others : HotList) → before item others ≡ AnEntry label path others)).
    ap labels (entry.2 others) ∙ ap (λ list. first_label (labels list) ∷ labels others) (sym (entry.2 NoMore)))
    (λ (group : (label : List ℕ) × (items : HotList) × ((others : HotList) → before item others ≡ AGroup label items others)).
    ap labels (group.2 others) ∙ ap (λ list. first_label (labels list) ∷ labels others) (sym (group.2 NoMore)))
    (item_is item)

pub labels-map : (items : List HotItem) → labels (list_of items) ≡ map label_in items
labels-map [] = refl
labels-map (item ∷ items) = labels-before item (list_of items) ∙ ap (λ more. label_in item ∷ more) (labels-map items)

pub labels-count : (items : List HotItem) → length (labels (list_of items)) ≡ length items
labels-count items = ap length (labels-map items) ∙ length-map items label_in

-- the labels of a page are a page of the labels
pub labels-page : (page first : ℕ) (items : List HotItem)
    → labels (list_of (take page (drop first items))) ≡ take page (drop first (labels (list_of items)))
labels-page page first items =
    labels-map (take page (drop first items))
    ∙ sym (take-map label_in page (drop first items))
    ∙ ap (take page) (sym (drop-map label_in first items))
    ∙ ap (λ rows. take page (drop first rows)) (sym (labels-map items))
