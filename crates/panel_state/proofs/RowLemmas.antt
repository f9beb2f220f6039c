-- The first row that passes, and the items of rows.
use Rattle.std.proofs.Common.{◌≡◌, ℕ, ◌+◌, ◌<◌, ◌≤◌, Bool, true, false, cond, if◌then◌else◌, List, [], ◌∷◌, ◌++◌, length, take, get_or, map, filter, Option, Some, None, refl, sym, ap, ◌∙◌, append_assoc, arith}
use Rattle.std.specs.List.{position, position_or_len}
use Rattle.std.proofs.lemmas.List.{take_more, take_all}
use Rattle.std.proofs.lemmas.List.Sums.{position_or_len_is}
use Rattle.std.proofs.lemmas.Grind.{common_steps}
use Rattle.panel_listing.specs.declared.item.Item.{Item}
use Rattle.panel_listing.specs.Listings.{Listed, rows_in}
use Rattle.panel_state.specs.Wanted.{more_wanted}

-- a place that passes, where none before it does, is the first
pub position-here : {X : Type 0} (p : X → Bool) (xs : List X) (i : ℕ) (d : X) → i < length xs → ((k : ℕ) → k < i → p (get_or xs k d) ≡ false)
    → p (get_or xs i d) ≡ true → position p xs ≡ Some i
position-here p xs i d below before here =
    let at : position_or_len p xs ≡ i = position_or_len_is p xs i d (omega (arith, below)) before (λ _. here) in
    grind (arith, common_steps, at, below)

pub position-nowhere : {X : Type 0} (p : X → Bool) (xs : List X) (d : X) → ((k : ℕ) → k < length xs → p (get_or xs k d) ≡ false)
    → position p xs ≡ None
position-nowhere p xs d before =
    let at : position_or_len p xs ≡ length xs = position_or_len_is p xs (length xs) d (omega arith) before (λ h. absurd (omega (arith, h))) in
    grind (arith, common_steps, at)

-- the items of rows that are wanted
abbrev pub items_wanted : (Item → Bool) → List (Option Item) → List Item
items_wanted wants [] = []
items_wanted wants (row ∷ rows) = more_wanted wants row ++ items_wanted wants rows

items_wanted-append : (wants : Item → Bool) (xs ys : List (Option Item)) → items_wanted wants (xs ++ ys) ≡ items_wanted wants xs ++ items_wanted wants ys
items_wanted-append wants [] ys = refl
items_wanted-append wants (x ∷ xs) ys =
    ap (λ more. more_wanted wants x ++ more) (items_wanted-append wants xs ys)
    ∙ sym (append_assoc (more_wanted wants x) (items_wanted wants xs) (items_wanted wants ys))

append-nil : {A : Type 0} (xs : List A) → xs ++ [] ≡ xs
append-nil [] = refl
append-nil (x ∷ xs) = ap (λ more. x ∷ more) (append-nil xs)

-- one row more
pub items_wanted-more : (wants : Item → Bool) (rows : List (Option Item)) (k : ℕ) → k < length rows
    → items_wanted wants (take k rows) ++ more_wanted wants (get_or rows k None) ≡ items_wanted wants (take (k + 1) rows)
items_wanted-more wants rows k below =
    ap (λ more. items_wanted wants (take k rows) ++ more) (sym (append-nil (more_wanted wants (get_or rows k None))))
    ∙ sym (items_wanted-append wants (take k rows) (get_or rows k None ∷ []))
    ∙ ap (items_wanted wants) (sym (take_more rows k None below))

items_wanted-items : (wants : Item → Bool) (items : List Item) → items_wanted wants (map Some items) ≡ filter wants items
items_wanted-items wants [] = refl
items_wanted-items wants (item ∷ items) = ap (λ more. more_wanted wants (Some item) ++ more) (items_wanted-items wants items) ∙ go (wants item)
  where
    go : (keeps : Bool) → (if keeps then item ∷ [] else []) ++ filter wants items ≡ cond keeps (item ∷ filter wants items) (filter wants items)
    go true = refl
    go false = refl

-- those of all rows are those of the shown items
pub items_wanted-all : (wants : Item → Bool) (listing : Listed) → items_wanted wants (rows_in listing) ≡ filter wants listing.shown
items_wanted-all wants listing = go listing.has_parent ∙ items_wanted-items wants listing.shown
  where
    go : (above : Bool) → items_wanted wants ((if above then None ∷ [] else []) ++ map Some listing.shown) ≡ items_wanted wants (map Some listing.shown)
    go true = refl
    go false = refl

pub items_wanted-whole : (wants : Item → Bool) (listing : Listed) (n : ℕ) → length (rows_in listing) ≤ n
    → items_wanted wants (take n (rows_in listing)) ≡ filter wants listing.shown
items_wanted-whole wants listing n past = ap (items_wanted wants) (take_all n (rows_in listing) past) ∙ items_wanted-all wants listing
