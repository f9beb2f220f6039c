-- Items by their numbers, in order, and those whose names a pattern finds.
use Rattle.std.proofs.Common.{◌≡◌, ℕ, ◌+◌, ◌<◌, Bool, true, false, cond, if◌then◌else◌, List, [], ◌∷◌, ◌++◌, length, replicate, take, map, filter, get_or, Some, None, refl, sym, ap, subst, ◌∙◌, arith}
use Rattle.std.specs.Prelude.{All, ⊤, is_some, unwrap_or}
use Rattle.std.specs.Str.{bytes_eq}
use Rattle.std.specs.List.Sorted.{IsPermutation, IsSortedBy}
use Rattle.std.proofs.lemmas.Bool.{false≢true}
use Rattle.std.proofs.lemmas.Slice.Eq.{bytes_eq-Decides}
use Rattle.std.proofs.lemmas.List.{get_or-map, length-map, map-append}
use Rattle.std.proofs.lemmas.List.Elements.{All-head, All-tail, All-append, All-cons, All-nil, All-map, All-weaker}
use Rattle.std.proofs.lemmas.List.Sorted.{All-permutation, IsPermutation-map}
use Rattle.std.specs.Ordering.{is_lt}
use Rattle.tagging.proofs.KeepLemmas.{filter-take_more}
use Rattle.tree_trait.specs.Answers.{IsAscending}
use Rattle.panel_listing.specs.Orders.{is_shown, item_cmp, AreArranged}
use Rattle.panel_listing.specs.Arranging.{names_of, behind_name, name_marks, items_at, item_in, comes_before, IsNumberOf}
use Rattle.panel_listing.specs.declared.item.Item.{Item}
use Rattle.panel_listing.specs.declared.arranging.Numbered.{Numbered}
use Rattle.panel_listing.specs.declared.wish.Wish.{Wish}
use Rattle.panel_listing.proofs.StrictLemmas.{arranged-strictly}

-- ---- names

-- so many that pass are those of as many items
pub all-pass : (items : List Item) → replicate (length items) true ≡ map (λ item. true) items
all-pass [] = refl
all-pass (item ∷ items) = ap (λ more. true ∷ more) (all-pass items)

-- the first of these passes, if there is one
abbrev FirstPasses : (List ℕ → Bool) → List (List ℕ) → Type 0
FirstPasses p [] = ⊤
FirstPasses p (name ∷ names) = p name ≡ true

first_passes : (p : List ℕ → Bool) (names : List (List ℕ)) → FirstPasses p (filter p names)
first_passes p [] = tt
first_passes p (name ∷ names) = go (p name) refl (first_passes p names)
  where
    go : (passes : Bool) → p name ≡ passes → FirstPasses p (filter p names) → FirstPasses p (cond passes (name ∷ filter p names) (filter p names))
    go true is later = is
    go false is later = later

same_name : (name : List ℕ) → bytes_eq name name ≡ true
same_name name = (bytes_eq-Decides name name).1 refl

-- a name that doesn't pass isn't the first of names that do
not_first : (p : List ℕ → Bool) (name : List ℕ) (some : List (List ℕ)) → p name ≡ false → FirstPasses p some → behind_name name some ≡ None
not_first p name [] fails passes = refl
not_first p name (first ∷ more) fails passes = go (bytes_eq first name) refl
  where
    go : (same : Bool) → bytes_eq first name ≡ same → cond same (Some more) None ≡ None
    go false is = refl
    go true is = absurd (false≢true (sym fails ∙ ap p (sym ((bytes_eq-Decides first name).0 is)) ∙ passes))

-- of names, those stand next that pass
pub marked-passing : (p : List ℕ → Bool) (names : List (List ℕ)) → name_marks names (filter p names) ≡ map p names
marked-passing p [] = refl
marked-passing p (name ∷ names) = go (filter p names) (p name) refl (first_passes p names) (marked-passing p names)
  where
    go : (later : List (List ℕ)) (passes : Bool) → p name ≡ passes → FirstPasses p later → name_marks names later ≡ map p names
        → name_marks (name ∷ names) (cond passes (name ∷ later) later) ≡ passes ∷ map p names
    go later true is first rest =
        ap (λ same. is_some (cond same (Some later) None) ∷ name_marks names (unwrap_or (cond same (Some later) None) (name ∷ later))) (same_name name)
        ∙ ap (λ more. true ∷ more) rest
    go later false is first rest =
        ap (λ behind. is_some behind ∷ name_marks names (unwrap_or behind later)) (not_first p name later is first)
        ∙ ap (λ more. false ∷ more) rest

tested-names : (p : List ℕ → Bool) (items : List Item) → map p (names_of items) ≡ map (λ item. p item.name) items
tested-names p [] = refl
tested-names p (item ∷ items) = ap (λ more. p item.name ∷ more) (tested-names p items)

-- the marks of items whose names a pattern finds
pub marked-items : (p : List ℕ → Bool) (items : List Item) (found : List (List ℕ)) → found ≡ filter p (names_of items)
    → name_marks (names_of items) found ≡ map (λ item. p item.name) items
marked-items p items found is =
    ap (name_marks (names_of items)) is ∙ marked-passing p (names_of items) ∙ tested-names p items

-- ---- numbers

-- one item more is shown, or not
pub shown-more : (p : Item → Bool) (items : List Item) (number : ℕ) (rows : List Numbered) (row : Numbered) (shows : Bool)
    → number < length items → row.item.now ≡ get_or items number row.item.now → shows ≡ p row.item.now
    → map item_in rows ≡ filter p (take number items)
    → map item_in (rows ++ (if shows then row ∷ [] else [])) ≡ filter p (take (number + 1) items)
shown-more p items number rows row shows below is tests before =
    map-append item_in rows (if shows then row ∷ [] else [])
    ∙ ap (λ prefix. prefix ++ map item_in (if shows then row ∷ [] else [])) before
    ∙ ap (λ more. filter p (take number items) ++ more) (one shows)
    ∙ ap (λ test. filter p (take number items) ++ (if test then row.item.now ∷ [] else [])) tests
    ∙ sym (filter-take_more p items number row.item.now below is)
  where
    one : (test : Bool) → map item_in (if test then row ∷ [] else []) ≡ (if test then row.item.now ∷ [] else [])
    one true = refl
    one false = refl

pub numbered-more : (items : List Item) (rows : List Numbered) (row : Numbered) (shows : Bool) → All (IsNumberOf items) rows
    → IsNumberOf items row → All (IsNumberOf items) (rows ++ (if shows then row ∷ [] else []))
numbered-more items rows row true all one = All-append (IsNumberOf items) rows (row ∷ []) all (All-cons (IsNumberOf items) row [] one (All-nil (IsNumberOf items)))
numbered-more items rows row false all one = All-append (IsNumberOf items) rows [] all (All-nil (IsNumberOf items))

-- the items under the numbers of rows are those of the rows
pub items-numbered : (items : List Item) (rows : List Numbered) → All (IsNumberOf items) rows → items_at items (map (λ row. row.number) rows) ≡ map item_in rows
items-numbered items [] all = refl
items-numbered items (row ∷ rows) all =
    ap (λ item. item ∷ items_at items (map (λ row. row.number) rows)) (All-head (IsNumberOf items) row rows all).there
    ∙ ap (λ more. row.item.now ∷ more) (items-numbered items rows (All-tail (IsNumberOf items) row rows all))

-- what is sorted by what is shown of it is shown in order
pub sorted-mapped : {A B : Type 0} (f : A → B) (lt : B → B → Bool) (xs : List A) → IsSortedBy (λ a b. lt (f a) (f b)) xs → IsSortedBy lt (map f xs)
sorted-mapped f lt [] sorted k d low high = absurd (omega arith)
sorted-mapped f lt (x ∷ xs) sorted k d low high =
    let long : length (map f (x ∷ xs)) ≡ length (x ∷ xs) = length-map (x ∷ xs) f in
    let below : k + 1 < length (x ∷ xs) = omega (arith, high, long) in
    let here : k < length (x ∷ xs) = omega (arith, below) in
    ap (λ later. lt later (get_or (map f (x ∷ xs)) k d)) (get_or-map f (x ∷ xs) (k + 1) x d below)
    ∙ ap (λ before. lt (f (get_or (x ∷ xs) (k + 1) x)) before) (get_or-map f (x ∷ xs) k x d here)
    ∙ sorted k x low below

-- the numbers of shown items that were sorted
module _ (wish : Wish) (items : List Item) (rows sorted : List Numbered) (numbered : All (IsNumberOf items) rows) (moved : IsPermutation rows sorted) where
  still : All (IsNumberOf items) sorted
  still = All-permutation (IsNumberOf items) rows sorted moved numbered

  pub numbers-within : All (λ number. number < length items) (map (λ row. row.number) sorted)
  numbers-within =
      All-map (λ number. number < length items) (λ (row : Numbered). row.number) sorted
      (All-weaker (IsNumberOf items) (λ row. row.number < length items) (λ row h. h.within) sorted still)

  pub numbers-arranged : IsAscending (names_of items) → map item_in rows ≡ filter (is_shown wish) items
      → IsSortedBy (comes_before wish) sorted
      → AreArranged wish items (items_at items (map (λ row. row.number) sorted))
  numbers-arranged ascending shown order =
      subst (AreArranged wish items) (sym (items-numbered items sorted still))
      (arranged-strictly wish items (map item_in sorted) ascending
      (subst (λ (kept : List Item). IsPermutation kept (map item_in sorted)) shown (IsPermutation-map item_in rows sorted moved))
      (sorted-mapped item_in (λ a b. is_lt (item_cmp wish a b)) sorted order))
