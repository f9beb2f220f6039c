-- The rows of a window, the item of a row, and the letters of a mode.
use Rattle.std.proofs.Common.{◌≡◌, ℕ, zero, suc, ◌+◌, ◌<◌, ◌≤◌, Bool, true, false, List, [], ◌∷◌, ◌++◌, length, map, take, drop, get_or, Option, Some, None, if◌then◌else◌, refl, sym, ap, ◌∙◌, arith}
use Rattle.std.specs.Prelude.{slice_index, ⊤}
use Rattle.std.specs.Str.{IsUtf8}
use Rattle.std.proofs.lemmas.Str.{IsUtf8-from_ascii}
use Rattle.std.proofs.lemmas.List.{take_more, map-append, get_or-drop, get_or-map, length-map}
use Rattle.mc_text.specs.declared.kind.Kind.{Kind}
use Rattle.mc_text.specs.declared.kind.Kind.TheVariants.{File, Folder, Link, Other}
use Rattle.panel_listing.specs.Items.{unseen_item}
use Rattle.panel_listing.specs.Arranging.{items_at}
use Rattle.panel_listing.specs.Listings.{place_of}
use Rattle.panel_listing.specs.declared.item.Item.{Item}
use Rattle.mc_text.specs.Permissions.{has, letter, last_letter, kind_letter, perm_text}

-- ---- a window

-- one row more
pub rows-more : {A B : Type 0} (f : A → B) (xs : List A) (first k : ℕ) (d : A) (out : List B) → k < length (drop first xs)
    → out ≡ map f (take k (drop first xs)) → out ++ f (get_or xs (first + k) d) ∷ [] ≡ map f (take (k + 1) (drop first xs))
rows-more f xs first k d out below is =
    ap (λ prefix. prefix ++ f (get_or xs (first + k) d) ∷ []) is
    ∙ ap (λ x. map f (take k (drop first xs)) ++ f x ∷ []) (sym (get_or-drop first xs k d))
    ∙ sym (map-append f (take k (drop first xs)) (get_or (drop first xs) k d ∷ []))
    ∙ ap (map f) (sym (take_more (drop first xs) k d below))

-- what a place past the end has
past : {A : Type 0} (xs : List A) (place : ℕ) (d : A) → length xs ≤ place → get_or xs place d ≡ d
past [] place d h = refl
past (x ∷ xs) zero d h = absurd (omega arith)
past (x ∷ xs) (suc place) d h = past xs place d (omega arith)

row-place : (has_parent : Bool) (row place : ℕ) (xs : List (Option Item)) → place_of has_parent row ≡ Some place
    → get_or ((if has_parent then None ∷ [] else []) ++ xs) row None ≡ get_or xs place None
row-place false row place xs h = let same : row ≡ place = cc in ap (λ n. get_or xs n None) same
row-place true zero place xs h = absurd (cc)
row-place true (suc row) place xs h = let same : row ≡ place = cc in ap (λ n. get_or xs n None) same

-- the row of a listing: that of `..`, one past the last, and one of an item
module _ (has_parent : Bool) (items : List Item) (numbers : List ℕ) where
  abbrev pub rows : List (Option Item)
  rows = (if has_parent then None ∷ [] else []) ++ map Some (items_at items numbers)

  pub row-none : (row : ℕ) → place_of has_parent row ≡ None → get_or rows row None ≡ None
  row-none row h = go has_parent row h
    where
      go : (above : Bool) (row : ℕ) → place_of above row ≡ None → get_or ((if above then None ∷ [] else []) ++ map Some (items_at items numbers)) row None ≡ None
      go false row h = absurd (cc)
      go true zero h = refl
      go true (suc row) h = absurd (cc)

  long : length (items_at items numbers) ≡ length numbers
  long = length-map numbers (λ number. get_or items number (unseen_item []))

  pub row-past : (row place : ℕ) → place_of has_parent row ≡ Some place → length numbers ≤ place → get_or rows row None ≡ None
  row-past row place h over =
      row-place has_parent row place (map Some (items_at items numbers)) h ∙ past (map Some (items_at items numbers)) place None (omega (arith, over, long, length-map {A = Item} {B = Option Item} (items_at items numbers) Some))

  pub row-there : (row place : ℕ) (d : ℕ) → place_of has_parent row ≡ Some place → place < length numbers
      → get_or rows row None ≡ Some (get_or items (get_or numbers place d) (unseen_item []))
  row-there row place d h below =
      let short : place < length (items_at items numbers) = omega (arith, below, long) in
      row-place has_parent row place (map Some (items_at items numbers)) h
      ∙ get_or-map Some (items_at items numbers) place (unseen_item []) None short
      ∙ ap Some (get_or-map (λ number. get_or items number (unseen_item [])) numbers place d (unseen_item []) below)

-- ---- letters

-- each byte is below 128
abbrev AreAscii : List ℕ → Type 0
AreAscii [] = ⊤
AreAscii (byte ∷ bytes) = (byte < 128) × AreAscii bytes

ascii_at : (bytes : List ℕ) → AreAscii bytes → (i : ℕ) → slice_index bytes i < 128
ascii_at [] all i = omega arith
ascii_at (byte ∷ bytes) all zero = all.0
ascii_at (byte ∷ bytes) all (suc i) = ascii_at bytes all.1 i

choice-ascii : (test : Bool) (x y : ℕ) → x < 128 → y < 128 → (if test then x else y) < 128
choice-ascii true x y left right = left
choice-ascii false x y left right = right

letter-ascii : (mode bit shown : ℕ) → shown < 128 → letter mode bit shown < 128
letter-ascii mode bit shown small = choice-ascii (has mode bit) shown 45 small (omega arith)

last-ascii : (mode bit special small large : ℕ) → small < 128 → large < 128 → last_letter mode bit special small large < 128
last-ascii mode bit special small large left right =
    choice-ascii (has mode special) (if has mode bit then small else large) (letter mode bit 120)
    (choice-ascii (has mode bit) small large left right) (letter-ascii mode bit 120 (omega arith))

kind-ascii : (kind : Kind) → kind_letter kind < 128
kind-ascii File = omega arith
kind-ascii Folder = omega arith
kind-ascii Link = omega arith
kind-ascii Other = omega arith

pub letters-utf8 : (kind : Kind) (mode : ℕ) → IsUtf8 (perm_text kind mode)
letters-utf8 kind mode = IsUtf8-from_ascii (perm_text kind mode) (ascii_at (perm_text kind mode) (
  kind-ascii kind,
  (
    letter-ascii mode 0o400 114 (omega arith),
    (
      letter-ascii mode 0o200 119 (omega arith),
      (
        last-ascii mode 0o100 0o4000 115 83 (omega arith) (omega arith),
        (
          letter-ascii mode 0o040 114 (omega arith),
          (
            letter-ascii mode 0o020 119 (omega arith),
            (
              last-ascii mode 0o010 0o2000 115 83 (omega arith) (omega arith),
              (letter-ascii mode 0o004 114 (omega arith), (letter-ascii mode 0o002 119 (omega arith), (last-ascii mode 0o001 0o1000 116 84 (omega arith) (omega arith), tt))),
            ),
          ),
        ),
      ),
    ),
  ),
))
