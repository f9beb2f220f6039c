-- Tags that are made of names.
use Rattle.std.proofs.Common.{◌≡◌, ℕ, ◌+◌, ◌<◌, Bool, true, false, not, ◌&&◌, ◌||◌, if◌then◌else◌, List, [], ◌∷◌, ◌++◌, length, take, get_or, map, filter, refl, sym, ap, ◌∙◌}
use Rattle.std.specs.Ordering.{nat_cmp}
use Rattle.std.specs.Cmp.Lexicographic.{slice_cmp, nat_list_cmp_total}
use Rattle.std.specs.FinSet.{contains, union, difference, empty, items, contains-empty, contains-union, contains-difference, contains-from_list, contains-items}
use Rattle.std.proofs.lemmas.List.{take_more, map-append}
use Rattle.std.proofs.lemmas.List.Elements.{filter-append}
use Rattle.tagging.specs.TagSets.{TagSet, names_in, inverted_tags}
use Rattle.tagging.proofs.SetLemmas.{same_tags}
use Rattle.panel_listing.specs.declared.item.Item.{Item}
use Rattle.panel_state.specs.Wanted.{names_of}

-- where nothing was tagged, the other answer is to tag
pub inverted-empty : (names : TagSet) → inverted_tags empty names ≡ names
inverted-empty names = same_tags (inverted_tags empty names) names (λ q.
    contains-union nat_list_cmp_total (difference empty names) (difference names empty) q
    ∙ ap (λ b. b || contains {R = slice_cmp nat_cmp} (difference names empty) q) (contains-difference nat_list_cmp_total empty names q)
    ∙ ap (λ b. (contains {R = slice_cmp nat_cmp} empty q && not (contains names q)) || b) (contains-difference nat_list_cmp_total names empty q)
    ∙ ap (λ b. (b && not (contains names q)) || (contains names q && not b)) (contains-empty (slice_cmp nat_cmp) q)
    ∙ go (contains names q))
  where
    go : (b : Bool) → ((false && not b) || (b && not false)) ≡ b
    go true = refl
    go false = refl

-- one item more
pub names_kept-more : (keeps : List ℕ → Bool) (items : List Item) (i : ℕ) (item : Item) → i < length items → item ≡ get_or items i item
    → filter keeps (names_of (take i items)) ++ (if keeps item.name then item.name ∷ [] else []) ≡ filter keeps (names_of (take (i + 1) items))
names_kept-more keeps items i item below is =
    sym (filter-append keeps (names_of (take i items)) (item.name ∷ []))
    ∙ ap (filter keeps) (sym (map-append (λ (item : Item). item.name) (take i items) (item ∷ [])))
    ∙ ap (λ x. filter keeps (names_of (take i items ++ x ∷ []))) is
    ∙ ap (λ front. filter keeps (names_of front)) (sym (take_more items i item below))

-- the names of a set are those of a set
pub read_back : (tags : TagSet) → names_in (items tags) ≡ tags
read_back tags = same_tags (names_in (items tags)) tags (λ q. contains-from_list nat_list_cmp_total (items tags) q ∙ sym (contains-items tags q))
