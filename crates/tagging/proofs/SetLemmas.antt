-- Sets of names, by their members.
use Rattle.std.proofs.Common.{◌≡◌, ℕ, Bool, true, false, cond, if◌then◌else◌, not, ◌&&◌, ◌||◌, List, [], ◌∷◌, ◌++◌, map, refl, sym, ap, ◌∙◌}
use Rattle.std.specs.Prelude.{String}
use Rattle.std.specs.Ordering.{nat_cmp, eq_by_cmp}
use Rattle.std.specs.Cmp.Lexicographic.{slice_cmp, nat_list_cmp_total}
use Rattle.std.specs.Cmp.{Equal-is}
use Rattle.std.specs.List.{list_any, AllZip}
use Rattle.std.specs.Str.{bytes_eq}
use Rattle.std.proofs.lemmas.Slice.Eq.{bytes_eq-Decides}
use Rattle.std.proofs.lemmas.Map.Text.{is_eq-slice_cmp}
use Rattle.tagging.proofs.WalkLemmas.{same_answers}
use Rattle.std.specs.BTreeSet.{BTreeSet, contains_text, keys}
use Rattle.std.specs.String.{string_bytes}
use Rattle.std.specs.FinSet.{contains, insert, remove, union, difference, same_set, from_list_push, contains-empty, contains-insert, contains-remove, contains-union, contains-difference, contains-from_list, contains_tied, slice_cmp-IsAntisymmetric, nat_cmp-IsAntisymmetric}
use Rattle.tagging.specs.TagSets.{TagSet, names_in, tag_set, inverted_tags}

list_any-map : {A : Type 0} (f : A → List ℕ) (p : List ℕ → Bool) (xs : List A) → list_any p (map f xs) ≡ list_any (λ x. p (f x)) xs
list_any-map f p [] = refl
list_any-map f p (x ∷ xs) = ap (λ b. p (f x) || b) (list_any-map f p xs)

-- a name is in the set where a text of it is kept
pub contains-tag_set : {A : Type 0} (texts : BTreeSet (String A)) (name : List ℕ) → contains (tag_set texts) name ≡ contains_text texts name
contains-tag_set texts name = contains-from_list nat_list_cmp_total (map string_bytes (keys texts)) name ∙ list_any-map string_bytes (eq_by_cmp (slice_cmp nat_cmp) name) (keys texts)

-- two sets with the same names are one
pub same_tags : (s t : TagSet) → ((name : List ℕ) → contains s name ≡ contains t name) → s ≡ t
same_tags s t same = same_set nat_list_cmp_total (slice_cmp-IsAntisymmetric nat_cmp-IsAntisymmetric) s t same

is_same : List ℕ → List ℕ → Bool
is_same = eq_by_cmp (slice_cmp nat_cmp)

bytes_eq-is_same : (xs ys : List ℕ) → bytes_eq xs ys ≡ is_same ys xs
unfolding is_same
bytes_eq-is_same xs ys =
    same_answers (bytes_eq xs ys) (bytes_eq ys xs)
    (λ h. (bytes_eq-Decides ys xs).1 (sym ((bytes_eq-Decides xs ys).0 h))) (λ h. (bytes_eq-Decides xs ys).1 (sym ((bytes_eq-Decides ys xs).0 h)))
    ∙ sym (is_eq-slice_cmp ys xs)

-- a text more in the sorted set is a name more in the set
pub after_insert : {A : Type 0} (old new : BTreeSet (String A)) (name : List ℕ)
    → ((q : List ℕ) → contains_text new q ≡ cond (bytes_eq name q) true (contains_text old q)) → tag_set new ≡ insert (tag_set old) name
unfolding is_same
after_insert old new name changed = same_tags (tag_set new) (insert (tag_set old) name) (λ q.
    contains-tag_set new q ∙ changed q ∙ ap (λ e. cond e true (contains_text old q)) (bytes_eq-is_same name q)
    ∙ go (is_same q name) (contains_text old q)
    ∙ sym (contains-insert nat_list_cmp_total (tag_set old) name q ∙ ap (λ b. is_same q name || b) (contains-tag_set old q)))
  where
    go : (e b : Bool) → cond e true b ≡ (e || b)
    go true b = refl
    go false b = refl

-- a text less in the sorted set is a name less in the set
pub after_remove : {A : Type 0} (old new : BTreeSet (String A)) (name : List ℕ)
    → ((q : List ℕ) → contains_text new q ≡ cond (bytes_eq name q) false (contains_text old q)) → tag_set new ≡ remove (tag_set old) name
unfolding is_same
after_remove old new name changed = same_tags (tag_set new) (remove (tag_set old) name) (λ q.
    contains-tag_set new q ∙ changed q ∙ ap (λ e. cond e false (contains_text old q)) (bytes_eq-is_same name q)
    ∙ go (is_same q name) (contains_text old q)
    ∙ sym (contains-remove nat_list_cmp_total (tag_set old) name q ∙ ap (λ b. not (is_same q name) && b) (contains-tag_set old q)))
  where
    go : (e b : Bool) → cond e false b ≡ (not e && b)
    go true b = refl
    go false b = refl

-- texts with the same bytes are the same tags
pub tag_set-clone : {A : Type 0} (old new : BTreeSet (String A)) → AllZip (λ s t. string_bytes t ≡ string_bytes s) (keys old) (keys new) → tag_set new ≡ tag_set old
tag_set-clone {A = A} old new same = ap names_in (go (keys old) (keys new) same)
  where
    go : (xs ys : List (String A)) → AllZip (λ s t. string_bytes t ≡ string_bytes s) xs ys → map string_bytes ys ≡ map string_bytes xs
    go [] [] same = refl
    go [] (y ∷ ys) same = absurd same
    go (x ∷ xs) [] same = absurd same
    go (x ∷ xs) (y ∷ ys) same = ap (λ bytes. bytes ∷ map string_bytes ys) same.0 ∙ ap (λ rest. string_bytes x ∷ rest) (go xs ys same.1)

pushed : (names : List (List ℕ)) (name q : List ℕ) → contains (names_in (names ++ name ∷ [])) q ≡ (is_same q name || contains (names_in names) q)
unfolding is_same
pushed names name q =
    ap (λ s. contains s q) (from_list_push nat_list_cmp_total (slice_cmp-IsAntisymmetric nat_cmp-IsAntisymmetric) names name)
    ∙ contains-insert nat_list_cmp_total (names_in names) name q

-- no names change nothing
pub union-nil : (s : TagSet) → s ≡ union s (names_in [])
union-nil s = same_tags s (union s (names_in [])) (λ q. sym (
    contains-union nat_list_cmp_total s (names_in []) q ∙ ap (λ b. contains s q || b) (contains-empty (slice_cmp nat_cmp) q) ∙ go (contains s q)))
  where
    go : (b : Bool) → (b || false) ≡ b
    go true = refl
    go false = refl

pub difference-nil : (s : TagSet) → s ≡ difference s (names_in [])
difference-nil s = same_tags s (difference s (names_in [])) (λ q. sym (
    contains-difference nat_list_cmp_total s (names_in []) q ∙ ap (λ b. contains s q && not b) (contains-empty (slice_cmp nat_cmp) q) ∙ go (contains s q)))
  where
    go : (b : Bool) → (b && true) ≡ b
    go true = refl
    go false = refl

contains-inverted : (s n : TagSet) (q : List ℕ) → contains (inverted_tags s n) q ≡ ((contains s q && not (contains n q)) || (contains n q && not (contains s q)))
contains-inverted s n q =
    contains-union nat_list_cmp_total (difference s n) (difference n s) q
    ∙ ap (λ b. b || contains (difference n s) q) (contains-difference nat_list_cmp_total s n q)
    ∙ ap (λ b. (contains s q && not (contains n q)) || b) (contains-difference nat_list_cmp_total n s q)

pub inverted-nil : (s : TagSet) → s ≡ inverted_tags s (names_in [])
inverted-nil s = same_tags s (inverted_tags s (names_in [])) (λ q. sym (
    contains-inverted s (names_in []) q
    ∙ ap (λ b. (contains s q && not b) || (b && not (contains s q))) (contains-empty (slice_cmp nat_cmp) q) ∙ go (contains s q)))
  where
    go : (b : Bool) → ((b && true) || (false && not b)) ≡ b
    go true = refl
    go false = refl

-- one name more
pub union-push : (s : TagSet) (names : List (List ℕ)) (name : List ℕ) → insert (union s (names_in names)) name ≡ union s (names_in (names ++ name ∷ []))
unfolding is_same
union-push s names name = same_tags (insert (union s (names_in names)) name) (union s (names_in (names ++ name ∷ []))) (λ q.
    contains-insert nat_list_cmp_total (union s (names_in names)) name q
    ∙ ap (λ b. is_same q name || b) (contains-union nat_list_cmp_total s (names_in names) q)
    ∙ go (is_same q name) (contains s q) (contains (names_in names) q)
    ∙ sym (contains-union nat_list_cmp_total s (names_in (names ++ name ∷ [])) q ∙ ap (λ b. contains s q || b) (pushed names name q)))
  where
    go : (e s n : Bool) → (e || (s || n)) ≡ (s || (e || n))
    go true true n = refl
    go true false n = refl
    go false s n = refl

pub difference-push : (s : TagSet) (names : List (List ℕ)) (name : List ℕ) → remove (difference s (names_in names)) name ≡ difference s (names_in (names ++ name ∷ []))
unfolding is_same
difference-push s names name = same_tags (remove (difference s (names_in names)) name) (difference s (names_in (names ++ name ∷ []))) (λ q.
    contains-remove nat_list_cmp_total (difference s (names_in names)) name q
    ∙ ap (λ b. not (is_same q name) && b) (contains-difference nat_list_cmp_total s (names_in names) q)
    ∙ go (is_same q name) (contains s q) (contains (names_in names) q)
    ∙ sym (contains-difference nat_list_cmp_total s (names_in (names ++ name ∷ [])) q ∙ ap (λ b. contains s q && not b) (pushed names name q)))
  where
    go : (e s n : Bool) → (not e && (s && not n)) ≡ (s && not (e || n))
    go true true n = refl
    go true false n = refl
    go false s n = refl

-- what `set` of one name gives
set_one : Bool → TagSet → List ℕ → TagSet
set_one tagged s name = if tagged then insert s name else remove s name

contains-set_one : (tagged : Bool) (s : TagSet) (name q : List ℕ) → contains (set_one tagged s name) q ≡ cond (is_same q name) tagged (contains s q)
unfolding set_one is_same
contains-set_one true s name q = contains-insert nat_list_cmp_total s name q ∙ go (is_same q name) (contains s q)
  where
    go : (e b : Bool) → (e || b) ≡ cond e true b
    go true b = refl
    go false b = refl
contains-set_one false s name q = contains-remove nat_list_cmp_total s name q ∙ go (is_same q name) (contains s q)
  where
    go : (e b : Bool) → (not e && b) ≡ cond e false b
    go true b = refl
    go false b = refl

same_answer : (s : TagSet) (name q : List ℕ) → is_same q name ≡ true → contains s name ≡ contains s q
unfolding is_same
same_answer s name q e = contains_tied nat_list_cmp_total s q name ((Equal-is (slice_cmp nat_cmp q name)).0 e)

pub inverted-push : (s : TagSet) (names : List (List ℕ)) (name : List ℕ)
    → (if not (contains s name) then insert (inverted_tags s (names_in names)) name else remove (inverted_tags s (names_in names)) name) ≡ inverted_tags s (names_in (names ++ name ∷ []))
unfolding set_one
inverted-push s names name = same_tags (set_one (not (contains s name)) (inverted_tags s (names_in names)) name) (inverted_tags s (names_in (names ++ name ∷ []))) (λ q.
    contains-set_one (not (contains s name)) (inverted_tags s (names_in names)) name q
    ∙ ap (λ b. cond (is_same q name) (not (contains s name)) b) (contains-inverted s (names_in names) q)
    ∙ go (is_same q name) (contains s name) (contains s q) (contains (names_in names) q) (same_answer s name q)
    ∙ sym (contains-inverted s (names_in (names ++ name ∷ [])) q
    ∙ ap (λ b. (contains s q && not b) || (b && not (contains s q))) (pushed names name q)))
  where
    go : (e at s n : Bool) → (e ≡ true → at ≡ s) → cond e (not at) ((s && not n) || (n && not s)) ≡ ((s && not (e || n)) || ((e || n) && not s))
    go true at true n same = ap not (same refl)
    go true at false n same = ap not (same refl)
    go false at s n same = refl
