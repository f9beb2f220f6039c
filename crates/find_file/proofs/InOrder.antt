-- Two lists of names in byte order with the same members are one list; so a listing is the names of its folder.
use Rattle.std.proofs.Common.{◌≡◌, ℕ, List, [], ◌∷◌, refl, sym, ap, subst, ◌∙◌, inl, inr}
use Rattle.std.specs.Ordering.{ordering_reverse}
use Rattle.std.specs.Cmp.Lexicographic.{nat_list_cmp_total}
use Rattle.std.specs.declared.cmp.Ordering.TheVariants.{Less, Greater}
use Rattle.mc_text.specs.Routes.{Route}
use Rattle.tree_trait.specs.declared.file_system.FileSystem.{FileSystem}
use Rattle.tree_trait.specs.declared.calls.Children.{Children}
use Rattle.tree_trait.specs.Change.{found_node}
use Rattle.tree_trait.specs.CrashImages.{Among}
use Rattle.tree_trait.specs.Answers.{name_cmp, AllAfter, IsAscending, IsListing}
use Rattle.tree_rules.specs.Listed.{gathered_names}
use Rattle.tree_rules.proofs.Listing.{gathered_ascends, gathered_leads, gathered_all}
use Rattle.find_file.specs.FoundList.{names_in}

after_it : (first : List ℕ) (names : List (List ℕ)) (name : List ℕ) → AllAfter first names → Among names name → name_cmp first name ≡ Less
after_it first [] name all among = absurd among
after_it first (x ∷ xs) name all (inl here) = subst (λ n. name_cmp first n ≡ Less) (sym here) all.0
after_it first (x ∷ xs) name all (inr later) = after_it first xs name all.1 later

not_both : {A : Type 0} (x y : List ℕ) → name_cmp x y ≡ Less → name_cmp y x ≡ Less → A
not_both x y less more =
    let turned = nat_list_cmp_total.antisymm x y in
    let reversed : ordering_reverse (name_cmp x y) ≡ Greater = ap ordering_reverse less in
    cc

-- the first of each is the first of the other
firsts : (x y : List ℕ) (xs ys : List (List ℕ)) → AllAfter x xs → AllAfter y ys → Among (y ∷ ys) x → Among (x ∷ xs) y → x ≡ y
firsts x y xs ys all_x all_y (inl same) back = same
firsts x y xs ys all_x all_y (inr later) (inl same) = sym same
firsts x y xs ys all_x all_y (inr later) (inr sooner) = not_both x y (after_it x xs y all_x sooner) (after_it y ys x all_y later)

-- what stands behind the same first
behind : (x y : List ℕ) (xs ys : List (List ℕ)) (name : List ℕ) → AllAfter x xs → x ≡ y → Among xs name → Among (y ∷ ys) name → Among ys name
behind x y xs ys name all same among (inr later) = later
behind x y xs ys name all same among (inl here) =
    not_both x name (after_it x xs name all among) (subst (λ n. name_cmp name n ≡ Less) (here ∙ sym same) (subst (λ n. name_cmp n name ≡ Less) (sym (here ∙ sym same)) (after_it x xs name all among)))

pub one_list : (xs ys : List (List ℕ)) → IsAscending xs → IsAscending ys → ((name : List ℕ) → Among xs name → Among ys name)
    → ((name : List ℕ) → Among ys name → Among xs name) → xs ≡ ys
one_list [] [] up up' to from = refl
one_list [] (y ∷ ys) up up' to from = absurd (from y (inl refl))
one_list (x ∷ xs) [] up up' to from = absurd (to x (inl refl))
one_list (x ∷ xs) (y ∷ ys) up up' to from =
    let same : x ≡ y = firsts x y xs ys up.0 up'.0 (to x (inl refl)) (from y (inl refl)) in
    let rest : xs ≡ ys = one_list xs ys up.1 up'.1
    (λ name among. behind x y xs ys name up.0 same among (to name (inr among)))
    (λ name among. behind y x ys xs name up'.0 (sym same) among (from name (inr among))) in
    cc

-- what a listing tells are the names of the folder
pub listed_names : (s : FileSystem) (folder : Route) (children : Children) → IsAscending children.names → IsListing s (found_node s folder) children
    → children.names ≡ names_in s folder
listed_names s folder children up listing =
    one_list children.names (gathered_names s (found_node s folder) s.names) up (gathered_ascends s (found_node s folder) s.names)
    (λ name among. let leads = (listing.names name).0 among in gathered_all s (found_node s folder) s.names name leads leads)
    (λ name among. (listing.names name).1 (gathered_leads s (found_node s folder) s.names name among))
