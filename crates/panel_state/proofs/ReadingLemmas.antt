-- What a refused reading is told as, and how many rows a listing has.
use Rattle.std.proofs.Common.{◌≡◌, ◌⊎◌, inl, inr, ℕ, ◌+◌, ◌<◌, ◌≤◌, ◌^◌, Bool, true, false, if◌then◌else◌, List, [], ◌∷◌, ◌++◌, length, map, filter, Option, Some, None, Err, refl, sym, ap, ◌∙◌, arith, length-append}
use Rattle.std.proofs.lemmas.List.{length-map}
use Rattle.std.proofs.lemmas.List.Sorted.{IsPermutation-refl, length_permutation}
use Rattle.std.specs.List.Sorted.{IsStrictlySortedBy}
use Rattle.mc_text.specs.Routes.{Route}
use Rattle.tree_trait.specs.declared.calls.TreeError.{TreeError}
use Rattle.tree_trait.specs.declared.calls.TreeError.TheVariants as tree
use Rattle.tree_trait.specs.Calls.{ListFolder}
use Rattle.tree_trait.specs.Change.{CallLog, current}
use Rattle.tree_trait.specs.Answers.{Reads, count_after}
use Rattle.resolving.specs.declared.error.ResolveError.{ResolveError}
use Rattle.resolving.specs.declared.error.ResolveError.TheVariants.{Tree, Fault, Memory}
use Rattle.resolving.specs.Errors.{refused_by, CarriesCause, count_told}
use Rattle.panel_listing.specs.declared.item.Item.{Item}
use Rattle.panel_listing.specs.declared.wish.Wish.{Wish}
use Rattle.panel_listing.specs.Orders.{is_shown, AreArranged}
use Rattle.panel_listing.specs.Listings.{Listed, IsListingOf, nothing_listed, rows_in}
use Rattle.panel_state.specs.Panels.{IsSteady}
use Rattle.panel_state.specs.Readings.{ListsFolder}

-- a refusal of `list` is told as it is
pub list_refused : (log : CallLog) (folder : Route) (e : TreeError) → Reads {A = Listed} log (ListFolder folder) (Err e) (IsListingOf (current log) folder)
    → ListsFolder log folder (Err (refused_by folder e))
list_refused log folder tree.Fault h = h
list_refused log folder tree.Memory h = tt
list_refused log folder tree.Missing h = (refl, h)
list_refused log folder tree.NotFolder h = (refl, h)
list_refused log folder tree.Denied h = (refl, h)
list_refused log folder tree.Exists h = (refl, h)
list_refused log folder tree.IsFolder h = (refl, h)
list_refused log folder tree.NotEmpty h = (refl, h)
list_refused log folder tree.IntoItself h = (refl, h)
list_refused log folder tree.Mounted h = (refl, h)
list_refused log folder tree.CrossMount h = (refl, h)
list_refused log folder tree.NoSpace h = (refl, h)
list_refused log folder tree.Special h = (refl, h)

pub carries_cause : (path : Route) (e : TreeError) → CarriesCause (refused_by path e)
carries_cause path tree.Fault = tt
carries_cause path tree.Memory = tt
carries_cause path tree.Missing = tt
carries_cause path tree.NotFolder = tt
carries_cause path tree.Denied = tt
carries_cause path tree.Exists = tt
carries_cause path tree.IsFolder = tt
carries_cause path tree.NotEmpty = tt
carries_cause path tree.IntoItself = tt
carries_cause path tree.Mounted = tt
carries_cause path tree.CrossMount = tt
carries_cause path tree.NoSpace = tt
carries_cause path tree.Special = tt

-- a fault of it is told as one, and nothing else is
pub refusal_counts : (A B : Type 0) (count : ℕ) (folder : Route) (e : TreeError) (told : ResolveError) → (told ≡ Memory) ⊎ (told ≡ refused_by folder e)
    → (e ≡ tree.Fault → told ≡ Fault) → count_after {T = B} count (Err e) ≡ count_told {A = A} count (Err told)
refusal_counts A B count folder e told is fault = go e is fault
  where
    other : (e : TreeError) → (told ≡ Memory) ⊎ (told ≡ Tree folder e) → count ≡ count_told {A = A} count (Err told)
    other e (inl is) = rw is refl
    other e (inr is) = rw is refl

    memory : (told ≡ Memory) ⊎ (told ≡ Memory) → count ≡ count_told {A = A} count (Err told)
    memory (inl is) = rw is refl
    memory (inr is) = rw is refl

    go : (e : TreeError) → (told ≡ Memory) ⊎ (told ≡ refused_by folder e) → (e ≡ tree.Fault → told ≡ Fault)
        → count_after {T = B} count (Err e) ≡ count_told {A = A} count (Err told)
    go tree.Fault is fault = rw (fault refl) refl
    go tree.Memory is fault = memory is
    go tree.Missing is fault = other tree.Missing is
    go tree.NotFolder is fault = other tree.NotFolder is
    go tree.Denied is fault = other tree.Denied is
    go tree.Exists is fault = other tree.Exists is
    go tree.IsFolder is fault = other tree.IsFolder is
    go tree.NotEmpty is fault = other tree.NotEmpty is
    go tree.IntoItself is fault = other tree.IntoItself is
    go tree.Mounted is fault = other tree.Mounted is
    go tree.CrossMount is fault = other tree.CrossMount is
    go tree.NoSpace is fault = other tree.NoSpace is
    go tree.Special is fault = other tree.Special is

filter-short : {A : Type 0} (p : A → Bool) (xs : List A) → length (filter p xs) ≤ length xs
filter-short p [] = omega arith
filter-short p (x ∷ xs) = go (p x) (filter-short p xs)
  where
    go : (keeps : Bool) → length (filter p xs) ≤ length xs → length (if keeps then x ∷ filter p xs else filter p xs) ≤ length (x ∷ xs)
    go true h = omega (arith, h)
    go false h = omega (arith, h)

-- there are at most as many rows as items, and one more
pub rows_within : (wish : Wish) (listing : Listed) → AreArranged wish listing.items listing.shown → length (rows_in listing) ≤ 1 + length listing.items
rows_within wish listing arranged = go listing.has_parent
  where
    shown : length listing.shown ≤ length listing.items
    shown = omega (arith, length_permutation (filter (is_shown wish) listing.items) listing.shown arranged.kept, filter-short (is_shown wish) listing.items)

    go : (above : Bool) → length ((if above then None ∷ [] else []) ++ map {A = Item} {B = Option Item} Some listing.shown) ≤ 1 + length listing.items
    go true = omega (arith, shown, length-map {A = Item} {B = Option Item} listing.shown Some)
    go false = omega (arith, shown, length-map {A = Item} {B = Option Item} listing.shown Some)

-- where nothing is listed, nothing is out of order
pub nothing_steady : (wish : Wish) → IsSteady wish nothing_listed 0 0
unfolding IsStrictlySortedBy
nothing_steady wish = record {
  arranged = record { kept = IsPermutation-refl []; ordered = tt };
  small = omega arith;
  within = omega arith;
  near = omega arith;
}
