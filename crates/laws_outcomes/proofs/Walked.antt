-- What a deletion knows of what is left below its path: it was passed over, or lies around that, or it is yet to be met.
use Rattle.std.proofs.Common.{◌≡◌, ◌⊎◌, ℕ, ◌≤◌, ◌||◌, Bool, true, false, List, [], ◌∷◌, ◌++◌, length, refl, sym, ◌∙◌, ap, subst, inl, inr, Some, arith}
use Rattle.std.specs.Prelude.{is_some, drop, unwrap_or}
use Rattle.std.proofs.lemmas.Bool.{false≢true, or_right}
use Rattle.mc_text.specs.Routes.{Route, is_prefix, same_path}
use Rattle.mc_text.proofs.Prefixes.{same_path-lengths}
use Rattle.tree_trait.specs.declared.file_system.FileSystem.{FileSystem}
use Rattle.tree_trait.specs.declared.calls.Children.{Children}
use Rattle.tree_trait.specs.FileSystem.{find, lookup}
use Rattle.tree_trait.specs.Answers.{IsListing}
use Rattle.tree_trait.specs.Change.{found_node}
use Rattle.tree_trait.specs.CrashImages.{Among}
use Rattle.tree_trait.proofs.Finding.{and_then-some}
use Rattle.tree_walk.specs.Places.{OpenFolder, noted_folder, opened_folder, without_next}
use Rattle.laws_sessions.proofs.Intact.{prefix_append, prefix_way}

-- it lies at or below something that was passed over, or something in it was
abbrev pub IsSpared : List Route → Route → Type 0
IsSpared passed p = (left : Route) × Among passed left × ((is_prefix left p ≡ true) ⊎ (is_prefix p left ≡ true))

-- it is an open folder, or lies at or below a name that is yet to be met there
abbrev pub IsAhead : OpenFolder → Route → Type 0
IsAhead folder p = (p ≡ folder.path) ⊎ ((name : List ℕ) × Among folder.names name × (is_prefix (name ∷ folder.path) p ≡ true))

abbrev pub IsPending : OpenFolder → List OpenFolder → Route → Type 0
IsPending inner [] p = IsAhead inner p
IsPending inner (outer ∷ around) p = IsAhead inner p ⊎ IsPending outer around p

-- the open folders lie in one another, and the outermost is the thing that is deleted
abbrev pub AreNested : Route → OpenFolder → List OpenFolder → Type 0
AreNested top inner [] = inner.path ≡ top
AreNested top inner (outer ∷ around) = ((name : List ℕ) × (inner.path ≡ name ∷ outer.path)) × AreNested top outer around

-- where something in a folder is noted as left, something in it was passed over
abbrev pub IsHonest : List Route → OpenFolder → Type 0
IsHonest passed folder = folder.spared ≡ true → (left : Route) × Among passed left × (is_prefix folder.path left ≡ true)

abbrev pub AreHonest : List Route → OpenFolder → List OpenFolder → Type 0
AreHonest passed inner [] = IsHonest passed inner
AreHonest passed inner (outer ∷ around) = IsHonest passed inner × AreHonest passed outer around

-- of each path at or below the top at which something stands
abbrev pub Stand : FileSystem → Route → (Route → Type 0) → Type 0
Stand s top Holds = (p : Route) (i : ℕ) → is_prefix top p ≡ true → find s p ≡ Some i → Holds p

pub record IsWalked (passed : List Route) (s : FileSystem) (top : Route) (inner : OpenFolder) (around : List OpenFolder) : Type 0 where
  pub stands : (p : Route) (i : ℕ) → is_prefix top p ≡ true → find s p ≡ Some i → IsSpared passed p ⊎ IsPending inner around p
  pub nested : AreNested top inner around
  pub honest : AreHonest passed inner around

-- what lies below a path lies at or below a name in it
pub in_name : (rest top : Route) → (rest ++ top ≡ top) ⊎ ((name : List ℕ) × (is_prefix (name ∷ top) (rest ++ top) ≡ true))
in_name [] top = inl refl
in_name (n ∷ rest) top = elim (in_name rest top) [
  | inl same ↦ inr (n, subst (λ (q : Route). is_prefix (n ∷ top) (n ∷ q) ≡ true) (sym same) (prefix_append (n ∷ top) []))
  | inr more ↦ inr (more.0, or_right (same_path (more.0 ∷ top) (n ∷ (rest ++ top))) (is_prefix (more.0 ∷ top) (rest ++ top)) more.1)
]

-- above what stands something stands
pub stands_above : (s : FileSystem) (rest q : Route) (i : ℕ) → find s (rest ++ q) ≡ Some i → (j : ℕ) × (find s q ≡ Some j)
stands_above s [] q i at = (i, at)
stands_above s (n ∷ rest) q i at = let h = and_then-some (find s (rest ++ q)) (λ g. lookup s.names g n) i at in stands_above s rest q h.0 h.1

pub below_longer : (rest q : Route) → length q ≤ length (rest ++ q)
below_longer [] q = omega arith
below_longer (n ∷ rest) q = let h = below_longer rest q in omega (arith, h)

-- what stands below a folder that is listed is that folder, or lies at or below one of the names
listed_below : (s : FileSystem) (folder p : Route) (i : ℕ) (children : Children) → IsListing s (found_node s folder) children → is_prefix folder p ≡ true → find s p ≡ Some i
    → (p ≡ folder) ⊎ ((name : List ℕ) × Among children.names name × (is_prefix (name ∷ folder) p ≡ true))
listed_below s folder p i children listing within at =
    let w = prefix_way folder p within in
    elim (in_name w.0 folder) [
      | inl same ↦ inl (w.1 ∙ same)
      | inr more ↦
          let name = more.0 in
          let under : is_prefix (name ∷ folder) p ≡ true = subst (λ (q : Route). is_prefix (name ∷ folder) q ≡ true) (sym w.1) more.1 in
          let v = prefix_way (name ∷ folder) p under in
          let a = stands_above s v.0 (name ∷ folder) i (ap (find s) (sym v.1) ∙ at) in
          let h = and_then-some (find s folder) (λ g. lookup s.names g name) a.0 a.1 in
          let leads : lookup s.names (found_node s folder) name ≡ Some a.0 = ap (λ o. lookup s.names (unwrap_or o 0) name) h.1 ∙ h.2 in
          inr (name, (listing.names name).1 (ap is_some leads), under)
    ]

-- a thing is gone into
pub opens_top : (passed : List Route) (s : FileSystem) (top : Route) (children : Children) → IsListing s (found_node s top) children → IsWalked passed s top (opened_folder top children.names) []
opens_top passed s top children listing = record {
  stands = λ p i within at. inr (listed_below s top p i children listing within at);
  nested = refl;
  honest = λ spared. absurd (false≢true spared);
}

nested_as : (top : Route) (inner other : OpenFolder) (around : List OpenFolder) → other.path ≡ inner.path → AreNested top inner around → AreNested top other around
nested_as top inner other [] same n = same ∙ n
nested_as top inner other (outer ∷ around) same ((name, is), n) = ((name, same ∙ is), n)

honest_as : (passed more : List Route) (inner other : OpenFolder) (around : List OpenFolder) → ((q : Route) → Among passed q → Among more q) → (IsHonest passed inner → IsHonest more other) → AreHonest passed inner around → AreHonest more other around
honest_as passed more inner other [] grows is h = is h
honest_as passed more inner other (outer ∷ around) grows is (h, others) =
    (is h, honest_as passed more outer outer around grows (λ x spared. let l = x spared in (l.0, grows l.0 l.1, l.2)) others)

pending_as : (R : Type 0) (inner other : OpenFolder) (around : List OpenFolder) (p : Route) → (IsAhead inner p → R ⊎ IsAhead other p) → IsPending inner around p → R ⊎ IsPending other around p
pending_as R inner other [] p to h = to h
pending_as R inner other (outer ∷ around) p to (inl h) = elim (to h) [ inl r ↦ inl r | inr a ↦ inr (inl a) ]
pending_as R inner other (outer ∷ around) p to (inr h) = inr (inr h)

pub spared_more : (passed more : List Route) (p : Route) → ((q : Route) → Among passed q → Among more q) → IsSpared passed p → IsSpared more p
spared_more passed more p grows (left, among, how) = (left, grows left among, how)

-- of the names with the first one taken, those that were there
next_names : (names more : List (List ℕ)) (name n : List ℕ) → names ≡ name ∷ more → Among names n → (n ≡ name) ⊎ Among (drop 1 names) n
next_names names more name n is among = by (subst (λ xs. Among xs n) is among)
  where
    by : Among (name ∷ more) n → (n ≡ name) ⊎ Among (drop 1 names) n
    by (inl same) = inl same
    by (inr later) = inr (subst (λ xs. Among (drop 1 xs) n) (sym is) later)

pub opens_inside : (passed : List Route) (s : FileSystem) (top : Route) (inner : OpenFolder) (around : List OpenFolder) (name : List ℕ) (names : List (List ℕ)) (children : Children) → inner.names ≡ name ∷ names → IsListing s (found_node s (name ∷ inner.path)) children
    → IsWalked passed s top inner around → IsWalked passed s top (opened_folder (name ∷ inner.path) children.names) (without_next inner ∷ around)
opens_inside passed s top inner around name names children is listing w = record {
  stands = λ p i within at. elim (w.stands p i within at) [
    | inl spared ↦ inl spared
    | inr pending ↦ inr (pending_as (IsAhead (opened_folder (name ∷ inner.path) children.names) p) inner (without_next inner) around p (ahead p i at) pending)
  ];
  nested = ((name, refl), nested_as top inner (without_next inner) around refl w.nested);
  honest = (λ spared. absurd (false≢true spared), honest_as passed passed inner (without_next inner) around (λ q among. among) (λ h. h) w.honest);
}
  where
    ahead : (p : Route) (i : ℕ) → find s p ≡ Some i → IsAhead inner p → IsAhead (opened_folder (name ∷ inner.path) children.names) p ⊎ IsAhead (without_next inner) p
    ahead p i at (inl same) = inr (inl same)
    ahead p i at (inr (n, among, within)) = elim (next_names inner.names names name n is among) [
      | inl same ↦ inl (listed_below s (name ∷ inner.path) p i children listing (subst (λ (m : List ℕ). is_prefix (m ∷ inner.path) p ≡ true) same within) at)
      | inr later ↦ inr (inr (n, later, within))
    ]

-- What was taken up is gone, or was left: all that stood in it is spared.
module _ (passed more : List Route) (s after : FileSystem) (top : Route) (grows : (q : Route) → Among passed q → Among more q) (fewer : (p : Route) (i : ℕ) → find after p ≡ Some i → (j : ℕ) × (find s p ≡ Some j)) where
  noted_honest : (left : Bool) (inner : OpenFolder) → (left ≡ true → (q : Route) × Among more q × (is_prefix inner.path q ≡ true)) → IsHonest passed inner → IsHonest more (noted_folder left inner)
  noted_honest left inner seen h = by inner.spared refl
    where
      by : (b : Bool) → inner.spared ≡ b → (inner.spared || left) ≡ true → (q : Route) × Among more q × (is_prefix inner.path q ≡ true)
      by true is both = let l = h is in (l.0, grows l.0 l.1, l.2)
      by false is both = seen (subst (λ b. (b || left) ≡ true) is both)

  -- the next name of the folder that is worked
  pub passes_thing : (inner : OpenFolder) (around : List OpenFolder) (name : List ℕ) (names : List (List ℕ)) (left : Bool) → inner.names ≡ name ∷ names
      → ((p : Route) (i : ℕ) → is_prefix (name ∷ inner.path) p ≡ true → find after p ≡ Some i → IsSpared more p) → (left ≡ true → (q : Route) × Among more q × (is_prefix inner.path q ≡ true))
      → IsWalked passed s top inner around → IsWalked more after top (noted_folder left (without_next inner)) around
  passes_thing inner around name names left is gone seen w = record {
    stands = λ p i within at. let before = fewer p i at in elim (w.stands p before.0 within before.1) [
      | inl spared ↦ inl (spared_more passed more p grows spared)
      | inr pending ↦ pending_as (IsSpared more p) inner (noted_folder left (without_next inner)) around p (ahead p i at) pending
    ];
    nested = nested_as top inner (noted_folder left (without_next inner)) around refl w.nested;
    honest = honest_as passed more inner (noted_folder left (without_next inner)) around grows (λ h. noted_honest left (without_next inner) seen h) w.honest;
  }
    where
      ahead : (p : Route) (i : ℕ) → find after p ≡ Some i → IsAhead inner p → IsSpared more p ⊎ IsAhead (noted_folder left (without_next inner)) p
      ahead p i at (inl same) = inr (inl same)
      ahead p i at (inr (n, among, within)) = elim (next_names inner.names names name n is among) [
        | inl same ↦ inl (gone p i (subst (λ (m : List ℕ). is_prefix (m ∷ inner.path) p ≡ true) same within) at)
        | inr later ↦ inr (inr (n, later, within))
      ]

  -- the folder that is worked, in another one
  pub passes_folder : (inner outer : OpenFolder) (around : List OpenFolder) (left : Bool) → ((p : Route) (i : ℕ) → IsAhead inner p → find after p ≡ Some i → IsSpared more p)
      → (left ≡ true → (q : Route) × Among more q × (is_prefix outer.path q ≡ true)) → IsWalked passed s top inner (outer ∷ around) → IsWalked more after top (noted_folder left outer) around
  passes_folder inner outer around left gone seen w = record {
    stands = λ p i within at. let before = fewer p i at in elim (w.stands p before.0 within before.1) [
      | inl spared ↦ inl (spared_more passed more p grows spared)
      | inr pending ↦ elim pending [
        | inl ahead ↦ inl (gone p i ahead at)
        | inr others ↦ pending_as (IsSpared more p) outer (noted_folder left outer) around p (λ a. inr a) others
      ]
    ];
    nested = nested_as top outer (noted_folder left outer) around refl (w.nested).1;
    honest = honest_as passed more outer (noted_folder left outer) around grows (λ h. noted_honest left outer seen h) (w.honest).1;
  }

  -- the outermost one
  pub passes_top : (inner : OpenFolder) → ((p : Route) (i : ℕ) → IsAhead inner p → find after p ≡ Some i → IsSpared more p) → IsWalked passed s top inner [] → (p : Route) (i : ℕ) → is_prefix top p ≡ true → find after p ≡ Some i → IsSpared more p
  passes_top inner gone w p i within at = let before = fewer p i at in elim (w.stands p before.0 within before.1) [
    | inl spared ↦ spared_more passed more p grows spared
    | inr ahead ↦ gone p i ahead at
  ]

-- the top isn't longer than a folder that is open
pub nested_longer : (top : Route) (inner : OpenFolder) (around : List OpenFolder) → AreNested top inner around → length top ≤ length inner.path
nested_longer top inner [] is = let e = ap (λ (q : Route). length q) is in omega (arith, e)
nested_longer top inner (outer ∷ around) ((name, is), n) = let h = nested_longer top outer around n in let e = ap (λ (q : Route). length q) is in omega (arith, h, e)

-- so what lies in it isn't the top
pub inside_apart : (top folder : Route) (name : List ℕ) → length top ≤ length folder → same_path (name ∷ folder) top ≡ false
inside_apart top folder name longer = same_path-lengths (name ∷ folder) top (λ e. absurd (omega (arith, e, longer)))
