-- Where a walk stands, and where it stands once it goes on.
use Rattle.std.specs.Prelude.{◌≡◌, ℕ, ◌+◌, ◌-◌, Bool, true, false, ◌||◌, List, [], ◌∷◌, drop, nat_eq, refl}
use Rattle.std.specs.Coded.{Coded, code_by, coded×, coded_list, coded_ℕ}
use Rattle.std.specs.List.{list_any, starts_with}
use Rattle.std.specs.Str.{bytes_eq}
use Rattle.mc_text.specs.Routes.{Route}

-- a folder that is open, the names in it that are yet to be met, and whether one of
-- those that were met was left
pub record OpenFolder : Type 0 where
  pub path : Route
  pub names : List (List ℕ)
  pub spared : Bool

-- the folders around the one that is worked, the nearest first, and for how many more there is room
pub record FoldersAround (Folder : Type 0) : Type 0 where
  pub nearest : List Folder
  pub spare : ℕ

-- they are stored as the pair of both
abbrev pub around_code : {Folder : Type 0} → Coded Folder → Coded (FoldersAround Folder)
around_code code = code_by (List _ × ℕ) (coded× (coded_list code) coded_ℕ) (λ a. (a.nearest, a.spare))
    (λ p. record { nearest = p.0; spare = p.1 }) (λ _. refl)

-- the place of a walk: the folder that is worked, those around it, the nearest first, and how
-- many levels it may go down
pub record Place : Type 0 where
  pub inner : OpenFolder
  pub around : List OpenFolder
  pub left : ℕ

-- a walk, and for how many folders there is room
pub record Walking : Type 0 where
  pub place : Place
  pub spare : ℕ

abbrev pub is_empty : {Folder : Type 0} → List Folder → Bool
is_empty [] = true
is_empty (folder ∷ folders) = false

-- no folder is around the one that is worked
abbrev pub is_outermost : Place → Bool
is_outermost place = is_empty place.around

-- it is one of these names
abbrev pub is_one_of : List ℕ → List (List ℕ) → Bool
is_one_of name names = list_any (λ met. bytes_eq met name) names

-- it begins as the name of a part does, with `.mc.`
abbrev pub is_named_as_part : List ℕ → Bool
is_named_as_part name = starts_with nat_eq name (46 ∷ 109 ∷ 99 ∷ 46 ∷ [])

-- a folder of which nothing was met yet
abbrev pub opened_folder : Route → List (List ℕ) → OpenFolder
opened_folder path names = record { path = path; names = names; spared = false }

-- a walk that is to begin; it goes down 256 levels below its outermost folder
abbrev pub unopened_walk : Place
unopened_walk = record { inner = opened_folder [] []; around = []; left = 256 }

abbrev pub noted_folder : Bool → OpenFolder → OpenFolder
noted_folder left folder = record folder { spared = folder.spared || left }

abbrev pub without_next : OpenFolder → OpenFolder
without_next folder = record folder { names = drop 1 folder.names }

-- the next name is done with
abbrev pub passed_place : Bool → Place → Place
passed_place left place = record place { inner = noted_folder left (without_next place.inner) }

-- the walk goes down into the folder that has the next name
abbrev pub entered_place : Route → List (List ℕ) → Place → Place
entered_place path names place = record {
  inner = opened_folder path names;
  around = without_next place.inner ∷ place.around;
  left = place.left - 1;
}

-- the folder that is worked is done with, and the one around it is worked again
pub record IsLeft (left : Bool) (old new : Place) : Type 0 where
  pub outer : OpenFolder
  pub was : old.around ≡ outer ∷ new.around
  pub inner : new.inner ≡ noted_folder left outer
  pub levels : new.left ≡ old.left + 1
