-- Levels enough are all levels: a path of more than 4,096 bytes is passed over, and each level makes a path longer.
use Rattle.std.proofs.Common.{◌≡◌, ℕ, zero, suc, ◌+◌, ◌<◌, ◌≤◌, Bool, true, false, cond, List, [], ◌∷◌, ◌++◌, length, refl, ap, ◌∙◌, flat_map, arith, length-append}
use Rattle.std.specs.Prelude.{◌||◌, ◌&&◌, nat_lt}
use Rattle.std.proofs.lemmas.Bool.{ltb-false}
use Rattle.mc_text.specs.Routes.{Route, spelled_route}
use Rattle.tagging.specs.Patterns.{is_found}
use Rattle.tree_trait.specs.declared.file_system.FileSystem.{FileSystem}
use Rattle.tree_trait.specs.Calls.{ListFolder}
use Rattle.tree_trait.specs.Refusals.{refusal_of}
use Rattle.find_file.specs.declared.search.Search.{Search}
use Rattle.find_file.specs.FoundList.Turn.{At}
use Rattle.find_file.specs.FoundList.{Turn, is_by_name, leaves_out, is_passed_over, brings, path_if, look_turns, child, names_in, listing_turns, turns_within, turns_below}

-- a path that is a name longer
pub longer : (name : List ℕ) (folder : Route) → length (spelled_route (name ∷ folder)) ≡ length (spelled_route folder) + suc (length name)
longer name folder = length-append (spelled_route folder) (47 ∷ name)

or_false : (a b : Bool) → (a || b) ≡ false → b ≡ false
or_false true b h = cc
or_false false b h = h

-- the path of a child that isn't passed over
pub is_short : (search : Search) (name : List ℕ) (folder : Route) → is_passed_over search name folder ≡ false → length (spelled_route (name ∷ folder)) ≤ 4096
is_short search name folder h = ltb-false 4096 (length (spelled_route (name ∷ folder))) (or_false (leaves_out search name) (nat_lt 4096 (length (spelled_route (name ∷ folder)))) h)

module _ (s : FileSystem) (search : Search) where
  child_by : (passed is_named : Bool) (name : List ℕ) (folder : Route) (one other : List Turn) → is_passed_over search name folder ≡ passed
      → (is_passed_over search name folder ≡ false → one ≡ other)
      → cond passed [] (path_if (is_named && is_by_name search) (name ∷ folder) ++ look_turns s search is_named (name ∷ folder) one)
      ≡ cond passed [] (path_if (is_named && is_by_name search) (name ∷ folder) ++ look_turns s search is_named (name ∷ folder) other)
  child_by true is_named name folder one other is same = refl
  child_by false is_named name folder one other is same =
      ap (λ below. path_if (is_named && is_by_name search) (name ∷ folder) ++ look_turns s search is_named (name ∷ folder) below) (same is)

  -- what is below a child that is passed over doesn't count
  child_same : (is_named : Bool) (name : List ℕ) (folder : Route) (one other : List Turn) → (is_passed_over search name folder ≡ false → one ≡ other)
      → child s search is_named name folder one ≡ child s search is_named name folder other
  child_same is_named name folder one other same = child_by (is_passed_over search name folder) is_named name folder one other refl same

  children_same : (folder : Route) (names : List (List ℕ)) (one other : Route → List Turn)
      → ((name : List ℕ) → is_passed_over search name folder ≡ false → one (name ∷ folder) ≡ other (name ∷ folder))
      → flat_map (λ name. child s search (is_found search.name name) name folder (one (name ∷ folder))) names
      ≡ flat_map (λ name. child s search (is_found search.name name) name folder (other (name ∷ folder))) names
  children_same folder [] one other same = refl
  children_same folder (name ∷ names) one other same =
      let first = child_same (is_found search.name name) name folder (one (name ∷ folder)) (other (name ∷ folder)) (same name) in
      let rest = children_same folder names one other same in
      ap (λ l. l ++ flat_map (λ name. child s search (is_found search.name name) name folder (one (name ∷ folder))) names) first
      ∙ ap (λ l. child s search (is_found search.name name) name folder (other (name ∷ folder)) ++ l) rest

  listed_same : (folder : Route) (one other : Route → List Turn)
      → ((name : List ℕ) → is_passed_over search name folder ≡ false → one (name ∷ folder) ≡ other (name ∷ folder))
      → listing_turns s search folder one ≡ listing_turns s search folder other
  listed_same folder one other same = ap (λ l. At folder ∷ brings (refusal_of s (ListFolder folder)) folder l) (children_same folder (names_in s folder) one other same)

  enough : (a b : ℕ) (folder : Route) → length (spelled_route folder) ≤ 4096 → 4096 < a + length (spelled_route folder) → 4096 < b + length (spelled_route folder)
      → turns_within a s search folder ≡ turns_within b s search folder
  unfolding turns_within
  enough zero b folder short more other = absurd (omega arith)
  enough (suc a) zero folder short more other = absurd (omega arith)
  enough (suc a) (suc b) folder short more other =
      listed_same folder (turns_within a s search) (turns_within b s search) (λ name met.
      let is : length (spelled_route (name ∷ folder)) ≡ length (spelled_route folder) + suc (length name) = longer name folder in
      enough a b (name ∷ folder) (is_short search name folder met) (omega arith) (omega arith))

  one_more : (levels : ℕ) (folder : Route) → 4096 ≤ levels → length (spelled_route folder) ≤ 4096
      → turns_within (suc levels) s search folder ≡ listing_turns s search folder (turns_within (suc levels) s search)
  unfolding turns_within
  one_more levels folder many short =
      listed_same folder (turns_within levels s search) (turns_within (suc levels) s search) (λ name met.
      let is : length (spelled_route (name ∷ folder)) ≡ length (spelled_route folder) + suc (length name) = longer name folder in
      enough levels (suc levels) (name ∷ folder) (is_short search name folder met) (omega arith) (omega arith))

  -- what comes of a folder is its listing, and what that brings
  pub turns_below_is : (folder : Route) → length (spelled_route folder) ≤ 4096 → turns_below s search folder ≡ listing_turns s search folder (turns_below s search)
  unfolding turns_below
  turns_below_is folder short = one_more 4096 folder (omega arith) short
