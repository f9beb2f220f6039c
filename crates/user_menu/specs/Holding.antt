-- When a condition holds: its terms are taken from left to right, with one rank (mc(1), "Menu File Edit").
use Rattle.std.specs.Prelude.{Bool, true, not, ◌&&◌, ◌||◌, List, [], ◌∷◌, map}
use Rattle.std.specs.List.{AllByRecursion}
use Rattle.tree_trait.specs.declared.file_system.FileSystem.{FileSystem}
use Rattle.user_menu.specs.Facts.{is_true}
use Rattle.user_menu.specs.declared.condition.Sense.{Sense}
use Rattle.user_menu.specs.declared.condition.Sense.TheVariants.{Plain, Turned}
use Rattle.user_menu.specs.declared.condition.Test.{Test}
use Rattle.user_menu.specs.declared.condition.Term.{Term}
use Rattle.user_menu.specs.declared.condition.Joint.{Joint}
use Rattle.user_menu.specs.declared.condition.Joint.TheVariants.{And, Or}
use Rattle.user_menu.specs.declared.condition.Joined.{Joined}
use Rattle.user_menu.specs.declared.fact.Fact.{Fact}
use Rattle.user_menu.specs.declared.holding.Value.{Value}

abbrev pub in_sense : Sense → Bool → Bool
in_sense Plain is = is
in_sense Turned is = not is

-- the term is met
abbrev pub is_met : FileSystem → Term → Fact → Fact → Bool
is_met s term here other = in_sense term.sense (is_true s term.test here other)

-- whether a term is met, with its joint
abbrev pub value_of : FileSystem → Fact → Fact → Joined → Value
value_of s here other one = record { joint = one.joint; is_met = is_met s one.term here other }

-- a value joined to that of all before it
abbrev pub joined_value : Joint → Bool → Bool → Bool
joined_value And so_far next = so_far && next
joined_value Or so_far next = so_far || next

-- the fold of values from left to right
abbrev pub folded_values : Bool → List Value → Bool
folded_values so_far [] = so_far
folded_values so_far (value ∷ values) = folded_values (joined_value value.joint so_far value.is_met) values

-- the condition holds; without terms it does
abbrev pub holds_in : FileSystem → List Joined → Fact → Fact → Bool
holds_in s terms here other = folded_values true (map (value_of s here other) terms)

-- a fact of each test of a condition
abbrev pub EachTest : (Test → Type 0) → List Joined → Type 0
EachTest P terms = AllByRecursion (λ one. P one.term.test) terms
