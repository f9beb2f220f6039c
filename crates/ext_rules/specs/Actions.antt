-- The action that a file's rules have for a thing (mc(1), "Extension File Edit").
use Rattle.std.specs.Prelude.{ℕ, Bool, true, false, List, [], ◌∷◌, Option}
use Rattle.std.specs.Prelude.{Some, None, if◌then◌else◌, option_and_then}
use Rattle.std.specs.Option.{option_or}
use Rattle.mc_text.specs.declared.kind.Kind.{Kind}
use Rattle.ext_rules.specs.declared.act.Act.{Act}
use Rattle.ext_rules.specs.declared.act.Act.TheVariants.{Launch, Show, Change}
use Rattle.ext_rules.specs.declared.actions.Action.{Action}
use Rattle.ext_rules.specs.declared.actions.Key.{Key}
use Rattle.ext_rules.specs.declared.actions.Key.TheVariants.{Open, View, Edit, Include}
use Rattle.ext_rules.specs.Conditions.{is_met, is_included}
use Rattle.ext_rules.specs.FileRules.{FileRule}

-- the key of an act
abbrev pub key_of : Act → Key
key_of Launch = Open
key_of Show = View
key_of Change = Edit

abbrev pub is_key : Key → Key → Bool
is_key Open Open = true
is_key View View = true
is_key Edit Edit = true
is_key Include Include = true
is_key key other = false

-- of several actions of one key the first holds
abbrev pub first_command : Key → List Action → Option (List ℕ)
first_command key [] = None
first_command key (action ∷ actions) =
    if is_key action.key key then Some action.command else first_command key actions

-- the first rule that is included by this name
abbrev pub included_rule : List ℕ → List FileRule → Option FileRule
included_rule name [] = None
included_rule name (rule ∷ rules) =
    if is_included name rule.condition then Some rule else included_rule name rules

-- a rule's command: its own, or else that of the rule that it includes, which includes no further
abbrev pub command_in : List FileRule → Key → FileRule → Option (List ℕ)
command_in rules key rule =
    option_or (first_command key rule.actions)
    (option_and_then (λ included. first_command key included.actions)
    (option_and_then (λ name. included_rule name rules) (first_command Include rule.actions)))

-- the command of the first of some of the rules that is met and has one
abbrev pub if_met : Option (List ℕ) → Bool → Option (List ℕ) → Option (List ℕ)
if_met None met others = others
if_met (Some command) true others = Some command
if_met (Some command) false others = others

abbrev pub first_met : List FileRule → Key → Kind → List ℕ → List FileRule → Option (List ℕ)
first_met rules key kind name [] = None
first_met rules key kind name (rule ∷ others) =
    if_met (command_in rules key rule) (is_met rule.condition kind name)
    (first_met rules key kind name others)

-- the action of the first rule that matches and has it
abbrev pub action_of : List FileRule → List ℕ → Kind → Act → Option (List ℕ)
action_of rules name kind act = first_met rules (key_of act) kind name rules
