-- An extension file's rules and its first fault (mc(1), "Extension File Edit"; the refusals are own).
use Rattle.std.specs.Prelude.{◌≡◌, ℕ, ◌+◌, Bool, true, false, if◌then◌else◌}
use Rattle.std.specs.Prelude.{List, [], ◌∷◌, map, Option, Some, None}
use Rattle.std.specs.Str.{is_utf8}
use Rattle.std.specs.Str.Lossy.{utf8_valid_len}
use Rattle.text_scan.specs.Lines.{lines_of}
use Rattle.ext_rules.specs.declared.actions.Action as one
use Rattle.ext_rules.specs.declared.error.ExtError.{ExtError}
use Rattle.ext_rules.specs.declared.error.ExtError.TheVariants as fault
use Rattle.ext_rules.specs.declared.line.LineRead.{LineRead}
use Rattle.ext_rules.specs.declared.line.LineRead.TheVariants.{Passed, Rule, Action}
use Rattle.ext_rules.specs.declared.line.LineRead.TheVariants.{Ignored, Unknown, BadPattern}
use Rattle.ext_rules.specs.ExtLines.{reading_of}
use Rattle.ext_rules.specs.FileRules.{FileRule}

-- what the lines of a text say
abbrev pub readings : List ℕ → List LineRead
readings text = map reading_of (lines_of text)

-- the actions that stand before the next rule
abbrev pub leading_actions : List LineRead → List one.Action
leading_actions [] = []
leading_actions (Passed ∷ lines) = leading_actions lines
leading_actions (Rule condition ∷ lines) = []
leading_actions (Action action ∷ lines) = action ∷ leading_actions lines
leading_actions (Ignored ∷ lines) = leading_actions lines
leading_actions (Unknown ∷ lines) = leading_actions lines
leading_actions (BadPattern ∷ lines) = leading_actions lines

-- each rule with the actions that stand before the next one
abbrev pub rules_said : List LineRead → List FileRule
rules_said [] = []
rules_said (Passed ∷ lines) = rules_said lines
rules_said (Rule condition ∷ lines) =
    record { condition = condition; actions = leading_actions lines } ∷ rules_said lines
rules_said (Action action ∷ lines) = rules_said lines
rules_said (Ignored ∷ lines) = rules_said lines
rules_said (Unknown ∷ lines) = rules_said lines
rules_said (BadPattern ∷ lines) = rules_said lines

-- the first fault of lines that are counted from `at`; an action, ignored or not, stands behind some rule
abbrev pub fault_from : ℕ → (after_rule : Bool) → List LineRead → Option ExtError
fault_from at after_rule [] = None
fault_from at after_rule (Passed ∷ lines) = fault_from (at + 1) after_rule lines
fault_from at after_rule (Rule condition ∷ lines) = fault_from (at + 1) true lines
fault_from at after_rule (Action action ∷ lines) =
    if after_rule then fault_from (at + 1) true lines else Some (fault.ActionBeforeRule at)
fault_from at after_rule (Ignored ∷ lines) =
    if after_rule then fault_from (at + 1) true lines else Some (fault.ActionBeforeRule at)
fault_from at after_rule (Unknown ∷ lines) = Some (fault.UnknownRule at)
fault_from at after_rule (BadPattern ∷ lines) = Some (fault.BadPattern at)

-- the first fault of a file: bytes that are no text, or else a line
abbrev pub ext_fault : List ℕ → Option ExtError
ext_fault bytes =
    if is_utf8 bytes then fault_from 1 false (readings bytes) else Some (fault.NotText (utf8_valid_len bytes))

-- the bytes are a file of these rules
pub record IsExtFile (bytes : List ℕ) (rules : List FileRule) : Type 0 where
  pub faultless : ext_fault bytes ≡ None
  pub rules_are : rules ≡ rules_said (readings bytes)
