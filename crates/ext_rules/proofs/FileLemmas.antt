-- A rule more, a line read as an action, and the faults of bytes that are or aren't text.
use Rattle.std.proofs.Common.{◌≡◌, ℕ, Bool, false, true, cond, ◌==◌, List, [], ◌∷◌, ◌++◌, length, Option, Some, None, is_some, option_map, Result, Ok, Err, IfOk, refl, ap, ◌∙◌, sym, append_assoc, codes}
use denote.Ref.{Bor}
use Rattle.std.specs.Option.{option_map_or}
use Rattle.std.specs.Str.{IsUtf8, is_utf8}
use Rattle.std.specs.Str.Lossy.{utf8_valid_len}
use Rattle.std.proofs.lemmas.Str.{is_utf8-from_IsUtf8, IsUtf8-from_is_utf8}
use Rattle.ext_rules.specs.declared.condition.Condition.{Condition}
use Rattle.ext_rules.specs.declared.error.ExtError.{ExtError}
use Rattle.ext_rules.specs.declared.error.ExtError.TheVariants.{NotText}
use Rattle.ext_rules.specs.declared.line.LineRead.{LineRead}
use Rattle.ext_rules.specs.declared.line.LineRead.TheVariants.{Passed, Rule}
use Rattle.text_scan.specs.Words.{behind_word, behind_indent, unindented_text}
use Rattle.ext_rules.specs.FileRules.{FileRule}
use Rattle.ext_rules.specs.ExtLines.{reading_of, action_line, rule_line}
use Rattle.ext_rules.specs.ExtFiles.{ext_fault, fault_from, readings, leading_actions, rules_said, IsExtFile}
use Rattle.ext_rules.specs.Drafts.{continued_rules}
use Rattle.ext_rules.proofs.DraftLemmas.{extended-push, extended-nothing}

-- a rule without actions, put behind the others
pub continued-rule : (rules : List FileRule) (condition : Condition) (lines : List LineRead)
    → continued_rules (rules ++ record { condition = condition; actions = [] } ∷ []) lines ≡ continued_rules rules (Rule condition ∷ lines)
continued-rule rules condition lines =
    let new : FileRule = record { condition = condition; actions = [] } in
    let said : FileRule = record { condition = condition; actions = leading_actions lines } in
    ap (λ all. all ++ rules_said lines) (extended-push rules new (leading_actions lines))
    ∙ append_assoc rules (said ∷ []) (rules_said lines)
    ∙ ap (λ all. all ++ said ∷ rules_said lines) (sym (extended-nothing rules))

-- a text that doesn't begin with a word
pub not_begun : (o : Option (Bor (List ℕ))) (found : Option (List ℕ)) → is_some o ≡ false
    → option_map (λ (rest : Bor (List ℕ)). rest.now) o ≡ found → found ≡ None
not_begun None found none is = sym is
not_begun (Some x) found none is = cc

pub reading_of-action : (line words : List ℕ) → (length line == 0) ≡ false → behind_word (codes "#") line ≡ None
    → behind_indent line ≡ Some words → reading_of line ≡ action_line (unindented_text words)
reading_of-action line words some comment indent =
    let indented : Option (List ℕ) → LineRead = λ found. option_map_or (λ behind. action_line (unindented_text behind)) found (rule_line line) in
    ap (λ test. cond test Passed (option_map_or (λ rest. Passed) (behind_word (codes "#") line) (indented (behind_indent line)))) some
    ∙ ap (λ found. option_map_or (λ rest. Passed) found (indented (behind_indent line))) comment
    ∙ ap indented indent

pub ext_fault-text : (bytes : List ℕ) → IsUtf8 bytes → ext_fault bytes ≡ fault_from 1 false (readings bytes)
ext_fault-text bytes text =
    ap (λ test. cond test (fault_from 1 false (readings bytes)) (Some (NotText (utf8_valid_len bytes)))) (is_utf8-from_IsUtf8 bytes text)

pub ext_fault-no_text : (bytes : List ℕ) → ¬ (IsUtf8 bytes) → ext_fault bytes ≡ Some (NotText (utf8_valid_len bytes))
ext_fault-no_text bytes none = go (is_utf8 bytes) refl
  where
    go : (test : Bool) → is_utf8 bytes ≡ test
        → cond test (fault_from 1 false (readings bytes)) (Some (NotText (utf8_valid_len bytes))) ≡ Some (NotText (utf8_valid_len bytes))
    go true is = absurd (none (IsUtf8-from_is_utf8 bytes is))
    go false is = refl

-- rules that were read are those of the file
pub read_is : (bytes text : List ℕ) (r : Result (List FileRule) ExtError) → text ≡ bytes → IsUtf8 bytes
    → IfOk r (λ rules. rules ≡ rules_said (readings text)) → IfOk r (λ _. fault_from 1 false (readings text) ≡ None)
    → IfOk r (λ rules. IsExtFile bytes rules)
read_is bytes text (Ok rules) same utf8 is faultless =
    record {
      faultless = ext_fault-text bytes utf8 ∙ ap (λ t. fault_from 1 false (readings t)) (sym same) ∙ faultless;
      rules_are = is ∙ ap (λ t. rules_said (readings t)) same;
    }
read_is bytes text (Err e) same utf8 is faultless = is
