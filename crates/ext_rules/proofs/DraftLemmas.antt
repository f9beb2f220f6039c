-- The last rule is where the next actions go.
use Rattle.std.proofs.Common.{◌≡◌, ℕ, zero, suc, ◌+◌, ◌<◌, true, List, [], ◌∷◌, ◌++◌, length, get_or, refl, ap, ◌∙◌, sym, arith, append_assoc}
use Rattle.std.proofs.lemmas.List.{append-nil}
use Rattle.std.proofs.Math.ListN.{set, length-set}
use Rattle.ext_rules.specs.declared.actions.Action.{Action}
use Rattle.ext_rules.specs.FileRules.{FileRule}
use Rattle.ext_rules.specs.Drafts.{has_rule, extended_rules}

abbrev pub with_actions : FileRule → List Action → FileRule
with_actions rule more = record { condition = rule.condition; actions = rule.actions ++ more }

extended-cons : (rule : FileRule) (rules : List FileRule) (more : List Action) → 0 < length rules
    → extended_rules (rule ∷ rules) more ≡ rule ∷ extended_rules rules more
extended-cons rule [] more some = absurd (omega arith)
extended-cons rule (next ∷ rules) more some = refl

-- an action that is put at the end of the last rule
pub extended-put : (rules : List FileRule) (last : ℕ) (rule : FileRule) (action : Action) (more : List Action)
    → length rules ≡ last + 1 → get_or rules last rule ≡ rule
    → extended_rules (set rules last (with_actions rule (action ∷ []))) more ≡ extended_rules rules (action ∷ more)
extended-put [] last rule action more len is = absurd (omega arith)
extended-put (first ∷ []) zero rule action more len is =
    ap (λ all. record { condition = rule.condition; actions = all } ∷ []) (append_assoc rule.actions (action ∷ []) more)
    ∙ ap (λ one. with_actions one (action ∷ more) ∷ []) (sym is)
extended-put (first ∷ []) (suc last) rule action more len is = absurd (omega arith)
extended-put (first ∷ next ∷ rules) zero rule action more len is = absurd (omega arith)
extended-put (first ∷ next ∷ rules) (suc last) rule action more len is =
    extended-cons first (set (next ∷ rules) last (with_actions rule (action ∷ []))) more (simp length-set (omega arith))
    ∙ ap (λ others. first ∷ others) (extended-put (next ∷ rules) last rule action more (omega arith) is)

-- no more actions
pub extended-nothing : (rules : List FileRule) → extended_rules rules [] ≡ rules
extended-nothing [] = refl
extended-nothing (rule ∷ []) = ap (λ all. record { condition = rule.condition; actions = all } ∷ []) (append-nil rule.actions)
extended-nothing (rule ∷ next ∷ rules) = ap (λ others. rule ∷ others) (extended-nothing (next ∷ rules))

-- a rule more at the end
pub extended-push : (rules : List FileRule) (rule : FileRule) (more : List Action)
    → extended_rules (rules ++ rule ∷ []) more ≡ rules ++ with_actions rule more ∷ []
extended-push [] rule more = refl
extended-push (first ∷ []) rule more = refl
extended-push (first ∷ next ∷ rules) rule more = ap (λ others. first ∷ others) (extended-push (next ∷ rules) rule more)

pub has_rule-push : (rules : List FileRule) (rule : FileRule) → has_rule (rules ++ rule ∷ []) ≡ true
has_rule-push [] rule = refl
has_rule-push (first ∷ rules) rule = refl
