-- Expansions of texts that follow each other.
use Rattle.std.proofs.Common.{◌≡◌, ℕ, Bool, true, false, ◌||◌, List, [], ◌∷◌, ◌++◌, Some, refl, ap, ◌∙◌, sym, append_assoc}
use Rattle.std.specs.List.{AllByRecursion, flat_map}
use Rattle.std.proofs.lemmas.List.{append-nil}
use Rattle.std.proofs.lemmas.List.Concat.{flat_map-append}
use Rattle.text_scan.specs.Lines.{IsWithout}
use Rattle.percent_macros.specs.declared.context.Context.{Context}
use Rattle.percent_macros.specs.declared.macros.Macro.{Macro}
use Rattle.percent_macros.specs.declared.pieces.Expanded.{Expanded}
use Rattle.percent_macros.specs.MacroTable.{macro_named}
use Rattle.percent_macros.specs.Commands.{CommandPart}
use Rattle.percent_macros.specs.Expansion.{Written, Byte, Named, Question, spelling, IsWritten, typed_expansion, joined_expansions, meaning, prompt_expansion, expanded_part, expanded_parts, Expands}

or_assoc : (a b c : Bool) → ((a || b) || c) ≡ (a || (b || c))
or_assoc true b c = refl
or_assoc false b c = refl

or_none : (a : Bool) → (a || false) ≡ a
or_none true = refl
or_none false = refl

abbrev expansion_of : List CommandPart → Bool → Bool → Expanded
expansion_of parts here other = record { pieces = parts; untag_here = here; untag_other = other }

same_expansion : {p q : List CommandPart} {a b c d : Bool} → p ≡ q → a ≡ b → c ≡ d
    → expansion_of p a c ≡ expansion_of q b d
same_expansion p a c = λ i. expansion_of (p i) (a i) (c i)

pub followed-assoc : (first second third : Expanded) → joined_expansions (joined_expansions first second) third ≡ joined_expansions first (joined_expansions second third)
followed-assoc first second third =
    same_expansion (append_assoc first.pieces second.pieces third.pieces)
    (or_assoc first.untag_here second.untag_here third.untag_here) (or_assoc first.untag_other second.untag_other third.untag_other)

pub followed-nothing : (first : Expanded) → joined_expansions first (typed_expansion []) ≡ first
followed-nothing first = same_expansion (append-nil first.pieces) (or_none first.untag_here) (or_none first.untag_other)

expanded_parts-append : (context : Context) (first second : List Written)
    → expanded_parts context (first ++ second) ≡ joined_expansions (expanded_parts context first) (expanded_parts context second)
expanded_parts-append context [] second = refl
expanded_parts-append context (part ∷ first) second =
    ap (joined_expansions (expanded_part context part)) (expanded_parts-append context first second)
    ∙ sym (followed-assoc (expanded_part context part) (expanded_parts context first) (expanded_parts context second))

All-append : (first second : List Written) → AllByRecursion IsWritten first → AllByRecursion IsWritten second → AllByRecursion IsWritten (first ++ second)
All-append [] second a b = b
All-append (part ∷ first) second a b = (a.0, All-append first second a.1 b)

pub Expands-append : (context : Context) (first second : List ℕ) (one other : Expanded)
    → Expands context first one → Expands context second other → Expands context (first ++ second) (joined_expansions one other)
Expands-append context first second one other a b = record {
  parts = a.parts ++ b.parts;
  written = All-append a.parts b.parts a.written b.written;
  spelled = ap (λ text. text ++ second) a.spelled ∙ ap (λ text. flat_map spelling a.parts ++ text) b.spelled
      ∙ sym (flat_map-append spelling a.parts b.parts);
  meant = ap (λ e. joined_expansions e other) a.meant ∙ ap (joined_expansions (expanded_parts context a.parts)) b.meant
      ∙ sym (expanded_parts-append context a.parts b.parts);
}

pub Expands-nothing : (context : Context) → Expands context [] (typed_expansion [])
Expands-nothing context = record { parts = []; written = tt; spelled = refl; meant = refl }

pub Expands-typed : (context : Context) (text : List ℕ) → IsWithout 37 text → Expands context text (typed_expansion text)
Expands-typed context [] without = Expands-nothing context
Expands-typed context (byte ∷ text) without =
    let rest = Expands-typed context text without.1 in
    record {
      parts = Byte byte ∷ rest.parts;
      written = (without.0, rest.written);
      spelled = ap (λ more. byte ∷ more) rest.spelled;
      meant = ap (joined_expansions (typed_expansion (byte ∷ []))) rest.meant;
    }

pub Expands-macro : (context : Context) (letter : ℕ) (meant : Macro) → macro_named letter ≡ Some meant → Expands context (37 ∷ letter ∷ []) (meaning context meant)
Expands-macro context letter meant is = record {
  parts = Named letter meant ∷ [];
  written = (is, tt);
  spelled = refl;
  meant = sym (followed-nothing (meaning context meant));
}

pub Expands-prompt : (context : Context) (question : List ℕ) → IsWithout 125 question
    → Expands context (37 ∷ 123 ∷ (question ++ 125 ∷ [])) (prompt_expansion question)
Expands-prompt context question without = record {
  parts = Question question ∷ [];
  written = (without, tt);
  spelled = sym (append-nil (37 ∷ 123 ∷ (question ++ 125 ∷ [])));
  meant = refl;
}
