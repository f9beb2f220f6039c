-- A command as it is written, and what it expands to (mc(1), "Macro Substitution"; the refusals are own). A
-- text is read by its spelling: bytes, a percent with a letter, and prompts. % is 37, { is 123, } is 125.
use Rattle.std.specs.Prelude.{◌≡◌, ℕ, false, ◌==◌, ◌||◌, List, [], ◌∷◌, ◌++◌, length, map, None, Some}
use Rattle.std.specs.List.{AllByRecursion, flat_map}
use Rattle.text_scan.specs.Lines.{IsWithout}
use Rattle.percent_macros.specs.declared.context.Context.{Context}
use Rattle.percent_macros.specs.declared.error.MacroError.{MacroError}
use Rattle.percent_macros.specs.declared.error.MacroError.TheVariants.{UnknownMacro, OpenBrace, Memory}
use Rattle.percent_macros.specs.declared.macros.Macro.{Macro}
use Rattle.percent_macros.specs.declared.pieces.Expanded.{Expanded}
use Rattle.percent_macros.specs.MacroTable.{macro_named, untags_here, untags_other}
use Rattle.percent_macros.specs.Inserted.{macro_text}
use Rattle.percent_macros.specs.Commands.{Typed, Asked}

-- what stands in a command: a byte, a macro of one letter, or a prompt
pub data Written : Type 0 where
  Byte : (byte : ℕ) → Written
  Named : (letter : ℕ) (meant : Macro) → Written
  Question : (question : List ℕ) → Written

abbrev pub spelling : Written → List ℕ
spelling (Byte byte) = byte ∷ []
spelling (Named letter meant) = 37 ∷ letter ∷ []
spelling (Question question) = 37 ∷ 123 ∷ (question ++ 125 ∷ [])

-- a byte is no percent, a letter has its macro, and a question ends at the first brace
abbrev pub IsWritten : Written → Type 0
IsWritten (Byte byte) = (byte == 37) ≡ false
IsWritten (Named letter meant) = macro_named letter ≡ Some meant
IsWritten (Question question) = IsWithout 125 question

-- text that stands in the command
abbrev pub typed_expansion : List ℕ → Expanded
typed_expansion text = record { pieces = map Typed text; untag_here = false; untag_other = false }

-- one expansion, and then another
abbrev pub joined_expansions : Expanded → Expanded → Expanded
joined_expansions first second = record {
  pieces = first.pieces ++ second.pieces;
  untag_here = first.untag_here || second.untag_here;
  untag_other = first.untag_other || second.untag_other;
}

-- what a macro stands for
abbrev pub meaning : Context → Macro → Expanded
meaning context meant = record {
  pieces = map Typed (macro_text context meant);
  untag_here = untags_here meant;
  untag_other = untags_other meant;
}

-- a prompt
abbrev pub prompt_expansion : List ℕ → Expanded
prompt_expansion question = record { pieces = Asked question ∷ []; untag_here = false; untag_other = false }

-- what each part expands to
abbrev pub expanded_part : Context → Written → Expanded
expanded_part context (Byte byte) = typed_expansion (byte ∷ [])
expanded_part context (Named letter meant) = meaning context meant
expanded_part context (Question question) = prompt_expansion question

abbrev pub expanded_parts : Context → List Written → Expanded
expanded_parts context [] = typed_expansion []
expanded_parts context (part ∷ parts) =
    joined_expansions (expanded_part context part) (expanded_parts context parts)

-- the text is written as parts that expand so
pub record Expands (context : Context) (text : List ℕ) (expanded : Expanded) : Type 0 where
  pub parts : List Written
  pub written : AllByRecursion IsWritten parts
  pub spelled : text ≡ flat_map spelling parts
  pub meant : expanded ≡ expanded_parts context parts

-- the text begins with neither a macro's letter nor a brace
abbrev pub BeginsNoMacro : List ℕ → Type 0
BeginsNoMacro [] = Unit {0}
BeginsNoMacro (byte ∷ rest) = (macro_named byte ≡ None) × ((byte == 123) ≡ false)

-- what stands behind a percent at this position begins neither a macro nor a prompt
abbrev pub IsFaultAt : ℕ → List ℕ → MacroError → Type 0
IsFaultAt at rest (UnknownMacro place) = (place ≡ at) × BeginsNoMacro rest
IsFaultAt at rest (OpenBrace place) =
    (place ≡ at) × (question : List ℕ) × (rest ≡ 123 ∷ question) × IsWithout 125 question
IsFaultAt at rest Memory = ⊥

-- behind a front that is well written, a percent begins nothing
pub record IsFirstFault (text : List ℕ) (fault : MacroError) : Type 0 where
  pub parts : List Written
  pub rest : List ℕ
  pub written : AllByRecursion IsWritten parts
  pub spelled : text ≡ flat_map spelling parts ++ 37 ∷ rest
  pub fault_is : IsFaultAt (length (flat_map spelling parts)) rest fault
