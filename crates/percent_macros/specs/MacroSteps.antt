-- What one macro adds to a draft.
use Rattle.std.specs.Prelude.{◌≡◌, ℕ, List, ◌∷◌, ◌++◌}
use Rattle.percent_macros.specs.declared.context.Context.{Context}
use Rattle.percent_macros.specs.declared.draft.Draft.{Draft}
use Rattle.percent_macros.specs.declared.pieces.Expanded.{Expanded}
use Rattle.percent_macros.specs.Drafts.{draft_of}
use Rattle.percent_macros.specs.Expansion.{Expands, joined_expansions}

-- behind a percent stands one macro or prompt before the rest, and the draft has its expansion at the end
pub record ReadsMacro (context : Context) (behind rest : List ℕ) (old new : Draft) : Type 0 where
  pub text : List ℕ
  pub expanded : Expanded
  pub expands : Expands context text expanded
  pub cut : 37 ∷ behind ≡ text ++ rest
  pub added : draft_of new ≡ joined_expansions (draft_of old) expanded
