-- A command that is asked for: its macros are expanded, and its prompts, if it has any, are asked before it
-- is run (mc(1), "Macro Substitution").
use Rattle.std.specs.Prelude.{◌≡◌, ◌≢◌, ℕ, List, [], Option, Some, None, slice_get}
use Rattle.mc_text.specs.Routes.{Route}
use Rattle.percent_macros.specs.declared.context.Context.{Context}
use Rattle.percent_macros.specs.declared.error.MacroError.TheVariants as macro
use Rattle.percent_macros.specs.declared.pieces.Expanded.{Expanded}
use Rattle.percent_macros.specs.Expansion.{Expands, IsFirstFault}
use Rattle.ui_menu.specs.declared.act.Beginning.{Beginning}
use Rattle.ui_menu.specs.declared.act.Beginning.TheVariants.{Runs, Asks, Refused}
use Rattle.ui_menu.specs.Commands.{command_of}
use Rattle.ui_menu.specs.Prompting.{asking}
use Rattle.ui_menu.specs.Questions.{questions_in}

-- a command whose first question is this one, if it has any
abbrev pub begun_by : Option (List ℕ) → Expanded → Route → Beginning
begun_by None expanded folder = Runs (command_of expanded [] folder)
begun_by (Some question) expanded folder = Asks (asking expanded folder [] question)

abbrev pub begun_from : Expanded → Route → Beginning
begun_from expanded folder = begun_by (slice_get (questions_in expanded.pieces) 0) expanded folder

-- the text expands between these panels, and begins so in the folder of the one here
pub record IsFrom (context : Context) (text : List ℕ) (begun : Beginning) : Type 0 where
  pub expanded : Expanded
  pub expands : Expands context text expanded
  pub begun_is : begun ≡ begun_from expanded context.here.folder

-- what a command comes to that is asked for between these panels
abbrev pub IsBegun : Context → List ℕ → Beginning → Type 0
IsBegun context text (Refused why) = (why ≢ macro.Memory) × IsFirstFault text why
IsBegun context text (Runs command) = IsFrom context text (Runs command)
IsBegun context text (Asks prompts) = IsFrom context text (Asks prompts)
