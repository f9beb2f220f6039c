-- What a key makes of the user's menu: a command is handed out at most once, and none where a prompt was
-- cancelled (mc(1), "Menu File Edit"). Own.
use Rattle.std.specs.Prelude.{◌≡◌, ℕ, List, [], unwrap_or, slice_get}
use Rattle.std.specs.List.{flat_map}
use Rattle.key_screen.specs.declared.keys.Key.{Key}
use Rattle.mc_dialogs.specs.declared.shut.Shut.{Shut}
use Rattle.mc_dialogs.specs.declared.shut.Shut.TheVariants.{Stay, Closed}
use Rattle.mc_dialogs.specs.declared.shut.Reply.TheVariants.{Chosen}
use Rattle.mc_dialogs.specs.ListKeys.{ListState, list_after, list_shut}
use Rattle.percent_macros.specs.declared.context.Context.{Context}
use Rattle.user_menu.specs.declared.menu.Shown.{Shown}
use Rattle.user_menu.specs.Menus.{MenuEntry}
use Rattle.ui_menu.specs.declared.act.Beginning.{Beginning}
use Rattle.ui_menu.specs.declared.act.Beginning.TheVariants as begun
use Rattle.ui_menu.specs.declared.act.MenuAct.{MenuAct}
use Rattle.ui_menu.specs.declared.act.MenuAct.TheVariants.{Stays, Runs, Refused, Leaves}
use Rattle.ui_menu.specs.declared.act.PromptAct.{PromptAct}
use Rattle.ui_menu.specs.declared.act.PromptAct.TheVariants as prompt
use Rattle.ui_menu.specs.declared.stage.Stage.{Stage}
use Rattle.ui_menu.specs.declared.stage.Stage.TheVariants.{Choosing, Prompting, Ended}
use Rattle.ui_menu.specs.Beginnings.{IsBegun}
use Rattle.ui_menu.specs.MenuRows.{command_at, default_row, list_at, title_at}
use Rattle.ui_menu.specs.MenuStates.{MenuScreen}
use Rattle.ui_menu.specs.Prompting.{prompt_act, prompts_after}
use Rattle.ui_menu.specs.PromptStates.{PromptsState}

-- OPENING

-- a box of titles, with the command of each
abbrev pub new_menu : ListState → List (List ℕ) → MenuScreen
new_menu list commands = record { list = list; commands = commands; stage = Choosing }

-- a menu of which these entries are shown, on a screen of so many lines; the default is current
abbrev pub opened_menu : ℕ → List MenuEntry → Shown → MenuScreen
opened_menu lines menu shown =
    new_menu
    (list_at (default_row shown.default shown.entries) (flat_map (title_at menu) shown.entries) lines)
    (flat_map (command_at menu) shown.entries)

-- THE LIST

abbrev pub with_stage : Stage → MenuScreen → MenuScreen
with_stage stage m = record { list = m.list; commands = m.commands; stage = stage }

abbrev pub with_list : ListState → MenuScreen → MenuScreen
with_list list m = record { list = list; commands = m.commands; stage = m.stage }

-- the command of a row
abbrev pub command_of_row : ℕ → List (List ℕ) → List ℕ
command_of_row row commands = unwrap_or (slice_get commands row) []

-- what the chosen command came to is handed out, or asked, or refused, and then the list stays
abbrev pub begun_act : Beginning → MenuAct
begun_act (begun.Runs command) = Runs command
begun_act (begun.Asks prompts) = Stays
begun_act (begun.Refused why) = Refused why

abbrev pub begun_stage : Beginning → Stage
begun_stage (begun.Runs command) = Ended
begun_stage (begun.Asks prompts) = Prompting prompts
begun_stage (begun.Refused why) = Choosing

-- an entry with this command is chosen between these panels
pub record IsChosen (context : Context) (command : List ℕ) (act : MenuAct) (before after : MenuScreen)
    : Type 0 where
  pub begun_so : Beginning
  pub is_begun : IsBegun context command begun_so
  pub act_is : act ≡ begun_act begun_so
  pub after_is : after ≡ with_stage (begun_stage begun_so) before

-- what the answer of the box leads to
abbrev pub ShutLeads : Shut → Context → Key → MenuAct → MenuScreen → MenuScreen → Type 0
ShutLeads Stay context key act before after =
    (act ≡ Stays) × (after ≡ with_list (list_after before.list key) before)
ShutLeads (Closed (Chosen row)) context key act before after =
    IsChosen context (command_of_row row before.commands) act before after
ShutLeads (Closed other) context key act before after = (act ≡ Leaves) × (after ≡ with_stage Ended before)

-- a key while an entry is to be chosen
abbrev pub ListLeads : Context → Key → MenuAct → MenuScreen → MenuScreen → Type 0
ListLeads context key act before after = ShutLeads (list_shut before.list key) context key act before after

-- THE PROMPTS

-- once all is answered the command is handed out; where a prompt was cancelled nothing is
abbrev pub prompted_act : PromptAct → MenuAct
prompted_act prompt.Stays = Stays
prompted_act (prompt.Runs command) = Runs command
prompted_act prompt.Cancels = Leaves

abbrev pub prompted_stage : PromptAct → PromptsState → Stage
prompted_stage prompt.Stays prompts = Prompting prompts
prompted_stage (prompt.Runs command) prompts = Ended
prompted_stage prompt.Cancels prompts = Ended

-- KEYS

-- what a key leads to; once a command was handed out or dropped, to nothing more
abbrev pub StageLeads : Stage → Context → Key → MenuAct → MenuScreen → MenuScreen → Type 0
StageLeads Choosing context key act before after = ListLeads context key act before after
StageLeads (Prompting prompts) context key act before after =
    (act ≡ prompted_act (prompt_act prompts key))
    × (after ≡ with_stage (prompted_stage (prompt_act prompts key) (prompts_after prompts key)) before)
StageLeads Ended context key act before after = (act ≡ Leaves) × (after ≡ before)

abbrev pub KeyLeads : Context → Key → MenuAct → MenuScreen → MenuScreen → Type 0
KeyLeads context key act before after = StageLeads before.stage context key act before after
