-- The prompts of a command, asked one after the other: each answer leads to the next question, and the last
-- one to the command (mc(1), "Macro Substitution", `%{some text}`).
use Rattle.std.specs.Prelude.{ℕ, ◌+◌, List, [], ◌∷◌, ◌++◌, length, Option, Some, None, slice_get}
use Rattle.key_screen.specs.declared.keys.Key.{Key}
use Rattle.mc_text.specs.Routes.{Route}
use Rattle.mc_dialogs.specs.InputKeys.{InputState, input_after, input_shut}
use Rattle.percent_macros.specs.declared.pieces.Expanded.{Expanded}
use Rattle.ui_words.specs.declared.replies.LineReply.{LineReply}
use Rattle.ui_words.specs.declared.replies.LineReply.TheVariants as line
use Rattle.ui_words.specs.BoxKeys.{line_reply}
use Rattle.ui_menu.specs.declared.act.PromptAct.{PromptAct}
use Rattle.ui_menu.specs.declared.act.PromptAct.TheVariants.{Stays, Runs, Cancels}
use Rattle.ui_menu.specs.Commands.{command_of}
use Rattle.ui_menu.specs.PromptStates.{PromptsState}
use Rattle.ui_menu.specs.Questions.{question_line, questions_in}

-- a question is asked, behind these answers
abbrev pub asking : Expanded → Route → List (List ℕ) → List ℕ → PromptsState
asking expanded folder answers question =
    record { expanded = expanded; folder = folder; answers = answers; line = question_line question }

-- the question behind the one that is asked
abbrev pub next_question : PromptsState → Option (List ℕ)
next_question p = slice_get (questions_in p.expanded.pieces) (length p.answers + 1)

-- what an answer leads to: the next question, or else the command
abbrev pub next_act : Option (List ℕ) → PromptsState → List ℕ → PromptAct
next_act None p answer = Runs (command_of p.expanded (p.answers ++ answer ∷ []) p.folder)
next_act (Some question) p answer = Stays

abbrev pub next_prompts : Option (List ℕ) → PromptsState → List ℕ → PromptsState
next_prompts None p answer = p
next_prompts (Some question) p answer = asking p.expanded p.folder (p.answers ++ answer ∷ []) question

-- what a line's reply leads to; where the line is shut the command is dropped
abbrev pub reply_act : LineReply → PromptsState → PromptAct
reply_act line.Stays p = Stays
reply_act line.Shuts p = Cancels
reply_act (line.Takes answer) p = next_act (next_question p) p answer

abbrev pub with_line : InputState → PromptsState → PromptsState
with_line typed p = record { expanded = p.expanded; folder = p.folder; answers = p.answers; line = typed }

abbrev pub reply_prompts : LineReply → InputState → PromptsState → PromptsState
reply_prompts line.Stays typed p = with_line typed p
reply_prompts line.Shuts typed p = with_line typed p
reply_prompts (line.Takes answer) typed p = next_prompts (next_question p) p answer

-- what a key leads to, and how it leaves the prompts
abbrev pub prompt_act : PromptsState → Key → PromptAct
prompt_act p key = reply_act (line_reply (input_shut p.line key)) p

abbrev pub prompts_after : PromptsState → Key → PromptsState
prompts_after p key = reply_prompts (line_reply (input_shut p.line key)) (input_after p.line key) p
