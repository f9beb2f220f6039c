-- What a key tells of things that are sought, where it is refused or goes to a found path: they stay as they were, and what it was refused
-- has its cause in the tree.
use Rattle.std.proofs.Common.{◌≡◌, inr, ℕ, List, [], ◌∷◌, sym, subst, Option, Some, None}
use Rattle.std.specs.Prelude.{⊤}
use Rattle.mc_text.specs.Routes.{Route}
use Rattle.tree_trait.specs.Change.{CallLog}
use Rattle.tree_trait.specs.Answers.{IfKnown}
use Rattle.key_screen.specs.declared.keys.Key.{Key}
use Rattle.mc_dialogs.specs.InputKeys.{InputState, input_after, input_shut}
use Rattle.ui_words.specs.declared.replies.LineReply.{LineReply}
use Rattle.ui_words.specs.declared.replies.LineReply.TheVariants as line
use Rattle.ui_words.specs.BoxKeys.{line_reply}
use Rattle.resolving.specs.Homes.{with_home}
use Rattle.tagging.specs.Patterns.{PatternText}
use Rattle.session_entries.specs.Refusals.{AreRefused}
use Rattle.ui_find.specs.declared.act.FindAct.{FindAct}
use Rattle.ui_find.specs.declared.act.FindAct.TheVariants.{Stays, Refused, Goes, Leaves}
use Rattle.ui_find.specs.declared.act.FindRefusal.TheVariants.{NoWay, NoPattern}
use Rattle.ui_find.specs.declared.asking.Asked.{Asked}
use Rattle.ui_find.specs.declared.asking.Asked.TheVariants.{Start, Names, Content}
use Rattle.ui_find.specs.declared.asking.Asking.{Asking}
use Rattle.ui_find.specs.declared.command.FindCommand.{FindCommand}
use Rattle.ui_find.specs.declared.command.FindCommand.TheVariants as command
use Rattle.ui_find.specs.FindKeys.{find_command}
use Rattle.ui_find.specs.FindScreens.{AnswerLeads, ByAsking, CommandLeads, FindScreen, KeyLeads, LineLeads, NamesLead, StartLeads, choice}
use Rattle.tagging.specs.TypedPatterns.{pattern_in}
use Rattle.ui_find.specs.Listings.{chosen_path}
use Rattle.mc_ui.specs.Findings.{find_refusal}
use Rattle.mc_ui.proofs.NoWays.{leads_nowhere}

module _ (contents : Option CallLog) (before after : FindScreen) where
  -- what an act tells
  abbrev pub Tells : FindAct → Type 0
  Tells Stays = ⊤
  Tells Leaves = ⊤
  Tells (Goes path) = after ≡ before
  Tells (Refused why) = (after ≡ before) × IfKnown contents (λ log. AreRefused log (find_refusal why ∷ []))

  by_choice : (act : FindAct) (path : Option Route) → act ≡ choice path → after ≡ before → Tells act
  by_choice act None is same = subst Tells (sym is) tt
  by_choice act (Some path) is same = subst Tells (sym is) same

  by_command : (command : FindCommand) (act : FindAct) → CommandLeads command act before after → Tells act
  by_command (command.Move base) act h = subst Tells (sym h.0) tt
  by_command command.Choose act h = by_choice act (chosen_path before.listing) h.0 h.1
  by_command command.Stop act h = subst Tells (sym h.0) tt
  by_command command.Leave act h = subst Tells (sym h.0) tt
  by_command command.Nothing act h = subst Tells (sym h.0) tt

  by_start : (text : List ℕ) (act : FindAct) → StartLeads text contents act before after → Tells act
  by_start text Stays h = tt
  by_start text (Refused (NoWay why)) h = (
    h.0,
    λ log known.
        (inr (before.folder, (with_home before.home text, leads_nowhere log before.folder (with_home before.home text) why (h.2 log known))), tt),
  )
  by_start text (Refused NoPattern) h = absurd h
  by_start text (Goes path) h = absurd h
  by_start text Leaves h = tt

  by_names : (start : Route) (name : Option PatternText) (act : FindAct) → NamesLead start name act before after → Tells act
  by_names start None act h = subst Tells (sym h.0) (h.1, λ log known. (tt, tt))
  by_names start (Some name) act h = subst Tells (sym h.0) tt

  by_answer : (asked : Asked) (text : List ℕ) (act : FindAct) → AnswerLeads asked text contents act before after → Tells act
  by_answer Start text act h = by_start text act h
  by_answer (Names start) text act h = by_names start (pattern_in before.kind text) act h
  by_answer (Content start name) text act h = subst Tells (sym h.0) tt

  by_line : (reply : LineReply) (asked : Asked) (typed : InputState) (act : FindAct) → LineLeads reply asked typed contents act before after → Tells act
  by_line line.Stays asked typed act h = subst Tells (sym h.0) tt
  by_line line.Shuts asked typed act h = subst Tells (sym h.0) tt
  by_line (line.Takes text) asked typed act h = by_answer asked text act h

  by_asking : (asking : Option Asking) (key : Key) (act : FindAct) → ByAsking asking contents key act before after → Tells act
  by_asking None key act h = by_command (find_command key) act h
  by_asking (Some asking) key act h = by_line (line_reply (input_shut asking.line key)) asking.asked (input_after asking.line key) act h

  pub key_tells : (key : Key) (act : FindAct) → KeyLeads contents key act before after → Tells act
  key_tells key act h = by_asking before.asking key act h
