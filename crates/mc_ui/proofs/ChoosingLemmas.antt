-- What the key that opens a box on what is selected makes of the screen.
use Rattle.std.proofs.Common.{◌≡◌, List, [], ◌∷◌, ◌∙◌, sym, ap, subst, Option, Result, Ok, Err}
use Rattle.std.specs.Prelude.{IfOk}
use Rattle.mc_text.specs.declared.error.NoMemory.{NoMemory}
use Rattle.tree_trait.specs.FileSystem.{View}
use Rattle.session_entries.specs.declared.refusal.Refusal.{Refusal}
use Rattle.panel_state.specs.Panels.{PanelState}
use Rattle.ui_plans.specs.declared.choosing.Choice.{Choice}
use Rattle.ui_plans.specs.declared.choosing.Opens.{Opens}
use Rattle.ui_plans.specs.Choices.{IsChoice, choice_refusals}
use Rattle.mc_ui.specs.declared.asks.Ask.TheVariants.{Nothing}
use Rattle.mc_ui.specs.declared.asks.KeyAct.{KeyAct}
use Rattle.mc_ui.specs.Screens.{Chooses, Screen, after_choice, told_refusal}

module _ (box : Opens) (tree : Option View) (panel : PanelState) (before : Screen) (outcome choice : Choice) (same : panel ≡ before.panels.current)
    (chosen : IsChoice box tree panel outcome) (is : outcome ≡ choice) where
  abbrev pub Opened : List Refusal → Screen → Type 0
  Opened refusals after = Chooses box tree before.panels.current refusals before after

  pub opened_on : (refusals : List Refusal) (after : Screen) → refusals ≡ choice_refusals choice → after ≡ after_choice box choice before → Opened refusals after
  opened_on refusals after told after_is = record {
    outcome = choice;
    chosen = subst (λ (p : PanelState). IsChoice box tree p choice) same (subst (λ (o : Choice). IsChoice box tree panel o) is chosen);
    told = told;
    after_is = after_is;
  }

  -- or a message says why not
  pub refused_on : (refusal : Refusal) (after : Screen) (result : Result KeyAct NoMemory) → choice_refusals choice ≡ refusal ∷ []
      → after_choice box choice before ≡ told_refusal refusal before → IfOk result (λ _act. after ≡ told_refusal refusal before)
      → IfOk result (λ act. act ≡ record { ask = Nothing; refusals = refusal ∷ [] }) → IfOk result (λ act. Opened act.refusals after)
  refused_on refusal after (Err e) refusals message told act_is = tt
  refused_on refusal after (Ok act) refusals message told act_is =
      opened_on act.refusals after (ap (λ (a : KeyAct). a.refusals) act_is ∙ sym refusals) (told ∙ sym message)
