-- What a key came to while things are sought, over the screen.
use Rattle.std.proofs.Common.{◌≡◌, ◌≢◌, List, [], ◌∷◌, refl, sym, ◌∙◌, ap, subst, Option, Result, Ok, Err}
use Rattle.std.specs.Prelude.{IfOk, OnErr}
use Rattle.mc_text.specs.declared.error.NoMemory.{NoMemory}
use Rattle.mc_text.specs.Routes.{Route}
use Rattle.tree_trait.specs.Change.{CallLog}
use Rattle.tree_trait.specs.Answers.{IfKnown}
use Rattle.resolving.specs.declared.error.ResolveError.{ResolveError}
use Rattle.resolving.specs.declared.error.ResolveError.TheVariants as resolve
use Rattle.key_screen.specs.declared.keys.Key.{Key}
use Rattle.session_entries.specs.declared.refusal.Refusal.{Refusal}
use Rattle.session_entries.specs.declared.refusal.Refusal.TheVariants.{Resolve}
use Rattle.panel_pair.specs.declared.command.PanelCommand.TheVariants.{GoTo}
use Rattle.panel_pair.specs.Commands.{CommandReads}
use Rattle.panel_pair.specs.Pairs.{PairState}
use Rattle.ui_find.specs.declared.act.FindAct.{FindAct}
use Rattle.ui_find.specs.declared.act.FindAct.TheVariants.{Stays, Refused, Goes, Leaves}
use Rattle.ui_find.specs.declared.act.FindRefusal.{FindRefusal}
use Rattle.ui_find.specs.FindScreens.{FindScreen, KeyLeads}
use Rattle.mc_ui.specs.declared.asks.Ask.TheVariants.{Nothing}
use Rattle.mc_ui.specs.declared.asks.KeyAct.{KeyAct}
use Rattle.mc_ui.specs.Boxes.{FindBox}
use Rattle.mc_ui.specs.Findings.{find_refusal}
use Rattle.mc_ui.specs.Screens.{FindFollows, FindLeads, GoesToFound, Screen, told_refusal}

-- a screen on which things are sought
abbrev pub shown : FindScreen → Screen → Screen
shown find before = record before { over = FindBox find }

-- so it is with panels that stayed as they were
pub listed_is : (panels : PairState) (find : FindScreen) (before now : Screen) → panels ≡ before.panels → before ≡ now
    → (let listed : Screen = record before { panels = panels; over = FindBox find } in listed) ≡ shown find now
listed_is panels find before now is same =
    ap (λ (p : PairState). let listed : Screen = record before { panels = p; over = FindBox find } in listed) is ∙ ap (λ screen. shown find screen) same

-- a key that was refused this
abbrev pub told_act : Refusal → KeyAct
told_act refusal = record { ask = Nothing; refusals = refusal ∷ [] }

-- without memory two screens that are one stay
pub lost_on : (told : Result KeyAct NoMemory) (after kept same : Screen) → kept ≡ same → OnErr told (after ≡ kept) → OnErr told (after ≡ same)
lost_on (Ok act) after kept same is lost = tt
lost_on (Err e) after kept same is lost = lost ∙ is

-- going to a found path is refused: the list stays
pub refused_goes : (path : Route) (find : FindScreen) (contents : Option CallLog) (error : ResolveError) (before listed after : Screen) (told : Result KeyAct NoMemory)
    → listed ≡ shown find before → IfKnown contents (λ log. CommandReads (GoTo path) log before.panels.current (Err error)) → error ≢ resolve.Memory
    → IfOk told (λ act. after ≡ told_refusal (Resolve error) listed) → IfOk told (λ act. act ≡ told_act (Resolve error))
    → IfOk told (λ act. GoesToFound path find contents act.refusals before after)
refused_goes path find contents error before listed after (Err e) is why other after_is act_is = tt
refused_goes path find contents error before listed after (Ok act) is why other after_is act_is =
    subst (λ (act : KeyAct). GoesToFound path find contents act.refusals before after) (sym act_is)
    (record { error = error; why = why; memory = other; told = refl; stays = after_is ∙ ap (λ screen. told_refusal (Resolve error) screen) is })

module _ (find sought : FindScreen) (contents : Option CallLog) (key : Key) (act : FindAct) (leads : KeyLeads contents key act find sought) where
  -- it is sought on
  pub stays_leads : (refusals : List Refusal) (before after : Screen) → act ≡ Stays → refusals ≡ [] → after ≡ shown sought before
      → FindLeads find contents key refusals before after
  stays_leads refusals before after is none same = record {
    act = act;
    sought = sought;
    leads = leads;
    follows = subst (λ (a : FindAct). FindFollows a sought contents refusals before after) (sym is) (none, same);
  }

  -- it is left
  pub leaves_leads : (refusals : List Refusal) (before after : Screen) → act ≡ Leaves → refusals ≡ [] → after ≡ before
      → FindLeads find contents key refusals before after
  leaves_leads refusals before after is none same = record {
    act = act;
    sought = sought;
    leads = leads;
    follows = subst (λ (a : FindAct). FindFollows a sought contents refusals before after) (sym is) (none, same);
  }

  -- what was typed is refused
  pub refused_leads : (why : FindRefusal) (refusal : Refusal) (before asked after : Screen) (told : Result KeyAct NoMemory) → act ≡ Refused why
      → refusal ≡ find_refusal why → asked ≡ shown sought before
      → IfOk told (λ deed. after ≡ told_refusal refusal asked) → IfOk told (λ deed. deed ≡ told_act refusal)
      → IfOk told (λ deed. FindLeads find contents key deed.refusals before after)
  refused_leads why refusal before asked after (Err e) is refusal_is same after_is deed_is = tt
  refused_leads why refusal before asked after (Ok deed) is refusal_is same after_is deed_is = record {
    act = act;
    sought = sought;
    leads = leads;
    follows = subst (λ (a : FindAct). FindFollows a sought contents deed.refusals before after) (sym is) (
      ap (λ (d : KeyAct). d.refusals) deed_is ∙ ap (λ r. r ∷ []) refusal_is,
      after_is ∙ (ap (λ screen. told_refusal refusal screen) same ∙ ap (λ r. told_refusal r (shown sought before)) refusal_is),
    );
  }

  -- a found path is gone to, or that is refused
  pub goes_leads : (path : Route) (between : Option CallLog) (before after : Screen) (told : Result KeyAct NoMemory) → act ≡ Goes path → between ≡ contents
      → IfOk told (λ deed. GoesToFound path sought between deed.refusals before after) → IfOk told (λ deed. FindLeads find contents key deed.refusals before after)
  goes_leads path between before after (Err e) is same goes = tt
  goes_leads path between before after (Ok deed) is same goes = record {
    act = act;
    sought = sought;
    leads = leads;
    follows = subst (λ (a : FindAct). FindFollows a sought contents deed.refusals before after) (sym is)
        (subst (λ c. GoesToFound path sought c deed.refusals before after) same goes);
  }
