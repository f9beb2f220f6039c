-- Steps of a search, one behind the other.
use Rattle.std.proofs.Common.{◌≡◌, ◌⊎◌, ℕ, ◌+◌, ◌≤◌, ◌<◌, Bool, true, false, refl, sym, ◌∙◌, ap, subst, inl, inr, Option, arith}
use Rattle.std.specs.Prelude.{zero, suc}
use Rattle.std.proofs.lemmas.Bool.{false≢true}
use Rattle.tree_trait.specs.Change.{CallLog}
use Rattle.ui_find.specs.Listings.{IsKept}
use Rattle.mc_ui.specs.Screens.{Screen}
use Rattle.mc_ui.specs.Seekings.{SeekLeads, is_seeking, list_in, with_list}
use Rattle.mc_desk.specs.Searches.{ListsNothing, Seeks, SeeksOn, steps_ahead}

suc_is : (n : ℕ) → suc n ≡ n + 1
suc_is n = omega arith

-- one step more, as the screen makes it
pub one_step_more : (may_lack : Bool) (steps : ℕ) (contents now : Option CallLog) → now ≡ contents → (faults count faults_after : ℕ) (before screen after : Screen) → SeeksOn false steps contents faults count before screen → is_seeking screen ≡ true
    → SeekLeads now count faults_after screen.over after.over ⊎ ((may_lack ≡ true) × ListsNothing screen after) → IsKept now count faults_after (list_in screen.over) (list_in after.over) → after ≡ with_list (list_in after.over) screen → count ≤ faults_after
    → SeeksOn may_lack (steps + 1) contents faults faults_after before after
one_step_more may_lack steps contents now same faults count faults_after before screen after made seeking told kept rest later =
    subst (λ n. SeeksOn may_lack n contents faults faults_after before after) (suc_is steps)
    (screen, count, made, subst (λ c. Seeks may_lack c count faults_after screen after) same step)
  where
    step : Seeks may_lack now count faults_after screen after
    step = record { seeking = seeking; told = told; kept = kept; rest = rest; later = later }

-- steps in none of which memory ran out are steps in the last of which it may have
pub may_have_lacked : (steps : ℕ) (contents : Option CallLog) (faults faults_after : ℕ) (before after : Screen) → SeeksOn false steps contents faults faults_after before after → SeeksOn true steps contents faults faults_after before after
may_have_lacked zero contents faults faults_after before after made = made
may_have_lacked (suc steps) contents faults faults_after before after (screen, count, made, step) =
    (screen, count, made, record { seeking = step.seeking; told = elim step.told [ inl leads ↦ inl leads | inr lacks ↦ inr (refl, lacks.1) ]; kept = step.kept; rest = step.rest; later = step.later })

-- where a search has come to its end, steps were made
pub some_made : (steps : ℕ) (before screen : Screen) → (steps ≡ 0 → screen ≡ before) → is_seeking before ≡ true → is_seeking screen ≡ false → 1 ≤ steps
some_made zero before screen none seeking ended = absurd (false≢true (sym ended ∙ (ap is_seeking (none refl) ∙ seeking)))
some_made (suc steps) before screen none seeking ended = omega arith

-- some steps are not none
pub not_none : (n : ℕ) → n + 1 ≡ 0 → ⊥
not_none n h = absurd (let e : suc n ≡ 0 = suc_is n ∙ h in cc)

-- a step behind others, or the first one, leaves fewer than there were at first
pub left_fewer : (steps : ℕ) (before screen after : Screen) → (steps ≡ 0 → screen ≡ before) → (1 ≤ steps → steps_ahead screen < steps_ahead before) → steps_ahead after < steps_ahead screen → steps_ahead after < steps_ahead before
left_fewer zero before screen after none nearer falls = subst (λ s. steps_ahead after < steps_ahead s) (none refl) falls
left_fewer (suc steps) before screen after none nearer falls = let near = nearer (omega arith) in omega (arith, near, falls)
