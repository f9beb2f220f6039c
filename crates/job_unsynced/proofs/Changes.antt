-- A list that was readied for a step, and followed it, has what the step left dirty.
use Rattle.std.proofs.Common.{◌≡◌, Bool, true, false, List, refl, sym, ◌∙◌, ap, subst}
use Rattle.std.proofs.lemmas.Bool.{true≢false, false≢true}
use Rattle.mc_text.specs.Routes.{Route}
use Rattle.job_reports.specs.Paths.{without}
use Rattle.job_unsynced.specs.declared.changing.Readied.{Readied}
use Rattle.job_unsynced.specs.Changes.{IsReadied, back, dirty_after_step}
use Rattle.job_unsynced.specs.Folders.{joined_folders, with_change}

-- where the step may make the change
first_followed : (now joined_now was_dirty : Bool) (changed : Route) (before after : List Route)
    → after ≡ joined_folders changed before → back joined_now after ≡ before → was_dirty ≡ false
    → dirty_after_step (record { joined = joined_now; was_dirty = was_dirty }) now changed after ≡ with_change false now changed before
first_followed now joined_now true changed before after is back_is clean = absurd (true≢false clean)
first_followed true true false changed before after is back_is clean = is
first_followed true false false changed before after is back_is clean = is
first_followed false true false changed before after is back_is clean = back_is
first_followed false false false changed before after is back_is clean = back_is

-- where it was made before
later_followed : (was now joined_now was_dirty : Bool) (changed : Route) (before after : List Route)
    → after ≡ before → joined_now ≡ false → was_dirty ≡ was → (was ≡ false → now ≡ false)
    → dirty_after_step (record { joined = joined_now; was_dirty = was_dirty }) now changed after ≡ with_change was now changed before
later_followed was now true was_dirty changed before after is none same stays = absurd (true≢false none)
later_followed true true false true changed before after is none same stays = is
later_followed true false false true changed before after is none same stays = ap (without changed) is
later_followed true now false false changed before after is none same stays = absurd (false≢true same)
later_followed false now false true changed before after is none same stays = absurd (true≢false same)
later_followed false true false false changed before after is none same stays = absurd (true≢false (stays refl))
later_followed false false false false changed before after is none same stays = is

-- the list changes as what is dirty does
follows : (fresh was now : Bool) (changed : Route) (before after last : List Route) (readied : Readied)
    → IsReadied fresh was changed before after readied → (fresh ≡ true → was ≡ false) → (fresh ≡ false → was ≡ false → now ≡ false)
    → last ≡ dirty_after_step readied now changed after → last ≡ with_change was now changed before
follows true was now changed before after last readied ready clean stays is =
    let at = ready.first refl in
    is ∙ (first_followed now readied.joined readied.was_dirty changed before after at.0 at.1 at.2
    ∙ ap (λ b. with_change b now changed before) (sym (clean refl)))
follows false was now changed before after last readied ready clean stays is =
    let at = ready.later refl in
    is ∙ later_followed was now readied.joined readied.was_dirty changed before after at.0 at.1 at.2 (stays refl)

-- as a caller has it, who names what is dirty before the step and after it
pub follows_step : (fresh was now : Bool) (changed : Route) (asked_fresh asked_was asked_now : Bool) (there here : Route) (before after last : List Route) (readied : Readied)
    → asked_fresh ≡ fresh → asked_was ≡ was → asked_now ≡ now → there ≡ changed → here ≡ changed
    → (fresh ≡ true → was ≡ false) → (fresh ≡ false → was ≡ false → now ≡ false)
    → IsReadied asked_fresh asked_was there before after readied → last ≡ dirty_after_step readied asked_now here after → last ≡ with_change was now changed before
follows_step fresh was now changed asked_fresh asked_was asked_now there here before after last readied fresh_is was_is now_is there_is here_is clean stays ready is =
    follows fresh was now changed before after last readied
    (subst (λ r. IsReadied fresh was r before after readied) there_is
    (subst (λ b. IsReadied fresh b there before after readied) was_is
    (subst (λ b. IsReadied b asked_was there before after readied) fresh_is ready)))
    clean stays
    (is ∙ (ap (λ b. dirty_after_step readied b here after) now_is ∙ ap (λ r. dirty_after_step readied now r after) here_is))

-- where it is as it was, the list is too
pub as_before : (b : Bool) (changed : Route) (before last : List Route) → last ≡ before → last ≡ with_change b b changed before
as_before true changed before last same = same
as_before false changed before last same = same
