-- The last step of a copy, which finds nothing left and nothing owed.
use Rattle.std.proofs.Common.{◌≡◌, ℕ, not, refl, sym, ◌∙◌, ap, inl, inr, Bool, true, false, List, Option}
use Rattle.std.specs.Prelude.{if◌then◌else◌}
use Rattle.std.proofs.lemmas.Bool.{false≢true}
use Rattle.mc_text.specs.Routes.{Route}
use Rattle.tree_trait.specs.Change.{CallLog}
use Rattle.copy_folders.specs.FolderCopying.{is_dirty}
use Rattle.tree_walk.specs.Places.{is_empty}
use Rattle.job_answers.specs.declared.replies.Replies.{Replies}
use Rattle.copy_folders.specs.Levels.{is_around_dirty}
use Rattle.copy_tree.specs.declared.item.ItemAtWork.{ItemAtWork}
use Rattle.copy_tree.specs.declared.item.ItemAtWork.TheVariants.{Next, File, Link, Stays}
use Rattle.job_reports.specs.declared.report.Did.{Did}
use Rattle.copy_tree.specs.Parts.{IsPartPlace}
use Rattle.copy_tree.specs.Standing.{Seen}
use Rattle.copy_tree.specs.TreeCopySteps.{CopySteps, GoesOn, TakesNext, WorksOn}
use Rattle.copy_job.specs.Leaving.{is_done, is_done_in, may_leave, owes_at_end}
use Rattle.copy_job.specs.Marks.{brings_in, brings_made, is_left_dirty}
use Rattle.copy_job.proofs.Barred.{HasNext, next_at, why_next}
use Rattle.copy_job.proofs.Targets.{works_at_once}

-- it is as dirty as it was
abbrev StaysSo : Seen → Seen → Did → Type 0
StaysSo old new did = is_left_dirty did new ≡ is_dirty old.levels.inner.copy.names

done_parts : (none owes : Bool) → (if none then not owes else false) ≡ true → (none ≡ true) × (owes ≡ false)
done_parts true false h = (refl, refl)
done_parts true true h = absurd (false≢true h)
done_parts false owes h = absurd (false≢true h)

none_left : (old : Seen) → is_empty old.levels.inner.names.names ≡ true → HasNext old → ⊥
none_left old none h = false≢true (sym (ap (λ (xs : List (List ℕ)). is_empty xs) h.2) ∙ none)

takes_so : (unclaimed : Route → Type 0) (replies : Replies) (old new : Seen) (did : Did) (before after : Option CallLog) → TakesNext unclaimed replies old new did before after → is_empty old.levels.inner.names.names ≡ true
    → owes_at_end old.levels.inner.copy.stage (is_dirty old.levels.inner.copy.names) ≡ false → StaysSo old new did
takes_so unclaimed replies old new did before after (inl s) none owes = absurd (none_left old none (why_next unclaimed replies old s.trouble before s.why))
takes_so unclaimed replies old new did before after (inr (inl t)) none owes = absurd (none_left old none (next_at old.levels.inner.names.names old t.pair t.next))
takes_so unclaimed replies old new did before after (inr (inr (inl t))) none owes = absurd (none_left old none (next_at old.levels.inner.names.names old t.pair t.next))
takes_so unclaimed replies old new did before after (inr (inr (inr (inl t)))) none owes = absurd (none_left old none (next_at old.levels.inner.names.names old t.pair t.next))
takes_so unclaimed replies old new did before after (inr (inr (inr (inr (inl t))))) none owes = absurd (none_left old none (next_at old.levels.inner.names.names old t.pair t.next))
takes_so unclaimed replies old new did before after (inr (inr (inr (inr (inr (inl t)))))) none owes = absurd (none_left old none (next_at old.levels.inner.names.names old t.pair t.next))
takes_so unclaimed replies old new did before after (inr (inr (inr (inr (inr (inr (inl t))))))) none owes = absurd (none_left old none (next_at old.levels.inner.names.names old t.pair t.next))
takes_so unclaimed replies old new did before after (inr (inr (inr (inr (inr (inr (inr (next, inl (debt, e))))))))) none owes = absurd (false≢true (sym owes ∙ debt))
takes_so unclaimed replies old new did before after (inr (inr (inr (inr (inr (inr (inr (next, inr (debt, f, same))))))))) none owes = ap (λ d. is_left_dirty d new) f.says ∙ ap (λ (c : Seen). is_dirty c.levels.inner.copy.names) f.stands

goes_so : (unclaimed : Route → Type 0) (replies : Replies) (old new : Seen) (did : Did) (before after : Option CallLog) → GoesOn unclaimed replies old new did before after → is_around_dirty old.levels.around ≡ false
    → is_empty old.levels.inner.names.names ≡ true → owes_at_end old.levels.inner.copy.stage (is_dirty old.levels.inner.copy.names) ≡ false → StaysSo old new did
goes_so unclaimed replies old new did before after (inl s) clean none owes = absurd (false≢true (sym clean ∙ s.dirty))
goes_so unclaimed replies old new did before after (inr s) clean none owes = takes_so unclaimed replies old new did before after s.1 none owes

works_so : (unclaimed : Route → Type 0) (replies : Replies) (item : ItemAtWork) (old new : Seen) (did : Did) (before after : Option CallLog) → WorksOn item unclaimed replies old new did before after → brings_in item old.levels ≡ false
    → is_done_in item old.levels ≡ true → StaysSo old new did
works_so unclaimed replies Next old new did before after w clean done =
    let p = done_parts (is_empty old.levels.inner.names.names) (owes_at_end old.levels.inner.copy.stage (is_dirty old.levels.inner.copy.names)) done in
    goes_so unclaimed replies old new did before after w clean p.0 p.1
works_so unclaimed replies (File f) old new did before after w clean done = absurd (false≢true done)
works_so unclaimed replies (Link l) old new did before after w clean done = absurd (false≢true done)
works_so unclaimed replies (Stays part) old new did before after w clean done = absurd w

pub ended_so : (free : Route → Bool) (replies : Replies) (old new : Seen) (did : Did) (calls : ℕ) (before after : Option CallLog) (f0 f1 : ℕ) → CopySteps free replies old new did calls before after f0 f1 → may_leave old ≡ false
    → brings_made old ≡ false → is_done old ≡ true → is_left_dirty did new ≡ is_dirty old.levels.inner.copy.names
ended_so free replies old new did calls before after f0 f1 s settled clean done =
    works_so (IsPartPlace free old) replies old.item old new did before after (works_at_once free replies old new did calls before after f0 f1 s settled) clean done
