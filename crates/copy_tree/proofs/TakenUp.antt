-- What a step does with what it takes up.
use Rattle.std.proofs.Common.{◌≡◌, ◌≤◌, ◌^◌, ℕ, length, refl, sym, ◌∙◌, subst, inl, inr, Bool, true, false, List, Option, Some, None}
use Rattle.std.specs.Prelude.{◌⊎◌}
use Rattle.mc_text.specs.Routes.{Route}
use Rattle.tree_trait.specs.Change.{CallLog, current}
use Rattle.tree_trait.specs.Answers.{IfKnown, IsAscending}
use Rattle.job_answers.specs.declared.replies.Replies.{Replies}
use Rattle.job_reports.specs.declared.job.Pair.{Pair}
use Rattle.job_reports.specs.declared.question.Question.{Question}
use Rattle.job_reports.specs.declared.report.Trouble.{Trouble}
use Rattle.job_reports.specs.declared.report.Did.TheVariants as common
use Rattle.job_reports.specs.Stops.{out_of_memory_at}
use Rattle.copy_file.specs.Copying as file
use Rattle.copy_file.specs.Looking.{HasRange}
use Rattle.copy_file.specs.PartNames.{IsChosen}
use Rattle.copy_file.specs.declared.stage.SourceFacts.{SourceFacts}
use Rattle.copy_folders.specs.Levels.{passed_levels}
use Rattle.copy_tree.specs.declared.copy.Stage.TheVariants.{Begin}
use Rattle.copy_tree.specs.declared.due.Due.TheVariants.{Thing}
use Rattle.copy_tree.specs.declared.looking.Taken.TheVariants as taken
use Rattle.copy_tree.specs.declared.item.ItemAtWork.{ItemAtWork}
use Rattle.copy_tree.specs.declared.item.ItemAtWork.TheVariants.{Next}
use Rattle.job_reports.specs.declared.report.Did.{Did}
use Rattle.job_reports.specs.declared.report.StepResult.{StepResult}
use Rattle.job_reports.specs.declared.report.Transfer.TheVariants.{ByCopy}
use Rattle.copy_tree.specs.Parts.{IsPartPlace}
use Rattle.copy_tree.specs.Standing.{Seen, due}
use Rattle.copy_tree.specs.TreeCopySteps.{Advances, AdvancesNext, FileBegins, FolderMakes, GoesOn, Leaves, LinkWorks, RunsOut, TakesNext, WhyStopped, WorksOn, is_top, link_begun}
use Rattle.copy_tree.specs.Taking.{AreShort, IsInReach, IsShort, IsTaken}

module _ (unclaimed : Route → Type 0) (replies : Replies) (old new : Seen) (did : Did) (before mid after : Option CallLog) (same : mid ≡ before) where
  -- looks were stopped
  pub stopped_so : (t : Trouble) → WhyStopped unclaimed replies old t before → did ≡ common.Troubled t → t.barrier ≡ false → after ≡ mid → new ≡ old → TakesNext unclaimed replies old new did before after
  stopped_so t why says apart made stands = inl record { trouble = t; says = says; why = why; apart = apart; same = made ∙ same; stands = stands }

  module _ (pair : Pair) (next : due old ≡ Thing pair) (reach : IsInReach old.levels.left (Thing pair)) where
    pub ran_out : RunsOut old new did mid after → TakesNext unclaimed replies old new did before after
    ran_out out = inl record { trouble = out_of_memory_at false; says = out.0; why = inr (inr (inr (pair, next, refl))); apart = refl; same = out.2 ∙ same; stands = out.1 }

    pub took_file : (facts : SourceFacts) → IfKnown before (λ log. IsTaken (current log) (is_top old) replies pair (taken.File facts)) → HasRange facts
        → RunsOut old new did mid after ⊎ FileBegins unclaimed facts (file.begun_copy old.job pair.source pair.target) old new did mid after → TakesNext unclaimed replies old new did before after
    took_file facts is range (inl out) = ran_out out
    took_file facts is range (inr works) = inr (inl record {
      pair = pair;
      facts = facts;
      next = next;
      reach = reach;
      is = is;
      range = range;
      works = subst (λ (x : Option CallLog). FileBegins unclaimed facts (file.begun_copy old.job pair.source pair.target) old new did x after) same works;
    })

    pub took_folder : (names : List (List ℕ)) (mode : ℕ) → IfKnown before (λ log. IsTaken (current log) (is_top old) replies pair (taken.Folder names mode)) → IsAscending names
        → RunsOut old new did mid after ⊎ FolderMakes pair names mode old new did mid after → TakesNext unclaimed replies old new did before after
    took_folder names mode is order (inl out) = ran_out out
    took_folder names mode is order (inr works) = inr (inr (inr (inl record {
      pair = pair;
      names = names;
      mode = mode;
      next = next;
      reach = reach;
      is = is;
      in_order = order;
      works = subst (λ (x : Option CallLog). FolderMakes pair names mode old new did x after) same works;
    })))

    pub took_merged : (names : List (List ℕ)) → old.stage ≡ Begin → IfKnown before (λ log. IsTaken (current log) (is_top old) replies pair (taken.Merged names)) → AreShort pair names → IsAscending names → length names ≤ 2 ^ 64
        → new ≡ record old { levels = passed_levels false old.levels } → did ≡ common.Merges ByCopy pair names → after ≡ mid → TakesNext unclaimed replies old new did before after
    took_merged names fresh is short order few stands says made = inr (inr (inr (inr (inl record {
      pair = pair;
      names = names;
      next = next;
      reach = reach;
      fresh = fresh;
      is = is;
      short = short;
      few = few;
      in_order = order;
      says = says;
      same = made ∙ same;
      stands = stands;
    }))))

    pub took_kept : is_top old ≡ true → IfKnown before (λ log. IsTaken (current log) (is_top old) replies pair taken.Kept)
        → new ≡ record old { levels = passed_levels false old.levels } → did ≡ common.Kept pair.target → after ≡ mid → TakesNext unclaimed replies old new did before after
    took_kept top is stands says made =
        inr (inr (inr (inr (inr (inl record { pair = pair; next = next; reach = reach; top = top; is = is; says = says; same = made ∙ same; stands = stands })))))

    pub took_asked : (question : Question) → is_top old ≡ true → IfKnown before (λ log. IsTaken (current log) (is_top old) replies pair (taken.Asked question))
        → new ≡ old → did ≡ common.Asked question → after ≡ mid → TakesNext unclaimed replies old new did before after
    took_asked question top is stands says made =
        inr (inr (inr (inr (inr (inr (inl record { pair = pair; question = question; next = next; reach = reach; top = top; is = is; says = says; same = made ∙ same; stands = stands }))))))

    pub took_link : (part : Route) → IsShort part → IfKnown before (λ log. IsTaken (current log) (is_top old) replies pair taken.Link)
        → IfKnown before (λ log. IsChosen (current log) unclaimed (file.places old.job pair.source pair.target) part)
        → RunsOut old new did mid after ⊎ LinkWorks (link_begun pair part) old new did mid after → TakesNext unclaimed replies old new did before after
    took_link part short is chosen (inl out) = ran_out out
    took_link part short is chosen (inr works) = inr (inr (inl record {
      pair = pair;
      part = part;
      next = next;
      reach = reach;
      is = is;
      chosen = chosen;
      short = short;
      works = subst (λ (x : Option CallLog). LinkWorks (link_begun pair part) old new did x after) same works;
    }))

-- where nothing is at work, a piece of a step is one of any
pub next_advances : (free : Route → Bool) (replies : Replies) (old new : Seen) (i : ItemAtWork) (r : Option StepResult) (before after : Option CallLog) (f0 f1 : ℕ) → old.item ≡ Next → i ≡ Next
    → AdvancesNext (IsPartPlace free old) replies (record old { item = i }) new r before after f0 f1 → Advances free replies old new r before after f0 f1
next_advances free replies old new i None before after f0 f1 idle is a = (idle, subst (λ (j : ItemAtWork). Leaves (record old { item = j }) new) (is ∙ sym idle) a.0, a.1, a.2)
next_advances free replies old new i (Some stepped) before after f0 f1 idle is a = (
  subst (λ (j : ItemAtWork). WorksOn j (IsPartPlace free old) replies old new stepped.did before after) (sym idle)
      (subst (λ (j : ItemAtWork). GoesOn (IsPartPlace free old) replies (record old { item = j }) new stepped.did before after) (is ∙ sym idle) a.0),
  a.1,
)
