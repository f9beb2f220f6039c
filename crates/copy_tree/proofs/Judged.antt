-- What comes of a thing that is no folder, by what the looks at it and at its target told.
use Rattle.std.proofs.Common.{◌≡◌, refl, sym, ◌∙◌, subst, inl, inr, Bool, true, false, Option, Some, None, Result, Ok, Err}
use Rattle.std.proofs.lemmas.Bool.{false≢true}
use Rattle.std.specs.Prelude.{◌⊎◌, IfOk}
use Rattle.mc_text.specs.declared.kind.Kind.{Kind}
use Rattle.mc_text.specs.declared.kind.Kind.TheVariants as kind
use Rattle.tree_trait.specs.declared.file_system.FileSystem.{FileSystem}
use Rattle.tree_trait.specs.declared.calls.Meta.{Meta}
use Rattle.tree_trait.specs.Answers.{IsInRange, IsMeta}
use Rattle.tree_trait.specs.Calls.{Stat}
use Rattle.tree_trait.specs.Refusals.{refusal_of}
use Rattle.job_answers.specs.declared.replies.Decision.{Decision}
use Rattle.job_answers.specs.declared.replies.Decision.TheVariants.{Ask, Keep, Replace}
use Rattle.job_answers.specs.declared.replies.Replies.{Replies}
use Rattle.job_answers.specs.Decisions.{decision_on}
use Rattle.job_reports.specs.declared.job.Pair.{Pair}
use Rattle.job_reports.specs.declared.question.Question.{Question}
use Rattle.job_reports.specs.declared.report.Cause.TheVariants.{TargetKind}
use Rattle.job_reports.specs.declared.report.Trouble.{Trouble}
use Rattle.job_reports.specs.Questions.{question_on}
use Rattle.job_reports.specs.Stops.{IsTroubleWithPath}
use Rattle.copy_tree.specs.Replaceable.{IsReplaceable}
use Rattle.copy_file.specs.Looking.{AreFactsOf, HasRange, IsThere, facts_in}
use Rattle.copy_tree.specs.declared.copy.Stage.{Stage}
use Rattle.copy_tree.specs.declared.looking.Taken.{Taken}
use Rattle.copy_tree.specs.Asking.{AreBothSingle, IsDecided, IsOpen}
use Rattle.copy_tree.specs.Judging.{ByAnswer, IsNoFolder, Judges, TakesDecided, TakesSingle}
use Rattle.copy_tree.specs.Taking.{CanMerge, CanReplace, IsSound, IsSpecialOnSingle, IsTaken, Looks, SourceIs}

-- what is no folder and can't be copied is a special file
other_kind : (k : Kind) → IsNoFolder k → (IsReplaceable k → ⊥) → k ≡ kind.Other
other_kind kind.File single not = absurd (not tt)
other_kind kind.Link single not = absurd (not tt)
other_kind kind.Other single not = refl
other_kind kind.Folder single not = absurd single

module _ (s : FileSystem) (stage : Stage) (top : Bool) (replies : Replies) (pair : Pair) (source : Meta) (stands : refusal_of s (Stat pair.source) ≡ None) (is : IsMeta s pair.source source) where
  source_is : (k : Kind) → source.kind ≡ k → SourceIs s pair k
  source_is k e = (stands, sym is.kind ∙ e)

  facts_are : AreFactsOf s pair.source (facts_in source)
  facts_are = record { size = is.size; mode = is.mode }

  -- it is taken up where nothing stands at its target, or what is replaced
  single_taken : (what : Taken) → IsOpen s top replies pair → TakesSingle pair source (Ok what) → IsTaken s top replies pair what
  single_taken what open_there (inl h) = subst (IsTaken s top replies pair) (sym h.1) (source_is kind.File h.0, facts_are, open_there)
  single_taken what open_there (inr h) = subst (IsTaken s top replies pair) (sym h.1) (source_is kind.Link h.0, open_there)

  no_merge : IsNoFolder source.kind → CanMerge s stage pair → ⊥
  no_merge single m = subst IsNoFolder (is.kind ∙ m.1.1) single

  module _ (target : Meta) (there : IsThere s pair.target (Some target)) where
    -- what stands at the target is in the way
    no_replace : (IsReplaceable target.kind → ⊥) ⊎ (IsReplaceable source.kind × (top ≡ false)) → CanReplace s top pair → ⊥
    no_replace (inl not) r = let b = r.1 in let of = b.of_target in not (subst IsReplaceable (of.kind ∙ sym there.1.kind) b.replaceable)
    no_replace (inr inside) r = false≢true (sym inside.1 ∙ r.0)

    no_special : (IsReplaceable target.kind → ⊥) ⊎ (IsReplaceable source.kind × (top ≡ false)) → IsSpecialOnSingle s pair → ⊥
    no_special (inl not) x = not (subst IsReplaceable (sym there.1.kind) x.2)
    no_special (inr inside) x = subst IsReplaceable (is.kind ∙ x.0.1) inside.0

    hinders : (t : Trouble) → IsNoFolder source.kind → (IsReplaceable target.kind → ⊥) ⊎ (IsReplaceable source.kind × (top ≡ false)) → IsTroubleWithPath (TargetKind target.kind) pair.target t
        → Looks s stage top replies pair (Err t)
    hinders t single why h =
        inr (inl (
          source.kind,
          source_is source.kind refl,
          inr (there.0, subst (λ k. IsTroubleWithPath (TargetKind k) pair.target t) there.1.kind h, no_merge single, no_replace why, no_special why),
        ))

    module _ (replacing : IsReplaceable source.kind) (replaceable : IsReplaceable target.kind) (at_top : top ≡ true) where
      abbrev asked : Question
      asked = question_on pair.source source pair.target target

      abbrev both : AreBothSingle s pair
      both = record { source = source; target = target; there = stands; of_source = is; stands = there.0; of_target = there.1; replacing = replacing; replaceable = replaceable }

      is_decided : (decision : Decision) → decision_on replies asked ≡ decision → IsDecided s pair replies asked decision
      is_decided decision e = record { both = both; asks = refl; decides = e }

      -- by the answers that stand
      by_decision : (decision : Decision) (result : Result Taken Trouble) → decision_on replies asked ≡ decision → TakesDecided decision asked pair source result → Looks s stage top replies pair result
      by_decision Replace (Ok what) e h = single_taken what (inr (at_top, (asked, is_decided Replace e))) h
      by_decision Replace (Err t) e h = absurd (h.0 replacing)
      by_decision Keep result e h = subst (Looks s stage top replies pair) (sym h) (asked, is_decided Keep e)
      by_decision Ask result e h = subst (Looks s stage top replies pair) (sym h) (is_decided Ask e)

      by_answer : (result : Result Taken Trouble) → ByAnswer replies pair source target result → Looks s stage top replies pair result
      by_answer result (inl e) = subst (Looks s stage top replies pair) (sym e) (inl refl)
      by_answer result (inr h) = by_decision (decision_on replies asked) result refl h

  pub judged : (target : Option Meta) (result : Result Taken Trouble) → IsNoFolder source.kind → IsThere s pair.target target → Judges top replies pair source target result
      → Looks s stage top replies pair result
  judged None (Ok what) single there h = single_taken what (inl there) h
  judged None (Err t) single there h = inr (inr (inl (inl (source_is kind.Other (other_kind source.kind single h.0), there), h.1)))
  judged (Some target) result single there (inl h) = subst (Looks s stage top replies pair) (sym h.1.1) (hinders target there h.1.0 single h.0 h.1.2)
  judged (Some target) result single there (inr (inl h)) =
      subst (Looks s stage top replies pair) (sym h.2.1)
      (inr (inr (inl (inr (source_is kind.Other (other_kind source.kind single h.1), there.0, subst IsReplaceable there.1.kind h.0), h.2.2))))
  judged (Some target) result single there (inr (inr h)) = by_answer target there h.1 h.0 h.2 result h.3

-- what is said of a file is in its bounds
module _ (top : Bool) (replies : Replies) (pair : Pair) (source : Meta) (range : IsInRange source) where
  abbrev Sound : Result Taken Trouble → Type 0
  Sound result = IfOk result IsSound

  single_sound : (what : Taken) → TakesSingle pair source (Ok what) → IsSound what
  single_sound what (inl h) = subst IsSound (sym h.1) record { mode = range.mode; size = range.size }
  single_sound what (inr h) = subst IsSound (sym h.1) tt

  decided_sound : (decision : Decision) (question : Question) (result : Result Taken Trouble) → TakesDecided decision question pair source result → Sound result
  decided_sound Replace question (Ok what) h = single_sound what h
  decided_sound Replace question (Err t) h = tt
  decided_sound Keep question result h = subst Sound (sym h) tt
  decided_sound Ask question result h = subst Sound (sym h) tt

  answer_sound : (target : Meta) (result : Result Taken Trouble) → ByAnswer replies pair source target result → Sound result
  answer_sound target result (inl e) = subst Sound (sym e) tt
  answer_sound target result (inr h) = decided_sound (decision_on replies (question_on pair.source source pair.target target)) (question_on pair.source source pair.target target) result h

  pub judged_sound : (target : Option Meta) (result : Result Taken Trouble) → Judges top replies pair source target result → Sound result
  judged_sound None (Ok what) h = single_sound what h
  judged_sound None (Err t) h = tt
  judged_sound (Some target) result (inl h) = subst Sound (sym h.1.1) tt
  judged_sound (Some target) result (inr (inl h)) = subst Sound (sym h.2.1) tt
  judged_sound (Some target) result (inr (inr h)) = answer_sound target result h.3
