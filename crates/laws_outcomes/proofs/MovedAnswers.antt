-- A step of a move asks, keeps what stands at its target, or goes there as was answered.
use Rattle.std.proofs.Common.{◌≡◌, true, false, sym, ap, subst, inl, inr, Option, Some}
use Rattle.std.specs.Prelude.{is_some}
use Rattle.mc_text.specs.Routes.{Route}
use Rattle.mc_text.specs.declared.kind.Kind.{Kind}
use Rattle.mc_text.specs.declared.kind.Kind.TheVariants as kind
use Rattle.tree_trait.specs.declared.calls.Meta.{Meta}
use Rattle.tree_trait.specs.Change.{CallLog, current, found_node}
use Rattle.tree_trait.specs.FileSystem.{View, node, value}
use Rattle.tree_trait.specs.Refusals.{folder_kind}
use Rattle.tree_trait.specs.Shape.{IsTree}
use Rattle.job_reports.proofs.PermittedCalls.{stat_missing}
use Rattle.job_reports.specs.declared.job.Pair.{Pair}
use Rattle.job_reports.specs.declared.question.Question.{Question}
use Rattle.job_reports.specs.declared.report.Did.{Did}
use Rattle.job_reports.specs.declared.report.Did.TheVariants.{Began, Chunk, Placed, Removed, Made, Set, Kept, Skipped, Cleaned, Barrier, Asked, Merges, Moved, Troubled, Ended}
use Rattle.job_answers.specs.declared.placing.Origin.TheVariants as from
use Rattle.job_answers.specs.declared.placing.Placing.TheVariants.{Asks}
use Rattle.job_answers.specs.declared.replies.Decision.{Decision}
use Rattle.job_answers.specs.declared.replies.Decision.TheVariants.{Ask, Keep, Replace}
use Rattle.job_answers.specs.declared.replies.Replies.{Replies}
use Rattle.job_answers.specs.Decisions.{decision_on}
use Rattle.job_answers.specs.Questions.{placing_at}
use Rattle.move_job.specs.Movings.{Moving, MovingCalls, Tells}
use Rattle.move_job.specs.Takings.{IsDecided, MayMove, Stands}
use Rattle.copy_tree.specs.Replaceable.{IsReplaceable}
use Rattle.laws_sessions.proofs.OwedModes.{ShowsTree}
use Rattle.laws_outcomes.specs.Answered.{IsMergedWhole, IsMoveQuestion, IsMovedAsAnswered, IsSizedAs}
use Rattle.laws_outcomes.proofs.Answering.{none_there}
use Rattle.laws_outcomes.proofs.FileWork.{none_shown, some_shown}
use Rattle.laws_outcomes.proofs.MergedNames.{merged_whole}

-- where it is asked a file or a link stands
replaceable : (source target : Kind) → folder_kind source ≡ false → placing_at (from.Moved source) (Some target) ≡ Asks → IsReplaceable target
replaceable kind.Folder target single meets = absurd (let f : ⊥ = cc in f)
replaceable kind.File kind.File single meets = tt
replaceable kind.File kind.Link single meets = tt
replaceable kind.File kind.Folder single meets = absurd (let f : ⊥ = cc in f)
replaceable kind.File kind.Other single meets = absurd (let f : ⊥ = cc in f)
replaceable kind.Link kind.File single meets = tt
replaceable kind.Link kind.Link single meets = tt
replaceable kind.Link kind.Folder single meets = absurd (let f : ⊥ = cc in f)
replaceable kind.Link kind.Other single meets = absurd (let f : ⊥ = cc in f)
replaceable kind.Other kind.File single meets = tt
replaceable kind.Other kind.Link single meets = tt
replaceable kind.Other kind.Folder single meets = absurd (let f : ⊥ = cc in f)
replaceable kind.Other kind.Other single meets = absurd (let f : ⊥ = cc in f)

-- where the history shows the tree, a question is on what stands there
module _ (v : View) (log : CallLog) (tree : IsTree (current log)) (shows : ShowsTree v log) where
  sized : (IsOfKind : Kind → Type 0) (path : Route) (meta : Meta) → Stands (current log) path meta → IsOfKind meta.kind → IsSizedAs IsOfKind v path meta.size
  sized IsOfKind path meta stands of_kind =
      let is = stands.is in
      (value (node (current log) (found_node (current log) path)), some_shown v log tree shows path stands.there, subst IsOfKind is.kind of_kind, is.size)

  question_is : (pair : Pair) (replies : Replies) (question : Question) (decision : Decision) → IsDecided (current log) pair replies question decision
      → IsMoveQuestion v pair.source pair.target question × (decision_on replies question ≡ decision)
  question_is pair replies question decision d =
      let source = d.source in
      let target = d.target in (
        record {
          from = ap (λ (q : Question). q.source) d.asks;
          to = ap (λ (q : Question). q.target) d.asks;
          source_is = subst (IsSizedAs (λ k. folder_kind k ≡ false) v pair.source) (sym (ap (λ (q : Question). q.source_size) d.asks)) (sized (λ k. folder_kind k ≡ false) pair.source d.source d.of_source d.single);
          target_is = subst (IsSizedAs IsReplaceable v pair.target) (sym (ap (λ (q : Question). q.target_size) d.asks)) (sized IsReplaceable pair.target d.target d.of_target (replaceable source.kind target.kind d.single d.meets));
        },
        d.decides,
      )

  -- what is renamed comes onto nothing, or onto what an answer says is replaced
  may_replace : (pair : Pair) (replies : Replies) → MayMove (current log) pair replies → is_some (v pair.target).value ≡ true
      → (question : Question) × IsMoveQuestion v pair.source pair.target question × (decision_on replies question ≡ Replace)
  may_replace pair replies may some = elim may.free [
    | inl missing ↦ none_there (v pair.target).value (none_shown v log tree shows pair.target (stat_missing (current log) pair.target missing)) some
    | inr (question, d) ↦ (let q = question_is pair replies question Replace d in (question, q.0, q.1))
  ]

  pub moved_as : (replies : Replies) (m new : Moving) (did : Did) (after : Option CallLog) → Tells replies m did new → MovingCalls replies m did log after → (let pair = m.pair in IsMovedAsAnswered replies pair.source pair.target v did)
  moved_as replies m new (Moved pair) after (stage, pair_is, new_is) (may, called) = (pair_is, λ some. may_replace m.pair replies may some)
  moved_as replies m new (Kept path) after (stage, path_is, new_is) ((question, d), none) =
      let q = question_is m.pair replies question Keep d in (path_is, (question, q.0, q.1))
  moved_as replies m new (Asked question) after t (d, none) = question_is m.pair replies question Ask d
  moved_as replies m new (Merges transfer pair names) after (stage, may, new_is) (merged, none) =
      let from = (let meets = merged.meets in meets.of_source) in
      (may.by_move, may.its, subst (λ (p : Pair). IsMergedWhole v p names) (sym may.its) (merged_whole v log shows m.pair names from.there merged.lists may.in_order))
  moved_as replies m new (Skipped path cause) after t called = tt
  moved_as replies m new Barrier after t called = tt
  moved_as replies m new (Troubled trouble) after t called = tt
  moved_as replies m new (Ended ending part) after t called = tt
  moved_as replies m new did after t called = absurd t
