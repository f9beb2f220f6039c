-- What the looks told comes to this.
use Rattle.std.proofs.Common.{◌≡◌, ◌⊎◌, ℕ, ◌≤◌, refl, sym, ◌∙◌, ap, subst, inl, inr, true, false, Option, Some, None, Result, Ok, Err}
use Rattle.std.proofs.lemmas.Bool.{false≢true}
use Rattle.std.specs.Prelude.{IfErr, IfOk, MatchResult}
use Rattle.mc_text.specs.Routes.{Route}
use Rattle.mc_text.specs.declared.kind.Kind.{Kind}
use Rattle.mc_text.specs.declared.kind.Kind.TheVariants as kind
use Rattle.tree_trait.specs.declared.file_system.FileSystem.{FileSystem}
use Rattle.tree_trait.specs.declared.calls.Meta.{Meta}
use Rattle.tree_trait.specs.declared.calls.TreeError.TheVariants as refused
use Rattle.tree_trait.specs.Answers.{IsInRange}
use Rattle.tree_trait.specs.Change.{CallLog}
use Rattle.job_reports.specs.declared.question.Question.{Question}
use Rattle.job_reports.specs.declared.report.Cause.{Cause}
use Rattle.job_reports.specs.declared.report.Cause.TheVariants as why
use Rattle.job_reports.specs.declared.report.Trouble.{Trouble}
use Rattle.job_reports.specs.Reading.{Peeks}
use Rattle.job_reports.specs.Stops.{IsTroubleWithPath, out_of_memory_at}
use Rattle.job_answers.specs.declared.placing.Origin.TheVariants.{Copied}
use Rattle.job_answers.specs.declared.placing.Placing.{Placing}
use Rattle.job_answers.specs.declared.placing.Placing.TheVariants as placing
use Rattle.job_answers.specs.declared.replies.Decision.{Decision}
use Rattle.job_answers.specs.declared.replies.Decision.TheVariants.{Replace, Keep, Ask}
use Rattle.job_answers.specs.declared.replies.Replies.{Replies}
use Rattle.job_answers.specs.Decisions.{decision_on}
use Rattle.job_answers.specs.Questions.{placing_at}
use Rattle.copy_file.specs.Copying.{Places}
use Rattle.copy_file.specs.Looking.{IsThere}
use Rattle.carry_job.specs.declared.taking.Taken.{Taken}
use Rattle.carry_job.specs.Taking.{ByAnswer, IsApart, IsNotInTheWay, IsOpen, IsSound, IsSpecial, Judges, JudgesBy, LooksStop, Stands, Takes, TakesDecided, TakesSingle, is_carried, question_at}

-- away from a barrier, and no fault
pub record IsQuietTrouble (t : Trouble) : Type 0 where
  pub apart : t.barrier ≡ false
  pub sound : t.cause ≡ why.Tree refused.Fault → ⊥

with_path : (cause : Cause) (path : Route) (t : Trouble) → (cause ≡ why.Tree refused.Fault → ⊥) → IsTroubleWithPath cause path t → IsQuietTrouble t
with_path cause path t none (inl is) = record { apart = ap (λ (u : Trouble). u.barrier) is; sound = λ h. none (sym (ap (λ (u : Trouble). u.cause) is) ∙ h) }
with_path cause path t none (inr is) = record { apart = ap (λ (u : Trouble). u.barrier) is; sound = λ h. let e : why.Memory ≡ why.Tree refused.Fault = sym (ap (λ (u : Trouble). u.cause) is) ∙ h in absurd cc }

module _ (s : FileSystem) (p : Places) (replies : Replies) (source : Meta) (stands : Stands s p.source source) where
  abbrev Comes : Result Taken Trouble → Type 0
  Comes result = MatchResult result (Takes s p replies) (λ trouble. LooksStop s p trouble.cause trouble.path)

  -- without memory
  out_of_memory : (t : Trouble) → t ≡ out_of_memory_at false → LooksStop s p t.cause t.path
  out_of_memory t is = inr (inr (inr (inr (ap (λ (u : Trouble). u.cause) is, ap (λ (u : Trouble). u.path) is))))

  -- a source that is no file and no link
  special : IsApart s p source → (t : Trouble) → is_carried source.kind ≡ false → IsSpecial p t → LooksStop s p t.cause t.path
  special apart t other (inl is) = inr (inr (inr (inl (record {
    cause_is = ap (λ (u : Trouble). u.cause) is;
    path_is = ap (λ (u : Trouble). u.path) is;
    source = source;
    of_source = stands;
    other = other;
    apart = apart;
  }))))
  special apart t other (inr is) = out_of_memory t is

  -- a file or a link whose target is open
  single : IsOpen s p replies → (is_carried source.kind ≡ false → IsApart s p source) → (result : Result Taken Trouble) → TakesSingle p source result → Comes result
  single free apart (Ok what) (inl (file, is)) = subst (Takes s p replies) (sym is) (source, record { stands = stands; kind_is = file; open_target = free }, refl)
  single free apart (Ok what) (inr (link, is)) = subst (Takes s p replies) (sym is) (source, record { stands = stands; kind_is = link; open_target = free })
  single free apart (Err t) (other, is) = special (apart other) t other is

  -- what is no file and no link is never asked about
  asked : (k at : Kind) → placing_at (Copied k) (Some at) ≡ placing.Asks → is_carried k ≡ true
  asked kind.File at is = refl
  asked kind.Link at is = refl
  asked kind.Folder kind.File is = absurd cc
  asked kind.Folder kind.Folder is = absurd cc
  asked kind.Folder kind.Link is = absurd cc
  asked kind.Folder kind.Other is = absurd cc
  asked kind.Other kind.File is = absurd cc
  asked kind.Other kind.Folder is = absurd cc
  asked kind.Other kind.Link is = absurd cc
  asked kind.Other kind.Other is = absurd cc

  module _ (target : Meta) (there : Stands s p.target target) where
    -- by the answers that stand
    decided : placing_at (Copied source.kind) (Some target.kind) ≡ placing.Asks → (decision : Decision) → decision_on replies (question_at p source target) ≡ decision
        → (result : Result Taken Trouble) → TakesDecided decision (question_at p source target) p source result → Comes result
    decided meets Replace is result takes =
        single (inr (question_at p source target, record { source = source; target = target; of_source = stands; of_target = there; meets = meets; asks = refl; decides = is }))
        (λ other. absurd (false≢true (sym other ∙ asked source.kind target.kind meets))) result takes
    decided meets Keep is result takes =
        subst Comes (sym takes) (question_at p source target, record { source = source; target = target; of_source = stands; of_target = there; meets = meets; asks = refl; decides = is })
    decided meets Ask is result takes =
        subst Comes (sym takes) (record { source = source; target = target; of_source = stands; of_target = there; meets = meets; asks = refl; decides = is })

    answered : placing_at (Copied source.kind) (Some target.kind) ≡ placing.Asks → (result : Result Taken Trouble) → ByAnswer p replies source target result → Comes result
    answered meets result (inl is) = subst Comes (sym is) (out_of_memory (out_of_memory_at false) refl)
    answered meets result (inr takes) = decided meets (decision_on replies (question_at p source target)) refl result takes

    in_the_way : (at : Kind) (t : Trouble) → placing_at (Copied source.kind) (Some target.kind) ≡ placing.TargetKind at → IsTroubleWithPath (why.TargetKind at) p.target t
        → LooksStop s p t.cause t.path
    in_the_way at t meets (inl is) = inr (inr (inl (record {
      at = at;
      cause_is = ap (λ (u : Trouble). u.cause) is;
      path_is = ap (λ (u : Trouble). u.path) is;
      source = source;
      target = target;
      of_source = stands;
      of_target = there;
      meets = meets;
    })))
    in_the_way at t meets (inr is) = out_of_memory t is

    -- what is no file and no link is never asked about, and what can't be placed is none
    uncarried : (k at : Kind) (what : Placing) → placing_at (Copied k) (Some at) ≡ what → (what ≡ placing.SpecialSource) ⊎ (what ≡ placing.Merges) → is_carried k ≡ false
    uncarried kind.Folder at what is h = refl
    uncarried kind.Other at what is h = refl
    uncarried kind.File kind.Folder what is (inl h) = absurd cc
    uncarried kind.File kind.Folder what is (inr h) = absurd cc
    uncarried kind.File kind.Other what is (inl h) = absurd cc
    uncarried kind.File kind.Other what is (inr h) = absurd cc
    uncarried kind.File kind.File what is (inl h) = absurd cc
    uncarried kind.File kind.File what is (inr h) = absurd cc
    uncarried kind.File kind.Link what is (inl h) = absurd cc
    uncarried kind.File kind.Link what is (inr h) = absurd cc
    uncarried kind.Link kind.Folder what is (inl h) = absurd cc
    uncarried kind.Link kind.Folder what is (inr h) = absurd cc
    uncarried kind.Link kind.Other what is (inl h) = absurd cc
    uncarried kind.Link kind.Other what is (inr h) = absurd cc
    uncarried kind.Link kind.File what is (inl h) = absurd cc
    uncarried kind.Link kind.File what is (inr h) = absurd cc
    uncarried kind.Link kind.Link what is (inl h) = absurd cc
    uncarried kind.Link kind.Link what is (inr h) = absurd cc

    placed : (what : Placing) → placing_at (Copied source.kind) (Some target.kind) ≡ what → (result : Result Taken Trouble) → JudgesBy what p replies source target result → Comes result
    placed placing.Asks is result h = answered is result h
    placed (placing.TargetKind at) is result (t, same, told) = subst Comes (sym same) (in_the_way at t is told)
    placed placing.SpecialSource is result (t, same, told) = subst Comes (sym same) (special (inr (target, there, subst IsNotInTheWay (sym is) tt)) t (uncarried source.kind target.kind placing.SpecialSource is (inl refl)) told)
    placed placing.Merges is result (t, same, told) = subst Comes (sym same) (special (inr (target, there, subst IsNotInTheWay (sym is) tt)) t (uncarried source.kind target.kind placing.Merges is (inr refl)) told)
    placed placing.Free is result h = absurd h
    placed placing.Replaces is result h = absurd h

  -- what comes of it
  pub judged : (target : Option Meta) (result : Result Taken Trouble) → IsThere s p.target target → Judges p replies source target result → Comes result
  judged None result free h = single (inl free) (λ other. inl free) result h
  judged (Some target) result (there, is) h = placed target (record { there = there; is = is }) (placing_at (Copied source.kind) (Some target.kind)) refl result h

-- what is told of a file is in range
module _ (p : Places) (replies : Replies) (source : Meta) (range : IsInRange source) where
  single_sound : (result : Result Taken Trouble) → TakesSingle p source result → IfOk result IsSound
  single_sound (Ok what) (inl (file, is)) = subst IsSound (sym is) (record { mode = range.mode; size = range.size })
  single_sound (Ok what) (inr (link, is)) = subst IsSound (sym is) tt
  single_sound (Err t) h = tt

  decided_sound : (decision : Decision) (question : Question) (result : Result Taken Trouble) → TakesDecided decision question p source result → IfOk result IsSound
  decided_sound Replace question result h = single_sound result h
  decided_sound Keep question result h = subst (λ (r : Result Taken Trouble). IfOk r IsSound) (sym h) tt
  decided_sound Ask question result h = subst (λ (r : Result Taken Trouble). IfOk r IsSound) (sym h) tt

  placed_sound : (target : Meta) (what : Placing) (result : Result Taken Trouble) → JudgesBy what p replies source target result → IfOk result IsSound
  placed_sound target placing.Asks result (inl is) = subst (λ (r : Result Taken Trouble). IfOk r IsSound) (sym is) tt
  placed_sound target placing.Asks result (inr h) = decided_sound (decision_on replies (question_at p source target)) (question_at p source target) result h
  placed_sound target (placing.TargetKind at) result (t, same, told) = subst (λ (r : Result Taken Trouble). IfOk r IsSound) (sym same) tt
  placed_sound target placing.SpecialSource result (t, same, told) = subst (λ (r : Result Taken Trouble). IfOk r IsSound) (sym same) tt
  placed_sound target placing.Merges result (t, same, told) = subst (λ (r : Result Taken Trouble). IfOk r IsSound) (sym same) tt
  placed_sound target placing.Free result h = absurd h
  placed_sound target placing.Replaces result h = absurd h

  pub judged_sound : (target : Option Meta) (result : Result Taken Trouble) → Judges p replies source target result → IfOk result IsSound
  judged_sound None result h = single_sound result h
  judged_sound (Some target) result h = placed_sound target (placing_at (Copied source.kind) (Some target.kind)) result h

-- no trouble of it is at a barrier, or a fault
module _ (p : Places) (replies : Replies) (source : Meta) where
  single_quiet : (result : Result Taken Trouble) → TakesSingle p source result → IfErr result IsQuietTrouble
  single_quiet (Ok what) h = tt
  single_quiet (Err t) (other, is) = with_path why.SpecialSource p.source t (λ e. absurd cc) is

  abbrev IsQuiet : Result Taken Trouble → Type 0
  IsQuiet result = IfErr result IsQuietTrouble

  no_memory_quiet : IsQuietTrouble (out_of_memory_at false)
  no_memory_quiet = record { apart = refl; sound = λ e. absurd cc }

  decided_quiet : (decision : Decision) (question : Question) (result : Result Taken Trouble) → TakesDecided decision question p source result → IsQuiet result
  decided_quiet Replace question result h = single_quiet result h
  decided_quiet Keep question result h = subst IsQuiet (sym h) tt
  decided_quiet Ask question result h = subst IsQuiet (sym h) tt

  placed_quiet : (target : Meta) (what : Placing) (result : Result Taken Trouble) → JudgesBy what p replies source target result → IsQuiet result
  placed_quiet target placing.Asks result (inl is) = subst IsQuiet (sym is) no_memory_quiet
  placed_quiet target placing.Asks result (inr h) = decided_quiet (decision_on replies (question_at p source target)) (question_at p source target) result h
  placed_quiet target (placing.TargetKind at) result (t, same, told) = subst IsQuiet (sym same) (with_path (why.TargetKind at) p.target t (λ e. absurd cc) told)
  placed_quiet target placing.SpecialSource result (t, same, told) = subst IsQuiet (sym same) (with_path why.SpecialSource p.source t (λ e. absurd cc) told)
  placed_quiet target placing.Merges result (t, same, told) = subst IsQuiet (sym same) (with_path why.SpecialSource p.source t (λ e. absurd cc) told)
  placed_quiet target placing.Free result h = absurd h
  placed_quiet target placing.Replaces result h = absurd h

  judged_quiet : (target : Option Meta) (result : Result Taken Trouble) → Judges p replies source target result → IsQuiet result
  judged_quiet None result h = single_quiet result h
  judged_quiet (Some target) result h = placed_quiet target (placing_at (Copied source.kind) (Some target.kind)) result h

  quiet_peeks : (result : Result Taken Trouble) (before after : Option CallLog) (f0 f1 : ℕ) → after ≡ before → f0 ≤ f1 → IsQuiet result → Peeks result before after f0 f1
  quiet_peeks (Ok what) before after f0 f1 same later h = record { same = same; later = later; fault = tt; apart = tt }
  quiet_peeks (Err t) before after f0 f1 same later h = record { same = same; later = later; fault = λ e. absurd (h.sound e); apart = h.apart }

  -- so the looks are all that was called
  pub judged_peeks : (target : Option Meta) (result : Result Taken Trouble) (before after : Option CallLog) (f0 f1 : ℕ) → Judges p replies source target result → after ≡ before → f0 ≤ f1
      → Peeks result before after f0 f1
  judged_peeks target result before after f0 f1 h same later = quiet_peeks result before after f0 f1 same later (judged_quiet target result h)
