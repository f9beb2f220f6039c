-- The part of a link at work, after a step of the link's copy.
use Rattle.std.specs.Prelude.{pos}
use Rattle.std.proofs.Common.{◌≡◌, ◌⊎◌, ℕ, List, [], ◌∷◌, refl, sym, ◌∙◌, ap, subst, Option, Some, None, arith}
use Rattle.mc_text.specs.Routes.{Route}
use Rattle.mc_text.specs.declared.kind.Kind.TheVariants as kind
use Rattle.tree_trait.specs.declared.file_system.Node.{Node}
use Rattle.tree_trait.specs.Calls.{MakeLink, RemoveFile, Rename}
use Rattle.tree_trait.specs.Change.{Change, Makes, CallLog, change_of, current, found_node, with_change}
use Rattle.tree_trait.specs.CrashImages.{says}
use Rattle.tree_trait.specs.FileSystem.{find}
use Rattle.tree_trait.specs.Refusals.{refusal_of}
use Rattle.tree_trait.specs.Shape.{IsTree}
use Rattle.job_reports.specs.CallRuns.{AllDone, RunStops}
use Rattle.job_reports.specs.declared.report.Cause.{Cause}
use Rattle.job_reports.specs.declared.report.Cause.TheVariants as cause
use Rattle.job_reports.specs.declared.report.Did.{Did}
use Rattle.job_reports.specs.declared.report.Did.TheVariants.{Began, Chunk, Placed, Removed, Made, Set, Kept, Skipped, Cleaned, Barrier, Asked, Merges, Moved, Troubled, Ended}
use Rattle.job_reports.proofs.CallAnswers.{done_call}
use Rattle.job_reports.proofs.PermittedCalls.{making_passes}
use Rattle.copy_link.specs.LinkCopying.{LinkCopying, Tells, after_clean, has_part}
use Rattle.copy_link.specs.LinkSteps.{LinkCalls, LinkStops, link_text, next_call}
use Rattle.copy_link.specs.declared.stage.Next.{Next as Follows}
use Rattle.copy_link.specs.declared.stage.Next.TheVariants as follows
use Rattle.copy_link.specs.declared.stage.Stage.{Stage}
use Rattle.copy_link.specs.declared.stage.Stage.TheVariants as at
use Rattle.copy_folders.specs.Levels.{Levels}
use Rattle.copy_tree.specs.Progress.{link_progress}
use Rattle.copy_tree.specs.declared.progress.Progress.TheVariants.{UnderWay, Decided}
use Rattle.laws_sessions.proofs.AtWork.{HasItem}
use Rattle.laws_sessions.proofs.ItemParts.{IsMetNext, has_made}
use Rattle.laws_sessions.proofs.QuietRuns.{kept_stop, row_done}
use Rattle.laws_sessions.proofs.TreeLinks.{LinkKnown}
use Rattle.laws_sessions.proofs.TreeRuns.{has_quiet}
use Rattle.laws_sessions.proofs.Untouched.{IsBare}

not_at_work : (stage : Stage) → link_progress stage ≡ UnderWay → stage ≡ at.Decided → ⊥
not_at_work stage going is = (let e : Decided ≡ UnderWay = sym (ap link_progress is) ∙ going in let f : ⊥ = cc in f)

not_cleaned : (next : Follows) → link_progress (after_clean next) ≡ UnderWay → ⊥
not_cleaned follows.Again going = (let f : ⊥ = cc in f)
not_cleaned follows.Decided going = (let f : ⊥ = cc in f)

pub no_row : (log : CallLog) (now : CallLog) (why : Cause) (path : Option Route) → RunStops [] why path log (Some now) → ⊥
no_row log now (cause.Tree e) path (call, named, never) = never
no_row log now cause.Memory path (none, (count, few, done)) = omega (arith, few)
no_row log now (cause.TargetKind kind) path h = h
no_row log now cause.SpecialSource path h = h
no_row log now cause.TooDeep path h = h
no_row log now (cause.Unnamed count) path h = h
no_row log now cause.PartTaken path h = h
no_row log now cause.TooLong path h = h
no_row log now (cause.Changed said got) path h = h

-- What is known of the target as a link's part is made: it is met next, and another than the part; nothing stands there, or what is copied itself replaces it.
pub record IsOpenTo (log : CallLog) (name : List ℕ) (l : Levels) (part target : Route) : Type 0 where
  pub met : IsMetNext name l target
  pub apart : part ≡ target → ⊥
  pub bare : IsBare (current log) target
  pub free : (find (current log) target ≡ None) ⊎ (l.around ≡ [])

module _ (log now : CallLog) (name : List ℕ) (l : Levels) (c : LinkCopying) (known : LinkKnown log name l c) where
  abbrev Has : CallLog → Type 0
  Has x = HasItem x name l c.part c.target

  quiet_has : (x : CallLog) (change : Change) → IsTree (current x) → ((n g : ℕ) (m : List ℕ) → says change n g m ≡ None) → Has x → Has (with_change x change)
  quiet_has x change tree none h = has_quiet name l c.part c.target x change tree none h

  -- a trouble of a link whose part stands
  stops : (stage : Stage) → c.stage ≡ stage → (why : Cause) (path : Option Route) → LinkStops c stage why path log (Some now) → link_progress stage ≡ UnderWay → Has now
  stops at.Make is why path calls going = absurd (let e : ⊥ = cc in e)
  stops at.Place is why path run going = kept_stop Has quiet_has log now known.tree (Rename c.part c.target) why path run (known.item (ap has_part is))
  stops (at.Clean next) is why path run going = kept_stop Has quiet_has log now known.tree (RemoveFile c.part) why path run (known.item (ap has_part is))
  stops at.Left is why path run going = absurd (no_row log now why path run)
  stops at.Decided is why path run going = absurd (let e : ⊥ = cc in e)
  stops at.Again is why path run going = absurd (let e : ⊥ = cc in e)

  begun : c.stage ≡ at.Make → IsOpenTo log name l c.part c.target → AllDone log (MakeLink c.part (link_text (current log) c.source) ∷ []) (Some now) → Has now
  begun stage open_to rows =
      let text = link_text (current log) c.source in
      let d = done_call log (MakeLink c.part text) now (row_done log now (MakeLink c.part text) rows) in
      let b = known.begins stage in
      let permits : refusal_of (current log) (MakeLink (b.0 ∷ l.inner.copy.target) text) ≡ None = subst (λ r. refusal_of (current log) (MakeLink r text) ≡ None) b.1 d.permits in
      let made : Node = record { kind = kind.Link; bytes = text; mode = 0; mtime = pos 0; unnamed = 0 } in
      let is : now ≡ with_change log (Makes (found_node (current log) l.inner.copy.target) b.0 made) = subst (λ r. now ≡ with_change log (change_of (current log) (MakeLink r text) d.time)) b.1 d.is in
      subst (λ r. HasItem now name l r c.target) (sym b.1)
      (has_made name l log now b.0 made c.target known.tree (making_passes (current log) b.0 l.inner.copy.target 0 permits) is refl b.2 open_to.met (λ same. open_to.apart (b.1 ∙ same)) open_to.bare open_to.free)

  rows_at : (stage : Stage) → c.stage ≡ stage → AllDone log (next_call (current log) c c.stage) (Some now) → AllDone log (next_call (current log) c stage) (Some now)
  rows_at stage is rows = subst (λ x. AllDone log (next_call (current log) c x) (Some now)) is rows

  pub link_item : (moved : LinkCopying) (did : Did) → (c.stage ≡ at.Make → IsOpenTo log name l c.part c.target) → Tells c did moved → LinkCalls c did log (Some now) → link_progress moved.stage ≡ UnderWay → HasItem now name l moved.part moved.target
  link_item moved (Began part) open_to (stage, part_is, new_is) (read, rows) going =
      subst (λ (m : LinkCopying). HasItem now name l m.part m.target) (sym new_is) (begun stage (open_to stage) (rows_at at.Make stage rows))
  link_item moved (Placed path) open_to (stage, path_is, new_is) calls going = absurd (not_at_work moved.stage going (ap (λ (m : LinkCopying). m.stage) new_is))
  link_item moved (Cleaned part) open_to (next, stage, part_is, new_is) calls going = absurd (not_cleaned next (sym (ap (λ (m : LinkCopying). link_progress m.stage) new_is) ∙ going))
  link_item moved Barrier open_to (stage, dirty, new_is) calls going = absurd (not_at_work moved.stage going (ap (λ (m : LinkCopying). m.stage) new_is ∙ stage))
  link_item moved (Troubled trouble) open_to (barrier, new_is) calls going =
      subst (λ (m : LinkCopying). HasItem now name l m.part m.target) (sym new_is) (stops c.stage refl trouble.cause trouble.path calls (sym (ap (λ (m : LinkCopying). link_progress m.stage) new_is) ∙ going))
  link_item moved did open_to tells calls going = absurd tells
