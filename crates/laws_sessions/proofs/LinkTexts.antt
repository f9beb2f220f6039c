-- The part of a link after a step of the link's copy has the text that its source has.
use Rattle.std.specs.Prelude.{pos, is_none, is_some, not, option_and_then, unwrap_or}
use Rattle.std.proofs.Common.{◌≡◌, ℕ, true, List, [], ◌∷◌, refl, sym, ◌∙◌, ap, subst, inl, inr, Option, Some, None}
use Rattle.std.proofs.lemmas.Bool.{false≢true, true≢false}
use Rattle.mc_text.specs.Routes.{Route}
use Rattle.mc_text.specs.declared.kind.Kind.TheVariants as kind
use Rattle.tree_trait.specs.declared.calls.TreeError.TheVariants.{Exists, Missing, Special}
use Rattle.tree_trait.specs.declared.file_system.FileSystem.{FileSystem}
use Rattle.tree_trait.specs.declared.file_system.Node.{Node}
use Rattle.tree_trait.specs.Calls.{MakeLink, ReadLink, RemoveFile, Rename}
use Rattle.tree_trait.specs.Change.{Makes, CallLog, change_of, current, found_node, with_change}
use Rattle.tree_trait.specs.FileSystem.{find, lookup, node}
use Rattle.tree_trait.specs.Refusals.{denied_access, exists, first_of, folder_of, is_link, missing, refusal_of, thing, walk}
use Rattle.tree_trait.specs.Shape.{IsTree}
use Rattle.tree_trait.proofs.Kept.{at_more}
use Rattle.tree_trait.proofs.Walking.{check_passes, passed_walk, some_there, walk-find}
use Rattle.laws_crash.proofs.Guarding.{find_same, found_there}
use Rattle.laws_crash.proofs.Leading.{current_more}
use Rattle.laws_crash.proofs.Tops.{none_below, under_made}
use Rattle.job_reports.specs.CallRuns.{AllDone}
use Rattle.job_reports.specs.declared.report.Cause.{Cause}
use Rattle.job_reports.specs.declared.report.Did.{Did}
use Rattle.job_reports.specs.declared.report.Did.TheVariants.{Began, Chunk, Placed, Removed, Made, Set, Kept, Skipped, Cleaned, Barrier, Asked, Merges, Moved, Troubled, Ended}
use Rattle.job_reports.proofs.CallAnswers.{done_call}
use Rattle.job_reports.proofs.PermittedCalls.{IsMaking, making_passes}
use Rattle.copy_link.specs.LinkCopying.{LinkCopying, Tells, after_clean, has_part}
use Rattle.copy_link.specs.LinkSteps.{IsRead, LinkCalls, LinkStops, link_text, next_call}
use Rattle.copy_link.specs.declared.stage.Next.{Next as Follows}
use Rattle.copy_link.specs.declared.stage.Next.TheVariants as follows
use Rattle.copy_link.specs.declared.stage.Stage.{Stage}
use Rattle.copy_link.specs.declared.stage.Stage.TheVariants as at
use Rattle.laws_sessions.proofs.PartTexts.{IsLinkAs}
use Rattle.laws_sessions.proofs.ItemLinks.{no_row}
use Rattle.laws_sessions.proofs.PartMade.{made_is, made_leads}
use Rattle.laws_sessions.proofs.QuietRuns.{row_done, row_stops}
use Rattle.laws_sessions.proofs.Refused.{refused_still}

-- what can be read as a link is there
read_finds : (s : FileSystem) (path : Route) → refusal_of s (ReadLink path) ≡ None → (i : ℕ) × (find s path ≡ Some i)
read_finds s path h =
    let w = passed_walk (walk s path) (λ p. first_of (missing p ∷ (not (is_link (thing s p)), Special) ∷ [])) h in
    let t = some_there w.0.there (check_passes (is_none w.0.there) Missing _ w.2).0 in
    (t.0, walk-find s path w.0 w.1 ∙ t.1)

-- what may be made is not the root
part_named : (s : FileSystem) (part : Route) (text : List ℕ) → refusal_of s (MakeLink part text) ≡ None → (k : List ℕ) × (up : Route) × (part ≡ k ∷ up)
part_named s [] text h =
    let w = passed_walk (walk s []) (λ p. first_of (exists p ∷ denied_access 0o200 (folder_of s p) ∷ [])) h in
    let a = check_passes (is_some w.0.there) Exists _ w.2 in
    absurd (true≢false (ap is_some (walk-find s [] w.0 w.1) ∙ a.0))
part_named s (k ∷ up) text h = (k, up, refl)

-- a link that is made beside others leaves their texts
module _ (log : CallLog) (tree : IsTree (current log)) (k : List ℕ) (up : Route) (made : Node) (making : IsMaking (current log) k up) (source : Route) (there : (i : ℕ) × (find (current log) source ≡ Some i)) where
  abbrev after : CallLog
  after = with_change log (Makes (found_node (current log) up) k made)

  free : find (current log) (k ∷ up) ≡ None
  free = ap (option_and_then (λ f. lookup (let s = current log in s.names) f k)) making.folder ∙ making.none

  source_leads : find (current after) source ≡ Some there.0
  source_leads = elim (find_same log (Makes (found_node (current log) up) k made) source) [
    | inl same ↦ same ∙ there.1
    | inr under ↦
        let u = under_made log tree up (found_node (current log) up) making.folder k made source under in
        absurd (let e : Some there.0 ≡ None = sym there.1 ∙ (ap (find (current log)) u.1 ∙ none_below log u.0 (k ∷ up) free) in let f : ⊥ = cc in f)
  ]

  source_node : node (current after) there.0 ≡ node (current log) there.0
  source_node = ap (λ (s : FileSystem). node s there.0) (current_more log (Makes (found_node (current log) up) k made)) ∙ at_more (let s = current log in s.nodes) made there.0 (found_there (current log) tree source there.0 there.1)

  text_at : (s : FileSystem) (i : ℕ) → find s source ≡ Some i → link_text s source ≡ (let n = node s i in n.bytes)
  text_at s i is = ap (λ o. (let n = node s (unwrap_or o 0) in n.bytes)) is

  source_text : link_text (current after) source ≡ link_text (current log) source
  source_text = text_at (current after) there.0 source_leads ∙ (ap (λ (n : Node). n.bytes) source_node ∙ sym (text_at (current log) there.0 there.1))

  made_link : made.kind ≡ kind.Link → made.bytes ≡ link_text (current log) source → IsLinkAs (current after) (k ∷ up) source
  made_link link text = record {
    i = _;
    leads = made_leads log tree k up made making;
    link = ap (λ (n : Node). n.kind) (made_is log tree k up made making) ∙ link;
    text = ap (λ (n : Node). n.bytes) (made_is log tree k up made making) ∙ (text ∙ sym source_text);
  }

no_part : (next : Follows) → has_part (after_clean next) ≡ true → ⊥
no_part follows.Again has = false≢true has
no_part follows.Decided has = false≢true has

module _ (log now : CallLog) (tree : IsTree (current log)) (c : LinkCopying) where
  rows_at : (stage : Stage) → c.stage ≡ stage → AllDone log (next_call (current log) c c.stage) (Some now) → AllDone log (next_call (current log) c stage) (Some now)
  rows_at stage is rows = subst (λ x. AllDone log (next_call (current log) c x) (Some now)) is rows

  begun : refusal_of (current log) (ReadLink c.source) ≡ None → AllDone log (MakeLink c.part (link_text (current log) c.source) ∷ []) (Some now) → IsLinkAs (current now) c.part c.source
  begun read rows =
      let text = link_text (current log) c.source in
      let d = done_call log (MakeLink c.part text) now (row_done log now (MakeLink c.part text) rows) in
      let b = part_named (current log) c.part text d.permits in
      let permits : refusal_of (current log) (MakeLink (b.0 ∷ b.1) text) ≡ None = subst (λ r. refusal_of (current log) (MakeLink r text) ≡ None) b.2 d.permits in
      let made : Node = record { kind = kind.Link; bytes = text; mode = 0; mtime = pos 0; unnamed = 0 } in
      let is : now ≡ with_change log (Makes (found_node (current log) b.1) b.0 made) = subst (λ r. now ≡ with_change log (change_of (current log) (MakeLink r text) d.time)) b.2 d.is in
      subst (λ r. IsLinkAs (current now) r c.source) (sym b.2)
      (subst (λ (x : CallLog). IsLinkAs (current x) (b.0 ∷ b.1) c.source) (sym is)
      (made_link log tree b.0 b.1 made (making_passes (current log) b.0 b.1 0 permits) c.source (read_finds (current log) c.source read) refl refl))

  -- a call that was refused leaves the tree as it was
  still : (stage : Stage) → (why : Cause) (path : Option Route) → LinkStops c stage why path log (Some now) → has_part stage ≡ true → current now ≡ current log
  still at.Make why path calls has = absurd (false≢true has)
  still at.Place why path run has = elim (row_stops log now (Rename c.part c.target) why path run) [ inl same ↦ ap current same | inr e ↦ refused_still log now (Rename c.part c.target) e.0 (λ left. refl) e.1 ]
  still (at.Clean next) why path run has = elim (row_stops log now (RemoveFile c.part) why path run) [ inl same ↦ ap current same | inr e ↦ refused_still log now (RemoveFile c.part) e.0 (λ left. refl) e.1 ]
  still at.Left why path run has = absurd (no_row log now why path run)
  still at.Decided why path run has = absurd (false≢true has)
  still at.Again why path run has = absurd (false≢true has)

  pub text_after : (moved : LinkCopying) (did : Did) → Tells c did moved → LinkCalls c did log (Some now) → (has_part c.stage ≡ true → IsLinkAs (current log) c.part c.source) → has_part moved.stage ≡ true → IsLinkAs (current now) moved.part moved.source
  text_after moved (Began part) (stage, part_is, new_is) (read, rows) known has = subst (λ (m : LinkCopying). IsLinkAs (current now) m.part m.source) (sym new_is) (begun (subst (λ x. IsRead (current log) c.source x) stage read) (rows_at at.Make stage rows))
  text_after moved (Placed path) (stage, path_is, new_is) calls known has = absurd (false≢true (sym (ap (λ (m : LinkCopying). has_part m.stage) new_is) ∙ has))
  text_after moved (Cleaned part) (next, stage, part_is, new_is) calls known has = absurd (no_part next (sym (ap (λ (m : LinkCopying). has_part m.stage) new_is) ∙ has))
  text_after moved Barrier (stage, dirty, new_is) calls known has = absurd (false≢true (sym (ap (λ (m : LinkCopying). has_part m.stage) new_is ∙ ap has_part stage) ∙ has))
  text_after moved (Troubled trouble) (barrier, new_is) calls known has =
      let stands : has_part c.stage ≡ true = sym (ap (λ (m : LinkCopying). has_part m.stage) new_is) ∙ has in
      subst (λ (m : LinkCopying). IsLinkAs (current now) m.part m.source) (sym new_is)
      (subst (λ (s : FileSystem). IsLinkAs s c.part c.source) (sym (still c.stage trouble.cause trouble.path calls stands)) (known stands))
  text_after moved did tells calls known has = absurd tells
