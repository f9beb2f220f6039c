-- The text of a link's part, after each step, skip and retry of a copy.
use Rattle.std.proofs.Common.{◌≡◌, ℕ, suc, zero, true, List, [], ◌∷◌, refl, sym, ◌∙◌, ap, subst, inl, inr, Some}
use Rattle.std.proofs.lemmas.Bool.{false≢true}
use Rattle.mc_text.specs.Routes.{Route}
use Rattle.tree_trait.specs.Change.{CallLog, current}
use Rattle.tree_trait.specs.Shape.{IsTree}
use Rattle.job_reports.specs.declared.report.Cause.{Cause}
use Rattle.job_reports.specs.declared.report.Did.{Did}
use Rattle.copy_file.specs.Copying as file
use Rattle.copy_file.specs.Copying.{Copying, taken_anew as file_anew}
use Rattle.copy_link.specs.LinkCopying as link
use Rattle.copy_link.specs.LinkCopying.{LinkCopying, has_part, skipped_stage as link_skipped, taken_anew as link_anew}
use Rattle.copy_link.specs.LinkSteps.{Skips as LinkSkips}
use Rattle.copy_link.specs.declared.stage.Stage.{Stage}
use Rattle.copy_link.specs.declared.stage.Stage.TheVariants as at
use Rattle.copy_tree.specs.declared.item.ItemAtWork.{ItemAtWork}
use Rattle.copy_tree.specs.declared.item.ItemAtWork.TheVariants.{Next, File, Link, Stays}
use Rattle.copy_tree.specs.declared.progress.Progress.{Progress}
use Rattle.copy_tree.specs.declared.progress.Progress.TheVariants.{UnderWay, Decided, Anew}
use Rattle.copy_tree.specs.Parts.{IsPartPlace}
use Rattle.copy_tree.specs.Progress.{link_progress, progress}
use Rattle.copy_tree.specs.Skipping.{SkipsAt, SkipsNamed, retried_at}
use Rattle.copy_tree.specs.Standing.{Seen}
use Rattle.copy_tree.specs.TreeCopySteps.{LeavesAll, LinkWorks, TakesNext, WorksOn, idle, link_begun, noted_copy, copy_after_progress}
use Rattle.job_answers.specs.declared.replies.Replies.{Replies}
use Rattle.laws_sessions.proofs.FileMoves.{FileMoves, taken_moves, worked_moves}
use Rattle.laws_sessions.proofs.PartTexts.{TextKnown, TextLaw}
use Rattle.laws_sessions.proofs.LinkTexts.{text_after}

-- nothing is at work
none_known : (log : CallLog) (item : ItemAtWork) → item ≡ Next → TextKnown log item
none_known log item is = subst (TextKnown log) (sym is) tt

settled_text : (log : CallLog) (p : Progress) (item : ItemAtWork) (c : Seen) → c.item ≡ Next → TextKnown log item → (let s : Seen = copy_after_progress p item c in TextKnown log s.item)
settled_text log UnderWay item c none known = known
settled_text log Decided item c none known = none_known log c.item none
settled_text log Anew item c none known = none_known log c.item none

pub text_left : (n : ℕ) (log : CallLog) (old mid : Seen) → LeavesAll n old mid → TextKnown log old.item → TextKnown log mid.item
text_left zero log old mid is known = subst (λ (c : Seen). TextKnown log c.item) (sym is) known
text_left (suc n) log old mid (last, all, none, one) known = let r = one.returns in none_known log mid.item (ap (λ (c : Seen). c.item) r.stands ∙ none)

module _ (unclaimed : Route → Type 0) (replies : Replies) (old new : Seen) (did : Did) (log now : CallLog) (tree : IsTree (current log)) where
  file_text : (f : Copying) → FileMoves unclaimed f old new did (Some log) (Some now) → TextKnown now new.item
  file_text f w =
      let m = w.moved in
      subst (λ (c : Seen). TextKnown now c.item) (sym w.stands) (settled_text now (progress m.stage) (File m) (noted_copy did (file.is_dirty m.folder) (idle old)) refl tt)

  link_text_after : (l : LinkCopying) → TextKnown log (Link l) → LinkWorks l old new did (Some log) (Some now) → TextKnown now new.item
  link_text_after l known w =
      let m = w.moved in
      subst (λ (c : Seen). TextKnown now c.item) (sym w.stands)
      (settled_text now (link_progress m.stage) (Link m) (noted_copy did (link.is_dirty m.folder) (idle old)) refl (λ has. text_after log now tree l m did w.tells (w.called log refl) known has))

  same : old.item ≡ Next → new.item ≡ old.item → TextKnown now new.item
  same none is = none_known now new.item (is ∙ none)

  next_text : old.item ≡ Next → TakesNext unclaimed replies old new did (Some log) (Some now) → TextKnown now new.item
  next_text none (inl s) = same none (ap (λ (c : Seen). c.item) s.stands)
  next_text none (inr (inl t)) = file_text (file.begun_copy old.job t.pair.source t.pair.target) (taken_moves unclaimed replies old new did (Some log) (Some now) t)
  next_text none (inr (inr (inl t))) = link_text_after (link_begun t.pair t.part) (λ has. absurd (false≢true has)) t.works
  next_text none (inr (inr (inr (inl t)))) = same none (let w = t.works in ap (λ (c : Seen). c.item) w.stands)
  next_text none (inr (inr (inr (inr (inl t))))) = same none (ap (λ (c : Seen). c.item) t.stands)
  next_text none (inr (inr (inr (inr (inr (inl t)))))) = same none (ap (λ (c : Seen). c.item) t.stands)
  next_text none (inr (inr (inr (inr (inr (inr (inl t))))))) = same none (ap (λ (c : Seen). c.item) t.stands)
  next_text none (inr (inr (inr (inr (inr (inr (inr (next, inl (debt, ends))))))))) = same none (ap (λ (c : Seen). c.item) ends.stands)
  next_text none (inr (inr (inr (inr (inr (inr (inr (next, inr (debt, f, stays))))))))) = same none (ap (λ (c : Seen). c.item) f.stands)

  works_text : (item : ItemAtWork) → old.item ≡ item → WorksOn item unclaimed replies old new did (Some log) (Some now) → TextKnown log item → TextKnown now new.item
  works_text Next is (inl s) known = same is (ap (λ (c : Seen). c.item) s.stands)
  works_text Next is (inr takes) known = next_text is takes.1
  works_text (File f) is w known = file_text f (worked_moves unclaimed f old new did (Some log) (Some now) w)
  works_text (Link l) is w known = link_text_after l known w
  works_text (Stays part) is w known = absurd w

-- what is left, or taken anew
left_part : (stage : Stage) → has_part (link_skipped stage) ≡ true → has_part stage ≡ true
left_part at.Make has = has
left_part at.Place has = refl
left_part (at.Clean next) has = refl
left_part at.Left has = refl
left_part at.Again has = has
left_part at.Decided has = has

anew_part : (stage : Stage) → has_part (link_anew stage) ≡ true → has_part stage ≡ true
anew_part at.Make has = has
anew_part at.Place has = refl
anew_part (at.Clean next) has = refl
anew_part at.Left has = refl
anew_part at.Again has = has
anew_part at.Decided has = has

skipped_text : (log : CallLog) (cause : Cause) (l moved : LinkCopying) (did : Did) → LinkSkips cause l did moved → TextKnown log (Link l) → TextKnown log (Link moved)
skipped_text log cause l moved did (inl s) known = subst (λ (m : LinkCopying). TextKnown log (Link m)) (sym s.1) (λ has. known (left_part l.stage has))
skipped_text log cause l moved did (inr room) known = subst (λ (m : LinkCopying). TextKnown log (Link m)) (sym room.1) known

module _ (log : CallLog) (cause : Cause) (old new : Seen) (did : Did) where
  named_same : (names : List (List ℕ)) → SkipsNamed names cause old did new → new.item ≡ old.item
  named_same [] (moved, skips, stands) = ap (λ (c : Seen). c.item) stands
  named_same (name ∷ names) (inl s) = ap (λ (c : Seen). c.item) s.1
  named_same (name ∷ names) (inr (inl (long, inl s))) = ap (λ (c : Seen). c.item) s.1
  named_same (name ∷ names) (inr (inl (long, inr room))) = ap (λ (c : Seen). c.item) room.1
  named_same (name ∷ names) (inr (inr room)) = ap (λ (c : Seen). c.item) room.1

  skips_text : (item : ItemAtWork) → old.item ≡ item → SkipsAt item cause old did new → TextKnown log item → TextKnown log new.item
  skips_text Next is s known = none_known log new.item (named_same old.levels.inner.names.names s ∙ is)
  skips_text (File f) is (moved, skips, stands) known = subst (λ (c : Seen). TextKnown log c.item) (sym stands) (settled_text log (progress moved.stage) (File moved) (idle old) refl tt)
  skips_text (Link l) is (moved, skips, stands) known =
      subst (λ (c : Seen). TextKnown log c.item) (sym stands) (settled_text log (link_progress moved.stage) (Link moved) (idle old) refl (skipped_text log cause l moved did skips known))
  skips_text (Stays part) is s known = absurd s

retried_text : (log : CallLog) (item : ItemAtWork) (c : Seen) → c.item ≡ item → TextKnown log item → (let r : Seen = retried_at item c in TextKnown log r.item)
retried_text log Next c is known = none_known log c.item is
retried_text log (File f) c is known = settled_text log (progress (file_anew f.stage)) (File (record f { stage = file_anew f.stage })) (idle c) refl tt
retried_text log (Link l) c is known = settled_text log (link_progress (link_anew l.stage)) (Link (record l { stage = link_anew l.stage })) (idle c) refl (λ has. known (anew_part l.stage has))
retried_text log (Stays part) c is known = subst (TextKnown log) (sym is) tt

pub text_law : TextLaw
text_law = record {
  step = λ free replies old new did calls log now f0 f1 s tree known.
      let mid = s.mid in
      works_text (IsPartPlace free mid) replies mid new did log now tree mid.item refl s.works (text_left s.folders log old mid s.leaves known);
  skip = λ log cause old new did s known. skips_text log cause old new did old.item refl s known;
  retry = λ log c known. retried_text log c.item c refl known;
}
