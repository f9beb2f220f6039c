-- No open folder is at its end but the innermost, where nothing is left to be done in it: after each step, skip and retry.
use Rattle.std.proofs.Common.{◌≡◌, ℕ, suc, zero, Bool, true, false, List, [], ◌∷◌, refl, sym, ◌∙◌, ap, subst, inl, inr, Option}
use Rattle.std.proofs.lemmas.Bool.{true≢false}
use Rattle.mc_text.specs.Routes.{Route}
use Rattle.tree_trait.specs.Change.{CallLog}
use Rattle.job_reports.specs.declared.job.Pair.{Pair}
use Rattle.job_reports.specs.declared.report.Cause.{Cause}
use Rattle.job_reports.specs.declared.report.Did.{Did}
use Rattle.copy_file.specs.Copying as file
use Rattle.copy_file.specs.Copying.{Copying}
use Rattle.copy_link.specs.LinkCopying as link
use Rattle.copy_link.specs.LinkCopying.{LinkCopying}
use Rattle.copy_folders.specs.FolderCopying.{FolderCopying, Tells, closing, skipped_stage as folder_skipped}
use Rattle.copy_folders.specs.FolderSteps.{Skips as FolderSkips}
use Rattle.copy_folders.specs.declared.stage.FolderDid.{FolderDid}
use Rattle.copy_folders.specs.declared.stage.FolderDid.TheVariants as folder_did
use Rattle.copy_folders.specs.declared.stage.Stage.{Stage}
use Rattle.copy_folders.specs.declared.stage.Stage.TheVariants as at
use Rattle.tree_walk.specs.Places.{opened_folder}
use Rattle.copy_folders.specs.Levels.{Levels, made_levels, passed_levels}
use Rattle.copy_tree.specs.declared.due.Due.TheVariants.{End, Thing}
use Rattle.copy_tree.specs.declared.item.ItemAtWork.{ItemAtWork}
use Rattle.copy_tree.specs.declared.item.ItemAtWork.TheVariants.{Next, File, Link, Stays}
use Rattle.copy_tree.specs.declared.progress.Progress.{Progress}
use Rattle.copy_tree.specs.declared.progress.Progress.TheVariants.{UnderWay, Decided, Anew}
use Rattle.copy_tree.specs.Parts.{IsPartPlace}
use Rattle.copy_tree.specs.Progress.{link_progress, progress}
use Rattle.copy_tree.specs.Skipping.{SkipsAt, SkipsNamed, retried_at}
use Rattle.copy_tree.specs.Reports.{IsToldAs}
use Rattle.copy_tree.specs.Standing.{Seen, after_report, due_at}
use Rattle.copy_tree.specs.TreeCopySteps.{FolderMakes, LeavesAll, LinkWorks, SyncsAround, TakesNext, WorksOn, at_end, idle, link_begun, noted_copy, copy_after_progress}
use Rattle.job_answers.specs.declared.replies.Replies.{Replies}
use Rattle.laws_sessions.proofs.FileMoves.{FileMoves, taken_moves, worked_moves}
use Rattle.laws_sessions.proofs.FoldersEnd.{AllFilled, EndLaw, EndsLast, IsOver, is_filled, is_open}

-- the same folders are open, and the innermost is filled still
pub record SameEnds (old new : Levels) : Type 0 where
  pub stage : new.inner.copy.stage ≡ old.inner.copy.stage
  pub around : new.around ≡ old.around

filled_open : (stage : Stage) → is_filled stage ≡ true → is_open stage ≡ true
filled_open (at.Fill owed) is = refl
filled_open (at.Make mode) is = is
filled_open (at.Close owed) is = refl
filled_open at.Done is = is

closing_open : (stage : Stage) → is_open stage ≡ true → is_open (closing stage) ≡ true
closing_open (at.Fill owed) is = refl
closing_open (at.Make mode) is = is
closing_open (at.Close owed) is = refl
closing_open at.Done is = is

skipped_open : (stage : Stage) → is_open stage ≡ true → is_open (folder_skipped stage) ≡ true
skipped_open (at.Fill owed) is = refl
skipped_open (at.Make mode) is = is
skipped_open (at.Close owed) is = refl
skipped_open at.Done is = is

-- a step at a folder leaves it open
end_open : (c moved : FolderCopying) (report : FolderDid) (did : Did) → Tells c report moved → IsToldAs report did → is_open c.stage ≡ true → is_open moved.stage ≡ true
end_open c moved (folder_did.Made path) did (mode, stage, path_is, new_is) says is = absurd (true≢false (sym is ∙ ap is_open stage))
end_open c moved (folder_did.Set path) did (mode, stage, path_is, new_is) says is = ap (λ (x : FolderCopying). is_open x.stage) new_is
end_open c moved folder_did.Barrier did (stage, dirty, new_is) says is = ap (λ (x : FolderCopying). is_open x.stage) new_is ∙ is
end_open c moved folder_did.Closed did tells says is = absurd says
end_open c moved (folder_did.Troubled trouble) did (barrier, new_is) says is = ap (λ (x : FolderCopying). is_open x.stage) new_is ∙ is

skip_open : (cause : Cause) (c moved : FolderCopying) (did : Did) → FolderSkips cause c did moved → is_open c.stage ≡ true → is_open moved.stage ≡ true
skip_open cause c moved did (inl s) is = ap (λ (x : FolderCopying). is_open x.stage) s.1 ∙ skipped_open c.stage is
skip_open cause c moved did (inr room) is = ap (λ (x : FolderCopying). is_open x.stage) room.1 ∙ is

same_ends : (old new : Seen) → is_filled old.levels.inner.copy.stage ≡ true → AllFilled old.levels.around → SameEnds old.levels new.levels → EndsLast new
same_ends old new filled around s = record {
  open_still = ap is_open s.stage ∙ filled_open old.levels.inner.copy.stage filled;
  inner = λ over. absurd (true≢false (sym filled ∙ (sym (ap is_filled s.stage) ∙ over)));
  around = subst AllFilled (sym s.around) around;
}

-- a folder that is over stays so
over_ends : (old new : Seen) → is_open new.levels.inner.copy.stage ≡ true → new.item ≡ Next → new.levels.inner.names.names ≡ [] → new.levels.around ≡ old.levels.around → AllFilled old.levels.around → EndsLast new
over_ends old new still none last same around = record { open_still = still; inner = λ ended. record { none = none; last = last }; around = subst AllFilled (sym same) around }

settled_ends : (p : Progress) (item : ItemAtWork) (c : Seen) → SameEnds c.levels (let s : Seen = copy_after_progress p item c in s.levels)
settled_ends UnderWay item c = record { stage = refl; around = refl }
settled_ends Decided item c = record { stage = refl; around = refl }
settled_ends Anew item c = record { stage = refl; around = refl }

noted_ends : (p : Progress) (item : ItemAtWork) (did : Did) (changed : Bool) (c : Seen) → SameEnds c.levels (let s : Seen = copy_after_progress p item (noted_copy did changed c) in s.levels)
noted_ends UnderWay item did true c = record { stage = refl; around = refl }
noted_ends UnderWay item did false c = record { stage = refl; around = refl }
noted_ends Decided item did true c = record { stage = refl; around = refl }
noted_ends Decided item did false c = record { stage = refl; around = refl }
noted_ends Anew item did true c = record { stage = refl; around = refl }
noted_ends Anew item did false c = record { stage = refl; around = refl }

as_new : (old mid new : Seen) → new ≡ mid → SameEnds old.levels mid.levels → SameEnds old.levels new.levels
as_new old mid new is s = record { stage = ap (λ (c : Seen). c.levels.inner.copy.stage) is ∙ s.stage; around = ap (λ (c : Seen). c.levels.around) is ∙ s.around }

-- a folder in which something is met next, or is at work, is filled
pub filled_if : (c : Seen) → EndsLast c → (IsOver c → ⊥) → is_filled c.levels.inner.copy.stage ≡ true
filled_if c ends busy = by (is_filled c.levels.inner.copy.stage) refl
  where
    by : (b : Bool) → is_filled c.levels.inner.copy.stage ≡ b → is_filled c.levels.inner.copy.stage ≡ true
    by true is = is
    by false is = absurd (busy (ends.inner is))

pub met_not : (names : List (List ℕ)) (c : Seen) (pair : Pair) → due_at names c ≡ Thing pair → names ≡ [] → ⊥
met_not [] c pair is none = (let f : ⊥ = cc in f)
met_not (name ∷ names) c pair is none = (let f : ⊥ = cc in f)

end_last : (names : List (List ℕ)) (c : Seen) → due_at names c ≡ End → names ≡ []
end_last [] c is = refl
end_last (name ∷ names) c is = absurd (let f : ⊥ = cc in f)

pub leaves_end : (n : ℕ) (old mid : Seen) → LeavesAll n old mid → EndsLast old → EndsLast mid
leaves_end zero old mid is ends = subst EndsLast (sym is) ends
leaves_end (suc n) old mid (last, all, none, one) ends =
    let r = one.returns in
    let left = r.left in
    let k = leaves_end n old last all ends in
    let around : AllFilled (mid.levels.inner ∷ mid.levels.around) = subst AllFilled left.was k.around in
    record { open_still = filled_open mid.levels.inner.copy.stage around.0; inner = λ over. absurd (true≢false (sym around.0 ∙ over)); around = around.1 }

module _ (unclaimed : Route → Type 0) (replies : Replies) (old new : Seen) (did : Did) (before after : Option CallLog) (ends : EndsLast old) where
  kept : (IsOver old → ⊥) → SameEnds old.levels new.levels → EndsLast new
  kept busy s = same_ends old new (filled_if old ends busy) ends.around s

  file_ends : (f : Copying) → (IsOver old → ⊥) → FileMoves unclaimed f old new did before after → EndsLast new
  file_ends f busy w = kept busy (let m = w.moved in as_new old _ new w.stands (noted_ends (progress m.stage) (File m) did (file.is_dirty m.folder) (idle old)))

  link_ends : (l : LinkCopying) → (IsOver old → ⊥) → LinkWorks l old new did before after → EndsLast new
  link_ends l busy w = kept busy (let m = w.moved in as_new old _ new w.stands (noted_ends (link_progress m.stage) (Link m) did (link.is_dirty m.folder) (idle old)))

  -- where the copy stands, once the machine of a folder to be made stands at a stage
  made_ends : (pair : Pair) (names : List (List ℕ)) (moved : FolderCopying) (stage : Stage) → moved.stage ≡ stage → is_filled old.levels.inner.copy.stage ≡ true
      → EndsLast (record old { stage = after_report did old.stage; levels = made_levels stage (opened_folder pair.source names) moved old.levels })
  made_ends pair names moved (at.Fill owed) is filled =
      record { open_still = ap is_open is; inner = λ over. absurd (true≢false (sym (ap is_filled is) ∙ over)); around = (filled, ends.around) }
  made_ends pair names moved (at.Make mode) is filled = record { open_still = ends.open_still; inner = λ over. absurd (true≢false (sym filled ∙ over)); around = ends.around }
  made_ends pair names moved (at.Close owed) is filled = record { open_still = ends.open_still; inner = λ over. absurd (true≢false (sym filled ∙ over)); around = ends.around }
  made_ends pair names moved at.Done is filled = record { open_still = ends.open_still; inner = λ over. absurd (true≢false (sym filled ∙ over)); around = ends.around }

  makes_ends : (pair : Pair) (names : List (List ℕ)) (mode : ℕ) → (IsOver old → ⊥) → FolderMakes pair names mode old new did before after → EndsLast new
  makes_ends pair names mode busy w = subst EndsLast (sym w.stands) (let m = w.moved in made_ends pair names m m.stage refl (filled_if old ends busy))

  takes_ends : old.item ≡ Next → TakesNext unclaimed replies old new did before after → EndsLast new
  takes_ends none (inl s) = subst EndsLast (sym s.stands) ends
  takes_ends none (inr (inl t)) = file_ends (file.begun_copy old.job t.pair.source t.pair.target) (λ over. met_not old.levels.inner.names.names old t.pair t.next over.last) (taken_moves unclaimed replies old new did before after t)
  takes_ends none (inr (inr (inl t))) = link_ends (link_begun t.pair t.part) (λ over. met_not old.levels.inner.names.names old t.pair t.next over.last) t.works
  takes_ends none (inr (inr (inr (inl t)))) = makes_ends t.pair t.names t.mode (λ over. met_not old.levels.inner.names.names old t.pair t.next over.last) t.works
  takes_ends none (inr (inr (inr (inr (inl t))))) =
      kept (λ over. met_not old.levels.inner.names.names old t.pair t.next over.last) (as_new old (record old { levels = passed_levels false old.levels }) new t.stands (record { stage = refl; around = refl }))
  takes_ends none (inr (inr (inr (inr (inr (inl t)))))) =
      kept (λ over. met_not old.levels.inner.names.names old t.pair t.next over.last) (as_new old (record old { levels = passed_levels false old.levels }) new t.stands (record { stage = refl; around = refl }))
  takes_ends none (inr (inr (inr (inr (inr (inr (inl t))))))) = subst EndsLast (sym t.stands) ends
  takes_ends none (inr (inr (inr (inr (inr (inr (inr (next, inl (debt, e))))))))) =
      over_ends old new (ap (λ (c : Seen). is_open c.levels.inner.copy.stage) e.stands ∙ end_open (let c = at_end old in c.levels.inner.copy) e.moved e.report did e.tells e.says (closing_open old.levels.inner.copy.stage ends.open_still)) (ap (λ (c : Seen). c.item) e.stands ∙ none) (ap (λ (c : Seen). c.levels.inner.names.names) e.stands ∙ end_last old.levels.inner.names.names old next) (ap (λ (c : Seen). c.levels.around) e.stands) ends.around
  takes_ends none (inr (inr (inr (inr (inr (inr (inr (next, inr (debt, f, same))))))))) =
      over_ends old new (ap (λ (c : Seen). is_open c.levels.inner.copy.stage) f.stands ∙ closing_open old.levels.inner.copy.stage ends.open_still) (ap (λ (c : Seen). c.item) f.stands ∙ none) (ap (λ (c : Seen). c.levels.inner.names.names) f.stands ∙ end_last old.levels.inner.names.names old next) (ap (λ (c : Seen). c.levels.around) f.stands) ends.around

  syncs_ends : old.item ≡ Next → SyncsAround old new did before after → EndsLast new
  syncs_ends none s =
      let was : AllFilled (s.outer ∷ s.around) = subst AllFilled s.was ends.around in
      subst EndsLast (sym s.stands) (record { open_still = ends.open_still; inner = λ ended. (let over = ends.inner ended in record { none = over.none; last = over.last }); around = was })

  works_ends : (item : ItemAtWork) → old.item ≡ item → WorksOn item unclaimed replies old new did before after → EndsLast new
  works_ends Next is (inl s) = syncs_ends is s
  works_ends Next is (inr takes) = takes_ends is takes.1
  works_ends (File f) is w = file_ends f (λ over. let e : File f ≡ Next = sym is ∙ over.none in let x : ⊥ = cc in x) (worked_moves unclaimed f old new did before after w)
  works_ends (Link l) is w = link_ends l (λ over. let e : Link l ≡ Next = sym is ∙ over.none in let x : ⊥ = cc in x) w
  works_ends (Stays part) is w = absurd w

module _ (cause : Cause) (old new : Seen) (did : Did) (ends : EndsLast old) where
  named_ends : (names : List (List ℕ)) → old.levels.inner.names.names ≡ names → old.item ≡ Next → SkipsNamed names cause old did new → EndsLast new
  named_ends [] is none (moved, skips, stands) =
      over_ends old new (ap (λ (c : Seen). is_open c.levels.inner.copy.stage) stands ∙ skip_open cause old.levels.inner.copy moved did skips ends.open_still) (ap (λ (c : Seen). c.item) stands ∙ none) (ap (λ (c : Seen). c.levels.inner.names.names) stands ∙ is) (ap (λ (c : Seen). c.levels.around) stands) ends.around
  named_ends (name ∷ names) is none skips = by skips
    where
      filled : is_filled old.levels.inner.copy.stage ≡ true
      filled = filled_if old ends (λ over. let e : (name ∷ names) ≡ [] = sym is ∙ over.last in let f : ⊥ = cc in f)

      by : SkipsNamed (name ∷ names) cause old did new → EndsLast new
      by (inl s) = same_ends old new filled ends.around (as_new old _ new s.1 (record { stage = refl; around = refl }))
      by (inr (inl (long, inl s))) = same_ends old new filled ends.around (as_new old _ new s.1 (record { stage = refl; around = refl }))
      by (inr (inl (long, inr room))) = subst EndsLast (sym room.1) ends
      by (inr (inr room)) = subst EndsLast (sym room.1) ends

  skips_end : (item : ItemAtWork) → old.item ≡ item → SkipsAt item cause old did new → EndsLast new
  skips_end Next is s = named_ends old.levels.inner.names.names refl is s
  skips_end (File f) is (moved, skips, stands) =
      same_ends old new (filled_if old ends (λ over. let e : File f ≡ Next = sym is ∙ over.none in let x : ⊥ = cc in x)) ends.around (as_new old _ new stands (settled_ends (progress moved.stage) (File moved) (idle old)))
  skips_end (Link l) is (moved, skips, stands) =
      same_ends old new (filled_if old ends (λ over. let e : Link l ≡ Next = sym is ∙ over.none in let x : ⊥ = cc in x)) ends.around (as_new old _ new stands (settled_ends (link_progress moved.stage) (Link moved) (idle old)))
  skips_end (Stays part) is s = absurd s

retries_end : (item : ItemAtWork) (c : Seen) → c.item ≡ item → EndsLast c → EndsLast (retried_at item c)
retries_end Next c is ends = ends
retries_end (File f) c is ends = same_ends c _ (filled_if c ends (λ over. let e : File f ≡ Next = sym is ∙ over.none in let x : ⊥ = cc in x)) ends.around (settled_ends (progress (file.taken_anew f.stage)) (File (record f { stage = file.taken_anew f.stage })) (idle c))
retries_end (Link l) c is ends = same_ends c _ (filled_if c ends (λ over. let e : Link l ≡ Next = sym is ∙ over.none in let x : ⊥ = cc in x)) ends.around (settled_ends (link_progress (link.taken_anew l.stage)) (Link (record l { stage = link.taken_anew l.stage })) (idle c))
retries_end (Stays part) c is ends = ends

pub end_law : EndLaw
end_law = record {
  begins = λ job source target. record { open_still = refl; inner = λ over. absurd (true≢false over); around = tt };
  step = λ free replies old new did calls before after f0 f1 s ends.
      let mid = s.mid in works_ends (IsPartPlace free mid) replies mid new did before after (leaves_end s.folders old mid s.leaves ends) mid.item refl s.works;
  skip = λ cause old new did s ends. skips_end cause old new did ends old.item refl s;
  retry = λ c ends. retries_end c.item c refl ends;
}
