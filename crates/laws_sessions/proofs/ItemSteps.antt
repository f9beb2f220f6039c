-- What is known of the file or link at work, after each step, skip and retry of a copy.
use Rattle.std.proofs.Common.{◌≡◌, ◌⊎◌, None, ℕ, Bool, true, false, List, [], ◌∷◌, refl, sym, ◌∙◌, ap, subst, inl, inr, Some}
use Rattle.mc_text.specs.Routes.{Route}
use Rattle.tree_trait.specs.Change.{CallLog, current}
use Rattle.job_answers.specs.declared.replies.Replies.{Replies}
use Rattle.job_reports.specs.Paths.{folder_of}
use Rattle.job_reports.specs.declared.job.Pair.{Pair}
use Rattle.job_reports.specs.declared.report.Cause.{Cause}
use Rattle.job_reports.specs.declared.report.Did.{Did}
use Rattle.copy_file.specs.Copying as file
use Rattle.copy_file.specs.Copying.{Copying, part_at, skipped_stage as file_skipped, taken_anew as file_anew}
use Rattle.copy_file.specs.CopySteps.{Skips as FileSkips}
use Rattle.copy_file.specs.declared.stage.Stage.{Stage as FileStage}
use Rattle.copy_file.specs.declared.stage.Stage.TheVariants as file_stage
use Rattle.copy_link.specs.LinkCopying as link
use Rattle.copy_link.specs.LinkCopying.{LinkCopying, has_part, skipped_stage as link_skipped, taken_anew as link_anew}
use Rattle.copy_link.specs.LinkSteps.{Skips as LinkSkips}
use Rattle.copy_link.specs.declared.stage.Stage.{Stage as LinkStage}
use Rattle.copy_link.specs.declared.stage.Stage.TheVariants as link_stage
use Rattle.copy_folders.specs.Levels.{Levels, dirtied_levels, is_around_dirty}
use Rattle.copy_tree.specs.declared.due.Due.TheVariants.{Thing}
use Rattle.copy_tree.specs.declared.item.ItemAtWork.{ItemAtWork}
use Rattle.copy_tree.specs.declared.item.ItemAtWork.TheVariants.{Next, File, Link, Stays}
use Rattle.copy_tree.specs.declared.progress.Progress.{Progress}
use Rattle.copy_tree.specs.declared.progress.Progress.TheVariants.{UnderWay, Decided, Anew}
use Rattle.copy_tree.specs.Parts.{IsPartPlace}
use Rattle.copy_tree.specs.Progress.{link_progress, progress}
use Rattle.copy_tree.specs.Skipping.{Skips, SkipsAt, SkipsNamed, SkipsRest, retried_copy, retried_at}
use Rattle.copy_tree.specs.Standing.{Seen, due_at, target_name}
use Rattle.copy_tree.specs.TreeCopySteps.{GoesOn, LinkWorks, TakesFile, TakesLink, TakesNext, WorksOn, idle, is_top, link_begun, noted_copy, copy_after_progress}
use Rattle.copy_tree.proofs.InPlaces.{file_paths, link_paths}
use Rattle.tree_trait.specs.FileSystem.{find}
use Rattle.laws_sessions.proofs.OpenTargets.{taken_bare, taken_free}
use Rattle.laws_sessions.proofs.FileMoves.{FileMoves, taken_moves, worked_moves}
use Rattle.laws_sessions.proofs.AtWork.{HasItem, ItemKnown}
use Rattle.laws_sessions.proofs.ItemFiles.{file_item}
use Rattle.laws_sessions.proofs.ItemLinks.{IsOpenTo, link_item}
use Rattle.laws_sessions.proofs.ItemParts.{IsMetNext}
use Rattle.laws_sessions.proofs.TreeFiles.{FileKnown}
use Rattle.laws_sessions.proofs.TreeLinks.{LinkKnown}
use Rattle.laws_sessions.proofs.TreeSteps.{StepKnown, begun_not, made_not, next_of, taken_file, taken_link, worked_file, worked_link}

-- nothing is at work
none_known : (log : CallLog) (c : Seen) → c.item ≡ Next → ItemKnown log c c.item
none_known log c is = subst (ItemKnown log c) (sym is) tt

-- it is known where the folder that is worked gets dirty
dirty_item : (now : CallLog) (name : List ℕ) (changed : Bool) (l : Levels) (part target : Route) → HasItem now name l part target → HasItem now name (dirtied_levels changed l) part target
dirty_item now name true l part target h = record { work = h.work; off = h.off; free = h.free }
dirty_item now name false l part target h = record { work = h.work; off = h.off; free = h.free }

dirty_folder : (changed : Bool) (l : Levels) → (let d : Levels = dirtied_levels changed l in d.inner.copy.target) ≡ l.inner.copy.target
dirty_folder true l = refl
dirty_folder false l = refl

noted_item : (now : CallLog) (did : Did) (changed : Bool) (c : Seen) (item : ItemAtWork) → ItemKnown now c item → ItemKnown now (noted_copy did changed c) item
noted_item now did changed c Next known = tt
noted_item now did changed c (File f) (clean, going, within, item) = (clean, going, within ∙ sym (dirty_folder changed c.levels), λ part is. dirty_item now c.name changed c.levels part f.target (item part is))
noted_item now did changed c (Link l) (clean, going, within, item) = (clean, going, within ∙ sym (dirty_folder changed c.levels), λ is. dirty_item now c.name changed c.levels l.part l.target (item is))
noted_item now did changed c (Stays part) known = tt

-- what goes on is known, and what is decided or taken up anew isn't at work
settled_item : (now : CallLog) (p : Progress) (item : ItemAtWork) (c : Seen) → c.item ≡ Next → (p ≡ UnderWay → ItemKnown now c item) → (let s : Seen = copy_after_progress p item c in ItemKnown now s s.item)
settled_item now UnderWay item c none known = known refl
settled_item now Decided item c none known = none_known now (copy_after_progress Decided item c) none
settled_item now Anew item c none known = none_known now c none

module _ (free : Route → Bool) (replies : Replies) (old new : Seen) (did : Did) (log now : CallLog) (known : StepKnown log old) where
  abbrev Unclaimed : Route → Type 0
  Unclaimed = IsPartPlace free old

  file_after : (f : Copying) → FileKnown Unclaimed log old.name old.levels f → (f.stage ≡ file_stage.Begin → IsMetNext old.name old.levels f.target × ((find (current log) f.target ≡ None) ⊎ (old.levels.around ≡ []))) → FileMoves Unclaimed f old new did (Some log) (Some now) → ItemKnown now new new.item
  file_after f about met w =
      let moved = w.moved in
      let same = file_paths f moved did w.tells in
      let changed = file.is_dirty moved.folder in
      subst (λ (s : Seen). ItemKnown now s s.item) (sym w.stands) (settled_item now (progress moved.stage) (File moved) (noted_copy did changed (idle old)) refl (λ going.
      noted_item now did changed (idle old) (File moved) (
        about.clean,
        going,
        ap folder_of same.1 ∙ about.within,
        λ part is. subst (λ r. HasItem now old.name old.levels part r) (sym same.1)
            (file_item Unclaimed log now old.name old.levels f about moved did met w.short w.tells (w.called log refl) going part is),
      )))

  link_after : (l : LinkCopying) → LinkKnown log old.name old.levels l → folder_of l.target ≡ old.levels.inner.copy.target → (l.stage ≡ link_stage.Make → IsOpenTo log old.name old.levels l.part l.target)
      → LinkWorks l old new did (Some log) (Some now) → ItemKnown now new new.item
  link_after l link_known within open_to w =
      let moved = w.moved in
      let same = link_paths l moved did w.tells in
      let changed = link.is_dirty moved.folder in
      subst (λ (s : Seen). ItemKnown now s s.item) (sym w.stands) (settled_item now (link_progress moved.stage) (Link moved) (noted_copy did changed (idle old)) refl (λ going.
      noted_item now did changed (idle old) (Link moved) (
        link_known.clean,
        going,
        ap folder_of same.1 ∙ within,
        λ is. link_item log now old.name old.levels l link_known moved did open_to w.tells (w.called log refl) going,
      )))

  -- the target of what is taken up is that of the next name
  met_next : (pair : Pair) → due_at old.levels.inner.names.names old ≡ Thing pair → IsMetNext old.name old.levels pair.target
  met_next pair next =
      let n = next_of old old.levels.inner.names.names pair next in
      record { n = target_name old n.name; is = n.target_is; once = known.once n.name n.rest n.names_are }

  takes_file : is_around_dirty old.levels.around ≡ false → TakesFile Unclaimed replies old new did (Some log) (Some now) → ItemKnown now new new.item
  takes_file clean t = file_after (file.begun_copy old.job t.pair.source t.pair.target) (taken_file free replies old new did log now known clean t) (λ is. (met_next t.pair t.next, taken_free (current log) old.levels.around replies t.pair (t.is log refl).2)) (taken_moves Unclaimed replies old new did (Some log) (Some now) t)

  takes_link : is_around_dirty old.levels.around ≡ false → TakesLink Unclaimed replies old new did (Some log) (Some now) → ItemKnown now new new.item
  takes_link clean t =
      let n = next_of old old.levels.inner.names.names t.pair t.next in
      let chosen = t.chosen log refl in
      let first = chosen.2 in
      let open_to = first.free in
      let is = t.is log refl in
      link_after (link_begun t.pair t.part) (taken_link free replies old new did log now known clean t) (ap folder_of n.target_is)
      (λ stage. record { met = met_next t.pair t.next; apart = λ same. open_to.apart (sym chosen.1 ∙ same); bare = taken_bare (current log) (is_top old) replies t.pair is.1; free = taken_free (current log) old.levels.around replies t.pair is.1 }) t.works

  takes_next : old.item ≡ Next → is_around_dirty old.levels.around ≡ false → TakesNext Unclaimed replies old new did (Some log) (Some now) → ItemKnown now new new.item
  takes_next none clean (inl s) = none_known now new (ap (λ (c : Seen). c.item) s.stands ∙ none)
  takes_next none clean (inr (inl t)) = takes_file clean t
  takes_next none clean (inr (inr (inl t))) = takes_link clean t
  takes_next none clean (inr (inr (inr (inl t)))) = (let w = t.works in none_known now new (ap (λ (c : Seen). c.item) w.stands ∙ none))
  takes_next none clean (inr (inr (inr (inr (inl t))))) = none_known now new (ap (λ (c : Seen). c.item) t.stands ∙ none)
  takes_next none clean (inr (inr (inr (inr (inr (inl t)))))) = none_known now new (ap (λ (c : Seen). c.item) t.stands ∙ none)
  takes_next none clean (inr (inr (inr (inr (inr (inr (inl t))))))) = none_known now new (ap (λ (c : Seen). c.item) t.stands ∙ none)
  takes_next none clean (inr (inr (inr (inr (inr (inr (inr (next, inl (debt, ends))))))))) = none_known now new (ap (λ (c : Seen). c.item) ends.stands ∙ none)
  takes_next none clean (inr (inr (inr (inr (inr (inr (inr (next, inr (debt, f, same))))))))) = none_known now new (ap (λ (c : Seen). c.item) f.stands ∙ none)

  goes_on : old.item ≡ Next → GoesOn Unclaimed replies old new did (Some log) (Some now) → ItemKnown now new new.item
  goes_on none (inl s) = none_known now new (ap (λ (c : Seen). c.item) s.stands ∙ none)
  goes_on none (inr (clean, takes)) = takes_next none clean takes

  pub works_item : (item : ItemAtWork) → old.item ≡ item → ItemKnown log old item → WorksOn item Unclaimed replies old new did (Some log) (Some now) → ItemKnown now new new.item
  works_item Next none item w = goes_on none w
  works_item (File f) is item w = file_after f (worked_file free replies old new did log now known f item) (λ begin. absurd (begun_not f.stage item.1 begin)) (worked_moves Unclaimed f old new did (Some log) (Some now) w)
  works_item (Link l) is item w = link_after l (worked_link free replies old new did log now known l item) item.2 (λ make. absurd (made_not l.stage item.1 make)) w
  works_item (Stays part) is item w = absurd w

-- A skip and a retry leave the part where it stands.
same_part : (stage : FileStage) (part : Route) → part_at (file_skipped stage) ≡ Some part → part_at stage ≡ Some part
same_part file_stage.Begin part is = (let f : ⊥ = cc in absurd f)
same_part (file_stage.Fill p facts done) part is = is
same_part (file_stage.Clean p next) part is = is
same_part (file_stage.Left p) part is = is
same_part file_stage.Decided part is = (let f : ⊥ = cc in absurd f)

anew_part : (stage : FileStage) (part : Route) → part_at (file_anew stage) ≡ Some part → part_at stage ≡ Some part
anew_part file_stage.Begin part is = (let f : ⊥ = cc in absurd f)
anew_part (file_stage.Fill p facts done) part is = is
anew_part (file_stage.Clean p next) part is = is
anew_part (file_stage.Left p) part is = is
anew_part file_stage.Decided part is = (let f : ⊥ = cc in absurd f)

skipped_has : (stage : LinkStage) → has_part (link_skipped stage) ≡ true → has_part stage ≡ true
skipped_has link_stage.Make is = (let f : ⊥ = cc in absurd f)
skipped_has link_stage.Place is = refl
skipped_has (link_stage.Clean next) is = refl
skipped_has link_stage.Left is = refl
skipped_has link_stage.Again is = (let f : ⊥ = cc in absurd f)
skipped_has link_stage.Decided is = (let f : ⊥ = cc in absurd f)

anew_has : (stage : LinkStage) → has_part (link_anew stage) ≡ true → has_part stage ≡ true
anew_has link_stage.Make is = (let f : ⊥ = cc in absurd f)
anew_has link_stage.Place is = refl
anew_has (link_stage.Clean next) is = refl
anew_has link_stage.Left is = refl
anew_has link_stage.Again is = (let f : ⊥ = cc in absurd f)
anew_has link_stage.Decided is = (let f : ⊥ = cc in absurd f)

module _ (log : CallLog) (c : Seen) where
  -- the same file, at a stage whose part stands where it stood
  file_stays : (f moved : Copying) → moved.target ≡ f.target → ((part : Route) → part_at moved.stage ≡ Some part → part_at f.stage ≡ Some part) → ItemKnown log c (File f)
      → (let s : Seen = copy_after_progress (progress moved.stage) (File moved) (idle c) in ItemKnown log s s.item)
  file_stays f moved same part_same (clean, going, within, item) =
      settled_item log (progress moved.stage) (File moved) (idle c) refl (λ on. (clean, on, ap folder_of same ∙ within, λ part is. subst (λ r. HasItem log c.name c.levels part r) (sym same) (item part (part_same part is))))

  link_stays : (l moved : LinkCopying) → moved.target ≡ l.target → moved.part ≡ l.part → (has_part moved.stage ≡ true → has_part l.stage ≡ true) → ItemKnown log c (Link l)
      → (let s : Seen = copy_after_progress (link_progress moved.stage) (Link moved) (idle c) in ItemKnown log s s.item)
  link_stays l moved same part_same has (clean, going, within, item) =
      settled_item log (link_progress moved.stage) (Link moved) (idle c) refl
      (λ on. (clean, on, ap folder_of same ∙ within, λ is. subst (λ p. HasItem log c.name c.levels p moved.target) (sym part_same) (subst (λ r. HasItem log c.name c.levels l.part r) (sym same) (item (has is)))))

  skipped_file : (cause : Cause) (f moved : Copying) (did : Did) → FileSkips cause f did moved → ItemKnown log c (File f) → (let s : Seen = copy_after_progress (progress moved.stage) (File moved) (idle c) in ItemKnown log s s.item)
  skipped_file cause f moved did (inl done) known =
      file_stays f moved (ap (λ (x : Copying). x.target) done.1) (λ part is. same_part f.stage part (sym (ap (λ (x : Copying). part_at x.stage) done.1) ∙ is)) known
  skipped_file cause f moved did (inr room) known = file_stays f moved (ap (λ (x : Copying). x.target) room.1) (λ part is. sym (ap (λ (x : Copying). part_at x.stage) room.1) ∙ is) known

  skipped_link : (cause : Cause) (l moved : LinkCopying) (did : Did) → LinkSkips cause l did moved → ItemKnown log c (Link l) → (let s : Seen = copy_after_progress (link_progress moved.stage) (Link moved) (idle c) in ItemKnown log s s.item)
  skipped_link cause l moved did (inl done) known =
      link_stays l moved (ap (λ (x : LinkCopying). x.target) done.1) (ap (λ (x : LinkCopying). x.part) done.1) (λ is. skipped_has l.stage (sym (ap (λ (x : LinkCopying). has_part x.stage) done.1) ∙ is)) known
  skipped_link cause l moved did (inr room) known =
      link_stays l moved (ap (λ (x : LinkCopying). x.target) room.1) (ap (λ (x : LinkCopying). x.part) room.1) (λ is. sym (ap (λ (x : LinkCopying). has_part x.stage) room.1) ∙ is) known

rest_item : (cause : Cause) (old new : Seen) (did : Did) → SkipsRest cause old did new → new.item ≡ old.item
rest_item cause old new did (inl done) = ap (λ (c : Seen). c.item) done.1
rest_item cause old new did (inr room) = ap (λ (c : Seen). c.item) room.1

named_item : (names : List (List ℕ)) (cause : Cause) (old new : Seen) (did : Did) → SkipsNamed names cause old did new → new.item ≡ old.item
named_item [] cause old new did (moved, skips, stands) = ap (λ (c : Seen). c.item) stands
named_item (first ∷ names) cause old new did (inl done) = ap (λ (c : Seen). c.item) done.1
named_item (first ∷ names) cause old new did (inr (inl rest)) = rest_item cause old new did rest.1
named_item (first ∷ names) cause old new did (inr (inr room)) = ap (λ (c : Seen). c.item) room.1

skips_item_at : (item : ItemAtWork) (log : CallLog) (cause : Cause) (old new : Seen) (did : Did) → old.item ≡ item → SkipsAt item cause old did new → ItemKnown log old item → ItemKnown log new new.item
skips_item_at Next log cause old new did is skips known = none_known log new (named_item old.levels.inner.names.names cause old new did skips ∙ is)
skips_item_at (File f) log cause old new did is (moved, skips, stands) known = subst (λ (s : Seen). ItemKnown log s s.item) (sym stands) (skipped_file log old cause f moved did skips known)
skips_item_at (Link l) log cause old new did is (moved, skips, stands) known = subst (λ (s : Seen). ItemKnown log s s.item) (sym stands) (skipped_link log old cause l moved did skips known)
skips_item_at (Stays part) log cause old new did is skips known = absurd skips

pub skips_item : (log : CallLog) (cause : Cause) (old new : Seen) (did : Did) → Skips cause old did new → ItemKnown log old old.item → ItemKnown log new new.item
skips_item log cause old new did skips known = skips_item_at old.item log cause old new did refl skips known

retries_at : (item : ItemAtWork) (log : CallLog) (c : Seen) → c.item ≡ item → ItemKnown log c item → (let r : Seen = retried_at item c in ItemKnown log r r.item)
retries_at Next log c is known = none_known log c is
retries_at (File f) log c is known = file_stays log c f (record f { stage = file_anew f.stage }) refl (λ part at. anew_part f.stage part at) known
retries_at (Link l) log c is known = link_stays log c l (record l { stage = link_anew l.stage }) refl refl (λ at. anew_has l.stage at) known
retries_at (Stays part) log c is known = subst (ItemKnown log c) (sym is) known

pub retries_item : (log : CallLog) (c : Seen) → ItemKnown log c c.item → (let r : Seen = retried_copy c in ItemKnown log r r.item)
retries_item log c known = retries_at c.item log c refl known
