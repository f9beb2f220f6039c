-- How the folders that a tree's copy has open lie: each in the one around it, none with a name twice, and none that is still to be made.
-- Each step keeps that.
use Rattle.std.proofs.Common.{◌≡◌, ℕ, Bool, true, false, List, [], ◌∷◌, refl, sym, ◌∙◌, ap, subst, inl, inr, Option, None}
use Rattle.std.specs.Prelude.{drop, if◌then◌else◌, map}
use Rattle.std.specs.Ordering.{ordering_reverse}
use Rattle.std.specs.Cmp.Lexicographic.{nat_list_cmp_total}
use Rattle.std.specs.declared.cmp.Ordering.TheVariants.{Less, Greater}
use Rattle.mc_text.specs.Routes.{Route}
use Rattle.tree_trait.specs.Answers.{AllAfter, IsAscending, name_cmp}
use Rattle.tree_trait.specs.Change.{CallLog}
use Rattle.tree_trait.specs.CrashImages.{Among}
use Rattle.copy_file.specs.Copying as file
use Rattle.copy_file.specs.Copying.{Copying}
use Rattle.copy_folders.specs.FolderCopying.{FolderCopying, Tells, copying, owed_mode}
use Rattle.copy_folders.specs.declared.stage.FolderDid.{FolderDid}
use Rattle.copy_folders.specs.declared.stage.FolderDid.TheVariants as folder_did
use Rattle.copy_folders.specs.declared.stage.NamesState.TheVariants.{Synced}
use Rattle.copy_folders.specs.declared.stage.Stage.{Stage}
use Rattle.copy_folders.specs.declared.stage.Stage.TheVariants as at
use Rattle.job_reports.specs.declared.job.Pair.{Pair}
use Rattle.copy_link.specs.LinkCopying as link
use Rattle.copy_link.specs.LinkCopying.{LinkCopying}
use Rattle.tree_walk.specs.Places.{OpenFolder, is_empty, opened_folder, without_next}
use Rattle.copy_tree.specs.declared.item.ItemAtWork.{ItemAtWork}
use Rattle.copy_tree.specs.declared.item.ItemAtWork.TheVariants.{Next, File, Link, Stays}
use Rattle.copy_folders.specs.declared.level.Level.{Level}
use Rattle.copy_tree.specs.declared.progress.Progress.{Progress}
use Rattle.copy_tree.specs.declared.progress.Progress.TheVariants.{UnderWay, Decided, Anew}
use Rattle.job_reports.specs.declared.report.Did.{Did}
use Rattle.copy_folders.specs.Levels.{IsLeft, Levels, levels_closed, coming, dirtied_levels, emptied_levels, entered_levels, level, made_levels, passed_levels, with_copy}
use Rattle.copy_tree.specs.Progress.{link_progress, progress}
use Rattle.copy_tree.specs.Standing.{Seen, target_name}
use Rattle.copy_tree.specs.TreeCopySteps.{GoesOn, LinkWorks, TakesNext, WorksOn, idle, link_begun, noted_copy, copy_after_progress}
use Rattle.job_answers.specs.declared.replies.Replies.{Replies}
use Rattle.laws_sessions.proofs.FileMoves.{FileMoves, taken_moves, worked_moves}
use Rattle.laws_sessions.proofs.OpenFolders.{later}
use Rattle.laws_sessions.proofs.FoldersLie.{AreLaid, AreNested, IsOnce, IsPlaced}
use Rattle.laws_sessions.proofs.TreeSteps.{closing_not, next_of}

pub nested_of : (name : List ℕ) (inner : Level) (around : List Level) → AreLaid name inner around → AreNested inner.copy.target around
nested_of name inner [] h = tt
nested_of name inner (outer ∷ around) h = (h.1, nested_of name outer around h.2)

pub placed_of : (name : List ℕ) (inner : Level) (around : List Level) → AreLaid name inner around → IsPlaced name inner.names inner.copy.stage around
placed_of name inner [] h = h
placed_of name inner (outer ∷ around) h = h.0

-- the innermost folder changes, to the same target
inner_laid : (name : List ℕ) (inner new : Level) (around : List Level) → new.copy.target ≡ inner.copy.target → (IsPlaced name inner.names inner.copy.stage around → IsPlaced name new.names new.copy.stage around) → AreLaid name inner around
    → AreLaid name new around
inner_laid name inner new [] same goes h = goes h
inner_laid name inner new (outer ∷ around) same goes h = (goes h.0, (h.1.0, same ∙ h.1.1), h.2)

once_drop : (names : List (List ℕ)) → IsOnce names → IsOnce (drop 1 names)
once_drop [] h = tt
once_drop (name ∷ names) h = h.1

once_mapped : (name : List ℕ) (names : List (List ℕ)) → IsOnce (map (λ (met : List ℕ). name) names) → IsOnce (map (λ (met : List ℕ). name) (drop 1 names))
once_mapped name [] h = tt
once_mapped name (first ∷ names) h = h.1

-- fewer names, none of them twice
once_later : (name : List ℕ) (place after : OpenFolder) (around : List Level) → after.names ≡ drop 1 place.names → IsOnce (coming name place around) → IsOnce (coming name after around)
once_later name place after [] is h = subst (λ xs. IsOnce (map (λ (met : List ℕ). name) xs)) (sym is) (once_mapped name place.names h)
once_later name place after (outer ∷ around) is h = subst IsOnce (sym is) (once_drop place.names h)

once_none : (name : List ℕ) (place : OpenFolder) (around : List Level) → place.names ≡ [] → IsOnce (coming name place around)
once_none name place [] is = subst (λ xs. IsOnce (map (λ (met : List ℕ). name) xs)) (sym is) tt
once_none name place (outer ∷ around) is = subst IsOnce (sym is) tt

-- the next name is none of those that come later
pub next_once : (c : Seen) (name : List ℕ) (names : List (List ℕ)) → c.levels.inner.names.names ≡ name ∷ names → IsOnce (coming c.name c.levels.inner.names c.levels.around) → Among (later c) (target_name c name) → ⊥
next_once c name names is h = by c.levels.around h
  where
    by : (around : List Level) → IsOnce (coming c.name c.levels.inner.names around)
        → Among (let p : Levels = passed_levels false c.levels in coming c.name p.inner.names around) (if◌then◌else◌ (is_empty around) c.name name) → ⊥
    by [] h among = (let k = subst (λ xs. IsOnce (map (λ (met : List ℕ). c.name) xs)) is h in k.0 (subst (λ xs. Among (map (λ (met : List ℕ). c.name) (drop 1 xs)) c.name) is among))
    by (outer ∷ around) h among = (let k = subst IsOnce is h in k.0 (subst (λ xs. Among (drop 1 xs) name) is among))

-- names in order come once
after_it : (first : List ℕ) (names : List (List ℕ)) (name : List ℕ) → AllAfter first names → Among names name → name_cmp first name ≡ Less
after_it first [] name all among = absurd among
after_it first (x ∷ xs) name all (inl here) = subst (λ n. name_cmp first n ≡ Less) (sym here) all.0
after_it first (x ∷ xs) name all (inr more) = after_it first xs name all.1 more

not_itself : (x : List ℕ) → name_cmp x x ≡ Less → ⊥
not_itself x less = (let turned = nat_list_cmp_total.antisymm x x in let reversed : ordering_reverse (name_cmp x x) ≡ Greater = ap ordering_reverse less in cc)

ascending_once : (names : List (List ℕ)) → IsAscending names → IsOnce names
ascending_once [] h = tt
ascending_once (name ∷ names) h = ((λ among. not_itself name (after_it name names name h.0 among)), ascending_once names h.1)

-- What a step does to the open folders.
module _ (name : List ℕ) where
  abbrev Laid : Levels → Type 0
  Laid l = AreLaid name l.inner l.around

  laid_dirtied : (changed : Bool) (l : Levels) → Laid l → Laid (dirtied_levels changed l)
  laid_dirtied true l h = inner_laid name l.inner _ l.around refl (λ p. record { once = p.once; made = p.made }) h
  laid_dirtied false l h = inner_laid name l.inner _ l.around refl (λ p. record { once = p.once; made = p.made }) h

  pub laid_passed : (left : Bool) (l : Levels) → Laid l → Laid (passed_levels left l)
  laid_passed left l h = inner_laid name l.inner _ l.around refl (λ p. record { once = once_later name l.inner.names (let q : Levels = passed_levels left l in q.inner.names) l.around refl p.once; made = p.made }) h

  pub laid_emptied : (l : Levels) → Laid l → Laid (emptied_levels l)
  laid_emptied l h = inner_laid name l.inner _ l.around refl (λ p. record { once = once_none name (let e : Levels = emptied_levels l in e.inner.names) l.around refl; made = p.made }) h

  -- a folder is left, and the one around it is worked again
  pub laid_left : (old new : Levels) → IsLeft old new → Laid old → Laid new
  laid_left old new left h = (let outer = subst (AreLaid name old.inner) left.was h in outer.2)

  pub laid_closed : (l : Levels) → Laid l → Laid (levels_closed l)
  laid_closed l h = inner_laid name l.inner _ l.around refl (λ p. record { once = p.once; made = closing_not l.inner.copy.stage p.made }) h

  pub laid_copy : (moved : FolderCopying) (l : Levels) → moved.target ≡ l.inner.copy.target → ((mode : ℕ) → moved.stage ≡ at.Make mode → ⊥) → Laid l → Laid (with_copy moved l)
  laid_copy moved l same made h = inner_laid name l.inner _ l.around same (λ p. record { once = p.once; made = made }) h

  laid_settled : (p : Progress) (item : ItemAtWork) (did : Did) (changed : Bool) (c : Seen) → Laid c.levels → Laid (let s : Seen = copy_after_progress p item (noted_copy did changed c) in s.levels)
  laid_settled UnderWay item did changed c h = laid_dirtied changed c.levels h
  laid_settled Decided item did changed c h = laid_passed false (dirtied_levels changed c.levels) (laid_dirtied changed c.levels h)
  laid_settled Anew item did changed c h = laid_dirtied changed c.levels h

  -- a folder that was made is gone into
  laid_entered : (source : Route) (names : List (List ℕ)) (copy : FolderCopying) (k : List ℕ) (l : Levels) → IsAscending names → copy.target ≡ k ∷ l.inner.copy.target → ((mode : ℕ) → copy.stage ≡ at.Make mode → ⊥) → Laid l
      → Laid (entered_levels (opened_folder source names) copy (dirtied_levels true l))
  laid_entered source names copy k l in_order lies made h = (
    record { once = ascending_once names in_order; made = made },
    (k, lies),
    inner_laid name l.inner _ l.around refl (λ p. record { once = once_later name l.inner.names (without_next l.inner.names) l.around refl p.once; made = p.made }) h,
  )

  laid_made : (pair : Pair) (names : List (List ℕ)) (mode : ℕ) (moved : FolderCopying) (report : FolderDid) (k : List ℕ) (l : Levels) → IsAscending names → pair.target ≡ k ∷ l.inner.copy.target
      → Tells (copying pair.source pair.target (at.Make mode) Synced) report moved → Laid l → Laid (made_levels moved.stage (opened_folder pair.source names) moved l)
  laid_made pair names mode moved (folder_did.Made path) k l in_order lies (mode_now, stage, path_is, new_is) h =
      subst (λ (c : FolderCopying). Laid (made_levels c.stage (opened_folder pair.source names) c l)) (sym new_is) (laid_entered pair.source names (copying pair.source pair.target (at.Fill (owed_mode mode_now)) Synced) k l in_order lies (λ m is. let f : ⊥ = cc in f) h)
  laid_made pair names mode moved (folder_did.Troubled trouble) k l in_order lies (barrier, new_is) h = subst (λ (c : FolderCopying). Laid (made_levels c.stage (opened_folder pair.source names) c l)) (sym new_is) h
  laid_made pair names mode moved (folder_did.Set path) k l in_order lies (mode_now, stage, path_is, new_is) h = absurd (let f : ⊥ = cc in f)
  laid_made pair names mode moved folder_did.Barrier k l in_order lies (stage, dirty, new_is) h = absurd (let f : ⊥ = cc in f)
  laid_made pair names mode moved folder_did.Closed k l in_order lies (stage, synced, new_is) h = absurd (let f : ⊥ = cc in f)

  -- the copy of the innermost folder itself goes on
  laid_ends : (l : Levels) (moved : FolderCopying) (report : FolderDid) → Tells l.inner.copy report moved → Laid l → Laid (with_copy moved l)
  laid_ends l moved report tells h = (let p = placed_of name l.inner l.around h in laid_copy moved l (target_stays report moved tells) (stage_stays p.made report moved tells) h)
    where
      target_stays : (report : FolderDid) (moved : FolderCopying) → Tells l.inner.copy report moved → moved.target ≡ l.inner.copy.target
      target_stays (folder_did.Made path) moved t = ap (λ (c : FolderCopying). c.target) t.3
      target_stays (folder_did.Set path) moved t = ap (λ (c : FolderCopying). c.target) t.3
      target_stays folder_did.Barrier moved t = ap (λ (c : FolderCopying). c.target) t.2
      target_stays folder_did.Closed moved t = ap (λ (c : FolderCopying). c.target) t.2
      target_stays (folder_did.Troubled trouble) moved t = ap (λ (c : FolderCopying). c.target) t.1

      stage_is : (moved : FolderCopying) (stage : Stage) → moved.stage ≡ stage → ((mode : ℕ) → stage ≡ at.Make mode → ⊥) → (mode : ℕ) → moved.stage ≡ at.Make mode → ⊥
      stage_is moved stage is none mode make = none mode (sym is ∙ make)

      stage_stays : ((mode : ℕ) → l.inner.copy.stage ≡ at.Make mode → ⊥) → (report : FolderDid) (moved : FolderCopying) → Tells l.inner.copy report moved → (mode : ℕ) → moved.stage ≡ at.Make mode → ⊥
      stage_stays none (folder_did.Made path) moved t = absurd (none t.0 t.1)
      stage_stays none (folder_did.Set path) moved t = stage_is moved (at.Close None) (ap (λ (c : FolderCopying). c.stage) t.3) (λ mode is. let f : ⊥ = cc in f)
      stage_stays none folder_did.Barrier moved t = stage_is moved l.inner.copy.stage (ap (λ (c : FolderCopying). c.stage) t.2) none
      stage_stays none folder_did.Closed moved t = stage_is moved at.Done (ap (λ (c : FolderCopying). c.stage) t.2) (λ mode is. let f : ⊥ = cc in f)
      stage_stays none (folder_did.Troubled trouble) moved t = stage_is moved l.inner.copy.stage (ap (λ (c : FolderCopying). c.stage) t.1) none

  laid_around : (l : Levels) (outer new : Level) (around : List Level) → l.around ≡ outer ∷ around → new.names ≡ outer.names → new.copy.target ≡ outer.copy.target → new.copy.stage ≡ outer.copy.stage → Laid l
      → AreLaid name l.inner (new ∷ around)
  laid_around l outer new around was names target stage h =
      let k = subst (AreLaid name l.inner) was h in
      let p = k.0 in (
        record { once = p.once; made = p.made },
        (k.1.0, k.1.1 ∙ ap (λ (r : Route). k.1.0 ∷ r) (sym target)),
        inner_laid name outer new around target (λ q. record {
          once = subst (λ n. IsOnce (coming name n around)) (sym names) q.once;
          made = λ mode make. q.made mode (sym stage ∙ make);
        }) k.2,
      )

module _ (unclaimed : Route → Type 0) (replies : Replies) (old new : Seen) (did : Did) (before after : Option CallLog) (h : AreLaid old.name old.levels.inner old.levels.around) where
  abbrev Then : Type 0
  Then = AreLaid old.name new.levels.inner new.levels.around

  stays_laid : new ≡ old → Then
  stays_laid is = subst (λ (c : Seen). AreLaid old.name c.levels.inner c.levels.around) (sym is) h

  laid_file : (f : Copying) → FileMoves unclaimed f old new did before after → Then
  laid_file f w = subst (λ (c : Seen). AreLaid old.name c.levels.inner c.levels.around) (sym w.stands) (laid_settled old.name (progress w.moved.stage) (File w.moved) did (file.is_dirty w.moved.folder) (idle old) h)

  laid_link : (l : LinkCopying) → LinkWorks l old new did before after → Then
  laid_link l w = subst (λ (c : Seen). AreLaid old.name c.levels.inner c.levels.around) (sym w.stands) (laid_settled old.name (link_progress w.moved.stage) (Link w.moved) did (link.is_dirty w.moved.folder) (idle old) h)

  laid_next : TakesNext unclaimed replies old new did before after → Then
  laid_next (inl s) = stays_laid s.stands
  laid_next (inr (inl t)) = laid_file (file.begun_copy old.job t.pair.source t.pair.target) (taken_moves unclaimed replies old new did before after t)
  laid_next (inr (inr (inl t))) = laid_link (link_begun t.pair t.part) t.works
  laid_next (inr (inr (inr (inl t)))) =
      let next = next_of old old.levels.inner.names.names t.pair t.next in
      let w = t.works in
      subst (λ (c : Seen). AreLaid old.name c.levels.inner c.levels.around) (sym w.stands)
      (laid_made old.name t.pair t.names t.mode w.moved w.report (target_name old next.name) old.levels t.in_order next.target_is w.tells h)
  laid_next (inr (inr (inr (inr (inl t))))) = subst (λ (c : Seen). AreLaid old.name c.levels.inner c.levels.around) (sym t.stands) (laid_passed old.name false old.levels h)
  laid_next (inr (inr (inr (inr (inr (inl t)))))) = subst (λ (c : Seen). AreLaid old.name c.levels.inner c.levels.around) (sym t.stands) (laid_passed old.name false old.levels h)
  laid_next (inr (inr (inr (inr (inr (inr (inl t))))))) = stays_laid t.stands
  laid_next (inr (inr (inr (inr (inr (inr (inr (next, inl (debt, e))))))))) =
      subst (λ (c : Seen). AreLaid old.name c.levels.inner c.levels.around) (sym e.stands) (laid_ends old.name (levels_closed old.levels) e.moved e.report e.tells (laid_closed old.name old.levels h))
  laid_next (inr (inr (inr (inr (inr (inr (inr (next, inr (debt, f, same))))))))) = subst (λ (c : Seen). AreLaid old.name c.levels.inner c.levels.around) (sym f.stands) (laid_closed old.name old.levels h)

  laid_goes : GoesOn unclaimed replies old new did before after → Then
  laid_goes (inl s) =
      subst (λ (c : Seen). AreLaid old.name c.levels.inner c.levels.around) (sym s.stands)
      (laid_around old.name old.levels s.outer (level s.outer.names (record s.outer.copy { names = s.names })) s.around s.was refl refl refl h)
  laid_goes (inr s) = laid_next s.1

  -- so a step leaves them
  pub laid_works : (item : ItemAtWork) → WorksOn item unclaimed replies old new did before after → Then
  laid_works Next w = laid_goes w
  laid_works (File f) w = laid_file f (worked_moves unclaimed f old new did before after w)
  laid_works (Link l) w = laid_link l w
  laid_works (Stays part) w = absurd w
