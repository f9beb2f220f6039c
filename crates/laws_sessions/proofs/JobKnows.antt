-- What is known of a live job's part and target, by where its work stands.
use Rattle.std.proofs.Common.{◌≡◌, ◌⊎◌, ℕ, Bool, true, false, ◌&&◌, ◌||◌, List, ◌∷◌, ◌++◌, refl, sym, ◌∙◌, ap, subst, inl, inr, Option, Some, None, cond}
use Rattle.std.specs.Prelude.{is_some}
use Rattle.std.proofs.lemmas.Bool.{both_ways}
use Rattle.mc_text.specs.Routes.{Route, is_prefix}
use Rattle.tree_trait.specs.declared.file_system.FileSystem.{FileSystem}
use Rattle.tree_trait.specs.FileSystem.{find, starts_mount}
use Rattle.tree_trait.specs.Refusals.{mount_here, mount_of}
use Rattle.tree_trait.specs.Answers.{mount_number}
use Rattle.tree_trait.specs.Change.{CallLog, current}
use Rattle.tree_trait.specs.CrashImages.{Among, is_clean}
use Rattle.tree_trait.proofs.Finding.{find-once}
use Rattle.laws_crash.specs.Guarded.{Marks}
use Rattle.job_reports.specs.declared.report.Did.{Did}
use Rattle.job_reports.specs.declared.report.Did.TheVariants.{Ended}
use Rattle.job_reports.proofs.PermittedCalls.{stat_missing}
use Rattle.copy_move.specs.declared.run.Course.{Course}
use Rattle.copy_move.specs.declared.work.Work.{Work}
use Rattle.copy_move.specs.declared.work.Work.TheVariants.{Copy, Delete, Make, Move, SetMode, RemoveEmptied}
use Rattle.delete_job.specs.declared.deletion.Stage.TheVariants.{Going}
use Rattle.laws_crash.proofs.Unworked.{unworked_law}
use Rattle.laws_sessions.specs.Doubt.{way_waits}
use Rattle.laws_sessions.proofs.FilledFolders.{sure_quiet}
use Rattle.laws_sessions.proofs.Knowing.{HasMode, IsCalmIn, IsKept, HistoryFacts, settled_marks}
use Rattle.laws_sessions.proofs.MoveKnown.{MoveKnown, move_course, move_said, move_settled, move_still}
use Rattle.laws_sessions.proofs.Pending.{is_within}
use Rattle.laws_sessions.proofs.Resting.{IsSureFolder, folder_at, unjoined_at}
use Rattle.laws_sessions.proofs.Restless.{IsUnjoined}
use Rattle.job_reports.specs.Paths.{folder_of}
use Rattle.tree_trait.specs.Shape.{IsTree}
use Rattle.tree_trait.specs.Change.{Change, Nothing, Syncs, with_change}
use Rattle.laws_crash.proofs.Leading.{current_more}
use Rattle.laws_sessions.proofs.TreeKnown.{IsStill, TreeKnown, is_over, tree_course, tree_said, tree_settled, tree_still}
pub use Rattle.laws_sessions.proofs.KnownParts.{may_fill, found_settled, FileKnows, HasLink, HasName, HasPart, IsFilled, IsLeftPart, LinkKnows, StageKnows, file_course, file_settled, part_settled, stage_course, stage_settled, untouched_settled}
pub use Rattle.laws_sessions.proofs.Untouched.{IsAsFound, IsBare, IsUntouched, as_found, bare_free, found_bare, NoneOn, NoneOver, none_joint, none_left, none_on, none_over, none_waits, over_it, untouched_free, way_sure}

-- at and below the path stands what the job found there, or nothing any more
abbrev pub IsIntact : Marks → FileSystem → Route → Type 0
IsIntact marks s top = (rest : Route) → marks.aside (rest ++ top) ≡ false → (find s (rest ++ top) ≡ marks.was (rest ++ top)) ⊎ (find s (rest ++ top) ≡ None)

-- no folder that stands at or below the path is in doubt
abbrev pub AreSureWithin : CallLog → Route → Type 0
AreSureWithin log top = (rest : Route) → folder_at (current log) (rest ++ top) ≡ true → IsSureFolder log (rest ++ top)

-- no renaming waits for a folder at or below the path and another one
abbrev pub AreUnjoinedWithin : CallLog → Route → Type 0
AreUnjoinedWithin log top = (rest : Route) → IsUnjoined log (rest ++ top)

-- Of a deletion that goes on: the folder that holds the thing is on the disk, too; the thing and all that lies in it is calm, whatever stands beside it.
pub record KnowsWithin (told : HistoryFacts) (marks : Marks) (log : CallLog) (top : Route) : Type 0 where
  pub intact : IsIntact marks (current log) top
  pub sure : AreSureWithin log top
  pub folder : told.folders (folder_of top) ≡ true
  pub calm : (p : Route) → is_prefix top p ≡ true → told.calm p ≡ true
  pub apart : AreUnjoinedWithin log top

abbrev pub WorkKnows : HistoryFacts → List Route → Marks → CallLog → Course → Work → Type 0
WorkKnows told dirty marks log course (Copy c) = TreeKnown told dirty marks log course c
WorkKnows told dirty marks log course (Delete d) =
    HasName d.path × (told.part ≡ None) × (d.stage ≡ Going → KnowsWithin told marks log d.path)
WorkKnows told dirty marks log course (Make m) = HasName m.path × (told.part ≡ None)
WorkKnows told dirty marks log course (Move m) = MoveKnown told marks log course m
WorkKnows told dirty marks log course (SetMode s) = HasName s.path × (told.part ≡ None)
WorkKnows told dirty marks log course (RemoveEmptied r) = HasName r.path × (told.part ≡ None)

-- a mode that waits is of a path at which something stands, which is listed
module _ (told : HistoryFacts) (dirty : List Route) (marks : Marks) (log : CallLog) (kept : IsKept told dirty marks log) where
  pub mode_listed : (p : Route) (i before : ℕ) → find (current log) p ≡ Some i → marks.modes i ≡ Some before → Among dirty p
  mode_listed p i before at is = by (is_clean i log.changes) refl
    where
      by : (b : Bool) → is_clean i log.changes ≡ b → Among dirty p
      by true clean = absurd (let none = kept.modes i clean in let e : (let o : Option ℕ = None in o) ≡ Some before = sym none ∙ is in let f : ⊥ = cc in f)
      by false unclean = let h : HasMode told dirty marks log i before = kept.known.moded i before is unclean in subst (λ q. Among dirty q) (find-once (current log) kept.known.guarded.tree h.path p i h.leads at) h.listed

  -- so none waits of what stands at a path that isn't
  pub none_unlisted : (p : Route) (i : ℕ) → find (current log) p ≡ Some i → (Among dirty p → ⊥) → marks.modes i ≡ None
  none_unlisted p i at off = by (marks.modes i) refl
    where
      by : (o : Option ℕ) → marks.modes i ≡ o → marks.modes i ≡ None
      by None is = is
      by (Some before) is = absurd (off (mode_listed p i before at is))

  -- nor of a part
  pub none_of_part : (part : Route) (i : ℕ) → find (current log) part ≡ Some i → marks.aside part ≡ true → marks.modes i ≡ None
  none_of_part part i at aside = by (marks.modes i) refl (is_clean i log.changes) refl
    where
      by : (o : Option ℕ) → marks.modes i ≡ o → (b : Bool) → is_clean i log.changes ≡ b → marks.modes i ≡ None
      by None is b b_is = is
      by (Some before) is true clean = kept.modes i clean
      by (Some before) is false unclean =
          let h : HasMode told dirty marks log i before = kept.known.moded i before is unclean in
          absurd (both_ways _ (subst (λ q. marks.aside q ≡ false) (find-once (current log) kept.known.guarded.tree h.path part i h.leads at) h.out) aside)

  -- Where no dirty path lies on the mount of a folder, no mode waits of what stands in it but where another mount begins.
  pub modes_in : (up : Route) → NoneOn (current log) up dirty → IsCalmIn marks (current log) up
  modes_in up none name i at = by (starts_mount (current log) i) refl
    where
      by : (b : Bool) → starts_mount (current log) i ≡ b → (marks.modes i ≡ None) ⊎ (starts_mount (current log) i ≡ true)
      by true begins = inr begins
      by false inside =
          let same : mount_of (current log) (name ∷ up) ≡ mount_of (current log) up =
          ap (λ o. mount_here (current log) o (mount_of (current log) up)) at ∙ ap (λ b. cond b i (mount_of (current log) up)) inside in
          inl (none_unlisted (name ∷ up) i at (λ among. elim (none (name ∷ up) among) [
            | inl gone ↦ (let e : (let o : Option ℕ = None in o) ≡ Some i = sym (stat_missing (current log) (name ∷ up) gone) ∙ at in let f : ⊥ = cc in f)
            | inr apart ↦ apart.2 (subst (λ n. apart.0 ≡ mount_number (current log).mounts n) (sym same) apart.1)
          ]))

-- What is known of a job is known with the marks that are settled.
module _ (log : CallLog) (marks : Marks) where
  -- what is taken back stands, or it is said of it what was said
  remarked : (p : Route) → (let m = settled_marks log marks in m.aside p) ≡ false → (u : Bool) → way_waits log p ≡ u
      → (find (current log) p ≡ (let m = settled_marks log marks in m.was p)) ⊎ ((find (current log) p ≡ None) ⊎ ((marks.aside p ≡ false) × ((let m = settled_marks log marks in m.was p) ≡ marks.was p)))
  remarked p out false is = inl (sym (ap (λ b. cond b (marks.was p) (find (current log) p)) is))
  remarked p out true is = inr (inr (by (marks.aside p) (ap (λ b. marks.aside p && (b || is_some (find (current log) p))) (sym is) ∙ out), ap (λ b. cond b (marks.was p) (find (current log) p)) is))
    where
      by : (a : Bool) → (a && true) ≡ false → a ≡ false
      by true h = h
      by false h = refl

  pub intact_settled : (top : Route) → IsIntact marks (current log) top → IsIntact (settled_marks log marks) (current log) top
  intact_settled top known = unworked_law.remarked marks (settled_marks log marks) log top (λ p out. remarked p out (way_waits log p) refl) known

  pub work_settled : (told : HistoryFacts) (dirty : List Route) (course : Course) (work : Work) → WorkKnows told dirty marks log course work → WorkKnows told dirty (settled_marks log marks) log course work
  work_settled told dirty course (Copy c) k = tree_settled log marks told dirty course c k
  work_settled told dirty course (Delete d) (name, none, known) = (name, none, λ is. let k = known is in record { intact = intact_settled d.path k.intact; sure = k.sure; folder = k.folder; calm = k.calm; apart = k.apart })
  work_settled told dirty course (Make w) k = k
  work_settled told dirty course (Move w) k = move_settled log marks told course w k
  work_settled told dirty course (SetMode s) k = k
  work_settled told dirty course (RemoveEmptied w) k = k

-- A job that goes on only where it went on, and isn't in its last steps where it wasn't, knows what it knew.
pub work_course : (told : HistoryFacts) (dirty : List Route) (marks : Marks) (log : CallLog) (course other : Course) (work : Work) → (may_fill other ≡ true → may_fill course ≡ true) → (is_over other ≡ false → is_over course ≡ false)
    → WorkKnows told dirty marks log course work → WorkKnows told dirty marks log other work
work_course told dirty marks log course other (Copy c) on over k = tree_course told dirty marks log course other c on over k
work_course told dirty marks log course other (Delete d) on over k = k
work_course told dirty marks log course other (Make w) on over k = k
work_course told dirty marks log course other (Move w) on over k = move_course told marks log course other w over k
work_course told dirty marks log course other (SetMode s) on over k = k
work_course told dirty marks log course other (RemoveEmptied w) on over k = k

-- a sync, and a call that was refused, leave the tree as it was
pub still_same : (log now : CallLog) → IsStill log now → current now ≡ current log
still_same log now (c, is, how) = ap current is ∙ by c how
  where
    by : (c : Change) → (c ≡ Nothing) ⊎ ((f : ℕ) × (c ≡ Syncs f)) → current (with_change log c) ≡ current log
    by c (inl none) = ap (λ (x : Change). current (with_change log x)) none ∙ current_more log Nothing
    by c (inr (f, sync)) = ap (λ (x : Change). current (with_change log x)) sync ∙ current_more log (Syncs f)

-- so no folder is in doubt that wasn't
within_still : (log now : CallLog) (top : Route) → IsTree (current log) → IsStill log now → AreSureWithin log top → AreSureWithin now top
within_still log now top tree still sure rest stands = by still
  where
    before : IsSureFolder log (rest ++ top)
    before = sure rest (ap (λ s. folder_at s (rest ++ top)) (sym (still_same log now still)) ∙ stands)

    by : IsStill log now → IsSureFolder now (rest ++ top)
    by (c, is, inl none) =
        subst (λ (l : CallLog). IsSureFolder l (rest ++ top)) (sym (is ∙ ap (with_change log) none)) (sure_quiet log Nothing tree (λ n g m. refl) (rest ++ top) before)
    by (c, is, inr (f, sync)) =
        subst (λ (l : CallLog). IsSureFolder l (rest ++ top)) (sym (is ∙ ap (with_change log) sync)) (sure_quiet log (Syncs f) tree (λ n g m. refl) (rest ++ top) before)

-- and none is joined that wasn't
joined_still : (log now : CallLog) (top : Route) → IsStill log now → AreUnjoinedWithin log top → AreUnjoinedWithin now top
joined_still log now top still apart rest = by still
  where
    same : (c : Change) → now ≡ with_change log c → current (with_change log c) ≡ current log
    same c is = ap current (sym is) ∙ still_same log now still

    by : IsStill log now → IsUnjoined now (rest ++ top)
    by (c, is, how) =
        subst (λ (l : CallLog). IsUnjoined l (rest ++ top)) (sym is)
        (unjoined_at log c (rest ++ top) (within c how) (λ f at. ap (λ s. find s (rest ++ top)) (sym (same c is)) ∙ at) (apart rest))
      where
        within : (c : Change) → (c ≡ Nothing) ⊎ ((f : ℕ) × (c ≡ Syncs f)) → is_within c ≡ true
        within c (inl none) = ap is_within none
        within c (inr (f, sync)) = ap is_within sync

-- so what is known holds on
pub work_still : (told : HistoryFacts) (dirty : List Route) (marks : Marks) (log now : CallLog) (course : Course) (work : Work) → IsTree (current log) → IsStill log now → WorkKnows told dirty marks log course work
    → WorkKnows told dirty marks now course work
work_still told dirty marks log now course (Copy c) tree still k = tree_still told dirty marks log now course c tree still k
work_still told dirty marks log now course (Delete d) tree still (name, none, known) = (
  name,
  none,
  λ is. let k = known is in record {
    intact = subst (λ (s : FileSystem). IsIntact marks s d.path) (sym (still_same log now still)) k.intact;
    sure = within_still log now d.path tree still k.sure;
    folder = k.folder;
    calm = k.calm;
    apart = joined_still log now d.path still k.apart;
  },
)
work_still told dirty marks log now course (Make m) tree still k = k
work_still told dirty marks log now course (Move m) tree still k = move_still told marks log now course m still k
work_still told dirty marks log now course (SetMode s) tree still k = k
work_still told dirty marks log now course (RemoveEmptied r) tree still k = k

-- What is known of a job hangs on the tree, the part, the folders on the disk and the calm paths of what a history says.
pub work_said : (told other : HistoryFacts) → other.tree ≡ told.tree → other.part ≡ told.part → other.folders ≡ told.folders → other.calm ≡ told.calm → (dirty : List Route) (marks : Marks) (log : CallLog) (course : Course) (work : Work)
    → WorkKnows told dirty marks log course work → WorkKnows other dirty marks log course work
work_said told other tree part folders calm dirty marks log course (Copy c) k = tree_said told other tree part folders calm dirty marks log course c k
work_said told other tree part folders calm dirty marks log course (Delete d) (name, none, known) = (
  name,
  part ∙ none,
  λ is. let k = known is in record { intact = k.intact; sure = k.sure; folder = ap (λ b. b (folder_of d.path)) folders ∙ k.folder; calm = λ q own. ap (λ b. b q) calm ∙ k.calm q own; apart = k.apart },
)
work_said told other tree part folders calm dirty marks log course (Make m) (name, none) = (name, part ∙ none)
work_said told other tree part folders calm dirty marks log course (Move m) k = move_said told other part folders marks log course m k
work_said told other tree part folders calm dirty marks log course (SetMode s) (name, none) = (name, part ∙ none)
work_said told other tree part folders calm dirty marks log course (RemoveEmptied r) (name, none) = (name, part ∙ none)

-- what is known after a report: of a job that has ended no part stands
abbrev pub KnowsAfter : Did → HistoryFacts → List Route → CallLog → Course → Work → Marks → Type 0
KnowsAfter (Ended ending part) told dirty log course work marks = told.part ≡ None
KnowsAfter did told dirty log course work marks = WorkKnows told dirty marks log course work
