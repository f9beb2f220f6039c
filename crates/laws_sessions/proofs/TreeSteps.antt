-- A step in the copy of a tree keeps what is known of the folders that are open.
use Rattle.std.proofs.Common.{◌≡◌, ℕ, Bool, false, List, [], ◌∷◌, refl, sym, ◌∙◌, ap, subst, inl, inr, Some}
use Rattle.std.specs.Prelude.{if◌then◌else◌, map}
use Rattle.tree_walk.specs.Places.{is_empty}
use Rattle.copy_folders.specs.declared.level.Level.{Level}
use Rattle.mc_text.specs.Routes.{Route}
use Rattle.tree_trait.specs.Change.{CallLog, current}
use Rattle.tree_trait.specs.CrashImages.{Among}
use Rattle.tree_trait.specs.Shape.{IsTree}
use Rattle.job_answers.specs.declared.replies.Replies.{Replies}
use Rattle.job_reports.specs.Paths.{folder_of}
use Rattle.job_reports.specs.declared.job.Pair.{Pair}
use Rattle.job_reports.proofs.CallAnswers.{some_log}
use Rattle.copy_file.specs.Copying as file
use Rattle.copy_file.specs.Copying.{Copying}
use Rattle.copy_file.specs.PartNames.{IsFirstFree, IsShort, part_name, part_path}
use Rattle.copy_folders.specs.FolderCopying.{closing}
use Rattle.copy_folders.specs.declared.stage.Stage.{Stage}
use Rattle.copy_folders.specs.declared.stage.Stage.TheVariants as at
use Rattle.copy_link.specs.LinkCopying.{LinkCopying}
use Rattle.copy_link.specs.declared.stage.Stage.{Stage as LinkStage}
use Rattle.copy_link.specs.declared.stage.Stage.TheVariants as link_stage
use Rattle.copy_file.specs.declared.stage.Stage.{Stage as FileStage}
use Rattle.copy_file.specs.declared.stage.Stage.TheVariants as file_stage
use Rattle.copy_tree.specs.declared.due.Due.TheVariants.{Thing}
use Rattle.copy_tree.specs.declared.item.ItemAtWork.{ItemAtWork}
use Rattle.copy_tree.specs.declared.item.ItemAtWork.TheVariants.{Next, File, Link, Stays}
use Rattle.job_reports.specs.declared.report.Did.{Did}
use Rattle.copy_folders.specs.Levels.{levels_closed, is_around_dirty, coming}
use Rattle.copy_tree.specs.Parts.{IsPartPlace, ahead}
use Rattle.copy_tree.specs.Standing.{Seen, due_at, pair_of, target_name}
use Rattle.copy_tree.specs.Progress.{link_progress, progress}
use Rattle.copy_tree.specs.declared.progress.Progress.TheVariants.{Anew, UnderWay}
use Rattle.copy_tree.specs.TreeCopySteps.{CopySteps, GoesOn, LinkWorks, TakesFile, TakesFolder, TakesLink, TakesNext, WorksOn, at_end, link_begun}
use Rattle.laws_sessions.proofs.FileMoves.{FileMoves, taken_moves, worked_moves}
use Rattle.laws_sessions.proofs.Resting.{IsOfFiles}
use Rattle.laws_sessions.proofs.AtWork.{ItemKnown}
use Rattle.laws_sessions.proofs.OpenFolders.{LevelsKnow, later}
use Rattle.laws_sessions.proofs.FoldersLie.{AreNested}
use Rattle.laws_sessions.proofs.PartsApart.{parts_apart}
use Rattle.laws_sessions.proofs.TreeFiles.{FileKnown, file_step}
use Rattle.laws_sessions.proofs.TreeFolders.{closed_levels, folder_ends, folder_makes, syncs_around}
use Rattle.laws_sessions.proofs.TreeKnows.{levels_passed}
use Rattle.laws_sessions.proofs.TreeLinks.{LinkKnown, link_step}

-- the name that is met next, as it is at its target
pub among_next : (c : Seen) (name : List ℕ) (names : List (List ℕ)) → c.levels.inner.names.names ≡ name ∷ names → Among (ahead c) (target_name c name)
among_next c name names is = by c.levels.around
  where
    by : (around : List Level) → Among (coming c.name c.levels.inner.names around) (if◌then◌else◌ (is_empty around) c.name name)
    by [] = subst (λ xs. Among (map (λ (met : List ℕ). c.name) xs) c.name) (sym is) (inl refl)
    by (outer ∷ around) = subst (λ xs. Among xs name) (sym is) (inl refl)

-- What is known of a tree's copy as a step begins.
pub record StepKnown (log : CallLog) (c : Seen) : Type 0 where
  pub tree : IsTree (current log)
  pub files : IsOfFiles log
  pub nested : AreNested c.levels.inner.copy.target c.levels.around
  pub levels : LevelsKnow log c.name c.levels
  pub made : (mode : ℕ) → c.levels.inner.copy.stage ≡ at.Make mode → ⊥
  -- no name comes twice
  pub once : (name : List ℕ) (names : List (List ℕ)) → c.levels.inner.names.names ≡ name ∷ names → Among (later c) (target_name c name) → ⊥

pub closing_not : (stage : Stage) → ((mode : ℕ) → stage ≡ at.Make mode → ⊥) → (mode : ℕ) → closing stage ≡ at.Make mode → ⊥
closing_not (at.Make other) none mode is = none other refl
closing_not (at.Fill owed) none mode is = (let f : ⊥ = cc in f)
closing_not (at.Close owed) none mode is = (let f : ⊥ = cc in f)
closing_not at.Done none mode is = (let f : ⊥ = cc in f)

pub begun_not : (stage : FileStage) → progress stage ≡ UnderWay → stage ≡ file_stage.Begin → ⊥
begun_not stage going is = (let e : Anew ≡ UnderWay = sym (ap progress is) ∙ going in let f : ⊥ = cc in f)

pub made_not : (stage : LinkStage) → link_progress stage ≡ UnderWay → stage ≡ link_stage.Make → ⊥
made_not stage going is = (let e : Anew ≡ UnderWay = sym (ap link_progress is) ∙ going in let f : ⊥ = cc in f)

-- what is taken up is the thing that has the next name
pub record IsNextOf (c : Seen) (names : List (List ℕ)) (pair : Pair) : Type 0 where
  pub name : List ℕ
  pub rest : List (List ℕ)
  pub names_are : names ≡ name ∷ rest
  pub target_is : pair.target ≡ target_name c name ∷ c.levels.inner.copy.target

pub next_of : (c : Seen) (names : List (List ℕ)) (pair : Pair) → due_at names c ≡ Thing pair → IsNextOf c names pair
next_of c [] pair is = absurd (let f : ⊥ = cc in f)
next_of c (name ∷ rest) pair is = record { name = name; rest = rest; names_are = refl; target_is = (let same : pair ≡ pair_of c name = cc in ap (λ (p : Pair). p.target) same) }

module _ (free : Route → Bool) (replies : Replies) (old new : Seen) (did : Did) (log now : CallLog) (known : StepKnown log old) where
  abbrev Unclaimed : Route → Type 0
  Unclaimed = IsPartPlace free old

  abbrev Stay : Type 0
  Stay = LevelsKnow now old.name new.levels

  file_works : (f : Copying) → FileKnown Unclaimed log old.name old.levels f → FileMoves Unclaimed f old new did (Some log) (Some now) → Stay
  file_works f file w = file_step Unclaimed log now old.name old.levels f file w.moved did old new refl w.short w.tells (w.called log refl) w.stands

  link_works : (l : LinkCopying) → LinkKnown log old.name old.levels l → LinkWorks l old new did (Some log) (Some now) → Stay
  link_works l link w = link_step log now old.name old.levels l link w.moved did old new refl w.tells (w.called log refl) w.stands

  -- a part that is begun has the name of nothing that is yet to be met
  part_apart : (source target : Route) (k : ℕ) → folder_of target ≡ old.levels.inner.copy.target → IsFirstFree (current log) Unclaimed (file.places old.job source target) k
      → IsShort (part_path (file.places old.job source target) k) → Among (ahead old) (part_name old.job k) → ⊥
  part_apart source target k within first short = (let open_to = first.free in parts_apart free old (part_name old.job k) (folder_of target) (open_to.unclaimed short))

  same_log : now ≡ log → LevelsKnow now old.name old.levels
  same_log is = subst (λ (x : CallLog). LevelsKnow x old.name old.levels) (sym is) known.levels

  -- a file is taken up
  pub taken_file : is_around_dirty old.levels.around ≡ false → (t : TakesFile Unclaimed replies old new did (Some log) (Some now)) → FileKnown Unclaimed log old.name old.levels (file.begun_copy old.job t.pair.source t.pair.target)
  taken_file clean t =
      let next = next_of old old.levels.inner.names.names t.pair t.next in
      let within : folder_of t.pair.target ≡ old.levels.inner.copy.target = ap folder_of next.target_is in
      record {
        tree = known.tree;
        clean = clean;
        nested = known.nested;
        levels = known.levels;
        within = within;
        item = λ part is. absurd (let f : ⊥ = cc in f);
        begins = λ is k open_to short. part_apart t.pair.source t.pair.target k within open_to short;
      }

  -- a link is
  pub taken_link : is_around_dirty old.levels.around ≡ false → (t : TakesLink Unclaimed replies old new did (Some log) (Some now)) → LinkKnown log old.name old.levels (link_begun t.pair t.part)
  taken_link clean t =
      let next = next_of old old.levels.inner.names.names t.pair t.next in
      let within : folder_of t.pair.target ≡ old.levels.inner.copy.target = ap folder_of next.target_is in
      let chosen = t.chosen log refl in
      record {
        tree = known.tree;
        clean = clean;
        nested = known.nested;
        levels = known.levels;
        item = λ is. absurd (let f : ⊥ = cc in f);
        begins = λ is. (part_name old.job chosen.0, chosen.1 ∙ ap (λ (r : Route). part_name old.job chosen.0 ∷ r) within, part_apart t.pair.source t.pair.target chosen.0 within chosen.2 (subst IsShort chosen.1 t.short));
      }

  -- the file or link at work
  pub worked_file : (f : Copying) → ItemKnown log old (File f) → FileKnown Unclaimed log old.name old.levels f
  worked_file f (clean, going, within, item) = record {
    tree = known.tree;
    clean = clean;
    nested = known.nested;
    levels = known.levels;
    within = within;
    item = item;
    begins = λ is. absurd (begun_not f.stage going is);
  }

  pub worked_link : (l : LinkCopying) → ItemKnown log old (Link l) → LinkKnown log old.name old.levels l
  worked_link l (clean, going, within, item) =
      record { tree = known.tree; clean = clean; nested = known.nested; levels = known.levels; item = item; begins = λ is. absurd (made_not l.stage going is) }

  -- a folder is
  takes_folder : is_around_dirty old.levels.around ≡ false → TakesFolder replies old new did (Some log) (Some now) → Stay
  takes_folder clean t =
      let next = next_of old old.levels.inner.names.names t.pair t.next in
      folder_makes log now old.name old.levels (record { tree = known.tree; files = known.files; nested = known.nested; levels = known.levels }) clean (target_name old next.name) (among_next old next.name next.rest next.names_are) (known.once next.name next.rest next.names_are)
      t.pair t.names t.mode old new did refl next.target_is t.works

  takes_next : is_around_dirty old.levels.around ≡ false → TakesNext Unclaimed replies old new did (Some log) (Some now) → Stay
  takes_next clean (inl s) = subst (λ (x : Seen). LevelsKnow now old.name x.levels) (sym s.stands) (same_log (some_log now log s.same))
  takes_next clean (inr (inl t)) = file_works (file.begun_copy old.job t.pair.source t.pair.target) (taken_file clean t) (taken_moves Unclaimed replies old new did (Some log) (Some now) t)
  takes_next clean (inr (inr (inl t))) = link_works (link_begun t.pair t.part) (taken_link clean t) t.works
  takes_next clean (inr (inr (inr (inl t)))) = takes_folder clean t
  takes_next clean (inr (inr (inr (inr (inl t))))) =
      subst (λ (x : Seen). LevelsKnow now old.name x.levels) (sym t.stands) (levels_passed now old.name false old.levels (same_log (some_log now log t.same)))
  takes_next clean (inr (inr (inr (inr (inr (inl t)))))) =
      subst (λ (x : Seen). LevelsKnow now old.name x.levels) (sym t.stands) (levels_passed now old.name false old.levels (same_log (some_log now log t.same)))
  takes_next clean (inr (inr (inr (inr (inr (inr (inl t))))))) = subst (λ (x : Seen). LevelsKnow now old.name x.levels) (sym t.stands) (same_log (some_log now log t.same))
  takes_next clean (inr (inr (inr (inr (inr (inr (inr (next, inl (debt, ends))))))))) =
      folder_ends log now old.name (levels_closed old.levels) (record { tree = known.tree; files = known.files; nested = known.nested; levels = closed_levels log old.name old.levels known.levels }) clean
      (closing_not old.levels.inner.copy.stage known.made) (at_end old) new did refl ends
  takes_next clean (inr (inr (inr (inr (inr (inr (inr (next, inr (debt, f, same))))))))) =
      subst (λ (x : Seen). LevelsKnow now old.name x.levels) (sym f.stands) (closed_levels now old.name old.levels (same_log (some_log now log same)))

  goes_on : GoesOn Unclaimed replies old new did (Some log) (Some now) → Stay
  goes_on (inl s) = syncs_around log now old.name old.levels (record { tree = known.tree; files = known.files; nested = known.nested; levels = known.levels }) old new did refl s
  goes_on (inr (clean, takes)) = takes_next clean takes

  pub works_on : (item : ItemAtWork) → ItemKnown log old item → WorksOn item Unclaimed replies old new did (Some log) (Some now) → Stay
  works_on Next item w = goes_on w
  works_on (File f) item w = file_works f (worked_file f item) (worked_moves Unclaimed f old new did (Some log) (Some now) w)
  works_on (Link l) item w = link_works l (worked_link l item) w
  works_on (Stays part) item w = absurd w

-- A step, where this is known once the folders are left that owe nothing.
pub copy_step : (free : Route → Bool) (replies : Replies) (old new : Seen) (did : Did) (calls : ℕ) (log now : CallLog) (faults faults_after : ℕ) (s : CopySteps free replies old new did calls (Some log) (Some now) faults faults_after)
    → StepKnown log s.mid → ItemKnown log s.mid s.mid.item → LevelsKnow now (let m : Seen = s.mid in m.name) new.levels
copy_step free replies old new did calls log now faults faults_after s known item = works_on free replies s.mid new did log now known s.mid.item item s.works
