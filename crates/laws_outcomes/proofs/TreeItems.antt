-- What a copy of folders has done after a step at a file or a link.
use Rattle.std.proofs.Common.{◌≡◌, ◌⊎◌, Bool, true, false, List, ◌∷◌, ◌++◌, refl, sym, ◌∙◌, ap, subst, inl, inr, Option, Some, None}
use Rattle.std.specs.Prelude.{drop}
use Rattle.std.proofs.lemmas.Bool.{both_ways}
use Rattle.mc_text.specs.Routes.{Route, is_prefix}
use Rattle.tree_trait.specs.Change.{CallLog}
use Rattle.tree_trait.specs.CrashImages.{Among}
use Rattle.tree_trait.specs.FileSystem.{View}
use Rattle.job_reports.specs.Jobs.{Copies}
use Rattle.job_reports.specs.declared.job.Pair.{Pair}
use Rattle.job_reports.specs.declared.report.Did.{Did}
use Rattle.job_reports.specs.declared.report.Did.TheVariants.{Began, Chunk, Placed, Removed, Made, Set, Kept, Skipped, Cleaned, Barrier, Asked, Merges, Moved, Troubled, Ended}
use Rattle.job_reports.specs.declared.report.Ending.TheVariants.{Finished, Aborted, Killed, NoMemory}
use Rattle.copy_file.specs.Copying as file
use Rattle.copy_file.specs.Copying.{Copying}
use Rattle.copy_file.specs.PartSteps.{TellsMade}
use Rattle.copy_file.specs.declared.stage.SourceFacts.{SourceFacts}
use Rattle.copy_file.specs.declared.stage.Stage.{Stage as FileStage}
use Rattle.copy_file.specs.declared.stage.Stage.TheVariants as file_stage
use Rattle.copy_link.specs.LinkCopying as link
use Rattle.copy_link.specs.LinkCopying.{LinkCopying}
use Rattle.copy_link.specs.declared.stage.Stage.{Stage as LinkStage}
use Rattle.copy_link.specs.declared.stage.Stage.TheVariants as link_stage
use Rattle.copy_folders.specs.declared.level.Level.{Level}
use Rattle.copy_folders.specs.Levels.{Levels, dirtied_levels, passed_levels as passed_level}
use Rattle.copy_tree.specs.declared.item.ItemAtWork.{ItemAtWork}
use Rattle.copy_tree.specs.declared.item.ItemAtWork.TheVariants.{Next, File, Link}
use Rattle.copy_tree.specs.declared.progress.Progress.{Progress}
use Rattle.copy_tree.specs.declared.progress.Progress.TheVariants.{UnderWay, Decided, Anew}
use Rattle.copy_tree.specs.InPlace.{IsMoved}
use Rattle.copy_tree.specs.Progress.{link_progress, progress}
use Rattle.copy_tree.specs.Standing.{Seen}
use Rattle.copy_tree.specs.TreeCopySteps.{FileBegins, FileWorks, LinkWorks, after_file, idle, noted_copy, copy_after_progress}
use Rattle.laws_sessions.specs.Replayed.{replayed_step}
use Rattle.laws_sessions.proofs.Intact.{prefix_append, prefix_way}
use Rattle.laws_outcomes.proofs.Accounts.{AllCopied, AreOpened, CanPlace, FileDone, IsAccounted, IsCopy, IsCovered, IsDue, IsNext, IsRoom, ItemDone, LinkDone, TreeDone, covered_below, passed_at, put_same}
use Rattle.laws_outcomes.proofs.FileWork.{file_goes, self_prefix}
use Rattle.laws_outcomes.proofs.LinkWork.{link_goes}
use Rattle.laws_outcomes.proofs.TreeLevels.{IsChanged, accounted_map, copy_changed, covered_by, opened_changed, opened_inner, pending_here, same_rest, source_of}

-- a step leaves a copy its paths
pub file_paths : (f moved : Copying) (did : Did) → file.Tells f did moved → (moved.source ≡ f.source) × (moved.target ≡ f.target)
file_paths f moved (Began part) (stage, (facts, new_is)) = (ap (λ (x : Copying). x.source) new_is, ap (λ (x : Copying). x.target) new_is)
file_paths f moved (Chunk count) (part, facts, done, stage, least, most, fits, new_is) = (ap (λ (x : Copying). x.source) new_is, ap (λ (x : Copying). x.target) new_is)
file_paths f moved (Placed path) (part, facts, stage, path_is, new_is) = (ap (λ (x : Copying). x.source) new_is, ap (λ (x : Copying). x.target) new_is)
file_paths f moved (Cleaned part) (follows, stage, new_is) = (ap (λ (x : Copying). x.source) new_is, ap (λ (x : Copying). x.target) new_is)
file_paths f moved Barrier (stage, dirty, new_is) = (ap (λ (x : Copying). x.source) new_is, ap (λ (x : Copying). x.target) new_is)
file_paths f moved (Troubled trouble) (barrier, new_is) = (ap (λ (x : Copying). x.source) new_is, ap (λ (x : Copying). x.target) new_is)
file_paths f moved (Ended Finished part) (stage, synced, part_is, new_is) = (ap (λ (x : Copying). x.source) new_is, ap (λ (x : Copying). x.target) new_is)
file_paths f moved did t = absurd t

pub link_paths : (l moved : LinkCopying) (did : Did) → link.Tells l did moved → (moved.source ≡ l.source) × (moved.target ≡ l.target)
link_paths l moved (Began part) (stage, part_is, new_is) = (ap (λ (x : LinkCopying). x.source) new_is, ap (λ (x : LinkCopying). x.target) new_is)
link_paths l moved (Placed path) (stage, path_is, new_is) = (ap (λ (x : LinkCopying). x.source) new_is, ap (λ (x : LinkCopying). x.target) new_is)
link_paths l moved (Cleaned part) (follows, stage, part_is, new_is) = (ap (λ (x : LinkCopying). x.source) new_is, ap (λ (x : LinkCopying). x.target) new_is)
link_paths l moved Barrier (stage, dirty, new_is) = (ap (λ (x : LinkCopying). x.source) new_is, ap (λ (x : LinkCopying). x.target) new_is)
link_paths l moved (Troubled trouble) (barrier, new_is) = (ap (λ (x : LinkCopying). x.source) new_is, ap (λ (x : LinkCopying). x.target) new_is)
link_paths l moved did t = absurd t

-- what a path of the source that doesn't lie at or below this one has come to
abbrev pub Elsewhere : View → List Route → Pair → Level → List Level → Route → Type 0
Elsewhere v passed top inner around source = (rest : Route) → is_prefix top.target (rest ++ top.source) ≡ false → is_prefix source (rest ++ top.source) ≡ false → IsAccounted v passed inner around (rest ++ top.source) (rest ++ top.target)

module _ (v : View) (passed : List Route) (top : Pair) (c : Seen) (source target : Route) (m : IsMoved top source target) (next : IsNext c.levels.inner source)
    (elsewhere : Elsewhere v passed top c.levels.inner c.levels.around source) (folders : AreOpened v top.target c.levels.inner c.levels.around) (none : c.item ≡ Next) where
  abbrev next_levels : Levels
  next_levels = passed_level false c.levels

  -- the next name is met still
  ahead : (rest : Route) → is_prefix top.target (rest ++ top.source) ≡ false → IsAccounted v passed c.levels.inner c.levels.around (rest ++ top.source) (rest ++ top.target)
  ahead rest off = by (is_prefix source (rest ++ top.source)) refl
    where
      by : (b : Bool) → is_prefix source (rest ++ top.source) ≡ b → IsAccounted v passed c.levels.inner c.levels.around (rest ++ top.source) (rest ++ top.target)
      by false apart = elsewhere rest off apart
      by true below = inr (inl (pending_here c.levels.inner c.levels.around (rest ++ top.source) (inl (
        next.0,
        subst (λ names. Among names next.0) (sym next.2) (inl refl),
        subst (λ p. is_prefix p (rest ++ top.source) ≡ true) next.3 below,
      ))))

  -- what is due apart from the next name is due once that is done with
  due_then : (path : Route) → is_prefix source path ≡ false → IsDue c.levels.inner path → IsDue next_levels.inner path
  due_then path apart (inr owed) = inr owed
  due_then path apart (inl (name, among, below)) = by (subst (λ names. Among names name) next.2 among)
    where
      by : (name ≡ next.0) ⊎ Among next.1 name → IsDue next_levels.inner path
      by (inl same) = absurd (both_ways _ apart (subst (λ p. is_prefix p path ≡ true) (ap (λ n. n ∷ c.levels.inner.copy.source) same ∙ sym next.3) below))
      by (inr later) = inl (name, subst (λ names. Among (drop 1 names) name) (sym next.2) later, below)

  -- it is done with: it is covered, or its copy stands
  done_with : IsCovered passed source ⊎ AllCopied v top.target source target → (rest : Route) → is_prefix top.target (rest ++ top.source) ≡ false
      → IsAccounted v passed next_levels.inner c.levels.around (rest ++ top.source) (rest ++ top.target)
  done_with here rest off = by (is_prefix source (rest ++ top.source)) refl
    where
      it : IsCovered passed source ⊎ AllCopied v top.target source target → is_prefix source (rest ++ top.source) ≡ true → IsAccounted v passed next_levels.inner c.levels.around (rest ++ top.source) (rest ++ top.target)
      it (inl covered) below = inl (covered_below passed source (rest ++ top.source) below covered)
      it (inr all) below =
          let w = prefix_way source (rest ++ top.source) below in
          inr (inr (subst (λ p. IsCopy v p (rest ++ top.target)) (sym w.1) (subst (λ p. IsCopy v (w.0 ++ source) p) (sym (same_rest top source target rest w.0 m w.1))
          (all w.0 (subst (λ p. is_prefix top.target p ≡ false) w.1 off)))))

      by : (b : Bool) → is_prefix source (rest ++ top.source) ≡ b → IsAccounted v passed next_levels.inner c.levels.around (rest ++ top.source) (rest ++ top.target)
      by false apart = accounted_map v passed c.levels.inner next_levels.inner c.levels.around (rest ++ top.source) (rest ++ top.target) (due_then (rest ++ top.source) apart) (elsewhere rest off apart)
      by true below = it here below

  file_decided : (stage : FileStage) → progress stage ≡ Decided → FileDone v passed top.target c.levels.around source target stage → IsCovered passed source ⊎ AllCopied v top.target source target
  file_decided file_stage.Begin is d = absurd (let f : ⊥ = cc in f)
  file_decided (file_stage.Fill part facts done) is d = absurd (let f : ⊥ = cc in f)
  file_decided (file_stage.Clean part follows) is d = absurd (let f : ⊥ = cc in f)
  file_decided (file_stage.Left part) is d = absurd (let f : ⊥ = cc in f)
  file_decided file_stage.Decided is d = d

  link_decided : (stage : LinkStage) → link_progress stage ≡ Decided → LinkDone v passed top.target c.levels.around source target stage → IsCovered passed source ⊎ AllCopied v top.target source target
  link_decided link_stage.Make is d = absurd (let f : ⊥ = cc in f)
  link_decided link_stage.Place is d = absurd (let f : ⊥ = cc in f)
  link_decided (link_stage.Clean follows) is d = absurd (let f : ⊥ = cc in f)
  link_decided link_stage.Left is d = absurd (let f : ⊥ = cc in f)
  link_decided link_stage.Again is d = absurd (let f : ⊥ = cc in f)
  link_decided link_stage.Decided is d = d

  -- what is at work stands so, or is passed, or is to be taken up anew
  settle : (p : Progress) (item : ItemAtWork) → (p ≡ UnderWay → ItemDone v passed top.target c.levels.inner c.levels.around item) → (p ≡ Decided → IsCovered passed source ⊎ AllCopied v top.target source target) → TreeDone v passed top (copy_after_progress p item c)
  settle UnderWay item under decided = record { things = ahead; folders = folders; item = under refl }
  settle Decided item under decided = record {
    things = done_with (decided refl);
    folders = opened_inner v top.target c.levels.inner next_levels.inner c.levels.around (λ o. record { made = o.made; shown = o.shown }) folders;
    item = subst (λ i. ItemDone v passed top.target next_levels.inner c.levels.around i) (sym none) tt;
  }
  settle Anew item under decided = record { things = ahead; folders = folders; item = subst (λ i. ItemDone v passed top.target c.levels.inner c.levels.around i) (sym none) tt }

  pub settled_file : (f : Copying) → f.source ≡ source → f.target ≡ target → FileDone v passed top.target c.levels.around f.source f.target f.stage → TreeDone v passed top (copy_after_progress (progress f.stage) (File f) c)
  settled_file f from to d =
      settle (progress f.stage) (File f) (λ under. (under, subst (IsNext c.levels.inner) (sym from) next, d))
      (λ is. file_decided f.stage is (subst (λ p. FileDone v passed top.target c.levels.around source p f.stage) to (subst (λ p. FileDone v passed top.target c.levels.around p f.target f.stage) from d)))

  pub settled_link : (l : LinkCopying) → l.source ≡ source → l.target ≡ target → LinkDone v passed top.target c.levels.around l.source l.target l.stage → TreeDone v passed top (copy_after_progress (link_progress l.stage) (Link l) c)
  settled_link l from to d =
      settle (link_progress l.stage) (Link l) (λ under. (under, subst (IsNext c.levels.inner) (sym from) next, d))
      (λ is. link_decided l.stage is (subst (λ p. LinkDone v passed top.target c.levels.around source p l.stage) to (subst (λ p. LinkDone v passed top.target c.levels.around p l.target l.stage) from d)))

-- a name was changed in the folder that is worked: nothing else of it is another
pub dirtied_elsewhere : (changed : Bool) (v : View) (passed : List Route) (top : Pair) (l : Levels) (source : Route) → Elsewhere v passed top l.inner l.around source → Elsewhere v passed top (let x = dirtied_levels changed l in x.inner) l.around source
dirtied_elsewhere true v passed top l source e rest off apart = accounted_map v passed l.inner (let x = dirtied_levels true l in x.inner) l.around (rest ++ top.source) (rest ++ top.target) (λ d. d) (e rest off apart)
dirtied_elsewhere false v passed top l source e rest off apart = accounted_map v passed l.inner (let x = dirtied_levels false l in x.inner) l.around (rest ++ top.source) (rest ++ top.target) (λ d. d) (e rest off apart)

pub dirtied_opened : (changed : Bool) (v : View) (top : Route) (l : Levels) → AreOpened v top l.inner l.around → AreOpened v top (let x = dirtied_levels changed l in x.inner) l.around
dirtied_opened true v top l h = opened_inner v top l.inner (let x = dirtied_levels true l in x.inner) l.around (λ o. record { made = o.made; shown = o.shown }) h
dirtied_opened false v top l h = opened_inner v top l.inner (let x = dirtied_levels false l in x.inner) l.around (λ o. record { made = o.made; shown = o.shown }) h

pub dirtied_next : (changed : Bool) (l : Levels) (path : Route) → IsNext l.inner path → IsNext (let x = dirtied_levels changed l in x.inner) path
dirtied_next true l path n = n
dirtied_next false l path n = n

module _ (now : CallLog) (v : View) (passed : List Route) (top : Pair) where
  abbrev Then : Did → View
  Then did = replayed_step now did (Some (Copies top.source top.target)) v

  -- what a step changes of the view: nothing, or what stands at the target, where there is room
  pub record Changes (did : Did) (around : List Level) (target : Route) : Type 0 where
    pub change : IsChanged v (Then did) top.target target
    pub free : (Then did ≡ v) ⊎ IsRoom v around target

  quiet : (did : Did) (around : List Level) (source target : Route) → IsMoved top source target → Then did ≡ v → Changes did around target
  quiet did around source target m is = record {
    change = record { same = λ p off. ap (λ (w : View). (w p).value) is; on = subst (λ p. is_prefix top.target p ≡ true) (sym m.to) (prefix_append top.target m.rest) };
    free = inl is;
  }

  places : (around : List Level) (source target : Route) → IsMoved top source target → IsRoom v around target → Changes (Placed target) around target
  places around source target m free = record {
    change = record {
      same = λ p off. put_same v target _ p off;
      on = subst (λ p. is_prefix top.target p ≡ true) (sym m.to) (prefix_append top.target m.rest);
    };
    free = inr free;
  }

  file_changes : (around : List Level) (f moved : Copying) (did : Did) → IsMoved top f.source f.target → file.Tells f did moved → FileDone v passed top.target around f.source f.target f.stage → Changes did around f.target
  file_changes around f moved (Placed path) m (part, facts, stage, path_is, new_is) d =
      let can = subst (λ s. FileDone v passed top.target around f.source f.target s) stage d in
      subst (λ p. Changes (Placed p) around f.target) (sym path_is) (places around f.source f.target m can.1)
  file_changes around f moved (Began part) m t d = quiet (Began part) around f.source f.target m refl
  file_changes around f moved (Chunk count) m t d = quiet (Chunk count) around f.source f.target m refl
  file_changes around f moved (Cleaned part) m t d = quiet (Cleaned part) around f.source f.target m refl
  file_changes around f moved Barrier m t d = quiet Barrier around f.source f.target m refl
  file_changes around f moved (Troubled trouble) m t d = quiet (Troubled trouble) around f.source f.target m refl
  file_changes around f moved (Ended Finished part) m (stage, synced, part_is, new_is) d = subst (λ p. Changes (Ended Finished p) around f.target) (sym part_is) (quiet (Ended Finished None) around f.source f.target m refl)
  file_changes around f moved did m t d = absurd t

  link_changes : (around : List Level) (l moved : LinkCopying) (did : Did) → IsMoved top l.source l.target → link.Tells l did moved → LinkDone v passed top.target around l.source l.target l.stage → Changes did around l.target
  link_changes around l moved (Placed path) m (stage, path_is, new_is) d =
      let can = subst (λ s. LinkDone v passed top.target around l.source l.target s) stage d in
      subst (λ p. Changes (Placed p) around l.target) (sym path_is) (places around l.source l.target m can.1)
  link_changes around l moved (Began part) m t d = quiet (Began part) around l.source l.target m refl
  link_changes around l moved (Cleaned part) m t d = quiet (Cleaned part) around l.source l.target m refl
  link_changes around l moved Barrier m t d = quiet Barrier around l.source l.target m refl
  link_changes around l moved (Troubled trouble) m t d = quiet (Troubled trouble) around l.source l.target m refl
  link_changes around l moved did m t d = absurd t

  -- of other paths it is so still
  module _ (old : Seen) (did : Did) (source target : Route) (m : IsMoved top source target) (ch : Changes did old.levels.around target) where
    still : ((rest : Route) → is_prefix top.target (rest ++ top.source) ≡ false → IsAccounted v passed old.levels.inner old.levels.around (rest ++ top.source) (rest ++ top.target))
        → Elsewhere (Then did) (passed_at top did passed) top old.levels.inner old.levels.around source
    still things rest off apart = by (things rest off)
      where
        by : IsAccounted v passed old.levels.inner old.levels.around (rest ++ top.source) (rest ++ top.target) → IsAccounted (Then did) (passed_at top did passed) old.levels.inner old.levels.around (rest ++ top.source) (rest ++ top.target)
        by (inl covered) = inl (covered_by top did passed (rest ++ top.source) covered)
        by (inr (inl pending)) = inr (inl pending)
        by (inr (inr copy)) = inr (inr (copy_changed v (Then did) top target ch.change (rest ++ top.source) (rest ++ top.target) off
            (λ same. both_ways _ apart (subst (λ p. is_prefix source p ≡ true) (sym (source_of top source target rest m same)) (self_prefix source))) copy))

    opened_still : AreOpened v top.target old.levels.inner old.levels.around → AreOpened (Then did) top.target old.levels.inner old.levels.around
    opened_still h = by ch.free
      where
        by : (Then did ≡ v) ⊎ IsRoom v old.levels.around target → AreOpened (Then did) top.target old.levels.inner old.levels.around
        by (inl is) = subst (λ (w : View). AreOpened w top.target old.levels.inner old.levels.around) (sym is) h
        by (inr (inl free)) = opened_changed v (Then did) top target ch.change free old.levels.inner old.levels.around h
        by (inr (inr none)) = subst (λ (xs : List Level). AreOpened (Then did) top.target old.levels.inner xs) (sym none) tt

  module _ (old new : Seen) (did : Did) (h : TreeDone v passed top old) where
    -- where a file's copy stands so, and a step of it changed this
    file_stands : (f moved : Copying) → IsMoved top f.source f.target → IsNext old.levels.inner f.source → Changes did old.levels.around f.target → moved.source ≡ f.source → moved.target ≡ f.target
        → FileDone (Then did) (passed_at top did passed) top.target old.levels.around moved.source moved.target moved.stage → new ≡ after_file did moved (idle old) → TreeDone (Then did) (passed_at top did passed) top new
    file_stands f moved m next ch from to d stands =
        let dirty = file.is_dirty moved.folder in
        subst (TreeDone (Then did) (passed_at top did passed) top) (sym stands)
        (settled_file (Then did) (passed_at top did passed) top (noted_copy did dirty (idle old)) f.source f.target m (dirtied_next dirty old.levels f.source next)
        (dirtied_elsewhere dirty (Then did) (passed_at top did passed) top old.levels f.source (still old did f.source f.target m ch h.things))
        (dirtied_opened dirty (Then did) top.target old.levels (opened_still old did f.source f.target m ch h.folders)) refl
        moved from to d)

    pub file_works : (unclaimed : Route → Type 0) (f : Copying) (before after : Option CallLog) → FileWorks unclaimed f old new did before after → IsMoved top f.source f.target → IsNext old.levels.inner f.source
        → FileDone v passed top.target old.levels.around f.source f.target f.stage → (f.stage ≡ file_stage.Begin → ⊥) → TreeDone (Then did) (passed_at top did passed) top new
    file_works unclaimed f before after w m next d begun =
        let moved = w.moved in
        let paths = file_paths f moved did w.tells in
        file_stands f moved m next (file_changes old.levels.around f moved did m w.tells d) paths.0 paths.1 (file_goes now v passed top old.levels.around f moved did m w.tells begun d) w.stands

    abbrev Here : Did → Copying → Type 0
    Here d x = FileDone (Then d) (passed_at top d passed) top.target old.levels.around x.source x.target x.stage

    -- its part was made, or was not
    record MadePart (f moved : Copying) : Type 0 where
      pub changes : Changes did old.levels.around f.target
      pub from : moved.source ≡ f.source
      pub to : moved.target ≡ f.target
      pub done : FileDone (Then did) (passed_at top did passed) top.target old.levels.around moved.source moved.target moved.stage

    pub file_begins : (unclaimed : Route → Type 0) (facts : SourceFacts) (f : Copying) (before after : Option CallLog) → FileBegins unclaimed facts f old new did before after → IsMoved top f.source f.target → IsNext old.levels.inner f.source
        → f.stage ≡ file_stage.Begin → CanPlace v old.levels.around f.source f.target → TreeDone (Then did) (passed_at top did passed) top new
    file_begins unclaimed facts f before after w m next begin can =
        let made = by did refl w.tells in
        file_stands f w.moved m next made.changes made.from made.to made.done w.stands
      where
        moved : Copying
        moved = w.moved

        by : (d : Did) → did ≡ d → TellsMade facts f d moved → MadePart f moved
        by (Began part) is new_is = record {
          changes = quiet did old.levels.around f.source f.target m (ap Then is);
          from = ap (λ (x : Copying). x.source) new_is;
          to = ap (λ (x : Copying). x.target) new_is;
          done = subst (λ d. Here d moved) (sym is) (subst (Here (Began part)) (sym new_is) can);
        }
        by (Troubled trouble) is (barrier, new_is) = record {
          changes = quiet did old.levels.around f.source f.target m (ap Then is);
          from = ap (λ (x : Copying). x.source) new_is;
          to = ap (λ (x : Copying). x.target) new_is;
          done = subst (λ d. Here d moved) (sym is) (subst (Here (Troubled trouble)) (sym new_is) (subst (λ s. FileDone v passed top.target old.levels.around f.source f.target s) (sym begin) tt));
        }
        by did is t = absurd t

    pub link_works : (l : LinkCopying) (before after : Option CallLog) → LinkWorks l old new did before after → IsMoved top l.source l.target → IsNext old.levels.inner l.source
        → LinkDone v passed top.target old.levels.around l.source l.target l.stage → TreeDone (Then did) (passed_at top did passed) top new
    link_works l before after w m next d =
        let moved = w.moved in
        let ch = link_changes old.levels.around l moved did m w.tells d in
        let paths = link_paths l moved did w.tells in
        let dirty = link.is_dirty moved.folder in
        subst (TreeDone (Then did) (passed_at top did passed) top) (sym w.stands)
        (settled_link (Then did) (passed_at top did passed) top (noted_copy did dirty (idle old)) l.source l.target m (dirtied_next dirty old.levels l.source next)
        (dirtied_elsewhere dirty (Then did) (passed_at top did passed) top old.levels l.source (still old did l.source l.target m ch h.things))
        (dirtied_opened dirty (Then did) top.target old.levels (opened_still old did l.source l.target m ch h.folders)) refl
        moved paths.0 paths.1 (link_goes now v passed top old.levels.around l moved did m w.tells d))
