-- What a job knows that copies a thing with all that lies in it: as it begins, and after a skip and a retry, which call nothing.
use Rattle.std.proofs.Common.{◌≡◌, ℕ, true, false, List, [], ◌∷◌, ◌++◌, refl, sym, ◌∙◌, ap, subst, inl, inr, None}
use Rattle.std.specs.Prelude.{is_some}
use Rattle.std.proofs.lemmas.Bool.{false≢true, true≢false}
use Rattle.mc_text.specs.Routes.{Route, parent_of}
use Rattle.tree_trait.specs.declared.file_system.FileSystem.{FileSystem}
use Rattle.tree_trait.specs.Change.{CallLog, current}
use Rattle.laws_crash.specs.Guarded.{Marks}
use Rattle.job_reports.specs.declared.job.Pair.{Pair}
use Rattle.job_reports.specs.declared.report.Cause.{Cause}
use Rattle.job_reports.specs.declared.report.Did.{Did}
use Rattle.job_reports.specs.declared.report.Did.TheVariants.{Troubled}
use Rattle.job_reports.specs.declared.report.Trouble.{Trouble}
use Rattle.copy_file.specs.CopySteps as file_steps
use Rattle.copy_file.specs.Copying as file
use Rattle.copy_file.specs.Copying.{Copying}
use Rattle.copy_file.specs.declared.stage.Stage.{Stage as FileStage}
use Rattle.copy_file.specs.declared.stage.Stage.TheVariants as file_stage
use Rattle.copy_link.specs.LinkCopying as link
use Rattle.copy_link.specs.LinkCopying.{LinkCopying}
use Rattle.copy_link.specs.LinkSteps as link_steps
use Rattle.copy_link.specs.declared.stage.Stage.{Stage as LinkStage}
use Rattle.copy_link.specs.declared.stage.Stage.TheVariants as link_stage
use Rattle.copy_tree.specs.Progress.{link_progress, progress}
use Rattle.copy_tree.specs.Skipping as machine
use Rattle.copy_tree.specs.Skipping.{SkipsNamed}
use Rattle.copy_tree.specs.Standing.{Seen, is_fresh}
use Rattle.copy_tree.specs.TreeCopySteps.{IsWorkable, idle, copy_after_progress}
use Rattle.copy_tree.specs.declared.item.ItemAtWork.{ItemAtWork}
use Rattle.copy_tree.specs.declared.item.ItemAtWork.TheVariants.{Next, File, Link, Stays}
use Rattle.copy_tree.specs.declared.progress.Progress.{Progress}
use Rattle.copy_tree.specs.declared.progress.Progress.TheVariants.{UnderWay, Decided, Anew}
use Rattle.copy_tree.proofs.Staying.{staying_law}
use Rattle.copy_job.specs.Standing.{SubtreeCopying, named_of, retries, begun_subtree_copy}
use Rattle.copy_job.specs.SubtreeSteps.{SubtreeSkips}
use Rattle.copy_job.specs.Unbegun.{IsUnbegun}
use Rattle.copy_job.proofs.Begun.{begins_held}
use Rattle.copy_job.proofs.Unbegun.{unbegun_law}
use Rattle.copy_move.specs.declared.run.Course.{Course}
use Rattle.copy_move.specs.declared.run.Course.TheVariants.{GoesOn}
use Rattle.laws_sessions.proofs.BareSteps.{retry_bare, skip_bare}
use Rattle.laws_sessions.proofs.CalmLaws.{calm_law}
use Rattle.laws_sessions.proofs.EndSteps.{end_law}
use Rattle.laws_sessions.proofs.KnownParts.{may_fill, FileKnows, HasName, LinkKnows, StageKnows, file_course, stage_anew, stage_skipped}
use Rattle.laws_sessions.proofs.Knowing.{HistoryFacts}
use Rattle.laws_sessions.proofs.ListSteps.{list_law}
use Rattle.laws_sessions.proofs.NameLaws.{names_law}
use Rattle.laws_sessions.proofs.OwnNames.{IsOwnName}
use Rattle.laws_sessions.proofs.SameNumbers.{retried_number, skips_number}
use Rattle.laws_sessions.proofs.SetFolders.{owed_mode_law}
use Rattle.laws_sessions.proofs.TextSteps.{text_law}
use Rattle.laws_sessions.proofs.TreeKnown.{ItemHas, TargetKnows, TreeGoes, TreeHas, TreeKnown, TreeStands, copy_known, is_over}
use Rattle.laws_sessions.proofs.TreeSkips.{retries_laid, skip_law, skips_laid}

-- A skip makes nothing of what isn't at work, and leaves how far the copy is.
next_stays : (names : List (List ℕ)) (cause : Cause) (old new : Seen) (did : Did) → SkipsNamed names cause old did new → (new.item ≡ old.item) × (new.stage ≡ old.stage)
next_stays [] cause old new did (moved, skips, stands) = (ap (λ (c : Seen). c.item) stands, ap (λ (c : Seen). c.stage) stands)
next_stays (name ∷ names) cause old new did (inl done) = (ap (λ (c : Seen). c.item) done.1, ap (λ (c : Seen). c.stage) done.1)
next_stays (name ∷ names) cause old new did (inr (inl (long, inl done))) = (ap (λ (c : Seen). c.item) done.1, ap (λ (c : Seen). c.stage) done.1)
next_stays (name ∷ names) cause old new did (inr (inl (long, inr room))) = (ap (λ (c : Seen). c.item) room.1, ap (λ (c : Seen). c.stage) room.1)
next_stays (name ∷ names) cause old new did (inr (inr room)) = (ap (λ (c : Seen). c.item) room.1, ap (λ (c : Seen). c.stage) room.1)

settled_stage : (p : Progress) (item : ItemAtWork) (c : Seen) → (let n : Seen = copy_after_progress p item c in n.stage) ≡ c.stage
settled_stage UnderWay item c = refl
settled_stage Decided item c = refl
settled_stage Anew item c = refl

skips_stage : (item : ItemAtWork) (cause : Cause) (old new : Seen) (did : Did) → machine.SkipsAt item cause old did new → new.stage ≡ old.stage
skips_stage Next cause old new did s = (next_stays old.levels.inner.names.names cause old new did s).1
skips_stage (File f) cause old new did (moved, skips, stands) = ap (λ (c : Seen). c.stage) stands ∙ settled_stage (progress moved.stage) (File moved) (idle old)
skips_stage (Link l) cause old new did (moved, skips, stands) = ap (λ (c : Seen). c.stage) stands ∙ settled_stage (link_progress moved.stage) (Link moved) (idle old)
skips_stage (Stays part) cause old new did s = absurd s

-- what isn't at work stays so
pub skips_none : (cause : Cause) (old new : Seen) (did : Did) → old.item ≡ Next → machine.Skips cause old did new → new.item ≡ Next
skips_none cause old new did none s = (next_stays old.levels.inner.names.names cause old new did (subst (λ i. machine.SkipsAt i cause old did new) none s)).0 ∙ none

-- a link whose part stands, once it is left, or taken anew
skipped_part : (stage : LinkStage) → link.has_part stage ≡ true → link.has_part (link.skipped_stage stage) ≡ true
skipped_part link_stage.Place has = refl
skipped_part (link_stage.Clean follows) has = refl
skipped_part link_stage.Left has = refl
skipped_part link_stage.Make has = absurd (false≢true has)
skipped_part link_stage.Again has = absurd (false≢true has)
skipped_part link_stage.Decided has = absurd (false≢true has)

anew_part : (stage : LinkStage) → link.has_part stage ≡ true → link.has_part (link.taken_anew stage) ≡ true
anew_part link_stage.Place has = refl
anew_part (link_stage.Clean follows) has = refl
anew_part link_stage.Left has = refl
anew_part link_stage.Make has = absurd (false≢true has)
anew_part link_stage.Again has = absurd (false≢true has)
anew_part link_stage.Decided has = absurd (false≢true has)

module _ (told : HistoryFacts) (dirty : List Route) (marks : Marks) (s : FileSystem) where
  -- what is known of the part of a file's copy that goes on, is passed, or is to be begun again
  pub file_has : (course : Course) (f : Copying) (old : Seen) (stage : FileStage) → f.stage ≡ stage → FileKnows told dirty marks s course f
      → ItemHas told dirty marks s course (let n : Seen = copy_after_progress (progress stage) (File f) (idle old) in n.item)
  file_has course f old file_stage.Begin is (name, listed, k) = (subst (λ x. StageKnows told marks s course f x) is k).0
  file_has course f old file_stage.Decided is (name, listed, k) = subst (λ x. StageKnows told marks s course f x) is k
  file_has course f old (file_stage.Fill part said done) is k = k
  file_has course f old (file_stage.Clean part follows) is k = k
  file_has course f old (file_stage.Left part) is k = k

  -- the same of a link's, whose part stands
  pub link_has : (course : Course) (l : LinkCopying) (old : Seen) (stage : LinkStage) → l.stage ≡ stage → link.has_part l.stage ≡ true → LinkKnows told dirty marks s l.source l.target l.part
      → ItemHas told dirty marks s course (let n : Seen = copy_after_progress (link_progress stage) (Link l) (idle old) in n.item)
  link_has course l old link_stage.Place is has k = (has, k)
  link_has course l old (link_stage.Clean follows) is has k = (has, k)
  link_has course l old link_stage.Left is has k = (has, k)
  link_has course l old link_stage.Make is has k = absurd (false≢true (sym (ap link.has_part is) ∙ has))
  link_has course l old link_stage.Again is has k = absurd (false≢true (sym (ap link.has_part is) ∙ has))
  link_has course l old link_stage.Decided is has k = absurd (false≢true (sym (ap link.has_part is) ∙ has))

  -- what is left keeps its part; where there is no memory to tell it, the job doesn't go on
  module _ (course other : Course) (cause : Cause) (did : Did) (off : (trouble : Trouble) → did ≡ Troubled trouble → may_fill other ≡ true → ⊥) where
    skipped_file : (f moved : Copying) → file_steps.Skips cause f did moved → FileKnows told dirty marks s course f → FileKnows told dirty marks s other moved
    skipped_file f moved (inl done) (name, listed, k) = subst (λ (x : Copying). FileKnows told dirty marks s other x) (sym done.1) (name, listed, stage_skipped told marks s course other f f.stage k)
    skipped_file f moved (inr room) k = subst (λ (x : Copying). FileKnows told dirty marks s other x) (sym room.1) (file_course told dirty marks s course other f (λ on. absurd (off _ room.0 on)) k)

    skipped_link : (l moved : LinkCopying) → link_steps.Skips cause l did moved → link.has_part l.stage ≡ true → LinkKnows told dirty marks s l.source l.target l.part
        → (link.has_part moved.stage ≡ true) × LinkKnows told dirty marks s moved.source moved.target moved.part
    skipped_link l moved (inl done) has k =
        subst (λ (x : LinkCopying). (link.has_part x.stage ≡ true) × LinkKnows told dirty marks s x.source x.target x.part) (sym done.1) (skipped_part l.stage has, k)
    skipped_link l moved (inr room) has k = subst (λ (x : LinkCopying). (link.has_part x.stage ≡ true) × LinkKnows told dirty marks s x.source x.target x.part) (sym room.1) (has, k)

    pub skipped_item : (item : ItemAtWork) (old new : Seen) → old.item ≡ item → machine.SkipsAt item cause old did new → ItemHas told dirty marks s course item → ItemHas told dirty marks s other new.item
    skipped_item Next old new is skips none =
        subst (λ i. ItemHas told dirty marks s other i) (sym ((next_stays old.levels.inner.names.names cause old new did skips).0 ∙ is)) none
    skipped_item (File f) old new is (moved, skips, stands) k =
        subst (λ (c : Seen). ItemHas told dirty marks s other c.item) (sym stands) (file_has other moved old moved.stage refl (skipped_file f moved skips k))
    skipped_item (Link l) old new is (moved, skips, stands) (has, k) =
        let stays = skipped_link l moved skips has k in
        subst (λ (c : Seen). ItemHas told dirty marks s other c.item) (sym stands) (link_has other moved old moved.stage refl stays.0 stays.1)
    skipped_item (Stays part) old new is skips k = absurd skips

  -- nor does a retry make anything of the part
  pub retried_item : (course other : Course) (item : ItemAtWork) (c : Seen) → c.item ≡ item → ItemHas told dirty marks s course item → ItemHas told dirty marks s other (let n : Seen = machine.retried_at item c in n.item)
  retried_item course other Next c is none = subst (λ i. ItemHas told dirty marks s other i) (sym is) none
  retried_item course other (File f) c is (name, listed, k) =
      file_has other (record f { stage = file.taken_anew f.stage }) c (file.taken_anew f.stage) refl (name, listed, stage_anew told marks s course other f f.stage k)
  retried_item course other (Link l) c is (has, k) = link_has other (record l { stage = link.taken_anew l.stage }) c (link.taken_anew l.stage) refl (anew_part l.stage has) k
  retried_item course other (Stays part) c is k = subst (λ i. ItemHas told dirty marks s other i) (sym is) k

module _ (told : HistoryFacts) (dirty : List Route) (marks : Marks) (log : CallLog) where
  -- where nothing was changed yet nothing is at work
  fresh_workable : (c : Seen) → IsUnbegun c → is_fresh c.stage ≡ true → IsWorkable c.item
  fresh_workable c unbegun fresh = let outside = unbegun fresh in subst IsWorkable (sym outside.none) tt

  module _ (cause : Cause) (old : SubtreeCopying) (at : Seen) (did : Did) (skips : machine.Skips cause old.at did at) where
    abbrev new : SubtreeCopying
    new = record old { at = at }

    s : SubtreeSkips cause old did new
    s = record { skips = skips; stands = refl }

    skips_stands : TreeStands dirty old → TreeStands dirty new
    skips_stands h = record {
      in_place = (let law = staying_law in law.skip old.top cause old.at at did skips h.in_place);
      laid = skips_laid old.at.item cause old.at at did skips h.laid;
      ends = (let law = end_law in law.skip cause old.at at did skips h.ends);
      unbegun = λ fresh.
          let law = unbegun_law in
          let was : is_fresh old.at.stage ≡ true = sym (ap is_fresh (skips_stage old.at.item cause old.at at did skips)) ∙ fresh in
          law.skip cause old new did s (fresh_workable old.at h.unbegun was) h.unbegun fresh;
      marked = (let law = names_law in (law.skip log cause old.at at did skips h.marked).0);
      listed = (let law = list_law in law.skip cause old new did dirty s h.listed);
    }

    skips_around : TargetKnows told marks (current log) old → TargetKnows told marks (current log) new
    skips_around (inl calm) = inl calm
    skips_around (inr (none, calm)) = inr (skips_none cause old.at at did none skips, calm)

    skips_has : TreeStands dirty old → TreeHas told marks log old → TreeHas told marks log new
    skips_has stands h =
        let law = skip_law in
        let copy = law.skip log cause old.at at did skips (copy_known told dirty marks log old stands h) in
        let calm = (let law = calm_law in law.skip log cause old.at at did skips h.whole) in
        let names = (let law = names_law in law.skip log cause old.at at did skips stands.marked) in
        record {
          outside = h.outside;
          levels = copy.0.0;
          item = copy.1;
          text = (let law = text_law in law.skip log cause old.at at did skips h.text);
          whole = calm.0;
          calm = λ rest. elim (h.calm rest) [ inl still ↦ inl (calm.1 (rest ++ old.top.target) still) | inr b ↦ inr (b.0, b.1, skip_bare old.top.target cause old.at at did skips b.2) ];
          names = λ name up own. names.1 name up (h.names name up (subst (λ n. IsOwnName n old.top (name ∷ up)) (skips_number old.at.item cause old.at at did skips) own));
          modes = (let law = owed_mode_law in law.skip cause old.at at did told.tree skips h.modes);
          folder = h.folder;
          around = skips_around h.around;
        }

    pub skips_goes : TreeGoes told dirty marks log old → TreeGoes told dirty marks log new
    skips_goes g = record {
      stands = skips_stands g.stands;
      begun = λ some. skips_has g.stands (g.begun (sym (ap is_fresh (skips_stage old.at.item cause old.at at did skips)) ∙ some));
    }

  -- a skip that is answered
  pub skips_tree : (course other : Course) (cause : Cause) (old new : SubtreeCopying) (did : Did) → is_over course ≡ false → ((trouble : Trouble) → did ≡ Troubled trouble → may_fill other ≡ true → ⊥) → SubtreeSkips cause old did new
      → TreeKnown told dirty marks log course old → TreeKnown told dirty marks log other new
  skips_tree course other cause old new did going off s k =
      subst (λ (c : SubtreeCopying). TreeKnown told dirty marks log other c) (sym s.stands) (record {
        name = k.name;
        part = skipped_item told dirty marks (current log) course other cause did off old.at.item old.at new.at refl s.skips k.part;
        goes = λ on. skips_goes cause old new.at did s.skips (k.goes going);
      })

  -- a retry
  module _ (c : SubtreeCopying) where
    abbrev again : SubtreeCopying
    again = retries c

    retried_stage : (item : ItemAtWork) → (let n : Seen = machine.retried_at item c.at in n.stage) ≡ c.at.stage
    retried_stage Next = refl
    retried_stage (File f) = settled_stage _ _ (idle c.at)
    retried_stage (Link l) = settled_stage _ _ (idle c.at)
    retried_stage (Stays part) = refl

    retries_stands : TreeStands dirty c → TreeStands dirty again
    retries_stands h = record {
      in_place = (let law = staying_law in law.retry c.top c.at h.in_place);
      laid = retries_laid c.at.item c.at h.laid;
      ends = (let law = end_law in law.retry c.at h.ends);
      unbegun = (let law = unbegun_law in law.retry c h.unbegun);
      marked = (let law = names_law in (law.retry log c.at h.marked).0);
      listed = (let law = list_law in law.retry c dirty h.listed);
    }

    retries_around : TargetKnows told marks (current log) c → TargetKnows told marks (current log) again
    retries_around (inl calm) = inl calm
    retries_around (inr (none, calm)) = inr (ap (λ i. (let n : Seen = machine.retried_at i c.at in n.item)) none ∙ none, calm)

    retries_has : TreeStands dirty c → TreeHas told marks log c → TreeHas told marks log again
    retries_has stands h =
        let law = skip_law in
        let copy = law.retry log c.at (copy_known told dirty marks log c stands h) in
        let calm = (let law = calm_law in law.retry log c.at h.whole) in
        let names = (let law = names_law in law.retry log c.at stands.marked) in
        record {
          outside = h.outside;
          levels = copy.0.0;
          item = copy.1;
          text = (let law = text_law in law.retry log c.at h.text);
          whole = calm.0;
          calm = λ rest. elim (h.calm rest) [ inl still ↦ inl (calm.1 (rest ++ c.top.target) still) | inr b ↦ inr (b.0, b.1, retry_bare c.top.target c.at b.2) ];
          names = λ name up own. names.1 name up (h.names name up (subst (λ n. IsOwnName n c.top (name ∷ up)) (retried_number c.at.item c.at) own));
          modes = (let law = owed_mode_law in law.retry c.at told.tree h.modes);
          folder = h.folder;
          around = retries_around h.around;
        }

    pub retries_tree : (course other : Course) → is_over course ≡ false → TreeKnown told dirty marks log course c → TreeKnown told dirty marks log other again
    retries_tree course other going k = record {
      name = k.name;
      part = retried_item told dirty marks (current log) course other c.at.item c.at refl k.part;
      goes = λ on. let g = k.goes going in
          record { stands = retries_stands g.stands; begun = λ some. retries_has g.stands (g.begun (sym (ap is_fresh (retried_stage c.at.item)) ∙ some)) };
    }

  -- a copy that was planned
  pub begins_tree : (id : ℕ) (top : Pair) → told.part ≡ None → is_some (parent_of top.source) ≡ true → is_some (parent_of top.target) ≡ true → HasName top.target → TreeKnown told dirty marks log GoesOn (begun_subtree_copy id top)
  begins_tree id top none from to name = record {
    name = name;
    part = none;
    goes = λ on. record {
      stands = record {
        in_place = (let held = begins_held id top from to in held.in_place);
        laid = record { once = ((λ among. among), tt); made = λ mode is. let f : ⊥ = cc in f };
        ends = (let law = end_law in law.begins id (named_of top.source) (named_of top.target));
        unbegun = (let law = unbegun_law in law.begins id top);
        marked = tt;
        listed = (let law = list_law in law.begins id top dirty);
      };
      begun = λ some. absurd (true≢false some);
    };
  }
