-- What a step of a copy of folders comes to: what is known then of the copy, where it is known of its part and of the folder around. Its first change is
-- made where nothing is owed, and there all is known as it begins.
use Rattle.std.proofs.Common.{◌≡◌, refl, ◌⊎◌, ℕ, Bool, true, false, List, [], ◌∷◌, ◌++◌, sym, ◌∙◌, ap, subst, inl, inr, Some, None}
use Rattle.std.specs.Option.{option_map_or}
use Rattle.std.proofs.lemmas.Bool.{both_ways, or_cases}
use Rattle.mc_text.specs.Routes.{Route, is_prefix, same_path}
use Rattle.tree_trait.specs.FileSystem.{find, node}
use Rattle.tree_trait.specs.Refusals.{is_folder}
use Rattle.tree_trait.specs.Change.{CallLog, current}
use Rattle.tree_trait.proofs.Visible.{same_path-true}
use Rattle.laws_crash.specs.Guarded.{Marks}
use Rattle.job_answers.specs.declared.replies.Replies.{Replies}
use Rattle.job_reports.specs.Paths.{folder_of}
use Rattle.job_reports.specs.declared.job.Pair.{Pair}
use Rattle.job_reports.specs.declared.report.Did.{Did}
use Rattle.copy_folders.specs.declared.level.Level.{Level}
use Rattle.copy_folders.specs.Levels.{Levels, coming, is_around_dirty}
use Rattle.job_unsynced.specs.Folders.{is_of}
use Rattle.copy_tree.specs.InPlace.{AreMoved, HoldsTop}
use Rattle.copy_tree.specs.Standing.{is_fresh}
use Rattle.copy_tree.specs.TreeCopySteps.{IsWorkable}
use Rattle.copy_job.specs.Standing.{SubtreeCopying}
use Rattle.copy_job.specs.SubtreeSteps.{SubtreeSteps}
use Rattle.copy_job.specs.Told.{IsAfter}
use Rattle.copy_job.proofs.Unbegun.{unbegun_law}
use Rattle.copy_move.specs.Settling.{NoneOwed}
use Rattle.copy_move.specs.declared.run.Course.{Course}
use Rattle.copy_move.specs.declared.work.Work.TheVariants.{Copy}
use Rattle.laws_sessions.specs.Doubt.{is_pending, name_waits}
use Rattle.laws_sessions.proofs.BareTargets.{IsApart, IsCalmFrom, StandsBare, none_below_open}
use Rattle.laws_sessions.proofs.AtWork.{ItemKnown}
use Rattle.laws_sessions.proofs.Calm.{PartCalm}
use Rattle.laws_sessions.proofs.CalmLaws.{calm_law}
use Rattle.laws_sessions.proofs.FilledFolders.{IsFilling, filling_begins}
use Rattle.laws_sessions.proofs.Intact.{prefix_way}
use Rattle.laws_sessions.proofs.KnownParts.{HasName}
use Rattle.laws_sessions.proofs.Knowing.{IsKept, HistoryFacts}
use Rattle.laws_sessions.proofs.Names.{WorkedMarked}
use Rattle.laws_sessions.proofs.OpenFolders.{AroundKnow, InnerKnows, LevelsKnow}
use Rattle.laws_sessions.proofs.OwedModes.{OwedModes}
use Rattle.laws_sessions.proofs.OwnNames.{IsOwnName, own_in}
use Rattle.laws_sessions.proofs.PartTexts.{TextKnown}
use Rattle.laws_sessions.proofs.TreeGoing.{LogHas, log_goes, number_goes, steps_stand}
use Rattle.laws_sessions.proofs.TreeKnown.{ItemHas, TargetKnows, TreeHas, TreeKnown, TreeStands, copy_known, LiesOutside}
use Rattle.laws_sessions.proofs.Untouched.{NoneOn, none_on, none_over, none_waits}
use Rattle.laws_sessions.proofs.WaitsAlone.{alone_calm}

-- what is known of the log once something was changed
pub log_has : (told : HistoryFacts) (dirty : List Route) (marks : Marks) (log : CallLog) (c : SubtreeCopying) → TreeStands dirty c → TreeHas told marks log c → LogHas c.top c.at.job log c.at
log_has told dirty marks log c stands h = record {
  copy = copy_known told dirty marks log c stands h;
  ends = stands.ends;
  marked = stands.marked;
  text = h.text;
  whole = h.whole;
  calm = h.calm;
  names = h.names;
}

-- It is known, too, where the first change may be made: nothing is owed, the folder stands, and nothing stands at the target, or a file or a link.
module _ (told : HistoryFacts) (dirty : List Route) (marks : Marks) (log : CallLog) (kept : IsKept told dirty marks log) (c : SubtreeCopying) (stands : TreeStands dirty c) (fresh : is_fresh c.at.stage ≡ true)
    (owed : NoneOwed (current log) (Copy c) dirty) (f : ℕ) (at : find (current log) (folder_of c.top.target) ≡ Some f) (folder : is_folder (node (current log) f) ≡ true) (open_to : (find (current log) c.top.target ≡ None) ⊎ StandsBare (current log) c.top.target) where
  abbrev up : Route
  up = folder_of c.top.target

  none : NoneOn (current log) up dirty
  none = none_on (current log) (Copy c) dirty owed

  -- the folder that holds the target is the one that is worked
  holds : (inner : Level) (around : List Level) → around ≡ [] → AreMoved c.top inner around → inner.copy.target ≡ up
  holds inner around is moved = (let h : HoldsTop c.top inner = subst (AreMoved c.top inner) is moved in h.to)

  begins_levels : (name : List ℕ) (l : Levels) → l.around ≡ [] → l.inner.copy.target ≡ up → LevelsKnow log name l
  begins_levels name l is to = record {
    inner = subst (λ b. InnerKnows b log l.inner.copy.target (coming name l.inner.names l.around)) (sym (ap is_around_dirty is))
        (subst (λ q. IsFilling log q (coming name l.inner.names l.around)) (sym to) (filling_begins told dirty marks log up f (coming name l.inner.names l.around) kept at folder (none_over (current log) (Copy c) dirty owed)));
    around = subst (AroundKnow log name) (sym is) tt;
  }

  -- no name waits in a folder of its own
  none_own : (name : List ℕ) (q : Route) → is_of up c.top.target q ≡ true → name_waits log (name ∷ q) ≡ false
  none_own name q own = elim (or_cases (same_path q up) (is_prefix c.top.target q) own) [
    | inl here ↦ subst (λ p. name_waits log (name ∷ p) ≡ false) (sym (same_path-true q up here)) (none_waits told dirty marks log up kept.known none name)
    | inr within ↦
        let way = prefix_way c.top.target q within in
        subst (λ p. name_waits log (name ∷ p) ≡ false) (sym way.1) (none_in way.0)
  ]
    where
      none_at : (find (current log) c.top.target ≡ None) ⊎ StandsBare (current log) c.top.target → name_waits log (name ∷ c.top.target) ≡ false
      none_at (inl free) = ap (λ o. option_map_or (λ g. is_pending g name log.changes) o false) free
      none_at (inr b) = ap (λ o. option_map_or (λ g. is_pending g name log.changes) o false) b.leads ∙ kept.known.files.bare b.i name b.bare

      none_in : (rest : Route) → name_waits log (name ∷ rest ++ c.top.target) ≡ false
      none_in [] = none_at open_to
      none_in (more ∷ rest) = ap (λ o. option_map_or (λ g. is_pending g name log.changes) o false) (none_below_open log kept.known.guarded.tree c.top.target open_to more rest)

  -- what stands below the target is calm, since nothing does, and so is what stands there, if nothing does
  calm_first : (rest : Route) → IsCalmFrom log c.at c.top.target rest
  calm_first (more ∷ rest) = inl (let law = calm_law in law.free log c.at (more ∷ rest ++ c.top.target) (none_below_open log kept.known.guarded.tree c.top.target open_to more rest))
  calm_first [] = elim open_to [
    | inl free ↦ inl (let law = calm_law in law.free log c.at c.top.target free)
    | inr b ↦ inr (refl, b, (let outside = stands.unbegun fresh in subst (λ i. IsApart i c.top.target) (sym outside.none) tt))
  ]

  pub first_has : LogHas c.top c.at.job log c.at
  first_has =
      let outside = stands.unbegun fresh in
      let place = stands.in_place in
      record {
        copy = (
          (begins_levels c.at.name c.at.levels outside.around (holds c.at.levels.inner c.at.levels.around outside.around place.levels), stands.laid),
          subst (λ i. ItemKnown log c.at i) (sym outside.none) tt,
        );
        ends = stands.ends;
        marked = stands.marked;
        text = subst (λ i. TextKnown log i) (sym outside.none) tt;
        whole = subst (λ i. PartCalm log i) (sym outside.none) tt;
        calm = calm_first;
        names = λ name q own.
            let none = none_own name q (own_in c.at.job c.top (name ∷ q) own) in
            (λ waits. absurd (both_ways _ none waits), alone_calm log (name ∷ q) none);
      }

module _ (told : HistoryFacts) (dirty dirty_after : List Route) (marks : Marks) (log now : CallLog) (kept : IsKept told dirty marks log) (c new : SubtreeCopying) (did : Did) (free : Route → Bool) (replies : Replies) (count f0 f1 : ℕ)
    (s : SubtreeSteps free replies c new did count dirty dirty_after (Some log) (Some now) f0 f1) (stands : TreeStands dirty c) (name : HasName c.top.target) (told_so : IsAfter did c new) where
  name_then : HasName new.top.target
  name_then = subst (λ (top : Pair). HasName top.target) (sym told_so.top) name

  -- once something was changed
  pub tree_then : LiesOutside c.top → LogHas c.top c.at.job log c.at → (after : HistoryFacts) (course : Course) (m : Marks) → OwedModes after.tree new.at → after.folders (folder_of c.top.target) ≡ true → ItemHas after dirty_after m (current now) course new.at.item
      → TargetKnows after m (current now) new → TreeKnown after dirty_after m now course new
  tree_then outside has after course m modes folder part around =
      let has_now = log_goes free replies c new did count dirty dirty_after log now f0 f1 s kept.known.guarded.tree kept.known.files has in
      let copy = has_now.copy in
      let number = number_goes free replies c new did count dirty dirty_after log now f0 f1 s in
      record {
        name = name_then;
        part = part;
        goes = λ on. record {
          stands = steps_stand free replies c new did count dirty dirty_after log now f0 f1 s told_so.stage has_now.marked stands;
          begun = λ some. record {
            outside = subst LiesOutside (sym told_so.top) outside;
            levels = copy.0.0;
            item = copy.1;
            text = has_now.text;
            whole = has_now.whole;
            calm = λ rest. subst (λ (top : Pair). IsCalmFrom now new.at top.target rest) (sym told_so.top) (has_now.calm rest);
            names = λ n q own. has_now.names n q (subst (λ j. IsOwnName j c.top (n ∷ q)) number (subst (λ (top : Pair). IsOwnName new.at.job top (n ∷ q)) told_so.top own));
            modes = modes;
            folder = subst (λ (top : Pair). after.folders (folder_of top.target) ≡ true) (sym told_so.top) folder;
            around = around;
          };
        };
      }

  -- where nothing was changed still
  pub tree_fresh : is_fresh c.at.stage ≡ true → is_fresh new.at.stage ≡ true → (after : HistoryFacts) (course : Course) (m : Marks) → ItemHas after dirty_after m (current now) course new.at.item → TreeKnown after dirty_after m now course new
  tree_fresh was still after course m part =
      let law = unbegun_law in
      let before = stands.unbegun was in
      let outside = law.step free replies c new did count dirty dirty_after (Some log) (Some now) f0 f1 s (subst IsWorkable (sym before.none) tt) stands.unbegun still in
      record {
        name = name_then;
        part = part;
        goes = λ on. record {
          stands = steps_stand free replies c new did count dirty dirty_after log now f0 f1 s told_so.stage (subst (λ i. WorkedMarked i new.at.levels.inner) (sym outside.none) tt) stands;
          begun = λ some. absurd (both_ways _ some still);
        };
      }
