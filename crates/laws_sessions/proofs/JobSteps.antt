-- A job that has changed nothing knows the same, whatever is dirty; and a job ends, with the part that stands, if one does, also out of memory.
use Rattle.std.proofs.Common.{◌≡◌, ℕ, Bool, true, false, List, refl, sym, ◌∙◌, ap, subst, inl, inr, Option, Some, None}
use Rattle.std.specs.Option.{option_map_or}
use Rattle.std.proofs.lemmas.Bool.{both_ways, or_parts}
use Rattle.mc_text.specs.Routes.{Route, same_path}
use Rattle.tree_trait.specs.FileSystem.{Spot, find, starts_mount, value_at, visible_tree}
use Rattle.tree_trait.specs.Change.{CallLog, current}
use Rattle.tree_trait.proofs.Visible.{same_path-true}
use Rattle.laws_crash.specs.Guarded.{Marks}
use Rattle.job_reports.specs.declared.report.Ending.{Ending}
use Rattle.job_reports.specs.declared.report.Ending.TheVariants.{NoMemory}
use Rattle.job_reports.specs.declared.report.Did.{Did}
use Rattle.job_reports.specs.declared.report.Did.TheVariants.{Ended}
use Rattle.copy_file.specs.declared.stage.FolderState.TheVariants.{Dirty}
use Rattle.copy_file.specs.declared.stage.Stage.{Stage}
use Rattle.copy_file.specs.declared.stage.Stage.TheVariants.{Begin, Fill, Clean, Left, Decided}
use Rattle.copy_file.specs.Copying.{Copying}
use Rattle.copy_file.specs.LastSteps.{removable}
use Rattle.copy_folders.specs.declared.level.Level.{Level}
use Rattle.copy_tree.specs.Standing.{is_fresh as tree_fresh}
use Rattle.copy_job.specs.Standing.{SubtreeCopying, part_of as tree_part}
use Rattle.copy_move.specs.declared.work.Work.{Work}
use Rattle.copy_move.specs.declared.work.Work.TheVariants.{Copy, Delete, Make, Move, SetMode, RemoveEmptied}
use Rattle.copy_move.specs.declared.run.Course.{Course}
use Rattle.copy_move.specs.declared.run.Course.TheVariants.{Ends}
use Rattle.copy_move.specs.Jobs.{part_of}
use Rattle.copy_move.specs.Jobs as jobs
use Rattle.laws_sessions.proofs.Deleted.{file_no_mount, put_at, put_off}
use Rattle.laws_sessions.proofs.DeletionSteps.{ends}
use Rattle.laws_sessions.proofs.Knowing.{HistoryFacts, IsKept}
use Rattle.laws_sessions.proofs.DirtyListed.{AreListed}
use Rattle.laws_sessions.proofs.JobKnows.{HasPart, StageKnows, WorkKnows}
use Rattle.laws_sessions.proofs.KnownParts.{IsLeftPart}
use Rattle.laws_sessions.proofs.TreeKnown.{ItemHas, LeavesPart, TreeKnown, is_over, leaves_part}
use Rattle.laws_sessions.proofs.Stepped.{StepRan, comes_none, said_after}

some_route : (p q : Route) → (let o : Option Route = Some p in o) ≡ Some q → p ≡ q
some_route p q h = cc

-- nothing is at work in a copy of folders that has changed nothing, and it has marked no folder
fresh_tree : (told : HistoryFacts) (dirty other : List Route) (marks : Marks) (log : CallLog) (course : Course) (c : SubtreeCopying) → is_over course ≡ false → tree_fresh c.at.stage ≡ true → TreeKnown told dirty marks log course c
    → TreeKnown told other marks log course c
fresh_tree told dirty other marks log course c going fresh k =
    let g = k.goes going in
    let h = g.stands in
    let o = h.unbegun fresh in
    record {
      name = k.name;
      part = subst (λ i. ItemHas told other marks (current log) course i) (sym o.none) (subst (λ i. ItemHas told dirty marks (current log) course i) o.none k.part);
      goes = λ on. record {
        stands = record {
          in_place = h.in_place;
          laid = h.laid;
          ends = h.ends;
          unbegun = h.unbegun;
          marked = h.marked;
          listed = subst (λ (around : List Level). AreListed other c.at.levels.inner around) (sym o.around) (λ marked. absurd (both_ways _ o.clean marked));
        };
        begun = λ some. absurd (both_ways _ some fresh);
      };
    }

-- a job that has changed nothing knows the same, whatever is dirty
pub fresh_knows : (told : HistoryFacts) (dirty other : List Route) (marks : Marks) (log : CallLog) (course : Course) (work : Work) → is_over course ≡ false → jobs.is_fresh work ≡ true → WorkKnows told dirty marks log course work
    → WorkKnows told other marks log course work
fresh_knows told dirty other marks log course (Copy c) going fresh k = fresh_tree told dirty other marks log course c going fresh k
fresh_knows told dirty other marks log course (Delete d) going fresh k = k
fresh_knows told dirty other marks log course (Make w) going fresh k = k
fresh_knows told dirty other marks log course (Move w) going fresh k = k
fresh_knows told dirty other marks log course (SetMode s) going fresh k = k
fresh_knows told dirty other marks log course (RemoveEmptied w) going fresh k = k

module _ (told : HistoryFacts) (dirty dirty_after : List Route) (marks : Marks) (log now : CallLog) (kept : IsKept told dirty marks log) where
  -- an end names the part that stays
  pub ends_with_part : (ending : Ending) (part : Route) (work : Work) → IsLeftPart told (current log) part → dirty_after ≡ dirty → now ≡ log
      → StepRan told (said_after now (Ended ending (Some part)) work told) dirty_after log now (λ m. (let o : Option Route = None in o) ≡ None)
  ends_with_part ending part work has same is =
      subst (λ routes. StepRan told (said_after now (Ended ending (Some part)) work told) routes log now (λ m. (let o : Option Route = None in o) ≡ None)) (sym same)
      (comes_none told (said_after now (Ended ending (Some part)) work told) dirty log now (λ m. (let o : Option Route = None in o) ≡ None) marks is
      (subst (λ (l : CallLog). IsKept (said_after l (Ended ending (Some part)) work told) dirty marks log) (sym is) (record {
        known = record {
          guarded = kept.known.guarded;
          files = kept.known.files;
          moded = λ j before is unclean. let h = kept.known.moded j before is unclean in record { path = h.path; leads = h.leads; out = h.out; listed = h.listed; told = h.told; shown = h.shown };
          calm = kept.known.calm;
          folders = kept.known.folders;
          aside = kept.known.aside;
          left = λ p is there. elim (kept.known.left p is there) [ inl at ↦ inr (inl (sym (some_route part p (sym has.part_is ∙ at)))) | inr among ↦ inr (inr among) ];
          was_there = kept.known.was_there;
          was_shown = kept.known.was_shown;
          shows = λ p other. by p (same_path p part) refl;
          part = λ p e. absurd (let f : ⊥ = cc in f);
          tracked = kept.known.tracked;
          joint = kept.known.joint;
          doubts = kept.known.doubts;
          written = λ n p i other off at.
              let both = or_parts (told.written n p) (same_path p part) off in
              kept.known.written n p i (λ e. both_ways _ both.1 (subst (λ q. same_path q part ≡ true) (some_route part p (sym has.part_is ∙ e)) (Rattle.tree_trait.proofs.Visible.same_path-self part))) both.0 at;
          stand = kept.known.stand;
        };
        aside = kept.aside;
        was = kept.was;
        modes = kept.modes;
        roams = kept.roams;
      })) refl)
    where
      mountless : option_map_or (starts_mount (current log)) (find (current log) part) false ≡ false
      mountless = ap (λ o. option_map_or (starts_mount (current log)) o false) has.leads ∙ file_no_mount (current log) kept.known.guarded.tree has.i has.bare

      at_part : visible_tree (current log) part ≡ Rattle.tree_trait.specs.FileSystem.view_with told.tree part (value_at (current log) part) part
      at_part =
          ap (λ b. (let s : Spot = record { value = value_at (current log) part; is_mount = b } in s)) mountless
          ∙ (sym (ap (λ (s : Spot). (let t : Spot = record s { value = value_at (current log) part } in t)) (kept.known.part part has.part_is).1) ∙ sym (put_at told.tree part (value_at (current log) part)))

      by : (p : Route) (b : Bool) → same_path p part ≡ b → visible_tree (current log) p ≡ Rattle.tree_trait.specs.FileSystem.view_with told.tree part (value_at (current log) part) p
      by p true same_is = let e = same_path-true p part same_is in subst (λ q. visible_tree (current log) q ≡ Rattle.tree_trait.specs.FileSystem.view_with told.tree part (value_at (current log) part) q) (sym e) at_part
      by p false off =
          kept.known.shows p (λ e. both_ways _ off (subst (λ q. same_path q part ≡ true) (some_route part p (sym has.part_is ∙ e)) (Rattle.tree_trait.proofs.Visible.same_path-self part)))
          ∙ sym (put_off told.tree part (value_at (current log) part) p off)

  -- the end of a job with the part that stands, if one does
  pub ends_left : (ending : Ending) (work : Work) (part : Option Route) → LeavesPart told (current log) part → dirty_after ≡ dirty → now ≡ log
      → StepRan told (said_after now (Ended ending part) work told) dirty_after log now (λ m. (let o : Option Route = None in o) ≡ None)
  ends_left ending work None none same is = ends told dirty dirty_after marks log now kept work none same is
  ends_left ending work (Some part) left same is = ends_with_part ending part work left same is

  -- a job gives up
  pub gives_up : (work : Work) (course : Course) (did : Did) → WorkKnows told dirty marks log course work → did ≡ Ended NoMemory (part_of work) → dirty_after ≡ dirty → now ≡ log
      → StepRan told (said_after now did work told) dirty_after log now (λ m. (said_after now did work told).part ≡ None)
  gives_up (Copy c) course did knows did_is same is =
      subst (λ x. StepRan told (said_after now x (Copy c) told) dirty_after log now (λ m. (said_after now x (Copy c) told).part ≡ None)) (sym did_is)
      (ends_left NoMemory (Copy c) (tree_part c.at.item) (leaves_part told dirty marks (current log) course c.at.item knows.part) same is)
  gives_up (Delete d) course did knows did_is same is =
      subst (λ x. StepRan told (said_after now x (Delete d) told) dirty_after log now (λ m. (said_after now x (Delete d) told).part ≡ None)) (sym did_is) (ends told dirty dirty_after marks log now kept (Delete d) knows.1 same is)
  gives_up (Make w) course did knows did_is same is =
      subst (λ x. StepRan told (said_after now x (Make w) told) dirty_after log now (λ m. (said_after now x (Make w) told).part ≡ None)) (sym did_is) (ends told dirty dirty_after marks log now kept (Make w) knows.1 same is)
  gives_up (Move w) course did knows did_is same is =
      subst (λ x. StepRan told (said_after now x (Move w) told) dirty_after log now (λ m. (said_after now x (Move w) told).part ≡ None)) (sym did_is) (ends told dirty dirty_after marks log now kept (Move w) knows.none same is)
  gives_up (SetMode s) course did knows did_is same is =
      subst (λ x. StepRan told (said_after now x (SetMode s) told) dirty_after log now (λ m. (said_after now x (SetMode s) told).part ≡ None)) (sym did_is) (ends told dirty dirty_after marks log now kept (SetMode s) knows.1 same is)
  gives_up (RemoveEmptied w) course did knows did_is same is =
      subst (λ x. StepRan told (said_after now x (RemoveEmptied w) told) dirty_after log now (λ m. (said_after now x (RemoveEmptied w) told).part ≡ None)) (sym did_is) (ends told dirty dirty_after marks log now kept (RemoveEmptied w) knows.1 same is)

  -- the part that a last step removes
  pub removed_part : (c : Copying) (ending : Ending) (part : Route) (stage : Stage) → StageKnows told marks (current log) (Ends ending) c stage → removable stage ≡ Some part
      → (c.folder ≡ Dirty) × ((i : ℕ) × HasPart told marks (current log) c.target part i)
  removed_part c ending part (Fill p said done) (dirty_is, (i, has, filled)) is = (dirty_is, (i, subst (λ q. HasPart told marks (current log) c.target q i) (some_route p part is) has))
  removed_part c ending part (Clean p follows) (dirty_is, (i, has)) is = (dirty_is, (i, subst (λ q. HasPart told marks (current log) c.target q i) (some_route p part is) has))
  removed_part c ending part Begin k is = absurd (let f : ⊥ = cc in f)
  removed_part c ending part (Left p) k is = absurd (let f : ⊥ = cc in f)
  removed_part c ending part Decided k is = absurd (let f : ⊥ = cc in f)
