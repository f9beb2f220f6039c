-- A job renames a thing: what it finds then lets it be moved, and what is known afterwards.
use Rattle.std.proofs.Common.{◌≡◌, ℕ, Bool, true, false, List, [], ◌∷◌, refl, sym, ◌∙◌, ap, subst, inl, inr, Option, Some, None, Ok}
use Rattle.std.specs.Prelude.{◌&&◌, if◌then◌else◌, not}
use Rattle.std.specs.Option.{option_map_or}
use Rattle.std.proofs.lemmas.Bool.{both_ways, or_left, or_right}
use Rattle.mc_text.specs.Routes.{Route, is_prefix, same_path}
use Rattle.tree_trait.specs.FileSystem.{find, node}
use Rattle.tree_trait.specs.Calls.{Rename}
use Rattle.tree_trait.specs.Change.{Change, Moves, Nothing, CallLog, current, found_node, with_change}
use Rattle.tree_trait.specs.Refusals.{is_folder}
use Rattle.tree_trait.specs.CrashImages.{Among}
use Rattle.tree_trait.specs.Answers.{Performs}
use Rattle.tree_trait.proofs.Visible.{same_path-self}
use Rattle.laws_crash.specs.Guarded.{Marks}
use Rattle.job_reports.proofs.CallAnswers.{IsDoneCall, done_call}
use Rattle.session_entries.specs.Moves.{is_of_move}
use Rattle.move_job.specs.declared.moving.MovingStage.TheVariants.{SyncTarget}
use Rattle.move_job.specs.Movings.{Moving}
use Rattle.laws_sessions.specs.Doubt.{is_pending, way_waits}
use Rattle.laws_sessions.proofs.AtRest.{RestsBelow}
use Rattle.laws_sessions.proofs.Changing.{off_itself, some_none}
use Rattle.laws_sessions.proofs.Deleted.{file_no_mount}
use Rattle.laws_sessions.proofs.JobKnows.{NoneOn, NoneOver, modes_in, none_waits, over_it, way_sure}
use Rattle.laws_sessions.proofs.Knowing.{IsKept, IsKnown, HistoryFacts, settled_marks}
use Rattle.laws_sessions.proofs.MoveKnown.{IsMovedIn, moved_settled}
use Rattle.laws_sessions.proofs.MovedTree.{MovesThing, source_gone, source_stands, target_stands}
use Rattle.laws_sessions.proofs.MovingThings.{CanMoveThing, marks_moving, pair_of, said_thing_moved, thing_moved_known, thing_rests}
use Rattle.laws_sessions.proofs.PathsBelow.{is_below}
use Rattle.laws_sessions.proofs.Renamings.{IsRenaming, renaming_passes}
use Rattle.laws_sessions.proofs.Resting.{sure_path}
use Rattle.laws_sessions.proofs.NameWaits.{NameWaits, waits_renamed}
use Rattle.laws_sessions.proofs.Stepped.{StepRan, comes_one}

-- A thing is renamed, a folder where nothing stands; nothing waits in it, and nothing is dirty on the mounts of both folders, nor on those of the folders on the way to them.
module _ (told : HistoryFacts) (dirty dirty_after : List Route) (marks : Marks) (log now : CallLog) (kept : IsKept told dirty marks log) (old : List ℕ) (from : Route) (new : List ℕ) (to : Route)
    (none : told.part ≡ None) (other : same_path (old ∷ from) (new ∷ to) ≡ false) (owed : NoneOver (current log) to dirty) (owed_from : NoneOver (current log) from dirty) (free : is_folder (node (current log) (found_node (current log) (old ∷ from))) ≡ true → find (current log) (new ∷ to) ≡ None)
    (rests : RestsBelow marks log (old ∷ from)) (listed : Among dirty_after from) (listed_beside : Among dirty_after to) (more : (q : Route) → Among dirty q → Among dirty_after q) (done : Performs {A = Unit {0}} log (Rename (old ∷ from) (new ∷ to)) (Ok tt) (Some now)) where
  abbrev f : ℕ
  f = found_node (current log) from

  abbrev g : ℕ
  g = found_node (current log) to

  abbrev i : ℕ
  i = found_node (current log) (old ∷ from)

  abbrev r : Option ℕ
  r = find (current log) (new ∷ to)

  abbrev moves : Change
  moves = Moves f old g new i r

  abbrev moved_log : CallLog
  moved_log = with_change log moves

  abbrev after : HistoryFacts
  after = said_thing_moved told old from new to

  abbrev roaming : Marks
  roaming = marks_moving marks i (old ∷ from) (new ∷ to)

  -- the move then
  abbrev renamed : Moving
  renamed = record { pair = pair_of (old ∷ from) (new ∷ to); stage = SyncTarget }

  d : IsDoneCall log (Rename (old ∷ from) (new ∷ to)) now
  d = done_call log (Rename (old ∷ from) (new ∷ to)) now done

  passes : IsRenaming (current log) old from new to
  passes = renaming_passes (current log) old from new to other d.permits

  pub now_is : now ≡ moved_log
  now_is = d.is ∙ ap (λ b. with_change log (if◌then◌else◌ b Nothing moves)) other

  none_from : NoneOn (current log) from dirty
  none_from = over_it (current log) from dirty owed_from

  none_to : NoneOn (current log) to dirty
  none_to = over_it (current log) to dirty owed

  sure_at : (name : List ℕ) (up : Route) → NoneOver (current log) up dirty → way_waits log (name ∷ up) ≡ false
  sure_at name up over = sure_path log (name ∷ up) (way_sure told dirty marks log up kept.known over) (none_waits told dirty marks log up kept.known (over_it (current log) up dirty over) name)

  no_mode_at : (name : List ℕ) (up : Route) (j : ℕ) → NoneOn (current log) up dirty → find (current log) (name ∷ up) ≡ Some j → is_folder (node (current log) j) ≡ false → marks.modes j ≡ None
  no_mode_at name up j off at bare = elim (modes_in told dirty marks log kept up off name j at) [
    | inl calm ↦ calm
    | inr begins ↦ absurd (both_ways _ (file_no_mount (current log) kept.known.guarded.tree j bare) begins)
  ]

  -- what is replaced is no folder
  bare : (j : ℕ) → find (current log) (new ∷ to) ≡ Some j → is_folder (node (current log) j) ≡ false
  bare j at = by (is_folder (node (current log) i)) refl
    where
      by : (b : Bool) → is_folder (node (current log) i) ≡ b → is_folder (node (current log) j) ≡ false
      by true is = some_none j (sym at ∙ free is)
      by false is = passes.bare is j at

  pub can : CanMoveThing told marks log old from new to f g i
  can = record {
    none = none;
    from = passes.from_at;
    to = passes.to_at;
    folder = passes.holds;
    leads = passes.leads;
    other = λ e. off_itself (old ∷ from) (new ∷ to) e other;
    not_into = λ rest e. both_ways _ passes.into (subst (λ q. is_prefix (old ∷ from) (new ∷ q) ≡ true) (sym e) (is_below (old ∷ from) (new ∷ rest)));
    bare = bare;
    free = free;
    source_sure = sure_at old from owed_from;
    target_sure = sure_at new to owed;
    rests = rests;
    no_mode_there = λ j at. no_mode_at new to j none_to at (bare j at);
    mount = passes.mount;
    no_mount = passes.unmounted;
  }

  thing : MovesThing log old from new to f g i
  thing = record {
    tree = kept.known.guarded.tree;
    from = can.from;
    to = can.to;
    leads = can.leads;
    folder = can.folder;
    bare = can.bare;
    free = can.free;
    not_into = can.not_into;
    other = can.other;
    mount = can.no_mount;
  }

  -- neither name waited
  waits_then : (k : ℕ) (up : Route) (name : List ℕ) → find (current log) up ≡ Some k → NoneOn (current log) up dirty → NameWaits moved_log k name (g ∷ f ∷ [])
  waits_then k up name at off =
      waits_renamed k name log f g i old new r (sym (ap (λ o. option_map_or (λ j. is_pending j name log.changes) o false) at) ∙ none_waits told dirty marks log up kept.known off name)

  moved_in : IsMovedIn after roaming moved_log renamed
  moved_in = record {
    f = f;
    g = g;
    from = source_stands log old from new to f g i r thing;
    to = target_stands log old from new to f g i r thing;
    source_waits = λ name is. waits_then f from name passes.from_at none_from;
    target_waits = λ name is. waits_then g to name passes.to_at none_to;
    rests = thing_rests told dirty marks log kept old from new to f g i r can;
    gone = source_gone log old from new to f g i r thing;
    told_from = or_right (told.folders from && not (is_of_move (pair_of (old ∷ from) (new ∷ to)) from)) _ (or_left (same_path from from) (same_path from to) (same_path-self from));
    told_to = or_right (told.folders to && not (is_of_move (pair_of (old ∷ from) (new ∷ to)) to)) _ (or_right (same_path to from) (same_path to to) (same_path-self to));
  }

  pub thing_moves : (knows : Marks → Type 0) → ((m : Marks) → IsMovedIn after m now renamed → knows m) → StepRan told after dirty_after log now knows
  thing_moves knows known_of =
      comes_one told after dirty dirty_after marks roaming log now moves knows kept now_is
      (subst (λ (l : CallLog). IsKnown after dirty_after roaming l) (sym now_is) (thing_moved_known told dirty marks log kept old from new to f g i r can dirty_after listed listed_beside more))
      (known_of (settled_marks now roaming) (moved_settled now roaming after renamed (subst (λ (l : CallLog). IsMovedIn after roaming l renamed) (sym now_is) moved_in)))
