-- The step that renames a thing: in each image it is at its source before, with all that lies in it; and how it lies then.
use Rattle.std.proofs.Common.{◌≡◌, ◌⊎◌, ℕ, Bool, true, false, ◌||◌, List, [], ◌∷◌, ◌++◌, refl, sym, ◌∙◌, ap, subst, inl, inr, Option, Some, None, Ok, append_assoc}
use Rattle.std.specs.Prelude.{if◌then◌else◌, is_some}
use Rattle.std.specs.Option.{option_map}
use Rattle.std.proofs.lemmas.Bool.{false_from_ne_true, true≢false}
use Rattle.mc_text.specs.Routes.{Route, is_prefix, same_path}
use Rattle.tree_trait.specs.declared.file_system.FileSystem.{FileSystem}
use Rattle.tree_trait.specs.FileSystem.{Spot, View, find, node, value, value_at}
use Rattle.tree_trait.specs.Refusals.{is_folder}
use Rattle.tree_trait.specs.Calls.{Rename}
use Rattle.tree_trait.specs.Change.{Change, Moves, Nothing, CallLog, after_change, current, found_node, with_change}
use Rattle.tree_trait.specs.Answers.{Performs}
use Rattle.laws_crash.specs.Guarded.{Marks}
use Rattle.laws_crash.specs.Moved.{IsMoved, Lies}
use Rattle.laws_crash.specs.Possible.{IsImage}
use Rattle.laws_crash.proofs.Leading.{clean_more, find_law}
use Rattle.laws_crash.proofs.Tops.{not_longer}
use Rattle.laws_crash.proofs.Wholeness.{grown}
use Rattle.job_reports.specs.Paths.{folder_of}
use Rattle.job_reports.specs.declared.job.Pair.{Pair}
use Rattle.job_reports.specs.declared.report.Did.TheVariants.{Moved}
use Rattle.job_reports.specs.declared.report.Ending.{Ending}
use Rattle.job_reports.proofs.CallAnswers.{IsDoneCall, done_call}
use Rattle.move_job.specs.declared.moving.MovingStage.TheVariants.{Take}
use Rattle.move_job.specs.Movings.{Moving, is_fresh}
use Rattle.move_job.specs.Takings.{MayMove}
use Rattle.copy_move.specs.declared.run.Course.{Course}
use Rattle.copy_move.specs.declared.run.Course.TheVariants.{GoesOn, Asking, InTrouble, OwedSyncFailed, Skips, Ends}
use Rattle.copy_move.specs.declared.work.Work.{Work}
use Rattle.copy_move.specs.declared.work.Work.TheVariants.{Copy, Delete, Make, Move, SetMode, RemoveEmptied}
use Rattle.copy_move.specs.Jobs.{Running, CallsOn, TellsOn, WorkCalls, WorkTells, WorkWinds}
use Rattle.copy_move.specs.Jobs as jobs
use Rattle.copy_move.specs.Settling.{NoneOwed}
use Rattle.laws_sessions.specs.Doubt.{name_waits, way_waits}
use Rattle.laws_sessions.specs.Traces.{IsUnclaimed, StepLeads}
use Rattle.laws_sessions.specs.Whole.{StandsAllAt}
use Rattle.laws_sessions.proofs.AtRest.{RestsBelow}
use Rattle.laws_sessions.proofs.Changing.{off_itself, some_none}
use Rattle.laws_sessions.proofs.JobKnows.{WorkKnows, none_over, way_sure}
use Rattle.laws_sessions.proofs.Knowing.{IsKept, HistoryFacts, clean_now}
use Rattle.laws_sessions.proofs.KnownParts.{HasName}
use Rattle.laws_sessions.proofs.MoveKnown.{MoveKnown}
use Rattle.laws_sessions.proofs.MovedTree.{MovesThing, lands, nodes, not_over, off}
use Rattle.laws_sessions.proofs.MovingSteps.{free_target}
use Rattle.laws_sessions.proofs.MovingThings.{pair_of}
use Rattle.laws_sessions.proofs.PathsBelow.{not_below, off_below}
use Rattle.laws_sessions.proofs.Renamings.{IsRenaming, renaming_passes}
use Rattle.laws_sessions.proofs.Resting.{settled_unless}
use Rattle.laws_sessions.proofs.ThingRests.{none_in_moved, source_rests, sure_within}
use Rattle.laws_sessions.proofs.WholeImages.{IsAtRest, MayGo, goes_along, stays_seen, way_stays}
use Rattle.laws_sessions.proofs.WholeThings.{IsKeptWhole}

-- what leads to a folder doesn't lie below a path that the folder doesn't lie below
above_off : (top folder rest up : Route) → folder ≡ rest ++ up → ((more : Route) → folder ≡ more ++ top → ⊥) → is_prefix top up ≡ false
above_off top folder rest up is none = off_below top up (λ more e. none (rest ++ more) (is ∙ (ap (λ (q : Route). rest ++ q) e ∙ sym (append_assoc rest more top))))

second_off : (x y : Bool) → (x || y) ≡ false → y ≡ false
second_off true y h = absurd (true≢false h)
second_off false y h = h

-- A renaming, before which each image has at the source what stood there, with all that lay in it; and what is known of it from then on. No part stands.
pub record IsWholly (log now : CallLog) (pair : Pair) (part : Option Route) (parts : List Route) (stood : View) : Type 0 where
  pub some : is_some (stood pair.source).value ≡ true
  pub before : (image : FileSystem) → IsImage log image → StandsAllAt image pair.source parts stood pair.source
  pub kept : IsKeptWhole pair parts stood now
  pub change : Change
  pub is : now ≡ with_change log change
  pub none : part ≡ None

module _ (told : HistoryFacts) (dirty : List Route) (marks : Marks) (log now : CallLog) (kept : IsKept told dirty marks log) where
  -- by the last names of both paths
  module _ (none : told.part ≡ None) (old : List ℕ) (from : Route) (new : List ℕ) (to : Route) (other : same_path (old ∷ from) (new ∷ to) ≡ false)
      (free : is_folder (node (current log) (found_node (current log) (old ∷ from))) ≡ true → find (current log) (new ∷ to) ≡ None)
      (rests : RestsBelow marks log (old ∷ from)) (source_sure : way_waits log (old ∷ from) ≡ false) (to_sure : way_waits log to ≡ false)
      (done : Performs {A = Unit {0}} log (Rename (old ∷ from) (new ∷ to)) (Ok tt) (Some now)) where
    abbrev source : Route
    source = old ∷ from

    abbrev target : Route
    target = new ∷ to

    abbrev f : ℕ
    f = found_node (current log) from

    abbrev g : ℕ
    g = found_node (current log) to

    abbrev i : ℕ
    i = found_node (current log) source

    abbrev moves : Change
    moves = Moves f old g new i (find (current log) target)

    d : IsDoneCall log (Rename source target) now
    d = done_call log (Rename source target) now done

    passes : IsRenaming (current log) old from new to
    passes = renaming_passes (current log) old from new to other d.permits

    is_now : now ≡ with_change log moves
    is_now = d.is ∙ ap (λ b. with_change log (if◌then◌else◌ b Nothing moves)) other

    sure_below : (rest : Route) → way_waits log (rest ++ source) ≡ false
    sure_below [] = source_sure
    sure_below (name ∷ rest) = ap (λ b. b || way_waits log (rest ++ source)) (rests.names name rest) ∙ sure_below rest

    sure_above : (rest up : Route) → way_waits log (rest ++ up) ≡ false → way_waits log up ≡ false
    sure_above [] up sure = sure
    sure_above (name ∷ rest) up sure = sure_above rest up (second_off (name_waits log (name ∷ rest ++ up)) (way_waits log (rest ++ up)) sure)

    at_rest : IsAtRest log told.named source i
    at_rest = record {
      at = passes.leads;
      settled = λ rest. settled_unless log (rest ++ source) (sure_below rest);
      clean = λ rest j out at.
          clean_now told dirty marks log kept.known (rest ++ source) (false_from_ne_true _ (λ aside. out (kept.known.aside (rest ++ source) aside))) j at (rests.modes rest j at);
    }

    may : MayGo log told.named old from new to f g i
    may = record {
      tree = kept.known.guarded.tree;
      from_at = passes.from_at;
      to_at = passes.to_at;
      rests = at_rest;
      way = λ rest up is. settled_unless log up (sure_above rest up (subst (λ q. way_waits log q ≡ false) is to_sure));
      not_into = λ rest is. not_below source target (new ∷ rest) passes.into (ap (λ (q : Route). new ∷ q) is);
    }

    no_part : (p : Route) → told.part ≡ Some p → ⊥
    no_part p is = let e : (let o : Option Route = None in o) ≡ Some p = sym none ∙ is in cc

    shown : (p : Route) → value_at (current log) p ≡ (told.tree p).value
    shown p = ap (λ (s : Spot). s.value) (kept.known.shows p (no_part p))

    -- what is replaced is no folder
    bare : (j : ℕ) → find (current log) target ≡ Some j → is_folder (node (current log) j) ≡ false
    bare j at = by (is_folder (node (current log) i)) refl
      where
        by : (b : Bool) → is_folder (node (current log) i) ≡ b → is_folder (node (current log) j) ≡ false
        by true is = some_none j (sym at ∙ free is)
        by false is = passes.bare is j at

    thing : MovesThing log old from new to f g i
    thing = record {
      tree = kept.known.guarded.tree;
      from = passes.from_at;
      to = passes.to_at;
      leads = passes.leads;
      folder = passes.holds;
      bare = bare;
      free = free;
      not_into = λ rest e. not_below source target (new ∷ rest) passes.into (ap (λ (q : Route). new ∷ q) e);
      other = λ e. off_itself source target e other;
      mount = passes.unmounted;
    }

    abbrev behind : CallLog
    behind = with_change log moves

    -- the ways to both folders stay
    way_stays_to : (rest up : Route) → to ≡ rest ++ up → find (current behind) up ≡ find (current log) up
    way_stays_to rest up is = off log old from new to f g i (find (current log) target) thing up
        (above_off source to rest up is (λ more e. not_below source target (new ∷ more) passes.into (ap (λ (q : Route). new ∷ q) e))) (above_off target to rest up is (λ more e. not_longer more new to e))

    way_stays_from : (rest up : Route) → from ≡ rest ++ up → find (current behind) up ≡ find (current log) up
    way_stays_from rest up is = off log old from new to f g i (find (current log) target) thing up
        (above_off source from rest up is (λ more e. not_longer more old from e)) (above_off target from rest up is (not_over log old from new to f g i (find (current log) target) thing))

    abbrev lay : Route → Option ℕ
    lay rest = find (current log) (rest ++ source)

    lies_there : (image mid : FileSystem) → IsImage log mid → image ≡ after_change mid moves → Lies behind image new to lay
    lies_there image mid left is = record {
      way = λ rest up way.
          ap (λ (s : FileSystem). find s up) is
          ∙ (way_stays log told.named old from new to f g i (find (current log) target) may mid left up rest way
          ∙ (may.way rest up way (find mid up) (find_law log mid up left) ∙ sym (way_stays_to rest up way)));
      all = λ rest.
          ap (λ (s : FileSystem). find s (rest ++ target)) is
          ∙ (goes_along log told.named old from new to f g i (find (current log) target) may mid left rest ∙ at_rest.settled rest (find mid (rest ++ source)) (find_law log mid (rest ++ source) left));
    }

    lies_here : (image mid : FileSystem) → IsImage log mid → image ≡ mid → Lies behind image old from lay
    lies_here image mid left is = record {
      way = λ rest up way.
          ap (λ (s : FileSystem). find s up) is
          ∙ (settled_unless log up (sure_above rest up (subst (λ q. way_waits log q ≡ false) way from_sure)) (find mid up) (find_law log mid up left) ∙ sym (way_stays_from rest up way));
      all = λ rest. ap (λ (s : FileSystem). find s (rest ++ source)) is ∙ at_rest.settled rest (find mid (rest ++ source)) (find_law log mid (rest ++ source) left);
    }
      where
        from_sure : way_waits log from ≡ false
        from_sure = second_off (name_waits log source) (way_waits log from) source_sure

    moved_then : IsMoved behind old from new to lay
    moved_then = record {
      there = lands log old from new to f g i (find (current log) target) thing;
      images = λ image left.
          let x = grown log moves image left in
          elim x.how [ inl there ↦ inr (lies_there image x.mid x.left there) | inr lost ↦ inl (lies_here image x.mid x.left lost) ];
    }

    seen : is_some (told.tree source).value ≡ true
    seen = ap is_some (sym (shown source) ∙ ap (option_map (λ k. value (node (current log) k))) passes.leads)

    kept_then : IsKeptWhole (pair_of source target) told.named told.tree behind
    kept_then = record {
      first = log;
      old = old;
      from = from;
      new = new;
      to = to;
      pair_is = refl;
      some = seen;
      shown = λ rest. shown (rest ++ source);
      moved = moved_then;
      clean = λ rest j out at. (clean_more j log.changes moves refl (at_rest.clean rest j out at), nodes log old from new to f g i (find (current log) target) thing j);
    }

    named_whole : IsWholly log now (pair_of source target) told.part told.named told.tree
    named_whole = record {
      some = seen;
      before = λ image left rest out. stays_seen log told.named source i at_rest image left rest out ∙ shown (rest ++ source);
      kept = subst (λ (l : CallLog). IsKeptWhole (pair_of source target) told.named told.tree l) (sym is_now) kept_then;
      change = moves;
      is = is_now;
      none = none;
    }

  moves_whole : (source target : Route) → told.part ≡ None → HasName source → HasName target → same_path source target ≡ false
      → (is_folder (node (current log) (found_node (current log) source)) ≡ true → find (current log) target ≡ None) → RestsBelow marks log source → way_waits log source ≡ false → way_waits log (folder_of target) ≡ false
      → Performs {A = Unit {0}} log (Rename source target) (Ok tt) (Some now) → IsWholly log now (pair_of source target) told.part told.named told.tree
  moves_whole [] target none name name_there other free rests source_sure to_sure done = let is = name.is in absurd (let e : ⊥ = cc in e)
  moves_whole (old ∷ from) [] none name name_there other free rests source_sure to_sure done = let is = name_there.is in absurd (let e : ⊥ = cc in e)
  moves_whole (old ∷ from) (new ∷ to) none name name_there other free rests source_sure to_sure done = named_whole none old from new to other free rests source_sure to_sure done

  -- a job tells that it moved this
  abbrev pub WhollyMoved : Pair → Type 0
  WhollyMoved pair = IsWholly log now pair told.part told.named told.tree

  module _ (job : Running) (after : Option Running) (dirty_after : List Route) (pair : Pair) (knows : WorkKnows told dirty marks log job.course job.work) where
    of_move : (m : Moving) → MoveKnown told marks log job.course m → m.stage ≡ Take → pair ≡ m.pair → MayMove (current log) m.pair job.replies → Performs {A = Unit {0}} log (Rename m.pair.source m.pair.target) (Ok tt) (Some now)
        → NoneOwed (current log) (Move m) dirty → WhollyMoved pair
    of_move m k stage pair_is allowed done owed = subst WhollyMoved (sym pair_is)
        (moves_whole m.pair.source m.pair.target k.none k.source k.target k.other (free_target told dirty dirty_after marks log now kept m.pair job.replies allowed) (source_rests told dirty marks log kept m k.source owed)
        (sure_within told dirty marks log kept m.pair.source k.source (none_in_moved (current log) m dirty owed) []) (way_sure told dirty marks log (folder_of m.pair.target) kept.known (none_over (current log) (Move m) dirty owed)) done)

    of_work : (old new : Work) → job.work ≡ old → WorkTells job.replies old (Moved pair) new → WorkCalls IsUnclaimed job.replies old (Moved pair) new log (Some now) → (jobs.is_fresh old ≡ true → NoneOwed (current log) old dirty)
        → WhollyMoved pair
    of_work (Move m) (Move new) is (stage, pair_is, new_is) (allowed, done) settled =
        of_move m (subst (λ w. WorkKnows told dirty marks log job.course w) is knows) stage pair_is allowed done (settled (ap is_fresh stage))
    of_work (Copy c) (Copy new) is tells calls settled = absurd tells.may
    of_work (Copy c) (Delete new) is tells calls settled = absurd tells
    of_work (Copy c) (Make new) is tells calls settled = absurd tells
    of_work (Copy c) (Move new) is tells calls settled = absurd tells
    of_work (Copy c) (SetMode new) is tells calls settled = absurd tells
    of_work (Copy c) (RemoveEmptied new) is tells calls settled = absurd tells
    of_work (Delete d) (Copy new) is tells calls settled = absurd tells
    of_work (Delete d) (Delete new) is tells calls settled = absurd tells
    of_work (Delete d) (Make new) is tells calls settled = absurd tells
    of_work (Delete d) (Move new) is tells calls settled = absurd tells
    of_work (Delete d) (SetMode new) is tells calls settled = absurd tells
    of_work (Delete d) (RemoveEmptied new) is tells calls settled = absurd tells
    of_work (Make w) (Copy new) is tells calls settled = absurd tells
    of_work (Make w) (Delete new) is tells calls settled = absurd tells
    of_work (Make w) (Make new) is tells calls settled = absurd tells
    of_work (Make w) (Move new) is tells calls settled = absurd tells
    of_work (Make w) (SetMode new) is tells calls settled = absurd tells
    of_work (Make w) (RemoveEmptied new) is tells calls settled = absurd tells
    of_work (Move m) (Copy new) is tells calls settled = absurd tells
    of_work (Move m) (Delete new) is tells calls settled = absurd tells
    of_work (Move m) (Make new) is tells calls settled = absurd tells
    of_work (Move m) (SetMode new) is tells calls settled = absurd tells
    of_work (Move m) (RemoveEmptied new) is tells calls settled = absurd tells
    of_work (SetMode s) (Copy new) is tells calls settled = absurd tells
    of_work (SetMode s) (Delete new) is tells calls settled = absurd tells
    of_work (SetMode s) (Make new) is tells calls settled = absurd tells
    of_work (SetMode s) (Move new) is tells calls settled = absurd tells
    of_work (SetMode s) (SetMode new) is tells calls settled = absurd tells
    of_work (SetMode s) (RemoveEmptied new) is tells calls settled = absurd tells
    of_work (RemoveEmptied r) (Copy new) is tells calls settled = absurd tells
    of_work (RemoveEmptied r) (Delete new) is tells calls settled = absurd tells
    of_work (RemoveEmptied r) (Make new) is tells calls settled = absurd tells
    of_work (RemoveEmptied r) (Move new) is tells calls settled = absurd tells
    of_work (RemoveEmptied r) (SetMode new) is tells calls settled = absurd tells
    of_work (RemoveEmptied r) (RemoveEmptied new) is tells calls settled = absurd tells

    -- no last step tells of a move
    none_wound : (ending : Ending) (old work : Work) → WorkWinds ending old (Moved pair) work → ⊥
    none_wound ending (Copy c) (Copy new) winds = winds.may
    none_wound ending (Copy c) (Delete new) winds = winds
    none_wound ending (Copy c) (Make new) winds = winds
    none_wound ending (Copy c) (Move new) winds = winds
    none_wound ending (Copy c) (SetMode new) winds = winds
    none_wound ending (Copy c) (RemoveEmptied new) winds = winds
    none_wound ending (Delete d) (Copy new) winds = winds
    none_wound ending (Delete d) (Delete new) winds = winds
    none_wound ending (Delete d) (Make new) winds = winds
    none_wound ending (Delete d) (Move new) winds = winds
    none_wound ending (Delete d) (SetMode new) winds = winds
    none_wound ending (Delete d) (RemoveEmptied new) winds = winds
    none_wound ending (Make w) (Copy new) winds = winds
    none_wound ending (Make w) (Delete new) winds = winds
    none_wound ending (Make w) (Make new) winds = winds
    none_wound ending (Make w) (Move new) winds = winds
    none_wound ending (Make w) (SetMode new) winds = winds
    none_wound ending (Make w) (RemoveEmptied new) winds = winds
    none_wound ending (Move m) (Copy new) winds = winds
    none_wound ending (Move m) (Delete new) winds = winds
    none_wound ending (Move m) (Make new) winds = winds
    none_wound ending (Move m) (Move new) winds = winds
    none_wound ending (Move m) (SetMode new) winds = winds
    none_wound ending (Move m) (RemoveEmptied new) winds = winds
    none_wound ending (SetMode s) (Copy new) winds = winds
    none_wound ending (SetMode s) (Delete new) winds = winds
    none_wound ending (SetMode s) (Make new) winds = winds
    none_wound ending (SetMode s) (Move new) winds = winds
    none_wound ending (SetMode s) (SetMode new) winds = winds
    none_wound ending (SetMode s) (RemoveEmptied new) winds = winds
    none_wound ending (RemoveEmptied r) (Copy new) winds = winds
    none_wound ending (RemoveEmptied r) (Delete new) winds = winds
    none_wound ending (RemoveEmptied r) (Make new) winds = winds
    none_wound ending (RemoveEmptied r) (Move new) winds = winds
    none_wound ending (RemoveEmptied r) (SetMode new) winds = winds
    none_wound ending (RemoveEmptied r) (RemoveEmptied new) winds = winds

    by_course : (new : Running) (course : Course) → TellsOn course job (Moved pair) new → CallsOn IsUnclaimed course job (Moved pair) new log (Some now) → (course ≡ GoesOn → jobs.is_fresh job.work ≡ true → NoneOwed (current log) job.work dirty)
        → WhollyMoved pair
    by_course new GoesOn (work, tells, new_is) calls settled =
        of_work job.work work refl tells (subst (λ (x : Running). WorkCalls IsUnclaimed job.replies job.work (Moved pair) x.work log (Some now)) new_is calls) (settled refl)
    by_course new (InTrouble halt) tells calls settled = absurd tells
    by_course new (OwedSyncFailed cause) tells calls settled = absurd tells
    by_course new Asking tells calls settled = absurd tells
    by_course new (Skips cause) (inl (path, work, did_is, passes, new_is)) calls settled = absurd (let e : ⊥ = cc in e)
    by_course new (Skips cause) (inr (apart, did_is, new_is)) calls settled = absurd (let e : ⊥ = cc in e)
    by_course new (Ends ending) (work, winds, new_is) calls settled = absurd (none_wound ending job.work work winds)

    pub step_whole : StepLeads job (Moved pair) after dirty dirty_after log now → WhollyMoved pair
    step_whole (inl (new, inl works, after_is)) = by_course new job.course works.tells works.called works.settled
    step_whole (inl (new, inr syncs, after_is)) = absurd (none_synced syncs.synced)
      where
        none_synced : Rattle.copy_move.specs.JobStepReports.SyncsOwed job syncs.path (Moved pair) new dirty dirty_after (Some log) (Some now) → ⊥
        none_synced (inl s) = let is = s.did_is in cc
        none_synced (inr s) = let is = s.did_is in cc
    step_whole (inr (gives, after_is)) = let is = gives.did_is in absurd (let e : ⊥ = cc in e)
