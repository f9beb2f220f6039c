-- What is known of a move, by where it stands: of what was renamed, its two names.
use Rattle.std.proofs.Common.{◌≡◌, ◌⊎◌, ℕ, Bool, true, false, List, [], ◌∷◌, ◌++◌, refl, sym, ◌∙◌, ap, subst, inl, inr, Option, Some, None, cond}
use Rattle.std.specs.Option.{option_and_then, option_map_or}
use Rattle.std.specs.Prelude.{is_some}
use Rattle.std.proofs.lemmas.Bool.{both_ways, false_from_ne_true, true≢false}
use Rattle.mc_text.specs.Routes.{Route, same_path}
use Rattle.tree_trait.specs.declared.file_system.FileSystem.{FileSystem}
use Rattle.tree_trait.specs.FileSystem.{find, lookup}
use Rattle.tree_trait.specs.Change.{Change, Nothing, Syncs, CallLog, current, with_change}
use Rattle.tree_trait.specs.CrashImages.{is_clean, says}
use Rattle.laws_crash.specs.Guarded.{Marks}
use Rattle.laws_crash.proofs.Leading.{current_more}
use Rattle.job_reports.specs.declared.job.Pair.{Pair}
use Rattle.job_reports.specs.Paths.{folder_of}
use Rattle.copy_move.specs.declared.run.Course.{Course}
use Rattle.move_job.specs.declared.moving.MovingStage.{MovingStage}
use Rattle.move_job.specs.declared.moving.MovingStage.TheVariants.{Take, SyncTarget, SyncSource, Finish, PassedOver}
use Rattle.move_job.specs.Movings.{Moving, is_dirty}
use Rattle.laws_sessions.specs.Doubt.{is_joint, is_pending, joins, name_waits}
use Rattle.laws_sessions.proofs.AtRest.{RestsBelow}
use Rattle.laws_sessions.proofs.Knowing.{HistoryFacts, settled_marks}
use Rattle.laws_sessions.proofs.NameWaits.{NameWaits, waits_none, waits_still}
use Rattle.laws_sessions.proofs.KnownParts.{HasName}
use Rattle.laws_sessions.proofs.Restless.{is_restless, joint_less, names_in, restless_less}
use Rattle.laws_sessions.proofs.TreeKnown.{IsStill, is_over}
use Rattle.laws_sessions.proofs.WaitsFor.{waits_for}

-- the thing was renamed
abbrev pub is_moved : MovingStage → Bool
is_moved Take = false
is_moved SyncTarget = true
is_moved SyncSource = true
is_moved Finish = true
is_moved PassedOver = false

-- the folders that are still to be synced once the thing was renamed, by where the move stands: the target's, and then the source's
abbrev pub owed_nodes : MovingStage → ℕ → ℕ → List ℕ
owed_nodes Take f g = []
owed_nodes SyncTarget f g = g ∷ f ∷ []
owed_nodes SyncSource f g = f ∷ []
owed_nodes Finish f g = []
owed_nodes PassedOver f g = []

-- Both folders stand on the disk. Each of the two names waits for the syncs that are still owed, and for no other. Nothing waits of what was moved, and of what lies in
-- it; and where it was nothing stands. Of what else lies in the two folders this says nothing.
pub record IsMovedIn (told : HistoryFacts) (marks : Marks) (log : CallLog) (m : Moving) : Type 0 where
  pub f : ℕ
  pub g : ℕ
  pub from : find (current log) (folder_of m.pair.source) ≡ Some f
  pub to : find (current log) (folder_of m.pair.target) ≡ Some g
  pub source_waits : (name : List ℕ) → m.pair.source ≡ name ∷ folder_of m.pair.source → NameWaits log f name (owed_nodes m.stage f g)
  pub target_waits : (name : List ℕ) → m.pair.target ≡ name ∷ folder_of m.pair.target → NameWaits log g name (owed_nodes m.stage f g)
  pub rests : RestsBelow marks log m.pair.target
  pub gone : find (current log) m.pair.source ≡ None
  pub told_from : told.folders (folder_of m.pair.source) ≡ true
  pub told_to : told.folders (folder_of m.pair.target) ≡ true

-- In last steps a folder may stay dirty, and the move goes on.
pub record MoveKnown (told : HistoryFacts) (marks : Marks) (log : CallLog) (course : Course) (m : Moving) : Type 0 where
  pub source : HasName m.pair.source
  pub target : HasName m.pair.target
  pub none : told.part ≡ None
  pub other : same_path m.pair.source m.pair.target ≡ false
  pub moved : is_over course ≡ false → is_moved m.stage ≡ true → IsMovedIn told marks log m

-- a move that stands at a stage before its renaming, or in its last steps
pub move_at : (told : HistoryFacts) (marks : Marks) (log : CallLog) (course other : Course) (m new : Moving) (stage : MovingStage) → new ≡ record m { stage = stage } → (is_over other ≡ false → is_moved stage ≡ true → IsMovedIn told marks log new)
    → MoveKnown told marks log course m → MoveKnown told marks log other new
move_at told marks log course other m new stage is then k = subst (λ (x : Moving). (is_over other ≡ false → is_moved stage ≡ true → IsMovedIn told marks log x) → MoveKnown told marks log other x) (sym is)
    (λ moved. record { source = k.source; target = k.target; none = k.none; other = k.other; moved = moved }) then

-- of a job that goes on, or waits, at the same stage
pub move_course : (told : HistoryFacts) (marks : Marks) (log : CallLog) (course other : Course) (m : Moving) → (is_over other ≡ false → is_over course ≡ false) → MoveKnown told marks log course m → MoveKnown told marks log other m
move_course told marks log course other m over k = record { source = k.source; target = k.target; none = k.none; other = k.other; moved = λ on. k.moved (over on) }

-- of the same pair at the same stage, whatever kinds of troubles are passed over
pub moved_same : (told : HistoryFacts) (marks : Marks) (log : CallLog) (m new : Moving) → new.pair ≡ m.pair → new.stage ≡ m.stage → IsMovedIn told marks log m → IsMovedIn told marks log new
moved_same told marks log m new pair stage h = record {
  f = h.f;
  g = h.g;
  from = ap (λ (p : Pair). find (current log) (folder_of p.source)) pair ∙ h.from;
  to = ap (λ (p : Pair). find (current log) (folder_of p.target)) pair ∙ h.to;
  source_waits = λ name is. subst (λ x. NameWaits log h.f name (owed_nodes x h.f h.g)) (sym stage) (h.source_waits name (subst (λ (p : Pair). p.source ≡ name ∷ folder_of p.source) pair is));
  target_waits = λ name is. subst (λ x. NameWaits log h.g name (owed_nodes x h.f h.g)) (sym stage) (h.target_waits name (subst (λ (p : Pair). p.target ≡ name ∷ folder_of p.target) pair is));
  rests = subst (λ (p : Pair). RestsBelow marks log p.target) (sym pair) h.rests;
  gone = ap (λ (p : Pair). find (current log) p.source) pair ∙ h.gone;
  told_from = ap (λ (p : Pair). told.folders (folder_of p.source)) pair ∙ h.told_from;
  told_to = ap (λ (p : Pair). told.folders (folder_of p.target)) pair ∙ h.told_to;
}

-- with the marks that are settled
module _ (log : CallLog) (marks : Marks) where
  no_mode : (i : ℕ) (b : Bool) → marks.modes i ≡ None → cond b (let o : Option ℕ = None in o) (marks.modes i) ≡ None
  no_mode i true none = refl
  no_mode i false none = none

  pub below_settled : (top : Route) → RestsBelow marks log top → RestsBelow (settled_marks log marks) log top
  below_settled top h = record {
    names = h.names;
    modes = λ rest i at. no_mode i (is_clean i log.changes) (h.modes rest i at);
    still = h.still;
    apart = h.apart;
  }

  pub moved_settled : (told : HistoryFacts) (m : Moving) → IsMovedIn told marks log m → IsMovedIn told (settled_marks log marks) log m
  moved_settled told m h = record {
    f = h.f;
    g = h.g;
    from = h.from;
    to = h.to;
    source_waits = h.source_waits;
    target_waits = h.target_waits;
    rests = below_settled m.pair.target h.rests;
    gone = h.gone;
    told_from = h.told_from;
    told_to = h.told_to;
  }

  pub move_settled : (told : HistoryFacts) (course : Course) (m : Moving) → MoveKnown told marks log course m → MoveKnown told (settled_marks log marks) log course m
  move_settled told course m k = record { source = k.source; target = k.target; none = k.none; other = k.other; moved = λ on is. moved_settled told m (k.moved on is) }

-- A sync, and a call that was refused, leave the tree as it was; no folder is restless after it that wasn't, nor is any joined.
module _ (told : HistoryFacts) (marks : Marks) (log : CallLog) (c : Change) (same : current (with_change log c) ≡ current log) (no_names : (f : ℕ) → names_in f c ≡ false) (no_joins : (f g : ℕ) → joins f g c ≡ false) where
  abbrev now : CallLog
  now = with_change log c

  pub rests_on : (f : ℕ) → is_restless f log.changes ≡ false → is_restless f now.changes ≡ false
  rests_on f rests = false_from_ne_true _ (λ restless. elim (restless_less f log.changes c restless) [ inl before ↦ both_ways _ rests before | inr named ↦ both_ways _ (no_names f) named ])

  pub joint_on : (f g : ℕ) → is_joint f g now.changes ≡ true → is_joint f g log.changes ≡ true
  joint_on f g joint = elim (joint_less f g log.changes c joint) [ inl before ↦ before | inr joined ↦ absurd (both_ways _ (no_joins f g) joined) ]

  -- a folder that is at rest, and joined with none, has no name that waits
  unpending : (f : ℕ) (name : List ℕ) → is_restless f log.changes ≡ false → ((g : ℕ) → is_joint f g log.changes ≡ false) → is_pending f name now.changes ≡ false
  unpending f name rests apart = false_from_ne_true _ (λ waits. elim (waits_for f name now.changes waits) [
    | inl own ↦ both_ways _ (rests_on f rests) own
    | inr other ↦ both_ways _ (apart other.0) (joint_on f other.0 other.1)
  ])

  pub below_on : (top : Route) → RestsBelow marks log top → RestsBelow marks now top
  below_on top h = record {
    names = λ name rest. by name rest (find (current log) (rest ++ top)) refl;
    modes = λ rest i at. h.modes rest i (found rest i at);
    still = λ rest i at. rests_on i (h.still rest i (found rest i at));
    apart = λ rest i other at. false_from_ne_true _ (λ joint. both_ways _ (h.apart rest i other (found rest i at)) (joint_on i other joint));
  }
    where
      found : (rest : Route) (i : ℕ) → find (current now) (rest ++ top) ≡ Some i → find (current log) (rest ++ top) ≡ Some i
      found rest i at = ap (λ (s : FileSystem). find s (rest ++ top)) (sym same) ∙ at

      by : (name : List ℕ) (rest : Route) (o : Option ℕ) → find (current log) (rest ++ top) ≡ o → name_waits now (name ∷ rest ++ top) ≡ false
      by name rest None at = ap (λ x. option_map_or (λ f. is_pending f name now.changes) x false) (ap (λ (s : FileSystem). find s (rest ++ top)) same ∙ at)
      by name rest (Some f) at =
          ap (λ x. option_map_or (λ g. is_pending g name now.changes) x false) (ap (λ (s : FileSystem). find s (rest ++ top)) same ∙ at)
          ∙ unpending f name (h.still rest f at) (λ g. h.apart rest f g at)

  -- at a later stage, too, where its two names wait for no more than what is owed then
  pub moved_on : (m new : Moving) → new.pair ≡ m.pair → (h : IsMovedIn told marks log m)
      → ((name : List ℕ) → m.pair.source ≡ name ∷ folder_of m.pair.source → NameWaits now (let x : IsMovedIn told marks log m = h in x.f) name (owed_nodes new.stage (let x : IsMovedIn told marks log m = h in x.f) (let x : IsMovedIn told marks log m = h in x.g)))
      → ((name : List ℕ) → m.pair.target ≡ name ∷ folder_of m.pair.target → NameWaits now (let x : IsMovedIn told marks log m = h in x.g) name (owed_nodes new.stage (let x : IsMovedIn told marks log m = h in x.f) (let x : IsMovedIn told marks log m = h in x.g)))
      → IsMovedIn told marks now new
  moved_on m new pair h source_waits target_waits = record {
    f = h.f;
    g = h.g;
    from = ap (λ (s : FileSystem). find s (folder_of new.pair.source)) same ∙ (ap (λ (p : Pair). find (current log) (folder_of p.source)) pair ∙ h.from);
    to = ap (λ (s : FileSystem). find s (folder_of new.pair.target)) same ∙ (ap (λ (p : Pair). find (current log) (folder_of p.target)) pair ∙ h.to);
    source_waits = λ name is. source_waits name (subst (λ (p : Pair). p.source ≡ name ∷ folder_of p.source) pair is);
    target_waits = λ name is. target_waits name (subst (λ (p : Pair). p.target ≡ name ∷ folder_of p.target) pair is);
    rests = subst (λ (p : Pair). RestsBelow marks now p.target) (sym pair) (below_on m.pair.target h.rests);
    gone = ap (λ (s : FileSystem). find s new.pair.source) same ∙ (ap (λ (p : Pair). find (current log) p.source) pair ∙ h.gone);
    told_from = ap (λ (p : Pair). told.folders (folder_of p.source)) pair ∙ h.told_from;
    told_to = ap (λ (p : Pair). told.folders (folder_of p.target)) pair ∙ h.told_to;
  }

  pub move_on : ((f : ℕ) (name : List ℕ) → is_some (says c 0 f name) ≡ false) → (course : Course) (m : Moving) → MoveKnown told marks log course m → MoveKnown told marks now course m
  move_on silent course m k = record {
    source = k.source;
    target = k.target;
    none = k.none;
    other = k.other;
    moved = λ on is.
        let h = k.moved on is in
        moved_on m m refl h (λ name at. waits_still h.f name log c (owed_nodes m.stage h.f h.g) (silent h.f name) (h.source_waits name at))
        (λ name at. waits_still h.g name log c (owed_nodes m.stage h.f h.g) (silent h.g name) (h.target_waits name at));
  }

pub move_still : (told : HistoryFacts) (marks : Marks) (log later : CallLog) (course : Course) (m : Moving) → IsStill log later → MoveKnown told marks log course m → MoveKnown told marks later course m
move_still told marks log later course m (c, is, how) k = subst (λ (l : CallLog). MoveKnown told marks l course m) (sym is) (by c how)
  where
    by : (c : Change) → (c ≡ Nothing) ⊎ ((f : ℕ) × (c ≡ Syncs f)) → MoveKnown told marks (with_change log c) course m
    by c (inl none) = subst (λ (x : Change). MoveKnown told marks (with_change log x) course m) (sym none) (move_on told marks log Nothing (current_more log Nothing) (λ f. refl) (λ f g. refl) (λ f name. refl) course m k)
    by c (inr (f, sync)) = subst (λ (x : Change). MoveKnown told marks (with_change log x) course m) (sym sync) (move_on told marks log (Syncs f) (current_more log (Syncs f)) (λ h. refl) (λ h g. refl) (λ h name. refl) course m k)

-- it hangs on the part and the folders on the disk of what a history says
pub move_said : (told other : HistoryFacts) → other.part ≡ told.part → other.folders ≡ told.folders → (marks : Marks) (log : CallLog) (course : Course) (m : Moving) → MoveKnown told marks log course m → MoveKnown other marks log course m
move_said told other part folders marks log course m k = record {
  source = k.source;
  target = k.target;
  none = part ∙ k.none;
  other = k.other;
  moved = λ on is.
      let h = k.moved on is in
      record {
        f = h.f;
        g = h.g;
        from = h.from;
        to = h.to;
        source_waits = h.source_waits;
        target_waits = h.target_waits;
        rests = h.rests;
        gone = h.gone;
        told_from = ap (λ (b : Route → Bool). b (folder_of m.pair.source)) folders ∙ h.told_from;
        told_to = ap (λ (b : Route → Bool). b (folder_of m.pair.target)) folders ∙ h.told_to;
      };
}

-- where no sync is owed any more
none_owed : (stage : MovingStage) (f g : ℕ) → is_dirty stage ≡ false → owed_nodes stage f g ≡ []
none_owed Take f g clean = refl
none_owed SyncTarget f g clean = absurd (true≢false clean)
none_owed SyncSource f g clean = absurd (true≢false clean)
none_owed Finish f g clean = refl
none_owed PassedOver f g clean = refl

-- So once both folders were synced neither of the two names waits.
module _ (told : HistoryFacts) (marks : Marks) (log : CallLog) (m : Moving) (h : IsMovedIn told marks log m) (clean : is_dirty m.stage ≡ false) where
  pub source_settled : HasName m.pair.source → name_waits log m.pair.source ≡ false
  source_settled has = ap (name_waits log) has.is ∙ (ap (λ o. option_map_or (λ k. is_pending k has.name log.changes) o false) h.from
      ∙ waits_none h.f has.name log (subst (NameWaits log h.f has.name) (none_owed m.stage h.f h.g clean) (h.source_waits has.name has.is)))

  pub target_settled : HasName m.pair.target → name_waits log m.pair.target ≡ false
  target_settled has = ap (name_waits log) has.is ∙ (ap (λ o. option_map_or (λ k. is_pending k has.name log.changes) o false) h.to
      ∙ waits_none h.g has.name log (subst (NameWaits log h.g has.name) (none_owed m.stage h.f h.g clean) (h.target_waits has.name has.is)))

-- Nothing stands below a path where nothing stands, and so no name waits there.
none_below : (s : FileSystem) (top rest : Route) → find s top ≡ None → find s (rest ++ top) ≡ None
none_below s top [] gone = gone
none_below s top (name ∷ rest) gone = ap (option_and_then (λ f. lookup s.names f name)) (none_below s top rest gone)

module _ (told : HistoryFacts) (marks : Marks) (log : CallLog) (m : Moving) (h : IsMovedIn told marks log m) where
  pub none_left : (rest : Route) → find (current log) (rest ++ m.pair.source) ≡ None
  none_left rest = none_below (current log) m.pair.source rest h.gone

  pub none_waits_below : (name : List ℕ) (rest : Route) → name_waits log (name ∷ rest ++ m.pair.source) ≡ false
  none_waits_below name rest = ap (λ o. option_map_or (λ k. is_pending k name log.changes) o false) (none_left rest)
