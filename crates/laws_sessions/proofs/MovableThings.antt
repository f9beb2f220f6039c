-- A thing may be moved, a folder with all that lies in it too: what a history says once it was, and that a crash leaves it under either name then. Where a part lies in it,
-- one stands aside under both.
use Rattle.std.proofs.Common.{◌≡◌, ◌⊎◌, ℕ, true, false, not, ◌&&◌, ◌||◌, List, [], ◌∷◌, ◌++◌, refl, sym, ◌∙◌, ap, subst, inl, inr, Option, Some, None}
use Rattle.std.specs.Prelude.{option_and_then, ◌==◌}
use Rattle.std.specs.Option.{option_map_or}
use Rattle.std.proofs.lemmas.Bool.{and_parts, eq-eqb, eqb-true, false_from_ne_true, or_cases, or_left, or_parts}
use Rattle.mc_text.specs.Routes.{Route, is_prefix, same_path}
use Rattle.tree_trait.specs.FileSystem.{find, lookup, node, starts_mount}
use Rattle.tree_trait.specs.Refusals.{is_folder, mount_of}
use Rattle.tree_trait.specs.Change.{Change, Moves, CallLog, current, with_change}
use Rattle.tree_trait.proofs.Finding.{find-once}
use Rattle.laws_crash.specs.Possible.{Leads, MayFindFrom, find_from}
use Rattle.laws_crash.specs.Guarded.{IsGuarded, IsNaming, Marks}
use Rattle.laws_crash.specs.NameKnowledge.{IsAnchored}
use Rattle.laws_crash.proofs.Guarding.{found_at, naming_law, settle_law}
use Rattle.laws_crash.proofs.Moving.{moving_law}
use Rattle.laws_crash.proofs.Tops.{find_below, not_longer}
use Rattle.job_reports.specs.declared.job.Pair.{Pair}
use Rattle.session_entries.specs.Moves.{is_of_move, moved_from, paths_below, paths_moved, paths_off}
use Rattle.laws_sessions.specs.Doubt.{is_pending, name_waits, way_waits}
use Rattle.laws_sessions.specs.Replayed.{keeping_moved, moved_by}
use Rattle.laws_sessions.proofs.AtRest.{RestsBelow}
use Rattle.laws_sessions.proofs.Changing.{folder_anchored}
use Rattle.laws_sessions.proofs.Knowing.{IsKept, IsKnown, HistoryFacts}
use Rattle.laws_sessions.proofs.Moved.{moved_below}
use Rattle.laws_sessions.proofs.MovedTree.{MovesThing, not_over, other_name, source_name}
use Rattle.laws_sessions.proofs.PathsBelow.{below_way, is_below, not_below, off_above, off_below}
use Rattle.laws_sessions.proofs.Pending.{leads_only}
use Rattle.laws_sessions.proofs.Resting.{no_folder_below}

-- a node that a crash may leave under either of two names; of the parts in it one stands aside where it goes, too
abbrev pub marks_moving : Marks → ℕ → Route → Route → Marks
marks_moving marks i source target =
    record marks { aside = λ p. marks.aside p || (is_prefix target p && marks.aside (moved_from source target p)); roams = λ j. (j == i) || marks.roams j }

-- the pair of these two paths
abbrev pub pair_of : Route → Route → Pair
pair_of source target = record { source = source; target = target }

-- What a history says once a thing was moved: at the target, and below, stands what stood at the source, and there nothing; of both names a change may wait. The parts
-- that lay in it lie where it went.
abbrev pub said_thing_moved : HistoryFacts → List ℕ → Route → List ℕ → Route → HistoryFacts
said_thing_moved told old source_folder new target_folder = record {
  tree = moved_by (pair_of (old ∷ source_folder) (new ∷ target_folder)) told.tree;
  earlier = keeping_moved (pair_of (old ∷ source_folder) (new ∷ target_folder)) told.tree told.earlier;
  named = paths_moved (pair_of (old ∷ source_folder) (new ∷ target_folder)) told.left ++ paths_below (new ∷ target_folder) told.left ++ paths_off (new ∷ target_folder) told.named;
  left = paths_moved (pair_of (old ∷ source_folder) (new ∷ target_folder)) told.left ++ paths_off (old ∷ source_folder) told.left;
  part = told.part;
  doubt = λ n p. told.doubt n p || (same_path p (old ∷ source_folder) || same_path p (new ∷ target_folder));
  written = λ n p. told.written n p || is_of_move (pair_of (old ∷ source_folder) (new ∷ target_folder)) p;
  folders = λ p. (told.folders p && not (is_of_move (pair_of (old ∷ source_folder) (new ∷ target_folder)) p)) || (same_path p source_folder || same_path p target_folder);
  modes = told.modes;
  calm = λ p. told.calm p && not (is_of_move (pair_of (old ∷ source_folder) (new ∷ target_folder)) p);
}

-- A thing may be moved, to where nothing stands, or if it is no folder, over another such thing.
pub record CanMoveThing (told : HistoryFacts) (marks : Marks) (log : CallLog) (old : List ℕ) (source_folder : Route) (new : List ℕ) (target_folder : Route) (f g i : ℕ) : Type 0 where
  -- no part stands
  pub none : told.part ≡ None
  pub from : find (current log) source_folder ≡ Some f
  pub to : find (current log) target_folder ≡ Some g
  pub folder : is_folder (node (current log) g) ≡ true
  pub leads : find (current log) (old ∷ source_folder) ≡ Some i
  pub other : (old ∷ source_folder) ≡ (new ∷ target_folder) → ⊥
  pub not_into : (rest : Route) → target_folder ≡ rest ++ old ∷ source_folder → ⊥
  -- what is replaced is no folder, and a folder replaces nothing
  pub bare : (j : ℕ) → find (current log) (new ∷ target_folder) ≡ Some j → is_folder (node (current log) j) ≡ false
  pub free : is_folder (node (current log) i) ≡ true → find (current log) (new ∷ target_folder) ≡ None
  -- nothing waits on the way to either, nor at what is moved, or below it
  pub source_sure : way_waits log (old ∷ source_folder) ≡ false
  pub target_sure : way_waits log (new ∷ target_folder) ≡ false
  pub rests : RestsBelow marks log (old ∷ source_folder)
  -- no mode waits of what is replaced
  pub no_mode_there : (j : ℕ) → find (current log) (new ∷ target_folder) ≡ Some j → marks.modes j ≡ None
  pub mount : mount_of (current log) target_folder ≡ mount_of (current log) source_folder
  -- no mount begins there
  pub no_mount : starts_mount (current log) i ≡ false

module _ (told : HistoryFacts) (dirty : List Route) (marks : Marks) (log : CallLog) (kept : IsKept told dirty marks log) (old : List ℕ) (source_folder : Route) (new : List ℕ) (target_folder : Route)
    (f g i : ℕ) (r : Option ℕ) (h : CanMoveThing told marks log old source_folder new target_folder f g i) where
  abbrev moves : Change
  moves = Moves f old g new i r

  abbrev now : CallLog
  now = with_change log moves

  abbrev source : Route
  source = old ∷ source_folder

  abbrev target : Route
  target = new ∷ target_folder

  abbrev moving : Marks
  moving = marks_moving marks i source target

  known : IsKnown told dirty marks log
  known = kept.known

  -- as a tree it may be moved
  abbrev pub thing : MovesThing log old source_folder new target_folder f g i
  thing = record { tree = kept.known.guarded.tree; from = h.from; to = h.to; leads = h.leads; folder = h.folder; bare = h.bare; free = h.free; not_into = h.not_into; other = h.other; mount = h.no_mount }

  pub source_holds : is_folder (node (current log) f) ≡ true
  source_holds = known.guarded.tree.in_folders f old i (source_name log old source_folder new target_folder f g i r thing)

  -- nothing waits on the way to either folder
  pub source_above : way_waits log source_folder ≡ false
  source_above = (or_parts (name_waits log source) (way_waits log source_folder) h.source_sure).1

  pub target_above : way_waits log target_folder ≡ false
  target_above = (or_parts (name_waits log target) (way_waits log target_folder) h.target_sure).1

  -- nor to what lies below either path
  pub source_way : (rest : Route) → way_waits log (rest ++ source) ≡ false
  source_way [] = h.source_sure
  source_way (name ∷ rest) = ap (λ b. b || way_waits log (rest ++ source)) (h.rests.names name rest) ∙ source_way rest

  pub target_way : (rest : Route) → way_waits log (rest ++ target) ≡ false
  target_way [] = h.target_sure
  target_way (name ∷ rest) = ap (λ b. b || way_waits log (rest ++ target)) (by (find (current log) (rest ++ target)) refl) ∙ target_way rest
    where
      by : (o : Option ℕ) → find (current log) (rest ++ target) ≡ o → name_waits log (name ∷ rest ++ target) ≡ false
      by None is = ap (λ x. option_map_or (λ k. is_pending k name log.changes) x false) is
      by (Some j) is =
          ap (λ x. option_map_or (λ k. is_pending k name log.changes) x false) is
          ∙ known.files.bare j name (false_from_ne_true _ (λ folder. no_folder_below log known.guarded.tree known.files target h.bare rest j is folder))

  -- What stands aside then did before, or it lies in what was moved, and its part did.
  pub out_was : (p : Route) → moving.aside p ≡ false → marks.aside p ≡ false
  out_was p out = (or_parts (marks.aside p) (is_prefix target p && marks.aside (moved_from source target p)) out).0

  pub out_source : (rest : Route) → moving.aside (rest ++ target) ≡ false → marks.aside (rest ++ source) ≡ false
  out_source rest out = subst (λ q. marks.aside q ≡ false) (moved_below source target rest)
      (sym (ap (λ b. b && marks.aside (moved_from source target (rest ++ target))) (is_below target rest))
      ∙ (or_parts (marks.aside (rest ++ target)) (is_prefix target (rest ++ target) && marks.aside (moved_from source target (rest ++ target))) out).1)

  pub out_off : (p : Route) → is_prefix target p ≡ false → marks.aside p ≡ false → moving.aside p ≡ false
  out_off p off out = ap (λ b. b || (is_prefix target p && marks.aside (moved_from source target p))) out ∙ ap (λ b. b && marks.aside (moved_from source target p)) off

  pub aside_was : (p : Route) → moving.aside p ≡ true → (marks.aside p ≡ true) ⊎ ((rest : Route) × (p ≡ rest ++ target) × (marks.aside (rest ++ source) ≡ true))
  aside_was p is = elim (or_cases (marks.aside p) (is_prefix target p && marks.aside (moved_from source target p)) is) [
    | inl before ↦ inl before
    | inr here ↦
        let both = and_parts (is_prefix target p) (marks.aside (moved_from source target p)) here in
        let w = below_way target p both.0 in
        inr (w.0, w.1, subst (λ q. marks.aside q ≡ true) (ap (moved_from source target) w.1 ∙ moved_below source target w.0) both.1)
  ]

  -- where a folder stands that isn't moved, the thing that is moved isn't on the way
  anchored : (p : Route) → is_prefix source p ≡ false → IsAnchored marks log p → IsAnchored moving log p
  anchored [] off stands = tt
  anchored (name ∷ p) off stands = (
    anchored p (off_above source name p off) stands.0,
    λ j at. ap (λ b. b || marks.roams j) (false_from_ne_true (j == i) (λ same.
        not_below source (name ∷ p) [] off (find-once (current log) known.guarded.tree (name ∷ p) source i (at ∙ ap (λ k. Some k) (eqb-true j i same)) h.leads)))
        ∙ stands.1 j at,
  )

  -- below it each path leads only where it leads
  settled_below : (rest : Route) (x : Option ℕ) → MayFindFrom log i rest x → x ≡ find_from (current log) i rest
  settled_below [] x found = found
  settled_below (name ∷ rest) x (y, found, leads) = at (find_from (current log) i rest) refl (subst (λ o. Leads log o name x) (settled_below rest y found) leads)
    where
      at : (o : Option ℕ) → find_from (current log) i rest ≡ o → Leads log (find_from (current log) i rest) name x → x ≡ find_from (current log) i (name ∷ rest)
      at None is lead = subst (λ o. Leads log o name x) is lead ∙ sym (ap (option_and_then (λ k. lookup (current log).names k name)) is)
      at (Some k) is lead =
          leads_only log k name x (sym (ap (λ o. option_map_or (λ n. is_pending n name log.changes) o false) (find_below (current log) source i rest h.leads ∙ is)) ∙ h.rests.names name rest)
          (subst (λ o. Leads log o name x) is lead)
          ∙ sym (ap (option_and_then (λ n. lookup (current log).names n name)) is)

  guarded : IsGuarded moving log
  guarded = settle_law marks moving log known.guarded (record {
    paths = λ p out. inl (out_was p out, refl);
    nodes = λ j firm. inl (firm, refl);
    firm = λ p j out at. known.guarded.firm p j (out_was p out) at;
    places = λ j stays. inl (or_parts (j == i) (marks.roams j) stays).1;
  })

  naming : IsNaming moving log moves
  naming = moving_law moving log source_folder target_folder old new f g i r guarded (record {
    from = record {
      at = h.from;
      anchored = anchored source_folder (off_below source source_folder (λ rest e. not_longer rest old source_folder e)) (folder_anchored told dirty marks log known kept.roams source_folder f h.from source_holds source_above);
    };
    to = record { at = h.to; anchored = anchored target_folder (off_below source target_folder h.not_into) (folder_anchored told dirty marks log known kept.roams target_folder g h.to h.folder target_above) };
    folder = h.folder;
    leads = source_name log old source_folder new target_folder f g i r thing;
    other = other_name log old source_folder new target_folder f g i r thing;
    not_under_target = not_over log old source_folder new target_folder f g i r thing;
    not_into_itself = h.not_into;
    below = settled_below;
    moves = or_left (i == i) (marks.roams i) (eq-eqb i i refl);
    solid = λ rest j out from. known.guarded.firm (rest ++ source) j (out_source rest out) (found_at log (rest ++ source) (Some j) (find_below (current log) source i rest h.leads ∙ from));
    found = λ rest out. sym (kept.was (rest ++ target) (out_was (rest ++ target) out) (target_way rest));
    source = λ rest out. inl (sym (kept.was (rest ++ source) (out_was (rest ++ source) out) (source_way rest)));
  })

  -- so each path leads after a crash where it leads then, or where it led
  pub guarded_now : IsGuarded moving now
  guarded_now = naming_law moving log moves guarded naming
