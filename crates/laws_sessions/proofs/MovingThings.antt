-- A thing is moved, a folder with all that lies in it too: what is known then.
use Rattle.std.proofs.Common.{◌≡◌, ◌⊎◌, ℕ, Bool, true, false, not, List, [], ◌∷◌, ◌++◌, length, refl, sym, ◌∙◌, ap, subst, inl, inr, Option, Some, None, arith}
use Rattle.std.specs.Prelude.{if◌then◌else◌, is_some}
use Rattle.std.proofs.lemmas.Bool.{false≢true, both_ways, or_from, or_left, or_parts, or_right}
use Rattle.mc_text.specs.Routes.{Route, is_prefix}
use Rattle.tree_trait.specs.declared.file_system.FileSystem.{FileSystem}
use Rattle.tree_trait.specs.FileSystem.{Spot, View, find, node, value, visible_tree}
use Rattle.tree_trait.specs.Change.{Change, Moves, CallLog, current, with_change}
use Rattle.tree_trait.specs.CrashImages.{Among}
use Rattle.laws_crash.specs.Guarded.{Marks, with_mode}
use Rattle.laws_crash.proofs.Leading.{current_more}
use Rattle.job_reports.specs.declared.job.Pair.{Pair}
use Rattle.session_entries.specs.Moves.{is_of_move, moved_from, paths_below, paths_moved, paths_off}
use Rattle.laws_sessions.specs.Doubt.{way_waits}
use Rattle.laws_sessions.specs.Replayed.{moved_by, nothing_there}
use Rattle.laws_sessions.proofs.Knowing.{HasMode, HasNoMode, IsKept, IsKnown, HistoryFacts, held}
pub use Rattle.laws_sessions.proofs.MovableThings.{CanMoveThing, marks_moving, pair_of, said_thing_moved}
use Rattle.laws_sessions.proofs.MovableThings.{aside_was, guarded_now, out_off, out_was, source_way, target_way, thing}
use Rattle.laws_sessions.proofs.MovedPaths.{among_first, among_second, kept_off, part_moved, passes_among}
use Rattle.laws_sessions.proofs.MovedTree.{MovesThing, leaves, nodes, none_in_file, off, seen, where_is}
pub use Rattle.laws_sessions.proofs.MovingWaits.{source_stays, target_stays, thing_rests}
use Rattle.laws_sessions.proofs.MovingWaits.{calm_then, doubts_then, files_now, folder_then, joint_then, stand_then, tracked_then}
use Rattle.laws_sessions.proofs.PathsBelow.{below_way}
use Rattle.laws_sessions.proofs.Quiet.{unclean_before}
use Rattle.laws_sessions.proofs.Since.{clean_since}

-- a move shows of two trees that show the same the same
moved_same : (pair : Pair) (v w : View) → ((p : Route) → v p ≡ w p) → (p : Route) → moved_by pair v p ≡ moved_by pair w p
moved_same pair v w same p = by (is_prefix pair.target p) (is_prefix pair.source p)
  where
    by : (a b : Bool) → (if◌then◌else◌ a (v (moved_from pair.source pair.target p)) (if◌then◌else◌ b nothing_there (v p)))
        ≡ (if◌then◌else◌ a (w (moved_from pair.source pair.target p)) (if◌then◌else◌ b nothing_there (w p)))
    by true b = same (moved_from pair.source pair.target p)
    by false true = refl
    by false false = same p

none_some : {A : Type 0} (x : Option ℕ) (n : ℕ) → x ≡ None → x ≡ Some n → A
none_some x n none some = absurd (let e : (let o : Option ℕ = None in o) ≡ Some n = sym none ∙ some in let f : ⊥ = cc in f)

module _ (told : HistoryFacts) (dirty : List Route) (marks : Marks) (log : CallLog) (kept : IsKept told dirty marks log) (old : List ℕ) (source_folder : Route) (new : List ℕ) (target_folder : Route)
    (f g i : ℕ) (r : Option ℕ) (h : CanMoveThing told marks log old source_folder new target_folder f g i) where
  abbrev moves : Change
  moves = Moves f old g new i r

  abbrev now : CallLog
  now = with_change log moves

  abbrev source : Route
  source = old ∷ source_folder

  abbrev target : Route
  target = new ∷ target_folder

  abbrev pair : Pair
  pair = pair_of source target

  abbrev moving : Marks
  moving = marks_moving marks i source target

  abbrev after : HistoryFacts
  after = said_thing_moved told old source_folder new target_folder

  known : IsKnown told dirty marks log
  known = kept.known

  -- how it lies in the tree
  abbrev lies : MovesThing log old source_folder new target_folder f g i
  lies = thing told dirty marks log kept old source_folder new target_folder f g i r h

  node_same : (k : ℕ) → node (current now) k ≡ node (current log) k
  node_same k = nodes log old source_folder new target_folder f g i r lies k

  off_both : (p : Route) → is_prefix source p ≡ false → is_prefix target p ≡ false → find (current now) p ≡ find (current log) p
  off_both p of_source of_target = off log old source_folder new target_folder f g i r lies p of_source of_target

  -- What a path held before the move, it showed.
  held_still : (o : Option ℕ) → held (current now) o ≡ held (current log) o
  held_still o = ap (λ (s : FileSystem). held s o) (current_more log moves)

  no_part : (p : Route) → told.part ≡ Some p → ⊥
  no_part p is = let e : (let o : Option Route = None in o) ≡ Some p = sym h.none ∙ is in cc

  showed : (p : Route) → (told.tree p).value ≡ held (current log) (find (current log) p)
  showed p = ap (λ (s : Spot). s.value) (sym (known.shows p (no_part p)))

  abbrev WasShown : Route → Type 0
  WasShown p = (marks.was p ≡ find (current now) p) ⊎ ((held (current now) (marks.was p) ≡ (after.earlier p).value) × HasNoMode moving (marks.was p))

  -- of a path of the move
  shown_of : (p : Route) → is_of_move pair p ≡ true → marks.was p ≡ find (current log) p → ((j : ℕ) → find (current log) p ≡ Some j → marks.modes j ≡ None) → WasShown p
  shown_of p of stood calm = inr (
    held_still (marks.was p) ∙ (ap (held (current log)) stood ∙ (sym (showed p) ∙ ap (λ (s : Spot). s.value) (sym (ap (λ b. if◌then◌else◌ b (told.tree p) (told.earlier p)) of)))),
    λ j is. calm j (sym stood ∙ is),
  )

  no_mode_source : (rest p : Route) → p ≡ rest ++ source → (j : ℕ) → find (current log) p ≡ Some j → marks.modes j ≡ None
  no_mode_source rest p e j at = h.rests.modes rest j (sym (ap (find (current log)) e) ∙ at)

  no_mode_target : (rest p : Route) → p ≡ rest ++ target → (j : ℕ) → find (current log) p ≡ Some j → marks.modes j ≡ None
  no_mode_target [] p e j at = h.no_mode_there j (sym (ap (find (current log)) e) ∙ at)
  no_mode_target (name ∷ rest) p e j at = none_some (find (current log) p) j (ap (find (current log)) e ∙ none_in_file (current log) known.guarded.tree target h.bare name rest) at

  shown_then : (p : Route) → moving.aside p ≡ false → WasShown p
  shown_then p out = by (is_prefix source p) refl (is_prefix target p) refl
    where
      was_out : marks.aside p ≡ false
      was_out = out_was told dirty marks log kept old source_folder new target_folder f g i r h p out

      by : (a : Bool) → is_prefix source p ≡ a → (b : Bool) → is_prefix target p ≡ b → WasShown p
      by true below b b_is =
          let w = below_way source p below in
          let sure : way_waits log p ≡ false = ap (way_waits log) w.1 ∙ source_way told dirty marks log kept old source_folder new target_folder f g i r h w.0 in
          shown_of p (or_left _ _ below) (kept.was p was_out sure) (no_mode_source w.0 p w.1)
      by false a_is true below =
          let w = below_way target p below in
          let sure : way_waits log p ≡ false = ap (way_waits log) w.1 ∙ target_way told dirty marks log kept old source_folder new target_folder f g i r h w.0 in
          shown_of p (or_right (is_prefix source p) _ below) (kept.was p was_out sure) (no_mode_target w.0 p w.1)
      by false of_source false of_target = elim (known.was_shown p was_out) [
        | inl same ↦ inl (same ∙ sym (off_both p of_source of_target))
        | inr shown ↦ inr (held_still (marks.was p) ∙ (shown.0 ∙ sym (ap (λ (s : Spot). s.value) (kept_off pair told.tree told.earlier p (or_from _ _ of_source of_target)))), shown.1)
      ]

  -- A mode that waits is of another path.
  moded_then : (j before : ℕ) → marks.modes j ≡ Some before → HasMode told dirty marks log j before → (dirty_after : List Route) → ((q : Route) → Among dirty q → Among dirty_after q) → HasMode after dirty_after moving now j before
  moded_then j before is w dirty_after more = elim (where_is log old source_folder new target_folder f g i r lies w.path j w.leads) [
    | inl there ↦ record {
      path = w.path;
      leads = there.2;
      out = out_off told dirty marks log kept old source_folder new target_folder f g i r h w.path there.1 w.out;
      listed = more w.path w.listed;
      told = w.told;
      shown =
          ap (λ (s : Spot). s.value) (kept_off pair told.tree told.earlier w.path (or_from _ _ there.0 there.1))
          ∙ (w.shown ∙ ap (λ n. Some (value (with_mode before n))) (sym (node_same j)));
    }
    | inr (inl moved) ↦ none_some (marks.modes j) before (no_mode_source moved.0 w.path moved.1 j w.leads) is
    | inr (inr gone) ↦ none_some (marks.modes j) before (no_mode_target [] w.path gone.0 j w.leads) is
  ]

  -- A part that stands an ended job left; one that lay in what was moved lies where that went.
  part_left : (p : Route) → marks.aside p ≡ true → way_waits log p ≡ false → Among told.left p
  part_left p is sure = elim (kept.aside p is) [
    | inl waits ↦ absurd (both_ways _ sure waits)
    | inr stands ↦ elim (known.left p is stands) [ inl part ↦ absurd (no_part p part) | inr among ↦ among ]
  ]

  part_went : (rest : Route) → marks.aside (rest ++ source) ≡ true → Among (paths_moved pair told.left) (rest ++ target)
  part_went rest is = part_moved pair told.left rest (part_left (rest ++ source) is (source_way told dirty marks log kept old source_folder new target_folder f g i r h rest))

  part_there : (rest : Route) → marks.aside (rest ++ target) ≡ true → Among told.left (rest ++ target)
  part_there rest is = part_left (rest ++ target) is (target_way told dirty marks log kept old source_folder new target_folder f g i r h rest)

  named_then : (p : Route) → moving.aside p ≡ true → Among after.named p
  named_then p is = elim (aside_was told dirty marks log kept old source_folder new target_folder f g i r h p is) [
    | inr went ↦
        subst (λ q. Among after.named q) (sym went.1)
        (among_first (paths_moved pair told.left ++ paths_below target told.left) (paths_off target told.named) (went.0 ++ target)
        (among_first (paths_moved pair told.left) (paths_below target told.left) (went.0 ++ target) (part_went went.0 went.2)))
    | inl before ↦ by before (is_prefix target p) refl
  ]
    where
      by : marks.aside p ≡ true → (b : Bool) → is_prefix target p ≡ b → Among after.named p
      by before true below =
          let w = below_way target p below in
          among_first (paths_moved pair told.left ++ paths_below target told.left) (paths_off target told.named) p
          (among_second (paths_moved pair told.left) (paths_below target told.left) p
          (passes_among (is_prefix target) p told.left below (subst (λ q. Among told.left q) (sym w.1) (part_there w.0 (ap marks.aside (sym w.1) ∙ before)))))
      by before false off =
          among_second (paths_moved pair told.left ++ paths_below target told.left) (paths_off target told.named) p
          (passes_among (λ q. not (is_prefix target q)) p told.named (ap not off) (known.aside p before))

  left_then : (p : Route) → moving.aside p ≡ true → is_some (find (current now) p) ≡ true → Among after.left p
  left_then p is stands = elim (aside_was told dirty marks log kept old source_folder new target_folder f g i r h p is) [
    | inr went ↦
        subst (λ q. Among after.left q) (sym went.1)
        (among_first (paths_moved pair told.left) (paths_off source told.left) (went.0 ++ target) (part_went went.0 went.2))
    | inl before ↦ by before (is_prefix source p) refl (is_prefix target p) refl
  ]
    where
      kept_there : is_prefix source p ≡ false → Among told.left p → Among after.left p
      kept_there of_source among = among_second (paths_moved pair told.left) (paths_off source told.left) p (passes_among (λ q. not (is_prefix source q)) p told.left (ap not of_source) among)

      by : marks.aside p ≡ true → (a : Bool) → is_prefix source p ≡ a → (b : Bool) → is_prefix target p ≡ b → Among after.left p
      by before true below b b_is =
          let w = below_way source p below in
          absurd (false≢true (sym (ap is_some (ap (find (current now)) w.1 ∙ leaves log old source_folder new target_folder f g i r lies w.0)) ∙ stands))
      by before false of_source true below =
          let w = below_way target p below in
          kept_there of_source (subst (λ q. Among told.left q) (sym w.1) (part_there w.0 (ap marks.aside (sym w.1) ∙ before)))
      by before false of_source false of_target = elim (known.left p before (ap is_some (sym (off_both p of_source of_target)) ∙ stands)) [
        | inl part ↦ absurd (no_part p part)
        | inr among ↦ kept_there of_source among
      ]

  -- What is known once it was moved. Both folders are dirty then.
  pub thing_moved_known : (dirty_after : List Route) → Among dirty_after source_folder → Among dirty_after target_folder → ((q : Route) → Among dirty q → Among dirty_after q) → IsKnown after dirty_after moving now
  thing_moved_known dirty_after listed listed_beside more = record {
    guarded = guarded_now told dirty marks log kept old source_folder new target_folder f g i r h;
    files = files_now told dirty marks log kept old source_folder new target_folder f g i r h;
    moded = λ j before is unclean. moded_then j before is (known.moded j before is (unclean_before log moves j refl unclean)) dirty_after more;
    calm = calm_then told dirty marks log kept old source_folder new target_folder f g i r h;
    folders = folder_then told dirty marks log kept old source_folder new target_folder f g i r h;
    aside = named_then;
    left = λ p is stands. inr (left_then p is stands);
    was_there = λ p j out is.
        let t = known.was_there p j (out_was told dirty marks log kept old source_folder new target_folder f g i r h p out) is in
        (let e = ap (λ (s : FileSystem). length s.nodes) (current_more log moves) in let there = t.0 in omega (arith, e, there), t.1);
    was_shown = shown_then;
    shows = λ p other. seen log old source_folder new target_folder f g i r lies p ∙ moved_same pair (visible_tree (current log)) told.tree (λ q. known.shows q (no_part q)) p;
    part = λ p is. absurd (no_part p is);
    tracked = tracked_then told dirty marks log kept old source_folder new target_folder f g i r h dirty_after listed listed_beside more;
    joint = joint_then told dirty marks log kept old source_folder new target_folder f g i r h;
    doubts = doubts_then told dirty marks log kept old source_folder new target_folder f g i r h;
    written = λ n p j other off at.
        let both = or_parts (told.written n p) (is_of_move pair p) off in
        let away = or_parts (is_prefix source p) (is_prefix target p) both.1 in
        clean_since n j log.changes moves refl (known.written n p j (no_part p) both.0 (sym (off_both p away.0 away.1) ∙ at));
    stand = stand_then told dirty marks log kept old source_folder new target_folder f g i r h;
  }
