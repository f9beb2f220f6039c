-- The paths of a move: which a report names, where its parts went, and what it shows of all others.
use Rattle.std.proofs.Common.{◌≡◌, ◌⊎◌, Bool, true, false, not, ◌||◌, List, [], ◌∷◌, ◌++◌, refl, sym, ◌∙◌, ap, subst, inl, inr}
use Rattle.std.specs.Prelude.{filter, if◌then◌else◌, map}
use Rattle.std.proofs.lemmas.Bool.{both_ways, false_from_ne_true, or_parts}
use Rattle.mc_text.specs.Routes.{Route, is_prefix, same_path}
use Rattle.tree_trait.specs.FileSystem.{View}
use Rattle.tree_trait.specs.CrashImages.{Among}
use Rattle.tree_trait.proofs.Visible.{same_path-true}
use Rattle.job_reports.specs.declared.job.Pair.{Pair}
use Rattle.session_entries.specs.Moves.{is_of_move, moved_from, paths_below, paths_moved}
use Rattle.session_entries.specs.Named.{still_parts}
use Rattle.laws_sessions.specs.Replayed.{keeping_moved, moved_by, nothing_there}
use Rattle.laws_sessions.proofs.Moved.{moved_below}
use Rattle.laws_sessions.proofs.PathsBelow.{below_way, is_below}

-- what lies off a path isn't that path
pub off_path : (top path : Route) → is_prefix top path ≡ false → same_path path top ≡ false
off_path top path off = false_from_ne_true _ (λ same. both_ways _ off (subst (λ q. is_prefix top q ≡ true) (sym (same_path-true path top same)) (is_below top [])))

module _ (pair : Pair) where
  -- a path that isn't of the move lies off both
  pub off_both : (path : Route) → is_of_move pair path ≡ false → (is_prefix pair.source path ≡ false) × (is_prefix pair.target path ≡ false)
  off_both path off = or_parts (is_prefix pair.source path) (is_prefix pair.target path) off

  pub off_ends : (path : Route) → is_of_move pair path ≡ false → (same_path path pair.source || same_path path pair.target) ≡ false
  off_ends path off =
      let o = off_both path off in
      ap (λ b. b || same_path path pair.target) (off_path pair.source path o.0) ∙ off_path pair.target path o.1

  -- it shows what it showed
  pub moved_off : (v : View) (path : Route) → is_of_move pair path ≡ false → moved_by pair v path ≡ v path
  moved_off v path off =
      let o = off_both path off in
      ap (λ b. if◌then◌else◌ b (v (moved_from pair.source pair.target path)) (if◌then◌else◌ (is_prefix pair.source path) nothing_there (v path))) o.1
      ∙ ap (λ b. if◌then◌else◌ b nothing_there (v path)) o.0

  pub kept_off : (v before : View) (path : Route) → is_of_move pair path ≡ false → keeping_moved pair v before path ≡ before path
  kept_off v before path off = ap (λ b. if◌then◌else◌ b (v path) (before path)) off

  -- what lay at or below the source lies at or below the target
  pub went_below : (path : Route) → is_prefix pair.source path ≡ true → is_prefix pair.target (moved_from pair.target pair.source path) ≡ true
  went_below path below =
      let w = below_way pair.source path below in
      subst (λ q. is_prefix pair.target q ≡ true) (sym (ap (moved_from pair.target pair.source) w.1 ∙ moved_below pair.target pair.source w.0)) (is_below pair.target w.0)

-- a path among those of two lists
pub among_both : (xs ys : List Route) (q : Route) → Among (xs ++ ys) q → Among xs q ⊎ Among ys q
among_both [] ys q among = inr among
among_both (x ∷ xs) ys q (inl same) = inl (inl same)
among_both (x ∷ xs) ys q (inr more) = by (among_both xs ys q more)
  where
    by : Among xs q ⊎ Among ys q → Among (x ∷ xs) q ⊎ Among ys q
    by (inl first) = inl (inr first)
    by (inr second) = inr second

pub among_first : (xs ys : List Route) (q : Route) → Among xs q → Among (xs ++ ys) q
among_first [] ys q among = absurd among
among_first (x ∷ xs) ys q (inl same) = inl same
among_first (x ∷ xs) ys q (inr more) = inr (among_first xs ys q more)

pub among_second : (xs ys : List Route) (q : Route) → Among ys q → Among (xs ++ ys) q
among_second [] ys q among = among
among_second (x ∷ xs) ys q among = inr (among_second xs ys q among)

-- one of those that were mapped
pub among_map : (f : Route → Route) (xs : List Route) (q : Route) → Among (map f xs) q → (p : Route) × (Among xs p × (q ≡ f p))
among_map f [] q among = absurd among
among_map f (x ∷ xs) q (inl same) = (x, (inl refl, same))
among_map f (x ∷ xs) q (inr more) = let m = among_map f xs q more in (m.0, (inr m.1.0, m.1.1))

pub map_among : (f : Route → Route) (xs : List Route) (p : Route) → Among xs p → Among (map f xs) (f p)
map_among f [] p among = absurd among
map_among f (x ∷ xs) p (inl same) = inl (ap f same)
map_among f (x ∷ xs) p (inr more) = inr (map_among f xs p more)

-- one of those that pass a test
pub among_passed : (keeps : Route → Bool) (q : Route) (xs : List Route) → Among (filter keeps xs) q → (keeps q ≡ true) × Among xs q
among_passed keeps q [] among = absurd among
among_passed keeps q (x ∷ xs) among = by (keeps x) refl among (among_passed keeps q xs)
  where
    by : (b : Bool) → keeps x ≡ b → Among (if◌then◌else◌ b (x ∷ filter keeps xs) (filter keeps xs)) q → (Among (filter keeps xs) q → (keeps q ≡ true) × Among xs q) → (keeps q ≡ true) × Among (x ∷ xs) q
    by true is (inl same) rest = (subst (λ p. keeps p ≡ true) (sym same) is, inl same)
    by true is (inr more) rest = let r = rest more in (r.0, inr r.1)
    by false is more rest = let r = rest more in (r.0, inr r.1)

pub passes_among : (keeps : Route → Bool) (q : Route) (xs : List Route) → keeps q ≡ true → Among xs q → Among (filter keeps xs) q
passes_among keeps q [] passes among = absurd among
passes_among keeps q (x ∷ xs) passes among = by (keeps x) refl among (passes_among keeps q xs passes)
  where
    by : (b : Bool) → keeps x ≡ b → Among (x ∷ xs) q → (Among xs q → Among (filter keeps xs) q) → Among (if◌then◌else◌ b (x ∷ filter keeps xs) (filter keeps xs)) q
    by true is (inl same) rest = inl same
    by true is (inr more) rest = inr (rest more)
    by false is (inl same) rest = absurd (both_ways _ is (subst (λ p. keeps p ≡ true) same passes))
    by false is (inr more) rest = rest more

module _ (pair : Pair) where
  -- a part that was moved is one at or below the target, and was one at or below the source
  pub moved_part : (paths : List Route) (q : Route) → Among (paths_moved pair paths) q → (p : Route) × (Among paths p × ((is_prefix pair.source p ≡ true) × (q ≡ moved_from pair.target pair.source p)))
  moved_part paths q among =
      let m = among_map (moved_from pair.target pair.source) (paths_below pair.source paths) q among in
      let p = among_passed (is_prefix pair.source) m.0 paths m.1.0 in
      (m.0, (p.1, (p.0, m.1.1)))

  pub moved_part_below : (paths : List Route) (q : Route) → Among (paths_moved pair paths) q → is_prefix pair.target q ≡ true
  moved_part_below paths q among = let m = moved_part paths q among in subst (λ p. is_prefix pair.target p ≡ true) (sym m.1.1.1) (went_below pair m.0 m.1.1.0)

  -- a part at or below the source is one as far below the target
  pub part_moved : (paths : List Route) (rest : Route) → Among paths (rest ++ pair.source) → Among (paths_moved pair paths) (rest ++ pair.target)
  part_moved paths rest among =
      subst (λ q. Among (paths_moved pair paths) q) (moved_below pair.target pair.source rest)
      (map_among (moved_from pair.target pair.source) (paths_below pair.source paths) (rest ++ pair.source)
      (passes_among (is_prefix pair.source) (rest ++ pair.source) paths (is_below pair.source rest) among))

  -- of what a move names as parts, a path that isn't of it was one before
  pub named_off : (is_other : Route → Bool) (left before : List Route) (q : Route) → is_of_move pair q ≡ false → Among (paths_moved pair left ++ paths_below pair.target left ++ still_parts is_other (is_prefix pair.target) before) q → Among before q
  named_off is_other left before q off among = elim (among_both (paths_moved pair left ++ paths_below pair.target left) (still_parts is_other (is_prefix pair.target) before) q among) [
    | inl some ↦ elim (among_both (paths_moved pair left) (paths_below pair.target left) q some) [
      | inl moved ↦ absurd (below (moved_part_below left q moved))
      | inr here ↦ absurd (below (among_passed (is_prefix pair.target) q left here).0)
    ]
    | inr kept ↦ (among_passed (λ path. is_other path || not (is_prefix pair.target path)) q before kept).1
  ]
    where
      below : is_prefix pair.target q ≡ true → ⊥
      below h = both_ways _ (off_both pair q off).1 h
