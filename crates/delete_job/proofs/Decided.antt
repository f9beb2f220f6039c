-- Once a thing was decided fewer are left.
use Rattle.std.proofs.Common.{◌≡◌, ℕ, ◌<◌, ◌≤◌, zero, suc, Bool, true, false, List, [], ◌∷◌, length, refl, sym, ◌∙◌, ap, subst, inl, inr, arith}
use Rattle.std.specs.Prelude.{if◌then◌else◌}
use Rattle.std.proofs.lemmas.Bool.{true≢false, both_ways}
use Rattle.mc_text.specs.Routes.{Route, same_path}
use Rattle.tree_trait.proofs.Visible.{same_path-self}
use Rattle.tree_walk.specs.Places.{Place, is_empty}
use Rattle.tree_walk.specs.Ranks.{rank, weight}
use Rattle.tree_walk.proofs.Falling.{leave_falls, pass_falls}
use Rattle.delete_job.specs.declared.deletion.Depth.{Depth}
use Rattle.delete_job.specs.declared.deletion.Depth.TheVariants.{Top, Inside}
use Rattle.delete_job.specs.declared.deletion.Stage.{Stage}
use Rattle.delete_job.specs.declared.deletion.Stage.TheVariants.{Begin, Going, Sync}
use Rattle.delete_job.specs.declared.deletion.Deletion.{Deletion}
use Rattle.delete_job.specs.Standing.{Decides, IsDone, after_item, at_barrier, item, item_at, item_of, rank_at, rank_of, things_left, worked_folder}
use Rattle.delete_job.specs.TreeDeletionSteps.{path_of}

itself : (path top : Route) → path ≡ top → same_path path top ≡ false → ⊥
itself path top is off = both_ways _ off (subst (λ p. same_path p top ≡ true) (sym is) (same_path-self top))

inside_falls : (top path : Route) (left : Bool) (old new : Place) (names : List (List ℕ)) → old.inner.names ≡ names → path ≡ path_of (item_of names old.inner.path (worked_folder top old))
    → same_path path top ≡ false → IsDone Inside (item_of names old.inner.path (worked_folder top old)) left old new → rank new < rank old
inside_falls top path left old new (name ∷ names) has is off done =
    subst (λ (p : Place). rank p < rank old) (sym done) (pass_falls left old (subst (λ (ns : List (List ℕ)). 1 ≤ length ns) (sym has) (omega arith)))
inside_falls top path left old new [] has is off (inl leaves) = leave_falls left old new leaves
inside_falls top path left old new [] has is off (inr (none, same)) =
    absurd (itself path top (is ∙ ap (λ b. if b then top else old.inner.path) (ap is_empty none)) off)

place_falls : (top path : Route) (depth : Depth) (left : Bool) (old new : Place) → path ≡ path_of (item_at depth top old) → same_path path top ≡ false → IsDone depth (item_at depth top old) left old new
    → rank_at depth new < rank_at depth old
place_falls top path Top left old new is off done = absurd (itself path top is off)
place_falls top path Inside left old new is off done = inside_falls top path left old new old.inner.names refl is off done

some_weight : (left : ℕ) → 1 ≤ weight left
some_weight zero = omega arith
some_weight (suc left) = omega arith

pub some_rank : (depth : Depth) (place : Place) → 1 ≤ rank_at depth place
some_rank Top place = let s = some_weight (suc place.left) in omega (arith, s)
some_rank Inside place = omega arith

pub going_rank : (stage : Stage) (depth : Depth) (place : Place) → at_barrier stage ≡ false → rank_of stage depth place ≡ rank_at depth place
going_rank Begin depth place going = refl
going_rank Going depth place going = refl
going_rank Sync depth place going = absurd (true≢false going)

stage_rank : (b : Bool) (stage : Stage) (depth : Depth) (place : Place) (most : ℕ) → at_barrier stage ≡ false → 1 ≤ most → (b ≡ false → rank_at depth place < most)
    → rank_of (if b then Sync else stage) depth place < most
stage_rank true stage depth place most going some less = omega (arith, some)
stage_rank false stage depth place most going some less = subst (λ n. n < most) (sym (going_rank stage depth place going)) (less refl)

pub decided_falls : (old new : Deletion) (left : Bool) (path : Route) (stage : Stage) → at_barrier old.stage ≡ false → at_barrier stage ≡ false → path ≡ path_of (item old) → Decides old left path stage new
    → things_left new < things_left old
decided_falls old new left path stage was going is d =
    subst (λ n. things_left new < n) (sym (going_rank old.stage old.depth old.walk.place was))
    (subst (λ s. rank_of s new.depth new.walk.place < rank_at old.depth old.walk.place) (sym d.stage_is)
    (subst (λ x. rank_of (after_item old.path path stage) x new.walk.place < rank_at old.depth old.walk.place) (sym d.depth_is)
    (stage_rank (same_path path old.path) stage old.depth new.walk.place (rank_at old.depth old.walk.place) going (some_rank old.depth old.walk.place)
    (λ off. place_falls old.path path old.depth left old.walk.place new.walk.place is off d.place))))
