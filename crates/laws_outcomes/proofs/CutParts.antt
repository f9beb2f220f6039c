-- Which paths an entry makes parts of: none that it doesn't name, and of those that it changes only one to which a part is moved.
use Rattle.std.proofs.Common.{◌≡◌, ◌⊎◌, ◌||◌, Bool, true, false, List, [], ◌∷◌, ◌++◌, refl, sym, subst, inl, inr, Option, Some, None}
use Rattle.std.specs.Prelude.{not, if◌then◌else◌}
use Rattle.std.proofs.lemmas.Bool.{both_ways}
use Rattle.mc_text.specs.Routes.{Route, is_prefix, same_path}
use Rattle.tree_trait.specs.CrashImages.{Among}
use Rattle.tree_trait.proofs.Visible.{same_path-self, same_path-true}
use Rattle.job_reports.specs.declared.job.Pair.{Pair}
use Rattle.job_reports.specs.declared.report.Did.{Did}
use Rattle.job_reports.specs.declared.report.Did.TheVariants.{Began, Chunk, Placed, Removed, Made, Set, Kept, Skipped, Cleaned, Barrier, Asked, Merges, Moved, Troubled, Ended}
use Rattle.session_entries.specs.declared.history.Event.{Event}
use Rattle.session_entries.specs.declared.history.Event.TheVariants.{Key, Look, Sought, Order, Step, Next, Closed}
use Rattle.session_entries.specs.declared.history.Event.TheVariants as event
use Rattle.session_entries.specs.Moves.{paths_below, paths_moved, paths_off}
use Rattle.session_entries.specs.Named.{NamedPart, if_among, is_part_of_other, left_after, left_by, named_after, named_by, names, names_path, still_parts}
use Rattle.laws_sessions.proofs.MovedPaths.{among_both, among_passed, moved_part_below, off_both}
use Rattle.laws_sessions.proofs.Owing.{in_filter}
use Rattle.laws_sessions.proofs.Unnamed.{named_step}
use Rattle.laws_sessions.proofs.ChangedPaths.{IsChanged}

-- an entry that doesn't name a path makes it no part
pub named_event : (what : Event) (live : List NamedPart) (left parts : List Route) (path : Route) → names_path what path ≡ false → Among (named_after what live left parts) path → Among parts path
named_event (Step id did) live left parts path unnamed among = named_step did (is_part_of_other id live) left parts path unnamed among
named_event (event.Began id plan background) live left parts path unnamed among = among
named_event (Order id order) live left parts path unnamed among = among
named_event (Next id plan) live left parts path unnamed among = among
named_event (Key key time refusals lost) live left parts path unnamed among = among
named_event (Look refusals) live left parts path unnamed among = among
named_event Sought live left parts path unnamed among = among
named_event Closed live left parts path unnamed among = among

left_step : (did : Did) (left : List Route) (path : Route) → names did path ≡ false → Among (left_by did left) path → Among left path
left_step (Ended ending (Some part)) left path unnamed (inl same) = absurd (both_ways _ unnamed (subst (λ q. same_path path q ≡ true) same (same_path-self path)))
left_step (Ended ending (Some part)) left path unnamed (inr among) = among
left_step (Ended ending None) left path unnamed among = among
left_step (Removed gone) left path unnamed among = in_filter (λ kept. not (same_path kept gone)) path left among
left_step (Moved pair) left path unnamed among = elim (among_both (paths_moved pair left) (paths_off pair.source left) path among) [
  | inl moved ↦ absurd (both_ways _ (off_both pair path unnamed).1 (moved_part_below pair left path moved))
  | inr off ↦ (among_passed (λ p. not (is_prefix pair.source p)) path left off).1
]
left_step did left path unnamed among = among

pub left_event : (what : Event) (left : List Route) (path : Route) → names_path what path ≡ false → Among (left_after what left) path → Among left path
left_event (Step id did) left path unnamed among = left_step did left path unnamed among
left_event (event.Began id plan background) left path unnamed among = among
left_event (Order id order) left path unnamed among = among
left_event (Next id plan) left path unnamed among = among
left_event (Key key time refusals lost) left path unnamed among = among
left_event (Look refusals) left path unnamed among = among
left_event Sought left path unnamed among = among
left_event Closed left path unnamed among = among

-- what is changed, and was no part, is none then, unless a part is moved to it
placed_part : (path : Route) (some others : List Route) → Among (if_among path some others) path → Among some path ⊎ Among others path
placed_part path [] others among = inr among
placed_part path (first ∷ rest) others among = by (same_path path first) refl among (placed_part path rest others)
  where
    by : (b : Bool) → same_path path first ≡ b → Among (if◌then◌else◌ b (path ∷ others) (if_among path rest others)) path → (Among (if_among path rest others) path → Among rest path ⊎ Among others path) → Among (first ∷ rest) path ⊎ Among others path
    by true same is rest_of = inl (inl (same_path-true path first same))
    by false other is rest_of = elim (rest_of is) [ inl here ↦ inl (inr here) | inr there ↦ inr there ]

-- a path that is still a part was one
still_was : (is_other came : Route → Bool) (parts : List Route) (path : Route) → Among (still_parts is_other came parts) path → Among parts path
still_was is_other came parts path among = (among_passed (λ p. is_other p || not (came p)) path parts among).1

pub apart_then : (did : Did) (path : Route) (is_other : Route → Bool) (left parts : List Route) → IsChanged did path → ((pair : Pair) → did ≡ Moved pair → Among (paths_moved pair left) path → ⊥) → (Among parts path ⊎ Among left path → ⊥)
    → Among (named_by did is_other left parts) path ⊎ Among (left_by did left) path → ⊥
apart_then (Placed p) path is_other left parts (inl same) carries none (inl named) = elim (placed_part path left (still_parts is_other (λ part. same_path part path) parts) (subst (λ q. Among (if_among q left (still_parts is_other (λ part. same_path part q) parts)) path) (sym same) named)) [
  | inl here ↦ none (inr here)
  | inr there ↦ none (inl (still_was is_other (λ part. same_path part path) parts path there))
]
apart_then (Placed p) path is_other left parts changed carries none (inr among) = none (inr among)
apart_then (Made p) path is_other left parts (inl same) carries none (inl named) = none (inl (still_was is_other (λ part. same_path part p) parts path named))
apart_then (Made p) path is_other left parts changed carries none (inr among) = none (inr among)
apart_then (Removed p) path is_other left parts changed carries none (inl named) = none (inl named)
apart_then (Removed p) path is_other left parts changed carries none (inr among) = none (inr (in_filter (λ kept. not (same_path kept p)) path left among))
apart_then (Set p) path is_other left parts changed carries none (inl named) = none (inl named)
apart_then (Set p) path is_other left parts changed carries none (inr among) = none (inr among)
apart_then (Moved pair) path is_other left parts changed carries none (inl named) = elim (among_both (paths_moved pair left ++ paths_below pair.target left) (still_parts is_other (is_prefix pair.target) parts) path named) [
  | inl some ↦ elim (among_both (paths_moved pair left) (paths_below pair.target left) path some) [
    | inl moved ↦ carries pair refl moved
    | inr here ↦ none (inr (among_passed (is_prefix pair.target) path left here).1)
  ]
  | inr off ↦ none (inl (still_was is_other (is_prefix pair.target) parts path off))
]
apart_then (Moved pair) path is_other left parts changed carries none (inr among) = elim (among_both (paths_moved pair left) (paths_off pair.source left) path among) [
  | inl moved ↦ carries pair refl moved
  | inr off ↦ none (inr (among_passed (λ p. not (is_prefix pair.source p)) path left off).1)
]
apart_then (Placed p) path is_other left parts (inr absent) carries none named = absent
apart_then (Made p) path is_other left parts (inr absent) carries none named = absent
apart_then did path is_other left parts changed carries none named = absurd changed
