-- Parts that other jobs named stay parts: no fewer are named than where no other job named one.
use Rattle.std.proofs.Common.{◌≡◌, ℕ, Bool, true, false, not, ◌||◌, ◌&&◌, List, [], ◌∷◌, ◌++◌, ap, subst, inl, inr}
use Rattle.std.specs.Prelude.{◌==◌, if◌then◌else◌}
use Rattle.std.proofs.lemmas.Bool.{and_from, or_left, or_right}
use Rattle.mc_text.specs.Routes.{Route, is_prefix, same_path}
use Rattle.tree_trait.specs.CrashImages.{Among}
use Rattle.tree_trait.proofs.Visible.{same_path-self}
use Rattle.job_reports.specs.declared.report.Did.{Did}
use Rattle.job_reports.specs.declared.report.Did.TheVariants.{Began, Chunk, Placed, Removed, Made, Set, Kept, Skipped, Cleaned, Barrier, Asked, Merges, Moved, Troubled, Ended}
use Rattle.session_entries.specs.declared.history.Event.{Event}
use Rattle.session_entries.specs.declared.history.Event.TheVariants.{Key, Look, Sought, Order, Step, Next, Closed}
use Rattle.session_entries.specs.declared.history.Event.TheVariants as event
use Rattle.session_entries.specs.Moves.{paths_below, paths_moved}
use Rattle.session_entries.specs.Named.{NamedPart, if_among, is_part_of_other, left_parts, live_parts, named_after, named_by, named_parts, still_parts}
use Rattle.laws_sessions.specs.LiveParts.{LivePartsLaw, is_step_of}
use Rattle.laws_sessions.proofs.AmongParts.{if_among_more}
use Rattle.laws_sessions.proofs.MovedPaths.{among_both, among_first, among_passed, among_second, passes_among}
use Rattle.laws_sessions.proofs.Stepped.{no_other}

-- where others named parts as well, each is still a part that would be without
still_more : (is_other came : Route → Bool) (before : List Route) (q : Route) → Among (still_parts no_other came before) q → Among (still_parts is_other came before) q
still_more is_other came before q among =
    let kept = among_passed (λ p. no_other p || not (came p)) q before among in
    passes_among (λ p. is_other p || not (came p)) q before (or_right (is_other q) (not (came q)) kept.0) kept.1

-- what another job named is one, too
still_other : (is_other came : Route → Bool) (before : List Route) (q : Route) → is_other q ≡ true → Among before q → Among (still_parts is_other came before) q
still_other is_other came before q other among = passes_among (λ p. is_other p || not (came p)) q before (or_left (is_other q) (not (came q)) other) among

if_among_both : (path q : Route) (some others more : List Route) → (Among others q → Among more q) → Among (if_among path some others) q → Among (if_among path some more) q
if_among_both path q [] others more wider among = wider among
if_among_both path q (first ∷ rest) others more wider among = by (same_path path first) (if_among_both path q rest others more wider) among
  where
    by : (b : Bool) → (Among (if_among path rest others) q → Among (if_among path rest more) q) → Among (if◌then◌else◌ b (path ∷ others) (if_among path rest others)) q → Among (if◌then◌else◌ b (path ∷ more) (if_among path rest more)) q
    by true down (inl same) = inl same
    by true down (inr rest_of) = inr (wider rest_of)
    by false down rest_of = down rest_of

module _ (is_other : Route → Bool) (left before : List Route) (q : Route) where
  moved_more : (some : List Route) (came : Route → Bool) → Among (some ++ still_parts no_other came before) q → Among (some ++ still_parts is_other came before) q
  moved_more some came among = elim (among_both some (still_parts no_other came before) q among) [
    | inl first ↦ among_first some (still_parts is_other came before) q first
    | inr still ↦ among_second some (still_parts is_other came before) q (still_more is_other came before q still)
  ]

  more_by : (did : Did) → Among (named_by did no_other left before) q → Among (named_by did is_other left before) q
  more_by (Placed path) among =
      if_among_both path q left (still_parts no_other (λ part. same_path part path) before) (still_parts is_other (λ part. same_path part path) before) (still_more is_other (λ part. same_path part path) before q) among
  more_by (Made path) among = still_more is_other (λ part. same_path part path) before q among
  more_by (Moved pair) among = moved_more (paths_moved pair left ++ paths_below pair.target left) (is_prefix pair.target) among
  more_by did among = among

pub named_more : (did : Did) (is_other : Route → Bool) (left before : List Route) (q : Route) → Among (named_by did no_other left before) q → Among (named_by did is_other left before) q
named_more did is_other left before q among = more_by is_other left before q did among

-- a part that a job named is one that another one than any other named
named_other : (id : ℕ) (parts : List NamedPart) (part : NamedPart) → Among parts part → (part.id == id) ≡ false → is_part_of_other id parts part.path ≡ true
named_other id [] part among apart = absurd among
named_other id (first ∷ rest) part (inl same) apart =
    or_left (not (first.id == id) && same_path part.path first.path) (is_part_of_other id rest part.path)
    (subst (λ (p : NamedPart). (not (p.id == id) && same_path part.path p.path) ≡ true) same (and_from (not (part.id == id)) (same_path part.path part.path) (ap not apart) (same_path-self part.path)))
named_other id (first ∷ rest) part (inr among) apart =
    or_right (not (first.id == id) && same_path part.path first.path) (is_part_of_other id rest part.path) (named_other id rest part among apart)

-- so it stays a part, whatever comes to its path
module _ (is_other : Route → Bool) (left before : List Route) (q : Route) (other : is_other q ≡ true) (among : Among before q) where
  stays_named : (did : Did) → Among (named_by did is_other left before) q
  stays_named (Began part) = inr among
  stays_named (Placed path) = if_among_more path q left (still_parts is_other (λ part. same_path part path) before) (still_other is_other (λ part. same_path part path) before q other among)
  stays_named (Made path) = still_other is_other (λ part. same_path part path) before q other among
  stays_named (Moved pair) = among_second (paths_moved pair left ++ paths_below pair.target left) (still_parts is_other (is_prefix pair.target) before) q (still_other is_other (is_prefix pair.target) before q other among)
  stays_named did = among

pub live_parts_law : LivePartsLaw
live_parts_law e older part live apart named = by e.what apart
  where
    by : (what : Event) → is_step_of part.id what ≡ false → Among (named_after what (live_parts older) (left_parts older) (named_parts older)) part.path
    by (Step id did) apart_step =
        stays_named (is_part_of_other id (live_parts older)) (left_parts older) (named_parts older) part.path (named_other id (live_parts older) part live apart_step) named did
    by (event.Began id plan background) apart_step = named
    by (Next id plan) apart_step = named
    by (Order id order) apart_step = named
    by (Key key time refusals lost) apart_step = named
    by (Look refusals) apart_step = named
    by Sought apart_step = named
    by Closed apart_step = named
