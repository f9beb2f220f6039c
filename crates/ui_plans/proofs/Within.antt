-- Things in folders, and jobs on them that can be worked.
use Rattle.std.proofs.Common.{◌≡◌, ◌⊎◌, inl, inr, ℕ, ◌<◌, ◌≤◌, Bool, true, false, cond, ◌&&◌, ◌||◌, List, [], ◌∷◌, length, map, get_or, refl, sym, ◌∙◌, ap, subst, Option, Some, None, arith}
use Rattle.std.specs.Prelude.{filter, nat_le, nat_lt, not}
use Rattle.std.specs.List.{list_all, list_any}
use Rattle.std.proofs.lemmas.List.Folds.{list_all-map, list_any_at}
use Rattle.mc_text.specs.Routes.{Route, is_prefix, same_path, spelled_route}
use Rattle.tagging.specs.declared.glob.GlobPart.{GlobPart}
use Rattle.op_plan.specs.declared.mask.MaskPiece.{MaskPiece}
use Rattle.op_plan.specs.declared.mask.MaskPiece.TheVariants.{Star}
use Rattle.op_plan.specs.Asking.{ArePairsFor, ArePlaced}
use Rattle.op_plan.specs.Checks.{sources_in, targets_from}
use Rattle.op_plan.specs.Meeting.{meet}
use Rattle.op_plan.specs.Naming.{chosen_sources, has_match}
use Rattle.op_plan.specs.Soundness.{ArePairsApart}
use Rattle.job_reports.specs.declared.job.Job.{Job}
use Rattle.job_reports.specs.declared.job.Job.TheVariants as plan
use Rattle.job_reports.specs.declared.job.Pair.{Pair}
use Rattle.job_reports.specs.Jobs.{is_workable}
use Rattle.session_entries.specs.Sources.{are_workable}
use Rattle.ui_words.specs.Chosen.{can_be_chosen, is_within}
use Rattle.ui_words.specs.declared.carry.Carry.{Carry}
use Rattle.ui_words.specs.declared.carry.Carry.TheVariants as carry
use Rattle.ui_plans.specs.Choices.{are_several, is_too_long, paths_in}
use Rattle.ui_plans.specs.Plans.{can_be_carried, can_go, carry_plan, delete_plan, lie_within, mode_plan}
use Rattle.ui_plans.proofs.Firsts.{Each}

both : (a b : Bool) → a ≡ true → b ≡ true → (a && b) ≡ true
both true b p q = q
both false b p q = p

parts : (a b : Bool) → (a && b) ≡ true → (a ≡ true) × (b ≡ true)
parts true b h = (refl, h)
parts false b h = absurd cc

all_pass : {X : Type 0} (test : X → Bool) (xs : List X) → list_all test xs ≡ true → Each (λ x. test x ≡ true) xs
all_pass test [] h = tt
all_pass test (x ∷ xs) h = let at = parts (test x) (list_all test xs) h in (at.0, all_pass test xs at.1)

pass_all : {X : Type 0} (test : X → Bool) (xs : List X) → Each (λ x. test x ≡ true) xs → list_all test xs ≡ true
pass_all test [] h = refl
pass_all test (x ∷ xs) h = both (test x) (list_all test xs) h.0 (pass_all test xs h.1)

-- THINGS THAT WERE CHOSEN

pub one_within : (path : Route) (name : List ℕ) (folder : Route) → path ≡ name ∷ folder → can_be_chosen (path ∷ []) ≡ true
one_within path name folder is = ap (λ (p : Route). can_be_chosen (p ∷ [])) is

in_folder : (folder : Route) (names : List (List ℕ)) → list_all is_within (paths_in folder names) ≡ true
in_folder folder [] = refl
in_folder folder (name ∷ names) = in_folder folder names

pub several_within : (folder : Route) (names : List (List ℕ)) (paths : List Route) → paths ≡ paths_in folder names → are_several names ≡ true
    → can_be_chosen paths ≡ true
several_within folder [] paths is several = absurd cc
several_within folder (name ∷ []) paths is several = absurd cc
several_within folder (name ∷ other ∷ more) paths is several = ap can_be_chosen is ∙ in_folder folder (name ∷ other ∷ more)

-- a path in a folder is too long where its name is
pub any_in_folder : (folder : Route) (names : List (List ℕ)) → list_any is_too_long (paths_in folder names) ≡ list_any (λ name. is_too_long (name ∷ folder)) names
any_in_folder folder [] = refl
any_in_folder folder (name ∷ names) = ap (λ (rest : Bool). is_too_long (name ∷ folder) || rest) (any_in_folder folder names)

lt_true : (n m : ℕ) → n < m → nat_lt n m ≡ true
lt_true n m h = grind arith

pub long_at : (folder : Route) (names : List (List ℕ)) (at : ℕ) (name : List ℕ) → at < length names → name ≡ get_or names at name
    → 4096 < length (spelled_route (name ∷ folder)) → list_any (λ name. is_too_long (name ∷ folder)) names ≡ true
long_at folder names at name within is long =
    list_any_at (λ name. is_too_long (name ∷ folder)) names at name within
    (subst (λ (n : List ℕ). is_too_long (n ∷ folder) ≡ true) is (lt_true _ _ long))

each_within : (paths : List Route) → can_be_chosen paths ≡ true → Each (λ path. is_within path ≡ true) paths
each_within [] h = absurd cc
each_within (path ∷ paths) h = all_pass is_within (path ∷ paths) h

-- they can be deleted, and given a mode
pub deletion_works : (paths : List Route) → can_be_chosen paths ≡ true → are_workable (delete_plan paths) ≡ true
deletion_works [] h = absurd cc
deletion_works (path ∷ paths) h = list_all-map is_workable (λ (path : Route). plan.Delete (path ∷ [])) (path ∷ paths) ∙ h

sets : (mode : ℕ) (paths : List Route) → nat_le mode 0o7777 ≡ true → Each (λ path. is_within path ≡ true) paths
    → list_all is_workable (map (λ path. plan.SetMode (path ∷ []) mode) paths) ≡ true
sets mode [] few h = refl
sets mode (path ∷ paths) few h =
    both (is_within path && nat_le mode 0o7777) (list_all is_workable (map (λ path. plan.SetMode (path ∷ []) mode) paths))
    (both (is_within path) (nat_le mode 0o7777) h.0 few) (sets mode paths few h.1)

le_true : (n m : ℕ) → n ≤ m → nat_le n m ≡ true
le_true n m h = grind arith

pub setting_works : (paths : List Route) (mode : ℕ) → mode < 4096 → can_be_chosen paths ≡ true → are_workable (mode_plan paths mode) ≡ true
setting_works [] mode few h = absurd cc
setting_works (path ∷ paths) mode few h = sets mode (path ∷ paths) (le_true mode 0o7777 (omega (arith, few))) (each_within (path ∷ paths) h)

-- THINGS THAT ARE COPIED OR MOVED

each_kept : {X : Type 0} (P : X → Type 0) (test : X → Bool) (xs : List X) → Each P xs → Each P (filter test xs)
each_kept P test [] h = tt
each_kept {X} P test (x ∷ xs) h = by_test (test x) (each_kept P test xs h.1)
  where
    by_test : (b : Bool) → Each P (filter test xs) → Each P (let kept : List X = cond b (x ∷ filter test xs) (filter test xs) in kept)
    by_test true rest = (h.0, rest)
    by_test false rest = rest

left_within : (pattern : Option (List GlobPart)) (paths : List Route) → can_be_chosen paths ≡ true → Each (λ path. is_within path ≡ true) (chosen_sources pattern paths)
left_within None paths h = each_within paths h
left_within (Some pattern) paths h = each_kept (λ path. is_within path ≡ true) (has_match pattern) paths (each_within paths h)

placed_within : (pattern : Option (List GlobPart)) (mask : List MaskPiece) (pairs : List Pair) → ArePlaced pattern mask pairs
    → Each (λ path. is_within path ≡ true) (targets_from pairs)
placed_within pattern mask pairs at =
    subst (λ (l : List Route). Each (λ path. is_within path ≡ true) l) (sym at.targets) (all_pass is_within (paths_in at.folder at.names) (in_folder at.folder at.names))

pairs_within : (pairs : List Pair) → Each (λ path. is_within path ≡ true) (sources_in pairs) → Each (λ path. is_within path ≡ true) (targets_from pairs)
    → Each (λ pair. lie_within pair ≡ true) pairs
pairs_within [] from to = tt
pairs_within (pair ∷ pairs) from to = (both (is_within pair.source) (is_within pair.target) from.0 to.0, pairs_within pairs from.1 to.1)

targets_within : (pattern : Option (List GlobPart)) (mask : List MaskPiece) (pairs : List Pair)
    → ArePlaced pattern mask pairs ⊎ ArePlaced pattern (Star ∷ []) pairs → Each (λ path. is_within path ≡ true) (targets_from pairs)
targets_within pattern mask pairs (inl at) = placed_within pattern mask pairs at
targets_within pattern mask pairs (inr at) = placed_within pattern (Star ∷ []) pairs at

neither_of : (a b : Bool) → a ≡ false → b ≡ false → (a || b) ≡ false
neither_of true b p q = absurd cc
neither_of false b p q = q

none_of : (a b : Bool) → (a || b) ≡ false → (a ≡ false) × (b ≡ false)
none_of true b h = absurd cc
none_of false b h = (refl, h)

-- a path that doesn't begin with another isn't that one
other_path : (prefix path : Route) → is_prefix prefix path ≡ false → same_path prefix path ≡ false
other_path prefix [] h = h
other_path prefix (name ∷ folder) h = (none_of (same_path prefix (name ∷ folder)) (is_prefix prefix folder) h).0

-- where no source meets a target, none is its own
fewer : (sources : List Route) (target : Route) (targets : List Route)
    → list_any (λ source. list_any (meet source) (target ∷ targets)) sources ≡ false → list_any (λ source. list_any (meet source) targets) sources ≡ false
fewer [] target targets h = refl
fewer (source ∷ sources) target targets h =
    let at = none_of (list_any (meet source) (target ∷ targets)) (list_any (λ source. list_any (meet source) (target ∷ targets)) sources) h in
    neither_of (list_any (meet source) targets) (list_any (λ source. list_any (meet source) targets) sources)
    (none_of (meet source target) (list_any (meet source) targets) at.0).1 (fewer sources target targets at.1)

apart_each : (pairs : List Pair) → list_any (λ source. list_any (meet source) (targets_from pairs)) (sources_in pairs) ≡ false
    → Each (λ (pair : Pair). same_path pair.source pair.target ≡ false) pairs
apart_each [] h = tt
apart_each (pair ∷ pairs) h =
    let at = none_of (list_any (meet pair.source) (targets_from (pair ∷ pairs)))
    (list_any (λ source. list_any (meet source) (targets_from (pair ∷ pairs))) (sources_in pairs)) h in
    let first = none_of (meet pair.source pair.target) (list_any (meet pair.source) (targets_from pairs)) at.0 in
    let prefix = none_of (is_prefix pair.source pair.target) (is_prefix pair.target pair.source) first.0 in
    (other_path pair.source pair.target prefix.0, apart_each pairs (fewer (sources_in pairs) pair.target (targets_from pairs) at.1))

goes : (how : Carry) (pair : Pair) → lie_within pair ≡ true → same_path pair.source pair.target ≡ false → can_go how pair ≡ true
goes carry.Copy pair within apart = within
goes carry.Move pair within apart = both (lie_within pair) (not (same_path pair.source pair.target)) within (ap not apart)

all_go : (how : Carry) (pairs : List Pair) → Each (λ pair. lie_within pair ≡ true) pairs
    → Each (λ (pair : Pair). same_path pair.source pair.target ≡ false) pairs → Each (λ pair. can_go how pair ≡ true) pairs
all_go how [] within apart = tt
all_go how (pair ∷ pairs) within apart = (goes how pair within.0 apart.0, all_go how pairs within.1 apart.1)

some_carried : (how : Carry) (pairs : List Pair) → (pairs ≡ [] → ⊥) → Each (λ pair. can_go how pair ≡ true) pairs → can_be_carried how pairs ≡ true
some_carried how [] some h = absurd (some refl)
some_carried how (pair ∷ pairs) some h = pass_all (can_go how) (pair ∷ pairs) h

-- what was asked for has sources and targets in folders, and none of it is moved to where it is
pub carried_within : (how : Carry) (paths : List Route) (mask typed : List ℕ) (pairs : List Pair) → can_be_chosen paths ≡ true
    → ArePairsFor paths mask typed pairs → ArePairsApart pairs → can_be_carried how pairs ≡ true
carried_within how paths mask typed pairs within asked sound =
    some_carried how pairs sound.some (all_go how pairs
    (pairs_within pairs
    (subst (λ (l : List Route). Each (λ path. is_within path ≡ true) l) (sym asked.sources_are) (left_within _ paths within))
    (targets_within _ _ pairs asked.targets_are))
    (apart_each pairs sound.across))

copies_work : (pairs : List Pair) → Each (λ pair. can_go carry.Copy pair ≡ true) pairs
    → list_all is_workable (map (λ (pair : Pair). plan.Copy (pair ∷ [])) pairs) ≡ true
copies_work [] h = refl
copies_work (pair ∷ pairs) h =
    both (can_go carry.Copy pair) (list_all is_workable (map (λ (pair : Pair). plan.Copy (pair ∷ [])) pairs)) h.0 (copies_work pairs h.1)

moves_work : (pairs : List Pair) → Each (λ pair. can_go carry.Move pair ≡ true) pairs
    → list_all is_workable (map (λ (pair : Pair). plan.Move (pair ∷ [])) pairs) ≡ true
moves_work [] h = refl
moves_work (pair ∷ pairs) h =
    both (can_go carry.Move pair) (list_all is_workable (map (λ (pair : Pair). plan.Move (pair ∷ [])) pairs)) h.0 (moves_work pairs h.1)

some_work : (how : Carry) (pair : Pair) (pairs : List Pair) → Each (λ pair. can_go how pair ≡ true) (pair ∷ pairs)
    → are_workable (carry_plan how (pair ∷ pairs)) ≡ true
some_work carry.Copy pair pairs h = copies_work (pair ∷ pairs) h
some_work carry.Move pair pairs h = moves_work (pair ∷ pairs) h

-- and can be worked
pub carry_works : (how : Carry) (pairs : List Pair) → can_be_carried how pairs ≡ true → are_workable (carry_plan how pairs) ≡ true
carry_works how [] within = absurd cc
carry_works how (pair ∷ pairs) within = some_work how pair pairs (all_pass (can_go how) (pair ∷ pairs) within)
