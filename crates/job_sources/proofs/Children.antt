-- How many steps a source takes with all that may be copied or moved in its place: those of the children of a folder are counted in the folder's own.
use Rattle.std.proofs.Common.{◌≡◌, ℕ, zero, suc, ◌+◌, ◌-◌, ◌*◌, ◌^◌, ◌≤◌, Bool, true, false, List, [], ◌∷◌, ◌++◌, length, map, refl, sym, ap, subst, inl, Some, None, arith, mul-le-mul_right}
use Rattle.std.proofs.Math.Nat.{suc-mul}
use Rattle.std.proofs.lemmas.List.{length-append}
use Rattle.std.specs.Prelude.{if◌then◌else◌, is_some, ◌&&◌, not}
use Rattle.std.specs.Option.{option_map_or}
use Rattle.mc_text.specs.Routes.{Route, parent_of, same_path, spelled_route}
use Rattle.job_reports.specs.declared.job.Job.{Job}
use Rattle.job_reports.specs.declared.job.Job.TheVariants.{Copy, Delete, MakeFolder, MakeLink, Move, SetMode, RemoveEmptied}
use Rattle.job_reports.specs.declared.job.Pair.{Pair}
use Rattle.job_reports.specs.declared.report.Transfer.{Transfer}
use Rattle.job_reports.specs.declared.report.Transfer.TheVariants.{ByCopy, ByMove}
use Rattle.job_reports.specs.Jobs.{is_link_text}
use Rattle.session_entries.specs.SourcesLeft.{child_in, children_in}
use Rattle.copy_job.specs.Standing.{begun_subtree_copy}
use Rattle.copy_tree.specs.Taking.{AreShort}
use Rattle.copy_move.specs.declared.work.Work.{Work}
use Rattle.copy_move.specs.Jobs.{copies, deletes, first_work, makes, moves, removes_emptied, sets}
use Rattle.make_job.specs.declared.new_thing.NewThing.TheVariants as thing
use Rattle.job_sources.specs.Turning.{below_steps, children_left, is_over, merged_steps, moving_steps, removal_steps, room_below, source_rank, sources_rank, steps_of, tree_steps, within_steps}

-- a thing's own steps, and those of what is copied in its place
merged_parts : (own room : ℕ) → merged_steps own room ≡ own + below_steps own room
merged_parts own zero = omega arith
merged_parts own (suc room) = refl

own_within : (own room : ℕ) → own ≤ merged_steps own room
own_within own room = let parts = merged_parts own room in omega (arith, parts)

-- a path has at least as many bytes as names
spelled_long : (path : Route) → length path ≤ length (spelled_route path)
spelled_long [] = omega arith
spelled_long (name ∷ folder) = let here = spelled_long folder in let all = length-append (spelled_route folder) (47 ∷ name) in omega (arith, here, all)

pub sources_apart : (id : ℕ) (first second : List Job) → sources_rank id (first ++ second) ≡ sources_rank id first + sources_rank id second
sources_apart id [] second = omega arith
sources_apart id (source ∷ first) second = let rest = sources_apart id first second in omega (arith, rest)

-- how many steps a source takes itself that is copied or moved
abbrev own_steps : Transfer → ℕ
own_steps ByCopy = tree_steps
own_steps ByMove = moving_steps

-- each child has a name less below it
child_is : (id : ℕ) (transfer : Transfer) (pair : Pair) (name : List ℕ) → source_rank id (child_in transfer pair name) ≡ merged_steps (own_steps transfer) (4097 - suc (length pair.source))
child_is id ByCopy pair name = refl
child_is id ByMove pair name = refl

children_are : (id room : ℕ) (transfer : Transfer) (pair : Pair) (names : List (List ℕ)) → 4097 - suc (length pair.source) ≡ room
    → sources_rank id (map (child_in transfer pair) names) ≡ length names * merged_steps (own_steps transfer) room
children_are id room transfer pair [] same = omega arith
children_are id room transfer pair (name ∷ names) same =
    let rest = children_are id room transfer pair names same in
    let first = child_is id transfer pair name in
    let one : merged_steps (own_steps transfer) (4097 - suc (length pair.source)) ≡ merged_steps (own_steps transfer) room = ap (merged_steps (own_steps transfer)) same in
    let all : suc (length names) * merged_steps (own_steps transfer) room ≡ length names * merged_steps (own_steps transfer) room + merged_steps (own_steps transfer) room = suc-mul (length names) (merged_steps (own_steps transfer) room) in
    omega (arith, rest, first, one, all)

things_within : (id : ℕ) (transfer : Transfer) (pair : Pair) (names : List (List ℕ)) → AreShort pair names → length names ≤ 2 ^ 64
    → sources_rank id (map (child_in transfer pair) names) ≤ below_steps (own_steps transfer) (room_below pair.source)
things_within id transfer pair [] short few = omega arith
things_within id transfer pair (name ∷ names) short few =
    let long = spelled_long (name ∷ pair.source) in
    let fits = (short name (inl refl)).0 in
    let room : 4097 - length pair.source ≡ suc (4097 - suc (length pair.source)) = omega (arith, long, fits) in
    let all = children_are id (4097 - suc (length pair.source)) transfer pair (name ∷ names) refl in
    let most = mul-le-mul_right (merged_steps (own_steps transfer) (4097 - suc (length pair.source))) few in
    subst (λ r. sources_rank id (map (child_in transfer pair) (name ∷ names)) ≤ below_steps (own_steps transfer) r) (sym room) (omega (arith, all, most))

-- the removal of a folder that a merge has emptied
removal_within : (id : ℕ) (path : Route) → source_rank id (RemoveEmptied path) ≤ removal_steps
removal_within id [] = omega arith
removal_within id (name ∷ folder) = omega arith

pub children_within : (id : ℕ) (transfer : Transfer) (pair : Pair) (names : List (List ℕ)) → AreShort pair names → length names ≤ 2 ^ 64 → sources_rank id (children_in transfer pair names) ≤ within_steps transfer pair
children_within id ByCopy pair names short few = things_within id ByCopy pair names short few
children_within id ByMove pair names short few =
    let apart = sources_apart id (map (child_in ByMove pair) names) (RemoveEmptied pair.source ∷ []) in
    let things = things_within id ByMove pair names short few in
    let last = removal_within id pair.source in
    omega (arith, apart, things, last)

-- how many steps a job takes with a source that it takes up, and one more
abbrev pub start_cost : Work → ℕ
start_cost work = steps_of work + children_left work

unless_over : (b : Bool) (n : ℕ) → (if b then 0 else n) ≤ n
unless_over true n = omega arith
unless_over false n = omega arith

if_workable : (b : Bool) (w : Work) (most : ℕ) → start_cost w ≤ most → 1 ≤ most → option_map_or start_cost (if b then Some w else None) 1 ≤ most
if_workable true w most cost one = cost
if_workable false w most cost one = one

if_alone : (b : Bool) (w : Work) → children_left w ≡ 0 → option_map_or start_cost (if b then Some w else None) 1 ≤ option_map_or steps_of (if b then Some w else None) 1
if_alone true w none = omega (arith, none)
if_alone false w none = omega arith

some_steps : (own room : ℕ) → 1 ≤ own → 1 ≤ merged_steps own room
some_steps own room some = let parts = merged_parts own room in omega (arith, parts, some)

some_copied : (room : ℕ) → 1 ≤ merged_steps tree_steps room
some_copied room = some_steps tree_steps room (omega arith)

some_moved : (room : ℕ) → 1 ≤ merged_steps moving_steps room
some_moved room = some_steps moving_steps room (omega arith)

tree_cost : (id : ℕ) (pair : Pair) → start_cost (copies id pair) ≤ merged_steps tree_steps (room_below pair.source)
tree_cost id pair =
    let parts = merged_parts tree_steps (room_below pair.source) in
    let none : children_left (copies id pair) ≤ below_steps tree_steps (room_below pair.source) = unless_over (is_over (let c = begun_subtree_copy id pair in c.at)) (below_steps tree_steps (room_below pair.source)) in
    let own : steps_of (copies id pair) ≡ tree_steps = refl in
    omega (arith, parts, none, own)

moving_cost : (pair : Pair) → start_cost (moves pair) ≤ merged_steps moving_steps (room_below pair.source)
moving_cost pair =
    let parts = merged_parts moving_steps (room_below pair.source) in
    let own : steps_of (moves pair) + removal_steps ≡ moving_steps = refl in
    omega (arith, parts, own)

pub cost_within : (id : ℕ) (source : Job) → option_map_or start_cost (first_work id source) 1 ≤ source_rank id source
cost_within id (Copy []) = omega arith
cost_within id (Copy (pair ∷ [])) = if_workable (is_some (parent_of pair.source) && is_some (parent_of pair.target)) (copies id pair) _ (tree_cost id pair) (some_copied (room_below pair.source))
cost_within id (Copy (pair ∷ more ∷ pairs)) = some_copied (room_below pair.source)
cost_within id (Move []) = omega arith
cost_within id (Move (pair ∷ [])) =
    if_workable ((is_some (parent_of pair.source) && is_some (parent_of pair.target)) && not (same_path pair.source pair.target)) (moves pair) _ (moving_cost pair) (some_moved (room_below pair.source))
cost_within id (Move (pair ∷ more ∷ pairs)) = some_moved (room_below pair.source)
cost_within id (Delete []) = omega arith
cost_within id (Delete (path ∷ [])) = if_alone (is_some (parent_of path)) (deletes path) refl
cost_within id (Delete (path ∷ more ∷ paths)) = omega arith
cost_within id (MakeFolder path) = if_alone (is_some (parent_of path)) (makes thing.Folder path) refl
cost_within id (MakeLink path text) = if_alone (is_some (parent_of path) && is_link_text text) (makes (thing.Link text) path) refl
cost_within id (SetMode [] mode) = omega arith
cost_within id (SetMode (path ∷ []) mode) = if_alone _ (sets path mode) refl
cost_within id (SetMode (path ∷ more ∷ paths) mode) = omega arith
cost_within id (RemoveEmptied path) = if_alone (is_some (parent_of path)) (removes_emptied path) refl
