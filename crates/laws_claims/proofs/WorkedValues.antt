-- What jobs leave of a small tree, worked out by hand.
use Rattle.std.proofs.Common.{◌≡◌, ℕ, Bool, true, false, List, [], ◌∷◌, map, Option, Some, None, refl}
use Rattle.std.specs.Prelude.{codes, if◌then◌else◌}
use Rattle.mc_text.specs.Routes.{Route, same_path}
use Rattle.tree_trait.specs.FileSystem.{Value, Spot, View}
use Rattle.op_plan.specs.declared.job.Job.{Job}
use Rattle.op_plan.specs.declared.job.Job.TheVariants.{Copy, Move, Delete, MakeFolder, SetMode, MakeLink, Save}
use Rattle.op_plan.specs.Checks.{pair}
use Rattle.laws_claims.specs.Views.{nothing}
use Rattle.laws_claims.specs.Works.{Make, Place, Set, Remove, Work, Did, file, folder, link, after_works}
use Rattle.laws_claims.specs.Outcome.{decisions_of_works, outcome}
use Rattle.laws_claims.specs.Planned.{planned_decisions}
use Rattle.laws_claims.specs.Recursion.{Shape, End, Child}
use Rattle.laws_claims.specs.Items.{all_items, Shows}

-- `/a` with the folder `d`, in which `y` lies, the link `l` and the file `x`
abbrev a : Route
a = codes "a" ∷ []

abbrev a_d : Route
a_d = codes "d" ∷ a

abbrev a_d_y : Route
a_d_y = codes "y" ∷ a_d

abbrev a_l : Route
a_l = codes "l" ∷ a

abbrev a_x : Route
a_x = codes "x" ∷ a

-- `/t`, in which nothing lies; `/u/a` with another file `x`; and `/m`, on which a mount begins
abbrev t : Route
t = codes "t" ∷ []

abbrev u_a : Route
u_a = codes "a" ∷ codes "u" ∷ []

abbrev m : Route
m = codes "m" ∷ []

abbrev stands : Value → Spot
stands x = record { value = Some x; is_mount = false }

abbrev shown_by : List (Route × Spot) → View
shown_by [] p = nothing
shown_by ((path, spot) ∷ lines) p = if same_path p path then spot else shown_by lines p

abbrev tree : View
tree = shown_by
    (([], stands (folder 0o755)) ∷ (a, stands (folder 0o700)) ∷ (a_d, stands (folder 0o500)) ∷ (a_d_y, stands (file (codes "2") 0o600))
    ∷ (a_l, stands (link (codes "x"))) ∷ (a_x, stands (file (codes "1") 0o644)) ∷ (t, stands (folder 0o755)) ∷ (codes "u" ∷ [], stands (folder 0o755))
    ∷ (u_a, stands (folder 0o711)) ∷ (codes "x" ∷ u_a, stands (file (codes "9") 0o600))
    ∷ (m, record { value = Some (folder 0o755); is_mount = true }) ∷ [])

-- what stands at these paths
abbrev shown : View → List Route → List (Option Value)
shown v = map (λ p. (v p).value)

-- all parts of a job are done
abbrev whole : Job → View
whole job = outcome tree job (planned_decisions tree job)

-- the folder `d`, the file `y`, the link `l` and the file `x` of a folder `a`
abbrev within : Route → List Route
within top = (codes "d" ∷ top) ∷ (codes "y" ∷ codes "d" ∷ top) ∷ (codes "l" ∷ top) ∷ (codes "x" ∷ top) ∷ []

abbrev inside_a : List (Option Value)
inside_a = Some (folder 0o500) ∷ Some (file (codes "2") 0o600) ∷ Some (link (codes "x")) ∷ Some (file (codes "1") 0o644) ∷ []

abbrev none_inside : List (Option Value)
none_inside = None ∷ None ∷ None ∷ None ∷ []

-- `/a` is copied to `/t/a`, where nothing stands
abbrev copy : Job
copy = Copy (pair a (codes "a" ∷ t) ∷ [])

copied-there : shown (whole copy) (within (codes "a" ∷ t)) ≡ inside_a
copied-there = refl

copied-folder : shown (whole copy) ((codes "a" ∷ t) ∷ t ∷ (codes "z" ∷ codes "a" ∷ t) ∷ []) ≡ Some (folder 0o700) ∷ Some (folder 0o755) ∷ None ∷ []
copied-folder = refl

copied-source : shown (whole copy) (a ∷ within a) ≡ Some (folder 0o700) ∷ inside_a
copied-source = refl

-- a folder is open to its owner until its mode is set
copied-unset : shown (outcome tree copy (decisions_of_works (Did Make (codes "d" ∷ codes "a" ∷ t) ∷ []))) (within (codes "a" ∷ t)) ≡ Some (folder 0o700) ∷ None ∷ None ∷ None ∷ []
copied-unset = refl

-- `/a` is copied onto `/u/a`, which keeps its mode; its file `x` is replaced
copied-onto : shown (whole (Copy (pair a u_a ∷ []))) (u_a ∷ within u_a) ≡ Some (folder 0o711) ∷ inside_a
copied-onto = refl

-- `/a` goes to `/t/a` by one renaming
abbrev move : Job
move = Move (pair a (codes "a" ∷ t) ∷ [])

moved-there : shown (whole move) ((codes "a" ∷ t) ∷ within (codes "a" ∷ t)) ≡ Some (folder 0o700) ∷ inside_a
moved-there = refl

moved-away : shown (whole move) (a ∷ within a) ≡ None ∷ none_inside
moved-away = refl

moved-by_works : shown (after_works move (Did Place (codes "a" ∷ t) ∷ []) tree) ((codes "a" ∷ t) ∷ within (codes "a" ∷ t)) ≡ Some (folder 0o700) ∷ inside_a
moved-by_works = refl

-- onto a folder that is there its children go one by one
abbrev merge : Job
merge = Move (pair a u_a ∷ [])

merged-there : shown (whole merge) (u_a ∷ within u_a) ≡ Some (folder 0o711) ∷ inside_a
merged-there = refl

merged-away : shown (whole merge) (a ∷ within a) ≡ None ∷ none_inside
merged-away = refl

-- `x` isn't to be replaced, so it stays, and its folder with it
abbrev all_but_x : List Work
all_but_x = Did Place (codes "l" ∷ u_a) ∷ Did Place (codes "d" ∷ u_a) ∷ []

merged-but_one : shown (outcome tree merge (decisions_of_works all_but_x)) (a ∷ a_d ∷ a_x ∷ []) ≡ Some (folder 0o700) ∷ None ∷ Some (file (codes "1") 0o644) ∷ []
merged-but_one = refl

merged-but_one_there : shown (after_works merge all_but_x tree) (within u_a)
    ≡ Some (folder 0o500) ∷ Some (file (codes "2") 0o600) ∷ Some (link (codes "x")) ∷ Some (file (codes "9") 0o600) ∷ []
merged-but_one_there = refl

-- across mounts all is copied, and then removed
abbrev cross : Job
cross = Move (pair a (codes "a" ∷ m) ∷ [])

crossed-there : shown (whole cross) ((codes "a" ∷ m) ∷ within (codes "a" ∷ m)) ≡ Some (folder 0o700) ∷ inside_a
crossed-there = refl

crossed-away : shown (whole cross) (a ∷ within a) ≡ None ∷ none_inside
crossed-away = refl

-- a file is copied, and not removed yet
crossed-copied : shown (outcome tree cross (decisions_of_works (Did Place (codes "x" ∷ codes "a" ∷ m) ∷ []))) (a_x ∷ (codes "x" ∷ codes "a" ∷ m) ∷ [])
    ≡ Some (file (codes "1") 0o644) ∷ Some (file (codes "1") 0o644) ∷ []
crossed-copied = refl

deleted : shown (whole (Delete (a ∷ []))) (a ∷ t ∷ within a) ≡ None ∷ Some (folder 0o755) ∷ none_inside
deleted = refl

made-folder : shown (whole (MakeFolder (codes "n" ∷ []))) ((codes "n" ∷ []) ∷ a ∷ []) ≡ Some (folder 0o755) ∷ Some (folder 0o700) ∷ []
made-folder = refl

-- a mode is set, and none below it
set-mode : shown (whole (SetMode (a ∷ a_x ∷ []) 0o640)) (a ∷ within a)
    ≡ Some (folder 0o640) ∷ Some (folder 0o500) ∷ Some (file (codes "2") 0o600) ∷ Some (link (codes "x")) ∷ Some (file (codes "1") 0o640) ∷ []
set-mode = refl

made-link : shown (whole (MakeLink (codes "k" ∷ []) (codes "a/x"))) ((codes "k" ∷ []) ∷ []) ≡ Some (link (codes "a/x")) ∷ []
made-link = refl

-- a file that is saved keeps its mode
saved-again : shown (whole (Save a_d_y (codes "new"))) (a_d_y ∷ a_x ∷ []) ≡ Some (file (codes "new") 0o600) ∷ Some (file (codes "1") 0o644) ∷ []
saved-again = refl

saved-first : shown (whole (Save (codes "n" ∷ t) (codes "new"))) ((codes "n" ∷ t) ∷ []) ≡ Some (file (codes "new") 0o644) ∷ []
saved-first = refl

-- the items of a copy: a folder before its children, these in the order of their names
abbrev below_a : Shape
below_a = Child (codes "d") (Child (codes "y") End End) (Child (codes "l") End (Child (codes "x") End End))

items-in_order : all_items (pair a (codes "a" ∷ t) ∷ []) (below_a ∷ [])
    ≡ pair a (codes "a" ∷ t) ∷ pair a_d (codes "d" ∷ codes "a" ∷ t) ∷ pair a_d_y (codes "y" ∷ codes "d" ∷ codes "a" ∷ t)
    ∷ pair a_l (codes "l" ∷ codes "a" ∷ t) ∷ pair a_x (codes "x" ∷ codes "a" ∷ t) ∷ []
items-in_order = refl
