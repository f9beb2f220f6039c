-- What a deletion knows of what it leaves: what it passed over, what it is in, and what it is yet to meet. So it is once one thing more is decided.
use Rattle.std.proofs.Common.{◌≡◌, ℕ, Bool, true, false, List, [], ◌∷◌, ◌++◌, refl, sym, ◌∙◌, ap, subst, inl, inr, Some}
use Rattle.std.specs.Prelude.{if◌then◌else◌}
use Rattle.std.proofs.lemmas.Bool.{or_right, true≢false}
use Rattle.mc_text.specs.Routes.{Route, is_prefix, same_path}
use Rattle.tree_trait.specs.declared.file_system.FileSystem.{FileSystem}
use Rattle.tree_trait.specs.FileSystem.{find}
use Rattle.tree_trait.specs.CrashImages.{Among}
use Rattle.tree_trait.proofs.Visible.{same_path-self}
use Rattle.tree_walk.specs.Places.{OpenFolder, Place, noted_folder, passed_place as passed_on}
use Rattle.delete_job.specs.declared.deletion.Depth.{Depth}
use Rattle.delete_job.specs.declared.deletion.Depth.TheVariants.{Top, Inside}
use Rattle.delete_job.specs.declared.deletion.Stage.{Stage}
use Rattle.delete_job.specs.declared.deletion.Stage.TheVariants.{Begin, Going, Sync}
use Rattle.delete_job.specs.declared.deletion.Deletion.{Deletion}
use Rattle.delete_job.specs.Standing.{Decides, End, IsDone, DeletionItem, Leaves, Thing, after_item, at_barrier, item, item_at, item_of, worked_folder}
use Rattle.delete_job.specs.TreeDeletionSteps.{IsSpared as IsLeftIn, path_of}
use Rattle.delete_job.specs.Deletions.{Deleting}
use Rattle.laws_sessions.proofs.Intact.{prefix_append, prefix_way}
use Rattle.laws_outcomes.proofs.Walked.{AreHonest, AreNested, IsAhead, IsHonest, IsSpared, IsWalked, Stand, inside_apart, nested_longer, passes_folder, passes_thing, passes_top}

-- the walk, once the thing itself was gone into
abbrev pub WalkAt : Depth → Route → Place → List Route → FileSystem → Type 0
WalkAt Top top place passed s = place.around ≡ []
WalkAt Inside top place passed s = IsWalked passed s top place.inner place.around

-- once all is decided nothing is left but what was passed over
abbrev pub DoneAt : Stage → Depth → Route → Place → List Route → FileSystem → Type 0
DoneAt Begin depth top place passed s = WalkAt depth top place passed s
DoneAt Going depth top place passed s = WalkAt depth top place passed s
DoneAt Sync depth top place passed s = Stand s top (IsSpared passed)

abbrev pub MachineDone : List Route → FileSystem → Deletion → Type 0
MachineDone passed s d = DoneAt d.stage d.depth d.path d.walk.place passed s

abbrev pub DeletionDone : List Route → FileSystem → Deleting → Type 0
DeletionDone passed s d = DoneAt d.stage d.depth d.path d.place passed s

pub walk_of : (stage : Stage) (depth : Depth) (top : Route) (place : Place) (passed : List Route) (s : FileSystem) → at_barrier stage ≡ false → DoneAt stage depth top place passed s → WalkAt depth top place passed s
walk_of Begin depth top place passed s off k = k
walk_of Going depth top place passed s off k = k
walk_of Sync depth top place passed s off k = absurd (true≢false off)

of_walk : (stage : Stage) (depth : Depth) (top : Route) (place : Place) (passed : List Route) (s : FileSystem) → at_barrier stage ≡ false → WalkAt depth top place passed s → DoneAt stage depth top place passed s
of_walk Begin depth top place passed s off k = k
of_walk Going depth top place passed s off k = k
of_walk Sync depth top place passed s off k = absurd (true≢false off)

prefix_up : (rest : Route) (name : List ℕ) (up : Route) → is_prefix up (rest ++ name ∷ up) ≡ true
prefix_up [] name up = or_right (same_path up (name ∷ up)) (is_prefix up up) (prefix_append up [])
prefix_up (n ∷ rest) name up = or_right (same_path up (n ∷ (rest ++ name ∷ up))) (is_prefix up (rest ++ name ∷ up)) (prefix_up rest name up)

up_of : (path up q : Route) (name : List ℕ) → path ≡ name ∷ up → is_prefix path q ≡ true → is_prefix up q ≡ true
up_of path up q name is within =
    let w = prefix_way path q within in
    subst (λ (x : Route). is_prefix up x ≡ true) (sym (w.1 ∙ ap (λ (x : Route). w.0 ++ x) is)) (prefix_up w.0 name up)

-- what was taken up is decided: all that stands in it is spared
module _ (passed more : List Route) (s after : FileSystem) (grows : (q : Route) → Among passed q → Among more q) (fewer : (p : Route) (i : ℕ) → find after p ≡ Some i → (j : ℕ) × (find s p ≡ Some j)) where
  abbrev GoneAt : OpenFolder → DeletionItem → Type 0
  GoneAt inner (Thing path) = (p : Route) (i : ℕ) → is_prefix path p ≡ true → find after p ≡ Some i → IsSpared more p
  GoneAt inner (End folder) = (p : Route) (i : ℕ) → IsAhead inner p → find after p ≡ Some i → IsSpared more p

  abbrev Seen : Bool → Route → Type 0
  Seen left path = left ≡ true → (q : Route) × Among more q × (is_prefix path q ≡ true)

  pub ended : (depth : Depth) (top path : Route) (place : Place) (stage : Stage) → path ≡ top → Stand after top (IsSpared more) → DoneAt (after_item top path stage) depth top place more after
  ended depth top path place stage is stand =
      subst (λ (q : Route). DoneAt (after_item top q stage) depth top place more after) (sym is)
      (subst (λ b. DoneAt (if b then Sync else stage) depth top place more after) (sym (same_path-self top)) stand)

  goes_on : (depth : Depth) (top path : Route) (place : Place) (stage : Stage) → same_path path top ≡ false → at_barrier stage ≡ false → WalkAt depth top place more after → DoneAt (after_item top path stage) depth top place more after
  goes_on depth top path place stage apart off walk =
      subst (λ b. DoneAt (if b then Sync else stage) depth top place more after) (sym apart) (of_walk stage depth top place more after off walk)

  -- the folder that is worked is left
  pub leaves : (top path : Route) (inner : OpenFolder) (around : List OpenFolder) (old new : Place) (left : Bool) (stage : Stage) → inner ≡ old.inner → around ≡ old.around → path ≡ worked_folder top old → Leaves left old new → at_barrier stage ≡ false
      → ((p : Route) (i : ℕ) → IsAhead inner p → find after p ≡ Some i → IsSpared more p) → Seen left path → IsWalked passed s top inner around → DoneAt (after_item top path stage) Inside top new more after
  leaves top path inner [] old new left stage inner_is is path_is (inl l) off gone seen w = absurd (let e : (let xs : List OpenFolder = [] in xs) ≡ l.outer ∷ new.around = is ∙ l.was in let f : ⊥ = cc in f)
  leaves top path inner [] old new left stage inner_is is path_is (inr (none, same)) off gone seen w =
      ended Inside top path new stage (path_is ∙ ap (λ (around : List OpenFolder). if Rattle.tree_walk.specs.Places.is_empty around then top else old.inner.path) none) (passes_top passed more s after top grows fewer inner gone w)
  leaves top path inner (outer ∷ around) old new left stage inner_is is path_is (inr (none, same)) off gone seen w = absurd (let e : (let xs : List OpenFolder = [] in xs) ≡ outer ∷ around = sym none ∙ sym is in let f : ⊥ = cc in f)
  leaves top path inner (outer ∷ around) old new left stage inner_is is path_is (inl l) off gone seen w =
      let both : outer ∷ around ≡ l.outer ∷ new.around = is ∙ l.was in
      let first : outer ≡ l.outer = cc in
      let others : around ≡ new.around = cc in
      let nest = (w.nested).0 in
      let path_inner : path ≡ inner.path =
      path_is ∙ (ap (λ (a : List OpenFolder). if Rattle.tree_walk.specs.Places.is_empty a then top else old.inner.path) (sym is) ∙ ap (λ (f : OpenFolder). f.path) (sym inner_is)) in
      let lies : path ≡ nest.0 ∷ outer.path = path_inner ∙ nest.1 in
      goes_on Inside top path new stage (subst (λ (q : Route). same_path q top ≡ false) (sym lies) (inside_apart top outer.path nest.0 (nested_longer top outer around (w.nested).1))) off
      (subst (λ (a : List OpenFolder). IsWalked more after top new.inner a) others
      (subst (λ (x : OpenFolder). IsWalked more after top x around) (sym (l.inner ∙ ap (noted_folder left) (sym first)))
      (passes_folder passed more s after top grows fewer inner outer around left gone (λ is_left. let x = seen is_left in (x.0, x.1, up_of path outer.path x.0 nest.0 lies x.2)) w)))

  pub decided : (depth : Depth) (top path : Route) (old new : Place) (names : List (List ℕ)) (left : Bool) (stage : Stage) → old.inner.names ≡ names → path ≡ path_of (item_at depth top old) → IsDone depth (item_at depth top old) left old new → at_barrier stage ≡ false
      → GoneAt old.inner (item_at depth top old) → Seen left path → WalkAt depth top old passed s → DoneAt (after_item top path stage) depth top new more after
  decided Top top path old new names left stage is path_is done off gone seen w = ended Top top path new stage path_is gone
  decided Inside top path old new [] left stage is path_is done off gone seen w =
      let as_end : item_at Inside top old ≡ End (worked_folder top old) = ap (λ xs. item_of xs old.inner.path (worked_folder top old)) is in
      leaves top path old.inner old.around old new left stage refl refl (path_is ∙ ap path_of as_end) (subst (λ (x : DeletionItem). IsDone Inside x left old new) as_end done) off (subst (GoneAt old.inner) as_end gone) seen w
  decided Inside top path old new (name ∷ names) left stage is path_is done off gone seen w =
      let as_thing : item_at Inside top old ≡ Thing (name ∷ old.inner.path) = ap (λ xs. item_of xs old.inner.path (worked_folder top old)) is in
      let lies : path ≡ name ∷ old.inner.path = path_is ∙ ap path_of as_thing in
      let moved : new ≡ passed_on left old = subst (λ (x : DeletionItem). IsDone Inside x left old new) as_thing done in
      goes_on Inside top path new stage (subst (λ (q : Route). same_path q top ≡ false) (sym lies) (inside_apart top old.inner.path name (nested_longer top old.inner old.around w.nested))) off
      (subst (λ (x : Place). IsWalked more after top x.inner x.around) (sym moved)
      (passes_thing passed more s after top grows fewer old.inner old.around name names left is (subst (GoneAt old.inner) as_thing gone) (λ is_left. let x = seen is_left in (x.0, x.1, up_of path old.inner.path x.0 name lies x.2)) w))

pub worked_is : (top : Route) (inner : OpenFolder) (around : List OpenFolder) → AreNested top inner around → (if Rattle.tree_walk.specs.Places.is_empty around then top else inner.path) ≡ inner.path
worked_is top inner [] nested = sym nested
worked_is top inner (outer ∷ around) nested = refl

pub below_ahead : (folder : OpenFolder) (p : Route) → IsAhead folder p → is_prefix folder.path p ≡ true
below_ahead folder p (inl same) = subst (λ (q : Route). is_prefix folder.path q ≡ true) (sym same) (prefix_append folder.path [])
below_ahead folder p (inr (n, among, within)) = up_of (n ∷ folder.path) folder.path p n refl within

inner_honest : (passed : List Route) (inner : OpenFolder) (around : List OpenFolder) → AreHonest passed inner around → IsHonest passed inner
inner_honest passed inner [] h = h
inner_honest passed inner (outer ∷ around) h = h.0

module _ (passed more : List Route) (s after : FileSystem) (grows : (q : Route) → Among passed q → Among more q) (fewer : (p : Route) (i : ℕ) → find after p ≡ Some i → (j : ℕ) × (find s p ≡ Some j)) where
  -- all that stands at or below the path is spared
  abbrev Clear : Route → Type 0
  Clear path = (p : Route) (i : ℕ) → is_prefix path p ≡ true → find after p ≡ Some i → IsSpared more p

  pub gone_of : (depth : Depth) (top path : Route) (old : Place) (names : List (List ℕ)) → old.inner.names ≡ names → path ≡ path_of (item_at depth top old) → WalkAt depth top old passed s → Clear path
      → GoneAt passed more s after grows fewer old.inner (item_at depth top old)
  gone_of Top top path old names is path_is w c = λ p i within at. c p i (subst (λ (q : Route). is_prefix q p ≡ true) (sym path_is) within) at
  gone_of Inside top path old [] is path_is w c =
      let as_end : item_at Inside top old ≡ End (worked_folder top old) = ap (λ xs. item_of xs old.inner.path (worked_folder top old)) is in
      subst (GoneAt passed more s after grows fewer old.inner) (sym as_end)
      (λ p i ahead at. c p i (subst (λ (q : Route). is_prefix q p ≡ true) (sym (path_is ∙ (ap path_of as_end ∙ worked_is top old.inner old.around w.nested))) (below_ahead old.inner p ahead)) at)
  gone_of Inside top path old (name ∷ names) is path_is w c =
      let as_thing : item_at Inside top old ≡ Thing (name ∷ old.inner.path) = ap (λ xs. item_of xs old.inner.path (worked_folder top old)) is in
      subst (GoneAt passed more s after grows fewer old.inner) (sym as_thing) (λ p i within at. c p i (subst (λ (q : Route). is_prefix q p ≡ true) (sym (path_is ∙ ap path_of as_thing)) within) at)

  pub of_decides : (old new : Deletion) (left : Bool) (path : Route) (stage : Stage) → Decides old left path stage new → path ≡ path_of (item old) → at_barrier stage ≡ false → GoneAt passed more s after grows fewer old.walk.place.inner (item old)
      → Seen passed more s after grows fewer left path → WalkAt old.depth old.path old.walk.place passed s → MachineDone more after new
  of_decides old new left path stage d path_is off gone seen w =
      subst (λ x. DoneAt x new.depth new.path new.walk.place more after) (sym d.stage_is)
      (subst (λ x. DoneAt (after_item old.path path stage) x new.path new.walk.place more after) (sym d.depth_is)
      (subst (λ x. DoneAt (after_item old.path path stage) old.depth x new.walk.place more after) (sym d.path_is)
      (decided passed more s after grows fewer old.depth old.path path old.walk.place new.walk.place (let p : Place = old.walk.place in p.inner.names) left stage refl path_is d.place off gone seen w)))

-- a folder in which something was left stays
pub kept_of : (passed : List Route) (s after : FileSystem) (grows : (q : Route) → Among passed q → Among passed q) (fewer : (p : Route) (i : ℕ) → find after p ≡ Some i → (j : ℕ) × (find s p ≡ Some j)) (depth : Depth) (top path : Route) (old : Place) (names : List (List ℕ))
    → old.inner.names ≡ names → path ≡ path_of (item_at depth top old) → IsLeftIn (item_at depth top old) old.inner.spared → WalkAt depth top old passed s
    → GoneAt passed passed s after grows fewer old.inner (item_at depth top old) × Seen passed passed s after grows fewer true path
kept_of passed s after grows fewer Top top path old names is path_is left w = absurd left
kept_of passed s after grows fewer Inside top path old [] is path_is left w =
    let as_end : item_at Inside top old ≡ End (worked_folder top old) = ap (λ xs. item_of xs old.inner.path (worked_folder top old)) is in
    let spared : old.inner.spared ≡ true = subst (λ (x : DeletionItem). IsLeftIn x old.inner.spared) as_end left in
    let h = inner_honest passed old.inner old.around w.honest spared in (
      subst (GoneAt passed passed s after grows fewer old.inner) (sym as_end) (λ p i ahead at. elim ahead [
        | inl same ↦ (h.0, h.1, inr (subst (λ (q : Route). is_prefix q h.0 ≡ true) (sym same) h.2))
        | inr below ↦ absurd (subst (λ xs. Among xs below.0) is below.1)
      ]),
      λ is_left. (h.0, h.1, subst (λ (q : Route). is_prefix q h.0 ≡ true) (sym (path_is ∙ (ap path_of as_end ∙ worked_is top old.inner old.around w.nested))) h.2),
    )
kept_of passed s after grows fewer Inside top path old (name ∷ names) is path_is left w =
    let as_thing : item_at Inside top old ≡ Thing (name ∷ old.inner.path) = ap (λ xs. item_of xs old.inner.path (worked_folder top old)) is in
    absurd (subst (λ (x : DeletionItem). IsLeftIn x old.inner.spared) as_thing left)
