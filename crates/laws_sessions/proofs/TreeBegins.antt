-- Where a copy of folders makes its next thing: what is known of the folders that it may change, at its first change too.
use Rattle.std.proofs.Common.{◌≡◌, ◌⊎◌, ℕ, suc, zero, Bool, true, false, ◌||◌, List, [], ◌∷◌, ◌++◌, length, refl, sym, ◌∙◌, ap, subst, inl, inr, Option, Some, None, arith}
use Rattle.std.specs.Prelude.{if◌then◌else◌}
use Rattle.std.proofs.lemmas.Bool.{or_cases}
use Rattle.std.proofs.lemmas.List.{length-append}
use Rattle.mc_text.specs.Routes.{Route, is_prefix, same_path}
use Rattle.tree_trait.specs.FileSystem.{find, node}
use Rattle.tree_trait.specs.Change.{CallLog, current}
use Rattle.tree_trait.proofs.Visible.{same_path-true}
use Rattle.laws_crash.specs.Guarded.{Marks}
use Rattle.job_reports.specs.Paths.{folder_of}
use Rattle.job_reports.specs.declared.job.Pair.{Pair}
use Rattle.tree_walk.specs.Places.{is_empty}
use Rattle.copy_folders.specs.declared.level.Level.{Level}
use Rattle.copy_folders.specs.Levels.{is_around_dirty}
use Rattle.copy_tree.specs.InPlace.{AreMoved, HoldsTop, IsInPlace, IsMoved}
use Rattle.copy_tree.specs.Parts.{ahead}
use Rattle.copy_tree.specs.Standing.{Seen, due, is_fresh}
use Rattle.copy_tree.specs.TreeCopySteps.{LeavesAll}
use Rattle.copy_tree.specs.declared.due.Due.TheVariants.{Thing}
use Rattle.copy_tree.specs.declared.item.ItemAtWork.TheVariants.{Next}
use Rattle.copy_tree.proofs.InPlaces.{leaves_all, pair_moved}
use Rattle.copy_job.specs.Standing.{SubtreeCopying}
use Rattle.copy_job.specs.Unbegun.{IsOutside}
use Rattle.copy_move.specs.Settling.{NoneOwed}
use Rattle.copy_move.specs.declared.work.Work.TheVariants.{Copy}
use Rattle.tree_trait.specs.Refusals.{is_folder}
use Rattle.laws_sessions.proofs.Changing.{some_is}
use Rattle.laws_sessions.proofs.JobKnows.{modes_in}
use Rattle.laws_sessions.proofs.TreeKnown.{LiesOutside}
use Rattle.laws_sessions.proofs.BareTargets.{StandsBare, none_below_open}
use Rattle.laws_sessions.proofs.Calm.{filled_part, was_set}
use Rattle.laws_sessions.proofs.CalmLaws.{filled_unset, quiet_modes_law}
use Rattle.laws_sessions.proofs.EndSteps.{filled_if, met_not}
use Rattle.laws_sessions.proofs.FilledFolders.{IsFilling}
use Rattle.laws_sessions.proofs.Intact.{prefix_append, prefix_way}
use Rattle.laws_sessions.proofs.Knowing.{HasCalmMode, IsCalmPath, IsKept, HistoryFacts}
use Rattle.laws_sessions.proofs.Resting.{IsFolderAt, IsSureFolder, folder_at, stands_at}
use Rattle.laws_sessions.proofs.Restated.{restated, restated_kept}
use Rattle.laws_sessions.proofs.TreeGoing.{LogHas, leaves_has}
use Rattle.laws_sessions.proofs.TreeKnown.{TreeHas, TreeStands}
use Rattle.laws_sessions.proofs.TreeKnows.{filled_inner}
use Rattle.laws_sessions.proofs.TreeLeads.{first_has, log_has}
use Rattle.laws_sessions.proofs.TreeSteps.{next_of}
use Rattle.laws_sessions.proofs.Untouched.{NoneOn, none_on, none_over, way_sure}
use Rattle.laws_sessions.proofs.WaitsAlone.{WaitsAlone}

-- a thing that is taken up: it stands, nothing stands at its target, or a file or a link, and the folder that is to hold that stands
pub record Meets (log : CallLog) (pair : Pair) : Type 0 where
  pub stands : folder_at (current log) (folder_of pair.target) ≡ true
  pub open_to : (find (current log) pair.target ≡ None) ⊎ StandsBare (current log) pair.target
  pub n : ℕ
  pub source : find (current log) pair.source ≡ Some n

-- What is known where a thing is made: of the log as the step began, and once folders were left; the folder that holds the target is on the disk, and the target and
-- all that lies below it is calm.
pub record MayChange (marks : Marks) (log : CallLog) (c : SubtreeCopying) (mid : Seen) : Type 0 where
  pub outside : LiesOutside c.top
  pub has : LogHas c.top c.at.job log c.at
  pub here : LogHas c.top c.at.job log mid
  pub firm : IsSureFolder log (folder_of c.top.target)
  pub calm : (p : Route) → is_prefix c.top.target p ≡ true → IsCalmPath marks log p

none_some : {A : Type 0} (i : ℕ) → (let o : Option ℕ = None in o) ≡ Some i → A
none_some i is = absurd (let f : ⊥ = cc in f)

none_empty : (rest : Route) → length rest ≡ 0 → rest ≡ []
none_empty [] is = refl
none_empty (name ∷ rest) is = absurd (let f : ⊥ = cc in f)

-- a copy in the outermost folder leaves none
pub none_left : (n : ℕ) (old mid : Seen) → LeavesAll n old mid → old.levels.around ≡ [] → mid ≡ old
none_left zero old mid is outermost = is
none_left (suc n) old mid (last, all, none, one) outermost =
    let r = one.returns in
    let left = r.left in
    let same : last ≡ old = none_left n old last all outermost in
    absurd (let e : [] ≡ mid.levels.inner ∷ mid.levels.around = sym (ap (λ (c : Seen). c.levels.around) same ∙ outermost) ∙ left.was in let f : ⊥ = cc in f)

-- the names at and below the target of a copy wait for the syncs of their own folders alone
own_alone : (top : Pair) (job : ℕ) (log : CallLog) (c : Seen) → LogHas top job log c → (p : Route) → is_prefix top.target p ≡ true → WaitsAlone log p
own_alone top job log c has [] own = tt
own_alone top job log c has (name ∷ q) own = (has.names name q (inl own)).1

module _ (told : HistoryFacts) (dirty : List Route) (marks : Marks) (log : CallLog) (kept : IsKept told dirty marks log) (c : SubtreeCopying) (mid : Seen) (n : ℕ) (leaves : LeavesAll n c.at mid) (stands : TreeStands dirty c)
    (none : mid.item ≡ Next) (pair : Pair) (next : due mid ≡ Thing pair) (meets : Meets log pair) where
  abbrev top : Pair
  top = c.top

  abbrev up : Route
  up = folder_of top.target

  in_place : IsInPlace top mid
  in_place = leaves_all top n c.at mid leaves stands.in_place

  pub here_moved : IsMoved top pair.source pair.target
  here_moved = pair_moved top mid.levels.inner.names.names mid pair refl next in_place

  no_part : (path : Route) → filled_part mid.item ≡ Some path → ⊥
  no_part path is = let e : (let o : Option Route = None in o) ≡ Some path = sym (ap filled_part none) ∙ is in let f : ⊥ = cc in f

  -- once something was changed: what stands at or below the target is calm, since no folder at its end has a name to be met
  module _ (h : TreeHas told marks log c) where
    had : LogHas top c.at.job log c.at
    had = log_has told dirty marks log c stands h

    here : LogHas top c.at.job log mid
    here = leaves_has top c.at.job log n c.at mid leaves had

    unset : was_set mid.levels.inner.copy.stage mid.levels.inner.copy.names ≡ false
    unset = filled_unset mid.levels.inner.copy.stage mid.levels.inner.copy.names (filled_if mid here.ends (λ over. met_not mid.levels.inner.names.names mid pair next over.last))

    below : (rest : Route) (i : ℕ) → find (current log) (rest ++ top.target) ≡ Some i → (marks.modes i ≡ None) ⊎ ((rest ≡ []) × StandsBare (current log) top.target)
    below rest i at = elim (here.calm rest) [
      | inl calm ↦ inl (let law = quiet_modes_law in law.elsewhere told dirty marks log mid (rest ++ top.target) i kept here.ends (no_part (rest ++ top.target)) unset calm at)
      | inr b ↦ inr (b.0, b.1)
    ]

    -- and so is a file or a link at the target, which is to be replaced
    replaced : StandsBare (current log) top.target → HasCalmMode marks (current log) top.target
    replaced stood = elim h.around [
      | inl calm ↦ (let still = kept.known.calm top.target calm in still.mode)
      | inr but ↦ λ i at. but.1 i at (subst (λ j. is_folder (node (current log) j) ≡ false) (sym (some_is stood.i i (sym stood.leads ∙ at))) stood.bare)
    ]

    mode : (rest : Route) → HasCalmMode marks (current log) (rest ++ top.target)
    mode rest i at = elim (below rest i at) [
      | inl none ↦ inl none
      | inr b ↦ replaced b.1 i (ap (λ q. find (current log) (q ++ top.target)) (sym b.0) ∙ at)
    ]

    begun_may : MayChange marks log c mid
    begun_may = record {
      outside = h.outside;
      has = had;
      here = here;
      firm = kept.known.stand up h.folder;
      calm = λ p own. let way = prefix_way top.target p own in record { mode = subst (HasCalmMode marks (current log)) (sym way.1) (mode way.0); alone = own_alone top c.at.job log mid here p own };
    }

  -- as the first change is made
  module _ (fresh : is_fresh c.at.stage ≡ true) (owed : NoneOwed (current log) (Copy c) dirty) where
    outside : IsOutside c.at
    outside = stands.unbegun fresh

    same : mid ≡ c.at
    same = none_left n c.at mid leaves outside.around

    outermost : mid.levels.around ≡ []
    outermost = ap (λ (x : Seen). x.levels.around) same ∙ outside.around

    none_there : NoneOn (current log) up dirty
    none_there = none_on (current log) (Copy c) dirty owed

    -- it is what is copied itself
    target_is : pair.target ≡ top.target
    target_is =
        let met = next_of mid mid.levels.inner.names.names pair next in
        let holds : HoldsTop top mid.levels.inner = subst (AreMoved top mid.levels.inner) outermost in_place.levels in
        met.target_is
        ∙ (ap (λ (around : List Level). (if◌then◌else◌ (is_empty around) mid.name met.name) ∷ mid.levels.inner.copy.target) outermost
        ∙ (ap (λ q. (let r : Route = mid.name ∷ q in r)) holds.to ∙ in_place.name))

    source_is : pair.source ≡ top.source
    source_is =
        let m = here_moved in
        let long = ap (λ (q : Route). length q) (sym m.to ∙ target_is) in
        let sum = length-append m.rest top.target in
        m.from ∙ ap (λ q. q ++ top.source) (none_empty m.rest (omega (arith, long, sum)))

    open_there : (find (current log) top.target ≡ None) ⊎ StandsBare (current log) top.target
    open_there = subst (λ q. (find (current log) q ≡ None) ⊎ StandsBare (current log) q) target_is meets.open_to

    around_there : IsFolderAt (current log) up
    around_there = stands_at (current log) up (ap (λ q. folder_at (current log) (folder_of q)) (sym target_is) ∙ meets.stands)

    apart : LiesOutside top
    apart name rest within =
        none_some meets.n (sym (ap (find (current log)) within ∙ none_below_open log kept.known.guarded.tree top.target open_there name rest) ∙ (ap (find (current log)) (sym source_is) ∙ meets.source))

    mode_there : (rest : Route) → HasCalmMode marks (current log) (rest ++ top.target)
    mode_there [] = subst (HasCalmMode marks (current log)) in_place.name (λ i at. modes_in told dirty marks log kept up none_there mid.name i at)
    mode_there (k ∷ rest) = λ i at. none_some i (sym (none_below_open log kept.known.guarded.tree top.target open_there k rest) ∙ at)

    fresh_may : MayChange marks log c mid
    fresh_may =
        let t = around_there in
        let has = first_has told dirty marks log kept c stands fresh owed t.i t.at t.folder open_there in
        record {
          outside = apart;
          has = has;
          here = leaves_has top c.at.job log n c.at mid leaves has;
          firm = record {
            stands = ap (λ q. folder_at (current log) (folder_of q)) (sym target_is) ∙ meets.stands;
            sure = way_sure told dirty marks log up kept.known (none_over (current log) (Copy c) dirty owed);
          };
          calm = λ p own. let way = prefix_way top.target p own in record { mode = subst (HasCalmMode marks (current log)) (sym way.1) (mode_there way.0); alone = own_alone top c.at.job log c.at has p own };
        }

  pub may_change_now : (is_fresh c.at.stage ≡ false → TreeHas told marks log c) → (is_fresh c.at.stage ≡ true → NoneOwed (current log) (Copy c) dirty) → MayChange marks log c mid
  may_change_now begun owed = by (is_fresh c.at.stage) refl
    where
      by : (b : Bool) → is_fresh c.at.stage ≡ b → MayChange marks log c mid
      by true fresh = fresh_may fresh (owed fresh)
      by false some = begun_may (begun some)

  -- what is met is the target, or lies below it
  pub met_own : is_prefix top.target pair.target ≡ true
  met_own = subst (λ q. is_prefix top.target q ≡ true) (sym here_moved.to) (prefix_append top.target here_moved.rest)

  -- it is filled
  pub worked_filled : is_around_dirty mid.levels.around ≡ false → LogHas top c.at.job log mid → IsFilling log mid.levels.inner.copy.target (ahead mid)
  worked_filled clean has = let copy = has.copy in let levels = copy.0.0 in filled_inner (is_around_dirty mid.levels.around) log mid.levels.inner.copy.target (ahead mid) clean levels.inner

-- what a history says, with the folder that holds the target as one on the disk, and the target and all that lies below it as calm
abbrev pub within : HistoryFacts → SubtreeCopying → HistoryFacts
within told c = restated told (λ p. same_path p (folder_of c.top.target) || told.folders p) (λ p. is_prefix c.top.target p || told.calm p)

pub within_kept : (told : HistoryFacts) (dirty : List Route) (marks : Marks) (log : CallLog) (c : SubtreeCopying) (mid : Seen) → IsKept told dirty marks log → MayChange marks log c mid → IsKept (within told c) dirty marks log
within_kept told dirty marks log c mid kept may =
    let k = kept.known in
    restated_kept told (λ p. same_path p (folder_of c.top.target) || told.folders p) (λ p. is_prefix c.top.target p || told.calm p) dirty marks log kept
    (λ p there. elim (or_cases (same_path p (folder_of c.top.target)) (told.folders p) there) [
      | inl same ↦ subst (λ q. IsSureFolder log q) (sym (same_path-true p (folder_of c.top.target) same)) may.firm
      | inr before ↦ k.stand p before
    ])
    (λ p there. elim (or_cases (is_prefix c.top.target p) (told.calm p) there) [ inl own ↦ may.calm p own | inr before ↦ k.calm p before ])
