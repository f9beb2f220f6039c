-- What a move knows of what it leaves: before the renaming both paths are as they were where the job began with it, and then what stood at its source stands at its target.
use Rattle.std.proofs.Common.{◌≡◌, Bool, true, false, List, [], ◌∷◌, ◌++◌, refl, sym, ◌∙◌, ap, subst, inl, Some}
use Rattle.std.specs.Prelude.{if◌then◌else◌}
use Rattle.std.proofs.lemmas.Bool.{false_from_ne_true}
use Rattle.mc_text.specs.Routes.{Route, is_prefix, same_path}
use Rattle.tree_trait.specs.FileSystem.{View}
use Rattle.tree_trait.specs.Change.{CallLog}
use Rattle.tree_trait.specs.CrashImages.{Among}
use Rattle.job_answers.specs.declared.replies.Replies.{Replies}
use Rattle.job_reports.specs.declared.job.Pair.{Pair}
use Rattle.job_reports.specs.declared.report.Did.{Did}
use Rattle.job_reports.specs.declared.report.Did.TheVariants.{Began, Chunk, Placed, Removed, Made, Set, Kept, Skipped, Cleaned, Barrier, Asked, Merges, Moved, Troubled, Ended}
use Rattle.job_reports.specs.Jobs.{Moves}
use Rattle.job_reports.specs.Paths.{folder_of}
use Rattle.session_entries.specs.Moves.{is_of_move, moved_from}
use Rattle.move_job.specs.declared.moving.MovingStage.{MovingStage}
use Rattle.move_job.specs.declared.moving.MovingStage.TheVariants.{Take, SyncTarget, SyncSource, Finish, PassedOver}
use Rattle.move_job.specs.Movings.{Moving, Tells, after_sync, at_barrier, is_dirty, is_done, skipped_stage, begun_move}
use Rattle.laws_sessions.specs.Replayed.{moved_by, nothing_there, replayed_step}
use Rattle.laws_sessions.proofs.Moved.{moved_below}
use Rattle.laws_sessions.proofs.PathsBelow.{below_way, is_below}
use Rattle.laws_outcomes.specs.Outcomes.{IsMoved, passed_in}
use Rattle.laws_outcomes.specs.Touched.{touches}
use Rattle.laws_outcomes.proofs.ApartPaths.{AreApart}
use Rattle.laws_sessions.proofs.ChangedPaths.{IsChanged}
use Rattle.laws_outcomes.proofs.MadeThings.{Unless}

-- both paths, and all below them, are as they were
abbrev pub IsUnmoved : Pair → View → View → Type 0
IsUnmoved pair begun v = (rest : Route) → (v (rest ++ pair.source) ≡ begun (rest ++ pair.source)) × (v (rest ++ pair.target) ≡ begun (rest ++ pair.target))

-- what stood at the source stands at the target, with all that lay in it
abbrev pub HasGone : Pair → View → View → Type 0
HasGone pair begun v = (rest : Route) → (v (rest ++ pair.source) ≡ nothing_there) × (v (rest ++ pair.target) ≡ begun (rest ++ pair.source))

abbrev pub MovingAt : MovingStage → Pair → List Route → View → View → Type 0
MovingAt Take pair passed begun v = (passed ≡ []) × IsUnmoved pair begun v
MovingAt SyncTarget pair passed begun v = (passed ≡ []) × HasGone pair begun v
MovingAt SyncSource pair passed begun v = (passed ≡ []) × HasGone pair begun v
MovingAt Finish pair passed begun v = (passed ≡ []) × HasGone pair begun v
MovingAt PassedOver pair passed begun v = Among passed pair.source × IsUnmoved pair begun v

abbrev pub MovingDone : List Route → View → View → Moving → Type 0
MovingDone passed begun v m = MovingAt m.stage m.pair passed begun v

-- a move that begins
pub moving_begins : (pair : Pair) (v : View) → MovingDone [] v v (begun_move pair)
moving_begins pair v = (refl, λ rest. (refl, refl))

-- the renaming
goes : (pair : Pair) (begun v : View) → AreApart pair → IsUnmoved pair begun v → HasGone pair begun (moved_by pair v)
goes pair begun v apart same rest = (empty, there ∙ (same rest).0)
  where
    off : is_prefix pair.target (rest ++ pair.source) ≡ false
    off = false_from_ne_true _ (λ below. let w = below_way pair.target (rest ++ pair.source) below in apart rest w.0 w.1)

    empty : moved_by pair v (rest ++ pair.source) ≡ nothing_there
    empty =
        ap (λ b. if b then v (moved_from pair.source pair.target (rest ++ pair.source)) else (if is_prefix pair.source (rest ++ pair.source) then nothing_there else v (rest ++ pair.source))) off
        ∙ ap (λ b. if b then nothing_there else v (rest ++ pair.source)) (is_below pair.source rest)

    there : moved_by pair v (rest ++ pair.target) ≡ v (rest ++ pair.source)
    there =
        ap (λ b. if b then v (moved_from pair.source pair.target (rest ++ pair.target)) else (if is_prefix pair.source (rest ++ pair.target) then nothing_there else v (rest ++ pair.target))) (is_below pair.target rest)
        ∙ ap v (moved_below pair.source pair.target rest)

-- each sync leaves what was renamed
synced : (pair : Pair) (stage : MovingStage) (passed : List Route) (begun v : View) → is_dirty stage ≡ true → MovingAt stage pair passed begun v → MovingAt (after_sync pair stage) pair passed begun v
synced pair SyncTarget passed begun v dirty k = by (same_path (folder_of pair.target) (folder_of pair.source))
  where
    by : (b : Bool) → MovingAt (if b then Finish else SyncSource) pair passed begun v
    by true = k
    by false = k
synced pair SyncSource passed begun v dirty k = k
synced pair Take passed begun v dirty k = absurd (let f : ⊥ = cc in f)
synced pair Finish passed begun v dirty k = absurd (let f : ⊥ = cc in f)
synced pair PassedOver passed begun v dirty k = absurd (let f : ⊥ = cc in f)

-- a thing that isn't moved yet is passed over, as a folder is that is merged
left : (m : Moving) (path : Route) (passed : List Route) (begun v : View) → m.stage ≡ Take → path ≡ m.pair.source → MovingDone passed begun v m → MovingAt PassedOver m.pair (path ∷ passed) begun v
left m path passed begun v stage path_is k = (inl (sym path_is), (subst (λ st. MovingAt st m.pair passed begun v) stage k).1)

pub moving_steps : (replies : Replies) (m new : Moving) (did : Did) (log : CallLog) (passed : List Route) (begun v : View) → ((pair : Pair) → did ≡ Moved pair → AreApart m.pair) → Tells replies m did new → MovingDone passed begun v m
    → Unless did (MovingDone (passed_in (Some (Moves m.pair.source m.pair.target)) did passed) begun (replayed_step log did (Some (Moves m.pair.source m.pair.target)) v) new)
moving_steps replies m new (Moved pair) log passed begun v apart (stage, pair_is, new_is) k =
    let before = subst (λ st. MovingAt st m.pair passed begun v) stage k in
    subst (λ (x : Moving). MovingDone passed begun (moved_by pair v) x) (sym new_is)
    (subst (λ (p : Pair). MovingAt SyncTarget m.pair passed begun (moved_by p v)) (sym pair_is) (before.0, goes m.pair begun v (apart pair refl) before.1))
moving_steps replies m new (Kept path) log passed begun v apart (stage, path_is, new_is) k =
    subst (λ (x : Moving). MovingDone (m.pair.source ∷ passed) begun v x) (sym new_is) (left m m.pair.source passed begun v stage refl k)
moving_steps replies m new (Skipped path cause) log passed begun v apart (stage, path_is, holds, new_is) k =
    subst (λ (x : Moving). MovingDone (path ∷ passed) begun v x) (sym new_is) (left m path passed begun v stage path_is k)
moving_steps replies m new Barrier log passed begun v apart (dirty, new_is) k = subst (λ (x : Moving). MovingDone passed begun v x) (sym new_is) (synced m.pair m.stage passed begun v dirty k)
moving_steps replies m new (Merges transfer pair names) log passed begun v apart (stage, may, new_is) k =
    subst (λ (x : Moving). MovingDone (pair.source ∷ passed) begun v x) (sym new_is) (left m pair.source passed begun v stage (ap (λ (p : Pair). p.source) may.its) k)
moving_steps replies m new (Asked question) log passed begun v apart (stage, new_is) k = subst (λ (x : Moving). MovingDone passed begun v x) (sym new_is) k
moving_steps replies m new (Troubled trouble) log passed begun v apart t k = subst (λ (x : Moving). MovingDone passed begun v x) (sym t.3) k
moving_steps replies m new (Ended ending part) log passed begun v apart t k = tt
moving_steps replies m new did log passed begun v apart t k = absurd t

pub moving_skips : (m new : Moving) (path : Route) (passed : List Route) (begun v : View) → at_barrier m.stage ≡ false → path ≡ m.pair.source → new ≡ record m { stage = skipped_stage m.stage } → MovingDone passed begun v m
    → MovingDone (path ∷ passed) begun v new
moving_skips m new path passed begun v free path_is new_is k = subst (λ (x : Moving). MovingDone (path ∷ passed) begun v x) (sym new_is) (by m.stage refl free)
  where
    by : (stage : MovingStage) → m.stage ≡ stage → at_barrier stage ≡ false → MovingAt (skipped_stage stage) m.pair (path ∷ passed) begun v
    by Take is off = left m path passed begun v is path_is k
    by SyncTarget is off = absurd (let f : ⊥ = cc in f)
    by SyncSource is off = absurd (let f : ⊥ = cc in f)
    by Finish is off = absurd (let f : ⊥ = cc in f)
    by PassedOver is off = absurd (let f : ⊥ = cc in f)

-- nothing was passed over
pub none_among : {A : Type 0} (passed : List Route) (path : Route) → passed ≡ [] → Among passed path → A
none_among passed path none among = absurd (subst (λ ps. Among ps path) none among)

pub moving_ends : (m : Moving) (passed : List Route) (begun v : View) → is_done m.stage ≡ true → MovingDone passed begun v m → IsMoved m.pair.source m.pair.target passed begun v
moving_ends m passed begun v done k = by m.stage done k
  where
    by : (stage : MovingStage) → is_done stage ≡ true → MovingAt stage m.pair passed begun v → IsMoved m.pair.source m.pair.target passed begun v
    by Take e h = absurd (let f : ⊥ = cc in f)
    by SyncTarget e h = absurd (let f : ⊥ = cc in f)
    by SyncSource e h = absurd (let f : ⊥ = cc in f)
    by Finish e h = record { went = λ reached. h.1; stays = λ among. none_among passed m.pair.source h.0 among }
    by PassedOver e h = record { went = λ reached. absurd (reached h.0); stays = λ among. h.1 }

-- and it touches nothing but its two paths, and what lies below them
pub moving_touches : (replies : Replies) (m new : Moving) (did : Did) (path : Route) → Tells replies m did new → IsChanged did path → touches (Moves m.pair.source m.pair.target) path ≡ true
moving_touches replies m new (Moved pair) path (stage, pair_is, new_is) changed = subst (λ (p : Pair). is_of_move p path ≡ true) pair_is changed
moving_touches replies m new (Set p) path t among = absurd t
moving_touches replies m new (Made p) path t among = absurd t
moving_touches replies m new (Placed p) path t among = absurd t
moving_touches replies m new (Removed p) path t among = absurd t
moving_touches replies m new did path t none = absurd none
