-- What the removal of an emptied folder knows of what it leaves: before it the folder is as it was where the job began with it, and then nothing stands there.
use Rattle.std.proofs.Common.{◌≡◌, true, false, List, [], ◌∷◌, refl, sym, ◌∙◌, ap, subst, inl, inr, Some, None}
use Rattle.mc_text.specs.Routes.{Route, same_path}
use Rattle.tree_trait.specs.FileSystem.{Spot, View, view_with}
use Rattle.tree_trait.specs.Change.{CallLog}
use Rattle.tree_trait.specs.CrashImages.{Among}
use Rattle.tree_trait.proofs.Visible.{same_path-self}
use Rattle.job_answers.specs.declared.replies.Replies.{Replies}
use Rattle.job_reports.specs.declared.report.Did.{Did}
use Rattle.job_reports.specs.declared.report.Did.TheVariants.{Began, Chunk, Placed, Removed, Made, Set, Kept, Skipped, Cleaned, Barrier, Asked, Merges, Moved, Troubled, Ended}
use Rattle.job_reports.specs.Jobs.{RemovesEmptied}
use Rattle.emptied_job.specs.declared.removal.RemovalStage.{RemovalStage}
use Rattle.emptied_job.specs.declared.removal.RemovalStage.TheVariants.{Remove, Sync, Finish, PassedOver}
use Rattle.emptied_job.specs.Removals.{Removing, Tells, at_barrier, is_done, skipped_stage, begun_removal}
use Rattle.laws_sessions.specs.Replayed.{replayed_step}
use Rattle.laws_sessions.proofs.Deleted.{put_at}
use Rattle.laws_outcomes.specs.Outcomes.{IsEmptiedGone, passed_in}
use Rattle.laws_sessions.proofs.ChangedPaths.{IsChanged}
use Rattle.laws_outcomes.proofs.MadeThings.{Unless}
use Rattle.laws_outcomes.proofs.MovedThings.{none_among}

abbrev pub RemovalAt : RemovalStage → Route → List Route → View → View → Type 0
RemovalAt Remove path passed begun v = (passed ≡ []) × (v path ≡ begun path)
RemovalAt Sync path passed begun v = (passed ≡ []) × ((v path).value ≡ None)
RemovalAt Finish path passed begun v = (passed ≡ []) × ((v path).value ≡ None)
RemovalAt PassedOver path passed begun v = Among passed path × (v path ≡ begun path)

abbrev pub RemovalDone : List Route → View → View → Removing → Type 0
RemovalDone passed begun v r = RemovalAt r.stage r.path passed begun v

-- a removal that begins
pub removal_begins : (path : Route) (v : View) → RemovalDone [] v v (begun_removal path)
removal_begins path v = (refl, refl)

-- a folder that isn't removed yet is kept, or passed over
left : (r : Removing) (path : Route) (passed : List Route) (begun v : View) → r.stage ≡ Remove → path ≡ r.path → RemovalDone passed begun v r → RemovalAt PassedOver r.path (path ∷ passed) begun v
left r path passed begun v stage path_is k = (inl (sym path_is), (subst (λ st. RemovalAt st r.path passed begun v) stage k).1)

pub removal_steps : (replies : Replies) (r new : Removing) (did : Did) (log : CallLog) (passed : List Route) (begun v : View) → Tells replies r did new → RemovalDone passed begun v r
    → Unless did (RemovalDone (passed_in (Some (RemovesEmptied r.path)) did passed) begun (replayed_step log did (Some (RemovesEmptied r.path)) v) new)
removal_steps replies r new (Removed path) log passed begun v (stage, path_is, new_is) k =
    let before = subst (λ st. RemovalAt st r.path passed begun v) stage k in
    subst (λ (x : Removing). RemovalDone passed begun (view_with v path None) x) (sym new_is)
    (before.0, subst (λ (p : Route). (view_with v p None r.path).value ≡ None) (sym path_is) (ap (λ (s : Spot). s.value) (put_at v r.path None)))
removal_steps replies r new (Kept path) log passed begun v (stage, path_is, new_is) k =
    subst (λ (x : Removing). RemovalDone (r.path ∷ passed) begun v x) (sym new_is) (left r r.path passed begun v stage refl k)
removal_steps replies r new (Skipped path cause) log passed begun v (stage, path_is, holds, new_is) k =
    subst (λ (x : Removing). RemovalDone (path ∷ passed) begun v x) (sym new_is) (left r path passed begun v stage path_is k)
removal_steps replies r new Barrier log passed begun v (stage, new_is) k =
    subst (λ (x : Removing). RemovalDone passed begun v x) (sym new_is) (subst (λ st. RemovalAt st r.path passed begun v) stage k)
removal_steps replies r new (Troubled trouble) log passed begun v t k = subst (λ (x : Removing). RemovalDone passed begun v x) (sym t.3) k
removal_steps replies r new (Ended ending part) log passed begun v t k = tt
removal_steps replies r new did log passed begun v t k = absurd t

pub removal_skips : (r new : Removing) (path : Route) (passed : List Route) (begun v : View) → at_barrier r.stage ≡ false → path ≡ r.path → new ≡ record r { stage = skipped_stage r.stage } → RemovalDone passed begun v r
    → RemovalDone (path ∷ passed) begun v new
removal_skips r new path passed begun v free path_is new_is k = subst (λ (x : Removing). RemovalDone (path ∷ passed) begun v x) (sym new_is) (by r.stage refl free)
  where
    by : (stage : RemovalStage) → r.stage ≡ stage → at_barrier stage ≡ false → RemovalAt (skipped_stage stage) r.path (path ∷ passed) begun v
    by Remove is off = left r path passed begun v is path_is k
    by Sync is off = absurd (let f : ⊥ = cc in f)
    by Finish is off = absurd (let f : ⊥ = cc in f)
    by PassedOver is off = absurd (let f : ⊥ = cc in f)

pub removal_ends : (r : Removing) (passed : List Route) (begun v : View) → is_done r.stage ≡ true → RemovalDone passed begun v r → IsEmptiedGone r.path passed begun v
removal_ends r passed begun v done k = by r.stage done k
  where
    by : (stage : RemovalStage) → is_done stage ≡ true → RemovalAt stage r.path passed begun v → IsEmptiedGone r.path passed begun v
    by Remove e h = absurd (let f : ⊥ = cc in f)
    by Sync e h = absurd (let f : ⊥ = cc in f)
    by Finish e h = record { gone = λ reached. h.1; stays = λ among. none_among passed r.path h.0 among }
    by PassedOver e h = record { gone = λ reached. absurd (reached h.0); stays = λ among. h.1 }

-- and it touches nothing but the folder
pub removal_touches : (replies : Replies) (r new : Removing) (did : Did) (path : Route) → Tells replies r did new → IsChanged did path → same_path path r.path ≡ true
removal_touches replies r new (Removed p) path (stage, path_is, new_is) (inl is) = subst (λ (q : Route). same_path q r.path ≡ true) (sym (is ∙ path_is)) (same_path-self r.path)
removal_touches replies r new (Removed p) path t (inr none) = absurd none
removal_touches replies r new (Began part) path t none = absurd t
removal_touches replies r new (Chunk count) path t none = absurd t
removal_touches replies r new (Placed p) path t among = absurd t
removal_touches replies r new (Made p) path t among = absurd t
removal_touches replies r new (Set p) path t among = absurd t
removal_touches replies r new (Asked question) path t none = absurd t
removal_touches replies r new (Merges transfer pair names) path t none = absurd t
removal_touches replies r new (Moved pair) path t changed = absurd t
removal_touches replies r new (Cleaned part) path t none = absurd t
removal_touches replies r new did path t none = absurd none
