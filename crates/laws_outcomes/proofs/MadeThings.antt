-- What a making, and the setting of a mode, know of what they leave.
use Rattle.std.proofs.Common.{◌≡◌, ◌⊎◌, ℕ, true, [], ◌∷◌, refl, sym, ◌∙◌, ap, subst, inl, inr, List, Some}
use Rattle.std.specs.Prelude.{⊤}
use Rattle.std.specs.Option.{option_map}
use Rattle.std.proofs.lemmas.Bool.{both_ways}
use Rattle.mc_text.specs.Routes.{Route}
use Rattle.tree_trait.specs.FileSystem.{Spot, Value, View, view_with}
use Rattle.tree_trait.specs.Change.{CallLog}
use Rattle.tree_trait.specs.CrashImages.{Among}
use Rattle.job_answers.specs.declared.replies.Replies.{Replies}
use Rattle.job_reports.specs.declared.report.Did.{Did}
use Rattle.job_reports.specs.declared.report.Did.TheVariants.{Began, Chunk, Placed, Removed, Made, Set, Kept, Skipped, Cleaned, Barrier, Asked, Merges, Moved, Troubled, Ended}
use Rattle.job_reports.specs.Jobs.{Sets}
use Rattle.mode_job.specs.declared.setting.Stage.{Stage}
use Rattle.mode_job.specs.declared.setting.Stage.TheVariants as setting
use Rattle.mode_job.specs.Settings as settings
use Rattle.mode_job.specs.Settings.{Setting}
use Rattle.make_job.specs.declared.making.MakingStage.{MakingStage}
use Rattle.make_job.specs.declared.making.MakingStage.TheVariants as making
use Rattle.make_job.specs.declared.new_thing.NewThing.{NewThing}
use Rattle.make_job.specs.declared.new_thing.NewThing.TheVariants as thing
use Rattle.make_job.specs.Makings as makings
use Rattle.make_job.specs.Makings.{Making}
use Rattle.laws_sessions.specs.Replayed.{made_by, new_folder, new_link, replayed_step, set_by, with_mode}
use Rattle.laws_sessions.proofs.Deleted.{put_at}
use Rattle.laws_sessions.proofs.Intact.{prefix_append}
use Rattle.laws_sessions.proofs.Sources.{making_item}
use Rattle.laws_outcomes.specs.Outcomes.{IsMade, IsOutcome, IsReached, IsSet, passed_by}

-- this holds after a report, unless it is that of an end
abbrev pub Unless : Did → Type 0 → Type 0
Unless (Ended ending part) Holds = ⊤
Unless (Began part) Holds = Holds
Unless (Chunk count) Holds = Holds
Unless (Placed path) Holds = Holds
Unless (Removed path) Holds = Holds
Unless (Made made) Holds = Holds
Unless (Set path) Holds = Holds
Unless (Kept kept) Holds = Holds
Unless (Asked question) Holds = Holds
Unless (Merges transfer pair names) Holds = Holds
Unless (Moved pair) Holds = Holds
Unless (Skipped path cause) Holds = Holds
Unless (Cleaned part) Holds = Holds
Unless Barrier Holds = Holds
Unless (Troubled trouble) Holds = Holds

pub unless_of : (did : Did) (Holds : Type 0) → Holds → Unless did Holds
unless_of (Ended ending part) Holds h = tt
unless_of (Began part) Holds h = h
unless_of (Chunk count) Holds h = h
unless_of (Placed path) Holds h = h
unless_of (Removed path) Holds h = h
unless_of (Made made) Holds h = h
unless_of (Set path) Holds h = h
unless_of (Kept kept) Holds h = h
unless_of (Asked question) Holds h = h
unless_of (Merges transfer pair names) Holds h = h
unless_of (Moved pair) Holds h = h
unless_of (Skipped path cause) Holds h = h
unless_of (Cleaned part) Holds h = h
unless_of Barrier Holds h = h
unless_of (Troubled trouble) Holds h = h

-- what was passed over isn't reached
pub not_reached : {A : Type 0} (passed : List Route) (path : Route) → Among passed path → IsReached passed path → A
not_reached passed path among reached = absurd (both_ways _ (reached path among) (prefix_append path []))

-- what is made
abbrev pub value_of : NewThing → Value
value_of thing.Folder = new_folder
value_of (thing.Link text) = new_link text

abbrev pub MakingAt : MakingStage → NewThing → Route → List Route → View → Type 0
MakingAt making.Make new path passed v = ⊤
MakingAt making.Sync new path passed v = (v path).value ≡ Some (value_of new)
MakingAt making.Finish new path passed v = (v path).value ≡ Some (value_of new)
MakingAt making.PassedOver new path passed v = Among passed path

abbrev pub MakingDone : List Route → View → Making → Type 0
MakingDone passed v m = MakingAt m.stage m.thing m.path passed v

-- it is what the history says of its making
made_is : (new : NewThing) (path made : Route) (v : View) → made_by (Some (making_item new path)) made v ≡ value_of new
made_is thing.Folder path made v = refl
made_is (thing.Link text) path made v = refl

pub making_steps : (m new : Making) (did : Did) (log : CallLog) (passed : List Route) (v : View) → makings.Tells m did new → MakingDone passed v m
    → Unless did (MakingDone (passed_by did passed) (replayed_step log did (Some (making_item m.thing m.path)) v) new)
making_steps m new (Made path) log passed v (stage, path_is, new_is) k =
    subst (λ (x : Making). MakingDone passed (view_with v path (Some (made_by (Some (making_item m.thing m.path)) path v))) x) (sym new_is)
    (subst (λ (p : Route). (view_with v p (Some (made_by (Some (making_item m.thing m.path)) p v)) m.path).value ≡ Some (value_of m.thing)) (sym path_is)
    (ap (λ (s : Spot). s.value) (put_at v m.path (Some (made_by (Some (making_item m.thing m.path)) m.path v))) ∙ ap Some (made_is m.thing m.path m.path v)))
making_steps m new Barrier log passed v (stage, new_is) k =
    subst (λ (x : Making). MakingDone passed v x) (sym new_is) (subst (λ st. MakingAt st m.thing m.path passed v) stage k)
making_steps m new (Troubled trouble) log passed v (at, new_is) k = subst (λ (x : Making). MakingDone passed v x) (sym new_is) k
making_steps m new (Ended ending part) log passed v t k = tt
making_steps m new (Began part) log passed v t k = absurd t
making_steps m new (Chunk count) log passed v t k = absurd t
making_steps m new (Set path) log passed v t k = absurd t
making_steps m new (Placed path) log passed v t k = absurd t
making_steps m new (Removed made) log passed v t k = absurd t
making_steps m new (Kept kept) log passed v t k = absurd t
making_steps m new (Asked question) log passed v t k = absurd t
making_steps m new (Merges transfer pair names) log passed v t k = absurd t
making_steps m new (Moved pair) log passed v t k = absurd t
making_steps m new (Skipped path why) log passed v t k = absurd t
making_steps m new (Cleaned part) log passed v t k = absurd t

pub making_skips : (m new : Making) (path : Route) (passed : List Route) (v : View) → path ≡ m.path → new ≡ record m { stage = makings.skipped_stage m.stage } → MakingDone passed v m → MakingDone (path ∷ passed) v new
making_skips m new path passed v path_is new_is k = subst (λ (x : Making). MakingDone (path ∷ passed) v x) (sym new_is) (by m.stage k)
  where
    by : (stage : MakingStage) → MakingAt stage m.thing m.path passed v → MakingAt (makings.skipped_stage stage) m.thing m.path (path ∷ passed) v
    by making.Make k = inl (sym path_is)
    by making.Sync k = k
    by making.Finish k = k
    by making.PassedOver k = inr k

pub making_ends : (m : Making) (passed : List Route) (begun v : View) → makings.is_done m.stage ≡ true → MakingDone passed v m → IsOutcome (making_item m.thing m.path) passed begun v
making_ends m passed begun v is_done k = of_thing m.thing (λ reached. by m.stage is_done k reached)
  where
    by : (stage : MakingStage) → makings.is_done stage ≡ true → MakingAt stage m.thing m.path passed v → IsReached passed m.path → (v m.path).value ≡ Some (value_of m.thing)
    by making.Make e k reached = absurd (let f : ⊥ = cc in f)
    by making.Sync e k reached = absurd (let f : ⊥ = cc in f)
    by making.Finish e k reached = k
    by making.PassedOver e k reached = not_reached passed m.path k reached

    of_thing : (new : NewThing) → IsMade m.path (value_of new) passed v → IsOutcome (making_item new m.path) passed begun v
    of_thing thing.Folder h = h
    of_thing (thing.Link text) h = h

-- a path has this mode
abbrev pub HasMode : Route → ℕ → View → Type 0
HasMode path mode v = option_map (λ (x : Value). x.mode) (v path).value ≡ Some mode

abbrev pub SettingAt : Stage → Route → ℕ → List Route → View → Type 0
SettingAt setting.Give path mode passed v = ⊤
SettingAt setting.Sync path mode passed v = HasMode path mode v
SettingAt setting.Done path mode passed v = HasMode path mode v ⊎ Among passed path

abbrev pub SettingDone : List Route → View → Setting → Type 0
SettingDone passed v s = SettingAt s.stage s.path s.mode passed v

-- what stands somewhere has the mode that it is given
given : (path : Route) (mode : ℕ) (v : View) (x : Value) → (v path).value ≡ Some x → HasMode path mode (set_by (Some (Sets path mode)) path v)
given path mode v x there =
    ap (λ (s : Spot). option_map (λ (y : Value). y.mode) s.value) (put_at v path (option_map (with_mode mode) (v path).value)) ∙ ap (λ o. option_map (λ (y : Value). y.mode) (option_map (with_mode mode) o)) there

pub setting_steps : (replies : Replies) (s new : Setting) (did : Did) (log : CallLog) (passed : List Route) (v : View) → settings.Tells replies s did new → ((path : Route) → did ≡ Set path → (x : Value) × ((v s.path).value ≡ Some x)) → SettingDone passed v s
    → Unless did (SettingDone (passed_by did passed) (replayed_step log did (Some (Sets s.path s.mode)) v) new)
setting_steps replies s new (Set path) log passed v (stage, path_is, new_is) stands k =
    let there = stands path refl in
    subst (λ (x : Setting). SettingDone passed (set_by (Some (Sets s.path s.mode)) path v) x) (sym new_is)
    (subst (λ (p : Route). HasMode s.path s.mode (set_by (Some (Sets s.path s.mode)) p v)) (sym path_is) (given s.path s.mode v there.0 there.1))
setting_steps replies s new Barrier log passed v (stage, new_is) stands k =
    subst (λ (x : Setting). SettingDone passed v x) (sym new_is) (inl (subst (λ st. SettingAt st s.path s.mode passed v) stage k))
setting_steps replies s new (Troubled trouble) log passed v (barrier, told, new_is) stands k = subst (λ (x : Setting). SettingDone passed v x) (sym new_is) k
setting_steps replies s new (Ended ending part) log passed v t stands k = tt
setting_steps replies s new (Began part) log passed v t stands k = absurd t
setting_steps replies s new (Chunk count) log passed v t stands k = absurd t
setting_steps replies s new (Made path) log passed v t stands k = absurd t
setting_steps replies s new (Placed path) log passed v t stands k = absurd t
setting_steps replies s new (Removed made) log passed v t stands k = absurd t
setting_steps replies s new (Kept kept) log passed v t stands k = absurd t
setting_steps replies s new (Asked question) log passed v t stands k = absurd t
setting_steps replies s new (Merges transfer pair names) log passed v t stands k = absurd t
setting_steps replies s new (Moved pair) log passed v t stands k = absurd t
setting_steps replies s new (Skipped path why) log passed v (stage, path_is, passes, new_is) stands k =
    subst (λ (x : Setting). SettingDone (path ∷ passed) v x) (sym new_is) (inr (inl (sym path_is)))
setting_steps replies s new (Cleaned part) log passed v t stands k = absurd t

pub setting_skips : (s new : Setting) (path : Route) (passed : List Route) (v : View) → path ≡ s.path → new ≡ record s { stage = settings.skipped_stage s.stage } → SettingDone passed v s → SettingDone (path ∷ passed) v new
setting_skips s new path passed v path_is new_is k = subst (λ (x : Setting). SettingDone (path ∷ passed) v x) (sym new_is) (by s.stage k)
  where
    by : (stage : Stage) → SettingAt stage s.path s.mode passed v → SettingAt (settings.skipped_stage stage) s.path s.mode (path ∷ passed) v
    by setting.Give k = inr (inl (sym path_is))
    by setting.Sync k = k
    by setting.Done (inl k) = inl k
    by setting.Done (inr k) = inr (inr k)

pub setting_ends : (s : Setting) (passed : List Route) (v : View) → s.stage ≡ setting.Done → SettingDone passed v s → IsSet s.path s.mode passed v
setting_ends s passed v stage k reached = by (subst (λ st. SettingAt st s.path s.mode passed v) stage k)
  where
    by : HasMode s.path s.mode v ⊎ Among passed s.path → HasMode s.path s.mode v
    by (inl h) = h
    by (inr among) = not_reached passed s.path among reached
