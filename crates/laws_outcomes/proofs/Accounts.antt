-- What a copy that isn't finished has done, as the history shows it: of each path of the source it is passed over, or yet to be met, or its copy stands.
use Rattle.std.proofs.Common.{◌≡◌, ◌⊎◌, ℕ, true, false, List, [], ◌∷◌, ◌++◌, refl, sym, ◌∙◌, ap, subst, inl, inr, Option, Some, None}
use Rattle.std.specs.Bool.{⊤}
use Rattle.std.specs.Option.{option_map}
use Rattle.std.proofs.lemmas.Bool.{both_ways, false_from_ne_true}
use Rattle.std.proofs.lemmas.List.{append_assoc}
use Rattle.mc_text.specs.Routes.{Route, is_prefix, same_path}
use Rattle.mc_text.specs.declared.kind.Kind.TheVariants.{Folder}
use Rattle.tree_trait.specs.FileSystem.{Value, View, view_with}
use Rattle.tree_trait.specs.CrashImages.{Among}
use Rattle.tree_trait.proofs.Visible.{same_path-true}
use Rattle.job_reports.specs.Jobs.{Copies}
use Rattle.job_reports.specs.declared.job.Pair.{Pair}
use Rattle.job_reports.specs.declared.report.Did.{Did}
use Rattle.copy_file.specs.declared.stage.Next.TheVariants as next
use Rattle.copy_file.specs.declared.stage.Stage.{Stage as FileStage}
use Rattle.copy_file.specs.declared.stage.Stage.TheVariants as file_stage
use Rattle.copy_link.specs.declared.stage.Next.TheVariants as link_next
use Rattle.copy_link.specs.declared.stage.Stage.{Stage as LinkStage}
use Rattle.copy_link.specs.declared.stage.Stage.TheVariants as link_stage
use Rattle.copy_folders.specs.declared.stage.Stage.TheVariants as at
use Rattle.copy_folders.specs.declared.level.Level.{Level}
use Rattle.copy_tree.specs.declared.item.ItemAtWork.{ItemAtWork}
use Rattle.copy_tree.specs.declared.item.ItemAtWork.TheVariants.{Next, File, Link, Stays}
use Rattle.copy_tree.specs.declared.progress.Progress.TheVariants.{UnderWay}
use Rattle.copy_tree.specs.InPlace.{owed_of}
use Rattle.copy_tree.specs.Progress.{link_progress, progress}
use Rattle.copy_tree.specs.Standing.{Seen}
use Rattle.laws_sessions.specs.Replayed.{new_folder, placed_copy}
use Rattle.laws_sessions.proofs.Deleted.{put_at, put_off}
use Rattle.laws_sessions.proofs.Intact.{prefix_append, prefix_way}
use Rattle.laws_outcomes.specs.Outcomes.{as_copied, passed_in}

-- it lies at or below something that was passed over
abbrev pub IsCovered : List Route → Route → Type 0
IsCovered passed path = (left : Route) × Among passed left × (is_prefix left path ≡ true)

-- a copy of what stands at one path stands at the other
abbrev pub IsCopy : View → Route → Route → Type 0
IsCopy v source target = (v target).value ≡ option_map as_copied (v source).value

-- it lies at or below a name that is yet to be met in this folder
abbrev pub IsAhead : Level → Route → Type 0
IsAhead l path = (name : List ℕ) × Among l.names.names name × (is_prefix (name ∷ l.copy.source) path ≡ true)

-- it is the folder itself, which is to be given its mode
abbrev pub IsOwed : Level → Route → Type 0
IsOwed l path = (mode : ℕ) × (owed_of l.copy.stage ≡ Some mode) × (path ≡ l.copy.source)

abbrev pub IsDue : Level → Route → Type 0
IsDue l path = IsAhead l path ⊎ IsOwed l path

-- so it is of one of the open folders
abbrev pub IsPending : Level → List Level → Route → Type 0
IsPending inner [] path = IsDue inner path
IsPending inner (outer ∷ around) path = IsDue inner path ⊎ IsPending outer around path

-- what becomes of a path of the source: it is passed over, or yet to be met, or its copy stands
abbrev pub IsAccounted : View → List Route → Level → List Level → Route → Route → Type 0
IsAccounted v passed inner around source target = IsCovered passed source ⊎ (IsPending inner around source ⊎ IsCopy v source target)

-- A file or a link, and a target that is no folder: nothing stands below either.
pub record IsPlain (v : View) (source target : Route) : Type 0 where
  pub plain : option_map as_copied (v source).value ≡ option_map placed_copy (v source).value
  pub below : (name : List ℕ) (rest : Route) → (v (name ∷ (rest ++ source))).value ≡ None
  pub under : (name : List ℕ) (rest : Route) → (v (name ∷ (rest ++ target))).value ≡ None

-- Nothing stands at the target; or no folder is open around, so that what is copied itself goes there, and may replace what stands there.
abbrev pub IsRoom : View → List Level → Route → Type 0
IsRoom v around target = ((v target).value ≡ None) ⊎ (around ≡ [])

-- such a copy may be placed
abbrev pub CanPlace : View → List Level → Route → Route → Type 0
CanPlace v around source target = IsPlain v source target × IsRoom v around target

-- its copy stands, and nothing below that; but for what lies at the target of all
abbrev pub AllCopied : View → Route → Route → Route → Type 0
AllCopied v top source target = (rest : Route) → is_prefix top (rest ++ source) ≡ false → IsCopy v (rest ++ source) (rest ++ target)

-- what the copy of a file has done, by where it stands
abbrev pub FileDone : View → List Route → Route → List Level → Route → Route → FileStage → Type 0
FileDone v passed top around source target file_stage.Begin = ⊤
FileDone v passed top around source target (file_stage.Fill part facts done) = CanPlace v around source target
FileDone v passed top around source target (file_stage.Clean part next.Begin) = ⊤
FileDone v passed top around source target (file_stage.Clean part next.Decided) = IsCovered passed source
FileDone v passed top around source target (file_stage.Left part) = ⊤
FileDone v passed top around source target file_stage.Decided = IsCovered passed source ⊎ AllCopied v top source target

-- so it is of the copy of a link
abbrev pub LinkDone : View → List Route → Route → List Level → Route → Route → LinkStage → Type 0
LinkDone v passed top around source target link_stage.Make = CanPlace v around source target
LinkDone v passed top around source target link_stage.Place = CanPlace v around source target
LinkDone v passed top around source target (link_stage.Clean link_next.Again) = ⊤
LinkDone v passed top around source target (link_stage.Clean link_next.Decided) = IsCovered passed source
LinkDone v passed top around source target link_stage.Left = ⊤
LinkDone v passed top around source target link_stage.Again = ⊤
LinkDone v passed top around source target link_stage.Decided = IsCovered passed source ⊎ AllCopied v top source target

-- it has the next name
abbrev pub IsNext : Level → Route → Type 0
IsNext l path = (name : List ℕ) × (names : List (List ℕ)) × (l.names.names ≡ name ∷ names) × (path ≡ name ∷ l.copy.source)

-- what is at work has the next name
abbrev pub ItemDone : View → List Route → Route → Level → List Level → ItemAtWork → Type 0
ItemDone v passed top inner around Next = ⊤
ItemDone v passed top inner around (File f) = (progress f.stage ≡ UnderWay) × IsNext inner f.source × FileDone v passed top around f.source f.target f.stage
ItemDone v passed top inner around (Link l) = (link_progress l.stage ≡ UnderWay) × IsNext inner l.source × LinkDone v passed top around l.source l.target l.stage
ItemDone v passed top inner around (Stays part) = ⊤

-- a folder was made at a target for the one that stands at its source, all names of which can be shown
pub record IsShown (v : View) (source target : Route) : Type 0 where
  pub x : Value
  pub stands : (v source).value ≡ Some x
  pub folder : x.kind ≡ Folder
  pub named : x.unnamed ≡ 0
  pub mode : ℕ
  pub made : (v target).value ≡ Some (record new_folder { mode = mode })

-- So it is of a folder that is open.
pub record IsOpened (v : View) (top : Route) (l : Level) : Type 0 where
  pub made : (mode : ℕ) → l.copy.stage ≡ at.Make mode → ⊥
  pub shown : is_prefix top l.copy.source ≡ false → IsShown v l.copy.source l.copy.target

abbrev pub AreOpened : View → Route → Level → List Level → Type 0
AreOpened v top inner [] = ⊤
AreOpened v top inner (outer ∷ around) = IsOpened v top inner × AreOpened v top outer around

-- what such a copy has passed over once it has reported this; where it keeps what stands at its target, its source
abbrev pub passed_at : Pair → Did → List Route → List Route
passed_at top did passed = passed_in (Some (Copies top.source top.target)) did passed

-- What the copy of a thing with all that lies in it has done; paths at or below the target are none of the source.
pub record TreeDone (v : View) (passed : List Route) (top : Pair) (c : Seen) : Type 0 where
  pub things : (rest : Route) → is_prefix top.target (rest ++ top.source) ≡ false → IsAccounted v passed c.levels.inner c.levels.around (rest ++ top.source) (rest ++ top.target)
  pub folders : AreOpened v top.target c.levels.inner c.levels.around
  pub item : ItemDone v passed top.target c.levels.inner c.levels.around c.item

-- what is covered stays so as more is passed over
pub covered_more : (passed : List Route) (left path : Route) → IsCovered passed path → IsCovered (left ∷ passed) path
covered_more passed left path (p, among, above) = (p, inr among, above)

pub covered_now : (passed : List Route) (left path : Route) → is_prefix left path ≡ true → IsCovered (left ∷ passed) path
covered_now passed left path above = (left, inl refl, above)

-- a path below another lies below what that lies below
pub prefix_through : (a b path : Route) → is_prefix a b ≡ true → is_prefix b path ≡ true → is_prefix a path ≡ true
prefix_through a b path ab bp =
    let w = prefix_way a b ab in
    let u = prefix_way b path bp in
    subst (λ p. is_prefix a p ≡ true) (sym (u.1 ∙ (ap (λ q. u.0 ++ q) w.1 ∙ sym (append_assoc u.0 w.0 a)))) (prefix_append a (u.0 ++ w.0))

pub covered_below : (passed : List Route) (up path : Route) → is_prefix up path ≡ true → IsCovered passed up → IsCovered passed path
covered_below passed up path below (p, among, above) = (p, among, prefix_through p up path above below)

-- a path off the target of all isn't one at or below it
pub apart_from : (top path place : Route) → is_prefix top path ≡ false → is_prefix top place ≡ true → same_path path place ≡ false
apart_from top path place off on = false_from_ne_true _ (λ same. both_ways _ off (subst (λ p. is_prefix top p ≡ true) (sym (same_path-true path place same)) on))

-- a view that is another at one path
module _ (v : View) (path : Route) (new : Option Value) where
  pub put_value : (view_with v path new path).value ≡ new
  put_value = ap (λ s. s.value) (put_at v path new)

  pub put_same : (p : Route) → same_path p path ≡ false → (view_with v path new p).value ≡ (v p).value
  put_same p off = ap (λ s. s.value) (put_off v path new p off)

  -- a copy that stood, and whose paths are others, stands
  pub copy_off : (source target : Route) → same_path source path ≡ false → same_path target path ≡ false → IsCopy v source target → IsCopy (view_with v path new) source target
  copy_off source target s t is = put_same target t ∙ (is ∙ ap (option_map as_copied) (sym (put_same source s)))
