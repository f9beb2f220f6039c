-- What is known of a live job that copies a thing with all that lies in it.
use Rattle.std.proofs.Common.{◌≡◌, ◌⊎◌, ℕ, Bool, true, false, List, ◌∷◌, ◌++◌, refl, sym, ◌∙◌, ap, subst, inl, inr, Option, Some, None, cond}
use Rattle.std.specs.Prelude.{if◌then◌else◌}
use Rattle.std.proofs.lemmas.Bool.{both_ways}
use Rattle.mc_text.specs.Routes.{Route}
use Rattle.tree_trait.specs.declared.file_system.FileSystem.{FileSystem}
use Rattle.tree_trait.specs.FileSystem.{View, find, starts_mount, node}
use Rattle.tree_trait.specs.Shape.{IsTree}
use Rattle.tree_trait.specs.Change.{Change, Nothing, Syncs, CallLog, current, with_change}
use Rattle.tree_trait.specs.CrashImages.{alters, is_clean, says}
use Rattle.laws_crash.specs.Guarded.{Marks}
use Rattle.laws_crash.proofs.Leading.{current_more}
use Rattle.job_reports.specs.Paths.{folder_of}
use Rattle.copy_file.specs.Copying as file
use Rattle.copy_file.specs.declared.stage.Stage.{Stage as FileStage}
use Rattle.copy_file.specs.declared.stage.Stage.TheVariants as file_stage
use Rattle.copy_link.specs.LinkCopying as link
use Rattle.copy_tree.specs.InPlace.{IsInPlace}
use Rattle.copy_tree.specs.Standing.{Seen, is_fresh}
use Rattle.copy_tree.specs.declared.item.ItemAtWork.{ItemAtWork}
use Rattle.copy_tree.specs.declared.item.ItemAtWork.TheVariants.{Next, File, Link, Stays}
use Rattle.copy_job.specs.Standing.{SubtreeCopying, part_of}
use Rattle.copy_job.specs.Unbegun.{IsUnbegun}
use Rattle.copy_move.specs.declared.run.Course.{Course}
use Rattle.copy_move.specs.declared.run.Course.TheVariants.{GoesOn, Asking, InTrouble, OwedSyncFailed, Skips, Ends}
use Rattle.tree_trait.specs.Refusals.{is_folder}
use Rattle.job_reports.specs.declared.job.Pair.{Pair}
use Rattle.laws_sessions.proofs.BareTargets.{IsCalmFrom, bare_quiet}
use Rattle.laws_sessions.proofs.AtWork.{ItemKnown}
use Rattle.laws_sessions.proofs.Calm.{IsCalmOr, MayWait, PartCalm}
use Rattle.laws_sessions.proofs.CalmChanges.{calm_quiet}
use Rattle.laws_sessions.proofs.CopyLaws.{CopyKnown}
use Rattle.laws_sessions.proofs.DirtyListed.{MarksListed}
use Rattle.laws_sessions.proofs.FoldersEnd.{EndsLast}
use Rattle.laws_sessions.proofs.FoldersLie.{AreLaid}
use Rattle.laws_sessions.proofs.KnownParts.{may_fill, FileKnows, HasName, IsLeftPart, LinkKnows, StageKnows, file_course, file_said, file_settled, link_knows_settled, link_left, link_said, part_left}
use Rattle.laws_sessions.proofs.Knowing.{HistoryFacts, settled_marks}
use Rattle.laws_sessions.proofs.NameChanges.{waits_quiet}
use Rattle.laws_sessions.proofs.Names.{IsMarked, IsMarkedIn, WaitsMarked}
use Rattle.laws_sessions.proofs.OpenFolders.{LevelsKnow}
use Rattle.laws_sessions.proofs.OwedModes.{OwedModes}
use Rattle.laws_sessions.proofs.OwnNames.{IsOwnName}
use Rattle.laws_sessions.proofs.PartTexts.{IsLinkAs, TextKnown}
use Rattle.laws_sessions.proofs.TreeKnows.{levels_quiet}
use Rattle.laws_sessions.proofs.TreeRuns.{has_quiet}

-- a job in its last steps
abbrev pub is_over : Course → Bool
is_over (Ends ending) = true
is_over GoesOn = false
is_over (InTrouble why) = false
is_over (OwedSyncFailed why) = false
is_over Asking = false
is_over (Skips why) = false

-- what is known of the part, by what is at work
abbrev pub ItemHas : HistoryFacts → List Route → Marks → FileSystem → Course → ItemAtWork → Type 0
ItemHas told dirty marks s course Next = told.part ≡ None
ItemHas told dirty marks s course (File f) = FileKnows told dirty marks s course f
ItemHas told dirty marks s course (Link l) = (link.has_part l.stage ≡ true) × LinkKnows told dirty marks s l.source l.target l.part
ItemHas told dirty marks s course (Stays part) = IsLeftPart told s part

-- what is known of a part that a last step leaves, if one stands
abbrev pub LeavesPart : HistoryFacts → FileSystem → Option Route → Type 0
LeavesPart told s None = told.part ≡ None
LeavesPart told s (Some part) = IsLeftPart told s part

-- no mode waits of what stands at the target, but that of a folder
abbrev pub IsCalmBut : Marks → FileSystem → Route → Type 0
IsCalmBut marks s target = (i : ℕ) → find s target ≡ Some i → is_folder (node s i) ≡ false → (marks.modes i ≡ None) ⊎ (starts_mount s i ≡ true)

-- The history says that the target is calm; or it was given its mode, and nothing is at work any more.
abbrev pub TargetKnows : HistoryFacts → Marks → FileSystem → SubtreeCopying → Type 0
TargetKnows told marks s c = (told.calm c.top.target ≡ true) ⊎ ((c.at.item ≡ Next) × IsCalmBut marks s c.top.target)

-- how the copy stands, whatever was changed: a fact of the machine and of the list of dirty folders
pub record TreeStands (dirty : List Route) (c : SubtreeCopying) : Type 0 where
  pub in_place : IsInPlace c.top c.at
  pub laid : AreLaid c.at.name c.at.levels.inner c.at.levels.around
  pub ends : EndsLast c.at
  pub unbegun : IsUnbegun c.at
  pub marked : IsMarked c.at
  pub listed : MarksListed dirty c.at

-- the source doesn't lie below the target
abbrev pub LiesOutside : Pair → Type 0
LiesOutside top = (name : List ℕ) (rest : Route) → top.source ≡ name ∷ rest ++ top.target → ⊥

-- what is known once something was changed: the source doesn't lie below the target; and of the open folders, of the file or link at work, of what
-- lies at and below the target, and of the target itself
pub record TreeHas (told : HistoryFacts) (marks : Marks) (log : CallLog) (c : SubtreeCopying) : Type 0 where
  pub outside : LiesOutside c.top
  pub levels : LevelsKnow log c.at.name c.at.levels
  pub item : ItemKnown log c.at c.at.item
  pub text : TextKnown log c.at.item
  pub whole : PartCalm log c.at.item
  pub calm : (rest : Route) → IsCalmFrom log c.at c.top.target rest
  pub names : (name : List ℕ) (up : Route) → IsOwnName c.at.job c.top (name ∷ up) → WaitsMarked log c.at name up
  pub modes : OwedModes told.tree c.at
  pub folder : told.folders (folder_of c.top.target) ≡ true
  pub around : TargetKnows told marks (current log) c

-- so as the laws of the machine want it
pub copy_known : (told : HistoryFacts) (dirty : List Route) (marks : Marks) (log : CallLog) (c : SubtreeCopying) → TreeStands dirty c → TreeHas told marks log c → CopyKnown log c.at
copy_known told dirty marks log c stands has = ((has.levels, stands.laid), has.item)

-- A copy that isn't in its last steps.
pub record TreeGoes (told : HistoryFacts) (dirty : List Route) (marks : Marks) (log : CallLog) (c : SubtreeCopying) : Type 0 where
  pub stands : TreeStands dirty c
  pub begun : is_fresh c.at.stage ≡ false → TreeHas told marks log c

pub record TreeKnown (told : HistoryFacts) (dirty : List Route) (marks : Marks) (log : CallLog) (course : Course) (c : SubtreeCopying) : Type 0 where
  pub name : HasName c.top.target
  pub part : ItemHas told dirty marks (current log) course c.at.item
  pub goes : is_over course ≡ false → TreeGoes told dirty marks log c

-- what the item at work leaves if all ends now
pub leaves_part : (told : HistoryFacts) (dirty : List Route) (marks : Marks) (s : FileSystem) (course : Course) (item : ItemAtWork) → ItemHas told dirty marks s course item → LeavesPart told s (part_of item)
leaves_part told dirty marks s course Next none = none
leaves_part told dirty marks s course (File f) (name, listed, stage) = by f.stage stage
  where
    by : (stage : FileStage) → StageKnows told marks s course f stage → LeavesPart told s (file.part_at stage)
    by file_stage.Begin k = k.0
    by (file_stage.Fill part said done) k = part_left told marks s f.target part k.1.0 k.1.1
    by (file_stage.Clean part follows) k = part_left told marks s f.target part k.1.0 k.1.1
    by (file_stage.Left part) k = part_left told marks s f.target part k.0 k.1
    by file_stage.Decided k = k
leaves_part told dirty marks s course (Link l) (stands, k) =
    subst (λ b. LeavesPart told s (if◌then◌else◌ b (Some l.part) None)) (sym stands) (link_left told marks s l.target l.part k.text k.i k.has)
leaves_part told dirty marks s course (Stays part) k = k

-- It is known with the marks that are settled.
module _ (log : CallLog) (marks : Marks) (told : HistoryFacts) where
  pub item_settled : (dirty : List Route) (course : Course) (item : ItemAtWork) → ItemHas told dirty marks (current log) course item → ItemHas told dirty (settled_marks log marks) (current log) course item
  item_settled dirty course Next none = none
  item_settled dirty course (File f) k = file_settled log marks told dirty course f k
  item_settled dirty course (Link l) (stands, k) = (stands, link_knows_settled log marks told dirty l.source l.target l.part k)
  item_settled dirty course (Stays part) k = k

  no_mode : (i : ℕ) → marks.modes i ≡ None → (let m = settled_marks log marks in m.modes i) ≡ None
  no_mode i none = by (is_clean i log.changes)
    where
      by : (b : Bool) → cond b (let o : Option ℕ = None in o) (marks.modes i) ≡ None
      by true = refl
      by false = none

  pub but_settled : (target : Route) → IsCalmBut marks (current log) target → IsCalmBut (settled_marks log marks) (current log) target
  but_settled target calm i at bare = elim (calm i at bare) [ inl none ↦ inl (no_mode i none) | inr begins ↦ inr begins ]

  pub around_settled : (c : SubtreeCopying) → TargetKnows told marks (current log) c → TargetKnows told (settled_marks log marks) (current log) c
  around_settled c (inl calm) = inl calm
  around_settled c (inr (none, calm)) = inr (none, but_settled c.top.target calm)

  has_settled : (c : SubtreeCopying) → TreeHas told marks log c → TreeHas told (settled_marks log marks) log c
  has_settled c h = record {
    outside = h.outside;
    levels = h.levels;
    item = h.item;
    text = h.text;
    whole = h.whole;
    calm = h.calm;
    names = h.names;
    modes = h.modes;
    folder = h.folder;
    around = around_settled c h.around;
  }

  pub tree_settled : (dirty : List Route) (course : Course) (c : SubtreeCopying) → TreeKnown told dirty marks log course c → TreeKnown told dirty (settled_marks log marks) log course c
  tree_settled dirty course c k = record {
    name = k.name;
    part = item_settled dirty course c.at.item k.part;
    goes = λ on. let g = k.goes on in record { stands = g.stands; begun = λ some. has_settled c (g.begun some) };
  }

-- a job that goes on only where it went on, and isn't over where it wasn't, knows what it knew
pub item_course : (told : HistoryFacts) (dirty : List Route) (marks : Marks) (s : FileSystem) (course other : Course) (item : ItemAtWork) → (may_fill other ≡ true → may_fill course ≡ true) → ItemHas told dirty marks s course item → ItemHas told dirty marks s other item
item_course told dirty marks s course other Next on none = none
item_course told dirty marks s course other (File f) on k = file_course told dirty marks s course other f on k
item_course told dirty marks s course other (Link l) on k = k
item_course told dirty marks s course other (Stays part) on k = k

pub tree_course : (told : HistoryFacts) (dirty : List Route) (marks : Marks) (log : CallLog) (course other : Course) (c : SubtreeCopying) → (may_fill other ≡ true → may_fill course ≡ true) → (is_over other ≡ false → is_over course ≡ false)
    → TreeKnown told dirty marks log course c → TreeKnown told dirty marks log other c
tree_course told dirty marks log course other c on over k =
    record { name = k.name; part = item_course told dirty marks (current log) course other c.at.item on k.part; goes = λ still. k.goes (over still) }

-- What is known holds on after a call that changes nothing but what waits: a sync, or one that was refused.
abbrev pub IsStill : CallLog → CallLog → Type 0
IsStill log now = (c : Change) × (now ≡ with_change log c) × ((c ≡ Nothing) ⊎ ((f : ℕ) × (c ≡ Syncs f)))

module _ (told : HistoryFacts) (dirty : List Route) (marks : Marks) (log : CallLog) (tree : IsTree (current log)) (c : Change) (same : current (with_change log c) ≡ current log)
    (none : (n g : ℕ) (m : List ℕ) → says c n g m ≡ None) (alters_none : (i : ℕ) → alters i c ≡ false) where
  abbrev after : CallLog
  after = with_change log c

  item_still : (course : Course) (item : ItemAtWork) → ItemHas told dirty marks (current log) course item → ItemHas told dirty marks (current after) course item
  item_still course item k = subst (λ (s : FileSystem). ItemHas told dirty marks s course item) (sym same) k

  known_still : (s : Seen) (item : ItemAtWork) → ItemKnown log s item → ItemKnown after s item
  known_still s Next k = tt
  known_still s (File f) (clean, going, within, has) = (clean, going, within, λ part is. has_quiet s.name s.levels part f.target log c tree none (has part is))
  known_still s (Link l) (clean, going, within, has) = (clean, going, within, λ is. has_quiet s.name s.levels l.part l.target log c tree none (has is))
  known_still s (Stays part) k = tt

  text_still : (item : ItemAtWork) → TextKnown log item → TextKnown after item
  text_still Next k = tt
  text_still (File f) k = tt
  text_still (Link l) k = λ has. subst (λ (s : FileSystem). IsLinkAs s l.part l.source) (sym same) (k has)
  text_still (Stays part) k = tt

  calm_still : (path : Route) (E : Type 0) → IsCalmOr path log E → IsCalmOr path after E
  calm_still path E calm = calm_quiet path log c E E calm none (λ i at altered. absurd (both_ways _ (alters_none i) altered)) (λ e. e)

  part_still : (item : ItemAtWork) → PartCalm log item → PartCalm after item
  part_still Next k = tt
  part_still (File f) k = tt
  part_still (Link l) k = λ has. calm_still l.part ⊥ (k has)
  part_still (Stays part) k = tt

  has_still : (t : SubtreeCopying) → TreeHas told marks log t → TreeHas told marks after t
  has_still t h = record {
    outside = h.outside;
    levels = levels_quiet log c tree none t.at.name t.at.levels h.levels;
    item = known_still t.at t.at.item h.item;
    text = text_still t.at.item h.text;
    whole = part_still t.at.item h.whole;
    calm = λ rest. elim (h.calm rest) [
      | inl calm ↦ inl (calm_still (rest ++ t.top.target) (MayWait t.at (rest ++ t.top.target)) calm)
      | inr b ↦ inr (b.0, bare_quiet t.top.target log c tree none b.1, b.2)
    ];
    names = λ name up own. waits_quiet name up log c (IsMarkedIn up t.at.levels.inner t.at.levels.around) (IsMarkedIn up t.at.levels.inner t.at.levels.around) (h.names name up own) none (λ e. e);
    modes = h.modes;
    folder = h.folder;
    around = subst (λ (s : FileSystem). TargetKnows told marks s t) (sym same) h.around;
  }

  pub tree_quiet : (course : Course) (t : SubtreeCopying) → TreeKnown told dirty marks log course t → TreeKnown told dirty marks after course t
  tree_quiet course t k = record {
    name = k.name;
    part = item_still course t.at.item k.part;
    goes = λ on. let g = k.goes on in record { stands = g.stands; begun = λ some. has_still t (g.begun some) };
  }

pub tree_still : (told : HistoryFacts) (dirty : List Route) (marks : Marks) (log now : CallLog) (course : Course) (t : SubtreeCopying) → IsTree (current log) → IsStill log now → TreeKnown told dirty marks log course t
    → TreeKnown told dirty marks now course t
tree_still told dirty marks log now course t tree (c, is, how) k = subst (λ (l : CallLog). TreeKnown told dirty marks l course t) (sym is) (by c how)
  where
    by : (c : Change) → (c ≡ Nothing) ⊎ ((f : ℕ) × (c ≡ Syncs f)) → TreeKnown told dirty marks (with_change log c) course t
    by c (inl none) = subst (λ (x : Change). TreeKnown told dirty marks (with_change log x) course t) (sym none) (tree_quiet told dirty marks log tree Nothing (current_more log Nothing) (λ n g m. refl) (λ i. refl) course t k)
    by c (inr (f, sync)) = subst (λ (x : Change). TreeKnown told dirty marks (with_change log x) course t) (sym sync) (tree_quiet told dirty marks log tree (Syncs f) (current_more log (Syncs f)) (λ n g m. refl) (λ i. refl) course t k)

-- Of what a history says it hangs on the tree, the part, the folders on the disk and the calm paths.
module _ (told other : HistoryFacts) (tree_same : other.tree ≡ told.tree) (part_same : other.part ≡ told.part) (folders_same : other.folders ≡ told.folders) (calm_same : other.calm ≡ told.calm) (dirty : List Route) (marks : Marks) (log : CallLog) where
  item_said : (course : Course) (item : ItemAtWork) → ItemHas told dirty marks (current log) course item → ItemHas other dirty marks (current log) course item
  item_said course Next none = part_same ∙ none
  item_said course (File f) k = file_said told other part_same folders_same marks (current log) dirty course f k
  item_said course (Link l) (stands, k) = (stands, link_said told other part_same folders_same marks (current log) dirty l.source l.target l.part k)
  item_said course (Stays part) k = record { part_is = part_same ∙ k.part_is; i = k.i; leads = k.leads; bare = k.bare }

  around_said : (c : SubtreeCopying) → TargetKnows told marks (current log) c → TargetKnows other marks (current log) c
  around_said c (inl calm) = inl (ap (λ b. b c.top.target) calm_same ∙ calm)
  around_said c (inr but) = inr but

  has_said : (c : SubtreeCopying) → TreeHas told marks log c → TreeHas other marks log c
  has_said c h = record {
    outside = h.outside;
    levels = h.levels;
    item = h.item;
    text = h.text;
    whole = h.whole;
    calm = h.calm;
    names = h.names;
    modes = subst (λ (v : View). OwedModes v c.at) (sym tree_same) h.modes;
    folder = ap (λ b. b (folder_of c.top.target)) folders_same ∙ h.folder;
    around = around_said c h.around;
  }

  pub tree_said : (course : Course) (c : SubtreeCopying) → TreeKnown told dirty marks log course c → TreeKnown other dirty marks log course c
  tree_said course c k = record {
    name = k.name;
    part = item_said course c.at.item k.part;
    goes = λ on. let g = k.goes on in record { stands = g.stands; begun = λ some. has_said c (g.begun some) };
  }
