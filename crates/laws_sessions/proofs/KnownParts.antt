-- What is known of a part that stands, and of the copy of a file or a link that has it.
use Rattle.std.proofs.Common.{◌≡◌, ℕ, ◌≤◌, Bool, true, false, ◌&&◌, ◌||◌, List, ◌∷◌, length, take, refl, sym, ◌∙◌, ap, Option, Some, None, cond}
use Rattle.std.specs.Prelude.{is_some}
use Rattle.std.proofs.lemmas.Bool.{true≢false}
use Rattle.mc_text.specs.declared.kind.Kind.TheVariants.{File, Link}
use Rattle.mc_text.specs.Routes.{Route}
use Rattle.tree_trait.specs.declared.file_system.FileSystem.{FileSystem}
use Rattle.tree_trait.specs.FileSystem.{find, node}
use Rattle.tree_trait.specs.Refusals.{folder_kind, is_folder}
use Rattle.tree_trait.specs.Change.{CallLog, current}
use Rattle.tree_trait.specs.CrashImages.{Among, is_clean}
use Rattle.laws_crash.specs.Guarded.{Marks}
use Rattle.copy_file.specs.declared.stage.FolderState.TheVariants.{Dirty}
use Rattle.copy_file.specs.declared.stage.SourceFacts.{SourceFacts}
use Rattle.copy_file.specs.declared.stage.Stage.{Stage}
use Rattle.copy_file.specs.declared.stage.Stage.TheVariants.{Begin, Fill, Clean, Left, Decided}
use Rattle.copy_file.specs.CopyCalls.{part_mode}
use Rattle.copy_file.specs.Copying as copying
use Rattle.copy_file.specs.Copying.{Copying}
use Rattle.job_reports.specs.Paths.{folder_of}
use Rattle.copy_file.proofs.FilledParts.{Holds}
use Rattle.copy_move.specs.declared.run.Course.{Course}
use Rattle.copy_move.specs.declared.run.Course.TheVariants.{GoesOn, Asking, InTrouble, OwedSyncFailed, Skips, Ends}
use Rattle.laws_sessions.specs.Doubt.{way_waits}
use Rattle.laws_sessions.proofs.Knowing.{HistoryFacts, bare_roams, settled_marks}
use Rattle.laws_sessions.proofs.Untouched.{IsAsFound, IsUntouched}

-- the part stands beside the target, and leads to this node
pub record HasPart (said : HistoryFacts) (marks : Marks) (s : FileSystem) (target part : Route) (i : ℕ) : Type 0 where
  pub part_is : said.part ≡ Some part
  pub leads : find s part ≡ Some i
  pub loose : marks.loose i ≡ true
  pub moves : marks.roams i ≡ true
  pub file : (node s i).kind ≡ File
  pub unnamed : (node s i).unnamed ≡ 0
  pub name : List ℕ
  pub beside : part ≡ name ∷ folder_of target
  pub apart : part ≡ target → ⊥
  pub found : IsAsFound marks s target

-- the part holds the first bytes of the source
pub record IsFilled (s : FileSystem) (source part : Route) (said : SourceFacts) (done i : ℕ) : Type 0 where
  pub n : ℕ
  pub source_leads : find s source ≡ Some n
  pub apart : source ≡ part → ⊥
  pub file : (node s n).kind ≡ File
  pub size : said.size ≡ length (node s n).bytes
  pub mode : said.mode ≡ (node s n).mode
  pub few : done ≤ said.size
  pub holds : Holds (node s i) (take done (node s n).bytes) (part_mode said.mode)

-- the path has a last name
pub record HasName (path : Route) : Type 0 where
  pub name : List ℕ
  pub is : path ≡ name ∷ folder_of path

-- a job that goes on, or waits with a question, has copied into its part what it has read so far
abbrev pub may_fill : Course → Bool
may_fill GoesOn = true
may_fill Asking = true
may_fill (InTrouble halt) = false
may_fill (OwedSyncFailed why) = false
may_fill (Skips why) = false
may_fill (Ends ending) = false

abbrev pub StageKnows : HistoryFacts → Marks → FileSystem → Course → Copying → Stage → Type 0
StageKnows told marks s course c Begin = (told.part ≡ None) × (c.folder ≡ Dirty → IsAsFound marks s c.target)
StageKnows told marks s course c (Fill part said done) =
    (c.folder ≡ Dirty) × ((i : ℕ) × HasPart told marks s c.target part i × (may_fill course ≡ true → IsFilled s c.source part said done i))
StageKnows told marks s course c (Clean part follows) = (c.folder ≡ Dirty) × ((i : ℕ) × HasPart told marks s c.target part i)
StageKnows told marks s course c (Left part) = (i : ℕ) × HasPart told marks s c.target part i
StageKnows told marks s course c Decided = told.part ≡ None

-- what is known of a file's copy: its folder is listed from its first change on, and on the disk
abbrev pub FileKnows : HistoryFacts → List Route → Marks → FileSystem → Course → Copying → Type 0
FileKnows told dirty marks s course c =
    HasName c.target × (c.folder ≡ Dirty → Among dirty (folder_of c.target) × (told.folders (folder_of c.target) ≡ true)) × StageKnows told marks s course c c.stage

-- The part of a link stands beside the target, and leads to a link that says this, which is on the disk but for its name.
pub record HasLink (said : HistoryFacts) (marks : Marks) (s : FileSystem) (target part : Route) (text : List ℕ) (i : ℕ) : Type 0 where
  pub part_is : said.part ≡ Some part
  pub leads : find s part ≡ Some i
  pub firm : marks.loose i ≡ false
  pub moves : marks.roams i ≡ true
  pub link : (node s i).kind ≡ Link
  pub says : (node s i).bytes ≡ text
  pub name : List ℕ
  pub beside : part ≡ name ∷ folder_of target
  pub apart : part ≡ target → ⊥
  pub found : IsAsFound marks s target

-- the part is what a copy of its source, which is a link, has to be
pub record IsLinkOf (s : FileSystem) (source part : Route) (i : ℕ) : Type 0 where
  pub n : ℕ
  pub source_leads : find s source ≡ Some n
  pub apart : source ≡ part → ⊥
  pub link : (node s n).kind ≡ Link
  pub text : (node s i).bytes ≡ (node s n).bytes
  pub mode : (node s i).mode ≡ 0
  pub unnamed : (node s i).unnamed ≡ 0

-- what is known of a link's copy whose part stands
pub record LinkKnows (told : HistoryFacts) (dirty : List Route) (marks : Marks) (s : FileSystem) (source target part : Route) : Type 0 where
  pub name : HasName target
  pub listed : Among dirty (folder_of target)
  pub folder : told.folders (folder_of target) ≡ true
  pub text : List ℕ
  pub i : ℕ
  pub has : HasLink told marks s target part text i
  pub copies : IsLinkOf s source part i

-- a part that a last step could not remove
pub record IsLeftPart (told : HistoryFacts) (s : FileSystem) (part : Route) : Type 0 where
  pub part_is : told.part ≡ Some part
  pub i : ℕ
  pub leads : find s part ≡ Some i
  pub bare : is_folder (node s i) ≡ false

-- What is known of a part is known with the marks that are settled.
module _ (log : CallLog) (marks : Marks) where
  pub untouched_settled : (p : Route) → IsUntouched marks (current log) p → IsUntouched (settled_marks log marks) (current log) p
  untouched_settled p u = record {
    out = ap (λ a. a && (way_waits log p || is_some (find (current log) p))) u.out;
    free = u.free;
    was = by (way_waits log p);
  }
    where
      by : (b : Bool) → cond b (marks.was p) (find (current log) p) ≡ None
      by true = u.was
      by false = u.free

  first_of : (a b : Bool) → (a && b) ≡ true → a ≡ true
  first_of true b h = refl
  first_of false b h = h

  none_still : (b : Bool) (o : Option ℕ) → o ≡ None → cond b (let none : Option ℕ = None in none) o ≡ None
  none_still true o none = refl
  none_still false o none = none

  pub found_settled : (p : Route) → IsAsFound marks (current log) p → IsAsFound (settled_marks log marks) (current log) p
  found_settled p u = record { bare = u.bare; was = λ out. by (marks.aside p) refl (way_waits log p) refl out; stood = λ is. u.stood (first_of (marks.aside p) (way_waits log p || is_some (find (current log) p)) is); calm = λ i at. none_still (is_clean i log.changes) (marks.modes i) (u.calm i at) }
    where
      by : (a : Bool) → marks.aside p ≡ a → (b : Bool) → way_waits log p ≡ b → (marks.aside p && (way_waits log p || is_some (find (current log) p))) ≡ false
          → cond (way_waits log p) (marks.was p) (find (current log) p) ≡ find (current log) p
      by a a_is false b_is out = ap (λ x. cond x (marks.was p) (find (current log) p)) b_is
      by false a_is true b_is out = ap (λ x. cond x (marks.was p) (find (current log) p)) b_is ∙ u.was a_is
      by true a_is true b_is out = absurd (true≢false (sym (ap (λ x. x && (way_waits log p || is_some (find (current log) p))) a_is ∙ ap (λ x. x || is_some (find (current log) p)) b_is) ∙ out))

  pub part_settled : (told : HistoryFacts) (target part : Route) (i : ℕ) → HasPart told marks (current log) target part i → HasPart told (settled_marks log marks) (current log) target part i
  part_settled told target part i h = record {
    part_is = h.part_is;
    leads = h.leads;
    loose = h.loose;
    moves = bare_roams log marks i (ap folder_kind h.file) h.moves;
    file = h.file;
    unnamed = h.unnamed;
    name = h.name;
    beside = h.beside;
    apart = h.apart;
    found = found_settled target h.found;
  }

  pub stage_settled : (told : HistoryFacts) (course : Course) (c : Copying) (stage : Stage) → StageKnows told marks (current log) course c stage → StageKnows told (settled_marks log marks) (current log) course c stage
  stage_settled told course c Begin (none, found) = (none, λ dirty. found_settled c.target (found dirty))
  stage_settled told course c (Fill part said done) (dirty, (i, has, filled)) = (dirty, (i, part_settled told c.target part i has, filled))
  stage_settled told course c (Clean part follows) (dirty, (i, has)) = (dirty, (i, part_settled told c.target part i has))
  stage_settled told course c (Left part) (i, has) = (i, part_settled told c.target part i has)
  stage_settled told course c Decided none = none

  pub file_settled : (told : HistoryFacts) (dirty : List Route) (course : Course) (c : Copying) → FileKnows told dirty marks (current log) course c → FileKnows told dirty (settled_marks log marks) (current log) course c
  file_settled told dirty course c (name, listed, stage) = (name, listed, stage_settled told course c c.stage stage)

  pub link_settled : (told : HistoryFacts) (target part : Route) (text : List ℕ) (i : ℕ) → HasLink told marks (current log) target part text i → HasLink told (settled_marks log marks) (current log) target part text i
  link_settled told target part text i h = record {
    part_is = h.part_is;
    leads = h.leads;
    firm = h.firm;
    moves = bare_roams log marks i (ap folder_kind h.link) h.moves;
    link = h.link;
    says = h.says;
    name = h.name;
    beside = h.beside;
    apart = h.apart;
    found = found_settled target h.found;
  }

  pub link_knows_settled : (told : HistoryFacts) (dirty : List Route) (source target part : Route) → LinkKnows told dirty marks (current log) source target part → LinkKnows told dirty (settled_marks log marks) (current log) source target part
  link_knows_settled told dirty source target part k =
      record { name = k.name; listed = k.listed; folder = k.folder; text = k.text; i = k.i; has = link_settled told target part k.text k.i k.has; copies = k.copies }

-- a job that goes on only where it went on knows what it knew
pub stage_course : (told : HistoryFacts) (marks : Marks) (s : FileSystem) (course other : Course) (c : Copying) (stage : Stage) → (may_fill other ≡ true → may_fill course ≡ true) → StageKnows told marks s course c stage → StageKnows told marks s other c stage
stage_course told marks s course other c Begin on k = k
stage_course told marks s course other c (Fill part said done) on (dirty, (i, has, filled)) = (dirty, (i, has, λ e. filled (on e)))
stage_course told marks s course other c (Clean part follows) on k = k
stage_course told marks s course other c (Left part) on k = k
stage_course told marks s course other c Decided on k = k

pub file_course : (told : HistoryFacts) (dirty : List Route) (marks : Marks) (s : FileSystem) (course other : Course) (c : Copying) → (may_fill other ≡ true → may_fill course ≡ true) → FileKnows told dirty marks s course c → FileKnows told dirty marks s other c
file_course told dirty marks s course other c on (name, listed, stage) = (name, listed, stage_course told marks s course other c c.stage on stage)

-- what is left, or taken anew, fills no part
pub stage_skipped : (told : HistoryFacts) (m : Marks) (s : FileSystem) (course other : Course) (c : Copying) (stage : Stage) → StageKnows told m s course c stage
    → StageKnows told m s other (record c { stage = copying.skipped_stage stage }) (copying.skipped_stage stage)
stage_skipped told m s course other c Begin k = k.0
stage_skipped told m s course other c (Fill part said done) k = (k.0, (k.1.0, k.1.1))
stage_skipped told m s course other c (Clean part follows) k = k
stage_skipped told m s course other c (Left part) k = k
stage_skipped told m s course other c Decided k = k

pub stage_anew : (told : HistoryFacts) (m : Marks) (s : FileSystem) (course other : Course) (c : Copying) (stage : Stage) → StageKnows told m s course c stage
    → StageKnows told m s other (record c { stage = copying.taken_anew stage }) (copying.taken_anew stage)
stage_anew told m s course other c Begin k = k
stage_anew told m s course other c (Fill part said done) k = (k.0, (k.1.0, k.1.1))
stage_anew told m s course other c (Clean part follows) k = k
stage_anew told m s course other c (Left part) k = k
stage_anew told m s course other c Decided k = k

-- a part as a last step may leave it
pub part_left : (told : HistoryFacts) (marks : Marks) (s : FileSystem) (target part : Route) (i : ℕ) → HasPart told marks s target part i → IsLeftPart told s part
part_left told marks s target part i h = record { part_is = h.part_is; i = i; leads = h.leads; bare = ap folder_kind h.file }

pub link_left : (told : HistoryFacts) (marks : Marks) (s : FileSystem) (target part : Route) (text : List ℕ) (i : ℕ) → HasLink told marks s target part text i → IsLeftPart told s part
link_left told marks s target part text i h = record { part_is = h.part_is; i = i; leads = h.leads; bare = ap folder_kind h.link }

-- What is known of a part hangs on the part that a history says.
module _ (told other : HistoryFacts) (part_same : other.part ≡ told.part) (marks : Marks) (s : FileSystem) where
  part_said : (target part : Route) (i : ℕ) → HasPart told marks s target part i → HasPart other marks s target part i
  part_said target part i h = record {
    part_is = part_same ∙ h.part_is;
    leads = h.leads;
    loose = h.loose;
    moves = h.moves;
    file = h.file;
    unnamed = h.unnamed;
    name = h.name;
    beside = h.beside;
    apart = h.apart;
    found = h.found;
  }

  stage_said : (course : Course) (c : Copying) (stage : Stage) → StageKnows told marks s course c stage → StageKnows other marks s course c stage
  stage_said course c Begin (none, found) = (part_same ∙ none, found)
  stage_said course c (Fill part said done) (dirty, (i, has, filled)) = (dirty, (i, part_said c.target part i has, filled))
  stage_said course c (Clean part follows) (dirty, (i, has)) = (dirty, (i, part_said c.target part i has))
  stage_said course c (Left part) (i, has) = (i, part_said c.target part i has)
  stage_said course c Decided none = part_same ∙ none

-- What is known of a copy hangs on the folders on the disk, too.
module _ (told other : HistoryFacts) (part_same : other.part ≡ told.part) (folders_same : other.folders ≡ told.folders) (marks : Marks) (s : FileSystem) where
  pub file_said : (dirty : List Route) (course : Course) (c : Copying) → FileKnows told dirty marks s course c → FileKnows other dirty marks s course c
  file_said dirty course c (name, listed, stage) = (
    name,
    (λ is. let l = listed is in (l.0, ap (λ b. b (folder_of c.target)) folders_same ∙ l.1)),
    stage_said told other part_same marks s course c c.stage stage,
  )

  pub link_said : (dirty : List Route) (source target part : Route) → LinkKnows told dirty marks s source target part → LinkKnows other dirty marks s source target part
  link_said dirty source target part k = record {
    name = k.name;
    listed = k.listed;
    folder = ap (λ b. b (folder_of target)) folders_same ∙ k.folder;
    text = k.text;
    i = k.i;
    has = (let h = k.has in record {
      part_is = part_same ∙ h.part_is;
      leads = h.leads;
      firm = h.firm;
      moves = h.moves;
      link = h.link;
      says = h.says;
      name = h.name;
      beside = h.beside;
      apart = h.apart;
      found = h.found;
    });
    copies = k.copies;
  }
