-- A part is made, and filled.
use Rattle.std.proofs.Common.{◌≡◌, ℕ, ◌<◌, ◌≤◌, ◌+◌, Bool, true, false, List, [], ◌∷◌, length, take, drop, refl, sym, ◌∙◌, ap, subst, Some, None, arith}
use Rattle.std.specs.Prelude.{is_some, ◌==◌, ◌||◌, unwrap_or}
use Rattle.std.proofs.lemmas.Bool.{false_from_ne_true, or_left, or_right}
use Rattle.mc_text.specs.declared.kind.Kind.TheVariants.{File}
use Rattle.mc_text.specs.Routes.{Route, same_path}
use Rattle.tree_trait.specs.declared.file_system.Node.{Node}
use Rattle.tree_trait.specs.FileSystem.{find, node}
use Rattle.tree_trait.specs.Change.{Change, Makes, Writes, CallLog, current, with_change, found_node, overwritten_bytes}
use Rattle.tree_trait.specs.CrashImages.{Among}
use Rattle.tree_trait.proofs.Visible.{same_path-self, same_path-true}
use Rattle.tree_trait.proofs.Walking.{stat-found}
use Rattle.laws_crash.specs.Guarded.{Marks}
use Rattle.laws_crash.proofs.Guarding.{found_there, same_quiet}
use Rattle.laws_crash.proofs.Syncing.{unaltered_law}
use Rattle.copy_file.specs.declared.stage.FolderState.TheVariants.{Dirty}
use Rattle.copy_file.specs.declared.stage.SourceFacts.{SourceFacts}
use Rattle.copy_file.specs.declared.stage.Stage.TheVariants.{Fill}
use Rattle.copy_file.specs.CopyCalls.{making, next_bytes, part_mode, room_for, writing}
use Rattle.copy_file.specs.Copying.{Copying, places_of}
use Rattle.job_reports.specs.Paths.{folder_of}
use Rattle.copy_file.specs.Looking.{AreFactsOf}
use Rattle.copy_file.specs.PartNames.{IsFirstFree, part_name}
use Rattle.job_reports.proofs.CallAnswers.{IsDoneCall}
use Rattle.copy_file.proofs.FilledParts.{Holds, written_on}
use Rattle.job_reports.proofs.PermittedCalls.{IsMaking, making_passes}
use Rattle.copy_move.specs.declared.run.Course.TheVariants.{GoesOn}
use Rattle.laws_sessions.proofs.Calming.{written_known}
use Rattle.laws_sessions.proofs.Knowing.{IsCalmPath, IsKept, IsKnown, HistoryFacts, settled_marks}
use Rattle.laws_sessions.proofs.JobKnows.{FileKnows, HasName, HasPart, IsAsFound, IsFilled, none_of_part, part_settled}
use Rattle.laws_sessions.proofs.Quiet.{kind_same}
use Rattle.laws_sessions.proofs.OpenTargets.{IsOpen}
use Rattle.laws_sessions.proofs.MakingParts.{MakesPart, made_known, marks_new, new_node, off_part, part_leads, part_node, with_part}
use Rattle.laws_sessions.proofs.Resting.{IsSureFolder, folder_at, folder_at_of}
use Rattle.laws_sessions.proofs.PartNodes.{other_node, part_on, part_there, written_node}
use Rattle.laws_sessions.proofs.Stepped.{StepRan, comes_one}

-- the folder in which a part was made stands
pub making_stands : (log now : CallLog) (c : Copying) (k : ℕ) → IsDoneCall log (making (current log) (places_of c) k) now → folder_at (current log) (folder_of c.target) ≡ true
making_stands log now c k d =
    let passes = making_passes (current log) (part_name c.job k) (folder_of c.target) (part_mode (node (current log) (found_node (current log) c.source)).mode) d.permits in
    folder_at_of (current log) (folder_of c.target) (found_node (current log) (folder_of c.target)) passes.folder passes.holds

-- A file's part is made by a copy whose target lies in this folder, and whose own these paths are: both that folder and the file's own are on the disk, and
-- those paths are calm.
module _ (told : HistoryFacts) (dirty dirty_after : List Route) (marks : Marks) (log now : CallLog) (kept : IsKept told dirty marks log) (c : Copying) (unclaimed : Route → Type 0) (said : SourceFacts) (k : ℕ) (target_name : HasName c.target)
    (ready : IsOpen (current log) (places_of c)) (is_said : AreFactsOf (current log) c.source said) (free : IsFirstFree (current log) unclaimed (places_of c) k) (none : told.part ≡ None)
    (as_it_was : IsAsFound marks (current log) c.target) (d : IsDoneCall log (making (current log) (places_of c) k) now) (firm : IsSureFolder log (folder_of c.target)) (around : Route) (around_firm : IsSureFolder log around) (own : Route → Bool)
    (own_calm : (p : Route) → own p ≡ true → IsCalmPath marks log p) (listed : Among dirty_after (folder_of c.target)) (more : (q : Route) → Among dirty q → Among dirty_after q) where
  abbrev up : Route
  up = folder_of c.target

  abbrev name : List ℕ
  name = part_name c.job k

  abbrev part : Route
  part = name ∷ up

  abbrev mode : ℕ
  mode = part_mode (node (current log) (found_node (current log) c.source)).mode

  abbrev made : Node
  made = record { kind = File; bytes = []; mode = mode; mtime = d.time; unnamed = 0 }

  passes : IsMaking (current log) name up
  passes = making_passes (current log) name up mode d.permits

  makes : MakesPart told log name up (found_node (current log) up)
  makes = record { none = none; at = passes.folder; folder = passes.holds; free = passes.none; sure = firm.sure }

  abbrev f : ℕ
  f = found_node (current log) up

  abbrev n : ℕ
  n = new_node log

  abbrev after : CallLog
  after = with_change log (Makes f name made)

  -- of what isn't made yet no mode waits
  new_mode : marks.modes n ≡ None
  new_mode = kept.modes n (kept.known.files.unborn n (omega arith))

  new_marks : Marks
  new_marks = marks_new marks part n

  node_made : node (current after) n ≡ made
  node_made = part_node told dirty dirty_after marks log kept.known name up f made kept.roams makes refl new_mode

  apart_of : (p : Route) → (part ≡ p → ⊥) → same_path p part ≡ false
  apart_of p apart = false_from_ne_true _ (λ same. apart (sym (same_path-true p part same)))

  off : (p : Route) → (part ≡ p → ⊥) → find (current after) p ≡ find (current log) p
  off p apart = off_part told dirty dirty_after marks log kept.known name up f made kept.roams makes refl new_mode p (apart_of p apart)

  same_n : (n == n) ≡ true
  same_n = Rattle.std.proofs.lemmas.Bool.eq-eqb n n refl

  abbrev after_said : HistoryFacts
  after_said = with_part told around own part

  has : HasPart after_said (marks_new marks part n) (current after) c.target part n
  has = record {
    part_is = refl;
    leads = part_leads told dirty dirty_after marks log kept.known name up f made kept.roams makes refl new_mode;
    loose = or_left _ _ same_n;
    moves = or_left _ _ same_n;
    file = ap (λ (x : Node). x.kind) node_made;
    unnamed = ap (λ (x : Node). x.unnamed) node_made;
    name = name;
    beside = refl;
    apart = free.free.apart;
    found = record {
      bare = λ j at.
          let before = sym (off c.target free.free.apart) ∙ at in
          kind_same log (Makes f name made) j (found_there (current log) kept.known.guarded.tree c.target j before) ∙ as_it_was.bare j before;
      was = λ out. as_it_was.was (sym (ap (λ b. b || marks.aside c.target) (apart_of c.target free.free.apart)) ∙ out) ∙ sym (off c.target free.free.apart);
      stood = λ is. ap is_some (off c.target free.free.apart) ∙ as_it_was.stood (sym (ap (λ b. b || marks.aside c.target) (apart_of c.target free.free.apart)) ∙ is);
      calm = λ j at. as_it_was.calm j (sym (off c.target free.free.apart) ∙ at);
    };
  }

  source_at : find (current log) c.source ≡ Some (found_node (current log) c.source)
  source_at = stat-found (current log) c.source ready.source

  source_same : node (current after) (found_node (current log) c.source) ≡ node (current log) (found_node (current log) c.source)
  source_same = unaltered_law log (Makes f name made) (found_node (current log) c.source) refl (found_there (current log) kept.known.guarded.tree c.source (found_node (current log) c.source) source_at)

  filled : IsFilled (current after) c.source part said 0 n
  filled = record {
    n = found_node (current log) c.source;
    source_leads = off c.source free.free.unread ∙ source_at;
    apart = λ e. free.free.unread (sym e);
    file = ap (λ (x : Node). x.kind) source_same ∙ ready.file;
    size = is_said.size ∙ sym (ap (λ (x : Node). length x.bytes) source_same);
    mode = is_said.mode ∙ sym (ap (λ (x : Node). x.mode) source_same);
    few = omega arith;
    holds = subst (λ x. Holds x (take 0 (node (current after) (found_node (current log) c.source)).bytes) (part_mode said.mode)) (sym node_made)
        (record { kind = refl; bytes_are = refl; mode_is = ap part_mode (sym is_said.mode); unnamed = refl });
  }

  pub begun : StepRan told after_said dirty_after log now (λ m. FileKnows after_said dirty_after m (current now) GoesOn (record c { stage = Fill part said 0; folder = Dirty }))
  begun = comes_one told after_said dirty dirty_after marks (marks_new marks part n) log now (Makes f name made)
      (λ m. FileKnows after_said dirty_after m (current now) GoesOn (record c { stage = Fill part said 0; folder = Dirty })) kept d.is
      (subst (λ (l : CallLog). IsKnown after_said dirty_after (marks_new marks part n) l) (sym d.is)
      (made_known told dirty dirty_after marks log kept.known name up f made kept.roams makes refl new_mode around own around_firm firm own_calm listed more))
      (subst (λ (l : CallLog). FileKnows after_said dirty_after (settled_marks l (marks_new marks part n)) (current l) GoesOn (record c { stage = Fill part said 0; folder = Dirty })) (sym d.is)
      (target_name, (λ e. (listed, or_left _ _ (or_right _ _ (same_path-self up)))), (refl, (n, part_settled after (marks_new marks part n) after_said c.target part n has, λ e. filled))))

-- bytes are written behind the first
module _ (told : HistoryFacts) (dirty : List Route) (marks : Marks) (log now : CallLog) (kept : IsKept told dirty marks log) (c : Copying) (part : Route) (said : SourceFacts) (done : ℕ)
    (listed : c.folder ≡ Dirty → Among dirty (folder_of c.target) × (told.folders (folder_of c.target) ≡ true)) (target_name : HasName c.target) (i : ℕ) (has : HasPart told marks (current log) c.target part i)
    (filled : IsFilled (current log) c.source part said done i) (few : done + length (next_bytes (current log) c.source said done) ≤ said.size)
    (d : IsDoneCall log (writing (current log) (places_of c) part said done) now) (dirty_is : c.folder ≡ Dirty) where
  abbrev bytes : List ℕ
  bytes = next_bytes (current log) c.source said done

  no_mode : marks.modes i ≡ None
  no_mode = none_of_part told dirty marks log kept part i has.leads (kept.known.part part has.part_is).0

  abbrev whole : List ℕ
  whole = overwritten_bytes (node (current log) i).bytes done bytes

  abbrev writes : Change
  writes = Writes i whole d.time

  found_part : found_node (current log) part ≡ i
  found_part = ap (λ o. unwrap_or o 0) has.leads

  now_is : now ≡ with_change log writes
  now_is = d.is ∙ ap (λ j. with_change log (Writes j (overwritten_bytes (node (current log) j).bytes done bytes) d.time)) found_part

  there : i < length (current log).nodes
  there = part_there told dirty marks log kept.known c.target part i has

  node_is : node (current (with_change log writes)) i ≡ record (node (current log) i) { bytes = whole; mtime = d.time }
  node_is = written_node log i whole d.time there

  has_on : HasPart told marks (current (with_change log writes)) c.target part i
  has_on = part_on told dirty marks log kept.known c.target part i has writes (λ g m. refl) (ap (λ (x : Node). x.kind) node_is) (ap (λ (x : Node). x.unnamed) node_is)

  source_kept : node (current (with_change log writes)) filled.n ≡ node (current log) filled.n
  source_kept = unaltered_law log writes filled.n (other_node told dirty marks log kept.known c.target part i has c.source filled.n filled.apart filled.source_leads)
      (found_there (current log) kept.known.guarded.tree c.source filled.n filled.source_leads)

  found_source : found_node (current log) c.source ≡ filled.n
  found_source = ap (λ o. unwrap_or o 0) filled.source_leads

  bytes_of : bytes ≡ take (room_for said done) (drop done (node (current log) filled.n).bytes)
  bytes_of = ap (λ j. take (room_for said done) (drop done (node (current log) j).bytes)) found_source

  whole_is : whole ≡ take (done + length bytes) (node (current log) filled.n).bytes
  whole_is =
      let h = filled.holds in
      let short : done ≤ length (node (current log) filled.n).bytes = (let a = filled.few in let b = filled.size in omega (arith, a, b)) in
      ap (λ xs. overwritten_bytes xs done bytes) h.bytes_are
      ∙ (ap (λ xs. overwritten_bytes (take done (node (current log) filled.n).bytes) done xs) bytes_of
      ∙ (written_on (node (current log) filled.n).bytes done (room_for said done) short
      ∙ ap (λ xs. take (done + length xs) (node (current log) filled.n).bytes) (sym bytes_of)))

  filled_on : IsFilled (current (with_change log writes)) c.source part said (done + length bytes) i
  filled_on =
      let h = filled.holds in
      record {
        n = filled.n;
        source_leads = same_quiet log writes (λ g m. refl) c.source ∙ filled.source_leads;
        apart = filled.apart;
        file = ap (λ (x : Node). x.kind) source_kept ∙ filled.file;
        size = filled.size ∙ sym (ap (λ (x : Node). length x.bytes) source_kept);
        mode = filled.mode ∙ sym (ap (λ (x : Node). x.mode) source_kept);
        few = few;
        holds = record {
          kind = ap (λ (x : Node). x.kind) node_is ∙ h.kind;
          bytes_are = ap (λ (x : Node). x.bytes) node_is ∙ (whole_is ∙ sym (ap (λ (x : Node). take (done + length bytes) x.bytes) source_kept));
          mode_is = ap (λ (x : Node). x.mode) node_is ∙ h.mode_is;
          unnamed = ap (λ (x : Node). x.unnamed) node_is ∙ h.unnamed;
        };
      }

  abbrev later : Copying
  later = record c { stage = Fill part said (done + length bytes) }

  pub filled_more : StepRan told told dirty log now (λ m. FileKnows told dirty m (current now) GoesOn later)
  filled_more = comes_one told told dirty dirty marks marks log now writes (λ m. FileKnows told dirty m (current now) GoesOn later) kept now_is
      (subst (λ (l : CallLog). IsKnown told dirty marks l) (sym now_is) (written_known told dirty marks log kept.known part i has.part_is has.leads has.loose no_mode whole d.time))
      (subst (λ (l : CallLog). FileKnows told dirty (settled_marks l marks) (current l) GoesOn later) (sym now_is)
      (target_name, listed, (dirty_is, (i, part_settled (with_change log writes) marks told c.target part i has_on, λ e. filled_on))))
