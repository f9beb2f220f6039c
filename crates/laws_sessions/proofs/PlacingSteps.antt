-- A full part is given its mode, synced, and gets the target's name; or one of these calls is refused.
use Rattle.laws_sessions.proofs.AmongParts.{if_among_in, if_among_more}
use Rattle.std.proofs.Common.{◌≡◌, ◌⊎◌, ℕ, ◌<◌, zero, suc, Bool, true, false, List, [], ◌∷◌, ◌++◌, take, refl, sym, ◌∙◌, ap, subst, inl, inr, Option, Some, None, Ok, arith}
use Rattle.std.specs.Prelude.{◌==◌, unwrap_or, if◌then◌else◌}
use Rattle.std.specs.Option.{option_map, option_map_or}
use Rattle.std.proofs.lemmas.Bool.{false_from_ne_true, eqb-true, eq-eqb, or_left, or_right, or_parts}
use Rattle.std.proofs.Math.Seq.{take-length}
use Rattle.mc_text.specs.Routes.{Route, same_path}
use Rattle.tree_trait.specs.declared.file_system.Node.{Node}
use Rattle.tree_trait.specs.declared.file_system.FileSystem.{FileSystem}
use Rattle.tree_trait.specs.declared.calls.TreeError.{TreeError}
use Rattle.tree_trait.specs.FileSystem.{Spot, Value, find, node, starts_mount, value}
use Rattle.tree_trait.specs.Refusals.{is_folder, folder_kind, walk, after_walk, rename_refusal}
use Rattle.tree_trait.specs.Calls.{Call, SetMode, SyncFile, Rename}
use Rattle.tree_trait.specs.Change.{Change, Nothing, Moves, Sets, Syncs, CallLog, current, with_change, change_of, found_node}
use Rattle.tree_trait.specs.CrashImages.{Among, is_clean}
use Rattle.tree_trait.specs.Answers.{Performs}
use Rattle.tree_trait.proofs.Visible.{same_path-self, same_path-true}
use Rattle.tree_trait.proofs.Walking.{passed_walk, last_place}
use Rattle.laws_crash.specs.Guarded.{Marks}
use Rattle.laws_crash.proofs.Leading.{current_more}
use Rattle.laws_crash.proofs.Syncing.{firm_law}
use Rattle.job_reports.specs.declared.report.Cause.{Cause}
use Rattle.job_reports.specs.declared.report.Cause.TheVariants as cause
use Rattle.job_reports.specs.declared.report.Did.TheVariants.{Placed}
use Rattle.copy_file.specs.declared.stage.SourceFacts.{SourceFacts}
use Rattle.job_reports.specs.CallRuns.{AllDone, StopsAt, RunStops}
use Rattle.copy_file.specs.CopyCalls.{part_mode, placing}
use Rattle.copy_file.specs.Copied.{copied_value}
use Rattle.copy_file.specs.Copying.{Copying}
use Rattle.job_reports.specs.Jobs.{Copies}
use Rattle.job_reports.specs.Paths.{without, folder_of}
use Rattle.job_reports.proofs.CallAnswers.{IsDoneCall, done_call, some_log}
use Rattle.copy_file.proofs.FilledParts.{Holds, holds_copy}
use Rattle.session_entries.specs.Named.{changed_by, named_by}
use Rattle.session_entries.specs.Moves.{moved_from}
use Rattle.laws_sessions.specs.Replayed.{keeping, mode_placed, placed_by, placed_copy}
use Rattle.laws_sessions.proofs.Calming.{moded_known, nothing_known, synced_known, refused_is}
use Rattle.laws_sessions.proofs.Deleted.{file_no_mount, put_at, put_off}
use Rattle.laws_sessions.proofs.Knowing.{HistoryFacts, IsKnown, IsKept, held, settled_marks}
use Rattle.laws_sessions.proofs.JobKnows.{HasPart, IsAsFound, IsBare, IsFilled, none_of_part, part_settled}
use Rattle.laws_sessions.proofs.PartNodes.{moded_node, part_on, part_there}
use Rattle.laws_sessions.proofs.PlacingParts.{PlacesPart, firm_known, firm_transit, marks_firm, placed_known}
use Rattle.laws_sessions.proofs.Stepped.{comes_none, comes_one, comes_then, doubt_by, no_other, StepRan, written_by}

-- the part that stands, in any tree: what its node holds, once it held these bytes with any mode
abbrev Kept : HistoryFacts → Route → Route → ℕ → FileSystem → FileSystem → ℕ → Marks → Type 0
Kept told target part i before now mode marks =
    HasPart told marks now target part i × ((bytes : List ℕ) → Holds (node before i) bytes mode → Holds (node now i) bytes mode)

module _ (told : HistoryFacts) (dirty : List Route) (target part : Route) (i : ℕ) where
  -- its mode is set
  pub mode_set : (marks : Marks) (log mid : CallLog) (mode : ℕ) → IsKept told dirty marks log → HasPart told marks (current log) target part i
      → Performs {A = Unit {0}} log (SetMode part mode) (Ok tt) (Some mid)
      → StepRan told told dirty log mid (λ m. HasPart told m (current mid) target part i × ((bytes : List ℕ) (old : ℕ) → Holds (node (current log) i) bytes old → Holds (node (current mid) i) bytes mode))
  mode_set marks log mid mode kept has done =
      comes_one told told dirty dirty marks marks log mid (Sets i mode)
      (λ m. HasPart told m (current mid) target part i × ((bytes : List ℕ) (old : ℕ) → Holds (node (current log) i) bytes old → Holds (node (current mid) i) bytes mode)) kept mid_is
      (subst (λ (l : CallLog). IsKnown told dirty marks l) (sym mid_is) (moded_known told dirty marks log kept.known part i has.part_is has.leads has.loose (none_of_part told dirty marks log kept part i has.leads (kept.known.part part has.part_is).0) mode))
      (subst (λ (l : CallLog). HasPart told (settled_marks l marks) (current l) target part i × ((bytes : List ℕ) (old : ℕ) → Holds (node (current log) i) bytes old → Holds (node (current l) i) bytes mode)) (sym mid_is) (
        part_settled (with_change log (Sets i mode)) marks told target part i
            (part_on told dirty marks log kept.known target part i has (Sets i mode) (λ g m. refl) (ap (λ (x : Node). x.kind) node_is) (ap (λ (x : Node). x.unnamed) node_is)),
        λ bytes old h. record {
          kind = ap (λ (x : Node). x.kind) node_is ∙ h.kind;
          bytes_are = ap (λ (x : Node). x.bytes) node_is ∙ h.bytes_are;
          mode_is = ap (λ (x : Node). x.mode) node_is;
          unnamed = ap (λ (x : Node). x.unnamed) node_is ∙ h.unnamed;
        },
      ))
    where
      d : IsDoneCall log (SetMode part mode) mid
      d = done_call log (SetMode part mode) mid done

      mid_is : mid ≡ with_change log (Sets i mode)
      mid_is = d.is ∙ ap (λ j. with_change log (Sets j mode)) (ap (λ o. unwrap_or o 0) has.leads)

      node_is : node (current (with_change log (Sets i mode))) i ≡ record (node (current log) i) { mode = mode }
      node_is = moded_node log i mode (part_there told dirty marks log kept.known target part i has)

  -- what is known of a part that was synced: it may be placed
  abbrev pub IsFirm : Marks → CallLog → Type 0
  IsFirm marks log = is_clean i log.changes ≡ true

  pub part_synced : (marks : Marks) (log mid : CallLog) → IsKept told dirty marks log → HasPart told marks (current log) target part i → Performs {A = Unit {0}} log (SyncFile part) (Ok tt) (Some mid)
      → StepRan told told dirty log mid (λ m. HasPart told m (current mid) target part i × IsFirm m mid × (node (current mid) i ≡ node (current log) i))
  part_synced marks log mid kept has done =
      comes_one told told dirty dirty marks marks log mid (Syncs i)
      (λ m. HasPart told m (current mid) target part i × IsFirm m mid × (node (current mid) i ≡ node (current log) i)) kept mid_is
      (subst (λ (l : CallLog). IsKnown told dirty marks l) (sym mid_is) (synced_known told dirty marks log kept.known i))
      (subst (λ (l : CallLog). HasPart told (settled_marks l marks) (current l) target part i × IsFirm (settled_marks l marks) l × (node (current l) i ≡ node (current log) i)) (sym mid_is) (
        part_settled (with_change log (Syncs i)) marks told target part i
            (part_on told dirty marks log kept.known target part i has (Syncs i) (λ g m. refl) (ap (λ (x : FileSystem). (node x i).kind) (current_more log (Syncs i))) (ap (λ (x : FileSystem). (node x i).unnamed) (current_more log (Syncs i)))),
        firm_law log i,
        ap (λ (x : FileSystem). node x i) (current_more log (Syncs i)),
      ))
    where
      d : IsDoneCall log (SyncFile part) mid
      d = done_call log (SyncFile part) mid done

      mid_is : mid ≡ with_change log (Syncs i)
      mid_is = d.is ∙ ap (λ j. with_change log (Syncs j)) (ap (λ o. unwrap_or o 0) has.leads)

  -- a call that was refused changes nothing of the part
  pub part_refused : (marks : Marks) (log now : CallLog) → IsKept told dirty marks log → HasPart told marks (current log) target part i → (now ≡ log) ⊎ (now ≡ with_change log Nothing)
      → StepRan told told dirty log now (λ m. HasPart told m (current now) target part i)
  part_refused marks log now kept has (inl same) =
      comes_none told told dirty log now (λ m. HasPart told m (current now) target part i) marks same kept (subst (λ (l : CallLog). HasPart told marks (current l) target part i) (sym same) has)
  part_refused marks log now kept has (inr more) =
      comes_one told told dirty dirty marks marks log now Nothing (λ m. HasPart told m (current now) target part i) kept more
      (subst (λ (l : CallLog). IsKnown told dirty marks l) (sym more) (nothing_known told dirty marks log kept.known))
      (subst (λ (l : CallLog). HasPart told (settled_marks l marks) (current l) target part i) (sym more)
      (part_settled (with_change log Nothing) marks told target part i (subst (λ (s : FileSystem). HasPart told marks s target part i) (sym (current_more log Nothing)) has)))

  abbrev Stays : CallLog → CallLog → Type 0
  Stays log now = StepRan told told dirty log now (λ m. HasPart told m (current now) target part i)

  -- the sync and the renaming stop
  tail_stops : (marks : Marks) (log now : CallLog) (call : Call) (e : TreeError) → IsKept told dirty marks log → HasPart told marks (current log) target part i
      → StopsAt log (SyncFile part ∷ Rename part target ∷ []) call e (Some now) → Stays log now
  tail_stops marks log now call e kept has (inl (is, refused)) = part_refused marks log now kept has (refused_is log now (SyncFile part) e (λ s left. refl) refused)
  tail_stops marks log now call e kept has (inr (mid, done, inl (is, refused))) =
      comes_then told told dirty dirty log mid now _ _ (part_synced marks log mid kept has done)
      (λ m k knows. part_refused m mid now k knows.0 (refused_is mid now (Rename part target) e (λ s left. refl) refused))
  tail_stops marks log now call e kept has (inr (mid, done, inr (last, renamed, none))) = absurd none

  -- the first of them were done
  tail_front : (marks : Marks) (log now : CallLog) (count : ℕ) → IsKept told dirty marks log → HasPart told marks (current log) target part i → count < 2
      → AllDone log (take count (SyncFile part ∷ Rename part target ∷ [])) (Some now) → Stays log now
  tail_front marks log now zero kept has few done = part_refused marks log now kept has (inl (some_log now log done))
  tail_front marks log now (suc zero) kept has few (mid, synced, end) =
      comes_then told told dirty dirty log mid now _ _ (part_synced marks log mid kept has synced) (λ m k knows. part_refused m mid now k knows.0 (inl (some_log now mid end)))
  tail_front marks log now (suc (suc count)) kept has few done = absurd (omega (arith, few))

  pub placing_stops : (marks : Marks) (log now : CallLog) (mode : ℕ) (why : Cause) (path : Option Route) → IsKept told dirty marks log → HasPart told marks (current log) target part i
      → RunStops (placing mode part target) why path log (Some now) → Stays log now
  placing_stops marks log now mode why path kept has stops = by (part_mode mode == mode) why stops
    where
      row : Bool → List Call
      row b = if◌then◌else◌ b [] (SetMode part mode ∷ []) ++ SyncFile part ∷ Rename part target ∷ []

      by : (b : Bool) (why : Cause) → RunStops (if◌then◌else◌ b [] (SetMode part mode ∷ []) ++ SyncFile part ∷ Rename part target ∷ []) why path log (Some now) → Stays log now
      by true (cause.Tree e) (call, named, stop) = tail_stops marks log now call e kept has stop
      by true cause.Memory (none, (count, few, done)) = tail_front marks log now count kept has few done
      by false (cause.Tree e) (call, named, inl (is, refused)) = part_refused marks log now kept has (refused_is log now (SetMode part mode) e (λ s left. refl) refused)
      by false (cause.Tree e) (call, named, inr (mid, done, stop)) =
          comes_then told told dirty dirty log mid now _ _ (mode_set marks log mid mode kept has done) (λ m k knows. tail_stops m mid now call e k knows.0 stop)
      by false cause.Memory (none, (zero, few, done)) = part_refused marks log now kept has (inl (some_log now log done))
      by false cause.Memory (none, (suc count, few, (mid, done, more))) =
          comes_then told told dirty dirty log mid now _ _ (mode_set marks log mid mode kept has done) (λ m k knows. tail_front m mid now count k knows.0 (omega (arith, few)) more)
      by b (cause.TargetKind kind) stop = absurd stop
      by b cause.SpecialSource stop = absurd stop
      by b cause.TooDeep stop = absurd stop
      by b (cause.Unnamed count) stop = absurd stop
      by b cause.PartTaken stop = absurd stop
      by b cause.TooLong stop = absurd stop
      by b (cause.Changed said got) stop = absurd stop

one_name : (a b : List ℕ) (q : Route) → (a ∷ q) ≡ b ∷ q → a ≡ b
one_name a b q e = cc

-- A part that is whole, and on the disk but for its name: one of a file that was filled and synced, or of a link.
pub record IsWhole (said : HistoryFacts) (marks : Marks) (log : CallLog) (target part : Route) (i : ℕ) : Type 0 where
  pub part_is : said.part ≡ Some part
  pub leads : find (current log) part ≡ Some i
  pub moves : marks.roams i ≡ true
  pub bare : is_folder (node (current log) i) ≡ false
  pub clean : is_clean i log.changes ≡ true
  pub name : List ℕ
  pub beside : part ≡ name ∷ folder_of target
  pub apart : part ≡ target → ⊥
  pub found : IsAsFound marks (current log) target

pub whole_part : (told : HistoryFacts) (marks : Marks) (log : CallLog) (target part : Route) (i : ℕ) → HasPart told marks (current log) target part i → is_clean i log.changes ≡ true → IsWhole told marks log target part i
whole_part told marks log target part i has clean = record {
  part_is = has.part_is;
  leads = has.leads;
  moves = has.moves;
  bare = ap folder_kind has.file;
  clean = clean;
  name = has.name;
  beside = has.beside;
  apart = has.apart;
  found = has.found;
}

-- what a history says once a part was placed at a path, by a copy of this source to that target
abbrev pub said_placed : HistoryFacts → Route → Route → Route → HistoryFacts
said_placed told source to target = record {
  tree = placed_by (Some (Copies source to)) target told.tree;
  earlier = keeping (changed_by (Placed target)) told.tree told.earlier;
  named = named_by (Placed target) no_other told.left told.named;
  left = told.left;
  part = None;
  doubt = doubt_by (Placed target) told.part told.doubt;
  written = written_by (Placed target) told.written;
  folders = told.folders;
  modes = told.modes;
  calm = told.calm;
}

-- it is renamed to a path that lies at or below that target, and holds what stands where this comes from
module _ (told : HistoryFacts) (dirty : List Route) (source to target : Route) (tname : List ℕ) (target_is : target ≡ tname ∷ folder_of target) (part : Route) (i : ℕ) (listed : Among dirty (folder_of target)) (firm : told.folders (folder_of target) ≡ true)
    (marks : Marks) (mid now : CallLog) (kept : IsKept told dirty marks mid) (whole : IsWhole told marks mid target part i)
    (copy : option_map placed_copy (told.tree (moved_from source to target)).value ≡ Some (value (node (current mid) i))) (done : Performs {A = Unit {0}} mid (Rename part target) (Ok tt) (Some now)) where
  abbrev up : Route
  up = folder_of target

  abbrev after : HistoryFacts
  after = said_placed told source to target

  d : IsDoneCall mid (Rename part target) now
  d = done_call mid (Rename part target) now done

  abbrev f : ℕ
  f = found_node (current mid) up

  abbrev r : Option ℕ
  r = find (current mid) target

  abbrev moved : Change
  moved = Moves f whole.name f tname i r

  permits : Rattle.tree_trait.specs.Refusals.refusal_of (current mid) (Rename (whole.name ∷ up) (tname ∷ up)) ≡ None
  permits = subst (λ q. Rattle.tree_trait.specs.Refusals.refusal_of (current mid) (Rename (whole.name ∷ up) q) ≡ None) target_is
      (subst (λ q. Rattle.tree_trait.specs.Refusals.refusal_of (current mid) (Rename q target) ≡ None) whole.beside d.permits)

  apart : whole.name ≡ tname → ⊥
  apart e = whole.apart (whole.beside ∙ (ap (λ n. n ∷ up) e ∙ sym target_is))

  apart_path : same_path (whole.name ∷ up) (tname ∷ up) ≡ false
  apart_path = false_from_ne_true _ (λ h. apart (one_name whole.name tname up (same_path-true (whole.name ∷ up) (tname ∷ up) h)))

  found_part : found_node (current mid) (whole.name ∷ up) ≡ i
  found_part = ap (λ o. unwrap_or o 0) (ap (find (current mid)) (sym whole.beside) ∙ whole.leads)

  now_is : now ≡ with_change mid moved
  now_is = d.is ∙ ap (with_change mid) (
      ap (λ q. change_of (current mid) (Rename q target) d.time) whole.beside
      ∙ (ap (λ q. change_of (current mid) (Rename (whole.name ∷ up) q) d.time) target_is
      ∙ (ap (λ b. if◌then◌else◌ b Nothing (Moves f whole.name f tname (found_node (current mid) (whole.name ∷ up)) (find (current mid) (tname ∷ up)))) apart_path
      ∙ (ap (λ j. Moves f whole.name f tname j (find (current mid) (tname ∷ up))) found_part ∙ ap (λ q. Moves f whole.name f tname i (find (current mid) q)) (sym target_is))))
      )

  stands : (find (current mid) up ≡ Some f) × (is_folder (node (current mid) f) ≡ true)
  stands =
      let w = passed_walk (walk (current mid) (whole.name ∷ up)) (λ a. after_walk (current mid) (tname ∷ up) (λ b. rename_refusal (current mid) (whole.name ∷ up) (tname ∷ up) a b)) permits in
      let v = passed_walk (walk (current mid) (tname ∷ up)) (λ b. rename_refusal (current mid) (whole.name ∷ up) (tname ∷ up) w.0 b) w.2 in
      let l = last_place (current mid) tname up v.0 v.1 in
      (l.folder, l.is_one)

  as_it_was : IsAsFound marks (current mid) target
  as_it_was = whole.found

  abbrev comes_from : Route
  comes_from = moved_from source to target

  not_part : told.part ≡ Some target → ⊥
  not_part is = whole.apart (let e = sym whole.part_is ∙ is in cc)

  -- what stands there begins no mount
  no_mount_there : (o : Option ℕ) → find (current mid) target ≡ o → option_map_or (starts_mount (current mid)) (find (current mid) target) false ≡ false
  no_mount_there None is = ap (λ x. option_map_or (starts_mount (current mid)) x false) is
  no_mount_there (Some j) is = ap (λ x. option_map_or (starts_mount (current mid)) x false) is ∙ file_no_mount (current mid) kept.known.guarded.tree j (as_it_was.bare j is)

  abbrev stood : Spot
  stood = record { value = held (current mid) (find (current mid) target); is_mount = false }

  target_seen : told.tree target ≡ stood
  target_seen = sym (kept.known.shows target not_part) ∙ ap (λ b. (let s : Spot = record { value = held (current mid) (find (current mid) target); is_mount = b } in s)) (no_mount_there (find (current mid) target) refl)

  -- nor does a mode of it wait
  calm_there : (j : ℕ) → find (current mid) target ≡ Some j → marks.modes j ≡ None
  calm_there = as_it_was.calm

  bare : is_folder (node (current mid) i) ≡ false
  bare = whole.bare

  loose_no_more : (a : Bool) → Rattle.std.specs.Prelude.◌&&◌ a (Rattle.std.specs.Prelude.not (i == i)) ≡ false
  loose_no_more true = ap Rattle.std.specs.Prelude.not (eq-eqb i i refl)
  loose_no_more false = refl

  -- a part that stands there an ended job left
  was_left : marks.aside target ≡ true → Among told.left target
  was_left is = elim (kept.known.left target is (as_it_was.stood is)) [ inl part ↦ absurd (not_part part) | inr among ↦ among ]

  named : (p : Route) → marks.aside p ≡ true → Among after.named p
  named p is = by (same_path p target) refl
    where
      by : (b : Bool) → same_path p target ≡ b → Among after.named p
      by true same = subst (λ q. Among after.named q) (sym (same_path-true p target same)) (if_among_in target told.left (without target told.named) (was_left (subst (λ q. marks.aside q ≡ true) (same_path-true p target same) is)))
      by false off = if_among_more target p told.left (without target told.named) (Rattle.laws_sessions.proofs.Calming.still_listed target p told.named (kept.known.aside p is) off)

  at_name : (P : Route → Type 0) → P target → P (tname ∷ up)
  at_name P h = subst P target_is h

  places : PlacesPart told after (marks_firm marks i) mid whole.name tname up f i
  places = record {
    part_is = whole.part_is ∙ ap (λ q. Some q) whole.beside;
    at = stands.0;
    folder = stands.1;
    sure = (let around = kept.known.stand up firm in around.sure);
    leads = ap (find (current mid)) (sym whole.beside) ∙ whole.leads;
    apart = apart;
    moves = whole.moves;
    firm = loose_no_more (marks.loose i);
    file = bare;
    bare = subst (λ q. IsBare (current mid) q) target_is as_it_was.bare;
    was = subst (λ q. marks.aside q ≡ false → marks.was q ≡ find (current mid) q) target_is as_it_was.was;
    calm_there = subst (λ q. (j : ℕ) → find (current mid) q ≡ Some j → marks.modes j ≡ None) target_is calm_there;
    no_mount = file_no_mount (current mid) kept.known.guarded.tree i bare;
    named = named;
    left = λ is. subst (λ q. Among told.left q) target_is (was_left (subst (λ q. marks.aside q ≡ true) (sym target_is) is));
    lefts = λ p among. among;
    off = λ p off.
        let o = subst (λ q. same_path p q ≡ false) (sym target_is) off in
        (put_off told.tree target (option_map placed_copy (told.tree comes_from).value) p o, put_off told.earlier target (told.tree target).value p o);
    placed = subst (λ q. after.tree q ≡ (let s : Spot = record { value = Some (value (node (current mid) i)); is_mount = false } in s)) target_is
        (put_at told.tree target (option_map placed_copy (told.tree comes_from).value)
        ∙ (ap (λ (s : Spot). (let t : Spot = record s { value = option_map placed_copy (told.tree comes_from).value } in t)) target_seen
        ∙ ap (λ v. (let t : Spot = record { value = v; is_mount = false } in t)) copy));
    earlier = subst (λ q. (after.earlier q).value ≡ held (current mid) (find (current mid) q)) target_is
        (ap (λ (s : Spot). s.value) (put_at told.earlier target (told.tree target).value) ∙ ap (λ (s : Spot). s.value) target_seen);
    none = refl;
    doubts = λ n p h. or_left _ _ (or_left _ _ h);
    spared = λ n p off. (or_parts (told.written n p) (same_path p target) off).0;
    unspared = λ n. or_right _ _ (subst (λ q. same_path q target ≡ true) target_is (same_path-self target));
    folders = λ p there. there;
    modes = λ p there. there;
    calm = λ p there. there;
    no_mode = kept.modes i whole.clean;
    doubted = λ n. (
      or_left _ _ (or_right _ _ (subst (λ q. same_path q target ≡ true) target_is (same_path-self target))),
      or_right _ _ (ap (λ o. option_map_or (same_path (whole.name ∷ up)) o false) (whole.part_is ∙ ap (λ q. Some q) whole.beside) ∙ same_path-self (whole.name ∷ up)),
    );
  }

  pub whole_placed : StepRan told after dirty mid now (λ m. after.part ≡ None)
  whole_placed =
      comes_one told after dirty dirty marks (marks_firm marks i) mid now moved (λ m. after.part ≡ None) kept now_is
      (subst (λ (l : CallLog). IsKnown after dirty (marks_firm marks i) l) (sym now_is)
      (placed_known told after dirty dirty (marks_firm marks i) mid (firm_known told dirty marks mid i whole.clean (kept.modes i whole.clean) kept.known) (firm_transit marks mid i kept.roams) whole.name tname up f i r places listed (λ q among. among)))
      refl

-- A file's part is placed by the copy of a source to a target, in which the file's target comes from the file's source.
module _ (told : HistoryFacts) (dirty : List Route) (source to : Route) (c : Copying) (source_is : moved_from source to c.target ≡ c.source) (tname : List ℕ) (target_is : c.target ≡ tname ∷ folder_of c.target) (part : Route) (i : ℕ) (listed : Among dirty (folder_of c.target)) (firm : told.folders (folder_of c.target) ≡ true) where
  abbrev said_then : HistoryFacts
  said_then = said_placed told source to c.target

  abbrev Placing : CallLog → CallLog → Type 0
  Placing log now = StepRan told said_then dirty log now (λ m. said_then.part ≡ None)

  -- the part is renamed
  renamed : (marks : Marks) (mid now : CallLog) → IsKept told dirty marks mid → HasPart told marks (current mid) c.target part i → IsFirm told dirty c.target part i marks mid
      → option_map placed_copy (told.tree c.source).value ≡ Some (value (node (current mid) i)) → Performs {A = Unit {0}} mid (Rename part c.target) (Ok tt) (Some now) → Placing mid now
  renamed marks mid now kept has clean copy done =
      whole_placed told dirty source to c.target tname target_is part i listed firm marks mid now kept (whole_part told marks mid c.target part i has clean)
      (ap (λ q. option_map placed_copy (told.tree q).value) source_is ∙ copy) done

  -- the sync and the renaming were done
  tail_done : (marks : Marks) (log now : CallLog) → IsKept told dirty marks log → HasPart told marks (current log) c.target part i
      → option_map placed_copy (told.tree c.source).value ≡ Some (value (node (current log) i)) → AllDone log (SyncFile part ∷ Rename part c.target ∷ []) (Some now) → Placing log now
  tail_done marks log now kept has copy (mid, synced, (last, moved, end)) =
      comes_then told said_then dirty dirty log mid now _ _ (part_synced told dirty c.target part i marks log mid kept has synced)
      (λ m k knows. renamed m mid now k knows.0 knows.1 (copy ∙ ap (λ n. Some (value n)) (sym knows.2))
      (subst (λ (l : CallLog). Performs {A = Unit {0}} mid (Rename part c.target) (Ok tt) (Some l)) (sym (some_log now last end)) moved))

  -- a full part is placed
  module _ (marks : Marks) (log now : CallLog) (said : SourceFacts) (kept : IsKept told dirty marks log) (has : HasPart told marks (current log) c.target part i)
      (filled : IsFilled (current log) c.source part said said.size i) (done : AllDone log (placing said.mode part c.target) (Some now)) where
    abbrev from : Node
    from = node (current log) filled.n

    not_source : told.part ≡ Some c.source → ⊥
    not_source is = filled.apart (let e = sym has.part_is ∙ is in cc)

    source_value : (told.tree c.source).value ≡ Some (value from)
    source_value = ap (λ (s : Spot). s.value) (sym (kept.known.shows c.source not_source)) ∙ ap (option_map (λ j. value (node (current log) j))) filled.source_leads

    -- of a file what is placed has its mode
    as_file : placed_copy (value from) ≡ copied_value (value from)
    as_file = ap (λ kind. (let v : Value = record (copied_value (value from)) { mode = mode_placed kind from.mode } in v)) filled.file

    copy_of : (s : FileSystem) → Holds (node s i) from.bytes said.mode → option_map placed_copy (told.tree c.source).value ≡ Some (value (node s i))
    copy_of s h = ap (option_map placed_copy) source_value ∙ ap (λ v. Some v) (as_file ∙ sym (holds_copy (node s i) from filled.file (record { kind = h.kind; bytes_are = h.bytes_are; mode_is = h.mode_is ∙ filled.mode; unnamed = h.unnamed })))

    full : Holds (node (current log) i) from.bytes (part_mode said.mode)
    full = let h = filled.holds in record { kind = h.kind; bytes_are = h.bytes_are ∙ (ap (λ n. take n from.bytes) filled.size ∙ take-length from.bytes); mode_is = h.mode_is; unnamed = h.unnamed }

    by : (b : Bool) → (part_mode said.mode == said.mode) ≡ b → AllDone log (if◌then◌else◌ b [] (SetMode part said.mode ∷ []) ++ SyncFile part ∷ Rename part c.target ∷ []) (Some now) → Placing log now
    by true same rows = tail_done marks log now kept has (copy_of (current log) (subst (λ mode. Holds (node (current log) i) from.bytes mode) (eqb-true (part_mode said.mode) said.mode same) full)) rows
    by false other (mid, set, rows) =
        comes_then told said_then dirty dirty log mid now _ _ (mode_set told dirty c.target part i marks log mid said.mode kept has set)
        (λ m k knows. tail_done m mid now k knows.0 (copy_of (current mid) (knows.1 from.bytes (part_mode said.mode) full)) rows)

    pub part_placed : Placing log now
    part_placed = by (part_mode said.mode == said.mode) refl done
