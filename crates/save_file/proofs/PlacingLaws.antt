-- The full part is given its mode, is synced and renamed to the target; and what a crash leaves there.
use Rattle.std.proofs.Common.{◌≡◌, ℕ, ◌<◌, zero, suc, Bool, true, false, cond, not, ◌&&◌, List, [], ◌∷◌, ◌++◌, length, take, refl, sym, ◌∙◌, ap, subst, inl, inr, Option, Some, None, Ok, arith}
use Rattle.std.specs.Prelude.{option_and_then, unwrap_or, ◌==◌}
use Rattle.std.specs.Option.{option_map}
use Rattle.std.proofs.lemmas.Bool.{eq-eqb, eqb-true, false_from_ne_true}
use Rattle.std.proofs.Math.Seq.{take-length}
use Rattle.mc_text.specs.Routes.{Route, same_path}
use Rattle.tree_trait.specs.declared.file_system.Node.{Node}
use Rattle.tree_trait.specs.declared.file_system.FileSystem.{FileSystem}
use Rattle.tree_trait.specs.Answers.{Performs}
use Rattle.tree_trait.specs.Calls.{Call, Rename, SetMode, SyncFile}
use Rattle.tree_trait.specs.Change.{Change, Moves, Nothing, Syncs, CallLog, current, found_node, with_change}
use Rattle.tree_trait.specs.CrashImages.{is_clean, same_name}
use Rattle.tree_trait.specs.FileSystem.{Value, find, lookup, node, value, value_at}
use Rattle.tree_trait.specs.Refusals.{Place, after_walk, rename_refusal, walk}
use Rattle.tree_trait.proofs.Finding.{same_name-self}
use Rattle.tree_trait.proofs.Steady.{node_law}
use Rattle.tree_trait.proofs.Visible.{same_path-true}
use Rattle.tree_trait.proofs.Walking.{last_place, passed_walk}
use Rattle.laws_crash.specs.Guarded.{Holds as HoldsNow, IsGuarded, IsOnDisk, Marks, Shows}
use Rattle.laws_crash.specs.NameKnowledge.{IsAnchored}
use Rattle.laws_crash.proofs.Calling.{placed_law as renamed_law}
use Rattle.laws_crash.proofs.Guarding.{find_same, found_at, guard_law, said, same_quiet}
use Rattle.laws_crash.proofs.Leading.{find_law}
use Rattle.laws_crash.proofs.Placing.{first}
use Rattle.laws_crash.proofs.Syncing.{unaltered_law}
use Rattle.laws_crash.proofs.Tops.{not_longer, under_moved}
use Rattle.job_reports.specs.CallRuns.{AllDone}
use Rattle.job_reports.proofs.CallAnswers.{done_call, some_log}
use Rattle.copy_file.proofs.FilledParts.{Holds}
use Rattle.copy_file.specs.declared.stage.SourceFacts.{SourceFacts}
use Rattle.copy_file.specs.declared.stage.Stage.TheVariants.{Fill}
use Rattle.copy_file.specs.CopyCalls.{part_mode, placing}
use Rattle.save_file.specs.Safe.{HasPart, IsAsFound, IsFilled, IsPlaced, KnowsPart, saved_value, with_firm}
use Rattle.save_file.specs.SaveLaws.{PlacedLaw, WholeLaw}
use Rattle.save_file.proofs.Filling.{size_at}
use Rattle.save_file.proofs.PartNodes.{anchored_quiet, as_found_quiet, moded, part_quiet, performs_one, still_anchored, synced}

-- The part was renamed, in a log in which all of it is on the disk.
module _ (marks : Marks) (log now : CallLog) (guarded : IsGuarded marks log) (part target : List ℕ) (up : Route) (i : ℕ) (leads : find (current log) (part ∷ up) ≡ Some i) (apart : part ≡ target → ⊥)
    (renamed : Performs {A = Unit {0}} log (Rename (part ∷ up) (target ∷ up)) (Ok tt) (Some now)) where
  abbrev f : ℕ
  f = found_node (current log) up

  abbrev moves : Change
  moves = Moves f part f target i (find (current log) (target ∷ up))

  walk_from : (p : Place) × (walk (current log) (part ∷ up) ≡ Ok p) × (after_walk (current log) (target ∷ up) (λ b. rename_refusal (current log) (part ∷ up) (target ∷ up) p b) ≡ None)
  walk_from = passed_walk (walk (current log) (part ∷ up)) (λ a. after_walk (current log) (target ∷ up) (λ b. rename_refusal (current log) (part ∷ up) (target ∷ up) a b)) renamed.0

  at_up : find (current log) up ≡ Some f
  at_up = (last_place (current log) part up walk_from.0 walk_from.1).folder

  apart_path : same_path (part ∷ up) (target ∷ up) ≡ false
  apart_path = false_from_ne_true _ (λ h. let e : (part ∷ up) ≡ target ∷ up = same_path-true (part ∷ up) (target ∷ up) h in apart cc)

  now_is : now ≡ with_change log moves
  now_is =
      let d = done_call log (Rename (part ∷ up) (target ∷ up)) now renamed in
      let it : found_node (current log) (part ∷ up) ≡ i = ap (λ o. unwrap_or o 0) leads in
      d.is ∙ ap (with_change log)
      (ap (λ b. cond b Nothing (Moves f part f target (found_node (current log) (part ∷ up)) (find (current log) (target ∷ up)))) apart_path
      ∙ ap (λ k. Moves f part f target k (find (current log) (target ∷ up))) it)

  way : find (current (with_change log moves)) up ≡ Some f
  way = elim (find_same log moves up) [
    | inl same ↦ same ∙ at_up
    | inr under ↦ elim (under_moved log guarded.tree up f at_up part target i (find (current log) (target ∷ up)) up under) [ inl u ↦ absurd (not_longer u.0 target up u.1) | inr u ↦ absurd (not_longer u.0 part up u.1) ]
  ]

  pub target_leads : find (current now) (target ∷ up) ≡ Some i
  target_leads =
      subst (λ (l : CallLog). find (current l) (target ∷ up) ≡ Some i) (sym now_is)
      (ap (option_and_then (λ g. lookup (current (with_change log moves)).names g target)) way
      ∙ said log moves f target (Some i) (first (same_name f target f target) (same_name f part f target) i (same_name-self f target)))

  pub node_stays : node (current now) i ≡ node (current log) i
  node_stays = subst (λ (l : CallLog). node (current l) i ≡ node (current log) i) (sym now_is) (unaltered_law log moves i refl (guarded.there (part ∷ up) i (found_at log (part ∷ up) (Some i) leads)))

-- the mode that a part has need not be given
abbrev moding_if : Bool → ℕ → Route → List Call
moding_if same mode part = cond same [] (SetMode part mode ∷ [])

-- A full part with its mode is synced and renamed.
module _ (marks : Marks) (part target : List ℕ) (up : Route) (i : ℕ) (bytes : List ℕ) (mode : ℕ) (apart : part ≡ target → ⊥) where
  firm_off : (b : Bool) → (b && not (i == i)) ≡ false
  firm_off true = ap not (eq-eqb i i refl)
  firm_off false = refl

  pub synced_and_renamed : (log now : CallLog) → IsGuarded marks log → HasPart marks log (part ∷ up) i → Holds (node (current log) i) bytes mode → IsAnchored marks log up → IsAsFound marks log (target ∷ up)
      → AllDone log (SyncFile (part ∷ up) ∷ Rename (part ∷ up) (target ∷ up) ∷ []) (Some now) → IsPlaced marks now (target ∷ up) i bytes mode
  synced_and_renamed log now guarded has holds anchored found_there all =
      let mid = all.0 in
      let firm = synced marks log mid (part ∷ up) i guarded has all.1 in
      let part_mid : HasPart marks mid (part ∷ up) i = subst (λ (l : CallLog). HasPart marks l (part ∷ up) i) (sym firm.is) (part_quiet log (Syncs i) (λ g m. refl) marks (part ∷ up) i has) in
      let found_mid : IsAsFound marks mid (target ∷ up) = subst (λ (l : CallLog). IsAsFound marks l (target ∷ up)) (sym firm.is) (as_found_quiet log (Syncs i) (λ g m. refl) marks (target ∷ up) found_there) in
      let anchored_mid : IsAnchored (with_firm marks i) mid up = subst (λ (l : CallLog). IsAnchored (with_firm marks i) l up) (sym firm.is) (anchored_quiet log (Syncs i) (λ g m. refl) marks i up anchored) in
      let renamed = performs_one mid now (Rename (part ∷ up) (target ∷ up)) all.2 in
      let stays = node_stays (with_firm marks i) mid now firm.firm part target up i part_mid.leads apart renamed ∙ firm.node_same in
      record {
        guarded = renamed_law (with_firm marks i) mid now part target up i firm.firm renamed (record {
          anchored = anchored_mid;
          other = apart;
          leads = part_mid.leads;
          is_aside = has.is_aside;
          moves = has.moves;
          firm = firm_off (marks.loose i);
          file = part_mid.bare;
          unworked = λ out. found_mid.found;
          under = found_mid.under;
        });
        leads = target_leads (with_firm marks i) mid now firm.firm part target up i part_mid.leads apart renamed;
        holds = subst (λ (n : Node). Holds n bytes mode) (sym stays) holds;
        plain = has.plain;
      }

  -- before that it is given its mode, where it was made with another
  pub placed_by : (log now : CallLog) (b : Bool) → (part_mode mode == mode) ≡ b → IsGuarded marks log → HasPart marks log (part ∷ up) i → Holds (node (current log) i) bytes (part_mode mode) → IsAnchored marks log up
      → IsAsFound marks log (target ∷ up) → AllDone log (placing mode (part ∷ up) (target ∷ up)) (Some now) → IsPlaced marks now (target ∷ up) i bytes mode
  placed_by log now true same guarded has holds anchored found_there all =
      synced_and_renamed log now guarded has (subst (Holds (node (current log) i) bytes) (eqb-true (part_mode mode) mode same) holds) anchored found_there
      (subst (λ (xs : List Call). AllDone log (xs ++ SyncFile (part ∷ up) ∷ Rename (part ∷ up) (target ∷ up) ∷ []) (Some now)) (ap (λ b. moding_if b mode (part ∷ up)) same) all)
  placed_by log now false other guarded has holds anchored found_there all =
      let steps = subst (λ (xs : List Call). AllDone log (xs ++ SyncFile (part ∷ up) ∷ Rename (part ∷ up) (target ∷ up) ∷ []) (Some now)) (ap (λ b. moding_if b mode (part ∷ up)) other) all in
      let mid = steps.0 in
      let m = moded marks log mid (part ∷ up) i mode guarded has steps.1 in
      synced_and_renamed mid now m.guarded
      (subst (λ (l : CallLog). HasPart marks l (part ∷ up) i) (sym m.is) (part_quiet log m.change m.names marks (part ∷ up) i has)) (m.holds bytes (part_mode mode) holds)
      (subst (λ (l : CallLog). IsAnchored marks l up) (sym m.is) (still_anchored log m.change m.names marks up anchored))
      (subst (λ (l : CallLog). IsAsFound marks l (target ∷ up)) (sym m.is) (as_found_quiet log m.change m.names marks (target ∷ up) found_there)) steps.2

-- Until the renaming.
module _ (marks : Marks) (part target : Route) (i mode : ℕ) where
  abbrev Still : CallLog → CallLog → Type 0
  Still log mid = IsGuarded marks mid × (find (current mid) target ≡ find (current log) target)

  none_done : (log mid : CallLog) → IsGuarded marks log → (let o : Option CallLog = Some mid in o) ≡ Some log → Still log mid
  none_done log mid guarded same =
      let is : mid ≡ log = some_log mid log same in
      (subst (λ (l : CallLog). IsGuarded marks l) (sym is) guarded, ap (λ (l : CallLog). find (current l) target) is)

  tail_still : (log mid : CallLog) (count : ℕ) → IsGuarded marks log → HasPart marks log part i → count < 2 → AllDone log (take count (SyncFile part ∷ Rename part target ∷ [])) (Some mid) → Still log mid
  tail_still log mid zero guarded has less all = none_done log mid guarded all
  tail_still log mid (suc zero) guarded has less all =
      let firm = synced marks log mid part i guarded has (performs_one log mid (SyncFile part) all) in
      (firm.guarded, ap (λ (l : CallLog). find (current l) target) firm.is ∙ same_quiet log (Syncs i) (λ g m. refl) target)
  tail_still log mid (suc (suc count)) guarded has less all = absurd (omega (arith, less))

  moded_still : (log mid : CallLog) (count : ℕ) → IsGuarded marks log → HasPart marks log part i → count < 3 → AllDone log (take count (SetMode part mode ∷ SyncFile part ∷ Rename part target ∷ [])) (Some mid) → Still log mid
  moded_still log mid zero guarded has less all = none_done log mid guarded all
  moded_still log mid (suc count) guarded has less all =
      let m = moded marks log all.0 part i mode guarded has all.1 in
      let later = tail_still all.0 mid count m.guarded (subst (λ (l : CallLog). HasPart marks l part i) (sym m.is) (part_quiet log m.change m.names marks part i has)) (omega (arith, less)) all.2 in
      (later.0, later.1 ∙ (ap (λ (l : CallLog). find (current l) target) m.is ∙ same_quiet log m.change m.names target))

  pub still : (log mid : CallLog) (count : ℕ) (b : Bool) → (part_mode mode == mode) ≡ b → IsGuarded marks log → HasPart marks log part i → count < length (placing mode part target)
      → AllDone log (take count (placing mode part target)) (Some mid) → Still log mid
  still log mid count true same guarded has less all =
      let calls : placing mode part target ≡ SyncFile part ∷ Rename part target ∷ [] = ap (λ b. moding_if b mode part ++ SyncFile part ∷ Rename part target ∷ []) same in
      tail_still log mid count guarded has (subst (λ (xs : List Call). count < length xs) calls less) (subst (λ (xs : List Call). AllDone log (take count xs) (Some mid)) calls all)
  still log mid count false other guarded has less all =
      let calls : placing mode part target ≡ SetMode part mode ∷ SyncFile part ∷ Rename part target ∷ [] = ap (λ b. moding_if b mode part ++ SyncFile part ∷ Rename part target ∷ []) other in
      moded_still log mid count guarded has (subst (λ (xs : List Call). count < length xs) calls less) (subst (λ (xs : List Call). AllDone log (take count xs) (Some mid)) calls all)

pub placed_law : PlacedLaw
placed_law = record {
  placed = λ free old new path calls log now f0 f1 marks i part target up facts done s own guarded stage target_is apart knows anchored found_there.
      let c = s.called log refl in
      let same : Fill (part ∷ up) facts done ≡ Fill c.0 c.1 c.1.size = sym stage ∙ c.2 in
      let part_is : c.0 ≡ part ∷ up = cc in
      let facts_are : c.1 ≡ facts = cc in
      let full : done ≡ c.1.size = cc in
      let size : facts.size ≡ length old.bytes = size_at (length old.bytes) old.copy.stage (part ∷ up) facts done stage own.size in
      let all : done ≡ length old.bytes = full ∙ (ap (λ (x : SourceFacts). x.size) facts_are ∙ size) in
      let filled : IsFilled marks log (part ∷ up) i (take done old.bytes) facts.mode = subst (KnowsPart marks log i old.bytes) stage knows in
      let whole : take done old.bytes ≡ old.bytes = ap (λ n. take n old.bytes) all ∙ take-length old.bytes in
      let calls_are : placing c.1.mode c.0 old.copy.target ≡ placing facts.mode (part ∷ up) (target ∷ up) =
      ap (λ (x : SourceFacts). placing x.mode c.0 old.copy.target) facts_are ∙ (ap (λ p. placing facts.mode p old.copy.target) part_is ∙ ap (λ p. placing facts.mode (part ∷ up) p) target_is) in
      placed_by marks part target up i old.bytes facts.mode apart log now (part_mode facts.mode == facts.mode) refl guarded filled.part
      (subst (λ (xs : List ℕ). Holds (node (current log) i) xs (part_mode facts.mode)) whole filled.holds) anchored found_there (subst (λ (xs : List Call). AllDone log xs (Some now)) calls_are c.3);
  meanwhile = λ marks log mid part target i mode count guarded has less all. still marks part target i mode log mid count (part_mode mode == mode) refl guarded has less all;
}

saved_node : (n : Node) (bytes : List ℕ) (mode : ℕ) → Holds n bytes mode → value n ≡ saved_value bytes mode
saved_node n bytes mode h = rw (h.kind, h.bytes_are, h.mode_is, h.unnamed) refl

-- what the target holds that leads to the file
shows : (marks : Marks) (s : FileSystem) (v : Option Value) (i : ℕ) (bytes : List ℕ) (mode : ℕ) → marks.loose i ≡ false → marks.modes i ≡ None → Holds (node s i) bytes mode → HoldsNow marks s v (Some i)
    → v ≡ Some (saved_value bytes mode)
shows marks s v i bytes mode firm plain h now =
    subst (λ o. Shows o v (node s i)) plain (now.1 firm) ∙ ap (λ (x : Value). (let o : Option Value = Some x in o)) (saved_node (node s i) bytes mode h)

firm_at : (i : ℕ) (b : Bool) → (b && not (i == i)) ≡ false
firm_at i true = ap not (eq-eqb i i refl)
firm_at i false = refl

pub whole_law : WholeLaw
whole_law = record {
  before = λ marks log image target guarded found_there out left.
      elim (guard_law marks log image target guarded left out) [ inl now ↦ subst (HoldsNow marks (current log) (value_at image target)) found_there.found now | inr old ↦ old ];
  after = λ marks log image target i bytes mode p out left.
      elim (guard_law (with_firm marks i) log image target p.guarded left out) [
        | inl now ↦ inl (shows (with_firm marks i) (current log) (value_at image target) i bytes mode (firm_at i (marks.loose i)) p.plain p.holds
            (subst (HoldsNow (with_firm marks i) (current log) (value_at image target)) p.leads now))
        | inr old ↦ inr old
      ];
  synced = λ marks log image target i bytes mode p settled left.
      let leads : find image target ≡ Some i = settled (find image target) (find_law log image target left) ∙ p.leads in
      let clean : is_clean i log.changes ≡ true = subst (IsOnDisk log i) p.plain (p.guarded.clean i (firm_at i (marks.loose i))) in
      let same : node image i ≡ node (current log) i = node_law i log.opening log.opening image log.changes refl refl clean left in
      ap (option_map (λ k. value (node image k))) leads ∙ (ap (λ (n : Node). (let o : Option Value = Some (value n) in o)) same ∙ ap (λ (x : Value). (let o : Option Value = Some x in o)) (saved_node (node (current log) i) bytes mode p.holds));
}
