-- The part is made and filled, it goes where it isn't placed, and the folder is synced.
use Rattle.std.proofs.Common.{◌≡◌, ℕ, ◌+◌, ◌≤◌, true, cond, List, [], ◌∷◌, ◌++◌, length, take, refl, sym, ◌∙◌, ap, subst, inl, inr, Option, Some, None, Ok, arith}
use Rattle.std.specs.Prelude.{option_and_then, unwrap_or}
use Rattle.std.proofs.lemmas.Bool.{both_ways, false_from_ne_true}
use Rattle.mc_text.specs.Routes.{Route}
use Rattle.mc_text.specs.declared.kind.Kind.TheVariants.{File}
use Rattle.tree_trait.specs.declared.file_system.Node.{Node}
use Rattle.tree_trait.specs.declared.file_system.FileSystem.{FileSystem}
use Rattle.tree_trait.specs.Answers.{Performs}
use Rattle.tree_trait.specs.Calls.{MakeFile, RemoveFile, SyncFolder, WriteAt}
use Rattle.tree_trait.specs.Change.{Change, Makes, Writes, CallLog, current, found_node, overwritten_bytes, with_change}
use Rattle.tree_trait.specs.CrashImages.{says}
use Rattle.tree_trait.specs.FileSystem.{find, lookup, node}
use Rattle.tree_trait.specs.Refusals.{holder}
use Rattle.tree_trait.proofs.Finding.{same_name-self, same_name-true}
use Rattle.tree_trait.proofs.Steady.{at}
use Rattle.laws_crash.specs.Guarded.{IsGuarded, Marks}
use Rattle.laws_crash.specs.NameKnowledge.{IsAnchored, IsUnworked}
use Rattle.laws_crash.proofs.Calling.{folder_synced_law, made_law, removed_law}
use Rattle.laws_crash.proofs.Guarding.{find_same, found_at, leads_as_before, said}
use Rattle.laws_crash.proofs.Leading.{current_more}
use Rattle.laws_crash.proofs.Syncing.{write_law}
use Rattle.laws_crash.proofs.Tops.{not_longer, under_made}
use Rattle.job_reports.specs.Paths.{folder_of}
use Rattle.job_reports.proofs.CallAnswers.{done_call}
use Rattle.job_reports.proofs.PermittedCalls.{IsMaking, making_passes}
use Rattle.copy_file.proofs.FilledParts.{Holds, written_on}
use Rattle.copy_file.specs.declared.stage.Stage.TheVariants.{Fill}
use Rattle.copy_file.specs.CopyCalls.{part_mode}
use Rattle.copy_file.specs.Copying.{Copying, chunk_bytes}
use Rattle.copy_file.specs.PartNames.{part_name}
use Rattle.copy_file.specs.PartSteps.{filled_by}
use Rattle.save_file.specs.Safe.{HasPart, IsFilled, KnowsPart, MayBePart, next_node}
use Rattle.save_file.specs.SaveLaws.{BarrierLaw, BeganLaw, ChunkLaw, CleanedLaw}
use Rattle.save_file.specs.Saving.{chunk_at}
use Rattle.save_file.proofs.Filling.{size_at}
use Rattle.save_file.proofs.PartNodes.{below_part, part_quiet, part_there, performs_one, written_node}

-- The part's name was free, and leads to the node that was made.
module _ (marks : Marks) (log : CallLog) (guarded : IsGuarded marks log) (name : List ℕ) (up : Route) (made : Node) (making : IsMaking (current log) name up) where
  abbrev f : ℕ
  f = found_node (current log) up

  abbrev n : ℕ
  n = next_node log

  abbrev makes : Change
  makes = Makes f name made

  abbrev now : CallLog
  now = with_change log makes

  way : find (current now) up ≡ Some f
  way = elim (find_same log makes up) [
    | inl same ↦ same ∙ making.folder
    | inr under ↦ let u = under_made log guarded.tree up f making.folder name made up under in absurd (not_longer u.0 name up u.1)
  ]

  leads : lookup (current now).names f name ≡ Some n
  leads = said log makes f name (Some n) (ap (λ b. (let o : Option (Option ℕ) = cond b (Some (Some n)) None in o)) (same_name-self f name))

  last_node : (xs : List Node) → at (xs ++ made ∷ []) (length xs) ≡ made
  last_node [] = refl
  last_node (x ∷ xs) = last_node xs

  -- no name was given in it
  silent : (m : List ℕ) → says makes n n m ≡ None
  silent m =
      ap (λ b. (let o : Option (Option ℕ) = cond b (Some (Some n)) None in o))
      (false_from_ne_true _ (λ same. let e = (same_name-true f n name m same).0 in let there = guarded.there up f (found_at log up (Some f) making.folder) in absurd (omega (arith, e, there))))

  pub made_node : node (current now) n ≡ made
  made_node = ap (λ (s : FileSystem). node s n) (current_more log makes) ∙ last_node (current log).nodes

  pub made_part : marks.aside (name ∷ up) ≡ true → MayBePart marks n → HasPart marks now (name ∷ up) n
  made_part aside may = record {
    leads = ap (option_and_then (λ g. lookup (current now).names g name)) way ∙ leads;
    is_aside = aside;
    moves = may.moves;
    loose = may.loose;
    plain = may.plain;
    bare = λ m y lead. guarded.empty n m y (omega arith) (leads_as_before log makes n m y (silent m) lead);
  }

-- a file that was made beside the target is a part, and holds nothing yet
made_at : (marks : Marks) (log now : CallLog) (guarded : IsGuarded marks log) (name : List ℕ) (up : Route) (mode : ℕ) → Performs {A = Unit {0}} log (MakeFile (name ∷ up) mode) (Ok tt) (Some now)
    → IsAnchored marks log up → marks.aside (name ∷ up) ≡ true → MayBePart marks (next_node log)
    → IsGuarded marks now × HasPart marks now (name ∷ up) (next_node log) × Holds (node (current now) (next_node log)) [] mode
made_at marks log now guarded name up mode done anchored aside may =
    let d = done_call log (MakeFile (name ∷ up) mode) now done in
    let making = making_passes (current log) name up mode d.permits in
    let made : Node = record { kind = File; bytes = []; mode = mode; mtime = d.time; unnamed = 0 } in
    let is = made_node marks log guarded name up made making in (
      made_law marks log now name up mode guarded done anchored aside,
      subst (λ (l : CallLog). HasPart marks l (name ∷ up) (next_node log)) (sym d.is) (made_part marks log guarded name up made making aside may),
      subst (λ (l : CallLog). Holds (node (current l) (next_node log)) [] mode) (sym d.is) (record {
        kind = ap (λ (x : Node). x.kind) is;
        bytes_are = ap (λ (x : Node). x.bytes) is;
        mode_is = ap (λ (x : Node). x.mode) is;
        unnamed = ap (λ (x : Node). x.unnamed) is;
      }),
    )

pub began_law : BeganLaw
began_law free old new part calls log now f0 f1 marks s guarded anchored aside may =
    let c = s.called log refl in
    let name = part_name old.copy.job c.3.0 in
    let up = folder_of old.copy.target in
    let m = made_at marks log now guarded name up (part_mode c.0) (performs_one log now (MakeFile (name ∷ up) (part_mode c.0)) c.3.3) anchored (subst (λ p. marks.aside p ≡ true) c.3.1 aside) may in
    (m.0, subst (KnowsPart marks now (next_node log) new.bytes) (sym c.2) (record { part = subst (λ p. HasPart marks now p (next_node log)) (sym c.3.1) m.1; holds = m.2 }))

-- The next bytes were written to the part.
module _ (marks : Marks) (log now : CallLog) (guarded : IsGuarded marks log) (part : Route) (i : ℕ) (bytes : List ℕ) (done mode : ℕ) (filled : IsFilled marks log part i (take done bytes) mode) where
  abbrev chunk : List ℕ
  chunk = chunk_at bytes done

  chunk_written : Performs {A = Unit {0}} log (WriteAt part done chunk) (Ok tt) (Some now) → done ≤ length bytes → IsGuarded marks now × IsFilled marks now part i (take (done + length chunk) bytes) mode
  chunk_written done_call_is few =
      let d = done_call log (WriteAt part done chunk) now done_call_is in
      let all : List ℕ = overwritten_bytes (node (current log) i).bytes done chunk in
      let is : now ≡ with_change log (Writes i all d.time) =
      d.is ∙ ap (λ j. with_change log (Writes j (overwritten_bytes (node (current log) j).bytes done chunk) d.time)) (ap (λ o. unwrap_or o 0) filled.part.leads) in
      let all_are : all ≡ take (done + length chunk) bytes = ap (λ (xs : List ℕ). overwritten_bytes xs done chunk) filled.holds.bytes_are ∙ written_on bytes done chunk_bytes few in
      let node_is = written_node log i all d.time (part_there marks log part i guarded filled.part) in (
        subst (λ (l : CallLog). IsGuarded marks l) (sym is) (write_law marks log i all d.time filled.part.loose guarded),
        subst (λ (l : CallLog). IsFilled marks l part i (take (done + length chunk) bytes) mode) (sym is) (record {
          part = part_quiet log (Writes i all d.time) (λ g m. refl) marks part i filled.part;
          holds = record {
            kind = ap (λ (x : Node). x.kind) node_is ∙ filled.holds.kind;
            bytes_are = ap (λ (x : Node). x.bytes) node_is ∙ all_are;
            mode_is = ap (λ (x : Node). x.mode) node_is ∙ filled.holds.mode_is;
            unnamed = ap (λ (x : Node). x.unnamed) node_is ∙ filled.holds.unnamed;
          };
        }),
      )

pub chunk_law : ChunkLaw
chunk_law free old new count calls log now f0 f1 marks i s own guarded knows =
    let c = s.called log refl in
    let t = s.tells in
    let same : Fill c.0 c.1 c.2 ≡ Fill t.0 t.1 t.2 = sym c.3 ∙ t.3 in
    let done_same : t.2 ≡ c.2 = cc in
    let size = size_at (length old.bytes) old.copy.stage t.0 t.1 t.2 t.3 own.size in
    let within = t.6 in
    let few : c.2 ≤ length old.bytes = omega (arith, size, within, done_same) in
    let filled : IsFilled marks log c.0 i (take c.2 old.bytes) c.1.mode = subst (KnowsPart marks log i old.bytes) c.3 knows in
    let w = chunk_written marks log now guarded c.0 i old.bytes c.2 c.1.mode filled (performs_one log now (WriteAt c.0 c.2 (chunk_at old.bytes c.2)) c.5) few in
    let stage : new.copy.stage ≡ Fill c.0 c.1 (c.2 + length (chunk_at old.bytes c.2)) =
    ap (λ (n : Copying). n.stage) t.7 ∙ (ap (filled_by count) (sym same) ∙ ap (λ n. Fill c.0 c.1 (c.2 + n)) c.4) in (
      w.0,
      subst (λ (xs : List ℕ). KnowsPart marks now i xs new.copy.stage) (sym s.bytes) (subst (KnowsPart marks now i old.bytes) (sym stage) w.1),
    )

holder_is : (p : Route) → folder_of p ≡ holder p
holder_is [] = refl
holder_is (name ∷ up) = refl

-- at the part nothing is said, and below it nothing stands
part_unworked : (marks : Marks) (log : CallLog) (path : Route) (i : ℕ) → HasPart marks log path i → IsUnworked marks log path
part_unworked marks log path i has [] out = absurd (both_ways _ out has.is_aside)
part_unworked marks log path i has (name ∷ rest) out = inr (below_part marks log path i has name rest)

pub cleaned_law : CleanedLaw
cleaned_law free old new part calls log now f0 f1 marks i s guarded anchored has =
    removed_law marks log now part guarded (performs_one log now (RemoveFile part) (s.called log refl)) (subst (IsAnchored marks log) (holder_is part) anchored) (part_unworked marks log part i has)

pub barrier_law : BarrierLaw
barrier_law free old new calls log now f0 f1 marks target up s guarded target_is way near =
    folder_synced_law marks log now target up guarded
    (subst (λ p. Performs {A = Unit {0}} log (SyncFolder p) (Ok tt) (Some now)) (ap folder_of target_is) (performs_one log now (SyncFolder (folder_of old.copy.target)) (s.called log refl))) way near
