-- Each last step of a copy of folders keeps what is known: its part is removed, a folder's sync is tried, and all ends.
use Rattle.std.proofs.Common.{◌≡◌, ℕ, true, false, List, refl, sym, ◌∙◌, ap, subst, inl, inr, Option, Some, None, Ok}
use Rattle.std.specs.Option.{option_map_or}
use Rattle.std.proofs.lemmas.Bool.{both_ways, false_from_ne_true, or_left, or_right, true≢false, or_parts}
use Rattle.mc_text.specs.Routes.{Route, same_path}
use Rattle.tree_trait.specs.declared.file_system.FileSystem.{FileSystem}
use Rattle.tree_trait.specs.declared.calls.TreeError.{TreeError}
use Rattle.tree_trait.specs.FileSystem.{node}
use Rattle.tree_trait.specs.Refusals.{is_folder}
use Rattle.tree_trait.specs.Calls.{RemoveFile, SyncFolder}
use Rattle.tree_trait.specs.Change.{Removes, CallLog, current}
use Rattle.tree_trait.specs.CrashImages.{Among}
use Rattle.tree_trait.specs.Answers.{Performs}
use Rattle.tree_trait.proofs.Visible.{same_path-self, same_path-true}
use Rattle.laws_crash.specs.Guarded.{Marks}
use Rattle.job_reports.specs.Paths.{folder_of}
use Rattle.job_reports.specs.declared.job.Pair.{Pair}
use Rattle.job_reports.specs.declared.report.Ending.{Ending}
use Rattle.job_reports.specs.declared.report.Did.{Did}
use Rattle.job_reports.specs.declared.report.Did.TheVariants.{Began, Chunk, Placed, Removed, Made, Set, Kept, Skipped, Cleaned, Barrier, Asked, Merges, Moved, Troubled, Ended}
use Rattle.job_reports.specs.declared.report.LastStepResult.{LastStepResult}
use Rattle.job_reports.proofs.CallAnswers.{some_log}
use Rattle.copy_file.specs.Copying as file
use Rattle.job_reports.specs.Stops.{sync_answer}
use Rattle.copy_file.specs.LastSteps.{Winds}
use Rattle.copy_tree.specs.Ending.{FoldersWind, WindsAt, stays_if}
use Rattle.copy_tree.specs.Standing.{Seen}
use Rattle.copy_tree.specs.TreeCopySteps.{idle}
use Rattle.copy_tree.specs.declared.item.ItemAtWork.{ItemAtWork}
use Rattle.copy_tree.specs.declared.item.ItemAtWork.TheVariants.{Next, File, Link, Stays}
use Rattle.copy_job.specs.LastCalls.{LastCalls, TellsTried}
use Rattle.copy_job.specs.LastCalls as calls
use Rattle.copy_job.specs.Reporting.{IsAfterLastStep, part_after_last_step}
use Rattle.copy_job.specs.Standing.{SubtreeCopying, part_of}
use Rattle.copy_job.specs.SubtreeSteps.{LastSubtreeStep}
use Rattle.copy_move.specs.declared.work.Work.{Work}
use Rattle.copy_move.specs.declared.work.Work.TheVariants.{Copy}
use Rattle.copy_move.specs.declared.run.Course.TheVariants.{Ends}
use Rattle.delete_job.specs.DeletionSteps.{after_try}
use Rattle.copy_move.specs.JobStepReports.{LastLeaves}
use Rattle.laws_sessions.specs.Doubt.{way_waits}
use Rattle.laws_sessions.proofs.Calming.{refused_is}
use Rattle.laws_sessions.proofs.Changing.{removed_known}
use Rattle.laws_sessions.proofs.Deleted.{IsRemoval, comes_refused, file_unjoined, removal_done, removal_leads}
use Rattle.laws_sessions.proofs.DeletionSteps.{Steps, tried}
use Rattle.laws_sessions.proofs.JobKnows.{HasName, none_of_part}
use Rattle.laws_sessions.proofs.JobSteps.{ends_left, removed_part}
use Rattle.laws_sessions.proofs.KnownParts.{IsLeftPart}
use Rattle.laws_sessions.proofs.Knowing.{IsKept, IsKnown, HistoryFacts}
use Rattle.laws_sessions.proofs.Resting.{folder_at}
use Rattle.laws_sessions.proofs.Stepped.{StepRan, comes_one, comes_then, said_after}
use Rattle.laws_sessions.proofs.TreeKnown.{ItemHas, LeavesPart, TreeKnown, leaves_part}

some_route : (p q : Route) → (let o : Option Route = Some p in o) ≡ Some q → p ≡ q
some_route p q h = cc

-- After a last step nothing is at work but a part that stays.
folders_item : (ending : Ending) (part : Option Route) (old new : Seen) (last : LastStepResult) (before after : Option CallLog) (f0 f1 : ℕ) → FoldersWind ending part old new last before after f0 f1
    → (p : Option Route) × (new.item ≡ stays_if p)
folders_item ending part old new last before after f0 f1 w = elim w.winds [
  | inl t ↦ (part, ap (λ (c : Seen). c.item) t.stands)
  | inr e ↦ (None, ap (λ (c : Seen). c.item) e.stands)
]

wound_item : (item : ItemAtWork) (ending : Ending) (old new : Seen) (last : LastStepResult) (before after : Option CallLog) (f0 f1 : ℕ) → WindsAt item ending old new last before after f0 f1 → (p : Option Route) × (new.item ≡ stays_if p)
wound_item Next ending old new last before after f0 f1 w = folders_item ending None old new last before after f0 f1 w
wound_item (File f) ending old new last before after f0 f1 w = (let m = w.moved in file.part_at m.stage, ap (λ (c : Seen). c.item) w.stands)
wound_item (Link l) ending old new last before after f0 f1 (inl w) = (None, ap (λ (c : Seen). c.item) w.stands)
wound_item (Link l) ending old new last before after f0 f1 (inr w) = let winds = w.winds in folders_item ending (Some l.part) (idle old) new winds.next w.mid after w.since f1 winds.winds
wound_item (Stays part) ending old new last before after f0 f1 w = folders_item ending (Some part) (idle old) new last before after f0 f1 w

part_stays : (p : Option Route) → part_of (stays_if p) ≡ p
part_stays None = refl
part_stays (Some part) = refl

left_item : (ending : Ending) (c new : SubtreeCopying) (last : LastStepResult) (dirty dirty_after : List Route) (before after : Option CallLog) (f0 f1 : ℕ) → IsAfterLastStep ending c last.did new
    → LastSubtreeStep ending c new last dirty dirty_after before after f0 f1 → new.at.item ≡ stays_if (part_after_last_step last.did (part_of c.at.item))
left_item ending c new last dirty dirty_after before after f0 f1 wound s =
    let x = wound_item c.at.item ending c.at new.at last before after f0 f1 s.winds in
    x.1 ∙ ap stays_if (sym (part_stays x.0) ∙ (ap part_of (sym x.1) ∙ wound.part))

-- a folder's try removes no part
no_removal : {A : Type 0} (ending : Ending) (part : Option Route) (old new : Seen) (last : LastStepResult) (before after : Option CallLog) (f0 f1 : ℕ) (path : Route) → last.did ≡ Cleaned path
    → FoldersWind ending part old new last before after f0 f1 → A
no_removal ending part old new last before after f0 f1 path is w = elim w.winds [
  | inl t ↦ absurd (let s = t.tried in let e : Cleaned path ≡ Barrier = sym is ∙ s.did in let f : ⊥ = cc in f)
  | inr e ↦ absurd (let same : Cleaned path ≡ Ended ending part = sym is ∙ ap (λ (l : LastStepResult). l.did) e.says in let f : ⊥ = cc in f)
]

left_has : (told : HistoryFacts) (routes : List Route) (m : Marks) (s : FileSystem) (ending : Ending) (part : Option Route) → LeavesPart told s part → ItemHas told routes m s (Ends ending) (stays_if part)
left_has told routes m s ending None none = none
left_has told routes m s ending (Some part) left = left

-- what is known of such a copy
over : (told : HistoryFacts) (routes : List Route) (m : Marks) (l : CallLog) (ending : Ending) (c new : SubtreeCopying) (part : Option Route) → HasName c.top.target → new.top ≡ c.top → new.at.item ≡ stays_if part
    → LeavesPart told (current l) part → TreeKnown told routes m l (Ends ending) new
over told routes m l ending c new part name top item left = record {
  name = subst (λ (p : Pair). HasName p.target) (sym top) name;
  part = subst (λ i. ItemHas told routes m (current l) (Ends ending) i) (sym item) (left_has told routes m (current l) ending part left);
  goes = λ on. absurd (true≢false on);
}

module _ (told : HistoryFacts) (dirty dirty_after : List Route) (marks : Marks) (log now : CallLog) (kept : IsKept told dirty marks log) where
  -- the part that stands is removed
  pub part_gone : (part : Route) (work : Work) (knows : Marks → Type 0) → IsLeftPart told (current log) part → Among dirty (folder_of part) × (told.folders (folder_of part) ≡ true) → Performs {A = Unit {0}} log (RemoveFile part) (Ok tt) (Some now)
      → ((m : Marks) → knows m) → StepRan told (said_after now (Cleaned part) work told) dirty log now knows
  part_gone part work knows left (listed, firm) done known_of = at (removal_done log now part kept.known.guarded.tree done)
    where
      aside : marks.aside part ≡ true
      aside = (kept.known.part part left.part_is).0

      -- a folder stands elsewhere
      no_file : (p : Route) → folder_at (current log) p ≡ true → same_path p part ≡ false
      no_file p stands = false_from_ne_true _ (λ same.
          both_ways _ (ap (folder_at (current log)) (same_path-true p part same) ∙ (ap (λ o. option_map_or (λ j. is_folder (node (current log) j)) o false) left.leads ∙ left.bare)) stands)

      same_part : (p : Route) → same_path p part ≡ false → told.part ≡ Some p → ⊥
      same_part p off is = both_ways _ off (subst (λ q. same_path q part ≡ true) (some_route part p (sym left.part_is ∙ is)) (same_path-self part))

      -- nothing waits on the way to the folder
      way : (it : IsRemoval log now part) → way_waits log it.r.up ≡ false
      way it = (let sure = kept.known.stand (folder_of part) firm in ap (way_waits log) (sym (ap folder_of it.r.path_is)) ∙ sure.sure)

      at : IsRemoval log now part → StepRan told (said_after now (Cleaned part) work told) dirty log now knows
      at it =
          let known = removed_known told (said_after now (Cleaned part) work told) dirty dirty marks log kept.known part it.r it.k (record {
            named = kept.known.aside;
            off = λ p off. (refl, refl, same_part p off);
            left = λ p off among. among;
            gone = (kept.known.part part left.part_is).1;
            was = λ out. absurd (both_ways _ out aside);
            part = refl;
            doubts = λ n p h. or_left _ _ h;
            spared = λ n p off. (or_parts (told.written n p) (same_path p part) off).0;
            folders = λ p there. (no_file p (let firm = kept.known.stand p there in firm.stands), inl there);
            modes = λ p h. h;
            calm = λ p h. inl h;
            doubted = λ n. or_right _ _ (same_path-self part);
          }) (λ out. absurd (both_ways _ out aside)) kept.roams (way it) (none_of_part told dirty marks log kept part it.r.i (removal_leads log now part it) aside)
          (file_unjoined log now part it kept.known.guarded.tree kept.known.files (ap (λ o. option_map_or (λ j. is_folder (node (current log) j)) o false) left.leads ∙ left.bare))
          (subst (λ q. Among dirty q) (ap folder_of it.r.path_is) listed) (λ q among off. among) in
          comes_one told (said_after now (Cleaned part) work told) dirty dirty marks marks log now (Removes it.r.f it.r.name it.k) knows kept it.now_is
          (subst (λ (l : CallLog). IsKnown (said_after now (Cleaned part) work told) dirty marks l) (sym it.now_is) known)
          (known_of _)

  -- the folder that holds it is listed, and on the disk
  part_listed : (item : ItemAtWork) (ending : Ending) (old new : Seen) (last : LastStepResult) (before after : Option CallLog) (f0 f1 : ℕ) (part : Route) → last.did ≡ Cleaned part
      → ItemHas told dirty marks (current log) (Ends ending) item → IsLeftPart told (current log) part → WindsAt item ending old new last before after f0 f1 → Among dirty (folder_of part) × (told.folders (folder_of part) ≡ true)
  part_listed Next ending old new last before after f0 f1 part is k left w = no_removal ending None old new last before after f0 f1 part is w
  part_listed (File f) ending old new last before after f0 f1 part is (name, listed, stage) left w =
      let winds = w.winds in
      let tells = subst (λ d. Winds ending f d w.moved) is winds.tells in
      let r = removed_part told dirty dirty_after marks log now kept f ending part f.stage stage tells.0 in
      let has = r.1.1 in
      let l = listed r.0 in
      subst (λ q. Among dirty q × (told.folders q ≡ true)) (sym (ap folder_of has.beside)) (l.0, l.1)
  part_listed (Link l) ending old new last before after f0 f1 part is (stands, k) left w =
      let has = k.has in
      subst (λ q. Among dirty (folder_of q) × (told.folders (folder_of q) ≡ true)) (some_route l.part part (sym has.part_is ∙ left.part_is))
      (subst (λ q. Among dirty q × (told.folders q ≡ true)) (sym (ap folder_of has.beside)) (k.listed, k.folder))
  part_listed (Stays stays) ending old new last before after f0 f1 part is k left w = no_removal ending (Some stays) (idle old) new last before after f0 f1 part is w

  module _ (ending : Ending) (c new : SubtreeCopying) (k : TreeKnown told dirty marks log (Ends ending) c) where
    abbrev In : Did → Type 0
    In did = Steps told dirty dirty_after marks log now kept did (Ends ending) (Copy c) (Copy new)

    abbrev part : Option Route
    part = part_of c.at.item

    left : LeavesPart told (current log) part
    left = leaves_part told dirty marks (current log) (Ends ending) c.at.item k.part

    -- a folder's sync was tried, after the removal of a part was refused or not
    tries : (folder : Route) (refusal : Option TreeError) → IsAfterLastStep ending c Barrier new → new.at.item ≡ stays_if part → after_try Barrier refusal folder dirty ≡ dirty_after
        → TellsTried part Barrier refusal folder log (Some now) → In Barrier
    tries folder refusal wound item list (mid, how, answer) = by how
      where
        known : (routes : List Route) (m : Marks) (l : CallLog) → LeavesPart told (current l) part → TreeKnown told routes m l (Ends ending) new
        known routes m l stays = over told routes m l ending c new part k.name wound.top item stays

        again : (m : Marks) → TreeKnown told dirty m mid (Ends ending) new → (routes : List Route) → TreeKnown told routes m mid (Ends ending) new
        again m still routes = known routes m mid (subst (LeavesPart told (current mid)) wound.part (leaves_part told dirty m (current mid) (Ends ending) new.at.item still.part))

        by : calls.LeavesPart part log mid → In Barrier
        by (inl same) =
            tried told dirty dirty_after marks log now kept folder refusal (Ends ending) (Copy new) (λ routes. known routes marks log left)
            (subst (λ (l : CallLog). Performs {A = Unit {0}} l (SyncFolder folder) (sync_answer refusal) (Some now)) same answer) (sym list)
        by (inr (path, e, is, refused)) =
            comes_then told told dirty dirty_after log mid now _ _
            (comes_refused told dirty marks log mid (Ends ending) (Copy new) kept (known dirty marks log left) (refused_is log mid (RemoveFile path) e (λ s bytes. refl) refused))
            (λ m kept_then still. tried told dirty dirty_after m mid now kept_then folder refusal (Ends ending) (Copy new) (again m still) answer (sym list))

    -- all ends
    ends_all : (how : Ending) (stays : Option Route) → stays ≡ part → dirty_after ≡ dirty → (mid : CallLog) → calls.LeavesPart part log mid → now ≡ mid → In (Ended how stays)
    ends_all how stays is list mid removal now_is = by removal
      where
        by : calls.LeavesPart part log mid → In (Ended how stays)
        by (inl same) = ends_left told dirty dirty_after marks log now kept how (Copy c) stays (subst (LeavesPart told (current log)) (sym is) left) list (now_is ∙ same)
        by (inr (path, e, path_is, refused)) =
            comes_then told (said_after now (Ended how stays) (Copy c) told) dirty dirty_after log mid now _ _
            (comes_refused told dirty marks log mid (Ends ending) (Copy c) kept k (refused_is log mid (RemoveFile path) e (λ s bytes. refl) refused))
            (λ m kept_then still. ends_left told dirty dirty_after m mid now kept_then how (Copy c) stays
            (subst (LeavesPart told (current mid)) (sym is) (leaves_part told dirty m (current mid) (Ends ending) c.at.item still.part)) list now_is)

    pub tree_winds : (did : Did) (count : ℕ) (tells : Option TreeError) (f0 f1 : ℕ) → IsAfterLastStep ending c did new → LastSubtreeStep ending c new (record { did = did; calls = count; left = tells }) dirty dirty_after (Some log) (Some now) f0 f1
        → LastCalls part did log (Some now) → LastLeaves (Copy c) did dirty dirty_after (Some log) (Some now) → In did
    tree_winds (Cleaned path) count tells f0 f1 wound s rows leaves =
        let item = left_item ending c new (record { did = Cleaned path; calls = count; left = tells }) dirty dirty_after (Some log) (Some now) f0 f1 wound s in
        let stands : IsLeftPart told (current log) path = subst (LeavesPart told (current log)) wound.may left in
        let listed = part_listed c.at.item ending c.at new.at (record { did = Cleaned path; calls = count; left = tells }) (Some log) (Some now) f0 f1 path refl k.part stands s.winds in
        let after = said_after now (Cleaned path) (Copy c) told in
        subst (λ routes. StepRan told after routes log now (λ m. TreeKnown after routes m now (Ends ending) new)) (sym leaves.dirty_is)
        (part_gone path (Copy c) (λ m. TreeKnown after dirty m now (Ends ending) new) stands listed
        (subst (λ (l : CallLog). Performs {A = Unit {0}} log (RemoveFile path) (Ok tt) (Some l)) (sym (some_log now rows.0 rows.2)) rows.1)
        (λ m. over after dirty m now ending c new None k.name wound.top item refl))
    tree_winds Barrier count tells f0 f1 wound s rows leaves =
        tries leaves.folder leaves.refusal wound (left_item ending c new (record { did = Barrier; calls = count; left = tells }) dirty dirty_after (Some log) (Some now) f0 f1 wound s) (sym leaves.dirty_is) (leaves.tried log refl)
    tree_winds (Ended how stays) count tells f0 f1 wound s (mid, removal, same) leaves = ends_all how stays (let may = wound.may in may.1) leaves.dirty_is mid removal (some_log now mid same)
    tree_winds did count tells f0 f1 wound s rows leaves = absurd wound.may
