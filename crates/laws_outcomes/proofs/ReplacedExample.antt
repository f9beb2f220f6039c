-- The session of `KeptExample`, answered `Yes`: a part is made beside the target and filled, and takes the target's name, at which a file stood; its folder is synced, and the job is
-- finished. Then a copy of the source stands at the target.
use Rattle.std.proofs.Common.{◌≡◌, ℕ, pos, true, false, List, [], ◌∷◌, refl, ap, inl, inr, Some, None, arith}
use Rattle.std.proofs.lemmas.Bool.{false≢true}
use Rattle.std.specs.Fmt.{digits}
use Rattle.mc_text.specs.Routes.{Route, same_path}
use Rattle.mc_text.specs.declared.kind.Kind.TheVariants.{File}
use Rattle.tree_trait.specs.declared.file_system.Node.{Node}
use Rattle.tree_trait.specs.declared.file_system.FileSystem.{FileSystem}
use Rattle.tree_trait.specs.FileSystem.{value, value_at}
use Rattle.tree_trait.specs.Change.{Change, Makes, Moves, Syncs, Writes, CallLog, current}
use Rattle.tree_trait.specs.CrashImages.{IsCrashImage}
use Rattle.job_reports.specs.declared.answer.Answer.TheVariants.{Yes}
use Rattle.job_reports.specs.declared.question.Question.{Question}
use Rattle.job_reports.specs.declared.report.Did.TheVariants.{Barrier, Began, Chunk, Ended, Placed}
use Rattle.job_reports.specs.declared.report.Ending.TheVariants.{Finished}
use Rattle.job_reports.specs.Jobs as jobs
use Rattle.job_answers.specs.declared.replies.Decision.TheVariants.{Replace}
use Rattle.job_answers.specs.declared.replies.Replies.{Replies}
use Rattle.job_answers.specs.Decisions.{decision_on, no_replies, with_reply}
use Rattle.copy_file.specs.declared.stage.FolderState.TheVariants.{Dirty, Synced}
use Rattle.copy_file.specs.declared.stage.SourceFacts.{SourceFacts}
use Rattle.copy_file.specs.declared.stage.Stage.TheVariants.{Begin, Decided, Fill}
use Rattle.copy_file.specs.CopyCalls.{CopyCalls}
use Rattle.copy_file.specs.Copying.{Copying, Places, copying, places}
use Rattle.copy_file.specs.PartNames.{IsFirstFree, part_name, part_path}
use Rattle.copy_file.specs.PartSteps.{MadeCalls}
use Rattle.copy_folders.specs.FolderCopying.{FolderCopying}
use Rattle.copy_folders.specs.FolderCopying as folder
use Rattle.copy_folders.specs.FolderSteps.{FolderCalls}
use Rattle.copy_folders.specs.declared.stage.FolderDid.TheVariants as folder_did
use Rattle.copy_folders.specs.declared.stage.NamesState.TheVariants as folder_names
use Rattle.copy_folders.specs.declared.stage.Stage.TheVariants as folder_stage
use Rattle.copy_folders.specs.Levels.{with_copy}
use Rattle.copy_tree.specs.Parts.{IsPartPlace}
use Rattle.copy_tree.specs.Standing.{Seen, after_report}
use Rattle.copy_tree.specs.TreeCopySteps.{after_file, at_end, idle}
use Rattle.copy_tree.specs.Taking.{IsTaken}
use Rattle.copy_tree.specs.declared.looking.Taken.TheVariants as taken
use Rattle.copy_job.specs.Reporting.{ChangesOwn}
use Rattle.copy_job.specs.Standing.{SubtreeCopying}
use Rattle.copy_job.specs.SubtreeSteps.{step_result}
use Rattle.session_entries.specs.declared.history.Event.TheVariants.{Order, Step}
use Rattle.session_entries.specs.declared.history.JobOrder.TheVariants.{Answered}
use Rattle.session_entries.specs.declared.history.Entry.{Entry}
use Rattle.copy_move.specs.declared.run.Course.TheVariants.{GoesOn}
use Rattle.copy_move.specs.Jobs.{Running}
use Rattle.laws_sessions.specs.Replayed.{replayed_tree}
use Rattle.laws_sessions.specs.Traces.{IsTraced, WorkLeads}
use Rattle.laws_sessions.proofs.CopyExampleSteps.{counts}
use Rattle.laws_sessions.proofs.ExampleParts.{entry, file, known_is, own_step, stand}
use Rattle.laws_outcomes.proofs.ExampleSteps.{IsStep, anywhere, at_last, job, tells_own, works}
use Rattle.laws_sessions.specs.Safe.{IsPart}
use Rattle.laws_sessions.proofs.Done.{done_law}
use Rattle.laws_outcomes.proofs.KeptExample.{asked_entries, asked_traced, asks, begun, holder, is_decided, log, own_folder, pair, question, small, small_tree, source, stays, target}
use Rattle.laws_outcomes.specs.Answered.{IsQuestionOf, replies_said}
use Rattle.laws_outcomes.proofs.AnswersLaw.{answered_law}
use Rattle.laws_outcomes.proofs.Outcome.{outcome_law}

abbrev pub said_yes : Replies
said_yes = with_reply Yes no_replies

-- the job is answered `Yes`
abbrev pub yes_entries : List Entry
yes_entries = entry 0 (Order 1 (Answered Yes)) ∷ asked_entries

abbrev pub told_yes : Running
told_yes = job said_yes GoesOn begun

yes_traced : IsTraced (log []) yes_entries (stand (told_yes ∷ []) []) (log [])
yes_traced = (stand (asks ∷ []) [], log [], asked_traced, record { after = stand (told_yes ∷ []) []; leads = record { after_is = refl; now_is = refl }; stand_is = refl; counts = refl })

-- the copy of the file, and its part, which is made where nothing stands
abbrev pub ours : Places
ours = places 1 source target

abbrev pub part : Route
part = part_path ours 0

abbrev facts : SourceFacts
facts = record { size = 1; mode = 0o644 }

abbrev filling : ℕ → Copying
filling done = copying ours (Fill part facts done) Dirty

abbrev placed_file : Copying
placed_file = copying ours Decided Dirty

first_free : IsFirstFree small (IsPartPlace anywhere begun.at) ours 0
unfolding digits
first_free = record {
  few = omega arith;
  free = record {
    apart = λ is. false≢true (ap (λ (path : Route). same_path path target) is);
    unread = λ is. false≢true (ap (λ (path : Route). same_path path source) is);
    unclaimed = λ short. refl;
    missing = λ short. refl;
  };
  first = λ j less. absurd (omega (arith, less));
}

-- how the copy stands once its part was made, is full, was placed, and once its folder was synced
abbrev fills : SubtreeCopying
fills = record begun { at = after_file (Began part) (filling 0) (idle begun.at) }

abbrev is_full : SubtreeCopying
is_full = record fills { at = after_file (Chunk 1) (filling 1) (idle fills.at) }

abbrev is_placed : SubtreeCopying
is_placed = record is_full { at = after_file (Placed target) placed_file (idle is_full.at) }

abbrev around : FolderCopying
around = folder.copying ((115 ∷ []) ∷ []) holder (folder_stage.Close None) folder_names.Synced

abbrev is_done : SubtreeCopying
is_done = record is_placed { at = (let s : Seen = at_end is_placed.at in record s { stage = after_report Barrier s.stage; levels = with_copy around s.levels }) }

-- the first change makes the folder dirty
becomes_dirty : ChangesOwn begun (Began part) [] (holder ∷ [])
becomes_dirty = record { folder = holder; own = own_folder; was = false; now = true; list = refl; synced = λ was now. absurd (false≢true was) }

becomes_clean : ChangesOwn is_placed Barrier (holder ∷ []) []
becomes_clean = record { folder = holder; own = own_folder; was = true; now = false; list = refl; synced = λ was now. refl }

-- its part is made
abbrev part_file : Node
part_file = record { kind = File; bytes = []; mode = 0o644; mtime = pos 0; unnamed = 0 }

abbrev makes : Change
makes = Makes 2 (part_name 1 0) part_file

abbrev made_log : CallLog
made_log = log (makes ∷ [])

abbrev pub made_entries : List Entry
made_entries = entry 1 (Step 1 (Began part)) ∷ yes_entries

made_step : IsStep said_yes begun fills (Began part) 1 [] (holder ∷ []) (log []) made_log
unfolding digits
made_step = record {
  mid = begun.at;
  leaves = (0, refl);
  settled = refl;
  worked = step_result (Began part) 1;
  moved = fills.at;
  works = inr (record {
    steps = record {
      folders = 0;
      mid = begun.at;
      leaves = refl;
      works = inr (
        refl,
        inr (inl (record {
          pair = pair;
          facts = facts;
          next = refl;
          reach = (omega arith, omega arith, omega arith);
          is = known_is (log []) (λ l. IsTaken (current l) true said_yes pair (taken.File facts)) ((refl, refl), record { size = refl; mode = refl }, inr (refl, (question, is_decided said_yes Replace refl)));
          range = record { mode = omega arith; size = omega arith };
          works = record {
            moved = filling 0;
            tells = refl;
            called = known_is (log []) (λ l. MadeCalls (IsPartPlace anywhere begun.at) facts (copying ours Begin Synced) (Began part) l (Some made_log)) (0, refl, first_free, (made_log, (refl, (pos 0, refl)), refl));
            sound = (omega arith, omega arith, omega arith, refl);
            short = omega arith;
            stands = refl;
          };
        })),
      );
      counts = counts (Began part) 1 (log []) made_log refl (omega arith) (λ h. h);
    };
    list = refl;
  });
  going = (refl, refl);
  passes = inl (refl, refl, refl);
  stands = refl;
}

made_leads : WorkLeads told_yes (Began part) (job said_yes GoesOn fills) [] (holder ∷ []) (log []) made_log
made_leads =
    works said_yes GoesOn begun fills (Began part) 1 [] (holder ∷ []) (log []) made_log
    (tells_own said_yes begun fills (Began part) tt tt (record { top = refl; part = refl; stage = refl }) (λ fresh. tt) (λ before. absurd (let e = before.names in let f : ⊥ = cc in f)))
    refl made_step (λ fresh. refl) becomes_dirty

made_traced : IsTraced (log []) made_entries (stand (job said_yes GoesOn fills ∷ []) (holder ∷ [])) made_log
made_traced =
    own_step (log []) 1 1 (Began part) yes_entries (stand (told_yes ∷ []) []) (stand (job said_yes GoesOn fills ∷ []) (holder ∷ [])) (log []) made_log told_yes (job said_yes GoesOn fills) yes_traced (inl (refl, refl))
    made_leads refl refl refl

-- it is filled with the one byte of the source
abbrev writes : Change
writes = Writes 5 (7 ∷ []) (pos 0)

abbrev filled_log : CallLog
filled_log = log (makes ∷ writes ∷ [])

abbrev pub filled_entries : List Entry
filled_entries = entry 2 (Step 1 (Chunk 1)) ∷ made_entries

filled_step : IsStep said_yes fills is_full (Chunk 1) 1 (holder ∷ []) (holder ∷ []) made_log filled_log
unfolding digits
filled_step = record {
  mid = fills.at;
  leaves = (0, refl);
  settled = refl;
  worked = step_result (Chunk 1) 1;
  moved = is_full.at;
  works = inr (record {
    steps = record {
      folders = 0;
      mid = fills.at;
      leaves = refl;
      works = record {
        moved = filling 1;
        tells = (part, facts, 0, refl, omega arith, omega arith, omega arith, refl);
        called = known_is made_log (λ l. CopyCalls (IsPartPlace anywhere fills.at) (filling 0) (Chunk 1) (filling 1) l (Some filled_log)) (part, facts, 0, refl, refl, (filled_log, (refl, (pos 0, refl)), refl));
        falls = omega arith;
        sound = (omega arith, omega arith, omega arith, refl);
        short = omega arith;
        stands = refl;
      };
      counts = counts (Chunk 1) 1 made_log filled_log refl (omega arith) (λ h. h);
    };
    list = refl;
  });
  going = (refl, refl);
  passes = inl (refl, refl, refl);
  stands = refl;
}

filled_leads : WorkLeads (job said_yes GoesOn fills) (Chunk 1) (job said_yes GoesOn is_full) (holder ∷ []) (holder ∷ []) made_log filled_log
filled_leads =
    works said_yes GoesOn fills is_full (Chunk 1) 1 (holder ∷ []) (holder ∷ []) made_log filled_log
    (tells_own said_yes fills is_full (Chunk 1) tt tt (record { top = refl; part = refl; stage = refl }) (λ fresh. absurd (false≢true fresh)) (λ before. absurd (let e = before.names in let f : ⊥ = cc in f)))
    refl filled_step (λ fresh. absurd (false≢true fresh)) (stays fills (Chunk 1) (holder ∷ []) refl)

filled_traced : IsTraced (log []) filled_entries (stand (job said_yes GoesOn is_full ∷ []) (holder ∷ [])) filled_log
filled_traced =
    own_step (log []) 1 2 (Chunk 1) made_entries (stand (job said_yes GoesOn fills ∷ []) (holder ∷ [])) (stand (job said_yes GoesOn is_full ∷ []) (holder ∷ [])) made_log filled_log (job said_yes GoesOn fills) (job said_yes GoesOn is_full) made_traced (inl (refl, refl))
    filled_leads refl refl refl

-- it is synced, and takes the target's name from the file that stood there
abbrev synced_log : CallLog
synced_log = log (makes ∷ writes ∷ Syncs 5 ∷ [])

abbrev moves : Change
moves = Moves 2 (part_name 1 0) 2 (120 ∷ []) 5 (Some 4)

abbrev placed_log : CallLog
placed_log = log (makes ∷ writes ∷ Syncs 5 ∷ moves ∷ [])

abbrev pub placed_entries : List Entry
placed_entries = entry 4 (Step 1 (Placed target)) ∷ filled_entries

placed_step : IsStep said_yes is_full is_placed (Placed target) 2 (holder ∷ []) (holder ∷ []) filled_log placed_log
unfolding digits
placed_step = record {
  mid = is_full.at;
  leaves = (0, refl);
  settled = refl;
  worked = step_result (Placed target) 2;
  moved = is_placed.at;
  works = inr (record {
    steps = record {
      folders = 0;
      mid = is_full.at;
      leaves = refl;
      works = record {
        moved = placed_file;
        tells = (part, facts, refl, refl, refl);
        called = known_is filled_log (λ l. CopyCalls (IsPartPlace anywhere is_full.at) (filling 1) (Placed target) placed_file l (Some placed_log)) (part, facts, refl, (synced_log, (refl, (pos 0, refl)), (placed_log, (refl, (pos 0, refl)), refl)));
        falls = omega arith;
        sound = tt;
        short = tt;
        stands = refl;
      };
      counts = counts (Placed target) 2 filled_log placed_log refl (omega arith) (λ h. h);
    };
    list = refl;
  });
  going = tt;
  passes = inl (refl, refl, refl);
  stands = refl;
}

placed_leads : WorkLeads (job said_yes GoesOn is_full) (Placed target) (job said_yes GoesOn is_placed) (holder ∷ []) (holder ∷ []) filled_log placed_log
placed_leads =
    works said_yes GoesOn is_full is_placed (Placed target) 2 (holder ∷ []) (holder ∷ []) filled_log placed_log
    (tells_own said_yes is_full is_placed (Placed target) tt tt (record { top = refl; part = refl; stage = refl }) (λ fresh. absurd (false≢true fresh)) (λ before. absurd (let e = before.names in let f : ⊥ = cc in f)))
    refl placed_step (λ fresh. absurd (false≢true fresh)) (stays is_full (Placed target) (holder ∷ []) refl)

placed_traced : IsTraced (log []) placed_entries (stand (job said_yes GoesOn is_placed ∷ []) (holder ∷ [])) placed_log
placed_traced =
    own_step (log []) 1 4 (Placed target) filled_entries (stand (job said_yes GoesOn is_full ∷ []) (holder ∷ [])) (stand (job said_yes GoesOn is_placed ∷ []) (holder ∷ [])) filled_log placed_log (job said_yes GoesOn is_full) (job said_yes GoesOn is_placed) filled_traced (inl (refl, refl))
    placed_leads refl refl refl

-- the folder is synced, and the job is finished
abbrev pub done_log : CallLog
done_log = log (makes ∷ writes ∷ Syncs 5 ∷ moves ∷ Syncs 2 ∷ [])

abbrev pub done_entries : List Entry
done_entries = entry 5 (Step 1 Barrier) ∷ placed_entries

done_step : IsStep said_yes is_placed is_done Barrier 1 (holder ∷ []) [] placed_log done_log
unfolding digits
done_step = record {
  mid = is_placed.at;
  leaves = (0, refl);
  settled = refl;
  worked = step_result Barrier 1;
  moved = is_done.at;
  works = inr (record {
    steps = record {
      folders = 0;
      mid = is_placed.at;
      leaves = refl;
      works = inr (
        refl,
        inr (inr (inr (inr (inr (inr (inr (
          refl,
          inl (
            refl,
            record {
              moved = around;
              report = folder_did.Barrier;
              says = refl;
              tells = (refl, refl, refl);
              called = known_is placed_log (λ l. FolderCalls (record around { names = folder_names.Dirty }) folder_did.Barrier l (Some done_log)) (done_log, (refl, (pos 0, refl)), refl);
              falls = omega arith;
              stands = refl;
            },
          ),
        ))))))),
      );
      counts = counts Barrier 1 placed_log done_log refl (omega arith) (λ h. h);
    };
    list = refl;
  });
  going = tt;
  passes = inl (refl, refl, refl);
  stands = refl;
}

done_leads : WorkLeads (job said_yes GoesOn is_placed) Barrier (job said_yes GoesOn is_done) (holder ∷ []) [] placed_log done_log
done_leads =
    works said_yes GoesOn is_placed is_done Barrier 1 (holder ∷ []) [] placed_log done_log
    (tells_own said_yes is_placed is_done Barrier tt tt (record { top = refl; part = refl; stage = refl }) (λ fresh. absurd (false≢true fresh)) (λ before. absurd (let e = before.clean in let f : ⊥ = cc in f)))
    refl done_step (λ fresh. absurd (false≢true fresh)) becomes_clean

done_traced : IsTraced (log []) done_entries (stand (job said_yes GoesOn is_done ∷ []) []) done_log
done_traced =
    own_step (log []) 1 5 Barrier placed_entries (stand (job said_yes GoesOn is_placed ∷ []) (holder ∷ [])) (stand (job said_yes GoesOn is_done ∷ []) []) placed_log done_log (job said_yes GoesOn is_placed) (job said_yes GoesOn is_done) placed_traced (inl (refl, refl))
    done_leads refl refl refl

abbrev pub end : Entry
end = entry 5 (Step 1 (Ended Finished None))

ended_step : IsStep said_yes is_done (at_last is_done) (Ended Finished None) 0 [] [] done_log done_log
ended_step = record {
  mid = is_done.at;
  leaves = (0, refl);
  settled = refl;
  worked = step_result (Ended Finished None) 0;
  moved = (let d : SubtreeCopying = at_last is_done in d.at);
  works = inr (record {
    steps = record {
      folders = 0;
      mid = is_done.at;
      leaves = refl;
      works = inr (refl, inr (inr (inr (inr (inr (inr (inr (refl, inr (refl, record { last = refl; says = refl; stands = refl }, refl)))))))));
      counts = counts (Ended Finished None) 0 done_log done_log refl (omega arith) (λ h. h);
    };
    list = refl;
  });
  going = tt;
  passes = inl (refl, refl, refl);
  stands = refl;
}

ended_leads : WorkLeads (job said_yes GoesOn is_done) (Ended Finished None) (job said_yes GoesOn (at_last is_done)) [] [] done_log done_log
ended_leads =
    works said_yes GoesOn is_done (at_last is_done) (Ended Finished None) 0 [] [] done_log done_log
    (tells_own said_yes is_done (at_last is_done) (Ended Finished None) tt refl (record { top = refl; part = refl; stage = refl }) (λ fresh. absurd (false≢true fresh))
    (λ before. (record { none = refl; around = refl; names = refl; owes = refl; clean = refl }, refl))) refl ended_step (λ fresh. absurd (false≢true fresh)) (stays is_done (Ended Finished None) [] refl)

pub ended_traced : IsTraced (log []) (end ∷ done_entries) (stand [] []) done_log
ended_traced =
    own_step (log []) 1 5 (Ended Finished None) done_entries (stand (job said_yes GoesOn is_done ∷ []) []) (stand [] []) done_log done_log (job said_yes GoesOn is_done) (job said_yes GoesOn (at_last is_done)) done_traced (inl (refl, refl)) ended_leads refl refl refl

-- so a copy of the source stands at the target
pub target_is_replaced : (replayed_tree (log []) done_log done_entries target).value ≡ Some (value file)
target_is_replaced =
    outcome_law (log []) done_log (end ∷ done_entries) (stand [] []) small_tree refl ended_traced end done_entries 1 (jobs.Copies source target) (record { ended = refl; its = refl }) (inl (refl, refl, refl))
    [] refl (λ left among. absurd among)

-- and its part was begun since an answer said so
pub part_is_answered : (asks : Question) × IsQuestionOf (replayed_tree (log []) done_log yes_entries) source target asks × (decision_on (replies_said 1 yes_entries) asks ≡ Replace)
part_is_answered =
    (let law = answered_law (log []) done_log (end ∷ done_entries) (stand [] []) small_tree refl ended_traced in law.copies) (entry 1 (Step 1 (Began part))) yes_entries 1 (Began part) source target refl refl
    (inr (inr (inr (inr (inr (inr (inr (inr (inl (refl, refl, refl)))))))))) refl refl

-- Nothing stands any more where its part was, which is a path of the job's own, and no crash brings that back.
pub part_is_gone : (image : FileSystem) → IsCrashImage done_log 5 image → value_at image part ≡ None
unfolding digits
part_is_gone image left =
    done_law (log []) done_log (end ∷ done_entries) (stand [] []) small_tree refl ended_traced end done_entries (end ∷ done_entries) (end ∷ done_entries) 5 part image
    (record { id = 1; item = jobs.Copies source target; ended = refl; changed = refl; its = refl; own = inr (refl, refl) }) no_part refl (λ m. false≢true m.begins) (inl (refl, refl, refl)) (inl refl) (inl refl) left
  where
    no_part : IsPart (end ∷ done_entries) done_log part → ⊥
    no_part p = elim p.stays [ inl stands ↦ false≢true stands | inr waits ↦ false≢true waits ]
