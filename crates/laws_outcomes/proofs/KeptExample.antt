-- A small session in which a file is copied to where another one stands, so the premises can be met: the job asks, it is answered `No`, it keeps what stands there, and is
-- finished. Then nothing has changed.
use Rattle.std.proofs.Common.{◌≡◌, pos, true, false, List, [], ◌∷◌, refl, ◌∙◌, ap, subst, inl, inr, Some, None, arith}
use Rattle.std.proofs.lemmas.Bool.{false≢true}
use Rattle.mc_text.specs.Routes.{Route}
use Rattle.mc_text.specs.declared.kind.Kind.TheVariants.{File}
use Rattle.tree_trait.specs.declared.calls.Meta.{Meta}
use Rattle.tree_trait.specs.declared.file_system.FileSystem.{FileSystem}
use Rattle.tree_trait.specs.declared.file_system.Node.{Node}
use Rattle.tree_trait.specs.FileSystem.{Spot, value, visible_tree}
use Rattle.tree_trait.specs.Change.{Change, Makes, CallLog, after_change, current}
use Rattle.tree_trait.specs.Shape.{IsTree}
use Rattle.tree_trait.proofs.BareRoot.{bare, bare_tree}
use Rattle.tree_trait.proofs.Kept.{tree_made}
use Rattle.job_reports.specs.declared.answer.Answer.TheVariants.{No}
use Rattle.job_reports.specs.declared.job.Job.TheVariants as plan
use Rattle.job_reports.specs.declared.job.Pair.{Pair}
use Rattle.job_reports.specs.declared.question.Question.{Question}
use Rattle.job_reports.specs.declared.report.Did.{Did}
use Rattle.job_reports.specs.declared.report.Did.TheVariants.{Asked, Ended, Kept}
use Rattle.job_reports.specs.declared.report.Ending.TheVariants.{Finished}
use Rattle.job_reports.specs.Questions.{question_on}
use Rattle.job_answers.specs.declared.replies.Decision.{Decision}
use Rattle.job_answers.specs.declared.replies.Decision.TheVariants.{Ask, Keep}
use Rattle.job_answers.specs.declared.replies.Replies.{Replies}
use Rattle.job_answers.specs.Decisions.{decision_on, no_replies, with_reply}
use Rattle.job_reports.specs.Paths.{folder_of}
use Rattle.copy_tree.specs.Asking.{IsDecided}
use Rattle.copy_tree.specs.Taking.{IsTaken}
use Rattle.copy_tree.specs.declared.looking.Taken.TheVariants as taken
use Rattle.copy_job.specs.Merged.{IsOver, KeepsTop}
use Rattle.copy_job.specs.Reporting.{ChangesOwn}
use Rattle.copy_job.specs.Standing.{SubtreeCopying, is_own, begun_subtree_copy}
use Rattle.job_unsynced.specs.Folders.{is_of}
use Rattle.copy_job.specs.SubtreeSteps.{step_result}
use Rattle.copy_move.specs.TreeCopies.{Tells}
use Rattle.session_entries.specs.declared.history.Event.TheVariants.{Began, Order, Step}
use Rattle.session_entries.specs.declared.history.JobOrder.TheVariants.{Answered}
use Rattle.session_entries.specs.declared.history.Entry.{Entry}
use Rattle.copy_move.specs.declared.run.Course.TheVariants.{Asking, GoesOn}
use Rattle.copy_move.specs.Jobs.{Running}
use Rattle.laws_sessions.specs.Replayed.{replayed_tree}
use Rattle.laws_sessions.specs.Traces.{IsTraced, nothing_live}
use Rattle.laws_sessions.proofs.CopyExampleSteps.{counts}
use Rattle.laws_sessions.proofs.ExampleParts.{entry, file, folder, known_is, own_step, stand}
use Rattle.laws_outcomes.specs.Keeps.{has_kept}
use Rattle.laws_outcomes.proofs.ExampleSteps.{IsStep, at_last, job, tells_own, with_top_passed, works}
use Rattle.laws_outcomes.proofs.UntouchedSteps.{kept_law}

-- the file at the target: newer, longer, and with another mode
abbrev pub old_file : Node
old_file = record { kind = File; bytes = 8 ∷ 9 ∷ []; mode = 0o600; mtime = pos 1; unnamed = 0 }

-- the root holds the folders `s` and `t`, and a file `x` stands in each
abbrev pub with_s : FileSystem
with_s = after_change bare (Makes 0 (115 ∷ []) folder)

abbrev pub with_folders : FileSystem
with_folders = after_change with_s (Makes 0 (116 ∷ []) folder)

abbrev pub with_source : FileSystem
with_source = after_change with_folders (Makes 1 (120 ∷ []) file)

abbrev pub small : FileSystem
small = after_change with_source (Makes 2 (120 ∷ []) old_file)

pub small_tree : IsTree small
small_tree =
    tree_made with_source 2 (120 ∷ []) old_file
    (tree_made with_folders 1 (120 ∷ []) file
    (tree_made with_s 0 (116 ∷ []) folder (tree_made bare 0 (115 ∷ []) folder bare_tree refl) refl) refl) refl

abbrev pub source : Route
source = (120 ∷ []) ∷ (115 ∷ []) ∷ []

abbrev pub target : Route
target = (120 ∷ []) ∷ (116 ∷ []) ∷ []

abbrev pub pair : Pair
pair = record { source = source; target = target }

abbrev pub log : List Change → CallLog
log changes = record { opening = small; changes = changes }

-- what is asked: both files, as `stat` tells of them
abbrev pub source_meta : Meta
source_meta = record { kind = File; size = 1; mode = 0o644; mtime = pos 0; mount = 0 }

abbrev pub target_meta : Meta
target_meta = record { kind = File; size = 2; mode = 0o600; mtime = pos 1; mount = 0 }

abbrev pub question : Question
question = question_on source source_meta target target_meta

-- what is decided of it by these answers
pub is_decided : (replies : Replies) (decision : Decision) → decision_on replies question ≡ decision → IsDecided small pair replies question decision
is_decided replies decision is = record {
  both = record {
    source = source_meta;
    target = target_meta;
    there = refl;
    of_source = record { kind = refl; size = refl; mode = refl; mtime = refl; mount = refl };
    stands = refl;
    of_target = record { kind = refl; size = refl; mode = refl; mtime = refl; mount = refl };
    replacing = tt;
    replaceable = tt;
  };
  asks = refl;
  decides = is;
}

-- the copy as it begins, and once it has kept what stands at its target
abbrev pub begun : SubtreeCopying
begun = begun_subtree_copy 1 pair

abbrev pub keeping : SubtreeCopying
keeping = with_top_passed begun

abbrev pub holder : Route
holder = (116 ∷ []) ∷ []

pub own_folder : is_own begun holder ≡ true
own_folder = refl

-- a step leaves the dirty folders as they are
pub stays : (c : SubtreeCopying) (did : Did) (dirty : List Route) → c.top ≡ pair → ChangesOwn c did dirty dirty
stays c did dirty top = record { folder = holder; own = ap (λ (p : Pair). is_of (folder_of p.target) p.target holder) top ∙ own_folder; was = false; now = false; list = refl; synced = λ was now. absurd (false≢true was) }

-- the job begins, and asks
abbrev pub begun_entries : List Entry
begun_entries = entry 0 (Began 1 (plan.Copy (pair ∷ [])) false) ∷ []

abbrev pub begins : Running
begins = job no_replies GoesOn begun

pub begun_traced : IsTraced (log []) begun_entries (stand (begins ∷ []) []) (log [])
begun_traced = (nothing_live, log [], (refl, refl), record { after = stand (begins ∷ []) []; leads = record { none_live = refl; after_is = refl; now_is = refl }; stand_is = refl; counts = refl })

abbrev pub asked_entries : List Entry
asked_entries = entry 0 (Step 1 (Asked question)) ∷ begun_entries

abbrev pub asks : Running
asks = job no_replies Asking begun

asks_step : IsStep no_replies begun begun (Asked question) 0 [] [] (log []) (log [])
asks_step = record {
  mid = begun.at;
  leaves = (0, refl);
  settled = refl;
  worked = step_result (Asked question) 0;
  moved = begun.at;
  works = inr (record {
    steps = record {
      folders = 0;
      mid = begun.at;
      leaves = refl;
      works = inr (
        refl,
        inr (inr (inr (inr (inr (inr (inl (record {
          pair = pair;
          question = question;
          next = refl;
          reach = (omega arith, omega arith, omega arith);
          top = refl;
          is = known_is (log []) (λ l. IsTaken (current l) true no_replies pair (taken.Asked question)) (is_decided no_replies Ask refl);
          says = refl;
          same = refl;
          stands = refl;
        }))))))),
      );
      counts = counts (Asked question) 0 (log []) (log []) refl (omega arith) (λ h. h);
    };
    list = refl;
  });
  going = tt;
  passes = inl (refl, refl, refl);
  stands = refl;
}

asks_tells : Tells no_replies begun (Asked question) begun
asks_tells = record {
  may = tt;
  after = record { top = refl; part = refl; stage = refl };
  first = λ fresh. tt;
  barred = λ trouble is. absurd (let f : ⊥ = cc in f);
  apart = λ trouble is. absurd (let f : ⊥ = cc in f);
  kinds = λ path cause is. absurd (let f : ⊥ = cc in f);
  merged = λ told names is. absurd (let f : ⊥ = cc in f);
  kept = λ path is. absurd (let f : ⊥ = cc in f);
  asked = λ told is. record { none = refl; around = refl; begins = λ before. (let e = before.names in let f : ⊥ = cc in f); same = refl };
  over = λ before. absurd (let e = before.names in let f : ⊥ = cc in f);
}

pub asked_traced : IsTraced (log []) asked_entries (stand (asks ∷ []) []) (log [])
asked_traced =
    own_step (log []) 1 0 (Asked question) begun_entries (stand (begins ∷ []) []) (stand (asks ∷ []) []) (log []) (log []) begins asks begun_traced (inl (refl, refl))
    (works no_replies Asking begun begun (Asked question) 0 [] [] (log []) (log []) asks_tells refl asks_step (λ fresh. refl) (stays begun (Asked question) [] refl)) refl refl refl

-- it is answered `No`, and keeps what stands at the target
abbrev pub no_entries : List Entry
no_entries = entry 0 (Order 1 (Answered No)) ∷ asked_entries

abbrev pub said_no : Replies
said_no = with_reply No no_replies

abbrev pub told_no : Running
told_no = job said_no GoesOn begun

pub no_traced : IsTraced (log []) no_entries (stand (told_no ∷ []) []) (log [])
no_traced = (stand (asks ∷ []) [], log [], asked_traced, record { after = stand (told_no ∷ []) []; leads = record { after_is = refl; now_is = refl }; stand_is = refl; counts = refl })

abbrev pub kept_entries : List Entry
kept_entries = entry 0 (Step 1 (Kept target)) ∷ no_entries

abbrev pub keeps : Running
keeps = job said_no GoesOn keeping

is_over : IsOver keeping.at
is_over = record { none = refl; around = refl; names = refl; owes = refl; clean = refl }

keeps_step : IsStep said_no begun keeping (Kept target) 0 [] [] (log []) (log [])
keeps_step = record {
  mid = begun.at;
  leaves = (0, refl);
  settled = refl;
  worked = step_result (Kept target) 0;
  moved = keeping.at;
  works = inr (record {
    steps = record {
      folders = 0;
      mid = begun.at;
      leaves = refl;
      works = inr (
        refl,
        inr (inr (inr (inr (inr (inl (record {
          pair = pair;
          next = refl;
          reach = (omega arith, omega arith, omega arith);
          top = refl;
          is = known_is (log []) (λ l. IsTaken (current l) true said_no pair taken.Kept) (question, is_decided said_no Keep refl);
          says = refl;
          same = refl;
          stands = refl;
        })))))),
      );
      counts = counts (Kept target) 0 (log []) (log []) refl (omega arith) (λ h. h);
    };
    list = refl;
  });
  going = tt;
  passes = inl (refl, refl, refl);
  stands = refl;
}

keeps_top : (path : Route) → Kept target ≡ Kept path → KeepsTop begun path keeping
keeps_top path is =
    let same : target ≡ path = cc in
    subst (λ p. KeepsTop begun p keeping) same (record {
      target = refl;
      none = refl;
      around = refl;
      begins = λ before. (let e = before.names in let f : ⊥ = cc in f);
      passed = record { none = refl; around = refl; names = refl };
      over = λ fresh. is_over;
    })

keeps_tells : Tells said_no begun (Kept target) keeping
keeps_tells = record {
  may = tt;
  after = record { top = refl; part = refl; stage = refl };
  first = λ fresh. tt;
  barred = λ trouble is. absurd (let f : ⊥ = cc in f);
  apart = λ trouble is. absurd (let f : ⊥ = cc in f);
  kinds = λ path cause is. absurd (let f : ⊥ = cc in f);
  merged = λ told names is. absurd (let f : ⊥ = cc in f);
  kept = keeps_top;
  asked = λ told is. absurd (let f : ⊥ = cc in f);
  over = λ before. absurd (let e = before.names in let f : ⊥ = cc in f);
}

pub kept_traced : IsTraced (log []) kept_entries (stand (keeps ∷ []) []) (log [])
kept_traced =
    own_step (log []) 1 0 (Kept target) no_entries (stand (told_no ∷ []) []) (stand (keeps ∷ []) []) (log []) (log []) told_no keeps no_traced (inl (refl, refl))
    (works said_no GoesOn begun keeping (Kept target) 0 [] [] (log []) (log []) keeps_tells refl keeps_step (λ fresh. refl) (stays begun (Kept target) [] refl)) refl refl refl

-- it is finished
abbrev pub end : Entry
end = entry 0 (Step 1 (Ended Finished None))

ends_step : IsStep said_no keeping (at_last keeping) (Ended Finished None) 0 [] [] (log []) (log [])
ends_step = record {
  mid = keeping.at;
  leaves = (0, refl);
  settled = refl;
  worked = step_result (Ended Finished None) 0;
  moved = (let d : SubtreeCopying = at_last keeping in d.at);
  works = inr (record {
    steps = record {
      folders = 0;
      mid = keeping.at;
      leaves = refl;
      works = inr (refl, inr (inr (inr (inr (inr (inr (inr (refl, inr (refl, record { last = refl; says = refl; stands = refl }, refl)))))))));
      counts = counts (Ended Finished None) 0 (log []) (log []) refl (omega arith) (λ h. h);
    };
    list = refl;
  });
  going = tt;
  passes = inl (refl, refl, refl);
  stands = refl;
}

pub ended_traced : IsTraced (log []) (end ∷ kept_entries) (stand [] []) (log [])
ended_traced =
    own_step (log []) 1 0 (Ended Finished None) kept_entries (stand (keeps ∷ []) []) (stand [] []) (log []) (log []) keeps (job said_no GoesOn (at_last keeping)) kept_traced (inl (refl, refl))
    (works said_no GoesOn keeping (at_last keeping) (Ended Finished None) 0 [] [] (log []) (log [])
    (tells_own said_no keeping (at_last keeping) (Ended Finished None) tt refl (record { top = refl; part = refl; stage = refl }) (λ fresh. tt)
    (λ before. (record { none = refl; around = refl; names = refl; owes = refl; clean = refl }, refl))) refl ends_step (λ fresh. refl) (stays keeping (Ended Finished None) [] refl)) refl refl refl

-- The job has kept something, so each path shows what it showed at the opening.
pub all_is_as_it_was : (path : Route) → replayed_tree (log []) (log []) kept_entries path ≡ visible_tree small path
all_is_as_it_was path =
    let law = kept_law (log []) (log []) (end ∷ kept_entries) (stand [] []) small_tree refl ended_traced in law.since end kept_entries 1 source target path (record { ended = refl; its = refl }) (inl (refl, refl, refl)) has refl
  where
    has : has_kept 1 kept_entries ≡ true
    has = refl

-- the target, too
pub target_is_kept : (replayed_tree (log []) (log []) kept_entries target).value ≡ Some (value old_file)
target_is_kept = ap (λ (spot : Spot). spot.value) (all_is_as_it_was target)
