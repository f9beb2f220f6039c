-- A step brings a job nearer to its end, with all sources that it is yet to take up.
use Rattle.std.proofs.Common.{◌≡◌, ℕ, ◌+◌, ◌*◌, ◌<◌, ◌≤◌, Bool, true, false, List, [], ◌∷◌, length, refl, sym, ◌∙◌, ap, subst, inl, inr, Option, Some, None, arith}
use Rattle.std.specs.Prelude.{◌++◌, if◌then◌else◌}
use Rattle.std.specs.Option.{option_map, option_map_or}
use Rattle.std.proofs.lemmas.Bool.{false≢true, true≢false}
use Rattle.mc_text.specs.Routes.{Route}
use Rattle.tree_trait.specs.Change.{CallLog}
use Rattle.job_reports.specs.declared.report.Transfer.{Transfer}
use Rattle.job_reports.specs.declared.job.Job.{Job}
use Rattle.job_reports.specs.declared.job.Pair.{Pair}
use Rattle.job_reports.specs.declared.report.Did.{Did}
use Rattle.job_reports.specs.declared.report.Did.TheVariants.{Began, Chunk, Placed, Removed, Made, Set, Kept, Skipped, Cleaned, Barrier, Asked, Merges, Moved, Troubled, Ended}
use Rattle.job_reports.specs.declared.report.Ending.TheVariants.{Finished, Aborted, Killed, NoMemory}
use Rattle.job_reports.specs.Reports.{ends}
use Rattle.session_entries.specs.SourcesLeft.{children_in, left_by}
use Rattle.copy_move.specs.declared.run.Course.{Course}
use Rattle.copy_move.specs.declared.run.Course.TheVariants.{GoesOn, Asking, InTrouble, OwedSyncFailed, Skips, Ends}
use Rattle.copy_move.specs.declared.work.Work.{Work}
use Rattle.copy_move.specs.Jobs.{Running, TellsOn, first_work}
use Rattle.copy_move.specs.Ranks.{rank_at, rank_with, work_rank}
use Rattle.copy_move.specs.JobStepReports.{RunStep, SyncsOwed, step_made}
use Rattle.copy_move.specs.Told.{if_closed, with_next}
use Rattle.copy_move.proofs.Finishing.{Finishes, finish_stays}
use Rattle.copy_move.proofs.Merging.{merge_stays}
use Rattle.job_sources.specs.declared.turning.Stepped.{Stepped}
use Rattle.job_sources.specs.Turning.{GoesOn as GoesWith, Turns, children_left, children_on, finishes, merges, rank_left, source_rank, sources_rank}
use Rattle.job_sources.proofs.Children.{cost_within, sources_apart, start_cost}
use Rattle.job_sources.proofs.Over.{closed_within, step_less, step_merges}
use Rattle.job_sources.proofs.Ranking.{closed_rank, run_falls, some_left}

-- the report that a source is finished
pub finish_so : (did : Did) → finishes did ≡ true → (part : Option Route) × (did ≡ Ended Finished part)
finish_so (Ended Finished part) h = (part, refl)
finish_so (Ended Aborted part) h = absurd (false≢true h)
finish_so (Ended Killed part) h = absurd (false≢true h)
finish_so (Ended NoMemory part) h = absurd (false≢true h)
finish_so (Began part) h = absurd (false≢true h)
finish_so (Chunk count) h = absurd (false≢true h)
finish_so (Asked question) h = absurd (false≢true h)
finish_so (Merges transfer pair names) h = absurd (false≢true h)
finish_so (Moved pair) h = absurd (false≢true h)
finish_so (Set path) h = absurd (false≢true h)
finish_so (Placed path) h = absurd (false≢true h)
finish_so (Removed path) h = absurd (false≢true h)
finish_so (Made path) h = absurd (false≢true h)
finish_so (Kept path) h = absurd (false≢true h)
finish_so (Skipped path cause) h = absurd (false≢true h)
finish_so (Cleaned part) h = absurd (false≢true h)
finish_so Barrier h = absurd (false≢true h)
finish_so (Troubled trouble) h = absurd (false≢true h)

-- a job keeps its number
tells_number : (course : Course) (job new : Running) (did : Did) → TellsOn course job did new → new.id ≡ job.id
tells_number GoesOn job new did (work, tells, is) = ap (λ (r : Running). r.id) is
tells_number (InTrouble halt) job new did t = absurd t
tells_number (OwedSyncFailed cause) job new did t = absurd t
tells_number Asking job new did t = absurd t
tells_number (Skips cause) job new did (inl (path, work, did_is, passes, is)) = ap (λ (r : Running). r.id) is
tells_number (Skips cause) job new did (inr (apart, did_is, is)) = ap (λ (r : Running). r.id) is
tells_number (Ends ending) job new did (work, tells, is) = ap (λ (r : Running). r.id) is

synced_number : (job new : Running) (path : Route) (did : Did) (dirty dirty_after : List Route) (before after : Option CallLog) → SyncsOwed job path did new dirty dirty_after before after → new.id ≡ job.id
synced_number job new path did dirty dirty_after before after (inl h) = ap (λ (r : Running). r.id) h.new_is
synced_number job new path did dirty dirty_after before after (inr h) = ap (λ (r : Running). r.id) h.new_is

-- the report that a folder is merged
pub merge_so : (did : Did) → merges did ≡ true → (transfer : Transfer) × (pair : Pair) × (names : List (List ℕ)) × (did ≡ Merges transfer pair names)
merge_so (Merges transfer pair names) h = (transfer, pair, names, refl)
merge_so (Moved pair) h = absurd (false≢true h)
merge_so (Ended ending part) h = absurd (false≢true h)
merge_so (Began part) h = absurd (false≢true h)
merge_so (Chunk count) h = absurd (false≢true h)
merge_so (Asked question) h = absurd (false≢true h)
merge_so (Set path) h = absurd (false≢true h)
merge_so (Placed path) h = absurd (false≢true h)
merge_so (Removed path) h = absurd (false≢true h)
merge_so (Made path) h = absurd (false≢true h)
merge_so (Kept path) h = absurd (false≢true h)
merge_so (Skipped path cause) h = absurd (false≢true h)
merge_so (Cleaned part) h = absurd (false≢true h)
merge_so Barrier h = absurd (false≢true h)
merge_so (Troubled trouble) h = absurd (false≢true h)

-- all others leave the sources as they are, or none
left_plain : (did : Did) (left : List Job) → merges did ≡ false → left_by did left ≡ (if ends did then [] else left)
left_plain (Merges transfer pair names) left h = absurd (true≢false h)
left_plain (Moved pair) left h = refl
left_plain (Ended ending part) left h = refl
left_plain (Began part) left h = refl
left_plain (Chunk count) left h = refl
left_plain (Asked question) left h = refl
left_plain (Set path) left h = refl
left_plain (Placed path) left h = refl
left_plain (Removed path) left h = refl
left_plain (Made path) left h = refl
left_plain (Kept path) left h = refl
left_plain (Skipped path cause) left h = refl
left_plain (Cleaned part) left h = refl
left_plain Barrier left h = refl
left_plain (Troubled trouble) left h = refl

-- the job as it stands, where the session is closed, counts no more children
on_closed : (closed : Bool) (new : Running) (dirty : List Route) (left : List Job)
    → rank_left dirty (if_closed closed (Some new)) left ≤ rank_with dirty (if_closed closed (Some new)) + (children_on new.course new.work + sources_rank new.id left)
on_closed true new dirty left = let less = closed_within new.course new.work in omega (arith, less)
on_closed false new dirty left = omega arith

-- a step that is written down as its report
report_falls : (closed ended : Bool) (job new : Running) (dirty dirty_after : List Route) (left : List Job) → new.id ≡ job.id → rank_with dirty_after (if_closed closed (if ended then None else Some new)) < rank_with dirty (Some job)
    → children_on new.course new.work ≤ children_on job.course job.work
    → rank_left dirty_after (if_closed closed (if ended then None else Some new)) (if ended then [] else left) < rank_left dirty (Some job) left
report_falls true true job new dirty dirty_after left number low less = omega (arith, low)
report_falls false true job new dirty dirty_after left number low less = omega (arith, low)
report_falls closed false job new dirty dirty_after left number low less =
    let same = ap (λ n. sources_rank n left) number in
    let most = on_closed closed new dirty_after left in
    omega (arith, low, same, less, most)

-- a step that merges, whose children come in
merge_falls : (closed : Bool) (job new : Running) (dirty dirty_after : List Route) (children left : List Job) → new.id ≡ job.id → rank_with dirty_after (if_closed closed (Some new)) < rank_with dirty (Some job)
    → children_on new.course new.work + sources_rank new.id children ≤ children_on job.course job.work → rank_left dirty_after (if_closed closed (Some new)) (children ++ left) < rank_left dirty (Some job) left
merge_falls closed job new dirty dirty_after children left number low less =
    let same = ap (λ n. sources_rank n left) number in
    let most = on_closed closed new dirty_after (children ++ left) in
    let all = sources_apart new.id children left in
    omega (arith, low, same, less, most, all)

-- the run of a next source
record IsNext (id : ℕ) (work : Option Work) (run : Running) : Type 0 where
  pub number : run.id ≡ id
  pub goes : run.course ≡ GoesOn
  pub rank : start_cost run.work ≡ option_map_or start_cost work 1

next_is : (job : Running) (work : Option Work) (run : Running) → option_map (λ w. with_next job w) work ≡ Some run → IsNext job.id work run
next_is job None run is = absurd cc
next_is job (Some work) run is =
    let same : run ≡ with_next job work = cc in
    record {
      number = ap (λ (r : Running). r.id) same;
      goes = ap (λ (r : Running). r.course) same;
      rank = ap (λ (r : Running). start_cost r.work) same;
    }

-- where it is closed it has no more steps
next_rank : (closed : Bool) (run : Running) (dirty : List Route) (left : List Job) → run.course ≡ GoesOn
    → rank_left dirty (if_closed closed (Some run)) left ≤ (3 * work_rank run.work + children_left run.work) + ((length dirty + length dirty) + sources_rank run.id left)
next_rank closed run dirty left goes = by closed
  where
    here : rank_at dirty run.course run.work ≡ rank_at dirty GoesOn run.work
    here = ap (λ c. rank_at dirty c run.work) goes

    on : children_on run.course run.work ≡ children_left run.work
    on = ap (λ c. children_on c run.work) goes

    by : (b : Bool) → rank_left dirty (if_closed b (Some run)) left ≤ (3 * work_rank run.work + children_left run.work) + ((length dirty + length dirty) + sources_rank run.id left)
    by true = let most = closed_rank run.course run.work dirty in let less = closed_within run.course run.work in omega (arith, here, most, on, less)
    by false = omega (arith, here, on)

pub step_number : (unclaimed : Route → Type 0) (job new : Running) (did : Did) (made : ℕ) (dirty dirty_after : List Route) (before after : Option CallLog) (f0 f1 : ℕ)
    → RunStep unclaimed (step_made job new did made dirty dirty_after before after f0 f1) → new.id ≡ job.id
step_number unclaimed job new did made dirty dirty_after before after f0 f1 (inl o) = (let s = o.own in tells_number job.course job new did s.tells)
step_number unclaimed job new did made dirty dirty_after before after f0 f1 (inr s) = synced_number job new s.path did dirty dirty_after before after s.synced

module _ (unclaimed : Route → Type 0) (closed : Bool) (job new : Running) (did : Did) (made calls : ℕ) (dirty dirty_after : List Route) (before after : Option CallLog) (f0 f1 : ℕ) (left left_after : List Job) (stepped : Stepped)
    (never : job.course ≡ Ends Finished → ⊥) (steps : RunStep unclaimed (step_made job new did made dirty dirty_after before after f0 f1)) where
  number : new.id ≡ job.id
  number = step_number unclaimed job new did made dirty dirty_after before after f0 f1 steps

  finished : finishes did ≡ true → (part : Option Route) × Finishes job new part dirty dirty_after before after
  finished h = (let p = finish_so did h in (p.0, finish_stays unclaimed job new p.0 made dirty dirty_after before after f0 f1 never (subst (λ d. RunStep unclaimed (step_made job new d made dirty dirty_after before after f0 f1)) p.1 steps)))

  turn_falls : (source : Job) → left ≡ source ∷ left_after → finishes did ≡ true → Turns new source stepped → rank_left dirty_after (if_closed closed stepped.job) left_after < rank_left dirty (Some job) left
  turn_falls source left_is h t =
      let f = (finished h).1 in
      let n = next_is new (first_work new.id source) t.run t.run_is in
      let most = next_rank closed t.run dirty_after left_after n.goes in
      let run_number = n.number in
      let ids : sources_rank (let r = t.run in r.id) left_after ≡ sources_rank job.id left_after = ap (λ i. sources_rank i left_after) (run_number ∙ number) in
      let pays = cost_within new.id source in
      let first : source_rank new.id source ≡ source_rank job.id source = ap (λ i. source_rank i source) number in
      let rank = n.rank in
      let all : sources_rank job.id left ≡ source_rank job.id source + sources_rank job.id left_after = ap (sources_rank job.id) left_is in
      let count : length dirty_after ≡ length dirty = ap length f.list in
      let goes : rank_at dirty job.course job.work ≡ rank_at dirty GoesOn job.work = ap (λ c. rank_at dirty c job.work) f.goes in
      let stands : rank_left dirty_after (if_closed closed stepped.job) left_after ≡ rank_left dirty_after (if_closed closed (Some t.run)) left_after = ap (λ j. rank_left dirty_after (if_closed closed j) left_after) t.stands in
      omega (arith, most, ids, pays, first, rank, all, count, goes, stands)

  none_left : (b : Bool) → rank_left dirty_after (if_closed b None) left_after ≡ length dirty_after
  none_left true = refl
  none_left false = refl

  -- no dirty folder more, where there is no memory to go on
  short_falls : length dirty_after ≡ length dirty → stepped.job ≡ None → rank_left dirty_after (if_closed closed stepped.job) left_after < rank_left dirty (Some job) left
  short_falls count gone =
      let some = some_left dirty job in
      let stands : rank_left dirty_after (if_closed closed stepped.job) left_after ≡ rank_left dirty_after (if_closed closed None) left_after = ap (λ j. rank_left dirty_after (if_closed closed j) left_after) gone in
      let low = none_left closed in
      omega (arith, count, some, stands, low)

  -- what is reported, by whether it merges
  reported : (b : Bool) → merges did ≡ b → rank_left dirty_after (if_closed closed (if ends did then None else Some new)) (left_by did left) < rank_left dirty (Some job) left
  reported true h =
      let m = merge_so did h in
      let at = m.3 in
      subst (λ d. rank_left dirty_after (if_closed closed (if ends d then None else Some new)) (left_by d left) < rank_left dirty (Some job) left) (sym at)
      (merge_falls closed job new dirty dirty_after (children_in m.0 m.1 m.2) left number
      (subst (λ d. rank_with dirty_after (if_closed closed (if ends d then None else Some new)) < rank_with dirty (Some job)) at (run_falls unclaimed closed job new did made dirty dirty_after before after f0 f1 steps))
      (step_merges unclaimed job new made dirty dirty_after before after f0 f1 m.0 m.1 m.2 (subst (λ d. RunStep unclaimed (step_made job new d made dirty dirty_after before after f0 f1)) at steps)))
  reported false h =
      subst (λ l. rank_left dirty_after (if_closed closed (if ends did then None else Some new)) l < rank_left dirty (Some job) left) (sym (left_plain did left h))
      (report_falls closed (ends did) job new dirty dirty_after left number (run_falls unclaimed closed job new did made dirty dirty_after before after f0 f1 steps) (step_less unclaimed job new made dirty dirty_after before after f0 f1 did steps))

  pub goes_nearer : GoesWith new did calls left stepped left_after → rank_left dirty_after (if_closed closed stepped.job) left_after < rank_left dirty (Some job) left
  goes_nearer (inl (r, last)) =
      subst (λ j. rank_left dirty_after (if_closed closed j) left_after < rank_left dirty (Some job) left) (sym r.stands)
      (subst (λ l. rank_left dirty_after (if_closed closed (if ends did then None else Some new)) l < rank_left dirty (Some job) left) (sym r.rest) (reported (merges did) refl))
  goes_nearer (inr (inl (h, source, left_is, t))) = turn_falls source left_is h t
  goes_nearer (inr (inr (inl h, none, r))) = (let f = (finished h).1 in short_falls (ap length f.list) r.stands)
  goes_nearer (inr (inr (inr h, none, r))) =
      let m = merge_so did h in
      let f = merge_stays unclaimed m.0 m.1 m.2 made dirty dirty_after before after f0 f1 job new (subst (λ d. RunStep unclaimed (step_made job new d made dirty dirty_after before after f0 f1)) m.3 steps) in
      short_falls (ap length f.list) r.stands

-- a job that is given up is no more
pub given_up_falls : (job : Running) (dirty : List Route) (left after : List Job) → rank_left dirty None after < rank_left dirty (Some job) left
given_up_falls job dirty left after = let some = some_left dirty job in omega (arith, some)
