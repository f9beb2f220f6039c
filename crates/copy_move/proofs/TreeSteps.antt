-- The steps of a copy as those of a job.
use Rattle.std.proofs.Common.{◌≡◌, ◌⊎◌, ℕ, ◌+◌, ◌*◌, ◌<◌, ◌≤◌, Bool, true, false, List, length, refl, sym, ◌∙◌, ap, subst, inl, inr, Option, Some, arith}
use Rattle.std.proofs.lemmas.Bool.{true≢false}
use Rattle.mc_text.specs.Routes.{Route}
use Rattle.tree_trait.specs.Change.{CallLog}
use Rattle.tree_trait.specs.Answers.{IfKnown}
use Rattle.job_reports.specs.declared.job.Pair.{Pair}
use Rattle.job_reports.specs.declared.report.Cause.{Cause}
use Rattle.job_reports.specs.declared.report.Trouble.{Trouble}
use Rattle.job_reports.specs.declared.report.Ending.{Ending}
use Rattle.job_reports.specs.declared.report.Did.{Did}
use Rattle.job_reports.specs.declared.report.Did.TheVariants.{Began, Chunk, Placed, Removed, Made, Set, Kept, Skipped, Cleaned, Barrier, Asked, Merges, Moved, Troubled, Ended}
use Rattle.job_reports.specs.declared.report.LastStepResult.{LastStepResult}
use Rattle.job_reports.specs.Reports.{ends}
use Rattle.job_reports.specs.Stops.{out_of_memory_at}
use Rattle.job_answers.specs.declared.replies.Replies.{Replies}
use Rattle.copy_tree.specs.InPlace.{IsInPlace}
use Rattle.copy_tree.specs.Standing.{is_fresh}
use Rattle.copy_job.specs.Counted as tree
use Rattle.copy_job.specs.LastCalls.{LastCalls, TellsTried}
use Rattle.copy_job.specs.Ranks.{last_rank, rank}
use Rattle.copy_job.specs.Reporting.{ChangesOwn, IsAfterLastStep}
use Rattle.copy_job.specs.Standing.{SubtreeCopying, at_barrier, is_own, part_of, retries, begun_subtree_copy}
use Rattle.copy_job.specs.Standing as standing
use Rattle.copy_job.specs.SubtreeSteps.{LastSubtreeStep, SubtreeSkips, SubtreeSteps}
use Rattle.copy_job.specs.Told.{IsAfter}
use Rattle.copy_job.proofs.Answered.{answered_law, steady_law, waiting_law}
use Rattle.copy_job.proofs.Barred.{barrier_law}
use Rattle.copy_job.proofs.Counts.{count_law}
use Rattle.copy_job.proofs.LastCounts.{last_count_law}
use Rattle.copy_job.proofs.LastOnes.{last_rank_law}
use Rattle.copy_job.proofs.MergedOnes.{merged_law}
use Rattle.copy_job.proofs.Ranked.{rank_law}
use Rattle.copy_job.proofs.Reportings.{reporting_law}
use Rattle.copy_job.proofs.Tellings.{told_law}
use Rattle.copy_job.proofs.Unbegun.{unbegun_law}
use Rattle.copy_job.proofs.Waits.{trouble_law}
use Rattle.copy_move.specs.declared.work.Work.TheVariants.{Copy}
use Rattle.copy_move.specs.declared.run.Course.TheVariants.{GoesOn}
use Rattle.copy_move.specs.Faults.{MeetsFault}
use Rattle.copy_move.specs.Jobs.{course_after}
use Rattle.copy_move.specs.Ranks.{rank_on, tries_left, work_rank}
use Rattle.copy_move.specs.JobStepReports.{WorkSkips, WorkSteps, WorkWindsUp}
use Rattle.copy_move.specs.TreeCopies.{AllowsOnly, Goes, IsGoing, Tells}
use Rattle.copy_move.proofs.FolderSteps.{one_more, tried_more, tries_after, weighs_less}

-- a fault that a job meets is one that the copy meets
met_so : (did : Did) → MeetsFault GoesOn did → tree.MeetsFault did
met_so (Troubled trouble) h = h
met_so (Skipped path cause) h = h
met_so (Began part) h = h
met_so (Chunk count) h = h
met_so (Asked question) h = h
met_so (Merges transfer pair names) h = h
met_so (Moved pair) h = h
met_so (Set path) h = h
met_so (Placed path) h = h
met_so (Removed path) h = h
met_so (Made path) h = h
met_so (Kept path) h = h
met_so (Cleaned part) h = h
met_so Barrier h = h
met_so (Ended ending part) h = h

above : (low high : ℕ) → low < high → low + 2 < high + 2
above low high less = omega (arith, less)

one_above : (low high : ℕ) → low < high → low + 1 < high + 1
one_above low high less = omega (arith, less)

at_most : (low high : ℕ) → low ≤ high → low + 1 < high + 2
at_most low high less = omega (arith, less)

two_below : (low high : ℕ) → low + 2 ≤ high → low + 2 < high + 1
two_below low high less = omega (arith, less)

last_weighs : (low high few many : ℕ) → low < high → few ≤ many + 1 → 3 * (low + 1) + (few + few) < 3 * (high + 1) + (many + many)
last_weighs low high few many less more = omega (arith, less, more)

-- a trouble leaves the copy where it stood
trouble_stays : (c new : SubtreeCopying) (did : Did) (trouble : Trouble) → did ≡ Troubled trouble → IsAfter did c new → is_fresh c.at.stage ≡ true → is_fresh new.at.stage ≡ true
trouble_stays c new did trouble is a fresh =
    let told = subst (λ d. IsAfter d c new) is a in
    ap is_fresh told.stage ∙ fresh

-- a copy that begins goes on
pub tree_begins : (job : ℕ) (top : Pair) → standing.IsGoing (begun_subtree_copy job top) → IsGoing (begun_subtree_copy job top)
tree_begins job top can = record { can = can; steady = (let law = steady_law in law.begins job top); unbegun = (let law = unbegun_law in law.begins job top) }

pub tree_retried : (c : SubtreeCopying) → IsGoing c → standing.IsGoing (retries c) → IsGoing (retries c)
tree_retried c g can = record { can = can; steady = (let law = steady_law in law.retry c g.steady); unbegun = (let law = unbegun_law in law.retry c g.unbegun) }

module _ (free : Route → Bool) (replies : Replies) (c new : SubtreeCopying) (did : Did) (calls : ℕ) (dirty dirty_after : List Route) (before after : Option CallLog) (f0 f1 : ℕ)
    (s : SubtreeSteps free replies c new did calls dirty dirty_after before after f0 f1) (g : IsGoing c) where
  abbrev Makes : Did → Type 0
  Makes d = SubtreeSteps free replies c new d calls dirty dirty_after before after f0 f1

  pub tree_goes_on : standing.IsGoing new → IsGoing new
  tree_goes_on can = record {
    can = can;
    steady = (let law = steady_law in law.step free replies c new did calls dirty dirty_after before after f0 f1 s g.steady);
    unbegun = (let law = unbegun_law in law.step free replies c new did calls dirty dirty_after before after f0 f1 s g.can g.unbegun);
  }

  after_it : IsAfter did c new
  after_it = (let law = told_law in law.step free replies c new did calls dirty dirty_after before after f0 f1 s g.can)

  tells : IsInPlace c.top c.at → Tells replies c did new
  tells place = record {
    may = (let law = reporting_law in law.step free replies c new did calls dirty dirty_after before after f0 f1 s);
    after = after_it;
    first = λ fresh. (let law = unbegun_law in law.first free replies c new did calls dirty dirty_after before after f0 f1 s g.unbegun fresh);
    barred = λ trouble is. barrier_law free replies c new trouble calls dirty dirty_after before after f0 f1 (subst Makes is s) g.steady g.can;
    apart = λ trouble is fresh.
        (let law = unbegun_law in law.trouble free replies c new trouble calls dirty dirty_after before after f0 f1 (subst Makes is s) g.steady g.can g.unbegun (trouble_stays c new did trouble is after_it fresh));
    kinds = λ path cause is. (let law = reporting_law in law.kinds free replies c new path cause calls dirty dirty_after before after f0 f1 (subst Makes is s));
    merged = λ pair names is. (let law = merged_law in law.merges free replies c new pair names calls dirty dirty_after before after f0 f1 (subst Makes is s) place g.unbegun);
    kept = λ path is. (let law = merged_law in law.keeps free replies c new path calls dirty dirty_after before after f0 f1 (subst Makes is s) place g.unbegun);
    asked = λ question is. (let law = merged_law in law.asks free replies c new question calls dirty dirty_after before after f0 f1 (subst Makes is s) place);
    over = λ is. (let law = merged_law in law.step free replies c new did calls dirty dirty_after before after f0 f1 s is);
  }

  falls_on : (d : Did) → Makes d → ends d ≡ false → rank_on (course_after d) (Copy new) < work_rank (Copy c)
  falls_on (Troubled trouble) m h = at_most (last_rank new.at) (rank c.at) (let law = trouble_law in law.step free replies c new trouble calls dirty dirty_after before after f0 f1 m g.steady g.can)
  falls_on (Ended ending part) m h = absurd (true≢false h)
  falls_on (Began part) m h = above (rank new.at) (rank c.at) (rank_law free replies c new (Began part) calls dirty dirty_after before after f0 f1 m g.steady g.can refl)
  falls_on (Chunk count) m h = above (rank new.at) (rank c.at) (rank_law free replies c new (Chunk count) calls dirty dirty_after before after f0 f1 m g.steady g.can refl)
  falls_on (Asked question) m h = at_most (last_rank new.at) (rank c.at) (let law = trouble_law in (law.ask free replies c new question calls dirty dirty_after before after f0 f1 m g.steady).1)
  falls_on (Merges transfer pair names) m h = above (rank new.at) (rank c.at) (rank_law free replies c new (Merges transfer pair names) calls dirty dirty_after before after f0 f1 m g.steady g.can refl)
  falls_on (Moved pair) m h = above (rank new.at) (rank c.at) (rank_law free replies c new (Moved pair) calls dirty dirty_after before after f0 f1 m g.steady g.can refl)
  falls_on (Set path) m h = above (rank new.at) (rank c.at) (rank_law free replies c new (Set path) calls dirty dirty_after before after f0 f1 m g.steady g.can refl)
  falls_on (Placed path) m h = above (rank new.at) (rank c.at) (rank_law free replies c new (Placed path) calls dirty dirty_after before after f0 f1 m g.steady g.can refl)
  falls_on (Removed path) m h = above (rank new.at) (rank c.at) (rank_law free replies c new (Removed path) calls dirty dirty_after before after f0 f1 m g.steady g.can refl)
  falls_on (Made path) m h = above (rank new.at) (rank c.at) (rank_law free replies c new (Made path) calls dirty dirty_after before after f0 f1 m g.steady g.can refl)
  falls_on (Kept path) m h = above (rank new.at) (rank c.at) (rank_law free replies c new (Kept path) calls dirty dirty_after before after f0 f1 m g.steady g.can refl)
  falls_on (Skipped path cause) m h = above (rank new.at) (rank c.at) (rank_law free replies c new (Skipped path cause) calls dirty dirty_after before after f0 f1 m g.steady g.can refl)
  falls_on (Cleaned part) m h = above (rank new.at) (rank c.at) (rank_law free replies c new (Cleaned part) calls dirty dirty_after before after f0 f1 m g.steady g.can refl)
  falls_on Barrier m h = above (rank new.at) (rank c.at) (rank_law free replies c new Barrier calls dirty dirty_after before after f0 f1 m g.steady g.can refl)

  module _ (unclaimed : Route → Type 0) (allows : AllowsOnly unclaimed free) where
    goes_from : (b : Option CallLog) → before ≡ b → Goes unclaimed replies c new did calls dirty dirty_after b after f0 f1
    goes_from b is = record { free = free; allows = allows; since = f0; later = omega arith; steps = subst (λ x. SubtreeSteps free replies c new did calls dirty dirty_after x after f0 f1) is s }

    pub tree_steps : IsInPlace c.top c.at → ChangesOwn c did dirty dirty_after → WorkSteps unclaimed replies (Copy c) (Copy new) did calls dirty dirty_after before after f0 f1
    tree_steps place own =
        let k = count_law free replies c new did calls dirty dirty_after before after f0 f1 s in record {
          tells = tells place;
          walks = goes_from before refl;
          called = λ log known. record { calls = calls; dirty = dirty; dirty_after = dirty_after; faults = f0; faults_after = f1; goes = goes_from (Some log) known };
          leaves = own;
          counted = k.counted;
          few = k.few;
          unknown = k.unknown;
          later = k.later;
          fault = λ h. k.fault (met_so did h);
          falls = λ going.
              let more = subst (λ xs. length xs ≤ length dirty + 1) (sym own.list) (one_more own.was own.now own.folder dirty) in
              weighs_less (rank_on (course_after did) (Copy new)) (work_rank (Copy c)) (length dirty_after) (length dirty) (tries_left (course_after did) (Copy new) dirty_after) (falls_on did s going) more
              (tries_after did (Copy new) dirty_after);
        }

-- a last step
pub tree_winds_up : (ending : Ending) (c new : SubtreeCopying) (last : LastStepResult) (dirty dirty_after : List Route) (before after : Option CallLog) (f0 f1 : ℕ) → LastSubtreeStep ending c new last dirty dirty_after before after f0 f1
    → IsAfterLastStep ending c last.did new → is_own c new.at.levels.inner.copy.target ≡ true → IfKnown before (λ log. LastCalls (part_of c.at.item) last.did log after)
    → IfKnown before (λ log. TellsTried (part_of c.at.item) last.did last.left new.at.levels.inner.copy.target log after)
    → WorkWindsUp ending (Copy c) (Copy new) last.did last.calls last.left dirty dirty_after before after f0 f1
tree_winds_up ending c new last dirty dirty_after before after f0 f1 w wound own called told =
    let k = last_count_law ending c new last dirty dirty_after before after f0 f1 w in record {
      tells = wound;
      walks = w;
      called = called;
      folder = new.at.levels.inner.copy.target;
      own = own;
      dirty_is = w.list;
      synced = told;
      counted = k.counted;
      few = k.few;
      unknown = k.unknown;
      later = k.later;
      fault = k.fault;
      falls = λ going.
          let more = subst (λ xs. length xs ≤ length dirty + 1) (sym w.list) (tried_more last.did last.left new.at.levels.inner.copy.target dirty) in
          last_weighs (last_rank new.at) (last_rank c.at) (length dirty_after) (length dirty) (last_rank_law ending c new last dirty dirty_after before after f0 f1 w going) more;
    }

-- a skip
module _ (cause : Cause) (c new : SubtreeCopying) (did : Did) (s : SubtreeSkips cause c did new) (g : IsGoing c) where
  pub tree_skipped : standing.IsGoing new → IsGoing new
  tree_skipped can = record {
    can = can;
    steady = (let law = steady_law in law.skip cause c new did s g.steady);
    unbegun = (let law = unbegun_law in law.skip cause c new did s g.can g.unbegun);
  }

  pub tree_skips : at_barrier c.at ≡ false → WorkSkips cause (Copy c) did (Copy new)
  tree_skips apart = by (let law = trouble_law in law.skip cause c new did s g.can apart)
    where
      by : ((path : Route) × (did ≡ Skipped path cause)) ⊎ ((did ≡ Troubled (out_of_memory_at false)) × (new ≡ c)) → WorkSkips cause (Copy c) did (Copy new)
      by (inl (path, is)) = record {
        walks = s;
        skips = inl (path, is, (cause, subst (λ d. IsAfter d c new) is (let law = told_law in law.skip cause c new did s g.can)));
        falls = subst (λ d. rank_on (course_after d) (Copy new) < rank c.at + 1) (sym is)
            (two_below (rank new.at) (rank c.at) (let law = answered_law in law.skip cause c new (Skipped path cause) (subst (λ d. SubtreeSkips cause c d new) is s) g.steady apart refl));
      }
      by (inr (is, same)) = record {
        walks = s;
        skips = inr (is, ap Copy same);
        falls = subst (λ d. rank_on (course_after d) (Copy new) < rank c.at + 1) (sym is) (subst (λ (n : SubtreeCopying). last_rank n.at + 1 < rank c.at + 1) (sym same) (one_above (last_rank c.at) (rank c.at) (waiting_law c g.can)));
      }
