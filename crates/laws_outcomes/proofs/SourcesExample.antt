-- A small session in which two files are given a mode, one after the other, so the premises can be met: at the end of the job both have it.
use Rattle.std.proofs.Common.{◌≡◌, Bool, pos, true, false, ◌||◌, List, [], ◌∷◌, refl, sym, subst, inl, inr, Some, None, true≢false}
use Rattle.std.specs.Option.{option_map}
use Rattle.mc_text.specs.Routes.{Route, same_path}
use Rattle.tree_trait.specs.Change.{Sets, Syncs, CallLog}
use Rattle.tree_trait.proofs.Visible.{same_path-true}
use Rattle.job_reports.specs.declared.report.Ending.TheVariants.{Finished}
use Rattle.job_reports.specs.declared.report.Did.TheVariants.{Set, Barrier, Ended}
use Rattle.job_reports.specs.declared.job.Job.TheVariants as plan
use Rattle.job_reports.specs.Jobs as jobs
use Rattle.session_entries.specs.declared.history.Event.TheVariants.{Step}
use Rattle.session_entries.specs.declared.history.Entry.{Entry}
use Rattle.mode_job.specs.declared.setting.Stage.TheVariants.{Give, Sync, Done}
use Rattle.mode_job.specs.Settings.{setting}
use Rattle.copy_move.specs.declared.work.Work.TheVariants.{SetMode}
use Rattle.laws_sessions.specs.Replayed.{replayed_tree}
use Rattle.laws_sessions.specs.Traces.{IsTraced}
use Rattle.laws_sessions.proofs.Example.{another, log, small_tree, the_file}
use Rattle.laws_sessions.proofs.ExampleParts.{entry, own_step, stand}
use Rattle.laws_sessions.proofs.ModeExample.{given, gives, mode, synced_entries, turn, turned_entries, turned_traced}
use Rattle.laws_outcomes.specs.AllSources.{IsLeftSince, concerns}
use Rattle.laws_outcomes.specs.Touched.{touches}
use Rattle.laws_outcomes.proofs.Together.{all_sources_law}

-- the other file is given the mode, too, and synced, and the job is finished
abbrev given_log : CallLog
given_log = log (given ∷ Syncs 1 ∷ Sets 2 mode ∷ [])

abbrev pub synced_log : CallLog
synced_log = log (given ∷ Syncs 1 ∷ Sets 2 mode ∷ Syncs 2 ∷ [])

abbrev pub given_entries : List Entry
given_entries = entry 3 (Step 1 (Set another)) ∷ turned_entries

abbrev pub both_entries : List Entry
both_entries = entry 4 (Step 1 Barrier) ∷ given_entries

abbrev pub end : Entry
end = entry 4 (Step 1 (Ended Finished None))

given_traced : IsTraced (log []) given_entries (stand (gives another Sync ∷ []) (another ∷ [])) given_log
given_traced =
    own_step (log []) 1 3 (Set another) turned_entries (stand (gives another Give ∷ []) []) (stand (gives another Sync ∷ []) (another ∷ [])) (log (given ∷ Syncs 1 ∷ [])) given_log (gives another Give) (gives another Sync) turned_traced
    (inl (refl, refl))
    (record {
      tells = (SetMode (setting another mode Sync), (refl, refl, refl), refl);
      called = (given_log, (refl, (pos 0, refl)), refl);
      settled = λ goes fresh kept among. absurd among;
      cleared = λ goes fresh kept among. absurd among;
      leaves = refl;
      walks = (1, 0, 0, tt);
    }) refl refl refl

synced_traced : IsTraced (log []) both_entries (stand (gives another Done ∷ []) []) synced_log
synced_traced =
    own_step (log []) 1 4 Barrier given_entries (stand (gives another Sync ∷ []) (another ∷ [])) (stand (gives another Done ∷ []) []) given_log synced_log (gives another Sync) (gives another Done) given_traced (inl (refl, refl))
    (record {
      tells = (SetMode (setting another mode Done), (refl, refl), refl);
      called = (synced_log, (refl, (pos 0, refl)), refl);
      settled = λ goes fresh. absurd (true≢false (sym fresh));
      cleared = λ goes fresh. absurd (true≢false (sym fresh));
      leaves = refl;
      walks = (1, 0, 0, tt);
    }) refl refl refl

pub ended_traced : IsTraced (log []) (end ∷ both_entries) (stand [] []) synced_log
ended_traced =
    own_step (log []) 1 4 (Ended Finished None) both_entries (stand (gives another Done ∷ []) []) (stand [] []) synced_log synced_log (gives another Done) (gives another Done) synced_traced (inl (refl, refl))
    (record {
      tells = (SetMode (setting another mode Done), (refl, refl, refl), refl);
      called = refl;
      settled = λ goes fresh. absurd (true≢false (sym fresh));
      cleared = λ goes fresh. absurd (true≢false (sym fresh));
      leaves = refl;
      walks = (0, 0, 0, tt);
    }) refl refl refl

-- what concerns the first file is that file, which the second doesn't touch
apart : (path : Route) → concerns (jobs.Sets the_file mode) path ≡ true → (touches (jobs.Sets another mode) path ≡ false) × IsLeftSince 1 path (turn ∷ synced_entries) both_entries
apart path concerned = (
  subst (λ (q : Route). touches (jobs.Sets another mode) q ≡ false) (sym (same_path-true path the_file (either (same_path path the_file) concerned))) refl,
  inr (refl, inr (refl, inl refl)),
)
  where
    either : (b : Bool) → (b || false) ≡ true → b ≡ true
    either true h = refl
    either false h = h

-- so the first has its mode at the end of the job
first_is_set : option_map (λ x. x.mode) (replayed_tree (log []) synced_log both_entries the_file).value ≡ Some mode
first_is_set =
    all_sources_law (log []) synced_log (end ∷ both_entries) (stand [] []) small_tree refl ended_traced end turn both_entries synced_entries 1 (jobs.Sets another mode) (jobs.Sets the_file mode)
    (record { ended = refl; its = refl }) (inl (refl, refl, refl)) (record { plan = plan.SetMode (another ∷ []) mode; turns = refl; its = refl }) (inr (inr (inr (inr (inr (inr (inl (refl, refl, refl)))))))) apart
    (λ left among. absurd among)
