-- A small session in which a folder with one folder in it is copied to where both stand already, so the premises can be met: the job merges the outer one, goes on with
-- the inner one, merges that, and is finished. Then nothing has changed.
use Rattle.std.proofs.Common.{◌≡◌, ℕ, ◌≤◌, ◌^◌, Bool, true, false, List, [], ◌∷◌, length, refl, sym, subst, inl, inr, Option, Some, None, arith}
use Rattle.std.specs.Prelude.{IsSome, if◌then◌else◌}
use Rattle.std.proofs.lemmas.Bool.{false≢true, or_left}
use Rattle.std.specs.Str.{bytes_eq}
use Rattle.mc_text.specs.Routes.{Route}
use Rattle.tree_trait.specs.declared.calls.Children.{Children}
use Rattle.tree_trait.specs.declared.file_system.FileSystem.{FileSystem}
use Rattle.tree_trait.specs.Answers.{IsAscending, IsListing}
use Rattle.tree_trait.specs.Change.{Makes, CallLog, after_change, current}
use Rattle.tree_trait.specs.CrashImages.{Among}
use Rattle.tree_trait.specs.FileSystem.{lookup, visible_tree}
use Rattle.tree_trait.specs.Shape.{IsTree}
use Rattle.tree_trait.proofs.BareRoot.{bare, bare_tree}
use Rattle.tree_trait.proofs.Finding.{same_name-true}
use Rattle.tree_trait.proofs.Kept.{tree_made}
use Rattle.tree_trait.proofs.Visible.{same_path-self}
use Rattle.job_answers.specs.Decisions.{no_replies}
use Rattle.job_reports.specs.declared.report.Transfer.TheVariants.{ByCopy}
use Rattle.job_reports.specs.declared.job.Job.TheVariants as plan
use Rattle.job_reports.specs.declared.job.Pair.{Pair}
use Rattle.job_reports.specs.declared.report.Did.TheVariants.{Merges, Ended}
use Rattle.job_reports.specs.declared.report.Ending.TheVariants.{Finished}
use Rattle.session_entries.specs.SourcesLeft.{AreInTurn}
use Rattle.session_entries.specs.declared.history.Event.TheVariants.{Began, Step, Next}
use Rattle.session_entries.specs.declared.history.Entry.{Entry}
use Rattle.copy_tree.specs.Taking.{AreShort, IsShort, IsTaken}
use Rattle.copy_tree.specs.declared.looking.Taken.TheVariants.{Merged}
use Rattle.copy_job.specs.Merged.{IsOver, MergesTop}
use Rattle.copy_job.specs.Reporting.{ChangesOwn}
use Rattle.copy_job.specs.Standing.{SubtreeCopying, is_own, begun_subtree_copy}
use Rattle.copy_job.specs.SubtreeSteps.{step_result}
use Rattle.copy_move.specs.declared.run.Course.TheVariants.{GoesOn}
use Rattle.copy_move.specs.Jobs.{Running}
use Rattle.laws_sessions.specs.Replayed.{replayed_tree}
use Rattle.laws_sessions.specs.Traces.{IsTraced, WorkLeads, nothing_live}
use Rattle.laws_sessions.proofs.CopyExampleSteps.{counts}
use Rattle.laws_sessions.proofs.ExampleParts.{entry, folder, known_is, own_step, stand}
use Rattle.laws_outcomes.specs.Keeps.{has_kept}
use Rattle.laws_outcomes.proofs.ExampleSteps.{IsStep, at_last as decided, job as job_of, tells_own, with_top_passed as merged, works}
use Rattle.laws_outcomes.proofs.UntouchedSteps.{kept_law}

abbrev pub outer_name : List ℕ
outer_name = 100 ∷ []

abbrev pub inner_name : List ℕ
inner_name = 101 ∷ []

-- the root holds the folders `s` and `t`, and in each stands a folder `d` with a folder `e`
abbrev pub with_s : FileSystem
with_s = after_change bare (Makes 0 (115 ∷ []) folder)

abbrev pub with_t : FileSystem
with_t = after_change with_s (Makes 0 (116 ∷ []) folder)

abbrev pub with_outer : FileSystem
with_outer = after_change with_t (Makes 1 outer_name folder)

abbrev pub with_inner : FileSystem
with_inner = after_change with_outer (Makes 3 inner_name folder)

abbrev pub with_target : FileSystem
with_target = after_change with_inner (Makes 2 outer_name folder)

abbrev pub small : FileSystem
small = after_change with_target (Makes 5 inner_name folder)

pub small_tree : IsTree small
small_tree =
    tree_made with_target 5 inner_name folder
    (tree_made with_inner 2 outer_name folder
    (tree_made with_outer 3 inner_name folder
    (tree_made with_t 1 outer_name folder
    (tree_made with_s 0 (116 ∷ []) folder
    (tree_made bare 0 (115 ∷ []) folder bare_tree refl) refl) refl) refl) refl) refl

abbrev pub outer : Pair
outer = record { source = outer_name ∷ (115 ∷ []) ∷ []; target = outer_name ∷ (116 ∷ []) ∷ [] }

abbrev pub inner : Pair
inner = record { source = inner_name ∷ outer.source; target = inner_name ∷ outer.target }

abbrev pub log : CallLog
log = record { opening = small; changes = [] }

-- the outer one lists the inner one, and that nothing
abbrev pub children : List (List ℕ) → Children
children names = record { names = names; unnamed = 0 }

listed : (name : List ℕ) (b : Bool) → bytes_eq inner_name name ≡ b → IsSome (let o : Option ℕ = if b then Some 4 else None in o) → Among (inner_name ∷ []) name
listed name true is h = inl (sym (same_name-true 0 0 inner_name name is).1)
listed name false is h = absurd (false≢true h)

leads : (name : List ℕ) → Among (inner_name ∷ []) name → IsSome (lookup small.names 3 name)
leads name (inl is) = subst (λ n. IsSome (lookup small.names 3 n)) (sym is) refl
leads name (inr none) = absurd none

lists_one : IsListing small 3 (children (inner_name ∷ []))
lists_one = record { names = λ name. (leads name, listed name (bytes_eq inner_name name) refl); unnamed = refl }

lists_none : IsListing small 4 (children [])
lists_none = record { names = λ name. (λ among. absurd among, λ leads. absurd (false≢true leads)); unnamed = refl }

-- a path of a few short names can be told
short_one : AreShort outer (inner_name ∷ [])
short_one name (inl is) = subst (λ n. IsShort (n ∷ outer.source) × IsShort (n ∷ outer.target)) (sym is) (omega arith, omega arith)
short_one name (inr none) = absurd none

-- its job
abbrev job : SubtreeCopying → Running
job c = job_of no_replies GoesOn c

-- the copy of a folder to where one stands, in two steps
module _ (name : List ℕ) (from to : Route) (names : List (List ℕ)) where
  abbrev pair : Pair
  pair = record { source = name ∷ from; target = name ∷ to }

  abbrev begins : SubtreeCopying
  begins = begun_subtree_copy 1 pair

  abbrev over : SubtreeCopying
  over = merged begins

  is_over : IsOver over.at
  is_over = record { none = refl; around = refl; names = refl; owes = refl; clean = refl }

  own_folder : is_own begins to ≡ true
  own_folder = or_left _ _ (same_path-self to)

  module _ (taken : IsTaken small true no_replies pair (Merged names)) (from_short : IsShort pair.source) (to_short : IsShort pair.target) (short : AreShort pair names) (few : length names ≤ 2 ^ 64) (in_order : IsAscending names) where
    takes : IsStep no_replies begins over (Merges ByCopy pair names) 0 [] [] log log
    takes = record {
      mid = begins.at;
      leaves = (0, refl);
      settled = refl;
      worked = step_result (Merges ByCopy pair names) 0;
      moved = over.at;
      works = inr (record {
        steps = record {
          folders = 0;
          mid = begins.at;
          leaves = refl;
          works = inr (
            refl,
            inr (inr (inr (inr (inl (record {
              pair = pair;
              names = names;
              next = refl;
              reach = (omega arith, from_short, to_short);
              fresh = refl;
              is = known_is log (λ l. IsTaken (current l) true no_replies pair (Merged names)) taken;
              short = short;
              few = few;
              in_order = in_order;
              says = refl;
              same = refl;
              stands = refl;
            }))))),
          );
          counts = counts (Merges ByCopy pair names) 0 log log refl (omega arith) (λ h. h);
        };
        list = refl;
      });
      going = tt;
      passes = inl (refl, refl, refl);
      stands = refl;
    }

    -- what it tells is what is copied
    merges_top : (told : Pair) (within : List (List ℕ)) → Merges ByCopy pair names ≡ Merges ByCopy told within → MergesTop begins told within over
    merges_top told within is =
        let same : pair ≡ told = cc in
        let all : names ≡ within = cc in
        subst (λ (p : Pair). MergesTop begins p within over) same (subst (λ ns. MergesTop begins pair ns over) all (record { fresh = refl; top = refl; short = short; few = few; begins = λ before. (let e = before.names in let f : ⊥ = cc in f); over = is_over }))

    stays : ChangesOwn begins (Merges ByCopy pair names) [] []
    stays = record { folder = to; own = own_folder; was = false; now = false; list = refl; synced = λ was now. absurd (false≢true was) }

    pub merges : WorkLeads (job begins) (Merges ByCopy pair names) (job over) [] [] log log
    merges = works no_replies GoesOn begins over (Merges ByCopy pair names) 0 [] [] log log (record {
      may = tt;
      after = record { top = refl; part = refl; stage = refl };
      first = λ fresh. tt;
      barred = λ trouble is. absurd (let f : ⊥ = cc in f);
      apart = λ trouble is. absurd (let f : ⊥ = cc in f);
      kinds = λ path cause is. absurd (let f : ⊥ = cc in f);
      merged = merges_top;
      kept = λ path is. absurd (let f : ⊥ = cc in f);
      asked = λ question is. absurd (let f : ⊥ = cc in f);
      over = λ before. absurd (let e = before.names in let f : ⊥ = cc in f);
    }) refl takes (λ fresh. refl) stays

  -- it is over
  ends : IsStep no_replies over (decided over) (Ended Finished None) 0 [] [] log log
  ends = record {
    mid = over.at;
    leaves = (0, refl);
    settled = refl;
    worked = step_result (Ended Finished None) 0;
    moved = (let d : SubtreeCopying = decided over in d.at);
    works = inr (record {
      steps = record {
        folders = 0;
        mid = over.at;
        leaves = refl;
        works = inr (refl, inr (inr (inr (inr (inr (inr (inr (refl, inr (refl, record { last = refl; says = refl; stands = refl }, refl)))))))));
        counts = counts (Ended Finished None) 0 log log refl (omega arith) (λ h. h);
      };
      list = refl;
    });
    going = tt;
    passes = inl (refl, refl, refl);
    stands = refl;
  }

  pub finishes : WorkLeads (job over) (Ended Finished None) (job (decided over)) [] [] log log
  finishes =
      works no_replies GoesOn over (decided over) (Ended Finished None) 0 [] [] log log
      (tells_own no_replies over (decided over) (Ended Finished None) tt refl (record { top = refl; part = refl; stage = refl }) (λ fresh. tt)
      (λ before. (record { none = refl; around = refl; names = refl; owes = refl; clean = refl }, refl)))
      refl ends (λ fresh. refl) (record { folder = to; own = own_folder; was = false; now = false; list = refl; synced = λ was now. absurd (false≢true was) })

-- both copies, as they begin and once their folders are merged
abbrev pub outer_begins : SubtreeCopying
outer_begins = begun_subtree_copy 1 outer

abbrev pub inner_begins : SubtreeCopying
inner_begins = begun_subtree_copy 1 inner

-- the job begins, and merges the outer folder
abbrev pub begun_entries : List Entry
begun_entries = entry 0 (Began 1 (plan.Copy (outer ∷ [])) false) ∷ []

begun_traced : IsTraced log begun_entries (stand (job outer_begins ∷ []) []) log
begun_traced = (nothing_live, log, (refl, refl), record { after = stand (job outer_begins ∷ []) []; leads = record { none_live = refl; after_is = refl; now_is = refl }; stand_is = refl; counts = refl })

abbrev pub merged_entries : List Entry
merged_entries = entry 0 (Step 1 (Merges ByCopy outer (inner_name ∷ []))) ∷ begun_entries

merged_traced : IsTraced log merged_entries (stand (job (merged outer_begins) ∷ []) []) log
merged_traced =
    own_step log 1 0 (Merges ByCopy outer (inner_name ∷ [])) begun_entries (stand (job outer_begins ∷ []) []) (stand (job (merged outer_begins) ∷ []) []) log log (job outer_begins) (job (merged outer_begins)) begun_traced (inl (refl, refl))
    (merges outer_name ((115 ∷ []) ∷ []) ((116 ∷ []) ∷ []) (inner_name ∷ []) ((refl, refl), (refl, refl), (refl, lists_one)) (omega arith) (omega arith) short_one (omega arith) (tt, tt)) refl refl refl

-- it goes on with what lies in it
abbrev pub turn : Entry
turn = entry 0 (Next 1 (plan.Copy (inner ∷ [])))

abbrev pub turned_entries : List Entry
turned_entries = turn ∷ merged_entries

turned_traced : IsTraced log turned_entries (stand (job inner_begins ∷ []) []) log
turned_traced = (
  stand (job (merged outer_begins) ∷ []) [],
  log,
  merged_traced,
  record {
    after = stand (job inner_begins ∷ []) [];
    leads = record {
      job = job (merged outer_begins);
      its = inl (refl, refl);
      over = job (decided (merged outer_begins));
      done = finishes outer_name ((115 ∷ []) ∷ []) ((116 ∷ []) ∷ []) [];
      next = job inner_begins;
      next_is = refl;
      jobs_is = refl;
    };
    stand_is = refl;
    counts = refl;
  },
)

-- merges that, too, and is finished
abbrev pub both_entries : List Entry
both_entries = entry 0 (Step 1 (Merges ByCopy inner [])) ∷ turned_entries

both_traced : IsTraced log both_entries (stand (job (merged inner_begins) ∷ []) []) log
both_traced =
    own_step log 1 0 (Merges ByCopy inner []) turned_entries (stand (job inner_begins ∷ []) []) (stand (job (merged inner_begins) ∷ []) []) log log (job inner_begins) (job (merged inner_begins)) turned_traced (inl (refl, refl))
    (merges inner_name outer.source outer.target [] ((refl, refl), (refl, refl), (refl, lists_none)) (omega arith) (omega arith) (λ name among. absurd among) (omega arith) tt) refl refl refl

abbrev pub end : Entry
end = entry 0 (Step 1 (Ended Finished None))

ended_traced : IsTraced log (end ∷ both_entries) (stand [] []) log
ended_traced =
    own_step log 1 0 (Ended Finished None) both_entries (stand (job (merged inner_begins) ∷ []) []) (stand [] []) log log (job (merged inner_begins)) (job (decided (merged inner_begins))) both_traced (inl (refl, refl))
    (finishes inner_name outer.source outer.target []) refl refl refl

-- what it goes on with is what the merge told, and at its end nothing is left
pub in_turn : AreInTurn (end ∷ both_entries)
in_turn = (refl, (tt, (([], refl), (tt, (tt, tt)))))

-- The job has merged both, so each path shows what it showed at the opening: as it goes on with the inner one, and at its end.
pub outer_is_as_it_was : (path : Route) → replayed_tree log log merged_entries path ≡ visible_tree small path
outer_is_as_it_was path =
    let law = kept_law log log turned_entries (stand (job inner_begins ∷ []) []) small_tree refl turned_traced in law.since turn merged_entries 1 outer.source outer.target path (record { ended = refl; its = refl }) (inl (refl, refl, refl)) has refl
  where
    has : has_kept 1 merged_entries ≡ true
    has = refl

pub all_is_as_it_was : (path : Route) → replayed_tree log log both_entries path ≡ visible_tree small path
all_is_as_it_was path =
    let law = kept_law log log (end ∷ both_entries) (stand [] []) small_tree refl ended_traced in law.since end both_entries 1 inner.source inner.target path (record { ended = refl; its = refl }) (inl (refl, refl, refl)) has refl
  where
    has : has_kept 1 both_entries ≡ true
    has = refl
