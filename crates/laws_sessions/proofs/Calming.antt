-- Calls that change no name, by their answers: a sync, one that was refused, a write to the part, another mode of it.
use Rattle.std.proofs.Common.{◌≡◌, ◌⊎◌, ℕ, ◌≤◌, ℤ, Bool, true, false, not, List, [], ◌∷◌, ◌++◌, length, refl, sym, ◌∙◌, ap, subst, inl, inr, Option, Some, None, Ok, Err, arith}
use Rattle.std.specs.Prelude.{filter, is_none, ◌==◌}
use Rattle.std.proofs.lemmas.Bool.{true≢false, false≢true, both_ways, false_from_ne_true, eqb-true}
use Rattle.std.proofs.lemmas.List.{length-set}
use Rattle.mc_text.specs.Routes.{Route, same_path}
use Rattle.tree_trait.specs.declared.file_system.FileSystem.{FileSystem}
use Rattle.tree_trait.specs.declared.calls.TreeError.{TreeError}
use Rattle.tree_trait.specs.declared.calls.TreeError.TheVariants.{Missing}
use Rattle.tree_trait.specs.FileSystem.{find, node}
use Rattle.mc_text.specs.declared.kind.Kind.{Kind}
use Rattle.mc_text.specs.declared.kind.Kind.TheVariants.{File, Folder, Link, Other}
use Rattle.tree_trait.specs.Shape.{IsTree}
use Rattle.tree_trait.specs.Calls.{Call, SetMode}
use Rattle.tree_trait.specs.Refusals.{Place, a_folder, a_special, after_walk, first_of, missing, refusal_of, walk}
use Rattle.tree_trait.proofs.Walking.{check_passes, passed_walk, some_there, walk-find}
use Rattle.tree_trait.specs.Change.{Nothing, Sets, Writes, Syncs, CallLog, change_of, current, with_change, found_node, torn_write}
use Rattle.tree_trait.specs.CrashImages.{Among, is_clean}
use Rattle.tree_trait.specs.Answers.{Performs}
use Rattle.tree_trait.proofs.Ending as ending
use Rattle.tree_trait.proofs.Finding.{find-once}
use Rattle.tree_trait.proofs.Kept.{tree_set}
use Rattle.tree_trait.proofs.Visible.{same_path-true}
use Rattle.laws_crash.specs.Guarded.{Marks}
use Rattle.laws_crash.proofs.Guarding.{found_at, same_quiet}
use Rattle.laws_crash.proofs.Leading.{current_more}
use Rattle.laws_crash.proofs.Syncing.{firm_law}
use Rattle.job_reports.proofs.CallAnswers.{calm_stops, done_call, some_log}
use Rattle.job_reports.specs.CallRuns.{RunStops}
use Rattle.job_reports.specs.declared.report.Cause.{Cause}
use Rattle.job_reports.proofs.PermittedCalls.{sync_finds}
use Rattle.mode_job.specs.SettingSteps.{SyncStops, sync_by, sync_of}
use Rattle.laws_sessions.proofs.Knowing.{HistoryFacts, HasMode, IsKnown}
use Rattle.laws_sessions.proofs.Quiet.{calm_known}
use Rattle.laws_sessions.proofs.Restless.{is_restless, restless_synced}

some_route : (p q : Route) → (let o : Option Route = Some p in o) ≡ Some q → q ≡ p
some_route p q h = cc

module _ (said : HistoryFacts) (dirty : List Route) (marks : Marks) (log : CallLog) (known : IsKnown said dirty marks log) where
  pub nothing_known : IsKnown said dirty marks (with_change log Nothing)
  nothing_known = calm_known said dirty marks log Nothing known (record {
    quiet = record {
      tree = subst IsTree (sym (current_more log Nothing)) known.guarded.tree;
      names = λ g m. refl;
      count = ap (λ (s : FileSystem). length s.nodes) (current_more log Nothing);
      others = λ i firm. refl;
    };
    within = refl;
    still = λ p i other at. refl;
    unborn = λ i past. refl;
    moded = λ i altered. absurd (false≢true altered);
  })

  pub synced_known : (f : ℕ) → IsKnown said dirty marks (with_change log (Syncs f))
  synced_known f = calm_known said dirty marks log (Syncs f) known (record {
    quiet = record {
      tree = subst IsTree (sym (current_more log (Syncs f))) known.guarded.tree;
      names = λ g m. refl;
      count = ap (λ (s : FileSystem). length s.nodes) (current_more log (Syncs f));
      others = λ i firm. refl;
    };
    within = refl;
    still = λ p i other at. refl;
    unborn = λ i past. refl;
    moded = λ i altered. absurd (false≢true altered);
  })

  -- the part that stands leads to a node that is loose
  module _ (part : Route) (i : ℕ) (is : said.part ≡ Some part) (at : find (current log) part ≡ Some i) (loose : marks.loose i ≡ true) (no_mode : marks.modes i ≡ None) where
    loose_alone : (j : ℕ) → marks.loose j ≡ false → (b : Bool) → (i == j) ≡ b → b ≡ false
    loose_alone j firm true same = absurd (true≢false (sym loose ∙ (ap marks.loose (eqb-true i j same) ∙ firm)))
    loose_alone j firm false same = refl

    part_alone : (p : Route) (j : ℕ) → (said.part ≡ Some p → ⊥) → find (current log) p ≡ Some j → (b : Bool) → (i == j) ≡ b → b ≡ false
    part_alone p j other there true same =
        absurd (other (is ∙ ap (λ q. Some q) (find-once (current log) known.guarded.tree part p i at (there ∙ ap (λ k. Some k) (sym (eqb-true i j same))))))
    part_alone p j other there false same = refl

    unborn_alone : (j : ℕ) → length (current log).nodes ≤ j → (i == j) ≡ false
    unborn_alone j past = false_from_ne_true _ (λ same.
        let e = eqb-true i j same in
        let there = known.guarded.there part i (found_at log part (Some i) at) in
        absurd (omega (arith, past, e, there)))

    moded_alone : (j : ℕ) → (i == j) ≡ true → marks.modes j ≡ None
    moded_alone j same = subst (λ k. marks.modes k ≡ None) (eqb-true i j same) no_mode

    pub written_known : (bytes : List ℕ) (time : ℤ) → IsKnown said dirty marks (with_change log (Writes i bytes time))
    written_known bytes time = calm_known said dirty marks log (Writes i bytes time) known (record {
      quiet = record {
        tree = subst IsTree (sym (current_more log (Writes i bytes time))) (tree_set (current log) i _ known.guarded.tree refl);
        names = λ g m. refl;
        count = ap (λ (s : FileSystem). length s.nodes) (current_more log (Writes i bytes time)) ∙ length-set (current log).nodes i _;
        others = λ j firm. loose_alone j firm (i == j) refl;
      };
      within = refl;
      still = λ p j other there. part_alone p j other there (i == j) refl;
      unborn = unborn_alone;
      moded = moded_alone;
    })

    pub moded_known : (mode : ℕ) → IsKnown said dirty marks (with_change log (Sets i mode))
    moded_known mode = calm_known said dirty marks log (Sets i mode) known (record {
      quiet = record {
        tree = subst IsTree (sym (current_more log (Sets i mode))) (tree_set (current log) i _ known.guarded.tree refl);
        names = λ g m. refl;
        count = ap (λ (s : FileSystem). length s.nodes) (current_more log (Sets i mode)) ∙ length-set (current log).nodes i _;
        others = λ j firm. loose_alone j firm (i == j) refl;
      };
      within = refl;
      still = λ p j other there. part_alone p j other there (i == j) refl;
      unborn = unborn_alone;
      moded = moded_alone;
    })

abbrev without : Route → List Route → List Route
without up routes = filter (λ kept. not (same_path kept up)) routes

unless_same : (up q first : Route) (routes : List Route) (b : Bool) → same_path first up ≡ b → same_path q up ≡ false → (q ≡ first) ⊎ Among (without up routes) q → Among (without up (first ∷ routes)) q
unless_same up q first routes true is off (inl same) = absurd (both_ways _ off (subst (λ r. same_path r up ≡ true) (sym same) is))
unless_same up q first routes true is off (inr more) = rw is more
unless_same up q first routes false is off among = rw is among

pub still_listed : (up q : Route) (routes : List Route) → Among routes q → same_path q up ≡ false → Among (without up routes) q
still_listed up q [] among off = among
still_listed up q (first ∷ routes) (inl same) off = unless_same up q first routes (same_path first up) refl off (inl same)
still_listed up q (first ∷ routes) (inr more) off = unless_same up q first routes (same_path first up) refl off (inr (still_listed up q routes more off))

-- a call that is no write and was refused, or found no memory, changes nothing
abbrev pub IsNoWrite : Call → Type 0
IsNoWrite call = (s : FileSystem) (left : List ℕ) → torn_write s call left ≡ Nothing

pub refused_is : (log now : CallLog) (call : Call) (e : TreeError) → IsNoWrite call → Performs {A = Unit {0}} log call (Err e) (Some now) → (now ≡ log) ⊎ (now ≡ with_change log Nothing)
refused_is log now call e no_write h =
    let q = ending.Performs-err (Unit {0}) log call (Some now) no_write e h in
    let is = some_log now q.after q.tells in
    elim q.how [ inl same ↦ inl (is ∙ same) | inr more ↦ inr (is ∙ more) ]

-- a call that is no write and stops changes nothing
pub stopped_is : (log now : CallLog) (call : Call) (why : Cause) (path : Option Route) → IsNoWrite call → RunStops (call ∷ []) why path log (Some now) → (now ≡ log) ⊎ (now ≡ with_change log Nothing)
stopped_is log now call why path no_write stops = let q = calm_stops call why path log now no_write stops in elim q.how [
  | inl same ↦ inl (some_log now q.after q.tells ∙ same)
  | inr more ↦ inr (some_log now q.after q.tells ∙ more)
]

-- what a call doesn't miss is there
not_missed : (s : FileSystem) (path : Route) (checks : Place → List (Bool × TreeError)) → after_walk s path (λ p. first_of (missing p ∷ checks p)) ≡ None → find s path ≡ Some (found_node s path)
not_missed s path checks h =
    let w = passed_walk (walk s path) (λ p. first_of (missing p ∷ checks p)) h in
    let t = some_there w.0.there (check_passes (is_none w.0.there) Missing _ w.2).0 in
    let at : find s path ≡ Some t.0 = walk-find s path w.0 w.1 ∙ t.1 in
    rw at refl

pub mode_finds : (s : FileSystem) (path : Route) (mode : ℕ) → refusal_of s (SetMode path mode) ≡ None → find s path ≡ Some (found_node s path)
mode_finds s path mode h = not_missed s path (λ p. a_special s p ∷ []) h

-- the sync of a thing, by its kind: what it finds and does, and that it is no write
thing_finds : (s : FileSystem) (path : Route) (kind : Kind) → refusal_of s (sync_by kind path) ≡ None → find s path ≡ Some (found_node s path)
thing_finds s path Folder h = sync_finds s path h
thing_finds s path File h = not_missed s path (λ p. a_folder s p ∷ a_special s p ∷ []) h
thing_finds s path Link h = not_missed s path (λ p. a_folder s p ∷ a_special s p ∷ []) h
thing_finds s path Other h = not_missed s path (λ p. a_folder s p ∷ a_special s p ∷ []) h

thing_syncs : (s : FileSystem) (path : Route) (kind : Kind) (time : ℤ) → change_of s (sync_by kind path) time ≡ Syncs (found_node s path)
thing_syncs s path Folder time = refl
thing_syncs s path File time = refl
thing_syncs s path Link time = refl
thing_syncs s path Other time = refl

thing_calm : (kind : Kind) (path : Route) → IsNoWrite (sync_by kind path)
thing_calm Folder path s left = refl
thing_calm File path s left = refl
thing_calm Link path s left = refl
thing_calm Other path s left = refl

-- it was done
pub thing_done : (log now : CallLog) (path : Route) → Performs {A = Unit {0}} log (sync_of (current log) path) (Ok tt) (Some now) → (f : ℕ) × (find (current log) path ≡ Some f) × (now ≡ with_change log (Syncs f))
thing_done log now path done =
    let kind : Kind = (node (current log) (found_node (current log) path)).kind in
    let d = done_call log (sync_by kind path) now done in
    (found_node (current log) path, thing_finds (current log) path kind d.permits, d.is ∙ ap (with_change log) (thing_syncs (current log) path kind d.time))

-- or it was refused, or the look before it
pub thing_refused : (log now : CallLog) (path : Route) (e : TreeError) → Performs {A = Unit {0}} log (sync_of (current log) path) (Err e) (Some now) → (now ≡ log) ⊎ (now ≡ with_change log Nothing)
thing_refused log now path e refused = let kind : Kind = (node (current log) (found_node (current log) path)).kind in refused_is log now (sync_by kind path) e (thing_calm kind path) refused

pub thing_stopped : (log now : CallLog) (path : Route) (why : Cause) (named : Option Route) → SyncStops path why named log (Some now) → (now ≡ log) ⊎ (now ≡ with_change log Nothing)
thing_stopped log now path why named (inl look) = inl (some_log now log look.1)
thing_stopped log now path why named (inr stops) =
    let kind : Kind = (node (current log) (found_node (current log) path)).kind in stopped_is log now (sync_by kind path) why named (thing_calm kind path) stops

module _ (said : HistoryFacts) (dirty : List Route) (marks : Marks) (log : CallLog) (known : IsKnown said dirty marks log) (up : Route) where
  -- a folder that was synced is dirty no more
  pub cleared_known : (f : ℕ) → find (current log) up ≡ Some f → IsKnown said (without up dirty) marks (with_change log (Syncs f))
  cleared_known f at = record {
    guarded = k.guarded;
    files = k.files;
    moded = λ i before is unclean. still_moded i before unclean (k.moded i before is unclean);
    calm = k.calm;
    folders = k.folders;
    aside = k.aside;
    left = k.left;
    was_there = k.was_there;
    was_shown = k.was_shown;
    shows = k.shows;
    part = k.part;
    tracked = λ g restless. elim (k.tracked g restless) [
      | inl t ↦ inl (t.0, still_listed up t.0 dirty t.1 (off g restless t.0 t.2), t.2)
      | inr none ↦ inr none
    ];
    joint = k.joint;
    doubts = k.doubts;
    written = k.written;
    stand = k.stand;
  }
    where
      k : IsKnown said dirty marks (with_change log (Syncs f))
      k = synced_known said dirty marks log known f

      -- a mode that waits is of another path
      still_moded : (i before : ℕ) → is_clean i (log.changes ++ Syncs f ∷ []) ≡ false → HasMode said dirty marks (with_change log (Syncs f)) i before → HasMode said (without up dirty) marks (with_change log (Syncs f)) i before
      still_moded i before unclean h = record {
        path = h.path;
        leads = h.leads;
        out = h.out;
        listed = still_listed up h.path dirty h.listed (false_from_ne_true _ (λ same.
            let here : find (current (with_change log (Syncs f))) h.path ≡ Some f = same_quiet log (Syncs f) (λ g n. refl) h.path ∙ (ap (find (current log)) (same_path-true h.path up same) ∙ at) in
            let i_is : i ≡ f = (let e = sym h.leads ∙ here in cc) in
            both_ways _ unclean (subst (λ j. is_clean j (log.changes ++ Syncs f ∷ []) ≡ true) (sym i_is) (firm_law log f))));
        told = h.told;
        shown = h.shown;
      }

      off : (g : ℕ) → is_restless g (log.changes ++ Syncs f ∷ []) ≡ true → (q : Route) → find (current (with_change log (Syncs f))) q ≡ Some g → same_path q up ≡ false
      off g restless q there = false_from_ne_true _ (λ same.
          let q_is = same_path-true q up same in
          let here : find (current (with_change log (Syncs f))) q ≡ Some f = same_quiet log (Syncs f) (λ h n. refl) q ∙ (ap (find (current log)) q_is ∙ at) in
          let g_is : g ≡ f = (let e = sym there ∙ here in cc) in
          both_ways _ (restless_synced f log.changes) (subst (λ j. is_restless j (log.changes ++ Syncs f ∷ []) ≡ true) g_is restless))
