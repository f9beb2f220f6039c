-- What waits for a sync lies in a dirty folder, or in one for which and such a folder a renaming waits.
use Rattle.std.proofs.Common.{◌≡◌, ◌⊎◌, ℕ, Bool, true, false, List, [], ◌∷◌, ◌++◌, refl, sym, ◌∙◌, ap, subst, inl, inr, Option, Some, None}
use Rattle.std.specs.Prelude.{filter, if◌then◌else◌, not}
use Rattle.std.specs.Option.{option_map_or}
use Rattle.std.proofs.lemmas.Bool.{both_ways, false≢true}
use Rattle.mc_text.specs.Routes.{Route, same_path}
use Rattle.tree_trait.specs.FileSystem.{find, starts_mount, visible_tree}
use Rattle.tree_trait.specs.Change.{CallLog, current}
use Rattle.tree_trait.specs.CrashImages.{Among, all_settled, is_clean}
use Rattle.tree_trait.specs.Shape.{IsTree}
use Rattle.tree_trait.proofs.Finding.{find-once}
use Rattle.laws_crash.specs.Guarded.{Marks}
use Rattle.job_reports.specs.Paths.{folder_of}
use Rattle.job_reports.proofs.PermittedCalls.{stat_missing}
use Rattle.copy_move.specs.declared.work.Work.{Work}
use Rattle.copy_move.specs.Settling.{NoneOwed, changed_folder, with_change}
use Rattle.copy_move.specs.MountNumbers.{LiesApart}
use Rattle.job_unsynced.specs.Folders.{is_one_of, joined_folders}
use Rattle.tree_trait.specs.declared.file_system.FileSystem.{FileSystem}
use Rattle.tree_trait.specs.declared.calls.TreeError.TheVariants.{Missing}
use Rattle.tree_trait.specs.Calls.{Stat}
use Rattle.tree_trait.specs.Answers.{mount_number}
use Rattle.tree_trait.specs.Refusals.{mount_of, refusal_of}
use Rattle.laws_sessions.specs.Doubt.{is_pending, name_waits, node_waits}
use Rattle.laws_sessions.specs.Owed.{IsOwed, OwedLaw, StepLaw}
use Rattle.laws_sessions.specs.ApartFolders.{IsApart}
use Rattle.laws_sessions.specs.Traces.{IsTraced, Stand}
use Rattle.session_entries.specs.Named.{named_parts}
use Rattle.session_entries.specs.declared.history.Entry.{Entry}
use Rattle.laws_sessions.proofs.Histories.{IsReached, traced_reached}
use Rattle.laws_sessions.proofs.Knowing.{IsKnown, HistoryFacts, clean_now, mode_waits}
use Rattle.laws_sessions.proofs.Prefixes.{calm_told, told_of}
use Rattle.laws_sessions.proofs.Resting.{IsBeside}
use Rattle.laws_sessions.proofs.Untouched.{none_on}
use Rattle.laws_sessions.proofs.WaitsAlone.{WaitsAlone, alone_restless}
use Rattle.laws_sessions.proofs.WaitsFor.{waits_for}

-- a path of which a change waits lies in a folder that is owed
listed : (told : HistoryFacts) (dirty : List Route) (marks : Marks) (log : CallLog) (path : Route) → IsKnown told dirty marks log → name_waits log path ≡ true → IsOwed dirty log (folder_of path)
listed told dirty marks log [] known waits = absurd (false≢true waits)
listed told dirty marks log (name ∷ up) known waits = by (find (current log) up) refl waits
  where
    by : (o : Option ℕ) → find (current log) up ≡ o → option_map_or (λ f. is_pending f name log.changes) (find (current log) up) false ≡ true → IsOwed dirty log up
    by None is h = absurd (false≢true (sym (ap (λ x. option_map_or (λ f. is_pending f name log.changes) x false) is) ∙ h))
    by (Some f) is h =
        elim (waits_for f name log.changes (sym (ap (λ x. option_map_or (λ g. is_pending g name log.changes) x false) is) ∙ h)) [
          | inl own ↦ elim (known.tracked f own) [
            | inl t ↦ inl (subst (λ q. Among dirty q) (find-once (current log) known.guarded.tree t.0 up f t.2 is) t.1)
            | inr none ↦ absurd (none up is)
          ]
          | inr other ↦
              let beside = known.joint f other.0 up other.1 is in
              elim (known.tracked other.0 other.2) [
                | inl t ↦ inr (t.0, t.1, record { f = f; g = other.0; at = is; beside = t.2; joint = other.1 })
                | inr none ↦ absurd (none beside.path beside.at)
              ]
        ]

-- and in one that is listed, where it waits for the sync of its own folder alone
alone_listed : (told : HistoryFacts) (dirty : List Route) (marks : Marks) (log : CallLog) (path : Route) → IsKnown told dirty marks log → WaitsAlone log path → name_waits log path ≡ true → Among dirty (folder_of path)
alone_listed told dirty marks log [] known alone waits = absurd (false≢true waits)
alone_listed told dirty marks log (name ∷ up) known alone waits = by (find (current log) up) refl
  where
    by : (o : Option ℕ) → find (current log) up ≡ o → Among dirty up
    by None is = absurd (false≢true (sym (ap (λ x. option_map_or (λ f. is_pending f name log.changes) x false) is) ∙ waits))
    by (Some f) is =
        elim (known.tracked f (alone_restless log name up f alone is (sym (ap (λ x. option_map_or (λ g. is_pending g name log.changes) x false) is) ∙ waits))) [
          | inl t ↦ subst (λ q. Among dirty q) (find-once (current log) known.guarded.tree t.0 up f t.2 is) t.1
          | inr none ↦ absurd (none up is)
        ]

module _ (opening now : CallLog) (newest : List Entry) (stand : Stand) (path : Route) (tree : IsTree (current opening)) (settled : all_settled opening.changes ≡ true) (traced : IsTraced opening newest stand now) where
  abbrev reached : IsReached opening newest stand now
  reached = traced_reached opening tree settled newest stand now traced

  pub owed_names : name_waits now path ≡ true → IsOwed stand.dirty now (folder_of path)
  owed_names waits = listed _ stand.dirty reached.marks now path reached.kept.known waits

  -- a path that was named as no part isn't aside
  not_aside : (Among (named_parts newest) path → ⊥) → (b : Bool) → reached.marks.aside path ≡ b → reached.marks.aside path ≡ false
  not_aside unnamed false is = is
  not_aside unnamed true is = absurd (unnamed (reached.kept.known.aside path is))

  pub owed_modes : (Among (named_parts newest) path → ⊥) → node_waits now path ≡ true → Among stand.dirty path
  owed_modes unnamed waits = (mode_waits _ stand.dirty reached.marks now reached.kept.known path (not_aside unnamed (reached.marks.aside path) refl) waits).0

  -- nor does a mode wait of what stands at the path, where none does or another mount begins there
  pub calm_at : (Among (named_parts newest) path → ⊥) → ((i : ℕ) → find (current now) path ≡ Some i → (reached.marks.modes i ≡ None) ⊎ (starts_mount (current now) i ≡ true)) → (visible_tree (current now) path).is_mount ≡ false
      → node_waits now path ≡ false
  calm_at unnamed calm no_mount = by (find (current now) path) refl
    where
      by : (o : Option ℕ) → find (current now) path ≡ o → node_waits now path ≡ false
      by None at = ap (λ x. option_map_or (λ i. not (is_clean i now.changes)) x false) at
      by (Some i) at =
          ap (λ x. option_map_or (λ i. not (is_clean i now.changes)) x false) at ∙ ap not (elim (calm i at) [
            | inl none ↦ clean_now _ stand.dirty reached.marks now reached.kept.known path (not_aside unnamed (reached.marks.aside path) refl) i at none
            | inr begins ↦ absurd (both_ways _ no_mount (ap (λ x. option_map_or (starts_mount (current now)) x false) at ∙ begins))
          ])

  -- at a path that is said to be calm no mode waits, parts aside, but where another mount begins
  pub calm_there : (Among (named_parts newest) path → ⊥) → calm_told newest path ≡ true → (visible_tree (current now) path).is_mount ≡ false → node_waits now path ≡ false
  calm_there unnamed calm no_mount = calm_at unnamed (λ i at. (let still = reached.kept.known.calm path calm in still.mode i at)) no_mount

  -- and what waits of its name is listed with its own folder
  pub calm_listed : calm_told newest path ≡ true → name_waits now path ≡ true → Among stand.dirty (folder_of path)
  calm_listed calm waits = alone_listed (told_of opening now newest reached.part) stand.dirty reached.marks now path reached.kept.known (let still = reached.kept.known.calm path calm in still.alone) waits

pub owed_law : OwedLaw
owed_law = record {
  names = λ opening now newest stand path tree settled traced waits. owed_names opening now newest stand path tree settled traced waits;
  modes = λ opening now newest stand path tree settled traced unnamed waits. owed_modes opening now newest stand path tree settled traced unnamed waits;
}

-- where none is owed, each dirty folder lies on another mount, or was removed
pub apart_from : (s : FileSystem) (work : Work) (dirty : List Route) (q : Route) → Among dirty q → NoneOwed s work dirty → (refusal_of s (Stat q) ≡ Some Missing) ⊎ LiesApart s (changed_folder work) q
apart_from s work dirty q among none = none_on s work dirty none q among

-- and so does each folder that is owed, since those for which a renaming waits lie on one mount
pub owed_apart : (told : HistoryFacts) (dirty : List Route) (marks : Marks) (log : CallLog) (work : Work) (up : Route) → IsKnown told dirty marks log → NoneOwed (current log) work dirty → IsOwed dirty log up → IsApart log (changed_folder work) up
owed_apart told dirty marks log work up known none (inl among) = apart_from (current log) work dirty up among none
owed_apart told dirty marks log work up known none (inr (other, among, joined)) = elim (apart_from (current log) work dirty other among none) [
  | inl gone ↦ absurd (let e : (let o : Option ℕ = None in o) ≡ Some joined.g = sym (stat_missing (current log) other gone) ∙ joined.beside in let x : ⊥ = cc in x)
  | inr apart ↦ inr (
    apart.0,
    apart.1,
    λ here. apart.2 (here ∙ ap (mount_number (current log).mounts) (sym beside.mount ∙ ap (mount_of (current log)) (find-once (current log) known.guarded.tree beside.path other joined.g beside.at joined.beside))),
  )
]
  where
    beside : IsBeside log up joined.g
    beside = known.joint joined.f joined.g up joined.joint joined.at

pub in_filter : (keeps : Route → Bool) (q : Route) (routes : List Route) → Among (filter keeps routes) q → Among routes q
in_filter keeps q [] among = absurd among
in_filter keeps q (first ∷ routes) among = by (keeps first) refl among (in_filter keeps q routes)
  where
    by : (b : Bool) → keeps first ≡ b → Among (filter keeps (first ∷ routes)) q → (Among (filter keeps routes) q → Among routes q) → Among (first ∷ routes) q
    by true is among rest = elim (rw is at among) [ inl same ↦ inl same | inr later ↦ inr (rest later) ]
    by false is among rest = inr (rest (rw is at among))

in_both : (q : Route) (xs : List Route) (last : Route) → Among (xs ++ last ∷ []) q → (q ≡ last) ⊎ Among xs q
in_both q [] last (inl same) = inl same
in_both q [] last (inr none) = absurd none
in_both q (x ∷ xs) last (inl same) = inr (inl same)
in_both q (x ∷ xs) last (inr later) = elim (in_both q xs last later) [ inl same ↦ inl same | inr before ↦ inr (inr before) ]

in_joined : (up q : Route) (dirty : List Route) → Among (joined_folders up dirty) q → (q ≡ up) ⊎ Among dirty q
in_joined up q dirty = by (is_one_of up dirty)
  where
    by : (b : Bool) → Among (if b then dirty else dirty ++ up ∷ []) q → (q ≡ up) ⊎ Among dirty q
    by true among = inr among
    by false among = in_both q dirty up among

pub changed_or_before : (a b : Bool) (up q : Route) (dirty : List Route) → Among (with_change a b up dirty) q → (q ≡ up) ⊎ Among dirty q
changed_or_before false true up q dirty among = in_joined up q dirty among
changed_or_before true false up q dirty among = inr (in_filter (λ kept. not (same_path kept up)) q dirty among)
changed_or_before false false up q dirty among = inr among
changed_or_before true true up q dirty among = inr among

pub step_law : StepLaw
step_law job new did calls dirty dirty_after log now faults faults_after (inl own) = inl (
  new,
  inl (record {
    tells = let s = own.own in s.tells;
    called = let s = own.own in s.called log refl;
    settled = λ goes fresh. own.settled goes fresh log refl;
    cleared = λ goes fresh. own.cleared goes fresh log refl;
    leaves = own.leaves;
    walks = (calls, faults, faults_after, own.walks);
  }),
  refl,
)
step_law job new did calls dirty dirty_after log now faults faults_after (inr settling) = inl (
  new,
  inr (record { goes = settling.goes; fresh = settling.fresh; path = settling.path; owed = settling.owed; synced = settling.synced }),
  refl,
)
