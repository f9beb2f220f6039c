-- Before a thing is deleted, moved or removed nothing waits in it, on whatever mount: no name, no mode, and no renaming for a folder there and another one.
use Rattle.std.proofs.Common.{◌≡◌, ◌⊎◌, ℕ, true, false, not, List, [], ◌∷◌, ◌++◌, refl, sym, ◌∙◌, ap, subst, inl, inr, Option, Some, None}
use Rattle.std.specs.Option.{option_map_or}
use Rattle.std.proofs.lemmas.Bool.{both_ways, false_from_ne_true}
use Rattle.mc_text.specs.Routes.{Route, is_prefix}
use Rattle.tree_trait.specs.declared.file_system.FileSystem.{FileSystem}
use Rattle.tree_trait.specs.declared.calls.TreeError.TheVariants.{Missing}
use Rattle.tree_trait.specs.Calls.{Stat}
use Rattle.tree_trait.specs.FileSystem.{find}
use Rattle.tree_trait.specs.Answers.{mount_number}
use Rattle.tree_trait.specs.Refusals.{mount_of, refusal_of}
use Rattle.tree_trait.specs.Change.{CallLog, current}
use Rattle.tree_trait.specs.CrashImages.{Among, is_clean}
use Rattle.tree_trait.proofs.Finding.{find-once}
use Rattle.laws_crash.specs.Guarded.{Marks}
use Rattle.job_reports.specs.Paths.{folder_of}
use Rattle.job_reports.proofs.PermittedCalls.{stat_missing}
use Rattle.move_job.specs.Movings.{Moving}
use Rattle.emptied_job.specs.Removals.{Removing}
use Rattle.copy_move.specs.declared.work.Work.TheVariants.{Delete, Move, RemoveEmptied}
use Rattle.delete_job.specs.Deletions.{Deleting}
use Rattle.copy_move.specs.Settling.{NoneOwed}
use Rattle.copy_move.specs.MountNumbers.{LiesOff}
use Rattle.laws_sessions.specs.Doubt.{is_pending, name_waits, node_waits, way_waits}
use Rattle.laws_sessions.proofs.AtRest.{RestsBelow}
use Rattle.laws_sessions.proofs.JobKnows.{HasName, NoneOver, none_joint, none_unlisted, none_waits, over_it, way_sure}
use Rattle.laws_sessions.proofs.Knowing.{IsKept, HistoryFacts, clean_now}
use Rattle.laws_sessions.proofs.Mounts.{mount_mates}
pub use Rattle.laws_sessions.proofs.PathsBelow.{below_way as prefix_way, is_below as prefix_append}
use Rattle.laws_sessions.proofs.Resting.{sure_path}
use Rattle.laws_sessions.proofs.Restless.{IsUnjoined, is_restless, joint_restless}
use Rattle.laws_sessions.proofs.Untouched.{lies_apart}
use Rattle.laws_sessions.proofs.WaitsFor.{waits_for}

-- What is dirty lies neither in the thing nor on the mount of the folder that holds it, nor on that of a folder on the way; or it was removed.
abbrev pub NoneWithin : FileSystem → Route → List Route → Type 0
NoneWithin s top dirty = (kept : Route) → Among dirty kept → (refusal_of s (Stat kept) ≡ Some Missing) ⊎ ((is_prefix top kept ≡ false) × LiesOff s (folder_of top) kept)

-- so it is before the first change of a deletion
pub none_in_deleted : (s : FileSystem) (d : Deleting) (dirty : List Route) → NoneOwed s (Delete d) dirty → NoneWithin s d.path dirty
none_in_deleted s d dirty none kept among = elim (none kept among) [ inl gone ↦ inl gone | inr apart ↦ inr (apart.0, apart.2) ]

-- and of a move
pub none_in_moved : (s : FileSystem) (m : Moving) (dirty : List Route) → NoneOwed s (Move m) dirty → NoneWithin s m.pair.source dirty
none_in_moved s m dirty none kept among = elim (none kept among) [ inl gone ↦ inl gone | inr apart ↦ inr (apart.0, apart.2) ]

-- and of the removal of an emptied folder
pub none_in_emptied : (s : FileSystem) (r : Removing) (dirty : List Route) → NoneOwed s (RemoveEmptied r) dirty → NoneWithin s r.path dirty
none_in_emptied s r dirty none kept among = elim (none kept among) [ inl gone ↦ inl gone | inr apart ↦ inr (apart.0, apart.2) ]

module _ (told : HistoryFacts) (dirty : List Route) (marks : Marks) (log : CallLog) (kept : IsKept told dirty marks log) (top : Route) (has : HasName top) (none : NoneWithin (current log) top dirty) where
  abbrev pub around : Route
  around = folder_of top

  pub none_around : NoneOver (current log) around dirty
  none_around path among = elim (none path among) [ inl gone ↦ inl gone | inr off ↦ inr off.1 ]

  removed : (q : Route) (g : ℕ) → find (current log) q ≡ Some g → refusal_of (current log) (Stat q) ≡ Some Missing → ⊥
  removed q g at gone = let e : (let o : Option ℕ = None in o) ≡ Some g = sym (stat_missing (current log) q gone) ∙ at in let x : ⊥ = cc in x

  -- what stands at or below the thing isn't dirty
  pub none_dirty : (rest : Route) (i : ℕ) → find (current log) (rest ++ top) ≡ Some i → Among dirty (rest ++ top) → ⊥
  none_dirty rest i at among = elim (none (rest ++ top) among) [ inl gone ↦ removed (rest ++ top) i at gone | inr off ↦ both_ways _ off.0 (prefix_append top rest) ]

  -- a folder that stands and isn't dirty is at rest
  at_rest : (q : Route) (f : ℕ) → find (current log) q ≡ Some f → (Among dirty q → ⊥) → is_restless f log.changes ≡ false
  at_rest q f at unlisted = false_from_ne_true _ (λ restless. elim (kept.known.tracked f restless) [
    | inl t ↦ unlisted (subst (λ p. Among dirty p) (find-once (current log) kept.known.guarded.tree t.0 q f t.2 at) t.1)
    | inr unreached ↦ unreached q at
  ])

  pub rests : (rest : Route) (f : ℕ) → find (current log) (rest ++ top) ≡ Some f → is_restless f log.changes ≡ false
  rests rest f at = at_rest (rest ++ top) f at (none_dirty rest f at)

  -- Nor is one dirty on the mount of such a folder: that mount begins within, or it is that of the folder around.
  none_beside : (rest : Route) (i : ℕ) → find (current log) (rest ++ top) ≡ Some i → (q : Route) (g : ℕ) → find (current log) q ≡ Some g → mount_of (current log) q ≡ mount_of (current log) (rest ++ top) → Among dirty q → ⊥
  none_beside rest i at q g there mount among = elim (none q among) [
    | inl gone ↦ removed q g there gone
    | inr off ↦ elim mates [
      | inl within ↦ both_ways _ off.0 (subst (λ p. is_prefix top p ≡ true) (sym within.1) (prefix_append top within.0))
      | inr same ↦ (let a = lies_apart (current log) around q off.1 in a.2 (a.1 ∙ ap (mount_number (current log).mounts) (sym (mount ∙ same))))
    ]
  ]
    where
      mates : ((more : Route) × (q ≡ more ++ top)) ⊎ (mount_of (current log) (rest ++ top) ≡ mount_of (current log) around)
      mates = subst (λ (t : Route). ((more : Route) × (q ≡ more ++ t)) ⊎ (mount_of (current log) (rest ++ t) ≡ mount_of (current log) around)) (sym has.is)
          (mount_mates (current log) kept.known.guarded.tree has.name around rest i (sym (ap (λ t. find (current log) (rest ++ t)) has.is) ∙ at) q g there (mount ∙ ap (λ t. mount_of (current log) (rest ++ t)) has.is))

  -- so no renaming waits for one of those and another one
  pub unjoined : (rest : Route) → IsUnjoined log (rest ++ top)
  unjoined rest f g at = false_from_ne_true _ (λ joint. elim (joint_restless f g log.changes joint) [
    | inl own ↦ both_ways _ (rests rest f at) own
    | inr other ↦ (let b = kept.known.joint f g (rest ++ top) joint at in both_ways _ (at_rest b.path g b.at (none_beside rest f at b.path g b.at b.mount)) other)
  ])

  -- no name waits in one
  pub none_pends : (rest : Route) (f : ℕ) (name : List ℕ) → find (current log) (rest ++ top) ≡ Some f → is_pending f name log.changes ≡ false
  none_pends rest f name at = false_from_ne_true _ (λ waits. elim (waits_for f name log.changes waits) [ inl own ↦ both_ways _ (rests rest f at) own | inr other ↦ both_ways _ (unjoined rest f other.0 at) other.1 ])

  pub names_within : (rest : Route) (name : List ℕ) → name_waits log (name ∷ rest ++ top) ≡ false
  names_within rest name = by (find (current log) (rest ++ top)) refl
    where
      by : (o : Option ℕ) → find (current log) (rest ++ top) ≡ o → name_waits log (name ∷ rest ++ top) ≡ false
      by None at = ap (λ o. option_map_or (λ f. is_pending f name log.changes) o false) at
      by (Some f) at = ap (λ o. option_map_or (λ f. is_pending f name log.changes) o false) at ∙ none_pends rest f name at

  -- nor in the folder that holds the thing
  pub names_around : (name : List ℕ) → name_waits log (name ∷ around) ≡ false
  names_around name = none_waits told dirty marks log around kept.known (over_it (current log) around dirty none_around) name

  pub unjoined_around : IsUnjoined log around
  unjoined_around = none_joint told dirty marks log around kept.known (over_it (current log) around dirty none_around)

  -- That one isn't in doubt, so neither is the thing, nor what lies in it.
  pub around_sure : way_waits log around ≡ false
  around_sure = way_sure told dirty marks log around kept.known none_around

  pub sure_within : (rest : Route) → way_waits log (rest ++ top) ≡ false
  sure_within [] = subst (λ q. way_waits log q ≡ false) (sym has.is) (sure_path log (has.name ∷ around) around_sure (names_around has.name))
  sure_within (name ∷ rest) = sure_path log (name ∷ rest ++ top) (sure_within rest) (names_within rest name)

  -- no mode waits there
  pub modes_within : (rest : Route) (i : ℕ) → find (current log) (rest ++ top) ≡ Some i → marks.modes i ≡ None
  modes_within rest i at = none_unlisted told dirty marks log kept (rest ++ top) i at (none_dirty rest i at)

  pub nodes_within : (rest : Route) → marks.aside (rest ++ top) ≡ false → node_waits log (rest ++ top) ≡ false
  nodes_within rest out = by (find (current log) (rest ++ top)) refl
    where
      by : (o : Option ℕ) → find (current log) (rest ++ top) ≡ o → node_waits log (rest ++ top) ≡ false
      by None at = ap (λ o. option_map_or (λ i. not (is_clean i log.changes)) o false) at
      by (Some i) at = ap (λ o. option_map_or (λ i. not (is_clean i log.changes)) o false) at ∙ ap not (clean_now told dirty marks log kept.known (rest ++ top) out i at (modes_within rest i at))

-- So nothing waits at or below the source of a move, before its first change.
pub source_rests : (told : HistoryFacts) (dirty : List Route) (marks : Marks) (log : CallLog) → IsKept told dirty marks log → (m : Moving) → HasName m.pair.source → NoneOwed (current log) (Move m) dirty → RestsBelow marks log m.pair.source
source_rests told dirty marks log kept m has none = record {
  names = λ name rest. names_within told dirty marks log kept m.pair.source has within rest name;
  modes = λ rest i at. modes_within told dirty marks log kept m.pair.source has within rest i at;
  still = λ rest i at. rests told dirty marks log kept m.pair.source has within rest i at;
  apart = λ rest i other at. unjoined told dirty marks log kept m.pair.source has within rest i other at;
}
  where
    within : NoneWithin (current log) m.pair.source dirty
    within = none_in_moved (current log) m dirty none
