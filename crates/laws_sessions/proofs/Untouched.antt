-- What no job has touched yet: a target at which nothing stands, in a folder on whose mount nothing waits.
use Rattle.std.proofs.Common.{◌≡◌, ◌⊎◌, ℕ, Bool, true, false, ◌||◌, List, [], ◌∷◌, refl, sym, ◌∙◌, ap, inl, inr, Option, Some, None}
use Rattle.std.specs.Prelude.{is_some}
use Rattle.std.specs.Option.{option_map_or}
use Rattle.std.proofs.lemmas.Bool.{false≢true, both_ways, false_from_ne_true}
use Rattle.mc_text.specs.Routes.{Route}
use Rattle.tree_trait.specs.declared.file_system.FileSystem.{FileSystem}
use Rattle.tree_trait.specs.declared.calls.TreeError.TheVariants.{Missing}
use Rattle.tree_trait.specs.Calls.{Stat}
use Rattle.tree_trait.specs.FileSystem.{find, node}
use Rattle.tree_trait.specs.Refusals.{is_folder, mount_of, refusal_of}
use Rattle.tree_trait.specs.Answers.{mount_number}
use Rattle.tree_trait.specs.Change.{CallLog, current}
use Rattle.tree_trait.specs.CrashImages.{Among}
use Rattle.tree_trait.proofs.Finding.{find-once}
use Rattle.laws_crash.specs.Guarded.{Marks}
use Rattle.job_reports.proofs.PermittedCalls.{stat_missing}
use Rattle.copy_move.specs.declared.work.Work.{Work}
use Rattle.copy_move.specs.Settling.{NoneOwed, changed_folder, left_folder}
use Rattle.copy_move.specs.MountNumbers.{LiesApart, LiesOff}
use Rattle.laws_sessions.specs.Doubt.{is_pending, name_waits, way_waits}
use Rattle.laws_sessions.proofs.Knowing.{IsKept, IsKnown, HistoryFacts}
use Rattle.laws_sessions.proofs.Restless.{IsUnjoined, is_restless, joint_restless}
use Rattle.laws_sessions.proofs.WaitsFor.{waits_for}

-- nothing was done at the target yet, and nothing stands there
pub record IsUntouched (marks : Marks) (s : FileSystem) (target : Route) : Type 0 where
  pub out : marks.aside target ≡ false
  pub free : find s target ≡ None
  pub was : marks.was target ≡ None

-- at the target stands nothing, or no folder
abbrev pub IsBare : FileSystem → Route → Type 0
IsBare s target = (i : ℕ) → find s target ≡ Some i → is_folder (node s i) ≡ false

-- Nothing was done at the target yet: what stands there, if anything does, is what stood there, and no folder, and no mode of it waits. It may be a part that an ended job left, of which
-- nothing is said.
pub record IsAsFound (marks : Marks) (s : FileSystem) (target : Route) : Type 0 where
  pub bare : IsBare s target
  pub was : marks.aside target ≡ false → marks.was target ≡ find s target
  pub stood : marks.aside target ≡ true → is_some (find s target) ≡ true
  pub calm : (i : ℕ) → find s target ≡ Some i → marks.modes i ≡ None

no_node : {A : Type 0} (o : Option ℕ) (i : ℕ) → o ≡ None → o ≡ Some i → A
no_node o i none some = absurd (let e : (let x : Option ℕ = None in x) ≡ Some i = sym none ∙ some in let f : ⊥ = cc in f)

pub bare_free : (s : FileSystem) (target : Route) → find s target ≡ None → IsBare s target
bare_free s target free i at = no_node (find s target) i free at

-- so it is where nothing stands
pub as_found : (marks : Marks) (s : FileSystem) (target : Route) → IsUntouched marks s target → IsAsFound marks s target
as_found marks s target u = record { bare = bare_free s target u.free; was = λ out. u.was ∙ sym u.free; stood = λ is. absurd (both_ways _ u.out is); calm = λ i at. no_node (find s target) i u.free at }

-- a path at which no folder stands, and of whose name nothing waits
pub found_bare : (told : HistoryFacts) (dirty : List Route) (marks : Marks) (log : CallLog) (p : Route) → IsKept told dirty marks log → way_waits log p ≡ false → IsBare (current log) p → ((i : ℕ) → find (current log) p ≡ Some i → marks.modes i ≡ None) → IsAsFound marks (current log) p
found_bare told dirty marks log p kept sure bare calm = record { bare = bare; was = λ out. kept.was p out sure; stood = λ is. elim (kept.aside p is) [ inl waits ↦ absurd (both_ways _ sure waits) | inr stands ↦ stands ]; calm = calm }

-- a path at which nothing stands, and of whose name nothing waits
pub untouched_free : (told : HistoryFacts) (dirty : List Route) (marks : Marks) (log : CallLog) (p : Route) → IsKept told dirty marks log → way_waits log p ≡ false → find (current log) p ≡ None → IsUntouched marks (current log) p
untouched_free told dirty marks log p kept sure free =
    let out = not_aside (marks.aside p) refl in
    record { out = out; free = free; was = kept.was p out sure ∙ free }
  where
    not_aside : (b : Bool) → marks.aside p ≡ b → marks.aside p ≡ false
    not_aside false is = is
    not_aside true is = elim (kept.aside p is) [
      | inl waits ↦ absurd (both_ways _ sure waits)
      | inr stands ↦ absurd (false≢true (sym (ap is_some free) ∙ stands))
    ]

-- no dirty folder lies on the mount of this one, but for those that were removed
abbrev pub NoneOn : FileSystem → Route → List Route → Type 0
NoneOn s up dirty = (kept : Route) → Among dirty kept → (refusal_of s (Stat kept) ≡ Some Missing) ⊎ LiesApart s up kept

-- nor on that of a folder on the way to it
abbrev pub NoneOver : FileSystem → Route → List Route → Type 0
NoneOver s up dirty = (kept : Route) → Among dirty kept → (refusal_of s (Stat kept) ≡ Some Missing) ⊎ LiesOff s up kept

-- so it is where none is owed
pub none_over : (s : FileSystem) (work : Work) (dirty : List Route) → NoneOwed s work dirty → NoneOver s (changed_folder work) dirty
none_over s work dirty none kept among = elim (none kept among) [ inl gone ↦ inl gone | inr apart ↦ inr apart.1 ]

pub none_left : (s : FileSystem) (work : Work) (dirty : List Route) → NoneOwed s work dirty → NoneOver s (left_folder work) dirty
none_left s work dirty none kept among = elim (none kept among) [ inl gone ↦ inl gone | inr apart ↦ inr apart.2 ]

pub lies_apart : (s : FileSystem) (up kept : Route) → LiesOff s up kept → LiesApart s up kept
lies_apart s [] kept off = off
lies_apart s (name ∷ up) kept off = off.0

pub over_it : (s : FileSystem) (up : Route) (dirty : List Route) → NoneOver s up dirty → NoneOn s up dirty
over_it s up dirty none kept among = elim (none kept among) [ inl gone ↦ inl gone | inr off ↦ inr (lies_apart s up kept off) ]

pub none_on : (s : FileSystem) (work : Work) (dirty : List Route) → NoneOwed s work dirty → NoneOn s (changed_folder work) dirty
none_on s work dirty none = over_it s (changed_folder work) dirty (none_over s work dirty none)

-- Where no dirty folder lies on the mount of this one, each folder there is at rest, so nothing waits in it, nor a renaming for it and another folder.
module _ (told : HistoryFacts) (dirty : List Route) (marks : Marks) (log : CallLog) (up : Route) (known : IsKnown told dirty marks log) (none : NoneOn (current log) up dirty) where
  at_rest : (q : Route) (f : ℕ) → find (current log) q ≡ Some f → mount_of (current log) q ≡ mount_of (current log) up → is_restless f log.changes ≡ true → ⊥
  at_rest q f at beside restless = elim (known.tracked f restless) [
    | inl t ↦ listed t.0 t.1 t.2
    | inr unreached ↦ unreached q at
  ]
    where
      listed : (p : Route) → Among dirty p → find (current log) p ≡ Some f → ⊥
      listed p among there =
          let same = find-once (current log) known.guarded.tree p q f there at in
          elim (none p among) [
            | inl gone ↦ (let e : (let o : Option ℕ = None in o) ≡ Some f = sym (stat_missing (current log) p gone) ∙ there in let x : ⊥ = cc in x)
            | inr elsewhere ↦ elsewhere.2 (elsewhere.1 ∙ ap (mount_number (current log).mounts) (sym (ap (mount_of (current log)) same ∙ beside)))
          ]

  pub none_joint : IsUnjoined log up
  none_joint f g at = false_from_ne_true _ (λ joint. elim (joint_restless f g log.changes joint) [
    | inl own ↦ at_rest up f at refl own
    | inr other ↦ (let b = known.joint f g up joint at in at_rest b.path g b.at b.mount other)
  ])

  pub none_waits : (m : List ℕ) → name_waits log (m ∷ up) ≡ false
  none_waits m = by (find (current log) up) refl
    where
      no_more : (f : ℕ) → find (current log) up ≡ Some f → is_pending f m log.changes ≡ false
      no_more f at = false_from_ne_true _ (λ waits. elim (waits_for f m log.changes waits) [
        | inl own ↦ at_rest up f at refl own
        | inr other ↦ both_ways _ (none_joint f other.0 at) other.1
      ])

      by : (o : Option ℕ) → find (current log) up ≡ o → name_waits log (m ∷ up) ≡ false
      by None is = ap (λ x. option_map_or (λ f. is_pending f m log.changes) x false) is
      by (Some f) is = ap (λ x. option_map_or (λ f. is_pending f m log.changes) x false) is ∙ no_more f is

-- nor is the folder itself in doubt, nor one above it, where none lies on the mount of a folder on the way
pub way_sure : (told : HistoryFacts) (dirty : List Route) (marks : Marks) (log : CallLog) (up : Route) → IsKnown told dirty marks log → NoneOver (current log) up dirty → way_waits log up ≡ false
way_sure told dirty marks log [] known none = refl
way_sure told dirty marks log (name ∷ up) known none =
    let above : NoneOver (current log) up dirty = λ kept among. elim (none kept among) [ inl gone ↦ inl gone | inr off ↦ inr off.1 ] in
    ap (λ b. b || way_waits log up) (none_waits told dirty marks log up known (over_it (current log) up dirty above) name) ∙ way_sure told dirty marks log up known above
