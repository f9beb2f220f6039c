-- A thing that is carried to another mount: it is copied, the copy and its name are brought onto the disk,
-- and only then the source is removed, while others work.
use Rattle.std.specs.Prelude.{◌≡◌, ◌⊎◌, ℕ, ⊤, List, [], ◌∷◌, Some}
use Rattle.mc_text.specs.Routes.{Route}
use Rattle.tree_trait.specs.FileSystem.{find}
use Rattle.tree_trait.specs.Change.{Change, CallLog, current, with_change}
use Rattle.laws_crash.specs.Guarded.{IsGuarded, IsNaming, IsQuiet, IsSettledAt, IsUnder, Marks}
use Rattle.laws_crash.specs.Whole.{IsWhole}

-- a change of whichever job, and what is known as it is made
pub record Made : Type 0 where
  pub marks : Marks
  pub change : Change

-- it changes names, and none on the way to the path; or it changes no name at all
abbrev pub KeepsOff : Route → CallLog → Made → Type 0
KeepsOff path log m = IsGuarded m.marks log
    × ((IsNaming m.marks log m.change × (IsUnder log m.change path → ⊥)) ⊎ IsQuiet m.marks log m.change)

-- all of these do, one after another
abbrev pub AllKeepOff : Route → CallLog → List Made → Type 0
AllKeepOff path log [] = ⊤
AllKeepOff path log (m ∷ more) = KeepsOff path log m × AllKeepOff path (with_change log m.change) more

abbrev pub after_all : CallLog → List Made → CallLog
after_all log [] = log
after_all log (m ∷ more) = after_all (with_change log m.change) more

-- at each moment of them
abbrev pub Always : (CallLog → Type 0) → CallLog → List Made → Type 0
Always Holds log [] = Holds log
Always Holds log (m ∷ more) = Holds log × Always Holds (with_change log m.change) more

-- at each moment each crash leaves the thing at its source, or the copy at its target
abbrev pub StaysWhole : Route → ℕ → Route → ℕ → CallLog → List Made → Type 0
StaysWhole source i target k log changes = Always (λ l. IsWhole l source i target k) log changes

-- Until its copy is on the disk at the target nobody changes the source, its own job neither; and from then
-- on nobody the target. Then at each moment each crash leaves the thing at its source, or the copy at its
-- target.
pub record CarriedLaw : Type 0 where
  -- while it is copied: the source stands where it is settled
  pub copied : (log : CallLog) (source target : Route) (i k : ℕ) (changes : List Made)
      → IsSettledAt log source → find (current log) source ≡ Some i → AllKeepOff source log changes
      → StaysWhole source i target k log changes
  -- from when the target is settled, by the syncs of the copy and of its folder, whatever becomes of the
  -- source
  pub removed : (log : CallLog) (source target : Route) (i k : ℕ) (changes : List Made)
      → IsSettledAt log target → find (current log) target ≡ Some k → AllKeepOff target log changes
      → StaysWhole source i target k log changes
  -- so it is throughout: what is done first keeps off the source, and what is done later off the target
  pub throughout : (log : CallLog) (source target : Route) (i k : ℕ) (first later : List Made)
      → IsSettledAt log source → find (current log) source ≡ Some i → AllKeepOff source log first
      → IsSettledAt (after_all log first) target → find (current (after_all log first)) target ≡ Some k
      → AllKeepOff target (after_all log first) later
      → StaysWhole source i target k log first × StaysWhole source i target k (after_all log first) later
