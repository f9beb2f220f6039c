-- What is carried is whole at its source until its target is on the disk, and at its target from then on.
use Rattle.std.proofs.Common.{◌≡◌, ℕ, List, [], ◌∷◌, sym, ◌∙◌, inl, inr, Some}
use Rattle.mc_text.specs.Routes.{Route}
use Rattle.tree_trait.specs.FileSystem.{find}
use Rattle.tree_trait.specs.Change.{CallLog, current, with_change}
use Rattle.laws_crash.specs.Guarded.{IsSettledAt}
use Rattle.laws_crash.specs.Whole.{IsWhole}
use Rattle.laws_crash.proofs.Guarding.{find_quiet, find_same, same_quiet}
use Rattle.laws_crash.proofs.Others.{others_law}
use Rattle.laws_crash.proofs.Wholeness.{whole_law}
use Rattle.laws_carry.specs.Carried.{AllKeepOff, Always, CarriedLaw, KeepsOff, Made, StaysWhole, after_all}

-- a path stays settled, and leads where it led
step : (p : Route) (i : ℕ) (log : CallLog) (m : Made) → KeepsOff p log m → IsSettledAt log p → find (current log) p ≡ Some i
    → IsSettledAt (with_change log m.change) p × (find (current (with_change log m.change)) p ≡ Some i)
step p i log m (guarded, inl (naming, off)) settled at = (
  others_law.settled m.marks log m.change p guarded naming off settled,
  elim (find_same log m.change p) [ inl same ↦ same ∙ at | inr under ↦ absurd (off under) ],
)
step p i log m (guarded, inr quiet) settled at =
    let same = same_quiet log m.change quiet.names p in
    (λ x found. settled x (find_quiet log m.change quiet.names p x found) ∙ sym same, same ∙ at)

-- so it does at each moment
always : (p : Route) (i : ℕ) (Holds : CallLog → Type 0) (log : CallLog) (all : List Made) → ((l : CallLog) → IsSettledAt l p → find (current l) p ≡ Some i → Holds l)
    → AllKeepOff p log all → IsSettledAt log p → find (current log) p ≡ Some i → Always Holds log all
always p i Holds log [] holds keep settled at = holds log settled at
always p i Holds log (m ∷ more) holds (keeps, keep) settled at =
    let s = step p i log m keeps settled at in (holds log settled at, always p i Holds (with_change log m.change) more holds keep s.0 s.1)

while_copied : (log : CallLog) (source target : Route) (i k : ℕ) (changes : List Made) → IsSettledAt log source → find (current log) source ≡ Some i → AllKeepOff source log changes
    → StaysWhole source i target k log changes
while_copied log source target i k changes settled at keep = always source i (λ l. IsWhole l source i target k) log changes (λ l s is. whole_law.before l source target i k s is) keep settled at

while_removed : (log : CallLog) (source target : Route) (i k : ℕ) (changes : List Made) → IsSettledAt log target → find (current log) target ≡ Some k → AllKeepOff target log changes
    → StaysWhole source i target k log changes
while_removed log source target i k changes settled at keep = always target k (λ l. IsWhole l source i target k) log changes (λ l s is. whole_law.after l source target i k s is) keep settled at

pub carried_law : CarriedLaw
carried_law = record {
  copied = while_copied;
  removed = while_removed;
  throughout = λ log source target i k first later settled at keep there leads stay. (
    while_copied log source target i k first settled at keep,
    while_removed (after_all log first) source target i k later there leads stay,
  );
}
