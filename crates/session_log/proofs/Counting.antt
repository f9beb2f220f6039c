-- A history begins no more jobs than it has entries.
use Rattle.std.proofs.Common.{◌≡◌, ℕ, ◌+◌, ◌^◌, ◌≤◌, Fits, w64, List, [], ◌∷◌, ◌++◌, length, reverse, refl, ap, ◌∙◌, arith}
use Rattle.std.proofs.lemmas.List.{reverse-append}
use Rattle.session_entries.specs.declared.history.Event.{Event}
use Rattle.session_entries.specs.declared.history.Event.TheVariants.{Key, Look, Sought, Began, Order, Step, Next, Closed}
use Rattle.session_entries.specs.declared.history.Entry.{Entry}
use Rattle.session_log.specs.Logs.{begun_by, jobs_begun}

one_begun : (what : Event) → begun_by what ≤ 1
one_begun (Key key now refusals lost) = omega arith
one_begun (Look refusals) = omega arith
one_begun Sought = omega arith
one_begun (Began id plan background) = omega arith
one_begun (Order id order) = omega arith
one_begun (Step id did) = omega arith
one_begun (Next id plan) = omega arith
one_begun Closed = omega arith

pub few_begun : (entries : List Entry) → jobs_begun entries ≤ length entries
few_begun [] = omega arith
few_begun (e ∷ more) = let one = one_begun e.what in let few = few_begun more in omega (arith, one, few)

jobs_begun-append : (entries more : List Entry) → jobs_begun (entries ++ more) ≡ jobs_begun entries + jobs_begun more
jobs_begun-append [] more = omega arith
jobs_begun-append (e ∷ entries) more = let rest = jobs_begun-append entries more in omega (arith, rest)

-- from the other end as many are counted
pub turned : (entries : List Entry) → jobs_begun (reverse entries) ≡ jobs_begun entries
turned [] = refl
turned (e ∷ more) =
    let rest = turned more in
    let last = jobs_begun-append (reverse more) (e ∷ []) in
    ap jobs_begun (reverse-append (e ∷ []) more) ∙ omega (arith, rest, last)

-- the jobs that were begun, and one more, are a number of 64 bits, since no history has more entries than 2^56
pub fits_begun : (started more count : ℕ) (what : Event) (entries : List Entry) → started ≡ jobs_begun entries → more ≡ begun_by what → count ≡ length entries → count ≤ 2 ^ 56 → Fits w64 (started + more)
fits_begun started more count what entries counted one is few = let begun = few_begun entries in let each = one_begun what in omega (arith, counted, one, is, few, begun, each)
