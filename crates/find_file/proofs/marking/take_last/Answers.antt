-- The last of the names that were found is the last of all names, or that one wasn't found.
use Rattle.std.proofs.Common.{◌≡◌, ◌-◌, length, take, sym, ap, ◌∙◌}
use Rattle.std.specs.Prelude.{vec_len}
use Rattle.find_file.proofs.Marks.{last_is, last-found, found-taken, found-left}
use Rattle.find_file.proofs.marking.take_last.Goals as goal

pub returns-then-is_last : goal.returns-then-is_last
returns-then-is_last c = λ finds before is.
    let found = c.args.found.now.items in
    let name = c.args.name.now in
    let marked : c.is_last-is_last.result ≡ finds name =
    c.is_last-is_last.ensures ∙ (ap (last_is finds name) c.as_slice.ensures.value ∙ last-found finds name found before is) in
    let count : vec_len c.args.found.now ≡ length found = sym c.as_slice.ensures.len ∙ ap length c.as_slice.ensures.value in (
      marked,
      c.pop-found.ensures.rest ∙ (ap (λ n. take (n - 1) found) count ∙ found-taken finds name found before is (sym marked ∙ c.if-is_last.true)),
    )

pub returns-else-is_last : goal.returns-else-is_last
returns-else-is_last c = λ finds before is.
    let found = c.args.found.now.items in
    let name = c.args.name.now in
    let marked : c.is_last-is_last.result ≡ finds name =
    c.is_last-is_last.ensures ∙ (ap (last_is finds name) c.as_slice.ensures.value ∙ last-found finds name found before is) in
    (marked, found-left finds name found before is (sym marked ∙ c.if-is_last.false))
