-- The text is its two halves, and the least place in it is the first.
use Rattle.std.proofs.Common.{◌≡◌, ◌++◌, ℕ, ◌<◌, List, length, arith, subst, sym, ap, ◌∙◌, take, take-append-drop}
use Rattle.std.proofs.lemmas.Bool.{eqb-false}
use Rattle.gap_text.specs.Places.{IsLeastPlace}
use Rattle.gap_text.proofs.FirstPlaceLemmas.{first_place-from_least}
use Rattle.gap_text.proofs.gap.GapBuffer.find.Goals as goal

pub returns-clause-found : goal.returns-clause-found
returns-clause-found c =
    let text = c.args.self.now.bytes in
    let bytes = c.args.bytes.now in
    let point = c.args.self.now.point in
    let halves : c.front.result.now ++ c.back.result.now ≡ text =
    ap (λ l. l ++ c.back.result.now) c.front.ensures ∙ ap (λ l. take point text ++ l) c.back.ensures
    ∙ take-append-drop point text in
    let least = subst (λ (l : List ℕ). IsLeastPlace l bytes c.args.from c.place_in_halves.result) halves c.place_in_halves.ensures in
    let some : 0 < length bytes = omega (arith, eqb-false (length bytes) 0 (sym c.is_empty.ensures ∙ c.if-is_empty.false)) in
    first_place-from_least text bytes c.args.from c.place_in_halves.result some least
