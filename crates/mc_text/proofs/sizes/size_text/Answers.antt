-- The first text that fits is returned.
use Rattle.std.proofs.Common.{◌≡◌, ◌<◌, ◌≤◌, [], max, map, drop, length, get_or, ap, sym, ◌∙◌, arith}
use Rattle.std.proofs.lemmas.Grind.{common_steps}
use Rattle.std.specs.Fmt.{decimal}
use Rattle.std.specs.String.{string_bytes}
use Rattle.mc_text.specs.declared.sizes.Unit.{Unit}
use Rattle.mc_text.specs.declared.sizes.TheConstants.{UNITS}
use Rattle.mc_text.specs.Sizes.{size_text, unit_texts, first_within}
use Rattle.mc_text.proofs.Units.{text_in, texts-all, text_in-written, first_within-fits, first_within-passes, first_within-next, some_fits}
use Rattle.mc_text.proofs.sizes.size_text.Goals as goal

no_unit : Unit
no_unit = record { bytes = 0; letter = 0 }

pub returns-then-len-room-clause-text : goal.returns-then-len-room-clause-text
unfolding size_text
returns-then-len-room-clause-text c =
    let fits : length (decimal c.args.size) ≤ max c.args.columns 4 = grind (arith, common_steps) in
    c.in_ok-bytes.ensures.ok ∙ sym (first_within-fits (max c.args.columns 4) (decimal c.args.size) (unit_texts c.args.size) fits)

pub returns-then-len-room-2-clause-text : goal.returns-then-len-room-2-clause-text
unfolding size_text no_unit
returns-then-len-room-2-clause-text c =
    let here = c.loop-unit.invariant in
    let room = c.max-room.result in
    let i = c.loop-unit.unit-index in
    let text = text_in c.args.size (get_or UNITS i no_unit) in
    let is : string_bytes c.in_ok-text.text ≡ text = c.in_ok-text.ensures.ok ∙ text_in-written c.args.size i no_unit c.loop-unit-test.true in
    let fits : length text ≤ room = rw (← is) (grind (arith, common_steps)) in
    let passes : max c.args.columns 4 < length (decimal c.args.size) = omega (arith, here.bytes, here.room) in
    rw (first_within-passes (max c.args.columns 4) (decimal c.args.size) (unit_texts c.args.size) passes, ← here.room)
    (is ∙ sym (sym here.units ∙ first_within-next room c.args.size i no_unit c.loop-unit-test.true ∙ first_within-fits room text _ fits))

pub loop-unit-init : goal.loop-unit-init
loop-unit-init c =
    record {
      room = grind (arith, common_steps);
      bytes = grind (arith, common_steps);
      units = ap (first_within c.max-room.result) (texts-all c.args.size);
    }

pub loop-unit-preserved : goal.loop-unit-preserved
unfolding no_unit
loop-unit-preserved c =
    let here = c.loop-unit.invariant in
    let room = c.max-room.result in
    let i = c.loop-unit.unit-index in
    let text = text_in c.args.size (get_or UNITS i no_unit) in
    let is : string_bytes c.in_ok-text.text ≡ text = c.in_ok-text.ensures.ok ∙ text_in-written c.args.size i no_unit c.loop-unit-test.true in
    let passes : room < length text = rw (← is) (grind (arith, common_steps)) in
    record {
      room = here.room;
      bytes = here.bytes;
      units = sym (first_within-next room c.args.size i no_unit c.loop-unit-test.true ∙ first_within-passes room text _ passes) ∙ here.units;
    }

pub unreachable-requires : goal.unreachable-requires
unreachable-requires c =
    let here = c.loop-unit.invariant in
    let none : drop c.loop-unit.unit-index UNITS ≡ [] = grind (arith, common_steps) in
    let room : 4 ≤ c.max-room.result = omega (arith, here.room) in
    let some = some_fits c.max-room.result c.args.size (omega arith) room in
    let empty : first_within c.max-room.result (unit_texts c.args.size) ≡ [] =
    sym here.units ∙ ap (λ units. first_within c.max-room.result (map (text_in c.args.size) units)) none in
    omega (arith, some, ap length empty)
