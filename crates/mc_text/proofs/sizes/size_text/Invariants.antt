-- None of the units so far fits.
use Rattle.std.proofs.Common.{◌≡◌, ◌<◌, max, map, drop, length}
use Rattle.std.specs.Fmt.{decimal}
use Rattle.mc_text.specs.Sizes.{unit_texts, first_within}
use Rattle.mc_text.proofs.Units.{text_in}
use Rattle.mc_text.proofs.sizes.size_text.Given as goal

abbrev pub invariant-loop-unit : goal.invariant-loop-unit
invariant-loop-unit l =
    record {
      room : l.room ≡ max l.columns 4;
      bytes : l.room < length (decimal l.size);
      units : first_within l.room (map (text_in l.size) (drop l.unit-index l.unit-items)) ≡ first_within l.room (unit_texts l.size);
    }
