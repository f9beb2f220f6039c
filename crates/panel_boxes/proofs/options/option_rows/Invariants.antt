-- the rows of the options so far
use Rattle.std.proofs.Common.{◌≡◌, map, take}
use Rattle.panel_boxes.specs.Choices.{all_options, option_words}
use Rattle.panel_boxes.proofs.options.option_rows.Given as goal

abbrev pub invariant-loop-option : goal.invariant-loop-option
invariant-loop-option l = l.rows ≡ map option_words (take l.option-index all_options)
