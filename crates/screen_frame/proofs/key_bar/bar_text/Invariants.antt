-- what is put and what is still to be put make up the key bar
use Rattle.std.proofs.Common.{◌≡◌, ◌+◌, ◌++◌, map, drop, string_bytes}
use Rattle.screen_frame.specs.KeyBars.{labels_of, labelled_keys}
use Rattle.screen_frame.proofs.key_bar.bar_text.Given as goal

abbrev pub invariant-loop-index : goal.invariant-loop-index
invariant-loop-index l =
    string_bytes l.text ++ labelled_keys (l.index + 1) (map (λ label. label.now) (drop l.index l.label-items))
    ≡ labelled_keys 1 (labels_of l.fn.bar)
