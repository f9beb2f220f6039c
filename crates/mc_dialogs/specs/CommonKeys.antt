-- The keys that all boxes have in common (mc(1), "Input Line Keys": Esc and F10 cancel).
use Rattle.std.specs.Prelude.{ℕ, Bool, true, false, ◌==◌}
use Rattle.key_screen.specs.declared.keys.Base.{Base}
use Rattle.key_screen.specs.declared.keys.Base.TheVariants.{Escape, F}

-- a key cancels a box
abbrev pub cancels : Base → Bool
cancels Escape = true
cancels (F n) = n == 10
cancels base = false
