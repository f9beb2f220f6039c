-- Which folders a change in another one leaves alone: those that were removed, or lie on another mount.
use Rattle.std.specs.Prelude.{◌≡◌, ◌⊎◌, ℕ, Some}
use Rattle.mc_text.specs.Routes.{Route}
use Rattle.tree_trait.specs.declared.calls.TreeError.TheVariants.{Missing}
use Rattle.tree_trait.specs.Calls.{Stat}
use Rattle.tree_trait.specs.Change.{CallLog, current}
use Rattle.tree_trait.specs.Refusals.{refusal_of}
use Rattle.copy_move.specs.MountNumbers.{IsMountOf}

-- a folder lies on another mount than this one, or it was removed
abbrev pub IsApart : CallLog → Route → Route → Type 0
IsApart log folder other =
    (refusal_of (current log) (Stat other) ≡ Some Missing)
    ⊎ ((number : ℕ) × IsMountOf (current log) folder number × (IsMountOf (current log) other number → ⊥))
