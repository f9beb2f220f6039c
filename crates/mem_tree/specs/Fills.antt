-- What a file with unsynced writes holds after a crash.
use Rattle.std.specs.Prelude.{ℕ, List, [], length, replicate}
use Rattle.mem_tree.specs.declared.choice.Fill.{Fill}
use Rattle.mem_tree.specs.declared.choice.Fill.TheVariants.{Written, Nothing, Zeros, Junk}

-- what is left of the bytes that were written
abbrev pub filled_bytes : Fill → List ℕ → List ℕ
filled_bytes Written bytes = bytes
filled_bytes Nothing bytes = []
filled_bytes Zeros bytes = replicate (length bytes) 0
filled_bytes (Junk byte) bytes = replicate (length bytes) byte
