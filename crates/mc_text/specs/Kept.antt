-- The bytes of a file name's text, which lies in the value itself or on the heap.
use Rattle.std.specs.Prelude.{ℕ, List, string_bytes}
use Rattle.mc_text.specs.declared.name.NameText.{NameText}
use Rattle.mc_text.specs.declared.name.NameText.TheVariants.{Short, Long}

abbrev pub bytes_in : NameText → List ℕ
bytes_in (Short text) = text.bytes
bytes_in (Long text) = string_bytes text
