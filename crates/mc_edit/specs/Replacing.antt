-- What stands in a text once each place of some bytes has given way to others. Places are those that a
-- search from left to right finds when it goes on behind each (`matches` of `memchr`).
use Rattle.std.specs.Prelude.{ℕ, ◌+◌, List, [], ◌∷◌, ◌++◌, length, slice_range}

-- what stands up to the end of the last place, from `from` on
abbrev pub replaced_run : List ℕ → List ℕ → List ℕ → ℕ → List ℕ → List ℕ
replaced_run text what new from [] = []
replaced_run text what new from (place ∷ places) =
    slice_range text from place ++ (new ++ replaced_run text what new (place + length what) places)

-- where the last place ends
abbrev pub last_end : List ℕ → ℕ → List ℕ → ℕ
last_end what from [] = from
last_end what from (place ∷ places) = last_end what (place + length what) places
