-- A hotlist as its file is printed (own): a line for each entry, and for the begin and the end of each
-- group, with two blanks for each group around it and one blank between words.
use Rattle.std.specs.Prelude.{ℕ, zero, suc, Bool, ◌==◌, ◌||◌, if◌then◌else◌, List, [], ◌∷◌, ◌++◌, codes}
use Rattle.std.specs.List.{flat_map}
use Rattle.hotlist.specs.HotLists.{HotList, NoMore, AnEntry, AGroup}

-- a backslash before a quote and a backslash
abbrev pub escaped_byte : ℕ → List ℕ
escaped_byte byte = if byte == 34 || byte == 92 then 92 ∷ byte ∷ [] else byte ∷ []

-- a text in quotes, before others
abbrev pub in_quotes : List ℕ → List ℕ → List ℕ
in_quotes text others = 34 ∷ (flat_map escaped_byte text ++ 34 ∷ others)

-- two blanks for each group around a line
abbrev pub indent : ℕ → List ℕ → List ℕ
indent zero line = line
indent (suc depth) line = 32 ∷ 32 ∷ indent depth line

abbrev pub entry_words : List ℕ → List ℕ → List ℕ
entry_words label path = codes "ENTRY " ++ in_quotes label (codes " URL " ++ in_quotes path [])

abbrev pub group_words : List ℕ → List ℕ
group_words label = codes "GROUP " ++ in_quotes label []

abbrev pub end_words : List ℕ
end_words = codes "ENDGROUP"

-- a line with its newline
abbrev pub line_of : ℕ → List ℕ → List ℕ
line_of depth words = indent depth words ++ 10 ∷ []

-- a list with so many groups around it
abbrev pub printed_list : ℕ → HotList → List ℕ
printed_list depth NoMore = []
printed_list depth (AnEntry label path others) =
    line_of depth (entry_words label path) ++ printed_list depth others
printed_list depth (AGroup label items others) =
    line_of depth (group_words label)
    ++ (printed_list (suc depth) items ++ (line_of depth end_words ++ printed_list depth others))
