-- Printed lines, and that they are read back.
use Rattle.std.proofs.Common.{◌≡◌, ◌≢◌, ℕ, zero, suc, ◌≤◌, ◌<◌, Bool, false, true, cond, ◌==◌, ◌||◌, ◌&&◌, List, [], ◌∷◌, ◌++◌, Option, Some, None, option_map, option_and_then, refl, ap, ◌∙◌, sym, arith, append_assoc, codes, ⊎_elim, encode_utf8}
use Rattle.std.specs.List.{flat_map, AllByRecursion}
use Rattle.std.proofs.lemmas.Bool.{cases_lt}
use Rattle.std.proofs.lemmas.List.{append-nil}
use Rattle.std.proofs.lemmas.Str.{encode_ascii}
use Rattle.text_scan.specs.HighBytes.{AreHigh}
use Rattle.text_scan.specs.Lines.{IsWithout, lines_of}
use Rattle.text_scan.proofs.HighLemmas.{encode-high}
use Rattle.text_scan.proofs.LineLemmas.{lines_of-cut}
use Rattle.hotlist.specs.declared.items.HotItem.{HotItem}
use Rattle.hotlist.specs.HotLists.{HotList, NoMore, AnEntry, AGroup, AreOneLine, before, is_within}
use Rattle.hotlist.specs.HotLines.{ParsedLine, EntryLine, GroupLine, EndLine, Parsed, ReadText, with_byte, up_to_quote, reading_of, LineReading, parsed_or_bad, alone, entry_behind_label, entry_line}
use Rattle.hotlist.specs.HotFiles.{lines_that_say, said_by, said_before}
use Rattle.hotlist.specs.Drafts.{with_said}
use Rattle.hotlist.specs.Printed.{escaped_byte, in_quotes, indent, entry_words, group_words, end_words, line_of, printed_list}
use Rattle.hotlist.proofs.ListLemmas.{IsItem, item_is}

differs : (a b : ℕ) → a ≢ b → (a == b) ≡ false
differs a b other = grind arith

-- a byte that is neither a quote nor a backslash stays
escaped-plain : (byte : ℕ) → byte ≢ 34 → byte ≢ 92 → escaped_byte byte ≡ byte ∷ []
escaped-plain byte quote backslash =
    ap (λ is. cond (is || byte == 92) (92 ∷ byte ∷ []) (byte ∷ [])) (differs byte 34 quote)
    ∙ ap (λ is. cond is (92 ∷ byte ∷ []) (byte ∷ [])) (differs byte 92 backslash)

escaped-high : (bytes : List ℕ) → AreHigh bytes → flat_map escaped_byte bytes ≡ bytes
escaped-high [] high = refl
escaped-high (byte ∷ bytes) high =
    ap (λ prefix. prefix ++ flat_map escaped_byte bytes) (escaped-plain byte (λ is. absurd (omega (arith, high.0))) (λ is. absurd (omega (arith, high.0))))
    ∙ ap (λ rest. byte ∷ rest) (escaped-high bytes high.1)

pub escaped-character : (character : ℕ) → character ≢ 34 → character ≢ 92 → flat_map escaped_byte (encode_utf8 character) ≡ encode_utf8 character
escaped-character character quote backslash =
    ⊎_elim (λ low. let one : encode_utf8 character ≡ character ∷ [] = encode_ascii character low in
    ap (flat_map escaped_byte) one ∙ ap (λ prefix. prefix ++ []) (escaped-plain character quote backslash) ∙ sym one)
    (λ high. escaped-high (encode_utf8 character) (encode-high character high)) (cases_lt character 128)

-- an indented line is its indent and the line
pub indent-append : (depth : ℕ) (line : List ℕ) → indent depth line ≡ indent depth [] ++ line
indent-append zero line = refl
indent-append (suc depth) line = ap (λ rest. 32 ∷ 32 ∷ rest) (indent-append depth line)

pub indent-more : (depth : ℕ) → indent depth [] ++ (32 ∷ 32 ∷ []) ≡ indent (suc depth) []
indent-more zero = refl
indent-more (suc depth) = ap (λ rest. 32 ∷ 32 ∷ rest) (indent-more depth)

-- an item before others
pub printed-before : (depth : ℕ) (item : HotItem) (others : HotList) → printed_list depth (before item others) ≡ printed_list depth (before item NoMore) ++ printed_list depth others
printed-before depth item others =
    ⊎_elim
    (λ (entry : (label : List ℕ) × (path : List ℕ) × ((others : HotList) → before item others ≡ AnEntry label path others)).
    ap (printed_list depth) (entry.2 others)
    ∙ ap (λ prefix. prefix ++ printed_list depth others) (sym (append-nil (line_of depth (entry_words entry.0 entry.1))))
    ∙ ap (λ list. printed_list depth list ++ printed_list depth others) (sym (entry.2 NoMore)))
    (λ (group : (label : List ℕ) × (items : HotList) × ((others : HotList) → before item others ≡ AGroup label items others)).
    ap (printed_list depth) (group.2 others)
    ∙ regrouped (line_of depth (group_words group.0)) (printed_list (suc depth) group.1) (line_of depth end_words) (printed_list depth others)
    ∙ ap (λ list. printed_list depth list ++ printed_list depth others) (sym (group.2 NoMore)))
    (item_is item)
  where
    regrouped : (a b c d : List ℕ) → a ++ (b ++ (c ++ d)) ≡ (a ++ (b ++ (c ++ []))) ++ d
    regrouped a b c d = simp (append_assoc, append-nil)

pub within-before : (room : ℕ) (item : HotItem) (others : HotList) → is_within room (before item others) ≡ (is_within room (before item NoMore) && is_within room others)
within-before room item others =
    ⊎_elim
    (λ (entry : (label : List ℕ) × (path : List ℕ) × ((others : HotList) → before item others ≡ AnEntry label path others)).
    ap (is_within room) (entry.2 others) ∙ ap (λ list. is_within room list && is_within room others) (sym (entry.2 NoMore)))
    (λ (group : (label : List ℕ) × (items : HotList) × ((others : HotList) → before item others ≡ AGroup label items others)).
    ap (is_within room) (group.2 others) ∙ of_group room group.0 group.1 ∙ ap (λ list. is_within room list && is_within room others) (sym (group.2 NoMore)))
    (item_is item)
  where
    of_group : (room : ℕ) (label : List ℕ) (items : HotList) → is_within room (AGroup label items others) ≡ (is_within room (AGroup label items NoMore) && is_within room others)
    of_group zero label items = refl
    of_group (suc room) label items = go (is_within room items)
      where
        go : (inner : Bool) → (inner && is_within (suc room) others) ≡ ((inner && true) && is_within (suc room) others)
        go true = refl
        go false = refl

-- an escaped text is read up to its quote
up_to_quote-escaped : (text rest : List ℕ) → up_to_quote false (flat_map escaped_byte text ++ 34 ∷ rest) ≡ Some (record { text = text; rest = rest })
up_to_quote-escaped [] rest = refl
up_to_quote-escaped (byte ∷ text) rest = go (byte == 34) (byte == 92) refl refl (up_to_quote-escaped text rest)
  where
    go : (quote backslash : Bool) → (byte == 34) ≡ quote → (byte == 92) ≡ backslash
        → up_to_quote false (flat_map escaped_byte text ++ 34 ∷ rest) ≡ Some (record { text = text; rest = rest })
        → up_to_quote false ((cond (quote || backslash) (92 ∷ byte ∷ []) (byte ∷ []) ++ flat_map escaped_byte text) ++ 34 ∷ rest)
        ≡ Some (record { text = byte ∷ text; rest = rest })
    go true backslash is_quote is_backslash read =
        ap (λ is. cond (is || byte == 92) (with_byte byte (up_to_quote false (flat_map escaped_byte text ++ 34 ∷ rest))) None) is_quote ∙ ap (with_byte byte) read
    go false true is_quote is_backslash read =
        ap (λ is. cond (is || byte == 92) (with_byte byte (up_to_quote false (flat_map escaped_byte text ++ 34 ∷ rest))) None) is_quote
        ∙ ap (λ is. cond is (with_byte byte (up_to_quote false (flat_map escaped_byte text ++ 34 ∷ rest))) None) is_backslash ∙ ap (with_byte byte) read
    go false false is_quote is_backslash read =
        ap (λ is. cond is (Some (record { text = []; rest = flat_map escaped_byte text ++ 34 ∷ rest }))
        (cond (byte == 92) (up_to_quote true (flat_map escaped_byte text ++ 34 ∷ rest)) (with_byte byte (up_to_quote false (flat_map escaped_byte text ++ 34 ∷ rest))))) is_quote
        ∙ ap (λ is. cond is (up_to_quote true (flat_map escaped_byte text ++ 34 ∷ rest)) (with_byte byte (up_to_quote false (flat_map escaped_byte text ++ 34 ∷ rest)))) is_backslash
        ∙ ap (with_byte byte) read

-- each printed line is read as what it was printed for
reading_of-indent : (depth : ℕ) (line : List ℕ) → reading_of (indent depth line) ≡ reading_of line
reading_of-indent zero line = refl
reading_of-indent (suc depth) line = reading_of-indent depth line

reading_of-entry : (depth : ℕ) (label path : List ℕ) → reading_of (indent depth (entry_words label path)) ≡ Parsed (EntryLine label path)
reading_of-entry depth label path =
    reading_of-indent depth (entry_words label path)
    ∙ ap (λ read. parsed_or_bad (option_and_then entry_behind_label read)) (up_to_quote-escaped label (codes " URL " ++ in_quotes path []))
    ∙ ap (λ read. parsed_or_bad (option_and_then (λ (path : ReadText). alone (EntryLine label path.text) path.rest) read)) (up_to_quote-escaped path [])

reading_of-group : (depth : ℕ) (label : List ℕ) → reading_of (indent depth (group_words label)) ≡ Parsed (GroupLine label)
reading_of-group depth label =
    reading_of-indent depth (group_words label)
    ∙ ap (λ read. parsed_or_bad (option_and_then (λ (label : ReadText). alone (GroupLine label.text) label.rest) read)) (up_to_quote-escaped label [])

reading_of-end : (depth : ℕ) → reading_of (indent depth end_words) ≡ Parsed EndLine
reading_of-end depth = reading_of-indent depth end_words

-- no printed line holds a newline
without-append : (first second : List ℕ) → IsWithout 10 first → IsWithout 10 second → IsWithout 10 (first ++ second)
without-append [] second a b = b
without-append (byte ∷ first) second a b = (a.0, without-append first second a.1 b)

without-escaped : (text : List ℕ) → IsWithout 10 text → IsWithout 10 (flat_map escaped_byte text)
without-escaped [] without = tt
without-escaped (byte ∷ text) without = without-append (escaped_byte byte) (flat_map escaped_byte text) (one (byte == 34 || byte == 92)) (without-escaped text without.1)
  where
    one : (special : Bool) → IsWithout 10 (cond special (92 ∷ byte ∷ []) (byte ∷ []))
    one true = (refl, (without.0, tt))
    one false = (without.0, tt)

without-quotes : (text others : List ℕ) → IsWithout 10 text → IsWithout 10 others → IsWithout 10 (in_quotes text others)
without-quotes text others a b = (refl, without-append (flat_map escaped_byte text) (34 ∷ others) (without-escaped text a) (refl, b))

without-indent : (depth : ℕ) (line : List ℕ) → IsWithout 10 line → IsWithout 10 (indent depth line)
without-indent zero line without = without
without-indent (suc depth) line without = (refl, (refl, without-indent depth line without))

without-entry : (label path : List ℕ) → IsWithout 10 label → IsWithout 10 path → IsWithout 10 (entry_words label path)
without-entry label path a b = (
  refl,
  (
    refl,
    (
      refl,
      (
        refl,
        (
          refl,
          (
            refl,
            without-quotes label (codes " URL " ++ in_quotes path []) a
                (refl, (refl, (refl, (refl, (refl, without-quotes path [] b tt))))),
          ),
        ),
      ),
    ),
  ),
)

without-group : (label : List ℕ) → IsWithout 10 label → IsWithout 10 (group_words label)
without-group label a = (refl, (refl, (refl, (refl, (refl, (refl, without-quotes label [] a tt))))))

without-end : IsWithout 10 end_words
without-end = (refl, (refl, (refl, (refl, (refl, (refl, (refl, (refl, tt))))))))

-- a line before others, read and said
said-line : (depth : ℕ) (words others : List ℕ) (line : ParsedLine) → IsWithout 10 words → reading_of (indent depth words) ≡ Parsed line
    → said_by (lines_of (line_of depth words ++ others)) ≡ option_map (λ lines. line ∷ lines) (said_by (lines_of others))
said-line depth words others line without is =
    ap (λ text. said_by (lines_of text)) (append_assoc (indent depth words) (10 ∷ []) others)
    ∙ ap said_by (lines_of-cut (indent depth words) others (without-indent depth words without))
    ∙ ap (λ reading. said_before reading (said_by (lines_of others))) is

pushed : (prefix : List ParsedLine) (line : ParsedLine) (others : Option (List ParsedLine)) → option_map (λ lines. line ∷ lines) (with_said prefix others) ≡ with_said (line ∷ prefix) others
pushed prefix line None = refl
pushed prefix line (Some lines) = refl

nothing_said : (others : Option (List ParsedLine)) → others ≡ with_said [] others
nothing_said None = refl
nothing_said (Some lines) = refl

in_front : (first second : List ParsedLine) (others : Option (List ParsedLine)) → with_said first (with_said second others) ≡ with_said (first ++ second) others
in_front first second None = refl
in_front first second (Some lines) = ap Some (sym (append_assoc first second lines))

-- printed lines say the list
said-printed : (depth : ℕ) (list : HotList) (others : List ℕ) → AreOneLine list
    → said_by (lines_of (printed_list depth list ++ others)) ≡ with_said (lines_that_say list) (said_by (lines_of others))
said-printed depth NoMore others one = nothing_said (said_by (lines_of others))
said-printed depth (AnEntry label path rest) others one =
    ap (λ text. said_by (lines_of text)) (append_assoc (line_of depth (entry_words label path)) (printed_list depth rest) others)
    ∙ said-line depth (entry_words label path) (printed_list depth rest ++ others) (EntryLine label path) (without-entry label path one.0 one.1) (reading_of-entry depth label path)
    ∙ ap (option_map (λ lines. EntryLine label path ∷ lines)) (said-printed depth rest others one.2)
    ∙ pushed (lines_that_say rest) (EntryLine label path) (said_by (lines_of others))
said-printed depth (AGroup label items rest) others one =
    let ends = line_of depth end_words ++ (printed_list depth rest ++ others) in
    ap (λ text. said_by (lines_of text)) (regrouped (line_of depth (group_words label)) (printed_list (suc depth) items) (line_of depth end_words) (printed_list depth rest) others)
    ∙ said-line depth (group_words label) (printed_list (suc depth) items ++ ends) (GroupLine label) (without-group label one.0) (reading_of-group depth label)
    ∙ ap (option_map (λ lines. GroupLine label ∷ lines))
    (said-printed (suc depth) items ends one.1
    ∙ ap (with_said (lines_that_say items))
    (said-line depth end_words (printed_list depth rest ++ others) EndLine without-end (reading_of-end depth)
    ∙ ap (option_map (λ lines. EndLine ∷ lines)) (said-printed depth rest others one.2)
    ∙ pushed (lines_that_say rest) EndLine (said_by (lines_of others)))
    ∙ in_front (lines_that_say items) (EndLine ∷ lines_that_say rest) (said_by (lines_of others)))
    ∙ pushed (lines_that_say items ++ EndLine ∷ lines_that_say rest) (GroupLine label) (said_by (lines_of others))
  where
    regrouped : (a b c d e : List ℕ) → (a ++ (b ++ (c ++ d))) ++ e ≡ a ++ (b ++ (c ++ (d ++ e)))
    regrouped a b c d e = simp append_assoc

pub said-whole : (list : HotList) → AreOneLine list → said_by (lines_of (printed_list 0 list)) ≡ Some (lines_that_say list)
said-whole list one =
    ap (λ text. said_by (lines_of text)) (sym (append-nil (printed_list 0 list))) ∙ said-printed 0 list [] one ∙ ap Some (append-nil (lines_that_say list))

-- the pieces of each line as they are put
pub entry-pieces : (old : List ℕ) (depth : ℕ) (label path : List ℕ)
    → (((((old ++ indent depth []) ++ codes "ENTRY \"") ++ flat_map escaped_byte label) ++ codes "\" URL \"") ++ flat_map escaped_byte path) ++ codes "\"\n"
    ≡ old ++ line_of depth (entry_words label path)
entry-pieces old depth label path = rw (indent-append depth (entry_words label path)) (simp append_assoc)

pub group-pieces : (old : List ℕ) (depth : ℕ) (label : List ℕ)
    → (((old ++ indent depth []) ++ codes "GROUP \"") ++ flat_map escaped_byte label) ++ codes "\"\n" ≡ old ++ line_of depth (group_words label)
group-pieces old depth label = rw (indent-append depth (group_words label)) (simp append_assoc)

pub end-pieces : (old : List ℕ) (depth : ℕ) → (old ++ indent depth []) ++ codes "ENDGROUP\n" ≡ old ++ line_of depth end_words
end-pieces old depth = rw (indent-append depth end_words) (simp append_assoc)
