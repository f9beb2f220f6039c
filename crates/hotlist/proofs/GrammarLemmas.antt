-- Lines without a fault are balanced, and balanced lines say one list.
use Rattle.std.proofs.Common.{◌≡◌, ◌≢◌, ℕ, zero, suc, ◌+◌, ◌<◌, Bool, false, true, cond, ◌&&◌, List, [], ◌∷◌, ◌++◌, length, reverse, Option, Some, None, is_none, option_map, Result, Ok, Err, IfOk, IfErr, MatchResult, refl, ap, ◌∙◌, sym, subst, append_assoc, arith, drop}
use Rattle.std.specs.List.{slice_get}
use Rattle.std.proofs.lemmas.List.{append-nil, reverse-append, length-append}
use Rattle.std.specs.Str.{IsUtf8, is_utf8}
use Rattle.std.specs.Str.Lossy.{utf8_valid_len}
use Rattle.std.proofs.lemmas.Str.{is_utf8-from_IsUtf8, IsUtf8-from_is_utf8}
use Rattle.text_scan.specs.Lines.{lines_of}
use Rattle.hotlist.specs.declared.error.HotError.{HotError}
use Rattle.hotlist.specs.declared.error.HotError.TheVariants.{NotText, BadLine, TooDeep, UnclosedGroup, Memory}
use Rattle.hotlist.specs.HotLists.{HotList, NoMore, AnEntry, AGroup, is_within}
use Rattle.hotlist.specs.HotLines.{ParsedLine, EntryLine, GroupLine, EndLine, LineReading, Passed, Parsed, Bad, reading_of}
use Rattle.hotlist.specs.HotFiles.{lines_that_say, said_before, said_by, IsHotlist, outermost, fault_at, fault_from, hotlist_fault}

-- groups are ended, none but those that were begun, and nested within the room
abbrev is_balanced : ℕ → ℕ → List ParsedLine → Bool
is_balanced room zero [] = true
is_balanced room (suc unclosed) [] = false
is_balanced room unclosed (EntryLine label path ∷ lines) = is_balanced room unclosed lines
is_balanced zero unclosed (GroupLine label ∷ lines) = false
is_balanced (suc room) unclosed (GroupLine label ∷ lines) = is_balanced room (suc unclosed) lines
is_balanced room zero (EndLine ∷ lines) = false
is_balanced room (suc unclosed) (EndLine ∷ lines) = is_balanced (suc room) unclosed lines

-- lines have no fault exactly where what they say is balanced
pub faultless-balanced : (lines : List (List ℕ)) (at room : ℕ) (unclosed : List ℕ) (said : List ParsedLine) → said_by lines ≡ Some said
    → is_none (fault_from at lines room unclosed) ≡ is_balanced room (length unclosed) said
faultless-balanced [] at room [] [] is = refl
faultless-balanced [] at room (line ∷ unclosed) [] is = refl
faultless-balanced [] at room unclosed (first ∷ said) is = absurd (cc)
faultless-balanced (line ∷ lines) at room unclosed said is = go (reading_of line) is (said_by lines) refl room unclosed (faultless-balanced lines (at + 1))
  where
    behind : ℕ → List ℕ → Option HotError
    behind = fault_from (at + 1) lines

    go : (reading : LineReading) → said_before reading (said_by lines) ≡ Some said
        → (others : Option (List ParsedLine)) → said_by lines ≡ others → (room : ℕ) (unclosed : List ℕ)
        → ((room : ℕ) (unclosed : List ℕ) (said : List ParsedLine) → said_by lines ≡ Some said
        → is_none (fault_from (at + 1) lines room unclosed) ≡ is_balanced room (length unclosed) said)
        → is_none (fault_at reading at room unclosed (fault_from (at + 1) lines)) ≡ is_balanced room (length unclosed) said
    go Passed e others is room unclosed hyp = hyp room unclosed said e
    go Bad e others is room unclosed hyp = absurd (cc)
    go (Parsed line) e None is room unclosed hyp = let none : None ≡ Some said = sym (ap (said_before (Parsed line)) is) ∙ e in absurd (cc)
    go (Parsed line) e (Some more) is room unclosed hyp =
        let whole : line ∷ more ≡ said = some_same _ _ (sym (ap (said_before (Parsed line)) is) ∙ e) in
        subst (λ all. is_none (fault_at (Parsed line) at room unclosed (fault_from (at + 1) lines)) ≡ is_balanced room (length unclosed) all) whole
        (said_one line room unclosed hyp)
      where
        some_same : (a b : List ParsedLine) → Some a ≡ Some b → a ≡ b
        some_same a b same = cc

        said_one : (line : ParsedLine) (room : ℕ) (unclosed : List ℕ)
            → ((room : ℕ) (unclosed : List ℕ) (said : List ParsedLine) → said_by lines ≡ Some said
            → is_none (fault_from (at + 1) lines room unclosed) ≡ is_balanced room (length unclosed) said)
            → is_none (fault_at (Parsed line) at room unclosed (fault_from (at + 1) lines)) ≡ is_balanced room (length unclosed) (line ∷ more)
        said_one (EntryLine label path) room unclosed hyp = hyp room unclosed more is
        said_one (GroupLine label) zero unclosed hyp = refl
        said_one (GroupLine label) (suc room) unclosed hyp = hyp room (at ∷ unclosed) more is
        said_one EndLine room [] hyp = refl
        said_one EndLine room (first ∷ unclosed) hyp = hyp (suc room) unclosed more is

and_assoc : (a b c : Bool) → (a && (b && c)) ≡ ((a && b) && c)
and_assoc true b c = refl
and_assoc false b c = refl

-- the lines of a list are balanced where it is nested within the room
within-balanced : (list : HotList) (room unclosed : ℕ) (more : List ParsedLine)
    → is_balanced room unclosed (lines_that_say list ++ more) ≡ (is_within room list && is_balanced room unclosed more)
within-balanced NoMore room unclosed more = refl
within-balanced (AnEntry label path others) room unclosed more = within-balanced others room unclosed more
within-balanced (AGroup label items others) zero unclosed more = refl
within-balanced (AGroup label items others) (suc room) unclosed more =
    ap (is_balanced room (suc unclosed)) (append_assoc (lines_that_say items) (EndLine ∷ lines_that_say others) more)
    ∙ within-balanced items room (suc unclosed) (EndLine ∷ (lines_that_say others ++ more))
    ∙ ap (λ rest. is_within room items && rest) (within-balanced others (suc room) unclosed more)
    ∙ and_assoc (is_within room items) (is_within (suc room) others) (is_balanced (suc room) unclosed more)

and_true : (a : Bool) → (a && true) ≡ a
and_true true = refl
and_true false = refl

list-balanced : (list : HotList) → is_balanced 32 0 (lines_that_say list) ≡ is_within 32 list
list-balanced list =
    ap (is_balanced 32 0) (sym (append-nil (lines_that_say list))) ∙ within-balanced list 32 0 [] ∙ and_true (is_within 32 list)

none_is : (fault : Option HotError) → is_none fault ≡ true → fault ≡ None
none_is None is = refl
none_is (Some fault) is = absurd (cc)

-- lines without a fault that say a list say one that is nested to at most 32, and the other way round
pub nested-faultless : (lines : List (List ℕ)) (list : HotList) → fault_from 1 lines 32 [] ≡ None → said_by lines ≡ Some (lines_that_say list) → is_within 32 list ≡ true
nested-faultless lines list faultless says =
    sym (list-balanced list) ∙ sym (faultless-balanced lines 1 32 [] (lines_that_say list) says) ∙ ap is_none faultless

faultless-nested : (lines : List (List ℕ)) (list : HotList) → said_by lines ≡ Some (lines_that_say list) → is_within 32 list ≡ true → fault_from 1 lines 32 [] ≡ None
faultless-nested lines list says nested =
    none_is (fault_from 1 lines 32 []) (faultless-balanced lines 1 32 [] (lines_that_say list) says ∙ list-balanced list ∙ nested)

-- lines that can't go on a list: none, or an end
abbrev Stops : List ParsedLine → Type 0
Stops [] = Unit {0}
Stops (EntryLine label path ∷ lines) = ⊥
Stops (GroupLine label ∷ lines) = ⊥
Stops (EndLine ∷ lines) = Unit {0}

-- lines say one list
one_list : (a b : HotList) (x y : List ParsedLine) → Stops x → Stops y → lines_that_say a ++ x ≡ lines_that_say b ++ y → (a ≡ b) × (x ≡ y)
one_list NoMore NoMore x y sx sy is = (refl, is)
one_list NoMore (AnEntry label path others) x y sx sy is = absurd (subst Stops is sx)
one_list NoMore (AGroup label items others) x y sx sy is = absurd (subst Stops is sx)
one_list (AnEntry label path others) NoMore x y sx sy is = absurd (subst Stops (sym is) sy)
one_list (AGroup label items others) NoMore x y sx sy is = absurd (subst Stops (sym is) sy)
one_list (AnEntry label path others) (AGroup label' items' others') x y sx sy is = absurd (cc)
one_list (AGroup label items others) (AnEntry label' path' others') x y sx sy is = absurd (cc)
one_list (AnEntry label path others) (AnEntry label' path' others') x y sx sy is =
    let rest : lines_that_say others ++ x ≡ lines_that_say others' ++ y = cc in
    let found = one_list others others' x y sx sy rest in
    let same_label : label ≡ label' = cc in
    let same_path : path ≡ path' = cc in
    let same_others : others ≡ others' = found.0 in
    (cc, found.1)
one_list (AGroup label items others) (AGroup label' items' others') x y sx sy is =
    let same_label : label ≡ label' = cc in
    let inside : (lines_that_say items ++ EndLine ∷ lines_that_say others) ++ x ≡ (lines_that_say items' ++ EndLine ∷ lines_that_say others') ++ y = cc in
    let regrouped : lines_that_say items ++ (EndLine ∷ (lines_that_say others ++ x)) ≡ lines_that_say items' ++ (EndLine ∷ (lines_that_say others' ++ y)) =
    sym (append_assoc (lines_that_say items) (EndLine ∷ lines_that_say others) x) ∙ inside
    ∙ append_assoc (lines_that_say items') (EndLine ∷ lines_that_say others') y in
    let inner = one_list items items' (EndLine ∷ (lines_that_say others ++ x)) (EndLine ∷ (lines_that_say others' ++ y)) tt tt regrouped in
    let same_items : items ≡ items' = inner.0 in
    let ends : EndLine ∷ (lines_that_say others ++ x) ≡ EndLine ∷ (lines_that_say others' ++ y) = inner.1 in
    let rest : lines_that_say others ++ x ≡ lines_that_say others' ++ y = cc in
    let outer = one_list others others' x y sx sy rest in
    let same_others : others ≡ others' = outer.0 in
    (cc, outer.1)

same_lists : (a b : HotList) → lines_that_say a ≡ lines_that_say b → a ≡ b
same_lists a b is = (one_list a b [] [] tt tt (append-nil (lines_that_say a) ∙ is ∙ sym (append-nil (lines_that_say b)))).0

-- only want of memory keeps bytes of a list from being read as it
memory : (e : HotError) → (e ≢ Memory → ⊥) → e ≡ Memory
memory Memory other = refl
memory (NotText at) other = absurd (other (λ is. cc))
memory (BadLine line) other = absurd (other (λ is. cc))
memory (TooDeep line) other = absurd (other (λ is. cc))
memory (UnclosedGroup line) other = absurd (other (λ is. cc))

pub read_alone : {A : Type 0} (view : A → HotList) (bytes : List ℕ) (list : HotList) (r : Result A HotError) → IfOk r (λ read. IsHotlist bytes (view read))
    → IfErr r (λ e. e ≢ Memory → hotlist_fault bytes ≡ Some e) → IsHotlist bytes list → MatchResult r (λ read. view read ≡ list) (λ e. e ≡ Memory)
read_alone view bytes list (Ok read) ok err is = same_lists (view read) list (let both : Some (lines_that_say (view read)) ≡ Some (lines_that_say list) = sym ok.said ∙ is.said in cc)
read_alone view bytes list (Err e) ok err is = memory e (λ other.
    let text : is_utf8 bytes ≡ true = is_utf8-from_IsUtf8 bytes is.text in
    let none : hotlist_fault bytes ≡ None =
    ap (λ test. cond test (fault_from 1 (lines_of bytes) 32 []) (Some (NotText (utf8_valid_len bytes)))) text ∙ faultless-nested (lines_of bytes) list is.said is.nested in
    let some : hotlist_fault bytes ≡ Some e = err other in
    let clash : None ≡ Some e = sym none ∙ some in cc)

-- the outermost group is the first that was begun
outermost-last : (lines : List ℕ) (line : ℕ) → outermost (lines ++ line ∷ []) ≡ line
outermost-last [] line = refl
outermost-last (first ∷ []) line = refl
outermost-last (first ∷ second ∷ lines) line = outermost-last (second ∷ lines) line

pub fault-unclosed : (at room line : ℕ) (lines : List ℕ) → fault_from at [] room (reverse (line ∷ lines)) ≡ Some (UnclosedGroup line)
fault-unclosed at room line lines =
    ap (fault_from at [] room) (reverse-append (line ∷ []) lines) ∙ unclosed (reverse lines ++ line ∷ []) (outermost-last (reverse lines) line) (omega (arith, length-append (reverse lines) (line ∷ [])))
  where
    unclosed : (lines : List ℕ) → outermost lines ≡ line → 0 < length lines → fault_from at [] room lines ≡ Some (UnclosedGroup line)
    unclosed [] is some = absurd (omega arith)
    unclosed (first ∷ lines) is some = ap (λ l. Some (UnclosedGroup l)) is

-- what a file's text means by its lines
pub hotlist_fault-text : (bytes : List ℕ) → IsUtf8 bytes → hotlist_fault bytes ≡ fault_from 1 (lines_of bytes) 32 []
hotlist_fault-text bytes text =
    ap (λ test. cond test (fault_from 1 (lines_of bytes) 32 []) (Some (NotText (utf8_valid_len bytes)))) (is_utf8-from_IsUtf8 bytes text)

pub hotlist_fault-no_text : (bytes : List ℕ) → ¬ (IsUtf8 bytes) → hotlist_fault bytes ≡ Some (NotText (utf8_valid_len bytes))
hotlist_fault-no_text bytes none = go (is_utf8 bytes) refl
  where
    go : (test : Bool) → is_utf8 bytes ≡ test → cond test (fault_from 1 (lines_of bytes) 32 []) (Some (NotText (utf8_valid_len bytes))) ≡ Some (NotText (utf8_valid_len bytes))
    go true is = absurd (none (IsUtf8-from_is_utf8 bytes is))
    go false is = refl

-- a list with a first member
pub first_is : {A : Type 0} (items : List A) (first : A) → Some first ≡ slice_get items 0 → items ≡ first ∷ drop 1 items
first_is [] first is = absurd (cc)
first_is (item ∷ items) first is = let same : item ≡ first = cc in ap (λ f. f ∷ items) same
