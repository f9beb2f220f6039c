-- The word at the front of a text, and the columns of words.
use Rattle.std.proofs.Common.{◌≡◌, ℕ, suc, ◌+◌, ◌<◌, Bool, true, false, cond, not, ltb, List, [], ◌∷◌, ◌++◌, length, take, drop, Some, None, Result, Ok, Err, refl, sym, ap, subst, ◌∙◌, arith, append_assoc}
use Rattle.std.specs.Prelude.{◌||◌, ◌==◌}
use Rattle.std.specs.List.{position, position_or_len}
use Rattle.std.proofs.lemmas.Bool.{false≢true}
use borrow.Author.Tests.{eqb-true, ltb-false}
use Rattle.std.proofs.lemmas.List.{take_all}
use Rattle.panel_listing.specs.FormatTexts.{Word, separates, joins, with_byte, words_from, is_colon, before_colon, after_columns, columns_of, size_named, sized_format, format_in, format_of}
use Rattle.panel_listing.specs.Words.{word_size}
use Rattle.panel_listing.specs.declared.format.Column.{Column}
use Rattle.panel_listing.specs.declared.error.FormatError.{FormatError}
use Rattle.panel_listing.specs.declared.error.FormatError.TheVariants.{NoSize}

-- ---- words

abbrev pub word : ℕ → List ℕ → Word
word at text = record { at = at; text = text }

none_of : (separated bar : Bool) → not (separated || bar) ≡ true → separated ≡ false
none_of true bar h = absurd (false≢true h)
none_of false bar h = refl

-- a byte that is joined to the one before it doesn't stand between words
joined-inside : (byte next : ℕ) (rest : List ℕ) → joins byte (next ∷ rest) ≡ true → separates next ≡ false
joined-inside byte next rest = go (byte == 124)
  where
    go : (bar : Bool) → cond bar (next == 58) (not (separates next || (next == 124))) ≡ true → separates next ≡ false
    go true h = let is : next ≡ 58 = eqb-true next 58 h in subst (λ n. separates n ≡ false) (sym is) refl
    go false h = none_of (separates next) (next == 124) h

-- a byte before the word at the front of what is behind it
by_join : (at byte next : ℕ) (rest : List ℕ)
    → (separates next ≡ false → words_from (at + 1) (next ∷ rest) ≡ word (at + 1) (take (word_size (next ∷ rest)) (next ∷ rest))
    ∷ words_from (at + 1 + word_size (next ∷ rest)) (drop (word_size (next ∷ rest)) (next ∷ rest)))
    → (joined : Bool) → joins byte (next ∷ rest) ≡ joined
    → with_byte joined at byte (words_from (at + 1) (next ∷ rest))
    ≡ word at (take (cond joined (1 + word_size (next ∷ rest)) 1) (byte ∷ next ∷ rest))
    ∷ words_from (at + cond joined (1 + word_size (next ∷ rest)) 1) (drop (cond joined (1 + word_size (next ∷ rest)) 1) (byte ∷ next ∷ rest))
by_join at byte next rest later false is = refl
by_join at byte next rest later true is =
    let size = word_size (next ∷ rest) in
    let line = byte ∷ next ∷ rest in
    let place : at + 1 + size ≡ at + suc size = omega arith in
    let one_more : suc size ≡ 1 + size = omega arith in
    ap (with_byte true at byte) (later (joined-inside byte next rest is))
    ∙ ap (λ n. word at (byte ∷ take size (next ∷ rest)) ∷ words_from n (drop size (next ∷ rest))) place
    ∙ ap (λ n. word at (take n line) ∷ words_from (at + n) (drop n line)) one_more

-- the word that begins with a byte which doesn't stand between words
pub word-cut : (at byte : ℕ) (rest : List ℕ) → separates byte ≡ false
    → words_from at (byte ∷ rest) ≡ word at (take (word_size (byte ∷ rest)) (byte ∷ rest)) ∷ words_from (at + word_size (byte ∷ rest)) (drop (word_size (byte ∷ rest)) (byte ∷ rest))
word-cut at byte [] h = ap (λ (separated : Bool). cond separated [] (word at (byte ∷ []) ∷ [])) h
word-cut at byte (next ∷ rest) h =
    ap (λ separated. cond separated (words_from (at + 1) (next ∷ rest)) (with_byte (joins byte (next ∷ rest)) at byte (words_from (at + 1) (next ∷ rest)))) h
    ∙ by_join at byte next rest (word-cut (at + 1) next rest) (joins byte (next ∷ rest)) refl

-- such a word has a byte
pub word-some : (byte : ℕ) (rest : List ℕ) → 0 < word_size (byte ∷ rest)
word-some byte rest = go (joins byte rest)
  where
    go : (joined : Bool) → 0 < cond joined (1 + word_size rest) 1
    go true = omega arith
    go false = omega arith

-- the first word of a text, where what stands before it was passed over
pub next-words : (at from byte size : ℕ) (text rest behind prefix back : List ℕ) → words_from from rest ≡ words_from at text → rest ≡ byte ∷ behind
    → separates byte ≡ false → size ≡ word_size rest → prefix ≡ take size rest → back ≡ drop size rest → length prefix ≡ size
    → words_from at text ≡ word from prefix ∷ words_from (from + length prefix) back
next-words at from byte size text rest behind prefix back words is inside sized front_is back_is long =
    let line = byte ∷ behind in
    let n = word_size line in
    let size_is : n ≡ size = sym (sized ∙ ap word_size is) in
    let front_same : take n line ≡ prefix = ap (λ k. take k line) size_is ∙ ap (take size) (sym is) ∙ sym front_is in
    let back_same : drop n line ≡ back = ap (λ k. drop k line) size_is ∙ ap (drop size) (sym is) ∙ sym back_is in
    sym words ∙ ap (words_from from) is ∙ word-cut from byte behind inside
    ∙ ap (λ t. word from t ∷ words_from (from + n) (drop n line)) front_same
    ∙ ap (λ t. word from prefix ∷ words_from (from + n) t) back_same
    ∙ ap (λ k. word from prefix ∷ words_from (from + k) back) (size_is ∙ sym long)

-- ---- where a colon is found

found_at : (is : Bool) (first at : ℕ) → Some at ≡ cond is (Some first) None → first ≡ at
found_at true first at h = cc
found_at false first at h = absurd (cc)

found_not : (is : Bool) (first : ℕ) → None ≡ cond is (Some first) None → is ≡ false
found_not true first h = absurd (cc)
found_not false first h = refl

pub before-some : (word : List ℕ) (at : ℕ) → Some at ≡ position is_colon word → before_colon word ≡ take at word
before-some word at h = ap (λ n. take n word) (found_at (ltb (position_or_len is_colon word) (length word)) (position_or_len is_colon word) at h)

pub before-none : (word : List ℕ) → None ≡ position is_colon word → before_colon word ≡ word
before-none word h =
    let n = position_or_len is_colon word in
    let off : ltb n (length word) ≡ false = found_not (ltb n (length word)) n h in
    take_all n word (ltb-false n (length word) off)

-- ---- columns

pub columns-none : (columns : Result (List Column) FormatError) → after_columns [] columns ≡ columns
columns-none (Ok columns) = refl
columns-none (Err fault) = refl

-- a column more before those of what is left
pub columns-push : (prefix : List Column) (column : Column) (rest : Result (List Column) FormatError)
    → after_columns (prefix ++ column ∷ []) rest ≡ after_columns prefix (after_columns (column ∷ []) rest)
columns-push prefix column (Ok columns) = ap Ok (append_assoc prefix (column ∷ []) columns)
columns-push prefix column (Err fault) = refl

-- ---- the format of a text, by its first word

module _ (text : List ℕ) where
  pub format-none : words_from 0 text ≡ [] → format_of text ≡ Err (NoSize 0)
  unfolding format_of
  format-none none = ap format_in none

  module _ (first : Word) (rest : List Word) (words : words_from 0 text ≡ first ∷ rest) where
    pub format-unsized : size_named first.text ≡ None → format_of text ≡ Err (NoSize 0)
    unfolding format_of
    format-unsized size = ap format_in words ∙ ap (λ s. sized_format s (columns_of rest)) size

    pub format-fault : (full : Bool) (fault : FormatError) → size_named first.text ≡ Some full → columns_of rest ≡ Err fault → format_of text ≡ Err fault
    unfolding format_of
    format-fault full fault size columns = ap format_in words ∙ ap (λ s. sized_format s (columns_of rest)) size ∙ ap (sized_format (Some full)) columns

    pub format-read : (full : Bool) (columns : List Column) → size_named first.text ≡ Some full → columns_of rest ≡ Ok columns
        → format_of text ≡ Ok (record { full = full; columns = columns })
    unfolding format_of
    format-read full columns size read = ap format_in words ∙ ap (λ s. sized_format s (columns_of rest)) size ∙ ap (sized_format (Some full)) read
