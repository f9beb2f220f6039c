-- The first blank cuts a text into its first word and what stands behind it.
use Rattle.std.proofs.Common.{◌≡◌, ◌≢◌, ℕ, zero, suc, ◌+◌, ◌<◌, ◌≤◌, Bool, true, false, eqb, List, [], ◌∷◌, ◌++◌, length, get_or, take, drop, Option, None, refl, ap, ◌∙◌, sym, arith, subst}
use Rattle.std.proofs.Math.Seq.{take-append_seam, drop-append-add, take-length}
use Rattle.std.proofs.lemmas.Bool.Decides.{nat_tests}
use Rattle.std.proofs.lemmas.Str.Pattern.{NoCharPasses-char, drop_at_char}
use Rattle.std.proofs.lemmas.List.{take-append-drop}
use Rattle.std.specs.Char.{char_set_contains}
use Rattle.std.specs.List.{AllByRecursion, position_or_len, before_first, after_first}
use Rattle.std.specs.Str.{NonePass, NoCharPasses}
use Rattle.std.specs.Str.Pattern.{FindsBy, SplitsAroundMatch}
use Rattle.text_scan.specs.Words.{is_blank}

-- no byte of a text is a blank or tab
abbrev pub IsUnbroken : List ℕ → Type 0
IsUnbroken text = AllByRecursion (λ byte. is_blank byte ≡ false) text

abbrev blanks : List ℕ
blanks = 32 ∷ 9 ∷ []

no_blank : (c : ℕ) → char_set_contains blanks c ≡ false → eqb c 32 ≡ false
no_blank c none = grind (arith, nat_tests)

no_tab : (c : ℕ) → char_set_contains blanks c ≡ false → eqb c 9 ≡ false
no_tab c none = grind (arith, nat_tests)

neither : (c : ℕ) → c ≢ 32 → c ≢ 9 → is_blank c ≡ false
neither c blank tab = grind (arith, nat_tests)

either : (c : ℕ) → char_set_contains blanks c ≡ true → is_blank c ≡ true
either c is = grind (arith, nat_tests)

small : (c : ℕ) → char_set_contains blanks c ≡ true → c < 128
small c is = grind (arith, nat_tests)

none_pass : (p q : ℕ → Bool) → ((c : ℕ) → p c ≡ false → q c ≡ false) → (cs : List ℕ) → NonePass p cs → NonePass q cs
none_pass p q weaker [] none = tt
none_pass p q weaker (c ∷ cs) none = (weaker c none.0, none_pass p q weaker cs none.1)

unbroken_by_place : (text : List ℕ) → ((i : ℕ) → i < length text → is_blank (get_or text i 0) ≡ false) → IsUnbroken text
unbroken_by_place [] each = tt
unbroken_by_place (byte ∷ text) each = (each 0 (omega arith), unbroken_by_place text (λ i below. each (suc i) (omega arith)))

unbroken : (text : List ℕ) → NoCharPasses (char_set_contains blanks) text → IsUnbroken text
unbroken text (cs, spelled, none) =
    let no_blanks : NoCharPasses (λ d. eqb d 32) text = (cs, spelled, none_pass (char_set_contains blanks) (λ d. eqb d 32) no_blank cs none) in
    let no_tabs : NoCharPasses (λ d. eqb d 9) text = (cs, spelled, none_pass (char_set_contains blanks) (λ d. eqb d 9) no_tab cs none) in
    unbroken_by_place text (λ i below.
    neither (get_or text i 0) (NoCharPasses-char 32 text i no_blanks (omega arith) below) (NoCharPasses-char 9 text i no_tabs (omega arith) below))

pub position-unbroken : (text : List ℕ) → IsUnbroken text → position_or_len is_blank text ≡ length text
position-unbroken [] none = refl
position-unbroken (byte ∷ text) none = let ih = position-unbroken text none.1 in rw none.0 (omega (arith, ih))

pub position-blank : (word behind : List ℕ) (blank : ℕ) → IsUnbroken word → is_blank blank ≡ true
    → position_or_len is_blank (word ++ blank ∷ behind) ≡ length word
position-blank [] behind blank none is = rw is refl
position-blank (byte ∷ word) behind blank none is = let ih = position-blank word behind blank none.1 is in rw none.0 (omega (arith, ih))

-- a blank behind a word cuts there
pub cut_at : (text word behind : List ℕ) (blank : ℕ) → text ≡ word ++ blank ∷ behind → IsUnbroken word → is_blank blank ≡ true
    → (word ≡ before_first is_blank text) × (behind ≡ after_first is_blank text)
cut_at text word behind blank parts none is =
    let at : position_or_len is_blank text ≡ length word = ap (position_or_len is_blank) parts ∙ position-blank word behind blank none is in (
      sym (ap (λ n. take n text) at ∙ ap (take (length word)) parts ∙ take-append_seam word (blank ∷ behind)),
      sym (ap (λ n. drop (n + 1) text) at ∙ ap (drop (length word + 1)) parts ∙ drop-append-add word (blank ∷ behind) 1),
    )

drop_far : (text : List ℕ) (n : ℕ) → length text ≤ n → drop n text ≡ []
drop_far [] zero far = refl
drop_far [] (suc n) far = refl
drop_far (byte ∷ text) zero far = absurd (omega arith)
drop_far (byte ∷ text) (suc n) far = drop_far text n (omega arith)

-- a text without blanks is a word
pub uncut : (text : List ℕ) → IsUnbroken text → (text ≡ before_first is_blank text) × ([] ≡ after_first is_blank text)
uncut text none =
    let at = position-unbroken text none in (
      sym (ap (λ n. take n text) at ∙ take-length text),
      sym (ap (λ n. drop (n + 1) text) at ∙ drop_far text (length text + 1) (omega arith)),
    )

-- where a search for a blank or tab ends
abbrev pub Finds : List ℕ → Option (ℕ × ℕ) → Type 0
Finds text found = (k : ℕ → Bool) → ((c : ℕ) → char_set_contains blanks c ≡ k c) → FindsBy k text found

pub cut_none : (text : List ℕ) → Finds text None → (text ≡ before_first is_blank text) × ([] ≡ after_first is_blank text)
cut_none text found = uncut text (unbroken text (found (char_set_contains blanks) (λ c. refl)))

pub cut_some : (text word behind : List ℕ) → SplitsAroundMatch Finds text word behind
    → (word ≡ before_first is_blank text) × (behind ≡ after_first is_blank text)
cut_some text word behind split =
    let i = split.0 in
    let found = split.2 (char_set_contains blanks) (λ c. refl) in
    let blank = found.1.0 in
    let parts : text ≡ word ++ blank ∷ behind =
    sym (take-append-drop i text)
    ∙ ap (λ prefix. prefix ++ drop i text) (sym split.3)
    ∙ ap (λ back. word ++ back) (drop_at_char blank text i split.1 found.1.2 (small blank found.1.1) ∙ ap (λ back. blank ∷ back) (sym split.4)) in
    cut_at text word behind blank parts (subst IsUnbroken (sym split.3) (unbroken (take i text) found.0)) (either blank found.1.1)
