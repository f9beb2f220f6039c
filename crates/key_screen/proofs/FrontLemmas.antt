-- what begins the front of a key is the front of a key, and no front has more than 18 bytes
use Rattle.std.proofs.Common.{◌≡◌, ◌≢◌, ℕ, ◌≤◌, ◌+◌, ◌-◌, Bool, true, false, ◌&&◌, ◌==◌, if◌then◌else◌, nat_lt, List, [], ◌∷◌, ◌++◌, length, refl, arith, length-append}
use Rattle.std.proofs.lemmas.Bool.Decides.{nat_tests}
use Rattle.key_screen.specs.KeySpelling.{spelling_of, escape_spelling, character, sequence, letter, last_tail, two_tails, second_of_three, second_of_four, ends, is_tail, is_second, is_within, joined_code}
use Rattle.key_screen.specs.declared.keys.Key.{Key}
use Rattle.key_screen.specs.declared.spelling.Spelling.{Spelling}
use Rattle.key_screen.specs.declared.spelling.Spelling.TheVariants.{Partial, Broken}

-- what a choice of two spellings is, one of them is
chosen : {P : Type 0} (test : Bool) (x y s : Spelling) → (if test then x else y) ≡ s → (x ≡ s → P) → (y ≡ s → P) → P
chosen true x y s is if_x if_y = if_x is
chosen false x y s is if_x if_y = if_y is

-- where both of two longer spellings leave a partial shorter one, so does a choice of them
both : (test : Bool) (x y x' y' : Spelling) → (if test then x else y) ≢ Broken
    → (x ≢ Broken → x' ≡ Partial) → (y ≢ Broken → y' ≡ Partial) → (if test then x' else y') ≡ Partial
both true x y x' y' is if_x if_y = if_x is
both false x y x' y' is if_x if_y = if_y is

-- a whole key is never partial
ends-not_partial : {P : Type 0} (k : Key) (bytes : List ℕ) → ends k bytes ≡ Partial → P
ends-not_partial k [] is = absurd (cc)
ends-not_partial k (byte ∷ bytes) is = absurd (cc)

-- and no byte follows it
ends-last : {P : Type 0} (k : Key) (a b : List ℕ) (next : ℕ) → ends k (a ++ next ∷ b) ≢ Broken → P
ends-last k [] b next is = absurd (is refl)
ends-last k (byte ∷ a) b next is = absurd (is refl)

last_tail-front : (meta : Bool) (code : ℕ) (a b : List ℕ) (next : ℕ) → last_tail meta code (a ++ next ∷ b) ≢ Broken → last_tail meta code a ≡ Partial
last_tail-front meta code [] b next is = refl
last_tail-front meta code (byte ∷ a) b next is = both (is_tail byte) _ _ _ _ is (ends-last _ a b next) (λ broken. absurd (broken refl))

two_tails-front : (meta : Bool) (code : ℕ) (a b : List ℕ) (next : ℕ) → two_tails meta code (a ++ next ∷ b) ≢ Broken → two_tails meta code a ≡ Partial
two_tails-front meta code [] b next is = refl
two_tails-front meta code (byte ∷ a) b next is = both (is_tail byte) _ _ _ _ is (last_tail-front meta (joined_code code byte) a b next) (λ broken. absurd (broken refl))

second_of_three-front : (meta : Bool) (first : ℕ) (a b : List ℕ) (next : ℕ)
    → second_of_three meta first (a ++ next ∷ b) ≢ Broken → second_of_three meta first a ≡ Partial
second_of_three-front meta first [] b next is = refl
second_of_three-front meta first (byte ∷ a) b next is =
    both (is_second first byte) _ _ _ _ is (last_tail-front meta (joined_code (first - 224) byte) a b next) (λ broken. absurd (broken refl))

second_of_four-front : (meta : Bool) (first : ℕ) (a b : List ℕ) (next : ℕ)
    → second_of_four meta first (a ++ next ∷ b) ≢ Broken → second_of_four meta first a ≡ Partial
second_of_four-front meta first [] b next is = refl
second_of_four-front meta first (byte ∷ a) b next is =
    both (is_second first byte) _ _ _ _ is (two_tails-front meta (joined_code (first - 240) byte) a b next) (λ broken. absurd (broken refl))

character-front : (meta : Bool) (first : ℕ) (a b : List ℕ) (next : ℕ) → character meta first (a ++ next ∷ b) ≢ Broken → character meta first a ≡ Partial
character-front meta first a b next is =
    both (nat_lt first 128) _ _ _ _ is (ends-last _ a b next) (λ is2.
    both (is_within 194 223 first) _ _ _ _ is2 (last_tail-front meta (first - 192) a b next) (λ is3.
    both (is_within 224 239 first) _ _ _ _ is3 (second_of_three-front meta first a b next) (λ is4.
    both (is_within 240 244 first) _ _ _ _ is4 (second_of_four-front meta first a b next) (ends-last _ a b next))))

sequence-front : (read a b : List ℕ) (next : ℕ) → sequence read (a ++ next ∷ b) ≢ Broken → sequence read a ≡ Partial
sequence-front read [] b next is = refl
sequence-front read (byte ∷ a) b next is =
    both (is_within 64 126 byte) _ _ _ _ is (ends-last _ a b next) (λ is2.
    both (is_within 48 63 byte && nat_lt (length read) 16) _ _ _ _ is2 (sequence-front (read ++ byte ∷ []) a b next) (λ broken. absurd (broken refl)))

letter-front : (a b : List ℕ) (next : ℕ) → letter (a ++ next ∷ b) ≢ Broken → letter a ≡ Partial
letter-front [] b next is = refl
letter-front (byte ∷ a) b next is = both (is_within 64 126 byte) _ _ _ _ is (ends-last _ a b next) (λ broken. absurd (broken refl))

escaped-front : (a b : List ℕ) (next : ℕ) → escape_spelling (a ++ next ∷ b) ≢ Broken → escape_spelling a ≡ Partial
escaped-front [] b next is = refl
escaped-front (byte ∷ a) b next is =
    both (byte == 27) _ _ _ _ is (ends-last _ a b next) (λ is2.
    both (byte == 91) _ _ _ _ is2 (sequence-front [] a b next) (λ is3.
    both (byte == 79) _ _ _ _ is3 (letter-front a b next) (λ is4.
    both (byte == 48) _ _ _ _ is4 (ends-last _ a b next) (λ is5.
    both (is_within 49 57 byte) _ _ _ _ is5 (ends-last _ a b next) (character-front true byte a b next)))))

-- what begins a key, or the front of one, is the front of a key
pub spelling_of-front : (a b : List ℕ) (next : ℕ) → spelling_of (a ++ next ∷ b) ≢ Broken → spelling_of a ≡ Partial
spelling_of-front [] b next is = refl
spelling_of-front (byte ∷ a) b next is = both (byte == 27) _ _ _ _ is (escaped-front a b next) (character-front false byte a b next)

last_tail-short : (meta : Bool) (code : ℕ) (bytes : List ℕ) → last_tail meta code bytes ≡ Partial → length bytes ≤ 0
last_tail-short meta code [] is = omega arith
last_tail-short meta code (byte ∷ bytes) is = chosen (is_tail byte) _ _ _ is (ends-not_partial _ _) (λ never. absurd (cc))

two_tails-short : (meta : Bool) (code : ℕ) (bytes : List ℕ) → two_tails meta code bytes ≡ Partial → length bytes ≤ 1
two_tails-short meta code [] is = omega arith
two_tails-short meta code (byte ∷ bytes) is =
    chosen (is_tail byte) _ _ _ is (λ partial. omega (arith, last_tail-short meta (joined_code code byte) bytes partial)) (λ never. absurd (cc))

second_of_three-short : (meta : Bool) (first : ℕ) (bytes : List ℕ) → second_of_three meta first bytes ≡ Partial → length bytes ≤ 1
second_of_three-short meta first [] is = omega arith
second_of_three-short meta first (byte ∷ bytes) is =
    chosen (is_second first byte) _ _ _ is (λ partial. omega (arith, last_tail-short meta (joined_code (first - 224) byte) bytes partial)) (λ never. absurd (cc))

second_of_four-short : (meta : Bool) (first : ℕ) (bytes : List ℕ) → second_of_four meta first bytes ≡ Partial → length bytes ≤ 2
second_of_four-short meta first [] is = omega arith
second_of_four-short meta first (byte ∷ bytes) is =
    chosen (is_second first byte) _ _ _ is (λ partial. omega (arith, two_tails-short meta (joined_code (first - 240) byte) bytes partial)) (λ never. absurd (cc))

character-short : (meta : Bool) (first : ℕ) (bytes : List ℕ) → character meta first bytes ≡ Partial → length bytes ≤ 2
character-short meta first bytes is =
    chosen (nat_lt first 128) _ _ _ is (ends-not_partial _ _) (λ is2.
    chosen (is_within 194 223 first) _ _ _ is2 (λ two. omega (arith, last_tail-short meta (first - 192) bytes two)) (λ is3.
    chosen (is_within 224 239 first) _ _ _ is3 (λ three. omega (arith, second_of_three-short meta first bytes three)) (λ is4.
    chosen (is_within 240 244 first) _ _ _ is4 (second_of_four-short meta first bytes) (ends-not_partial _ _))))

-- one more parameter, if there is room for it
one_more : (read bytes : List ℕ) (byte : ℕ) (test less : Bool) → nat_lt (length read) 16 ≡ less
    → (if test && less then sequence (read ++ byte ∷ []) bytes else Broken) ≡ Partial
    → (length (read ++ byte ∷ []) ≤ 16 → sequence (read ++ byte ∷ []) bytes ≡ Partial → length (read ++ byte ∷ []) + length bytes ≤ 16)
    → length read + length (byte ∷ bytes) ≤ 16
one_more read bytes byte true true less is shorter =
    let fits : length (read ++ byte ∷ []) ≤ 16 = simp length-append (grind (arith, nat_tests)) in
    omega (arith, simp length-append at (shorter fits is))
one_more read bytes byte true false less is shorter = absurd (cc)
one_more read bytes byte false less' less is shorter = absurd (cc)

-- a sequence has no more than 16 parameters
sequence-short : (read bytes : List ℕ) → length read ≤ 16 → sequence read bytes ≡ Partial → length read + length bytes ≤ 16
sequence-short read [] room is = omega arith
sequence-short read (byte ∷ bytes) room is =
    chosen (is_within 64 126 byte) _ _ _ is (ends-not_partial _ _) (λ is2.
    one_more read bytes byte (is_within 48 63 byte) (nat_lt (length read) 16) refl is2 (sequence-short (read ++ byte ∷ []) bytes))

letter-short : (bytes : List ℕ) → letter bytes ≡ Partial → length bytes ≤ 0
letter-short [] is = omega arith
letter-short (byte ∷ bytes) is = chosen (is_within 64 126 byte) _ _ _ is (ends-not_partial _ _) (λ never. absurd (cc))

escaped-short : (bytes : List ℕ) → escape_spelling bytes ≡ Partial → length bytes ≤ 17
escaped-short [] is = omega arith
escaped-short (byte ∷ bytes) is =
    chosen (byte == 27) _ _ _ is (ends-not_partial _ _) (λ is2.
    chosen (byte == 91) _ _ _ is2 (λ numbers. omega (arith, sequence-short [] bytes (omega arith) numbers)) (λ is3.
    chosen (byte == 79) _ _ _ is3 (λ one. omega (arith, letter-short bytes one)) (λ is4.
    chosen (byte == 48) _ _ _ is4 (ends-not_partial _ _) (λ is5.
    chosen (is_within 49 57 byte) _ _ _ is5 (ends-not_partial _ _) (λ text. omega (arith, character-short true byte bytes text))))))

-- no front of a key has more than 18 bytes
pub spelling_of-short : (bytes : List ℕ) → spelling_of bytes ≡ Partial → length bytes ≤ 18
spelling_of-short [] is = omega arith
spelling_of-short (byte ∷ bytes) is =
    chosen (byte == 27) _ _ _ is (λ escape. omega (arith, escaped-short bytes escape)) (λ text. omega (arith, character-short false byte bytes text))

-- a byte alone is a key or the front of one
pub spelling_of-one : {P : Type 0} (byte : ℕ) → spelling_of (byte ∷ []) ≡ Broken → P
spelling_of-one byte is =
    chosen (byte == 27) _ _ _ is (λ never. absurd (cc)) (λ is2.
    chosen (nat_lt byte 128) _ _ _ is2 (λ never. absurd (cc)) (λ is3.
    chosen (is_within 194 223 byte) _ _ _ is3 (λ never. absurd (cc)) (λ is4.
    chosen (is_within 224 239 byte) _ _ _ is4 (λ never. absurd (cc)) (λ is5.
    chosen (is_within 240 244 byte) _ _ _ is5 (λ never. absurd (cc)) (λ never. absurd (cc))))))
