-- Text in quotes, byte by byte and character by character.
use Rattle.std.proofs.Common.{◌≡◌, ◌≢◌, ℕ, ◌≤◌, ◌<◌, Bool, false, true, cond, ◌==◌, ◌||◌, List, [], ◌∷◌, ◌++◌, Option, Some, None, refl, ap, ◌∙◌, sym, arith, ⊎_elim, encode_utf8, append_assoc}
use Rattle.std.proofs.lemmas.Str.{encode_ascii}
use Rattle.text_scan.proofs.HighLemmas.{encode-high}
use Rattle.std.proofs.lemmas.Bool.{cases_lt}
use Rattle.text_scan.specs.HighBytes.{AreHigh}
use Rattle.hotlist.specs.HotLines.{ReadText, with_byte, up_to_quote}
use Rattle.hotlist.specs.LineViews.{with_bytes}

differs : (a b : ℕ) → a ≢ b → (a == b) ≡ false
differs a b other = grind arith

pub with_bytes-append : (first second : List ℕ) (read : Option ReadText) → with_bytes (first ++ second) read ≡ with_bytes first (with_bytes second read)
with_bytes-append first second None = refl
with_bytes-append first second (Some read) = ap (λ text. Some (record { text = text; rest = read.rest })) (append_assoc first second read.text)

with_byte-bytes : (byte : ℕ) (bytes : List ℕ) (read : Option ReadText) → with_byte byte (with_bytes bytes read) ≡ with_bytes (byte ∷ bytes) read
with_byte-bytes byte bytes None = refl
with_byte-bytes byte bytes (Some read) = refl

with_bytes-none : (read : Option ReadText) → read ≡ with_bytes [] read
with_bytes-none None = refl
with_bytes-none (Some read) = refl

with_byte-one : (byte : ℕ) (read : Option ReadText) → with_byte byte read ≡ with_bytes (byte ∷ []) read
with_byte-one byte None = refl
with_byte-one byte (Some read) = refl

pub with_bytes-nil : (read : Option ReadText) → with_bytes [] read ≡ read
with_bytes-nil read = sym (with_bytes-none read)

-- a byte that is neither a quote nor a backslash
up_to_quote-byte : (byte : ℕ) (text : List ℕ) → byte ≢ 34 → byte ≢ 92 → up_to_quote false (byte ∷ text) ≡ with_byte byte (up_to_quote false text)
up_to_quote-byte byte text quote backslash =
    ap (λ is. cond is (Some (record { text = []; rest = text })) (cond (byte == 92) (up_to_quote true text) (with_byte byte (up_to_quote false text)))) (differs byte 34 quote)
    ∙ ap (λ is. cond is (up_to_quote true text) (with_byte byte (up_to_quote false text))) (differs byte 92 backslash)

up_to_quote-high : (bytes text : List ℕ) → AreHigh bytes → up_to_quote false (bytes ++ text) ≡ with_bytes bytes (up_to_quote false text)
up_to_quote-high [] text high = with_bytes-none (up_to_quote false text)
up_to_quote-high (byte ∷ bytes) text high =
    up_to_quote-byte byte (bytes ++ text) (below byte 34 high.0 (omega arith)) (below byte 92 high.0 (omega arith))
    ∙ ap (with_byte byte) (up_to_quote-high bytes text high.1) ∙ with_byte-bytes byte bytes (up_to_quote false text)
  where
    below : (b k : ℕ) → 128 ≤ b → k < 128 → b ≢ k
    below b k high low is = absurd (omega arith)

-- a character that is neither
pub up_to_quote-character : (character : ℕ) (text : List ℕ) → character ≢ 34 → character ≢ 92
    → up_to_quote false (encode_utf8 character ++ text) ≡ with_bytes (encode_utf8 character) (up_to_quote false text)
up_to_quote-character character text quote backslash =
    ⊎_elim (λ low. let one : encode_utf8 character ≡ character ∷ [] = encode_ascii character low in
    ap (λ bytes. up_to_quote false (bytes ++ text)) one ∙ up_to_quote-byte character text quote backslash
    ∙ with_byte-one character (up_to_quote false text) ∙ ap (λ bytes. with_bytes bytes (up_to_quote false text)) (sym one))
    (λ high. up_to_quote-high (encode_utf8 character) text (encode-high character high)) (cases_lt character 128)

-- a backslash before a quote or a backslash, and before anything else
pub up_to_quote-escaped : (byte : ℕ) (text : List ℕ) → (byte == 34 || byte == 92) ≡ true
    → up_to_quote false (92 ∷ byte ∷ text) ≡ with_bytes (byte ∷ []) (up_to_quote false text)
up_to_quote-escaped byte text is =
    ap (λ test. cond test (with_byte byte (up_to_quote false text)) None) is ∙ with_byte-one byte (up_to_quote false text)

pub up_to_quote-bad : (text : List ℕ) → ((rest : List ℕ) → text ≢ 34 ∷ rest) → ((rest : List ℕ) → text ≢ 92 ∷ rest) → up_to_quote false (92 ∷ text) ≡ None
up_to_quote-bad [] quote backslash = refl
up_to_quote-bad (byte ∷ text) quote backslash =
    ap (λ is. cond (is || byte == 92) (with_byte byte (up_to_quote false text)) None) (differs byte 34 (λ is. quote text (ap (λ b. b ∷ text) is)))
    ∙ ap (λ is. cond is (with_byte byte (up_to_quote false text)) None) (differs byte 92 (λ is. backslash text (ap (λ b. b ∷ text) is)))
