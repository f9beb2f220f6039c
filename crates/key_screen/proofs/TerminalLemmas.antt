-- how text is read, by whether it is UTF-8
use Rattle.std.proofs.Common.{◌≡◌, ℕ, ◌+◌, ◌<◌, ◌≤◌, zero, suc, Bool, true, false, ◌==◌, if◌then◌else◌, List, [], ◌∷◌, length, take, drop, get_or, arith, Ok, Err, refl, sym, ◌∙◌, ap, Result}
use Rattle.std.specs.Str.{is_utf8, IsUtf8}
use Rattle.std.specs.Str.Lossy.{utf8_valid_len}
use Rattle.std.proofs.lemmas.Str.{IsUtf8-from_is_utf8, is_utf8-from_IsUtf8}
use Rattle.std.proofs.lemmas.Bool.Decides.{nat_tests}
use Rattle.std.proofs.lemmas.List.{length-take-le, drop_more, drop-drop}
use Rattle.unicode_segmentation.specs.Grapheme.{graphemes}
use Rattle.key_screen.specs.declared.grid.GridError.{GridError}
use Rattle.key_screen.specs.declared.grid.GridError.TheVariants.{BadByte, Memory}
use Rattle.key_screen.specs.Terminal.{TerminalState, clusters_read, text_read, up_to_fault, in_front, segments, sequences_read, sequence_read, all_read, Reads}

-- a choice by a test that is known
choice-true : {A : Type 0} (test : Bool) (x y : A) → test ≡ true → (if test then x else y) ≡ x
choice-true test x y is = ap (λ t. if t then x else y) is

choice-false : {A : Type 0} (test : Bool) (x y : A) → (test ≡ true → ⊥) → (if test then x else y) ≡ y
choice-false true x y isnt = absurd (isnt refl)
choice-false false x y isnt = refl

-- text that is UTF-8
pub text_read-text : (t : TerminalState) (position : ℕ) (bytes text : List ℕ) → text ≡ bytes → IsUtf8 bytes
    → text_read t position bytes ≡ clusters_read t position (graphemes true text)
text_read-text t position bytes text same utf8 =
    choice-true (is_utf8 bytes) _ _ (is_utf8-from_IsUtf8 bytes utf8) ∙ ap (λ s. clusters_read t position (graphemes true s)) (sym same)

-- text that is UTF-8 up to a byte
pub text_read-front : (t : TerminalState) (position count : ℕ) (bytes : List ℕ) → (IsUtf8 bytes → ⊥) → count ≡ utf8_valid_len bytes
    → text_read t position bytes ≡ up_to_fault (clusters_read t position (graphemes true (take count bytes))) (position + count)
text_read-front t position count bytes no_utf8 same =
    choice-false (is_utf8 bytes) _ _ (λ is. no_utf8 (IsUtf8-from_is_utf8 bytes is))
    ∙ ap (λ n. up_to_fault (clusters_read t position (graphemes true (take n bytes))) (position + n)) (sym same)

-- what follows each escape, in bytes that begin with one
abbrev pub behind_escape : List ℕ → List (List ℕ)
behind_escape [] = []
behind_escape (escape ∷ bytes) = segments bytes

-- bytes are cut at their first escape
pub segments-first : (bytes : List ℕ) (at : ℕ) → at ≤ length bytes → ((k : ℕ) → k < at → get_or bytes k 0 ≡ 27 → ⊥)
    → (at < length bytes → get_or bytes at 0 ≡ 27) → segments bytes ≡ take at bytes ∷ behind_escape (drop at bytes)
segments-first [] zero within before found = refl
segments-first [] (suc at) within before found = absurd (omega arith)
segments-first (byte ∷ bytes) zero within before found =
    choice-true (byte == 27) ([] ∷ segments bytes) (in_front byte (segments bytes)) (let is : byte ≡ 27 = found (omega arith) in grind (arith, nat_tests))
segments-first (byte ∷ bytes) (suc at) within before found =
    choice-false (byte == 27) ([] ∷ segments bytes) (in_front byte (segments bytes))
    (λ is. before 0 (omega arith) (grind (arith, nat_tests)))
    ∙ ap (in_front byte) (segments-first bytes at (omega arith) (λ k below. before (suc k) (omega arith)) (λ less. found (omega arith)))

-- what follows a byte that isn't read changes nothing
sequences_read-fault : (earlier position : ℕ) (more : List (List ℕ)) → sequences_read (Err earlier) position more ≡ Err earlier
sequences_read-fault earlier position [] = refl
sequences_read-fault earlier position (bytes ∷ more) = refl

-- a fault in what is read first is a fault in the whole
pub Reads-first : (told : Result TerminalState ℕ) (position : ℕ) (more : List (List ℕ)) (whole : Result TerminalState ℕ) (error : GridError) (left new : TerminalState)
    → whole ≡ sequences_read told position more → Reads {T = Unit {0}} told (Err error) left → Reads {T = Unit {0}} whole (Err error) new
Reads-first told position more whole (BadByte at) left new is fault =
    is ∙ ap (λ r. sequences_read r position more) fault ∙ sequences_read-fault at position more
Reads-first told position more whole Memory left new is fault = tt

-- the text before the first escape is read first
pub all_read-first : (t : TerminalState) (bytes : List ℕ) (at : ℕ) → at ≤ length bytes → ((k : ℕ) → k < at → get_or bytes k 0 ≡ 27 → ⊥)
    → (at < length bytes → get_or bytes at 0 ≡ 27)
    → all_read t (segments bytes) ≡ sequences_read (text_read t 0 (take at bytes)) at (behind_escape (drop at bytes))
all_read-first t bytes at within before found =
    ap (all_read t) (segments-first bytes at within before found)
    ∙ ap (λ n. sequences_read (text_read t 0 (take at bytes)) n (behind_escape (drop at bytes))) (length-take-le at bytes within)

-- then what follows each escape
pub sequences_read-next : (t : TerminalState) (bytes rest : List ℕ) (at count : ℕ) → at < length bytes → rest ≡ drop (at + 1) bytes → count ≤ length rest
    → ((k : ℕ) → k < count → get_or rest k 0 ≡ 27 → ⊥) → (count < length rest → get_or rest count 0 ≡ 27)
    → sequences_read (Ok t) at (behind_escape (drop at bytes))
    ≡ sequences_read (sequence_read t at (take count rest)) (at + (1 + count)) (behind_escape (drop (at + (1 + count)) bytes))
sequences_read-next t bytes rest at count room same within before found =
    let escape : behind_escape (drop at bytes) ≡ segments rest = ap behind_escape (drop_more bytes at 0 room) ∙ ap segments (sym same) in
    let place : at + 1 + length (take count rest) ≡ at + (1 + count) = omega (arith, length-take-le count rest within) in
    let left : drop count rest ≡ drop (at + (1 + count)) bytes =
    ap (drop count) same ∙ drop-drop count (at + 1) bytes ∙ ap (λ n. drop n bytes) (let sum : at + 1 + count ≡ at + (1 + count) = omega arith in sum) in
    ap (sequences_read (Ok t) at) (escape ∙ segments-first rest count within before found)
    ∙ ap (λ n. sequences_read (sequence_read t at (take count rest)) n (behind_escape (drop count rest))) place
    ∙ ap (λ more. sequences_read (sequence_read t at (take count rest)) (at + (1 + count)) (behind_escape more)) left
