-- What a search comes to, and where that leads.
use Rattle.std.proofs.Common.{◌≡◌, ℕ, zero, suc, ◌+◌, ◌≤◌, true, false, List, [], length, drop, Result, Ok, Err, IfErr, IfOk, refl, sym, ap, ◌∙◌, arith, ⊎_elim, inl, inr, ◌⊎◌}
use Rattle.std.proofs.lemmas.Bool.{cases_Bool, cond-true, cond-false, eq-eqb, ne_eqb}
use Rattle.std.proofs.lemmas.List.{drop_all, drop-drop}
use Rattle.text_search.specs.declared.sought.Sought.TheVariants.{Nowhere}
use Rattle.text_search.specs.Lines.{is_pattern, in_lines}
use Rattle.text_search.proofs.LineLemmas.{in_lines-past}
use Rattle.mc_viewer.specs.declared.error.ViewError.{ViewError}
use Rattle.mc_viewer.specs.declared.error.ViewError.TheVariants as error
use Rattle.mc_viewer.specs.declared.search.Search.{Search}
use Rattle.mc_viewer.specs.declared.search.Search.TheVariants.{Plain, Regex}
use Rattle.mc_viewer.specs.Viewing.{IsReadError, IfRead}
use Rattle.mc_viewer.specs.Searches.{first_place, text_sought, sought_place, next_from, IsMissed, IsSearchError}

-- a reading that failed says nothing of what is sought
pub missed_unread : {A B : Type 0} (outcome : Result A ViewError) (r : Result B ViewError) → IfErr r IsReadError → IfErr r (IsMissed outcome)
missed_unread outcome (Ok x) h = tt
missed_unread outcome (Err (error.Tree e)) h = tt
missed_unread outcome (Err error.Memory) h = tt
missed_unread outcome (Err error.NotFound) h = absurd h
missed_unread outcome (Err error.BadPattern) h = absurd h
missed_unread outcome (Err (error.LineTooLong line)) h = absurd h

pub read_error_search : {B : Type 0} (r : Result B ViewError) → IfErr r IsReadError → IfErr r IsSearchError
read_error_search (Ok x) h = tt
read_error_search (Err (error.Tree e)) h = h
read_error_search (Err error.Memory) h = tt
read_error_search (Err error.NotFound) h = tt
read_error_search (Err error.BadPattern) h = tt
read_error_search (Err (error.LineTooLong line)) h = tt

-- a reading that failed is no answer that comes of what was read
pub unread : {B : Type 0} (P : Type 0) (r : Result B ViewError) → IfErr r IsReadError → IfOk r (λ _. P) → IfRead r P
unread P (Ok x) h k = k
unread P (Err (error.Tree e)) h k = tt
unread P (Err error.Memory) h k = tt
unread P (Err error.NotFound) h k = absurd h
unread P (Err error.BadPattern) h k = absurd h
unread P (Err (error.LineTooLong line)) h k = absurd h

-- what was read once can be read, whatever comes of it
pub once_read : {B : Type 0} (P : Type 0) (r : Result B ViewError) → P → IfRead r P
once_read P (Ok x) h = h
once_read P (Err (error.Tree e)) h = tt
once_read P (Err error.Memory) h = tt
once_read P (Err error.NotFound) h = h
once_read P (Err error.BadPattern) h = h
once_read P (Err (error.LineTooLong line)) h = h

-- behind the end nothing is found: what is sought there is what is sought further on
text-past : (text : List ℕ) (at : ℕ) (rest : List ℕ) → rest ≡ [] → text_sought text at rest ≡ Nowhere
unfolding first_place
text-past text at rest none =
    ap (text_sought text at) none
    ∙ ⊎_elim (λ (empty : length text ≡ 0). cond-true _ _ _ (eq-eqb (length text) 0 empty))
    (λ (some : 1 ≤ length text). cond-false _ _ _ (ne_eqb (length text) 0 (λ e. omega (arith, e, some))))
    (empty_or (length text))
  where
    empty_or : (n : ℕ) → (n ≡ 0) ⊎ (1 ≤ n)
    empty_or zero = inl refl
    empty_or (suc n) = inr (omega arith)

pub sought-past : (what : Search) (bytes : List ℕ) (at other : ℕ) → length bytes ≤ at → length bytes ≤ other → sought_place what bytes at ≡ sought_place what bytes other
sought-past (Plain text) bytes at other past far =
    text-past text at (drop at bytes) (drop_all at bytes past) ∙ sym (text-past text other (drop other bytes) (drop_all other bytes far))
sought-past (Regex text) bytes at other past far =
    let here = in_lines-past text at (drop at bytes) (drop_all at bytes past) in
    let there = in_lines-past text other (drop other bytes) (drop_all other bytes far) in
    ⊎_elim (λ (is : is_pattern text ≡ true). cond-true _ _ _ is ∙ here ∙ sym (cond-true _ _ _ is ∙ there))
    (λ (is : is_pattern text ≡ false). cond-false _ _ _ is ∙ sym (cond-false _ _ _ is)) (cases_Bool (is_pattern text))

-- what is behind a place past the end is past it too
pub next-past : (what : Search) (bytes : List ℕ) (size place : ℕ) → length bytes ≡ size → size ≤ place
    → sought_place what bytes size ≡ sought_place what bytes (next_from bytes what place)
next-past (Plain text) bytes size place size_is past = sought-past (Plain text) bytes size (next_from bytes (Plain text) place) (omega arith) (omega arith)
next-past (Regex text) bytes size place size_is past = sought-past (Regex text) bytes size (next_from bytes (Regex text) place) (omega arith) (omega arith)

-- behind the lines that were passed
pub lines-further : (text searched bytes : List ℕ) (at count from : ℕ) → searched ≡ text
    → in_lines searched at 0 (drop at bytes) ≡ in_lines searched (at + count) 0 (drop count (drop at bytes))
    → in_lines text at 0 (drop at bytes) ≡ in_lines text from 0 (drop from bytes)
    → in_lines text (at + count) 0 (drop (at + count) bytes) ≡ in_lines text from 0 (drop from bytes)
lines-further text searched bytes at count from same passed left =
    ap (in_lines text (at + count) 0) (sym (drop-drop count at bytes))
    ∙ ap (λ t. in_lines t (at + count) 0 (drop count (drop at bytes))) (sym same)
    ∙ sym passed
    ∙ ap (λ t. in_lines t at 0 (drop at bytes)) same
    ∙ left

-- what a reading that may fail says of what is sought
pub ruleset readings = (missed_unread, read_error_search, unread, once_read)
