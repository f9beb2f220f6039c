-- What was taken of the bytes that the keyboard gives.
use Rattle.std.proofs.Common.{◌≡◌, ◌⊎◌, ℕ, ◌+◌, ◌≤◌, Bool, true, false, ◌||◌, List, [], ◌∷◌, ◌++◌, length, take, refl, sym, ◌∙◌, ap, subst, inl, inr, Option, Result, Ok, Err, arith}
use Rattle.std.proofs.lemmas.List.{take_more}
use Rattle.std.proofs.lemmas.Option.{slice_get_within, get_or_from_slice_get}
use Rattle.std.proofs.lemmas.Bool.{true≢false}
use Rattle.tree_trait.specs.Answers.{IfKnown}
use Rattle.key_screen.specs.declared.keys.Key.{Key}
use Rattle.key_screen.specs.DecodedKeys.{Decoded, decoded_keys}
use Rattle.session_entries.specs.declared.history.Entry.{Entry}
use Rattle.mc_desk.specs.declared.replies.DeskReply.{DeskReply}
use Rattle.mc_desk.specs.declared.replies.DeskError.{DeskError}
use Rattle.mc_desk.specs.KeysAndFaults.{keys_in}
use Rattle.mc_desk.specs.Desks.{Seen, HasTaken, TookOf, IsFed, IsNext, KeepsKeys, Joins, Stays, Cuts, TakesByte, is_over}
use Rattle.mc_desk.specs.KeysTaken.{LacksSecond, Reads}

abbrev decoded : List Key → List ℕ → Decoded
decoded keys rest = record { keys = keys; rest = rest }

-- at the opening nothing was taken
pub fed_first : (stream : Option (List ℕ)) (desk : Seen) → desk.newest ≡ [] → desk.taken ≡ 0 → desk.pending ≡ [] → IsFed stream desk
fed_first stream desk newest taken pending bytes known = record {
  some = omega (arith, taken);
  keys = inl (ap (λ n. decoded_keys (take n bytes)) taken
      ∙ (ap (λ ks. decoded ks []) (ap keys_in (sym newest)) ∙ ap (λ r. decoded (keys_in desk.newest) r) (sym pending)));
}

-- a call that takes no byte
lacks_kept : (bytes : List ℕ) (older newer : List Entry) → keys_in newer ≡ keys_in older → LacksSecond bytes older → LacksSecond bytes newer
lacks_kept bytes older newer same l =
    record { prefix = l.prefix; last = l.last; first = l.first; second = l.second; bytes_are = l.bytes_are; completed = l.completed; has = same ∙ l.has }

took_kept : (bytes : List ℕ) (old new : Seen) → KeepsKeys old new → TookOf bytes old → TookOf bytes new
took_kept bytes old new kept took = record {
  some = let had = took.some in let same = kept.taken in omega (arith, had, same);
  keys = subst (λ n. HasTaken (take n bytes) new ⊎ ((new.tally.closed ≡ true) × LacksSecond (take n bytes) new.newest)) (sym kept.taken) (
      elim took.keys [
        | inl all ↦
            inl (all ∙ (ap (λ ks. decoded ks old.pending) (sym kept.keys) ∙ ap (λ r. decoded (keys_in new.newest) r) (sym kept.pending)))
        | inr cut ↦ inr (kept.shut cut.0, lacks_kept (take old.taken bytes) old.newest new.newest kept.keys cut.1)
      ]);
}

pub fed_kept : (stream : Option (List ℕ)) (old new : Seen) → KeepsKeys old new → IsFed stream old → IsFed stream new
fed_kept stream old new kept fed bytes known = took_kept bytes old new kept (fed bytes known)

-- one byte more
front_more : (bytes : List ℕ) (taken byte : ℕ) → IsNext bytes taken byte → take (taken + 1) bytes ≡ take taken bytes ++ byte ∷ []
front_more bytes taken byte next =
    take_more bytes taken byte (slice_get_within bytes taken byte next) ∙ ap (λ b. take taken bytes ++ b ∷ []) (get_or_from_slice_get bytes taken byte byte next)

module _ (bytes : List ℕ) (byte : ℕ) (old new : Seen) (next : IsNext bytes old.taken byte) (took : TookOf bytes old) where
  more : new.taken ≡ old.taken + 1 → take new.taken bytes ≡ take old.taken bytes ++ byte ∷ []
  more counted = ap (λ n. take n bytes) counted ∙ front_more bytes old.taken byte next

  some_more : new.taken ≡ old.taken + 1 → new.taken ≤ length bytes
  some_more counted = let within = slice_get_within bytes old.taken byte next in omega (arith, within, counted)

  joined : Joins (take old.taken bytes) byte old new → TookOf bytes new
  joined j = record { some = some_more j.counted; keys = inl (subst (λ b. HasTaken b new) (sym (more j.counted)) j.keys) }

  cut : Cuts (take old.taken bytes) byte old new → TookOf bytes new
  cut c = record { some = some_more c.counted; keys = inr (c.closed, subst (λ b. LacksSecond b new.newest) (sym (more c.counted)) c.lacks) }

  stayed : Stays (take old.taken bytes) old new → TookOf bytes new
  stayed s = record {
    some = let had = took.some in let same = s.counted in omega (arith, had, same);
    keys = inl (subst (λ n. HasTaken (take n bytes) new) (sym s.counted) s.keys);
  }

  taken : (r : Result DeskReply DeskError) → TakesByte r (take old.taken bytes) byte old new → TookOf bytes new
  taken (Ok reply) j = joined j
  taken (Err error) (inl s) = stayed s
  taken (Err error) (inr (inl j)) = joined j
  taken (Err error) (inr (inr c)) = cut c

-- a session that isn't over is not closed
goes_on : (desk : Seen) → is_over desk ≡ false → desk.tally.closed ≡ true → ⊥
goes_on desk goes closed = true≢false (sym (ap (λ b. b || desk.quit) closed) ∙ goes)

pub fed_byte : (stream : Option (List ℕ)) (byte : ℕ) (old new : Seen) (r : Result DeskReply DeskError) → IfKnown stream (λ bytes. IsNext bytes old.taken byte) → (is_over old ≡ true → new ≡ old)
    → (is_over old ≡ false → (bytes : List ℕ) → HasTaken bytes old → TakesByte r bytes byte old new) → IsFed stream old → IsFed stream new
fed_byte stream byte old new r next over takes fed bytes known = go (is_over old) refl
  where
    go : (b : Bool) → is_over old ≡ b → TookOf bytes new
    go true is = subst (TookOf bytes) (sym (over is)) (fed bytes known)
    go false is =
        let took = fed bytes known in
        elim took.keys [
          | inl all ↦ taken bytes byte old new (next bytes known) took r (takes is (take old.taken bytes) all)
          | inr lacks ↦ absurd (goes_on old is lacks.0)
        ]

-- what a session has taken by its end
pub reads_end : (stream : Option (List ℕ)) (desk : Seen) (newest : List Entry) → keys_in newest ≡ keys_in desk.newest → IsFed stream desk → IfKnown stream (λ bytes. Reads bytes desk.taken desk.tally.closed newest)
reads_end stream desk newest same fed bytes known =
    let took = fed bytes known in
    record {
      some = took.some;
      keys = elim took.keys [
        | inl all ↦ inl (ap (λ (d : Decoded). d.keys) all ∙ sym same)
        | inr cut ↦ inr (cut.0, lacks_kept (take desk.taken bytes) desk.newest newest same cut.1)
      ];
    }
