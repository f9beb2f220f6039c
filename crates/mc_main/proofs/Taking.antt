-- What is taken of the keyboard's bytes, and what is left of them.
use Rattle.std.proofs.Common.{◌≡◌, ◌⊎◌, ℕ, ◌+◌, ◌<◌, ◌≤◌, Bool, false, true, List, [], ◌∷◌, length, take, drop, refl, sym, ◌∙◌, ap, subst, inl, inr, Option, Some, None, Result, Ok, Err, zero, suc, add-one, arith}
use Rattle.std.specs.Prelude.{slice_get, slice_index_or}
use Rattle.tree_trait.specs.declared.devices.SourceFault.{SourceFault}
use Rattle.tree_trait.specs.Answers.{IfKnown}
use Rattle.tree_trait.specs.Devices.{HasTaken as HasGiven}
use Rattle.session_entries.specs.declared.history.Entry.{Entry}
use Rattle.mc_desk.specs.declared.replies.DeskReply.{DeskReply}
use Rattle.mc_desk.specs.declared.replies.DeskReply.TheVariants.{Go, Wait, Quit}
use Rattle.mc_desk.specs.KeysAndFaults.{keys_in}
use Rattle.mc_desk.specs.Standings.{is_quit}
use Rattle.mc_desk.specs.Desks.{IsNext}
use Rattle.mc_desk.specs.KeysTaken.{Reads}
use Rattle.mc_main.specs.declared.session.SessionEnd.{SessionEnd}
use Rattle.mc_main.specs.declared.session.SessionEnd.TheVariants.{ScreenFailed, NoMemory}
use Rattle.mc_main.specs.KeysRead.{IsCut, LeavesOthers, ReadsKeys, TookAll, left_of}
use Rattle.mc_main.specs.Statuses.{IsCutShort}

-- a source has left what it didn't give
pub gives : (left : Option (List ℕ)) (room : List ℕ) (count n : ℕ) (new : Option (List ℕ)) → count ≡ n → IfKnown left (λ b. HasGiven b room (let r : Result ℕ SourceFault = Ok count in r) new)
    → (left ≡ None → new ≡ None) → new ≡ left_of left n
gives None room count n new is given unknown = unknown refl
gives (Some b) room count n new is given unknown = (given b refl).rest ∙ ap (λ k. Some (drop k b)) is

pub gives_none : (left : Option (List ℕ)) (room : List ℕ) (fault : SourceFault) (new : Option (List ℕ)) → IfKnown left (λ b. HasGiven b room (let r : Result ℕ SourceFault = Err fault in r) new)
    → (left ≡ None → new ≡ None) → new ≡ left_of left 0
gives_none None room fault new given unknown = unknown refl
gives_none (Some b) room fault new given unknown = given b refl

-- one that gave no byte into a room has none left
pub first_none : (left : Option (List ℕ)) (room : List ℕ) (count : ℕ) (new : Option (List ℕ)) → count ≡ 0 → 0 < length room
    → IfKnown left (λ b. HasGiven b room (let r : Result ℕ SourceFault = Ok count in r) new) → IfKnown left (λ b. (let o : Option ℕ = None in o) ≡ slice_get b 0)
first_none left room count new empty roomy given b known = ap (λ xs. slice_get xs 0) (sym ((given b known).at_end empty roomy))

-- one that gave a byte gave its first
pub first_one : (left : Option (List ℕ)) (room : List ℕ) (count byte : ℕ) (new : Option (List ℕ)) → count ≡ 1 → room ≡ byte ∷ []
    → IfKnown left (λ b. HasGiven b room (let r : Result ℕ SourceFault = Ok count in r) new) → IfKnown left (λ b. Some byte ≡ slice_get b 0)
first_one left room count byte new one is given b known =
    let h = given b known in
    go b (subst (λ n. n ≤ length b) one h.some) (subst (λ n. take n (byte ∷ []) ≡ take n b) one (subst (λ r. take count r ≡ take count b) is h.bytes))
  where
    go : (b : List ℕ) → 1 ≤ length b → take 1 (byte ∷ []) ≡ take 1 b → Some byte ≡ slice_get b 0
    go [] few same = absurd (omega (arith, few))
    go (x ∷ xs) few same = let head : byte ≡ x = cc in ap Some head

-- a room of one byte
pub room_one : (room : List ℕ) → length room ≡ 1 → room ≡ slice_index_or room 0 0 ∷ []
room_one [] h = absurd (omega (arith, h))
room_one (x ∷ []) h = refl
room_one (x ∷ y ∷ ys) h = absurd (omega (arith, h))

-- the first of what is left is the next
at_drop : (bytes : List ℕ) (n : ℕ) → slice_get (drop n bytes) 0 ≡ slice_get bytes n
at_drop [] zero = refl
at_drop [] (suc n) = refl
at_drop (x ∷ xs) zero = refl
at_drop (x ∷ xs) (suc n) = at_drop xs n

pub next_byte : (stream left : Option (List ℕ)) (taken byte : ℕ) → left ≡ left_of stream taken → IfKnown left (λ b. Some byte ≡ slice_get b 0) → IfKnown stream (λ bytes. IsNext bytes taken byte)
next_byte stream left taken byte left_is first bytes known =
    sym (at_drop bytes taken) ∙ sym (first (drop taken bytes) (left_is ∙ ap (λ s. left_of s taken) known))

none_first : (bytes : List ℕ) → (let o : Option ℕ = None in o) ≡ slice_get bytes 0 → bytes ≡ []
none_first [] h = refl
none_first (x ∷ xs) h = absurd cc

-- where there is no next, all was taken
pub took_all : (stream left left_after : Option (List ℕ)) (taken : ℕ) → left ≡ left_of stream taken → IfKnown left (λ b. (let o : Option ℕ = None in o) ≡ slice_get b 0) → left_after ≡ left_of left 0 → TookAll stream left_after
took_all stream left left_after taken left_is first after bytes known =
    let at : left ≡ Some (drop taken bytes) = left_is ∙ ap (λ s. left_of s taken) known in
    after ∙ (ap (λ s. left_of s 0) at ∙ ap Some (none_first (drop taken bytes) (first (drop taken bytes) at)))

drop_more : (bytes : List ℕ) (n : ℕ) → drop 1 (drop n bytes) ≡ drop (suc n) bytes
drop_more [] zero = refl
drop_more [] (suc n) = refl
drop_more (x ∷ xs) zero = refl
drop_more (x ∷ xs) (suc n) = drop_more xs n

-- one byte less is left
left_less : (stream left left_after : Option (List ℕ)) (taken : ℕ) → left ≡ left_of stream taken → left_after ≡ left_of left 1 → left_after ≡ left_of stream (taken + 1)
left_less None left left_after taken is after = after ∙ ap (λ s. left_of s 1) is
left_less (Some bytes) left left_after taken is after =
    after ∙ (ap (λ s. left_of s 1) is ∙ (ap Some (drop_more bytes taken) ∙ ap (λ n. Some (drop n bytes)) (sym (add-one taken))))

left_same : (stream left left_after : Option (List ℕ)) (taken : ℕ) → left ≡ left_of stream taken → left_after ≡ left_of left 0 → left_after ≡ left_of stream taken
left_same None left left_after taken is after = after ∙ ap (λ s. left_of s 0) is
left_same (Some bytes) left left_after taken is after = after ∙ ap (λ s. left_of s 0) is

-- a byte that was taken is no more left, and the others are
pub leaves_others : (stream left left_after : Option (List ℕ)) (taken after : ℕ) (end : Option SessionEnd) → left ≡ left_of stream taken → left_after ≡ left_of left 1 → after ≡ taken + 1 → LeavesOthers stream after end left_after
leaves_others stream left left_after taken after end is less counted = inl (left_less stream left left_after taken is less ∙ ap (left_of stream) (sym counted))

-- where the session was cut short perhaps one byte less is left
pub leaves_cut : (stream left left_after : Option (List ℕ)) (taken after : ℕ) (end : Option SessionEnd) → left ≡ left_of stream taken → left_after ≡ left_of left 1 → IsCut end → (after ≡ taken) ⊎ (after ≡ taken + 1)
    → LeavesOthers stream after end left_after
leaves_cut stream left left_after taken after end is less cut (inl same) = inr (left_less stream left left_after taken is less ∙ ap (λ n. left_of stream (n + 1)) (sym same), cut)
leaves_cut stream left left_after taken after end is less cut (inr more) = leaves_others stream left left_after taken after end is less more

-- no byte was taken
pub leaves_all : (stream left left_after : Option (List ℕ)) (taken after : ℕ) (end : Option SessionEnd) → left ≡ left_of stream taken → left_after ≡ left_of left 0 → after ≡ taken → LeavesOthers stream after end left_after
leaves_all stream left left_after taken after end is same counted = inl (left_same stream left left_after taken is same ∙ ap (left_of stream) (sym counted))

-- where the session goes on, just the others are left
pub leaves_on : (stream left : Option (List ℕ)) (taken : ℕ) → LeavesOthers stream taken None left → left ≡ left_of stream taken
leaves_on stream left taken (inl is) = is
leaves_on stream left taken (inr (is, inl cut)) = absurd cc
leaves_on stream left taken (inr (is, inr cut)) = absurd cc

-- at the beginning all is left
pub left_first : (stream left : Option (List ℕ)) (taken : ℕ) → left ≡ stream → taken ≡ 0 → left ≡ left_of stream taken
left_first None left taken same none = same
left_first (Some bytes) left taken same none = same ∙ ap (λ n. Some (drop n bytes)) (sym none)

-- a reply that is not the end
pub goes_on : (reply : DeskReply) → (reply ≡ Quit → ⊥) → is_quit reply ≡ false
goes_on Go other = refl
goes_on (Wait job) other = refl
goes_on Quit other = absurd (other refl)

-- what a session has read, by the status of its run
pub reads : (stream left : Option (List ℕ)) (end : SessionEnd) (taken status : ℕ) (closed : Bool) (newest : List Entry) → IfKnown stream (λ bytes. Reads bytes taken closed newest)
    → LeavesOthers stream taken (Some end) left → (closed ≡ true → IsCut (Some end)) → ((end ≡ ScreenFailed) ⊎ (end ≡ NoMemory) → IsCutShort status) → IfKnown stream (λ bytes. ReadsKeys bytes left status newest)
reads stream left end taken status closed newest read leaves cut ends bytes known =
    let r = read bytes known in
    record {
      taken = taken;
      some = r.some;
      keys = elim r.keys [ inl all ↦ inl all | inr lacks ↦ inr (lacks.1, short (cut lacks.0)) ];
      others = others (subst (λ s. LeavesOthers s taken (Some end) left) known leaves);
    }
  where
    short : IsCut (Some end) → IsCutShort status
    short (inl is) = ends (inl cc)
    short (inr is) = ends (inr cc)

    others : LeavesOthers (Some bytes) taken (Some end) left → (left ≡ Some (drop taken bytes)) ⊎ ((left ≡ Some (drop (taken + 1) bytes)) × IsCutShort status)
    others (inl is) = inl is
    others (inr (is, failed)) = inr (is, short failed)

-- a run in which no session began has taken nothing
pub reads_none : (left : Option (List ℕ)) (newest : List Entry) (status : ℕ) → newest ≡ [] → IfKnown left (λ bytes. ReadsKeys bytes left status newest)
reads_none left newest status empty bytes known = record { taken = 0; some = omega arith; keys = inl (ap keys_in (sym empty)); others = inl known }
