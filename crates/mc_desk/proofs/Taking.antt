-- A byte joins the bytes that were taken.
use Rattle.std.proofs.Common.{◌≡◌, ℕ, ◌+◌, true, List, [], ◌∷◌, ◌++◌, refl, sym, ◌∙◌, ap, inl, inr, Some, None, Result, Ok, Err}
use Rattle.key_screen.specs.declared.keys.Key.{Key}
use Rattle.key_screen.specs.declared.keys.Fed.{Fed}
use Rattle.key_screen.specs.DecodedKeys.{Decoded, decoded_keys, followed_by, list_of_key, keys_fed}
use Rattle.key_screen.proofs.CutLemmas.{decoded_keys-append}
use Rattle.mc_desk.specs.declared.replies.DeskReply.{DeskReply}
use Rattle.mc_desk.specs.declared.replies.DeskError.{DeskError}
use Rattle.mc_desk.specs.KeysAndFaults.{keys_in}
use Rattle.mc_desk.specs.Desks.{Seen, HasTaken, Joins, TakesByte}

decoded : List Key → List ℕ → Decoded
decoded keys rest = record { keys = keys; rest = rest }

-- the keys of the bytes with one byte more
fed_taken : (bytes : List ℕ) (byte : ℕ) (keys : List Key) (pending rest : List ℕ) (fed : Fed) → decoded_keys bytes ≡ record { keys = keys; rest = pending }
    → decoded_keys (pending ++ byte ∷ []) ≡ record { keys = keys_fed fed; rest = rest } → decoded_keys (bytes ++ byte ∷ []) ≡ record { keys = keys ++ keys_fed fed; rest = rest }
fed_taken bytes byte keys pending rest fed before now =
    decoded_keys-append bytes (byte ∷ [])
    ∙ (ap (λ d. followed_by d (λ r. decoded_keys (r ++ byte ∷ []))) before
    ∙ ap (λ (d : Decoded). let e : Decoded = record { keys = keys ++ d.keys; rest = d.rest } in e) now)

append_none : (xs : List Key) → xs ++ [] ≡ xs
append_none [] = refl
append_none (x ∷ xs) = ap (λ ys. x ∷ ys) (append_none xs)

append_two : (xs : List Key) (x y : Key) → xs ++ x ∷ y ∷ [] ≡ (xs ++ x ∷ []) ++ y ∷ []
append_two [] x y = refl
append_two (z ∷ xs) x y = ap (λ ys. z ∷ ys) (append_two xs x y)

module _ (bytes : List ℕ) (byte : ℕ) (old new : Seen) (fed : Fed) (rest : List ℕ) (taken : HasTaken bytes old)
    (now : decoded_keys (old.pending ++ byte ∷ []) ≡ record { keys = keys_fed fed; rest = rest }) (pending : new.pending ≡ rest) (counted : new.taken ≡ old.taken + 1) where
  all : decoded_keys (bytes ++ byte ∷ []) ≡ record { keys = keys_in old.newest ++ keys_fed fed; rest = rest }
  all = fed_taken bytes byte (keys_in old.newest) old.pending rest fed taken now

  -- the keys of the history are all of them
  joins : keys_in new.newest ≡ keys_in old.newest ++ keys_fed fed → Joins bytes byte old new
  joins keys = record {
    counted = counted;
    keys = all ∙ (ap (λ ks. let d : Decoded = record { keys = ks; rest = rest } in d) (sym keys) ∙ ap (λ r. let d : Decoded = record { keys = keys_in new.newest; rest = r } in d) (sym pending));
  }

  pub takes_all : (r : Result DeskReply DeskError) → keys_in new.newest ≡ keys_in old.newest ++ keys_fed fed → TakesByte r bytes byte old new
  takes_all (Ok reply) keys = joins keys
  takes_all (Err error) keys = inr (inl (joins keys))

  -- no key was completed
  pub takes_none : (r : Result DeskReply DeskError) → fed.first ≡ None → fed.second ≡ None → keys_in new.newest ≡ keys_in old.newest → TakesByte r bytes byte old new
  takes_none r first second keys =
      takes_all r (keys ∙ (sym (append_none (keys_in old.newest)) ∙ ap (λ ks. keys_in old.newest ++ ks) (sym (ap (λ f. list_of_key f ++ list_of_key fed.second) first ∙ ap list_of_key second))))

  -- one key was completed, and worked
  pub takes_one : (r : Result DeskReply DeskError) (key : Key) → fed.first ≡ Some key → fed.second ≡ None → keys_in new.newest ≡ keys_in old.newest ++ key ∷ [] → TakesByte r bytes byte old new
  takes_one r key first second keys =
      takes_all r (keys ∙ ap (λ ks. keys_in old.newest ++ ks) (sym (ap (λ f. list_of_key f ++ list_of_key fed.second) first ∙ ap (λ s. key ∷ list_of_key s) second)))

  -- two keys were completed, and worked
  pub takes_two : (r : Result DeskReply DeskError) (key next : Key) → fed.first ≡ Some key → fed.second ≡ Some next → keys_in new.newest ≡ (keys_in old.newest ++ key ∷ []) ++ next ∷ []
      → TakesByte r bytes byte old new
  takes_two r key next first second keys =
      takes_all r (keys ∙ (sym (append_two (keys_in old.newest) key next)
      ∙ ap (λ ks. keys_in old.newest ++ ks) (sym (ap (λ f. list_of_key f ++ list_of_key fed.second) first ∙ ap (λ s. key ∷ list_of_key s) second))))

  -- two keys were completed, and working the first failed
  pub lacks_second : (error : DeskError) (key next : Key) → fed.first ≡ Some key → fed.second ≡ Some next → keys_in new.newest ≡ keys_in old.newest ++ key ∷ [] → new.tally.closed ≡ true
      → TakesByte (let r : Result DeskReply DeskError = Err error in r) bytes byte old new
  lacks_second error key next first second keys closed =
      let before : keys_in old.newest ≡ (decoded_keys bytes).keys = sym (ap (λ (d : Decoded). d.keys) taken) in
      inr (inr record {
        counted = counted;
        closed = closed;
        lacks = record {
          prefix = bytes;
          last = byte;
          first = key;
          second = next;
          bytes_are = refl;
          completed = ap (λ (d : Decoded). d.keys) all
              ∙ (ap (λ ks. keys_in old.newest ++ ks) (ap (λ f. list_of_key f ++ list_of_key fed.second) first ∙ ap (λ s. key ∷ list_of_key s) second)
              ∙ ap (λ ks. ks ++ key ∷ next ∷ []) before);
          has = keys ∙ ap (λ ks. ks ++ key ∷ []) before;
        };
      })
