-- C-c is a key of one byte, and the only one that is worked while a search goes on.
use Rattle.std.proofs.Common.{◌≡◌, ℕ, Bool, true, false, not, ◌||◌, ◌&&◌, List, [], ◌∷◌, ◌++◌, ap, subst, ◌∙◌, Option, Some}
use Rattle.key_screen.specs.declared.keys.Key.{Key}
use Rattle.key_screen.specs.declared.keys.Fed.{Fed}
use Rattle.key_screen.specs.DecodedKeys.{Decoded, decoded_keys, keys_fed, list_of_key}
use Rattle.ui_find.specs.FindKeys.{stop_key}
use Rattle.mc_ui.specs.Seekings.{is_seeking}
use Rattle.mc_desk.specs.KeysTaken.{stop_byte}
use Rattle.mc_desk.specs.Sessions.{MayWork}
use Rattle.mc_desk.specs.Desks.{MayTake, Seen, seeks}

-- its byte, at the beginning of a key, completes it
pub stop_fed : (fed : Fed) (rest : List ℕ) (first : Key) → decoded_keys (stop_byte ∷ []) ≡ (let d : Decoded = record { keys = keys_fed fed; rest = rest } in d) → fed.first ≡ Some first → first ≡ stop_key
stop_fed fed rest first is some =
    let keys : stop_key ∷ [] ≡ keys_fed fed = ap (λ (d : Decoded). d.keys) is in
    let fed_is : keys_fed fed ≡ first ∷ list_of_key fed.second = ap (λ (o : Option Key). list_of_key o ++ list_of_key fed.second) some in
    let both : stop_key ∷ [] ≡ first ∷ list_of_key fed.second = keys ∙ fed_is in
    cc

-- the first key that a byte completes, of a session that is not over
pub first_may : (desk : Seen) (byte : ℕ) (fed : Fed) (rest : List ℕ) (first : Key) → MayTake byte desk → desk.tally.closed ≡ false → desk.quit ≡ false
    → decoded_keys (desk.pending ++ byte ∷ []) ≡ (let d : Decoded = record { keys = keys_fed fed; rest = rest } in d) → fed.first ≡ Some first → MayWork first desk.screen
first_may desk byte fed rest first may unclosed unasked is some seeking =
    let goes : seeks desk ≡ true = ap (λ (b : Bool). not (b || desk.quit) && is_seeking desk.screen) unclosed ∙ (ap (λ (b : Bool). not b && is_seeking desk.screen) unasked ∙ seeking) in
    let taken = may goes in
    stop_fed fed rest first
    (subst (λ (p : List ℕ). decoded_keys (p ++ stop_byte ∷ []) ≡ (let d : Decoded = record { keys = keys_fed fed; rest = rest } in d)) taken.1
    (subst (λ (b : ℕ). decoded_keys (desk.pending ++ b ∷ []) ≡ (let d : Decoded = record { keys = keys_fed fed; rest = rest } in d)) taken.0 is)) some
