-- the states of an input line before its keys, one key further on
use Rattle.std.proofs.Common.{◌≡◌, ◌∙◌, ℕ, ◌+◌, ◌<◌, ap, subst, sym, suc, length, List, ◌∷◌, drop, get_or, arith}
use Rattle.std.proofs.Math.Seq.{drop-cons, drop-drop}
use Rattle.key_screen.specs.declared.keys.Key.{Key}
use Rattle.mc_dialogs.specs.declared.shut.Shut.{Shut}
use Rattle.mc_dialogs.specs.declared.shut.Shut.TheVariants.{Stay}
use Rattle.mc_dialogs.specs.InputKeys.{InputState, input_after, input_shut}
use Rattle.mc_dialogs.specs.KeyLists.{states_before, while_it_stays}

abbrev states_of : InputState → List Key → List InputState
states_of now keys = states_before InputState input_after input_shut now keys

-- what follows a state is the rest of the states behind it
drop_next : (states rest : List InputState) (now : InputState) (i : ℕ) → now ∷ rest ≡ drop i states → rest ≡ drop (i + 1) states
drop_next states rest now i same = ap (drop 1) same ∙ drop-drop 1 i states

-- the keys left are one and those behind it
keys_next : (keys : List Key) (i : ℕ) (d : Key) → i < length keys → drop i keys ≡ get_or keys i d ∷ drop (i + 1) keys
keys_next keys i d h =
    let next : suc i ≡ i + 1 = omega arith in
    subst (λ (n : ℕ). drop i keys ≡ get_or keys i d ∷ drop n keys) next (drop-cons keys i d h)

pub states_next : (now next : InputState) (keys : List Key) (states : List InputState) (i : ℕ) (d : Key) → i < length keys
    → input_shut now (get_or keys i d) ≡ Stay → next ≡ input_after now (get_or keys i d)
    → states_before InputState input_after input_shut now (drop i keys) ≡ drop i states
    → states_before InputState input_after input_shut next (drop (i + 1) keys) ≡ drop (i + 1) states
states_next now next keys states i d h stays is_next same =
    let key = get_or keys i d in
    let left = drop (i + 1) keys in
    let split : states_of now (key ∷ left) ≡ drop i states = ap (states_of now) (sym (keys_next keys i d h)) ∙ same in
    subst (λ (s : InputState). states_of s left ≡ drop (i + 1) states) (sym is_next)
    (drop_next states (states_of (input_after now key) left) now i
    (subst (λ (answer : Shut). now ∷ while_it_stays InputState answer (states_of (input_after now key) left) ≡ drop i states) stays split))
