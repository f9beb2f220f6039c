-- A key that closes an input line leaves it as it was.
use Rattle.std.proofs.Common.{◌≡◌, Bool, true, false, refl, sym, subst}
use Rattle.key_screen.specs.declared.keys.Key.{Key}
use Rattle.key_screen.specs.declared.keys.Base.{Base}
use Rattle.key_screen.specs.declared.keys.Base.TheVariants.{Char, Ctrl, F, Up, Down, Left, Right, Home, End, Insert, Delete, PgUp, PgDn, Enter, Tab, Backspace, Escape, Unknown}
use Rattle.mc_dialogs.specs.declared.shut.Shut.{Shut}
use Rattle.mc_dialogs.specs.declared.shut.Shut.TheVariants.{Stay, Closed}
use Rattle.mc_dialogs.specs.InputKeys.{InputState, input_after, input_closed, input_meta, input_shut, input_typed}
use Rattle.panel_boxes.specs.Replies.{SameWhereClosed}

abbrev key_with : Bool → Base → Key
key_with meta base = record { meta = meta; base = base }

same_line : (shut : Shut) (line : InputState) → SameWhereClosed shut line line
same_line Stay line = tt
same_line (Closed reply) line = refl

plain_stays : (line : InputState) (base : Base) → SameWhereClosed (input_closed line base) line (input_typed line base)
plain_stays line (Char code) = tt
plain_stays line (Ctrl letter) = tt
plain_stays line (F number) = same_line (input_closed line (F number)) line
plain_stays line Up = tt
plain_stays line Down = tt
plain_stays line Left = tt
plain_stays line Right = tt
plain_stays line Home = tt
plain_stays line End = tt
plain_stays line Insert = tt
plain_stays line Delete = tt
plain_stays line PgUp = tt
plain_stays line PgDn = tt
plain_stays line Enter = refl
plain_stays line Tab = tt
plain_stays line Backspace = tt
plain_stays line Escape = refl
plain_stays line Unknown = tt

key_stays : (line : InputState) (meta : Bool) (base : Base) → SameWhereClosed (input_shut line (key_with meta base)) line (input_after line (key_with meta base))
key_stays line true base = same_line (input_meta line base) line
key_stays line false base = plain_stays line base

-- what it is after the key is as it was, where it is closed
pub closed_stays : (line after : InputState) (key : Key) (shut : Shut) → shut ≡ input_shut line key → after ≡ input_after line key → SameWhereClosed shut line after
closed_stays line after key shut answer is =
    subst (λ s. SameWhereClosed s line after) (sym answer)
    (subst (λ a. SameWhereClosed (input_shut line key) line a) (sym is) (key_stays line key.meta key.base))
