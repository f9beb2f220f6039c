-- what two tests come to
use Rattle.std.proofs.Common.{◌≡◌, Bool, true, false, ◌&&◌, refl}
use Rattle.key_screen.specs.declared.cells.Attr.{Attr}
use Rattle.key_screen.specs.declared.cells.Attr.TheVariants.{Plain, Bold, Reverse}
use Rattle.screen_draw.specs.Changes.{is_same_attr}

pub and_left : (a b : Bool) → (a && b) ≡ true → a ≡ true
and_left true b is = refl
and_left false b is = absurd (cc)

pub and_right : (a b : Bool) → (a && b) ≡ true → b ≡ true
and_right true b is = is
and_right false b is = absurd (cc)

pub and_false : (a : Bool) → (a && false) ≡ false
and_false true = refl
and_false false = refl

-- looks that are the same
pub same_attr : (a b : Attr) → is_same_attr a b ≡ true → a ≡ b
same_attr Plain Plain is = refl
same_attr Bold Bold is = refl
same_attr Reverse Reverse is = refl
same_attr Plain Bold is = absurd (cc)
same_attr Plain Reverse is = absurd (cc)
same_attr Bold Plain is = absurd (cc)
same_attr Bold Reverse is = absurd (cc)
same_attr Reverse Plain is = absurd (cc)
same_attr Reverse Bold is = absurd (cc)
