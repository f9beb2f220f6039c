-- `==` at keys says what `is_key` says.
use Rattle.std.proofs.Common.{◌≡◌, refl}
use denote.Enum.Bare.{sameb}
use Rattle.ext_rules.specs.contracts.actions.Key.{the_type}
use Rattle.ext_rules.specs.declared.actions.Key.{Key}
use Rattle.ext_rules.specs.declared.actions.Key.TheVariants.{Open, View, Edit, Include}
use Rattle.ext_rules.specs.Actions.{is_key}

pub same_key : (a b : Key) → sameb the_type a b ≡ is_key a b
same_key Open Open = refl
same_key Open View = refl
same_key Open Edit = refl
same_key Open Include = refl
same_key View Open = refl
same_key View View = refl
same_key View Edit = refl
same_key View Include = refl
same_key Edit Open = refl
same_key Edit View = refl
same_key Edit Edit = refl
same_key Edit Include = refl
same_key Include Open = refl
same_key Include View = refl
same_key Include Edit = refl
same_key Include Include = refl
