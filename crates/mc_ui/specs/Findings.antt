-- What is told of things that are sought.
use Rattle.ui_find.specs.declared.act.FindRefusal.{FindRefusal}
use Rattle.ui_find.specs.declared.act.FindRefusal.TheVariants.{NoWay, NoPattern}
use Rattle.session_entries.specs.declared.refusal.Refusal.{Refusal}
use Rattle.session_entries.specs.declared.refusal.Refusal.TheVariants.{Resolve, Typed}
use Rattle.session_entries.specs.declared.refusal.TypedError.TheVariants.{BadPattern}

-- why what was typed isn't taken, as it is told
abbrev pub find_refusal : FindRefusal → Refusal
find_refusal (NoWay why) = Resolve why
find_refusal NoPattern = Typed BadPattern
