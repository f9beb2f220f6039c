-- What is wanted of a viewer, and where that leads (own; the places are those of `mc_viewer`).
use Rattle.std.specs.Prelude.{◌≡◌, ◌≢◌, ⊤, ℕ, List, Option, Some, None, Result, Ok, Err}
use Rattle.std.specs.Option.{option_map}
use Rattle.mc_viewer.specs.declared.error.ViewError.{ViewError}
use Rattle.mc_viewer.specs.declared.search.Search.TheVariants.{Plain, Regex}
use Rattle.mc_viewer.specs.declared.state.ViewStep.TheVariants as step
use Rattle.mc_viewer.specs.Searches.{IsSearchError, after_next, after_search}
use Rattle.mc_viewer.specs.ViewerSteps.{Viewing, after_step}
use Rattle.mc_viewer.specs.Viewing.{IsReadError}
use Rattle.ui_viewer.specs.declared.asking.Question.{Question}
use Rattle.ui_viewer.specs.declared.asking.Question.TheVariants.{Line, Byte, PlainText, Expression}
use Rattle.ui_viewer.specs.declared.motion.Motion.{Motion}
use Rattle.ui_viewer.specs.declared.motion.Motion.TheVariants.{Step, Search, SearchNext}
use Rattle.ui_viewer.specs.Numbers.{number_in}

-- where it leads, in a file of these bytes: the viewer then, or why there is nothing to lead to
abbrev pub led_viewing : Motion → List ℕ → Viewing → Result Viewing ViewError
led_viewing (Step by) bytes v = Ok (record v { state = after_step bytes by v.state })
led_viewing (Search what) bytes v = after_search bytes what v
led_viewing SearchNext bytes v = after_next bytes v

-- why it may fail on any tree: a step finds nothing missing
abbrev pub MayRefuse : Motion → ViewError → Type 0
MayRefuse (Step by) e = IsReadError e
MayRefuse (Search what) e = IsSearchError e
MayRefuse SearchNext e = IsSearchError e

-- it reads the file: all but a search for the next place before any was found
abbrev pub Reads : Motion → Viewing → Type 0
Reads (Step by) v = ⊤
Reads (Search what) v = ⊤
Reads SearchNext v = v.last ≢ None

-- no motion is wanted, or one that looks at nothing: a search for the next place before any was found
abbrev pub LooksAtNothing : Option Motion → Viewing → Type 0
LooksAtNothing None v = ⊤
LooksAtNothing (Some SearchNext) v = v.last ≡ None
LooksAtNothing (Some other) v = ⊥

-- What an answer to a question wants: a place, where the text is a number of 64 bits, or
-- else nothing; or a search.
abbrev pub motion_of : Question → List ℕ → Option Motion
motion_of Line text = option_map (λ n. Step (step.Line n)) (number_in text)
motion_of Byte text = option_map (λ n. Step (step.Byte n)) (number_in text)
motion_of PlainText text = Some (Search (Plain text))
motion_of Expression text = Some (Search (Regex text))
