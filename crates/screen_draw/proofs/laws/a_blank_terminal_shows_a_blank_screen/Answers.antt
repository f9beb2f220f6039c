use Rattle.screen_draw.proofs.DisplayLemmas.{blank-shown}
use Rattle.screen_draw.proofs.laws.a_blank_terminal_shows_a_blank_screen.Goals as goal

pub returns : goal.returns
returns c = blank-shown
