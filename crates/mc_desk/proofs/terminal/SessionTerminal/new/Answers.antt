-- At the opening nothing was put.
use Rattle.std.proofs.Common.{refl}
use Rattle.mc_desk.proofs.Terminals.{first_put, first_terminal}
use Rattle.mc_desk.proofs.terminal.SessionTerminal.new.Goals as goal

pub invariant_of-result : goal.invariant_of-result
invariant_of-result g c = first_terminal g.N.Tag.given (g.S.Sink.given c.args.sink) g.N.Tag.sink_faults (g.S.Sink.fault_count c.args.sink) c.args.screen c.requires.given c.requires.faults c.requires.fresh

pub returns : goal.returns
returns g c = record { put = record { bytes = first_put g.N.Tag.given (g.S.Sink.given c.args.sink) c.requires.given; uncut = refl }; display_is = refl }
