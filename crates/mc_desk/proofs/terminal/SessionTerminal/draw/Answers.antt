-- A drawing, as the sink and the screen answer it.
use Rattle.std.proofs.Common.{◌≡◌, false, true, ap, sym, subst, ◌∙◌, refl, Ok, Err}
use Rattle.tree_trait.specs.declared.devices.SinkError.TheVariants.{Fault, Memory}
use Rattle.mc_desk.specs.Outputs.{Output, ShowsFrame, output_of}
use Rattle.mc_desk.specs.Redrawing.{is_anew}
use Rattle.tree_trait.specs.Answers.{IfKnown}
use Rattle.screen_draw.specs.Drawings.{Display, HasDrawn, HasSizeOf}
use Rattle.mc_desk.proofs.Terminals.{cut_shows, ended_shows, ended_terminal}
use Rattle.mc_desk.proofs.terminal.SessionTerminal.draw.Goals as goal

pub invariant_of-self-in-Ok : goal.invariant_of-self-in-Ok
invariant_of-self-in-Ok g c =
    let inside = c.self.inside in
    let uncut : inside.is_cut ≡ false = ap (λ (o : Output). o.put.is_cut) c.self.view_is ∙ c.requires.uncut in
    let size = subst (λ (o : Output). HasSizeOf o.display.grid c.args.frame.now) (sym c.self.view_is) c.requires.size in
    ended_terminal g.N.Tag.given (g.S.Sink.given inside.sink) (g.S.Sink.given c.draw.new.sink) g.N.Tag.sink_faults (g.S.Sink.fault_count inside.sink) (is_anew c.args.drawing) inside.screen c.draw.new.self c.args.frame.now inside.shown inside.failed
    inside.is_cut uncut c.self.invariant size c.draw.ensures.stays_unknown c.in-Ok.count c.with_bytes-self-inside.result c.with_bytes-self-inside.ensures (subst (λ (d : Display). IfKnown (g.S.Sink.given inside.sink) (λ given. HasDrawn d c.args.frame.now given (Ok c.in-Ok.count) (g.S.Sink.given c.draw.new.sink))) c.prepare.ensures c.in-Ok.ensures.shown) c.in-Ok.ensures.done (g.S.Sink.fault_count c.draw.new.sink)
    c.draw.ensures.cause.later

pub returns-in-Ok : goal.returns-in-Ok
returns-in-Ok g c =
    let inside = c.self.inside in
    let uncut : inside.is_cut ≡ false = ap (λ (o : Output). o.put.is_cut) c.self.view_is ∙ c.requires.uncut in
    let size = subst (λ (o : Output). HasSizeOf o.display.grid c.args.frame.now) (sym c.self.view_is) c.requires.size in
    record {
      shows = subst (λ o. ShowsFrame (is_anew c.args.drawing) c.args.frame.now (Ok tt) o (output_of g.N.Tag.given (g.S.Sink.given c.draw.new.sink) c.draw.new.self c.with_bytes-self-inside.result inside.failed inside.is_cut)) c.self.view_is
          (ended_shows g.N.Tag.given (g.S.Sink.given inside.sink) (g.S.Sink.given c.draw.new.sink) g.N.Tag.sink_faults (g.S.Sink.fault_count inside.sink) (is_anew c.args.drawing) inside.screen c.draw.new.self c.args.frame.now inside.shown inside.failed
          inside.is_cut uncut c.self.invariant size c.draw.ensures.stays_unknown c.in-Ok.count c.with_bytes-self-inside.result c.with_bytes-self-inside.ensures (subst (λ (d : Display). IfKnown (g.S.Sink.given inside.sink) (λ given. HasDrawn d c.args.frame.now given (Ok c.in-Ok.count) (g.S.Sink.given c.draw.new.sink))) c.prepare.ensures c.in-Ok.ensures.shown) c.in-Ok.ensures.done);
    }

pub returns-in-Err-Fault : goal.returns-in-Err-Fault
returns-in-Err-Fault g c =
    let inside = c.self.inside in
    let uncut : inside.is_cut ≡ false = ap (λ (o : Output). o.put.is_cut) c.self.view_is ∙ c.requires.uncut in
    let size = subst (λ (o : Output). HasSizeOf o.display.grid c.args.frame.now) (sym c.self.view_is) c.requires.size in
    record {
      shows = subst (λ o. ShowsFrame (is_anew c.args.drawing) c.args.frame.now (Err Fault) o (output_of g.N.Tag.given (g.S.Sink.given c.draw.new.sink) c.draw.new.self inside.shown true true)) c.self.view_is
          (cut_shows g.N.Tag.given (g.S.Sink.given inside.sink) (g.S.Sink.given c.draw.new.sink) g.N.Tag.sink_faults (g.S.Sink.fault_count inside.sink) (is_anew c.args.drawing) inside.screen c.draw.new.self c.args.frame.now inside.shown inside.failed
          inside.is_cut uncut c.self.invariant size c.draw.ensures.stays_unknown Fault true (subst (λ (d : Display). IfKnown (g.S.Sink.given inside.sink) (λ given. HasDrawn d c.args.frame.now given (Err Fault) (g.S.Sink.given c.draw.new.sink))) c.prepare.ensures c.in-Err-Fault.ensures.shown) (c.in-Err-Fault.ensures.refused ∙ c.prepare.ensures) (λ is. refl));
    }

pub returns-in-Err-Memory : goal.returns-in-Err-Memory
returns-in-Err-Memory g c =
    let inside = c.self.inside in
    let uncut : inside.is_cut ≡ false = ap (λ (o : Output). o.put.is_cut) c.self.view_is ∙ c.requires.uncut in
    let size = subst (λ (o : Output). HasSizeOf o.display.grid c.args.frame.now) (sym c.self.view_is) c.requires.size in
    record {
      shows = subst (λ o. ShowsFrame (is_anew c.args.drawing) c.args.frame.now (Err Memory) o (output_of g.N.Tag.given (g.S.Sink.given c.draw.new.sink) c.draw.new.self inside.shown inside.failed true)) c.self.view_is
          (cut_shows g.N.Tag.given (g.S.Sink.given inside.sink) (g.S.Sink.given c.draw.new.sink) g.N.Tag.sink_faults (g.S.Sink.fault_count inside.sink) (is_anew c.args.drawing) inside.screen c.draw.new.self c.args.frame.now inside.shown inside.failed
          inside.is_cut uncut c.self.invariant size c.draw.ensures.stays_unknown Memory inside.failed (subst (λ (d : Display). IfKnown (g.S.Sink.given inside.sink) (λ given. HasDrawn d c.args.frame.now given (Err Memory) (g.S.Sink.given c.draw.new.sink))) c.prepare.ensures c.in-Err-Memory.ensures.shown) (c.in-Err-Memory.ensures.refused ∙ c.prepare.ensures) (λ is. absurd cc));
    }
