-- The end of keys is written down.
use Rattle.std.proofs.Common.{rules, ◌≡◌, ◌∷◌, false, ap, ◌∙◌, arith}
use Rattle.session_entries.specs.declared.history.Entry.{Entry}
use Rattle.mc_desk.proofs.Closing.{closed_whole}
use Rattle.mc_desk.proofs.session.Session.close.Goals as goal

pub invariant_of-self : goal.invariant_of-self
invariant_of-self g c =
    let inside = c.self.inside in
    let unclosed : inside.standing.closed ≡ false = search rules in
    let count = c.faults.result in
    let counted = c.faults.ensures in
    let had = c.self.invariant.counted in
    record {
      desk = closed_whole _ _ _ _ _ c.note.new.self _ inside.standing c.close.new.self _ _ _ _ count c.self.invariant.desk unclosed (omega (arith, counted, had))
          (c.note.ensures.added ∙ ap (λ (e : Entry). e ∷ inside.log.newest) c.plain_entry-closing.ensures) c.note.ensures.room c.close.ensures;
      counted = search rules;
      spawner = c.self.invariant.spawner;
    }
