-- A step leads where the definition says, and a link's text goes before what is left.
use Rattle.std.proofs.Common.{◌≡◌, ◌≤◌, length, Ok, ap, ◌∙◌, sym, subst}
use Rattle.tree_trait.specs.Change.{current}
use Rattle.resolving.specs.declared.looking.Step.TheVariants.{Into, Across}
use Rattle.resolving.specs.Places.{end_of}
use Rattle.resolving.specs.Resolution.{step_from, IsShort}
use Rattle.resolving.proofs.Walks.{walk-goes_into, crossed, crossed_none, crossed_nearer}
use Rattle.resolving.proofs.walking.advance.Goals as goal

pub returns-in-Into-clause-goes : goal.returns-in-Into-clause-goes
returns-in-Into-clause-goes g c log tells =
    let step : step_from (current log) c.args.place.folder c.args.component.now ≡ Ok (Into c.in-Into.folder) = cc (c.in_ok-folder.ensures.answer log tells) in
    walk-goes_into (current log) c.args.wanted c.args.place.links c.args.place.folder c.args.component.now c.args.place.ahead c.in-Into.folder step
    ∙ ap (end_of (current log) c.args.wanted) (sym c.goes_into.ensures)

pub returns-in-Ok-clause-goes : goal.returns-in-Ok-clause-goes
returns-in-Ok-clause-goes g c log tells =
    let step : step_from (current log) c.args.place.folder c.args.component.now ≡ Ok (Across c.as_str.result.now) = cc (c.in_ok-folder.ensures.answer log tells) in
    crossed (current log) c.args.wanted c.args.place.links c.args.place.folder c.args.component.now c.args.place.ahead c.as_str.result.now c.in-Ok.further
    step c.in-Ok.ensures.begins c.in-Ok.ensures.ahead c.in-Ok.ensures.links

pub returns-in-Ok-clause-nearer : goal.returns-in-Ok-clause-nearer
returns-in-Ok-clause-nearer g c =
    let short : length c.as_str.result.now ≤ 4095 = subst IsShort (let is : c.in_ok-folder.field-0 ≡ Across c.as_str.result.now = cc in is) c.in_ok-folder.ensures.short in
    crossed_nearer c.args.place.links c.in-Ok.further.links c.as_str.result.now c.args.place.ahead c.in-Ok.further.ahead c.in-Ok.ensures.ahead c.in-Ok.ensures.links short

pub returns-clause-refused : goal.returns-clause-refused
returns-clause-refused g c log tells =
    let step : step_from (current log) c.args.place.folder c.args.component.now ≡ Ok (Across c.as_str.result.now) = cc (c.in_ok-folder.ensures.answer log tells) in
    crossed_none (current log) c.args.wanted c.args.place.links c.args.place.folder c.args.component.now c.args.place.ahead c.as_str.result.now c.in-Err.error
    step c.in-Err.ensures.refused
