-- A part adds its newlines to those before it, from either side.
use Rattle.gap_text.proofs.LineCountLemmas.{newlines-part, newlines-part_back}
use Rattle.gap_text.proofs.line_counts.seen_part.Goals as goal

pub returns-in-Front-clause-count : goal.returns-in-Front-clause-count
returns-in-Front-clause-count c = rw c.in-Front.is (newlines-part c.args.half.now c.args.from c.args.to c.requires.ordered)

pub returns-in-Back-clause-count : goal.returns-in-Back-clause-count
returns-in-Back-clause-count c = rw c.in-Back.is (newlines-part_back c.args.half.now c.args.from c.args.to c.requires.ordered c.requires.within)
