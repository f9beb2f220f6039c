-- The name that the loop has come to is one of these.
use Rattle.std.proofs.Common.{sym}
use Rattle.panel_pair.proofs.selecting.paths_in.Goals as goal

pub returns-in-Err-clause-too_long : goal.returns-in-Err-clause-too_long
returns-in-Err-clause-too_long c = λ other.
    let long = c.in-Err.ensures.too_long other in
    record {
      name = c.name-item.result;
      among = (c.loop-name.name-index, c.loop-name-test.true, sym c.name-item.is);
      bytes = long.0;
      long = long.1;
    }
