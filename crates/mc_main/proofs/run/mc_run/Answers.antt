-- Each promise of a run, out of those that `run_as_asked` says by themselves.
use Rattle.mc_main.proofs.run.mc_run.Goals as goal

pub returns-clause-tree : goal.returns-clause-tree
returns-clause-tree g c opening opening_is now is = record {
  safe = c.run_as_asked.ensures.safe opening opening_is now is;
  whole = c.run_as_asked.ensures.whole opening opening_is now is;
  finished = c.run_as_asked.ensures.finished opening opening_is now is;
  stays = c.run_as_asked.ensures.stays opening opening_is now is;
  outcome = c.run_as_asked.ensures.outcome opening opening_is now is;
  answered = c.run_as_asked.ensures.answered opening opening_is now is;
  calmed = c.run_as_asked.ensures.calmed opening opening_is now is;
  replayed = c.run_as_asked.ensures.replayed opening opening_is now is;
}

pub returns-clause-ended : goal.returns-clause-ended
returns-clause-ended g c = record {
  idle = c.run_as_asked.ensures.idle;
  counted = c.run_as_asked.ensures.counted;
  counts = c.run_as_asked.ensures.faults;
}

pub returns-clause-printed : goal.returns-clause-printed
returns-clause-printed g c = record {
  usage = c.run_as_asked.ensures.usage;
  prints = c.run_as_asked.ensures.prints;
  text = c.run_as_asked.ensures.printed_text;
  untouched = c.run_as_asked.ensures.untouched;
}

pub returns-clause-start : goal.returns-clause-start
returns-clause-start g c = record {
  cause = c.run_as_asked.ensures.start;
  refuses = c.run_as_asked.ensures.refuses_start;
  line = c.run_as_asked.ensures.start_line;
}

pub returns-clause-status : goal.returns-clause-status
returns-clause-status g c = record {
  most = c.run_as_asked.ensures.statuses;
  keyboard = c.run_as_asked.ensures.keyboard;
  screen = c.run_as_asked.ensures.screen;
  complete = c.run_as_asked.ensures.complete;
  lost = c.run_as_asked.ensures.lost;
}
