-- What is met on a walk over the entries.
use Rattle.session_entries.specs.declared.history.Entry.{Entry}
use Rattle.session_packed.specs.declared.met.Met.{Met}
use Rattle.session_packed.specs.declared.met.Met.TheVariants.{Whole, Made}

-- the entry
abbrev pub entry_in : Met → Entry
entry_in (Whole entry) = entry.now
entry_in (Made entry) = entry
