use Rattle.tagging.proofs.pattern.Pattern.found_among.Goals as goal

pub returns-in_ok-regex_of-in-Regex : goal.returns-in_ok-regex_of-in-Regex
returns-in_ok-regex_of-in-Regex c =
    rw (← c.self.view_is, c.in-Regex.is)
    (rw (c.in_ok-regex_of-in-Regex.ensures, c.as_str-in-Regex.ensures.value) at c.found_among-in-Regex-2.ensures)
