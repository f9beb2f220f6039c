-- What the newest entries of a history tell: of a job's end that no look has taken up, and of what a job
-- waits with. Histories stand newest first here.
use Rattle.std.specs.Prelude.{Bool, true, false, if◌then◌else◌, List, [], ◌∷◌, Option, Some, None}
use Rattle.std.specs.Option.{option_map}
use Rattle.mc_text.specs.Routes.{Route}
use Rattle.job_reports.specs.Reports.{ends}
use Rattle.job_reports.specs.declared.report.Did.TheVariants.{Ended, Asked as AskedStep}
use Rattle.job_reports.specs.declared.report.Did.TheVariants.{Troubled as TroubledStep}
use Rattle.job_reports.specs.declared.report.Ending.{Ending}
use Rattle.job_reports.specs.declared.report.Ending.TheVariants.{Finished, Aborted, Killed, NoMemory}
use Rattle.job_reports.specs.declared.waits.Waits.{Waits}
use Rattle.job_reports.specs.declared.waits.Waits.TheVariants as waits
use Rattle.session_entries.specs.declared.history.Event.{Event}
use Rattle.session_entries.specs.declared.history.Event.TheVariants.{Look, Step}
use Rattle.session_entries.specs.declared.history.Entry.{Entry}
use Rattle.ui_words.specs.declared.message.Message.{Message}
use Rattle.ui_words.specs.declared.message.Message.TheVariants.{OutOfMemory, PartLeft}

-- what is told of a job's end: that memory ran out, and the part that it left
abbrev pub told_end : Ending → Option Route → Option Message
told_end NoMemory part = Some (OutOfMemory part)
told_end Finished part = option_map PartLeft part
told_end Aborted part = option_map PartLeft part
told_end Killed part = option_map PartLeft part

-- what is to be told of an event, where it is a job's end
abbrev pub end_news : Event → Option Message
end_news (Step id (Ended ending part)) = told_end ending part
end_news event = None

-- a job's end, or a look, which takes up each earlier end
abbrev pub is_end_or_look : Event → Bool
is_end_or_look (Step id did) = ends did
is_end_or_look (Look refusals) = true
is_end_or_look event = false

-- what is to be told of the last job's end, if no look has taken this end up
abbrev pub news_left : List Entry → Option Message
news_left [] = None
news_left (e ∷ older) = if is_end_or_look e.what then end_news e.what else news_left older

-- the entry reports a step
abbrev pub is_report : Event → Bool
is_report (Step id did) = true
is_report event = false

-- the question or the trouble that it tells of
abbrev pub reported_waits : Event → Option Waits
reported_waits (Step id (AskedStep question)) = Some (waits.Question question)
reported_waits (Step id (TroubledStep trouble)) = Some (waits.Trouble trouble)
reported_waits event = None

-- the question or the trouble of the newest report, if it tells of one
abbrev pub waits_told : List Entry → Option Waits
waits_told [] = None
waits_told (e ∷ older) = if is_report e.what then reported_waits e.what else waits_told older
