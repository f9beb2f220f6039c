-- What a question tells.
use Rattle.mc_text.specs.Routes.{Route}
use Rattle.tree_trait.specs.declared.calls.Meta.{Meta}
use Rattle.job_reports.specs.declared.question.Question.{Question}

-- the question on two paths, at which these things stand
abbrev pub question_on : Route → Meta → Route → Meta → Question
question_on source source_meta target target_meta = record {
  source = source;
  target = target;
  source_size = source_meta.size;
  target_size = target_meta.size;
  source_time = source_meta.mtime;
  target_time = target_meta.mtime;
}
