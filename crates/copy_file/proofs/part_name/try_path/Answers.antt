-- A path is free where nothing bars it and nothing stands there.
use Rattle.std.proofs.Common.{◌∙◌, sym, refl}
use Rattle.tree_trait.specs.Change.{current}
use Rattle.copy_file.proofs.Naming.{barred, open_path}
use Rattle.job_reports.proofs.Reading.{absent_stops, absent_missing}
use Rattle.copy_file.proofs.part_name.try_path.Goals as goal

pub returns-then-is_barred-clause-known : goal.returns-then-is_barred-clause-known
returns-then-is_barred-clause-known g c = λ log known.
    barred (current log) (g.P.PartTest.is_free c.args.parts.now) c.args.item.now c.args.path c.requires (sym c.is_barred.ensures ∙ c.if-is_barred.true)

pub returns-in-Ok-missing_or_trouble-clause-known : goal.returns-in-Ok-missing_or_trouble-clause-known
returns-in-Ok-missing_or_trouble-clause-known g c = λ log known. (
  refl,
  open_path (current log) (g.P.PartTest.is_free c.args.parts.now) c.args.item.now c.args.path (sym c.is_barred.ensures ∙ c.if-is_barred.false)
      (absent_missing _ log c.args.path c.in-Err.error c.in-Ok-missing_or_trouble.field-0 (c.in-Err.ensures.answer log known) c.in-Ok-missing_or_trouble.ensures),
)

pub returns-in-Err-missing_or_trouble-clause-known : goal.returns-in-Err-missing_or_trouble-clause-known
returns-in-Err-missing_or_trouble-clause-known g c = λ log known.
    absent_stops _ log c.args.path c.in-Err.error c.in-Err-missing_or_trouble.trouble (c.in-Err.ensures.answer log known) c.in-Err-missing_or_trouble.ensures
