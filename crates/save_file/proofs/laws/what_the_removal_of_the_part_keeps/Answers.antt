use Rattle.save_file.proofs.PartLaws.{cleaned_law}
use Rattle.save_file.proofs.laws.what_the_removal_of_the_part_keeps.Goals as goal

pub returns : goal.returns
returns c = cleaned_law
