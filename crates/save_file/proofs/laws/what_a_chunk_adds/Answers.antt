use Rattle.save_file.proofs.PartLaws.{chunk_law}
use Rattle.save_file.proofs.laws.what_a_chunk_adds.Goals as goal

pub returns : goal.returns
returns c = chunk_law
