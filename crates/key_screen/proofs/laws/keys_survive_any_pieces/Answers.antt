use Rattle.key_screen.proofs.CutLemmas.{decoded_singly-is, decoded_keys-append}
use Rattle.key_screen.proofs.laws.keys_survive_any_pieces.Goals as goal

pub returns-clause-one_by_one : goal.returns-clause-one_by_one
returns-clause-one_by_one c = decoded_singly-is

pub returns-clause-in_two : goal.returns-clause-in_two
returns-clause-in_two c = decoded_keys-append
