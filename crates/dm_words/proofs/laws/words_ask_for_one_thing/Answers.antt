use Rattle.dm_words.proofs.OneCommand.{one_command}
use Rattle.dm_words.proofs.laws.words_ask_for_one_thing.Goals as goal

pub returns : goal.returns
returns c = one_command
