use Rattle.dm_words.proofs.ServerWords.{no_command}
use Rattle.dm_words.proofs.laws.words_of_a_server_are_no_command.Goals as goal

pub returns : goal.returns
returns c = no_command
