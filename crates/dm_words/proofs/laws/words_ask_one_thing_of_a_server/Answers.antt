use Rattle.dm_words.proofs.ServerWords.{one_live}
use Rattle.dm_words.proofs.laws.words_ask_one_thing_of_a_server.Goals as goal

pub returns : goal.returns
returns c = one_live
