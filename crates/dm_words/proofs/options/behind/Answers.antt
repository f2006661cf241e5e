use Rattle.dm_words.proofs.WordLists.{behind_is}
use Rattle.dm_words.proofs.options.behind.Goals as goal

pub returns : goal.returns
returns c = behind_is _ _ _ c.strip_prefix.ensures.cases
