use Rattle.dm_words.proofs.WordLists.{refused_texts}
use Rattle.dm_words.proofs.files.columns_of.Goals as goal

pub returns-in-Err : goal.returns-in-Err
returns-in-Err c = refused_texts _ _ _ _ _ c.in-Err.field-0 c.text_or.ensures c.text_or-2.ensures c.read.ensures c.in-Err.is
