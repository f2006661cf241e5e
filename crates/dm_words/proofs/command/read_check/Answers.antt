use Rattle.std.proofs.Common.{◌∙◌, ◌∷◌, [], sym}
use Rattle.dm_words.proofs.OneCommand.{first_name}
use Rattle.dm_words.proofs.command.read_check.Goals as goal

pub returns-in_default-read_files : goal.returns-in_default-read_files
returns-in_default-read_files c = λ asked asks.
    c.in_default-read_files.ensures asked.files (first_name asked.files.folder c.in-Some.folder.now (asked.text ∷ []) (c.in-Some.text.now ∷ [])
    (sym asks.names ∙ c.in-Some.ensures)) asks.files
