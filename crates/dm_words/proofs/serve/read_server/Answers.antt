use Rattle.std.proofs.Common.{◌∙◌, ◌∷◌, sym, map, filter, string_bytes}
use Rattle.dm_words.specs.Options.{is_name}
use Rattle.dm_words.proofs.OneCommand.{first_name}
use Rattle.dm_words.proofs.serve.read_server.Goals as goal

pub returns-in_default-read_files : goal.returns-in_default-read_files
returns-in_default-read_files c = λ asked asks.
    c.in_default-read_files.ensures asked.run.files
    (first_name asked.run.files.folder c.in-Some.folder.now (asked.store ∷ asked.run.feeds)
    (filter is_name (map string_bytes c.in-Some.behind_folder.now)) (sym asks.names ∙ c.in-Some.ensures)) asks.files

pub returns-in_default-round_of : goal.returns-in_default-round_of
returns-in_default-round_of c = λ asked asks. c.in_default-round_of.ensures _ asks.batch

pub returns-in_default-workers_of : goal.returns-in_default-workers_of
returns-in_default-workers_of c = λ asked asks. c.in_default-workers_of.ensures _ asks.workers

pub returns-in_default-stops_of : goal.returns-in_default-stops_of
returns-in_default-stops_of c = λ asked asks. c.in_default-stops_of.ensures _ asks.boards
