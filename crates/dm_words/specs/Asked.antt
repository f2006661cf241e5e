-- What the words of a command are, seen by contracts.
use Rattle.std.specs.Prelude.{ℕ, List, map, filter, string_bytes}
use Rattle.std.specs.Option.{option_map}
use Rattle.dm_words.specs.Options.{is_name}
use Rattle.dm_words.specs.Words.{Command, FilesAsked, RunAsked, CheckAsked, GenAsked, QueryAsked, RunOf, CheckOf, GenOf, QueryOf}
use Rattle.dm_words.specs.declared.files.FileWords.{FileWords}
use Rattle.dm_words.specs.declared.options.Names.{Names}
use Rattle.dm_words.specs.declared.command.RunWords.{RunWords}
use Rattle.dm_words.specs.declared.command.CheckWords.{CheckWords}
use Rattle.dm_words.specs.declared.command.GenWords.{GenWords}
use Rattle.dm_words.specs.declared.command.CommandWords.{CommandWords}
use Rattle.dm_words.specs.declared.command.CommandWords.TheVariants.{Run, Check, Gen, Query}
use Rattle.dm_words.specs.declared.queries.QueryWords.{QueryWords}

abbrev pub files_of : FileWords → FilesAsked
files_of words =
    record {
      folder = words.folder.now;
      penalty = words.penalty;
      plans = words.plans;
      columns = words.columns;
      event_delays = option_map (λ x. x.now) words.event_delays;
      activity_delays = option_map (λ x. x.now) words.activity_delays;
      cancelled = option_map (λ x. x.now) words.cancelled;
    }

abbrev pub names_in : Names → List (List ℕ)
names_in names = filter is_name (map string_bytes names.words.now)

abbrev pub run_of : RunWords → RunAsked
run_of words =
    record {
      files = files_of words.files;
      feeds = names_in words.feeds;
      batch = words.batch;
      workers = words.workers;
      boards = words.boards;
    }

abbrev pub check_of : CheckWords → CheckAsked
check_of words = record { files = files_of words.files; text = words.text.now }

abbrev pub gen_of : GenWords → GenAsked
gen_of words = record { number = words.number; trains = words.trains; penalty = words.penalty }

abbrev pub query_of : QueryWords → QueryAsked
query_of words = record { files = files_of words.files; text = words.text.now; query = words.query }

abbrev pub command_of : CommandWords → Command
command_of (Run words) = RunOf (run_of words)
command_of (Check words) = CheckOf (check_of words)
command_of (Gen words) = GenOf (gen_of words)
command_of (Query words) = QueryOf (query_of words)
