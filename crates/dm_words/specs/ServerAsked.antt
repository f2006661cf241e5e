-- What the words of a server are, seen by contracts.
use Rattle.dm_words.specs.Asked.{run_of}
use Rattle.dm_words.specs.Serving.{LiveAsked, ServerAsked, ServeOf, BeginOf, TextOf}
use Rattle.dm_words.specs.declared.serve.LiveWords.{LiveWords}
use Rattle.dm_words.specs.declared.serve.LiveWords.TheVariants.{Serve, Begin, Text}
use Rattle.dm_words.specs.declared.serve.ServeWords.{ServeWords}

abbrev pub server_of : ServeWords → ServerAsked
server_of words = record { run = run_of words.run; store = words.store.now }

abbrev pub live_of : LiveWords → LiveAsked
live_of (Serve words) = ServeOf (server_of words)
live_of (Begin words) = BeginOf (server_of words)
live_of (Text words) = TextOf (server_of words)
