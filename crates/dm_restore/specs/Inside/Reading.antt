-- What is read from the blocks behind the first.
use Rattle.std.specs.Prelude.{ℕ, ◌≡◌, ◌+◌, List, ◌++◌, length, map, All}
use Rattle.std.specs.List.{flat_map}
use Rattle.dm_cert.specs.declared.replies.LogItem.{LogItem}
use Rattle.dm_store.specs.Blocks.{block, IsEnd}
use Rattle.dm_tape.specs.Rounds.{round_text, IsTapeRound}
use Rattle.dm_tape.specs.Laws.{IsKeptPart}
use Rattle.dm_book.specs.Books.{logs_after}
use Rattle.dm_restore.specs.Restoring.{IsNoRound}
use Rattle.dm_restore.specs.declared.stops.RestoreStop.{RestoreStop}
use Rattle.dm_restore.specs.declared.stops.RestoreStop.TheVariants.{OutOfMemory, Form}

-- the content is the text of this round, which is for all feeds, and whose items can stand in print
pub record IsWholeRound (feeds : ℕ) (content : List ℕ) (round : List (List LogItem)) : Type 0 where
  pub text : content ≡ round_text round
  pub whole : length round ≡ feeds
  pub tape : IsTapeRound round
  pub kept : All IsKeptPart round

-- the rounds are for all feeds, and of items that can stand in print
pub record AreWholeRounds (feeds : ℕ) (rounds : List (List (List LogItem))) : Type 0 where
  pub whole : All (λ round. length round ≡ feeds) rounds
  pub tape : All IsTapeRound rounds
  pub kept : All (All IsKeptPart) rounds

-- the bytes are blocks of rounds, and an end that is no block; the logs are what the rounds answered
pub record HasRounds (feeds : ℕ) (bytes : List ℕ) (logs : List (List LogItem)) : Type 0 where
  pub rounds : List (List (List LogItem))
  pub end : List ℕ
  pub split : bytes ≡ flat_map block (map round_text rounds) ++ end
  pub is_end : IsEnd end
  pub are_whole : AreWholeRounds feeds rounds
  pub logs_are : logs ≡ logs_after feeds rounds

-- behind blocks of rounds stands a block that is none; it has this number in a file where one block stands before the bytes
pub record HasNoRound (feeds : ℕ) (bytes : List ℕ) (number : ℕ) : Type 0 where
  pub rounds : List (List (List LogItem))
  pub content : List ℕ
  pub rest : List ℕ
  pub split : bytes ≡ flat_map block (map round_text rounds) ++ (block content ++ rest)
  pub are_whole : AreWholeRounds feeds rounds
  pub number_is : number ≡ length rounds + 2
  pub misshapen : IsNoRound feeds content

abbrev pub StopsReading : ℕ → List ℕ → RestoreStop → Type 0
StopsReading feeds bytes OutOfMemory = Unit {0}
StopsReading feeds bytes (Form number) = HasNoRound feeds bytes number
StopsReading feeds bytes _ = ⊥
