-- Words that ask for something, and words that ask for nothing.
use Rattle.std.proofs.Common.{◌≡◌, ◌≤◌, ℕ, List, [], ◌∷◌, length, Option, None, Some, codes, refl, ap, ◌∙◌, arith}
use Rattle.std.specs.Option.{MatchOption}
use Rattle.std.specs.Prelude.{Result, Ok, Err, IfOk}
use Rattle.dm_base.specs.declared.limits.TheConstants.{BOARDS}
use Rattle.dm_words.specs.Ids.{AreIdsOrNone}
use Rattle.dm_words.specs.Words.{Command, CheckAsked, GenAsked, RunOf, CheckOf, GenOf, QueryOf, Asks, AsksCheck, AsksGen, AsksNothing, AreStopsOf, boards_of_command}
use Rattle.dm_words.specs.Asked.{command_of}
use Rattle.dm_words.specs.declared.command.CommandWords.{CommandWords}
use Rattle.dm_words.specs.Queries.{kind_of}
use Rattle.dm_words.proofs.OneCommand.{differ, no_word_check, no_word_gen, one_command}

pub asks_no_check : (word : List ℕ) (rest : List (List ℕ)) → word ≡ codes "check" → ((asked : CheckAsked) → AsksCheck rest asked → ⊥) → AsksNothing (word ∷ rest)
asks_no_check word rest is none (RunOf asked) asks = differ (codes "run") (codes "check") word asks.0 is refl
asks_no_check word rest is none (CheckOf asked) asks = none asked asks.1
asks_no_check word rest is none (GenOf asked) asks = differ (codes "gen") (codes "check") word asks.0 is refl
asks_no_check word rest is none (QueryOf asked) asks = no_word_check (kind_of asked.query) word asks.0 is

pub asks_no_gen : (word : List ℕ) (rest : List (List ℕ)) → word ≡ codes "gen" → ((asked : GenAsked) → AsksGen rest asked → ⊥) → AsksNothing (word ∷ rest)
asks_no_gen word rest is none (RunOf asked) asks = differ (codes "run") (codes "gen") word asks.0 is refl
asks_no_gen word rest is none (CheckOf asked) asks = differ (codes "check") (codes "gen") word asks.0 is refl
asks_no_gen word rest is none (GenOf asked) asks = none asked asks.1
asks_no_gen word rest is none (QueryOf asked) asks = no_word_gen (kind_of asked.query) word asks.0 is

pub asks_same : (words others : List (List ℕ)) (r : Option CommandWords) → words ≡ others
    → MatchOption r (AsksNothing others) (λ asked. Asks others (command_of asked))
    → MatchOption r (AsksNothing words) (λ asked. Asks words (command_of asked))
asks_same words others r is h = rw is h

-- the boards of what words ask for are those of whatever they ask for
pub stops_asked : (words : List (List ℕ)) (command : Command) (stops : List ℕ) → Asks words command → stops ≡ boards_of_command command → AreStopsOf words stops
stops_asked words command stops asks is =
    record {
      asked = λ other asks_other. is ∙ ap boards_of_command (one_command words command other asks asks_other);
      nothing = λ none. absurd (none command asks);
    }

few_given : (value : Option (List ℕ)) (stops : List ℕ) → AreIdsOrNone BOARDS value stops → length stops ≤ BOARDS
few_given None stops none = omega (arith, ap length none)
few_given (Some text) stops are = are.few

-- words ask for few boards
pub few_boards : (words : List (List ℕ)) (command : Command) → Asks words command → length (boards_of_command command) ≤ BOARDS
few_boards [] (RunOf asked) asks = absurd asks
few_boards (word ∷ words) (RunOf asked) asks = few_given asks.1.boards.value asked.boards asks.1.boards.are
few_boards words (CheckOf asked) asks = omega arith
few_boards words (GenOf asked) asks = omega arith
few_boards words (QueryOf asked) asks = omega arith

pub if_ok_then : {T E : Type 0} (P Q : T → Type 0) (r : Result T E) → IfOk r P → ((v : T) → P v → Q v) → IfOk r Q
if_ok_then P Q (Ok v) h f = f v h
if_ok_then P Q (Err e) h f = h
