-- What the words of `serve` and `text` ask for, and what goes with it.
use Rattle.std.specs.Prelude.{ℕ, ◌≤◌, ◌<◌, ◌^◌, List, length}
use Rattle.dm_base.specs.declared.limits.TheConstants.{FEEDS, PENALTY, WORKERS}
use Rattle.dm_cert.specs.Answers.{Setting}
use Rattle.dm_input.specs.Input.{Opening}
use Rattle.dm_words.specs.Serving.{AsksServer, ServerAsked}
use Rattle.dm_words.specs.declared.files.TheConstants.{PLANS}
use Rattle.dm_restore.specs.declared.heads.Head.{Head}

-- some words ask for this
pub record IsAsked (asked : ServerAsked) : Type 0 where
  pub words : List (List ℕ)
  pub asks : AsksServer words asked

-- the numbers of words that ask for a server
pub record IsWithin (asked : ServerAsked) : Type 0 where
  pub penalty : asked.run.files.penalty ≤ PENALTY
  pub plans : (1 ≤ asked.run.files.plans) × (asked.run.files.plans ≤ PLANS)
  pub some_feed : 1 ≤ length asked.run.feeds
  pub few_feeds : length asked.run.feeds ≤ FEEDS
  pub some_line : 1 ≤ asked.run.batch
  pub few_lines : asked.run.batch < 2 ^ 32
  pub workers : (1 ≤ asked.run.workers) × (asked.run.workers ≤ WORKERS)

-- what goes with the journal
abbrev pub head_of : ServerAsked → Head
head_of asked = record { penalty = asked.run.files.penalty; plans = asked.run.files.plans; feeds = length asked.run.feeds }

-- what answers go by
abbrev pub setting_for : ServerAsked → Opening → Setting
setting_for asked opening =
    record { net = opening.net; start = opening.rows; penalty = asked.run.files.penalty; plans = asked.run.files.plans; version = 2 }
