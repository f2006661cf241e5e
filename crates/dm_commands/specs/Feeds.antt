-- Which logs answer the feeds of a run, and the status that they come to.
use Rattle.std.specs.Prelude.{ℕ, ◌≡◌, ◌⊎◌, Bool, true, false, if◌then◌else◌, List, [], length, slice_get, Some}
use Rattle.std.specs.List.{list_any}
use Rattle.dm_input.specs.Input.{Told, IsHeld}
use Rattle.dm_feed.specs.declared.feed.FeedStop.{FeedStop}
use Rattle.dm_feed.specs.declared.feed.FeedStop.TheVariants.{End, Fault, Long}
use Rattle.dm_cert.specs.declared.replies.FeedLog.{FeedLog}
use Rattle.dm_cert.specs.Logs.{IsLogOf}
use Rattle.dm_commands.specs.declared.status.Status.{Status}
use Rattle.dm_commands.specs.declared.status.Status.TheVariants.{Ok, Refused, ReadFault}

-- The log answers the bytes under the name, which are those that the shelf tells; under a name that is told sound no read
-- has failed.
pub record IsLogOfHeld (told : Told) (is_sound : List ℕ → Type 0) (name : List ℕ) (log : FeedLog) : Type 0 where
  pub bytes : List ℕ
  pub held : IsHeld told name bytes
  pub log_of : IsLogOf bytes log
  pub cause : log.stop ≡ Fault → is_sound name → ⊥

-- the name could not be opened: it is not told sound, and its log is empty and ends with a fault
pub record IsLogOfUnopened (is_sound : List ℕ → Type 0) (name : List ℕ) (log : FeedLog) : Type 0 where
  pub none : log.items ≡ []
  pub fault : log.stop ≡ Fault
  pub cause : is_sound name → ⊥

abbrev pub IsLogOfName : Told → (List ℕ → Type 0) → List ℕ → FeedLog → Type 0
IsLogOfName told is_sound name log = IsLogOfHeld told is_sound name log ⊎ IsLogOfUnopened is_sound name log

-- a log for each name, in order
pub record AreLogsOf (told : Told) (is_sound : List ℕ → Type 0) (names : List (List ℕ)) (logs : List FeedLog) : Type 0 where
  pub as_many : length logs ≡ length names
  pub each : (place : ℕ) (name : List ℕ) (log : FeedLog) → slice_get names place ≡ Some name → slice_get logs place ≡ Some log →
      IsLogOfName told is_sound name log

-- ---- the status of logs

abbrev pub is_fault : FeedStop → Bool
is_fault End = false
is_fault Fault = true
is_fault Long = false

abbrev pub is_long : FeedStop → Bool
is_long End = false
is_long Fault = false
is_long Long = true

-- a read fault where some feed ends with one, else a refusal where some feed is too long
abbrev pub status_of : List FeedLog → Status
status_of logs =
    if list_any (λ log. is_fault log.stop) logs then ReadFault
    else (if list_any (λ log. is_long log.stop) logs then Refused else Ok)
