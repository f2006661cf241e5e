-- What is printed of the journeys of a passenger.
use Rattle.std.specs.Prelude.{ℕ, ◌≡◌, List, [], ◌∷◌, ◌++◌, length, codes}
use Rattle.std.specs.Fmt.{decimal}
use Rattle.std.specs.List.{flat_map}
use Rattle.dm_base.specs.declared.ids.StopId.{StopId}
use Rattle.dm_outside.specs.Printing.{joined}
use Rattle.dm_network.specs.Net.{Net, activity_at}
use Rattle.dm_rows.specs.declared.messages.Entry.{Entry}
use Rattle.dm_rows.specs.History.{rows_at}
use Rattle.dm_rows.specs.Rows.{RowsValue}
use Rattle.dm_rows.specs.Timetable.{IsLeast}
use Rattle.dm_follow.specs.Followed.{IsFollowed, IsWhole}
use Rattle.dm_input.specs.Lines.{line_end}
use Rattle.dm_journey.specs.declared.arriving.Journey.{Journey}
use Rattle.dm_journey.specs.Journeys.{AreJourneys}
use Rattle.dm_words.specs.declared.queries.JourneyWords.{JourneyWords}

-- the id of the activity at a place, behind those before it
unfoldable pub step_text : Net → ℕ → List ℕ
step_text net a = joined (codes " " ∷ decimal (activity_at net a).id.0 ∷ [])

-- a journey, with the ids of its activities
unfoldable pub journey_text : Net → Journey → List ℕ
journey_text net journey =
    joined (codes "journey arrival " ∷ decimal journey.arrival ∷ codes " changes " ∷ decimal journey.changes ∷ codes " walk" ∷ [])
    ++ (flat_map (step_text net) journey.walk ++ line_end)

unfoldable pub journeys_text : Net → List Journey → List ℕ
journeys_text net journeys = joined (codes "journeys " ∷ decimal (length journeys) ∷ line_end ∷ []) ++ flat_map (journey_text net) journeys

abbrev pub stop_numbered : ℕ → StopId
stop_numbered number = record { 0 = number }

-- The text is a list of journeys that answers the question in the least timetable of the rows after all entries of the journal, which
-- stands whole in these bytes.
pub record AreJourneysOf (asked : JourneyWords) (net : Net) (start : RowsValue) (penalty : ℕ) (bytes text : List ℕ) : Type 0 where
  pub whole : IsWhole net start penalty bytes
  pub history : List Entry
  pub followed : IsFollowed net start penalty bytes history
  pub times : List ℕ
  pub least : IsLeast net (rows_at net start history (length history)) times
  pub journeys : List Journey
  pub answer :
      AreJourneys net (rows_at net start history (length history)) times (stop_numbered asked.from) (stop_numbered asked.to) asked.after
      asked.changes journeys
  pub is_text : text ≡ journeys_text net journeys
