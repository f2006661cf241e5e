use Rattle.std.proofs.Common.{Ok, rules}
use Rattle.dm_lintim.specs.Files.{ReadsActivities, ReadsDelays, ReadsIds}
use Rattle.dm_input.specs.declared.flaws.File.TheVariants.{Events, Activities, EventDelays, ActivityDelays, CancelledEvents}
use Rattle.dm_input.specs.Input.{file_name}
use Rattle.dm_words.specs.Asked.{files_of}
use Rattle.dm_input.specs.Stops.{StopsOpening}
use Rattle.dm_input.proofs.Fits.{events_fit, activities_fit, delays_are_within}
use Rattle.dm_input.proofs.Staging.{kept_then, answers_back, three_read, four_read, stops_back, stops_event_delays, stops_activity_delays, stops_cancelled, files_answer}
use Rattle.dm_input.proofs.reading.read_files.Goals as goal

pub returns-in_err-event_delays-clause-stops : goal.returns-in_err-event_delays-clause-stops
returns-in_err-event_delays-clause-stops g c =
    let asked = files_of c.args.words.now in
    let first = c.in_ok-events.ensures.kept in
    let second = kept_then first c.in_ok-activities.ensures.kept in
    let activities = answers_back (file_name asked Activities) Activities (ReadsActivities asked.columns.activities) (Ok c.in_ok-activities.activities.items) first c.in_ok-activities.ensures.rows in
    let stops = stops_back (file_name asked EventDelays) EventDelays ReadsDelays c.in_err-event_delays.field-0.0 second c.in_err-event_delays.ensures.stops in
    let fact : StopsOpening (g.H.Shelf.files c.args.shelf.now) (g.H.Shelf.is_sound c.args.shelf.now) asked c.in_err-event_delays.field-0.0 =
    stops_event_delays _ _ asked c.in_ok-events.events.items c.in_ok-activities.activities.items _ c.in_ok-events.ensures.rows activities stops in
    search rules

pub returns-in_err-activity_delays-clause-stops : goal.returns-in_err-activity_delays-clause-stops
returns-in_err-activity_delays-clause-stops g c =
    let asked = files_of c.args.words.now in
    let read = three_read asked c.in_ok-activities.activities.items c.in_ok-event_delays.event_delays.items
    c.in_ok-events.ensures.kept c.in_ok-activities.ensures.kept c.in_ok-event_delays.ensures.kept c.in_ok-activities.ensures.rows c.in_ok-event_delays.ensures.rows in
    let stops = stops_back (file_name asked ActivityDelays) ActivityDelays ReadsDelays c.in_err-activity_delays.field-0.0 read.kept c.in_err-activity_delays.ensures.stops in
    let fact : StopsOpening (g.H.Shelf.files c.args.shelf.now) (g.H.Shelf.is_sound c.args.shelf.now) asked c.in_err-activity_delays.field-0.0 =
    stops_activity_delays _ _ asked c.in_ok-events.events.items c.in_ok-activities.activities.items c.in_ok-event_delays.event_delays.items _
    c.in_ok-events.ensures.rows read.activities read.delays stops in
    search rules

pub returns-in_err-cancelled-clause-stops : goal.returns-in_err-cancelled-clause-stops
returns-in_err-cancelled-clause-stops g c =
    let asked = files_of c.args.words.now in
    let three = three_read asked c.in_ok-activities.activities.items c.in_ok-event_delays.event_delays.items
    c.in_ok-events.ensures.kept c.in_ok-activities.ensures.kept c.in_ok-event_delays.ensures.kept c.in_ok-activities.ensures.rows c.in_ok-event_delays.ensures.rows in
    let read = four_read asked c.in_ok-activities.activities.items c.in_ok-event_delays.event_delays.items c.in_ok-activity_delays.activity_delays.items
    three c.in_ok-activity_delays.ensures.kept c.in_ok-activity_delays.ensures.rows in
    let stops = stops_back (file_name asked CancelledEvents) CancelledEvents ReadsIds c.in_err-cancelled.field-0.0 read.kept c.in_err-cancelled.ensures.stops in
    let fact : StopsOpening (g.H.Shelf.files c.args.shelf.now) (g.H.Shelf.is_sound c.args.shelf.now) asked c.in_err-cancelled.field-0.0 =
    stops_cancelled _ _ asked c.in_ok-events.events.items c.in_ok-activities.activities.items c.in_ok-event_delays.event_delays.items c.in_ok-activity_delays.activity_delays.items _
    c.in_ok-events.ensures.rows read.activities read.delays read.act_delays stops in
    search rules

pub returns-clause-rows : goal.returns-clause-rows
returns-clause-rows g c =
    let asked = files_of c.args.words.now in
    let three = three_read asked c.in_ok-activities.activities.items c.in_ok-event_delays.event_delays.items
    c.in_ok-events.ensures.kept c.in_ok-activities.ensures.kept c.in_ok-event_delays.ensures.kept c.in_ok-activities.ensures.rows c.in_ok-event_delays.ensures.rows in
    let read = four_read asked c.in_ok-activities.activities.items c.in_ok-event_delays.event_delays.items c.in_ok-activity_delays.activity_delays.items
    three c.in_ok-activity_delays.ensures.kept c.in_ok-activity_delays.ensures.rows in
    files_answer _ asked c.in_ok-events.events.items c.in_ok-activities.activities.items c.in_ok-event_delays.event_delays.items c.in_ok-activity_delays.activity_delays.items
    c.in_ok-cancelled.cancelled.items c.in_ok-events.ensures.rows read.activities read.delays read.act_delays
    (answers_back (file_name asked CancelledEvents) CancelledEvents ReadsIds (Ok c.in_ok-cancelled.cancelled.items) read.kept c.in_ok-cancelled.ensures.rows)

pub returns-clause-fit : goal.returns-clause-fit
returns-clause-fit g c =
    let asked = files_of c.args.words.now in
    let told = g.H.Shelf.files c.args.shelf.now in
    let three = three_read asked c.in_ok-activities.activities.items c.in_ok-event_delays.event_delays.items
    c.in_ok-events.ensures.kept c.in_ok-activities.ensures.kept c.in_ok-event_delays.ensures.kept c.in_ok-activities.ensures.rows c.in_ok-event_delays.ensures.rows in
    let read = four_read asked c.in_ok-activities.activities.items c.in_ok-event_delays.event_delays.items c.in_ok-activity_delays.activity_delays.items
    three c.in_ok-activity_delays.ensures.kept c.in_ok-activity_delays.ensures.rows in
    record {
      events = events_fit asked.columns.events told (file_name asked Events) c.in_ok-events.events.items c.in_ok-events.ensures.rows;
      activities = activities_fit asked.columns.activities told (file_name asked Activities) c.in_ok-activities.activities.items read.activities;
      event_delays = delays_are_within told (file_name asked EventDelays) c.in_ok-event_delays.event_delays.items read.delays;
      activity_delays = delays_are_within told (file_name asked ActivityDelays) c.in_ok-activity_delays.activity_delays.items read.act_delays;
    }
