use Rattle.std.proofs.Common.{rules}
use Rattle.dm_words.specs.Asked.{files_of}
use Rattle.dm_input.specs.Stops.{StopsOpening}
use Rattle.dm_input.specs.Inside.Stages.{rows_in}
use Rattle.dm_input.proofs.Staging.{stops_network, stops_start, opening_answer}
use Rattle.dm_input.proofs.opening.read_opening.Goals as goal

pub returns-in_err-net-clause-stops : goal.returns-in_err-net-clause-stops
returns-in_err-net-clause-stops g c =
    let fact : StopsOpening (g.H.Shelf.files c.args.shelf.now) (g.H.Shelf.is_sound c.args.shelf.now) (files_of c.args.words.now) c.in_err-net.field-0.0 =
    stops_network _ _ _ (rows_in c.in_ok-files.files) _ c.in_ok-files.ensures.rows c.in_err-net.ensures.stops in
    search rules

pub make_rows-requires-clause-events : goal.make_rows-requires-clause-events
make_rows-requires-clause-events g c = rw c.as_slice.ensures.value c.in_ok-files.ensures.fit.event_delays

pub make_rows-requires-clause-activities : goal.make_rows-requires-clause-activities
make_rows-requires-clause-activities g c = rw c.as_slice-2.ensures.value c.in_ok-files.ensures.fit.activity_delays

pub returns-in_err-rows-clause-stops : goal.returns-in_err-rows-clause-stops
returns-in_err-rows-clause-stops g c =
    let stops = rw (c.as_slice.ensures.value, c.as_slice-2.ensures.value, c.as_slice-3.ensures.value) at c.in_err-rows.ensures.stops in
    let fact : StopsOpening (g.H.Shelf.files c.args.shelf.now) (g.H.Shelf.is_sound c.args.shelf.now) (files_of c.args.words.now) c.in_err-rows.field-0.0 =
    stops_start _ _ _ (rows_in c.in_ok-files.files) c.in_ok-net.net _ c.in_ok-files.ensures.rows c.in_ok-net.ensures.made stops in
    search rules

pub returns-clause-opening : goal.returns-clause-opening
returns-clause-opening g c =
    let made = rw (c.as_slice.ensures.value, c.as_slice-2.ensures.value, c.as_slice-3.ensures.value) at c.in_ok-rows.ensures.made in
    opening_answer _ (files_of c.args.words.now) (rows_in c.in_ok-files.files) c.in_ok-net.net c.in_ok-rows.rows c.in_ok-files.ensures.rows c.in_ok-net.ensures.made made
