use Rattle.std.proofs.Common.{◌++◌, length}
use Rattle.std.specs.List.{flat_map}
use Rattle.dm_cert.specs.RunTexts.{entries_text, logs_text, note_text, timetable_text, boards_text, heading_text, ending_text, run_text}
use Rattle.dm_outside.proofs.Printing.{prints_fault, prints_fault_at, prints_then_fault, prints_last}
use Rattle.dm_report.specs.Printed.{printed_run}
use Rattle.dm_report.proofs.Printed.{breaks_as, prints_last_as, run_is}
use Rattle.dm_report.proofs.runs.put_run.Goals as goal

pub returns-in_default : goal.returns-in_default
returns-in_default g c =
    let fault = rw c.as_slice-entries.ensures at c.in_default.ensures in
    breaks_as (run_is (printed_run c.args.run.now)) (prints_fault (entries_text 1 c.args.run.now.history.now.entries ++ (logs_text 2 1 c.args.run.now.logs.now ++ (boards_text (length c.args.run.now.notes.now) ++ (flat_map note_text c.args.run.now.notes.now ++ (heading_text (length c.args.run.now.history.now.entries) ++ (timetable_text c.args.run.now.net.now c.args.run.now.times.now ++ (ending_text c.args.run.now.cost))))))) fault)

pub returns-in_default-put_entries : goal.returns-in_default-put_entries
returns-in_default-put_entries g c =
    let done-1 = rw c.as_slice-entries.ensures at c.in-Ok.ensures in
    let fault = rw c.as_slice-entries.ensures at c.in_default-put_entries.ensures in
    breaks_as (run_is (printed_run c.args.run.now)) (prints_fault_at (logs_text 2 1 c.args.run.now.logs.now ++ (boards_text (length c.args.run.now.notes.now) ++ (flat_map note_text c.args.run.now.notes.now ++ (heading_text (length c.args.run.now.history.now.entries) ++ (timetable_text c.args.run.now.net.now c.args.run.now.times.now ++ (ending_text c.args.run.now.cost)))))) done-1 fault)

pub returns-in_default-put_logs : goal.returns-in_default-put_logs
returns-in_default-put_logs g c =
    let done-1 = rw c.as_slice-entries.ensures at c.in-Ok.ensures in
    let done-2 = rw c.as_slice-entries.ensures at c.in-Ok-put_entries.ensures in
    breaks_as (run_is (printed_run c.args.run.now)) (prints_then_fault done-1 (prints_fault_at (boards_text (length c.args.run.now.notes.now) ++ (flat_map note_text c.args.run.now.notes.now ++ (heading_text (length c.args.run.now.history.now.entries) ++ (timetable_text c.args.run.now.net.now c.args.run.now.times.now ++ (ending_text c.args.run.now.cost))))) done-2 c.in_default-put_logs.ensures))

pub returns-in_default-put_boards : goal.returns-in_default-put_boards
returns-in_default-put_boards g c =
    let done-1 = rw c.as_slice-entries.ensures at c.in-Ok.ensures in
    let done-2 = rw c.as_slice-entries.ensures at c.in-Ok-put_entries.ensures in
    breaks_as (run_is (printed_run c.args.run.now)) (prints_then_fault done-1 (prints_then_fault done-2 (prints_fault_at (flat_map note_text c.args.run.now.notes.now ++ (heading_text (length c.args.run.now.history.now.entries) ++ (timetable_text c.args.run.now.net.now c.args.run.now.times.now ++ (ending_text c.args.run.now.cost)))) c.in-Ok-put_logs.ensures c.in_default-put_boards.ensures)))

pub returns-in_default-put_notes : goal.returns-in_default-put_notes
returns-in_default-put_notes g c =
    let done-1 = rw c.as_slice-entries.ensures at c.in-Ok.ensures in
    let done-2 = rw c.as_slice-entries.ensures at c.in-Ok-put_entries.ensures in
    breaks_as (run_is (printed_run c.args.run.now)) (prints_then_fault done-1 (prints_then_fault done-2 (prints_then_fault c.in-Ok-put_logs.ensures (prints_fault_at (heading_text (length c.args.run.now.history.now.entries) ++ (timetable_text c.args.run.now.net.now c.args.run.now.times.now ++ (ending_text c.args.run.now.cost))) c.in-Ok-put_boards.ensures c.in_default-put_notes.ensures))))

pub returns-in_default-put_heading : goal.returns-in_default-put_heading
returns-in_default-put_heading g c =
    let done-1 = rw c.as_slice-entries.ensures at c.in-Ok.ensures in
    let done-2 = rw c.as_slice-entries.ensures at c.in-Ok-put_entries.ensures in
    let fault = rw c.as_slice-entries.ensures at c.in_default-put_heading.ensures in
    breaks_as (run_is (printed_run c.args.run.now)) (prints_then_fault done-1 (prints_then_fault done-2 (prints_then_fault c.in-Ok-put_logs.ensures (prints_then_fault c.in-Ok-put_boards.ensures (prints_fault_at (timetable_text c.args.run.now.net.now c.args.run.now.times.now ++ (ending_text c.args.run.now.cost)) c.in-Ok-put_notes.ensures fault)))))

pub returns-in_default-put_times : goal.returns-in_default-put_times
returns-in_default-put_times g c =
    let done-1 = rw c.as_slice-entries.ensures at c.in-Ok.ensures in
    let done-2 = rw c.as_slice-entries.ensures at c.in-Ok-put_entries.ensures in
    let done-6 = rw c.as_slice-entries.ensures at c.in-Ok-put_heading.ensures in
    breaks_as (run_is (printed_run c.args.run.now)) (prints_then_fault done-1 (prints_then_fault done-2 (prints_then_fault c.in-Ok-put_logs.ensures (prints_then_fault c.in-Ok-put_boards.ensures (prints_then_fault c.in-Ok-put_notes.ensures (prints_fault_at (ending_text c.args.run.now.cost) done-6 c.in_default-put_times.ensures))))))

pub returns : goal.returns
returns g c =
    let done-1 = rw c.as_slice-entries.ensures at c.in-Ok.ensures in
    let done-2 = rw c.as_slice-entries.ensures at c.in-Ok-put_entries.ensures in
    let done-6 = rw c.as_slice-entries.ensures at c.in-Ok-put_heading.ensures in
    prints_last_as c.put_ending.new.sink c.put_ending.new.page (entries_text 1 c.args.run.now.history.now.entries ++ (logs_text 2 1 c.args.run.now.logs.now ++ (boards_text (length c.args.run.now.notes.now) ++ (flat_map note_text c.args.run.now.notes.now ++ (heading_text (length c.args.run.now.history.now.entries) ++ (timetable_text c.args.run.now.net.now c.args.run.now.times.now ++ (ending_text c.args.run.now.cost)))))))
    (run_text 2 (printed_run c.args.run.now)) c.put_ending.result
    (run_is (printed_run c.args.run.now)) done-1
    (prints_last c.put_ending.new.sink c.put_ending.new.page (logs_text 2 1 c.args.run.now.logs.now ++ (boards_text (length c.args.run.now.notes.now) ++ (flat_map note_text c.args.run.now.notes.now ++ (heading_text (length c.args.run.now.history.now.entries) ++ (timetable_text c.args.run.now.net.now c.args.run.now.times.now ++ (ending_text c.args.run.now.cost)))))) c.put_ending.result done-2
    (prints_last c.put_ending.new.sink c.put_ending.new.page (boards_text (length c.args.run.now.notes.now) ++ (flat_map note_text c.args.run.now.notes.now ++ (heading_text (length c.args.run.now.history.now.entries) ++ (timetable_text c.args.run.now.net.now c.args.run.now.times.now ++ (ending_text c.args.run.now.cost))))) c.put_ending.result c.in-Ok-put_logs.ensures
    (prints_last c.put_ending.new.sink c.put_ending.new.page (flat_map note_text c.args.run.now.notes.now ++ (heading_text (length c.args.run.now.history.now.entries) ++ (timetable_text c.args.run.now.net.now c.args.run.now.times.now ++ (ending_text c.args.run.now.cost)))) c.put_ending.result c.in-Ok-put_boards.ensures
    (prints_last c.put_ending.new.sink c.put_ending.new.page (heading_text (length c.args.run.now.history.now.entries) ++ (timetable_text c.args.run.now.net.now c.args.run.now.times.now ++ (ending_text c.args.run.now.cost))) c.put_ending.result c.in-Ok-put_notes.ensures
    (prints_last c.put_ending.new.sink c.put_ending.new.page (timetable_text c.args.run.now.net.now c.args.run.now.times.now ++ (ending_text c.args.run.now.cost)) c.put_ending.result done-6
    (prints_last c.put_ending.new.sink c.put_ending.new.page (ending_text c.args.run.now.cost) c.put_ending.result c.in-Ok-put_times.ensures
    c.put_ending.ensures))))))
