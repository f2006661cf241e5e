use Rattle.std.proofs.Common.{refl}
use Rattle.std.specs.Fmt.{digits}
use Rattle.dm_feed.specs.Lines.{spelling_of_line, spelling_of_message}
use Rattle.dm_cert.specs.PlanTexts.{choice_text, leaf_text, node_text, plan_heading, spelling_of_plan}
use Rattle.dm_cert.specs.RunTexts.{reply_text, item_text, feed_text, stop_text, log_text, entry_text, note_text, time_text, timetable_text, header_text, boards_text, heading_text, ending_text, run_text}
use Rattle.dm_cert.proofs.laws.late_run_is_spelled.Goals as goal

pub returns : goal.returns
unfolding digits spelling_of_line spelling_of_message choice_text leaf_text node_text plan_heading spelling_of_plan reply_text item_text feed_text stop_text log_text entry_text note_text time_text timetable_text header_text boards_text heading_text ending_text run_text
returns c = refl
