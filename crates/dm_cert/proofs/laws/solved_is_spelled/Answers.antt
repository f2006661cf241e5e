use Rattle.std.proofs.Common.{refl}
use Rattle.std.specs.Fmt.{digits}
use Rattle.dm_feed.specs.Lines.{spelling_of_line, spelling_of_message}
use Rattle.dm_cert.specs.PlanTexts.{choice_text, node_text}
use Rattle.dm_cert.specs.SolvedTexts.{part_heading, part_text, solved_heading, rest_text, spelling_of_solved}
use Rattle.dm_cert.specs.RunTexts.{reply_text, item_text}
use Rattle.dm_cert.proofs.laws.solved_is_spelled.Goals as goal

pub returns : goal.returns
unfolding digits spelling_of_line spelling_of_message choice_text node_text part_heading part_text solved_heading rest_text spelling_of_solved reply_text item_text
returns c = refl
