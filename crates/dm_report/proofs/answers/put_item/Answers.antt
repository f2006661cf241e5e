use Rattle.std.proofs.Common.{◌++◌}
use Rattle.std.specs.Prelude.{codes}
use Rattle.std.specs.Fmt.{decimal}
use Rattle.dm_feed.specs.Lines.{spelling_of_line}
use Rattle.dm_cert.specs.declared.replies.LogItem.TheVariants.{Answered}
use Rattle.dm_cert.specs.RunTexts.{item_text, reply_text}
use Rattle.dm_outside.proofs.Printing.{prints_then_fault, prints_fault, prints_fault_at, prints_last}
use Rattle.dm_report.proofs.Printed.{breaks_as, prints_last_as, answer_parts}
use Rattle.dm_report.proofs.answers.put_item.Goals as goal

pub returns-in_default : goal.returns-in_default
unfolding item_text
returns-in_default g c =
    rw c.in-Answered.is
    (breaks_as (answer_parts (decimal c.in-Answered.line) (spelling_of_line c.in-Answered.said) (reply_text 2 c.in-Answered.reply))
    (prints_fault (spelling_of_line c.in-Answered.said ++ (codes " -> " ++ reply_text 2 c.in-Answered.reply)) c.in_default.ensures))

pub returns-in_default-put_line : goal.returns-in_default-put_line
unfolding item_text
returns-in_default-put_line g c =
    rw c.in-Answered.is
    (breaks_as (answer_parts (decimal c.in-Answered.line) (spelling_of_line c.in-Answered.said) (reply_text 2 c.in-Answered.reply))
    (prints_fault_at (codes " -> " ++ reply_text 2 c.in-Answered.reply) c.in-Ok.ensures c.in_default-put_line.ensures))

pub returns-in_default-put_bytes : goal.returns-in_default-put_bytes
unfolding item_text
returns-in_default-put_bytes g c =
    rw c.in-Answered.is
    (breaks_as (answer_parts (decimal c.in-Answered.line) (spelling_of_line c.in-Answered.said) (reply_text 2 c.in-Answered.reply))
    (prints_then_fault c.in-Ok.ensures (prints_fault_at (reply_text 2 c.in-Answered.reply) c.in-Ok-put_line.ensures c.in_default-put_bytes.ensures)))

pub returns-in-Ok-put_bytes : goal.returns-in-Ok-put_bytes
unfolding item_text
returns-in-Ok-put_bytes g c =
    rw c.in-Answered.is
    (prints_last_as c.put_reply.new.sink c.put_reply.new.page (spelling_of_line c.in-Answered.said ++ (codes " -> " ++ reply_text 2 c.in-Answered.reply))
    (item_text 2 (Answered c.in-Answered.line c.in-Answered.said c.in-Answered.reply)) c.put_reply.result
    (answer_parts (decimal c.in-Answered.line) (spelling_of_line c.in-Answered.said) (reply_text 2 c.in-Answered.reply)) c.in-Ok.ensures
    (prints_last c.put_reply.new.sink c.put_reply.new.page (codes " -> " ++ reply_text 2 c.in-Answered.reply) c.put_reply.result c.in-Ok-put_line.ensures
    (prints_last c.put_reply.new.sink c.put_reply.new.page (reply_text 2 c.in-Answered.reply) c.put_reply.result c.in-Ok-put_bytes.ensures c.put_reply.ensures)))
