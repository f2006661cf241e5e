use Rattle.std.proofs.Common.{sym}
use Rattle.dm_feed.proofs.Messaging.{ok_message, form_message, not_form_message, not_plain}
use Rattle.dm_feed.proofs.messages.read_message.Goals as goal

pub returns-then-not-is_plain-clause-form : goal.returns-then-not-is_plain-clause-form
returns-then-not-is_plain-clause-form c = λ e. not_plain c.args.bytes.now (sym c.if-not-is_plain.ensures)

pub returns-clause-ok : goal.returns-clause-ok
returns-clause-ok c = ok_message c.message_with.result c.args.bytes.now (sym c.if-not-is_plain.ensures) c.message_with.ensures

pub returns-clause-form : goal.returns-clause-form
returns-clause-form c = form_message c.message_with.result c.args.bytes.now c.message_with.ensures

pub returns-clause-not_form : goal.returns-clause-not_form
returns-clause-not_form c = not_form_message c.message_with.result c.args.bytes.now (sym c.if-not-is_plain.ensures) c.message_with.ensures
