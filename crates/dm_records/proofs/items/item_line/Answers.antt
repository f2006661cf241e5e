use Rattle.std.proofs.Common.{refl}
use Rattle.dm_cert.specs.declared.replies.LogItem.TheVariants.{Malformed}
use Rattle.dm_records.specs.RunLines.{lone}
use Rattle.dm_records.specs.Inside.Answers.{saying}
use Rattle.dm_records.specs.Inside.Items.{item_with}
use Rattle.dm_records.proofs.ItemsRead.{item_no_number, item_malformed, item_no_space, item_said, item_unsaid}
use Rattle.dm_records.proofs.items.item_line.Goals as goal

pub returns-in_default : goal.returns-in_default
returns-in_default c = item_no_number c.args.version c.args.line.now c.in_default.ensures.reads

pub returns-in-Some-is_word_line : goal.returns-in-Some-is_word_line
returns-in-Some-is_word_line c = record {
  first = lone (Malformed c.in-Some.number);
  spelled = item_malformed c.args.version _ c.args.line.now _ c.in-Some.ensures.reads c.in-Some-is_word_line.ensures;
  is = (refl, tt);
}

pub returns-in_default-behind : goal.returns-in_default-behind
returns-in_default-behind c =
    item_no_space c.args.version c.in-Some.number c.args.line.now c.in-Some.rest.now c.in-Some.ensures.reads (c.in_default-is_word_line.ensures tt) c.in_default-behind.ensures

pub returns-in-Ok-Some : goal.returns-in-Ok-Some
returns-in-Ok-Some c = record {
  first = item_with c.in-Some.number c.in-Ok-Some.exchange.said (saying c.in-Ok-Some.exchange.answer);
  spelled =
      item_said c.args.version c.in-Some.number c.args.line.now c.in-Some.rest.now c.in-Some-behind.rest.now c.in-Ok-Some.exchange.said (saying c.in-Ok-Some.exchange.answer) c.in-Some.ensures.reads c.in-Some-behind.ensures
      (rw c.in-Ok-Some.field-0-is at c.in-Ok-Some.ensures.reads);
  is = c.log_line.ensures;
}

pub returns-in-Ok-None : goal.returns-in-Ok-None
returns-in-Ok-None c =
    item_unsaid c.args.version c.in-Some.number c.args.line.now c.in-Some.rest.now c.in-Some-behind.rest.now c.in-Some.ensures.reads (c.in_default-is_word_line.ensures tt) c.in-Some-behind.ensures
    (rw c.in-Ok-None.field-0-is at c.in-Ok-None.ensures.reads)
