use Rattle.std.proofs.Common.{sym}
use Rattle.dm_words.proofs.Numbering.{not_different, not_few}
use Rattle.dm_words.proofs.ids.read_ids.Goals as goal

pub returns-then-not-are_few : goal.returns-then-not-are_few
returns-then-not-are_few c = λ all are. not_few _ _ c.in-Some.ids all c.in-Some.ensures (sym c.if-not-are_few.ensures) are

pub returns-then-not-are_different : goal.returns-then-not-are_different
returns-then-not-are_different c = λ all are. not_different _ _ c.in-Some.ids all c.in-Some.ensures (sym c.if-not-are_different.ensures) are
