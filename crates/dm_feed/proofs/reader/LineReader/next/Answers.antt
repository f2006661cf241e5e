use Rattle.std.proofs.Common.{◌≡◌, ◌≤◌, ap, arith}
use Rattle.dm_feed.specs.Feeds.{ReaderValue}
use Rattle.dm_feed.proofs.Feeding.{at_most_one_over}
use Rattle.dm_feed.proofs.Ahead.{in_order_known, determined_known}
use Rattle.dm_feed.proofs.reader.LineReader.next.Goals as goal

pub returns-clause-bounded : goal.returns-clause-bounded
returns-clause-bounded g c =
    at_most_one_over g.S.Source.left g.S.Source.faults g.S.Source.is_sound c.args.self.now c.next_due.new.self c.next_due.result c.next_due.ensures.answers

pub returns-clause-in_order : goal.returns-clause-in_order
returns-clause-in_order g c = λ is_open.
    let small : c.self.inside.taken ≤ 262144 = c.self.invariant.2 c.in_default.is in
    let taken : c.self.inside.taken ≡ c.args.self.now.taken = ap (λ (v : ReaderValue g.row.S.Denot). v.taken) c.self.view_is in
    in_order_known g.S.Source.left g.S.Source.faults g.S.Source.is_sound c.args.self.now c.next_due.new.self c.next_due.result (omega (arith, small, taken)) c.next_due.ensures.answers

pub returns-clause-exactly : goal.returns-clause-exactly
returns-clause-exactly g c = λ is_open other.
    determined_known g.S.Source.left c.args.self.now c.next_due.new.self c.next_due.result other (returns-clause-in_order g c is_open)
