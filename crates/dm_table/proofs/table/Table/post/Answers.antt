use Rattle.std.proofs.Common.{ℕ, List, length, sym, ap, subst, arith}
use Rattle.dm_history.specs.Value.{HistoryValue}
use Rattle.dm_propagate.specs.Engine.{times_of}
use Rattle.dm_rows.specs.declared.messages.Entry.{Entry}
use Rattle.dm_rows.specs.Refuse.{RefusesNothing, Refuses}
use Rattle.dm_table.specs.Value.{TableValue}
use Rattle.dm_table.specs.Answers.{RefusesPost}
use Rattle.dm_table.specs.Inside.Keeping.{IsKept}
use Rattle.dm_table.specs.Inside.Noted.{AreNoted}
use Rattle.dm_table.specs.Inside.Trying.{IsAccepted}
use Rattle.dm_table.proofs.Kept.{kept_is_table, kept_next}
use Rattle.dm_table.proofs.Noting.{noted_next}
use Rattle.dm_table.proofs.table.Table.post.Goals as goal

pub invariant_of-self : goal.invariant_of-self
invariant_of-self g c =
    let t = c.self.inside in
    let accepted : IsAccepted t.net.now t.engine.rows (length t.history.entries) c.args.entry.message =
    subst (λ (n : ℕ). IsAccepted t.net.now t.engine.rows n c.args.entry.message) c.len-entries.ensures.count c.in-Ok.ensures.accepted in (
      subst (λ (h : List Entry). IsKept t.net.now t.start t.penalty h c.enter-entered.new.engine) (sym (ap (λ (h : HistoryValue). h.entries) c.push.ensures))
          (kept_next t.net.now t.start t.penalty t.history.entries t.engine c.self.invariant.0 c.args.entry accepted c.enter-entered.new.engine
          c.in-Ok.ensures.engine c.in-Ok.ensures.rows),
      subst (λ (h : List Entry). AreNoted t.net.now t.start h t.since c.enter-entered.new.engine.moved.flags c.enter-entered.new.engine.rows (times_of c.enter-entered.new.engine))
          (sym (ap (λ (h : HistoryValue). h.entries) c.push.ensures))
          (noted_next t.net.now t.start t.history.entries t.since t.engine.moved.flags t.engine.rows (times_of t.engine) c.self.invariant.1 c.args.entry
          c.enter-entered.new.engine.moved.flags c.enter-entered.new.engine.rows (times_of c.enter-entered.new.engine) c.in-Ok.ensures.moved c.in-Ok.ensures.cancelled),
      c.in-Ok.ensures.empty,
      omega (arith, c.self.invariant.3, c.in-Ok.ensures.room),
    )

pub returns-in-Ok-clause-accepted : goal.returns-in-Ok-clause-accepted
returns-in-Ok-clause-accepted g c =
    let t = c.self.inside in
    let accepted : IsAccepted t.net.now t.engine.rows (length t.history.entries) c.args.entry.message =
    subst (λ (n : ℕ). IsAccepted t.net.now t.engine.rows n c.args.entry.message) c.len-entries.ensures.count c.in-Ok.ensures.accepted in
    subst (λ (v : TableValue). RefusesNothing (Refuses v.network v.rows (length v.history) c.args.entry.message)) c.self.view_is
    accepted.nothing

pub returns-in-Ok-clause-table : goal.returns-in-Ok-clause-table
returns-in-Ok-clause-table g c =
    let t = c.self.inside in
    let accepted : IsAccepted t.net.now t.engine.rows (length t.history.entries) c.args.entry.message =
    subst (λ (n : ℕ). IsAccepted t.net.now t.engine.rows n c.args.entry.message) c.len-entries.ensures.count c.in-Ok.ensures.accepted in
    kept_is_table t.net.now t.start t.penalty c.push.new.self.entries c.enter-entered.new.engine c.push.new.self.spare t.room
    c.reveal.ensures.network.formed.ends_are_known
    (subst (λ (h : List Entry). IsKept t.net.now t.start t.penalty h c.enter-entered.new.engine) (sym (ap (λ (h : HistoryValue). h.entries) c.push.ensures))
    (kept_next t.net.now t.start t.penalty t.history.entries t.engine c.self.invariant.0 c.args.entry accepted c.enter-entered.new.engine
    c.in-Ok.ensures.engine c.in-Ok.ensures.rows))

pub returns-in-Err-clause-refused : goal.returns-in-Err-clause-refused
returns-in-Err-clause-refused g c =
    let t = c.self.inside in
    subst (λ (v : TableValue). RefusesPost v.network v.rows (length v.history) c.args.entry.message c.in-Err.refusal) c.self.view_is
    (subst (λ (n : ℕ). RefusesPost t.net.now t.engine.rows n c.args.entry.message c.in-Err.refusal) c.len-entries.ensures.count c.in-Err.ensures.refused)
