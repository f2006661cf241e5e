use Rattle.std.proofs.Common.{◌≡◌, length, replicate, false, ap, subst, ◌∙◌, sym, arith}
use Rattle.dm_propagate.specs.Engine.{EngineValue, times_of}
use Rattle.dm_propagate.proofs.Following.{engine_least}
use Rattle.dm_rows.specs.History.{rows_at}
use Rattle.dm_table.proofs.Kept.{kept_still, first_rows_sized}
use Rattle.dm_table.specs.Value.{TableValue}
use Rattle.dm_table.proofs.Noting.{noted_anew}
use Rattle.dm_table.proofs.table.Table.follow_times.Goals as goal

pub invariant_of-self : goal.invariant_of-self
invariant_of-self c =
    let t = c.self.inside in
    let kept = c.self.invariant.0 in
    let forgets = c.forget_moved.ensures.forgets in
    let is_engine = c.forget_moved.ensures.engine t.net.now kept.is_engine in
    let same_rows = ap (λ (e : EngineValue). e.rows) forgets in (
      kept_still t.net.now t.start t.penalty t.history.entries t.engine c.forget_moved.new.self kept same_rows is_engine,
      noted_anew t.net.now t.start c.forget_moved.new.self.rows t.history.entries c.len-now.result c.forget_moved.new.self.moved.flags
          (times_of c.forget_moved.new.self) (omega (arith, c.len-now.ensures.count))
          (same_rows ∙ kept.replayed ∙ ap (rows_at t.net.now t.start t.history.entries) (sym c.len-now.ensures.count))
          (engine_least t.net.now c.forget_moved.new.self c.reveal.ensures.network.formed.ends_are_known is_engine)
          (ap (λ (e : EngineValue). e.moved.flags) forgets ∙ ap (λ n. replicate n false) c.self.invariant.1.as_many),
      c.self.invariant.2,
      c.self.invariant.3,
    )

pub follow-requires-clause-as_many_flags : goal.follow-requires-clause-as_many_flags
follow-requires-clause-as_many_flags c =
    let t = c.self.inside in
    let kept = c.self.invariant.0 in
    let flags = subst (λ (v : TableValue). c.args.cancelled.now ≡ (rows_at v.network v.start v.history c.args.shown).cancelled) (sym c.self.view_is)
    c.requires.flags in
    let least = engine_least t.net.now t.engine c.reveal.ensures.network.formed.ends_are_known kept.is_engine in
    ap length flags ∙ (first_rows_sized t.net.now t.start t.history.entries c.args.shown kept.sized).cancelled
    ∙ sym (ap length c.times.ensures ∙ least.meets.size)
