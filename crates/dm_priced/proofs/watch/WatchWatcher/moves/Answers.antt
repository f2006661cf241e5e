use Rattle.std.proofs.Common.{sym, ◌∙◌}
use Rattle.dm_priced.proofs.Beside.{has_not_passed, leads_to_none}
use Rattle.dm_priced.proofs.Pricing.{missed_still}
use Rattle.dm_priced.proofs.watch.WatchWatcher.moves.Goals as goal

pub returns-clause-knows : goal.returns-clause-knows
returns-clause-knows c =
    let net = c.args.net.now in
    let passed = c.args.self.now.flags.passed.now in
    let cancelled = c.args.self.now.flags.cancelled.now in
    let beside = c.args.self.now.beside.now in
    let to = c.args.to.now in
    let knows = c.requires.knows in
    let not = sym c.is_flagged.ensures ∙ c.if-is_flagged.false in
    record {
      as_many = knows.as_many;
      flags_beside = knows.flags_beside;
      is_lateness = c.lateness_then-self.ensures;
      is_missed = missed_still net passed cancelled to.constraints.now.spans to.times.now to.event to.time c.args.self.now.missed knows.is_missed
          c.requires.is_move.is_event c.requires.is_move.as_many to.into.now to.out_of.now c.requires.is_move.into c.requires.is_move.out_of
          (has_not_passed net passed cancelled beside knows.flags_beside to.event not)
          (leads_to_none net passed cancelled beside knows.flags_beside to.event not to.out_of.now c.requires.is_move.out_of);
    }
