use Rattle.std.proofs.Common.{◌≤◌, ℕ, ap, ◌∙◌}
use Rattle.dm_base.specs.declared.limits.TheConstants.{PASSED_TIME}
use Rattle.dm_rows.specs.Inside.Standings.{with_standing}
use Rattle.dm_rows.specs.Rows.{RowsValue}
use Rattle.dm_rows.proofs.Standings.{within_after, standing_is_set}
use Rattle.dm_rows.proofs.rows.Rows.stand.Goals as goal

pub invariant_of-self : goal.invariant_of-self
invariant_of-self c =
    record {
      of_events = c.self.invariant.of_events;
      of_activities = c.self.invariant.of_activities;
      of_passed = within_after c.self.inside.standings.items c.args.event c.args.standing (λ (t : ℕ). t ≤ PASSED_TIME)
          c.self.invariant.of_passed c.requires.limit;
      of_clock = c.self.invariant.of_clock;
    }

pub returns : goal.returns
returns c =
    standing_is_set c.self.inside.event_delays.items c.self.inside.act_delays.items c.self.inside.standings.items
    c.self.inside.changes.items c.self.inside.pairs.items c.self.inside.clock c.args.event c.args.standing
    ∙ ap (λ (rows : RowsValue). with_standing rows c.args.event c.args.standing) c.self.view_is
