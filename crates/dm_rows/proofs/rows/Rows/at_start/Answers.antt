use Rattle.std.proofs.Common.{◌≡◌, ◌≤◌, ℕ, List, map, get_or, replicate, None, true, arith, sym, ap, ◌∙◌, subst}
use Rattle.std.specs.Option.{ForSome}
use Rattle.dm_base.specs.declared.limits.TheConstants.{PASSED_TIME}
use Rattle.dm_rows.specs.declared.rows.Decided.{Decided}
use Rattle.dm_rows.specs.declared.rows.Standing.{Standing}
use Rattle.dm_rows.specs.declared.rows.Standing.TheVariants.{Ahead}
use Rattle.dm_rows.specs.Inside.Standings.{passed_of, decided_at_start}
use Rattle.dm_rows.proofs.Standings.{none_has_passed, start_is_kept}
use Rattle.dm_rows.proofs.rows.Rows.at_start.Goals as goal

pub invariant_of-result : goal.invariant_of-result
invariant_of-result c =
    let standings : c.in_ok-vec.field-0.items ≡ replicate c.events.result Ahead = c.in_ok-vec.ensures.items_if_clones_equal (λ y e. e) in
    record {
      of_events = c.requires.events_within;
      of_activities = c.requires.activities_within;
      of_passed = subst (λ (s : List Standing). (i : ℕ) → ForSome (get_or (map passed_of s) i None) (λ t. t ≤ PASSED_TIME)) (sym standings)
          (none_has_passed c.events.result (λ (t : ℕ). t ≤ PASSED_TIME));
      of_clock = omega arith;
    }

pub returns : goal.returns
returns c =
    let standings : c.in_ok-vec.field-0.items ≡ replicate c.events.result Ahead = c.in_ok-vec.ensures.items_if_clones_equal (λ y e. e) in
    let changes : c.in_ok-vec-2.field-0.items ≡ replicate c.activities.result c.free.result =
    c.in_ok-vec-2.ensures.items_if_clones_equal (λ y e. e) in
    start_is_kept c.args.net.now c.args.event_delays.items c.args.act_delays.items c.in_ok-vec.field-0.items c.in_ok-vec-2.field-0.items
    c.in_ok-first_events.field-0.items
    (standings ∙ ap (λ (n : ℕ). replicate n Ahead) c.events.ensures.count)
    (changes ∙ ap (λ (d : Decided). replicate c.activities.result d) c.free.ensures
    ∙ ap (λ (n : ℕ). replicate n (decided_at_start true)) c.activities.ensures.count)
    c.in_ok-first_events.ensures
