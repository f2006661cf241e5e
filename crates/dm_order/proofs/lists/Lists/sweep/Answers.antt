use Rattle.std.proofs.Common.{◌≡◌, ℕ, ◌+◌, ◌-◌, ◌≤◌, false, List, length, Option, None, inl, inr, arith, sym, ap, ◌∙◌, subst, slice_index}
use Rattle.std.specs.Prelude.{is_some}
use Rattle.std.proofs.lemmas.Bool.{cases_lt}
use Rattle.std.proofs.lemmas.List.{get_or_default}
use Rattle.dm_graph.specs.Arrays.{AreRanks}
use Rattle.dm_network.specs.Net.{activity_at}
use Rattle.dm_network.specs.declared.parts.Activity.{Activity}
use Rattle.dm_order.specs.Orders.{GoForward}
use Rattle.dm_order.specs.Inside.Reaching.{is_reached, HasReached}
use Rattle.dm_order.specs.Inside.Shifting.{reached_from, AreRankedAnew, ArePutAnew}
use Rattle.dm_order.proofs.Sweeping.{swept_ranks, swept_forward}
use Rattle.dm_order.proofs.lists.Lists.sweep.Goals as goal
use Rattle.dm_order.proofs.lists.Lists.sweep.Goals.{After-shift}

-- the order and its ranks once what was reached is behind the others
record IsSwept (c : After-shift) : Type 0 where
  as_many_causes : length c.reach.new.self.causes.items ≡ length c.args.net.now.events
  as_many_put : length c.shift.new.self.order.items ≡ length c.args.self.now.places.order.items
  ranked : AreRanks (length c.args.net.now.events) c.shift.new.self.order.items c.shift.new.self.ranks.items
  forward : GoForward c.args.net.now c.args.held.now c.shift.new.self.ranks.items

swept : (c : After-shift) → IsSwept c
swept c =
    let known = c.reveal.ensures.network.formed.ends_are_known in
    let ranked = c.requires.lists.ranked in
    let count = ranked.rank_count in
    let low_is : c.index-low.result.now ≡ slice_index c.args.self.now.places.ranks.items (activity_at c.args.net.now c.args.first).head =
    let head_is : c.activity.result.now.head ≡ (activity_at c.args.net.now c.args.first).head = ap (λ (x : Activity). x.head) c.activity.ensures in
    let bound = known.heads c.args.first c.requires.is_activity in
    c.index-low.ensures
    ∙ get_or_default c.args.self.now.places.ranks.items c.activity.result.now.head c.index-low.result.now 0 (omega arith)
    ∙ ap (slice_index c.args.self.now.places.ranks.items) head_is in
    let high_is : c.index-high.result.now ≡ slice_index c.args.self.now.places.ranks.items (activity_at c.args.net.now c.args.first).tail =
    let tail_is : c.activity-2.result.now.tail ≡ (activity_at c.args.net.now c.args.first).tail = ap (λ (x : Activity). x.tail) c.activity-2.ensures in
    let bound = known.tails c.args.first c.requires.is_activity in
    c.index-high.ensures
    ∙ get_or_default c.args.self.now.places.ranks.items c.activity-2.result.now.tail c.index-high.result.now 0 (omega arith)
    ∙ ap (slice_index c.args.self.now.places.ranks.items) tail_is in
    let behind : c.index-low.result.now ≤ c.index-high.result.now =
    elim (cases_lt c.index-high.result.now c.index-low.result.now) [
      | inl forward ↦ absurd (c.requires.behind (omega arith))
      | inr le ↦ le
    ] in
    let reached : HasReached c.args.net.now c.args.held.now c.args.self.now.places.ranks.items c.index-low.result.now c.index-high.result.now c.index-high.result.now c.reach.new.self.causes.items =
    subst (λ (rs : List ℕ). HasReached c.args.net.now c.args.held.now rs c.index-low.result.now c.index-high.result.now c.index-high.result.now c.reach.new.self.causes.items) c.deref-2.ensures.value c.reach.ensures in
    let free : is_reached c.reach.new.self.causes.items c.index-high.result.now ≡ false =
    let many = reached.as_many in
    let bound = ranked.has_place (activity_at c.args.net.now c.args.first).tail (known.tails c.args.first c.requires.is_activity) in
    ap is_some (get_or_default c.reach.new.self.causes.items c.index-high.result.now None c.index.result.now (omega arith) ∙ sym c.index.ensures)
    ∙ sym c.is_some.ensures ∙ c.if-is_some.false in
    let ra : AreRankedAnew (reached_from c.reach.new.self.causes.items c.index-low.result.now) c.args.self.now.places.order.items c.index-low.result.now
    (c.index-high.result.now + 1 - c.index-low.result.now) (c.index-high.result.now + 1 - c.index-low.result.now) c.args.self.now.places.ranks.items c.shift.new.self.ranks.items =
    subst (λ (cs : List (Option ℕ)). AreRankedAnew (reached_from cs c.index-low.result.now) c.args.self.now.places.order.items c.index-low.result.now
    (c.index-high.result.now + 1 - c.index-low.result.now) (c.index-high.result.now + 1 - c.index-low.result.now) c.args.self.now.places.ranks.items c.shift.new.self.ranks.items)
    c.deref-3.ensures.value c.shift.ensures.ranks in
    let pa : ArePutAnew (reached_from c.reach.new.self.causes.items c.index-low.result.now) c.index-low.result.now
    (c.index-high.result.now + 1 - c.index-low.result.now) (c.index-high.result.now + 1 - c.index-low.result.now) c.args.self.now.places.order.items c.shift.new.self.order.items =
    subst (λ (cs : List (Option ℕ)). ArePutAnew (reached_from cs c.index-low.result.now) c.index-low.result.now
    (c.index-high.result.now + 1 - c.index-low.result.now) (c.index-high.result.now + 1 - c.index-low.result.now) c.args.self.now.places.order.items c.shift.new.self.order.items)
    c.deref-3.ensures.value c.shift.ensures.order in
    record {
      as_many_causes = reached.as_many;
      as_many_put = pa.as_many;
      ranked =
          swept_ranks c.args.net.now c.args.held.now c.args.self.now.places.order.items c.args.self.now.places.ranks.items ranked known
          c.args.first c.requires.is_activity c.index-low.result.now c.index-high.result.now low_is high_is behind c.requires.others
          c.reach.new.self.causes.items reached free c.shift.new.self.order.items c.shift.new.self.ranks.items ra pa;
      forward =
          swept_forward c.args.net.now c.args.held.now c.args.self.now.places.order.items c.args.self.now.places.ranks.items ranked known
          c.args.first c.requires.is_activity c.index-low.result.now c.index-high.result.now low_is high_is behind c.requires.others
          c.reach.new.self.causes.items reached free c.shift.new.self.order.items c.shift.new.self.ranks.items ra pa;
    }

pub returns-clause-lists : goal.returns-clause-lists
returns-clause-lists c =
    let is = swept c in
    let ranked = c.requires.lists.ranked in
    let room = c.requires.lists.room in
    record {
      ranked = is.ranked;
      room = record {
        search = room.search ∙ sym is.as_many_put;
        spare = c.shift.ensures.spare ∙ room.spare ∙ sym is.as_many_put;
        causes = is.as_many_causes ∙ sym ranked.order_count ∙ sym is.as_many_put;
        way = room.way ∙ sym is.as_many_put;
        start = room.start;
      };
    }

pub returns-clause-forward : goal.returns-clause-forward
returns-clause-forward c = (swept c).forward
