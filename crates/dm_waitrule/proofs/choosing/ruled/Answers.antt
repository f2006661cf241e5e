use Rattle.std.proofs.Common.{ℕ, List, ◌<◌, length, sym, subst}
use Rattle.std.specs.Prelude.{All}
use Rattle.dm_waitrule.proofs.Single.{order_within}
use Rattle.dm_waitrule.proofs.choosing.ruled.Goals as goal

pub all_dropped-requires-clause-places : goal.all_dropped-requires-clause-places
all_dropped-requires-clause-places c =
    subst (λ (xs : List ℕ). All (λ a. a < length c.args.net.now.activities) xs) (sym c.deref.ensures.value)
    (order_within c.args.net.now c.args.rows.now c.in_ok-order.order.items c.in_ok-order.ensures)

pub decide_each-requires-clause-places : goal.decide_each-requires-clause-places
decide_each-requires-clause-places c =
    subst (λ (xs : List ℕ). All (λ a. a < length c.args.net.now.activities) xs) (sym c.deref-2.ensures.value)
    (order_within c.args.net.now c.args.rows.now c.in_ok-order.order.items c.in_ok-order.ensures)
