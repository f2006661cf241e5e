use Rattle.std.proofs.Common.{◌≡◌, ◌≤◌, ℕ, List, length, arith, sym, ap, subst}
use Rattle.dm_order.specs.Inside.Shifting.{reached_from, MayBePut, ArePut}
use Rattle.dm_order.proofs.Ranking.{may_be_put, put_where_moved}
use Rattle.dm_order.proofs.shift.Places.shift.Goals as goal

pub put_anew-requires : goal.put_anew-requires
put_anew-requires c =
    let room : c.args.count ≤ length c.rank_anew.new.self.spare.items =
    let a = c.rank_anew.ensures.as_much_spare in let b = c.requires.spare in let w = c.requires.within in omega arith in
    let n : length c.args.self.now.order.items ≡ length c.rank_anew.new.self.order.items = ap length (sym c.rank_anew.ensures.order) in
    subst (λ (m : ℕ). MayBePut c.args.low c.args.count m c.rank_anew.new.self.ranks.items c.rank_anew.new.self.spare.items) n
    (may_be_put (length c.args.self.now.order.items) c.args.self.now.order.items c.args.self.now.ranks.items c.requires.ranked
    (reached_from c.args.causes.now c.args.low) c.args.low c.args.count c.requires.within c.rank_anew.new.self.ranks.items c.rank_anew.new.self.spare.items
    c.rank_anew.ensures.ranks c.rank_anew.ensures.copied room)

pub returns-clause-order : goal.returns-clause-order
returns-clause-order c =
    let room : c.args.count ≤ length c.rank_anew.new.self.spare.items =
    let a = c.rank_anew.ensures.as_much_spare in let b = c.requires.spare in let w = c.requires.within in omega arith in
    put_where_moved (length c.args.self.now.order.items) c.args.self.now.order.items c.args.self.now.ranks.items c.requires.ranked
    (reached_from c.args.causes.now c.args.low) c.args.low c.args.count c.requires.within c.rank_anew.new.self.ranks.items c.rank_anew.new.self.spare.items
    c.rank_anew.ensures.ranks c.rank_anew.ensures.copied room c.put_anew.new.self.order.items
    (subst (λ (xs : List ℕ). ArePut c.args.low c.args.count c.args.count c.rank_anew.new.self.ranks.items c.rank_anew.new.self.spare.items xs c.put_anew.new.self.order.items)
    c.rank_anew.ensures.order c.put_anew.ensures.order)
