use Rattle.std.proofs.Common.{◌<◌, length, arith, refl}
use Rattle.std.proofs.lemmas.List.Elements.{All-get_or}
use Rattle.dm_check_times.proofs.Followed.{followed_none, followed_next, followed_all}
use Rattle.dm_check_times.proofs.kept_cost.KeptCost.follow.Goals as goal

pub loop-i-init : goal.loop-i-init
loop-i-init c = record { kept = c.requires.kept; priced = c.requires.priced; followed = followed_none c.args.self.now.times c.args.times.now c.args.moved.now c.requires.moved }

pub bounds-times-i : goal.bounds-times-i
bounds-times-i c = All-get_or (λ place. place < length c.args.times.now) c.args.moved.now c.loop-i.i-index 0 (omega arith) c.requires.moved.within

pub loop-i-preserved : goal.loop-i-preserved
loop-i-preserved c =
    let had = c.loop-i.invariant in
    let size = had.followed.as_many in
    let within = All-get_or (λ place. place < length c.args.times.now) c.args.moved.now c.loop-i.i-index 0 (omega arith) c.requires.moved.within in
    record {
      kept = c.move_at.ensures.kept;
      priced = c.move_at.ensures.priced;
      followed = followed_next c.args.times.now c.args.moved.now c.loop-i.i-index _ c.loop-i.self.times c.move_at.new.self.times refl (omega arith) c.move_at.ensures.times had.followed;
    }

pub returns-clause-times : goal.returns-clause-times
returns-clause-times c = followed_all c.args.times.now c.args.moved.now c.loop-i.i-index c.loop-i.self.times (omega arith) c.loop-i.invariant.followed
