use Rattle.std.proofs.Common.{sym, ◌∙◌}
use Rattle.std.proofs.lemmas.List.{nil_from_length}
use Rattle.dm_part_workers.proofs.Settling.{none_settled, first_is_hand, one_settled, all_settled}
use Rattle.dm_part_workers.proofs.handing.settle_all.Goals as goal

pub loop-hand-init : goal.loop-hand-init
loop-hand-init c = none_settled c.args.owner.now _ _ c.args.back.now.items c.into_iter-hand-iterator.ensures.into_iter_gives.0 c.requires

pub settle-requires : goal.settle-requires
settle-requires c = record { deque = first_is_hand _ _ _ _ _ c.in-Some.hand _ _ c.loop-hand.invariant c.in-Some.ensures.steps.0 }

pub loop-hand-preserved : goal.loop-hand-preserved
loop-hand-preserved c =
    one_settled _ _ _ _ _ _ c.in-Some.hand _ _ _ c.loop-hand.invariant c.in-Some.ensures.steps.0 c.settle.ensures.settled c.in_ok-append.ensures.items

pub returns : goal.returns
returns c = all_settled _ _ _ _ _ _ c.loop-hand.invariant (nil_from_length _ (sym c.loop-hand.hand-iterator.rest.ok.0 ∙ c.in-None.ensures.steps.0))
