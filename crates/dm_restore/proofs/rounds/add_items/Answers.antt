use Rattle.std.proofs.Common.{List, ◌∷◌, [], ◌++◌, sym, ap, ◌∙◌, append_assoc, append-nil}
use Rattle.dm_tail.proofs.AllFeeds.{one_yielded, all_yielded}
use Rattle.dm_restore.proofs.rounds.add_items.Goals as goal

pub loop-item-init : goal.loop-item-init
loop-item-init c = record {
  whole = c.into_iter-item-iterator.ensures.into_iter_gives.0;
  so_far = sym (append-nil c.args.log.now.items);
}

pub loop-item-preserved : goal.loop-item-preserved
loop-item-preserved c =
    let inv = c.loop-item.invariant in
    record {
      whole = one_yielded c.loop-item.yielded _ _ c.args.items.items c.in-Some.item c.in-Some.ensures.steps.0 inv.whole;
      so_far =
          c.in_ok-push.ensures.items
          ∙ (ap (λ (l : List _). l ++ c.in-Some.item ∷ []) inv.so_far ∙ append_assoc c.args.log.now.items c.loop-item.yielded (c.in-Some.item ∷ []));
    }

pub returns : goal.returns
returns c =
    let all = all_yielded c.loop-item.yielded c.loop-item.item-iterator.rest.items c.args.items.items (sym c.loop-item.item-iterator.rest.ok.0 ∙ c.in-None.ensures.steps.0) c.loop-item.invariant.whole in
    c.loop-item.invariant.so_far ∙ ap (λ (l : List _). c.args.log.now.items ++ l) all
