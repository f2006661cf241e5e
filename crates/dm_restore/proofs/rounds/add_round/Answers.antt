use Rattle.std.proofs.Common.{◌≡◌, ◌<◌, List, ◌++◌, length, map, get_or, refl, sym, ap, ◌∙◌, arith, length-set, Vec, Global}
use Rattle.std.proofs.lemmas.List.{length_push, length-map, get_or_read}
use Rattle.dm_cert.specs.declared.replies.LogItem.{LogItem}
use Rattle.dm_tail.proofs.AllFeeds.{one_yielded, some_left}
use Rattle.dm_restore.proofs.ReadRounds.{with_none, part_added}
use Rattle.dm_restore.proofs.rounds.add_round.Goals as goal

pub loop-items-init : goal.loop-items-init
loop-items-init c = record {
  whole = c.into_iter-items-iterator.ensures.into_iter_gives.0;
  here = refl;
  as_many = refl;
  so_far = sym (with_none (map (λ (log : Vec LogItem Global). log.items) c.args.logs.now.items));
}

pub loop-items-preserved : goal.loop-items-preserved
loop-items-preserved c =
    let inv = c.loop-items.invariant in
    let first : List (List LogItem) = map (λ (log : Vec LogItem Global). log.items) c.args.logs.now.items in
    let logs : List (Vec LogItem Global) = c.loop-items.logs.items in
    let feed = c.loop-items.feed in
    let log : Vec LogItem Global = c.add_items.new.log in
    let left : length c.loop-items.yielded < length c.args.round.items = some_left c.loop-items.yielded _ _ c.args.round.items c.in-Some.items c.in-Some.ensures.steps.0 inv.whole in
    let low : length c.loop-items.yielded < length first = omega (arith, left, c.requires, length-map c.args.logs.now.items (λ (l : Vec LogItem Global). l.items)) in
    let inside : feed < length logs = omega (arith, left, c.requires, inv.here, inv.as_many) in
    let was : c.index_mut.result.now ≡ get_or logs feed log = get_or_read logs feed c.index_mut.result.now inside c.index_mut.ensures.value log in
    record {
      whole = one_yielded c.loop-items.yielded _ _ c.args.round.items c.in-Some.items c.in-Some.ensures.steps.0 inv.whole;
      here = omega (arith, inv.here, length_push c.loop-items.yielded c.in-Some.items);
      as_many = length-set logs feed log ∙ inv.as_many;
      so_far =
          part_added first logs _ c.loop-items.yielded c.in-Some.items feed log refl inv.here inv.so_far low
          (c.in_ok-add_items.ensures ∙ (ap (λ (l : Vec LogItem Global). l.items ++ c.into_vec.result.items) was ∙ ap (λ (more : List LogItem). (get_or logs feed log).items ++ more) c.into_vec.ensures));
    }
