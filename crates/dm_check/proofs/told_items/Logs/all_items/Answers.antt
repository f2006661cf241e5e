use Rattle.std.proofs.Common.{Ok, Err, refl, sym, subst, ◌∙◌, arith}
use Rattle.dm_check_answers.specs.Judging.{JournalValue}
use Rattle.dm_check.specs.FalseRecords.{TellsItem}
use Rattle.dm_check.specs.Inside.Sound.{IsSound}
use Rattle.dm_check.specs.Judged.{ItemOn}
use Rattle.dm_check.proofs.Chained.{kept_none}
use Rattle.dm_check.proofs.Items.{KeepsSoFar, keeps_none, items_more, items_stop, items_all}
use Rattle.dm_check.proofs.told_items.Logs.all_items.Goals as goal

pub loop-item-init : goal.loop-item-init
loop-item-init c = record {
  told = kept_none (TellsItem c.args.self.now.replay.journal.setting c.args.self.now.replay.journal.history c.args.feed) c.args.count c.args.lines.now (KeepsSoFar c.new-past.result c.args.self.now.named.items c.args.self.now.named.items) (keeps_none c.new-past.result c.args.self.now.named.items c.new-past.ensures);
  same = refl;
}

pub next_item-requires : goal.next_item-requires
next_item-requires c = subst (λ (j : JournalValue). IsSound j.setting j.history) (sym c.loop-item.invariant.same) c.requires

pub returns-in-Err-clause-tells : goal.returns-in-Err-clause-tells
returns-in-Err-clause-tells c =
    items_stop c.args.self.now.replay.journal.setting c.args.self.now.replay.journal.history c.args.feed c.args.count c.args.lines.now c.args.self.now.named.items c.loop-item.lines c.next_item.new.lines c.next_item.new.lines c.loop-item._item
    c.loop-item.past c.next_item.new.past c.loop-item.self.named.items c.next_item.new.self.named.items c.next_item.new.self.named.items c.in-Err.stop c.loop-item.invariant.told (omega arith)
    (λ items past. subst (λ (j : JournalValue). ItemOn j.setting j.history c.args.feed items c.loop-item.lines c.next_item.new.lines c.next_item.new.past c.loop-item.self.named.items c.next_item.new.self.named.items (Err c.in-Err.stop))
    c.loop-item.invariant.same (c.in-Err.ensures.tells items past))

pub returns-in-Err-clause-same : goal.returns-in-Err-clause-same
returns-in-Err-clause-same c = c.in-Err.ensures.same ∙ c.loop-item.invariant.same

pub loop-item-preserved : goal.loop-item-preserved
loop-item-preserved c = record {
  told =
      items_more c.args.self.now.replay.journal.setting c.args.self.now.replay.journal.history c.args.feed c.args.count c.args.lines.now c.args.self.now.named.items c.loop-item.lines c.next_item.new.lines c.loop-item._item
      c.loop-item.past c.next_item.new.past c.loop-item.self.named.items c.next_item.new.self.named.items c.loop-item.invariant.told (omega arith)
      (λ items past. subst (λ (j : JournalValue). ItemOn j.setting j.history c.args.feed items c.loop-item.lines c.next_item.new.lines c.next_item.new.past c.loop-item.self.named.items c.next_item.new.self.named.items (Ok (tt {0})))
      c.loop-item.invariant.same (c.in-Ok.ensures.tells items past));
  same = c.in-Ok.ensures.same ∙ c.loop-item.invariant.same;
}

pub returns-clause-tells : goal.returns-clause-tells
returns-clause-tells c =
    items_all c.args.self.now.replay.journal.setting c.args.self.now.replay.journal.history c.args.feed c.args.count c.args.lines.now c.args.self.now.named.items c.loop-item.lines c.loop-item._item c.loop-item.past c.loop-item.self.named.items
    c.loop-item.invariant.told (omega arith)

pub returns-clause-same : goal.returns-clause-same
returns-clause-same c = c.loop-item.invariant.same
