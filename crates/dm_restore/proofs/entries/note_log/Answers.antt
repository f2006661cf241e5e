use Rattle.std.proofs.Common.{◌<◌, List, [], length, take, Option, ap, subst, sym, ◌∙◌, arith}
use Rattle.dm_rows.specs.declared.messages.Decision.{Decision}
use Rattle.dm_cert.specs.declared.replies.LogItem.{LogItem}
use Rattle.dm_cert.specs.Answers.{latest_plan}
use Rattle.dm_cert.specs.RunTexts.{IsSpelledItem}
use Rattle.dm_restore.specs.Inside.Entering.{HasPut, Notes, choices_in, choices_after, entry_in}
use Rattle.dm_restore.proofs.Named.{one_noted, one_sorted, true_there, taken_more, latest_more, choices_follow}
use Rattle.dm_restore.proofs.entries.note_log.Goals as goal

pub loop-item-preserved : goal.loop-item-preserved
loop-item-preserved c =
    let inv = c.loop-item.invariant in
    let items = c.args.items.now in
    let i = c.loop-item.item-index in
    let x = c.item-item.result in
    let low : i < length items = omega arith in
    let put = subst (λ (o : Option (List Decision)). HasPut c.loop-item.entries.items c.note_item.new.entries.items (entry_in c.args.feed o x)) inv.latest c.in_ok-note_item.ensures in
    record {
      latest = c.later_choices-latest.ensures
          ∙ (ap (λ (o : Option (List Decision)). choices_after o x) inv.latest ∙ (choices_follow (latest_plan (take i items)) x ∙ ap choices_in (latest_more items i x low c.item-item.is)));
      noted = λ s history few are agrees.
          subst (λ (ls : List LogItem). Notes s.net s.start history ls c.args.entries.now.items c.note_item.new.entries.items) (taken_more items i x low c.item-item.is)
          (one_noted s history c.args.feed (take i items) x c.args.entries.now.items c.loop-item.entries.items c.note_item.new.entries.items few
          (true_there s history c.args.feed [] items i x are low c.item-item.is) (inv.noted s history few are agrees) put);
      sorted = λ are.
          one_sorted c.args.feed (choices_in (latest_plan (take i items))) x c.loop-item.entries.items c.note_item.new.entries.items
          (subst IsSpelledItem (sym c.item-item.is) (c.requires i x low)) put (inv.sorted are);
    }
