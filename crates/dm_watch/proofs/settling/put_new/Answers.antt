use Rattle.std.proofs.Common.{◌≡◌, ◌-◌, List, length, take, drop, sym, ap, subst, ◌∙◌, All}
use Rattle.std.proofs.lemmas.List.{take_rest}
use Rattle.std.proofs.lemmas.List.Elements.{All-drop, All-take}
use Rattle.dm_cert.specs.declared.replies.LogItem.{LogItem}
use Rattle.dm_cert.specs.RunTexts.{IsSpelledItem}
use Rattle.dm_outside.specs.Printing.{Prints}
use Rattle.dm_tape.specs.Rounds.{part_text}
use Rattle.dm_watch.specs.Settled.{new_items}
use Rattle.dm_watch.proofs.settling.put_new.Goals as goal

pub put_part-requires : goal.put_part-requires
put_part-requires g c =
    All-take IsSpelledItem (length c.deref.result.now - c.args.watched.now.shown) (drop c.args.watched.now.shown c.deref.result.now)
    (All-drop IsSpelledItem c.args.watched.now.shown c.deref.result.now (subst (All IsSpelledItem) (sym c.deref.ensures.value) c.requires.spelled))

pub returns : goal.returns
returns g c =
    let is : take (length c.deref.result.now - c.args.watched.now.shown) (drop c.args.watched.now.shown c.deref.result.now) ≡ new_items c.args.watched.now =
    take_rest c.deref.result.now c.args.watched.now.shown ∙ ap (drop c.args.watched.now.shown) c.deref.ensures.value in
    subst (λ (items : List LogItem). Prints g.K.Sink.taken g.K.Sink.faults c.args.sink.now c.put_part.new.sink c.args.page.now c.put_part.new.page c.put_part.result (part_text c.args.number items)) is c.put_part.ensures
