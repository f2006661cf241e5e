use Rattle.dm_restore.specs.Start.{setting_of_head}
use Rattle.dm_store_text.specs.Texts.{IsOfBytes}
use Rattle.dm_store_text.proofs.Closing.{ends_at_stop, ends_well}
use Rattle.dm_store_text.proofs.ReadBack.{spelled, text_in}
use Rattle.dm_store_text.proofs.text.text_of_bytes.Goals as goal

pub end_restored-requires : goal.end_restored-requires
end_restored-requires g c =
    let back = c.in-Ok.restored in
    spelled (setting_of_head c.args.net.now c.args.rows c.args.head) c.args.head.feeds back.desk.plans back.desk.table back.logs.items c.in-Ok.ensures.setting c.reveal.ensures.table
    c.requires.feeds.0 c.requires.feeds.1 c.in-Ok.ensures.as_many c.in-Ok.ensures.go_on c.in-Ok.ensures.is_true c.in-Ok.ensures.spelled

pub returns-in-Ok-clause-ends : goal.returns-in-Ok-clause-ends
returns-in-Ok-clause-ends g c =
    let s = setting_of_head c.args.net.now c.args.rows c.args.head in
    let back = c.in-Ok.restored in
    ends_well g.K.Sink.taken g.K.Sink.faults (IsOfBytes s c.args.head.feeds c.args.bytes.now) c.args.out.now c.end_restored.new.out _ c.end_restored.result
    (text_in s c.args.head.feeds back.desk.plans back.desk.table back.logs.items c.in-Ok.ensures.setting c.reveal.ensures.table c.requires.feeds.0 c.requires.feeds.1
    c.in-Ok.ensures.as_many c.in-Ok.ensures.go_on c.in-Ok.ensures.is_true c.args.bytes.now c.end_restored.ensures.fits c.in-Ok.ensures.spelled c.in-Ok.ensures.book c.in-Ok.ensures.whole)
    c.end_restored.ensures.ends

pub returns-in-Err-clause-ends : goal.returns-in-Err-clause-ends
returns-in-Err-clause-ends g c =
    ends_at_stop g.K.Sink.taken g.K.Sink.faults c.args.out.now c.end_stopped.new.out (setting_of_head c.args.net.now c.args.rows c.args.head) c.args.head.feeds c.args.bytes.now
    c.in-Err.stop c.end_stopped.result c.in-Err.ensures.refused c.end_stopped.ensures.ends
