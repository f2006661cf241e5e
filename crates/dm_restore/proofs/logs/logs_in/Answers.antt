use Rattle.std.proofs.Common.{List, map, refl, Vec, Global}
use Rattle.dm_cert.specs.declared.replies.LogItem.{LogItem}
use Rattle.dm_restore.specs.Start.{setting_of_head}
use Rattle.dm_restore.proofs.Files.{is_read, stops_reading, stops_at_head, broken_end, has_logs}
use Rattle.dm_restore.proofs.logs.logs_in.Goals as goal

pub returns-in-Err-clause-stops : goal.returns-in-Err-clause-stops
returns-in-Err-clause-stops c = λ net start contents stands.
    stops_at_head c.args.head (setting_of_head net start c.args.head) c.args.file.now contents stands c.requires refl refl stands.end c.in-Err.stop c.in-Err.ensures

pub returns-in-Err-read_logs-clause-stops : goal.returns-in-Err-read_logs-clause-stops
returns-in-Err-read_logs-clause-stops c = λ net start contents stands.
    stops_reading c.args.head (setting_of_head net start c.args.head) c.args.file.now contents stands c.requires refl refl c.in-Ok.found.0 c.in-Ok.found.1 stands.end c.in-Err-read_logs.stop c.in-Ok.ensures
    c.in-Err-read_logs.ensures.stops

pub returns-in-Some-clause-stops : goal.returns-in-Some-clause-stops
returns-in-Some-clause-stops c = λ net start contents stands.
    let s = setting_of_head net start c.args.head in
    let logs : List (List LogItem) = map (λ (log : Vec LogItem Global). log.items) c.in-Ok-read_logs.logs.items in
    let read = is_read c.args.head s c.args.file.now contents stands c.requires refl refl c.in-Ok.found.0 c.in-Ok.found.1 logs c.in-Ok.ensures c.in-Ok-read_logs.ensures.read in
    broken_end s c.args.head.feeds c.args.file.now contents stands.end logs c.in-Ok.found.1 c.in-Some.field-0 c.count_blocks.result _ read (c.in-Some.ensures.told contents stands) (c.count_blocks.ensures.count contents stands) refl

pub returns-in-Ok-feed_logs-clause-read : goal.returns-in-Ok-feed_logs-clause-read
returns-in-Ok-feed_logs-clause-read c = λ net start contents stands.
    let s = setting_of_head net start c.args.head in
    let logs : List (List LogItem) = map (λ (log : Vec LogItem Global). log.items) c.in-Ok-read_logs.logs.items in
    let read = is_read c.args.head s c.args.file.now contents stands c.requires refl refl c.in-Ok.found.0 c.in-Ok.found.1 logs c.in-Ok.ensures c.in-Ok-read_logs.ensures.read in
    has_logs s c.args.head.feeds contents stands.end logs c.in-Ok-feed_logs.logs.items c.in-Ok.found.1 read c.in-Ok-feed_logs.ensures (c.in_default.ensures.told contents stands)
