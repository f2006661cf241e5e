use Rattle.dm_feed.specs.declared.feed.FeedStop.TheVariants.{End, Fault, Long}
use Rattle.dm_records.proofs.LinesRead.{stop_is, stop_none}
use Rattle.dm_records.proofs.lines.stop_line.Goals as goal

pub returns-in-Some : goal.returns-in-Some
returns-in-Some c = stop_is End c.args.line.now c.in-Some.ensures

pub returns-in-Some-is_word_line : goal.returns-in-Some-is_word_line
returns-in-Some-is_word_line c = stop_is Fault c.args.line.now c.in-Some-is_word_line.ensures

pub returns-in-Some-is_word_line-2 : goal.returns-in-Some-is_word_line-2
returns-in-Some-is_word_line-2 c = stop_is Long c.args.line.now c.in-Some-is_word_line-2.ensures

pub returns : goal.returns
returns c =
    stop_none c.args.line.now (c.in_default.ensures tt) (c.in_default-is_word_line.ensures tt) (c.in_default-is_word_line-2.ensures tt)
