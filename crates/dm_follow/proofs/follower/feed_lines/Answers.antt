use Rattle.std.proofs.Common.{ℕ, ◌+◌, ◌-◌, List, length, take, drop}
use Rattle.dm_text.proofs.Cutting.{no_feed, cut_there, line_there}
use Rattle.dm_follow.proofs.Taken.{taken_last, taken_line, taken_stop}
use Rattle.dm_follow.proofs.follower.feed_lines.Goals as goal

pub take_line-requires-clause-one_line : goal.take_line-requires-clause-one_line
take_line-requires-clause-one_line c = (cut_there c.loop-end.rest.now c.in-Some.end c.in-Some.ensures).one_line

pub loop-end-preserved : goal.loop-end-preserved
loop-end-preserved c =
    let rest : List ℕ = c.loop-end.rest.now in
    let end : ℕ = c.in-Some.end in
    taken_line c.args.follower.now c.loop-end.follower c.take_line.new.follower c.args.piece.now rest (take end rest) (take (length rest - (end + 1)) (drop (end + 1) rest)) c.in-Ok.field-0
    c.loop-end.invariant c.in-Ok.ensures (line_there rest 0 end c.in-Some.ensures).whole

pub returns-in-Err : goal.returns-in-Err
returns-in-Err c =
    let rest : List ℕ = c.loop-end.rest.now in
    let end : ℕ = c.in-Some.end in
    taken_stop c.args.follower.now c.loop-end.follower c.take_line.new.follower c.args.piece.now rest (take end rest) (take (length rest - (end + 1)) (drop (end + 1) rest)) c.in-Err.fault
    c.loop-end.invariant c.in-Err.ensures (line_there rest 0 end c.in-Some.ensures).whole

pub take_part-requires-clause-one_line : goal.take_part-requires-clause-one_line
take_part-requires-clause-one_line c = no_feed c.loop-end.rest.now c.in_default.ensures

pub returns : goal.returns
returns c =
    taken_last c.args.follower.now c.loop-end.follower c.take_part.new.self c.args.piece.now c.loop-end.rest.now c.take_part.result c.loop-end.invariant
    c.take_part.ensures.goes c.take_part.ensures.live c.take_part.ensures.kept c.take_part.ensures.memory
