use Rattle.dm_restore.specs.Restoring.{IsNoRound}
use Rattle.dm_restore.specs.Inside.Reading.{IsWholeRound}
use Rattle.std.proofs.lemmas.Option.{MatchOption-at_some}
use Rattle.dm_restore.proofs.ReadRounds.{read_more, as_many}
use Rattle.dm_restore.proofs.rounds.read_logs.Goals as goal

pub add_round-requires : goal.add_round-requires
add_round-requires c =
    let whole = MatchOption-at_some (IsNoRound c.args.feeds c.in-Some.content.now) (λ r. IsWholeRound c.args.feeds c.in-Some.content.now r.items) c.in-Some-round.round c.in-Some-round.is c.in-Ok-round_in.ensures in
    as_many c.args.feeds c.args.blocks.now c.loop-content.rest.now c.loop-content.logs.items c.loop-content.number c.in-Some.content.now c.in-Some-round.round.items c.loop-content.invariant whole

pub loop-content-preserved : goal.loop-content-preserved
loop-content-preserved c =
    let whole = MatchOption-at_some (IsNoRound c.args.feeds c.in-Some.content.now) (λ r. IsWholeRound c.args.feeds c.in-Some.content.now r.items) c.in-Some-round.round c.in-Some-round.is c.in-Ok-round_in.ensures in
    read_more c.args.feeds c.args.blocks.now c.loop-content.rest.now c.in-Some.content.now c.in-Some.more.now _ c.loop-content.number c.loop-content.invariant c.in-Some.ensures c.in-Some-round.round.items _ whole c.in-Ok-add_round.ensures
