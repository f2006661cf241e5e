use Rattle.std.proofs.lemmas.Result.{on_err_weaker}
use Rattle.dm_propagate.proofs.Concerning.{followed_by_all}
use Rattle.dm_rows.specs.declared.messages.Change.TheVariants.{Adopted}
use Rattle.dm_propagate.specs.Inside.Flags.{flags_of}
use Rattle.dm_propagate.proofs.Flagging.{set_by, no_other}
use Rattle.dm_propagate.proofs.changing.turn_adopted.Goals as goal

pub returns-clause-flags : goal.returns-clause-flags
returns-clause-flags g c =
    set_by c.args.day.now.net.now c.args.day.now.rows.now (Adopted c.args.flips.now) c.args.flips.now (λ i moves. moves)
    (flags_of c.args.priced.now) (flags_of c.turn_by_flips.new.priced) (λ a moves. moves) c.requires.flags c.turn_by_flips.ensures.flags

pub turn_by_flips-requires-clause-open : goal.turn_by_flips-requires-clause-open
turn_by_flips-requires-clause-open g c =
    no_other c.args.day.now.net.now c.args.day.now.rows.now (Adopted c.args.flips.now) (flags_of c.args.priced.now) (λ i moves. moves) c.requires.flags

pub returns-clause-followed : goal.returns-clause-followed
returns-clause-followed g c =
    on_err_weaker c.turn_by_flips.result
    (λ refused. followed_by_all c.args.day.now.net.now c.args.day.now.rows.now c.args.flips.now c.args.priced.now.live c.turn_by_flips.new.priced.live refused
    c.turn_by_flips.ensures.floors c.requires.follows)
    c.turn_by_flips.ensures.refused
