use Rattle.std.proofs.Common.{refl, arith}
use Rattle.dm_restore.proofs.Named.{put_there}
use Rattle.dm_restore.proofs.entries.put_entry.Goals as goal

pub returns : goal.returns
returns c =
    put_there c.args.entries.now.items c.make_places.new.entries.items _ c.args.number c.args.entry c.in_ok-make_places.ensures.keeps (omega (arith, c.if-number-eq0.false)) c.in_ok-make_places.ensures.places refl
