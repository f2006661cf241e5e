use Rattle.std.proofs.Common.{◌<◌, false, length, arith}
use Rattle.std.proofs.lemmas.Bool.Decides.{nat_tests}
use Rattle.dm_boards.proofs.file.FileBoardBoard.cancel.Goals as goal

pub returns-in-Err-clause-sound : goal.returns-in-Err-clause-sound
returns-in-Err-clause-sound g c =
    let some : 0 < length c.args.changes.now = grind (arith, nat_tests) in
    λ all. absurd (all 0 (0, false) some)
