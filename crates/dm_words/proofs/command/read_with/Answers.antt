use Rattle.std.proofs.Common.{rules, ◌≡◌, codes}
use Rattle.dm_words.proofs.Asking.{asks_no_check, asks_no_gen}
use Rattle.dm_words.proofs.command.read_with.Goals as goal

pub returns-in-None-read_check : goal.returns-in-None-read_check
returns-in-None-read_check c =
    let is : c.args.command.now ≡ codes "check" = search rules in
    asks_no_check _ _ is c.in-None-read_check.ensures

pub returns-in-None-read_gen : goal.returns-in-None-read_gen
returns-in-None-read_gen c =
    let is : c.args.command.now ≡ codes "gen" = search rules in
    asks_no_gen _ _ is c.in-None-read_gen.ensures
