use Rattle.std.proofs.Common.{map, string_bytes, ap, sym, ◌∙◌, ◌≡◌, ◌≤◌, length, arith}
use Rattle.std.specs.Prelude.{vec_len}
use Rattle.dm_base.specs.declared.limits.TheConstants.{BOARDS}
use Rattle.dm_words.specs.Words.{AreStopsOf, boards_of_command}
use Rattle.dm_words.specs.Asked.{command_of}
use Rattle.dm_words.specs.declared.command.CommandWords.{CommandWords}
use Rattle.dm_words.proofs.Asking.{few_boards, stops_asked, if_ok_then}
use Rattle.dm_words.proofs.boards.board_words.Goals as goal

pub returns-in-Some-Run-clause-stops : goal.returns-in-Some-Run-clause-stops
returns-in-Some-Run-clause-stops c =
    let boards = ap (λ (words : CommandWords). boards_of_command (command_of words)) (sym c.in-Some-Run.field-0-is) in
    if_ok_then (λ (v : _). v.items ≡ c.in-Some-Run.run'.boards) (λ (v : _). AreStopsOf (map string_bytes c.args.words.now) v.items) c.to_vec.result c.to_vec.ensures
    (λ v is. stops_asked (map string_bytes c.args.words.now) _ v.items c.in-Some-Run.ensures (is ∙ boards))

pub returns-in-Some-Run-clause-few : goal.returns-in-Some-Run-clause-few
returns-in-Some-Run-clause-few c =
    let boards = ap (λ (words : CommandWords). boards_of_command (command_of words)) (sym c.in-Some-Run.field-0-is) in
    let few = few_boards (map string_bytes c.args.words.now) _ c.in-Some-Run.ensures in
    if_ok_then (λ (v : _). v.items ≡ c.in-Some-Run.run'.boards) (λ (v : _). vec_len v ≤ BOARDS) c.to_vec.result c.to_vec.ensures
    (λ v is. omega (arith, few, ap length (is ∙ boards), v.ok.0))
