use Rattle.std.proofs.Common.{◌≡◌, ◌∙◌, ◌<◌, None, rules, ap, length, not}
use Rattle.dm_lintim.specs.Columns.{column_number}
use Rattle.dm_lintim.specs.Inside.Values.{slot}
use Rattle.dm_lintim.proofs.ValueLemmas.{none_there, slot_put}
use Rattle.dm_lintim.proofs.values.Values.put.Goals as goal

pub returns-then-is_none-clause-numbers : goal.returns-then-is_none-clause-numbers
returns-then-is_none-clause-numbers g c =
    let at = c.number-place.ensures.number in
    let within = c.number-place.ensures.within in
    let found = rw at at (c.is_none.ensures ∙ ap not c.if-is_none.true) in
    let none : slot c.args.self.now.numbers c.args.column ≡ None = none_there (slot c.args.self.now.numbers c.args.column) found in
    let below : column_number c.args.column < length c.args.self.now.numbers = search rules in
    rw at (λ column. slot_put c.args.self.now.numbers c.args.column column c.args.number none below)
