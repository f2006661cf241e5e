use Rattle.std.proofs.Common.{ℕ, List, [], ◌∷◌, codes, subst}
use Rattle.std.specs.Fmt.{decimal}
use Rattle.dm_outside.specs.Printing.{Puts, joined}
use Rattle.dm_input.specs.Lines.{line_end}
use Rattle.dm_store_text.proofs.ends.put_bad.Goals as goal

pub returns : goal.returns
returns g c =
    subst
    (λ (word : List ℕ). Puts g.K.Sink.taken g.K.Sink.faults c.args.sink.now c.put_pieces.new.sink c.put_pieces.result
    (joined (codes "refused store " ∷ decimal c.args.line ∷ codes " " ∷ word ∷ line_end ∷ [])))
    c.word.ensures c.put_pieces.ensures
