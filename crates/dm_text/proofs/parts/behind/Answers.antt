use Rattle.std.proofs.lemmas.Bool.Decides.{Decides-eqb}
use Rattle.std.proofs.lemmas.Slice.Eq.{strip_prefix_is}
use Rattle.dm_text.proofs.Reading.{stripped}
use Rattle.dm_text.proofs.parts.behind.Goals as goal

pub returns : goal.returns
returns c =
    stripped c.args.text.now c.args.line.now c.strip_prefix.result
    (rw (← c.as_bytes.ensures.value) (strip_prefix_is Decides-eqb c.args.line.now c.as_bytes.result.now c.strip_prefix.result c.strip_prefix.ensures.cases))
