use Rattle.std.proofs.Common.{inr}
use Rattle.dm_cert.specs.PlansRead.{IsLeafLine}
use Rattle.dm_cert.proofs.Lined.{told_none, told_spelled}
use Rattle.dm_cert.proofs.PathsRead.{no_leaf, no_leaf_path, leaf_line_is}
use Rattle.dm_cert.proofs.leaf_lines.leaf_line.Goals as goal

pub returns-in_default-leaf_in : goal.returns-in_default-leaf_in
returns-in_default-leaf_in c =
    inr (told_none IsLeafLine _ _ _ _ c.line-number.ensures c.in-Some.ensures (no_leaf _ c.in_default-leaf_in.ensures))

pub returns-in_default-found : goal.returns-in_default-found
returns-in_default-found c =
    inr (told_none IsLeafLine _ _ _ _ c.line-number.ensures c.in-Some.ensures
    (no_leaf_path _ _ _ c.in-Some-leaf_in.ensures (rw c.in_default-found.is at c.in-Ok.ensures)))

pub returns : goal.returns
returns c =
    rw c.from_vec.ensures
    (told_spelled IsLeafLine _ _ _ _ c.in-Some.ensures
    (leaf_line_is _ _ _ _ c.in-Some-leaf_in.ensures (rw c.in-Some-found.is at c.in-Ok.ensures)))
