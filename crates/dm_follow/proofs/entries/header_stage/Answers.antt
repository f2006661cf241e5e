use Rattle.std.proofs.Common.{ℕ, [], ◌∷◌, ◌++◌, sym, subst}
use Rattle.dm_follow.specs.declared.faults.FollowKind.TheVariants as kind
use Rattle.dm_follow.specs.Inside.Reading.{HasFailed}
use Rattle.dm_follow.proofs.Advancing.{header_off, header_on}
use Rattle.dm_follow.proofs.entries.header_stage.Goals as goal

pub returns-in-Some : goal.returns-in-Some
returns-in-Some c = header_on c.args.penalty c.args.stage c.in-Some.next c.args.line.now c.requires.is_in_header c.in-Some.ensures

pub returns-in-None : goal.returns-in-None
returns-in-None c = λ net start history bytes at.
    subst (λ (n : ℕ). HasFailed net start c.args.penalty history (bytes ++ 10 ∷ []) n kind.Form) (sym c.header_line.ensures)
    (header_off c.args.penalty c.args.stage c.args.line.now c.requires.is_in_header c.requires.low c.in-None.ensures net start history bytes at)
