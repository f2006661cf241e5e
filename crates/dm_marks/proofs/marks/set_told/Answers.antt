use Rattle.std.proofs.Common.{sym, subst, arith, ◌/◌, List, ℕ}
use Rattle.dm_marks.specs.Inside.Words.{Turns}
use Rattle.dm_marks.proofs.Words.{set_turns, told}
use Rattle.dm_marks.proofs.marks.set_told.Goals as goal
use Rattle.dm_marks.proofs.marks.set_told.Goals.{then-word-eq0, else-word-eq0}

pub returns-clause-words : goal.returns-clause-words
returns-clause-words c = set_turns c.args.words.now c.args.place c.requires.within

pub returns-clause-groups : goal.returns-clause-groups
returns-clause-groups c =
    elim c.if-word-eq0.branch [
      | then-word-eq0 w ↦ subst (λ (now : List ℕ). Turns c.args.groups.now now (c.args.place / 64) 1) (sym w.groups-is) w.set_bit.ensures
      | else-word-eq0 w ↦
          subst (λ (now : List ℕ). Turns c.args.groups.now now (c.args.place / 64) 1) (sym w.groups-is)
          (told c.args.words.now c.args.groups.now (c.args.place / 64) (omega arith) w.if-word-eq0.false c.requires.covered)
    ]
