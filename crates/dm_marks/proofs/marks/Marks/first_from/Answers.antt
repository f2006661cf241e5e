use Rattle.std.proofs.Common.{ℕ, List, subst, ◌/◌, ◌*◌, ◌+◌}
use Rattle.std.specs.Prelude.{IfSome}
use Rattle.dm_marks.specs.Inside.Words.{NoBitBetween, IsFirstBit}
use Rattle.dm_marks.proofs.Words.{first_far, some_too}
use Rattle.dm_marks.proofs.marks.Marks.first_from.Goals as goal

pub returns-in-None-clause-first : goal.returns-in-None-clause-first
returns-in-None-clause-first c =
    let marks = c.self.inside in
    let near : NoBitBetween marks.words.items c.args.from (c.args.from / 64 * 64 + 64) =
    subst (λ (words : List ℕ). NoBitBetween words c.args.from (c.args.from / 64 * 64 + 64)) c.deref.ensures.value c.in-None.ensures.none in
    rw (← c.self.view_is)
    (some_too c.first_behind.result _ _
    (λ place first. first_far marks.flags.items marks.words.items marks.groups.items c.args.from place c.self.invariant near first)
    (subst (λ (words : List ℕ). IfSome c.first_behind.result (IsFirstBit words ((c.args.from / 64 + 1) * 64))) c.deref-in-None.ensures.value c.first_behind.ensures.first))
