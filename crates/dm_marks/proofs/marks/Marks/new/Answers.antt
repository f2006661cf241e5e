use Rattle.std.proofs.Common.{rules, arith, ◌≡◌, ◌/◌, ◌+◌, false, replicate}
use Rattle.dm_marks.proofs.Words.{bits_none, covered_none}
use Rattle.dm_marks.proofs.marks.Marks.new.Goals as goal

pub invariant_of-result : goal.invariant_of-result
invariant_of-result c =
    let flags : c.in_ok-flags.flags.items ≡ replicate c.args.places false = search rules in
    let words : c.in_ok-words.words.items ≡ replicate (c.args.places / 64 + 1) 0 = search rules in
    let groups : c.in_ok-groups.groups.items ≡ replicate ((c.args.places / 64 + 1) / 64 + 1) 0 = search rules in
    rw (flags, words, groups) (
      bits_none c.args.places (c.args.places / 64 + 1) (omega arith) (search rules),
      covered_none (c.args.places / 64 + 1) ((c.args.places / 64 + 1) / 64 + 1) (omega arith) (search rules),
    )
