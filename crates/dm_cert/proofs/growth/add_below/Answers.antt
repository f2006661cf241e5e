use Rattle.std.proofs.Common.{◌≡◌, ◌++◌, sym, ◌∙◌}
use Rattle.dm_cert.proofs.Grown.{broken_elsewhere, grown_for, grown_turned, grown_whole}
use Rattle.dm_cert.proofs.growth.add_below.Goals as goal

pub returns-in_default : goal.returns-in_default
returns-in_default c = λ read grown.
    broken_elsewhere read _ _ _ c.args.leaf.now
    (λ tail below. c.in_default.ensures tail (c.as_slice.ensures ∙ rw c.deref.ensures.value below)) (grown_for read _ _ c.args.leaf.now grown)

pub returns-then-not-down : goal.returns-then-not-down
returns-then-not-down c = λ read grown.
    let below : c.args.leaf.now.path ≡ c.args.path.now.items ++ c.in-Some.tail.now = sym c.as_slice.ensures ∙ rw c.deref.ensures.value at c.in-Some.ensures in
    rw c.if-not-down.true at (c.in-Ok.ensures read c.args.leaf.now below (grown_for read _ _ c.args.leaf.now grown))

pub returns-in-Ok-true : goal.returns-in-Ok-true
returns-in-Ok-true c = λ read grown.
    let below : c.args.leaf.now.path ≡ c.args.path.now.items ++ c.in-Some.tail.now = sym c.as_slice.ensures ∙ rw c.deref.ensures.value at c.in-Some.ensures in
    let down = rw c.if-not-down.false at (c.in-Ok.ensures read c.args.leaf.now below (grown_for read _ _ c.args.leaf.now grown)) in
    grown_turned read _ _ _ _ c.args.leaf.now c.requires down c.in-Ok-push.ensures.items (rw c.in-Ok-true.field-0-test at c.in-Ok-true.ensures.due)

pub returns-in-Ok-false : goal.returns-in-Ok-false
returns-in-Ok-false c = λ read grown.
    let below : c.args.leaf.now.path ≡ c.args.path.now.items ++ c.in-Some.tail.now = sym c.as_slice.ensures ∙ rw c.deref.ensures.value at c.in-Some.ensures in
    let down = rw c.if-not-down.false at (c.in-Ok.ensures read c.args.leaf.now below (grown_for read _ _ c.args.leaf.now grown)) in
    grown_whole read _ _ _ c.args.leaf.now c.requires down c.in-Ok-push.ensures.items (rw c.in-Ok-false.field-0-test at c.in-Ok-false.ensures.due)
