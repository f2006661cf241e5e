use Rattle.std.proofs.Common.{◌≡◌, ◌-◌, ℕ, List, length, take, drop, sym, ap, subst, ◌∙◌}
use Rattle.std.specs.Prelude.{IfSome}
use Rattle.std.proofs.lemmas.List.{take_rest}
use Rattle.dm_cert.specs.declared.replies.LogItem.{LogItem}
use Rattle.dm_catch_up.specs.Feeds.{DiffersAt}
use Rattle.dm_catch_up.specs.Inside.Comparing.{IsCompared, StopsComparing}
use Rattle.dm_catch_up.proofs.Passing.{comparing_refused, missing_there, passed_on, still_same, still_unended}
use Rattle.dm_catch_up.proofs.catching.skip_more.Goals as goal

pub returns-then-count-eq0-clause-refused : goal.returns-then-count-eq0-clause-refused
returns-then-count-eq0-clause-refused g c =
    let before = c.args.watched.now in
    let now = c.read_more.new.tail in
    let takes = c.in-Ok.ensures.takes in
    let same = still_same g.T.Growing.given before.log.items before.tail now before.lines c.in-Ok.count c.args.from takes c.in-Ok.ensures.bytes c.requires.same in
    let unended = still_unended g.T.Growing.given before.tail now c.in-Ok.count takes c.if-count-eq0.true c.requires.unended in
    subst (λ (n : ℕ). IfSome (g.T.Growing.given now.feed) (λ bytes. DiffersAt bytes before.log.items n)) (sym c.line_of.ensures)
    (missing_there (g.T.Growing.given now.feed) before.log.items now.pending.items before.lines now.taken c.args.from same c.index.result.now c.requires.some c.index.ensures unended)

pub returns-in-Err-compare_part-clause-refused : goal.returns-in-Err-compare_part-clause-refused
returns-in-Err-compare_part-clause-refused g c =
    let before = c.args.watched.now in
    let now = c.read_more.new.tail in
    let same = still_same g.T.Growing.given before.log.items before.tail now before.lines c.in-Ok.count c.args.from c.in-Ok.ensures.takes c.in-Ok.ensures.bytes c.requires.same in
    let left : take (length c.deref.result.now - c.args.from) (drop c.args.from c.deref.result.now) ≡ drop c.args.from before.log.items =
    take_rest c.deref.result.now c.args.from ∙ ap (drop c.args.from) c.deref.ensures.value in
    comparing_refused g.T.Growing.given g.T.Growing.faults before.log.items before (record before { tail = now }) before.lines now.taken c.args.from same c.in-Err-compare_part.stop
    (subst (λ (l : List LogItem). StopsComparing now.pending.items before.lines l c.in-Err-compare_part.stop) left
    (subst (λ (part : List ℕ). StopsComparing part before.lines (take (length c.deref.result.now - c.args.from) (drop c.args.from c.deref.result.now)) c.in-Err-compare_part.stop) c.as_slice-pending.ensures.value c.in-Err-compare_part.ensures.other))

pub returns-clause-same : goal.returns-clause-same
returns-clause-same g c =
    let before = c.args.watched.now in
    let now = c.read_more.new.tail in
    let done = c.in-Ok-compare_part.compared in
    let same = still_same g.T.Growing.given before.log.items before.tail now before.lines c.in-Ok.count c.args.from c.in-Ok.ensures.takes c.in-Ok.ensures.bytes c.requires.same in
    let left : take (length c.deref.result.now - c.args.from) (drop c.args.from c.deref.result.now) ≡ drop c.args.from before.log.items =
    take_rest c.deref.result.now c.args.from ∙ ap (drop c.args.from) c.deref.ensures.value in
    passed_on g.T.Growing.given before.log.items now c.skip.new.self before.lines c.args.from done.bytes done.lines done.items same
    (subst (λ (l : List LogItem). IsCompared now.pending.items before.lines l done.bytes done.lines done.items) left
    (subst (λ (part : List ℕ). IsCompared part before.lines (take (length c.deref.result.now - c.args.from) (drop c.args.from c.deref.result.now)) done.bytes done.lines done.items) c.as_slice-pending.ensures.value c.in-Ok-compare_part.ensures.same))
    c.skip.ensures.pending c.skip.ensures.feed c.skip.ensures.taken
