use Rattle.std.proofs.Common.{◌≡◌, ◌≤◌, ◌+◌, ◌∙◌, ap, subst, arith, None, Some}
use Rattle.dm_feed.specs.declared.feed.FeedStop.TheVariants.{Long}
use Rattle.dm_feed.specs.Feeds.{ReaderValue}
use Rattle.dm_feed.specs.Inside.Consuming.{Overflows}
use Rattle.dm_feed.proofs.Feeding.{overflows}
use Rattle.dm_feed.proofs.reader.LineReader.fill.Goals as goal
use Rattle.dm_feed.proofs.reader.LineReader.fill.Goals.{then-self-lt-FEED, else-self-lt-FEED}

-- more than the limit came in, so one byte above it
pub returns-then-self-gt-FEED-clause-err : goal.returns-then-self-gt-FEED-clause-err
returns-then-self-gt-FEED-clause-err g c =
    let before : ReaderValue g.row.S.Denot = record { source = c.self.inside.source; pending = c.self.inside.buffer; taken = c.self.inside.taken; lines = c.self.inside.lines; stop = c.self.inside.stop } in
    let now : ReaderValue g.row.S.Denot = record { source = c.read_from.new.source; pending = c.read_from.new.self; taken = c.self.inside.taken + c.in-Ok.count; lines = c.self.inside.lines; stop = Some Long } in
    let is_open : c.self.inside.stop ≡ None = ap (λ (v : ReaderValue g.row.S.Denot). v.stop) c.self.view_is ∙ c.requires.open in
    let within : c.self.inside.taken ≤ 262144 = c.self.invariant.2 is_open in
    let short : c.in-Ok.count ≤ c.if-self-lt-FEED.most = c.in-Ok.ensures.short in
    let one : c.in-Ok.count ≡ 1 =
    elim c.if-self-lt-FEED.branch [ then-self-lt-FEED w ↦ absurd (omega arith) | else-self-lt-FEED w ↦ omega arith ] in
    let is : Overflows g.S.Source.left before now = overflows before now c.in-Ok.count c.in-Ok.ensures.ok one (omega arith) (omega (arith, one)) in
    subst (λ (b : ReaderValue g.row.S.Denot). Overflows g.S.Source.left b now) c.self.view_is is
