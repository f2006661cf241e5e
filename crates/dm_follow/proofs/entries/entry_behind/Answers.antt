use Rattle.std.proofs.Common.{◌≡◌, ℕ, ◌+◌, Option, length, ap, sym, subst, ◌∙◌}
use Rattle.dm_records.specs.RunLines.{Numbered, IsEntryLine}
use Rattle.dm_records.specs.Readings.{IsRead, numbered}
use Rattle.dm_records.specs.declared.lines.EntryLine.{EntryLine}
use Rattle.dm_follow.specs.declared.faults.FollowKind.TheVariants as kind
use Rattle.dm_follow.specs.declared.stages.Stage.{Stage}
use Rattle.dm_follow.specs.declared.stages.Stage.TheVariants.{Journal, Failed}
use Rattle.dm_follow.specs.Inside.Reading.{Advances, stage_after}
use Rattle.dm_follow.proofs.Advancing.{entry_advances, misshapen_advances}
use Rattle.dm_follow.proofs.entries.entry_behind.Goals as goal

pub returns-in-None-clause-advances : goal.returns-in-None-clause-advances
returns-in-None-clause-advances c = λ line read.
    let none : (said : Numbered) → IsEntryLine said line → ⊥ = subst (λ (o : Option EntryLine). IsRead IsEntryLine numbered line o) c.in-None.is read in
    subst (λ (n : ℕ). Advances c.args.table.now c.args.table.now (Journal c.args.feeds c.args.entries) line (Failed (n + 5) kind.Form)) (sym c.len-entered.ensures.count)
    (misshapen_advances c.args.table.now c.args.feeds c.args.entries line c.reveal.ensures.table c.requires none)

pub returns-in-Ok-clause-advances : goal.returns-in-Ok-clause-advances
returns-in-Ok-clause-advances c = λ line read.
    let spelled : IsEntryLine (numbered c.in-Some.said) line = subst (λ (o : Option EntryLine). IsRead IsEntryLine numbered line o) c.in-Some.is read in
    let stage_is : c.stage_after.result ≡ stage_after c.args.feeds c.args.entries (length c.args.table.now.history) c.in-Ok.is_next =
    c.stage_after.ensures ∙ ap (λ (n : ℕ). stage_after c.args.feeds c.args.entries n c.in-Ok.is_next) c.len-entered.ensures.count in
    subst (λ (s : Stage). Advances c.args.table.now c.enter.new.table (Journal c.args.feeds c.args.entries) line s) (sym stage_is)
    (entry_advances c.args.table.now c.enter.new.table c.args.feeds c.args.entries line (numbered c.in-Some.said) c.in-Ok.is_next c.reveal.ensures.table c.requires spelled c.in-Ok.ensures.enters)
