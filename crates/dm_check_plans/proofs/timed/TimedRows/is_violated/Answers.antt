use Rattle.std.proofs.Common.{sym, ◌∙◌}
use Rattle.std.proofs.lemmas.Bool.{both_ways}
use Rattle.dm_paths.proofs.Open.{not_violated}
use Rattle.dm_check_plans.proofs.Violating.{flagged_and_unkept, violated_is_both}
use Rattle.dm_check_plans.proofs.timed.TimedRows.is_violated.Goals as goal

pub returns-in_default : goal.returns-in_default
returns-in_default c path are = (
  λ h. absurd cc,
  λ v. absurd (not_violated c.args.self.now.net.now c.args.self.now.rows.now path c.args.self.now.times.now c.args.choice c.in_default.ensures.none v),
)

pub returns-then-is : goal.returns-then-is
returns-then-is c path are = (
  λ h. flagged_and_unkept c.args.self.now.net.now c.reveal.ensures.network c.args.self.now.rows.now path c.args.self.now.times.now c.args.choice c.in-Some.place c.in-Some.ensures.some c.args.undecided.now.changes.items
      c.args.undecided.now.pairs.items are.0 are.1 (sym c.is.ensures ∙ c.if-is.true) (sym c.is_unkept.ensures ∙ h),
  λ v. c.is_unkept.ensures ∙ (violated_is_both c.args.self.now.net.now c.reveal.ensures.network c.args.self.now.rows.now path c.args.self.now.times.now c.args.choice c.in-Some.place c.in-Some.ensures.some
      c.args.undecided.now.changes.items c.args.undecided.now.pairs.items are.0 are.1 v).1,
)

pub returns-else-is : goal.returns-else-is
returns-else-is c path are = (
  λ h. absurd (both_ways c.is.result c.if-is.false h),
  λ v. c.is.ensures ∙ (violated_is_both c.args.self.now.net.now c.reveal.ensures.network c.args.self.now.rows.now path c.args.self.now.times.now c.args.choice c.in-Some.place c.in-Some.ensures.some
      c.args.undecided.now.changes.items c.args.undecided.now.pairs.items are.0 are.1 v).0,
)
