use Rattle.dm_waitrule.proofs.Bounded.{rule_choices_are_bounded}
use Rattle.dm_waitrule.proofs.laws.rule_choices_are_bounded.Goals as goal

pub returns : goal.returns
returns c = rule_choices_are_bounded
