use Rattle.std.proofs.Common.{arith, rules}
use Rattle.dm_feed.proofs.Hearing.{unnamed_in_three, unnamed_in_four, unnamed_in_five, unnamed_in_six, unnamed_in_seven, unnamed_in_eight, unnamed_by_length}
use Rattle.dm_feed.proofs.vocabulary.word_of.Goals as goal

pub returns-in_default-4 : goal.returns-in_default-4
returns-in_default-4 c = unnamed_in_three c.args.text.now (omega arith) (λ e. search rules)

pub returns-in_default-8 : goal.returns-in_default-8
returns-in_default-8 c = unnamed_in_four c.args.text.now (omega arith) (λ e. search rules) (λ e. search rules) (λ e. search rules) (λ e. search rules) (λ e. search rules) (λ e. search rules) (λ e. search rules) (λ e. search rules)

pub returns-in_default-14 : goal.returns-in_default-14
returns-in_default-14 c = unnamed_in_four c.args.text.now (omega arith) (λ e. search rules) (λ e. search rules) (λ e. search rules) (λ e. search rules) (λ e. search rules) (λ e. search rules) (λ e. search rules) (λ e. search rules)

pub returns-in_default-20 : goal.returns-in_default-20
returns-in_default-20 c = unnamed_in_four c.args.text.now (omega arith) (λ e. search rules) (λ e. search rules) (λ e. search rules) (λ e. search rules) (λ e. search rules) (λ e. search rules) (λ e. search rules) (λ e. search rules)

pub returns-in_default-26 : goal.returns-in_default-26
returns-in_default-26 c = unnamed_in_four c.args.text.now (omega arith) (λ e. search rules) (λ e. search rules) (λ e. search rules) (λ e. search rules) (λ e. search rules) (λ e. search rules) (λ e. search rules) (λ e. search rules)

pub returns-in_default-31 : goal.returns-in_default-31
returns-in_default-31 c = unnamed_in_five c.args.text.now (omega arith) (λ e. search rules) (λ e. search rules) (λ e. search rules) (λ e. search rules) (λ e. search rules) (λ e. search rules)

pub returns-in_default-39 : goal.returns-in_default-39
returns-in_default-39 c = unnamed_in_five c.args.text.now (omega arith) (λ e. search rules) (λ e. search rules) (λ e. search rules) (λ e. search rules) (λ e. search rules) (λ e. search rules)

pub returns-in_default-43 : goal.returns-in_default-43
returns-in_default-43 c = unnamed_in_five c.args.text.now (omega arith) (λ e. search rules) (λ e. search rules) (λ e. search rules) (λ e. search rules) (λ e. search rules) (λ e. search rules)

pub returns-in_default-47 : goal.returns-in_default-47
returns-in_default-47 c = unnamed_in_five c.args.text.now (omega arith) (λ e. search rules) (λ e. search rules) (λ e. search rules) (λ e. search rules) (λ e. search rules) (λ e. search rules)

pub returns-in_default-51 : goal.returns-in_default-51
returns-in_default-51 c = unnamed_in_five c.args.text.now (omega arith) (λ e. search rules) (λ e. search rules) (λ e. search rules) (λ e. search rules) (λ e. search rules) (λ e. search rules)

pub returns-in_default-53 : goal.returns-in_default-53
returns-in_default-53 c = unnamed_in_five c.args.text.now (omega arith) (λ e. search rules) (λ e. search rules) (λ e. search rules) (λ e. search rules) (λ e. search rules) (λ e. search rules)

pub returns-in_default-57 : goal.returns-in_default-57
returns-in_default-57 c = unnamed_in_six c.args.text.now (omega arith) (λ e. search rules) (λ e. search rules) (λ e. search rules)

pub returns-in_default-62 : goal.returns-in_default-62
returns-in_default-62 c = unnamed_in_six c.args.text.now (omega arith) (λ e. search rules) (λ e. search rules) (λ e. search rules)

pub returns-in_default-67 : goal.returns-in_default-67
returns-in_default-67 c = unnamed_in_six c.args.text.now (omega arith) (λ e. search rules) (λ e. search rules) (λ e. search rules)

pub returns-in_default-69 : goal.returns-in_default-69
returns-in_default-69 c = unnamed_in_six c.args.text.now (omega arith) (λ e. search rules) (λ e. search rules) (λ e. search rules)

pub returns-in_default-74 : goal.returns-in_default-74
returns-in_default-74 c = unnamed_in_seven c.args.text.now (omega arith) (λ e. search rules)

pub returns-in_default-76 : goal.returns-in_default-76
returns-in_default-76 c = unnamed_in_seven c.args.text.now (omega arith) (λ e. search rules)

pub returns-in_default-82 : goal.returns-in_default-82
returns-in_default-82 c = unnamed_in_eight c.args.text.now (omega arith) (λ e. search rules)

pub returns-in_default-83 : goal.returns-in_default-83
returns-in_default-83 c = unnamed_in_eight c.args.text.now (omega arith) (λ e. search rules)

pub returns-in_default-84 : goal.returns-in_default-84
returns-in_default-84 c = unnamed_in_eight c.args.text.now (omega arith) (λ e. search rules)

pub returns-in_default-85 : goal.returns-in_default-85
returns-in_default-85 c = unnamed_by_length c.args.text.now (λ e. omega (arith, e)) (λ e. omega (arith, e)) (λ e. omega (arith, e)) (λ e. omega (arith, e)) (λ e. omega (arith, e)) (λ e. omega (arith, e))
