use Rattle.std.proofs.Common.{Bool, subst}
use Rattle.dm_cert.specs.declared.replies.LogItem.TheVariants.{Answered}
use Rattle.dm_cert.specs.declared.replies.Reply.TheVariants.{Solved}
use Rattle.dm_records.specs.Readings.{solved_opening_of}
use Rattle.dm_check.specs.Inside.TrueLogs.{IsNextOn}
use Rattle.dm_check.proofs.SolvedBlocks.{solution_next, solution_untrue}
use Rattle.dm_check.proofs.told_items.Logs.solution_shown.Goals as goal

pub returns-in-Ok-true-clause-tells : goal.returns-in-Ok-true-clause-tells
returns-in-Ok-true-clause-tells c = λ before old new shows past.
    let next = subst
    (λ (b : Bool). IsNextOn c.args.self.now.replay.journal.setting c.args.self.now.replay.journal.history c.args.feed before (Answered c.args.opening.now.line c.args.opening.now.said (Solved c.args.plan)) c.is_true_solution.new.past
    c.args.self.now.named.items c.is_true_solution.new.self.named.items b) c.in-Ok-true.field-0-test (c.in-Ok-true.ensures.tells before past) in
    solution_next c.args.self.now.replay.journal.setting c.args.self.now.replay.journal.history c.args.feed before c.args.first c.is_true_solution.new.past c.args.self.now.named.items (solved_opening_of c.args.opening.now) old new
    c.args.plan c.is_true_solution.new.self.named.items shows next.0 next.1

pub returns-in-Ok-false-clause-tells : goal.returns-in-Ok-false-clause-tells
returns-in-Ok-false-clause-tells c = λ before old new shows past.
    let none = subst
    (λ (b : Bool). IsNextOn c.args.self.now.replay.journal.setting c.args.self.now.replay.journal.history c.args.feed before (Answered c.args.opening.now.line c.args.opening.now.said (Solved c.args.plan)) c.is_true_solution.new.past
    c.args.self.now.named.items c.is_true_solution.new.self.named.items b) c.in-Ok-false.field-0-test (c.in-Ok-false.ensures.tells before past) in
    solution_untrue c.args.self.now.replay.journal.setting c.args.self.now.replay.journal.history c.args.feed before c.args.first c.is_true_solution.new.past c.args.self.now.named.items (solved_opening_of c.args.opening.now) old new
    c.args.plan shows none
