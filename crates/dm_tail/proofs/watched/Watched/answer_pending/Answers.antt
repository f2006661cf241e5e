use Rattle.std.proofs.Common.{ℕ, List, refl, subst}
use Rattle.dm_desk.specs.Fed.{AnswersPart}
use Rattle.dm_tail.proofs.Following.{answers_none, answers_pending, still_short}
use Rattle.dm_tail.proofs.watched.Watched.answer_pending.Goals as goal

pub returns-then-not-self-clause-answers : goal.returns-then-not-self-clause-answers
returns-then-not-self-clause-answers g c =
    answers_none g.T.Growing.given c.args.batch (g.D.Desk.value c.args.desk.now) c.args.number c.args.self.now c.requires.legal (c.requires.lines c.if-not-self.true)

pub returns-clause-answers : goal.returns-clause-answers
returns-clause-answers g c =
    let part =
    subst (λ (l : List ℕ). AnswersPart l c.args.batch c.args.self.now.lines c.in_ok-passed.passed c.in_ok-passed.lines (g.D.Desk.value c.args.desk.now) (g.D.Desk.value c.answer_lines.new.desk) c.args.number c.args.self.now.log.items c.answer_lines.new.log.items)
    c.as_slice-pending.ensures.value c.in_ok-passed.ensures in
    answers_pending g.T.Growing.given c.args.batch c.in_ok-passed.passed c.in_ok-passed.lines (g.D.Desk.value c.args.desk.now) (g.D.Desk.value c.answer_lines.new.desk) c.args.number c.args.self.now _ part c.skip.ensures.feed refl c.skip.ensures.pending refl

pub returns-clause-short : goal.returns-clause-short
returns-clause-short g c =
    let part =
    subst (λ (l : List ℕ). AnswersPart l c.args.batch c.args.self.now.lines c.in_ok-passed.passed c.in_ok-passed.lines (g.D.Desk.value c.args.desk.now) (g.D.Desk.value c.answer_lines.new.desk) c.args.number c.args.self.now.log.items c.answer_lines.new.log.items)
    c.as_slice-pending.ensures.value c.in_ok-passed.ensures in
    still_short g.T.Growing.given c.args.batch c.in_ok-passed.passed c.in_ok-passed.lines (g.D.Desk.value c.args.desk.now) (g.D.Desk.value c.answer_lines.new.desk) c.args.number c.args.self.now _ part c.skip.ensures.feed refl c.skip.ensures.pending c.skip.ensures.taken c.requires.short
