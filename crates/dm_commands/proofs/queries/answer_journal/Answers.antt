use Rattle.std.proofs.Common.{sym, subst}
use Rattle.dm_table.specs.Value.{TableValue}
use Rattle.dm_journal.specs.declared.giving.Journal.{Journal as AJournal}
use Rattle.dm_journal.specs.Journals.{IsJournal}
use Rattle.dm_words.specs.declared.queries.Query.{Query}
use Rattle.dm_commands.specs.Inside.Asking.{EndsCompared, EndsOnJournal, EndsOutlook, EndsTravelled}
use Rattle.dm_commands.proofs.Questions.{answers_journeys, answers_rules, answers_state, answers_torn, answers_window}
use Rattle.dm_commands.proofs.queries.answer_journal.Goals as goal

pub returns-in-Follow-clause-ends : goal.returns-in-Follow-clause-ends
returns-in-Follow-clause-ends g c = λ net rows penalty bytes is.
    let there = subst (λ (j : AJournal). IsJournal net rows penalty bytes j) c.in-Torn.is is in
    subst (λ (q : Query). EndsOnJournal g.K.Sink.taken g.K.Sink.faults q net rows penalty bytes c.args.out.now c.end_state.new.out c.end_state.result) (sym c.in-Follow.is)
    (answers_state g.K.Sink.taken g.K.Sink.faults net rows penalty bytes c.args.out.now c.end_state.new.out c.end_state.result c.in-Torn.follower there.0 c.end_state.ensures.ends)

pub returns-in_default-clause-ends : goal.returns-in_default-clause-ends
returns-in_default-clause-ends g c = λ net rows penalty bytes is.
    let there = subst (λ (j : AJournal). IsJournal net rows penalty bytes j) c.in-Torn.is is in
    answers_torn g.K.Sink.taken g.K.Sink.faults net rows penalty bytes c.args.out.now c.end_torn.new.out c.end_torn.result _ c.in-Torn.line c.in_default.not-Follow there.1 c.end_torn.ensures.ends

pub returns-in-Follow-query-clause-ends : goal.returns-in-Follow-query-clause-ends
returns-in-Follow-query-clause-ends g c = λ net rows penalty bytes is.
    let there = subst (λ (j : AJournal). IsJournal net rows penalty bytes j) c.in-Whole.is is in
    subst (λ (q : Query). EndsOnJournal g.K.Sink.taken g.K.Sink.faults q net rows penalty bytes c.args.out.now c.end_state-in-Follow-query.new.out c.end_state-in-Follow-query.result) (sym c.in-Follow-query.is)
    (answers_state g.K.Sink.taken g.K.Sink.faults net rows penalty bytes c.args.out.now c.end_state-in-Follow-query.new.out c.end_state-in-Follow-query.result c.in-Whole.follower there.0 c.end_state-in-Follow-query.ensures.ends)

pub returns-in-Journey-clause-ends : goal.returns-in-Journey-clause-ends
returns-in-Journey-clause-ends g c = λ net rows penalty bytes is.
    let there = subst (λ (j : AJournal). IsJournal net rows penalty bytes j) c.in-Whole.is is in
    let ends = subst (λ (t : TableValue). EndsTravelled g.K.Sink.taken g.K.Sink.faults c.in-Journey.asked t c.args.out.now c.end_journeys.new.out c.end_journeys.result) c.table.ensures c.end_journeys.ensures.ends in
    subst (λ (q : Query). EndsOnJournal g.K.Sink.taken g.K.Sink.faults q net rows penalty bytes c.args.out.now c.end_journeys.new.out c.end_journeys.result) (sym c.in-Journey.is)
    (answers_journeys g.K.Sink.taken g.K.Sink.faults net rows penalty bytes c.args.out.now c.end_journeys.new.out c.end_journeys.result c.in-Whole.follower c.in-Journey.asked there.0 there.1 ends)

pub returns-in-Rules-clause-ends : goal.returns-in-Rules-clause-ends
returns-in-Rules-clause-ends g c = λ net rows penalty bytes is.
    let there = subst (λ (j : AJournal). IsJournal net rows penalty bytes j) c.in-Whole.is is in
    let ends = subst (λ (t : TableValue). EndsCompared g.K.Sink.taken g.K.Sink.faults c.in-Rules.asked t c.args.out.now c.end_rules.new.out c.end_rules.result) c.table-in-Rules.ensures c.end_rules.ensures.ends in
    subst (λ (q : Query). EndsOnJournal g.K.Sink.taken g.K.Sink.faults q net rows penalty bytes c.args.out.now c.end_rules.new.out c.end_rules.result) (sym c.in-Rules.is)
    (answers_rules g.K.Sink.taken g.K.Sink.faults net rows penalty bytes c.args.out.now c.end_rules.new.out c.end_rules.result c.in-Whole.follower c.in-Rules.asked there.0 there.1 ends)

pub returns-in-Window-clause-ends : goal.returns-in-Window-clause-ends
returns-in-Window-clause-ends g c = λ net rows penalty bytes is.
    let there = subst (λ (j : AJournal). IsJournal net rows penalty bytes j) c.in-Whole.is is in
    let ends = subst (λ (t : TableValue). EndsOutlook g.K.Sink.taken g.K.Sink.faults c.in-Window.asked t c.args.out.now c.end_window.new.out c.end_window.result) c.table-in-Window.ensures c.end_window.ensures.ends in
    subst (λ (q : Query). EndsOnJournal g.K.Sink.taken g.K.Sink.faults q net rows penalty bytes c.args.out.now c.end_window.new.out c.end_window.result) (sym c.in-Window.is)
    (answers_window g.K.Sink.taken g.K.Sink.faults net rows penalty bytes c.args.out.now c.end_window.new.out c.end_window.result c.in-Whole.follower c.in-Window.asked there.0 there.1 ends)
