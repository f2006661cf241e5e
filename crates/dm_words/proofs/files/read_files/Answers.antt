use Rattle.dm_words.proofs.files.read_files.Goals as goal

pub returns-in_default : goal.returns-in_default
returns-in_default c = λ asked folder asks. c.in_default.ensures _ asks.penalty

pub returns-in_default-plans_of : goal.returns-in_default-plans_of
returns-in_default-plans_of c = λ asked folder asks. c.in_default-plans_of.ensures _ asks.plans

pub returns-in_default-given : goal.returns-in_default-given
returns-in_default-given c = λ asked folder asks. c.in_default-given.ensures _ asks.gives_events

pub returns-in_default-given-2 : goal.returns-in_default-given-2
returns-in_default-given-2 c = λ asked folder asks. c.in_default-given-2.ensures _ asks.gives_activities

pub returns-in_default-given-3 : goal.returns-in_default-given-3
returns-in_default-given-3 c = λ asked folder asks. c.in_default-given-3.ensures _ asks.gives_event_delays

pub returns-in_default-given-4 : goal.returns-in_default-given-4
returns-in_default-given-4 c = λ asked folder asks. c.in_default-given-4.ensures _ asks.gives_activity_delays

pub returns-in_default-given-5 : goal.returns-in_default-given-5
returns-in_default-given-5 c = λ asked folder asks. c.in_default-given-5.ensures _ asks.gives_cancelled
