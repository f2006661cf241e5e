-- What contracts see of an evaluator, and what holds of it between its moves.
use Rattle.std.specs.Prelude.{ℕ, Bool, not, List, length, filter}
use Rattle.dm_live.specs.Live.{IsAtRest}
use Rattle.dm_network.specs.Net.{Net}
use Rattle.dm_rows.specs.declared.messages.Choice.{Choice}
use Rattle.dm_rows.specs.declared.messages.Decision.{Decision}
use Rattle.dm_rows.specs.Decide.{IsChoiceList, choice_of}
use Rattle.dm_rows.specs.Relax.{is_same_choice, is_undecided_change, is_undecided_pair}
use Rattle.dm_rows.specs.Rows.{RowsValue, IsSized}
use Rattle.dm_priced.specs.Priced.{PricedValue}
use Rattle.dm_evaluate.specs.Evaluating.{Evaluates}
use Rattle.dm_evaluate.specs.Marks.{MarksValue, MarksUnkept}
use Rattle.dm_paths.specs.Flags.{AreFlags}

-- rows, a path of decisions, which changes and which pairs it leaves undecided, the timetable of its relaxed problem, and marks
pub record EvaluatorValue : Type 0 where
  pub rows : RowsValue
  pub path : List Decision
  pub changes : List Bool
  pub pairs : List Bool
  pub priced : PricedValue
  pub marks : MarksValue

abbrev pub times_of : EvaluatorValue → List ℕ
times_of evaluator = evaluator.priced.live.times

-- the activities of the cycle for which a decision was refused last
abbrev pub cycle_of : EvaluatorValue → List ℕ
cycle_of evaluator = evaluator.priced.live.order.cycle

-- The rows are of the network, the path decides free choices, none twice, the flags are those of what it leaves undecided,
-- the timetable evaluates it, with no time left to be computed, and what the times do not keep is marked.
pub record IsEvaluatorOf (net : Net) (evaluator : EvaluatorValue) : Type 0 where
  pub sized : IsSized net evaluator.rows
  pub is_path : IsChoiceList net evaluator.rows evaluator.path
  pub changes : AreFlags (is_undecided_change net evaluator.rows evaluator.path) (length net.activities) evaluator.changes
  pub pairs : AreFlags (is_undecided_pair net evaluator.rows evaluator.path) (length net.pairs) evaluator.pairs
  pub evaluates : Evaluates net evaluator.rows evaluator.path evaluator.priced
  pub at_rest : IsAtRest evaluator.priced.live
  pub marked : MarksUnkept net evaluator.priced.live.given.spans (times_of evaluator) evaluator.marks

-- the path without the decisions of a choice
abbrev pub path_without : Choice → List Decision → List Decision
path_without choice path = filter (λ d. not (is_same_choice (choice_of d) choice)) path
