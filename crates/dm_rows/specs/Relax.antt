-- The relaxed problem of a path of decisions of free choices: its decisions are set, and each free choice that it leaves
-- undecided binds nothing and costs nothing.
use Rattle.std.specs.Prelude.{ℕ, ◌==◌, ◌&&◌, Bool, false, not, List, length, map, filter, ◌++◌, Option, Some, None, if◌then◌else◌}
use Rattle.std.specs.List.{range_with_len, list_any}
use Rattle.dm_network.specs.Net.{Net, activity_at, pair_at}
use Rattle.dm_rows.specs.declared.messages.Decision.{Decision}
use Rattle.dm_rows.specs.declared.messages.Choice.{Choice}
use Rattle.dm_rows.specs.declared.messages.Choice.TheVariants.{Change, Pair}
use Rattle.dm_rows.specs.Rows.{RowsValue}
use Rattle.dm_rows.specs.Active.{is_active}
use Rattle.dm_rows.specs.Cost.{is_lost_change, comes_too_early}
use Rattle.dm_rows.specs.Decide.{is_free_change, is_free_pair, change_choice, pair_choice, choice_of, with_decisions}

-- the two choices are one
abbrev pub is_same_choice : Choice → Choice → Bool
is_same_choice (Change a) (Change b) = a.0 == b.0
is_same_choice (Pair i j) (Pair k l) = (i.0 == k.0) && (j.0 == l.0)
is_same_choice (Change a) (Pair k l) = false
is_same_choice (Pair i j) (Change b) = false

-- some decision of the path decides the choice
abbrev pub is_decided : List Decision → Choice → Bool
is_decided path choice = list_any (λ d. is_same_choice (choice_of d) choice) path

-- a free change, a free pair that the path does not decide
abbrev pub is_undecided_change : Net → RowsValue → List Decision → ℕ → Bool
is_undecided_change net rows path a = is_free_change net rows a && not (is_decided path (change_choice net a))

abbrev pub is_undecided_pair : Net → RowsValue → List Decision → ℕ → Bool
is_undecided_pair net rows path p = is_free_pair net rows p && not (is_decided path (pair_choice net p))

-- the activity belongs to an undecided choice: it is an undecided change, or a headway of an undecided pair
abbrev pub is_of_undecided : Net → RowsValue → List Decision → ℕ → Option ℕ → Bool
is_of_undecided net rows path a None = is_undecided_change net rows path a
is_of_undecided net rows path a (Some p) = is_undecided_pair net rows path p

-- The activities that bind in the relaxed problem: those that are active with the path's decisions set, but for those of
-- undecided choices.
abbrev pub is_relaxed_active : Net → RowsValue → List Decision → ℕ → Bool
is_relaxed_active net rows path a =
    if is_of_undecided net rows path a (activity_at net a).pair then false else is_active net (with_decisions net rows path) a

-- The changes that the relaxed problem charges for: those dropped, or with a cancelled end, with the path's decisions set, but
-- for the undecided.
abbrev pub is_relaxed_lost : Net → RowsValue → List Decision → ℕ → Bool
is_relaxed_lost net rows path a =
    is_lost_change net (with_decisions net rows path) a && not (is_undecided_change net rows path a)

abbrev pub is_of_pair : ℕ → Option ℕ → Bool
is_of_pair p None = false
is_of_pair p (Some q) = q == p

-- the activity is a headway of the pair out of this event, and its head comes too early
abbrev pub is_unmet_from : Net → RowsValue → List ℕ → ℕ → ℕ → ℕ → Bool
is_unmet_from net rows x p tail a =
    is_of_pair p (activity_at net a).pair && (activity_at net a).tail == tail && comes_too_early net rows x a

-- some headway of the pair out of this event is not met
abbrev pub has_unmet_from : Net → RowsValue → List ℕ → ℕ → ℕ → Bool
has_unmet_from net rows x p tail = list_any (is_unmet_from net rows x p tail) (range_with_len 0 (length net.activities))

-- An undecided change is violated in a timetable where its head comes too early.
abbrev pub is_violated_change : Net → RowsValue → List Decision → List ℕ → ℕ → Bool
is_violated_change net rows path x a = is_undecided_change net rows path a && comes_too_early net rows x a

-- An undecided pair is violated where neither direction has all its headways met.
abbrev pub is_violated_pair : Net → RowsValue → List Decision → List ℕ → ℕ → Bool
is_violated_pair net rows path x p =
    is_undecided_pair net rows path p
    && has_unmet_from net rows x p (pair_at net p).small && has_unmet_from net rows x p (pair_at net p).large

-- the violated choices, in the order of the free choices
abbrev pub violated_choices_of : Net → RowsValue → List Decision → List ℕ → List Choice
violated_choices_of net rows path x =
    map (change_choice net) (filter (is_violated_change net rows path x) (range_with_len 0 (length net.activities)))
    ++ map (pair_choice net) (filter (is_violated_pair net rows path x) (range_with_len 0 (length net.pairs)))
