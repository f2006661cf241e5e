-- What may still be decided, and the rows with decisions set.
use Rattle.std.specs.Prelude.{ℕ, ◌≡◌, ◌++◌, ◌&&◌, nat_lt, Bool, not, List, length, map, fold, filter, All, Contains, slice_get, Some, Option, None, if◌then◌else◌}
use Rattle.std.specs.List.{range_with_len}
use Rattle.dm_network.specs.Net.{Net, event_at, activity_at, pair_at, is_change}
use Rattle.dm_rows.specs.declared.messages.Decision.{Decision}
use Rattle.dm_rows.specs.declared.messages.Decision.TheVariants.{Keep, Drop, First}
use Rattle.dm_rows.specs.declared.messages.Choice.{Choice}
use Rattle.dm_rows.specs.declared.messages.Choice.TheVariants.{Change, Pair}
use Rattle.dm_rows.specs.declared.messages.Flip.{Flip}
use Rattle.dm_rows.specs.Rows.{RowsValue, is_cancelled, is_locked_change, is_locked_pair}
use Rattle.dm_rows.specs.Active.{has_passed, has_cancelled_end}
use Rattle.dm_rows.specs.Resolve.{flip_named, after_flip}

-- a change whose head has not passed, none of whose ends is cancelled, and that is not locked
abbrev pub is_free_change : Net → RowsValue → ℕ → Bool
is_free_change net rows a =
    is_change (activity_at net a).kind && not (has_passed rows (activity_at net a).head)
    && not (has_cancelled_end net rows a) && not (is_locked_change rows a)

-- the event has neither passed nor is it cancelled
abbrev pub is_ahead : RowsValue → ℕ → Bool
is_ahead rows i = not (has_passed rows i) && not (is_cancelled rows i)

-- a pair of which no event has passed or is cancelled, and that is not locked
abbrev pub is_free_pair : Net → RowsValue → ℕ → Bool
is_free_pair net rows p =
    is_ahead rows (pair_at net p).small && is_ahead rows (pair_at net p).large && not (is_locked_pair rows p)

-- a change, a pair as a choice
abbrev pub change_choice : Net → ℕ → Choice
change_choice net a = Change (activity_at net a).id

abbrev pub pair_choice : Net → ℕ → Choice
pair_choice net p = Pair (event_at net (pair_at net p).small).id (event_at net (pair_at net p).large).id

-- the free changes, the free pairs, by place
abbrev pub free_changes_of : Net → RowsValue → List Choice
free_changes_of net rows =
    map (change_choice net) (filter (is_free_change net rows) (range_with_len 0 (length net.activities)))

abbrev pub free_pairs_of : Net → RowsValue → List Choice
free_pairs_of net rows = map (pair_choice net) (filter (is_free_pair net rows) (range_with_len 0 (length net.pairs)))

-- the free changes in ascending id, and after them the free pairs in ascending order of their ids
abbrev pub free_choices_of : Net → RowsValue → List Choice
free_choices_of net rows = free_changes_of net rows ++ free_pairs_of net rows

-- the choice that a decision decides
abbrev pub choice_of : Decision → Choice
choice_of (Keep a) = Change a
choice_of (Drop a) = Change a
choice_of (First i j) = if nat_lt i.0 j.0 then Pair i j else Pair j i

-- each decision decides a free choice, and no choice is decided twice
pub record IsChoiceList (net : Net) (rows : RowsValue) (decisions : List Decision) : Type 0 where
  pub free : All (λ d. Contains (free_choices_of net rows) (choice_of d)) decisions
  pub once : (m n : ℕ) (d e : Decision) → slice_get decisions m ≡ Some d → slice_get decisions n ≡ Some e →
      choice_of d ≡ choice_of e → m ≡ n

abbrev pub with_flip : RowsValue → Option Flip → RowsValue
with_flip rows (Some flip) = after_flip rows flip
with_flip rows None = rows

-- the rows with each decision set in turn
abbrev pub with_decisions : Net → RowsValue → List Decision → RowsValue
with_decisions net rows decisions = fold (λ set d. with_flip set (flip_named net d)) rows decisions
