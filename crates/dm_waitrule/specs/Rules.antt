-- A waiting rule: in which order it looks at the free changes, which of them it keeps, and the choices that come of it.
use Rattle.std.specs.Prelude.{ℕ, ◌≡◌, ◌+◌, ◌<◌, ◌≤◌, ◌⊎◌, ◌&&◌, Bool, true, not, List, [], ◌∷◌, length, map, fold, filter, Contains, Option, Some, None, slice_index, if◌then◌else◌}
use Rattle.std.specs.List.{range_with_len}
use Rattle.dm_network.specs.Net.{Net, activity_at, event_at}
use Rattle.dm_network.specs.declared.parts.Event.{Event}
use Rattle.dm_paths.specs.Decisions.{change_decision}
use Rattle.dm_rows.specs.declared.messages.Decision.{Decision}
use Rattle.dm_rows.specs.declared.messages.Flip.TheVariants.{Keep, Drop}
use Rattle.dm_rows.specs.Active.{HasNoCycle}
use Rattle.dm_rows.specs.Decide.{is_free_change}
use Rattle.dm_rows.specs.Resolve.{after_flip}
use Rattle.dm_rows.specs.Rows.{RowsValue, kept_at}
use Rattle.dm_rows.specs.Timetable.{IsLeast, span_of, time_at}
use Rattle.dm_waitrule.specs.declared.rule.WaitRule.{WaitRule}
use Rattle.dm_waitrule.specs.declared.rule.WaitRule.TheVariants.{Never, Always, AtMost}

-- by how many seconds, at most, the head of a change may be later for it, or None where any number will do
abbrev pub limit_of : WaitRule → Option ℕ
limit_of Never = Some 0
limit_of Always = None
limit_of (AtMost k) = Some k

-- a number in the rule is at most this
abbrev pub KeepsWithin : ℕ → WaitRule → Type 0
KeepsWithin most Never = Unit {0}
KeepsWithin most Always = Unit {0}
KeepsWithin most (AtMost k) = k ≤ most

-- the event at the head of an activity
abbrev pub head_of : Net → ℕ → Event
head_of net a = event_at net (activity_at net a).head

-- The head of one change is scheduled before the head of another; or both at one time, and the one has the smaller id; or
-- they are one event, and the change has the smaller id.
abbrev pub IsLookedAtBefore : Net → ℕ → ℕ → Type 0
IsLookedAtBefore net a b =
    ((head_of net a).time < (head_of net b).time)
    ⊎ (((head_of net a).time ≡ (head_of net b).time)
    × (((head_of net a).id.0 < (head_of net b).id.0)
    ⊎ (((head_of net a).id.0 ≡ (head_of net b).id.0) × ((activity_at net a).id.0 < (activity_at net b).id.0))))

-- these are the free changes, by place, in the order in which a rule looks at them
pub record IsRuleOrder (net : Net) (rows : RowsValue) (order : List ℕ) : Type 0 where
  pub free : (a : ℕ) → Contains order a → (a < length net.activities) × (is_free_change net rows a ≡ true)
  pub each : (a : ℕ) → a < length net.activities → is_free_change net rows a ≡ true → Contains order a
  pub rises : (m n : ℕ) → m < n → n < length order → IsLookedAtBefore net (slice_index order m) (slice_index order n)

-- the rows with a change kept, and with each of these dropped
abbrev pub with_kept : RowsValue → ℕ → RowsValue
with_kept rows a = after_flip rows (Keep a)

abbrev pub with_dropped : RowsValue → List ℕ → RowsValue
with_dropped rows changes = fold (λ set a. after_flip set (Drop a)) rows changes

-- in a timetable without the change, its head would be later for it by no more than the limit
abbrev pub IsInTime : Net → RowsValue → Option ℕ → ℕ → List ℕ → Type 0
IsInTime net rows None a x = Unit {0}
IsInTime net rows (Some k) a x =
    time_at x (activity_at net a).tail + span_of net rows a ≤ time_at x (activity_at net a).head + k

-- a change that is to be kept: the rows with it kept have no cycle, and in their least timetable without it, it is in time
pub record IsToKeep (net : Net) (rows : RowsValue) (limit : Option ℕ) (a : ℕ) (x : List ℕ) : Type 0 where
  pub no_cycle : HasNoCycle net (with_kept rows a)
  pub in_time : IsInTime net rows limit a x

-- With the least timetable of the rule's rows so far, a change is kept exactly where it is to be kept, and left dropped
-- elsewhere: these are the rule's rows then.
pub record Decides (net : Net) (limit : Option ℕ) (rows : RowsValue) (a : ℕ) (next : RowsValue) : Type 0 where
  pub times : List ℕ
  pub least : IsLeast net rows times
  pub decided : (IsToKeep net rows limit a times × (next ≡ with_kept rows a)) ⊎ ((IsToKeep net rows limit a times → ⊥) × (next ≡ rows))

-- the rule's rows behind its decisions on these changes, one after the other
abbrev pub Follows : Net → Option ℕ → List ℕ → RowsValue → RowsValue → Type 0
Follows net limit [] rows ruled = ruled ≡ rows
Follows net limit (a ∷ order) rows ruled = (next : RowsValue) × Decides net limit rows a next × Follows net limit order next ruled

-- The rule's rows begin as the rows with every free change dropped, and the changes are decided in the rule's order.
pub record AreRuled (net : Net) (rows : RowsValue) (rule : WaitRule) (ruled : RowsValue) : Type 0 where
  pub order : List ℕ
  pub in_order : IsRuleOrder net rows order
  pub follows : Follows net (limit_of rule) order (with_dropped rows order) ruled

-- a free change that other rows decide otherwise
abbrev pub is_decided_otherwise : Net → RowsValue → RowsValue → ℕ → Bool
is_decided_otherwise net rows other a =
    is_free_change net rows a && (if kept_at rows a then not (kept_at other a) else kept_at other a)

-- the decisions of free changes by which other rows differ from these, in ascending id
abbrev pub differences_to : Net → RowsValue → RowsValue → List Decision
differences_to net rows other =
    map (λ a. change_decision net a (kept_at other a))
    (filter (is_decided_otherwise net rows other) (range_with_len 0 (length net.activities)))

-- The rule's choices are the decisions by which its rows differ from those before.
pub record AreRuleChoices (net : Net) (rows : RowsValue) (rule : WaitRule) (choices : List Decision) : Type 0 where
  pub ruled : RowsValue
  pub are_ruled : AreRuled net rows rule ruled
  pub differ : choices ≡ differences_to net rows ruled
