-- Why a delay of a known event is not refused, and what it adds to the lines that were entered.
use Rattle.std.proofs.Common.{ℕ, ◌≡◌, ◌≤◌, ◌<◌, length, Option, Some, None, subst, arith}
use Rattle.std.specs.Prelude.{IsSome, option_map}
use Rattle.std.specs.Option.{option_and_then}
use Rattle.dm_base.specs.declared.ids.EventId.{EventId}
use Rattle.dm_base.specs.declared.limits.TheConstants.{DELAY, ENTRIES}
use Rattle.dm_feed.specs.declared.grammar.Line.TheVariants.{Say}
use Rattle.dm_gen.specs.Sound.{DelaysEventOf}
use Rattle.dm_network.specs.Net.{Net, event_place}
use Rattle.dm_rows.specs.declared.messages.Change.TheVariants.{EventDelay}
use Rattle.dm_rows.specs.declared.messages.Message.{Message}
use Rattle.dm_rows.specs.declared.messages.Message.TheVariants.{DelayEvent}
use Rattle.dm_rows.specs.declared.messages.Refusal.{Refusal}
use Rattle.dm_rows.specs.declared.messages.Refusal.TheVariants.{Range, UnknownEvent, UnknownActivity, UnknownChange, UnknownPair, Passed, NotPassed, Cancelled, NotCancelled, Locked, NotLocked, Back, Cycle, Full, OutOfMemory}
use Rattle.dm_rows.specs.Active.{HasNoCycle}
use Rattle.dm_rows.specs.Resolve.{after_named}
use Rattle.dm_rows.specs.Rows.{RowsValue, passed_at}
use Rattle.dm_table.specs.Answers.{RefusesPost}
use Rattle.dm_table.specs.Value.{TableValue, IsTable}
use Rattle.dm_summary.specs.Inside.Lines.{NonePassed}

-- a delay changes nothing of what is active, and so makes no cycle
no_cycle_after : (net : Net) (rows : RowsValue) (d : ℕ) (place : Option ℕ) → HasNoCycle net rows
    → HasNoCycle net (after_named rows (option_map (λ i. EventDelay i d) place))
no_cycle_after net rows d None none = none
no_cycle_after net rows d (Some i) none = none

never_passed : (rows : RowsValue) (place : Option ℕ) (t : ℕ) → NonePassed rows → option_and_then (passed_at rows) place ≡ Some t → ⊥
never_passed rows None t none is = cc
never_passed rows (Some i) t none is = let not : passed_at rows i ≡ None = none i in cc

known_is_some : (o : Option ℕ) → IsSome o → o ≡ None → ⊥
known_is_some None known none = cc
known_is_some (Some x) known none = cc

pub is_taken : (net : Net) (rows : RowsValue) (n : ℕ) (e : EventId) (d : ℕ) (r : Refusal) → HasNoCycle net rows → NonePassed rows
    → IsSome (event_place net e) → d ≤ DELAY → n < ENTRIES → RefusesPost net rows n (DelayEvent e d) r → ⊥
is_taken net rows n e d (Range v) none passed known most few refused = omega (arith, refused.0)
is_taken net rows n e d (UnknownEvent u) none passed known most few refused = known_is_some (event_place net e) known refused.1
is_taken net rows n e d (UnknownActivity u) none passed known most few refused = refused
is_taken net rows n e d (UnknownChange u) none passed known most few refused = refused
is_taken net rows n e d (UnknownPair u v) none passed known most few refused = refused
is_taken net rows n e d (Passed p t) none passed known most few refused = never_passed rows (event_place net e) t passed refused.1
is_taken net rows n e d (NotPassed u) none passed known most few refused = refused
is_taken net rows n e d (Cancelled u) none passed known most few refused = refused
is_taken net rows n e d (NotCancelled u) none passed known most few refused = refused
is_taken net rows n e d (Locked u) none passed known most few refused = refused
is_taken net rows n e d (NotLocked u) none passed known most few refused = refused
is_taken net rows n e d (Back c) none passed known most few refused = refused
is_taken net rows n e d (Cycle ids) none passed known most few refused =
    no_cycle_after net rows d (event_place net e) none refused.2.places refused.2.is_cycle
is_taken net rows n e d (Full k) none passed known most few refused = omega (arith, refused.2)
is_taken net rows n e d OutOfMemory none passed known most few refused =
    no_cycle_after net rows d (event_place net e) none refused.cycle.cycle refused.cycle.is_cycle

-- ---- lines that were entered

said_is : (m k : Message) → Say m ≡ Say k → m ≡ k
said_is m k e = cc

pub line_is_taken : (table : TableValue) (m : Message) (r : Refusal) → IsTable table → NonePassed table.rows → length table.history < 500
    → DelaysEventOf table.network (Say m) → RefusesPost table.network table.rows (length table.history) m r → ⊥
line_is_taken table m r is passed few line refused =
    is_taken table.network table.rows (length table.history) line.event line.delay r is.no_cycle passed line.known
    (omega (arith, line.most)) (omega arith)
    (subst (λ (k : Message). RefusesPost table.network table.rows (length table.history) k r) (said_is m (DelayEvent line.event line.delay) line.says) refused)
