-- A delay leaves the floor of an event that has passed.
use Rattle.std.proofs.Common.{◌≡◌, ℕ, ◌<◌, true, length, sym, subst, inl, inr, arith, slice_index}
use Rattle.dm_network.specs.Net.{Net}
use Rattle.dm_live.specs.Live.{is_fixed}
use Rattle.dm_rows.specs.Reach.{Reaches}
use Rattle.dm_rows.specs.Rows.{RowsValue}
use Rattle.dm_rows.specs.Timetable.{floor_of}
use Rattle.dm_rows.specs.declared.messages.Change.{Change}
use Rattle.dm_rows.specs.declared.messages.Change.TheVariants.{EventDelay}
use Rattle.dm_settle.specs.Constraints.{ConstraintsValue}
use Rattle.dm_propagate.specs.Inside.Concern.{FollowsBut}
use Rattle.dm_propagate.specs.Inside.Flags.{FlagsValue, AreFlagsBut}

delayed_stays : (net : Net) (rows : RowsValue) (given : ConstraintsValue) (flags : FlagsValue) (e d : ℕ) → e < length net.events →
    FollowsBut net rows (EventDelay e d) given → AreFlagsBut net rows (EventDelay e d) flags → is_fixed flags.fixed e ≡ true →
    floor_of net rows e ≡ slice_index given.floors e
delayed_stays net rows given flags e d lt follows are on =
    elim (follows.floors e lt) [
      | inl is ↦ sym is
      | inr moves ↦ elim (are.fixed e) [
        | inl same ↦ let off = moves.1 in absurd cc
        | inr never ↦ absurd never
      ]
    ]

pub delay_stays : (net : Net) (rows : RowsValue) (given : ConstraintsValue) (flags : FlagsValue) (change : Change) (e d : ℕ) → change ≡ EventDelay e d →
    Reaches rows change → length rows.event_delays ≡ length net.events → FollowsBut net rows change given → AreFlagsBut net rows change flags →
    is_fixed flags.fixed e ≡ true → floor_of net rows e ≡ slice_index given.floors e
delay_stays net rows given flags change e d is reaches many follows are =
    let reach : Reaches rows (EventDelay e d) = subst (Reaches rows) is reaches in
    let within = reach.0 in
    let lt : e < length net.events = omega arith in
    delayed_stays net rows given flags e d lt
    (subst (λ (c : Change). FollowsBut net rows c given) is follows) (subst (λ (c : Change). AreFlagsBut net rows c flags) is are)
