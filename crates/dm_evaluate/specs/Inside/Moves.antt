-- What a decision does to a timetable that is priced.
use Rattle.std.specs.Prelude.{ℕ, ◌≡◌, ◌<◌, ◌⊎◌, Bool, true, false, List, length, Some, if◌then◌else◌}
use Rattle.dm_network.specs.Net.{Net, activity_at}
use Rattle.dm_network.specs.Held.{is_held, IsCycleOf}
use Rattle.dm_rows.specs.declared.messages.Flip.{Flip}
use Rattle.dm_priced.specs.Priced.{PricedValue, is_flagged}
use Rattle.dm_paths.specs.Decisions.{is_held_by, is_charged_by}

-- what is held, or charged for, with these places set to a value
abbrev pub set_where : (ℕ → Bool) → Bool → (ℕ → Bool) → ℕ → Bool
set_where some value flags b = if some b then value else flags b

-- What the decision holds and charges for is held and charged for, or is not; all else stays.
pub record TurnsTo (net : Net) (some charges : ℕ → Bool) (value : Bool) (before after : PricedValue) : Type 0 where
  pub held : (b : ℕ) → b < length net.activities → is_held after.live.given.held b ≡ set_where some value (is_held before.live.given.held) b
  pub charged : (b : ℕ) → b < length net.activities → is_flagged after.charged b ≡ set_where charges value (is_flagged before.charged) b
  pub passed : after.passed ≡ before.passed
  pub cancelled : after.cancelled ≡ before.cancelled
  pub fixed : after.live.fixed ≡ before.live.fixed
  pub floors : after.live.given.floors ≡ before.live.given.floors
  pub spans : after.live.given.spans ≡ before.live.given.spans

abbrev pub Turns : Net → Flip → Bool → PricedValue → PricedValue → Type 0
Turns net flip value before after = TurnsTo net (is_held_by net flip) (is_charged_by flip) value before after

-- what is held and charged for stays
abbrev pub Stays : Net → PricedValue → PricedValue → Type 0
Stays net before after = TurnsTo net (λ b. false) (λ b. false) false before after

-- nothing is held that the decision holds
abbrev pub IsOff : Net → Flip → PricedValue → Type 0
IsOff net flip priced = (b : ℕ) → b < length net.activities → is_held_by net flip b ≡ true → is_held priced.live.given.held b ≡ false

abbrev pub IsOnly : ℕ → ℕ → Type 0
IsOnly a b = b ≡ a

-- all but what is held of the headways of the pair among these activities stays, and the times
pub record KeepsBut (net : Net) (p : ℕ) (among : ℕ → Type 0) (before after : PricedValue) : Type 0 where
  pub same : (b : ℕ) → (is_held after.live.given.held b ≡ is_held before.live.given.held b)
      ⊎ (among b × ((activity_at net b).pair ≡ Some p))
  pub floors : after.live.given.floors ≡ before.live.given.floors
  pub spans : after.live.given.spans ≡ before.live.given.spans
  pub times : after.live.times ≡ before.live.times
  pub fixed : after.live.fixed ≡ before.live.fixed
  pub passed : after.passed ≡ before.passed
  pub cancelled : after.cancelled ≡ before.cancelled
  pub charged : after.charged ≡ before.charged

-- Of these activities the headways of the pair are held, or are not; all else stays.
pub record TurnsAmong (net : Net) (p : ℕ) (among : ℕ → Type 0) (value : Bool) (before after : PricedValue) : Type 0 where
  pub keeps : KeepsBut net p among before after
  pub done : (b : ℕ) → among b → (activity_at net b).pair ≡ Some p → is_held after.live.given.held b ≡ value

-- Some of them are held, and with one more of them there is a cycle.
pub record IsRefused (net : Net) (p : ℕ) (among : ℕ → Type 0) (before after : PricedValue) : Type 0 where
  pub keeps : KeepsBut net p among before after
  pub flags : List Bool
  pub each : (b : ℕ) → is_held flags b ≡ true → (is_held before.live.given.held b ≡ true) ⊎ (among b × ((activity_at net b).pair ≡ Some p))
  pub is_cycle : IsCycleOf net (is_held flags) after.live.order.cycle
