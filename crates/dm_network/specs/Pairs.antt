-- Which two events form a pair, and which headways belong to it.
use Rattle.std.specs.Prelude.{ℕ, ◌≡◌, ◌≢◌, ◌==◌, ◌<◌, ◌↔◌, ◌⊎◌, ◌&&◌, ◌||◌, Bool, true, length, Option, None, IsSome, if◌then◌else◌, position}
use Rattle.dm_network.specs.declared.parts.Activity.{Activity}
use Rattle.dm_network.specs.declared.parts.Pair.{Pair}
use Rattle.dm_network.specs.Net.{Net, activity_at, pair_at, is_headway}

-- the two events of the pair, in either order
abbrev pub joins : Pair → ℕ → ℕ → Bool
joins p i j = (p.small == i && p.large == j) || (p.small == j && p.large == i)

-- the place of the pair of two events, or None where they form none
abbrev pub pair_place : Net → ℕ → ℕ → Option ℕ
pair_place net i j = position (λ p. joins p i j) net.pairs

-- activity a is a headway from event i to event j
pub record IsHeadwayFrom (net : Net) (i j a : ℕ) : Type 0 where
  pub is_activity : a < length net.activities
  pub headway : is_headway (activity_at net a).kind ≡ true
  pub tail : (activity_at net a).tail ≡ i
  pub head : (activity_at net a).head ≡ j

-- two different events with headways in both directions between them
abbrev pub FormPair : Net → ℕ → ℕ → Type 0
FormPair net i j = (i ≢ j) × ((a : ℕ) × IsHeadwayFrom net i j a) × ((b : ℕ) × IsHeadwayFrom net j i b)

-- the pair of a headway's two events where they form one, and none for every other activity
abbrev pub own_pair : Net → Activity → Option ℕ
own_pair net a = if is_headway a.kind then pair_place net a.tail a.head else None

-- ascending order of (smaller event, larger event)
abbrev pub ComesBefore : Pair → Pair → Type 0
ComesBefore p q = (p.small < q.small) ⊎ ((p.small ≡ q.small) × (p.large < q.large))

-- the pairs of a network are the two-way headways between its events, and each headway knows its own
pub record IsPaired (net : Net) : Type 0 where
  pub exact : (i j : ℕ) → IsSome (pair_place net i j) ↔ FormPair net i j
  pub smaller_first : (p : ℕ) → p < length net.pairs → (pair_at net p).small < (pair_at net p).large
  pub ascending : (p q : ℕ) → p < q → q < length net.pairs → ComesBefore (pair_at net p) (pair_at net q)
  pub belongs : (a : ℕ) → a < length net.activities → (activity_at net a).pair ≡ own_pair net (activity_at net a)
