-- The events of a pair are events of the network.
use Rattle.std.proofs.Common.{◌≡◌, ℕ, ◌<◌, length, Option, Some, arith, refl, subst}
use Rattle.std.specs.Prelude.{IsSome}
use Rattle.dm_network.specs.Net.{Net, pair_at, no_pair}
use Rattle.dm_network.specs.Pairs.{joins, pair_place, FormPair, IsPaired}
use Rattle.dm_network.specs.Start.{IsNetwork}
use Rattle.dm_network.specs.Inside.Flat.{ArePairsInOrder}
use Rattle.dm_network.proofs.PairKeys.{pair_is_found, joins_forward}

in_order : (net : Net) → IsPaired net → ArePairsInOrder net.pairs
in_order net paired = record { smaller_first = paired.smaller_first; ascending = paired.ascending }

is_some_at : (o : Option ℕ) (p : ℕ) → o ≡ Some p → IsSome o
is_some_at o p e = rw e refl

forms : (net : Net) → IsPaired net → (p : ℕ) → p < length net.pairs → FormPair net (pair_at net p).small (pair_at net p).large
forms net paired p below =
    let small : ℕ = (pair_at net p).small in
    let large : ℕ = (pair_at net p).large in
    let order : small < large = paired.smaller_first p below in
    (paired.exact small large).0
    (is_some_at (pair_place net small large) p
    (pair_is_found net.pairs (in_order net paired) (λ q. joins q small large) small large
    (joins_forward small large (omega arith)) p no_pair below refl refl))

pub small_is_event : (net : Net) → IsNetwork net → (p : ℕ) → p < length net.pairs → (pair_at net p).small < length net.events
small_is_event net network p below =
    let f = forms net network.formed.is_paired p below in
    subst (λ (i : ℕ). i < length net.events) f.1.1.tail (network.formed.ends_are_known.tails f.1.0 f.1.1.is_activity)

pub large_is_event : (net : Net) → IsNetwork net → (p : ℕ) → p < length net.pairs → (pair_at net p).large < length net.events
large_is_event net network p below =
    let f = forms net network.formed.is_paired p below in
    subst (λ (i : ℕ). i < length net.events) f.1.1.head (network.formed.ends_are_known.heads f.1.0 f.1.1.is_activity)
