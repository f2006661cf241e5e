-- Small facts that answers share.
use Rattle.std.proofs.Common.{Bool, true, false}
use Rattle.std.specs.Prelude.{MatchBool}

-- both sides of a test carry over
pub match_from : (b : Bool) (P Q R S : Type 0) → MatchBool b P Q → (P → R) → (Q → S) → MatchBool b R S
match_from true P Q R S m f g = f m
match_from false P Q R S m f g = g m
