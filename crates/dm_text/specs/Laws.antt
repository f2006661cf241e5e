-- What holds of places in every text.
use Rattle.std.specs.Prelude.{◌≡◌, List, ℕ}
use Rattle.dm_text.specs.Places.{Place, IsLineAt, IsCutAt}

-- at a place begins one line at most, and where one begins the text is not cut
pub record LinesAreOne : Type 0 where
  pub bytes : (place : Place) (one other : List ℕ) (next behind : Place) → IsLineAt place one next →
      IsLineAt place other behind → one ≡ other
  pub next : (place : Place) (one other : List ℕ) (next behind : Place) → IsLineAt place one next →
      IsLineAt place other behind → next ≡ behind
  pub whole : (place : Place) (bytes : List ℕ) (next : Place) → IsLineAt place bytes next → IsCutAt place → ⊥
