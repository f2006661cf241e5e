-- Flags that are set one after another.
use Rattle.std.specs.Prelude.{ℕ, Bool, false, List, fold, slice_index_or, slice_set}

-- the flags of some activities set alike
abbrev pub flagged : Bool → List Bool → List ℕ → List Bool
flagged flag flags arcs = fold (λ fs a. slice_set fs a flag) flags arcs

-- the flags of some activities set as in another list
abbrev pub taken_back : List Bool → List Bool → List ℕ → List Bool
taken_back from flags arcs = fold (λ fs a. slice_set fs a (slice_index_or from a false)) flags arcs
