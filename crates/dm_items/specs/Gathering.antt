-- What contracts see of a sink that gathers bytes.
use Rattle.std.specs.Prelude.{ℕ, List}

pub record GatheredValue : Type 0 where
  pub bytes : List ℕ
  pub faults : ℕ
