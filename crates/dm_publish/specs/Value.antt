-- What contracts see of a publisher.
use Rattle.std.specs.Prelude.{ℕ, Bool, List, []}
use Rattle.dm_cert.specs.declared.notes.Note.{Note}

-- what is published: the time of each event and whether it is cancelled, by place
pub record Published : Type 0 where
  pub times : List ℕ
  pub cancelled : List Bool

abbrev pub nothing : Published
nothing = record { times = []; cancelled = [] }

abbrev pub published : List ℕ → List Bool → Published
published times cancelled = record { times = times; cancelled = cancelled }

-- How many boards and how many events it was made for, its notes in their order, and what it published last: nothing before the
-- first publishing.
pub record PublisherValue : Type 0 where
  pub boards : ℕ
  pub events : ℕ
  pub notes : List Note
  pub last : Published
