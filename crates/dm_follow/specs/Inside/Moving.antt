-- What the calls of a follower do to it.
use Rattle.std.specs.Prelude.{ℕ, ◌≡◌, ◌+◌, ◌⊎◌, List, [], ◌++◌, length, Result, Ok, Err}
use Rattle.dm_follow.specs.declared.faults.FollowFault.{FollowFault}
use Rattle.dm_follow.specs.declared.faults.TheConstants.{NO_MEMORY}
use Rattle.dm_follow.specs.declared.stages.Stage.{Stage}
use Rattle.dm_follow.specs.declared.stages.Stage.TheVariants.{Version, Penalty, Feeds, Entries, Journal, Failed}
use Rattle.dm_follow.specs.Follower.{FollowerValue}
use Rattle.dm_follow.specs.Inside.Reading.{IsReadTo, SameDay}

-- no line broke its rule
abbrev pub IsLive : Stage → Type 0
IsLive Version = Unit {0}
IsLive Penalty = Unit {0}
IsLive Feeds = Unit {0}
IsLive (Entries feeds) = Unit {0}
IsLive (Journal feeds entries) = Unit {0}
IsLive (Failed line kind) = ⊥

-- this line broke its rule
abbrev pub IsFaultOf : Stage → FollowFault → Type 0
IsFaultOf Version fault = ⊥
IsFaultOf Penalty fault = ⊥
IsFaultOf Feeds fault = ⊥
IsFaultOf (Entries feeds) fault = ⊥
IsFaultOf (Journal feeds entries) fault = ⊥
IsFaultOf (Failed line kind) fault = (fault.line ≡ line) × (fault.kind ≡ kind)

-- what is answered where a line was taken and this stage comes behind it
abbrev pub AnswersStage : Stage → Result (Unit {0}) FollowFault → Type 0
AnswersStage stage (Ok done) = IsLive stage
AnswersStage stage (Err fault) = IsFaultOf stage fault

-- these bytes were read
abbrev pub ReadTo : FollowerValue → List ℕ → Type 0
ReadTo f bytes = IsReadTo f.table.network f.table.start f.table.penalty f.table.history f.stage f.part bytes

-- it took these bytes behind those before
pub record Goes (old new : FollowerValue) (taken : List ℕ) : Type 0 where
  pub day : SameDay old.table new.table
  pub counted : new.taken ≡ old.taken + length taken
  pub reads : (bytes : List ℕ) → ReadTo old bytes → ReadTo new (bytes ++ taken)

-- how a call ends that took a front of its bytes: all of them; or memory is short; or a line broke its rule
abbrev pub EndsWith : FollowerValue → List ℕ → Result (Unit {0}) FollowFault → Type 0
EndsWith new rest (Ok done) = (rest ≡ []) × IsLive new.stage
EndsWith new rest (Err fault) = ((fault ≡ NO_MEMORY) × IsLive new.stage) ⊎ IsFaultOf new.stage fault

-- a front of the bytes was taken
pub record TakesFront (old new : FollowerValue) (bytes : List ℕ) (result : Result (Unit {0}) FollowFault) : Type 0 where
  pub front : List ℕ
  pub rest : List ℕ
  pub split : bytes ≡ front ++ rest
  pub goes : Goes old new front
  pub ends : EndsWith new rest result
