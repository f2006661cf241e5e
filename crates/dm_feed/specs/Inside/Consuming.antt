-- How the reader of a feed goes from line to line: what each of its steps does.
use Rattle.std.specs.Prelude.{ℕ, ◌≡◌, ◌+◌, ◌<◌, ◌≤◌, List, [], ◌∷◌, ◌++◌, length, take, drop, Option, None, Some}
use Rattle.std.specs.List.{flat_map}
use Rattle.std.specs.Io.KnownBytes.{IsAtEnd}
use Rattle.dm_base.specs.declared.limits.TheConstants.{FEED}
use Rattle.dm_outside.specs.Faults.{HasRisen}
use Rattle.dm_feed.specs.declared.grammar.Heard.{Heard}
use Rattle.dm_feed.specs.declared.feed.FeedStop.{FeedStop}
use Rattle.dm_feed.specs.declared.feed.FeedStop.TheVariants.{End, Fault, Long}
use Rattle.dm_feed.specs.declared.reader.NextLine.{NextLine}
use Rattle.dm_feed.specs.declared.reader.NextLine.TheVariants.{Line, Last, Nothing}
use Rattle.dm_feed.specs.Lines.{Hears}
use Rattle.dm_feed.specs.Feeds.{IsUnended, without_return, ended, AreQuiet, ReaderValue, Takes}

-- the first line feed stands at the place
pub record EndsAt (bytes : List ℕ) (at : ℕ) : Type 0 where
  pub low : at < length bytes
  pub unended : IsUnended (take at bytes)
  pub is : bytes ≡ take at bytes ++ 10 ∷ drop (at + 1) bytes

-- bytes came in behind the pending ones; none are the end of the source
pub record Fills {S : Type 0} (left : S → Option (List ℕ)) (before now : ReaderValue S) (count : ℕ) : Type 0 where
  pub given : List ℕ
  pub behind : now.pending ≡ before.pending ++ given
  pub takes : Takes left before now given
  pub exact : length given ≡ count
  pub at_end : count ≡ 0 → IsAtEnd (left now.source)
  pub lines : now.lines ≡ before.lines
  pub open_still : now.stop ≡ None
  pub within : now.taken ≤ FEED

-- one byte more than the limit came in
pub record Overflows {S : Type 0} (left : S → Option (List ℕ)) (before now : ReaderValue S) : Type 0 where
  pub next : ℕ
  pub takes : Takes left before now (next ∷ [])
  pub over : now.taken ≡ FEED + 1

-- a read failed
pub record Breaks {S : Type 0} (left : S → Option (List ℕ)) (faults : S → ℕ) (is_sound : S → Type 0)
    (before now : ReaderValue S) : Type 0 where
  pub within : now.taken ≤ FEED
  pub takes : Takes left before now []
  pub risen : HasRisen (faults before.source) (faults now.source)
  pub not_sound : is_sound before.source → ⊥

abbrev pub FailsToFill : {S : Type 0} → (S → Option (List ℕ)) → (S → ℕ) → (S → Type 0) → ReaderValue S → ReaderValue S → FeedStop → Type 0
FailsToFill left faults is_sound before now End = ⊥
FailsToFill left faults is_sound before now Long = Overflows left before now
FailsToFill left faults is_sound before now Fault = Breaks left faults is_sound before now

-- a line was consumed with its line feed
pub record ConsumesEnded {S : Type 0} (left : S → Option (List ℕ)) (before now : ReaderValue S) (heard : Heard) : Type 0 where
  pub given : List ℕ
  pub takes : Takes left before now given
  pub bytes : List ℕ
  pub unended : IsUnended bytes
  pub consumed : before.pending ++ given ≡ bytes ++ 10 ∷ now.pending
  pub hears : Hears (without_return bytes) heard
  pub lines : now.lines ≡ before.lines + 1
  pub open_still : now.stop ≡ None
  pub within : now.taken ≤ FEED

-- what stands behind the last line feed was consumed
pub record ConsumesLast {S : Type 0} (left : S → Option (List ℕ)) (before now : ReaderValue S) (heard : Heard) : Type 0 where
  pub given : List ℕ
  pub takes : Takes left before now given
  pub unended : IsUnended (before.pending ++ given)
  pub some : 0 < length (before.pending ++ given)
  pub none_left : now.pending ≡ []
  pub at_end : IsAtEnd (left now.source)
  pub hears : Hears (before.pending ++ given) heard
  pub lines : now.lines ≡ before.lines + 1
  pub stopped : now.stop ≡ Some End
  pub within : now.taken ≤ FEED

-- nothing is left
pub record FindsEnd {S : Type 0} (left : S → Option (List ℕ)) (before now : ReaderValue S) : Type 0 where
  pub given : List ℕ
  pub takes : Takes left before now given
  pub nothing : before.pending ++ given ≡ []
  pub at_end : IsAtEnd (left now.source)
  pub within : now.taken ≤ FEED
  pub stopped : now.stop ≡ Some End

-- the limit ends within a line
pub record FindsLimit {S : Type 0} (left : S → Option (List ℕ)) (before now : ReaderValue S) : Type 0 where
  pub given : List ℕ
  pub takes : Takes left before now given
  pub front : List ℕ
  pub unended : IsUnended front
  pub next : ℕ
  pub consumed : before.pending ++ given ≡ front ++ next ∷ []
  pub over : now.taken ≡ FEED + 1
  pub stopped : now.stop ≡ Some Long

-- a read failed within a line
pub record FindsFault {S : Type 0} (left : S → Option (List ℕ)) (faults : S → ℕ) (is_sound : S → Type 0)
    (before now : ReaderValue S) : Type 0 where
  pub within : now.taken ≤ FEED
  pub given : List ℕ
  pub takes : Takes left before now given
  pub unended : IsUnended (before.pending ++ given)
  pub risen : HasRisen (faults before.source) (faults now.source)
  pub not_sound : is_sound before.source → ⊥
  pub stopped : now.stop ≡ Some Fault

-- all that is pending was consumed, behind which the source has ended
abbrev pub ConsumesRest : {S : Type 0} → ReaderValue S → ReaderValue S → NextLine → Type 0
ConsumesRest before now (Line heard) = ⊥
ConsumesRest before now (Last heard) =
    (0 < length before.pending) × (now ≡ record before { pending = []; lines = before.lines + 1; stop = Some End })
    × Hears before.pending heard
ConsumesRest before now (Nothing End) = (before.pending ≡ []) × (now ≡ record before { stop = Some End })
ConsumesRest before now (Nothing Long) = ⊥
ConsumesRest before now (Nothing Fault) = ⊥

abbrev pub ConsumesLine : {S : Type 0} → (S → Option (List ℕ)) → (S → ℕ) → (S → Type 0) → ReaderValue S → ReaderValue S → NextLine → Type 0
ConsumesLine left faults is_sound before now (Line heard) = ConsumesEnded left before now heard
ConsumesLine left faults is_sound before now (Last heard) = ConsumesLast left before now heard
ConsumesLine left faults is_sound before now (Nothing End) = FindsEnd left before now
ConsumesLine left faults is_sound before now (Nothing Long) = FindsLimit left before now
ConsumesLine left faults is_sound before now (Nothing Fault) = FindsFault left faults is_sound before now

-- ---- between the steps

-- the source has failed no less often than before, and is as sound
pub record Holds {S : Type 0} (faults : S → ℕ) (is_sound : S → Type 0) (before now : ReaderValue S) : Type 0 where
  pub later : faults before.source ≤ faults now.source
  pub sound : is_sound before.source → is_sound now.source

-- bytes came in behind the pending ones, and no line was consumed
pub record Grows {S : Type 0} (left : S → Option (List ℕ)) (before now : ReaderValue S) : Type 0 where
  pub given : List ℕ
  pub takes : Takes left before now given
  pub behind : now.pending ≡ before.pending ++ given
  pub lines : now.lines ≡ before.lines
  pub open_still : now.stop ≡ None

-- no line feed is among the first bytes that are pending
pub record Looked {S : Type 0} (now : ReaderValue S) (looked : ℕ) : Type 0 where
  pub within : looked ≤ length now.pending
  pub unended : IsUnended (take looked now.pending)

-- the front of a line that is too long was let go
pub record Drops {S : Type 0} (left : S → Option (List ℕ)) (before now : ReaderValue S) : Type 0 where
  pub given : List ℕ
  pub takes : Takes left before now given
  pub unended : IsUnended (before.pending ++ given)
  pub none_left : now.pending ≡ []
  pub lines : now.lines ≡ before.lines
  pub some : now.lines < now.taken
  pub open_still : now.stop ≡ None

-- blank lines and comments were consumed
pub record ConsumesQuiet {S : Type 0} (left : S → Option (List ℕ)) (before now : ReaderValue S) : Type 0 where
  pub given : List ℕ
  pub takes : Takes left before now given
  pub quiet : List (List ℕ)
  pub are_quiet : AreQuiet quiet
  pub consumed : before.pending ++ given ≡ flat_map ended quiet ++ now.pending
  pub lines : now.lines ≡ before.lines + length quiet
  pub open_still : now.stop ≡ None
