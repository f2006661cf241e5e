-- The lines of a feed, and what its reader answers: due lines in order with their numbers, and then why it stops.
use Rattle.std.specs.Prelude.{ℕ, ◌≡◌, ◌≢◌, ◌+◌, ◌<◌, ◌≤◌, ◌==◌, ◌⊎◌, if◌then◌else◌, List, [], ◌∷◌, ◌++◌, length, All, Option, None, Some}
use Rattle.std.specs.List.{flat_map}
use Rattle.std.specs.Io.KnownBytes.{Consumes, IsAtEnd}
use Rattle.dm_base.specs.declared.limits.TheConstants.{FEED}
use Rattle.dm_outside.specs.Faults.{HasRisen}
use Rattle.dm_feed.specs.declared.grammar.Heard.{Heard}
use Rattle.dm_feed.specs.declared.feed.FeedStop.{FeedStop}
use Rattle.dm_feed.specs.declared.feed.FeedStop.TheVariants.{End, Fault, Long}
use Rattle.dm_feed.specs.declared.feed.Next.{Next}
use Rattle.dm_feed.specs.declared.feed.Next.TheVariants.{Due, Stop}
use Rattle.dm_feed.specs.Lines.{IsQuiet, Hears}

-- ---- lines

-- no line feed is among the bytes
abbrev pub IsUnended : List ℕ → Type 0
IsUnended bytes = All (λ b. b ≢ 10) bytes

-- the bytes without a carriage return at their end
abbrev pub without_return : List ℕ → List ℕ
without_return [] = []
without_return (c ∷ []) = if c == 13 then [] else c ∷ []
without_return (c ∷ d ∷ cs) = c ∷ without_return (d ∷ cs)

-- bytes and the line feed behind them: the line is the bytes without a carriage return at their end
abbrev pub ended : List ℕ → List ℕ
ended bytes = bytes ++ 10 ∷ []

-- bytes that end with a line feed each and are blank lines and comments
abbrev pub AreQuiet : List (List ℕ) → Type 0
AreQuiet lines = All (λ bytes. IsUnended bytes × IsQuiet (without_return bytes)) lines

-- ---- the reader

-- What contracts see of a reader: its source, the bytes that were taken and not yet answered, how many bytes were
-- taken and how many lines were consumed, and its stop.
pub record ReaderValue (S : Type 0) : Type 0 where
  pub source : S
  pub pending : List ℕ
  pub taken : ℕ
  pub lines : ℕ
  pub stop : Option FeedStop

-- these bytes were taken from the source
pub record Takes {S : Type 0} (left : S → Option (List ℕ)) (before now : ReaderValue S) (given : List ℕ) : Type 0 where
  pub consumed : Consumes (left before.source) (left now.source) given
  pub counted : now.taken ≡ before.taken + length given

-- The front of what is left is a line: it ends with a line feed, which is not a part of it nor a carriage return
-- before it, or it is what stands behind the last line feed at the end of the source.
pub record IsFrontLine (text front rest : List ℕ) (left : Option (List ℕ)) : Type 0 where
  pub bytes : List ℕ
  pub unended : IsUnended bytes
  pub cut : ((front ≡ ended bytes) × (text ≡ without_return bytes))
      ⊎ ((front ≡ bytes) × (text ≡ bytes) × (0 < length bytes) × (rest ≡ []) × IsAtEnd left)

-- The reader goes on, or it has stopped at the end, where nothing is left.
abbrev pub GoesOn : {S : Type 0} → (S → Option (List ℕ)) → ReaderValue S → Type 0
GoesOn left now = (now.stop ≡ None) ⊎ ((now.stop ≡ Some End) × (now.pending ≡ []) × IsAtEnd (left now.source))

-- The next due line is given, with its number and meaning: it and the blank lines and comments before it are consumed. Behind
-- a line without a line feed the reader has stopped at the end.
pub record GivesDue {S : Type 0} (left : S → Option (List ℕ)) (before now : ReaderValue S) (line : ℕ) (heard : Heard) : Type 0 where
  pub given : List ℕ
  pub takes : Takes left before now given
  pub quiet : List (List ℕ)
  pub are_quiet : AreQuiet quiet
  pub front : List ℕ
  pub consumed : before.pending ++ given ≡ flat_map ended quiet ++ (front ++ now.pending)
  pub text : List ℕ
  pub is_line : IsFrontLine text front now.pending (left now.source)
  pub hears : Hears text heard
  pub is_due : IsQuiet text → ⊥
  pub number : line ≡ before.lines + length quiet + 1
  pub lines : now.lines ≡ line
  pub within : now.taken ≤ FEED
  pub goes_on : GoesOn left now
  pub last : ((bytes : List ℕ) → front ≡ ended bytes → ⊥) → now.stop ≡ Some End

-- No due line is left: all bytes were taken, and they are blank lines and comments. The last may have no line feed.
pub record ReachesEnd {S : Type 0} (left : S → Option (List ℕ)) (before now : ReaderValue S) : Type 0 where
  pub given : List ℕ
  pub takes : Takes left before now given
  pub quiet : List (List ℕ)
  pub are_quiet : AreQuiet quiet
  pub last : List ℕ
  pub unended : IsUnended last
  pub is_quiet : IsQuiet last
  pub consumed : before.pending ++ given ≡ flat_map ended quiet ++ last
  pub at_end : IsAtEnd (left now.source)
  pub within : now.taken ≤ FEED

-- One byte more than the limit was taken, and of the lines that end within it none is left but blank ones and
-- comments.
pub record IsTooLong {S : Type 0} (left : S → Option (List ℕ)) (before now : ReaderValue S) : Type 0 where
  pub given : List ℕ
  pub takes : Takes left before now given
  pub quiet : List (List ℕ)
  pub are_quiet : AreQuiet quiet
  pub front : List ℕ
  pub unended : IsUnended front
  pub next : ℕ
  pub consumed : before.pending ++ given ≡ flat_map ended quiet ++ (front ++ next ∷ [])
  pub over : now.taken ≡ FEED + 1

-- A read failed. What was taken since the last due line is blank lines, comments and the front of one line.
pub record IsCutOff {S : Type 0} (left : S → Option (List ℕ)) (faults : S → ℕ) (is_sound : S → Type 0)
    (before now : ReaderValue S) : Type 0 where
  pub within : now.taken ≤ FEED
  pub given : List ℕ
  pub takes : Takes left before now given
  pub quiet : List (List ℕ)
  pub are_quiet : AreQuiet quiet
  pub front : List ℕ
  pub unended : IsUnended front
  pub consumed : before.pending ++ given ≡ flat_map ended quiet ++ front
  pub risen : HasRisen (faults before.source) (faults now.source)
  pub not_sound : is_sound before.source → ⊥

-- what the reader answers that has not stopped
abbrev pub Answers : {S : Type 0} → (S → Option (List ℕ)) → (S → ℕ) → (S → Type 0) → ReaderValue S → ReaderValue S → Next → Type 0
Answers left faults is_sound before now (Due line heard) = GivesDue left before now line heard
Answers left faults is_sound before now (Stop End) = ReachesEnd left before now
Answers left faults is_sound before now (Stop Long) = IsTooLong left before now
Answers left faults is_sound before now (Stop Fault) = IsCutOff left faults is_sound before now

-- the answer is a stop, and the reader has stopped so
abbrev pub StopsAt : {S : Type 0} → ReaderValue S → Next → Type 0
StopsAt now (Due line heard) = Unit {0}
StopsAt now (Stop stop) = now.stop ≡ Some stop
