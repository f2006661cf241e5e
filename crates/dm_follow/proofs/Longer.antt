-- What is told of whole lines stays so whatever bytes come behind them.
use Rattle.std.proofs.Common.{◌≡◌, ℕ, zero, suc, ◌≤◌, List, [], ◌∷◌, ◌++◌, Result, Ok, Err, ap, ◌∙◌, inl, inr, append_assoc, codes}
use Rattle.dm_text.specs.Places.{Place, at_start, IsLineAt}
use Rattle.dm_text.specs.Judging.{Then, Times, Demands}
use Rattle.dm_network.specs.Net.{Net}
use Rattle.dm_rows.specs.declared.messages.Entry.{Entry}
use Rattle.dm_rows.specs.Rows.{RowsValue}
use Rattle.dm_base.specs.declared.limits.TheConstants.{FEEDS, ENTRIES}
use Rattle.dm_records.specs.RunLines.{IsNumberLine, IsVersionLine, IsEntryLine}
use Rattle.dm_follow.specs.declared.faults.FollowKind.{FollowKind}
use Rattle.dm_follow.specs.declared.faults.FollowKind.TheVariants as kind
use Rattle.dm_follow.specs.Journals.{Halt, unended, broken, Header, header, Reads, Rules, TellsHeader, TellsPenalty, TellsFeeds, TellsEntries, IsNextEntry, TellsEntry, TellsJournal, IsFrontFault}

abbrev longer : Place → List ℕ → Place
longer place more = record { left = place.left ++ more; line = place.line }

-- a value, or a broken line, is told whatever comes behind
record Stays {V : Type 0} (tells : Place → Result (V × Place) Halt → Type 0) : Type 0 where
  value : (place : Place) (v : V) (next : Place) (more : List ℕ) → tells place (Ok (v, next)) → tells (longer place more) (Ok (v, longer next more))
  break : (place : Place) (k : FollowKind) (line : ℕ) (more : List ℕ) → tells place (Err (broken k line)) → tells (longer place more) (Err (broken k line))

line_longer : (place : Place) (bytes : List ℕ) (next : Place) (more : List ℕ) → IsLineAt place bytes next → IsLineAt (longer place more) bytes (longer next more)
line_longer place bytes next more is = record {
  whole = ap (λ (xs : List ℕ). xs ++ more) is.whole ∙ append_assoc bytes (10 ∷ next.left) more;
  one_line = is.one_line;
  counted = is.counted;
}

other_halt : {X : Type 0} {k : FollowKind} {line at : ℕ} → broken k line ≡ unended at → X
other_halt e = absurd cc

reads_stay : {V : Type 0} (spells : V → List ℕ → Type 0) → Stays (Reads spells)
reads_stay {V} spells = record { value = value; break = break }
  where
    value : (place : Place) (v : V) (next : Place) (more : List ℕ) → Reads spells place (Ok (v, next)) → Reads spells (longer place more) (Ok (v, longer next more))
    value place v next more told = record { bytes = told.bytes; stands = line_longer place told.bytes next more told.stands; spelled = told.spelled }

    break : (place : Place) (k : FollowKind) (line : ℕ) (more : List ℕ) → Reads spells place (Err (broken k line)) → Reads spells (longer place more) (Err (broken k line))
    break place k line more (inl (cut, e)) = other_halt e
    break place k line more (inr (is, e)) = inr (record { bytes = is.bytes; next = longer is.next more; stands = line_longer place is.bytes is.next more is.stands; none = is.none }, e)

demands_stay : {V : Type 0} (rule : Type 0) (fault : Halt) (v : V) → Stays (Demands rule fault v)
demands_stay rule fault v = record {
  value = λ place w next more told. (told.0, told.1, ap (λ (p : Place). longer p more) told.2);
  break = λ place k line more told. told;
}

then_stay : {V W : Type 0} (first : Place → Result (V × Place) Halt → Type 0) (next : V → Place → Result (W × Place) Halt → Type 0) → Stays first → ((v : V) → Stays (next v)) → Stays (Then first next)
then_stay {V} {W} first next one two = record { value = value; break = break }
  where
    value : (place : Place) (w : W) (last : Place) (more : List ℕ) → Then first next place (Ok (w, last)) → Then first next (longer place more) (Ok (w, longer last more))
    value place w last more told =
        record { value = told.value; behind = longer told.behind more; told = one.value place told.value told.behind more told.told; then = (two told.value).value told.behind w last more told.then }

    break : (place : Place) (k : FollowKind) (line : ℕ) (more : List ℕ) → Then first next place (Err (broken k line)) → Then first next (longer place more) (Err (broken k line))
    break place k line more (inl told) = inl (one.break place k line more told)
    break place k line more (inr told) =
        inr (record { value = told.value; behind = longer told.behind more; told = one.value place told.value told.behind more told.told; then = (two told.value).break told.behind k line more told.then })

rules_stay : {V W : Type 0} (spells : V → List ℕ → Type 0) (rule : V → Type 0) (k : FollowKind) (gives : V → W) → Stays (Rules spells rule k gives)
rules_stay {V} {W} spells rule k gives = record {
  value = λ place v next more told. (at place).value place v next more told;
  break = λ place j line more told. (at place).break place j line more told;
}
  where
    at : (place : Place) → Stays (Then {W = W} (Reads spells) (λ v. Demands (rule v) (broken k place.line) (gives v)))
    at place = then_stay (Reads spells) (λ v. Demands (rule v) (broken k place.line) (gives v)) (reads_stay spells) (λ v. demands_stay (rule v) (broken k place.line) (gives v))

times_stay : {V : Type 0} (step : List V → Place → Result (V × Place) Halt → Type 0) → ((before : List V) → Stays (step before)) → (n : ℕ) (before : List V) → Stays (Times n step before)
times_stay step one zero before = record {
  value = λ place v next more told. (told.0, ap (λ (p : Place). longer p more) told.1);
  break = λ place k line more told. absurd told;
}
times_stay step one (suc n) before = then_stay (step before) (λ v. Times n step (before ++ v ∷ [])) (one before) (λ v. times_stay step one n (before ++ v ∷ []))

header_stays : (penalty : ℕ) → Stays (TellsHeader penalty)
header_stays penalty =
    then_stay (Reads IsVersionLine) (λ version. TellsPenalty penalty) (reads_stay IsVersionLine) (λ version.
    then_stay (Rules (IsNumberLine (codes "penalty ")) (λ n. n ≡ penalty) kind.Form (λ n. n)) (λ same. TellsFeeds)
    (rules_stay (IsNumberLine (codes "penalty ")) (λ n. n ≡ penalty) kind.Form (λ n. n)) (λ same.
    then_stay (Rules (IsNumberLine (codes "feeds ")) (λ n. (1 ≤ n) × (n ≤ FEEDS)) kind.Form (λ n. n)) TellsEntries
    (rules_stay (IsNumberLine (codes "feeds ")) (λ n. (1 ≤ n) × (n ≤ FEEDS)) kind.Form (λ n. n))
    (λ feeds. rules_stay (IsNumberLine (codes "entries ")) (λ n. n ≤ ENTRIES) kind.Form (header feeds))))

journal_stays : (net : Net) (start : RowsValue) (penalty : ℕ) → Stays (TellsJournal net start penalty)
journal_stays net start penalty =
    then_stay (TellsHeader penalty) (λ (h : Header). Times {F = Halt} h.entries (TellsEntry net start h.feeds) []) (header_stays penalty)
    (λ h. times_stay (TellsEntry net start h.feeds) (λ before. rules_stay IsEntryLine (IsNextEntry net start h.feeds before) kind.Entry (λ said. said.entry)) h.entries [])

pub fault_stays : (net : Net) (start : RowsValue) (penalty : ℕ) (bytes more : List ℕ) (k : FollowKind) (line : ℕ) → IsFrontFault net start penalty bytes k line → IsFrontFault net start penalty (bytes ++ more) k line
fault_stays net start penalty bytes more k line fault = (journal_stays net start penalty).break (at_start bytes) k line more fault
