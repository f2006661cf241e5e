-- What the steps of the reader give.
use Rattle.std.proofs.Common.{◌≡◌, ℕ, ◌+◌, ◌<◌, ◌≤◌, List, [], ◌∷◌, ◌++◌, length, Result, Ok, Err, refl, sym, ap, subst, ◌∙◌, ◌⊎◌, inl, inr, arith, length-append}
use Rattle.dm_text.specs.Places.{Place, IsLineAt}
use Rattle.dm_text.specs.Judging.{Times, SpellsValue}
use Rattle.dm_text.proofs.Counted.{HasRun, run_begins, run_goes, run_stops, run_ends}
use Rattle.dm_cert.specs.declared.faults.CertFault.{CertFault}
use Rattle.dm_cert.specs.declared.replies.LogItem.{LogItem}
use Rattle.dm_cert.specs.declared.replies.LogItem.TheVariants.{Malformed, Answered}
use Rattle.dm_cert.specs.PlansRead.{Answers, misshapen_line, want_of_memory}
use Rattle.dm_cert.proofs.Lined.{told_none, told_spelled}
use Rattle.dm_records.specs.RunLines.{LogOpening, ItemLine, lone, planned, solved, IsItemLine, IsOpeningLine}
use Rattle.dm_records.specs.Readings.{IsSmallLine, IsReadItem, opening_of, solved_opening_of}
use Rattle.dm_records.specs.declared.items.LogLine.{LogLine}
use Rattle.dm_records.specs.declared.items.LogLine.TheVariants as log_line
use Rattle.dm_records.proofs.SmallItems.{fits_reply, small_reply}
use Rattle.dm_records.proofs.LinesOnce.{lines_spell_one}
use Rattle.dm_tape.specs.Told.{IsFirstLine, IsFeedLine, FitsLine, TellsBehind, TellsItem, TellsItems, TellsPart}
use Rattle.dm_tape.specs.Inside.Fronts.{IsFront, TellsNone, ReadsFront}

-- ---- the first line of an item

fits_line : (line : List ℕ) (i : ItemLine) → IsItemLine 2 i line → IsSmallLine i → FitsLine i
fits_line line (lone (Malformed n)) is small = is.1
fits_line line (lone (Answered n said r)) is small = (is.1.0, is.1.1.fits, fits_reply r is.1.2 small)
fits_line line (planned o) is small = tt
fits_line line (solved o) is small = tt

small_line : (i : ItemLine) → FitsLine i → IsSmallLine i
small_line (lone (Malformed n)) fits = tt
small_line (lone (Answered n said r)) fits = small_reply r fits.2
small_line (planned o) fits = tt
small_line (solved o) fits = tt

first_is_none : (line : List ℕ) → ((i : ItemLine) → IsItemLine 2 i line → ⊥) → (i : ItemLine) → IsFirstLine i line → ⊥
first_is_none line none i is = none i is.is_line

first_is_large : (line : List ℕ) (i : ItemLine) → IsItemLine 2 i line → (IsSmallLine i → ⊥) → (j : ItemLine) → IsFirstLine j line → ⊥
first_is_large line i is large j first =
    let same : i ≡ j = lines_spell_one.items 2 line i j is first.is_line in
    large (subst IsSmallLine (sym same) (small_line j first.fits))

-- the first line that was read
first_is : (place next : Place) (line : List ℕ) (i shown : ItemLine) → IsLineAt place line next → IsItemLine 2 i line → shown ≡ i → IsSmallLine shown → IsFront place next shown
first_is place next line i shown at is e small =
    let spelled = subst (λ (j : ItemLine). IsItemLine 2 j line) (sym e) is in
    told_spelled IsFirstLine place next line shown at (record { is_line = spelled; fits = fits_line line shown spelled small })

pub front_read : (place next : Place) (bytes : List ℕ) (read : LogLine) → IsLineAt place bytes next → IsReadItem 2 bytes read → ReadsFront place next (Ok read)
front_read place next bytes (log_line.Item answered) at read =
    first_is place next bytes read.first (lone answered) at read.spelled read.is.0 (subst IsSmallLine (sym read.is.0) read.is.1)
front_read place next bytes log_line.TooLarge at read = told_none IsFirstLine place next place.line bytes refl at (first_is_large bytes read.first read.spelled read.is)
front_read place next bytes (log_line.Planned opening) at read = first_is place next bytes read.first (planned (opening_of opening)) at read.spelled read.is tt
front_read place next bytes (log_line.Solved opening) at read = first_is place next bytes read.first (solved (solved_opening_of opening)) at read.spelled read.is tt

pub none_read : (place next : Place) (n : ℕ) (bytes : List ℕ) (fault : CertFault) → n ≡ place.line → IsLineAt place bytes next → ((i : ItemLine) → IsItemLine 2 i bytes → ⊥)
    → fault ≡ misshapen_line n → ReadsFront place next (Err fault)
none_read place next n bytes fault at line none e = inr (subst (TellsNone place) (sym e) (told_none IsFirstLine place next n bytes at line (first_is_none bytes none)))

-- what stands behind the first line of an item
pub item_on : (old mid new : Place) (first : ℕ) (i : ItemLine) (result : Result LogItem CertFault) → first ≡ old.line → SpellsValue IsFirstLine old i mid
    → Answers (TellsBehind first i) (λ (x : LogItem). x) mid new result → Answers TellsItem (λ (x : LogItem). x) old new result
item_on old mid new first i (Ok x) at told on = record { value = i; behind = mid; told = told; then = subst (λ (n : ℕ). TellsBehind n i mid (Ok (x, new))) at on }
item_on old mid new first i (Err fault) at told (inl want) = inl want
item_on old mid new first i (Err fault) at told (inr on) = inr (inr (record { value = i; behind = mid; told = told; then = subst (λ (n : ℕ). TellsBehind n i mid (Err fault)) at on }))

pub item_alone : (old mid : Place) (x : LogItem) → IsFront old mid (lone x) → Answers TellsItem (λ (x : LogItem). x) old mid (Ok x)
item_alone old mid x told = record { value = lone x; behind = mid; told = told; then = (refl, refl) }

pub item_large : (old mid : Place) (first : ℕ) (fault : CertFault) → first ≡ old.line → TellsNone old (misshapen_line old.line) → fault ≡ misshapen_line first
    → Answers TellsItem (λ (x : LogItem). x) old mid (Err fault)
item_large old mid first fault at told e = inr (inl (subst (TellsNone old) (sym (e ∙ ap misshapen_line at)) told))

-- ---- the first line of a part

abbrev opened : ℕ → ℕ → LogOpening
opened feed items = record { feed = feed; items = items }

pub feed_is_none : (number : ℕ) (line : List ℕ) → ((o : LogOpening) → IsOpeningLine o line → ⊥) → (n : ℕ) → IsFeedLine number n line → ⊥
feed_is_none number line none n is = none (opened number n) is

pub feed_is_other : (number feed items : ℕ) (line : List ℕ) → IsOpeningLine (opened feed items) line → (feed ≡ number → ⊥) → (n : ℕ) → IsFeedLine number n line → ⊥
feed_is_other number feed items line is other n also = other (ap (λ (o : LogOpening). o.feed) (lines_spell_one.openings line (opened feed items) (opened number n) is also))

-- ---- the nodes of a plan

-- ---- lists

pub items_stop : (count : ℕ) (start here : Place) (held : List LogItem) (fault : CertFault) → HasRun {F = CertFault} (λ before. TellsItem) count start held here → length held < count
    → (fault ≡ want_of_memory) ⊎ TellsItem here (Err fault) → (fault ≡ want_of_memory) ⊎ TellsItems count start (Err fault)
items_stop count start here held fault run less (inl want) = inl want
items_stop count start here held fault run less (inr told) = inr (run_stops (λ before. TellsItem) count start here held fault run less told)

pub items_go : (count : ℕ) (start here next : Place) (held new : List LogItem) (x : LogItem) → HasRun {F = CertFault} (λ before. TellsItem) count start held here → length held < count
    → TellsItem here (Ok (x, next)) → new ≡ held ++ x ∷ [] → HasRun {F = CertFault} (λ before. TellsItem) count start new next
items_go count start here next held new x run less told e = rw e (run_goes (λ before. TellsItem) count start here next held x run less told)

abbrev part_step : List (List LogItem) → Place → Result (List LogItem × Place) CertFault → Type 0
part_step before = TellsPart (length before + 1)

pub record HasParts (feeds : ℕ) (start here : Place) (held : List (List LogItem)) (count : ℕ) : Type 0 where
  pub run : HasRun {F = CertFault} part_step feeds start held here
  pub counted : length held ≡ count

pub parts_none : (feeds : ℕ) (start : Place) (held : List (List LogItem)) → held ≡ [] → HasParts feeds start start held 0
parts_none feeds start held e = record { run = rw e (run_begins part_step feeds start); counted = ap length e }

pub parts_stop : (feeds : ℕ) (start here : Place) (held : List (List LogItem)) (place : ℕ) (fault : CertFault) → HasParts feeds start here held place → place < feeds
    → (fault ≡ want_of_memory) ⊎ TellsPart (place + 1) here (Err fault) → (fault ≡ want_of_memory) ⊎ Times feeds part_step [] start (Err fault)
parts_stop feeds start here held place fault had less (inl want) = inl want
parts_stop feeds start here held place fault had less (inr told) =
    inr (run_stops part_step feeds start here held fault had.run (omega (arith, had.counted, less)) (subst (λ (n : ℕ). TellsPart (n + 1) here (Err fault)) (sym had.counted) told))

pub parts_go : (feeds : ℕ) (start here next : Place) (held new : List (List LogItem)) (place : ℕ) (items : List LogItem) → HasParts feeds start here held place → place < feeds
    → TellsPart (place + 1) here (Ok (items, next)) → new ≡ held ++ items ∷ [] → HasParts feeds start next new (place + 1)
parts_go feeds start here next held new place items had less told e = record {
  run = rw e (run_goes part_step feeds start here next held items had.run (omega (arith, had.counted, less)) (subst (λ (n : ℕ). TellsPart (n + 1) here (Ok (items, next))) (sym had.counted) told));
  counted = omega (arith, ap length e, length-append held (items ∷ []), had.counted);
}

pub parts_all : (feeds : ℕ) (start here : Place) (held : List (List LogItem)) (place : ℕ) → HasParts feeds start here held place → feeds ≤ place → Times feeds part_step [] start (Ok (held, here))
parts_all feeds start here held place had all = run_ends part_step feeds start here held had.run (omega (arith, had.counted, all))
