-- A line of the header is taken.
use Rattle.std.proofs.Common.{◌≡◌, ℕ, ◌+◌, ◌≤◌, List, [], ◌∷◌, ◌++◌, length, Result, Ok, Err, Some, None, refl, sym, ap, subst, inl, inr, arith, append_assoc, append-nil, codes}
use Rattle.std.proofs.lemmas.List.Elements.{All-nil}
use Rattle.dm_text.specs.Places.{Place, at_start, IsLineAt, HasNoLineFeed}
use Rattle.dm_text.specs.Judging.{Times}
use Rattle.dm_network.specs.Net.{Net}
use Rattle.dm_rows.specs.declared.messages.Entry.{Entry}
use Rattle.dm_rows.specs.Rows.{RowsValue}
use Rattle.dm_cert.specs.PlanTexts.{largest_cost}
use Rattle.dm_records.specs.RunLines.{IsNumberLine, IsVersionLine}
use Rattle.dm_follow.specs.declared.faults.FollowKind.{FollowKind}
use Rattle.dm_follow.specs.declared.faults.FollowKind.TheVariants as kind
use Rattle.dm_follow.specs.declared.stages.Stage.{Stage}
use Rattle.dm_follow.specs.declared.stages.Stage.TheVariants.{Version, Penalty, Feeds, Entries, Journal, Failed}
use Rattle.dm_follow.specs.Journals.{Halt, broken, Header, header, Reads, Rules, TellsHeader, TellsPenalty, TellsFeeds, TellsEntry}
use Rattle.dm_follow.specs.Followed.{IsLastPart}
use Rattle.dm_follow.specs.Inside.Reading.{HeaderFrom, header_line, IsInHeader, StepsHeader, IsAtHeader, IsAtEntry, behind_entries, HasFailed, IsReadTo}
use Rattle.dm_follow.proofs.Chains.{goes_on}
use Rattle.dm_follow.proofs.Carried.{no_header}

-- ---- one line

pub reads_goes : {V : Type 0} (spells : V → List ℕ → Type 0) (place behind : Place) (line : List ℕ) (v : V) → IsLineAt place line behind → spells v line → Reads spells place (Ok (v, behind))
reads_goes spells place behind line v stands spelled = record { bytes = line; stands = stands; spelled = spelled }

pub reads_stops : {V : Type 0} (spells : V → List ℕ → Type 0) (place behind : Place) (line : List ℕ) → IsLineAt place line behind → ((v : V) → spells v line → ⊥) → Reads spells place (Err (broken kind.Form place.line))
reads_stops spells place behind line stands none = inr (record { bytes = line; next = behind; stands = stands; none = none }, refl)

module _ {V W : Type 0} (spells : V → List ℕ → Type 0) (rule : V → Type 0) (k : FollowKind) (gives : V → W) (place behind : Place) (line : List ℕ) (stands : IsLineAt place line behind) where
  pub rules_go : (v : V) → spells v line → rule v → Rules spells rule k gives place (Ok (gives v, behind))
  rules_go v spelled holds = record { value = v; behind = behind; told = reads_goes spells place behind line v stands spelled; then = (holds, refl, refl) }

  pub rules_break : (v : V) → spells v line → (rule v → ⊥) → Rules spells rule k gives place (Err (broken k place.line))
  rules_break v spelled breaks = inr (record { value = v; behind = behind; told = reads_goes spells place behind line v stands spelled; then = (breaks, refl) })

  pub rules_stop : ((v : V) → spells v line → ⊥) → Rules spells rule k gives place (Err (broken kind.Form place.line))
  rules_stop none = inl (reads_stops spells place behind line stands none)

-- ---- the lines of the header

pub version_steps : (penalty v : ℕ) (line : List ℕ) → IsVersionLine v line → StepsHeader penalty Version line (Some Penalty)
version_steps penalty v line spelled = (
  refl,
  λ place behind answer stands told.
      goes_on (Reads IsVersionLine) (λ version. TellsPenalty penalty) place behind v answer (reads_goes IsVersionLine place behind line v stands spelled) told,
)

pub version_stops : (penalty : ℕ) (line : List ℕ) → ((v : ℕ) → IsVersionLine v line → ⊥) → StepsHeader penalty Version line None
version_stops penalty line none = λ place behind stands. inl (reads_stops IsVersionLine place behind line stands none)

pub penalty_steps : (penalty n : ℕ) (line : List ℕ) → IsNumberLine (codes "penalty ") n line → n ≡ penalty → StepsHeader penalty Penalty line (Some Feeds)
penalty_steps penalty n line spelled holds = (
  refl,
  λ place behind answer stands told.
      goes_on (Rules (IsNumberLine (codes "penalty ")) (λ n. n ≡ penalty) kind.Form (λ n. n)) (λ same. TellsFeeds) place behind n answer
      (rules_go (IsNumberLine (codes "penalty ")) (λ n. n ≡ penalty) kind.Form (λ n. n) place behind line stands n spelled holds) told,
)

pub penalty_stops : (penalty : ℕ) (line : List ℕ) → ((n : ℕ) → IsNumberLine (codes "penalty ") n line → ⊥) → StepsHeader penalty Penalty line None
penalty_stops penalty line none = λ place behind stands. inl (rules_stop (IsNumberLine (codes "penalty ")) (λ n. n ≡ penalty) kind.Form (λ n. n) place behind line stands none)

pub penalty_breaks : (penalty n : ℕ) (line : List ℕ) → IsNumberLine (codes "penalty ") n line → (n ≡ penalty → ⊥) → StepsHeader penalty Penalty line None
penalty_breaks penalty n line spelled breaks = λ place behind stands. inl (rules_break (IsNumberLine (codes "penalty ")) (λ n. n ≡ penalty) kind.Form (λ n. n) place behind line stands n spelled breaks)

-- ---- bytes

-- an LF ends the last part
pub part_ends : (bytes part : List ℕ) → IsLastPart bytes part → IsLastPart (bytes ++ 10 ∷ []) []
part_ends bytes part last = record {
  before = bytes ++ 10 ∷ [];
  is = sym (append-nil (bytes ++ 10 ∷ []));
  begins = inr (bytes, refl);
  one_line = All-nil (λ b. b ≡ 10 → ⊥);
}

abbrev pub here_at : List ℕ → ℕ → Place
here_at left line = record { left = left; line = line }

module _ (net : Net) (start : RowsValue) (penalty : ℕ) (history : List Entry) (line bytes : List ℕ) where
  abbrev with_feed : List ℕ
  with_feed = bytes ++ 10 ∷ []

  -- the line at its place, with an LF behind it
  line_here : (n m : ℕ) (more : List ℕ) → m ≡ n + 1 → HasNoLineFeed line → IsLineAt (here_at (line ++ 10 ∷ more) n) line (here_at more m)
  line_here n m more e one_line = record { whole = refl; one_line = one_line; counted = e }

  -- what is told behind the line is told of the whole header
  behind_on : (stage next : Stage) → IsAtHeader net start penalty stage history line bytes → StepsHeader penalty stage line (Some next) → (more : List ℕ) (answer : Result (Header × Place) Halt) →
      HeaderFrom penalty next (here_at more (header_line next)) answer → TellsHeader penalty (at_start (with_feed ++ more)) answer
  behind_on stage next at steps more answer told =
      let place : Place = here_at (line ++ 10 ∷ more) (header_line stage) in
      let all = at.on (10 ∷ more) answer (steps.1 place (here_at more (header_line next)) answer (line_here (header_line stage) (header_line next) more steps.0 at.last.one_line) told) in
      subst (λ (text : List ℕ). TellsHeader penalty (at_start text) answer) (sym (append_assoc bytes (10 ∷ []) more)) all

  -- one more line of the header was read
  goes_header : (stage next : Stage) → IsAtHeader net start penalty stage history line bytes → StepsHeader penalty stage line (Some next) → IsAtHeader net start penalty next history [] with_feed
  goes_header stage next at steps = record {
    none = at.none;
    last = part_ends bytes line at.last;
    on = λ more answer told. behind_on stage next at steps more answer told;
  }

  -- the header was read
  goes_journal : (stage : Stage) (feeds entries : ℕ) → IsAtHeader net start penalty stage history line bytes → StepsHeader penalty stage line (Some (Journal feeds entries)) →
      IsAtEntry net start penalty feeds entries history [] with_feed
  goes_journal stage feeds entries at steps =
      let empty : length history ≡ 0 = ap length at.none in
      record {
        within = omega (arith, empty);
        rest = [];
        on = λ more. record {
          behind = behind_entries (length history) more;
          told_header = behind_on stage (Journal feeds entries) at steps more (Ok (header feeds entries, behind_entries (length history) more))
              (refl, ap (λ n. here_at more n) (omega (arith, empty)));
          told = subst (λ (xs : List Entry). Times {F = Halt} (length xs) (TellsEntry net start feeds) [] (behind_entries (length history) more) (Ok (xs, behind_entries (length history) more))) (sym at.none) (refl, refl);
        };
        due = λ less. refl;
        last = λ less. part_ends bytes line at.last;
      }

  -- a line of the header breaks its rule
  fails_header : (stage : Stage) → IsAtHeader net start penalty stage history line bytes → StepsHeader penalty stage line None → penalty ≤ largest_cost →
      HasFailed net start penalty history with_feed (header_line stage) kind.Form
  fails_header stage at stops low =
      let place : Place = here_at (line ++ 10 ∷ []) (header_line stage) in
      let told : TellsHeader penalty (at_start with_feed) (Err (broken kind.Form (header_line stage))) =
      at.on (10 ∷ []) (Err (broken kind.Form (header_line stage))) (stops place (here_at [] (header_line stage + 1)) (line_here (header_line stage) (header_line stage + 1) [] refl at.last.one_line)) in
      record { followed = no_header net start penalty with_feed history (broken kind.Form (header_line stage)) low at.none told; of_rule = tt; fault = inl told }

  at_header : (stage : Stage) → IsInHeader stage → IsReadTo net start penalty history stage line bytes → IsAtHeader net start penalty stage history line bytes
  at_header Version is at = at
  at_header Penalty is at = at
  at_header Feeds is at = at
  at_header (Entries feeds) is at = at
  at_header (Journal feeds entries) is at = absurd is
  at_header (Failed n k) is at = absurd is

  pub header_goes : (stage next : Stage) → IsInHeader stage → StepsHeader penalty stage line (Some next) → IsReadTo net start penalty history stage line bytes →
      IsReadTo net start penalty history next [] with_feed
  header_goes stage Version is steps at = goes_header stage Version (at_header stage is at) steps
  header_goes stage Penalty is steps at = goes_header stage Penalty (at_header stage is at) steps
  header_goes stage Feeds is steps at = goes_header stage Feeds (at_header stage is at) steps
  header_goes stage (Entries feeds) is steps at = goes_header stage (Entries feeds) (at_header stage is at) steps
  header_goes stage (Journal feeds entries) is steps at = goes_journal stage feeds entries (at_header stage is at) steps
  header_goes stage (Failed n k) is steps at = let e = steps.0 in absurd (omega (arith, e))

  pub header_fails : (stage : Stage) → IsInHeader stage → StepsHeader penalty stage line None → penalty ≤ largest_cost → IsReadTo net start penalty history stage line bytes →
      IsReadTo net start penalty history (Failed (header_line stage) kind.Form) [] with_feed
  header_fails stage is stops low at = fails_header stage (at_header stage is at) stops low
