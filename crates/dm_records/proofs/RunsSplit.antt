-- What stands in front of a text is one run alone, in one version.
use Rattle.std.proofs.Common.{◌≡◌, ℕ, zero, suc, ◌+◌, ◌<◌, ◌≤◌, List, [], ◌∷◌, ◌++◌, length, get_or, All, refl, sym, ap, subst, ◌∙◌, inl, inr, arith, append_assoc, append-nil, codes}
use Rattle.std.specs.List.{flat_map, range_with_len}
use Rattle.std.specs.Fmt.{decimal}
use Rattle.std.proofs.lemmas.Bool.{cases_lt, cases_eq}
use Rattle.std.proofs.lemmas.List.{append_cancel_left, ext_get_or, get_or_past}
use Rattle.std.proofs.lemmas.List.Elements.{All-head, All-tail}
use Rattle.dm_outside.specs.Printing.{joined}
use Rattle.dm_network.specs.Net.{Net, event_at}
use Rattle.dm_rows.specs.declared.messages.Message.{Message}
use Rattle.dm_rows.specs.declared.messages.Entry.{Entry}
use Rattle.dm_rows.specs.Timetable.{time_at}
use Rattle.dm_feed.specs.declared.feed.FeedStop.{FeedStop}
use Rattle.dm_feed.specs.Parts.{largest_value}
use Rattle.dm_feed.specs.Lines.{HasSortedChoice, spelling_of_message}
use Rattle.dm_cert.specs.declared.notes.Note.{Note}
use Rattle.dm_cert.specs.declared.replies.LogItem.{LogItem}
use Rattle.dm_cert.specs.declared.replies.FeedLog.{FeedLog}
use Rattle.dm_cert.specs.PlanTexts.{line_end, largest_cost, IsVersion}
use Rattle.dm_cert.specs.RunTexts.{Run, run_text, header_text, entry_text, entries_text, feed_text, log_text, logs_text, item_text, stop_text, boards_text, note_text, heading_text, time_text, timetable_text, ending_text, IsSpelledLog, FitsEntry, FitsLog, FitsNote}
use Rattle.dm_records.specs.Inside.Fields.{field_text}
use Rattle.dm_records.specs.Laws.{IsHeldLog, IsInPrint, RunsHaveOwnTexts}
use Rattle.dm_records.proofs.FieldsRead.{FieldsFit}
use Rattle.dm_records.proofs.Splitting.{IsSame, Splits, end_same, fields_split, list_splits, message_splits}
use Rattle.dm_records.proofs.RepliesSplit.{GoodItem, item_good, item_splits, stop_splits}

-- ---- lists of one number

abbrev one : List ℕ → List (List ℕ × ℕ)
one words = (words, largest_cost) ∷ []

pub head_same : (m n : ℕ) (ms ns : List ℕ) → m ∷ ms ≡ n ∷ ns → m ≡ n
head_same m n ms ns e = cc

pub tail_same : (m n : ℕ) (ms ns : List ℕ) → m ∷ ms ≡ n ∷ ns → ms ≡ ns
tail_same m n ms ns e = cc

-- a number to the end of a line
line_splits : (words : List ℕ) (m n : ℕ) (rest more : List ℕ) → m ≤ largest_cost → n ≤ largest_cost →
    field_text (one words) (m ∷ []) (line_end ++ rest) ≡ field_text (one words) (n ∷ []) (line_end ++ more) → IsSame m n rest more
line_splits words m n rest more fits other e =
    let same = fields_split (one words) (m ∷ []) (n ∷ []) (line_end ++ rest) (line_end ++ more) (fits, omega arith, refl, tt) (other, omega arith, refl, tt) e in
    record { value = head_same m n [] [] same.value; behind = end_same rest more same.behind }

-- ---- the first lines

abbrev header_fields : List (List ℕ × ℕ)
header_fields =
    (codes "dm-run ", largest_cost) ∷ (line_end ++ codes "penalty ", largest_cost) ∷ (line_end ++ codes "feeds ", largest_cost)
    ∷ (line_end ++ codes "entries ", largest_cost) ∷ []

header_spelled : (v p f e : ℕ) (rest : List ℕ) → header_text v p f e ++ rest ≡ field_text header_fields (v ∷ p ∷ f ∷ e ∷ []) (line_end ++ rest)
unfolding header_text
header_spelled v p f e rest = simp (append_assoc, append-nil)

-- ---- entries

abbrev entry_fields : List (List ℕ × ℕ)
entry_fields = (codes " feed ", largest_cost) ∷ (codes " line ", largest_cost) ∷ []

abbrev entry_rest : Entry → List ℕ → List ℕ
entry_rest x rest = codes " " ++ (spelling_of_message x.message ++ (line_end ++ rest))

entry_spelled : (n : ℕ) (x : Entry) (rest : List ℕ) →
    entry_text n x ++ rest ≡ (codes "entry " ++ decimal n) ++ field_text entry_fields (x.feed ∷ x.line ∷ []) (entry_rest x rest)
unfolding entry_text
entry_spelled n x rest = simp (append_assoc, append-nil)

entry_fits : (x : Entry) (rest : List ℕ) → FitsEntry x → FieldsFit entry_fields (x.feed ∷ x.line ∷ []) (entry_rest x rest)
entry_fits x rest fits =
    let feed = fits.0 in
    let line = fits.1 in
    (omega (arith, feed), omega arith, refl, (omega (arith, line), omega arith, refl, tt))

abbrev entry_of : ℕ → ℕ → Message → Entry
entry_of feed line message = record { feed = feed; line = line; message = message }

pub entry_same : (x y : Entry) → x.feed ≡ y.feed → x.line ≡ y.line → x.message ≡ y.message → x ≡ y
entry_same x y feed line message =
    ap (λ n. entry_of n x.line x.message) feed ∙ (ap (λ n. entry_of y.feed n x.message) line ∙ ap (λ m. entry_of y.feed y.line m) message)

space_same : (xs ys : List ℕ) → codes " " ++ xs ≡ codes " " ++ ys → xs ≡ ys
space_same xs ys e = cc

-- an entry whose numbers are not too large, and of whose pair to lock or unlock the smaller id stands first
record GoodEntry (x : Entry) : Type 0 where
  fits : FitsEntry x
  sorted : HasSortedChoice x.message

entry_splits : (n : ℕ) → Splits (entry_text n) GoodEntry
entry_splits n x y rest more p q e =
    let all = append_cancel_left (codes "entry " ++ decimal n) (field_text entry_fields (x.feed ∷ x.line ∷ []) (entry_rest x rest)) (field_text entry_fields (y.feed ∷ y.line ∷ []) (entry_rest y more))
    (sym (entry_spelled n x rest) ∙ (e ∙ entry_spelled n y more)) in
    let numbers = fields_split entry_fields (x.feed ∷ x.line ∷ []) (y.feed ∷ y.line ∷ []) (entry_rest x rest) (entry_rest y more) (entry_fits x rest p.fits) (entry_fits y more q.fits) all in
    let message = message_splits x.message y.message rest more p.fits.2 q.fits.2 p.sorted q.sorted
    (space_same (spelling_of_message x.message ++ (line_end ++ rest)) (spelling_of_message y.message ++ (line_end ++ more)) numbers.behind) in
    let lines = tail_same x.feed y.feed (x.line ∷ []) (y.line ∷ []) numbers.value in
    record {
      value = entry_same x y (head_same x.feed y.feed (x.line ∷ []) (y.line ∷ []) numbers.value) (head_same x.line y.line [] [] lines) message.value;
      behind = message.behind;
    }

entries_split : (n : ℕ) (xs ys : List Entry) (rest more : List ℕ) → length xs ≡ length ys → All GoodEntry xs → All GoodEntry ys →
    entries_text n xs ++ rest ≡ entries_text n ys ++ more → IsSame xs ys rest more
entries_split n [] [] rest more count p q e = record { value = refl; behind = e }
entries_split n [] (y ∷ ys) rest more count p q e = absurd (omega (arith, count))
entries_split n (x ∷ xs) [] rest more count p q e = absurd (omega (arith, count))
entries_split n (x ∷ xs) (y ∷ ys) rest more count p q e =
    let here = entry_splits n x y (entries_text (n + 1) xs ++ rest) (entries_text (n + 1) ys ++ more) (All-head GoodEntry x xs p) (All-head GoodEntry y ys q)
    (sym (append_assoc (entry_text n x) (entries_text (n + 1) xs) rest) ∙ (e ∙ append_assoc (entry_text n y) (entries_text (n + 1) ys) more)) in
    let later = entries_split (n + 1) xs ys rest more (omega (arith, count)) (All-tail GoodEntry x xs p) (All-tail GoodEntry y ys q) here.behind in
    record { value = let a = here.value in let b = later.value in cc; behind = later.behind }

-- ---- logs

record GoodLog (log : FeedLog) : Type 0 where
  spelled : IsSpelledLog log
  fits : FitsLog log
  held : IsHeldLog log

abbrev log_rest : ℕ → FeedLog → List ℕ → List ℕ
log_rest version log rest = flat_map (item_text version) log.items ++ (stop_text log.stop ++ rest)

log_spelled : (version number : ℕ) (log : FeedLog) (rest : List ℕ) →
    log_text version number log ++ rest ≡ (codes "feed " ++ decimal number) ++ field_text (one (codes " ")) (length log.items ∷ []) (line_end ++ log_rest version log rest)
unfolding log_text feed_text
log_spelled version number log rest = simp (append_assoc, append-nil)

good_items : (log : FeedLog) → GoodLog log → All GoodItem log.items
good_items log good = λ k d below. item_good (get_or log.items k d) (good.spelled k d below) (good.fits k d below) (good.held.items k d below)

abbrev log_of : List LogItem → FeedStop → FeedLog
log_of items stop = record { items = items; stop = stop }

log_same : (x y : FeedLog) → x.items ≡ y.items → x.stop ≡ y.stop → x ≡ y
log_same x y items stop = ap (λ xs. log_of xs x.stop) items ∙ ap (λ s. log_of y.items s) stop

log_splits : (version number : ℕ) → Splits (log_text version number) GoodLog
log_splits version number x y rest more p q e =
    let all = append_cancel_left (codes "feed " ++ decimal number) (field_text (one (codes " ")) (length x.items ∷ []) (line_end ++ log_rest version x rest))
    (field_text (one (codes " ")) (length y.items ∷ []) (line_end ++ log_rest version y more)) (sym (log_spelled version number x rest) ∙ (e ∙ log_spelled version number y more)) in
    let count = line_splits (codes " ") (length x.items) (length y.items) (log_rest version x rest) (log_rest version y more) (omega (arith, p.held.size)) (omega (arith, q.held.size)) all in
    let items = list_splits (item_text version) GoodItem (item_splits version) x.items y.items (stop_text x.stop ++ rest) (stop_text y.stop ++ more) count.value (good_items x p) (good_items y q) count.behind in
    let stop = stop_splits x.stop y.stop rest more items.behind in
    record { value = log_same x y items.value stop.value; behind = stop.behind }

logs_split : (version number : ℕ) (xs ys : List FeedLog) (rest more : List ℕ) → length xs ≡ length ys → All GoodLog xs → All GoodLog ys →
    logs_text version number xs ++ rest ≡ logs_text version number ys ++ more → IsSame xs ys rest more
logs_split version number [] [] rest more count p q e = record { value = refl; behind = e }
logs_split version number [] (y ∷ ys) rest more count p q e = absurd (omega (arith, count))
logs_split version number (x ∷ xs) [] rest more count p q e = absurd (omega (arith, count))
logs_split version number (x ∷ xs) (y ∷ ys) rest more count p q e =
    let here = log_splits version number x y (logs_text version (number + 1) xs ++ rest) (logs_text version (number + 1) ys ++ more) (All-head GoodLog x xs p) (All-head GoodLog y ys q)
    (sym (append_assoc (log_text version number x) (logs_text version (number + 1) xs) rest) ∙ (e ∙ append_assoc (log_text version number y) (logs_text version (number + 1) ys) more)) in
    let later = logs_split version (number + 1) xs ys rest more (omega (arith, count)) (All-tail GoodLog x xs p) (All-tail GoodLog y ys q) here.behind in
    record { value = let a = here.value in let b = later.value in cc; behind = later.behind }

-- ---- notes of boards

boards_spelled : (n : ℕ) (rest : List ℕ) → boards_text n ++ rest ≡ field_text (one (codes "boards ")) (n ∷ []) (line_end ++ rest)
unfolding boards_text
boards_spelled n rest = simp (append_assoc, append-nil)

abbrev note_fields : List (List ℕ × ℕ)
note_fields = (codes "board ", largest_cost) ∷ (codes " stop ", largest_cost) ∷ (codes " dropped ", largest_cost) ∷ []

abbrev pub note_numbers : Note → List ℕ
note_numbers n = n.board ∷ n.stop ∷ n.entry ∷ []

note_spelled : (n : Note) (rest : List ℕ) → note_text n ++ rest ≡ field_text note_fields (note_numbers n) (line_end ++ rest)
unfolding note_text
note_spelled n rest = simp (append_assoc, append-nil)

note_fits : (n : Note) (rest : List ℕ) → FitsNote n → FieldsFit note_fields (note_numbers n) (line_end ++ rest)
note_fits n rest fits =
    let board = fits.0 in
    let stop = fits.1 in
    let entry = fits.2 in
    (omega (arith, board), omega arith, refl, (omega (arith, stop), omega arith, refl, (omega (arith, entry), omega arith, refl, tt)))

abbrev note_of : ℕ → ℕ → ℕ → Note
note_of board stop entry = record { board = board; stop = stop; entry = entry }

pub note_same : (x y : Note) → note_numbers x ≡ note_numbers y → x ≡ y
note_same x y e =
    let boards = head_same x.board y.board (x.stop ∷ x.entry ∷ []) (y.stop ∷ y.entry ∷ []) e in
    let others = tail_same x.board y.board (x.stop ∷ x.entry ∷ []) (y.stop ∷ y.entry ∷ []) e in
    let stops = head_same x.stop y.stop (x.entry ∷ []) (y.entry ∷ []) others in
    let entries = head_same x.entry y.entry [] [] (tail_same x.stop y.stop (x.entry ∷ []) (y.entry ∷ []) others) in
    ap (λ n. note_of n x.stop x.entry) boards ∙ (ap (λ n. note_of y.board n x.entry) stops ∙ ap (λ n. note_of y.board y.stop n) entries)

note_splits : Splits note_text FitsNote
note_splits x y rest more p q e =
    let same = fields_split note_fields (note_numbers x) (note_numbers y) (line_end ++ rest) (line_end ++ more) (note_fits x rest p) (note_fits y more q)
    (sym (note_spelled x rest) ∙ (e ∙ note_spelled y more)) in
    record { value = note_same x y same.value; behind = end_same rest more same.behind }

-- ---- times

time_spelled : (net : Net) (times : List ℕ) (i : ℕ) (rest : List ℕ) →
    time_text net times i ++ rest ≡ decimal (event_at net i).id.0 ++ field_text (one (codes "; ")) (time_at times i ∷ []) (line_end ++ rest)
unfolding time_text
time_spelled net times i rest = simp (append_assoc, append-nil)

abbrev AreLow : List ℕ → Type 0
AreLow xs = (i : ℕ) → time_at xs i ≤ largest_cost

are_low : (xs : List ℕ) → All (λ x. x ≤ largest_value) xs → AreLow xs
are_low xs all = λ i. elim (cases_lt i (length xs)) [
  | inl below ↦ let low = all i 0 below in omega (arith, low)
  | inr past ↦ rw (get_or_past xs i 0 past) (omega arith)
]

record SameTimes (xs ys : List ℕ) (from count : ℕ) (rest more : List ℕ) : Type 0 where
  each : (i : ℕ) → from ≤ i → i < from + count → time_at xs i ≡ time_at ys i
  behind : rest ≡ more

times_split : (net : Net) (xs ys : List ℕ) (count from : ℕ) (rest more : List ℕ) → AreLow xs → AreLow ys →
    flat_map (time_text net xs) (range_with_len from count) ++ rest ≡ flat_map (time_text net ys) (range_with_len from count) ++ more → SameTimes xs ys from count rest more
times_split net xs ys zero from rest more p q e = record { each = λ i low high. absurd (omega arith); behind = e }
times_split net xs ys (suc count) from rest more p q e =
    let first : List ℕ = flat_map (time_text net xs) (range_with_len (from + 1) count) in
    let second : List ℕ = flat_map (time_text net ys) (range_with_len (from + 1) count) in
    let all = append_cancel_left (decimal (event_at net from).id.0) (field_text (one (codes "; ")) (time_at xs from ∷ []) (line_end ++ (first ++ rest)))
    (field_text (one (codes "; ")) (time_at ys from ∷ []) (line_end ++ (second ++ more)))
    (sym (time_spelled net xs from (first ++ rest)) ∙ (sym (append_assoc (time_text net xs from) first rest) ∙ (e ∙ (append_assoc (time_text net ys from) second more ∙ time_spelled net ys from (second ++ more))))) in
    let here = line_splits (codes "; ") (time_at xs from) (time_at ys from) (first ++ rest) (second ++ more) (p from) (q from) all in
    let later = times_split net xs ys count (from + 1) rest more p q here.behind in
    record {
      each = λ i low high. elim (cases_eq i from) [
        | inl same ↦ subst (λ n. time_at xs n ≡ time_at ys n) (sym same) here.value
        | inr other ↦ later.each i (omega (arith, other)) (omega arith)
      ];
      behind = later.behind;
    }

timetable_splits : (net : Net) (xs ys : List ℕ) (rest more : List ℕ) → length xs ≡ length net.events → length ys ≡ length net.events →
    All (λ x. x ≤ largest_value) xs → All (λ x. x ≤ largest_value) ys → timetable_text net xs ++ rest ≡ timetable_text net ys ++ more → IsSame xs ys rest more
unfolding timetable_text
timetable_splits net xs ys rest more size also p q e =
    let same = times_split net xs ys (length net.events) 0 rest more (are_low xs p) (are_low ys q) e in
    record { value = ext_get_or 0 xs ys (size ∙ sym also) (λ i below. same.each i (omega arith) (omega (arith, size))); behind = same.behind }

-- ---- the last lines

ending_spelled : (cost : ℕ) (rest : List ℕ) → ending_text cost ++ rest ≡ field_text (one (codes "cost ")) (cost ∷ []) (line_end ++ (codes "done" ++ (line_end ++ rest)))
unfolding ending_text
ending_spelled cost rest = simp (append_assoc, append-nil)

done_same : (rest more : List ℕ) → codes "done" ++ (line_end ++ rest) ≡ codes "done" ++ (line_end ++ more) → rest ≡ more
done_same rest more e = cc

-- ---- the whole

eight : (a b c d e f g h rest : List ℕ) → joined (a ∷ b ∷ c ∷ d ∷ e ∷ f ∷ g ∷ h ∷ []) ++ rest ≡ a ++ (b ++ (c ++ (d ++ (e ++ (f ++ (g ++ (h ++ rest)))))))
eight a b c d e f g h rest = simp (append_assoc, append-nil)

-- what stands behind each part of a run's text
abbrev behind_times : Run → List ℕ → List ℕ
behind_times run rest = ending_text run.cost ++ rest

abbrev behind_notes : Run → List ℕ → List ℕ
behind_notes run rest = heading_text (length run.history) ++ (timetable_text run.net run.times ++ behind_times run rest)

abbrev behind_logs : Run → List ℕ → List ℕ
behind_logs run rest = boards_text (length run.notes) ++ (flat_map note_text run.notes ++ behind_notes run rest)

abbrev behind_entries : ℕ → Run → List ℕ → List ℕ
behind_entries version run rest = logs_text version 1 run.logs ++ behind_logs run rest

abbrev behind_header : ℕ → Run → List ℕ → List ℕ
behind_header version run rest = entries_text 1 run.history ++ behind_entries version run rest

abbrev header_numbers : ℕ → Run → List ℕ
header_numbers version run = version ∷ run.penalty ∷ length run.logs ∷ length run.history ∷ []

run_spelled : (version : ℕ) (run : Run) (rest : List ℕ) → run_text version run ++ rest ≡ field_text header_fields (header_numbers version run) (line_end ++ behind_header version run rest)
unfolding run_text
run_spelled version run rest =
    eight (header_text version run.penalty (length run.logs) (length run.history)) (entries_text 1 run.history) (logs_text version 1 run.logs) (boards_text (length run.notes)) (flat_map note_text run.notes)
    (heading_text (length run.history)) (timetable_text run.net run.times) (ending_text run.cost) rest
    ∙ header_spelled version run.penalty (length run.logs) (length run.history) (behind_header version run rest)

version_low : (version : ℕ) → IsVersion version → version ≤ largest_cost
version_low version (inl one) = omega (arith, one)
version_low version (inr two) = omega (arith, two)

header_fits : (version : ℕ) (run : Run) (rest : List ℕ) → IsVersion version → IsInPrint run → FieldsFit header_fields (header_numbers version run) (line_end ++ behind_header version run rest)
header_fits version run rest is good =
    (version_low version is, omega arith, refl, (omega (arith, good.fits.penalty), omega arith, refl, (omega (arith, good.held.feeds), omega arith, refl, (omega (arith, good.held.history), omega arith, refl, tt))))

good_entries : (run : Run) → IsInPrint run → All GoodEntry run.history
good_entries run good = λ k d below. record { fits = good.fits.history k d below; sorted = good.spelled.history k d below }

good_logs : (run : Run) → IsInPrint run → All GoodLog run.logs
good_logs run good = λ k d below. record { spelled = good.spelled.logs k d below; fits = good.fits.logs k d below; held = good.held.logs k d below }

-- the numbers of the first lines
record SameHeader (version other_version : ℕ) (one other : Run) : Type 0 where
  version_is : version ≡ other_version
  penalty : one.penalty ≡ other.penalty
  feeds : length one.logs ≡ length other.logs
  entries : length one.history ≡ length other.history

header_same : (version other_version : ℕ) (one other : Run) → header_numbers version one ≡ header_numbers other_version other → SameHeader version other_version one other
header_same version other_version one other e = record { version_is = cc; penalty = cc; feeds = cc; entries = cc }

abbrev run_of : Net → ℕ → List Entry → List FeedLog → List Note → List ℕ → ℕ → Run
run_of net penalty history logs notes times cost =
    record { net = net; penalty = penalty; history = history; logs = logs; notes = notes; times = times; cost = cost }

run_same : (x y : Run) → x.net ≡ y.net → x.penalty ≡ y.penalty → x.history ≡ y.history → x.logs ≡ y.logs → x.notes ≡ y.notes → x.times ≡ y.times → x.cost ≡ y.cost → x ≡ y
run_same x y net penalty history logs notes times cost =
    ap (λ v. run_of v x.penalty x.history x.logs x.notes x.times x.cost) net
    ∙ (ap (λ v. run_of y.net v x.history x.logs x.notes x.times x.cost) penalty
    ∙ (ap (λ v. run_of y.net y.penalty v x.logs x.notes x.times x.cost) history
    ∙ (ap (λ v. run_of y.net y.penalty y.history v x.notes x.times x.cost) logs
    ∙ (ap (λ v. run_of y.net y.penalty y.history y.logs v x.times x.cost) notes
    ∙ (ap (λ v. run_of y.net y.penalty y.history y.logs y.notes v x.cost) times
    ∙ ap (λ v. run_of y.net y.penalty y.history y.logs y.notes y.times v) cost)))))

-- two runs over one network behind the first lines, in one version
record SameBody (one other : Run) (rest more : List ℕ) : Type 0 where
  history : one.history ≡ other.history
  logs : one.logs ≡ other.logs
  notes : one.notes ≡ other.notes
  times : one.times ≡ other.times
  cost : one.cost ≡ other.cost
  behind : rest ≡ more

record SameEnd (one other : Run) (rest more : List ℕ) : Type 0 where
  times : one.times ≡ other.times
  cost : one.cost ≡ other.cost
  behind : rest ≡ more

end_splits : (one other : Run) (rest more : List ℕ) → IsInPrint one → IsInPrint other → one.net ≡ other.net → length one.history ≡ length other.history →
    behind_notes one rest ≡ behind_notes other more → SameEnd one other rest more
end_splits one other rest more good also net entries e =
    let second : List ℕ = timetable_text one.net other.times ++ behind_times other more in
    let same_net : behind_notes other more ≡ heading_text (length one.history) ++ second =
    ap (λ n. heading_text n ++ (timetable_text other.net other.times ++ behind_times other more)) (sym entries)
    ∙ ap (λ (n : Net). heading_text (length one.history) ++ (timetable_text n other.times ++ behind_times other more)) (sym net) in
    let all = append_cancel_left (heading_text (length one.history)) (timetable_text one.net one.times ++ behind_times one rest) second (e ∙ same_net) in
    let times = timetable_splits one.net one.times other.times (behind_times one rest) (behind_times other more) good.spelled.times
    (also.spelled.times ∙ ap (λ (n : Net). length n.events) (sym net)) good.fits.times also.fits.times all in
    let cost = line_splits (codes "cost ") one.cost other.cost (codes "done" ++ (line_end ++ rest)) (codes "done" ++ (line_end ++ more)) good.fits.cost also.fits.cost
    (sym (ending_spelled one.cost rest) ∙ (times.behind ∙ ending_spelled other.cost more)) in
    record { times = times.value; cost = cost.value; behind = done_same rest more cost.behind }

body_splits : (version : ℕ) (one other : Run) (rest more : List ℕ) → IsInPrint one → IsInPrint other → one.net ≡ other.net → length one.logs ≡ length other.logs →
    length one.history ≡ length other.history → behind_header version one rest ≡ behind_header version other more → SameBody one other rest more
body_splits version one other rest more good also net feeds entries e =
    let history = entries_split 1 one.history other.history (behind_entries version one rest) (behind_entries version other more) entries (good_entries one good) (good_entries other also) e in
    let logs = logs_split version 1 one.logs other.logs (behind_logs one rest) (behind_logs other more) feeds (good_logs one good) (good_logs other also) history.behind in
    let boards = line_splits (codes "boards ") (length one.notes) (length other.notes) (flat_map note_text one.notes ++ behind_notes one rest) (flat_map note_text other.notes ++ behind_notes other more)
    (omega (arith, good.held.notes)) (omega (arith, also.held.notes))
    (sym (boards_spelled (length one.notes) (flat_map note_text one.notes ++ behind_notes one rest)) ∙ (logs.behind ∙ boards_spelled (length other.notes) (flat_map note_text other.notes ++ behind_notes other more))) in
    let notes = list_splits note_text FitsNote note_splits one.notes other.notes (behind_notes one rest) (behind_notes other more) boards.value good.fits.notes also.fits.notes boards.behind in
    let end = end_splits one other rest more good also net entries notes.behind in
    record { history = history.value; logs = logs.value; notes = notes.value; times = end.times; cost = end.cost; behind = end.behind }

pub runs_have_own_texts : RunsHaveOwnTexts
runs_have_own_texts version other_version one other rest more is also_is good also net e =
    let numbers = fields_split header_fields (header_numbers version one) (header_numbers other_version other) (line_end ++ behind_header version one rest) (line_end ++ behind_header other_version other more)
    (header_fits version one rest is good) (header_fits other_version other more also_is also) (sym (run_spelled version one rest) ∙ (e ∙ run_spelled other_version other more)) in
    let header = header_same version other_version one other numbers.value in
    let tail = end_same (behind_header version one rest) (behind_header other_version other more) numbers.behind in
    let body = body_splits version one other rest more good also net header.feeds header.entries
    (tail ∙ ap (λ v. behind_header v other more) (sym header.version_is)) in
    record {
      same_version = header.version_is;
      run = run_same one other net header.penalty body.history body.logs body.notes body.times body.cost;
      behind = body.behind;
    }
