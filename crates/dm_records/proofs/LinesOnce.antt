-- A line of each kind spells one record alone.
use Rattle.std.proofs.Common.{◌≡◌, ℕ, ◌≤◌, List, [], ◌∷◌, ◌++◌, Option, Some, None, get_or, refl, sym, ap, subst, ◌∙◌, ◌⊎◌, inl, inr, arith, append-nil, codes}
use Rattle.std.specs.List.{flat_map}
use Rattle.std.proofs.lemmas.List.{append_cancel_right}
use Rattle.dm_base.specs.declared.ids.ActId.{ActId}
use Rattle.dm_text.specs.Inside.Parts.{behind, number_in_front}
use Rattle.dm_text.proofs.Reading.{behind_back}
use Rattle.dm_rows.specs.declared.messages.Entry.{Entry}
use Rattle.dm_feed.specs.declared.grammar.Line.{Line}
use Rattle.dm_feed.specs.Parts.{largest_id}
use Rattle.dm_feed.specs.Lines.{spelling_of_message}
use Rattle.dm_feed.proofs.Messaging.{one_message}
use Rattle.dm_cert.specs.declared.plan_lines.Heading.{Heading}
use Rattle.dm_cert.specs.PlanTexts.{line_end, largest_cost}
use Rattle.dm_cert.specs.RunTexts.{spaced_id}
use Rattle.dm_cert.proofs.Options.{none_some, some_pair}
use Rattle.dm_cert.proofs.HeadingsRead.{reads_heading, heading_spelled, front_text}
use Rattle.dm_cert.specs.declared.solved_lines.SolvedHeading.{SolvedHeading}
use Rattle.dm_cert.specs.Inside.PlanLines.{heading_in}
use Rattle.dm_cert.specs.Inside.SolvedLines.{solved_heading_in}
use Rattle.dm_cert.proofs.SolvedLinesRead.{solved_front, solved_spelled, reads_solved_heading}
use Rattle.dm_records.specs.RunLines.{Numbered, LogOpening, Timed, IsNumberLine, IsVersionLine, IsEntryLine, IsOpeningLine, IsItemLine, IsStopLine, IsNoteLine, IsTimeLine}
use Rattle.dm_records.specs.Laws.{SpellsOne, LinesSpellOne}
use Rattle.dm_records.specs.declared.kinds.TheConstants.{TOLD, FREE}
use Rattle.dm_records.specs.declared.kinds.ToldKind.{ToldKind}
use Rattle.dm_records.specs.declared.kinds.FreeKind.{FreeKind}
use Rattle.dm_records.specs.declared.kinds.FreeKind.TheVariants as free
use Rattle.dm_records.specs.Inside.Fields.{number_behind, numbers_text, NumbersFit, row_in, field_text}
use Rattle.dm_records.specs.Inside.Kinds.{told_text, told_shape, free_text, free_shape, free_reply}
use Rattle.dm_records.specs.Inside.Answers.{Saying, answered, Told, of_kind, of_cycle, of_plan, of_solved, told_at, TellsKind, TellsCycle, TellsPlan, TellsSolved, IsToldLine, IsAnswerLine}
use Rattle.dm_records.specs.Inside.Items.{SaysThere}
use Rattle.dm_records.proofs.FieldsRead.{FieldsFit}
use Rattle.dm_records.proofs.KindsRead.{ends_whole, row_back}
use Rattle.dm_records.proofs.AnswersRead.{told_apart, told_small, free_apart, free_small, AtEntry, AsFree, by_saying, entry_number}
use Rattle.dm_records.proofs.ItemsRead.{Item, broken, sound, item_at, StandsItem, item_there, item_number}
use Rattle.dm_records.proofs.LinesRead.{note_fields, note_spelled, entry_read, opening_fields, time_fields}
use Rattle.dm_records.proofs.Splitting.{fields_split, ids_split}
use Rattle.dm_records.proofs.RepliesSplit.{said_same, malformed_is_no_line, no_row_in_cycle, space_same, stop_splits}
use Rattle.dm_records.proofs.RunsSplit.{head_same, tail_same, note_same, entry_same}

-- ---- lines of words and numbers

abbrev one : List ℕ → ℕ → List (List ℕ × ℕ)
one words largest = (words, largest) ∷ []

fields_once : (fs : List (List ℕ × ℕ)) (ns ms line : List ℕ) → FieldsFit fs ns [] → FieldsFit fs ms [] → field_text fs ns [] ≡ line → field_text fs ms [] ≡ line → ns ≡ ms
fields_once fs ns ms line p q a b = (fields_split fs ns ms [] [] p q (a ∙ sym b)).value

number_once : (words : List ℕ) → SpellsOne (IsNumberLine words)
number_once words line n m p q =
    head_same n m [] [] (fields_once (one words largest_cost) (n ∷ []) (m ∷ []) line (p.fits, omega arith, refl, tt) (q.fits, omega arith, refl, tt) p.spelled q.spelled)

version_once : SpellsOne IsVersionLine
version_once line n m p q =
    head_same n m [] [] (fields_once (one (codes "dm-run ") largest_cost) (n ∷ []) (m ∷ []) line (low n p.is_version, omega arith, refl, tt) (low m q.is_version, omega arith, refl, tt) p.spelled q.spelled)
  where
    low : (v : ℕ) → (v ≡ 1) ⊎ (v ≡ 2) → v ≤ largest_cost
    low v (inl e) = omega (arith, e)
    low v (inr e) = omega (arith, e)

-- what is made of the two numbers of a line
two_once : {V : Type 0} (fs : List (List ℕ × ℕ)) (make : ℕ → ℕ → V) (a b c d : ℕ) (line : List ℕ) → FieldsFit fs (a ∷ b ∷ []) [] → FieldsFit fs (c ∷ d ∷ []) []
    → field_text fs (a ∷ b ∷ []) [] ≡ line → field_text fs (c ∷ d ∷ []) [] ≡ line → make a b ≡ make c d
two_once fs make a b c d line p q s t =
    let same = fields_once fs (a ∷ b ∷ []) (c ∷ d ∷ []) line p q s t in
    let first = head_same a c (b ∷ []) (d ∷ []) same in
    let second = head_same b d [] [] (tail_same a c (b ∷ []) (d ∷ []) same) in
    ap (λ n. make n b) first ∙ ap (λ n. make c n) second

abbrev opening_of : ℕ → ℕ → LogOpening
opening_of feed items = record { feed = feed; items = items }

opening_once : SpellsOne IsOpeningLine
opening_once line o u p q =
    two_once opening_fields opening_of o.feed o.items u.feed u.items line (p.feed, omega arith, refl, (p.items, omega arith, refl, tt)) (q.feed, omega arith, refl, (q.items, omega arith, refl, tt)) p.spelled q.spelled

abbrev timed_of : ℕ → ℕ → Timed
timed_of event time = record { event = event; time = time }

time_once : SpellsOne IsTimeLine
time_once line o u p q =
    two_once time_fields timed_of o.event o.time u.event u.time line (p.event, omega arith, refl, (p.time, omega arith, refl, tt)) (q.event, omega arith, refl, (q.time, omega arith, refl, tt)) p.spelled q.spelled

note_once : SpellsOne IsNoteLine
note_once line n m p q =
    note_same n m
    (fields_once note_fields (n.board ∷ n.stop ∷ n.entry ∷ []) (m.board ∷ m.stop ∷ m.entry ∷ []) line
    (p.board, omega arith, refl, (p.stop, omega arith, refl, (p.entry, omega arith, refl, tt))) (q.board, omega arith, refl, (q.stop, omega arith, refl, (q.entry, omega arith, refl, tt)))
    (append_cancel_right (field_text note_fields (n.board ∷ n.stop ∷ n.entry ∷ []) []) line line_end (sym (note_spelled n) ∙ p.spelled))
    (append_cancel_right (field_text note_fields (m.board ∷ m.stop ∷ m.entry ∷ []) []) line line_end (sym (note_spelled m) ∙ q.spelled)))

stop_once : SpellsOne IsStopLine
stop_once line s t p q = (stop_splits s t [] [] (ap (λ xs. xs ++ []) (p ∙ sym q))).value

abbrev numbered_of : ℕ → Entry → Numbered
numbered_of n e = record { number = n; entry = e }

entry_once : SpellsOne IsEntryLine
entry_once line x y p q =
    let same = some_pair (x.number ∷ x.entry.feed ∷ x.entry.line ∷ []) (y.number ∷ y.entry.feed ∷ y.entry.line ∷ []) (codes " " ++ spelling_of_message x.entry.message) (codes " " ++ spelling_of_message y.entry.message)
    (sym (entry_read x line p) ∙ entry_read y line q) in
    let number = head_same x.number y.number (x.entry.feed ∷ x.entry.line ∷ []) (y.entry.feed ∷ y.entry.line ∷ []) same.0 in
    let others = tail_same x.number y.number (x.entry.feed ∷ x.entry.line ∷ []) (y.entry.feed ∷ y.entry.line ∷ []) same.0 in
    let feed = head_same x.entry.feed y.entry.feed (x.entry.line ∷ []) (y.entry.line ∷ []) others in
    let at = head_same x.entry.line y.entry.line [] [] (tail_same x.entry.feed y.entry.feed (x.entry.line ∷ []) (y.entry.line ∷ []) others) in
    let spelled = space_same (spelling_of_message x.entry.message) (spelling_of_message y.entry.message) same.1 in
    let message = one_message (spelling_of_message x.entry.message) x.entry.message y.entry.message (record { fits = p.message; sorted = p.sorted; spelled = refl }) (record { fits = q.message; sorted = q.sorted; spelled = spelled }) in
    let entry = entry_same x.entry y.entry feed at message in
    ap (λ n. numbered_of n x.entry) number ∙ ap (λ e. numbered_of y.number e) entry

-- ---- answers

row_same : {K : Type 0} (k j : K) (a b c d : ℕ) → (◌≡◌ {A = Option ((K × ℕ × ℕ) × List ℕ)} (Some ((k, a, b), [])) (Some ((j, c, d), []))) → (◌≡◌ {A = K × ℕ × ℕ} (k, a, b) (j, c, d))
row_same k j a b c d e = (some_pair (k, a, b) (j, c, d) [] [] e).0

told_row : (k : ToldKind) (a b : ℕ) (line : List ℕ) → TellsKind k a b line → row_in told_text told_shape TOLD line ≡ Some ((k, a, b), [])
told_row k a b line is =
    let body : told_text k ++ (numbers_text (told_shape k) a b ++ []) ≡ line = ap (λ xs. told_text k ++ xs) (append-nil (numbers_text (told_shape k) a b)) ∙ is.spelled in
    ap (row_in told_text told_shape TOLD) (sym body) ∙ row_back told_text told_shape TOLD k a b [] (told_apart k (numbers_text (told_shape k) a b ++ [])) (told_small k) is.fits refl ends_whole

free_row : (k : FreeKind) (a b : ℕ) (line : List ℕ) → free_text k ++ numbers_text (free_shape k) a b ≡ line → NumbersFit (free_shape k) a b → row_in free_text free_shape FREE line ≡ Some ((k, a, b), [])
free_row k a b line is fits =
    let body : free_text k ++ (numbers_text (free_shape k) a b ++ []) ≡ line = ap (λ xs. free_text k ++ xs) (append-nil (numbers_text (free_shape k) a b)) ∙ is in
    ap (row_in free_text free_shape FREE) (sym body) ∙ row_back free_text free_shape FREE k a b [] (free_apart k (numbers_text (free_shape k) a b ++ [])) (free_small k) fits refl ends_whole

no_row_in_plan : (xs : List ℕ) → row_in told_text told_shape TOLD (codes " plan " ++ xs) ≡ None
unfolding behind
no_row_in_plan xs = refl

no_cycle_in_plan : (xs : List ℕ) → behind (codes " refused cycle") (codes " plan " ++ xs) ≡ None
unfolding behind
no_cycle_in_plan xs = refl

no_row_in_solved : (xs : List ℕ) → row_in told_text told_shape TOLD (codes " solved " ++ xs) ≡ None
unfolding behind
no_row_in_solved xs = refl

no_cycle_in_solved : (xs : List ℕ) → behind (codes " refused cycle") (codes " solved " ++ xs) ≡ None
unfolding behind
no_cycle_in_solved xs = refl

no_plan_in_solved : (xs ys : List ℕ) → codes " plan " ++ xs ≡ codes " solved " ++ ys → ⊥
no_plan_in_solved xs ys e = let same : 112 ≡ 115 = ap (λ (l : List ℕ). get_or l 1 0) e in omega (arith, same)

-- a plan's first line behind the number of its entry
record BeginsPlan (line : List ℕ) : Type 0 where
  rest : List ℕ
  is : codes " plan " ++ rest ≡ line

begins_plan : (version : ℕ) (h : Heading) (line : List ℕ) → TellsPlan version h line → BeginsPlan line
begins_plan version h line is =
    let front : front_text version h ≡ is.rest = append_cancel_right (front_text version h) is.rest line_end (sym (heading_spelled version h) ∙ is.heading.spelled) in
    record { rest = _; is = ap (λ xs. codes " " ++ xs) front ∙ is.spelled }

record BeginsSolved (line : List ℕ) : Type 0 where
  rest : List ℕ
  is : codes " solved " ++ rest ≡ line

begins_solved : (version : ℕ) (h : SolvedHeading) (line : List ℕ) → TellsSolved version h line → BeginsSolved line
begins_solved version h line is =
    let front : solved_front h ≡ is.rest = append_cancel_right (solved_front h) is.rest line_end (sym (solved_spelled h) ∙ is.heading.spelled) in
    record { rest = _; is = ap (λ xs. codes " " ++ xs) front ∙ is.spelled }

kind_or_cycle : (k : ToldKind) (a b : ℕ) (ids : List ActId) (line : List ℕ) → TellsKind k a b line → TellsCycle ids line → ⊥
kind_or_cycle k a b ids line p q = none_some (sym (ap (row_in told_text told_shape TOLD) (sym q.spelled) ∙ no_row_in_cycle q.rest) ∙ told_row k a b line p)

kind_or_plan : (version : ℕ) (k : ToldKind) (a b : ℕ) (h : Heading) (line : List ℕ) → TellsKind k a b line → TellsPlan version h line → ⊥
kind_or_plan version k a b h line p q =
    let plan = begins_plan version h line q in
    none_some (sym (ap (row_in told_text told_shape TOLD) (sym plan.is) ∙ no_row_in_plan plan.rest) ∙ told_row k a b line p)

cycle_or_plan : (version : ℕ) (ids : List ActId) (h : Heading) (line : List ℕ) → TellsCycle ids line → TellsPlan version h line → ⊥
cycle_or_plan version ids h line p q =
    let plan = begins_plan version h line q in
    none_some (sym (ap (behind (codes " refused cycle")) (sym plan.is) ∙ no_cycle_in_plan plan.rest) ∙ (ap (behind (codes " refused cycle")) (sym p.spelled) ∙ behind_back (codes " refused cycle") p.rest))

kind_or_solved : (version : ℕ) (k : ToldKind) (a b : ℕ) (h : SolvedHeading) (line : List ℕ) → TellsKind k a b line → TellsSolved version h line → ⊥
kind_or_solved version k a b h line p q =
    let plan = begins_solved version h line q in
    none_some (sym (ap (row_in told_text told_shape TOLD) (sym plan.is) ∙ no_row_in_solved plan.rest) ∙ told_row k a b line p)

cycle_or_solved : (version : ℕ) (ids : List ActId) (h : SolvedHeading) (line : List ℕ) → TellsCycle ids line → TellsSolved version h line → ⊥
cycle_or_solved version ids h line p q =
    let plan = begins_solved version h line q in
    none_some (sym (ap (behind (codes " refused cycle")) (sym plan.is) ∙ no_cycle_in_solved plan.rest) ∙ (ap (behind (codes " refused cycle")) (sym p.spelled) ∙ behind_back (codes " refused cycle") p.rest))

plan_or_solved : (version : ℕ) (h : Heading) (g : SolvedHeading) (line : List ℕ) → TellsPlan version h line → TellsSolved version g line → ⊥
plan_or_solved version h g line p q =
    let plan = begins_plan version h line p in
    let solved = begins_solved version g line q in
    no_plan_in_solved plan.rest solved.rest (plan.is ∙ sym solved.is)

cycle_tail : (xs ys : List ℕ) → codes " refused cycle" ++ xs ≡ codes " refused cycle" ++ ys → xs ≡ ys
cycle_tail xs ys e = cc

cycle_once : (ids others : List ActId) (line : List ℕ) → TellsCycle ids line → TellsCycle others line → ids ≡ others
cycle_once ids others line p q =
    let rest = cycle_tail p.rest q.rest (p.spelled ∙ sym q.spelled) in
    let same : flat_map spaced_id ids ≡ flat_map spaced_id others = sym p.are.spelled ∙ (rest ∙ q.are.spelled) in
    (ids_split ids others [] [] p.are.fits q.are.fits (ap (λ xs. xs ++ (line_end ++ [])) same)).value

heading_once : (version : ℕ) (h g : Heading) (line : List ℕ) → TellsPlan version h line → TellsPlan version g line → h ≡ g
heading_once version h g line p q =
    let rest = space_same p.rest q.rest (p.spelled ∙ sym q.spelled) in
    let first : heading_in version q.rest ≡ Some h = ap (heading_in version) (sym rest) ∙ (reads_heading version p.rest).back h p.heading in
    let second : heading_in version q.rest ≡ Some g = (reads_heading version q.rest).back g q.heading in
    let both : Some h ≡ Some g = sym first ∙ second in
    cc

solved_once : (version : ℕ) (h g : SolvedHeading) (line : List ℕ) → TellsSolved version h line → TellsSolved version g line → h ≡ g
solved_once version h g line p q =
    let rest = space_same p.rest q.rest (p.spelled ∙ sym q.spelled) in
    let first : solved_heading_in q.rest ≡ Some h = ap solved_heading_in (sym rest) ∙ (reads_solved_heading p.rest).back h p.heading in
    let second : solved_heading_in q.rest ≡ Some g = (reads_solved_heading q.rest).back g q.heading in
    let both : Some h ≡ Some g = sym first ∙ second in
    cc

told_once : (version : ℕ) (t u : Told) (line : List ℕ) → IsToldLine version t line → IsToldLine version u line → t ≡ u
told_once version (of_kind k a b) (of_kind j c d) line p q =
    let same = row_same k j a b c d (sym (told_row k a b line p) ∙ told_row j c d line q) in
    ap (λ (r : ToldKind × ℕ × ℕ). of_kind r.0 r.1 r.2) same
told_once version (of_kind k a b) (of_cycle ids) line p q = absurd (kind_or_cycle k a b ids line p q)
told_once version (of_kind k a b) (of_plan h) line p q = absurd (kind_or_plan version k a b h line p q)
told_once version (of_kind k a b) (of_solved h) line p q = absurd (kind_or_solved version k a b h line p q)
told_once version (of_cycle ids) (of_kind k a b) line p q = absurd (kind_or_cycle k a b ids line q p)
told_once version (of_cycle ids) (of_cycle others) line p q = ap of_cycle (cycle_once ids others line p q)
told_once version (of_cycle ids) (of_plan h) line p q = absurd (cycle_or_plan version ids h line p q)
told_once version (of_cycle ids) (of_solved h) line p q = absurd (cycle_or_solved version ids h line p q)
told_once version (of_plan h) (of_kind k a b) line p q = absurd (kind_or_plan version k a b h line q p)
told_once version (of_plan h) (of_cycle ids) line p q = absurd (cycle_or_plan version ids h line q p)
told_once version (of_plan h) (of_plan g) line p q = ap of_plan (heading_once version h g line p q)
told_once version (of_plan h) (of_solved g) line p q = absurd (plan_or_solved version h g line p q)
told_once version (of_solved h) (of_kind k a b) line p q = absurd (kind_or_solved version k a b h line q p)
told_once version (of_solved h) (of_cycle ids) line p q = absurd (cycle_or_solved version ids h line q p)
told_once version (of_solved h) (of_plan g) line p q = absurd (plan_or_solved version g h line q p)
told_once version (of_solved h) (of_solved g) line p q = ap of_solved (solved_once version h g line p q)

free_no_entry : (k : FreeKind) (xs : List ℕ) → number_behind largest_id [] (free_text k ++ xs) ≡ None
unfolding behind number_in_front
free_no_entry free.NoPlan xs = refl
free_no_entry free.Plans xs = refl
free_no_entry free.Range xs = refl

free_or_entry : (version : ℕ) (s t : Saying) (line : List ℕ) → AsFree s line → AtEntry version t line → ⊥
free_or_entry version s t line p q =
    none_some (sym (free_no_entry p.kind (numbers_text (free_shape p.kind) p.one p.two)) ∙ (ap (number_behind largest_id []) p.line_is ∙ entry_number version t line q))

ways_once : (version : ℕ) (s t : Saying) (line : List ℕ) → AsFree s line ⊎ AtEntry version s line → AsFree t line ⊎ AtEntry version t line → s ≡ t
ways_once version s t line (inl p) (inl q) =
    let same = row_same p.kind q.kind p.one p.two q.one q.two (sym (free_row p.kind p.one p.two line p.line_is p.fits) ∙ free_row q.kind q.one q.two line q.line_is q.fits) in
    sym p.is ∙ (ap (λ (r : FreeKind × ℕ × ℕ). answered (free_reply r.0 r.1 r.2)) same ∙ q.is)
ways_once version s t line (inl p) (inr q) = absurd (free_or_entry version s t line p q)
ways_once version s t line (inr p) (inl q) = absurd (free_or_entry version t s line q p)
ways_once version s t line (inr p) (inr q) =
    let same = some_pair p.number q.number p.tail q.tail (sym (entry_number version s line p) ∙ entry_number version t line q) in
    let told = told_once version p.told q.told q.tail (subst (λ xs. IsToldLine version p.told xs) same.1 p.tells) q.tells in
    sym p.is ∙ (ap (λ n. told_at n p.told) same.0 ∙ (ap (λ u. told_at q.number u) told ∙ q.is))

answer_once : (version : ℕ) (s t : Saying) (line : List ℕ) → IsAnswerLine version s line → IsAnswerLine version t line → s ≡ t
answer_once version s t line p q = ways_once version s t line (by_saying version s line p) (by_saying version t line q)

-- ---- items

says_once : (version : ℕ) (l k : Line) (s t : Saying) (line : List ℕ) → SaysThere version l s line → SaysThere version k t line → (◌≡◌ {A = Line × Saying} (l, s) (k, t))
says_once version l k s t line p q =
    let same = said_same l k p.tail q.tail p.formed q.formed (p.spelled ∙ sym q.spelled) in
    let saying = answer_once version s t q.tail (subst (λ xs. IsAnswerLine version s xs) same.behind p.answers) q.answers in
    let said = same.value in
    cc

broken_or_sound : (version : ℕ) (l : Line) (s : Saying) (rest : List ℕ) → StandsItem version broken rest → StandsItem version (sound l s) rest → ⊥
broken_or_sound version l s rest p q =
    let there = q.2 in
    let same = space_same (codes "malformed" ++ []) q.0 (p ∙ sym q.1) in
    malformed_is_no_line l there.tail [] there.formed (there.spelled ∙ sym same)

stands_once : (version : ℕ) (i j : Item) (rest : List ℕ) → StandsItem version i rest → StandsItem version j rest → i ≡ j
stands_once version broken broken rest p q = refl
stands_once version broken (sound l s) rest p q = absurd (broken_or_sound version l s rest p q)
stands_once version (sound l s) broken rest p q = absurd (broken_or_sound version l s rest q p)
stands_once version (sound l s) (sound k t) rest p q =
    let same = space_same p.0 q.0 (p.1 ∙ sym q.1) in
    let both = says_once version l k s t q.0 (subst (λ xs. SaysThere version l s xs) same p.2) q.2 in
    ap (λ (b : Line × Saying). sound b.0 b.1) both

item_once : (version : ℕ) → SpellsOne (IsItemLine version)
item_once version line i j p q =
    let x = item_there version i line p in
    let y = item_there version j line q in
    let same = some_pair x.number y.number x.rest y.rest (sym (item_number version i line x) ∙ item_number version j line y) in
    let item = stands_once version x.item y.item y.rest (subst (λ xs. StandsItem version x.item xs) same.1 x.stands) y.stands in
    sym x.is ∙ (ap (λ n. item_at n x.item) same.0 ∙ (ap (λ u. item_at y.number u) item ∙ y.is))

pub lines_spell_one : LinesSpellOne
lines_spell_one = record {
  numbers = number_once;
  versions = version_once;
  entries = entry_once;
  openings = opening_once;
  items = item_once;
  stops = stop_once;
  notes = note_once;
  times = time_once;
}
