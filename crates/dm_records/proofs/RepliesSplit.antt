-- What stands in front of a text is one reply, item or stop alone.
use Rattle.std.proofs.Common.{◌≡◌, ℕ, ◌≤◌, List, ◌++◌, Option, Some, None, All, get_or, refl, sym, ap, subst, ◌∙◌, arith, append_assoc, append-nil, codes}
use Rattle.std.specs.List.{flat_map}
use Rattle.std.specs.Fmt.{decimal}
use Rattle.dm_base.specs.declared.ids.ActId.{ActId}
use Rattle.dm_text.specs.Inside.Parts.{behind, number_in_front}
use Rattle.dm_text.proofs.Reading.{EndsNumber, behind_back, number_back}
use Rattle.dm_rows.specs.declared.messages.Choice.{Choice as ChoiceOfRows}
use Rattle.dm_rows.specs.declared.messages.Refusal.{Refusal}
use Rattle.dm_rows.specs.declared.messages.Refusal.TheVariants as refusal
use Rattle.dm_tree.specs.declared.plans.Plan.{Plan}
use Rattle.dm_parts.specs.declared.parts.PlanByParts.{PlanByParts}
use Rattle.dm_feed.specs.declared.feed.FeedStop.{FeedStop}
use Rattle.dm_feed.specs.declared.feed.FeedStop.TheVariants as stop
use Rattle.dm_feed.specs.declared.grammar.Line.{Line}
use Rattle.dm_feed.specs.declared.vocabulary.Word.{Word}
use Rattle.dm_feed.specs.declared.vocabulary.Word.TheVariants as named
use Rattle.dm_feed.specs.Words.{spelling_of_word}
use Rattle.dm_feed.specs.Parts.{largest_id, spaced, spelling_of_parts}
use Rattle.dm_feed.proofs.Hearing.{begins}
use Rattle.dm_feed.specs.Lines.{spelling_of_line}
use Rattle.dm_cert.specs.declared.replies.Reply.{Reply}
use Rattle.dm_cert.specs.declared.replies.Reply.TheVariants as reply
use Rattle.dm_cert.specs.declared.replies.LogItem.{LogItem}
use Rattle.dm_cert.specs.declared.replies.LogItem.TheVariants.{Malformed, Answered}
use Rattle.dm_cert.specs.PlanTexts.{line_end, largest_cost, spelling_of_plan, plan_heading, FitsPlan}
use Rattle.dm_cert.specs.PlanLaws.{IsHeld}
use Rattle.dm_cert.specs.RunTexts.{reply_text, item_text, stop_text, spaced_id, IsSpelledReason, IsSpelledReply, IsSpelledItem, FitsReason, FitsReply, FitsItem}
use Rattle.dm_cert.proofs.Options.{none_some, some_pair}
use Rattle.dm_cert.specs.SolvedTexts.{spelling_of_solved, solved_heading, FitsSolved, IsSpelledSolved}
use Rattle.dm_cert.specs.PlanLaws.{IsHeldSolved}
use Rattle.dm_cert.proofs.SpelledPlans.{plans_have_own_texts}
use Rattle.dm_cert.proofs.SpelledSolved.{solved_have_own_texts}
use Rattle.dm_records.specs.RunLines.{IsFormedSaid}
use Rattle.dm_records.specs.Laws.{IsHeldReply, IsHeldItem}
use Rattle.dm_records.specs.declared.kinds.TheConstants.{TOLD, FREE}
use Rattle.dm_records.specs.declared.kinds.ToldKind.{ToldKind}
use Rattle.dm_records.specs.declared.kinds.ToldKind.TheVariants as told
use Rattle.dm_records.specs.declared.kinds.FreeKind.{FreeKind}
use Rattle.dm_records.specs.declared.kinds.FreeKind.TheVariants as free
use Rattle.dm_records.specs.Inside.Fields.{numbers_text, NumbersFit, row_in}
use Rattle.dm_records.specs.Inside.Kinds.{told_text, told_shape, told_reply, refused_at, free_text, free_shape, free_reply}
use Rattle.dm_records.proofs.ChoicesRead.{choice_ids}
use Rattle.dm_records.proofs.KindsRead.{ends_line, row_back}
use Rattle.dm_records.proofs.AnswersRead.{told_apart, told_small, told_spelled, kind_ends, cycle_spelled, free_apart, free_small, free_spelled}
use Rattle.dm_records.proofs.ItemsRead.{printed_one, said_apart, malformed_text}
use Rattle.dm_records.proofs.Splitting.{IsSame, Splits, FitsId, end_same, number_splits, ids_split}

-- ---- replies by what they tell

-- behind an entry's number: a kind with its numbers, a cycle, or a plan of either kind
data Tail : Type 0 where
  of_kind : ToldKind → ℕ → ℕ → Tail
  of_cycle : List ActId → Tail
  of_plan : Plan → Tail
  of_solved : PlanByParts → Tail

-- at no entry, or at one
data Form : Type 0 where
  as_free : FreeKind → ℕ → ℕ → Form
  at_entry : ℕ → Tail → Form

abbrev reply_at : ℕ → Tail → Reply
reply_at n (of_kind k a b) = told_reply n k a b
reply_at n (of_cycle ids) = refused_at n (refusal.Cycle ids)
reply_at n (of_plan plan) = reply.Planned plan
reply_at n (of_solved plan) = reply.Solved plan

abbrev reply_in : Form → Reply
reply_in (as_free k a b) = free_reply k a b
reply_in (at_entry n t) = reply_at n t

abbrev GoodTail : ℕ → Tail → Type 0
GoodTail n (of_kind k a b) = NumbersFit (told_shape k) a b
GoodTail n (of_cycle ids) = All FitsId ids
GoodTail n (of_plan plan) = FitsPlan plan × IsHeld plan × (plan.entry ≡ n)
GoodTail n (of_solved plan) = FitsSolved plan × IsSpelledSolved plan × IsHeldSolved plan × (plan.entry ≡ n)

abbrev GoodForm : Form → Type 0
GoodForm (as_free k a b) = NumbersFit (free_shape k) a b
GoodForm (at_entry n t) = (n ≤ largest_id) × GoodTail n t

pub record HasForm (r : Reply) : Type 0 where
  form : Form
  is : reply_in form ≡ r
  good : GoodForm form

kind_form : (n : ℕ) (k : ToldKind) (a b : ℕ) → n ≤ largest_id → NumbersFit (told_shape k) a b → HasForm (told_reply n k a b)
kind_form n k a b low fits = record { form = at_entry n (of_kind k a b); is = refl; good = (low, fits) }

refusal_form : (n : ℕ) (why : Refusal) → IsSpelledReason why → n ≤ largest_id → FitsReason why → HasForm (refused_at n why)
refusal_form n (refusal.Range v) s low f = kind_form n told.Range v 0 low (omega (arith, f), refl)
refusal_form n (refusal.UnknownEvent e) s low f = kind_form n told.UnknownEvent e.0 0 low (f, refl)
refusal_form n (refusal.UnknownActivity a) s low f = kind_form n told.UnknownActivity a.0 0 low (f, refl)
refusal_form n (refusal.UnknownChange a) s low f = kind_form n told.UnknownChange a.0 0 low (f, refl)
refusal_form n (refusal.UnknownPair i j) s low f = kind_form n told.UnknownPair i.0 j.0 low (f.0, f.1)
refusal_form n (refusal.Passed e t) s low f = kind_form n told.Passed e.0 t low (f.0, omega (arith, f.1))
refusal_form n (refusal.NotPassed e) s low f = kind_form n told.NotPassed e.0 0 low (f, refl)
refusal_form n (refusal.Cancelled e) s low f = kind_form n told.Cancelled e.0 0 low (f, refl)
refusal_form n (refusal.NotCancelled e) s low f = kind_form n told.NotCancelled e.0 0 low (f, refl)
refusal_form n (refusal.Locked c) s low f =
    let ids = choice_ids c (f, s) in
    subst (λ (k : ChoiceOfRows). HasForm (refused_at n (refusal.Locked k))) ids.is (kind_form n told.Locked ids.one ids.two low ids.fits)
refusal_form n (refusal.NotLocked c) s low f =
    let ids = choice_ids c (f, s) in
    subst (λ (k : ChoiceOfRows). HasForm (refused_at n (refusal.NotLocked k))) ids.is (kind_form n told.NotLocked ids.one ids.two low ids.fits)
refusal_form n (refusal.Back c) s low f = kind_form n told.Back c 0 low (omega (arith, f), refl)
refusal_form n (refusal.Cycle ids) s low f = record { form = at_entry n (of_cycle ids); is = refl; good = (low, f) }
refusal_form n (refusal.Full m) s low f = subst (λ (k : ℕ). HasForm (refused_at n (refusal.Full k))) (sym s) (kind_form n told.Full 0 0 low (refl, refl))
refusal_form n refusal.OutOfMemory s low f = absurd s

form_of : (r : Reply) → IsSpelledReply r → FitsReply r → IsHeldReply r → HasForm r
form_of (reply.Ok n) s f h = kind_form n told.Ok 0 0 f (refl, refl)
form_of (reply.Refused at) s f h = refusal_form at.entry at.why s f.0 f.1
form_of (reply.Time n x) s f h = kind_form n told.Time x 0 f.0 (omega (arith, f.1), refl)
form_of (reply.Cost n c) s f h = kind_form n told.Cost c 0 f.0 (f.1, refl)
form_of (reply.Read n) s f h = kind_form n told.Read 0 0 f (refl, refl)
form_of (reply.Planned plan) s f h = record { form = at_entry plan.entry (of_plan plan); is = refl; good = (f.0, (f.1, h, refl)) }
form_of (reply.Solved plan) s f h = record { form = at_entry plan.entry (of_solved plan); is = refl; good = (f.0, (f.1, s, h, refl)) }
form_of (reply.Old n) s f h = kind_form n told.Old 0 0 f (refl, refl)
form_of reply.NoPlan s f h = record { form = as_free free.NoPlan 0 0; is = refl; good = (refl, refl) }
form_of reply.Plans s f h = record { form = as_free free.Plans 0 0; is = refl; good = (refl, refl) }
form_of (reply.Range b) s f h = record { form = as_free free.Range b 0; is = refl; good = (omega (arith, f), refl) }

-- ---- their texts

abbrev tail_text : ℕ → Tail → List ℕ → List ℕ
tail_text version (of_kind k a b) rest = told_text k ++ (numbers_text (told_shape k) a b ++ (line_end ++ rest))
tail_text version (of_cycle ids) rest = codes " refused cycle" ++ (flat_map spaced_id ids ++ (line_end ++ rest))
tail_text version (of_plan plan) rest = codes " " ++ (spelling_of_plan version plan ++ rest)
tail_text version (of_solved plan) rest = codes " " ++ (spelling_of_solved plan ++ rest)

abbrev form_text : ℕ → Form → List ℕ → List ℕ
form_text version (as_free k a b) rest = free_text k ++ (numbers_text (free_shape k) a b ++ (line_end ++ rest))
form_text version (at_entry n t) rest = decimal n ++ tail_text version t rest

four : (a b c d rest : List ℕ) → ((a ++ (b ++ c)) ++ d) ++ rest ≡ a ++ (b ++ (c ++ (d ++ rest)))
four a b c d rest = simp append_assoc

three : (a b c rest : List ℕ) → ((a ++ b) ++ c) ++ rest ≡ a ++ (b ++ (c ++ rest))
three a b c rest = simp append_assoc

plan_spelled : (version : ℕ) (plan : Plan) (rest : List ℕ) → reply_text version (reply.Planned plan) ++ rest ≡ decimal plan.entry ++ (codes " " ++ (spelling_of_plan version plan ++ rest))
unfolding reply_text
plan_spelled version plan rest = simp (append_assoc, append-nil)

solved_reply_spelled : (version : ℕ) (plan : PlanByParts) (rest : List ℕ) → reply_text version (reply.Solved plan) ++ rest ≡ decimal plan.entry ++ (codes " " ++ (spelling_of_solved plan ++ rest))
unfolding reply_text
solved_reply_spelled version plan rest = simp (append_assoc, append-nil)

form_spelled : (version : ℕ) (f : Form) (rest : List ℕ) → GoodForm f → reply_text version (reply_in f) ++ rest ≡ form_text version f rest
form_spelled version (as_free k a b) rest good = ap (λ xs. xs ++ rest) (free_spelled version k a b) ∙ three (free_text k) (numbers_text (free_shape k) a b) line_end rest
form_spelled version (at_entry n (of_kind k a b)) rest good =
    ap (λ xs. xs ++ rest) (told_spelled version n k a b) ∙ four (decimal n) (told_text k) (numbers_text (told_shape k) a b) line_end rest
form_spelled version (at_entry n (of_cycle ids)) rest good =
    ap (λ xs. xs ++ rest) (cycle_spelled version n ids) ∙ four (decimal n) (codes " refused cycle") (flat_map spaced_id ids) line_end rest
form_spelled version (at_entry n (of_plan plan)) rest good =
    plan_spelled version plan rest ∙ ap (λ m. decimal m ++ (codes " " ++ (spelling_of_plan version plan ++ rest))) good.1.2
form_spelled version (at_entry n (of_solved plan)) rest good =
    solved_reply_spelled version plan rest ∙ ap (λ m. decimal m ++ (codes " " ++ (spelling_of_solved plan ++ rest))) good.1.3

-- ---- texts are told apart

abbrev SomeRow : {K : Type 0} → K → ℕ → ℕ → List ℕ → Option ((K × ℕ × ℕ) × List ℕ)
SomeRow k a b rest = Some ((k, a, b), rest)

record IsSameRow {K : Type 0} (k j : K) (a b c d : ℕ) (rest more : List ℕ) : Type 0 where
  kind : k ≡ j
  one : a ≡ c
  two : b ≡ d
  behind : rest ≡ more

same_row : {K : Type 0} (k j : K) (a b c d : ℕ) (rest more : List ℕ) → SomeRow k a b (line_end ++ rest) ≡ SomeRow j c d (line_end ++ more) → IsSameRow k j a b c d rest more
same_row {K} k j a b c d rest more e =
    let same = some_pair (k, a, b) (j, c, d) (line_end ++ rest) (line_end ++ more) e in
    record {
      kind = ap (λ (r : K × ℕ × ℕ). r.0) same.0;
      one = ap (λ (r : K × ℕ × ℕ). r.1) same.0;
      two = ap (λ (r : K × ℕ × ℕ). r.2) same.0;
      behind = end_same rest more same.1;
    }

told_row : (k : ToldKind) (a b : ℕ) (rest : List ℕ) → NumbersFit (told_shape k) a b →
    row_in told_text told_shape TOLD (told_text k ++ (numbers_text (told_shape k) a b ++ (line_end ++ rest))) ≡ Some ((k, a, b), line_end ++ rest)
told_row k a b rest fits = row_back told_text told_shape TOLD k a b (line_end ++ rest) (told_apart k (numbers_text (told_shape k) a b ++ (line_end ++ rest))) (told_small k) fits refl (ends_line rest)

free_row : (k : FreeKind) (a b : ℕ) (rest : List ℕ) → NumbersFit (free_shape k) a b →
    row_in free_text free_shape FREE (free_text k ++ (numbers_text (free_shape k) a b ++ (line_end ++ rest))) ≡ Some ((k, a, b), line_end ++ rest)
free_row k a b rest fits = row_back free_text free_shape FREE k a b (line_end ++ rest) (free_apart k (numbers_text (free_shape k) a b ++ (line_end ++ rest))) (free_small k) fits refl (ends_line rest)

pub no_row_in_cycle : (xs : List ℕ) → row_in told_text told_shape TOLD (codes " refused cycle" ++ xs) ≡ None
unfolding behind
no_row_in_cycle xs = refl

no_row_in_plan : (version : ℕ) (plan : Plan) (rest : List ℕ) → row_in told_text told_shape TOLD (codes " " ++ (spelling_of_plan version plan ++ rest)) ≡ None
unfolding behind spelling_of_plan plan_heading
no_row_in_plan version plan rest = refl

no_cycle_in_plan : (version : ℕ) (plan : Plan) (rest : List ℕ) → behind (codes " refused cycle") (codes " " ++ (spelling_of_plan version plan ++ rest)) ≡ None
unfolding behind spelling_of_plan plan_heading
no_cycle_in_plan version plan rest = refl

no_row_in_solved : (plan : PlanByParts) (rest : List ℕ) → row_in told_text told_shape TOLD (codes " " ++ (spelling_of_solved plan ++ rest)) ≡ None
unfolding behind spelling_of_solved solved_heading
no_row_in_solved plan rest = refl

no_cycle_in_solved : (plan : PlanByParts) (rest : List ℕ) → behind (codes " refused cycle") (codes " " ++ (spelling_of_solved plan ++ rest)) ≡ None
unfolding behind spelling_of_solved solved_heading
no_cycle_in_solved plan rest = refl

plan_letter : (version : ℕ) (plan : Plan) (rest : List ℕ) → get_or (codes " " ++ (spelling_of_plan version plan ++ rest)) 1 0 ≡ 112
unfolding spelling_of_plan plan_heading
plan_letter version plan rest = refl

solved_letter : (plan : PlanByParts) (rest : List ℕ) → get_or (codes " " ++ (spelling_of_solved plan ++ rest)) 1 0 ≡ 115
unfolding spelling_of_solved solved_heading
solved_letter plan rest = refl

-- the text of a plan of one kind is not that of the other kind
plan_or_solved : (version : ℕ) (plan : Plan) (solved : PlanByParts) (rest more : List ℕ) → codes " " ++ (spelling_of_plan version plan ++ rest) ≡ codes " " ++ (spelling_of_solved solved ++ more) → ⊥
plan_or_solved version plan solved rest more e =
    let same : 112 ≡ 115 = sym (plan_letter version plan rest) ∙ (ap (λ (xs : List ℕ). get_or xs 1 0) e ∙ solved_letter solved more) in omega (arith, same)

tail_ends : (version : ℕ) (t : Tail) (rest : List ℕ) → EndsNumber (tail_text version t rest)
tail_ends version (of_kind k a b) rest = kind_ends k (numbers_text (told_shape k) a b ++ (line_end ++ rest))
tail_ends version (of_cycle ids) rest = refl
tail_ends version (of_plan plan) rest = refl
tail_ends version (of_solved plan) rest = refl

free_no_number : (k : FreeKind) (xs : List ℕ) → number_in_front largest_cost (free_text k ++ xs) ≡ None
unfolding number_in_front
free_no_number free.NoPlan xs = refl
free_no_number free.Plans xs = refl
free_no_number free.Range xs = refl

cycle_tail : (xs ys : List ℕ) → codes " refused cycle" ++ xs ≡ codes " refused cycle" ++ ys → xs ≡ ys
cycle_tail xs ys e = cc

plan_tail : (xs ys : List ℕ) → codes " " ++ xs ≡ codes " " ++ ys → xs ≡ ys
plan_tail xs ys e = cc

tails_split : (version n : ℕ) (t u : Tail) (rest more : List ℕ) → GoodTail n t → GoodTail n u → tail_text version t rest ≡ tail_text version u more → IsSame t u rest more
tails_split version n (of_kind k a b) (of_kind j c d) rest more p q e =
    let same = same_row k j a b c d rest more (sym (told_row k a b rest p) ∙ (ap (row_in told_text told_shape TOLD) e ∙ told_row j c d more q)) in
    record { value = let x = same.kind in let y = same.one in let z = same.two in cc; behind = same.behind }
tails_split version n (of_kind k a b) (of_cycle ids) rest more p q e =
    absurd (none_some (sym (ap (row_in told_text told_shape TOLD) e ∙ no_row_in_cycle (flat_map spaced_id ids ++ (line_end ++ more))) ∙ told_row k a b rest p))
tails_split version n (of_kind k a b) (of_plan plan) rest more p q e =
    absurd (none_some (sym (ap (row_in told_text told_shape TOLD) e ∙ no_row_in_plan version plan more) ∙ told_row k a b rest p))
tails_split version n (of_kind k a b) (of_solved plan) rest more p q e =
    absurd (none_some (sym (ap (row_in told_text told_shape TOLD) e ∙ no_row_in_solved plan more) ∙ told_row k a b rest p))
tails_split version n (of_cycle ids) (of_kind j c d) rest more p q e =
    absurd (none_some (sym (ap (row_in told_text told_shape TOLD) (sym e) ∙ no_row_in_cycle (flat_map spaced_id ids ++ (line_end ++ rest))) ∙ told_row j c d more q))
tails_split version n (of_cycle ids) (of_cycle others) rest more p q e =
    let same = ids_split ids others rest more p q (cycle_tail (flat_map spaced_id ids ++ (line_end ++ rest)) (flat_map spaced_id others ++ (line_end ++ more)) e) in
    record { value = ap of_cycle same.value; behind = same.behind }
tails_split version n (of_cycle ids) (of_plan plan) rest more p q e =
    absurd (none_some (sym (ap (behind (codes " refused cycle")) e ∙ no_cycle_in_plan version plan more) ∙ behind_back (codes " refused cycle") (flat_map spaced_id ids ++ (line_end ++ rest))))
tails_split version n (of_cycle ids) (of_solved plan) rest more p q e =
    absurd (none_some (sym (ap (behind (codes " refused cycle")) e ∙ no_cycle_in_solved plan more) ∙ behind_back (codes " refused cycle") (flat_map spaced_id ids ++ (line_end ++ rest))))
tails_split version n (of_plan plan) (of_kind j c d) rest more p q e =
    absurd (none_some (sym (ap (row_in told_text told_shape TOLD) (sym e) ∙ no_row_in_plan version plan rest) ∙ told_row j c d more q))
tails_split version n (of_plan plan) (of_cycle ids) rest more p q e =
    absurd (none_some (sym (ap (behind (codes " refused cycle")) (sym e) ∙ no_cycle_in_plan version plan rest) ∙ behind_back (codes " refused cycle") (flat_map spaced_id ids ++ (line_end ++ more))))
tails_split version n (of_plan plan) (of_plan other) rest more p q e =
    let same = plans_have_own_texts version plan other rest more p.0 q.0 p.1 q.1 (p.2 ∙ sym q.2)
    (plan_tail (spelling_of_plan version plan ++ rest) (spelling_of_plan version other ++ more) e) in
    record { value = ap of_plan same.plan; behind = same.behind }
tails_split version n (of_plan plan) (of_solved solved) rest more p q e = absurd (plan_or_solved version plan solved rest more e)
tails_split version n (of_solved solved) (of_plan plan) rest more p q e = absurd (plan_or_solved version plan solved more rest (sym e))
tails_split version n (of_solved plan) (of_kind j c d) rest more p q e =
    absurd (none_some (sym (ap (row_in told_text told_shape TOLD) (sym e) ∙ no_row_in_solved plan rest) ∙ told_row j c d more q))
tails_split version n (of_solved plan) (of_cycle ids) rest more p q e =
    absurd (none_some (sym (ap (behind (codes " refused cycle")) (sym e) ∙ no_cycle_in_solved plan rest) ∙ behind_back (codes " refused cycle") (flat_map spaced_id ids ++ (line_end ++ more))))
tails_split version n (of_solved plan) (of_solved other) rest more p q e =
    let same = solved_have_own_texts plan other rest more p.0 q.0 p.1 q.1 p.2 q.2 (p.3 ∙ sym q.3)
    (plan_tail (spelling_of_solved plan ++ rest) (spelling_of_solved other ++ more) e) in
    record { value = ap of_solved same.plan; behind = same.behind }

number_of_entry : (version n : ℕ) (t : Tail) (rest : List ℕ) → n ≤ largest_id → number_in_front largest_cost (decimal n ++ tail_text version t rest) ≡ Some (n, tail_text version t rest)
number_of_entry version n t rest low = number_back largest_cost n (tail_text version t rest) (omega (arith, low)) (omega arith) (tail_ends version t rest)

forms_split : (version : ℕ) (f g : Form) (rest more : List ℕ) → GoodForm f → GoodForm g → form_text version f rest ≡ form_text version g more → IsSame f g rest more
forms_split version (as_free k a b) (as_free j c d) rest more p q e =
    let same = same_row k j a b c d rest more (sym (free_row k a b rest p) ∙ (ap (row_in free_text free_shape FREE) e ∙ free_row j c d more q)) in
    record { value = let x = same.kind in let y = same.one in let z = same.two in cc; behind = same.behind }
forms_split version (as_free k a b) (at_entry n u) rest more p q e =
    absurd (none_some (sym (free_no_number k (numbers_text (free_shape k) a b ++ (line_end ++ rest))) ∙ (ap (number_in_front largest_cost) e ∙ number_of_entry version n u more q.0)))
forms_split version (at_entry m t) (as_free j c d) rest more p q e =
    absurd (none_some (sym (free_no_number j (numbers_text (free_shape j) c d ++ (line_end ++ more))) ∙ (ap (number_in_front largest_cost) (sym e) ∙ number_of_entry version m t rest p.0)))
forms_split version (at_entry m t) (at_entry n u) rest more p q e =
    let low = p.0 in
    let low_too = q.0 in
    let here = number_splits m n (tail_text version t rest) (tail_text version u more) (omega (arith, low)) (omega (arith, low_too)) (tail_ends version t rest) (tail_ends version u more) e in
    let there = tails_split version m t u rest more p.1 (subst (λ (k : ℕ). GoodTail k u) (sym here.value) q.1) here.behind in
    record { value = let x = here.value in let y = there.value in cc; behind = there.behind }

-- ---- replies

pub replies_split : (version : ℕ) (r q : Reply) (rest more : List ℕ) → HasForm r → HasForm q → reply_text version r ++ rest ≡ reply_text version q ++ more → IsSame r q rest more
replies_split version r q rest more f g e =
    let first : reply_text version r ++ rest ≡ form_text version f.form rest = ap (λ x. reply_text version x ++ rest) (sym f.is) ∙ form_spelled version f.form rest f.good in
    let second : reply_text version q ++ more ≡ form_text version g.form more = ap (λ x. reply_text version x ++ more) (sym g.is) ∙ form_spelled version g.form more g.good in
    let same = forms_split version f.form g.form rest more f.good g.good (sym first ∙ (e ∙ second)) in
    record { value = sym f.is ∙ (ap reply_in same.value ∙ g.is); behind = same.behind }

-- ---- what was said

pub said_same : (l k : Line) (rest more : List ℕ) → IsFormedSaid l → IsFormedSaid k → spelling_of_line l ++ (codes " -> " ++ rest) ≡ spelling_of_line k ++ (codes " -> " ++ more) → IsSame l k rest more
said_same l k rest more p q e =
    let one = said_apart l rest (spelling_of_line l ++ (codes " -> " ++ rest)) p refl in
    let other = said_apart k more (spelling_of_line l ++ (codes " -> " ++ rest)) q (sym e) in
    let same = some_pair (spelling_of_line l) (spelling_of_line k) rest more (sym one ∙ other) in
    record {
      value =
          printed_one (spelling_of_line l) l k (record { fits = p.fits; said_so = p.spelled; spelled = refl }) (record { fits = q.fits; said_so = q.spelled; spelled = same.0 });
      behind = same.1;
    }

-- no line begins as a malformed one is told
no_m : (w : Word) (xs ys : List ℕ) → spelling_of_word w ++ xs ≡ codes "malformed" ++ ys → ⊥
no_m w xs ys e = apart w (ap (λ (zs : List ℕ). get_or zs 0 0) e)
  where
    apart : (w : Word) → get_or (spelling_of_word w ++ xs) 0 0 ≡ 109 → ⊥
    apart named.Delay h = omega (arith, h)
    apart named.Event h = omega (arith, h)
    apart named.Activity h = omega (arith, h)
    apart named.Pass h = omega (arith, h)
    apart named.Recall h = omega (arith, h)
    apart named.Keep h = omega (arith, h)
    apart named.Drop h = omega (arith, h)
    apart named.First h = omega (arith, h)
    apart named.Now h = omega (arith, h)
    apart named.Cancel h = omega (arith, h)
    apart named.Restore h = omega (arith, h)
    apart named.Lock h = omega (arith, h)
    apart named.Unlock h = omega (arith, h)
    apart named.Time h = omega (arith, h)
    apart named.Cost h = omega (arith, h)
    apart named.Read h = omega (arith, h)
    apart named.Plan h = omega (arith, h)
    apart named.Solve h = omega (arith, h)
    apart named.Adopt h = omega (arith, h)
    apart named.Carry h = omega (arith, h)

pub malformed_is_no_line : (l : Line) (rest more : List ℕ) → IsFormedSaid l → spelling_of_line l ++ (codes " -> " ++ rest) ≡ codes "malformed" ++ more → ⊥
unfolding spelling_of_line
malformed_is_no_line l rest more formed e =
    let b = begins l in
    let spelled : spelling_of_line l ≡ spelling_of_word b.first ++ flat_map spaced b.rest = ap spelling_of_parts b.are in
    no_m b.first (flat_map spaced b.rest ++ (codes " -> " ++ rest)) more
    (sym (append_assoc (spelling_of_word b.first) (flat_map spaced b.rest) (codes " -> " ++ rest)) ∙ (ap (λ xs. xs ++ (codes " -> " ++ rest)) (sym spelled) ∙ e))

-- ---- items

-- the item's number is not too large, what was said is in print, and the reply is one of the forms
abbrev pub GoodItem : LogItem → Type 0
GoodItem (Malformed line) = line ≤ largest_id
GoodItem (Answered line said r) = (line ≤ largest_id) × IsFormedSaid said × HasForm r

pub item_good : (x : LogItem) → IsSpelledItem x → FitsItem x → IsHeldItem x → GoodItem x
item_good (Malformed line) spelled fits held = fits
item_good (Answered line said r) spelled fits held =
    (fits.0, record { spelled = spelled.0; fits = fits.1 }, form_of r spelled.1 fits.2 held)

malformed_spelled : (version line : ℕ) (rest : List ℕ) → item_text version (Malformed line) ++ rest ≡ decimal line ++ (codes " malformed" ++ (line_end ++ rest))
malformed_spelled version line rest = ap (λ xs. xs ++ rest) (malformed_text version line) ∙ three (decimal line) (codes " malformed") line_end rest

answered_spelled : (version line : ℕ) (said : Line) (r : Reply) (rest : List ℕ) →
    item_text version (Answered line said r) ++ rest ≡ decimal line ++ (codes " " ++ (spelling_of_line said ++ (codes " -> " ++ (reply_text version r ++ rest))))
unfolding item_text
answered_spelled version line said r rest = simp (append_assoc, append-nil)

pub space_same : (xs ys : List ℕ) → codes " " ++ xs ≡ codes " " ++ ys → xs ≡ ys
space_same xs ys e = cc

malformed_same : (xs ys : List ℕ) → codes " malformed" ++ xs ≡ codes " malformed" ++ ys → xs ≡ ys
malformed_same xs ys e = cc

malformed_or_answered : (version line other : ℕ) (said : Line) (r : Reply) (rest more : List ℕ) → GoodItem (Malformed line) → GoodItem (Answered other said r) →
    item_text version (Malformed line) ++ rest ≡ item_text version (Answered other said r) ++ more → ⊥
malformed_or_answered version line other said r rest more good also e =
    let low = good in
    let low_too = also.0 in
    let here = number_splits line other (codes " malformed" ++ (line_end ++ rest)) (codes " " ++ (spelling_of_line said ++ (codes " -> " ++ (reply_text version r ++ more))))
    (omega (arith, low)) (omega (arith, low_too)) refl refl (sym (malformed_spelled version line rest) ∙ (e ∙ answered_spelled version other said r more)) in
    malformed_is_no_line said (reply_text version r ++ more) (line_end ++ rest) also.1
    (sym (space_same (codes "malformed" ++ (line_end ++ rest)) (spelling_of_line said ++ (codes " -> " ++ (reply_text version r ++ more))) here.behind))

pub item_splits : (version : ℕ) → Splits (item_text version) GoodItem
item_splits version (Malformed line) (Malformed other) rest more good also e =
    let low = good in
    let low_too = also in
    let here = number_splits line other (codes " malformed" ++ (line_end ++ rest)) (codes " malformed" ++ (line_end ++ more)) (omega (arith, low)) (omega (arith, low_too)) refl refl
    (sym (malformed_spelled version line rest) ∙ (e ∙ malformed_spelled version other more)) in
    record { value = ap Malformed here.value; behind = end_same rest more (malformed_same (line_end ++ rest) (line_end ++ more) here.behind) }
item_splits version (Malformed line) (Answered other said r) rest more good also e = absurd (malformed_or_answered version line other said r rest more good also e)
item_splits version (Answered line said r) (Malformed other) rest more good also e = absurd (malformed_or_answered version other line said r more rest also good (sym e))
item_splits version (Answered line said r) (Answered other asked q) rest more good also e =
    let low = good.0 in
    let low_too = also.0 in
    let first : List ℕ = spelling_of_line said ++ (codes " -> " ++ (reply_text version r ++ rest)) in
    let second : List ℕ = spelling_of_line asked ++ (codes " -> " ++ (reply_text version q ++ more)) in
    let here = number_splits line other (codes " " ++ first) (codes " " ++ second) (omega (arith, low)) (omega (arith, low_too)) refl refl
    (sym (answered_spelled version line said r rest) ∙ (e ∙ answered_spelled version other asked q more)) in
    let there = said_same said asked (reply_text version r ++ rest) (reply_text version q ++ more) good.1 also.1 (space_same first second here.behind) in
    let told_so = replies_split version r q rest more good.2 also.2 there.behind in
    record { value = let x = here.value in let y = there.value in let z = told_so.value in cc; behind = told_so.behind }

-- ---- stops

pub stop_splits : (s t : FeedStop) (rest more : List ℕ) → stop_text s ++ rest ≡ stop_text t ++ more → IsSame s t rest more
unfolding behind stop_text
stop_splits stop.End stop.End rest more e = record { value = refl; behind = cc }
stop_splits stop.Fault stop.Fault rest more e = record { value = refl; behind = cc }
stop_splits stop.Long stop.Long rest more e = record { value = refl; behind = cc }
stop_splits stop.End stop.Fault rest more e = absurd (none_some (sym (ap (behind (codes "end")) e)))
stop_splits stop.End stop.Long rest more e = absurd (none_some (sym (ap (behind (codes "end")) e)))
stop_splits stop.Fault stop.End rest more e = absurd (none_some (ap (behind (codes "end")) e))
stop_splits stop.Fault stop.Long rest more e = absurd (none_some (sym (ap (behind (codes "fault")) e)))
stop_splits stop.Long stop.End rest more e = absurd (none_some (ap (behind (codes "end")) e))
stop_splits stop.Long stop.Fault rest more e = absurd (none_some (ap (behind (codes "fault")) e))
