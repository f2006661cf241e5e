-- How a round's passes come to the table of a closed server.
use Rattle.std.proofs.Common.{◌≡◌, ◌≢◌, ℕ, zero, suc, ◌==◌, ◌+◌, ◌<◌, ◌≤◌, inl, inr, Bool, true, false, cond, List, [], ◌∷◌, ◌++◌, length, Option, Some, refl, sym, ap, subst, ◌∙◌, arith, zero-add}
use Rattle.std.specs.Borrow.{Bor}
use Rattle.std.specs.Prelude.{Result}
use Rattle.std.specs.declared.alloc.AllocError.{AllocError}
use Rattle.std.proofs.lemmas.Bool.{cases_eq, eq-eqb, ne_eqb, cases_lt}
use Rattle.std.proofs.lemmas.List.FromFn.{map-range_with_len_more}
use Rattle.std.proofs.lemmas.List.Sums.{sum_by-append, sum_by-cons}
use Rattle.dm_network.specs.Net.{Net}
use Rattle.dm_rows.specs.Rows.{RowsValue}
use Rattle.dm_rows.specs.History.{IsLegal}
use Rattle.dm_rows.specs.declared.rows.Snapshot.{Snapshot}
use Rattle.dm_desk.specs.declared.searches.Search.{Search}
use Rattle.dm_parts.specs.declared.kinds.AnyPlan.{AnyPlan}
use Rattle.dm_desk.specs.Planning.{PlansUnder}
use Rattle.std.proofs.lemmas.Option.{slice_get_within}
use Rattle.dm_crew.specs.Inside.Seats.{base_in}
use Rattle.dm_rows.specs.declared.messages.Entry.{Entry}
use Rattle.dm_cert.specs.declared.replies.FeedLog.{FeedLog}
use Rattle.dm_desk.specs.Desks.{DeskValue}
use Rattle.dm_desk.specs.Answered.{times}
use Rattle.dm_rounds.specs.Rounds.{AnswersFeeds}
use Rattle.dm_server.specs.declared.kept.Base.{Base}
use Rattle.dm_server.specs.Answers.{base_of}
use Rattle.dm_table.specs.Value.{TableValue, IsTable}
use Rattle.dm_turn.specs.declared.view.Numbered.{Numbered}
use Rattle.dm_turn.specs.Passes.{PassValue, AreAllAbove, times as times_of}
use Rattle.dm_crew.specs.Passes.{setting_of, numbers_in, desk_of, IsSamePass}
use Rattle.dm_crew.specs.AtOnce.{numbers_to, day_desk, AnswersDay}

-- ---- what a planner plans for

-- a planner for one base is one for another that is the same
pub plans_at : (pre : Bor Snapshot → Search → Type 0) (post : Bor Snapshot → Search → Result AnyPlan AllocError → Type 0) (plans : ℕ) (base other : Base) → other ≡ base →
    PlansUnder pre post (setting_of plans base) → PlansUnder pre post (setting_of plans other)
plans_at pre post plans base other is under = subst (λ (b : Base). PlansUnder pre post (setting_of plans b)) (sym is) under

-- ---- the numbers up to one

one_more_number : (n : ℕ) → numbers_to (n + 1) ≡ numbers_to n ++ (n + 1) ∷ []
one_more_number n = map-range_with_len_more (λ k. k + 1) 0 n n (zero-add n)

abbrev one_where : Bool → ℕ
one_where b = cond b 1 0

abbrev one_if : ℕ → ℕ → ℕ
one_if n m = one_where (m == n)

if_is : (b c : Bool) → b ≡ c → one_where b ≡ one_where c
if_is b c e = ap one_where e

is_one : (n m : ℕ) → m ≡ n → one_if n m ≡ 1
is_one n m same = if_is (m == n) true (eq-eqb m n same)

is_none : (n m : ℕ) → m ≢ n → one_if n m ≡ 0
is_none n m other = if_is (m == n) false (ne_eqb m n other)

with_last : (n m : ℕ) (numbers : List ℕ) → times n (numbers ++ m ∷ []) ≡ times n numbers + one_if n m
with_last n m numbers = omega (arith, sum_by-append (one_if n) numbers (m ∷ []), sum_by-cons (one_if n) m [])

one_more : (len n : ℕ) → times n (numbers_to (suc len)) ≡ times n (numbers_to len) + one_if n (len + 1)
one_more len n =
    let size : suc len ≡ len + 1 = omega arith in
    ap (times n) (ap numbers_to size ∙ one_more_number len) ∙ with_last n (len + 1) (numbers_to len)

none_above : (len n : ℕ) → len < n → times n (numbers_to len) ≡ 0
none_above zero n low = refl
none_above (suc len) n low = omega (arith, one_more len n, is_none n (len + 1) (λ e. omega arith), none_above len n (omega arith))

pub each_once : (len n : ℕ) → 0 < n → n ≤ len → times n (numbers_to len) ≡ 1
each_once zero n some low = absurd (omega arith)
each_once (suc len) n some low =
    elim (cases_eq (len + 1) n) [
      | inl same ↦ omega (arith, one_more len n, is_one n (len + 1) same, none_above len n (omega arith))
      | inr other ↦
          let below : n ≤ len = elim (cases_lt len n) [ inl lt ↦ absurd (other (omega arith)) | inr le ↦ le ] in
          omega (arith, one_more len n, is_none n (len + 1) other, each_once len n some below)
    ]

none_zero : (len : ℕ) → times 0 (numbers_to len) ≡ 0
none_zero zero = refl
none_zero (suc len) = omega (arith, one_more len 0, is_none 0 (len + 1) (λ e. omega arith), none_zero len)

-- the numbers in a list of entries stand there as often as the entries do
numbers_stand : (n : ℕ) (mine : List Numbered) → times n (numbers_in mine) ≡ times_of n mine
numbers_stand n [] = refl
numbers_stand n (m ∷ mine) = omega (arith, numbers_stand n mine, sum_by-cons (one_if n) m.number (numbers_in mine), sum_by-cons (λ (x : Numbered). one_where (x.number == n)) m mine)

all_numbers : (seen : List Entry) (mine : List Numbered) → AreAllAbove 0 seen mine → (n : ℕ) → times n (numbers_in mine) ≡ times n (numbers_to (length seen))
all_numbers seen mine all n =
    elim (cases_lt 0 n) [
      | inl some ↦
          elim (cases_lt (length seen) n) [
            | inl above ↦ numbers_stand n mine ∙ (all.later n above ∙ sym (none_above (length seen) n above))
            | inr below ↦ numbers_stand n mine ∙ (all.once n some below ∙ sym (each_once (length seen) n some below))
          ]
      | inr none ↦
          let zero_is : n ≡ 0 = omega arith in
          numbers_stand n mine ∙ (all.opened n none ∙ sym (ap (λ (k : ℕ). times k (numbers_to (length seen))) zero_is ∙ none_zero (length seen)))
    ]

-- ---- the day

-- a history without entries is legal
pub none_legal : (base : Base) → IsLegal base.network base.start []
none_legal base = record { size = omega arith; accepted = λ n entry r at. absurd (omega (arith, slice_get_within [] n entry at)) }

pub base_is : (there : Option Base) (base : Base) → there ≡ Some base → base_in there ≡ base
base_is there base is = ap base_in is

abbrev whole_desk : ℕ → Base → List Entry → DeskValue
whole_desk plans base seen = record { setting = setting_of plans base; seen = seen; mine = numbers_to (length seen) }

-- a desk that has made the same numbers as often answers as well
as_well : {S : Type 0} (left : S → Option (List ℕ)) (is_sound : S → Type 0) (feeds : List (Option S)) (batch : ℕ) (before now other : DeskValue) (logs : List FeedLog) → other.setting ≡ now.setting → other.seen ≡ now.seen → ((n : ℕ) → times n now.mine ≡ times n other.mine)
    → AnswersFeeds left is_sound feeds batch before now logs → AnswersFeeds left is_sound feeds batch before (record now { mine = other.mine }) logs
as_well left is_sound feeds batch before now other logs setting seen mine a = record {
  goes_on = record { setting = a.goes_on.setting; later = a.goes_on.later; legal = a.goes_on.legal };
  as_many = a.as_many;
  logs_for = a.logs_for;
  are_true = a.are_true;
  spelled = a.spelled;
  named = λ n. a.named n ∙ mine n;
  rounds = a.rounds;
}

pub answers_day : {S : Type 0} (left : S → Option (List ℕ)) (is_sound : S → Type 0) (net : Net) (rows : RowsValue) (price plans : ℕ) (feeds : List (Option S)) (batch : ℕ) (first last : PassValue Base) (table : TableValue) (logs : List FeedLog) → first.seen ≡ [] → first.mine ≡ [] → first.opening ≡ 0
    → first.base ≡ Some (record { network = net; start = rows; penalty = price }) → IsSamePass first last → last.base ≡ Some (base_of table) → table.history ≡ last.seen → IsTable table → AreAllAbove last.opening last.seen last.mine
    → AnswersFeeds left is_sound feeds batch (desk_of plans (record { network = net; start = rows; penalty = price }) first) (desk_of plans (record { network = net; start = rows; penalty = price }) last) logs → AnswersDay left is_sound net rows price plans feeds batch table logs
answers_day left is_sound net rows price plans feeds batch first last table logs none_seen none_made opened based same based_last history is_table all answers =
    let base : Base = record { network = net; start = rows; penalty = price } in
    let some : Some (base_of table) ≡ Some base = sym based_last ∙ (ap (λ (p : PassValue Base). p.base) same ∙ based) in
    let is : base_of table ≡ base = cc some in
    let opening : last.opening ≡ 0 = ap (λ (p : PassValue Base). p.opening) same ∙ opened in
    let numbers = all_numbers last.seen last.mine (subst (λ (n : ℕ). AreAllAbove n last.seen last.mine) opening all) in
    let whole = as_well left is_sound feeds batch (desk_of plans base first) (desk_of plans base last) (whole_desk plans base last.seen) logs refl refl numbers answers in
    let from_start : AnswersFeeds left is_sound feeds batch (day_desk net rows price plans) (whole_desk plans base last.seen) logs =
    subst (λ (l : List Entry). AnswersFeeds left is_sound feeds batch (record { setting = setting_of plans base; seen = l; mine = [] }) (whole_desk plans base last.seen) logs) none_seen
    (subst (λ (m : List Numbered). AnswersFeeds left is_sound feeds batch (record { setting = setting_of plans base; seen = first.seen; mine = numbers_in m }) (whole_desk plans base last.seen) logs) none_made whole) in
    record {
      network = ap (λ (b : Base). b.network) is;
      start = ap (λ (b : Base). b.start) is;
      penalty = ap (λ (b : Base). b.penalty) is;
      is_table = is_table;
      answers =
          subst (λ (b : Base). AnswersFeeds left is_sound feeds batch (day_desk net rows price plans) (whole_desk plans b table.history) logs) (sym is)
          (subst (λ (l : List Entry). AnswersFeeds left is_sound feeds batch (day_desk net rows price plans) (whole_desk plans base l) logs) (sym history) from_start);
    }
