-- Entry numbers, lines and names in a log to which one item is appended.
use Rattle.std.proofs.Common.{◌≡◌, ℕ, ◌+◌, ◌<◌, ◌≤◌, true, false, cond, eqb, List, [], ◌∷◌, ◌++◌, refl, ap, arith, inl, inr}
use Rattle.std.specs.Prelude.{count_by}
use Rattle.std.proofs.lemmas.Bool.{cases_lt, eqb-true, eq-eqb}
use Rattle.std.proofs.lemmas.List.Sums.{sum_by_push, sum_by-cons}
use Rattle.dm_cert.specs.declared.replies.LogItem.{LogItem}
use Rattle.dm_cert.specs.Logs.{Kind, free, told, entered, kind_of, line_of, number_after, Follows, IsInOrder, is_entered, names}

-- an entry number in an item is at most this
abbrev pub IsWithin : ℕ → Kind → Type 0
IsWithin n free = Unit {0}
IsWithin n (told m) = m ≤ n
IsWithin n (entered m) = m ≤ n

-- the line and the entry number that are last, where these were last before the items
abbrev pub last_line : ℕ → List LogItem → ℕ
last_line line [] = line
last_line line (answered ∷ items) = last_line (line_of answered) items

abbrev pub last_number : ℕ → List LogItem → ℕ
last_number last [] = last
last_number last (answered ∷ items) = last_number (number_after last (kind_of answered)) items

pub last_number_push : (last : ℕ) (items : List LogItem) (x : LogItem) → last_number last (items ++ x ∷ []) ≡ number_after (last_number last items) (kind_of x)
last_number_push last [] x = refl
last_number_push last (y ∷ items) x = last_number_push (number_after last (kind_of y)) items x

-- ---- order

-- an item that follows is in order behind the others, and what is in order is so without its last item
pub order_push : (line last : ℕ) (items : List LogItem) (x : LogItem) → IsInOrder line last items → last_line line items < line_of x → Follows (last_number last items) (kind_of x) → IsInOrder line last (items ++ x ∷ [])
order_push line last [] x o l f = (l, f, tt)
order_push line last (y ∷ items) x o l f = (o.0, o.1, order_push (line_of y) (number_after last (kind_of y)) items x o.2 l f)

pub order_front : (line last : ℕ) (items : List LogItem) (x : LogItem) → IsInOrder line last (items ++ x ∷ []) → IsInOrder line last items
order_front line last [] x o = tt
order_front line last (y ∷ items) x o = (o.0, o.1, order_front (line_of y) (number_after last (kind_of y)) items x o.2)

pub order_last : (line last : ℕ) (items : List LogItem) (x : LogItem) → IsInOrder line last (items ++ x ∷ []) → Follows (last_number last items) (kind_of x)
order_last line last [] x o = o.1
order_last line last (y ∷ items) x o = order_last (line_of y) (number_after last (kind_of y)) items x o.2

after_no_less : (last : ℕ) (k : Kind) → Follows last k → last ≤ number_after last k
after_no_less last free f = omega arith
after_no_less last (told n) f = f
after_no_less last (entered n) f = omega arith

-- numbers never fall
pub last_no_less : (line last : ℕ) (items : List LogItem) → IsInOrder line last items → last ≤ last_number last items
last_no_less line last [] o = omega arith
last_no_less line last (y ∷ items) o =
    let here : last ≤ number_after last (kind_of y) = after_no_less last (kind_of y) o.1 in
    let later : number_after last (kind_of y) ≤ last_number (number_after last (kind_of y)) items = last_no_less (line_of y) (number_after last (kind_of y)) items o.2 in
    omega arith

-- a number within the number that comes after it
pub within_after : (last n : ℕ) (k : Kind) → number_after last k ≤ n → IsWithin n k
within_after last n free le = tt
within_after last n (told m) le = le
within_after last n (entered m) le = le

pub after_within : (last n : ℕ) (k : Kind) → last ≤ n → IsWithin n k → number_after last k ≤ n
after_within last n free le w = le
after_within last n (told m) le w = w
after_within last n (entered m) le w = w

-- ---- names

-- how often one item names the entry
abbrev pub one_name : ℕ → Kind → ℕ
one_name n k = cond (is_entered n k) 1 0

pub count_push : (n : ℕ) (items : List LogItem) (x : LogItem) → count_by (names n) (items ++ x ∷ []) ≡ count_by (names n) items + one_name n (kind_of x)
count_push n items x = sum_by_push (λ y. cond (names n y) 1 0) items x

pub count-cons : (n : ℕ) (x : LogItem) (items : List LogItem) → count_by (names n) (x ∷ items) ≡ one_name n (kind_of x) + count_by (names n) items
count-cons n x items = sum_by-cons (λ y. cond (names n y) 1 0) x items

pub eqb-other : (m n : ℕ) → (m ≡ n → ⊥) → eqb m n ≡ false
eqb-other m n h = elim (eqb m n) as (λ b. eqb m n ≡ b → eqb m n ≡ false) [ true ↦ λ e. absurd (h (eqb-true m n e)) | false ↦ λ e. e ] refl

pub names_itself : (n : ℕ) → one_name n (entered n) ≡ 1
names_itself n = rw (eq-eqb n n refl) refl

pub names_no_other : (n m : ℕ) → (m ≡ n → ⊥) → one_name n (entered m) ≡ 0
names_no_other n m h = rw (eqb-other m n h) refl

-- an item that names an entry has its number
pub named_is : (n : ℕ) (k : Kind) → 0 < one_name n k → k ≡ entered n
named_is n free lt = absurd (omega arith)
named_is n (told m) lt = absurd (omega arith)
named_is n (entered m) lt = elim (eqb m n) as (λ b. eqb m n ≡ b → entered m ≡ entered n) [
  | true ↦ λ e. ap entered (eqb-true m n e)
  | false ↦ λ e. absurd (let none : one_name n (entered m) ≡ 0 = rw e refl in omega arith)
] refl

-- an entry that is named among items in order has a number that is not above the last
pub named_no_more : (n line last : ℕ) (items : List LogItem) → IsInOrder line last items → 0 < count_by (names n) items → n ≤ last_number last items
named_no_more n line last [] o lt = absurd (omega arith)
named_no_more n line last (y ∷ items) o lt =
    elim (cases_lt 0 (one_name n (kind_of y))) [
      | inl here ↦
          let is : kind_of y ≡ entered n = named_is n (kind_of y) here in
          let number : number_after last (kind_of y) ≡ n = ap (number_after last) is in
          let later : number_after last (kind_of y) ≤ last_number (number_after last (kind_of y)) items = last_no_less (line_of y) (number_after last (kind_of y)) items o.2 in
          omega arith
      | inr no_more ↦
          let count : count_by (names n) (y ∷ items) ≡ one_name n (kind_of y) + count_by (names n) items = count-cons n y items in
          named_no_more n (line_of y) (number_after last (kind_of y)) items o.2 (omega arith)
    ]

-- an entry above all numbers is not named
pub unnamed_above : (n line last : ℕ) (items : List LogItem) → IsInOrder line last items → last_number last items < n → count_by (names n) items ≡ 0
unnamed_above n line last items o lt =
    elim (cases_lt 0 (count_by (names n) items)) [
      | inl some ↦ let le : n ≤ last_number last items = named_no_more n line last items o some in absurd (omega arith)
      | inr none ↦ omega arith
    ]
