-- The grammar relates at most one answer to the bytes of a file.
use Rattle.std.proofs.Common.{◌≡◌, ◌<◌, ◌+◌, ◌⊎◌, ℕ, suc, cond, eqb, List, [], ◌∷◌, ◌++◌, length, get_or, Option, Some, None, Ok, Err, Result, refl, sym, ap, ◌∙◌, inl, inr, arith}
use Rattle.std.specs.List.{AllByRecursion}
use Rattle.std.specs.Result.{IfErr, IfOk, MatchResult}
use Rattle.std.proofs.lemmas.Bool.{true≢false}
use Rattle.dm_base.specs.declared.rows.ActKind.{ActKind}
use Rattle.dm_base.specs.declared.rows.ActKind.TheVariants as act
use Rattle.dm_base.specs.declared.rows.ActRow.{ActRow}
use Rattle.dm_base.specs.declared.rows.DelayRow.{DelayRow}
use Rattle.dm_base.specs.declared.rows.EventKind.{EventKind}
use Rattle.dm_base.specs.declared.rows.EventKind.TheVariants as event
use Rattle.dm_base.specs.declared.rows.EventRow.{EventRow}
use Rattle.dm_lintim.specs.declared.columns.Column.{Column}
use Rattle.dm_lintim.specs.declared.fault.FileFault.{FileFault}
use Rattle.dm_lintim.specs.declared.fault.FileKind.{FileKind}
use Rattle.dm_lintim.specs.declared.fault.FileKind.TheVariants as kind
use Rattle.dm_lintim.specs.Files.{AreRows, BreaksRecord, IsActivityRow, IsDelayRow, IsEventRow, IsIdRow, IsFirstFault, IsGood, IsNumber, IsWord, IsActivityWord, IsEventWord, IsNoWord, ReadsActivities, ReadsDelays, ReadsEvents, ReadsFile, ReadsIds, RefusesBy, delay_columns, no_memory, RefusesField, RefusesFirst, RefusesNumber, RefusesWord, TakesBy, TakesField, Use, activity_word, event_word, id_columns, largest_of, passed_over, thousandths, use_of, whole, word}
use Rattle.dm_lintim.specs.Pieces.{counted_records}

-- a refused number, by what it is refused for
number_cases : (F : Type 0) (v : ℕ) (c : Column) (k : FileKind) → RefusesNumber F v c k
    → ((k ≡ kind.BadNumber c) × (F → ⊥)) ⊎ ((k ≡ kind.TooLarge c) × F × (largest_of c < v))
number_cases F v c (kind.FieldCount n) r = absurd r
number_cases F v c (kind.BadNumber d) r = inl (ap kind.BadNumber r.0, r.1)
number_cases F v c (kind.TooLarge d) r = inr (ap kind.TooLarge r.0, r.1, r.2)
number_cases F v c kind.UnknownType r = absurd r
number_cases F v c kind.ByteOrderMark r = absurd r
number_cases F v c kind.OutOfMemory r = absurd r

word_case : (K : Type 0) (k : FileKind) → RefusesWord K k → (k ≡ kind.UnknownType) × (K → ⊥)
word_case K (kind.FieldCount n) r = absurd r
word_case K (kind.BadNumber d) r = absurd r
word_case K (kind.TooLarge d) r = absurd r
word_case K kind.UnknownType r = (refl, r)
word_case K kind.ByteOrderMark r = absurd r
word_case K kind.OutOfMemory r = absurd r

number_one : (F : Type 0) (v : ℕ) (c : Column) (j k : FileKind) → RefusesNumber F v c j → RefusesNumber F v c k → j ≡ k
number_one F v c j k r s =
    elim (number_cases F v c j r) [
      | inl a ↦ elim (number_cases F v c k s) [ inl b ↦ a.0 ∙ sym b.0 | inr b ↦ absurd (a.1 b.1) ]
      | inr a ↦ elim (number_cases F v c k s) [ inl b ↦ absurd (b.1 a.1) | inr b ↦ a.0 ∙ sym b.0 ]
    ]

number_not : (F : Type 0) (v : ℕ) (c : Column) (k : FileKind) → IsNumber F v (largest_of c) → RefusesNumber F v c k → ⊥
number_not F v c k t r = elim (number_cases F v c k r) [ inl a ↦ a.1 t.0 | inr a ↦ omega (arith, a.2, t.1) ]

by_one : (u : Use) (K : List ℕ → Type 0) (c : Column) (f : List ℕ) (j k : FileKind) → RefusesBy u K c f j → RefusesBy u K c f k → j ≡ k
by_one whole K c f j k r s = number_one _ _ c j k r s
by_one thousandths K c f j k r s = number_one _ _ c j k r s
by_one word K c f j k r s = (word_case (K f) j r).0 ∙ sym (word_case (K f) k s).0
by_one passed_over K c f j k r s = absurd r

by_not : (u : Use) (K : List ℕ → Type 0) (c : Column) (f : List ℕ) (k : FileKind) → TakesBy u K c f → RefusesBy u K c f k → ⊥
by_not whole K c f k t r = number_not _ _ c k t r
by_not thousandths K c f k t r = number_not _ _ c k t r
by_not word K c f k t r = (word_case (K f) k r).1 t
by_not passed_over K c f k t r = r

field_one : (K : List ℕ → Type 0) (c : Option Column) (f : List ℕ) (j k : FileKind) → RefusesField K c f j → RefusesField K c f k → j ≡ k
field_one K None f j k r s = absurd r
field_one K (Some c) f j k r s = by_one (use_of c) K c f j k r s

field_not : (K : List ℕ → Type 0) (c : Option Column) (f : List ℕ) (k : FileKind) → TakesField K c f → RefusesField K c f k → ⊥
field_not K None f k t r = r
field_not K (Some c) f k t r = by_not (use_of c) K c f k t r

first_one : (K : List ℕ → Type 0) (cs : List (Option Column)) (fs : List (List ℕ)) (j k : FileKind) → RefusesFirst K cs fs j → RefusesFirst K cs fs k → j ≡ k
first_one K [] fs j k r s = absurd r
first_one K (c ∷ cs) [] j k r s = absurd r
first_one K (c ∷ cs) (f ∷ fs) j k (inl r) (inl s) = field_one K c f j k r s
first_one K (c ∷ cs) (f ∷ fs) j k (inl r) (inr s) = absurd (field_not K c f j s.0 r)
first_one K (c ∷ cs) (f ∷ fs) j k (inr r) (inl s) = absurd (field_not K c f k r.0 s)
first_one K (c ∷ cs) (f ∷ fs) j k (inr r) (inr s) = first_one K cs fs j k r.1 s.1

first_not : (K : List ℕ → Type 0) (cs : List (Option Column)) (fs : List (List ℕ)) (k : FileKind) → IsGood K cs fs → RefusesFirst K cs fs k → ⊥
first_not K [] fs k good r = r
first_not K (c ∷ cs) [] k good r = r
first_not K (c ∷ cs) (f ∷ fs) k good (inl r) = field_not K c f k good.0 r
first_not K (c ∷ cs) (f ∷ fs) k good (inr r) = first_not K cs fs k good.1 r.1

good-length : (K : List ℕ → Type 0) (cs : List (Option Column)) (fs : List (List ℕ)) → IsGood K cs fs → length fs ≡ length cs
good-length K [] [] good = refl
good-length K [] (f ∷ fs) good = absurd good
good-length K (c ∷ cs) [] good = absurd good
good-length K (c ∷ cs) (f ∷ fs) good = ap suc (good-length K cs fs good.1)

breaks_one : (K : List ℕ → Type 0) (cs : List (Option Column)) (fs : List (List ℕ)) (j k : FileKind) → BreaksRecord K cs fs j → BreaksRecord K cs fs k → j ≡ k
breaks_one K cs fs j k (inl r) (inl s) = r.0 ∙ sym s.0
breaks_one K cs fs j k (inl r) (inr s) = absurd (r.1 s.0)
breaks_one K cs fs j k (inr r) (inl s) = absurd (s.1 r.0)
breaks_one K cs fs j k (inr r) (inr s) = first_one K cs fs j k r.1 s.1

breaks_not : (K : List ℕ → Type 0) (cs : List (Option Column)) (fs : List (List ℕ)) (k : FileKind) → IsGood K cs fs → BreaksRecord K cs fs k → ⊥
breaks_not K cs fs k good (inl r) = r.1 (good-length K cs fs good)
breaks_not K cs fs k good (inr r) = first_not K cs fs k good r.1

all_at : (P : List (List ℕ) → Type 0) (before : List (List (List ℕ))) (x : List (List ℕ)) (after : List (List (List ℕ))) → AllByRecursion P (before ++ (x ∷ after)) → P x
all_at P [] x after h = h.0
all_at P (b ∷ bs) x after h = all_at P bs x after h.1

-- the first that breaks a rule stands at one place
same_place : (P : List (List ℕ) → Type 0) (b d : List (List (List ℕ))) (x y : List (List ℕ)) (a e : List (List (List ℕ)))
    → b ++ (x ∷ a) ≡ d ++ (y ∷ e) → AllByRecursion P b → AllByRecursion P d → (P x → ⊥) → (P y → ⊥) → (length b ≡ length d) × (x ≡ y)
same_place P [] [] x y a e eq hb hd nx ny = (refl, cc eq)
same_place P [] (z ∷ d) x y a e eq hb hd nx ny = let same : z ≡ x = cc eq in absurd (nx (rw same at hd.0))
same_place P (z ∷ b) [] x y a e eq hb hd nx ny = let same : z ≡ y = cc eq in absurd (ny (rw same at hb.0))
same_place P (z ∷ b) (w ∷ d) x y a e eq hb hd nx ny =
    let rest : b ++ (x ∷ a) ≡ d ++ (y ∷ e) = cc eq in
    let (lengths, places) = same_place P b d x y a e rest hb.1 hd.1 nx ny in
    (ap suc lengths, places)

same_fault : (f g : FileFault) → f.number ≡ g.number → f.kind ≡ g.kind → f ≡ g
same_fault f g p q = λ i. record { number = p i; kind = q i }

fault_one : (K : List ℕ → Type 0) (cs : List (Option Column)) (records : List (List (List ℕ))) (f g : FileFault)
    → IsFirstFault K cs records f → IsFirstFault K cs records g → f ≡ g
fault_one K cs records f g r s =
    let (lengths, places) =
    same_place (IsGood K cs) r.before s.before r.broken s.broken r.after s.after (sym r.records_are ∙ s.records_are) r.good s.good
    (λ good. breaks_not K cs r.broken f.kind good r.breaks) (λ good. breaks_not K cs s.broken g.kind good s.breaks) in
    same_fault f g (r.number ∙ ap (λ (n : ℕ). n + 1) lengths ∙ sym s.number) (breaks_one K cs s.broken f.kind g.kind (rw places at r.breaks) s.breaks)

module _ {R : Type 0} (K : List ℕ → Type 0) (IsRow : List (Option Column) → List (List ℕ) → R → Type 0) (cs : List (Option Column))
    (row_good : (fs : List (List ℕ)) (x : R) → IsRow cs fs x → IsGood K cs fs)
    (row_one : (fs : List (List ℕ)) (x y : R) → IsRow cs fs x → IsRow cs fs y → x ≡ y) where
  rows_good : (rs : List (List (List ℕ))) (xs : List R) → AreRows IsRow cs rs xs → AllByRecursion (IsGood K cs) rs
  rows_good [] [] rows = tt
  rows_good [] (x ∷ xs) rows = absurd rows
  rows_good (r ∷ rs) [] rows = absurd rows
  rows_good (r ∷ rs) (x ∷ xs) rows = (row_good r x rows.0, rows_good rs xs rows.1)

  rows_one : (rs : List (List (List ℕ))) (xs ys : List R) → AreRows IsRow cs rs xs → AreRows IsRow cs rs ys → xs ≡ ys
  rows_one [] [] [] a b = refl
  rows_one [] [] (y ∷ ys) a b = absurd b
  rows_one [] (x ∷ xs) ys a b = absurd a
  rows_one (r ∷ rs) [] ys a b = absurd a
  rows_one (r ∷ rs) (x ∷ xs) [] a b = absurd b
  rows_one (r ∷ rs) (x ∷ xs) (y ∷ ys) a b = λ i. row_one r x y a.0 b.0 i ∷ rows_one rs xs ys a.1 b.1 i

  rows_not : (rs : List (List (List ℕ))) (xs : List R) (f : FileFault) → AreRows IsRow cs rs xs → IsFirstFault K cs rs f → ⊥
  rows_not rs xs f rows first =
      let good = rows_good rs xs rows in
      breaks_not K cs first.broken f.kind (all_at (IsGood K cs) first.before first.broken first.after (rw first.records_are at good)) first.breaks

  pub file_one : (bytes : List ℕ) (a b : Result (List R) FileFault) → ReadsFile K IsRow cs bytes a → ReadsFile K IsRow cs bytes b → a ≡ b
  file_one bytes (Ok xs) (Ok ys) a b = ap Ok (rows_one (counted_records bytes) xs ys a.1 b.1)
  file_one bytes (Ok xs) (Err g) a (inl b) = absurd (true≢false (sym b.0 ∙ a.0))
  file_one bytes (Ok xs) (Err g) a (inr b) = absurd (rows_not (counted_records bytes) xs g a.1 b.1)
  file_one bytes (Err f) (Ok ys) (inl a) b = absurd (true≢false (sym a.0 ∙ b.0))
  file_one bytes (Err f) (Ok ys) (inr a) b = absurd (rows_not (counted_records bytes) ys f b.1 a.1)
  file_one bytes (Err f) (Err g) (inl a) (inl b) = ap Err (a.1 ∙ sym b.1)
  file_one bytes (Err f) (Err g) (inl a) (inr b) = absurd (true≢false (sym a.0 ∙ b.0))
  file_one bytes (Err f) (Err g) (inr a) (inl b) = absurd (true≢false (sym b.0 ∙ a.0))
  file_one bytes (Err f) (Err g) (inr a) (inr b) = ap Err (fault_one K cs (counted_records bytes) f g a.1 b.1)

-- a type word names one kind
event_of : List ℕ → EventKind
event_of text = cond (eqb (get_or text 0 0) 100) event.Departure event.Arrival

event_of-word : (k : EventKind) → event_of (event_word k) ≡ k
unfolding event_of
event_of-word event.Departure = refl
event_of-word event.Arrival = refl

event_kind_one : (text : List ℕ) (j k : EventKind) → IsWord (event_word j) text → IsWord (event_word k) text → j ≡ k
event_kind_one text j k a b = sym (event_of-word j) ∙ ap event_of (sym a ∙ b) ∙ event_of-word k

activity_of : List ℕ → ActKind
activity_of text =
    let c = get_or text 0 0 in
    cond (eqb c 100) act.Drive (cond (eqb c 119) act.Wait (cond (eqb c 116) act.Turnaround (cond (eqb c 99) act.Change act.Headway)))

activity_of-word : (k : ActKind) → activity_of (activity_word k) ≡ k
unfolding activity_of
activity_of-word act.Drive = refl
activity_of-word act.Wait = refl
activity_of-word act.Turnaround = refl
activity_of-word act.Change = refl
activity_of-word act.Headway = refl

activity_kind_one : (text : List ℕ) (j k : ActKind) → IsWord (activity_word j) text → IsWord (activity_word k) text → j ≡ k
activity_kind_one text j k a b = sym (activity_of-word j) ∙ ap activity_of (sym a ∙ b) ∙ activity_of-word k

pub event_row_one : (cs : List (Option Column)) (fs : List (List ℕ)) (x y : EventRow) → IsEventRow cs fs x → IsEventRow cs fs y → x ≡ y
event_row_one cs fs x y a b = λ i. record {
  id = record { 0 = (a.id ∙ sym b.id) i };
  kind = event_kind_one _ x.kind y.kind a.word b.word i;
  time = (a.time ∙ sym b.time) i;
  weight = (a.weight ∙ sym b.weight) i;
  stop = record { 0 = (a.stop ∙ sym b.stop) i };
}

pub activity_row_one : (cs : List (Option Column)) (fs : List (List ℕ)) (x y : ActRow) → IsActivityRow cs fs x → IsActivityRow cs fs y → x ≡ y
activity_row_one cs fs x y a b = λ i. record {
  id = record { 0 = (a.id ∙ sym b.id) i };
  kind = activity_kind_one _ x.kind y.kind a.word b.word i;
  tail = record { 0 = (a.tail ∙ sym b.tail) i };
  head = record { 0 = (a.head ∙ sym b.head) i };
  lower = (a.lower ∙ sym b.lower) i;
  weight = (a.weight ∙ sym b.weight) i;
}

pub delay_row_one : (cs : List (Option Column)) (fs : List (List ℕ)) (x y : DelayRow) → IsDelayRow cs fs x → IsDelayRow cs fs y → x ≡ y
delay_row_one cs fs x y a b = λ i. record { id = (a.id ∙ sym b.id) i; delay = (a.delay ∙ sym b.delay) i }

pub events_one : (cs : List (Option Column)) (bytes : List ℕ) (a b : Result (List EventRow) FileFault) → ReadsEvents cs bytes a → ReadsEvents cs bytes b → a ≡ b
events_one cs bytes a b ra rb = file_one IsEventWord IsEventRow cs (λ fs x r. r.good) (event_row_one cs) bytes a b ra rb

pub activities_one : (cs : List (Option Column)) (bytes : List ℕ) (a b : Result (List ActRow) FileFault) → ReadsActivities cs bytes a → ReadsActivities cs bytes b → a ≡ b
activities_one cs bytes a b ra rb = file_one IsActivityWord IsActivityRow cs (λ fs x r. r.good) (activity_row_one cs) bytes a b ra rb

pub delays_one : (bytes : List ℕ) (a b : Result (List DelayRow) FileFault) → ReadsDelays bytes a → ReadsDelays bytes b → a ≡ b
delays_one bytes a b ra rb = file_one IsNoWord IsDelayRow delay_columns (λ fs x r. r.good) (delay_row_one delay_columns) bytes a b ra rb

pub id_row_one : (cs : List (Option Column)) (fs : List (List ℕ)) (x y : ℕ) → IsIdRow cs fs x → IsIdRow cs fs y → x ≡ y
id_row_one cs fs x y a b = a.value ∙ sym b.value

pub ids_one : (bytes : List ℕ) (a b : Result (List ℕ) FileFault) → ReadsIds bytes a → ReadsIds bytes b → a ≡ b
ids_one bytes a b ra rb = file_one IsNoWord IsIdRow id_columns (λ fs x r. r.good) (id_row_one id_columns) bytes a b ra rb

-- an answer that the grammar gives is the one that it relates to the bytes
pub only_answer : {X R : Type 0} (r : Result X FileFault) (items : X → List R) (Reads : Result (List R) FileFault → Type 0)
    → ((a b : Result (List R) FileFault) → Reads a → Reads b → a ≡ b)
    → IfOk r (λ v. Reads (Ok (items v))) → IfErr r (λ f. (f ≡ no_memory) ⊎ Reads (Err f))
    → (answer : Result (List R) FileFault) → Reads answer → MatchResult r (λ v. answer ≡ Ok (items v)) (λ f. (f ≡ no_memory) ⊎ (answer ≡ Err f))
only_answer (Ok v) items Reads one ok err answer reads = one answer (Ok (items v)) reads ok
only_answer (Err f) items Reads one ok (inl memory) answer reads = inl memory
only_answer (Err f) items Reads one ok (inr fault) answer reads = inr (one answer (Err f) reads fault)
