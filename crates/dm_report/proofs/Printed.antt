-- A text that is printed part by part.
use Rattle.std.proofs.Common.{◌≡◌, ℕ, zero, suc, ◌+◌, ◌-◌, ◌<◌, ◌≤◌, List, [], ◌∷◌, ◌++◌, length, drop, get_or, Option, refl, sym, ap, subst, ◌∙◌, append_assoc, append-nil, add-one, arith}
use Rattle.std.specs.List.{flat_map, range_with_len}
use Rattle.std.proofs.Math.Seq.{drop-cons}
use Rattle.std.specs.Prelude.{codes, Result, Ok, Err}
use Rattle.dm_cert.specs.RunTexts.{Run, entries_text, logs_text, note_text, timetable_text, header_text, boards_text, heading_text, ending_text, run_text}
use Rattle.std.specs.Fmt.{decimal}
use Rattle.dm_outside.specs.Printing.{joined, Gathers, Breaks, Prints}
use Rattle.dm_report.specs.Printed.{labelled}
use Rattle.dm_outside.proofs.Printing.{number_then, prints_none, prints_then, prints_then_fault, prints_fault_at}

-- a front of the whole is printed, and this is still to come
pub record PrintedTo {K : Type 0} (taken : K → Option (List ℕ)) (faults : K → ℕ) (before now : K) (held_before held_now whole later : List ℕ) : Type 0 where
  pub front : List ℕ
  pub gathered : Gathers taken faults before now held_before held_now front
  pub is : whole ≡ front ++ later

module _ {K : Type 0} {taken : K → Option (List ℕ)} {faults : K → ℕ} where
  pub printed_none : (s : K) (p whole later : List ℕ) → whole ≡ later → PrintedTo taken faults s s p p whole later
  printed_none s p whole later e = record { front = []; gathered = prints_none s p; is = e }

  pub printed_next : {a b c : K} {p q r whole later : List ℕ} (x rest : List ℕ) → PrintedTo taken faults a b p q whole later → later ≡ x ++ rest → Gathers taken faults b c q r x → PrintedTo taken faults a c p r whole rest
  printed_next {a} {b} {c} {p} {q} {r} {whole} {later} x rest so_far e now =
      record {
        front = so_far.front ++ x;
        gathered = prints_then so_far.gathered now;
        is = so_far.is ∙ (ap (λ (l : List ℕ). so_far.front ++ l) e ∙ sym (append_assoc so_far.front x rest));
      }

  pub printed_fault : {a b c : K} {p q whole later : List ℕ} (x rest : List ℕ) → PrintedTo taken faults a b p q whole later → later ≡ x ++ rest → Breaks taken faults b c q x → Breaks taken faults a c p whole
  printed_fault {a} {b} {c} {p} {q} {whole} {later} x rest so_far e fault =
      subst (Breaks taken faults a c p) (sym (so_far.is ∙ ap (λ (l : List ℕ). so_far.front ++ l) e)) (prints_fault_at rest so_far.gathered fault)

  pub printed_all : {a b : K} {p q whole later : List ℕ} → PrintedTo taken faults a b p q whole later → later ≡ [] → Gathers taken faults a b p q whole
  printed_all {a} {b} {p} {q} {whole} {later} so_far e =
      subst (Gathers taken faults a b p q) (sym (so_far.is ∙ (ap (λ (l : List ℕ). so_far.front ++ l) e ∙ append-nil so_far.front))) so_far.gathered

  -- the same text, grouped in another way
  pub breaks_as : {a b : K} {p : List ℕ} {x y : List ℕ} → y ≡ x → Breaks taken faults a b p x → Breaks taken faults a b p y
  breaks_as {a} {b} {p} e g = subst (Breaks taken faults a b p) (sym e) g

  -- a text, and then what the last printer answers
  pub prints_last_as : {E : Type 0} {a b : K} {p q x : List ℕ} (c : K) (r y z : List ℕ) (result : Result (Unit {0}) E) → z ≡ x ++ y → Gathers taken faults a b p q x → Prints taken faults b c q r result y → Prints taken faults a c p r result z
  prints_last_as {E} {a} {b} {p} {q} {x} c r y z (Ok v) e f g = subst (Gathers taken faults a c p r) (sym e) (prints_then f g)
  prints_last_as {E} {a} {b} {p} {q} {x} c r y z (Err v) e f g = subst (Breaks taken faults a c p) (sym e) (prints_then_fault f g)

-- ---- numbers behind their words

-- the words and the number of one
abbrev pub with_label : {X : Type 0} → (X → List ℕ) → (X → ℕ) → X → List ℕ
with_label words number one = joined (words one ∷ decimal (number one) ∷ [])

pub labelled_is : {X : Type 0} (words : X → List ℕ) (number : X → ℕ) (xs : List X) (last : List ℕ) →
    labelled words number xs last ≡ flat_map (with_label words number) xs ++ last
labelled_is words number [] last = refl
labelled_is words number (x ∷ xs) last = rw (labelled_is words number xs last) (simp (append_assoc, append-nil))

-- ---- how parts make a whole

pub number_parts : (before digits after : List ℕ) → joined (before ∷ digits ∷ after ∷ []) ≡ joined (before ∷ digits ∷ []) ++ after
number_parts before digits after =
    number_then before digits (after ++ []) ∙ ap (λ (l : List ℕ). joined (before ∷ digits ∷ []) ++ l) (append-nil after)

pub plan_parts : (n text : List ℕ) → joined (n ∷ codes " " ∷ text ∷ []) ≡ (n ++ codes " ") ++ text
plan_parts n text = simp (append_assoc, append-nil)

pub refusal_parts : (n reason : List ℕ) → joined (n ∷ codes " refused " ∷ reason ∷ (10 ∷ []) ∷ []) ≡ (n ++ codes " refused ") ++ (reason ++ 10 ∷ [])
refusal_parts n reason = simp append_assoc

pub answer_parts : (line said reply : List ℕ) → joined (line ∷ codes " " ∷ said ∷ codes " -> " ∷ reply ∷ []) ≡ (line ++ codes " ") ++ (said ++ (codes " -> " ++ reply))
answer_parts line said reply = simp (append_assoc, append-nil)

pub log_parts : (feed items stop : List ℕ) → joined (feed ∷ items ∷ stop ∷ []) ≡ feed ++ (items ++ stop)
log_parts feed items stop = simp append-nil

pub entry_parts : (n feed line message : List ℕ) → joined (codes "entry " ∷ n ∷ codes " feed " ∷ feed ∷ codes " line " ∷ line ∷ codes " " ∷ message ∷ (10 ∷ []) ∷ []) ≡ joined (codes "entry " ∷ n ∷ codes " feed " ∷ feed ∷ codes " line " ∷ line ∷ codes " " ∷ []) ++ (message ++ 10 ∷ [])
entry_parts n feed line message = simp append_assoc

run_parts : (a b c d e f g h : List ℕ) → joined (a ∷ b ∷ c ∷ d ∷ e ∷ f ∷ g ∷ h ∷ []) ≡ a ++ (b ++ (c ++ (d ++ (e ++ (f ++ (g ++ h))))))
run_parts a b c d e f g h = simp append-nil

pub run_is : (run : Run) → run_text 2 run ≡
    header_text 2 run.penalty (length run.logs) (length run.history) ++ (entries_text 1 run.history ++ (logs_text 2 1 run.logs ++ (boards_text (length run.notes)
    ++ (flat_map note_text run.notes ++ (heading_text (length run.history) ++ (timetable_text run.net run.times ++ ending_text run.cost))))))
unfolding run_text
run_is run =
    run_parts (header_text 2 run.penalty (length run.logs) (length run.history)) (entries_text 1 run.history) (logs_text 2 1 run.logs) (boards_text (length run.notes))
    (flat_map note_text run.notes) (heading_text (length run.history)) (timetable_text run.net run.times) (ending_text run.cost)

-- ---- what is still to come in a loop

drop_next : {X : Type 0} (i : ℕ) (xs : List X) (x : X) → i < length xs → x ≡ get_or xs i x → drop i xs ≡ x ∷ drop (i + 1) xs
drop_next i xs x lt is =
    drop-cons xs i x lt ∙ (ap (λ y. y ∷ drop (suc i) xs) (sym is) ∙ ap (λ (k : ℕ). x ∷ drop k xs) (sym (add-one i)))

-- the texts of numbered elements: of the next one, and of those behind it
pub numbered_more : {X : Type 0} (f : ℕ → X → List ℕ) (all : ℕ → List X → List ℕ) → ((n : ℕ) (x : X) (xs : List X) → all n (x ∷ xs) ≡ f n x ++ all (n + 1) xs) →
    (n i : ℕ) (xs : List X) (x : X) → i < length xs → x ≡ get_or xs i x → all n (drop i xs) ≡ f n x ++ all (n + 1) (drop (i + 1) xs)
numbered_more f all cons n i xs x lt is = ap (all n) (drop_next i xs x lt is) ∙ cons n x (drop (i + 1) xs)

pub range_more : (f : ℕ → List ℕ) (i n : ℕ) → i < n → flat_map f (range_with_len i (n - i)) ≡ f i ++ flat_map f (range_with_len (i + 1) (n - (i + 1)))
range_more f i n lt =
    let e : n - i ≡ suc (n - (i + 1)) = omega arith in
    ap (λ (k : ℕ). flat_map f (range_with_len i k)) e

pub range_start : (f : ℕ → List ℕ) (n : ℕ) → flat_map f (range_with_len 0 n) ≡ flat_map f (range_with_len 0 (n - 0))
range_start f n = let e : n ≡ n - 0 = omega arith in ap (λ (k : ℕ). flat_map f (range_with_len 0 k)) e

pub range_end : (f : ℕ → List ℕ) (i n : ℕ) → n ≤ i → flat_map f (range_with_len i (n - i)) ≡ []
range_end f i n le = let e : n - i ≡ 0 = omega arith in ap (λ (k : ℕ). flat_map f (range_with_len i k)) e

pub drop_end : {X : Type 0} (xs : List X) (i : ℕ) → length xs ≤ i → drop i xs ≡ []
drop_end [] zero le = refl
drop_end [] (suc i) le = refl
drop_end (x ∷ xs) zero le = absurd (omega arith)
drop_end (x ∷ xs) (suc i) le = drop_end xs i (omega arith)
