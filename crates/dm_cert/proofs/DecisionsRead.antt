-- Numbers, decisions and choices in front of a line: read where they stand, and nowhere else.
use Rattle.std.proofs.Common.{◌≡◌, ℕ, ◌^◌, ◌<◌, ◌≤◌, List, [], ◌∷◌, ◌++◌, Some, None, All, refl, sym, ap, subst, ◌∙◌, inl, inr, arith, append_assoc, append-nil, codes}
use Rattle.std.specs.Option.{option_map}
use Rattle.std.specs.Prelude.{option_and_then}
use Rattle.std.specs.Fmt.{decimal}
use Rattle.std.proofs.lemmas.List.{append_cancel_right}
use Rattle.std.proofs.lemmas.List.Elements.{All-cons, All-nil}
use Rattle.dm_text.specs.Inside.Parts.{behind, number_in_front}
use Rattle.dm_text.proofs.Reading.{behind_back, behind_is, number_back, number_is, EndsNumber}
use Rattle.dm_rows.specs.declared.messages.Decision.{Decision}
use Rattle.dm_rows.specs.declared.messages.Decision.TheVariants.{Keep, Drop, First}
use Rattle.dm_base.specs.declared.ids.ActId.{ActId}
use Rattle.dm_base.specs.declared.ids.EventId.{EventId}
use Rattle.dm_feed.specs.declared.vocabulary.Word.{Word}
use Rattle.dm_feed.specs.declared.vocabulary.Word.TheVariants as named
use Rattle.dm_feed.specs.Parts.{largest_id, Fits, id, word}
use Rattle.dm_feed.specs.Lines.{spelling_of_decision}
use Rattle.dm_cert.specs.PlanTexts.{line_end, choice_text, FitsDecision}
use Rattle.dm_cert.specs.PlansRead.{IsChoiceLine}
use Rattle.dm_cert.specs.Inside.PlanLines.{number_behind, keep_in, drop_in, first_in, decision_in, choice_in, event, act, or_else, Reads}
use Rattle.dm_cert.proofs.Options.{and_then_some, map_some, or_some, whole_some, Came}

-- ---- numbers

pub number_behind_back : (largest n : ℕ) (text rest : List ℕ) → n ≤ largest → largest < 10 ^ 64 → EndsNumber rest →
    number_behind largest text (text ++ (decimal n ++ rest)) ≡ Some (n, rest)
number_behind_back largest n text rest fits small ends = rw (behind_back text (decimal n ++ rest)) (number_back largest n rest fits small ends)

-- the text and the number stand in front
pub record HasNumber (largest : ℕ) (text line : List ℕ) (n : ℕ) (rest : List ℕ) : Type 0 where
  pub line_is : line ≡ text ++ (decimal n ++ rest)
  pub fits : n ≤ largest

pub number_behind_is : (largest n : ℕ) (text line rest : List ℕ) → largest < 10 ^ 64 → number_behind largest text line ≡ Some (n, rest) → HasNumber largest text line n rest
number_behind_is largest n text line rest small e =
    let came = and_then_some (number_in_front largest) (behind text line) (n, rest) e in
    let front = behind_is text line came.value came.some in
    let number = number_is largest n came.value rest small came.gives in
    record { line_is = front ∙ ap (λ xs. text ++ xs) number.line_is; fits = number.fits }

-- ---- decisions

keep_fits : (a : ActId) → FitsDecision (Keep a) → a.0 ≤ largest_id
keep_fits a fits = fits 1 (id 0) (omega arith)

drop_fits : (a : ActId) → FitsDecision (Drop a) → a.0 ≤ largest_id
drop_fits a fits = fits 1 (id 0) (omega arith)

first_fits : (e f : EventId) → FitsDecision (First e f) → e.0 ≤ largest_id
first_fits e f fits = fits 1 (id 0) (omega arith)

second_fits : (e f : EventId) → FitsDecision (First e f) → f.0 ≤ largest_id
second_fits e f fits = fits 2 (id 0) (omega arith)

one_fits : (w : Word) (n : ℕ) → n ≤ largest_id → All Fits (word w ∷ id n ∷ [])
one_fits w n fits = All-cons Fits (word w) (id n ∷ []) tt (All-cons Fits (id n) [] fits (All-nil Fits))

two_fit : (w : Word) (m n : ℕ) → m ≤ largest_id → n ≤ largest_id → All Fits (word w ∷ id m ∷ id n ∷ [])
two_fit w m n p q = All-cons Fits (word w) (id m ∷ id n ∷ []) tt (All-cons Fits (id m) (id n ∷ []) p (All-cons Fits (id n) [] q (All-nil Fits)))

-- the decision stands in front
pub record HasDecision (line : List ℕ) (d : Decision) (rest : List ℕ) : Type 0 where
  pub line_is : line ≡ spelling_of_decision d ++ rest
  pub fits : FitsDecision d

keep_spelled : (a : ActId) (rest : List ℕ) → spelling_of_decision (Keep a) ++ rest ≡ codes " keep " ++ (decimal a.0 ++ rest)
keep_spelled a rest = ap (λ xs. codes " keep " ++ (xs ++ rest)) (append-nil (decimal a.0))

drop_spelled : (a : ActId) (rest : List ℕ) → spelling_of_decision (Drop a) ++ rest ≡ codes " drop " ++ (decimal a.0 ++ rest)
drop_spelled a rest = ap (λ xs. codes " drop " ++ (xs ++ rest)) (append-nil (decimal a.0))

first_spelled : (e f : EventId) (rest : List ℕ) →
    spelling_of_decision (First e f) ++ rest ≡ codes " first " ++ (decimal e.0 ++ (codes " " ++ (decimal f.0 ++ rest)))
first_spelled e f rest =
    ap (λ xs. codes " first " ++ xs) (append_assoc (decimal e.0) (32 ∷ (decimal f.0 ++ [])) rest ∙ ap (λ xs. decimal e.0 ++ (32 ∷ (xs ++ rest))) (append-nil (decimal f.0)))

keep_back : (a : ActId) (rest : List ℕ) → a.0 ≤ largest_id → EndsNumber rest → keep_in (codes " keep " ++ (decimal a.0 ++ rest)) ≡ Some (Keep a, rest)
keep_back a rest fits ends = rw (number_behind_back largest_id a.0 (codes " keep ") rest fits (omega arith) ends) refl

drop_back : (a : ActId) (rest : List ℕ) → a.0 ≤ largest_id → EndsNumber rest → drop_in (codes " drop " ++ (decimal a.0 ++ rest)) ≡ Some (Drop a, rest)
drop_back a rest fits ends = rw (number_behind_back largest_id a.0 (codes " drop ") rest fits (omega arith) ends) refl

first_back : (e f : EventId) (rest : List ℕ) → e.0 ≤ largest_id → f.0 ≤ largest_id → EndsNumber rest →
    first_in (codes " first " ++ (decimal e.0 ++ (codes " " ++ (decimal f.0 ++ rest)))) ≡ Some (First e f, rest)
first_back e f rest p q ends =
    rw (
      number_behind_back largest_id e.0 (codes " first ") (codes " " ++ (decimal f.0 ++ rest)) p (omega arith) refl,
      number_behind_back largest_id f.0 (codes " ") rest q (omega arith) ends,
    ) refl

no_keep_in_drop : (rest : List ℕ) → keep_in (codes " drop " ++ rest) ≡ None
unfolding behind
no_keep_in_drop rest = refl

no_keep_in_first : (rest : List ℕ) → keep_in (codes " first " ++ rest) ≡ None
unfolding behind
no_keep_in_first rest = refl

no_drop_in_first : (rest : List ℕ) → drop_in (codes " first " ++ rest) ≡ None
unfolding behind
no_drop_in_first rest = refl

pub decision_back : (d : Decision) (rest : List ℕ) → FitsDecision d → EndsNumber rest → decision_in (spelling_of_decision d ++ rest) ≡ Some (d, rest)
decision_back (Keep a) rest fits ends = ap decision_in (keep_spelled a rest) ∙ rw (keep_back a rest (keep_fits a fits) ends) refl
decision_back (Drop a) rest fits ends =
    ap decision_in (drop_spelled a rest)
    ∙ rw (no_keep_in_drop (decimal a.0 ++ rest), drop_back a rest (drop_fits a fits) ends) refl
decision_back (First e f) rest fits ends =
    ap decision_in (first_spelled e f rest)
    ∙ rw (no_keep_in_first (decimal e.0 ++ (codes " " ++ (decimal f.0 ++ rest))), no_drop_in_first (decimal e.0 ++ (codes " " ++ (decimal f.0 ++ rest)))) (first_back e f rest (first_fits e f fits) (second_fits e f fits) ends)

pub decision_is : (line : List ℕ) (d : Decision) (rest : List ℕ) → decision_in line ≡ Some (d, rest) → HasDecision line d rest
decision_is line d rest e =
    elim (or_some (keep_in line) (or_else (drop_in line) (first_in line)) (d, rest) e) [
      | inl kept ↦ keep_case (map_some (λ p. (Keep (act p.0), p.1)) (number_behind largest_id (codes " keep ") line) (d, rest) kept)
      | inr more ↦
          elim (or_some (drop_in line) (first_in line) (d, rest) more.1) [
            | inl dropped ↦ drop_case (map_some (λ p. (Drop (act p.0), p.1)) (number_behind largest_id (codes " drop ") line) (d, rest) dropped)
            | inr last ↦ first_case (and_then_some (λ p. option_map (λ q. (First (event p.0) (event q.0), q.1)) (number_behind largest_id (codes " ") p.1)) (number_behind largest_id (codes " first ") line) (d, rest) last.1)
          ]
    ]
  where
    keep_case : Came {A = ℕ × List ℕ} (number_behind largest_id (codes " keep ") line) (λ x. ◌≡◌ {A = Decision × List ℕ} (Keep (act x.0), x.1) (d, rest)) → HasDecision line d rest
    keep_case came =
        let has = number_behind_is largest_id came.value.0 (codes " keep ") line came.value.1 (omega arith) came.some in
        subst (λ (p : Decision × List ℕ). HasDecision line p.0 p.1) came.gives
        (record { line_is = has.line_is ∙ sym (keep_spelled (act came.value.0) came.value.1); fits = one_fits named.Keep came.value.0 has.fits })

    drop_case : Came {A = ℕ × List ℕ} (number_behind largest_id (codes " drop ") line) (λ x. ◌≡◌ {A = Decision × List ℕ} (Drop (act x.0), x.1) (d, rest)) → HasDecision line d rest
    drop_case came =
        let has = number_behind_is largest_id came.value.0 (codes " drop ") line came.value.1 (omega arith) came.some in
        subst (λ (p : Decision × List ℕ). HasDecision line p.0 p.1) came.gives
        (record { line_is = has.line_is ∙ sym (drop_spelled (act came.value.0) came.value.1); fits = one_fits named.Drop came.value.0 has.fits })

    first_case : Came {A = ℕ × List ℕ} (number_behind largest_id (codes " first ") line)
        (λ x. option_map {U = Decision × List ℕ} (λ (q : ℕ × List ℕ). (First (event x.0) (event q.0), q.1)) (number_behind largest_id (codes " ") x.1) ≡ Some (d, rest)) → HasDecision line d rest
    first_case came =
        let next = map_some (λ (q : ℕ × List ℕ). (First (event came.value.0) (event q.0), q.1)) (number_behind largest_id (codes " ") came.value.1) (d, rest) came.gives in
        let has = number_behind_is largest_id came.value.0 (codes " first ") line came.value.1 (omega arith) came.some in
        let more = number_behind_is largest_id next.value.0 (codes " ") came.value.1 next.value.1 (omega arith) next.some in
        subst (λ (p : Decision × List ℕ). HasDecision line p.0 p.1) next.gives
        (record {
          line_is = has.line_is ∙ (ap (λ xs. codes " first " ++ (decimal came.value.0 ++ xs)) more.line_is ∙ sym (first_spelled (event came.value.0) (event next.value.0) next.value.1));
          fits = two_fit named.First came.value.0 next.value.0 has.fits more.fits;
        })

-- ---- choices

pub choice_spelled : (d : Decision) → choice_text d ≡ (codes "choice" ++ (spelling_of_decision d ++ [])) ++ line_end
unfolding choice_text
choice_spelled d = sym (ap (λ xs. codes "choice" ++ xs) (append_assoc (spelling_of_decision d) [] line_end))

pub reads_choice : (line : List ℕ) → Reads IsChoiceLine line (choice_in line)
reads_choice line = record { is = forward; back = backward }
  where
    forward : (d : Decision) → choice_in line ≡ Some d → IsChoiceLine d line
    forward d e =
        let all = whole_some (option_and_then decision_in (behind (codes "choice") line)) d e in
        let came = and_then_some decision_in (behind (codes "choice") line) (d, []) all in
        let front = behind_is (codes "choice") line came.value came.some in
        let has = decision_is came.value d [] came.gives in
        record { spelled = choice_spelled d ∙ ap (λ xs. xs ++ line_end) (ap (λ xs. codes "choice" ++ xs) (sym has.line_is) ∙ sym front); fits = has.fits }

    backward : (d : Decision) → IsChoiceLine d line → choice_in line ≡ Some d
    backward d h =
        let same : codes "choice" ++ (spelling_of_decision d ++ []) ≡ line = append_cancel_right (codes "choice" ++ (spelling_of_decision d ++ [])) line line_end (sym (choice_spelled d) ∙ h.spelled) in
        subst (λ (xs : List ℕ). choice_in xs ≡ Some d) same
        (rw (behind_back (codes "choice") (spelling_of_decision d ++ []), decision_back d [] h.fits refl) refl)
