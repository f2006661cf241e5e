-- A plan's first line is read where it stands, and nowhere else.
use Rattle.std.proofs.Common.{◌≡◌, ℕ, ◌≤◌, Bool, true, false, cond, eqb, List, [], ◌++◌, Some, refl, sym, ap, subst, ◌∙◌, inl, inr, arith, append_assoc, append-nil, codes}
use Rattle.std.specs.Option.{option_map}
use Rattle.std.specs.Prelude.{option_and_then}
use Rattle.std.specs.Fmt.{decimal}
use Rattle.std.proofs.lemmas.List.{append_cancel_right}
use Rattle.dm_text.specs.Inside.Parts.{behind}
use Rattle.dm_text.proofs.Reading.{behind_is, EndsNumber}
use Rattle.dm_tree.specs.declared.forms.Mark.{Mark}
use Rattle.dm_tree.specs.declared.forms.Mark.TheVariants as mark
use Rattle.dm_cert.specs.declared.plan_lines.Heading.{Heading}
use Rattle.dm_cert.specs.PlanTexts.{line_end, largest_cost, mark_text}
use Rattle.dm_cert.specs.PlansRead.{IsHeadingLine, heading_text, size_words}
use Rattle.dm_cert.specs.Inside.PlanLines.{number_behind, mark_in, marked, counts_in, costs_in, heading_in, heading_of, Reads}
use Rattle.dm_cert.proofs.Options.{and_then_some, map_some, or_some, whole_some}
use Rattle.dm_cert.proofs.DecisionsRead.{number_behind_back, number_behind_is}

-- ---- the mark

pub mark_back : (m : Mark) (rest : List ℕ) → mark_in (codes "plan " ++ (mark_text m ++ rest)) ≡ Some (m, rest)
unfolding behind
mark_back mark.Optimal rest = refl
mark_back mark.Open rest = refl

pub mark_is : (line : List ℕ) (m : Mark) (rest : List ℕ) → mark_in line ≡ Some (m, rest) → line ≡ codes "plan " ++ (mark_text m ++ rest)
mark_is line m rest e =
    elim (or_some (marked mark.Optimal (behind (codes "plan optimal") line)) (marked mark.Open (behind (codes "plan open") line)) (m, rest) e) [
      | inl optimal ↦
          let came = map_some (λ (r : List ℕ). (mark.Optimal, r)) (behind (codes "plan optimal") line) (m, rest) optimal in
          let front = behind_is (codes "plan optimal") line came.value came.some in
          subst (λ (p : Mark × List ℕ). line ≡ codes "plan " ++ (mark_text p.0 ++ p.1)) came.gives front
      | inr more ↦
          let came = map_some (λ (r : List ℕ). (mark.Open, r)) (behind (codes "plan open") line) (m, rest) more.1 in
          let front = behind_is (codes "plan open") line came.value came.some in
          subst (λ (p : Mark × List ℕ). line ≡ codes "plan " ++ (mark_text p.0 ++ p.1)) came.gives front
    ]

-- ---- the numbers

words_end_number : (b : Bool) (rest : List ℕ) → EndsNumber (cond b (codes " leaves ") (codes " nodes ") ++ rest)
words_end_number true rest = refl
words_end_number false rest = refl

-- what stands behind the mark of a first line
abbrev pub costs_text : ℕ → Heading → List ℕ → List ℕ
costs_text version h rest =
    codes " cost " ++ (decimal h.cost ++ (codes " bound " ++ (decimal h.bound ++ (codes " choices " ++ (decimal h.choices ++ (size_words version ++ (decimal h.size ++ rest)))))))

costs_back : (version : ℕ) (h : Heading) → h.cost ≤ largest_cost → h.bound ≤ largest_cost → h.choices ≤ largest_cost → h.size ≤ largest_cost →
    costs_in version h.mark (costs_text version h []) ≡ Some (h, [])
costs_back version h cost bound choices size =
    let sizes : List ℕ = decimal h.size ++ [] in
    let counts : List ℕ = decimal h.choices ++ (size_words version ++ sizes) in
    let bounds : List ℕ = decimal h.bound ++ (codes " choices " ++ counts) in
    let a = number_behind_back largest_cost h.cost (codes " cost ") (codes " bound " ++ bounds) cost (omega arith) refl in
    let b = number_behind_back largest_cost h.bound (codes " bound ") (codes " choices " ++ counts) bound (omega arith) refl in
    let c = number_behind_back largest_cost h.choices (codes " choices ") (size_words version ++ sizes) choices (omega arith) (words_end_number (eqb version 1) sizes) in
    let d = number_behind_back largest_cost h.size (size_words version) [] size (omega arith) refl in
    rw (a, b, c, d) refl

-- the numbers stand there
pub record HasCosts (version : ℕ) (line : List ℕ) (m : Mark) (h : Heading) (rest : List ℕ) : Type 0 where
  pub line_is : line ≡ costs_text version h rest
  pub mark : h.mark ≡ m
  pub cost : h.cost ≤ largest_cost
  pub bound : h.bound ≤ largest_cost
  pub choices : h.choices ≤ largest_cost
  pub size : h.size ≤ largest_cost

costs_is : (version : ℕ) (m : Mark) (line : List ℕ) (h : Heading) (rest : List ℕ) → costs_in version m line ≡ Some (h, rest) → HasCosts version line m h rest
costs_is version m line h rest e =
    let a = and_then_some (λ (p : ℕ × List ℕ). option_and_then (λ (q : ℕ × List ℕ). counts_in version m p.0 q.0 q.1) (number_behind largest_cost (codes " bound ") p.1)) (number_behind largest_cost (codes " cost ") line) (h, rest) e in
    let cost = number_behind_is largest_cost a.value.0 (codes " cost ") line a.value.1 (omega arith) a.some in
    let b = and_then_some (λ (q : ℕ × List ℕ). counts_in version m a.value.0 q.0 q.1) (number_behind largest_cost (codes " bound ") a.value.1) (h, rest) a.gives in
    let bound = number_behind_is largest_cost b.value.0 (codes " bound ") a.value.1 b.value.1 (omega arith) b.some in
    let c = and_then_some (λ (p : ℕ × List ℕ). option_map (λ (q : ℕ × List ℕ). (heading_of m a.value.0 b.value.0 p.0 q.0, q.1)) (number_behind largest_cost (size_words version) p.1)) (number_behind largest_cost (codes " choices ") b.value.1) (h, rest) b.gives in
    let choices = number_behind_is largest_cost c.value.0 (codes " choices ") b.value.1 c.value.1 (omega arith) c.some in
    let d = map_some (λ (q : ℕ × List ℕ). (heading_of m a.value.0 b.value.0 c.value.0 q.0, q.1)) (number_behind largest_cost (size_words version) c.value.1) (h, rest) c.gives in
    let size = number_behind_is largest_cost d.value.0 (size_words version) c.value.1 d.value.1 (omega arith) d.some in
    subst (λ (p : Heading × List ℕ). HasCosts version line m p.0 p.1) d.gives
    (record {
      line_is = cost.line_is
          ∙ ap (λ xs. codes " cost " ++ (decimal a.value.0 ++ xs)) (bound.line_is
          ∙ ap (λ xs. codes " bound " ++ (decimal b.value.0 ++ xs)) (choices.line_is
          ∙ ap (λ xs. codes " choices " ++ (decimal c.value.0 ++ xs)) size.line_is));
      mark = refl;
      cost = cost.fits;
      bound = bound.fits;
      choices = choices.fits;
      size = size.fits;
    })

-- ---- the line

abbrev pub front_text : ℕ → Heading → List ℕ
front_text version h = codes "plan " ++ (mark_text h.mark ++ costs_text version h [])

pub heading_spelled : (version : ℕ) (h : Heading) → heading_text version h ≡ front_text version h ++ line_end
unfolding heading_text
heading_spelled version h = sym (simp (append_assoc, append-nil))

pub reads_heading : (version : ℕ) (line : List ℕ) → Reads (IsHeadingLine version) line (heading_in version line)
reads_heading version line = record { is = forward; back = backward }
  where
    forward : (h : Heading) → heading_in version line ≡ Some h → IsHeadingLine version h line
    forward h e =
        let all = whole_some (option_and_then (λ (p : Mark × List ℕ). costs_in version p.0 p.1) (mark_in line)) h e in
        let came = and_then_some (λ (p : Mark × List ℕ). costs_in version p.0 p.1) (mark_in line) (h, []) all in
        let front = mark_is line came.value.0 came.value.1 came.some in
        let has = costs_is version came.value.0 came.value.1 h [] came.gives in
        let same : line ≡ front_text version h = front ∙ (ap (λ xs. codes "plan " ++ (mark_text came.value.0 ++ xs)) has.line_is ∙ ap (λ m. codes "plan " ++ (mark_text m ++ costs_text version h [])) (sym has.mark)) in
        record {
          spelled = heading_spelled version h ∙ ap (λ xs. xs ++ line_end) (sym same);
          cost = has.cost;
          bound = has.bound;
          choices = has.choices;
          size = has.size;
        }

    backward : (h : Heading) → IsHeadingLine version h line → heading_in version line ≡ Some h
    backward h is =
        let same : front_text version h ≡ line = append_cancel_right (front_text version h) line line_end (sym (heading_spelled version h) ∙ is.spelled) in
        subst (λ (xs : List ℕ). heading_in version xs ≡ Some h) same
        (rw (mark_back h.mark (costs_text version h []), costs_back version h is.cost is.bound is.choices is.size) refl)
