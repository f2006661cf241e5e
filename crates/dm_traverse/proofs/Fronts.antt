-- Paths that begin with a base, and what two of them have in common behind it.
use Rattle.std.proofs.Common.{◌≡◌, ℕ, ◌+◌, ◌<◌, ◌≤◌, List, [], ◌∷◌, ◌++◌, length, get_or, take, drop, sym, ap, subst, ◌∙◌, arith, inl, inr, append_assoc, append-nil, suc, Some}
use Rattle.std.proofs.lemmas.List.{drop_at, length-append, take-append-drop, take_more, take_all}
use Rattle.std.proofs.lemmas.Option.{slice_get-get_or, slice_get_past, slice_get_cases}
use Rattle.dm_network.specs.Net.{Net}
use Rattle.dm_network.specs.Start.{IsNetwork}
use Rattle.dm_rows.specs.declared.messages.Decision.{Decision}
use Rattle.dm_rows.specs.Rows.{RowsValue, IsSized}
use Rattle.dm_rows.specs.Decide.{IsChoiceList}
use Rattle.dm_evaluate.specs.Evaluator.{EvaluatorValue, IsEvaluatorOf}
use Rattle.dm_tree.specs.Pending.{IsFront}
use Rattle.dm_tree.specs.Plans.{Task}
use Rattle.dm_tree.specs.Relaxed.{HasNoRelaxedCycle}
use Rattle.dm_paths.proofs.Lists.{decides_free, pushed}
use Rattle.dm_traverse.specs.Steps.{HasRelaxedCycle}
use Rattle.dm_traverse.specs.Inside.Walking.{AreFronts, IsLeftUnmade}
use Rattle.dm_traverse.specs.Moving.{IsOver, GoesAlong}
use Rattle.dm_traverse.proofs.Walks.{front_of, longer_cycle}

pub front_of_front : (xs ys zs : List Decision) → IsFront xs ys → IsFront ys zs → IsFront xs zs
front_of_front xs ys zs f g =
    record { rest = f.rest ++ g.rest; is = g.is ∙ (ap (λ ws. ws ++ g.rest) f.is ∙ append_assoc xs f.rest g.rest) }

pub itself_in_front : (xs ys : List Decision) → ys ≡ xs → IsFront xs ys
itself_in_front xs ys e = record { rest = []; is = e ∙ sym (append-nil xs) }

pub begins_with : (xs more ys : List Decision) → ys ≡ xs ++ more → IsFront xs ys
begins_with xs more ys e = record { rest = more; is = e }

-- an evaluator that was moved is over the task still where its path begins as before
pub over_longer : (task : Task) (e f : EvaluatorValue) → IsOver task e → IsEvaluatorOf task.net f → f.rows ≡ e.rows → IsFront e.path f.path → IsOver task f
over_longer task e f over is same front =
    record { is = is; same = same ∙ over.same; begins = front_of_front task.base e.path f.path over.begins front }

pub over_same : (task : Task) (e f : EvaluatorValue) → IsOver task e → IsEvaluatorOf task.net f → f.rows ≡ e.rows → f.path ≡ e.path → IsOver task f
over_same task e f over is same at = over_longer task e f over is same (itself_in_front e.path f.path at)

take_behind : (base rest : List Decision) (many : ℕ) → take (length base + many) (base ++ rest) ≡ base ++ take many rest
take_behind [] rest many = let e : 0 + many ≡ many = omega arith in ap (λ (k : ℕ). take k rest) e
take_behind (b ∷ base) rest many =
    let e : length (b ∷ base) + many ≡ suc (length base + many) = omega arith in
    ap (λ (k : ℕ). take k (b ∷ (base ++ rest))) e ∙ ap (λ xs. b ∷ xs) (take_behind base rest many)

-- a path that begins with a base, of which so many decisions behind it are those of another path
module _ (base rest path other behind : List Decision) (n many : ℕ) (size : n ≡ length base) (e : path ≡ base ++ rest)
    (shown : behind ≡ drop n path) (f : AreFronts behind other many) where
  rest_is : behind ≡ rest
  rest_is = shown ∙ (ap (drop n) e ∙ drop_at base rest n (sym size))

  pub front_within : n + many ≤ length path
  front_within =
      let few = f.of_one in
      let own : length behind ≡ length rest = ap length rest_is in
      let whole : length path ≡ length base + length rest = ap length e ∙ length-append base rest in
      omega (arith, few, own, whole, size)

  left_is : (left : List Decision) → left ≡ take (n + many) path → left ≡ base ++ take many rest
  left_is left is =
      let sum : n + many ≡ length base + many = omega (arith, size) in
      is ∙ (ap (λ (k : ℕ). take k path) sum ∙ (ap (take (length base + many)) e ∙ take_behind base rest many))

  pub front_begins : (left : List Decision) → left ≡ take (n + many) path → IsFront base left
  front_begins left is = record { rest = take many rest; is = left_is left is }

  pub front_joins : (left more : List Decision) → left ≡ take (n + many) path → more ≡ drop many other → left ++ more ≡ base ++ other
  front_joins left more is are =
      let same : take many rest ≡ take many other = ap (take many) (sym rest_is) ∙ f.same in
      ap (λ xs. xs ++ more) (left_is left is ∙ ap (λ xs. base ++ xs) same)
      ∙ (append_assoc base (take many other) more
      ∙ ap (λ xs. base ++ xs) (ap (λ xs. take many other ++ xs) are ∙ take-append-drop many other))

-- decisions that are made one after the other behind a path
module _ (net : Net) (network : IsNetwork net) (rows : RowsValue) (sized : IsSized net rows) (before decisions : List Decision)
    (list : IsChoiceList net rows (before ++ decisions)) (path : List Decision) (i : ℕ) (d : Decision) (lt : i < length decisions)
    (e : path ≡ before ++ take i decisions) (is : d ≡ get_or decisions i d) where
  pub one_more_made : path ++ d ∷ [] ≡ before ++ take (i + 1) decisions
  one_more_made =
      ap (λ xs. xs ++ d ∷ []) e
      ∙ (append_assoc before (take i decisions) (d ∷ [])
      ∙ ap (λ xs. before ++ xs) (ap (λ x. take i decisions ++ x ∷ []) is ∙ sym (take_more decisions i d lt)))

  whole_is : (path ++ d ∷ []) ++ drop (i + 1) decisions ≡ before ++ decisions
  whole_is =
      ap (λ xs. xs ++ drop (i + 1) decisions) one_more_made
      ∙ (append_assoc before (take (i + 1) decisions) (drop (i + 1) decisions)
      ∙ ap (λ xs. before ++ xs) (take-append-drop (i + 1) decisions))

  whole_list : IsChoiceList net rows ((path ++ d ∷ []) ++ drop (i + 1) decisions)
  whole_list = subst (IsChoiceList net rows) (sym whole_is) list

  pub made_list : IsChoiceList net rows (path ++ d ∷ [])
  made_list = front_of net rows (path ++ d ∷ []) (drop (i + 1) decisions) whole_list

  pub made_cycle : HasRelaxedCycle net rows (path ++ d ∷ []) → HasRelaxedCycle net rows (before ++ decisions)
  made_cycle h =
      subst (HasRelaxedCycle net rows) whole_is
      (longer_cycle net network rows sized (path ++ d ∷ []) (drop (i + 1) decisions) whole_list made_list h)

-- behind a base, so many decisions are made, and the next one cannot be
pub along_to : (net : Net) (rows own : RowsValue) (base decisions path new : List Decision) (i : ℕ) (d : Decision) → own ≡ rows → i < length decisions
    → d ≡ get_or decisions i d → path ≡ base ++ take i decisions → IsLeftUnmade net own path new d → GoesAlong net rows base decisions new
along_to net rows own base decisions path new i d same lt is e left =
    record {
      many = i;
      made = left.same ∙ e;
      stuck = λ x at.
          let met : Some x ≡ Some d = sym at ∙ (slice_get-get_or decisions i d lt ∙ ap Some (sym is)) in
          let one : x ≡ d = cc in
          rw (one, left.same, sym same) left.cannot;
    }

-- behind a base, all of them are made
pub along_all : (net : Net) (rows : RowsValue) (base decisions path : List Decision) (i : ℕ) → length decisions ≤ i → path ≡ base ++ take i decisions
    → GoesAlong net rows base decisions path
along_all net rows base decisions path i le e =
    record { many = i; made = e; stuck = λ x at. absurd (let none = slice_get_past decisions i le in cc) }

-- where all decisions are a list behind the base that makes no cycle, all of them are made
pub all_made : (net : Net) → IsNetwork net → (rows : RowsValue) → IsSized net rows → (base decisions path : List Decision)
    → IsChoiceList net rows (base ++ decisions) → HasNoRelaxedCycle net rows (base ++ decisions) → GoesAlong net rows base decisions path → path ≡ base ++ decisions
all_made net network rows sized base decisions path list none g =
    elim (slice_get_cases decisions g.many).1 [
      | inl met ↦
          let d : Decision = met.0 in
          let here : d ≡ get_or decisions g.many d = sym met.3 in
          let longer : IsChoiceList net rows (path ++ d ∷ []) = made_list net network rows sized base decisions list path g.many d met.1 g.made here in
          absurd (elim (g.stuck d met.2) [
            | inl shut ↦ shut (record { free = decides_free net rows path d longer; undecided = (pushed net rows path d longer).new })
            | inr cycle ↦ (let whole = made_cycle net network rows sized base decisions list path g.many d met.1 g.made here cycle in none whole.cycle whole.is_cycle)
          ])
      | inr past ↦ g.made ∙ ap (λ xs. base ++ xs) (take_all g.many decisions past.0)
    ]
