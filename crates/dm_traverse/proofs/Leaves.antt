-- Every choice list leads to a leaf of a true tree that does not cost more.
use Rattle.std.proofs.Common.{◌≡◌, ℕ, ◌≤◌, true, false, List, [], ◌∷◌, ◌++◌, length, map, Some, refl, sym, ap, subst, ◌∙◌, ◌⊎◌, inl, inr, arith, append_assoc, append-nil}
use Rattle.std.specs.Prelude.{filter, Contains, not, ◌&&◌, slice_get, Option, None, option_map, suc}
use Rattle.std.proofs.lemmas.List.{map-append}
use Rattle.std.proofs.lemmas.Option.{slice_get-get_or, slice_get-map}
use Rattle.std.specs.List.{range_with_len}
use Rattle.std.proofs.lemmas.Bool.{cases_Bool, and_parts, not-true, both_ways}
use Rattle.std.proofs.lemmas.List.Elements.{All-contains, Contains-append_left, Contains-append_right, Contains-append_cases, Contains-push_cases}
use Rattle.dm_network.specs.Net.{Net}
use Rattle.dm_network.specs.Start.{IsNetwork}
use Rattle.dm_rows.specs.declared.messages.Choice.{Choice}
use Rattle.dm_rows.specs.declared.messages.Decision.{Decision}
use Rattle.dm_rows.specs.Rows.{RowsValue, IsSized, kept_at, small_first_at}
use Rattle.dm_rows.specs.Active.{HasNoCycle}
use Rattle.dm_rows.specs.Cost.{Costs, cost_of}
use Rattle.dm_rows.specs.Decide.{free_choices_of, free_changes_of, free_pairs_of, choice_of, change_choice, pair_choice, is_free_change, is_free_pair, with_decisions, IsChoiceList}
use Rattle.dm_rows.specs.Relax.{is_decided, is_undecided_change, is_undecided_pair, is_violated_change, is_violated_pair, has_unmet_from}
use Rattle.dm_rows.specs.Cost.{comes_too_early}
use Rattle.dm_network.specs.Net.{pair_at}
use Rattle.dm_tree.specs.declared.forms.Node.{Node}
use Rattle.dm_tree.specs.declared.forms.Node.TheVariants.{Inner, Cycle, Bound, Open, Hole}
use Rattle.dm_tree.specs.Trees.{Shape, leaf, branch, IsProper, IsWhole, StandsAt}
use Rattle.dm_rows.specs.Sides.{first_decision, second_decision}
use Rattle.dm_tree.specs.Relaxed.{RelaxedCosts, IsRelaxedCycle, IsViolated, relaxed_cost_of}
use Rattle.dm_tree.specs.Plans.{Task}
use Rattle.dm_paths.proofs.Naming.{from_place, change_decides, pair_decides}
use Rattle.dm_paths.proofs.Setting.{DiffersInDecisions, HasDecision, has_each, kept_has, first_has, in_front, locks_of, KeepsLocked}
use Rattle.dm_paths.proofs.Apart.{listed, Apart, apart_append, choice_list_from}
use Rattle.dm_relax.proofs.Bounding.{costs_no_more, relaxed_has_no_cycle}
use Rattle.dm_relax.proofs.Completion.{is_decided_by}

-- a choice is free, and the path leaves it undecided
pub record IsUndecided (net : Net) (rows : RowsValue) (path : List Decision) (c : Choice) : Type 0 where
  pub free : Contains (free_choices_of net rows) c
  pub undecided : is_decided path c ≡ false

pub violated_is_undecided : (net : Net) (rows : RowsValue) (path : List Decision) (x : List ℕ) (c : Choice) → IsViolated net rows path x c →
    IsUndecided net rows path c
violated_is_undecided net rows path x c h =
    let n : ℕ = length net.activities in
    let m : ℕ = length net.pairs in
    elim (Contains-append_cases (map (change_choice net) (filter (is_violated_change net rows path x) (range_with_len 0 n)))
    (map (pair_choice net) (filter (is_violated_pair net rows path x) (range_with_len 0 m))) c h) [
      | inl l ↦
          let f = from_place (change_choice net) (is_violated_change net rows path x) n c l in
          let both = and_parts (is_undecided_change net rows path f.place) (comes_too_early net rows x f.place) f.passes in
          let parts = and_parts (is_free_change net rows f.place) (not (is_decided path (change_choice net f.place))) both.0 in
          record {
            free = subst (Contains (free_choices_of net rows)) f.is
                (Contains-append_left (free_changes_of net rows) (free_pairs_of net rows) (change_choice net f.place)
                (listed (change_choice net) (is_free_change net rows) 0 n f.place (omega arith) (omega (arith, f.below)) parts.0));
            undecided = subst (λ d. is_decided path d ≡ false) f.is (not-true (is_decided path (change_choice net f.place)) parts.1);
          }
      | inr r ↦
          let f = from_place (pair_choice net) (is_violated_pair net rows path x) m c r in
          let both = and_parts (is_undecided_pair net rows path f.place && has_unmet_from net rows x f.place (pair_at net f.place).small)
          (has_unmet_from net rows x f.place (pair_at net f.place).large) f.passes in
          let first = and_parts (is_undecided_pair net rows path f.place) (has_unmet_from net rows x f.place (pair_at net f.place).small) both.0 in
          let parts = and_parts (is_free_pair net rows f.place) (not (is_decided path (pair_choice net f.place))) first.0 in
          record {
            free = subst (Contains (free_choices_of net rows)) f.is
                (Contains-append_right (free_changes_of net rows) (free_pairs_of net rows) (pair_choice net f.place)
                (listed (pair_choice net) (is_free_pair net rows) 0 m f.place (omega arith) (omega (arith, f.below)) parts.0));
            undecided = subst (λ d. is_decided path d ≡ false) f.is (not-true (is_decided path (pair_choice net f.place)) parts.1);
          }
    ]

-- the two decisions of a free choice decide it
pub record DecidesIt (c : Choice) : Type 0 where
  pub first : choice_of (first_decision c) ≡ c
  pub second : choice_of (second_decision c) ≡ c

pub decides_it : (net : Net) → IsNetwork net → (rows : RowsValue) (c : Choice) → Contains (free_choices_of net rows) c → DecidesIt c
decides_it net network rows c h =
    elim (Contains-append_cases (free_changes_of net rows) (free_pairs_of net rows) c h) [
      | inl l ↦
          let f = from_place (change_choice net) (is_free_change net rows) (length net.activities) c l in
          subst DecidesIt f.is (record { first = change_decides net network f.place true; second = change_decides net network f.place false })
      | inr r ↦
          let f = from_place (pair_choice net) (is_free_pair net rows) (length net.pairs) c r in
          subst DecidesIt f.is (record { first = pair_decides net network f.place true f.below; second = pair_decides net network f.place false f.below })
    ]

-- rows have the one or the other
pub has_either : (net : Net) → IsNetwork net → (rows r : RowsValue) (c : Choice) → Contains (free_choices_of net rows) c →
    HasDecision net r (first_decision c) ⊎ HasDecision net r (second_decision c)
has_either net network rows r c h =
    let P : Choice → Type 0 = λ d. HasDecision net r (first_decision d) ⊎ HasDecision net r (second_decision d) in
    elim (Contains-append_cases (free_changes_of net rows) (free_pairs_of net rows) c h) [
      | inl l ↦
          let f = from_place (change_choice net) (is_free_change net rows) (length net.activities) c l in
          subst P f.is (elim (cases_Bool (kept_at r f.place)) [
            | inl e ↦ inl (kept_has net network r f.place true f.below e)
            | inr e ↦ inr (kept_has net network r f.place false f.below e)
          ])
      | inr q ↦
          let f = from_place (pair_choice net) (is_free_pair net rows) (length net.pairs) c q in
          subst P f.is (elim (cases_Bool (small_first_at r f.place)) [
            | inl e ↦ inl (first_has net network r f.place true f.below e)
            | inr e ↦ inr (first_has net network r f.place false f.below e)
          ])
    ]

-- lists whose elements are all different, by their places
pub apart_from_once : {X : Type 0} (xs : List X) → ((m n : ℕ) (x : X) → slice_get xs m ≡ Some x → slice_get xs n ≡ Some x → m ≡ n) → Apart xs
apart_from_once [] once = tt
apart_from_once (x ∷ xs) once = (
  λ h.
      let at : slice_get (x ∷ xs) (suc h.0) ≡ Some x = slice_get-get_or xs h.0 x h.1 ∙ ap Some h.2 in
      let same : 0 ≡ suc h.0 = once 0 (suc h.0) x refl at in
      omega arith,
  apart_from_once xs (λ m n y e f. let same : suc m ≡ suc n = once (suc m) (suc n) y e f in omega arith),
)

from_option_map : {X Y : Type 0} (f : X → Y) (o : Option X) (y : Y) → option_map f o ≡ Some y → (x : X) × (o ≡ Some x) × (f x ≡ y)
from_option_map f None y h = cc
from_option_map f (Some x) y h = (x, refl, cc)

pub choices_are_apart : (net : Net) (rows : RowsValue) (ds : List Decision) → IsChoiceList net rows ds → Apart (map choice_of ds)
choices_are_apart net rows ds list =
    apart_from_once (map choice_of ds)
    (λ m n c e f.
    let a = from_option_map choice_of (slice_get ds m) c (sym (slice_get-map choice_of ds m) ∙ e) in
    let b = from_option_map choice_of (slice_get ds n) c (sym (slice_get-map choice_of ds n) ∙ f) in
    list.once m n a.0 b.0 a.1 b.1 (a.2 ∙ sym b.2))

pub from_map : {X Y : Type 0} (f : X → Y) (xs : List X) (y : Y) → Contains (map f xs) y → (x : X) × Contains xs x × (f x ≡ y)
from_map f [] y h = absurd (omega (arith, h.1))
from_map f (x ∷ xs) y h =
    elim (in_front (f x) y (map f xs) h) [
      | inl e ↦ (x, (0, omega arith, refl), e)
      | inr later ↦ let r = from_map f xs y later in (r.0, Contains-append_right (x ∷ []) xs r.0 r.1, r.2)
    ]

-- one decision more of an undecided choice
pub path_goes_on : (net : Net) (rows : RowsValue) (path : List Decision) (d : Decision) (c : Choice) → choice_of d ≡ c → IsChoiceList net rows path →
    IsUndecided net rows path c → IsChoiceList net rows (path ++ d ∷ [])
path_goes_on net rows path d c is list undecided =
    let apart : Apart (map choice_of path ++ choice_of d ∷ []) =
    apart_append (map choice_of path) (choice_of d ∷ []) (choices_are_apart net rows path list)
    ((λ h. absurd (omega (arith, h.1))), tt)
    (λ x l r.
    let e = from_map choice_of path x l in
    elim (Contains-push_cases [] (choice_of d) x r) [
      | inl none ↦ absurd (omega (arith, none.1))
      | inr same ↦ both_ways (is_decided path c) undecided.undecided (is_decided_by path e.0 c e.1 (e.2 ∙ sym same ∙ is))
    ]) in
    choice_list_from net rows (path ++ d ∷ []) (subst Apart (sym (map-append choice_of path (d ∷ []))) apart)
    (λ e h. elim (Contains-push_cases path d e h) [
      | inl before ↦ All-contains (λ x. Contains (free_choices_of net rows) (choice_of x)) path e list.free before
      | inr same ↦ subst (Contains (free_choices_of net rows)) (sym is ∙ ap choice_of same) undecided.free
    ])

-- what stands at a node of a true tree behind a path, of which no leaf's cost is said to be low or high
abbrev pub Fact : Task → List Decision → Node → Type 0
Fact task path (Inner c) = IsUndecided task.net task.rows path c × Contains task.allowed c
Fact task path Cycle = (cycle : List ℕ) × IsRelaxedCycle task.net task.rows path cycle
Fact task path (Bound k) = RelaxedCosts task.net task.rows path task.penalty k
Fact task path (Open k) =
    RelaxedCosts task.net task.rows path task.penalty k
    × ((c : Choice) × IsUndecided task.net task.rows path c × Contains task.allowed c)
Fact task path Hole = Unit {0}

abbrev pub Facts : Task → List Decision → Shape → Type 0
Facts task path shape = (q : List Decision) (n : Node) → StandsAt shape q n → Fact task (path ++ q) n

pub fact_here : (task : Task) (path : List Decision) (n : Node) → Fact task (path ++ []) n → Fact task path n
fact_here task path n h = subst (λ p. Fact task p n) (append-nil path) h

pub facts_first : (task : Task) (path : List Decision) (c : Choice) (a b : Shape) → Facts task path (branch c a b) → Facts task (path ++ first_decision c ∷ []) a
facts_first task path c a b facts q n h =
    subst (λ p. Fact task p n) (sym (append_assoc path (first_decision c ∷ []) q)) (facts (first_decision c ∷ q) n (inl (refl, h)))

pub facts_second : (task : Task) (path : List Decision) (c : Choice) (a b : Shape) → Facts task path (branch c a b) → Facts task (path ++ second_decision c ∷ []) b
facts_second task path c a b facts q n h =
    subst (λ p. Fact task p n) (sym (append_assoc path (second_decision c ∷ []) q)) (facts (second_decision c ∷ q) n (inr (refl, h)))

-- a leaf that carries a cost of at most c
pub record HasLowLeaf (shape : Shape) (c : ℕ) : Type 0 where
  pub path : List Decision
  pub cost : ℕ
  pub stands : StandsAt shape path (Bound cost) ⊎ StandsAt shape path (Open cost)
  pub low : cost ≤ c

module _ (task : Task) (network : IsNetwork task.net) (sized : IsSized task.net task.rows) (r : RowsValue) (over : DiffersInDecisions task.rows r)
    (locks : KeepsLocked task.rows r)
    (none : HasNoCycle task.net r) (c : ℕ) (costs : Costs task.net r task.penalty c) where
  has_own : (path : List Decision) → IsChoiceList task.net task.rows path → (d : Decision) → Contains path d →
      HasDecision task.net (with_decisions task.net task.rows path) d
  has_own path list d h = has_each task.net network task.rows sized path list d h

  own_locks : (path : List Decision) → IsChoiceList task.net task.rows path → KeepsLocked task.rows (with_decisions task.net task.rows path)
  own_locks path list = locks_of task.net network task.rows sized path list.free

  -- what a path that the rows have costs when relaxed
  relaxed_is_low : (path : List Decision) (k : ℕ) → IsChoiceList task.net task.rows path → ((d : Decision) → Contains path d → HasDecision task.net r d) →
      RelaxedCosts task.net task.rows path task.penalty k → k ≤ c
  relaxed_is_low path k list has low =
      let le : relaxed_cost_of task.net task.rows path low.times task.penalty ≤ cost_of task.net r costs.times task.penalty =
      costs_no_more task.net network task.rows path r over (own_locks path list) locks (has_own path list) has low.times costs.times low.least costs.least task.penalty in
      subst (λ n. k ≤ n) (sym costs.cost) (subst (λ n. n ≤ cost_of task.net r costs.times task.penalty) (sym low.cost) le)

  has_more : (path : List Decision) (d : Decision) → ((e : Decision) → Contains path e → HasDecision task.net r e) → HasDecision task.net r d →
      (e : Decision) → Contains (path ++ d ∷ []) e → HasDecision task.net r e
  has_more path d has here e h =
      elim (Contains-push_cases path d e h) [
        | inl before ↦ has e before
        | inr same ↦ subst (HasDecision task.net r) same here
      ]

  pub has_low_leaf : (shape : Shape) (path : List Decision) → IsProper shape → IsWhole shape → Facts task path shape →
      IsChoiceList task.net task.rows path → ((d : Decision) → Contains path d → HasDecision task.net r d) → HasLowLeaf shape c
  has_low_leaf (leaf (Inner ch)) path proper whole facts list has = elim proper [ ]
  has_low_leaf (leaf Hole) path proper whole facts list has = elim whole [ ]
  has_low_leaf (leaf Cycle) path proper whole facts list has =
      let f = fact_here task path Cycle (facts [] Cycle refl) in
      absurd (relaxed_has_no_cycle task.net network task.rows path r over (own_locks path list) locks (has_own path list) has none f.0 f.1)
  has_low_leaf (leaf (Bound k)) path proper whole facts list has =
      record { path = []; cost = k; stands = inl refl; low = relaxed_is_low path k list has (fact_here task path (Bound k) (facts [] (Bound k) refl)) }
  has_low_leaf (leaf (Open k)) path proper whole facts list has =
      record { path = []; cost = k; stands = inr refl; low = relaxed_is_low path k list has (fact_here task path (Open k) (facts [] (Open k) refl)).0 }
  has_low_leaf (branch ch a b) path proper whole facts list has =
      let here = fact_here task path (Inner ch) (facts [] (Inner ch) refl) in
      let decides = decides_it task.net network task.rows ch here.0.free in
      elim (has_either task.net network task.rows r ch here.0.free) [
        | inl first ↦
            below_first ch a b (has_low_leaf a (path ++ first_decision ch ∷ []) proper.1 whole.0 (facts_first task path ch a b facts)
            (path_goes_on task.net task.rows path (first_decision ch) ch decides.first list here.0) (has_more path (first_decision ch) has first))
        | inr second ↦
            below_second ch a b (has_low_leaf b (path ++ second_decision ch ∷ []) proper.2 whole.1 (facts_second task path ch a b facts)
            (path_goes_on task.net task.rows path (second_decision ch) ch decides.second list here.0) (has_more path (second_decision ch) has second))
      ]
    where
      below_first : (ch : Choice) (a b : Shape) → HasLowLeaf a c → HasLowLeaf (branch ch a b) c
      below_first ch a b h = record {
        path = first_decision ch ∷ h.path;
        cost = h.cost;
        stands = elim h.stands [ inl s ↦ inl (inl (refl, s)) | inr s ↦ inr (inl (refl, s)) ];
        low = h.low;
      }

      below_second : (ch : Choice) (a b : Shape) → HasLowLeaf b c → HasLowLeaf (branch ch a b) c
      below_second ch a b h = record {
        path = second_decision ch ∷ h.path;
        cost = h.cost;
        stands = elim h.stands [ inl s ↦ inl (inr (refl, s)) | inr s ↦ inr (inr (refl, s)) ];
        low = h.low;
      }
