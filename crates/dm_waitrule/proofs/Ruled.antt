-- What a rule's decisions do to rows: they change which free changes are kept, and nothing else, and close no cycle.
use Rattle.std.proofs.Common.{◌≡◌, ℕ, Bool, true, false, List, [], ◌∷◌, ◌++◌, length, set, get_or, Option, Some, refl, sym, ap, subst, ◌∙◌, inl, inr, arith}
use Rattle.std.specs.Prelude.{Contains}
use Rattle.std.proofs.lemmas.List.{get_or-set_other, length-set}
use Rattle.std.proofs.lemmas.List.Elements.{Contains-append_right}
use Rattle.dm_network.specs.Net.{Net}
use Rattle.dm_rows.specs.Active.{HasNoCycle}
use Rattle.dm_rows.specs.Rows.{RowsValue, kept_at}
use Rattle.dm_rows.proofs.Harmless.{dropped}
use Rattle.dm_propagate.proofs.Following.{one_least}
use Rattle.dm_waitrule.specs.Rules.{with_dropped, IsToKeep, Decides, Follows}

-- the rows differ from those before in which of these changes are kept, at most
pub record ChangesKept (before after : RowsValue) (changes : List ℕ) : Type 0 where
  pub is : after ≡ record before { kept = after.kept }
  pub size : length after.kept ≡ length before.kept
  pub others : (a : ℕ) → (Contains changes a → ⊥) → kept_at after a ≡ kept_at before a

changes_nothing : (rows : RowsValue) (changes : List ℕ) → ChangesKept rows rows changes
changes_nothing rows changes = record { is = refl; size = refl; others = λ a h. refl }

changes_one : (rows : RowsValue) (a : ℕ) (kept : Bool) → ChangesKept rows (record rows { kept = set rows.kept a kept }) (a ∷ [])
changes_one rows a kept =
    record {
      is = refl;
      size = length-set rows.kept a kept;
      others = λ b h. get_or-set_other rows.kept a b kept true (λ e. h (0, omega arith, sym e));
    }

one_behind : (rows next ruled : RowsValue) (a : ℕ) (order : List ℕ) → ChangesKept rows next (a ∷ []) → ChangesKept next ruled order →
    ChangesKept rows ruled (a ∷ order)
one_behind rows next ruled a order first rest =
    record {
      is = rest.is ∙ ap (λ (r : RowsValue). record r { kept = ruled.kept }) first.is;
      size = rest.size ∙ first.size;
      others = λ b h.
          rest.others b (λ c. h (Contains-append_right (a ∷ []) order b c))
          ∙ first.others b (λ c. h (in_first b c));
    }
  where
    in_first : (b : ℕ) → Contains (a ∷ []) b → Contains (a ∷ order) b
    in_first b (k, lt, e) =
        let zeroth : k ≡ 0 = omega arith in
        (0, omega arith, subst (λ (n : ℕ). get_or (a ∷ []) n b ≡ b) zeroth e)

pub both_change : (rows next ruled : RowsValue) (order : List ℕ) → ChangesKept rows next order → ChangesKept next ruled order →
    ChangesKept rows ruled order
both_change rows next ruled order first rest =
    record {
      is = rest.is ∙ ap (λ (r : RowsValue). record r { kept = ruled.kept }) first.is;
      size = rest.size ∙ first.size;
      others = λ b h. rest.others b h ∙ first.others b h;
    }

pub dropping : (rows : RowsValue) (order : List ℕ) → ChangesKept rows (with_dropped rows order) order
dropping rows [] = changes_nothing rows []
dropping rows (a ∷ order) =
    let next : RowsValue = record rows { kept = set rows.kept a false } in
    one_behind rows next (with_dropped next order) a order (changes_one rows a false) (dropping next order)

module _ (net : Net) (limit : Option ℕ) where
  decides_one : (rows : RowsValue) (a : ℕ) (next : RowsValue) → Decides net limit rows a next → ChangesKept rows next (a ∷ [])
  decides_one rows a next d =
      elim d.decided [
        | inl kept ↦ subst (λ (r : RowsValue). ChangesKept rows r (a ∷ [])) (sym kept.1) (changes_one rows a true)
        | inr left ↦ subst (λ (r : RowsValue). ChangesKept rows r (a ∷ [])) (sym left.1) (changes_nothing rows (a ∷ []))
      ]

  pub following : (rows ruled : RowsValue) (order : List ℕ) → Follows net limit order rows ruled → ChangesKept rows ruled order
  following rows ruled [] is = subst (λ (r : RowsValue). ChangesKept rows r []) (sym is) (changes_nothing rows [])
  following rows ruled (a ∷ order) (next, d, rest) =
      one_behind rows next ruled a order (decides_one rows a next d) (following next ruled order rest)

  open_behind_one : (rows : RowsValue) (a : ℕ) (next : RowsValue) → HasNoCycle net rows → Decides net limit rows a next → HasNoCycle net next
  open_behind_one rows a next none d =
      elim d.decided [
        | inl kept ↦ subst (HasNoCycle net) (sym kept.1) kept.0.no_cycle
        | inr left ↦ subst (HasNoCycle net) (sym left.1) none
      ]

  open_behind : (rows ruled : RowsValue) (order : List ℕ) → HasNoCycle net rows → Follows net limit order rows ruled → HasNoCycle net ruled
  open_behind rows ruled [] none is = subst (HasNoCycle net) (sym is) none
  open_behind rows ruled (a ∷ order) none (next, d, rest) = open_behind next ruled order (open_behind_one rows a next none d) rest

  -- the rule's rows are one
  one_next : (rows : RowsValue) (a : ℕ) (next other : RowsValue) → Decides net limit rows a next → Decides net limit rows a other → next ≡ other
  one_next rows a next other d e =
      let same : e.times ≡ d.times = one_least net rows e.times d.times e.least d.least in
      elim d.decided [
        | inl kept ↦ elim e.decided [
          | inl too ↦ kept.1 ∙ sym too.1
          | inr left ↦ absurd (left.0 (subst (IsToKeep net rows limit a) (sym same) kept.0))
        ]
        | inr left ↦ elim e.decided [
          | inl kept ↦ absurd (left.0 (subst (IsToKeep net rows limit a) same kept.0))
          | inr too ↦ left.1 ∙ sym too.1
        ]
      ]

  pub one_ruled : (rows ruled other : RowsValue) (order : List ℕ) → Follows net limit order rows ruled → Follows net limit order rows other → ruled ≡ other
  one_ruled rows ruled other [] is too = is ∙ sym too
  one_ruled rows ruled other (a ∷ order) (next, d, rest) (next', e, rest') =
      one_ruled next ruled other order rest
      (subst (λ (r : RowsValue). Follows net limit order r other) (sym (one_next rows a next next' d e)) rest')

  -- and one decision more
  pub one_more : (order : List ℕ) (a : ℕ) (rows ruled next : RowsValue) → Follows net limit order rows ruled → Decides net limit ruled a next →
      Follows net limit (order ++ a ∷ []) rows next
  one_more [] a rows ruled next is d = (next, subst (λ (r : RowsValue). Decides net limit r a next) is d, refl)
  one_more (b ∷ order) a rows ruled next (middle, e, rest) d = (middle, e, one_more order a middle ruled next rest d)

pub open_dropped : (net : Net) (rows : RowsValue) (order : List ℕ) → HasNoCycle net rows → HasNoCycle net (with_dropped rows order)
open_dropped net rows [] none = none
open_dropped net rows (a ∷ order) none = open_dropped net (record rows { kept = set rows.kept a false }) order (dropped net rows (Some a) none)

pub open_ruled : (net : Net) (limit : Option ℕ) (rows ruled : RowsValue) (order : List ℕ) → HasNoCycle net rows →
    Follows net limit order (with_dropped rows order) ruled → HasNoCycle net ruled
open_ruled net limit rows ruled order none follows =
    open_behind net limit (with_dropped rows order) ruled order (open_dropped net rows order none) follows
