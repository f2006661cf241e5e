-- Marks, set and taken away.
use Rattle.std.proofs.Common.{◌≡◌, ℕ, ◌+◌, ◌<◌, Bool, true, false, List, length, sym, subst, ◌∙◌, ◌⊎◌, inl, inr, arith, get_or-set_same, get_or-set_other}
use Rattle.std.specs.Prelude.{slice_set}
use Rattle.std.proofs.lemmas.Bool.{cases_lt, cases_eq}
use Rattle.dm_marks.specs.Marked.{is_marked, IsFirstFrom, NoneFrom}

pub mark_here : (marks : List Bool) (e : ℕ) (b : Bool) → e < length marks → is_marked (slice_set marks e b) e ≡ b
mark_here marks e b below = get_or-set_same marks e b false below

pub mark_there : (marks : List Bool) (e k : ℕ) (b : Bool) → (k ≡ e → ⊥) → is_marked (slice_set marks e b) k ≡ is_marked marks k
mark_there marks e k b ne = get_or-set_other marks e k b false ne

-- what was marked is still where one more is
pub mark_still : (marks : List Bool) (e k : ℕ) → e < length marks → is_marked marks k ≡ true → is_marked (slice_set marks e true) k ≡ true
mark_still marks e k below was =
    elim (cases_eq k e) [
      | inl is ↦ subst (λ (j : ℕ). is_marked (slice_set marks e true) j ≡ true) (sym is) (mark_here marks e true below)
      | inr ne ↦ mark_there marks e k true ne ∙ was
    ]

-- what is marked was, or is the place that was marked last
pub marked_if : (marks : List Bool) (e k : ℕ) → is_marked (slice_set marks e true) k ≡ true → (is_marked marks k ≡ true) ⊎ (k ≡ e)
marked_if marks e k now =
    elim (cases_eq k e) [
      | inl is ↦ inr is
      | inr ne ↦ inl (sym (mark_there marks e k true ne) ∙ now)
    ]

-- marks taken away one after the other
pub cleared_next : (marks found now : List Bool) (start event : ℕ) → found ≡ marks → now ≡ slice_set found event false → IsFirstFrom marks start event → ((k : ℕ) → k < start → is_marked marks k ≡ false) →
    (k : ℕ) → k < event + 1 → is_marked now k ≡ false
cleared_next marks found now start event same is first before k below =
    subst (λ (m : List Bool). is_marked m k ≡ false) (sym is)
    (subst (λ (m : List Bool). is_marked (slice_set m event false) k ≡ false) (sym same)
    (elim (cases_eq k event) [
      | inl here ↦ subst (λ (j : ℕ). is_marked (slice_set marks event false) j ≡ false) (sym here) (mark_here marks event false first.within)
      | inr ne ↦ mark_there marks event k false ne ∙ elim (cases_lt k start) [
        | inl less ↦ before k less
        | inr from ↦ first.none_between k from (omega arith)
      ]
    ]))

pub none_at_all : (marks found : List Bool) (start : ℕ) → found ≡ marks → ((k : ℕ) → k < start → is_marked marks k ≡ false) → NoneFrom marks start → (k : ℕ) → is_marked found k ≡ false
none_at_all marks found start same before behind k =
    subst (λ (m : List Bool). is_marked m k ≡ false) (sym same)
    (elim (cases_lt k start) [
      | inl less ↦ before k less
      | inr from ↦ behind k from
    ])
