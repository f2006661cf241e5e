-- Decisions of a list resolved one after another.
use Rattle.std.proofs.Common.{◌≡◌, ℕ, ◌+◌, ◌<◌, ◌≤◌, List, [], ◌∷◌, ◌++◌, length, take, get_or, Some, arith, inl, inr, sym, ◌∙◌, subst, ap}
use Rattle.std.proofs.lemmas.Bool.{cases_lt}
use Rattle.std.proofs.lemmas.List.Elements.{All-push}
use Rattle.std.proofs.lemmas.List.Sums.{fold_more}
use Rattle.std.proofs.lemmas.Option.{slice_get-get_or, slice_get_within}
use Rattle.std.specs.Prelude.{All, slice_get}
use Rattle.dm_network.specs.Net.{Net}
use Rattle.dm_rows.specs.declared.messages.Decision.{Decision}
use Rattle.dm_rows.specs.declared.messages.Flip.{Flip}
use Rattle.dm_rows.specs.declared.messages.Refusal.{Refusal}
use Rattle.dm_rows.specs.Rows.{RowsValue}
use Rattle.dm_rows.specs.Resolve.{flips_named, flip_named, with_next}
use Rattle.dm_rows.specs.Reach.{ReachesFlip}
use Rattle.dm_rows.specs.Refuse.{PassesDecision, RefusesSome}

-- the first n decisions are these flips, and nothing refuses them
pub record HasNamed (net : Net) (rows : RowsValue) (decisions : List Decision) (n : ℕ) (flips : List Flip) : Type 0 where
  pub named : flips_named net (take n decisions) ≡ Some flips
  pub reaches : All (ReachesFlip rows) flips
  pub passed : (k : ℕ) (d : Decision) → k < n → slice_get decisions k ≡ Some d → PassesDecision net rows d

-- the decision at a place, as a look-up gives it
pub stands_at : (decisions : List Decision) (n : ℕ) (d : Decision) → n < length decisions → d ≡ get_or decisions n d →
    slice_get decisions n ≡ Some d
stands_at decisions n d below is = slice_get-get_or decisions n d below ∙ ap Some (sym is)

same_decision : (decisions : List Decision) (n : ℕ) (d e : Decision) → slice_get decisions n ≡ Some d →
    slice_get decisions n ≡ Some e → d ≡ e
same_decision decisions n d e p q = cc

named_more : (net : Net) (decisions : List Decision) (n : ℕ) (flips : List Flip) (d : Decision) (flip : Flip) →
    flips_named net (take n decisions) ≡ Some flips → n < length decisions → d ≡ get_or decisions n d →
    flip_named net d ≡ Some flip → flips_named net (take (n + 1) decisions) ≡ Some (flips ++ flip ∷ [])
named_more net decisions n flips d flip named below is found =
    fold_more (λ fs e. with_next fs (flip_named net e)) (Some []) decisions n d below
    ∙ ap (λ fs. with_next fs (flip_named net (get_or decisions n d))) named
    ∙ ap (λ e. with_next (Some flips) (flip_named net e)) (sym is)
    ∙ ap (with_next (Some flips)) found

pub one_more_named : (net : Net) (rows : RowsValue) (decisions : List Decision) (n : ℕ) (flips : List Flip) (d : Decision) (flip : Flip) →
    HasNamed net rows decisions n flips → n < length decisions → d ≡ get_or decisions n d → flip_named net d ≡ Some flip →
    ReachesFlip rows flip → PassesDecision net rows d → HasNamed net rows decisions (n + 1) (flips ++ flip ∷ [])
one_more_named net rows decisions n flips d flip had below is found reaches passes =
    record {
      named = named_more net decisions n flips d flip had.named below is found;
      reaches = All-push (ReachesFlip rows) flips flip had.reaches reaches;
      passed = λ k e lt stands.
          elim (cases_lt k n) [
            | inl before ↦ had.passed k e before stands
            | inr past ↦
                let here : k ≡ n = omega arith in
                let there : slice_get decisions n ≡ Some e = subst (λ (j : ℕ). slice_get decisions j ≡ Some e) here stands in
                subst (PassesDecision net rows) (same_decision decisions n d e (stands_at decisions n d below is) there) passes
          ];
    }

-- nothing refuses a list of which nothing refuses any decision
pub none_refused : (net : Net) (rows : RowsValue) (decisions : List Decision) (n : ℕ) (flips : List Flip) →
    HasNamed net rows decisions n flips → length decisions ≤ n → (r : Refusal) → RefusesSome net rows decisions r → ⊥
none_refused net rows decisions n flips had all r some =
    had.passed some.at some.decision (let lt : some.at < length decisions = slice_get_within decisions some.at some.decision some.stands in omega arith) some.stands r some.refused
