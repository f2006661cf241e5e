-- Each step keeps the rule of the word.
use Rattle.std.proofs.Common.{◌≡◌, ◌≢◌, ◌⊎◌, ℕ, zero, suc, ◌≤◌, List, [], ◌∷◌, set, slice_index, min, Contains, refl, ap, sym, ◌∙◌, subst, arith, inl, inr}
use mathlib.Core.Logic.{dite}
use native.Mathlib.Decide.{ℕ_discrete}
use mathlib.Core.Option.{none, some, some-injective, some-ne-none}
use lib.ListN.{get_elem?}
use Rattle.atomic_table.specs.Table.{State, keeps, step, Allows, Splits, Joins, Final, Seen, opening}
use Rattle.std.proofs.lemmas.List.Elements.{All-nil}
use Rattle.dm_bound.specs.Words.{lowest, nothing_looked}
use Rattle.dm_bound.specs.Rule.{spent, IsLive, IsReached, Stands, Rule}
use Rattle.dm_bound.specs.Inside.Steps.{Sat, Lowered, Looked, cut_off, left_over, joined, listing, seeing, opening_view}
use Rattle.dm_bound.specs.declared.view.View.{View}
use Rattle.dm_base.proofs.Counts.{sum_two}
use Rattle.dm_bound.proofs.Lowest.{above_lowest, lowest_is}
use Rattle.dm_bound.proofs.Standing.{live_of, stand_lower, stand_look, stand_split, stand_join}

module _ (start seats : ℕ) where
  abbrev Holds : State ℕ View → Type 0
  Holds = Rule start seats

  pub lowers : (slots id cost : ℕ) (me : Sat) → 1 ≤ me.0.room → Allows Holds slots id me 0 (λ n. min n cost) (Lowered (step slots 0 cost 0 none) me)
  lowers slots id cost me room s r len at small = (
    listing me.0 cost,
    keeps,
    tt,
    record {
      best = min r.best cost;
      word = ap (λ (ws : List ℕ). set ws 0 (min (slice_index ws 0) cost)) r.word;
      views = stand_lower start seats r.best s.views id me.0 cost r.views at room;
    },
    refl,
  )

  pub looks : (slots id : ℕ) (me : Sat) → 1 ≤ me.0.room → Allows Holds slots id me 0 (λ n. n) (Looked (step slots 0 0 0 none) me)
  looks slots id me room s r len at small =
      let found : slice_index s.words 0 ≡ r.best = ap (λ (ws : List ℕ). slice_index ws 0) r.word in
      let live = live_of start seats r.best me.0 (r.views.each id me.0 at) room in
      let low : r.best ≤ lowest me.0.start me.0.lowered =
      above_lowest r.best me.0.start me.0.lowered (omega (arith, live.start_is, r.views.below_start)) live.costs in (
        seeing me.0 r.best,
        keeps,
        tt,
        record {
          best = r.best;
          word = ap (λ (ws : List ℕ). set ws 0 (slice_index ws 0)) r.word;
          views = stand_look start seats r.best s.views id me.0 r.views at room;
        },
        (ap (λ (b : ℕ). let z : Sat = (seeing me.0 b, me.1) in z) (sym found), omega (arith, found, low)),
      )

  pub splits : (id : ℕ) (v : View) → 2 ≤ v.room → start ≤ nothing_looked → Splits Holds id v (left_over v) (cut_off v)
  splits id v room small s r at = record {
    best = r.best;
    word = r.word;
    views = stand_split start seats r.best s.views id v r.views at room (omega (arith, small, r.views.below_start));
  }

  pub joins : (id : ℕ) (v : View) (other : ℕ) (w : View) → 1 ≤ v.room → 1 ≤ w.room → Joins Holds id v other w (joined v w) spent
  joins id v other w room room' s r at ne there = record {
    best = r.best;
    word = r.word;
    views = stand_join start seats r.best s.views id other v w r.views at ne there room room';
  }

  -- a new word keeps the rule
  pub opens : 1 ≤ seats → start ≤ nothing_looked → Holds (opening (start ∷ []) [] (opening_view start seats))
  opens some_seat small = record {
    best = start;
    word = refl;
    views = record { each = first_fits; below_start = omega arith; reached = inl refl; all_rooms = omega arith };
  } where
    first_fits : (i : ℕ) (u : View) → get_elem? (opening_view start seats ∷ []) i ≡ some u → (u ≡ spent) ⊎ IsLive start seats start u
    first_fits zero u e = inr (subst (IsLive start seats start) (some-injective (opening_view start seats) u e) (record {
      room = some_seat;
      start_is = refl;
      seats_is = refl;
      costs = All-nil (λ (c : ℕ). start ≤ c);
      looked = small;
    }))
    first_fits (suc i) u e = absurd (some-ne-none u (sym e))

  -- what a hand with all rooms finds at the end
  pub closes : (id : ℕ) (v : View) (ws xs : List ℕ) → 1 ≤ v.room → v.room ≡ seats → Final (Seen Holds id v) ws xs
      → (ws ≡ lowest v.start v.lowered ∷ []) × (lowest v.start v.lowered ≤ v.looked)
  closes id v ws xs room all end =
      let s = end.0 in let r = end.1.0 in let at = end.1.1 in
      let live = live_of start seats r.best v (r.views.each id v at) room in
      let reached : (r.best ≡ v.start) ⊎ Contains v.lowered r.best = own r.best s.views r.views at r.views.reached live.start_is in
      let is : r.best ≡ lowest v.start v.lowered =
      lowest_is r.best v.start v.lowered (omega (arith, live.start_is, r.views.below_start)) live.costs reached in
      (sym end.2 ∙ (r.word ∙ ap (λ (b : ℕ). b ∷ []) is), omega (arith, is, live.looked)) where
        own : (best : ℕ) (views : List View) → Stands start seats best views → get_elem? views id ≡ some v → IsReached start seats best views → v.start ≡ start
            → (best ≡ v.start) ⊎ Contains v.lowered best
        own best views st at (inl e) same = inl (e ∙ sym same)
        own best views st at (inr h) same = inr (dite (ℕ_discrete h.0 id)
            (λ e. let is : h.1 ≡ v = some-injective h.1 v (sym h.2 ∙ (ap (λ (j : ℕ). get_elem? views j) e ∙ at)) in
            subst (λ (u : View). Contains u.lowered best) is h.3)
            (λ ne. lone best views st at h.0 h.1 h.2 ne h.3 (st.each h.0 h.1 h.2))) where
              lone : (best : ℕ) (views : List View) → Stands start seats best views → get_elem? views id ≡ some v → (j : ℕ) (u : View) → get_elem? views j ≡ some u
                  → j ≢ id → Contains u.lowered best → (u ≡ spent) ⊎ IsLive start seats best u → Contains v.lowered best
              lone best views st at j u there ne in' (inl is) = let none_in = subst (λ (z : View). Contains z.lowered best) is in' in absurd (omega (arith, none_in.1))
              lone best views st at j u there ne in' (inr live) =
                  absurd (omega (arith, live.room, all, st.all_rooms, sum_two (λ (z : View). z.room) views id j v u at there ne))
