-- How each kind of step leaves the views to the word.
use Rattle.std.proofs.Common.{◌≡◌, ◌≢◌, ◌⊎◌, ℕ, ◌≤◌, List, [], ◌∷◌, ◌++◌, set, min, Contains, refl, ap, sym, ◌∙◌, subst, arith, inl, inr, ⊎_elim, lt_of_not-le}
use mathlib.Core.Logic.{dite}
use native.Mathlib.Decide.{ℕ_discrete, dec_le}
use mathlib.Core.Option.{some, some-injective}
use lib.ListN.{get_elem?}
use Rattle.atomic_table.proofs.Lists.{set_else, at_snoc, at_longer}
use Rattle.std.proofs.lemmas.List.Elements.{All-nil, All-append, All-push, All-weaker, Contains-append_left, Contains-append_right, Contains-push}
use Rattle.std.proofs.lemmas.List.Sums.{sum_by_push}
use Rattle.dm_bound.specs.Words.{nothing_looked}
use Rattle.dm_bound.specs.Rule.{spent, IsLive, IsReached, Stands}
use Rattle.dm_bound.specs.Inside.Steps.{cut_off, left_over, joined, listing, seeing}
use Rattle.dm_bound.specs.declared.view.View.{View}
use Rattle.dm_base.proofs.Counts.{set_there, each_set, sum_set}

abbrev room_of : View → ℕ
room_of v = v.room

module _ (start seats : ℕ) where
  abbrev Stand : ℕ → List View → Type 0
  Stand = Stands start seats

  abbrev Fit : ℕ → View → Type 0
  Fit best v = (v ≡ spent) ⊎ IsLive start seats best v

  pub live_of : (best : ℕ) (v : View) → Fit best v → 1 ≤ v.room → IsLive start seats best v
  live_of best v (inl is) room = let none_left : v.room ≡ 0 = ap room_of is in absurd (omega (arith, none_left, room))
  live_of best v (inr live) room = live

  -- a lower word fits as well
  fit_lower : (best low : ℕ) (v : View) → low ≤ best → Fit best v → Fit low v
  fit_lower best low v le (inl is) = inl is
  fit_lower best low v le (inr live) = inr (record {
    room = live.room;
    start_is = live.start_is;
    seats_is = live.seats_is;
    costs = All-weaker (λ (c : ℕ). best ≤ c) (λ (c : ℕ). low ≤ c) (λ c h. omega (arith, le, h)) v.lowered live.costs;
    looked = omega (arith, le, live.looked);
  })

  -- what was listed in one view is listed still, where the new one lists no less
  reached_set : (best : ℕ) (views : List View) (i : ℕ) (v w : View) → get_elem? views i ≡ some v → (Contains v.lowered best → Contains w.lowered best)
      → IsReached start seats best views → IsReached start seats best (set views i w)
  reached_set best views i v w at keeps (inl e) = inl e
  reached_set best views i v w at keeps (inr h) = inr (dite (ℕ_discrete h.0 i)
      (λ e. let same : h.1 ≡ v = some-injective h.1 v (sym h.2 ∙ (ap (λ (j : ℕ). get_elem? views j) e ∙ at)) in
      (i, w, set_there views i v w at, keeps (subst (λ (u : View). Contains u.lowered best) same h.3)))
      (λ ne. (h.0, h.1, set_else views i h.0 w ne ∙ h.2, h.3)))

  pub stand_lower : (best : ℕ) (views : List View) (i : ℕ) (v : View) (cost : ℕ) → Stand best views → get_elem? views i ≡ some v → 1 ≤ v.room
      → Stand (min best cost) (set views i (listing v cost))
  stand_lower best views i v cost st at room =
      let low = min best cost in
      let w : View = listing v cost in
      let live = live_of best v (st.each i v at) room in
      let le : low ≤ best = omega arith in
      let fits : Fit low w = inr (record {
        room = live.room;
        start_is = live.start_is;
        seats_is = live.seats_is;
        costs = All-push (λ (c : ℕ). low ≤ c) v.lowered cost
            (All-weaker (λ (c : ℕ). best ≤ c) (λ (c : ℕ). low ≤ c) (λ c h. omega (arith, h)) v.lowered live.costs) (omega arith);
        looked = omega (arith, live.looked);
      }) in
      record {
        each = each_set (Fit low) views i w (λ j u ne e. fit_lower best low u le (st.each j u e)) fits;
        below_start = omega (arith, st.below_start);
        reached = dite (dec_le best cost)
            (λ few. let same : best ≡ low = omega (arith, few) in subst (λ (b : ℕ). IsReached start seats b (set views i w)) same
            (reached_set best views i v w at (λ in'. Contains-append_left v.lowered (cost ∷ []) best in') st.reached))
            (λ many. let more = lt_of_not-le many in let same : cost ≡ low = omega (arith, more) in
            inr (i, w, set_there views i v w at, subst (λ (b : ℕ). Contains (v.lowered ++ cost ∷ []) b) same (Contains-push v.lowered cost)));
        all_rooms = omega (arith, sum_set room_of views i v w at, st.all_rooms);
      }

  pub stand_look : (best : ℕ) (views : List View) (i : ℕ) (v : View) → Stand best views → get_elem? views i ≡ some v → 1 ≤ v.room
      → Stand best (set views i (seeing v best))
  stand_look best views i v st at room =
      let w : View = seeing v best in
      let live = live_of best v (st.each i v at) room in
      let fits : Fit best w = inr (record {
        room = live.room;
        start_is = live.start_is;
        seats_is = live.seats_is;
        costs = live.costs;
        looked = omega (arith, live.looked);
      }) in
      record {
        each = each_set (Fit best) views i w (λ j u ne e. st.each j u e) fits;
        below_start = st.below_start;
        reached = reached_set best views i v w at (λ in'. in') st.reached;
        all_rooms = omega (arith, sum_set room_of views i v w at, st.all_rooms);
      }

  pub stand_split : (best : ℕ) (views : List View) (i : ℕ) (v : View) → Stand best views → get_elem? views i ≡ some v → 2 ≤ v.room → best ≤ nothing_looked
      → Stand best (set views i (left_over v) ++ cut_off v ∷ [])
  stand_split best views i v st at room small =
      let w : View = left_over v in
      let new : View = cut_off v in
      let vs = set views i w in
      let live = live_of best v (st.each i v at) (omega (arith, room)) in
      let left : Fit best w = inr (record {
        room = omega (arith, room);
        start_is = live.start_is;
        seats_is = live.seats_is;
        costs = live.costs;
        looked = live.looked;
      }) in
      let right : Fit best new = inr (record {
        room = omega arith;
        start_is = live.start_is;
        seats_is = live.seats_is;
        costs = All-nil (λ (c : ℕ). best ≤ c);
        looked = small;
      }) in
      record {
        each = λ j u e. ⊎_elim (λ (h : get_elem? vs j ≡ some u). each_set (Fit best) views i w (λ k z ne f. st.each k z f) left j u h)
            (λ (same : new ≡ u). subst (Fit best) same right) (at_snoc vs new u j e);
        below_start = st.below_start;
        reached = longer (reached_set best views i v w at (λ in'. in') st.reached);
        all_rooms = omega (arith, room, sum_set room_of views i v w at, sum_by_push room_of vs new, st.all_rooms);
      } where
        longer : IsReached start seats best (set views i (left_over v)) → IsReached start seats best (set views i (left_over v) ++ cut_off v ∷ [])
        longer (inl e) = inl e
        longer (inr h) = inr (h.0, h.1, at_longer (set views i (left_over v)) (cut_off v ∷ []) h.0 h.1 h.2, h.3)

  pub stand_join : (best : ℕ) (views : List View) (i j : ℕ) (v w : View) → Stand best views → get_elem? views i ≡ some v → j ≢ i
      → get_elem? (set views i (joined v w)) j ≡ some w → 1 ≤ v.room → 1 ≤ w.room → Stand best (set (set views i (joined v w)) j spent)
  stand_join best views i j v w st at ne there' room room' =
      let u : View = joined v w in
      let there : get_elem? views j ≡ some w = sym (set_else views i j u ne) ∙ there' in
      let vs = set views i u in
      let live = live_of best v (st.each i v at) room in
      let live' = live_of best w (st.each j w there) room' in
      let fits : Fit best u = inr (record {
        room = omega (arith, room);
        start_is = live.start_is;
        seats_is = live.seats_is;
        costs = All-append (λ (c : ℕ). best ≤ c) v.lowered w.lowered live.costs live'.costs;
        looked = omega (arith, live.looked, live'.looked);
      }) in
      let at' : get_elem? (set vs j spent) i ≡ some u = set_else vs j i spent (λ e. ne (sym e)) ∙ set_there views i v u at in
      record {
        each = each_set (Fit best) vs j spent (λ k z _ f. each_set (Fit best) views i u (λ k' z' _ f'. st.each k' z' f') fits k z f) (inl refl);
        below_start = st.below_start;
        reached = reaches st.reached at';
        all_rooms = omega (arith, sum_set room_of views i v u at, sum_set room_of vs j w spent there', st.all_rooms);
      } where
        reaches : IsReached start seats best views → get_elem? (set (set views i (joined v w)) j spent) i ≡ some (joined v w)
            → IsReached start seats best (set (set views i (joined v w)) j spent)
        reaches (inl e) at' = inl e
        reaches (inr h) at' = inr (dite (ℕ_discrete h.0 i)
            (λ e. let same : h.1 ≡ v = some-injective h.1 v (sym h.2 ∙ (ap (λ (k : ℕ). get_elem? views k) e ∙ at)) in
            (i, joined v w, at', Contains-append_left v.lowered w.lowered best (subst (λ (z : View). Contains z.lowered best) same h.3)))
            (λ ni. dite (ℕ_discrete h.0 j)
            (λ e. let same : h.1 ≡ w = some-injective h.1 w (sym h.2 ∙ (ap (λ (k : ℕ). get_elem? views k) e ∙ (sym (set_else views i j (joined v w) ne) ∙ there'))) in
            (i, joined v w, at', Contains-append_right v.lowered w.lowered best (subst (λ (z : View). Contains z.lowered best) same h.3)))
            (λ nj. (h.0, h.1, set_else (set views i (joined v w)) j h.0 spent nj ∙ (set_else views i h.0 (joined v w) ni ∙ h.2), h.3))))
