-- How each kind of step leaves the views to the history and the tickets.
use Rattle.std.proofs.Common.{◌≡◌, ◌≢◌, ℕ, ◌+◌, ◌-◌, ◌<◌, ◌≤◌, Bool, true, false, cond, eqb, List, [], ◌∷◌, ◌++◌, length, set, refl, ap, sym, ◌∙◌, subst, arith, inl, inr, ⊎_elim, eq-eqb, ne_eqb, length-append, lt_of_not-le, Some, slice_get, ltb, ltb-true, ltb-false}
use Rattle.std.specs.List.{sum_by}
use mathlib.Core.List.{IsPrefix}
use mathlib.Core.Logic.{dite}
use native.Mathlib.Decide.{ℕ_discrete, dec_le}
use mathlib.Core.Option.{some, some-injective}
use lib.ListN.{get_elem?}
use Rattle.atomic_table.proofs.Lists.{set_else, at_snoc, at_longer}
use Rattle.dm_rows.specs.declared.messages.Entry.{Entry}
use Rattle.std.proofs.lemmas.List.Elements.{All-nil, All-push, All-append}
use Rattle.std.proofs.lemmas.List.Sums.{sum_by_push, sum_by-append}
use Rattle.dm_turn.specs.Passes.{times, numbered, longer, AreEntriesOf}
use Rattle.dm_turn.specs.Inside.Steps.{gained, left_over, cut_off, joined, shorter}
use Rattle.dm_turn.specs.declared.view.Numbered.{Numbered}
use Rattle.dm_turn.specs.Rule.{is_served, is_queued, has_ticket, spent, with_ticket, queued, served, owned, rooms, IsAtTurn, Fits, Stands}
use Rattle.dm_turn.specs.declared.view.View.{View}
use Rattle.dm_turn.specs.declared.view.Phase.{Phase}
use Rattle.dm_turn.specs.declared.view.Phase.TheVariants.{Idle, Waiting, Served}
use Rattle.dm_base.proofs.Counts.{set_there, each_set, sum_set, sum_at}
use Rattle.dm_turn.proofs.Fronts.{prefix_self, prefix_trans, prefix_shorter, prefix_whole, get_last}
use Rattle.dm_turn.proofs.Views.{one_if, one_of, none_of, live_of, one_served, fits_longer, entries_longer}

module _ {S B : Type 0} (history : S → List Entry) (base : S → B) (opened : S) (seats : ℕ) where
  abbrev Stand : List Entry → ℕ → ℕ → List (View B) → Type 0
  Stand = Stands history base opened seats

  -- some view has seen the whole history
  abbrev Known : List Entry → List (View B) → Type 0
  Known log views = (p : ℕ) × (k : View B) × (get_elem? views p ≡ some k) × (1 ≤ k.room) × (k.seen ≡ log)

  -- where one view changes, and has seen no less of it
  known_set : (log : List Entry) (views : List (View B)) (i : ℕ) (v w : View B) → Known log views → get_elem? views i ≡ some v
      → (v.seen ≡ log → w.seen ≡ log) → 1 ≤ w.room → Known log (set views i w)
  known_set log views i v w known at keeps room = dite (ℕ_discrete known.0 i)
      (λ e. let same : known.1 ≡ v = some-injective known.1 v (sym known.2 ∙ (ap (λ (j : ℕ). get_elem? views j) e ∙ at)) in
      (i, w, set_there views i v w at, room, keeps (sym (ap (λ (z : View B). z.seen) same) ∙ known.4)))
      (λ ne. (known.0, known.1, set_else views i known.0 w ne ∙ known.2, known.3, known.4))

  known : (log : List Entry) (s n : ℕ) (views : List (View B)) → Stand log s n views → Known log views
  known log s n views st = (st.place, st.knower, st.stands, st.has_room, st.whole)

  -- where every view fits, and tickets, queue, own numbers and rooms are as many as before, all stands as before
  stand_alike : (log : List Entry) (s n : ℕ) (views vs : List (View B)) → Stand log s n views
      → ((j : ℕ) (u : View B) → get_elem? vs j ≡ some u → Fits history base opened seats log s u) → Known log vs
      → ((k : ℕ) → with_ticket k vs ≡ with_ticket k views) → queued vs ≡ queued views → ((k : ℕ) → owned k vs ≡ owned k views)
      → rooms vs ≡ rooms views → Stand log s n vs
  stand_alike log s n views vs st each kn ticket line own all = record {
    each = each;
    place = kn.0;
    knower = kn.1;
    stands = kn.2;
    has_room = kn.3;
    whole = kn.4;
    in_queue = λ k a b. ticket k ∙ st.in_queue k a b;
    before_queue = λ k a. ticket k ∙ st.before_queue k a;
    behind_queue = λ k a. ticket k ∙ st.behind_queue k a;
    queue_length = omega (arith, line, st.queue_length);
    once = λ k a b. own k ∙ st.once k a b;
    none_opened = λ k a. own k ∙ st.none_opened k a;
    none_later = λ k a. own k ∙ st.none_later k a;
    all_rooms = all ∙ st.all_rooms;
  }

  -- where two views become one, which has seen the whole history if one of them has
  known_join : (log : List Entry) (views : List (View B)) (i j : ℕ) (v w u : View B) → Known log views → get_elem? views i ≡ some v → j ≢ i
      → get_elem? views j ≡ some w → 1 ≤ u.room → (v.seen ≡ log → u.seen ≡ log) → (w.seen ≡ log → u.seen ≡ log) → Known log (set (set views i u) j spent)
  known_join log views i j v w u known at ne there room left right = dite (ℕ_discrete known.0 i)
      (λ e. let same : known.1 ≡ v = some-injective known.1 v (sym known.2 ∙ (ap (λ (k : ℕ). get_elem? views k) e ∙ at)) in
      (i, u, both, room, left (sym (ap (λ (z : View B). z.seen) same) ∙ known.4)))
      (λ ni. dite (ℕ_discrete known.0 j)
      (λ e. let same : known.1 ≡ w = some-injective known.1 w (sym known.2 ∙ (ap (λ (k : ℕ). get_elem? views k) e ∙ there)) in
      (i, u, both, room, right (sym (ap (λ (z : View B). z.seen) same) ∙ known.4)))
      (λ nj. (known.0, known.1, set_else (set views i u) j known.0 spent nj ∙ (set_else views i known.0 u ni ∙ known.2), known.3, known.4))) where
        both : get_elem? (set (set views i u) j spent) i ≡ some u
        both = set_else (set views i u) j i spent (λ e. ne (sym e)) ∙ set_there views i v u at

  -- a ticket in the queue is one of those from the served one up to the next
  pub in_range : (log : List Entry) (s n : ℕ) (views : List (View B)) (i : ℕ) (v : View B) (t : ℕ) → Stand log s n views → get_elem? views i ≡ some v
      → has_ticket t v.phase ≡ true → (s ≤ t) × (t < n)
  in_range log s n views i v t st at has = (above (dec_le s t), below (dec_le n t)) where
    one : 1 ≤ with_ticket t views
    one = omega (arith, sum_at (λ (z : View B). one_if (has_ticket t z.phase)) views i v at, one_of (has_ticket t v.phase) has)

    above : Dec (s ≤ t) → s ≤ t
    above (yes d) = d
    above (no d) = absurd (omega (arith, one, st.before_queue t (lt_of_not-le d)))

    below : Dec (n ≤ t) → t < n
    below (yes d) = absurd (omega (arith, one, st.behind_queue t d))
    below (no d) = lt_of_not-le d

  pub stand_draw : (log : List Entry) (s n : ℕ) (views : List (View B)) (i : ℕ) (v : View B) → Stand log s n views → get_elem? views i ≡ some v
      → 1 ≤ v.room → v.phase ≡ Idle → Stand log s (n + 1) (set views i (record v { phase = Waiting n }))
  stand_draw log s n views i v st at room idle =
      let w : View B = record v { phase = Waiting n } in
      let fit = st.each i v at in
      let ticket : (k : ℕ) → with_ticket k (set views i w) ≡ with_ticket k views + one_if (eqb n k) =
      λ k. omega (arith, sum_set (λ (z : View B). one_if (has_ticket k z.phase)) views i v w at, ap (λ (p : Phase). one_if (has_ticket k p)) idle) in
      let line : queued (set views i w) ≡ queued views + 1 =
      omega (arith, sum_set (λ (z : View B). one_if (is_queued z.phase)) views i v w at, ap (λ (p : Phase). one_if (is_queued p)) idle) in
      let kn = known_set log views i v w (known log s n views st) at (λ e. e) room in
      let fits : Fits history base opened seats log s w = record { seen = fit.seen; told = fit.told; at_turn = tt; own = fit.own; live = inr (let l = live_of history base opened seats v fit.live room in record { room = l.room; base_is = l.base_is; opening_is = l.opening_is; seats_is = l.seats_is }) } in
      record {
        each = each_set (Fits history base opened seats log s) views i w (λ j u ne e. st.each j u e) fits;
        place = kn.0;
        knower = kn.1;
        stands = kn.2;
        has_room = kn.3;
        whole = kn.4;
        in_queue = λ k a b. dite (ℕ_discrete n k)
            (λ e. omega (arith, ticket k, one_of (eqb n k) (eq-eqb n k e), st.behind_queue k (omega (arith, e))))
            (λ ne. omega (arith, ticket k, none_of (eqb n k) (ne_eqb n k ne), st.in_queue k a (omega (arith, b, ne))));
        before_queue = λ k a. omega (arith, ticket k, none_of (eqb n k) (ne_eqb n k (λ e. omega (arith, e, a, st.queue_length))), st.before_queue k a);
        behind_queue = λ k a. omega (arith, ticket k, none_of (eqb n k) (ne_eqb n k (λ e. omega (arith, e, a))), st.behind_queue k (omega (arith, a)));
        queue_length = omega (arith, line, st.queue_length);
        once = λ k a b. omega (arith, sum_set (λ (z : View B). times k z.mine) views i v w at, st.once k a b);
        none_opened = λ k a. omega (arith, sum_set (λ (z : View B). times k z.mine) views i v w at, st.none_opened k a);
        none_later = λ k a. omega (arith, sum_set (λ (z : View B). times k z.mine) views i v w at, st.none_later k a);
        all_rooms = omega (arith, sum_set (λ (z : View B). z.room) views i v w at, st.all_rooms);
      }

  pub stand_look : (log : List Entry) (s n : ℕ) (views : List (View B)) (i : ℕ) (v : View B) (t : ℕ) → Stand log s n views → get_elem? views i ≡ some v
      → 1 ≤ v.room → v.phase ≡ Waiting t → t ≡ s → Stand log s n (set views i (record v { phase = Served t; seen = log }))
  stand_look log s n views i v t st at room waits own =
      let w : View B = record v { phase = Served t; seen = log } in
      let fit = st.each i v at in
      let ticket : (k : ℕ) → with_ticket k (set views i w) ≡ with_ticket k views =
      λ k. omega (arith, sum_set (λ (z : View B). one_if (has_ticket k z.phase)) views i v w at, ap (λ (p : Phase). one_if (has_ticket k p)) waits) in
      let line : queued (set views i w) ≡ queued views =
      omega (arith, sum_set (λ (z : View B). one_if (is_queued z.phase)) views i v w at, ap (λ (p : Phase). one_if (is_queued p)) waits) in
      let kn = known_set log views i v w (known log s n views st) at (λ e. refl) room in
      let l = live_of history base opened seats v fit.live room in
      let fits : Fits history base opened seats log s w = record {
        seen = prefix_self log;
        told = fit.told;
        at_turn = (own, refl);
        own = entries_longer v.opening v.seen log v.mine fit.seen fit.own;
        live = inr (record { room = l.room; base_is = l.base_is; opening_is = l.opening_is; seats_is = l.seats_is });
      } in
      stand_alike log s n views (set views i w) st
      (each_set (Fits history base opened seats log s) views i w (λ j u ne e. st.each j u e) fits)
      kn ticket line (λ k. omega (arith, sum_set (λ (z : View B). times k z.mine) views i v w at))
      (omega (arith, sum_set (λ (z : View B). z.room) views i v w at))

  pub stand_add : (log : List Entry) (s n : ℕ) (views : List (View B)) (i : ℕ) (v : View B) (t : ℕ) (e : Entry) → Stand log s n views → get_elem? views i ≡ some v
      → 1 ≤ v.room → v.phase ≡ Served t → served views ≤ 1 → length (history opened) ≤ length log → Stand (log ++ e ∷ []) s n (set views i (gained v e))
  stand_add log s n views i v t e st at room serves few opened_before =
      let w : View B = gained v e in
      let fit = st.each i v at in
      let turn : (t ≡ s) × (v.seen ≡ log) = subst (IsAtTurn log s v.seen) serves fit.at_turn in
      let len : length v.seen ≡ length log = ap length turn.1 in
      let whole : v.seen ++ e ∷ [] ≡ log ++ e ∷ [] = ap (λ (xs : List Entry). xs ++ e ∷ []) turn.1 in
      let longer : IsPrefix log (log ++ e ∷ []) = (e ∷ [], refl) in
      let more : length (log ++ e ∷ []) ≡ length log + 1 = length-append log (e ∷ []) in
      let ticket : (k : ℕ) → with_ticket k (set views i w) ≡ with_ticket k views =
      λ k. omega (arith, sum_set (λ (z : View B). one_if (has_ticket k z.phase)) views i v w at) in
      let line : queued (set views i w) ≡ queued views = omega (arith, sum_set (λ (z : View B). one_if (is_queued z.phase)) views i v w at) in
      let own : (k : ℕ) → owned k (set views i w) ≡ owned k views + one_if (eqb (length v.seen + 1) k) =
      λ k. omega (arith, sum_set (λ (z : View B). times k z.mine) views i v w at, sum_by_push (λ (m : Numbered). one_if (eqb m.number k)) v.mine (numbered (length v.seen + 1) e)) in
      let other : (k : ℕ) → k ≢ length log + 1 → owned k (set views i w) ≡ owned k views =
      λ k ne. omega (arith, own k, none_of (eqb (length v.seen + 1) k) (ne_eqb (length v.seen + 1) k (λ x. ne (omega (arith, x, len))))) in
      let out : is_served v.phase ≡ true = ap is_served serves in
      let l = live_of history base opened seats v fit.live room in
      let fits : Fits history base opened seats (log ++ e ∷ []) s w = record {
        seen = subst (λ (xs : List Entry). IsPrefix xs (log ++ e ∷ [])) (sym whole) (prefix_self (log ++ e ∷ []));
        told = prefix_trans v.told log (log ++ e ∷ []) fit.told longer;
        at_turn = subst (IsAtTurn (log ++ e ∷ []) s (v.seen ++ e ∷ [])) (sym serves) (turn.0, whole);
        own = All-push (λ (m : Numbered). (v.opening < m.number) × (slice_get (v.seen ++ e ∷ []) (m.number - 1) ≡ Some m.entry)) v.mine (numbered (length v.seen + 1) e)
            (entries_longer v.opening v.seen (v.seen ++ e ∷ []) v.mine (e ∷ [], refl) fit.own)
            (omega (arith, l.opening_is, opened_before, len), ap (λ (k : ℕ). slice_get (v.seen ++ e ∷ []) k) (omega arith) ∙ get_last v.seen e);
        live = inr (record { room = l.room; base_is = l.base_is; opening_is = l.opening_is; seats_is = l.seats_is });
      } in
      record {
        each = each_set (Fits history base opened seats (log ++ e ∷ []) s) views i w
            (λ j u ne x. fits_longer history base opened seats log (log ++ e ∷ []) s s u longer (one_served views i j v u at x ne out few) (st.each j u x)) fits;
        place = i;
        knower = w;
        stands = set_there views i v w at;
        has_room = room;
        whole = whole;
        in_queue = λ k a b. ticket k ∙ st.in_queue k a b;
        before_queue = λ k a. ticket k ∙ st.before_queue k a;
        behind_queue = λ k a. ticket k ∙ st.behind_queue k a;
        queue_length = omega (arith, line, st.queue_length);
        once = λ k a b. dite (ℕ_discrete k (length log + 1))
            (λ x. omega (arith, own k, one_of (eqb (length v.seen + 1) k) (eq-eqb (length v.seen + 1) k (omega (arith, x, len))), st.none_later k (omega (arith, x))))
            (λ ne. other k ne ∙ st.once k a (omega (arith, more, b, ne)));
        none_opened = λ k a. other k (λ x. omega (arith, x, a, opened_before)) ∙ st.none_opened k a;
        none_later = λ k a. other k (λ x. omega (arith, x, a, more)) ∙ st.none_later k (omega (arith, a, more));
        all_rooms = omega (arith, sum_set (λ (z : View B). z.room) views i v w at, st.all_rooms);
      }

  pub stand_serve : (log : List Entry) (s n : ℕ) (views : List (View B)) (i : ℕ) (v : View B) (t : ℕ) → Stand log s n views → get_elem? views i ≡ some v
      → 1 ≤ v.room → v.phase ≡ Served t → served views ≤ 1 → Stand log (s + 1) n (set views i (record v { phase = Idle }))
  stand_serve log s n views i v t st at room serves few =
      let w : View B = record v { phase = Idle } in
      let fit = st.each i v at in
      let turn : (t ≡ s) × (v.seen ≡ log) = subst (IsAtTurn log s v.seen) serves fit.at_turn in
      let range = in_range log s n views i v t st at (ap (has_ticket t) serves ∙ eq-eqb t t refl) in
      let ticket : (k : ℕ) → with_ticket k (set views i w) + one_if (eqb t k) ≡ with_ticket k views =
      λ k. omega (arith, sum_set (λ (z : View B). one_if (has_ticket k z.phase)) views i v w at, ap (λ (p : Phase). one_if (has_ticket k p)) serves) in
      let other : (k : ℕ) → t ≢ k → with_ticket k (set views i w) ≡ with_ticket k views =
      λ k ne. omega (arith, ticket k, none_of (eqb t k) (ne_eqb t k ne)) in
      let line : queued (set views i w) + 1 ≡ queued views =
      omega (arith, sum_set (λ (z : View B). one_if (is_queued z.phase)) views i v w at, ap (λ (p : Phase). one_if (is_queued p)) serves) in
      let out : is_served v.phase ≡ true = ap is_served serves in
      let kn = known_set log views i v w (known log s n views st) at (λ e. e) room in
      let l = live_of history base opened seats v fit.live room in
      let fits : Fits history base opened seats log (s + 1) w = record {
        seen = fit.seen;
        told = fit.told;
        at_turn = tt;
        own = fit.own;
        live = inr (record { room = l.room; base_is = l.base_is; opening_is = l.opening_is; seats_is = l.seats_is });
      } in
      record {
        each = each_set (Fits history base opened seats log (s + 1)) views i w
            (λ j u ne x. fits_longer history base opened seats log log s (s + 1) u (prefix_self log) (one_served views i j v u at x ne out few) (st.each j u x)) fits;
        place = kn.0;
        knower = kn.1;
        stands = kn.2;
        has_room = kn.3;
        whole = kn.4;
        in_queue = λ k a b. other k (λ x. omega (arith, x, a, turn.0)) ∙ st.in_queue k (omega (arith, a)) b;
        before_queue = λ k a. dite (ℕ_discrete t k)
            (λ x. omega (arith, ticket k, one_of (eqb t k) (eq-eqb t k x), st.in_queue k (omega (arith, x, turn.0)) (omega (arith, x, range.1))))
            (λ ne. other k ne ∙ st.before_queue k (omega (arith, a, ne, turn.0)));
        behind_queue = λ k a. other k (λ x. omega (arith, x, a, range.1)) ∙ st.behind_queue k a;
        queue_length = omega (arith, line, st.queue_length);
        once = λ k a b. omega (arith, sum_set (λ (z : View B). times k z.mine) views i v w at, st.once k a b);
        none_opened = λ k a. omega (arith, sum_set (λ (z : View B). times k z.mine) views i v w at, st.none_opened k a);
        none_later = λ k a. omega (arith, sum_set (λ (z : View B). times k z.mine) views i v w at, st.none_later k a);
        all_rooms = omega (arith, sum_set (λ (z : View B). z.room) views i v w at, st.all_rooms);
      }

  -- a part of the room is cut off, and its view has seen as much
  pub stand_split : (log : List Entry) (s n : ℕ) (views : List (View B)) (i : ℕ) (v : View B) → Stand log s n views → get_elem? views i ≡ some v
      → 2 ≤ v.room → Stand log s n (set views i (left_over v) ++ cut_off v ∷ [])
  stand_split log s n views i v st at room =
      let w : View B = left_over v in let u : View B = cut_off v in
      let vs : List (View B) = set views i w in
      let fit = st.each i v at in
      let sum : (f : View B → ℕ) → sum_by f (vs ++ u ∷ []) + f v ≡ sum_by f views + f w + f u =
      λ f. omega (arith, sum_set f views i v w at, sum_by_push f vs u) in
      let ticket : (k : ℕ) → with_ticket k (vs ++ u ∷ []) ≡ with_ticket k views = λ k. omega (arith, sum (λ (z : View B). one_if (has_ticket k z.phase))) in
      let own : (k : ℕ) → owned k (vs ++ u ∷ []) ≡ owned k views = λ k. omega (arith, sum (λ (z : View B). times k z.mine)) in
      let l = live_of history base opened seats v fit.live (omega (arith, room)) in
      let left_room : 1 ≤ w.room = omega (arith, room) in
      let kn = known_set log views i v w (known log s n views st) at (λ e. e) left_room in
      let left_fits : Fits history base opened seats log s w = record {
        seen = fit.seen;
        told = fit.told;
        at_turn = fit.at_turn;
        own = fit.own;
        live = inr (record { room = left_room; base_is = l.base_is; opening_is = l.opening_is; seats_is = l.seats_is });
      } in
      let right_fits : Fits history base opened seats log s u = record {
        seen = fit.seen;
        told = (log, refl);
        at_turn = tt;
        own = All-nil (λ (m : Numbered). (v.opening < m.number) × (slice_get v.seen (m.number - 1) ≡ Some m.entry));
        live = inr (record { room = omega arith; base_is = l.base_is; opening_is = l.opening_is; seats_is = l.seats_is });
      } in
      stand_alike log s n views (vs ++ u ∷ []) st
      (λ j z e. ⊎_elim
      (λ x. each_set (Fits history base opened seats log s) views i w (λ j' u' ne x'. st.each j' u' x') left_fits j z x)
      (λ x. subst (Fits history base opened seats log s) x right_fits) (at_snoc vs u z j e))
      (kn.0, kn.1, at_longer vs (u ∷ []) kn.0 kn.1 kn.2, kn.3, kn.4) ticket
      (omega (arith, sum (λ (z : View B). one_if (is_queued z.phase)))) own
      (omega (arith, room, sum (λ (z : View B). z.room)))

  -- the longer of two beginnings is one, and both begin it
  pub longer_prefix : (xs ys log : List Entry) → IsPrefix xs log → IsPrefix ys log → IsPrefix (longer xs ys) log
  longer_prefix xs ys log p q = by_case (ltb (length xs) (length ys)) where
    by_case : (b : Bool) → IsPrefix (cond b ys xs) log
    by_case true = q
    by_case false = p

  pub shorter_prefix : (xs ys log : List Entry) → IsPrefix xs log → IsPrefix ys log → IsPrefix (shorter xs ys) log
  shorter_prefix xs ys log p q = by_case (ltb (length xs) (length ys)) where
    by_case : (b : Bool) → IsPrefix (cond b xs ys) log
    by_case true = p
    by_case false = q

  pub longer_length : (xs ys : List Entry) → (length xs ≤ length (longer xs ys)) × (length ys ≤ length (longer xs ys))
  longer_length xs ys = by_case (ltb (length xs) (length ys)) refl where
    by_case : (b : Bool) → ltb (length xs) (length ys) ≡ b → (length xs ≤ length (cond b ys xs)) × (length ys ≤ length (cond b ys xs))
    by_case true e = (omega (arith, ltb-true (length xs) (length ys) e), omega arith)
    by_case false e = (omega arith, omega (arith, ltb-false (length xs) (length ys) e))

  longer_whole : (xs ys log : List Entry) → IsPrefix xs log → IsPrefix ys log → length log ≤ length (longer xs ys) → longer xs ys ≡ log
  longer_whole xs ys log p q le = prefix_whole (longer xs ys) log (longer_prefix xs ys log p q) le

  -- two views become one, and the other is spent
  pub stand_join : (log : List Entry) (s n : ℕ) (views : List (View B)) (i j : ℕ) (v w : View B) → Stand log s n views → get_elem? views i ≡ some v
      → j ≢ i → get_elem? views j ≡ some w → 1 ≤ v.room → 1 ≤ w.room → v.phase ≡ Idle → w.phase ≡ Idle
      → Stand log s n (set (set views i (joined v w)) j spent)
  stand_join log s n views i j v w st at ne there room room' idle idle' =
      let u : View B = joined v w in
      let vs : List (View B) = set views i u in
      let there' : get_elem? vs j ≡ some w = set_else views i j u ne ∙ there in
      let fit = st.each i v at in
      let fit' = st.each j w there in
      let l = live_of history base opened seats v fit.live room in
      let l' = live_of history base opened seats w fit'.live room' in
      let sum : (f : View B → ℕ) → sum_by f (set vs j spent) + f v + f w ≡ sum_by f views + f u + f spent =
      λ f. omega (arith, sum_set f views i v u at, sum_set f vs j w spent there') in
      let ticket : (k : ℕ) → with_ticket k (set vs j spent) ≡ with_ticket k views =
      λ k. omega (arith, sum (λ (z : View B). one_if (has_ticket k z.phase)), ap (λ (p : Phase). one_if (has_ticket k p)) idle') in
      let line : queued (set vs j spent) ≡ queued views =
      omega (arith, sum (λ (z : View B). one_if (is_queued z.phase)), ap (λ (p : Phase). one_if (is_queued p)) idle') in
      let own : (k : ℕ) → owned k (set vs j spent) ≡ owned k views =
      λ k. omega (arith, sum (λ (z : View B). times k z.mine), sum_by-append (λ (m : Numbered). one_if (eqb m.number k)) v.mine w.mine) in
      let long = longer v.seen w.seen in
      let lengths = longer_length v.seen w.seen in
      let p : IsPrefix long log = longer_prefix v.seen w.seen log fit.seen fit'.seen in
      let P : Numbered → Type 0 = λ m. (v.opening < m.number) × (slice_get long (m.number - 1) ≡ Some m.entry) in
      let same : w.opening ≡ v.opening = l'.opening_is ∙ sym l.opening_is in
      let left_own : AreEntriesOf v.opening long v.mine = entries_longer v.opening v.seen long v.mine (prefix_shorter v.seen long log fit.seen p lengths.0) fit.own in
      let right_own : AreEntriesOf v.opening long w.mine = entries_longer v.opening w.seen long w.mine (prefix_shorter w.seen long log fit'.seen p lengths.1)
      (subst (λ (o : ℕ). AreEntriesOf o w.seen w.mine) same fit'.own) in
      let both_room : 1 ≤ u.room = omega (arith, room) in
      let fits : Fits history base opened seats log s u = record {
        seen = p;
        told = shorter_prefix v.seen w.seen log fit.seen fit'.seen;
        at_turn = subst (IsAtTurn log s long) (sym idle) tt;
        own = All-append P v.mine w.mine left_own right_own;
        live = inr (record { room = both_room; base_is = l.base_is; opening_is = l.opening_is; seats_is = l.seats_is });
      } in
      let spent_fits : Fits history base opened seats log s spent = record {
        seen = (log, refl);
        told = (log, refl);
        at_turn = tt;
        own = All-nil (λ (m : Numbered). (0 < m.number) × (slice_get [] (m.number - 1) ≡ Some m.entry));
        live = inl refl;
      } in
      let kn = known_join log views i j v w u (known log s n views st) at ne there both_room
      (λ e. longer_whole v.seen w.seen log fit.seen fit'.seen (omega (arith, ap length e, lengths.0)))
      (λ e. longer_whole v.seen w.seen log fit.seen fit'.seen (omega (arith, ap length e, lengths.1))) in
      stand_alike log s n views (set vs j spent) st
      (each_set (Fits history base opened seats log s) vs j spent
      (λ j' u' ne' x. each_set (Fits history base opened seats log s) views i u (λ j'' u'' ne'' x'. st.each j'' u'' x') fits j' u' x) spent_fits)
      kn ticket line own (omega (arith, sum (λ (z : View B). z.room)))

  -- after a join the second history is forgotten
  pub stand_settle : (log : List Entry) (s n : ℕ) (views : List (View B)) (i : ℕ) (v : View B) → Stand log s n views → get_elem? views i ≡ some v
      → 1 ≤ v.room → Stand log s n (set views i (record v { told = [] }))
  stand_settle log s n views i v st at room =
      let w : View B = record v { told = [] } in
      let fit = st.each i v at in
      let ticket : (k : ℕ) → with_ticket k (set views i w) ≡ with_ticket k views =
      λ k. omega (arith, sum_set (λ (z : View B). one_if (has_ticket k z.phase)) views i v w at) in
      let kn = known_set log views i v w (known log s n views st) at (λ e. e) room in
      let l = live_of history base opened seats v fit.live room in
      let fits : Fits history base opened seats log s w = record {
        seen = fit.seen;
        told = (log, refl);
        at_turn = fit.at_turn;
        own = fit.own;
        live = inr (record { room = l.room; base_is = l.base_is; opening_is = l.opening_is; seats_is = l.seats_is });
      } in
      stand_alike log s n views (set views i w) st
      (each_set (Fits history base opened seats log s) views i w (λ j u ne e. st.each j u e) fits)
      kn ticket (omega (arith, sum_set (λ (z : View B). one_if (is_queued z.phase)) views i v w at))
      (λ k. omega (arith, sum_set (λ (z : View B). times k z.mine) views i v w at))
      (omega (arith, sum_set (λ (z : View B). z.room) views i v w at))
