-- Each step keeps the rule of the lock.
use Rattle.std.proofs.Common.{◌≡◌, ◌≢◌, ◌⊎◌, ℕ, zero, suc, ◌+◌, ◌-◌, ◌%◌, ◌^◌, ◌<◌, ◌≤◌, eqb, List, [], ◌∷◌, ◌++◌, length, set, slice_index, slice_get, Option, Some, refl, ap, sym, ◌∙◌, subst, arith, inl, inr, eq-eqb, length-append}
use Rattle.std.proofs.Math.Nat.{mod-add-mod, mod-eq_of_lt}
use mathlib.Core.List.{IsPrefix}
use mathlib.Core.Logic.{dite}
use mathlib.Core.Option as maybe
use mathlib.Core.Option.{none, some, some-injective, some-ne-none}
use native.Mathlib.Decide.{ℕ_discrete}
use lib.ListN.{get_elem?}
use Rattle.atomic_table.specs.Table.{State, Act, keeps, takes, gives, step, stepped, carried_after, put_back, rest, Valid, Allows, Splits, Joins, Final, Seen, opening}
use Rattle.atomic_table.proofs.Lists.{set_again, set_else, one_turn}
use Rattle.dm_rows.specs.declared.messages.Entry.{Entry}
use Rattle.dm_turn.specs.Passes.{times, AreEntriesOf, AreAllAbove}
use Rattle.dm_turn.specs.declared.view.Numbered.{Numbered}
use Rattle.dm_turn.specs.Rule.{is_served, is_queued, has_ticket, spent, served, rooms, owned, IsAtTurn, IsLive, Fits, IsHome, SlotIs, Stands, Rule}
use Rattle.dm_turn.specs.Inside.Steps.{Sat, Glanced, Drew, Looked, Added, Gave, Settled, ticket_of, gained, left_over, cut_off, joined, opening_view}
use Rattle.dm_turn.specs.declared.view.View.{View}
use Rattle.dm_turn.specs.declared.view.Phase.{Phase}
use Rattle.dm_turn.specs.declared.view.Phase.TheVariants.{Idle, Waiting, Served}
use Rattle.dm_base.proofs.Counts.{sum_set, sum_at, sum_two, sums_le, sums_apart, sum_lone}
use Rattle.dm_turn.proofs.Views.{one_if, one_of, one_at_most, served_ticket, live_of}
use Rattle.dm_turn.proofs.Standing.{in_range, stand_draw, stand_look, stand_add, stand_serve, stand_split, stand_join, stand_settle}
use Rattle.dm_turn.proofs.Fronts.{prefix_self, prefix_shorter}
use Rattle.std.proofs.lemmas.List.Sums.{sum_by_push}
use Rattle.std.proofs.lemmas.List.Elements.{All-nil}
use Rattle.std.proofs.lemmas.List.{append_cancel_left}

module _ {S B : Type 0} (history : S → List Entry) (base : S → B) (opened : S) (seats : ℕ) where
  abbrev Holds : State (Option S) (View B) → Type 0
  Holds = Rule history base opened seats

  -- a state with the log and the tickets of one that keeps the rule keeps it too
  alike : (s t : State (Option S) (View B)) (r : Holds s) → t.words ≡ length r.log ∷ r.next % 2 ^ 64 ∷ r.serving % 2 ^ 64 ∷ []
      → SlotIs history base opened seats t.homes r.log (served t.views) → Stands history base opened seats r.log r.serving r.next t.views → Holds t
  alike s t r words slot views = record {
    log = r.log;
    serving = r.serving;
    next = r.next;
    words = words;
    slot = slot;
    views = views;
    counted = r.counted;
  }

  -- so does one that a seat has only looked at
  looked_at : (s : State (Option S) (View B)) (id : ℕ) (v : View B) (r : Holds s) (ws : List ℕ) → get_elem? s.views id ≡ some v
      → ws ≡ length r.log ∷ r.next % 2 ^ 64 ∷ r.serving % 2 ^ 64 ∷ [] → Holds (record { words = ws; homes = s.homes; views = set s.views id v })
  looked_at s id v r ws at words =
      let same = sym (set_again s.views id v at) in
      alike s (record { words = ws; homes = s.homes; views = set s.views id v }) r words
      (subst (λ (vs : List (View B)). SlotIs history base opened seats s.homes r.log (served vs)) same r.slot)
      (subst (Stands history base opened seats r.log r.serving r.next) same r.views)

  pub draws : (slots id : ℕ) (me : Sat S B) → me.0.phase ≡ Idle → 1 ≤ me.0.room
      → Allows Holds slots id me 1 (λ n. (n + 1) % 2 ^ 64) (Drew (step slots 1 1 0 none) me)
  draws slots id me idle room s r len at small =
      let w : View B = record me.0 { phase = Waiting r.next } in
      let same : served (set s.views id w) ≡ served s.views =
      omega (arith, sum_set (λ (z : View B). one_if (is_served z.phase)) s.views id me.0 w at, ap (λ (p : Phase). one_if (is_served p)) idle) in (
        w,
        keeps,
        tt,
        record {
          log = r.log;
          serving = r.serving;
          next = r.next + 1;
          words = ap (λ (ws : List ℕ). set ws 1 ((slice_index ws 1 + 1) % 2 ^ 64)) r.words ∙ ap (λ (x : ℕ). length r.log ∷ x ∷ r.serving % 2 ^ 64 ∷ []) (mod-add-mod r.next (2 ^ 64) 1);
          slot = subst (SlotIs history base opened seats s.homes r.log) (sym same) r.slot;
          views = stand_draw history base opened seats r.log r.serving r.next s.views id me.0 r.views at room idle;
          counted = r.counted;
        },
        (r.next, refl, sym (ap (λ (ws : List ℕ). slice_index ws 1) r.words)),
      )

  -- fewer than 2 ^ 32 seats stand in the queue
  short_queue : (log : List Entry) (s n : ℕ) (views : List (View B)) → Stands history base opened seats log s n views → seats < 2 ^ 32 → n < s + 2 ^ 64
  short_queue log s n views st few = omega (
    arith,
    few,
    st.all_rooms,
    st.queue_length,
    sums_le (λ (z : View B). one_if (is_queued z.phase)) (λ (z : View B). z.room) views
        (λ j u e. queued_room u (st.each j u e).live),
  ) where
    queued_room : (u : View B) → (u ≡ spent) ⊎ IsLive history base opened seats u → one_if (is_queued u.phase) ≤ u.room
    queued_room u (inl is) = omega (arith, ap (λ (z : View B). one_if (is_queued z.phase)) is)
    queued_room u (inr live) = omega (arith, live.room, one_at_most (is_queued u.phase))

  -- where the seat's ticket is the served one, no seat is served yet
  none_served : (log : List Entry) (s n : ℕ) (views : List (View B)) (i : ℕ) (v : View B) → Stands history base opened seats log s n views
      → get_elem? views i ≡ some v → v.phase ≡ Waiting s → served views ≡ 0
  none_served log s n views i v st at waits =
      let range = in_range history base opened seats log s n views i v s st at (ap (has_ticket s) waits ∙ eq-eqb s s refl) in
      let apart = sums_apart (λ (z : View B). one_if (is_served z.phase)) (λ (z : View B). one_if (has_ticket s z.phase)) views i v 1 at
      (omega (arith, ap (λ (p : Phase). one_if (is_served p)) waits, ap (λ (p : Phase). one_if (has_ticket s p)) waits, one_of (eqb s s) (eq-eqb s s refl)))
      (λ j u e. served_ticket log s u.seen u.phase (st.each j u e).at_turn) in
      omega (arith, apart, st.in_queue s (omega arith) range.1)

  one_out : (homes : _) (log : List Entry) (n : ℕ) → SlotIs history base opened seats homes log n → n ≤ 1
  one_out homes log n (inl h) = omega (arith, h.0)
  one_out homes log n (inr h) = omega (arith, h.0)

  home_of : (homes : _) (log : List Entry) (n : ℕ) → SlotIs history base opened seats homes log n → n ≡ 0 → IsHome history base opened seats homes log
  home_of homes log n (inl h) e = h.1
  home_of homes log n (inr h) e = absurd (omega (arith, h.0, e))

  out_of : (homes : _) (log : List Entry) (n : ℕ) → SlotIs history base opened seats homes log n → 1 ≤ n → homes ≡ none ∷ []
  out_of homes log n (inl h) e = absurd (omega (arith, h.0, e))
  out_of homes log n (inr h) e = h.1

  pub looks : (slots id : ℕ) (me : Sat S B) (t : ℕ) → me.0.phase ≡ Waiting t → 1 ≤ me.0.room → me.1 ≡ []
      → Allows Holds slots id me 2 (λ n. n) (Looked history base (step slots 2 0 0 none) me)
  looks slots id me t waits room bare s r len at small = dite (ℕ_discrete (slice_index s.words 2) (ticket_of me.0.phase % 2 ^ 64)) hit miss where
    Goal : Type 0
    Goal = (w : View B) × (a : Act (Option S)) × Valid s.homes me.1 a × Holds (stepped s 2 (slice_index s.words 2) id me.1 w a)
        × Looked history base (step slots 2 0 0 none) me (slice_index s.words 2) (w, carried_after me.1 a)

    same_words : set s.words 2 (slice_index s.words 2) ≡ length r.log ∷ r.next % 2 ^ 64 ∷ r.serving % 2 ^ 64 ∷ []
    same_words = ap (λ (ws : List ℕ). set ws 2 (slice_index ws 2)) r.words

    hit : slice_index s.words 2 ≡ ticket_of me.0.phase % 2 ^ 64 → Goal
    hit e =
        let range = in_range history base opened seats r.log r.serving r.next s.views id me.0 t r.views at (ap (has_ticket t) waits ∙ eq-eqb t t refl) in
        let mine : r.serving % 2 ^ 64 ≡ t % 2 ^ 64 = sym (ap (λ (ws : List ℕ). slice_index ws 2) r.words) ∙ (e ∙ ap (λ (p : Phase). ticket_of p % 2 ^ 64) waits) in
        let close = short_queue r.log r.serving r.next s.views r.views r.counted.few in
        let own : r.serving ≡ t = one_turn r.serving t (2 ^ 64) range.0 (omega (arith, range.1, close)) mine in
        let free = none_served r.log r.serving r.next s.views id me.0 r.views at (waits ∙ ap Waiting (sym own)) in
        let home = home_of s.homes r.log (served s.views) r.slot free in
        let w : View B = record me.0 { phase = Served t; seen = r.log } in
        let one : served (set s.views id w) ≡ 1 = omega (arith, free, sum_set (λ (z : View B). one_if (is_served z.phase)) s.views id me.0 w at, ap (λ (p : Phase). one_if (is_served p)) waits) in
        let live = live_of history base opened seats me.0 (r.views.each id me.0 at).live room in (
          w,
          takes 0 (Some home.state),
          ap (λ (hs : List (maybe.Option (Option S))). get_elem? hs 0) home.there,
          alike s (stepped s 2 (slice_index s.words 2) id me.1 w (takes 0 (Some home.state))) r same_words
              (inr (one, ap (λ (hs : List (maybe.Option (Option S))). set hs 0 none) home.there))
              (stand_look history base opened seats r.log r.serving r.next s.views id me.0 t r.views at room waits (sym own)),
          record {
            own = λ _. record {
              state = home.state;
              now = λ i. (record me.0 { phase = Served (ap ticket_of (sym waits) i); seen = sym home.whole i }, (0, Some home.state) ∷ bare i);
              longer = subst (IsPrefix me.0.seen) (sym home.whole) (r.views.each id me.0 at).seen;
              base_is = live.base_is ∙ ap Some (sym home.base_is);
            };
            other = λ ne. absurd (ne e);
          },
        )

    miss : slice_index s.words 2 ≢ ticket_of me.0.phase % 2 ^ 64 → Goal
    miss ne = (
      me.0,
      keeps,
      tt,
      looked_at s id me.0 r (set s.words 2 (slice_index s.words 2)) at same_words,
      record { own = λ e. absurd (ne e); other = λ _. refl },
    )

  pub glances : (slots id word : ℕ) (me : Sat S B) → word < 3 → Allows Holds slots id me word (λ n. n) (Glanced (step slots word 0 0 none) me)
  glances slots id word me is_word s r len at small = (
    me.0,
    keeps,
    tt,
    looked_at s id me.0 r (set s.words word (slice_index s.words word)) at
        (same_words word is_word s.words (length r.log) (r.next % 2 ^ 64) (r.serving % 2 ^ 64) r.words),
    refl,
  ) where
    same_words : (word : ℕ) → word < 3 → (ws : List ℕ) (a b c : ℕ) → ws ≡ a ∷ b ∷ c ∷ [] → set ws word (slice_index ws word) ≡ a ∷ b ∷ c ∷ []
    same_words zero is_word ws a b c e = ap (λ (xs : List ℕ). set xs 0 (slice_index xs 0)) e
    same_words (suc zero) is_word ws a b c e = ap (λ (xs : List ℕ). set xs 1 (slice_index xs 1)) e
    same_words (suc (suc zero)) is_word ws a b c e = ap (λ (xs : List ℕ). set xs 2 (slice_index xs 2)) e
    same_words (suc (suc (suc n))) is_word ws a b c e = absurd (omega (arith, is_word))

  one_of_served : (views : List (View B)) (i : ℕ) (v : View B) (t : ℕ) → get_elem? views i ≡ some v → v.phase ≡ Served t → 1 ≤ served views
  one_of_served views i v t at serves =
      omega (arith, sum_at (λ (z : View B). one_if (is_served z.phase)) views i v at, ap (λ (p : Phase). one_if (is_served p)) serves)

  pub adds : (slots id : ℕ) (me : Sat S B) (t : ℕ) (e : Entry) (after : List Entry) → me.0.phase ≡ Served t → 1 ≤ me.0.room → after ≡ me.0.seen ++ e ∷ []
      → length after < 2 ^ 32 → Allows Holds slots id me 0 (λ n. (n + 1) % 2 ^ 64) (Added after (step slots 0 1 0 none) me)
  adds slots id me t e after serves room shows few s r len at small =
      let w : View B = gained me.0 e in
      let at_most = one_out s.homes r.log (served s.views) r.slot in
      let at_least = one_of_served s.views id me.0 t at serves in
      let turn : (t ≡ r.serving) × (me.0.seen ≡ r.log) = subst (IsAtTurn r.log r.serving me.0.seen) serves (r.views.each id me.0 at).at_turn in
      let whole : after ≡ r.log ++ e ∷ [] = shows ∙ ap (λ (xs : List Entry). xs ++ e ∷ []) turn.1 in
      let longer : length after ≡ length r.log + 1 = ap length whole ∙ length-append r.log (e ∷ []) in
      let longer' : length (r.log ++ e ∷ []) ≡ length r.log + 1 = length-append r.log (e ∷ []) in
      let small_sum : (length r.log + 1) % 2 ^ 64 ≡ length (r.log ++ e ∷ []) = mod-eq_of_lt (omega (arith, longer, few)) ∙ sym longer' in
      let same : served (set s.views id w) ≡ served s.views = omega (arith, sum_set (λ (z : View B). one_if (is_served z.phase)) s.views id me.0 w at) in (
        w,
        keeps,
        tt,
        record {
          log = r.log ++ e ∷ [];
          serving = r.serving;
          next = r.next;
          words = ap (λ (ws : List ℕ). set ws 0 ((slice_index ws 0 + 1) % 2 ^ 64)) r.words ∙ ap (λ (x : ℕ). x ∷ r.next % 2 ^ 64 ∷ r.serving % 2 ^ 64 ∷ []) small_sum;
          slot = inr (omega (arith, same, at_most, at_least), out_of s.homes r.log (served s.views) r.slot at_least);
          views = stand_add history base opened seats r.log r.serving r.next s.views id me.0 t e r.views at room serves at_most r.counted.opened_before;
          counted = record {
            short = omega (arith, longer, longer', few);
            opened_before = omega (arith, longer', r.counted.opened_before);
            few = r.counted.few;
          };
        },
        (λ e' shows'. let same_end : e ∷ [] ≡ e' ∷ [] = append_cancel_left me.0.seen (e ∷ []) (e' ∷ []) (sym shows ∙ shows') in
            let same_entry : e ≡ e' = cc same_end in ap (λ (x : Entry). let z : Sat S B = (gained me.0 x, me.1) in z) same_entry),
      )

  pub serves_next : (slots id : ℕ) (me : Sat S B) (t : ℕ) (state : S) → me.0.phase ≡ Served t → 1 ≤ me.0.room → me.1 ≡ (0, Some state) ∷ []
      → history state ≡ me.0.seen → me.0.base ≡ Some (base state) → Allows Holds slots id me 2 (λ n. (n + 1) % 2 ^ 64) (Gave (step slots 2 1 0 none) me)
  serves_next slots id me t state serves room carried has based s r len at small =
      let w : View B = record me.0 { phase = Idle } in
      let at_most = one_out s.homes r.log (served s.views) r.slot in
      let at_least = one_of_served s.views id me.0 t at serves in
      let turn : (t ≡ r.serving) × (me.0.seen ≡ r.log) = subst (IsAtTurn r.log r.serving me.0.seen) serves (r.views.each id me.0 at).at_turn in
      let live = live_of history base opened seats me.0 (r.views.each id me.0 at).live room in
      let out = out_of s.homes r.log (served s.views) r.slot at_least in
      let none_left : served (set s.views id w) ≡ 0 =
      omega (arith, at_most, sum_set (λ (z : View B). one_if (is_served z.phase)) s.views id me.0 w at, ap (λ (p : Phase). one_if (is_served p)) serves) in
      let same_base : base state ≡ base opened = cc (based, live.base_is) in (
        w,
        gives,
        tt,
        record {
          log = r.log;
          serving = r.serving + 1;
          next = r.next;
          words = ap (λ (ws : List ℕ). set ws 2 ((slice_index ws 2 + 1) % 2 ^ 64)) r.words ∙ ap (λ (x : ℕ). length r.log ∷ r.next % 2 ^ 64 ∷ x ∷ []) (mod-add-mod r.serving (2 ^ 64) 1);
          slot = inl (none_left, record { state = state; there = λ i. put_back (out i) (carried i); whole = has ∙ turn.1; base_is = same_base });
          views = stand_serve history base opened seats r.log r.serving r.next s.views id me.0 t r.views at room serves at_most;
          counted = r.counted;
        },
        ap (λ (c : List (ℕ × Option S)). let z : Sat S B = (w, rest c) in z) carried,
      )

  pub splits : (id : ℕ) (v : View B) → 2 ≤ v.room → Splits Holds id v (left_over v) (cut_off v)
  splits id v room s r at =
      let vs : List (View B) = set s.views id (left_over v) ++ cut_off v ∷ [] in
      let f : View B → ℕ = λ z. one_if (is_served z.phase) in
      let same : served vs ≡ served s.views = omega (arith, sum_set f s.views id v (left_over v) at, sum_by_push f (set s.views id (left_over v)) (cut_off v)) in
      alike s (record { words = s.words; homes = s.homes; views = vs }) r r.words
      (subst (SlotIs history base opened seats s.homes r.log) (sym same) r.slot)
      (stand_split history base opened seats r.log r.serving r.next s.views id v r.views at room)

  pub joins : (id : ℕ) (v : View B) (other : ℕ) (w : View B) → 1 ≤ v.room → 1 ≤ w.room → v.phase ≡ Idle → w.phase ≡ Idle
      → Joins Holds id v other w (joined v w) spent
  joins id v other w room room' idle idle' s r at ne there' =
      let u : View B = joined v w in
      let there : get_elem? s.views other ≡ some w = sym (set_else s.views id other u ne) ∙ there' in
      let vs : List (View B) = set (set s.views id u) other spent in
      let f : View B → ℕ = λ z. one_if (is_served z.phase) in
      let same : served vs ≡ served s.views =
      omega (arith, sum_set f s.views id v u at, sum_set f (set s.views id u) other w spent there', ap (λ (p : Phase). one_if (is_served p)) idle') in
      alike s (record { words = s.words; homes = s.homes; views = vs }) r r.words
      (subst (SlotIs history base opened seats s.homes r.log) (sym same) r.slot)
      (stand_join history base opened seats r.log r.serving r.next s.views id other v w r.views at ne there room room' idle idle')

  pub settles : (slots id : ℕ) (me : Sat S B) → 1 ≤ me.0.room → Allows Holds slots id me 0 (λ n. n) (Settled (step slots 0 0 0 none) me)
  settles slots id me room s r len at small =
      let w : View B = record me.0 { told = [] } in
      let fit = r.views.each id me.0 at in
      let same : served (set s.views id w) ≡ served s.views = omega (arith, sum_set (λ (z : View B). one_if (is_served z.phase)) s.views id me.0 w at) in (
        w,
        keeps,
        tt,
        alike s (stepped s 0 (slice_index s.words 0) id me.1 w keeps) r (ap (λ (ws : List ℕ). set ws 0 (slice_index ws 0)) r.words)
            (subst (SlotIs history base opened seats s.homes r.log) (sym same) r.slot)
            (stand_settle history base opened seats r.log r.serving r.next s.views id me.0 r.views at room),
        (refl, λ le. prefix_shorter me.0.told me.0.seen r.log fit.told fit.seen le),
      )

  -- a new turn keeps the rule
  pub opens : 1 ≤ seats → seats < 2 ^ 32 → length (history opened) < 2 ^ 32
      → Holds (opening (length (history opened) ∷ 0 ∷ 0 ∷ []) (Some opened ∷ []) (opening_view history base opened seats))
  opens some_seat few short =
      let v : View B = opening_view history base opened seats in
      record {
        log = history opened;
        serving = 0;
        next = 0;
        words = refl;
        slot = inl (refl, record { state = opened; there = refl; whole = refl; base_is = refl });
        views = record {
          each = first_fits;
          place = 0;
          knower = v;
          stands = refl;
          has_room = some_seat;
          whole = refl;
          in_queue = λ k a b. absurd (omega (arith, b));
          before_queue = λ k a. absurd (omega (arith, a));
          behind_queue = λ k a. refl;
          queue_length = refl;
          once = λ k a b. absurd (omega (arith, a, b));
          none_opened = λ k a. refl;
          none_later = λ k a. refl;
          all_rooms = omega arith;
        };
        counted = record { short = short; opened_before = omega arith; few = few };
      } where
        first_fits : (i : ℕ) (u : View B) → get_elem? (opening_view history base opened seats ∷ []) i ≡ some u → Fits history base opened seats (history opened) 0 u
        first_fits zero u e = subst (Fits history base opened seats (history opened) 0) (some-injective (opening_view history base opened seats) u e) (record {
          seen = prefix_self (history opened);
          told = (history opened, refl);
          at_turn = tt;
          own = All-nil (λ (m : Numbered). (length (history opened) < m.number) × (slice_get (history opened) (m.number - 1) ≡ Some m.entry));
          live = inr (record { room = some_seat; base_is = refl; opening_is = refl; seats_is = refl });
        })
        first_fits (suc i) u e = absurd (some-ne-none u (sym e))

  -- who has all the room has seen the whole history
  knows : (log : List Entry) (s n : ℕ) (views : List (View B)) (i : ℕ) (v : View B) → Stands history base opened seats log s n views → get_elem? views i ≡ some v
      → rooms views ≡ v.room → v.seen ≡ log
  knows log s n views i v st at alone = dite (ℕ_discrete st.place i)
      (λ e. let same : st.knower ≡ v = some-injective st.knower v (sym st.stands ∙ (ap (λ (j : ℕ). get_elem? views j) e ∙ at)) in
      sym (ap (λ (z : View B). z.seen) same) ∙ st.whole)
      (λ ne. absurd (omega (arith, st.has_room, alone, sum_two (λ (z : View B). z.room) views i st.place v st.knower at st.stands ne)))

  -- what a pass with all rooms finds at the end
  pub record Closes (v : View B) (slots : List (Option S)) : Type 0 where
    pub state : S
    pub there : get_elem? slots 0 ≡ some (Some state)
    pub whole : history state ≡ v.seen
    pub base_is : v.base ≡ Some (base state)
    pub numbers : AreAllAbove v.opening v.seen v.mine
    pub entries : AreEntriesOf v.opening v.seen v.mine

  pub closes : (id : ℕ) (v : View B) (ws : List ℕ) (xs : List (Option S)) → v.phase ≡ Idle → 1 ≤ v.room → v.room ≡ seats → Final (Seen Holds id v) ws xs → Closes v xs
  closes id v ws xs idle room all end =
      let s = end.0 in let r = end.1.0 in let at = end.1.1 in
      let fit = r.views.each id v at in
      let live = live_of history base opened seats v fit.live room in
      let alone : rooms s.views ≡ v.room = r.views.all_rooms ∙ sym all in
      let none_out : served s.views ≡ 0 = sum_lone (λ (z : View B). one_if (is_served z.phase)) (λ (z : View B). z.room) s.views id v at (λ j u e. idle_or_room u (r.views.each j u e).live) alone
      ∙ ap (λ (p : Phase). one_if (is_served p)) idle in
      let home = home_of s.homes r.log (served s.views) r.slot none_out in
      let own : (k : ℕ) → owned k s.views ≡ times k v.mine =
      λ k. sum_lone (λ (z : View B). times k z.mine) (λ (z : View B). z.room) s.views id v at (λ j u e. none_or_room k u (r.views.each j u e).live) alone in
      let seen : v.seen ≡ r.log = knows r.log r.serving r.next s.views id v r.views at alone in
      let len : length v.seen ≡ length r.log = ap length seen in
      record {
        state = home.state;
        there = end.4 0 (Some home.state) (ap (λ (hs : List (maybe.Option (Option S))). get_elem? hs 0) home.there);
        whole = home.whole ∙ sym seen;
        base_is = live.base_is ∙ ap Some (sym home.base_is);
        numbers = record {
          once = λ n a b. sym (own n) ∙ r.views.once n (omega (arith, a, live.opening_is)) (omega (arith, b, len));
          opened = λ n a. sym (own n) ∙ r.views.none_opened n (omega (arith, a, live.opening_is));
          later = λ n a. sym (own n) ∙ r.views.none_later n (omega (arith, a, len));
        };
        entries = fit.own;
      } where
        idle_or_room : (u : View B) → (u ≡ spent) ⊎ IsLive history base opened seats u → (one_if (is_served u.phase) ≡ 0) ⊎ (1 ≤ u.room)
        idle_or_room u (inl is) = inl (ap (λ (z : View B). one_if (is_served z.phase)) is)
        idle_or_room u (inr live) = inr live.room

        none_or_room : (k : ℕ) (u : View B) → (u ≡ spent) ⊎ IsLive history base opened seats u → (times k u.mine ≡ 0) ⊎ (1 ≤ u.room)
        none_or_room k u (inl is) = inl (ap (λ (z : View B). times k z.mine) is)
        none_or_room k u (inr live) = inr live.room

pub is_home : {S : Type 0} (xs : List (Option S)) (slot : Option S) {home : Option S} → get_elem? xs 0 ≡ some slot → get_elem? xs 0 ≡ some home → slot ≡ home
is_home xs slot {home} a b = some-injective slot home (sym a ∙ b)

pub home_state : {S : Type 0} (a b : S) → Some a ≡ Some b → a ≡ b
home_state a b e = cc e
