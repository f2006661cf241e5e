-- Activities that are let go and taken up, one and several.
use Rattle.std.proofs.Common.{◌≡◌, ◌≢◌, ℕ, ◌+◌, ◌<◌, Bool, true, false, List, length, refl, sym, ap, ◌∙◌, ◌⊎◌, inl, inr, arith, slice_index, get_or-set_same, get_or-set_other}
use Rattle.std.specs.Prelude.{slice_set}
use Rattle.std.proofs.lemmas.Bool.{cases_eq, cases_lt, cases_Bool}
use Rattle.dm_network.specs.Net.{Net, activity_at}
use Rattle.dm_network.specs.Held.{is_held, IsCycleOf}
use Rattle.dm_rows.specs.Active.{is_active}
use Rattle.dm_rows.specs.Rows.{RowsValue}
use Rattle.dm_settle.specs.Constraints.{ConstraintsValue}
use Rattle.dm_marks.specs.Marked.{is_marked}
use Rattle.dm_marks.proofs.Marking.{marked_if}
use Rattle.dm_live.specs.Live.{LiveValue, with_held, with_head}
use Rattle.dm_propagate.specs.Inside.Turning.{IsAmong, IsOnly, KeepsNumbers, LetsGo, HoldsMore, TakesUp, IsRefused}

numbers_kept : (live : LiveValue) → KeepsNumbers live live
numbers_kept live = record { floors = refl; spans = refl; times = refl }

numbers_then : (one two three : LiveValue) → KeepsNumbers one two → KeepsNumbers two three → KeepsNumbers one three
numbers_then one two three f s = record { floors = s.floors ∙ f.floors; spans = s.spans ∙ f.spans; times = s.times ∙ f.times }

pub set_on : (flags : List Bool) (a b : ℕ) (flag : Bool) → b ≡ a → a < length flags → is_held (slice_set flags a flag) b ≡ flag
set_on flags a b flag is below = ap (is_held (slice_set flags a flag)) is ∙ get_or-set_same flags a flag false below

pub set_off : (flags : List Bool) (a b : ℕ) (flag : Bool) → b ≢ a → is_held (slice_set flags a flag) b ≡ is_held flags b
set_off flags a b flag ne = get_or-set_other flags a b flag false ne

-- an activity among the first n and one more
pub among_next : (acts : List ℕ) (n b : ℕ) → IsAmong acts (n + 1) b → IsAmong acts n b ⊎ (b ≡ slice_index acts n)
among_next acts n b (k, lt, is) =
    elim (cases_lt k n) [
      | inl earlier ↦ inl (k, earlier, is)
      | inr past ↦ let here : k ≡ n = omega arith in inr (sym is ∙ ap (slice_index acts) here)
    ]

module _ (net : Net) (rows : RowsValue) where
  pub let_go_none : (among : ℕ → Type 0) (live : LiveValue) → ((b : ℕ) → among b → is_held live.given.held b ≡ true → is_active net rows b ≡ true) →
      LetsGo net rows among live live
  let_go_none among live each = record {
    numbers = numbers_kept live;
    cycle = refl;
    fewer = λ b h. h;
    kept = λ b h active. h;
    gone = each;
    marked = λ e m. inl m;
  }

  pub none_let_go : (acts : List ℕ) (live : LiveValue) → LetsGo net rows (IsAmong acts 0) live live
  none_let_go acts live = let_go_none (IsAmong acts 0) live (λ b (k, lt, is) h. absurd (omega arith))

  -- an activity that is not held, or active
  pub let_go_not : (a : ℕ) (live : LiveValue) → (is_held live.given.held a ≡ true → is_active net rows a ≡ true) → LetsGo net rows (IsOnly a) live live
  let_go_not a live stays = let_go_none (IsOnly a) live (λ b is h. ap (is_active net rows) is ∙ stays (ap (is_held live.given.held) (sym is) ∙ h))

  -- what some let go and others after them
  pub let_go_then : (P Q R : ℕ → Type 0) (one two three : LiveValue) → ((b : ℕ) → R b → P b ⊎ Q b) → LetsGo net rows P one two →
      LetsGo net rows Q two three → LetsGo net rows R one three
  let_go_then P Q R one two three either f s = record {
    numbers = numbers_then one two three f.numbers s.numbers;
    cycle = s.cycle ∙ f.cycle;
    fewer = λ b h. f.fewer b (s.fewer b h);
    kept = λ b h active. s.kept b (f.kept b h active) active;
    gone = λ b r h. elim (either b r) [ inl p ↦ f.gone b p (s.fewer b h) | inr q ↦ s.gone b q h ];
    marked = λ e m. elim (s.marked e m) [
      | inl earlier ↦ f.marked e earlier
      | inr at ↦ inr (record { a = at.a; is_activity = at.is_activity; was_held = f.fewer at.a at.was_held; not_active = at.not_active; head = at.head })
    ];
  }

  pub next_let_go : (acts : List ℕ) (n a : ℕ) (one two three : LiveValue) → a ≡ slice_index acts n → LetsGo net rows (IsAmong acts n) one two →
      LetsGo net rows (IsOnly a) two three → LetsGo net rows (IsAmong acts (n + 1)) one three
  next_let_go acts n a one two three is f s =
      let_go_then (IsAmong acts n) (IsOnly a) (IsAmong acts (n + 1)) one two three
      (λ b r. elim (among_next acts n b r) [ inl p ↦ inl p | inr q ↦ inr (q ∙ sym is) ]) f s

  pub taken_up_none : (among : ℕ → Type 0) (live : LiveValue) → ((b : ℕ) → among b → is_active net rows b ≡ true → is_held live.given.held b ≡ true) →
      TakesUp net rows among live live
  taken_up_none among live each = record {
    held = record { numbers = numbers_kept live; kept = λ b h. h; more = λ b h. inl h; marked = λ e m. inl m };
    cycle = refl;
    taken = each;
  }

  pub none_taken_up : (acts : List ℕ) (live : LiveValue) → TakesUp net rows (IsAmong acts 0) live live
  none_taken_up acts live = taken_up_none (IsAmong acts 0) live (λ b (k, lt, is) active. absurd (omega arith))

  -- an activity that is held, or not active
  pub taken_up_not : (a : ℕ) (live : LiveValue) → (is_active net rows a ≡ true → is_held live.given.held a ≡ true) → TakesUp net rows (IsOnly a) live live
  taken_up_not a live stays =
      taken_up_none (IsOnly a) live (λ b is active. ap (is_held live.given.held) is ∙ stays (ap (is_active net rows) (sym is) ∙ active))

  -- what was not held before is not held
  not_before : (one two : LiveValue) → HoldsMore net rows one two → (a : ℕ) → is_held two.given.held a ≡ false → is_held one.given.held a ≡ false
  not_before one two f a free =
      elim (cases_Bool (is_held one.given.held a)) [
        | inl on ↦ let k = f.kept a on in absurd cc
        | inr off ↦ off
      ]

  more_then : (one two three : LiveValue) → HoldsMore net rows one two → HoldsMore net rows two three → HoldsMore net rows one three
  more_then one two three f s = record {
    numbers = numbers_then one two three f.numbers s.numbers;
    kept = λ b h. s.kept b (f.kept b h);
    more = λ b h. elim (s.more b h) [ inl was ↦ f.more b was | inr active ↦ inr active ];
    marked = λ e m. elim (s.marked e m) [
      | inl earlier ↦ f.marked e earlier
      | inr at ↦ inr (record { a = at.a; is_activity = at.is_activity; not_held = not_before one two f at.a at.not_held; active = at.active; head = at.head })
    ];
  }

  -- what some take up and others after them
  pub taken_up_then : (P Q R : ℕ → Type 0) (one two three : LiveValue) → ((b : ℕ) → R b → P b ⊎ Q b) → TakesUp net rows P one two →
      TakesUp net rows Q two three → TakesUp net rows R one three
  taken_up_then P Q R one two three either f s = record {
    held = more_then one two three f.held s.held;
    cycle = s.cycle ∙ f.cycle;
    taken = λ b r active. elim (either b r) [ inl p ↦ s.held.kept b (f.taken b p active) | inr q ↦ s.taken b q active ];
  }

  pub next_taken_up : (acts : List ℕ) (n a : ℕ) (one two three : LiveValue) → a ≡ slice_index acts n → TakesUp net rows (IsAmong acts n) one two →
      TakesUp net rows (IsOnly a) two three → TakesUp net rows (IsAmong acts (n + 1)) one three
  next_taken_up acts n a one two three is f s =
      taken_up_then (IsAmong acts n) (IsOnly a) (IsAmong acts (n + 1)) one two three
      (λ b r. elim (among_next acts n b r) [ inl p ↦ inl p | inr q ↦ inr (q ∙ sym is) ]) f s

  pub refused_after : (one two three : LiveValue) → HoldsMore net rows one two → IsRefused net rows two three → IsRefused net rows one three
  refused_after one two three f s = record {
    held = more_then one two three f s.held;
    flags = s.flags;
    each = λ b h. elim (s.each b h) [ inl was ↦ f.more b was | inr active ↦ inr active ];
    is_cycle = s.is_cycle;
  }

  pub refused_later : (among : ℕ → Type 0) (one two three : LiveValue) → TakesUp net rows among one two → IsRefused net rows two three →
      IsRefused net rows one three
  refused_later among one two three f s = refused_after one two three f.held s

module _ (net : Net) (rows : RowsValue) (a : ℕ) (is_activity : a < length net.activities) (now next : LiveValue) (below : a < length now.given.held)
    (marks : next.marks ≡ with_head net now.marks a) (times : next.times ≡ now.times) (cycle : next.order.cycle ≡ now.order.cycle) where
  pub let_go_one : next.given ≡ with_held now.given a false → is_held now.given.held a ≡ true → is_active net rows a ≡ false →
      LetsGo net rows (IsOnly a) now next
  let_go_one given holds inactive =
      let held : (b : ℕ) → is_held next.given.held b ≡ is_held (slice_set now.given.held a false) b = λ b. ap (λ (g : ConstraintsValue). is_held g.held b) given in
      let was : (b : ℕ) → is_held next.given.held b ≡ true → (b ≢ a) × (is_held now.given.held b ≡ true) =
      λ b h. elim (cases_eq b a) [
        | inl is ↦ let off = set_on now.given.held a b false is below in let e = held b in absurd cc
        | inr ne ↦ (ne, sym (set_off now.given.held a b false ne) ∙ sym (held b) ∙ h)
      ] in
      record {
        numbers = record { floors = ap (λ (g : ConstraintsValue). g.floors) given; spans = ap (λ (g : ConstraintsValue). g.spans) given; times = times };
        cycle = cycle;
        fewer = λ b h. (was b h).1;
        kept = λ b h active. elim (cases_eq b a) [
          | inl is ↦ let on = ap (is_active net rows) is in absurd cc
          | inr ne ↦ held b ∙ set_off now.given.held a b false ne ∙ h
        ];
        gone = λ b is h. absurd ((was b h).0 is);
        marked = λ e m. elim (marked_if now.marks (activity_at net a).head e (ap (λ (ms : List Bool). is_marked ms e) (sym marks) ∙ m)) [
          | inl earlier ↦ inl earlier
          | inr here ↦ inr (record { a = a; is_activity = is_activity; was_held = holds; not_active = inactive; head = sym here })
        ];
      }

  pub taken_up_one : next.given ≡ with_held now.given a true → is_held now.given.held a ≡ false → is_active net rows a ≡ true →
      TakesUp net rows (IsOnly a) now next
  taken_up_one given free active =
      let held : (b : ℕ) → is_held next.given.held b ≡ is_held (slice_set now.given.held a true) b = λ b. ap (λ (g : ConstraintsValue). is_held g.held b) given in
      record {
        held = record {
          numbers = record { floors = ap (λ (g : ConstraintsValue). g.floors) given; spans = ap (λ (g : ConstraintsValue). g.spans) given; times = times };
          kept = λ b h. elim (cases_eq b a) [
            | inl is ↦ held b ∙ set_on now.given.held a b true is below
            | inr ne ↦ held b ∙ set_off now.given.held a b true ne ∙ h
          ];
          more = λ b h. elim (cases_eq b a) [
            | inl is ↦ inr (ap (is_active net rows) is ∙ active)
            | inr ne ↦ inl (sym (set_off now.given.held a b true ne) ∙ sym (held b) ∙ h)
          ];
          marked = λ e m. elim (marked_if now.marks (activity_at net a).head e (ap (λ (ms : List Bool). is_marked ms e) (sym marks) ∙ m)) [
            | inl earlier ↦ inl earlier
            | inr here ↦ inr (record { a = a; is_activity = is_activity; not_held = free; active = active; head = sym here })
          ];
        };
        cycle = cycle;
        taken = λ b is act. held b ∙ set_on now.given.held a b true is below;
      }

pub refused_one : (net : Net) (rows : RowsValue) (a : ℕ) (now next : LiveValue) → is_active net rows a ≡ true → next.given ≡ now.given →
    next.marks ≡ now.marks → next.times ≡ now.times → IsCycleOf net (is_held (with_held now.given a true).held) next.order.cycle →
    IsRefused net rows now next
refused_one net rows a now next active given marks times cycle = record {
  held = record {
    numbers = record { floors = ap (λ (g : ConstraintsValue). g.floors) given; spans = ap (λ (g : ConstraintsValue). g.spans) given; times = times };
    kept = λ b h. ap (λ (g : ConstraintsValue). is_held g.held b) given ∙ h;
    more = λ b h. inl (ap (λ (g : ConstraintsValue). is_held g.held b) (sym given) ∙ h);
    marked = λ e m. inl (ap (λ (ms : List Bool). is_marked ms e) (sym marks) ∙ m);
  };
  flags = slice_set now.given.held a true;
  each = λ b h. elim (cases_eq b a) [
    | inl is ↦ inr (ap (is_active net rows) is ∙ active)
    | inr ne ↦ inl (sym (set_off now.given.held a b true ne) ∙ h)
  ];
  is_cycle = cycle;
}
