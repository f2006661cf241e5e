-- The activities at an event and those that flips decide about, as the rows of the network list them.
use Rattle.std.proofs.Common.{◌≡◌, ℕ, ◌+◌, ◌<◌, Bool, List, [], ◌∷◌, length, Some, sym, ap, subst, ◌∙◌, ◌⊎◌, inl, inr, arith, eq-eqb, filter}
use Rattle.std.specs.Prelude.{◌==◌, All, slice_get}
use Rattle.std.specs.List.{range_with_len}
use Rattle.std.proofs.lemmas.List.{get_or_default}
use Rattle.std.proofs.lemmas.Bool.{cases_lt}
use Rattle.dm_graph.proofs.Windows.{kept_at, stands_in}
use Rattle.dm_network.specs.Net.{Net, activity_at, pair_at, places_into, places_out_of}
use Rattle.dm_network.specs.Start.{IsNetwork}
use Rattle.dm_network.specs.declared.parts.Pair.{Pair}
use Rattle.dm_rows.specs.Rows.{RowsValue}
use Rattle.dm_rows.proofs.PairEnds.{small_is_event, large_is_event}
use Rattle.dm_rows.specs.declared.messages.Flip.{Flip}
use Rattle.dm_rows.specs.declared.messages.Flip.TheVariants.{Keep, Drop, First}
use Rattle.dm_live.specs.Live.{LiveValue}
use Rattle.dm_propagate.specs.Inside.Concern.{LeadsAt, IsDecided, IsOfOneBefore, IsDecidedBefore}
use Rattle.dm_propagate.specs.Inside.Turning.{IsAmong, Within, LetsGo, TakesUp}
use Rattle.dm_propagate.proofs.HeldLemmas.{let_go_then, taken_up_then}

row_is_below : (end : ℕ → ℕ) (n e : ℕ) → All (λ a. a < n) (filter (λ a. end a == e) (range_with_len 0 n))
row_is_below end n e k d lt =
    let kept = kept_at (λ a. end a == e) 0 n k lt in
    let b = kept.below in
    let same = get_or_default (filter (λ a. end a == e) (range_with_len 0 n)) k d 0 lt in
    omega arith

pub in_row_below : (net : Net) (e : ℕ) (row : List ℕ) → row ≡ places_into net e → All (λ a. a < length net.activities) row
in_row_below net e row is = subst (All (λ a. a < length net.activities)) (sym is) (row_is_below (λ a. (activity_at net a).head) (length net.activities) e)

pub out_row_below : (net : Net) (e : ℕ) (row : List ℕ) → row ≡ places_out_of net e → All (λ a. a < length net.activities) row
out_row_below net e row is = subst (All (λ a. a < length net.activities)) (sym is) (row_is_below (λ a. (activity_at net a).tail) (length net.activities) e)

pub into_is_listed : (net : Net) (e : ℕ) (row : List ℕ) → row ≡ places_into net e → (b : ℕ) → b < length net.activities → (activity_at net b).head ≡ e →
    IsAmong row (length row) b
into_is_listed net e row is b lt enters =
    let s = stands_in (λ a. (activity_at net a).head == e) 0 (length net.activities) b (eq-eqb _ e enters) (omega arith) (omega arith) in
    subst (λ (xs : List ℕ). IsAmong xs (length xs) b) (sym is) (s.place, s.within, s.is)

pub out_is_listed : (net : Net) (e : ℕ) (row : List ℕ) → row ≡ places_out_of net e → (b : ℕ) → b < length net.activities → (activity_at net b).tail ≡ e →
    IsAmong row (length row) b
out_is_listed net e row is b lt leaves =
    let s = stands_in (λ a. (activity_at net a).tail == e) 0 (length net.activities) b (eq-eqb _ e leaves) (omega arith) (omega arith) in
    subst (λ (xs : List ℕ). IsAmong xs (length xs) b) (sym is) (s.place, s.within, s.is)

module _ (net : Net) (rows : RowsValue) (e : ℕ) (into out : List ℕ) (is_into : into ≡ places_into net e) (is_out : out ≡ places_out_of net e)
    (one two three : LiveValue) where
  at_event : (b : ℕ) → Within net (LeadsAt net e) b → IsAmong into (length into) b ⊎ IsAmong out (length out) b
  at_event b (lt, leads) = elim leads [ inl head ↦ inl (into_is_listed net e into is_into b lt head) | inr tail ↦ inr (out_is_listed net e out is_out b lt tail) ]

  pub let_go_around : LetsGo net rows (IsAmong into (length into)) one two → LetsGo net rows (IsAmong out (length out)) two three →
      LetsGo net rows (Within net (LeadsAt net e)) one three
  let_go_around f s = let_go_then net rows (IsAmong into (length into)) (IsAmong out (length out)) (Within net (LeadsAt net e)) one two three at_event f s

  pub taken_up_around : TakesUp net rows (IsAmong into (length into)) one two → TakesUp net rows (IsAmong out (length out)) two three →
      TakesUp net rows (Within net (LeadsAt net e)) one three
  taken_up_around f s = taken_up_then net rows (IsAmong into (length into)) (IsAmong out (length out)) (Within net (LeadsAt net e)) one two three at_event f s

-- out of the two events of a pair
module _ (net : Net) (rows : RowsValue) (p : ℕ) (small : Bool) (here there : List ℕ) (is_here : here ≡ places_out_of net (pair_at net p).small)
    (is_there : there ≡ places_out_of net (pair_at net p).large) (one two three : LiveValue) where
  at_pair : (b : ℕ) → Within net (IsDecided net (First p small)) b → IsAmong here (length here) b ⊎ IsAmong there (length there) b
  at_pair b (lt, leads) = elim leads [
    | inl tail ↦ inl (out_is_listed net (pair_at net p).small here is_here b lt tail)
    | inr tail ↦ inr (out_is_listed net (pair_at net p).large there is_there b lt tail)
  ]

  pub let_go_at_pair : LetsGo net rows (IsAmong here (length here)) one two → LetsGo net rows (IsAmong there (length there)) two three →
      LetsGo net rows (Within net (IsDecided net (First p small))) one three
  let_go_at_pair f s = let_go_then net rows (IsAmong here (length here)) (IsAmong there (length there)) (Within net (IsDecided net (First p small))) one two three at_pair f s

  pub taken_up_at_pair : TakesUp net rows (IsAmong here (length here)) one two → TakesUp net rows (IsAmong there (length there)) two three →
      TakesUp net rows (Within net (IsDecided net (First p small))) one three
  taken_up_at_pair f s = taken_up_then net rows (IsAmong here (length here)) (IsAmong there (length there)) (Within net (IsDecided net (First p small))) one two three at_pair f s

module _ (net : Net) (rows : RowsValue) (a : ℕ) (flip : Flip) (decides : (b : ℕ) → IsDecided net flip b → b ≡ a) (one two : LiveValue) where
  alone : (b : ℕ) → Within net (IsDecided net flip) b → IsAmong (a ∷ []) 1 b
  alone b (lt, decided) = (0, omega arith, sym (decides b decided))

  pub let_go_alone : LetsGo net rows (IsAmong (a ∷ []) 1) one two → LetsGo net rows (Within net (IsDecided net flip)) one two
  let_go_alone f = record { numbers = f.numbers; cycle = f.cycle; fewer = f.fewer; kept = f.kept; gone = λ b d. f.gone b (alone b d); marked = f.marked }

-- flips one after another
pub by_flips : (decides : Flip → ℕ → Type 0) (flips : List Flip) (n : ℕ) (flip : Flip) → slice_get flips n ≡ Some flip → (b : ℕ) →
    IsOfOneBefore decides flips (n + 1) b → IsOfOneBefore decides flips n b ⊎ decides flip b
by_flips decides flips n flip there b d = elim (cases_lt d.place n) [
  | inl earlier ↦ inl (record { flip = d.flip; place = d.place; before = earlier; there = d.there; decided = d.decided })
  | inr past ↦
      let before = d.before in
      let here : d.place ≡ n = omega arith in
      let same : Some d.flip ≡ Some flip = sym d.there ∙ ap (slice_get flips) here ∙ there in
      let is : d.flip ≡ flip = cc in
      inr (subst (λ (f : Flip). decides f b) is d.decided)
]

module _ (net : Net) (rows : RowsValue) (flips : List Flip) (n : ℕ) (flip : Flip) (there : slice_get flips n ≡ Some flip) (one two three : LiveValue) where
  within_flips : (b : ℕ) → Within net (IsDecidedBefore net flips (n + 1)) b →
      Within net (IsDecidedBefore net flips n) b ⊎ Within net (IsDecided net flip) b
  within_flips b (lt, d) = elim (by_flips (IsDecided net) flips n flip there b d) [ inl earlier ↦ inl (lt, earlier) | inr now ↦ inr (lt, now) ]

  pub let_go_next : LetsGo net rows (Within net (IsDecidedBefore net flips n)) one two → LetsGo net rows (Within net (IsDecided net flip)) two three →
      LetsGo net rows (Within net (IsDecidedBefore net flips (n + 1))) one three
  let_go_next f s = let_go_then net rows (Within net (IsDecidedBefore net flips n)) (Within net (IsDecided net flip))
      (Within net (IsDecidedBefore net flips (n + 1))) one two three within_flips f s

  pub taken_up_next : TakesUp net rows (Within net (IsDecidedBefore net flips n)) one two → TakesUp net rows (Within net (IsDecided net flip)) two three →
      TakesUp net rows (Within net (IsDecidedBefore net flips (n + 1))) one three
  taken_up_next f s = taken_up_then net rows (Within net (IsDecidedBefore net flips n)) (Within net (IsDecided net flip))
      (Within net (IsDecidedBefore net flips (n + 1))) one two three within_flips f s

pub decides_about : (net : Net) (flip : Flip) (a : ℕ) → (flip ≡ Keep a) ⊎ (flip ≡ Drop a) → (b : ℕ) → IsDecided net flip b → b ≡ a
decides_about net flip a either b d = elim either [
  | inl keep ↦ subst (λ (f : Flip). IsDecided net f b) keep d
  | inr drop ↦ subst (λ (f : Flip). IsDecided net f b) drop d
]

-- the events of a pair, and the rows out of them
pub small_below : (net : Net) → IsNetwork net → (p : ℕ) → p < length net.pairs → (pair : Pair) → pair ≡ pair_at net p → pair.small < length net.events
small_below net network p lt pair is = subst (λ (x : Pair). x.small < length net.events) (sym is) (small_is_event net network p lt)

pub large_below : (net : Net) → IsNetwork net → (p : ℕ) → p < length net.pairs → (pair : Pair) → pair ≡ pair_at net p → pair.large < length net.events
large_below net network p lt pair is = subst (λ (x : Pair). x.large < length net.events) (sym is) (large_is_event net network p lt)
