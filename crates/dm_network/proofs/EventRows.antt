-- The rows of the activities into and out of an event.
use Rattle.std.proofs.Common.{◌≡◌, ℕ, ◌<◌, List, length, filter, get_or, sym, subst, arith, eqb-true, eq-eqb, slice_index}
use Rattle.std.specs.Prelude.{◌==◌}
use Rattle.std.specs.List.{range_with_len}
use Rattle.std.proofs.lemmas.List.{get_or_default}
use Rattle.dm_graph.proofs.Windows.{kept_at, StandsAt, stands_in}
use Rattle.dm_network.specs.declared.parts.Activity.{Activity}
use Rattle.dm_network.specs.Net.{Net, activity_at, places_out_of, places_into}

-- ---- of the two ends of activities, either one

-- an activity that has the event at this end
record HasAtEnd (net : Net) (end : Activity → ℕ) (e a : ℕ) : Type 0 where
  is_activity : a < length net.activities
  ends : end (activity_at net a) ≡ e

module _ (net : Net) (end : Activity → ℕ) (e : ℕ) (row : List ℕ)
    (is : row ≡ filter (λ a. end (activity_at net a) == e) (range_with_len 0 (length net.activities))) where
  -- each place in the row of an event is that of an activity that has it at this end
  ends_there : (k : ℕ) → k < length row → HasAtEnd net end e (slice_index row k)
  ends_there k below =
      let all : List ℕ = filter (λ a. end (activity_at net a) == e) (range_with_len 0 (length net.activities)) in
      let kept = kept_at (λ a. end (activity_at net a) == e) 0 (length net.activities) k (subst (λ (xs : List ℕ). k < length xs) is below) in
      let there : HasAtEnd net end e (slice_index all k) =
      record { is_activity = let b = kept.below in omega arith; ends = eqb-true _ e kept.passes } in
      subst (λ (xs : List ℕ). HasAtEnd net end e (slice_index xs k)) (sym is) there

  -- each such activity stands in its row
  stands_there : (a : ℕ) → HasAtEnd net end e a → StandsAt row a
  stands_there a has =
      let b = has.is_activity in
      subst (λ (xs : List ℕ). StandsAt xs a) (sym is)
      (stands_in (λ b. end (activity_at net b) == e) 0 (length net.activities) a (eq-eqb _ e has.ends) (omega arith) (omega arith))

  -- the places in the row are those of activities
  places_below : (k d : ℕ) → k < length row → get_or row k d < length net.activities
  places_below k d lt =
      let there : get_or row k d ≡ slice_index row k = get_or_default row k d 0 lt in
      let below = (ends_there k lt).is_activity in
      omega arith

-- ---- out of an event

-- an activity out of the event
pub record LeadsOut (net : Net) (e a : ℕ) : Type 0 where
  pub is_activity : a < length net.activities
  pub tail : (activity_at net a).tail ≡ e

-- each place in the row of an event is that of an activity out of it
pub leads_out : (net : Net) (e k : ℕ) (row : List ℕ) → row ≡ places_out_of net e → k < length row → LeadsOut net e (slice_index row k)
leads_out net e k row is below =
    let there = ends_there net (λ a. a.tail) e row is k below in record { is_activity = there.is_activity; tail = there.ends }

-- each activity out of an event stands in its row
pub stands_out : (net : Net) (e a : ℕ) (row : List ℕ) → row ≡ places_out_of net e → LeadsOut net e a → StandsAt row a
stands_out net e a row is leads = stands_there net (λ a. a.tail) e row is a (record { is_activity = leads.is_activity; ends = leads.tail })

-- the places in the row out of an event are those of activities
pub row_below : (net : Net) (tail : ℕ) (row : List ℕ) → row ≡ places_out_of net tail → (k d : ℕ) → k < length row → get_or row k d < length net.activities
row_below net tail row is = places_below net (λ a. a.tail) tail row is

-- ---- into an event

-- an activity into the event
pub record LeadsInto (net : Net) (e a : ℕ) : Type 0 where
  pub is_activity : a < length net.activities
  pub head : (activity_at net a).head ≡ e

-- each place in the row of an event is that of an activity into it
pub leads_into : (net : Net) (e k : ℕ) (row : List ℕ) → row ≡ places_into net e → k < length row → LeadsInto net e (slice_index row k)
leads_into net e k row is below =
    let there = ends_there net (λ a. a.head) e row is k below in record { is_activity = there.is_activity; head = there.ends }

-- each activity into an event stands in its row
pub stands_into : (net : Net) (e a : ℕ) (row : List ℕ) → row ≡ places_into net e → LeadsInto net e a → StandsAt row a
stands_into net e a row is leads = stands_there net (λ a. a.head) e row is a (record { is_activity = leads.is_activity; ends = leads.head })

-- the places in the row into an event are those of activities
pub into_below : (net : Net) (head : ℕ) (row : List ℕ) → row ≡ places_into net head → (k d : ℕ) → k < length row → get_or row k d < length net.activities
into_below net head row is = places_below net (λ a. a.head) head row is
