-- Which rows a sweep has read so far.
use Rattle.std.proofs.Common.{◌≡◌, ◌≢◌, ℕ, zero, suc, ◌+◌, ◌<◌, ◌≤◌, Bool, true, false, List, [], ◌∷◌, length, refl, sym, ap, subst, ◌∙◌, ◌⊎◌, inl, inr, arith, slice_index, slice_index_or, get_or-set_same, get_or-set_other}
use Rattle.std.specs.Prelude.{slice_set, nat_eq}
use Rattle.std.specs.List.{Contains, IsDistinct, AllByRecursion}
use Rattle.std.proofs.lemmas.Bool.{ne_eqb}
use Rattle.std.proofs.lemmas.Map.Keys.{IsDistinct-cons}
use Rattle.dm_graph.specs.Arrays.{AreRanks}
use Rattle.dm_graph.specs.Arcs.{Arcs}
use Rattle.dm_graph.specs.Graph.{Graph}
use Rattle.dm_marks.specs.Marked.{is_marked}
use Rattle.dm_settle.specs.Settling.{State, Follows}
use Rattle.dm_settle.specs.Inside.Sweep.{Stays, Moves, HasRead}
use Rattle.dm_settle.proofs.Pulling.{binds_still}
use Rattle.dm_settle.proofs.Sweeping.{one_of_rank, marked_else}

-- what a list with one more in front contains
pub in_front : (xs : List ℕ) (x : ℕ) → Contains (x ∷ xs) x
in_front xs x = (0, omega arith, refl)

pub behind : (xs : List ℕ) (x y : ℕ) → Contains xs y → Contains (x ∷ xs) y
behind xs x y c = let lt = c.1 in (suc c.0, omega arith, c.2)

pub at_place : (xs : List ℕ) (x y k : ℕ) → k < suc (length xs) → slice_index_or (x ∷ xs) k y ≡ y → (y ≡ x) ⊎ Contains xs y
at_place xs x y zero lt is = inl (sym is)
at_place xs x y (suc k) lt is = inr (k, omega arith, is)

pub front_or : (xs : List ℕ) (x y : ℕ) → Contains (x ∷ xs) y → (y ≡ x) ⊎ Contains xs y
front_or xs x y c = at_place xs x y c.0 c.1 c.2

pub none_is : (xs : List ℕ) (x : ℕ) → ((y : ℕ) → Contains xs y → x ≢ y) → AllByRecursion (λ y. nat_eq x y ≡ false) xs
none_is [] x each = tt
none_is (y ∷ ys) x each = (ne_eqb x y (each y (in_front ys y)), none_is ys x (λ z c. each z (behind ys y z c)))

-- one more that none of them is
pub distinct_with : (xs : List ℕ) (x : ℕ) → IsDistinct nat_eq xs → ((y : ℕ) → Contains xs y → x ≢ y) → IsDistinct nat_eq (x ∷ xs)
distinct_with xs x distinct each = IsDistinct-cons nat_eq x xs (none_is xs x each) distinct

-- what follows some events follows more
follows_more : (g : Arcs) (xs : List ℕ) (x e : ℕ) → Follows g xs e → Follows g (x ∷ xs) e
follows_more g xs x e f = record { from = f.from; among = behind xs x f.from f.among; leads = f.leads }

module _ (g : Graph) (order ranks : List ℕ) (ranked : AreRanks g.shape.events order ranks)
    (start now : State) (from : ℕ) (had : HasRead g.shape ranks start now from)
    (as_many_marks : length now.marks ≡ g.shape.events) (as_many_times : length now.times ≡ g.shape.events)
    (e : ℕ) (is_event : e < g.shape.events) (onward : from ≤ slice_index ranks e) (marked : is_marked now.marks (slice_index ranks e) ≡ true) where
  within : slice_index ranks e < length now.marks
  within = let p = ranked.has_place e is_event in omega arith

  -- an event of a lower rank is another one
  other_than : (f : ℕ) → slice_index ranks f < from → e ≢ f
  other_than f before is = let same : slice_index ranks e ≡ slice_index ranks f = ap (slice_index ranks) is in omega arith

  new_renewed : IsDistinct nat_eq (e ∷ had.renewed)
  new_renewed = distinct_with had.renewed e had.reads.renewed_once (λ f c. other_than f (had.renewed_before f c))

  events_with : (f : ℕ) → Contains (e ∷ had.renewed) f → f < g.shape.events
  events_with f c = elim (front_or had.renewed e f c) [ inl is ↦ omega arith | inr was ↦ had.reads.are_events f was ]

  before_next : (xs : List ℕ) → ((f : ℕ) → Contains xs f → slice_index ranks f < from) → (f : ℕ) → Contains (e ∷ xs) f → slice_index ranks f < slice_index ranks e + 1
  before_next xs before f c =
      elim (front_or xs e f c) [
        | inl is ↦ let same : slice_index ranks f ≡ slice_index ranks e = ap (slice_index ranks) is in omega arith
        | inr was ↦ let b = before f was in omega arith
      ]

  pub stays_read : (next : State) → Stays g ranks e now next → HasRead g.shape ranks start next (slice_index ranks e + 1)
  stays_read next s =
      let counted = s.counted in
      let so_far = had.counted in
      let kept : (f : ℕ) → slice_index next.times f ≡ slice_index now.times f = λ f. ap (λ (ts : List ℕ). slice_index ts f) s.times in
      record {
        renewed = e ∷ had.renewed;
        moved = had.moved;
        counted = omega arith;
        reads = record {
          are_events = events_with;
          renewed_once = new_renewed;
          moved_once = had.reads.moved_once;
          caused = λ f c. elim (front_or had.renewed e f c) [
            | inl is ↦ subst (λ (h : ℕ). (is_marked start.marks (slice_index ranks h) ≡ true) ⊎ Follows g.shape had.moved h) (sym is) (had.marked_for e is_event marked)
            | inr was ↦ had.reads.caused f was
          ];
          differs = λ f c same. had.reads.differs f c (same ∙ kept f);
        };
        renewed_before = before_next had.renewed had.renewed_before;
        moved_before = λ f c. let b = had.moved_before f c in omega arith;
        same_after = λ f lt after. kept f ∙ had.same_after f lt (omega arith);
        marked_for = λ f lt is_now.
            let still : is_marked (slice_set now.marks (slice_index ranks e) false) (slice_index ranks f) ≡ true = ap (λ (ms : List Bool). is_marked ms (slice_index ranks f)) (sym s.marks) ∙ is_now in
            had.marked_for f lt (marked_else now.marks (slice_index ranks e) (slice_index ranks f) within still).1;
      }

  pub moves_read : (next : State) → Moves g ranks e now next → HasRead g.shape ranks start next (slice_index ranks e + 1)
  moves_read next m =
      let counted = m.counted in
      let so_far = had.counted in
      let here : slice_index next.times e ≡ m.time = ap (λ (ts : List ℕ). slice_index ts e) m.times ∙ get_or-set_same now.times e m.time 0 (omega arith) in
      let elsewhere : (f : ℕ) → f ≢ e → slice_index next.times f ≡ slice_index now.times f =
      λ f ne. ap (λ (ts : List ℕ). slice_index ts f) m.times ∙ get_or-set_other now.times e f m.time 0 ne in
      let first : slice_index now.times e ≡ slice_index start.times e = had.same_after e is_event onward in
      record {
        renewed = e ∷ had.renewed;
        moved = e ∷ had.moved;
        counted = omega arith;
        reads = record {
          are_events = events_with;
          renewed_once = new_renewed;
          moved_once = distinct_with had.moved e had.reads.moved_once (λ f c. other_than f (had.moved_before f c));
          caused = λ f c. elim (front_or had.renewed e f c) [
            | inl is ↦ subst (λ (h : ℕ). (is_marked start.marks (slice_index ranks h) ≡ true) ⊎ Follows g.shape (e ∷ had.moved) h) (sym is) (more_for e (had.marked_for e is_event marked))
            | inr was ↦ more_for f (had.reads.caused f was)
          ];
          differs = λ f c same. elim (front_or had.moved e f c) [
            | inl is ↦ m.differs (first ∙ subst (λ (h : ℕ). slice_index start.times h ≡ slice_index next.times h) is same ∙ here)
            | inr was ↦ had.reads.differs f was (same ∙ elsewhere f (λ is. other_than f (had.moved_before f was) (sym is)))
          ];
        };
        renewed_before = before_next had.renewed had.renewed_before;
        moved_before = before_next had.moved had.moved_before;
        same_after = λ f lt after.
            elsewhere f (λ is. let same : slice_index ranks f ≡ slice_index ranks e = ap (slice_index ranks) is in omega arith)
            ∙ had.same_after f lt (omega arith);
        marked_for = λ f lt is_now. elim (m.marks.only (slice_index ranks f) is_now) [
          | inl was ↦ more_for f (had.marked_for f lt (marked_else now.marks (slice_index ranks e) (slice_index ranks f) within was).1)
          | inr leads ↦ inr (record {
            from = e;
            among = in_front had.moved e;
            leads = record {
              arc = leads.arc;
              binds = binds_still g now.times e m.time leads.arc leads.binds;
              leaves = leads.leaves;
              enters = one_of_rank g.shape.events order ranks ranked (g.shape.head leads.arc) f leads.binds.to_event lt leads.there;
            };
          })
        ];
      }
    where
      more_for : (f : ℕ) → (is_marked start.marks (slice_index ranks f) ≡ true) ⊎ Follows g.shape had.moved f → (is_marked start.marks (slice_index ranks f) ≡ true) ⊎ Follows g.shape (e ∷ had.moved) f
      more_for f h = elim h [ inl was ↦ inl was | inr follows ↦ inr (follows_more g.shape had.moved e f follows) ]

none_distinct : IsDistinct nat_eq []
unfolding IsDistinct
none_distinct = tt

pub none_read : (g : Arcs) (ranks : List ℕ) (start : State) → HasRead g ranks start start 0
none_read g ranks start =
    record {
      renewed = [];
      moved = [];
      counted = omega arith;
      reads = record {
        are_events = λ e c. let lt = c.1 in absurd (omega arith);
        renewed_once = none_distinct;
        moved_once = none_distinct;
        caused = λ e c. let lt = c.1 in absurd (omega arith);
        differs = λ e c same. let lt = c.1 in omega arith;
      };
      renewed_before = λ e c. let lt = c.1 in absurd (omega arith);
      moved_before = λ e c. let lt = c.1 in absurd (omega arith);
      same_after = λ e lt after. refl;
      marked_for = λ e lt now. inl now;
    }
