-- What held activities lead to within an interval of places.
use Rattle.std.proofs.Common.{◌≡◌, ℕ, zero, suc, ◌+◌, ◌<◌, ◌≤◌, Bool, true, false, IsTrue, List, [], ◌∷◌, length, Option, Some, None, refl, sym, ap, subst, ◌∙◌, ◌⊎◌, inl, inr, arith, eq-eqb, slice_index, slice_index_or, get_or-set_same, get_or-set_other, length-set}
use Rattle.std.specs.Prelude.{◌==◌, ◌&&◌, nat_lt, nat_le, is_some, slice_set, if◌then◌else◌}
use Rattle.std.proofs.lemmas.Bool.{cases_Bool, cases_lt, cases_eq, and_parts, lt-ltb, le-leb, ltb-true, leb-true}
use Rattle.dm_graph.specs.Arrays.{AreRanks}
use Rattle.dm_graph.proofs.Windows.{StandsAt, stands_in}
use Rattle.dm_network.specs.Net.{Net, EndsAreKnown, activity_at, places_out_of}
use Rattle.dm_network.specs.Held.{is_held}
use Rattle.dm_order.specs.Inside.Reaching.{is_reached, leads_on, followed, followed_all, IsCause, HasReached}
use Rattle.dm_network.proofs.EventRows.{leads_out}

pub stands_out : (net : Net) (e a : ℕ) → a < length net.activities → (activity_at net a).tail ≡ e → StandsAt (places_out_of net e) a
stands_out net e a lt is =
    stands_in (λ b. (activity_at net b).tail == e) 0 (length net.activities) a (eq-eqb _ e is) (omega arith) (omega arith)

-- what was reached has a cause
pub record HasSome (o : Option ℕ) : Type 0 where
  pub value : ℕ
  pub is : o ≡ Some value

pub some_of : (o : Option ℕ) → is_some o ≡ true → HasSome o
some_of None h = cc
some_of (Some b) h = record { value = b; is = refl }

pub reached_by : (causes : List (Option ℕ)) (k a : ℕ) → slice_index_or causes k None ≡ Some a → is_reached causes k ≡ true
reached_by causes k a is = ap is_some is

module _ (net : Net) (held : List Bool) (ranks : List ℕ) (at high : ℕ) where
  pub record LeadsOnTo (a place : ℕ) : Type 0 where
    pub holds : IsTrue (is_held held a)
    pub head : slice_index ranks (activity_at net a).head ≡ place
    pub later : at < place
    pub within : place ≤ high

  pub leads_parts : (a : ℕ) → leads_on net held ranks at high a ≡ true → LeadsOnTo a (slice_index ranks (activity_at net a).head)
  leads_parts a is =
      let one = and_parts (is_held held a) (nat_lt at (slice_index ranks (activity_at net a).head) && nat_le (slice_index ranks (activity_at net a).head) high) is in
      let two = and_parts (nat_lt at (slice_index ranks (activity_at net a).head)) (nat_le (slice_index ranks (activity_at net a).head) high) one.1 in
      record { holds = one.0; head = refl; later = ltb-true at _ two.0; within = leb-true _ high two.1 }

  all_three : (x y z : Bool) → x ≡ true → y ≡ true → z ≡ true → (x && (y && z)) ≡ true
  all_three x y z p q r = rw (p, q, r) refl

  pub leads_if : (a : ℕ) → IsTrue (is_held held a) → at < slice_index ranks (activity_at net a).head → slice_index ranks (activity_at net a).head ≤ high →
      leads_on net held ranks at high a ≡ true
  leads_if a holds later within =
      all_three (is_held held a) (nat_lt at (slice_index ranks (activity_at net a).head)) (nat_le (slice_index ranks (activity_at net a).head) high)
      holds (lt-ltb at _ later) (le-leb _ high within)

  -- the event at a place was reached by one of these activities
  pub record IsReachedBy (arcs : List ℕ) (place a : ℕ) : Type 0 where
    pub k : ℕ
    pub below : k < length arcs
    pub is : slice_index arcs k ≡ a
    pub leads : LeadsOnTo a place

  -- beside what was reached before, the heads of those that lead on are reached
  pub record HasFollowed (arcs : List ℕ) (before now : List (Option ℕ)) : Type 0 where
    pub as_many : length now ≡ length before
    pub kept : (k : ℕ) → is_reached before k ≡ true → is_reached now k ≡ true
    pub heads : (k : ℕ) → k < length arcs → leads_on net held ranks at high (slice_index arcs k) ≡ true →
        is_reached now (slice_index ranks (activity_at net (slice_index arcs k)).head) ≡ true
    pub only : (k a : ℕ) → slice_index_or now k None ≡ Some a → (slice_index_or before k None ≡ Some a) ⊎ IsReachedBy arcs k a

  followed_on : (causes : List (Option ℕ)) (a : ℕ) → leads_on net held ranks at high a ≡ true →
      followed net held ranks at high causes a ≡ slice_set causes (slice_index ranks (activity_at net a).head) (Some a)
  followed_on causes a is =
      ap (λ (b : Bool). if b then slice_set causes (slice_index ranks (activity_at net a).head) (Some a) else causes) is

  followed_not : (causes : List (Option ℕ)) (a : ℕ) → leads_on net held ranks at high a ≡ false → followed net held ranks at high causes a ≡ causes
  followed_not causes a is =
      ap (λ (b : Bool). if b then slice_set causes (slice_index ranks (activity_at net a).head) (Some a) else causes) is

  record FollowsOne (a : ℕ) (before now : List (Option ℕ)) : Type 0 where
    pub as_many : length now ≡ length before
    pub kept : (k : ℕ) → is_reached before k ≡ true → is_reached now k ≡ true
    pub head : leads_on net held ranks at high a ≡ true → is_reached now (slice_index ranks (activity_at net a).head) ≡ true
    pub only : (k b : ℕ) → slice_index_or now k None ≡ Some b → (slice_index_or before k None ≡ Some b) ⊎ ((a ≡ b) × LeadsOnTo b k)

  same_value : (a b : ℕ) → Some a ≡ Some b → a ≡ b
  same_value a b h = cc

  follows_set : (causes : List (Option ℕ)) (a : ℕ) → high < length causes → leads_on net held ranks at high a ≡ true →
      FollowsOne a causes (slice_set causes (slice_index ranks (activity_at net a).head) (Some a))
  follows_set causes a room is =
      let l = leads_parts a is in
      let w = l.within in
      let place : ℕ = slice_index ranks (activity_at net a).head in
      let here : slice_index_or (slice_set causes place (Some a)) place None ≡ Some a = get_or-set_same causes place (Some a) None (omega arith) in
      record {
        as_many = length-set causes place (Some a);
        kept = λ k was. elim (cases_eq k place) [
          | inl same ↦ subst (λ (j : ℕ). is_reached (slice_set causes place (Some a)) j ≡ true) (sym same) (ap is_some here)
          | inr ne ↦ ap is_some (get_or-set_other causes place k (Some a) None ne) ∙ was
        ];
        head = λ _. ap is_some here;
        only = λ k b now. elim (cases_eq k place) [
          | inl same ↦
              let value : Some a ≡ Some b = sym here ∙ ap (λ (j : ℕ). slice_index_or (slice_set causes place (Some a)) j None) (sym same) ∙ now in
              let e : a ≡ b = same_value a b value in
              inr (e, subst (λ (c : ℕ). LeadsOnTo c k) e (subst (LeadsOnTo a) (sym same) l))
          | inr ne ↦ inl (sym (get_or-set_other causes place k (Some a) None ne) ∙ now)
        ];
      }

  follows_one : (causes : List (Option ℕ)) (a : ℕ) → high < length causes → FollowsOne a causes (followed net held ranks at high causes a)
  follows_one causes a room =
      elim (cases_Bool (leads_on net held ranks at high a)) [
        | inl is ↦ subst (FollowsOne a causes) (sym (followed_on causes a is)) (follows_set causes a room is)
        | inr not ↦ subst (FollowsOne a causes) (sym (followed_not causes a not)) (record {
          as_many = refl;
          kept = λ k was. was;
          head = λ is. absurd cc;
          only = λ k b now. inl now;
        })
      ]

  pub has_followed : (arcs : List ℕ) (causes : List (Option ℕ)) → high < length causes → HasFollowed arcs causes (followed_all net held ranks at high causes arcs)
  has_followed [] causes room = record { as_many = refl; kept = λ k was. was; heads = λ k lt _. absurd (omega arith); only = λ k a now. inl now }
  has_followed (a ∷ rest) causes room =
      let one = follows_one causes a room in
      let count = one.as_many in
      let more = has_followed rest (followed net held ranks at high causes a) (omega arith) in
      record {
        as_many = more.as_many ∙ one.as_many;
        kept = λ k was. more.kept k (one.kept k was);
        heads = heads_of one more;
        only = λ k b now. elim (more.only k b now) [
          | inl was ↦
              elim (one.only k b was) [
                | inl before ↦ inl before
                | inr by ↦ inr (record { k = 0; below = omega arith; is = by.0; leads = by.1 })
              ]
          | inr by ↦ let lt = by.below in inr (record { k = suc by.k; below = omega arith; is = by.is; leads = by.leads })
        ];
      }
    where
      heads_of : FollowsOne a causes (followed net held ranks at high causes a) →
          HasFollowed rest (followed net held ranks at high causes a) (followed_all net held ranks at high (followed net held ranks at high causes a) rest) →
          (k : ℕ) → k < length (a ∷ rest) → leads_on net held ranks at high (slice_index (a ∷ rest) k) ≡ true →
          is_reached (followed_all net held ranks at high causes (a ∷ rest)) (slice_index ranks (activity_at net (slice_index (a ∷ rest) k)).head) ≡ true
      heads_of one more zero lt is = more.kept _ (one.head is)
      heads_of one more (suc k) lt is = more.heads k (omega arith) is

-- a cause stays one when more is reached
cause_stays : (net : Net) (held : List Bool) (ranks : List ℕ) (before now : List (Option ℕ)) (low place a : ℕ) →
    ((k : ℕ) → is_reached before k ≡ true → is_reached now k ≡ true) → IsCause net held ranks before low place a → IsCause net held ranks now low place a
cause_stays net held ranks before now low place a kept c = record {
  is_activity = c.is_activity;
  holds = c.holds;
  head = c.head;
  not_before = c.not_before;
  before = c.before;
  reached = kept _ c.reached;
}

module _ (net : Net) (held : List Bool) (order ranks : List ℕ) (ranked : AreRanks (length net.events) order ranks) (known : EndsAreKnown net)
    (low high at : ℕ) (causes : List (Option ℕ)) (had : HasReached net held ranks low high at causes)
    (from : low ≤ at) (below : at < high) (within : high < length net.events) where
  -- the event at a place was not reached: nothing is to be followed
  pub passes_by : is_reached causes at ≡ false → HasReached net held ranks low high (at + 1) causes
  passes_by free = record {
    as_many = had.as_many;
    begun = had.begun;
    caused = had.caused;
    closed = λ a lt holds not_before before forward up reached.
        elim (cases_lt (slice_index ranks (activity_at net a).tail) at) [
          | inl earlier ↦ had.closed a lt holds not_before earlier forward up reached
          | inr here ↦
              let same : slice_index ranks (activity_at net a).tail ≡ at = omega arith in
              let not : is_reached causes (slice_index ranks (activity_at net a).tail) ≡ false = ap (is_reached causes) same ∙ free in
              absurd cc
        ];
  }

  -- it was reached, and the activities out of its event are followed
  module _ (now : List (Option ℕ)) (is_now : now ≡ followed_all net held ranks at high causes (places_out_of net (slice_index order at)))
      (is : is_reached causes at ≡ true) where
    room : high < length causes
    room = let n = had.as_many in omega arith

    follows : HasFollowed net held ranks at high (places_out_of net (slice_index order at)) causes now
    follows =
        subst (HasFollowed net held ranks at high (places_out_of net (slice_index order at)) causes) (sym is_now)
        (has_followed net held ranks at high (places_out_of net (slice_index order at)) causes room)

    tail_place : (a : ℕ) → (activity_at net a).tail ≡ slice_index order at → slice_index ranks (activity_at net a).tail ≡ at
    tail_place a leaves = ap (slice_index ranks) leaves ∙ ranked.is_ranked at (omega arith)

    -- what stands at this place or before was reached before
    was_reached : (k : ℕ) → k ≤ at → is_reached now k ≡ true → is_reached causes k ≡ true
    was_reached k le reached =
        let s = some_of (slice_index_or now k None) reached in
        elim (follows.only k s.value s.is) [
          | inl before ↦ reached_by causes k s.value before
          | inr by ↦ let l = by.leads.later in absurd (omega arith)
        ]

    pub goes_on : HasReached net held ranks low high (at + 1) now
    goes_on = record {
      as_many = follows.as_many ∙ had.as_many;
      begun = follows.kept low had.begun;
      caused = λ place a later up caused. elim (follows.only place a caused) [
        | inl before ↦ cause_stays net held ranks causes now low place a follows.kept (had.caused place a later up before)
        | inr by ↦
            let out = leads_out net (slice_index order at) by.k (places_out_of net (slice_index order at)) refl by.below in
            let is_activity : a < length net.activities = subst (λ (b : ℕ). b < length net.activities) by.is out.is_activity in
            let leaves : (activity_at net a).tail ≡ slice_index order at = subst (λ (b : ℕ). (activity_at net b).tail ≡ slice_index order at) by.is out.tail in
            let place_is = tail_place a leaves in
            let l = by.leads.later in
            record {
              is_activity = is_activity;
              holds = by.leads.holds;
              head = by.leads.head;
              not_before = omega arith;
              before = omega arith;
              reached = follows.kept _ (ap (is_reached causes) place_is ∙ is);
            }
      ];
      closed = λ a lt holds not_before before forward up reached.
          elim (cases_lt (slice_index ranks (activity_at net a).tail) at) [
            | inl earlier ↦
                follows.kept _ (had.closed a lt holds not_before earlier forward up (was_reached _ (omega arith) reached))
            | inr here ↦
                let same : slice_index ranks (activity_at net a).tail ≡ at = omega arith in
                let leaves : (activity_at net a).tail ≡ slice_index order at =
                sym (ranked.stands_there (activity_at net a).tail (known.tails a lt)) ∙ ap (slice_index order) same in
                let s = stands_out net (slice_index order at) a lt leaves in
                subst (λ (b : ℕ). is_reached now (slice_index ranks (activity_at net b).head) ≡ true) s.is
                (follows.heads s.place s.within
                (subst (λ (b : ℕ). leads_on net held ranks at high b ≡ true) (sym s.is)
                (leads_if net held ranks at high a holds (omega arith) up)))
          ];
    }
