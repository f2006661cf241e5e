-- Loops over workers and their deques.
use Rattle.std.proofs.Common.{◌≡◌, ℕ, ◌+◌, ◌-◌, List, [], ◌∷◌, ◌++◌, length, map, All, refl, sym, ap, subst, ◌∙◌, arith, append_assoc, length-append}
use Rattle.std.specs.Prelude.{sum_by}
use Rattle.std.proofs.lemmas.List.{map-append}
use Rattle.std.proofs.lemmas.List.Elements.{All-nil, All-cons, All-head, All-tail, All-push}
use Rattle.std.proofs.lemmas.List.Sums.{sum_by-cons, sum_by_push}
use Rattle.atomic_blocks.specs.Lent.{RowsId}
use Rattle.dm_bound.specs.Words.{HandValue}
use Rattle.dm_deques.specs.declared.account.Account.{Account}
use Rattle.dm_deques.specs.Deques.{TallyValue}
use Rattle.dm_deques.specs.Rule.{opening}
use Rattle.dm_deques.specs.Sharing.{deque_of, new_tally, having_lent, settling_each}
use Rattle.dm_team.specs.Accounts.{Path, Weight, owners_put, owners_taken}
use Rattle.dm_team.specs.Inside.Gathering.{all_taken, HasLent, HasLentOnly, AreEquipped}
use Rattle.dm_team.specs.Inside.Working.{tallies_taken}
use Rattle.dm_team.proofs.Gathered.{settles, settles_deques, settles_lent}

-- what is made of each element, and the elements that are left
module _ {X Y : Type 0} (f : X → Y) where
  pub one_more_of : (xs now : List X) (x : X) (y : Y) (rest next whole : List Y) → map f xs ++ rest ≡ whole → rest ≡ y ∷ next → now ≡ xs ++ x ∷ [] → f x ≡ y → map f now ++ next ≡ whole
  one_more_of xs now x y rest next whole all is new same =
      ap (λ (l : List X). map f l ++ next) new
      ∙ (ap (λ (l : List Y). l ++ next) (map-append f xs (x ∷ []))
      ∙ (append_assoc (map f xs) (f x ∷ []) next
      ∙ (ap (λ (z : Y). map f xs ++ z ∷ next) same ∙ (ap (λ (l : List Y). map f xs ++ l) (sym is) ∙ all))))

-- hands that are split off one after another
pub one_split : (start hand next : HandValue) (n m : ℕ) → hand ≡ record start { room = start.room - n } → next ≡ record hand { room = hand.room - 1 } → m ≡ n + 1
    → next ≡ record start { room = start.room - m }
one_split start hand next n m is split more =
    let room : start.room - n - 1 ≡ start.room - m = omega (arith, more) in
    split ∙ (ap (λ (h : HandValue). record h { room = h.room - 1 }) is ∙ ap (λ (r : ℕ). record start { room = r }) room)

-- one list of tallies that was settled, and those that are left
pub one_settled : (h : Weight) (settled now : List (TallyValue Path)) (ts : List (TallyValue Path)) (rest next : List (List (TallyValue Path))) → rest ≡ ts ∷ next
    → map deque_of ts ≡ map deque_of settled → now ≡ settling_each settled ts
    → (owners_put h now ≡ owners_put h settled) × (owners_taken h now + all_taken h next ≡ owners_taken h settled + all_taken h rest)
one_settled h settled now ts rest next is deques new =
    let done = settles h settled ts deques in (
      ap (owners_put h) new ∙ done.0,
      omega (arith, ap (owners_taken h) new, done.1, ap (all_taken h) is, sum_by-cons (tallies_taken h) ts next),
    )

pub settled_deques : (settled now ts : List (TallyValue Path)) (whole : List RowsId) → now ≡ settling_each settled ts → map deque_of settled ≡ whole → map deque_of now ≡ whole
settled_deques settled now ts whole new is = ap (map deque_of) new ∙ (settles_deques settled ts ∙ is)

pub first_of_all : {X : Type 0} (P : X → Type 0) (x : X) (rest next : List X) → rest ≡ x ∷ next → All P rest → P x
first_of_all P x rest next is all = All-head P x next (subst (All P) is all)

pub others_of_all : {X : Type 0} (P : X → Type 0) (x : X) (rest next : List X) → rest ≡ x ∷ next → All P rest → All P next
others_of_all P x rest next is all = All-tail P x next (subst (All P) is all)

pub all_more : {X : Type 0} (P : X → Type 0) (xs now : List X) (x : X) → now ≡ xs ++ x ∷ [] → All P xs → P x → All P now
all_more P xs now x is all p = subst (All P) (sym is) (All-push P xs x all p)

-- one deque more, which is empty
pub one_enlisted : (owners now : List (TallyValue Path)) (thieves thieves_now : List RowsId) (o : TallyValue Path) (t : RowsId) → now ≡ owners ++ o ∷ [] → thieves_now ≡ thieves ++ t ∷ []
    → t ≡ o.deque → o.account ≡ opening → map deque_of owners ≡ thieves → ((h : Weight) → owners_put h owners ≡ h []) → All (HasLentOnly 0) owners
    → (map deque_of now ≡ thieves_now) × ((h : Weight) → owners_put h now ≡ h []) × All (HasLentOnly 0) now × (length now ≡ length owners + 1)
one_enlisted owners now thieves thieves_now o t is thief same account deques root none = (
  ap (map deque_of) is
      ∙ (map-append deque_of owners (o ∷ [])
      ∙ (ap (λ (ds : List RowsId). ds ++ o.deque ∷ []) deques ∙ sym (thief ∙ ap (λ (d : RowsId). thieves ++ d ∷ []) same))),
  λ h. omega (
    arith,
    root h,
    ap (owners_put h) is,
    sum_by_push (λ (x : TallyValue Path). sum_by h x.account.put) owners o,
    ap (λ (v : Account Path). sum_by h v.put) account,
  ),
  all_more (HasLentOnly 0) owners now o is none (record { taken = ap (λ (v : Account Path). v.taken) account; lent = ap (λ (v : Account Path). v.lent) account }),
  ap length is ∙ length-append owners (o ∷ []),
)

lent_deques : (owners : List (TallyValue Path)) → map deque_of (map having_lent owners) ≡ map deque_of owners
lent_deques [] = refl
lent_deques (o ∷ os) = ap (λ (ds : List RowsId). o.deque ∷ ds) (lent_deques os)

lent_put : (h : Weight) (owners : List (TallyValue Path)) → owners_put h (map having_lent owners) ≡ owners_put h owners
lent_put h [] = refl
lent_put h (o ∷ os) =
    let put = λ (x : TallyValue Path). sum_by h x.account.put in
    omega (arith, lent_put h os, sum_by-cons put (having_lent o) (map having_lent os), sum_by-cons put o os)

one_out : (n : ℕ) (owners : List (TallyValue Path)) → All (HasLentOnly n) owners → All (HasLentOnly (n + 1)) (map having_lent owners)
one_out n [] all = All-nil (HasLentOnly (n + 1))
one_out n (o ∷ os) all =
    let here = All-head (HasLentOnly n) o os all in
    All-cons (HasLentOnly (n + 1)) (having_lent o) (map having_lent os) (record { taken = here.taken; lent = ap (λ (k : ℕ). k + 1) here.lent })
    (one_out n os (All-tail (HasLentOnly n) o os all))

-- a tally of each deque is the tallies of a worker
abbrev pub IsPurse : List (TallyValue Path) → List (TallyValue Path) → Type 0
IsPurse owners ts = ts ≡ map new_tally (map deque_of owners)

-- every deque has lent one tally more
pub one_equipped : (before owners now : List (TallyValue Path)) (n : ℕ) (purses purses_now : List (List (TallyValue Path))) (ts : List (TallyValue Path)) → AreEquipped before owners n purses
    → now ≡ map having_lent owners → ts ≡ map new_tally (map deque_of owners) → purses_now ≡ purses ++ ts ∷ [] → AreEquipped before now (n + 1) purses_now
one_equipped before owners now n purses purses_now ts h is tallies more =
    let same : map deque_of now ≡ map deque_of owners = ap (map deque_of) is ∙ lent_deques owners in
    record {
      deques = same ∙ h.deques;
      put = λ w. ap (owners_put w) is ∙ (lent_put w owners ∙ h.put w);
      new = subst (All (HasLentOnly (n + 1))) (sym is) (one_out n owners h.new);
      each = subst (λ (ds : List RowsId). All (λ ts. ts ≡ map new_tally ds) purses_now) (sym same)
          (all_more (IsPurse owners) purses purses_now ts more h.each tallies);
      many = ap length more ∙ (length-append purses (ts ∷ []) ∙ ap (λ (k : ℕ). k + 1) h.many);
    }

-- what is known of all is known of the last and of those before it
pub last_of_all : {X : Type 0} (P : X → Type 0) (xs now : List X) (x : X) → xs ≡ now ++ x ∷ [] → All P xs → P x
last_of_all P xs now x is all = last now (subst (All P) is all) where
  last : (ys : List _) → All P (ys ++ x ∷ []) → P x
  last [] h = All-head P x [] h
  last (y ∷ ys) h = last ys (All-tail P y (ys ++ x ∷ []) h)

pub front_of_all : {X : Type 0} (P : X → Type 0) (xs now : List X) (x : X) → xs ≡ now ++ x ∷ [] → All P xs → All P now
front_of_all P xs now x is all = front now (subst (All P) is all) where
  front : (ys : List _) → All P (ys ++ x ∷ []) → All P ys
  front [] h = All-nil P
  front (y ∷ ys) h = All-cons P y ys (All-head P y (ys ++ x ∷ []) h) (front ys (All-tail P y (ys ++ x ∷ []) h))

-- two lists of which both have lost one
pub one_fewer : {X Y : Type 0} (xs now : List X) (x : X) (ys next : List Y) (y : Y) → xs ≡ now ++ x ∷ [] → ys ≡ y ∷ next → length xs ≡ length ys → length now ≡ length next
one_fewer xs now x ys next y a b same = omega (arith, ap length a, ap length b, length-append now (x ∷ []), same)

-- one list of tallies that was settled leaves one less out
pub one_less_out : (n : ℕ) (settled now ts : List (TallyValue Path)) (rest next : List (List (TallyValue Path))) → rest ≡ ts ∷ next → map deque_of ts ≡ map deque_of settled
    → now ≡ settling_each settled ts → All (HasLent (n + length rest)) settled → All (HasLent (n + length next)) now
one_less_out n settled now ts rest next is deques new all =
    let many : n + length rest ≡ (n + length next) + 1 = omega (arith, ap length is) in
    subst (All (HasLent (n + length next))) (sym new) (settles_lent (n + length next) settled ts deques (subst (λ (k : ℕ). All (HasLent k) settled) many all))

pub none_out : (n : ℕ) (owners : List (TallyValue Path)) (rest : List (List (TallyValue Path))) → rest ≡ [] → All (HasLent (n + length rest)) owners → All (HasLent n) owners
none_out n owners rest none all = subst (λ (k : ℕ). All (HasLent k) owners) (omega (arith, ap length none)) all
