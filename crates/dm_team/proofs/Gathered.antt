-- What is gathered from one worker more.
use Rattle.std.proofs.Common.{◌≡◌, ◌⊎◌, ℕ, ◌+◌, ◌≤◌, ◌<◌, Bool, List, [], ◌∷◌, ◌++◌, min, All, refl, ap, sym, ◌∙◌, subst, arith, inl, inr, ⊎_elim}
use Rattle.std.specs.Prelude.{map, sum_by}
use Rattle.std.proofs.lemmas.Bool.{cases_lt}
use Rattle.std.proofs.lemmas.List.Elements.{All-nil, All-cons, All-append, All-head, All-tail}
use Rattle.std.proofs.lemmas.List.Sums.{sum_by-append, sum_by-cons, sum_by_push}
use Rattle.atomic_table.specs.Seated.{TableId}
use Rattle.dm_rows.specs.declared.messages.Decision.{Decision}
use Rattle.dm_tree.specs.declared.forms.Leaf.{Leaf}
use Rattle.dm_bound.specs.Words.{HandValue, lowest, nothing_looked}
use Rattle.dm_deques.specs.Deques.{TallyValue}
use Rattle.dm_deques.specs.Sharing.{deque_of, settling, settling_each}
use Rattle.dm_team.specs.Ways.{on_way, StandApart}
use Rattle.dm_team.specs.Nodes.{GuidedTask}
use Rattle.dm_team.specs.Accounts.{Path, Weight, Branching, IsBranching, below_by, branched_by, owners_put, owners_taken, IsAccounted}
use Rattle.dm_team.specs.Found.{IsShown, IsHandedIn, AreKept, AreListed}
use Rattle.dm_team.specs.Inside.Working.{tallies_taken, IsAtWork, nothing}
use Rattle.dm_team.specs.declared.working.Best.{Best}
use Rattle.dm_team.specs.Inside.Gathering.{all_taken, HasLent, AreGathered}
use Rattle.dm_team.proofs.Efforts.{ends_lower, listed_lower}
use Rattle.dm_team.proofs.Ways.{below_weight}

abbrev pub both : HandValue → HandValue → HandValue
both h k = record h { lowered = h.lowered ++ k.lowered; looked = min h.looked k.looked; room = h.room + k.room }

module _ (task : GuidedTask) (own : ℕ) (word : TableId) (start rooms : ℕ) (given taken : Weight → ℕ) (owners : List (TallyValue Path)) (hand : HandValue) (leaves : List Leaf)
    (given_up : List Path) (choices : List Decision) (cost : ℕ) (more : Weight → ℕ) (owner : TallyValue Path) (tallies : List (TallyValue Path)) (hand' : HandValue) (leaves' : List Leaf)
    (given_up' : List Path) (choices' : List Decision) (cost' : ℕ) where
  -- the cheaper choices stay, and everything else is put together
  pub gathers : AreGathered task own word start rooms given taken owners hand leaves given_up choices cost
      → IsAtWork task own word start more nothing owner tallies hand' leaves' given_up' choices' cost'
      → (kept : List Decision) (least : ℕ) → (((kept ≡ choices') × (least ≡ cost') × (cost' < cost)) ⊎ ((kept ≡ choices) × (least ≡ cost) × (cost ≤ cost')))
      → AreGathered task own word start (rooms + 1) (λ h. given h + more h) (λ h. taken h + tallies_taken h tallies) (owners ++ owner ∷ []) (both hand hand') (leaves ++ leaves')
      (given_up ++ given_up') kept least
  gathers g w kept least which =
      let low : (least ≤ cost) × (least ≤ cost') = ⊎_elim
      (λ (h : (kept ≡ choices') × (least ≡ cost') × (cost' < cost)). (omega (arith, h.1, h.2), omega (arith, h.1)))
      (λ (h : (kept ≡ choices) × (least ≡ cost) × (cost ≤ cost')). (omega (arith, h.1), omega (arith, h.1, h.2))) which in
      record {
        branched = g.branched ++ w.branched;
        branchings = All-append (IsBranching task) g.branched w.branched g.branchings w.branchings;
        taken = λ h. omega (
          arith,
          g.taken h,
          w.taken h,
          sum_by_push (λ (o : TallyValue Path). sum_by h o.account.taken) owners owner,
          sum_by-append (λ (l : Leaf). h l.path) leaves leaves',
          sum_by-append h given_up given_up',
          sum_by-append (λ (b : Branching). h b.path) g.branched w.branched,
        );
        put = λ h. omega (
          arith,
          g.put h,
          w.put h,
          sum_by_push (λ (o : TallyValue Path). sum_by h o.account.put) owners owner,
          sum_by-append (below_by h) g.branched w.branched,
        );
        found = record {
          ends = All-append (IsHandedIn task least (min hand.looked hand'.looked)) leaves leaves'
              (ends_lower task cost least hand.looked (min hand.looked hand'.looked) leaves low.0 (omega arith) g.found.ends)
              (ends_lower task cost' least hand'.looked (min hand.looked hand'.looked) leaves' low.1 (omega arith) w.found.ends);
          kept = ⊎_elim
              (λ (h : (kept ≡ choices') × (least ≡ cost') × (cost' < cost)). subst (λ (k : List Decision). AreKept task.task own k least) (sym h.0) (subst (λ (c : ℕ). AreKept task.task own choices' c) (sym h.1) w.found.kept))
              (λ (h : (kept ≡ choices) × (least ≡ cost) × (cost ≤ cost')). subst (λ (k : List Decision). AreKept task.task own k least) (sym h.0) (subst (λ (c : ℕ). AreKept task.task own choices c) (sym h.1) g.found.kept))
              which;
          listed = All-append (λ c. (least ≤ c) ⊎ (c ≡ nothing_looked)) hand.lowered hand'.lowered
              (listed_lower task cost least hand.lowered low.0 g.found.listed) (listed_lower task cost' least hand'.lowered low.1 w.found.listed);
          word_is = g.found.word_is;
          start_is = g.found.start_is;
          room = omega (arith, g.found.room, w.found.room);
        };
      }

-- what owners have put and taken where each takes a tally in
pub settles : (h : Weight) (owners tallies : List (TallyValue Path)) → map deque_of tallies ≡ map deque_of owners
    → (owners_put h (settling_each owners tallies) ≡ owners_put h owners) × (owners_taken h (settling_each owners tallies) ≡ owners_taken h owners + tallies_taken h tallies)
settles h [] [] e = (refl, refl)
settles h [] (t ∷ ts) e = absurd (cc)
settles h (o ∷ os) [] e = absurd (cc)
settles h (o ∷ os) (t ∷ ts) e =
    let rest = settles h os ts (cc) in
    let put = λ (x : TallyValue Path). sum_by h x.account.put in
    let took = λ (x : TallyValue Path). sum_by h x.account.taken in (
      omega (arith, rest.0, sum_by-cons put (settling o t) (settling_each os ts), sum_by-cons put o os),
      omega (
        arith,
        rest.1,
        sum_by-cons took (settling o t) (settling_each os ts),
        sum_by-cons took o os,
        sum_by-cons took t ts,
        sum_by-append h o.account.taken t.account.taken,
      ),
    )

pub settles_deques : (owners tallies : List (TallyValue Path)) → map deque_of (settling_each owners tallies) ≡ map deque_of owners
settles_deques [] ts = refl
settles_deques (o ∷ os) [] = refl
settles_deques (o ∷ os) (t ∷ ts) = ap (λ ds. o.deque ∷ ds) (settles_deques os ts)

-- each owner who took one in has one less out
pub settles_lent : (n : ℕ) (owners tallies : List (TallyValue Path)) → map deque_of tallies ≡ map deque_of owners → All (HasLent (n + 1)) owners
    → All (HasLent n) (settling_each owners tallies)
settles_lent n [] [] e all = All-nil (HasLent n)
settles_lent n [] (t ∷ ts) e all = absurd (cc)
settles_lent n (o ∷ os) [] e all = absurd (cc)
settles_lent n (o ∷ os) (t ∷ ts) e all =
    let here : o.account.lent ≡ n + 1 = All-head (HasLent (n + 1)) o os all in
    All-cons (HasLent n) (settling o t) (settling_each os ts) (omega (arith, here)) (settles_lent n os ts (cc) (All-tail (HasLent (n + 1)) o os all))

-- of the two paths below each that branched at most one lies on a way, and then that one does
below_on : (task : GuidedTask) (s : List Bool) (branched : List Branching) → All (IsBranching task) branched → sum_by (below_by (on_way s)) branched ≤ branched_by (on_way s) branched
below_on task s [] all = omega arith
below_on task s (b ∷ bs) all =
    let here = All-head (IsBranching task) b bs all in
    omega (
      arith,
      below_weight b.choice here.ordered s b.path,
      below_on task s bs (All-tail (IsBranching task) b bs all),
      sum_by-cons (below_by (on_way s)) b bs,
      sum_by-cons (λ (x : Branching). on_way s x.path) b bs,
    )

-- so leaves that are accounted for stand apart, where all that was put was taken
pub apart_at_end : (task : GuidedTask) (owners : List (TallyValue Path)) (leaves : List Leaf) (given_up : List Path) → IsAccounted task owners leaves given_up
    → ((h : Weight) → owners_taken h owners ≡ owners_put h owners) → StandApart leaves
apart_at_end task owners leaves given_up a within s =
    omega (arith, a.taken (on_way s), a.put (on_way s), within (on_way s), below_on task s a.branched a.branchings)

least_step : (best k low end : ℕ) → end ≡ min k low → end < nothing_looked → (low < nothing_looked → best ≤ low) → (best ≤ k) ⊎ (k ≡ nothing_looked) → best ≤ end
least_step best k low end is small rest first = by_case (cases_lt low k) where
  by_case : (low < k) ⊎ (k ≤ low) → best ≤ end
  by_case (inl lt) = let below : best ≤ low = rest (omega (arith, is, small, lt)) in omega (arith, below, is, lt)
  by_case (inr le) = ⊎_elim (λ (b : best ≤ k). omega (arith, b, is, le)) (λ (e : k ≡ nothing_looked). absurd (omega (arith, e, is, le, small))) first

listed_least : (best own from : ℕ) → best ≤ own → from ≡ min own nothing_looked → (costs : List ℕ) → AreListed best costs → lowest from costs < nothing_looked → best ≤ lowest from costs
listed_least best own from low is [] all small = omega (arith, low, is, small)
listed_least best own from low is (k ∷ ks) all small =
    least_step best k (lowest from ks) (lowest from (k ∷ ks)) refl small
    (λ t. listed_least best own from low is ks (All-tail (λ c. (best ≤ c) ⊎ (c ≡ nothing_looked)) k ks all) t)
    (All-head (λ c. (best ≤ c) ⊎ (c ≡ nothing_looked)) k ks all)

-- and no value that was looked at is less than what the kept choices cost, but for the greatest
pub pruned_at_end : (best own : ℕ) (hand : HandValue) (end : ℕ) → hand.start ≡ min own nothing_looked → best ≤ own → AreListed best hand.lowered
    → end ≡ lowest hand.start hand.lowered → end ≤ hand.looked → hand.looked < nothing_looked → best ≤ hand.looked
pruned_at_end best own hand end start low listed is looked lt =
    let least = listed_least best own hand.start low start hand.lowered listed (omega (arith, is, looked, lt)) in
    omega (arith, least, is, looked)

-- so each bound is no less
pub shown_by : (best looked : ℕ) → (looked < nothing_looked → best ≤ looked) → (c : ℕ) → IsShown best looked c → best ≤ c
shown_by best looked pruned c (inl h) = h
shown_by best looked pruned c (inr h) = let low = pruned h.1 in omega (arith, low, h.0)

-- the same, where what is then gathered is told by equations
module _ (task : GuidedTask) (own : ℕ) (word : TableId) (start rooms : ℕ) (given taken : Weight → ℕ) (owners : List (TallyValue Path)) (hand : HandValue) (leaves : List Leaf)
    (given_up : List Path) (choices : List Decision) (cost : ℕ) (more : Weight → ℕ) (owner : TallyValue Path) (tallies : List (TallyValue Path)) (hand' : HandValue) (leaves' : List Leaf)
    (given_up' : List Path) (choices' : List Decision) (cost' : ℕ) where
  pub gathers_as : AreGathered task own word start rooms given taken owners hand leaves given_up choices cost
      → IsAtWork task own word start more nothing owner tallies hand' leaves' given_up' choices' cost'
      → (kept : List Decision) (least : ℕ) → (((kept ≡ choices') × (least ≡ cost') × (cost' < cost)) ⊎ ((kept ≡ choices) × (least ≡ cost) × (cost ≤ cost')))
      → (owners_now : List (TallyValue Path)) (hand_now : HandValue) (leaves_now : List Leaf) (given_up_now : List Path) (taken_now : Weight → ℕ) → owners_now ≡ owners ++ owner ∷ []
      → hand_now ≡ both hand hand' → leaves_now ≡ leaves ++ leaves' → given_up_now ≡ given_up ++ given_up' → ((h : Weight) → taken_now h ≡ taken h + tallies_taken h tallies)
      → AreGathered task own word start (rooms + 1) (λ h. given h + more h) taken_now owners_now hand_now leaves_now given_up_now kept least
  gathers_as g w kept least which owners_now hand_now leaves_now given_up_now taken_now p q r u t =
      let done = gathers task own word start rooms given taken owners hand leaves given_up choices cost more owner tallies hand' leaves' given_up' choices' cost' g w kept least which in
      let P : List (TallyValue Path) → HandValue → List Leaf → List Path → Type 0 =
      λ o h l n. AreGathered task own word start (rooms + 1) (λ h. given h + more h) (λ h. taken h + tallies_taken h tallies) o h l n kept least in
      let here : P owners_now hand_now leaves_now given_up_now =
      subst (λ o. P o hand_now leaves_now given_up_now) (sym p) (subst (λ h. P (owners ++ owner ∷ []) h leaves_now given_up_now) (sym q)
      (subst (λ l. P (owners ++ owner ∷ []) (both hand hand') l given_up_now) (sym r)
      (subst (λ n. P (owners ++ owner ∷ []) (both hand hand') (leaves ++ leaves') n) (sym u) done))) in
      record {
        branched = here.branched;
        branchings = here.branchings;
        taken = λ h. omega (arith, here.taken h, t h);
        put = here.put;
        found = here.found;
      }

-- the cheaper of two lists of choices, by its parts
pub cheaper_of : (kept one other : Best) → (((kept ≡ other) × (other.cost < one.cost)) ⊎ ((kept ≡ one) × (one.cost ≤ other.cost)))
    → (((kept.choices ≡ other.choices) × (kept.cost ≡ other.cost) × (other.cost < one.cost)) ⊎ ((kept.choices ≡ one.choices) × (kept.cost ≡ one.cost) × (one.cost ≤ other.cost)))
cheaper_of kept one other which = ⊎_elim
    (λ (h : (kept ≡ other) × (other.cost < one.cost)). inl (ap (λ (b : Best). b.choices) h.0, ap (λ (b : Best). b.cost) h.0, h.1))
    (λ (h : (kept ≡ one) × (one.cost ≤ other.cost)). inr (ap (λ (b : Best). b.choices) h.0, ap (λ (b : Best). b.cost) h.0, h.1)) which

-- one list of tallies more
pub taken_more : (h : Weight) (tallies now : List (List (TallyValue Path))) (ts : List (TallyValue Path)) → now ≡ tallies ++ ts ∷ [] → all_taken h now ≡ all_taken h tallies + tallies_taken h ts
taken_more h tallies now ts is = ap (all_taken h) is ∙ sum_by_push (tallies_taken h) tallies ts
