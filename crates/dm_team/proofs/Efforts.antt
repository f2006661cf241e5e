-- What each step of a worker does to what it has done.
use Rattle.std.proofs.Common.{◌≡◌, ◌⊎◌, ℕ, ◌+◌, ◌≤◌, ◌<◌, List, [], ◌∷◌, ◌++◌, min, All, ap, sym, subst, arith, inl, inr, ⊎_elim}
use Rattle.std.proofs.lemmas.List.Elements.{All-push, All-weaker}
use Rattle.std.specs.Prelude.{sum_by}
use Rattle.std.proofs.lemmas.List.Sums.{sum_by_push}
use Rattle.atomic_table.specs.Seated.{TableId}
use Rattle.dm_rows.specs.declared.messages.Choice.{Choice}
use Rattle.dm_rows.specs.declared.messages.Decision.{Decision}
use Rattle.dm_rows.specs.Sides.{first_decision, second_decision, IsOrdered}
use Rattle.dm_tree.specs.declared.forms.Node.{Node}
use Rattle.dm_tree.specs.declared.forms.Node.TheVariants.{Inner, Cycle, Bound, Open, Hole}
use Rattle.dm_tree.specs.declared.forms.Leaf.{Leaf}
use Rattle.dm_bound.specs.Words.{HandValue, nothing_looked}
use Rattle.dm_deques.specs.Deques.{TallyValue, having_put}
use Rattle.dm_team.specs.Ways.{GoesDown}
use Rattle.dm_team.specs.Nodes.{GuidedTask, IsChosen}
use Rattle.dm_team.specs.Expanding.{having_looked}
use Rattle.dm_team.specs.Accounts.{Path, Weight, Branching, IsBranching, below_by, leaves_by}
use Rattle.dm_team.specs.Found.{IsEnd, IsHandedIn, AreKept, AreListed}
use Rattle.dm_team.specs.Inside.Working.{tallies_taken, IsAtWork, nothing, only}

module _ (task : GuidedTask) where
  -- less is kept, or was looked at
  end_lower : (best best' looked looked' : ℕ) (path : Path) (n : Node) → best' ≤ best → looked' ≤ looked → IsEnd task.task best looked path n → IsEnd task.task best' looked' path n
  end_lower best best' looked looked' path (Inner c) b l e = e
  end_lower best best' looked looked' path Cycle b l e = e
  end_lower best best' looked looked' path (Bound c) b l e =
      (e.0, ⊎_elim (λ (h : best ≤ c). inl (omega (arith, b, h))) (λ (h : (looked ≤ c) × (looked < nothing_looked)). inr (omega (arith, l, h.0), omega (arith, l, h.1))) e.1)
  end_lower best best' looked looked' path (Open c) b l e = e
  end_lower best best' looked looked' path Hole b l e = e

  pub ends_lower : (best best' looked looked' : ℕ) (leaves : List Leaf) → best' ≤ best → looked' ≤ looked → All (IsHandedIn task best looked) leaves
      → All (IsHandedIn task best' looked') leaves
  ends_lower best best' looked looked' leaves b l all = All-weaker (IsHandedIn task best looked) (IsHandedIn task best' looked')
      (λ m h. record { way = h.way; end = end_lower best best' looked looked' m.path m.node b l h.end }) leaves all

  pub listed_lower : (best best' : ℕ) (lowered : List ℕ) → best' ≤ best → AreListed best lowered → AreListed best' lowered
  listed_lower best best' lowered b all = All-weaker (λ c. (best ≤ c) ⊎ (c ≡ nothing_looked)) (λ c. (best' ≤ c) ⊎ (c ≡ nothing_looked))
      (λ c h. ⊎_elim (λ (k : best ≤ c). inl (omega (arith, b, k))) inr h) lowered all

module _ (task : GuidedTask) (own : ℕ) (word : TableId) (start : ℕ) (given : Weight → ℕ) where
  abbrev Works : (Weight → ℕ) → TallyValue Path → List (TallyValue Path) → HandValue → List Leaf → List Path → List Decision → ℕ → Type 0
  Works = IsAtWork task own word start given

  module _ (owner : TallyValue Path) (tallies : List (TallyValue Path)) (hand : HandValue) (leaves : List Leaf) (given_up : List Path) (choices : List Decision) (cost : ℕ) where
    -- a look at the word
    pub looked_on : (in_hand : Weight → ℕ) (seen : ℕ) → Works in_hand owner tallies hand leaves given_up choices cost
        → Works in_hand owner tallies (having_looked hand seen) leaves given_up choices cost
    looked_on in_hand seen w = record {
      branched = w.branched;
      branchings = w.branchings;
      taken = w.taken;
      put = w.put;
      found = record {
        ends = ends_lower task cost cost hand.looked (min hand.looked seen) leaves (omega arith) (omega arith) w.found.ends;
        kept = w.found.kept;
        listed = w.found.listed;
        word_is = w.found.word_is;
        start_is = w.found.start_is;
        room = w.found.room;
      };
    }

    -- the path that is in hand is handed in as a leaf
    pub handed : (path : Path) (n : Node) (now : List Leaf) → Works (only path) owner tallies hand leaves given_up choices cost → GoesDown (IsChosen task) [] path
        → IsEnd task.task cost hand.looked path n → now ≡ leaves ++ record { path = path; node = n } ∷ [] → Works nothing owner tallies hand now given_up choices cost
    handed path n now w way end is = record {
      branched = w.branched;
      branchings = w.branchings;
      taken = λ h. omega (arith, w.taken h, ap (leaves_by h) is, sum_by_push (λ (l : Leaf). h l.path) leaves (record { path = path; node = n }));
      put = w.put;
      found = record {
        ends = subst (All (IsHandedIn task cost hand.looked)) (sym is)
            (All-push (IsHandedIn task cost hand.looked) leaves (record { path = path; node = n }) w.found.ends (record { way = way; end = end }));
        kept = w.found.kept;
        listed = w.found.listed;
        word_is = w.found.word_is;
        start_is = w.found.start_is;
        room = w.found.room;
      };
    }

    -- or it is given up
    pub left : (path : Path) (now : List Path) → Works (only path) owner tallies hand leaves given_up choices cost → now ≡ given_up ++ path ∷ []
        → Works nothing owner tallies hand leaves now choices cost
    left path now w is = record {
      branched = w.branched;
      branchings = w.branchings;
      taken = λ h. omega (arith, w.taken h, ap (sum_by h) is, sum_by_push h given_up path);
      put = w.put;
      found = w.found;
    }

    -- or the two paths below it are put
    pub branched : (path : Path) (c : Choice) (owner' : TallyValue Path) → Works (only path) owner tallies hand leaves given_up choices cost → IsChosen task path c → IsOrdered c
        → owner' ≡ record owner { account = having_put (having_put owner.account ((path ++ second_decision c ∷ []) ∷ [])) ((path ++ first_decision c ∷ []) ∷ []) }
        → Works nothing owner' tallies hand leaves given_up choices cost
    branched path c owner' w chosen ordered is =
        let b : Branching = record { path = path; choice = c } in
        subst (λ (o : TallyValue Path). Works nothing o tallies hand leaves given_up choices cost) (sym is) (record {
          branched = w.branched ++ b ∷ [];
          branchings = All-push (IsBranching task) w.branched b w.branchings (record { chosen = chosen; ordered = ordered });
          taken = λ h. omega (arith, w.taken h, sum_by_push (λ (x : Branching). h x.path) w.branched b);
          put = λ h. omega (
            arith,
            w.put h,
            sum_by_push (below_by h) w.branched b,
            sum_by_push h owner.account.put (path ++ second_decision c ∷ []),
            sum_by_push h (owner.account.put ++ (path ++ second_decision c ∷ []) ∷ []) (path ++ first_decision c ∷ []),
          );
          found = w.found;
        })

    -- choices that cost no more are kept
    pub bettered : (in_hand : Weight → ℕ) (choices' : List Decision) (cost' : ℕ) → Works in_hand owner tallies hand leaves given_up choices cost → AreKept task.task own choices' cost'
        → cost' ≤ cost → Works in_hand owner tallies hand leaves given_up choices' cost'
    bettered in_hand choices' cost' w kept less = record {
      branched = w.branched;
      branchings = w.branchings;
      taken = w.taken;
      put = w.put;
      found = record {
        ends = ends_lower task cost cost' hand.looked hand.looked leaves less (omega arith) w.found.ends;
        kept = kept;
        listed = listed_lower task cost cost' hand.lowered less w.found.listed;
        word_is = w.found.word_is;
        start_is = w.found.start_is;
        room = w.found.room;
      };
    }

    -- the word is lowered by a cost that the kept choices do not exceed, or that prunes nothing
    pub told : (in_hand : Weight → ℕ) (c : ℕ) → Works in_hand owner tallies hand leaves given_up choices cost → (cost ≤ c) ⊎ (c ≡ nothing_looked)
        → Works in_hand owner tallies (record hand { lowered = hand.lowered ++ c ∷ [] }) leaves given_up choices cost
    told in_hand c w low = record {
      branched = w.branched;
      branchings = w.branchings;
      taken = w.taken;
      put = w.put;
      found = record {
        ends = w.found.ends;
        kept = w.found.kept;
        listed = All-push (λ k. (cost ≤ k) ⊎ (k ≡ nothing_looked)) hand.lowered c w.found.listed low;
        word_is = w.found.word_is;
        start_is = w.found.start_is;
        room = w.found.room;
      };
    }

    -- a path is taken from some deque
    pub taken : (path : Path) (owner' : TallyValue Path) (tallies' : List (TallyValue Path)) → Works nothing owner tallies hand leaves given_up choices cost
        → owner'.account.put ≡ owner.account.put
        → ((h : Weight) → sum_by h owner'.account.taken + tallies_taken h tallies' ≡ sum_by h owner.account.taken + tallies_taken h tallies + h path)
        → Works (only path) owner' tallies' hand leaves given_up choices cost
    taken path owner' tallies' w put weighs = record {
      branched = w.branched;
      branchings = w.branchings;
      taken = λ h. omega (arith, w.taken h, weighs h);
      put = λ h. omega (arith, w.put h, ap (sum_by h) put);
      found = w.found;
    }
