-- Bytes that are given to a follower, or passed over behind a line that breaks its rule.
use Rattle.std.proofs.Common.{◌≡◌, ℕ, List, [], ◌++◌, Some, None, Result, Ok, Err, inl, refl, sym, ap, subst, ◌∙◌, append-nil, append_assoc}
use Rattle.std.proofs.lemmas.List.Elements.{All-nil}
use Rattle.dm_text.specs.Places.{at_start}
use Rattle.dm_network.specs.Net.{Net}
use Rattle.dm_rows.specs.Rows.{RowsValue}
use Rattle.dm_follow.specs.declared.faults.FollowFault.{FollowFault}
use Rattle.dm_follow.specs.declared.faults.FollowKind.{FollowKind}
use Rattle.dm_follow.specs.declared.faults.FollowKind.TheVariants as kind
use Rattle.dm_follow.specs.Journals.{TellsJournal, HasNoFrontFault, broken, unended}
use Rattle.dm_follow.specs.declared.faults.Tail.{Tail}
use Rattle.dm_follow.specs.declared.faults.Tail.TheVariants as tail
use Rattle.dm_follow.specs.Followed.{IsTail}
use Rattle.dm_follow.specs.Follower.{FollowerValue, IsAnswer, TakesPiece, tail_of}
use Rattle.dm_follow.proofs.Longer.{fault_stays}
use Rattle.dm_follow.proofs.Single.{journal_once}
use Rattle.dm_journal.specs.declared.giving.BrokenLine.{BrokenLine}
use Rattle.dm_journal.specs.declared.giving.BrokenRule.TheVariants.{Form, Entry}
use Rattle.dm_journal.specs.declared.giving.Journal.TheVariants.{Whole, Torn}
use Rattle.dm_journal.specs.Journals.{IsFollowerOf, IsBrokenAt, IsJournal, follow_kind}
use Rattle.dm_journal.specs.Inside.Giving.{GivesMore, IsGiven, IsNewFollower, broken_of}

some_is : (x y : BrokenLine) → Some x ≡ Some y → x ≡ y
some_is x y e = cc

-- of no bytes no line breaks its rule: the first is cut
none_broken : (net : Net) (rows : RowsValue) (penalty : ℕ) → HasNoFrontFault net rows penalty []
none_broken net rows penalty k line fault =
    let cut : TellsJournal net rows penalty (at_start []) (Err (unended 1)) = inl (inl (inl (All-nil (λ b. b ≡ 10 → ⊥), refl))) in
    let same : Err (unended 1) ≡ Err (broken k line) = journal_once net rows penalty (at_start []) (Err (unended 1)) (Err (broken k line)) cut fault in
    cc

-- nothing was given to a new follower
pub new_given : (net : Net) (rows : RowsValue) (penalty : ℕ) (f : FollowerValue) → IsNewFollower net rows penalty f → IsGiven net rows penalty f None []
new_given net rows penalty f new =
    record { network = new.network; start = new.start; penalty_is = new.penalty_is; follows = new.follows; no_fault = none_broken net rows penalty }

-- behind a line that breaks its rule bytes are passed over
pub broken_more : (old new : FollowerValue) (line : BrokenLine) (bytes : List ℕ) → GivesMore old (Some line) new (Some line) bytes
broken_more old new line bytes net rows penalty before is = fault_stays net rows penalty before bytes (follow_kind line.rule) line.line is

-- a follower of this day, where the table's own day is told of
module _ (old new : FollowerValue) (piece : List ℕ) where
  day_then : (net : Net) (rows : RowsValue) (penalty : ℕ) (before : List ℕ) (result : Result (Unit {0}) FollowFault) → TakesPiece old new piece result → IsFollowerOf net rows penalty before old →
      (P : Net → RowsValue → ℕ → Type 0) → P new.table.network new.table.start new.table.penalty → P net rows penalty
  day_then net rows penalty before result takes is P holds =
      subst (λ (n : Net). P n rows penalty) (takes.day.network ∙ is.network)
      (subst (λ (r : RowsValue). P new.table.network r penalty) (takes.day.start ∙ is.start)
      (subst (λ (p : ℕ). P new.table.network new.table.start p) (takes.day.penalty ∙ is.penalty_is) holds))

  pub piece_taken : (done : Unit {0}) → TakesPiece old new piece (Ok done) → GivesMore old None new None piece
  piece_taken done takes net rows penalty before is =
      let all : takes.front ≡ piece = sym (takes.split ∙ (ap (λ (xs : List ℕ). takes.front ++ xs) takes.whole ∙ append-nil takes.front)) in
      subst (λ (xs : List ℕ). IsFollowerOf net rows penalty (before ++ xs) new) all
      (record {
        network = takes.day.network ∙ is.network;
        start = takes.day.start ∙ is.start;
        penalty_is = takes.day.penalty ∙ is.penalty_is;
        follows = takes.follows before is.follows;
        no_fault = day_then net rows penalty before (Ok done) takes is (λ n r p. HasNoFrontFault n r p (before ++ takes.front)) (takes.answers before is.follows);
      })

  broken_here : (line : ℕ) (k : FollowKind) (b : BrokenLine) (net : Net) (rows : RowsValue) (penalty : ℕ) (bytes : List ℕ) → broken_of line k ≡ Some b → IsAnswer net rows penalty bytes line k → IsBrokenAt net rows penalty bytes b
  broken_here line kind.Form b net rows penalty bytes is answer =
      subst (λ (x : BrokenLine). IsBrokenAt net rows penalty bytes x) (some_is (record { line = line; rule = Form }) b is) answer
  broken_here line kind.Entry b net rows penalty bytes is answer =
      subst (λ (x : BrokenLine). IsBrokenAt net rows penalty bytes x) (some_is (record { line = line; rule = Entry }) b is) answer
  broken_here line kind.OutOfMemory b net rows penalty bytes is answer = absurd cc

  pub piece_breaks : (fault : FollowFault) (b : BrokenLine) → TakesPiece old new piece (Err fault) → broken_of fault.line fault.kind ≡ Some b → GivesMore old None new (Some b) piece
  piece_breaks fault b takes is_line net rows penalty before is =
      let answer : IsAnswer net rows penalty (before ++ takes.front) fault.line fault.kind =
      day_then net rows penalty before (Err fault) takes is (λ n r p. IsAnswer n r p (before ++ takes.front) fault.line fault.kind) (takes.answers before is.follows) in
      let there : IsBrokenAt net rows penalty (before ++ takes.front) b = broken_here fault.line fault.kind b net rows penalty (before ++ takes.front) is_line answer in
      let all : (before ++ takes.front) ++ takes.rest ≡ before ++ piece = append_assoc before takes.front takes.rest ∙ ap (λ (xs : List ℕ). before ++ xs) (sym takes.split) in
      subst (λ (xs : List ℕ). IsBrokenAt net rows penalty xs b) all (fault_stays net rows penalty (before ++ takes.front) takes.rest (follow_kind b.rule) b.line there)

-- ---- tails

-- the tail is that of the bytes on this day
tail_here : (net : Net) (rows : RowsValue) (penalty : ℕ) (bytes : List ℕ) (f : FollowerValue) (t : Tail) → IsFollowerOf net rows penalty bytes f → tail_of f ≡ t → IsTail net rows penalty bytes t
tail_here net rows penalty bytes f t is tail_is =
    subst (IsTail net rows penalty bytes) tail_is
    (subst (λ (n : Net). IsTail n rows penalty bytes (tail_of f)) is.network
    (subst (λ (r : RowsValue). IsTail f.table.network r penalty bytes (tail_of f)) is.start
    (subst (λ (p : ℕ). IsTail f.table.network f.table.start p bytes (tail_of f)) is.penalty_is is.follows.tail_is)))

module _ (net : Net) (rows : RowsValue) (penalty : ℕ) (bytes : List ℕ) (f : FollowerValue) (is : IsFollowerOf net rows penalty bytes f) where
  pub torn_journal : (line count : ℕ) → tail_of f ≡ tail.Torn line count → IsJournal net rows penalty bytes (Torn line f)
  torn_journal line count tail_is = (is, (tail_here net rows penalty bytes f (tail.Torn line count) is tail_is).told)

  pub whole_journal : tail_of f ≡ tail.Whole → IsJournal net rows penalty bytes (Whole f)
  whole_journal tail_is = (is, tail_here net rows penalty bytes f tail.Whole is tail_is)

  -- no line breaks its rule
  pub unfailed_journal : (line : ℕ) → tail_of f ≡ tail.Failed line → IsJournal net rows penalty bytes (Whole f)
  unfailed_journal line tail_is = let failed = tail_here net rows penalty bytes f (tail.Failed line) is tail_is in absurd (is.no_fault failed.kind line failed.fault)
