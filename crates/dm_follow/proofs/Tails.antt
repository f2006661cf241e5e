-- Of bytes one tail alone is theirs.
use Rattle.std.proofs.Common.{◌≡◌, ℕ, suc, ◌⊎◌, List, [], ◌∷◌, ◌++◌, length, Result, Ok, Err, refl, sym, ap, subst, ◌∙◌, inl, inr, arith, append_assoc}
use Rattle.dm_text.specs.Places.{Place, at_start, HasNoLineFeed}
use Rattle.dm_rows.specs.declared.messages.Entry.{Entry}
use Rattle.dm_follow.specs.declared.faults.Tail.TheVariants.{Whole, Torn, Failed}
use Rattle.dm_follow.specs.Journals.{Halt, unended, broken}
use Rattle.dm_follow.specs.Followed.{IsLastPart}
use Rattle.dm_follow.specs.Laws.{TailsAreOne}
use Rattle.dm_follow.proofs.Single.{journal_once}

-- ---- the part behind the last LF

-- nothing, or bytes that end with an LF
abbrev Ends : List ℕ → Type 0
Ends before = (before ≡ []) ⊎ ((front : List ℕ) × (before ≡ front ++ 10 ∷ []))

ends_rest : (b : ℕ) (before : List ℕ) → Ends (b ∷ before) → Ends before
ends_rest b before (inl none) = absurd cc
ends_rest b before (inr ends) = by_front ends.0 ends.1
  where
    by_front : (front : List ℕ) → b ∷ before ≡ front ++ 10 ∷ [] → Ends before
    by_front [] e = inl cc
    by_front (f ∷ front) e = inr (front, cc)

has_feed : (bytes rest : List ℕ) → HasNoLineFeed (bytes ++ 10 ∷ rest) → ⊥
has_feed [] rest none = none 0 0 (omega arith) refl
has_feed (c ∷ bytes) rest none = has_feed bytes rest (λ k d below. none (suc k) d (omega arith))

-- what ends with an LF is no front of a part without one
feed_before : (b : ℕ) (before part rest : List ℕ) → part ≡ (b ∷ before) ++ rest → Ends (b ∷ before) → HasNoLineFeed part → ⊥
feed_before b before part rest e (inl none) one_line = absurd cc
feed_before b before part rest e (inr ends) one_line =
    has_feed ends.0 rest (subst HasNoLineFeed (e ∙ (ap (λ (xs : List ℕ). xs ++ rest) ends.1 ∙ append_assoc ends.0 (10 ∷ []) rest)) one_line)

same_part : (before mid part rest : List ℕ) → before ++ part ≡ mid ++ rest → Ends before → Ends mid → HasNoLineFeed part → HasNoLineFeed rest → part ≡ rest
same_part [] [] part rest e p q one other = e
same_part [] (m ∷ mid) part rest e p q one other = absurd (feed_before m mid part rest e q one)
same_part (b ∷ before) [] part rest e p q one other = absurd (feed_before b before rest part (sym e) p other)
same_part (b ∷ before) (m ∷ mid) part rest e p q one other =
    let behind : before ++ part ≡ mid ++ rest = cc in
    same_part before mid part rest behind (ends_rest b before p) (ends_rest m mid q) one other

last_part_once : (bytes part other : List ℕ) → IsLastPart bytes part → IsLastPart bytes other → part ≡ other
last_part_once bytes part other p q = same_part p.before q.before part other (sym p.is ∙ q.is) p.begins q.begins p.one_line q.one_line

-- ---- tails

told_apart : {X : Type 0} (one : List Entry × Place) (halt : Halt) → (◌≡◌ {A = Result (List Entry × Place) Halt} (Ok one) (Err halt)) → X
told_apart one halt e = absurd cc

halts_apart : {X : Type 0} (line other : ℕ) (kind : _) → (◌≡◌ {A = Result (List Entry × Place) Halt} (Err (unended line)) (Err (broken kind other))) → X
halts_apart line other kind e = absurd cc

pub tails_are_one : TailsAreOne
tails_are_one net start penalty bytes Whole Whole p q = refl
tails_are_one net start penalty bytes Whole (Torn line count) p q =
    told_apart (p.history, p.behind) (unended line) (journal_once net start penalty (at_start bytes) (Ok (p.history, p.behind)) (Err (unended line)) p.told q.told)
tails_are_one net start penalty bytes Whole (Failed line) p q =
    told_apart (p.history, p.behind) (broken q.kind line) (journal_once net start penalty (at_start bytes) (Ok (p.history, p.behind)) (Err (broken q.kind line)) p.told q.fault)
tails_are_one net start penalty bytes (Torn line count) Whole p q =
    told_apart (q.history, q.behind) (unended line) (journal_once net start penalty (at_start bytes) (Ok (q.history, q.behind)) (Err (unended line)) q.told p.told)
tails_are_one net start penalty bytes (Torn line count) (Torn other as_many) p q =
    let lines = journal_once net start penalty (at_start bytes) (Err (unended line)) (Err (unended other)) p.told q.told in
    let same : line ≡ other = cc in
    let counts : count ≡ as_many = p.count_is ∙ (ap length (last_part_once bytes p.part q.part p.last q.last) ∙ sym q.count_is) in
    cc
tails_are_one net start penalty bytes (Torn line count) (Failed other) p q =
    halts_apart line other q.kind (journal_once net start penalty (at_start bytes) (Err (unended line)) (Err (broken q.kind other)) p.told q.fault)
tails_are_one net start penalty bytes (Failed line) Whole p q =
    told_apart (q.history, q.behind) (broken p.kind line) (journal_once net start penalty (at_start bytes) (Ok (q.history, q.behind)) (Err (broken p.kind line)) q.told p.fault)
tails_are_one net start penalty bytes (Failed line) (Torn other count) p q =
    halts_apart other line p.kind (journal_once net start penalty (at_start bytes) (Err (unended other)) (Err (broken p.kind line)) q.told p.fault)
tails_are_one net start penalty bytes (Failed line) (Failed other) p q =
    let lines = journal_once net start penalty (at_start bytes) (Err (broken p.kind line)) (Err (broken q.kind other)) p.fault q.fault in
    let same : line ≡ other = cc in
    cc
