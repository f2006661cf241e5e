-- What a follower holds and answers, and how it goes on.
use Rattle.std.proofs.Common.{◌≡◌, ℕ, ◌+◌, ◌<◌, ◌≤◌, Bool, true, false, cond, ltb, List, [], ◌∷◌, ◌++◌, ◌-◌, length, Result, Ok, Err, OnOk, OnErr, IfErr, refl, sym, ap, subst, ◌∙◌, inl, inr, arith, append_assoc, append-nil, length-append}
use Rattle.std.proofs.lemmas.Bool.{ltb-true, ltb-false}
use Rattle.std.proofs.lemmas.List.Elements.{All-nil, All-append}
use Rattle.dm_text.specs.Places.{Place, at_start, HasNoLineFeed}
use Rattle.dm_network.specs.Net.{Net}
use Rattle.dm_rows.specs.declared.messages.Entry.{Entry}
use Rattle.dm_rows.specs.Rows.{RowsValue}
use Rattle.dm_rows.specs.History.{IsLegal}
use Rattle.dm_cert.specs.PlanTexts.{largest_cost}
use Rattle.dm_table.specs.Value.{TableValue, IsTable}
use Rattle.dm_follow.specs.declared.faults.FollowKind.{FollowKind}
use Rattle.dm_follow.specs.declared.faults.FollowKind.TheVariants as kind
use Rattle.dm_follow.specs.declared.faults.FollowFault.{FollowFault}
use Rattle.dm_follow.specs.declared.faults.Tail.{Tail}
use Rattle.dm_follow.specs.declared.faults.Tail.TheVariants as tail
use Rattle.dm_follow.specs.declared.faults.TheConstants.{NO_MEMORY}
use Rattle.dm_follow.specs.declared.stages.Stage.{Stage}
use Rattle.dm_follow.specs.declared.stages.Stage.TheVariants.{Version, Penalty, Feeds, Entries, Journal, Failed}
use Rattle.dm_follow.specs.Journals.{Halt, unended, broken, TellsHeader, TellsEntry, HasNoFrontFault}
use Rattle.dm_follow.specs.Followed.{IsFollowed, IsLastPart, IsTail}
use Rattle.dm_follow.specs.Follower.{FollowerValue, IsFailedTail, tail_at, tail_of, Follows, IsAnswer, AnswersTaken, TakesPiece}
use Rattle.dm_follow.specs.Inside.Reading.{HeaderFrom, header_line, IsAtHeader, IsAtEntry, HasEntered, behind_entries, HasFailed, IsReadTo, SameDay, Advances}
use Rattle.dm_follow.specs.Inside.Moving.{IsLive, IsFaultOf, AnswersStage, ReadTo, Goes, EndsWith, TakesFront}
use Rattle.dm_follow.proofs.Single.{journal_once}
use Rattle.dm_follow.proofs.Carried.{no_header, followed_to, followed_all, halts_there, ends_there}
use Rattle.dm_follow.proofs.HeaderSteps.{here_at}

-- ---- what is held

no_feed_more : (xs ys : List ℕ) → HasNoLineFeed xs → HasNoLineFeed ys → HasNoLineFeed (xs ++ ys)
no_feed_more xs ys p q = All-append (λ b. b ≡ 10 → ⊥) xs ys p q

cut_more : (part : List ℕ) → HasNoLineFeed part → HasNoLineFeed (part ++ [])
cut_more part none = subst HasNoLineFeed (sym (append-nil part)) none

-- the history and the tail of bytes that were read
record Held (net : Net) (start : RowsValue) (penalty : ℕ) (history : List Entry) (bytes : List ℕ) (t : Tail) : Type 0 where
  followed : IsFollowed net start penalty bytes history
  tail_is : IsTail net start penalty bytes t

module _ (net : Net) (start : RowsValue) (penalty : ℕ) (history : List Entry) (part bytes : List ℕ) (low : penalty ≤ largest_cost) (legal : IsLegal net start history) where
  torn_header : (stage : Stage) → IsAtHeader net start penalty stage history part bytes → HeaderFrom penalty stage (here_at (part ++ []) (header_line stage)) (Err (unended (header_line stage))) →
      Held net start penalty history bytes (tail.Torn (header_line stage) (length part))
  torn_header stage at stops =
      let told : TellsHeader penalty (at_start bytes) (Err (unended (header_line stage))) =
      subst (λ (text : List ℕ). TellsHeader penalty (at_start text) (Err (unended (header_line stage)))) (append-nil bytes) (at.on [] (Err (unended (header_line stage))) stops) in
      record {
        followed = no_header net start penalty bytes history (unended (header_line stage)) low at.none told;
        tail_is = record { told = inl told; part = part; last = at.last; count_is = refl };
      }

  entered_now : (feeds entries : ℕ) (at : IsAtEntry net start penalty feeds entries history part bytes) → HasEntered net start penalty feeds entries history bytes (behind_entries (length history) at.rest)
  entered_now feeds entries at =
      subst (λ (text : List ℕ). HasEntered net start penalty feeds entries history text (behind_entries (length history) at.rest)) (append-nil bytes)
      (subst (λ (rest : List ℕ). HasEntered net start penalty feeds entries history (bytes ++ []) (behind_entries (length history) rest)) (append-nil at.rest) (at.on []))

  held_journal : (feeds entries : ℕ) (b : Bool) → ltb (length history) entries ≡ b → IsAtEntry net start penalty feeds entries history part bytes →
      Held net start penalty history bytes (cond b (tail.Torn (length history + 5) (length part)) tail.Whole)
  held_journal feeds entries true test at =
      let less = ltb-true (length history) entries test in
      let rest_is = at.due less in
      let here : Place = behind_entries (length history) at.rest in
      let one = entered_now feeds entries at in
      let stops : TellsEntry net start feeds history here (Err (unended (length history + 5))) =
      inl (inl (subst HasNoLineFeed (sym rest_is) (at.last less).one_line, refl)) in
      record {
        followed = followed_to net start penalty feeds entries history bytes here (unended (length history + 5)) one at.within low legal stops;
        tail_is = record {
          told = halts_there net start penalty feeds entries (entries - (length history + 1)) history bytes here (unended (length history + 5)) one (omega (arith, less)) stops;
          part = part;
          last = at.last less;
          count_is = refl;
        };
      }
  held_journal feeds entries false test at =
      let past = ltb-false (length history) entries test in
      let within = at.within in
      let here : Place = behind_entries (length history) at.rest in
      let one = entered_now feeds entries at in
      let all : length history ≡ entries = omega (arith, past, within) in
      record {
        followed = followed_all net start penalty feeds entries history bytes here one all low legal;
        tail_is = record { history = history; behind = here; told = ends_there net start penalty feeds entries history bytes here one all };
      }

  held : (stage : Stage) → IsReadTo net start penalty history stage part bytes → Held net start penalty history bytes (tail_at stage (length history) (length part))
  held Version at = torn_header Version at (inl (inl (cut_more part at.last.one_line, refl)))
  held Penalty at = torn_header Penalty at (inl (inl (inl (cut_more part at.last.one_line, refl))))
  held Feeds at = torn_header Feeds at (inl (inl (inl (cut_more part at.last.one_line, refl))))
  held (Entries feeds) at = torn_header (Entries feeds) at (inl (inl (cut_more part at.last.one_line, refl)))
  held (Journal feeds entries) at = held_journal feeds entries (ltb (length history) entries) refl at
  held (Failed line k) at = record { followed = at.followed; tail_is = record { kind = k; fault = at.fault } }

penalty_low : (t : TableValue) → IsTable t → t.penalty ≤ largest_cost
penalty_low t is = let within = is.within in omega (arith, within)

pub follows_of : (f : FollowerValue) (bytes : List ℕ) → IsTable f.table → f.taken ≡ length bytes → ReadTo f bytes → Follows f bytes
follows_of f bytes is counted read =
    let one = held f.table.network f.table.start f.table.penalty f.table.history f.part bytes (penalty_low f.table is) is.legal f.stage read in
    record { table = is; history = one.followed; tail_is = one.tail_is; counted = counted; read = read }

-- ---- what is answered

other_halt : {A : Type 0} {line at : ℕ} {k : FollowKind} → (◌≡◌ {A = Result A Halt} (Err (unended line)) (Err (broken k at))) → ⊥
other_halt e = cc

no_halt : {A : Type 0} {a : A} {h : Halt} → (◌≡◌ {A = Result A Halt} (Ok a) (Err h)) → ⊥
no_halt e = cc

module _ (net : Net) (start : RowsValue) (penalty : ℕ) (bytes : List ℕ) where
  whole_unbroken : IsTail net start penalty bytes tail.Whole → HasNoFrontFault net start penalty bytes
  whole_unbroken is = λ k line fault. no_halt (journal_once net start penalty (at_start bytes) (Ok (is.history, is.behind)) (Err (broken k line)) is.told fault)

  torn_unbroken : (line count : ℕ) → IsTail net start penalty bytes (tail.Torn line count) → HasNoFrontFault net start penalty bytes
  torn_unbroken line count is = λ k at fault. other_halt (journal_once net start penalty (at_start bytes) (Err (unended line)) (Err (broken k at)) is.told fault)

  cond_unbroken : (b : Bool) (line count : ℕ) → IsTail net start penalty bytes (cond b (tail.Torn line count) tail.Whole) → HasNoFrontFault net start penalty bytes
  cond_unbroken true line count is = torn_unbroken line count is
  cond_unbroken false line count is = whole_unbroken is

  unbroken : (stage : Stage) (n count : ℕ) → IsLive stage → IsTail net start penalty bytes (tail_at stage n count) → HasNoFrontFault net start penalty bytes
  unbroken Version n count live is = torn_unbroken 1 count is
  unbroken Penalty n count live is = torn_unbroken 2 count is
  unbroken Feeds n count live is = torn_unbroken 3 count is
  unbroken (Entries feeds) n count live is = torn_unbroken 4 count is
  unbroken (Journal feeds entries) n count live is = cond_unbroken (ltb n entries) (n + 5) count is
  unbroken (Failed line k) n count live is = absurd live

  answer_at : (history : List Entry) (part : List ℕ) (line : ℕ) (k : FollowKind) → HasFailed net start penalty history bytes line k → IsAnswer net start penalty bytes line k
  answer_at history part line kind.Form at = at.fault
  answer_at history part line kind.Entry at = at.fault
  answer_at history part line kind.OutOfMemory at = absurd at.of_rule

  answer_failed : (history : List Entry) (part : List ℕ) (stage : Stage) (fault : FollowFault) → IsReadTo net start penalty history stage part bytes → IsFaultOf stage fault →
      IsAnswer net start penalty bytes fault.line fault.kind
  answer_failed history part Version fault at is = absurd is
  answer_failed history part Penalty fault at is = absurd is
  answer_failed history part Feeds fault at is = absurd is
  answer_failed history part (Entries feeds) fault at is = absurd is
  answer_failed history part (Journal feeds entries) fault at is = absurd is
  answer_failed history part (Failed line k) fault at is =
      subst (λ (j : FollowKind). IsAnswer net start penalty bytes fault.line j) (sym is.1)
      (subst (λ (n : ℕ). IsAnswer net start penalty bytes n k) (sym is.0) (answer_at history part line k at))

answers : (f : FollowerValue) (bytes rest : List ℕ) (result : Result (Unit {0}) FollowFault) → Follows f bytes → EndsWith f rest result →
    AnswersTaken f.table.network f.table.start f.table.penalty bytes result
answers f bytes rest (Ok done) is ends = unbroken f.table.network f.table.start f.table.penalty bytes f.stage (length f.table.history) (length f.part) ends.1 is.tail_is
answers f bytes rest (Err fault) is (inl (short, live)) =
    subst (λ (x : FollowFault). IsAnswer f.table.network f.table.start f.table.penalty bytes x.line x.kind) (sym short)
    (refl, unbroken f.table.network f.table.start f.table.penalty bytes f.stage (length f.table.history) (length f.part) live is.tail_is)
answers f bytes rest (Err fault) is (inr failed) =
    answer_failed f.table.network f.table.start f.table.penalty bytes f.table.history f.part f.stage fault is.read failed

whole_rest : (f : FollowerValue) (rest : List ℕ) (result : Result (Unit {0}) FollowFault) → EndsWith f rest result → OnOk result (rest ≡ [])
whole_rest f rest (Ok done) ends = ends.0
whole_rest f rest (Err fault) ends = tt

pub takes_piece : (old new : FollowerValue) (piece : List ℕ) (result : Result (Unit {0}) FollowFault) → TakesFront old new piece result → IsTable new.table → TakesPiece old new piece result
takes_piece old new piece result takes is =
    let after : (bytes : List ℕ) → Follows old bytes → Follows new (bytes ++ takes.front) =
    λ bytes had. follows_of new (bytes ++ takes.front) is
    (let more = takes.goes.counted in let before = had.counted in let size = length-append bytes takes.front in omega (arith, more, before, size))
    (takes.goes.reads bytes had.read) in
    record {
      front = takes.front;
      rest = takes.rest;
      split = takes.split;
      counted = takes.goes.counted;
      whole = whole_rest new takes.rest result takes.ends;
      day = takes.goes.day;
      follows = after;
      answers = λ bytes had. answers new (bytes ++ takes.front) takes.rest result (after bytes had) takes.ends;
    }

pub same_day : (t : TableValue) → SameDay t t
same_day t = record { network = refl; start = refl; penalty = refl }

-- a follower that has failed takes nothing, and answers the same
pub failed_takes : (f : FollowerValue) (piece : List ℕ) (fault : FollowFault) → IsFaultOf f.stage fault → TakesPiece f f piece (Err fault)
failed_takes f piece fault failed =
    let after : (bytes : List ℕ) → Follows f bytes → Follows f (bytes ++ []) = λ bytes had. subst (Follows f) (sym (append-nil bytes)) had in
    record {
      front = [];
      rest = piece;
      split = refl;
      counted = omega arith;
      whole = tt;
      day = same_day f.table;
      follows = after;
      answers = λ bytes had. answers f (bytes ++ []) piece (Err fault) (after bytes had) (inr failed);
    }

-- ---- going on

pub goes_then : (a b c : FollowerValue) (xs ys : List ℕ) → Goes a b xs → Goes b c ys → Goes a c (xs ++ ys)
goes_then a b c xs ys p q = record {
  day = record {
    network = q.day.network ∙ p.day.network;
    start = q.day.start ∙ p.day.start;
    penalty = q.day.penalty ∙ p.day.penalty;
  };
  counted = (let one = p.counted in let two = q.counted in let size = length-append xs ys in omega (arith, one, two, size));
  reads = λ bytes read. subst (λ (all : List ℕ). ReadTo c all) (append_assoc bytes xs ys) (q.reads (bytes ++ xs) (p.reads bytes read));
}

-- what was read on the day before is read on the same day
on_day : (old new : TableValue) (history : List Entry) (stage : Stage) (part bytes : List ℕ) → SameDay old new → IsReadTo old.network old.start old.penalty history stage part bytes →
    IsReadTo new.network new.start new.penalty history stage part bytes
on_day old new history stage part bytes day read =
    subst (λ (net : Net). IsReadTo net new.start new.penalty history stage part bytes) (sym day.network)
    (subst (λ (start : RowsValue). IsReadTo old.network start new.penalty history stage part bytes) (sym day.start)
    (subst (λ (penalty : ℕ). IsReadTo old.network old.start penalty history stage part bytes) (sym day.penalty) read))

-- a line was taken with its LF
pub goes_line : (old new : FollowerValue) (next : Stage) → Advances old.table new.table old.stage old.part next → new.stage ≡ next → new.part ≡ [] → new.taken ≡ old.taken + 1 → Goes old new (10 ∷ [])
goes_line old new next advances stage_is part_is counted = record {
  day = advances.day;
  counted = counted;
  reads = λ bytes read. on_day old.table new.table new.table.history new.stage new.part (bytes ++ 10 ∷ []) advances.day
      (subst (λ (stage : Stage). IsReadTo old.table.network old.table.start old.table.penalty new.table.history stage new.part (bytes ++ 10 ∷ [])) (sym stage_is)
      (subst (λ (part : List ℕ). IsReadTo old.table.network old.table.start old.table.penalty new.table.history next part (bytes ++ 10 ∷ [])) (sym part_is) (advances.reads bytes read)));
}

-- ---- bytes of a line that goes on

last_more : (bytes part xs : List ℕ) → IsLastPart bytes part → HasNoLineFeed xs → IsLastPart (bytes ++ xs) (part ++ xs)
last_more bytes part xs last none = record {
  before = last.before;
  is = ap (λ (b : List ℕ). b ++ xs) last.is ∙ append_assoc last.before part xs;
  begins = last.begins;
  one_line = no_feed_more part xs last.one_line none;
}

module _ (net : Net) (start : RowsValue) (penalty : ℕ) (history : List Entry) (part bytes xs : List ℕ) (none : HasNoLineFeed xs) where
  header_more : (stage : Stage) → IsAtHeader net start penalty stage history part bytes → IsAtHeader net start penalty stage history (part ++ xs) (bytes ++ xs)
  header_more stage at = record {
    none = at.none;
    last = last_more bytes part xs at.last none;
    on = λ more answer told.
        subst (λ (text : List ℕ). TellsHeader penalty (at_start text) answer) (sym (append_assoc bytes xs more))
        (at.on (xs ++ more) answer (subst (λ (left : List ℕ). HeaderFrom penalty stage (here_at left (header_line stage)) answer) (append_assoc part xs more) told));
  }

  -- in a journal that is whole nothing of the part is kept
  entry_more : (feeds entries : ℕ) (now : List ℕ) → IsAtEntry net start penalty feeds entries history part bytes → (length history < entries → now ≡ part ++ xs) →
      IsAtEntry net start penalty feeds entries history now (bytes ++ xs)
  entry_more feeds entries now at now_is = record {
    within = at.within;
    rest = at.rest ++ xs;
    on = λ more.
        subst (λ (text : List ℕ). HasEntered net start penalty feeds entries history text (behind_entries (length history) ((at.rest ++ xs) ++ more))) (sym (append_assoc bytes xs more))
        (subst (λ (left : List ℕ). HasEntered net start penalty feeds entries history (bytes ++ (xs ++ more)) (behind_entries (length history) left)) (sym (append_assoc at.rest xs more)) (at.on (xs ++ more)));
    due = λ less. ap (λ (r : List ℕ). r ++ xs) (at.due less) ∙ sym (now_is less);
    last = λ less. subst (λ (p : List ℕ). IsLastPart (bytes ++ xs) p) (sym (now_is less)) (last_more bytes part xs (at.last less) none);
  }

  pub part_more : (stage : Stage) → IsLive stage → IsReadTo net start penalty history stage part bytes → IsReadTo net start penalty history stage (part ++ xs) (bytes ++ xs)
  part_more Version live at = header_more Version at
  part_more Penalty live at = header_more Penalty at
  part_more Feeds live at = header_more Feeds at
  part_more (Entries feeds) live at = header_more (Entries feeds) at
  part_more (Journal feeds entries) live at = entry_more feeds entries (part ++ xs) at (λ less. refl)
  part_more (Failed line k) live at = absurd live

  -- the journal is whole: the bytes are passed over
  pub whole_more : (stage : Stage) (count : ℕ) → tail_at stage (length history) count ≡ tail.Whole → IsReadTo net start penalty history stage part bytes → IsReadTo net start penalty history stage part (bytes ++ xs)
  whole_more Version count whole at = absurd cc
  whole_more Penalty count whole at = absurd cc
  whole_more Feeds count whole at = absurd cc
  whole_more (Entries feeds) count whole at = absurd cc
  whole_more (Journal feeds entries) count whole at = entry_more feeds entries part at (λ less. absurd (is_past (ltb (length history) entries) refl whole less))
    where
      is_past : (b : Bool) → ltb (length history) entries ≡ b → cond b (tail.Torn (length history + 5) count) tail.Whole ≡ tail.Whole → length history < entries → ⊥
      is_past true test whole less = cc
      is_past false test whole less = let past = ltb-false (length history) entries test in omega (arith, past, less)
  whole_more (Failed line k) count whole at = absurd cc

goes_with : (old new : FollowerValue) (xs part : List ℕ) → new.table ≡ old.table → new.stage ≡ old.stage → new.part ≡ part → new.taken ≡ old.taken + length xs
    → ((bytes : List ℕ) → IsReadTo old.table.network old.table.start old.table.penalty old.table.history old.stage old.part bytes
    → IsReadTo old.table.network old.table.start old.table.penalty old.table.history old.stage part (bytes ++ xs)) → Goes old new xs
goes_with old new xs part table_is stage_is part_is counted more = record {
  day = subst (λ (t : TableValue). SameDay old.table t) (sym table_is) (same_day old.table);
  counted = counted;
  reads = λ bytes read.
      subst (λ (t : TableValue). IsReadTo t.network t.start t.penalty t.history new.stage new.part (bytes ++ xs)) (sym table_is)
      (subst (λ (stage : Stage). IsReadTo old.table.network old.table.start old.table.penalty old.table.history stage new.part (bytes ++ xs)) (sym stage_is)
      (subst (λ (part : List ℕ). IsReadTo old.table.network old.table.start old.table.penalty old.table.history old.stage part (bytes ++ xs)) (sym part_is) (more bytes read)));
}

pub goes_part : (old new : FollowerValue) (xs : List ℕ) → IsLive old.stage → HasNoLineFeed xs → new.table ≡ old.table → new.stage ≡ old.stage → new.part ≡ old.part ++ xs → new.taken ≡ old.taken + length xs → Goes old new xs
goes_part old new xs live none table_is stage_is part_is counted =
    goes_with old new xs (old.part ++ xs) table_is stage_is part_is counted
    (λ bytes read. part_more old.table.network old.table.start old.table.penalty old.table.history old.part bytes xs none old.stage live read)

pub goes_past : (old new : FollowerValue) (xs : List ℕ) → tail_of old ≡ tail.Whole → HasNoLineFeed xs → new.table ≡ old.table → new.stage ≡ old.stage → new.part ≡ old.part → new.taken ≡ old.taken + length xs → Goes old new xs
goes_past old new xs whole none table_is stage_is part_is counted =
    goes_with old new xs old.part table_is stage_is part_is counted
    (λ bytes read. whole_more old.table.network old.table.start old.table.penalty old.table.history old.part bytes xs none old.stage (length old.part) whole read)

-- ---- pieces

-- so far a front of the piece was taken, and no line broke its rule
pub record HasTaken (old now : FollowerValue) (piece rest : List ℕ) : Type 0 where
  pub front : List ℕ
  pub split : piece ≡ front ++ rest
  pub goes : Goes old now front
  pub live : IsLive now.stage

pub taken_line : (old now next : FollowerValue) (piece rest line later : List ℕ) (done : Unit {0}) → HasTaken old now piece rest → TakesFront now next (line ++ 10 ∷ []) (Ok done) → rest ≡ line ++ 10 ∷ later →
    HasTaken old next piece later
taken_line old now next piece rest line later done had takes rest_is =
    let all : line ++ 10 ∷ [] ≡ takes.front = takes.split ∙ (ap (λ xs. takes.front ++ xs) takes.ends.0 ∙ append-nil takes.front) in
    record {
      front = had.front ++ takes.front;
      split =
          had.split
          ∙ (ap (λ xs. had.front ++ xs) (rest_is ∙ (sym (append_assoc line (10 ∷ []) later) ∙ ap (λ xs. xs ++ later) all))
          ∙ sym (append_assoc had.front takes.front later));
      goes = goes_then old now next had.front takes.front had.goes takes.goes;
      live = takes.ends.1;
    }

ends_before : (f : FollowerValue) (rest more : List ℕ) (fault : FollowFault) → EndsWith f rest (Err fault) → EndsWith f more (Err fault)
ends_before f rest more fault ends = ends

pub taken_stop : (old now next : FollowerValue) (piece rest line later : List ℕ) (fault : FollowFault) → HasTaken old now piece rest → TakesFront now next (line ++ 10 ∷ []) (Err fault) → rest ≡ line ++ 10 ∷ later →
    TakesFront old next piece (Err fault)
taken_stop old now next piece rest line later fault had takes rest_is = record {
  front = had.front ++ takes.front;
  rest = takes.rest ++ later;
  split =
      had.split
      ∙ (ap (λ xs. had.front ++ xs) (rest_is ∙ (sym (append_assoc line (10 ∷ []) later) ∙ (ap (λ xs. xs ++ later) takes.split ∙ append_assoc takes.front takes.rest later)))
      ∙ sym (append_assoc had.front takes.front (takes.rest ++ later)));
  goes = goes_then old now next had.front takes.front had.goes takes.goes;
  ends = ends_before next takes.rest (takes.rest ++ later) fault takes.ends;
}

-- one call's bytes behind another's
pub taken_then : (old mid new : FollowerValue) (xs ys : List ℕ) (result : Result (Unit {0}) FollowFault) → Goes old mid xs → TakesFront mid new ys result → TakesFront old new (xs ++ ys) result
taken_then old mid new xs ys result goes takes = record {
  front = xs ++ takes.front;
  rest = takes.rest;
  split = ap (λ zs. xs ++ zs) takes.split ∙ sym (append_assoc xs takes.front takes.rest);
  goes = goes_then old mid new xs takes.front goes takes.goes;
  ends = takes.ends;
}

-- the bytes behind the last LF end the call
pub taken_last : (old now next : FollowerValue) (piece rest : List ℕ) (result : Result (Unit {0}) FollowFault) → HasTaken old now piece rest → OnOk result (Goes now next rest) → IsLive next.stage →
    OnErr result (next ≡ now) → IfErr result (λ fault. fault ≡ NO_MEMORY) → TakesFront old next piece result
taken_last old now next piece rest (Ok done) had goes live kept short = record {
  front = had.front ++ rest;
  rest = [];
  split = had.split ∙ sym (append-nil (had.front ++ rest));
  goes = goes_then old now next had.front rest had.goes goes;
  ends = (refl, live);
}
taken_last old now next piece rest (Err fault) had goes live kept short =
    subst (λ (f : FollowerValue). TakesFront old f piece (Err fault)) (sym kept) (record { front = had.front; rest = rest; split = had.split; goes = had.goes; ends = inl (short, had.live) })

-- no line broke its rule so far
pub live_is_unfailed : (stage : Stage) (n count : ℕ) → IsLive stage → IsFailedTail (tail_at stage n count) → ⊥
live_is_unfailed Version n count live failed = failed
live_is_unfailed Penalty n count live failed = failed
live_is_unfailed Feeds n count live failed = failed
live_is_unfailed (Entries feeds) n count live failed = failed
live_is_unfailed (Journal feeds entries) n count live failed = by_test (ltb n entries) failed
  where
    by_test : (b : Bool) → IsFailedTail (cond b (tail.Torn (n + 5) count) tail.Whole) → ⊥
    by_test true failed = failed
    by_test false failed = failed
live_is_unfailed (Failed line k) n count live failed = live

ends_of : (new : FollowerValue) (stage : Stage) (result : Result (Unit {0}) FollowFault) → new.stage ≡ stage → AnswersStage stage result → EndsWith new [] result
ends_of new stage (Ok done) is answers = (refl, subst IsLive (sym is) answers)
ends_of new stage (Err fault) is answers = inr (subst (λ (s : Stage). IsFaultOf s fault) (sym is) answers)

-- an LF was taken
pub feed_taken : (old new : FollowerValue) (stage : Stage) (result : Result (Unit {0}) FollowFault) → Advances old.table new.table old.stage old.part stage → new.stage ≡ stage → new.part ≡ [] →
    new.taken ≡ old.taken + 1 → AnswersStage stage result → TakesFront old new (10 ∷ []) result
feed_taken old new stage result advances stage_is part_is counted answers = record {
  front = 10 ∷ [];
  rest = [];
  split = refl;
  goes = goes_line old new stage advances stage_is part_is counted;
  ends = ends_of new stage result stage_is answers;
}

-- a follower that has taken nothing
pub follows_none : (t : TableValue) (part : List ℕ) → IsTable t → t.history ≡ [] → part ≡ [] → Follows (record { table = t; taken = 0; stage = Version; part = part }) []
follows_none t part is none empty =
    follows_of (record { table = t; taken = 0; stage = Version; part = part }) [] is refl
    (subst (λ (p : List ℕ). IsAtHeader t.network t.start t.penalty Version t.history p []) (sym empty)
    (record {
      none = none;
      last = record { before = []; is = refl; begins = inl refl; one_line = All-nil (λ b. b ≡ 10 → ⊥) };
      on = λ more answer told. told;
    }))
