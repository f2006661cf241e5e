-- What the file of a journal records.
use Rattle.std.proofs.Common.{◌≡◌, ◌⊎◌, inl, inr, ℕ, ◌+◌, ◌<◌, ◌≤◌, ◌^◌, Bool, true, false, List, [], ◌∷◌, ◌++◌, length, map, Some, None, Ok, Err, refl, sym, ap, subst, ◌∙◌, arith, append_assoc, length-append, slice_get, All}
use Rattle.std.specs.Borrow.{Bor}
use Rattle.std.specs.List.{flat_map}
use Rattle.std.proofs.lemmas.List.{length-map}
use Rattle.std.proofs.lemmas.List.Concat.{flat_map-append}
use Rattle.std.proofs.lemmas.List.Elements.{All-replicate, All-map}
use Rattle.std.proofs.lemmas.Option.{none-some}
use Rattle.dm_cert.specs.declared.replies.LogItem.{LogItem}
use Rattle.dm_cert.specs.declared.replies.FeedLog.{FeedLog}
use Rattle.dm_cert.specs.Answers.{Setting}
use Rattle.dm_cert.specs.RunTexts.{IsSpelledItem, IsSpelledLog}
use Rattle.dm_store.specs.Blocks.{block, IsEnd, Stands, refusal}
use Rattle.dm_store.specs.declared.faults.StoreError.{StoreError}
use Rattle.dm_store.proofs.Standing.{all_stand, one_list, one_more, front_block}
use Rattle.dm_tape.specs.Rounds.{round_text, IsTapeRound}
use Rattle.dm_book.specs.Books.{AreNone, AreRecorded, head_text, log_of, logs_after}
use Rattle.dm_restore.specs.Restoring.{AreInForm, IsMisshapen, RefusesBook}
use Rattle.dm_restore.specs.declared.heads.Head.{Head}
use Rattle.dm_restore.specs.declared.stops.RestoreStop.{RestoreStop}
use Rattle.dm_restore.specs.declared.stops.RestoreStop.TheVariants as stop
use Rattle.dm_restore.specs.Inside.Logs.{IsBehindHead, HasLogs}
use Rattle.dm_restore.specs.Inside.Reading.{HasRounds, HasNoRound, StopsReading}
use Rattle.dm_restore.proofs.ReadRounds.{length-logs_after, spelled_after}

-- ---- the blocks of a file

small : (n : ℕ) → n ≤ 134217728 → n < 2 ^ 64
small n le = omega arith

-- the block in front, or behind others
pub with_front : (before contents : List (List ℕ)) (content rest file : List ℕ) → length file < 2 ^ 64 → file ≡ flat_map block before ++ (block content ++ rest) → Stands contents file →
    (others : List (List ℕ)) × (contents ≡ before ++ content ∷ others)
with_front before contents content rest file short split stands =
    let size : length rest < 2 ^ 64 = omega (arith, short, ap length split, length-append (flat_map block before) (block content ++ rest), length-append (block content) rest) in
    let more = all_stand (length rest) rest (omega arith) size in
    let behind : block content ++ rest ≡ flat_map block (content ∷ more.0) ++ more.1.end =
    ap (λ (xs : List ℕ). block content ++ xs) more.1.split ∙ sym (front_block content more.0 more.1.end) in
    let whole : file ≡ flat_map block (before ++ content ∷ more.0) ++ more.1.end =
    split
    ∙ (ap (λ (xs : List ℕ). flat_map block before ++ xs) behind
    ∙ (sym (append_assoc (flat_map block before) (flat_map block (content ∷ more.0)) more.1.end)
    ∙ ap (λ (xs : List ℕ). xs ++ more.1.end) (sym (flat_map-append block before (content ∷ more.0))))) in
    (more.0, one_list contents (before ++ content ∷ more.0) file stands.end more.1.end short stands.split stands.is_end whole more.1.is_end)

-- ---- what is read

-- the logs that the blocks record
pub record IsRead (s : Setting) (feeds : ℕ) (contents : List (List ℕ)) (logs : List (List LogItem)) (is_new : Bool) : Type 0 where
  pub as_many : length logs ≡ feeds
  pub is_in : AreNone contents logs ⊎ AreRecorded s contents logs
  pub in_form : AreInForm s feeds contents
  pub spelled : All (All IsSpelledItem) logs
  pub new : is_new ≡ true → contents ≡ []
  pub old : is_new ≡ false → contents ≡ [] → ⊥

empty_map : (rounds : List (List (List LogItem))) → [] ≡ map round_text rounds → rounds ≡ []
empty_map [] e = refl
empty_map (round ∷ rounds) e = absurd cc

module _ (head : Head) (s : Setting) (file : List ℕ) (contents : List (List ℕ)) (stands : Stands contents file) (few : length file ≤ 134217728) (penalty : s.penalty ≡ head.penalty) (plans : s.plans ≡ head.plans) where
  -- there is no block
  module _ (rest : List ℕ) (is : rest ≡ file) (end : IsEnd file) where
    none_stands : contents ≡ []
    none_stands = one_list contents [] file stands.end file (small (length file) few) stands.split stands.is_end refl end

    no_rounds : (rounds : List (List (List LogItem))) (behind : List ℕ) → rest ≡ flat_map block (map round_text rounds) ++ behind → IsEnd behind → rounds ≡ []
    no_rounds rounds behind split ends = empty_map rounds (one_list [] (map round_text rounds) file file behind (small (length file) few) refl end (sym is ∙ split) ends)

    new_read : (logs : List (List LogItem)) → HasRounds head.feeds rest logs → IsRead s head.feeds contents logs true
    new_read logs h =
        let none = no_rounds h.rounds h.end h.split h.is_end in
        let empty : logs ≡ logs_after head.feeds [] = h.logs_are ∙ ap (logs_after head.feeds) none in
        record {
          as_many = ap length h.logs_are ∙ length-logs_after head.feeds h.rounds;
          is_in = inl (record {
            none = none_stands;
            empty = subst (All (λ (items : List LogItem). items ≡ [])) (sym empty) (All-replicate (λ (items : List LogItem). items ≡ []) head.feeds [] refl);
          });
          in_form = subst (AreInForm s head.feeds) (sym none_stands) tt;
          spelled = subst (All (All IsSpelledItem)) (sym h.logs_are) (spelled_after head.feeds h.rounds h.are_whole.tape);
          new = λ e. none_stands;
          old = λ e none. absurd (let differs : true ≡ false = e in cc);
        }

    no_misshapen : (number : ℕ) → HasNoRound head.feeds rest number → ⊥
    no_misshapen number h = first h.rounds (sym is ∙ h.split)
      where
        first : (rounds : List (List (List LogItem))) → file ≡ flat_map block (map round_text rounds) ++ (block h.content ++ h.rest) → ⊥
        first [] split = end h.content h.rest split
        first (round ∷ rounds) split =
            end (round_text round) (flat_map block (map round_text rounds) ++ (block h.content ++ h.rest)) (split ∙ append_assoc (block (round_text round)) (flat_map block (map round_text rounds)) (block h.content ++ h.rest))

  -- the head stands in front
  module _ (rest : List ℕ) (split : file ≡ block (head_text head.penalty head.plans head.feeds) ++ rest) where
    abbrev first : List ℕ
    first = head_text head.penalty head.plans head.feeds

    head_is : (feeds : ℕ) → feeds ≡ head.feeds → first ≡ head_text s.penalty s.plans feeds
    head_is feeds same =
        ap (λ (n : ℕ). head_text n head.plans head.feeds) (sym penalty) ∙ (ap (λ (n : ℕ). head_text s.penalty n head.feeds) (sym plans) ∙ ap (head_text s.penalty s.plans) (sym same))

    blocks_are : (rounds : List (List (List LogItem))) (behind : List ℕ) → rest ≡ flat_map block (map round_text rounds) ++ behind → IsEnd behind → contents ≡ first ∷ map round_text rounds
    blocks_are rounds behind more ends =
        one_list contents (first ∷ map round_text rounds) file stands.end behind (small (length file) few) stands.split stands.is_end
        (split ∙ (ap (λ (xs : List ℕ). block first ++ xs) more ∙ sym (front_block first (map round_text rounds) behind))) ends

    formed : (rounds : List (List (List LogItem))) → All (λ round. length round ≡ head.feeds) rounds → All IsTapeRound rounds → AreInForm s head.feeds (first ∷ map round_text rounds)
    formed rounds whole tape = record { rounds = rounds; are = ap (λ (x : List ℕ). x ∷ map round_text rounds) (head_is head.feeds refl); whole = whole; in_print = tape }

    old_read : (logs : List (List LogItem)) → HasRounds head.feeds rest logs → IsRead s head.feeds contents logs false
    old_read logs h =
        let are = blocks_are h.rounds h.end h.split h.is_end in
        let size : length logs ≡ head.feeds = ap length h.logs_are ∙ length-logs_after head.feeds h.rounds in
        record {
          as_many = size;
          is_in = inr (record {
            rounds = h.rounds;
            blocks = are ∙ ap (λ (x : List ℕ). x ∷ map round_text h.rounds) (head_is (length logs) size);
            whole = subst (λ (n : ℕ). All (λ round. length round ≡ n) h.rounds) (sym size) h.are_whole.whole;
            kept = h.are_whole.kept;
            logs_are = h.logs_are ∙ ap (λ (n : ℕ). logs_after n h.rounds) (sym size);
          });
          in_form = subst (AreInForm s head.feeds) (sym are) (formed h.rounds h.are_whole.whole h.are_whole.tape);
          spelled = subst (All (All IsSpelledItem)) (sym h.logs_are) (spelled_after head.feeds h.rounds h.are_whole.tape);
          new = λ e. absurd (let differs : false ≡ true = e in cc);
          old = λ e none. absurd (let some : first ∷ map round_text h.rounds ≡ [] = sym are ∙ none in cc);
        }

    misshapen : (number : ℕ) → HasNoRound head.feeds rest number → IsMisshapen s head.feeds contents number
    misshapen number h =
        let before = first ∷ map round_text h.rounds in
        let whole : file ≡ flat_map block before ++ (block h.content ++ h.rest) =
        split ∙ (ap (λ (xs : List ℕ). block first ++ xs) h.split ∙ sym (front_block first (map round_text h.rounds) (block h.content ++ h.rest))) in
        let found = with_front before contents h.content h.rest file (small (length file) few) whole stands in
        record {
          before = before;
          content = h.content;
          behind = found.0;
          stands = found.1;
          number_is = omega (arith, h.number_is, length-map h.rounds round_text);
          in_form = formed h.rounds h.are_whole.whole h.are_whole.tape;
          misshapen = h.misshapen;
        }

  -- what is read behind the head
  pub is_read : (rest : Bor (List ℕ)) (is_new : Bool) (logs : List (List LogItem)) → IsBehindHead head file (Ok (rest, is_new)) → HasRounds head.feeds rest.now logs → IsRead s head.feeds contents logs is_new
  is_read rest true logs b h = new_read rest.now b.1 b.0 logs h
  is_read rest false logs b h = old_read rest.now b logs h

  pub stops_reading : (rest : Bor (List ℕ)) (is_new : Bool) (end : List ℕ) (why : RestoreStop) → IsBehindHead head file (Ok (rest, is_new)) → StopsReading head.feeds rest.now why → RefusesBook s head.feeds file contents end why
  stops_reading rest is_new end stop.OutOfMemory b h = tt
  stops_reading rest true end (stop.Form number) b h = absurd (no_misshapen rest.now b.1 b.0 number h)
  stops_reading rest false end (stop.Form number) b h = inl (misshapen rest.now b number h)
  stops_reading rest is_new end stop.Full b h = absurd h
  stops_reading rest is_new end stop.Head b h = absurd h
  stops_reading rest is_new end (stop.Bad line kind) b h = absurd h

  -- ---- another head, or none

  head_same : (a b : Head) → a.penalty ≡ b.penalty → a.plans ≡ b.plans → a.feeds ≡ b.feeds → a ≡ b
  head_same a b p q r =
      ap (λ v. record a { penalty = v }) p ∙ (ap (λ v. record a { penalty = b.penalty; plans = v }) q ∙ ap (λ v. record b { feeds = v }) r)

  pub stops_at_head : (end : List ℕ) (why : RestoreStop) → IsBehindHead head file (Err why) → RefusesBook s head.feeds file contents end why
  stops_at_head end stop.Head h =
      let found = with_front [] contents h.content h.rest file (small (length file) few) h.split stands in
      record {
        content = h.content;
        stands = ap (λ (cs : List (List ℕ)). slice_get cs 0) found.1;
        other = record {
          penalty = h.found.penalty;
          plans = h.found.plans;
          others = h.found.feeds;
          is_head = h.is_head;
          differs = λ p q r. h.other (head_same h.found head (p ∙ penalty) (q ∙ plans) r);
        };
      }
  stops_at_head end (stop.Form number) h =
      let none = h.1 in
      let found = with_front [] contents none.content none.rest file (small (length file) few) none.split stands in
      inl (record {
        before = [];
        content = none.content;
        behind = found.0;
        stands = found.1;
        number_is = omega (arith, h.0);
        in_form = tt;
        misshapen = none.none;
      })
  stops_at_head end stop.OutOfMemory h = absurd h
  stops_at_head end stop.Full h = absurd h
  stops_at_head end (stop.Bad line kind) h = absurd h

-- ---- how many blocks there are

pub record HasCounted (file rest : List ℕ) (count : ℕ) : Type 0 where
  pub before : List (List ℕ)
  pub split : file ≡ flat_map block before ++ rest
  pub number : count ≡ length before
  pub few : count + length rest ≤ length file

pub none_counted : (file : List ℕ) → HasCounted file file 0
none_counted file = record { before = []; split = refl; number = refl; few = omega arith }

pub one_counted : (file rest content more : List ℕ) (count : ℕ) → HasCounted file rest count → rest ≡ block content ++ more → HasCounted file more (count + 1)
one_counted file rest content more count h split = record {
  before = h.before ++ content ∷ [];
  split = one_more h.before content more rest file h.split split;
  number = omega (arith, h.number, length-append h.before (content ∷ []));
  few = omega (arith, h.few, ap length split, length-append (block content) more);
}

pub all_counted : (file rest : List ℕ) (count : ℕ) → HasCounted file rest count → length file ≤ 134217728 → IsEnd rest → (contents : List (List ℕ)) → Stands contents file → count ≡ length contents
all_counted file rest count h few end contents stands =
    h.number ∙ ap length (one_list h.before contents file rest stands.end (small (length file) few) h.split end stands.split stands.is_end)

-- ---- the end

pub broken_end : (s : Setting) (feeds : ℕ) (file : List ℕ) (contents : List (List ℕ)) (end : List ℕ) (logs : List (List LogItem)) (is_new : Bool) (why : StoreError) (count number : ℕ) →
    IsRead s feeds contents logs is_new → Some why ≡ refusal contents end → count ≡ length contents → number ≡ count + 1 → RefusesBook s feeds file contents end (stop.Form number)
broken_end s feeds file contents end logs is_new why count number read told same is =
    inr (record { in_form = read.in_form; number_is = omega (arith, same, is); refused = λ none. absurd (none-some why (sym none ∙ sym told)) })

-- ---- logs that go on

pub map_back : (logs : List (List LogItem)) → map (λ (log : FeedLog). log.items) (map log_of logs) ≡ logs
map_back [] = refl
map_back (log ∷ logs) = ap (λ (l : List (List LogItem)). log ∷ l) (map_back logs)

pub has_logs : (s : Setting) (feeds : ℕ) (contents : List (List ℕ)) (end : List ℕ) (logs : List (List LogItem)) (made : List FeedLog) (is_new : Bool) → IsRead s feeds contents logs is_new → made ≡ map log_of logs →
    None ≡ refusal contents end → HasLogs s feeds contents end made is_new
has_logs s feeds contents end logs made is_new read is whole =
    let back : map (λ (log : FeedLog). log.items) made ≡ logs = ap (map (λ (log : FeedLog). log.items)) is ∙ map_back logs in
    record {
      as_many = ap length is ∙ (length-map logs log_of ∙ read.as_many);
      go_on = is ∙ ap (map log_of) (sym back);
      is_in = subst (λ (ls : List (List LogItem)). AreNone contents ls ⊎ AreRecorded s contents ls) (sym back) read.is_in;
      new = read.new;
      old = read.old;
      spelled = subst (All IsSpelledLog) (sym is) (All-map IsSpelledLog log_of logs read.spelled);
      whole = sym whole;
    }
