-- Rounds that are read one after another.
use Rattle.std.proofs.Common.{◌≡◌, ℕ, suc, ◌+◌, ◌<◌, ◌≤◌, List, [], ◌∷◌, ◌++◌, length, map, fold, get_or, set, refl, sym, ap, ◌∙◌, arith, append-nil, length-append, All, Vec, Global}
use Rattle.std.specs.List.{flat_map}
use Rattle.std.proofs.lemmas.List.{map-append, map-set, get_or-map, length-map, length-replicate}
use Rattle.std.proofs.lemmas.List.Elements.{All-nil, All-cons, All-head, All-tail, All-append, All-replicate, All-push}
use Rattle.std.proofs.lemmas.List.Sums.{fold_push}
use Rattle.std.proofs.Math.ListN.{replicate}
use Rattle.dm_cert.specs.declared.replies.LogItem.{LogItem}
use Rattle.dm_cert.specs.RunTexts.{IsSpelledItem}
use Rattle.dm_store.specs.Blocks.{block}
use Rattle.dm_store.proofs.Standing.{one_more}
use Rattle.dm_tape.specs.Laws.{IsKeptPart}
use Rattle.dm_tape.specs.Rounds.{round_text, IsTapeRound}
use Rattle.dm_tape.specs.Told.{BeginsWithRound}
use Rattle.dm_book.specs.Books.{with_round, logs_after}
use Rattle.dm_restore.specs.Inside.Reading.{IsWholeRound, AreWholeRounds}

-- ---- logs with a round behind them

pub with_none : (logs : List (List LogItem)) → with_round logs [] ≡ logs
with_none [] = refl
with_none (log ∷ logs) = refl

pub length-with_round : (logs round : List (List LogItem)) → length (with_round logs round) ≡ length logs
length-with_round [] round = refl
length-with_round (log ∷ logs) [] = refl
length-with_round (log ∷ logs) (items ∷ round) = ap suc (length-with_round logs round)

pub part_more : (logs round : List (List LogItem)) (items : List LogItem) → length round < length logs →
    with_round logs (round ++ items ∷ []) ≡ set (with_round logs round) (length round) (get_or (with_round logs round) (length round) [] ++ items)
part_more [] round items low = absurd (omega (arith, low))
part_more (log ∷ logs) [] items low = ap (λ (l : List (List LogItem)). (log ++ items) ∷ l) (with_none logs)
part_more (log ∷ logs) (part ∷ round) items low =
    let less : length round < length logs = omega (arith, low) in
    ap (λ (l : List (List LogItem)). (log ++ part) ∷ l) (part_more logs round items less)

-- so one log after another gets its part
pub part_added : (old : List (List LogItem)) (logs now : List (Vec LogItem Global)) (yielded : List (List LogItem)) (x : List LogItem) (feed : ℕ) (log : Vec LogItem Global) → now ≡ set logs feed log → feed ≡ length yielded →
    map (λ (l : Vec LogItem Global). l.items) logs ≡ with_round old yielded → length yielded < length old → log.items ≡ (get_or logs feed log).items ++ x →
    map (λ (l : Vec LogItem Global). l.items) now ≡ with_round old (yielded ++ x ∷ [])
part_added old logs now yielded x feed log is here so_far low grown =
    let f : Vec LogItem Global → List LogItem = λ l. l.items in
    let many : length logs ≡ length old = sym (length-map logs f) ∙ (ap length so_far ∙ length-with_round old yielded) in
    let inside : feed < length logs = omega (arith, many, here, low) in
    let was : (get_or logs feed log).items ≡ get_or (with_round old yielded) (length yielded) [] =
    sym (get_or-map f logs feed log [] inside) ∙ (ap (λ (l : List (List LogItem)). get_or l feed []) so_far ∙ ap (λ (k : ℕ). get_or (with_round old yielded) k []) here) in
    ap (map f) is
    ∙ (map-set f logs feed log
    ∙ (ap (λ (l : List (List LogItem)). set l feed log.items) so_far
    ∙ (ap (λ (k : ℕ). set (with_round old yielded) k log.items) here
    ∙ (ap (set (with_round old yielded) (length yielded)) (grown ∙ ap (λ (l : List LogItem). l ++ x) was) ∙ sym (part_more old yielded x low)))))

-- the logs after rounds are as many as the feeds
pub length-logs_after : (feeds : ℕ) (rounds : List (List (List LogItem))) → length (logs_after feeds rounds) ≡ feeds
length-logs_after feeds rounds = each rounds (replicate feeds []) ∙ length-replicate feeds []
  where
    each : (rounds : List (List (List LogItem))) (logs : List (List LogItem)) → length (fold with_round logs rounds) ≡ length logs
    each [] logs = refl
    each (round ∷ rounds) logs = each rounds (with_round logs round) ∙ length-with_round logs round

-- what is so of all items of rounds is so of those of the logs
module _ (P : LogItem → Type 0) where
  all_with : (logs round : List (List LogItem)) → All (All P) logs → All (All P) round → All (All P) (with_round logs round)
  all_with [] round a b = All-nil (All P)
  all_with (log ∷ logs) [] a b = a
  all_with (log ∷ logs) (items ∷ round) a b =
      All-cons (All P) (log ++ items) (with_round logs round) (All-append P log items (All-head (All P) log logs a) (All-head (All P) items round b))
      (all_with logs round (All-tail (All P) log logs a) (All-tail (All P) items round b))

  all_after : (rounds : List (List (List LogItem))) (logs : List (List LogItem)) → All (All P) logs → All (All (All P)) rounds → All (All P) (fold with_round logs rounds)
  all_after [] logs a b = a
  all_after (round ∷ rounds) logs a b =
      all_after rounds (with_round logs round) (all_with logs round a (All-head (All (All P)) round rounds b)) (All-tail (All (All P)) round rounds b)

pub spelled_after : (feeds : ℕ) (rounds : List (List (List LogItem))) → All IsTapeRound rounds → All (All IsSpelledItem) (logs_after feeds rounds)
spelled_after feeds rounds tape =
    all_after IsSpelledItem rounds (replicate feeds []) (All-replicate (All IsSpelledItem) feeds [] (All-nil IsSpelledItem))
    (λ i d low j e below k f under. (tape i d low j e below k f under).spelled)

-- ---- a round that is read

-- a content that is a round's text begins with it
pub begins_whole : (feeds : ℕ) (content : List ℕ) (round : List (List LogItem)) → length round ≡ feeds → IsTapeRound round → content ≡ round_text round → BeginsWithRound feeds content round (length (round_text round))
begins_whole feeds content round size tape text = record { rest = []; text = text ∙ sym (append-nil (round_text round)); used = refl; feeds_are = size; items = tape }

-- ---- blocks of rounds, one after another

pub record HasRead (feeds : ℕ) (bytes rest : List ℕ) (logs : List (List LogItem)) (number : ℕ) : Type 0 where
  pub rounds : List (List (List LogItem))
  pub split : bytes ≡ flat_map block (map round_text rounds) ++ rest
  pub are_whole : AreWholeRounds feeds rounds
  pub logs_are : logs ≡ logs_after feeds rounds
  pub number_is : number ≡ length rounds + 2
  pub few : number + length rest ≤ length bytes + 2

module _ (feeds : ℕ) (bytes rest content more : List ℕ) (logs : List (List LogItem)) (number : ℕ) (h : HasRead feeds bytes rest logs number) (split : rest ≡ block content ++ more) where
  pub read_more : (round now : List (List LogItem)) → IsWholeRound feeds content round → now ≡ with_round logs round → HasRead feeds bytes more now (number + 1)
  read_more round now w is =
      let size = ap length split in
      let parts = length-append (block content) more in
      record {
        rounds = h.rounds ++ round ∷ [];
        split =
            one_more (map round_text h.rounds) (round_text round) more rest bytes h.split (split ∙ ap (λ (c : List ℕ). block c ++ more) w.text)
            ∙ ap (λ (l : List (List ℕ)). flat_map block l ++ more) (sym (map-append round_text h.rounds (round ∷ [])));
        are_whole = record {
          whole = All-push (λ r. length r ≡ feeds) h.rounds round h.are_whole.whole w.whole;
          tape = All-push IsTapeRound h.rounds round h.are_whole.tape w.tape;
          kept = All-push (All IsKeptPart) h.rounds round h.are_whole.kept w.kept;
        };
        logs_are = is ∙ (ap (λ (l : List (List LogItem)). with_round l round) h.logs_are ∙ sym (fold_push with_round (replicate feeds []) h.rounds round));
        number_is = omega (arith, h.number_is, length-append h.rounds (round ∷ []));
        few = omega (arith, h.few, size, parts);
      }

-- there are as many logs as a round has parts
pub as_many : (feeds : ℕ) (bytes rest : List ℕ) (logs : List (Vec LogItem Global)) (number : ℕ) (content : List ℕ) (round : List (List LogItem)) → HasRead feeds bytes rest (map (λ (l : Vec LogItem Global). l.items) logs) number → IsWholeRound feeds content round →
    length round ≡ length logs
as_many feeds bytes rest logs number content round h w =
    w.whole ∙ (sym (length-logs_after feeds h.rounds) ∙ (ap length (sym h.logs_are) ∙ length-map logs (λ (l : Vec LogItem Global). l.items)))
