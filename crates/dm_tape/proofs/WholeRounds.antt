-- What is answered of bytes that should begin with a round's text.
use Rattle.std.proofs.Common.{◌≡◌, ℕ, ◌+◌, ◌-◌, ◌≤◌, List, [], ◌++◌, length, Ok, Err, sym, ap, subst, ◌∙◌, ◌⊎◌, inl, inr, arith, length-append}
use Rattle.dm_text.specs.Places.{Place, at_start}
use Rattle.dm_cert.specs.declared.faults.CertFault.{CertFault}
use Rattle.dm_cert.specs.declared.replies.LogItem.{LogItem}
use Rattle.dm_cert.specs.PlansRead.{want_of_memory}
use Rattle.dm_tape.specs.Rounds.{round_text}
use Rattle.dm_tape.specs.Told.{TellsRound, ReadsText, FindsFault, BeginsWithRound}
use Rattle.dm_tape.proofs.Single.{round_one}
use Rattle.dm_tape.proofs.Spelled.{round_stands}
use Rattle.dm_tape.proofs.Standing.{Told, parts_told}

-- where the text of a round stands, it is told
round_told : (feeds : ℕ) (bytes : List ℕ) (round : List (List LogItem)) (used : ℕ) → feeds ≤ 4294967295 → length bytes ≤ 536870912 → (b : BeginsWithRound feeds bytes round used)
    → Told (TellsRound feeds) round (at_start bytes) b.rest
unfolding round_text
round_told feeds bytes round used few short b =
    let told = parts_told [] round (at_start bytes) b.rest (omega (arith, few, b.feeds_are)) b.items short b.text in
    record {
      next = told.next;
      left = told.left;
      told = subst (λ (n : ℕ). TellsRound n (at_start bytes) (Ok (round, told.next))) b.feeds_are told.told;
    }

module _ (feeds : ℕ) (bytes : List ℕ) where
  module _ (round : List (List LogItem)) (lines next : Place) (left : List ℕ) (start : lines ≡ at_start bytes) (e : left ≡ next.left) (told : TellsRound feeds lines (Ok (round, next))) where
    at_bytes : bytes ≡ round_text round ++ next.left
    at_bytes = let stands = round_stands feeds round lines next told in sym (ap (λ (p : Place). p.left) start) ∙ stands.left

    pub left_behind : length bytes ≡ length (round_text round) + length left
    left_behind = omega (arith, ap length at_bytes, length-append (round_text round) next.left, ap length e)

    pub begins_with : BeginsWithRound feeds bytes round (length bytes - length left)
    begins_with =
        let stands = round_stands feeds round lines next told in
        record { rest = next.left; text = at_bytes; used = omega (arith, left_behind); feeds_are = stands.count; items = stands.good }

    pub reads_text : ReadsText feeds bytes round (length bytes - length left)
    reads_text = record {
      behind = next;
      told = subst (λ (p : Place). TellsRound feeds p (Ok (round, next))) start told;
      used = omega (arith, left_behind, ap length e);
    }

  pub fault_found : (lines : Place) (fault : CertFault) → lines ≡ at_start bytes → (fault ≡ want_of_memory) ⊎ TellsRound feeds lines (Err fault) → FindsFault feeds bytes fault
  fault_found lines fault start (inl want) = inl want
  fault_found lines fault start (inr told) = inr (subst (λ (p : Place). TellsRound feeds p (Err fault)) start told)

  module _ (round : List (List LogItem)) (used : ℕ) (few : feeds ≤ 4294967295) (short : length bytes ≤ 536870912) (begins : BeginsWithRound feeds bytes round used) where
    -- what is read is the round whose text stands there
    pub read_is : (read : List (List LogItem)) (count : ℕ) → ReadsText feeds bytes read count → (read ≡ round) × (count ≡ used)
    read_is read count reads =
        let told = round_told feeds bytes round used few short begins in
        let same = round_one feeds (at_start bytes) (Ok (read, reads.behind)) (Ok (round, told.next)) reads.told told.told in
        let one : (◌≡◌ {A = List (List LogItem) × Place} (read, reads.behind) (round, told.next)) = cc in
        let behind : length reads.behind.left ≡ length begins.rest = ap (λ (q : List (List LogItem) × Place). length q.1.left) one ∙ ap length told.left in (
          ap (λ (q : List (List LogItem) × Place). q.0) one,
          omega (arith, reads.used, behind, ap length begins.text, length-append (round_text round) begins.rest, begins.used),
        )

    -- and then nothing but want of memory is a fault
    pub fault_is : (fault : CertFault) → FindsFault feeds bytes fault → fault ≡ want_of_memory
    fault_is fault (inl want) = want
    fault_is fault (inr told) =
        let stands = round_told feeds bytes round used few short begins in
        let same = round_one feeds (at_start bytes) (Err fault) (Ok (round, stands.next)) told stands.told in
        absurd cc
