-- A block in front of a file: read where one stands there, and nowhere else.
use Rattle.std.proofs.Common.{◌≡◌, ℕ, ◌^◌, ◌<◌, ◌≤◌, List, ◌∷◌, ◌++◌, codes, length, Some, refl, sym, ap, arith, ◌∙◌, append_assoc, length-append}
use Rattle.std.specs.Fmt.{decimal}
use Rattle.dm_text.specs.Inside.Parts.{behind, number_in_front}
use Rattle.dm_text.proofs.Reading.{behind_back, behind_is, number_back, number_is}
use Rattle.dm_store.specs.Blocks.{block, behind_gate}

pub is_block : (file a b c content rest : List ℕ) (n : ℕ) → behind (codes "+") file ≡ Some a → number_in_front (length file) a ≡ Some (n, b) →
    behind (codes "\n") b ≡ Some c → length content ≡ n → c ≡ content ++ rest → length file < 2 ^ 64 → file ≡ block content ++ rest
is_block file a b c content rest n gate number line size split short =
    let gate_is : file ≡ codes "+" ++ a = behind_is (codes "+") file a gate in
    let number_is_here = number_is (length file) n a b (omega arith) number in
    let line_is : b ≡ codes "\n" ++ c = behind_is (codes "\n") b c line in
    let head : a ≡ decimal (length content) ++ 10 ∷ c = number_is_here.line_is ∙ ap (λ k. decimal k ++ b) (sym size) ∙ ap (λ xs. decimal (length content) ++ xs) line_is in
    let whole : a ≡ decimal (length content) ++ 10 ∷ (content ++ rest) = head ∙ ap (λ xs. decimal (length content) ++ 10 ∷ xs) split in
    gate_is ∙ ap (λ xs. 43 ∷ xs) (whole ∙ sym (append_assoc (decimal (length content)) (10 ∷ content) rest))

pub record Reads (content rest file : List ℕ) : Type 0 where
  pub gate : behind (codes "+") file ≡ Some (behind_gate content ++ rest)
  pub number : number_in_front (length file) (behind_gate content ++ rest) ≡ Some (length content, 10 ∷ (content ++ rest))
  pub line : behind (codes "\n") (10 ∷ (content ++ rest)) ≡ Some (content ++ rest)

pub block_reads : (content rest file : List ℕ) → file ≡ block content ++ rest → length file < 2 ^ 64 → Reads content rest file
block_reads content rest file is short =
    let long : length file ≡ length (block content ++ rest) = ap length is in
    let size : length content ≤ length file = omega (arith, long, length-append (block content) rest, length-append (decimal (length content)) (10 ∷ content)) in
    record {
      gate = ap (behind (codes "+")) is ∙ behind_back (codes "+") (behind_gate content ++ rest);
      number = ap (number_in_front (length file)) (append_assoc (decimal (length content)) (10 ∷ content) rest) ∙ number_back (length file) (length content) (10 ∷ (content ++ rest)) size (omega arith) refl;
      line = behind_back (codes "\n") (content ++ rest);
    }
