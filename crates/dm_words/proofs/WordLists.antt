-- Words among words, and texts before what stands behind them.
use Rattle.std.proofs.Common.{◌≡◌, ℕ, List, ◌++◌, length, take, drop, Option, Some, None, refl, sym, ap, ◌∙◌, inl, inr}
use Rattle.std.specs.Str.{bytes_eq}
use Rattle.std.proofs.lemmas.Slice.Eq.{bytes_eq-Decides}
use Rattle.std.proofs.lemmas.Bool.{cases_Bool}
use Rattle.std.proofs.lemmas.List.{take-append-drop}
use Rattle.std.proofs.Math.Seq.{take-append_seam}
use Rattle.std.specs.Option.{MatchOption, option_map}
use Rattle.std.specs.Str.Pattern.{FindsTextPrefix, StripsPrefix}
use Rattle.std.specs.Borrow.{Bor}
use Rattle.std.specs.Prelude.{Result, Ok, Err}
use Rattle.dm_lintim.specs.Columns.{FileColumns, ReadsFileColumns}
use Rattle.dm_lintim.specs.declared.columns.ColumnFault.{ColumnFault}
use Rattle.dm_lintim.proofs.WordLemmas.{columns_one}
use Rattle.dm_words.specs.Options.{behind}

-- a word that begins with the text
pub behind_text : (text word rest : List ℕ) → word ≡ text ++ rest → behind text word ≡ Some (drop (length text) word)
behind_text text word rest e =
    let front : take (length text) word ≡ text = ap (take (length text)) e ∙ take-append_seam text rest in
    rw ((bytes_eq-Decides (take (length text) word) text).1 front) refl

pub behind_some : (text word x : List ℕ) (n : ℕ) → n ≡ length text → word ≡ text ++ drop n word → x ≡ drop n word → Some x ≡ behind text word
behind_some text word x n is e x_is =
    ap Some (x_is ∙ ap (λ k. drop k word) is) ∙ sym (behind_text text word (drop n word) e)

-- a word that does not
pub behind_none : (text word : List ℕ) → ((rest : List ℕ) → drop 0 word ≡ text ++ rest → ⊥) → None ≡ behind text word
behind_none text word lacks =
    elim (cases_Bool (bytes_eq (take (length text) word) text)) [
      | inl e ↦
          let front : take (length text) word ≡ text = (bytes_eq-Decides (take (length text) word) text).0 e in
          absurd (lacks (drop (length text) word) (sym (take-append-drop (length text) word) ∙ ap (λ l. l ++ drop (length text) word) front))
      | inr e ↦ rw e refl
    ]

pub behind_is : (text word : List ℕ) (r : Option (Bor (List ℕ))) → MatchOption r (FindsTextPrefix text word None) (λ x. StripsPrefix (FindsTextPrefix text) word x.now) → option_map (λ x. x.now) r ≡ behind text word
behind_is text word None h = behind_none text word h
behind_is text word (Some x) h = behind_some text word x.now h.0 h.1.0 h.1.1 h.2

-- the same, where the texts are known by what they equal
pub refused_texts : (events activities e a : List ℕ) (r : Result FileColumns ColumnFault) (why : ColumnFault) → e ≡ events → a ≡ activities → ReadsFileColumns e a r → r ≡ Err why → (columns : FileColumns) → ReadsFileColumns events activities (Ok columns) → ⊥
refused_texts events activities e a r why is_e is_a reads is columns given =
    let f = columns_one e a r (Ok columns) reads (rw (is_e, is_a) given) in cc (f, is)
