-- How the lines of a header and of an entry stand where they are spelled.
use Rattle.std.proofs.Common.{◌≡◌, ℕ, ◌≤◌, List, [], ◌++◌, refl, sym, ap, ◌∙◌, inl, inr, arith, append_assoc, append-nil, codes}
use Rattle.std.specs.Fmt.{decimal}
use Rattle.dm_rows.specs.declared.messages.Entry.{Entry}
use Rattle.dm_feed.specs.Parts.{largest_id}
use Rattle.dm_feed.specs.Lines.{HasSortedChoice, spelling_of_message}
use Rattle.dm_cert.specs.PlanTexts.{line_end, largest_cost, IsVersion}
use Rattle.dm_cert.specs.RunTexts.{entry_text, FitsEntry}
use Rattle.dm_cert.proofs.LineFeeds.{NoFeed, has_no_feed, no_feed_append, no_feed_decimal}
use Rattle.dm_cert.proofs.SpelledPlans.{HasLine}
use Rattle.dm_records.specs.RunLines.{IsNumberLine, IsVersionLine, IsEntryLine}
use Rattle.dm_records.proofs.Splitting.{message_no_feed}

-- the text of a line of a number
abbrev pub counted : List ℕ → ℕ → List ℕ
counted words n = words ++ (decimal n ++ line_end)

pub numbered : (words : List ℕ) (k : ℕ) (line : List ℕ) → IsNumberLine words k line → counted words k ≡ line ++ line_end
numbered words k line is =
    ap (λ xs. words ++ xs) (ap (λ ys. ys ++ line_end) (sym (append-nil (decimal k)))) ∙ (sym (append_assoc words (decimal k ++ []) line_end) ∙ ap (λ xs. xs ++ line_end) is.spelled)

pub version_line : (v : ℕ) (line : List ℕ) → IsVersionLine v line → counted (codes "dm-run ") v ≡ line ++ line_end
version_line v line is =
    ap (λ xs. codes "dm-run " ++ xs) (ap (λ ys. ys ++ line_end) (sym (append-nil (decimal v)))) ∙ (sym (append_assoc (codes "dm-run ") (decimal v ++ []) line_end) ∙ ap (λ xs. xs ++ line_end) is.spelled)

-- a number and then a text
pub number_then : (n : ℕ) (rest : List ℕ) → n ≤ largest_cost → NoFeed rest → NoFeed (decimal n ++ rest)
number_then n rest fits none = no_feed_append (decimal n) rest (no_feed_decimal n (omega arith)) none

pub number_line : (words : List ℕ) (n : ℕ) → NoFeed words → n ≤ largest_cost → HasLine (IsNumberLine words) (counted words) n
number_line words n none fits =
    let is : IsNumberLine words n (words ++ (decimal n ++ [])) = record { spelled = refl; fits = fits } in
    record {
      line = words ++ (decimal n ++ []);
      text_is = numbered words n (words ++ (decimal n ++ [])) is;
      one_line = has_no_feed (words ++ (decimal n ++ [])) (no_feed_append words (decimal n ++ []) none (number_then n [] fits refl));
      spelled = is;
    }

version_low : (version : ℕ) → IsVersion version → version ≤ 2
version_low version (inl one) = omega arith
version_low version (inr two) = omega arith

pub version_has_line : (version : ℕ) → IsVersion version → HasLine IsVersionLine (counted (codes "dm-run ")) version
version_has_line version is_version =
    let words : List ℕ = codes "dm-run " in
    let is : IsVersionLine version (words ++ (decimal version ++ [])) = record { spelled = refl; is_version = is_version } in
    let low = version_low version is_version in
    record {
      line = words ++ (decimal version ++ []);
      text_is = version_line version (words ++ (decimal version ++ [])) is;
      one_line = has_no_feed (words ++ (decimal version ++ [])) (no_feed_append words (decimal version ++ []) refl (number_then version [] (omega arith) refl));
      spelled = is;
    }

-- ---- entries

abbrev entry_bytes : ℕ → Entry → List ℕ
entry_bytes n e =
    codes "entry " ++ (decimal n ++ (codes " feed " ++ (decimal e.feed ++ (codes " line " ++ (decimal e.line ++ (codes " " ++ spelling_of_message e.message))))))

entry_is : (n : ℕ) (e : Entry) → entry_text n e ≡ entry_bytes n e ++ line_end
unfolding entry_text
entry_is n e = sym (simp (append_assoc, append-nil))

entry_no_feed : (n : ℕ) (e : Entry) → n ≤ largest_id → FitsEntry e → NoFeed (entry_bytes n e)
entry_no_feed n e low fits =
    let message : List ℕ = codes " " ++ spelling_of_message e.message in
    let line : List ℕ = codes " line " ++ (decimal e.line ++ message) in
    let feed : List ℕ = codes " feed " ++ (decimal e.feed ++ line) in
    let a : NoFeed message = no_feed_append (codes " ") (spelling_of_message e.message) refl (message_no_feed e.message fits.2) in
    let b : NoFeed line = no_feed_append (codes " line ") (decimal e.line ++ message) refl (number_then e.line message (let l = fits.1 in omega arith) a) in
    let c : NoFeed feed = no_feed_append (codes " feed ") (decimal e.feed ++ line) refl (number_then e.feed line (let f = fits.0 in omega arith) b) in
    no_feed_append (codes "entry ") (decimal n ++ feed) refl (number_then n feed (omega arith) c)

pub entry_line : (n : ℕ) (e : Entry) → n ≤ largest_id → FitsEntry e → HasSortedChoice e.message → HasLine IsEntryLine (λ said. entry_text said.number said.entry) (record { number = n; entry = e })
entry_line n e low fits sorted = record {
  line = entry_bytes n e;
  text_is = entry_is n e;
  one_line = has_no_feed (entry_bytes n e) (entry_no_feed n e low fits);
  spelled = record { spelled = entry_is n e; number = low; feed = (let f = fits.0 in omega arith); of_line = fits.1; message = fits.2; sorted = sorted };
}
