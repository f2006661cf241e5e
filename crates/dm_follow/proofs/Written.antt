-- The lines of a journal in print: what is told where they stand, and how they stand where they are told.
use Rattle.std.proofs.Common.{◌≡◌, ℕ, zero, suc, ◌+◌, ◌≤◌, List, [], ◌∷◌, ◌++◌, length, fold, All, Ok, refl, sym, ap, subst, ◌∙◌, arith, append_assoc, append-nil, length-append, codes}
use Rattle.std.specs.Fmt.{decimal}
use Rattle.std.proofs.Math.Seq.{take-append_seam, take-length}
use Rattle.std.proofs.lemmas.List.Elements.{All-nil, All-cons, All-head, All-tail}
use Rattle.dm_base.specs.declared.limits.TheConstants.{FEEDS, ENTRIES}
use Rattle.dm_text.specs.Places.{Place}
use Rattle.dm_text.specs.Judging.{Times}
use Rattle.dm_network.specs.Net.{Net}
use Rattle.dm_rows.specs.declared.messages.Entry.{Entry}
use Rattle.dm_rows.specs.Rows.{RowsValue}
use Rattle.dm_rows.specs.Refuse.{Refuses}
use Rattle.dm_rows.specs.Resolve.{after}
use Rattle.dm_rows.specs.History.{rows_at, IsLegal}
use Rattle.dm_cert.specs.PlanTexts.{line_end, largest_cost, IsVersion}
use Rattle.dm_cert.specs.RunTexts.{header_text, entry_text, entries_text}
use Rattle.dm_cert.proofs.Holding.{get_at}
use Rattle.dm_cert.proofs.SpelledPlans.{HasLine, line_stands}
use Rattle.dm_cert.proofs.ToldTexts.{line_told}
use Rattle.dm_records.specs.RunLines.{Numbered, IsNumberLine, IsVersionLine, IsEntryLine}
use Rattle.dm_records.proofs.LinesSpelled.{counted, numbered, number_line, version_line, version_has_line, entry_line}
use Rattle.dm_follow.specs.declared.faults.FollowKind.{FollowKind}
use Rattle.dm_follow.specs.declared.faults.FollowKind.TheVariants as kind
use Rattle.dm_follow.specs.Journals.{Halt, Header, header, Reads, Rules, TellsHeader, IsNextEntry, TellsEntry}
use Rattle.dm_follow.specs.Followed.{IsEntryOf}

-- ---- lines that stand

abbrev next_line : Place → List ℕ → Place
next_line place rest = record { left = rest; line = place.line + 1 }

reads_there : {V : Type 0} (spells : V → List ℕ → Type 0) (text : V → List ℕ) (v : V) (place : Place) (rest : List ℕ) → HasLine spells text v → place.left ≡ text v ++ rest →
    Reads spells place (Ok (v, next_line place rest))
reads_there spells text v place rest has left = line_stands spells text v place rest has left

rules_there : {V W : Type 0} (spells : V → List ℕ → Type 0) (text : V → List ℕ) (rule : V → Type 0) (k : FollowKind) (gives : V → W) (v : V) (place : Place) (rest : List ℕ) → HasLine spells text v →
    rule v → place.left ≡ text v ++ rest → Rules spells rule k gives place (Ok (gives v, next_line place rest))
rules_there spells text rule k gives v place rest has holds left =
    record { value = v; behind = next_line place rest; told = reads_there spells text v place rest has left; then = (holds, refl, refl) }

-- ---- the header

header_regroup : (v p f e rest : List ℕ) →
    (codes "dm-run " ++ (v ++ line_end)) ++ ((codes "penalty " ++ (p ++ line_end)) ++ ((codes "feeds " ++ (f ++ line_end)) ++ ((codes "entries " ++ (e ++ line_end)) ++ rest)))
    ≡ (codes "dm-run " ++ (v ++ (line_end ++ (codes "penalty " ++ (p ++ (line_end ++ (codes "feeds " ++ (f ++ (line_end ++ (codes "entries " ++ (e ++ (line_end ++ [])))))))))))) ++ rest
header_regroup v p f e rest = simp (append_assoc, append-nil)

header_is : (v p f e : ℕ) (rest : List ℕ) →
    counted (codes "dm-run ") v ++ (counted (codes "penalty ") p ++ (counted (codes "feeds ") f ++ (counted (codes "entries ") e ++ rest))) ≡ header_text v p f e ++ rest
unfolding header_text
header_is v p f e rest = header_regroup (decimal v) (decimal p) (decimal f) (decimal e) rest

-- where the header stands, it is told, and this is left behind it
pub record HeaderThere (penalty feeds entries : ℕ) (place : Place) (rest : List ℕ) : Type 0 where
  pub behind : Place
  pub left : behind.left ≡ rest
  pub told : TellsHeader penalty place (Ok (header feeds entries, behind))

pub header_there : (version penalty feeds entries : ℕ) (place : Place) (rest : List ℕ) → IsVersion version → penalty ≤ largest_cost → 1 ≤ feeds → feeds ≤ FEEDS → entries ≤ ENTRIES →
    place.left ≡ header_text version penalty feeds entries ++ rest → HeaderThere penalty feeds entries place rest
header_there version penalty feeds entries place rest is_version low some few many left =
    let d : List ℕ = counted (codes "entries ") entries ++ rest in
    let c : List ℕ = counted (codes "feeds ") feeds ++ d in
    let b : List ℕ = counted (codes "penalty ") penalty ++ c in
    let one : Place = next_line place b in
    let two : Place = next_line one c in
    let three : Place = next_line two d in
    let four : Place = next_line three rest in
    record {
      behind = four;
      left = refl;
      told = record {
        value = version;
        behind = one;
        told = reads_there IsVersionLine (counted (codes "dm-run ")) version place b (version_has_line version is_version) (left ∙ sym (header_is version penalty feeds entries rest));
        then = record {
          value = penalty;
          behind = two;
          told = rules_there (IsNumberLine (codes "penalty ")) (counted (codes "penalty ")) (λ n. n ≡ penalty) kind.Form (λ n. n) penalty one c (number_line (codes "penalty ") penalty refl low) refl refl;
          then = record {
            value = feeds;
            behind = three;
            told = rules_there (IsNumberLine (codes "feeds ")) (counted (codes "feeds ")) (λ n. (1 ≤ n) × (n ≤ FEEDS)) kind.Form (λ n. n) feeds two d (number_line (codes "feeds ") feeds refl (omega (arith, few))) (some, few) refl;
            then = rules_there (IsNumberLine (codes "entries ")) (counted (codes "entries ")) (λ n. n ≤ ENTRIES) kind.Form (header feeds) entries three rest (number_line (codes "entries ") entries refl (omega (arith, many))) many refl;
          };
        };
      };
    }

rules_left : {V W : Type 0} (spells : V → List ℕ → Type 0) (text : V → List ℕ) → ((v : V) (line : List ℕ) → spells v line → text v ≡ line ++ line_end) →
    (rule : V → Type 0) (k : FollowKind) (gives : V → W) (place next : Place) (w : W) → (told : Rules spells rule k gives place (Ok (w, next))) → place.left ≡ text told.value ++ next.left
rules_left spells text spelled rule k gives place next w told =
    line_told spells text spelled place told.behind told.value told.told ∙ ap (λ (p : Place). text told.value ++ p.left) (sym told.then.2)

-- how a header stands that is told
pub record HeaderTold (penalty : ℕ) (h : Header) (place next : Place) : Type 0 where
  pub version : ℕ
  pub is_version : IsVersion version
  pub some_feed : 1 ≤ h.feeds
  pub few_feeds : h.feeds ≤ FEEDS
  pub few_entries : h.entries ≤ ENTRIES
  pub left : place.left ≡ header_text version penalty h.feeds h.entries ++ next.left

pub header_told : (penalty : ℕ) (h : Header) (place next : Place) → TellsHeader penalty place (Ok (h, next)) → HeaderTold penalty h place next
header_told penalty h place next told =
    let p = told.then in
    let f = p.then in
    let e = f.then in
    let v : ℕ = told.value in
    let one = line_told IsVersionLine (counted (codes "dm-run ")) version_line place told.behind v told.told in
    let two = rules_left (IsNumberLine (codes "penalty ")) (counted (codes "penalty ")) (numbered (codes "penalty ")) (λ n. n ≡ penalty) kind.Form (λ n. n) told.behind p.behind p.value p.told in
    let three = rules_left (IsNumberLine (codes "feeds ")) (counted (codes "feeds ")) (numbered (codes "feeds ")) (λ n. (1 ≤ n) × (n ≤ FEEDS)) kind.Form (λ n. n) p.behind f.behind f.value f.told in
    let four = rules_left (IsNumberLine (codes "entries ")) (counted (codes "entries ")) (numbered (codes "entries ")) (λ n. n ≤ ENTRIES) kind.Form (header f.value) f.behind next h e in
    let same_penalty : p.told.value ≡ penalty = p.told.then.0 in
    let feeds_is : h.feeds ≡ f.value = ap (λ (x : Header). x.feeds) e.then.1 in
    let entries_is : h.entries ≡ e.value = ap (λ (x : Header). x.entries) e.then.1 in
    let feeds_said : f.value ≡ f.told.value = f.told.then.1 in
    let low = f.told.then.0.0 in
    let top = f.told.then.0.1 in
    let many = e.then.0 in
    record {
      version = v;
      is_version = told.told.spelled.is_version;
      some_feed = omega (arith, low, feeds_is, feeds_said);
      few_feeds = omega (arith, top, feeds_is, feeds_said);
      few_entries = omega (arith, many, entries_is);
      left =
          one
          ∙ (ap (λ xs. counted (codes "dm-run ") v ++ xs)
          (two ∙ (ap (λ n. counted (codes "penalty ") n ++ p.behind.left) same_penalty
          ∙ ap (λ xs. counted (codes "penalty ") penalty ++ xs)
          (three ∙ (ap (λ n. counted (codes "feeds ") n ++ f.behind.left) (sym (feeds_is ∙ feeds_said))
          ∙ ap (λ xs. counted (codes "feeds ") h.feeds ++ xs)
          (four ∙ ap (λ n. counted (codes "entries ") n ++ next.left) (sym entries_is))))))
          ∙ header_is v penalty h.feeds h.entries next.left);
    }

-- ---- entries

-- the rows after the entries before one are the same, whatever stands behind them
pub rows_before : (net : Net) (start : RowsValue) (before later : List Entry) → rows_at net start (before ++ later) (length before) ≡ rows_at net start before (length before)
rows_before net start before later =
    ap (λ es. fold (λ rows (entry : Entry). after net rows entry.message) start es) (take-append_seam before later ∙ sym (take-length before))

-- where the entries stand that are left, they are told
pub record EntriesThere (net : Net) (start : RowsValue) (feeds : ℕ) (before tail : List Entry) (place : Place) (rest : List ℕ) : Type 0 where
  pub behind : Place
  pub left : behind.left ≡ rest
  pub told : Times {F = Halt} (length tail) (TellsEntry net start feeds) before place (Ok (before ++ tail, behind))

pub entries_there : (net : Net) (start : RowsValue) (feeds : ℕ) (before tail : List Entry) (place : Place) (rest : List ℕ) → IsLegal net start (before ++ tail) → All (IsEntryOf feeds) tail →
    place.left ≡ entries_text (length before + 1) tail ++ rest → EntriesThere net start feeds before tail place rest
entries_there net start feeds before [] place rest legal each left =
    record { behind = place; left = left; told = (append-nil before, refl) }
entries_there net start feeds before (e ∷ tail) place rest legal each left =
    let here = All-head (IsEntryOf feeds) e tail each in
    let n : ℕ = length before + 1 in
    let more : List ℕ = entries_text (n + 1) tail ++ rest in
    let said : Numbered = record { number = n; entry = e } in
    let few = legal.size in
    let size = length-append before (e ∷ tail) in
    let next_is : IsNextEntry net start feeds before said = record {
      number = refl;
      feed = here.feed;
      line = here.line;
      accepted = λ r refuses. legal.accepted (length before) e r (get_at before e tail)
          (subst (λ (rows : RowsValue). Refuses net rows (length before) e.message r) (sym (rows_before net start before (e ∷ tail))) refuses);
    } in
    let one = rules_there IsEntryLine (λ (s : Numbered). entry_text s.number s.entry) (IsNextEntry net start feeds before) kind.Entry (λ (s : Numbered). s.entry) said place more
    (entry_line n e (omega (arith, few, size)) here.fits here.sorted) next_is (left ∙ append_assoc (entry_text n e) (entries_text (n + 1) tail) rest) in
    let together : (before ++ e ∷ []) ++ tail ≡ before ++ e ∷ tail = append_assoc before (e ∷ []) tail in
    let two = entries_there net start feeds (before ++ e ∷ []) tail (next_line place more) rest (subst (IsLegal net start) (sym together) legal) (All-tail (IsEntryOf feeds) e tail each)
    (ap (λ k. entries_text k tail ++ rest) (ap (λ k. k + 1) (sym (length-append before (e ∷ []))))) in
    record {
      behind = two.behind;
      left = two.left;
      told = record {
        value = e;
        behind = next_line place more;
        told = one;
        then = subst (λ (all : List Entry). Times {F = Halt} (length tail) (TellsEntry net start feeds) (before ++ e ∷ []) (next_line place more) (Ok (all, two.behind))) together two.told;
      };
    }

-- how entries stand that are told
pub record EntriesTold (feeds n : ℕ) (before all : List Entry) (place next : Place) : Type 0 where
  pub tail : List Entry
  pub is : all ≡ before ++ tail
  pub left : place.left ≡ entries_text (length before + 1) tail ++ next.left
  pub each : All (IsEntryOf feeds) tail

pub entries_told : (net : Net) (start : RowsValue) (feeds n : ℕ) (before all : List Entry) (place next : Place) → feeds ≤ FEEDS → Times {F = Halt} n (TellsEntry net start feeds) before place (Ok (all, next)) →
    EntriesTold feeds n before all place next
entries_told net start feeds zero before all place next few told = record {
  tail = [];
  is = told.0 ∙ sym (append-nil before);
  left = ap (λ (p : Place). p.left) (sym told.1);
  each = All-nil (IsEntryOf feeds);
}
entries_told net start feeds (suc n) before all place next few told =
    let e : Entry = told.value in
    let one = told.told in
    let said : Numbered = one.value in
    let rest = entries_told net start feeds n (before ++ e ∷ []) all told.behind next few told.then in
    let k : ℕ = length before + 1 in
    let same : e ≡ said.entry = one.then.1 in
    let text = rules_left IsEntryLine (λ (s : Numbered). entry_text s.number s.entry) (λ s line is. is.spelled) (IsNextEntry net start feeds before) kind.Entry (λ (s : Numbered). s.entry) place told.behind e one
    ∙ (ap (λ m. entry_text m said.entry ++ told.behind.left) one.then.0.number ∙ ap (λ x. entry_text k x ++ told.behind.left) (sym same)) in
    let count : length (before ++ e ∷ []) ≡ k = length-append before (e ∷ []) in
    let feed = one.then.0.feed in
    let here : IsEntryOf feeds said.entry = record {
      feed = feed;
      line = one.then.0.line;
      fits = (omega (arith, feed, few), one.told.spelled.of_line, one.told.spelled.message);
      sorted = one.told.spelled.sorted;
    } in
    record {
      tail = e ∷ rest.tail;
      is = rest.is ∙ append_assoc before (e ∷ []) rest.tail;
      left = text ∙ (ap (λ xs. entry_text k e ++ xs) (rest.left ∙ ap (λ m. entries_text (m + 1) rest.tail ++ next.left) count)
          ∙ sym (append_assoc (entry_text k e) (entries_text (k + 1) rest.tail) next.left));
      each = All-cons (IsEntryOf feeds) e rest.tail (subst (IsEntryOf feeds) (sym same) here) rest.each;
    }
