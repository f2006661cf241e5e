-- The history that bytes carry, where the reading of the journal's lines has come to an end of some kind.
use Rattle.std.proofs.Common.{◌≡◌, ℕ, suc, ◌+◌, ◌-◌, ◌<◌, ◌≤◌, List, [], ◌++◌, length, All, Result, Ok, Err, sym, ap, subst, ◌∙◌, inl, inr, arith}
use Rattle.std.proofs.lemmas.Bool.{cases_lt}
use Rattle.dm_text.specs.Places.{Place, at_start}
use Rattle.dm_text.specs.Judging.{Times}
use Rattle.dm_network.specs.Net.{Net}
use Rattle.dm_rows.specs.declared.messages.Entry.{Entry}
use Rattle.dm_rows.specs.Rows.{RowsValue}
use Rattle.dm_rows.specs.History.{IsLegal}
use Rattle.dm_cert.specs.PlanTexts.{largest_cost}
use Rattle.dm_cert.specs.RunTexts.{header_text, entries_text}
use Rattle.dm_follow.specs.Journals.{Halt, Header, header, TellsHeader, TellsEntry, TellsJournal}
use Rattle.dm_follow.specs.Followed.{IsEntryOf, StandsIn, Carries, IsFollowed}
use Rattle.dm_follow.specs.Inside.Reading.{HasEntered}
use Rattle.dm_follow.proofs.Chains.{goes_on, times_then, times_front}
use Rattle.dm_follow.proofs.Single.{header_once, entry_once, times_once}
use Rattle.dm_follow.proofs.Written.{header_there, header_told, entries_there, entries_told}

pub ok_same : {A F : Type 0} (a b : A) → (◌≡◌ {A = Result A F} (Ok a) (Ok b)) → a ≡ b
ok_same a b e = cc

pub ok_or_err : {A F : Type 0} {a : A} {f : F} → (◌≡◌ {A = Result A F} (Ok a) (Err f)) → ⊥
ok_or_err e = cc

module _ (net : Net) (start : RowsValue) (penalty : ℕ) where
  -- the step from one entry to the next
  abbrev step : ℕ → List Entry → Place → Result (Entry × Place) Halt → Type 0
  step feeds = TellsEntry net start feeds

  -- a history that stands is told
  pub record Told (text : List ℕ) (history : List Entry) (feeds entries : ℕ) : Type 0 where
    pub within : length history ≤ entries
    pub here : Place
    pub entered : HasEntered net start penalty feeds entries history text here

  pub stands_told : (text : List ℕ) (history : List Entry) → penalty ≤ largest_cost → (stands : StandsIn net start penalty text history) → Told text history stands.feeds stands.entries
  stands_told text history low stands =
      let head = header_there stands.version penalty stands.feeds stands.entries (at_start text) (entries_text 1 history ++ stands.rest) stands.is_version low stands.some_feed stands.few_feeds stands.few_entries stands.front in
      let all = entries_there net start stands.feeds [] history head.behind stands.rest stands.legal stands.each head.left in
      record {
        within = stands.within;
        here = all.behind;
        entered = record { behind = head.behind; told_header = head.told; told = all.told };
      }

  -- and one that is told stands
  pub entered_stands : (feeds entries : ℕ) (history : List Entry) (text : List ℕ) (here : Place) → HasEntered net start penalty feeds entries history text here → length history ≤ entries →
      IsLegal net start history → StandsIn net start penalty text history
  entered_stands feeds entries history text here entered within legal =
      let head = header_told penalty (header feeds entries) (at_start text) entered.behind entered.told_header in
      let all = entries_told net start feeds (length history) [] history entered.behind here head.few_feeds entered.told in
      let same : history ≡ all.tail = all.is in
      record {
        version = head.version;
        feeds = feeds;
        entries = entries;
        rest = here.left;
        is_version = head.is_version;
        some_feed = head.some_feed;
        few_feeds = head.few_feeds;
        few_entries = head.few_entries;
        within = within;
        each = subst (λ (xs : List Entry). All (IsEntryOf feeds) xs) (sym same) all.each;
        legal = legal;
        front = head.left ∙ ap (λ xs. header_text head.version penalty feeds entries ++ xs) (all.left ∙ ap (λ (es : List Entry). entries_text 1 es ++ here.left) (sym same));
      }

  -- ---- two histories of one text

  -- the header and the place behind it are one
  pub record SameHeader (feeds entries as_feeds as_entries : ℕ) (behind other : Place) : Type 0 where
    pub feeds_are : feeds ≡ as_feeds
    pub entries_are : entries ≡ as_entries
    pub place_is : behind ≡ other

  pub same_header : (feeds entries as_feeds as_entries : ℕ) (text : List ℕ) (behind other : Place) → TellsHeader penalty (at_start text) (Ok (header feeds entries, behind)) →
      TellsHeader penalty (at_start text) (Ok (header as_feeds as_entries, other)) → SameHeader feeds entries as_feeds as_entries behind other
  same_header feeds entries as_feeds as_entries text behind other p q =
      let pair = ok_same {F = Halt} (header feeds entries, behind) (header as_feeds as_entries, other) (header_once penalty (at_start text) (Ok (header feeds entries, behind)) (Ok (header as_feeds as_entries, other)) p q) in
      record {
        feeds_are = ap (λ (x : Header × Place). x.0.feeds) pair;
        entries_are = ap (λ (x : Header × Place). x.0.entries) pair;
        place_is = ap (λ (x : Header × Place). x.1) pair;
      }

  -- where both are told, the longer one goes on behind the shorter one
  pub record GoesFurther (feeds : ℕ) (history : List Entry) (here : Place) : Type 0 where
    pub entry : Entry
    pub behind : Place
    pub told : step feeds history here (Ok (entry, behind))

  pub further : (feeds k : ℕ) (history other : List Entry) (behind here there : Place) → Times (length history) (step feeds) [] behind (Ok (history, here)) →
      Times (length other) (step feeds) [] behind (Ok (other, there)) → length history + suc k ≡ length other → GoesFurther feeds history here
  further feeds k history other behind here there one all e =
      let front = times_front (step feeds) (length history) (suc k) (length other) [] other behind there e all in
      let same = ok_same {F = Halt} (front.mid, front.there) (history, here) (times_once net start feeds (length history) [] behind (Ok (front.mid, front.there)) (Ok (history, here)) front.one one) in
      let mid_is : front.mid ≡ history = ap (λ (x : List Entry × Place). x.0) same in
      let there_is : front.there ≡ here = ap (λ (x : List Entry × Place). x.1) same in
      let more = front.more in
      record {
        entry = more.value;
        behind = more.behind;
        told = subst (λ (xs : List Entry). step feeds xs here (Ok (more.value, more.behind))) mid_is
            (subst (λ (p : Place). step feeds front.mid p (Ok (more.value, more.behind))) there_is more.told);
      }

  -- a history that stands is no longer, where nothing goes on behind this one
  pub no_longer : (feeds entries : ℕ) (history : List Entry) (text : List ℕ) (here : Place) → HasEntered net start penalty feeds entries history text here → penalty ≤ largest_cost →
      ((entry : Entry) (behind : Place) → length history < entries → step feeds history here (Ok (entry, behind)) → ⊥) → (other : List Entry) → Carries net start penalty text other → length other ≤ length history
  no_longer feeds entries history text here entered low stops other (inl none) = let size : length other ≡ 0 = ap length none in omega (arith, size)
  no_longer feeds entries history text here entered low stops other (inr stands) =
      let told = stands_told text other low stands in
      let same = same_header stands.feeds stands.entries feeds entries text told.entered.behind entered.behind told.entered.told_header entered.told_header in
      let within = told.within in
      let entries_are = same.entries_are in
      let all : Times {F = Halt} (length other) (step feeds) [] entered.behind (Ok (other, told.here)) =
      subst (λ (p : Place). Times {F = Halt} (length other) (step feeds) [] p (Ok (other, told.here))) same.place_is
      (subst (λ (f : ℕ). Times {F = Halt} (length other) (step f) [] told.entered.behind (Ok (other, told.here))) same.feeds_are told.entered.told) in
      elim (cases_lt (length history) (length other)) [
        | inl below ↦
            let far = further feeds (length other - (length history + 1)) history other entered.behind here told.here entered.told all (omega (arith, below)) in
            absurd (stops far.entry far.behind (omega (arith, below, within, entries_are)) far.told)
        | inr above ↦ above
      ]

  -- ---- where the reading stops

  -- a header that is not told carries no history
  pub no_header : (text : List ℕ) (history : List Entry) (halt : Halt) → penalty ≤ largest_cost → history ≡ [] → TellsHeader penalty (at_start text) (Err halt) → IsFollowed net start penalty text history
  no_header text history halt low none stops = record {
    carried = inl none;
    longest = λ other carries. elim carries [
      | inl also ↦ let size : length other ≡ 0 = ap length also in omega (arith, size)
      | inr stands ↦
          let told = stands_told text other low stands in
          absurd (ok_or_err (header_once penalty (at_start text) (Ok (header stands.feeds stands.entries, told.entered.behind)) (Err halt) told.entered.told_header stops))
    ];
  }

  -- the history up to a line that is no entry of its own
  pub followed_to : (feeds entries : ℕ) (history : List Entry) (text : List ℕ) (here : Place) (halt : Halt) → HasEntered net start penalty feeds entries history text here → length history ≤ entries →
      penalty ≤ largest_cost → IsLegal net start history → step feeds history here (Err halt) → IsFollowed net start penalty text history
  followed_to feeds entries history text here halt entered within low legal stops = record {
    carried = inr (entered_stands feeds entries history text here entered within legal);
    longest = no_longer feeds entries history text here entered low
        (λ entry behind less told. ok_or_err (entry_once net start feeds history here (Ok (entry, behind)) (Err halt) told stops));
  }

  -- the history of all entries
  pub followed_all : (feeds entries : ℕ) (history : List Entry) (text : List ℕ) (here : Place) → HasEntered net start penalty feeds entries history text here → length history ≡ entries →
      penalty ≤ largest_cost → IsLegal net start history → IsFollowed net start penalty text history
  followed_all feeds entries history text here entered all low legal = record {
    carried = inr (entered_stands feeds entries history text here entered (omega (arith, all)) legal);
    longest = no_longer feeds entries history text here entered low (λ entry behind less told. omega (arith, less, all));
  }

  -- what is told of the whole journal there
  pub halts_there : (feeds entries k : ℕ) (history : List Entry) (text : List ℕ) (here : Place) (halt : Halt) → HasEntered net start penalty feeds entries history text here → length history + suc k ≡ entries →
      step feeds history here (Err halt) → TellsJournal net start penalty (at_start text) (Err halt)
  halts_there feeds entries k history text here halt entered e stops =
      goes_on (TellsHeader penalty) (λ (h : Header). Times {F = Halt} h.entries (step h.feeds) []) (at_start text) entered.behind (header feeds entries) (Err halt) entered.told_header
      (times_then (step feeds) (length history) (suc k) entries [] history entered.behind here (Err halt) e entered.told (inl stops))

  pub ends_there : (feeds entries : ℕ) (history : List Entry) (text : List ℕ) (here : Place) → HasEntered net start penalty feeds entries history text here → length history ≡ entries →
      TellsJournal net start penalty (at_start text) (Ok (history, here))
  ends_there feeds entries history text here entered e =
      goes_on (TellsHeader penalty) (λ (h : Header). Times {F = Halt} h.entries (step h.feeds) []) (at_start text) entered.behind (header feeds entries) (Ok (history, here)) entered.told_header
      (subst (λ (n : ℕ). Times {F = Halt} n (step feeds) [] entered.behind (Ok (history, here))) e entered.told)
