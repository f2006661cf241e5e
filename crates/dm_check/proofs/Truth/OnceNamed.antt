-- No entry is named by two items.
use Rattle.std.proofs.Common.{◌≡◌, ℕ, ◌+◌, ◌-◌, ◌<◌, ◌≤◌, Bool, true, false, cond, List, [], ◌∷◌, ◌++◌, length, take, get_or, Some, refl, sym, ap, subst, ◌∙◌, ◌⊎◌, inl, inr, arith, length-append}
use Rattle.std.specs.Prelude.{count_by}
use Rattle.std.proofs.lemmas.List.Sums.{sum_by-append, sum_by-cons}
use Rattle.std.proofs.lemmas.List.{length-take-le}
use Rattle.std.proofs.lemmas.Option.{slice_get-get_or, slice_get_within}
use Rattle.dm_rows.specs.declared.messages.Entry.{Entry}
use Rattle.dm_rows.specs.declared.messages.Message.TheVariants.{Now}
use Rattle.dm_cert.specs.declared.replies.LogItem.{LogItem}
use Rattle.dm_cert.specs.declared.replies.FeedLog.{FeedLog}
use Rattle.dm_cert.specs.Answers.{Setting, IsEntry, IsTrueAnswer}
use Rattle.dm_cert.specs.Logs.{kind_of, line_of, number_after, names, all_items, AreTrueAnswers, IsInOrder, IsTrueLog, AreTrueLogs}
use Rattle.dm_check.specs.FalseRecords.{AreNamed}
use Rattle.dm_records.proofs.Each.{Each, each_at}
use Rattle.dm_records.proofs.Named.{CameFrom, item_named, IsTrueBehind}

-- of some items behind a line none names the entry, or one does, and the entry came from a later line of this feed
abbrev IsOnce : Entry → ℕ → ℕ → ℕ → Type 0
IsOnce e feed line count = (count ≡ 0) ⊎ ((count ≡ 1) × (e.feed ≡ feed) × (line < e.line))

-- of some logs from this place on none names the entry, or one does, and the entry came from that feed
abbrev IsOnceFrom : Entry → ℕ → ℕ → Type 0
IsOnceFrom e place count = (count ≡ 0) ⊎ ((count ≡ 1) × (place < e.feed))

same_of_some : (x y : Entry) → Some x ≡ Some y → x ≡ y
same_of_some x y e = cc

module _ (s : Setting) (history : List Entry) (n : ℕ) (e : Entry) (is : IsEntry history n e) where
  same_line : (feed line : ℕ) → CameFrom history feed line n → (e.feed ≡ feed) × (e.line ≡ line)
  same_line feed line from =
      let same : e ≡ record { feed = feed; line = line; message = from.message } = same_of_some e _ (sym is.1 ∙ from.entry.1) in
      (ap (λ (x : Entry). x.feed) same, ap (λ (x : Entry). x.line) same)

  once_more : (feed : ℕ) (before : List LogItem) (x : LogItem) (line count : ℕ) (b : Bool) → names n x ≡ b → line < line_of x → IsTrueAnswer s history feed before x → IsOnce e feed (line_of x) count →
      IsOnce e feed line (cond b 1 0 + count)
  once_more feed before x line count true named later is_true (inl none) =
      let same = same_line feed (line_of x) (item_named s history feed before x n named is_true) in
      inr (omega (arith, none), same.0, (let l = same.1 in omega (arith, l, later)))
  once_more feed before x line count true named later is_true (inr one) =
      let same = same_line feed (line_of x) (item_named s history feed before x n named is_true) in
      absurd (let l = same.1 in let m = one.2 in omega (arith, l, m))
  once_more feed before x line count false named later is_true (inl none) = inl (omega (arith, none))
  once_more feed before x line count false named later is_true (inr one) = inr (omega (arith, one.0), one.1, (let m = one.2 in omega (arith, m, later)))

  once_in : (feed : ℕ) (before items : List LogItem) (line last : ℕ) → AreTrueAnswers s history feed before items → IsInOrder line last items → IsOnce e feed line (count_by (names n) items)
  once_in feed before [] line last answers order = inl refl
  once_in feed before (x ∷ items) line last answers order =
      let sum : count_by (names n) (x ∷ items) ≡ cond (names n x) 1 0 + count_by (names n) items = sum_by-cons (λ (a : LogItem). cond (names n a) 1 0) x items in
      subst (IsOnce e feed line) (sym sum)
      (once_more feed before x line (count_by (names n) items) (names n x) refl order.0 answers.0
      (once_in feed (before ++ x ∷ []) items (line_of x) (number_after last (kind_of x)) answers.1 order.2))

  both_logs : (place here others all : ℕ) → all ≡ here + others → IsOnce e (place + 1) 0 here → IsOnceFrom e (place + 1) others → IsOnceFrom e place all
  both_logs place here others all sum (inl none) (inl nothing) = inl (omega (arith, sum, none, nothing))
  both_logs place here others all sum (inl none) (inr one) = inr (omega (arith, sum, none, one.0), (let low = one.1 in omega (arith, low)))
  both_logs place here others all sum (inr one) (inl nothing) = inr (omega (arith, sum, one.0, nothing), (let f = one.1 in omega (arith, f)))
  both_logs place here others all sum (inr one) (inr other) = absurd (let f = one.1 in let low = other.1 in omega (arith, f, low))

  once_of : (before logs : List FeedLog) → Each (IsTrueBehind s history) before logs → IsOnceFrom e (length before) (count_by (names n) (all_items logs))
  once_of before [] each = inl refl
  once_of before (log ∷ logs) each =
      let rest = subst (λ (k : ℕ). IsOnceFrom e k (count_by (names n) (all_items logs))) (length-append before (log ∷ [])) (once_of (before ++ log ∷ []) logs each.1) in
      both_logs (length before) (count_by (names n) log.items) (count_by (names n) (all_items logs)) (count_by (names n) (all_items (log ∷ logs)))
      (sum_by-append (λ (a : LogItem). cond (names n a) 1 0) log.items (all_items logs))
      (once_in (length before + 1) [] log.items 0 0 each.0.answers each.0.in_order) rest

named_once : (s : Setting) (history : List Entry) (logs : List FeedLog) → AreNamed history logs → Each (IsTrueBehind s history) [] logs → (n : ℕ) → 0 < n → n ≤ length history →
    count_by (names n) (all_items logs) ≡ 1
named_once s history logs named each n some within =
    let d : Entry = record { feed = 0; line = 0; message = Now 0 } in
    let low : n - 1 < length history = omega arith in
    let e : Entry = get_or history (n - 1) d in
    let is : IsEntry history n e = (some, slice_get-get_or history (n - 1) d low) in
    let least = named n some within in
    elim (once_of s history n e is [] logs each) [ inl none ↦ absurd (omega (arith, none, least)) | inr one ↦ one.0 ]

-- logs that name every entry are true where each is true behind those before it
pub true_logs : (s : Setting) (history : List Entry) (logs : List FeedLog) → AreNamed history logs → Each (IsTrueBehind s history) [] logs → AreTrueLogs s history logs
true_logs s history logs named each = record {
  each = λ place log at.
      let below = slice_get_within logs place log at in
      let size : length (take place logs) ≡ place = length-take-le place logs (omega arith) in
      subst (λ (k : ℕ). IsTrueLog s history k log.items) size (each_at (IsTrueBehind s history) [] logs each place log at);
  once = named_once s history logs named each;
}
