-- What holds of a state of one dispatcher: its history is legal, and its logs are true and of first due items.
use Rattle.std.proofs.Common.{◌≡◌, ℕ, zero, suc, ◌+◌, ◌<◌, ◌≤◌, List, [], ◌∷◌, ◌++◌, length, map, Some, None, refl, sym, ap, subst, ◌∙◌, append_assoc, arith, inl, inr, slice_get, fold}
use Rattle.std.proofs.lemmas.Bool.{cases_lt}
use Rattle.std.proofs.lemmas.List.{map-append, length-append, length-map, take-append-le}
use Rattle.std.proofs.lemmas.Option.{slice_get_within}
use Rattle.dm_base.specs.declared.limits.TheConstants.{ENTRIES}
use Rattle.dm_network.specs.Net.{Net}
use Rattle.dm_rows.specs.declared.messages.Entry.{Entry}
use Rattle.dm_rows.specs.declared.messages.Refusal.{Refusal}
use Rattle.dm_rows.specs.Rows.{RowsValue}
use Rattle.dm_rows.specs.Resolve.{after}
use Rattle.dm_rows.specs.Refuse.{Refuses}
use Rattle.dm_rows.specs.History.{rows_at, IsLegal}
use Rattle.dm_feed.specs.DueItems.{DueItem}
use Rattle.dm_cert.specs.declared.replies.LogItem.{LogItem}
use Rattle.dm_cert.specs.declared.replies.LogItem.TheVariants.{Malformed, Answered}
use Rattle.dm_cert.specs.declared.replies.Reply.{Reply}
use Rattle.dm_cert.specs.declared.replies.Reply.TheVariants.{Ok, Refused, Time, Cost, Read, Planned, Solved, Old, NoPlan, Plans, Range}
use Rattle.dm_cert.specs.Answers.{Setting}
use Rattle.dm_cert.specs.Logs.{entered, kind_of_reply, line_of, due_of, IsTrueLog}
use Rattle.dm_cert.specs.CoreRun.{line_due, LinesRise, AnswerFirst}
use Rattle.dm_cert.proofs.Numbers.{last_line}
use Rattle.dm_cert.proofs.ListsOfLogs.{total_names}

-- the history and the items of each feed
pub record Holds (s : Setting) (dues : List (List DueItem)) (h : List Entry) (logs : List (List LogItem)) : Type 0 where
  pub legal : IsLegal s.net s.start h
  pub each : (place : ℕ) (items : List LogItem) → slice_get logs place ≡ Some items → IsTrueLog s h place items
  pub once : (n : ℕ) → 0 < n → n ≤ length h → total_names n logs ≡ 1
  pub as_many : length logs ≡ length dues
  pub first : (place : ℕ) (due : List DueItem) (items : List LogItem) → slice_get dues place ≡ Some due → slice_get logs place ≡ Some items → AnswerFirst due items

-- what the kind of a reply says of an entry's number
pub ok_of : (reply : Reply) (n : ℕ) → kind_of_reply reply ≡ entered n → reply ≡ Ok n
ok_of (Ok m) n e = cc
ok_of (Refused at) n e = absurd (cc)
ok_of (Time m x) n e = absurd (cc)
ok_of (Cost m c) n e = absurd (cc)
ok_of (Read m) n e = absurd (cc)
ok_of (Planned p) n e = absurd (cc)
ok_of (Solved p) n e = absurd (cc)
ok_of (Old m) n e = absurd (cc)
ok_of NoPlan n e = absurd (cc)
ok_of Plans n e = absurd (cc)
ok_of (Range v) n e = absurd (cc)

-- ---- lists with one element more

pub get_front : {X : Type 0} (xs : List X) (x : X) (i : ℕ) → i < length xs → slice_get (xs ++ x ∷ []) i ≡ slice_get xs i
get_front [] x i lt = absurd (omega arith)
get_front (y ∷ ys) x zero lt = refl
get_front (y ∷ ys) x (suc i) lt = get_front ys x i (omega arith)

pub get_at : {X : Type 0} (xs : List X) (x : X) (ys : List X) → slice_get (xs ++ x ∷ ys) (length xs) ≡ Some x
get_at [] x ys = refl
get_at (y ∷ xs) x ys = get_at xs x ys

get_behind : {X : Type 0} (xs ys : List X) → slice_get (xs ++ ys) (length xs) ≡ slice_get ys 0
get_behind [] ys = refl
get_behind (x ∷ xs) ys = get_behind xs ys

-- ---- first due items

due_push : (items : List LogItem) (x : LogItem) (others : List DueItem) → map due_of (items ++ x ∷ []) ++ others ≡ map due_of items ++ (due_of x ∷ others)
due_push items x others = ap (λ (xs : List DueItem). xs ++ others) (map-append due_of items (x ∷ [])) ∙ append_assoc (map due_of items) (due_of x ∷ []) others

pub first_front : (due : List DueItem) (items : List LogItem) (x : LogItem) → AnswerFirst due (items ++ x ∷ []) → AnswerFirst due items
first_front due items x a = record { others = due_of x ∷ a.others; in_order = a.in_order ∙ due_push items x a.others }

pub first_next : (due : List DueItem) (items : List LogItem) (x : LogItem) → AnswerFirst due (items ++ x ∷ []) → slice_get due (length items) ≡ Some (due_of x)
first_next due items x a =
    ap (λ (xs : List DueItem). slice_get xs (length items)) (a.in_order ∙ due_push items x a.others)
    ∙ (ap (slice_get (map due_of items ++ (due_of x ∷ a.others))) (sym (length-map items due_of)) ∙ get_at (map due_of items) (due_of x) a.others)

pub first_push : (due : List DueItem) (items : List LogItem) (x : LogItem) → AnswerFirst due items → slice_get due (length items) ≡ Some (due_of x) → AnswerFirst due (items ++ x ∷ [])
first_push due items x a next = from a.others a.in_order
  where
    from : (others : List DueItem) → due ≡ map due_of items ++ others → AnswerFirst due (items ++ x ∷ [])
    from [] e =
        let none : slice_get due (length items) ≡ None = ap (λ (xs : List DueItem). slice_get xs (length items)) e
        ∙ (ap (slice_get (map due_of items ++ [])) (sym (length-map items due_of)) ∙ get_behind (map due_of items) []) in
        absurd (cc)
    from (d ∷ others) e =
        let there : slice_get due (length items) ≡ Some d = ap (λ (xs : List DueItem). slice_get xs (length items)) e
        ∙ (ap (slice_get (map due_of items ++ (d ∷ others))) (sym (length-map items due_of)) ∙ get_behind (map due_of items) (d ∷ others)) in
        let same : d ≡ due_of x = cc in
        record { others = others; in_order = e ∙ (ap (λ (y : DueItem). map due_of items ++ (y ∷ others)) same ∙ sym (due_push items x others)) }

line_due-due_of : (x : LogItem) → line_due (due_of x) ≡ line_of x
line_due-due_of (Malformed line) = refl
line_due-due_of (Answered line said reply) = refl

line_rises : (line : ℕ) (items : List LogItem) (x : LogItem) (others : List DueItem) → LinesRise line (map due_of items ++ (due_of x ∷ others)) → last_line line items < line_of x
line_rises line [] x others r = let e = line_due-due_of x in let lt : line < line_due (due_of x) = r.0 in omega arith
line_rises line (y ∷ items) x others r =
    line_rises (line_of y) items x others (subst (λ (n : ℕ). LinesRise n (map due_of items ++ (due_of x ∷ others))) (line_due-due_of y) r.1)

-- the line of the item that comes next is above the last
pub next_rises : (due : List DueItem) (items : List LogItem) (x : LogItem) → LinesRise 0 due → AnswerFirst due (items ++ x ∷ []) → last_line 0 items < line_of x
next_rises due items x r a = line_rises 0 items x a.others (subst (LinesRise 0) (a.in_order ∙ due_push items x a.others) r)

-- ---- legal histories

pub rows_front : (net : Net) (start : RowsValue) (h : List Entry) (e : Entry) (n : ℕ) → n ≤ length h → rows_at net start (h ++ e ∷ []) n ≡ rows_at net start h n
rows_front net start h e n le = ap (fold (λ (rows : RowsValue) (entry : Entry). after net rows entry.message) start) (take-append-le n h (e ∷ []) le)

pub legal_front : (net : Net) (start : RowsValue) (h : List Entry) (e : Entry) → IsLegal net start (h ++ e ∷ []) → IsLegal net start h
legal_front net start h e legal =
    record {
      size = omega (arith, legal.size, length-append h (e ∷ []));
      accepted = λ n entry r at refused.
          let within : n < length h = slice_get_within h n entry at in
          legal.accepted n entry r (get_front h e n within ∙ at)
          (subst (λ (rows : RowsValue). Refuses net rows n entry.message r) (sym (rows_front net start h e n (omega arith))) refused);
    }

-- the last message was refused for nothing
pub legal_last : (net : Net) (start : RowsValue) (h : List Entry) (e : Entry) → IsLegal net start (h ++ e ∷ []) → (r : Refusal) → Refuses net (rows_at net start h (length h)) (length h) e.message r → ⊥
legal_last net start h e legal r refused =
    legal.accepted (length h) e r (get_at h e [])
    (subst (λ (rows : RowsValue). Refuses net rows (length h) e.message r) (sym (rows_front net start h e (length h) (omega arith))) refused)

pub legal_push : (net : Net) (start : RowsValue) (h : List Entry) (e : Entry) → IsLegal net start h → length h < ENTRIES
    → ((r : Refusal) → Refuses net (rows_at net start h (length h)) (length h) e.message r → ⊥) → IsLegal net start (h ++ e ∷ [])
legal_push net start h e legal room passes =
    let long : length (h ++ e ∷ []) ≡ length h + 1 = length-append h (e ∷ []) in
    record {
      size = omega arith;
      accepted = λ n entry r at refused.
          elim (cases_lt n (length h)) [
            | inl lt ↦
                legal.accepted n entry r (sym (get_front h e n lt) ∙ at)
                (subst (λ (rows : RowsValue). Refuses net rows n entry.message r) (rows_front net start h e n (omega arith)) refused)
            | inr le ↦
                let within : n < length (h ++ e ∷ []) = slice_get_within (h ++ e ∷ []) n entry at in
                let here : n ≡ length h = omega arith in
                let there : slice_get (h ++ e ∷ []) n ≡ Some e = ap (slice_get (h ++ e ∷ [])) here ∙ get_at h e [] in
                let same : entry ≡ e = cc in
                let at_end : Refuses net (rows_at net start (h ++ e ∷ []) (length h)) (length h) entry.message r =
                subst (λ (k : ℕ). Refuses net (rows_at net start (h ++ e ∷ []) k) k entry.message r) here refused in
                let of_e : Refuses net (rows_at net start (h ++ e ∷ []) (length h)) (length h) e.message r =
                subst (λ (y : Entry). Refuses net (rows_at net start (h ++ e ∷ []) (length h)) (length h) y.message r) same at_end in
                passes r (subst (λ (rows : RowsValue). Refuses net rows (length h) e.message r) (rows_front net start h e (length h) (omega arith)) of_e)
          ];
    }
