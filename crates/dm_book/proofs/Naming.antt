-- Which entry an item names as accepted.
use Rattle.std.proofs.Common.{◌≡◌, ◌<◌, ◌+◌, ◌-◌, ℕ, suc, Bool, true, false, cond, List, [], ◌∷◌, ◌++◌, take, Option, Some, None, refl, ap, subst, arith, inl, inr, slice_get}
use Rattle.std.specs.Prelude.{count_by}
use Rattle.std.specs.Option.{IsSomeAnd}
use Rattle.std.proofs.lemmas.Bool.{cases_Bool, cases_lt, eqb-true}
use Rattle.std.proofs.lemmas.List.Sums.{sum_by-append}
use Rattle.std.proofs.lemmas.Option.{slice_get_within}
use Rattle.dm_rows.specs.declared.messages.Entry.{Entry}
use Rattle.dm_rows.specs.declared.messages.Message.{Message}
use Rattle.dm_rows.specs.declared.messages.Message.TheVariants.{Adopt as AdoptAll}
use Rattle.dm_feed.specs.declared.grammar.Line.{Line}
use Rattle.dm_feed.specs.declared.grammar.Line.TheVariants as line
use Rattle.dm_cert.specs.declared.replies.Reply.TheVariants.{Ok, Refused, Time, Cost, Read, Planned, Solved, Old, NoPlan, Plans, Range}
use Rattle.dm_cert.specs.declared.replies.LogItem.{LogItem}
use Rattle.dm_cert.specs.declared.replies.LogItem.TheVariants.{Malformed, Answered}
use Rattle.dm_cert.specs.declared.replies.FeedLog.{FeedLog}
use Rattle.dm_cert.specs.Answers.{Setting, IsEntry, IsTrueAnswer, IsTrueReply, latest_plan, IsAdopted, carried, IsCarried}
use Rattle.dm_cert.specs.Logs.{AreTrueAnswers, IsTrueLog, all_items, kind_of, names}
use Rattle.dm_cert.proofs.Numbers.{count-cons, one_name}
use Rattle.dm_cert.proofs.TrueLogs.{carried_alike}
use Rattle.dm_tree.specs.declared.adopting.Chosen.{Chosen}

-- both histories have an entry of this number, and it is one entry where those before it are the same
pub record IsSameEntry (n : ℕ) (one other : List Entry) : Type 0 where
  pub entry : Entry
  pub other_entry : Entry
  pub here : IsEntry one n entry
  pub there : IsEntry other n other_entry
  pub same : take (n - 1) one ≡ take (n - 1) other → entry ≡ other_entry

one_entry : (n : ℕ) (one other : List Entry) (entry : Entry) → IsEntry one n entry → IsEntry other n entry → IsSameEntry n one other
one_entry n one other entry here there = record { entry = entry; other_entry = entry; here = here; there = there; same = λ fronts. refl }

adopted_same : (one other : List Entry) (feed at n : ℕ) (plan : Option Chosen) → IsSomeAnd plan (λ p. IsAdopted one feed at n p) →
    IsSomeAnd plan (λ p. IsAdopted other feed at n p) → IsSameEntry n one other
adopted_same one other feed at n None p q = absurd p
adopted_same one other feed at n (Some plan) p q = one_entry n one other (record { feed = feed; line = at; message = AdoptAll plan.choices }) p.entry q.entry

abbrev entry_with : ℕ → ℕ → Message → Entry
entry_with feed line message = record { feed = feed; line = line; message = message }

-- which choices were carried depends on the entries before
carried_same : (s : Setting) (one other : List Entry) (feed at n : ℕ) (plan : Option Chosen) → IsSomeAnd plan (λ p. IsCarried s one feed at n p.choices) →
    IsSomeAnd plan (λ p. IsCarried s other feed at n p.choices) → IsSameEntry n one other
carried_same s one other feed at n None p q = absurd p
carried_same s one other feed at n (Some plan) p q =
    let here : Entry = record { feed = feed; line = at; message = carried s one (n - 1) plan.choices } in
    let there : Entry = record { feed = feed; line = at; message = carried s other (n - 1) plan.choices } in
    let low = slice_get_within one (n - 1) here p.1 in
    let low_too = slice_get_within other (n - 1) there q.1 in
    record {
      entry = here;
      other_entry = there;
      here = p;
      there = q;
      same = λ fronts.
          ap (λ (m : Message). entry_with feed at m)
          (carried_alike s (n - 1) (n - 1) one other refl (record { in_one = omega (arith, low); in_other = omega (arith, low_too); front = fronts }) plan.choices);
    }

ok_same : (s : Setting) (one other : List Entry) (feed : ℕ) (before : List LogItem) (at : ℕ) (said : Line) (n : ℕ) →
    IsTrueReply s one feed before at said (Ok n) → IsTrueReply s other feed before at said (Ok n) → IsSameEntry n one other
ok_same s one other feed before at (line.Say message) n p q = one_entry n one other (record { feed = feed; line = at; message = message }) p q
ok_same s one other feed before at line.Adopt n p q = adopted_same one other feed at n (latest_plan before) p q
ok_same s one other feed before at line.Carry n p q = carried_same s one other feed at n (latest_plan before) p q
ok_same s one other feed before at (line.Time event) n p q = absurd p
ok_same s one other feed before at line.CostNow n p q = absurd p
ok_same s one other feed before at (line.Plan budget) n p q = absurd p
ok_same s one other feed before at (line.Solve budget) n p q = absurd p
ok_same s one other feed before at line.Read n p q = absurd p

no_name : false ≡ true → ⊥
no_name e = cc

-- an item that is true of both histories and names an entry
item_same : (s : Setting) (one other : List Entry) (feed n : ℕ) (before : List LogItem) (answered : LogItem) →
    IsTrueAnswer s one feed before answered → IsTrueAnswer s other feed before answered → names n answered ≡ true → IsSameEntry n one other
item_same s one other feed n before (Malformed at) p q named = absurd (no_name named)
item_same s one other feed n before (Answered at said (Ok m)) p q named =
    let same : m ≡ n = eqb-true m n named in
    subst (λ (k : ℕ). IsSameEntry k one other) same (ok_same s one other feed before at said m p q)
item_same s one other feed n before (Answered at said (Refused r)) p q named = absurd (no_name named)
item_same s one other feed n before (Answered at said (Time k x)) p q named = absurd (no_name named)
item_same s one other feed n before (Answered at said (Cost k x)) p q named = absurd (no_name named)
item_same s one other feed n before (Answered at said (Read k)) p q named = absurd (no_name named)
item_same s one other feed n before (Answered at said (Planned plan)) p q named = absurd (no_name named)
item_same s one other feed n before (Answered at said (Solved plan)) p q named = absurd (no_name named)
item_same s one other feed n before (Answered at said (Old k)) p q named = absurd (no_name named)
item_same s one other feed n before (Answered at said NoPlan) p q named = absurd (no_name named)
item_same s one other feed n before (Answered at said Plans) p q named = absurd (no_name named)
item_same s one other feed n before (Answered at said (Range v)) p q named = absurd (no_name named)

-- items of one log, of which some names the entry
log_same : (s : Setting) (one other : List Entry) (feed n : ℕ) (before items : List LogItem) → AreTrueAnswers s one feed before items →
    AreTrueAnswers s other feed before items → 0 < count_by (names n) items → IsSameEntry n one other
log_same s one other feed n before [] p q some = absurd (omega (arith, some))
log_same s one other feed n before (answered ∷ items) p q some =
    elim (cases_Bool (names n answered)) [
      | inl e ↦ item_same s one other feed n before answered p.0 q.0 e
      | inr e ↦
          let sum = count-cons n answered items in
          let none : one_name n (kind_of answered) ≡ 0 = ap (λ (b : Bool). cond b 1 0) e in
          let later : 0 < count_by (names n) items = omega (arith, sum, none, some) in
          log_same s one other feed n (before ++ answered ∷ []) items p.1 q.1 later
    ]

place_moves : (from i : ℕ) → from + suc i ≡ from + 1 + i
place_moves from i = omega arith

-- logs of feeds, of which some names the entry
pub logs_same : (s : Setting) (one other : List Entry) (n from : ℕ) (logs : List FeedLog) →
    ((i : ℕ) (log : FeedLog) → slice_get logs i ≡ Some log → IsTrueLog s one (from + i) log.items) →
    ((i : ℕ) (log : FeedLog) → slice_get logs i ≡ Some log → IsTrueLog s other (from + i) log.items) →
    0 < count_by (names n) (all_items logs) → IsSameEntry n one other
logs_same s one other n from [] p q some = absurd (omega (arith, some))
logs_same s one other n from (log ∷ logs) p q some =
    let sum : count_by (names n) (log.items ++ all_items logs) ≡ count_by (names n) log.items + count_by (names n) (all_items logs) =
    sum_by-append (λ (a : LogItem). cond (names n a) 1 0) log.items (all_items logs) in
    elim (cases_lt 0 (count_by (names n) log.items)) [
      | inl here ↦
          log_same s one other (from + 0 + 1) n [] log.items (p 0 log refl).answers (q 0 log refl).answers here
      | inr none ↦
          let later : 0 < count_by (names n) (all_items logs) = omega (arith, sum, some, none) in
          logs_same s one other n (from + 1) logs
          (λ i l at. subst (λ (k : ℕ). IsTrueLog s one k l.items) (place_moves from i) (p (suc i) l at))
          (λ i l at. subst (λ (k : ℕ). IsTrueLog s other k l.items) (place_moves from i) (q (suc i) l at)) later
    ]
