-- The entries that items name, and a history that is entered again.
use Rattle.std.proofs.Common.{◌≡◌, inl, inr, ℕ, zero, suc, ◌+◌, ◌-◌, ◌<◌, ◌≤◌, Bool, true, false, cond, List, [], ◌∷◌, ◌++◌, length, take, fold, get_or, set, Option, Some, None, refl, sym, ap, subst, ◌∙◌, arith, append_assoc, append-nil, length-append, slice_get}
use Rattle.std.specs.Prelude.{count_by, Result, Ok as Done, Err as Undone}
use Rattle.std.proofs.lemmas.List.Elements.{All-push}
use Rattle.dm_feed.specs.Lines.{HasSortedChoice, IsSaid, IsSpelledLine}
use Rattle.dm_rows.specs.declared.messages.Message.{Message}
use Rattle.dm_rows.specs.declared.messages.Message.TheVariants as message
use Rattle.dm_cert.specs.RunTexts.{IsSpelledItem}
use Rattle.std.specs.List.{range_with_len}
use Rattle.std.specs.Option.{IsSomeAnd, option_map}
use Rattle.std.proofs.lemmas.Bool.{cases_Bool, cases_lt, cases_eq, eqb-true}
use Rattle.std.proofs.lemmas.List.{take_more, take_all, take-append-le, take-take, length-take-le, nil_from_length}
use Rattle.std.proofs.lemmas.List.FromFn.{length-range_with_len}
use Rattle.std.proofs.lemmas.List.Sums.{sum_by-append, fold_push}
use Rattle.std.proofs.lemmas.Option.{none-some, same_Some, some_pair_parts, slice_get_within, slice_get-get_or, get_or_from_slice_get}
use Rattle.std.proofs.Math.Seq.{get_or-append_seam}
use Rattle.dm_base.specs.declared.limits.TheConstants.{ENTRIES}
use Rattle.dm_network.specs.Net.{Net}
use Rattle.dm_rows.specs.Rows.{RowsValue}
use Rattle.dm_rows.specs.declared.messages.Entry.{Entry}
use Rattle.dm_rows.specs.declared.messages.Message.TheVariants.{Adopt as AdoptAll}
use Rattle.dm_rows.specs.declared.messages.Refusal.{Refusal}
use Rattle.dm_rows.specs.declared.messages.Refusal.TheVariants as refusal
use Rattle.dm_rows.specs.declared.messages.At.{At}
use Rattle.dm_rows.specs.History.{rows_at, IsLegal}
use Rattle.dm_rows.specs.Resolve.{after}
use Rattle.dm_rows.specs.Refuse.{Refuses}
use Rattle.dm_feed.specs.declared.grammar.Line.{Line}
use Rattle.dm_feed.specs.declared.grammar.Line.TheVariants as line
use Rattle.dm_tree.specs.declared.adopting.Chosen.{Chosen}
use Rattle.dm_cert.specs.declared.replies.Reply.TheVariants.{Ok, Refused, Time, Cost, Read, Planned, Solved, Old, NoPlan, Plans, Range}
use Rattle.dm_cert.specs.declared.replies.LogItem.{LogItem}
use Rattle.dm_cert.specs.declared.replies.LogItem.TheVariants.{Malformed, Answered}
use Rattle.dm_cert.specs.declared.replies.FeedLog.{FeedLog}
use Rattle.dm_cert.specs.Answers.{Setting, IsEntry, IsAdopted, IsCarried, IsTrueAnswer, IsTrueReply, latest_plan, plan_after}
use Rattle.dm_cert.specs.Logs.{AreTrueAnswers, AreTrueLogs, all_items, kind_of, names}
use Rattle.dm_cert.proofs.Numbers.{count_push, one_name}
use Rattle.dm_cert.proofs.ListsOfLogs.{get_set_same, get_set_other}
use Rattle.dm_desk.specs.Desks.{CarriesPlan, Enters, Posts, RefusesEntry, carries}
use Rattle.dm_rows.specs.Carry.{free_among}
use Rattle.dm_rows.specs.declared.messages.Decision.{Decision}
use Rattle.dm_restore.specs.declared.entries.Named.{Named}
use Rattle.dm_restore.specs.declared.entries.Named.TheVariants.{Entry as OfEntry, Carry as OfCarry}
use Rattle.dm_table.specs.Value.{TableValue}
use Rattle.dm_table_desk.specs.Tables.{setting_of, desk_of}
use Rattle.dm_restore.specs.Inside.Entering.{choices_in, choices_after, entry_of_reply, entry_in, IsAt, HasAt, KeepsEntries, HasPutOne, HasPut, Agrees, Notes, AreEntries, EntersAll, EntersOne, PostsNamed, NamesSorted, AreNamedSorted, AreSorted, entered}

-- ---- one item

-- what an item names, where it names something
abbrev NamesOne : ℕ → Option (ℕ × Named) → Type 0
NamesOne n o = (entry : Named) × (o ≡ Some (n, entry))

-- what is named is the entry of this number
abbrev IsNamed : Setting → List Entry → ℕ → Named → Type 0
IsNamed s history n named = IsEntry history n (entered s.net s.start history (n - 1) named)

of_some : (s : Setting) (history : List Entry) (m n : ℕ) (one other : Named) → IsNamed s history m one → ◌≡◌ {A = Option (ℕ × Named)} (Some (m, one)) (Some (n, other)) → IsNamed s history n other
of_some s history m n one other is e =
    let parts = some_pair_parts m n one other e in
    subst (λ (k : ℕ). IsNamed s history k other) parts.0 (subst (λ (x : Named). IsNamed s history m x) parts.1 is)

adopted_true : (s : Setting) (history : List Entry) (feed at m n : ℕ) (entry : Named) (plan : Option Chosen) → IsSomeAnd plan (λ p. IsAdopted history feed at m p) →
    option_map {U = ℕ × Named} (λ named. (m, named)) (option_map (λ choices. OfEntry (record { feed = feed; line = at; message = AdoptAll choices })) (choices_in plan)) ≡ Some (n, entry) → IsNamed s history n entry
adopted_true s history feed at m n entry None is e = absurd is
adopted_true s history feed at m n entry (Some plan) is e =
    of_some s history m n (OfEntry (record { feed = feed; line = at; message = AdoptAll plan.choices })) entry is.entry e

carried_true : (s : Setting) (history : List Entry) (feed at m n : ℕ) (entry : Named) (plan : Option Chosen) → IsSomeAnd plan (λ p. IsCarried s history feed at m p.choices) →
    option_map {U = ℕ × Named} (λ named. (m, named)) (option_map (λ choices. OfCarry feed at choices) (choices_in plan)) ≡ Some (n, entry) → IsNamed s history n entry
carried_true s history feed at m n entry None is e = absurd is
carried_true s history feed at m n entry (Some plan) is e = of_some s history m n (OfCarry feed at plan.choices) entry is e

ok_true : (s : Setting) (history : List Entry) (feed : ℕ) (before : List LogItem) (at : ℕ) (said : Line) (m n : ℕ) (entry : Named) →
    IsTrueReply s history feed before at said (Ok m) → entry_of_reply feed (choices_in (latest_plan before)) at said (Ok m) ≡ Some (n, entry) → IsNamed s history n entry
ok_true s history feed before at (line.Say message) m n entry is e = of_some s history m n (OfEntry (record { feed = feed; line = at; message = message })) entry is e
ok_true s history feed before at line.Adopt m n entry is e = adopted_true s history feed at m n entry (latest_plan before) is e
ok_true s history feed before at line.Carry m n entry is e = carried_true s history feed at m n entry (latest_plan before) is e
ok_true s history feed before at (line.Time event) m n entry is e = absurd is
ok_true s history feed before at line.CostNow m n entry is e = absurd is
ok_true s history feed before at (line.Plan budget) m n entry is e = absurd is
ok_true s history feed before at (line.Solve budget) m n entry is e = absurd is
ok_true s history feed before at line.Read m n entry is e = absurd is

no_entry : (n : ℕ) (entry : Named) → ◌≡◌ {A = Option (ℕ × Named)} None (Some (n, entry)) → ⊥
no_entry n entry e = none-some (n, entry) e

-- of an item that is true of a history, the entry is that of the history
pub entry_true : (s : Setting) (history : List Entry) (feed : ℕ) (before : List LogItem) (answered : LogItem) (n : ℕ) (entry : Named) →
    IsTrueAnswer s history feed before answered → entry_in feed (choices_in (latest_plan before)) answered ≡ Some (n, entry) → IsNamed s history n entry
entry_true s history feed before (Malformed at) n entry is e = absurd (no_entry n entry e)
entry_true s history feed before (Answered at said (Ok m)) n entry is e = ok_true s history feed before at said m n entry is e
entry_true s history feed before (Answered at said (Refused r)) n entry is e = absurd (no_entry n entry e)
entry_true s history feed before (Answered at said (Time k x)) n entry is e = absurd (no_entry n entry e)
entry_true s history feed before (Answered at said (Cost k x)) n entry is e = absurd (no_entry n entry e)
entry_true s history feed before (Answered at said (Read k)) n entry is e = absurd (no_entry n entry e)
entry_true s history feed before (Answered at said (Planned plan)) n entry is e = absurd (no_entry n entry e)
entry_true s history feed before (Answered at said (Solved plan)) n entry is e = absurd (no_entry n entry e)
entry_true s history feed before (Answered at said (Old k)) n entry is e = absurd (no_entry n entry e)
entry_true s history feed before (Answered at said NoPlan) n entry is e = absurd (no_entry n entry e)
entry_true s history feed before (Answered at said Plans) n entry is e = absurd (no_entry n entry e)
entry_true s history feed before (Answered at said (Range v)) n entry is e = absurd (no_entry n entry e)

adopted_named : (history : List Entry) (feed at m : ℕ) (plan : Option Chosen) → IsSomeAnd plan (λ p. IsAdopted history feed at m p) →
    NamesOne m (option_map {U = ℕ × Named} (λ named. (m, named)) (option_map (λ choices. OfEntry (record { feed = feed; line = at; message = AdoptAll choices })) (choices_in plan)))
adopted_named history feed at m None is = absurd is
adopted_named history feed at m (Some plan) is = (OfEntry (record { feed = feed; line = at; message = AdoptAll plan.choices }), refl)

carried_named : (s : Setting) (history : List Entry) (feed at m : ℕ) (plan : Option Chosen) → IsSomeAnd plan (λ p. IsCarried s history feed at m p.choices) →
    NamesOne m (option_map {U = ℕ × Named} (λ named. (m, named)) (option_map (λ choices. OfCarry feed at choices) (choices_in plan)))
carried_named s history feed at m None is = absurd is
carried_named s history feed at m (Some plan) is = (OfCarry feed at plan.choices, refl)

ok_named : (s : Setting) (history : List Entry) (feed : ℕ) (before : List LogItem) (at : ℕ) (said : Line) (m : ℕ) →
    IsTrueReply s history feed before at said (Ok m) → NamesOne m (entry_of_reply feed (choices_in (latest_plan before)) at said (Ok m))
ok_named s history feed before at (line.Say message) m is = (OfEntry (record { feed = feed; line = at; message = message }), refl)
ok_named s history feed before at line.Adopt m is = adopted_named history feed at m (latest_plan before) is
ok_named s history feed before at line.Carry m is = carried_named s history feed at m (latest_plan before) is
ok_named s history feed before at (line.Time event) m is = absurd is
ok_named s history feed before at line.CostNow m is = absurd is
ok_named s history feed before at (line.Plan budget) m is = absurd is
ok_named s history feed before at (line.Solve budget) m is = absurd is
ok_named s history feed before at line.Read m is = absurd is

no_name : false ≡ true → ⊥
no_name e = cc

-- of a true item that names an entry there is one
entry_named : (s : Setting) (history : List Entry) (feed n : ℕ) (before : List LogItem) (answered : LogItem) →
    IsTrueAnswer s history feed before answered → names n answered ≡ true → NamesOne n (entry_in feed (choices_in (latest_plan before)) answered)
entry_named s history feed n before (Malformed at) is named = absurd (no_name named)
entry_named s history feed n before (Answered at said (Ok m)) is named =
    let same : m ≡ n = eqb-true m n named in
    subst (λ (k : ℕ). NamesOne k (entry_of_reply feed (choices_in (latest_plan before)) at said (Ok m))) same (ok_named s history feed before at said m is)
entry_named s history feed n before (Answered at said (Refused r)) is named = absurd (no_name named)
entry_named s history feed n before (Answered at said (Time k x)) is named = absurd (no_name named)
entry_named s history feed n before (Answered at said (Cost k x)) is named = absurd (no_name named)
entry_named s history feed n before (Answered at said (Read k)) is named = absurd (no_name named)
entry_named s history feed n before (Answered at said (Planned plan)) is named = absurd (no_name named)
entry_named s history feed n before (Answered at said (Solved plan)) is named = absurd (no_name named)
entry_named s history feed n before (Answered at said (Old k)) is named = absurd (no_name named)
entry_named s history feed n before (Answered at said NoPlan) is named = absurd (no_name named)
entry_named s history feed n before (Answered at said Plans) is named = absurd (no_name named)
entry_named s history feed n before (Answered at said (Range v)) is named = absurd (no_name named)

-- ---- choices in their one order

said_sorted : (m : Message) → IsSaid m → HasSortedChoice m
said_sorted (message.DelayEvent e d) said = tt
said_sorted (message.DelayActivity a d) said = tt
said_sorted (message.Pass e t) said = tt
said_sorted (message.Recall e) said = tt
said_sorted (message.Keep a) said = tt
said_sorted (message.Drop a) said = tt
said_sorted (message.First e f) said = tt
said_sorted (message.Adopt ds) said = tt
said_sorted (message.Now t) said = tt
said_sorted (message.Cancel e) said = tt
said_sorted (message.Restore e) said = tt
said_sorted (message.Lock c) said = said
said_sorted (message.Unlock c) said = said

some_sorted : (m n : ℕ) (one other : Named) → NamesSorted one → ◌≡◌ {A = Option (ℕ × Named)} (Some (m, one)) (Some (n, other)) → NamesSorted other
some_sorted m n one other is e = subst NamesSorted (some_pair_parts m n one other e).1 is

adopt_sorted : (feed at m n : ℕ) (latest : Option (List Decision)) (named : Named) →
    option_map {U = ℕ × Named} (λ x. (m, x)) (option_map (λ choices. OfEntry (record { feed = feed; line = at; message = AdoptAll choices })) latest) ≡ Some (n, named) → NamesSorted named
adopt_sorted feed at m n None named e = absurd (none-some (n, named) e)
adopt_sorted feed at m n (Some choices) named e = some_sorted m n (OfEntry (record { feed = feed; line = at; message = AdoptAll choices })) named tt e

carry_sorted : (feed at m n : ℕ) (latest : Option (List Decision)) (named : Named) →
    option_map {U = ℕ × Named} (λ x. (m, x)) (option_map (λ choices. OfCarry feed at choices) latest) ≡ Some (n, named) → NamesSorted named
carry_sorted feed at m n None named e = absurd (none-some (n, named) e)
carry_sorted feed at m n (Some choices) named e = some_sorted m n (OfCarry feed at choices) named tt e

ok_sorted : (feed : ℕ) (latest : Option (List Decision)) (at : ℕ) (said : Line) (m n : ℕ) (named : Named) → IsSpelledLine said → entry_of_reply feed latest at said (Ok m) ≡ Some (n, named) → NamesSorted named
ok_sorted feed latest at (line.Say x) m n named said e = some_sorted m n (OfEntry (record { feed = feed; line = at; message = x })) named (said_sorted x said) e
ok_sorted feed latest at line.Adopt m n named said e = adopt_sorted feed at m n latest named e
ok_sorted feed latest at line.Carry m n named said e = carry_sorted feed at m n latest named e
ok_sorted feed latest at (line.Time event) m n named said e = absurd (none-some (n, named) e)
ok_sorted feed latest at line.CostNow m n named said e = absurd (none-some (n, named) e)
ok_sorted feed latest at (line.Plan budget) m n named said e = absurd (none-some (n, named) e)
ok_sorted feed latest at (line.Solve budget) m n named said e = absurd (none-some (n, named) e)
ok_sorted feed latest at line.Read m n named said e = absurd (none-some (n, named) e)

-- what a spelled item names is so
item_sorted : (feed : ℕ) (latest : Option (List Decision)) (answered : LogItem) (n : ℕ) (named : Named) → IsSpelledItem answered → entry_in feed latest answered ≡ Some (n, named) → NamesSorted named
item_sorted feed latest (Malformed at) n named said e = absurd (none-some (n, named) e)
item_sorted feed latest (Answered at said (Ok m)) n named is e = ok_sorted feed latest at said m n named is.0 e
item_sorted feed latest (Answered at said (Refused r)) n named is e = absurd (none-some (n, named) e)
item_sorted feed latest (Answered at said (Time k x)) n named is e = absurd (none-some (n, named) e)
item_sorted feed latest (Answered at said (Cost k x)) n named is e = absurd (none-some (n, named) e)
item_sorted feed latest (Answered at said (Read k)) n named is e = absurd (none-some (n, named) e)
item_sorted feed latest (Answered at said (Planned plan)) n named is e = absurd (none-some (n, named) e)
item_sorted feed latest (Answered at said (Solved plan)) n named is e = absurd (none-some (n, named) e)
item_sorted feed latest (Answered at said (Old k)) n named is e = absurd (none-some (n, named) e)
item_sorted feed latest (Answered at said NoPlan) n named is e = absurd (none-some (n, named) e)
item_sorted feed latest (Answered at said Plans) n named is e = absurd (none-some (n, named) e)
item_sorted feed latest (Answered at said (Range v)) n named is e = absurd (none-some (n, named) e)

put_sorted : (old now : List (Option Named)) (o : Option (ℕ × Named)) → HasPut old now o → AreNamedSorted old → ((n : ℕ) (named : Named) → o ≡ Some (n, named) → NamesSorted named) → AreNamedSorted now
put_sorted old now None put are new = subst AreNamedSorted (sym put) are
put_sorted old now (Some (number, entry)) put are new = λ place other at. elim (put.none_else place other at) [
  | inl was ↦ are place other was
  | inr here ↦ subst NamesSorted (sym here.2) (new number entry refl)
]

pub one_sorted : (feed : ℕ) (latest : Option (List Decision)) (answered : LogItem) (old now : List (Option Named)) → IsSpelledItem answered → HasPut old now (entry_in feed latest answered) → AreNamedSorted old → AreNamedSorted now
one_sorted feed latest answered old now spelled put are =
    put_sorted old now (entry_in feed latest answered) put are (λ n named e. item_sorted feed latest answered n named spelled e)

pub none_sorted : (entries : List (Option Named)) → entries ≡ [] → AreNamedSorted entries
none_sorted entries none = λ place named at. absurd (omega (arith, slice_get_within entries place (Some named) at, ap length none))

pub entered_sorted : (before now : TableValue) (named : Named) → EntersAll before now named true → NamesSorted named → AreSorted before.history → AreSorted now.history
entered_sorted before now (OfEntry entry) more is are =
    subst AreSorted (sym more) (All-push (λ (e : Entry). HasSortedChoice e.message) before.history entry are is)
entered_sorted before now (OfCarry feed at choices) more is are =
    subst AreSorted (sym more) (All-push (λ (e : Entry). HasSortedChoice e.message) before.history (entered before.network before.start before.history (length before.history) (OfCarry feed at choices)) are tt)

pub same_sorted : (before now : TableValue) → now.history ≡ before.history → AreSorted before.history → AreSorted now.history
same_sorted before now same are = subst AreSorted (sym same) are

-- ---- the items of a log

module _ (s : Setting) (history : List Entry) (feed : ℕ) (before : List LogItem) (answered : LogItem) (first old now : List (Option Named)) (few : length history ≤ ENTRIES)
    (is : IsTrueAnswer s history feed before answered) (so_far : Notes s.net s.start history before first old) where
  -- what is named among the items and the one more
  earlier : (n : ℕ) → names n answered ≡ false → 0 < count_by (names n) (before ++ answered ∷ []) → 0 < count_by (names n) before
  earlier n none some =
      let one : one_name n (kind_of answered) ≡ 0 = ap (λ (b : Bool). cond b 1 0) none in
      omega (arith, count_push n before answered, one, some)

  with_none : entry_in feed (choices_in (latest_plan before)) answered ≡ None → now ≡ old → Notes s.net s.start history (before ++ answered ∷ []) first now
  with_none none same = subst (λ (xs : List (Option Named)). Notes s.net s.start history (before ++ answered ∷ []) first xs) (sym same) (record {
    agrees = so_far.agrees;
    kept = so_far.kept;
    all = λ n some low named. elim (cases_Bool (names n answered)) [
      | inl does ↦
          let has = entry_named s history feed n before answered is does in
          absurd (no_entry n has.0 (sym none ∙ has.1))
      | inr doesnt ↦ so_far.all n some low (earlier n doesnt named)
    ];
  })

  with_one : (number : ℕ) (entry : Named) → entry_in feed (choices_in (latest_plan before)) answered ≡ Some (number, entry) → HasPutOne old now number entry → Notes s.net s.start history (before ++ answered ∷ []) first now
  with_one number entry here put =
      let stands = entry_true s history feed before answered number entry is here in
      record {
        agrees = λ place other at. elim (put.none_else place other at) [
          | inl was ↦ so_far.agrees place other was
          | inr new ↦
              subst (λ (x : Named). slice_get history place ≡ Some (entered s.net s.start history place x)) (sym new.2)
              (subst (λ (k : ℕ). slice_get history k ≡ Some (entered s.net s.start history k entry)) (sym new.0) stands.1)
        ];
        kept = λ place has. put.kept place (so_far.kept place has);
        all = λ n some low named. elim (cases_Bool (names n answered)) [
          | inl does ↦
              let has = entry_named s history feed n before answered is does in
              let same : n ≡ number = (some_pair_parts n number has.0 entry (sym has.1 ∙ here)).0 in
              subst (λ (k : ℕ). HasAt now (k - 1)) (sym same)
              (entry, put.here (omega (arith, same, some)) (omega (arith, same, low, few)))
          | inr doesnt ↦ put.kept (n - 1) (so_far.all n some low (earlier n doesnt named))
        ];
      }

  noted_as : (o : Option (ℕ × Named)) → entry_in feed (choices_in (latest_plan before)) answered ≡ o → HasPut old now o → Notes s.net s.start history (before ++ answered ∷ []) first now
  noted_as None e put = with_none e put
  noted_as (Some (number, entry)) e put = with_one number entry e put

  pub one_noted : HasPut old now (entry_in feed (choices_in (latest_plan before)) answered) → Notes s.net s.start history (before ++ answered ∷ []) first now
  one_noted put = noted_as (entry_in feed (choices_in (latest_plan before)) answered) refl put

-- an item of a true log is true, where those before it are the feed's items
pub true_there : (s : Setting) (history : List Entry) (feed : ℕ) (before items : List LogItem) (i : ℕ) (x : LogItem) → AreTrueAnswers s history feed before items →
    i < length items → x ≡ get_or items i x → IsTrueAnswer s history feed (before ++ take i items) x
true_there s history feed before [] i x are low is = absurd (omega (arith, low))
true_there s history feed before (y ∷ items) zero x are low is =
    subst (λ (b : List LogItem). IsTrueAnswer s history feed b x) (sym (append-nil before)) (subst (λ (z : LogItem). IsTrueAnswer s history feed before z) (sym is) are.0)
true_there s history feed before (y ∷ items) (suc i) x are low is =
    let less : i < length items = omega (arith, low) in
    subst (λ (b : List LogItem). IsTrueAnswer s history feed b x) (append_assoc before (y ∷ []) (take i items)) (true_there s history feed (before ++ y ∷ []) items i x are.1 less is)

pub taken_more : (items : List LogItem) (i : ℕ) (x : LogItem) → i < length items → x ≡ get_or items i x → take i items ++ x ∷ [] ≡ take (i + 1) items
taken_more items i x low is = ap (λ (y : LogItem). take i items ++ y ∷ []) is ∙ sym (take_more items i x low)

pub latest_more : (items : List LogItem) (i : ℕ) (x : LogItem) → i < length items → x ≡ get_or items i x → plan_after (latest_plan (take i items)) x ≡ latest_plan (take (i + 1) items)
latest_more items i x low is = sym (fold_push plan_after None (take i items) x) ∙ ap latest_plan (taken_more items i x low is)

-- the choices of the latest plan, item by item
pub choices_follow : (latest : Option Chosen) (x : LogItem) → choices_after (choices_in latest) x ≡ choices_in (plan_after latest x)
choices_follow latest (Malformed at) = refl
choices_follow latest (Answered at said (Ok m)) = refl
choices_follow latest (Answered at said (Refused r)) = refl
choices_follow latest (Answered at said (Time k x)) = refl
choices_follow latest (Answered at said (Cost k x)) = refl
choices_follow latest (Answered at said (Read k)) = refl
choices_follow latest (Answered at said (Planned plan)) = refl
choices_follow latest (Answered at said (Solved plan)) = refl
choices_follow latest (Answered at said (Old k)) = refl
choices_follow latest (Answered at said NoPlan) = refl
choices_follow latest (Answered at said Plans) = refl
choices_follow latest (Answered at said (Range v)) = refl

-- ---- the logs

-- the entries that items of some logs name are there
pub record AreNoted (net : Net) (start : RowsValue) (history : List Entry) (logs : List FeedLog) (entries : List (Option Named)) : Type 0 where
  pub agrees : Agrees net start history entries
  pub all : (n : ℕ) → 0 < n → n ≤ length history → 0 < count_by (names n) (all_items logs) → HasAt entries (n - 1)

pub no_log_noted : (net : Net) (start : RowsValue) (history : List Entry) (entries : List (Option Named)) → entries ≡ [] → AreNoted net start history [] entries
no_log_noted net start history entries none = record {
  agrees = λ place entry at. absurd (omega (arith, slice_get_within entries place (Some entry) at, ap length none));
  all = λ n some low named. absurd (omega (arith, named));
}

pub one_log_noted : (net : Net) (start : RowsValue) (history : List Entry) (logs : List FeedLog) (log : FeedLog) (old now : List (Option Named)) → AreNoted net start history logs old → Notes net start history log.items old now → AreNoted net start history (logs ++ log ∷ []) now
one_log_noted net start history logs log old now so_far noted = record {
  agrees = noted.agrees;
  all = λ n some low named.
      let all : all_items (logs ++ log ∷ []) ≡ all_items logs ++ log.items = all_of logs in
      let sum : count_by (names n) (all_items logs ++ log.items) ≡ count_by (names n) (all_items logs) + count_by (names n) log.items =
      sum_by-append (λ (a : LogItem). cond (names n a) 1 0) (all_items logs) log.items in
      elim (cases_lt 0 (count_by (names n) log.items)) [
        | inl here ↦ noted.all n some low here
        | inr none ↦ noted.kept (n - 1) (so_far.all n some low (omega (arith, named, ap (count_by (names n)) all, sum, none)))
      ];
}
  where
    all_of : (ls : List FeedLog) → all_items (ls ++ log ∷ []) ≡ all_items ls ++ log.items
    all_of [] = append-nil log.items
    all_of (l ∷ ls) = ap (λ (xs : List LogItem). l.items ++ xs) (all_of ls) ∙ sym (append_assoc l.items (all_items ls) log.items)

pub logs_more : (logs : List FeedLog) (i : ℕ) (x : FeedLog) → i < length logs → x ≡ get_or logs i x → take i logs ++ x ∷ [] ≡ take (i + 1) logs
logs_more logs i x low is = ap (λ (y : FeedLog). take i logs ++ y ∷ []) is ∙ sym (take_more logs i x low)

pub all_noted : (s : Setting) (history : List Entry) (logs : List FeedLog) (entries : List (Option Named)) → AreTrueLogs s history logs → AreNoted s.net s.start history logs entries → AreEntries s.net s.start history entries
all_noted s history logs entries are noted = record {
  agrees = noted.agrees;
  all = λ place low.
      let once = are.once (place + 1) (omega arith) (omega (arith, low)) in
      let has = noted.all (place + 1) (omega arith) (omega (arith, low)) (omega (arith, once)) in
      let here : place + 1 - 1 ≡ place = omega arith in
      subst (λ (k : ℕ). HasAt entries k) here has;
}

-- ---- places

pub put_there : (old mid now : List (Option Named)) (number : ℕ) (entry : Named) → KeepsEntries old mid → 0 < number → number ≤ length mid → now ≡ set mid (number - 1) (Some entry) → HasPutOne old now number entry
put_there old mid now number entry keeps some low is = record {
  here = λ p q. there;
  kept = λ place has. elim (cases_eq place (number - 1)) [
    | inl same ↦ (entry, subst (λ (k : ℕ). IsAt now k entry) (sym same) there)
    | inr other ↦ (has.0, ap (λ (xs : List (Option Named)). slice_get xs place) is ∙ (get_set_other mid (number - 1) place (Some entry) other ∙ keeps.kept place has.0 has.1))
  ];
  none_else = λ place other at. elim (cases_eq place (number - 1)) [
    | inl same ↦ inr (same, some, same_Some other entry (same_Some (Some other) (Some entry) (sym at ∙ subst (λ (k : ℕ). IsAt now k entry) (sym same) there)))
    | inr differs ↦ inl (keeps.none_else place other (sym (get_set_other mid (number - 1) place (Some entry) differs) ∙ (ap (λ (xs : List (Option Named)). slice_get xs place) (sym is) ∙ at)))
  ];
}
  where
    there : IsAt now (number - 1) entry
    there =
        ap (λ (xs : List (Option Named)). slice_get xs (number - 1)) is
        ∙ get_set_same mid (number - 1) (get_or mid (number - 1) None) (Some entry) (slice_get-get_or mid (number - 1) None (omega (arith, some, low)))

-- ---- one entry more

size_of : (before now : List ℕ) (one other n : ℕ) → now ≡ before ++ n ∷ [] → before ≡ range_with_len 1 one → now ≡ range_with_len 1 other → other ≡ one + 1
size_of before now one other n is was then =
    omega (arith, ap length is, length-append before (n ∷ []), ap length was, ap length then, length-range_with_len 1 one, length-range_with_len 1 other)

pub posted : (plans other : ℕ) (before now : TableValue) (entry : Entry) (n : ℕ) → Enters (desk_of plans before) (desk_of other now) entry n → now.history ≡ before.history ++ entry ∷ []
posted plans other before now entry n e =
    let h = before.history in
    let count : length now.history ≡ length h + 1 =
    size_of (range_with_len 1 (length h)) (range_with_len 1 (length now.history)) (length h) (length now.history) n e.mine refl refl in
    let more = e.goes_on.later in
    let one : length more.0 ≡ 1 = omega (arith, ap length more.1, length-append h more.0, count) in
    let at : n - 1 ≡ length h = omega (arith, e.number, count) in
    last_one more.0 one more.1 (subst (λ (k : ℕ). slice_get now.history k ≡ Some entry) at e.entered.1)
  where
    last_one : (more : List Entry) → length more ≡ 1 → before.history ++ more ≡ now.history → slice_get now.history (length before.history) ≡ Some entry → now.history ≡ before.history ++ entry ∷ []
    last_one [] size is at = absurd (omega (arith, size))
    last_one (x ∷ []) size is at =
        let h = before.history in
        let there : slice_get (h ++ x ∷ []) (length h) ≡ Some x =
        slice_get-get_or (h ++ x ∷ []) (length h) x (omega (arith, length-append h (x ∷ []))) ∙ ap Some (get_or-append_seam h x [] x) in
        let same : x ≡ entry = same_Some x entry (sym there ∙ (ap (λ (l : List Entry). slice_get l (length h)) is ∙ at)) in
        sym is ∙ ap (λ (y : Entry). h ++ y ∷ []) same
    last_one (x ∷ (y ∷ more)) size is at = absurd (omega (arith, size))

refused_same : (plans other : ℕ) (before now : TableValue) (entry : Entry) (at : At Refusal) → RefusesEntry (desk_of plans before) (desk_of other now) entry at → now.history ≡ before.history
refused_same plans other before now entry at r =
    let h = before.history in
    let lengths : range_with_len 1 (length now.history) ≡ range_with_len 1 (length h) = r.looks.mine in
    let count : length now.history ≡ length h = omega (arith, ap length lengths, length-range_with_len 1 (length now.history), length-range_with_len 1 (length h)) in
    let more = r.looks.goes_on.later in
    let none : more.0 ≡ [] = nil_from_length more.0 (omega (arith, ap length more.1, length-append h more.0, count)) in
    sym more.1 ∙ (ap (λ (l : List Entry). h ++ l) none ∙ append-nil h)

refused_one : (plans other : ℕ) (before now : TableValue) (entry : Entry) (at : At Refusal) → RefusesEntry (desk_of plans before) (desk_of other now) entry at → (at.why ≡ refusal.OutOfMemory → ⊥) → EntersOne before now entry false
refused_one plans other before now entry at r not_memory =
    let h = before.history in
    let lengths : range_with_len 1 (length now.history) ≡ range_with_len 1 (length h) = r.looks.mine in
    let count : length now.history ≡ length h = omega (arith, ap length lengths, length-range_with_len 1 (length now.history), length-range_with_len 1 (length h)) in
    let more = r.looks.goes_on.later in
    let none : more.0 ≡ [] = nil_from_length more.0 (omega (arith, ap length more.1, length-append h more.0, count)) in
    let same : now.history ≡ h = sym more.1 ∙ (ap (λ (l : List Entry). h ++ l) none ∙ append-nil h) in
    let setting : setting_of other now ≡ setting_of plans before = r.looks.goes_on.setting in
    elim r.why [
      | inl memory ↦ absurd (not_memory memory)
      | inr refused ↦
          let here : at.entry ≡ length h = r.here ∙ count in
          let refuses : Refuses before.network (rows_at before.network before.start h at.entry) at.entry entry.message at.why =
          subst (λ (s : Setting). Refuses s.net (rows_at s.net s.start h at.entry) at.entry entry.message at.why) setting
          (subst (λ (l : List Entry). Refuses now.network (rows_at now.network now.start l at.entry) at.entry entry.message at.why) same refused.refuses) in
          (same, (at.why, subst (λ (k : ℕ). Refuses before.network (rows_at before.network before.start h k) k entry.message at.why) here refuses))
    ]

-- ---- a plan that is carried over

rows_front : (net : Net) (start : RowsValue) (front more : List Entry) (k : ℕ) → k ≤ length front → rows_at net start (front ++ more) k ≡ rows_at net start front k
rows_front net start front more k low = ap (fold (λ (r : RowsValue) (e : Entry). after net r e.message) start) (take-append-le k front more low)

-- what choices come to at a desk, by the rows after some entries
carried_as : (plans other : ℕ) (before now : TableValue) (feed at k : ℕ) (choices : List Decision) → setting_of other now ≡ setting_of plans before →
    rows_at before.network before.start now.history k ≡ rows_at before.network before.start before.history (length before.history) →
    carries (desk_of other now) choices feed at k ≡ entered before.network before.start before.history (length before.history) (OfCarry feed at choices)
carried_as plans other before now feed at k choices setting rows =
    ap (λ (s : Setting). let e : Entry = record { feed = feed; line = at; message = AdoptAll (free_among s.net (rows_at s.net s.start now.history k) choices) } in e) setting
    ∙ ap (λ (r : RowsValue). let e : Entry = record { feed = feed; line = at; message = AdoptAll (free_among before.network r choices) } in e) rows

pub carry_posted : (plans other : ℕ) (before now : TableValue) (feed at n : ℕ) (choices : List Decision) → Enters (desk_of plans before) (desk_of other now) (carries (desk_of other now) choices feed at (n - 1)) n →
    EntersAll before now (OfCarry feed at choices) true
carry_posted plans other before now feed at n choices e =
    let h = before.history in
    let entry = carries (desk_of other now) choices feed at (n - 1) in
    let more : now.history ≡ h ++ entry ∷ [] = posted plans other before now entry n e in
    let here : n - 1 ≡ length h = omega (arith, e.number, ap length more, length-append h (entry ∷ [])) in
    let rows : rows_at before.network before.start now.history (n - 1) ≡ rows_at before.network before.start h (length h) =
    ap (λ (l : List Entry). rows_at before.network before.start l (n - 1)) more
    ∙ (ap (rows_at before.network before.start (h ++ entry ∷ [])) here ∙ rows_front before.network before.start h (entry ∷ []) (length h) (omega arith)) in
    more ∙ ap (λ (x : Entry). h ++ x ∷ []) (carried_as plans other before now feed at (n - 1) choices e.goes_on.setting rows)

pub carry_refused : (plans other : ℕ) (before now : TableValue) (feed line : ℕ) (choices : List Decision) (at : At Refusal) →
    RefusesEntry (desk_of plans before) (desk_of other now) (carries (desk_of other now) choices feed line at.entry) at → (at.why ≡ refusal.OutOfMemory → ⊥) →
    EntersAll before now (OfCarry feed line choices) false
carry_refused plans other before now feed line choices at r not_memory =
    let h = before.history in
    let refused = refused_one plans other before now (carries (desk_of other now) choices feed line at.entry) at r not_memory in
    let here : at.entry ≡ length h = omega (arith, r.here, ap length refused.0) in
    let rows : rows_at before.network before.start now.history at.entry ≡ rows_at before.network before.start h (length h) =
    ap (λ (l : List Entry). rows_at before.network before.start l at.entry) refused.0 ∙ ap (rows_at before.network before.start h) here in
    subst (λ (x : Entry). EntersOne before now x false) (carried_as plans other before now feed line at.entry choices r.looks.goes_on.setting rows) refused

-- what a desk does with what is named
pub entry_posts : (plans other : ℕ) (before now : TableValue) (entry : Entry) (result : Result ℕ (At Refusal)) → Posts (desk_of plans before) (desk_of other now) entry result →
    PostsNamed before now (OfEntry entry) result
entry_posts plans other before now entry (Done n) e = posted plans other before now entry n e
entry_posts plans other before now entry (Undone at) r = (refused_same plans other before now entry at r, λ not_memory. refused_one plans other before now entry at r not_memory)

pub carry_posts : (plans other : ℕ) (before now : TableValue) (feed line : ℕ) (choices : List Decision) (result : Result ℕ (At Refusal)) →
    CarriesPlan (desk_of plans before) (desk_of other now) choices feed line result → PostsNamed before now (OfCarry feed line choices) result
carry_posts plans other before now feed line choices (Done n) e = carry_posted plans other before now feed line n choices e
carry_posts plans other before now feed line choices (Undone at) r = (refused_same plans other before now (carries (desk_of other now) choices feed line at.entry) at r, λ not_memory. carry_refused plans other before now feed line choices at r not_memory)

pub post_setting : (plans other : ℕ) (before now : TableValue) (entry : Entry) (result : Result ℕ (At Refusal)) → Posts (desk_of plans before) (desk_of other now) entry result →
    setting_of other now ≡ setting_of plans before
post_setting plans other before now entry (Done n) e = e.goes_on.setting
post_setting plans other before now entry (Undone at) r = r.looks.goes_on.setting

pub carry_setting : (plans other : ℕ) (before now : TableValue) (feed line : ℕ) (choices : List Decision) (result : Result ℕ (At Refusal)) →
    CarriesPlan (desk_of plans before) (desk_of other now) choices feed line result → setting_of other now ≡ setting_of plans before
carry_setting plans other before now feed line choices (Done n) e = e.goes_on.setting
carry_setting plans other before now feed line choices (Undone at) r = r.looks.goes_on.setting

-- ---- a history that is entered again

-- so many entries of the history were entered
pub record EnteredSo (history : List Entry) (count : ℕ) (now : List Entry) : Type 0 where
  pub within : count ≤ length history
  pub are : now ≡ take count history

pub none_entered : (history now : List Entry) → now ≡ [] → EnteredSo history 0 now
none_entered history now is = record { within = omega arith; are = is }

module _ (net : Net) (start : RowsValue) (history : List Entry) (entries : List (Option Named)) (are : AreEntries net start history entries) (count : ℕ) (now : List Entry) (so_far : EnteredSo history count now) where
  size : length now ≡ count
  size = ap length so_far.are ∙ length-take-le count history so_far.within

  rows_there : rows_at net start now (length now) ≡ rows_at net start history count
  rows_there =
      ap (rows_at net start now) size
      ∙ ap (fold (λ (r : RowsValue) (e : Entry). after net r e.message) start) (ap (take count) so_far.are ∙ take-take count count history (omega arith))

  -- what is named is entered as it is of the history
  entered_same : (named : Named) → entered net start now (length now) named ≡ entered net start history count named
  entered_same (OfEntry entry) = refl
  entered_same (OfCarry feed at choices) =
      ap (λ (r : RowsValue). let e : Entry = record { feed = feed; line = at; message = AdoptAll (free_among net r choices) } in e) rows_there

  pub one_entered : (named : Named) (more : List Entry) → slice_get entries count ≡ Some (Some named) → more ≡ now ++ entered net start now (length now) named ∷ [] → EnteredSo history (count + 1) more
  one_entered named more at is =
      let entry = entered net start history count named in
      let there = are.agrees count named at in
      let low = slice_get_within history count entry there in
      record {
        within = omega (arith, low);
        are =
            is ∙ (ap (λ (e : Entry). now ++ e ∷ []) (entered_same named)
            ∙ (ap (λ (l : List Entry). l ++ entry ∷ []) so_far.are
            ∙ (ap (λ (e : Entry). take count history ++ e ∷ []) (sym (get_or_from_slice_get history count entry entry there)) ∙ sym (take_more history count entry low))));
      }

  whole : length history ≤ count → now ≡ history
  whole late = so_far.are ∙ take_all count history late

  -- there is no further entry
  pub at_gap : slice_get entries count ≡ Some None → now ≡ history
  at_gap at = elim (cases_lt count (length history)) [
    | inl low ↦
        let has = are.all count low in
        absurd (let inner : ◌≡◌ {A = Option Named} None (Some has.0) = same_Some None (Some has.0) (sym at ∙ has.1) in none-some has.0 inner)
    | inr late ↦ whole late
  ]

  pub at_end : length entries ≤ count → now ≡ history
  at_end late = elim (cases_lt count (length history)) [
    | inl low ↦
        let has = are.all count low in
        absurd (omega (arith, slice_get_within entries count (Some has.0) has.1, late))
    | inr past ↦ whole past
  ]

  -- an entry of a legal history is not refused
  pub never_refused : (named : Named) (why : Refusal) → IsLegal net start history → slice_get entries count ≡ Some (Some named) →
      Refuses net (rows_at net start now (length now)) (length now) (entered net start now (length now) named).message why → ⊥
  never_refused named why legal at refuses =
      let there = are.agrees count named at in
      legal.accepted count (entered net start history count named) why there
      (subst (λ (e : Entry). Refuses net (rows_at net start history count) count e.message why) (entered_same named)
      (subst (λ (r : RowsValue). Refuses net r count (entered net start now (length now) named).message why) rows_there
      (subst (λ (k : ℕ). Refuses net (rows_at net start now (length now)) k (entered net start now (length now) named).message why) size refuses)))
