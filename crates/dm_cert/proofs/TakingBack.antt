-- From true logs to a schedule: the item that may have been answered last is taken back.
use Rattle.std.proofs.Common.{◌≡◌, ℕ, zero, suc, ◌+◌, ◌-◌, ◌<◌, ◌≤◌, ◌⊎◌, List, [], ◌∷◌, ◌++◌, length, set, get_or, Option, Some, None, refl, sym, ap, subst, ◌∙◌, arith, inl, inr, slice_get}
use Rattle.std.specs.Prelude.{count_by}
use Rattle.std.specs.Option.{IsSomeAnd}
use Rattle.std.proofs.lemmas.Bool.{cases_eq}
use Rattle.std.proofs.lemmas.List.{length-append, length-set, same_from_push}
use Rattle.std.proofs.lemmas.Option.{slice_get_within, slice_get-get_or}
use Rattle.dm_base.specs.declared.limits.TheConstants.{ENTRIES}
use Rattle.dm_rows.specs.declared.messages.Entry.{Entry}
use Rattle.dm_rows.specs.declared.messages.Message.{Message}
use Rattle.dm_rows.specs.declared.messages.Message.TheVariants.{Adopt as AdoptAll}
use Rattle.dm_rows.specs.declared.messages.Refusal.{Refusal}
use Rattle.dm_rows.specs.Refuse.{Refuses}
use Rattle.dm_rows.specs.History.{IsLegal}
use Rattle.dm_feed.specs.declared.grammar.Line.{Line}
use Rattle.dm_feed.specs.declared.grammar.Line.TheVariants.{Say, Time as AskTime, CostNow as AskCost, Plan as AskPlan, Solve as AskSolve, Adopt as AskAdopt, Carry as AskCarry, Read as AskRead}
use Rattle.dm_feed.specs.DueItems.{DueItem}
use Rattle.dm_tree.specs.declared.adopting.Chosen.{Chosen}
use Rattle.dm_cert.specs.declared.replies.Reply.{Reply}
use Rattle.dm_cert.specs.declared.replies.Reply.TheVariants.{Ok}
use Rattle.dm_cert.specs.declared.replies.LogItem.{LogItem}
use Rattle.dm_cert.specs.declared.replies.LogItem.TheVariants.{Malformed, Answered}
use Rattle.dm_cert.specs.Answers.{Setting, rows_after, IsEntry, latest_plan, IsAdopted, carried, IsCarried, IsTrueReply, IsTrueAnswer}
use Rattle.dm_cert.specs.Logs.{Kind, free, told, entered, kind_of, number_after, Follows, names, IsTrueLog}
use Rattle.dm_cert.specs.CoreRun.{AnswerFirst, IsPresent, EntersNext, AnswersNow, CoreState, CoreStep, CoreRun, nothing_yet, IsReached}
use Rattle.dm_cert.proofs.Numbers.{IsWithin, last_number, last_number_push, order_front, order_last, one_name, count_push, names_itself, names_no_other, named_no_more}
use Rattle.dm_cert.proofs.TrueLogs.{alike_shorter, carried_alike, answer_within, answers_alike, answers_front, answers_last, numbers_within}
use Rattle.dm_cert.proofs.ListsOfLogs.{get_set_same, get_set_other, set_back, sum_set, sum_two, HasPart, has_part, total_names, size_of, all_empty, none_named}
use Rattle.dm_cert.proofs.Holding.{Holds, get_at, first_front, first_next, legal_front, legal_last, ok_of}

-- ---- last items

record HasLast {X : Type 0} (xs : List X) : Type 0 where
  front : List X
  last : X
  is : xs ≡ front ++ last ∷ []

last_of : {X : Type 0} (xs : List X) → (xs ≡ []) ⊎ HasLast xs
last_of [] = inl refl
last_of (x ∷ xs) =
    elim (last_of xs) [
      | inl none ↦ inr (record { front = []; last = x; is = ap (λ ys. x ∷ ys) none })
      | inr l ↦ inr (record { front = x ∷ l.front; last = l.last; is = ap (λ ys. x ∷ ys) l.is })
    ]

not_empty : {X : Type 0} (front : List X) (x : X) → [] ≡ front ++ x ∷ [] → ⊥
not_empty [] x e = cc
not_empty (y ∷ front) x e = cc

-- nothing is told, or it is told at this number
abbrev IsAt : ℕ → Kind → Type 0
IsAt n free = Unit {0}
IsAt n (told m) = m ≡ n
IsAt n (entered m) = ⊥

is_at_or_not : (n : ℕ) (k : Kind) → IsAt n k ⊎ (IsAt n k → ⊥)
is_at_or_not n free = inl tt
is_at_or_not n (told m) = cases_eq m n
is_at_or_not n (entered m) = inr (λ h. h)

-- the items end with one that could be answered last at this number of entries
record EndsAt (n : ℕ) (items : List LogItem) : Type 0 where
  front : List LogItem
  last : LogItem
  is : items ≡ front ++ last ∷ []
  is_at : IsAt n (kind_of last)

abbrev NoEndAt : ℕ → List LogItem → Type 0
NoEndAt n items = (front : List LogItem) (x : LogItem) → items ≡ front ++ x ∷ [] → IsAt n (kind_of x) → ⊥

end_at : (n : ℕ) (items : List LogItem) → EndsAt n items ⊎ NoEndAt n items
end_at n items =
    elim (last_of items) [
      | inl none ↦ inr (λ front x e at. not_empty front x (sym none ∙ e))
      | inr l ↦
          elim (is_at_or_not n (kind_of l.last)) [
            | inl at ↦ inl (record { front = l.front; last = l.last; is = l.is; is_at = at })
            | inr not_at ↦ inr (λ front x e at.
                let same = same_from_push l.front front l.last x (sym l.is ∙ e) in
                not_at (subst (λ (y : LogItem). IsAt n (kind_of y)) (sym same.1) at))
          ]
    ]

record SomeEndsAt (n : ℕ) (logs : List (List LogItem)) : Type 0 where
  place : ℕ
  front : List LogItem
  last : LogItem
  stands : slice_get logs place ≡ Some (front ++ last ∷ [])
  is_at : IsAt n (kind_of last)

abbrev NoneEndsAt : ℕ → List (List LogItem) → Type 0
NoneEndsAt n logs = (place : ℕ) (items : List LogItem) → slice_get logs place ≡ Some items → NoEndAt n items

some_end_at : (n : ℕ) (logs : List (List LogItem)) → SomeEndsAt n logs ⊎ NoneEndsAt n logs
some_end_at n [] = inr (λ place items at. absurd (cc))
some_end_at n (items ∷ logs) =
    elim (end_at n items) [
      | inl e ↦ inl (record { place = 0; front = e.front; last = e.last; stands = ap Some e.is; is_at = e.is_at })
      | inr none ↦
          elim (some_end_at n logs) [
            | inl e ↦ inl (record { place = suc e.place; front = e.front; last = e.last; stands = e.stands; is_at = e.is_at })
            | inr no_other ↦ inr (none_of items logs none no_other)
          ]
    ]
  where
    none_of : (items : List LogItem) (logs : List (List LogItem)) → NoEndAt n items → NoneEndsAt n logs → NoneEndsAt n (items ∷ logs)
    none_of items logs none no_other zero other at = subst (NoEndAt n) (let same : items ≡ other = cc in same) none
    none_of items logs none no_other (suc place) other at = no_other place other at

-- ---- an item that enters nothing is taken back

unnamed_at : (m n : ℕ) (k : Kind) → IsAt n k → one_name m k ≡ 0
unnamed_at m n free at = refl
unnamed_at m n (told l) at = refl
unnamed_at m n (entered l) at = absurd at

answers_at : (s : Setting) (h : List Entry) (feed : ℕ) (before : List LogItem) (x : LogItem) (k : Kind) → IsAt (length h) k → IsTrueAnswer s h feed before x → AnswersNow s h h feed before x k
answers_at s h feed before x free at t = (t, refl)
answers_at s h feed before x (told n) at t = (t, at, refl)
answers_at s h feed before x (entered n) at t = absurd at

-- a state and the step that leads from it
record IsTakenBack (s : Setting) (dues : List (List DueItem)) (h : List Entry) (logs : List (List LogItem)) (size : ℕ) : Type 0 where
  place : ℕ
  earlier : List Entry
  fewer : List (List LogItem)
  holds : Holds s dues earlier fewer
  step : CoreStep s dues place (record { history = earlier; logs = fewer }) (record { history = h; logs = logs })
  smaller : size_of fewer ≡ size

module _ (s : Setting) (dues : List (List DueItem)) (logs : List (List LogItem)) (place : ℕ) (front : List LogItem) (x : LogItem)
    (stands : slice_get logs place ≡ Some (front ++ x ∷ [])) where
  abbrev less : List (List LogItem)
  less = set logs place front

  -- what stands in the logs without the item
  less_at : (q : ℕ) (items : List LogItem) → slice_get less q ≡ Some items → ((q ≡ place) × (items ≡ front)) ⊎ ((q ≡ place → ⊥) × (slice_get logs q ≡ Some items))
  less_at q items at =
      elim (cases_eq q place) [
        | inl here ↦
            let there : slice_get less q ≡ Some front = ap (slice_get less) here ∙ get_set_same logs place (front ++ x ∷ []) front stands in
            inl (here, (let same : items ≡ front = cc in same))
        | inr other ↦ inr (other, sym (get_set_other logs place q front other) ∙ at)
      ]

  less_names : (n : ℕ) → total_names n less + one_name n (kind_of x) ≡ total_names n logs
  less_names n =
      let one = sum_set (λ items. count_by (names n) items) logs place (front ++ x ∷ []) front stands in
      let push = count_push n front x in
      omega arith

  less_size : (size : ℕ) → size_of logs ≡ suc size → size_of less ≡ size
  less_size size is =
      let one = sum_set (λ items. length items) logs place (front ++ x ∷ []) front stands in
      let push : length (front ++ x ∷ []) ≡ length front + 1 = length-append front (x ∷ []) in
      omega arith

  less_first : (h : List Entry) → Holds s dues h logs → (q : ℕ) (due : List DueItem) (items : List LogItem) → slice_get dues q ≡ Some due → slice_get less q ≡ Some items → AnswerFirst due items
  less_first h holds q due items of_feed at =
      elim (less_at q items at) [
        | inl here ↦
            let whole = holds.first q due (front ++ x ∷ []) of_feed (ap (slice_get logs) here.0 ∙ stands) in
            subst (AnswerFirst due) (sym here.1) (first_front due front x whole)
        | inr other ↦ holds.first q due items of_feed other.1
      ]

  -- the step that gives the item again
  step_back : (h earlier : List Entry) → Holds s dues h logs → AnswersNow s earlier h (place + 1) front x (kind_of x)
      → CoreStep s dues place (record { history = earlier; logs = less }) (record { history = h; logs = logs })
  step_back h earlier holds answers =
      let within : place < length dues = omega (arith, slice_get_within logs place (front ++ x ∷ []) stands, holds.as_many) in
      let of_feed : slice_get dues place ≡ Some (get_or dues place []) = slice_get-get_or dues place [] within in
      record {
        due = get_or dues place [];
        of_feed = of_feed;
        before = front;
        so_far = get_set_same logs place (front ++ x ∷ []) front stands;
        answered = x;
        next = first_next (get_or dues place []) front x (holds.first place (get_or dues place []) (front ++ x ∷ []) of_feed stands);
        answers = answers;
        goes_on = sym (set_back logs place (front ++ x ∷ []) front stands);
      }

  log_front : (h : List Entry) → IsTrueLog s h place (front ++ x ∷ []) → IsTrueLog s h place front
  log_front h t = record { answers = answers_front s h (place + 1) [] front x t.answers; in_order = order_front 0 0 front x t.in_order }

  telling_back : (h : List Entry) (size : ℕ) → Holds s dues h logs → size_of logs ≡ suc size → IsAt (length h) (kind_of x) → IsTakenBack s dues h logs size
  telling_back h size holds is at =
      let whole = holds.each place (front ++ x ∷ []) stands in
      record {
        place = place;
        earlier = h;
        fewer = less;
        holds = record {
          legal = holds.legal;
          each = λ q items there. elim (less_at q items there) [
            | inl here ↦
                subst (λ (r : ℕ). IsTrueLog s h r items) (sym here.0) (subst (IsTrueLog s h place) (sym here.1) (log_front h whole))
            | inr other ↦ holds.each q items other.1
          ];
          once = λ n some le.
              let one = holds.once n some le in
              let none = unnamed_at n (length h) (kind_of x) at in
              omega (arith, less_names n);
          as_many = length-set logs place front ∙ holds.as_many;
          first = less_first h holds;
        };
        step = step_back h h holds (answers_at s h (place + 1) front x (kind_of x) at (answers_last s h (place + 1) [] front x whole.answers));
        smaller = less_size size is;
      }

-- ---- the last entry is taken back with its item

module _ (s : Setting) (g : List Entry) (e : Entry) (legal : IsLegal s.net s.start (g ++ e ∷ [])) (feed : ℕ) (before : List LogItem) (line n : ℕ) (is : n ≡ length g + 1) where
  last_entry : (message : Message) → IsEntry (g ++ e ∷ []) n (record { feed = feed; line = line; message = message }) → record { feed = feed; line = line; message = message } ≡ e
  last_entry message entry =
      let here : n - 1 ≡ length g = omega arith in
      let there : slice_get (g ++ e ∷ []) (n - 1) ≡ Some e = ap (slice_get (g ++ e ∷ [])) here ∙ get_at g e [] in
      let stands = entry.1 in
      cc

  passes_last : (message : Message) → e.message ≡ message → (r : Refusal) → Refuses s.net (rows_after s g (length g)) (length g) message r → ⊥
  passes_last message same r refused =
      legal_last s.net s.start g e legal r (subst (λ (m : Message). Refuses s.net (rows_after s g (length g)) (length g) m r) (sym same) refused)

  entering_said : (said : Line) → IsTrueReply s (g ++ e ∷ []) feed before line said (Ok n) → EntersNext s g (g ++ e ∷ []) feed before (Answered line said (Ok n)) n
  entering_said (Say m) t =
      let same = last_entry m t in
      record {
        message = m;
        to_enter = (refl, passes_last m (ap (λ (x : Entry). x.message) (sym same)));
        number = is;
        grown = ap (λ (x : Entry). g ++ x ∷ []) (sym same);
      }
  entering_said AskAdopt t = adopting (latest_plan before) refl t
    where
      adopting : (latest : Option Chosen) → latest_plan before ≡ latest → IsSomeAnd latest (λ plan. IsAdopted (g ++ e ∷ []) feed line n plan)
          → EntersNext s g (g ++ e ∷ []) feed before (Answered line AskAdopt (Ok n)) n
      adopting None is_latest t = absurd t
      adopting (Some plan) is_latest t =
          let same = last_entry (AdoptAll plan.choices) t.entry in
          let next = t.next in
          let room : length g < ENTRIES = omega (arith, legal.size, length-append g (e ∷ [])) in
          let present : plan.entry ≡ length g = omega arith in
          record {
            message = AdoptAll plan.choices;
            to_enter = subst (λ (o : Option Chosen). IsSomeAnd o (λ p. IsPresent g (AdoptAll plan.choices) p)) (sym is_latest) (record { present = present; room = room; choices = refl });
            number = is;
            grown = ap (λ (x : Entry). g ++ x ∷ []) (sym same);
          }
  entering_said AskCarry t = carrying (latest_plan before) refl t
    where
      carrying : (latest : Option Chosen) → latest_plan before ≡ latest → IsSomeAnd latest (λ plan. IsCarried s (g ++ e ∷ []) feed line n plan.choices)
          → EntersNext s g (g ++ e ∷ []) feed before (Answered line AskCarry (Ok n)) n
      carrying None is_latest t = absurd t
      carrying (Some plan) is_latest t =
          let message : Message = carried s (g ++ e ∷ []) (n - 1) plan.choices in
          let same = last_entry message t in
          let here : n - 1 ≡ length g = omega arith in
          let is_carried : carried s g (length g) plan.choices ≡ message =
          sym (carried_alike s (n - 1) (length g) (g ++ e ∷ []) g here (alike_shorter g (e ∷ [])) plan.choices) in
          record {
            message = message;
            to_enter = (
              subst (λ (o : Option Chosen). IsSomeAnd o (λ p. carried s g (length g) p.choices ≡ message)) (sym is_latest) is_carried,
              passes_last message (ap (λ (x : Entry). x.message) (sym same)),
            );
            number = is;
            grown = ap (λ (x : Entry). g ++ x ∷ []) (sym same);
          }
  entering_said (AskTime event) t = absurd t
  entering_said AskCost t = absurd t
  entering_said (AskPlan budget) t = absurd t
  entering_said (AskSolve budget) t = absurd t
  entering_said AskRead t = absurd t

pub entering_answer : (s : Setting) (g : List Entry) (e : Entry) → IsLegal s.net s.start (g ++ e ∷ []) → (feed : ℕ) (before : List LogItem) (x : LogItem) (n : ℕ) → n ≡ length g + 1
    → kind_of x ≡ entered n → IsTrueAnswer s (g ++ e ∷ []) feed before x → EntersNext s g (g ++ e ∷ []) feed before x n
entering_answer s g e legal feed before (Malformed line) n is kind t = absurd (cc)
entering_answer s g e legal feed before (Answered line said reply) n is kind t =
    let ok = ok_of reply n kind in
    subst (λ (r : Reply). EntersNext s g (g ++ e ∷ []) feed before (Answered line said r) n) (sym ok)
    (entering_said s g e legal feed before line n is said (subst (λ (r : Reply). IsTrueReply s (g ++ e ∷ []) feed before line said r) ok t))

module _ (s : Setting) (dues : List (List DueItem)) (g : List Entry) (e : Entry) (logs : List (List LogItem)) (holds : Holds s dues (g ++ e ∷ []) logs)
    (none : NoneEndsAt (length g + 1) logs) (place : ℕ) (front : List LogItem) (x : LogItem) (stands : slice_get logs place ≡ Some (front ++ x ∷ []))
    (kind : kind_of x ≡ entered (length g + 1)) where
  long : length (g ++ e ∷ []) ≡ length g + 1
  long = length-append g (e ∷ [])

  whole : IsTrueLog s (g ++ e ∷ []) place (front ++ x ∷ [])
  whole = holds.each place (front ++ x ∷ []) stands

  named_here : 0 < count_by (names (length g + 1)) (front ++ x ∷ [])
  named_here =
      let itself : one_name (length g + 1) (kind_of x) ≡ 1 = ap (one_name (length g + 1)) kind ∙ names_itself (length g + 1) in
      omega (arith, count_push (length g + 1) front x)

  -- the number of an item that is last in another log
  other_number : (last : ℕ) (k : Kind) → last ≤ length g + 1 → Follows last k → IsWithin (length g + 1) k → (IsAt (length g + 1) k → ⊥) → (k ≡ entered (length g + 1) → ⊥) → number_after last k ≤ length g
  other_number last free le f w not_at unnamed = absurd (not_at tt)
  other_number last (told m) le f w not_at unnamed = elim (cases_eq m (length g + 1)) [ inl same ↦ absurd (not_at same) | inr other ↦ omega arith ]
  other_number last (entered m) le f w not_at unnamed =
      elim (cases_eq m (length g + 1)) [ inl same ↦ absurd (unnamed (ap entered same)) | inr other ↦ omega arith ]

  -- no number of another log is that of the last entry
  other_within : (q : ℕ) (items : List LogItem) → (q ≡ place → ⊥) → slice_get logs q ≡ Some items → last_number 0 items ≤ length g
  other_within q items other at =
      elim (last_of items) [
        | inl empty ↦ subst (λ (xs : List LogItem). last_number 0 xs ≤ length g) (sym empty) (omega arith)
        | inr l ↦
            let there : slice_get logs q ≡ Some (l.front ++ l.last ∷ []) = at ∙ ap Some l.is in
            let t : IsTrueLog s (g ++ e ∷ []) q (l.front ++ l.last ∷ []) = holds.each q (l.front ++ l.last ∷ []) there in
            let last_true : IsTrueAnswer s (g ++ e ∷ []) (q + 1) l.front l.last = answers_last s (g ++ e ∷ []) (q + 1) [] l.front l.last t.answers in
            let w : IsWithin (length g + 1) (kind_of l.last) = subst (λ (n : ℕ). IsWithin n (kind_of l.last)) long (answer_within s (g ++ e ∷ []) (q + 1) l.front l.last last_true) in
            let f : Follows (last_number 0 l.front) (kind_of l.last) = order_last 0 0 l.front l.last t.in_order in
            let before : last_number 0 l.front ≤ length g + 1 =
            subst (λ (n : ℕ). last_number 0 l.front ≤ n) long (numbers_within s (g ++ e ∷ []) (q + 1) 0 [] l.front (omega arith) (answers_front s (g ++ e ∷ []) (q + 1) [] l.front l.last t.answers)) in
            let unnamed : kind_of l.last ≡ entered (length g + 1) → ⊥ = λ same.
            let itself : one_name (length g + 1) (kind_of l.last) ≡ 1 = ap (one_name (length g + 1)) same ∙ names_itself (length g + 1) in
            let two = sum_two (λ xs. count_by (names (length g + 1)) xs) logs q place (l.front ++ l.last ∷ []) (front ++ x ∷ []) there stands other in
            let one = holds.once (length g + 1) (omega arith) (omega (arith, long)) in
            omega (arith, count_push (length g + 1) l.front l.last, named_here) in
            let le : number_after (last_number 0 l.front) (kind_of l.last) ≤ length g =
            other_number (last_number 0 l.front) (kind_of l.last) before f w (none q items at l.front l.last l.is) unnamed in
            subst (λ (n : ℕ). n ≤ length g) (sym (ap (last_number 0) l.is ∙ last_number_push 0 l.front l.last)) le
      ]

  front_within : last_number 0 front ≤ length g
  front_within =
      let f : Follows (last_number 0 front) (entered (length g + 1)) = subst (Follows (last_number 0 front)) kind (order_last 0 0 front x whole.in_order) in
      omega arith

  -- a log without the last entry's item is true of the entries before
  true_before : (q : ℕ) (items : List LogItem) → IsTrueLog s (g ++ e ∷ []) q items → last_number 0 items ≤ length g → IsTrueLog s g q items
  true_before q items t le =
      record {
        answers = answers_alike s (g ++ e ∷ []) g (length g) (alike_shorter g (e ∷ [])) (q + 1) 0 0 [] items t.in_order le t.answers;
        in_order = t.in_order;
      }

  entering_back : (size : ℕ) → size_of logs ≡ suc size → IsTakenBack s dues (g ++ e ∷ []) logs size
  entering_back size is =
      let less_logs : List (List LogItem) = less s dues logs place front x stands in
      let last_true : IsTrueAnswer s (g ++ e ∷ []) (place + 1) front x = answers_last s (g ++ e ∷ []) (place + 1) [] front x whole.answers in
      let enters : EntersNext s g (g ++ e ∷ []) (place + 1) front x (length g + 1) = entering_answer s g e holds.legal (place + 1) front x (length g + 1) refl kind last_true in
      record {
        place = place;
        earlier = g;
        fewer = less_logs;
        holds = record {
          legal = legal_front s.net s.start g e holds.legal;
          each = λ q items there. elim (less_at s dues logs place front x stands q items there) [
            | inl here ↦
                let t : IsTrueLog s g place front = true_before place front (log_front s dues logs place front x stands (g ++ e ∷ []) whole) front_within in
                subst (λ (r : ℕ). IsTrueLog s g r items) (sym here.0) (subst (IsTrueLog s g place) (sym here.1) t)
            | inr other ↦ true_before q items (holds.each q items other.1) (other_within q items other.0 other.1)
          ];
          once = λ n some le.
              let one = holds.once n some (omega (arith, long)) in
              let unnamed : one_name n (kind_of x) ≡ 0 = ap (one_name n) kind ∙ names_no_other n (length g + 1) (λ same. omega arith) in
              omega (arith, less_names s dues logs place front x stands n);
          as_many = length-set logs place front ∙ holds.as_many;
          first = less_first s dues logs place front x stands (g ++ e ∷ []) holds;
        };
        step = step_back s dues logs place front x stands (g ++ e ∷ []) g holds (subst (AnswersNow s g (g ++ e ∷ []) (place + 1) front x) (sym kind) enters);
        smaller = less_size s dues logs place front x stands size is;
      }

-- ---- some item can always be taken back

-- where an entry is named among items of which none goes beyond it, the last item names it or could be answered last
last_names : (n last : ℕ) (count : ℕ) (k : Kind) → Follows last k → IsWithin n k → (0 < count → n ≤ last) → 0 < count + one_name n k → (IsAt n k → ⊥) → k ≡ entered n
last_names n last count free f w named some not_at = absurd (not_at tt)
last_names n last count (told m) f w named some not_at =
    let le : n ≤ last = named (omega arith) in
    absurd (not_at (omega arith))
last_names n last count (entered m) f w named some not_at =
    elim (cases_eq m n) [
      | inl same ↦ ap entered same
      | inr other ↦
          let unnamed : one_name n (entered m) ≡ 0 = names_no_other n m other in
          let le : n ≤ last = named (omega arith) in
          absurd (omega arith)
    ]

module _ (s : Setting) (dues : List (List DueItem)) where
  owner_ends : (g : List Entry) (e : Entry) (logs : List (List LogItem)) (size : ℕ) → Holds s dues (g ++ e ∷ []) logs → NoneEndsAt (length g + 1) logs → size_of logs ≡ suc size → IsTakenBack s dues (g ++ e ∷ []) logs size
  owner_ends g e logs size holds none is =
      let n : ℕ = length g + 1 in
      let long : length (g ++ e ∷ []) ≡ n = length-append g (e ∷ []) in
      let one : total_names n logs ≡ 1 = holds.once n (omega arith) (omega arith) in
      let owner : HasPart (λ items. count_by (names n) items) logs = has_part (λ items. count_by (names n) items) logs (omega arith) in
      ending owner.place owner.part owner.stands owner.some (last_of owner.part)
    where
      ending : (place : ℕ) (items : List LogItem) → slice_get logs place ≡ Some items → 0 < count_by (names (length g + 1)) items → (items ≡ []) ⊎ HasLast items → IsTakenBack s dues (g ++ e ∷ []) logs size
      ending place items at some (inl empty) =
          absurd (let lt : 0 < count_by (names (length g + 1)) [] = subst (λ (xs : List LogItem). 0 < count_by (names (length g + 1)) xs) empty some in omega arith)
      ending place items at some (inr l) =
          let long : length (g ++ e ∷ []) ≡ length g + 1 = length-append g (e ∷ []) in
          let stands : slice_get logs place ≡ Some (l.front ++ l.last ∷ []) = at ∙ ap Some l.is in
          let t : IsTrueLog s (g ++ e ∷ []) place (l.front ++ l.last ∷ []) = holds.each place (l.front ++ l.last ∷ []) stands in
          let w : IsWithin (length g + 1) (kind_of l.last) =
          subst (λ (n : ℕ). IsWithin n (kind_of l.last)) long (answer_within s (g ++ e ∷ []) (place + 1) l.front l.last (answers_last s (g ++ e ∷ []) (place + 1) [] l.front l.last t.answers)) in
          let counted : 0 < count_by (names (length g + 1)) l.front + one_name (length g + 1) (kind_of l.last) =
          subst (λ (c : ℕ). 0 < c) (ap (λ (xs : List LogItem). count_by (names (length g + 1)) xs) l.is ∙ count_push (length g + 1) l.front l.last) some in
          let kind : kind_of l.last ≡ entered (length g + 1) =
          last_names (length g + 1) (last_number 0 l.front) (count_by (names (length g + 1)) l.front) (kind_of l.last) (order_last 0 0 l.front l.last t.in_order) w
          (named_no_more (length g + 1) 0 0 l.front (order_front 0 0 l.front l.last t.in_order)) counted (none place items at l.front l.last l.is) in
          entering_back s dues g e logs holds none place l.front l.last stands kind size is

  -- where there is no entry, every item could be answered last
  at_start : (last : ℕ) (k : Kind) → Follows last k → IsWithin 0 k → IsAt 0 k
  at_start last free f w = tt
  at_start last (told m) f w = omega arith
  at_start last (entered m) f w = absurd (omega arith)

  start_ends : (logs : List (List LogItem)) (size : ℕ) → Holds s dues [] logs → NoneEndsAt 0 logs → size_of logs ≡ suc size → ⊥
  start_ends logs size holds none is =
      let part : HasPart (λ items. length items) logs = has_part (λ items. length items) logs (omega arith) in
      ending part.place part.part part.stands part.some (last_of part.part)
    where
      ending : (place : ℕ) (items : List LogItem) → slice_get logs place ≡ Some items → 0 < length items → (items ≡ []) ⊎ HasLast items → ⊥
      ending place items at some (inl empty) = let none : length items ≡ 0 = ap length empty in omega arith
      ending place items at some (inr l) =
          let stands : slice_get logs place ≡ Some (l.front ++ l.last ∷ []) = at ∙ ap Some l.is in
          let t : IsTrueLog s [] place (l.front ++ l.last ∷ []) = holds.each place (l.front ++ l.last ∷ []) stands in
          none place items at l.front l.last l.is
          (at_start (last_number 0 l.front) (kind_of l.last) (order_last 0 0 l.front l.last t.in_order) (answer_within s [] (place + 1) l.front l.last (answers_last s [] (place + 1) [] l.front l.last t.answers)))

  taken_back : (h : List Entry) (logs : List (List LogItem)) (size : ℕ) → Holds s dues h logs → size_of logs ≡ suc size → IsTakenBack s dues h logs size
  taken_back h logs size holds is =
      elim (some_end_at (length h) logs) [
        | inl l ↦ telling_back s dues logs l.place l.front l.last l.stands h size holds is l.is_at
        | inr none ↦ by_history (last_of h) none
      ]
    where
      by_history : (h ≡ []) ⊎ HasLast h → NoneEndsAt (length h) logs → IsTakenBack s dues h logs size
      by_history (inl empty) none =
          absurd (start_ends logs size (subst (λ (k : List Entry). Holds s dues k logs) empty holds) (subst (λ (k : List Entry). NoneEndsAt (length k) logs) empty none) is)
      by_history (inr l) none =
          let long : length h ≡ length l.front + 1 = ap length l.is ∙ length-append l.front (l.last ∷ []) in
          subst (λ (k : List Entry). IsTakenBack s dues k logs size) (sym l.is)
          (owner_ends l.front l.last logs size (subst (λ (k : List Entry). Holds s dues k logs) l.is holds) (subst (λ (n : ℕ). NoneEndsAt n logs) long none) is)

  -- ---- schedules

  run_push : (schedule : List ℕ) (place : ℕ) (now mid later : CoreState) → CoreRun s dues schedule now mid → CoreStep s dues place mid later → CoreRun s dues (schedule ++ place ∷ []) now later
  run_push [] place now mid later run step = (later, subst (λ (from : CoreState). CoreStep s dues place from later) (sym run) step, refl)
  run_push (first ∷ schedule) place now mid later run step = (run.0, run.1, run_push schedule place run.0 mid later run.2 step)

  nothing_is_reached : (h : List Entry) (logs : List (List LogItem)) → Holds s dues h logs → size_of logs ≡ 0 → IsReached s dues (record { history = h; logs = logs })
  nothing_is_reached [] logs holds none =
      record { schedule = []; run = ap (λ (items : List (List LogItem)). record { history = []; logs = items }) (sym (all_empty dues logs holds.as_many none)) }
  nothing_is_reached (e ∷ h) logs holds none =
      let empty = all_empty dues logs holds.as_many none in
      let one : total_names 1 logs ≡ 1 = holds.once 1 (omega arith) (omega arith) in
      let zero_names : total_names 1 logs ≡ 0 = ap (total_names 1) empty ∙ none_named 1 dues in
      absurd (omega arith)

  -- a state that holds is reached
  pub is_reached : (size : ℕ) (h : List Entry) (logs : List (List LogItem)) → Holds s dues h logs → size_of logs ≡ size → IsReached s dues (record { history = h; logs = logs })
  is_reached zero h logs holds is = nothing_is_reached h logs holds is
  is_reached (suc size) h logs holds is =
      let back : IsTakenBack s dues h logs size = taken_back h logs size holds is in
      let earlier : IsReached s dues (record { history = back.earlier; logs = back.fewer }) = is_reached size back.earlier back.fewer back.holds back.smaller in
      record {
        schedule = earlier.schedule ++ back.place ∷ [];
        run = run_push earlier.schedule back.place (nothing_yet dues) (record { history = back.earlier; logs = back.fewer }) (record { history = h; logs = logs }) earlier.run back.step;
      }
