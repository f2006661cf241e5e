-- An answer needs no more of a history than the entries up to its number: it stays true as the history grows.
use Rattle.std.proofs.Common.{◌≡◌, ℕ, zero, suc, ◌+◌, ◌-◌, ◌<◌, ◌≤◌, List, [], ◌∷◌, ◌++◌, length, take, Option, Some, None, refl, sym, ap, subst, ◌∙◌, append_assoc, arith, slice_get, fold}
use Rattle.std.specs.Option.{IsSomeAnd}
use Rattle.std.proofs.lemmas.List.{take-append-le, take-take, length-append, append-nil}
use Rattle.std.proofs.lemmas.Option.{slice_get_within}
use Rattle.dm_rows.specs.declared.messages.Entry.{Entry}
use Rattle.dm_rows.specs.declared.messages.Decision.{Decision}
use Rattle.dm_rows.specs.declared.messages.Message.{Message}
use Rattle.dm_rows.specs.declared.messages.Message.TheVariants.{Adopt as AdoptAll}
use Rattle.dm_rows.specs.Rows.{RowsValue}
use Rattle.dm_rows.specs.Resolve.{after}
use Rattle.dm_rows.specs.Refuse.{Refuses}
use Rattle.dm_rows.specs.Carry.{free_among}
use Rattle.dm_rows.specs.Timetable.{IsLeast}
use Rattle.dm_rows.specs.Cost.{Costs}
use Rattle.dm_feed.specs.declared.grammar.Line.{Line}
use Rattle.dm_feed.specs.declared.grammar.Line.TheVariants.{Say, Time as AskTime, CostNow as AskCost, Plan as AskPlan, Solve as AskSolve, Adopt as AskAdopt, Carry as AskCarry, Read as AskRead}
use Rattle.dm_tree.specs.Plans.{whole_task, IsTruePlan}
use Rattle.dm_parts.specs.Parts.{IsTruePlanByParts}
use Rattle.dm_cert.specs.declared.replies.Reply.{Reply}
use Rattle.dm_cert.specs.declared.replies.Reply.TheVariants.{Ok, Refused, Time, Cost, Read, Planned, Solved, Old, NoPlan, Plans, Range}
use Rattle.dm_cert.specs.declared.replies.LogItem.{LogItem}
use Rattle.dm_cert.specs.declared.replies.LogItem.TheVariants.{Malformed, Answered}
use Rattle.dm_cert.specs.Answers.{Setting, rows_after, IsEntry, latest_plan, IsAdopted, IsOld, HasNoRoom, carried, IsCarried, IsRefused, IsTrueReply, IsTrueAnswer}
use Rattle.dm_cert.specs.Logs.{kind_of_reply, kind_of, line_of, number_after, AreTrueAnswers, IsInOrder, IsTrueLog, Follows}
use Rattle.dm_cert.proofs.Numbers.{IsWithin, last_line, last_number, order_push, last_no_less, within_after, after_within}

-- ---- histories that are alike

-- two histories have the same entries up to this number
pub record AreAlike (n : ℕ) (one other : List Entry) : Type 0 where
  pub in_one : n ≤ length one
  pub in_other : n ≤ length other
  pub front : take n one ≡ take n other

pub alike_below : (m n : ℕ) (h k : List Entry) → AreAlike n h k → m ≤ n → AreAlike m h k
alike_below m n h k a le =
    record {
      in_one = omega (arith, a.in_one);
      in_other = omega (arith, a.in_other);
      front = sym (take-take m n h le) ∙ (ap (take m) a.front ∙ take-take m n k le);
    }

-- a history and a longer one are alike up to its end, in both directions
pub alike_longer : (h more : List Entry) → AreAlike (length h) h (h ++ more)
alike_longer h more =
    record {
      in_one = omega arith;
      in_other = omega (arith, length-append h more);
      front = sym (take-append-le (length h) h more (omega arith));
    }

pub alike_shorter : (h more : List Entry) → AreAlike (length h) (h ++ more) h
alike_shorter h more =
    record {
      in_one = omega (arith, length-append h more);
      in_other = omega arith;
      front = take-append-le (length h) h more (omega arith);
    }

slice_get-take : {X : Type 0} (n i : ℕ) (xs : List X) → i < n → slice_get (take n xs) i ≡ slice_get xs i
slice_get-take zero i xs lt = absurd (omega arith)
slice_get-take (suc n) i [] lt = refl
slice_get-take (suc n) zero (x ∷ xs) lt = refl
slice_get-take (suc n) (suc i) (x ∷ xs) lt = slice_get-take n i xs (omega arith)

pub rows_alike : (s : Setting) (n : ℕ) (h k : List Entry) → AreAlike n h k → rows_after s h n ≡ rows_after s k n
rows_alike s n h k a = ap (fold (λ (rows : RowsValue) (entry : Entry). after s.net rows entry.message) s.start) a.front

-- what is carried over is of the rows alone
pub carried_alike : (s : Setting) (m n : ℕ) (h k : List Entry) → m ≡ n → AreAlike n h k → (choices : List Decision) → carried s h m choices ≡ carried s k n choices
carried_alike s m n h k same a choices =
    ap (λ (i : ℕ). carried s h i choices) same ∙ ap (λ (r : RowsValue). AdoptAll (free_among s.net r choices)) (rows_alike s n h k a)

pub entry_alike : (n m : ℕ) (h k : List Entry) (e : Entry) → AreAlike n h k → m ≤ n → IsEntry h m e → IsEntry k m e
entry_alike n m h k e a le is =
    (is.0, sym (slice_get-take n (m - 1) k (omega (arith, is.0, le))) ∙ (sym (ap (λ (xs : List Entry). slice_get xs (m - 1)) a.front) ∙ (slice_get-take n (m - 1) h (omega (arith, is.0, le)) ∙ is.1)))

some_and : {X : Type 0} (o : Option X) (P Q : X → Type 0) → ((x : X) → P x → Q x) → IsSomeAnd o P → IsSomeAnd o Q
some_and None P Q f h = h
some_and (Some x) P Q f h = f x h

-- ---- true answers

module _ (s : Setting) (h k : List Entry) (n : ℕ) (a : AreAlike n h k) (feed : ℕ) (before : List LogItem) (line : ℕ) where
  reply_alike : (said : Line) (reply : Reply) → IsWithin n (kind_of_reply reply) → IsTrueReply s h feed before line said reply → IsTrueReply s k feed before line said reply
  reply_alike (Say m) (Ok e) w t = entry_alike n e h k _ a w t
  reply_alike (Say m) (Refused at) w t =
      let b = alike_below at.entry n h k a w in
      record { within = b.in_other; refuses = subst (λ (r : RowsValue). Refuses s.net r at.entry m at.why) (rows_alike s at.entry h k b) t.refuses }
  reply_alike (AskTime event) (Time e x) w t =
      let b = alike_below e n h k a w in
      record {
        within = b.in_other;
        place = t.place;
        known = t.known;
        times = t.times;
        least = subst (λ (r : RowsValue). IsLeast s.net r t.times) (rows_alike s e h k b) t.least;
        is_time = t.is_time;
      }
  reply_alike (AskTime event) (Refused at) w t =
      record { within = (alike_below at.entry n h k a w).in_other; unknown = t.unknown; is_why = t.is_why }
  reply_alike AskCost (Cost e c) w t =
      let b = alike_below e n h k a w in
      record { within = b.in_other; costs = subst (λ (r : RowsValue). Costs s.net r s.penalty c) (rows_alike s e h k b) t.costs }
  reply_alike AskRead (Read e) w t = (alike_below e n h k a w).in_other
  reply_alike (AskPlan budget) (Range v) w t = t
  reply_alike (AskPlan budget) Plans w t = t
  reply_alike (AskPlan budget) (Planned plan) w t =
      let b = alike_below plan.entry n h k a w in
      record {
        within = b.in_other;
        in_range = t.in_range;
        fewer = t.fewer;
        is_true = subst (λ (r : RowsValue). IsTruePlan (whole_task s.net r s.penalty budget) plan) (rows_alike s plan.entry h k b) t.is_true;
      }
  reply_alike (AskSolve budget) (Range v) w t = t
  reply_alike (AskSolve budget) Plans w t = t
  reply_alike (AskSolve budget) (Solved plan) w t =
      let b = alike_below plan.entry n h k a w in
      record {
        within = b.in_other;
        in_range = t.in_range;
        fewer = t.fewer;
        is_true = subst (λ (r : RowsValue). IsTruePlanByParts (whole_task s.net r s.penalty budget) plan) (rows_alike s plan.entry h k b) t.is_true;
      }
  reply_alike AskAdopt NoPlan w t = t
  reply_alike AskAdopt (Ok e) w t =
      some_and (latest_plan before) (λ plan. IsAdopted h feed line e plan) (λ plan. IsAdopted k feed line e plan) (λ plan is. record { next = is.next; entry = entry_alike n e h k _ a w is.entry }) t
  reply_alike AskAdopt (Old e) w t =
      some_and (latest_plan before) (λ plan. IsOld h e plan) (λ plan. IsOld k e plan) (λ plan is. record { within = (alike_below e n h k a w).in_other; older = is.older }) t
  reply_alike AskAdopt (Refused at) w t =
      some_and (latest_plan before) (λ plan. HasNoRoom h at.entry at.why plan) (λ plan. HasNoRoom k at.entry at.why plan)
      (λ plan is. record { within = (alike_below at.entry n h k a w).in_other; full = is.full; present = is.present; is_why = is.is_why }) t
  reply_alike AskCarry NoPlan w t = t
  reply_alike AskCarry (Ok e) w t =
      some_and (latest_plan before) (λ plan. IsCarried s h feed line e plan.choices) (λ plan. IsCarried s k feed line e plan.choices)
      (λ plan is.
      let there = entry_alike n e h k (record { feed = feed; line = line; message = carried s h (e - 1) plan.choices }) a w is in
      let b = alike_below (e - 1) n h k a (omega arith) in
      subst (λ (m : Message). IsEntry k e (record { feed = feed; line = line; message = m })) (carried_alike s (e - 1) (e - 1) h k refl b plan.choices) there) t
  reply_alike AskCarry (Refused at) w t =
      some_and (latest_plan before) (λ plan. IsRefused s h at.entry (carried s h at.entry plan.choices) at.why)
      (λ plan. IsRefused s k at.entry (carried s k at.entry plan.choices) at.why)
      (λ plan is.
      let b = alike_below at.entry n h k a w in
      record {
        within = b.in_other;
        refuses = subst (λ (r : RowsValue). Refuses s.net r at.entry (AdoptAll (free_among s.net r plan.choices)) at.why) (rows_alike s at.entry h k b) is.refuses;
      }) t
  reply_alike _ _ w t = absurd t

-- an item that is true of a history is true of another that is alike up to the item's number
pub answer_alike : (s : Setting) (h k : List Entry) (n : ℕ) → AreAlike n h k → (feed : ℕ) (before : List LogItem) (x : LogItem) → IsWithin n (kind_of x) → IsTrueAnswer s h feed before x → IsTrueAnswer s k feed before x
answer_alike s h k n a feed before (Malformed line) w t = tt
answer_alike s h k n a feed before (Answered line said reply) w t = reply_alike s h k n a feed before line said reply w t

entry_within : (h : List Entry) (n : ℕ) (e : Entry) → IsEntry h n e → n ≤ length h
entry_within h n e is = omega (arith, is.0, slice_get_within h (n - 1) e is.1)

some_within : {X : Type 0} (o : Option X) (P : X → Type 0) (m n : ℕ) → ((x : X) → P x → m ≤ n) → IsSomeAnd o P → m ≤ n
some_within None P m n f t = absurd t
some_within (Some x) P m n f t = f x t

module _ (s : Setting) (h : List Entry) (feed : ℕ) (before : List LogItem) (line : ℕ) where
  reply_within : (said : Line) (reply : Reply) → IsTrueReply s h feed before line said reply → IsWithin (length h) (kind_of_reply reply)
  reply_within (Say m) (Ok e) t = entry_within h e _ t
  reply_within (Say m) (Refused at) t = t.within
  reply_within (AskTime event) (Time e x) t = t.within
  reply_within (AskTime event) (Refused at) t = t.within
  reply_within AskCost (Cost e c) t = t.within
  reply_within AskRead (Read e) t = t
  reply_within (AskPlan budget) (Range v) t = tt
  reply_within (AskPlan budget) Plans t = tt
  reply_within (AskPlan budget) (Planned plan) t = t.within
  reply_within (AskSolve budget) (Range v) t = tt
  reply_within (AskSolve budget) Plans t = tt
  reply_within (AskSolve budget) (Solved plan) t = t.within
  reply_within AskAdopt NoPlan t = tt
  reply_within AskAdopt (Ok e) t = some_within (latest_plan before) (λ plan. IsAdopted h feed line e plan) e (length h) (λ plan is. entry_within h e _ is.entry) t
  reply_within AskAdopt (Old e) t = some_within (latest_plan before) (λ plan. IsOld h e plan) e (length h) (λ plan is. is.within) t
  reply_within AskAdopt (Refused at) t = some_within (latest_plan before) (λ plan. HasNoRoom h at.entry at.why plan) at.entry (length h) (λ plan is. is.within) t
  reply_within AskCarry NoPlan t = tt
  reply_within AskCarry (Ok e) t =
      some_within (latest_plan before) (λ plan. IsCarried s h feed line e plan.choices) e (length h)
      (λ plan is. entry_within h e (record { feed = feed; line = line; message = carried s h (e - 1) plan.choices }) is) t
  reply_within AskCarry (Refused at) t =
      some_within (latest_plan before) (λ plan. IsRefused s h at.entry (carried s h at.entry plan.choices) at.why) at.entry (length h) (λ plan is. is.within) t
  reply_within _ _ t = absurd t

-- a true item's number is at most the length of the history
pub answer_within : (s : Setting) (h : List Entry) (feed : ℕ) (before : List LogItem) (x : LogItem) → IsTrueAnswer s h feed before x → IsWithin (length h) (kind_of x)
answer_within s h feed before (Malformed line) t = tt
answer_within s h feed before (Answered line said reply) t = reply_within s h feed before line said reply t

-- a true item stays true as the history grows
pub answer_grows : (s : Setting) (h more : List Entry) (feed : ℕ) (before : List LogItem) (x : LogItem) → IsTrueAnswer s h feed before x → IsTrueAnswer s (h ++ more) feed before x
answer_grows s h more feed before x t =
    answer_alike s h (h ++ more) (length h) (alike_longer h more) feed before x (answer_within s h feed before x t) t

-- ---- true logs

-- the items stay true as the history grows
pub answers_grow : (s : Setting) (h more : List Entry) (feed : ℕ) (before items : List LogItem) → AreTrueAnswers s h feed before items → AreTrueAnswers s (h ++ more) feed before items
answers_grow s h more feed before [] t = tt
answers_grow s h more feed before (x ∷ items) t =
    (answer_grows s h more feed before x t.0, answers_grow s h more feed (before ++ x ∷ []) items t.1)

pub log_grows : (s : Setting) (h more : List Entry) (place : ℕ) (items : List LogItem) → IsTrueLog s h place items → IsTrueLog s (h ++ more) place items
log_grows s h more place items t = record { answers = answers_grow s h more (place + 1) [] items t.answers; in_order = t.in_order }

-- items in order are true of a history that is alike up to their last number
pub answers_alike : (s : Setting) (h k : List Entry) (n : ℕ) → AreAlike n h k → (feed line last : ℕ) (before items : List LogItem) → IsInOrder line last items → last_number last items ≤ n
    → AreTrueAnswers s h feed before items → AreTrueAnswers s k feed before items
answers_alike s h k n a feed line last before [] o le t = tt
answers_alike s h k n a feed line last before (x ∷ items) o le t =
    let later : number_after last (kind_of x) ≤ last_number (number_after last (kind_of x)) items = last_no_less (line_of x) (number_after last (kind_of x)) items o.2 in
    (answer_alike s h k n a feed before x (within_after last n (kind_of x) (omega arith)) t.0, answers_alike s h k n a feed (line_of x) (number_after last (kind_of x)) (before ++ x ∷ []) items o.2 le t.1)

-- one true item more, and one less
pub answers_push : (s : Setting) (h : List Entry) (feed : ℕ) (before items : List LogItem) (x : LogItem) → AreTrueAnswers s h feed before items → IsTrueAnswer s h feed (before ++ items) x → AreTrueAnswers s h feed before (items ++ x ∷ [])
answers_push s h feed before [] x t u = (subst (λ (b : List LogItem). IsTrueAnswer s h feed b x) (append-nil before) u, tt)
answers_push s h feed before (y ∷ items) x t u =
    (t.0, answers_push s h feed (before ++ y ∷ []) items x t.1 (subst (λ (b : List LogItem). IsTrueAnswer s h feed b x) (sym (append_assoc before (y ∷ []) items)) u))

pub answers_front : (s : Setting) (h : List Entry) (feed : ℕ) (before items : List LogItem) (x : LogItem) → AreTrueAnswers s h feed before (items ++ x ∷ []) → AreTrueAnswers s h feed before items
answers_front s h feed before [] x t = tt
answers_front s h feed before (y ∷ items) x t = (t.0, answers_front s h feed (before ++ y ∷ []) items x t.1)

pub answers_last : (s : Setting) (h : List Entry) (feed : ℕ) (before items : List LogItem) (x : LogItem) → AreTrueAnswers s h feed before (items ++ x ∷ []) → IsTrueAnswer s h feed (before ++ items) x
answers_last s h feed before [] x t = subst (λ (b : List LogItem). IsTrueAnswer s h feed b x) (sym (append-nil before)) t.0
answers_last s h feed before (y ∷ items) x t =
    subst (λ (b : List LogItem). IsTrueAnswer s h feed b x) (append_assoc before (y ∷ []) items) (answers_last s h feed (before ++ y ∷ []) items x t.1)

-- no number of true items is above the length of the history
pub numbers_within : (s : Setting) (h : List Entry) (feed last : ℕ) (before items : List LogItem) → last ≤ length h → AreTrueAnswers s h feed before items → last_number last items ≤ length h
numbers_within s h feed last before [] le t = le
numbers_within s h feed last before (x ∷ items) le t =
    numbers_within s h feed (number_after last (kind_of x)) (before ++ x ∷ []) items (after_within last (length h) (kind_of x) le (answer_within s h feed before x t.0)) t.1

-- a true item that follows makes a true log longer
pub log_push : (s : Setting) (h : List Entry) (place : ℕ) (items : List LogItem) (x : LogItem) → IsTrueLog s h place items → IsTrueAnswer s h (place + 1) items x → last_line 0 items < line_of x
    → Follows (last_number 0 items) (kind_of x) → IsTrueLog s h place (items ++ x ∷ [])
log_push s h place items x t is above follows =
    record { answers = answers_push s h (place + 1) [] items x t.answers is; in_order = order_push 0 0 items x t.in_order above follows }
