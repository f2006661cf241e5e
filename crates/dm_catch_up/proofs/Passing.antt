-- A feed of which more is read and passed.
use Rattle.std.proofs.Common.{◌≡◌, ℕ, ◌+◌, ◌<◌, ◌≤◌, inl, inr, List, [], ◌∷◌, ◌++◌, length, map, take, drop, get_or, Option, Some, None, refl, sym, ap, subst, ◌∙◌, arith, append_assoc, length-append}
use Rattle.std.specs.Prelude.{IfSome}
use Rattle.std.proofs.lemmas.List.{map-append, take_at, drop_at, take-append-drop, at_drop_more, length-drop, length-take-le}
use Rattle.dm_feed.specs.Feeds.{IsUnended}
use Rattle.dm_feed.specs.DueItems.{lines_of, DueItem, AreDueItems}
use Rattle.dm_feed.proofs.Joining.{lines_joined, items_joined}
use Rattle.dm_cert.specs.declared.replies.LogItem.{LogItem}
use Rattle.dm_cert.specs.Logs.{due_of, line_of}
use Rattle.dm_tail.specs.Given.{given_behind}
use Rattle.dm_tail.specs.Watching.{Takes}
use Rattle.dm_tail.specs.declared.tail.Tail.{Tail}
use Rattle.dm_tail.specs.declared.watched.Watched.{Watched}
use Rattle.dm_tail.proofs.FewLines.{few_lines}
use Rattle.dm_catch_up.specs.Feeds.{DiffersAt}
use Rattle.dm_catch_up.specs.Catching.{RefusesFeed}
use Rattle.dm_catch_up.specs.Inside.Comparing.{IsCompared, HasOther, StopsComparing, IsSame}
use Rattle.dm_catch_up.specs.declared.catching.CatchUpStop.{CatchUpStop}
use Rattle.dm_catch_up.specs.declared.catching.CatchUpStop.TheVariants as stop
use Rattle.dm_catch_up.proofs.Comparing.{whole_joined}

if_some : {X : Type 0} (o : Option X) (P Q : X → Type 0) → ((x : X) → P x → Q x) → IfSome o P → IfSome o Q
if_some None P Q f h = tt
if_some (Some x) P Q f h = f x h

-- ---- more was read

all_behind : (before now : Option (List ℕ)) (front pending more pending_now : List ℕ) → now ≡ given_behind before more → pending_now ≡ pending ++ more →
    IfSome before (λ bytes. bytes ≡ front ++ pending) → IfSome now (λ bytes. bytes ≡ front ++ pending_now)
all_behind None now front pending more pending_now gave is h = subst (λ (o : Option (List ℕ)). IfSome o (λ bytes. bytes ≡ front ++ pending_now)) (sym gave) tt
all_behind (Some bytes) now front pending more pending_now gave is h =
    subst (λ (o : Option (List ℕ)). IfSome o (λ bytes. bytes ≡ front ++ pending_now)) (sym gave)
    (ap (λ (l : List ℕ). l ++ more) h ∙ (append_assoc front pending more ∙ ap (λ (l : List ℕ). front ++ l) (sym is)))

pub read_same : (before now : Option (List ℕ)) (items : List LogItem) (pending pending_now more : List ℕ) (lines taken taken_now count from : ℕ) →
    now ≡ given_behind before more → pending_now ≡ pending ++ more → count ≡ length more → taken_now ≡ taken + count → taken_now ≤ 67108864 →
    IsSame before items pending lines taken from → IsSame now items pending_now lines taken_now from
read_same before now items pending pending_now more lines taken taken_now count from gave is size more_taken most s = record {
  front = s.front;
  whole = s.whole;
  counted = s.counted;
  due = s.due;
  is_all = all_behind before now s.front pending more pending_now gave is s.is_all;
  few = s.few;
  short = let was = s.short in omega (arith, was, size, more_taken, ap length is, length-append pending more);
  most = most;
}

pub still_same : {T : Type 0} (given : T → Option (List ℕ)) (items : List LogItem) (before now : Tail T) (lines count from : ℕ) →
    Takes given before now count → now.taken ≤ 67108864 → IsSame (given before.feed) items before.pending.items lines before.taken from →
    IsSame (given now.feed) items now.pending.items lines now.taken from
still_same given items before now lines count from t most s =
    read_same (given before.feed) (given now.feed) items before.pending.items now.pending.items t.more lines before.taken now.taken count from
    t.gave t.pending t.size t.taken most s

-- where none came the same is pending
pub none_came : (pending pending_now more : List ℕ) (count : ℕ) → pending_now ≡ pending ++ more → count ≡ length more → count ≡ 0 → IsUnended pending → IsUnended pending_now
none_came pending pending_now [] count is size none h = subst IsUnended (sym is) (subst IsUnended (nil_behind pending) h)
  where
    nil_behind : (l : List ℕ) → l ≡ l ++ []
    nil_behind [] = refl
    nil_behind (x ∷ xs) = ap (λ (ys : List ℕ). x ∷ ys) (nil_behind xs)
none_came pending pending_now (x ∷ more) count is size none h = absurd (omega (arith, size, none))

pub still_unended : {T : Type 0} (given : T → Option (List ℕ)) (before now : Tail T) (count : ℕ) → Takes given before now count → count ≡ 0 →
    IsUnended before.pending.items → IsUnended now.pending.items
still_unended given before now count t none h = none_came before.pending.items now.pending.items t.more count t.pending t.size none h

-- ---- lines were passed

module _ (given : Option (List ℕ)) (items : List LogItem) (pending : List ℕ) (lines taken from : ℕ) (s : IsSame given items pending lines taken from) where
  -- due items behind those of the first items
  behind_first : (front : List ℕ) (more : List DueItem) → AreDueItems lines (lines_of front) more →
      AreDueItems 0 (lines_of (s.front ++ front)) (map due_of (take from items) ++ more)
  behind_first front more due =
      subst (λ (ls : List (List ℕ)). AreDueItems 0 ls (map due_of (take from items) ++ more)) (sym (lines_joined s.front front s.whole))
      (items_joined 0 (lines_of s.front) (lines_of front) (map due_of (take from items)) more s.due
      (subst (λ (n : ℕ). AreDueItems n (lines_of front) more) (let c = s.counted in omega (arith, c)) due))

  all_here : (front rest : List ℕ) → pending ≡ front ++ rest → IfSome given (λ bytes. bytes ≡ (s.front ++ front) ++ rest)
  all_here front rest cut =
      if_some given (λ bytes. bytes ≡ s.front ++ pending) (λ bytes. bytes ≡ (s.front ++ front) ++ rest)
      (λ bytes e. e ∙ (ap (λ (l : List ℕ). s.front ++ l) cut ∙ sym (append_assoc s.front front rest))) s.is_all

  first_of : (count : ℕ) → count ≤ length (drop from items) → take (from + count) items ≡ take from items ++ take count (drop from items)
  first_of count few =
      let whole : items ≡ (take from items ++ take count (drop from items)) ++ drop count (drop from items) =
      sym (take-append-drop from items)
      ∙ (ap (λ l. take from items ++ l) (sym (take-append-drop count (drop from items)))
      ∙ sym (append_assoc (take from items) (take count (drop from items)) (drop count (drop from items)))) in
      let size : length (take from items ++ take count (drop from items)) ≡ from + count =
      omega (arith, length-append (take from items) (take count (drop from items)), length-take-le from items s.few, length-take-le count (drop from items) few) in
      ap (take (from + count)) whole ∙ take_at (take from items ++ take count (drop from items)) (drop count (drop from items)) (from + count) size

  module _ (bytes lines_now count : ℕ) (pending_now : List ℕ) (c : IsCompared pending lines (drop from items) bytes lines_now count)
      (left : pending_now ≡ drop bytes pending) where
    rest_is : pending_now ≡ c.rest
    rest_is = left ∙ (ap (drop bytes) c.same.cut ∙ drop_at c.same.front c.rest bytes (sym c.size))

    pub passed_same : IsSame given items pending_now lines_now taken (from + count)
    passed_same =
        let few = c.same.few in
        let named : map due_of (take (from + count) items) ≡ map due_of (take from items) ++ map due_of (take count (drop from items)) =
        ap (map due_of) (first_of count few) ∙ map-append due_of (take from items) (take count (drop from items)) in
        let was = s.short in
        let most = s.most in
        record {
          front = s.front ++ c.same.front;
          whole = whole_joined s.front c.same.front s.whole c.same.whole;
          counted = omega (arith, s.counted, c.same.counted, ap length (lines_joined s.front c.same.front s.whole), length-append (lines_of s.front) (lines_of c.same.front));
          due = subst (AreDueItems 0 (lines_of (s.front ++ c.same.front))) (sym named) (behind_first c.same.front (map due_of (take count (drop from items))) c.same.due);
          is_all = subst (λ (l : List ℕ). IfSome given (λ bytes. bytes ≡ (s.front ++ c.same.front) ++ l)) (sym rest_is) (all_here c.same.front c.rest c.same.cut);
          few = let all = s.few in omega (arith, few, all, length-drop from items);
          short = omega (arith, was, c.same.counted, few_lines c.same.front, ap length c.same.cut, length-append c.same.front c.rest, ap length rest_is);
          most = most;
        }

  -- ---- what is not as it was answered

  pub missing_there : (x : LogItem) → from < length items → x ≡ get_or items from x → IsUnended pending →
      IfSome given (λ bytes. DiffersAt bytes items (line_of x))
  missing_there x lt at unended =
      let later : drop from items ≡ x ∷ drop (from + 1) items =
      at_drop_more (λ l. l) items from x lt ∙ ap (λ y. y ∷ drop (from + 1) items) (sym at) in
      if_some given (λ bytes. bytes ≡ s.front ++ pending) (λ bytes. DiffersAt bytes items (line_of x)) (λ bytes e. record {
        same = take from items;
        next = x;
        later = drop (from + 1) items;
        split = sym (take-append-drop from items) ∙ ap (λ l. take from items ++ l) later;
        cause = inr (record { front = s.front; rest = pending; whole = s.whole; split = e; unended = unended; due = s.due; is_line = refl });
      }) s.is_all

  pub other_in : (told : ℕ) → HasOther pending lines (drop from items) told → IfSome given (λ bytes. DiffersAt bytes items told)
  other_in told o =
      let named : map due_of (take from items) ++ (map due_of o.same ++ o.due ∷ []) ≡ map due_of (take from items ++ o.same) ++ o.due ∷ [] =
      sym (append_assoc (map due_of (take from items)) (map due_of o.same) (o.due ∷ []))
      ∙ ap (λ (l : List DueItem). l ++ o.due ∷ []) (sym (map-append due_of (take from items) o.same)) in
      let due : AreDueItems 0 (lines_of (s.front ++ o.front)) (map due_of (take from items ++ o.same) ++ o.due ∷ []) =
      subst (AreDueItems 0 (lines_of (s.front ++ o.front))) named (behind_first o.front (map due_of o.same ++ o.due ∷ []) o.next_due) in
      if_some given (λ bytes. bytes ≡ (s.front ++ o.front) ++ o.rest) (λ bytes. DiffersAt bytes items told) (λ bytes e. record {
        same = take from items ++ o.same;
        next = o.next;
        later = o.later;
        split = sym (take-append-drop from items)
            ∙ (ap (λ l. take from items ++ l) o.split ∙ sym (append_assoc (take from items) o.same (o.next ∷ o.later)));
        cause = inl (record {
          front = s.front ++ o.front;
          whole = whole_joined s.front o.front s.whole o.whole;
          is_front = (o.rest, sym e);
          due = o.due;
          next_due = due;
          other = o.other;
          first_of_both = o.first_of_both;
        });
      }) (all_here o.front o.rest o.cut)

pub comparing_refused : {T : Type 0} (given : T → Option (List ℕ)) (faults : T → ℕ) (items : List LogItem) (before now : Watched T) (lines taken from : ℕ) →
    IsSame (given now.tail.feed) items now.tail.pending.items lines taken from → (why : CatchUpStop) →
    StopsComparing now.tail.pending.items lines (drop from items) why → RefusesFeed given faults items before now why
comparing_refused given faults items before now lines taken from s stop.OutOfMemory h = absurd h
comparing_refused given faults items before now lines taken from s stop.Fault h = absurd h
comparing_refused given faults items before now lines taken from s (stop.Changed told) h =
    other_in (given now.tail.feed) items now.tail.pending.items lines taken from s told h

pub passed_on : {T : Type 0} (given : T → Option (List ℕ)) (items : List LogItem) (read now : Tail T) (lines from bytes lines_now count : ℕ) →
    IsSame (given read.feed) items read.pending.items lines read.taken from → IsCompared read.pending.items lines (drop from items) bytes lines_now count →
    now.pending.items ≡ drop bytes read.pending.items → now.feed ≡ read.feed → now.taken ≡ read.taken →
    IsSame (given now.feed) items now.pending.items lines_now now.taken (from + count)
passed_on given items read now lines from bytes lines_now count s c left feed taken =
    subst (λ (f : _). IsSame (given f) items now.pending.items lines_now now.taken (from + count)) (sym feed)
    (subst (λ (n : ℕ). IsSame (given read.feed) items now.pending.items lines_now n (from + count)) (sym taken)
    (passed_same (given read.feed) items read.pending.items lines read.taken from s bytes lines_now count now.pending.items c left))
