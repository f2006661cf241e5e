-- Where a round is told, its text stands.
use Rattle.std.proofs.Common.{◌≡◌, ℕ, zero, suc, ◌+◌, List, [], ◌∷◌, ◌++◌, length, Result, Ok, All, refl, sym, ap, subst, ◌∙◌, arith, append_assoc, append-nil, length-append}
use Rattle.std.specs.List.{flat_map}
use Rattle.std.proofs.lemmas.List.Elements.{All-nil, All-cons}
use Rattle.dm_text.specs.Places.{Place}
use Rattle.dm_text.specs.Judging.{Times, SpellsValue}
use Rattle.dm_rows.specs.declared.messages.Refusal.{Refusal}
use Rattle.dm_rows.specs.declared.messages.Refusal.TheVariants as refusal
use Rattle.dm_tree.specs.declared.plans.Plan.{Plan}
use Rattle.dm_parts.specs.declared.parts.PlanByParts.{PlanByParts}
use Rattle.dm_cert.specs.declared.faults.CertFault.{CertFault}
use Rattle.dm_cert.specs.declared.plan_lines.Heading.{Heading}
use Rattle.dm_cert.specs.declared.replies.Reply.{Reply}
use Rattle.dm_cert.specs.declared.replies.Reply.TheVariants as reply
use Rattle.dm_cert.specs.declared.replies.LogItem.{LogItem}
use Rattle.dm_cert.specs.declared.replies.LogItem.TheVariants.{Malformed, Answered}
use Rattle.dm_cert.specs.PlanTexts.{line_end}
use Rattle.dm_cert.specs.PlansRead.{IsHeadingLine, TellsPlan, plan_of}
use Rattle.dm_cert.specs.SolvedTexts.{spelling_of_solved}
use Rattle.dm_cert.specs.SolvedRead.{solved_heading_text}
use Rattle.dm_cert.specs.RunTexts.{feed_text, item_text, FitsItem, IsSpelledReason, IsSpelledReply}
use Rattle.dm_cert.proofs.HeadingsRead.{front_text, heading_spelled}
use Rattle.dm_cert.proofs.LineFeeds.{has_no_feed, heading_no_feed}
use Rattle.dm_cert.proofs.SolvedTold.{behind_first, SolvedBehindTold, solved_behind_told}
use Rattle.dm_cert.proofs.ToldTexts.{line_told, plan_told}
use Rattle.dm_records.specs.RunLines.{PlanOpening, SolvedOpening, ItemLine, lone, planned, solved, heading_of, solved_item, solved_opening_text, IsFormedReason, IsFormedReply, IsFormedItem}
use Rattle.dm_tape.specs.Rounds.{part_text, parts_text, round_text, NamesSome, ShowsSome, IsTapeItem, IsTapeRound}
use Rattle.dm_tape.specs.Told.{IsFirstLine, IsFeedLine, TellsBehind, TellsItem, TellsPart, TellsRound}
use Rattle.dm_records.proofs.ItemLines.{front_of, item_is, opening_is, solution_is, solved_opening_is, opening_same}

-- ---- several values

-- the texts of values, from a place in their list on
abbrev texts_from : {V : Type 0} → (ℕ → V → List ℕ) → ℕ → List V → List ℕ
texts_from text n [] = []
texts_from text n (v ∷ vs) = text n v ++ texts_from text (n + 1) vs

-- the text of a good value stands at the place
pub record Stands {V : Type 0} (text : V → List ℕ) (Good : V → Type 0) (v : V) (place next : Place) : Type 0 where
  pub left : place.left ≡ text v ++ next.left
  pub good : Good v

record AllStand {V : Type 0} (text : ℕ → V → List ℕ) (Good : V → Type 0) (n : ℕ) (held all : List V) (place next : Place) : Type 0 where
  tail : List V
  is : all ≡ held ++ tail
  left : place.left ≡ texts_from text (length held) tail ++ next.left
  count : length tail ≡ n
  good : All Good tail

times_stand : {V : Type 0} (step : List V → Place → Result (V × Place) CertFault → Type 0) (text : ℕ → V → List ℕ) (Good : V → Type 0) →
    ((before : List V) (place : Place) (v : V) (next : Place) → step before place (Ok (v, next)) → Stands (text (length before)) Good v place next) →
    (n : ℕ) (held all : List V) (place next : Place) → Times n step held place (Ok (all, next)) → AllStand text Good n held all place next
times_stand step text Good stands zero held all place next told = record {
  tail = [];
  is = told.0 ∙ sym (append-nil held);
  left = ap (λ (p : Place). p.left) (sym told.1);
  count = refl;
  good = All-nil Good;
}
times_stand {V} step text Good stands (suc n) held all place next told =
    let rest = times_stand step text Good stands n (held ++ told.value ∷ []) all told.behind next told.then in
    let first = stands held place told.value told.behind told.told in
    let more : length (held ++ told.value ∷ []) ≡ length held + 1 = length-append held (told.value ∷ []) in
    record {
      tail = told.value ∷ rest.tail;
      is = rest.is ∙ append_assoc held (told.value ∷ []) rest.tail;
      left = first.left ∙ (ap (λ xs. text (length held) told.value ++ xs) (rest.left ∙ ap (λ k. texts_from text k rest.tail ++ next.left) more)
          ∙ sym (append_assoc (text (length held) told.value) (texts_from text (length held + 1) rest.tail) next.left));
      count = omega (arith, rest.count);
      good = All-cons Good told.value rest.tail first.good rest.good;
    }

same_each : (text : LogItem → List ℕ) (n : ℕ) (xs : List LogItem) → texts_from (λ k. text) n xs ≡ flat_map text xs
same_each text n [] = refl
same_each text n (x ∷ xs) = ap (λ l. text x ++ l) (same_each text (n + 1) xs)

same_parts : (n : ℕ) (xs : List (List LogItem)) → texts_from (λ k. part_text (k + 1)) n xs ≡ parts_text (n + 1) xs
same_parts n [] = refl
same_parts n (x ∷ xs) = ap (λ l. part_text (n + 1) x ++ l) (same_parts (n + 1) xs)

-- ---- what has a form has a spelling

spelled_reason : (why : Refusal) → IsFormedReason why → IsSpelledReason why × NamesSome why
spelled_reason (refusal.Range v) formed = (tt, tt)
spelled_reason (refusal.UnknownEvent e) formed = (tt, tt)
spelled_reason (refusal.UnknownActivity a) formed = (tt, tt)
spelled_reason (refusal.UnknownChange a) formed = (tt, tt)
spelled_reason (refusal.UnknownPair i j) formed = (tt, tt)
spelled_reason (refusal.Passed e t) formed = (tt, tt)
spelled_reason (refusal.NotPassed e) formed = (tt, tt)
spelled_reason (refusal.Cancelled e) formed = (tt, tt)
spelled_reason (refusal.NotCancelled e) formed = (tt, tt)
spelled_reason (refusal.Locked c) formed = (formed.1, tt)
spelled_reason (refusal.NotLocked c) formed = (formed.1, tt)
spelled_reason (refusal.Back c) formed = (tt, tt)
spelled_reason (refusal.Cycle ids) formed = (tt, formed.0)
spelled_reason (refusal.Full n) formed = (formed, tt)
spelled_reason refusal.OutOfMemory formed = absurd formed

spelled_reply : (r : Reply) → IsFormedReply r → IsSpelledReply r × ShowsSome r
spelled_reply (reply.Ok n) formed = (tt, tt)
spelled_reply (reply.Refused at) formed = spelled_reason at.why formed.1
spelled_reply (reply.Time n x) formed = (tt, tt)
spelled_reply (reply.Cost n c) formed = (tt, tt)
spelled_reply (reply.Read n) formed = (tt, tt)
spelled_reply (reply.Planned plan) formed = absurd formed
spelled_reply (reply.Old n) formed = (tt, tt)
spelled_reply reply.NoPlan formed = (tt, tt)
spelled_reply reply.Plans formed = (tt, tt)
spelled_reply (reply.Range b) formed = (tt, tt)
spelled_reply (reply.Solved plan) formed = absurd formed

-- ---- items

of_form : (a : LogItem) → IsFormedItem a → FitsItem a → IsTapeItem a
of_form (Malformed line) formed fits = record { spelled = tt; fits = fits; some = tt }
of_form (Answered line said r) formed fits =
    let shown = spelled_reply r formed.2 in
    record { spelled = (formed.1.spelled, shown.0); fits = fits; some = shown.1 }

solved_same : (o : SolvedOpening) (plan : PlanByParts) (place next : Place) → SolvedBehindTold o.entry (heading_of o) plan place next →
    item_text 2 (solved_item o plan) ++ next.left ≡ (solved_opening_text o ++ line_end) ++ (behind_first plan ++ next.left)
solved_same o plan place next read =
    let first : List ℕ = solved_heading_text (heading_of o) in
    let front : List ℕ = front_of o.line o.said o.entry in
    let behind : List ℕ = behind_first plan in
    solution_is 2 o.line o.said plan next.left
    ∙ (ap (λ n. front_of o.line o.said n ++ (spelling_of_solved plan ++ next.left)) read.entry_is
    ∙ (ap (λ xs. front ++ (xs ++ next.left)) read.whole
    ∙ (ap (λ xs. front ++ xs) (append_assoc first behind next.left)
    ∙ (sym (append_assoc front first (behind ++ next.left))
    ∙ ap (λ xs. xs ++ (behind ++ next.left)) (sym (solved_opening_is o.line o.said o.entry (heading_of o)))))))

module _ (place behind next : Place) (x : LogItem) where
  lone_stands : (a : LogItem) → SpellsValue IsFirstLine place (lone a) behind → TellsBehind place.line (lone a) behind (Ok (x, next)) → Stands (item_text 2) IsTapeItem x place next
  lone_stands a told then =
      subst (λ (y : LogItem). Stands (item_text 2) IsTapeItem y place next) (sym then.0)
      (subst (λ (p : Place). Stands (item_text 2) IsTapeItem a place p) (sym then.1) (record {
        left = told.stands.whole ∙ (sym (append_assoc told.bytes line_end behind.left) ∙ ap (λ xs. xs ++ behind.left) (sym told.spelled.is_line.0));
        good = of_form a told.spelled.is_line.1 told.spelled.fits;
      }))

  plan_stands : (o : PlanOpening) → SpellsValue IsFirstLine place (planned o) behind → TellsBehind place.line (planned o) behind (Ok (x, next)) → Stands (item_text 2) IsTapeItem x place next
  plan_stands o told then =
      let formed = told.spelled.is_line.1 in
      let h : Heading = record { mark = o.mark; cost = o.cost; bound = o.bound; choices = o.choices; size = o.size } in
      let front : List ℕ = front_of o.line o.said o.entry in
      let here : Place = record { left = front_text 2 h ++ 10 ∷ behind.left; line = place.line } in
      let plan : Plan = plan_of o.entry h then.value then.then.value in
      let heading : SpellsValue (IsHeadingLine 2) here h behind = record {
        bytes = front_text 2 h;
        stands = record { whole = refl; one_line = has_no_feed (front_text 2 h) (heading_no_feed 2 h formed.cost formed.bound formed.choices formed.size); counted = told.stands.counted };
        spelled = record { spelled = heading_spelled 2 h; cost = formed.cost; bound = formed.bound; choices = formed.choices; size = formed.size };
      } in
      let tells : TellsPlan 2 o.entry here (Ok (plan, next)) = record {
        value = h;
        behind = behind;
        told = heading;
        then = record {
          value = then.value;
          behind = then.behind;
          told = then.told;
          then = record { value = then.then.value; behind = then.then.behind; told = then.then.told; then = (refl, then.then.then.1) };
        };
      } in
      let stands = plan_told 2 o.entry plan here next formed.entry tells in
      let opened : told.bytes ≡ front ++ front_text 2 h = sym told.spelled.is_line.0 ∙ opening_is 2 o.line o.said o.entry h in
      let shown : LogItem = Answered o.line o.said (reply.Planned plan) in
      subst (λ (y : LogItem). Stands (item_text 2) IsTapeItem y place next) (sym then.then.then.0) (record {
        left = told.stands.whole
            ∙ (ap (λ xs. xs ++ 10 ∷ behind.left) opened
            ∙ (append_assoc front (front_text 2 h) (10 ∷ behind.left) ∙ (ap (λ xs. front ++ xs) stands.left ∙ sym (item_is 2 o.line o.said plan next.left))));
        good = record { spelled = (formed.said.spelled, tt); fits = (formed.line, formed.said.fits, (formed.entry, stands.fits)); some = tt };
      })

  solved_stands : (o : SolvedOpening) → SpellsValue IsFirstLine place (solved o) behind → TellsBehind place.line (solved o) behind (Ok (x, next)) → Stands (item_text 2) IsTapeItem x place next
  solved_stands o told then =
      let formed = told.spelled.is_line.1 in
      let plan : PlanByParts = then.value in
      let read = solved_behind_told o.entry (heading_of o) plan behind then.behind formed.cost formed.bound formed.of_parts then.told in
      let entry = formed.entry in
      let same = read.entry_is in
      subst (λ (y : LogItem). Stands (item_text 2) IsTapeItem y place next) (sym then.then.0)
      (subst (λ (p : Place). Stands (item_text 2) IsTapeItem (solved_item o plan) place p) (sym then.then.1) (record {
        left = told.stands.whole
            ∙ (sym (append_assoc told.bytes line_end behind.left)
            ∙ (ap (λ xs. (xs ++ line_end) ++ behind.left) (sym told.spelled.is_line.0)
            ∙ (ap (λ xs. (solved_opening_text o ++ line_end) ++ xs) read.left ∙ sym (solved_same o plan behind then.behind read))));
        good = record { spelled = (formed.said.spelled, read.spelled); fits = (formed.line, formed.said.fits, (omega (arith, entry, same), read.fits)); some = tt };
      }))

item_stands_at : (place behind next : Place) (x : LogItem) (first : ItemLine) → SpellsValue IsFirstLine place first behind → TellsBehind place.line first behind (Ok (x, next)) → Stands (item_text 2) IsTapeItem x place next
item_stands_at place behind next x (lone a) told then = lone_stands place behind next x a told then
item_stands_at place behind next x (planned o) told then = plan_stands place behind next x o told then
item_stands_at place behind next x (solved o) told then = solved_stands place behind next x o told then

item_stands : (place : Place) (x : LogItem) (next : Place) → TellsItem place (Ok (x, next)) → Stands (item_text 2) IsTapeItem x place next
item_stands place x next told = item_stands_at place told.behind next x told.value told.told told.then

-- ---- rounds

part_stands : (number : ℕ) (place : Place) (items : List LogItem) (next : Place) → TellsPart number place (Ok (items, next)) → Stands (part_text number) (λ xs. All IsTapeItem xs) items place next
unfolding part_text
part_stands number place items next told =
    let first = line_told (IsFeedLine number) (λ n. feed_text number n) (λ n line is. opening_same (record { feed = number; items = n }) line is) place told.behind told.value told.told in
    let all = times_stand (λ before. TellsItem) (λ k. item_text 2) IsTapeItem (λ before p x n t. item_stands p x n t) told.value [] items told.behind next told.then in
    let count : told.value ≡ length items = sym (ap length all.is ∙ all.count) in
    let texts : told.behind.left ≡ flat_map (item_text 2) items ++ next.left =
    all.left ∙ ap (λ xs. xs ++ next.left) (same_each (item_text 2) 0 all.tail ∙ ap (λ (xs : List LogItem). flat_map (item_text 2) xs) (sym all.is)) in
    record {
      left = first ∙ (ap (λ n. feed_text number n ++ told.behind.left) count
          ∙ (ap (λ xs. feed_text number (length items) ++ xs) texts ∙ sym (append_assoc (feed_text number (length items)) (flat_map (item_text 2) items) next.left)));
      good = subst (All IsTapeItem) (sym all.is) all.good;
    }

pub record RoundStands (feeds : ℕ) (round : List (List LogItem)) (place next : Place) : Type 0 where
  pub left : place.left ≡ round_text round ++ next.left
  pub count : length round ≡ feeds
  pub good : IsTapeRound round

pub round_stands : (feeds : ℕ) (round : List (List LogItem)) (place next : Place) → TellsRound feeds place (Ok (round, next)) → RoundStands feeds round place next
unfolding round_text
round_stands feeds round place next told =
    let all = times_stand (λ before. TellsPart (length before + 1)) (λ k. part_text (k + 1)) (λ xs. All IsTapeItem xs) (λ before p x n t. part_stands (length before + 1) p x n t) feeds [] round place next told in
    record {
      left = all.left ∙ ap (λ xs. xs ++ next.left) (same_parts 0 all.tail ∙ ap (parts_text 1) (sym all.is));
      count = ap length all.is ∙ all.count;
      good = subst IsTapeRound (sym all.is) all.good;
    }
