-- Where the text of a round stands, the round is told.
use Rattle.std.proofs.Common.{◌≡◌, ℕ, ◌+◌, ◌<◌, ◌≤◌, List, [], ◌∷◌, ◌++◌, length, Result, Ok, All, refl, sym, ap, subst, ◌∙◌, arith, append_assoc, append-nil, length-append, codes}
use Rattle.std.specs.List.{flat_map}
use Rattle.std.specs.Fmt.{decimal}
use Rattle.std.proofs.lemmas.List.{append_cancel_right}
use Rattle.std.proofs.lemmas.List.Elements.{All-append, All-head, All-tail}
use Rattle.dm_text.specs.Places.{Place}
use Rattle.dm_text.specs.Judging.{Times}
use Rattle.dm_rows.specs.declared.messages.Decision.{Decision}
use Rattle.dm_rows.specs.declared.messages.Refusal.{Refusal}
use Rattle.dm_feed.specs.declared.grammar.Line.{Line}
use Rattle.dm_feed.specs.Parts.{largest_id}
use Rattle.dm_feed.specs.Lines.{spelling_of_line}
use Rattle.dm_tree.specs.declared.forms.Node.{Node}
use Rattle.dm_tree.specs.declared.plans.Plan.{Plan}
use Rattle.dm_parts.specs.declared.parts.PlanByParts.{PlanByParts}
use Rattle.dm_cert.specs.declared.faults.CertFault.{CertFault}
use Rattle.dm_cert.specs.declared.plan_lines.Heading.{Heading}
use Rattle.dm_cert.specs.declared.solved_lines.SolvedHeading.{SolvedHeading}
use Rattle.dm_cert.specs.declared.replies.Reply.{Reply}
use Rattle.dm_cert.specs.declared.replies.Reply.TheVariants as reply
use Rattle.dm_cert.specs.declared.replies.LogItem.{LogItem}
use Rattle.dm_cert.specs.declared.replies.LogItem.TheVariants.{Malformed, Answered}
use Rattle.dm_cert.specs.PlanTexts.{line_end, largest_cost, choice_text, node_text, spelling_of_plan, FitsDecision, FitsNode, FitsPlan}
use Rattle.dm_cert.specs.PlansRead.{IsChoiceLine, IsNodeLine, BeginsWithPlan}
use Rattle.dm_cert.specs.SolvedTexts.{spelling_of_solved, IsSpelledSolved, FitsSolved}
use Rattle.dm_cert.specs.RunTexts.{feed_text, item_text, reply_text, FitsItem}
use Rattle.dm_cert.proofs.HeadingsRead.{front_text, heading_spelled}
use Rattle.dm_cert.proofs.LineFeeds.{has_no_feed}
use Rattle.dm_cert.proofs.SpelledPlans.{HasLine, line_stands, plan_stands, IsCounted, begun_is_told}
use Rattle.dm_cert.proofs.SpelledSolved.{few_solved, solved_stands}
use Rattle.dm_cert.proofs.ToldTexts.{times_told}
use Rattle.dm_records.specs.RunLines.{PlanOpening, SolvedOpening, lone, planned, solved, solved_opening_text, IsFormedReply, IsFormedSaid}
use Rattle.dm_tape.specs.Rounds.{part_text, parts_text, NamesSome, IsTapeItem}
use Rattle.dm_tape.specs.Told.{IsFirstLine, IsFeedLine, TellsItem, TellsPart, plan_item}
use Rattle.dm_records.proofs.ItemsRead.{known_in_second, formed_is_known}
use Rattle.dm_records.proofs.ItemLines.{ItemHasLine, malformed_line, answered_line, front_of, item_is, opening_at, opening_is, front_no_feed, solution_is, solved_opening_at, solved_opening_is, opening_line, formed_reason}

-- the value is told at the place, and this is left behind what it was read from
pub record Told {V : Type 0} (tells : Place → Result (V × Place) CertFault → Type 0) (v : V) (place : Place) (rest : List ℕ) : Type 0 where
  pub next : Place
  pub left : next.left ≡ rest
  pub told : tells place (Ok (v, next))

abbrev IsShort : Place → Type 0
IsShort place = length place.left ≤ 536870912

-- ---- items of one line

lone_told : (answered : LogItem) → ItemHasLine 2 answered → FitsItem answered → (place : Place) (rest : List ℕ) → place.left ≡ item_text 2 answered ++ rest → Told TellsItem answered place rest
lone_told answered has fits place rest left =
    let line : HasLine IsFirstLine (λ i. item_text 2 answered) (lone answered) = record { line = has.line; text_is = has.text_is; one_line = has.one_line; spelled = record { is_line = has.spelled; fits = fits } } in
    let next : Place = record { left = rest; line = place.line + 1 } in
    record {
      next = next;
      left = refl;
      told = record { value = lone answered; behind = next; told = line_stands IsFirstLine (λ i. item_text 2 answered) (lone answered) place rest line left; then = (refl, refl) };
    }

alone : (line : ℕ) (said : Line) (r : Reply) → IsTapeItem (Answered line said r) → IsFormedReply r → (place : Place) (rest : List ℕ) → place.left ≡ item_text 2 (Answered line said r) ++ rest → Told TellsItem (Answered line said r) place rest
alone line said r is formed place rest left =
    lone_told (Answered line said r) (answered_line 2 line said r is.fits.0 (record { spelled = is.spelled.0; fits = is.fits.1 }) formed (known_in_second 2 said refl, formed_is_known 2 r formed)) is.fits place rest left

-- ---- items with a plan

-- the lists of a plan whose text is not long are not long
plan_counted : (plan : Plan) (rest : List ℕ) → FitsPlan plan → length (spelling_of_plan 2 plan ++ rest) ≤ 536870912 → IsCounted 2 plan
plan_counted plan rest fits short =
    let bytes : List ℕ = spelling_of_plan 2 plan ++ rest in
    let begins : BeginsWithPlan 2 plan.entry bytes plan (length (spelling_of_plan 2 plan)) = record { rest = rest; text = refl; used = refl; fits = fits; entry = refl } in
    let told = (begun_is_told 2 plan.entry bytes plan (length (spelling_of_plan 2 plan)) short begins).told in
    let choices = times_told IsChoiceLine choice_text FitsDecision (λ d line is. is.spelled) (λ d line is. is.fits) told.value.choices [] told.then.value told.behind told.then.behind told.then.told in
    let tree = told.then.then.told in
    let nodes = times_told IsNodeLine node_text FitsNode (λ n line is. is.spelled) (λ n line is. is.fits) told.value.size [] tree.value told.then.behind tree.behind tree.told in
    let many : length plan.choices ≡ length choices.tail = ap (λ (p : Plan). length p.choices) told.then.then.then.0 ∙ ap length choices.is in
    let all : length plan.tree ≡ length nodes.tail = ap (λ (p : Plan). length p.tree) told.then.then.then.0 ∙ (ap length tree.then.0.shown ∙ ap length nodes.is) in
    record {
      choices = omega (arith, many, choices.count, told.told.spelled.choices);
      size = omega (arith, all, nodes.count, told.told.spelled.size);
    }

planned_told : (line : ℕ) (said : Line) (plan : Plan) → line ≤ largest_id → IsFormedSaid said → plan.entry ≤ largest_id → FitsPlan plan → (place : Place) (rest : List ℕ) → IsShort place
    → place.left ≡ item_text 2 (Answered line said (reply.Planned plan)) ++ rest → Told TellsItem (Answered line said (reply.Planned plan)) place rest
planned_told line said plan low formed at fits place rest short left =
    let x : LogItem = Answered line said (reply.Planned plan) in
    let text : List ℕ = spelling_of_plan 2 plan in
    let front : List ℕ = front_of line said plan.entry in
    let is : place.left ≡ front ++ (text ++ rest) = left ∙ item_is 2 line said plan rest in
    let counted = plan_counted plan rest fits (omega (arith, short, ap length is, length-append front (text ++ rest))) in
    let stands = plan_stands 2 plan (record { left = text ++ rest; line = place.line }) rest fits counted refl in
    let told = stands.told in
    let h : Heading = told.value in
    let choices : List Decision = told.then.value in
    let nodes : List Node = told.then.then.value in
    let o : PlanOpening = opening_at line said plan.entry h in
    let bytes : List ℕ = told.told.bytes in
    let same : front_text 2 h ≡ bytes = append_cancel_right (front_text 2 h) bytes line_end (sym (heading_spelled 2 h) ∙ told.told.spelled.spelled) in
    let plan_is : x ≡ plan_item o choices nodes = ap (λ (p : Plan). Answered line said (reply.Planned p)) told.then.then.then.0 in
    let behind : told.then.then.behind ≡ stands.next = sym told.then.then.then.1 in
    record {
      next = told.then.then.behind;
      left = ap (λ (p : Place). p.left) behind ∙ stands.left;
      told = record {
        value = planned o;
        behind = told.behind;
        told = record {
          bytes = front ++ bytes;
          stands = record {
            whole = is ∙ (ap (λ xs. front ++ xs) told.told.stands.whole ∙ sym (append_assoc front bytes (10 ∷ told.behind.left)));
            one_line = All-append (λ b. b ≡ 10 → ⊥) front bytes (has_no_feed front (front_no_feed line said plan.entry low formed.fits at)) told.told.stands.one_line;
            counted = told.told.stands.counted;
          };
          spelled = record {
            is_line = (
              opening_is 2 line said plan.entry h ∙ ap (λ xs. front ++ xs) same,
              record {
                line = low;
                said = formed;
                entry = at;
                cost = told.told.spelled.cost;
                bound = told.told.spelled.bound;
                choices = told.told.spelled.choices;
                size = told.told.spelled.size;
              },
              known_in_second 2 said refl,
            );
            fits = tt;
          };
        };
        then = record {
          value = choices;
          behind = told.then.behind;
          told = told.then.told;
          then = record { value = nodes; behind = told.then.then.behind; told = told.then.then.told; then = (plan_is, refl) };
        };
      };
    }

-- ---- items with a plan by parts

solution_told : (line : ℕ) (said : Line) (plan : PlanByParts) → line ≤ largest_id → IsFormedSaid said → plan.entry ≤ largest_id → FitsSolved plan → IsSpelledSolved plan → (place : Place) (rest : List ℕ) → IsShort place
    → place.left ≡ item_text 2 (Answered line said (reply.Solved plan)) ++ rest → Told TellsItem (Answered line said (reply.Solved plan)) place rest
solution_told line said plan low formed at fits spelled place rest short left =
    let text : List ℕ = spelling_of_solved plan in
    let front : List ℕ = front_of line said plan.entry in
    let is : place.left ≡ front ++ (text ++ rest) = left ∙ solution_is 2 line said plan rest in
    let counted = few_solved plan (text ++ rest) rest fits spelled (omega (arith, short, ap length is, length-append front (text ++ rest))) refl in
    let stands = solved_stands plan (record { left = text ++ rest; line = place.line }) rest fits spelled counted refl in
    let told = stands.told in
    let h : SolvedHeading = told.value in
    let o : SolvedOpening = solved_opening_at line said plan.entry h in
    let bytes : List ℕ = told.told.bytes in
    let first : solved_opening_text o ≡ front ++ bytes =
    append_cancel_right (solved_opening_text o) (front ++ bytes) line_end
    (solved_opening_is line said plan.entry h ∙ (ap (λ xs. front ++ xs) told.told.spelled.spelled ∙ sym (append_assoc front bytes line_end))) in
    record {
      next = stands.next;
      left = stands.left;
      told = record {
        value = solved o;
        behind = told.behind;
        told = record {
          bytes = front ++ bytes;
          stands = record {
            whole = is ∙ (ap (λ xs. front ++ xs) told.told.stands.whole ∙ sym (append_assoc front bytes (10 ∷ told.behind.left)));
            one_line = All-append (λ b. b ≡ 10 → ⊥) front bytes (has_no_feed front (front_no_feed line said plan.entry low formed.fits at)) told.told.stands.one_line;
            counted = told.told.stands.counted;
          };
          spelled = record {
            is_line = (
              first,
              record {
                line = low;
                said = formed;
                entry = at;
                cost = told.told.spelled.cost;
                bound = told.told.spelled.bound;
                choices = told.told.spelled.choices;
                parts = told.told.spelled.parts;
                nodes = told.told.spelled.nodes;
                of_parts = told.told.spelled.of_parts;
              },
              refl,
            );
            fits = tt;
          };
        };
        then = record { value = plan; behind = stands.next; told = told.then; then = (refl, refl) };
      };
    }

-- ---- the item

pub item_told : (x : LogItem) → IsTapeItem x → (place : Place) (rest : List ℕ) → IsShort place → place.left ≡ item_text 2 x ++ rest → Told TellsItem x place rest
item_told (Malformed line) is place rest short left = lone_told (Malformed line) (malformed_line 2 line is.fits) is.fits place rest left
item_told (Answered line said (reply.Ok n)) is place rest short left = alone line said (reply.Ok n) is is.fits.2 place rest left
item_told (Answered line said (reply.Refused at)) is place rest short left =
    alone line said (reply.Refused at) is (is.fits.2.0, formed_reason at.why is.fits.2.1 is.spelled.1 (λ ids e. subst (λ (why : Refusal). NamesSome why) e is.some)) place rest left
item_told (Answered line said (reply.Time n x)) is place rest short left =
    let low = is.fits.2.1 in alone line said (reply.Time n x) is (is.fits.2.0, omega (arith, low)) place rest left
item_told (Answered line said (reply.Cost n c)) is place rest short left = alone line said (reply.Cost n c) is is.fits.2 place rest left
item_told (Answered line said (reply.Read n)) is place rest short left = alone line said (reply.Read n) is is.fits.2 place rest left
item_told (Answered line said (reply.Planned plan)) is place rest short left =
    planned_told line said plan is.fits.0 (record { spelled = is.spelled.0; fits = is.fits.1 }) is.fits.2.0 is.fits.2.1 place rest short left
item_told (Answered line said (reply.Solved plan)) is place rest short left =
    solution_told line said plan is.fits.0 (record { spelled = is.spelled.0; fits = is.fits.1 }) is.fits.2.0 is.fits.2.1 is.spelled.1 place rest short left
item_told (Answered line said (reply.Old n)) is place rest short left = alone line said (reply.Old n) is is.fits.2 place rest left
item_told (Answered line said reply.NoPlan) is place rest short left = alone line said reply.NoPlan is tt place rest left
item_told (Answered line said reply.Plans) is place rest short left = alone line said reply.Plans is tt place rest left
item_told (Answered line said (reply.Range b)) is place rest short left =
    let low = is.fits.2 in alone line said (reply.Range b) is (omega (arith, low)) place rest left

items_told : (held xs : List LogItem) (place : Place) (rest : List ℕ) → All IsTapeItem xs → IsShort place → place.left ≡ flat_map (item_text 2) xs ++ rest
    → Told (Times (length xs) (λ before. TellsItem) held) (held ++ xs) place rest
items_told held [] place rest are short left = record { next = place; left = left; told = (append-nil held, refl) }
items_told held (x ∷ xs) place rest are short left =
    let later : List ℕ = flat_map (item_text 2) xs ++ rest in
    let is : place.left ≡ item_text 2 x ++ later = left ∙ append_assoc (item_text 2 x) (flat_map (item_text 2) xs) rest in
    let one = item_told x (All-head IsTapeItem x xs are) place later short is in
    let two = items_told (held ++ x ∷ []) xs one.next rest (All-tail IsTapeItem x xs are) (omega (arith, short, ap length is, ap length one.left, length-append (item_text 2 x) later)) one.left in
    record {
      next = two.next;
      left = two.left;
      told = record {
        value = x;
        behind = one.next;
        told = one.told;
        then = subst (λ (all : List LogItem). Times {F = CertFault} (length xs) (λ before. TellsItem) (held ++ x ∷ []) one.next (Ok (all, two.next))) (append_assoc held (x ∷ []) xs) two.told;
      };
    }

-- ---- parts

spaced : (number behind : List ℕ) → 0 < length (number ++ (codes " " ++ behind))
spaced number behind = omega (arith, length-append number (codes " " ++ behind), length-append (codes " ") behind)

some_bytes : (x : LogItem) → 0 < length (item_text 2 x)
unfolding item_text
some_bytes (Malformed line) = omega (arith, length-append (decimal line) (codes " malformed" ++ (line_end ++ [])), length-append (codes " malformed") (line_end ++ []))
some_bytes (Answered line said r) = spaced (decimal line) (spelling_of_line said ++ (codes " -> " ++ (reply_text 2 r ++ [])))

few_items : (xs : List LogItem) → length xs ≤ length (flat_map (item_text 2) xs)
few_items [] = omega arith
few_items (x ∷ xs) = omega (arith, some_bytes x, few_items xs, length-append (item_text 2 x) (flat_map (item_text 2) xs))

part_told : (number : ℕ) (items : List LogItem) → number ≤ largest_cost → All IsTapeItem items → (place : Place) (rest : List ℕ) → IsShort place → place.left ≡ part_text number items ++ rest → Told (TellsPart number) items place rest
unfolding part_text
part_told number items low are place rest short left =
    let texts : List ℕ = flat_map (item_text 2) items in
    let opened : List ℕ = feed_text number (length items) in
    let is : place.left ≡ opened ++ (texts ++ rest) = left ∙ append_assoc opened texts rest in
    let small : length (texts ++ rest) ≤ 536870912 = omega (arith, short, ap length is, length-append opened (texts ++ rest)) in
    let many : length items ≤ largest_cost = omega (arith, small, few_items items, length-append texts rest) in
    let has = opening_line (record { feed = number; items = length items }) low many in
    let line : HasLine (IsFeedLine number) (λ n. feed_text number n) (length items) = record { line = has.line; text_is = has.text_is; one_line = has.one_line; spelled = has.spelled } in
    let next : Place = record { left = texts ++ rest; line = place.line + 1 } in
    let behind = items_told [] items next rest are small refl in
    record {
      next = behind.next;
      left = behind.left;
      told = record { value = length items; behind = next; told = line_stands (IsFeedLine number) (λ n. feed_text number n) (length items) place (texts ++ rest) line is; then = behind.told };
    }

pub parts_told : (held xs : List (List LogItem)) (place : Place) (rest : List ℕ) → length held + length xs ≤ largest_cost → All (λ items. All IsTapeItem items) xs → IsShort place → place.left ≡ parts_text (length held + 1) xs ++ rest
    → Told (Times (length xs) (λ before. TellsPart (length before + 1)) held) (held ++ xs) place rest
parts_told held [] place rest few are short left = record { next = place; left = left; told = (append-nil held, refl) }
parts_told held (x ∷ xs) place rest few are short left =
    let number : ℕ = length held + 1 in
    let later : List ℕ = parts_text (number + 1) xs ++ rest in
    let is : place.left ≡ part_text number x ++ later = left ∙ append_assoc (part_text number x) (parts_text (number + 1) xs) rest in
    let one = part_told number x (omega (arith, few)) (All-head (λ items. All IsTapeItem items) x xs are) place later short is in
    let more : length (held ++ x ∷ []) ≡ number = length-append held (x ∷ []) in
    let two = parts_told (held ++ x ∷ []) xs one.next rest (omega (arith, few, more)) (All-tail (λ items. All IsTapeItem items) x xs are)
    (omega (arith, short, ap length is, ap length one.left, length-append (part_text number x) later)) (one.left ∙ ap (λ n. parts_text (n + 1) xs ++ rest) (sym more)) in
    record {
      next = two.next;
      left = two.left;
      told = record {
        value = x;
        behind = one.next;
        told = one.told;
        then = subst (λ (all : List (List LogItem)). Times {F = CertFault} (length xs) (λ before. TellsPart (length before + 1)) (held ++ x ∷ []) one.next (Ok (all, two.next))) (append_assoc held (x ∷ []) xs) two.told;
      };
    }
