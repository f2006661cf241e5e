-- The lines of items and of the counts before them, as they stand in print.
use Rattle.std.proofs.Common.{◌≡◌, ℕ, ◌<◌, ◌≤◌, List, [], ◌∷◌, ◌++◌, length, All, refl, sym, ap, ◌∙◌, arith, append_assoc, append-nil, codes}
use Rattle.std.specs.List.{flat_map}
use Rattle.std.specs.Fmt.{decimal}
use Rattle.std.proofs.lemmas.List.Elements.{All-head, All-tail}
use Rattle.dm_base.specs.declared.ids.ActId.{ActId}
use Rattle.dm_rows.specs.declared.messages.Choice.{Choice}
use Rattle.dm_rows.specs.declared.messages.Refusal.{Refusal}
use Rattle.dm_rows.specs.declared.messages.Refusal.TheVariants as refusal
use Rattle.dm_feed.specs.declared.grammar.Line.{Line}
use Rattle.dm_feed.specs.Parts.{largest_id, Fits}
use Rattle.dm_feed.specs.Lines.{spelling_of_choice, spelling_of_line, parts_of_choice, parts_of_line}
use Rattle.dm_tree.specs.declared.plans.Plan.{Plan}
use Rattle.dm_parts.specs.declared.parts.PlanByParts.{PlanByParts}
use Rattle.dm_cert.specs.declared.solved_lines.SolvedHeading.{SolvedHeading}
use Rattle.dm_cert.specs.declared.plan_lines.Heading.{Heading}
use Rattle.dm_cert.specs.declared.replies.Reply.{Reply}
use Rattle.dm_cert.specs.declared.replies.Reply.TheVariants as reply
use Rattle.dm_cert.specs.declared.replies.Reply.TheVariants.{Planned, Solved}
use Rattle.dm_cert.specs.declared.replies.LogItem.{LogItem}
use Rattle.dm_cert.specs.declared.replies.LogItem.TheVariants.{Malformed, Answered}
use Rattle.dm_cert.specs.PlanTexts.{line_end, largest_cost, spelling_of_plan}
use Rattle.dm_cert.specs.SolvedTexts.{spelling_of_solved}
use Rattle.dm_cert.specs.SolvedRead.{solved_heading_text}
use Rattle.dm_cert.specs.RunTexts.{feed_text, item_text, reply_text, reason_text, spaced_id, FitsReason, IsSpelledReason, KnowsItem}
use Rattle.dm_cert.proofs.HeadingsRead.{front_text}
use Rattle.dm_cert.proofs.LineFeeds.{NoFeed, has_no_feed, no_feed_append, no_feed_decimal}
use Rattle.dm_cert.proofs.SpelledPlans.{HasLine}
use Rattle.dm_records.specs.RunLines.{LogOpening, PlanOpening, SolvedOpening, lone, IsOpeningLine, IsItemLine, IsFormedReason, IsFormedReply, IsFormedSaid, opening_text, solved_opening_text}
use Rattle.dm_records.proofs.ItemsRead.{said_body, malformed_text}
use Rattle.dm_records.proofs.LinesSpelled.{number_then}
use Rattle.dm_records.proofs.Splitting.{parts_no_feed}

-- ---- an answer of one line

ids_no_feed : (ids : List ActId) → All (λ a. a.0 ≤ largest_id) ids → NoFeed (flat_map spaced_id ids)
ids_no_feed [] fits = refl
ids_no_feed (a ∷ ids) fits =
    let low : a.0 ≤ largest_id = All-head (λ (x : ActId). x.0 ≤ largest_id) a ids fits in
    no_feed_append (spaced_id a) (flat_map spaced_id ids) (no_feed_append (codes " ") (decimal a.0) refl (no_feed_decimal a.0 (omega (arith, low))))
    (ids_no_feed ids (All-tail (λ (x : ActId). x.0 ≤ largest_id) a ids fits))

-- words with a number, and with two
one_number : (words : List ℕ) (n : ℕ) → NoFeed words → n ≤ largest_cost → NoFeed (words ++ (decimal n ++ []))
one_number words n none low = no_feed_append words (decimal n ++ []) none (number_then n [] low refl)

two_numbers : (words : List ℕ) (m n : ℕ) → NoFeed words → m ≤ largest_cost → n ≤ largest_cost → NoFeed (words ++ (decimal m ++ (codes " " ++ (decimal n ++ []))))
two_numbers words m n none low high =
    no_feed_append words (decimal m ++ (codes " " ++ (decimal n ++ []))) none (number_then m (codes " " ++ (decimal n ++ [])) low (one_number (codes " ") n refl high))

-- words with the ids of a choice
choice_no_feed : (words : List ℕ) (c : Choice) → NoFeed words → All Fits (parts_of_choice c) → NoFeed (words ++ (spelling_of_choice c ++ []))
choice_no_feed words c none fits =
    no_feed_append words (spelling_of_choice c ++ []) none (no_feed_append (spelling_of_choice c) [] (parts_no_feed (parts_of_choice c) fits) refl)

reason_no_feed : (why : Refusal) → IsFormedReason why → NoFeed (reason_text why)
reason_no_feed (refusal.Range v) formed = one_number (codes "range ") v refl formed
reason_no_feed (refusal.UnknownEvent e) formed = one_number (codes "unknown-event ") e.0 refl (omega (arith, formed))
reason_no_feed (refusal.UnknownActivity a) formed = one_number (codes "unknown-activity ") a.0 refl (omega (arith, formed))
reason_no_feed (refusal.UnknownChange a) formed = one_number (codes "unknown-change ") a.0 refl (omega (arith, formed))
reason_no_feed (refusal.UnknownPair i j) formed = two_numbers (codes "unknown-pair ") i.0 j.0 refl (omega (arith, formed.0)) (omega (arith, formed.1))
reason_no_feed (refusal.Passed e t) formed = two_numbers (codes "passed ") e.0 t refl (omega (arith, formed.0)) formed.1
reason_no_feed (refusal.NotPassed e) formed = one_number (codes "not-passed ") e.0 refl (omega (arith, formed))
reason_no_feed (refusal.Cancelled e) formed = one_number (codes "cancelled ") e.0 refl (omega (arith, formed))
reason_no_feed (refusal.NotCancelled e) formed = one_number (codes "not-cancelled ") e.0 refl (omega (arith, formed))
reason_no_feed (refusal.Locked c) formed = choice_no_feed (codes "locked ") c refl formed.0
reason_no_feed (refusal.NotLocked c) formed = choice_no_feed (codes "not-locked ") c refl formed.0
reason_no_feed (refusal.Back c) formed = one_number (codes "back ") c refl formed
reason_no_feed (refusal.Cycle ids) formed = no_feed_append (codes "cycle") (flat_map spaced_id ids ++ []) refl (no_feed_append (flat_map spaced_id ids) [] (ids_no_feed ids formed.1) refl)
reason_no_feed (refusal.Full n) formed = refl
reason_no_feed refusal.OutOfMemory formed = absurd formed

-- a reason that fits, is spelled and shows some activity where it shows a cycle has the form of one
pub formed_reason : (why : Refusal) → FitsReason why → IsSpelledReason why → ((ids : List ActId) → why ≡ refusal.Cycle ids → 0 < length ids) → IsFormedReason why
formed_reason (refusal.Range v) fits is some = omega arith
formed_reason (refusal.UnknownEvent e) fits is some = fits
formed_reason (refusal.UnknownActivity a) fits is some = fits
formed_reason (refusal.UnknownChange a) fits is some = fits
formed_reason (refusal.UnknownPair i j) fits is some = fits
formed_reason (refusal.Passed e t) fits is some = (fits.0, (let low = fits.1 in omega arith))
formed_reason (refusal.NotPassed e) fits is some = fits
formed_reason (refusal.Cancelled e) fits is some = fits
formed_reason (refusal.NotCancelled e) fits is some = fits
formed_reason (refusal.Locked c) fits is some = (fits, is)
formed_reason (refusal.NotLocked c) fits is some = (fits, is)
formed_reason (refusal.Back c) fits is some = omega arith
formed_reason (refusal.Cycle ids) fits is some = (some ids refl, fits)
formed_reason (refusal.Full n) fits is some = is
formed_reason refusal.OutOfMemory fits is some = is

-- the answer's bytes in front of its line end
pub record ReplyLine (version : ℕ) (r : Reply) : Type 0 where
  pub body : List ℕ
  pub is : reply_text version r ≡ body ++ line_end
  pub one_line : NoFeed body

ended : (n words : List ℕ) → n ++ (words ++ line_end) ≡ (n ++ words) ++ line_end
ended n words = sym (append_assoc n words line_end)

ended_behind : (n words tail : List ℕ) → n ++ (words ++ (tail ++ line_end)) ≡ (n ++ (words ++ tail)) ++ line_end
ended_behind n words tail = sym (simp append_assoc)

at_entry : (version : ℕ) (r : Reply) (n : ℕ) (words : List ℕ) → reply_text version r ≡ decimal n ++ (words ++ line_end) → n ≤ largest_id → NoFeed words → ReplyLine version r
at_entry version r n words is low none = record {
  body = decimal n ++ words;
  is = is ∙ ended (decimal n) words;
  one_line = number_then n words (omega (arith, low)) none;
}

at_entry_with : (version : ℕ) (r : Reply) (n : ℕ) (words tail : List ℕ) → reply_text version r ≡ decimal n ++ (words ++ (tail ++ line_end)) → n ≤ largest_id → NoFeed words → NoFeed tail → ReplyLine version r
at_entry_with version r n words tail is low none also = record {
  body = decimal n ++ (words ++ tail);
  is = is ∙ ended_behind (decimal n) words tail;
  one_line = number_then n (words ++ tail) (omega (arith, low)) (no_feed_append words tail none also);
}

pub reply_line : (version : ℕ) (r : Reply) → IsFormedReply r → ReplyLine version r
unfolding reply_text
reply_line version (reply.Ok n) formed = at_entry version (reply.Ok n) n (codes " ok") refl formed refl
reply_line version (reply.Refused at) formed =
    at_entry_with version (reply.Refused at) at.entry (codes " refused ") (reason_text at.why) refl formed.0 refl (reason_no_feed at.why formed.1)
reply_line version (reply.Time n x) formed = at_entry_with version (reply.Time n x) n (codes " time ") (decimal x) refl formed.0 refl (no_feed_decimal x (let low = formed.1 in omega (arith, low)))
reply_line version (reply.Cost n c) formed = at_entry_with version (reply.Cost n c) n (codes " cost ") (decimal c) refl formed.0 refl (no_feed_decimal c (let low = formed.1 in omega (arith, low)))
reply_line version (reply.Read n) formed = at_entry version (reply.Read n) n (codes " read") refl formed refl
reply_line version (reply.Planned plan) formed = absurd formed
reply_line version (reply.Old n) formed = at_entry version (reply.Old n) n (codes " old") refl formed refl
reply_line version reply.NoPlan formed = record { body = codes "noplan"; is = refl; one_line = refl }
reply_line version reply.Plans formed = record { body = codes "plans"; is = refl; one_line = refl }
reply_line version (reply.Range b) formed = record {
  body = codes "range " ++ decimal b;
  is = ended (codes "range ") (decimal b);
  one_line = no_feed_append (codes "range ") (decimal b) refl (no_feed_decimal b (omega (arith, formed)));
}
reply_line version (reply.Solved plan) formed = absurd formed

-- ---- items of one line

abbrev pub ItemHasLine : ℕ → LogItem → Type 0
ItemHasLine version answered = HasLine (IsItemLine version) (λ i. item_text version answered) (lone answered)

pub malformed_line : (version n : ℕ) → n ≤ largest_id → ItemHasLine version (Malformed n)
malformed_line version n low = record {
  line = decimal n ++ codes " malformed";
  text_is = malformed_text version n;
  one_line = has_no_feed (decimal n ++ codes " malformed") (number_then n (codes " malformed") (omega arith) refl);
  spelled = (malformed_text version n, low, tt);
}

said_no_feed : (n : ℕ) (said : Line) (tail : List ℕ) → n ≤ largest_id → All Fits (parts_of_line said) → NoFeed tail → NoFeed (said_body n said tail)
unfolding spelling_of_line
said_no_feed n said tail low fits none =
    let told : List ℕ = codes " -> " ++ tail in
    let spoken : List ℕ = spelling_of_line said ++ told in
    let a : NoFeed told = no_feed_append (codes " -> ") tail refl none in
    let b : NoFeed spoken = no_feed_append (spelling_of_line said) told (parts_no_feed (parts_of_line said) fits) a in
    number_then n (codes " " ++ spoken) (omega (arith, low)) (no_feed_append (codes " ") spoken refl b)

answered_is : (version n : ℕ) (said : Line) (r : Reply) (body : List ℕ) → reply_text version r ≡ body ++ line_end → item_text version (Answered n said r) ≡ said_body n said body ++ line_end
unfolding item_text
answered_is version n said r body is =
    ap (λ xs. decimal n ++ (codes " " ++ (spelling_of_line said ++ (codes " -> " ++ xs)))) (append-nil (reply_text version r) ∙ is) ∙ sym (simp append_assoc)

pub answered_line : (version n : ℕ) (said : Line) (r : Reply) → n ≤ largest_id → IsFormedSaid said → IsFormedReply r → KnowsItem version (Answered n said r) → ItemHasLine version (Answered n said r)
answered_line version n said r low formed reply knows =
    let line = reply_line version r reply in
    let is = answered_is version n said r line.body line.is in
    record {
      line = said_body n said line.body;
      text_is = is;
      one_line = has_no_feed (said_body n said line.body) (said_no_feed n said line.body low formed.fits line.one_line);
      spelled = (is, (low, formed, reply), knows);
    }

-- ---- the first line of a plan

-- what stands in front of a plan's text in an item
abbrev pub front_of : ℕ → Line → ℕ → List ℕ
front_of line said entry = decimal line ++ (codes " " ++ (spelling_of_line said ++ (codes " -> " ++ (decimal entry ++ codes " "))))

front_joined : (l said n plan rest : List ℕ) →
    (l ++ (codes " " ++ (said ++ (codes " -> " ++ ((n ++ (codes " " ++ (plan ++ []))) ++ []))))) ++ rest
    ≡ (l ++ (codes " " ++ (said ++ (codes " -> " ++ (n ++ codes " "))))) ++ (plan ++ rest)
front_joined l said n plan rest = simp (append_assoc, append-nil)

pub item_is : (version line : ℕ) (said : Line) (plan : Plan) (rest : List ℕ) →
    item_text version (Answered line said (Planned plan)) ++ rest ≡ front_of line said plan.entry ++ (spelling_of_plan version plan ++ rest)
unfolding item_text reply_text
item_is version line said plan rest = front_joined (decimal line) (spelling_of_line said) (decimal plan.entry) (spelling_of_plan version plan) rest

front_then : (l said n text : List ℕ) →
    l ++ (codes " " ++ (said ++ (codes " -> " ++ (n ++ (codes " " ++ text))))) ≡ (l ++ (codes " " ++ (said ++ (codes " -> " ++ (n ++ codes " "))))) ++ text
front_then l said n text = sym (simp append_assoc)

abbrev pub opening_at : ℕ → Line → ℕ → Heading → PlanOpening
opening_at line said entry h =
    record { line = line; said = said; entry = entry; mark = h.mark; cost = h.cost; bound = h.bound; choices = h.choices; size = h.size }

pub opening_is : (version line : ℕ) (said : Line) (entry : ℕ) (h : Heading) → opening_text version (opening_at line said entry h) ≡ front_of line said entry ++ front_text version h
opening_is version line said entry h = front_then (decimal line) (spelling_of_line said) (decimal entry) (front_text version h)

pub front_no_feed : (line : ℕ) (said : Line) (entry : ℕ) → line ≤ largest_id → All Fits (parts_of_line said) → entry ≤ largest_id → NoFeed (front_of line said entry)
unfolding spelling_of_line
front_no_feed line said entry low fits at =
    let number : List ℕ = decimal entry ++ codes " " in
    let told : List ℕ = codes " -> " ++ number in
    let spoken : List ℕ = spelling_of_line said ++ told in
    let a : NoFeed number = number_then entry (codes " ") (omega (arith, at)) refl in
    let b : NoFeed told = no_feed_append (codes " -> ") number refl a in
    let c : NoFeed spoken = no_feed_append (spelling_of_line said) told (parts_no_feed (parts_of_line said) fits) b in
    number_then line (codes " " ++ spoken) (omega (arith, low)) (no_feed_append (codes " ") spoken refl c)

-- ---- the first line of a plan by parts

pub solution_is : (version line : ℕ) (said : Line) (plan : PlanByParts) (rest : List ℕ) →
    item_text version (Answered line said (Solved plan)) ++ rest ≡ front_of line said plan.entry ++ (spelling_of_solved plan ++ rest)
unfolding item_text reply_text
solution_is version line said plan rest = front_joined (decimal line) (spelling_of_line said) (decimal plan.entry) (spelling_of_solved plan) rest

abbrev pub solved_opening_at : ℕ → Line → ℕ → SolvedHeading → SolvedOpening
solved_opening_at line said entry h =
    record {
      line = line;
      said = said;
      entry = entry;
      mark = h.mark;
      cost = h.cost;
      bound = h.bound;
      choices = h.choices;
      parts = h.parts;
      nodes = h.nodes;
    }

pub solved_opening_is : (line : ℕ) (said : Line) (entry : ℕ) (h : SolvedHeading) →
    solved_opening_text (solved_opening_at line said entry h) ++ line_end ≡ front_of line said entry ++ solved_heading_text h
unfolding solved_heading_text
solved_opening_is line said entry h = simp (append_assoc, append-nil)

-- ---- how many items follow

pub opening_same : (o : LogOpening) (line : List ℕ) → IsOpeningLine o line → feed_text o.feed o.items ≡ line ++ line_end
unfolding feed_text
opening_same o line is = ap (λ xs. codes "feed " ++ xs) (sym (simp (append_assoc, append-nil))) ∙ ap (λ xs. xs ++ line_end) is.spelled

pub opening_line : (o : LogOpening) → o.feed ≤ largest_cost → o.items ≤ largest_cost → HasLine IsOpeningLine (λ o. feed_text o.feed o.items) o
opening_line o feed items =
    let tail : List ℕ = codes " " ++ (decimal o.items ++ []) in
    let line : List ℕ = codes "feed " ++ (decimal o.feed ++ tail) in
    let is : IsOpeningLine o line = record { spelled = refl; feed = feed; items = items } in
    let a : NoFeed tail = no_feed_append (codes " ") (decimal o.items ++ []) refl (number_then o.items [] items refl) in
    record {
      line = line;
      text_is = opening_same o line is;
      one_line = has_no_feed line (no_feed_append (codes "feed ") (decimal o.feed ++ tail) refl (number_then o.feed tail feed a));
      spelled = is;
    }
