-- The first line of an item is read where it stands, and nothing else.
use Rattle.std.proofs.Common.{◌≡◌, ℕ, ◌+◌, ◌-◌, ◌<◌, ◌≤◌, true, false, cond, ltb, eqb, inl, inr, List, [], ◌∷◌, ◌++◌, length, take, drop, Option, Some, None, All, refl, sym, ap, subst, ◌∙◌, arith, append_assoc, append-nil, length-append, codes}
use Rattle.std.specs.Prelude.{not, position, option_and_then}
use Rattle.std.specs.List.{position_or_len}
use Rattle.std.specs.Option.{option_map}
use Rattle.std.specs.Fmt.{decimal}
use Rattle.std.proofs.Math.Seq.{take-append_seam, drop-append_seam}
use Rattle.std.proofs.lemmas.Bool.{both_ways, lt-ltb}
use Rattle.std.proofs.lemmas.List.{append_cancel_right, take-append-drop}
use Rattle.std.proofs.lemmas.List.Elements.{All-head, All-tail}
use Rattle.dm_text.specs.Inside.Parts.{behind}
use Rattle.dm_text.proofs.Reading.{EndsNumber, behind_back, behind_is}
use Rattle.dm_feed.specs.declared.grammar.Heard.TheVariants as heard
use Rattle.dm_feed.specs.declared.grammar.Line.{Line}
use Rattle.dm_feed.specs.declared.grammar.Line.TheVariants as line
use Rattle.dm_feed.specs.Parts.{largest_id}
use Rattle.dm_feed.specs.Lines.{Hears, IsPrintedLine, spelling_of_line}
use Rattle.dm_feed.proofs.Spelling.{printed_is_heard, one_meaning}
use Rattle.dm_feed.proofs.Printed.{IsDashless, line_dashless}
use Rattle.dm_cert.specs.declared.plan_lines.Heading.{Heading}
use Rattle.dm_cert.specs.declared.replies.LogItem.TheVariants.{Malformed, Answered}
use Rattle.dm_cert.specs.declared.replies.Reply.{Reply}
use Rattle.dm_cert.specs.declared.replies.Reply.TheVariants as reply
use Rattle.dm_cert.specs.declared.solved_lines.SolvedHeading.{SolvedHeading}
use Rattle.dm_cert.specs.PlanTexts.{line_end, IsVersion}
use Rattle.dm_cert.specs.RunTexts.{reply_text, item_text, KnowsLine, KnowsReply}
use Rattle.dm_cert.proofs.Options.{none_some, some_pair}
use Rattle.dm_cert.proofs.DecisionsRead.{number_behind_back, number_behind_is}
use Rattle.dm_cert.proofs.HeadingsRead.{front_text, heading_spelled}
use Rattle.dm_cert.proofs.SolvedLinesRead.{solved_front, solved_spelled}
use Rattle.dm_records.specs.RunLines.{ItemLine, lone, planned, solved, IsFormedSaid, IsFormedReply, IsItemLine}
use Rattle.dm_records.specs.Inside.Fields.{number_behind}
use Rattle.dm_records.specs.Inside.Answers.{Saying, answered, opened, opened_by_parts, IsAnswerLine}
use Rattle.dm_records.specs.Inside.Items.{item_with, SaysThere, SaysLine, knows_line, around, parted}
use Rattle.dm_records.proofs.AnswersRead.{reply_body}

-- ---- what is said, and where the arrow stands

-- bytes are the printed spelling of one line
pub printed_one : (bytes : List ℕ) (l k : Line) → IsPrintedLine l bytes → IsPrintedLine k bytes → l ≡ k
printed_one bytes l k p q =
    let one : Hears bytes (heard.Line l) = subst (λ (xs : List ℕ). Hears xs (heard.Line l)) (sym p.spelled) (printed_is_heard l p.said_so p.fits) in
    let other : Hears bytes (heard.Line k) = subst (λ (xs : List ℕ). Hears xs (heard.Line k)) (sym q.spelled) (printed_is_heard k q.said_so q.fits) in
    let same = one_meaning bytes (heard.Line l) (heard.Line k) one other in
    cc

dash_place : (front tail : List ℕ) → IsDashless front → position_or_len (λ b. eqb b 45) (front ++ (codes " -> " ++ tail)) ≡ length front + 1
dash_place [] tail dashless = refl
dash_place (c ∷ cs) tail dashless =
    let here : eqb c 45 ≡ false = All-head (λ b. eqb b 45 ≡ false) c cs dashless in
    let rest = dash_place cs tail (All-tail (λ b. eqb b 45 ≡ false) c cs dashless) in
    rw here (ap (λ n. 1 + n) rest ∙ (omega arith))

around_there : (front tail : List ℕ) → around (front ++ (codes " -> " ++ tail)) (length front + 1) ≡ Some (front, tail)
around_there front tail =
    let less : length front + 1 - 1 ≡ length front = omega arith in
    let cut : drop (length front + 1 - 1) (front ++ (codes " -> " ++ tail)) ≡ codes " -> " ++ tail = ap (λ n. drop n (front ++ (codes " -> " ++ tail))) less ∙ drop-append_seam front (codes " -> " ++ tail) in
    let kept : take (length front + 1 - 1) (front ++ (codes " -> " ++ tail)) ≡ front = ap (λ n. take n (front ++ (codes " -> " ++ tail))) less ∙ take-append_seam front (codes " -> " ++ tail) in
    let found : behind (codes " -> ") (drop (length front + 1 - 1) (front ++ (codes " -> " ++ tail))) ≡ Some tail = ap (behind (codes " -> ")) cut ∙ behind_back (codes " -> ") tail in
    rw (found, kept) refl

pub parted_there : (front tail : List ℕ) → IsDashless front → parted (front ++ (codes " -> " ++ tail)) ≡ Some (front, tail)
parted_there front tail dashless =
    let bytes : List ℕ = front ++ (codes " -> " ++ tail) in
    let place = dash_place front tail dashless in
    let inside : length front + 1 < length bytes = omega (arith, length-append front (codes " -> " ++ tail)) in
    let found : position (λ b. eqb b 45) bytes ≡ Some (length front + 1) =
    ap (λ n. cond (ltb n (length bytes)) (Some n) None) place ∙ ap (λ b. cond b (Some (length front + 1)) None) (lt-ltb (length front + 1) (length bytes) inside) in
    ap (option_and_then (around bytes)) found ∙ around_there front tail

pair_is : (o : Option (List ℕ)) (xs front tail : List ℕ) → option_map {U = List ℕ × List ℕ} (λ (ys : List ℕ). (xs, ys)) o ≡ Some (front, tail) → (xs ≡ front) × (o ≡ Some tail)
pair_is None xs front tail e = absurd cc
pair_is (Some ys) xs front tail e = let p = some_pair xs front ys tail e in (p.0, ap (λ (zs : List ℕ). Some zs) p.1)

around_is : (bytes front tail : List ℕ) (i : ℕ) → around bytes i ≡ Some (front, tail) → front ++ (codes " -> " ++ tail) ≡ bytes
around_is bytes front tail i e =
    let both = pair_is (behind (codes " -> ") (drop (i - 1) bytes)) (take (i - 1) bytes) front tail e in
    ap (λ xs. xs ++ (codes " -> " ++ tail)) (sym both.0)
    ∙ (ap (λ xs. take (i - 1) bytes ++ xs) (sym (behind_is (codes " -> ") (drop (i - 1) bytes) tail both.1)) ∙ take-append-drop (i - 1) bytes)

parted_at : (bytes front tail : List ℕ) (o : Option ℕ) → option_and_then (around bytes) o ≡ Some (front, tail) → front ++ (codes " -> " ++ tail) ≡ bytes
parted_at bytes front tail None e = absurd cc
parted_at bytes front tail (Some i) e = around_is bytes front tail i e

-- what a printed line says before an arrow stands there
pub said_apart : (l : Line) (tail line : List ℕ) → IsFormedSaid l → spelling_of_line l ++ (codes " -> " ++ tail) ≡ line → parted line ≡ Some (spelling_of_line l, tail)
said_apart l tail line formed e = ap parted (sym e) ∙ parted_there (spelling_of_line l) tail (line_dashless l formed.fits)

as_printed : (l : Line) (bytes : List ℕ) → IsFormedSaid l → bytes ≡ spelling_of_line l → IsPrintedLine l bytes
as_printed l bytes formed e = record { fits = formed.fits; said_so = formed.spelled; spelled = e }

-- the versions that have the words of a line
known_line : (version : ℕ) (l : Line) → KnowsLine version l → knows_line version l ≡ true
known_line version (line.Say m) known = refl
known_line version (line.Time e) known = refl
known_line version line.CostNow known = refl
known_line version (line.Plan n) known = refl
known_line version (line.Solve n) known = ap (λ v. not (eqb v 1)) known
known_line version line.Adopt known = refl
known_line version line.Carry known = refl
known_line version line.Read known = refl

line_known : (version : ℕ) → IsVersion version → (l : Line) → knows_line version l ≡ true → KnowsLine version l
line_known version is (line.Say m) known = tt
line_known version is (line.Time e) known = tt
line_known version is line.CostNow known = tt
line_known version is (line.Plan n) known = tt
line_known version (inl first) (line.Solve n) known = let e : not (eqb version 1) ≡ false = ap (λ v. not (eqb v 1)) first in absurd (both_ways (not (eqb version 1)) e known)
line_known version (inr second) (line.Solve n) known = second
line_known version is line.Adopt known = tt
line_known version is line.Carry known = tt
line_known version is line.Read known = tt

pub says_line : (version : ℕ) (l : Line) (bytes : List ℕ) → IsVersion version → IsPrintedLine l bytes → knows_line version l ≡ true → SaysLine version l bytes
says_line version l bytes is printed known = record { printed = printed; known = line_known version is l known }

pub says_unknown : (version : ℕ) (l : Line) (bytes : List ℕ) → IsPrintedLine l bytes → knows_line version l ≡ false → (k : Line) → SaysLine version k bytes → ⊥
says_unknown version l bytes printed unknown k says =
    let same : k ≡ l = printed_one bytes k l says.printed printed in
    both_ways (knows_line version l) unknown (known_line version l (subst (KnowsLine version) same says.known))

-- version 2 has all words
pub known_in_second : (version : ℕ) (l : Line) → version ≡ 2 → KnowsLine version l
known_in_second version (line.Say m) second = tt
known_in_second version (line.Time e) second = tt
known_in_second version line.CostNow second = tt
known_in_second version (line.Plan n) second = tt
known_in_second version (line.Solve n) second = second
known_in_second version line.Adopt second = tt
known_in_second version line.Carry second = tt
known_in_second version line.Read second = tt

-- the word of a plan by parts has no form of its own line
pub formed_is_known : (version : ℕ) (r : Reply) → IsFormedReply r → KnowsReply version r
formed_is_known version (reply.Ok n) f = tt
formed_is_known version (reply.Refused at) f = tt
formed_is_known version (reply.Time n x) f = tt
formed_is_known version (reply.Cost n c) f = tt
formed_is_known version (reply.Read n) f = tt
formed_is_known version (reply.Planned plan) f = tt
formed_is_known version (reply.Solved plan) f = absurd f
formed_is_known version (reply.Old n) f = tt
formed_is_known version reply.NoPlan f = tt
formed_is_known version reply.Plans f = tt
formed_is_known version (reply.Range b) f = tt

pub said_no_arrow : (version : ℕ) (line : List ℕ) → None ≡ parted line → (l : Line) (s : Saying) → SaysThere version l s line → ⊥
said_no_arrow version line none l s there = none_some (none ∙ said_apart l there.tail line there.formed there.spelled)

pub said_no_line : (version : ℕ) (line front tail : List ℕ) → Some (front, tail) ≡ parted line → ((l : Line) → SaysLine version l front → ⊥) → (l : Line) (s : Saying) → SaysThere version l s line → ⊥
said_no_line version line front tail e none l s there =
    let same = some_pair front (spelling_of_line l) tail there.tail (e ∙ said_apart l there.tail line there.formed there.spelled) in
    none l (record { printed = as_printed l front there.formed same.0; known = there.known })

pub said_no_answer : (version : ℕ) (line front tail : List ℕ) → Some (front, tail) ≡ parted line → ((s : Saying) → IsAnswerLine version s tail → ⊥) → (l : Line) (s : Saying) → SaysThere version l s line → ⊥
said_no_answer version line front tail e none l s there =
    let same = some_pair front (spelling_of_line l) tail there.tail (e ∙ said_apart l there.tail line there.formed there.spelled) in
    none s (subst (λ xs. IsAnswerLine version s xs) (sym same.1) there.answers)

pub said_is : (version : ℕ) (line front tail : List ℕ) (l : Line) (s : Saying) → Some (front, tail) ≡ parted line → SaysLine version l front → IsAnswerLine version s tail → SaysThere version l s line
said_is version line front tail l s e says answers = record {
  tail = tail;
  spelled = ap (λ xs. xs ++ (codes " -> " ++ tail)) (sym says.printed.spelled) ∙ parted_at line front tail (position (λ b. eqb b 45) line) (sym e);
  formed = record { spelled = says.printed.said_so; fits = says.printed.fits };
  known = says.known;
  answers = answers;
}

some_is : (x y : List ℕ) → (◌≡◌ {A = Option (List ℕ)} (Some x) (Some y)) → x ≡ y
some_is x y e = cc

-- ---- items

abbrev pub said_body : ℕ → Line → List ℕ → List ℕ
said_body n l tail = decimal n ++ (codes " " ++ (spelling_of_line l ++ (codes " -> " ++ tail)))

answered_text : (version n : ℕ) (l : Line) (r : Reply) (tail : List ℕ) → reply_text version r ≡ tail ++ line_end → item_text version (Answered n l r) ≡ said_body n l tail ++ line_end
unfolding item_text
answered_text version n l r tail e =
    ap (λ xs. decimal n ++ (codes " " ++ (spelling_of_line l ++ (codes " -> " ++ xs)))) (append-nil (reply_text version r) ∙ e) ∙ sym (simp append_assoc)

pub malformed_text : (version n : ℕ) → item_text version (Malformed n) ≡ (decimal n ++ codes " malformed") ++ line_end
unfolding item_text
malformed_text version n = sym (append_assoc (decimal n) (codes " malformed") line_end)

-- an item behind its number
pub data Item : Type 0 where
  broken : Item
  sound : Line → Saying → Item

abbrev pub item_at : ℕ → Item → ItemLine
item_at n broken = lone (Malformed n)
item_at n (sound l s) = item_with n l s

abbrev pub StandsItem : ℕ → Item → List ℕ → Type 0
StandsItem version broken line = codes " malformed" ≡ line
StandsItem version (sound l s) line = (rest : List ℕ) × (codes " " ++ rest ≡ line) × SaysThere version l s rest

pub record ItemThere (version : ℕ) (i : ItemLine) (line : List ℕ) : Type 0 where
  pub number : ℕ
  pub item : Item
  pub rest : List ℕ
  pub is : item_at number item ≡ i
  pub line_is : decimal number ++ rest ≡ line
  pub fits : number ≤ largest_id
  pub stands : StandsItem version item rest

pub item_there : (version : ℕ) (i : ItemLine) (line : List ℕ) → IsItemLine version i line → ItemThere version i line
item_there version (lone (Malformed n)) line is = record {
  number = n;
  item = broken;
  rest = codes " malformed";
  is = refl;
  line_is = append_cancel_right (decimal n ++ codes " malformed") line line_end (sym (malformed_text version n) ∙ is.0);
  fits = is.1;
  stands = refl;
}
item_there version (lone (Answered n l r)) line is =
    let has = reply_body version r is.1.2 in
    record {
      number = n;
      item = sound l (answered r);
      rest = codes " " ++ (spelling_of_line l ++ (codes " -> " ++ has.body));
      is = refl;
      line_is = append_cancel_right (said_body n l has.body) line line_end (sym (answered_text version n l r has.body has.is) ∙ is.0);
      fits = is.1.0;
      stands = (spelling_of_line l ++ (codes " -> " ++ has.body), refl, record { tail = has.body; spelled = refl; formed = is.1.1; known = is.2.0; answers = (has.is, is.1.2) });
    }
item_there version (planned o) line is =
    let h : Heading = record { mark = o.mark; cost = o.cost; bound = o.bound; choices = o.choices; size = o.size } in
    let tail : List ℕ = decimal o.entry ++ (codes " " ++ front_text version h) in
    let f = is.1 in
    record {
      number = o.line;
      item = sound o.said (opened o.entry h);
      rest = codes " " ++ (spelling_of_line o.said ++ (codes " -> " ++ tail));
      is = refl;
      line_is = is.0;
      fits = f.line;
      stands = (
        spelling_of_line o.said ++ (codes " -> " ++ tail),
        refl,
        record {
          tail = tail;
          spelled = refl;
          formed = f.said;
          known = is.2;
          answers = record {
            rest = front_text version h;
            spelled = refl;
            fits = f.entry;
            heading = record { spelled = heading_spelled version h; cost = f.cost; bound = f.bound; choices = f.choices; size = f.size };
          };
        },
      );
    }
item_there version (solved o) line is =
    let h : SolvedHeading = record { mark = o.mark; cost = o.cost; bound = o.bound; choices = o.choices; parts = o.parts; nodes = o.nodes } in
    let tail : List ℕ = decimal o.entry ++ (codes " " ++ solved_front h) in
    let f = is.1 in
    record {
      number = o.line;
      item = sound o.said (opened_by_parts o.entry h);
      rest = codes " " ++ (spelling_of_line o.said ++ (codes " -> " ++ tail));
      is = refl;
      line_is = is.0;
      fits = f.line;
      stands = (
        spelling_of_line o.said ++ (codes " -> " ++ tail),
        refl,
        record {
          tail = tail;
          spelled = refl;
          formed = f.said;
          known = known_in_second version o.said is.2;
          answers = record {
            rest = solved_front h;
            spelled = refl;
            fits = f.entry;
            heading = record {
              spelled = solved_spelled h;
              cost = f.cost;
              bound = f.bound;
              choices = f.choices;
              parts = f.parts;
              nodes = f.nodes;
              of_parts = f.of_parts;
            };
            known = is.2;
          };
        },
      );
    }

-- ---- and back

item_back : (version n : ℕ) (l : Line) (s : Saying) (line : List ℕ) → n ≤ largest_id → (rest : List ℕ) → line ≡ decimal n ++ (codes " " ++ rest) → SaysThere version l s rest →
    IsItemLine version (item_with n l s) line
item_back version n l (answered r) line low rest is there = (
  answered_text version n l r there.tail there.answers.0 ∙ ap (λ xs. xs ++ line_end) (ap (λ xs. decimal n ++ (codes " " ++ xs)) there.spelled ∙ sym is),
  (low, there.formed, there.answers.1),
  (there.known, formed_is_known version r there.answers.1),
)
item_back version n l (opened entry h) line low rest is there =
    let a = there.answers in
    let front : front_text version h ≡ a.rest = append_cancel_right (front_text version h) a.rest line_end (sym (heading_spelled version h) ∙ a.heading.spelled) in (
      ap (λ xs. decimal n ++ (codes " " ++ (spelling_of_line l ++ (codes " -> " ++ (decimal entry ++ (codes " " ++ xs)))))) front
          ∙ (ap (λ xs. decimal n ++ (codes " " ++ (spelling_of_line l ++ (codes " -> " ++ xs)))) a.spelled
          ∙ (ap (λ xs. decimal n ++ (codes " " ++ xs)) there.spelled ∙ sym is)),
      record {
        line = low;
        said = there.formed;
        entry = a.fits;
        cost = a.heading.cost;
        bound = a.heading.bound;
        choices = a.heading.choices;
        size = a.heading.size;
      },
      there.known,
    )
item_back version n l (opened_by_parts entry h) line low rest is there =
    let a = there.answers in
    let front : solved_front h ≡ a.rest = append_cancel_right (solved_front h) a.rest line_end (sym (solved_spelled h) ∙ a.heading.spelled) in (
      ap (λ xs. decimal n ++ (codes " " ++ (spelling_of_line l ++ (codes " -> " ++ (decimal entry ++ (codes " " ++ xs)))))) front
          ∙ (ap (λ xs. decimal n ++ (codes " " ++ (spelling_of_line l ++ (codes " -> " ++ xs)))) a.spelled
          ∙ (ap (λ xs. decimal n ++ (codes " " ++ xs)) there.spelled ∙ sym is)),
      record {
        line = low;
        said = there.formed;
        entry = a.fits;
        cost = a.heading.cost;
        bound = a.heading.bound;
        choices = a.heading.choices;
        parts = a.heading.parts;
        nodes = a.heading.nodes;
        of_parts = a.heading.of_parts;
      },
      a.known,
    )

item_ends : (version : ℕ) (i : Item) (rest : List ℕ) → StandsItem version i rest → EndsNumber rest
item_ends version broken rest is = subst EndsNumber is refl
item_ends version (sound l s) rest is = subst EndsNumber is.1 refl

pub item_number : (version : ℕ) (i : ItemLine) (line : List ℕ) (at : ItemThere version i line) → number_behind largest_id [] line ≡ Some (at.number, at.rest)
item_number version i line at =
    ap (number_behind largest_id []) (sym at.line_is) ∙ number_behind_back largest_id at.number [] at.rest at.fits (omega arith) (item_ends version at.item at.rest at.stands)

pub item_no_number : (version : ℕ) (line : List ℕ) → None ≡ number_behind largest_id [] line → (i : ItemLine) → IsItemLine version i line → ⊥
item_no_number version line none i is = none_some (none ∙ item_number version i line (item_there version i line is))

pub item_malformed : (version n : ℕ) (line rest : List ℕ) → Some (n, rest) ≡ number_behind largest_id [] line → codes " malformed" ≡ rest → IsItemLine version (lone (Malformed n)) line
item_malformed version n line rest e is =
    let has = number_behind_is largest_id n [] line rest (omega arith) (sym e) in
    (malformed_text version n ∙ ap (λ xs. xs ++ line_end) (ap (λ xs. decimal n ++ xs) is ∙ sym has.line_is), has.fits, tt)

stands_no_space : (version : ℕ) (item : Item) (rest : List ℕ) → (codes " malformed" ≡ rest → ⊥) → None ≡ behind (codes " ") rest → StandsItem version item rest → ⊥
stands_no_space version broken rest unformed none is = unformed is
stands_no_space version (sound l s) rest unformed none is = none_some (none ∙ (ap (behind (codes " ")) (sym is.1) ∙ behind_back (codes " ") is.0))

pub item_no_space : (version n : ℕ) (line rest : List ℕ) → Some (n, rest) ≡ number_behind largest_id [] line → (codes " malformed" ≡ rest → ⊥) → None ≡ behind (codes " ") rest →
    (i : ItemLine) → IsItemLine version i line → ⊥
item_no_space version n line rest e unformed none i is =
    let at = item_there version i line is in
    let same = some_pair n at.number rest at.rest (e ∙ item_number version i line at) in
    stands_no_space version at.item rest unformed none (subst (λ xs. StandsItem version at.item xs) (sym same.1) at.stands)

stands_none : (version : ℕ) (item : Item) (rest tail : List ℕ) → (codes " malformed" ≡ rest → ⊥) → Some tail ≡ behind (codes " ") rest →
    ((l : Line) (s : Saying) → SaysThere version l s tail → ⊥) → StandsItem version item rest → ⊥
stands_none version broken rest tail unformed front none is = unformed is
stands_none version (sound l s) rest tail unformed front none is =
    let tails = some_is tail is.0 (front ∙ (ap (behind (codes " ")) (sym is.1) ∙ behind_back (codes " ") is.0)) in
    none l s (subst (λ xs. SaysThere version l s xs) (sym tails) is.2)

pub item_said : (version n : ℕ) (line rest tail : List ℕ) (l : Line) (s : Saying) → Some (n, rest) ≡ number_behind largest_id [] line → Some tail ≡ behind (codes " ") rest → SaysThere version l s tail →
    IsItemLine version (item_with n l s) line
item_said version n line rest tail l s e front there =
    let has = number_behind_is largest_id n [] line rest (omega arith) (sym e) in
    item_back version n l s line has.fits tail (has.line_is ∙ ap (λ xs. decimal n ++ xs) (behind_is (codes " ") rest tail (sym front))) there

pub item_unsaid : (version n : ℕ) (line rest tail : List ℕ) → Some (n, rest) ≡ number_behind largest_id [] line → (codes " malformed" ≡ rest → ⊥) → Some tail ≡ behind (codes " ") rest →
    ((l : Line) (s : Saying) → SaysThere version l s tail → ⊥) → (i : ItemLine) → IsItemLine version i line → ⊥
item_unsaid version n line rest tail e unformed front none i is =
    let at = item_there version i line is in
    let same = some_pair n at.number rest at.rest (e ∙ item_number version i line at) in
    stands_none version at.item rest tail unformed front none (subst (λ xs. StandsItem version at.item xs) (sym same.1) at.stands)
