-- The text of which a run is told is the run's spelling.
use Rattle.std.proofs.Common.{◌≡◌, ℕ, zero, suc, ◌+◌, Bool, true, false, cond, eqb, List, [], ◌∷◌, ◌++◌, length, Result, Ok, refl, sym, ap, subst, ◌∙◌, arith, append_assoc, append-nil, length-append, codes}
use Rattle.std.specs.Prelude.{MatchBool}
use Rattle.std.specs.List.{flat_map, range_with_len}
use Rattle.std.specs.Fmt.{decimal}
use Rattle.std.proofs.Math.Seq.{get_or-append_seam}
use Rattle.dm_outside.specs.Printing.{joined}
use Rattle.dm_text.specs.Places.{Place, at_start}
use Rattle.dm_text.specs.Judging.{Then, Times, Finds, SpellsValue}
use Rattle.dm_network.specs.Net.{Net, event_at}
use Rattle.dm_rows.specs.declared.messages.Decision.{Decision}
use Rattle.dm_rows.specs.declared.messages.Entry.{Entry}
use Rattle.dm_rows.specs.Rows.{RowsValue}
use Rattle.dm_rows.specs.Timetable.{time_at}
use Rattle.dm_feed.specs.declared.feed.FeedStop.{FeedStop}
use Rattle.dm_feed.specs.Lines.{spelling_of_line}
use Rattle.dm_tree.specs.declared.forms.Node.{Node}
use Rattle.dm_cert.specs.declared.notes.Note.{Note}
use Rattle.dm_cert.specs.declared.replies.LogItem.{LogItem}
use Rattle.dm_cert.specs.declared.replies.LogItem.TheVariants.{Answered}
use Rattle.dm_cert.specs.declared.replies.Reply.TheVariants.{Planned}
use Rattle.dm_cert.specs.declared.replies.FeedLog.{FeedLog}
use Rattle.dm_cert.specs.Answers.{Setting, rows_after}
use Rattle.dm_cert.specs.PlanTexts.{line_end, mark_text, choice_text, leaf_text, node_text, leaves_in, tree_text, size_text, plan_heading, spelling_of_plan}
use Rattle.dm_cert.specs.PlansRead.{size_words, IsChoiceLine, IsLeafLine, IsNodeLine, ShowsLeaves, ShowsNodes}
use Rattle.dm_cert.specs.RunTexts.{Run, run_text, header_text, entry_text, entries_text, item_text, reply_text, feed_text, stop_text, log_text, logs_text, note_text, time_text, timetable_text, boards_text, heading_text, ending_text}
use Rattle.dm_cert.proofs.ToldTexts.{line_told}
use Rattle.dm_parts.specs.declared.parts.PlanByParts.{PlanByParts}
use Rattle.dm_cert.specs.SolvedTexts.{spelling_of_solved}
use Rattle.dm_cert.specs.SolvedRead.{solved_heading_text}
use Rattle.dm_cert.proofs.SolvedTold.{SolvedBehindTold, behind_first, solved_behind_told}
use Rattle.dm_records.specs.RunLines.{PlanOpening, SolvedOpening, solved_opening_text, ItemLine, lone, planned, solved, Timed, IsNumberLine, IsVersionLine, IsEntryLine, IsOpeningLine, IsItemLine, IsStopLine, IsNoteLine, IsTimeLine, IsWordLine, opening_text, heading_of, solved_item}
use Rattle.dm_records.proofs.LinesSpelled.{numbered, version_line}
use Rattle.dm_check.specs.declared.faults.Fault.{Fault}
use Rattle.dm_check.specs.FalseRecords.{bad, Reads, Rules, TellsEntry, TellsItem, TellsBehind, TellsLog, TellsBoards, TellsNote, TellsTime, TellsCost, TellsEnd, TellsNumber, TellsRest, TellsBody, IsNextPlan, IsGood, plan_opened}
use Rattle.dm_check.specs.Laws.{IsSpelledIn}
use Rattle.dm_check.specs.declared.verdicts.BadKind.{BadKind}
use Rattle.dm_records.proofs.ItemLines.{opening_same}

-- ---- several records

-- the texts of values from a place in their list on
abbrev pub texts_from : {V : Type 0} → (ℕ → V → List ℕ) → ℕ → List V → List ℕ
texts_from text n [] = []
texts_from text n (v ∷ vs) = text n v ++ texts_from text (n + 1) vs

record Stand {V : Type 0} (text : ℕ → V → List ℕ) (n : ℕ) (held all : List V) (place next : Place) : Type 0 where
  tail : List V
  is : all ≡ held ++ tail
  left : place.left ≡ texts_from text (length held) tail ++ next.left
  count : length tail ≡ n

times_left : {V : Type 0} (step : List V → Place → Result (V × Place) Fault → Type 0) (text : ℕ → V → List ℕ) →
    ((before : List V) (place : Place) (v : V) (next : Place) → step before place (Ok (v, next)) → place.left ≡ text (length before) v ++ next.left) →
    (n : ℕ) (held all : List V) (place next : Place) → Times n step held place (Ok (all, next)) → Stand text n held all place next
times_left step text stands zero held all place next told = record {
  tail = [];
  is = told.0 ∙ sym (append-nil held);
  left = ap (λ (p : Place). p.left) (sym told.1);
  count = refl;
}
times_left {V} step text stands (suc n) held all place next told =
    let rest = times_left step text stands n (held ++ told.value ∷ []) all told.behind next told.then in
    let first = stands held place told.value told.behind told.told in
    let more : length (held ++ told.value ∷ []) ≡ length held + 1 = length-append held (told.value ∷ []) in
    record {
      tail = told.value ∷ rest.tail;
      is = rest.is ∙ append_assoc held (told.value ∷ []) rest.tail;
      left = first ∙ (ap (λ xs. text (length held) told.value ++ xs) (rest.left ∙ ap (λ k. texts_from text k rest.tail ++ next.left) more)
          ∙ sym (append_assoc (text (length held) told.value) (texts_from text (length held + 1) rest.tail) next.left));
      count = omega (arith, rest.count);
    }

pub same_each : {V : Type 0} (text : V → List ℕ) (n : ℕ) (vs : List V) → texts_from (λ k. text) n vs ≡ flat_map text vs
same_each text n [] = refl
same_each text n (v ∷ vs) = ap (λ xs. text v ++ xs) (same_each text (n + 1) vs)

pub entries_same : (n : ℕ) (entries : List Entry) → texts_from (λ k. entry_text (k + 1)) n entries ≡ entries_text (n + 1) entries
entries_same n [] = refl
entries_same n (e ∷ es) = ap (λ xs. entry_text (n + 1) e ++ xs) (entries_same (n + 1) es)

pub logs_same : (version n : ℕ) (logs : List FeedLog) → texts_from (λ k. log_text version (k + 1)) n logs ≡ logs_text version (n + 1) logs
logs_same version n [] = refl
logs_same version n (l ∷ ls) = ap (λ xs. log_text version (n + 1) l ++ xs) (logs_same version (n + 1) ls)

-- an event's line at a place
abbrev pub timed_text : Net → ℕ → ℕ → List ℕ
timed_text net i t = joined (decimal (event_at net i).id.0 ∷ codes "; " ∷ decimal t ∷ line_end ∷ [])

-- ---- one record

rules_left : {V W : Type 0} (spells : V → List ℕ → Type 0) (text : V → List ℕ) → ((v : V) (line : List ℕ) → spells v line → text v ≡ line ++ line_end) →
    (rule : V → Type 0) (k : BadKind) (gives : V → W) (place next : Place) (w : W) → (told : Rules spells rule k gives place (Ok (w, next))) → place.left ≡ text told.value ++ next.left
rules_left spells text spelled rule k gives place next w told =
    line_told spells text spelled place told.behind told.value told.told ∙ ap (λ (p : Place). text told.value ++ p.left) (sym told.then.2)

pub entry_left : (s : Setting) (feeds : ℕ) (before : List Entry) (place : Place) (e : Entry) (next : Place) → TellsEntry s feeds before place (Ok (e, next)) →
    place.left ≡ entry_text (length before + 1) e ++ next.left
entry_left s feeds before place e next told =
    rules_left IsEntryLine (λ said. entry_text said.number said.entry) (λ said line is. is.spelled) _ _ (λ said. said.entry) place next e told
    ∙ (ap (λ n. entry_text n told.value.entry ++ next.left) told.then.0.number ∙ ap (λ x. entry_text (length before + 1) x ++ next.left) (sym told.then.1))

pub timed_line : (said : Timed) (line : List ℕ) → IsTimeLine said line → joined (decimal said.event ∷ codes "; " ∷ decimal said.time ∷ line_end ∷ []) ≡ line ++ line_end
timed_line said line is =
    ap (λ xs. decimal said.event ++ (codes "; " ++ xs)) (ap (λ ys. ys ++ line_end) (sym (append-nil (decimal said.time))))
    ∙ (sym (append_assoc (decimal said.event) (codes "; " ++ (decimal said.time ++ [])) line_end) ∙ ap (λ xs. xs ++ line_end) is.spelled)

pub number_left : (words : List ℕ) (rule : ℕ → Type 0) (place next : Place) (n : ℕ) → TellsNumber words rule place (Ok (n, next)) →
    place.left ≡ (words ++ (decimal n ++ line_end)) ++ next.left
number_left words rule place next n told =
    rules_left (IsNumberLine words) (λ k. words ++ (decimal k ++ line_end)) (λ k line is. ap (λ xs. words ++ xs) (ap (λ ys. ys ++ line_end) (sym (append-nil (decimal k)))) ∙ (sym (append_assoc words (decimal k ++ []) line_end) ∙ ap (λ xs. xs ++ line_end) is.spelled))
    rule _ (λ k. k) place next n told
    ∙ ap (λ k. (words ++ (decimal k ++ line_end)) ++ next.left) (sym told.then.1)

stands_left : {V : Type 0} (spells : V → List ℕ → Type 0) (text : V → List ℕ) → ((v : V) (line : List ℕ) → spells v line → text v ≡ line ++ line_end) →
    (place : Place) (v : V) (next : Place) → Reads spells place (Ok (v, next)) → place.left ≡ text v ++ next.left
stands_left spells text spelled place v next told = line_told spells text spelled place next v told

-- lines that are read one after the other, each as what it spells
lines_left : {V : Type 0} (spells : V → List ℕ → Type 0) (text : V → List ℕ) → ((v : V) (line : List ℕ) → spells v line → text v ≡ line ++ line_end) → (n : ℕ) (vs all : List V) (place behind next : Place) →
    Times n (λ read. Reads spells) [] place (Ok (all, behind)) → next ≡ behind → vs ≡ all → (place.left ≡ flat_map text vs ++ next.left) × (length vs ≡ n)
lines_left {V} spells text spelled n vs all place behind next told at is =
    let had = times_left (λ read. Reads spells) (λ k. text) (λ read p l m t. stands_left spells text spelled p l m t) n [] all place behind told in
    let same : vs ≡ had.tail = is ∙ had.is in (
      had.left
          ∙ (ap (λ xs. xs ++ behind.left) (same_each text 0 had.tail)
          ∙ (ap (λ (ls : List V). flat_map text ls ++ behind.left) (sym same)
          ∙ ap (λ (p : Place). flat_map text vs ++ p.left) (sym at))),
      ap (λ (ls : List V). length ls) same ∙ had.count,
    )

-- ---- log items

-- a plan's lines behind its first one
record Behind (version : ℕ) (o : PlanOpening) (choices : List Decision) (answered : LogItem) (place next : Place) : Type 0 where
  nodes : List Node
  is : answered ≡ Answered o.line o.said (Planned (plan_opened o choices nodes))
  left : place.left ≡ tree_text version nodes ++ next.left
  size : size_text version nodes ≡ size_words version ++ (decimal o.size ++ [])

tree_behind : (s : Setting) (history : List Entry) (feed : ℕ) (before : List LogItem) (o : PlanOpening) (choices : List Decision) (fault : Fault) (answered : LogItem) (place next : Place) (b : Bool) →
    eqb s.version 1 ≡ b →
    MatchBool b
    (Then {W = LogItem} (Times o.size (λ read. Reads IsLeafLine) []) (λ leaves. Finds (IsNextPlan s history feed before o choices (ShowsLeaves leaves)) fault) place (Ok (answered, next)))
    (Then {W = LogItem} (Times o.size (λ read. Reads IsNodeLine) []) (λ nodes. Finds (IsNextPlan s history feed before o choices (ShowsNodes nodes)) fault) place (Ok (answered, next))) →
    Behind s.version o choices answered place next
tree_behind s history feed before o choices fault answered place next true v told =
    let plan = told.then.0 in
    let lines = lines_left IsLeafLine leaf_text (λ x line is. is.spelled) o.size (leaves_in plan.nodes) told.value place told.behind next told.told told.then.1 plan.shown.shown in
    record {
      nodes = plan.nodes;
      is = plan.is;
      left = lines.0 ∙ ap (λ c. cond c (flat_map leaf_text (leaves_in plan.nodes)) (flat_map node_text plan.nodes) ++ next.left) (sym v);
      size = rw (v, lines.1) refl;
    }
tree_behind s history feed before o choices fault answered place next false v told =
    let plan = told.then.0 in
    let lines = lines_left IsNodeLine node_text (λ x line is. is.spelled) o.size plan.nodes told.value place told.behind next told.told told.then.1 plan.shown.shown in
    record {
      nodes = plan.nodes;
      is = plan.is;
      left = lines.0 ∙ ap (λ c. cond c (flat_map leaf_text (leaves_in plan.nodes)) (flat_map node_text plan.nodes) ++ next.left) (sym v);
      size = rw (v, lines.1) refl;
    }

regroup : (l said n m c b k w z list tree rest : List ℕ) →
    (l ++ (codes " " ++ (said ++ (codes " -> " ++ ((n ++ (codes " " ++ (((codes "plan " ++ (m ++ (codes " cost " ++ (c ++ (codes " bound " ++ (b ++ (codes " choices " ++ (k ++ ((w ++ (z ++ [])) ++ (line_end ++ [])))))))))) ++ (list ++ tree)) ++ []))) ++ []))))) ++ rest
    ≡ ((l ++ (codes " " ++ (said ++ (codes " -> " ++ (n ++ (codes " plan " ++ (m ++ (codes " cost " ++ (c ++ (codes " bound " ++ (b ++ (codes " choices " ++ (k ++ (w ++ (z ++ []))))))))))))))) ++ line_end) ++ (list ++ (tree ++ rest))
regroup l said n m c b k w z list tree rest = simp (append_assoc, append-nil)

planned_same : (version : ℕ) (o : PlanOpening) (choices : List Decision) (nodes : List Node) (rest : List ℕ) → length choices ≡ o.choices →
    size_text version nodes ≡ size_words version ++ (decimal o.size ++ []) →
    item_text version (Answered o.line o.said (Planned (plan_opened o choices nodes))) ++ rest ≡ (opening_text version o ++ line_end) ++ (flat_map choice_text choices ++ (tree_text version nodes ++ rest))
unfolding item_text reply_text spelling_of_plan plan_heading
planned_same version o choices nodes rest count size =
    rw (count, size)
    (regroup (decimal o.line) (spelling_of_line o.said) (decimal o.entry) (mark_text o.mark) (decimal o.cost) (decimal o.bound) (decimal o.choices) (size_words version) (decimal o.size)
    (flat_map choice_text choices) (tree_text version nodes) rest)

-- a plan by parts behind its first line
solved_text : (o : SolvedOpening) (behind : List ℕ) → (decimal o.line ++ (codes " " ++ (spelling_of_line o.said ++ (codes " -> " ++ ((decimal o.entry ++ (codes " " ++ ((solved_heading_text (heading_of o) ++ behind) ++ []))) ++ [])))))
    ≡ (solved_opening_text o ++ line_end) ++ behind
unfolding solved_heading_text
solved_text o behind = simp (append_assoc, append-nil)

solved_same : (version : ℕ) (o : SolvedOpening) (plan : PlanByParts) (place next : Place) → SolvedBehindTold o.entry (heading_of o) plan place next →
    item_text version (solved_item o plan) ++ next.left ≡ (solved_opening_text o ++ line_end) ++ (behind_first plan ++ next.left)
unfolding item_text reply_text
solved_same version o plan place next read =
    ap (λ xs. xs ++ next.left)
    (ap (λ n. decimal o.line ++ (codes " " ++ (spelling_of_line o.said ++ (codes " -> " ++ ((decimal n ++ (codes " " ++ (spelling_of_solved plan ++ []))) ++ []))))) read.entry_is
    ∙ (ap (λ xs. decimal o.line ++ (codes " " ++ (spelling_of_line o.said ++ (codes " -> " ++ ((decimal o.entry ++ (codes " " ++ (xs ++ []))) ++ []))))) read.whole
    ∙ solved_text o (behind_first plan)))
    ∙ append_assoc (solved_opening_text o ++ line_end) (behind_first plan) next.left

item_at : (s : Setting) (history : List Entry) (feed : ℕ) (before : List LogItem) (place behind : Place) (v : ItemLine) (answered : LogItem) (next : Place) →
    SpellsValue (IsItemLine s.version) place v behind → TellsBehind s history feed before place.line v behind (Ok (answered, next)) → place.left ≡ item_text s.version answered ++ next.left
item_at s history feed before place behind (lone a) answered next told then =
    told.stands.whole
    ∙ (sym (append_assoc told.bytes line_end behind.left)
    ∙ (ap (λ xs. xs ++ behind.left) (sym told.spelled.0)
    ∙ (ap (λ x. item_text s.version x ++ behind.left) (sym then.1) ∙ ap (λ (p : Place). item_text s.version answered ++ p.left) (sym then.2))))
item_at s history feed before place behind (planned o) answered next told then =
    let choices = times_left (λ read. Reads IsChoiceLine) (λ k. choice_text) (λ read p l n t. stands_left IsChoiceLine choice_text (λ x line is. is.spelled) p l n t) o.choices [] then.value behind then.behind then.told in
    let tree = tree_behind s history feed before o then.value (bad _ place.line) answered then.behind next (eqb s.version 1) refl then.then in
    let list : behind.left ≡ flat_map choice_text then.value ++ then.behind.left =
    choices.left ∙ ap (λ xs. xs ++ then.behind.left) (same_each choice_text 0 choices.tail ∙ ap (λ (ds : List Decision). flat_map choice_text ds) (sym choices.is)) in
    told.stands.whole
    ∙ (sym (append_assoc told.bytes line_end behind.left)
    ∙ (ap (λ xs. (xs ++ line_end) ++ behind.left) (sym told.spelled.0)
    ∙ (ap (λ xs. (opening_text s.version o ++ line_end) ++ xs) (list ∙ ap (λ xs. flat_map choice_text then.value ++ xs) tree.left)
    ∙ (sym (planned_same s.version o then.value tree.nodes next.left (ap length choices.is ∙ choices.count) tree.size)
    ∙ ap (λ x. item_text s.version x ++ next.left) (sym tree.is)))))
item_at s history feed before place behind (solved o) answered next told then =
    let read = solved_behind_told o.entry (heading_of o) then.value behind then.behind told.spelled.1.cost told.spelled.1.bound told.spelled.1.of_parts then.told in
    told.stands.whole
    ∙ (sym (append_assoc told.bytes line_end behind.left)
    ∙ (ap (λ xs. (xs ++ line_end) ++ behind.left) (sym told.spelled.0)
    ∙ (ap (λ xs. (solved_opening_text o ++ line_end) ++ xs) read.left
    ∙ (sym (solved_same s.version o then.value behind then.behind read)
    ∙ (ap (λ x. item_text s.version x ++ then.behind.left) (sym then.then.1) ∙ ap (λ (p : Place). item_text s.version answered ++ p.left) (sym then.then.2))))))

item_left : (s : Setting) (history : List Entry) (feed : ℕ) (before : List LogItem) (place : Place) (answered : LogItem) (next : Place) →
    TellsItem s history feed before place (Ok (answered, next)) → place.left ≡ item_text s.version answered ++ next.left
item_left s history feed before place answered next told = item_at s history feed before place told.behind told.value answered next told.told told.then

-- ---- logs

pub log_same : (version n : ℕ) (items : List LogItem) (stop : FeedStop) (rest : List ℕ) →
    log_text version n (record { items = items; stop = stop }) ++ rest ≡ feed_text n (length items) ++ (flat_map (item_text version) items ++ (stop_text stop ++ rest))
unfolding log_text
log_same version n items stop rest = simp (append_assoc, append-nil)

pub log_left : (s : Setting) (history : List Entry) (before : List FeedLog) (place : Place) (log : FeedLog) (next : Place) → TellsLog s history before place (Ok (log, next)) →
    place.left ≡ log_text s.version (length before + 1) log ++ next.left
log_left s history before place log next told =
    let n : ℕ = length before + 1 in
    let b = told.then in
    let d = b.then in
    let first = rules_left IsOpeningLine (λ o. feed_text o.feed o.items) opening_same _ _ (λ o. o.items) place told.behind told.value told.told in
    let items = times_left (TellsItem s history n) (λ k. item_text s.version) (λ read p l m t. item_left s history n read p l m t) told.value [] b.value told.behind b.behind b.told in
    let stop = stands_left IsStopLine stop_text (λ x line is. is) b.behind d.value d.behind d.told in
    let count : told.told.value.items ≡ length b.value = sym told.told.then.1 ∙ (sym items.count ∙ ap length (sym items.is)) in
    let heading : place.left ≡ feed_text n (length b.value) ++ told.behind.left = first ∙ (ap (λ k. feed_text k told.told.value.items ++ told.behind.left) told.told.then.0 ∙ ap (λ k. feed_text n k ++ told.behind.left) count) in
    let list : told.behind.left ≡ flat_map (item_text s.version) b.value ++ b.behind.left =
    items.left ∙ ap (λ xs. xs ++ b.behind.left) (same_each (item_text s.version) 0 items.tail ∙ ap (λ (is : List LogItem). flat_map (item_text s.version) is) (sym items.is)) in
    heading
    ∙ (ap (λ xs. feed_text n (length b.value) ++ xs) (list ∙ ap (λ xs. flat_map (item_text s.version) b.value ++ xs) stop)
    ∙ (sym (log_same s.version n b.value d.value d.behind.left)
    ∙ (ap (λ x. log_text s.version n x ++ d.behind.left) (sym d.then.0) ∙ ap (λ (p : Place). log_text s.version n log ++ p.left) (sym d.then.1))))

-- ---- boards, notes, times, the cost and the end

pub boards_left : (history : List Entry) (logs : List FeedLog) (place : Place) (n : ℕ) (next : Place) → TellsBoards history logs place (Ok (n, next)) → place.left ≡ boards_text n ++ next.left
unfolding boards_text
boards_left history logs place n next told =
    rules_left (IsNumberLine (codes "boards ")) (λ k. codes "boards " ++ (decimal k ++ line_end)) (numbered (codes "boards ")) _ _ (λ k. k) place told.behind told.value told.told
    ∙ (ap (λ k. (codes "boards " ++ (decimal k ++ line_end)) ++ told.behind.left) (sym told.told.then.1 ∙ sym told.then.1) ∙ ap (λ (p : Place). boards_text n ++ p.left) (sym told.then.2))

pub note_left : (history : List Entry) (before : List Note) (place : Place) (note : Note) (next : Place) → TellsNote history before place (Ok (note, next)) → place.left ≡ note_text note ++ next.left
note_left history before place note next told =
    rules_left IsNoteLine note_text (λ x line is. is.spelled) _ _ (λ x. x) place next note told ∙ ap (λ x. note_text x ++ next.left) (sym told.then.1)

pub time_left : (net : Net) (rows : RowsValue) (before : List ℕ) (place : Place) (t : ℕ) (next : Place) → TellsTime net rows before place (Ok (t, next)) →
    place.left ≡ timed_text net (length before) t ++ next.left
time_left net rows before place t next told =
    rules_left IsTimeLine (λ said. joined (decimal said.event ∷ codes "; " ∷ decimal said.time ∷ line_end ∷ [])) timed_line _ _ (λ said. said.time) place next t told
    ∙ (ap (λ k. joined (decimal k ∷ codes "; " ∷ decimal told.value.time ∷ line_end ∷ []) ++ next.left) told.then.0.event
    ∙ ap (λ k. timed_text net (length before) k ++ next.left) (sym told.then.1))

pub cost_left : (net : Net) (rows : RowsValue) (penalty : ℕ) (place : Place) (c : ℕ) (next : Place) → TellsCost net rows penalty place (Ok (c, next)) →
    place.left ≡ (codes "cost " ++ (decimal c ++ line_end)) ++ next.left
cost_left net rows penalty place c next told =
    rules_left (IsNumberLine (codes "cost ")) (λ k. codes "cost " ++ (decimal k ++ line_end)) (numbered (codes "cost ")) _ _ (λ k. k) place next c told
    ∙ ap (λ k. (codes "cost " ++ (decimal k ++ line_end)) ++ next.left) (sym told.then.1)

pub record Ends (run told : Run) (place : Place) : Type 0 where
  is : told ≡ run
  left : place.left ≡ codes "done" ++ line_end

pub end_left : (run : Run) (place : Place) (told_run : Run) (next : Place) → TellsEnd run place (Ok (told_run, next)) → Ends run told_run place
end_left run place told_run next told = record {
  is = told.then.1;
  left = line_told (IsWordLine (codes "done")) (λ x. codes "done" ++ line_end) (λ x line is. ap (λ xs. xs ++ line_end) is) place told.behind told.value told.told
      ∙ (ap (λ xs. (codes "done" ++ line_end) ++ xs) told.then.0 ∙ append-nil (codes "done" ++ line_end));
}

-- the times of all events, in their places
pub times_same : (net : Net) (before after : List ℕ) → texts_from (timed_text net) (length before) after ≡ flat_map (time_text net (before ++ after)) (range_with_len (length before) (length after))
unfolding time_text
times_same net before [] = refl
times_same net before (t ∷ after) =
    let more = times_same net (before ++ t ∷ []) after in
    let next : length (before ++ t ∷ []) ≡ length before + 1 = length-append before (t ∷ []) in
    let all : (before ++ t ∷ []) ++ after ≡ before ++ (t ∷ after) = append_assoc before (t ∷ []) after in
    let here : time_at (before ++ (t ∷ after)) (length before) ≡ t = get_or-append_seam before t after 0 in
    let m1 : texts_from (timed_text net) (length (before ++ t ∷ [])) after ≡ flat_map (time_text net (before ++ (t ∷ after))) (range_with_len (length (before ++ t ∷ [])) (length after)) =
    subst (λ (ts : List ℕ). texts_from (timed_text net) (length (before ++ t ∷ [])) after ≡ flat_map (time_text net ts) (range_with_len (length (before ++ t ∷ [])) (length after))) all more in
    let m2 : texts_from (timed_text net) (length before + 1) after ≡ flat_map (time_text net (before ++ (t ∷ after))) (range_with_len (length before + 1) (length after)) =
    subst (λ (k : ℕ). texts_from (timed_text net) k after ≡ flat_map (time_text net (before ++ (t ∷ after))) (range_with_len k (length after))) next m1 in
    ap (λ xs. timed_text net (length before) t ++ xs) m2
    ∙ ap (λ u. timed_text net (length before) u ++ flat_map (time_text net (before ++ (t ∷ after))) (range_with_len (length before + 1) (length after))) (sym here)

-- ---- the whole text

abbrev run_of : Setting → List Entry → List FeedLog → List Note → List ℕ → ℕ → Run
run_of s history logs notes times cost = record { net = s.net; penalty = s.penalty; history = history; logs = logs; notes = notes; times = times; cost = cost }

-- what stands behind the logs
abbrev rest_text : Run → List ℕ
rest_text run =
    boards_text (length run.notes) ++ (flat_map note_text run.notes ++ ((codes "times " ++ (decimal (length run.history) ++ line_end)) ++ (timetable_text run.net run.times
    ++ ((codes "cost " ++ (decimal run.cost ++ line_end)) ++ (codes "done" ++ line_end)))))

record RestTold (s : Setting) (history : List Entry) (logs : List FeedLog) (place : Place) (run : Run) : Type 0 where
  notes : List Note
  times : List ℕ
  cost : ℕ
  is : run ≡ run_of s history logs notes times cost
  left : place.left ≡ rest_text (run_of s history logs notes times cost)

rest_told : (s : Setting) (history : List Entry) (logs : List FeedLog) (place : Place) (run : Run) (next : Place) → TellsRest s history logs place (Ok (run, next)) → RestTold s history logs place run
unfolding timetable_text
rest_told s history logs place run next told =
    let rows : RowsValue = rows_after s history (length history) in
    let b = told.then in
    let d = b.then in
    let e = d.then in
    let f = e.then in
    let boards = boards_left history logs place told.value told.behind told.told in
    let notes = times_left (TellsNote history) (λ k. note_text) (λ before p n q t. note_left history before p n q t) told.value [] b.value told.behind b.behind b.told in
    let heading = number_left (codes "times ") (λ n. n ≡ length history) b.behind d.behind d.value d.told in
    let times = times_left (TellsTime s.net rows) (timed_text s.net) (λ before p n q t. time_left s.net rows before p n q t) (length s.net.events) [] e.value d.behind e.behind e.told in
    let cost = cost_left s.net rows s.penalty e.behind f.value f.behind f.told in
    let R : Run = run_of s history logs b.value e.value f.value in
    let end = end_left R f.behind run next f.then in
    let few : told.value ≡ length b.value = sym notes.count ∙ ap length (sym notes.is) in
    let list : told.behind.left ≡ flat_map note_text b.value ++ b.behind.left =
    notes.left ∙ ap (λ xs. xs ++ b.behind.left) (same_each note_text 0 notes.tail ∙ ap (λ (ns : List Note). flat_map note_text ns) (sym notes.is)) in
    let at : b.behind.left ≡ (codes "times " ++ (decimal (length history) ++ line_end)) ++ d.behind.left =
    heading ∙ ap (λ k. (codes "times " ++ (decimal k ++ line_end)) ++ d.behind.left) (d.told.then.1 ∙ d.told.then.0) in
    let shown : texts_from (timed_text s.net) 0 times.tail ≡ timetable_text s.net e.value =
    times_same s.net [] times.tail ∙ (ap (λ (ts : List ℕ). flat_map (time_text s.net ts) (range_with_len 0 (length times.tail))) (sym times.is)
    ∙ ap (λ k. flat_map (time_text s.net e.value) (range_with_len 0 k)) times.count) in
    let table : d.behind.left ≡ timetable_text s.net e.value ++ e.behind.left = times.left ∙ ap (λ xs. xs ++ e.behind.left) shown in
    record {
      notes = b.value;
      times = e.value;
      cost = f.value;
      is = end.is;
      left = boards ∙ (ap (λ k. boards_text k ++ told.behind.left) few
          ∙ ap (λ xs. boards_text (length b.value) ++ xs) (list
          ∙ ap (λ xs. flat_map note_text b.value ++ xs) (at
          ∙ ap (λ xs. (codes "times " ++ (decimal (length history) ++ line_end)) ++ xs) (table
          ∙ ap (λ xs. timetable_text s.net e.value ++ xs) (cost
          ∙ ap (λ xs. (codes "cost " ++ (decimal f.value ++ line_end)) ++ xs) end.left)))));
    }

pub regroup_all : (v p f e entries logs boards notes heading times c : List ℕ) →
    (codes "dm-run " ++ (v ++ line_end)) ++ ((codes "penalty " ++ (p ++ line_end)) ++ ((codes "feeds " ++ (f ++ line_end)) ++ ((codes "entries " ++ (e ++ line_end))
    ++ (entries ++ (logs ++ (boards ++ (notes ++ (heading ++ (times ++ ((codes "cost " ++ (c ++ line_end)) ++ (codes "done" ++ line_end)))))))))))
    ≡ joined (joined (codes "dm-run " ∷ v ∷ line_end ∷ codes "penalty " ∷ p ∷ line_end ∷ codes "feeds " ∷ f ∷ line_end ∷ codes "entries " ∷ e ∷ line_end ∷ [])
    ∷ entries ∷ logs ∷ boards ∷ notes ∷ heading ∷ times ∷ joined (codes "cost " ∷ c ∷ line_end ∷ codes "done" ∷ line_end ∷ []) ∷ [])
regroup_all v p f e entries logs boards notes heading times c = simp (append_assoc, append-nil)

-- what stands behind the version
abbrev body_text : ℕ → Run → List ℕ
body_text version run =
    (codes "penalty " ++ (decimal run.penalty ++ line_end)) ++ ((codes "feeds " ++ (decimal (length run.logs) ++ line_end)) ++ ((codes "entries " ++ (decimal (length run.history) ++ line_end))
    ++ (entries_text 1 run.history ++ (logs_text version 1 run.logs ++ rest_text run))))

body_told : (s : Setting) (place : Place) (run : Run) (next : Place) → TellsBody s place (Ok (run, next)) → place.left ≡ body_text s.version run
body_told s place run next told =
    let b = told.then in
    let d = b.then in
    let e = d.then in
    let f = e.then in
    let penalty = number_left (codes "penalty ") (λ n. n ≡ s.penalty) place told.behind told.value told.told in
    let feeds = number_left (codes "feeds ") _ told.behind b.behind b.value b.told in
    let entries = number_left (codes "entries ") _ b.behind d.behind d.value d.told in
    let history = times_left (TellsEntry s b.value) (λ k. entry_text (k + 1)) (λ before p n q t. entry_left s b.value before p n q t) d.value [] e.value d.behind e.behind e.told in
    let logs = times_left (TellsLog s e.value) (λ k. log_text s.version (k + 1)) (λ before p n q t. log_left s e.value before p n q t) b.value [] f.value e.behind f.behind f.told in
    let rest = rest_told s e.value f.value f.behind run next f.then in
    let R : Run = run_of s e.value f.value rest.notes rest.times rest.cost in
    let many : d.value ≡ length e.value = sym history.count ∙ ap length (sym history.is) in
    let few : b.value ≡ length f.value = sym logs.count ∙ ap length (sym logs.is) in
    let list : d.behind.left ≡ entries_text 1 e.value ++ e.behind.left =
    history.left ∙ ap (λ xs. xs ++ e.behind.left) (entries_same 0 history.tail ∙ ap (λ (es : List Entry). entries_text 1 es) (sym history.is)) in
    let told_logs : e.behind.left ≡ logs_text s.version 1 f.value ++ f.behind.left =
    logs.left ∙ ap (λ xs. xs ++ f.behind.left) (logs_same s.version 0 logs.tail ∙ ap (λ (ls : List FeedLog). logs_text s.version 1 ls) (sym logs.is)) in
    let all : place.left ≡ body_text s.version R =
    (penalty ∙ ap (λ k. (codes "penalty " ++ (decimal k ++ line_end)) ++ told.behind.left) (told.told.then.1 ∙ told.told.then.0))
    ∙ ap (λ xs. (codes "penalty " ++ (decimal s.penalty ++ line_end)) ++ xs) ((feeds ∙ ap (λ k. (codes "feeds " ++ (decimal k ++ line_end)) ++ b.behind.left) few)
    ∙ ap (λ xs. (codes "feeds " ++ (decimal (length f.value) ++ line_end)) ++ xs) ((entries ∙ ap (λ k. (codes "entries " ++ (decimal k ++ line_end)) ++ d.behind.left) many)
    ∙ ap (λ xs. (codes "entries " ++ (decimal (length e.value) ++ line_end)) ++ xs) (list
    ∙ ap (λ xs. entries_text 1 e.value ++ xs) (told_logs
    ∙ ap (λ xs. logs_text s.version 1 f.value ++ xs) rest.left)))) in
    subst (λ (r : Run). place.left ≡ body_text s.version r) (sym rest.is) all

-- the version is the one that the first line tells
pub good_is_spelled_so : (net : Net) (start : RowsValue) (penalty most_plans : ℕ) (text : List ℕ) (entries plans : ℕ) (good : IsGood net start penalty most_plans text entries plans) →
    text ≡ run_text good.told.value good.run
unfolding run_text header_text heading_text ending_text
good_is_spelled_so net start penalty most_plans text entries plans good =
    let version : ℕ = good.told.value in
    let run : Run = good.run in
    let s : Setting = record { net = net; start = start; penalty = penalty; plans = most_plans; version = version } in
    let first = stands_left IsVersionLine (λ v. codes "dm-run " ++ (decimal v ++ line_end)) version_line (at_start text) version good.told.behind good.told.told in
    let body = body_told s good.told.behind run good.end good.told.then in
    first ∙ (ap (λ xs. (codes "dm-run " ++ (decimal version ++ line_end)) ++ xs) body
    ∙ regroup_all (decimal version) (decimal run.penalty) (decimal (length run.logs)) (decimal (length run.history)) (entries_text 1 run.history) (logs_text version 1 run.logs)
    (boards_text (length run.notes)) (flat_map note_text run.notes) (codes "times " ++ (decimal (length run.history) ++ line_end)) (timetable_text run.net run.times) (decimal run.cost))

pub good_is_spelled : (net : Net) (start : RowsValue) (penalty most_plans : ℕ) (text : List ℕ) (entries plans : ℕ) (good : IsGood net start penalty most_plans text entries plans) →
    IsSpelledIn net start penalty most_plans text entries plans good
good_is_spelled net start penalty most_plans text entries plans good = record {
  version = good.told.value;
  is_version = good.told.told.spelled.is_version;
  spelled = good_is_spelled_so net start penalty most_plans text entries plans good;
}
