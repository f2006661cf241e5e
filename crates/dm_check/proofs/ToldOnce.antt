-- Of a text one thing alone is told: the run, or one fault.
use Rattle.std.proofs.Common.{◌≡◌, ℕ, ◌+◌, ◌≤◌, Bool, true, false, eqb, List, [], length, Option, Some, Result, Ok, Err, refl, sym, ap, subst, ◌∙◌, codes}
use Rattle.std.specs.Prelude.{MatchBool, count_by}
use Rattle.dm_base.specs.declared.limits.TheConstants.{FEEDS, BOARDS, ENTRIES}
use Rattle.dm_text.specs.Places.{Place, at_start}
use Rattle.dm_text.specs.Judging.{Then, Times, Demands, Finds, Gives, IsSingle}
use Rattle.dm_text.proofs.Judged.{SpellOne, line_one, then_one, times_one, demands_one, finds_one, gives_one}
use Rattle.dm_network.specs.Net.{Net}
use Rattle.dm_rows.specs.Rows.{RowsValue}
use Rattle.dm_rows.specs.Cost.{Costs}
use Rattle.dm_rows.specs.declared.messages.Decision.{Decision}
use Rattle.dm_rows.specs.declared.messages.Entry.{Entry}
use Rattle.dm_tree.specs.declared.forms.Node.{Node}
use Rattle.dm_cert.specs.declared.notes.Note.{Note}
use Rattle.dm_cert.specs.declared.replies.LogItem.{LogItem}
use Rattle.dm_cert.specs.declared.replies.LogItem.TheVariants.{Answered}
use Rattle.dm_cert.specs.declared.replies.Reply.TheVariants.{Planned}
use Rattle.dm_cert.specs.declared.replies.FeedLog.{FeedLog}
use Rattle.dm_cert.specs.Answers.{Setting, rows_after, is_plan}
use Rattle.dm_cert.specs.Logs.{all_items}
use Rattle.dm_cert.specs.PlansRead.{IsChoiceLine, IsLeafLine, IsNodeLine, ShowsLeaves, ShowsNodes}
use Rattle.dm_cert.specs.RunTexts.{Run}
use Rattle.dm_cert.specs.SolvedRead.{TellsSolvedBehind}
use Rattle.dm_cert.specs.declared.faults.CertFault.{CertFault}
use Rattle.dm_cert.specs.declared.faults.CertKind.{CertKind}
use Rattle.dm_cert.specs.declared.faults.CertKind.TheVariants as cert
use Rattle.dm_cert.proofs.SpelledSolved.{solved_behind_single}
use Rattle.dm_cert.specs.Inside.PlanLines.{choice_in, node_in}
use Rattle.dm_cert.proofs.DecisionsRead.{reads_choice}
use Rattle.dm_cert.proofs.NodesRead.{reads_node}
use Rattle.dm_cert.specs.Inside.PlanLines.{Reads as ReadsExactly}
use Rattle.dm_cert.proofs.SpelledPlans.{leaf_one, leaves_show_one}
use Rattle.dm_records.specs.RunLines.{PlanOpening, SolvedOpening, ItemLine, lone, planned, solved, IsNumberLine, IsVersionLine, IsEntryLine, IsOpeningLine, IsItemLine, IsStopLine, IsNoteLine, IsTimeLine, IsWordLine, heading_of, solved_item}
use Rattle.dm_records.proofs.LinesOnce.{lines_spell_one}
use Rattle.dm_check.specs.declared.faults.Fault.{Fault}
use Rattle.dm_check.specs.declared.verdicts.BadKind.{BadKind}
use Rattle.dm_check.specs.declared.verdicts.BadKind.TheVariants as kind
use Rattle.dm_check.specs.declared.verdicts.Verdict.TheVariants.{Good, Bad}
use Rattle.dm_check.specs.FalseRecords.{bad, Reads, Rules, IsNextEntry, TellsEntry, IsNextItem, plan_opened, IsNextPlan, TellsPlanBehind, IsSameKind, TellsFault, InRun, TellsSolvedPlan, TellsBehind, TellsItem, TellsLog, AreNamed, TellsBoards, IsNextNote, TellsNote, IsNextTime, TellsTime, TellsCost, TellsEnd, TellsNumber, TellsRest, TellsBody, TellsRun}
use Rattle.dm_check.specs.Laws.{VerdictsAreOne}

-- ---- one record

-- what is read exactly is one value
read_once : {V : Type 0} (spells : V → List ℕ → Type 0) (read : List ℕ → Option V) → ((line : List ℕ) → ReadsExactly spells line (read line)) → SpellOne spells
read_once spells read reads = λ line v w p q. some_same v w (sym ((reads line).back v p) ∙ (reads line).back w q)
  where
    some_same : {V : Type 0} (v w : V) → Some v ≡ Some w → v ≡ w
    some_same v w e = cc

reads_once : {V : Type 0} (spells : V → List ℕ → Type 0) → SpellOne spells → IsSingle (Reads spells)
reads_once spells one = line_one (bad kind.Truncated) (bad kind.Form) spells one

rules_once : {V W : Type 0} (spells : V → List ℕ → Type 0) → SpellOne spells → (rule : V → Type 0) (k : BadKind) (gives : V → W) → IsSingle (Rules spells rule k gives)
rules_once spells one rule k gives =
    λ place a b p q. then_one (Reads spells) (λ v. Demands (rule v) (bad k place.line) (gives v)) (reads_once spells one) (λ v. demands_one (rule v) (bad k place.line) (gives v)) place a b p q

entry_once : (s : Setting) (feeds : ℕ) (before : List Entry) → IsSingle (TellsEntry s feeds before)
entry_once s feeds before = rules_once IsEntryLine lines_spell_one.entries (IsNextEntry s feeds before) kind.Entry (λ said. said.entry)

number_once : (words : List ℕ) (rule : ℕ → Type 0) → IsSingle (TellsNumber words rule)
number_once words rule = rules_once (IsNumberLine words) (lines_spell_one.numbers words) rule kind.Form (λ n. n)

-- ---- log items

next_plan_once : (s : Setting) (history : List Entry) (feed : ℕ) (before : List LogItem) (opening : PlanOpening) (choices : List Decision) (Shows : List Node → Type 0) →
    ((one other : List Node) → Shows one → Shows other → one ≡ other) →
    (x y : LogItem) → IsNextPlan s history feed before opening choices Shows x → IsNextPlan s history feed before opening choices Shows y → x ≡ y
next_plan_once s history feed before opening choices Shows one x y p q =
    p.is ∙ (ap (λ nodes. Answered opening.line opening.said (Planned (plan_opened opening choices nodes))) (one p.nodes q.nodes p.shown q.shown) ∙ sym q.is)

tree_once : (b : Bool) (s : Setting) (history : List Entry) (feed : ℕ) (before : List LogItem) (opening : PlanOpening) (first : ℕ) (choices : List Decision) (place : Place) (one other : Result (LogItem × Place) Fault) →
    MatchBool b
    (Then (Times opening.size (λ read. Reads IsLeafLine) []) (λ leaves. Finds (IsNextPlan s history feed before opening choices (ShowsLeaves leaves)) (bad kind.Plan first)) place one)
    (Then (Times opening.size (λ read. Reads IsNodeLine) []) (λ nodes. Finds (IsNextPlan s history feed before opening choices (ShowsNodes nodes)) (bad kind.Plan first)) place one) →
    MatchBool b
    (Then (Times opening.size (λ read. Reads IsLeafLine) []) (λ leaves. Finds (IsNextPlan s history feed before opening choices (ShowsLeaves leaves)) (bad kind.Plan first)) place other)
    (Then (Times opening.size (λ read. Reads IsNodeLine) []) (λ nodes. Finds (IsNextPlan s history feed before opening choices (ShowsNodes nodes)) (bad kind.Plan first)) place other) →
    one ≡ other
tree_once true s history feed before opening first choices place one other p q =
    then_one (Times opening.size (λ read. Reads IsLeafLine) []) (λ leaves. Finds (IsNextPlan s history feed before opening choices (ShowsLeaves leaves)) (bad kind.Plan first))
    (times_one (λ read. Reads IsLeafLine) (λ read. reads_once IsLeafLine leaf_one) opening.size [])
    (λ leaves. finds_one (IsNextPlan s history feed before opening choices (ShowsLeaves leaves)) (bad kind.Plan first) (next_plan_once s history feed before opening choices (ShowsLeaves leaves) (leaves_show_one leaves)))
    place one other p q
tree_once false s history feed before opening first choices place one other p q =
    then_one (Times opening.size (λ read. Reads IsNodeLine) []) (λ nodes. Finds (IsNextPlan s history feed before opening choices (ShowsNodes nodes)) (bad kind.Plan first))
    (times_one (λ read. Reads IsNodeLine) (λ read. reads_once IsNodeLine (read_once IsNodeLine node_in reads_node)) opening.size [])
    (λ nodes. finds_one (IsNextPlan s history feed before opening choices (ShowsNodes nodes)) (bad kind.Plan first) (next_plan_once s history feed before opening choices (ShowsNodes nodes) (λ one other p q. p.shown ∙ sym q.shown)))
    place one other p q

plan_once : (s : Setting) (history : List Entry) (feed : ℕ) (before : List LogItem) (opening : PlanOpening) (first : ℕ) → IsSingle (TellsPlanBehind s history feed before opening first)
plan_once s history feed before opening first =
    then_one (Times opening.choices (λ read. Reads IsChoiceLine) []) _
    (times_one (λ read. Reads IsChoiceLine) (λ read. reads_once IsChoiceLine (read_once IsChoiceLine choice_in reads_choice)) opening.choices [])
    (λ choices place one other p q. tree_once (eqb s.version 1) s history feed before opening first choices place one other p q)

-- what is told of the lines of a plan by parts
kind_once : (k : CertKind) (one other : BadKind) → IsSameKind k one → IsSameKind k other → one ≡ other
kind_once cert.Form one other p q = p ∙ sym q
kind_once cert.Truncated one other p q = p ∙ sym q
kind_once cert.NotATree one other p q = p ∙ sym q
kind_once cert.OutOfMemory one other p q = absurd p

fault_once : {V : Type 0} (tells : Place → Result (V × Place) CertFault → Type 0) → IsSingle tells → (place : Place) (one other : Fault) → TellsFault tells place one → TellsFault tells place other → one ≡ other
fault_once {V} tells single place one other p q =
    let same : p.cert ≡ q.cert = let e : ◌≡◌ {A = Result (V × Place) CertFault} (Err p.cert) (Err q.cert) = single place (Err p.cert) (Err q.cert) p.told q.told in cc in
    let lines : one.line ≡ other.line = p.line ∙ (ap (λ (f : CertFault). f.line) same ∙ sym q.line) in
    let kinds : one.kind ≡ other.kind = kind_once q.cert.kind one.kind other.kind (subst (λ (f : CertFault). IsSameKind f.kind one.kind) same p.kind) q.kind in
    ap (λ (n : ℕ). record { line = n; kind = one.kind }) lines ∙ ap (λ (k : BadKind). bad k other.line) kinds

in_run_once : {V : Type 0} (tells : Place → Result (V × Place) CertFault → Type 0) → IsSingle tells → IsSingle (InRun tells)
in_run_once {V} tells single place (Ok a) (Ok b) p q = let e : ◌≡◌ {A = Result (V × Place) CertFault} (Ok a) (Ok b) = single place (Ok a) (Ok b) p q in cc
in_run_once {V} tells single place (Ok a) (Err g) p q = let e : ◌≡◌ {A = Result (V × Place) CertFault} (Ok a) (Err q.cert) = single place (Ok a) (Err q.cert) p q.told in absurd (cc)
in_run_once {V} tells single place (Err f) (Ok b) p q = let e : ◌≡◌ {A = Result (V × Place) CertFault} (Err p.cert) (Ok b) = single place (Err p.cert) (Ok b) p.told q in absurd (cc)
in_run_once {V} tells single place (Err f) (Err g) p q = ap (λ h. Err h) (fault_once tells single place f g p q)

solution_once : (s : Setting) (history : List Entry) (feed : ℕ) (before : List LogItem) (opening : SolvedOpening) (first : ℕ) → IsSingle (TellsSolvedPlan s history feed before opening first)
solution_once s history feed before opening first =
    then_one (InRun (TellsSolvedBehind opening.entry (heading_of opening))) _
    (in_run_once (TellsSolvedBehind opening.entry (heading_of opening)) (solved_behind_single opening.entry (heading_of opening)))
    (λ plan. demands_one (IsNextItem s history feed before (solved_item opening plan)) (bad kind.Plan first) (solved_item opening plan))

behind_once : (s : Setting) (history : List Entry) (feed : ℕ) (before : List LogItem) (first : ℕ) (i : ItemLine) → IsSingle (TellsBehind s history feed before first i)
behind_once s history feed before first (lone answered) = demands_one (IsNextItem s history feed before answered) (bad kind.Reply first) answered
behind_once s history feed before first (planned opening) = plan_once s history feed before opening first
behind_once s history feed before first (solved opening) = solution_once s history feed before opening first

item_once : (s : Setting) (history : List Entry) (feed : ℕ) (before : List LogItem) → IsSingle (TellsItem s history feed before)
item_once s history feed before =
    λ place a b p q. then_one (Reads (IsItemLine s.version)) (TellsBehind s history feed before place.line) (reads_once (IsItemLine s.version) (lines_spell_one.items s.version))
    (λ i. behind_once s history feed before place.line i) place a b p q

-- ---- logs

log_once : (s : Setting) (history : List Entry) (before : List FeedLog) → IsSingle (TellsLog s history before)
log_once s history before =
    then_one (Rules IsOpeningLine (λ opening. opening.feed ≡ length before + 1) kind.Form (λ opening. opening.items)) _
    (rules_once IsOpeningLine lines_spell_one.openings (λ opening. opening.feed ≡ length before + 1) kind.Form (λ opening. opening.items))
    (λ items. then_one (Times items (TellsItem s history (length before + 1)) []) _
    (times_one (TellsItem s history (length before + 1)) (λ held. item_once s history (length before + 1) held) items [])
    (λ answered. then_one (Reads IsStopLine) (λ stop. Gives (record { items = answered; stop = stop })) (reads_once IsStopLine lines_spell_one.stops)
    (λ stop. gives_one (record { items = answered; stop = stop }))))

-- ---- notes, times and the cost

boards_once : (history : List Entry) (logs : List FeedLog) → IsSingle (TellsBoards history logs)
boards_once history logs =
    λ place a b p q. then_one (Rules (IsNumberLine (codes "boards ")) (λ notes. notes ≤ BOARDS) kind.Form (λ notes. notes)) (λ notes. Demands (AreNamed history logs) (bad kind.Unnamed place.line) notes)
    (rules_once (IsNumberLine (codes "boards ")) (lines_spell_one.numbers (codes "boards ")) (λ notes. notes ≤ BOARDS) kind.Form (λ notes. notes))
    (λ notes. demands_one (AreNamed history logs) (bad kind.Unnamed place.line) notes) place a b p q

note_once : (history : List Entry) (before : List Note) → IsSingle (TellsNote history before)
note_once history before = rules_once IsNoteLine lines_spell_one.notes (IsNextNote history before) kind.Board (λ note. note)

time_once : (net : Net) (rows : RowsValue) (before : List ℕ) → IsSingle (TellsTime net rows before)
time_once net rows before = rules_once IsTimeLine lines_spell_one.times (IsNextTime net rows before) kind.Time (λ said. said.time)

cost_once : (net : Net) (rows : RowsValue) (penalty : ℕ) → IsSingle (TellsCost net rows penalty)
cost_once net rows penalty = rules_once (IsNumberLine (codes "cost ")) (lines_spell_one.numbers (codes "cost ")) (Costs net rows penalty) kind.Cost (λ cost. cost)

word_once : (words : List ℕ) → SpellOne (IsWordLine words)
word_once words line v w p q = refl

end_once : (run : Run) → IsSingle (TellsEnd run)
end_once run =
    then_one (Reads (IsWordLine (codes "done"))) (λ said place. Demands (place.left ≡ []) (bad kind.Form place.line) run place) (reads_once (IsWordLine (codes "done")) (word_once (codes "done")))
    (λ said place a b p q. demands_one (place.left ≡ []) (bad kind.Form place.line) run place a b p q)

-- ---- the whole

rest_once : (s : Setting) (history : List Entry) (logs : List FeedLog) → IsSingle (TellsRest s history logs)
rest_once s history logs =
    let rows : RowsValue = rows_after s history (length history) in
    then_one (TellsBoards history logs) _ (boards_once history logs)
    (λ count. then_one (Times count (TellsNote history) []) _ (times_one (TellsNote history) (λ before. note_once history before) count [])
    (λ notes. then_one (TellsNumber (codes "times ") (λ n. n ≡ length history)) _ (number_once (codes "times ") (λ n. n ≡ length history))
    (λ heading. then_one (Times (length s.net.events) (TellsTime s.net rows) []) _ (times_one (TellsTime s.net rows) (λ before. time_once s.net rows before) (length s.net.events) [])
    (λ times. then_one (TellsCost s.net rows s.penalty) _ (cost_once s.net rows s.penalty)
    (λ cost. end_once (record { net = s.net; penalty = s.penalty; history = history; logs = logs; notes = notes; times = times; cost = cost }))))))

body_once : (s : Setting) → IsSingle (TellsBody s)
body_once s =
    then_one (TellsNumber (codes "penalty ") (λ n. n ≡ s.penalty)) _ (number_once (codes "penalty ") (λ n. n ≡ s.penalty))
    (λ penalty. then_one (TellsNumber (codes "feeds ") (λ n. (1 ≤ n) × (n ≤ FEEDS))) _ (number_once (codes "feeds ") (λ n. (1 ≤ n) × (n ≤ FEEDS)))
    (λ feeds. then_one (TellsNumber (codes "entries ") (λ n. n ≤ ENTRIES)) _ (number_once (codes "entries ") (λ n. n ≤ ENTRIES))
    (λ entries. then_one (Times entries (TellsEntry s feeds) []) _ (times_one (TellsEntry s feeds) (λ before. entry_once s feeds before) entries [])
    (λ history. then_one (Times feeds (TellsLog s history) []) _ (times_one (TellsLog s history) (λ before. log_once s history before) feeds [])
    (λ logs. rest_once s history logs)))))

pub run_once : (net : Net) (start : RowsValue) (penalty most_plans : ℕ) → IsSingle (TellsRun net start penalty most_plans)
run_once net start penalty most_plans =
    then_one (Reads IsVersionLine) (λ version. TellsBody (record { net = net; start = start; penalty = penalty; plans = most_plans; version = version })) (reads_once IsVersionLine lines_spell_one.versions)
    (λ version. body_once (record { net = net; start = start; penalty = penalty; plans = most_plans; version = version }))

-- ---- verdicts

ok_run : (r q : Run) (end other : Place) → (◌≡◌ {A = Result (Run × Place) Fault} (Ok (r, end)) (Ok (q, other))) → r ≡ q
ok_run r q end other e = let both : (◌≡◌ {A = Run × Place} (r, end) (q, other)) = cc in ap (λ (p : Run × Place). p.0) both

ok_or_bad : (r : Run) (end : Place) (f : Fault) → (◌≡◌ {A = Result (Run × Place) Fault} (Ok (r, end)) (Err f)) → ⊥
ok_or_bad r end f e = cc

same_fault : (f g : Fault) → (◌≡◌ {A = Result (Run × Place) Fault} (Err f) (Err g)) → f ≡ g
same_fault f g e = cc

same_good : (a b c d : ℕ) → a ≡ c → b ≡ d → Good a b ≡ Good c d
same_good a b c d p q = cc

pub verdicts_are_one : VerdictsAreOne
verdicts_are_one net start penalty most_plans text (Good entries plans) (Good other others) p q =
    let same = ok_run p.run q.run p.end q.end (run_once net start penalty most_plans (at_start text) (Ok (p.run, p.end)) (Ok (q.run, q.end)) p.told q.told) in
    same_good entries plans other others
    (p.entries_are ∙ (ap (λ (r : Run). length r.history) same ∙ sym q.entries_are))
    (p.plans_are ∙ (ap (λ (r : Run). count_by is_plan (all_items r.logs)) same ∙ sym q.plans_are))
verdicts_are_one net start penalty most_plans text (Good entries plans) (Bad line k) p q =
    absurd (ok_or_bad p.run p.end (bad k line) (run_once net start penalty most_plans (at_start text) (Ok (p.run, p.end)) (Err (bad k line)) p.told q))
verdicts_are_one net start penalty most_plans text (Bad line k) (Good entries plans) p q =
    absurd (ok_or_bad q.run q.end (bad k line) (run_once net start penalty most_plans (at_start text) (Ok (q.run, q.end)) (Err (bad k line)) q.told p))
verdicts_are_one net start penalty most_plans text (Bad line k) (Bad other j) p q =
    let same = same_fault (bad k line) (bad j other) (run_once net start penalty most_plans (at_start text) (Err (bad k line)) (Err (bad j other)) p q) in
    ap (λ (f : Fault). Bad f.line f.kind) same
