-- Words ask for one thing at most.
use Rattle.std.proofs.Common.{◌<◌, arith, codes, eqb, eq-eqb, get_or, Bool, true, false, ◌≡◌, ℕ, List, [], ◌∷◌, Option, Some, None, Result, Ok, refl, sym, ap, subst, ◌∙◌}
use Rattle.std.specs.Char.{IsAsciiDigit}
use Rattle.dm_lintim.specs.Columns.{FileColumns, ReadsFileColumns}
use Rattle.dm_lintim.specs.declared.columns.ColumnFault.{ColumnFault}
use Rattle.dm_lintim.proofs.WordLemmas.{columns_one}
use Rattle.dm_words.specs.Options.{GivesOption, penalty_option, batch_option, boards_option, event_columns_option, activity_columns_option, event_delays_option, activity_delays_option, cancelled_option, held_option, solve_option, HasFlag}
use Rattle.dm_words.specs.Ids.{AreIdsOrNone}
use Rattle.dm_words.specs.Values.{IsNumber, IsNumberOr, IsNumberOrNone}
use Rattle.dm_words.specs.Words.{Command, FilesAsked, RunAsked, CheckAsked, GenAsked, QueryAsked, RunOf, CheckOf, GenOf, QueryOf, Asks, AsksFiles, AsksRun, AsksCheck, AsksGen, AsksQuery, IsPenalty, IsBatch, HasBoards, event_words, activity_words}
use Rattle.dm_words.specs.Queries.{AsksJourney, AsksOwn, AsksRules, AsksWindow, HasHeld, HasNumber, IsRule, MayHaveNumber, kind_of, word_of}
use Rattle.dm_words.specs.declared.options.QueryKind.{QueryKind}
use Rattle.dm_words.specs.declared.options.QueryKind.TheVariants as kind
use Rattle.dm_words.specs.declared.queries.JourneyWords.{JourneyWords}
use Rattle.dm_words.specs.declared.queries.WindowWords.{WindowWords}
use Rattle.dm_words.specs.declared.queries.Query.{Query}
use Rattle.dm_words.specs.declared.queries.Query.TheVariants.{Follow, Window, Rules, Journey}
use Rattle.dm_words.specs.declared.queries.RulesWords.{RulesWords}
use Rattle.dm_words.specs.declared.queries.RuleWord.{RuleWord}
use Rattle.dm_words.specs.declared.queries.RuleWord.TheVariants.{Never, Always, AtMost}
use Rattle.dm_words.proofs.Numbering.{spell_one}

given_one : (option : List ℕ) (words : List (List ℕ)) (a b : Option (List ℕ)) → GivesOption option words a → GivesOption option words b → a ≡ b
given_one option words None None p q = refl
given_one option words None (Some y) p q = let e = p in let f = q.0 in cc (e, f)
given_one option words (Some x) None p q = let e = p.0 in let f = q in cc (e, f)
given_one option words (Some x) (Some y) p q = let e = p.0 in let f = q.0 in cc (e, f)

number_one : (text : List ℕ) (least most a b : ℕ) → IsNumber text least most a → IsNumber text least most b → a ≡ b
number_one text least most a b p q = p.is ∙ sym q.is

number_or_one : (given : Option (List ℕ)) (least most standard a b : ℕ) → IsNumberOr given least most standard a → IsNumberOr given least most standard b → a ≡ b
number_or_one None least most standard a b p q = p ∙ sym q
number_or_one (Some text) least most standard a b p q = number_one text least most a b p q

penalty_one : (words : List (List ℕ)) (a b : ℕ) → IsPenalty words a → IsPenalty words b → a ≡ b
penalty_one words a b p q =
    let same = given_one penalty_option words p.value q.value p.given q.given in
    number_or_one q.value _ _ _ a b (subst (λ (v : Option (List ℕ)). IsNumberOr v _ _ _ a) same p.is) q.is

batch_one : (words : List (List ℕ)) (a b : ℕ) → IsBatch words a → IsBatch words b → a ≡ b
batch_one words a b p q =
    let same = given_one batch_option words p.value q.value p.given q.given in
    number_or_one q.value _ _ _ a b (subst (λ (v : Option (List ℕ)). IsNumberOr v _ _ _ a) same p.is) q.is

-- an option gives one number
pub option_one : (option : List ℕ) (least most standard : ℕ) (words : List (List ℕ)) (a b : ℕ) → HasNumber option least most standard words a → HasNumber option least most standard words b → a ≡ b
option_one option least most standard words a b p q =
    let same = given_one option words p.value q.value p.given q.given in
    number_or_one q.value _ _ _ a b (subst (λ (v : Option (List ℕ)). IsNumberOr v _ _ _ a) same p.is) q.is

ids_one : (most : ℕ) (given : Option (List ℕ)) (a b : List ℕ) → AreIdsOrNone most given a → AreIdsOrNone most given b → a ≡ b
ids_one most None a b p q = p ∙ sym q
ids_one most (Some text) a b p q = spell_one _ a b p.spelled q.spelled

pub boards_one : (words : List (List ℕ)) (a b : List ℕ) → HasBoards words a → HasBoards words b → a ≡ b
boards_one words a b p q =
    let same = given_one boards_option words p.value q.value p.given q.given in
    ids_one _ q.value a b (subst (λ (v : Option (List ℕ)). AreIdsOrNone _ v a) same p.are) q.are

abbrev columns_read : FileColumns → Result FileColumns ColumnFault
columns_read columns = Ok columns

read_is : (a b : FileColumns) → columns_read a ≡ columns_read b → a ≡ b
read_is a b e = cc

pub first_name : (a c : List ℕ) (b d : List (List ℕ)) → a ∷ b ≡ c ∷ d → a ≡ c
first_name a c b d e = cc

pub later_names : (a c : List ℕ) (b d : List (List ℕ)) → a ∷ b ≡ c ∷ d → b ≡ d
later_names a c b d e = cc

pub second_name : (a b c d : List ℕ) → a ∷ b ∷ [] ≡ c ∷ d ∷ [] → b ≡ d
second_name a b c d e = cc

files_are : (x y : FilesAsked) → x.folder ≡ y.folder → x.penalty ≡ y.penalty → x.plans ≡ y.plans → x.columns ≡ y.columns → x.event_delays ≡ y.event_delays → x.activity_delays ≡ y.activity_delays → x.cancelled ≡ y.cancelled → x ≡ y
files_are x y folder penalty plans columns events activities cancelled =
    ap (λ v. record x { folder = v }) folder
    ∙ (ap (λ v. record x { folder = y.folder; penalty = v }) penalty
    ∙ (ap (λ v. record x { folder = y.folder; penalty = y.penalty; plans = v }) plans
    ∙ (ap (λ v. record x { folder = y.folder; penalty = y.penalty; plans = y.plans; columns = v }) columns
    ∙ (ap (λ v. record y { event_delays = v; activity_delays = x.activity_delays; cancelled = x.cancelled }) events
    ∙ (ap (λ v. record y { activity_delays = v; cancelled = x.cancelled }) activities
    ∙ ap (λ v. record y { cancelled = v }) cancelled)))))

pub files_one : (words : List (List ℕ)) (x y : FilesAsked) → x.folder ≡ y.folder → AsksFiles words x → AsksFiles words y → x ≡ y
files_one words x y folder p q =
    let events = given_one event_columns_option words p.events q.events p.gives_events q.gives_events in
    let activities = given_one activity_columns_option words p.activities q.activities p.gives_activities q.gives_activities in
    let columns = columns_one (event_words q.events) (activity_words q.activities) (Ok x.columns) (Ok y.columns)
    (subst (λ (a : Option (List ℕ)). ReadsFileColumns (event_words q.events) (activity_words a) (Ok x.columns)) activities
    (subst (λ (e : Option (List ℕ)). ReadsFileColumns (event_words e) (activity_words p.activities) (Ok x.columns)) events p.are_columns)) q.are_columns in
    files_are x y folder (penalty_one words x.penalty y.penalty p.penalty q.penalty)
    (option_one _ _ _ _ words x.plans y.plans p.plans q.plans) (read_is x.columns y.columns columns)
    (given_one event_delays_option words x.event_delays y.event_delays p.gives_event_delays q.gives_event_delays)
    (given_one activity_delays_option words x.activity_delays y.activity_delays p.gives_activity_delays q.gives_activity_delays)
    (given_one cancelled_option words x.cancelled y.cancelled p.gives_cancelled q.gives_cancelled)

pub run_is : (x y : RunAsked) → x.files ≡ y.files → x.feeds ≡ y.feeds → x.batch ≡ y.batch → x.workers ≡ y.workers → x.boards ≡ y.boards → x ≡ y
run_is x y files feeds batch workers boards =
    ap (λ v. record x { files = v }) files
    ∙ (ap (λ v. record x { files = y.files; feeds = v }) feeds
    ∙ (ap (λ v. record x { files = y.files; feeds = y.feeds; batch = v }) batch
    ∙ (ap (λ v. record y { boards = x.boards; workers = v }) workers
    ∙ ap (λ v. record y { boards = v }) boards)))

run_one : (words : List (List ℕ)) (x y : RunAsked) → AsksRun words x → AsksRun words y → x ≡ y
run_one words x y p q =
    let names = sym p.names ∙ q.names in
    run_is x y (files_one words x.files y.files (first_name x.files.folder y.files.folder x.feeds y.feeds names) p.files q.files)
    (later_names x.files.folder y.files.folder x.feeds y.feeds names) (batch_one words x.batch y.batch p.batch q.batch)
    (option_one _ _ _ _ words x.workers y.workers p.workers q.workers) (boards_one words x.boards y.boards p.boards q.boards)

check_is : (x y : CheckAsked) → x.files ≡ y.files → x.text ≡ y.text → x ≡ y
check_is x y files text = ap (λ v. record x { files = v }) files ∙ ap (λ v. record y { text = v }) text

check_one : (words : List (List ℕ)) (x y : CheckAsked) → AsksCheck words x → AsksCheck words y → x ≡ y
check_one words x y p q =
    let names = sym p.names ∙ q.names in
    check_is x y (files_one words x.files y.files (first_name x.files.folder y.files.folder (x.text ∷ []) (y.text ∷ []) names) p.files q.files)
    (second_name x.files.folder x.text y.files.folder y.text names)

gen_is : (x y : GenAsked) → x.number ≡ y.number → x.trains ≡ y.trains → x.penalty ≡ y.penalty → x ≡ y
gen_is x y number trains penalty =
    ap (λ v. record x { number = v }) number
    ∙ (ap (λ v. record x { number = y.number; trains = v }) trains ∙ ap (λ v. record y { penalty = v }) penalty)

gen_one : (words : List (List ℕ)) (x y : GenAsked) → AsksGen words x → AsksGen words y → x ≡ y
gen_one words x y p q =
    let names = sym p.names ∙ q.names in
    let number = first_name p.number q.number (p.trains ∷ []) (q.trains ∷ []) names in
    let trains = second_name p.number p.trains q.number q.trains names in
    gen_is x y (number_one q.number _ _ x.number y.number (subst (λ (t : List ℕ). IsNumber t _ _ x.number) number p.is_number) q.is_number)
    (number_one q.trains _ _ x.trains y.trains (subst (λ (t : List ℕ). IsNumber t _ _ x.trains) trains p.are_trains) q.are_trains)
    (penalty_one words x.penalty y.penalty p.penalty q.penalty)

-- words that begin otherwise are not one word
pub differ : (a b word : List ℕ) → word ≡ a → word ≡ b → eqb (get_or a 0 0) (get_or b 0 0) ≡ false → ⊥
differ a b word p q other =
    let same : get_or a 0 0 ≡ get_or b 0 0 = ap (λ (w : List ℕ). get_or w 0 0) (sym p ∙ q) in
    let both : false ≡ true = sym other ∙ eq-eqb (get_or a 0 0) (get_or b 0 0) same in
    cc

-- nor are words that differ in a later letter
differ_later : (k : ℕ) (a b word : List ℕ) → word ≡ a → word ≡ b → eqb (get_or a k 0) (get_or b k 0) ≡ false → ⊥
differ_later k a b word p q other =
    let same : get_or a k 0 ≡ get_or b k 0 = ap (λ (w : List ℕ). get_or w k 0) (sym p ∙ q) in
    let both : false ≡ true = sym other ∙ eq-eqb (get_or a k 0) (get_or b k 0) same in
    cc

-- ---- questions to a journal

three_names : (a b c d e f : List ℕ) → a ∷ b ∷ c ∷ [] ≡ d ∷ e ∷ f ∷ [] → (a ≡ d) × (b ≡ e) × (c ≡ f)
three_names a b c d e f is = (cc, cc, cc)

four_same : {A B C D X : Type 0} (make : A → B → C → D → X) (a i : A) (b j : B) (c k : C) (d l : D) → a ≡ i → b ≡ j → c ≡ k → d ≡ l → make a b c d ≡ make i j k l
four_same make a i b j c k d l p q r s = ap (λ v. make v b c d) p ∙ (ap (λ v. make i v c d) q ∙ (ap (λ v. make i j v d) r ∙ ap (λ v. make i j k v) s))

abbrev journey_of : ℕ → ℕ → ℕ → ℕ → JourneyWords
journey_of from to after changes = record { from = from; to = to; after = after; changes = changes }

journey_one : (names words : List (List ℕ)) (x y : JourneyWords) → AsksJourney x names words → AsksJourney y names words → x ≡ y
journey_one names words x y p q =
    let same = three_names p.from p.to p.after q.from q.to q.after (sym p.are_names ∙ q.are_names) in
    four_same journey_of x.from y.from x.to y.to x.after y.after x.changes y.changes
    (number_one q.from _ _ x.from y.from (subst (λ (t : List ℕ). IsNumber t _ _ x.from) same.0 p.is_from) q.is_from)
    (number_one q.to _ _ x.to y.to (subst (λ (t : List ℕ). IsNumber t _ _ x.to) same.1 p.is_to) q.is_to)
    (number_one q.after _ _ x.after y.after (subst (λ (t : List ℕ). IsNumber t _ _ x.after) same.2 p.is_after) q.is_after)
    (option_one _ _ _ _ words x.changes y.changes p.changes q.changes)

number_or_none_one : (value : Option (List ℕ)) (most : ℕ) (a b : Option ℕ) → IsNumberOrNone value most a → IsNumberOrNone value most b → a ≡ b
number_or_none_one None most None None p q = refl
number_or_none_one None most None (Some b) p q = absurd q
number_or_none_one None most (Some a) b p q = absurd p
number_or_none_one (Some text) most None b p q = absurd p
number_or_none_one (Some text) most (Some a) None p q = absurd q
number_or_none_one (Some text) most (Some a) (Some b) p q = ap Some (number_one text _ _ a b p q)

may_have_one : (option : List ℕ) (most : ℕ) (words : List (List ℕ)) (a b : Option ℕ) → MayHaveNumber option most words a → MayHaveNumber option most words b → a ≡ b
may_have_one option most words a b p q =
    let same = given_one option words p.value q.value p.given q.given in
    number_or_none_one q.value most a b (subst (λ (v : Option (List ℕ)). IsNumberOrNone v most a) same p.is) q.is

held_one : (words : List (List ℕ)) (a b : List ℕ) → HasHeld words a → HasHeld words b → a ≡ b
held_one words a b p q =
    let same = given_one held_option words p.value q.value p.given q.given in
    ids_one _ q.value a b (subst (λ (v : Option (List ℕ)). AreIdsOrNone _ v a) same p.are) q.are

flag_one : (option : List ℕ) (words : List (List ℕ)) (x y : Bool) → HasFlag option words x → HasFlag option words y → x ≡ y
flag_one option words true true p q = refl
flag_one option words false false p q = refl
flag_one option words true false p q = let e = p in let f = q in absurd cc
flag_one option words false true p q = let e = p in let f = q in absurd cc

abbrev window_of : Bool → List ℕ → Option ℕ → ℕ → ℕ → ℕ → Option ℕ → WindowWords
window_of solve held minimal from to budget at =
    record { from = from; to = to; budget = budget; at = at; held = held; minimal = minimal; solve = solve }

window_one : (names words : List (List ℕ)) (x y : WindowWords) → AsksWindow x names words → AsksWindow y names words → x ≡ y
window_one names words x y p q =
    let same = three_names p.from p.to p.budget q.from q.to q.budget (sym p.are_names ∙ q.are_names) in
    let to_is : IsNumber q.to x.from _ x.to = subst (λ (t : List ℕ). IsNumber t x.from _ x.to) same.1 p.is_to in
    ap (λ solve. window_of solve x.held x.minimal x.from x.to x.budget x.at) (flag_one solve_option words x.solve y.solve p.solve q.solve)
    ∙ (ap (λ held. window_of y.solve held x.minimal x.from x.to x.budget x.at) (held_one words x.held y.held p.held q.held)
    ∙ (ap (λ minimal. window_of y.solve y.held minimal x.from x.to x.budget x.at) (may_have_one _ _ words x.minimal y.minimal p.minimal q.minimal)
    ∙ four_same (window_of y.solve y.held y.minimal) x.from y.from x.to y.to x.budget y.budget x.at y.at
    (number_one q.from _ _ x.from y.from (subst (λ (t : List ℕ). IsNumber t _ _ x.from) same.0 p.is_from) q.is_from)
    (to_is.is ∙ sym q.is_to.is)
    (number_one q.budget _ _ x.budget y.budget (subst (λ (t : List ℕ). IsNumber t _ _ x.budget) same.2 p.is_budget) q.is_budget)
    (may_have_one _ _ words x.at y.at p.at q.at)))

-- no number is spelled by a letter
no_number : (word : List ℕ) (least most n letter : ℕ) (letters : List ℕ) → word ≡ letter ∷ letters → 57 < letter → IsNumber word least most n → ⊥
no_number word least most n letter letters is above number =
    let spelled : IsNumber (letter ∷ letters) least most n = subst (λ (w : List ℕ). IsNumber w least most n) is number in
    let digit : IsAsciiDigit letter = spelled.digits.digits 0 letter (omega arith) in
    omega (arith, digit)

rule_one : (word : List ℕ) (x y : RuleWord) → IsRule word x → IsRule word y → x ≡ y
rule_one word Never Never p q = refl
rule_one word Always Always p q = refl
rule_one word (AtMost k) (AtMost l) p q = ap AtMost (number_one word _ _ k l p q)
rule_one word Never Always p q = absurd (differ (codes "never") (codes "always") word p q refl)
rule_one word Always Never p q = absurd (differ (codes "always") (codes "never") word p q refl)
rule_one word Never (AtMost l) p q = absurd (no_number word _ _ l 110 (codes "ever") p (omega arith) q)
rule_one word (AtMost k) Never p q = absurd (no_number word _ _ k 110 (codes "ever") q (omega arith) p)
rule_one word Always (AtMost l) p q = absurd (no_number word _ _ l 97 (codes "lways") p (omega arith) q)
rule_one word (AtMost k) Always p q = absurd (no_number word _ _ k 97 (codes "lways") q (omega arith) p)

rules_are : (x y : RulesWords) → x.rule ≡ y.rule → x.budget ≡ y.budget → x.workers ≡ y.workers → x.solve ≡ y.solve → x ≡ y
rules_are x y rule budget workers solve =
    ap (λ v. record x { rule = v }) rule
    ∙ (ap (λ v. record x { rule = y.rule; budget = v }) budget
    ∙ (ap (λ v. record y { solve = x.solve; workers = v }) workers ∙ ap (λ v. record y { solve = v }) solve))

rules_one : (names words : List (List ℕ)) (x y : RulesWords) → AsksRules x names words → AsksRules y names words → x ≡ y
rules_one names words x y p q =
    let same = sym p.are_names ∙ q.are_names in
    let rule = first_name p.rule q.rule (p.budget ∷ []) (q.budget ∷ []) same in
    let budget = second_name p.rule p.budget q.rule q.budget same in
    rules_are x y (rule_one q.rule x.rule y.rule (subst (λ (t : List ℕ). IsRule t x.rule) rule p.is_rule) q.is_rule)
    (number_one q.budget _ _ x.budget y.budget (subst (λ (t : List ℕ). IsNumber t _ _ x.budget) budget p.is_budget) q.is_budget)
    (option_one _ _ _ _ words x.workers y.workers p.workers q.workers)
    (flag_one solve_option words x.solve y.solve p.solve q.solve)

-- each kind of question is asked in one way
own_one : (names words : List (List ℕ)) (x y : Query) → kind_of x ≡ kind_of y → AsksOwn x names words → AsksOwn y names words → x ≡ y
own_one names words Follow Follow same p q = refl
own_one names words (Rules x) (Rules y) same p q = ap Rules (rules_one names words x y p q)
own_one names words (Journey x) (Journey y) same p q = ap Journey (journey_one names words x y p q)
own_one names words (Window x) (Window y) same p q = ap Window (window_one names words x y p q)
own_one names words Follow (Window y) same p q = absurd cc
own_one names words (Window x) Follow same p q = absurd cc
own_one names words (Window x) (Journey y) same p q = absurd cc
own_one names words (Journey x) (Window y) same p q = absurd cc
own_one names words Follow (Journey y) same p q = absurd cc
own_one names words (Journey x) Follow same p q = absurd cc
own_one names words Follow (Rules y) same p q = absurd cc
own_one names words (Rules x) Follow same p q = absurd cc
own_one names words (Rules x) (Journey y) same p q = absurd cc
own_one names words (Journey x) (Rules y) same p q = absurd cc
own_one names words (Window x) (Rules y) same p q = absurd cc
own_one names words (Rules x) (Window y) same p q = absurd cc

query_is : (x y : QueryAsked) → x.files ≡ y.files → x.text ≡ y.text → x.query ≡ y.query → x ≡ y
query_is x y files text query =
    ap (λ v. record x { files = v }) files
    ∙ (ap (λ v. record x { files = y.files; text = v }) text ∙ ap (λ v. record y { query = v }) query)

query_one : (words : List (List ℕ)) (x y : QueryAsked) → kind_of x.query ≡ kind_of y.query → AsksQuery words x → AsksQuery words y → x ≡ y
query_one words x y kind p q =
    let names = sym p.names ∙ q.names in
    let behind = later_names x.files.folder y.files.folder (x.text ∷ p.own) (y.text ∷ q.own) names in
    let own = later_names x.text y.text p.own q.own behind in
    query_is x y (files_one words x.files y.files (first_name x.files.folder y.files.folder (x.text ∷ p.own) (y.text ∷ q.own) names) p.files q.files)
    (first_name x.text y.text p.own q.own behind)
    (own_one q.own words x.query y.query kind (subst (λ (l : List (List ℕ)). AsksOwn x.query l words) own p.says) q.says)

-- a question is asked by a word of its own
word_one : (x y : QueryKind) → word_of x ≡ word_of y → x ≡ y
word_one kind.Follow kind.Follow is = refl
word_one kind.Journey kind.Journey is = refl
word_one kind.Window kind.Window is = refl
word_one kind.Follow kind.Window is = absurd (differ (codes "follow") (codes "window") (codes "follow") refl is refl)
word_one kind.Window kind.Follow is = absurd (differ (codes "window") (codes "follow") (codes "window") refl is refl)
word_one kind.Window kind.Journey is = absurd (differ (codes "window") (codes "journey") (codes "window") refl is refl)
word_one kind.Journey kind.Window is = absurd (differ (codes "journey") (codes "window") (codes "journey") refl is refl)
word_one kind.Rules kind.Rules is = refl
word_one kind.Follow kind.Rules is = absurd (differ (codes "follow") (codes "rules") (codes "follow") refl is refl)
word_one kind.Rules kind.Follow is = absurd (differ (codes "rules") (codes "follow") (codes "rules") refl is refl)
word_one kind.Rules kind.Journey is = absurd (differ (codes "rules") (codes "journey") (codes "rules") refl is refl)
word_one kind.Journey kind.Rules is = absurd (differ (codes "journey") (codes "rules") (codes "journey") refl is refl)
word_one kind.Window kind.Rules is = absurd (differ (codes "window") (codes "rules") (codes "window") refl is refl)
word_one kind.Rules kind.Window is = absurd (differ (codes "rules") (codes "window") (codes "rules") refl is refl)
word_one kind.Follow kind.Journey is = absurd (differ (codes "follow") (codes "journey") (codes "follow") refl is refl)
word_one kind.Journey kind.Follow is = absurd (differ (codes "journey") (codes "follow") (codes "journey") refl is refl)

pub no_word_run : (k : QueryKind) (word : List ℕ) → word ≡ word_of k → word ≡ codes "run" → ⊥
no_word_run kind.Follow word p q = differ (codes "follow") (codes "run") word p q refl
no_word_run kind.Window word p q = differ (codes "window") (codes "run") word p q refl
no_word_run kind.Rules word p q = differ_later 2 (codes "rules") (codes "run") word p q refl
no_word_run kind.Journey word p q = differ (codes "journey") (codes "run") word p q refl

pub no_word_check : (k : QueryKind) (word : List ℕ) → word ≡ word_of k → word ≡ codes "check" → ⊥
no_word_check kind.Follow word p q = differ (codes "follow") (codes "check") word p q refl
no_word_check kind.Window word p q = differ (codes "window") (codes "check") word p q refl
no_word_check kind.Rules word p q = differ (codes "rules") (codes "check") word p q refl
no_word_check kind.Journey word p q = differ (codes "journey") (codes "check") word p q refl

pub no_word_gen : (k : QueryKind) (word : List ℕ) → word ≡ word_of k → word ≡ codes "gen" → ⊥
no_word_gen kind.Follow word p q = differ (codes "follow") (codes "gen") word p q refl
no_word_gen kind.Window word p q = differ (codes "window") (codes "gen") word p q refl
no_word_gen kind.Rules word p q = differ (codes "rules") (codes "gen") word p q refl
no_word_gen kind.Journey word p q = differ (codes "journey") (codes "gen") word p q refl

pub one_command : (words : List (List ℕ)) (x y : Command) → Asks words x → Asks words y → x ≡ y
one_command [] x y p q = absurd p
one_command (word ∷ words) (RunOf x) (RunOf y) p q = ap RunOf (run_one words x y p.1 q.1)
one_command (word ∷ words) (CheckOf x) (CheckOf y) p q = ap CheckOf (check_one words x y p.1 q.1)
one_command (word ∷ words) (GenOf x) (GenOf y) p q = ap GenOf (gen_one words x y p.1 q.1)
one_command (word ∷ words) (RunOf x) (CheckOf y) p q = absurd (differ (codes "run") (codes "check") word p.0 q.0 refl)
one_command (word ∷ words) (RunOf x) (GenOf y) p q = absurd (differ (codes "run") (codes "gen") word p.0 q.0 refl)
one_command (word ∷ words) (CheckOf x) (RunOf y) p q = absurd (differ (codes "check") (codes "run") word p.0 q.0 refl)
one_command (word ∷ words) (CheckOf x) (GenOf y) p q = absurd (differ (codes "check") (codes "gen") word p.0 q.0 refl)
one_command (word ∷ words) (GenOf x) (RunOf y) p q = absurd (differ (codes "gen") (codes "run") word p.0 q.0 refl)
one_command (word ∷ words) (GenOf x) (CheckOf y) p q = absurd (differ (codes "gen") (codes "check") word p.0 q.0 refl)
one_command (word ∷ words) (QueryOf x) (QueryOf y) p q = ap QueryOf (query_one words x y (word_one (kind_of x.query) (kind_of y.query) (sym p.0 ∙ q.0)) p.1 q.1)
one_command (word ∷ words) (QueryOf x) (RunOf y) p q = absurd (no_word_run (kind_of x.query) word p.0 q.0)
one_command (word ∷ words) (QueryOf x) (CheckOf y) p q = absurd (no_word_check (kind_of x.query) word p.0 q.0)
one_command (word ∷ words) (QueryOf x) (GenOf y) p q = absurd (no_word_gen (kind_of x.query) word p.0 q.0)
one_command (word ∷ words) (RunOf x) (QueryOf y) p q = absurd (no_word_run (kind_of y.query) word q.0 p.0)
one_command (word ∷ words) (CheckOf x) (QueryOf y) p q = absurd (no_word_check (kind_of y.query) word q.0 p.0)
one_command (word ∷ words) (GenOf x) (QueryOf y) p q = absurd (no_word_gen (kind_of y.query) word q.0 p.0)
