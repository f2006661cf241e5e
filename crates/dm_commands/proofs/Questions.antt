-- What a follower tells of the bytes that it has taken, and how the text of a name is asked.
use Rattle.std.proofs.Common.{◌≡◌, ℕ, ◌<◌, inl, inr, Bool, List, [], ◌∷◌, length, Option, refl, ap, subst, ◌∙◌, Some, ◌≤◌}
use Rattle.std.specs.Prelude.{IfSome}
use Rattle.std.proofs.lemmas.List.Elements.{All-nil, All-cons, All-weaker}
use Rattle.dm_base.specs.declared.limits.TheConstants.{TEXT}
use Rattle.dm_graph.specs.Arcs.{Chain}
use Rattle.dm_network.specs.Net.{Net}
use Rattle.dm_network.specs.Held.{arcs_of}
use Rattle.dm_rows.specs.Cost.{cost_of}
use Rattle.dm_rows.specs.Rows.{RowsValue}
use Rattle.dm_rows.specs.Timetable.{IsLeast}
use Rattle.dm_base.specs.declared.ids.StopId.{StopId}
use Rattle.dm_check.specs.declared.verdicts.BadKind.TheVariants as bad
use Rattle.dm_check.specs.declared.verdicts.Verdict.TheVariants.{Bad as BadVerdict}
use Rattle.dm_table.specs.Value.{TableValue, IsTable}
use Rattle.dm_follow.specs.declared.faults.Tail.{Tail}
use Rattle.dm_follow.specs.Journals.{HasNoFrontFault}
use Rattle.dm_follow.specs.Followed.{IsWhole}
use Rattle.dm_follow.specs.Follower.{FollowerValue, tail_of}
use Rattle.dm_journal.specs.Journals.{IsFollowerOf, IsTornAt}
use Rattle.dm_journey.specs.declared.arriving.Journey.{Journey as AJourney}
use Rattle.dm_journey.specs.Journeys.{AreJourneys, IsJourney}
use Rattle.dm_input.specs.Input.{Told, IsHeld}
use Rattle.dm_input.specs.Stops.{IsKept, IsLong}
use Rattle.dm_words.specs.Words.{QueryAsked}
use Rattle.dm_words.specs.declared.queries.Query.{Query}
use Rattle.dm_words.specs.declared.queries.Query.TheVariants.{Follow, Window, Rules, Journey}
use Rattle.dm_words.specs.declared.queries.JourneyWords.{JourneyWords}
use Rattle.dm_commands.specs.Searching.{search_for}
use Rattle.dm_stretch.specs.declared.windows.Window.{Window as AWindow}
use Rattle.dm_stretch.specs.Held.{IsFirstWithout}
use Rattle.dm_words.specs.declared.queries.WindowWords.{WindowWords}
use Rattle.dm_outlook.specs.Outlooks.{IsOutlook}
use Rattle.dm_outlook.specs.declared.outlook.Outlook.{Outlook}
use Rattle.dm_words.specs.declared.queries.RulesWords.{RulesWords}
use Rattle.dm_waitrule.specs.declared.comparing.Comparison.{Comparison}
use Rattle.dm_commands.specs.declared.status.Status.{Status}
use Rattle.dm_commands.specs.declared.status.Status.TheVariants.{Ok as Well, Bad, Refused}
use Rattle.dm_commands.specs.Answers.{WantsAll}
use Rattle.dm_commands.specs.Ends.{EndsAs}
use Rattle.dm_commands.specs.Followed.{IsStateOf, state_text}
use Rattle.dm_ruling.specs.Texts.{comparison_text}
use Rattle.dm_commands.specs.Ruled.{IsComparisonOf, rule_named, ComparesFor}
use Rattle.dm_commands.specs.Travelled.{AreJourneysOf, journeys_text, stop_numbered}
use Rattle.dm_commands.specs.Verdicts.{verdict_line}
use Rattle.dm_commands.specs.Windowed.{HoldsNoChoice, IsUnknownEntry, IsWindowAsked, IsWindowOf, no_choice_line, unknown_entry_line}
use Rattle.dm_outlook.specs.Texts.{outlook_text}
use Rattle.dm_commands.specs.Inside.Asking.{AreWalksIn, EndsAsked, EndsOnJournal, EndsOutlook, EndsTravelled, IsWalkIn, state_of, EndsCompared}

-- ---- followers

module _ (net : Net) (rows : RowsValue) (penalty : ℕ) (bytes : List ℕ) (f : FollowerValue) (is : IsFollowerOf net rows penalty bytes f) where
  -- what holds on the follower's own day holds on this one
  on_day : (P : Net → RowsValue → ℕ → Type 0) → P f.table.network f.table.start f.table.penalty → P net rows penalty
  on_day P holds =
      subst (λ (n : Net). P n rows penalty) is.network
      (subst (λ (r : RowsValue). P f.table.network r penalty) is.start
      (subst (λ (p : ℕ). P f.table.network f.table.start p) is.penalty_is holds))

  -- it has come to the state of the bytes
  pub state_told : IsStateOf net rows penalty bytes (state_of f)
  state_told =
      let table : IsTable f.table = is.follows.table in
      on_day (λ n r p. HasNoFrontFault n r p bytes → IsStateOf n r p bytes (state_of f))
      (λ no_fault. record {
        no_fault = no_fault;
        history = f.table.history;
        followed = is.follows.history;
        tail = tail_of f;
        is_tail = is.follows.tail_is;
        times = f.table.times;
        least = subst (λ (x : RowsValue). IsLeast f.table.network x f.table.times) table.replayed table.least;
        is_text = ap (λ (x : RowsValue). state_text f.table.network x (length f.table.history) (tail_of f) f.table.times (cost_of f.table.network x f.table.times f.table.penalty)) table.replayed;
      }) is.no_fault

  -- journeys in its times are those of the bytes
  pub journeys_told : (asked : JourneyWords) (journeys : List AJourney) → IsWhole net rows penalty bytes → AreJourneys f.table.network f.table.rows f.table.times (stop_numbered asked.from) (stop_numbered asked.to) asked.after asked.changes journeys →
      AreJourneysOf asked net rows penalty bytes (journeys_text f.table.network journeys)
  journeys_told asked journeys whole answer =
      let table : IsTable f.table = is.follows.table in
      on_day (λ n r p. IsWhole n r p bytes → AreJourneysOf asked n r p bytes (journeys_text f.table.network journeys))
      (λ all. record {
        whole = all;
        history = f.table.history;
        followed = is.follows.history;
        times = f.table.times;
        least = subst (λ (x : RowsValue). IsLeast f.table.network x f.table.times) table.replayed table.least;
        journeys = journeys;
        answer = subst (λ (x : RowsValue). AreJourneys f.table.network x f.table.times (stop_numbered asked.from) (stop_numbered asked.to) asked.after asked.changes journeys) table.replayed answer;
        is_text = refl;
      }) whole

  -- a plan of a window at one of its entries is one at an entry of the bytes, and so is a number that is above them
  pub window_told : (asked : WindowWords) (window : AWindow) (outlook : Outlook) → IsWhole net rows penalty bytes → IfSome asked.at (λ n. n ≤ length f.table.history) →
      IsWindowAsked f.table.network asked window → IsOutlook f.table.network f.table.start f.table.penalty f.table.history window (search_for asked.solve asked.budget) asked.at asked.minimal outlook →
      IsWindowOf asked net rows penalty bytes (outlook_text window (length f.table.history) outlook)
  window_told asked window outlook whole among is_asked answer =
      on_day (λ n r p. IsWhole n r p bytes → IsWindowOf asked n r p bytes (outlook_text window (length f.table.history) outlook))
      (λ all. record {
        whole = all;
        history = f.table.history;
        followed = is.follows.history;
        among = among;
        window = window;
        is_asked = is_asked;
        outlook = outlook;
        answer = answer;
        is_text = refl;
      }) whole

  pub unknown_told : (asked : WindowWords) (n : ℕ) → IsWhole net rows penalty bytes → asked.at ≡ Some n → length f.table.history < n →
      IsUnknownEntry asked net rows penalty bytes (unknown_entry_line n)
  unknown_told asked n whole named above =
      on_day (λ net r p. IsWhole net r p bytes → IsUnknownEntry asked net r p bytes (unknown_entry_line n))
      (λ all. record { whole = all; history = f.table.history; followed = is.follows.history; n = n; named = named; above = above; is_text = refl }) whole

  pub no_choice_told : (asked : WindowWords) (id : ℕ) → IsWhole net rows penalty bytes → IfSome asked.at (λ n. n ≤ length f.table.history) →
      IsFirstWithout f.table.network asked.held id → HoldsNoChoice asked net rows penalty bytes (no_choice_line id)
  no_choice_told asked id whole among first =
      on_day (λ net r p. IsWhole net r p bytes → HoldsNoChoice asked net r p bytes (no_choice_line id))
      (λ all. record { whole = all; history = f.table.history; followed = is.follows.history; among = among; id = id; first = first; is_text = refl }) whole

  -- a comparison over its rows is one over those of the bytes
  pub comparison_told : (asked : RulesWords) (compared : Comparison) → IsWhole net rows penalty bytes →
      ComparesFor asked f.table.network f.table.rows f.table.penalty compared →
      IsComparisonOf asked net rows penalty bytes (comparison_text (rule_named asked.rule) compared)
  comparison_told asked compared whole answer =
      let table : IsTable f.table = is.follows.table in
      on_day (λ n r p. IsWhole n r p bytes → IsComparisonOf asked n r p bytes (comparison_text (rule_named asked.rule) compared))
      (λ all. record {
        whole = all;
        history = f.table.history;
        followed = is.follows.history;
        compared = compared;
        answer = subst (λ (x : RowsValue). ComparesFor asked f.table.network x f.table.penalty compared) table.replayed answer;
        is_text = refl;
      }) whole

-- the state that a follower has come to, of the parts that are told of it
pub state_same : (f : FollowerValue) (table : TableValue) (net : Net) (rows : RowsValue) (entries : ℕ) (t : Tail) (times : List ℕ) (cost : ℕ) → table ≡ f.table → net ≡ table.network → rows ≡ table.rows → entries ≡ length table.history → t ≡ tail_of f → times ≡ table.times →
    cost ≡ cost_of table.network table.rows table.times table.penalty → state_text net rows entries t times cost ≡ state_of f
state_same f table net rows entries t times cost table_is net_is rows_are entries_are tail_is times_are cost_is =
    ap (λ (x : Net). state_text x rows entries t times cost) net_is
    ∙ (ap (λ (x : RowsValue). state_text table.network x entries t times cost) rows_are
    ∙ (ap (λ (x : ℕ). state_text table.network table.rows x t times cost) entries_are
    ∙ (ap (λ (x : Tail). state_text table.network table.rows (length table.history) x times cost) tail_is
    ∙ (ap (λ (x : List ℕ). state_text table.network table.rows (length table.history) (tail_of f) x cost) times_are
    ∙ (ap (λ (x : ℕ). state_text table.network table.rows (length table.history) (tail_of f) table.times x) cost_is
    ∙ ap (λ (x : TableValue). state_text x.network x.rows (length x.history) (tail_of f) x.times (cost_of x.network x.rows x.times x.penalty)) table_is)))))

-- ---- walks

chain_in : (net : Net) (held : ℕ → Bool) (i : ℕ) (walk : List ℕ) (j : ℕ) → Chain (arcs_of net held) i walk j → IsWalkIn net walk
chain_in net held i [] j leads = All-nil (λ a. a < length net.activities)
chain_in net held i (a ∷ walk) j leads = All-cons (λ a. a < length net.activities) a walk leads.0.is_arc (chain_in net held _ walk j leads.2)

pub walks_in : (net : Net) (rows : RowsValue) (x : List ℕ) (from to : StopId) (after most : ℕ) (journeys : List AJourney) → AreJourneys net rows x from to after most journeys → AreWalksIn net journeys
walks_in net rows x from to after most journeys are =
    All-weaker (IsJourney net rows x from to after most) (λ journey. IsWalkIn net journey.walk) (λ journey is. chain_in net _ is.is_walk.first journey.walk is.is_walk.last is.is_walk.leads) journeys are.walks

-- ---- answers to a journal

-- every question but that for the state wants all lines
wants_all : (query : Query) → (query ≡ Follow → ⊥) → WantsAll query
wants_all Follow other = other refl
wants_all (Window asked) other = tt
wants_all (Rules asked) other = tt
wants_all (Journey asked) other = tt

module _ {K : Type 0} (taken : K → Option (List ℕ)) (faults : K → ℕ) (net : Net) (rows : RowsValue) (penalty : ℕ) (bytes : List ℕ) (before now : K) (result : Status) where
  pub answers_torn : (query : Query) (line : ℕ) → (query ≡ Follow → ⊥) → IsTornAt net rows penalty bytes line → EndsAs taken faults before now (verdict_line (BadVerdict line bad.Truncated)) Bad result → EndsOnJournal taken faults query net rows penalty bytes before now result
  answers_torn query line other is ends =
      inl (record {
        status = Bad;
        text = verdict_line (BadVerdict line bad.Truncated);
        answers = record { line = line; kind = bad.Truncated; is_bad = (wants_all query other, is); is_text = refl };
        ends = ends;
      })

  pub answers_state : (f : FollowerValue) → IsFollowerOf net rows penalty bytes f → EndsAs taken faults before now (state_of f) Well result → EndsOnJournal taken faults Follow net rows penalty bytes before now result
  answers_state f is ends = inl (record { status = Well; text = state_of f; answers = state_told net rows penalty bytes f is; ends = ends })

  pub answers_journeys : (f : FollowerValue) (asked : JourneyWords) → IsFollowerOf net rows penalty bytes f → IsWhole net rows penalty bytes → EndsTravelled taken faults asked f.table before now result →
      EndsOnJournal taken faults (Journey asked) net rows penalty bytes before now result
  answers_journeys f asked is whole (inl p) =
      inl (record { status = Well; text = journeys_text f.table.network p.journeys; answers = journeys_told net rows penalty bytes f is asked p.journeys whole p.answer; ends = p.ends })
  answers_journeys f asked is whole (inr short) = inr short

  pub answers_window : (f : FollowerValue) (asked : WindowWords) → IsFollowerOf net rows penalty bytes f → IsWhole net rows penalty bytes → EndsOutlook taken faults asked f.table before now result →
      EndsOnJournal taken faults (Window asked) net rows penalty bytes before now result
  answers_window f asked is whole (inl p) =
      inl (record { status = Well; text = outlook_text p.window (length f.table.history) p.outlook; answers = window_told net rows penalty bytes f is asked p.window p.outlook whole p.among p.is_asked p.answer; ends = p.ends })
  answers_window f asked is whole (inr (inl u)) =
      inl (record { status = Refused; text = unknown_entry_line u.n; answers = inl (unknown_told net rows penalty bytes f is asked u.n whole u.named u.above); ends = u.ends })
  answers_window f asked is whole (inr (inr (inl n))) =
      inl (record { status = Refused; text = no_choice_line n.id; answers = inr (no_choice_told net rows penalty bytes f is asked n.id whole n.among n.first); ends = n.ends })
  answers_window f asked is whole (inr (inr (inr short))) = inr short

  pub answers_rules : (f : FollowerValue) (asked : RulesWords) → IsFollowerOf net rows penalty bytes f → IsWhole net rows penalty bytes → EndsCompared taken faults asked f.table before now result →
      EndsOnJournal taken faults (Rules asked) net rows penalty bytes before now result
  answers_rules f asked is whole (inl p) =
      inl (record { status = Well; text = comparison_text (rule_named asked.rule) p.compared; answers = comparison_told net rows penalty bytes f is asked p.compared whole p.answer; ends = p.ends })
  answers_rules f asked is whole (inr short) = inr short

-- ---- texts

-- what was asked over a shelf that tells what it told before
pub asked_before : {H K : Type 0} (files : H → Told) (is_sound : H → List ℕ → Type 0) (taken : K → Option (List ℕ)) (faults : K → ℕ) (one two : H) (asked : QueryAsked) (net : Net) (rows : RowsValue) (before now : K) (result : Status) → IsKept files is_sound one two
    → EndsAsked taken faults (files two) (is_sound two) asked net rows before now result → EndsAsked taken faults (files one) (is_sound one) asked net rows before now result
asked_before files is_sound taken faults one two asked net rows before now result kept (inl t) =
    inl (record { bytes = t.bytes; held = subst (λ (s : Told). IsHeld s asked.text t.bytes) kept.same t.held; short = t.short; ends = t.ends })
asked_before files is_sound taken faults one two asked net rows before now result kept (inr (inl h)) = inr (inl ((λ sound. h.0 (kept.sound asked.text sound)), h.1))
asked_before files is_sound taken faults one two asked net rows before now result kept (inr (inr (inl h))) = inr (inr (inl (subst (λ (s : Told). IsLong s asked.text TEXT) kept.same h.0, h.1)))
asked_before files is_sound taken faults one two asked net rows before now result kept (inr (inr (inr h))) = inr (inr (inr h))
