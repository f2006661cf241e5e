-- An item that is told is true, and stands in print.
use Rattle.std.proofs.Common.{◌≡◌, ℕ, ◌+◌, ◌≤◌, Bool, true, false, eqb, List, [], ◌∷◌, ◌++◌, Ok, refl, sym, subst}
use Rattle.std.specs.Prelude.{MatchBool}
use Rattle.dm_text.specs.Places.{Place}
use Rattle.dm_text.specs.Judging.{Line as JudgesLine, Then, Times, Finds, SpellsValue}
use Rattle.dm_rows.specs.declared.messages.Decision.{Decision}
use Rattle.dm_rows.specs.declared.messages.Entry.{Entry}
use Rattle.dm_tree.specs.declared.forms.Node.{Node}
use Rattle.dm_tree.specs.declared.plans.Plan.{Plan}
use Rattle.dm_parts.specs.declared.parts.PlanByParts.{PlanByParts}
use Rattle.dm_feed.specs.Parts.{largest_id}
use Rattle.dm_cert.specs.declared.faults.CertFault.{CertFault}
use Rattle.dm_cert.specs.declared.plan_lines.Heading.{Heading}
use Rattle.dm_cert.specs.declared.replies.LogItem.{LogItem}
use Rattle.dm_cert.specs.declared.replies.LogItem.TheVariants.{Malformed, Answered}
use Rattle.dm_cert.specs.declared.replies.Reply.TheVariants.{Planned}
use Rattle.dm_cert.specs.Answers.{Setting}
use Rattle.dm_cert.specs.PlanTexts.{FitsPlan}
use Rattle.dm_cert.specs.PlansRead.{IsHeadingLine, IsChoiceLine, IsLeafLine, IsNodeLine, ShowsLeaves, ShowsNodes, TellsPlan, TellsLeaves, TellsNodes, cut_line, misshapen_line, no_tree, plan_of}
use Rattle.dm_cert.specs.RunTexts.{FitsItem, IsSpelledItem, KnowsLine, KnowsItem}
use Rattle.dm_cert.proofs.HeadingsRead.{front_text, heading_spelled}
use Rattle.dm_cert.proofs.LineFeeds.{has_no_feed, heading_no_feed}
use Rattle.dm_cert.proofs.SolvedTold.{solved_behind_told}
use Rattle.dm_cert.proofs.ToldTexts.{plan_told}
use Rattle.dm_records.specs.RunLines.{PlanOpening, SolvedOpening, ItemLine, lone, planned, solved, IsFormedItem, IsFormedOpening, IsFormedSolvedOpening, IsItemLine, heading_of, solved_item}
use Rattle.dm_records.proofs.ItemsRead.{known_in_second}
use Rattle.dm_check.specs.declared.faults.Fault.{Fault}
use Rattle.dm_check.specs.declared.verdicts.BadKind.TheVariants as kind
use Rattle.dm_check.specs.FalseRecords.{bad, Reads, TellsItem, TellsBehind, TellsPlanBehind, TellsSolvedPlan, IsNextItem, IsNextPlan, plan_opened}
use Rattle.dm_check.specs.Inside.Sound.{IsSound}
use Rattle.dm_check.proofs.Truth.Numbers.{reply_fits, reply_spelled}
use Rattle.dm_check.proofs.Truth.PlanItems.{lines_again}

-- the next item, whose numbers are ones that types hold, and which has a spelling in words that the version has
pub record IsSoundItem (s : Setting) (history : List Entry) (feed : ℕ) (before : List LogItem) (answered : LogItem) : Type 0 where
  pub next : IsNextItem s history feed before answered
  pub fits : FitsItem answered
  pub spelled : IsSpelledItem answered
  pub known : KnowsItem s.version answered

lines_told : {V : Type 0} (spells : V → List ℕ → Type 0) (n : ℕ) (all : List V) (place next : Place) →
    Times {F = Fault} n (λ read. Reads spells) [] place (Ok (all, next)) → Times {F = CertFault} n (λ read. JudgesLine cut_line misshapen_line spells) [] place (Ok (all, next))
lines_told spells n all place next told = lines_again (bad kind.Truncated) (bad kind.Form) cut_line misshapen_line spells n [] all place next told

-- the tree that is shown behind the choices
record TreeShown (b : Bool) (s : Setting) (history : List Entry) (feed : ℕ) (before : List LogItem) (o : PlanOpening) (choices : List Decision) (answered : LogItem) (place next : Place) : Type 0 where
  nodes : List Node
  told : MatchBool b
      (Then {W = List Node} (TellsLeaves o.size) (λ leaves. Finds (ShowsLeaves leaves) no_tree) place (Ok (nodes, next)))
      (Then {W = List Node} (TellsNodes o.size) (λ read. Finds (ShowsNodes read) no_tree) place (Ok (nodes, next)))
  is : answered ≡ Answered o.line o.said (Planned (plan_opened o choices nodes))
  item : IsNextItem s history feed before answered

module _ (s : Setting) (history : List Entry) (feed : ℕ) (before : List LogItem) where
  tree_shown : (b : Bool) (o : PlanOpening) (choices : List Decision) (fault : Fault) (answered : LogItem) (place next : Place) →
      MatchBool b
      (Then {W = LogItem} (Times o.size (λ read. Reads IsLeafLine) []) (λ leaves. Finds (IsNextPlan s history feed before o choices (ShowsLeaves leaves)) fault) place (Ok (answered, next)))
      (Then {W = LogItem} (Times o.size (λ read. Reads IsNodeLine) []) (λ read. Finds (IsNextPlan s history feed before o choices (ShowsNodes read)) fault) place (Ok (answered, next))) →
      TreeShown b s history feed before o choices answered place next
  tree_shown true o choices fault answered place next told = record {
    nodes = told.then.0.nodes;
    told = record { value = told.value; behind = told.behind; told = lines_told IsLeafLine o.size told.value place told.behind told.told; then = (told.then.0.shown, told.then.1) };
    is = told.then.0.is;
    item = told.then.0.next;
  }
  tree_shown false o choices fault answered place next told = record {
    nodes = told.then.0.nodes;
    told = record { value = told.value; behind = told.behind; told = lines_told IsNodeLine o.size told.value place told.behind told.told; then = (told.then.0.shown, told.then.1) };
    is = told.then.0.is;
    item = told.then.0.next;
  }

  plan_sound : (o : PlanOpening) (place behind : Place) (answered : LogItem) (next : Place) → IsFormedOpening o → KnowsLine s.version o.said → behind.line ≡ place.line + 1 →
      TellsPlanBehind s history feed before o place.line behind (Ok (answered, next)) → IsSoundItem s history feed before answered
  plan_sound o place behind answered next formed knows counted told =
      let tree = tree_shown (eqb s.version 1) o told.value (bad kind.Plan place.line) answered told.behind next told.then in
      let h : Heading = record { mark = o.mark; cost = o.cost; bound = o.bound; choices = o.choices; size = o.size } in
      let plan : Plan = plan_of o.entry h told.value tree.nodes in
      let front : List ℕ = front_text s.version h in
      let start : Place = record { left = front ++ 10 ∷ behind.left; line = place.line } in
      let heading : SpellsValue (IsHeadingLine s.version) start h behind = record {
        bytes = front;
        stands = record {
          whole = refl;
          one_line = has_no_feed front (heading_no_feed s.version h formed.cost formed.bound formed.choices formed.size);
          counted = counted;
        };
        spelled = record {
          spelled = heading_spelled s.version h;
          cost = formed.cost;
          bound = formed.bound;
          choices = formed.choices;
          size = formed.size;
        };
      } in
      let whole : TellsPlan s.version o.entry start (Ok (plan, next)) = record {
        value = h;
        behind = behind;
        told = heading;
        then = record {
          value = told.value;
          behind = told.behind;
          told = lines_told IsChoiceLine o.choices told.value behind told.behind told.told;
          then = record { value = tree.nodes; behind = next; told = tree.told; then = (refl, refl) };
        };
      } in
      let fits : FitsPlan plan = (plan_told s.version o.entry plan start next formed.entry whole).fits in
      record {
        next = tree.item;
        fits = subst FitsItem (sym tree.is) (formed.line, formed.said.fits, (formed.entry, fits));
        spelled = subst IsSpelledItem (sym tree.is) (formed.said.spelled, tt);
        known = subst (KnowsItem s.version) (sym tree.is) (knows, tt);
      }

  -- a plan by parts
  solution_sound : (o : SolvedOpening) (place behind : Place) (answered : LogItem) (next : Place) → IsFormedSolvedOpening o → s.version ≡ 2 →
      TellsSolvedPlan s history feed before o place.line behind (Ok (answered, next)) → IsSoundItem s history feed before answered
  solution_sound o place behind answered next formed two told =
      let plan : PlanByParts = told.value in
      let is : answered ≡ solved_item o plan = told.then.1 in
      let behind_first = solved_behind_told o.entry (heading_of o) plan behind told.behind formed.cost formed.bound formed.of_parts told.told in
      let entry : plan.entry ≤ largest_id = subst (λ n. n ≤ largest_id) (sym behind_first.entry_is) formed.entry in
      subst (IsSoundItem s history feed before) (sym is)
      (record {
        next = told.then.0;
        fits = (formed.line, formed.said.fits, (entry, behind_first.fits));
        spelled = (formed.said.spelled, behind_first.spelled);
        known = (known_in_second s.version o.said two, two);
      })

module _ (s : Setting) (history : List Entry) (sound : IsSound s history) (feed : ℕ) (before : List LogItem) where
  lone_sound : (answered : LogItem) → IsFormedItem answered → KnowsItem s.version answered → IsNextItem s history feed before answered → IsSoundItem s history feed before answered
  lone_sound (Malformed line) formed knows next = record { next = next; fits = formed; spelled = tt; known = tt }
  lone_sound (Answered line said r) formed knows next = record {
    next = next;
    fits = (formed.0, formed.1.fits, reply_fits s history sound feed before line said r formed.1 next.is_true formed.2);
    spelled = (formed.1.spelled, reply_spelled r formed.2);
    known = knows;
  }

  by_line : (place behind : Place) (said : ItemLine) (bytes : List ℕ) (answered : LogItem) (next : Place) → behind.line ≡ place.line + 1 → IsItemLine s.version said bytes →
      TellsBehind s history feed before place.line said behind (Ok (answered, next)) → IsSoundItem s history feed before answered
  by_line place behind (lone x) bytes answered next counted spelled told =
      subst (λ (a : LogItem). IsSoundItem s history feed before a) (sym told.1) (lone_sound x spelled.1 spelled.2 told.0)
  by_line place behind (planned o) bytes answered next counted spelled told = plan_sound s history feed before o place behind answered next spelled.1 spelled.2 counted told
  by_line place behind (solved o) bytes answered next counted spelled told = solution_sound s history feed before o place behind answered next spelled.1 spelled.2 told

  pub item_sound : (place : Place) (answered : LogItem) (next : Place) → TellsItem s history feed before place (Ok (answered, next)) → IsSoundItem s history feed before answered
  item_sound place answered next told = by_line place told.behind told.value told.told.bytes answered next told.told.stands.counted told.told.spelled told.then
