-- Where the text of an item with a plan stands, the item is told.
use Rattle.std.proofs.Common.{◌≡◌, ◌≢◌, ℕ, zero, suc, ◌≤◌, Bool, true, false, eqb, List, [], ◌∷◌, ◌++◌, Ok, refl, sym, ap, ◌∙◌, append_assoc}
use Rattle.std.specs.Prelude.{MatchBool}
use Rattle.std.proofs.lemmas.List.{append_cancel_right}
use Rattle.std.proofs.lemmas.List.Elements.{All-append}
use Rattle.dm_text.specs.Places.{Place}
use Rattle.dm_text.specs.Judging.{Line as JudgesLine, Then, Times, Finds}
use Rattle.dm_rows.specs.declared.messages.Decision.{Decision}
use Rattle.dm_rows.specs.declared.messages.Entry.{Entry}
use Rattle.dm_feed.specs.declared.grammar.Line.{Line}
use Rattle.dm_feed.specs.Parts.{largest_id}
use Rattle.dm_tree.specs.declared.forms.Node.{Node}
use Rattle.dm_tree.specs.declared.plans.Plan.{Plan}
use Rattle.dm_cert.specs.declared.faults.CertFault.{CertFault}
use Rattle.dm_cert.specs.declared.plan_lines.Heading.{Heading}
use Rattle.dm_cert.specs.declared.replies.LogItem.{LogItem}
use Rattle.dm_cert.specs.declared.replies.LogItem.TheVariants.{Answered}
use Rattle.dm_cert.specs.declared.replies.Reply.TheVariants.{Planned}
use Rattle.dm_cert.specs.Answers.{Setting}
use Rattle.dm_cert.specs.PlanLaws.{IsHeld}
use Rattle.dm_cert.specs.PlanTexts.{line_end, spelling_of_plan, FitsPlan}
use Rattle.dm_cert.specs.PlansRead.{IsChoiceLine, IsLeafLine, IsNodeLine, ShowsLeaves, ShowsNodes, TellsLeaves, TellsNodes, cut_line, misshapen_line, no_tree}
use Rattle.dm_cert.specs.RunTexts.{item_text, KnowsLine}
use Rattle.dm_cert.proofs.HeadingsRead.{front_text, heading_spelled}
use Rattle.dm_cert.proofs.LineFeeds.{has_no_feed}
use Rattle.dm_cert.proofs.SpelledPlans.{plan_stands}
use Rattle.dm_cert.proofs.SpelledPlans.{counted_in}
use Rattle.dm_records.specs.RunLines.{PlanOpening, planned, IsFormedSaid}
use Rattle.dm_check.specs.declared.faults.Fault.{Fault}
use Rattle.dm_check.specs.declared.verdicts.BadKind.TheVariants as kind
use Rattle.dm_check.specs.FalseRecords.{bad, Reads, TellsItem, IsNextItem, IsNextPlan, plan_opened}
use Rattle.dm_check.proofs.Truth.Standing.{IsTold}
use Rattle.dm_records.proofs.ItemLines.{front_of, item_is, opening_at, opening_is, front_no_feed}

-- ---- lines that are told are told whatever the faults of others are

pub lines_again : {V F G : Type 0} (cut misshapen : ℕ → F) (other_cut other_misshapen : ℕ → G) (spells : V → List ℕ → Type 0) (n : ℕ) (held all : List V) (place next : Place) →
    Times {F = F} n (λ read. JudgesLine cut misshapen spells) held place (Ok (all, next)) → Times {F = G} n (λ read. JudgesLine other_cut other_misshapen spells) held place (Ok (all, next))
lines_again cut misshapen other_cut other_misshapen spells zero held all place next told = told
lines_again cut misshapen other_cut other_misshapen spells (suc n) held all place next told = record {
  value = told.value;
  behind = told.behind;
  told = told.told;
  then = lines_again cut misshapen other_cut other_misshapen spells n (held ++ told.value ∷ []) all told.behind next told.then;
}

lines_read : {V : Type 0} (spells : V → List ℕ → Type 0) (n : ℕ) (all : List V) (place next : Place) →
    Times {F = CertFault} n (λ read. JudgesLine cut_line misshapen_line spells) [] place (Ok (all, next)) → Times {F = Fault} n (λ read. Reads spells) [] place (Ok (all, next))
lines_read spells n all place next told = lines_again cut_line misshapen_line (bad kind.Truncated) (bad kind.Form) spells n [] all place next told

module _ (s : Setting) (history : List Entry) (feed : ℕ) (before : List LogItem) where
  -- the plan that is shown is the next item's
  next_plan : (o : PlanOpening) (choices : List Decision) (nodes : List Node) (Shows : List Node → Type 0) (answered : LogItem) → Shows nodes →
      answered ≡ Answered o.line o.said (Planned (plan_opened o choices nodes)) → IsNextItem s history feed before answered → IsNextPlan s history feed before o choices Shows answered
  next_plan o choices nodes Shows answered shows is next = record { nodes = nodes; shown = shows; is = is; next = next }

  tree_again : (b : Bool) (o : PlanOpening) (choices : List Decision) (nodes : List Node) (fault : Fault) (answered : LogItem) (place next : Place) →
      answered ≡ Answered o.line o.said (Planned (plan_opened o choices nodes)) → IsNextItem s history feed before answered →
      MatchBool b
      (Then {W = List Node} (TellsLeaves o.size) (λ leaves. Finds (ShowsLeaves leaves) no_tree) place (Ok (nodes, next)))
      (Then {W = List Node} (TellsNodes o.size) (λ read. Finds (ShowsNodes read) no_tree) place (Ok (nodes, next))) →
      MatchBool b
      (Then {W = LogItem} (Times o.size (λ read. Reads IsLeafLine) []) (λ leaves. Finds (IsNextPlan s history feed before o choices (ShowsLeaves leaves)) fault) place (Ok (answered, next)))
      (Then {W = LogItem} (Times o.size (λ read. Reads IsNodeLine) []) (λ read. Finds (IsNextPlan s history feed before o choices (ShowsNodes read)) fault) place (Ok (answered, next)))
  tree_again true o choices nodes fault answered place next is item told = record {
    value = told.value;
    behind = told.behind;
    told = lines_read IsLeafLine o.size told.value place told.behind told.told;
    then = (next_plan o choices nodes (ShowsLeaves told.value) answered told.then.0 is item, told.then.1);
  }
  tree_again false o choices nodes fault answered place next is item told = record {
    value = told.value;
    behind = told.behind;
    told = lines_read IsNodeLine o.size told.value place told.behind told.told;
    then = (next_plan o choices nodes (ShowsNodes told.value) answered told.then.0 is item, told.then.1);
  }

-- ---- the item

module _ (s : Setting) (history : List Entry) (feed : ℕ) (before : List LogItem) where
  pub plan_told : (line : ℕ) (said : Line) (plan : Plan) → IsNextItem s history feed before (Answered line said (Planned plan)) → line ≤ largest_id → IsFormedSaid said → plan.entry ≤ largest_id →
      FitsPlan plan → IsHeld plan → KnowsLine s.version said → IsTold (TellsItem s history feed) (λ k. item_text s.version) before (Answered line said (Planned plan))
  plan_told line said plan next low formed at fits held knows place rest left =
      let x : LogItem = Answered line said (Planned plan) in
      let text : List ℕ = spelling_of_plan s.version plan in
      let stands = plan_stands s.version plan (record { left = text ++ rest; line = place.line }) rest fits (counted_in s.version plan held) refl in
      let told = stands.told in
      let h : Heading = told.value in
      let choices : List Decision = told.then.value in
      let nodes : List Node = told.then.then.value in
      let o : PlanOpening = opening_at line said plan.entry h in
      let front : List ℕ = front_of line said plan.entry in
      let bytes : List ℕ = told.told.bytes in
      let same : front_text s.version h ≡ bytes = append_cancel_right (front_text s.version h) bytes line_end (sym (heading_spelled s.version h) ∙ told.told.spelled.spelled) in
      let plan_is : x ≡ Answered o.line o.said (Planned (plan_opened o choices nodes)) = ap (λ (p : Plan). Answered line said (Planned p)) told.then.then.then.0 in
      let behind : told.then.then.behind ≡ stands.next = sym told.then.then.then.1 in
      record {
        next = told.then.then.behind;
        left = ap (λ (p : Place). p.left) behind ∙ stands.left;
        told = record {
          value = planned o;
          behind = told.behind;
          told = record {
            bytes = front ++ bytes;
            stands = record {
              whole = left ∙ (item_is s.version line said plan rest ∙ (ap (λ xs. front ++ xs) told.told.stands.whole ∙ sym (append_assoc front bytes (10 ∷ told.behind.left))));
              one_line = All-append (λ b. b ≢ 10) front bytes (has_no_feed front (front_no_feed line said plan.entry low formed.fits at)) told.told.stands.one_line;
              counted = told.told.stands.counted;
            };
            spelled = (
              opening_is s.version line said plan.entry h ∙ ap (λ xs. front ++ xs) same,
              record {
                line = low;
                said = formed;
                entry = at;
                cost = told.told.spelled.cost;
                bound = told.told.spelled.bound;
                choices = told.told.spelled.choices;
                size = told.told.spelled.size;
              },
              knows,
            );
          };
          then = record {
            value = choices;
            behind = told.then.behind;
            told = lines_read IsChoiceLine h.choices choices told.behind told.then.behind told.then.told;
            then = tree_again s history feed before (eqb s.version 1) o choices nodes (bad kind.Plan place.line) x told.then.behind told.then.then.behind plan_is next told.then.then.told;
          };
        };
      }
