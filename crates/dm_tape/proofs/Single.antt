-- At a place one round alone is told, or one fault.
use Rattle.std.proofs.Common.{◌≡◌, ℕ, ◌+◌, List, [], length, Option, Some, Result, Ok, Err, sym, ap, ◌∙◌}
use Rattle.dm_text.specs.Places.{Place}
use Rattle.dm_text.specs.Judging.{Line, Then, Finds, Gives, IsSingle}
use Rattle.dm_text.proofs.Judged.{SpellOne, line_one, then_one, times_one, gives_one, finds_one}
use Rattle.dm_tree.specs.declared.forms.Node.{Node}
use Rattle.dm_cert.specs.PlansRead.{IsChoiceLine, IsNodeLine, ShowsNodes, TellsChoices, TellsNodes, TellsTree, cut_line, misshapen_line, no_tree}
use Rattle.dm_cert.specs.Inside.PlanLines.{Reads, choice_in, node_in}
use Rattle.dm_cert.proofs.DecisionsRead.{reads_choice}
use Rattle.dm_cert.proofs.NodesRead.{reads_node}
use Rattle.dm_cert.specs.SolvedRead.{TellsSolvedBehind}
use Rattle.dm_cert.proofs.SpelledSolved.{solved_behind_single}
use Rattle.dm_records.specs.RunLines.{LogOpening, ItemLine, lone, planned, solved, heading_of, solved_item}
use Rattle.dm_records.proofs.LinesOnce.{lines_spell_one}
use Rattle.dm_tape.specs.Told.{IsFirstLine, IsFeedLine, TellsNodesOf, TellsBehind, TellsItem, TellsItems, TellsPart, TellsRound, fault_of, plan_item}

reads_one : {V : Type 0} (spells : V → List ℕ → Type 0) (read : List ℕ → Option V) → ((line : List ℕ) → Reads spells line (read line)) → SpellOne spells
reads_one spells read reads = λ line v w p q. let e : Some v ≡ Some w = sym ((reads line).back v p) ∙ (reads line).back w q in cc

first_one : SpellOne IsFirstLine
first_one = λ line v w p q. lines_spell_one.items 2 line v w p.is_line q.is_line

feed_one : (number : ℕ) → SpellOne (IsFeedLine number)
feed_one number = λ line m n p q. ap (λ (o : LogOpening). o.items) (lines_spell_one.openings line (record { feed = number; items = m }) (record { feed = number; items = n }) p q)

choices_one : (count : ℕ) → IsSingle (TellsChoices count)
choices_one count = times_one (λ before. Line cut_line misshapen_line IsChoiceLine) (λ before. line_one cut_line misshapen_line IsChoiceLine (reads_one IsChoiceLine choice_in reads_choice)) count []

nodes_show_one : (read one other : List Node) → ShowsNodes read one → ShowsNodes read other → one ≡ other
nodes_show_one read one other p q = p.shown ∙ sym q.shown

tree_one : (size : ℕ) → IsSingle (TellsTree 2 size)
tree_one size place one other p q =
    then_one (TellsNodes size) (λ read. Finds (ShowsNodes read) no_tree)
    (times_one (λ before. Line cut_line misshapen_line IsNodeLine) (λ before. line_one cut_line misshapen_line IsNodeLine (reads_one IsNodeLine node_in reads_node)) size [])
    (λ read. finds_one (ShowsNodes read) no_tree (nodes_show_one read)) place one other p q

err_same : {A F : Type 0} (a b : F) → (◌≡◌ {A = Result A F} (Err a) (Err b)) → a ≡ b
err_same a b e = cc

nodes_one : (first size : ℕ) → IsSingle (TellsNodesOf first size)
nodes_one first size place (Ok v) (Ok w) p q = tree_one size place (Ok v) (Ok w) p q
nodes_one first size place (Ok v) (Err g) p q = let e = tree_one size place (Ok v) (Err q.0) p q.1 in absurd cc
nodes_one first size place (Err f) (Ok w) p q = let e = tree_one size place (Err p.0) (Ok w) p.1 q in absurd cc
nodes_one first size place (Err f) (Err g) p q =
    let same : p.0 ≡ q.0 = err_same {A = List Node × Place} p.0 q.0 (tree_one size place (Err p.0) (Err q.0) p.1 q.1) in
    ap Err (p.2 ∙ (ap (fault_of first) same ∙ sym q.2))

behind_one : (first : ℕ) (line : ItemLine) → IsSingle (TellsBehind first line)
behind_one first (lone answered) = gives_one answered
behind_one first (planned o) =
    then_one (TellsChoices o.choices) (λ choices. Then (TellsNodesOf first o.size) (λ nodes. Gives (plan_item o choices nodes))) (choices_one o.choices)
    (λ choices. then_one (TellsNodesOf first o.size) (λ nodes. Gives (plan_item o choices nodes)) (nodes_one first o.size) (λ nodes. gives_one (plan_item o choices nodes)))
behind_one first (solved o) =
    then_one (TellsSolvedBehind o.entry (heading_of o)) (λ plan. Gives (solved_item o plan)) (solved_behind_single o.entry (heading_of o)) (λ plan. gives_one (solved_item o plan))

item_one : IsSingle TellsItem
item_one place one other p q =
    then_one (Line cut_line misshapen_line IsFirstLine) (TellsBehind place.line) (line_one cut_line misshapen_line IsFirstLine first_one) (behind_one place.line) place one other p q

part_one : (number : ℕ) → IsSingle (TellsPart number)
part_one number =
    then_one (Line cut_line misshapen_line (IsFeedLine number)) TellsItems (line_one cut_line misshapen_line (IsFeedLine number) (feed_one number))
    (λ count. times_one (λ before. TellsItem) (λ before. item_one) count [])

pub round_one : (feeds : ℕ) → IsSingle (TellsRound feeds)
round_one feeds = times_one (λ before. TellsPart (length before + 1)) (λ before. part_one (length before + 1)) feeds []
