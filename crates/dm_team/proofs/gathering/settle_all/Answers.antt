use Rattle.std.proofs.Common.{◌≡◌, List, length, map, sym, ap, ◌∙◌}
use Rattle.std.proofs.lemmas.List.{length-map, nil_from_length}
use Rattle.dm_deques.specs.Deques.{TallyValue}
use Rattle.dm_deques.specs.Sharing.{deque_of, settling_each}
use Rattle.dm_team.specs.Accounts.{Path}
use Rattle.dm_team.proofs.Enlisted.{one_settled, one_less_out, none_out, settled_deques, first_of_all, others_of_all}
use Rattle.dm_team.proofs.gathering.settle_all.Goals as goal

pub loop-each-preserved : goal.loop-each-preserved
loop-each-preserved g c =
    let is = c.in-Some.ensures.steps.0 in
    let inv = c.loop-each.invariant in
    let new = c.in_ok-settled.ensures ∙ ap (settling_each c.loop-each.settled.items) c.into_vec-tallies.ensures in
    let here = first_of_all (λ (l : List (TallyValue Path)). map deque_of l ≡ map deque_of c.args.owners.items) c.in-Some.each _ _ is inv.all in
    record {
      all = others_of_all (λ (l : List (TallyValue Path)). map deque_of l ≡ map deque_of c.args.owners.items) c.in-Some.each _ _ is inv.all;
      deques = settled_deques c.loop-each.settled.items _ c.in-Some.each _ new inv.deques;
      put = λ h. (one_settled h c.loop-each.settled.items _ c.in-Some.each _ _ is (here ∙ sym inv.deques) new).0 ∙ inv.put h;
      lent = λ n all. one_less_out n c.loop-each.settled.items _ c.in-Some.each _ _ is (here ∙ sym inv.deques) new (inv.lent n all);
      taken = λ h. (one_settled h c.loop-each.settled.items _ c.in-Some.each _ _ is (here ∙ sym inv.deques) new).1 ∙ inv.taken h;
    }

pub returns-clause-lent : goal.returns-clause-lent
returns-clause-lent g c = λ n all.
    none_out n c.loop-each.settled.items _ (nil_from_length _ (sym c.loop-each.each-iterator.rest.ok.0 ∙ c.in-None.ensures.steps.0)) (c.loop-each.invariant.lent n all)

pub returns-clause-many : goal.returns-clause-many
returns-clause-many g c =
    sym (length-map c.loop-each.settled.items (deque_of {T = Path})) ∙ (ap length c.loop-each.invariant.deques ∙ length-map c.args.owners.items (deque_of {T = Path}))
