use Rattle.std.proofs.Common.{◌≡◌, ℕ, drop, ap, subst, ◌∙◌, arith}
use Rattle.std.proofs.lemmas.List.{drop-drop}
use Rattle.dm_words.specs.Asked.{names_in}
use Rattle.dm_serve.proofs.Lists.{name_there, no_name_there}
use Rattle.dm_serve.proofs.opening.name_at.Goals as goal

pub loop-item-preserved : goal.loop-item-preserved
loop-item-preserved c = c.behind_first-rest.ensures ∙ (ap (drop 1) c.loop-item.invariant ∙ drop-drop 1 c.loop-item._item (names_in c.args.names))

pub returns-in-Some : goal.returns-in-Some
returns-in-Some c =
    let at : c.loop-item._item ≡ c.args.place = omega arith in
    let left = subst (λ (n : ℕ). names_in c.loop-item.rest ≡ drop n (names_in c.args.names)) at c.loop-item.invariant in
    name_there (names_in c.args.names) c.args.place c.in-Some.name.now (names_in c.loop-item.rest) _ left c.in-Some.ensures

pub returns-in-None : goal.returns-in-None
returns-in-None c =
    let at : c.loop-item._item ≡ c.args.place = omega arith in
    let left = subst (λ (n : ℕ). names_in c.loop-item.rest ≡ drop n (names_in c.args.names)) at c.loop-item.invariant in
    no_name_there (names_in c.args.names) c.args.place _ (names_in c.loop-item.rest) left c.in-None.ensures
