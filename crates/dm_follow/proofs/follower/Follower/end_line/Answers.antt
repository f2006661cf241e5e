use Rattle.std.proofs.Common.{◌≡◌, ◌+◌, ℕ, List, [], ◌∷◌, rules, refl, subst}
use Rattle.dm_follow.specs.Follower.{FollowerValue}
use Rattle.dm_follow.specs.Inside.Reading.{Advances}
use Rattle.dm_follow.specs.Inside.Moving.{TakesFront}
use Rattle.dm_follow.proofs.Taken.{feed_taken}
use Rattle.dm_follow.proofs.follower.Follower.end_line.Goals as goal

pub returns : goal.returns
returns c =
    let was : FollowerValue = record { table = c.self.inside.table; taken = c.self.inside.taken; stage = c.self.inside.stage; part = c.self.inside.part.items } in
    let now : FollowerValue = record { table = c.stage_behind.new.table; taken = c.in-Some.taken; stage = c.in-Ok.stage; part = c.clear.new.self.items } in
    let counted : c.in-Some.taken ≡ c.self.inside.taken + 1 = search rules in
    let advances : Advances was.table now.table was.stage was.part c.in-Ok.stage =
    subst (λ (line : List ℕ). Advances was.table now.table was.stage line c.in-Ok.stage) c.deref.ensures.value c.in-Ok.ensures.advances in
    subst (λ (f : FollowerValue). TakesFront f now (10 ∷ []) c.answer_of.result) c.self.view_is
    (feed_taken was now c.in-Ok.stage c.answer_of.result advances refl c.clear.ensures.items counted c.answer_of.ensures)
