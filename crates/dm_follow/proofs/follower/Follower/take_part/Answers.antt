use Rattle.std.proofs.Common.{◌≡◌, ◌+◌, length, rules, refl, sym, subst}
use Rattle.dm_follow.specs.declared.faults.Tail.TheVariants as tail
use Rattle.dm_follow.specs.Follower.{FollowerValue, tail_of}
use Rattle.dm_follow.specs.Inside.Moving.{Goes, IsLive}
use Rattle.dm_follow.proofs.Taken.{goes_part, goes_past}
use Rattle.dm_follow.proofs.follower.Follower.take_part.Goals as goal

pub returns-then-is_whole-clause-goes : goal.returns-then-is_whole-clause-goes
returns-then-is_whole-clause-goes c =
    let was : FollowerValue = record { table = c.self.inside.table; taken = c.self.inside.taken; stage = c.self.inside.stage; part = c.self.inside.part.items } in
    let now : FollowerValue = record { table = c.self.inside.table; taken = c.in-Some.taken; stage = c.self.inside.stage; part = c.self.inside.part.items } in
    let whole : tail_of was ≡ tail.Whole = search rules in
    let counted : c.in-Some.taken ≡ c.self.inside.taken + length c.args.bytes.now = search rules in
    subst (λ (f : FollowerValue). Goes f now c.args.bytes.now) c.self.view_is (goes_past was now c.args.bytes.now whole c.requires.one_line refl refl refl counted)

pub returns-clause-goes : goal.returns-clause-goes
returns-clause-goes c =
    let was : FollowerValue = record { table = c.self.inside.table; taken = c.self.inside.taken; stage = c.self.inside.stage; part = c.self.inside.part.items } in
    let now : FollowerValue = record { table = c.self.inside.table; taken = c.in-Some.taken; stage = c.self.inside.stage; part = c.extend_from_slice.new.self.items } in
    let live : IsLive was.stage = subst (λ (f : FollowerValue). IsLive f.stage) (sym c.self.view_is) c.requires.live in
    let counted : c.in-Some.taken ≡ c.self.inside.taken + length c.args.bytes.now = search rules in
    subst (λ (f : FollowerValue). Goes f now c.args.bytes.now) c.self.view_is (goes_part was now c.args.bytes.now live c.requires.one_line refl refl c.in-Ok.ensures.items counted)
