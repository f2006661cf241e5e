use Rattle.std.proofs.Common.{Err, sym, ap, subst, ◌∙◌}
use Rattle.dm_serve.specs.Inside.Stages.{StopsPutting}
use Rattle.dm_serve.proofs.Begun.{begun_new, begun_old, commit_stops_later, head_is, head_leaves, no_blocks, recover_leaves, recover_stops, some_block}
use Rattle.dm_serve.proofs.starting.put_right.Goals as goal

pub returns-in-Err-clause-right : goal.returns-in-Err-clause-right
returns-in-Err-clause-right g c = λ s contents first penalty plans new t.
    (recover_leaves g.S.Store s c.args.head.feeds c.args.journal.now.store contents first t c.recover.new.self.store (c.recover.ensures.any_moment contents t.found), tt)

pub returns-in-Err-clause-stops : goal.returns-in-Err-clause-stops
returns-in-Err-clause-stops g c =
    subst (StopsPutting g.S.Store c.args.journal.now.store c.recover.new.self.store) (sym c.stop_of_recover.ensures)
    (recover_stops g.S.Store c.args.journal.now.store c.recover.new.self.store c.in-Err.error (λ is. c.in-Err.ensures.failed (ap Err is)) (λ is. c.in-Err.ensures.unread (ap Err is))
    (λ is contents found. let left = c.in-Err.ensures.unread_left contents found (ap Err is) in record { journal = left.same; replies = c.recover.ensures.shown contents found; none = left.none }) c.in-Err.ensures.judged)

pub returns-then-not-is_new-clause-right : goal.returns-then-not-is_new-clause-right
returns-then-not-is_new-clause-right g c = λ s contents first penalty plans new t.
    let leaves = recover_leaves g.S.Store s c.args.head.feeds c.args.journal.now.store contents first t c.recover.new.self.store (c.recover.ensures.any_moment contents t.found) in (
      leaves,
      begun_old g.S.Store s c.args.head.feeds c.args.journal.now.store contents first t c.recover.new.self (some_block c.args.is_new contents c.if-not-is_new.true new)
          (c.in-Ok.ensures.at_rest contents t.found) (c.recover.ensures.shown contents t.found) leaves,
    )

pub returns-in-Err-head_text-clause-right : goal.returns-in-Err-head_text-clause-right
returns-in-Err-head_text-clause-right g c = λ s contents first penalty plans new t.
    (recover_leaves g.S.Store s c.args.head.feeds c.args.journal.now.store contents first t c.recover.new.self.store (c.recover.ensures.any_moment contents t.found), tt)

pub returns-in-Ok-commit-clause-right : goal.returns-in-Ok-commit-clause-right
returns-in-Ok-commit-clause-right g c = λ s contents first penalty plans new t.
    let so_far = recover_leaves g.S.Store s c.args.head.feeds c.args.journal.now.store contents first t c.recover.new.self.store (c.recover.ensures.any_moment contents t.found) in
    let none = no_blocks c.args.is_new contents c.if-not-is_new.false new in
    let is = head_is s c.args.head c.deref.result.now penalty plans (c.deref.ensures.value ∙ c.in-Ok-head_text.ensures) in
    let rest = c.in-Ok.ensures.at_rest contents t.found in
    let same = c.recover.ensures.shown contents t.found in
    let leaves =
    head_leaves g.S.Store s c.args.head.feeds c.args.journal.now.store contents first t c.deref.result.now none is c.recover.new.self.store c.commit.new.self.store same so_far
    (c.commit.ensures.any_moment contents rest) in (
      leaves,
      begun_new g.S.Store s c.args.head.feeds c.args.journal.now.store contents first t c.deref.result.now none is c.commit.new.self (c.in-Ok-commit.ensures.acknowledged contents rest)
          (c.commit.ensures.shown contents rest ∙ same) leaves,
    )

pub returns-clause-right : goal.returns-clause-right
returns-clause-right g c = λ s contents first penalty plans new t.
    let so_far = recover_leaves g.S.Store s c.args.head.feeds c.args.journal.now.store contents first t c.recover.new.self.store (c.recover.ensures.any_moment contents t.found) in
    let none = no_blocks c.args.is_new contents c.if-not-is_new.false new in
    let is = head_is s c.args.head c.deref.result.now penalty plans (c.deref.ensures.value ∙ c.in-Ok-head_text.ensures) in
    let rest = c.in-Ok.ensures.at_rest contents t.found in
    let same = c.recover.ensures.shown contents t.found in (
      head_leaves g.S.Store s c.args.head.feeds c.args.journal.now.store contents first t c.deref.result.now none is c.recover.new.self.store c.commit.new.self.store same so_far
          (c.commit.ensures.any_moment contents rest),
      tt,
    )

pub returns-clause-stops : goal.returns-clause-stops
returns-clause-stops g c =
    subst (StopsPutting g.S.Store c.args.journal.now.store c.commit.new.self.store) (sym c.stop_of_commit.ensures)
    (commit_stops_later g.S.Store c.args.journal.now.store c.recover.new.self.store c.commit.new.self.store c.in-Err-commit.error c.recover.ensures.later c.in-Err-commit.ensures.known (λ is. c.in-Err-commit.ensures.failed (ap Err is)))
