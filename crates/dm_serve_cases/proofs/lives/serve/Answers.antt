use Rattle.std.proofs.Common.{◌≡◌, inl, inr, length, sym, ap, ◌∙◌}
use Rattle.dm_words.specs.ServerAsked.{server_of}
use Rattle.dm_serve_cases.proofs.Firsts.{goes_first, goes_nowhere}
use Rattle.dm_serve_cases.proofs.lives.serve.Goals as goal

pub returns : goal.returns
returns g c =
    let two = c.in_ok-feeds.ensures.two in
    let many : length (server_of c.args.words).run.feeds ≡ 2 = sym c.in_ok-feeds.ensures.as_many ∙ ap length two.are in
    elim c.serve_day-end.ensures.any_moment [
      | inl e ↦ goes_nowhere c.new-journal.result.store c.serve_day-end.new.journal.store c.args.store c.new-journal.ensures (ap (λ j. j.store) e)
      | inr k ↦ goes_first _ _ many c.in_ok-feeds.feeds.items two c.new-journal.result.store c.serve_day-end.new.journal.store c.args.store c.new-journal.ensures k.keeps
    ]
