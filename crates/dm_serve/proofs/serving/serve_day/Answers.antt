use Rattle.dm_words.specs.ServerAsked.{server_of}
use Rattle.dm_store_text.proofs.Within.{asked_within}
use Rattle.std.proofs.Common.{inl, inr}
use Rattle.dm_serve.proofs.serving.serve_day.Goals as goal

pub serve_files-requires-clause-within : goal.serve_files-requires-clause-within
serve_files-requires-clause-within g c = λ lifetimes bounds. asked_within (server_of c.args.server.words) c.requires.asked

pub returns-clause-words_are_good : goal.returns-clause-words_are_good
returns-clause-words_are_good g c = λ e.
    let w = rw e at c.serve_files.ensures.ends in
    elim w.holds [ inl f ↦ f | inr o ↦ o.is_due ]
