use Rattle.std.proofs.Common.{string_bytes, map, ap, ◌∙◌, sym, ◌∷◌}
use Rattle.dm_words.proofs.ServerWords.{live_same}
use Rattle.dm_words.proofs.serve.read_serve_words.Goals as goal

pub returns : goal.returns
returns c =
    live_same _ _ _
    (ap (map string_bytes) c.in-Some.ensures.cases.0 ∙ ap (λ word. word ∷ map string_bytes c.in-Some.rest.now) (sym c.as_str.ensures.value))
    c.read_live.ensures
