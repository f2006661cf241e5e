-- A journal of two blocks, as worked out by hand.
use Rattle.std.specs.Prelude.{◌≡◌, ℕ, List, [], ◌∷◌, codes}
use Rattle.dm_store.specs.Blocks.{at_rest}

-- the head, with the penalty, the plans of a feed and the number of feeds
abbrev pub worked_head : List ℕ
worked_head = codes "dm-store 1\npenalty 3600\nplans 16\nfeeds 2\n"

-- a round in which each of two feeds has one line
abbrev pub worked_round : List ℕ
worked_round = codes "feed 1 1\n1 delay event 1 60 -> 1 ok\nfeed 2 1\n1 cost -> 1 cost 0\n"

-- the head has 41 bytes and the round 64
abbrev pub WorkedIsSpelled : Type 0
WorkedIsSpelled =
    at_rest (worked_head ∷ worked_round ∷ []) ≡
    codes "+41\ndm-store 1\npenalty 3600\nplans 16\nfeeds 2\n+64\nfeed 1 1\n1 delay event 1 60 -> 1 ok\nfeed 2 1\n1 cost -> 1 cost 0\n~"
