-- Feeds of which nothing was read.
use Rattle.std.proofs.Common.{◌≡◌, zero, suc, List, [], ◌∷◌, Option, None, Some, sym, subst}
use Rattle.dm_tail.specs.Memory.{given_of}
use Rattle.dm_tail.specs.declared.memory.MemFeed.{MemFeed}
use Rattle.dm_serve.specs.Lives.{NothingIsRead}

both_unread : (one other : MemFeed) → given_of one ≡ [] → given_of other ≡ [] →
    NothingIsRead (λ (feed : MemFeed). Some (given_of feed)) (Some one ∷ Some other ∷ [])
both_unread one other a b zero feed at =
    let e : Some (Some one) ≡ Some (Some feed) = at in
    let same : one ≡ feed = cc in
    subst (λ (f : MemFeed). given_of f ≡ []) same a
both_unread one other a b (suc zero) feed at =
    let e : Some (Some other) ≡ Some (Some feed) = at in
    let same : other ≡ feed = cc in
    subst (λ (f : MemFeed). given_of f ≡ []) same b
both_unread one other a b (suc (suc place)) feed at =
    let e : None ≡ Some (Some feed) = at in
    cc

pub two_unread : (feeds : List (Option MemFeed)) (one other : MemFeed) → feeds ≡ Some one ∷ Some other ∷ [] → given_of one ≡ [] →
    given_of other ≡ [] → NothingIsRead (λ (feed : MemFeed). Some (given_of feed)) feeds
two_unread feeds one other is a b =
    subst (NothingIsRead (λ (feed : MemFeed). Some (given_of feed))) (sym is) (both_unread one other a b)
