-- What a worker takes.
use Rattle.std.proofs.Common.{◌≡◌, ℕ, zero, suc, ◌<◌, List, [], ◌∷◌, length, set, get_or, ap, ◌∙◌, arith}
use Rattle.std.specs.Prelude.{map, sum_by}
use Rattle.std.proofs.lemmas.List.Sums.{sum_by-cons, sum_by_push}
use Rattle.atomic_blocks.specs.Lent.{RowsId}
use Rattle.dm_deques.specs.Deques.{TallyValue, having_taken}
use Rattle.dm_deques.specs.Sharing.{deque_of}
use Rattle.dm_team.specs.declared.working.Worker.{Worker}
use Rattle.dm_team.specs.Accounts.{Path}
use Rattle.dm_team.specs.Inside.Workers.{HasStolen, HasTaken, HasFoundNone, IsSameWorker}

-- one tally has taken a path
pub stolen_at : (tallies : List (TallyValue Path)) (k : ℕ) (t u : TallyValue Path) (path : Path) → k < length tallies → t ≡ get_or tallies k t
    → u ≡ record t { account = having_taken t.account (path ∷ []) } → HasStolen tallies (set tallies k u) path
stolen_at [] k t u path lt is new = absurd (omega (arith, lt))
stolen_at (x ∷ xs) zero t u path lt is new = record {
  deques = ap (λ (d : RowsId). d ∷ map deque_of xs) (ap deque_of new ∙ ap deque_of is);
  weighs = λ h. omega (
    arith,
    sum_by-cons (λ (y : TallyValue Path). sum_by h y.account.taken) x xs,
    sum_by-cons (λ (y : TallyValue Path). sum_by h y.account.taken) u xs,
    ap (λ (y : TallyValue Path). sum_by h y.account.taken) new,
    sum_by_push h t.account.taken path,
    ap (λ (y : TallyValue Path). sum_by h y.account.taken) is,
  );
}
stolen_at (x ∷ xs) (suc k) t u path lt is new =
    let rest = stolen_at xs k t u path (omega (arith, lt)) is new in
    record {
      deques = ap (λ (ds : List RowsId). x.deque ∷ ds) rest.deques;
      weighs = λ h. omega (
        arith,
        rest.weighs h,
        sum_by-cons (λ (y : TallyValue Path). sum_by h y.account.taken) x xs,
        sum_by-cons (λ (y : TallyValue Path). sum_by h y.account.taken) x (set xs k u),
      );
    }

module _ {F : Type 0} where
  -- a worker that takes a path, or finds none, stays the same
  pub same_after : (a b c : Worker F) → IsSameWorker a b → IsSameWorker b c → IsSameWorker a c
  same_after a b c p q = record { who = q.who ∙ p.who; deque = q.deque ∙ p.deque; lent = q.lent ∙ p.lent; deques = q.deques ∙ p.deques; word = q.word ∙ p.word }

  pub taken_same : (old new : Worker F) (path : Path) → HasTaken old new path → IsSameWorker old new
  taken_same old new path t = record {
    who = ap (λ (w : Worker F). w.who) t.same;
    deque = t.deque;
    lent = t.lent;
    deques = t.deques;
    word = ap (λ (w : Worker F). w.hand.word) t.same;
  }

  pub none_same : (old new : Worker F) → HasFoundNone old new → IsSameWorker old new
  none_same old new n = record {
    who = ap (λ (w : Worker F). w.who) n.same;
    deque = ap (λ (o : TallyValue Path). o.deque) n.owner;
    lent = ap (λ (o : TallyValue Path). o.account.lent) n.owner;
    deques = ap (map deque_of) n.tallies;
    word = ap (λ (w : Worker F). w.hand.word) n.same;
  }
