-- Each step keeps the protocol of a deque.
use Rattle.std.proofs.Common.{◌≡◌, ◌⊎◌, ℕ, zero, suc, ◌+◌, ◌≤◌, Bool, true, false, cond, List, [], ◌∷◌, ◌++◌, length, set, All, refl, ap, sym, ◌∙◌, subst, arith, inl, inr, ⊎_elim}
use Rattle.std.specs.List.{sum_by}
use mathlib.Core.Option.{some}
use lib.ListN.{get_elem?}
use Rattle.crossbeam_deque.specs.Tasks.{Pushes, Takes, Pops, Finds, Learns, Forks, Merges}
use Rattle.crossbeam_deque.proofs.Lists.{at_snoc}
use Rattle.atomic_table.proofs.Lists.{set_else}
use Rattle.std.proofs.lemmas.List.Elements.{All-nil, All-head, All-tail, All-push, All-cons}
use Rattle.std.proofs.lemmas.List.Sums.{sum_by-cons, sum_by_push, sum_by-append}
use Rattle.dm_deques.specs.Rule.{fresh, spent, IsPart, Balanced, WasEmpty}
use Rattle.dm_deques.specs.Deques.{having_put, having_taken, lending, settled}
use Rattle.dm_deques.specs.Inside.Steps.{HasPut, HasTaken, HasWhole}
use Rattle.dm_deques.specs.declared.account.Account.{Account}
use Rattle.dm_base.proofs.Counts.{each_set, sum_set, sum_at, sum_lone}

all_left : {T : Type 0} (P : T → Type 0) (xs ys : List T) → All P (xs ++ ys) → All P xs
all_left P [] ys all = All-nil P
all_left P (x ∷ xs) ys all = All-cons P x xs (All-head P x (xs ++ ys) all) (all_left P xs ys (All-tail P x (xs ++ ys) all))

all_right : {T : Type 0} (P : T → Type 0) (xs ys : List T) → All P (xs ++ ys) → All P ys
all_right P [] ys all = all
all_right P (x ∷ xs) ys all = all_right P xs ys (All-tail P x (xs ++ ys) all)

not_both : (t : Bool) → t ≡ true → t ≡ false → ⊥
not_both true a c = cc
not_both false a c = cc

abbrev one_if : Bool → ℕ
one_if b = cond b 1 0

module _ {T : Type 0} where
  abbrev one_if_puts : Account T → ℕ
  one_if_puts v = one_if v.puts

  abbrev one_if_out : Account T → ℕ
  one_if_out v = one_if v.is_out

  abbrev put_of : (T → ℕ) → Account T → ℕ
  put_of h v = sum_by h v.put

  abbrev taken_of : (T → ℕ) → Account T → ℕ
  taken_of h v = sum_by h v.taken

  abbrev lent_of : Account T → ℕ
  lent_of v = v.lent

  -- what the owner of these accounts has taken
  abbrev own_taken : (T → ℕ) → Account T → ℕ
  own_taken h v = cond v.puts (taken_of h v) 0

  -- what each tally that is out has taken
  abbrev outs : List (Account T) → List (List T)
  outs [] = []
  outs (v ∷ vs) = cond v.is_out (v.taken ∷ outs vs) (outs vs)

  one_more : (v : Account T) (vs : List (Account T)) → length (outs vs) ≡ sum_by one_if_out vs → (t : Bool) → v.is_out ≡ t → length (outs (v ∷ vs)) ≡ sum_by one_if_out (v ∷ vs)
  one_more v vs rest true e =
      let here = ap (λ (b : Bool). length (cond b (v.taken ∷ outs vs) (outs vs))) e in
      omega (arith, here, rest, sum_by-cons one_if_out v vs, ap one_if e)
  one_more v vs rest false e =
      let here = ap (λ (b : Bool). length (cond b (v.taken ∷ outs vs) (outs vs))) e in
      omega (arith, here, rest, sum_by-cons one_if_out v vs, ap one_if e)

  many_outs : (vs : List (Account T)) → length (outs vs) ≡ sum_by one_if_out vs
  many_outs [] = refl
  many_outs (v ∷ vs) = one_more v vs (many_outs vs) v.is_out refl

  abbrev AllTaken : (T → ℕ) → List (Account T) → Type 0
  AllTaken h vs = sum_by (taken_of h) vs ≡ sum_by (own_taken h) vs + sum_by (λ xs. sum_by h xs) (outs vs)

  one_taken : (h : T → ℕ) (v : Account T) (vs : List (Account T)) → AllTaken h vs → IsPart v → (p : Bool) → v.puts ≡ p → (t : Bool) → v.is_out ≡ t → AllTaken h (v ∷ vs)
  one_taken h v vs rest part true p true t = absurd (not_both v.is_out t (part.owner p))
  one_taken h v vs rest part true p false t =
      let mine = ap (λ (b : Bool). cond b (taken_of h v) 0) p in
      let here = ap (λ (b : Bool). sum_by (λ xs. sum_by h xs) (cond b (v.taken ∷ outs vs) (outs vs))) t in
      omega (arith, mine, here, rest, sum_by-cons (taken_of h) v vs, sum_by-cons (own_taken h) v vs)
  one_taken h v vs rest part false p true t =
      let mine = ap (λ (b : Bool). cond b (taken_of h v) 0) p in
      let here = ap (λ (b : Bool). sum_by (λ xs. sum_by h xs) (cond b (v.taken ∷ outs vs) (outs vs))) t in
      omega (arith, mine, here, rest, sum_by-cons (taken_of h) v vs, sum_by-cons (own_taken h) v vs, sum_by-cons (λ xs. sum_by h xs) v.taken (outs vs))
  one_taken h v vs rest part false p false t =
      let mine = ap (λ (b : Bool). cond b (taken_of h v) 0) p in
      let here = ap (λ (b : Bool). sum_by (λ xs. sum_by h xs) (cond b (v.taken ∷ outs vs) (outs vs))) t in
      omega (arith, mine, here, rest, ap (sum_by h) (part.taken p t), sum_by-cons (taken_of h) v vs, sum_by-cons (own_taken h) v vs)

  -- what all have taken is what the owner and the tallies that are out have
  all_taken : (h : T → ℕ) (vs : List (Account T)) → ((i : ℕ) (v : Account T) → get_elem? vs i ≡ some v → IsPart v) → AllTaken h vs
  all_taken h [] parts = refl
  all_taken h (v ∷ vs) parts = one_taken h v vs (all_taken h vs (λ i u e. parts (suc i) u e)) (parts zero v refl) v.puts refl v.is_out refl

module _ {T : Type 0} (fits : T → Type 0) where
  abbrev Holds : List T → List (Account T) → Type 0
  Holds = Balanced fits

  -- where one account changes by as much as the tasks do, what was balanced still is
  rebalanced : (port : ℕ) (v w : Account T) (before items : List T) (views : List (Account T)) → get_elem? views port ≡ some v → Holds before views → w.puts ≡ v.puts → w.is_out ≡ v.is_out
      → w.lent ≡ v.lent → IsPart w → ((h : T → ℕ) → sum_by h w.put + (sum_by h v.taken + sum_by h before) ≡ sum_by h v.put + (sum_by h w.taken + sum_by h items)) → All fits items
      → Holds items (set views port w)
  rebalanced port v w before items views at b same same_out same_lent part weighs fit = record {
    balance = λ h. omega (arith, sum_set (put_of h) views port v w at, sum_set (taken_of h) views port v w at, b.balance h, weighs h);
    one_puts = omega (arith, sum_set one_if_puts views port v w at, b.one_puts, ap one_if same);
    parts = each_set IsPart views port w (λ j u ne e. b.parts j u e) part;
    out = omega (arith, sum_set one_if_out views port v w at, sum_set lent_of views port v w at, b.out, ap one_if same_out, same_lent);
    fit = fit;
  }

  pub puts : (port : ℕ) (v : Account T) (x : T) → v.puts ≡ true → fits x → Pushes Holds port v (x ∷ []) (HasPut v (x ∷ []))
  puts port v x owner fit items views b at = (
    having_put v (x ∷ []),
    rebalanced port v (having_put v (x ∷ [])) items (items ++ x ∷ []) views at b refl refl refl
        (record {
          owner = (b.parts port v at).owner;
          put = λ none. absurd (not_both v.puts owner none);
          lent = λ none. absurd (not_both v.puts owner none);
          taken = λ none. absurd (not_both v.puts owner none);
        })
        (λ h. omega (arith, sum_by-append h v.put (x ∷ []), sum_by-append h items (x ∷ []))) (All-push fits items x b.fit fit),
    refl,
  )

  taken_off : (port : ℕ) (v : Account T) (xs items before : List T) (views : List (Account T)) → get_elem? views port ≡ some v → (v.puts ≡ false → v.is_out ≡ false → ⊥)
      → Balanced fits before views → ((h : T → ℕ) → sum_by h before ≡ sum_by h xs + sum_by h items) → All fits items
      → Balanced fits items (set views port (having_taken v xs))
  taken_off port v xs items before views at may b weighs fit =
      let part = b.parts port v at in
      rebalanced port v (having_taken v xs) before items views at b refl refl refl
      (record { owner = part.owner; put = part.put; lent = part.lent; taken = λ none in_hand. absurd (may none in_hand) })
      (λ h. omega (arith, sum_by-append h v.taken xs, weighs h)) fit

  pub pops : (port : ℕ) (v : Account T) → v.puts ≡ true → Pops Holds port v (HasTaken fits v)
  pops port v owner x items views b at = (
    having_taken v (x ∷ []),
    taken_off port v (x ∷ []) items (items ++ x ∷ []) views at (λ none in_hand. not_both v.puts owner none) b (λ h. omega (arith, sum_by-append h items (x ∷ [])))
        (all_left fits items (x ∷ []) b.fit),
    (refl, all_right fits items (x ∷ []) b.fit),
  )

  pub steals : (port : ℕ) (v : Account T) → v.is_out ≡ true → Takes Holds port v 1 (HasTaken fits v)
  steals port v out xs items views some_task one b at = (
    having_taken v xs,
    taken_off port v xs items (xs ++ items) views at (λ none in_hand. not_both v.is_out out in_hand) b (λ h. omega (arith, sum_by-append h xs items)) (all_right fits xs items b.fit),
    (refl, all_left fits xs items b.fit),
  )

  -- where one account is the owner's, a measure that others have none of is the owner's alone
  lone : (f : Account T → ℕ) (port : ℕ) (v : Account T) (items : List T) (views : List (Account T)) → v.puts ≡ true → Holds items views → get_elem? views port ≡ some v
      → ((u : Account T) → IsPart u → u.puts ≡ false → f u ≡ 0) → sum_by f views ≡ f v
  lone f port v items views owner b at nothing = sum_lone f one_if_puts views port v at (λ j u there. none_or_part u (b.parts j u there)) (b.one_puts ∙ sym (ap one_if owner)) where
    none_or_part : (u : Account T) → IsPart u → (f u ≡ 0) ⊎ (1 ≤ one_if_puts u)
    none_or_part u part = by_test u.puts refl where
      by_test : (t : Bool) → u.puts ≡ t → (f u ≡ 0) ⊎ (1 ≤ one_if_puts u)
      by_test true e = inr (omega (arith, ap one_if e))
      by_test false e = inl (nothing u part e)

  pub forks : (port : ℕ) (v : Account T) → v.puts ≡ true → Forks Holds port v (lending v) fresh
  forks port v owner items views b at =
      let u : Account T = lending v in let new : Account T = fresh in let vs = set views port u in
      let part : IsPart u = record {
        owner = (b.parts port v at).owner;
        put = λ none. absurd (not_both v.puts owner none);
        lent = λ none. absurd (not_both v.puts owner none);
        taken = λ none. absurd (not_both v.puts owner none);
      } in
      let bare : IsPart new = record { owner = λ e. absurd (not_both false e refl); put = λ _. refl; lent = λ _. refl; taken = λ _ _. refl } in
      record {
        balance = λ h. omega (
          arith,
          b.balance h,
          sum_set (put_of h) views port v u at,
          sum_set (taken_of h) views port v u at,
          sum_by_push (put_of h) vs new,
          sum_by_push (taken_of h) vs new,
        );
        one_puts = omega (arith, b.one_puts, sum_set one_if_puts views port v u at, sum_by_push one_if_puts vs new);
        parts = λ j w e. ⊎_elim (λ (h : get_elem? vs j ≡ some w). each_set IsPart views port u (λ k z _ f. b.parts k z f) part j w h)
            (λ (same : new ≡ w). subst IsPart same bare) (at_snoc vs new w j e);
        out = omega (
          arith,
          b.out,
          sum_set one_if_out views port v u at,
          sum_set lent_of views port v u at,
          sum_by_push one_if_out vs new,
          sum_by_push lent_of vs new,
        );
        fit = b.fit;
      }

  pub merges : (port : ℕ) (v : Account T) (other : ℕ) (w : Account T) → v.puts ≡ true → w.puts ≡ false → w.is_out ≡ true → Merges Holds port v other w (settled v w) spent
  merges port v other w owner guest out items views b at ne there =
      let u : Account T = settled v w in let left : Account T = spent in let vs = set views port u in
      let was : get_elem? views other ≡ some w = sym (set_else views port other u ne) ∙ there in
      let none_put : w.put ≡ [] = (b.parts other w was).put guest in
      let none_lent : w.lent ≡ 0 = (b.parts other w was).lent guest in
      let all_lent : sum_by lent_of views ≡ v.lent = lone lent_of port v items views owner b at (λ z part none. part.lent none) in
      let one_out : 1 ≤ sum_by one_if_out views = omega (arith, sum_at one_if_out views other w was, ap one_if out) in
      let mine : IsPart u = record {
        owner = (b.parts port v at).owner;
        put = λ none. absurd (not_both v.puts owner none);
        lent = λ none. absurd (not_both v.puts owner none);
        taken = λ none. absurd (not_both v.puts owner none);
      } in
      let bare : IsPart left = record { owner = λ e. absurd (not_both false e refl); put = λ _. refl; lent = λ _. refl; taken = λ _ _. refl } in
      record {
        balance = λ h. omega (
          arith,
          sum_set (put_of h) views port v u at,
          sum_set (taken_of h) views port v u at,
          b.balance h,
          sum_set (put_of h) vs other w left there,
          sum_set (taken_of h) vs other w left there,
          ap (sum_by h) none_put,
          sum_by-append h v.taken w.taken,
        );
        one_puts = omega (arith, sum_set one_if_puts views port v u at, sum_set one_if_puts vs other w left there, b.one_puts, ap one_if guest);
        parts = each_set IsPart vs other left (λ k z _ f. each_set IsPart views port u (λ k' z' _ f'. b.parts k' z' f') mine k z f) bare;
        out = omega (
          arith,
          sum_set one_if_out views port v u at,
          sum_set one_if_out vs other w left there,
          sum_set lent_of views port v u at,
          sum_set lent_of vs other w left there,
          b.out,
          ap one_if out,
          none_lent,
          all_lent,
          one_out,
        );
        fit = b.fit;
      }

  -- what the owner has put is what was taken and what the deque holds
  pub learns : (port : ℕ) (v : Account T) → v.puts ≡ true → Learns Holds port v (HasWhole v)
  learns port v owner items views b at =
      record {
        by_tallies = outs views;
        out = many_outs views ∙ (b.out ∙ lone lent_of port v items views owner b at (λ u part none. part.lent none));
        balance = λ h.
            let put : sum_by (put_of h) views ≡ sum_by h v.put = lone (put_of h) port v items views owner b at (λ u part none. ap (sum_by h) (part.put none)) in
            let own : sum_by (own_taken h) views ≡ own_taken h v = lone (own_taken h) port v items views owner b at (λ u part none. ap (λ (t : Bool). cond t (taken_of h u) 0) none) in
            let mine : own_taken h v ≡ sum_by h v.taken = ap (λ (t : Bool). cond t (taken_of h v) 0) owner in
            omega (arith, put, own, mine, all_taken h views b.parts, b.balance h);
      }

  pub finds : (port : ℕ) (v : Account T) → v.puts ≡ true → Finds Holds port v (WasEmpty v)
  finds port v owner views b at = learns port v owner [] views b at
