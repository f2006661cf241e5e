-- A walk along named activities shows a cycle where it comes back, and no other list of places is named so.
use Rattle.std.proofs.Common.{◌≡◌, ℕ, ◌+◌, ◌<◌, ◌≤◌, Bool, true, false, List, [], ◌∷◌, ◌++◌, length, take, drop, Option, Some, None, refl, sym, ap, subst, ◌∙◌, arith, get_or, eqb, eqb-true, eq-eqb}
use Rattle.std.proofs.lemmas.List.{take_more, take_all, map-append, drop_all}
use Rattle.std.proofs.lemmas.List.Quantifiers.{position-Some}
use Rattle.dm_base.specs.declared.ids.ActId.{ActId}
use Rattle.dm_graph.specs.Arcs.{Arcs, Binds, Chain, IsCycle}
use Rattle.dm_network.specs.Net.{Net, activity_at, activity_place, no_activity}
use Rattle.dm_network.specs.Held.{ids_of}
use Rattle.dm_network.specs.Start.{IsNetwork}
use Rattle.dm_network.specs.declared.parts.Activity.{Activity}
use Rattle.dm_network.proofs.Keys.{key_is_found}
use Rattle.dm_rows.specs.Rows.{RowsValue}
use Rattle.dm_rows.specs.Active.{active_arcs, ShowsCycle}
use Rattle.dm_check_rows.specs.Claims.{Tells}
use Rattle.dm_check_rows.specs.Inside.Walking.{LeadsBy, IsFirstTail, LeadsBack, HasWalked}

chain_more : (g : Arcs) (i : ℕ) (chain : List ℕ) (j a : ℕ) → Chain g i chain j → Binds g a → g.tail a ≡ j → Chain g i (chain ++ a ∷ []) (g.head a)
chain_more g i [] j a h binds leaves = (binds, leaves ∙ sym h, refl)
chain_more g i (b ∷ chain) j a h binds leaves = (h.0, h.1, chain_more g (g.head b) chain j a h.2 binds leaves)

module _ (net : Net) (network : IsNetwork net) (rows : RowsValue) where
  found : (a : ℕ) → a < length net.activities → activity_place net (activity_at net a).id ≡ Some a
  found a below = key_is_found (λ (x : Activity). x.id.0) net.activities network.formed.activities_ascend (activity_at net a).id.0 a no_activity below refl

  some_place : (a b : ℕ) → (◌≡◌ {A = Option ℕ} (Some a) (Some b)) → a ≡ b
  some_place a b e = cc

  -- the way back begins at the start
  pub back_begins : (start : ℕ) (ids : List ActId) → IsFirstTail net ids (Some start) → ShowsCycle net rows ids → LeadsBack net rows start ids 0 start
  back_begins start ids first shows = at ids shows.places shows.is_cycle first shows.named
    where
      at : (ids : List ActId) (places : List ℕ) → IsCycle (active_arcs net rows) places → IsFirstTail net ids (Some start) → ids ≡ ids_of net places → LeadsBack net rows start ids 0 start
      at ids [] cyc f named = absurd cyc
      at [] (a ∷ rest) cyc f named = absurd (let e : length {A = ActId} [] ≡ length (ids_of net (a ∷ rest)) = ap length named in omega arith)
      at (id ∷ more) (a ∷ rest) cyc f named =
          let same : id ≡ (activity_at net a).id = cc in
          let place : f.0 ≡ a = some_place f.0 a (sym f.1 ∙ (ap (activity_place net) same ∙ found a cyc.0.is_arc)) in
          let tail : (activity_at net a).tail ≡ start = ap (λ b. (activity_at net b).tail) (sym place) ∙ f.2 in
          record {
            left = a ∷ rest;
            leads = (cyc.0, tail, subst (λ (j : ℕ). Chain (active_arcs net rows) (activity_at net a).head rest j) tail cyc.2);
            named = sym named;
          }

  pub back_goes : (start : ℕ) (ids : List ActId) (n at next : ℕ) (id : ActId) (more : List ActId) → drop n ids ≡ id ∷ more → drop (n + 1) ids ≡ more → LeadsBack net rows start ids n at → LeadsBy net rows at id next →
      LeadsBack net rows start ids (n + 1) next
  back_goes start ids n at next id more here rest back by = on back.left back.leads (back.named ∙ here)
    where
      on : (left : List ℕ) → Chain (active_arcs net rows) at left start → ids_of net left ≡ id ∷ more → LeadsBack net rows start ids (n + 1) next
      on [] leads named = absurd (let e : length (ids_of net []) ≡ length (id ∷ more) = ap length named in omega arith)
      on (b ∷ left) leads named =
          let same : (activity_at net b).id ≡ id = cc in
          let place : by.act ≡ b = some_place by.act b (sym by.named ∙ (ap (activity_place net) (sym same) ∙ found b leads.0.is_arc)) in
          let head : (activity_at net b).head ≡ next = ap (λ k. (activity_at net k).head) (sym place) ∙ by.enters in
          record {
            left = left;
            leads = subst (λ (k : ℕ). Chain (active_arcs net rows) k left start) head leads.2;
            named = (let tail : ids_of net left ≡ more = cc in tail) ∙ sym rest;
          }

  -- where an id leads nowhere there is no way back
  pub no_way : (start : ℕ) (ids : List ActId) (n at : ℕ) (id : ActId) (more : List ActId) → drop n ids ≡ id ∷ more → LeadsBack net rows start ids n at → ((to : ℕ) → LeadsBy net rows at id to → ⊥) → ⊥
  no_way start ids n at id more here back none = on back.left back.leads (back.named ∙ here)
    where
      on : (left : List ℕ) → Chain (active_arcs net rows) at left start → ids_of net left ≡ id ∷ more → ⊥
      on [] leads named = absurd (let e : length (ids_of net []) ≡ length (id ∷ more) = ap length named in omega arith)
      on (b ∷ left) leads named =
          let same : (activity_at net b).id ≡ id = cc in
          none (activity_at net b).head (record {
            act = b;
            named = ap (activity_place net) (sym same) ∙ found b leads.0.is_arc;
            active = leads.0.is_held;
            leaves = leads.1;
            enters = refl;
          })

  some_none : {A : Type 0} {x : A} → Some x ≡ None → ⊥
  some_none e = cc

  -- no id, or no activity of the first one
  pub no_first : (ids : List ActId) → IsFirstTail net ids None → ShowsCycle net rows ids → ⊥
  no_first ids first shows = at ids shows.places shows.is_cycle first shows.named
    where
      at : (ids : List ActId) (places : List ℕ) → IsCycle (active_arcs net rows) places → IsFirstTail net ids None → ids ≡ ids_of net places → ⊥
      at ids [] cyc f named = cyc
      at [] (a ∷ rest) cyc f named = absurd (let e : length {A = ActId} [] ≡ length (ids_of net (a ∷ rest)) = ap length named in omega arith)
      at (id ∷ more) (a ∷ rest) cyc f named =
          let same : id ≡ (activity_at net a).id = cc in
          some_none (sym (ap (activity_place net) same ∙ found a cyc.0.is_arc) ∙ f)

  -- ---- the walk itself

  pub walk_begins : (start : ℕ) (ids : List ActId) → HasWalked net rows start ids 0 start
  walk_begins start ids = record { places = []; leads = refl; named = refl }

  record IsNamed (id : ActId) (act : ℕ) : Type 0 where
    below : act < length net.activities
    is : (activity_at net act).id ≡ id

  named_is : (id : ActId) (act : ℕ) → activity_place net id ≡ Some act → IsNamed id act
  named_is id act e =
      let at = position-Some (λ (x : Activity). eqb x.id.0 id.0) net.activities act no_activity e in
      record { below = at.0; is = ap (λ (n : ℕ). act_id n) (eqb-true (activity_at net act).id.0 id.0 at.1) }
    where
      act_id : ℕ → ActId
      act_id n = record { 0 = n }

  pub walk_goes : (start : ℕ) (ids : List ActId) (n at next : ℕ) (d : ActId) → n < length ids → HasWalked net rows start ids n at → LeadsBy net rows at (get_or ids n d) next → HasWalked net rows start ids (n + 1) next
  walk_goes start ids n at next d below walked by =
      let is = named_is (get_or ids n d) by.act by.named in
      let binds : Binds (active_arcs net rows) by.act = record {
        is_arc = is.below;
        is_held = by.active;
        from_event = network.formed.ends_are_known.tails by.act is.below;
        to_event = network.formed.ends_are_known.heads by.act is.below;
      } in
      record {
        places = walked.places ++ by.act ∷ [];
        leads = subst (λ (j : ℕ). Chain (active_arcs net rows) start (walked.places ++ by.act ∷ []) j) by.enters (chain_more (active_arcs net rows) start walked.places at by.act walked.leads binds by.leaves);
        named = map-append (λ a. (activity_at net a).id) walked.places (by.act ∷ []) ∙ (ap (λ xs. xs ++ (activity_at net by.act).id ∷ []) walked.named ∙ (ap (λ x. take n ids ++ x ∷ []) is.is ∙ sym (take_more ids n d below)));
      }

  pub walk_ends : (start : ℕ) (ids : List ActId) (n at : ℕ) (b : Bool) → b ≡ eqb at start → IsFirstTail net ids (Some start) → length ids ≤ n → HasWalked net rows start ids n at →
      (ShowsCycle net rows ids → LeadsBack net rows start ids n at) → Tells (ShowsCycle net rows ids) b
  walk_ends start ids n at true e first all walked back = closed walked.places walked.leads (walked.named ∙ take_all n ids all)
    where
      home : at ≡ start
      home = eqb-true at start (sym e)

      closed : (places : List ℕ) → Chain (active_arcs net rows) start places at → ids_of net places ≡ ids → ShowsCycle net rows ids
      closed [] leads named = absurd (none ids first named)
        where
          none : (ids : List ActId) → IsFirstTail net ids (Some start) → [] ≡ ids → ⊥
          none [] f e = some_none f
          none (id ∷ more) f e = absurd (let k : length {A = ActId} [] ≡ length (id ∷ more) = ap length e in omega arith)
      closed (a ∷ rest) leads named = record {
        places = a ∷ rest;
        is_cycle = (leads.0, refl, subst (λ (j : ℕ). Chain (active_arcs net rows) (activity_at net a).head rest j) (home ∙ sym leads.1) leads.2);
        named = sym named;
      }
  walk_ends start ids n at false e first all walked back = λ shows.
      let b = back shows in
      let same : at ≡ start = done b.left b.leads (b.named ∙ drop_all n ids all) in
      let yes : eqb at start ≡ true = eq-eqb at start same in
      absurd (let f : false ≡ true = e ∙ yes in cc)
    where
      done : (left : List ℕ) → Chain (active_arcs net rows) at left start → ids_of net left ≡ [] → at ≡ start
      done [] leads named = leads
      done (a ∷ left) leads named = absurd (let k : length (ids_of net (a ∷ left)) ≡ length {A = ActId} [] = ap length named in omega arith)
