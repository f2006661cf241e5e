-- How the passes of a round are put together.
use Rattle.std.proofs.Common.{◌≡◌, ℕ, ◌==◌, ◌+◌, cond, ltb, Bool, true, false, List, [], ◌∷◌, ◌++◌, length, sym, ap, subst, ◌∙◌, arith, add-zero, length-append}
use Rattle.std.proofs.lemmas.List.{map-append}
use Rattle.std.proofs.lemmas.List.Elements.{All-nil, All-push, All-weaker}
use Rattle.std.proofs.lemmas.List.Sums.{sum_by-append, sum_by-cons}
use mathlib.Core.List.{IsPrefix}
use Rattle.dm_rows.specs.declared.messages.Entry.{Entry}
use Rattle.dm_rows.specs.History.{IsLegal}
use Rattle.dm_desk.specs.Answered.{times}
use Rattle.dm_server.specs.declared.kept.Base.{Base}
use Rattle.dm_turn.specs.declared.view.Numbered.{Numbered}
use Rattle.dm_turn.specs.Passes.{PassValue, longer}
use Rattle.dm_turn.proofs.Fronts.{prefix_self, prefix_trans}
use Rattle.dm_crew.specs.Passes.{numbers_in}
use Rattle.dm_crew.specs.Inside.Works.{IsGathered}

abbrev pub with_parts : PassValue Base → ℕ → List Entry → List Numbered → PassValue Base
with_parts pass room seen mine = record pass { room = room; seen = seen; mine = mine }

pub none_gathered : (base : Base) (start : PassValue Base) → IsLegal base.network base.start start.seen → IsGathered base start start []
none_gathered base start legal = record {
  same = ap (λ (r : ℕ). with_parts start r start.seen start.mine) (sym (add-zero start.room));
  later = prefix_self start.seen;
  latest = All-nil (λ (pass : PassValue Base). IsPrefix pass.seen start.seen);
  legal = legal;
  mine = λ n. sym (add-zero (times n (numbers_in start.mine)));
}

one_of_both : (F : List Entry → Type 0) (b : Bool) (xs ys : List Entry) → F xs → F ys → F (cond b ys xs)
one_of_both F true xs ys p q = q
one_of_both F false xs ys p q = p

numbers_of_both : (n : ℕ) (xs ys : List Numbered) → times n (numbers_in (xs ++ ys)) ≡ times n (numbers_in xs) + times n (numbers_in ys)
numbers_of_both n xs ys = ap (times n) (map-append (λ m. m.number) xs ys) ∙ sum_by-append (λ (m : ℕ). cond (m == n) 1 0) (numbers_in xs) (numbers_in ys)

pub one_gathered : (base : Base) (start now next : PassValue Base) (passes : List (PassValue Base)) (pass : PassValue Base) → IsGathered base start now passes → pass.room ≡ 1 → IsLegal base.network base.start pass.seen
    → next ≡ record now { room = now.room + pass.room; seen = longer now.seen pass.seen; mine = now.mine ++ pass.mine } → IsPrefix now.seen next.seen × IsPrefix pass.seen next.seen → IsGathered base start next (passes ++ pass ∷ [])
one_gathered base start now next passes pass g one legal joined prefixes =
    let seen : next.seen ≡ longer now.seen pass.seen = ap (λ (p : PassValue Base). p.seen) joined in
    let mine : next.mine ≡ now.mine ++ pass.mine = ap (λ (p : PassValue Base). p.mine) joined in
    let rooms : now.room ≡ start.room + length passes = ap (λ (p : PassValue Base). p.room) g.same in
    let room : now.room + pass.room ≡ start.room + length (passes ++ pass ∷ []) = omega (arith, rooms, one, length-append passes (pass ∷ [])) in
    let whole : next ≡ with_parts start (now.room + pass.room) (longer now.seen pass.seen) (now.mine ++ pass.mine) = joined ∙ ap (λ (p : PassValue Base). with_parts p (now.room + pass.room) (longer now.seen pass.seen) (now.mine ++ pass.mine)) g.same in
    record {
      same =
          whole
          ∙ (ap (λ (r : ℕ). with_parts start r (longer now.seen pass.seen) (now.mine ++ pass.mine)) room
          ∙ (ap (λ (s : List Entry). with_parts start (start.room + length (passes ++ pass ∷ [])) s (now.mine ++ pass.mine)) (sym seen)
          ∙ ap (λ (m : List Numbered). with_parts start (start.room + length (passes ++ pass ∷ [])) next.seen m) (sym mine)));
      later = prefix_trans start.seen now.seen next.seen g.later prefixes.0;
      latest =
          All-push (λ (p : PassValue Base). IsPrefix p.seen next.seen) passes pass
          (All-weaker (λ (p : PassValue Base). IsPrefix p.seen now.seen) (λ (p : PassValue Base). IsPrefix p.seen next.seen) (λ p before. prefix_trans p.seen now.seen next.seen before prefixes.0) passes g.latest) prefixes.1;
      legal = subst (λ (s : List Entry). IsLegal base.network base.start s) (sym seen) (one_of_both (IsLegal base.network base.start) (ltb (length now.seen) (length pass.seen)) now.seen pass.seen g.legal legal);
      mine = λ n.
          let both = ap (λ (m : List Numbered). times n (numbers_in m)) mine ∙ numbers_of_both n now.mine pass.mine in
          let sums = sum_by-append (λ (p : PassValue Base). times n (numbers_in p.mine)) passes (pass ∷ []) in
          let last = sum_by-cons (λ (p : PassValue Base). times n (numbers_in p.mine)) pass [] in
          omega (arith, both, g.mine n, sums, last);
    }
