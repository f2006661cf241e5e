-- A head is read where it stands, and nowhere else.
use Rattle.std.proofs.Common.{◌≡◌, ℕ, ◌≤◌, List, [], ◌∷◌, ◌++◌, Option, Some, None, refl, sym, ap, subst, ◌∙◌, arith, codes}
use Rattle.std.specs.Fmt.{decimal}
use Rattle.dm_text.specs.Inside.Parts.{behind}
use Rattle.dm_text.proofs.Reading.{behind_is, behind_back}
use Rattle.dm_feed.specs.Parts.{largest_id, largest_value}
use Rattle.dm_cert.specs.Inside.PlanLines.{number_behind}
use Rattle.dm_cert.proofs.Options.{and_then_some, map_some}
use Rattle.dm_cert.proofs.DecisionsRead.{number_behind_back, number_behind_is}
use Rattle.dm_book.specs.Books.{head_text}
use Rattle.dm_restore.specs.declared.heads.Head.{Head}
use Rattle.dm_restore.specs.Heads.{IsHead, IsNoHead, ReadsHead}
use Rattle.dm_restore.specs.Inside.HeadLines.{head_of, feeds_in, plans_in, numbers_in, at_end, head_in}

-- what stands behind each number of a head
abbrev behind_feeds : List ℕ
behind_feeds = codes "\n"

abbrev behind_plans : ℕ → List ℕ
behind_plans feeds = codes "\nfeeds " ++ (decimal feeds ++ behind_feeds)

abbrev behind_penalty : ℕ → ℕ → List ℕ
behind_penalty plans feeds = codes "\nplans " ++ (decimal plans ++ behind_plans feeds)

spelled_so : (penalty plans feeds : ℕ) → head_text penalty plans feeds ≡ codes "dm-store 1\npenalty " ++ (decimal penalty ++ behind_penalty plans feeds)
unfolding head_text
spelled_so penalty plans feeds = refl

head_back : (penalty plans feeds : ℕ) → penalty ≤ largest_value → plans ≤ largest_id → feeds ≤ largest_id →
    head_in (head_text penalty plans feeds) ≡ Some (head_of penalty plans feeds)
head_back penalty plans feeds p q r =
    ap head_in (spelled_so penalty plans feeds)
    ∙ rw (
      number_behind_back largest_value penalty (codes "dm-store 1\npenalty ") (behind_penalty plans feeds) p (omega arith) refl,
      number_behind_back largest_id plans (codes "\nplans ") (behind_plans feeds) q (omega arith) refl,
      number_behind_back largest_id feeds (codes "\nfeeds ") behind_feeds r (omega arith) refl,
      behind_back (codes "\n") [],
    ) refl

end_is : (head one : Head) (o : Option (List ℕ)) → at_end head o ≡ Some one → (o ≡ Some []) × (head ≡ one)
end_is head one (Some []) e = (refl, let same : head ≡ one = cc in same)
end_is head one (Some (c ∷ rest)) e = absurd (let no : ◌≡◌ {A = Option Head} None (Some one) = e in cc)
end_is head one None e = absurd (let no : ◌≡◌ {A = Option Head} None (Some one) = e in cc)

head_is : (content : List ℕ) (one : Head) → head_in content ≡ Some one → IsHead one.penalty one.plans one.feeds content
unfolding head_text
head_is content one e =
    let end = and_then_some {A = Head × List ℕ} (λ p. at_end p.0 (behind (codes "\n") p.1)) (numbers_in content) one e in
    let last = end_is end.value.0 one (behind (codes "\n") end.value.1) end.gives in
    let line_end = behind_is (codes "\n") end.value.1 [] last.0 in
    let penalty = and_then_some {A = ℕ × List ℕ} (λ p. plans_in p.0 p.1) (number_behind largest_value (codes "dm-store 1\npenalty ") content) end.value end.some in
    let plans = and_then_some {A = ℕ × List ℕ} (λ q. feeds_in penalty.value.0 q.0 q.1) (number_behind largest_id (codes "\nplans ") penalty.value.1) end.value penalty.gives in
    let feeds = map_some {A = ℕ × List ℕ} (λ r. (head_of penalty.value.0 plans.value.0 r.0, r.1)) (number_behind largest_id (codes "\nfeeds ") plans.value.1) end.value plans.gives in
    let p = number_behind_is largest_value penalty.value.0 (codes "dm-store 1\npenalty ") content penalty.value.1 (omega arith) penalty.some in
    let q = number_behind_is largest_id plans.value.0 (codes "\nplans ") penalty.value.1 plans.value.1 (omega arith) plans.some in
    let r = number_behind_is largest_id feeds.value.0 (codes "\nfeeds ") plans.value.1 feeds.value.1 (omega arith) feeds.some in
    let head : head_of penalty.value.0 plans.value.0 feeds.value.0 ≡ one = ap (λ (x : Head × List ℕ). x.0) feeds.gives ∙ last.1 in
    let rest : feeds.value.1 ≡ codes "\n" ++ [] = ap (λ (x : Head × List ℕ). x.1) feeds.gives ∙ line_end in
    let found : IsHead penalty.value.0 plans.value.0 feeds.value.0 content = record {
      spelled =
          p.line_is
          ∙ ap (λ (xs : List ℕ). codes "dm-store 1\npenalty " ++ (decimal penalty.value.0 ++ xs)) (q.line_is
          ∙ ap (λ (xs : List ℕ). codes "\nplans " ++ (decimal plans.value.0 ++ xs)) (r.line_is
          ∙ ap (λ (xs : List ℕ). codes "\nfeeds " ++ (decimal feeds.value.0 ++ xs)) rest));
      penalty_fits = p.fits;
      plans_fit = q.fits;
      feeds_fit = r.fits;
    } in
    subst_head (head_of penalty.value.0 plans.value.0 feeds.value.0) one head found
  where
    subst_head : (a b : Head) → a ≡ b → IsHead a.penalty a.plans a.feeds content → IsHead b.penalty b.plans b.feeds content
    subst_head a b e h = subst (λ (x : Head). IsHead x.penalty x.plans x.feeds content) e h

no_head : (content : List ℕ) → head_in content ≡ None → IsNoHead content
no_head content none penalty plans feeds is =
    absurd (let some : None ≡ Some (head_of penalty plans feeds) = sym none ∙ (ap head_in is.spelled ∙ head_back penalty plans feeds is.penalty_fits is.plans_fit is.feeds_fit) in cc)

pub reads_head : (content : List ℕ) (o : Option Head) → o ≡ head_in content → ReadsHead content o
reads_head content (Some one) e = head_is content one (sym e)
reads_head content None e = no_head content (sym e)
