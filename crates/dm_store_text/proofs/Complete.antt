-- A true book is refused for want of memory or of room alone.
use Rattle.std.proofs.Common.{◌≡◌, ◌⊎◌, inl, inr, ℕ, ◌≤◌, List, [], ◌∷◌, ◌++◌, length, map, Some, None, refl, sym, ap, subst, ◌∙◌, arith, length-append, slice_get, All, codes}
use Rattle.std.specs.Fmt.{decimal}
use Rattle.std.proofs.lemmas.List.Elements.{All-head, All-tail}
use Rattle.dm_base.specs.declared.limits.TheConstants.{FEEDS, PENALTY}
use Rattle.dm_text.proofs.Reading.{behind_back}
use Rattle.dm_feed.specs.Parts.{largest_id, largest_value}
use Rattle.dm_cert.specs.declared.limits.TheConstants.{PLANS}
use Rattle.dm_cert.specs.declared.replies.LogItem.{LogItem}
use Rattle.dm_cert.specs.Answers.{Setting}
use Rattle.dm_cert.proofs.DecisionsRead.{number_behind_back}
use Rattle.dm_check.specs.declared.verdicts.BadKind.{BadKind}
use Rattle.dm_store.specs.Blocks.{refusal}
use Rattle.dm_tape.specs.Laws.{IsKeptPart}
use Rattle.dm_tape.specs.Rounds.{IsTapeRound, round_text}
use Rattle.dm_book.specs.Books.{Book, IsTrueBook, head_text}
use Rattle.dm_book.proofs.Growing.{in_one}
use Rattle.dm_restore.specs.Heads.{IsHead}
use Rattle.dm_restore.specs.Restoring.{HasOtherHead, IsFalseBook, IsMisshapenBehind, IsNoRound, IsRestored, RefusesBook}
use Rattle.dm_restore.specs.declared.heads.Head.{Head}
use Rattle.dm_restore.specs.declared.stops.RestoreStop.{RestoreStop}
use Rattle.dm_restore.specs.declared.stops.RestoreStop.TheVariants as stop
use Rattle.dm_restore.specs.Inside.HeadLines.{head_in, head_of}
use Rattle.dm_store_text.specs.Laws.{TrueBooksAreNotRefused}

-- ---- heads

-- what stands behind each number of a head
abbrev behind_plans : ℕ → List ℕ
behind_plans feeds = codes "\nfeeds " ++ (decimal feeds ++ codes "\n")

abbrev behind_penalty : ℕ → ℕ → List ℕ
behind_penalty plans feeds = codes "\nplans " ++ (decimal plans ++ behind_plans feeds)

spelled_so : (penalty plans feeds : ℕ) → head_text penalty plans feeds ≡ codes "dm-store 1\npenalty " ++ (decimal penalty ++ behind_penalty plans feeds)
unfolding head_text
spelled_so penalty plans feeds = refl

head_back : (penalty plans feeds : ℕ) → penalty ≤ largest_value → plans ≤ largest_id → feeds ≤ largest_id → head_in (head_text penalty plans feeds) ≡ Some (head_of penalty plans feeds)
head_back penalty plans feeds p q r =
    ap head_in (spelled_so penalty plans feeds)
    ∙ rw (
      number_behind_back largest_value penalty (codes "dm-store 1\npenalty ") (behind_penalty plans feeds) p (omega arith) refl,
      number_behind_back largest_id plans (codes "\nplans ") (behind_plans feeds) q (omega arith) refl,
      number_behind_back largest_id feeds (codes "\nfeeds ") (codes "\n") r (omega arith) refl,
      behind_back (codes "\n") [],
    ) refl

some_same : {X : Type 0} {x y : X} → Some x ≡ Some y → x ≡ y
some_same e = cc

head_is_one : (content : List ℕ) (p q r a b c : ℕ) → IsHead p q r content → IsHead a b c content → head_of p q r ≡ head_of a b c
head_is_one content p q r a b c one other =
    some_same (sym (head_back p q r one.penalty_fits one.plans_fit one.feeds_fit) ∙ (ap head_in (sym one.spelled ∙ other.spelled) ∙ head_back a b c other.penalty_fits other.plans_fit other.feeds_fit))

none_some : {X : Type 0} (x : X) → None ≡ Some x → ⊥
none_some x e = cc

no_items : {X : Type 0} (before behind : List X) (x : X) → [] ≡ before ++ x ∷ behind → ⊥
no_items before behind x e = omega (arith, ap length e, length-append before (x ∷ behind))

head_same : {X : Type 0} {x y : X} {xs ys : List X} → x ∷ xs ≡ y ∷ ys → x ≡ y
head_same e = cc

tail_same : {X : Type 0} {x y : X} {xs ys : List X} → x ∷ xs ≡ y ∷ ys → xs ≡ ys
tail_same e = cc

-- ---- rounds

-- a block that is a round's text has the form of one
in_rounds : (feeds : ℕ) (content : List ℕ) (behind : List (List ℕ)) (rounds : List (List (List LogItem))) (before : List (List ℕ)) → before ++ content ∷ behind ≡ map round_text rounds
    → All (λ round. length round ≡ feeds) rounds → All (All IsKeptPart) rounds → IsNoRound feeds content → ⊥
in_rounds feeds content behind [] before e whole kept none = no_items before behind content (sym e)
in_rounds feeds content behind (round ∷ rounds) [] e whole kept none =
    let size = All-head (λ (r : List (List LogItem)). length r ≡ feeds) round rounds whole in
    let parts = All-head (All IsKeptPart) round rounds kept in
    let tape : IsTapeRound round = λ i d low j x below. ((parts i d low).items_are j x below).in_print in
    none round size tape (head_same e)
in_rounds feeds content behind (round ∷ rounds) (first ∷ before) e whole kept none =
    in_rounds feeds content behind rounds before (tail_same e) (All-tail (λ (r : List (List LogItem)). length r ≡ feeds) round rounds whole) (All-tail (All IsKeptPart) round rounds kept) none

module _ (s : Setting) (feeds : ℕ) (contents : List (List ℕ)) (book : Book) (low : s.penalty ≤ PENALTY) (few : s.plans ≤ PLANS) (some : feeds ≤ FEEDS) (restored : IsRestored s feeds contents book) where
  is_head : IsHead s.penalty s.plans feeds (head_text s.penalty s.plans feeds)
  is_head = record { spelled = refl; penalty_fits = omega (arith, low); plans_fit = omega (arith, few); feeds_fit = omega (arith, some) }

  -- the blocks of a book: there is none, or the first is the head
  blocks : (contents ≡ []) ⊎ ((rounds : List (List (List LogItem))) × (contents ≡ head_text s.penalty s.plans feeds ∷ map round_text rounds) × All (λ round. length round ≡ feeds) rounds × All (All IsKeptPart) rounds)
  blocks = elim restored.is_in [
    | inl none ↦ inl none.none
    | inr r ↦
        inr (
          r.rounds,
          r.blocks ∙ ap (λ (n : ℕ). head_text s.penalty s.plans n ∷ map round_text r.rounds) restored.as_many,
          subst (λ (n : ℕ). All (λ (round : List (List LogItem)). length round ≡ n) r.rounds) restored.as_many r.whole,
          r.kept,
        )
  ]

  no_other_head : HasOtherHead s feeds contents → ⊥
  no_other_head h =
      elim blocks [
        | inl none ↦ none_some h.content (sym (ap (λ (c : List (List ℕ)). slice_get c 0) none) ∙ h.stands)
        | inr b ↦
            let first : head_text s.penalty s.plans feeds ≡ h.content = some_same (sym (ap (λ (c : List (List ℕ)). slice_get c 0) b.1) ∙ h.stands) in
            let here : IsHead s.penalty s.plans feeds h.content = subst (IsHead s.penalty s.plans feeds) first is_head in
            let one = head_is_one h.content h.other.penalty h.other.plans h.other.others s.penalty s.plans feeds h.other.is_head here in
            h.other.differs (ap (λ (x : Head). x.penalty) one) (ap (λ (x : Head). x.plans) one) (ap (λ (x : Head). x.feeds) one)
      ]

  in_form : (before behind : List (List ℕ)) (content : List ℕ) → contents ≡ before ++ content ∷ behind → IsMisshapenBehind feeds before content → ⊥
  in_form [] behind content e misshapen =
      elim blocks [
        | inl none ↦ no_items [] behind content (sym none ∙ e)
        | inr b ↦
            let first : head_text s.penalty s.plans feeds ≡ content = head_same (sym b.1 ∙ e) in
            misshapen s.penalty s.plans feeds (subst (IsHead s.penalty s.plans feeds) first is_head)
      ]
  in_form (first ∷ before) behind content e misshapen =
      elim blocks [
        | inl none ↦ no_items (first ∷ before) behind content (sym none ∙ e)
        | inr b ↦ in_rounds feeds content behind b.0 before (tail_same (sym e ∙ b.1)) b.2 b.3 misshapen
      ]

  no_false_book : (line : ℕ) (kind : BadKind) → IsFalseBook s feeds contents line kind → ⊥
  no_false_book line kind h =
      let mine : Book = record { history = book.history; logs = h.logs } in
      let same : h.logs ≡ book.logs = in_one s contents mine book (h.is_run.as_many ∙ sym restored.as_many) h.is_run.is_in restored.is_in in
      h.is_false book.history (subst (λ (l : List (List LogItem)). IsTrueBook s (record { history = book.history; logs = l })) (sym same) restored.is_true)

  pub not_refused : (file end : List ℕ) (why : RestoreStop) → refusal contents end ≡ None → RefusesBook s feeds file contents end why → (why ≡ stop.OutOfMemory) ⊎ (why ≡ stop.Full)
  not_refused file end stop.OutOfMemory none h = inl refl
  not_refused file end stop.Full none h = inr refl
  not_refused file end stop.Head none h = absurd (no_other_head h)
  not_refused file end (stop.Form number) none (inl h) = absurd (in_form h.before h.behind h.content h.stands h.misshapen)
  not_refused file end (stop.Form number) none (inr h) = absurd (h.refused none)
  not_refused file end (stop.Bad line kind) none h = absurd (no_false_book line kind h)

pub true_books_are_not_refused : TrueBooksAreNotRefused
true_books_are_not_refused s feeds file contents end book why low few some restored none h = not_refused s feeds contents book low few some restored file end why none h
