-- Each judge tells one thing alone, where what it is made of does.
use Rattle.std.proofs.Common.{◌≡◌, ◌≢◌, ℕ, zero, suc, List, [], ◌∷◌, ◌++◌, Result, Ok, Err, refl, sym, ap, subst, ◌∙◌, inl, inr, arith}
use Rattle.dm_text.specs.Places.{Place, IsLineAt, IsCutAt, HasNoLineFeed}
use Rattle.dm_text.specs.Judging.{Line, Then, Times, Demands, Finds, Gives, GoesOn, IsSingle}

no_feed_first : (c : ℕ) (bytes : List ℕ) → HasNoLineFeed (c ∷ bytes) → c ≢ 10
no_feed_first c bytes none = none 0 0 (omega arith)

no_feed_rest : (c : ℕ) (bytes : List ℕ) → HasNoLineFeed (c ∷ bytes) → HasNoLineFeed bytes
no_feed_rest c bytes none = λ k d below. none (suc k) d (omega arith)

-- a text with an LF is cut at it in one way
pub record IsSameCut (one rest other behind : List ℕ) : Type 0 where
  pub front : one ≡ other
  pub back : rest ≡ behind

pub one_cut : (one rest other behind : List ℕ) → HasNoLineFeed one → HasNoLineFeed other → one ++ 10 ∷ rest ≡ other ++ 10 ∷ behind → IsSameCut one rest other behind
one_cut [] rest [] behind p q e = record { front = refl; back = cc }
one_cut [] rest (c ∷ other) behind p q e = let first : 10 ≡ c = cc in absurd (no_feed_first c other q (sym first))
one_cut (c ∷ one) rest [] behind p q e = let first : c ≡ 10 = cc in absurd (no_feed_first c one p first)
one_cut (c ∷ one) rest (d ∷ other) behind p q e =
    let first : c ≡ d = cc in
    let more = one_cut one rest other behind (no_feed_rest c one p) (no_feed_rest d other q) cc in
    record { front = let tail = more.front in cc; back = more.back }

pub is_place : (p q : Place) → p.left ≡ q.left → p.line ≡ q.line → p ≡ q
is_place p q left line =
    let P : List ℕ → ℕ → Place = λ l n. record { left = l; line = n } in
    ap (λ l. P l p.line) left ∙ ap (λ n. P q.left n) line

pub record IsSameLine (one other : List ℕ) (next behind : Place) : Type 0 where
  pub bytes : one ≡ other
  pub place : next ≡ behind

pub one_line : (place : Place) (one other : List ℕ) (next behind : Place) → IsLineAt place one next → IsLineAt place other behind → IsSameLine one other next behind
one_line place one other next behind p q =
    let cut = one_cut one next.left other behind.left p.one_line q.one_line (sym p.whole ∙ q.whole) in
    record { bytes = cut.front; place = is_place next behind cut.back (p.counted ∙ sym q.counted) }

has_feed : (bytes rest : List ℕ) → HasNoLineFeed (bytes ++ 10 ∷ rest) → ⊥
has_feed [] rest none = no_feed_first 10 rest none refl
has_feed (c ∷ bytes) rest none = has_feed bytes rest (no_feed_rest c (bytes ++ 10 ∷ rest) none)

pub whole_or_cut : (place : Place) (bytes : List ℕ) (next : Place) → IsLineAt place bytes next → IsCutAt place → ⊥
whole_or_cut place bytes next line cut = has_feed bytes next.left (subst HasNoLineFeed line.whole cut)

-- bytes spell at most one value
abbrev pub SpellOne : {V : Type 0} → (V → List ℕ → Type 0) → Type 0
SpellOne {V} spells = (bytes : List ℕ) (v w : V) → spells v bytes → spells w bytes → v ≡ w

pub line_one : {V F : Type 0} (cut misshapen : ℕ → F) (spells : V → List ℕ → Type 0) → SpellOne spells → IsSingle (Line cut misshapen spells)
line_one cut misshapen spells one place (Ok (v, next)) (Ok (w, behind)) p q =
    let same = one_line place p.bytes q.bytes next behind p.stands q.stands in
    let value : v ≡ w = one q.bytes v w (subst (λ b. spells v b) same.bytes p.spelled) q.spelled in
    let at = same.place in
    cc
line_one cut misshapen spells one place (Ok (v, next)) (Err f) p (inl q) = absurd (whole_or_cut place p.bytes next p.stands q.0)
line_one cut misshapen spells one place (Ok (v, next)) (Err f) p (inr q) =
    let same = one_line place p.bytes q.0.bytes next q.0.next p.stands q.0.stands in
    absurd (q.0.none v (subst (λ b. spells v b) same.bytes p.spelled))
line_one cut misshapen spells one place (Err f) (Ok (w, behind)) (inl p) q = absurd (whole_or_cut place q.bytes behind q.stands p.0)
line_one cut misshapen spells one place (Err f) (Ok (w, behind)) (inr p) q =
    let same = one_line place q.bytes p.0.bytes behind p.0.next q.stands p.0.stands in
    absurd (p.0.none w (subst (λ b. spells w b) same.bytes q.spelled))
line_one cut misshapen spells one place (Err f) (Err g) (inl p) (inl q) = ap Err (p.1 ∙ sym q.1)
line_one cut misshapen spells one place (Err f) (Err g) (inl p) (inr q) = absurd (whole_or_cut place q.0.bytes q.0.next q.0.stands p.0)
line_one cut misshapen spells one place (Err f) (Err g) (inr p) (inl q) = absurd (whole_or_cut place p.0.bytes p.0.next p.0.stands q.0)
line_one cut misshapen spells one place (Err f) (Err g) (inr p) (inr q) = ap Err (p.1 ∙ sym q.1)

ok_same : {A F : Type 0} (a b : A) → (◌≡◌ {A = Result A F} (Ok a) (Ok b)) → a ≡ b
ok_same a b e = cc

goes_one : {V W F : Type 0} (first : Place → Result (V × Place) F → Type 0) (next : V → Place → Result (W × Place) F → Type 0) →
    IsSingle first → ((v : V) → IsSingle (next v)) → (place : Place) (a b : Result (W × Place) F) →
    GoesOn first next place a → GoesOn first next place b → a ≡ b
goes_one {V} {W} {F} first next f n place a b p q =
    let same = ok_same {F = F} (p.value, p.behind) (q.value, q.behind) (f place (Ok (p.value, p.behind)) (Ok (q.value, q.behind)) p.told q.told) in
    n q.value q.behind a b (subst (λ (vb : V × Place). next vb.0 vb.1 a) same p.then) q.then

stops_or_goes : {V W F : Type 0} (first : Place → Result (V × Place) F → Type 0) (next : V → Place → Result (W × Place) F → Type 0) →
    IsSingle first → (place : Place) (b : Result (W × Place) F) (fault : F) → GoesOn first next place b → first place (Err fault) → ⊥
stops_or_goes first next f place b fault p q = let e = f place (Ok (p.value, p.behind)) (Err fault) p.told q in cc

pub then_one : {V W F : Type 0} (first : Place → Result (V × Place) F → Type 0) (next : V → Place → Result (W × Place) F → Type 0) →
    IsSingle first → ((v : V) → IsSingle (next v)) → IsSingle (Then first next)
then_one first next f n place (Ok w) (Ok v) p q = goes_one first next f n place (Ok w) (Ok v) p q
then_one first next f n place (Ok w) (Err g) p (inl q) = absurd (stops_or_goes first next f place (Ok w) g p q)
then_one first next f n place (Ok w) (Err g) p (inr q) = goes_one first next f n place (Ok w) (Err g) p q
then_one first next f n place (Err g) (Ok w) (inl p) q = absurd (stops_or_goes first next f place (Ok w) g q p)
then_one first next f n place (Err g) (Ok w) (inr p) q = goes_one first next f n place (Err g) (Ok w) p q
then_one first next f n place (Err g) (Err h) (inl p) (inl q) = let e = f place (Err g) (Err h) p q in cc
then_one first next f n place (Err g) (Err h) (inl p) (inr q) = absurd (stops_or_goes first next f place (Err h) g q p)
then_one first next f n place (Err g) (Err h) (inr p) (inl q) = absurd (stops_or_goes first next f place (Err g) h p q)
then_one first next f n place (Err g) (Err h) (inr p) (inr q) = goes_one first next f n place (Err g) (Err h) p q

pub gives_one : {V F : Type 0} (value : V) → IsSingle (Gives {V = V} {F = F} value)
gives_one value place (Ok (v, next)) (Ok (w, behind)) p q = let a = p.0 ∙ sym q.0 in let b = p.1 ∙ sym q.1 in cc
gives_one value place (Ok (v, next)) (Err f) p q = absurd q
gives_one value place (Err f) b p q = absurd p

-- the rule holds of one value at most
pub finds_one : {V F : Type 0} (rule : V → Type 0) (fault : F) → ((v w : V) → rule v → rule w → v ≡ w) → IsSingle (Finds rule fault)
finds_one rule fault one place (Ok (v, next)) (Ok (w, behind)) p q = let a = one v w p.0 q.0 in let b = p.1 ∙ sym q.1 in cc
finds_one rule fault one place (Ok (v, next)) (Err f) p q = absurd (q.0 v p.0)
finds_one rule fault one place (Err f) (Ok (w, behind)) p q = absurd (p.0 w q.0)
finds_one rule fault one place (Err f) (Err g) p q = ap Err (p.1 ∙ sym q.1)

pub demands_one : {V F : Type 0} (rule : Type 0) (fault : F) (value : V) → IsSingle (Demands rule fault value)
demands_one rule fault value place (Ok (v, next)) (Ok (w, behind)) p q = let a = p.1 ∙ sym q.1 in let b = p.2 ∙ sym q.2 in cc
demands_one rule fault value place (Ok (v, next)) (Err f) p q = absurd (q.0 p.0)
demands_one rule fault value place (Err f) (Ok (w, behind)) p q = absurd (p.0 q.0)
demands_one rule fault value place (Err f) (Err g) p q = ap Err (p.1 ∙ sym q.1)

pub times_one : {V F : Type 0} (step : List V → Place → Result (V × Place) F → Type 0) → ((before : List V) → IsSingle (step before)) →
    (n : ℕ) (before : List V) → IsSingle (Times n step before)
times_one step one zero before = gives_one before
times_one step one (suc n) before = then_one (step before) (λ v. Times n step (before ++ v ∷ [])) (one before) (λ v. times_one step one n (before ++ v ∷ []))
