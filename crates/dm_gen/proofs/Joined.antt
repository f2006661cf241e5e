-- The activities of a day: each joins two events of it, and takes time by the schedule. A headway has its opposite.
use Rattle.std.proofs.Common.{ℕ, ◌≡◌, ◌+◌, ◌-◌, ◌*◌, ◌≤◌, ◌<◌, ◌⊎◌, inl, inr, true, false, List, [], ◌∷◌, ◌++◌, map, length, zero, suc, refl, ap, ◌∙◌, arith, get_or}
use Rattle.std.specs.List.{All, Contains, flat_map, range_with_len}
use Rattle.std.proofs.lemmas.List.Elements.{All-nil, All-cons, All-append, Contains-append_left, Contains-append_right}
use Rattle.dm_base.specs.declared.rows.ActRow.{ActRow}
use Rattle.dm_network.specs.Net.{is_headway}
use Rattle.dm_network.specs.Build.{activity_ids}
use Rattle.dm_gen.specs.declared.links.Link.{Link}
use Rattle.dm_gen.specs.Activities.{drive, wait, headway, headways_on_leg, change, links_of_train, headways_of_train, links_of, with_id, numbered_from, activities_of}
use Rattle.dm_gen.proofs.Ranges.{all_joined, all_mapped, contained_in_joined}
use Rattle.dm_gen.proofs.Sizing.{numbered_count}
use Rattle.dm_gen.proofs.Timed.{scheduled, departs, arrives}

-- the numbers of an activity between two events of a day
pub record HasNumbers (trains : ℕ) (link : Link) : Type 0 where
  pub from : 1 ≤ link.tail.0
  pub tail : link.tail.0 ≤ 20 * trains
  pub to : 1 ≤ link.head.0
  pub head : link.head.0 ≤ 20 * trains
  pub some : 1 ≤ link.lower
  pub lower : link.lower ≤ 300
  pub weight : link.weight ≤ 5000

-- it leads to a later event
pub record LeadsOn (link : Link) : Type 0 where
  pub other : is_headway link.kind ≡ false
  pub later : scheduled link.tail.0 < scheduled link.head.0

abbrev pub opposite : Link → Link
opposite link = record link { tail = link.head; head = link.tail }

-- it is a headway, as its opposite is
pub record LeadsBothWays (links : List Link) (link : Link) : Type 0 where
  pub headway : is_headway link.kind ≡ true
  pub apart : scheduled link.tail.0 ≡ scheduled link.head.0 → ⊥
  pub back : Contains links (opposite link)

pub record IsLinkOf (trains : ℕ) (links : List Link) (link : Link) : Type 0 where
  pub numbers : HasNumbers trains link
  pub leads : LeadsOn link ⊎ LeadsBothWays links link

module _ (trains : ℕ) (links : List Link) where
  of_drive : (train leg : ℕ) → train < trains → leg < 10 → IsLinkOf trains links (drive train leg)
  of_drive train leg of_train of_leg =
      let tail = departs train leg of_leg in
      let head = arrives train leg of_leg in
      record { numbers = omega arith; leads = inl (record { other = refl; later = omega arith }) }

  of_wait : (train leg : ℕ) → train < trains → leg < 9 → IsLinkOf trains links (wait train leg)
  of_wait train leg of_train of_leg =
      let tail = arrives train leg (omega arith) in
      let head = departs train (leg + 1) (omega arith) in
      record { numbers = omega arith; leads = inl (record { other = refl; later = omega arith }) }

  of_change : (train : ℕ) → train + 1 < trains → IsLinkOf trains links (change train)
  of_change train of_train =
      let tail = arrives train 4 (omega arith) in
      let head = departs (train + 1) 5 (omega arith) in
      record { numbers = omega arith; leads = inl (record { other = refl; later = omega arith }) }

  of_headway : (train other leg : ℕ) → train < trains → other < trains → (train ≡ other → ⊥) → leg < 10 → Contains links (headway other train leg) → IsLinkOf trains links (headway train other leg)
  of_headway train other leg of_train of_other two of_leg back =
      let tail = departs train leg of_leg in
      let head = departs other leg of_leg in
      record { numbers = omega arith; leads = inr (record { headway = refl; apart = λ same. two (omega arith); back = back }) }

  of_train : (train : ℕ) → train < trains → All (IsLinkOf trains links) (links_of_train train)
  unfolding links_of_train
  of_train train low =
      All-append (IsLinkOf trains links) (map (drive train) (range_with_len 0 10)) (map (wait train) (range_with_len 0 9))
      (all_mapped (drive train) (IsLinkOf trains links) 0 10 (λ leg from to. of_drive train leg low (omega arith)))
      (all_mapped (wait train) (IsLinkOf trains links) 0 9 (λ leg from to. of_wait train leg low (omega arith)))

-- a headway and its opposite are among the activities
there_forward : (trains train leg : ℕ) → train < trains - 8 → leg < 10 → Contains (links_of trains) (headway train (train + 8) leg) × Contains (links_of trains) (headway (train + 8) train leg)
unfolding links_of headways_of_train
there_forward trains train leg of_train of_leg =
    let one = headway train (train + 8) leg in
    let two = headway (train + 8) train leg in
    let own = flat_map links_of_train (range_with_len 0 trains) in
    let both = flat_map headways_of_train (range_with_len 0 (trains - 8)) in
    let changes = map change (range_with_len 0 (trains - 1)) in
    let in_all : (x : Link) → Contains (headways_on_leg train (train + 8) leg) x → Contains (own ++ both ++ changes) x =
    λ x here. Contains-append_left (own ++ both) changes x (Contains-append_right own both x
    (contained_in_joined headways_of_train 0 (trains - 8) train x (omega arith) (omega arith)
    (contained_in_joined (headways_on_leg train (train + 8)) 0 10 leg x (omega arith) (omega arith) here))) in
    (in_all one (0, omega arith, refl), in_all two (1, omega arith, refl))

all_of_headways : (trains train : ℕ) → train < trains - 8 → All (IsLinkOf trains (links_of trains)) (headways_of_train train)
unfolding headways_of_train
all_of_headways trains train low =
    let P : Link → Type 0 = IsLinkOf trains (links_of trains) in
    all_joined (headways_on_leg train (train + 8)) P 0 10 (λ leg from to.
    let short : leg < 10 = omega arith in
    let there = there_forward trains train leg low short in
    All-cons P (headway train (train + 8) leg) (headway (train + 8) train leg ∷ [])
    (of_headway trains (links_of trains) train (train + 8) leg (omega arith) (omega arith) (λ same. omega arith) short there.1)
    (All-cons P (headway (train + 8) train leg) []
    (of_headway trains (links_of trains) (train + 8) train leg (omega arith) (omega arith) (λ same. omega arith) short there.0)
    (All-nil P)))

pub all_links : (trains : ℕ) → All (IsLinkOf trains (links_of trains)) (links_of trains)
unfolding links_of
all_links trains =
    let P : Link → Type 0 = IsLinkOf trains (links_of trains) in
    let own = flat_map links_of_train (range_with_len 0 trains) in
    let both = flat_map headways_of_train (range_with_len 0 (trains - 8)) in
    let changes = map change (range_with_len 0 (trains - 1)) in
    All-append P (own ++ both) changes
    (All-append P own both
    (all_joined links_of_train P 0 trains (λ train from to. of_train trains (links_of trains) train (omega arith)))
    (all_joined headways_of_train P 0 (trains - 8) (λ train from to. all_of_headways trains train (omega arith))))
    (all_mapped change P 0 (trains - 1) (λ train from to. of_change trains (links_of trains) train (omega arith)))

-- ---- with ids

-- a record of an activity of a day
pub record IsRowOf (trains : ℕ) (row : ActRow) : Type 0 where
  pub id : ℕ
  pub link : Link
  pub is : row ≡ with_id id link
  pub of : IsLinkOf trains (links_of trains) link

all_numbered : (trains id : ℕ) (links : List Link) → All (IsLinkOf trains (links_of trains)) links → All (IsRowOf trains) (numbered_from id links)
all_numbered trains id [] all = All-nil (IsRowOf trains)
all_numbered trains id (link ∷ links) all =
    All-cons (IsRowOf trains) (with_id id link) (numbered_from (id + 1) links)
    (record { id = id; link = link; is = refl; of = all 0 link (omega arith) })
    (all_numbered trains (id + 1) links (λ k d low. all (suc k) d (omega arith)))

pub all_rows : (trains : ℕ) → All (IsRowOf trains) (activities_of trains)
unfolding activities_of
all_rows trains = all_numbered trains 1 (links_of trains) (all_links trains)

pub numbered_ids : (id : ℕ) (links : List Link) → activity_ids (numbered_from id links) ≡ range_with_len id (length links)
numbered_ids id [] = refl
numbered_ids id (link ∷ links) = ap (λ r. id ∷ r) (numbered_ids (id + 1) links)

numbered_at : (id k : ℕ) (links : List Link) (d : ActRow) (e : Link) → k < length links → get_or (numbered_from id links) k d ≡ with_id (id + k) (get_or links k e)
numbered_at id k [] d e low = absurd (omega arith)
numbered_at id zero (link ∷ links) d e low = let same : id ≡ id + 0 = omega arith in ap (λ i. with_id i link) same
numbered_at id (suc k) (link ∷ links) d e low =
    let same : (id + 1) + k ≡ id + suc k = omega arith in
    numbered_at (id + 1) k links d e (omega arith) ∙ ap (λ i. with_id i (get_or links k e)) same

-- what is among the activities is so under some id
pub has_row : (trains : ℕ) (link : Link) → Contains (links_of trains) link → (id : ℕ) × Contains (activities_of trains) (with_id id link)
unfolding activities_of
has_row trains link there =
    let id : ℕ = 1 + there.0 in
    let count = numbered_count 1 (links_of trains) in (
      id,
      (there.0, omega (arith, there.1), numbered_at 1 there.0 (links_of trains) (with_id id link) link there.1 ∙ ap (with_id id) there.2),
    )
