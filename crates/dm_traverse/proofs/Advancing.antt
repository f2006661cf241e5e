-- A search settles one node after another, and knows what it said of each.
use Rattle.std.proofs.Common.{◌≡◌, ℕ, ◌+◌, ◌≤◌, true, List, [], ◌∷◌, ◌++◌, length, refl, sym, ap, subst, ◌∙◌, ◌⊎◌, inl, inr, arith, Some, None, append_assoc, append-nil, add-one, length-append}
use Rattle.std.specs.Prelude.{Contains}
use Rattle.std.proofs.lemmas.List.Elements.{Contains-append_right, Contains-push_cases}
use Rattle.dm_network.specs.Start.{IsNetwork}
use Rattle.dm_rows.specs.declared.messages.Choice.{Choice}
use Rattle.dm_rows.specs.declared.messages.Decision.{Decision}
use Rattle.dm_rows.specs.Decide.{choice_of, IsChoiceList}
use Rattle.dm_tree.specs.declared.forms.Node.{Node}
use Rattle.dm_tree.specs.declared.forms.Node.TheVariants.{Inner, Cycle, Bound, Open, Hole}
use Rattle.dm_tree.specs.declared.forms.Leaf.{Leaf}
use Rattle.dm_tree.specs.Trees.{choice_in}
use Rattle.dm_rows.specs.Sides.{first_decision, second_decision, is_ordered}
use Rattle.dm_tree.specs.Plans.{Task, IsTrueInner}
use Rattle.dm_tree.specs.Inside.Filling.{fills, visits}
use Rattle.dm_tree.specs.Pending.{pending}
use Rattle.dm_tree.specs.Inside.Assembling.{seen, GoesOn}
use Rattle.dm_tree.proofs.Filled.{both, some_more, one_back}
use Rattle.dm_tree.proofs.Walked.{due_after_choice, is_inner}
use Rattle.dm_paths.proofs.Setting.{in_front}
use Rattle.dm_traverse.specs.Finish.{IsKnown}
use Rattle.dm_traverse.specs.Inside.Searching.{AreBest, IsGoing, IsUsedUp, IsSearched, IsSplit, Stands}
use Rattle.dm_traverse.proofs.Leaves.{violated_is_undecided, decides_it, path_goes_on}
use Rattle.dm_tree.proofs.Growing.{station, one_visit, leaf_visit, leaf_fill, goes_next}
use Rattle.dm_tree.proofs.Walked.{none_left, none_left}

pub first_is : {X : Type 0} (x : X) (xs : List X) → Contains (x ∷ xs) x
first_is x xs = (0, omega arith, refl)

pub is_behind : {X : Type 0} (x y : X) (xs : List X) → Contains xs y → Contains (x ∷ xs) y
is_behind x y xs h = Contains-append_right (x ∷ []) xs y h

-- less dear choices leave known what was known
pub known_lower : (task : Task) (old new : ℕ) (path : List Decision) (n : Node) → new ≤ old → IsKnown task old path n → IsKnown task new path n
known_lower task old new path (Inner c) le k = k
known_lower task old new path Cycle le k = k
known_lower task old new path (Bound c) le k = record { cost = k.cost; no_less = let h : old ≤ c = k.no_less in omega arith }
known_lower task old new path (Open c) le k = k
known_lower task old new path Hole le k = tt

pub searched_lower : (task : Task) (limit old new : ℕ) (nodes rest : List Node) (path : List Decision) → new ≤ old →
    IsSearched task limit old nodes rest path → IsSearched task limit new nodes rest path
searched_lower task limit old new nodes rest path le s =
    record {
      settled = λ l h. known_lower task old new l.path l.node le (s.settled l h);
      few = s.few;
      used = s.used;
      going = elim s.going [
        | inl e ↦ inl e
        | inr g ↦
            inr (record {
              goes_on = g.goes_on;
              fill = g.fill;
              known = λ l h. known_lower task old new l.path l.node le (g.known l h);
              lists = g.lists;
            })
      ];
    }

-- where nodes are left, the search goes on
pub going_at : (task : Task) (limit best : ℕ) (nodes rest : List Node) (path : List Decision) (n : Node) →
    IsSearched task limit best nodes (n ∷ rest) path → IsGoing task best nodes (n ∷ rest) path
going_at task limit best nodes rest path n s = elim s.going [ inl e ↦ (let none : (n ∷ rest) ≡ [] = e.0 in cc) | inr g ↦ g ]

-- the next node stands at the path
seen_next : (nodes : List Node) (path : List Decision) (n : Node) → GoesOn nodes path → seen (nodes ++ n ∷ []) ≡ seen nodes ++ station path n ∷ []
seen_next nodes path n g = g.visiting (n ∷ []) ∙ ap (λ xs. seen nodes ++ xs) (one_visit path (pending path) n)

settled_next : (task : Task) (best : ℕ) (nodes : List Node) (path : List Decision) (n : Node) → GoesOn nodes path → IsKnown task best path n →
    ((l : Leaf) → Contains (seen nodes) l → IsKnown task best l.path l.node) →
    (l : Leaf) → Contains (seen (nodes ++ n ∷ [])) l → IsKnown task best l.path l.node
settled_next task best nodes path n g here before l h =
    elim (Contains-push_cases (seen nodes) (station path n) l (subst (λ xs. Contains xs l) (seen_next nodes path n g) h)) [
      | inl r ↦ before l r
      | inr e ↦ subst (λ (x : Leaf). IsKnown task best x.path x.node) e here
    ]

total_next : (nodes rest : List Node) (n : Node) → length (nodes ++ n ∷ []) + length rest ≡ length nodes + length (n ∷ rest)
total_next nodes rest n = let e = length-append nodes (n ∷ []) in omega (arith, e)

used_next : (budget limit : ℕ) (nodes rest : List Node) (n : Node) →
    ((c : ℕ) → n ≡ Open c → IsUsedUp budget (length nodes + length (n ∷ rest)) limit c) →
    ((c : ℕ) → Contains nodes (Open c) → IsUsedUp budget (length nodes + length (n ∷ rest)) limit c) →
    (c : ℕ) → Contains (nodes ++ n ∷ []) (Open c) → IsUsedUp budget (length (nodes ++ n ∷ []) + length rest) limit c
used_next budget limit nodes rest n here before c h =
    subst (λ (k : ℕ). IsUsedUp budget k limit c) (sym (total_next nodes rest n))
    (elim (Contains-push_cases nodes n (Open c) h) [ inl r ↦ before c r | inr e ↦ here c e ])

-- what is known at the first node left
pub known_here : (task : Task) (best : ℕ) (nodes rest : List Node) (path : List Decision) (n : Node) →
    IsGoing task best nodes (n ∷ rest) path → IsKnown task best path n
known_here task best nodes rest path n g = g.known (station path n) (among n)
  where
    among : (n : Node) → Contains (visits (path ∷ pending path) (n ∷ rest)) (station path n)
    among (Inner c) = first_is (station path (Inner c)) _
    among Cycle = first_is (station path Cycle) _
    among (Bound c) = first_is (station path (Bound c)) _
    among (Open c) = first_is (station path (Open c)) _
    among Hole = first_is (station path Hole) _

pub list_here : (task : Task) (best : ℕ) (nodes rest : List Node) (path : List Decision) →
    IsGoing task best nodes rest path → IsChoiceList task.net task.rows (task.base ++ path)
list_here task best nodes rest path g = g.lists path (first_is path (pending path))

module _ (task : Task) (network : IsNetwork task.net) (limit best : ℕ) where
  -- each child of a true choice has a path
  child_list : (path : List Decision) (c : Choice) (d : Decision) → choice_of d ≡ c → IsTrueInner task path c →
      IsChoiceList task.net task.rows (task.base ++ path) → IsChoiceList task.net task.rows (task.base ++ (path ++ d ∷ []))
  child_list path c d is inner list =
      let v = inner.violated in
      subst (IsChoiceList task.net task.rows) (append_assoc task.base path (d ∷ []))
      (path_goes_on task.net task.rows (task.base ++ path) d c is list
      (violated_is_undecided task.net task.rows (task.base ++ path) v.times c v.violated))

  goes_below : (nodes rest : List Node) (path : List Decision) (c : Choice) → IsGoing task best nodes (Inner c ∷ rest) path →
      IsGoing task best (nodes ++ Inner c ∷ []) rest (path ++ first_decision c ∷ [])
  goes_below nodes rest path c g =
      let first : List Decision = path ++ first_decision c ∷ [] in
      let second : List Decision = path ++ second_decision c ∷ [] in
      let filled = both (is_ordered c) (fills true (length (pending path) + 1) rest) g.fill in
      let due : pending first ≡ second ∷ pending path = due_after_choice path c filled.0 in
      let inner : IsTrueInner task path c = known_here task best nodes rest path (Inner c) g in
      let here : IsChoiceList task.net task.rows (task.base ++ path) = list_here task best nodes (Inner c ∷ rest) path g in
      let decides = decides_it task.net network task.rows c (violated_is_undecided task.net task.rows (task.base ++ path) inner.violated.times c inner.violated.violated).free in
      record {
        goes_on = goes_next nodes path first (Inner c) g.goes_on
            (λ ns. rw (filled.0, due) (ap (λ k. fills true k ns) (add-one (length (pending path)))))
            (λ ns. rw due refl);
        fill = rw due (rw (← add-one (length (pending path))) filled.1);
        known = λ l h.
            g.known l (is_behind (station path (Inner c)) l (visits (first ∷ second ∷ pending path) rest)
            (subst (λ ps. Contains (visits (first ∷ ps) rest) l) due h));
        lists = λ q h.
            elim (in_front first q (second ∷ pending path) (subst (λ ps. Contains (first ∷ ps) q) due h)) [
              | inl e ↦ subst (λ p. IsChoiceList task.net task.rows (task.base ++ p)) e (child_list path c (first_decision c) decides.first inner here)
              | inr r ↦ elim (in_front second q (pending path) r) [
                | inl e ↦ subst (λ p. IsChoiceList task.net task.rows (task.base ++ p)) e (child_list path c (second_decision c) decides.second inner here)
                | inr s ↦ g.lists q (is_behind path q (pending path) s)
              ]
            ];
      }

  goes_aside : (nodes rest : List Node) (path new : List Decision) (n : Node) → choice_in n ≡ None → pending path ≡ new ∷ pending new →
      IsGoing task best nodes (n ∷ rest) path → IsGoing task best (nodes ++ n ∷ []) rest new
  goes_aside nodes rest path new n leaf due g =
      let count : length (pending path) ≡ length (pending new) + 1 = ap length due ∙ sym (add-one (length (pending new))) in
      let one_less : (ns : List Node) → fills true (length (pending path)) (n ∷ ns) ≡ fills true (length (pending new)) ns =
      λ ns. leaf_fill (length (pending path)) n ns leaf ∙ rw (count, some_more (length (pending new)), one_back (length (pending new))) refl in
      record {
        goes_on = goes_next nodes path new n g.goes_on one_less
            (λ ns. leaf_visit path (pending path) n ns leaf ∙ ap (λ xs. station path n ∷ visits xs ns) due);
        fill = sym (one_less rest) ∙ g.fill;
        known = λ l h.
            g.known l (subst (λ xs. Contains xs l) (sym (leaf_visit path (pending path) n rest leaf))
            (is_behind (station path n) l (visits (pending path) rest) (subst (λ ps. Contains (visits ps rest) l) (sym due) h)));
        lists = λ q h. g.lists q (is_behind path q (pending path) (subst (λ ps. Contains ps q) (sym due) h));
      }

  -- behind the last leaf nothing is left, and the nodes are one tree
  nothing_left : (nodes rest : List Node) (path : List Decision) (n : Node) → choice_in n ≡ None → pending path ≡ [] →
      IsGoing task best nodes (n ∷ rest) path → (rest ≡ []) × (fills true 0 (nodes ++ n ∷ []) ≡ true)
  nothing_left nodes rest path n leaf due g =
      let filled : fills true 0 (n ∷ rest) ≡ true = subst (λ ps. fills true (length ps) (n ∷ rest) ≡ true) due g.fill in
      let alone : fills true (length (pending path)) (n ∷ []) ≡ true =
      subst (λ ps. fills true (length ps) (n ∷ []) ≡ true) (sym due) (leaf_fill 0 n [] leaf) in (
        none_left rest (sym (leaf_fill 0 n rest leaf) ∙ filled),
        g.goes_on.filling (n ∷ []) ∙ alone,
      )

  -- a choice is settled
  pub descended : (nodes more rest : List Node) (path new : List Decision) (n : Node) (c : Choice) → Some c ≡ choice_in n →
      more ≡ nodes ++ Inner c ∷ [] → new ≡ path ++ first_decision c ∷ [] → IsSearched task limit best nodes (n ∷ rest) path →
      IsSearched task limit best more rest new
  descended nodes more rest path new n c is e f s =
      rw (e, f) (at_choice (subst (λ m. IsSearched task limit best nodes (m ∷ rest) path) (is_inner n c (sym is)) s))
    where
      at_choice : IsSearched task limit best nodes (Inner c ∷ rest) path →
          IsSearched task limit best (nodes ++ Inner c ∷ []) rest (path ++ first_decision c ∷ [])
      at_choice s =
          let g = going_at task limit best nodes rest path (Inner c) s in
          record {
            settled = settled_next task best nodes path (Inner c) g.goes_on (known_here task best nodes rest path (Inner c) g) s.settled;
            few = subst (λ k. k ≤ task.budget) (sym (total_next nodes rest (Inner c))) s.few;
            used = used_next task.budget limit nodes rest (Inner c) (λ k e. cc) s.used;
            going = inr (goes_below nodes rest path c g);
          }

  -- a leaf is settled
  pub left : (nodes more rest : List Node) (path new : List Decision) (n : Node) → choice_in n ≡ None →
      ((c : ℕ) → n ≡ Open c → IsUsedUp task.budget (length nodes + length (n ∷ rest)) limit c) →
      more ≡ nodes ++ n ∷ [] → (pending path ≡ new ∷ pending new) ⊎ (pending path ≡ []) → IsSearched task limit best nodes (n ∷ rest) path →
      IsSearched task limit best more rest new
  left nodes more rest path new n leaf used e due s = rw e (at_leaf due)
    where
      at_leaf : (pending path ≡ new ∷ pending new) ⊎ (pending path ≡ []) → IsSearched task limit best (nodes ++ n ∷ []) rest new
      at_leaf due =
          let g = going_at task limit best nodes rest path n s in
          record {
            settled = settled_next task best nodes path n g.goes_on (known_here task best nodes rest path n g) s.settled;
            few = subst (λ k. k ≤ task.budget) (sym (total_next nodes rest n)) s.few;
            used = used_next task.budget limit nodes rest n used s.used;
            going = elim due [
              | inl more ↦ inr (goes_aside nodes rest path new n leaf more g)
              | inr none ↦ inl (nothing_left nodes rest path n leaf none g)
            ];
          }

  -- another leaf takes the place of one
  pub replaced : (nodes rest : List Node) (path : List Decision) (n m : Node) → choice_in n ≡ None → choice_in m ≡ None →
      IsKnown task best path m → IsSearched task limit best nodes (n ∷ rest) path → IsSearched task limit best nodes (m ∷ rest) path
  replaced nodes rest path n m old new known s =
      let g = going_at task limit best nodes rest path n s in
      record {
        settled = s.settled;
        few = s.few;
        used = s.used;
        going = inr (record {
          goes_on = g.goes_on;
          fill = leaf_fill (length (pending path)) m rest new ∙ (sym (leaf_fill (length (pending path)) n rest old) ∙ g.fill);
          known = λ l h.
              elim (in_front (station path m) l (visits (pending path) rest) (subst (λ xs. Contains xs l) (leaf_visit path (pending path) m rest new) h)) [
                | inl e ↦ subst (λ (x : Leaf). IsKnown task best x.path x.node) e known
                | inr r ↦
                    g.known l (subst (λ xs. Contains xs l) (sym (leaf_visit path (pending path) n rest old))
                    (is_behind (station path n) l (visits (pending path) rest) r))
              ];
          lists = g.lists;
        });
      }

  used_more : (total c : ℕ) → IsUsedUp task.budget total limit c → IsUsedUp task.budget (total + 2) limit c
  used_more total c (inl full) = inl (omega arith)
  used_more total c (inr dear) = inr dear

  -- a choice with two holes takes the place of a leaf
  pub split : (nodes rest : List Node) (path : List Decision) (n : Node) (c : Choice) (ceiling : ℕ) → choice_in n ≡ None →
      IsSplit task path ceiling c → length nodes + length (n ∷ rest) + 2 ≤ task.budget → IsSearched task limit best nodes (n ∷ rest) path →
      IsSearched task limit best nodes (Inner c ∷ Hole ∷ Hole ∷ rest) path
  split nodes rest path n c ceiling leaf is room s =
      let g = going_at task limit best nodes rest path n s in
      let first : List Decision = path ++ first_decision c ∷ [] in
      let second : List Decision = path ++ second_decision c ∷ [] in
      let more : length nodes + length (n ∷ rest) + 2 ≡ length nodes + length (Inner c ∷ Hole ∷ Hole ∷ rest) = omega arith in
      record {
        settled = s.settled;
        few = omega arith;
        used = λ k h. subst (λ (t : ℕ). IsUsedUp task.budget t limit k) more (used_more (length nodes + length (n ∷ rest)) k (s.used k h));
        going = inr (record {
          goes_on = g.goes_on;
          fill = rw is.ordered (filled g);
          known = λ l h.
              elim (in_front (station path (Inner c)) l (station first Hole ∷ station second Hole ∷ visits (pending path) rest) h) [
                | inl e ↦ subst (λ (x : Leaf). IsKnown task best x.path x.node) e is.inner
                | inr r ↦ elim (in_front (station first Hole) l (station second Hole ∷ visits (pending path) rest) r) [
                  | inl e ↦ subst (λ (x : Leaf). IsKnown task best x.path x.node) e tt
                  | inr q ↦ elim (in_front (station second Hole) l (visits (pending path) rest) q) [
                    | inl e ↦ subst (λ (x : Leaf). IsKnown task best x.path x.node) e tt
                    | inr p ↦
                        g.known l (subst (λ xs. Contains xs l) (sym (leaf_visit path (pending path) n rest leaf))
                        (is_behind (station path n) l (visits (pending path) rest) p))
                  ]
                ]
              ];
          lists = g.lists;
        });
      }
    where
      -- two places more are filled by two holes
      filled : IsGoing task best nodes (n ∷ rest) path → fills true (length (pending path) + 1) (Hole ∷ Hole ∷ rest) ≡ true
      filled g =
          let more : ℕ = length (pending path) in
          rw (some_more more, one_back more) (sym (leaf_fill more n rest leaf) ∙ g.fill)

-- what was searched to the end stands
pub stands_searched : (task : Task) (limit cost : ℕ) (nodes : List Node) (path best : List Decision) → IsSearched task limit cost nodes [] path →
    AreBest task best cost → Stands task nodes best cost
stands_searched task limit cost nodes path best s are =
    let few = s.few in
    record {
      known = s.settled;
      whole = elim s.going [ inl e ↦ e.1 | inr g ↦ (let none : fills true (length (pending path)) [] ≡ true = g.fill in cc) ];
      few = omega (arith, few);
      are_best = are;
    }

-- and it may be searched anew
pub search_anew : (task : Task) → IsChoiceList task.net task.rows task.base → (limit cost : ℕ) (nodes none due : List Node) (root best : List Decision) →
    none ≡ [] → root ≡ [] → due ≡ nodes → Stands task nodes best cost → IsSearched task limit cost none due root
search_anew task list limit cost nodes none due root best e f g s = rw (e, f, g) at_root
  where
    at_root : IsSearched task limit cost [] nodes []
    at_root =
        let few = s.few in
        record {
          settled = λ l h. absurd (omega (arith, h.1));
          few = omega (arith, few);
          used = λ c h. absurd (omega (arith, h.1));
          going = inr (record {
            goes_on = record { filling = λ ns. refl; visiting = λ ns. refl };
            fill = s.whole;
            known = s.known;
            lists = λ q h.
                elim (in_front [] q [] h) [
                  | inl e ↦ subst (λ p. IsChoiceList task.net task.rows (task.base ++ p)) e (subst (IsChoiceList task.net task.rows) (sym (append-nil task.base)) list)
                  | inr r ↦ absurd (omega (arith, r.1))
                ];
          });
        }

pub used_in_all : (task : Task) (limit cost : ℕ) (nodes : List Node) (path : List Decision) → IsSearched task limit cost nodes [] path →
    (c : ℕ) → Contains nodes (Open c) → IsUsedUp task.budget (length nodes) limit c
used_in_all task limit cost nodes path s c h =
    let none : length nodes + 0 ≡ length nodes = omega arith in
    subst (λ (k : ℕ). IsUsedUp task.budget k limit c) none (s.used c h)

-- with better choices all stands
pub stands_lower : (task : Task) (given nodes : List Node) (old new : List Decision) (high low : ℕ) → nodes ≡ given → low ≤ high →
    AreBest task new low → Stands task given old high → Stands task nodes new low
stands_lower task given nodes old new high low e le are s =
    rw e (record {
      known = λ l h. known_lower task high low l.path l.node le (s.known l h);
      whole = s.whole;
      few = s.few;
      are_best = are;
    })
