-- Which blocks stand in a file.
use Rattle.std.proofs.Common.{◌≡◌, ◌≢◌, ℕ, zero, suc, Bool, true, false, cond, nat_eq, ◌+◌, ◌-◌, ◌^◌, ◌<◌, ◌≤◌, List, [], ◌∷◌, ◌++◌, codes, length, take, drop, Option, Some, None, Bor, MatchOption, refl, sym, ap, subst, arith, ◌∙◌, append_assoc, append-nil, length-append, length-take, take-append-drop, inl, inr, ◌⊎◌}
use Rattle.std.specs.Fmt.{decimal}
use Rattle.std.specs.List.{flat_map, starts_with, IsSplitAt}
use Rattle.std.proofs.lemmas.Bool.{cases_lt}
use Rattle.std.proofs.lemmas.List.{take_at, drop_at}
use Rattle.std.proofs.lemmas.Grind.{flat_map-append}
use Rattle.dm_text.specs.Inside.Parts.{behind, number_in_front}
use Rattle.dm_store.specs.Blocks.{block, behind_gate, IsEnd, Stands, ReadsBlock, version, refusal, is_crash_end}
use Rattle.dm_store.specs.declared.faults.StoreError.TheVariants.{OtherVersion, Broken}
use Rattle.dm_store.proofs.Reading.{Reads, block_reads, is_block}

none_some : {A : Type 0} {x : A} → None ≡ Some x → ⊥
none_some e = cc

some_one : {A : Type 0} {x y : A} → Some x ≡ Some y → x ≡ y
some_one e = cc

-- ---- where no block stands

pub end_shut : (gate : ℕ) (rest : List ℕ) → gate ≢ 43 → IsEnd (gate ∷ rest)
end_shut gate rest shut = λ content more is. shut (let e : gate ≡ 43 = cc in e)

pub end_short : (file : List ℕ) → length file ≤ 1 → IsEnd file
end_short file short = λ content more is.
    absurd (omega (arith, ap length is, length-append (block content) more, length-append (decimal (length content)) (10 ∷ content)))

pub end_front : (n : ℕ) (file : List ℕ) → IsEnd file → IsEnd (take n file)
end_front n file ends = λ content more is.
    ends content (more ++ drop n file) (sym (take-append-drop n file) ∙ ap (λ xs. xs ++ drop n file) is ∙ append_assoc (block content) more (drop n file))

pub end_unless_gate : (file : List ℕ) → length file < 2 ^ 64 → behind (codes "+") file ≡ None → IsEnd file
end_unless_gate file short none = λ content rest is.
    let reads = block_reads content rest file is short in none_some (sym none ∙ reads.gate)

pub end_unless_number : (file a : List ℕ) → length file < 2 ^ 64 → behind (codes "+") file ≡ Some a → number_in_front (length file) a ≡ None → IsEnd file
end_unless_number file a short gate none = λ content rest is.
    let reads = block_reads content rest file is short in
    let same : a ≡ behind_gate content ++ rest = some_one (sym gate ∙ reads.gate) in
    none_some (sym none ∙ ap (number_in_front (length file)) same ∙ reads.number)

-- the number and what stands behind it
read_number : (file a b content rest : List ℕ) (n : ℕ) → behind (codes "+") file ≡ Some a → number_in_front (length file) a ≡ Some (n, b) → Reads content rest file →
    ◌≡◌ {A = ℕ × List ℕ} (n, b) (length content, 10 ∷ (content ++ rest))
read_number file a b content rest n gate number reads =
    let same : a ≡ behind_gate content ++ rest = some_one (sym gate ∙ reads.gate) in
    some_one (sym number ∙ ap (number_in_front (length file)) same ∙ reads.number)

pub end_unless_line : (file a b : List ℕ) (n : ℕ) → length file < 2 ^ 64 → behind (codes "+") file ≡ Some a → number_in_front (length file) a ≡ Some (n, b) →
    behind (codes "\n") b ≡ None → IsEnd file
end_unless_line file a b n short gate number none = λ content rest is.
    let reads = block_reads content rest file is short in
    let same = ap (λ (p : ℕ × List ℕ). p.1) (read_number file a b content rest n gate number reads) in
    none_some (sym none ∙ ap (behind (codes "\n")) same ∙ reads.line)

pub end_unless_long : (file a b c : List ℕ) (n : ℕ) → length file < 2 ^ 64 → behind (codes "+") file ≡ Some a → number_in_front (length file) a ≡ Some (n, b) →
    behind (codes "\n") b ≡ Some c → length c < n → IsEnd file
end_unless_long file a b c n short gate number line less = λ content rest is.
    let reads = block_reads content rest file is short in
    let both = read_number file a b content rest n gate number reads in
    let same = ap (λ (p : ℕ × List ℕ). p.1) both in
    let size : n ≡ length content = ap (λ (p : ℕ × List ℕ). p.0) both in
    let rest_is : c ≡ content ++ rest = some_one (sym line ∙ ap (behind (codes "\n")) same ∙ reads.line) in
    absurd (omega (arith, size, ap length rest_is, length-append content rest, less))

-- how the code comes to its answer
pub split_reads : (file a b c : List ℕ) (n : ℕ) → length file < 2 ^ 64 → behind (codes "+") file ≡ Some a → number_in_front (length file) a ≡ Some (n, b) →
    behind (codes "\n") b ≡ Some c → (r : Option (Bor (List ℕ) × Bor (List ℕ))) → MatchOption r (length c < n) (λ p. IsSplitAt c n p.0.now p.1.now) → ReadsBlock file r
split_reads file a b c n short gate number line None less = end_unless_long file a b c n short gate number line less
split_reads file a b c n short gate number line (Some (content, rest)) split =
    is_block file a b c content.now rest.now n gate number line split.3
    (sym (ap (λ xs. xs ++ rest.now) split.1 ∙ ap (λ xs. take n c ++ xs) split.2 ∙ take-append-drop n c)) short

-- ---- one block in front

pub record SameFront (c o x y : List ℕ) : Type 0 where
  pub content : c ≡ o
  pub rest : x ≡ y

pub same_front : (c o x y : List ℕ) → block c ++ x ≡ block o ++ y → length (block c ++ x) < 2 ^ 64 → SameFront c o x y
same_front c o x y is short =
    let first = block_reads c x (block c ++ x) refl short in
    let second = block_reads o y (block c ++ x) is short in
    let bodies : behind_gate c ++ x ≡ behind_gate o ++ y = some_one (sym first.gate ∙ second.gate) in
    let both = some_one (sym first.number ∙ ap (number_in_front (length (block c ++ x))) bodies ∙ second.number) in
    let size : length c ≡ length o = ap (λ (p : ℕ × List ℕ). p.0) both in
    let tails : 10 ∷ (c ++ x) ≡ 10 ∷ (o ++ y) = ap (λ (p : ℕ × List ℕ). p.1) both in
    let same : c ++ x ≡ o ++ y = cc in
    record {
      content = sym (take_at c x (length c) refl) ∙ ap (take (length c)) same ∙ take_at o y (length c) (sym size);
      rest = sym (drop_at c x (length c) refl) ∙ ap (drop (length c)) same ∙ drop_at o y (length c) (sym size);
    }

-- ---- the blocks of a file

pub front_block : (first : List ℕ) (contents : List (List ℕ)) (end : List ℕ) → flat_map block (first ∷ contents) ++ end ≡ block first ++ (flat_map block contents ++ end)
front_block first contents end = append_assoc (block first) (flat_map block contents) end

pub one_list : (contents others : List (List ℕ)) (file a b : List ℕ) → length file < 2 ^ 64 → file ≡ flat_map block contents ++ a → IsEnd a →
    file ≡ flat_map block others ++ b → IsEnd b → contents ≡ others
one_list [] [] file a b short is ends js enders = refl
one_list [] (o ∷ others) file a b short is ends js enders = absurd (ends o (flat_map block others ++ b) (sym is ∙ js ∙ front_block o others b))
one_list (c ∷ contents) [] file a b short is ends js enders = absurd (enders c (flat_map block contents ++ a) (sym js ∙ is ∙ front_block c contents a))
one_list (c ∷ contents) (o ∷ others) file a b short is ends js enders =
    let one = is ∙ front_block c contents a in
    let other = js ∙ front_block o others b in
    let long : length (block c ++ (flat_map block contents ++ a)) < 2 ^ 64 = subst (λ (xs : List ℕ). length xs < 2 ^ 64) one short in
    let same = same_front c o (flat_map block contents ++ a) (flat_map block others ++ b) (sym one ∙ other) long in
    let less : length (flat_map block contents ++ a) < 2 ^ 64 = omega (arith, long, length-append (block c) (flat_map block contents ++ a)) in
    let more = one_list contents others (flat_map block contents ++ a) a b less refl ends same.rest enders in
    ap (λ x. x ∷ contents) same.content ∙ ap (λ xs. o ∷ xs) more

pub one_more : (before : List (List ℕ)) (content more rest file : List ℕ) → file ≡ flat_map block before ++ rest → rest ≡ block content ++ more →
    file ≡ flat_map block (before ++ content ∷ []) ++ more
one_more before content more rest file is split =
    is ∙ ap (λ xs. flat_map block before ++ xs) split ∙ sym (append_assoc (flat_map block before) (block content) more)
    ∙ ap (λ xs. xs ++ more) (ap (λ xs. flat_map block before ++ xs) (sym (append-nil (block content))) ∙ sym (flat_map-append block before (content ∷ [])))

-- the blocks that were passed are those that stand there
pub passed : (before contents : List (List ℕ)) (file rest : List ℕ) → length file < 2 ^ 64 → file ≡ flat_map block before ++ rest → IsEnd rest → Stands contents file →
    length file - length rest ≡ length (flat_map block contents)
passed before contents file rest short is ends stands =
    let same = one_list before contents file rest stands.end short is ends stands.split stands.is_end in
    let size : length file ≡ length (flat_map block before) + length rest = ap length is ∙ length-append (flat_map block before) rest in
    let e : length file - length rest ≡ length (flat_map block before) = omega (arith, size) in
    e ∙ ap (λ (cs : List (List ℕ)). length (flat_map block cs)) same

-- the block in front is the first one
pub first_is : (contents : List (List ℕ)) (blocks first rest : List ℕ) → length blocks < 2 ^ 64 → blocks ≡ flat_map block contents → blocks ≡ block first ++ rest →
    (more : List (List ℕ)) × (contents ≡ first ∷ more)
first_is [] blocks first rest short is split = absurd (let e : [] ≡ block first ++ rest = sym is ∙ split in cc)
first_is (c ∷ contents) blocks first rest short is split =
    let long : length (block c ++ flat_map block contents) < 2 ^ 64 = subst (λ (xs : List ℕ). length xs < 2 ^ 64) is short in
    (contents, ap (λ x. x ∷ contents) (same_front c first (flat_map block contents) rest (sym is ∙ split) long).content)

pub other_version : (contents : List (List ℕ)) (blocks first rest end needle : List ℕ) → length blocks < 2 ^ 64 → blocks ≡ flat_map block contents →
    blocks ≡ block first ++ rest → needle ≡ version → false ≡ starts_with nat_eq first needle → Some OtherVersion ≡ refusal contents end
other_version contents blocks first rest end needle short is split line fails =
    let found = first_is contents blocks first rest short is split in
    let test : starts_with nat_eq first version ≡ false = ap (starts_with nat_eq first) (sym line) ∙ sym fails in
    sym (ap (λ cs. refusal cs end) found.1 ∙ ap (λ b. cond b (cond (is_crash_end false end) None (Some Broken)) (Some OtherVersion)) test)

pub right_version : (contents : List (List ℕ)) (blocks first rest end needle : List ℕ) (whole : Bool) → length blocks < 2 ^ 64 → blocks ≡ flat_map block contents →
    blocks ≡ block first ++ rest → needle ≡ version → true ≡ starts_with nat_eq first needle → whole ≡ is_crash_end false end →
    cond whole None (Some Broken) ≡ refusal contents end
right_version contents blocks first rest end needle whole short is split line passes told =
    let found = first_is contents blocks first rest short is split in
    let test : starts_with nat_eq first version ≡ true = ap (starts_with nat_eq first) (sym line) ∙ sym passes in
    ap (λ b. cond b None (Some Broken)) told
    ∙ sym (ap (λ cs. refusal cs end) found.1 ∙ ap (λ b. cond b (cond (is_crash_end false end) None (Some Broken)) (Some OtherVersion)) test)

-- ---- each file has blocks

-- a block stands in front, or none does
pub record HasFront (file : List ℕ) : Type 0 where
  pub content : List ℕ
  pub rest : List ℕ
  pub split : file ≡ block content ++ rest

long_enough : (file a b c : List ℕ) (n : ℕ) → length file < 2 ^ 64 → behind (codes "+") file ≡ Some a → number_in_front (length file) a ≡ Some (n, b) →
    behind (codes "\n") b ≡ Some c → HasFront file ⊎ IsEnd file
long_enough file a b c n short gate number line =
    elim (cases_lt (length c) n) [
      | inl less ↦ inr (end_unless_long file a b c n short gate number line less)
      | inr more ↦
          inl (record {
            content = take n c;
            rest = drop n c;
            split = is_block file a b c (take n c) (drop n c) n gate number line (length_front n c more) (sym (take-append-drop n c)) short;
          })
    ]
  where
    length_front : (n : ℕ) (c : List ℕ) → n ≤ length c → length (take n c) ≡ n
    length_front n c more = omega (arith, length-take n c)

line_or_none : (file a b : List ℕ) (n : ℕ) → length file < 2 ^ 64 → behind (codes "+") file ≡ Some a → number_in_front (length file) a ≡ Some (n, b) →
    (o : Option (List ℕ)) → behind (codes "\n") b ≡ o → HasFront file ⊎ IsEnd file
line_or_none file a b n short gate number None line = inr (end_unless_line file a b n short gate number line)
line_or_none file a b n short gate number (Some c) line = long_enough file a b c n short gate number line

number_or_none : (file a : List ℕ) → length file < 2 ^ 64 → behind (codes "+") file ≡ Some a →
    (o : Option (ℕ × List ℕ)) → number_in_front (length file) a ≡ o → HasFront file ⊎ IsEnd file
number_or_none file a short gate None number = inr (end_unless_number file a short gate number)
number_or_none file a short gate (Some (n, b)) number = line_or_none file a b n short gate number (behind (codes "\n") b) refl

gate_or_none : (file : List ℕ) → length file < 2 ^ 64 → (o : Option (List ℕ)) → behind (codes "+") file ≡ o → HasFront file ⊎ IsEnd file
gate_or_none file short None gate = inr (end_unless_gate file short gate)
gate_or_none file short (Some a) gate = number_or_none file a short gate (number_in_front (length file) a) refl

pub all_stand : (steps : ℕ) (file : List ℕ) → length file ≤ steps → length file < 2 ^ 64 → (contents : List (List ℕ)) × Stands contents file
all_stand zero file most short = ([], record { end = file; split = refl; is_end = end_short file (omega arith) })
all_stand (suc steps) file most short =
    elim (gate_or_none file short (behind (codes "+") file) refl) [
      | inl front ↦
          let size : length file ≡ length (block front.content) + length front.rest = ap length front.split ∙ length-append (block front.content) front.rest in
          let more = all_stand steps front.rest (omega (arith, size)) (omega (arith, size)) in (
            front.content ∷ more.0,
            record {
              end = more.1.end;
              split = front.split ∙ ap (λ xs. block front.content ++ xs) more.1.split ∙ sym (front_block front.content more.0 more.1.end);
              is_end = more.1.is_end;
            },
          )
      | inr ends ↦ ([], record { end = file; split = refl; is_end = ends })
    ]
