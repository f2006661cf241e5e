-- Decisions of an adopted list: what is read against what the words stand for.
use Rattle.std.proofs.Common.{◌≡◌, ℕ, ◌<◌, true, eqb, List, [], ◌∷◌, ◌++◌, length, Option, Some, None, refl, sym, ap, subst, ◌∙◌, arith, append_assoc, append-nil}
use Rattle.std.specs.List.{flat_map}
use Rattle.std.specs.Option.{option_map}
use Rattle.std.proofs.lemmas.Bool.{eqb-true}
use Rattle.dm_base.specs.declared.ids.ActId.{ActId}
use Rattle.dm_rows.specs.declared.messages.Decision.{Decision}
use Rattle.dm_rows.specs.declared.messages.Decision.TheVariants as decision
use Rattle.dm_feed.specs.declared.vocabulary.Word.{Word}
use Rattle.dm_feed.specs.declared.vocabulary.Word.TheVariants.{Delay, Event, Activity, Pass, Recall, Keep, Drop, First, Now, Cancel, Restore, Lock, Unlock, Time, Cost, Read, Plan, Solve, Adopt, Carry}
use Rattle.dm_feed.specs.Words.{spelling_of_word}
use Rattle.dm_feed.specs.Parts.{Part, word, id, Writes, StandForAll, largest_id}
use Rattle.dm_feed.specs.Lines.{parts_of_decision}
use Rattle.dm_feed.specs.Inside.Reading.{word_named, id_in, event, act, next_id, first_behind, decision_behind, next_decision}
use Rattle.dm_feed.specs.Inside.Deciding.{AreDecisions, GoOn, ReadSoFar}
use Rattle.dm_feed.proofs.Hearing.{mapped_to, number_writes, writes_number, word_found, named, texts_none}

-- an id and the texts behind it
record IsId (texts : List (List ℕ)) (n : ℕ) (rest : List (List ℕ)) : Type 0 where
  text : List ℕ
  are : texts ≡ text ∷ rest
  writes : Writes n largest_id text

id_read : (texts : List (List ℕ)) (p : ℕ × List (List ℕ)) → next_id texts ≡ Some p → IsId texts p.0 p.1
id_read [] p e = absurd cc
id_read (text ∷ texts) p e =
    let m = mapped_to (λ n. (n, texts)) (id_in text) p e in
    let one : m.at ≡ p.0 = ap (λ (q : ℕ × List (List ℕ)). q.0) m.gives in
    let rest : texts ≡ p.1 = ap (λ (q : ℕ × List (List ℕ)). q.1) m.gives in
    record { text = text; are = ap (λ (l : List (List ℕ)). text ∷ l) rest; writes = subst (λ (n : ℕ). Writes n largest_id text) one (number_writes largest_id m.at text m.is) }

read_id : (n : ℕ) (text : List ℕ) (rest : List (List ℕ)) → Writes n largest_id text → next_id (text ∷ rest) ≡ Some (n, rest)
read_id n text rest w = ap (option_map (λ m. (m, rest))) (writes_number largest_id n text w)

-- the texts are those of a decision and others
record BeginsSo (texts : List (List ℕ)) (d : Decision) (rest : List (List ℕ)) : Type 0 where
  stand : (parts : List Part) → StandForAll parts rest → StandForAll (parts_of_decision d ++ parts) texts
  longer : length rest < length texts

begins_change : (w : Word) (d : ℕ → Decision) (one : (n : ℕ) → parts_of_decision (d n) ≡ word w ∷ id n ∷ []) (text : List ℕ) (texts : List (List ℕ)) (p : ℕ × List (List ℕ)) → text ≡ spelling_of_word w → next_id texts ≡ Some p
    → BeginsSo (text ∷ texts) (d p.0) p.1
begins_change w d one text texts p is e =
    let i = id_read texts p e in
    record {
      stand = λ parts h.
          subst (λ (ps : List Part). StandForAll (ps ++ parts) (text ∷ texts)) (sym (one p.0))
          (is, subst (StandForAll (id p.0 ∷ parts)) (sym i.are) (i.writes, h));
      longer = omega (arith, ap length i.are);
    }

begins_first : (text : List ℕ) (texts : List (List ℕ)) (p q : ℕ × List (List ℕ)) → text ≡ spelling_of_word First → next_id texts ≡ Some p → next_id p.1 ≡ Some q → BeginsSo (text ∷ texts) (decision.First (event p.0) (event q.0)) q.1
begins_first text texts p q is e f =
    let i = id_read texts p e in
    let j = id_read p.1 q f in
    record {
      stand = λ parts h. (is, subst (StandForAll (id p.0 ∷ id q.0 ∷ parts)) (sym i.are) (i.writes, subst (StandForAll (id q.0 ∷ parts)) (sym j.are) (j.writes, h)));
      longer = omega (arith, ap length i.are, ap length j.are);
    }

made_decision : {A : Type 0} (f : A → Decision × List (List ℕ)) (o : Option A) (texts : List (List ℕ)) (r : Decision × List (List ℕ)) → ((a : A) → o ≡ Some a → BeginsSo texts (f a).0 (f a).1) → option_map f o ≡ Some r → BeginsSo texts r.0 r.1
made_decision f o texts r begins e = let m = mapped_to f o r e in subst (λ (x : Decision × List (List ℕ)). BeginsSo texts x.0 x.1) m.gives (begins m.at m.is)

begins_firsts : (text : List ℕ) (texts : List (List ℕ)) (o : Option (ℕ × List (List ℕ))) (r : Decision × List (List ℕ)) → text ≡ spelling_of_word First → next_id texts ≡ o → first_behind o ≡ Some r → BeginsSo (text ∷ texts) r.0 r.1
begins_firsts text texts None r is e f = absurd cc
begins_firsts text texts (Some p) r is e f =
    made_decision (λ q. (decision.First (event p.0) (event q.0), q.1)) (next_id p.1) (text ∷ texts) r (λ q g. begins_first text texts p q is e g) f

begins_named : (text : List ℕ) (texts : List (List ℕ)) (o : Option Word) (r : Decision × List (List ℕ)) → word_named text ≡ o → decision_behind o texts ≡ Some r → BeginsSo (text ∷ texts) r.0 r.1
begins_named text texts None r named e = absurd cc
begins_named text texts (Some Keep) r named e =
    made_decision (λ p. (decision.Keep (act p.0), p.1)) (next_id texts) (text ∷ texts) r (λ p g. begins_change Keep (λ n. decision.Keep (act n)) (λ n. refl) text texts p (word_found text Keep named) g) e
begins_named text texts (Some Drop) r named e =
    made_decision (λ p. (decision.Drop (act p.0), p.1)) (next_id texts) (text ∷ texts) r (λ p g. begins_change Drop (λ n. decision.Drop (act n)) (λ n. refl) text texts p (word_found text Drop named) g) e
begins_named text texts (Some First) r named e = begins_firsts text texts (next_id texts) r (word_found text First named) refl e
begins_named text texts (Some Delay) r named e = absurd cc
begins_named text texts (Some Event) r named e = absurd cc
begins_named text texts (Some Activity) r named e = absurd cc
begins_named text texts (Some Pass) r named e = absurd cc
begins_named text texts (Some Recall) r named e = absurd cc
begins_named text texts (Some Now) r named e = absurd cc
begins_named text texts (Some Time) r named e = absurd cc
begins_named text texts (Some Cost) r named e = absurd cc
begins_named text texts (Some Read) r named e = absurd cc
begins_named text texts (Some Plan) r named e = absurd cc
begins_named text texts (Some Solve) r named e = absurd cc
begins_named text texts (Some Adopt) r named e = absurd cc
begins_named text texts (Some Cancel) r named e = absurd cc
begins_named text texts (Some Restore) r named e = absurd cc
begins_named text texts (Some Lock) r named e = absurd cc
begins_named text texts (Some Unlock) r named e = absurd cc
begins_named text texts (Some Carry) r named e = absurd cc

begins_so : (texts : List (List ℕ)) (r : Decision × List (List ℕ)) → next_decision texts ≡ Some r → BeginsSo texts r.0 r.1
begins_so [] r e = absurd cc
begins_so (text ∷ texts) r e = begins_named text texts (word_named text) r refl e

-- what stands for a decision and others is read so
record ReadsFirst (d : Decision) (parts : List Part) (texts : List (List ℕ)) : Type 0 where
  rest : List (List ℕ)
  is : next_decision texts ≡ Some (d, rest)
  stand : StandForAll parts rest

reads_change : (w : Word) (make : ActId → Decision) (a : ActId) (parts : List Part) (text one : List ℕ) (rest : List (List ℕ)) → text ≡ spelling_of_word w → Writes a.0 largest_id one → StandForAll parts rest
    → decision_behind (Some w) (one ∷ rest) ≡ option_map (λ p. (make (act p.0), p.1)) (next_id (one ∷ rest)) → ReadsFirst (make a) parts (text ∷ one ∷ rest)
reads_change w make a parts text one rest is writes stand behind = record {
  rest = rest;
  is = ap (λ o. decision_behind o (one ∷ rest)) (named text w is) ∙ (behind ∙ ap (option_map (λ p. (make (act p.0), p.1))) (read_id a.0 one rest writes));
  stand = stand;
}

reads_first : (d : Decision) (parts : List Part) (texts : List (List ℕ)) → StandForAll (parts_of_decision d ++ parts) texts → ReadsFirst d parts texts
reads_first (decision.Keep a) parts [] h = absurd h
reads_first (decision.Keep a) parts (text ∷ []) h = absurd h.1
reads_first (decision.Keep a) parts (text ∷ one ∷ rest) h = reads_change Keep decision.Keep a parts text one rest h.0 h.1.0 h.1.1 refl
reads_first (decision.Drop a) parts [] h = absurd h
reads_first (decision.Drop a) parts (text ∷ []) h = absurd h.1
reads_first (decision.Drop a) parts (text ∷ one ∷ rest) h = reads_change Drop decision.Drop a parts text one rest h.0 h.1.0 h.1.1 refl
reads_first (decision.First e f) parts [] h = absurd h
reads_first (decision.First e f) parts (text ∷ []) h = absurd h.1
reads_first (decision.First e f) parts (text ∷ one ∷ []) h = absurd h.1.1
reads_first (decision.First e f) parts (text ∷ one ∷ other ∷ rest) h =
    record {
      rest = rest;
      is =
          ap (λ o. decision_behind o (one ∷ other ∷ rest)) (named text First h.0)
          ∙ (ap first_behind (read_id e.0 one (other ∷ rest) h.1.0) ∙ ap (option_map (λ q. (decision.First (event e.0) (event q.0), q.1))) (read_id f.0 other rest h.1.1.0));
      stand = h.1.1.1;
    }

some_same : (p q : Decision × List (List ℕ)) → Some p ≡ Some q → p ≡ q
some_same p q e = cc

some_none : {A : Type 0} (p : Decision × List (List ℕ)) → Some p ≡ None → A
some_none p e = absurd cc

goes_on : (held ds : List Decision) (rest behind : List (List ℕ)) (d : Decision) → next_decision rest ≡ Some (d, behind) → (tail : List Decision) → ds ≡ held ++ tail → AreDecisions tail rest → GoOn (held ++ d ∷ []) ds behind
goes_on held ds rest behind d e [] are stand =
    let none : next_decision rest ≡ None = ap next_decision (texts_none rest stand) in
    some_none (d, behind) (sym e ∙ none)
goes_on held ds rest behind d e (x ∷ xs) are stand =
    let f = reads_first x (flat_map parts_of_decision xs) rest stand in
    let pair = some_same (x, f.rest) (d, behind) (sym f.is ∙ e) in
    record {
      tail = xs;
      are = are ∙ (ap (λ (y : Decision). held ++ y ∷ xs) (ap (λ (p : Decision × List (List ℕ)). p.0) pair) ∙ sym (append_assoc held (d ∷ []) xs));
      stand = subst (AreDecisions xs) (ap (λ (p : Decision × List (List ℕ)). p.1) pair) f.stand;
    }

-- one decision more was read
pub read_more : (all rest behind : List (List ℕ)) (held new : List Decision) (d : Decision) → new ≡ held ++ d ∷ [] → next_decision rest ≡ Some (d, behind) → ReadSoFar all rest held → ReadSoFar all behind new
read_more all rest behind held new d is e r =
    let b = begins_so rest (d, behind) e in
    subst (ReadSoFar all behind) (sym is)
    (record {
      together = λ tail h. subst (λ (ds : List Decision). AreDecisions ds all) (sym (append_assoc held (d ∷ []) tail)) (r.together (d ∷ tail) (b.stand (flat_map parts_of_decision tail) h));
      alone = λ ds h. let g = r.alone ds h in goes_on held ds rest behind d e g.tail g.are g.stand;
    })

pub read_all : (all rest : List (List ℕ)) (held : List Decision) → rest ≡ [] → ReadSoFar all rest held → AreDecisions held all
read_all all rest held none r =
    subst (λ (ds : List Decision). AreDecisions ds all) (append-nil held) (r.together [] (subst (AreDecisions []) (sym none) tt))

-- what is left is no decision
pub read_stuck : (all rest : List (List ℕ)) (held : List Decision) → next_decision rest ≡ None → 0 < length rest → ReadSoFar all rest held → (ds : List Decision) → AreDecisions ds all → ⊥
read_stuck all rest held none some r ds h = let g = r.alone ds h in stuck rest none some g.tail g.stand
  where
    stuck : (rest : List (List ℕ)) → next_decision rest ≡ None → 0 < length rest → (tail : List Decision) → AreDecisions tail rest → ⊥
    stuck rest none some [] stand = let empty : rest ≡ [] = texts_none rest stand in absurd (omega (arith, some, ap length empty))
    stuck rest none some (x ∷ xs) stand =
        let f = reads_first x (flat_map parts_of_decision xs) rest stand in
        some_none (x, f.rest) (sym f.is ∙ none)

pub shorter : (rest behind : List (List ℕ)) (d : Decision) → next_decision rest ≡ Some (d, behind) → length behind < length rest
shorter rest behind d e = (begins_so rest (d, behind) e).longer

pub none_from : (texts : List (List ℕ)) → eqb (length texts) 0 ≡ true → texts ≡ []
none_from [] e = refl
none_from (text ∷ texts) e = let zero_long : length (text ∷ texts) ≡ 0 = eqb-true (length (text ∷ texts)) 0 e in absurd (omega (arith, zero_long))

-- ---- one list of decisions

nothing_first : (d : Decision) (ds : List Decision) (texts : List (List ℕ)) → StandForAll [] texts → AreDecisions (d ∷ ds) texts → ⊥
nothing_first (decision.Keep a) ds [] none h = h
nothing_first (decision.Drop a) ds [] none h = h
nothing_first (decision.First e f) ds [] none h = h
nothing_first d ds (text ∷ texts) none h = none

-- the same texts stand for one list of decisions
pub one_list : (ds es : List Decision) (texts : List (List ℕ)) → AreDecisions ds texts → AreDecisions es texts → ds ≡ es
one_list [] [] texts p q = refl
one_list [] (e ∷ es) texts p q = absurd (nothing_first e es texts p q)
one_list (d ∷ ds) [] texts p q = absurd (nothing_first d ds texts q p)
one_list (d ∷ ds) (e ∷ es) texts p q =
    let a = reads_first d (flat_map parts_of_decision ds) texts p in
    let b = reads_first e (flat_map parts_of_decision es) texts q in
    let same = some_same (d, a.rest) (e, b.rest) (sym a.is ∙ b.is) in
    let first : d ≡ e = ap (λ (x : Decision × List (List ℕ)). x.0) same in
    let behind : a.rest ≡ b.rest = ap (λ (x : Decision × List (List ℕ)). x.1) same in
    let others : ds ≡ es = one_list ds es a.rest a.stand (subst (AreDecisions es) (sym behind) b.stand) in
    cc
