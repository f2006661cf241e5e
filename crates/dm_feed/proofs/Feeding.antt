-- How the reader of a feed goes from line to line.
use Rattle.std.proofs.Common.{◌≡◌, ◌≢◌, ℕ, zero, suc, ◌+◌, ◌-◌, ◌<◌, ◌≤◌, inl, inr, Bool, true, false, cond, ltb, eqb, List, [], ◌∷◌, ◌++◌, length, take, drop, get_or, Option, Some, None, refl, sym, ap, subst, ◌∙◌, arith, append_assoc, append-nil, length-append, length-drop, zero-add, take-append-drop}
use Rattle.std.specs.List.{position, position_or_len, flat_map}
use Rattle.std.specs.Io.KnownBytes.{Consumes}
use Rattle.std.proofs.KnownBytes.{Consumes-nil, Consumes-trans}
use Rattle.std.proofs.Math.Seq.{drop-cons, take-append-add, take-append_seam}
use Rattle.std.proofs.lemmas.List.{length-take-le, get_or-take, take_all}
use Rattle.std.proofs.lemmas.List.Elements.{All-nil, All-append, All-push}
use Rattle.std.proofs.lemmas.List.Sums.{fails_before_first, passes_at_first}
use Rattle.std.proofs.lemmas.Bool.{cases_lt, true≢false, lt-ltb, le-ltb, ltb-true, ltb-false, eqb-true, eqb-false, ne_eqb}
use Rattle.memchr.specs.Find.{IsFirstByte}
use Rattle.std.proofs.lemmas.Grind.{flat_map-append}
use Rattle.dm_outside.specs.Taking.{TakesPiece}
use Rattle.dm_outside.proofs.Printing.{risen_since}
use Rattle.dm_feed.specs.declared.grammar.Heard.{Heard}
use Rattle.dm_feed.specs.declared.grammar.Heard.TheVariants as heard
use Rattle.dm_feed.specs.declared.feed.FeedStop.{FeedStop}
use Rattle.dm_feed.specs.declared.feed.FeedStop.TheVariants.{End, Fault, Long}
use Rattle.dm_feed.specs.declared.reader.NextLine.{NextLine}
use Rattle.dm_feed.specs.declared.reader.NextLine.TheVariants.{Line as Ended, Last, Nothing}
use Rattle.dm_feed.specs.declared.feed.Next.{Next}
use Rattle.dm_feed.specs.declared.feed.Next.TheVariants.{Due, Stop}
use Rattle.dm_feed.specs.Lines.{Hears, IsQuiet}
use Rattle.dm_feed.specs.Feeds.{IsUnended, without_return, ended, ReaderValue, Takes, GivesDue, ReachesEnd, Answers}
use Rattle.dm_feed.specs.Inside.Consuming.{EndsAt, Fills, Overflows, FailsToFill, ConsumesEnded, ConsumesLast, ConsumesLine, Grows, Looked, Drops, ConsumesQuiet, Holds}
use Rattle.dm_feed.proofs.Hearing.{quiet_or_line}

-- ---- a carriage return at the end

pub return_cut : (bytes : List ℕ) → 0 < length bytes → get_or bytes (length bytes - 1) 0 ≡ 13 → take (length bytes - 1) bytes ≡ without_return bytes
return_cut [] some last = absurd (omega arith)
return_cut (c ∷ []) some last = let is : c ≡ 13 = last in rw is refl
return_cut (c ∷ d ∷ cs) some last =
    let short : length (c ∷ d ∷ cs) - 1 ≡ suc (length (d ∷ cs) - 1) = omega arith in
    let rest : get_or (d ∷ cs) (length (d ∷ cs) - 1) 0 ≡ 13 = sym (ap (λ (n : ℕ). get_or (c ∷ d ∷ cs) n 0) short) ∙ last in
    ap (λ (n : ℕ). take n (c ∷ d ∷ cs)) short ∙ ap (λ (l : List ℕ). c ∷ l) (return_cut (d ∷ cs) (omega arith) rest)

pub no_return : (bytes : List ℕ) → (0 < length bytes → get_or bytes (length bytes - 1) 0 ≢ 13) → bytes ≡ without_return bytes
no_return [] last = refl
no_return (c ∷ []) last = let other : eqb c 13 ≡ false = ne_eqb c 13 (last (omega arith)) in rw other refl
no_return (c ∷ d ∷ cs) last =
    let short : length (c ∷ d ∷ cs) - 1 ≡ suc (length (d ∷ cs) - 1) = omega arith in
    ap (λ (l : List ℕ). c ∷ l) (no_return (d ∷ cs) (λ some is. last (omega arith) (ap (λ (n : ℕ). get_or (c ∷ d ∷ cs) n 0) short ∙ is)))

-- at most one byte is taken off
without_return_length : (bytes : List ℕ) → length bytes ≤ length (without_return bytes) + 1
without_return_length [] = omega arith
without_return_length (c ∷ []) = omega arith
without_return_length (c ∷ d ∷ cs) = let rest = without_return_length (d ∷ cs) in omega arith

-- ---- line feeds

some_place : (b : Bool) (p place : ℕ) → Some place ≡ cond b (Some p) None → (b ≡ true) × (p ≡ place)
some_place true p place e = (refl, cc)
some_place false p place e = absurd cc

no_place : (b : Bool) (p : ℕ) → None ≡ cond b (Some p) None → b ≡ false
no_place true p e = absurd cc
no_place false p e = refl

-- the first byte that a search finds stands at its position, and where it finds none there is none
pub first_is_position : (test : ℕ → Bool) (bytes : List ℕ) (found : Option ℕ) → IsFirstByte test bytes found → found ≡ position test bytes
first_is_position test bytes None none =
    let place : ℕ = position_or_len test bytes in
    elim (cases_lt place (length bytes)) [
      | inl within ↦ absurd (none place (omega arith) within (passes_at_first test bytes 0 within))
      | inr past ↦ sym (ap (λ (b : Bool). cond b (Some place) None) (le-ltb place (length bytes) past))
    ]
first_is_position test bytes (Some at) found =
    let place : ℕ = position_or_len test bytes in
    let low = found.0.high in
    elim (cases_lt place at) [
      | inl before ↦ absurd (found.0.before place (omega arith) before (passes_at_first test bytes 0 (omega (arith, before, low))))
      | inr not_before ↦ elim (cases_lt at place) [
        | inl behind ↦ let fails = fails_before_first test bytes at 0 behind in absurd (true≢false (sym found.1 ∙ fails))
        | inr not_behind ↦
            let same : place ≡ at = omega (arith, not_before, not_behind) in
            let within : place < length bytes = omega (arith, same, low) in
            sym (ap (λ (b : Bool). cond b (Some place) None) (lt-ltb place (length bytes) within) ∙ ap Some same)
      ]
    ]

pub rest_of : (from : ℕ) (bytes : List ℕ) → take (length bytes - from) (drop from bytes) ≡ drop from bytes
rest_of from bytes = take_all (length bytes - from) (drop from bytes) (omega (arith, length-drop from bytes))

pub no_feed : (bytes : List ℕ) (from : ℕ) → IsUnended (take from bytes) → None ≡ position (λ b. eqb b 10) (take (length bytes - from) (drop from bytes)) → IsUnended bytes
no_feed bytes from front none =
    let rest : List ℕ = drop from bytes in
    let e : None ≡ position (λ b. eqb b 10) rest = none ∙ ap (position (λ b. eqb b 10)) (rest_of from bytes) in
    let past : length rest ≤ position_or_len (λ b. eqb b 10) rest = ltb-false _ _ (no_place (ltb (position_or_len (λ b. eqb b 10) rest) (length rest)) (position_or_len (λ b. eqb b 10) rest) e) in
    let unended : IsUnended rest = λ k d low. eqb-false (get_or rest k d) 10 (fails_before_first (λ b. eqb b 10) rest k d (omega arith)) in
    subst IsUnended (take-append-drop from bytes) (All-append (λ b. b ≢ 10) (take from bytes) rest front unended)

get_or_drop : (from i d : ℕ) (bytes : List ℕ) → get_or (drop from bytes) i d ≡ get_or bytes (from + i) d
get_or_drop zero i d bytes = ap (λ (n : ℕ). get_or bytes n d) (sym (zero-add i))
get_or_drop (suc from) i d [] = refl
get_or_drop (suc from) i d (c ∷ cs) =
    let more : suc from + i ≡ suc (from + i) = omega arith in
    get_or_drop from i d cs ∙ sym (ap (λ (n : ℕ). get_or (c ∷ cs) n d) more)

pub feed_at : (bytes : List ℕ) (from place : ℕ) → from ≤ length bytes → IsUnended (take from bytes) → Some place ≡ position (λ b. eqb b 10) (take (length bytes - from) (drop from bytes)) → EndsAt bytes (from + place)
feed_at bytes from place fits front found =
    let rest : List ℕ = drop from bytes in
    let e : Some place ≡ position (λ b. eqb b 10) rest = found ∙ ap (position (λ b. eqb b 10)) (rest_of from bytes) in
    let h = some_place (ltb (position_or_len (λ b. eqb b 10) rest) (length rest)) (position_or_len (λ b. eqb b 10) rest) place e in
    let before : position_or_len (λ b. eqb b 10) rest < length rest = ltb-true _ _ h.0 in
    let size : length rest ≡ length bytes - from = length-drop from bytes in
    let low : place < length rest = omega (arith, before, h.1) in
    let low_in : from + place < length bytes = omega (arith, low, size) in
    let at_place : get_or rest place 0 ≡ 10 = subst (λ (i : ℕ). get_or rest i 0 ≡ 10) h.1 (eqb-true _ 10 (passes_at_first (λ b. eqb b 10) rest 0 before)) in
    let unended : IsUnended (take place rest) = λ k d small.
    let inside : k < place = omega (arith, length-take-le place rest (omega (arith, low))) in
    rw (get_or-take place rest k d inside) (eqb-false (get_or rest k d) 10 (fails_before_first (λ b. eqb b 10) rest k d (omega (arith, inside, h.1)))) in
    let split : take (from + place) bytes ≡ take from bytes ++ take place rest =
    ap (take (from + place)) (sym (take-append-drop from bytes))
    ∙ (ap (λ (n : ℕ). take (n + place) (take from bytes ++ rest)) (sym (length-take-le from bytes fits)) ∙ take-append-add (take from bytes) rest place) in
    let next : from + place + 1 ≡ suc (from + place) = omega arith in
    record {
      low = low_in;
      unended = subst IsUnended (sym split) (All-append (λ b. b ≢ 10) (take from bytes) (take place rest) front unended);
      is =
          sym (take-append-drop (from + place) bytes)
          ∙ ap (λ (l : List ℕ). take (from + place) bytes ++ l)
          (drop-cons bytes (from + place) 0 low_in
          ∙ (ap (λ (c : ℕ). c ∷ drop (suc (from + place)) bytes) (sym (get_or_drop from place 0 bytes) ∙ at_place) ∙ ap (λ (n : ℕ). 10 ∷ drop n bytes) (sym next)));
    }

-- ---- what was taken

lengths : (given : List ℕ) → length given ≡ 1 → given ≡ get_or given 0 0 ∷ []
lengths [] e = absurd (omega arith)
lengths (c ∷ []) e = refl
lengths (c ∷ d ∷ cs) e = absurd (omega arith)

-- a line that is too long is malformed
too_long : (bytes : List ℕ) → 1024 < length bytes → Hears bytes heard.Malformed
too_long bytes long = record { not_quiet = λ q. absurd (omega (arith, q.short)); no_line = λ said l. absurd (omega (arith, l.short)) }

pub too_long_ended : (bytes : List ℕ) → 1025 < length bytes → Hears (without_return bytes) heard.Malformed
too_long_ended bytes long = too_long (without_return bytes) (omega (arith, without_return_length bytes))

one_more : (quiet : List (List ℕ)) (bytes rest : List ℕ) → flat_map ended quiet ++ (bytes ++ 10 ∷ rest) ≡ flat_map ended (quiet ++ bytes ∷ []) ++ rest
one_more quiet bytes rest =
    ap (λ (l : List ℕ). flat_map ended quiet ++ l) (sym (append_assoc bytes (10 ∷ []) rest))
    ∙ (sym (append_assoc (flat_map ended quiet) (ended bytes) rest)
    ∙ ap (λ (l : List ℕ). l ++ rest) (ap (λ (l : List ℕ). flat_map ended quiet ++ l) (sym (append-nil (ended bytes))) ∙ sym (flat_map-append ended quiet (bytes ∷ []))))

pub not_quiet : (text : List ℕ) (h : Heard) → Hears text h → h ≢ heard.Blank → IsQuiet text → ⊥
not_quiet text heard.Blank hears due q = due refl
not_quiet text (heard.Line said) hears due q = quiet_or_line text said q hears
not_quiet text heard.Malformed hears due q = hears.not_quiet q

no_bytes_quiet : IsQuiet []
no_bytes_quiet = record { short = omega arith; says_nothing = tt }

module _ {S : Type 0} {left : S → Option (List ℕ)} where
  takes_none : (before now : ReaderValue S) → now.source ≡ before.source → now.taken ≡ before.taken → Takes left before now []
  takes_none before now same counted = record {
    consumed = subst (λ s. Consumes (left before.source) (left s) []) (sym same) (Consumes-nil (left before.source));
    counted = omega (arith, counted);
  }

  takes_then : (a b c : ReaderValue S) (given more : List ℕ) → Takes left a b given → Takes left b c more → Takes left a c (given ++ more)
  takes_then a b c given more t u = record {
    consumed = Consumes-trans (left a.source) (left b.source) (left c.source) given more t.consumed u.consumed;
    counted = omega (arith, t.counted, u.counted, length-append given more);
  }

  -- one byte more than the limit was read
  pub overflows : (before now : ReaderValue S) (count : ℕ) → TakesPiece (left before.source) (left now.source) before.pending now.pending count → count ≡ 1 → now.taken ≡ before.taken + count → now.taken ≡ 262145 → Overflows left before now
  overflows before now count piece one counted over =
      let is = lengths piece.given (piece.exact ∙ one) in
      record {
        next = get_or piece.given 0 0;
        takes = record {
          consumed = subst (Consumes (left before.source) (left now.source)) is piece.consumed;
          counted = omega (arith, counted, one);
        };
        over = over;
      }

  joined : (before mid : ReaderValue S) (g : Grows left before mid) (more : List ℕ) → before.pending ++ (g.given ++ more) ≡ mid.pending ++ more
  joined before mid g more = sym (append_assoc before.pending g.given more) ∙ ap (λ (l : List ℕ). l ++ more) (sym g.behind)

  pub grows_more : (before mid now : ReaderValue S) (count : ℕ) → Grows left before mid → Fills left mid now count → Grows left before now
  grows_more before mid now count g f = record {
    given = g.given ++ f.given;
    takes = takes_then before mid now g.given f.given g.takes f.takes;
    behind = f.behind ∙ (ap (λ (l : List ℕ). l ++ f.given) g.behind ∙ append_assoc before.pending g.given f.given);
    lines = omega (arith, f.lines, g.lines);
    open_still = f.open_still;
  }

  -- all that was pending was looked at, and more came in behind it
  pub looked_more : (mid now : ReaderValue S) (count looked : ℕ) → looked ≡ length mid.pending → IsUnended mid.pending → Fills left mid now count → Looked now looked
  looked_more mid now count looked e unended f = subst (Looked now) (sym e) (record {
    within = omega (arith, ap length f.behind, length-append mid.pending f.given);
    unended = subst IsUnended (sym (ap (take (length mid.pending)) f.behind ∙ take-append_seam mid.pending f.given)) unended;
  })

  pub consumes_found : (mid now : ReaderValue S) (at : ℕ) (h : Heard) → now ≡ record mid { pending = drop (at + 1) mid.pending; lines = mid.lines + 1 } → EndsAt mid.pending at → mid.stop ≡ None → (mid.stop ≡ None → mid.taken ≤ 262144) → Hears (without_return (take at mid.pending)) h
      → ConsumesEnded left mid now h
  consumes_found mid now at h e ends is_open within hears =
      subst (λ (v : ReaderValue S). ConsumesEnded left mid v h) (sym e) (record {
        given = [];
        takes = takes_none mid (record mid { pending = drop (at + 1) mid.pending; lines = mid.lines + 1 }) refl refl;
        bytes = take at mid.pending;
        unended = ends.unended;
        consumed = append-nil mid.pending ∙ ends.is;
        hears = hears;
        lines = refl;
        open_still = is_open;
        within = within is_open;
      })

  only_new : (mid now : ReaderValue S) (count : ℕ) → mid.pending ≡ [] → (f : Fills left mid now count) → now.pending ≡ f.given
  only_new mid now count none f = f.behind ∙ ap (λ (l : List ℕ). l ++ f.given) none

  pub drops_more : (before mid now next : ReaderValue S) (count : ℕ) → next ≡ record now { pending = [] } → Drops left before mid → Fills left mid now count → IsUnended now.pending → Drops left before next
  drops_more before mid now next count e d f unended = subst (Drops left before) (sym e) (record {
    given = d.given ++ f.given;
    takes = takes_then before mid (record now { pending = [] }) d.given f.given d.takes (record { consumed = f.takes.consumed; counted = f.takes.counted });
    unended = subst IsUnended (append_assoc before.pending d.given f.given) (All-append (λ b. b ≢ 10) (before.pending ++ d.given) f.given d.unended (subst IsUnended (only_new mid now count d.none_left f) unended));
    none_left = refl;
    lines = f.lines ∙ d.lines;
    some = omega (arith, d.some, f.lines, f.takes.counted);
    open_still = f.open_still;
  })

  -- its line feed was found
  pub drops_found : (before mid now next : ReaderValue S) (count at : ℕ) → next ≡ record now { pending = drop (at + 1) now.pending; lines = now.lines + 1 } → 1025 < length before.pending → Drops left before mid → Fills left mid now count → EndsAt now.pending at
      → ConsumesEnded left before next heard.Malformed
  drops_found before mid now next count at e long d f ends =
      let body : List ℕ = (before.pending ++ d.given) ++ take at now.pending in
      subst (λ (v : ReaderValue S). ConsumesEnded left before v heard.Malformed) (sym e)
      (record {
        given = d.given ++ f.given;
        takes = takes_then before mid (record now { pending = drop (at + 1) now.pending; lines = now.lines + 1 }) d.given f.given d.takes (record { consumed = f.takes.consumed; counted = f.takes.counted });
        bytes = body;
        unended = All-append (λ b. b ≢ 10) (before.pending ++ d.given) (take at now.pending) d.unended ends.unended;
        consumed =
            sym (append_assoc before.pending d.given f.given)
            ∙ (ap (λ (l : List ℕ). (before.pending ++ d.given) ++ l) (sym (only_new mid now count d.none_left f) ∙ ends.is)
            ∙ sym (append_assoc (before.pending ++ d.given) (take at now.pending) (10 ∷ drop (at + 1) now.pending)));
        hears = too_long_ended body (omega (arith, length-append (before.pending ++ d.given) (take at now.pending), length-append before.pending d.given));
        lines = ap (λ (n : ℕ). n + 1) (f.lines ∙ d.lines);
        open_still = f.open_still;
        within = f.within;
      })

  pub quiet_none : (before : ReaderValue S) → before.stop ≡ None → ConsumesQuiet left before before
  quiet_none before is_open = record {
    given = [];
    takes = takes_none before before refl refl;
    quiet = [];
    are_quiet = All-nil (λ bytes. IsUnended bytes × IsQuiet (without_return bytes));
    consumed = append-nil before.pending;
    lines = omega arith;
    open_still = is_open;
  }

  after_quiet : (before mid : ReaderValue S) (q : ConsumesQuiet left before mid) (more rest : List ℕ) → mid.pending ++ more ≡ rest → before.pending ++ (q.given ++ more) ≡ flat_map ended q.quiet ++ rest
  after_quiet before mid q more rest e =
      sym (append_assoc before.pending q.given more)
      ∙ (ap (λ (l : List ℕ). l ++ more) q.consumed ∙ (append_assoc (flat_map ended q.quiet) mid.pending more ∙ ap (λ (l : List ℕ). flat_map ended q.quiet ++ l) e))

  pub quiet_more : (before mid now : ReaderValue S) (h : Heard) → h ≡ heard.Blank → ConsumesQuiet left before mid → ConsumesEnded left mid now h → ConsumesQuiet left before now
  quiet_more before mid now h blank q p =
      let is_quiet : IsQuiet (without_return p.bytes) = subst (Hears (without_return p.bytes)) blank p.hears in
      record {
        given = q.given ++ p.given;
        takes = takes_then before mid now q.given p.given q.takes p.takes;
        quiet = q.quiet ++ p.bytes ∷ [];
        are_quiet = All-push (λ bytes. IsUnended bytes × IsQuiet (without_return bytes)) q.quiet p.bytes q.are_quiet (p.unended, is_quiet);
        consumed = after_quiet before mid q p.given (p.bytes ++ 10 ∷ now.pending) p.consumed ∙ one_more q.quiet p.bytes now.pending;
        lines = omega (arith, p.lines, q.lines, length-append q.quiet (p.bytes ∷ []));
        open_still = p.open_still;
      }

  pub due_ended : (before mid now : ReaderValue S) (h : Heard) → h ≢ heard.Blank → ConsumesQuiet left before mid → ConsumesEnded left mid now h → GivesDue left before now now.lines h
  due_ended before mid now h due q p = record {
    given = q.given ++ p.given;
    takes = takes_then before mid now q.given p.given q.takes p.takes;
    quiet = q.quiet;
    are_quiet = q.are_quiet;
    front = ended p.bytes;
    consumed = after_quiet before mid q p.given (ended p.bytes ++ now.pending) (p.consumed ∙ sym (append_assoc p.bytes (10 ∷ []) now.pending));
    text = without_return p.bytes;
    is_line = record { bytes = p.bytes; unended = p.unended; cut = inl (refl, refl) };
    hears = p.hears;
    is_due = not_quiet (without_return p.bytes) h p.hears due;
    number = omega (arith, p.lines, q.lines);
    lines = refl;
    within = p.within;
    goes_on = inl p.open_still;
    last = λ none. absurd (none p.bytes refl);
  }

  pub due_last : (before mid now : ReaderValue S) (h : Heard) → h ≢ heard.Blank → ConsumesQuiet left before mid → ConsumesLast left mid now h → GivesDue left before now now.lines h
  due_last before mid now h due q p = record {
    given = q.given ++ p.given;
    takes = takes_then before mid now q.given p.given q.takes p.takes;
    quiet = q.quiet;
    are_quiet = q.are_quiet;
    front = mid.pending ++ p.given;
    consumed =
        after_quiet before mid q p.given ((mid.pending ++ p.given) ++ now.pending)
        (sym (ap (λ (l : List ℕ). (mid.pending ++ p.given) ++ l) p.none_left ∙ append-nil (mid.pending ++ p.given)));
    text = mid.pending ++ p.given;
    is_line = record { bytes = mid.pending ++ p.given; unended = p.unended; cut = inr (refl, refl, p.some, p.none_left, p.at_end) };
    hears = p.hears;
    is_due = not_quiet (mid.pending ++ p.given) h p.hears due;
    number = omega (arith, p.lines, q.lines);
    lines = refl;
    within = p.within;
    goes_on = inr (p.stopped, p.none_left, p.at_end);
    last = λ none. p.stopped;
  }

  pub end_last : (before mid now : ReaderValue S) (h : Heard) → h ≡ heard.Blank → ConsumesQuiet left before mid → ConsumesLast left mid now h → ReachesEnd left before now
  end_last before mid now h blank q p = record {
    given = q.given ++ p.given;
    takes = takes_then before mid now q.given p.given q.takes p.takes;
    quiet = q.quiet;
    are_quiet = q.are_quiet;
    last = mid.pending ++ p.given;
    unended = p.unended;
    is_quiet = subst (Hears (mid.pending ++ p.given)) blank p.hears;
    consumed = after_quiet before mid q p.given (mid.pending ++ p.given) refl;
    at_end = p.at_end;
    within = p.within;
  }

module _ {S : Type 0} where
  -- what was consumed from the middle on was consumed from the start on
  pub consumes_after : (left : S → Option (List ℕ)) (faults : S → ℕ) (is_sound : S → Type 0) (before mid now : ReaderValue S) (line : NextLine) → Grows left before mid → faults before.source ≤ faults mid.source → (is_sound before.source → is_sound mid.source)
      → ConsumesLine left faults is_sound mid now line → ConsumesLine left faults is_sound before now line
  consumes_after left faults is_sound before mid now (Ended h) g later sound p = record {
    given = g.given ++ p.given;
    takes = takes_then before mid now g.given p.given g.takes p.takes;
    bytes = p.bytes;
    unended = p.unended;
    consumed = joined before mid g p.given ∙ p.consumed;
    hears = p.hears;
    lines = omega (arith, p.lines, g.lines);
    open_still = p.open_still;
    within = p.within;
  }
  consumes_after left faults is_sound before mid now (Last h) g later sound p =
      let e = joined before mid g p.given in
      record {
        given = g.given ++ p.given;
        takes = takes_then before mid now g.given p.given g.takes p.takes;
        unended = subst IsUnended (sym e) p.unended;
        some = subst (λ (l : List ℕ). 0 < length l) (sym e) p.some;
        none_left = p.none_left;
        at_end = p.at_end;
        hears = subst (λ (l : List ℕ). Hears l h) (sym e) p.hears;
        lines = omega (arith, p.lines, g.lines);
        stopped = p.stopped;
        within = p.within;
      }
  consumes_after left faults is_sound before mid now (Nothing End) g later sound p = record {
    given = g.given ++ p.given;
    takes = takes_then before mid now g.given p.given g.takes p.takes;
    nothing = joined before mid g p.given ∙ p.nothing;
    at_end = p.at_end;
    within = p.within;
    stopped = p.stopped;
  }
  consumes_after left faults is_sound before mid now (Nothing Long) g later sound p = record {
    given = g.given ++ p.given;
    takes = takes_then before mid now g.given p.given g.takes p.takes;
    front = p.front;
    unended = p.unended;
    next = p.next;
    consumed = joined before mid g p.given ∙ p.consumed;
    over = p.over;
    stopped = p.stopped;
  }
  consumes_after left faults is_sound before mid now (Nothing Fault) g later sound p = record {
    within = p.within;
    given = g.given ++ p.given;
    takes = takes_then before mid now g.given p.given g.takes p.takes;
    unended = subst IsUnended (sym (joined before mid g p.given)) p.unended;
    risen = risen_since (faults before.source) (faults mid.source) (faults now.source) later p.risen;
    not_sound = λ s. p.not_sound (sound s);
    stopped = p.stopped;
  }

  pub consumes_fails : (left : S → Option (List ℕ)) (faults : S → ℕ) (is_sound : S → Type 0) (mid now : ReaderValue S) (stop : FeedStop) → IsUnended mid.pending → now.stop ≡ Some stop → FailsToFill left faults is_sound mid now stop → ConsumesLine left faults is_sound mid now (Nothing stop)
  consumes_fails left faults is_sound mid now End unended stopped f = absurd f
  consumes_fails left faults is_sound mid now Long unended stopped f = record {
    given = f.next ∷ [];
    takes = f.takes;
    front = mid.pending;
    unended = unended;
    next = f.next;
    consumed = refl;
    over = f.over;
    stopped = stopped;
  }
  consumes_fails left faults is_sound mid now Fault unended stopped f = record {
    within = f.within;
    given = [];
    takes = f.takes;
    unended = subst IsUnended (sym (append-nil mid.pending)) unended;
    risen = f.risen;
    not_sound = f.not_sound;
    stopped = stopped;
  }

  -- a read failed, or the limit was exceeded
  pub drops_fails : (left : S → Option (List ℕ)) (faults : S → ℕ) (is_sound : S → Type 0) (before mid now : ReaderValue S) (stop : FeedStop) → faults before.source ≤ faults mid.source → (is_sound before.source → is_sound mid.source) → Drops left before mid → now.stop ≡ Some stop
      → FailsToFill left faults is_sound mid now stop → ConsumesLine left faults is_sound before now (Nothing stop)
  drops_fails left faults is_sound before mid now End later sound d stopped f = absurd f
  drops_fails left faults is_sound before mid now Long later sound d stopped f = record {
    given = d.given ++ f.next ∷ [];
    takes = takes_then before mid now d.given (f.next ∷ []) d.takes f.takes;
    front = before.pending ++ d.given;
    unended = d.unended;
    next = f.next;
    consumed = sym (append_assoc before.pending d.given (f.next ∷ []));
    over = f.over;
    stopped = stopped;
  }
  drops_fails left faults is_sound before mid now Fault later sound d stopped f = record {
    within = f.within;
    given = d.given ++ [];
    takes = takes_then before mid now d.given [] d.takes f.takes;
    unended = subst IsUnended (ap (λ (l : List ℕ). before.pending ++ l) (sym (append-nil d.given))) d.unended;
    risen = risen_since (faults before.source) (faults mid.source) (faults now.source) later f.risen;
    not_sound = λ s. f.not_sound (sound s);
    stopped = stopped;
  }

  pub stops : (left : S → Option (List ℕ)) (faults : S → ℕ) (is_sound : S → Type 0) (before mid now : ReaderValue S) (stop : FeedStop) → faults before.source ≤ faults mid.source → (is_sound before.source → is_sound mid.source) → ConsumesQuiet left before mid
      → ConsumesLine left faults is_sound mid now (Nothing stop) → Answers left faults is_sound before now (Stop stop)
  stops left faults is_sound before mid now End later sound q p = record {
    given = q.given ++ p.given;
    takes = takes_then before mid now q.given p.given q.takes p.takes;
    quiet = q.quiet;
    are_quiet = q.are_quiet;
    last = [];
    unended = All-nil (λ b. b ≢ 10);
    is_quiet = no_bytes_quiet;
    consumed = after_quiet before mid q p.given [] p.nothing;
    at_end = p.at_end;
    within = p.within;
  }
  stops left faults is_sound before mid now Long later sound q p = record {
    given = q.given ++ p.given;
    takes = takes_then before mid now q.given p.given q.takes p.takes;
    quiet = q.quiet;
    are_quiet = q.are_quiet;
    front = p.front;
    unended = p.unended;
    next = p.next;
    consumed = after_quiet before mid q p.given (p.front ++ p.next ∷ []) p.consumed;
    over = p.over;
  }
  stops left faults is_sound before mid now Fault later sound q p = record {
    within = p.within;
    given = q.given ++ p.given;
    takes = takes_then before mid now q.given p.given q.takes p.takes;
    quiet = q.quiet;
    are_quiet = q.are_quiet;
    front = mid.pending ++ p.given;
    unended = p.unended;
    consumed = after_quiet before mid q p.given (mid.pending ++ p.given) refl;
    risen = risen_since (faults before.source) (faults mid.source) (faults now.source) later p.risen;
    not_sound = λ s. p.not_sound (sound s);
  }

  pub holds_more : (faults : S → ℕ) (is_sound : S → Type 0) (before mid now : ReaderValue S) → Holds faults is_sound before mid → faults mid.source ≤ faults now.source → (is_sound mid.source → is_sound now.source) → Holds faults is_sound before now
  holds_more faults is_sound before mid now h later sound = record { later = omega (arith, h.later, later); sound = λ s. sound (h.sound s) }

  pub holds_same : (faults : S → ℕ) (is_sound : S → Type 0) (before now next : ReaderValue S) → next ≡ record now { pending = [] } → Holds faults is_sound before now → Holds faults is_sound before next
  holds_same faults is_sound before now next e h = subst (λ (v : ReaderValue S). Holds faults is_sound before v) (sym e) (record { later = h.later; sound = h.sound })

  pub holds_none : (faults : S → ℕ) (is_sound : S → Type 0) (before : ReaderValue S) → Holds faults is_sound before before
  holds_none faults is_sound before = record { later = omega arith; sound = λ s. s }

  -- each line that is consumed is one byte at least
  pub consumes_some : (left : S → Option (List ℕ)) (mid now : ReaderValue S) (h : Heard) → ConsumesEnded left mid now h → 262144 + length now.pending - now.taken < 262144 + length mid.pending - mid.taken
  consumes_some left mid now h p =
      omega (arith, ap length p.consumed, length-append mid.pending p.given, length-append p.bytes (10 ∷ now.pending), p.takes.counted, p.within)

  pub at_most_one_over : (left : S → Option (List ℕ)) (faults : S → ℕ) (is_sound : S → Type 0) (before now : ReaderValue S) (next : Next) → Answers left faults is_sound before now next → now.taken ≤ 262145
  at_most_one_over left faults is_sound before now (Due line h) a = omega (arith, a.within)
  at_most_one_over left faults is_sound before now (Stop End) a = omega (arith, a.within)
  at_most_one_over left faults is_sound before now (Stop Long) a = omega (arith, a.over)
  at_most_one_over left faults is_sound before now (Stop Fault) a = omega (arith, a.within)
