-- A source that tells nothing is taken for one that had left just what was given: so what a reader gave are the due items of
-- some bytes, whatever its source tells.
use Rattle.std.proofs.Common.{◌≡◌, ℕ, ◌<◌, ◌≤◌, ◌⊎◌, inl, inr, List, [], ◌∷◌, ◌++◌, length, Option, Some, None, IfSome, refl, sym, ap, subst, ◌∙◌, arith, append-nil, length-append, get_or}
use Rattle.std.proofs.Math.Seq.{get_or-append_seam}
use Rattle.dm_feed.specs.declared.grammar.Heard.{Heard}
use Rattle.dm_feed.specs.declared.feed.FeedStop.{FeedStop}
use Rattle.dm_feed.specs.declared.feed.FeedStop.TheVariants.{End, Fault, Long}
use Rattle.dm_feed.specs.declared.feed.Next.TheVariants.{Due, Stop}
use Rattle.std.specs.Io.KnownBytes.{IsAtEnd}
use Rattle.dm_feed.specs.Feeds.{IsUnended, without_return, ended, ReaderValue, IsFrontLine, GivesDue, GoesOn, Answers}
use Rattle.dm_feed.specs.DueItems.{DueItem, item, GivesInTurn, AnswersInOrder, StopsNext, GivesLines, SeesStop, StopsSo, HasFeed}
use Rattle.dm_feed.proofs.Ahead.{in_order, in_order_known, first_of_feed, ends_with}

-- a reader of a source that has these bytes left
abbrev imagined : {S : Type 0} → ReaderValue S → List ℕ → ReaderValue (List ℕ)
imagined v rest = record { source = rest; pending = v.pending; taken = v.taken; lines = v.lines; stop = v.stop }

abbrev all_left : List ℕ → Option (List ℕ)
all_left bytes = Some bytes

abbrev no_faults : List ℕ → ℕ
no_faults bytes = 0

abbrev none_sound : List ℕ → Type 0
none_sound bytes = ⊥

unended_is_not_ended : (bytes front : List ℕ) → IsUnended bytes → front ≡ bytes → (other : List ℕ) → front ≡ ended other → ⊥
unended_is_not_ended bytes front unended same other e =
    let is : ended other ≡ bytes = sym e ∙ same in
    let low : length other < length bytes = omega (arith, ap length is, length-append other (10 ∷ [])) in
    unended (length other) 0 low (ap (λ (l : List ℕ). get_or l (length other) 0) (sym is) ∙ get_or-append_seam other 10 [] 0)

module _ {S : Type 0} (left : S → Option (List ℕ)) where
  imagined_cut : {text front pending rest : List ℕ} (known : Option (List ℕ)) (bytes : List ℕ) → ((front ≡ ended bytes) × (text ≡ without_return bytes)) ⊎ ((front ≡ bytes) × (text ≡ bytes) × (0 < length bytes) × (pending ≡ []) × IsAtEnd known)
      → (((other : List ℕ) → front ≡ ended other → ⊥) → rest ≡ []) → (front ≡ bytes → (other : List ℕ) → front ≡ ended other → ⊥)
      → ((front ≡ ended bytes) × (text ≡ without_return bytes)) ⊎ ((front ≡ bytes) × (text ≡ bytes) × (0 < length bytes) × (pending ≡ []) × (rest ≡ []))
  imagined_cut known bytes (inl e) last not_ended = inl e
  imagined_cut known bytes (inr e) last not_ended = inr (e.0, e.1, e.2, e.3, last (not_ended e.0))

  imagine_cut : (text front pending rest bytes : List ℕ) (known : Option (List ℕ)) → IsUnended bytes → (((other : List ℕ) → front ≡ ended other → ⊥) → rest ≡ []) → (l : IsFrontLine text front pending known) → IsFrontLine text front pending (all_left rest)
  imagine_cut text front pending rest bytes known unended last l = record {
    bytes = l.bytes;
    unended = l.unended;
    cut = imagined_cut known l.bytes l.cut last (unended_is_not_ended l.bytes front l.unended);
  }

  imagine_on : (now : ReaderValue S) (rest : List ℕ) → (now.stop ≡ Some End → rest ≡ []) → GoesOn left now → GoesOn all_left (imagined now rest)
  imagine_on now rest last (inl e) = inl e
  imagine_on now rest last (inr e) = inr (e.0, e.1, last e.0)

  imagine_due : (before now : ReaderValue S) (line : ℕ) (h : Heard) (a : GivesDue left before now line h) (rest : List ℕ) → (now.stop ≡ Some End → rest ≡ []) → GivesDue all_left (imagined before (a.given ++ rest)) (imagined now rest) line h
  imagine_due before now line h a rest last = record {
    given = a.given;
    takes = record { consumed = refl; counted = a.takes.counted };
    quiet = a.quiet;
    are_quiet = a.are_quiet;
    front = a.front;
    consumed = a.consumed;
    text = a.text;
    is_line = imagine_cut a.text a.front now.pending rest a.is_line.bytes (left now.source) a.is_line.unended (λ none. last (a.last none)) a.is_line;
    hears = a.hears;
    is_due = a.is_due;
    number = a.number;
    lines = a.lines;
    within = a.within;
    goes_on = imagine_on now rest last a.goes_on;
    last = a.last;
  }

  -- how the imagined reader stops
  record Ends (now : ReaderValue S) (stop : FeedStop) : Type 0 where
    rest : List ℕ
    later : ReaderValue (List ℕ)
    stops : StopsNext all_left (imagined now rest) later stop
    at_end : now.stop ≡ Some End → rest ≡ []

  -- a source that had left just what was given before the stop
  ends_behind : (now later : ReaderValue S) (stop : FeedStop) (given : List ℕ) → now.taken ≤ 262144 → now.stop ≡ None → IfSome now.stop (λ first. Stop stop ≡ Stop first)
      → Answers all_left no_faults none_sound (imagined now given) (imagined later []) (Stop stop) → Ends now stop
  ends_behind now later stop given small is_open again answers = record {
    rest = given;
    later = imagined later [];
    stops = record {
      in_order = λ e. in_order all_left no_faults none_sound (imagined now given) (imagined later []) (Stop stop) given small refl answers;
      again = again;
    };
    at_end = λ e. absurd cc;
  }

  ends_first : (now later : ReaderValue S) (stop : FeedStop) → now.taken ≤ 262144 → now.stop ≡ None → SeesStop left now later stop → IfSome now.stop (λ first. Stop stop ≡ Stop first) → Ends now stop
  ends_first now later End small is_open a again =
      ends_behind now later End a.given small is_open again
      (record {
        given = a.given;
        takes = record { consumed = sym (append-nil a.given); counted = a.takes.counted };
        quiet = a.quiet;
        are_quiet = a.are_quiet;
        last = a.last;
        unended = a.unended;
        is_quiet = a.is_quiet;
        consumed = a.consumed;
        at_end = refl;
        within = a.within;
      })
  ends_first now later Long small is_open a again =
      ends_behind now later Long a.given small is_open again
      (record {
        given = a.given;
        takes = record { consumed = sym (append-nil a.given); counted = a.takes.counted };
        quiet = a.quiet;
        are_quiet = a.are_quiet;
        front = a.front;
        unended = a.unended;
        next = a.next;
        consumed = a.consumed;
        over = a.over;
      })
  ends_first now later Fault small is_open a again = record {
    rest = [];
    later = imagined later [];
    stops = record { in_order = λ e. tt; again = again };
    at_end = λ e. refl;
  }

  ends_again : (now : ReaderValue S) (stop first : FeedStop) → now.stop ≡ Some first → IfSome now.stop (λ first. Stop stop ≡ Stop first) → Ends now stop
  ends_again now stop first e again = record {
    rest = [];
    later = imagined now [];
    stops = record { in_order = λ none. (let n : now.stop ≡ None = none in absurd cc); again = again };
    at_end = λ e. refl;
  }

  ends : (now later : ReaderValue S) (stop : FeedStop) → now.taken ≤ 262144 → StopsSo left now later stop → Ends now stop
  ends now later stop small s =
      elim (now.stop) as (λ o. now.stop ≡ o → Ends now stop) [
        | None ↦ λ e. ends_first now later stop small e (s.sees e) s.again
        | Some first ↦ λ e. ends_again now stop first e s.again
      ] refl

  -- what the imagined reader gives, and how it stops
  record Gives (before : ReaderValue S) (items : List DueItem) (stop : FeedStop) : Type 0 where
    rest : List ℕ
    last : ReaderValue (List ℕ)
    later : ReaderValue (List ℕ)
    gives : GivesInTurn all_left (imagined before rest) items last
    stops : StopsNext all_left last later stop
    at_end : before.stop ≡ Some End → rest ≡ []

  gives_all : (before now later : ReaderValue S) (items : List DueItem) (stop : FeedStop) → before.taken ≤ 262144 → GivesLines left before items now → StopsSo left now later stop → Gives before items stop
  gives_all before now later [] stop small same s =
      let e = ends before later stop small (subst (λ (v : ReaderValue S). StopsSo left v later stop) (sym same) s) in
      record { rest = e.rest; last = imagined before e.rest; later = e.later; gives = refl; stops = e.stops; at_end = e.at_end }
  gives_all before now later (item line h ∷ items) stop small g s =
      let a = g.2 in
      let u = gives_all g.0 now later items stop a.within g.3 s in
      let due = imagine_due before g.0 line h a u.rest u.at_end in
      record {
        rest = a.given ++ u.rest;
        last = u.last;
        later = u.later;
        gives = (imagined g.0 u.rest, in_order all_left no_faults none_sound (imagined before (a.given ++ u.rest)) (imagined g.0 u.rest) (Due line h) (a.given ++ u.rest) small refl due, u.gives);
        stops = u.stops;
        at_end = λ e. let is_open = g.1 in absurd cc;
      }

  -- ---- where the source tells what is left

  told_in_turn : (before now : ReaderValue S) (items : List DueItem) → before.taken ≤ 262144 → GivesLines left before items now → GivesInTurn left before items now
  told_in_turn before now [] small same = same
  told_in_turn before now (item line h ∷ items) small g =
      (g.0, in_order_known left (λ s. 0) (λ s. ⊥) before g.0 (Due line h) small g.2, told_in_turn g.0 now items g.2.within g.3)

  small_behind : (before now : ReaderValue S) (items : List DueItem) → before.taken ≤ 262144 → GivesLines left before items now → now.taken ≤ 262144
  small_behind before now [] small same = subst (λ (v : ReaderValue S). v.taken ≤ 262144) same small
  small_behind before now (item line h ∷ items) small g = small_behind g.0 now items g.2.within g.3

  told_stop : (now later : ReaderValue S) (stop : FeedStop) → now.taken ≤ 262144 → SeesStop left now later stop → IfSome (left now.source) (λ rest. AnswersInOrder left now later rest (Stop stop))
  told_stop now later End small a = in_order_known left (λ s. 0) (λ s. ⊥) now later (Stop End) small a
  told_stop now later Long small a = in_order_known left (λ s. 0) (λ s. ⊥) now later (Stop Long) small a
  told_stop now later Fault small a = elim (left now.source) as (λ o. IfSome o (λ rest. AnswersInOrder left now later rest (Stop Fault))) [ None ↦ tt | Some rest ↦ tt ]

  -- ---- both

  feed_told : (before now later : ReaderValue S) (items : List DueItem) (stop : FeedStop) (bytes : List ℕ) → before.pending ≡ [] → before.taken ≡ 0 → before.lines ≡ 0 → before.stop ≡ None → GivesLines left before items now
      → StopsSo left now later stop → left before.source ≡ Some bytes → HasFeed left before items stop
  feed_told before now later items stop bytes p t l is_open g s known =
      let small : before.taken ≤ 262144 = omega (arith, t) in
      record {
        bytes = bytes;
        told = subst (λ (o : Option (List ℕ)). IfSome o (λ rest. rest ≡ bytes)) (sym known) refl;
        ends = ends_with left now later bytes items stop (first_of_feed left before now bytes items p t l is_open known (told_in_turn before now items small g))
            (record { in_order = λ e. told_stop now later stop (small_behind before now items small g) (s.sees e); again = s.again });
      }

  feed_untold : (before now later : ReaderValue S) (items : List DueItem) (stop : FeedStop) → before.pending ≡ [] → before.taken ≡ 0 → before.lines ≡ 0 → before.stop ≡ None → GivesLines left before items now
      → StopsSo left now later stop → left before.source ≡ None → HasFeed left before items stop
  feed_untold before now later items stop p t l is_open g s known =
      let small : before.taken ≤ 262144 = omega (arith, t) in
      let u = gives_all before now later items stop small g s in
      record {
        bytes = u.rest;
        told = subst (λ (o : Option (List ℕ)). IfSome o (λ rest. rest ≡ u.rest)) (sym known) tt;
        ends = ends_with all_left u.last u.later u.rest items stop (first_of_feed all_left (imagined before u.rest) u.last u.rest items p t l is_open refl u.gives) u.stops;
      }

module _ {S : Type 0} where
  pub has_feed : (left : S → Option (List ℕ)) (before now later : ReaderValue S) (items : List DueItem) (stop : FeedStop) → before.pending ≡ [] → before.taken ≡ 0 → before.lines ≡ 0 → before.stop ≡ None
      → GivesLines left before items now → StopsSo left now later stop → HasFeed left before items stop
  has_feed left before now later items stop p t l is_open g s =
      elim (left before.source) as (λ o. left before.source ≡ o → HasFeed left before items stop) [
        | None ↦ λ e. feed_untold left before now later items stop p t l is_open g s e
        | Some bytes ↦ λ e. feed_told left before now later items stop bytes p t l is_open g s e
      ] refl

  pub go_on_giving : (left : S → Option (List ℕ)) (before mid now : ReaderValue S) (items : List DueItem) (line : ℕ) (heard : Heard) → GivesLines left before items mid → mid.stop ≡ None → GivesDue left mid now line heard
      → GivesLines left before (items ++ item line heard ∷ []) now
  go_on_giving left before mid now [] line heard same is_open due =
      (now, subst (λ (v : ReaderValue S). v.stop ≡ None) (sym same) is_open, subst (λ (v : ReaderValue S). GivesDue left v now line heard) (sym same) due, refl)
  go_on_giving left before mid now (item first h ∷ items) line heard g is_open due =
      (g.0, g.1, g.2, go_on_giving left g.0 mid now items line heard g.3 is_open due)

  -- what a call answers that gives a stop first
  pub stop_seen : (left : S → Option (List ℕ)) (faults : S → ℕ) (is_sound : S → Type 0) (before now : ReaderValue S) (stop : FeedStop) → Answers left faults is_sound before now (Stop stop) → SeesStop left before now stop
  stop_seen left faults is_sound before now End a = a
  stop_seen left faults is_sound before now Long a = a
  stop_seen left faults is_sound before now Fault a = tt
