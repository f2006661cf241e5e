-- Boards kept up one after another.
use Rattle.std.proofs.Common.{◌≡◌, ℕ, zero, suc, ◌+◌, ◌-◌, ◌<◌, ◌≤◌, Bool, true, false, eqb, List, [], ◌∷◌, ◌++◌, length, map, get_or, set, Option, Some, Result, Ok, Err, refl, sym, ap, subst, ◌∙◌, inl, inr, arith, length-append, append_assoc, ne_eqb, eq-eqb, slice_get}
use Rattle.std.specs.Prelude.{All, IsOk, OnOk, OnErr, ◌||◌}
use Rattle.std.proofs.lemmas.Bool.{cases_lt, cases_eq}
use Rattle.std.proofs.lemmas.List.{map_push, length-map, append-nil, get_or-map}
use Rattle.std.proofs.lemmas.List.Elements.{All-push}
use Rattle.std.proofs.lemmas.List.Folds.{list_any-append}
use Rattle.std.proofs.lemmas.Option.{slice_get_within, get_or_from_slice_get}
use Rattle.std.proofs.Math.Seq.{map-set_same}
use Rattle.dm_network.specs.Net.{Net}
use Rattle.dm_cert.specs.declared.notes.Note.{Note}
use Rattle.dm_outside.specs.declared.faults.Failed.{Failed}
use Rattle.dm_publish.specs.Shown.{ShowsTimes, ShowsCancelled, KeepsOthers, IsSoundFor}
use Rattle.dm_publish.specs.Value.{Published}
use Rattle.dm_publish.specs.Publishing.{has_note, IsKeptUp, IsDropped, Publishes}
use Rattle.dm_publish.specs.Inside.Refreshing.{Refreshes}
use Rattle.dm_publish.specs.Inside.Turns.{TakesTurn, is_left, is_shown, is_dropped, note_of, IsPublishedTo}
use Rattle.dm_cert.proofs.IdsRead.{rising_push}

-- ---- lists with one place set

get_at : {X : Type 0} (xs : List X) (i : ℕ) (y : X) → i < length xs → slice_get (set xs i y) i ≡ Some y
get_at [] i y lt = absurd (omega arith)
get_at (x ∷ xs) zero y lt = refl
get_at (x ∷ xs) (suc i) y lt = get_at xs i y (omega arith)

get_elsewhere : {X : Type 0} (xs : List X) (i j : ℕ) (y : X) → (j ≡ i → ⊥) → slice_get (set xs i y) j ≡ slice_get xs j
get_elsewhere [] i j y ne = refl
get_elsewhere (x ∷ xs) zero zero y ne = absurd (ne refl)
get_elsewhere (x ∷ xs) zero (suc j) y ne = refl
get_elsewhere (x ∷ xs) (suc i) zero y ne = refl
get_elsewhere (x ∷ xs) (suc i) (suc j) y ne = get_elsewhere xs i j y (λ e. ne (ap suc e))

same_some : {X : Type 0} (x y : X) → Some x ≡ Some y → x ≡ y
same_some x y e = cc

-- ---- notes of lower places

no_left : (a b : Bool) → (a || b) ≡ false → a ≡ false
no_left true b h = cc
no_left false b h = refl

none_of_low : (fresh : List Note) (at : ℕ) → All (λ (note : Note). note.board ≤ at) fresh → has_note fresh at ≡ false
none_of_low [] at h = refl
none_of_low (note ∷ fresh) at h =
    let low = h 0 note (omega arith) in
    rw (ne_eqb (at + 1) note.board (λ e. omega arith)) (none_of_low fresh at (λ k d lt. h (suc k) d (omega arith)))

or_false : (a b : Bool) → b ≡ false → (a || b) ≡ a
or_false true b h = refl
or_false false b h = h

same_note : (noted fresh mid : List Note) (at : ℕ) → mid ≡ noted ++ fresh → All (λ (note : Note). note.board ≤ at) fresh → has_note mid at ≡ has_note noted at
same_note noted fresh mid at is low =
    ap (λ (ns : List Note). has_note ns at) is
    ∙ (list_any-append (λ (note : Note). eqb (at + 1) note.board) noted fresh ∙ or_false (has_note noted at) (has_note fresh at) (none_of_low fresh at low))

or_true : (a b : Bool) → b ≡ true → (a || b) ≡ true
or_true true b h = refl
or_true false b h = h

-- ---- the turn of a board

module _ {B : Type 0} (place : B → ℕ) (times : B → Option (ℕ → Option ℕ)) (flags : B → Option (ℕ → Option Bool)) (faults : B → ℕ) (is_sound : B → ℕ → Type 0)
    (net : Net) (last x : Published) (entry : ℕ) (old : List B) (noted : List Note) where
  from_ok : {P : Type 0} (result : Result (Unit {0}) Failed) → result ≡ Ok tt → OnOk result P → P
  from_ok {P = P} result is h = let Q : Result (Unit {0}) Failed → Type 0 = λ r. OnOk r P in subst Q is h

  from_err : {P : Type 0} (result : Result (Unit {0}) Failed) (f : Failed) → result ≡ Err f → OnErr result P → P
  from_err {P = P} result f is h = let Q : Result (Unit {0}) Failed → Type 0 = λ r. OnErr r P in subst Q is h

  no_ok : (result : Result (Unit {0}) Failed) (f : Failed) → result ≡ Err f → IsOk result → ⊥
  no_ok result f is h = let e : IsOk {T = Unit {0}} (Err f) = subst (λ (r : Result (Unit {0}) Failed). IsOk r) is h in cc

  -- one that keeps its stop
  turn_stop : (at : ℕ) (mid mid' : List Note) (b b' : B) → TakesTurn place times flags faults is_sound net last x entry at mid mid' b b' → place b' ≡ place b
  turn_stop at mid mid' b b' (is_left h e s) = ap place s
  turn_stop at mid mid' b b' (is_shown h e r ok s) = s.same_stop
  turn_stop at mid mid' b b' (is_dropped h e fits r f err s) = s.same_stop

  -- notes are never taken away
  turn_notes : (at : ℕ) (mid mid' : List Note) (b b' : B) → TakesTurn place times flags faults is_sound net last x entry at mid mid' b b' →
      (i : ℕ) → has_note mid' i ≡ false → has_note mid i ≡ false
  turn_notes at mid mid' b b' (is_left h e s) i n = ap (λ (ns : List Note). has_note ns i) (sym e) ∙ n
  turn_notes at mid mid' b b' (is_shown h e r ok s) i n = ap (λ (ns : List Note). has_note ns i) (sym e) ∙ n
  turn_notes at mid mid' b b' (is_dropped h e fits r f err s) i n =
      no_left (has_note mid i) (has_note (note_of at (place b) entry ∷ []) i)
      (sym (list_any-append (λ (note : Note). eqb (i + 1) note.board) mid (note_of at (place b) entry ∷ [])) ∙ (ap (λ (ns : List Note). has_note ns i) (sym e) ∙ n))

  -- what becomes of the board
  turn_keeps : (at : ℕ) (mid mid' : List Note) (b b' : B) → has_note mid at ≡ has_note noted at →
      TakesTurn place times flags faults is_sound net last x entry at mid mid' b b' → IsKeptUp place times flags faults is_sound net last x noted mid' at b b'
  turn_keeps at mid mid' b b' same (is_left h e s) =
      let has : has_note mid' at ≡ true = ap (λ (ns : List Note). has_note ns at) e ∙ h in
      let count : faults b ≡ faults b' = ap faults (sym s) in
      record {
        later = omega arith;
        stays_sound = λ sound. subst (λ (v : B). IsSoundFor net (place v) (is_sound v)) (sym s) sound;
        left = λ _. s;
        shows = λ none. absurd (let both : true ≡ false = sym has ∙ none in cc);
        others = λ none. absurd (let both : true ≡ false = sym has ∙ none in cc);
        marks = λ none. absurd (let both : true ≡ false = sym has ∙ none in cc);
        other_marks = λ none. absurd (let both : true ≡ false = sym has ∙ none in cc);
        quiet = λ _ _. s;
      }
  turn_keeps at mid mid' b b' same (is_shown h e r ok s) =
      let free : has_note noted at ≡ false = sym same ∙ h in
      let shows = from_ok r ok s.shows in
      let others = from_ok r ok s.others in
      let marks = from_ok r ok s.marks in
      let other_marks = from_ok r ok s.other_marks in
      record {
        later = s.later;
        stays_sound = s.stays_sound;
        left = λ has. absurd (let both : true ≡ false = sym has ∙ free in cc);
        shows = λ _ some showed. subst (λ (stop : ℕ). ShowsTimes net x.times stop (times b')) (sym s.same_stop) (shows some showed);
        others = λ _. subst (λ (stop : ℕ). KeepsOthers net stop (times b) (times b')) (sym s.same_stop) others;
        marks = λ _ some showed. subst (λ (stop : ℕ). ShowsCancelled net x.cancelled stop (flags b')) (sym s.same_stop) (marks some showed);
        other_marks = λ _. subst (λ (stop : ℕ). KeepsOthers net stop (flags b) (flags b')) (sym s.same_stop) other_marks;
        quiet = s.quiet;
      }
  turn_keeps at mid mid' b b' same (is_dropped h e fits r f err s) =
      let free : has_note noted at ≡ false = sym same ∙ h in
      let own : has_note (note_of at (place b) entry ∷ []) at ≡ true = ap (λ (v : Bool). v || false) (eq-eqb (at + 1) (at + 1) refl) in
      let has : has_note mid' at ≡ true =
      ap (λ (ns : List Note). has_note ns at) e
      ∙ (list_any-append (λ (note : Note). eqb (at + 1) note.board) mid (note_of at (place b) entry ∷ [])
      ∙ or_true (has_note mid at) (has_note (note_of at (place b) entry ∷ []) at) own) in
      record {
        later = s.later;
        stays_sound = s.stays_sound;
        left = λ had. absurd (let both : true ≡ false = sym had ∙ free in cc);
        shows = λ none. absurd (let both : true ≡ false = sym has ∙ none in cc);
        others = λ none. absurd (let both : true ≡ false = sym has ∙ none in cc);
        marks = λ none. absurd (let both : true ≡ false = sym has ∙ none in cc);
        other_marks = λ none. absurd (let both : true ≡ false = sym has ∙ none in cc);
        quiet = s.quiet;
      }

  -- fewer notes ask more
  keeps_later : (at : ℕ) (mid mid' : List Note) (before now : B) → (has_note mid' at ≡ false → has_note mid at ≡ false) →
      IsKeptUp place times flags faults is_sound net last x noted mid at before now → IsKeptUp place times flags faults is_sound net last x noted mid' at before now
  keeps_later at mid mid' before now less k =
      record {
        later = k.later;
        stays_sound = k.stays_sound;
        left = k.left;
        shows = λ none. k.shows (less none);
        others = λ none. k.others (less none);
        marks = λ none. k.marks (less none);
        other_marks = λ none. k.other_marks (less none);
        quiet = k.quiet;
      }

  -- ---- the list

  pub published_none : IsPublishedTo place times flags faults is_sound net last x entry old old noted noted 0
  published_none =
      record {
        stops = refl;
        later = λ at le. refl;
        each = λ at before now lt. absurd (omega arith);
        fresh = [];
        notes = sym (append-nil noted);
        dropped = λ k d lt. absurd (omega arith);
        in_order = λ k lt. absurd (omega arith);
        low = λ k d lt. absurd (omega arith);
      }

  module _ (k : ℕ) (cur : List B) (mid : List Note) (done : IsPublishedTo place times flags faults is_sound net last x entry old cur noted mid k)
      (b b' : B) (below : k < length cur) (stands : slice_get cur k ≡ Some b) where
    stood : slice_get old k ≡ Some b
    stood = sym (done.later k (omega arith)) ∙ stands

    stops_now : place b' ≡ place b → map place (set cur k b') ≡ map place old
    stops_now same =
        let at : get_or cur k b ≡ b = get_or_from_slice_get cur k b b stands in
        map-set_same place cur k b' b (same ∙ ap place (sym at)) ∙ done.stops

    later_now : (at : ℕ) → k + 1 ≤ at → slice_get (set cur k b') at ≡ slice_get old at
    later_now at le = get_elsewhere cur k at b' (λ e. omega arith) ∙ done.later at (omega arith)

    each_now : (mid' : List Note) → (turn : TakesTurn place times flags faults is_sound net last x entry k mid mid' b b') →
        (at : ℕ) (before now : B) → at < k + 1 → slice_get old at ≡ Some before → slice_get (set cur k b') at ≡ Some now →
        IsKeptUp place times flags faults is_sound net last x noted mid' at before now
    each_now mid' turn at before now lt was is =
        elim (cases_eq at k) [
          | inl here ↦
              let b-is : b ≡ before = same_some b before (sym stood ∙ (ap (slice_get old) (sym here) ∙ was)) in
              let b'-is : b' ≡ now = same_some b' now (sym (get_at cur k b' below) ∙ (ap (slice_get (set cur k b')) (sym here) ∙ is)) in
              let kept = turn_keeps k mid mid' b b' (same_note noted done.fresh mid k done.notes done.low) turn in
              subst (λ (i : ℕ). IsKeptUp place times flags faults is_sound net last x noted mid' i before now) (sym here)
              (subst (λ (v : B). IsKeptUp place times flags faults is_sound net last x noted mid' k before v) b'-is
              (subst (λ (v : B). IsKeptUp place times flags faults is_sound net last x noted mid' k v b') b-is kept))
          | inr ne ↦
              let stands_still : slice_get cur at ≡ Some now = sym (get_elsewhere cur k at b' ne) ∙ is in
              let kept = done.each at before now (lower at k lt ne) was stands_still in
              keeps_later at mid mid' before now (turn_notes k mid mid' b b' turn at) kept
        ]
      where
        lower : (at k : ℕ) → at < k + 1 → (at ≡ k → ⊥) → at < k
        lower at k lt ne = elim (cases_lt at k) [ inl yes' ↦ yes' | inr le ↦ absurd (ne (omega arith)) ]

    -- the notes so far are of lower boards, which stand as they are
    dropped_still : All (IsDropped place faults is_sound net entry old (set cur k b') noted) done.fresh
    dropped_still j d lt =
        let was = done.dropped j d lt in
        let low = done.low j d lt in
        let named = was.named in
        record {
          at = was.at;
          before = was.before;
          now = was.now;
          stood = was.stood;
          stands = get_elsewhere cur k was.at b' (λ e. omega arith) ∙ was.stands;
          named = was.named;
          of_stop = was.of_stop;
          stop_fits = was.stop_fits;
          at_entry = was.at_entry;
          had_none = was.had_none;
          risen = was.risen;
          unsound = was.unsound;
        }

    low_still : All (λ (note : Note). note.board ≤ k + 1) done.fresh
    low_still j d lt = let h = done.low j d lt in omega arith

    published_same : (mid' : List Note) → mid' ≡ mid → TakesTurn place times flags faults is_sound net last x entry k mid mid' b b' →
        IsPublishedTo place times flags faults is_sound net last x entry old (set cur k b') noted mid' (k + 1)
    published_same mid' e turn =
        record {
          stops = stops_now (turn_stop k mid mid' b b' turn);
          later = later_now;
          each = each_now mid' turn;
          fresh = done.fresh;
          notes = e ∙ done.notes;
          dropped = dropped_still;
          in_order = done.in_order;
          low = low_still;
        }

    published_more : (mid' : List Note) → mid' ≡ mid ++ note_of k (place b) entry ∷ [] → has_note mid k ≡ false → place b ≤ 4294967295 → (r : Result (Unit {0}) Failed) (f : Failed) → r ≡ Err f →
        Refreshes place times flags faults is_sound net last x b b' r → TakesTurn place times flags faults is_sound net last x entry k mid mid' b b' →
        IsPublishedTo place times flags faults is_sound net last x entry old (set cur k b') noted mid' (k + 1)
    published_more mid' e none fits r f err s turn =
        let note : Note = note_of k (place b) entry in
        let free : has_note noted k ≡ false = sym (same_note noted done.fresh mid k done.notes done.low) ∙ none in
        let new : IsDropped place faults is_sound net entry old (set cur k b') noted note = record {
          at = k;
          before = b;
          now = b';
          stood = stood;
          stands = get_at cur k b' below;
          named = refl;
          of_stop = refl;
          stop_fits = fits;
          at_entry = refl;
          had_none = free;
          risen = from_err r f err s.risen;
          unsound = λ sound. no_ok r f err (s.succeeds sound);
        } in
        record {
          stops = stops_now s.same_stop;
          later = later_now;
          each = each_now mid' turn;
          fresh = done.fresh ++ note ∷ [];
          notes = e ∙ (ap (λ (ns : List Note). ns ++ note ∷ []) done.notes ∙ append_assoc noted done.fresh (note ∷ []));
          dropped = All-push (IsDropped place faults is_sound net entry old (set cur k b') noted) done.fresh note dropped_still new;
          in_order = rw (map_push (λ (n : Note). n.board) done.fresh note) (rising_push (map (λ (n : Note). n.board) done.fresh) (k + 1) done.in_order lower_boards);
          low = All-push (λ (n : Note). n.board ≤ k + 1) done.fresh note low_still (omega arith);
        }
      where
        lower_boards : All (λ n. n < k + 1) (map (λ (n : Note). n.board) done.fresh)
        lower_boards j d lt =
            let l = length-map done.fresh (λ (n : Note). n.board) in
            let e = get_or-map (λ (n : Note). n.board) done.fresh j (note_of 0 0 0) d (omega arith) in
            let h = done.low j (note_of 0 0 0) (omega arith) in
            omega arith

    pub published_next : (mid' : List Note) → TakesTurn place times flags faults is_sound net last x entry k mid mid' b b' →
        IsPublishedTo place times flags faults is_sound net last x entry old (set cur k b') noted mid' (k + 1)
    published_next mid' (is_left h e s) = published_same mid' e (is_left h e s)
    published_next mid' (is_shown h e r ok s) = published_same mid' e (is_shown h e r ok s)
    published_next mid' (is_dropped h e fits r f err s) = published_more mid' e h fits r f err s (is_dropped h e fits r f err s)

  pub as_long : (new : List B) (mid : List Note) (k : ℕ) → IsPublishedTo place times flags faults is_sound net last x entry old new noted mid k → length new ≡ length old
  as_long new mid k done = sym (length-map new place) ∙ (ap length done.stops ∙ length-map old place)

  pub published_all : (k : ℕ) (new : List B) (mid : List Note) (count : ℕ) → IsPublishedTo place times flags faults is_sound net last x entry old new noted mid k →
      k ≡ length old → count ≡ length mid - length noted → Publishes place times flags faults is_sound net last x entry old new noted mid count
  published_all k new mid count done all number =
      let l = length-append noted done.fresh in
      let e : length mid ≡ length (noted ++ done.fresh) = ap length done.notes in
      record {
        stops = done.stops;
        each = λ at before now was is. let within = slice_get_within old at before was in done.each at before now (omega arith) was is;
        fresh = done.fresh;
        notes = done.notes;
        number = omega arith;
        dropped = done.dropped;
        in_order = done.in_order;
      }
