-- Feeds that are opened one after another.
use Rattle.std.proofs.Common.{◌≡◌, ℕ, ◌+◌, ◌<◌, Bor, List, [], ◌∷◌, ◌++◌, length, map, Option, Some, None, inl, inr, sym, ap, subst, ◌∙◌, arith, length-append, slice_get, get_or}
use Rattle.std.proofs.lemmas.List.{get_or-map, length-map}
use Rattle.std.proofs.lemmas.Option.{slice_get-get_or}
use Rattle.dm_input.specs.Input.{Told, IsHeld}
use Rattle.dm_input.specs.Stops.{IsKept}
use Rattle.dm_rounds.proofs.Places.{behind_push}
use Rattle.dm_commands.specs.Inside.Stages.{IsOpened, OpenedFirst, AreOpened}

some_same : {X : Type 0} {x y : X} → Some x ≡ Some y → x ≡ y
some_same e = cc

pub kept_then : {H : Type 0} (files : H → Told) (is_sound : H → List ℕ → Type 0) (a b c : H) → IsKept files is_sound a b → IsKept files is_sound b c → IsKept files is_sound a c
kept_then files is_sound a b c one two = record { same = two.same ∙ one.same; sound = λ name s. two.sound name (one.sound name s) }

opened_before : {S : Type 0} (left : S → Option (List ℕ)) (source_sound : S → Type 0) (told before : Told) (is_sound sound_before : List ℕ → Type 0) (name : List ℕ) (feed : Option S) → told ≡ before → ((n : List ℕ) → sound_before n → is_sound n)
    → IsOpened left source_sound told is_sound name feed → IsOpened left source_sound before sound_before name feed
opened_before left source_sound told before is_sound sound_before name (Some source) same sound o = record {
  held = λ bytes is. subst (λ (t : Told). IsHeld t name bytes) same (o.held bytes is);
  untold = λ is. sym same ∙ o.untold is;
  sound = λ s. o.sound (sound name s);
}
opened_before left source_sound told before is_sound sound_before name None same sound o = λ s. o (sound name s)

pub one_opened : {S : Type 0} (left : S → Option (List ℕ)) (source_sound : S → Type 0) (told before : Told) (is_sound sound_before : List ℕ → Type 0) (names : List (List ℕ)) (k : ℕ) (feeds now : List (Option S)) (name : List ℕ) (feed : Option S) → slice_get names k ≡ Some name → told ≡ before
    → ((n : List ℕ) → sound_before n → is_sound n) → IsOpened left source_sound told is_sound name feed → now ≡ feeds ++ feed ∷ [] → OpenedFirst left source_sound before sound_before names k feeds → OpenedFirst left source_sound before sound_before names (k + 1) now
one_opened left source_sound told before is_sound sound_before names k feeds now name feed at same sound opened is o =
    let P : List (Option _) → Type 0 = λ l. OpenedFirst left source_sound before sound_before names (k + 1) l in
    subst P (sym is)
    (record {
      as_many = omega (arith, o.as_many, length-append feeds (feed ∷ []));
      each = λ j n f ne fe.
          elim (behind_push feeds feed j f fe) [
            | inl old ↦ o.each j n f ne old
            | inr new ↦
                let here : j ≡ k = new.0 ∙ o.as_many in
                let same_name : n ≡ name = some_same (sym ne ∙ (ap (slice_get names) here ∙ at)) in
                let Q : List ℕ → Type 0 = λ x. IsOpened left source_sound before sound_before x f in
                let R : Option _ → Type 0 = λ x. IsOpened left source_sound before sound_before name x in
                subst Q (sym same_name) (subst R (sym new.1) (opened_before left source_sound told before is_sound sound_before name feed same sound opened))
          ];
    })

pub all_opened : {S : Type 0} (left : S → Option (List ℕ)) (source_sound : S → Type 0) (told : Told) (is_sound : List ℕ → Type 0) (names : List (List ℕ)) (k : ℕ) (feeds : List (Option S)) → length names ≡ k → OpenedFirst left source_sound told is_sound names k feeds → AreOpened left source_sound told is_sound names feeds
all_opened left source_sound told is_sound names k feeds size o = record { as_many = o.as_many ∙ sym size; each = o.each }

-- the name that stands at a place
abbrev now_of : Bor (List ℕ) → List ℕ
now_of name = name.now

pub as_many_names : (names : List (Bor (List ℕ))) → length (map (λ name. name.now) names) ≡ length names
as_many_names names = length-map names now_of

pub name_at : (names : List (Bor (List ℕ))) (k : ℕ) (d : Bor (List ℕ)) → k < length names → slice_get (map (λ name. name.now) names) k ≡ Some (get_or names k d).now
name_at names k d low =
    slice_get-get_or (map (λ name. name.now) names) k d.now (omega (arith, as_many_names names)) ∙ ap Some (get_or-map now_of names k d d.now low)

-- what was opened over a shelf that tells what it told before
pub opened_at_entry : {S : Type 0} (left : S → Option (List ℕ)) (source_sound : S → Type 0) (told before : Told) (is_sound sound_before : List ℕ → Type 0) (names : List (List ℕ)) (feeds : List (Option S)) → told ≡ before → ((n : List ℕ) → sound_before n → is_sound n)
    → AreOpened left source_sound told is_sound names feeds → AreOpened left source_sound before sound_before names feeds
opened_at_entry left source_sound told before is_sound sound_before names feeds same sound o = record {
  as_many = o.as_many;
  each = λ k name feed n f. opened_before left source_sound told before is_sound sound_before name feed same sound (o.each k name feed n f);
}
