-- A life over a store in which nothing was served.
use Rattle.std.proofs.Common.{◌≡◌, inl, inr, ℕ, List, [], ◌∷◌, Option, Some, map, refl, sym, ap, subst, ◌∙◌}
use Rattle.dm_cert.specs.Answers.{Setting}
use Rattle.dm_store.specs.declared.memory.MemStore.{MemStore}
use Rattle.dm_tail.specs.Memory.{bytes_of}
use Rattle.dm_tail.specs.declared.memory.MemFeed.{MemFeed}
use Rattle.dm_serve.specs.Lives.{IsTakenUp, KeepsBooks, LivesOn, source_of}
use Rattle.dm_lives.specs.Laws.{empty_book}
use Rattle.dm_lives.proofs.New.{new_taken_up}
use Rattle.dm_serve_cases.specs.Worked.{AreTwo, GoesOnFirst, IsNewStore, LivesFirst, of_memory}

abbrev told : MemFeed → Option (List ℕ)
told feed = Some (bytes_of feed)

sources_of : (feeds : List (Option MemFeed)) (two : AreTwo feeds) → map (source_of told) feeds ≡ map Some (bytes_of two.one ∷ bytes_of two.other ∷ [])
sources_of feeds two = ap (map (source_of told)) two.are

-- books that are kept over the store of two feeds
pub keeps_first : (s : Setting) (feeds : ℕ) (many : feeds ≡ 2) (had : List (Option MemFeed)) → AreTwo had → (old now : MemStore)
    → KeepsBooks of_memory s feeds (map (source_of (λ (feed : MemFeed). Some (bytes_of feed))) had) old now
    → IsNewStore old → LivesFirst old now
keeps_first s feeds many had two old now keeps new = record {
  setting = s;
  sources = bytes_of two.one ∷ bytes_of two.other ∷ [];
  as_many = refl;
  lives =
      subst (λ (l : List (Option (List ℕ))). LivesOn of_memory s (empty_book 2) l old now) (sources_of had two)
      (keeps [] (empty_book 2)
      (subst (λ (n : ℕ). IsTakenUp of_memory s n old [] (empty_book 2)) (sym many)
      (new_taken_up of_memory s 2 old new)));
}

-- a life of the server from there
pub goes_nowhere : (old now store : MemStore) → old ≡ store → now ≡ old → GoesOnFirst store now
goes_nowhere old now store same e = λ new. inl (e ∙ same)

pub goes_first : (s : Setting) (feeds : ℕ) (many : feeds ≡ 2) (had : List (Option MemFeed)) → AreTwo had → (old now store : MemStore) → old ≡ store
    → KeepsBooks of_memory s feeds (map (source_of (λ (feed : MemFeed). Some (bytes_of feed))) had) old now
    → GoesOnFirst store now
goes_first s feeds many had two old now store same keeps = λ new.
    inr (subst (λ (from : MemStore). LivesFirst from now) same (keeps_first s feeds many had two old now keeps (subst IsNewStore (sym same) new)))
