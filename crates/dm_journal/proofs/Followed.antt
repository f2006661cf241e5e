-- A source that is followed to its end.
use Rattle.std.proofs.Common.{◌≡◌, ℕ, ◌+◌, ◌<◌, ◌≤◌, List, [], ◌++◌, length, Option, Some, None, Result, Ok, Err, refl, sym, ap, subst, ◌∙◌, arith, append_assoc, append-nil, length-append}
use Rattle.std.specs.Io.KnownBytes.{Consumes, IsAtEnd}
use Rattle.std.proofs.KnownBytes.{Consumes-nil, Consumes-trans}
use Rattle.dm_base.specs.declared.limits.TheConstants.{TEXT}
use Rattle.dm_outside.specs.Shelf.{Opens}
use Rattle.dm_outside.specs.Taking.{TakesCount}
use Rattle.dm_outside.specs.declared.faults.TakeFault.{TakeFault}
use Rattle.dm_outside.specs.declared.faults.TakeFault.TheVariants.{ReadFault as NotRead, TooLong as TooMany, OutOfMemory as Short}
use Rattle.dm_network.specs.Net.{Net}
use Rattle.dm_rows.specs.Rows.{RowsValue}
use Rattle.dm_input.specs.Input.{Told, IsHeld}
use Rattle.dm_input.specs.Stops.{IsLong}
use Rattle.dm_follow.specs.Follower.{FollowerValue}
use Rattle.dm_journal.specs.declared.giving.BrokenLine.{BrokenLine}
use Rattle.dm_journal.specs.declared.giving.Journal.{Journal}
use Rattle.dm_journal.specs.declared.giving.Journal.TheVariants.{Broken}
use Rattle.dm_journal.specs.Journals.{IsFollowerOf, IsJournal, ReadsJournal}
use Rattle.dm_journal.specs.Inside.Giving.{GivesMore, GivesWhole, FollowsPiece, IsGiven, IsNewFollower, ReadsFollowing, ReadsSource, ReadsWhole}
use Rattle.dm_journal.proofs.Given.{new_given}

-- these bytes were given so far, at most one above the limit, through a piece of this size
pub record Following {S : Type 0} (left : S → Option (List ℕ)) (is_sound : S → Type 0) (before now : S) (old new : FollowerValue) (broken : Option BrokenLine) (count size : ℕ) : Type 0 where
  pub bytes : List ℕ
  pub consumed : Consumes (left before) (left now) bytes
  pub counted : count ≡ length bytes
  pub short : count ≤ TEXT + 1
  pub sound : is_sound before → is_sound now
  pub piece : size ≡ 4096
  pub gives : GivesMore old None new broken bytes

none_more : (f : FollowerValue) → GivesMore f None f None []
none_more f net rows penalty before is = subst (IsGiven net rows penalty f None) (sym (append-nil before)) is

module _ {S : Type 0} (left : S → Option (List ℕ)) (is_sound : S → Type 0) where
  pub following_none : (s : S) (f : FollowerValue) (size : ℕ) → size ≡ 4096 → Following left is_sound s s f f None 0 size
  following_none s f size piece =
      record { bytes = []; consumed = Consumes-nil (left s); counted = refl; short = omega arith; sound = λ h. h; piece = piece; gives = none_more f }

  pub following_more : (a b c : S) (old mid new : FollowerValue) (broken now : Option BrokenLine) (count size taken : ℕ) → Following left is_sound a b old mid broken count size → FollowsPiece (left b) (left c) mid broken new now taken →
      (is_sound b → is_sound c) → count + taken ≤ TEXT + 1 → Following left is_sound a c old new now (count + taken) size
  following_more a b c old mid new broken now count size taken f p sound short = record {
    bytes = f.bytes ++ p.bytes;
    consumed = Consumes-trans (left a) (left b) (left c) f.bytes p.bytes f.consumed p.consumed;
    counted = omega (arith, f.counted, p.exact, length-append f.bytes p.bytes);
    short = short;
    sound = λ h. sound (f.sound h);
    piece = f.piece;
    gives = λ net rows penalty before is.
        subst (IsGiven net rows penalty new now) (append_assoc before f.bytes p.bytes) (p.gives net rows penalty (before ++ f.bytes) (f.gives net rows penalty before is));
  }

  -- the source is at its end
  pub followed_all : (a b c : S) (old mid new : FollowerValue) (broken now : Option BrokenLine) (count size taken : ℕ) → Following left is_sound a b old mid broken count size → FollowsPiece (left b) (left c) mid broken new now taken →
      (is_sound b → is_sound c) → taken ≡ 0 → count ≤ TEXT → GivesWhole (left a) (left c) old new now
  followed_all a b c old mid new broken now count size taken f p sound none short =
      let all = following_more a b c old mid new broken now count size taken f p sound (omega (arith, none, short)) in
      record { bytes = all.bytes; consumed = all.consumed; at_end = p.at_end none; short = omega (arith, all.counted, none, short); gives = all.gives }

  -- more bytes were there than a text may have
  pub followed_long : (a b : S) (old new : FollowerValue) (broken : Option BrokenLine) (count size : ℕ) → Following left is_sound a b old new broken count size → TEXT < count → TakesCount (TEXT + 1) (left a) (left b)
  followed_long a b old new broken count size f long = record { given = f.bytes; exact = omega (arith, f.counted, f.short, long); consumed = f.consumed }

-- a source that is not followed to its end is not read
pub source_stops : {S : Type 0} (left : S → Option (List ℕ)) (is_sound : S → Type 0) (a b : S) (old new f : FollowerValue) (fault : TakeFault) → ReadsFollowing left is_sound a b old new (Err fault) → ReadsSource left is_sound a b f (Err fault)
source_stops left is_sound a b old new f NotRead reads = reads
source_stops left is_sound a b old new f TooMany reads = reads
source_stops left is_sound a b old new f Short reads = tt

-- what a follower carries that has taken all bytes
pub carries_all : (left_before left_now : Option (List ℕ)) (old new : FollowerValue) (broken : Option BrokenLine) (journal : Journal) → broken ≡ None → GivesWhole left_before left_now old new broken →
    ((net : Net) (rows : RowsValue) (penalty : ℕ) (bytes : List ℕ) → IsFollowerOf net rows penalty bytes new → IsJournal net rows penalty bytes journal) → ReadsWhole left_before left_now old journal
carries_all left_before left_now old new broken journal none whole of =
    let w : GivesWhole left_before left_now old new None = subst (λ (b : Option BrokenLine). GivesWhole left_before left_now old new b) none whole in
    record { bytes = w.bytes; consumed = w.consumed; at_end = w.at_end; short = w.short; carries = λ net rows penalty is. of net rows penalty w.bytes (w.gives net rows penalty [] (new_given net rows penalty old is)) }

pub carries_line : (left_before left_now : Option (List ℕ)) (old new : FollowerValue) (broken : Option BrokenLine) (line : BrokenLine) → broken ≡ Some line → GivesWhole left_before left_now old new broken → ReadsWhole left_before left_now old (Broken line)
carries_line left_before left_now old new broken line some whole =
    let w : GivesWhole left_before left_now old new (Some line) = subst (λ (b : Option BrokenLine). GivesWhole left_before left_now old new b) some whole in
    record { bytes = w.bytes; consumed = w.consumed; at_end = w.at_end; short = w.short; carries = λ net rows penalty is. w.gives net rows penalty [] (new_given net rows penalty old is) }

-- ---- names

bytes_held : (told : Told) (name bytes : List ℕ) (left_before left_now : Option (List ℕ)) → Opens told name left_before → Consumes left_before left_now bytes → IsAtEnd left_now → IsHeld told name bytes
bytes_held None name bytes left_before left_now opens consumed at_end = tt
bytes_held (Some files) name bytes None left_now opens consumed at_end = absurd (let e = opens.1 in let some = opens.0 in cc (e, some))
bytes_held (Some files) name bytes (Some xs) None opens consumed at_end = absurd consumed
bytes_held (Some files) name bytes (Some xs) (Some ys) opens consumed at_end =
    sym opens.1 ∙ ap Some (consumed ∙ (ap (λ (r : List ℕ). bytes ++ r) at_end ∙ append-nil bytes))

bytes_long : (told : Told) (name : List ℕ) (left_before left_now : Option (List ℕ)) → Opens told name left_before → TakesCount (TEXT + 1) left_before left_now → (some : List ℕ) → TEXT < length some → IsLong told name TEXT
bytes_long None name left_before left_now opens t some long = record { bytes = some; held = tt; long = long }
bytes_long (Some files) name None left_now opens t some long = absurd (let e = opens.1 in let is = opens.0 in cc (e, is))
bytes_long (Some files) name (Some xs) None opens t some long = absurd t.consumed
bytes_long (Some files) name (Some xs) (Some ys) opens t some long =
    record { bytes = xs; held = sym opens.1; long = omega (arith, ap length t.consumed, length-append t.given ys, t.exact) }

-- what the source of a name gives is what the name gives
pub reads_name : {S : Type 0} (left : S → Option (List ℕ)) (source_sound : S → Type 0) (told : Told) (is_sound : List ℕ → Type 0) (name : List ℕ) (a b : S) (net : Net) (rows : RowsValue) (penalty : ℕ) (f : FollowerValue) (result : Result Journal TakeFault) →
    Opens told name (left a) → (is_sound name → source_sound a) → IsNewFollower net rows penalty f → ReadsSource left source_sound a b f result → ReadsJournal told is_sound name net rows penalty result
reads_name left source_sound told is_sound name a b net rows penalty f (Ok journal) opens sound new reads =
    record { bytes = reads.bytes; held = bytes_held told name reads.bytes (left a) (left b) opens reads.consumed reads.at_end; short = reads.short; is_journal = reads.carries net rows penalty new }
reads_name left source_sound told is_sound name a b net rows penalty f (Err NotRead) opens sound new reads = λ h. reads (sound h)
reads_name left source_sound told is_sound name a b net rows penalty f (Err TooMany) opens sound new reads = bytes_long told name (left a) (left b) opens reads reads.given (omega (arith, reads.exact))
reads_name left source_sound told is_sound name a b net rows penalty f (Err Short) opens sound new reads = tt
