-- Lives of a server over one store: each begins with what the one before left.
use Rattle.std.specs.Prelude.{◌≡◌, List, [], ◌∷◌, length, map, All}
use Rattle.dm_cert.specs.Answers.{Setting}
use Rattle.dm_store.specs.Calls.{AreFronts, Image}
use Rattle.dm_book.specs.Books.{Book, IsBookIn, IsFrontBook, IsSafe, IsTrueBook, reply_text}

-- a true book has no other beside it with the same logs
abbrev pub BooksAreOne : Type 0
BooksAreOne = (s : Setting) (one other : Book) → IsTrueBook s one → IsTrueBook s other → one.logs ≡ other.logs → one ≡ other

-- What a crash left of one life, and what it might have left at moments before that.
pub record Crashed : Type 0 where
  pub earlier : List Image
  pub image : Image

-- what an earlier image showed is still shown: a front of what the later one shows
abbrev pub ShowsStill : Image → Image → Type 0
ShowsStill later image = AreFronts image.shown later.shown

-- A life that began with the first book and was crashed: all that it might have left is safe between that book and one last book,
-- whatever this was. A later life begins with the true book of so many feeds that it finds in the blocks that were left.
pub record IsLife (s : Setting) (first : Book) (crashed : Crashed) (found : Book) : Type 0 where
  pub last : Book
  pub all_safe : All (IsSafe s first last) crashed.earlier
  pub still : All (ShowsStill crashed.image) crashed.earlier
  pub safe : IsSafe s first last crashed.image
  pub feeds : length found.logs ≡ length first.logs
  pub is_in : IsBookIn s safe.contents found
  pub is_true : IsTrueBook s found

-- Lives one after the other, each begun with the book that was found in what the one before left: what was left of them, and the book
-- that is found in the last one.
abbrev pub AreLives : Setting → Book → List Crashed → Book → Type 0
AreLives s first [] last = first ≡ last
AreLives s first (crashed ∷ lives) last = (found : Book) × IsLife s first crashed found × AreLives s found lives last

-- all that the image showed is a front of the logs of the book
abbrev pub ShowsFronts : Book → Image → Type 0
ShowsFronts book image = AreFronts image.shown (map reply_text book.logs)

-- all that the lives showed, at each of the moments, is a front of the book's logs
abbrev pub AllShowFronts : Book → List Crashed → Type 0
AllShowFronts book [] = Unit {0}
AllShowFronts book (crashed ∷ lives) = ShowsFronts book crashed.image × All (ShowsFronts book) crashed.earlier × AllShowFronts book lives

pub record EndsWhole (first : Book) (lives : List Crashed) (last : Book) : Type 0 where
  pub grows : IsFrontBook first last
  pub shown : AllShowFronts last lives

abbrev pub LivesAreOne : Type 0
LivesAreOne = (s : Setting) (first last : Book) (lives : List Crashed) → AreLives s first lives last → EndsWhole first lives last
