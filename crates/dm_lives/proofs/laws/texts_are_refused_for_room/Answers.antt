use Rattle.dm_lives.proofs.Texts.{text_refused_so}
use Rattle.dm_lives.proofs.laws.texts_are_refused_for_room.Goals as goal

pub returns : goal.returns
returns g c = text_refused_so g.H.Shelf.files g.H.Shelf.is_sound
