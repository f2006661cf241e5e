use Rattle.std.proofs.Common.{◌<◌, subst, sym, IfSome}
use Rattle.dm_outside.specs.declared.shelves.MemFile.{MemFile}
use Rattle.dm_outside.specs.Memory.{is_named}
use Rattle.dm_outside.proofs.Files.{IfSome-find}
use Rattle.dm_outside.proofs.shelves.MemShelfShelf.open.Goals as goal

pub new-requires : goal.new-requires
new-requires c =
    let P : MemFile → Type 0 = λ file. 0 < file.piece
    in subst (λ found. IfSome found P) (sym c.in-Some.ensures)
    (IfSome-find P (is_named c.args.name.now) c.self.inside.files.now c.self.invariant)
