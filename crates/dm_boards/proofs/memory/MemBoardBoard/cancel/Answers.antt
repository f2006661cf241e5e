use Rattle.std.proofs.Common.{refl, subst, List, ℕ}
use Rattle.dm_boards.specs.Memory.{Fails}
use Rattle.dm_boards.specs.Value.{MemBoardValue}
use Rattle.dm_boards.proofs.Setting.{sound_shows}
use Rattle.dm_boards.proofs.memory.MemBoardBoard.cancel.Goals as goal

pub returns-then-is_failing-clause-sound : goal.returns-then-is_failing-clause-sound
returns-then-is_failing-clause-sound c =
    let found = c.if-is_failing.ensures.fails.0 refl in
    let listed = subst (λ (fails : List ℕ). Fails c.self.inside.calls.made fails c.deref-2.result.now c.args.changes.now) c.deref.ensures.value found in
    let known = subst (λ (ids : List ℕ). Fails c.self.inside.calls.made c.self.inside.fails.items ids c.args.changes.now) c.deref-2.ensures.value listed in
    let fails = subst (λ (v : MemBoardValue). Fails v.made v.fails v.ids c.args.changes.now) c.self.view_is known in
    λ all. absurd (sound_shows c.args.self.now.made c.args.self.now.fails c.args.self.now.ids c.args.changes.now all fails)
