use Rattle.std.proofs.Common.{◌≡◌, ℕ, ◌<◌, ◌^◌, [], ◌∷◌, ◌++◌, length, Some, ap, sym, subst, ◌∙◌}
use Rattle.dm_turn.proofs.Keeps.{opens}
use Rattle.dm_turn.proofs.turn.Turn.new.Goals as goal

pub new-requires : goal.new-requires
new-requires g c =
    let count : c.entries.result ≡ length (g.S.HasHistory.history c.of.result.value) = c.entries.ensures ∙ ap (λ s. length (g.S.HasHistory.history s)) (sym c.of.ensures) in
    let items : c.push.new.self.items ≡ Some c.of.result.value ∷ [] =
    c.in_ok-push.ensures.items ∙ (ap (λ xs. xs ++ Some c.args.state ∷ []) c.in_ok-slots.ensures.items ∙ ap (λ s. Some s ∷ []) (sym c.of.ensures)) in
    rw (count, items) (opens g.S.HasHistory.history g.S.HasHistory.base c.of.result.value c.args.seats c.requires c.ranges.seats.fits
    (subst (λ (n : ℕ). n < 2 ^ 32) count c.entries.type_inv))
