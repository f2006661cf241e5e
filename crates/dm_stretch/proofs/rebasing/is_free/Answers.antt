use Rattle.std.proofs.Common.{sym, ◌∙◌}
use Rattle.dm_rows.specs.Decide.{is_free_change, is_free_pair}
use Rattle.dm_paths.proofs.Open.{is_within, place_is_listed, none_is_listed, listed_at_place}
use Rattle.dm_stretch.proofs.rebasing.is_free.Goals as goal

pub is_free_at-requires-clause-within : goal.is_free_at-requires-clause-within
is_free_at-requires-clause-within c = is_within c.args.net.now c.args.choice c.in-Some.place c.in-Some.ensures.some

pub returns-in-Some : goal.returns-in-Some
returns-in-Some c =
    let net = c.args.net.now in
    let rows = c.args.rows.now in (
      λ h. place_is_listed net (is_free_change net rows) (is_free_pair net rows) c.args.choice c.in-Some.place c.in-Some.ensures.some
          (sym c.is_free_at.ensures ∙ h),
      λ o. c.is_free_at.ensures
          ∙ listed_at_place net (is_free_change net rows) (is_free_pair net rows) c.reveal.ensures.network c.args.choice c.in-Some.place c.in-Some.ensures.some o,
    )

pub returns-in-None : goal.returns-in-None
returns-in-None c =
    let net = c.args.net.now in
    let rows = c.args.rows.now in (
      λ h. absurd cc,
      λ o. absurd (none_is_listed net (is_free_change net rows) (is_free_pair net rows) c.args.choice c.in-None.ensures.none o),
    )
