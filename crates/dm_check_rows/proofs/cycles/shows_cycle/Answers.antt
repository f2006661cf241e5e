use Rattle.std.proofs.Common.{refl, arith}
use Rattle.std.proofs.lemmas.List.{drop_more}
use Rattle.dm_check_rows.proofs.Walked.{back_begins, back_goes, no_way, no_first, walk_begins, walk_goes, walk_ends}
use Rattle.dm_check_rows.proofs.cycles.shows_cycle.Goals as goal

pub returns-in_default : goal.returns-in_default
returns-in_default c = no_first c.args.net.now c.reveal.ensures.network c.args.rows.now c.args.ids.now c.in_default.ensures

pub loop-id-init : goal.loop-id-init
loop-id-init c = record {
  walked = walk_begins c.args.net.now c.reveal.ensures.network c.args.rows.now c.in-Some.start c.args.ids.now;
  back = back_begins c.args.net.now c.reveal.ensures.network c.args.rows.now c.in-Some.start c.args.ids.now c.in-Some.ensures;
}

pub returns-in_default-follow : goal.returns-in_default-follow
returns-in_default-follow c = λ shows.
    no_way c.args.net.now c.reveal.ensures.network c.args.rows.now c.in-Some.start c.args.ids.now c.loop-id.id-index c.loop-id.at _ _
    (drop_more c.args.ids.now c.loop-id.id-index (record { 0 = 0 }) c.loop-id-test.true) (c.loop-id.invariant.back shows) c.in_default-follow.ensures

pub loop-id-preserved : goal.loop-id-preserved
loop-id-preserved c = record {
  walked = walk_goes c.args.net.now c.reveal.ensures.network c.args.rows.now c.in-Some.start c.args.ids.now c.loop-id.id-index c.loop-id.at c.in-Some-follow.next (record { 0 = 0 }) c.loop-id-test.true
      c.loop-id.invariant.walked c.in-Some-follow.ensures;
  back = λ shows.
      back_goes c.args.net.now c.reveal.ensures.network c.args.rows.now c.in-Some.start c.args.ids.now c.loop-id.id-index c.loop-id.at c.in-Some-follow.next _ _
      (drop_more c.args.ids.now c.loop-id.id-index (record { 0 = 0 }) c.loop-id-test.true) refl (c.loop-id.invariant.back shows) c.in-Some-follow.ensures;
}

pub returns : goal.returns
returns c =
    walk_ends c.args.net.now c.reveal.ensures.network c.args.rows.now c.in-Some.start c.args.ids.now c.loop-id.id-index c.loop-id.at _ refl c.in-Some.ensures (omega arith)
    c.loop-id.invariant.walked c.loop-id.invariant.back
