use Rattle.std.proofs.Common.{◌++◌, map, ap, ◌∙◌, append_assoc}
use Rattle.std.specs.List.{range_with_len}
use Rattle.std.proofs.lemmas.Result.{on_ok_weaker}
use Rattle.dm_gen.specs.Activities.{drive, wait, links_of_train}
use Rattle.dm_gen.proofs.links.put_train.Goals as goal

pub returns : goal.returns
unfolding links_of_train
returns c =
    on_ok_weaker c.put_waits.result
    (λ h. h ∙ ap (λ r. r ++ map (wait c.args.train) (range_with_len 0 9)) c.in_ok-put_drives.ensures
    ∙ append_assoc c.args.links.now.items (map (drive c.args.train) (range_with_len 0 10)) (map (wait c.args.train) (range_with_len 0 9)))
    c.put_waits.ensures
