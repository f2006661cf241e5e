use Rattle.std.proofs.Common.{List, length, ◌<◌, ◌^◌, sym, subst, ◌∙◌}
use Rattle.dm_gen.specs.declared.links.Link.{Link}
use Rattle.dm_gen.proofs.Sizing.{few_links}
use Rattle.dm_gen.proofs.activities.activities_of.Goals as goal

pub numbered-requires : goal.numbered-requires
numbered-requires c =
    let P : List Link → Type 0 = λ links. length links < 2 ^ 32 in
    subst P (sym (c.deref.ensures.value ∙ c.in_ok-links.ensures)) (few_links c.args.trains c.requires)
