use Rattle.std.proofs.Common.{◌≡◌, length, rules, sym, ◌∙◌, vec_len}
use Rattle.std.proofs.lemmas.Result.{IfOk-weaker}
use Rattle.dm_team.proofs.Handing.{all_given}
use Rattle.dm_team.proofs.finding.work_all.Goals as goal

pub returns : goal.returns
returns g c =
    all_given _ _ _ _ _ c.args.mustered.items (λ worked. worked.items) c.map_vec.result (λ w r call. let met = call.met in search rules)
    (IfOk-weaker c.map_vec.result (λ worked. vec_len worked ≡ vec_len c.args.mustered) (λ worked. length worked.items ≡ length c.args.mustered.items) (λ worked e. sym worked.ok.0 ∙ (e ∙ c.args.mustered.ok.0)) c.map_vec.ensures.len) c.map_vec.ensures.each
