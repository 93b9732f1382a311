use Rattle.std.proofs.Common.{◌≡◌, ◌<◌, ◌^◌, sum}
use Rattle.std.proofs.lemmas.Result.{IfOk-weaker}
use Rattle.degree_sequences.specs.RunningSums.{lesser}
use Rattle.key_bounds.proofs.Made.{lesser_sum_fits}
use Rattle.key_bounds.proofs.in_sets.narrowed.Goals as goal

pub returns-then-is_carried-clause-small : goal.returns-then-is_carried-clause-small
returns-then-is_carried-clause-small c =
    IfOk-weaker c.lesser.result (λ made. made ≡ lesser c.args.list c.list_at.result.now) (λ made. sum made < 2 ^ 64)
    (λ made is. lesser_sum_fits c.args.list c.list_at.result.now made is c.requires.small) c.lesser.ensures.value
