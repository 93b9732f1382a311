use Rattle.std.proofs.Common.{◌∙◌, map, ap}
use Rattle.join_graph.specs.Naming.{part_of}
use Rattle.join_graph.proofs.Numbering.{local_is, residual_is, equalities_are}
use Rattle.join_graph.proofs.splitting.split.Goals as goal

pub returns-clause-local : goal.returns-clause-local
returns-clause-local c =
    c.in_ok-numbers_by_entry.ensures ∙ local_is c.args.query.now c.as_slice-parts.result.now c.len.result
    (c.as_slice-parts.ensures.value ∙ c.in_ok-parts.ensures ∙ ap (map part_of) c.as_slice.ensures) c.len.ensures

pub returns-clause-equalities : goal.returns-clause-equalities
returns-clause-equalities c =
    c.from_vec.ensures ∙ c.in_ok-equalities_in.ensures ∙ equalities_are c.args.query.now c.as_slice-parts.result.now
    (c.as_slice-parts.ensures.value ∙ c.in_ok-parts.ensures ∙ ap (map part_of) c.as_slice.ensures)

pub returns-clause-residual : goal.returns-clause-residual
returns-clause-residual c =
    c.in_ok-numbers_in.ensures ∙ residual_is c.args.query.now c.as_slice-parts.result.now
    (c.as_slice-parts.ensures.value ∙ c.in_ok-parts.ensures ∙ ap (map part_of) c.as_slice.ensures)
