use Rattle.std.proofs.Common.{◌≡◌, ◌+◌, ◌++◌, ℕ, [], drop, get_or, ap, sym, ◌∙◌, arith}
use Rattle.std.proofs.lemmas.Result.{err_from_is_err_and}
use Rattle.base_io.proofs.WriteFacts.{put_failed_next, put_with_other_error, put_nothing, put_then}
use Rattle.plans.specs.declared.bushy.Join.{Join}
use Rattle.printed_texts.specs.TreePlans.{node_line, node_lines}
use Rattle.printed_texts.proofs.PlanLines.{next_node, one_more_done}
use Rattle.printed_texts.proofs.tree.write_nodes.Goals as goal

-- `no_join` is the default for reading past the last join
abbrev no_join : Join
no_join = record { left = 0; right = 0; bound = 0 }

pub nodes-init : goal.nodes-init
nodes-init g c =
    let start : c.args.first + 0 ≡ c.args.first = omega arith in
    record { done = []; left = ap (λ (k : ℕ). node_lines k c.args.joins.now) start; put = put_nothing _ _ _ }

pub returns-in_err-write_node : goal.returns-in_err-write_node
returns-in_err-write_node g c =
    let p = err_from_is_err_and c.from_residual.result c.from_residual.ensures.1 in
    let joins = c.args.joins.now in
    let k : ℕ = c.args.first + c.nodes.i in
    let next = next_node k joins c.nodes.i no_join (omega arith) in
    put_with_other_error p.1 (put_failed_next (node_lines (k + 1) (drop (c.nodes.i + 1) joins)) (node_lines c.args.first joins)
    (ap (λ x. c.nodes.invariant.done ++ x) (sym next) ∙ c.nodes.invariant.left) c.nodes.invariant.put c.in_err-write_node.ensures)

pub nodes-preserved : goal.nodes-preserved
nodes-preserved g c =
    let joins = c.args.joins.now in
    let k : ℕ = c.args.first + c.nodes.i in
    let after : k + 1 ≡ c.args.first + (c.nodes.i + 1) = omega arith in
    let next = next_node k joins c.nodes.i no_join (omega arith) in
    record {
      done = c.nodes.invariant.done ++ node_line k (get_or joins c.nodes.i no_join);
      left = ap (λ (m : ℕ). (c.nodes.invariant.done ++ node_line k (get_or joins c.nodes.i no_join)) ++ node_lines m (drop (c.nodes.i + 1) joins)) (sym after)
          ∙ one_more_done c.nodes.invariant.done _ _ _ _ c.nodes.invariant.left next;
      put = put_then c.nodes.invariant.put c.in_ok-write_node.ensures;
    }
