use Rattle.std.proofs.Common.{◌≡◌, ◌+◌, ◌++◌, ◌<◌, ℕ, [], drop, length, get_or, ap, sym, ◌∙◌, arith}
use Rattle.std.proofs.lemmas.Result.{err_from_is_err_and}
use Rattle.base_io.proofs.WriteFacts.{put_failed_next, put_with_other_error, put_nothing, put_then}
use Rattle.plans.specs.declared.bushy.Join.{Join}
use Rattle.printed_texts.specs.TreePlans.{node_audit, node_audits}
use Rattle.printed_texts.proofs.PlanLines.{one_more_done}
use Rattle.joined_texts.specs.Printed.{node_counts}
use Rattle.joined_texts.proofs.AuditLines.{next_node_audit, node_count_at, node_counts_length}
use Rattle.joined_texts.proofs.tree_audit.put_nodes.Goals as goal

-- `no_join` is the default for reading past the last join
abbrev no_join : Join
no_join = record { left = 0; right = 0; bound = 0 }

pub nodes-init : goal.nodes-init
nodes-init g c =
    let start : c.args.first + 0 ≡ c.args.first = omega arith in
    record { done = []; left = ap (λ (k : ℕ). node_audits k c.args.joins.now (node_counts c.args.first c.args.done.now.nodes)) start; put = put_nothing _ _ _ }

pub returns-in_err-put_node : goal.returns-in_err-put_node
returns-in_err-put_node g c =
    let p = err_from_is_err_and c.from_residual.result c.from_residual.ensures.1 in
    let joins = c.args.joins.now in
    let nodes = c.args.done.now.nodes in
    let i : ℕ = c.nodes.i in
    let k : ℕ = c.args.first + i in
    let counts = node_counts c.args.first nodes in
    let few : i < length counts = omega (arith, node_counts_length c.args.first nodes, c.requires.nodes, c.nodes-test.true) in
    let rows : c.len.result ≡ get_or counts i 0 = c.len.ensures ∙ sym (node_count_at c.args.first nodes i (omega (arith, c.requires.nodes, c.nodes-test.true))) in
    let next = next_node_audit k joins counts i no_join c.len.result (omega arith) few rows in
    put_with_other_error p.1 (put_failed_next (node_audits (k + 1) (drop (i + 1) joins) (drop (i + 1) counts)) (node_audits c.args.first joins counts)
    (ap (λ x. c.nodes.invariant.done ++ x) (sym next) ∙ c.nodes.invariant.left) c.nodes.invariant.put c.in_err-put_node.ensures)

pub nodes-preserved : goal.nodes-preserved
nodes-preserved g c =
    let joins = c.args.joins.now in
    let nodes = c.args.done.now.nodes in
    let i : ℕ = c.nodes.i in
    let k : ℕ = c.args.first + i in
    let counts = node_counts c.args.first nodes in
    let few : i < length counts = omega (arith, node_counts_length c.args.first nodes, c.requires.nodes, c.nodes-test.true) in
    let rows : c.len.result ≡ get_or counts i 0 = c.len.ensures ∙ sym (node_count_at c.args.first nodes i (omega (arith, c.requires.nodes, c.nodes-test.true))) in
    let after : k + 1 ≡ c.args.first + (i + 1) = omega arith in
    let next = next_node_audit k joins counts i no_join c.len.result (omega arith) few rows in
    record {
      done = c.nodes.invariant.done ++ node_audit k (get_or joins i no_join) c.len.result;
      left = ap (λ (m : ℕ). (c.nodes.invariant.done ++ node_audit k (get_or joins i no_join) c.len.result) ++ node_audits m (drop (i + 1) joins) (drop (i + 1) counts)) (sym after)
          ∙ one_more_done c.nodes.invariant.done _ _ _ _ c.nodes.invariant.left next;
      put = put_then c.nodes.invariant.put c.in_ok-put_node.ensures;
    }
