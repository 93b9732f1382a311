use Rattle.std.proofs.Common.{arith, ap, sym, ◌∙◌, ◌≡◌, ◌<◌, ◌++◌, ℕ, List, [], ◌∷◌, length, take}
use Rattle.std.proofs.lemmas.List.{map-append, take_more}
use Rattle.row_buf.specs.Rows.{Rows}
use Rattle.join_steps.specs.Lists.{list_at, lists_of}
use Rattle.join_steps.proofs.WholeScans.{length-lists_of}
use Rattle.reduced_scans.proofs.OfQuery.{read_list}
use Rattle.reduced_scans.proofs.semi_joins.copies.Goals as goal

pub scans-preserved : goal.scans-preserved
scans-preserved c =
    let scans = lists_of c.args.scans.now in
    let in_range : c.scans.entry < length c.args.scans.now = omega arith in
    let list : c.in_ok-list.list.items ≡ list_at scans c.scans.entry =
    c.in_ok-list.ensures ∙ c.as_slice.ensures ∙ read_list c.args.scans.now c.scans.entry c.index-scans-entry.result in_range c.index-scans-entry.is in
    ap lists_of c.in_ok-push.ensures.ok ∙ map-append (λ (l : Rows ℕ). l.items) c.scans.lists (c.in_ok-list.list ∷ []) ∙ ap (λ (ls : List (List ℕ)). ls ++ c.in_ok-list.list.items ∷ []) c.scans.invariant
    ∙ ap (λ (l : List ℕ). take c.scans.entry scans ++ l ∷ []) list ∙ sym (take_more scans c.scans.entry [] (omega (arith, length-lists_of c.args.scans.now)))
