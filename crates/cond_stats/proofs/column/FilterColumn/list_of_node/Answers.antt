use Rattle.std.proofs.Common.{◌≡◌, ◌<◌, ◌+◌, ◌-◌, ◌*◌, ◌/◌, ℕ, List, drop, length, length-take, length-drop, get_or, ap, sym, subst, ◌∙◌, arith}
use Rattle.std.specs.List.{All, zip}
use Rattle.std.specs.Prelude.{slice_range}
use Rattle.std.proofs.lemmas.Result.{IfOk-weaker}
use Rattle.std.proofs.lemmas.List.Elements.{All-take, All-drop}
use Rattle.cond_stats.specs.Columns.{CellColumn, cell_le}
use Rattle.cond_stats.specs.Lists.{compressed_degrees, list_of_node}
use Rattle.cond_stats.specs.Sorted.{keys_at}
use Rattle.cond_stats.proofs.OnDemand.{places_are_rows, places_as_long_as_column, default_is_zero, node_within, starts_ascend, node_list}
use Rattle.cond_stats.proofs.column.FilterColumn.list_of_node.Goals as goal

pub places_between-places-requires-clause-order : goal.places_between-places-requires-clause-order
places_between-places-requires-clause-order c =
    let joined : List ℕ = c.args.joined.now in
    let starts : List ℕ = c.self.inside.starts.items in
    let same : length joined ≡ length c.self.inside.cells.now = c.requires.joined ∙ ap (λ (v : CellColumn). length v.cells) (sym c.self.view_is) in
    let size : ℕ = c.args.size in
    let first : ℕ = c.args.leaf / size * size in
    let node = node_within size c.args.leaf c.requires.size c.requires.leaf in
    let from_is : c.index-from.result.now ≡ get_or starts first 0 = default_is_zero starts first c.index-from.result.now c.index-from.result.now (omega (arith, c.self.invariant.starts_are.length_is, node.1)) c.index-from.ensures in
    let to_is : c.index-to.result.now ≡ get_or starts (first + size) 0 = default_is_zero starts (first + size) c.index-to.result.now c.index-to.result.now (omega (arith, c.self.invariant.starts_are.length_is, node.1)) c.index-to.ensures in
    omega (arith, from_is, to_is, starts_ascend c.self.invariant joined same first (first + size) (omega arith) node.1)

pub places_between-places-requires-clause-within : goal.places_between-places-requires-clause-within
places_between-places-requires-clause-within c =
    let joined : List ℕ = c.args.joined.now in
    let starts : List ℕ = c.self.inside.starts.items in
    let same : length joined ≡ length c.self.inside.cells.now = c.requires.joined ∙ ap (λ (v : CellColumn). length v.cells) (sym c.self.view_is) in
    let size : ℕ = c.args.size in
    let first : ℕ = c.args.leaf / size * size in
    let node = node_within size c.args.leaf c.requires.size c.requires.leaf in
    let from_is : c.index-from.result.now ≡ get_or starts first 0 = default_is_zero starts first c.index-from.result.now c.index-from.result.now (omega (arith, c.self.invariant.starts_are.length_is, node.1)) c.index-from.ensures in
    let to_is : c.index-to.result.now ≡ get_or starts (first + size) 0 = default_is_zero starts (first + size) c.index-to.result.now c.index-to.result.now (omega (arith, c.self.invariant.starts_are.length_is, node.1)) c.index-to.ensures in
    omega (arith, to_is, c.self.invariant.starts_are.within (first + size), ap length c.as_slice.ensures.value)

pub list_at-requires-clause-places : goal.list_at-requires-clause-places
list_at-requires-clause-places c =
    let joined : List ℕ = c.args.joined.now in
    let same : length joined ≡ length c.self.inside.cells.now = c.requires.joined ∙ ap (λ (v : CellColumn). length v.cells) (sym c.self.view_is) in
    let all : All (λ place. place < length joined) c.as_slice.result.now = subst (λ (s : List ℕ). All (λ place. place < length joined) s) (sym c.as_slice.ensures.value) (places_are_rows c.self.invariant joined same) in
    subst (λ (s : List ℕ). All (λ place. place < length joined) s) (sym c.places_between-places.ensures)
    (All-take (λ place. place < length joined) (c.index-to.result.now - c.index-from.result.now) (drop c.index-from.result.now c.as_slice.result.now) (All-drop (λ place. place < length joined) c.index-from.result.now c.as_slice.result.now all))

pub list_at-requires-clause-rows : goal.list_at-requires-clause-rows
list_at-requires-clause-rows c =
    let joined : List ℕ = c.args.joined.now in
    let same : length joined ≡ length c.self.inside.cells.now = c.requires.joined ∙ ap (λ (v : CellColumn). length v.cells) (sym c.self.view_is) in
    omega (
      arith,
      ap length c.places_between-places.ensures,
      length-take (c.index-to.result.now - c.index-from.result.now) (drop c.index-from.result.now c.as_slice.result.now),
      length-drop c.index-from.result.now c.as_slice.result.now,
      ap length c.as_slice.ensures.value,
      places_as_long_as_column c.self.invariant joined same,
      c.self.invariant.rows,
    )

pub returns : goal.returns
returns c =
    let joined : List ℕ = c.args.joined.now in
    let starts : List ℕ = c.self.inside.starts.items in
    let same : length joined ≡ length c.self.inside.cells.now = c.requires.joined ∙ ap (λ (v : CellColumn). length v.cells) (sym c.self.view_is) in
    let size : ℕ = c.args.size in
    let first : ℕ = c.args.leaf / size * size in
    let node = node_within size c.args.leaf c.requires.size c.requires.leaf in
    let from_is : c.index-from.result.now ≡ get_or starts first 0 = default_is_zero starts first c.index-from.result.now c.index-from.result.now (omega (arith, c.self.invariant.starts_are.length_is, node.1)) c.index-from.ensures in
    let to_is : c.index-to.result.now ≡ get_or starts (first + size) 0 = default_is_zero starts (first + size) c.index-to.result.now c.index-to.result.now (omega (arith, c.self.invariant.starts_are.length_is, node.1)) c.index-to.ensures in
    let places : List ℕ = c.self.inside.places.items in
    let k : ℕ = c.args.accuracy in
    IfOk-weaker c.list_at.result (λ list. list ≡ compressed_degrees k (keys_at joined c.places_between-places.result.now))
    (λ list. list ≡ list_of_node (cell_le c.args.self.now.texts c.args.self.now.kind) k (zip c.args.self.now.cells joined) size c.args.leaf)
    (λ list is. is
    ∙ ap (λ (s : List ℕ). compressed_degrees k (keys_at joined s))
    (c.places_between-places.ensures ∙ ap (λ (s : List ℕ). slice_range s c.index-from.result.now c.index-to.result.now) c.as_slice.ensures.value
    ∙ ap (λ m. slice_range places m c.index-to.result.now) from_is ∙ ap (slice_range places (get_or starts first 0)) to_is)
    ∙ node_list c.self.invariant joined same k size c.args.leaf node.0 node.1
    ∙ ap (λ (v : CellColumn). list_of_node (cell_le v.texts v.kind) k (zip v.cells joined) size c.args.leaf) c.self.view_is)
    c.list_at.ensures
