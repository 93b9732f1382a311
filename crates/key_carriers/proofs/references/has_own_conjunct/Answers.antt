use Rattle.std.proofs.Common.{ℕ, List, length, ltb, ap, ◌∙◌, arith}
use Rattle.std.proofs.lemmas.List.FromFn.{length-map-range_with_len}
use Rattle.join_graph.specs.Conjuncts.{is_own_conjunct, numbers_where}
use Rattle.key_carriers.proofs.Carrying.{own_conjuncts_numbered}
use Rattle.key_carriers.proofs.references.has_own_conjunct.Goals as goal

pub get-requires : goal.get-requires
get-requires c =
    omega (
      arith,
      c.from.ensures,
      c.requires.entry,
      ap (λ (s : List (List ℕ)). length s) c.requires.local,
      length-map-range_with_len (λ entry. numbers_where (is_own_conjunct entry) 0 c.args.query.now.conjuncts) 0 (length c.args.query.now.from),
    )

pub returns : goal.returns
returns c =
    ap (λ (n : ℕ). ltb 0 n) c.len.ensures
    ∙ own_conjuncts_numbered c.args.query.now c.args.parts.now.local c.args.entry c.from.result c.get.result.now c.requires.local c.requires.entry c.from.ensures c.get.ensures
