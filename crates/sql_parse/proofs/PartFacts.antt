-- Part i of FROM is item i of its list, with its joins. The lemmas split the conditions and sources of part i from those of the parts after it.
use Rattle.std.proofs.Common.{◌≡◌, ℕ, suc, ◌+◌, ◌<◌, List, ◌++◌, length, drop, get_or, ap, ◌∙◌, arith}
use Rattle.std.proofs.lemmas.Grind.{flat_map-append}
use Rattle.std.proofs.lemmas.List.{length-append, length-map}
use Rattle.std.specs.List.{flat_map}
use Rattle.query_grammar.specs.declared.tree.FromItemNode.{FromItemNode}
use Rattle.query_names.specs.Names.{sources_of}
use Rattle.query_names.specs.Scopes.{conditions_of_joins, on_conditions, ConditionInScope}
use Rattle.query_names.proofs.Walk.{rest_at}

pub conditions_at : {C : Type 0} (f : ConditionInScope → List C) (parts : List FromItemNode) (first i : ℕ) (d : FromItemNode) → i < length parts
    → flat_map f (on_conditions first (drop i parts))
    ≡ flat_map f (conditions_of_joins first (first + 1) (get_or parts i d).joins) ++ flat_map f (on_conditions (first + 1 + length (get_or parts i d).joins) (drop (i + 1) parts))
conditions_at f parts first i d below =
    ap (λ l. flat_map f (on_conditions first l)) (rest_at parts i d below)
    ∙ flat_map-append f (conditions_of_joins first (first + 1) (get_or parts i d).joins) (on_conditions (first + 1 + length (get_or parts i d).joins) (drop (i + 1) parts))

pub sources_at : (parts : List FromItemNode) (i : ℕ) (d : FromItemNode) → i < length parts
    → length (flat_map sources_of (drop i parts)) ≡ 1 + length (get_or parts i d).joins + length (flat_map sources_of (drop (i + 1) parts))
sources_at parts i d below =
    let part : FromItemNode = get_or parts i d in
    let rest = flat_map sources_of (drop (i + 1) parts) in
    let whole : length (flat_map sources_of (drop i parts)) ≡ length (sources_of part ++ rest) = ap (λ l. length (flat_map sources_of l)) (rest_at parts i d below) in
    let both : length (sources_of part ++ rest) ≡ length (sources_of part) + length rest = length-append (sources_of part) rest in
    let own : length (sources_of part) ≡ suc (length part.joins) = ap suc (length-map part.joins (λ join. join.source)) in
    omega (arith, whole, both, own)
