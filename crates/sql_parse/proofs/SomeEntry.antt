-- A query text that the grammar allows has at least one entry in FROM.
use Rattle.std.proofs.Common.{◌≡◌, ℕ, ◌<◌, List, [], ◌∷◌, length, map, ap, subst, ◌∙◌, arith}
use Rattle.std.specs.List.{flat_map}
use Rattle.ll_grammars.specs.declared.lexeme.Lexeme.{Lexeme}
use Rattle.query_grammar.specs.declared.tree.FromItemNode.{FromItemNode}
use Rattle.query_grammar.specs.declared.tree.SourceNode.{SourceNode}
use Rattle.query_grammar.specs.declared.tree.QueryNode.{QueryNode}
use Rattle.query_grammar.specs.Grammar.{QuerySpecification}
use Rattle.schema_types.specs.declared.types.Schema.{Schema}
use Rattle.query_types.specs.declared.types.Source.{Source}
use Rattle.query_names.specs.Names.{sources_of, entry_of, entries}

parts_not_empty : (tokens : List Lexeme) (query : QueryNode) → QuerySpecification tokens query → 0 < length query.parts
unfolding QuerySpecification
parts_not_empty tokens query spells =
    let listed = spells.2.second.second.second.first in
    let are : listed.0.0 ∷ listed.0.1 ≡ query.parts = listed.1 ∙ ap (λ (q : QueryNode). q.parts) spells.1 in
    subst (λ (parts : List FromItemNode). 0 < length parts) are (omega arith)

sources_not_empty : (f : SourceNode → Source) (parts : List FromItemNode) → 0 < length parts → 0 < length (map f (flat_map sources_of parts))
sources_not_empty f [] some = absurd (omega arith)
sources_not_empty f (part ∷ rest) some = omega arith

pub entries_not_empty : (schema : Schema) (text : List ℕ) (tokens : List Lexeme) (query : QueryNode) → QuerySpecification tokens query → 0 < length (entries schema text query)
unfolding entries
entries_not_empty schema text tokens query spells = sources_not_empty (entry_of schema text) query.parts (parts_not_empty tokens query spells)
