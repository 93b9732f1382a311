-- The parsers of FROM, of WHERE and of queries read their rules. C is the language of conditions, and the parser c reads it.
use Rattle.std.proofs.Common.{refl}
use Rattle.ll_grammars.specs.declared.terminal.Terminal.TheVariants as terminal
use Rattle.ll_grammars.specs.Language.{Language, ◌▸◌, mapped, many}
use Rattle.ll_grammars.specs.Reading.{Parser}
use Rattle.ll_grammars.specs.Parses.{FirstAndFollow, Parses}
use Rattle.ll_grammars.specs.Rules.{first_and_others, second, word, listed}
use Rattle.ll_grammars.proofs.Steps.{then_shape, maybe_shape}
use Rattle.ll_grammars.proofs.Repeats.{many_shape}
use Rattle.ll_grammars.proofs.Combined.{in_sequence, with_value, option, repeat, a_word, word_shape, next_shape, listed_shape}
use Rattle.query_grammar.specs.declared.tree.CondNode.{CondNode}
use Rattle.query_grammar.specs.Values.{source, join, part, query}
use Rattle.query_grammar.specs.Grammar.{TableReference, QualifiedJoin, FromPart, WhereClause, QueryOf}
use Rattle.query_grammar.specs.Readers.{read_source, read_join, read_joins, read_part, read_next_part, read_parts, read_condition_after_where, read_filter, read_query}
use Rattle.query_grammar.proofs.OperandRules.{name_shape, new_name_shape, reads_name, reads_new_name}
use Rattle.query_grammar.proofs.ConditionRules.{cond_shape}
use Rattle.query_grammar.proofs.OutputRules.{outs_shape, reads_outs}

abbrev pub source_shape : FirstAndFollow
source_shape = then_shape name_shape new_name_shape

pub reads_source : Parses TableReference source_shape read_source
unfolding read_source
reads_source = with_value source (in_sequence reads_name reads_new_name refl)

abbrev pub join_shape : FirstAndFollow
join_shape = then_shape (maybe_shape (word_shape terminal.Inner)) (then_shape (word_shape terminal.Join) (then_shape source_shape (then_shape (word_shape terminal.On) cond_shape)))

abbrev pub part_shape : FirstAndFollow
part_shape = then_shape source_shape (many_shape join_shape)

abbrev pub parts_shape : FirstAndFollow
parts_shape = listed_shape terminal.Comma part_shape

abbrev pub where_shape : FirstAndFollow
where_shape = next_shape terminal.Where cond_shape

abbrev pub query_shape : FirstAndFollow
query_shape = then_shape (word_shape terminal.Select) (then_shape outs_shape (then_shape (word_shape terminal.From) (then_shape parts_shape (then_shape (maybe_shape where_shape) (maybe_shape (word_shape terminal.Semicolon))))))

module _ {C : Language CondNode} {c : Parser CondNode} (reads : Parses C cond_shape c) where
  pub reads_join : Parses (QualifiedJoin C) join_shape (read_join c)
  unfolding read_join
  reads_join = with_value join (in_sequence (option (a_word terminal.Inner refl) refl) (in_sequence (a_word terminal.Join refl) (in_sequence reads_source (in_sequence (a_word terminal.On refl) reads refl) refl) refl) refl)

  pub reads_joins : Parses (many (QualifiedJoin C)) (many_shape join_shape) (read_joins c)
  unfolding read_joins
  reads_joins = repeat reads_join refl refl

  pub reads_part : Parses (FromPart C) part_shape (read_part c)
  unfolding read_part
  reads_part = with_value part (in_sequence reads_source reads_joins refl)

  pub reads_next_part : Parses (mapped second (word terminal.Comma ▸ FromPart C)) (next_shape terminal.Comma part_shape) (read_next_part c)
  unfolding read_next_part
  reads_next_part = with_value second (in_sequence (a_word terminal.Comma refl) reads_part refl)

  pub reads_parts : Parses (listed terminal.Comma (FromPart C)) parts_shape (read_parts c)
  unfolding read_parts
  reads_parts = with_value first_and_others (in_sequence reads_part (repeat reads_next_part refl refl) refl)

  pub reads_where : Parses (mapped second (word terminal.Where ▸ C)) where_shape (read_condition_after_where c)
  unfolding read_condition_after_where
  reads_where = with_value second (in_sequence (a_word terminal.Where refl) reads refl)

  pub reads_filter : Parses (WhereClause C) (maybe_shape where_shape) (read_filter c)
  unfolding read_filter
  reads_filter = option reads_where refl

  pub reads_query : Parses (QueryOf C) query_shape (read_query c)
  unfolding read_query
  reads_query = with_value query (in_sequence (a_word terminal.Select refl) (in_sequence reads_outs (in_sequence (a_word terminal.From refl) (in_sequence reads_parts (in_sequence reads_filter (option (a_word terminal.Semicolon refl) refl) refl) refl) refl) refl) refl)
