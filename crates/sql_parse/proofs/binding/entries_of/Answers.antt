-- The sources of the entries are the sources of the tree, and the tree's tokens are tokens of the text.
use Rattle.std.proofs.Common.{◌≡◌, ap, ◌∙◌}
use Rattle.std.specs.List.{flat_map}
use Rattle.sql_tokens.specs.Words.{IsLexemeOf}
use Rattle.query_names.specs.Names.{sources_of}
use Rattle.sql_parse.proofs.TreeFacts.{all_lie_in}
use Rattle.sql_parse.proofs.binding.entries_of.Goals as goal

pub read_entries-requires : goal.read_entries-requires
read_entries-requires c =
    let is : c.as_slice-2.result.now ≡ flat_map sources_of c.args.query.now.parts = c.as_slice-2.ensures ∙ c.in_ok-sources.ensures ∙ ap (flat_map sources_of) c.as_slice.ensures in
    all_lie_in (IsLexemeOf c.args.text.now) c.args.query.now c.as_slice-2.result.now is c.requires
