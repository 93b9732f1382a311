use Rattle.stats_words.proofs.ListFacts.{dash_is_empty_list}
use Rattle.stats_words.proofs.lists.list.Goals as goal

pub returns-then-is_dash : goal.returns-then-is_dash
returns-then-is_dash c = dash_is_empty_list c.args.rows c.args.word.now c.empty.result c.empty.ensures (c.is_dash.ensures.0 (cc))
