use Rattle.query_names.specs.Names.{entry_of}
use Rattle.query_names.proofs.Walk.{map_more, map_push, no_offence_here}
use Rattle.query_names.proofs.sources.read_entries.Goals as goal

pub all-preserved : goal.all-preserved
all-preserved c = record {
  so_far = map_more (entry_of c.args.catalog.now.schema.now c.args.text.now) c.args.sources.now c.all.source-index _ c.all.found c.push.new.self c.in_ok-one.one
      c.all-test.true c.all.invariant.so_far c.in_ok-one.ensures.ok.0 c.in_ok-push.ensures.ok;
  named = map_push (λ source. source.alias) c.all.found c.push.new.self c.all.aliases c.entry.new.aliases c.in_ok-one.one
      c.all.invariant.named c.in_ok-one.ensures.ok.1 c.in_ok-push.ensures.ok;
  left = no_offence_here c.args.catalog.now.schema.now c.args.text.now c.args.sources.now _ c.all.aliases c.entry.new.aliases c.all.source-index _ c.in_ok-one.one
      c.all-test.true c.all.invariant.left c.in_ok-one.ensures.ok;
}
