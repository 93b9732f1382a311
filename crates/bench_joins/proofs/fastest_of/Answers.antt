use Rattle.std.proofs.Common.{rules}
use Rattle.bench_joins.proofs.fastest_of.Goals as goal

pub timed_execution-requires : goal.timed_execution-requires
timed_execution-requires g c = record {
  left = c.args.sizes.left;
  right = c.args.sizes.right;
  repeats = c.args.sizes.repeats;
  comparison = c.args.comparison;
  is_plan = search rules;
  is_query = search rules;
  are_two = search rules;
  some = c.requires.some;
  few_left = c.requires.left;
  few_right = c.requires.right;
  few_joined = c.requires.joined;
}

pub timed_execution-requires-in-loop : goal.timed_execution-requires-in-loop
timed_execution-requires-in-loop g c = record {
  left = c.args.sizes.left;
  right = c.args.sizes.right;
  repeats = c.args.sizes.repeats;
  comparison = c.args.comparison;
  is_plan = search rules;
  is_query = search rules;
  are_two = search rules;
  some = c.requires.some;
  few_left = c.requires.left;
  few_right = c.requires.right;
  few_joined = c.requires.joined;
}
