use Rattle.std.proofs.Common.{◌≡◌, ◌≤◌, ◌+◌, ◌++◌, length, drop, None}
use Rattle.std.specs.List.{flat_map}
use Rattle.query_names.specs.Scopes.{conditions_of_joins}
use Rattle.query_names.specs.Answers.{or_first}
use Rattle.query_names.specs.Binding.{FirstTwoAreEnough, from_of, names_in, kinds_in, long_lists_in, members_in}
use Rattle.sql_parse.proofs.joins.bind_joins.Given as goal

abbrev pub invariant-all : goal.invariant-all
invariant-all l = record {
  shown : FirstTwoAreEnough l.binder l.visible;
  here : l.visible.scope ≡ record { first = l.fn.visible.scope.first; end = l.fn.visible.scope.end + l.join-index };
  names : flat_map (names_in l.binder) (conditions_of_joins l.fn.visible.scope.first l.fn.visible.scope.end l.joins)
      ≡ flat_map (names_in l.binder) (conditions_of_joins l.fn.visible.scope.first (l.fn.visible.scope.end + l.join-index) (drop l.join-index l.joins));
  kind : or_first l.fn.held.kind (flat_map (kinds_in l.binder) (conditions_of_joins l.fn.visible.scope.first l.fn.visible.scope.end l.joins))
      ≡ or_first l.held.kind (flat_map (kinds_in l.binder) (conditions_of_joins l.fn.visible.scope.first (l.fn.visible.scope.end + l.join-index) (drop l.join-index l.joins)));
  list : or_first l.fn.held.list (flat_map long_lists_in (conditions_of_joins l.fn.visible.scope.first l.fn.visible.scope.end l.joins))
      ≡ or_first l.held.list (flat_map long_lists_in (conditions_of_joins l.fn.visible.scope.first (l.fn.visible.scope.end + l.join-index) (drop l.join-index l.joins)));
  list_stays_noted : l.held.list ≡ None → l.fn.held.list ≡ None;
  members : length (from_of l.binder) ≤ 12 → l.held.list ≡ None → l.fn.conjuncts ++ flat_map (members_in l.binder) (conditions_of_joins l.fn.visible.scope.first l.fn.visible.scope.end l.joins)
      ≡ l.conjuncts ++ flat_map (members_in l.binder) (conditions_of_joins l.fn.visible.scope.first (l.fn.visible.scope.end + l.join-index) (drop l.join-index l.joins));
}
