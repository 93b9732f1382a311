use Rattle.std.proofs.Common.{take}
use Rattle.std.specs.List.{flat_map}
use Rattle.query_names.specs.Scopes.{tests}
use Rattle.query_names.specs.Binding.{members_by}
use Rattle.query_names.specs.Checking.{IsStateAfterTests}
use Rattle.query_names.proofs.binder.Binder.+add_members.Given as goal

abbrev pub invariant-all : goal.invariant-all
invariant-all l =
    IsStateAfterTests l.self l.visible.scope (flat_map tests (take l.member-index l.member-items)) l.fn.held l.held l.fn.found l.found
    (flat_map (members_by l.self l.visible.scope) (take l.member-index l.member-items))
