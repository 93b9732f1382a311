use Rattle.std.proofs.Common.{List, Option, length, ap, sym, ◌∙◌, subst, sum, []}
use Rattle.std.specs.Prelude.{unwrap_or}
use Rattle.safebound_lists.specs.declared.runs.Run.{Run}
use Rattle.safebound_lists.specs.Runs.{AreValid, list_of}
use Rattle.safebound_bounds.specs.declared.arguments.ColumnList.{ColumnList}
use Rattle.safebound_bounds.specs.Arguments.{RunsExist, runs_of}
use Rattle.safebound_bounds.specs.Meaning.{decoded_list}
use Rattle.safebound_bounds.proofs.Bounded.{list_found_satisfies}
use Rattle.safebound_bounds.proofs.in_sets.rows_with_value.Goals as goal

pub own_runs-requires : goal.own_runs-requires
own_runs-requires c =
    (list_found_satisfies c.args.place.entry c.args.place.column c.args.lists.now (RunsExist (length c.args.runs.now)) c.requires.there c.in-Some.list (sym c.in-Some.ensures)).0

pub total-requires : goal.total-requires
total-requires c =
    subst AreValid (sym c.own_runs.ensures)
    (list_found_satisfies c.args.place.entry c.args.place.column c.args.lists.now (λ (l : ColumnList). AreValid (runs_of c.args.runs.now l)) c.requires.valid c.in-Some.list (sym c.in-Some.ensures)).0

pub returns-in-Some : goal.returns-in-Some
returns-in-Some c =
    c.total.ensures ∙ ap (λ (s : List Run). sum (list_of s)) c.own_runs.ensures
    ∙ ap (λ (o : Option ColumnList). sum (unwrap_or (decoded_list c.args.runs.now o) [])) c.in-Some.ensures

pub returns-in-None : goal.returns-in-None
returns-in-None c = ap (λ (o : Option ColumnList). sum (unwrap_or (decoded_list c.args.runs.now o) [])) c.in-None.ensures
