use Rattle.std.proofs.Common.{◌≡◌, true, false, ℕ, List, Option, ap, sym, subst, ◌∙◌}
use Rattle.std.specs.List.{zip}
use Rattle.std.specs.Option.{MatchOption}
use Rattle.std.proofs.lemmas.Result.{IfOk-weaker}
use Rattle.cond_stats.specs.Lists.{rest, is_frequent, compressed_degrees, keys_with, list_of_value}
use Rattle.cond_stats.proofs.ValueLists.{list_of_frequent_value, list_of_other_value, list_without_cell}
use Rattle.cond_stats.proofs.column.FilterColumn.list_of_value.Goals as goal

pub returns-in-Some-2 : goal.returns-in-Some-2
returns-in-Some-2 c =
    let found = subst (λ (o : Option (List ℕ)). MatchOption o (is_frequent (zip c.args.self.now.cells c.args.joined.now) c.in-Some.cell ≡ false)
    (λ list. (is_frequent (zip c.args.self.now.cells c.args.joined.now) c.in-Some.cell ≡ true) × (list ≡ compressed_degrees c.args.accuracy (keys_with c.in-Some.cell (zip c.args.self.now.cells c.args.joined.now)))))
    c.in-Some-2.is c.in_ok-list-in-Some.ensures in
    found.1 ∙ sym (list_of_frequent_value c.args.accuracy (zip c.args.self.now.cells c.args.joined.now) c.in-Some.cell found.0)
    ∙ ap (list_of_value c.args.accuracy (zip c.args.self.now.cells c.args.joined.now)) (sym c.in-Some.is)

pub returns-in-None-2 : goal.returns-in-None-2
returns-in-None-2 c =
    let not_frequent : is_frequent (zip c.args.self.now.cells c.args.joined.now) c.in-Some.cell ≡ false =
    subst (λ (o : Option (List ℕ)). MatchOption o (is_frequent (zip c.args.self.now.cells c.args.joined.now) c.in-Some.cell ≡ false)
    (λ list. (is_frequent (zip c.args.self.now.cells c.args.joined.now) c.in-Some.cell ≡ true) × (list ≡ compressed_degrees c.args.accuracy (keys_with c.in-Some.cell (zip c.args.self.now.cells c.args.joined.now)))))
    c.in-None-2.is c.in_ok-list-in-Some.ensures in
    IfOk-weaker c.rest.result (λ list. list ≡ rest c.args.accuracy (zip c.args.self.now.cells c.args.joined.now)) (λ list. list ≡ list_of_value c.args.accuracy (zip c.args.self.now.cells c.args.joined.now) c.args.cell)
    (λ list is. is ∙ sym (list_of_other_value c.args.accuracy (zip c.args.self.now.cells c.args.joined.now) c.in-Some.cell not_frequent)
    ∙ ap (list_of_value c.args.accuracy (zip c.args.self.now.cells c.args.joined.now)) (sym c.in-Some.is))
    c.rest.ensures

pub returns-in-None : goal.returns-in-None
returns-in-None c =
    IfOk-weaker c.rest-in-None.result (λ list. list ≡ rest c.args.accuracy (zip c.args.self.now.cells c.args.joined.now)) (λ list. list ≡ list_of_value c.args.accuracy (zip c.args.self.now.cells c.args.joined.now) c.args.cell)
    (λ list is. is ∙ sym (list_without_cell c.args.accuracy (zip c.args.self.now.cells c.args.joined.now)) ∙ ap (list_of_value c.args.accuracy (zip c.args.self.now.cells c.args.joined.now)) (sym c.in-None.is))
    c.rest-in-None.ensures
