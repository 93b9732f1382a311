use Rattle.std.proofs.Common.{◌≡◌, ◌-◌, ◌≤◌, ◌++◌, length, replicate, sum, ap, sym, ◌∙◌, subst, arith}
use Rattle.std.specs.List.{All}
use Rattle.std.proofs.lemmas.List.Elements.{All-from_recursion}
use Rattle.degree_sequences.specs.Descending.{IsDescending}
use Rattle.degree_sequences.specs.RunningSums.{capped_at}
use Rattle.safebound_lists.specs.Runs.{list_of}
use Rattle.piece_math.proofs.Cutting.{positive-capped_at}
use Rattle.safebound_bounds.specs.Meaning.{fitted}
use Rattle.safebound_bounds.proofs.Fitting.{cut_sum, fitted_sum, cut_list_is_fitted, lengthened_list_is_fitted, length_at_most_sum, positive_is_at_least_one, valid_runs_descend}
use Rattle.safebound_bounds.proofs.listing.fitted.Goals as goal
use Rattle.safebound_bounds.proofs.listing.fitted.Goals.{then-total-rows+in_ok-push_run, else-total-rows}

pub overflow_cast-total : goal.overflow_cast-total
overflow_cast-total c = omega (arith, c.total-total.ensures, ap sum c.in_ok-cut.ensures.value, cut_sum c.in_ok-list.list c.args.rows)

pub push_run-requires-clause-descends : goal.push_run-requires-clause-descends
push_run-requires-clause-descends c =
    let descends : IsDescending c.in_ok-list.list = subst IsDescending (sym c.in_ok-list.ensures.pieces) (valid_runs_descend c.args.runs.now c.requires.valid) in
    subst (All (λ x. 1 ≤ x)) (sym c.in_ok-cut.ensures.value)
    (All-from_recursion (λ x. 1 ≤ x) (capped_at c.in_ok-list.list c.args.rows) (positive_is_at_least_one (capped_at c.in_ok-list.list c.args.rows) (positive-capped_at c.in_ok-list.list c.args.rows descends)))

pub push_run-requires-clause-room : goal.push_run-requires-clause-room
push_run-requires-clause-room c =
    let descends : IsDescending c.in_ok-list.list = subst IsDescending (sym c.in_ok-list.ensures.pieces) (valid_runs_descend c.args.runs.now c.requires.valid) in
    omega (
      arith,
      ap length c.in_ok-cut.ensures.value,
      length_at_most_sum (capped_at c.in_ok-list.list c.args.rows) (positive-capped_at c.in_ok-list.list c.args.rows descends),
      cut_sum c.in_ok-list.list c.args.rows,
      c.requires.rows,
    )

pub returns-clause-list : goal.returns-clause-list
returns-clause-list c =
    let same : fitted c.args.rows c.in_ok-list.list ≡ fitted c.args.rows (list_of c.args.runs.now) = ap (fitted c.args.rows) c.in_ok-list.ensures.pieces in
    let total : sum c.in_ok-cut.cut ≤ c.args.rows = omega (arith, ap sum c.in_ok-cut.ensures.value, cut_sum c.in_ok-list.list c.args.rows) in
    let is : c.total-total.result ≡ sum c.in_ok-cut.cut = omega (arith, c.total-total.ensures, total, c.requires.rows) in
    elim c.if-total-rows.branch [
      | then-total-rows+in_ok-push_run w ↦ w.cut-is
          ∙ lengthened_list_is_fitted c.args.rows c.in_ok-list.list c.in_ok-cut.cut w.push_run.new.self c.in_ok-cut.ensures.value
          (w.in_ok-push_run.ensures.ok ∙ ap (λ n. c.in_ok-cut.cut ++ replicate (c.args.rows - n) 1) is) ∙ same
      | else-total-rows w ↦ w.cut-is ∙ cut_list_is_fitted c.args.rows c.in_ok-list.list c.in_ok-cut.cut c.in_ok-cut.ensures.value (omega (arith, is, w.if-total-rows.false)) ∙ same
    ]

pub returns-clause-total : goal.returns-clause-total
returns-clause-total c = ap sum (returns-clause-list c) ∙ fitted_sum c.args.rows (list_of c.args.runs.now)
