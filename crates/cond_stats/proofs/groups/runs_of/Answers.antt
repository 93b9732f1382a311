use Rattle.std.proofs.Common.{refl, get_or, ◌-◌, ap, sym, subst, ◌∙◌, ◌+◌, ◌++◌, ◌∷◌, [], ℕ, List, Vec, Global, ◌≡◌}
use Rattle.cond_stats.specs.declared.groups.ValueRun.{ValueRun}
use Rattle.cond_stats.proofs.RunsFound.{RunsSoFar, no_runs_yet, run_goes_on, run_ends, all_runs}
use Rattle.cond_stats.proofs.groups.runs_of.Goals as goal
use Rattle.cond_stats.proofs.groups.runs_of.Goals.{then-ends_run+in_ok-push, else-ends_run}

as_is : (numbers places : List ℕ) (runs runs' : List ValueRun) (start start' i : ℕ) → runs' ≡ runs → start' ≡ start → RunsSoFar numbers places runs start i → RunsSoFar numbers places runs' start' i
as_is numbers places runs runs' start start' i same_runs same_start so =
    subst (λ r. RunsSoFar numbers places r start' i) (sym same_runs) (subst (λ s. RunsSoFar numbers places runs s i) (sym same_start) so)

pub loop-i-init : goal.loop-i-init
loop-i-init c = subst (λ runs. RunsSoFar c.args.numbers.now c.args.places.now runs 0 0) (sym c.new-runs.ensures.items) (no_runs_yet c.args.numbers.now c.args.places.now)

pub loop-i-preserved : goal.loop-i-preserved
loop-i-preserved c =
    let numbers : List ℕ = c.args.numbers.now in
    let places : List ℕ = c.args.places.now in
    let i : ℕ = c.loop-i.i in
    let runs : List ValueRun = c.loop-i.runs.items in
    elim c.if-ends_run.branch [
      | then-ends_run+in_ok-push w ↦ (let run : ValueRun = record { first = get_or places c.loop-i.start 0; start = c.loop-i.start; count = (i + 1) - c.loop-i.start } in
          as_is numbers places (runs ++ run ∷ []) c.if-ends_run.runs.items (i + 1) c.if-ends_run.start (i + 1)
          (ap (λ (v : Vec ValueRun Global). v.items) w.runs-is ∙ w.in_ok-push.ensures.items) w.start-is
          (run_ends numbers places runs c.loop-i.start i run c.requires.ascend c.loop-i.invariant c.loop-i-test.true (sym c.ends_run.ensures ∙ w.if-ends_run.true) refl refl refl))
      | else-ends_run w ↦ as_is numbers places runs c.if-ends_run.runs.items c.loop-i.start c.if-ends_run.start (i + 1)
          (ap (λ (v : Vec ValueRun Global). v.items) w.runs-is) w.start-is
          (run_goes_on numbers places runs c.loop-i.start i c.loop-i.invariant c.loop-i-test.true (sym c.ends_run.ensures ∙ w.if-ends_run.false))
    ]

pub returns : goal.returns
returns c = all_runs c.args.numbers.now c.args.places.now c.loop-i.runs.items c.loop-i.start c.loop-i.i c.loop-i.invariant c.loop-i-test.false
