use Rattle.std.proofs.Common.{◌≡◌, ◌<◌, ◌++◌, ◌∷◌, [], ℕ, List, map, length, ap, sym, ◌∙◌, arith, inl, inr}
use Rattle.std.specs.List.{range_with_len}
use Rattle.std.proofs.lemmas.Bool.{cases_lt, eqb-true, eq-eqb, false≢true}
use Rattle.std.proofs.lemmas.List.FromFn.{map-range_with_len_more}
use Rattle.cond_stats.proofs.InOrderFacts.{value_at, as_many_places}
use Rattle.cond_stats.proofs.LeavesFound.{cut_place, no_cuts, cuts_in_order}
use Rattle.cond_stats.proofs.cuts.cuts_of.Goals as goal

pub returns-then-is_empty : goal.returns-then-is_empty
returns-then-is_empty c at_most numbers order =
    let none : length c.args.places.now ≡ 0 = eqb-true (length c.args.places.now) 0 (sym c.is_empty.ensures ∙ c.if-is_empty.true) in
    c.new-cuts.ensures.items ∙ sym (no_cuts at_most c.args.cells.now (omega (arith, none, as_many_places order)))

pub loop-i-preserved : goal.loop-i-preserved
loop-i-preserved c =
    let f : ℕ → ℕ = λ i. value_at c.args.cells.now c.args.places.now (cut_place (length c.args.places.now) i) in
    c.in_ok-push.ensures.items ∙ ap (λ (s : List ℕ). s ++ f c.loop-i.i ∷ []) c.loop-i.invariant ∙ sym (map-range_with_len_more f 0 c.loop-i.i c.loop-i.i (omega arith))

pub returns : goal.returns
returns c at_most numbers order =
    let cells : List ℕ = c.args.cells.now in
    let places : List ℕ = c.args.places.now in
    let many : 0 < length places = elim (cases_lt 0 (length places)) [
      | inl h ↦ h
      | inr h ↦ absurd (false≢true (sym c.if-is_empty.false ∙ c.is_empty.ensures ∙ eq-eqb (length places) 0 (omega arith)))
    ] in
    let f : ℕ → ℕ → ℕ = λ n i. value_at cells places (cut_place n i) in
    let all : c.loop-i.i ≡ 32 = omega arith in
    c.loop-i.invariant ∙ ap (λ n. map (f (length places)) (range_with_len 0 n)) all ∙ ap (λ n. map (f n) (range_with_len 0 32)) (as_many_places order) ∙ sym (cuts_in_order order (omega (arith, as_many_places order, many)))
