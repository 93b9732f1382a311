-- If the elements of a list are below 2^128, saturation doesn't change them.
use Rattle.std.proofs.Common.{◌≡◌, ℕ, ◌+◌, ◌-◌, ◌<◌, ◌^◌, List, [], ◌∷◌, map, length, sum, refl, ap, ◌∙◌, arith}
use Rattle.std.specs.List.{AllByRecursion}
use Rattle.std.proofs.lemmas.List.Sums.{sum_by-cons}
use Rattle.degree_sequences.specs.ByRank.{rank_maximum, rank_sum}
use Rattle.degree_sequences.specs.Degrees.{degree_list}
use Rattle.degree_sequences.specs.Saturation.{saturated}
use Rattle.degree_sequences.proofs.ByRank.{sum-rank_sum}
use Rattle.degree_sequences.proofs.DegreeLists.{sum-degree_list}
use Rattle.cond_stats.specs.Lists.{maxima}

abbrev pub FitU128 : List ℕ → Type 0
FitU128 s = AllByRecursion (λ x. x < 2 ^ 128) s

pub saturated_small : (s : List ℕ) → FitU128 s → map saturated s ≡ s
saturated_small [] small = refl
saturated_small (x ∷ s) small =
    let here : saturated x ≡ x = omega (arith, small.0) in
    ap (λ (n : ℕ). n ∷ map saturated s) here ∙ ap (λ (t : List ℕ). x ∷ t) (saturated_small s small.1)

pub fit_by_sum : (s : List ℕ) → sum s < 2 ^ 128 → FitU128 s
fit_by_sum [] within_limit = tt
fit_by_sum (x ∷ s) within_limit =
    let e : sum (x ∷ s) ≡ x + sum s = sum_by-cons (λ (y : ℕ). y) x s in
    (omega (arith, e, within_limit), fit_by_sum s (omega (arith, e, within_limit)))

pub small_maximum : (s t : List ℕ) → FitU128 s → FitU128 t → FitU128 (rank_maximum s t)
small_maximum [] t small also = also
small_maximum (x ∷ s) [] small also = small
small_maximum (x ∷ s) (y ∷ t) small also = (omega (arith, small.0, also.0), small_maximum s t small.1 also.1)

pub small_maxima : (lists : List (List ℕ)) → AllByRecursion FitU128 lists → FitU128 (maxima lists)
small_maxima [] all = tt
small_maxima (list ∷ lists) all = small_maximum list (maxima lists) all.0 (small_maxima lists all.1)

pub small_degrees : (keys : List ℕ) → length keys < 2 ^ 64 → FitU128 (degree_list keys)
small_degrees keys within_limit = fit_by_sum (degree_list keys) (omega (arith, sum-degree_list keys, within_limit))

pub all_small_degrees : (groups : List (List ℕ)) → AllByRecursion (λ (keys : List ℕ). length keys < 2 ^ 64) groups → AllByRecursion FitU128 (map degree_list groups)
all_small_degrees [] all = tt
all_small_degrees (keys ∷ groups) all = (small_degrees keys all.0, all_small_degrees groups all.1)

pub added_exactly : (s t r : List ℕ) → sum s < 2 ^ 64 → sum t < 2 ^ 64 → r ≡ map saturated (rank_sum s t) → r ≡ rank_sum s t
added_exactly s t r within_limit also is = is ∙ saturated_small (rank_sum s t) (fit_by_sum (rank_sum s t) (omega (arith, sum-rank_sum s t, within_limit, also)))
