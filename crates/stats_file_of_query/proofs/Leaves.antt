-- The loop over the cuts finds the last cut that is at most a value.
use Rattle.std.proofs.Common.{◌≡◌, ℕ, zero, suc, ◌+◌, ◌<◌, ◌≤◌, Bool, List, [], cond, take, length, get_or, refl, ap, sym, ◌∙◌, arith}
use Rattle.std.specs.List.{range_with_len}
use Rattle.std.proofs.lemmas.List.{get_or_default}
use Rattle.std.proofs.lemmas.List.FromFn.{get_or-range_with_len}
use Rattle.cond_stats.specs.Leaves.{last_place}
use Rattle.cond_stats.proofs.LastPlaces.{last_place_of_all, last_place-within, last_place_step}
use Rattle.stats_file.specs.declared.types.Datum.{Datum}
use Rattle.stats_file.specs.declared.types.Datum.TheVariants as datum

pub range_length : (n first : ℕ) → length (range_with_len first n) ≡ n
range_length zero first = refl
range_length (suc n) first = ap suc (range_length n (first + 1))

pub one_more_leaf : (p : ℕ → Bool) (n i leaf next : ℕ) (passes : Bool) → i < n → leaf ≡ last_place p (take i (range_with_len 0 n)) → passes ≡ p i → next ≡ cond passes i leaf
    → next ≡ last_place p (take (i + 1) (range_with_len 0 n))
one_more_leaf p n i leaf next passes low before is moved =
    let plain : 0 + i ≡ i = omega arith in
    last_place_step p (range_with_len 0 n) i leaf next passes (omega (arith, low, range_length n 0)) before (is ∙ ap p (sym (get_or-range_with_len 0 n i 0 low ∙ plain))) moved

pub all_leaves : (p : ℕ → Bool) (n i leaf : ℕ) → n ≤ i → leaf ≡ last_place p (take i (range_with_len 0 n)) → leaf ≡ last_place p (range_with_len 0 n)
all_leaves p n i leaf past is = last_place_of_all p (range_with_len 0 n) i leaf (omega (arith, past, range_length n 0)) is

pub leaf_below : (p : ℕ → Bool) (n leaf : ℕ) → n ≤ 32 → leaf ≡ last_place p (range_with_len 0 n) → leaf < 32
leaf_below p n leaf within_limit is = omega (arith, is, last_place-within p (range_with_len 0 n) 31 (omega (arith, within_limit, range_length n 0)))

pub cut_here : (cuts items : List Datum) (i : ℕ) (cut : Datum) → items ≡ cuts → i < length items → cut ≡ get_or items i cut → cut ≡ get_or cuts i (datum.Text [])
cut_here cuts items i cut same low is =
    is ∙ ap (λ (s : List Datum). get_or s i cut) same ∙ get_or_default cuts i cut (datum.Text []) (omega (arith, ap (λ (s : List Datum). length s) same))
