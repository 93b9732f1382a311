-- The order of values, and sorted lists.
use Rattle.std.proofs.Common.{◌≡◌, ◌≢◌, ℕ, zero, suc, ◌-◌, ◌<◌, List, [], ◌∷◌, ◌++◌, length, get_or, replicate, refl, ap, sym, subst, ◌∙◌, arith, append-nil, append_assoc, Some}
use Rattle.std.specs.Prelude.{All, AllPairs, slice_get}
use Rattle.std.specs.declared.cmp.Ordering.{Ordering}
use Rattle.std.specs.declared.cmp.Ordering.TheVariants.{Less, Equal, Greater}
use Rattle.std.specs.Cmp.{IsTotalOrder}
use Rattle.std.specs.Cmp.Lexicographic.{slice_cmp}
use Rattle.std.specs.Ordering.{int_cmp, nat_cmp, ordering_reverse}
use Rattle.std.proofs.lemmas.Cmp.{int_cmp_total, nat_list_cmp_total}
use Rattle.std.proofs.lemmas.List.Quantifiers.{all_pairs_push}
use Rattle.stats_file.specs.declared.types.Datum.{Datum}
use Rattle.stats_file.specs.declared.types.Datum.TheVariants as datum
use Rattle.stats_file.specs.Rules.{datum_cmp}
use Rattle.std.proofs.lemmas.Option.{slice_get-get_or}
use Rattle.stats_reading.proofs.AppendedLists.{all_pushed}

not_above : {K : Type 0} (R : K → K → Ordering) → IsTotalOrder R → (a b c : K) → R a b ≢ Greater → R b c ≢ Greater → R a c ≢ Greater
not_above R total a b c below after = at (R a b) (R b c) refl refl
  where
    at : (x y : Ordering) → R a b ≡ x → R b c ≡ y → R a c ≢ Greater
    at Less Less e f = λ g. let t = total.trans a b c e f in absurd (cc)
    at Less Equal e f = λ g.
        let same = total.congr b c a f in
        let z : R a c ≡ Less = total.antisymm a c ∙ ap ordering_reverse (sym same ∙ total.antisymm b a ∙ ap ordering_reverse e) in
        absurd (cc)
    at Equal y e f = λ g. let same = total.congr a b c e in after (sym same ∙ g)
    at Greater y e f = absurd (below e)
    at x Greater e f = absurd (after f)

pub values_not_above : (a b c : Datum) → datum_cmp a b ≢ Greater → datum_cmp b c ≢ Greater → datum_cmp a c ≢ Greater
values_not_above (datum.Int a) (datum.Int b) (datum.Int c) e f = not_above int_cmp int_cmp_total a b c e f
values_not_above (datum.Int a) (datum.Int b) (datum.Text c) e f = λ g. absurd (cc)
values_not_above (datum.Int a) (datum.Text b) (datum.Int c) e f = absurd (f refl)
values_not_above (datum.Int a) (datum.Text b) (datum.Text c) e f = λ g. absurd (cc)
values_not_above (datum.Text a) (datum.Int b) (datum.Int c) e f = absurd (e refl)
values_not_above (datum.Text a) (datum.Int b) (datum.Text c) e f = absurd (e refl)
values_not_above (datum.Text a) (datum.Text b) (datum.Int c) e f = absurd (f refl)
values_not_above (datum.Text a) (datum.Text b) (datum.Text c) e f = not_above (slice_cmp nat_cmp) nat_list_cmp_total a b c e f

never_above_itself : {K : Type 0} (R : K → K → Ordering) → IsTotalOrder R → (a : K) → R a a ≢ Greater
never_above_itself R total a e = let z : Greater ≡ Less = sym e ∙ total.antisymm a a ∙ ap ordering_reverse e in absurd (cc)

pub value_never_above_itself : (a : Datum) → datum_cmp a a ≢ Greater
value_never_above_itself (datum.Int a) = never_above_itself int_cmp int_cmp_total a
value_never_above_itself (datum.Text a) = never_above_itself (slice_cmp nat_cmp) nat_list_cmp_total a

pub last_implies_all : {X : Type 0} (R : X → X → Type 0) (Q : X → Type 0) → ((a b : X) → R a b → Q b → Q a) → (xs : List X) → AllPairs R xs
    → ((last : X) → slice_get xs (length xs - 1) ≡ Some last → Q last) → All Q xs
last_implies_all {X} R Q carry xs sorted last k d lt = at (length xs - 1 - k) refl
  where
    at : (n : ℕ) → length xs - 1 - k ≡ n → Q (get_or xs k d)
    at zero e =
        let same : k ≡ length xs - 1 = omega arith in
        last (get_or xs k d) (ap (λ i. slice_get xs i) (sym same) ∙ slice_get-get_or xs k d lt)
    at (suc n) e =
        let less : length xs - 1 < length xs = omega arith in
        let z = get_or xs (length xs - 1) d in
        carry (get_or xs k d) z (sorted k (length xs - 1) d (omega arith) less) (last z (slice_get-get_or xs (length xs - 1) d less))

pub cuts_not_above : (cuts : List Datum) (cut : Datum) → AllPairs (λ a b. datum_cmp a b ≢ Greater) cuts
    → ((last : Datum) → slice_get cuts (length cuts - 1) ≡ Some last → datum_cmp last cut ≢ Greater) → All (λ a. datum_cmp a cut ≢ Greater) cuts
cuts_not_above cuts cut sorted last = last_implies_all (λ a b. datum_cmp a b ≢ Greater) (λ a. datum_cmp a cut ≢ Greater) (λ a b. values_not_above a b cut) cuts sorted last

pub all_replicated : {X : Type 0} (P : X → Type 0) (m : ℕ) (x : X) → P x → All P (replicate m x)
all_replicated P zero x h = λ k d lt. absurd (omega arith)
all_replicated P (suc m) x h = at (all_replicated P m x h)
  where
    at : All P (replicate m x) → All P (x ∷ replicate m x)
    at rest zero d lt = h
    at rest (suc k) d lt = rest k d (omega arith)

pub pairs_padded : {X : Type 0} (R : X → X → Type 0) (m : ℕ) (xs : List X) (x : X) → AllPairs R xs → All (λ y. R y x) xs → R x x → AllPairs R (xs ++ replicate m x)
pairs_padded R zero xs x pairs above own = subst (AllPairs R) (sym (append-nil xs)) pairs
pairs_padded R (suc m) xs x pairs above own =
    subst (AllPairs R) (append_assoc xs (x ∷ []) (replicate m x))
    (pairs_padded R m (xs ++ x ∷ []) x (all_pairs_push R xs x pairs above) (all_pushed (λ y. R y x) xs x above own) own)
