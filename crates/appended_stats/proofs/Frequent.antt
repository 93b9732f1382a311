-- Each step of the loop over the frequent values adds, to a value's list, the list of the new rows that have this value.
use Rattle.std.proofs.Common.{◌≡◌, ℕ, List, Some, slice_get, refl, ap, ◌∙◌}
use Rattle.csv_tables.specs.Values.{Value}
use Rattle.degree_sequences.specs.ByRank.{rank_sum}
use Rattle.stats_file.specs.declared.types.Datum.{Datum}
use Rattle.appended_stats.specs.Grown.{list_with, with_new_rows}
use Rattle.appended_stats.proofs.Walks.{read_twice}

pub grown_made : (of : ℕ → Value) (k : ℕ) (rows : List (ℕ × ℕ)) (ys : List (Datum × List ℕ)) (i : ℕ) (x a b : Datum × List ℕ) (more list : List ℕ) → slice_get ys i ≡ Some x
    → slice_get ys i ≡ Some a → slice_get ys i ≡ Some b → more ≡ list_with of k rows a.0 → list ≡ rank_sum b.1 more
    → (let p : Datum × List ℕ = (x.0, list) in p) ≡ with_new_rows of k rows x
grown_made of k rows ys i x a b more list at one two is made =
    let first : a ≡ x = read_twice ys i a x one at in
    let second : b ≡ x = read_twice ys i b x two at in
    let its : list ≡ rank_sum x.1 (list_with of k rows x.0) =
    made ∙ ap (rank_sum b.1) (is ∙ ap (λ (f : Datum × List ℕ). list_with of k rows f.0) first) ∙ ap (λ (f : Datum × List ℕ). rank_sum f.1 (list_with of k rows x.0)) second in
    rw its refl
