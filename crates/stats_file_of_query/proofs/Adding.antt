-- Loops that add one column or one pair at a time to a list.
use Rattle.std.proofs.Common.{◌≡◌, ◌==◌, true, false, ℕ, ◌+◌, ◌<◌, ◌≤◌, List, [], ◌∷◌, ◌++◌, map, length, take, get_or, append_assoc, Option, None, Some, refl, ap, sym, ◌∙◌}
use Rattle.std.specs.List.{filter_map, list_any}
use Rattle.std.proofs.lemmas.List.{append-nil, map-append, take_all, take_more}
use Rattle.std.proofs.lemmas.List.Elements.{filter_map-append}
use Rattle.degree_lists.proofs.OneMoreKey.{different-push}
use Rattle.degree_sequences.specs.Degrees.{different}
use Rattle.stats_file_of_query.specs.Columns.{with_column}

-- ---- one more column is added to a list that has each column once

column_pushed : {X : Type 0} (f : X → Option ℕ) (xs : List X) (x : X) (o : Option ℕ) → f x ≡ o
    → with_column (different (filter_map f xs)) o ≡ different (filter_map f (xs ++ x ∷ []))
column_pushed f xs x None e =
    let none : filter_map f (x ∷ []) ≡ [] = rw e refl in
    ap different (sym (filter_map-append f xs (x ∷ []) ∙ ap (λ (s : List ℕ). filter_map f xs ++ s) none ∙ append-nil (filter_map f xs)))
column_pushed f xs x (Some column) e =
    let one : filter_map f (x ∷ []) ≡ column ∷ [] = rw e refl in
    sym (ap different (filter_map-append f xs (x ∷ []) ∙ ap (λ (s : List ℕ). filter_map f xs ++ s) one) ∙ different-push (filter_map f xs) column)

pub present_column_not_added : (columns : List ℕ) (o : Option ℕ) (column : ℕ) → o ≡ Some column → list_any (λ other. column == other) columns ≡ true → columns ≡ with_column columns o
present_column_not_added columns o column some has = rw (some, has) refl

pub absent_column_added : (columns : List ℕ) (o : Option ℕ) (column : ℕ) → o ≡ Some column → list_any (λ other. column == other) columns ≡ false
    → columns ++ column ∷ [] ≡ with_column columns o
absent_column_added columns o column some absent = rw (some, absent) refl

pub one_column_more : {X : Type 0} (f : X → Option ℕ) (xs : List X) (i : ℕ) (x : X) (old new : List ℕ) (column : Option ℕ) → i < length xs → x ≡ get_or xs i x
    → old ≡ different (filter_map f (take i xs)) → column ≡ f x → new ≡ with_column old column → new ≡ different (filter_map f (take (i + 1) xs))
one_column_more f xs i x old new column low at before asked added =
    added ∙ ap (λ (s : List ℕ). with_column s column) before ∙ column_pushed f (take i xs) x column (sym asked)
    ∙ ap (λ s. different (filter_map f (take i xs ++ s ∷ []))) at ∙ ap (λ s. different (filter_map f s)) (sym (take_more xs i x low))

pub all_columns : {X : Type 0} (f : X → Option ℕ) (xs : List X) (i : ℕ) (columns : List ℕ) → length xs ≤ i → columns ≡ different (filter_map f (take i xs))
    → columns ≡ different (filter_map f xs)
all_columns f xs i columns past are = are ∙ ap (λ s. different (filter_map f s)) (take_all i xs past)

-- ---- items are appended one by one

pub one_pair_more : {X Y : Type 0} (f : X → Y) (xs : List X) (i : ℕ) (x : X) (first old new : List Y) → i < length xs → old ≡ first ++ map f (take i xs)
    → new ≡ old ++ f (get_or xs i x) ∷ [] → new ≡ first ++ map f (take (i + 1) xs)
one_pair_more f xs i x first old new low before pushed =
    pushed ∙ ap (λ s. s ++ f (get_or xs i x) ∷ []) before ∙ append_assoc first (map f (take i xs)) (f (get_or xs i x) ∷ [])
    ∙ ap (λ s. first ++ s) (sym (map-append f (take i xs) (get_or xs i x ∷ [])) ∙ ap (map f) (sym (take_more xs i x low)))
