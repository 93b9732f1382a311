-- Adding a record to a table appends the record's text to the text of the table's file.
use Rattle.std.proofs.Common.{◌≡◌, ℕ, ◌+◌, List, [], ◌∷◌, ◌++◌, map, decimal, sym, ap, ◌∙◌, append-nil, arith}
use Rattle.std.specs.List.{flat_map, range_with_len}
use Rattle.std.proofs.lemmas.Grind.{flat_map-append}
use Rattle.std.proofs.lemmas.List.Concat.{flat_map-cons}
use Rattle.std.proofs.lemmas.List.FromFn.{map-range_with_len_more}
use Rattle.demo_files.specs.Files.{file_text, record_text, table_records}

pub header_only : (names : List (List ℕ)) (numbers : ℕ → List ℕ) → record_text names ≡ file_text (table_records names numbers 0)
unfolding file_text table_records
header_only names numbers = sym (flat_map-cons record_text names [] ∙ append-nil (record_text names))

text_of_one_record : (fields : List (List ℕ)) → flat_map record_text (fields ∷ []) ≡ record_text fields
text_of_one_record fields = flat_map-cons record_text fields [] ∙ append-nil (record_text fields)

pub text_with_next_record : (names : List (List ℕ)) (numbers : ℕ → List ℕ) (n : ℕ) (old new : List ℕ)
    → old ≡ file_text (table_records names numbers n) → new ≡ old ++ record_text (map decimal (numbers n))
    → new ≡ file_text (table_records names numbers (n + 1))
unfolding file_text table_records
text_with_next_record names numbers n old new before after =
    let so_far = names ∷ map (λ i. map decimal (numbers i)) (range_with_len 0 n) in
    let next = map decimal (numbers n) in
    let more = ap (λ x. flat_map record_text (names ∷ x)) (map-range_with_len_more (λ i. map decimal (numbers i)) 0 n n (omega arith)) in
    let parts = flat_map-append record_text so_far (next ∷ []) ∙ ap (λ x. flat_map record_text so_far ++ x) (text_of_one_record next) in
    after ∙ ap (λ x. x ++ record_text next) before ∙ sym (more ∙ parts)
