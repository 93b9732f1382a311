-- Steps of the loop over a header's fields that finds the place of a column.
use Rattle.std.proofs.Common.{ℕ, ◌≡◌, ◌+◌, ◌<◌, List, [], ◌∷◌, ◌++◌, length, drop, Option, None, Some, true, false, refl, ap, sym, ◌∙◌, get_or}
use Rattle.std.specs.Option.{is_some}
use Rattle.std.specs.Str.{str_eq_ignore_ascii_case}
use Rattle.std.proofs.lemmas.List.{drop_more}
use Rattle.csv.specs.Records.{field_at}
use Rattle.csv.proofs.RecordFacts.{field-get}
use Rattle.csv_tables.specs.Header.{single_item, places_from, column_place as place_of, column_places}
use Rattle.csv_tables.specs.Steps.{or_refuse, then_all}
use Rattle.csv_tables.specs.declared.types.TableError.TheVariants as error
use Rattle.schema_types.specs.declared.types.Column.{Column}
use Rattle.csv_tables.specs.Records.{Record}

abbrev pub as_list : Option ℕ → List ℕ
as_list None = []
as_list (Some place) = place ∷ []

abbrev pub FoundSoFar : List ℕ → Record → Option ℕ → ℕ → Type 0
FoundSoFar name fields found at = places_from 0 name fields ≡ as_list found ++ places_from at name (drop at fields)

places_here : (name : List ℕ) (fields : Record) (at : ℕ) (field : List ℕ) → at < length fields → field_at fields at ≡ Some field
    → places_from at name (drop at fields) ≡ places_from at name (field ∷ drop (at + 1) fields)
places_here name fields at field within e =
    ap (places_from at name) (drop_more fields at [] within ∙ ap (λ f. f ∷ drop (at + 1) fields) (field-get fields at field e))

pub passed_over : (name : List ℕ) (fields : Record) (found : Option ℕ) (at : ℕ) (field : List ℕ) → at < length fields → field_at fields at ≡ Some field
    → str_eq_ignore_ascii_case field name ≡ false → FoundSoFar name fields found at → FoundSoFar name fields found (at + 1)
passed_over name fields found at field within e differs so_far =
    so_far ∙ ap (λ places. as_list found ++ places) (places_here name fields at field within e ∙ rw differs refl)

pub found_one : (name : List ℕ) (fields : Record) (found : Option ℕ) (at : ℕ) (field : List ℕ) → at < length fields → field_at fields at ≡ Some field
    → str_eq_ignore_ascii_case field name ≡ true → is_some found ≡ false → FoundSoFar name fields found at → FoundSoFar name fields (Some at) (at + 1)
found_one name fields None at field within e matches first so_far = so_far ∙ places_here name fields at field within e ∙ rw matches refl
found_one name fields (Some place) at field within e matches first so_far = absurd (cc first)

pub found_two : (name : List ℕ) (fields : Record) (found : Option ℕ) (at : ℕ) (field : List ℕ) → at < length fields → field_at fields at ≡ Some field
    → str_eq_ignore_ascii_case field name ≡ true → is_some found ≡ true → FoundSoFar name fields found at → place_of name fields ≡ None
found_two name fields None at field within e matches second so_far = absurd (cc second)
found_two name fields (Some place) at field within e matches second so_far =
    let both : places_from at name (field ∷ drop (at + 1) fields) ≡ at ∷ places_from (at + 1) name (drop (at + 1) fields) = rw matches refl in
    ap single_item (so_far ∙ ap (λ places. place ∷ places) (places_here name fields at field within e ∙ both))

pub places_of_next : (columns : List Column) (number : ℕ) (column : Column) (header : Record) → number < length columns → column ≡ get_or columns number column
    → column_places number (drop number columns) header
    ≡ then_all (or_refuse (error.Header number) (place_of column.name header)) (column_places (number + 1) (drop (number + 1) columns) header)
places_of_next columns number column header within is =
    ap (λ rest. column_places number rest header) (drop_more columns number column within ∙ ap (λ c. c ∷ drop (number + 1) columns) (sym is))
