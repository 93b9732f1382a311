-- The state machine of the crate `csv`, over bytes without a quotation mark.
use Rattle.std.proofs.Common.{◌≡◌, ℕ, zero, suc, ◌+◌, ◌≤◌, Bool, true, false, List, [], ◌∷◌, ◌++◌, length, map, refl, sym, ap, ◌∙◌, subst, arith, append-nil, append_assoc, ◌||◌, if◌then◌else◌}
use Rattle.std.proofs.lemmas.Bool.{eqb-true}
use Rattle.std.specs.Prelude.{◌==◌}
use Rattle.csv.specs.Machine.{next_record}
use Rattle.csv.specs.Reading.{default_config, records, records_from, records_next}
use Rattle.csv.specs.declared.parser.State.TheVariants as st
use Rattle.plain_records.specs.Plain.{after_first, ends_line, fields_of_line, before_first, has_quote, is_comma, plain_records}
use Rattle.plain_records.proofs.LineFacts.{first_line, front_more, front_none, shorter_behind, with_front}

record NoQuote (c : ℕ) (rest : List ℕ) : Type 0 where
  first : (c == 34) ≡ false
  others : has_quote rest ≡ false

no_quote_by : (c : ℕ) (rest : List ℕ) (b : Bool) → (c == 34) ≡ b → (b || has_quote rest) ≡ false → NoQuote c rest
no_quote_by c rest true e h = absurd (cc)
no_quote_by c rest false e h = record { first = e; others = h }

no_quote : (c : ℕ) (rest : List ℕ) → has_quote (c ∷ rest) ≡ false → NoQuote c rest
no_quote c rest h = no_quote_by c rest (c == 34) refl h

-- without a quotation mark the machine does the same at the start of a field (`StartField`) as within a field (`InField`)
begun_field : (fields : List (List ℕ)) (field bytes : List ℕ) → has_quote bytes ≡ false
    → next_record default_config st.StartField fields field bytes ≡ next_record default_config st.InField fields field bytes
unfolding next_record
begun_field fields field [] h = refl
begun_field fields field (c ∷ rest) h = let q : (c == 34) ≡ false = (no_quote c rest h).first in rw q refl

begun_record : (c : ℕ) (rest : List ℕ) → (c == 34) ≡ false → (c == 13) ≡ false → (c == 10) ≡ false
    → next_record default_config st.StartRecord [] [] (c ∷ rest) ≡ next_record default_config st.InField [] [] (c ∷ rest)
unfolding next_record
begun_record c rest q cr lf = rw (cr, lf, q) refl

-- an LF after CR doesn't end another record
after_cr_by : (c : ℕ) (rest : List ℕ) (b : Bool) → (c == 10) ≡ b
    → next_record default_config st.AfterCr [] [] (c ∷ rest) ≡ next_record default_config st.StartRecord [] [] (c ∷ rest)
unfolding next_record
after_cr_by c rest true e = let is : c ≡ 10 = eqb-true c 10 e in rw is refl
after_cr_by c rest false e = rw e refl

after_cr : (bytes : List ℕ) → next_record default_config st.AfterCr [] [] bytes ≡ next_record default_config st.StartRecord [] [] bytes
unfolding next_record
after_cr [] = refl
after_cr (c ∷ rest) = after_cr_by c rest (c == 10) refl

records_after_cr : (n : ℕ) (bytes : List ℕ) → records_from default_config n st.AfterCr bytes ≡ records_from default_config n st.StartRecord bytes
unfolding records_from
records_after_cr zero bytes = refl
records_after_cr (suc n) bytes = ap (records_next (records_from default_config n)) (after_cr bytes)

-- within a record, the machine reads the rest of this record from `bytes`, and then the records after it
abbrev ReadsRestOfRecord : ℕ → List (List ℕ) → List ℕ → List ℕ → Type 0
ReadsRestOfRecord n fields field bytes =
    records_next (records_from default_config n) (next_record default_config st.InField fields field bytes)
    ≡ (fields ++ with_front field (fields_of_line (before_first ends_line bytes))) ∷ records_from default_config n st.StartRecord (after_first ends_line bytes)

goes_end : (n : ℕ) (fields : List (List ℕ)) (field : List ℕ) → ReadsRestOfRecord n fields field []
unfolding next_record
goes_end n fields field = rw append-nil refl

joined : (fields : List (List ℕ)) (field bytes : List ℕ)
    → (fields ++ field ∷ []) ++ with_front [] (fields_of_line bytes) ≡ fields ++ with_front field ([] ∷ fields_of_line bytes)
joined fields field bytes = rw (append_assoc, append-nil, front_none is_comma bytes) refl

goes_comma : (n : ℕ) (fields : List (List ℕ)) (field rest : List ℕ) → has_quote rest ≡ false → ReadsRestOfRecord n (fields ++ field ∷ []) [] rest → ReadsRestOfRecord n fields field (44 ∷ rest)
unfolding next_record
goes_comma n fields field rest h next =
    ap (records_next (records_from default_config n)) (begun_field (fields ++ field ∷ []) [] rest h) ∙ next
    ∙ ap (λ record'. record' ∷ records_from default_config n st.StartRecord (after_first ends_line rest)) (joined fields field (before_first ends_line rest))

goes_cr : (n : ℕ) (fields : List (List ℕ)) (field rest : List ℕ) → ReadsRestOfRecord n fields field (13 ∷ rest)
unfolding next_record
goes_cr n fields field rest =
    rw append-nil (ap (λ records. (fields ++ field ∷ []) ∷ records) (records_after_cr n rest))

goes_lf : (n : ℕ) (fields : List (List ℕ)) (field rest : List ℕ) → ReadsRestOfRecord n fields field (10 ∷ rest)
unfolding next_record
goes_lf n fields field rest = rw append-nil refl

goes_byte : (n : ℕ) (fields : List (List ℕ)) (field rest : List ℕ) (c : ℕ) → (c == 44) ≡ false → (c == 13) ≡ false → (c == 10) ≡ false
    → ReadsRestOfRecord n fields (field ++ c ∷ []) rest → ReadsRestOfRecord n fields field (c ∷ rest)
unfolding next_record
goes_byte n fields field rest c comma cr lf next =
    rw (comma, cr, lf, comma) (next ∙ ap (λ parts. (fields ++ parts) ∷ records_from default_config n st.StartRecord (after_first ends_line rest))
    (sym (front_more is_comma field (before_first ends_line rest) c)))

goes_by : (n : ℕ) (fields : List (List ℕ)) (field rest : List ℕ) (c : ℕ) (x y z : Bool) → (c == 44) ≡ x → (c == 13) ≡ y → (c == 10) ≡ z → has_quote rest ≡ false
    → ((fs : List (List ℕ)) (f : List ℕ) → ReadsRestOfRecord n fs f rest) → ReadsRestOfRecord n fields field (c ∷ rest)
goes_by n fields field rest c true y z comma cr lf h next =
    let is : c ≡ 44 = eqb-true c 44 comma in rw is (goes_comma n fields field rest h (next (fields ++ field ∷ []) []))
goes_by n fields field rest c false true z comma cr lf h next = let is : c ≡ 13 = eqb-true c 13 cr in rw is (goes_cr n fields field rest)
goes_by n fields field rest c false false true comma cr lf h next = let is : c ≡ 10 = eqb-true c 10 lf in rw is (goes_lf n fields field rest)
goes_by n fields field rest c false false false comma cr lf h next = goes_byte n fields field rest c comma cr lf (next fields (field ++ c ∷ []))

goes : (n : ℕ) (bytes : List ℕ) (fields : List (List ℕ)) (field : List ℕ) → has_quote bytes ≡ false → ReadsRestOfRecord n fields field bytes
goes n [] fields field h = goes_end n fields field
goes n (c ∷ rest) fields field h =
    let parts = no_quote c rest h in
    goes_by n fields field rest c (c == 44) (c == 13) (c == 10) refl refl refl parts.others (λ fs f. goes n rest fs f parts.others)

-- the bytes after a line have no quotation mark
quotes_by : (c : ℕ) (rest : List ℕ) (b : Bool) → has_quote rest ≡ false → has_quote (after_first ends_line rest) ≡ false
    → has_quote (if b then rest else after_first ends_line rest) ≡ false
quotes_by c rest true h next = h
quotes_by c rest false h next = next

quotes_behind : (bytes : List ℕ) → has_quote bytes ≡ false → has_quote (after_first ends_line bytes) ≡ false
quotes_behind [] h = refl
quotes_behind (c ∷ rest) h = let parts = no_quote c rest h in quotes_by c rest (ends_line c) parts.others (quotes_behind rest parts.others)

-- from the start of a line on, the machine gives the records of this crate. It reads at most n + 1 records
abbrev AreLines : ℕ → List ℕ → Type 0
AreLines n bytes = records_from default_config (suc n) st.StartRecord bytes ≡ plain_records bytes

lines_cr : (n : ℕ) (rest : List ℕ) → AreLines n rest → AreLines n (13 ∷ rest)
unfolding next_record records_from
lines_cr n rest next = next

lines_lf : (n : ℕ) (rest : List ℕ) → AreLines n rest → AreLines n (10 ∷ rest)
unfolding next_record records_from
lines_lf n rest next = next

lines_byte : (n : ℕ) (rest : List ℕ) (c : ℕ) → (c == 34) ≡ false → (c == 13) ≡ false → (c == 10) ≡ false → has_quote (c ∷ rest) ≡ false
    → AreLines n (after_first ends_line (c ∷ rest)) → AreLines (suc n) (c ∷ rest)
unfolding records_from
lines_byte n rest c q cr lf h next =
    let line : before_first ends_line (c ∷ rest) ≡ c ∷ before_first ends_line rest = rw (cr, lf) refl in
    ap (records_next (records_from default_config (suc n))) (begun_record c rest q cr lf)
    ∙ goes (suc n) (c ∷ rest) [] [] h
    ∙ ap (λ record'. record' ∷ records_from default_config (suc n) st.StartRecord (after_first ends_line (c ∷ rest))) (front_none is_comma (before_first ends_line (c ∷ rest)))
    ∙ ap (λ rest'. fields_of_line (before_first ends_line (c ∷ rest)) ∷ rest') next
    ∙ ap (λ l. fields_of_line l ∷ plain_records (after_first ends_line (c ∷ rest))) line
    ∙ sym (ap (map fields_of_line) (first_line (c ∷ rest) (before_first ends_line rest) c line))

are_lines_of : (n : ℕ) (rest : List ℕ) (c : ℕ) (y z : Bool) → (c == 34) ≡ false → (c == 13) ≡ y → (c == 10) ≡ z → has_quote (c ∷ rest) ≡ false
    → AreLines (suc n) rest → AreLines n (after_first ends_line rest) → AreLines (suc n) (c ∷ rest)
are_lines_of n rest c true z q cr lf h next after = let is : c ≡ 13 = eqb-true c 13 cr in rw is (lines_cr (suc n) rest next)
are_lines_of n rest c false true q cr lf h next after = let is : c ≡ 10 = eqb-true c 10 lf in rw is (lines_lf (suc n) rest next)
are_lines_of n rest c false false q cr lf h next after =
    let same : after_first ends_line (c ∷ rest) ≡ after_first ends_line rest = rw (cr, lf) refl in
    lines_byte n rest c q cr lf h (subst (AreLines n) (sym same) after)

are_lines : (k n : ℕ) (bytes : List ℕ) → length bytes ≤ k → length bytes ≤ n → has_quote bytes ≡ false → AreLines n bytes
unfolding next_record records_from
are_lines k n [] few enough h = refl
are_lines zero n (c ∷ rest) few enough h = absurd (omega (arith, few))
are_lines (suc k) zero (c ∷ rest) few enough h = absurd (omega (arith, enough))
are_lines (suc k) (suc n) (c ∷ rest) few enough h =
    let parts = no_quote c rest h in
    are_lines_of n rest c (c == 13) (c == 10) parts.first refl refl h
    (are_lines k (suc n) rest (omega (arith, few)) (omega (arith, enough)) parts.others)
    (are_lines k n (after_first ends_line rest) (omega (arith, few, shorter_behind ends_line rest)) (omega (arith, enough, shorter_behind ends_line rest)) (quotes_behind rest parts.others))

-- bytes without a quotation mark have these records
pub plain_is : (bytes : List ℕ) → has_quote bytes ≡ false → records default_config bytes ≡ plain_records bytes
plain_is bytes h =
    let one : length bytes + 1 ≡ suc (length bytes) = omega arith in
    rw one (are_lines (length bytes) (length bytes) bytes (omega arith) (omega arith) h)
