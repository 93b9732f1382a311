-- Reading the text of some records as CSV gives these records.
use Rattle.std.proofs.Common.{◌≡◌, ℕ, suc, zero, ◌+◌, ◌≤◌, ◌<◌, List, [], ◌∷◌, ◌++◌, length, Some, false, refl, sym, ap, ◌∙◌, arith, append_assoc}
use Rattle.std.specs.Prelude.{◌==◌}
use Rattle.std.specs.List.{flat_map, join_with_byte}
use Rattle.std.proofs.lemmas.List.Concat.{flat_map-cons}
use Rattle.std.proofs.lemmas.List.{length-append}
use Rattle.csv.specs.Machine.{Runs, next_record, step}
use Rattle.csv.specs.Reading.{default_config, records, records_from, strip_bom}
use Rattle.csv.specs.declared.parser.Action.TheVariants as act
use Rattle.csv.specs.declared.parser.State.{State}
use Rattle.csv.specs.declared.parser.State.TheVariants as st
use Rattle.csv.proofs.ReadFacts.{run-copies}
use Rattle.demo_files.specs.Files.{file_text, record_text}

-- each byte is 48 or more, so it is no comma, quote, CR or LF: it ends no field and no record
abbrev pub AreAtLeast48 : List ℕ → Type 0
AreAtLeast48 [] = Unit {0}
AreAtLeast48 (b ∷ bs) = (48 ≤ b) × AreAtLeast48 bs

abbrev pub IsField : List ℕ → Type 0
IsField [] = ⊥
IsField (b ∷ bs) = (48 ≤ b) × AreAtLeast48 bs

abbrev pub AreFields : List (List ℕ) → Type 0
AreFields [] = Unit {0}
AreFields (x ∷ xs) = IsField x × AreFields xs

abbrev pub IsRecord : List (List ℕ) → Type 0
IsRecord [] = ⊥
IsRecord (x ∷ xs) = IsField x × AreFields xs

abbrev pub AreRecords : List (List (List ℕ)) → Type 0
AreRecords [] = Unit {0}
AreRecords (r ∷ rs) = IsRecord r × AreRecords rs

abbrev Copies : State → Type 0
Copies s = (b : ℕ) → 48 ≤ b → step default_config s b ≡ (st.InField, act.Copy)

in_field : Copies st.InField
in_field b h =
    let comma : (b == 44) ≡ false = grind (arith, h) in
    let cr : (b == 13) ≡ false = grind (arith, h) in
    let lf : (b == 10) ≡ false = grind (arith, h) in
    rw (comma, cr, lf) refl

at_field : Copies st.StartField
at_field b h =
    let comma : (b == 44) ≡ false = grind (arith, h) in
    let cr : (b == 13) ≡ false = grind (arith, h) in
    let lf : (b == 10) ≡ false = grind (arith, h) in
    let quote : (b == 34) ≡ false = grind (arith, h) in
    rw (comma, cr, lf, quote) refl

at_record : Copies st.StartRecord
at_record b h =
    let comma : (b == 44) ≡ false = grind (arith, h) in
    let cr : (b == 13) ≡ false = grind (arith, h) in
    let lf : (b == 10) ≡ false = grind (arith, h) in
    let quote : (b == 34) ≡ false = grind (arith, h) in
    rw (comma, cr, lf, quote) refl

digits_stay_in_field : (bs : List ℕ) → AreAtLeast48 bs → Runs default_config st.InField bs
unfolding Runs
digits_stay_in_field [] h = tt
digits_stay_in_field (b ∷ bs) h = (in_field b h.0, digits_stay_in_field bs h.1)

field_read : (s : State) → Copies s → (fields : List (List ℕ)) (x tail : List ℕ) → IsField x
    → next_record default_config s fields [] (x ++ tail) ≡ next_record default_config st.InField fields x tail
unfolding next_record
field_read s copies fields [] tail h = absurd h
field_read s copies fields (b ∷ bs) tail h =
    rw (copies b h.0) (run-copies default_config st.InField fields (b ∷ []) bs tail (digits_stay_in_field bs h.1))

record_read : (s : State) → Copies s → (fields : List (List ℕ)) (x : List ℕ) (rest : List (List ℕ)) (tail : List ℕ)
    → IsField x → AreFields rest
    → next_record default_config s fields [] (join_with_byte 44 (x ∷ rest) ++ (13 ∷ tail)) ≡ Some (fields ++ (x ∷ rest), st.AfterCr, tail)
unfolding next_record
record_read s copies fields x [] tail h k = field_read s copies fields x (13 ∷ tail) h
record_read s copies fields x (y ∷ ys) tail h k =
    ap (next_record default_config s fields []) (append_assoc x (44 ∷ join_with_byte 44 (y ∷ ys)) (13 ∷ tail))
    ∙ field_read s copies fields x (44 ∷ (join_with_byte 44 (y ∷ ys) ++ (13 ∷ tail))) h
    ∙ record_read st.StartField at_field (fields ++ (x ∷ [])) y ys tail k.0 k.1
    ∙ ap (λ f. Some (f, st.AfterCr, tail)) (append_assoc fields (x ∷ []) (y ∷ ys))

first_record_read : (r : List (List ℕ)) (tail : List ℕ) → IsRecord r
    → next_record default_config st.StartRecord [] [] (record_text r ++ tail) ≡ Some (r, st.AfterCr, 10 ∷ tail)
first_record_read [] tail h = absurd h
first_record_read (x ∷ xs) tail h =
    ap (next_record default_config st.StartRecord [] []) (append_assoc (join_with_byte 44 (x ∷ xs)) (13 ∷ 10 ∷ []) tail)
    ∙ record_read st.StartRecord at_record [] x xs (10 ∷ tail) h.0 h.1

after_lf : (n : ℕ) (xs : List ℕ) → records_from default_config n st.AfterCr (10 ∷ xs) ≡ records_from default_config n st.StartRecord xs
unfolding records_from next_record
after_lf zero xs = refl
after_lf (suc n) xs = refl

records_read : (n : ℕ) (rs : List (List (List ℕ))) → AreRecords rs → length rs < n
    → records_from default_config n st.StartRecord (flat_map record_text rs) ≡ rs
unfolding records_from next_record
records_read zero rs h more = absurd (omega (arith, more))
records_read (suc n) [] h more = refl
records_read (suc n) (r ∷ rs) h more =
    let first = first_record_read r (flat_map record_text rs) h.0 in
    rw (flat_map-cons record_text r rs, first)
    (ap (λ x. r ∷ x) (after_lf n (flat_map record_text rs) ∙ records_read n rs h.1 (omega (arith, more))))

no_more_records_than_bytes : (rs : List (List (List ℕ))) → length rs ≤ length (flat_map record_text rs)
no_more_records_than_bytes [] = omega arith
no_more_records_than_bytes (r ∷ rs) =
    let e : length (flat_map record_text (r ∷ rs)) ≡ length (join_with_byte 44 r) + 2 + length (flat_map record_text rs) =
    ap length (flat_map-cons record_text r rs) ∙ length-append (record_text r) (flat_map record_text rs)
    ∙ ap (λ n. n + length (flat_map record_text rs)) (length-append (join_with_byte 44 r) (13 ∷ 10 ∷ [])) in
    let rest = no_more_records_than_bytes rs in
    omega (arith, e, rest)

no_byte_order_mark : (b : ℕ) (bs : List ℕ) → b < 128 → strip_bom (b ∷ bs) ≡ b ∷ bs
unfolding strip_bom
no_byte_order_mark b [] small = refl
no_byte_order_mark b (c ∷ []) small = refl
no_byte_order_mark b (c ∷ d ∷ rest) small = let no : (b == 239) ≡ false = grind (arith, small) in rw no refl

pub read_back : (r : List (List ℕ)) (rs : List (List (List ℕ))) (b : ℕ) (bs : List ℕ) → record_text r ≡ b ∷ bs
    → b < 128 → AreRecords (r ∷ rs) → records default_config (strip_bom (file_text (r ∷ rs))) ≡ r ∷ rs
unfolding file_text
read_back r rs b bs begins small h =
    let front : flat_map record_text (r ∷ rs) ≡ b ∷ (bs ++ flat_map record_text rs) =
    flat_map-cons record_text r rs ∙ ap (λ x. x ++ flat_map record_text rs) begins in
    let same : strip_bom (flat_map record_text (r ∷ rs)) ≡ flat_map record_text (r ∷ rs) =
    ap strip_bom front ∙ no_byte_order_mark b (bs ++ flat_map record_text rs) small ∙ sym front in
    let rest = no_more_records_than_bytes (r ∷ rs) in
    ap (records default_config) same ∙ records_read (length (flat_map record_text (r ∷ rs)) + 1) (r ∷ rs) h (omega (arith, rest))
