-- Steps of the loop that compares the bytes of a word with a keyword.
use Rattle.std.proofs.Common.{◌≡◌, ◌≢◌, ℕ, suc, ◌+◌, ◌<◌, Bool, true, false, ◌&&◌, eqb, List, [], ◌∷◌, length, get_or, drop, refl, sym, ap, ◌∙◌, arith}
use Rattle.std.proofs.lemmas.Bool.{eq-eqb, ne_eqb}
use Rattle.std.proofs.lemmas.List.{drop_more, drop_all}
use Rattle.std.specs.Char.{to_ascii_uppercase}
use Rattle.std.specs.Str.{bytes_eq}
use Rattle.sql_tokens.specs.Words.{in_upper_case}

and_false : (a b : Bool) → false ≡ b → false ≡ (a && b)
and_false true b e = e
and_false false b e = refl

pub other_length : (word bytes : List ℕ) → length word ≢ length bytes → false ≡ bytes_eq word (in_upper_case bytes)
other_length [] [] ne = absurd (ne refl)
other_length [] (b ∷ bytes) ne = refl
other_length (w ∷ word) [] ne = refl
other_length (w ∷ word) (b ∷ bytes) ne = and_false (eqb w (to_ascii_uppercase b)) (bytes_eq word (in_upper_case bytes)) (other_length word bytes (λ e. ne (ap (λ n. suc n) e)))

module _ (word bytes : List ℕ) (i : ℕ) (total : Bool) where
  step : i < length word → i < length bytes → bytes_eq (drop i word) (in_upper_case (drop i bytes))
      ≡ (eqb (get_or word i 0) (to_ascii_uppercase (get_or bytes i 0)) && bytes_eq (drop (i + 1) word) (in_upper_case (drop (i + 1) bytes)))
  step lt lt' = ap (λ (rest : List ℕ). bytes_eq rest (in_upper_case (drop i bytes))) (drop_more word i 0 lt)
      ∙ ap (λ (rest : List ℕ). bytes_eq (get_or word i 0 ∷ drop (i + 1) word) (in_upper_case rest)) (drop_more bytes i 0 lt')

  pub one_letter_more : bytes_eq (drop i word) (in_upper_case (drop i bytes)) ≡ total → i < length word → length word ≡ length bytes
      → get_or word i 0 ≡ to_ascii_uppercase (get_or bytes i 0) → bytes_eq (drop (i + 1) word) (in_upper_case (drop (i + 1) bytes)) ≡ total
  one_letter_more so_far lt same e =
      sym (step lt (omega arith) ∙ ap (λ (b : Bool). b && bytes_eq (drop (i + 1) word) (in_upper_case (drop (i + 1) bytes))) (eq-eqb (get_or word i 0) (to_ascii_uppercase (get_or bytes i 0)) e)) ∙ so_far

  pub another_letter : bytes_eq (drop i word) (in_upper_case (drop i bytes)) ≡ total → i < length word → length word ≡ length bytes
      → get_or word i 0 ≢ to_ascii_uppercase (get_or bytes i 0) → false ≡ total
  another_letter so_far lt same e =
      sym (step lt (omega arith) ∙ ap (λ (b : Bool). b && bytes_eq (drop (i + 1) word) (in_upper_case (drop (i + 1) bytes))) (ne_eqb (get_or word i 0) (to_ascii_uppercase (get_or bytes i 0)) e)) ∙ so_far

pub no_letter_left : (word bytes : List ℕ) (total : Bool) → bytes_eq (drop (length word) word) (in_upper_case (drop (length word) bytes)) ≡ total → length word ≡ length bytes → true ≡ total
no_letter_left word bytes total so_far same =
    sym (ap (λ (rest : List ℕ). bytes_eq rest (in_upper_case (drop (length word) bytes))) (drop_all (length word) word (omega arith))
    ∙ ap (λ (rest : List ℕ). bytes_eq [] (in_upper_case rest)) (drop_all (length word) bytes (omega arith))) ∙ so_far
