-- A word of runs is either one run (a value, a star and a count), or several runs with blanks between them.
use Rattle.std.proofs.Common.{[], ◌≡◌, ℕ, zero, suc, ◌<◌, ◌↔◌, List, ◌∷◌, ◌++◌, ap, sym, subst, ◌∙◌, arith, append-nil}
use Rattle.std.specs.Prelude.{codes}
use Rattle.std.specs.List.{AllByRecursion, flat_map}
use Rattle.stats_file.specs.Grammar.{AreRunWords, IsNumeral, IsRunWord}
use Rattle.stats_words.specs.Splits.{IsSplitAt, HasNoByte}
use Rattle.stats_words.proofs.NumberFacts.{are_digits}
use Rattle.stats_words.proofs.SplitFacts.{both_without, digits_without, not_without, split_same}

pub numeral_without : (c : ℕ) → c < 48 → (word : List ℕ) → IsNumeral word → HasNoByte c word
numeral_without c is_below word is = digits_without c (λ r. omega (arith, r.0)) word (are_digits word is)

one_star : HasNoByte 32 (42 ∷ [])
one_star zero d lt = λ e. omega (arith, e)
one_star (suc k) d lt = absurd (omega arith)

pub run_without : (word : List ℕ) → IsRunWord word → HasNoByte 32 word
run_without word is =
    subst (λ (w : List ℕ). HasNoByte 32 w) (sym is.whole)
    (both_without 32 is.value (42 ∷ is.count) (numeral_without 32 (omega arith) is.value is.value_is)
    (both_without 32 (42 ∷ []) is.count one_star (numeral_without 32 (omega arith) is.count is.count_is)))

-- 42 is the byte of the star
pub no_star : (word : List ℕ) → HasNoByte 42 word → IsRunWord word → ⊥
no_star word none is = not_without 42 is.value is.count (subst (λ (w : List ℕ). HasNoByte 42 w) is.whole none)

pub run_is : (word value count : List ℕ) → IsSplitAt 42 word value count → IsRunWord word ↔ (IsNumeral value × IsNumeral count)
run_is word value count split = (to, from)
  where
    to : IsRunWord word → IsNumeral value × IsNumeral count
    to is =
        let same = split_same 42 is.value value is.count count (numeral_without 42 (omega arith) is.value is.value_is) split.first (sym is.whole ∙ split.whole) in
        (subst (λ (w : List ℕ). IsNumeral w) same.0 is.value_is, subst (λ (w : List ℕ). IsNumeral w) same.1 is.count_is)

    from : IsNumeral value × IsNumeral count → IsRunWord word
    from two = record { value = value; count = count; value_is = two.0; count_is = two.1; whole = split.whole }

abbrev with_blank_before : List ℕ → List ℕ
with_blank_before run = codes " " ++ run

run_first : (rest run others first : List ℕ) (more : List (List ℕ)) → IsSplitAt 32 rest run others → IsRunWord first → AllByRecursion IsRunWord more
    → rest ≡ first ++ flat_map with_blank_before more → IsRunWord run × AreRunWords others
run_first rest run others first [] split first_is more_are whole =
    absurd (not_without 32 run others (subst (λ (w : List ℕ). HasNoByte 32 w) (sym (append-nil first) ∙ sym whole ∙ split.whole) (run_without first first_is)))
run_first rest run others first (o ∷ os) split first_is more_are whole =
    let same = split_same 32 first run (o ++ flat_map with_blank_before os) others (run_without first first_is) split.first (sym whole ∙ split.whole) in (
      subst (λ (w : List ℕ). IsRunWord w) same.0 first_is,
      record { first = o; others = os; first_is = more_are.0; others_are = more_are.1; whole = sym same.1 },
    )

-- 32 is the byte of the blank
pub run_words_split : (rest run others : List ℕ) → IsSplitAt 32 rest run others → AreRunWords rest ↔ (IsRunWord run × AreRunWords others)
run_words_split rest run others split = (to, from)
  where
    to : AreRunWords rest → IsRunWord run × AreRunWords others
    to are = run_first rest run others are.first are.others split are.first_is are.others_are are.whole

    from : IsRunWord run × AreRunWords others → AreRunWords rest
    from (is, are) = record {
      first = run;
      others = are.first ∷ are.others;
      first_is = is;
      others_are = (are.first_is, are.others_are);
      whole = split.whole ∙ ap (λ (w : List ℕ). run ++ (32 ∷ w)) are.whole;
    }

single_run_word : (rest first : List ℕ) (more : List (List ℕ)) → HasNoByte 32 rest → IsRunWord first → rest ≡ first ++ flat_map with_blank_before more → IsRunWord rest
single_run_word rest first [] none first_is whole = subst (λ (w : List ℕ). IsRunWord w) (sym (append-nil first) ∙ sym whole) first_is
single_run_word rest first (o ∷ os) none first_is whole = absurd (not_without 32 first (o ++ flat_map with_blank_before os) (subst (λ (w : List ℕ). HasNoByte 32 w) whole none))

pub run_words_without_blank : (rest : List ℕ) → HasNoByte 32 rest → AreRunWords rest ↔ IsRunWord rest
run_words_without_blank rest none = (
  λ are. single_run_word rest are.first are.others none are.first_is are.whole,
  λ is. record { first = rest; others = []; first_is = is; others_are = tt; whole = sym (append-nil rest) },
)
