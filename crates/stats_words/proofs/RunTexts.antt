-- The text of a run (a value and a count), and of a list of runs. The text of a list of runs determines these runs.
use Rattle.std.proofs.Common.{[], ◌≡◌, ◌≢◌, ℕ, zero, suc, ◌+◌, ◌*◌, ◌-◌, ◌^◌, ◌<◌, ◌≤◌, ◌==◌, true, false, List, ◌∷◌, ◌++◌, replicate, length, get_or, refl, ap, sym, subst, ◌∙◌, arith, append_assoc, append-nil, if◌then◌else◌, None, Some}
use Rattle.std.specs.Prelude.{All, codes, decimal, sum}
use Rattle.std.specs.List.{AllByRecursion, flat_map}
use Rattle.std.proofs.lemmas.Bool.{eqb-true, eq-eqb}
use Rattle.std.proofs.lemmas.Fmt.{decimal_injective}
use Rattle.std.proofs.lemmas.List.Folds.{sum_by-replicate}
use Rattle.std.proofs.lemmas.List.Sums.{sum_by-append}
use Rattle.degree_sequences.specs.Descending.{IsDescending}
use Rattle.piece_math.specs.declared.pieces.Piece.{Piece}
use Rattle.piece_math.specs.Expanded.{expanded, first_value, AreRuns}
use Rattle.stats_file.specs.Grammar.{IsRunWord}
use Rattle.stats_file.specs.Lines.{run_text, runs_text}
use Rattle.stats_file.specs.Runs.{with_number_in_front, run_of, runs_of}
use Rattle.stats_file.proofs.WordFacts.{numeral}
use Rattle.stats_words.specs.Runs.{RunMayFollow}
use Rattle.stats_words.specs.Splits.{IsSplitAt, HasNoByte}
use Rattle.stats_words.specs.Words.{Spells}
use Rattle.stats_words.proofs.ListWordFacts.{numeral_without, run_without}
use Rattle.stats_words.proofs.SplitFacts.{not_without, split_same}

abbrev pub IsRunWithin : ℕ → Piece → Type 0
IsRunWithin most run = (run.value ≤ most) × (run.count ≤ most)

pub no_star_in : (n : ℕ) → n < 2 ^ 64 → HasNoByte 42 (decimal n)
no_star_in n small = numeral_without 42 (omega arith) (decimal n) (numeral n small)

pub is_run_word : (most : ℕ) (run : Piece) → most < 2 ^ 64 → IsRunWithin most run → IsRunWord (run_text run)
is_run_word most run fits small =
    let value : run.value ≤ most = small.0 in
    let count : run.count ≤ most = small.1 in
    record {
      value = decimal run.value;
      count = decimal run.count;
      value_is = numeral run.value (omega arith);
      count_is = numeral run.count (omega arith);
      whole = refl;
    }

pub no_blank_in : (most : ℕ) (run : Piece) → most < 2 ^ 64 → IsRunWithin most run → HasNoByte 32 (run_text run)
no_blank_in most run fits small = run_without (run_text run) (is_run_word most run fits small)

pub same_run_of : (most : ℕ) (a b : Piece) → most < 2 ^ 64 → IsRunWithin most a → IsRunWithin most b → run_text a ≡ run_text b → a ≡ b
same_run_of most a b fits small_a small_b e =
    let av : a.value ≤ most = small_a.0 in
    let ac : a.count ≤ most = small_a.1 in
    let bv : b.value ≤ most = small_b.0 in
    let bc : b.count ≤ most = small_b.1 in
    let same = split_same 42 (decimal a.value) (decimal b.value) (decimal a.count) (decimal b.count) (no_star_in a.value (omega arith)) (no_star_in b.value (omega arith)) e in
    let value : a.value ≡ b.value = decimal_injective a.value b.value (omega arith) (omega arith) same.0 in
    let count : a.count ≡ b.count = decimal_injective a.count b.count (omega arith) (omega arith) same.1 in
    ap (λ v. run_of v a.count) value ∙ ap (λ n. run_of b.value n) count

pub at_least_both : (v c : ℕ) → 0 < v → 0 < c → (v ≤ c * v) × (c ≤ c * v)
at_least_both zero c v_some c_some = absurd (omega arith)
at_least_both (suc v) zero v_some c_some = absurd (omega arith)
at_least_both (suc v) (suc c) v_some c_some = (grind arith, grind arith)

pub follower_is_within : (below left : ℕ) (run : Piece) → RunMayFollow below left run → IsRunWithin left run
follower_is_within below left run may =
    let both = at_least_both run.value run.count may.value may.count in
    let within : run.count * run.value ≤ left = may.within in
    (omega (arith, both.0), omega (arith, both.1))

words_of : (word value count : List ℕ) (run : Piece) (left : ℕ) → left < 2 ^ 64 → IsRunWithin left run → IsSplitAt 42 word value count → run_text run ≡ word
    → (decimal run.value ≡ value) × (decimal run.count ≡ count)
words_of word value count run left fits small split e =
    let le : run.value ≤ left = small.0 in
    split_same 42 (decimal run.value) value (decimal run.count) count (no_star_in run.value (omega arith)) split.first (e ∙ split.whole)

pub no_value : (below left : ℕ) (value count : List ℕ) → left < 2 ^ 64 → Spells decimal (λ n. n ≤ left) value None
    → (word : List ℕ) → IsSplitAt 42 word value count → Spells run_text (RunMayFollow below left) word None
no_value below left value count fits h word split run may e =
    let small = follower_is_within below left run may in
    h run.value small.0 (words_of word value count run left fits small split e).0

pub no_count : (below left : ℕ) (value count : List ℕ) → left < 2 ^ 64 → Spells decimal (λ n. n ≤ left) count None
    → (word : List ℕ) → IsSplitAt 42 word value count → Spells run_text (RunMayFollow below left) word None
no_count below left value count fits h word split run may e =
    let small = follower_is_within below left run may in
    h run.count small.1 (words_of word value count run left fits small split e).1

pub no_run : (below left : ℕ) (value count : List ℕ) (v c : ℕ) → left < 2 ^ 64 → Spells decimal (λ n. n ≤ left) value (Some v) → Spells decimal (λ n. n ≤ left) count (Some c)
    → ((0 < v) × (0 < c) × (v < below) × (c * v ≤ left) → ⊥) → (word : List ℕ) → IsSplitAt 42 word value count → Spells run_text (RunMayFollow below left) word None
no_run below left value count v c fits hv hc other word split run may e =
    let small = follower_is_within below left run may in
    let words = words_of word value count run left fits small split e in
    let le_v : run.value ≤ left = small.0 in
    let le_c : run.count ≤ left = small.1 in
    let v_le : v ≤ left = hv.0 in
    let c_le : c ≤ left = hc.0 in
    let same_v : run.value ≡ v = decimal_injective run.value v (omega arith) (omega arith) (words.0 ∙ sym hv.1) in
    let same_c : run.count ≡ c = decimal_injective run.count c (omega arith) (omega arith) (words.1 ∙ sym hc.1) in
    let product : c * v ≤ left = subst (λ n. c * n ≤ left) same_v (subst (λ n. n * run.value ≤ left) same_c may.within) in
    let value : 0 < run.value = may.value in
    let count' : 0 < run.count = may.count in
    let lower : run.value < below = may.lower in
    other (omega arith, omega arith, omega arith, product)

pub some_run : (below left : ℕ) (value count : List ℕ) (v c : ℕ) → Spells decimal (λ n. n ≤ left) value (Some v) → Spells decimal (λ n. n ≤ left) count (Some c)
    → (0 < v) × (0 < c) × (v < below) × (c * v ≤ left) → (word : List ℕ) → IsSplitAt 42 word value count → Spells run_text (RunMayFollow below left) word (Some (run_of v c))
some_run below left value count v c hv hc may word split = (
  record { value = may.0; count = may.1; lower = may.2; within = may.3 },
  ap (λ (x : List ℕ). x ++ (42 ∷ decimal c)) hv.1 ∙ ap (λ (x : List ℕ). value ++ (42 ∷ x)) hc.1 ∙ sym split.whole,
)

pub no_run_without_star : (below left : ℕ) (word : List ℕ) → HasNoByte 42 word → Spells run_text (RunMayFollow below left) word None
no_run_without_star below left word none run may e = not_without 42 (decimal run.value) (decimal run.count) (subst (λ (w : List ℕ). HasNoByte 42 w) (sym e) none)

-- the text of a run that another run follows, with the blank between them
abbrev pub with_blank_after : Piece → List ℕ
with_blank_after run = run_text run ++ codes " "

abbrev pub with_blank_before : Piece → List ℕ
with_blank_before run = codes " " ++ run_text run

next_text : (rs : List Piece) (m : Piece) → codes " " ++ runs_text (rs ++ m ∷ []) ≡ flat_map with_blank_before (rs ++ m ∷ [])
next_text [] m = refl
next_text (q ∷ qs) m = refl

pub texts_joined : (rs : List Piece) (m : Piece) → flat_map with_blank_after rs ++ run_text m ≡ runs_text (rs ++ m ∷ [])
texts_joined [] m = sym (append-nil (run_text m))
texts_joined (r ∷ rs) m =
    append_assoc (with_blank_after r) (flat_map with_blank_after rs) (run_text m) ∙ append_assoc (run_text r) (codes " ") (flat_map with_blank_after rs ++ run_text m)
    ∙ ap (λ (w : List ℕ). run_text r ++ (codes " " ++ w)) (texts_joined rs m) ∙ ap (λ (w : List ℕ). run_text r ++ w) (next_text rs m)

pub record RunsSplitOff (runs all : List Piece) (rest : List ℕ) : Type 0 where
  pub run : Piece
  pub more : List Piece
  pub whole : all ≡ runs ++ (run ∷ more)
  pub text : runs_text (run ∷ more) ≡ rest

pub stripped : (most : ℕ) (runs all : List Piece) (rest : List ℕ) → most < 2 ^ 64 → AllByRecursion (IsRunWithin most) runs → AllByRecursion (IsRunWithin most) all → 0 < length all
    → runs_text all ≡ flat_map with_blank_after runs ++ rest → RunsSplitOff runs all rest
stripped most runs [] rest fits small all_small some e = absurd (omega arith)
stripped most [] (m ∷ ms) rest fits small all_small some e = record { run = m; more = ms; whole = refl; text = e }
stripped most (r ∷ runs) (m ∷ []) rest fits small all_small some e =
    let whole : run_text m ≡ run_text r ++ (32 ∷ (flat_map with_blank_after runs ++ rest)) =
    sym (append-nil (run_text m)) ∙ e ∙ append_assoc (with_blank_after r) (flat_map with_blank_after runs) rest ∙ append_assoc (run_text r) (codes " ") (flat_map with_blank_after runs ++ rest) in
    absurd (not_without 32 (run_text r) (flat_map with_blank_after runs ++ rest) (subst (λ (w : List ℕ). HasNoByte 32 w) whole (no_blank_in most m fits all_small.0)))
stripped most (r ∷ runs) (m ∷ n ∷ ms) rest fits small all_small some e =
    let same = split_same 32 (run_text m) (run_text r) (runs_text (n ∷ ms)) (flat_map with_blank_after runs ++ rest) (no_blank_in most m fits all_small.0) (no_blank_in most r fits small.0)
    (e ∙ append_assoc (with_blank_after r) (flat_map with_blank_after runs) rest ∙ append_assoc (run_text r) (codes " ") (flat_map with_blank_after runs ++ rest)) in
    let first : m ≡ r = same_run_of most m r fits all_small.0 small.0 same.0 in
    let others = stripped most runs (n ∷ ms) rest fits small.1 all_small.1 (omega arith) same.1 in
    record { run = others.run; more = others.more; whole = ap (λ (x : Piece). x ∷ (n ∷ ms)) first ∙ ap (λ (x : List Piece). r ∷ x) others.whole; text = others.text }

-- ---- the runs of a list

pub sum_of_runs : (p : Piece) (ps : List Piece) → sum (expanded (p ∷ ps)) ≡ p.count * p.value + sum (expanded ps)
sum_of_runs p ps = sum_by-append (λ (x : ℕ). x) (replicate p.count p.value) (expanded ps) ∙ ap (λ n. n + sum (expanded ps)) (sum_by-replicate (λ (x : ℕ). x) p.count p.value)

pub runs_are_within : (most : ℕ) (ps : List Piece) → AreRuns ps → sum (expanded ps) ≤ most → AllByRecursion (IsRunWithin most) ps
runs_are_within most [] runs within = tt
runs_are_within most (p ∷ ps) runs within =
    let total = sum_of_runs p ps in
    let value : 0 < p.value = omega (arith, runs.0) in
    let both = at_least_both p.value p.count value runs.1 in
    ((omega (arith, total, both.0), omega (arith, total, both.1)), runs_are_within most ps runs.2 (omega (arith, total)))

in_front_expanded : (x : ℕ) (ps : List Piece) → expanded (with_number_in_front x ps) ≡ x ∷ expanded ps
in_front_expanded x [] = refl
in_front_expanded x (p ∷ ps) = at (x == p.value) refl
  where
    at : (b : _) → (x == p.value) ≡ b → expanded (if b then run_of x (p.count + 1) ∷ ps else run_of x 1 ∷ (p ∷ ps)) ≡ x ∷ expanded (p ∷ ps)
    at true e =
        let same : x ≡ p.value = eqb-true x p.value e in
        let more : p.count + 1 ≡ suc p.count = omega arith in
        ap (λ n. replicate n x ++ expanded ps) more ∙ ap (λ v. x ∷ (replicate p.count v ++ expanded ps)) same
    at false e = refl

pub expanded_runs : (list : List ℕ) → expanded (runs_of list) ≡ list
unfolding runs_of
expanded_runs [] = refl
expanded_runs (x ∷ list) = in_front_expanded x (runs_of list) ∙ ap (λ (rest : List ℕ). x ∷ rest) (expanded_runs list)

first_of : (x : ℕ) (ps : List Piece) → first_value (with_number_in_front x ps) ≡ x
first_of x [] = refl
first_of x (p ∷ ps) = at (x == p.value)
  where
    at : (b : _) → first_value (if b then run_of x (p.count + 1) ∷ ps else run_of x 1 ∷ (p ∷ ps)) ≡ x
    at true = refl
    at false = refl

first_runs : (list : List ℕ) → first_value (runs_of list) ≡ get_or list 0 0
unfolding runs_of
first_runs [] = refl
first_runs (x ∷ list) = first_of x (runs_of list)

in_front_runs : (x : ℕ) (ps : List Piece) → 0 < x → first_value ps ≤ x → AreRuns ps → AreRuns (with_number_in_front x ps)
in_front_runs x [] some le runs = (some, omega arith, tt)
in_front_runs x (p ∷ ps) some le runs = at (x == p.value) refl
  where
    at : (b : _) → (x == p.value) ≡ b → AreRuns (if b then run_of x (p.count + 1) ∷ ps else run_of x 1 ∷ (p ∷ ps))
    at true e = let same : x ≡ p.value = eqb-true x p.value e in (omega (arith, runs.0), omega arith, runs.2)
    at false e = let other : x ≢ p.value = (λ same. let yes' = eq-eqb x p.value same in cc) in (omega (arith, le), omega arith, runs)

pub runs_fall : (list : List ℕ) → IsDescending list → All (λ x. 0 < x) list → AreRuns (runs_of list)
unfolding runs_of
runs_fall [] descends positive = tt
runs_fall (x ∷ list) descends positive =
    let first = first_runs list in
    let below : get_or list 0 0 ≤ x = descends 0 in
    in_front_runs x (runs_of list) (positive 0 0 (omega arith)) (omega arith) (runs_fall list (λ r. descends (suc r)) (λ k d lt. positive (suc k) d (omega arith)))
