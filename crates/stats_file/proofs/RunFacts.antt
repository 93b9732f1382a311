-- If pieces are the runs of a list, `runs_of` gives these pieces for the list.
use Rattle.std.proofs.Common.{◌≡◌, ℕ, zero, suc, ◌+◌, ◌==◌, ◌<◌, ◌≤◌, true, false, List, [], ◌∷◌, ◌++◌, replicate, length, get_or, take, drop, ◌-◌, refl, ap, ◌∙◌, arith, add-one, if◌then◌else◌}
use Rattle.std.proofs.lemmas.Bool.{eq-eqb}
use Rattle.piece_math.specs.declared.pieces.Piece.{Piece}
use Rattle.piece_math.specs.Expanded.{expanded, first_value, ArePieces, AreRuns}
use Rattle.std.specs.Prelude.{codes}
use Rattle.std.specs.List.{flat_map}
use Rattle.std.proofs.lemmas.List.{take_all}
use Rattle.stats_file.specs.Lines.{run_text, runs_text}
use Rattle.stats_file.specs.Runs.{with_number_in_front, run_of, runs_of}

run_begins : (v : ℕ) (ps : List Piece) → first_value ps < v → with_number_in_front v ps ≡ run_of v 1 ∷ ps
run_begins v [] lt = refl
run_begins v (p ∷ ps) lt =
    let other : (v == p.value) ≡ false = grind arith in
    ap (λ b. if b then run_of v (p.count + 1) ∷ ps else run_of v 1 ∷ (p ∷ ps)) other

run_grows : (v k : ℕ) (ps : List Piece) → with_number_in_front v (run_of v k ∷ ps) ≡ run_of v (k + 1) ∷ ps
run_grows v k ps =
    let same : (v == v) ≡ true = eq-eqb v v refl in
    ap (λ b. if b then run_of v (k + 1) ∷ ps else run_of v 1 ∷ (run_of v k ∷ ps)) same

one_run : (v k : ℕ) (list : List ℕ) (ps : List Piece) → runs_of list ≡ ps → first_value ps < v
    → runs_of (replicate (suc k) v ++ list) ≡ run_of v (suc k) ∷ ps
unfolding runs_of
one_run v zero list ps is lt = ap (with_number_in_front v) is ∙ run_begins v ps lt
one_run v (suc k) list ps is lt =
    ap (with_number_in_front v) (one_run v k list ps is lt) ∙ run_grows v (suc k) ps ∙ ap (λ n. run_of v n ∷ ps) (add-one (suc k))

run_of_count : (v c : ℕ) (list : List ℕ) (ps : List Piece) → 0 < c → runs_of list ≡ ps → first_value ps < v
    → runs_of (replicate c v ++ list) ≡ run_of v c ∷ ps
run_of_count v zero list ps some is lt = absurd (omega arith)
run_of_count v (suc k) list ps some is lt = one_run v k list ps is lt

runs_expanded : (ps : List Piece) → AreRuns ps → runs_of (expanded ps) ≡ ps
unfolding runs_of
runs_expanded [] runs = refl
runs_expanded (p ∷ ps) runs = run_of_count p.value p.count (expanded ps) ps runs.1 (runs_expanded ps runs.2) runs.0

pub runs_found : (list : List ℕ) (ps : List Piece) → ArePieces ps → list ≡ expanded ps → runs_of list ≡ ps
runs_found list ps are is = ap runs_of is ∙ runs_expanded ps are.descends

abbrev next_text : Piece → List ℕ
next_text next = codes " " ++ run_text next

pub first_and_others : (runs : List Piece) (d : Piece) → 0 < length runs
    → run_text (get_or runs 0 d) ++ flat_map next_text (take (length runs - 1) (drop 1 runs)) ≡ runs_text runs
first_and_others [] d some = absurd (omega arith)
first_and_others (run ∷ runs) d some =
    let all : length runs ≤ length (run ∷ runs) - 1 = omega arith in
    ap (λ (rest : List Piece). run_text run ++ flat_map next_text rest) (take_all (length (run ∷ runs) - 1) runs all)
