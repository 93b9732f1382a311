-- How the list that pieces stand for, and its runs, change when a piece is appended or the last piece grows.
use Rattle.std.proofs.Common.{eqb, ◌≡◌, ℕ, zero, suc, ◌+◌, ◌-◌, ◌*◌, ◌^◌, ◌<◌, ◌≤◌, List, [], ◌∷◌, ◌++◌, length, get_or, take, replicate, refl, ap, sym, ◌∙◌, subst, sum, arith, length-append, zero-add}
use Rattle.std.specs.List.{AllByRecursion, All}
use Rattle.std.proofs.Math.Seq.{get_or-append_seam}
use Rattle.std.proofs.lemmas.Bool.{cond_both, eq-eqb, ne_eqb}
use Rattle.std.proofs.lemmas.List.{replicate-append-replicate, append_assoc, append-nil, length-replicate, take_all, take_more}
use Rattle.std.proofs.lemmas.List.Folds.{sum_by-replicate}
use Rattle.std.proofs.lemmas.List.Sums.{sum_by-append}
use Rattle.degree_sequences.proofs.Spread.{IsDescending-front}
use Rattle.degree_sequences.specs.Descending.{IsDescending}
use Rattle.degree_sequences.specs.Runs.{runs, runs_after}
use Rattle.piece_math.specs.declared.pieces.Piece.{Piece}
use Rattle.piece_math.specs.Expanded.{expanded, first_value, AreRuns, ArePieces}

-- ---- a piece is appended

pub expanded-push : (ps : List Piece) (p : Piece) → expanded (ps ++ p ∷ []) ≡ expanded ps ++ replicate p.count p.value
expanded-push [] p = append-nil (replicate p.count p.value)
expanded-push (q ∷ ps) p = ap (λ (s : List ℕ). replicate q.count q.value ++ s) (expanded-push ps p) ∙ sym (append_assoc (replicate q.count q.value) (expanded ps) (replicate p.count p.value))

pub replicate-add : (m n x : ℕ) → replicate (m + n) x ≡ replicate m x ++ replicate n x
replicate-add m n x = sym (replicate-append-replicate m n x)

pub expanded-grown : (ps : List Piece) (p q : Piece) (n : ℕ) → q.value ≡ p.value → q.count ≡ p.count + n
    → expanded (ps ++ q ∷ []) ≡ expanded (ps ++ p ∷ []) ++ replicate n q.value
expanded-grown ps p q n same more =
    expanded-push ps q
    ∙ ap (λ (s : List ℕ). expanded ps ++ s) (ap (λ k. replicate k q.value) more ∙ replicate-add p.count n q.value ∙ ap (λ v. replicate p.count v ++ replicate n q.value) same)
    ∙ sym (append_assoc (expanded ps) (replicate p.count p.value) (replicate n q.value))
    ∙ ap (λ (s : List ℕ). s ++ replicate n q.value) (sym (expanded-push ps p))

first-push : (ps : List Piece) (p q : Piece) → q.value ≡ p.value → first_value (ps ++ q ∷ []) ≡ first_value (ps ++ p ∷ [])
first-push [] p q same = same
first-push (r ∷ ps) p q same = refl

pub AreRuns-grown : (ps : List Piece) (p q : Piece) (n : ℕ) → q.value ≡ p.value → q.count ≡ p.count + n → AreRuns (ps ++ p ∷ []) → AreRuns (ps ++ q ∷ [])
AreRuns-grown [] p q n same more h = (omega (arith, h.0), omega (arith, h.1), tt)
AreRuns-grown (r ∷ ps) p q n same more h = (omega (arith, h.0, first-push ps p q same), h.1, AreRuns-grown ps p q n same more h.2)

pub AreRuns-push : (ps : List Piece) (p : Piece) → AreRuns ps → 0 < p.value → 0 < p.count → AllByRecursion (λ q. p.value < q.value) ps → AreRuns (ps ++ p ∷ [])
AreRuns-push [] p fall pos some above = (pos, some, tt)
AreRuns-push (q ∷ []) p fall pos some above = (above.0, fall.1, (pos, some, tt))
AreRuns-push (q ∷ (r ∷ ps)) p fall pos some above = (fall.0, fall.1, AreRuns-push (r ∷ ps) p fall.2 pos some above.1)

above_last : (v : ℕ) (ps : List Piece) (p : Piece) → AreRuns (ps ++ p ∷ []) → v < p.value → AllByRecursion (λ q. v < q.value) (ps ++ p ∷ [])
above_last v [] p fall h = (h, tt)
above_last v (q ∷ []) p fall h = (omega (arith, fall.0), (h, tt))
above_last v (q ∷ (r ∷ ps)) p fall h =
    let rest : AllByRecursion (λ q. v < q.value) (r ∷ (ps ++ p ∷ [])) = above_last v (r ∷ ps) p fall.2 h in
    (omega (arith, fall.0, rest.0), rest)

last_at_least : (v : ℕ) (ps : List Piece) (p : Piece) → 0 < p.count → All (λ x. v ≤ x) (expanded (ps ++ p ∷ [])) → v ≤ p.value
last_at_least v ps p some least = at p.count some (subst (All (λ x. v ≤ x)) (expanded-push ps p) least)
  where
    at : (c : ℕ) → 0 < c → All (λ x. v ≤ x) (expanded ps ++ replicate c p.value) → v ≤ p.value
    at zero h all = absurd (omega arith)
    at (suc c) h all =
        let within : length (expanded ps) < length (expanded ps ++ p.value ∷ replicate c p.value) =
        omega (arith, length-append (expanded ps) (p.value ∷ replicate c p.value)) in
        rw (get_or-append_seam (expanded ps) p.value (replicate c p.value) 0) at (all (length (expanded ps)) 0 within)

last_count : (ps : List Piece) (p : Piece) → AreRuns (ps ++ p ∷ []) → 0 < p.count
last_count [] p fall = fall.1
last_count (q ∷ ps) p fall = last_count ps p fall.2

pub AreRuns-added : (ps : List Piece) (p q : Piece) → AreRuns (ps ++ p ∷ []) → (p.value ≡ q.value → ⊥) → All (λ x. q.value ≤ x) (expanded (ps ++ p ∷ []))
    → 0 < q.value → 0 < q.count → AreRuns (ps ++ p ∷ [] ++ q ∷ [])
AreRuns-added ps p q fall other least pos some =
    AreRuns-push (ps ++ p ∷ []) q fall pos some
    (above_last q.value ps p fall (omega (arith, other, last_at_least q.value ps p (last_count ps p fall) least)))

-- ---- the last piece grows

split_last : (old : List Piece) (d : Piece) → 0 < length old → old ≡ take (length old - 1) old ++ get_or old (length old - 1) d ∷ []
split_last old d some =
    let whole : length old - 1 + 1 ≡ length old = omega arith in
    sym (take_all (length old) old (omega arith)) ∙ ap (λ k. take k old) (sym whole) ∙ take_more old (length old - 1) d (omega arith)

module _ (old : List Piece) (d : Piece) (v n : ℕ) (not_empty : 0 < length old) (last_has_value : (get_or old (length old - 1) d).value ≡ v) where
  pub expanded-with_last : expanded (take (length old - 1) old ++ record { value = v; count = (get_or old (length old - 1) d).count + n } ∷ []) ≡ expanded old ++ replicate n v
  expanded-with_last =
      expanded-grown (take (length old - 1) old) (get_or old (length old - 1) d) (record { value = v; count = (get_or old (length old - 1) d).count + n }) n (sym last_has_value) refl
      ∙ ap (λ ps. expanded ps ++ replicate n v) (sym (split_last old d not_empty))

  pub ArePieces-with_last : ArePieces old → length (expanded old) + n < 2 ^ 64
      → ArePieces (take (length old - 1) old ++ record { value = v; count = (get_or old (length old - 1) d).count + n } ∷ [])
  ArePieces-with_last are room = record {
    descends = AreRuns-grown (take (length old - 1) old) (get_or old (length old - 1) d) (record { value = v; count = (get_or old (length old - 1) d).count + n }) n (sym last_has_value) refl
        (subst AreRuns (split_last old d not_empty) are.descends);
    fits = omega (arith, ap length expanded-with_last, length-append (expanded old) (replicate n v), length-replicate n v);
  }

pub last_fits : (old : List Piece) (d : Piece) → 0 < length old → (get_or old (length old - 1) d).count ≤ length (expanded old)
last_fits old d some =
    let ps : List Piece = take (length old - 1) old in
    let p : Piece = get_or old (length old - 1) d in
    omega (arith, ap (λ ps. length (expanded ps)) (split_last old d some), ap length (expanded-push ps p), length-append (expanded ps) (replicate p.count p.value), length-replicate p.count p.value)

pub ArePieces-added : (old : List Piece) (d : Piece) (v n : ℕ) → (0 < length old → (get_or old (length old - 1) d).value ≡ v → ⊥) → All (λ x. v ≤ x) (expanded old)
    → 0 < v → 0 < n → ArePieces old → length (expanded old) + n < 2 ^ 64 → ArePieces (old ++ record { value = v; count = n } ∷ [])
ArePieces-added old d v n other least pos some are room = record {
  descends = still_descending old other least are.descends;
  fits = omega (arith, ap length (expanded-push old (record { value = v; count = n })), length-append (expanded old) (replicate n v), length-replicate n v);
}
  where
    still_descending : (old : List Piece) → (0 < length old → (get_or old (length old - 1) d).value ≡ v → ⊥) → All (λ x. v ≤ x) (expanded old) → AreRuns old
        → AreRuns (old ++ record { value = v; count = n } ∷ [])
    still_descending [] other least fall = (pos, some, tt)
    still_descending (q ∷ qs) other least fall =
        let split : q ∷ qs ≡ take (length (q ∷ qs) - 1) (q ∷ qs) ++ get_or (q ∷ qs) (length (q ∷ qs) - 1) d ∷ [] = split_last (q ∷ qs) d (omega arith) in
        let G : List Piece → Type 0 = λ ps. AreRuns (ps ++ record { value = v; count = n } ∷ []) in
        subst G (sym split) (AreRuns-added (take (length (q ∷ qs) - 1) (q ∷ qs)) (get_or (q ∷ qs) (length (q ∷ qs) - 1) d) (record { value = v; count = n })
        (subst AreRuns split fall) (other (omega arith)) (subst (λ (ps : List Piece). All (λ x. v ≤ x) (expanded ps)) split least) pos some)

-- ---- the number of runs

runs_after-same : (n x : ℕ) (s : List ℕ) → runs_after x (replicate n x ++ s) ≡ runs_after x s
runs_after-same zero x s = refl
runs_after-same (suc n) x s = rw (eq-eqb x x refl, zero-add) (runs_after-same n x s)

runs_after-front : (v n x : ℕ) (s : List ℕ) → 0 < n → (x ≡ v → ⊥) → runs_after v (replicate n x ++ s) ≡ suc (runs_after x s)
runs_after-front v zero x s h other = absurd (omega arith)
runs_after-front v (suc n) x s h other = rw (ne_eqb x v other) (omega (arith, runs_after-same n x s))

runs_after-pieces : (p : Piece) (ps : List Piece) → AreRuns (p ∷ ps) → runs_after p.value (expanded ps) ≡ length ps
runs_after-pieces p [] fall = refl
runs_after-pieces p (q ∷ ps) fall =
    runs_after-front p.value q.count q.value (expanded ps) fall.2.1 (λ e. omega (arith, fall.0)) ∙ ap suc (runs_after-pieces q ps fall.2)

pub runs-expanded : (ps : List Piece) → AreRuns ps → length ps ≡ runs (expanded ps)
runs-expanded [] fall = refl
runs-expanded (p ∷ ps) fall = sym (runs_after-front 0 p.count p.value (expanded ps) fall.1 (λ e. omega (arith, fall.0)) ∙ ap suc (runs_after-pieces p ps fall))

runs_after-push : (v : ℕ) (s : List ℕ) (n x : ℕ) → runs_after v (s ++ replicate n x) ≤ suc (runs_after v s)
runs_after-push v [] zero x = omega arith
runs_after-push v [] (suc n) x = cond_both (eqb x v) 0 1 (λ k. k + runs_after x (replicate n x) ≤ 1)
    (λ e. omega (arith, runs_after-same n x [], ap (runs_after x) (append-nil (replicate n x))))
    (λ e. omega (arith, runs_after-same n x [], ap (runs_after x) (append-nil (replicate n x))))
runs_after-push v (y ∷ s) n x = omega (arith, runs_after-push y s n x)

pub runs-push : (s : List ℕ) (n x : ℕ) → runs (s ++ replicate n x) ≤ runs s + 1
runs-push s n x = omega (arith, runs_after-push 0 s n x)

-- ---- the list is in descending order, and its elements are positive

first-run : (n x : ℕ) (s : List ℕ) → get_or s 0 0 ≤ x → get_or (replicate n x ++ s) 0 0 ≤ x
first-run zero x s h = h
first-run (suc n) x s h = omega arith

first-expanded : (ps : List Piece) → AreRuns ps → get_or (expanded ps) 0 0 ≤ first_value ps
first-expanded [] fall = omega arith
first-expanded (p ∷ ps) fall = first-run p.count p.value (expanded ps) (omega (arith, first-expanded ps fall.2, fall.0))

pub IsDescending-expanded : (ps : List Piece) → AreRuns ps → IsDescending (expanded ps)
IsDescending-expanded [] fall = λ r. omega arith
IsDescending-expanded (p ∷ ps) fall = IsDescending-front p.count p.value (expanded ps) (omega (arith, first-expanded ps fall.2, fall.0)) (IsDescending-expanded ps fall.2)

positive-front : (n x : ℕ) (s : List ℕ) → 0 < x → AllByRecursion (λ x. 0 < x) s → AllByRecursion (λ x. 0 < x) (replicate n x ++ s)
positive-front zero x s h all = all
positive-front (suc n) x s h all = (h, positive-front n x s h all)

pub positive-expanded : (ps : List Piece) → AreRuns ps → AllByRecursion (λ x. 0 < x) (expanded ps)
positive-expanded [] fall = tt
positive-expanded (p ∷ ps) fall = positive-front p.count p.value (expanded ps) (omega (arith, fall.0)) (positive-expanded ps fall.2)

-- ---- the sum of the list

pub sum-expanded-push : (ps : List Piece) (p : Piece) → sum (expanded (ps ++ p ∷ [])) ≡ sum (expanded ps) + p.count * p.value
sum-expanded-push ps p =
    ap sum (expanded-push ps p) ∙ sum_by-append (λ (x : ℕ). x) (expanded ps) (replicate p.count p.value)
    ∙ ap (λ n. sum (expanded ps) + n) (sum_by-replicate (λ (x : ℕ). x) p.count p.value)

pub sum_at_piece : (ps : List Piece) (i : ℕ) (d : Piece) → i < length ps
    → (get_or ps i d ≡ get_or ps i d) × (sum (expanded (take (i + 1) ps)) ≡ sum (expanded (take i ps)) + (get_or ps i d).value * (get_or ps i d).count)
sum_at_piece ps i d h = (refl, omega (arith, ap (λ ps. sum (expanded ps)) (take_more ps i d h), sum-expanded-push (take i ps) (get_or ps i d)))
