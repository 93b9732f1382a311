-- A list is built run by run from its first elements on.
use Rattle.std.proofs.Common.{◌≡◌, ℕ, zero, suc, ◌+◌, ◌<◌, ◌≤◌, List, [], ◌∷◌, ◌++◌, length, get_or, map, take, replicate, refl, ap, sym, ◌∙◌, subst, arith, length-append, zero-add, add-zero, inl, inr}
use Rattle.std.specs.List.{AllByRecursion, All}
use Rattle.std.proofs.Math.Nat.{suc-add}
use Rattle.std.proofs.lemmas.Bool.{cases_lt}
use Rattle.std.proofs.lemmas.List.{length-replicate, length-take, take_all}
use Rattle.degree_sequences.specs.Descending.{IsDescending}
use Rattle.degree_sequences.specs.Saturation.{saturated}
use Rattle.piece_math.specs.Expanded.{IsAppended}
use Rattle.piece_math.proofs.Falling.{at_least_element}

first_run : (s : List ℕ) (c v : ℕ) → ((k : ℕ) → k < c → get_or s k 0 ≡ v) → 0 < v → take c s ≡ replicate c v
first_run s zero v same pos = refl
first_run [] (suc c) v same pos = absurd (omega (arith, same 0 (omega arith)))
first_run (x ∷ s) (suc c) v same pos =
    let e : x ≡ v = same 0 (omega arith) in
    rw (e, first_run s c v (λ k h. same (suc k) (omega arith)) pos) refl

-- From index n on, c elements read as v. A list reads as 0 past its end, so a run of zeros may lie there.
pub record HasRun (s : List ℕ) (n c v : ℕ) : Type 0 where
  pub same : (k : ℕ) → k < c → get_or s (n + k) 0 ≡ v

pub take_run : (n : ℕ) (s : List ℕ) (c v : ℕ) → ((k : ℕ) → k < c → get_or s (n + k) 0 ≡ v) → 0 < v → take (n + c) s ≡ take n s ++ replicate c v
take_run zero s c v same pos =
    ap (λ k. take k s) (zero-add c) ∙ first_run s c v (λ k h. ap (λ i. get_or s i 0) (sym (zero-add k)) ∙ same k h) pos
take_run (suc n) [] zero v same pos = ap (λ k. take {A = ℕ} k []) (add-zero (suc n))
take_run (suc n) [] (suc c) v same pos = absurd (omega (arith, same 0 (omega arith)))
take_run (suc n) (x ∷ s) c v same pos =
    ap (λ k. take k (x ∷ s)) (suc-add n c)
    ∙ ap (λ (l : List ℕ). x ∷ l) (take_run n s c v (λ k h. ap (λ i. get_or (x ∷ s) i 0) (sym (suc-add n k)) ∙ same k h) pos)

pub ends_at_zero : (s : List ℕ) → AllByRecursion (λ x. 0 < x) s → (n : ℕ) → get_or s n 0 ≡ 0 → length s ≤ n
ends_at_zero [] pos n h = omega arith
ends_at_zero (x ∷ s) pos zero h = absurd (omega (arith, pos.0))
ends_at_zero (x ∷ s) pos (suc n) h = omega (arith, ends_at_zero s pos.1 n h)

module _ {goal list : List ℕ} {n c v : ℕ} (so_far : list ≡ take n goal) (run : HasRun goal n c v) where
  pub run_falls : IsDescending goal → 0 < c → All (λ x. v ≤ x) list
  run_falls fall some =
      let e : get_or goal n 0 ≡ v = ap (λ i. get_or goal i 0) (sym (add-zero n)) ∙ run.same 0 some in
      subst (All (λ x. v ≤ x)) (sym so_far) (subst (λ (y : ℕ). All (λ x. y ≤ x) (take n goal)) e (at_least_element goal fall n))

  pub run_fits : 0 < v → length list + c ≤ length goal
  run_fits pos =
      omega (
        arith,
        ap length (take_run n goal c v run.same pos),
        length-append (take n goal) (replicate c v),
        length-replicate c v,
        length-take (n + c) goal,
        ap length so_far,
      )

  pub run_built : AllByRecursion (λ x. 0 < x) goal → {new : List ℕ} → IsAppended list new v c → new ≡ take (n + c) goal
  run_built all put = elim (cases_lt 0 v) [
    | inl pos ↦ put.some pos ∙ ap (λ (l : List ℕ). l ++ replicate c v) so_far ∙ sym (take_run n goal c v run.same pos)
    | inr zero_v ↦ put.zeros (omega arith) ∙ so_far ∙ elim (cases_lt 0 c) [
      | inl more ↦ (let at_n : get_or goal n 0 ≡ 0 = ap (λ i. get_or goal i 0) (sym (add-zero n)) ∙ run.same 0 more ∙ omega arith in
          let past : length goal ≤ n = ends_at_zero goal all n at_n in
          take_all n goal past ∙ sym (take_all (n + c) goal (omega arith)))
      | inr empty ↦ ap (λ k. take k goal) (omega arith)
    ]
  ]

-- ---- saturated lists

pub get_or-saturated : (s : List ℕ) (r : ℕ) → get_or (map saturated s) r 0 ≡ saturated (get_or s r 0)
get_or-saturated [] r = refl
get_or-saturated (x ∷ s) zero = refl
get_or-saturated (x ∷ s) (suc r) = get_or-saturated s r

pub IsDescending-saturated : (s : List ℕ) → IsDescending s → IsDescending (map saturated s)
IsDescending-saturated s fall r = omega (arith, fall r, get_or-saturated s r, get_or-saturated s (suc r))

pub positive-saturated : (s : List ℕ) → AllByRecursion (λ x. 0 < x) s → AllByRecursion (λ x. 0 < x) (map saturated s)
positive-saturated [] all = tt
positive-saturated (x ∷ s) all = (omega (arith, all.0), positive-saturated s all.1)
