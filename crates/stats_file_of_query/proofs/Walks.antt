-- Loops over a range of numbers.
use Rattle.std.proofs.Common.{◌≡◌, ℕ, ◌+◌, ◌<◌, Bool, true, false, List, [], ◌∷◌, ◌++◌, Option, None, Some, refl, ap, sym, ◌∙◌, arith}
use Rattle.std.specs.Prelude.{if◌then◌else◌}
use Rattle.std.specs.List.{All, filter, filter_map, flat_map, range_with_len}
use Rattle.std.proofs.lemmas.Grind.{flat_map-append}
use Rattle.std.proofs.lemmas.List.{append-nil, map-id}
use Rattle.std.proofs.lemmas.List.Elements.{All-from_recursion, filter-append, filter_map-append}
use Rattle.std.proofs.lemmas.List.FromFn.{map-range_with_len_more}
use Rattle.level_bounds.proofs.Lists.{from_members, from_filter, range_within}

pub range_more : (n : ℕ) → range_with_len 0 (n + 1) ≡ range_with_len 0 n ++ n ∷ []
range_more n = sym (map-id (range_with_len 0 (n + 1))) ∙ map-range_with_len_more (λ i. i) 0 n n (omega arith) ∙ ap (λ s. s ++ n ∷ []) (map-id (range_with_len 0 n))

-- ---- the loop that keeps the numbers which pass a test

pub one_kept : (p : ℕ → Bool) (n : ℕ) (old new : List ℕ) → old ≡ filter p (range_with_len 0 n) → p n ≡ true → new ≡ old ++ n ∷ [] → new ≡ filter p (range_with_len 0 (n + 1))
one_kept p n old new before passes pushed =
    let one : filter p (n ∷ []) ≡ n ∷ [] = rw passes refl in
    pushed ∙ ap (λ s. s ++ n ∷ []) before ∙ ap (λ s. filter p (range_with_len 0 n) ++ s) (sym one)
    ∙ sym (filter-append p (range_with_len 0 n) (n ∷ [])) ∙ ap (filter p) (sym (range_more n))

pub one_passed_over : (p : ℕ → Bool) (n : ℕ) (old new : List ℕ) → old ≡ filter p (range_with_len 0 n) → p n ≡ false → new ≡ old → new ≡ filter p (range_with_len 0 (n + 1))
one_passed_over p n old new before fails same =
    let none : filter p (n ∷ []) ≡ [] = rw fails refl in
    same ∙ before ∙ sym (append-nil (filter p (range_with_len 0 n))) ∙ ap (λ s. filter p (range_with_len 0 n) ++ s) (sym none)
    ∙ sym (filter-append p (range_with_len 0 n) (n ∷ [])) ∙ ap (filter p) (sym (range_more n))

pub kept_below : (p : ℕ → Bool) (n : ℕ) → All (λ x. x < n) (filter p (range_with_len 0 n))
kept_below p n =
    All-from_recursion (λ x. x < n) (filter p (range_with_len 0 n))
    (from_members (λ x. x < n) (filter p (range_with_len 0 n)) (λ x has. omega (arith, (range_within 0 n x (from_filter p (range_with_len 0 n) x has).0).1)))

-- ---- the loop that appends one list for each number

pub one_list : {X : Type 0} (f : ℕ → List X) (n : ℕ) (old new : List X) → old ≡ flat_map f (range_with_len 0 n) → new ≡ old ++ f n → new ≡ flat_map f (range_with_len 0 (n + 1))
one_list f n old new before added =
    added ∙ ap (λ s. s ++ f n) before ∙ ap (λ s. flat_map f (range_with_len 0 n) ++ s) (sym (append-nil (f n)))
    ∙ sym (flat_map-append f (range_with_len 0 n) (n ∷ [])) ∙ ap (flat_map f) (sym (range_more n))

pub no_list : {X : Type 0} (f : ℕ → List X) (n : ℕ) (old new : List X) → old ≡ flat_map f (range_with_len 0 n) → f n ≡ [] → new ≡ old → new ≡ flat_map f (range_with_len 0 (n + 1))
no_list f n old new before none same = one_list f n old new before (same ∙ sym (append-nil old) ∙ ap (λ s. old ++ s) (sym none))

pub append_if_passes : {X : Type 0} (b : ℕ → Bool) (f : ℕ → List X) (n : ℕ) (old new : List X) → old ≡ flat_map (λ e. if b e then f e else []) (range_with_len 0 n) → b n ≡ true → new ≡ old ++ f n
    → new ≡ flat_map (λ e. if b e then f e else []) (range_with_len 0 (n + 1))
append_if_passes b f n old new before is added =
    one_list (λ e. if b e then f e else []) n old new before (added ∙ ap (λ s. old ++ s) (sym (ap (λ (t : Bool). if t then f n else []) is)))

pub same_if_fails : {X : Type 0} (b : ℕ → Bool) (f : ℕ → List X) (n : ℕ) (old new : List X) → old ≡ flat_map (λ e. if b e then f e else []) (range_with_len 0 n) → b n ≡ false → new ≡ old
    → new ≡ flat_map (λ e. if b e then f e else []) (range_with_len 0 (n + 1))
same_if_fails b f n old new before is same = no_list (λ e. if b e then f e else []) n old new before (ap (λ (t : Bool). if t then f n else []) is) same

-- ---- the loop that makes an item for some of the numbers

pub append_if_some : {X : Type 0} (f : ℕ → Option X) (n : ℕ) (old new : List X) (x : X) → old ≡ filter_map f (range_with_len 0 n) → f n ≡ Some x → new ≡ old ++ x ∷ []
    → new ≡ filter_map f (range_with_len 0 (n + 1))
append_if_some f n old new x before made pushed =
    let one : filter_map f (n ∷ []) ≡ x ∷ [] = rw made refl in
    pushed ∙ ap (λ s. s ++ x ∷ []) before ∙ ap (λ s. filter_map f (range_with_len 0 n) ++ s) (sym one)
    ∙ sym (filter_map-append f (range_with_len 0 n) (n ∷ [])) ∙ ap (filter_map f) (sym (range_more n))

pub same_if_none : {X : Type 0} (f : ℕ → Option X) (n : ℕ) (old new : List X) → old ≡ filter_map f (range_with_len 0 n) → f n ≡ None → new ≡ old
    → new ≡ filter_map f (range_with_len 0 (n + 1))
same_if_none f n old new before none same =
    let nothing : filter_map f (n ∷ []) ≡ [] = rw none refl in
    same ∙ before ∙ sym (append-nil (filter_map f (range_with_len 0 n))) ∙ ap (λ s. filter_map f (range_with_len 0 n) ++ s) (sym nothing)
    ∙ sym (filter_map-append f (range_with_len 0 n) (n ∷ [])) ∙ ap (filter_map f) (sym (range_more n))
