-- Which row a choice gives to an entry, and how a choice becomes a choice for the same entries in another order.
use Rattle.std.proofs.Common.{◌≡◌, ℕ, ◌<◌, true, false, eqb, nat_eq, List, [], ◌∷◌, length, map, refl, ap, sym, ◌∙◌, subst, arith, inl, inr}
use Rattle.std.specs.List.{Contains, IsDistinct}
use Rattle.std.proofs.Math.Path.{fun_ext}
use Rattle.std.proofs.lemmas.Bool.{cases_Bool, eqb-true, eq-eqb, false≢true}
use Rattle.std.proofs.lemmas.Map.Keys.{IsDistinct-head, IsDistinct-tail}
use Rattle.entry_sets.proofs.Listing.{in_front, in_rest}
use Rattle.sql_meaning.specs.Choices.{IsChoiceOf}
use Rattle.sql_meaning.specs.Levels.{row_in}
use Rattle.level_bounds.specs.Orders.{IsOrderOfSet}
use Rattle.level_bounds.proofs.Lists.{at_member, is_in, test_of_member, in_from_test, map_same_on_members}

pub row_in_outside : (order choice : List ℕ) (x : ℕ) → is_in order x ≡ false → row_in order choice x ≡ 0
row_in_outside [] choice x out = refl
row_in_outside (e ∷ order) [] x out = refl
row_in_outside (e ∷ order) (row ∷ choice) x out = elim (cases_Bool (eqb x e)) [
  | inl t ↦ absurd (false≢true (sym (rw t at out)))
  | inr n ↦ (let rest : is_in order x ≡ false = rw n at out in rw n (row_in_outside order choice x rest))
]

pub row_in_mapped : (order : List ℕ) (f : ℕ → ℕ) (x : ℕ) → is_in order x ≡ true → row_in order (map f order) x ≡ f x
row_in_mapped [] f x here = absurd (false≢true here)
row_in_mapped (e ∷ order) f x here = elim (cases_Bool (eqb x e)) [
  | inl t ↦ rw t (ap f (sym (eqb-true x e t)))
  | inr n ↦ (let rest : is_in order x ≡ true = rw n at here in rw n (row_in_mapped order f x rest))
]

pub row_in_of_mapped : (order : List ℕ) (f : ℕ → ℕ) → ((x : ℕ) → is_in order x ≡ false → f x ≡ 0) → row_in order (map f order) ≡ f
row_in_of_mapped order f out = fun_ext at
  where
    at : (x : ℕ) → row_in order (map f order) x ≡ f x
    at x = elim (cases_Bool (is_in order x)) [
      | inl here ↦ row_in_mapped order f x here
      | inr gone ↦ row_in_outside order (map f order) x gone ∙ sym (out x gone)
    ]

pub mapped_row_in : (order choice : List ℕ) → IsDistinct nat_eq order → length choice ≡ length order → map (row_in order choice) order ≡ choice
mapped_row_in [] [] d lengths = refl
mapped_row_in [] (row ∷ choice) d lengths = absurd (omega arith)
mapped_row_in (e ∷ order) [] d lengths = absurd (omega arith)
mapped_row_in (e ∷ order) (row ∷ choice) d lengths =
    let behind : map (row_in (e ∷ order) (row ∷ choice)) order ≡ choice =
    map_same_on_members (row_in (e ∷ order) (row ∷ choice)) (row_in order choice) order (λ x k. passed x k)
    ∙ mapped_row_in order choice (IsDistinct-tail nat_eq e order d) (omega arith) in
    rw (eq-eqb e e refl, behind) refl
  where
    apart : (x : ℕ) → Contains order x → eqb x e ≡ false
    apart x k = elim (cases_Bool (eqb x e)) [
      | inl t ↦ absurd (false≢true (sym (at_member (λ y. nat_eq e y ≡ false) order (IsDistinct-head nat_eq e order d) x k) ∙ eq-eqb e x (sym (eqb-true x e t))))
      | inr n ↦ n
    ]

    passed : (x : ℕ) → Contains order x → row_in (e ∷ order) (row ∷ choice) x ≡ row_in order choice x
    passed x k = let n : eqb x e ≡ false = apart x k in rw n refl

-- ---- each row of a choice exists

pub choice_row : (rows : ℕ → ℕ) (order choice : List ℕ) → IsChoiceOf rows order choice → (x : ℕ) → is_in order x ≡ true → row_in order choice x < rows x
choice_row rows [] choice h x here = absurd (false≢true here)
choice_row rows (e ∷ order) [] h x here = absurd h
choice_row rows (e ∷ order) (row ∷ choice) h x here = elim (cases_Bool (eqb x e)) [
  | inl t ↦ rw t (subst (λ (k : ℕ). row < rows k) (sym (eqb-true x e t)) h.0)
  | inr n ↦ (let rest : is_in order x ≡ true = rw n at here in rw n (choice_row rows order choice h.1 x rest))
]

pub mapped_is_choice : (rows : ℕ → ℕ) (f : ℕ → ℕ) (order : List ℕ) → ((x : ℕ) → Contains order x → f x < rows x) → IsChoiceOf rows order (map f order)
mapped_is_choice rows f [] h = tt
mapped_is_choice rows f (e ∷ order) h = (h e (in_front e order e refl), mapped_is_choice rows f order (λ x k. h x (in_rest e order x k)))

-- ---- two orders of one set have the same entries

pub set_entry_in_order : (set order : List ℕ) → IsOrderOfSet set order → (x : ℕ) → Contains set x → Contains order x
set_entry_in_order set order o x k = at_member (Contains order) set o.covers x k

pub order_entry_in_set : (set order : List ℕ) → IsOrderOfSet set order → (x : ℕ) → Contains order x → Contains set x
order_entry_in_set set order o x k = at_member (Contains set) order o.within x k

pub same_entries : (set order other : List ℕ) → IsOrderOfSet set order → IsOrderOfSet set other → (x : ℕ) → is_in order x ≡ is_in other x
same_entries set order other o p x = elim (cases_Bool (is_in order x)) [
  | inl t ↦ t ∙ sym (test_of_member other x (set_entry_in_order set other p x (order_entry_in_set set order o x (in_from_test order x t))))
  | inr n ↦ elim (cases_Bool (is_in other x)) [
    | inl t ↦ absurd (false≢true (sym n ∙ test_of_member order x (set_entry_in_order set order o x (order_entry_in_set set other p x (in_from_test other x t)))))
    | inr m ↦ n ∙ sym m
  ]
]
