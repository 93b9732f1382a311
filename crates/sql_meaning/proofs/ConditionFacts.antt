-- A property of all entries that a condition names, or of all its layers, passes to its members. Whether they hold decides whether it holds.
use Rattle.std.proofs.Common.{◌≡◌, ℕ, zero, suc, ◌+◌, ◌<◌, Bool, true, not, IsTrue, ◌↔◌, refl, inl, inr, List, [], ◌∷◌, length, map, get_or, ap, sym, ◌∙◌, subst, arith}
use Rattle.std.specs.List.{flat_map, All, Any, AllByRecursion}
use Rattle.std.proofs.lemmas.Bool.{false≢true, false_from_ne_true, or_cases, and_parts, and_from, or_right}
use Rattle.std.proofs.lemmas.List.{get_or_append_left, get_or-append-add, length-append}
use Rattle.std.proofs.lemmas.List.Elements.{All-from_recursion, recursion_from_All}
use Rattle.query_grammar.specs.declared.tree.Op.{Op}
use Rattle.query_types.specs.declared.types.Operand.{Operand}
use Rattle.query_types.specs.declared.types.Cond.{Cond, And, Or, Not, Compare, every-Cond}
use Rattle.query_types.specs.declared.types.Cond.TheFolds.{fold-roll-Cond}
use Rattle.query_types.specs.declared.types.Cond.TheOpen.{Cond-F}
use Rattle.query_types.specs.declared.types.Cond.TheOpen as layer
use Rattle.query_types.specs.declared.types.Cond.TheVariants.{rolls-And, rolls-Or, rolls-Not, rolls-Compare}
use Rattle.sql_meaning.specs.Conditions.{all_of, any_of, comparison_holds, cond_holds, holds_step}
use Rattle.query_types.specs.Named.{entries_named}
use Rattle.query_types.proofs.CondFacts.{entries_and, entries_not, entries_or, every_and, every_not, every_or}
use Rattle.sql_meaning.specs.Tables.{Tables}

-- ---- a property of all entries that a condition names, or of all its layers, passes to its members

all_in_part : (P : ℕ → Type 0) (parts : List (List ℕ)) → All P (flat_map (λ inner. inner) parts) → AllByRecursion (All P) parts
all_in_part P [] h = tt
all_in_part P (part ∷ parts) h = (
  λ k d is_below. subst P (get_or_append_left part (flat_map (λ inner. inner) parts) d k is_below) (h k d (omega (arith, length-append part (flat_map (λ inner. inner) parts)))),
  all_in_part P parts (λ k d is_below. subst P (get_or-append-add part (flat_map (λ inner. inner) parts) k d) (h (length part + k) d (omega (arith, length-append part (flat_map (λ inner. inner) parts))))),
)

module _ (P : ℕ → Type 0) where
  all_in_members : (members : List Cond) → All P (flat_map (λ inner. inner) (map entries_named members)) → All (λ c. All P (entries_named c)) members
  all_in_members members h = All-from_recursion (λ c. All P (entries_named c)) members (unmapped members (all_in_part P (map entries_named members) h))
    where
      unmapped : (members : List Cond) → AllByRecursion (All P) (map entries_named members) → AllByRecursion (λ c. All P (entries_named c)) members
      unmapped [] h = tt
      unmapped (c ∷ members) h = (h.0, unmapped members h.1)

  pub entries_in_and : (cond : Cond) (all items : List Cond) (i : ℕ) (c : Cond) → cond ≡ And all → items ≡ all → c ≡ get_or items i c → i < length items → All P (entries_named cond) → All P (entries_named c)
  entries_in_and cond all items i c is same here is_below h =
      let whole : All (λ c. All P (entries_named c)) all = all_in_members all (subst (All P) (ap entries_named is ∙ entries_and all) h) in
      subst (λ (c : Cond). All P (entries_named c)) (ap (λ (s : List Cond). get_or s i c) (sym same) ∙ sym here) (whole i c (omega (arith, ap (λ (s : List Cond). length s) same)))

  pub entries_in_or : (cond : Cond) (any items : List Cond) (i : ℕ) (c : Cond) → cond ≡ Or any → items ≡ any → c ≡ get_or items i c → i < length items → All P (entries_named cond) → All P (entries_named c)
  entries_in_or cond any items i c is same here is_below h =
      let whole : All (λ c. All P (entries_named c)) any = all_in_members any (subst (All P) (ap entries_named is ∙ entries_or any) h) in
      subst (λ (c : Cond). All P (entries_named c)) (ap (λ (s : List Cond). get_or s i c) (sym same) ∙ sym here) (whole i c (omega (arith, ap (λ (s : List Cond). length s) same)))

  pub entries_in_not : (cond inner c : Cond) → cond ≡ Not inner → c ≡ inner → All P (entries_named cond) → All P (entries_named c)
  entries_in_not cond inner c is same h = subst (All P) (ap entries_named is ∙ entries_not inner ∙ ap entries_named (sym same)) h

-- a layer is one AND, OR, NOT or comparison inside a condition
module _ (Q : Cond-F Cond → Type 0) where
  at_member : (members items : List Cond) (i : ℕ) (c : Cond) → items ≡ members → c ≡ get_or items i c → i < length items → AllByRecursion (every-Cond Q) members → every-Cond Q c
  at_member members items i c same here is_below h =
      subst (every-Cond Q) (ap (λ (s : List Cond). get_or s i c) (sym same) ∙ sym here)
      (All-from_recursion (every-Cond Q) members h i c (omega (arith, ap (λ (s : List Cond). length s) same)))

  pub every_in_and : (cond : Cond) (all items : List Cond) (i : ℕ) (c : Cond) → cond ≡ And all → items ≡ all → c ≡ get_or items i c → i < length items → every-Cond Q cond → every-Cond Q c
  every_in_and cond all items i c is same here is_below h = at_member all items i c same here is_below (every_and Q all (subst (every-Cond Q) is h))

  pub every_in_or : (cond : Cond) (any items : List Cond) (i : ℕ) (c : Cond) → cond ≡ Or any → items ≡ any → c ≡ get_or items i c → i < length items → every-Cond Q cond → every-Cond Q c
  every_in_or cond any items i c is same here is_below h = at_member any items i c same here is_below (every_or Q any (subst (every-Cond Q) is h))

  pub every_in_not : (cond inner c : Cond) → cond ≡ Not inner → c ≡ inner → every-Cond Q cond → every-Cond Q c
  every_in_not cond inner c is same h = subst (every-Cond Q) (sym same) (every_not Q inner (subst (every-Cond Q) is h))

-- ---- whether a condition holds, derived from whether its members hold

module _ (tables : Tables) (row_of : ℕ → ℕ) where
  abbrev is_true : Cond → Bool
  is_true cond = cond_holds tables row_of cond

  pub holds_and : (all : List Cond) → is_true (And all) ≡ all_of (map is_true all)
  holds_and all = ap is_true (sym (rolls-And all)) ∙ fold-roll-Cond Bool (holds_step tables row_of) (layer.And all)

  pub holds_or : (any : List Cond) → is_true (Or any) ≡ any_of (map is_true any)
  holds_or any = ap is_true (sym (rolls-Or any)) ∙ fold-roll-Cond Bool (holds_step tables row_of) (layer.Or any)

  pub holds_not : (inner : Cond) → is_true (Not inner) ≡ not (is_true inner)
  holds_not inner = ap is_true (sym (rolls-Not inner)) ∙ fold-roll-Cond Bool (holds_step tables row_of) (layer.Not inner)

  pub holds_compare : (op : Op) (left right : Operand) → is_true (Compare op left right) ≡ comparison_holds tables row_of op left right
  holds_compare op left right = ap is_true (sym (rolls-Compare op left right)) ∙ fold-roll-Cond Bool (holds_step tables row_of) (layer.Compare op left right)

  each_holds_if_all : (all : List Cond) → all_of (map is_true all) ≡ true → AllByRecursion (λ c. is_true c ≡ true) all
  each_holds_if_all [] h = tt
  each_holds_if_all (c ∷ all) h = let parts = and_parts (is_true c) (all_of (map is_true all)) h in (parts.0, each_holds_if_all all parts.1)

  all_hold_if_each : (all : List Cond) → AllByRecursion (λ c. is_true c ≡ true) all → all_of (map is_true all) ≡ true
  all_hold_if_each [] h = refl
  all_hold_if_each (c ∷ all) h = and_from (is_true c) (all_of (map is_true all)) h.0 (all_hold_if_each all h.1)

  any_holds_if_some : (any : List Cond) → any_of (map is_true any) ≡ true → Any (λ c. is_true c ≡ true) any
  any_holds_if_some [] h = absurd (false≢true h)
  any_holds_if_some (c ∷ any) h = elim (or_cases (is_true c) (any_of (map is_true any)) h) [
    | inl here ↦ (0, c, omega arith, refl, here)
    | inr later ↦ (let rest : Any (λ c. is_true c ≡ true) any = any_holds_if_some any later in (suc rest.0, rest.1, omega (arith, rest.2), rest.3, rest.4))
  ]

  some_holds_if_any : (any : List Cond) (k : ℕ) (x : Cond) → k < length any → get_or any k x ≡ x → is_true x ≡ true → any_of (map is_true any) ≡ true
  some_holds_if_any [] k x is_below is h = absurd (omega arith)
  some_holds_if_any (c ∷ any) zero x is_below is h = rw (ap is_true is ∙ h) refl
  some_holds_if_any (c ∷ any) (suc k) x is_below is h = or_right (is_true c) (any_of (map is_true any)) (some_holds_if_any any k x (omega arith) is h)

  pub and_holds_if_each : (all : List Cond) → IsTrue (is_true (And all)) ↔ All (λ c. IsTrue (is_true c)) all
  and_holds_if_each all = (
    λ h. All-from_recursion (λ c. IsTrue (is_true c)) all (each_holds_if_all all (sym (holds_and all) ∙ h)),
    λ h. holds_and all ∙ all_hold_if_each all (recursion_from_All (λ c. IsTrue (is_true c)) all h),
  )

  pub or_holds_if_some : (any : List Cond) → IsTrue (is_true (Or any)) ↔ Any (λ c. IsTrue (is_true c)) any
  or_holds_if_some any = (
    λ h. any_holds_if_some any (sym (holds_or any) ∙ h),
    λ h. holds_or any ∙ some_holds_if_any any h.0 h.1 h.2 h.3 h.4,
  )

  pub not_holds_if_fails : (inner : Cond) → IsTrue (is_true (Not inner)) ↔ (¬ IsTrue (is_true inner))
  not_holds_if_fails inner = (
    λ h k. false≢true (sym (ap not k) ∙ sym (holds_not inner) ∙ h),
    λ h. holds_not inner ∙ ap not (false_from_ne_true (is_true inner) h),
  )
