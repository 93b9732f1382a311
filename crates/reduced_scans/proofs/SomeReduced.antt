-- There is a family of reduced scans: it is found by removing rows without a partner one by one.
use Rattle.std.proofs.Common.{◌≡◌, ℕ, zero, suc, Bool, true, ◌+◌, ◌<◌, ◌≤◌, List, [], ◌∷◌, length, set, refl, ap, sym, ◌∙◌, subst, arith, inl, inr}
use Rattle.std.specs.Prelude.{◌⊎◌, ◌==◌, if◌then◌else◌}
use Rattle.std.specs.List.{Contains}
use Rattle.std.proofs.lemmas.Bool.{cases_eq, cases_lt, cases_Bool, eq-eqb, ne_eqb, false≢true}
use Rattle.std.proofs.lemmas.List.{get_or_past, get_or-set_same, get_or-set_other, length-set}
use Rattle.berge_tree.specs.declared.edges.Edge.{Edge}
use Rattle.join_steps.specs.Lists.{IsAscending, IsFamily, list_at}
use Rattle.berge_tree.proofs.Forest.{all_in}
use Rattle.reduced_scans.specs.Families.{AreAscending, HasPartner, HavePartners, IsConsistent, IsReduced}
use Rattle.reduced_scans.proofs.Members.{not_in_none, in_front, behind, in_cases, all_or_exists, all_has}

abbrev pub without : ℕ → List ℕ → List ℕ
without x [] = []
without x (y ∷ ys) = if y == x then without x ys else y ∷ without x ys

without_here : (x y : ℕ) (ys : List ℕ) → y ≡ x → without x (y ∷ ys) ≡ without x ys
without_here x y ys same = rw (eq-eqb y x same) refl

without_other : (x y : ℕ) (ys : List ℕ) → (y ≡ x → ⊥) → without x (y ∷ ys) ≡ y ∷ without x ys
without_other x y ys apart = rw (ne_eqb y x apart) refl

still_contained : (x : ℕ) (ys : List ℕ) (z : ℕ) → Contains ys z → (z ≡ x → ⊥) → Contains (without x ys) z
still_contained x [] z has apart = absurd (not_in_none z has)
still_contained x (y ∷ ys) z has apart = elim (cases_eq y x) [
  | inl same ↦ elim (in_cases z y ys has) [
    | inl here ↦ absurd (apart (sym here ∙ same))
    | inr there ↦ subst (λ l. Contains l z) (sym (without_here x y ys same)) (still_contained x ys z there apart)
  ]
  | inr other ↦ subst (λ l. Contains l z) (sym (without_other x y ys other)) (elim (in_cases z y ys has) [
    | inl here ↦ in_front z y (without x ys) here
    | inr there ↦ behind z y (without x ys) (still_contained x ys z there apart)
  ])
]

contained_before : (x : ℕ) (ys : List ℕ) (z : ℕ) → Contains (without x ys) z → Contains ys z
contained_before x [] z has = has
contained_before x (y ∷ ys) z has = elim (cases_eq y x) [
  | inl same ↦ behind z y ys (contained_before x ys z (subst (λ l. Contains l z) (without_here x y ys same) has))
  | inr other ↦ elim (in_cases z y (without x ys) (subst (λ l. Contains l z) (without_other x y ys other) has)) [
    | inl here ↦ in_front z y ys here
    | inr there ↦ behind z y ys (contained_before x ys z there)
  ]
]

without_not_longer : (x : ℕ) (ys : List ℕ) → length (without x ys) ≤ length ys
without_not_longer x [] = omega arith
without_not_longer x (y ∷ ys) = elim (cases_eq y x) [
  | inl same ↦ omega (arith, ap length (without_here x y ys same), without_not_longer x ys)
  | inr other ↦ omega (arith, ap length (without_other x y ys other), without_not_longer x ys)
]

without_is_shorter : (x : ℕ) (ys : List ℕ) → Contains ys x → length (without x ys) < length ys
without_is_shorter x [] has = absurd (not_in_none x has)
without_is_shorter x (y ∷ ys) has = elim (cases_eq y x) [
  | inl same ↦ omega (arith, ap length (without_here x y ys same), without_not_longer x ys)
  | inr other ↦ elim (in_cases x y ys has) [
    | inl here ↦ absurd (other here)
    | inr there ↦ omega (arith, ap length (without_other x y ys other), without_is_shorter x ys there)
  ]
]

still_ascends : (x : ℕ) (ys : List ℕ) → IsAscending ys → IsAscending (without x ys)
still_ascends x [] p = p
still_ascends x (y ∷ ys) p = elim (cases_eq y x) [
  | inl same ↦ subst IsAscending (sym (without_here x y ys same)) (still_ascends x ys p.1)
  | inr other ↦ subst IsAscending (sym (without_other x y ys other))
      (all_in (λ z. y < z) (without x ys) (λ z has. all_has (λ z. y < z) ys z p.0 (contained_before x ys z has)), still_ascends x ys p.1)
]

abbrev total : List (List ℕ) → ℕ
total [] = 0
total (list ∷ lists) = length list + total lists

total-set : (lists : List (List ℕ)) (e : ℕ) (l : List ℕ) → e < length lists → total (set lists e l) + length (list_at lists e) ≡ total lists + length l
total-set [] e l h = absurd (omega arith)
total-set (list ∷ lists) zero l h = omega arith
total-set (list ∷ lists) (suc e) l h = omega (arith, total-set lists e l (omega arith))

abbrev pub without_row : List (List ℕ) → ℕ → ℕ → List (List ℕ)
without_row family e row = set family e (without row (list_at family e))

entry_of : (family : List (List ℕ)) (e row : ℕ) → Contains (list_at family e) row → e < length family
entry_of family e row has = elim (cases_lt e (length family)) [
  | inl within ↦ within
  | inr past ↦ absurd (not_in_none row (subst (λ l. Contains l row) (get_or_past family e [] past) has))
]

gone_here : (family : List (List ℕ)) (e row : ℕ) → e < length family → list_at (without_row family e row) e ≡ without row (list_at family e)
gone_here family e row h = get_or-set_same family e (without row (list_at family e)) [] h

other_list_unchanged : (family : List (List ℕ)) (e row k : ℕ) → (k ≡ e → ⊥) → list_at (without_row family e row) k ≡ list_at family k
other_list_unchanged family e row k apart = get_or-set_other family e k (without row (list_at family e)) [] apart

gone_before : (family : List (List ℕ)) (e row k z : ℕ) → e < length family → Contains (list_at (without_row family e row) k) z → Contains (list_at family k) z
gone_before family e row k z h has = elim (cases_eq k e) [
  | inl same ↦ subst (λ j. Contains (list_at family j) z) (sym same)
      (contained_before row (list_at family e) z (subst (λ l. Contains l z) (gone_here family e row h) (subst (λ j. Contains (list_at (without_row family e row) j) z) same has)))
  | inr apart ↦ subst (λ l. Contains l z) (other_list_unchanged family e row k apart) has
]

gone_family : (scans family : List (List ℕ)) (e row : ℕ) → e < length family → IsFamily scans family → IsFamily scans (without_row family e row)
gone_family scans family e row h is = record {
  count = length-set family e (without row (list_at family e)) ∙ is.count;
  scanned = λ k z has. is.scanned k z (gone_before family e row k z h has);
  ascending = λ k. elim (cases_eq k e) [
    | inl same ↦ subst (λ j. IsAscending (list_at (without_row family e row) j)) (sym same) (subst IsAscending (sym (gone_here family e row h)) (still_ascends row (list_at family e) (is.ascending e)))
    | inr apart ↦ subst IsAscending (sym (other_list_unchanged family e row k apart)) (is.ascending k)
  ];
}

abbrev pub Contained : List (List ℕ) → List Edge → (Edge → ℕ → ℕ → Bool) → List (List ℕ) → Type 0
Contained scans equalities equal family = (other : List (List ℕ)) → IsConsistent scans equalities equal other → (e row : ℕ) → Contains (list_at other e) row → Contains (list_at family e) row

gone_contained : (scans : List (List ℕ)) (equalities : List Edge) (equal : Edge → ℕ → ℕ → Bool) (family : List (List ℕ)) (e row : ℕ) → e < length family → Contained scans equalities equal family
    → ((other : List (List ℕ)) → IsConsistent scans equalities equal other → Contains (list_at other e) row → ⊥) → Contained scans equalities equal (without_row family e row)
gone_contained scans equalities equal family e row h all doomed other consistent k z has = elim (cases_eq k e) [
  | inl same ↦ (let here : Contains (list_at other e) z = subst (λ j. Contains (list_at other j) z) same has in
      subst (λ j. Contains (list_at (without_row family e row) j) z) (sym same) (subst (λ l. Contains l z) (sym (gone_here family e row h))
      (still_contained row (list_at family e) z (all other consistent e z here) (λ is. doomed other consistent (subst (λ r. Contains (list_at other e) r) is here)))))
  | inr apart ↦ subst (λ l. Contains l z) (sym (other_list_unchanged family e row k apart)) (all other consistent k z has)
]

abbrev pub Lacks : (ℕ → ℕ → Bool) → List ℕ → ℕ → Type 0
Lacks equal partners row = (partner : ℕ) → Contains partners partner → equal row partner ≡ true → ⊥

partner_or_none : (equal : ℕ → ℕ → Bool) (partners : List ℕ) (row : ℕ) → HasPartner equal partners row ⊎ Lacks equal partners row
partner_or_none equal partners row =
    elim (all_or_exists (λ p. equal row p ≡ true → ⊥) (λ p. equal row p ≡ true) partners
    (λ p has. elim (cases_Bool (equal row p)) [ inl same ↦ inr same | inr apart ↦ inl (λ same. false≢true (sym apart ∙ same)) ])) [
      | inl none ↦ inr none
      | inr some ↦ inl some
    ]

abbrev pub SomeRowLacksPartner : (ℕ → ℕ → Bool) → List ℕ → List ℕ → Type 0
SomeRowLacksPartner equal rows partners = (row : ℕ) × Contains rows row × Lacks equal partners row

partners_or_lacking_row : (equal : ℕ → ℕ → Bool) (rows partners : List ℕ) → HavePartners equal rows partners ⊎ SomeRowLacksPartner equal rows partners
partners_or_lacking_row equal rows partners = all_or_exists (HasPartner equal partners) (Lacks equal partners) rows (λ row has. partner_or_none equal partners row)

abbrev pub HasReducedFamily : List (List ℕ) → List Edge → (Edge → ℕ → ℕ → Bool) → Type 0
HasReducedFamily scans equalities equal = (reduced : List (List ℕ)) × IsReduced scans equalities equal reduced

abbrev pub SmallerHasReduced : List (List ℕ) → List Edge → (Edge → ℕ → ℕ → Bool) → List (List ℕ) → Type 0
SmallerHasReduced scans equalities equal family = (smaller : List (List ℕ)) → total smaller < total family → IsFamily scans smaller → Contained scans equalities equal smaller → HasReducedFamily scans equalities equal

go_on : (scans : List (List ℕ)) (equalities : List Edge) (equal : Edge → ℕ → ℕ → Bool) (family : List (List ℕ)) (side other : ℕ) (same : ℕ → ℕ → Bool) → IsFamily scans family
    → Contained scans equalities equal family → ((f : List (List ℕ)) → IsConsistent scans equalities equal f → HavePartners same (list_at f side) (list_at f other)) → SomeRowLacksPartner same (list_at family side) (list_at family other)
    → SmallerHasReduced scans equalities equal family → HasReducedFamily scans equalities equal
go_on scans equalities equal family side other same is all must bad next =
    let h : side < length family = entry_of family side bad.0 bad.1 in
    next (without_row family side bad.0)
    (omega (arith, total-set family side (without bad.0 (list_at family side)) h, without_is_shorter bad.0 (list_at family side) bad.1))
    (gone_family scans family side bad.0 h is)
    (gone_contained scans equalities equal family side bad.0 h all
    (λ f consistent has. (let partner : HasPartner same (list_at f other) bad.0 = must f consistent bad.0 has in bad.2 partner.0 (all f consistent other partner.0 partner.1) partner.2)))

one_step : (scans : List (List ℕ)) (equalities : List Edge) (equal : Edge → ℕ → ℕ → Bool) (family : List (List ℕ)) → IsFamily scans family → Contained scans equalities equal family
    → SmallerHasReduced scans equalities equal family → HasReducedFamily scans equalities equal
one_step scans equalities equal family is all next =
    elim (all_or_exists (λ e. HavePartners (equal e) (list_at family e.left.entry) (list_at family e.right.entry)) (λ e. SomeRowLacksPartner (equal e) (list_at family e.left.entry) (list_at family e.right.entry)) equalities
    (λ e has. partners_or_lacking_row (equal e) (list_at family e.left.entry) (list_at family e.right.entry))) [
      | inr bad ↦ go_on scans equalities equal family bad.0.left.entry bad.0.right.entry (equal bad.0) is all (λ f consistent. consistent.from_left bad.0 bad.1) bad.2 next
      | inl left ↦ elim (all_or_exists (λ e. HavePartners (λ b a. equal e a b) (list_at family e.right.entry) (list_at family e.left.entry)) (λ e. SomeRowLacksPartner (λ b a. equal e a b) (list_at family e.right.entry) (list_at family e.left.entry)) equalities
          (λ e has. partners_or_lacking_row (λ b a. equal e a b) (list_at family e.right.entry) (list_at family e.left.entry))) [
            | inr bad ↦ go_on scans equalities equal family bad.0.right.entry bad.0.left.entry (λ b a. equal bad.0 a b) is all (λ f consistent. consistent.from_right bad.0 bad.1) bad.2 next
            | inl right ↦ (family, record { consistent = record { is_family = is; from_left = left; from_right = right }; greatest = all })
          ]
    ]

reduced_within_fuel : (scans : List (List ℕ)) (equalities : List Edge) (equal : Edge → ℕ → ℕ → Bool) (fuel : ℕ) (family : List (List ℕ)) → total family ≤ fuel → IsFamily scans family → Contained scans equalities equal family
    → HasReducedFamily scans equalities equal
reduced_within_fuel scans equalities equal zero family within_fuel is all = one_step scans equalities equal family is all (λ smaller less. absurd (omega arith))
reduced_within_fuel scans equalities equal (suc fuel) family within_fuel is all =
    one_step scans equalities equal family is all (λ smaller less smaller_is smaller_all. reduced_within_fuel scans equalities equal fuel smaller (omega arith) smaller_is smaller_all)

pub some_reduced : (scans : List (List ℕ)) (equalities : List Edge) (equal : Edge → ℕ → ℕ → Bool) → AreAscending scans → (reduced : List (List ℕ)) × IsReduced scans equalities equal reduced
some_reduced scans equalities equal ascending = reduced_within_fuel scans equalities equal (total scans) scans (omega arith)
    (record { count = refl; scanned = λ e row has. has; ascending = ascending }) (λ other consistent e row has. consistent.is_family.scanned e row has)
