-- The loop that lists the carriers, one equality after another.
use Rattle.std.proofs.Common.{◌≡◌, ℕ, zero, suc, ◌+◌, ◌<◌, Bool, ltb, List, [], ◌∷◌, ◌++◌, length, take, get_or, slice_get, Some, refl, ap, sym, ◌∙◌, subst, arith, inl, inr}
use Rattle.std.specs.List.{filter, list_any}
use Rattle.std.proofs.lemmas.Bool.{cases_Bool, lt-ltb}
use Rattle.std.proofs.lemmas.List.{append_assoc, take_more}
use Rattle.std.proofs.lemmas.List.Elements.{filter-append}
use Rattle.std.proofs.lemmas.List.FromFn.{get_or-map-range_with_len}
use Rattle.std.proofs.lemmas.Option.{get_or_from_slice_get}
use Rattle.berge_tree.specs.declared.edges.Edge.{Edge}
use Rattle.schema_types.specs.declared.types.Schema.{Schema}
use Rattle.query_types.specs.declared.types.Query.{Query}
use Rattle.join_graph.specs.Conjuncts.{local_of, is_own_conjunct, numbers_where}
use Rattle.tree_bounds.specs.Columns.{EachNamedColumn}
use Rattle.key_carriers.specs.Carriers.{with_exchanged_sides, carries, has_own_conjunct, exchanged}

pub some_numbered : {A : Type 0} (test : A → Bool) (first : ℕ) (xs : List A) → list_any test xs ≡ ltb 0 (length (numbers_where test first xs))
some_numbered test first [] = refl
some_numbered test first (x ∷ xs) = elim (cases_Bool (test x)) [
  | inl passes ↦ rw passes (sym (lt-ltb 0 (length (first ∷ numbers_where test (first + 1) xs)) (omega arith)))
  | inr fails ↦ rw fails (some_numbered test (first + 1) xs)
]

pub own_conjuncts_numbered : (query : Query) (local : List (List ℕ)) (entry at : ℕ) (numbers : List ℕ) → local ≡ local_of query → entry < length query.from → at ≡ entry
    → slice_get local at ≡ Some numbers → ltb 0 (length numbers) ≡ has_own_conjunct query entry
own_conjuncts_numbered query local entry at numbers is low same there =
    ap (λ (s : List ℕ). ltb 0 (length s))
    (sym (get_or_from_slice_get local at numbers [] there) ∙ ap (λ (s : List (List ℕ)). get_or s at []) is ∙ ap (λ (n : ℕ). get_or (local_of query) n []) same
    ∙ get_or-map-range_with_len (λ entry. numbers_where (is_own_conjunct entry) 0 query.conjuncts) 0 (length query.from) entry entry [] low (omega arith))
    ∙ sym (some_numbered (is_own_conjunct entry) 0 query.conjuncts)

both_more : (es : List Edge) (e : Edge) → with_exchanged_sides (es ++ e ∷ []) ≡ with_exchanged_sides es ++ (e ∷ (exchanged e ∷ []))
both_more [] e = refl
both_more (f ∷ es) e = ap (λ (s : List Edge). f ∷ (exchanged f ∷ s)) (both_more es e)

pub one_more : (schema : Schema) (query : Query) (es : List Edge) (i : ℕ) (d : Edge) (before between after : List Edge) → i < length es
    → before ≡ filter (carries schema query) (with_exchanged_sides (take i es))
    → between ≡ before ++ filter (carries schema query) (get_or es i d ∷ []) → after ≡ between ++ filter (carries schema query) (exchanged (get_or es i d) ∷ [])
    → after ≡ filter (carries schema query) (with_exchanged_sides (take (i + 1) es))
one_more schema query es i d before between after low is first second =
    let e : Edge = get_or es i d in
    let p : Edge → Bool = carries schema query in
    second ∙ ap (λ (s : List Edge). s ++ filter p (exchanged e ∷ [])) (first ∙ ap (λ (s : List Edge). s ++ filter p (e ∷ [])) is)
    ∙ append_assoc (filter p (with_exchanged_sides (take i es))) (filter p (e ∷ [])) (filter p (exchanged e ∷ []))
    ∙ ap (λ (s : List Edge). filter p (with_exchanged_sides (take i es)) ++ s) (sym (filter-append p (e ∷ []) (exchanged e ∷ [])))
    ∙ sym (filter-append p (with_exchanged_sides (take i es)) (e ∷ (exchanged e ∷ [])))
    ∙ ap (filter p) (sym (both_more (take i es) e) ∙ ap with_exchanged_sides (sym (take_more es i d low)))

pub named_entries_exist : (n : ℕ) (es all : List Edge) (i : ℕ) (d : Edge) → es ≡ all → EachNamedColumn (λ entry column. entry < n) all → i < length es
    → ((get_or es i d).left.entry < n) × ((get_or es i d).right.entry < n)
named_entries_exist n es all i d is named low = at es i d (subst (EachNamedColumn (λ entry column. entry < n)) (sym is) named) low
  where
    at : (es : List Edge) (i : ℕ) (d : Edge) → EachNamedColumn (λ entry column. entry < n) es → i < length es → ((get_or es i d).left.entry < n) × ((get_or es i d).right.entry < n)
    at [] i d h low = absurd (omega arith)
    at (e ∷ es) zero d h low = (h.0, h.1.0)
    at (e ∷ es) (suc i) d h low = at es i d h.1.1 (omega arith)
