-- Each conjunct is in exactly one part: the own conjuncts of one entry, the equalities, or the residual conjuncts.
use Rattle.std.proofs.Common.{◌≡◌, ◌≢◌, ℕ, zero, suc, ◌+◌, ◌<◌, ◌≤◌, Bool, false, not, ◌&&◌, cond, eqb, List, [], ◌∷◌, length, Option, Some, None, is_none, is_some, refl, ap, ◌∙◌, inl, inr, arith}
use Rattle.std.specs.List.{All, filter, range_with_len}
use Rattle.std.proofs.lemmas.Bool.{cases_Bool, eqb-true, eqb-false, ne_eqb}
use Rattle.berge_tree.specs.declared.edges.Edge.{Edge}
use Rattle.query_types.specs.declared.types.Cond.{Cond}
use Rattle.query_types.specs.declared.types.Query.{Query}
use Rattle.join_graph.specs.declared.naming.EntriesNamed.{EntriesNamed}
use Rattle.join_graph.specs.declared.naming.EntriesNamed.TheVariants as named
use Rattle.join_graph.specs.Conjuncts.{equality_of, is_own_conjunct, once_if, count_of_parts}
use Rattle.query_types.specs.Named.{NamesItsEntries, entries_named}
use Rattle.join_graph.specs.Naming.{named_of, together}
use Rattle.join_graph.proofs.NamedEntries.{names_no_other_entry, names_one_entry, only_named_is, one_named, equality_several}

filter_same : (p q : ℕ → Bool) → ((e : ℕ) → p e ≡ q e) → (es : List ℕ) → filter p es ≡ filter q es
filter_same p q same [] = refl
filter_same p q same (e ∷ es) = ap (λ b. cond b (e ∷ filter p es) (filter p es)) (same e) ∙ ap (λ s. cond (q e) (e ∷ s) s) (filter_same p q same es)

filter_none : (es : List ℕ) → filter (λ e. false) es ≡ []
filter_none [] = refl
filter_none (e ∷ es) = filter_none es

filter_before : (own from n : ℕ) → own < from → filter (λ e. eqb own e) (range_with_len from n) ≡ []
filter_before own from zero h = refl
filter_before own from (suc n) h = let no : eqb own from ≡ false = ne_eqb own from (λ e. omega arith) in rw no (filter_before own (from + 1) n (omega arith))

filter_one : (own from n : ℕ) → from ≤ own → own < from + n → length (filter (λ e. eqb own e) (range_with_len from n)) ≡ 1
filter_one own from zero h l = absurd (omega arith)
filter_one own from (suc n) h l = elim (cases_Bool (eqb own from)) [
  | inl t ↦ (let e : own ≡ from = eqb-true own from t in
      let none : filter (λ e. eqb own e) (range_with_len (from + 1) n) ≡ [] = filter_before own (from + 1) n (omega arith) in rw (t, none) refl)
  | inr f ↦ (let ne : own ≢ from = eqb-false own from f in rw f (filter_one own (from + 1) n (omega arith) (omega arith)))
]

-- the conjunct is given by its equality, if it has one, and by the entries that it names (`EntriesNamed`)
in_one_part : (entries : ℕ) (equality : Option Edge) (n : EntriesNamed) → ((edge : Edge) → equality ≡ Some edge → n ≡ named.Several) → ((own : ℕ) → n ≡ named.OneEntry own → own < entries)
    → once_if (is_some equality) + length (filter (λ e. names_no_other_entry e n) (range_with_len 0 entries)) + once_if (is_none equality && not (names_one_entry n)) ≡ 1
in_one_part entries (Some edge) n several below = rw (several edge refl, filter_none (range_with_len 0 entries)) refl
in_one_part entries None named.NoEntry several below = rw (filter_none (range_with_len 0 entries)) refl
in_one_part entries None named.Several several below = rw (filter_none (range_with_len 0 entries)) refl
in_one_part entries None (named.OneEntry own) several below = rw (filter_one own 0 entries (omega arith) (let h : own < entries = below own refl in omega arith)) refl

first_named : (entries x : ℕ) (n : EntriesNamed) (own : ℕ) → x < entries → ((own : ℕ) → n ≡ named.OneEntry own → own < entries) → together (named.OneEntry x) n ≡ named.OneEntry own → own < entries
first_named entries x named.NoEntry own h below e = let is : x ≡ own = cc in omega arith
first_named entries x named.Several own h below e = absurd (cc)
first_named entries x (named.OneEntry y) own h below e = elim (cases_Bool (eqb x y)) [
  | inl t ↦ (let f : named.OneEntry x ≡ named.OneEntry own = rw t at e in let is : x ≡ own = cc in omega arith)
  | inr u ↦ (let f : named.Several ≡ named.OneEntry own = rw u at e in absurd (cc))
]

own_below : (entries : ℕ) (xs : List ℕ) → All (λ e. e < entries) xs → (own : ℕ) → named_of xs ≡ named.OneEntry own → own < entries
own_below entries [] all own e = absurd (cc)
own_below entries (x ∷ xs) all own e = first_named entries x (named_of xs) own (all 0 0 (omega arith)) (own_below entries xs (λ k d h. all (suc k) d (omega arith))) e

one_part : (entries : ℕ) (c : Cond) → All (λ e. e < entries) (entries_named c) → count_of_parts entries c ≡ 1
one_part entries c all =
    rw (filter_same (λ e. is_own_conjunct e c) (λ e. names_no_other_entry e (named_of (entries_named c))) (λ e. only_named_is e (entries_named c)) (range_with_len 0 entries), one_named (entries_named c))
    (in_one_part entries (equality_of c) (named_of (entries_named c)) (equality_several c) (own_below entries (entries_named c) all))

pub all_in_one_part : (query : Query) → NamesItsEntries query → All (λ c. count_of_parts (length query.from) c ≡ 1) query.conjuncts
all_in_one_part query all = λ k d h. one_part (length query.from) _ (all k d h)
