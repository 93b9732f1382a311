-- For which columns of an entry statistics are asked: for the columns that equalities name, its joined columns. If it has no joined column, they
-- are asked for a column that no table has.
use Rattle.std.proofs.Common.{◌≡◌, ◌⊎◌, ℕ, ◌+◌, ◌<◌, Bool, true, false, not, ◌&&◌, cond, eqb, List, [], ◌∷◌, ◌++◌, map, length, take, get_or, Some, refl, ap, sym, ◌∙◌, subst, inl, inr, arith}
use Rattle.std.specs.Prelude.{if◌then◌else◌}
use Rattle.std.specs.List.{All, Contains, filter}
use Rattle.std.proofs.lemmas.Bool.{cases_Bool, cases_eq, eq-eqb, eqb-true, ne_eqb}
use Rattle.std.proofs.lemmas.List.{append-nil, map-append}
use Rattle.std.proofs.lemmas.List.Elements.{All-contains, Contains-get_or, filter-append}
use Rattle.berge_tree.specs.declared.edges.Edge.{Edge}
use Rattle.berge_tree.specs.declared.edges.Place.{Place}
use Rattle.berge_tree.specs.Equalities.{places_of}
use Rattle.csv_tables.specs.declared.types.Cells.{Cells}
use Rattle.csv_tables.specs.declared.types.Database.{Database}
use Rattle.degree_lists.proofs.OneMoreKey.{different-push}
use Rattle.degree_sequences.specs.Degrees.{different}
use Rattle.degree_sequences.proofs.Counting.{is_in-filter}
use Rattle.entry_sets.proofs.Listing.{in_front, not_in_empty, in_rest, in_front_or_rest}
use Rattle.join_graph.specs.Conjuncts.{equalities_of, equality_of}
use Rattle.level_bounds.proofs.EqualityFacts.{IsJoin, is_join}
use Rattle.level_bounds.proofs.Lists.{from_filter, from_filter_map, from_map, in_filter, in_map, test_of_member, is_in, in_from_test}
use Rattle.query_bounds.proofs.Holding.{places_more}
use Rattle.query_types.specs.declared.types.ColumnRef.{ColumnRef}
use Rattle.query_types.specs.declared.types.Operand.TheVariants as operand
use Rattle.query_types.specs.declared.types.Cond.{Cond, every_here-Cond}
use Rattle.query_types.specs.declared.types.Cond.TheViews.{out-Cond}
use Rattle.query_types.specs.declared.types.Query.{Query}
use Rattle.query_types.specs.Typing.{IsTypedLayer, Compares}
use Rattle.sql_meaning.specs.Databases.{IsWellTyped, IsColumnOf, IsDatabaseOf, IsColumnOfKind}
use Rattle.sql_meaning.specs.Tables.{cells_of}
use Rattle.gathered_stats.specs.Asked.{asked_columns, joined_columns, no_column, or_no_column, with_place}

-- ---- the loop over equalities: the columns of both sides are added

abbrev is_of : ℕ → Place → Bool
is_of entry p = eqb p.entry entry

abbrev columns_at : ℕ → List Place → List ℕ
columns_at entry places = map (λ p. p.column) (filter (is_of entry) places)

if_not_swapped : {X : Type 0} (b : Bool) (x y : X) → (if (true && not b) then x else y) ≡ cond b y x
if_not_swapped true x y = refl
if_not_swapped false x y = refl

one_more : (entry : ℕ) (places : List Place) (p : Place) → with_place entry (different (columns_at entry places)) p ≡ different (columns_at entry (places ++ p ∷ []))
one_more entry places p =
    let L : List ℕ = columns_at entry places in
    let parts : filter (is_of entry) (places ++ p ∷ []) ≡ filter (is_of entry) places ++ filter (is_of entry) (p ∷ []) = filter-append (is_of entry) places (p ∷ []) in
    let mapped : columns_at entry (places ++ p ∷ []) ≡ L ++ map (λ q. q.column) (filter (is_of entry) (p ∷ [])) =
    ap (map (λ q. q.column)) parts ∙ map-append (λ (q : Place). q.column) (filter (is_of entry) places) (filter (is_of entry) (p ∷ [])) in
    elim (cases_Bool (eqb p.entry entry)) [
      | inl t ↦ (let kept : map (λ q. q.column) (filter (is_of entry) (p ∷ [])) ≡ p.column ∷ [] = rw t refl in
          let all : different (columns_at entry (places ++ p ∷ [])) ≡ cond (is_in (different L) p.column) (different L) (different L ++ p.column ∷ []) =
          ap different (mapped ∙ ap (λ (s : List ℕ). L ++ s) kept) ∙ different-push L p.column in
          rw t (if_not_swapped (is_in (different L) p.column) (different L ++ p.column ∷ []) (different L) ∙ sym all))
      | inr n ↦ (let dropped : map (λ q. q.column) (filter (is_of entry) (p ∷ [])) ≡ [] = rw n refl in
          rw n (ap different (sym (mapped ∙ ap (λ (s : List ℕ). L ++ s) dropped ∙ append-nil L))))
    ]

pub pair_more : (entry : ℕ) (es items : List Edge) (i : ℕ) (d : Edge) (old mid new : List ℕ) → items ≡ es → i < length items → old ≡ joined_columns entry (take i es)
    → mid ≡ with_place entry old (get_or items i d).left → new ≡ with_place entry mid (get_or items i d).right → new ≡ joined_columns entry (take (i + 1) es)
pair_more entry es items i d old mid new is is_below before first second =
    let left : Place = (get_or items i d).left in
    let right : Place = (get_or items i d).right in
    let places : List Place = places_of (take i es) in
    let one : mid ≡ different (columns_at entry (places ++ left ∷ [])) = first ∙ ap (λ (s : List ℕ). with_place entry s left) before ∙ one_more entry places left in
    second ∙ ap (λ (s : List ℕ). with_place entry s right) one ∙ one_more entry (places ++ left ∷ []) right ∙ ap (λ (s : List Place). different (columns_at entry s)) (sym (places_more es items i d is is_below))

-- ---- a column is joined exactly if an equality names it

in_different : (L : List ℕ) (x : ℕ) → Contains L x → Contains (different L) x
in_different [] x k = absurd (not_in_empty x k)
in_different (y ∷ L) x k = elim (cases_eq x y) [
  | inl same ↦ in_front y (filter (λ z. not (eqb z y)) (different L)) x same
  | inr apart ↦ elim (in_front_or_rest y L x k) [
    | inl later ↦ (let passes : not (eqb x y) ≡ true = rw (ne_eqb x y apart) refl in
        in_rest y (filter (λ z. not (eqb z y)) (different L)) x
        (in_from_test (filter (λ z. not (eqb z y)) (different L)) x (is_in-filter (λ z. not (eqb z y)) (different L) x passes (test_of_member (different L) x (in_different L x later)))))
    | inr is ↦ absurd (apart is)
  ]
]

from_different : (L : List ℕ) (x : ℕ) → Contains (different L) x → Contains L x
from_different [] x k = absurd (not_in_empty x k)
from_different (y ∷ L) x k = elim (in_front_or_rest y (filter (λ z. not (eqb z y)) (different L)) x k) [
  | inl later ↦ in_rest y L x (from_different L x (from_filter (λ z. not (eqb z y)) (different L) x later).0)
  | inr is ↦ in_front y L x is
]

in_or_no_column : (L : List ℕ) (x : ℕ) → Contains L x → Contains (or_no_column L) x
in_or_no_column [] x k = absurd (not_in_empty x k)
in_or_no_column (y ∷ L) x k = k

pub place_joined : (es : List Edge) (p : Place) → Contains (places_of es) p → Contains (joined_columns p.entry es) p.column
place_joined es p k =
    in_different (columns_at p.entry (places_of es)) p.column
    (in_map (λ (q : Place). q.column) (filter (is_of p.entry) (places_of es)) p (in_filter (is_of p.entry) (places_of es) p k (eq-eqb p.entry p.entry refl)))

pub place_asked : (es : List Edge) (p : Place) → Contains (places_of es) p → Contains (asked_columns p.entry es) p.column
place_asked es p k = in_or_no_column (joined_columns p.entry es) p.column (place_joined es p k)

pub joined_place : (entry : ℕ) (es : List Edge) (column : ℕ) → Contains (joined_columns entry es) column
    → (p : Place) × Contains (places_of es) p × (p.entry ≡ entry) × (column ≡ p.column)
joined_place entry es column k =
    let at : (p : Place) × Contains (filter (is_of entry) (places_of es)) p × (column ≡ p.column) =
    from_map (λ (q : Place). q.column) (filter (is_of entry) (places_of es)) column (from_different (columns_at entry (places_of es)) column k) in
    let kept : Contains (places_of es) at.0 × (is_of entry at.0 ≡ true) = from_filter (is_of entry) (places_of es) at.0 at.1 in
    (at.0, kept.0, eqb-true at.0.entry entry kept.1, at.2)

pub asked_place : (entry : ℕ) (es : List Edge) (column : ℕ) → Contains (asked_columns entry es) column
    → ((p : Place) × Contains (places_of es) p × (p.entry ≡ entry) × (column ≡ p.column)) ⊎ (column ≡ no_column)
asked_place entry es column k = by (joined_columns entry es) refl k
  where
    by : (L : List ℕ) → L ≡ joined_columns entry es → Contains (or_no_column L) column
        → ((p : Place) × Contains (places_of es) p × (p.entry ≡ entry) × (column ≡ p.column)) ⊎ (column ≡ no_column)
    by [] is k = elim (in_front_or_rest no_column [] column k) [ inl later ↦ absurd (not_in_empty column later) | inr first ↦ inr first ]
    by (c ∷ L) is k = inl (joined_place entry es column (subst (λ (s : List ℕ). Contains s column) is k))

pub asked_not_empty : (entry : ℕ) (es : List Edge) → 0 < length (asked_columns entry es)
asked_not_empty entry es = by (joined_columns entry es)
  where
    by : (L : List ℕ) → 0 < length (or_no_column L)
    by [] = omega arith
    by (c ∷ L) = omega arith

-- ---- joined columns exist in their tables

edge_of : (es : List Edge) (p : Place) → Contains (places_of es) p → (e : Edge) × Contains es e × ((p ≡ e.left) ⊎ (p ≡ e.right))
edge_of [] p k = absurd (not_in_empty p k)
edge_of (e ∷ es) p k = elim (in_front_or_rest e.left (e.right ∷ places_of es) p k) [
  | inl later ↦ elim (in_front_or_rest e.right (places_of es) p later) [
    | inl rest ↦ (let found = edge_of es p rest in (found.0, in_rest e es found.0 found.1, found.2))
    | inr is ↦ (e, in_front e es e refl, inr is)
  ]
  | inr is ↦ (e, in_front e es e refl, inl is)
]

abbrev pub ref_of : Place → ColumnRef
ref_of p = record { from = p.entry; column = p.column }

pub place_exists : (query : Query) (db : Database) → IsDatabaseOf query db → (p : Place) → Contains (places_of (equalities_of query)) p → IsColumnOf db (ref_of p)
place_exists query db of p k =
    let found : (e : Edge) × Contains (equalities_of query) e × ((p ≡ e.left) ⊎ (p ≡ e.right)) = edge_of (equalities_of query) p k in
    let from : (cond : Cond) × Contains query.conjuncts cond × (equality_of cond ≡ Some found.0) = from_filter_map equality_of query.conjuncts found.0 found.1 in
    let j : IsJoin (out-Cond from.0) found.0 = is_join from.0 found.0 from.2 in
    let asked : IsWellTyped db from.0 = All-contains (IsWellTyped db) query.conjuncts from.0 of.conjuncts from.1 in
    let can : Compares (IsColumnOfKind db) (operand.Column j.left) (operand.Column j.right) = subst (IsTypedLayer (IsColumnOfKind db)) j.compares (every_here-Cond (IsTypedLayer (IsColumnOfKind db)) from.0 asked) in
    elim found.2 [
      | inl is ↦ subst (λ (q : Place). IsColumnOf db (ref_of q)) (sym (is ∙ ap (λ (e : Edge). e.left) j.joins)) can.left_kind.exists
      | inr is ↦ subst (λ (q : Place). IsColumnOf db (ref_of q)) (sym (is ∙ ap (λ (e : Edge). e.right) j.joins)) can.right_kind.exists
    ]

pub joined_exist : (query : Query) (db : Database) → IsDatabaseOf query db → (entry : ℕ)
    → All (λ column. column < length (cells_of db entry).kinds) (joined_columns entry (equalities_of query))
joined_exist query db of entry i d is_below =
    let column : ℕ = get_or (joined_columns entry (equalities_of query)) i d in
    let at = joined_place entry (equalities_of query) column (Contains-get_or (joined_columns entry (equalities_of query)) i d is_below) in
    subst (λ (c : ℕ). c < length (cells_of db entry).kinds) (sym at.3)
    (subst (λ (e : ℕ). at.0.column < length (cells_of db e).kinds) at.2 (place_exists query db of at.0 at.1).exists)

pub columns_exist : (query : Query) (db : Database) → IsDatabaseOf query db → (entry : ℕ) (cells : Cells) (es es_read : List Edge) (columns columns_read : List ℕ) → cells ≡ cells_of db entry
    → es ≡ equalities_of query → es_read ≡ es → columns ≡ joined_columns entry es_read → columns_read ≡ columns → All (λ column. column < length cells.kinds) columns_read
columns_exist query db of entry cells es es_read columns columns_read is equalities same joined read =
    subst (λ (s : List ℕ). All (λ column. column < length cells.kinds) s) (sym (read ∙ joined ∙ ap (joined_columns entry) (same ∙ equalities)))
    (subst (λ (t : Cells). All (λ column. column < length t.kinds) (joined_columns entry (equalities_of query))) (sym is) (joined_exist query db of entry))
