-- An equality that joins two entries is a conjunct, and the conjunct holds exactly if the two values are equal.
use Rattle.std.proofs.Common.{◌≡◌, ℕ, ◌↔◌, Bool, true, false, ◌&&◌, ◌||◌, eqb, List, [], ◌∷◌, refl, ap, sym, ◌∙◌, inl, inr, Some, None}
use Rattle.std.specs.List.{AllByRecursion, Contains, list_all}
use Rattle.std.proofs.lemmas.Bool.{cases_Bool, eq-eqb}
use Rattle.berge_tree.specs.declared.edges.Edge.{Edge}
use Rattle.berge_tree.specs.Equalities.{place}
use Rattle.query_grammar.specs.declared.tree.Op.{Op}
use Rattle.query_grammar.specs.declared.tree.Op.TheVariants as op
use Rattle.query_types.specs.declared.types.ColumnRef.{ColumnRef}
use Rattle.query_types.specs.declared.types.Operand.{Operand}
use Rattle.query_types.specs.declared.types.Operand.TheVariants as operand
use Rattle.query_types.specs.declared.types.Cond.{Cond}
use Rattle.query_types.specs.declared.types.Cond.TheFolds.{fold-roll-Cond}
use Rattle.query_types.specs.declared.types.Cond.TheOpen.{Cond-F}
use Rattle.query_types.specs.declared.types.Cond.TheViews.{out-Cond, roll-Cond, roll-out-Cond}
use Rattle.query_types.specs.declared.types.Query.{Query}
use Rattle.query_types.specs.Named.{entries_named, entries_step}
use Rattle.join_graph.specs.Conjuncts.{column_of, compared, equalities_of, equality_in, equality_of, equality_between}
use Rattle.sql_meaning.specs.Answers.{conjunct_of, conjuncts_of}
use Rattle.sql_meaning.specs.Conditions.{cond_holds, holds_step}
use Rattle.sql_meaning.specs.Tables.{Tables, row_counts}
use Rattle.level_bounds.specs.Equalities.{IsImplied}
use Rattle.level_bounds.specs.Keys.{JoinsEqualKeys, Keys, are_equal_at}
use Rattle.level_bounds.proofs.Lists.{from_members, at_member, from_filter_map, in_filter_map, in_map}

-- ---- the conjunct of an equality

pub equality_is_conjunct : (query : Query) (e : Edge) → Contains (equalities_of query) e ↔ ((cond : Cond) × Contains query.conjuncts cond × (equality_of cond ≡ Some e))
equality_is_conjunct query e = (
  from_filter_map equality_of query.conjuncts e,
  λ found. in_filter_map equality_of query.conjuncts found.0 e found.1 found.2,
)

-- ---- the conjunct of an equality is a comparison of two columns by =

pub record IsJoin (layer : Cond-F Cond) (e : Edge) : Type 0 where
  pub left : ColumnRef
  pub right : ColumnRef
  pub compares : layer ≡ Cond-F.Compare op.Eq (operand.Column left) (operand.Column right)
  pub joins : e ≡ record { left = place left.from left.column; right = place right.from right.column }

joins_columns : (left right : Operand) (e : Edge) → equality_between (column_of left) (column_of right) ≡ Some e → IsJoin (Cond-F.Compare op.Eq left right) e
joins_columns (operand.Column left) (operand.Column right) e h = elim (cases_Bool (eqb left.from right.from)) [
  | inl t ↦ (let no : None ≡ Some e = rw t at h in absurd (cc))
  | inr n ↦ record {
    left = left;
    right = right;
    compares = refl;
    joins = let some : Some (let made : Edge = record { left = place left.from left.column; right = place right.from right.column } in made) ≡ Some e = rw n at h in cc;
  }
]
joins_columns (operand.Column left) (operand.Int number) e h = absurd (cc)
joins_columns (operand.Column left) (operand.Text text) e h = absurd (cc)
joins_columns (operand.Int number) right e h = absurd (cc)
joins_columns (operand.Text text) right e h = absurd (cc)

compares_columns : (o : Op) (left right : Operand) (e : Edge) → compared o (column_of left) (column_of right) ≡ Some e → IsJoin (Cond-F.Compare o left right) e
compares_columns op.Eq left right e h = joins_columns left right e h
compares_columns op.Ne left right e h = absurd (cc)
compares_columns op.Lt left right e h = absurd (cc)
compares_columns op.Le left right e h = absurd (cc)
compares_columns op.Gt left right e h = absurd (cc)
compares_columns op.Ge left right e h = absurd (cc)

layer_joins : (layer : Cond-F Cond) (e : Edge) → equality_in layer ≡ Some e → IsJoin layer e
layer_joins (Cond-F.And members) e h = absurd (cc)
layer_joins (Cond-F.Or members) e h = absurd (cc)
layer_joins (Cond-F.Not member) e h = absurd (cc)
layer_joins (Cond-F.Compare o left right) e h = compares_columns o left right e h

pub is_join : (cond : Cond) (e : Edge) → equality_of cond ≡ Some e → IsJoin (out-Cond cond) e
is_join cond e h = layer_joins (out-Cond cond) e h

pub is_rolled_comparison : (cond : Cond) (e : Edge) (j : IsJoin (out-Cond cond) e) → cond ≡ roll-Cond (Cond-F.Compare op.Eq (operand.Column j.left) (operand.Column j.right))
is_rolled_comparison cond e j = sym (roll-out-Cond cond) ∙ ap roll-Cond j.compares

pub equality_names : (cond : Cond) (e : Edge) → equality_of cond ≡ Some e → entries_named cond ≡ e.left.entry ∷ e.right.entry ∷ []
equality_names cond e h =
    let j : IsJoin (out-Cond cond) e = is_join cond e h in
    ap entries_named (is_rolled_comparison cond e j)
    ∙ fold-roll-Cond (List ℕ) entries_step (Cond-F.Compare op.Eq (operand.Column j.left) (operand.Column j.right))
    ∙ ap (λ (e : Edge). e.left.entry ∷ e.right.entry ∷ []) (sym j.joins)

pub equality_holds : (tables : Tables) (row_of : ℕ → ℕ) (cond : Cond) (e : Edge) → equality_of cond ≡ Some e
    → cond_holds tables row_of cond ≡ are_equal_at tables e (row_of e.left.entry) (row_of e.right.entry)
equality_holds tables row_of cond e h =
    let j : IsJoin (out-Cond cond) e = is_join cond e h in
    ap (cond_holds tables row_of) (is_rolled_comparison cond e j)
    ∙ fold-roll-Cond Bool (holds_step tables row_of) (Cond-F.Compare op.Eq (operand.Column j.left) (operand.Column j.right))
    ∙ ap (λ (e : Edge). are_equal_at tables e (row_of e.left.entry) (row_of e.right.entry)) (sym j.joins)

-- ---- each equality of a set follows from a conjunct

module _ (query : Query) (tables : Tables) (key : Keys) where
  names_only_two : (a b : ℕ) → list_all (λ x. eqb x a || (eqb x b || false)) (a ∷ b ∷ []) ≡ true
  names_only_two a b = rw (eq-eqb a a refl, eq-eqb b b refl) (any (eqb b a))
    where
      any : (t : Bool) → ((t || true) && true) ≡ true
      any true = refl
      any false = refl

  pub equality_is_implied : (e : Edge) → Contains (equalities_of query) e → JoinsEqualKeys tables key e → IsImplied (conjuncts_of query tables) (row_counts tables) key e
  equality_is_implied e there keys =
      let found : (cond : Cond) × Contains query.conjuncts cond × (equality_of cond ≡ Some e) = from_filter_map equality_of query.conjuncts e there in
      record {
        conjunct = conjunct_of tables found.0;
        one_of_them = in_map (conjunct_of tables) query.conjuncts found.0 found.1;
        names = ap (list_all (λ x. eqb x e.left.entry || (eqb x e.right.entry || false))) (equality_names found.0 e found.2) ∙ names_only_two e.left.entry e.right.entry;
        equal = λ row_of left right holds. keys (row_of e.left.entry) (row_of e.right.entry) left right (sym (equality_holds tables row_of found.0 e found.2) ∙ holds);
      }

  pub equalities_are_implied : (es : List Edge) → ((e : Edge) → Contains es e → Contains (equalities_of query) e) → AllByRecursion (JoinsEqualKeys tables key) es
      → AllByRecursion (IsImplied (conjuncts_of query tables) (row_counts tables) key) es
  equalities_are_implied es inside keys =
      from_members (IsImplied (conjuncts_of query tables) (row_counts tables) key) es
      (λ e there. equality_is_implied e (inside e there) (at_member (JoinsEqualKeys tables key) es keys e there))
