-- The steps of an entry's own conjuncts ask for columns that the entry's table has.
use Rattle.std.proofs.Common.{◌≡◌, ℕ, ◌<◌, Bool, true, false, not, eqb, List, [], ◌∷◌, ◌++◌, map, length, None, sym, subst, inl, inr}
use Rattle.std.specs.List.{All, AllByRecursion, flat_map}
use Rattle.std.proofs.lemmas.Bool.{and_parts, cases_Bool}
use Rattle.std.proofs.lemmas.List.Elements.{All-from_recursion, recursion_from_All}
use Rattle.entry_sets.specs.Naming.{are_within}
use Rattle.degree_sequences.specs.Degrees.{different}
use Rattle.degree_sequences.proofs.Counting.{All-filter}
use Rattle.csv_tables.specs.declared.types.Cells.{Cells}
use Rattle.csv_tables.specs.declared.types.Database.{Database}
use Rattle.csv_tables.specs.Values.{Value}
use Rattle.query_grammar.specs.declared.tree.Op.{Op}
use Rattle.query_grammar.specs.declared.tree.Op.TheVariants as op
use Rattle.query_types.specs.declared.types.ColumnRef.{ColumnRef}
use Rattle.query_types.specs.declared.types.Operand.{Operand}
use Rattle.query_types.specs.declared.types.Operand.TheVariants as operand
use Rattle.query_types.specs.declared.types.Cond.{Cond, every-Cond, map-Cond, roll-Cond}
use Rattle.query_types.specs.declared.types.Cond.TheFolds.{fold-roll-Cond, ind-Cond}
use Rattle.query_types.specs.declared.types.Cond.TheOpen.{Cond-F}
use Rattle.query_types.specs.declared.types.Cond.TheOpen as layer
use Rattle.query_types.specs.declared.types.Cond.TheVariants.{rolls-And, rolls-Or, rolls-Not, rolls-Compare}
use Rattle.query_types.specs.Named.{entries_named, entries_of_operand, entries_step}
use Rattle.query_types.proofs.CondFacts.{every_and, every_compare, every_not, every_or}
use Rattle.query_types.specs.Typing.{IsTypedLayer, Compares}
use Rattle.join_graph.specs.Conjuncts.{is_own_conjunct}
use Rattle.sql_meaning.specs.Databases.{IsWellTyped, IsColumnOf, IsColumnOfKind}
use Rattle.sql_meaning.specs.Tables.{cells_of}
use Rattle.filtered_lists.specs.Comparisons.{comparison_of, negated_operator}
use Rattle.filtered_lists.specs.Filters.{Conjunction, all_of, and_answer, and_more, conjunction_of, conjunction_step, one_conjunction, of_answer, of_comparison, of_comparison_or_whole, or_answer, or_more, own_conjuncts}
use Rattle.filtered_lists.specs.Ranges.{Range, from_value, intersection_of, intersection_for_each_column, up_to_value}
use Rattle.predicate_bounds.specs.declared.steps.Step.{Step}
use Rattle.predicate_bounds.specs.declared.steps.Step.TheVariants as step
use Rattle.predicate_bounds.specs.Steps.{step_answers, steps_of}
use Rattle.filtered_lists.proofs.Passing.{all_in_append, all_in_front, all_in_back}
use Rattle.filtered_lists.proofs.Counting.{names_only_entry}
use Rattle.gathered_stats.specs.Asked.{AsksWithin}

-- ---- steps that ask only for existing columns, as `step_answers` puts them together

module _ (cells : Cells) where
  abbrev Exists : ℕ → Type 0
  Exists column = column < length cells.kinds

  abbrev AskWithin : List Step → Type 0
  AskWithin steps = AllByRecursion (AsksWithin cells) steps

  pub record IsWithin (c : Conjunction (List Step)) : Type 0 where
    pub ranges : AllByRecursion (λ range. Exists range.column) c.ranges
    pub others : AllByRecursion AskWithin c.others

  both_within : (x y : List Step) → AskWithin x → AskWithin y → AskWithin (x ++ (y ++ step.And ∷ []))
  both_within x y h k = all_in_append (AsksWithin cells) x (y ++ step.And ∷ []) h (all_in_append (AsksWithin cells) y (step.And ∷ []) k (tt, tt))

  either_within : (x y : List Step) → AskWithin x → AskWithin y → AskWithin (x ++ (y ++ step.Or ∷ []))
  either_within x y h k = all_in_append (AsksWithin cells) x (y ++ step.Or ∷ []) h (all_in_append (AsksWithin cells) y (step.Or ∷ []) k (tt, tt))

  more_within : (x : List Step) (xs : List (List Step)) → AskWithin x → AllByRecursion AskWithin xs → AskWithin (and_more step_answers x xs)
  more_within x [] h k = h
  more_within x (y ∷ xs) h k = more_within (step_answers.both x y) xs (both_within x y h k.0) k.1

  all_within : (xs : List (List Step)) → AllByRecursion AskWithin xs → AskWithin (all_of step_answers xs)
  all_within [] h = (tt, tt)
  all_within (x ∷ xs) h = more_within x xs h.0 h.1

  any_within : (x : List Step) (xs : List (List Step)) → AskWithin x → AllByRecursion AskWithin xs → AskWithin (or_more step_answers x xs)
  any_within x [] h k = h
  any_within x (y ∷ xs) h k = any_within (step_answers.either x y) xs (either_within x y h k.0) k.1

  columns_exist : (ranges : List Range) → AllByRecursion (λ range. Exists range.column) ranges → AllByRecursion Exists (map (λ range. range.column) ranges)
  columns_exist [] h = tt
  columns_exist (range ∷ ranges) h = (h.0, columns_exist ranges h.1)

  different_exist : (columns : List ℕ) → AllByRecursion Exists columns → AllByRecursion Exists (different columns)
  different_exist [] h = tt
  different_exist (column ∷ columns) h = (h.0, All-filter Exists (λ other. not (eqb other column)) (different columns) (different_exist columns h.1))

  ranges_within : (ranges : List Range) (columns : List ℕ) → AllByRecursion Exists columns
      → AllByRecursion AskWithin (map step_answers.range (map (intersection_of ranges) columns))
  ranges_within ranges [] h = tt
  ranges_within ranges (column ∷ columns) h = ((h.0, tt), ranges_within ranges columns h.1)

  and_within : (c : Conjunction (List Step)) → IsWithin c → AskWithin (and_answer step_answers c)
  and_within c h =
      all_within (c.others ++ map step_answers.range (intersection_for_each_column c.ranges))
      (all_in_append AskWithin c.others (map step_answers.range (intersection_for_each_column c.ranges)) h.others
      (ranges_within c.ranges (different (map (λ range. range.column) c.ranges)) (different_exist (map (λ range. range.column) c.ranges) (columns_exist c.ranges h.ranges))))

  each_within : (cs : List (Conjunction (List Step))) → AllByRecursion IsWithin cs → AllByRecursion AskWithin (map (and_answer step_answers) cs)
  each_within [] h = tt
  each_within (c ∷ cs) h = (and_within c h.0, each_within cs h.1)

  or_within : (cs : List (Conjunction (List Step))) → AllByRecursion IsWithin cs → IsWithin (of_answer (or_answer step_answers cs))
  or_within cs h = record { ranges = tt; others = (any_within step_answers.none (map (and_answer step_answers) cs) (tt, tt) (each_within cs h), tt) }

  joined_within : (cs : List (Conjunction (List Step))) → AllByRecursion IsWithin cs → IsWithin (one_conjunction cs)
  joined_within [] h = record { ranges = tt; others = tt }
  joined_within (c ∷ cs) h =
      let first : IsWithin c = h.0 in
      let rest : IsWithin (one_conjunction cs) = joined_within cs h.1 in
      record {
        ranges = all_in_append (λ range. Exists range.column) c.ranges (one_conjunction cs).ranges first.ranges rest.ranges;
        others = all_in_append AskWithin c.others (one_conjunction cs).others first.others rest.others;
      }

  comparison_within : (o : Op) (column : ℕ) (value : Value) → Exists column → IsWithin (of_comparison step_answers o column value)
  comparison_within op.Eq column value h = record { ranges = tt; others = ((h, tt), tt) }
  comparison_within op.Ne column value h =
      record { ranges = tt; others = (either_within (step_answers.range (up_to_value column value)) (step_answers.range (from_value column value)) (h, tt) (h, tt), tt) }
  comparison_within op.Lt column value h = record { ranges = (h, tt); others = tt }
  comparison_within op.Le column value h = record { ranges = (h, tt); others = tt }
  comparison_within op.Gt column value h = record { ranges = (h, tt); others = tt }
  comparison_within op.Ge column value h = record { ranges = (h, tt); others = tt }

-- ---- steps of conditions, by induction over the condition

module _ (db : Database) (entry : ℕ) where
  abbrev IsIn : Conjunction (List Step) → Type 0
  IsIn c = IsWithin (cells_of db entry) c

  abbrev AreOwn : List ℕ → Type 0
  AreOwn named = AllByRecursion (λ e. e ≡ entry) named

  -- what the induction over conditions proves: if the condition is well typed in the database and names only this entry, its steps ask for columns
  -- that exist
  abbrev StepsHaveColumns : Cond → Type 0
  StepsHaveColumns c = IsWellTyped db c → AreOwn (entries_named c) → (holds : Bool) → IsIn (conjunction_of step_answers c holds)

  column_exists : (column : ColumnRef) → IsColumnOf db column → column.from ≡ entry → column.column < length (cells_of db entry).kinds
  column_exists column is from = subst (λ (e : ℕ). column.column < length (cells_of db e).kinds) from is.exists

  whole_within : IsIn (of_comparison_or_whole step_answers None)
  whole_within = record { ranges = tt; others = ((tt, tt), tt) }

  operands_within : (o : Op) (left right : Operand) → Compares (IsColumnOfKind db) left right → AreOwn (entries_of_operand left ++ entries_of_operand right)
      → IsIn (of_comparison_or_whole step_answers (comparison_of o left right))
  operands_within o (operand.Column column) (operand.Column other) can own = whole_within
  operands_within o (operand.Column column) (operand.Int number) can own =
      comparison_within (cells_of db entry) o column.column _ (column_exists column can.left_kind.exists own.0)
  operands_within o (operand.Column column) (operand.Text text) can own =
      comparison_within (cells_of db entry) o column.column _ (column_exists column can.left_kind.exists own.0)
  operands_within o (operand.Int number) (operand.Column column) can own =
      comparison_within (cells_of db entry) _ column.column _ (column_exists column can.right_kind.exists own.0)
  operands_within o (operand.Int number) (operand.Int other) can own = whole_within
  operands_within o (operand.Int number) (operand.Text text) can own = whole_within
  operands_within o (operand.Text text) (operand.Column column) can own =
      comparison_within (cells_of db entry) _ column.column _ (column_exists column can.right_kind.exists own.0)
  operands_within o (operand.Text text) (operand.Int number) can own = whole_within
  operands_within o (operand.Text text) (operand.Text other) can own = whole_within

  abbrev conds_in : List ((c : Cond) × StepsHaveColumns c) → List Cond
  conds_in ys = map (λ y. y.0) ys

  abbrev within : List ((c : Cond) × StepsHaveColumns c) → Bool → List (Conjunction (List Step))
  within ys holds = map (λ member. member holds) (map (conjunction_of step_answers) (conds_in ys))

  members : (ys : List ((c : Cond) × StepsHaveColumns c)) → AllByRecursion (IsWellTyped db) (conds_in ys)
      → AreOwn (flat_map (λ inner. inner) (map entries_named (conds_in ys))) → (holds : Bool) → AllByRecursion IsIn (within ys holds)
  members [] asked own holds = tt
  members (y ∷ ys) asked own holds = (
    y.1 asked.0 (all_in_front (λ e. e ≡ entry) (entries_named y.0) (flat_map (λ inner. inner) (map entries_named (conds_in ys))) own) holds,
    members ys asked.1 (all_in_back (λ e. e ≡ entry) (entries_named y.0) (flat_map (λ inner. inner) (map entries_named (conds_in ys))) own) holds,
  )

  layers : (y : Cond-F ((c : Cond) × StepsHaveColumns c)) → IsWellTyped db (roll-Cond (map-Cond ((c : Cond) × StepsHaveColumns c) Cond (λ e. e.0) y))
      → AreOwn (entries_step (map-Cond Cond (List ℕ) entries_named (map-Cond ((c : Cond) × StepsHaveColumns c) Cond (λ e. e.0) y))) → (holds : Bool)
      → IsIn (conjunction_step step_answers (map-Cond Cond (Bool → Conjunction (List Step)) (conjunction_of step_answers) (map-Cond ((c : Cond) × StepsHaveColumns c) Cond (λ e. e.0) y)) holds)
  layers (layer.And ys) asked own true =
      joined_within (cells_of db entry) (within ys true)
      (members ys (every_and (IsTypedLayer (IsColumnOfKind db)) (conds_in ys) (subst (every-Cond (IsTypedLayer (IsColumnOfKind db))) (rolls-And (conds_in ys)) asked)) own true)
  layers (layer.And ys) asked own false =
      or_within (cells_of db entry) (within ys false)
      (members ys (every_and (IsTypedLayer (IsColumnOfKind db)) (conds_in ys) (subst (every-Cond (IsTypedLayer (IsColumnOfKind db))) (rolls-And (conds_in ys)) asked)) own false)
  layers (layer.Or ys) asked own true =
      or_within (cells_of db entry) (within ys true)
      (members ys (every_or (IsTypedLayer (IsColumnOfKind db)) (conds_in ys) (subst (every-Cond (IsTypedLayer (IsColumnOfKind db))) (rolls-Or (conds_in ys)) asked)) own true)
  layers (layer.Or ys) asked own false =
      joined_within (cells_of db entry) (within ys false)
      (members ys (every_or (IsTypedLayer (IsColumnOfKind db)) (conds_in ys) (subst (every-Cond (IsTypedLayer (IsColumnOfKind db))) (rolls-Or (conds_in ys)) asked)) own false)
  layers (layer.Not y) asked own true = y.1 (every_not (IsTypedLayer (IsColumnOfKind db)) y.0 (subst (every-Cond (IsTypedLayer (IsColumnOfKind db))) (rolls-Not y.0) asked)) own false
  layers (layer.Not y) asked own false = y.1 (every_not (IsTypedLayer (IsColumnOfKind db)) y.0 (subst (every-Cond (IsTypedLayer (IsColumnOfKind db))) (rolls-Not y.0) asked)) own true
  layers (layer.Compare o left right) asked own true =
      operands_within o left right (every_compare (IsTypedLayer (IsColumnOfKind db)) o left right (subst (every-Cond (IsTypedLayer (IsColumnOfKind db))) (rolls-Compare o left right) asked)) own
  layers (layer.Compare o left right) asked own false =
      operands_within (negated_operator o) left right (every_compare (IsTypedLayer (IsColumnOfKind db)) o left right (subst (every-Cond (IsTypedLayer (IsColumnOfKind db))) (rolls-Compare o left right) asked)) own

  steps_have_columns : (c : Cond) → StepsHaveColumns c
  steps_have_columns = ind-Cond StepsHaveColumns (λ x y is. subst (λ x. StepsHaveColumns (roll-Cond x)) is (λ asked own holds.
      let inner : Cond-F Cond = map-Cond ((c : Cond) × StepsHaveColumns c) Cond (λ e. e.0) y in
      subst (λ (f : Bool → Conjunction (List Step)). IsIn (f holds)) (sym (fold-roll-Cond (Bool → Conjunction (List Step)) (conjunction_step step_answers) inner))
      (layers y asked (subst AreOwn (fold-roll-Cond (List ℕ) entries_step inner) own) holds)))

  own_steps_have_columns : (conds : List Cond) → AllByRecursion (IsWellTyped db) conds
      → AllByRecursion IsIn (map (λ c. conjunction_of step_answers c true) (own_conjuncts entry conds))
  own_steps_have_columns [] asked = tt
  own_steps_have_columns (c ∷ conds) asked = elim (cases_Bool (is_own_conjunct entry c)) [
    | inl t ↦ rw t (
      steps_have_columns c asked.0 (names_only_entry entry (entries_named c) (and_parts (are_within (entries_named c) (entry ∷ [])) (not (are_within (entries_named c) [])) t).0) true,
      own_steps_have_columns conds asked.1,
    )
    | inr n ↦ rw n (own_steps_have_columns conds asked.1)
  ]

  pub steps_within : (conds : List Cond) → All (IsWellTyped db) conds → All (AsksWithin (cells_of db entry)) (steps_of entry conds)
  steps_within conds asked =
      let members : List (Conjunction (List Step)) = map (λ c. conjunction_of step_answers c true) (own_conjuncts entry conds) in
      All-from_recursion (AsksWithin (cells_of db entry)) (steps_of entry conds)
      (both_within (cells_of db entry) (and_answer step_answers (one_conjunction members)) (step.Whole ∷ [])
      (and_within (cells_of db entry) (one_conjunction members) (joined_within (cells_of db entry) members (own_steps_have_columns conds (recursion_from_All (IsWellTyped db) conds asked)))) (tt, tt))
