-- Answers may be lists, numbers of rows or tests of a row. If answers of two kinds are related for every comparison, so are the answers to an
-- entry's conjuncts.
use Rattle.std.proofs.Common.{◌≡◌, ℕ, Bool, true, false, List, [], ◌∷◌, ◌++◌, map, Option, None, Some, refl, ap, sym, ◌∙◌, subst}
use Rattle.std.specs.List.{AllZip}
use Rattle.csv_tables.specs.Values.{Value}
use Rattle.query_grammar.specs.declared.tree.Op.{Op}
use Rattle.query_grammar.specs.declared.tree.Op.TheVariants as op
use Rattle.query_types.specs.declared.types.Cond.{Cond, map-Cond, roll-Cond}
use Rattle.query_types.specs.declared.types.Cond.TheFolds.{fold-roll-Cond, ind-Cond}
use Rattle.query_types.specs.declared.types.Cond.TheOpen.{Cond-F}
use Rattle.query_types.specs.declared.types.Cond.TheOpen as layer
use Rattle.filtered_lists.specs.Comparisons.{Comparison, comparison_of, negated_operator}
use Rattle.filtered_lists.specs.Filters.{ComparisonAnswers, Conjunction, of_answer, one_conjunction, and_more, all_of, or_more, and_answer, or_answer, of_comparison, of_comparison_or_whole, conjunction_step, conjunction_of, own_conjuncts, filtered}
use Rattle.filtered_lists.specs.Ranges.{Range, from_value, up_to_value, intersection_for_each_column}

-- the answers to each comparison are related, and joining related answers gives related answers
pub record AreRelated (A B : Type 0) (R : A → B → Type 0) (a : ComparisonAnswers A) (b : ComparisonAnswers B) : Type 0 where
  pub whole : R a.whole b.whole
  pub equal : (column : ℕ) (value : Value) → R (a.equal column value) (b.equal column value)
  pub range : (range : Range) → R (a.range range) (b.range range)
  pub both : (x y : A) (x' y' : B) → R x x' → R y y' → R (a.both x y) (b.both x' y')
  pub none : R a.none b.none
  pub either : (x y : A) (x' y' : B) → R x x' → R y y' → R (a.either x y) (b.either x' y')

module _ (A B : Type 0) (R : A → B → Type 0) (a : ComparisonAnswers A) (b : ComparisonAnswers B) (related : AreRelated A B R a b) where
  pub record Alike (x : Conjunction A) (y : Conjunction B) : Type 0 where
    pub ranges : x.ranges ≡ y.ranges
    pub others : AllZip R x.others y.others

  zipped_append : (xs zs : List A) (ys ws : List B) → AllZip R xs ys → AllZip R zs ws → AllZip R (xs ++ zs) (ys ++ ws)
  zipped_append [] zs [] ws h k = k
  zipped_append [] zs (y ∷ ys) ws h k = absurd h
  zipped_append (x ∷ xs) zs [] ws h k = absurd h
  zipped_append (x ∷ xs) zs (y ∷ ys) ws h k = (h.0, zipped_append xs zs ys ws h.1 k)

  zipped_ranges : (ranges : List Range) → AllZip R (map a.range ranges) (map b.range ranges)
  zipped_ranges [] = tt
  zipped_ranges (range ∷ ranges) = (related.range range, zipped_ranges ranges)

  and_more_related : (x : A) (y : B) (xs : List A) (ys : List B) → R x y → AllZip R xs ys → R (and_more a x xs) (and_more b y ys)
  and_more_related x y [] [] r h = r
  and_more_related x y [] (y' ∷ ys) r h = absurd h
  and_more_related x y (x' ∷ xs) [] r h = absurd h
  and_more_related x y (x' ∷ xs) (y' ∷ ys) r h = and_more_related (a.both x x') (b.both y y') xs ys (related.both x x' y y' r h.0) h.1

  all_related : (xs : List A) (ys : List B) → AllZip R xs ys → R (all_of a xs) (all_of b ys)
  all_related [] [] h = related.whole
  all_related [] (y ∷ ys) h = absurd h
  all_related (x ∷ xs) [] h = absurd h
  all_related (x ∷ xs) (y ∷ ys) h = and_more_related x y xs ys h.0 h.1

  any_related : (x : A) (y : B) (xs : List A) (ys : List B) → R x y → AllZip R xs ys → R (or_more a x xs) (or_more b y ys)
  any_related x y [] [] r h = r
  any_related x y [] (y' ∷ ys) r h = absurd h
  any_related x y (x' ∷ xs) [] r h = absurd h
  any_related x y (x' ∷ xs) (y' ∷ ys) r h = any_related (a.either x x') (b.either y y') xs ys (related.either x x' y y' r h.0) h.1

  pub and_related : (x : Conjunction A) (y : Conjunction B) → Alike x y → R (and_answer a x) (and_answer b y)
  and_related x y h = all_related (x.others ++ map a.range (intersection_for_each_column x.ranges)) (y.others ++ map b.range (intersection_for_each_column y.ranges))
      (zipped_append x.others (map a.range (intersection_for_each_column x.ranges)) y.others (map b.range (intersection_for_each_column y.ranges)) h.others
      (subst (λ ranges. AllZip R (map a.range (intersection_for_each_column x.ranges)) (map b.range (intersection_for_each_column ranges))) h.ranges (zipped_ranges (intersection_for_each_column x.ranges))))

  or_related : (xs : List (Conjunction A)) (ys : List (Conjunction B)) → AllZip Alike xs ys → R (or_answer a xs) (or_answer b ys)
  or_related xs ys h = any_related a.none b.none (map (and_answer a) xs) (map (and_answer b) ys) related.none (each xs ys h)
    where
      each : (xs : List (Conjunction A)) (ys : List (Conjunction B)) → AllZip Alike xs ys → AllZip R (map (and_answer a) xs) (map (and_answer b) ys)
      each [] [] h = tt
      each [] (y ∷ ys) h = absurd h
      each (x ∷ xs) [] h = absurd h
      each (x ∷ xs) (y ∷ ys) h = (and_related x y h.0, each xs ys h.1)

  pub joined_alike : (xs : List (Conjunction A)) (ys : List (Conjunction B)) → AllZip Alike xs ys → Alike (one_conjunction xs) (one_conjunction ys)
  joined_alike [] [] h = record { ranges = refl; others = tt }
  joined_alike [] (y ∷ ys) h = absurd h
  joined_alike (x ∷ xs) [] h = absurd h
  joined_alike (x ∷ xs) (y ∷ ys) h =
      let rest : Alike (one_conjunction xs) (one_conjunction ys) = joined_alike xs ys h.1 in
      let first : Alike x y = h.0 in
      record {
        ranges = ap (λ (rs : List Range). rs ++ (one_conjunction xs).ranges) first.ranges ∙ ap (λ (rs : List Range). y.ranges ++ rs) rest.ranges;
        others = zipped_append x.others (one_conjunction xs).others y.others (one_conjunction ys).others first.others rest.others;
      }

  alike_answer : (x : A) (y : B) → R x y → Alike (of_answer x) (of_answer y)
  alike_answer x y h = record { ranges = refl; others = (h, tt) }

  comparison_alike : (op : Op) (column : ℕ) (literal : Value) → Alike (of_comparison a op column literal) (of_comparison b op column literal)
  comparison_alike op.Eq column literal = alike_answer (a.equal column literal) (b.equal column literal) (related.equal column literal)
  comparison_alike op.Ne column literal =
      alike_answer (a.either (a.range (up_to_value column literal)) (a.range (from_value column literal))) (b.either (b.range (up_to_value column literal)) (b.range (from_value column literal)))
      (related.either (a.range (up_to_value column literal)) (a.range (from_value column literal)) (b.range (up_to_value column literal)) (b.range (from_value column literal))
      (related.range (up_to_value column literal)) (related.range (from_value column literal)))
  comparison_alike op.Lt column literal = record { ranges = refl; others = tt }
  comparison_alike op.Le column literal = record { ranges = refl; others = tt }
  comparison_alike op.Gt column literal = record { ranges = refl; others = tt }
  comparison_alike op.Ge column literal = record { ranges = refl; others = tt }

  comparison_or_whole_alike : (c : Option Comparison) → Alike (of_comparison_or_whole a c) (of_comparison_or_whole b c)
  comparison_or_whole_alike None = alike_answer a.whole b.whole related.whole
  comparison_or_whole_alike (Some c) = comparison_alike c.op c.column c.literal

  abbrev IsAlike : Cond → Type 0
  IsAlike c = (holds : Bool) → Alike (conjunction_of a c holds) (conjunction_of b c holds)

  members_alike : (ys : List ((c : Cond) × IsAlike c)) (holds : Bool)
      → AllZip Alike (map (λ member. member holds) (map (conjunction_of a) (map (λ y. y.0) ys))) (map (λ member. member holds) (map (conjunction_of b) (map (λ y. y.0) ys)))
  members_alike [] holds = tt
  members_alike (y ∷ ys) holds = (y.1 holds, members_alike ys holds)

  abbrev within : {C : Type 0} → ComparisonAnswers C → List ((c : Cond) × IsAlike c) → Bool → List (Conjunction C)
  within answers ys holds = map (λ member. member holds) (map (conjunction_of answers) (map (λ y. y.0) ys))

  alike_by_layer : (y : Cond-F ((c : Cond) × IsAlike c)) (holds : Bool)
      → Alike (conjunction_step a (map-Cond Cond (Bool → Conjunction A) (conjunction_of a) (map-Cond ((c : Cond) × IsAlike c) Cond (λ e. e.0) y)) holds)
      (conjunction_step b (map-Cond Cond (Bool → Conjunction B) (conjunction_of b) (map-Cond ((c : Cond) × IsAlike c) Cond (λ e. e.0) y)) holds)
  alike_by_layer (layer.And ys) true = joined_alike (within a ys true) (within b ys true) (members_alike ys true)
  alike_by_layer (layer.And ys) false = alike_answer (or_answer a (within a ys false)) (or_answer b (within b ys false)) (or_related (within a ys false) (within b ys false) (members_alike ys false))
  alike_by_layer (layer.Or ys) true = alike_answer (or_answer a (within a ys true)) (or_answer b (within b ys true)) (or_related (within a ys true) (within b ys true) (members_alike ys true))
  alike_by_layer (layer.Or ys) false = joined_alike (within a ys false) (within b ys false) (members_alike ys false)
  alike_by_layer (layer.Not y) true = y.1 false
  alike_by_layer (layer.Not y) false = y.1 true
  alike_by_layer (layer.Compare op left right) true = comparison_or_whole_alike (comparison_of op left right)
  alike_by_layer (layer.Compare op left right) false = comparison_or_whole_alike (comparison_of (negated_operator op) left right)

  pub cond_alike : (c : Cond) → IsAlike c
  cond_alike = ind-Cond IsAlike (λ x y is. subst (λ x. IsAlike (roll-Cond x)) is (λ holds.
      let inner : Cond-F Cond = map-Cond ((c : Cond) × IsAlike c) Cond (λ e. e.0) y in
      subst (λ (f : Bool → Conjunction A). Alike (f holds) (conjunction_of b (roll-Cond inner) holds)) (sym (fold-roll-Cond (Bool → Conjunction A) (conjunction_step a) inner))
      (subst (λ (f : Bool → Conjunction B). Alike (conjunction_step a (map-Cond Cond (Bool → Conjunction A) (conjunction_of a) inner) holds) (f holds)) (sym (fold-roll-Cond (Bool → Conjunction B) (conjunction_step b) inner))
      (alike_by_layer y holds))))

  conds_alike : (conds : List Cond) → AllZip Alike (map (λ c. conjunction_of a c true) conds) (map (λ c. conjunction_of b c true) conds)
  conds_alike [] = tt
  conds_alike (c ∷ conds) = (cond_alike c true, conds_alike conds)

  pub filtered_related : (entry : ℕ) (conjuncts : List Cond) → R (filtered a entry conjuncts) (filtered b entry conjuncts)
  filtered_related entry conjuncts =
      let own : List Cond = own_conjuncts entry conjuncts in
      let x : Conjunction A = one_conjunction (map (λ c. conjunction_of a c true) own) in
      let y : Conjunction B = one_conjunction (map (λ c. conjunction_of b c true) own) in
      related.both (and_answer a x) a.whole (and_answer b y) b.whole
      (and_related x y (joined_alike (map (λ c. conjunction_of a c true) own) (map (λ c. conjunction_of b c true) own) (conds_alike own)))
      related.whole
