-- Two families of column lists give equal filtered lists if they agree on all lists that an entry's own conjuncts ask for.
use Rattle.std.proofs.Common.{◌≡◌, ℕ, List, [], ◌∷◌, map, Option, Some, refl, ap, sym, ◌∙◌}
use Rattle.std.specs.List.{Contains}
use Rattle.csv_tables.specs.Values.{Value}
use Rattle.entry_sets.proofs.Listing.{in_front, in_rest}
use Rattle.filtered_lists.specs.Lists.{ColumnLists, filtered_list}
use Rattle.gathered_stats.specs.Asked.{compared_column}
use Rattle.predicate_bounds.specs.declared.running.ListStep.{ListStep}
use Rattle.predicate_bounds.specs.declared.running.ListStep.TheVariants as list_step
use Rattle.predicate_bounds.specs.declared.steps.Step.{Step}
use Rattle.predicate_bounds.specs.declared.steps.Step.TheVariants as step
use Rattle.predicate_bounds.specs.ListRuns.{after_list_steps, with_list}
use Rattle.predicate_bounds.specs.Steps.{range_of, steps_of, value_of}
use Rattle.predicate_bounds.proofs.Answering.{lists_answer}
use Rattle.query_types.specs.declared.types.Cond.{Cond}

pub record AgreeAt (a b : ColumnLists) (column : ℕ) : Type 0 where
  pub equal : (value : Value) → a.equal column value ≡ b.equal column value
  pub range : (low high : Option Value) → a.range (record { column = column; low = low; high = high }) ≡ b.range (record { column = column; low = low; high = high })

one_listed : (a b : ColumnLists) → a.whole ≡ b.whole → (s : Step) → ((column : ℕ) → compared_column s ≡ Some column → AgreeAt a b column) → with_list a s ≡ with_list b s
one_listed a b whole step.Whole agree = ap list_step.List whole
one_listed a b whole (step.Equal column literal) agree = ap list_step.List ((agree column refl).equal (value_of literal))
one_listed a b whole (step.Within range) agree = ap list_step.List ((agree range.column refl).range (range_of range).low (range_of range).high)
one_listed a b whole step.And agree = refl
one_listed a b whole step.NoRows agree = refl
one_listed a b whole step.Or agree = refl

all_listed : (a b : ColumnLists) → a.whole ≡ b.whole → (steps : List Step) → ((s : Step) → Contains steps s → (column : ℕ) → compared_column s ≡ Some column → AgreeAt a b column)
    → map (with_list a) steps ≡ map (with_list b) steps
all_listed a b whole [] agree = refl
all_listed a b whole (s ∷ steps) agree =
    rw (one_listed a b whole s (agree s (in_front s steps s refl)), all_listed a b whole steps (λ t has. agree t (in_rest s steps t has))) refl

singleton_is : (x y : List ℕ) → ◌≡◌ {A = List (List ℕ)} (x ∷ []) (y ∷ []) → x ≡ y
singleton_is x y e = cc

pub filtered_alike : (a b : ColumnLists) → a.whole ≡ b.whole → (entry : ℕ) (conjuncts : List Cond)
    → ((s : Step) → Contains (steps_of entry conjuncts) s → (column : ℕ) → compared_column s ≡ Some column → AgreeAt a b column) → filtered_list a entry conjuncts ≡ filtered_list b entry conjuncts
filtered_alike a b whole entry conjuncts agree =
    singleton_is (filtered_list a entry conjuncts) (filtered_list b entry conjuncts)
    (sym (lists_answer a entry conjuncts) ∙ ap (λ (s : List ListStep). after_list_steps s []) (all_listed a b whole (steps_of entry conjuncts) agree) ∙ lists_answer b entry conjuncts)
