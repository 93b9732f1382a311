-- The FROM entries that a condition names.
use Rattle.std.specs.Prelude.{ℕ, ◌<◌, List, [], ◌∷◌, ◌++◌, All, length}
use Rattle.std.specs.List.{flat_map}
use Rattle.query_types.specs.declared.types.Operand.{Operand}
use Rattle.query_types.specs.declared.types.Operand.TheVariants as operand
use Rattle.query_types.specs.declared.types.Cond.{Cond}
use Rattle.query_types.specs.declared.types.Cond.TheFolds.{fold-Cond}
use Rattle.query_types.specs.declared.types.Cond.TheOpen.{Cond-F}
use Rattle.query_types.specs.declared.types.Query.{Query}

abbrev pub entries_of_operand : Operand → List ℕ
entries_of_operand (operand.Column column) = column.from ∷ []
entries_of_operand (operand.Int number) = []
entries_of_operand (operand.Text text) = []

abbrev pub entries_step : Cond-F (List ℕ) → List ℕ
entries_step (Cond-F.And all) = flat_map (λ inner. inner) all
entries_step (Cond-F.Or any) = flat_map (λ inner. inner) any
entries_step (Cond-F.Not inner) = inner
entries_step (Cond-F.Compare op left right) = entries_of_operand left ++ entries_of_operand right

-- the entries that a condition names, each as often as the condition names it
abbrev pub entries_named : Cond → List ℕ
entries_named = fold-Cond (List ℕ) entries_step

-- every entry that a conjunct names is a FROM entry
abbrev pub NamesItsEntries : Query → Type 0
NamesItsEntries query = All (λ cond. All (λ entry. entry < length query.from) (entries_named cond)) query.conjuncts
