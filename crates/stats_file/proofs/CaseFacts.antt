-- The statistics file of the table E, which has no rows, keeps the rules.
use Rattle.std.proofs.Common.{zero, suc, ◌<◌, [], ◌∷◌, refl, arith}
use Rattle.std.specs.Prelude.{All, AllPairs, codes}
use Rattle.schema_types.specs.declared.types.Kind.TheVariants as kind
use Rattle.stats_file.specs.Cases.{stats_without_rows, pair_without_rows, number_table, schema_of_e}
use Rattle.stats_file.specs.Rules.{PairsAgree, IsList, IsPair, IsSection, KeepsRules, ComesBefore}

all_of_empty : {X : Type 0} (P : X → Type 0) → All P []
all_of_empty P k d lt = absurd (omega arith)

all_of_one : {X : Type 0} (P : X → Type 0) (x : X) → P x → All P (x ∷ [])
all_of_one P x h zero d lt = h
all_of_one P x h (suc k) d lt = absurd (omega arith)

all_pairs_of_one : {X : Type 0} (R : X → X → Type 0) (x : X) → AllPairs R (x ∷ [])
all_pairs_of_one R x i j d lt within = absurd (omega arith)

empty_is_list : IsList 0 []
empty_is_list = record { descends = λ r. omega arith; positive = all_of_empty (λ x. 0 < x); within = omega arith }

pair_without_rows_is_pair : IsPair (number_table (codes "E")) 0 pair_without_rows
pair_without_rows_is_pair = record {
  filter = record { name = codes "X"; kind = kind.Int };
  filter_is = refl;
  joined = omega arith;
  whole = empty_is_list;
  all_rows = refl;
  frequent = record { within_limit = omega arith; differ = λ i j d lt within. absurd (omega arith); values = λ k d lt. absurd (omega arith); lists = λ k d lt. absurd (omega arith) };
  rest = empty_is_list;
  tree = (refl, refl);
}

pub stats_without_rows_keep_rules : KeepsRules schema_of_e stats_without_rows
stats_without_rows_keep_rules = record {
  least = omega arith;
  most = omega arith;
  order = λ i j d lt within. absurd (omega arith);
  tables = all_of_one (IsSection schema_of_e) (record { table = 0; rows = 0; pairs = pair_without_rows ∷ [] }) (record {
    table = number_table (codes "E");
    table_is = refl;
    rows = omega arith;
    pairs = all_of_one (IsPair (number_table (codes "E")) 0) pair_without_rows pair_without_rows_is_pair;
    order = all_pairs_of_one ComesBefore pair_without_rows;
    agree = all_pairs_of_one PairsAgree pair_without_rows;
  });
}
