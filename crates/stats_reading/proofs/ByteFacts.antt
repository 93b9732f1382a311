-- If a file over a valid schema keeps the rules, it consists of bytes, provided that the schema's column names do.
use Rattle.std.proofs.Common.{◌≡◌, ℕ, zero, suc, ◌<◌, ◌||◌, ◌==◌, true, List, [], ◌∷◌, get_or, subst, sym, arith}
use Rattle.std.specs.Prelude.{All}
use Rattle.std.specs.Char.{is_ascii_alphanumeric}
use Rattle.std.specs.List.{list_all}
use Rattle.std.proofs.lemmas.Bool.{and_parts}
use Rattle.std.proofs.lemmas.Bool.Decides.{nat_tests}
use Rattle.schema_types.specs.declared.types.Kind.{Kind}
use Rattle.schema_types.specs.declared.types.Kind.TheVariants as kinds
use Rattle.schema_types.specs.declared.types.Schema.{Schema}
use Rattle.schema_types.specs.declared.types.Table.{Table}
use Rattle.schema_types.specs.Validity.{has_only_word_bytes, IsValid}
use Rattle.stats_file.specs.declared.types.Datum.{Datum}
use Rattle.stats_file.specs.declared.types.Datum.TheVariants as datum
use Rattle.stats_file.specs.declared.types.PairStats.{PairStats}
use Rattle.stats_file.specs.declared.types.StatsFile.{StatsFile}
use Rattle.stats_file.specs.Bytes.{AreBytes, ConsistOfBytes, HasBytes, HasByteValues}
use Rattle.stats_file.specs.Rules.{IsOfKind, IsPair, IsHistogramOf, KeepsRules}
use Rattle.stats_reading.specs.Names.{HasByteColumns}
use Rattle.stats_words.proofs.TextFacts.{utf8_bytes}

-- ---- names of tables

plain_byte : (c : ℕ) → (is_ascii_alphanumeric c || c == 95) ≡ true → c < 256
plain_byte c is = grind (arith, nat_tests)

plain_bytes : (name : List ℕ) → has_only_word_bytes name ≡ true → AreBytes name
plain_bytes [] are = tt
plain_bytes (c ∷ name) are =
    let parts = and_parts (is_ascii_alphanumeric c || c == 95) (list_all (λ c. is_ascii_alphanumeric c || c == 95) name) are in
    (plain_byte c parts.0, plain_bytes name parts.1)

-- ---- values

value_bytes : (k : Kind) (v : Datum) → IsOfKind k v → HasBytes v
value_bytes kinds.Int (datum.Int n) is = tt
value_bytes kinds.Int (datum.Text bytes) never = absurd never
value_bytes (kinds.Text most) (datum.Int n) never = absurd never
value_bytes (kinds.Text most) (datum.Text bytes) utf8 = utf8_bytes bytes utf8

cut_bytes : (k : Kind) (rows : ℕ) (cuts : List Datum) (nodes : List (List ℕ)) → IsHistogramOf k rows cuts nodes → All HasBytes cuts
cut_bytes k zero cuts nodes (none, others) = subst (All HasBytes) (sym none) (λ i d lt. absurd (omega arith))
cut_bytes k (suc n) cuts nodes is = λ i d lt. value_bytes k (get_or cuts i d) (is.values i d lt)

pair_bytes : (table : Table) (rows : ℕ) (pair : PairStats) → IsPair table rows pair → HasByteValues pair
pair_bytes table rows pair is = record {
  frequent = λ i d lt. value_bytes is.filter.kind (get_or pair.frequent i d).0 (is.frequent.values i d lt);
  cuts = cut_bytes is.filter.kind rows pair.cuts pair.nodes is.tree;
}

pub file_bytes : (schema : Schema) (file : StatsFile) → IsValid schema → HasByteColumns schema → KeepsRules schema file → ConsistOfBytes schema file
file_bytes schema file good columns keeps = record {
  names = λ i d lt. record { name = plain_bytes (get_or schema.tables i d).name (good.tables i d lt).plain; columns = columns i d lt };
  values = λ i d lt j e le.
      let section = keeps.tables i d lt in
      pair_bytes section.table (get_or file.tables i d).rows (get_or (get_or file.tables i d).pairs j e) (section.pairs j e le);
}
