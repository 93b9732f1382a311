-- A file keeps the rules exactly if it does without its last pair, and this pair keeps the rules for pairs.
use Rattle.std.proofs.Common.{◌≡◌, ℕ, ◌<◌, List, [], ◌∷◌, ◌++◌, get_or, refl, sym, subst, append-nil, append_assoc, Some}
use Rattle.std.specs.Prelude.{All, AllPairs, slice_get}
use Rattle.std.proofs.lemmas.List.Quantifiers.{all_pairs_push}
use Rattle.schema_types.specs.declared.types.Schema.{Schema}
use Rattle.schema_types.specs.declared.types.Table.{Table}
use Rattle.stats_file.specs.declared.types.PairStats.{PairStats}
use Rattle.stats_file.specs.declared.types.TableStats.{TableStats}
use Rattle.stats_file.specs.Rules.{PairsAgree, IsPair, IsSection, KeepsRules, ComesBefore}
use Rattle.stats_reading.specs.declared.draft.Draft.{Draft}
use Rattle.stats_reading.specs.Remaining.{file_of_draft, section_of}
use Rattle.stats_reading.proofs.AppendedLists.{all_at_seam, all_left, all_pushed, pairs_front, pairs_at_seam, both_some_same}

pub record PairRules (table : Table) (rows : ℕ) (pairs : List PairStats) (pair : PairStats) : Type 0 where
  pub is : IsPair table rows pair
  pub order : All (λ q. ComesBefore q pair) pairs
  pub agree : All (λ q. PairsAgree q pair) pairs

pub record SectionRules (table : Table) (section : TableStats) : Type 0 where
  pub pairs : All (IsPair table section.rows) section.pairs
  pub order : AllPairs ComesBefore section.pairs
  pub agree : AllPairs PairsAgree section.pairs

pub section_rules : (schema : Schema) (table : Table) (section : TableStats) → IsSection schema section → slice_get schema.tables section.table ≡ Some table → SectionRules table section
section_rules schema table section is exists =
    let same = both_some_same is.table table (slice_get schema.tables section.table) is.table_is exists in
    record { pairs = subst (λ t. All (IsPair t section.rows) section.pairs) same is.pairs; order = is.order; agree = is.agree }

pub section_at : (schema : Schema) (s : Draft) (pairs : List PairStats) (tables : List TableStats) → KeepsRules schema (file_of_draft s (section_of s pairs ∷ tables))
    → IsSection schema (section_of s pairs)
section_at schema s pairs tables keeps = all_at_seam (IsSection schema) s.tables (section_of s pairs) tables keeps.tables

pub pair_rules : (schema : Schema) (table : Table) (s : Draft) (pair : PairStats) (pairs : List PairStats) (tables : List TableStats) → slice_get schema.tables s.section.table ≡ Some table
    → KeepsRules schema (file_of_draft s (section_of s (pair ∷ pairs) ∷ tables)) → PairRules table s.section.rows s.section.pairs pair
pair_rules schema table s pair pairs tables exists keeps =
    let section = section_of s (pair ∷ pairs) in
    let rules = section_rules schema table section (section_at schema s (pair ∷ pairs) tables keeps) exists in
    record {
      is = all_at_seam (IsPair table s.section.rows) s.section.pairs pair pairs rules.pairs;
      order = pairs_at_seam ComesBefore s.section.pairs pair pairs rules.order;
      agree = pairs_at_seam PairsAgree s.section.pairs pair pairs rules.agree;
    }

pub fewer_tables : (schema : Schema) (s : Draft) (tables more : List TableStats) → KeepsRules schema (file_of_draft s (tables ++ more)) → KeepsRules schema (file_of_draft s tables)
fewer_tables schema s tables more keeps =
    let same : s.tables ++ (tables ++ more) ≡ (s.tables ++ tables) ++ more = sym (append_assoc s.tables tables more) in
    record {
      least = keeps.least;
      most = keeps.most;
      order = pairs_front (λ (a b : TableStats). a.table < b.table) (s.tables ++ tables) more (subst (AllPairs (λ (a b : TableStats). a.table < b.table)) same keeps.order);
      tables = all_left (IsSection schema) (s.tables ++ tables) more (subst (All (IsSection schema)) same keeps.tables);
    }

fewer_pairs_section : (schema : Schema) (s : Draft) (pairs more : List PairStats) → IsSection schema (section_of s (pairs ++ more)) → IsSection schema (section_of s pairs)
fewer_pairs_section schema s pairs more is =
    let same : s.section.pairs ++ (pairs ++ more) ≡ (s.section.pairs ++ pairs) ++ more = sym (append_assoc s.section.pairs pairs more) in
    record {
      table = is.table;
      table_is = is.table_is;
      rows = is.rows;
      pairs = all_left (IsPair is.table s.section.rows) (s.section.pairs ++ pairs) more (subst (All (IsPair is.table s.section.rows)) same is.pairs);
      order = pairs_front ComesBefore (s.section.pairs ++ pairs) more (subst (AllPairs ComesBefore) same is.order);
      agree = pairs_front PairsAgree (s.section.pairs ++ pairs) more (subst (AllPairs PairsAgree) same is.agree);
    }

other_last : (schema : Schema) (s : Draft) (a b : TableStats) → a.table ≡ b.table → IsSection schema b → KeepsRules schema (file_of_draft s (a ∷ [])) → KeepsRules schema (file_of_draft s (b ∷ []))
other_last schema s a b same is keeps =
    let order = pairs_at_seam (λ (x y : TableStats). x.table < y.table) s.tables a [] keeps.order in
    record {
      least = keeps.least;
      most = keeps.most;
      order = all_pairs_push (λ (x y : TableStats). x.table < y.table) s.tables b (pairs_front (λ (x y : TableStats). x.table < y.table) s.tables (a ∷ []) keeps.order)
          (λ k d lt. subst (λ n. (get_or s.tables k d).table < n) same (order k d lt));
      tables = all_pushed (IsSection schema) s.tables b (all_left (IsSection schema) s.tables (a ∷ []) keeps.tables) is;
    }

pub without_pair : (schema : Schema) (s : Draft) (pairs : List PairStats) (tables : List TableStats) → KeepsRules schema (file_of_draft s (section_of s pairs ∷ tables))
    → KeepsRules schema (file_of_draft s (section_of s [] ∷ []))
without_pair schema s pairs tables keeps =
    let one = fewer_tables schema s (section_of s pairs ∷ []) tables keeps in
    other_last schema s (section_of s pairs) (section_of s []) refl (fewer_pairs_section schema s [] pairs (section_at schema s pairs [] one)) one

pub with_pair : (schema : Schema) (table : Table) (s : Draft) (pair : PairStats) → slice_get schema.tables s.section.table ≡ Some table
    → KeepsRules schema (file_of_draft s (section_of s [] ∷ [])) → PairRules table s.section.rows s.section.pairs pair
    → KeepsRules schema (file_of_draft s (section_of s (pair ∷ []) ∷ []))
with_pair schema table s pair exists keeps rules =
    let old = section_at schema s [] [] keeps in
    let of_old = section_rules schema table (section_of s []) old exists in
    let none : s.section.pairs ++ [] ≡ s.section.pairs = append-nil s.section.pairs in
    other_last schema s (section_of s []) (section_of s (pair ∷ [])) refl
    (record {
      table = table;
      table_is = exists;
      rows = old.rows;
      pairs = all_pushed (IsPair table s.section.rows) s.section.pairs pair (subst (All (IsPair table s.section.rows)) none of_old.pairs) rules.is;
      order = all_pairs_push ComesBefore s.section.pairs pair (subst (AllPairs ComesBefore) none of_old.order) rules.order;
      agree = all_pairs_push PairsAgree s.section.pairs pair (subst (AllPairs PairsAgree) none of_old.agree) rules.agree;
    })
    keeps
