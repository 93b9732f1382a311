-- If a section or a file stands for some rows, it stands after the append for these rows followed by the new rows.
use Rattle.std.proofs.Common.{◌≡◌, ℕ, zero, suc, ◌+◌, ◌==◌, Bool, true, false, cond, eqb, List, [], ◌∷◌, ◌++◌, length, map, get_or, Some, find, inl, inr, refl, ap, sym, ◌∙◌, subst, arith}
use Rattle.std.proofs.lemmas.Bool.{cases_Bool, eqb-true, ne_eqb}
use Rattle.std.proofs.lemmas.List.Elements.{All-map}
use Rattle.csv_tables.specs.Rows.{Row}
use Rattle.query_types.specs.declared.types.Query.{Query}
use Rattle.schema_types.specs.declared.types.Schema.{Schema}
use Rattle.schema_types.specs.declared.types.Table.{Table}
use Rattle.sql_meaning.specs.Tables.{Tables, row_counts}
use Rattle.stats_file.specs.declared.types.PairStats.{PairStats}
use Rattle.stats_file.specs.declared.types.StatsFile.{StatsFile}
use Rattle.stats_file.specs.declared.types.TableStats.{TableStats}
use Rattle.stats_file.specs.Rules.{IsPair, IsSection, KeepsRules}
use Rattle.table_stats.specs.Columns.{paired, value_of_row}
use Rattle.table_stats.specs.Keys.{SeparatesValues}
use Rattle.stats_file_of_query.specs.Needs.{table_of}
use Rattle.stats_file_of_query.specs.Pairs.{pair_in_table}
use Rattle.stats_file_of_query.specs.Standing.{PairStandsFor, SectionStandsFor, StandsFor}
use Rattle.stats_file_of_query.proofs.Finding.{found_in}
use Rattle.stats_file_of_query.proofs.Stands.{pair_stands}
use Rattle.appended_stats.specs.Appended.{tables_of_rows, file_after, pair_after, section_after, values_in}
use Rattle.appended_stats.specs.Conditions.{HasNewRows}
use Rattle.appended_stats.specs.Grown.{grown_pair}
use Rattle.appended_stats.proofs.PairKept.{nodes_all}
use Rattle.appended_stats.proofs.Stands.{count_is, grown_stands, tells_before}

-- whether a pair stands for rows doesn't depend on the entry that has them. In `tables_of_rows` every entry has these rows
pair_moved : (pair : PairStats) (tables : Tables) (entry : ℕ) (key : ℕ → ℕ) → PairStandsFor pair (tables_of_rows (tables entry)) 0 key → PairStandsFor pair tables entry key
pair_moved pair tables entry key stands = record { rows = stands.rows; whole = stands.whole; value = stands.value; node = stands.node }

pair_back : (pair : PairStats) (tables : Tables) (entry : ℕ) (key : ℕ → ℕ) → PairStandsFor pair tables entry key → PairStandsFor pair (tables_of_rows (tables entry)) 0 key
pair_back pair tables entry key stands = record { rows = stands.rows; whole = stands.whole; value = stands.value; node = stands.node }

section_moved : (section : TableStats) (tables : Tables) (entry : ℕ) → SectionStandsFor section (tables_of_rows (tables entry)) 0 → SectionStandsFor section tables entry
section_moved section tables entry stands = record {
  rows = stands.rows;
  pairs = λ i d low key tells. pair_moved (get_or section.pairs i d) tables entry key (stands.pairs i d low key tells);
}

section_back : (section : TableStats) (tables : Tables) (entry : ℕ) → SectionStandsFor section tables entry → SectionStandsFor section (tables_of_rows (tables entry)) 0
section_back section tables entry stands = record {
  rows = stands.rows;
  pairs = λ i d low key tells. pair_back (get_or section.pairs i d) tables entry key (stands.pairs i d low key tells);
}

empty_if_length_0 : {X : Type 0} (xs : List X) → length xs ≡ 0 → xs ≡ []
empty_if_length_0 [] none = refl
empty_if_length_0 (x ∷ xs) none = absurd (omega (arith, none))

-- ---- a section after the append

module _ (tables after : Tables) (entry : ℕ) (new : List Row) (are : after entry ≡ tables entry ++ new) (k : ℕ) (table : Table) where
  pair_still_stands : (before : ℕ) (pair : PairStats) → before ≡ row_counts tables entry → IsPair table before pair
      → ((key : ℕ → ℕ) → SeparatesValues tables entry pair.joined key → PairStandsFor pair tables entry key)
      → (key : ℕ → ℕ) → SeparatesValues after entry (pair_after k before new pair).joined key → PairStandsFor (pair_after k before new pair) after entry key
  pair_still_stands zero pair none is stood key tells =
      let alone_now : after entry ≡ new = are ∙ ap (λ (s : List Row). s ++ new) (empty_if_length_0 (tables entry) (sym none)) in
      subst (λ (rows : List Row). PairStandsFor (pair_in_table (tables_of_rows rows) k 0 pair.filter pair.joined) after entry key) alone_now
      (pair_moved (pair_in_table (tables_of_rows (after entry)) k 0 pair.filter pair.joined) after entry key (pair_stands (tables_of_rows (after entry)) k 0 pair.filter pair.joined key tells))
  pair_still_stands (suc n) pair some is stood key tells =
      let e : eqb (suc n) 0 ≡ false = ne_eqb (suc n) 0 (λ same. omega (arith, same)) in
      let grown : PairStats = grown_pair (value_of_row (values_in new pair.filter)) k (paired (values_in new pair.filter) (values_in new pair.joined)) pair in
      let its : pair_after k (suc n) new pair ≡ grown = rw e refl in
      let told : SeparatesValues after entry pair.joined key = subst (λ (p : PairStats). SeparatesValues after entry p.joined key) its tells in
      subst (λ (p : PairStats). PairStandsFor p after entry key) (sym its)
      (grown_stands tables after entry new are key pair.joined told k pair (nodes_all is.filter.kind (suc n) pair.cuts pair.nodes (omega arith) is.tree) refl
      (stood key (tells_before tables after entry new are key pair.joined told)))

  pub section_still_stands : (schema : Schema) (section : TableStats) (is : IsSection schema section) → is.table ≡ table → SectionStandsFor section tables entry
      → SectionStandsFor (section_after k new section) after entry
  section_still_stands schema section is same stands = record {
    rows = ap (λ r. r + length new) stands.rows ∙ sym (count_is tables after entry new are);
    pairs = All-map (λ (pair : PairStats). (key : ℕ → ℕ) → SeparatesValues after entry pair.joined key → PairStandsFor pair after entry key) (pair_after k section.rows new) section.pairs
        (λ i d low. pair_still_stands section.rows (get_or section.pairs i d) stands.rows
        (subst (λ t. IsPair t section.rows (get_or section.pairs i d)) same (is.pairs i d low)) (stands.pairs i d low));
  }

-- ---- a file after the append

module _ (file : StatsFile) (table : ℕ) (new : List Row) where
  abbrev section_or_appended : TableStats → TableStats
  section_or_appended section = cond (section.table == table) (section_after file.accuracy new section) section

  its_table : (section : TableStats) → (section_or_appended section).table ≡ section.table
  its_table section = elim (cases_Bool (section.table == table)) [ inl e ↦ rw e refl | inr e ↦ rw e refl ]

  -- `section_or_appended` is the function that the append applies to each section
  found_before : (sections : List TableStats) (t : ℕ) (section : TableStats) → find (λ (s : TableStats). s.table == t) (map section_or_appended sections) ≡ Some section
      → (old : TableStats) × (find (λ (s : TableStats). s.table == t) sections ≡ Some old) × (section ≡ section_or_appended old)
  found_before [] t section none = absurd (cc none)
  found_before (s ∷ sections) t section found = elim (cases_Bool (s.table == t)) [
    | inl e ↦ (let here : ((section_or_appended s).table == t) ≡ true = ap (λ (x : ℕ). x == t) (its_table s) ∙ e in
        let is : Some (section_or_appended s) ≡ Some section = rw here at found in
        (s, rw e refl, sym (some_same (section_or_appended s) section is)))
    | inr e ↦ (let here : ((section_or_appended s).table == t) ≡ false = ap (λ (x : ℕ). x == t) (its_table s) ∙ e in
        let later : find (λ (x : TableStats). x.table == t) (map section_or_appended sections) ≡ Some section = rw here at found in
        let rest = found_before sections t section later in
        (rest.0, rw e rest.1, rest.2))
  ]
    where
      some_same : (a b : TableStats) → Some a ≡ Some b → a ≡ b
      some_same a b same = cc same

  pub file_still_stands : (schema : Schema) (query : Query) (tables after : Tables) → KeepsRules schema file → StandsFor query file tables → HasNewRows query table new tables after
      → StandsFor query (file_after file table new) after
  file_still_stands schema query tables after keeps stands has entry section low found =
      let old = found_before file.tables (table_of query entry) section found in
      let before : SectionStandsFor old.0 tables entry = stands entry old.0 low old.1 in
      let in_file = found_in (λ (s : TableStats). s.table == table_of query entry) file.tables old.0 old.1 in
      let its : old.0.table ≡ table_of query entry = eqb-true old.0.table (table_of query entry) in_file.1 in
      let kept : IsSection schema old.0 = subst (IsSection schema) in_file.0.2 (keeps.tables in_file.0.0 old.0 in_file.0.1) in
      subst (λ (s : TableStats). SectionStandsFor s after entry) (sym old.2)
      (elim (cases_Bool (old.0.table == table)) [
        | inl e ↦ (let same : (table_of query entry == table) ≡ true = ap (λ t. t == table) (sym its) ∙ e in
            let more : after entry ≡ tables entry ++ new = has entry low ∙ ap (λ (b : Bool). cond b (tables entry ++ new) (tables entry)) same in
            let still = section_still_stands tables after entry new more file.accuracy kept.table schema old.0 kept refl before in
            rw e still)
        | inr e ↦ (let same : (table_of query entry == table) ≡ false = ap (λ t. t == table) (sym its) ∙ e in
            let as_before : after entry ≡ tables entry = has entry low ∙ ap (λ (b : Bool). cond b (tables entry ++ new) (tables entry)) same in
            let still : SectionStandsFor old.0 after entry =
            section_moved old.0 after entry (subst (λ (rows : List Row). SectionStandsFor old.0 (tables_of_rows rows) 0) (sym as_before) (section_back old.0 tables entry before)) in
            rw e still)
      ])
