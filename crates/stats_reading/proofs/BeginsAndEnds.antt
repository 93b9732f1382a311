-- Lines that begin a table or a pair. Such a line first ends the current table or pair, if there is one.
use Rattle.std.proofs.Common.{◌≡◌, ◌≢◌, ◌↔◌, ℕ, zero, suc, ◌<◌, ◌≤◌, List, [], ◌∷◌, ◌++◌, length, get_or, map, refl, ap, sym, subst, ◌∙◌, arith, Option, Some, None}
use Rattle.std.specs.Prelude.{slice_get, codes, decimal, Result}
use Rattle.std.proofs.lemmas.Fmt.{decimal_injective}
use Rattle.std.proofs.lemmas.Option.{get_or_from_slice_get, slice_get_within}
use Rattle.schema_types.specs.declared.types.Column.{Column}
use Rattle.schema_types.specs.declared.types.Schema.{Schema}
use Rattle.schema_types.specs.declared.types.Table.{Table}
use Rattle.schema_types.specs.Validity.{upper_case, NamesAreDifferent, IsValid, IsValidTable as IsGoodTable}
use Rattle.stats_file.specs.declared.types.StatsFile.{StatsFile}
use Rattle.stats_file.specs.FileText.{column_name, name_at}
use Rattle.stats_file.specs.Lines.{end_line, first_line, hex_text}
use Rattle.stats_file.specs.Rules.{KeepsRules}
use Rattle.stats_words.proofs.TextFacts.{same_hex}
use Rattle.stats_reading.specs.declared.draft.Draft.{Draft}
use Rattle.stats_reading.specs.declared.fault.Fault.{Fault}
use Rattle.stats_reading.specs.declared.line.LineKind.TheVariants as kind
use Rattle.stats_reading.specs.declared.stages.Stage.{Stage}
use Rattle.stats_reading.specs.declared.stages.Stage.TheVariants as stage
use Rattle.stats_reading.specs.Drafts.{empty_draft, number_word, pair_ended, pair_words, table_ended, table_words, BeginsPair, MayBeAccuracy, MayBePair, MayBeTable, TableWithRows, ReadsValue}
use Rattle.stats_reading.specs.IsTaken.{BeginsPairOf, BeginsTable}
use Rattle.stats_reading.specs.Kinds.{IsLineOf}
use Rattle.stats_reading.specs.Remaining.{file_of_draft, FileRemaining, InFile, InTable}
use Rattle.stats_reading.specs.Steps.{Ends, EndsAnd, PairEnds, TableEnds}
use Rattle.stats_reading.specs.Valid.{IsValidDraft, IsValidSection}
use Rattle.stats_reading.proofs.Begun.{pair_begun_valid, pair_ended_valid, table_begun_valid, table_ended_valid}
use Rattle.stats_reading.proofs.Counts.{tri, Tri}
use Rattle.stats_reading.proofs.Counts.Tri.{before, same, behind}
use Rattle.stats_reading.proofs.Edges.{close_end, close_first, close_pair, close_table, line_of_pair, line_of_table, open_end, open_first, open_pair, open_table, pair_closes, pair_reopens, table_closes, table_reopens, with_section}
use Rattle.stats_reading.proofs.Going.{end_goes, step_goes, then_goes, EndsBefore, FilesByResult, IsStep, Lines}
use Rattle.stats_reading.proofs.Opens.{nodes_are_cuts_remaining}
use Rattle.stats_reading.proofs.AppendedLists.{all_at, get_map, both_some_same}
use Rattle.stats_reading.proofs.Stepping.{ended, line_tag, spells_one, spells_two, weaker_valid}
use Rattle.stats_reading.proofs.Tags.{tag}
use Rattle.stats_reading.proofs.WordFacts.{hex_text_without_blank, hex_word_without_blank}

-- ---- no two tables, and no two columns of a table, have the same name

pub same_name_same_place : {X : Type 0} (name : X → List ℕ) (xs : List X) (i j : ℕ) (x y : X) → NamesAreDifferent (map name xs) → slice_get xs i ≡ Some x → slice_get xs j ≡ Some y → hex_text (name x) ≡ hex_text (name y) → i ≡ j
same_name_same_place {X} name xs i j x y differ at_x at_y e = by (tri i j)
  where
    names : name x ≡ name y
    names = same_hex (name x) (name y) e

    mapped : (k : ℕ) (z : X) → slice_get xs k ≡ Some z → (k < length (map name xs)) × (get_or (map name xs) k [] ≡ name z)
    mapped k z at =
        let there = get_map name xs k z at in
        (slice_get_within (map name xs) k (name z) there, get_or_from_slice_get (map name xs) k (name z) [] there)

    equal : upper_case (get_or (map name xs) i []) ≡ upper_case (get_or (map name xs) j [])
    equal = ap upper_case ((mapped i x at_x).1 ∙ names ∙ sym (mapped j y at_y).1)

    by : Tri i j → i ≡ j
    by (before h) = absurd (differ i j [] h (mapped j y at_y).0 equal)
    by (same h) = h
    by (behind h) = absurd (differ j i [] h (mapped i x at_x).0 (sym equal))

-- ---- a pair or a table ends

-- a line that is neither a cut nor a node ends the current pair, if there is one
pub record PairEnding (at : Stage) (schema : Schema) (s : Draft) (line : List ℕ) : Type 0 where
  pub ends : EndsBefore (PairEnds at s) (FileRemaining at schema s) (InTable schema) line
  pub valid : (m : Draft) → PairEnds at s m → IsValidSection schema m

pub record TableEnding (at : Stage) (schema : Schema) (s : Draft) (line : List ℕ) : Type 0 where
  pub ends : EndsBefore (TableEnds at s) (FileRemaining at schema s) (InFile schema) line
  pub valid : (m : Draft) → TableEnds at s m → KeepsRules schema (file_of_draft m [])

same_for_equal : (P : Draft → Type 0) (a b : Draft) → b ≡ a → P a ↔ P b
same_for_equal P a b e = (λ h. subst P (sym e) h, λ h. subst P e h)

pub ends_in_pairs : (schema : Schema) (s : Draft) (line : List ℕ) → IsValidDraft stage.Pairs schema s → PairEnding stage.Pairs schema s line
ends_in_pairs schema s line valid = record {
  ends = record {
    may = λ file more h. (s, refl);
    same = λ m e file more. same_for_equal (λ (x : Draft). InTable schema x file (line ∷ more)) s m e;
  };
  valid = λ m e. subst (IsValidSection schema) (sym e) valid;
}

pub ends_in_cuts : (schema : Schema) (s : Draft) (line : List ℕ) → IsValidDraft stage.Cuts schema s → tag line ≢ 99 → tag line ≢ 110 → PairEnding stage.Cuts schema s line
ends_in_cuts schema s line valid no_cut no_node = record {
  ends = record {
    may = λ file more h. (pair_ended s, ((pair_closes schema s file line more h no_cut no_node).0, refl));
    same = λ m e file more. (
      λ h. subst (λ (x : Draft). InTable schema x file (line ∷ more)) (sym e.1) (pair_closes schema s file line more h no_cut no_node).1,
      λ h. nodes_are_cuts_remaining schema s file (line ∷ more) (pair_reopens schema s file (line ∷ more) (subst (λ (x : Draft). InTable schema x file (line ∷ more)) e.1 h)),
    );
  };
  valid = λ m e. subst (IsValidSection schema) (sym e.1) (pair_ended_valid schema s valid e.0);
}

pub ends_in_nodes : (schema : Schema) (s : Draft) (line : List ℕ) → IsValidDraft stage.Nodes schema s → tag line ≢ 99 → tag line ≢ 110 → PairEnding stage.Nodes schema s line
ends_in_nodes schema s line valid no_cut no_node = record {
  ends = record {
    may = λ file more h. (pair_ended s, ((pair_closes schema s file line more (nodes_are_cuts_remaining schema s file (line ∷ more) h) no_cut no_node).0, refl));
    same = λ m e file more. (
      λ h. subst (λ (x : Draft). InTable schema x file (line ∷ more)) (sym e.1) (pair_closes schema s file line more (nodes_are_cuts_remaining schema s file (line ∷ more) h) no_cut no_node).1,
      λ h. pair_reopens schema s file (line ∷ more) (subst (λ (x : Draft). InTable schema x file (line ∷ more)) e.1 h),
    );
  };
  valid = λ m e. subst (IsValidSection schema) (sym e.1) (pair_ended_valid schema s (weaker_valid schema s valid) e.0);
}

pub ends_in_tables : (schema : Schema) (s : Draft) (line : List ℕ) → IsValidDraft stage.Tables schema s → TableEnding stage.Tables schema s line
ends_in_tables schema s line valid = record {
  ends = record {
    may = λ file more h. (s, refl);
    same = λ m e file more. same_for_equal (λ (x : Draft). InFile schema x file (line ∷ more)) s m e;
  };
  valid = λ m e. subst (λ (x : Draft). KeepsRules schema (file_of_draft x [])) (sym e) valid;
}

after_pair_ends : (at : Stage) (schema : Schema) (s : Draft) (line : List ℕ) → PairEnding at schema s line → tag line ≢ 112
    → EndsBefore (λ t. (m : Draft) × PairEnds at s m × (t ≡ table_ended m)) (FileRemaining at schema s) (InFile schema) line
after_pair_ends at schema s line pair no_pair = record {
  may = λ file more h. let found = pair.ends.may file more h in (table_ended found.0, (found.0, found.1, refl));
  same = λ t e file more. (
    λ h.
        let open' = (pair.ends.same e.0 e.1 file more).0 h in
        subst (λ (x : Draft). InFile schema x file (line ∷ more)) (sym e.2) (table_closes schema e.0 file line more open' no_pair),
    λ h.
        let v = pair.valid e.0 e.1 in
        (pair.ends.same e.0 e.1 file more).1 (table_reopens schema v.table e.0 file (line ∷ more) v.exists (subst (λ (x : Draft). InFile schema x file (line ∷ more)) e.2 h)),
  );
}

after_pair_valid : (at : Stage) (schema : Schema) (s : Draft) (line : List ℕ) → PairEnding at schema s line → (t : Draft) → (m : Draft) × PairEnds at s m × (t ≡ table_ended m)
    → KeepsRules schema (file_of_draft t [])
after_pair_valid at schema s line pair t e = subst (λ (x : Draft). KeepsRules schema (file_of_draft x [])) (sym e.2) (table_ended_valid schema e.0 (pair.valid e.0 e.1))

pub table_in_pairs : (schema : Schema) (s : Draft) (line : List ℕ) → PairEnding stage.Pairs schema s line → tag line ≢ 112 → TableEnding stage.Pairs schema s line
table_in_pairs schema s line pair no_pair = record { ends = after_pair_ends stage.Pairs schema s line pair no_pair; valid = after_pair_valid stage.Pairs schema s line pair }

pub table_in_cuts : (schema : Schema) (s : Draft) (line : List ℕ) → PairEnding stage.Cuts schema s line → tag line ≢ 112 → TableEnding stage.Cuts schema s line
table_in_cuts schema s line pair no_pair = record { ends = after_pair_ends stage.Cuts schema s line pair no_pair; valid = after_pair_valid stage.Cuts schema s line pair }

pub table_in_nodes : (schema : Schema) (s : Draft) (line : List ℕ) → PairEnding stage.Nodes schema s line → tag line ≢ 112 → TableEnding stage.Nodes schema s line
table_in_nodes schema s line pair no_pair = record { ends = after_pair_ends stage.Nodes schema s line pair no_pair; valid = after_pair_valid stage.Nodes schema s line pair }

-- ---- lines that begin or end a table or a pair

column_exists : (columns : List Column) (i : ℕ) → i < length columns → (c : Column) × (slice_get columns i ≡ Some c)
column_exists [] i lt = absurd (omega arith)
column_exists (c ∷ columns) zero lt = (c, refl)
column_exists (c ∷ columns) (suc i) lt = column_exists columns i (omega arith)

abbrev pub table_with_rows : Table → ℕ → ℕ → TableWithRows
table_with_rows table place rows = record { table = table; place = place; rows = rows }

same_place : (schema : Schema) (m : Draft) (a b : TableWithRows) → IsValid schema → MayBeTable schema m a → MayBeTable schema m b → table_words a ≡ table_words b → a ≡ b
same_place schema m a b good may_a may_b e =
    let place = same_name_same_place (λ (t : Table). t.name) schema.tables a.place b.place a.table b.table good.names may_a.exists may_b.exists (ap (λ (p : List ℕ × List ℕ). p.0) e) in
    let there : slice_get schema.tables b.place ≡ Some a.table = ap (λ n. slice_get schema.tables n) (sym place) ∙ may_a.exists in
    let table = both_some_same a.table b.table (slice_get schema.tables b.place) there may_b.exists in
    let few_a : a.rows ≤ 4000000 = may_a.within_limit in
    let few_b : b.rows ≤ 4000000 = may_b.within_limit in
    let rows = decimal_injective a.rows b.rows (omega arith) (omega arith) (ap (λ (p : List ℕ × List ℕ). p.1) e) in
    ap (λ (x : Table). table_with_rows x a.place a.rows) table ∙ ap (λ n. table_with_rows b.table n a.rows) place ∙ ap (λ n. table_with_rows b.table b.place n) rows

pub table_goes : (at : Stage) (schema : Schema) (s t : Draft) (a b l : List ℕ) (r : Result (Unit {0}) Fault) → IsValid schema → TableEnding at schema s (ended l) → IsLineOf kind.Table a b l
    → EndsAnd (TableEnds at s) (BeginsTable schema t (a, b)) r → FilesByResult (FileRemaining at schema s) (FileRemaining stage.Pairs schema t) (IsValidDraft stage.Pairs schema t) (ended l) r
table_goes at schema s t a b l r good ending is begins =
    then_goes ending.ends (BeginsTable schema t (a, b)) (FileRemaining stage.Pairs schema t) (IsValidDraft stage.Pairs schema t) r begins
    (λ m may takes. step_goes (step m) (IsValidDraft stage.Pairs schema t) r takes
    (λ v may_be e. subst (IsValidSection schema) (sym e) (table_begun_valid schema m v (ending.valid m may) may_be)))
  where
    step : (m : Draft) → IsStep line_of_table table_words (MayBeTable schema m) (λ v. t ≡ with_section m v) (InFile schema m) (InTable schema t) (ended l) (a, b)
    step m = record {
      opens = λ file more h.
          let o = open_table schema m file (ended l) more h (line_tag kind.Table a b l is) in
          record { value = o.value; is = o.is; may = o.may; rest = λ e. subst (λ (x : Draft). InTable schema x file more) (sym e) o.rest };
      closes = λ v file more e may h. close_table schema m v file more may (subst (λ (x : Draft). InTable schema x file more) e h);
      same = λ x y may_x may_y e. same_place schema m x y good may_x may_y e;
      spells = λ v may. spells_two (codes "table ") (hex_text v.table.name) (decimal v.rows) a b l (hex_text_without_blank v.table.name) (hex_word_without_blank a is.parts.0) is.whole;
    }

pub column_place : (table : Table) (i j : ℕ) → IsGoodTable table → i < length table.columns → j < length table.columns → hex_text (name_at table i) ≡ hex_text (name_at table j) → i ≡ j
column_place table i j good lt_i lt_j e = at (slice_get table.columns i) (slice_get table.columns j) refl refl
  where
    at : (o p : Option Column) → slice_get table.columns i ≡ o → slice_get table.columns j ≡ p → i ≡ j
    at None p e_i e_j = let found = (column_exists table.columns i lt_i).1 in absurd (cc)
    at (Some x) None e_i e_j = let found = (column_exists table.columns j lt_j).1 in absurd (cc)
    at (Some x) (Some y) e_i e_j =
        same_name_same_place (λ (c : Column). c.name) table.columns i j x y good.names e_i e_j
        (ap (λ (c : Option Column). hex_text (column_name c)) (sym e_i) ∙ e ∙ ap (λ (c : Option Column). hex_text (column_name c)) e_j)

abbrev columns_of : ℕ → ℕ → ℕ × ℕ
columns_of filter joined = (filter, joined)

same_columns : (table : Table) (m : Draft) (x y : ℕ × ℕ) → IsGoodTable table → MayBePair table m x.0 x.1 → MayBePair table m y.0 y.1 → pair_words table x ≡ pair_words table y → x ≡ y
same_columns table m x y good may_x may_y e =
    let first = column_place table x.0 y.0 good may_x.filter_is may_y.filter_is (ap (λ (p : List ℕ × List ℕ). p.0) e) in
    let second = column_place table x.1 y.1 good may_x.joined_is may_y.joined_is (ap (λ (p : List ℕ × List ℕ). p.1) e) in
    ap (λ (n : ℕ). columns_of n x.1) first ∙ ap (λ (n : ℕ). columns_of y.0 n) second

pub pair_goes : (at : Stage) (schema : Schema) (s t : Draft) (a b l : List ℕ) (r : Result (Unit {0}) Fault) → IsValid schema → PairEnding at schema s (ended l) → IsLineOf kind.Pair a b l
    → EndsAnd (PairEnds at s) (BeginsPairOf schema t (a, b)) r → FilesByResult (FileRemaining at schema s) (FileRemaining stage.Whole schema t) (IsValidDraft stage.Whole schema t) (ended l) r
pair_goes at schema s t a b l r good ending is begins =
    then_goes ending.ends (BeginsPairOf schema t (a, b)) (FileRemaining stage.Whole schema t) (IsValidDraft stage.Whole schema t) r begins
    (λ m may of_table.
    let v = ending.valid m may in
    let good_table = all_at IsGoodTable schema.tables m.section.table v.table good.tables v.exists in
    step_goes (step m v.table v.exists good_table) (IsValidDraft stage.Whole schema t) r (of_table v.table v.exists)
    (λ c may_be with_new_pair. pair_begun_valid schema v.table m t c.0 c.1 v v.exists may_be with_new_pair))
  where
    step : (m : Draft) (table : Table) → slice_get schema.tables m.section.table ≡ Some table → IsGoodTable table
        → IsStep (line_of_pair table) (pair_words table) (λ c. MayBePair table m c.0 c.1) (λ c. BeginsPair table m t c.0 c.1) (InTable schema m) (FileRemaining stage.Whole schema t) (ended l) (a, b)
    step m table exists good_table = record {
      opens = λ file more h.
          let o = open_pair schema table m file (ended l) more exists h (line_tag kind.Pair a b l is) in
          record { value = o.value; is = o.is; may = o.may; rest = λ with_new_pair. o.rest t with_new_pair };
      closes = λ c file more with_new_pair may h. close_pair schema table m t c file more exists with_new_pair h;
      same = λ x y may_x may_y e. same_columns table m x y good_table may_x may_y e;
      spells = λ c may.
          spells_two (codes "pair ") (hex_text (name_at table c.0)) (hex_text (name_at table c.1)) a b l (hex_text_without_blank (name_at table c.0)) (hex_word_without_blank a is.parts.0) is.whole;
    }

pub end_line_goes : (at : Stage) (schema : Schema) (s t : Draft) (a b l : List ℕ) (r : Result (Unit {0}) Fault) → TableEnding at schema s (ended l) → IsLineOf kind.End a b l
    → Ends (TableEnds at s) t r → FilesByResult (FileRemaining at schema s) (FileRemaining stage.Done schema t) (IsValidDraft stage.Done schema t) (ended l) r
end_line_goes at schema s t a b l r ending is ends =
    end_goes ending.ends (FileRemaining stage.Done schema t) (IsValidDraft stage.Done schema t) t r ends (λ m may e.
    (λ file more. same m e file more, subst (λ (x : Draft). KeepsRules schema (file_of_draft x [])) e (ending.valid m may)))
  where
    line_is : ended l ≡ end_line
    line_is = ap ended (is.whole ∙ ap (λ (x : List ℕ). codes "end" ++ x) is.parts.0)

    same : (m : Draft) → m ≡ t → (file : StatsFile) (more : Lines) → InFile schema m file (ended l ∷ more) ↔ FileRemaining stage.Done schema t file more
    same m e file more = (
      λ h. subst (λ (x : Draft). FileRemaining stage.Done schema x file more) e (open_end schema m file (ended l) more h (line_tag kind.End a b l is)),
      λ h. subst (λ (line : List ℕ). InFile schema m file (line ∷ more)) (sym line_is)
          (close_end schema m file more (subst (λ (x : Draft). FileRemaining stage.Done schema x file more) (sym e) h)),
    )

first_valid : (schema : Schema) (k : ℕ) → MayBeAccuracy k → KeepsRules schema (file_of_draft (record empty_draft { accuracy = k }) [])
first_valid schema k may = record { least = may.0; most = may.1; order = λ i j d less lt. absurd (omega arith); tables = λ i d lt. absurd (omega arith) }

pub first_goes : (schema : Schema) (s t : Draft) (a b l : List ℕ) (r : Result (Unit {0}) Fault) → IsValidDraft stage.Start schema s → IsLineOf kind.First a b l
    → ReadsValue number_word MayBeAccuracy (λ k. t ≡ record s { accuracy = k }) (a, b) r
    → FilesByResult (FileRemaining stage.Start schema s) (FileRemaining stage.Tables schema t) (IsValidDraft stage.Tables schema t) (ended l) r
first_goes schema s t a b l r valid is takes =
    step_goes step (IsValidDraft stage.Tables schema t) r takes (λ k may e. subst (λ (x : Draft). KeepsRules schema (file_of_draft x [])) (sym (from_empty k e)) (first_valid schema k may))
  where
    from_empty : (k : ℕ) → t ≡ record s { accuracy = k } → t ≡ record empty_draft { accuracy = k }
    from_empty k e = e ∙ ap (λ (x : Draft). record x { accuracy = k }) valid

    step : IsStep first_line number_word MayBeAccuracy (λ k. t ≡ record s { accuracy = k }) (FileRemaining stage.Start schema s) (FileRemaining stage.Tables schema t) (ended l) (a, b)
    step = record {
      opens = λ file more h.
          let o = open_first schema file (ended l) more h.0 h.1 in
          record { value = o.value; is = o.is; may = o.may; rest = λ e. subst (λ (x : Draft). InFile schema x file more) (sym (from_empty o.value e)) o.rest };
      closes = λ k file more e may h. close_first schema k file more (subst (λ (x : Draft). InFile schema x file more) (from_empty k e) h);
      same = λ x y may_x may_y e.
          let le_x : x ≤ 64 = may_x.1 in
          let le_y : y ≤ 64 = may_y.1 in
          decimal_injective x y (omega arith) (omega arith) (ap (λ (p : List ℕ × List ℕ). p.0) e);
      spells = λ k may. spells_one (codes "safebound-stats 1 ") (decimal k) a b l is.whole is.parts.1;
    }
