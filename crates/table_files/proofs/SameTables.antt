-- The tables of a database are the tables that are made of its entries' rows.
use Rattle.std.proofs.Common.{◌≡◌, ℕ, zero, suc, ◌<◌, ◌≤◌, inl, inr, List, [], ◌∷◌, length, get_or, map, refl, ap, sym, ◌∙◌, arith}
use Rattle.std.specs.Prelude.{nat_lt}
use Rattle.std.proofs.Math.Path.{fun_ext}
use Rattle.std.proofs.lemmas.Bool.{cases_Bool, eq-eqb}
use Rattle.std.proofs.lemmas.Bool.Decides.{nat_tests}
use Rattle.std.proofs.lemmas.List.{length-map}
use Rattle.std.proofs.lemmas.List.FromFn.{get_or-map-range_with_len, length-map-range_with_len}
use Rattle.csv_tables.specs.Cells.{rows_of_cells}
use Rattle.csv_tables.specs.Rows.{Row}
use Rattle.csv_tables.specs.declared.types.Database.{Database}
use Rattle.query_types.specs.declared.types.Source.{Source}
use Rattle.sql_meaning.specs.Tables.{no_cells, tables_of}
use Rattle.table_files.specs.EntryTables.{entry_rows, tables_in}
use Rattle.table_files.specs.Stage.{numbers_of, index_of, tables_of_query}

pub first_place : (from : List Source) → get_or (map (index_of (tables_of_query from)) (numbers_of from)) 0 0 ≡ 0
first_place [] = refl
first_place (source ∷ sources) = rw (eq-eqb source.table source.table refl) refl

pub some_slot : (from : List Source) (slots : List ℕ) → slots ≡ map (index_of (tables_of_query from)) (numbers_of from) → 0 < length from → 0 < length slots
some_slot from slots is some = omega (arith, ap length is, length-map (numbers_of from) (index_of (tables_of_query from)), length-map from (λ (source : Source). source.table), some)

past_end : {X : Type 0} (xs : List X) (i : ℕ) (d : X) → length xs ≤ i → get_or xs i d ≡ d
past_end [] i d le = refl
past_end (x ∷ xs) zero d le = absurd (omega arith)
past_end (x ∷ xs) (suc i) d le = past_end xs i d (omega arith)

module _ (db : Database) (some : 0 < length db.slots) (first : get_or db.slots 0 0 ≡ 0) where
  rows_at : (entry : ℕ) (d : List Row) → entry < length db.slots → get_or (entry_rows db) entry d ≡ tables_of db entry
  rows_at entry d low = get_or-map-range_with_len (tables_of db) 0 (length db.slots) entry entry d low (omega arith)

  rows_past : (entry : ℕ) → length db.slots ≤ entry → tables_in (entry_rows db) entry ≡ tables_of db entry
  rows_past entry high =
      past_end (entry_rows db) entry (get_or (entry_rows db) 0 []) (omega (arith, high, length-map-range_with_len (tables_of db) 0 (length db.slots)))
      ∙ rows_at 0 [] some
      ∙ ap (λ (slot : ℕ). rows_of_cells db.pool (get_or db.cells slot no_cells)) (first ∙ sym (past_end db.slots entry 0 high))

  pub same_tables : tables_in (entry_rows db) ≡ tables_of db
  same_tables = fun_ext (λ (entry : ℕ). elim (cases_Bool (nat_lt entry (length db.slots))) [
    | inl low ↦ rows_at entry (get_or (entry_rows db) 0 []) (grind (arith, nat_tests))
    | inr high ↦ rows_past entry (grind (arith, nat_tests))
  ])
