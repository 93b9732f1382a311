-- Two columns with the same name show that the name is ambiguous. So the first two entries in scope of each table are enough.
use Rattle.std.proofs.Common.{◌≡◌, ℕ, suc, ◌+◌, ◌-◌, ◌<◌, ◌≤◌, Bool, true, false, cond, nat_eq, List, [], ◌∷◌, ◌++◌, length, take, drop, get_or, Option, Some, None, ap, subst, sym, ◌∙◌, refl, arith}
use Rattle.std.specs.Prelude.{◌==◌, is_some, count_by, option_map, option_and_then, slice_get}
use Rattle.std.specs.List.{cons_option}
use Rattle.std.proofs.lemmas.List.{take_more, length-take, length-drop, get_or-drop, append-nil}
use Rattle.std.proofs.lemmas.Bool.{eqb-true}
use Rattle.std.proofs.lemmas.List.Sums.{sum_by-cons}
use Rattle.schema_types.specs.declared.types.Table.{Table}
use Rattle.schema_types.specs.declared.types.Schema.{Schema}
use Rattle.schema_types.specs.declared.types.Column.{Column}
use Rattle.schema_types.specs.declared.types.Kind.{Kind}
use Rattle.std.proofs.lemmas.List.Elements.{filter_map-append}
use Rattle.query_names.specs.declared.binder.Binder.{Binder}
use Rattle.query_names.specs.declared.scope.Visible.{Visible}
use Rattle.query_names.specs.declared.scope.Entry.{Entry}
use Rattle.query_names.specs.declared.scope.EntryColumn.{EntryColumn}
use Rattle.query_types.specs.declared.types.Source.{Source}
use Rattle.schema_types.specs.Names.{index_of_name}
use Rattle.query_names.specs.Names.{column_in, column_named, column_at, column_names}
use Rattle.query_names.specs.Scopes.{in_scope, numbered}
use Rattle.query_names.specs.Binding.{columns_in, schema_of, from_of, FirstTwoAreEnough}

-- ---- the first two of a list

first_two_of : {A : Type 0} (xs zs : List A) → take 2 (xs ++ zs) ≡ take 2 (take 2 xs ++ zs)
first_two_of [] zs = refl
first_two_of (x ∷ []) zs = refl
first_two_of (x ∷ y ∷ rest) zs = refl

pub two_push : {A : Type 0} (xs ys zs : List A) → take 2 xs ≡ take 2 ys → take 2 (xs ++ zs) ≡ take 2 (ys ++ zs)
two_push xs ys zs same = first_two_of xs zs ∙ ap (λ two. take 2 (two ++ zs)) same ∙ sym (first_two_of ys zs)

pub two_full : {A : Type 0} (xs zs : List A) → 2 ≤ length xs → take 2 (xs ++ zs) ≡ take 2 xs
two_full [] zs full = absurd (omega arith)
two_full (x ∷ []) zs full = absurd (omega arith)
two_full (x ∷ y ∷ rest) zs full = refl

-- ---- an option as a list

abbrev pub as_list : {A : Type 0} → Option A → List A
as_list None = []
as_list (Some x) = x ∷ []

-- ---- a third entry of a table doesn't change the first two columns

abbrev found_at : ℕ → ℕ → Kind → EntryColumn
found_at from number kind = record { from = from; column = number; kind = kind }

column_named_alike : (a b : ℕ) (table : Table) (name : List ℕ) → is_some (column_named a table name) ≡ is_some (column_named b table name)
column_named_alike a b table name = at (index_of_name (column_names table) name) where
  there : (column : Option Column) (n : ℕ) → is_some (option_map (λ c. found_at a n c.kind) column) ≡ is_some (option_map (λ c. found_at b n c.kind) column)
  there None n = refl
  there (Some column) n = refl

  at : (number : Option ℕ) → is_some (option_and_then (column_at a table) number) ≡ is_some (option_and_then (column_at b table) number)
  at None = refl
  at (Some n) = there (slice_get table.columns n) n

column_alike : (schema : Schema) (name : List ℕ) (a b : Entry) → a.table ≡ b.table → is_some (column_in schema name a) ≡ is_some (column_in schema name b)
unfolding column_in
column_alike schema name a b same = at (slice_get schema.tables a.table) (slice_get schema.tables b.table) (ap (slice_get schema.tables) same) where
  at : (s t : Option Table) → s ≡ t → is_some (option_and_then (λ table. column_named a.number table name) s) ≡ is_some (option_and_then (λ table. column_named b.number table name) t)
  at None None same = refl
  at None (Some t) same = cc
  at (Some s) None same = cc
  at (Some s) (Some t) same = column_named_alike a.number b.number s name ∙ ap (λ o. is_some (option_and_then (λ table. column_named b.number table name) o)) same

pub table_columns : (schema : Schema) (name : List ℕ) (entry : Entry) (first_two : List Entry) → is_some (column_in schema name entry) ≡ true
    → count_by (λ e. e.table == entry.table) first_two ≤ length (columns_in schema name first_two)
table_columns schema name entry [] has = omega arith
table_columns schema name entry (e ∷ rest) has =
    subst (λ n. n ≤ length (columns_in schema name (e ∷ rest))) (sym (sum_by-cons (λ x. cond (x.table == entry.table) 1 0) e rest))
    (at (nat_eq e.table entry.table) (column_in schema name e) refl refl (table_columns schema name entry rest has)) where
      at : (same : Bool) (found : Option EntryColumn) → same ≡ nat_eq e.table entry.table → found ≡ column_in schema name e
          → count_by (λ e. e.table == entry.table) rest ≤ length (columns_in schema name rest) → cond same 1 0 + count_by (λ e. e.table == entry.table) rest ≤ length (cons_option found (columns_in schema name rest))
      at true None same found more =
          let alike : is_some (column_in schema name e) ≡ true = column_alike schema name e entry (eqb-true e.table entry.table (sym same)) ∙ has in
          let none : false ≡ is_some (column_in schema name e) = ap is_some found in
          cc
      at true (Some column) same found more = omega arith
      at false None same found more = omega arith
      at false (Some column) same found more = omega arith

pub third_shows_nothing : (schema : Schema) (name : List ℕ) (entry : Entry) (first_two : List Entry) → 2 ≤ count_by (λ e. e.table == entry.table) first_two
    → take 2 (columns_in schema name first_two) ≡ take 2 (columns_in schema name first_two ++ columns_in schema name (entry ∷ []))
third_shows_nothing schema name entry first_two two = at (column_in schema name entry) refl where
  at : (found : Option EntryColumn) → found ≡ column_in schema name entry
      → take 2 (columns_in schema name first_two) ≡ take 2 (columns_in schema name first_two ++ cons_option found [])
  at None is = ap (take 2) (sym (append-nil (columns_in schema name first_two)))
  at (Some column) is =
      let many : 2 ≤ length (columns_in schema name first_two) = omega (arith, table_columns schema name entry first_two (ap is_some (sym is))) in
      sym (two_full (columns_in schema name first_two) (column ∷ []) many)

-- ---- the entries in scope, when one more entry comes into scope

numbered-append : (n : ℕ) (xs ys : List Source) → numbered n (xs ++ ys) ≡ numbered n xs ++ numbered (n + length xs) ys
numbered-append n [] ys = ap (λ m. numbered m ys) (omega arith)
numbered-append n (x ∷ xs) ys =
    let turn : n + 1 + length xs ≡ n + suc (length xs) = omega arith in
    ap (λ l. record { number = n; table = x.table } ∷ l) (numbered-append (n + 1) xs ys ∙ ap (λ m. numbered (n + 1) xs ++ numbered m ys) turn)

pub none_in_scope : (from : List Source) (first : ℕ) → in_scope from (record { first = first; end = first }) ≡ []
unfolding in_scope
none_in_scope from first = let none : first - first ≡ 0 = omega arith in rw none refl

pub one_more_in_scope : (from : List Source) (first end : ℕ) (d : Source) → first ≤ end → end < length from
    → in_scope from (record { first = first; end = end + 1 }) ≡ in_scope from (record { first = first; end = end }) ++ record { number = end; table = (get_or from end d).table } ∷ []
unfolding in_scope
one_more_in_scope from first end d begins below =
    let rest : List Source = drop first from in
    let count : ℕ = end - first in
    let turn : end + 1 - first ≡ count + 1 = omega arith in
    let within : count < length rest = omega (arith, length-drop first from) in
    let back : first + count ≡ end = omega arith in
    let here : get_or rest count d ≡ get_or from end d = get_or-drop first from count d ∙ ap (λ i. get_or from i d) back in
    let last : first + length (take count rest) ≡ end = omega (arith, length-take count rest) in
    ap (λ k. numbered first (take k rest)) turn
    ∙ ap (numbered first) (take_more rest count d within)
    ∙ numbered-append first (take count rest) (get_or rest count d ∷ [])
    ∙ ap (λ m. numbered first (take count rest) ++ numbered m (get_or rest count d ∷ [])) last
    ∙ ap (λ s. numbered first (take count rest) ++ numbered end (s ∷ [])) here

-- ---- `FirstTwoAreEnough` for the empty scope, and when one more entry comes into scope

pub first_two_enough_in_empty_scope : (binder : Binder) (visible : Visible) (first : ℕ) → visible.scope ≡ record { first = first; end = first } → visible.first_two ≡ [] → FirstTwoAreEnough binder visible
first_two_enough_in_empty_scope binder visible first none empty = record {
  same = λ name. ap (λ l. take 2 (columns_in (schema_of binder) name l)) (empty ∙ sym (ap (in_scope (from_of binder)) none ∙ none_in_scope (from_of binder) first));
}

shown_more : (binder : Binder) (old new : Visible) (d : Source) (name : List ℕ) → FirstTwoAreEnough binder old → old.scope.first ≤ old.scope.end → old.scope.end < length (from_of binder)
    → new.scope ≡ record { first = old.scope.first; end = old.scope.end + 1 }
    → take 2 (columns_in (schema_of binder) name old.first_two ++ columns_in (schema_of binder) name (record { number = old.scope.end; table = (get_or (from_of binder) old.scope.end d).table } ∷ []))
    ≡ take 2 (columns_in (schema_of binder) name (in_scope (from_of binder) new.scope))
shown_more binder old new d name first_two_enough begins ends next =
    let entry : Entry = record { number = old.scope.end; table = (get_or (from_of binder) old.scope.end d).table } in
    let held : List Entry = in_scope (from_of binder) old.scope in
    let more : in_scope (from_of binder) new.scope ≡ held ++ entry ∷ [] = ap (in_scope (from_of binder)) next ∙ one_more_in_scope (from_of binder) old.scope.first old.scope.end d begins ends in
    two_push (columns_in (schema_of binder) name old.first_two) (columns_in (schema_of binder) name held) (columns_in (schema_of binder) name (entry ∷ [])) (first_two_enough.same name)
    ∙ ap (take 2) (sym (filter_map-append (column_in (schema_of binder) name) held (entry ∷ [])) ∙ ap (columns_in (schema_of binder) name) (sym more))

pub first_two_enough_with_one_more : (binder : Binder) (old new : Visible) (d : Source) → FirstTwoAreEnough binder old → old.scope.first ≤ old.scope.end → old.scope.end < length (from_of binder)
    → new.scope ≡ record { first = old.scope.first; end = old.scope.end + 1 }
    → new.first_two ≡ old.first_two ++ record { number = old.scope.end; table = (get_or (from_of binder) old.scope.end d).table } ∷ [] → FirstTwoAreEnough binder new
first_two_enough_with_one_more binder old new d first_two_enough begins ends next pushed = record {
  same = λ name.
      let entry : Entry = record { number = old.scope.end; table = (get_or (from_of binder) old.scope.end d).table } in
      ap (λ l. take 2 (columns_in (schema_of binder) name l)) pushed
      ∙ ap (take 2) (filter_map-append (column_in (schema_of binder) name) old.first_two (entry ∷ []))
      ∙ shown_more binder old new d name first_two_enough begins ends next;
}

pub first_two_enough_without_third : (binder : Binder) (old new : Visible) (d : Source) → FirstTwoAreEnough binder old → old.scope.first ≤ old.scope.end → old.scope.end < length (from_of binder)
    → new.scope ≡ record { first = old.scope.first; end = old.scope.end + 1 }
    → 2 ≤ count_by (λ e. e.table == (get_or (from_of binder) old.scope.end d).table) old.first_two
    → new.first_two ≡ old.first_two → FirstTwoAreEnough binder new
first_two_enough_without_third binder old new d first_two_enough begins ends next two kept = record {
  same = λ name.
      let entry : Entry = record { number = old.scope.end; table = (get_or (from_of binder) old.scope.end d).table } in
      ap (λ l. take 2 (columns_in (schema_of binder) name l)) kept
      ∙ third_shows_nothing (schema_of binder) name entry old.first_two two
      ∙ shown_more binder old new d name first_two_enough begins ends next;
}

abbrev next_of : Visible → Visible → Visible
next_of old v = record { scope = record { first = v.scope.first; end = old.scope.end + 1 }; first_two = v.first_two }

pub first_two_enough_after_push : (binder : Binder) (old : Visible) (d : Source) {items : List Source} {v : Visible} {first_two : List Entry} → items ≡ from_of binder
    → FirstTwoAreEnough binder old → old.scope.first ≤ old.scope.end → old.scope.end < length (from_of binder)
    → v ≡ record { scope = old.scope; first_two = first_two }
    → first_two ≡ old.first_two ++ record { number = old.scope.end; table = (get_or items old.scope.end d).table } ∷ [] → FirstTwoAreEnough binder (next_of old v)
first_two_enough_after_push binder old d {items} {v} {first_two} all first_two_enough begins ends is pushed =
    first_two_enough_with_one_more binder old (next_of old v) d first_two_enough begins ends
    (ap (λ (w : Visible). record { first = w.scope.first; end = old.scope.end + 1 }) is)
    (ap (λ w. w.first_two) is ∙ pushed ∙ ap (λ l. old.first_two ++ record { number = old.scope.end; table = (get_or l old.scope.end d).table } ∷ []) all)

pub first_two_enough_if_kept : (binder : Binder) (old : Visible) (d : Source) {items : List Source} {v : Visible} {first_two : List Entry} (count : ℕ) → items ≡ from_of binder
    → FirstTwoAreEnough binder old → old.scope.first ≤ old.scope.end → old.scope.end < length (from_of binder)
    → v ≡ record { scope = old.scope; first_two = old.first_two }
    → 2 ≤ count → first_two ≡ old.first_two → count ≡ count_by (λ e. e.table == (get_or items old.scope.end d).table) first_two → FirstTwoAreEnough binder (next_of old v)
first_two_enough_if_kept binder old d {items} {v} {first_two} count all first_two_enough begins ends is two same counted =
    first_two_enough_without_third binder old (next_of old v) d first_two_enough begins ends
    (ap (λ (w : Visible). record { first = w.scope.first; end = old.scope.end + 1 }) is)
    (subst (λ n. 2 ≤ n) (counted ∙ ap (count_by (λ e. e.table == (get_or items old.scope.end d).table)) same ∙ ap (λ l. count_by (λ e. e.table == (get_or l old.scope.end d).table) old.first_two) all) two)
    (ap (λ w. w.first_two) is)
