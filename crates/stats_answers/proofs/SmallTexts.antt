-- The results for two small texts over a schema with one table, by computation.
use Rattle.std.proofs.Common.{◌≡◌, ◌⊎◌, inl, inr, ℕ, List, [], ◌∷◌, ◌++◌, Result, Ok, Err, refl, sym, arith}
use Rattle.std.specs.Prelude.{All, codes}
use Rattle.std.specs.Fmt.{digits}
use Rattle.std.specs.List.{flat_map}
use Rattle.std.proofs.lemmas.List.Elements.{All-cons, All-nil}
use Rattle.schema_types.specs.declared.types.Column.{Column}
use Rattle.schema_types.specs.declared.types.Kind.TheVariants as kind
use Rattle.schema_types.specs.declared.types.Table.{Table}
use Rattle.schema_types.specs.Validity.{IsReference, IsValid, IsValidTable}
use Rattle.stats_file.specs.declared.types.StatsError.{StatsError}
use Rattle.stats_file.specs.declared.types.StatsError.TheVariants as error
use Rattle.stats_file.specs.declared.types.StatsFile.{StatsFile}
use Rattle.stats_file.specs.Answers.{IsAllowedResult}
use Rattle.stats_file.specs.Bytes.{AreBytes}
use Rattle.stats_file.specs.Cases.{stats_without_rows, number_table, schema_of_e}
use Rattle.stats_file.specs.FileText.{file_lines, file_text, pair_lines, section_lines, table_lines}
use Rattle.stats_file.specs.Lines.{end_line, first_line}
use Rattle.stats_file.specs.Runs.{runs_of}
use Rattle.stats_file.proofs.CaseFacts.{stats_without_rows_keep_rules}
use Rattle.stats_reading.specs.Names.{HasByteColumns}
use Rattle.stats_answers.specs.StatsTexts.{stats_answer}
use Rattle.stats_answers.proofs.StatsAnswers.{no_other_result, written_file_is_read}

abbrev refused : StatsError → Result StatsFile StatsError
refused why = Err why

abbrev cut_text : List ℕ
cut_text = codes "safebound-stats 1 1\ntable x45 0\npair x58 x58\nwhole -\nrest -\n"

abbrev lines : List (List ℕ)
lines = codes "safebound-stats 1 1\n" ∷ codes "table x45 0\n" ∷ codes "pair x58 x58\n" ∷ codes "whole -\n" ∷ codes "rest -\n" ∷ []

all_of_one : {X : Type 0} (P : X → Type 0) (x : X) → P x → All P (x ∷ [])
all_of_one P x h = All-cons P x [] h (All-nil P)

is_valid : IsValid schema_of_e
is_valid = record {
  some = omega arith;
  few = omega arith;
  tables = all_of_one IsValidTable (number_table (codes "E")) (record {
    some = omega arith;
    few = omega arith;
    plain = refl;
    names = λ i j d less lt. absurd (omega arith);
    keys = λ k d lt. absurd (omega arith);
  });
  names = λ i j d less lt. absurd (omega arith);
  references = all_of_one (λ (table : Table). All (IsReference schema_of_e.tables table) table.references) (number_table (codes "E")) (λ k d lt. absurd (omega arith));
}

byte_columns : HasByteColumns schema_of_e
byte_columns =
    all_of_one (λ (table : Table). All (λ (column : Column). AreBytes column.name) table.columns) (number_table (codes "E"))
    (all_of_one (λ (column : Column). AreBytes column.name) (record { name = codes "X"; kind = kind.Int }) (omega arith, tt))

lines_are : file_lines schema_of_e stats_without_rows ≡ lines ++ (codes "end\n" ∷ [])
unfolding file_lines table_lines pair_lines runs_of digits
lines_are = refl

text_is : file_text schema_of_e stats_without_rows ≡ codes "safebound-stats 1 1\ntable x45 0\npair x58 x58\nwhole -\nrest -\nend\n"
unfolding file_lines table_lines pair_lines runs_of digits
text_is = refl

pub complete_text : stats_answer schema_of_e (codes "safebound-stats 1 1\ntable x45 0\npair x58 x58\nwhole -\nrest -\nend\n") ≡ Ok stats_without_rows
complete_text = rw (sym text_is) (written_file_is_read schema_of_e stats_without_rows is_valid byte_columns stats_without_rows_keep_rules)

last_same : {X : Type 0} (xs ys : List X) (x y : X) → xs ++ (x ∷ []) ≡ ys ++ (y ∷ []) → x ≡ y
last_same [] [] x y e = cc
last_same [] (z ∷ []) x y e = absurd (cc)
last_same [] (z ∷ w ∷ ys) x y e = absurd (cc)
last_same (z ∷ []) [] x y e = absurd (cc)
last_same (z ∷ w ∷ xs) [] x y e = absurd (cc)
last_same (z ∷ xs) (w ∷ ys) x y e = let rest : xs ++ (x ∷ []) ≡ ys ++ (y ∷ []) = cc in last_same xs ys x y rest

no_file_has_the_cut_lines : (file : StatsFile) → lines ≡ file_lines schema_of_e file → ⊥
unfolding file_lines
no_file_has_the_cut_lines file e =
    let same : codes "rest -\n" ≡ end_line =
    last_same (codes "safebound-stats 1 1\n" ∷ codes "table x45 0\n" ∷ codes "pair x58 x58\n" ∷ codes "whole -\n" ∷ [])
    (first_line file.accuracy ∷ flat_map (section_lines schema_of_e) file.tables) (codes "rest -\n") end_line e in
    absurd (cc)

cut_text_is_refused : IsAllowedResult schema_of_e cut_text (Err (error.Syntax 6))
cut_text_is_refused = record {
  lines = lines;
  left = [];
  read = record { whole = refl; begins = record { file = stats_without_rows; keeps = stats_without_rows_keep_rules; more = codes "end\n" ∷ []; whole = sym lines_are } };
  here = refl;
  wrong = inr (record { no_line = λ k d lt. absurd (omega arith); fails = λ file keeps e none. no_file_has_the_cut_lines file e });
}

pub text_without_last_line : stats_answer schema_of_e cut_text ≡ Err (error.Syntax 6)
text_without_last_line = by (stats_answer schema_of_e cut_text) (no_other_result schema_of_e cut_text (Err (error.Syntax 6)) is_valid byte_columns cut_text_is_refused)
  where
    by : (answer : Result StatsFile StatsError) → (refused (error.Syntax 6) ≡ refused error.NoMemory) ⊎ (refused (error.Syntax 6) ≡ answer) → answer ≡ Err (error.Syntax 6)
    by answer (inl e) = absurd (cc)
    by answer (inr e) = sym e
