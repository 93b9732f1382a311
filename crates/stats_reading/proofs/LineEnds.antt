-- Each line of a file has one line end, at its end. So a text splits into lines in only one way.
use Rattle.std.proofs.Common.{◌≡◌, ℕ, suc, ◌^◌, ◌<◌, ◌≤◌, ◌==◌, Bool, true, false, if◌then◌else◌, List, [], ◌∷◌, ◌++◌, length, get_or, map, refl, ap, sym, subst, ◌∙◌, arith, append_assoc}
use Rattle.std.specs.Prelude.{codes, decimal, sum}
use Rattle.std.specs.List.{concat, flat_map, AllByRecursion}
use Rattle.std.proofs.lemmas.Bool.{eq-eqb}
use Rattle.piece_math.specs.declared.pieces.Piece.{Piece}
use Rattle.schema_types.specs.declared.types.Kind.{Kind}
use Rattle.schema_types.specs.declared.types.Kind.TheVariants as kinds
use Rattle.schema_types.specs.declared.types.Schema.{Schema}
use Rattle.schema_types.specs.declared.types.Table.{Table}
use Rattle.stats_file.specs.declared.types.Datum.{Datum}
use Rattle.stats_file.specs.declared.types.Datum.TheVariants as datum
use Rattle.stats_file.specs.declared.types.PairStats.{PairStats}
use Rattle.stats_file.specs.declared.types.StatsFile.{StatsFile}
use Rattle.stats_file.specs.declared.types.TableStats.{TableStats}
use Rattle.stats_file.specs.FileText.{file_lines, name_at, histogram_node_line, pair_lines, section_lines, table_lines, value_line}
use Rattle.stats_file.specs.Lines.{cut_line, datum_text, end_line, hex_text, run_text, runs_text}
use Rattle.stats_file.specs.Rules.{IsList, IsOfKind, IsPair, IsSection, KeepsRules}
use Rattle.stats_file.specs.Runs.{runs_of}
use Rattle.stats_file.proofs.WordFacts.{numeral}
use Rattle.stats_words.specs.Runs.{list_text}
use Rattle.stats_words.specs.Splits.{HasNoByte}
use Rattle.stats_words.proofs.ListWordFacts.{numeral_without}
use Rattle.stats_words.proofs.RunTexts.{expanded_runs, runs_fall, runs_are_within, IsRunWithin, with_blank_before}
use Rattle.stats_words.proofs.SplitFacts.{both_without, front_without, split_same}
use Rattle.stats_file.proofs.GrammarFacts.{cuts_are_of, nodes_are_lists}
use Rattle.stats_reading.specs.Remaining.{rest_line}
use Rattle.stats_reading.proofs.WordFacts.{pairs_without, signed_without}

-- ---- words without line ends

abbrev has_end : List ℕ → Bool
has_end [] = false
has_end (c ∷ l) = if c == 10 then true else has_end l

without_line_end : (l : List ℕ) → has_end l ≡ false → HasNoByte 10 l
without_line_end [] none = λ k d lt. absurd (omega arith)
without_line_end (c ∷ l) none = at (c == 10) refl none (λ f. without_line_end l f)
  where
    at : (b : Bool) → (c == 10) ≡ b → (if b then true else has_end l) ≡ false → (has_end l ≡ false → HasNoByte 10 l) → HasNoByte 10 (c ∷ l)
    at true is f later = absurd (cc)
    at false is f later = front_without 10 c l (λ same. let is' = eq-eqb c 10 same in absurd (cc)) (later f)

number_without_line_end : (n : ℕ) → n < 2 ^ 64 → HasNoByte 10 (decimal n)
number_without_line_end n small = numeral_without 10 (omega arith) (decimal n) (numeral n small)

hex_without_line_end : (bytes : List ℕ) → HasNoByte 10 (hex_text bytes)
hex_without_line_end bytes = front_without 10 120 _ (λ e. omega (arith, e)) (pairs_without 10 (omega arith) bytes)

datum_without_line_end : (k : Kind) (v : Datum) → IsOfKind k v → HasNoByte 10 (datum_text v)
datum_without_line_end kinds.Int (datum.Int n) fits = signed_without 10 (omega arith) n fits
datum_without_line_end kinds.Int (datum.Text bytes) never = absurd never
datum_without_line_end (kinds.Text most) (datum.Int n) never = absurd never
datum_without_line_end (kinds.Text most) (datum.Text bytes) utf8 = hex_without_line_end bytes

run_without_line_end : (most : ℕ) (run : Piece) → most < 2 ^ 64 → IsRunWithin most run → HasNoByte 10 (run_text run)
run_without_line_end most run fits small =
    let value : run.value ≤ most = small.0 in
    let count : run.count ≤ most = small.1 in
    both_without 10 (decimal run.value) (codes "*" ++ decimal run.count) (number_without_line_end run.value (omega arith))
    (front_without 10 42 (decimal run.count) (λ e. omega (arith, e)) (number_without_line_end run.count (omega arith)))

other_runs_without_line_end : (most : ℕ) (runs : List Piece) → most < 2 ^ 64 → AllByRecursion (IsRunWithin most) runs → HasNoByte 10 (flat_map with_blank_before runs)
other_runs_without_line_end most [] fits small = λ k d lt. absurd (omega arith)
other_runs_without_line_end most (r ∷ rs) fits small =
    both_without 10 (with_blank_before r) (flat_map with_blank_before rs) (front_without 10 32 (run_text r) (λ e. omega (arith, e)) (run_without_line_end most r fits small.0)) (other_runs_without_line_end most rs fits small.1)

runs_without_line_end : (most : ℕ) (runs : List Piece) → most < 2 ^ 64 → AllByRecursion (IsRunWithin most) runs → HasNoByte 10 (runs_text runs)
runs_without_line_end most [] fits small = front_without 10 45 [] (λ e. omega (arith, e)) (λ k d lt. absurd (omega arith))
runs_without_line_end most (r ∷ rs) fits small = both_without 10 (run_text r) (flat_map with_blank_before rs) (run_without_line_end most r fits small.0) (other_runs_without_line_end most rs fits small.1)

list_without_line_end : (rows : ℕ) (list : List ℕ) → rows ≤ 4000000 → IsList rows list → HasNoByte 10 (list_text list)
list_without_line_end rows list within_limit is =
    runs_without_line_end rows (runs_of list) (omega arith)
    (runs_are_within rows (runs_of list) (runs_fall list is.descends is.positive) (subst (λ (x : List ℕ). sum x ≤ rows) (sym (expanded_runs list)) is.within))

-- ---- lines with line ends

pub record IsEnded (line : List ℕ) : Type 0 where
  pub text : List ℕ
  pub no_line_end : HasNoByte 10 text
  pub whole : line ≡ text ++ codes "\n"

one_ended : (front word : List ℕ) → HasNoByte 10 front → HasNoByte 10 word → IsEnded (front ++ (word ++ codes "\n"))
one_ended front word free_front no_line_end = record { text = front ++ word; no_line_end = both_without 10 front word free_front no_line_end; whole = sym (append_assoc front word (codes "\n")) }

two_ended : (front a b : List ℕ) → HasNoByte 10 front → HasNoByte 10 a → HasNoByte 10 b → IsEnded (front ++ (a ++ (codes " " ++ (b ++ codes "\n"))))
two_ended front a b free_front free_a free_b =
    let blank = front_without 10 32 b (λ e. omega (arith, e)) free_b in
    subst IsEnded (ap (λ (x : List ℕ). front ++ x) (append_assoc a (codes " " ++ b) (codes "\n")))
    (one_ended front (a ++ (codes " " ++ b)) free_front (both_without 10 a (codes " " ++ b) free_a blank))

abbrev AreEnded : List (List ℕ) → Type 0
AreEnded lines = AllByRecursion IsEnded lines

ended_append : (a b : List (List ℕ)) → AreEnded a → AreEnded b → AreEnded (a ++ b)
ended_append [] b are others = others
ended_append (x ∷ a) b are others = (are.0, ended_append a b are.1 others)

ended_map : {X : Type 0} (f : X → List ℕ) (xs : List X) → ((k : ℕ) (d : X) → k < length xs → IsEnded (f (get_or xs k d))) → AreEnded (map f xs)
ended_map f [] each = tt
ended_map f (x ∷ xs) each = (each 0 x (omega arith), ended_map f xs (λ k d lt. each (suc k) d (omega arith)))

ended_flat_map : {X : Type 0} (f : X → List (List ℕ)) (xs : List X) → ((k : ℕ) (d : X) → k < length xs → AreEnded (f (get_or xs k d))) → AreEnded (flat_map f xs)
ended_flat_map f [] each = tt
ended_flat_map f (x ∷ xs) each = ended_append (f x) (flat_map f xs) (each 0 x (omega arith)) (ended_flat_map f xs (λ k d lt. each (suc k) d (omega arith)))

pair_ended : (table : Table) (rows : ℕ) (p : PairStats) → rows ≤ 4000000 → IsPair table rows p → AreEnded (pair_lines table p)
unfolding pair_lines
pair_ended table rows p within_limit is = (
  two_ended (codes "pair ") (hex_text (name_at table p.filter)) (hex_text (name_at table p.joined)) (without_line_end (codes "pair ") refl) (hex_without_line_end (name_at table p.filter)) (hex_without_line_end (name_at table p.joined)),
  (
    one_ended (codes "whole ") (list_text p.whole) (without_line_end (codes "whole ") refl) (list_without_line_end rows p.whole within_limit is.whole),
    ended_append (map value_line p.frequent) (rest_line p.rest ∷ (map cut_line p.cuts ++ map histogram_node_line p.nodes))
        (ended_map value_line p.frequent (λ k d lt. two_ended (codes "frequent ") (datum_text (get_or p.frequent k d).0) (list_text (get_or p.frequent k d).1) (without_line_end (codes "frequent ") refl)
        (datum_without_line_end is.filter.kind (get_or p.frequent k d).0 (is.frequent.values k d lt)) (list_without_line_end rows (get_or p.frequent k d).1 within_limit (is.frequent.lists k d lt)))) (
          one_ended (codes "rest ") (list_text p.rest) (without_line_end (codes "rest ") refl) (list_without_line_end rows p.rest within_limit is.rest),
          ended_append (map cut_line p.cuts) (map histogram_node_line p.nodes)
              (ended_map cut_line p.cuts (λ k d lt. one_ended (codes "cut ") (datum_text (get_or p.cuts k d)) (without_line_end (codes "cut ") refl)
              (datum_without_line_end is.filter.kind (get_or p.cuts k d) (cuts_are_of is.filter.kind rows p.cuts p.nodes is.tree k d lt))))
              (ended_map histogram_node_line p.nodes (λ k d lt. one_ended (codes "node ") (list_text (get_or p.nodes k d)) (without_line_end (codes "node ") refl)
              (list_without_line_end rows (get_or p.nodes k d) within_limit (nodes_are_lists is.filter.kind rows p.cuts p.nodes is.tree k d lt)))),
        ),
  ),
)

section_ended : (schema : Schema) (section : TableStats) → IsSection schema section → AreEnded (section_lines schema section)
unfolding table_lines
section_ended schema section is =
    let within_limit : section.rows ≤ 4000000 = is.rows in
    subst (λ o. AreEnded (table_lines o section)) (sym is.table_is) (
      two_ended (codes "table ") (hex_text is.table.name) (decimal section.rows) (without_line_end (codes "table ") refl) (hex_without_line_end is.table.name) (number_without_line_end section.rows (omega arith)),
      ended_flat_map (pair_lines is.table) section.pairs (λ k d lt. pair_ended is.table section.rows (get_or section.pairs k d) within_limit (is.pairs k d lt)),
    )

pub lines_ended : (schema : Schema) (file : StatsFile) → KeepsRules schema file → AreEnded (file_lines schema file)
unfolding file_lines
lines_ended schema file keeps =
    let most : file.accuracy ≤ 64 = keeps.most in (
      one_ended (codes "safebound-stats 1 ") (decimal file.accuracy) (without_line_end (codes "safebound-stats 1 ") refl) (number_without_line_end file.accuracy (omega arith)),
      ended_append (flat_map (section_lines schema) file.tables) (end_line ∷ [])
          (ended_flat_map (section_lines schema) file.tables (λ k d lt. section_ended schema (get_or file.tables k d) (keeps.tables k d lt)))
          (record { text = codes "end"; no_line_end = without_line_end (codes "end") refl; whole = refl }, tt),
    )

-- ---- texts and lines

pub record IsFront (lines all : List (List ℕ)) (rest : List ℕ) : Type 0 where
  pub more : List (List ℕ)
  pub whole : all ≡ lines ++ more
  pub rest_is : rest ≡ concat more

not_empty_with_end : (text behind rest : List ℕ) → ((text ++ codes "\n") ++ behind) ++ rest ≡ [] → ⊥
not_empty_with_end [] behind rest e = absurd (cc)
not_empty_with_end (c ∷ text) behind rest e = absurd (cc)

pub not_empty : (line behind rest : List ℕ) → IsEnded line → (line ++ behind) ++ rest ≡ [] → ⊥
not_empty line behind rest is e = not_empty_with_end is.text behind rest (ap (λ (l : List ℕ). (l ++ behind) ++ rest) (sym is.whole) ∙ e)

pub front_of : (lines all : List (List ℕ)) (rest : List ℕ) → AreEnded lines → AreEnded all → concat lines ++ rest ≡ concat all → IsFront lines all rest
front_of [] all rest are all_are e = record { more = all; whole = refl; rest_is = e }
front_of (x ∷ lines) [] rest are all_are e = absurd (not_empty x (concat lines) rest are.0 e)
front_of (x ∷ lines) (y ∷ all) rest (is, are) (other, all_are) e =
    let left : (x ++ concat lines) ++ rest ≡ is.text ++ (10 ∷ (concat lines ++ rest)) =
    append_assoc x (concat lines) rest ∙ ap (λ (l : List ℕ). l ++ (concat lines ++ rest)) is.whole ∙ append_assoc is.text (codes "\n") (concat lines ++ rest) in
    let right : y ++ concat all ≡ other.text ++ (10 ∷ concat all) = ap (λ (l : List ℕ). l ++ concat all) other.whole ∙ append_assoc other.text (codes "\n") (concat all) in
    let same = split_same 10 is.text other.text (concat lines ++ rest) (concat all) is.no_line_end other.no_line_end (sym left ∙ e ∙ right) in
    let first : x ≡ y = is.whole ∙ ap (λ (t : List ℕ). t ++ codes "\n") same.0 ∙ sym other.whole in
    let f = front_of lines all rest are all_are same.1 in
    record { more = f.more; whole = ap (λ l. l ∷ all) (sym first) ∙ ap (λ ls. x ∷ ls) f.whole; rest_is = f.rest_is }
