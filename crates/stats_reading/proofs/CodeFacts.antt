-- What the code's tests of values, lists and words mean.
use Rattle.std.proofs.Common.{◌≡◌, ◌↔◌, ℕ, suc, ◌<◌, arith, true, Bool, List, [], ◌∷◌, ◌++◌, length, get_or, refl, ap, sym, subst, ◌∙◌, Some, IsTrue}
use Rattle.std.specs.Prelude.{slice_get, codes, Result}
use Rattle.std.specs.declared.cmp.Ordering.{Ordering}
use Rattle.std.specs.declared.cmp.Ordering.TheVariants.{Less, Equal, Greater}
use Rattle.std.specs.Cmp.{IsTotalOrder}
use Rattle.std.specs.Cmp.Lexicographic.{slice_cmp}
use Rattle.std.specs.Ordering.{int_cmp, nat_cmp, ordering_reverse}
use Rattle.std.proofs.lemmas.Cmp.{int_cmp_total, nat_list_cmp_total}
use Rattle.std.proofs.lemmas.Map.Lookups.{exact_bytes, exact_signed}
use Rattle.piece_math.specs.declared.pieces.Piece.{Piece}
use Rattle.piece_math.specs.Expanded.{expanded, ArePieces}
use Rattle.stats_file.specs.declared.types.Datum.{Datum}
use Rattle.stats_file.specs.declared.types.Datum.TheVariants as datum
use Rattle.stats_file.specs.declared.types.PairStats.{PairStats}
use Rattle.stats_file.specs.Rules.{datum_cmp}
use Rattle.stats_file.specs.Runs.{runs_of}
use Rattle.stats_file.proofs.RunFacts.{runs_found}
use Rattle.stats_words.specs.Splits.{IsSplitAt, HasNoByte}
use Rattle.stats_words.proofs.SplitFacts.{not_without, split_same}
use Rattle.stats_reading.specs.declared.draft.Draft.{Draft}
use Rattle.stats_reading.specs.declared.fault.Fault.{Fault}
use Rattle.stats_reading.specs.declared.line.LineKind.{LineKind}
use Rattle.stats_reading.specs.declared.line.LineKind.TheVariants as kind
use Rattle.stats_reading.specs.declared.stages.Stage.{Stage}
use Rattle.stats_reading.specs.declared.stages.Stage.TheVariants as stage
use Rattle.stats_reading.specs.Drafts.{table_ended}
use Rattle.stats_reading.specs.Kinds.{has_two, words_text, AreLineParts, SplitsInto}
use Rattle.stats_reading.specs.Steps.{Ends, PairEnds, TableEnds}
use Rattle.stats_reading.proofs.AppendedLists.{both_some_same}
use Rattle.stats_reading.proofs.WordFacts.{hex_word_without_blank, value_without_blank}

equal_itself : {K : Type 0} (R : K → K → Ordering) → IsTotalOrder R → (a : K) → R a a ≡ Equal
equal_itself R total a = at (R a a) refl
  where
    at : (o : Ordering) → R a a ≡ o → R a a ≡ Equal
    at Less e = let z : Less ≡ Greater = sym e ∙ total.antisymm a a ∙ ap ordering_reverse e in absurd (cc)
    at Equal e = e
    at Greater e = let z : Greater ≡ Less = sym e ∙ total.antisymm a a ∙ ap ordering_reverse e in absurd (cc)

pub equal_order_is_equality : (a b : Datum) → (datum_cmp a b ≡ Equal) ↔ (a ≡ b)
equal_order_is_equality (datum.Int a) (datum.Int b) =
    (λ e. ap datum.Int (exact_signed a b e), λ e. let same : a ≡ b = cc in ap (λ x. int_cmp a x) (sym same) ∙ equal_itself int_cmp int_cmp_total a)
equal_order_is_equality (datum.Int a) (datum.Text b) = (λ e. absurd (cc), λ e. absurd (cc))
equal_order_is_equality (datum.Text a) (datum.Int b) = (λ e. absurd (cc), λ e. absurd (cc))
equal_order_is_equality (datum.Text a) (datum.Text b) =
    (λ e. ap datum.Text (exact_bytes a b e), λ e. let same : a ≡ b = cc in ap (λ x. slice_cmp nat_cmp a x) (sym same) ∙ equal_itself (slice_cmp nat_cmp) nat_list_cmp_total a)

pub same_pieces_same_list : (a b : List ℕ) (p q : List Piece) → a ≡ expanded p → b ≡ expanded q → ArePieces p → ArePieces q → (p ≡ q) ↔ (a ≡ b)
same_pieces_same_list a b p q is_a is_b are_p are_q =
    (λ e. is_a ∙ ap expanded e ∙ sym is_b, λ e. sym (runs_found a p are_p is_a) ∙ ap runs_of e ∙ runs_found b q are_q is_b)

pub for_pair_at : (pairs : List PairStats) (place : ℕ) (q : PairStats) (P : PairStats → Type 0) (b : Bool) → slice_get pairs place ≡ Some q → (IsTrue b ↔ P q)
    → IsTrue b ↔ ((o : PairStats) → slice_get pairs place ≡ Some o → P o)
for_pair_at pairs place q P b is h =
    (λ t o at. subst P (both_some_same q o (slice_get pairs place) is at) (h.0 t), λ all. h.1 (all q is))

pub no_blank : (k : LineKind) (words : List ℕ) → has_two k ≡ true → HasNoByte 32 words → (first second : List ℕ) → AreLineParts k first second → words ≡ words_text k first second → ⊥
no_blank kind.Table words two none first second are e = not_without 32 first second (subst (λ (w : List ℕ). HasNoByte 32 w) e none)
no_blank kind.Pair words two none first second are e = not_without 32 first second (subst (λ (w : List ℕ). HasNoByte 32 w) e none)
no_blank kind.Frequent words two none first second are e = not_without 32 first second (subst (λ (w : List ℕ). HasNoByte 32 w) e none)
no_blank _ words two none first second are e = absurd (cc)

pub parts_at_split : (k : LineKind) (words f s : List ℕ) → has_two k ≡ true → IsSplitAt 32 words f s → (first second : List ℕ) → AreLineParts k first second
    → words ≡ words_text k first second → AreLineParts k f s
parts_at_split kind.Table words f s two split first second are e =
    let same = split_same 32 f first s second split.first (hex_word_without_blank first are.0) (sym split.whole ∙ e) in
    subst (λ (x : List ℕ). AreLineParts kind.Table x s) (sym same.0) (subst (λ (x : List ℕ). AreLineParts kind.Table first x) (sym same.1) are)
parts_at_split kind.Pair words f s two split first second are e =
    let same = split_same 32 f first s second split.first (hex_word_without_blank first are.0) (sym split.whole ∙ e) in
    subst (λ (x : List ℕ). AreLineParts kind.Pair x s) (sym same.0) (subst (λ (x : List ℕ). AreLineParts kind.Pair first x) (sym same.1) are)
parts_at_split kind.Frequent words f s two split first second are e =
    let same = split_same 32 f first s second split.first (value_without_blank first are.0) (sym split.whole ∙ e) in
    subst (λ (x : List ℕ). AreLineParts kind.Frequent x s) (sym same.0) (subst (λ (x : List ℕ). AreLineParts kind.Frequent first x) (sym same.1) are)
parts_at_split _ words f s two split first second are e = absurd (cc)

pub splits_in_two : (k : LineKind) (words f s : List ℕ) → has_two k ≡ true → IsSplitAt 32 words f s → SplitsInto k words f s
splits_in_two k words f s two split = record {
  whole = split.whole ∙ sym (two_text k f s two);
  empty_second = λ one. absurd (cc);
  only = parts_at_split k words f s two split;
}
  where
    two_text : (k : LineKind) (f s : List ℕ) → has_two k ≡ true → words_text k f s ≡ f ++ (codes " " ++ s)
    two_text k f s two = rw two refl

pub open_table_ends : (at : Stage) (s new : Draft) (r : Result (Unit {0}) Fault) → (at ≡ stage.Tables → ⊥)
    → Ends (λ t. (m : Draft) × PairEnds at s m × (t ≡ table_ended m)) new r → Ends (TableEnds at s) new r
open_table_ends stage.Start s new r other h = h
open_table_ends stage.Tables s new r other h = absurd (other refl)
open_table_ends stage.Pairs s new r other h = h
open_table_ends stage.Whole s new r other h = h
open_table_ends stage.Frequent s new r other h = h
open_table_ends stage.Cuts s new r other h = h
open_table_ends stage.Nodes s new r other h = h
open_table_ends stage.Done s new r other h = h

pub same_elements : {X : Type 0} (xs ys : List X) → length xs ≡ length ys → ((k : ℕ) (d : X) → k < length xs → get_or xs k d ≡ get_or ys k d) → xs ≡ ys
same_elements [] [] len each = refl
same_elements [] (y ∷ ys) len each = absurd (omega arith)
same_elements (x ∷ xs) [] len each = absurd (omega arith)
same_elements (x ∷ xs) (y ∷ ys) len each =
    let first : x ≡ y = each 0 x (omega arith) in
    let rest = same_elements xs ys (omega arith) (λ k d lt. each (suc k) d (omega arith)) in
    ap (λ z. z ∷ xs) first ∙ ap (λ zs. y ∷ zs) rest
