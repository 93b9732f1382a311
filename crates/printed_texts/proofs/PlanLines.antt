-- The lines of the plan text are written one after another. After line i the lines from i + 1 on are still to be written.
use Rattle.std.proofs.Common.{◌≡◌, ℕ, ◌+◌, ◌<◌, suc, List, ◌∷◌, ◌++◌, drop, length, get_or, ap, sym, refl, ◌∙◌, append_assoc, add-one}
use Rattle.std.specs.Prelude.{slice_get}
use Rattle.std.proofs.Math.Seq.{drop-cons}
use Rattle.query_types.specs.declared.types.Source.{Source}
use Rattle.plans.specs.declared.bushy.Join.{Join}
use Rattle.printed_texts.specs.Plans.{alias_of, level_line, level_lines, scan_line, scan_lines}
use Rattle.printed_texts.specs.TreePlans.{node_line, node_lines}

pub rest_at : {X : Type 0} (xs : List X) (i : ℕ) (x d : X) → i < length xs → x ≡ get_or xs i d → drop i xs ≡ x ∷ drop (i + 1) xs
rest_at xs i x d lt at' = drop-cons xs i d lt ∙ ap (λ y. y ∷ drop (suc i) xs) (sym at') ∙ ap (λ j. x ∷ drop j xs) (sym (add-one i))

pub next_scan : (sources : List Source) (bounds : List ℕ) (i : ℕ) (source : Source) (bound : ℕ) → i < length sources → i < length bounds → source ≡ get_or sources i source
    → bound ≡ get_or bounds i 0 → scan_lines (drop i sources) (drop i bounds) ≡ scan_line source.alias bound ++ scan_lines (drop (i + 1) sources) (drop (i + 1) bounds)
next_scan sources bounds i source bound some more is at' =
    ap (λ (left : List Source). scan_lines left (drop i bounds)) (rest_at sources i source source some is)
    ∙ ap (λ (left : List ℕ). scan_lines (source ∷ drop (i + 1) sources) left) (rest_at bounds i bound 0 more at')

pub next_level : (k : ℕ) (sources : List Source) (order bounds : List ℕ) (i entry bound : ℕ) → i < length order → i < length bounds → entry ≡ get_or order i 0
    → bound ≡ get_or bounds i 0 → level_lines k sources (drop i order) (drop i bounds)
    ≡ level_line k (alias_of (slice_get sources entry)) bound ++ level_lines (k + 1) sources (drop (i + 1) order) (drop (i + 1) bounds)
next_level k sources order bounds i entry bound some more is at' =
    ap (λ (left : List ℕ). level_lines k sources left (drop i bounds)) (rest_at order i entry 0 some is)
    ∙ ap (λ (left : List ℕ). level_lines k sources (entry ∷ drop (i + 1) order) left) (rest_at bounds i bound 0 more at')

pub next_node : (k : ℕ) (joins : List Join) (i : ℕ) (otherwise : Join) → i < length joins
    → node_lines k (drop i joins) ≡ node_line k (get_or joins i otherwise) ++ node_lines (k + 1) (drop (i + 1) joins)
next_node k joins i otherwise some = ap (node_lines k) (rest_at joins i (get_or joins i otherwise) otherwise some refl)

pub one_more_done : (done left line rest all : List ℕ) → done ++ left ≡ all → left ≡ line ++ rest → (done ++ line) ++ rest ≡ all
one_more_done done left line rest all e next = append_assoc done line rest ∙ ap (λ x. done ++ x) (sym next) ∙ e
