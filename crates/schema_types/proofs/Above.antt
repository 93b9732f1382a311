-- Table by table, the code looks for numbers above a limit. It finds those of the whole text, in the same order.
use Rattle.std.proofs.Common.{◌≡◌, ℕ, suc, ◌<◌, ◌≤◌, Bool, true, false, cond, inl, inr, get_or, take, drop, List, [], ◌∷◌, ◌++◌, length, map, refl, sym, ◌∙◌, ap, arith}
use Rattle.std.specs.Prelude.{nat_lt}
use Rattle.std.specs.List.{flat_map}
use Rattle.std.proofs.lemmas.Bool.{cases_lt}
use Rattle.std.proofs.Math.Seq.{drop-cons}
use Rattle.std.proofs.lemmas.List.{length-map, take-append-drop}
use Rattle.std.proofs.lemmas.List.Concat.{flat_map-append}
use Rattle.std.proofs.lemmas.List.Elements.{filter-append}
use Rattle.schema_grammar.specs.declared.tree.TableNode.{TableNode}
use Rattle.schema_types.specs.Declarations.{columns, column_names}
use Rattle.schema_types.specs.Index.{table_index}
use Rattle.schema_types.specs.Refusals.{numbers_above, column_counts, element_lengths, text_lengths}

kept_front : (b : Bool) (x : ℕ) (xs ys : List ℕ) → cond b (x ∷ (xs ++ ys)) (xs ++ ys) ≡ cond b (x ∷ xs) xs ++ ys
kept_front true x xs ys = refl
kept_front false x xs ys = refl

pub above-flat_map : {X : Type 0} (most : ℕ) (f : X → List ℕ) (xs : List X) → numbers_above most (flat_map f xs) ≡ flat_map (λ x. numbers_above most (f x)) xs
above-flat_map most f [] = refl
above-flat_map most f (x ∷ xs) = filter-append (nat_lt most) (f x) (flat_map f xs) ∙ ap (λ rest. numbers_above most (f x) ++ rest) (above-flat_map most f xs)

pub column_counts_above : (text : List ℕ) (most : ℕ) (tables : List TableNode) → flat_map (λ index. numbers_above most (length index.columns ∷ [])) (map (table_index text) tables) ≡ numbers_above most (column_counts tables)
unfolding table_index
column_counts_above text most [] = refl
column_counts_above text most (table ∷ tables) =
    let same : length (column_names text table.elements) ≡ length (columns table.elements) = simp length-map in
    rw (same, column_counts_above text most tables) (sym (kept_front (nat_lt most (length (columns table.elements))) (length (columns table.elements)) [] (numbers_above most (column_counts tables))))

pub text_lengths_above : (text : List ℕ) (most : ℕ) (tables : List TableNode) → flat_map (λ table. flat_map (λ element. numbers_above most (element_lengths text element)) table.elements) tables ≡ numbers_above most (text_lengths text tables)
unfolding text_lengths
text_lengths_above text most [] = refl
text_lengths_above text most (table ∷ tables) =
    ap (λ front. front ++ flat_map (λ (t : TableNode). flat_map (λ element. numbers_above most (element_lengths text element)) t.elements) tables) (sym (above-flat_map most (element_lengths text) table.elements))
    ∙ ap (λ rest. numbers_above most (flat_map (element_lengths text) table.elements) ++ rest) (text_lengths_above text most tables)
    ∙ sym (filter-append (nat_lt most) (flat_map (element_lengths text) table.elements) (flat_map (λ (t : TableNode). flat_map (element_lengths text) t.elements) tables))

pub not_above : (most n : ℕ) → numbers_above most (n ∷ []) ≡ [] → n ≤ most
not_above most n none = elim (cases_lt most n) [ inl more ↦ absurd (passed more none) | inr fits ↦ fits ]
  where
    passed : most < n → numbers_above most (n ∷ []) ≡ [] → ⊥
    passed more e = let test : nat_lt most n ≡ true = grind arith in (let kept : n ∷ [] ≡ [] = rw test at e in cc)

pub empty_left : (front rest : List ℕ) → front ++ rest ≡ [] → front ≡ []
empty_left [] rest e = refl
empty_left (x ∷ front) rest e = cc

pub empty_right : (front rest : List ℕ) → front ++ rest ≡ [] → rest ≡ []
empty_right [] rest e = e
empty_right (x ∷ front) rest e = cc

pub none_at : {X : Type 0} (f : X → List ℕ) (xs : List X) (i : ℕ) (x : X) → flat_map f xs ≡ [] → i < length xs → x ≡ get_or xs i x → f x ≡ []
none_at f xs i x none within here =
    let cut : xs ≡ take i xs ++ (x ∷ drop (suc i) xs) = sym (take-append-drop i xs) ∙ ap (λ tail. take i xs ++ tail) (drop-cons xs i x within ∙ ap (λ y. y ∷ drop (suc i) xs) (sym here)) in
    let parts : flat_map f xs ≡ flat_map f (take i xs) ++ (f x ++ flat_map f (drop (suc i) xs)) = ap (flat_map f) cut ∙ flat_map-append f (take i xs) (x ∷ drop (suc i) xs) in
    empty_left (f x) (flat_map f (drop (suc i) xs)) (empty_right (flat_map f (take i xs)) (f x ++ flat_map f (drop (suc i) xs)) (sym parts ∙ none))
