-- Loops along the rows of two columns, and loops that change the items of a list in place.
use Rattle.std.proofs.Common.{◌≡◌, ℕ, zero, suc, ◌+◌, ◌<◌, ◌≤◌, Bool, true, false, List, [], ◌∷◌, ◌++◌, drop, length, length-take, map, get_or, set, take, Some, slice_get, refl, ap, sym, ◌∙◌, subst, arith}
use Rattle.std.specs.List.{All, filter, zip}
use Rattle.std.proofs.lemmas.List.{append-nil, length-map, map-append, map_push, set-set, take_all, take_more}
use Rattle.std.proofs.lemmas.List.Sums.{count_by-le-length}
use Rattle.std.proofs.lemmas.Slice.Zip.{length-zip}
use Rattle.std.proofs.lemmas.List.Edits.{map_over_more}
use Rattle.std.proofs.lemmas.List.Elements.{filter-append}
use Rattle.std.proofs.lemmas.Option.{get_or_from_slice_get}
use Rattle.cond_stats.specs.Rows.{filter_values, joined_keys, keys_where}
use Rattle.cond_stats.proofs.Members.{length-keys_where}
use Rattle.degree_sequences.specs.ByRank.{rank_sum}
use Rattle.appended_stats.specs.Grown.{rank_sums}

-- ---- two columns with one more row

pub zip_push : {X Y : Type 0} (xs : List X) (ys : List Y) (x : X) (y : Y) → length xs ≡ length ys → zip (xs ++ x ∷ []) (ys ++ y ∷ []) ≡ zip xs ys ++ (x, y) ∷ []
zip_push [] [] x y same = refl
zip_push [] (b ∷ ys) x y same = absurd (omega (arith, same))
zip_push (a ∷ xs) [] x y same = absurd (omega (arith, same))
zip_push (a ∷ xs) (b ∷ ys) x y same = ap (λ s. (a, b) ∷ s) (zip_push xs ys x y (omega (arith, same)))

pub one_row_more : (column joined : List ℕ) (i : ℕ) → i < length column → length joined ≡ length column
    → zip (take (i + 1) column) (take (i + 1) joined) ≡ zip (take i column) (take i joined) ++ (get_or column i 0, get_or joined i 0) ∷ []
one_row_more column joined i low same =
    ap (λ (s : List ℕ). zip s (take (i + 1) joined)) (take_more column i 0 low)
    ∙ ap (λ (s : List ℕ). zip (take i column ++ get_or column i 0 ∷ []) s) (take_more joined i 0 (omega (arith, low, same)))
    ∙ zip_push (take i column) (take i joined) (get_or column i 0) (get_or joined i 0) (omega (arith, length-take i column, length-take i joined, same))

pub keys_where-append : (p : ℕ → Bool) (rows others : List (ℕ × ℕ)) → keys_where p (rows ++ others) ≡ keys_where p rows ++ keys_where p others
keys_where-append p rows others =
    ap joined_keys (filter-append (λ (row : ℕ × ℕ). p row.0) rows others)
    ∙ map-append (λ (row : ℕ × ℕ). row.1) (filter (λ (row : ℕ × ℕ). p row.0) rows) (filter (λ (row : ℕ × ℕ). p row.0) others)

pub one_key_more : (p : ℕ → Bool) (column joined before new : List ℕ) (i key : ℕ) → i < length column → length joined ≡ length column
    → before ≡ keys_where p (zip (take i column) (take i joined)) → p (get_or column i 0) ≡ true → key ≡ get_or joined i 0 → new ≡ before ++ key ∷ []
    → new ≡ keys_where p (zip (take (i + 1) column) (take (i + 1) joined))
one_key_more p column joined before new i key low same are passes is pushed =
    let one : keys_where p ((get_or column i 0, get_or joined i 0) ∷ []) ≡ get_or joined i 0 ∷ [] = rw passes refl in
    pushed ∙ ap (λ (s : List ℕ). s ++ key ∷ []) are
    ∙ ap (λ (k : ℕ). keys_where p (zip (take i column) (take i joined)) ++ k ∷ []) is
    ∙ ap (λ (s : List ℕ). keys_where p (zip (take i column) (take i joined)) ++ s) (sym one)
    ∙ sym (keys_where-append p (zip (take i column) (take i joined)) ((get_or column i 0, get_or joined i 0) ∷ []))
    ∙ ap (keys_where p) (sym (one_row_more column joined i low same))

pub no_key_more : (p : ℕ → Bool) (column joined before new : List ℕ) (i : ℕ) → i < length column → length joined ≡ length column
    → before ≡ keys_where p (zip (take i column) (take i joined)) → p (get_or column i 0) ≡ false → new ≡ before
    → new ≡ keys_where p (zip (take (i + 1) column) (take (i + 1) joined))
no_key_more p column joined before new i low same are fails is =
    let none : keys_where p ((get_or column i 0, get_or joined i 0) ∷ []) ≡ [] = rw fails refl in
    is ∙ are ∙ sym (append-nil (keys_where p (zip (take i column) (take i joined))))
    ∙ ap (λ (s : List ℕ). keys_where p (zip (take i column) (take i joined)) ++ s) (sym none)
    ∙ sym (keys_where-append p (zip (take i column) (take i joined)) ((get_or column i 0, get_or joined i 0) ∷ []))
    ∙ ap (keys_where p) (sym (one_row_more column joined i low same))

pub all_keys : (p : ℕ → Bool) (column joined keys : List ℕ) (i : ℕ) → length column ≤ i → length joined ≡ length column
    → keys ≡ keys_where p (zip (take i column) (take i joined)) → keys ≡ keys_where p (zip column joined)
all_keys p column joined keys i past same are =
    are ∙ ap (λ (s : List ℕ). keys_where p (zip s (take i joined))) (take_all i column past)
    ∙ ap (λ (s : List ℕ). keys_where p (zip column s)) (take_all i joined (omega (arith, past, same)))

pub fewer_keys_than : (p : ℕ → Bool) (column joined keys : List ℕ) (n : ℕ) → length column < n → keys ≡ keys_where p (zip column joined) → length keys < n
fewer_keys_than p column joined keys n within_limit are =
    omega (
      arith,
      ap (λ (s : List ℕ). length s) are,
      length-keys_where p (zip column joined),
      count_by-le-length p (filter_values (zip column joined)),
      length-map (zip column joined) (λ (row : ℕ × ℕ). row.0),
      length-zip column joined,
      within_limit,
    )

-- ---- two lists of lists, whose items are added index by index

pub one_sum_more : (lists others before new : List (List ℕ)) (i : ℕ) (list other added : List ℕ) → i < length lists → length others ≡ length lists
    → before ≡ rank_sums (take i lists) (take i others) → list ≡ get_or lists i list → other ≡ get_or others i other → added ≡ rank_sum list other → new ≡ before ++ added ∷ []
    → new ≡ rank_sums (take (i + 1) lists) (take (i + 1) others)
one_sum_more lists others before new i list other added low same are its also is pushed =
    let h : List ℕ × List ℕ → List ℕ = λ both. rank_sum both.0 both.1 in
    let left : take (i + 1) lists ≡ take i lists ++ list ∷ [] = take_more lists i list low ∙ ap (λ (s : List ℕ). take i lists ++ s ∷ []) (sym its) in
    let right : take (i + 1) others ≡ take i others ++ other ∷ [] = take_more others i other (omega (arith, low, same)) ∙ ap (λ (s : List ℕ). take i others ++ s ∷ []) (sym also) in
    let both : zip (take (i + 1) lists) (take (i + 1) others) ≡ zip (take i lists) (take i others) ++ (list, other) ∷ [] =
    ap (λ (s : List (List ℕ)). zip s (take (i + 1) others)) left ∙ ap (λ (s : List (List ℕ)). zip (take i lists ++ list ∷ []) s) right
    ∙ zip_push (take i lists) (take i others) list other (omega (arith, length-take i lists, length-take i others, same)) in
    pushed ∙ ap (λ (s : List (List ℕ)). s ++ added ∷ []) are ∙ ap (λ (s : List ℕ). rank_sums (take i lists) (take i others) ++ s ∷ []) is
    ∙ sym (map_push h (zip (take i lists) (take i others)) (list, other)) ∙ ap (map h) (sym both)

-- ---- lists whose items are changed in place

pub at_place : {X : Type 0} (f : X → X) (xs : List X) (i : ℕ) (x d : X) → i < length xs → slice_get (map f (take i xs) ++ drop i xs) i ≡ Some x → x ≡ get_or xs i d
at_place f [] i x d low at = absurd (omega (arith, low))
at_place f (y ∷ xs) zero x d low at = sym (get_or_from_slice_get (y ∷ xs) 0 x d at)
at_place f (y ∷ xs) (suc i) x d low at = at_place f xs i x d (omega (arith, low)) at

-- the item is taken out of the list, with `none` in its place. Then the result of `f` for the item is put back
pub one_changed : {X : Type 0} (f : X → X) (xs ys between new : List X) (i : ℕ) (x none made : X) → i < length xs → ys ≡ map f (take i xs) ++ drop i xs
    → slice_get ys i ≡ Some x → between ≡ set ys i none → made ≡ f x → new ≡ set between i made → new ≡ map f (take (i + 1) xs) ++ drop (i + 1) xs
one_changed f xs ys between new i x none made low are at taken is back =
    back ∙ ap (λ s. set s i made) taken ∙ set-set ys i none made ∙ ap (set ys i) is
    ∙ map_over_more f xs ys i x low are (sym (get_or_from_slice_get ys i x x at))

pub one_kept : {X : Type 0} (f : X → X) (xs ys new : List X) (i : ℕ) (x : X) → i < length xs → ys ≡ map f (take i xs) ++ drop i xs → slice_get ys i ≡ Some x → f x ≡ x → new ≡ ys
    → new ≡ map f (take (i + 1) xs) ++ drop (i + 1) xs
one_kept f xs ys new i x low are at stays is =
    is ∙ sym (set_itself ys i x at) ∙ ap (set ys i) (sym stays) ∙ map_over_more f xs ys i x low are (sym (get_or_from_slice_get ys i x x at))
  where
    set_itself : {X : Type 0} (l : List X) (i : ℕ) (x : X) → slice_get l i ≡ Some x → set l i x ≡ l
    set_itself [] i x at = refl
    set_itself (y ∷ l) zero x at = ap (λ z. z ∷ l) (sym (get_or_from_slice_get (y ∷ l) 0 x x at))
    set_itself (y ∷ l) (suc i) x at = ap (λ s. y ∷ s) (set_itself l i x at)

pub all_changed : {X : Type 0} (f : X → X) (xs ys : List X) (i : ℕ) → length xs ≤ i → ys ≡ map f (take i xs) ++ drop i xs → ys ≡ map f xs
all_changed f xs ys i past are = are ∙ rest f xs i past
  where
    rest : {X : Type 0} (f : X → X) (xs : List X) (i : ℕ) → length xs ≤ i → map f (take i xs) ++ drop i xs ≡ map f xs
    rest f [] zero past = refl
    rest f [] (suc i) past = refl
    rest f (x ∷ xs) zero past = absurd (omega (arith, past))
    rest f (x ∷ xs) (suc i) past = ap (λ s. f x ∷ s) (rest f xs i (omega (arith, past)))

pub length-changed : {X : Type 0} (f : X → X) (xs ys : List X) (i : ℕ) → ys ≡ map f (take i xs) ++ drop i xs → length ys ≡ length xs
length-changed f xs ys i are = ap (λ s. length s) are ∙ many f xs i
  where
    many : {X : Type 0} (f : X → X) (xs : List X) (i : ℕ) → length (map f (take i xs) ++ drop i xs) ≡ length xs
    many f [] zero = refl
    many f [] (suc i) = refl
    many f (x ∷ xs) zero = refl
    many f (x ∷ xs) (suc i) = ap suc (many f xs i)

some_same : {X : Type 0} (a b : X) → Some a ≡ Some b → a ≡ b
some_same a b same = cc same

pub read_twice : {X : Type 0} (xs : List X) (i : ℕ) (a b : X) → slice_get xs i ≡ Some a → slice_get xs i ≡ Some b → a ≡ b
read_twice xs i a b one two = some_same a b (sym one ∙ two)

pub read_all : {X : Type 0} (P : X → Type 0) (f : X → X) (xs ys : List X) (i : ℕ) (x : X) → All P xs → i < length xs → ys ≡ map f (take i xs) ++ drop i xs → slice_get ys i ≡ Some x → P x
read_all P f xs ys i x all low are at =
    let there : slice_get (map f (take i xs) ++ drop i xs) i ≡ Some x = ap (λ s. slice_get s i) (sym are) ∙ at in
    subst P (sym (at_place f xs i x x low there)) (all i x low)
