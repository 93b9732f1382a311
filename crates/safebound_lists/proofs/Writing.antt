-- The pieces of a list are written as runs into the room, which is the caller's buffer.
use Rattle.std.proofs.Common.{◌≡◌, ℕ, zero, suc, ◌+◌, ◌<◌, ◌≤◌, List, [], ◌∷◌, ◌++◌, map, length, take, drop, get_or, replicate, refl, ap, sym, ◌∙◌, subst, arith, length-append}
use Rattle.std.specs.List.{AllByRecursion}
use Rattle.std.proofs.Math.ListN.{set}
use Rattle.std.proofs.Math.Seq.{drop-cons, set-append_seam}
use Rattle.std.proofs.lemmas.List.{append_assoc, length-map, length-take, map_more, take_all}
use Rattle.std.specs.Prelude.{Result, Ok, Err, IfErr, OnOk}
use Rattle.piece_math.specs.declared.pieces.Piece.{Piece}
use Rattle.piece_math.specs.Expanded.{AreRuns, expanded}
use Rattle.safebound_lists.specs.declared.runs.Run.{Run}
use Rattle.safebound_lists.specs.Runs.{piece_of, no_run}
use Rattle.safebound_lists.specs.declared.refusal.Refusal.{Refusal}
use Rattle.safebound_lists.specs.declared.refusal.Refusal.TheVariants as refusal
use Rattle.safebound_lists.specs.Written.{RoomBeginsWith, IsWritten, IsRoomRefusal}

abbrev pub run_of : Piece → Run
run_of piece = record { degree = piece.value; keys = piece.count }

pub pieces_of_runs_of_pieces : (ps : List Piece) → map piece_of (map run_of ps) ≡ ps
pieces_of_runs_of_pieces [] = refl
pieces_of_runs_of_pieces (p ∷ ps) = ap (λ (qs : List Piece). p ∷ qs) (pieces_of_runs_of_pieces ps)

-- ---- if each element of a list has a property, the value of each piece has it

first_of_run : (P : ℕ → Type 0) (n x : ℕ) → 0 < n → (s : List ℕ) → AllByRecursion P (replicate n x ++ s) → P x
first_of_run P zero x some s all = absurd (omega arith)
first_of_run P (suc n) x some s all = all.0

after_run : (P : ℕ → Type 0) (n x : ℕ) (s : List ℕ) → AllByRecursion P (replicate n x ++ s) → AllByRecursion P s
after_run P zero x s all = all
after_run P (suc n) x s all = after_run P n x s all.1

pub value_fits : (P : ℕ → Type 0) (ps : List Piece) → AreRuns ps → AllByRecursion P (expanded ps) → (i : ℕ) (d : Piece) → i < length ps → P (get_or ps i d).value
value_fits P [] are all i d low = absurd (omega arith)
value_fits P (p ∷ ps) are all zero d low = first_of_run P p.count p.value are.1 (expanded ps) all
value_fits P (p ∷ ps) are all (suc i) d low = value_fits P ps are.2 (after_run P p.count p.value (expanded ps) all) i d (omega arith)

-- ---- one more run in the room

pub one_more_in : {A : Type 0} (front old : List A) (i : ℕ) (x d : A) → length front ≡ i → i < length old → set (front ++ drop i old) i x ≡ (front ++ x ∷ []) ++ drop (i + 1) old
one_more_in front old i x d same low =
    ap (λ (rest : List _). set (front ++ rest) i x) (drop-cons old i d low)
    ∙ ap (λ k. set (front ++ get_or old i d ∷ drop (suc i) old) k x) (sym same)
    ∙ set-append_seam front (get_or old i d) (drop (suc i) old) x
    ∙ ap (λ k. front ++ x ∷ drop k old) suc_is_plus_one
    ∙ sym (append_assoc front (x ∷ []) (drop (i + 1) old))
  where
    suc_is_plus_one : suc i ≡ i + 1
    suc_is_plus_one = omega arith

pub one_more_run : (ps : List Piece) (old : List Run) (i : ℕ) (d : Piece) (x : Run) → i < length ps → length ps ≤ length old → x ≡ run_of (get_or ps i d)
    → set (map run_of (take i ps) ++ drop i old) i x ≡ map run_of (take (i + 1) ps) ++ drop (i + 1) old
one_more_run ps old i d x low room is =
    one_more_in (map run_of (take i ps)) old i x no_run (length-map (take i ps) run_of ∙ length-take i ps ∙ omega arith) (omega arith)
    ∙ ap (λ (front : List Run). front ++ drop (i + 1) old)
    (ap (λ (y : Run). map run_of (take i ps) ++ y ∷ []) is ∙ sym (map_more run_of ps i d low))

-- ---- the room, when all runs are written

pub all_written : (list : List ℕ) (ps : List Piece) (old new : List Run) (count : ℕ) → list ≡ expanded ps → AreRuns ps → count ≡ length ps
    → new ≡ map run_of ps ++ drop count old → IsWritten list old new count
all_written list ps old new count is are counted filled = record {
  front = map run_of ps;
  stands_for = ap expanded (pieces_of_runs_of_pieces ps) ∙ sym is;
  descends = subst AreRuns (sym (pieces_of_runs_of_pieces ps)) are;
  filled = record { counted = length-map ps run_of ∙ sym counted; filled = filled };
}

-- ---- a refusal because the room is too small is one of the causes for which a call refuses

pub room_refusal_is_cause : (P : Refusal → Type 0) (needed room : ℕ) → ((n : ℕ) → n ≡ needed → room < needed → P (refusal.Room n)) → (r : Result ℕ Refusal) → IfErr r (IsRoomRefusal needed room) → IfErr r P
room_refusal_is_cause P needed room f (Ok x) h = tt
room_refusal_is_cause P needed room f (Err (refusal.Room n)) h = f n h.0 h.1
room_refusal_is_cause P needed room f (Err e) h = absurd h

pub on_ok_of_proof : {P : Type 0} (r : Result ℕ Refusal) → P → OnOk r P
on_ok_of_proof (Ok x) h = h
on_ok_of_proof (Err e) h = tt

-- ---- rooms that are filled element by element

pub room_before_writing : {A : Type 0} (old : List A) → RoomBeginsWith [] old old 0
room_before_writing old = record { counted = refl; filled = refl }

pub room_with_one_more : {A : Type 0} (front old new : List A) (i : ℕ) (x d : A) → RoomBeginsWith front old new i → i < length old → RoomBeginsWith (front ++ x ∷ []) old (set new i x) (i + 1)
room_with_one_more {A} front old new i x d so_far low = record {
  counted = omega (arith, length-append front (x ∷ []), so_far.counted);
  filled = ap (λ (s : List A). set s i x) so_far.filled ∙ one_more_in front old i x d so_far.counted low;
}

pub room_with_one_more_mapped : {A B : Type 0} (f : A → B) (xs : List A) (old new : List B) (i : ℕ) (x : B) (a : A) (b : B) → RoomBeginsWith (map f (take i xs)) old new i → i < length xs → i < length old
    → x ≡ f (get_or xs i a) → RoomBeginsWith (map f (take (i + 1) xs)) old (set new i x) (i + 1)
room_with_one_more_mapped {A} {B} f xs old new i x a b so_far low room is =
    subst (λ (s : List B). RoomBeginsWith s old (set new i x) (i + 1)) (ap (λ (y : B). map f (take i xs) ++ y ∷ []) is ∙ sym (map_more f xs i a low))
    (room_with_one_more (map f (take i xs)) old new i x b so_far room)

pub room_after_all_mapped : {A B : Type 0} (f : A → B) (xs : List A) (old new : List B) (i : ℕ) → RoomBeginsWith (map f (take i xs)) old new i → i ≡ length xs → RoomBeginsWith (map f xs) old new (length xs)
room_after_all_mapped {A} {B} f xs old new i so_far end =
    subst (λ (s : List B). RoomBeginsWith s old new (length xs)) (ap (map f) (take_all (length xs) xs (omega arith)))
    (subst (λ (k : ℕ). RoomBeginsWith (map f (take k xs)) old new k) end so_far)
