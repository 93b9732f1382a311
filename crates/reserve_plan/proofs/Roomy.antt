-- The reserved buffers are empty, and have the room and take the bytes that the specification says.
use Rattle.std.proofs.Common.{◌≡◌, ℕ, zero, suc, ◌+◌, ◌*◌, ◌<◌, ◌≤◌, max, List, [], ◌∷◌, length, map, sum, drop, get_or, refl, ap, sym, ◌∙◌, subst, arith}
use Rattle.std.specs.List.{AllZip}
use Rattle.std.proofs.lemmas.List.{drop_more, drop_all}
use Rattle.row_buf.specs.declared.TheConstants.{BUFFER_BYTES, ROW_NUMBER_BYTES}
use Rattle.row_buf.specs.Rows.{Rows, capacity}
use Rattle.reserve_plan.specs.Memory.{lists_bytes}
use Rattle.reserve_plan.specs.Rooms.{buffer_with_room_for, greatest, IsRoomFor}

-- ---- two lists whose elements are related pairwise

pub zip_same_length : {A B : Type 0} (R : A → B → Type 0) (xs : List A) (ys : List B) → AllZip R xs ys → length xs ≡ length ys
zip_same_length R [] [] all = refl
zip_same_length R [] (y ∷ ys) all = absurd all
zip_same_length R (x ∷ xs) [] all = absurd all
zip_same_length R (x ∷ xs) (y ∷ ys) all = ap suc (zip_same_length R xs ys all.1)

pub zip_at : {A B : Type 0} (R : A → B → Type 0) (xs : List A) (ys : List B) (i : ℕ) (d : A) (e : B) → AllZip R xs ys → i < length xs → R (get_or xs i d) (get_or ys i e)
zip_at R [] ys i d e all i_in_range = absurd (omega arith)
zip_at R (x ∷ xs) [] i d e all i_in_range = absurd all
zip_at R (x ∷ xs) (y ∷ ys) zero d e all i_in_range = all.0
zip_at R (x ∷ xs) (y ∷ ys) (suc i) d e all i_in_range = zip_at R xs ys i d e all.1 (omega arith)

pub zip_each : (ns ms : List ℕ) → length ns ≡ length ms → ((i : ℕ) → i < length ns → get_or ns i 0 ≤ get_or ms i 0) → AllZip ◌≤◌ ns ms
zip_each [] [] same_length each = tt
zip_each [] (m ∷ ms) same_length each = absurd (omega arith)
zip_each (n ∷ ns) [] same_length each = absurd (omega arith)
zip_each (n ∷ ns) (m ∷ ms) same_length each = (each 0 (omega arith), zip_each ns ms (omega arith) (λ i i_in_range. each (suc i) (omega arith)))

zip_with_lesser : {B : Type 0} (R : ℕ → B → Type 0) → ((n m : ℕ) (y : B) → n ≤ m → R m y → R n y) → (ns ms : List ℕ) (ys : List B) → AllZip ◌≤◌ ns ms → AllZip R ms ys → AllZip R ns ys
zip_with_lesser R less [] [] ys not_greater all = all
zip_with_lesser R less [] (m ∷ ms) ys not_greater all = absurd not_greater
zip_with_lesser R less (n ∷ ns) [] ys not_greater all = absurd not_greater
zip_with_lesser R less (n ∷ ns) (m ∷ ms) [] not_greater all = absurd all
zip_with_lesser R less (n ∷ ns) (m ∷ ms) (y ∷ ys) not_greater all = (less n m y not_greater.0 all.0, zip_with_lesser R less ns ms ys not_greater.1 all.1)

-- ---- a loop that finds the greatest number

pub greatest_after_step : (ns : List ℕ) (i now new : ℕ) → i < length ns → new ≡ max now (get_or ns i 0) → max now (greatest (drop i ns)) ≡ greatest ns → max new (greatest (drop (i + 1) ns)) ≡ greatest ns
greatest_after_step ns i now new i_in_range is so_far =
    let next : greatest (drop i ns) ≡ max (get_or ns i 0) (greatest (drop (i + 1) ns)) = ap greatest (drop_more ns i 0 i_in_range) in
    omega (arith, next, is, so_far)

pub greatest_at_end : (ns : List ℕ) (i now : ℕ) → length ns ≤ i → max now (greatest (drop i ns)) ≡ greatest ns → now ≡ greatest ns
greatest_at_end ns i now end so_far =
    let none : greatest (drop i ns) ≡ 0 = ap greatest (drop_all i ns end) in
    omega (arith, none, so_far)

-- ---- the room of the reserved buffers

pub buffers_have_room : (sizes : List ℕ) (buffers : List (Rows ℕ)) → buffers ≡ map buffer_with_room_for sizes → AllZip IsRoomFor sizes buffers
buffers_have_room sizes buffers is = subst (AllZip IsRoomFor sizes) (sym is) (each sizes)
  where
    each : (sizes : List ℕ) → AllZip IsRoomFor sizes (map buffer_with_room_for sizes)
    each [] = tt
    each (size ∷ sizes) = (record { empty = refl; room = omega arith }, each sizes)

-- ---- the bytes of the reserved buffers

buffer_capacities : (sizes : List ℕ) → map capacity (map buffer_with_room_for sizes) ≡ sizes
buffer_capacities [] = refl
buffer_capacities (size ∷ sizes) = let one : 0 + size ≡ size = omega arith in rw (one, buffer_capacities sizes) refl

pub buffers_take : (sizes : List ℕ) (buffers : List (Rows ℕ)) (held : ℕ) → held ≡ length sizes → buffers ≡ map buffer_with_room_for sizes
    → BUFFER_BYTES * held + ROW_NUMBER_BYTES * sum (map capacity buffers) ≡ lists_bytes sizes
buffers_take sizes buffers held count is =
    let now : map capacity buffers ≡ sizes = ap (map capacity) is ∙ buffer_capacities sizes in
    rw (count, now) refl

-- ---- less room for fewer rows

room_for_fewer : {T : Type 0} (n m : ℕ) (buffer : Rows T) → n ≤ m → IsRoomFor m buffer → IsRoomFor n buffer
room_for_fewer n m buffer not_greater has = record { empty = has.empty; room = omega (arith, not_greater, has.room) }

pub buffers_for_fewer : (sizes more : List ℕ) (buffers : List (Rows ℕ)) → AllZip ◌≤◌ sizes more → AllZip IsRoomFor more buffers → AllZip IsRoomFor sizes buffers
buffers_for_fewer sizes more buffers not_greater has = zip_with_lesser IsRoomFor room_for_fewer sizes more buffers not_greater has
