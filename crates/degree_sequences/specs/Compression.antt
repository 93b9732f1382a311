-- Compression by heads: a list of few runs that stays near a list in descending order and has the same sum.
-- At accuracy K it exceeds the list by at most one K-th at each rank. Heads are some of the list's elements. The first head is the first element. The
-- next head is the first later element below K / (K + 1) times the head before it.
use Rattle.std.specs.Prelude.{ℕ, zero, suc, ◌+◌, ◌-◌, ◌*◌, min, nat_lt, if◌then◌else◌, List, [], ◌∷◌, length, slice_index}
use Rattle.std.specs.List.{sum}
use Rattle.degree_sequences.specs.Rank.{rank}

-- the head of element x: x itself if (accuracy + 1) * x is less than accuracy * head; otherwise `head`, the head before x
abbrev pub next_head : ℕ → ℕ → ℕ → ℕ
next_head accuracy head x = if nat_lt ((accuracy + 1) * x) (accuracy * head) then x else head

-- the head of each element: the last head at or before it
abbrev pub heads_from : ℕ → ℕ → List ℕ → List ℕ
heads_from accuracy head [] = []
heads_from accuracy head (x ∷ s) = next_head accuracy head x ∷ heads_from accuracy (next_head accuracy head x) s

-- the heads of the whole list; the first head is the first element
abbrev pub heads : ℕ → List ℕ → List ℕ
heads accuracy f = heads_from accuracy (slice_index f 0) f

-- the head of the element whose number is the rank of row m + 1
abbrev pub head_of_row : ℕ → List ℕ → ℕ → ℕ
head_of_row accuracy f m = slice_index (heads accuracy f) (rank f (suc m) - 1)

-- up to `count` further elements, after elements that sum to m. Each is the head for the next row, or the rest of f's sum if the rest is less
abbrev pub compressed_from : ℕ → List ℕ → ℕ → ℕ → List ℕ
compressed_from accuracy f zero m = []
compressed_from accuracy f (suc count) m =
    let next = min (head_of_row accuracy f m) (sum f - m) in
    if nat_lt m (sum f) then next ∷ compressed_from accuracy f count (m + next) else []

-- f compressed with this accuracy. It never has more elements than f
abbrev pub compressed : ℕ → List ℕ → List ℕ
compressed accuracy f = compressed_from accuracy f (length f) 0
