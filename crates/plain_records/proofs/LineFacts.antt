-- The first line or field of bytes, and the lines or fields after it.
use Rattle.std.proofs.Common.{◌≡◌, ℕ, suc, ◌≤◌, Bool, true, false, List, [], ◌∷◌, ◌++◌, length, refl, sym, ap, ◌∙◌, arith, cond, append_assoc, if◌then◌else◌}
use Rattle.std.specs.List.{filter, onto_first, slice_split}
use Rattle.plain_records.specs.Plain.{after_first, ends_line, before_first, has_bytes, lines_of}

-- the parts after the first part
abbrev pub more_parts : (ℕ → Bool) → List ℕ → List (List ℕ)
more_parts p [] = []
more_parts p (c ∷ rest) = if p c then slice_split p rest else more_parts p rest

split_by : (p : ℕ → Bool) (c : ℕ) (rest : List ℕ) (b : Bool) → slice_split p rest ≡ before_first p rest ∷ more_parts p rest
    → cond b ([] ∷ slice_split p rest) (onto_first c (slice_split p rest))
    ≡ (if b then [] else c ∷ before_first p rest) ∷ (if b then slice_split p rest else more_parts p rest)
split_by p c rest true e = refl
split_by p c rest false e = ap (onto_first c) e

-- the first part, and the parts after it
pub split_first : (p : ℕ → Bool) (bytes : List ℕ) → slice_split p bytes ≡ before_first p bytes ∷ more_parts p bytes
split_first p [] = refl
split_first p (c ∷ rest) = split_by p c rest (p c) (split_first p rest)

kept_by : (rest : List ℕ) (b : Bool) → filter has_bytes (more_parts ends_line rest) ≡ lines_of (after_first ends_line rest)
    → filter has_bytes (if b then slice_split ends_line rest else more_parts ends_line rest) ≡ lines_of (if b then rest else after_first ends_line rest)
kept_by rest true e = refl
kept_by rest false e = e

lines_behind : (bytes : List ℕ) → filter has_bytes (more_parts ends_line bytes) ≡ lines_of (after_first ends_line bytes)
lines_behind [] = refl
lines_behind (c ∷ rest) = kept_by rest (ends_line c) (lines_behind rest)

-- the first line, if it isn't empty, and the lines after it
pub first_line : (bytes line : List ℕ) (c : ℕ) → before_first ends_line bytes ≡ c ∷ line → lines_of bytes ≡ (c ∷ line) ∷ lines_of (after_first ends_line bytes)
first_line bytes line c e =
    ap (filter has_bytes) (split_first ends_line bytes ∙ ap (λ l. l ∷ more_parts ends_line bytes) e) ∙ ap (λ ls. (c ∷ line) ∷ ls) (lines_behind bytes)

-- an empty line is left out
pub no_line : (bytes : List ℕ) → before_first ends_line bytes ≡ [] → lines_of bytes ≡ lines_of (after_first ends_line bytes)
no_line bytes e =
    ap (filter has_bytes) (split_first ends_line bytes ∙ ap (λ l. l ∷ more_parts ends_line bytes) e) ∙ lines_behind bytes

shorter_by : (c : ℕ) (rest : List ℕ) (p : ℕ → Bool) (b : Bool) → length (after_first p rest) ≤ length rest → length (if b then rest else after_first p rest) ≤ suc (length rest)
shorter_by c rest p true l = omega arith
shorter_by c rest p false l = omega (arith, l)

pub shorter_behind : (p : ℕ → Bool) (bytes : List ℕ) → length (after_first p bytes) ≤ length bytes
shorter_behind p [] = omega arith
shorter_behind p (c ∷ rest) = shorter_by c rest p (p c) (shorter_behind p rest)

-- the parts, with `bytes` put in front of the first part
abbrev pub with_front : List ℕ → List (List ℕ) → List (List ℕ)
with_front bytes [] = bytes ∷ []
with_front bytes (part ∷ parts) = (bytes ++ part) ∷ parts

pub front_none : (p : ℕ → Bool) (bytes : List ℕ) → with_front [] (slice_split p bytes) ≡ slice_split p bytes
front_none p bytes = rw (split_first p bytes) refl

pub front_more : (p : ℕ → Bool) (begun bytes : List ℕ) (c : ℕ) → with_front begun (onto_first c (slice_split p bytes)) ≡ with_front (begun ++ c ∷ []) (slice_split p bytes)
front_more p begun bytes c = rw (split_first p bytes) (ap (λ part. part ∷ more_parts p bytes) (sym (append_assoc begun (c ∷ []) (before_first p bytes))))
