-- The kinds of joins, as include/safebound.h numbers them.
use Rattle.std.specs.Prelude.{◌≡◌, ℕ, ◌==◌, if◌then◌else◌, Option, Some, None}
use Rattle.safebound_bounds.specs.Meaning.{in_64_bits}
use Rattle.safebound_lists.specs.declared.refusal.Refusal.{Refusal}
use Rattle.safebound_lists.specs.declared.refusal.Refusal.TheVariants as refusal
use Rattle.joined_tables.specs.Bounds.{most_joined}
use Rattle.joined_tables.specs.declared.joins.Join.{Join}
use Rattle.joined_tables.specs.declared.joins.Join.TheVariants.{Anti, Full, Left, Right, Semi}

-- the kind of join that has this number
abbrev pub join_kind_of : ℕ → Option Join
join_kind_of kind = if kind == 1 then Some Left else if kind == 2 then Some Right else if kind == 3 then Some Full else if kind == 4 then Some Semi else if kind == 5 then Some Anti else None

-- `kind` is the number of a join. `bound` is the most rows that this join can have, or 2^64 - 1 if they are more
pub record IsJoinBound (kind inner left right bound : ℕ) : Type 0 where
  pub join : Join
  pub named : join_kind_of kind ≡ Some join
  pub exact : bound ≡ in_64_bits (most_joined join inner left right)

-- why the call is refused: no kind of join has the number
abbrev pub IsKindCause : ℕ → Refusal → Type 0
IsKindCause kind (refusal.JoinKind given) = (given ≡ kind) × (join_kind_of kind ≡ None)
IsKindCause kind _ = ⊥
