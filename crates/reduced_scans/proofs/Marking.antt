-- The mark of a value in a value set has as its index the value minus the least value.
use Rattle.std.proofs.Common.{◌≡◌, ℕ, ◌-◌, ◌<◌, ◌≤◌, Bool, true, false, List, length, get_or, set, ap, ◌∙◌, inl, inr}
use Rattle.std.specs.Prelude.{nat_le}
use Rattle.std.proofs.lemmas.Bool.{and_from, and_parts, cases_eq, le-leb}
use Rattle.std.proofs.lemmas.List.{get_or-set_other, get_or-set_same}
use Rattle.reduced_scans.specs.SemiJoins.{is_marked}

module _ (least : ℕ) (marks : List Bool) (value : ℕ) (within : value - least < length marks) where
  pub marked_now : least ≤ value → is_marked least (set marks (value - least) true) value ≡ true
  marked_now above =
      and_from (nat_le least value) (get_or (set marks (value - least) true) (value - least) false) (le-leb least value above) (get_or-set_same marks (value - least) true false within)

  pub marked_still : (other : ℕ) → is_marked least marks other ≡ true → is_marked least (set marks (value - least) true) other ≡ true
  marked_still other is =
      let parts : (nat_le least other ≡ true) × (get_or marks (other - least) false ≡ true) = and_parts (nat_le least other) (get_or marks (other - least) false) is in
      and_from (nat_le least other) (get_or (set marks (value - least) true) (other - least) false) parts.0 (elim (cases_eq (other - least) (value - least)) [
        | inl same ↦ ap (λ k. get_or (set marks (value - least) true) k false) same ∙ get_or-set_same marks (value - least) true false within
        | inr apart ↦ get_or-set_other marks (value - least) (other - least) true false apart ∙ parts.1
      ])
