-- Tests of the entries that a condition names. The list of named entries has an entry as often as the condition names it.
use Rattle.std.specs.Prelude.{ℕ, Bool, not, ◌&&◌, ◌==◌, List, [], ◌∷◌}
use Rattle.std.specs.List.{list_all, list_any}

-- each entry of the list `named` is in the list `entries`
abbrev pub are_within : List ℕ → List ℕ → Bool
are_within named entries = list_all (λ entry. list_any (λ e. entry == e) entries) named

-- the entry is named, and no other entry is
abbrev pub is_only_named : List ℕ → ℕ → Bool
is_only_named named entry = are_within named (entry ∷ []) && not (are_within named [])
