-- Uses are added row by row, side by side and equality by equality. These lemmas give the uses and values after each step.
use Rattle.std.proofs.Common.{◌≡◌, ℕ, zero, suc, ◌+◌, ◌*◌, ◌<◌, ◌≤◌, Bool, true, false, List, [], ◌∷◌, ◌++◌, Some, length, get_or, refl, ap, sym, ◌∙◌, subst, arith, inl, inr, append-nil, append_assoc, length-append}
use Rattle.std.specs.Prelude.{◌⊎◌, All, slice_get, slice_index}
use Rattle.std.specs.List.{Contains}
use Rattle.std.proofs.lemmas.Bool.{cases_eq, cases_lt}
use Rattle.std.proofs.lemmas.List.{get_or_default, get_or_past}
use Rattle.std.proofs.lemmas.List.Elements.{Contains-append_left, Contains-append_right, Contains-get_or, Contains-push_cases}
use Rattle.std.proofs.lemmas.Option.{get_or_from_slice_get, slice_get-get_or, slice_get_within}
use Rattle.std.proofs.Math.ListN.{get_or-append}
use Rattle.berge_tree.specs.declared.edges.Edge.{Edge}
use Rattle.counted_sets.specs.declared.uses.Use.{Use}
use Rattle.counted_sets.specs.Sets.{IsUseOf}
use Rattle.row_buf.specs.Rows.{Rows}
use Rattle.level_bounds.specs.Keys.{Keys}
use Rattle.join_steps.specs.Lists.{list_at, lists_of}
use Rattle.limits.specs.Profile.{most_rows}
use Rattle.reduced_scans.specs.Wiring.{AddsUses, AreUsesOfRows, ValuesBeginWith, NumberedValues, IsEqualityAt, IsUseFor, IsUseForRow, first_item, key_on, side_of, opposite, row_at, slot_of}
use Rattle.reduced_scans.proofs.MarkedRows.{items_within}
use Rattle.reduced_scans.proofs.Members.{in_front}

-- ---- values that are numbered later don't change the earlier numbers

pub begins_with_itself : (known_values : NumberedValues) → ValuesBeginWith known_values known_values
begins_with_itself known_values = record { more = []; grew = sym (append-nil known_values) }

pub begins_transitively : (a b c : NumberedValues) → ValuesBeginWith a b → ValuesBeginWith b c → ValuesBeginWith a c
begins_transitively a b c f g = record {
  more = f.more ++ g.more;
  grew = g.grew ∙ ap (λ l. l ++ g.more) f.grew ∙ append_assoc a f.more g.more;
}

later_value : (old new : NumberedValues) (value_number : ℕ) (v : ℕ × ℕ) → ValuesBeginWith old new → slice_get old value_number ≡ Some v → slice_get new value_number ≡ Some v
later_value old new value_number v begins is =
    let value_number_in_range : value_number < length old = slice_get_within old value_number v is in
    let here : get_or (old ++ begins.more) value_number v ≡ v = get_or-append old begins.more v value_number value_number_in_range ∙ get_or_from_slice_get old value_number v v is in
    ap (λ (l : NumberedValues). slice_get l value_number) begins.grew ∙ slice_get-get_or (old ++ begins.more) value_number v (omega (arith, length-append old begins.more)) ∙ ap Some here

pub use_later : (old new : NumberedValues) (equality : ℕ) (is_left : Bool) (cell item : ℕ) (u : Use) → ValuesBeginWith old new → IsUseFor old equality is_left cell item u → IsUseFor new equality is_left cell item u
use_later old new equality is_left cell item u begins is = record {
  value_number = is.value_number;
  is_value = later_value old new is.value_number (equality, cell) begins is.is_value;
  is_item = is.is_item;
  gives = is.gives;
  needs = is.needs;
}

-- ---- the uses after one more row

pub uses_at_start : (equality : ℕ) (is_left : Bool) (first : ℕ) (cells list : List ℕ) (known_values : NumberedValues) (uses : List Use) → AddsUses equality is_left first cells list 0 known_values known_values uses uses
uses_at_start equality is_left first cells list known_values uses = record {
  begins = begins_with_itself known_values;
  size = omega arith;
  few = omega arith;
  kept = λ u has. has;
  sound = λ u has. inl has;
  complete = λ place place_in_range. absurd (omega arith);
}

pub uses_after_step : (equality : ℕ) (is_left : Bool) (first : ℕ) (cells list : List ℕ) (count : ℕ) (old mid new : NumberedValues) (old_uses mid_uses new_uses : List Use) (u : Use) (cell item : ℕ)
    → AddsUses equality is_left first cells list count old mid old_uses mid_uses → ValuesBeginWith mid new → length new ≤ length mid + 1 → new_uses ≡ mid_uses ++ u ∷ []
    → cell ≡ slice_index cells (slice_index list count) → item ≡ first + count → IsUseFor new equality is_left cell item u
    → AddsUses equality is_left first cells list (count + 1) old new old_uses new_uses
uses_after_step equality is_left first cells list count old mid new old_uses mid_uses new_uses u cell item so_far begins grows_by_one more is_cell is_item is_use =
    let here : IsUseFor new equality is_left (slice_index cells (slice_index list count)) (first + count) u =
    subst (λ i. IsUseFor new equality is_left (slice_index cells (slice_index list count)) i u) is_item (subst (λ k. IsUseFor new equality is_left k item u) is_cell is_use) in
    record {
      begins = begins_transitively old mid new so_far.begins begins;
      size = omega (arith, ap (λ (l : List Use). length l) more, length-append mid_uses (u ∷ []), so_far.size);
      few = omega (arith, grows_by_one, so_far.few);
      kept = λ v has. subst (λ l. Contains l v) (sym more) (Contains-append_left mid_uses (u ∷ []) v (so_far.kept v has));
      sound = λ v has. elim (Contains-push_cases mid_uses u v (subst (λ l. Contains l v) more has)) [
        | inl before ↦ elim (so_far.sound v before) [
          | inl earlier ↦ inl earlier
          | inr found ↦ inr (found.0, omega (arith, found.1), use_later mid new equality is_left (slice_index cells (slice_index list found.0)) (first + found.0) v begins found.2)
        ]
        | inr last ↦ inr (count, omega arith, subst (IsUseFor new equality is_left (slice_index cells (slice_index list count)) (first + count)) last here)
      ];
      complete = λ place place_in_range. elim (cases_eq place count) [
        | inl same ↦ (
          u,
          subst (λ l. Contains l u) (sym more) (Contains-append_right mid_uses (u ∷ []) u (in_front u u [] refl)),
          subst (λ p. IsUseFor new equality is_left (slice_index cells (slice_index list p)) (first + p) u) (sym same) here,
        )
        | inr apart ↦ (let found : (v : Use) × Contains mid_uses v × IsUseFor mid equality is_left (slice_index cells (slice_index list place)) (first + place) v = so_far.complete place (omega arith) in (
          found.0,
          subst (λ l. Contains l found.0) (sym more) (Contains-append_left mid_uses (u ∷ []) found.0 found.1),
          use_later mid new equality is_left (slice_index cells (slice_index list place)) (first + place) found.0 begins found.2,
        ))
      ];
    }

-- ---- the uses after one more equality

module _ (scans : List (List ℕ)) (equalities : List Edge) (key : Keys) (number : ℕ) (e : Edge) (numbered : IsEqualityAt equalities number e) where
  abbrev AddsSide : Bool → List ℕ → NumberedValues → NumberedValues → List Use → List Use → Type 0
  AddsSide is_left cells old new old_uses new_uses =
      AddsUses number is_left (first_item scans (side_of e is_left).entry) cells (list_at scans (side_of e is_left).entry) (length (list_at scans (side_of e is_left).entry)) old new old_uses new_uses

  abbrev AreKeysOf : Bool → List ℕ → Type 0
  AreKeysOf is_left cells = (row : ℕ) → slice_index cells row ≡ key_on key (side_of e is_left) row

  holds_later : (old new : NumberedValues) (count more : ℕ) (u : Use) → count ≤ more → ValuesBeginWith old new → IsUseForRow scans equalities key old count u → IsUseForRow scans equalities key new more u
  holds_later old new count more u within begins is = record {
    number = is.number;
    edge = is.edge;
    is_left = is.is_left;
    place = is.place;
    below = omega (arith, is.below);
    numbered = is.numbered;
    within = is.within;
    is_use = use_later old new is.number is.is_left (key_on key (side_of is.edge is.is_left) (row_at scans (side_of is.edge is.is_left).entry is.place)) (first_item scans (side_of is.edge is.is_left).entry + is.place) u begins is.is_use;
  }

  side_sound : (is_left : Bool) (cells : List ℕ) (old new last : NumberedValues) (old_uses new_uses : List Use) → AreKeysOf is_left cells → AddsSide is_left cells old new old_uses new_uses → ValuesBeginWith new last
      → (u : Use) → Contains new_uses u → Contains old_uses u ⊎ IsUseForRow scans equalities key last (number + 1) u
  side_sound is_left cells old new last old_uses new_uses keys adds begins u has = elim (adds.sound u has) [
    | inl before ↦ inl before
    | inr found ↦ inr (record {
      number = number;
      edge = e;
      is_left = is_left;
      place = found.0;
      below = omega arith;
      numbered = numbered;
      within = found.1;
      is_use = use_later new last number is_left (key_on key (side_of e is_left) (row_at scans (side_of e is_left).entry found.0)) (first_item scans (side_of e is_left).entry + found.0) u begins
          (subst (λ k. IsUseFor new number is_left k (first_item scans (side_of e is_left).entry + found.0) u) (keys (row_at scans (side_of e is_left).entry found.0)) found.2);
    })
  ]

  abbrev Found : NumberedValues → List Use → Bool → ℕ → Type 0
  Found known_values uses is_left place =
      (u : Use) × Contains uses u × IsUseFor known_values number is_left (key_on key (side_of e is_left) (row_at scans (side_of e is_left).entry place)) (first_item scans (side_of e is_left).entry + place) u

  side_complete : (is_left : Bool) (cells : List ℕ) (old new last : NumberedValues) (old_uses new_uses : List Use) → AreKeysOf is_left cells → AddsSide is_left cells old new old_uses new_uses → ValuesBeginWith new last
      → (place : ℕ) → place < length (list_at scans (side_of e is_left).entry) → Found last new_uses is_left place
  side_complete is_left cells old new last old_uses new_uses keys adds begins place place_in_range =
      let found : (u : Use) × Contains new_uses u × IsUseFor new number is_left (slice_index cells (slice_index (list_at scans (side_of e is_left).entry) place)) (first_item scans (side_of e is_left).entry + place) u = adds.complete place place_in_range in (
        found.0,
        found.1,
        use_later new last number is_left (key_on key (side_of e is_left) (row_at scans (side_of e is_left).entry place)) (first_item scans (side_of e is_left).entry + place) found.0 begins
            (subst (λ k. IsUseFor new number is_left k (first_item scans (side_of e is_left).entry + place) found.0) (keys (row_at scans (side_of e is_left).entry place)) found.2),
      )

  pub wired_one : (cells_left cells_right : List ℕ) (old mid new : NumberedValues) (old_uses mid_uses new_uses : List Use) → AreKeysOf true cells_left → AreKeysOf false cells_right
      → AddsSide true cells_left old mid old_uses mid_uses → AddsSide false cells_right mid new mid_uses new_uses
      → AreUsesOfRows scans equalities key old number old_uses → AreUsesOfRows scans equalities key new (number + 1) new_uses
  wired_one cells_left cells_right old mid new old_uses mid_uses new_uses left_keys right_keys left right so_far = record {
    sound = λ u has. elim (side_sound false cells_right mid new new mid_uses new_uses right_keys right (begins_with_itself new) u has) [
      | inr stands ↦ stands
      | inl in_mid ↦ elim (side_sound true cells_left old mid new old_uses mid_uses left_keys left right.begins u in_mid) [
        | inr stands ↦ stands
        | inl before ↦ holds_later old new number (number + 1) u (omega arith) (begins_transitively old mid new left.begins right.begins) (so_far.sound u before)
      ]
    ];
    complete = λ n edge is_left place below is place_in_range. elim (cases_eq n number) [
      | inl same ↦ here n edge is_left place same is place_in_range
      | inr apart ↦ (let found : (u : Use) × Contains old_uses u × IsUseFor old n is_left (key_on key (side_of edge is_left) (row_at scans (side_of edge is_left).entry place)) (first_item scans (side_of edge is_left).entry + place) u =
          so_far.complete n edge is_left place (omega arith) is place_in_range in (
            found.0,
            right.kept found.0 (left.kept found.0 found.1),
            use_later old new n is_left (key_on key (side_of edge is_left) (row_at scans (side_of edge is_left).entry place)) (first_item scans (side_of edge is_left).entry + place) found.0 (begins_transitively old mid new left.begins right.begins) found.2,
          ))
    ];
  }
    where
      this : (is_left : Bool) (place : ℕ) → place < length (list_at scans (side_of e is_left).entry) → Found new new_uses is_left place
      this true place place_in_range =
          let found : Found new mid_uses true place = side_complete true cells_left old mid new old_uses mid_uses left_keys left right.begins place place_in_range in
          (found.0, right.kept found.0 found.1, found.2)
      this false place place_in_range = side_complete false cells_right mid new new mid_uses new_uses right_keys right (begins_with_itself new) place place_in_range

      here : (n : ℕ) (edge : Edge) (is_left : Bool) (place : ℕ) → n ≡ number → IsEqualityAt equalities n edge → place < length (list_at scans (side_of edge is_left).entry)
          → (u : Use) × Contains new_uses u × IsUseFor new n is_left (key_on key (side_of edge is_left) (row_at scans (side_of edge is_left).entry place)) (first_item scans (side_of edge is_left).entry + place) u
      here n edge is_left place same is place_in_range =
          let edges : e ≡ edge = sym numbered.1 ∙ ap (λ i. get_or equalities i e) (sym same) ∙ get_or_default equalities n e edge is.0 ∙ is.1 in
          subst (λ m. (u : Use) × Contains new_uses u × IsUseFor new m is_left (key_on key (side_of edge is_left) (row_at scans (side_of edge is_left).entry place)) (first_item scans (side_of edge is_left).entry + place) u) (sym same)
          (subst (λ (f : Edge). place < length (list_at scans (side_of f is_left).entry) → (u : Use) × Contains new_uses u × IsUseFor new number is_left (key_on key (side_of f is_left) (row_at scans (side_of f is_left).entry place)) (first_item scans (side_of f is_left).entry + place) u) edges
          (this is_left place) place_in_range)

-- ---- the item and the slots of each use exist

entry_of_place_in_range : (scans : List (List ℕ)) (entry place : ℕ) → place < length (list_at scans entry) → entry < length scans
entry_of_place_in_range scans entry place place_in_range = elim (cases_lt entry (length scans)) [
  | inl below ↦ below
  | inr past ↦ absurd (omega (arith, place_in_range, ap (λ (l : List ℕ). length l) (get_or_past scans entry [] past)))
]

slot_of_value_in_range : (value_number known_values : ℕ) (is_left : Bool) → value_number < known_values → slot_of value_number is_left < 2 * known_values
slot_of_value_in_range value_number known_values true value_number_in_range = omega arith
slot_of_value_in_range value_number known_values false value_number_in_range = omega arith

pub uses_are_of : (scans : List (List ℕ)) (equalities : List Edge) (key : Keys) (known_values : NumberedValues) (count : ℕ) (uses : List Use) → AreUsesOfRows scans equalities key known_values count uses
    → All (IsUseOf (first_item scans (length scans)) (2 * length known_values)) uses
uses_are_of scans equalities key known_values count uses wired i d i_in_range =
    let u : Use = get_or uses i d in
    let is : IsUseForRow scans equalities key known_values count u = wired.sound u (Contains-get_or uses i d i_in_range) in
    let value_number : is.is_use.value_number < length known_values =
    slice_get_within known_values is.is_use.value_number (is.number, key_on key (side_of is.edge is.is_left) (row_at scans (side_of is.edge is.is_left).entry is.place)) is.is_use.is_value in
    record {
      item = omega (arith, is.is_use.is_item, is.within, items_within scans (side_of is.edge is.is_left).entry (entry_of_place_in_range scans (side_of is.edge is.is_left).entry is.place is.within));
      gives = omega (arith, is.is_use.gives, slot_of_value_in_range is.is_use.value_number (length known_values) is.is_left value_number);
      needs = omega (arith, is.is_use.needs, slot_of_value_in_range is.is_use.value_number (length known_values) (opposite is.is_left) value_number);
    }

pub items_within_limit : (scans : List (Rows ℕ)) → ((k : ℕ) → length (list_at (lists_of scans) k) ≤ most_rows) → (entry : ℕ) → first_item (lists_of scans) entry ≤ most_rows * entry
items_within_limit [] scans_within_limit entry = omega arith
items_within_limit (scan ∷ scans) scans_within_limit zero = omega arith
items_within_limit (scan ∷ scans) scans_within_limit (suc entry) = omega (arith, scans_within_limit 0, items_within_limit scans (λ k. scans_within_limit (suc k)) entry)
