-- One step of the loop that gathers the different cells which pass a test. The step either adds a cell or doesn't.
use Rattle.std.proofs.Common.{◌≡◌, ℕ, ◌+◌, ◌<◌, ◌≤◌, Bool, true, false, List, [], ◌∷◌, ◌++◌, length, get_or, nat_eq, take, refl, ap, sym, ◌∙◌}
use Rattle.std.specs.List.{filter}
use Rattle.std.proofs.lemmas.List.{append-nil, take_all, take_more}
use Rattle.std.proofs.lemmas.List.Elements.{filter-append}
use Rattle.degree_lists.proofs.OneMoreKey.{different-push}
use Rattle.degree_sequences.specs.Degrees.{different}
use Rattle.indexmap.specs.IndexSet.{insert_key}

module _ (p : ℕ → Bool) (cells : List ℕ) where
  pub one_other_more : (before new : List ℕ) (i : ℕ) → i < length cells → before ≡ different (filter p (take i cells)) → p (get_or cells i 0) ≡ true
      → new ≡ insert_key nat_eq before (get_or cells i 0) → new ≡ different (filter p (take (i + 1) cells))
  one_other_more before new i low are passes put =
      let cell : ℕ = get_or cells i 0 in
      let one : filter p (cell ∷ []) ≡ cell ∷ [] = rw passes refl in
      put ∙ ap (λ (s : List ℕ). insert_key nat_eq s cell) are ∙ sym (different-push (filter p (take i cells)) cell)
      ∙ ap different (ap (λ (s : List ℕ). filter p (take i cells) ++ s) (sym one) ∙ sym (filter-append p (take i cells) (cell ∷ [])) ∙ ap (filter p) (sym (take_more cells i 0 low)))

  pub no_other_more : (before new : List ℕ) (i : ℕ) → i < length cells → before ≡ different (filter p (take i cells)) → p (get_or cells i 0) ≡ false
      → new ≡ before → new ≡ different (filter p (take (i + 1) cells))
  no_other_more before new i low are fails same =
      let cell : ℕ = get_or cells i 0 in
      let none : filter p (cell ∷ []) ≡ [] = rw fails refl in
      same ∙ are
      ∙ ap different (sym (append-nil (filter p (take i cells))) ∙ ap (λ (s : List ℕ). filter p (take i cells) ++ s) (sym none) ∙ sym (filter-append p (take i cells) (cell ∷ []))
      ∙ ap (filter p) (sym (take_more cells i 0 low)))

  pub all_others : (others : List ℕ) (i : ℕ) → length cells ≤ i → others ≡ different (filter p (take i cells)) → others ≡ different (filter p cells)
  all_others others i past are = are ∙ ap (λ (s : List ℕ). different (filter p s)) (take_all i cells past)
