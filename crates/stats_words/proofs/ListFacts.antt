-- A list is read run by run. A run is a value and a count.
use Rattle.std.proofs.Common.{[], ◌≡◌, ◌≢◌, ℕ, zero, suc, ◌+◌, ◌*◌, ◌-◌, ◌^◌, ◌<◌, ◌≤◌, List, ◌∷◌, ◌++◌, replicate, length, length-append, refl, ap, sym, subst, ◌∙◌, arith, append_assoc, append-nil, None, Some}
use Rattle.std.specs.Prelude.{All, codes, sum}
use Rattle.std.specs.List.{AllByRecursion, flat_map}
use Rattle.std.proofs.lemmas.Grind.{flat_map-append}
use Rattle.std.proofs.lemmas.List.{length-replicate}
use Rattle.std.proofs.lemmas.List.Elements.{All-from_recursion}
use Rattle.degree_sequences.specs.Descending.{IsDescending}
use Rattle.piece_math.specs.declared.pieces.Piece.{Piece}
use Rattle.piece_math.specs.Expanded.{expanded, AreRuns}
use Rattle.piece_math.proofs.Expansion.{AreRuns-push, expanded-push, IsDescending-expanded, positive-expanded, sum-expanded-push}
use Rattle.stats_file.specs.Lines.{run_text, runs_text}
use Rattle.stats_file.specs.Rules.{IsList}
use Rattle.stats_file.specs.Runs.{runs_of}
use Rattle.stats_file.proofs.RunFacts.{runs_found}
use Rattle.stats_words.specs.Runs.{list_text, RunMayFollow}
use Rattle.stats_words.specs.Splits.{IsSplitAt, HasNoByte}
use Rattle.stats_words.specs.Words.{Spells}
use Rattle.stats_words.proofs.RunTexts.{at_least_both, with_blank_after, expanded_runs, no_blank_in, runs_fall, runs_are_within, stripped, RunsSplitOff, sum_of_runs, texts_joined}
use Rattle.stats_words.proofs.SplitFacts.{not_without, split_same}

-- the value of the last run, or b if there are no runs
abbrev pub last_value : ℕ → List Piece → ℕ
last_value b [] = b
last_value b (r ∷ rs) = last_value r.value rs

last_value_push : (b : ℕ) (rs : List Piece) (run : Piece) → last_value b (rs ++ run ∷ []) ≡ run.value
last_value_push b [] run = refl
last_value_push b (r ∷ rs) run = last_value_push r.value rs run

next_lower : (b : ℕ) (rs : List Piece) (m : Piece) (ms : List Piece) → AreRuns (rs ++ (m ∷ ms)) → (length rs ≡ 0 → m.value < b) → m.value < last_value b rs
next_lower b [] m ms runs lt = lt refl
next_lower b (r ∷ []) m ms runs lt = runs.0
next_lower b (r ∷ q ∷ rs) m ms runs lt = next_lower r.value (q ∷ rs) m ms runs.2 (λ e. absurd (omega arith))

all_above : (a b : ℕ) (rs : List Piece) → a < b → AllByRecursion (λ (r : Piece). b ≤ r.value) rs → AllByRecursion (λ (r : Piece). a < r.value) rs
all_above a b [] lt all = tt
all_above a b (r ∷ rs) lt all = (omega (arith, all.0), all_above a b rs lt all.1)

above_more : (a : ℕ) (rs : List Piece) (run : Piece) → a ≡ run.value → AllByRecursion (λ (r : Piece). a < r.value) rs → AllByRecursion (λ (r : Piece). a ≤ r.value) (rs ++ run ∷ [])
above_more a [] run e all = (omega (arith, e), tt)
above_more a (r ∷ rs) run e all = (omega (arith, all.0), above_more a rs run e all.1)

elements_above : (a : ℕ) (rs : List Piece) → AllByRecursion (λ (r : Piece). a < r.value) rs → AllByRecursion (λ (x : ℕ). a ≤ x) (expanded rs)
elements_above a [] all = tt
elements_above a (r ∷ rs) all = front r.count (elements_above a rs all.1)
  where
    front : (n : ℕ) → AllByRecursion (λ (x : ℕ). a ≤ x) (expanded rs) → AllByRecursion (λ (x : ℕ). a ≤ x) (replicate n r.value ++ expanded rs)
    front zero rest = rest
    front (suc n) rest = (omega (arith, all.0), front n rest)

-- the state of the loop: `word` is the text of `runs`, with a blank after each run, followed by `rest`. The list of these runs is `list`. The next
-- value must be below `below`, and the remaining elements sum to at most `left`
pub record RunsReadSoFar (rows : ℕ) (word rest list : List ℕ) (below left : ℕ) : Type 0 where
  pub runs : List Piece
  pub front : word ≡ flat_map with_blank_after runs ++ rest
  pub list_is : list ≡ expanded runs
  pub descends : AreRuns runs
  pub below_is : below ≡ last_value (rows + 1) runs
  pub above : AllByRecursion (λ (r : Piece). below ≤ r.value) runs
  pub total : sum list + left ≡ rows
  pub few : length list + left ≤ rows

pub may_push : (rows : ℕ) (word rest list : List ℕ) (below left : ℕ) (run : Piece) → RunsReadSoFar rows word rest list below left → RunMayFollow below left run → All (λ x. run.value ≤ x) list
may_push rows word rest list below left run h may =
    subst (λ (l : List ℕ). All (λ x. run.value ≤ x) l) (sym h.list_is)
    (All-from_recursion (λ x. run.value ≤ x) (expanded h.runs) (elements_above run.value h.runs (all_above run.value below h.runs may.lower h.above)))

pub room_for_run : (rows : ℕ) (word rest list : List ℕ) (below left : ℕ) (run : Piece) → RunsReadSoFar rows word rest list below left → RunMayFollow below left run → length list + run.count ≤ rows
room_for_run rows word rest list below left run h may =
    let both = at_least_both run.value run.count may.value may.count in
    let within : run.count * run.value ≤ left = may.within in
    omega (arith, both.1, h.few)

record Pushed (rows : ℕ) (runs : List Piece) (run : Piece) (list : List ℕ) : Type 0 where
  pub list_is : list ≡ expanded (runs ++ run ∷ [])
  pub descends : AreRuns (runs ++ run ∷ [])
  pub total : sum list ≡ sum (expanded runs) + run.count * run.value

pushed : (rows : ℕ) (word rest list new : List ℕ) (below left : ℕ) (run : Piece) (h : RunsReadSoFar rows word rest list below left) → RunMayFollow below left run
    → new ≡ list ++ replicate run.count run.value → Pushed rows h.runs run new
pushed rows word rest list new below left run h may is =
    let same : new ≡ expanded (h.runs ++ run ∷ []) = is ∙ ap (λ (l : List ℕ). l ++ replicate run.count run.value) h.list_is ∙ sym (expanded-push h.runs run) in
    record {
      list_is = same;
      descends = AreRuns-push h.runs run h.descends may.value may.count (all_above run.value below h.runs may.lower h.above);
      total = ap sum same ∙ sum-expanded-push h.runs run;
    }

pub list_read_step : (rows : ℕ) (word rest first others list new : List ℕ) (below left : ℕ) (run : Piece) → RunsReadSoFar rows word rest list below left → IsSplitAt 32 rest first others
    → Spells run_text (RunMayFollow below left) first (Some run) → new ≡ list ++ replicate run.count run.value → RunsReadSoFar rows word others new run.value (left - run.count * run.value)
list_read_step rows word rest first others list new below left run h split (may, text) is =
    let more = pushed rows word rest list new below left run h may is in
    let both = at_least_both run.value run.count may.value may.count in
    let within : run.count * run.value ≤ left = may.within in
    let len = ap length is ∙ length-append list (replicate run.count run.value) in
    record {
      runs = h.runs ++ run ∷ [];
      front = h.front ∙ ap (λ (w : List ℕ). flat_map with_blank_after h.runs ++ w) (split.whole ∙ ap (λ (w : List ℕ). w ++ (32 ∷ others)) (sym text))
          ∙ ap (λ (w : List ℕ). flat_map with_blank_after h.runs ++ w) (sym (append_assoc (run_text run) (codes " ") others) ∙ ap (λ (w : List ℕ). w ++ others) (sym (append-nil (with_blank_after run))))
          ∙ sym (append_assoc (flat_map with_blank_after h.runs) (with_blank_after run ++ []) others) ∙ ap (λ (w : List ℕ). w ++ others) (sym (flat_map-append with_blank_after h.runs (run ∷ [])));
      list_is = more.list_is;
      descends = more.descends;
      below_is = sym (last_value_push (rows + 1) h.runs run);
      above = above_more run.value h.runs run refl (all_above run.value below h.runs may.lower h.above);
      total = omega (arith, more.total, h.total, ap sum h.list_is);
      few = omega (arith, len, length-replicate run.count run.value, both.1, h.few);
    }

pub list_read_end : (rows : ℕ) (word rest list new : List ℕ) (below left : ℕ) (run : Piece) → rows < 2 ^ 32 → RunsReadSoFar rows word rest list below left
    → Spells run_text (RunMayFollow below left) rest (Some run) → new ≡ list ++ replicate run.count run.value → Spells list_text (IsList rows) word (Some new)
list_read_end rows word rest list new below left run fits h (may, text) is =
    let more = pushed rows word rest list new below left run h may is in
    let within : run.count * run.value ≤ left = may.within in
    let few = room_for_run rows word rest list below left run h may in
    let len = ap length is ∙ length-append list (replicate run.count run.value) in
    let short : length new ≤ rows = omega (arith, len, length-replicate run.count run.value) in
    let runs_are : runs_of new ≡ h.runs ++ run ∷ [] =
    runs_found new (h.runs ++ run ∷ []) (record { descends = more.descends; fits = omega (arith, ap length more.list_is) }) more.list_is in (
      record {
        descends = subst IsDescending (sym more.list_is) (IsDescending-expanded (h.runs ++ run ∷ []) more.descends);
        positive = subst (λ (l : List ℕ). All (λ x. 0 < x) l) (sym more.list_is) (All-from_recursion (λ x. 0 < x) _ (positive-expanded (h.runs ++ run ∷ []) more.descends));
        within = omega (arith, more.total, h.total, ap sum h.list_is);
      },
      ap runs_text runs_are ∙ sym (texts_joined h.runs run) ∙ ap (λ (w : List ℕ). flat_map with_blank_after h.runs ++ w) text ∙ sym h.front,
    )

others_text : (rows : ℕ) (word rest list : List ℕ) (below left : ℕ) → rows < 2 ^ 32 → word ≢ codes "-" → (h : RunsReadSoFar rows word rest list below left)
    → (l : List ℕ) → IsList rows l → list_text l ≡ word → RunsSplitOff h.runs (runs_of l) rest
others_text rows word rest list below left fits dash h l is e =
    let runs = runs_fall l is.descends is.positive in
    let sum_is : sum (expanded (runs_of l)) ≤ rows = subst (λ (x : List ℕ). sum x ≤ rows) (sym (expanded_runs l)) is.within in
    let own_sum : sum (expanded h.runs) ≤ rows = omega (arith, ap sum h.list_is, h.total) in
    stripped rows h.runs (runs_of l) rest (omega arith) (runs_are_within rows h.runs h.descends own_sum) (runs_are_within rows (runs_of l) runs sum_is) (not_none (runs_of l) (λ n. dash (sym e ∙ ap runs_text n)))
    (e ∙ h.front)
  where
    not_none : (rs : List Piece) → (rs ≡ [] → ⊥) → 0 < length rs
    not_none [] other = absurd (other refl)
    not_none (r ∷ rs) other = omega arith

sum_at : (rs : List Piece) (m : Piece) (ms : List Piece) → sum (expanded rs) + m.count * m.value ≤ sum (expanded (rs ++ (m ∷ ms)))
sum_at [] m ms = omega (arith, sum_of_runs m ms)
sum_at (r ∷ rs) m ms = omega (arith, sum_of_runs r rs, sum_of_runs r (rs ++ (m ∷ ms)), sum_at rs m ms)

runs_at : (rs : List Piece) (m : Piece) (ms : List Piece) → AreRuns (rs ++ (m ∷ ms)) → AreRuns (m ∷ ms)
runs_at [] m ms runs = runs
runs_at (r ∷ rs) m ms runs = runs_at rs m ms runs.2

may_be_next : (rows : ℕ) (word rest list : List ℕ) (below left : ℕ) (h : RunsReadSoFar rows word rest list below left) (l : List ℕ) → IsList rows l
    → (s : RunsSplitOff h.runs (runs_of l) rest) → RunMayFollow below left s.run
may_be_next rows word rest list below left h l is s =
    let runs = subst AreRuns s.whole (runs_fall l is.descends is.positive) in
    let here = runs_at h.runs s.run s.more runs in
    let value : 0 < s.run.value = omega (arith, here.0) in
    let both = at_least_both s.run.value s.run.count value here.1 in
    let sum_is : sum (expanded (h.runs ++ (s.run ∷ s.more))) ≤ rows =
    subst (λ (x : List Piece). sum (expanded x) ≤ rows) s.whole (subst (λ (x : List ℕ). sum x ≤ rows) (sym (expanded_runs l)) is.within) in
    let at = sum_at h.runs s.run s.more in
    record {
      value = value;
      count = here.1;
      lower = subst (λ n. s.run.value < n) (sym h.below_is) (next_lower (rows + 1) h.runs s.run s.more runs (λ none. omega (arith, both.0)));
      within = omega (arith, h.total, ap sum h.list_is);
    }

pub list_refused : (rows : ℕ) (word rest first others list : List ℕ) (below left : ℕ) → rows < 2 ^ 32 → word ≢ codes "-" → RunsReadSoFar rows word rest list below left
    → IsSplitAt 32 rest first others → Spells run_text (RunMayFollow below left) first None → Spells list_text (IsList rows) word None
list_refused rows word rest first others list below left fits dash h split no' l is e =
    let s = others_text rows word rest list below left fits dash h l is e in
    let may = may_be_next rows word rest list below left h l is s in
    let total : left ≤ rows = omega (arith, h.total) in
    let both = at_least_both s.run.value s.run.count may.value may.count in
    let within : s.run.count * s.run.value ≤ left = may.within in
    let free = no_blank_in rows s.run (omega arith) (omega (arith, both.0), omega (arith, both.1)) in
    first_run s.run s.more s.text free may
  where
    first_run : (m : Piece) (ms : List Piece) → runs_text (m ∷ ms) ≡ rest → HasNoByte 32 (run_text m) → RunMayFollow below left m → ⊥
    first_run m [] text free may =
        not_without 32 first others (subst (λ (w : List ℕ). HasNoByte 32 w) (sym (append-nil (run_text m)) ∙ text ∙ split.whole) free)
    first_run m (n ∷ ms) text free may =
        no' m may (split_same 32 (run_text m) first (runs_text (n ∷ ms)) others free split.first (text ∙ split.whole)).0

pub list_refused_at_end : (rows : ℕ) (word rest list : List ℕ) (below left : ℕ) → rows < 2 ^ 32 → word ≢ codes "-" → RunsReadSoFar rows word rest list below left
    → HasNoByte 32 rest → Spells run_text (RunMayFollow below left) rest None → Spells list_text (IsList rows) word None
list_refused_at_end rows word rest list below left fits dash h none no' l is e =
    let s = others_text rows word rest list below left fits dash h l is e in
    first_run s.run s.more s.text (may_be_next rows word rest list below left h l is s)
  where
    first_run : (m : Piece) (ms : List Piece) → runs_text (m ∷ ms) ≡ rest → RunMayFollow below left m → ⊥
    first_run m [] text may = no' m may (sym (append-nil (run_text m)) ∙ text)
    first_run m (n ∷ ms) text may = not_without 32 (run_text m) (runs_text (n ∷ ms)) (subst (λ (w : List ℕ). HasNoByte 32 w) (sym text) none)

pub dash_is_empty_list : (rows : ℕ) (word list : List ℕ) → list ≡ [] → word ≡ codes "-" → Spells list_text (IsList rows) word (Some list)
unfolding runs_of
dash_is_empty_list rows word list none is =
    subst (λ (l : List ℕ). Spells list_text (IsList rows) word (Some l)) (sym none)
    (record { descends = λ r. omega arith; positive = λ k d lt. absurd (omega arith); within = omega arith }, sym is)
