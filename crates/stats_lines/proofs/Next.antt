-- Each search of `NextValues` finds the value that may come next in a draft and that given words spell.
use Rattle.std.proofs.Common.{◌≡◌, ◌≢◌, ℕ, ◌-◌, ◌<◌, ◌≤◌, Bool, true, false, List, [], length, refl, ap, subst, ◌∙◌, Some}
use Rattle.std.specs.Prelude.{slice_get, sum, decimal, nat_lt, not, ◌==◌, ◌||◌, ◌&&◌}
use Rattle.std.specs.declared.cmp.Ordering.{Ordering}
use Rattle.std.specs.declared.cmp.Ordering.TheVariants.{Less, Equal, Greater}
use Rattle.std.proofs.lemmas.Bool.{both_ways}
use Rattle.limits.specs.Profile.{least_accuracy, most_accuracy}
use Rattle.stats_file.specs.declared.types.Datum.{Datum}
use Rattle.stats_file.specs.declared.types.PairStats.{PairStats}
use Rattle.stats_file.specs.Lines.{datum_text}
use Rattle.stats_file.specs.Rules.{datum_cmp, IsList, IsOfKind}
use Rattle.stats_words.specs.Runs.{list_text}
use Rattle.stats_reading.specs.declared.draft.Draft.{Draft}
use Rattle.stats_reading.specs.Drafts.{frequent_words, list_word, number_word, value_word, CutFollows, FrequentFollows, IsSameRest, IsSameTotal, IsSameValue, HasAllNodes, MayBeAccuracy, MayBeCut, MayBeFrequent, MayBeNode, MayBeRest, MayBeWhole, NodeFollows, RestFollows, WholeFollows}
use Rattle.stats_lines.specs.Searches.{when, is_some_that_passes}
use Rattle.stats_lines.specs.NextValues.{cut_follows, frequent_follows, has_all_nodes, is_not_greater, is_same_datum, is_same_value, next_accuracy, next_cut, next_frequent, next_node, next_rest, next_whole, node_follows, rest_follows, whole_follows}
use Rattle.stats_lines.proofs.Deciding.{tells_all, tells_alike, tells_and, tells_at_most, tells_equal, tells_if_some, tells_less, tells_not, tells_same_numbers, tells_some, finds_alike, finds_one, finds_when, Finds, Tells}
use Rattle.stats_lines.proofs.Values.{list, number, same_datum, value, Spelled}

-- ---- tests whether a value may come after the earlier values

follows_whole : (s : Draft) (l : List ℕ) → Tells (whole_follows s l) (WholeFollows s l)
follows_whole s l =
    tells_alike (λ h. record { all = h.0; alike = h.1 }) (λ h. (h.all, h.alike))
    (tells_and (tells_equal (sum l) s.section.rows) (tells_if_some {P = λ (q : PairStats). q.whole ≡ l} (λ q. tells_same_numbers q.whole l) (slice_get s.section.pairs s.same_joined_at)))

same_value : (place : ℕ) (f : Datum × List ℕ) (q : PairStats) → Tells (is_same_value place f q) (IsSameValue place f q)
same_value place f q =
    tells_alike (λ h. record { other = h.0; there = h.1; value = h.2.0; total = h.2.1 }) (λ h. (h.other, h.there, (h.value, h.total)))
    (tells_some {P = λ (other : Datum × List ℕ). (other.0 ≡ f.0) × (sum other.1 ≡ sum f.1)} (λ other. tells_and (same_datum other.0 f.0) (tells_equal (sum other.1) (sum f.1))) (slice_get q.frequent place))

follows_frequent : (s : Draft) (f : Datum × List ℕ) → Tells (frequent_follows s f) (FrequentFollows s f)
follows_frequent s f =
    tells_alike (λ h. record { within_limit = h.0.0; differs = h.0.1; alike = h.1 }) (λ h. ((h.within_limit, h.differs), h.alike))
    (tells_and (tells_and (tells_less (length s.pair.frequent) 32) (tells_all {P = λ (e : Datum × List ℕ). e.0 ≢ f.0} (λ e. tells_not (same_datum e.0 f.0)) s.pair.frequent))
    (tells_if_some {P = IsSameValue (length s.pair.frequent) f} (same_value (length s.pair.frequent) f) (slice_get s.section.pairs s.same_filter_at)))

follows_rest : (s : Draft) (l : List ℕ) → Tells (rest_follows s l) (RestFollows s l)
follows_rest s l =
    tells_alike (λ h. record { alike = h }) (λ h. h.alike)
    (tells_if_some {P = IsSameRest (length s.pair.frequent) l}
    (λ (q : PairStats). tells_alike (λ h. record { count_is = h.0; total = h.1 }) (λ h. (h.count_is, h.total)) (tells_and (tells_equal (length q.frequent) (length s.pair.frequent)) (tells_equal (sum q.rest) (sum l))))
    (slice_get s.section.pairs s.same_filter_at))

not_greater : (o : Ordering) → Tells (is_not_greater o) (o ≢ Greater)
not_greater Less = record { yes = λ e f. cc; no = λ e h. both_ways true e refl }
not_greater Equal = record { yes = λ e f. cc; no = λ e h. both_ways true e refl }
not_greater Greater = record { yes = λ e. absurd (both_ways false refl e); no = λ e h. h refl }

follows_cut : (s : Draft) (cut : Datum) → Tells (cut_follows s cut) (CutFollows s cut)
follows_cut s cut =
    tells_alike (λ h. record { some = h.0.0.0; within_limit = h.0.0.1; order = h.0.1; alike = h.1 }) (λ h. (((h.some, h.within_limit), h.order), h.alike))
    (tells_and (tells_and (tells_and (tells_less 0 s.section.rows) (tells_less (length s.pair.cuts) 32))
    (tells_if_some {P = λ last. datum_cmp last cut ≢ Greater} (λ last. not_greater (datum_cmp last cut)) (slice_get s.pair.cuts (length s.pair.cuts - 1))))
    (tells_if_some {P = λ (q : PairStats). slice_get q.cuts (length s.pair.cuts) ≡ Some cut} same_cut (slice_get s.section.pairs s.same_filter_at)))
  where
    same_cut : (q : PairStats) → Tells (is_some_that_passes (λ other. is_same_datum other cut) (slice_get q.cuts (length s.pair.cuts))) (slice_get q.cuts (length s.pair.cuts) ≡ Some cut)
    same_cut q =
        tells_alike (λ h. let is = h.1 in let e = h.2 in cc) (λ e. (cut, e, refl))
        (tells_some {P = λ other. other ≡ cut} (λ other. same_datum other cut) (slice_get q.cuts (length s.pair.cuts)))

follows_node : (s : Draft) (node : List ℕ) → Tells (node_follows s node) (NodeFollows s node)
follows_node s node =
    tells_alike (λ h. record { some = h.0.0.0; all_cuts = h.0.0.1; within_limit = h.0.1; alike = h.1 }) (λ h. (((h.some, h.all_cuts), h.within_limit), h.alike))
    (tells_and (tells_and (tells_and (tells_less 0 s.section.rows) (tells_equal (length s.pair.cuts) 32)) (tells_less (length s.pair.nodes) 63))
    (tells_if_some {P = IsSameTotal (length s.pair.nodes) node} same_total (slice_get s.section.pairs s.same_filter_at)))
  where
    same_total : (q : PairStats) → Tells (is_some_that_passes (λ other. sum other == sum node) (slice_get q.nodes (length s.pair.nodes))) (IsSameTotal (length s.pair.nodes) node q)
    same_total q =
        tells_alike (λ h. record { other = h.0; there = h.1; total = h.2 }) (λ h. (h.other, h.there, h.total))
        (tells_some {P = λ other. sum other ≡ sum node} (λ other. tells_equal (sum other) (sum node)) (slice_get q.nodes (length s.pair.nodes)))

pub tells_all_nodes : (s : Draft) → Tells (has_all_nodes s) (HasAllNodes s)
tells_all_nodes s = by (nat_lt 0 s.section.rows) (tells_less 0 s.section.rows) (tells_and (tells_equal (length s.pair.cuts) 32) (tells_equal (length s.pair.nodes) 63))
  where
    All : Type 0
    All = (length s.pair.cuts ≡ 32) × (length s.pair.nodes ≡ 63)

    by : (some : Bool) → Tells some (0 < s.section.rows) → Tells (length s.pair.cuts == 32 && length s.pair.nodes == 63) All
        → Tells (not some || (length s.pair.cuts == 32 && length s.pair.nodes == 63)) (HasAllNodes s)
    by true some all = tells_alike (λ h lt. h) (λ h. h (some.yes refl)) all
    by false some all = record { yes = λ e lt. absurd (some.no refl lt); no = λ e h. both_ways true e refl }

-- ---- the values

-- a value that may come next and that these words spell
pub record IsNext {V : Type 0} (text : V → List ℕ × List ℕ) (MayBe : V → Type 0) (words : List ℕ × List ℕ) (value : V) : Type 0 where
  pub may : MayBe value
  pub spells : text value ≡ words

-- the words of a line that has only one word: the second word is empty
abbrev only_word : List ℕ → List ℕ × List ℕ
only_word word = (word, [])

-- what a value gives that passes a further test: itself
pub itself : {V : Type 0} {test : V → Bool} {P : V → Type 0} → ((v : V) → Tells (test v) (P v)) → (v : V) → Finds (when (test v) (Some v)) (λ x. P v × (v ≡ x))
itself one v = finds_when (one v) (finds_one v)

module _ {V : Type 0} (text : V → List ℕ) (May P : V → Type 0) (word : List ℕ) where
  pub one_word_to : (x : V) → Spelled text May (λ v x. P v × (v ≡ x)) word x → IsNext (λ v. only_word (text v)) (λ v. May v × P v) (word, []) x
  one_word_to x h =
      subst (IsNext (λ v. only_word (text v)) (λ v. May v × P v) (word, [])) h.gives.1 (record { may = (h.may, h.gives.0); spells = ap only_word h.spells })

  pub one_word_from : (x : V) → IsNext (λ v. only_word (text v)) (λ v. May v × P v) (word, []) x → Spelled text May (λ v x. P v × (v ≡ x)) word x
  one_word_from x h = record { value = x; may = h.may.0; spells = ap (λ (p : List ℕ × List ℕ). p.0) h.spells; gives = (h.may.1, refl) }

pub accuracy_found : (word : List ℕ) → Finds (next_accuracy word) (IsNext number_word MayBeAccuracy (word, []))
unfolding next_accuracy
accuracy_found word =
    finds_alike (λ x h. let n = one_word_to decimal (λ n. n ≤ most_accuracy) (λ n. least_accuracy ≤ n) word x h in record { may = (n.may.1, n.may.0); spells = n.spells })
    (λ x h. one_word_from decimal (λ n. n ≤ most_accuracy) (λ n. least_accuracy ≤ n) word x (record { may = (h.may.1, h.may.0); spells = h.spells }))
    (number (itself {P = λ n. least_accuracy ≤ n} (λ n. tells_at_most least_accuracy n)) most_accuracy word)

pub whole_found : (s : Draft) (word : List ℕ) → Finds (next_whole s word) (IsNext list_word (MayBeWhole s) (word, []))
unfolding next_whole
whole_found s word =
    finds_alike (one_word_to list_text (IsList s.section.rows) (WholeFollows s) word) (one_word_from list_text (IsList s.section.rows) (WholeFollows s) word)
    (list (itself {P = WholeFollows s} (follows_whole s)) s.section.rows word)

pub rest_found : (s : Draft) (word : List ℕ) → Finds (next_rest s word) (IsNext list_word (MayBeRest s) (word, []))
unfolding next_rest
rest_found s word =
    finds_alike (one_word_to list_text (IsList s.section.rows) (RestFollows s) word) (one_word_from list_text (IsList s.section.rows) (RestFollows s) word)
    (list (itself {P = RestFollows s} (follows_rest s)) s.section.rows word)

pub node_found : (s : Draft) (word : List ℕ) → Finds (next_node s word) (IsNext list_word (MayBeNode s) (word, []))
unfolding next_node
node_found s word =
    finds_alike (one_word_to list_text (IsList s.section.rows) (NodeFollows s) word) (one_word_from list_text (IsList s.section.rows) (NodeFollows s) word)
    (list (itself {P = NodeFollows s} (follows_node s)) s.section.rows word)

pub cut_found : (s : Draft) (word : List ℕ) → Finds (next_cut s word) (IsNext value_word (MayBeCut s) (word, []))
unfolding next_cut
cut_found s word =
    finds_alike (one_word_to datum_text (IsOfKind s.kind) (CutFollows s) word) (one_word_from datum_text (IsOfKind s.kind) (CutFollows s) word)
    (value (itself {P = CutFollows s} (follows_cut s)) word s.kind)

-- a value with a list that the second word spells
abbrev WithList : Draft → List ℕ → Datum → Datum × List ℕ → Type 0
WithList s word v x = Spelled list_text (IsList s.section.rows) (λ l x. FrequentFollows s (v, l) × ((v, l) ≡ x)) word x

pub frequent_found : (s : Draft) (words : List ℕ × List ℕ) → Finds (next_frequent s words) (IsNext frequent_words (MayBeFrequent s) words)
unfolding next_frequent
frequent_found s words =
    finds_alike to from
    (value {R = WithList s words.1}
    (λ v. list {R = λ l x. FrequentFollows s (v, l) × ((v, l) ≡ x)} (λ l. finds_when (follows_frequent s (v, l)) (finds_one (v, l))) s.section.rows words.1) words.0 s.kind)
  where
    to : (x : Datum × List ℕ) → Spelled datum_text (IsOfKind s.kind) (WithList s words.1) words.0 x → IsNext frequent_words (MayBeFrequent s) words x
    to x h =
        let l = h.gives in
        let first = h.spells in
        let second = l.spells in
        subst (IsNext frequent_words (MayBeFrequent s) words) l.gives.1
        (record { may = (h.may, l.may, l.gives.0); spells = ap (λ (y : List ℕ). two y (list_text l.value)) first ∙ ap (λ (y : List ℕ). two words.0 y) second })
      where
        two : List ℕ → List ℕ → List ℕ × List ℕ
        two a b = (a, b)

    from : (x : Datum × List ℕ) → IsNext frequent_words (MayBeFrequent s) words x → Spelled datum_text (IsOfKind s.kind) (WithList s words.1) words.0 x
    from x h = record {
      value = x.0;
      may = h.may.0;
      spells = ap (λ (p : List ℕ × List ℕ). p.0) h.spells;
      gives = record { value = x.1; may = h.may.1; spells = ap (λ (p : List ℕ × List ℕ). p.1) h.spells; gives = (h.may.2, refl) };
    }
