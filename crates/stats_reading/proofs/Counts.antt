-- Pairs of a table agree. If they have the same filter column, their counts are the same. If they have the same joined column, their lists of all
-- rows are the same.
use Rattle.std.proofs.Common.{◌≡◌, ℕ, zero, suc, ◌<◌, List, length, get_or, refl, sym, subst, ◌∙◌, arith, Option, Some, None}
use Rattle.std.specs.Prelude.{All, AllPairs, slice_get}
use Rattle.std.proofs.lemmas.Option.{get_or_from_slice_get, slice_get_within}
use Rattle.schema_types.specs.declared.types.Table.{Table}
use Rattle.stats_file.specs.declared.types.PairStats.{PairStats}
use Rattle.stats_file.specs.Rules.{PairsAgree, HaveSameFilterCounts}
use Rattle.stats_reading.specs.declared.draft.Draft.{Draft}
use Rattle.stats_reading.specs.Drafts.{HasSameFilter, HasSameJoined}
use Rattle.stats_reading.specs.Valid.{HasKindAndIndexes}
use Rattle.stats_reading.proofs.NextFacts.{same_joined_same_whole}
use Rattle.stats_reading.proofs.RuleFacts.{PairRules}

pub same_counts_refl : (a : PairStats) → HaveSameFilterCounts a a
same_counts_refl a = record { values = refl; totals = refl; rest = refl; cuts = refl; nodes = refl }

pub same_counts_sym : (a b : PairStats) → HaveSameFilterCounts a b → HaveSameFilterCounts b a
same_counts_sym a b h = record { values = sym h.values; totals = sym h.totals; rest = sym h.rest; cuts = sym h.cuts; nodes = sym h.nodes }

pub same_counts_trans : (a b c : PairStats) → HaveSameFilterCounts a b → HaveSameFilterCounts b c → HaveSameFilterCounts a c
same_counts_trans a b c h k = record { values = h.values ∙ k.values; totals = h.totals ∙ k.totals; rest = h.rest ∙ k.rest; cuts = h.cuts ∙ k.cuts; nodes = h.nodes ∙ k.nodes }

pub agree_sym : (a b : PairStats) → PairsAgree a b → PairsAgree b a
agree_sym a b h = record { joined = λ e. sym (h.joined (sym e)); filter = λ e. same_counts_sym a b (h.filter (sym e)) }

pub agree_refl : (a : PairStats) → PairsAgree a a
agree_refl a = record { joined = λ e. refl; filter = λ e. same_counts_refl a }

pub data Tri (a b : ℕ) : Type 0 where
  before : a < b → Tri a b
  same : a ≡ b → Tri a b
  behind : b < a → Tri a b

pub tri : (a b : ℕ) → Tri a b
tri zero zero = same refl
tri zero (suc b) = before (omega arith)
tri (suc a) zero = behind (omega arith)
tri (suc a) (suc b) = up (tri a b)
  where
    up : Tri a b → Tri (suc a) (suc b)
    up (before h) = before (omega arith)
    up (same h) = same (omega arith)
    up (behind h) = behind (omega arith)

pub members_agree : (pairs : List PairStats) (i j : ℕ) (d e : PairStats) → AllPairs PairsAgree pairs → i < length pairs → slice_get pairs j ≡ Some e → PairsAgree (get_or pairs i d) e
members_agree pairs i j d e agree lt is = subst (λ (x : PairStats). PairsAgree (get_or pairs i d) x) (get_or_from_slice_get pairs j e d is) (at (tri i j))
  where
    within : j < length pairs
    within = slice_get_within pairs j e is

    at : Tri i j → PairsAgree (get_or pairs i d) (get_or pairs j d)
    at (before h) = agree i j d h within
    at (same h) = subst (λ (n : ℕ). PairsAgree (get_or pairs i d) (get_or pairs n d)) h (agree_refl (get_or pairs i d))
    at (behind h) = agree_sym (get_or pairs j d) (get_or pairs i d) (agree j i d h lt)

-- `other` agrees with all earlier pairs if it has the counts of p whenever an earlier pair has p's filter column
pub agrees_after : (table : Table) (s : Draft) (p other : PairStats) (rows : ℕ) → HasKindAndIndexes table s → PairRules table rows s.section.pairs p → p.filter ≡ s.pair.filter
    → other.filter ≡ p.filter → other.joined ≡ p.joined → other.whole ≡ p.whole → ((q : PairStats) → HasSameFilter s q → HaveSameFilterCounts p other) → All (λ q. PairsAgree q other) s.section.pairs
agrees_after table s p other rows known rules at_filter same_filter same_joined same_whole counts k d lt =
    let q = get_or s.section.pairs k d in
    let old = rules.agree k d lt in
    record {
      joined = λ e. old.joined (e ∙ same_joined) ∙ sym same_whole;
      filter = λ e. by_like (e ∙ same_filter) (slice_get s.section.pairs s.same_filter_at) refl;
    }
  where
    by_like : (get_or s.section.pairs k d).filter ≡ p.filter → (o : Option PairStats) → slice_get s.section.pairs s.same_filter_at ≡ o → HaveSameFilterCounts (get_or s.section.pairs k d) other
    by_like e None is = absurd (known.same_filter_at.none is k d lt (e ∙ at_filter))
    by_like e (Some same_filter_at) is = same_counts_trans (get_or s.section.pairs k d) p other ((rules.agree k d lt).filter e) (counts same_filter_at is)

-- if an earlier pair has the joined column of p, `list` must be its list of all rows
pub agrees_whole : (table : Table) (s : Draft) (p : PairStats) (list : List ℕ) (rows : ℕ) → HasKindAndIndexes table s → PairRules table rows s.section.pairs p → p.joined ≡ s.pair.joined
    → ((q : PairStats) → HasSameJoined s q → q.whole ≡ list) → All (λ q. PairsAgree q (record p { whole = list })) s.section.pairs
agrees_whole table s p list rows known rules at_joined alike k d lt =
    let old = rules.agree k d lt in
    record { joined = λ e. by_twin e (slice_get s.section.pairs s.same_joined_at) refl; filter = λ e. again (old.filter e) }
  where
    again : HaveSameFilterCounts (get_or s.section.pairs k d) p → HaveSameFilterCounts (get_or s.section.pairs k d) (record p { whole = list })
    again h = record { values = h.values; totals = h.totals; rest = h.rest; cuts = h.cuts; nodes = h.nodes }

    by_twin : (get_or s.section.pairs k d).joined ≡ p.joined → (o : Option PairStats) → slice_get s.section.pairs s.same_joined_at ≡ o → (get_or s.section.pairs k d).whole ≡ list
    by_twin e None is = absurd (known.same_joined_at.none is k d lt (e ∙ at_joined))
    by_twin e (Some same_joined_at) is = (rules.agree k d lt).joined e ∙ sym (same_joined_same_whole table s p rows known rules at_joined same_joined_at is) ∙ alike same_joined_at is
