use Rattle.std.proofs.Common.{◌↔◌, ℕ, List, subst, IsTrue}
use Rattle.stats_file.specs.declared.types.Datum.{Datum}
use Rattle.stats_file.specs.declared.types.PairStats.{PairStats}
use Rattle.stats_reading.specs.Drafts.{HasSameFilter, IsSameValue}
use Rattle.stats_reading.proofs.CodeFacts.{for_pair_at}
use Rattle.stats_reading.proofs.follows.is_alike_frequent.Goals as goal

pub returns-in-Some : goal.returns-in-Some
returns-in-Some c =
    let s = c.args.draft.now in
    let f : Datum × List ℕ = (c.args.value.now, c.args.list.now) in
    subst (λ (n : ℕ). IsTrue c.has_value.result ↔ ((q : PairStats) → HasSameFilter s q → IsSameValue n f q)) c.len.ensures
    (for_pair_at s.section.pairs s.same_filter_at c.in-Some.earlier.now (IsSameValue c.len.result f) c.has_value.result c.in-Some.ensures c.has_value.ensures)
