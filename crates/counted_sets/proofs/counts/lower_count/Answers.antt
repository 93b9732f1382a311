use Rattle.std.proofs.Common.{arith, set, sym, subst, ◌-◌}
use Rattle.counted_sets.specs.Counts.{IsWorkOf}
use Rattle.counted_sets.proofs.Listing.{slot_not_listed_yet, work_after_last_giver, work_after_one_giver_less}
use Rattle.counted_sets.proofs.counts.lower_count.Goals as goal

pub push-requires : goal.push-requires
push-requires c = omega (arith, c.requires.listed.spare, slot_not_listed_yet c.args.counts.now.items c.args.slot c.requires.within c.requires.some)

pub returns-then-left-eq0-clause-listed : goal.returns-then-left-eq0-clause-listed
returns-then-left-eq0-clause-listed c =
    subst (λ counts. IsWorkOf counts c.push.new.self) (sym c.set.ensures.items)
    (work_after_last_giver c.args.counts.now.items c.args.work.now c.push.new.self c.args.slot (c.get-left.result - 1) c.requires.within c.requires.some c.if-left-eq0.true c.push.ensures.items c.push.ensures.spare c.requires.listed)

pub returns-else-left-eq0-clause-listed : goal.returns-else-left-eq0-clause-listed
returns-else-left-eq0-clause-listed c =
    subst (λ counts. IsWorkOf counts c.args.work.now) (sym c.set.ensures.items)
    (work_after_one_giver_less c.args.counts.now.items c.args.work.now c.args.slot (c.get-left.result - 1) c.requires.within c.requires.some c.if-left-eq0.false c.requires.listed)
