use Rattle.std.proofs.Common.{◌≡◌, refl}
use Rattle.safebound_c.proofs.StatusFacts.{done_for_number_in_detail, done_from_status, buffer_is_unchanged}
use Rattle.safebound_c.proofs.bounding.safebound_set_bound.Goals as goal

pub returns-clause-exact : goal.returns-clause-exact
returns-clause-exact c = record {
  answer = c.set_bound.result;
  told = c.answer_status.ensures.status;
  detail = c.answer_status.ensures.detail;
  done = c.set_bound.ensures.done;
  refused = c.set_bound.ensures.refused;
  kept = buffer_is_unchanged (c.args.rows.now ≡ c.args.rows.now) c.set_bound.result refl;
}

pub returns-clause-valid : goal.returns-clause-valid
returns-clause-valid c = λ zero. done_from_status _ c.set_bound.result c.answer_status.result c.answer_status.ensures.status zero c.set_bound.ensures.valid

pub returns-clause-there : goal.returns-clause-there
returns-clause-there c = λ zero. done_from_status _ c.set_bound.result c.answer_status.result c.answer_status.ensures.status zero c.set_bound.ensures.there

pub returns-clause-never_under : goal.returns-clause-never_under
returns-clause-never_under c = λ zero. done_for_number_in_detail _ c.set_bound.result c.answer_status.result c.answer_status.new.detail _ c.answer_status.ensures.status c.answer_status.ensures.detail zero c.set_bound.ensures.never_under
