use Rattle.std.proofs.Common.{◌≡◌, ℕ, List, [], refl}
use Rattle.safebound_c.proofs.StatusFacts.{done_for_number_in_detail, buffer_is_unchanged}
use Rattle.safebound_c.proofs.joining.safebound_joined_rows.Goals as goal

-- this call has no buffer to write to
abbrev no_room : List ℕ
no_room = []

pub returns-clause-exact : goal.returns-clause-exact
returns-clause-exact c = record {
  answer = c.most_rows_of_kind.result;
  told = c.answer_status.ensures.status;
  detail = c.answer_status.ensures.detail;
  done = c.most_rows_of_kind.ensures.done;
  refused = c.most_rows_of_kind.ensures.refused;
  kept = buffer_is_unchanged (no_room ≡ no_room) c.most_rows_of_kind.result refl;
}

pub returns-clause-never_under : goal.returns-clause-never_under
returns-clause-never_under c = λ zero. done_for_number_in_detail _ c.most_rows_of_kind.result c.answer_status.result c.answer_status.new.detail _ c.answer_status.ensures.status c.answer_status.ensures.detail zero c.most_rows_of_kind.ensures.never_under
