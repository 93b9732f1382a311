use Rattle.std.proofs.Common.{ℕ, List, length, ap, sym, subst, ◌∙◌}
use Rattle.base_io.proofs.WriteFacts.{wrote_equal_text}
use Rattle.joined_texts.specs.Printed.{printed_rows}
use Rattle.join_steps.specs.Lists.{lists_of}
use Rattle.printed_texts.specs.Texts.{rows_lines}
use Rattle.sql_meaning.specs.Tables.{tables_of}
use Rattle.prepared_runs.specs.Shapes.{IsShapedPlan, joined_entries, part_sizes, shape_audits}
use Rattle.plans.specs.declared.bushy.BushyPlan.{BushyPlan}
use Rattle.prepared_runs.proofs.KeptFacts.{are_done, counts_are, has_parts}
use Rattle.safebound_top.proofs.texts.join_and_write.Goals as goal

pub join-joined-requires-clause-joins : goal.join-joined-requires-clause-joins
join-joined-requires-clause-joins g c = rw c.in-Rows.is at c.requires.room

pub write_joined-result-requires-clause-joined : goal.write_joined-result-requires-clause-joined
write_joined-result-requires-clause-joined g c = (lists_of c.in-Rows.joins.lists.items, c.join-joined.ensures.joined)

pub returns-in-Rows-clause-text : goal.returns-in-Rows-clause-text
returns-in-Rows-clause-text g c =
    let query = c.args.query.now in
    rw c.in-Rows.is (wrote_equal_text _ (ap (λ (plan : BushyPlan). rows_lines query.select (printed_rows query c.args.db.now (joined_entries plan))) c.join-joined.ensures.plan)
    c.write_joined-result.ensures)

pub returns-in-Rows-clause-kept : goal.returns-in-Rows-clause-kept
returns-in-Rows-clause-kept g c =
    let done = c.join-joined in
    rw c.in-Rows.is (are_done c.args.query.now c.args.db.now c.args.shape c.in-Rows.joins done.result c.requires.database (rw c.in-Rows.is at c.requires.plan) done.ensures.plan done.ensures.joined done.ensures.bytes)

pub join-joined-requires-in-Audit-clause-joins : goal.join-joined-requires-in-Audit-clause-joins
join-joined-requires-in-Audit-clause-joins g c = rw c.in-Audit.is at c.requires.room

pub write_audit_text-result-requires : goal.write_audit_text-result-requires
write_audit_text-result-requires g c =
    let query = c.args.query.now in
    let shape = c.args.shape in
    let done = c.join-joined-in-Audit in
    let of : IsShapedPlan (length query.from) shape done.result.plan = subst (IsShapedPlan (length query.from) shape) (sym done.ensures.plan) (rw c.in-Audit.is at c.requires.plan) in
    record {
      database = c.requires.database;
      parts = has_parts query c.args.db.now (lists_of c.in-Audit.joins.lists.items) c.requires.database shape done.result of done.ensures.joined;
    }

pub returns-in-Audit-clause-text : goal.returns-in-Audit-clause-text
returns-in-Audit-clause-text g c =
    let query = c.args.query.now in
    let db = c.args.db.now in
    let lists = lists_of c.in-Audit.joins.lists.items in
    let shape = c.args.shape in
    let done = c.join-joined-in-Audit in
    let of : IsShapedPlan (length query.from) shape done.result.plan = subst (IsShapedPlan (length query.from) shape) (sym done.ensures.plan) (rw c.in-Audit.is at c.requires.plan) in
    rw c.in-Audit.is (wrote_equal_text _ (ap (λ (counts : List ℕ). shape_audits query.from shape done.result.plan counts) (counts_are query db lists c.requires.database shape done.result of done.ensures.joined)
    ∙ ap (λ (plan : BushyPlan). shape_audits query.from shape plan (part_sizes query (tables_of db) lists shape plan)) done.ensures.plan)
    c.write_audit_text-result.ensures)

pub returns-in-Audit-clause-kept : goal.returns-in-Audit-clause-kept
returns-in-Audit-clause-kept g c =
    let done = c.join-joined-in-Audit in
    rw c.in-Audit.is (are_done c.args.query.now c.args.db.now c.args.shape c.in-Audit.joins done.result c.requires.database (rw c.in-Audit.is at c.requires.plan) done.ensures.plan done.ensures.joined done.ensures.bytes)
