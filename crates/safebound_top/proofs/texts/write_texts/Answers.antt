use Rattle.std.proofs.Common.{◌≡◌, ℕ, List, ◌++◌, ap, ◌∙◌}
use Rattle.printed_texts.specs.Memory.{memory_text}
use Rattle.query_types.specs.declared.types.Source.{Source}
use Rattle.sql_meaning.proofs.AnswerFacts.{names_its_entries}
use Rattle.prepared_runs.specs.PreparedQuery.{accepted_of, pending_plan}
use Rattle.prepared_runs.specs.Shapes.{shape_lines}
use Rattle.plans.specs.declared.bushy.BushyPlan.{BushyPlan}
use Rattle.tree_rows.specs.Memory.{tree_bytes}
use Rattle.safebound_top.specs.Texts.{plan_text}
use Rattle.prepared_runs.specs.declared.prepare.PreparedQuery.{PreparedQuery}
use Rattle.prepared_runs.proofs.KeptFacts.{kept_is}
use Rattle.safebound_top.proofs.RestTexts.{rest_is}
use Rattle.safebound_top.proofs.TextSteps.{both_wrote, notes_cut, out_cut}
use Rattle.safebound_top.proofs.texts.write_texts.Goals as goal

text_is : (p : PreparedQuery) {sources : List Source} {plan : BushyPlan} → sources ≡ p.query.from → plan ≡ pending_plan p.rest → p.bytes ≡ tree_bytes (pending_plan p.rest)
    → shape_lines sources p.shape plan ++ memory_text p.memory p.bytes ≡ plan_text (accepted_of p)
text_is p {plan = plan} from is bytes =
    ap (λ (s : List Source). shape_lines s p.shape plan ++ memory_text p.memory p.bytes) from
    ∙ ap (λ (t : BushyPlan). shape_lines p.query.from p.shape t ++ memory_text p.memory p.bytes) is
    ∙ ap (λ (b : ℕ). shape_lines p.query.from p.shape (pending_plan p.rest) ++ memory_text p.memory b) bytes

pub write_plan_text-requires : goal.write_plan_text-requires
write_plan_text-requires g c = rw (c.as_slice.ensures, c.plan_of-plan.ensures) c.requires.ready.plan

pub returns-in-Err-clause-texts : goal.returns-in-Err-clause-texts
returns-in-Err-clause-texts g c =
    let p = c.args.prepared in
    notes_cut _ _ _ _ _ _ (accepted_of p) _ _ (text_is p c.as_slice.ensures c.plan_of-plan.ensures c.requires.ready.bytes) c.in-Err.ensures

pub returns-in-Ok-join_and_write-clause-texts : goal.returns-in-Ok-join_and_write-clause-texts
returns-in-Ok-join_and_write-clause-texts g c =
    let p = c.args.prepared in
    both_wrote _ _ _ _ _ _ _ _ (accepted_of p) _ _ tt tt (text_is p c.as_slice.ensures c.plan_of-plan.ensures c.requires.ready.bytes)
    (rest_is p.query p.db p.source (accepted_of p).lists p.shape p.memory p.rest (names_its_entries p.query p.db c.requires.ready.database) c.requires.ready.tables c.requires.ready.room c.requires.ready.lists) c.in-Ok.ensures c.in-Ok-join_and_write.ensures.text

pub returns-clause-texts : goal.returns-clause-texts
returns-clause-texts g c =
    let p = c.args.prepared in
    out_cut _ _ _ _ _ _ _ _ (accepted_of p) _ _ tt _ (text_is p c.as_slice.ensures c.plan_of-plan.ensures c.requires.ready.bytes)
    (rest_is p.query p.db p.source (accepted_of p).lists p.shape p.memory p.rest (names_its_entries p.query p.db c.requires.ready.database) c.requires.ready.tables c.requires.ready.room c.requires.ready.lists) c.in-Ok.ensures c.in-Err-join_and_write.ensures.text

pub returns-in-Ok-join_and_write-clause-kept : goal.returns-in-Ok-join_and_write-clause-kept
returns-in-Ok-join_and_write-clause-kept g c =
    let p = c.args.prepared in
    let ready = c.requires.ready in
    kept_is p.query p.db p.source (accepted_of p).lists p.shape p.memory ready.tables p.bytes p.rest _ ready.lists ready.held ready.bytes c.in-Ok-join_and_write.ensures.kept
