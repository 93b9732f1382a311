-- The texts of an accepted run.
use Rattle.std.specs.Prelude.{ℕ, List, ◌++◌, Option, None, Some}
use Rattle.printed_texts.specs.Memory.{memory_text}
use Rattle.printed_texts.specs.Texts.{rows_lines}
use Rattle.prepared_runs.specs.AcceptedQuery.{AcceptedQuery, part_counts, printed}
use Rattle.prepared_runs.specs.Shapes.{shape_audits, shape_lines}
use Rattle.plans.specs.declared.bushy.BushyPlan.{BushyPlan}
use Rattle.tree_rows.specs.Memory.{tree_bytes}
use Rattle.query_types.specs.declared.types.Source.{Source}
use Rattle.safebound_words.specs.declared.command.OutText.{OutText}
use Rattle.safebound_words.specs.declared.command.OutText.TheVariants as out_text
use Rattle.safebound_words.specs.declared.command.Shape.{Shape}

-- the text for notes: a line with the bound of each scan, and then a line with the bound of each level of the plan's order, or of each
-- inner node of its tree. With a limit of memory, the line with the plan's bytes comes last
abbrev pub plan_text_of : List Source → Shape → BushyPlan → Option ℕ → List ℕ
plan_text_of sources shape plan limit = shape_lines sources shape plan ++ memory_text limit (tree_bytes plan)

-- the plan text of an accepted query
abbrev pub plan_text : AcceptedQuery → List ℕ
plan_text run = plan_text_of run.query.from run.shape run.plan run.memory

-- the header, and then a record for each row that is printed
abbrev pub rows_text : AcceptedQuery → List ℕ
rows_text run = rows_lines run.query.select (printed run)

-- a line for each level of the plan's order, or for each inner node of its tree: the bound of the level or node, and how many rows it has
abbrev pub audit_text : AcceptedQuery → List ℕ
audit_text run = shape_audits run.query.from run.shape run.plan (part_counts run)

-- the text for out, if there is one
abbrev pub text_for : OutText → AcceptedQuery → Option (List ℕ)
text_for out_text.Rows run = Some (rows_text run)
text_for out_text.Audit run = Some (audit_text run)
text_for out_text.Nothing run = None

abbrev pub out_text_of : AcceptedQuery → Option (List ℕ)
out_text_of run = text_for run.out run
