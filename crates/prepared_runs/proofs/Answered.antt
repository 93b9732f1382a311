-- The reader of a text returns the only answer that the text has, or NoMemory.
use Rattle.std.proofs.Common.{◌≡◌, ◌⊎◌, ℕ, List, Option, Result, Ok, Err, inl, inr, ap, sym, ◌∙◌, subst}
use Rattle.schema_types.specs.Texts.{IsSchemaOf}
use Rattle.schema_types.specs.declared.errors.SchemaError.{SchemaError}
use Rattle.schema_types.specs.declared.errors.SchemaError.TheVariants as schema
use Rattle.schema_types.specs.declared.types.Schema.{Schema}
use Rattle.query_types.specs.declared.types.Query.{Query}
use Rattle.sql_parse.specs.Reading.{IsAnswer}
use Rattle.query_names.specs.declared.errors.QueryError.{QueryError}
use Rattle.query_names.specs.declared.errors.QueryError.TheVariants as query
use Rattle.text_answers.specs.QueryTexts.{query_answer}
use Rattle.text_answers.specs.SchemaTexts.{schema_answer}
use Rattle.text_answers.proofs.QueryAnswers as queries
use Rattle.text_answers.proofs.SchemaAnswers as schemas
use Rattle.csv_tables.specs.Rows.{Row}
use Rattle.order_search.specs.declared.refusal.PlanError.{PlanError}
use Rattle.order_search.specs.declared.refusal.PlanError.TheVariants as plan
use Rattle.outcomes.specs.Errors.{plan_failure, plan_refusal, query_failure, query_refusal, schema_failure, schema_refusal}
use Rattle.outcomes.specs.Reads.{◌>>=◌, StopsBy, with_refusal}
use Rattle.outcomes.specs.declared.failure.Failure.TheVariants as failure
use Rattle.outcomes.specs.declared.refusal.Refusal.{Refusal}
use Rattle.sql_meaning.specs.Tables.{Tables}
use Rattle.table_files.specs.EntryTables.{tables_in}
use Rattle.prepared_runs.specs.Limits.{limit_test, within_limit}
use Rattle.prepared_runs.specs.RunOutcome.{RunOutcome, Planned}
use Rattle.prepared_runs.specs.Shapes.{planned_within}
use Rattle.prepared_runs.specs.Verdict.{plan_asked, plan_stage, accepted_query}
use Rattle.plans.specs.declared.bushy.BushyPlan.{BushyPlan}
use Rattle.tree_rows.specs.Memory.{tree_bytes}
use Rattle.safebound_words.specs.declared.command.PlanWork.{PlanWork}
use Rattle.prepared_runs.proofs.LimitFacts.{kept, stops}

pub same_value : {A E : Type 0} (memory : E) (answer : Result A E) (x : A) → (Ok x ≡ Err memory) ⊎ (Ok x ≡ answer) → answer ≡ Ok x
same_value memory answer x (inl e) = cc
same_value memory answer x (inr e) = sym e

pub schema_read : (text : List ℕ) (x : Schema) → IsSchemaOf text (Ok x) → schema_answer text ≡ Ok x
schema_read text x is = same_value schema.NoMemory (schema_answer text) x (schemas.only_result text (Ok x) is)

pub query_read : (s : Schema) (text : List ℕ) (x : Query) → IsAnswer s text (Ok x) → query_answer s text ≡ Ok x
query_read s text x is = same_value query.NoMemory (query_answer s text) x (queries.only_result s text (Ok x) is)

schema_error_stops : (answer : Result Schema SchemaError) (e : SchemaError) → (◌≡◌ {A = Result Schema SchemaError} (Err e) (Err schema.NoMemory)) ⊎ (Err e ≡ answer) → StopsBy (with_refusal schema_refusal answer) (schema_failure e)
schema_error_stops answer schema.NoMemory h = tt
schema_error_stops answer (schema.Syntax at) (inl e) = cc
schema_error_stops answer (schema.Syntax at) (inr e) = (ap (with_refusal schema_refusal) (sym e), (λ file h. cc), (λ h. cc))
schema_error_stops answer (schema.Name at) (inl e) = cc
schema_error_stops answer (schema.Name at) (inr e) = (ap (with_refusal schema_refusal) (sym e), (λ file h. cc), (λ h. cc))
schema_error_stops answer (schema.Nullable at) (inl e) = cc
schema_error_stops answer (schema.Nullable at) (inr e) = (ap (with_refusal schema_refusal) (sym e), (λ file h. cc), (λ h. cc))
schema_error_stops answer (schema.Limit which found) (inl e) = cc
schema_error_stops answer (schema.Limit which found) (inr e) = (ap (with_refusal schema_refusal) (sym e), (λ file h. cc), (λ h. cc))

pub schema_stops_by : (text : List ℕ) (e : SchemaError) → IsSchemaOf text (Err e) → StopsBy (with_refusal schema_refusal (schema_answer text)) (schema_failure e)
schema_stops_by text e is = schema_error_stops (schema_answer text) e (schemas.only_result text (Err e) is)

query_error_stops : (answer : Result Query QueryError) (e : QueryError) → (◌≡◌ {A = Result Query QueryError} (Err e) (Err query.NoMemory)) ⊎ (Err e ≡ answer) → StopsBy (with_refusal query_refusal answer) (query_failure e)
query_error_stops answer query.NoMemory h = tt
query_error_stops answer (query.Syntax at) (inl e) = cc
query_error_stops answer (query.Syntax at) (inr e) = (ap (with_refusal query_refusal) (sym e), (λ file h. cc), (λ h. cc))
query_error_stops answer (query.Name at) (inl e) = cc
query_error_stops answer (query.Name at) (inr e) = (ap (with_refusal query_refusal) (sym e), (λ file h. cc), (λ h. cc))
query_error_stops answer (query.Kind at) (inl e) = cc
query_error_stops answer (query.Kind at) (inr e) = (ap (with_refusal query_refusal) (sym e), (λ file h. cc), (λ h. cc))
query_error_stops answer (query.Limit which found) (inl e) = cc
query_error_stops answer (query.Limit which found) (inr e) = (ap (with_refusal query_refusal) (sym e), (λ file h. cc), (λ h. cc))

pub query_stops_by : (s : Schema) (text : List ℕ) (e : QueryError) → IsAnswer s text (Err e) → StopsBy (with_refusal query_refusal (query_answer s text)) (query_failure e)
query_stops_by s text e is = query_error_stops (query_answer s text) e (queries.only_result s text (Err e) is)

-- ---- plans

pub was_made : (answer : Result BushyPlan PlanError) (p : BushyPlan) → (Ok p ≡ Err plan.NoMemory) ⊎ (Ok p ≡ answer) → answer ≡ Ok p
was_made answer p h = same_value plan.NoMemory answer p h

pub was_refused : (answer : Result BushyPlan PlanError) (e : PlanError) → (◌≡◌ {A = Result BushyPlan PlanError} (Err e) (Err plan.NoMemory)) ⊎ (Err e ≡ answer)
    → (e ≡ plan.NoMemory) ⊎ (answer ≡ Err e)
was_refused answer e (inl none) = inl cc
was_refused answer e (inr is) = inr (sym is)

module _ (next : BushyPlan → Result RunOutcome Refusal) where
  plan_error_stops : (answer : Result BushyPlan PlanError) (e : PlanError) → (e ≡ plan.NoMemory) ⊎ (answer ≡ Err e)
      → StopsBy (with_refusal plan_refusal answer >>= next) (plan_failure e)
  plan_error_stops answer plan.NoMemory h = tt
  plan_error_stops answer (plan.Budget least) (inl e) = cc
  plan_error_stops answer (plan.Budget least) (inr e) = (ap (λ (r : Result BushyPlan PlanError). with_refusal plan_refusal r >>= next) e, (λ file h. cc), (λ h. cc))
  plan_error_stops answer plan.PastBits (inl e) = cc
  plan_error_stops answer plan.PastBits (inr e) = (ap (λ (r : Result BushyPlan PlanError). with_refusal plan_refusal r >>= next) e, (λ file h. cc), (λ h. cc))

-- a plan within the budget is refused only if its bytes exceed the limit of memory
module _ (limit : Option ℕ) (outcome : BushyPlan → RunOutcome) (answer : Result BushyPlan PlanError) where
  abbrev limited : BushyPlan → Result RunOutcome Refusal
  limited p = within_limit limit (tree_bytes p) (outcome p)

  planned_at : (p : BushyPlan) → answer ≡ Ok p → planned_within limit outcome answer ≡ within_limit limit (tree_bytes p) (outcome p)
  planned_at p is = ap (λ (r : Result BushyPlan PlanError). with_refusal plan_refusal r >>= limited) is

  pub planned_kept : (p : BushyPlan) → answer ≡ Ok p → limit_test limit (tree_bytes p) ≡ Ok tt → planned_within limit outcome answer ≡ Ok (outcome p)
  planned_kept p is fits = planned_at p is ∙ kept limit (tree_bytes p) (outcome p) fits

  pub planned_past : (p : BushyPlan) → answer ≡ Ok p → (r : Refusal) → limit_test limit (tree_bytes p) ≡ Err r
      → StopsBy (planned_within limit outcome answer) (failure.Refused r)
  planned_past p is r above =
      subst (λ (s : Result RunOutcome Refusal). StopsBy s (failure.Refused r)) (sym (planned_at p is)) (stops limit (tree_bytes p) (outcome p) r above)

  pub planned_stops_by : (e : PlanError) → (e ≡ plan.NoMemory) ⊎ (answer ≡ Err e) → StopsBy (planned_within limit outcome answer) (plan_failure e)
  planned_stops_by e h = plan_error_stops limited answer e h

module _ (task : PlanWork) (schema : Schema) (query : Query) (rows : List (List Row)) (t : Tables) (same_tables : tables_in rows ≡ t) where
  over_rows : plan_asked task schema query (tables_in rows) ≡ plan_asked task schema query t
  over_rows = ap (plan_asked task schema query) same_tables

  abbrev made : BushyPlan → RunOutcome
  made p = Planned (accepted_query task query rows p)

  pub plan_stage_ok : (p : BushyPlan) → plan_asked task schema query t ≡ Ok p → limit_test task.terms.memory (tree_bytes p) ≡ Ok tt
      → plan_stage task schema query rows ≡ Ok (Planned (accepted_query task query rows p))
  unfolding plan_stage
  plan_stage_ok p is fits = planned_kept task.terms.memory made (plan_asked task schema query (tables_in rows)) p (over_rows ∙ is) fits

  pub limit_stops_by : (p : BushyPlan) → plan_asked task schema query t ≡ Ok p → (r : Refusal) → limit_test task.terms.memory (tree_bytes p) ≡ Err r
      → StopsBy (plan_stage task schema query rows) (failure.Refused r)
  unfolding plan_stage
  limit_stops_by p is r above = planned_past task.terms.memory made (plan_asked task schema query (tables_in rows)) p (over_rows ∙ is) r above

  pub plan_stops_by : (e : PlanError) → (e ≡ plan.NoMemory) ⊎ (plan_asked task schema query t ≡ Err e) → StopsBy (plan_stage task schema query rows) (plan_failure e)
  unfolding plan_stage
  plan_stops_by e h =
      planned_stops_by task.terms.memory made (plan_asked task schema query (tables_in rows)) e
      (subst (λ (r : Result BushyPlan PlanError). (e ≡ plan.NoMemory) ⊎ (r ≡ Err e)) (sym over_rows) h)
