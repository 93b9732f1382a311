use Rattle.sql_meaning.proofs.Worked.{triangle_fits, triangle_chosen, triangle_answer}
use Rattle.sql_meaning.proofs.examples.triangles.Goals as goal

pub returns : goal.returns
returns c = record { fits = triangle_fits; chosen = triangle_chosen; answer = triangle_answer }
