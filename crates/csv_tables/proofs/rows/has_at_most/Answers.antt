use Rattle.std.proofs.Common.{◌≡◌, ◌∙◌, ap, length}
use Rattle.std.specs.Prelude.{nat_le}
use Rattle.std.specs.Str.{chars}
use Rattle.std.specs.Iterator.Runs.{Trigger}
use Rattle.std.proofs.lemmas.Str.{chars_from_encodes}
use Rattle.csv_tables.proofs.rows.has_at_most.Goals as goal

pub returns : goal.returns
unfolding Trigger
returns c =
    let run = c.count.ensures.runs in
    let spelled = c.chars.ensures.runs run.0 tt in
    let items : run.0.items ≡ chars c.args.text.now =
    chars_from_encodes run.0.items c.args.text.now c.utf8.text (spelled.1 run.2 ∙ ap (λ s. s.rest.now) run.1 ∙ c.chars.ensures.rest) in
    ap (λ n. nat_le n c.args.most) (run.3 ∙ run.0.long ∙ ap length items)
