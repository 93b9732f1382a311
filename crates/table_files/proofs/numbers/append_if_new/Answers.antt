use Rattle.std.proofs.Common.{◌≡◌, ◌∙◌, ℕ, List, ap, arith, eqb, length, true}
use Rattle.std.proofs.lemmas.Bool.{eq-eqb}
use Rattle.table_files.specs.Stage.{index_of}
use Rattle.table_files.proofs.IndexFacts.{place_within}
use Rattle.table_files.proofs.numbers.append_if_new.Goals as goal

pub returns : goal.returns
returns c =
    let place : c.index_of.result ≡ index_of c.args.numbers.now c.args.number = c.index_of.ensures ∙ ap (λ (l : List ℕ). index_of l c.args.number) c.as_slice.ensures in
    let past : eqb (index_of c.args.numbers.now c.args.number) (length c.args.numbers.now) ≡ true =
    eq-eqb (index_of c.args.numbers.now c.args.number) (length c.args.numbers.now) (omega (arith, place_within c.args.numbers.now c.args.number)) in
    rw past c.push.ensures.ok
