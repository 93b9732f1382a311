use Rattle.std.proofs.Common.{◌≡◌, List, ap, ◌∙◌}
use Rattle.berge_tree.specs.declared.columns.Column.{Column}
use Rattle.berge_tree.specs.declared.edges.Place.{Place}
use Rattle.berge_tree.specs.Equalities.{class_of, same_place}
use Rattle.berge_tree.specs.Walk.{class_in, columns_of}
use Rattle.berge_tree.proofs.Listing.{class_listed}
use Rattle.berge_tree.proofs.classes.ColumnClasses.are_in_one.Goals as goal

pub returns : goal.returns
returns c =
    let es = c.args.self.now in
    let columns : c.as_slice-columns.result.now ≡ columns_of es = c.as_slice-columns.ensures.value ∙ c.self.invariant ∙ ap columns_of c.self.view_is in
    let left : c.class_in.result ≡ class_of es c.args.edge.left =
    c.class_in.ensures ∙ ap (λ (cs : List Column). class_in cs c.args.edge.left) columns ∙ class_listed es c.args.edge.left in
    let right : c.class_in-2.result ≡ class_of es c.args.edge.right =
    c.class_in-2.ensures ∙ ap (λ (cs : List Column). class_in cs c.args.edge.right) columns ∙ class_listed es c.args.edge.right in
    c.is_same.ensures ∙ ap (λ (p : Place). same_place p c.class_in-2.result) left ∙ ap (same_place (class_of es c.args.edge.left)) right
