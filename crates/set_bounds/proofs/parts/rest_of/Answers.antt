use Rattle.std.proofs.Common.{◌≡◌, ◌<◌, ◌^◌, ◌∙◌, ℕ, ap, bit_and, subst, w16}
use Rattle.std.specs.Int.{bit_not}
use Rattle.limits.specs.Profile.{greatest_entries}
use Rattle.set_bounds.proofs.Tested.{rest_has}
use Rattle.set_bounds.proofs.parts.rest_of.Goals as goal

pub returns : goal.returns
returns c entry =
    let is : c.from_bits.result ≡ bit_and c.args.subset (bit_not w16 c.args.part) =
    c.from_bits.ensures ∙ ap (λ n. bit_and n (bit_not w16 c.bits-2.result)) c.bits.ensures ∙ ap (λ n. bit_and c.args.subset (bit_not w16 n)) c.bits-2.ensures in
    let fits : c.args.part < 2 ^ greatest_entries = subst (λ (n : ℕ). n < 2 ^ greatest_entries) c.bits-2.ensures c.bits-2.type_inv in
    rw is (rest_has c.args.subset c.args.part entry fits)
