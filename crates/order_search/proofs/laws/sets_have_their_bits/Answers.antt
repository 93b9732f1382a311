use Rattle.order_search.proofs.SetNumbers.{has_bits, has_no_others}
use Rattle.order_search.proofs.laws.sets_have_their_bits.Goals as goal

pub returns : goal.returns
returns c entries entry apart = (has_bits entries entry apart, has_no_others entries entry apart)
