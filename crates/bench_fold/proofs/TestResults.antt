-- What the result of a test means (`MatchBool`), and what follows from it for other tests.
use Rattle.std.proofs.Common.{Bor, ◌≡◌, Bool, true, false, refl, ap}
use Rattle.std.specs.Prelude.{Option, Some, None, IsSome, IsTrue, MatchBool, ◌↔◌, is_some}
use Rattle.std.specs.Option.{option_copied}

pub some_or_not : {X : Type 0} (r o : Option X) (b : Bool) → r ≡ o → b ≡ is_some r → MatchBool b (IsSome o) (¬ IsSome o)
some_or_not r (Some x) true e f = refl
some_or_not r None true e f = absurd (cc (ap is_some e, f))
some_or_not r (Some x) false e f = absurd (cc (ap is_some e, f))
some_or_not r None false e f = λ h. cc h

pub copied_or_not : {X : Type 0} (r : Option (Bor X)) (o : Option X) (b : Bool) → option_copied r ≡ o → b ≡ is_some r → MatchBool b (IsSome o) (¬ IsSome o)
copied_or_not None o b e f = some_or_not None o b e f
copied_or_not (Some x) o b e f = some_or_not (Some x.now) o b e f

pub test_under_true_condition : (b : Bool) (H P : Type 0) → H → MatchBool b P (¬ P) → MatchBool b (H → P) (H × ¬ P)
test_under_true_condition true H P held h = λ _. h
test_under_true_condition false H P held h = (held, h)

pub test_of_equivalent_fact : (b : Bool) (Q R : Type 0) → (Q → R) → (R → Q) → MatchBool b Q (¬ Q) → MatchBool b R (¬ R)
test_of_equivalent_fact true Q R f g h = f h
test_of_equivalent_fact false Q R f g h = λ r. h (g r)

pub true_exactly_if_fact : (b : Bool) (P : Type 0) → MatchBool b P (¬ P) → IsTrue b ↔ P
true_exactly_if_fact true P h = (λ _. h, λ _. refl)
true_exactly_if_fact false P h = (λ e. absurd (cc e), λ p. absurd (h p))
