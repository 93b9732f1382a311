use Rattle.std.proofs.Common.{◌≡◌, ◌≤◌, length, ap, sym, arith, subst}
use Rattle.std.specs.List.{All}
use Rattle.piece_math.proofs.Expansion.{expanded-push, expanded-with_last, ArePieces-with_last, ArePieces-added, last_fits}
use Rattle.piece_math.proofs.pieces.Pieces.push_run.Goals as goal
use Rattle.piece_math.proofs.pieces.Pieces.push_run.Goals.{else-len-gt0-via-then-len-gt0+else-as_slice-len, else-len-gt0-via-else-len-gt0}

pub overflow_add-last : goal.overflow_add-last
overflow_add-last c =
    let len_is : c.len-len.result ≡ length c.self.inside.parts.items = omega (arith, c.len-len.ensures, c.self.inside.parts.ok.0) in
    rw (c.as_slice-then-as_slice-len.ensures.value, len_is) (omega (
      arith,
      last_fits c.self.inside.parts.items (record { value = 0; count = 0 }) (omega (arith, len_is, c.if-len-gt0.true)),
      ap length c.self.view_is,
      c.requires.room,
    ))

pub invariant_of-self : goal.invariant_of-self
invariant_of-self c =
    let len_is : c.len-len.result ≡ length c.self.inside.parts.items = omega (arith, c.len-len.ensures, c.self.inside.parts.ok.0) in
    rw (c.push_reserved.ensures.items, c.truncate.ensures.items, c.as_slice-then-as_slice-len.ensures.value, len_is)
    (ArePieces-with_last c.self.inside.parts.items (record { value = 0; count = 0 }) c.args.value c.args.count
    (omega (arith, len_is, c.if-len-gt0.true))
    (rw (c.as_slice.ensures.value, len_is) at c.if-as_slice-len.true)
    c.self.invariant (omega (arith, ap length c.self.view_is, c.requires.room)))

pub returns-then-as_slice-len-clause-ok : goal.returns-then-as_slice-len-clause-ok
returns-then-as_slice-len-clause-ok c =
    let len_is : c.len-len.result ≡ length c.self.inside.parts.items = omega (arith, c.len-len.ensures, c.self.inside.parts.ok.0) in
    rw (c.push_reserved.ensures.items, c.truncate.ensures.items, c.as_slice-then-as_slice-len.ensures.value, len_is, ← c.self.view_is)
    (expanded-with_last c.self.inside.parts.items (record { value = 0; count = 0 }) c.args.value c.args.count
    (omega (arith, len_is, c.if-len-gt0.true))
    (rw (c.as_slice.ensures.value, len_is) at c.if-as_slice-len.true))

pub invariant_of-self-in-Continue-1 : goal.invariant_of-self-in-Continue-1
invariant_of-self-in-Continue-1 c =
    let len_is : c.len-len.result ≡ length c.self.inside.parts.items = omega (arith, c.len-len.ensures, c.self.inside.parts.ok.0) in
    rw c.in_ok-push.ensures.items
    (ArePieces-added c.self.inside.parts.items (record { value = 0; count = 0 }) c.args.value c.args.count
    (λ some same. elim c.else-len-gt0.branch [
      | else-len-gt0-via-then-len-gt0+else-as_slice-len w ↦ w.if-as_slice-len.false (rw (w.as_slice.ensures.value, len_is) same)
      | else-len-gt0-via-else-len-gt0 w ↦ absurd (omega (arith, len_is, w.if-len-gt0.false))
    ])
    (subst (All (λ x. c.args.value ≤ x)) (sym c.self.view_is) c.requires.descends) c.requires.value c.requires.count c.self.invariant
    (omega (arith, ap length c.self.view_is, c.requires.room)))

pub returns-in_ok-push-clause-ok : goal.returns-in_ok-push-clause-ok
returns-in_ok-push-clause-ok c = rw (c.in_ok-push.ensures.items, ← c.self.view_is) (expanded-push c.self.inside.parts.items (record { value = c.args.value; count = c.args.count }))
