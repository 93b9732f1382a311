use Rattle.std.proofs.Common.{◌≡◌, ℕ, ◌+◌, ◌≤◌, ◌++◌, List, length, subst, sym, min, arith, length-append}
use Rattle.safebound_bounds.specs.Meaning.{in_64_bits, no_bound}
use Rattle.joined_tables.specs.Bounds.{IsWithin}
use Rattle.joined_tables.specs.Tables.{RowWithNulls, inner_join, left_with_nulls, right_with_nulls}
use Rattle.joined_tables.proofs.Pairs.{unpaired_within_left, left_with_nulls_within, paired_within_inner_join, paired_within, right_with_nulls_within}
use Rattle.joined_tables.proofs.Within.{fewer_within, least_within, sum_within}
use Rattle.joined_tables.proofs.joins.joined_rows.Goals as goal

pub returns-in-Left-clause-never_under : goal.returns-in-Left-clause-never_under
returns-in-Left-clause-never_under c = λ is_true left right of_inner of_left of_right.
    let pairs : List RowWithNulls = inner_join is_true left right in
    let alone : List RowWithNulls = left_with_nulls is_true left right in
    let is : c.saturating_add.result ≡ in_64_bits (c.args.inner + c.args.left) = omega (arith, c.saturating_add.ensures) in
    rw c.in-Left.is (subst (IsWithin (length (pairs ++ alone))) (sym is) (rw (length-append pairs alone)
    (sum_within (length pairs) (length alone) c.args.inner c.args.left of_inner (fewer_within (length alone) (length left.rows) c.args.left (left_with_nulls_within is_true left right) of_left))))

pub returns-in-Right-clause-never_under : goal.returns-in-Right-clause-never_under
returns-in-Right-clause-never_under c = λ is_true left right of_inner of_left of_right.
    let pairs : List RowWithNulls = inner_join is_true left right in
    let alone : List RowWithNulls = right_with_nulls is_true left right in
    let is : c.saturating_add-in-Right.result ≡ in_64_bits (c.args.inner + c.args.right) = omega (arith, c.saturating_add-in-Right.ensures) in
    rw c.in-Right.is (subst (IsWithin (length (pairs ++ alone))) (sym is) (rw (length-append pairs alone)
    (sum_within (length pairs) (length alone) c.args.inner c.args.right of_inner (fewer_within (length alone) (length right.rows) c.args.right (right_with_nulls_within is_true left right) of_right))))

pub returns-in-Full-clause-never_under : goal.returns-in-Full-clause-never_under
returns-in-Full-clause-never_under c = λ is_true left right of_inner of_left of_right.
    let pairs : List RowWithNulls = inner_join is_true left right in
    let alone : List RowWithNulls = left_with_nulls is_true left right in
    let others : List RowWithNulls = right_with_nulls is_true left right in
    let both : ℕ = in_64_bits (c.args.inner + c.args.left) in
    let is : c.saturating_add-in-Full-2.result ≡ in_64_bits (both + c.args.right) =
    omega (arith, c.saturating_add-in-Full.ensures, c.saturating_add-in-Full-2.ensures) in
    let added : IsWithin (length pairs + length alone + length others) (in_64_bits (both + c.args.right)) =
    sum_within (length pairs + length alone) (length others) both c.args.right
    (sum_within (length pairs) (length alone) c.args.inner c.args.left of_inner (fewer_within (length alone) (length left.rows) c.args.left (left_with_nulls_within is_true left right) of_left))
    (fewer_within (length others) (length right.rows) c.args.right (right_with_nulls_within is_true left right) of_right) in
    let counted : length (pairs ++ (alone ++ others)) ≡ length pairs + length alone + length others =
    omega (arith, length-append pairs (alone ++ others), length-append alone others) in
    rw c.in-Full.is (subst (IsWithin (length (pairs ++ (alone ++ others)))) (sym is) (subst (λ n. IsWithin n (in_64_bits (both + c.args.right))) (sym counted) added))

pub returns-in-Semi-clause-never_under : goal.returns-in-Semi-clause-never_under
returns-in-Semi-clause-never_under c = λ is_true left right of_inner of_left of_right.
    let is : c.min.result ≡ min c.args.inner c.args.left = omega (arith, c.min.ensures) in
    let fits : c.args.inner ≤ no_bound = omega arith in
    let left_fits : c.args.left ≤ no_bound = omega arith in
    rw c.in-Semi.is (rw is (least_within _ c.args.inner c.args.left fits left_fits
    (fewer_within _ (length (inner_join is_true left right)) c.args.inner (paired_within_inner_join is_true left right) of_inner)
    (fewer_within _ (length left.rows) c.args.left (paired_within is_true left right) of_left)))

pub returns-in-Anti-clause-never_under : goal.returns-in-Anti-clause-never_under
returns-in-Anti-clause-never_under c = λ is_true left right of_inner of_left of_right.
    rw c.in-Anti.is (fewer_within _ (length left.rows) c.args.left (unpaired_within_left is_true left right) of_left)
