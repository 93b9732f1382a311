use Rattle.std.proofs.Common.{◌≡◌, List, ℕ, [], get_or, ap, ◌∙◌, length}
use Rattle.std.proofs.lemmas.Result.{IfOk-weaker}
use Rattle.degree_sequences.specs.Compression.{compressed}
use Rattle.degree_sequences.specs.Degrees.{degree_list}
use Rattle.appended_stats.proofs.Groups.{capped_small, group_is, list_of_groups, one_counted, one_raised, whole_list}
use Rattle.appended_stats.proofs.rest.list_of_groups.Goals as goal

pub loop-keys-preserved : goal.loop-keys-preserved
loop-keys-preserved c =
    let i : ℕ = c.loop-keys.keys-index in
    let its : c.keys-item.result ≡ get_or c.args.groups.now i [] = group_is c.args.groups.now i c.keys-item.result c.loop-keys-test.true c.keys-item.is in (
      one_raised c.args.groups.now c.requires.groups i c.loop-keys.maxima c.in_ok-degrees-2.degrees c.in_ok-maxima.maxima c.loop-keys-test.true c.loop-keys.invariant.0
          (c.in_ok-degrees-2.ensures ∙ c.as_slice-in-loop-keys.ensures ∙ c.in_ok-degrees.ensures.counts ∙ ap degree_list (c.as_slice.ensures ∙ its)) c.in_ok-maxima.ensures.value,
      one_counted c.args.groups.now c.requires.groups i c.loop-keys.most c.len.result c.max-most.result c.loop-keys-test.true c.loop-keys.invariant.1
          (c.len.ensures ∙ ap (λ (s : List ℕ). length s) its) c.max-most.ensures,
    )

pub compress_runs-requires : goal.compress_runs-requires
compress_runs-requires c = record { small = capped_small c.args.groups.now c.requires.groups c.loop-keys.keys-index c.loop-keys.maxima c.in_ok-cap.field-0 c.loop-keys.most c.loop-keys.invariant.1 c.in_ok-cap.ensures.value }

pub returns : goal.returns
returns c =
    IfOk-weaker c.compress_runs-2.result (λ (list : List ℕ). list ≡ compressed c.args.accuracy c.in_ok-cap.field-0) (λ (list : List ℕ). list ≡ list_of_groups c.args.accuracy c.args.groups.now)
    (λ list made. whole_list c.args.groups.now c.requires.groups c.args.accuracy c.loop-keys.keys-index c.loop-keys.maxima c.in_ok-cap.field-0 list c.loop-keys.most c.loop-keys-test.false
    c.loop-keys.invariant.0 c.loop-keys.invariant.1 c.in_ok-cap.ensures.value made) c.compress_runs-2.ensures.compressed
