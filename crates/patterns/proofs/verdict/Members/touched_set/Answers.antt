-- `touched_set`: the set has the patterns with a variable passed to which an outcome gives a value that counts. Assumes nothing.
use Rattle.std.proofs.Common.{rules}
use mathlib.Core.Path.{◌≡◌, refl, sym, ◌∙◌}
use Prim.Native.Nat.{ℕ, ◌+◌, ◌*◌, ◌<◌}
use native.Mathlib.Omega.{arith}
use lib.ListN.{length, get_or}
use Rattle.planning.specs.Pattern.{counted_cell}
use Rattle.planning.proofs.Pattern.{length_counted, counted_at, counted_unnamed}
use Rattle.task_record.specs.Layout.{at_outcome}
use Rattle.task_record.specs.Numbers.{byte}
use Rattle.task_record.specs.TaskOf.{cells_at}
use Rattle.task_record.proofs.Soundness.{sound_length}
use Rattle.task_record.proofs.SoundTask.{actions_right, outcomes_right, outcome_assigns, outcome_unused, cell_of_part, length_of_part}
use Rattle.task_record.proofs.Sixteens.{any_default}
use Rattle.patterns.proofs.Touched.{remaining, seen_start, seen_next, seen_all}
use Rattle.patterns.proofs.verdict.Members.touched_set.Goals as goal

pub loop-v-init : goal.loop-v-init
loop-v-init c = let i = rw c.self.view_is at c.self.invariant in (i.1, seen_start c.args.need c.args.self.now c.args.m, search rules)

pub common_cell-requires : goal.common_cell-requires
common_cell-requires c =
    let i = rw c.self.view_is at c.self.invariant in
    let r = c.args.self.now in let n = sound_length r i.0 in let a = actions_right r i.0 in let w = c.at_outcome-at.ensures in let l = c.requires in
    let t : c.loop-v.v < 16 = omega (arith, c.loop-v.invariant.0.whole, c.loop-v-test.true) in
    rw c.self.view_is (omega arith, omega arith)

pub loop-v-preserved : goal.loop-v-preserved
loop-v-preserved c =
    let i = rw c.self.view_is at c.self.invariant in
    let loop = c.loop-v in
    let common-cell = c.common_cell in
    let r = c.args.self.now in let m = c.args.m in let v = loop.v in let w = c.at_outcome-at.ensures in
    let t : v < 16 = omega (arith, loop.invariant.0.whole, c.loop-v-test.true) in
    let o = outcomes_right r i.0 m c.requires in
    let a = actions_right r i.0 in let long = sound_length r i.0 in let n = c.args.need in
    let whole : (k : ℕ) → k < 8 → length (cells_at r (at_outcome m k)) ≡ 16 = (λ k b. length_of_part r 16 (at_outcome m k) (omega (arith, c.requires))) in
    let at : (k : ℕ) → k < 8 → get_or (remaining n r m k) v 0 ≡ counted_cell (get_or n v 0) (byte r (at_outcome m k + v)) =
    (λ k b. counted_at n (cells_at r (at_outcome m k)) v 0 (rw (whole k b) t) ∙ rw (any_default n v 255 0 (omega (arith, t, loop.invariant.2)), cell_of_part r 16 (at_outcome m k) v t) refl) in (
      loop.invariant.0,
      rw (c.named-touched.ensures, loop.invariant.0.cell v t) (seen_next n r m v loop.touched common-cell.result t (λ k b. length_counted c.args.need (cells_at r (at_outcome m k)) ∙ whole k (omega arith))
          (record {
            under = λ k b.
                let e : c.at_outcome-at.result + v + 16 * k ≡ at_outcome m k + v = omega arith in
                rw (at k (omega arith)) (rw (c.self.view_is, e) at (common-cell.ensures.low k (omega arith)));
            bytes = λ k b. rw (at k (omega arith)) (rw c.self.view_is at (common-cell.ensures.bytes (at_outcome m k + v)));
            unnamed = λ h. common-cell.ensures.unnamed (λ k b.
                let e : c.at_outcome-at.result + v + 16 * k ≡ at_outcome m k + v = omega arith in
                rw (c.self.view_is, e) (sym (at k b) ∙ h k b));
            unused = λ k b l. at k l ∙ rw (outcome_unused r i.0 m k c.requires b l v t) (counted_unnamed _);
          })
          loop.invariant.1),
      loop.invariant.2,
    )

pub returns : goal.returns
returns c =
    let i = rw c.self.view_is at c.self.invariant in
    let loop = c.loop-v in
    let r = c.args.self.now in let m = c.args.m in
    let e : loop.v ≡ 16 = omega (arith, loop.invariant.0.whole, c.loop-v-test.false) in
    seen_all c.args.need r m loop.touched (λ k b. length_counted c.args.need (cells_at r (at_outcome m k)) ∙ (outcome_assigns r i.0 m k c.requires b).whole) (rw e at loop.invariant.1)
