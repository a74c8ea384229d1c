-- `of`: of each variable the set of the patterns passed, from the highest down; within a row those of the variables passed have its pattern
-- too. Assumes nothing.
use Rattle.std.proofs.Common.{◌≡◌, ℕ, ◌+◌, ◌-◌, ◌*◌, ◌≤◌, ◌<◌, Bool, true, false, cond, eqb, List, get_or, refl, sym, ap, ap₂, ◌∙◌, arith, length-set, get_or-set_other}
use mir.Val.{bool_byte}
use native.Mathlib.Nat.{sub-zero}
use Rattle.task_record.specs.Numbers.{pattern_count}
use Rattle.task_record.proofs.Sixteens.{filled_next, zeros}
use Rattle.task_record.proofs.SoundTask.{patterns_right}
use Rattle.planning.specs.Sets.{set_from}
use Rattle.planning.proofs.Sets.{digit_small}
use Rattle.patterns.specs.Sets.{member_set}
use Rattle.patterns.proofs.Gathering.{set_small, set_empty, set_step}
use Rattle.patterns.proofs.Sizes.{pattern_whole}
use Rattle.patterns.proofs.verdict.Members.of.Invariants.{member}
use Rattle.patterns.proofs.verdict.Members.of.Goals as goal

pub loop-p-init : goal.loop-p-init
loop-p-init c = let r = c.args.record.now in
    rw (c.pattern_count-p.ensures, c.record.view_is) (omega arith, refl, λ k l. zeros 16 k ∙ sym (set_empty (member r k) (pattern_count r)))

one_or_none : (b : Bool) → bool_byte b ≡ cond b 1 0
one_or_none true = refl
one_or_none false = refl

-- A set that was doubled has room for one pattern more.
small : (r : List ℕ) (v p x : ℕ) → pattern_count r ≤ 8 → x ≡ set_from (member r v) (p + 1) (pattern_count r - (p + 1)) → x ≤ 127
small r v p x n e = let s = set_small (member r v) (p + 1) (pattern_count r - (p + 1)) (omega arith) in omega arith

pub overflow_mul-set : goal.overflow_mul-set
overflow_mul-set c = let r = c.args.record.now in let l = c.loop-v in let i = l.invariant in
    let t : l.v < 16 = omega (arith, c.loop-v-test.true) in
    let s = small r l.v (c.loop-p.p - 1) _ (patterns_right r (rw c.record.view_is at c.record.invariant)) (i.3 l.v (omega arith) t) in omega arith

pub bounds-cells-v : goal.bounds-cells-v
bounds-cells-v c = let i = c.loop-v.invariant in
    rw (c.pattern_cells-cells.ensures, c.record.view_is, pattern_whole c.args.record.now (rw c.record.view_is at c.record.invariant) (c.loop-p.p - 1) i.1) (omega (arith, c.loop-v-test.true))

pub overflow_add-set : goal.overflow_add-set
overflow_add-set c = let r = c.args.record.now in let l = c.loop-v in let i = l.invariant in
    let t : l.v < 16 = omega (arith, c.loop-v-test.true) in
    let s = small r l.v (c.loop-p.p - 1) _ (patterns_right r (rw c.record.view_is at c.record.invariant)) (i.3 l.v (omega arith) t) in let f : c.from.result < 2 = rw (c.from.ensures, one_or_none) (digit_small _) in omega arith

pub loop-v-preserved : goal.loop-v-preserved
loop-v-preserved c = let r = c.args.record.now in let l = c.loop-v in let i = l.invariant in let p = c.loop-p.p - 1 in let v = l.v in
    let t : v < 16 = omega (arith, c.loop-v-test.true) in
    let x = get_or l.set-items v 0 * 2 + c.from.result in
    let d : c.from.result ≡ cond (member r v p) 1 0 = c.from.ensures ∙ one_or_none _ ∙ ap (λ (s : List ℕ). cond (eqb (get_or s v 0) 1) 1 0) (rw c.record.view_is at c.pattern_cells-cells.ensures) in
    let e : x ≡ set_from (member r v) p (pattern_count r - p) = ap₂ (λ (a b : ℕ). a * 2 + b) (i.3 v (omega arith) t) d ∙ sym (set_step (member r v) p (pattern_count r) i.1) in (
      simp length-set i.0,
      i.1,
      filled_next (λ (k : ℕ). set_from (member r k) p (pattern_count r - p)) l.set-items v x (omega arith) e i.2,
      λ k g h. get_or-set_other l.set-items v k x 0 (λ q. omega arith) ∙ i.3 k (omega arith) h,
    )

pub invariant_of-result : goal.invariant_of-result
unfolding member_set
invariant_of-result c =
    let i = c.loop-p.invariant in
    let z : c.loop-p.p ≡ 0 = omega (arith, c.loop-p-test.false) in
    (c.record.invariant, record { whole = i.1; cell = λ k l. rw (z, sub-zero, ← c.record.view_is) at (i.2 k l) })
