-- `met`: a cell that is passed moves from those to come to the faults gathered; none is to come when one of the lists is at its end.
-- Assumes nothing.
use Rattle.std.proofs.Common.{◌≡◌, Bool, ◌&&◌, true, List, [], ◌∷◌, ℕ, eqb, length, refl, sym, ◌∙◌, arith, rules, inl, inr}
use mathlib.Core.Bool.{and-true, and_assoc}
use lib.Bits.{bit_or}
use Rattle.planning.specs.Task.{meets_cell, meets}
use Rattle.task_record.proofs.Tests.{or_none}
use Rattle.plan_check.proofs.cells.met.Goals as goal

cell_passed : (bad b y x : ℕ) (cs xs : List ℕ) (all : Bool) → eqb b 0 ≡ meets_cell y x → (eqb bad 0 && meets (y ∷ cs) (x ∷ xs)) ≡ all → (eqb (bit_or bad b) 0 && meets cs xs) ≡ all
unfolding meets
cell_passed bad b y x cs xs all e h = rw (or_none, e) (and_assoc (eqb bad 0) (meets_cell y x) (meets cs xs) ∙ h)

none_named : (cs xs : List ℕ) → length cs ≡ 0 → meets cs xs ≡ true
unfolding meets
none_named [] xs e = refl
none_named (y ∷ cs) xs e = absurd (omega arith)

none_there : (cs xs : List ℕ) → length xs ≡ 0 → meets cs xs ≡ true
unfolding meets
none_there [] xs e = refl
none_there (y ∷ cs) [] e = refl
none_there (y ∷ cs) (x ∷ xs) e = absurd (omega arith)

pub loop-y-init : goal.loop-y-init
loop-y-init c = search rules

pub loop-y-preserved : goal.loop-y-preserved
loop-y-preserved c =
    let s = c.in-Some.ensures.steps in
    cell_passed _ _ _ _ _ _ _ c.misses-bad.ensures (rw (s.0, s.1) at c.loop-y.invariant)

pub returns : goal.returns
returns c = elim c.in-None.ensures.steps [
  | inl p ↦ sym (and-true _) ∙ (rw (none_named _ _ p.1.0) at c.loop-y.invariant)
  | inr p ↦ sym (and-true _) ∙ (rw (none_there _ _ p.1.0) at c.loop-y.invariant)
]
