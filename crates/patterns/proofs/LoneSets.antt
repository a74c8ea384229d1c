-- A set that has at most one pattern, as the code tests it: nothing is left of it when its lowest member is taken out. Where the patterns that
-- an action affects are such a set, the next action decides. Assumes nothing.
use mathlib.Core.Path.{◌≡◌, refl, sym, ap, ◌∙◌}
use mathlib.Core.Bool.{Bool, true, false}
use mathlib.Core.List.{List, [], ◌∷◌}
use Rattle.std.proofs.Common.{replicate}
use Prim.Native.Nat.{ℕ, zero, suc, ◌+◌, ◌-◌, ◌*◌, ◌≤◌, ◌<◌}
use native.Mathlib.Nat.{pow-le-pow_right}
use native.Mathlib.Omega.{arith}
use lib.Bits.{bit_and, and_block, and_self, and_zero_r}
use lib.Dec.{eqb}
use lib.ListN.{get_or}
use borrow.Author.Tests.{eqb-true, eqb-false}
use Rattle.planning.specs.Pattern.{affects_pattern, additive, verdict}
use Rattle.planning.proofs.Test.{by_test, T_true}
use Rattle.planning.proofs.Finite.{some_imp, some_of_in, some_of_out}
use Rattle.planning.proofs.Owners.{affects_named}
use Rattle.task_record.specs.Numbers.{action_count, pattern_count}
use Rattle.task_record.specs.Layout.{at_pattern, at_precondition}
use Rattle.task_record.specs.TaskOf.{cells_at, action_of, task_of, patterns_of}
use Rattle.task_record.proofs.Tests.{false_true}
use Rattle.planning.specs.Sets.{set_from}
use Rattle.planning.proofs.Sets.{set_below}
use Rattle.patterns.specs.Sets.{Lone, touched_set}
use Rattle.patterns.proofs.Touched.{touches_at}
use Rattle.patterns.proofs.Affected.{verdict-at_start}
use Rattle.patterns.proofs.Reading.{affects_at, affected_from, verdict_from, patterns_passed, pattern_spared, pattern_affected, actions_passed, no_pattern, one_pattern}

lone_small : (s : ℕ) → s ≤ 1 → Lone s
unfolding Lone
lone_small s h = let e : s - 1 ≡ 0 = omega arith in rw e (and_zero_r s)

-- A set of twice a set, without and with a member put in front.
lone_without : (t : ℕ) → Lone (t * 2 + 0) → Lone t
unfolding Lone
lone_without t h =
    by_test (eqb t 0)
    (λ z. let e = eqb-true t 0 z in rw e)
    (λ z.
    let n = eqb-false t 0 z in
    let e : t * 2 + 0 - 1 ≡ (t - 1) * 2 + 1 = omega (arith, n) in
    let b = and_block 1 t (t - 1) 0 1 (omega arith) (omega arith) in
    let q : bit_and t (t - 1) * 2 + 0 ≡ 0 = sym b ∙ rw e at h in
    omega arith)

lone_with : (t : ℕ) → Lone (t * 2 + 1) → t ≡ 0
unfolding Lone
lone_with t h =
    let e : t * 2 + 1 - 1 ≡ t * 2 + 0 = omega arith in
    let b = and_block 1 t t 1 0 (omega arith) (omega arith) in
    let s = and_self t in
    let q : bit_and t t * 2 + 0 ≡ 0 = sym b ∙ rw e at h in
    omega arith

-- The patterns that action m affects are among those that pass a test.
module _ (r : List ℕ) (m : ℕ) (g : ℕ → Bool) (among : (p : ℕ) → p < pattern_count r → affects_at r m p ≡ true → g p ≡ true) where
  spared : (p : ℕ) → p < pattern_count r → g p ≡ false → affects_at r m p ≡ false
  spared p l e = by_test (affects_at r m p) (λ t. false_true (sym e ∙ among p l t)) (λ t. t)

  none_in : (n k : ℕ) → k + n ≡ pattern_count r → set_from g k n ≡ 0 → affected_from r m k ≡ []
  unfolding set_from
  none_in zero k e h = patterns_passed r m k (omega arith)
  none_in (suc n) k e h =
      by_test (g k)
      (λ t. let f = rw t at h in absurd (omega arith))
      (λ t. let f = rw t at h in pattern_spared r m k (omega arith) (spared k (omega arith) t) ∙ none_in n (k + 1) (omega arith) (omega arith))

  -- They are none, or one.
  at_most_one : {C : Type 0} (n k : ℕ) → k + n ≡ pattern_count r → Lone (set_from g k n)
      → (affected_from r m k ≡ [] → C) → ((p : ℕ) → affected_from r m k ≡ p ∷ [] → C) → C
  unfolding set_from
  at_most_one zero k e h none one = none (patterns_passed r m k (omega arith))
  at_most_one (suc n) k e h none one =
      by_test (g k)
      (λ t.
      let rest = none_in n (k + 1) (omega arith) (lone_with (set_from g (k + 1) n) (rw t at h)) in
      by_test (affects_at r m k)
      (λ a. one k (pattern_affected r m k (omega arith) a ∙ ap (λ (l : List ℕ). k ∷ l) rest))
      (λ a. none (pattern_spared r m k (omega arith) a ∙ rest)))
      (λ t.
      let s = pattern_spared r m k (omega arith) (spared k (omega arith) t) in
      at_most_one n (k + 1) (omega arith) (lone_without (set_from g (k + 1) n) (rw t at h)) (λ q. none (s ∙ q)) (λ p q. one p (s ∙ q)))

-- An action that touches at most one pattern, by its own need or by one that demands nothing, makes no conflict.
pub touched_affected : (r : List ℕ) (m : ℕ) → touched_set (cells_at r (at_precondition m)) r m ≡ set_from (affects_at r m) 0 (pattern_count r)
unfolding touched_set affects_pattern action_of
touched_affected r m = refl

lone_passes : (r : List ℕ) (m : ℕ) (g : ℕ → Bool) → ((p : ℕ) → p < pattern_count r → affects_at r m p ≡ true → g p ≡ true) → m < action_count r →
    Lone (set_from g 0 (pattern_count r)) → verdict_from r m ≡ verdict_from r (m + 1)
lone_passes r m g among l h = at_most_one r m g among (pattern_count r) 0 (omega arith) h (λ q. no_pattern r m l q) (λ p q. one_pattern r m l p q)

pub alone : (r : List ℕ) (m set : ℕ) → m < action_count r → set ≡ set_from (affects_at r m) 0 (pattern_count r) → Lone set → verdict_from r m ≡ verdict_from r (m + 1)
alone r m set l e h = lone_passes r m (affects_at r m) (λ p b t. t) l (rw e at h)

pub alone_named : (r : List ℕ) (m set : ℕ) (loose : List ℕ) → ((v : ℕ) → get_or loose v 255 ≡ 255) → m < action_count r → set ≡ touched_set loose r m → Lone set →
    verdict_from r m ≡ verdict_from r (m + 1)
unfolding touched_set affects_pattern
alone_named r m set loose free l e h = lone_passes r m (touches_at loose r m) named l (rw e at h)
  where
    named : (p : ℕ) → p < pattern_count r → affects_at r m p ≡ true → touches_at loose r m p ≡ true
    named p b t = T_true _ (some_of_in _ (action_of r m).outcomes (some_imp (λ o a. affects_named (cells_at r (at_pattern p)) (action_of r m).precondition loose o free a) (action_of r m).outcomes
        (some_of_out _ (action_of r m).outcomes (rw t tt))))

-- A need that demands nothing.
pub demands_nothing : (n v : ℕ) → let d : ℕ = 255 in get_or (replicate n d) v d ≡ d
demands_nothing zero v = refl
demands_nothing (suc n) zero = refl
demands_nothing (suc n) (suc v) = demands_nothing n v

-- One pattern can only be affected alone.
pub few_additive : (r : List ℕ) → pattern_count r < 2 → verdict (task_of r) (patterns_of r) ≡ additive
few_additive r l = verdict-at_start (task_of r) (patterns_of r) ∙ from (action_count r) 0 (omega arith)
  where
    small : (m : ℕ) → set_from (affects_at r m) 0 (pattern_count r) ≤ 1
    small m = let b = set_below (affects_at r m) 0 (pattern_count r) in
        let p = pow-le-pow_right {n = 2} (omega arith) {i = pattern_count r} {j = 1} (omega arith) in omega arith

    from : (n m : ℕ) → m + n ≡ action_count r → verdict_from r m ≡ additive
    from zero m e = actions_passed r m (omega arith)
    from (suc n) m e = alone r m _ (omega arith) refl (lone_small _ (small m)) ∙ from n (m + 1) (omega arith)
