-- Laws of counting and numbering abstract states variable by variable: what is left of the sizes, times the running weight, is the whole.
-- Assumes nothing.
use mathlib.Core.Path.{◌≡◌, sym, ap, ◌∙◌}
use mathlib.Core.Bool.{false}
use mathlib.Core.List.{List, [], ◌∷◌}
use Prim.Native.Nat.{ℕ, zero, suc, ◌+◌, ◌*◌, ◌≤◌, ◌<◌}
use native.Mathlib.Nat.{mul-le-mul_left, mul-le-mul_right, mul_assoc, mul_comm, mul-one, zero-add}
use native.Mathlib.Omega.{arith}
use lib.Dec.{eqb}
use lib.ListN.{length, get_or, drop}
use lib.Seq.{drop-nil}
use Rattle.planning.specs.Finite.{All}
use Rattle.planning.specs.Table.{index_from, index, state_count}
use Rattle.planning.proofs.Test.{by_test}
use Rattle.task_record.proofs.Rest.{drop_step}

pub drop_all : {A : Type 0} (s : List A) (i : ℕ) → length s ≤ i → drop i s ≡ []
drop_all [] i h = drop-nil i
drop_all (x ∷ s) zero h = absurd (omega arith)
drop_all (x ∷ s) (suc i) h = drop_all s i (omega arith)

-- Sizes of at least 1.
abbrev pub Positive : List ℕ → Type 0
Positive zs = All (λ z. 1 ≤ z) zs

pub positive_drop : (zs : List ℕ) (v : ℕ) → Positive zs → Positive (drop v zs)
positive_drop [] v h = rw drop-nil tt
positive_drop (z ∷ zs) zero h = h
positive_drop (z ∷ zs) (suc v) h = positive_drop zs v h.1

-- There is an abstract state.
pub some_state : (zs p : List ℕ) → Positive zs → 1 ≤ state_count zs p
unfolding state_count
some_state [] p h = omega arith
some_state (z ∷ zs) [] h = some_state zs [] h.1
some_state (z ∷ zs) (b ∷ p) h = let l = some_state zs p h.1 in by_test (eqb b 1)
    (λ e. let m = mul-le-mul_left (state_count zs p) h.0 in rw e (omega arith))
    (λ e. rw e l)

module _ (zs p : List ℕ) (v : ℕ) (a : v < length zs) (b : v < length p) where
  -- The abstract states of the variables from v on, where v is in the pattern, and where it is not.
  pub count_in : get_or p v 0 ≡ 1 → state_count (drop v zs) (drop v p) ≡ state_count (drop (v + 1) zs) (drop (v + 1) p) * get_or zs v 0
  unfolding state_count
  count_in e = rw (drop_step zs v a, drop_step p v b, e)

  pub count_out : eqb (get_or p v 0) 1 ≡ false → state_count (drop v zs) (drop v p) ≡ state_count (drop (v + 1) zs) (drop (v + 1) p)
  unfolding state_count
  count_out e = rw (drop_step zs v a, drop_step p v b, e)

  module _ (w : ℕ) (s : List ℕ) (c : v < length s) where
    pub index_in : get_or p v 0 ≡ 1 → index_from w (drop v zs) (drop v p) (drop v s) ≡ get_or s v 0 * w + index_from (w * get_or zs v 0) (drop (v + 1) zs) (drop (v + 1) p) (drop (v + 1) s)
    unfolding index_from
    index_in e = rw (drop_step zs v a, drop_step p v b, drop_step s v c, e)

    pub index_out : eqb (get_or p v 0) 1 ≡ false → index_from w (drop v zs) (drop v p) (drop v s) ≡ index_from w (drop (v + 1) zs) (drop (v + 1) p) (drop (v + 1) s)
    unfolding index_from
    index_out e = rw (drop_step zs v a, drop_step p v b, drop_step s v c, e)

-- The variables below v are passed, and w is the product of those sizes that are in the pattern.
pub record Counting (zs p : List ℕ) (w v : ℕ) : Type 0 where
  pub passed : v ≤ length zs
  pub whole : state_count zs p ≡ state_count (drop v zs) (drop v p) * w

module _ (zs p : List ℕ) (long : length zs ≤ length p) where
  pub counting_start : Counting zs p 1 0
  counting_start = record { passed = omega arith; whole = sym (mul-one (state_count zs p)) }

  module _ (w v : ℕ) (c : Counting zs p w v) where
    pub counting_in : v < length zs → get_or p v 0 ≡ 1 → Counting zs p (w * get_or zs v 0) (v + 1)
    counting_in l e = record {
      passed = omega arith;
      whole = c.whole ∙ ap (λ n. n * w) (count_in zs p v l (omega arith) e) ∙ mul_assoc (state_count (drop (v + 1) zs) (drop (v + 1) p)) (get_or zs v 0) w
          ∙ ap (λ n. state_count (drop (v + 1) zs) (drop (v + 1) p) * n) (mul_comm (get_or zs v 0) w);
    }

    pub counting_out : v < length zs → eqb (get_or p v 0) 1 ≡ false → Counting zs p w (v + 1)
    counting_out l e = record { passed = omega arith; whole = c.whole ∙ ap (λ n. n * w) (count_out zs p v l (omega arith) e) }

    pub counting_done : length zs ≤ v → state_count zs p ≡ w
    unfolding state_count
    counting_done l = c.whole ∙ rw (drop_all zs v l) (omega arith)

    -- The running weight is never above the whole number.
    pub counting_below : Positive zs → w ≤ state_count zs p
    counting_below h = let l = mul-le-mul_right w (some_state (drop v zs) (drop v p) (positive_drop zs v h)) in omega (arith, c.whole)

-- The variables below v are passed: i is what they add to the index of s.
pub record Numbering (zs p s : List ℕ) (i w v : ℕ) : Type 0 where
  pub counting : Counting zs p w v
  pub whole : index zs p s ≡ i + index_from w (drop v zs) (drop v p) (drop v s)
  pub bounded : i ≤ 1044480 * v

module _ (zs p s : List ℕ) (long : length zs ≤ length p) (wide : length zs ≤ length s) where
  pub numbering_start : Numbering zs p s 0 1 0
  unfolding index
  numbering_start = record { counting = counting_start zs p long; whole = sym (zero-add (index_from 1 zs p s)); bounded = omega arith }

  module _ (i w v : ℕ) (c : Numbering zs p s i w v) where
    pub numbering_in : v < length zs → get_or p v 0 ≡ 1 → get_or s v 0 * w ≤ 1044480 → Numbering zs p s (i + get_or s v 0 * w) (w * get_or zs v 0) (v + 1)
    numbering_in l e b = record {
      counting = counting_in zs p long w v c.counting l e;
      whole = c.whole ∙ ap (λ n. i + n) (index_in zs p v l (omega arith) w s (omega arith) e) ∙ omega arith;
      bounded = omega (arith, c.bounded);
    }

    pub numbering_out : v < length zs → eqb (get_or p v 0) 1 ≡ false → Numbering zs p s i w (v + 1)
    numbering_out l e = record {
      counting = counting_out zs p long w v c.counting l e;
      whole = c.whole ∙ ap (λ n. i + n) (index_out zs p v l (omega arith) w s (omega arith) e);
      bounded = omega (arith, c.bounded);
    }

    pub numbering_done : length zs ≤ v → index zs p s ≡ i
    unfolding index_from
    numbering_done l = c.whole ∙ rw (drop_all zs v l) (omega arith)
