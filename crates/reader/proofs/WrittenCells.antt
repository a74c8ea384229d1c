-- The cells of a sound record t can be listed by the rules of any record r that has its N and its sizes. Assumes nothing.
use mathlib.Core.Path.{◌≡◌}
use mathlib.Core.Bool.{true, ◌&&◌}
use mathlib.Core.List.{List, [], ◌∷◌}
use Prim.Native.Nat.{ℕ, suc, ◌+◌, ◌≤◌, ◌<◌}
use native.Mathlib.Nat.{add-zero}
use native.Mathlib.Omega.{arith}
use lib.Dec.{ltb, eqb}
use lib.ListN.{length, get_or}
use borrow.Author.Tests.{lt-ltb, ltb-true, ltb-false, le-ltb, le-leb, eqb-true, eqb-false, eq-eqb, ne_eqb}
use Rattle.task_record.specs.Numbers.{variable_count, pattern_count, size_of}
use Rattle.task_record.specs.Record.{value_ok, assignment_ok, state_ok, pattern_ok, Sound}
use Rattle.reader.specs.Lists.{item_of, pair_fits, unnamed}
use Rattle.reader.specs.Written.{item_text, items_of}
use Rattle.reader.specs.declared.lists.Kind.{Kind}
use Rattle.reader.specs.declared.lists.Kind.TheVariants.{Pairs, Values, Members}
use Rattle.planning.proofs.Test.{by_test}
use Rattle.task_record.proofs.Tests.{both_left, both_right}
use Rattle.task_record.proofs.SoundTask.{variables_right, size_right}
use Rattle.reader.proofs.WrittenNumbers.{number_read}
use Rattle.reader.proofs.WrittenPieces.{pair_read}
use Rattle.reader.proofs.WrittenLists.{Listable, none, skipped, named}

-- A list that goes on to a higher variable has a piece.
pub items_some : (r : List ℕ) (kind : Kind) (next v : ℕ) (xs : List ℕ) (last : ℕ) → Listable r kind next v xs last → next < last
    → 1 ≤ length (items_of kind v xs)
unfolding items_of
items_some r kind next v _ last (none _ _) h = absurd (omega arith)
items_some r kind next v _ last (skipped _ _ x xs _ u g) h = rw (eq-eqb x (unnamed kind) u) (items_some r kind next (v + 1) xs last g h)
items_some r kind next v _ last (named _ _ x xs _ u l k i f g) h = rw (ne_eqb x (unnamed kind) u) (omega arith)

module _ (t r : List ℕ) (sound : Sound t) (variables : variable_count r ≡ variable_count t)
    (sizes : (v : ℕ) → v < variable_count t → size_of r v ≡ size_of t v) where
  pair_allowed : (next v x : ℕ) → next ≤ v → v < variable_count t → x < size_of t v → pair_fits r next v x ≡ true
  unfolding pair_fits
  pair_allowed next v x a b c = rw (le-leb next v a, variables, lt-ltb v (variable_count t) b, sizes v b, lt-ltb x (size_of t v) c)

  -- Pairs.
  pub pairs_listable : (xs : List ℕ) (next v : ℕ) → next ≤ v → ((i : ℕ) → i < length xs → assignment_ok t true (v + i) (get_or xs i 0) ≡ true)
      → (last : ℕ) × Listable r Pairs next v xs last
  unfolding assignment_ok value_ok item_of item_text
  pairs_listable [] next v l each = (next, none next v)
  pairs_listable (x ∷ xs) next v l each =
      let more : (i : ℕ) → i < length xs → assignment_ok t true (v + 1 + i) (get_or xs i 0) ≡ true =
      (λ i k. let e : v + 1 + i ≡ v + suc i = omega arith in rw e (each (suc i) (omega arith))) in
      by_test (eqb x 255)
      (λ q. let w = pairs_listable xs next (v + 1) (omega arith) more in (w.0, skipped next v x xs w.0 (eqb-true x 255 q) w.1))
      (λ q.
      let h : (ltb v (variable_count t) && ltb x (size_of t v)) ≡ true = rw (add-zero, q) at (each 0 (omega arith)) in
      let a = ltb-true v (variable_count t) (both_left (ltb v (variable_count t)) (ltb x (size_of t v)) h) in
      let b = ltb-true x (size_of t v) (both_right (ltb v (variable_count t)) (ltb x (size_of t v)) h) in
      let n = variables_right t sound in
      let s = size_right t sound v a in
      let w = pairs_listable xs (v + 1) (v + 1) (omega arith) more in (
        w.0,
        named next v x xs w.0 (eqb-false x 255 q) (omega arith) (omega arith) (pair_read v x (omega arith) (omega arith))
            (pair_allowed next v x l a b) w.1,
      ))

  -- Members.
  pub members_listable : (p : ℕ) (xs : List ℕ) (next v : ℕ) → next ≤ v → ((i : ℕ) → i < length xs → pattern_ok t p (v + i) (get_or xs i 0) ≡ true)
      → (last : ℕ) × Listable r Members next v xs last
  unfolding pattern_ok item_of item_text
  members_listable p [] next v l each = (next, none next v)
  members_listable p (x ∷ xs) next v l each =
      let more : (i : ℕ) → i < length xs → pattern_ok t p (v + 1 + i) (get_or xs i 0) ≡ true =
      (λ i k. let e : v + 1 + i ≡ v + suc i = omega arith in rw e (each (suc i) (omega arith))) in
      by_test (eqb x 0)
      (λ q. let w = members_listable p xs next (v + 1) (omega arith) more in (w.0, skipped next v x xs w.0 (eqb-true x 0 q) w.1))
      (λ q.
      let h : ((ltb p (pattern_count t) && ltb v (variable_count t)) && eqb x 1) ≡ true = rw (add-zero, q) at (each 0 (omega arith)) in
      let u = both_left (ltb p (pattern_count t) && ltb v (variable_count t)) (eqb x 1) h in
      let a = ltb-true v (variable_count t) (both_right (ltb p (pattern_count t)) (ltb v (variable_count t)) u) in
      let b = eqb-true x 1 (both_right (ltb p (pattern_count t) && ltb v (variable_count t)) (eqb x 1) h) in
      let n = variables_right t sound in
      let s = size_right t sound v a in
      let w = members_listable p xs (v + 1) (v + 1) (omega arith) more in (
        w.0,
        named next v x xs w.0 (eqb-false x 0 q) (omega arith) (omega arith) (rw (number_read v (omega arith), b))
            (pair_allowed next v x l a (omega arith)) w.1,
      ))

  -- Values: one for each variable, and none after them.
  rest_listable : (xs : List ℕ) (next v : ℕ) → variable_count t ≤ v → ((i : ℕ) → i < length xs → state_ok t (v + i) (get_or xs i 0) ≡ true)
      → Listable r Values next v xs next
  unfolding state_ok
  rest_listable [] next v l each = none next v
  rest_listable (x ∷ xs) next v l each =
      let h = rw (add-zero, le-ltb v (variable_count t) l) at (each 0 (omega arith)) in
      skipped next v x xs next (eqb-true x 255 h)
      (rest_listable xs next (v + 1) (omega arith) (λ i k. let e : v + 1 + i ≡ v + suc i = omega arith in rw e (each (suc i) (omega arith))))

  pub values_listable : (xs : List ℕ) (v : ℕ) → v ≤ variable_count t → variable_count t ≤ v + length xs
      → ((i : ℕ) → i < length xs → state_ok t (v + i) (get_or xs i 0) ≡ true) → Listable r Values v v xs (variable_count t)
  unfolding state_ok item_of item_text
  values_listable [] v l k each = let e : variable_count t ≡ v = omega arith in rw e (none v v)
  values_listable (x ∷ xs) v l k each =
      by_test (ltb v (variable_count t))
      (λ q.
      let a = ltb-true v (variable_count t) q in
      let b = ltb-true x (size_of t v) (rw (add-zero, q) at (each 0 (omega arith))) in
      let n = variables_right t sound in
      let s = size_right t sound v a in
      named v v x xs (variable_count t) (λ e. omega arith) (omega arith) (omega arith) (rw (number_read x (omega arith)))
      (pair_allowed v v x (omega arith) a b)
      (values_listable xs (v + 1) (omega arith) (omega arith)
      (λ i j. let e : v + 1 + i ≡ v + suc i = omega arith in rw e (each (suc i) (omega arith)))))
      (λ q.
      let g = ltb-false v (variable_count t) q in
      let e : variable_count t ≡ v = omega arith in
      rw e (rest_listable (x ∷ xs) v v (omega arith) each))
