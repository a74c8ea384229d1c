-- Laws on scans (specs/Scan.antt): one step, two scans in a row, numbers that all pass. Assumes nothing.
use Rattle.std.proofs.Common.{◌≡◌, ℕ, zero, suc, ◌+◌, ◌-◌, ◌<◌, ◌≤◌, Bool, true, false, ◌&&◌, eqb, sym, refl, ap, ◌∙◌, add-zero, zero-add, add-one, arith, Option, Some, None}
use Rattle.std.specs.Option.{MatchOption}
use mathlib.Core.Bool.{and-true, and_assoc}
use lib.Bits.{bit_or}
use Rattle.task_record.specs.Scan.{first_from, all_below}
use Rattle.planning.proofs.Test.{by_test}
use Rattle.task_record.proofs.Tests.{both, both_left, both_right, or_none}

pub first_none_left : (ok : ℕ → Bool) (k n : ℕ) → n ≡ 0 → first_from ok k n ≡ k
unfolding first_from
first_none_left ok k n e = rw e

-- A scan of one number more.
pub first_suc : (ok : ℕ → Bool) (k n : ℕ) → ok k ≡ true → first_from ok k (suc n) ≡ first_from ok (k + 1) n
unfolding first_from
first_suc ok k n o = rw o

-- Two scans in a row: the second is made where the first finds nothing.
pub first_past : (ok : ℕ → Bool) (k n m : ℕ) → k + n ≤ first_from ok k n → first_from ok k (n + m) ≡ first_from ok (k + n) m
unfolding first_from
first_past ok k zero m h = rw (add-zero, zero-add)
first_past ok k (suc n) m h =
    let a : suc n + m ≡ suc (n + m) = omega arith in
    let b : k + suc n ≡ k + 1 + n = omega arith in
    by_test (ok k)
    (λ v. let g = rw v at h in rw (a, v, b) (first_past ok (k + 1) n m (omega arith)))
    (λ v. let g = rw v at h in absurd (omega arith))

-- Two scans in a row that find nothing.
pub first_on : (ok : ℕ → Bool) (k n m : ℕ) → first_from ok k n ≡ k + n → first_from ok (k + n) m ≡ k + n + m → first_from ok k (n + m) ≡ k + n + m
first_on ok k n m first second = first_past ok k n m (omega arith) ∙ second

-- What a scan that found nothing says of each number.
pub first_all : (ok : ℕ → Bool) (k n : ℕ) → k + n ≤ first_from ok k n → (i : ℕ) → i < n → ok (k + i) ≡ true
unfolding first_from
first_all ok k zero h i l = absurd (omega arith)
first_all ok k (suc n) h zero l =
    by_test (ok k) (λ v. rw (add-zero, v)) (λ v. let g = rw v at h in absurd (omega arith))
first_all ok k (suc n) h (suc i) l =
    let b : k + suc i ≡ k + 1 + i = omega arith in
    by_test (ok k)
    (λ v. let g = rw v at h in rw b (first_all ok (k + 1) n (omega arith) i (omega arith)))
    (λ v. let g = rw v at h in absurd (omega arith))

pub first_none : (ok : ℕ → Bool) (k n : ℕ) → ((i : ℕ) → i < n → ok (k + i) ≡ true) → first_from ok k n ≡ k + n
unfolding first_from
first_none ok k zero all = rw add-zero
first_none ok k (suc n) all =
    let o : ok k ≡ true = rw add-zero at (all 0 (omega arith)) in
    let b : k + suc n ≡ k + 1 + n = omega arith in
    rw (o, b) (first_none ok (k + 1) n (λ i l. let c : k + 1 + i ≡ k + (i + 1) = omega arith in rw c (all (i + 1) (omega arith))))

-- What a search through the numbers below n found: the first that fails, if one does.
pub first_found : (ok : ℕ → Bool) (n : ℕ) (x : Option ℕ)
    → MatchOption x ((k : ℕ) → 0 ≤ k → k < n → ok k ≡ true) (λ i. (0 ≤ i) × (i < n) × (ok i ≡ false) × ((k : ℕ) → 0 ≤ k → k < i → ok k ≡ true))
    → MatchOption x (first_from ok 0 n ≡ n) (λ i. (i < n) × (first_from ok 0 n ≡ i))
unfolding first_from
first_found ok n None all = first_none ok 0 n (λ k l. rw zero-add (all k (omega arith) l)) ∙ zero-add n
first_found ok n (Some i) (_, l, fails, before) =
    let e : n ≡ i + suc (n - (i + 1)) = omega arith in
    let p = first_none ok 0 i (λ k w. rw zero-add (before k (omega arith) w)) in
    (l, rw e (first_past ok 0 i (suc (n - (i + 1))) (omega arith) ∙ rw (zero-add, fails)))

-- Two tests that agree on the numbers scanned.
pub first_same : (ok other : ℕ → Bool) (k n : ℕ) → ((i : ℕ) → i < n → ok (k + i) ≡ other (k + i)) → first_from ok k n ≡ first_from other k n
unfolding first_from
first_same ok other k zero same = refl
first_same ok other k (suc n) same =
    let e : ok k ≡ other k = rw add-zero at (same 0 (omega arith)) in
    let r = first_same ok other (k + 1) n (λ i l. let b : k + 1 + i ≡ k + (i + 1) = omega arith in rw b (same (i + 1) (omega arith))) in
    rw (e, r)

-- A block that passes as a whole.
pub block_passes : (ok : ℕ → Bool) (n : ℕ) → all_below ok n ≡ true → first_from ok 0 n ≡ n
unfolding all_below
block_passes ok zero h = first_none_left ok 0 0 refl
block_passes ok (suc n) h =
    let p = block_passes ok n (both_left _ _ h) in
    let q = first_past ok 0 n 1 (omega arith) in
    let e : n + 1 ≡ suc n = omega arith in
    let z : 0 + n ≡ n = omega arith in
    let o : ok (0 + n) ≡ true = rw z (both_right (all_below ok n) _ h) in
    let s = first_suc ok (0 + n) 0 o in
    let t = first_none_left ok (0 + n + 1) 0 refl in
    let f : 0 + n + 1 ≡ suc n = omega arith in
    rw e at q ∙ s ∙ t ∙ f

-- All of the numbers, one by one and from the first on.
pub all_at : (ok : ℕ → Bool) (n i : ℕ) → all_below ok n ≡ true → i < n → ok i ≡ true
all_at ok n i h l =
    let p = block_passes ok n h in rw zero-add at (first_all ok 0 n (omega arith) i l)

pub all_none : (ok : ℕ → Bool) (n : ℕ) → ((i : ℕ) → i < n → ok i ≡ true) → all_below ok n ≡ true
unfolding all_below
all_none ok zero each = refl
all_none ok (suc n) each = both (all_below ok n) (ok n) (all_none ok n (λ i l. each i (omega arith))) (each n (omega arith))

pub all_from_first : (ok : ℕ → Bool) (n : ℕ) → all_below ok (suc n) ≡ (ok 0 && all_below (λ i. ok (suc i)) n)
unfolding all_below
all_from_first ok zero = sym (and-true (ok 0))
all_from_first ok (suc n) =
    ap (λ (t : Bool). t && ok (suc n)) (all_from_first ok n) ∙ and_assoc (ok 0) (all_below (λ i. ok (suc i)) n) (ok (suc n))

-- What a loop has gathered by `|` so far.
pub gathered_next : (ok : ℕ → Bool) (i bad b : ℕ) → eqb b 0 ≡ ok i → eqb bad 0 ≡ all_below ok i → eqb (bit_or bad b) 0 ≡ all_below ok (i + 1)
unfolding all_below
gathered_next ok i bad b e h = rw (add-one, or_none, e, h)
