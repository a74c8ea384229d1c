-- Laws of numbers with infinity. The first ones turn each operation into the test against a plain number; the rest use only those tests.
-- Assumes nothing.
use mathlib.Core.Path.{◌≡◌, refl, sym, ap, ◌∙◌}
use mathlib.Core.Logic.{inl, inr}
use mathlib.Core.Bool.{false, ◌&&◌, ◌||◌}
use mathlib.Core.List.{List, [], ◌∷◌}
use Prim.Native.Nat.{ℕ, zero, suc, ◌+◌, ◌-◌, ◌≤◌, ◌<◌, min, max}
use native.Mathlib.Omega.{arith}
use lib.Dec.{T, leb, ltb, leb→le, le→leb, nleb→lt, ltb→lt, lt→ltb}
use Rattle.planning.specs.Finite.{every, All, Some, any_from}
use Rattle.planning.specs.Extended.{ℕ∞, fin, inf, ◌≤?◌, ◌≤∞◌, max∞, min∞, add∞, largest, least_from, infinite_from}
use Rattle.planning.proofs.Test.{T_true, bool_iff, and_in, and_l, and_r, or_l, or_r, or_elim, or-false, by_test, leb-zero}
use Rattle.planning.proofs.Finite.{some_imp}

pub max∞_le : (x y : ℕ∞) (d : ℕ) → (max∞ x y ≤? d) ≡ ((x ≤? d) && (y ≤? d))
unfolding max∞
max∞_le (fin a) (fin b) d = bool_iff (leb (max a b) d) (leb a d && leb b d)
    (λ t. let h : max a b ≤ d = leb→le (max a b) d t in and_in (leb a d) (leb b d) (le→leb a d (omega arith)) (le→leb b d (omega arith)))
    (λ t. let h : a ≤ d = leb→le a d (and_l (leb a d) (leb b d) t) in
    let k : b ≤ d = leb→le b d (and_r (leb a d) (leb b d) t) in le→leb (max a b) d (omega arith))
max∞_le (fin a) inf d = bool_iff false (leb a d && false) (λ t. absurd t) (λ t. and_r (leb a d) false t)
max∞_le inf y d = refl

pub min∞_le : (x y : ℕ∞) (d : ℕ) → (min∞ x y ≤? d) ≡ ((x ≤? d) || (y ≤? d))
unfolding min∞
min∞_le (fin a) (fin b) d = bool_iff (leb (min a b) d) (leb a d || leb b d)
    (λ t. let h : min a b ≤ d = leb→le (min a b) d t in by_test (leb a d)
    (λ e. or_l (leb a d) (leb b d) (rw e tt))
    (λ e. or_r (leb a d) (leb b d) (let k : d < a = nleb→lt a d (rw e tt) in le→leb b d (omega arith))))
    (λ t. or_elim (leb a d) (leb b d) t
    (λ t. let k : a ≤ d = leb→le a d t in le→leb (min a b) d (omega arith))
    (λ t. let k : b ≤ d = leb→le b d t in le→leb (min a b) d (omega arith)))
min∞_le (fin a) inf d = sym (or-false (leb a d))
min∞_le inf y d = refl

pub add∞_le : (w : ℕ) (x : ℕ∞) (d : ℕ) → (add∞ (fin w) x ≤? d) ≡ (leb w d && (x ≤? (d - w)))
unfolding add∞
add∞_le w (fin a) d = bool_iff (leb (w + a) d) (leb w d && leb a (d - w))
    (λ t. let h : w + a ≤ d = leb→le (w + a) d t in and_in (leb w d) (leb a (d - w)) (le→leb w d (omega arith)) (le→leb a (d - w) (omega arith)))
    (λ t. let h : w ≤ d = leb→le w d (and_l (leb w d) (leb a (d - w)) t) in
    let k : a ≤ d - w = leb→le a (d - w) (and_r (leb w d) (leb a (d - w)) t) in le→leb (w + a) d (omega arith))
add∞_le w inf d = bool_iff false (leb w d && false) (λ t. absurd t) (λ t. and_r (leb w d) false t)

pub largest_le : {A : Type 0} (f : A → ℕ∞) (xs : List A) (d : ℕ) → (largest f xs ≤? d) ≡ every (λ x. f x ≤? d) xs
largest_le f [] d = leb-zero d
largest_le f (x ∷ xs) d = max∞_le (f x) (largest f xs) d ∙ ap (λ z. (f x ≤? d) && z) (largest_le f xs d)

pub least_le : (k n : ℕ) (f : ℕ → ℕ∞) (d : ℕ) → (least_from k n f ≤? d) ≡ any_from k n (λ m. f m ≤? d)
least_le k zero f d = refl
least_le k (suc n) f d = min∞_le (f k) (least_from (suc k) n f) d ∙ ap (λ z. (f k ≤? d) || z) (least_le (suc k) n f d)

pub mono? : (x : ℕ∞) (a b : ℕ) → a ≤ b → T (x ≤? a) → T (x ≤? b)
mono? (fin n) a b l t = let k : n ≤ a = leb→le n a t in le→leb n b (omega arith)
mono? inf a b l t = t

pub weaken : {A : Type 0} (h : A → ℕ∞) (a b : ℕ) (xs : List A) → a ≤ b → All (λ x. T (h x ≤? a)) xs → All (λ x. T (h x ≤? b)) xs
weaken h a b [] l q = tt
weaken h a b (x ∷ xs) l q = (mono? (h x) a b l q.0, weaken h a b xs l q.1)

pub add_up : (x : ℕ∞) (w : ℕ) (y : ℕ∞) (d : ℕ) → x ≤∞ add∞ (fin w) y → T (y ≤? d) → T (x ≤? (w + d))
unfolding ◌≤∞◌ add∞
add_up x w (fin n) d h t = h (w + d) (let k : n ≤ d = leb→le n d t in le→leb (w + n) (w + d) (omega arith))
add_up x w inf d h t = absurd t

pub le∞_refl : (x : ℕ∞) → x ≤∞ x
unfolding ◌≤∞◌
le∞_refl x d t = t

pub le∞_trans : (x y z : ℕ∞) → x ≤∞ y → y ≤∞ z → x ≤∞ z
unfolding ◌≤∞◌
le∞_trans x y z a b d t = a d (b d t)

pub max∞_left : (x y : ℕ∞) → x ≤∞ max∞ x y
unfolding ◌≤∞◌
max∞_left x y d t = and_l (x ≤? d) (y ≤? d) (rw max∞_le at t)

pub max∞_right : (x y : ℕ∞) → y ≤∞ max∞ x y
unfolding ◌≤∞◌
max∞_right x y d t = and_r (x ≤? d) (y ≤? d) (rw max∞_le at t)

-- The larger of two is one of the two.
pub max∞_case : {C : Type 0} (x y : ℕ∞) → (max∞ x y ≤∞ x → C) → (max∞ x y ≤∞ y → C) → C
unfolding ◌≤∞◌ max∞
max∞_case (fin a) (fin b) f g = by_test (leb a b)
    (λ e. let l : a ≤ b = leb→le a b (rw e tt) in g (λ d t. let k : b ≤ d = leb→le b d t in le→leb (max a b) d (omega arith)))
    (λ e. let l : b < a = nleb→lt a b (rw e tt) in f (λ d t. let k : a ≤ d = leb→le a d t in le→leb (max a b) d (omega arith)))
max∞_case (fin a) inf f g = g (λ d t. t)
max∞_case inf y f g = f (λ d t. t)

pub max∞-zero : (x : ℕ∞) → max∞ x (fin 0) ≤∞ x
unfolding ◌≤∞◌ max∞
max∞-zero (fin a) d t = let k : a ≤ d = leb→le a d t in le→leb (max a 0) d (omega arith)
max∞-zero inf d t = t

-- The largest value is the value of some element.
pub largest_some : {A : Type 0} (f : A → ℕ∞) (x : A) (xs : List A) → Some (λ y. largest f (x ∷ xs) ≤∞ f y) (x ∷ xs)
largest_some f x [] = inl (max∞-zero (f x))
largest_some f x (y ∷ ys) = max∞_case (f x) (largest f (y ∷ ys)) (λ l. inl l)
    (λ l. inr (some_imp (λ z k. le∞_trans _ _ _ l k) (y ∷ ys) (largest_some f y ys)))

-- x ≤ a + y and u ≤ b + v give x + u ≤ (a + b) + (y + v).
pub le∞_sum : (a b : ℕ) (x y u v : ℕ∞) → x ≤∞ add∞ (fin a) y → u ≤∞ add∞ (fin b) v → add∞ x u ≤∞ add∞ (fin (a + b)) (add∞ y v)
unfolding ◌≤∞◌ add∞
le∞_sum a b (fin x) (fin y) (fin u) (fin v) h k d t =
    let p : x ≤ a + y = leb→le x (a + y) (h (a + y) (le→leb (a + y) (a + y) (omega arith))) in
    let q : u ≤ b + v = leb→le u (b + v) (k (b + v) (le→leb (b + v) (b + v) (omega arith))) in
    let r : a + b + (y + v) ≤ d = leb→le (a + b + (y + v)) d t in le→leb (x + u) d (omega arith)
le∞_sum a b inf (fin y) (fin u) (fin v) h k d t = h (a + y) (le→leb (a + y) (a + y) (omega arith))
le∞_sum a b inf (fin y) inf (fin v) h k d t = h (a + y) (le→leb (a + y) (a + y) (omega arith))
le∞_sum a b (fin x) (fin y) inf (fin v) h k d t = k (b + v) (le→leb (b + v) (b + v) (omega arith))
le∞_sum a b x inf u v h k d t = absurd t
le∞_sum a b x (fin y) u inf h k d t = absurd t

pub zero_le∞ : (x : ℕ∞) → fin 0 ≤∞ x
unfolding ◌≤∞◌
zero_le∞ x d t = rw (leb-zero d) tt

pub add∞_mono : (w : ℕ) (x y : ℕ∞) → x ≤∞ y → add∞ (fin w) x ≤∞ add∞ (fin w) y
unfolding ◌≤∞◌
add∞_mono w x y h d t = rw (add∞_le w x d) (let k = rw (add∞_le w y d) at t in and_in (leb w d) _ (and_l (leb w d) _ k) (h (d - w) (and_r (leb w d) _ k)))

pub charge_mono : (a b : ℕ) (x y : ℕ∞) → a ≤ b → x ≤∞ add∞ (fin a) y → x ≤∞ add∞ (fin b) y
unfolding ◌≤∞◌ add∞
charge_mono a b x (fin n) l h d t = let k : b + n ≤ d = leb→le (b + n) d t in h d (le→leb (a + n) d (omega arith))
charge_mono a b x inf l h d t = absurd t

pub add∞-zero : (x : ℕ∞) → add∞ (fin 0) x ≡ x
unfolding add∞
add∞-zero (fin n) = ap fin (omega arith)
add∞-zero inf = refl

pub add∞_comm : (x y : ℕ∞) → add∞ x y ≡ add∞ y x
unfolding add∞
add∞_comm (fin a) (fin b) = ap fin (omega arith)
add∞_comm (fin a) inf = refl
add∞_comm inf (fin b) = refl
add∞_comm inf inf = refl

pub add∞_assoc : (x y z : ℕ∞) → add∞ (add∞ x y) z ≡ add∞ x (add∞ y z)
unfolding add∞
add∞_assoc (fin a) (fin b) (fin c) = ap fin (omega arith)
add∞_assoc (fin a) (fin b) inf = refl
add∞_assoc (fin a) inf z = refl
add∞_assoc inf y z = refl

-- Two values with the same upper bounds are equal.
pub ext∞ : (x y : ℕ∞) → ((d : ℕ) → (x ≤? d) ≡ (y ≤? d)) → x ≡ y
ext∞ (fin a) (fin b) h = let k : b ≤ a = leb→le b a (rw (← h a) (le→leb a a (omega arith))) in
    let l : a ≤ b = leb→le a b (rw (h b) (le→leb b b (omega arith))) in ap fin (omega arith)
ext∞ (fin a) inf h = absurd (rw (h a) at (le→leb a a (omega arith)))
ext∞ inf (fin b) h = absurd (rw (← h b) at (le→leb b b (omega arith)))
ext∞ inf inf h = refl

-- What has reached n is infinite: a bound below n is unchanged, a bound from n on is the bound n - 1.
pub infinite_below : (n : ℕ) (x : ℕ∞) (d : ℕ) → d < n → (infinite_from n x ≤? d) ≡ (x ≤? d)
unfolding infinite_from
infinite_below n (fin k) d l = by_test (ltb k n) (λ e. rw e)
    (λ e. rw e (bool_iff false (leb k d) (λ t. absurd t) (λ t. let a : k ≤ d = leb→le k d t in rw e at (lt→ltb k n (omega arith)))))
infinite_below n inf d l = refl

pub infinite_above : (n : ℕ) (x : ℕ∞) (d : ℕ) → n ≤ d → (infinite_from (suc n) x ≤? d) ≡ (x ≤? n)
unfolding infinite_from
infinite_above n (fin k) d l = by_test (ltb k (suc n))
    (λ e. let a : k < suc n = ltb→lt k (suc n) (rw e tt) in rw e (T_true (leb k d) (le→leb k d (omega arith)) ∙ sym (T_true (leb k n) (le→leb k n (omega arith)))))
    (λ e. rw e (bool_iff false (leb k n) (λ t. absurd t) (λ t. let a : k ≤ n = leb→le k n t in rw e at (lt→ltb k (suc n) (omega arith)))))
infinite_above n inf d l = refl
