-- Numbers with infinity. They are compared with plain numbers by a test, and with each other by the plain numbers above them.
-- Assumes nothing.
use Rattle.std.specs.Prelude.{Bool, false, cond, List, [], ◌∷◌, ℕ, zero, suc, ◌+◌, min, max, T, leb, ltb}

pub data ℕ∞ : Type 0 where
  fin : ℕ → ℕ∞
  inf : ℕ∞

infix 40 ◌≤?◌
abbrev pub ◌≤?◌ : ℕ∞ → ℕ → Bool
fin n ≤? d = leb n d
inf ≤? d = false

-- x is at most y: every number that bounds y bounds x.
infix 35 ◌≤∞◌
unfoldable pub ◌≤∞◌ : ℕ∞ → ℕ∞ → Type 0
◌≤∞◌ x y = (d : ℕ) → T (y ≤? d) → T (x ≤? d)

unfoldable pub max∞ : ℕ∞ → ℕ∞ → ℕ∞
max∞ (fin a) (fin b) = fin (max a b)
max∞ (fin a) inf = inf
max∞ inf y = inf

unfoldable pub min∞ : ℕ∞ → ℕ∞ → ℕ∞
min∞ (fin a) (fin b) = fin (min a b)
min∞ (fin a) inf = fin a
min∞ inf y = y

unfoldable pub add∞ : ℕ∞ → ℕ∞ → ℕ∞
add∞ (fin a) (fin b) = fin (a + b)
add∞ (fin a) inf = inf
add∞ inf y = inf

-- The largest value over a list (0 over none), the sum over a list, and the least value over the n numbers k, k + 1, ... (infinite over none).
abbrev pub largest : {A : Type 0} → (A → ℕ∞) → List A → ℕ∞
largest f [] = fin 0
largest f (x ∷ xs) = max∞ (f x) (largest f xs)

abbrev pub sum∞ : {A : Type 0} → (A → ℕ∞) → List A → ℕ∞
sum∞ f [] = fin 0
sum∞ f (x ∷ xs) = add∞ (f x) (sum∞ f xs)

abbrev pub least_from : ℕ → ℕ → (ℕ → ℕ∞) → ℕ∞
least_from k zero f = inf
least_from k (suc n) f = min∞ (f k) (least_from (suc k) n f)

-- A number that reaches n counts as infinite.
unfoldable pub infinite_from : ℕ → ℕ∞ → ℕ∞
infinite_from n (fin k) = cond (ltb k n) (fin k) inf
infinite_from n inf = inf
