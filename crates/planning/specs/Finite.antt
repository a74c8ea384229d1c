-- Finite lists and runs of numbers: tests and statements about every element, and lists given by their places.
-- Assumes nothing.
use Rattle.std.specs.Prelude.{◌≡◌, ◌⊎◌, Bool, true, false, ◌&&◌, ◌||◌, List, [], ◌∷◌, ◌++◌, ℕ, zero, suc, ◌+◌}

-- A choice whose branches wait until the test is known.
unfoldable pub choose : {A : Type 0} → Bool → (Unit {0} → A) → (Unit {0} → A) → A
choose true yes₁ no₁ = yes₁ tt
choose false yes₁ no₁ = no₁ tt

-- The test passes at every element; at some element.
abbrev pub every : {A : Type 0} → (A → Bool) → List A → Bool
every p [] = true
every p (x ∷ xs) = p x && every p xs

abbrev pub some_of : {A : Type 0} → (A → Bool) → List A → Bool
some_of p [] = false
some_of p (x ∷ xs) = p x || some_of p xs

-- The same as statements.
abbrev pub All : {A : Type 0} → (A → Type 0) → List A → Type 0
All P [] = Unit {0}
All P (x ∷ xs) = P x × All P xs

abbrev pub Some : {A : Type 0} → (A → Type 0) → List A → Type 0
Some P [] = ⊥
Some P (x ∷ xs) = P x ⊎ Some P xs

-- The test passes at one of the n numbers k, k + 1, ...
abbrev pub any_from : ℕ → ℕ → (ℕ → Bool) → Bool
any_from k zero p = false
any_from k (suc n) p = p k || any_from (suc k) n p

-- Exactly c of the n numbers k, k + 1, ... have the property.
abbrev pub HowMany : (ℕ → Type 0) → ℕ → ℕ → ℕ → Type 0
HowMany P k zero c = c ≡ 0
HowMany P k (suc n) c = (P k × (b : ℕ) × (c ≡ suc b) × HowMany P (suc k) n b) ⊎ ((P k → ⊥) × HowMany P (suc k) n c)

-- The sum of a list of numbers.
abbrev pub total : List ℕ → ℕ
total [] = 0
total (x ∷ xs) = x + total xs

-- The list of f k, f (k + 1), ..., n long.
unfoldable pub tabulate : {A : Type 0} → (ℕ → A) → ℕ → ℕ → List A
tabulate f k zero = []
tabulate f k (suc n) = f k ∷ tabulate f (suc k) n

-- Lists one after the other.
unfoldable pub chain : {A B : Type 0} → (A → List B) → List A → List B
chain f [] = []
chain f (x ∷ xs) = f x ++ chain f xs
