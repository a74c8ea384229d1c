-- Laws of finite lists and runs of numbers. Assumes nothing.
use mathlib.Core.Path.{◌≡◌, refl, ap, ◌∙◌}
use mathlib.Core.Logic.{inl, inr}
use mathlib.Core.Bool.{Bool, not}
use mathlib.Core.List.{List, [], ◌∷◌, map}
use Prim.Native.Nat.{ℕ, zero, suc, ◌+◌, ◌≤◌, ◌<◌}
use native.Mathlib.Omega.{arith}
use lib.Dec.{T}
use lib.ListN.{length, get_or}
use Rattle.planning.specs.Finite.{every, some_of, All, Some, any_from, tabulate}
use Rattle.planning.proofs.Test.{and_in, and_l, and_r, or_l, or_r, or_elim, not_or, split_le}

-- Statements about every element, and about some.
pub all_of : {A : Type 0} {P : A → Type 0} → ((x : A) → P x) → (xs : List A) → All P xs
all_of f [] = tt
all_of f (x ∷ xs) = (f x, all_of f xs)

pub all_imp : {A : Type 0} {P Q : A → Type 0} → ((x : A) → P x → Q x) → (xs : List A) → All P xs → All Q xs
all_imp f [] s = tt
all_imp f (x ∷ xs) s = (f x s.0, all_imp f xs s.1)

pub all_zip : {A : Type 0} {P Q R : A → Type 0} → ((x : A) → P x → Q x → R x) → (xs : List A) → All P xs → All Q xs → All R xs
all_zip f [] a b = tt
all_zip f (x ∷ xs) a b = (f x a.0 b.0, all_zip f xs a.1 b.1)

pub all_map : {A B : Type 0} (P : B → Type 0) (f : A → B) (xs : List A) → All (λ x. P (f x)) xs → All P (map f xs)
all_map P f [] s = tt
all_map P f (x ∷ xs) s = (s.0, all_map P f xs s.1)

pub all_at : {A : Type 0} (P : A → Type 0) (xs : List A) (d : A) → All P xs → (i : ℕ) → i < length xs → P (get_or xs i d)
all_at P [] d s i l = absurd (omega arith)
all_at P (x ∷ xs) d s zero l = s.0
all_at P (x ∷ xs) d s (suc i) l = all_at P xs d s.1 i (omega arith)

pub some_imp : {A : Type 0} {P Q : A → Type 0} → ((x : A) → P x → Q x) → (xs : List A) → Some P xs → Some Q xs
some_imp f [] s = s
some_imp f (x ∷ xs) (inl p) = inl (f x p)
some_imp f (x ∷ xs) (inr s) = inr (some_imp f xs s)

pub some_zip : {A : Type 0} {P Q R : A → Type 0} → ((x : A) → P x → Q x → R x) → (xs : List A) → All P xs → Some Q xs → Some R xs
some_zip f [] a b = b
some_zip f (x ∷ xs) a (inl q) = inl (f x a.0 q)
some_zip f (x ∷ xs) a (inr b) = inr (some_zip f xs a.1 b)

pub some_all : {A : Type 0} {P Q : A → Type 0} (xs : List A) → Some P xs → All Q xs → (x : A) × P x × Q x
some_all [] s a = absurd s
some_all (x ∷ xs) (inl s) a = (x, s, a.0)
some_all (x ∷ xs) (inr s) a = some_all xs s a.1

pub some_map : {A B : Type 0} (P : B → Type 0) (f : A → B) (xs : List A) → Some (λ x. P (f x)) xs → Some P (map f xs)
some_map P f [] s = s
some_map P f (x ∷ xs) (inl p) = inl p
some_map P f (x ∷ xs) (inr s) = inr (some_map P f xs s)

pub some_unmap : {A B : Type 0} (P : B → Type 0) (f : A → B) (xs : List A) → Some P (map f xs) → Some (λ x. P (f x)) xs
some_unmap P f [] s = s
some_unmap P f (x ∷ xs) (inl p) = inl p
some_unmap P f (x ∷ xs) (inr s) = inr (some_unmap P f xs s)

-- The tests.
pub every_ext : {A : Type 0} (p q : A → Bool) (xs : List A) → All (λ x. p x ≡ q x) xs → every p xs ≡ every q xs
every_ext p q [] h = refl
every_ext p q (x ∷ xs) h = rw (h.0, every_ext p q xs h.1)

pub every_imp : {A : Type 0} (p q : A → Bool) (xs : List A) → All (λ x. T (p x) → T (q x)) xs → T (every p xs) → T (every q xs)
every_imp p q [] h t = tt
every_imp p q (x ∷ xs) h t = and_in (q x) _ (h.0 (and_l (p x) _ t)) (every_imp p q xs h.1 (and_r (p x) _ t))

pub every_some : {A : Type 0} (p : A → Bool) (xs : List A) → Some (λ x. Unit {0}) xs → T (every p xs) → (x : A) × T (p x)
every_some p [] e t = absurd e
every_some p (x ∷ xs) e t = (x, and_l (p x) _ t)

pub some_of_in : {A : Type 0} (p : A → Bool) (xs : List A) → Some (λ x. T (p x)) xs → T (some_of p xs)
some_of_in p [] s = absurd s
some_of_in p (x ∷ xs) (inl t) = or_l (p x) (some_of p xs) t
some_of_in p (x ∷ xs) (inr s) = or_r (p x) (some_of p xs) (some_of_in p xs s)

pub some_of_out : {A : Type 0} (p : A → Bool) (xs : List A) → T (some_of p xs) → Some (λ x. T (p x)) xs
some_of_out p [] t = absurd t
some_of_out p (x ∷ xs) t = or_elim (p x) (some_of p xs) t inl (λ s. inr (some_of_out p xs s))

pub not_some_of : {A : Type 0} (p : A → Bool) (xs : List A) → T (not (some_of p xs)) → All (λ x. T (not (p x))) xs
not_some_of p [] h = tt
not_some_of p (x ∷ xs) h = let k = not_or (p x) (some_of p xs) h in (k.0, not_some_of p xs k.1)

-- Runs of numbers.
pub any_ext : (k n : ℕ) (p q : ℕ → Bool) → ((m : ℕ) → m < k + n → p m ≡ q m) → any_from k n p ≡ any_from k n q
any_ext k zero p q h = refl
any_ext k (suc n) p q h = rw (h k (omega arith), any_ext (suc k) n p q (λ m l. h m (omega arith)))

pub any_in : (k n : ℕ) (p : ℕ → Bool) (m : ℕ) → k ≤ m → m < k + n → T (p m) → T (any_from k n p)
any_in k zero p m a b t = absurd (omega arith)
any_in k (suc n) p m a b t = split_le k m a
    (λ e. or_l (p k) (any_from (suc k) n p) (rw e t))
    (λ l. or_r (p k) (any_from (suc k) n p) (any_in (suc k) n p m l (omega arith) t))

pub any_out : (k n : ℕ) (p : ℕ → Bool) → T (any_from k n p) → (m : ℕ) × (m < k + n) × T (p m)
any_out k zero p t = absurd t
any_out k (suc n) p t = or_elim (p k) (any_from (suc k) n p) t
    (λ t. (k, omega arith, t))
    (λ t. let h = any_out (suc k) n p t in (h.0, omega arith, h.2))

-- Lists by their places.
pub length-tabulate : {A : Type 0} (f : ℕ → A) (k n : ℕ) → length (tabulate f k n) ≡ n
unfolding tabulate
length-tabulate f k zero = refl
length-tabulate f k (suc n) = ap suc (length-tabulate f (suc k) n)

pub get_or_tabulate : {A : Type 0} (f : ℕ → A) (k n i : ℕ) (d : A) → i < n → get_or (tabulate f k n) i d ≡ f (k + i)
unfolding tabulate
get_or_tabulate f k zero i d l = absurd (omega arith)
get_or_tabulate f k (suc n) zero d l = ap f (omega arith)
get_or_tabulate f k (suc n) (suc i) d l = get_or_tabulate f (suc k) n i d (omega arith) ∙ ap f (omega arith)

pub some_tabulate : {A : Type 0} (f : ℕ → A) (k n i : ℕ) → i < n → Some (λ x. x ≡ f (k + i)) (tabulate f k n)
unfolding tabulate
some_tabulate f k zero i l = absurd (omega arith)
some_tabulate f k (suc n) zero l = inl (ap f (omega arith))
some_tabulate f k (suc n) (suc i) l = inr (some_imp (λ x e. e ∙ ap f (omega arith)) (tabulate f (suc k) n) (some_tabulate f (suc k) n i (omega arith)))

pub get_or_map : {A B : Type 0} (f : A → B) (xs : List A) (i : ℕ) (d : A) (e : B) → i < length xs → get_or (map f xs) i e ≡ f (get_or xs i d)
get_or_map f [] i d e h = absurd (omega arith)
get_or_map f (x ∷ xs) zero d e h = refl
get_or_map f (x ∷ xs) (suc i) d e h = get_or_map f xs i d e (omega arith)

pub map-map : {A B C : Type 0} (f : A → B) (g : B → C) (xs : List A) → map g (map f xs) ≡ map (λ x. g (f x)) xs
map-map f g [] = refl
map-map f g (x ∷ xs) = ap (λ l. g (f x) ∷ l) (map-map f g xs)

pub map_ext : {A B : Type 0} (f g : A → B) → ((x : A) → f x ≡ g x) → (xs : List A) → map f xs ≡ map g xs
map_ext f g h [] = refl
map_ext f g h (x ∷ xs) = rw (h x, map_ext f g h xs)
