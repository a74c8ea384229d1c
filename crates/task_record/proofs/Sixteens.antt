-- Lists of cells that a loop fills from the first on. Assumes nothing.
use Rattle.std.proofs.Common.{◌≡◌, ℕ, zero, suc, ◌+◌, ◌<◌, eqb, List, [], ◌∷◌, length, get_or, set, replicate, refl, ◌∙◌, arith, get_or-set_other, get_or-set_same, eqb-true}
use borrow.Author.Tests.{eqb-false}
use Rattle.planning.proofs.Test.{by_test}

pub filled_next : (f : ℕ → ℕ) (l : List ℕ) (i x : ℕ) → i < length l → x ≡ f i → ((v : ℕ) → v < i → get_or l v 0 ≡ f v)
    → (v : ℕ) → v < i + 1 → get_or (set l i x) v 0 ≡ f v
filled_next f l i x h e below v w =
    by_test (eqb v i)
    (λ t. let q = eqb-true v i t in rw q (get_or-set_same l i x 0 h ∙ e))
    (λ t. let q = eqb-false v i t in get_or-set_other l i v x 0 q ∙ below v (omega (arith, q)))

pub zeros : (n i : ℕ) → ◌≡◌ {A = ℕ} (get_or (replicate n 0) i 0) 0
zeros zero i = refl
zeros (suc n) zero = refl
zeros (suc n) (suc i) = zeros n i

-- A cell that is there does not depend on the default.
pub any_default : (l : List ℕ) (i d e : ℕ) → i < length l → get_or l i d ≡ get_or l i e
any_default [] i d e h = absurd (omega arith)
any_default (x ∷ l) zero d e h = refl
any_default (x ∷ l) (suc i) d e h = any_default l i d e (omega arith)
