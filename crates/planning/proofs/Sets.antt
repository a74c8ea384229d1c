-- Sets as words: two sets met or joined, an empty one, and how large one is. Assumes nothing.
use mathlib.Core.Path.{◌≡◌, refl, ap₂, ◌∙◌}
use mathlib.Core.Bool.{Bool, true, false, ◌&&◌, ◌||◌, cond}
use Prim.Native.Nat.{ℕ, zero, suc, ◌+◌, ◌*◌, ◌≤◌, ◌<◌, ◌^◌}
use native.Mathlib.Nat.{pow-suc}
use native.Mathlib.Omega.{arith}
use lib.Bits.{bit_and, bit_or, and_block, or_block}
use Rattle.planning.specs.Sets.{set_from}

-- Tests that agree give the same set.
pub set_same : (f g : ℕ → Bool) (m n : ℕ) → ((j : ℕ) → m ≤ j → j < m + n → f j ≡ g j) → set_from f m n ≡ set_from g m n
unfolding set_from
set_same f g m zero h = refl
set_same f g m (suc n) h = ap₂ (λ a t. a * 2 + cond t 1 0) (set_same f g (m + 1) n (λ j k l. h j (omega arith) (omega arith))) (h m (omega arith) (omega arith))

pub digit_small : (t : Bool) → cond t 1 0 < 2
digit_small true = omega arith
digit_small false = omega arith

digits_met : (t u : Bool) → bit_and (cond t 1 0) (cond u 1 0) ≡ cond (t && u) 1 0
digits_met true true = refl
digits_met true false = refl
digits_met false true = refl
digits_met false false = refl

digits_joined : (t u : Bool) → bit_or (cond t 1 0) (cond u 1 0) ≡ cond (t || u) 1 0
digits_joined true true = refl
digits_joined true false = refl
digits_joined false true = refl
digits_joined false false = refl

-- The set of what is in both of two sets, and in one of them.
pub set_meet : (f g : ℕ → Bool) (m n : ℕ) → bit_and (set_from f m n) (set_from g m n) ≡ set_from (λ j. f j && g j) m n
unfolding set_from
set_meet f g m zero = refl
set_meet f g m (suc n) = and_block 1 (set_from f (m + 1) n) (set_from g (m + 1) n) (cond (f m) 1 0) (cond (g m) 1 0) (digit_small (f m)) (digit_small (g m))
    ∙ ap₂ (λ a b. a * 2 + b) (set_meet f g (m + 1) n) (digits_met (f m) (g m))

pub set_join : (f g : ℕ → Bool) (m n : ℕ) → bit_or (set_from f m n) (set_from g m n) ≡ set_from (λ j. f j || g j) m n
unfolding set_from
set_join f g m zero = refl
set_join f g m (suc n) = or_block 1 (set_from f (m + 1) n) (set_from g (m + 1) n) (cond (f m) 1 0) (cond (g m) 1 0) (digit_small (f m)) (digit_small (g m))
    ∙ ap₂ (λ a b. a * 2 + b) (set_join f g (m + 1) n) (digits_joined (f m) (g m))

pub set_none : (m n : ℕ) → set_from (λ j. false) m n ≡ 0
unfolding set_from
set_none m zero = refl
set_none m (suc n) = rw (set_none (m + 1) n)

pub set_below : (f : ℕ → Bool) (m n : ℕ) → set_from f m n < 2 ^ n
unfolding set_from
set_below f m zero = omega arith
set_below f m (suc n) = let i = set_below f (m + 1) n in let p = pow-suc 2 n in let b = digit_small (f m) in omega arith
