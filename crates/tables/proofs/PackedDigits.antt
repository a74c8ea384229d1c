-- The digits of packed lists. Assumes nothing.
use Rattle.std.proofs.Common.{◌≡◌, ℕ, zero, suc, ◌+◌, ◌*◌, ◌/◌, ◌%◌, ◌^◌, ◌<◌, eqb, ◌⊎◌, List, [], ◌∷◌, get_or, sym, refl, ap, ◌∙◌, inl, inr, arith}
use Rattle.planning.proofs.Test.{by_test}
use Rattle.packed_task.specs.Packed.{pack_by, picking}
use Rattle.tables.specs.Edges.{digit, PlainMask}
use Rattle.tables.proofs.Digits.{further_digit}

-- A digit of a packed list is that of its cell, and 0 beyond its end.
pub digit_none : (u : ℕ) → digit 0 u ≡ 0
digit_none zero = refl
digit_none (suc u) = let q : u + 1 ≡ suc u = omega arith in sym (rw q at (further_digit 0 u)) ∙ digit_none u

pub pack-digit : (g : ℕ → ℕ) (d : ℕ) → g d ≡ 0 → ((x : ℕ) → g x < 16) → (l : List ℕ) (u : ℕ) → digit (pack_by g l) u ≡ g (get_or l u d)
unfolding pack_by
pack-digit g d z s [] u = digit_none u ∙ sym z
pack-digit g d z s (x ∷ l) zero = let b = s x in let y : (pack_by g l * 16 + g x) / 16 ^ 0 ≡ pack_by g l * 16 + g x = omega arith in ap (λ a. a % 16) y ∙ omega arith
pack-digit g d z s (x ∷ l) (suc u) = let b = s x in let q : u + 1 ≡ suc u = omega arith in let y : (pack_by g l * 16 + g x) / 16 ≡ pack_by g l = omega arith in
    sym (rw q at (further_digit (pack_by g l * 16 + g x) u)) ∙ ap (λ a. digit a u) y ∙ pack-digit g d z s l u

pub picking-digit : (x : ℕ) → picking x < 16
picking-digit x = by_test (eqb x 1) (λ e. rw e (omega arith)) (λ e. rw e (omega arith))

-- The digits of a pattern's mask are 0 or 15.
pub plain_mask : (p : List ℕ) → PlainMask (pack_by picking p)
plain_mask p u = rw (pack-digit picking 0 refl picking-digit p u) (either (get_or p u 0))
  where
    either : (y : ℕ) → (picking y ≡ 0) ⊎ (picking y ≡ 15)
    either y = by_test (eqb y 1) (λ e. inr (rw e)) (λ e. inl (rw e))
