-- Cells that name nothing from place n on: sixteen cells say of a state what they say of its first n values. Assumes nothing.
use Rattle.std.proofs.Common.{◌≡◌, ℕ, zero, suc, ◌≤◌, Bool, true, ◌&&◌, List, [], ◌∷◌, get_or, take, sym, refl, ap, arith, eq-eqb}
use Rattle.planning.specs.Task.{meets_cell, meets, apply_cell, apply}

-- No cell from place n on is named.
pub record Unnamed (n : ℕ) (c : List ℕ) : Type 0 where
  pub free : (v : ℕ) → n ≤ v → get_or c v 255 ≡ 255

unnamed_next : (n y : ℕ) (c : List ℕ) → Unnamed (suc n) (y ∷ c) → Unnamed n c
unnamed_next n y c u = record { free = λ v l. u.free (suc v) (omega arith) }

unnamed_tail : (y : ℕ) (c : List ℕ) → Unnamed 0 (y ∷ c) → Unnamed 0 c
unnamed_tail y c u = record { free = λ v l. u.free (suc v) (omega arith) }

unnamed-meets : (c s : List ℕ) → Unnamed 0 c → meets c s ≡ true
unfolding meets
unnamed-meets [] s u = refl
unnamed-meets (y ∷ c) [] u = refl
unnamed-meets (y ∷ c) (x ∷ s) u = rw (eq-eqb y 255 (u.free 0 (omega arith))) (unnamed-meets c s (unnamed_tail y c u))

pub meets_front : (n : ℕ) (c s : List ℕ) → Unnamed n c → meets c (take n s) ≡ meets c s
unfolding meets
meets_front n [] s u = refl
meets_front zero (y ∷ c) [] u = refl
meets_front (suc n) (y ∷ c) [] u = refl
meets_front zero (y ∷ c) (x ∷ s) u = sym (unnamed-meets (y ∷ c) (x ∷ s) u)
meets_front (suc n) (y ∷ c) (x ∷ s) u = ap (λ (t : Bool). meets_cell y x && t) (meets_front n c s (unnamed_next n y c u))

pub apply_front : (n : ℕ) (o s : List ℕ) → apply o (take n s) ≡ take n (apply o s)
unfolding apply
apply_front zero o [] = refl
apply_front (suc n) o [] = refl
apply_front zero o (x ∷ s) = refl
apply_front (suc n) [] (x ∷ s) = refl
apply_front (suc n) (y ∷ o) (x ∷ s) = ap (λ (t : List ℕ). apply_cell y x ∷ t) (apply_front n o s)
