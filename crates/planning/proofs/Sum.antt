-- A sum of components under one action. Each component F p is at most its charge c p plus its value G p o after outcome o: for every
-- outcome, or, of one component at most, for some outcome. Then the sum keeps to the charges together for some outcome. Assumes nothing.
use mathlib.Core.Logic.{◌⊎◌, inl, inr}
use mathlib.Core.List.{List, [], ◌∷◌}
use Prim.Native.Nat.{ℕ, ◌+◌}
use Rattle.planning.specs.Finite.{All, Some}
use Rattle.planning.specs.Extended.{ℕ∞, fin, ◌≤∞◌, add∞, sum∞}
use Rattle.planning.proofs.Finite.{all_of, all_zip, some_imp, some_zip}
use Rattle.planning.proofs.Extended.{le∞_sum, zero_le∞}

module _ {P O : Type 0} (F : P → ℕ∞) (G : P → O → ℕ∞) (c : P → ℕ) (os : List O) where
  abbrev pub Step : P → O → Type 0
  Step p o = F p ≤∞ add∞ (fin (c p)) (G p o)

  abbrev pub charges : List P → ℕ
  charges [] = 0
  charges (p ∷ ps) = c p + charges ps

  abbrev pub Sum : List P → O → Type 0
  Sum ps o = sum∞ F ps ≤∞ add∞ (fin (charges ps)) (sum∞ (λ q. G q o) ps)

  abbrev pub Every : List P → Type 0
  Every ps = All (λ p. All (Step p) os) ps

  abbrev pub One : List P → Type 0
  One [] = Unit {0}
  One (p ∷ ps) = (All (Step p) os × One ps) ⊎ (Some (Step p) os × Every ps)

  sum_cons : (p : P) (ps : List P) (o : O) → Step p o → Sum ps o → Sum (p ∷ ps) o
  sum_cons p ps o h k = le∞_sum (c p) (charges ps) (F p) (G p o) (sum∞ F ps) (sum∞ (λ q. G q o) ps) h k

  pub sum_every : (ps : List P) → Every ps → All (Sum ps) os
  sum_every [] h = all_of (λ o. zero_le∞ _) os
  sum_every (p ∷ ps) h = all_zip (sum_cons p ps) os h.0 (sum_every ps h.1)

  pub sum_one : (ps : List P) → Some (λ o. Unit {0}) os → One ps → Some (Sum ps) os
  sum_one [] e h = some_imp (λ o u. zero_le∞ _) os e
  sum_one (p ∷ ps) e (inl h) = some_zip (sum_cons p ps) os h.0 (sum_one ps e h.1)
  sum_one (p ∷ ps) e (inr h) = some_zip (λ o a b. sum_cons p ps o b a) os (sum_every ps h.1) h.0
