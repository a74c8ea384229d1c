-- The owner rule over the assignments that remain: an action affects a pattern exactly where one of them is to a variable of it, so the verdict is
-- yes exactly where the owner rule holds. Assumes nothing.
use mathlib.Core.Path.{◌≡◌, refl, ◌∙◌}
use mathlib.Core.Logic.{inl, inr, ◌↔◌}
use mathlib.Core.Bool.{not, ◌&&◌}
use mathlib.Core.List.{List, [], ◌∷◌}
use Prim.Native.Nat.{ℕ, zero, suc, ◌+◌, ◌≤◌, ◌<◌}
use native.Mathlib.Omega.{arith}
use lib.Dec.{T, eqb, eqb→eq}
use lib.ListN.{length, get_or}
use borrow.Author.Tests.{eqb-false, ne_eqb}
use Rattle.planning.specs.Finite.{All, Some}
use Rattle.planning.specs.Task.{Action, Task}
use Rattle.planning.specs.Pattern.{counted_cell, counted, affects, affects_pattern, affected_from, Additive, Meets, OwnerRule, additive, verdict}
use Rattle.planning.proofs.Test.{and_l, and_r, or_l, or_r, or_elim, by_test}
use Rattle.planning.proofs.Finite.{all_imp, some_imp, some_of_in, some_of_out}
use Rattle.planning.proofs.Verdict.{AffectsNumber, affected_only, affected_all, affected_ascending, Ascending, verdict-additive}

-- A cell counts where it names a value that the need does not demand.
counted_none : (o : List ℕ) → counted [] o ≡ o
unfolding counted
counted_none [] = refl
counted_none (y ∷ o) = refl

cell_in : (b n y : ℕ) → (y ≡ 255 → ⊥) → (y ≡ n → ⊥) → b ≡ 1 → T (eqb b 1 && not (eqb (counted_cell n y) 255))
cell_in b n y f g e = rw (e, ne_eqb y n g, ne_eqb y 255 f) tt

cell_out : (b n y : ℕ) → T (eqb b 1 && not (eqb (counted_cell n y) 255)) → (y ≡ 255 → ⊥) × (y ≡ n → ⊥) × (b ≡ 1)
cell_out b n y t = let e = eqb→eq b 1 (and_l (eqb b 1) _ t) in let u = and_r (eqb b 1) (not (eqb (counted_cell n y) 255)) t in
    by_test (eqb y n)
    (λ h. absurd (rw h at u))
    (λ h. by_test (eqb y 255) (λ k. absurd (rw (h, k) at u)) (λ k. (eqb-false y 255 k, eqb-false y n h, e)))

-- An outcome affects a pattern by an assignment that remains, and by nothing else.
affects_in : (p n o : List ℕ) (v : ℕ) → (get_or o v 255 ≡ 255 → ⊥) → (get_or o v 255 ≡ get_or n v 255 → ⊥) → get_or p v 0 ≡ 1 → T (affects p (counted n o))
unfolding affects counted
affects_in p n [] v f g e = absurd (f refl)
affects_in [] n (y ∷ o) v f g e = absurd (omega arith)
affects_in (b ∷ p) [] (y ∷ o) zero f g e = or_l (eqb b 1 && not (eqb y 255)) (affects p o) (rw (e, ne_eqb y 255 f) tt)
affects_in (b ∷ p) [] (y ∷ o) (suc v) f g e = or_r (eqb b 1 && not (eqb y 255)) (affects p o) (rw (counted_none o) at (affects_in p [] o v f g e))
affects_in (b ∷ p) (n ∷ need) (y ∷ o) zero f g e = or_l (eqb b 1 && not (eqb (counted_cell n y) 255)) (affects p (counted need o)) (cell_in b n y f g e)
affects_in (b ∷ p) (n ∷ need) (y ∷ o) (suc v) f g e = or_r (eqb b 1 && not (eqb (counted_cell n y) 255)) (affects p (counted need o)) (affects_in p need o v f g e)

abbrev Named : List ℕ → List ℕ → List ℕ → Type 0
Named p n o = (v : ℕ) × ((get_or o v 255 ≡ 255 → ⊥) × (get_or o v 255 ≡ get_or n v 255 → ⊥)) × (get_or p v 0 ≡ 1)

later : (b : ℕ) (p : List ℕ) (m : ℕ) (n : List ℕ) (y : ℕ) (o : List ℕ) → Named p n o → Named (b ∷ p) (m ∷ n) (y ∷ o)
later b p m n y o h = (suc h.0, h.1, h.2)

affects_out : (p n o : List ℕ) → T (affects p (counted n o)) → Named p n o
unfolding affects counted
affects_out p n [] t = absurd t
affects_out [] [] (y ∷ o) t = let h = affects_out [] [] o (rw (← counted_none o) at t) in absurd (omega (arith, h.2))
affects_out [] (n ∷ need) (y ∷ o) t = let h = affects_out [] need o t in absurd (omega (arith, h.2))
affects_out (b ∷ p) [] (y ∷ o) t = or_elim (eqb b 1 && not (eqb y 255)) (affects p o) t
    (λ c. let k = by_test (eqb y 255) (λ q. absurd (rw q at (and_r (eqb b 1) (not (eqb y 255)) c))) (λ q. eqb-false y 255 q) in (0, (k, k), eqb→eq b 1 (and_l (eqb b 1) _ c)))
    (λ r. let h = affects_out p [] o (rw (← counted_none o) at r) in (suc h.0, h.1, h.2))
affects_out (b ∷ p) (n ∷ need) (y ∷ o) t = or_elim (eqb b 1 && not (eqb (counted_cell n y) 255)) (affects p (counted need o)) t
    (λ c. let k = cell_out b n y c in (0, (k.0, k.1), k.2))
    (λ r. later b p n need y o (affects_out p need o r))

-- What counts by a need is named, so it counts by a need that demands nothing.
pub affects_named : (p n m o : List ℕ) → ((v : ℕ) → get_or m v 255 ≡ 255) → T (affects p (counted n o)) → T (affects p (counted m o))
affects_named p n m o free t = let h = affects_out p n o t in affects_in p m o h.0 h.1.0 (λ e. h.1.0 (e ∙ free h.0)) h.2

pub meets_affected : (a : Action) (p : List ℕ) → Meets a p → T (affects_pattern a p)
unfolding affects_pattern
meets_affected a p h = some_of_in (λ o. affects p (counted a.precondition o)) a.outcomes (some_imp (λ o k. affects_in p a.precondition o k.0 k.1.0 k.1.1 k.2) a.outcomes h)

pub affected_meets : (a : Action) (p : List ℕ) → T (affects_pattern a p) → Meets a p
unfolding affects_pattern
affected_meets a p t = some_imp (λ o k. affects_out p a.precondition o k) a.outcomes (some_of_out (λ o. affects p (counted a.precondition o)) a.outcomes t)

-- Of at most one number any two are the same.
pub one_alone : (l : List ℕ) (i j : ℕ) → length l ≤ 1 → Some (λ x. x ≡ 0 + i) l → Some (λ x. x ≡ 0 + j) l → i ≡ j
one_alone [] i j n s u = absurd s
one_alone (x ∷ []) i j n (inl a) (inl b) = omega arith
one_alone (x ∷ []) i j n (inl a) (inr b) = absurd b
one_alone (x ∷ []) i j n (inr a) u = absurd a
one_alone (x ∷ (y ∷ l)) i j n s u = absurd (omega arith)

-- Of an action: at most one pattern is affected exactly where what remains meets at most one.
module _ (ps : List (List ℕ)) (a : Action) where
  abbrev Alone : Type 0
  Alone = (p q : ℕ) → p < length ps → q < length ps → Meets a (get_or ps p []) → Meets a (get_or ps q []) → p ≡ q

  few_alone : length (affected_from 0 ps a) ≤ 1 → Alone
  few_alone l p q b c m n = one_alone (affected_from 0 ps a) p q l (affected_all 0 ps a p b (meets_affected a _ m)) (affected_all 0 ps a q c (meets_affected a _ n))

  alone_few : Alone → length (affected_from 0 ps a) ≤ 1
  alone_few f = short (affected_from 0 ps a) (affected_ascending 0 ps a) (affected_only 0 ps a)
    where
      short : (l : List ℕ) → Ascending l → All (λ j. (i : ℕ) × (j ≡ 0 + i) × (i < length ps) × AffectsNumber a ps i) l → length l ≤ 1
      short [] up only = omega arith
      short (x ∷ []) up only = omega arith
      short (x ∷ (y ∷ l)) up only = let e = f only.0.0 only.1.0.0 only.0.2 only.1.0.2 (affected_meets a _ only.0.3) (affected_meets a _ only.1.0.3) in
          let o = up.0.0 in let g = only.0.1 in let h = only.1.0.1 in absurd (omega arith)

pub verdict_owners : (t : Task) (ps : List (List ℕ)) → verdict t ps ≡ additive ↔ OwnerRule t ps
unfolding OwnerRule Additive
verdict_owners t ps = let v = verdict-additive t ps in (
  λ e. all_imp (λ a l. few_alone ps a l) t.actions (v.0 e),
  λ h. v.1 (all_imp (λ a f. alone_few ps a f) t.actions h),
)
