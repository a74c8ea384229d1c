-- Laws on tests (Bools) and on a byte that gathers faults. Assumes nothing.
use Rattle.std.proofs.Common.{◌≡◌, ℕ, Bool, true, false, ◌&&◌, ◌||◌, eqb, sym, refl, arith, eq-eqb, eqb-true}
use lib.Bits.{bit_or, or_add_and, and_le_l, and_le_r}

-- Two tests that imply each other are the same.
pub same_test : (p q : Bool) → (p ≡ true → q ≡ true) → (q ≡ true → p ≡ true) → p ≡ q
same_test true true f g = refl
same_test true false f g = sym (f refl)
same_test false true f g = g refl
same_test false false f g = refl

pub false_true : {A : Type 0} → false ≡ true → A
false_true e = let z : ◌≡◌ {A = ℕ} 0 1 = cc in absurd (omega arith)

pub both_left : (p q : Bool) → (p && q) ≡ true → p ≡ true
both_left true q h = refl
both_left false q h = h

pub both_right : (p q : Bool) → (p && q) ≡ true → q ≡ true
both_right true q h = h
both_right false q h = false_true h

pub both : (p q : Bool) → p ≡ true → q ≡ true → (p && q) ≡ true
both p q a b = rw (a, b)

pub either : (p q : Bool) → (p ≡ false → q ≡ true) → (p || q) ≡ true
either true q f = refl
either false q f = f refl

pub one_of : {A : Type 0} (p q : Bool) → (p || q) ≡ true → (p ≡ true → A) → (q ≡ true → A) → A
one_of true q h f g = f refl
one_of false q h f g = g h

-- What was gathered by `|` is 0 where each part is.
pub or_none : (a b : ℕ) → eqb (bit_or a b) 0 ≡ (eqb a 0 && eqb b 0)
or_none a b =
    let s = or_add_and a b in let l = and_le_l a b in let r = and_le_r a b in
    same_test _ _
    (λ h. let e = eqb-true (bit_or a b) 0 h in
    let ea : a ≡ 0 = omega arith in let eb : b ≡ 0 = omega arith in both (eqb a 0) (eqb b 0) (eq-eqb a 0 ea) (eq-eqb b 0 eb))
    (λ h. let ea = eqb-true a 0 (both_left _ _ h) in let eb = eqb-true b 0 (both_right (eqb a 0) _ h) in
    let e : bit_or a b ≡ 0 = omega arith in eq-eqb _ _ e)
