-- Words digit by digit: the meet of two words is that of their digits. Assumes nothing.
use Rattle.std.proofs.Common.{◌≡◌, ℕ, zero, suc, ◌+◌, ◌*◌, ◌/◌, ◌%◌, ◌^◌, ◌<◌, sym, ap, ◌∙◌, pow-suc, arith}
use native.Mathlib.Nat.{div-div-eq-div-mul}
use lib.Bits.{bit_and, and_block, and_mask}
use Rattle.tables.specs.Edges.{digit}

-- Digits of a word: those from v on, and the lowest of them.
pub further : (s v : ℕ) → s / 16 ^ v / 16 ≡ s / 16 ^ (v + 1)
further s v = div-div-eq-div-mul s (16 ^ v) 16 ∙ (let e : v + 1 ≡ suc v = omega arith in let p = pow-suc 16 v in let q : 16 ^ v * 16 ≡ 16 ^ (v + 1) = rw e (sym p) in rw q)

pub deeper : (x v : ℕ) → x / 16 / 16 ^ v ≡ x / 16 ^ suc v
deeper x v = div-div-eq-div-mul x 16 (16 ^ v) ∙ (let p = pow-suc 16 v in let q : 16 * 16 ^ v ≡ 16 ^ suc v = omega (arith, p) in rw q)

and_digits : (a b : ℕ) → bit_and a b ≡ bit_and (a / 16) (b / 16) * 16 + bit_and (a % 16) (b % 16)
and_digits a b = let p : a ≡ a / 16 * 16 + a % 16 = omega arith in let q : b ≡ b / 16 * 16 + b % 16 = omega arith in
    let h = and_block 4 (a / 16) (b / 16) (a % 16) (b % 16) (omega arith) (omega arith) in
    ap (λ y. bit_and y b) p ∙ ap (λ y. bit_and (a / 16 * 16 + a % 16) y) q ∙ h

and_small : (a b : ℕ) → b < 16 → bit_and a b < 16
and_small a b l = omega (arith, lib.Bits.and_le_r a b)

pub and_mod : (a b : ℕ) → bit_and a b % 16 ≡ bit_and (a % 16) (b % 16)
and_mod a b = let h = and_digits a b in let l = and_small (a % 16) (b % 16) (omega arith) in omega arith

pub and_div : (a b : ℕ) → bit_and a b / 16 ≡ bit_and (a / 16) (b / 16)
and_div a b = let h = and_digits a b in let l = and_small (a % 16) (b % 16) (omega arith) in omega arith

and_from : (a b u : ℕ) → bit_and a b / 16 ^ u ≡ bit_and (a / 16 ^ u) (b / 16 ^ u)
and_from a b zero = let x : (y : ℕ) → y / 16 ^ 0 ≡ y = λ y. omega arith in rw (x (bit_and a b), x a, x b)
and_from a b (suc u) = rw (← deeper (bit_and a b) u, ← deeper a u, ← deeper b u, and_div a b) (and_from (a / 16) (b / 16) u)

pub and_digit : (a b u : ℕ) → digit (bit_and a b) u ≡ bit_and (digit a u) (digit b u)
and_digit a b u = rw (and_from a b u) (and_mod (a / 16 ^ u) (b / 16 ^ u))

pub and_all : (a : ℕ) → a < 16 → bit_and a 15 ≡ a
and_all a l = let h = and_mask a 4 in omega (arith, h)
