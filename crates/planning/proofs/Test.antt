-- Tests (Booleans) as facts: how a conjunction, a disjunction and a choice are taken apart and put together. Assumes nothing.
use mathlib.Core.Path.{◌≡◌, refl, ap, ◌∙◌}
use mathlib.Core.Bool.{Bool, true, false, not, ◌&&◌, ◌||◌}
use Prim.Native.Nat.{ℕ, suc, ◌≤◌}
use native.Mathlib.Omega.{arith}
use lib.Dec.{T, leb, eqb, leb→le, le→leb, nleb→lt, eqb→eq}
use Rattle.planning.specs.Finite.{choose}

pub T_true : (b : Bool) → T b → b ≡ true
T_true true t = refl
T_true false t = absurd t

pub not_T_false : (b : Bool) → (T b → ⊥) → b ≡ false
not_T_false true f = absurd (f tt)
not_T_false false f = refl

pub false_not_T : {b : Bool} → b ≡ false → T b → ⊥
false_not_T e t = rw e at t

pub bool_iff : (a b : Bool) → (T a → T b) → (T b → T a) → a ≡ b
bool_iff true true f g = refl
bool_iff true false f g = absurd (f tt)
bool_iff false true f g = absurd (g tt)
bool_iff false false f g = refl

pub and_in : (a b : Bool) → T a → T b → T (a && b)
and_in true b s t = t
and_in false b s t = s

pub and_l : (a b : Bool) → T (a && b) → T a
and_l true b t = tt
and_l false b t = t

pub and_r : (a b : Bool) → T (a && b) → T b
and_r true b t = t
and_r false b t = absurd t

pub or_l : (a b : Bool) → T a → T (a || b)
or_l true b t = tt
or_l false b t = absurd t

pub or_r : (a b : Bool) → T b → T (a || b)
or_r true b t = tt
or_r false b t = t

pub or_elim : {C : Type 0} (a b : Bool) → T (a || b) → (T a → C) → (T b → C) → C
or_elim true b t f g = f tt
or_elim false b t f g = g t

pub not_or : (a b : Bool) → T (not (a || b)) → T (not a) × T (not b)
not_or true b t = absurd t
not_or false b t = (tt, t)

pub or-false : (b : Bool) → (b || false) ≡ b
or-false true = refl
or-false false = refl

-- By cases on a computed test, with the equation.
pub by_test : {C : Type 0} (b : Bool) → (b ≡ true → C) → (b ≡ false → C) → C
by_test true f g = f refl
by_test false f g = g refl

pub split_le : {C : Type 0} (k m : ℕ) → k ≤ m → (k ≡ m → C) → (suc k ≤ m → C) → C
split_le k m h f g = by_test (leb m k)
    (λ e. let l : m ≤ k = leb→le m k (rw e tt) in f (omega arith))
    (λ e. g (nleb→lt m k (rw e tt)))

pub leb-zero : (d : ℕ) → leb 0 d ≡ true
leb-zero d = T_true (leb 0 d) (le→leb 0 d (omega arith))

pub not_equal : (a b : ℕ) → (a ≡ b → ⊥) → eqb a b ≡ false
not_equal a b f = not_T_false (eqb a b) (λ t. f (eqb→eq a b t))

-- The branch of a choice.
pub choose_true : {A : Type 0} (b : Bool) (j k : Unit {0} → A) → T b → choose b j k ≡ j tt
unfolding choose
choose_true true j k t = refl
choose_true false j k t = absurd t

pub choose_false : {A : Type 0} (b : Bool) (j k : Unit {0} → A) → T (not b) → choose b j k ≡ k tt
unfolding choose
choose_false true j k t = absurd t
choose_false false j k t = refl

pub choose_ext : {A : Type 0} (b : Bool) (j k j' k' : Unit {0} → A) → (T b → j tt ≡ j' tt) → (T (not b) → k tt ≡ k' tt) → choose b j k ≡ choose b j' k'
unfolding choose
choose_ext true j k j' k' f g = f tt
choose_ext false j k j' k' f g = g tt

pub choose_same : {A : Type 0} (b b' : Bool) (j k j' k' : Unit {0} → A) → b ≡ b' → (T b → j tt ≡ j' tt) → (T (not b) → k tt ≡ k' tt) → choose b j k ≡ choose b' j' k'
choose_same b b' j k j' k' e f g = choose_ext b j k j' k' f g ∙ ap (λ x. choose x j' k') e
