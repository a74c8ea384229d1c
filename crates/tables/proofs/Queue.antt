-- Laws of the waiting states: one put in, one taken out, none left. Assumes nothing.
use Rattle.std.proofs.Common.{◌≡◌, ℕ, zero, suc, ◌+◌, ◌<◌, ◌≤◌, Bool, true, false, cond, List, [], ◌∷◌, length, get_or, set, sym, refl, ◌∙◌, arith, length-set, get_or-set_other, get_or-set_same}
use native.Mathlib.Decide.{ℕ_discrete, dec_lt}
use lib.ListN.{get_or-eq_default}
use Rattle.tables.specs.Waiting.{Waits}
use Rattle.tables.specs.Queue.{waiting, Queue, Put, Taken}
use Rattle.task_record.proofs.Tests.{false_true}

not_true : (b : Bool) → (b ≡ true → ⊥) → b ≡ false
not_true true f = absurd (f refl)
not_true false f = refl

bit_few : (b : Bool) → cond b 1 0 ≤ 1
bit_few true = omega arith
bit_few false = omega arith

-- How many states wait, where none does from the n-th on.
waiting_at : (t : List Bool) (i : ℕ) → get_or t i false ≡ true → 1 ≤ waiting t
unfolding waiting
waiting_at [] i e = false_true e
waiting_at (b ∷ t) zero e = let q : b ≡ true = e in rw q (omega arith)
waiting_at (b ∷ t) (suc i) e = omega (arith, waiting_at t i e)

waiting_most : (t : List Bool) (n : ℕ) → ((j : ℕ) → n ≤ j → get_or t j false ≡ false) → waiting t ≤ n
unfolding waiting
waiting_most [] n z = omega arith
waiting_most (b ∷ t) zero z = let q : b ≡ false = z 0 (omega arith) in let h = waiting_most t zero (λ j l. z (suc j) (omega arith)) in rw q (omega (arith, h))
waiting_most (b ∷ t) (suc n) z = omega (arith, bit_few b, waiting_most t n (λ j l. z (suc j) (omega arith)))

waiting_room : (t : List Bool) (n i : ℕ) → ((j : ℕ) → n ≤ j → get_or t j false ≡ false) → i < n → get_or t i false ≡ false → waiting t < n
unfolding waiting
waiting_room [] n i z l e = omega arith
waiting_room (b ∷ t) zero i z l e = absurd (omega arith)
waiting_room (b ∷ t) (suc n) zero z l e = let q : b ≡ false = e in let h = waiting_most t n (λ j u. z (suc j) (omega arith)) in rw q (omega (arith, h))
waiting_room (b ∷ t) (suc n) (suc i) z l e = omega (arith, bit_few b, waiting_room t n i (λ j u. z (suc j) (omega arith)) (omega arith) e)

waiting_set : (t : List Bool) (i : ℕ) (v : Bool) → i < length t → waiting (set t i v) + cond (get_or t i false) 1 0 ≡ waiting t + cond v 1 0
unfolding waiting
waiting_set [] i v l = absurd (omega arith)
waiting_set (b ∷ t) zero v l = omega arith
waiting_set (b ∷ t) (suc i) v l = let h = waiting_set t i v (omega arith) in omega arith

-- The states below i do not wait.
pub record PassedOver (marks : List Bool) (i : ℕ) : Type 0 where
  pub none : (j : ℕ) → j < i → get_or marks j false ≡ false

pub passed_next : {marks : List Bool} {i : ℕ} → PassedOver marks i → get_or marks i false ≡ false → PassedOver marks (i + 1)
passed_next {marks} {i} v e = record { none = λ j l. either j l (dec_lt j i) }
  where
    either : (j : ℕ) → j < i + 1 → Dec (j < i) → get_or marks j false ≡ false
    either j l (yes b) = v.none j b
    either j l (no b) = let q : j ≡ i = omega arith in rw q e

-- Where one waits, not all are passed over.
pub passed_all : {marks : List Bool} {i : ℕ} → PassedOver marks i → length marks ≤ i → 1 ≤ waiting marks → ⊥
passed_all {marks} {i} v l some = let h = waiting_most marks 0 (λ j b. either j (dec_lt j i)) in omega (arith, h, some)
  where
    either : (j : ℕ) → Dec (j < i) → get_or marks j false ≡ false
    either j (yes b) = v.none j b
    either j (no b) = get_or-eq_default marks false (let n : length marks ≤ j = omega arith in n)

-- When none is counted none waits.
pub none_waits : {n : ℕ} {marks : List Bool} {c : ℕ} → Queue n marks c → c ≤ 0 → (j : ℕ) → Waits marks j → ⊥
none_waits {n} {marks} v z j w = let a = waiting_at marks j w in absurd (omega (arith, a, v.counted, z))

module _ {n : ℕ} {marks : List Bool} {c : ℕ} (v : Queue n marks c) where
  outside : (k : ℕ) → n ≤ k → get_or marks k false ≡ false
  outside k b = not_true (get_or marks k false) (λ w. absurd (omega (arith, v.inside k w)))

  pub count_few : c ≤ n
  count_few = omega (arith, v.counted, waiting_most marks n outside)

  pub some_waits : 1 ≤ c → 1 ≤ waiting marks
  some_waits l = omega (arith, v.counted)

  -- A state that waits already.
  pub put-again : (j : ℕ) → Waits marks j → Put n marks c j marks c
  put-again j w = record { queue = v; here = w; still = λ k u. u; few = omega arith }

  module _ (j : ℕ) (l : j < n) (out : get_or marks j false ≡ false) where
    in_marks : j < length marks
    in_marks = omega (arith, v.room)

    pub put_room : c < n
    put_room = omega (arith, v.counted, waiting_room marks n j outside l out)

    marked : (k : ℕ) → Waits marks k → Waits (set marks j true) k
    marked k w = either (ℕ_discrete k j)
      where
        either : Dec (k ≡ j) → Waits (set marks j true) k
        either (yes e) = rw e (get_or-set_same marks j true false in_marks)
        either (no e) = get_or-set_other marks j k true false e ∙ w

    put_inside : (k : ℕ) → Dec (k ≡ j) → Waits (set marks j true) k → k < n
    put_inside k (yes e) w = rw e l
    put_inside k (no e) w = v.inside k (sym (get_or-set_other marks j k true false e) ∙ w)

    pub put-new : Put n marks c j (set marks j true) (c + 1)
    put-new = record {
      queue = record {
        room = rw (length-set marks j true) v.room;
        states_few = v.states_few;
        inside = λ k. put_inside k (ℕ_discrete k j);
        counted = let h : waiting (set marks j true) + 0 ≡ waiting marks + 1 = rw out at (waiting_set marks j true in_marks) in omega (arith, h, v.counted);
      };
      here = get_or-set_same marks j true false in_marks;
      still = marked;
      few = omega arith;
    }

  module _ (j : ℕ) (w : Waits marks j) where
    pub taken_in : j < length marks
    taken_in = omega (arith, v.inside j w, v.room)

    left : (k : ℕ) → (k ≡ j → ⊥) → Waits marks k → Waits (set marks j false) k
    left k f u = get_or-set_other marks j k false false f ∙ u

    taken_inside : (k : ℕ) → Dec (k ≡ j) → Waits (set marks j false) k → k < n
    taken_inside k (yes e) u = rw e (v.inside j w)
    taken_inside k (no e) u = v.inside k (sym (get_or-set_other marks j k false false e) ∙ u)

    pub taken : Taken n marks c (set marks j false) j
    taken = record {
      known = v.inside j w;
      queue = record {
        room = rw (length-set marks j false) v.room;
        states_few = v.states_few;
        inside = λ k. taken_inside k (ℕ_discrete k j);
        counted = let h : waiting (set marks j false) + 1 ≡ waiting marks + 0 = rw w at (waiting_set marks j false taken_in) in omega (arith, h, v.counted);
      };
      others = left;
    }
