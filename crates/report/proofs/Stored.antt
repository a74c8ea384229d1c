-- Laws of bytes that are written one after the other. Assumes nothing.
use mathlib.Core.Path.{◌≡◌, refl, sym, ap, ◌∙◌}
use mathlib.Core.List.{List, [], ◌∷◌, ◌++◌}
use Prim.Native.Nat.{ℕ, suc, ◌+◌, ◌<◌, ◌≤◌}
use native.Mathlib.Nat.{add-zero, zero-add, add-suc, suc-add}
use native.Mathlib.Omega.{arith}
use native.Mathlib.Numerals.{add-one}
use lib.ListN.{length, take, drop, get_or, set, length-append}
use lib.Seq.{sets, take-suc, take_all, drop-nil}
use Rattle.report.specs.declared.lines.Lines.{Lines}
use Rattle.report.specs.Writing.{Written, Puts, overwritten}

-- stores of u, then of w after them, are the stores of both
sets_append : (u w l : List ℕ) (i : ℕ) → sets l i (u ++ w) ≡ sets (sets l i u) (i + length u) w
sets_append [] w l i = ap (λ (k : ℕ). sets l k w) (sym (add-zero i))
sets_append (a ∷ u) w l i =
    sets_append u w (set l i a) (suc i) ∙ ap (λ (k : ℕ). sets (sets (set l i a) (suc i) u) k w) (suc-add i (length u) ∙ sym (add-suc i (length u)))

pub written_nothing : (at : ℕ) (old : List ℕ) → Written [] at old old at
written_nothing at old = record { ends = sym (add-zero at); holds = refl }

-- One after the other.
pub written_then : {u w old mid new : List ℕ} {at m end : ℕ} → Written u at old mid m → Written w m mid new end → Written (u ++ w) at old new end
written_then {u} {w} {old} {mid} {new} {at} {m} {end} a b = record {
  ends = omega (arith, a.ends, b.ends, length-append u w);
  holds = b.holds ∙ ap (λ (l : List ℕ). sets l m w) a.holds ∙ ap (λ (k : ℕ). sets (sets old at u) k w) a.ends ∙ sym (sets_append u w old at);
}

-- What was written from the start on: the first bytes, as far as the buffer reaches, and the rest as found.
sets_nothing : (w : List ℕ) (i : ℕ) → sets [] i w ≡ []
sets_nothing [] i = refl
sets_nothing (a ∷ w) i = sets_nothing w (suc i)

sets-after_first : (w l : List ℕ) (x i : ℕ) → sets (x ∷ l) (suc i) w ≡ x ∷ sets l i w
sets-after_first [] l x i = refl
sets-after_first (a ∷ w) l x i = sets-after_first w (set l i a) x (suc i)

sets_from_start : (w old : List ℕ) → sets old 0 w ≡ take (length old) w ++ drop (length w) old
sets_from_start w [] = sets_nothing w 0 ∙ sym (drop-nil (length w))
sets_from_start [] (x ∷ l) = refl
sets_from_start (a ∷ w) (x ∷ l) = sets-after_first w l a 0 ∙ ap (λ (t : List ℕ). a ∷ t) (sets_from_start w l)

pub written_all : {w old new : List ℕ} {end : ℕ} → Written w 0 old new end → (end ≡ length w) × (new ≡ overwritten w old)
unfolding overwritten
written_all {w} {old} h = (h.ends ∙ zero-add (length w), h.holds ∙ sets_from_start w old)

-- Lines that go on: nothing, one piece after the other, and one byte more of a word.
pub puts_nothing : (s : Lines) → Puts [] s s
puts_nothing s = record { same = refl; written = written_nothing s.at s.out.now }

pub puts_then : {u w : List ℕ} {a b c : Lines} → Puts u a b → Puts w b c → Puts (u ++ w) a c
puts_then p q = record { same = q.same ∙ p.same; written = written_then p.written q.written }

pub puts_more : (w : List ℕ) (i : ℕ) {a b c : Lines} → i < length w → Puts (take i w) a b → Puts (get_or w i 0 ∷ []) b c → Puts (take (i + 1) w) a c
puts_more w i l p q = rw (add-one i, take-suc w i 0 l) (puts_then p q)

pub puts_whole : (w : List ℕ) (i : ℕ) {a b : Lines} → length w ≤ i → Puts (take i w) a b → Puts w a b
puts_whole w i l p = rw (take_all i w l) at p
