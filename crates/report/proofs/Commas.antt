-- Laws of numbers parted by commas. Assumes nothing.
use mathlib.Core.Path.{◌≡◌, refl, sym, ap, ◌∙◌}
use mathlib.Core.List.{List, [], ◌∷◌, ◌++◌, append-nil, append_assoc}
use Prim.Native.Nat.{ℕ, ◌+◌, ◌<◌}
use native.Mathlib.Numerals.{add-one}
use native.Mathlib.Omega.{arith}
use lib.ListN.{length, take, drop, get_or}
use lib.Seq.{take-suc}
use Rattle.reader.specs.Text.{comma}
use Rattle.report.specs.Decimal.{decimal}
use Rattle.report.specs.Lines.{comma_before, comma_list}

-- one number more at the end
commas_append : (u : List ℕ) (b : ℕ) → comma_before (u ++ (b ∷ [])) ≡ comma_before u ++ (comma ∷ decimal b)
unfolding comma_before
commas_append [] b = ap (λ (l : List ℕ). comma ∷ l) (append-nil (decimal b))
commas_append (x ∷ u) b = ap (λ (l : List ℕ). comma ∷ (decimal x ++ l)) (commas_append u b) ∙ ap (λ (l : List ℕ). comma ∷ l) (sym (append_assoc (decimal x) (comma_before u) (comma ∷ decimal b)))

pub commas_more : (w : List ℕ) (i : ℕ) → i < length w → comma_before (take (i + 1) w) ≡ comma_before (take i w) ++ (comma ∷ decimal (get_or w i 0))
commas_more w i l = rw (add-one i, take-suc w i 0 l) (commas_append (take i w) (get_or w i 0))

-- the first number, and the others
pub list_of_first : (w : List ℕ) → 0 < length w → comma_list w ≡ decimal (get_or w 0 0) ++ comma_before (drop 1 w)
unfolding comma_list
list_of_first [] l = absurd (omega arith)
list_of_first (x ∷ w) l = refl

pub list_of_none : (w : List ℕ) → length w ≡ 0 → comma_list w ≡ []
unfolding comma_list
list_of_none [] l = refl
list_of_none (x ∷ w) l = absurd (omega arith)

-- no number
pub commas_of_none : comma_before [] ≡ []
unfolding comma_before
commas_of_none = refl
