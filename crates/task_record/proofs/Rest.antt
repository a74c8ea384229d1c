-- What is left of a list from an index on: the two laws by which every loop goes one element further.
-- Assumes nothing.
use Rattle.std.proofs.Common.{◌≡◌, ℕ, ◌+◌, ◌-◌, ◌<◌, List, ◌∷◌, length, get_or, take, drop, add-one, arith, length-drop, take_all, drop-cons}

pub drop_step : (s : List ℕ) (i : ℕ) → i < length s → drop i s ≡ get_or s i 0 ∷ drop (i + 1) s
drop_step s i h = rw (add-one, drop-cons s i 0)

-- the part of a list from i to its end is the rest
pub part_rest : (s : List ℕ) (i : ℕ) → take (length s - i) (drop i s) ≡ drop i s
part_rest s i = take_all (length s - i) (drop i s) (simp length-drop (omega arith))
