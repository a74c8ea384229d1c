-- The first line or piece of a text: it ends where the next separator stands.
-- Assumes nothing.
use mathlib.Core.Path.{◌≡◌, refl}
use mathlib.Core.Bool.{Bool, true, false, cond}
use mathlib.Core.List.{List, [], ◌∷◌}
use Prim.Native.Nat.{ℕ, zero, suc, ◌<◌}
use native.Mathlib.Nat.{not-suc-le-zero}
use lib.Dec.{eqb}
use lib.ListN.{length, take, drop}
use Rattle.std.specs.List.{slice_split, onto_first}
use Rattle.reader.specs.Text.{line_break, index_of, push, pieces, lines_of}

onto_push : (x : ℕ) (ps : List (List ℕ)) → onto_first x ps ≡ push x ps
onto_push x [] = refl
onto_push x (p ∷ ps) = refl

-- the pieces are the parts that `split` gives
pub split_pieces : (b : ℕ) (s : List ℕ) → slice_split (λ x. eqb x b) s ≡ pieces b s
unfolding pieces
split_pieces b [] = refl
split_pieces b (x ∷ xs) = rw (split_pieces b xs, onto_push x (pieces b xs))

lines_cons : (x : ℕ) (xs : List ℕ) → lines_of (x ∷ xs) ≡ take (index_of line_break (x ∷ xs)) (x ∷ xs) ∷ lines_of (drop (suc (index_of line_break (x ∷ xs))) (x ∷ xs))
unfolding lines_of index_of
lines_cons x [] = go (eqb x line_break)
  where
    go : (t : Bool) → cond t ([] ∷ []) ((x ∷ []) ∷ []) ≡ take (cond t zero 1) (x ∷ []) ∷ lines_of (drop (suc (cond t zero 1)) (x ∷ []))
    go true = refl
    go false = refl
lines_cons x (y ∷ ys) = go (eqb x line_break) (lines_cons y ys)
  where
    k : ℕ
    k = index_of line_break (y ∷ ys)

    go : (t : Bool) → lines_of (y ∷ ys) ≡ take k (y ∷ ys) ∷ lines_of (drop (suc k) (y ∷ ys))
        → cond t ([] ∷ lines_of (y ∷ ys)) (push x (lines_of (y ∷ ys))) ≡ take (cond t zero (suc k)) (x ∷ (y ∷ ys)) ∷ lines_of (drop (suc (cond t zero (suc k))) (x ∷ (y ∷ ys)))
    go true ih = refl
    go false ih = rw ih

pub lines_list : (t : List ℕ) → 0 < length t → lines_of t ≡ take (index_of line_break t) t ∷ lines_of (drop (suc (index_of line_break t)) t)
lines_list [] h = absurd (not-suc-le-zero h)
lines_list (x ∷ xs) h = lines_cons x xs

pub lines_none : lines_of [] ≡ []
unfolding lines_of
lines_none = refl
