-- Document 01, "Text", on lists of bytes: lines, pieces, keys and decimal numbers. A later layer never asks for a position.
-- Assumes nothing.
use Rattle.std.specs.Prelude.{ℕ, zero, suc, ◌+◌, ◌-◌, ◌*◌, Bool, true, false, cond, not, ◌&&◌, ◌||◌, List, [], ◌∷◌, length, get_or, leb, eqb, Option, Some, None}

-- the bytes that part: a line's end, `,` and `:`
abbrev pub line_break : ℕ
line_break = 10

abbrev pub comma : ℕ
comma = 44

abbrev pub colon : ℕ
colon = 58

-- the index of the first b, or the length where there is none
unfoldable pub index_of : ℕ → List ℕ → ℕ
index_of b [] = zero
index_of b (x ∷ xs) = cond (eqb x b) zero (suc (index_of b xs))

-- x in front of the first of some pieces, or a piece of its own where there is none
abbrev pub push : ℕ → List (List ℕ) → List (List ℕ)
push x [] = (x ∷ []) ∷ []
push x (p ∷ ps) = (x ∷ p) ∷ ps

-- "Lines are parted by byte 10. The last line counts alike with or without it; empty text has no line."
unfoldable pub lines_of : List ℕ → List (List ℕ)
lines_of [] = []
lines_of (x ∷ xs) = cond (eqb x line_break) ([] ∷ lines_of xs) (push x (lines_of xs))

-- the pieces that byte b parts ("parted by commas"): one more than there are bytes b
unfoldable pub pieces : ℕ → List ℕ → List (List ℕ)
pieces b [] = [] ∷ []
pieces b (x ∷ xs) = cond (eqb x b) ([] ∷ pieces b xs) (push x (pieces b xs))

-- "Lines key=value": whether a line begins with a key, of which the `=` is the last byte
unfoldable pub has_key : List ℕ → List ℕ → Bool
has_key [] l = true
has_key (k ∷ ks) [] = false
has_key (k ∷ ks) (x ∷ xs) = eqb x k && has_key ks xs

-- a decimal digit, `0` to `9`
abbrev pub digit : ℕ → Bool
digit b = leb 48 b && leb b 57

unfoldable pub digits : List ℕ → Bool
digits [] = true
digits (x ∷ xs) = digit x && digits xs

-- the number that decimal digits say after those that said n
unfoldable pub value : ℕ → List ℕ → ℕ
value n [] = n
value n (x ∷ xs) = value (n * 10 + (x - 48)) xs

-- "A number is 1 to 7 decimal digits, without a leading zero except 0 itself."
unfoldable pub well_formed : List ℕ → Bool
well_formed s = leb 1 (length s) && leb (length s) 7 && (leb (length s) 1 || not (eqb (get_or s 0 0) 48)) && digits s

unfoldable pub number_of : List ℕ → Option ℕ
number_of s = cond (well_formed s) (Some (value 0 s)) None
