-- The lines that are printed: document 01, "The sample tower": "ends each line with byte 10". Assumes nothing.
use Rattle.std.specs.Prelude.{List, [], ◌∷◌, ◌++◌, ℕ}
use Rattle.reader.specs.Bytes.{bytes}
use Rattle.reader.specs.Text.{comma, line_break}
use Rattle.report.specs.Decimal.{decimal}

-- A word, and a key with a number, each as a line.
unfoldable pub line : List ℕ → List ℕ
line word = word ++ (line_break ∷ [])

unfoldable pub number_line : List ℕ → ℕ → List ℕ
number_line key n = key ++ line (decimal n)

-- Numbers parted by commas: the numbers after the first have one before them.
unfoldable pub comma_before : List ℕ → List ℕ
comma_before [] = []
comma_before (b ∷ bs) = comma ∷ (decimal b ++ comma_before bs)

unfoldable pub comma_list : List ℕ → List ℕ
comma_list [] = []
comma_list (b ∷ bs) = decimal b ++ comma_before bs

unfoldable pub plan_line : List ℕ → List ℕ
plan_line plan = bytes "plan=" ++ line (comma_list plan)
