-- Lines and pieces that were put together are parted again. Assumes nothing.
use mathlib.Core.Path.{◌≡◌, refl, sym, ap, ◌∙◌}
use mathlib.Core.Bool.{Bool, true, not, ◌&&◌}
use mathlib.Core.List.{List, [], ◌∷◌, ◌++◌}
use Prim.Native.Nat.{ℕ, ◌≤◌}
use native.Mathlib.Omega.{arith}
use lib.Dec.{leb, eqb}
use lib.ListN.{length}
use lib.Seq.{take-append_seam, drop-append-add}
use borrow.Author.Tests.{leb-true, eq-eqb, ne_eqb, not-true}
use Rattle.planning.specs.Finite.{All}
use Rattle.reader.specs.Text.{line_break, comma, colon, index_of, digit, digits, lines_of, pieces}
use Rattle.reader.specs.Lists.{pair_named, pair_of}
use Rattle.reader.specs.Written.{decimal, after_commas, text_of}
use Rattle.std.proofs.Common.{Some}
use Rattle.task_record.proofs.Tests.{both, both_left, both_right}
use Rattle.reader.proofs.Items.{pair_parts}
use Rattle.reader.proofs.WrittenNumbers.{decimal_says, number_read}

-- whether no byte is b
unfoldable pub lacks : ℕ → List ℕ → Bool
lacks b [] = true
lacks b (x ∷ xs) = not (eqb x b) && lacks b xs

pub lacks_append : (b : ℕ) (xs ys : List ℕ) → lacks b xs ≡ true → lacks b ys ≡ true → lacks b (xs ++ ys) ≡ true
unfolding lacks
lacks_append b [] ys h k = k
lacks_append b (x ∷ xs) ys h k =
    both (not (eqb x b)) (lacks b (xs ++ ys)) (both_left (not (eqb x b)) (lacks b xs) h)
    (lacks_append b xs ys (both_right (not (eqb x b)) (lacks b xs) h) k)

-- digits lack any other byte
pub digits_lack : (b : ℕ) (s : List ℕ) → ((x : ℕ) → 48 ≤ x → x ≤ 57 → x ≡ b → ⊥) → digits s ≡ true → lacks b s ≡ true
unfolding digits lacks
digits_lack b [] other h = refl
digits_lack b (x ∷ xs) other h =
    let d = both_left (digit x) (digits xs) h in
    let l = leb-true 48 x (both_left (leb 48 x) (leb x 57) d) in
    let u = leb-true x 57 (both_right (leb 48 x) (leb x 57) d) in
    rw (ne_eqb x b (other x l u)) (digits_lack b xs other (both_right (digit x) (digits xs) h))

pub decimal_lacks : (b n : ℕ) → ((x : ℕ) → 48 ≤ x → x ≤ 57 → x ≡ b → ⊥) → n ≤ 1000000 → lacks b (decimal n) ≡ true
decimal_lacks b n other l = digits_lack b (decimal n) other (decimal_says n l).all

-- Lines.
pub line_parted : (l rest : List ℕ) → lacks line_break l ≡ true → lines_of (l ++ (line_break ∷ rest)) ≡ l ∷ lines_of rest
unfolding lines_of lacks
line_parted [] rest h = refl
line_parted (x ∷ xs) rest h =
    rw (
      not-true (eqb x line_break) (both_left (not (eqb x line_break)) (lacks line_break xs) h),
      line_parted xs rest
          (both_right (not (eqb x line_break)) (lacks line_break xs) h),
    )

pub text_lines : (ls : List (List ℕ)) → All (λ l. lacks line_break l ≡ true) ls → lines_of (text_of ls) ≡ ls
unfolding text_of lines_of
text_lines [] h = refl
text_lines (l ∷ ls) h = line_parted l (text_of ls) h.0 ∙ ap (λ z. l ∷ z) (text_lines ls h.1)

-- Pieces.
pub piece_parted : (b : ℕ) (p rest : List ℕ) → lacks b p ≡ true → pieces b (p ++ (b ∷ rest)) ≡ p ∷ pieces b rest
unfolding pieces lacks
piece_parted b [] rest h = rw (eq-eqb b b refl)
piece_parted b (x ∷ xs) rest h =
    rw (not-true (eqb x b) (both_left (not (eqb x b)) (lacks b xs) h), piece_parted b xs rest (both_right (not (eqb x b)) (lacks b xs) h))

pub piece_last : (b : ℕ) (p : List ℕ) → lacks b p ≡ true → pieces b (p ++ []) ≡ p ∷ []
unfolding pieces lacks
piece_last b [] h = refl
piece_last b (x ∷ xs) h =
    rw (not-true (eqb x b) (both_left (not (eqb x b)) (lacks b xs) h), piece_last b xs (both_right (not (eqb x b)) (lacks b xs) h))

pub joined-pieces : (p : List ℕ) (ps : List (List ℕ)) → lacks comma p ≡ true → All (λ q. lacks comma q ≡ true) ps
    → pieces comma (p ++ after_commas ps) ≡ p ∷ ps
unfolding after_commas
joined-pieces p [] h k = piece_last comma p h
joined-pieces p (q ∷ qs) h k = piece_parted comma p (q ++ after_commas qs) h ∙ ap (λ z. p ∷ z) (joined-pieces q qs k.0 k.1)

-- A pair.
pub index_parted : (b : ℕ) (p rest : List ℕ) → lacks b p ≡ true → index_of b (p ++ (b ∷ rest)) ≡ length p
unfolding index_of lacks
index_parted b [] rest h = rw (eq-eqb b b refl)
index_parted b (x ∷ xs) rest h =
    rw (not-true (eqb x b) (both_left (not (eqb x b)) (lacks b xs) h), index_parted b xs rest (both_right (not (eqb x b)) (lacks b xs) h))

pub pair_read : (v x : ℕ) → v ≤ 1000000 → x ≤ 1000000 → pair_of (decimal v ++ (colon ∷ decimal x)) ≡ pair_named v x
pair_read v x l k =
    let s = decimal v ++ (colon ∷ decimal x) in
    pair_parts s (length (decimal v)) (Some v) (Some x)
    (sym (index_parted colon (decimal v) (decimal x) (decimal_lacks colon v (λ z a b e. omega arith) l)))
    (rw (take-append_seam (decimal v) (colon ∷ decimal x)) (sym (number_read v l)))
    (rw (drop-append-add (decimal v) (colon ∷ decimal x) 1) (sym (number_read x k)))
