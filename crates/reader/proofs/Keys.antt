-- Whether a line begins with a key, as the library asks it. Assumes nothing.
use mathlib.Core.Path.{◌≡◌, refl, sym, ap, ap₂}
use lib.Pointwise.{pointwise}
use mathlib.Core.Bool.{Bool, ◌&&◌}
use mathlib.Core.List.{List, [], ◌∷◌}
use Prim.Native.Nat.{ℕ}
use lib.Dec.{eqb}
use lib.ListN.{length, take}
use borrow.Author.Tests.{eqb-true, eq-eqb}
use Rattle.reader.specs.Text.{has_key}
use Rattle.task_record.proofs.Tests.{same_test}

-- a line begins with a key where its first bytes are those of the key
pub key_prefix : (key line : List ℕ) → pointwise eqb (take (length key) line) key ≡ has_key key line
unfolding has_key
key_prefix [] line = refl
key_prefix (k ∷ ks) [] = refl
key_prefix (k ∷ ks) (x ∷ xs) = ap (λ (b : Bool). eqb x k && b) (key_prefix ks xs)

-- the same, with the key first
pub key_start : (key line : List ℕ) → pointwise eqb key (take (length key) line) ≡ has_key key line
unfolding has_key
key_start [] line = refl
key_start (k ∷ ks) [] = refl
key_start (k ∷ ks) (x ∷ xs) =
    ap₂ (λ (a b : Bool). a && b) (same_test (eqb k x) (eqb x k) (λ p. eq-eqb x k (sym (eqb-true k x p))) (λ p. eq-eqb k x (sym (eqb-true x k p)))) (key_start ks xs)
