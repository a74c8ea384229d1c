-- Reading into a buffer, one read behind the other: what was read is the front of what is known of the input. Assumes nothing.
use Rattle.std.proofs.Common.{◌≡◌, ℕ, ◌+◌, ◌≤◌, List, ◌++◌, length, take, Option, sym, ◌∙◌, ap, subst}
use Rattle.std.proofs.lemmas.List.{length-take-le, take-append-le}
use Rattle.std.proofs.Math.Seq.{take-append-add}
use Rattle.std.specs.Io.KnownBytes.{Consumes}
use Rattle.std.proofs.KnownBytes.{Consumes-trans}

-- The front of a buffer after one read more, behind what was read before.
front_more : (bs new behind : List ℕ) (d n : ℕ) → d ≤ length bs → n ≤ length new → take (d + n) (take d bs ++ (new ++ behind)) ≡ take d bs ++ take n new
front_more bs new behind d n l h =
    ap (λ k. take (k + n) (take d bs ++ (new ++ behind))) (sym (length-take-le d bs l)) ∙ take-append-add (take d bs) (new ++ behind) n
    ∙ ap (λ t. take d bs ++ t) (take-append-le n new behind h)

pub known_more : (a b c : Option (List ℕ)) (bs new behind : List ℕ) (d n : ℕ) → d ≤ length bs → n ≤ length new → Consumes a b (take d bs) → Consumes b c (take n new)
    → Consumes a c (take (d + n) (take d bs ++ (new ++ behind)))
known_more a b c bs new behind d n l h p q = subst (λ t. Consumes a c t) (sym (front_more bs new behind d n l h)) (Consumes-trans a b c (take d bs) (take n new) p q)
