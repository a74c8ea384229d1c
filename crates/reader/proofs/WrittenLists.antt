-- Cells that were written as a list are read back. Assumes nothing.
use mathlib.Core.Path.{◌≡◌, refl, sym, ap, ◌∙◌}
use mathlib.Core.Bool.{Bool, true, false}
use mathlib.Core.List.{List, [], ◌∷◌, ◌++◌}
use Prim.Native.Nat.{ℕ, ◌+◌, ◌≤◌}
use native.Mathlib.Omega.{arith}
use lib.ListN.{length, replicate, length-append}
use lib.Seq.{append_snoc, set_at}
use borrow.Author.Tests.{eq-eqb, ne_eqb}
use Rattle.planning.specs.Finite.{All}
use Rattle.reader.specs.Text.{line_break, comma, colon}
use Rattle.reader.specs.Lists.{pair_named, item_of, pair_fits, list_from, is_values, listed, unnamed, no_items, list_of}
use Rattle.reader.specs.Written.{decimal, item_text, items_of, after_commas, joined, list_text}
use Rattle.reader.specs.declared.lists.Gathered.{Gathered}
use Rattle.reader.specs.declared.lists.Kind.{Kind}
use Rattle.reader.specs.declared.lists.Kind.TheVariants.{Pairs, Values, Members}
use Rattle.reader.proofs.Items.{step_kept, listed_some}
use Rattle.reader.proofs.WrittenNumbers.{decimal_says}
use Rattle.reader.proofs.WrittenPieces.{lacks, lacks_append, decimal_lacks, joined-pieces}

-- The cells from variable v on name what the rules of r allow: `next` is the lowest variable that may come before them, `last` after them.
pub data Listable (r : List ℕ) (kind : Kind) : ℕ → ℕ → List ℕ → ℕ → Type 0 where
  none : (next v : ℕ) → Listable r kind next v [] next
  skipped : (next v x : ℕ) (xs : List ℕ) (last : ℕ) → x ≡ unnamed kind → Listable r kind next (v + 1) xs last → Listable r kind next v (x ∷ xs) last
  named : (next v x : ℕ) (xs : List ℕ) (last : ℕ) → (x ≡ unnamed kind → ⊥) → v ≤ 255 → x ≤ 255 → item_of kind next (item_text kind v x) ≡ pair_named v x
      → pair_fits r next v x ≡ true → Listable r kind (v + 1) (v + 1) xs last → Listable r kind next v (x ∷ xs) last

-- what has been read when the cells are c and `next` comes next
abbrev pub sofar : ℕ → List ℕ → Gathered
sofar next c = record { form = true; list = true; next = next; cells = c }

-- The pieces of such cells, read after a front of cells.
pub items_read : (r : List ℕ) (kind : Kind) (next v : ℕ) (xs : List ℕ) (last : ℕ) → Listable r kind next v xs last → (front : List ℕ)
    → length front ≡ v
    → list_from r kind (sofar next (front ++ replicate (length xs) (unnamed kind))) (items_of kind v xs) ≡ sofar last (front ++ xs)
unfolding list_from items_of
items_read r kind next v _ last (none _ _) front e = refl
items_read r kind next v _ last (skipped _ _ x xs _ u g) front e =
    let n = length-append front (x ∷ []) in
    rw (eq-eqb x (unnamed kind) u)
    (ap (λ c. list_from r kind (sofar next c) (items_of kind (v + 1) xs))
    (ap (λ z. front ++ (z ∷ replicate (length xs) (unnamed kind))) (sym u) ∙ sym (append_snoc front x (replicate (length xs) (unnamed kind))))
    ∙ items_read r kind next (v + 1) xs last g (front ++ (x ∷ [])) (omega arith)
    ∙ ap (λ c. sofar last c) (append_snoc front x xs))
items_read r kind next v _ last (named _ _ x xs _ u _ _ i f g) front e =
    let n = length-append front (x ∷ []) in
    rw (ne_eqb x (unnamed kind) u)
    (ap (λ s. list_from r kind s (items_of kind (v + 1) xs))
    (step_kept r (sofar next (front ++ (unnamed kind ∷ replicate (length xs) (unnamed kind)))) (item_of kind next (item_text kind v x)) v x i f)
    ∙ ap (λ c. list_from r kind (sofar (v + 1) c) (items_of kind (v + 1) xs))
    (set_at front (unnamed kind) (replicate (length xs) (unnamed kind)) x v e ∙ sym (append_snoc front x (replicate (length xs) (unnamed kind))))
    ∙ items_read r kind (v + 1) (v + 1) xs last g (front ++ (x ∷ [])) (omega arith)
    ∙ ap (λ c. sofar last c) (append_snoc front x xs))

-- A piece has a byte, and neither comma nor line break.
pub record Plain (p : List ℕ) : Type 0 where
  pub some : 1 ≤ length p
  pub commas : lacks comma p ≡ true
  pub breaks : lacks line_break p ≡ true

pub decimal_plain : (n : ℕ) → n ≤ 255 → Plain (decimal n)
decimal_plain n l =
    record {
      some = (decimal_says n (omega arith)).some;
      commas = decimal_lacks comma n (λ x a b e. omega arith) (omega arith);
      breaks = decimal_lacks line_break n (λ x a b e. omega arith) (omega arith);
    }

pub item_plain : (kind : Kind) (v x : ℕ) → v ≤ 255 → x ≤ 255 → Plain (item_text kind v x)
unfolding item_text lacks
item_plain Pairs v x l k =
    let a = decimal_plain v l in
    let b = decimal_plain x k in
    let n = length-append (decimal v) (colon ∷ decimal x) in
    let s = a.some in
    record {
      some = omega arith;
      commas = lacks_append comma (decimal v) (colon ∷ decimal x) a.commas b.commas;
      breaks = lacks_append line_break (decimal v) (colon ∷ decimal x) a.breaks b.breaks;
    }
item_plain Values v x l k = decimal_plain x k
item_plain Members v x l k = decimal_plain v l

pub items_plain : (r : List ℕ) (kind : Kind) (next v : ℕ) (xs : List ℕ) (last : ℕ) → Listable r kind next v xs last → All Plain (items_of kind v xs)
unfolding items_of
items_plain r kind next v _ last (none _ _) = tt
items_plain r kind next v _ last (skipped _ _ x xs _ u g) = rw (eq-eqb x (unnamed kind) u) (items_plain r kind next (v + 1) xs last g)
items_plain r kind next v _ last (named _ _ x xs _ u l k i f g) =
    rw (ne_eqb x (unnamed kind) u) (item_plain kind v x l k, items_plain r kind (v + 1) (v + 1) xs last g)

plain_commas : (ps : List (List ℕ)) → All Plain ps → All (λ q. lacks comma q ≡ true) ps
plain_commas [] h = tt
plain_commas (p ∷ ps) h = (h.0.commas, plain_commas ps h.1)

-- The text of pieces has them.
pub listed-joined : (values : Bool) (ps : List (List ℕ)) → All Plain ps → (values ≡ true → 1 ≤ length ps) → listed values (joined ps) ≡ ps
unfolding listed joined
listed-joined true [] h k = absurd (let l = k refl in omega arith)
listed-joined false [] h k = refl
listed-joined values (p ∷ ps) h k =
    let n = length-append p (after_commas ps) in
    let s = h.0.some in
    listed_some values (p ++ after_commas ps) (λ e. omega arith) ∙ joined-pieces p ps h.0.commas (plain_commas ps h.1)

after_breaks : (ps : List (List ℕ)) → All Plain ps → lacks line_break (after_commas ps) ≡ true
unfolding after_commas lacks
after_breaks [] h = refl
after_breaks (p ∷ ps) h = lacks_append line_break p (after_commas ps) h.0.breaks (after_breaks ps h.1)

pub joined_breaks : (ps : List (List ℕ)) → All Plain ps → lacks line_break (joined ps) ≡ true
unfolding joined lacks
joined_breaks [] h = refl
joined_breaks (p ∷ ps) h = lacks_append line_break p (after_commas ps) h.0.breaks (after_breaks ps h.1)

-- Sixteen cells, written and read back.
module _ (r : List ℕ) (kind : Kind) (c : List ℕ) (last : ℕ) (whole : length c ≡ 16) (good : Listable r kind 0 0 c last) where
  pub list_read_back : (is_values kind ≡ true → 1 ≤ length (items_of kind 0 c)) → list_of r kind (list_text kind c) ≡ sofar last c
  unfolding list_of no_items
  list_read_back some =
      ap (λ ps. list_from r kind (sofar 0 (replicate 16 (unnamed kind))) ps)
      (listed-joined (is_values kind) (items_of kind 0 c) (items_plain r kind 0 0 c last good) some)
      ∙ rw whole at (items_read r kind 0 0 c last good [] refl)

  pub list_text_breaks : lacks line_break (list_text kind c) ≡ true
  list_text_breaks = joined_breaks (items_of kind 0 c) (items_plain r kind 0 0 c last good)
