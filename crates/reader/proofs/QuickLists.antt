-- A list that is read item by item where it stands, its cells stored in place: how it begins, one item more, and its end. Assumes nothing.
use mathlib.Core.Path.{◌≡◌, refl, sym, ap, ◌∙◌}
use mathlib.Core.Bool.{true, false, false≢true}
use mathlib.Core.List.{List, [], ◌∷◌, ◌++◌, append_assoc, append-nil}
use Prim.Native.Nat.{ℕ, ◌+◌, ◌≤◌, ◌<◌}
use native.Mathlib.Nat.{zero-add, suc-add}
use native.Mathlib.Omega.{arith}
use lib.ListN.{length, take, drop, get_or, set, replicate, length-append, length-set}
use lib.Seq.{sets, sets-eq, set-append_left, append_snoc, length-take-le}
use Rattle.reader.specs.Text.{line_break, comma, lines_of, pieces}
use Rattle.reader.specs.Lists.{item_of, pair_fits, list_from, is_values, listed, unnamed, no_items, list_of, whole_list}
use Rattle.reader.specs.Written.{item_text}
use Rattle.reader.specs.Quick.{ItemAt, ListAt, good_so_far}
use Rattle.reader.specs.declared.lists.Kind.{Kind}
use Rattle.reader.specs.declared.lists.Kind.TheVariants.{Pairs, Values, Members}
use Rattle.task_record.specs.Layout.{at_variables}
use Rattle.reader.proofs.StoredCells.{outside_sets}
use Rattle.reader.proofs.QuickNumbers.{first_byte}
use Rattle.reader.proofs.Items.{step_kept, listed_some}
use Rattle.reader.proofs.WrittenPieces.{lacks, lacks_append, line_parted, piece_parted, piece_last}
use Rattle.reader.proofs.WrittenLists.{item_plain}

set_append_add : (xs ys : List ℕ) (i a : ℕ) → set (xs ++ ys) (length xs + i) a ≡ xs ++ set ys i a
set_append_add [] ys i a = rw zero-add
set_append_add (x ∷ xs) ys i a = rw (suc-add (length xs) i) (ap (λ (z : List ℕ). x ∷ z) (set_append_add xs ys i a))

-- one cell of a run of stores stored again
pub set_in_sets : (r vs : List ℕ) (at v x : ℕ) → v < length vs → at + length vs ≤ length r → set (sets r at vs) (at + v) x ≡ sets r at (set vs v x)
set_in_sets r vs at v x h l =
    let n = length-set vs v x in
    let k = length-take-le at r (omega arith) in
    let e : at + v ≡ length (take at r) + v = omega arith in
    rw (sets-eq vs r at l, sets-eq (set vs v x) r at (omega arith), e)
    (set-append_left (take at r ++ vs) (drop (at + length vs) r) (length (take at r) + v) x (let m = length-append (take at r) vs in omega arith)
    ∙ ap (λ (z : List ℕ). z ++ drop (at + length vs) r) (set_append_add (take at r) vs v x)
    ∙ rw n)

-- What is known after some items: their text, with a comma after each, stands in front of what is left, and the cells that they gave are stored.
pub record Listing (s : List ℕ) (kind : Kind) (r : List ℕ) (row : ℕ) (r' : List ℕ) (next : ℕ) (left : List ℕ) : Type 0 where
  pub front : List ℕ
  pub cells : List ℕ
  pub stands : s ≡ front ++ left
  pub unbroken : lacks line_break front ≡ true
  pub sixteen : length cells ≡ 16
  pub stored : r' ≡ sets r row cells
  pub rest : (z : List ℕ) → list_from r kind (no_items kind) (pieces comma (front ++ z)) ≡ list_from r kind (good_so_far next cells) (pieces comma z)

module _ (s : List ℕ) (kind : Kind) (r : List ℕ) (row : ℕ) where
  pub list_begun : Listing s kind r row (sets r row (replicate 16 (unnamed kind))) 0 s
  unfolding no_items lacks
  list_begun =
      record {
        front = [];
        cells = replicate 16 (unnamed kind);
        stands = refl;
        unbroken = refl;
        sixteen = refl;
        stored = refl;
        rest = λ z. refl;
      }

  whole_none : (n : ℕ) (k : Kind) → is_values k ≡ false → whole_list n k 0 ≡ true
  whole_none n Pairs e = refl
  whole_none n Values e = absurd (false≢true (sym e))
  whole_none n Members e = refl

  pub list_empty : 0 < length s → get_or s 0 0 ≡ line_break → is_values kind ≡ false → ListAt s kind r row (sets r row (replicate 16 (unnamed kind))) (drop 1 s)
  unfolding list_of list_from listed no_items lines_of
  list_empty h b e =
      record {
        text = [];
        last = 0;
        cells = replicate 16 (unnamed kind);
        line = ap lines_of (first_byte s h ∙ ap (λ (c : ℕ). c ∷ drop 1 s) b);
        says = rw e;
        whole = whole_none (get_or r at_variables 0) kind e;
        sixteen = refl;
        stored = refl;
      }

  module _ (i e : List ℕ) (next v x : ℕ) (r' : List ℕ) (l : Listing s kind r row r' next i) (a : ItemAt i kind next v x e)
      (fits : pair_fits r next v x ≡ true) (small : v < 16) (room : row + 16 ≤ length r) (more : 0 < length e) where
    abbrev p : List ℕ
    p = item_text kind v x

    cell_stored : set r' (row + v) x ≡ sets r row (set l.cells v x)
    cell_stored =
        let n = l.sixteen in
        ap (λ (z : List ℕ). set z (row + v) x) l.stored ∙ set_in_sets r l.cells row v x (omega arith) (omega arith)

    item_taken : (ps : List (List ℕ)) → list_from r kind (good_so_far next l.cells) (p ∷ ps) ≡ list_from r kind (good_so_far (v + 1) (set l.cells v x)) ps
    unfolding list_from
    item_taken ps = ap (λ g. list_from r kind g ps) (step_kept r (good_so_far next l.cells) (item_of kind next p) v x a.says fits)

    pub list_more : get_or e 0 0 ≡ comma → Listing s kind r row (set r' (row + v) x) (v + 1) (drop 1 e)
    unfolding lacks
    list_more b =
        let q = item_plain kind v x (let s = a.small.0 in omega arith) (let s = a.small.1 in omega arith) in
        let n = length-set l.cells v x in
        let k = l.sixteen in
        let seam : (y : List ℕ) → (l.front ++ (p ++ (comma ∷ []))) ++ y ≡ l.front ++ (p ++ (comma ∷ y)) =
        λ y. append_assoc l.front (p ++ (comma ∷ [])) y ∙ ap (λ (z : List ℕ). l.front ++ z) (append_snoc p comma y) in
        record {
          front = l.front ++ (p ++ (comma ∷ []));
          cells = set l.cells v x;
          stands =
              l.stands ∙ ap (λ (z : List ℕ). l.front ++ z) (a.stands ∙ ap (λ (z : List ℕ). p ++ z) (first_byte e more ∙ ap (λ (c : ℕ). c ∷ drop 1 e) b))
              ∙ sym (seam (drop 1 e));
          unbroken = lacks_append line_break l.front (p ++ (comma ∷ [])) l.unbroken (lacks_append line_break p (comma ∷ []) q.breaks refl);
          sixteen = omega arith;
          stored = cell_stored;
          rest = λ y. ap (λ (z : List ℕ). list_from r kind (no_items kind) (pieces comma z)) (seam y)
              ∙ l.rest (p ++ (comma ∷ y))
              ∙ ap (λ (z : List (List ℕ)). list_from r kind (good_so_far next l.cells) z) (piece_parted comma p y q.commas)
              ∙ item_taken (pieces comma y);
        }

    pub list_done : get_or e 0 0 ≡ line_break → whole_list (get_or r at_variables 0) kind (v + 1) ≡ true → ListAt s kind r row (set r' (row + v) x) (drop 1 e)
    unfolding list_of list_from
    list_done b w =
        let q = item_plain kind v x (let s = a.small.0 in omega arith) (let s = a.small.1 in omega arith) in
        let n = length-set l.cells v x in
        let k = l.sixteen in
        let m = length-append l.front p in
        let some = q.some in
        record {
          text = l.front ++ p;
          last = v + 1;
          cells = set l.cells v x;
          line =
              ap lines_of (l.stands ∙ ap (λ (z : List ℕ). l.front ++ z) (a.stands ∙ ap (λ (z : List ℕ). p ++ z) (first_byte e more ∙ ap (λ (c : ℕ). c ∷ drop 1 e) b))
              ∙ sym (append_assoc l.front p (line_break ∷ drop 1 e)))
              ∙ line_parted (l.front ++ p) (drop 1 e) (lacks_append line_break l.front p l.unbroken q.breaks);
          says =
              ap (λ (z : List (List ℕ)). list_from r kind (no_items kind) z) (listed_some (is_values kind) (l.front ++ p) (λ z. omega arith))
              ∙ l.rest p
              ∙ ap (λ (z : List (List ℕ)). list_from r kind (good_so_far next l.cells) z)
              (ap (pieces comma) (sym (append-nil p)) ∙ piece_last comma p q.commas)
              ∙ item_taken [];
          whole = w;
          sixteen = omega arith;
          stored = cell_stored;
        }

-- a list's cells change nothing of what a record allows
pub front_kept : (r r' : List ℕ) (row : ℕ) (cells : List ℕ) (k : ℕ) → r' ≡ sets r row cells → k < row → get_or r' k 0 ≡ get_or r k 0
front_kept r r' row cells k e h = rw e (outside_sets cells r row k (λ l. absurd (omega arith)))

pub fits_kept : (r r' : List ℕ) (row : ℕ) (cells : List ℕ) (next v x : ℕ) → r' ≡ sets r row cells → 24 ≤ row → v < 16 → pair_fits r' next v x ≡ true
    → pair_fits r next v x ≡ true
unfolding pair_fits
fits_kept r r' row cells next v x e h l p =
    rw (front_kept r r' row cells 0 e (omega arith), front_kept r r' row cells (8 + v) e (omega arith)) at p
