-- Laws of entering the goals: the values of a digit, one after the other. Assumes nothing.
use Rattle.std.proofs.Common.{◌≡◌, ℕ, zero, suc, ◌+◌, ◌*◌, ◌/◌, ◌%◌, ◌<◌, ◌≤◌, ◌⊎◌, Bool, List, [], ◌∷◌, length, get_or, drop, replicate, sym, refl, ap, ◌∙◌, inl, inr, ⊎_elim, arith}
use Rattle.planning.specs.Table.{infinite_entry}
use native.Mathlib.Decide.{dec_lt, ℕ_discrete}
use lib.ListN.{length-replicate, get_or-replicate, get_or-eq_default}
use Rattle.tables.specs.Steps.{weigh}
use Rattle.tables.specs.Queue.{Queue}
use Rattle.tables.specs.Edges.{digit}
use Rattle.tables.specs.Goals.{Values, Reached, Entered, Zeroed, Held}
use Rattle.tables.proofs.Digits.{lowest, next_digit}
use Rattle.tables.proofs.PackedDigits.{digit_none}
use Rattle.tables.proofs.Stepping.{weigh_step}
use Rattle.tables.proofs.Asking.{weigh-over}

-- Values of the digits one further, and with a digit before them.
values_next : {sizes : List ℕ} {v free y : ℕ} → Values sizes v free y → Values sizes (v + 1) (free / 16) (y / 16)
values_next {sizes} {v} {free} {y} w = record {
  fixed = λ u e. sym (next_digit y u) ∙ w.fixed (suc u) (next_digit free u ∙ e);
  below = λ u l f. let z : v + suc u ≡ v + 1 + u = omega arith in rw (next_digit y u, z) at (w.below (suc u) (omega arith) (λ e. f (sym (next_digit free u) ∙ e)));
}

module _ (d y : ℕ) (l : d < 16) where
  before_digit : digit (d + 16 * y) 0 ≡ d
  before_digit = sym (lowest (d + 16 * y)) ∙ omega arith

  after_digit : (u : ℕ) → digit (d + 16 * y) (suc u) ≡ digit y u
  after_digit u = let e : (d + 16 * y) / 16 ≡ y = omega arith in next_digit (d + 16 * y) u ∙ ap (λ a. digit a u) e

  values_before : {sizes : List ℕ} {v free : ℕ} → Values sizes (v + 1) (free / 16) y → (free % 16 ≡ 0 → d ≡ 0) → ((free % 16 ≡ 0 → ⊥) → d < get_or sizes v 0) → Values sizes v free (d + 16 * y)
  values_before {sizes} {v} {free} w f g = record { fixed = fixed; below = below }
    where
      fixed : (u : ℕ) → digit free u ≡ 0 → digit (d + 16 * y) u ≡ 0
      fixed zero e = before_digit ∙ f (lowest free ∙ e)
      fixed (suc u) e = after_digit u ∙ w.fixed u (sym (next_digit free u) ∙ e)

      below : (u : ℕ) → v + u < 16 → (digit free u ≡ 0 → ⊥) → digit (d + 16 * y) u < get_or sizes (v + u) 0
      below zero b h = let z : v + 0 ≡ v = omega arith in rw (before_digit, z) (g (λ e. h (sym (lowest free) ∙ e)))
      below (suc u) b h = let z : v + suc u ≡ v + 1 + u = omega arith in rw (after_digit u, z) (w.below u (omega arith) (λ e. h (next_digit free u ∙ e)))

-- A word without digits adds nothing.
weigh_nothing : (ws : List ℕ) (y : ℕ) → ((u : ℕ) → digit y u ≡ 0) → weigh ws y ≡ 0
unfolding weigh
weigh_nothing [] y f = refl
weigh_nothing (w ∷ ws) y f = let a : y % 16 ≡ 0 = lowest y ∙ f 0 in let r = weigh_nothing ws (y / 16) (λ u. sym (next_digit y u) ∙ f (suc u)) in rw (a, r) (omega arith)

module _ {ws sizes : List ℕ} {v free at : ℕ} where
  -- From the indices of one value of digit v to those of the digits further.
  reached_next : (d y₀ i : ℕ) → y₀ ≡ at + d * get_or ws v 0 → (r : Reached ws sizes v free at i) → r.values % 16 ≡ d → Reached ws sizes (v + 1) (free / 16) y₀ i
  reached_next d y₀ i s r e = record { values = r.values / 16; are = values_next r.are; sum = let h = rw e at (weigh_step ws v r.values) in omega (arith, r.sum, h, s) }

  reached_before : (d y₀ i : ℕ) → y₀ ≡ at + d * get_or ws v 0 → d < 16 → (free % 16 ≡ 0 → d ≡ 0) → ((free % 16 ≡ 0 → ⊥) → d < get_or sizes v 0) → Reached ws sizes (v + 1) (free / 16) y₀ i → Reached ws sizes v free at i
  reached_before d y₀ i s l f g r = let y = d + 16 * r.values in let a : y % 16 ≡ d = omega arith in let b : y / 16 ≡ r.values = omega arith in record {
    values = y;
    are = values_before d r.values l r.are f g;
    sum = let h = rw (a, b) at (weigh_step ws v y) in omega (arith, r.sum, h, s);
  }

  -- Where no digit is left the index is `at`.
  pub entered_one : {t new : List ℕ} → length ws ≤ 16 → (free ≡ 0) ⊎ (16 ≤ v) → Zeroed t new at → Entered ws sizes v free at t new
  entered_one {t} {new} short n w = record { long = w.long; zeros = zeros; reached = reached; others = others }
    where
      nothing : (y : ℕ) → Values sizes v free y → weigh (drop v ws) y ≡ 0
      nothing y a = ⊎_elim (λ e. weigh_nothing (drop v ws) y (λ u. a.fixed u (ap (λ x. digit x u) e ∙ digit_none u))) (λ l. weigh-over ws v y (omega arith)) n

      none : Values sizes v free 0
      none = record { fixed = λ u e. digit_none u; below = λ u l f. ⊎_elim (λ e. absurd (f (ap (λ x. digit x u) e ∙ digit_none u))) (λ b. absurd (omega arith)) n }

      zeros : (i : ℕ) → get_or t i 0 ≡ 0 → get_or new i 0 ≡ 0
      zeros i z = either (ℕ_discrete i at) (dec_lt at (length t))
        where
          either : Dec (i ≡ at) → Dec (at < length t) → get_or new i 0 ≡ 0
          either (yes e) (yes l) = rw e (w.here l)
          either (yes e) (no l) = get_or-eq_default new 0 (omega (arith, e, l, w.long))
          either (no f) b = w.same i f ∙ z

      reached : (i : ℕ) → i < length t → Reached ws sizes v free at i → get_or new i 0 ≡ 0
      reached i l r = let e : i ≡ at = omega (arith, r.sum, nothing r.values r.are) in rw e (w.here (rw e at l))

      others : (i : ℕ) → (get_or new i 0 ≡ get_or t i 0) ⊎ Reached ws sizes v free at i
      others i = either (ℕ_discrete i at)
        where
          either : Dec (i ≡ at) → (get_or new i 0 ≡ get_or t i 0) ⊎ Reached ws sizes v free at i
          either (yes e) = inr (record { values = 0; are = none; sum = omega (arith, e, nothing 0 none) })
          either (no f) = inl (w.same i f)

  -- A digit that is not free has the value 0.
  pub entered_skip : {t new : List ℕ} → free % 16 ≡ 0 → Entered ws sizes (v + 1) (free / 16) at t new → Entered ws sizes v free at t new
  entered_skip e w = record {
    long = w.long;
    zeros = w.zeros;
    reached = λ i l r. w.reached i l (reached_next 0 at i (omega arith) r (lowest r.values ∙ r.are.fixed 0 (sym (lowest free) ∙ e)));
    others = λ i. ⊎_elim inl (λ r. inr (reached_before 0 at i (omega arith) (omega arith) (λ q. refl) (λ q. absurd (q e)) r)) (w.others i);
  }

-- The values of digit v below z were gone through.
pub record Through (ws sizes : List ℕ) (v free at z : ℕ) (t new : List ℕ) : Type 0 where
  pub long : length new ≡ length t
  pub zeros : (i : ℕ) → get_or t i 0 ≡ 0 → get_or new i 0 ≡ 0
  pub reached : (i : ℕ) → i < length t → (r : Reached ws sizes v free at i) → r.values % 16 < z → get_or new i 0 ≡ 0
  pub others : (i : ℕ) → (get_or new i 0 ≡ get_or t i 0) ⊎ Reached ws sizes v free at i

module _ {ws sizes : List ℕ} {v free at z : ℕ} {t u : List ℕ} (w : Through ws sizes v free at z t u) where
  pub through_next : {new : List ℕ} (y : ℕ) → y ≡ at + z * get_or ws v 0 → (free % 16 ≡ 0 → ⊥) → z < 16 → z < get_or sizes v 0 → Entered ws sizes (v + 1) (free / 16) y u new → Through ws sizes v free at (z + 1) t new
  through_next {new} y s f l b a = record {
    long = a.long ∙ w.long;
    zeros = λ i e. a.zeros i (w.zeros i e);
    reached = λ i d r g. either i d r g (dec_lt (r.values % 16) z);
    others = λ i. ⊎_elim (λ e. ⊎_elim (λ g. inl (e ∙ g)) inr (w.others i)) (λ r. inr (reached_before z y i s l (λ q. absurd (f q)) (λ q. b) r)) (a.others i);
  }
    where
      either : (i : ℕ) → i < length t → (r : Reached ws sizes v free at i) → r.values % 16 < z + 1 → Dec (r.values % 16 < z) → get_or new i 0 ≡ 0
      either i d r g (yes o) = a.zeros i (w.reached i d r o)
      either i d r g (no o) = a.reached i (omega (arith, d, w.long)) (reached_next z y i s r (omega arith))

  pub through_end : (free % 16 ≡ 0 → ⊥) → v < 16 → ((d : ℕ) → d < 16 → d < get_or sizes v 0 → d < z) → Entered ws sizes v free at t u
  through_end f l g = record {
    long = w.long;
    zeros = w.zeros;
    reached = λ i d r. w.reached i d r (g (r.values % 16) (omega arith) (small r));
    others = w.others;
  }
    where
      small : {i : ℕ} (r : Reached ws sizes v free at i) → r.values % 16 < get_or sizes v 0
      small r = let e : v + 0 ≡ v = omega arith in rw (lowest r.values) (rw e at (r.are.below 0 (omega arith) (λ q. f (lowest free ∙ q))))

-- Where no entry is 0 none need wait.
pub held_none : {m n c : ℕ} {marks : List Bool} → Queue n marks c → n ≡ m → Held (replicate m infinite_entry) n marks c
held_none {m} v e = let l = length-replicate {A = ℕ} m infinite_entry in record {
  states = e ∙ sym l;
  wait = record {
    queue = rw (e ∙ sym l) at v;
    zeros = λ j b g. absurd (let k = get_or-replicate {A = ℕ} m j infinite_entry 0 (omega (arith, b, l)) in omega (arith, k, g));
  };
}
