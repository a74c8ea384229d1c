-- Edges that were made are those of the space: the words are stored, edge by edge and action by action. Assumes nothing.
use Rattle.std.proofs.Common.{◌≡◌, ℕ, ◌+◌, ◌-◌, ◌*◌, ◌<◌, ◌≤◌, false, not, List, length, set, sym, refl, ap, ◌∙◌, subst, arith, length-set, get_or-set_other, get_or-set_same}
use native.Mathlib.Decide.{ℕ_discrete, dec_lt}
use lib.Bits.{bit_and, bit_or}
use lib.Count.{count_trailing_zeros}
use Rattle.packed_task.specs.Packed.{pre_mask, pre_value, outcome_count, action_weight, keep_mask, set_value}
use Rattle.tables.specs.Steps.{weigh, Space}
use Rattle.packed_task.specs.Within.{idles}
use Rattle.tables.specs.Edges.{no_edge, edge_at, edge_action, edge_end, StandsFor, Beside, EdgesOf, outcomes_from, named, freed, test_mask, test_value, Regular}
use Rattle.tables.specs.Incoming.{Tests}
use Rattle.tables.specs.Made.{LaneOf, Same, back_of, EdgeFor, bare, EdgeIs, Untouched, Served, Group, SpanIs, Spanned, ActionPut}
use Rattle.tables.specs.declared.worklist.edge.Edge.{Edge}
use Rattle.packed_task.proofs.SetWords.{Left, Next, none_left}
use Rattle.task_record.proofs.Tests.{false_true}
use Rattle.tables.proofs.Counting.{next_of, outcomes_next}
use Rattle.tables.proofs.WaysBack.{edge_plain, edge_back_small, edge_free_lem, served_edge}

-- The edge that edge_of answers is that of the outcome.
pub edge_made : (a : List ℕ) (k : ℕ) (ws sizes : List ℕ) (m o gain loss back weight lane₁ rest₁ lane₂ rest₂ : ℕ) →
    gain ≡ weigh ws (bit_and (pre_value a m) (k - bit_and (keep_mask a m o) k)) → loss ≡ weigh ws (bit_and (set_value a m o) k) → back ≡ back_of gain loss → weight ≡ action_weight a m →
    LaneOf ws sizes (k - bit_and (keep_mask a m o) k - bit_and (pre_mask a m) (k - bit_and (keep_mask a m o) k)) lane₁ rest₁ → LaneOf ws sizes rest₁ lane₂ rest₂ →
    EdgeFor a k ws sizes m o (record {
      mask = bit_or (k - bit_and (keep_mask a m o) k) (bit_and (pre_mask a m) (bit_and (keep_mask a m o) k));
      value = bit_or (bit_and (set_value a m o) k) (bit_and (pre_value a m) (bit_and (keep_mask a m o) k));
      lanes = lane₁ + 4294967296 * lane₂;
      free = rest₂;
      back = back;
      weight = weight;
      first = 0;
      action = m;
      many = 0;
    })
unfolding named freed test_mask test_value
edge_made a k ws sizes m o gain loss back weight lane₁ rest₁ lane₂ rest₂ g f b w x y =
    record {
      mask = refl;
      value = refl;
      back = b ∙ rw (g, f);
      weight = w;
      action = refl;
      lane₁ = lane₁;
      lane₂ = lane₂;
      rest = rest₁;
      lanes = refl;
      first = x;
      second = y;
    }

pub untouched_none : {es : List Edge} {e : ℕ} → Untouched es es e
untouched_none = record { long = refl; same = λ f b. refl }

untouched_then : {es es₁ es₂ : List Edge} {c d : ℕ} → c ≤ d → Untouched es es₁ c → Untouched es₁ es₂ d → Untouched es es₂ c
untouched_then l p q = record {
  long = q.long ∙ p.long;
  same = λ f b. q.same f (omega arith) ∙ p.same f b;
}

-- Edge e is stored.
pub edge_put : (es : List Edge) (e : ℕ) (w : Edge) → e < length es → Untouched es (set es e w) e × (edge_at (set es e w) e ≡ w)
edge_put es e w l = (record { long = length-set es e w; same = λ f b. get_or-set_other es e f w no_edge (λ z. omega arith) }, get_or-set_same es e w no_edge l)

-- What of edge e matters for what it stands for is the same.
record Alike (es es₁ : List Edge) (e : ℕ) : Type 0 where
  words : bare (edge_at es₁ e) ≡ bare (edge_at es e)

alike_untouched : {es es₁ : List Edge} {c : ℕ} (e : ℕ) → e < c → Untouched es es₁ c → Alike es es₁ e
alike_untouched e l u = record { words = ap bare (u.same e l) }

alike_spanned : {es es₁ : List Edge} {first end word : ℕ} (e : ℕ) → Spanned es es₁ first end word → Alike es es₁ e
alike_spanned e s = record { words = s.others e }

module _ {a : List ℕ} {k : ℕ} {ws sizes : List ℕ} {es es₁ : List Edge} where
  edge_kept : {e m o : ℕ} → Alike es es₁ e → EdgeIs a k ws sizes es e m o → EdgeIs a k ws sizes es₁ e m o
  edge_kept {e} {m} {o} h g = subst (EdgeFor a k ws sizes m o) (sym h.words) g

  served_kept : {e m n o : ℕ} → Alike es es₁ e → Served a k ws sizes es e m n o → Served a k ws sizes es₁ e m n o
  served_kept h g = record { outcome = g.outcome; known = g.known; same = g.same; is = edge_kept h g.is }

  group_kept : {first end m n : ℕ} → ((e : ℕ) → e < end → Alike es es₁ e) → Group a k ws sizes es first end m n → Group a k ws sizes es₁ first end m n
  group_kept h g = record {
    each = λ f l b. let d = g.each f l b in (d.0, d.1, edge_kept (h f b) d.2);
    all = λ o b. let d = g.all o b in (d.0, d.1, d.2, served_kept (h d.0 d.2) d.3);
  }

served_more : {a : List ℕ} {k : ℕ} {ws sizes : List ℕ} {es : List Edge} {f m n o : ℕ} → Served a k ws sizes es f m n o → Served a k ws sizes es f m (n + 1) o
served_more g = record { outcome = g.outcome; known = omega (arith, g.known); same = g.same; is = g.is }

-- The edges of one action, so far.
pub record Acting (a : List ℕ) (k : ℕ) (ws sizes : List ℕ) (es es₁ : List Edge) (first m o e : ℕ) : Type 0 where
  pub untouched : Untouched es es₁ first
  pub grows : first ≤ e
  pub most : e ≤ first + o
  pub group : Group a k ws sizes es₁ first e m o

pub acting_none : {a : List ℕ} {k : ℕ} {ws sizes : List ℕ} {es : List Edge} {first m : ℕ} → Acting a k ws sizes es es first m 0 first
acting_none = record { untouched = untouched_none; grows = omega arith; most = omega arith; group = record { each = λ f l b. absurd (omega arith); all = λ o b. absurd (omega arith) } }

edge_bare : {a : List ℕ} {k : ℕ} {ws sizes : List ℕ} {m o : ℕ} {w : Edge} → EdgeFor a k ws sizes m o w → EdgeFor a k ws sizes m o (bare w)
edge_bare h = record { mask = h.mask; value = h.value; back = h.back; weight = h.weight; action = h.action; lane₁ = h.lane₁; lane₂ = h.lane₂; rest = h.rest; lanes = h.lanes; first = h.first; second = h.second }

-- One outcome more has an edge, or does the same as an earlier one.
pub acting_new : {a : List ℕ} {k : ℕ} {ws sizes : List ℕ} {es es₁ es₂ : List Edge} {first m o e : ℕ} {w : Edge} → Acting a k ws sizes es es₁ first m o e →
    Untouched es₁ es₂ e × (edge_at es₂ e ≡ w) → EdgeFor a k ws sizes m o w → Acting a k ws sizes es es₂ first m (o + 1) (e + 1)
acting_new {a} {k} {ws} {sizes} {es} {es₁} {es₂} {first} {m} {o} {e} v u h = record {
  untouched = untouched_then v.grows v.untouched u.0;
  grows = omega (arith, v.grows);
  most = omega (arith, v.most);
  group = record { each = λ f l b. each_of f l b (dec_lt f e); all = λ p b. all_of p b (dec_lt p o) };
}
  where
    old : Group a k ws sizes es₂ first e m o
    old = group_kept (λ f l. alike_untouched f l u.0) v.group

    here : EdgeIs a k ws sizes es₂ e m o
    here = subst (λ v. EdgeFor a k ws sizes m o (bare v)) (sym u.1) (edge_bare h)

    each_of : (f : ℕ) → first ≤ f → f < e + 1 → Dec (f < e) → (p : ℕ) × (p < o + 1) × EdgeIs a k ws sizes es₂ f m p
    each_of f l b (yes d) = let g = old.each f l d in (g.0, omega (arith, g.1), g.2)
    each_of f l b (no d) = let z : f ≡ e = omega arith in (o, omega arith, rw z here)

    all_of : (p : ℕ) → p < o + 1 → Dec (p < o) → (f : ℕ) × (first ≤ f) × (f < e + 1) × Served a k ws sizes es₂ f m (o + 1) p
    all_of p b (yes d) = let g = old.all p d in (g.0, g.1, omega (arith, g.2), served_more g.3)
    all_of p b (no d) = let z : p ≡ o = omega arith in (e, v.grows, omega arith, rw z (record { outcome = o; known = omega arith; same = record { keeps = refl; sets = refl }; is = here }))

pub acting_twin : {a : List ℕ} {k : ℕ} {ws sizes : List ℕ} {es es₁ : List Edge} {first m o e : ℕ} → Acting a k ws sizes es es₁ first m o e → (t : ℕ) × (t < o) × Same a k m t o → Acting a k ws sizes es es₁ first m (o + 1) e
acting_twin {a} {k} {ws} {sizes} {es} {es₁} {first} {m} {o} {e} v t = record {
  untouched = v.untouched;
  grows = v.grows;
  most = omega (arith, v.most);
  group = record { each = λ f l b. let g = v.group.each f l b in (g.0, omega (arith, g.1), g.2); all = λ p b. all_of p b (dec_lt p o) };
}
  where
    all_of : (p : ℕ) → p < o + 1 → Dec (p < o) → (f : ℕ) × (first ≤ f) × (f < e) × Served a k ws sizes es₁ f m (o + 1) p
    all_of p b (yes d) = let g = v.group.all p d in (g.0, g.1, g.2, served_more g.3)
    all_of p b (no d) = let z : p ≡ o = omega arith in let g = v.group.all t.0 t.1 in
        (g.0, g.1, g.2, rw z (record { outcome = g.3.outcome; known = omega (arith, g.3.known); same = record { keeps = g.3.same.keeps ∙ t.2.keeps; sets = g.3.same.sets ∙ t.2.sets }; is = g.3.is }))

pub acting_end : {a : List ℕ} {k : ℕ} {ws sizes : List ℕ} {es es₁ es₂ : List Edge} {first m e : ℕ} → Acting a k ws sizes es es₁ first m (outcome_count a m) e → Spanned es₁ es₂ first e e → ActionPut a k ws sizes es es₂ first m e
acting_end v s = record {
  untouched = record { long = s.long ∙ v.untouched.long; same = λ f b. s.before f b ∙ v.untouched.same f b };
  grows = v.grows;
  most = v.most;
  span = s.span;
  group = group_kept (λ f l. alike_spanned f s) v.group;
}

-- Some edges know the edges of their action, so far.
pub spanned_none : {es : List Edge} {first end : ℕ} → Spanned es es first first end
spanned_none = record { long = refl; others = λ f. refl; before = λ f b. refl; span = λ f l b. absurd (omega arith) }

pub spanned_next : (es es₁ : List Edge) (w : Edge) (first e end : ℕ) → first ≤ e → e < length es → bare w ≡ bare (edge_at es₁ e) → (w.first ≡ first) × (w.first + w.many ≡ end) → Spanned es es₁ first e end → Spanned es (set es₁ e w) first (e + 1) end
spanned_next es es₁ w first e end l r same is v = record {
  long = length-set es₁ e w ∙ v.long;
  others = λ f. others_of f (ℕ_discrete f e);
  before = λ f b. get_or-set_other es₁ e f w no_edge (λ z. omega arith) ∙ v.before f b;
  span = λ f a b. at f a b (dec_lt f e);
}
  where
    here : edge_at (set es₁ e w) e ≡ w
    here = get_or-set_same es₁ e w no_edge (omega (arith, r, v.long))

    others_of : (f : ℕ) → Dec (f ≡ e) → bare (edge_at (set es₁ e w) f) ≡ bare (edge_at es f)
    others_of f (yes z) = rw z (ap bare here ∙ same ∙ v.others e)
    others_of f (no z) = ap bare (get_or-set_other es₁ e f w no_edge z) ∙ v.others f

    at : (f : ℕ) → first ≤ f → f < e + 1 → Dec (f < e) → SpanIs (set es₁ e w) f first end
    at f a b (yes d) = let h = get_or-set_other es₁ e f w no_edge (λ z. omega arith) in let g = v.span f a d in record { begins = ap (λ (y : Edge). y.first) h ∙ g.begins; ends = ap (λ (y : Edge). y.first + y.many) h ∙ g.ends }
    at f a b (no d) = let z : f ≡ e = omega arith in rw z (record { begins = ap (λ (y : Edge). y.first) here ∙ is.0; ends = ap (λ (y : Edge). y.first + y.many) here ∙ is.1 })

-- The edges of the actions of a set, so far: edge e is one of those of its action.
pub record Inside (x : Space) (sizes : List ℕ) (es : List Edge) (c e : ℕ) : Type 0 where
  pub action : ℕ
  pub first : ℕ
  pub end : ℕ
  pub known : action < x.actions
  pub begins : first ≤ e
  pub ends : e < end
  pub fits : end ≤ c
  pub span : SpanIs es e first end
  pub group : Group x.task x.mask x.weights sizes es first end action (outcome_count x.task action)

pub record Building (x : Space) (sizes : List ℕ) (room rest : ℕ) (es : List Edge) (c : ℕ) : Type 0 where
  pub from : ℕ
  pub left : Left (λ m. not (idles x.task x.mask m)) from x.actions rest
  pub fits : c + outcomes_from x.task x.mask from (x.actions - from) ≤ room
  pub room_there : room ≤ length es
  pub each : (e : ℕ) → e < c → Inside x sizes es c e
  pub covers : (m o : ℕ) → m < from → idles x.task x.mask m ≡ false → o < outcome_count x.task m → (e : ℕ) × (e < c) × Served x.task x.mask x.weights sizes es e m (outcome_count x.task m) o

module _ {x : Space} {sizes : List ℕ} {room rest : ℕ} {es : List Edge} {c : ℕ} (few : x.actions ≤ 64) (v : Building x sizes room rest es c) where
  here : (rest ≡ 0 → ⊥) → Next (λ m. not (idles x.task x.mask m)) v.from x.actions rest
  here some = next_of x.task x.mask x.actions v.from rest few v.left some

  pub building_known : (rest ≡ 0 → ⊥) → (count_trailing_zeros 64 rest < x.actions) × (c + outcome_count x.task (count_trailing_zeros 64 rest) ≤ room)
  building_known some = ((here some).within, omega (arith, v.fits, outcomes_next x.task x.mask x.actions v.from rest few v.left some))

  pub building_next : {es₁ : List Edge} {d : ℕ} → (rest ≡ 0 → ⊥) → ActionPut x.task x.mask x.weights sizes es es₁ c (count_trailing_zeros 64 rest) d → Building x sizes room (bit_and rest (rest - 1)) es₁ d
  building_next {es₁} {d} some p = record {
    from = count_trailing_zeros 64 rest + 1;
    left = (here some).left;
    fits = omega (arith, v.fits, p.most, outcomes_next x.task x.mask x.actions v.from rest few v.left some);
    room_there = omega (arith, v.room_there, p.untouched.long);
    each = λ e b. each_of e b (dec_lt e c);
    covers = λ m o b f g. covers_of m o b f g (dec_lt m v.from) (dec_lt m (count_trailing_zeros 64 rest));
  }
    where
      each_of : (e : ℕ) → e < d → Dec (e < c) → Inside x sizes es₁ d e
      each_of e b (yes z) = let g = v.each e z in record {
        action = g.action;
        first = g.first;
        end = g.end;
        known = g.known;
        begins = g.begins;
        ends = g.ends;
        fits = omega (arith, g.fits, p.grows);
        span = let h = p.untouched.same e z in record { begins = ap (λ (w : Edge). w.first) h ∙ g.span.begins; ends = ap (λ (w : Edge). w.first + w.many) h ∙ g.span.ends };
        group = group_kept (λ f l. alike_untouched f (omega (arith, g.fits)) p.untouched) g.group;
      }
      each_of e b (no z) = record {
        action = count_trailing_zeros 64 rest;
        first = c;
        end = d;
        known = (here some).within;
        begins = omega arith;
        ends = b;
        fits = omega arith;
        span = p.span e (omega arith) b;
        group = p.group;
      }

      covers_new : (m o : ℕ) → m ≡ count_trailing_zeros 64 rest → o < outcome_count x.task m → (e : ℕ) × (e < d) × Served x.task x.mask x.weights sizes es₁ e m (outcome_count x.task m) o
      covers_new m o k g = let h = p.group.all o (rw k at g) in rw k ((h.0, h.2, h.3))

      covers_of : (m o : ℕ) → m < count_trailing_zeros 64 rest + 1 → idles x.task x.mask m ≡ false → o < outcome_count x.task m → Dec (m < v.from) → Dec (m < count_trailing_zeros 64 rest) →
          (e : ℕ) × (e < d) × Served x.task x.mask x.weights sizes es₁ e m (outcome_count x.task m) o
      covers_of m o b f g (yes z) y = let k = v.covers m o z f g in (k.0, omega (arith, k.1, p.grows), served_kept (alike_untouched k.0 k.1 p.untouched) k.2)
      covers_of m o b f g (no z) (yes y) = false_true (sym (rw f at ((here some).first m (omega arith) y)))
      covers_of m o b f g (no z) (no y) = covers_new m o (omega arith) g

  -- Edges that were made miss no state.
  module _ {n : ℕ} (r : Regular x sizes n) (small : room ≤ 512) (z : rest ≡ 0) where
    all_few : c ≤ 512
    all_few = omega (arith, v.fits, small)

    action_is : (e : ℕ) (l : e < c) → edge_action es e ≡ (v.each e l).action
    action_is e l = let g = v.each e l in (g.group.each e g.begins g.ends).2.action

    covered : (m o : ℕ) → m < x.actions → idles x.task x.mask m ≡ false → o < outcome_count x.task m → Dec (m < v.from) → (e : ℕ) × (e < c) × StandsFor x n es e m o
    covered m o l f g (yes y) = let k = v.covers m o y f g in (k.0, k.1, served_edge r es k.0 m o l k.2)
    covered m o l f g (no y) = false_true (sym (rw f at (none_left (λ m. not (idles x.task x.mask m)) v.from x.actions rest v.left z m (omega arith) l)))

    beside : (e f : ℕ) (l : e < c) → Beside es e f → ((v.each e l).first ≤ f) × (f < (v.each e l).end)
    beside e f l b = let g = v.each e l in (omega (arith, b.after, g.span.begins), omega (arith, b.before, g.span.ends))

    beside_in : (e f : ℕ) (l : e < c) → (v.each e l).first ≤ f → f < (v.each e l).end → Beside es e f
    beside_in e f l a b = let g = v.each e l in record { after = omega (arith, a, g.span.begins); before = omega (arith, b, g.span.ends) }

    end_is : (e : ℕ) (l : e < c) → edge_end es e ≡ (v.each e l).end
    end_is e l = (v.each e l).span.ends

    pub building_end : EdgesOf x sizes n es c
    building_end = record {
      few = all_few;
      room = omega (arith, v.room_there, v.fits);
      known = λ e l. rw (action_is e l) (v.each e l).known;
      back = λ e l. let g = v.each e l in let d = g.group.each e g.begins g.ends in edge_back_small r g.action d.0 g.known d.1 es e d.2;
      weight = λ e l. let g = v.each e l in rw (action_is e l) (g.group.each e g.begins g.ends).2.weight;
      free = λ e l. let g = v.each e l in let d = g.group.each e g.begins g.ends in edge_free_lem r g.action d.0 g.known d.1 es e d.2;
      span = λ e l. rw (end_is e l) (v.each e l).fits;
      own = λ e l. beside_in e e l (v.each e l).begins (v.each e l).ends;
      each = λ e f l b. let g = v.each e l in let h = beside e f l b in let d = g.group.each f h.0 h.1 in
          rw (action_is e l) ((d.0, d.1, served_edge r es f g.action d.0 g.known (record { outcome = d.0; known = d.1; same = record { keeps = refl; sets = refl }; is = d.2 })));
      all = λ e o l b. let g = v.each e l in let d = g.group.all o (rw (action_is e l) at b) in (d.0, beside_in e d.0 l d.1 d.2, rw (action_is e l) (served_edge r es d.0 g.action o g.known d.3));
      covers = λ m o l f g. covered m o l f g (dec_lt m v.from);
    }

    pub building_tests : Tests es c
    building_tests = record {
      few = all_few;
      room = omega (arith, v.room_there, v.fits);
      plain = λ e l. let g = v.each e l in let d = g.group.each e g.begins g.ends in edge_plain r g.action d.0 g.known d.1 es e d.2;
    }
