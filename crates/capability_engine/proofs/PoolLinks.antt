-- Laws of the links.
use Prim.Native.Nat.{ℕ, zero, suc, ◌+◌, ◌≤◌, ◌<◌}
use mathlib.Core.Path.{◌≡◌, subst, ◌≡◌, refl, sym, ap, ◌∙◌}
use mathlib.Core.Logic.{◌≢◌}
use mathlib.Core.List.{List, [], ◌∷◌, ◌++◌, map}
use native.Mathlib.Omega.{arith}
use native.Mathlib.Nat.{not-suc-le-zero, le_of_suc-le-suc, zero-add}
use lib.ListN.{get_or, length, set, length-set, length-map}
use lib.Seq.{get_or-set_same, get_or-set_other}
use lib.Dec.{eqb}
use borrow.Author.Tests.{lt-ltb, le-ltb, eq-eqb, ne_eqb}
use Rattle.capability_engine.specs.PoolChain.{Seg, cnt, last, walk, slots, Listed, stored_at}
use Rattle.capability_engine.specs.PoolWords.{region_at}
use Rattle.definitions.specs.Tests.{bit}

-- ---- the walk finds the slots

pub walk-seg : (nx : List ℕ) (f h : ℕ) (ss : List ℕ) → Seg nx h ss 1024 → length ss ≤ f → walk nx f h ≡ ss
unfolding walk
walk-seg nx zero h [] g l = refl
walk-seg nx (suc f) h [] g l = simp (le-ltb h 1024 (omega arith))
walk-seg nx zero h (s ∷ ss) g l = absurd (not-suc-le-zero l)
walk-seg nx (suc f) h (s ∷ ss) g l =
    rw (g.0, lt-ltb s 1024 g.1) (ap (λ (r : List ℕ). s ∷ r) (walk-seg nx f (get_or nx s 0) ss g.2 (le_of_suc-le-suc l)))

pub slots-are : {nx : List ℕ} {h : ℕ} {ss : List ℕ} → Listed nx h ss → slots nx h ≡ ss
unfolding slots
slots-are {nx} {h} {ss} g = walk-seg nx 1024 h ss g.seg g.few

-- ---- the list's head is a slot: it has a first, and the rest is a list

pub record Opened (nx : List ℕ) (h : ℕ) (ss : List ℕ) : Type 0 where
  pub rest : List ℕ
  pub whole : ss ≡ h ∷ rest
  pub later : Listed nx (get_or nx h 0) rest

pub opened : {nx : List ℕ} {h : ℕ} (ss : List ℕ) → Listed nx h ss → h < 1024 → Opened nx h ss
opened {nx} {h} [] g l = absurd (omega (arith, g.seg))
opened {nx} {h} (s ∷ ss) g l =
    record {
      rest = ss;
      whole = ap (λ (x : ℕ). x ∷ ss) (sym g.seg.0);
      later = record { size = g.size; seg = rw g.seg.0 g.seg.2; few = omega arith };
    }

-- none: nothing is left
pub closed : {nx : List ℕ} {h : ℕ} (ss : List ℕ) → Listed nx h ss → 1024 ≤ h → ss ≡ []
closed [] g l = refl
closed (s ∷ ss) g l = absurd (omega (arith, g.seg.0, g.seg.1))

-- a list by its head: what a loop that walks it asks
pub listed-step : (nx : List ℕ) (h : ℕ) → Listed nx h (slots nx h) → h < 1024 → Listed nx (get_or nx h 0) (slots nx (get_or nx h 0))
listed-step nx h g l = let o = opened (slots nx h) g l in rw (slots-are o.later) o.later

pub slots-step : (nx : List ℕ) (h : ℕ) → Listed nx h (slots nx h) → h < 1024 → slots nx h ≡ h ∷ slots nx (get_or nx h 0)
slots-step nx h g l =
    let o = opened (slots nx h) g l in o.whole ∙ ap (λ (r : List ℕ). h ∷ r) (sym (slots-are o.later))

pub slots-less : (nx : List ℕ) (h : ℕ) → Listed nx h (slots nx h) → h < 1024 → length (slots nx (get_or nx h 0)) < length (slots nx h)
slots-less nx h g l = rw (slots-step nx h g l) (omega arith)

pub slots-none : (nx : List ℕ) (h : ℕ) → Listed nx h (slots nx h) → 1024 ≤ h → slots nx h ≡ []
slots-none nx h g l = closed (slots nx h) g l

-- the regions of a list, by its head
module _ {nx : List ℕ} (ws : List ℕ) {h : ℕ} (g : Listed nx h (slots nx h)) where
  pub stored-step : h < 1024 → stored_at nx ws h ≡ region_at ws h ∷ stored_at nx ws (get_or nx h 0)
  stored-step l = ap (map (region_at ws)) (slots-step nx h g l)

  pub stored-none : 1024 ≤ h → stored_at nx ws h ≡ []
  stored-none l = ap (map (region_at ws)) (slots-none nx h g l)

  pub stored-few : length (stored_at nx ws h) ≤ 1024
  stored-few = rw (length-map (slots nx h) (region_at ws)) g.few

-- ---- how often a slot stands in a list

pub bit-same : (s : ℕ) → bit (eqb s s) ≡ 1
bit-same s = ap bit (eq-eqb s s refl)

pub bit-other : {t s : ℕ} → t ≢ s → bit (eqb t s) ≡ 0
bit-other {t} {s} n = ap bit (ne_eqb t s n)

pub bit-apart : (t s : ℕ) → bit (eqb t s) ≡ 0 → t ≢ s
bit-apart t s z e = let one : bit (eqb t s) ≡ 1 = ap bit (eq-eqb t s e) in omega arith

pub cnt-append : (t : ℕ) (a b : List ℕ) → cnt t (a ++ b) ≡ cnt t a + cnt t b
cnt-append t [] b = sym (zero-add (cnt t b))
cnt-append t (s ∷ a) b = omega (arith, cnt-append t a b)

pub cnt-seam : (t : ℕ) (a : List ℕ) (x : ℕ) (b : List ℕ) → cnt t (a ++ x ∷ b) ≡ cnt t a + (bit (eqb t x) + cnt t b)
cnt-seam t a x b = cnt-append t a (x ∷ b)

-- the last of p and a is among them
pub cnt-last : (p : ℕ) (a : List ℕ) → 1 ≤ cnt (last p a) (p ∷ a)
cnt-last p [] = omega (arith, bit-same p)
cnt-last p (s ∷ a) = omega (arith, cnt-last s a)

-- ---- segments

-- links that agree at each slot of a segment have the same segment
pub seg-frame : (nx ny : List ℕ) (h : ℕ) (ss : List ℕ) (k : ℕ) → ((t : ℕ) → 1 ≤ cnt t ss → get_or ny t 0 ≡ get_or nx t 0) → Seg nx h ss k → Seg ny h ss k
seg-frame nx ny h [] k e g = g
seg-frame nx ny h (s ∷ ss) k e g =
    (g.0, g.1, rw (e s (omega (arith, bit-same s))) (seg-frame nx ny (get_or nx s 0) ss k (λ t n. e t (omega arith)) g.2))

-- a store at a slot that is not in a segment leaves it
pub seg-set : (nx : List ℕ) (x v h : ℕ) (ss : List ℕ) (k : ℕ) → cnt x ss ≡ 0 → Seg nx h ss k → Seg (set nx x v) h ss k
seg-set nx x v h ss k z =
    seg-frame nx (set nx x v) h ss k (λ t n. get_or-set_other nx x t v 0 (λ e. let w : 1 ≤ cnt x ss = rw e at n in omega arith))

pub seg-join : (nx : List ℕ) (h : ℕ) (a : List ℕ) (j : ℕ) (b : List ℕ) (k : ℕ) → Seg nx h a j → Seg nx j b k → Seg nx h (a ++ b) k
seg-join nx h [] j b k g f = rw g f
seg-join nx h (s ∷ a) j b k g f = (g.0, g.1, seg-join nx (get_or nx s 0) a j b k g.2 f)

-- a list of two parts: the first ends where the last of p and a points to, p being what points to its head
pub seg-first : (nx : List ℕ) (p : ℕ) (a b : List ℕ) (k : ℕ) → Seg nx (get_or nx p 0) (a ++ b) k → Seg nx (get_or nx p 0) a (get_or nx (last p a) 0)
seg-first nx p [] b k g = refl
seg-first nx p (s ∷ a) b k g = (g.0, g.1, seg-first nx s a b k g.2)

pub seg-second : (nx : List ℕ) (p : ℕ) (a b : List ℕ) (k : ℕ) → Seg nx (get_or nx p 0) (a ++ b) k → Seg nx (get_or nx (last p a) 0) b k
seg-second nx p [] b k g = g
seg-second nx p (s ∷ a) b k g = seg-second nx s a b k g.2

-- the last of a part is linked on to v
pub seg-relink : (nx : List ℕ) (p : ℕ) (a : List ℕ) (j v : ℕ) → ((t : ℕ) → cnt t (p ∷ a) ≤ 1) → last p a < length nx
    → Seg nx (get_or nx p 0) a j → Seg (set nx (last p a) v) (get_or (set nx (last p a) v) p 0) a v
seg-relink nx p [] j v u l g = get_or-set_same nx p v 0 l
seg-relink nx p (s ∷ a) j v u l g =
    let n : p ≢ last s a = λ e. let w : 1 ≤ cnt p (s ∷ a) = subst (λ (z : ℕ). 1 ≤ cnt z (s ∷ a)) (sym e) (cnt-last s a) in omega (arith, u p, bit-same p) in
    (get_or-set_other nx (last s a) p v 0 n ∙ g.0, g.1, seg-relink nx s a j v (λ t. omega (arith, u t)) l g.2)

-- ---- inserted after the last of p and a, and taken out there

pub seg-insert : (nx : List ℕ) (p : ℕ) (a : List ℕ) (x : ℕ) (b : List ℕ) (k : ℕ) → ((t : ℕ) → cnt t (p ∷ a ++ b) ≤ 1) → cnt x (p ∷ a ++ b) ≡ 0
    → x < 1024 → x < length nx → last p a < length nx → Seg nx (get_or nx p 0) (a ++ b) k
    → Seg (set (set nx x (get_or nx (last p a) 0)) (last p a) x) (get_or (set (set nx x (get_or nx (last p a) 0)) (last p a) x) p 0) (a ++ x ∷ b) k
seg-insert nx p a x b k u z lx lx' lp g =
    let q : ℕ = last p a in
    let n1 : List ℕ = set nx x (get_or nx q 0) in
    let n2 : List ℕ = set n1 q x in
    let za : cnt x a ≡ 0 = omega (arith, cnt-append x a b) in
    let zb : cnt x b ≡ 0 = omega (arith, cnt-append x a b) in
    let zq : cnt q b ≡ 0 = omega (arith, cnt-append q a b, u q, cnt-last p a) in
    let xp : x ≢ p = bit-apart x p (omega arith) in
    let xq : x ≢ q = λ e. let w : 1 ≤ cnt x (p ∷ a) = subst (λ (z : ℕ). 1 ≤ cnt z (p ∷ a)) (sym e) (cnt-last p a) in omega (arith, cnt-append x a b) in
    let ga : Seg nx (get_or nx p 0) a (get_or nx q 0) = seg-first nx p a b k g in
    let ga1 : Seg n1 (get_or n1 p 0) a (get_or nx q 0) =
    rw (get_or-set_other nx x p (get_or nx q 0) 0 (λ e. xp (sym e))) (seg-set nx x (get_or nx q 0) (get_or nx p 0) a (get_or nx q 0) za ga) in
    let ga2 : Seg n2 (get_or n2 p 0) a x =
    seg-relink n1 p a (get_or nx q 0) x (λ t. omega (arith, u t, cnt-append t a b)) (simp length-set lp) ga1 in
    let gb2 : Seg n2 (get_or nx q 0) b k =
    seg-set n1 q x (get_or nx q 0) b k zq (seg-set nx x (get_or nx q 0) (get_or nx q 0) b k zb (seg-second nx p a b k g)) in
    let gx : get_or n2 x 0 ≡ get_or nx q 0 = get_or-set_other n1 q x x 0 xq ∙ get_or-set_same nx x (get_or nx q 0) 0 lx' in
    seg-join n2 (get_or n2 p 0) a x (x ∷ b) k ga2 (refl, lx, rw gx gb2)

-- the slot x after the last of p and a goes
pub seg-remove : (nx : List ℕ) (p : ℕ) (a : List ℕ) (x : ℕ) (b : List ℕ) (k : ℕ) → ((t : ℕ) → cnt t (p ∷ a ++ x ∷ b) ≤ 1)
    → last p a < length nx → Seg nx (get_or nx p 0) (a ++ x ∷ b) k
    → Seg (set nx (last p a) (get_or nx x 0)) (get_or (set nx (last p a) (get_or nx x 0)) p 0) (a ++ b) k
seg-remove nx p a x b k u lp g =
    let q : ℕ = last p a in
    let v : ℕ = get_or nx x 0 in
    let n1 : List ℕ = set nx q v in
    let zq : cnt q b ≡ 0 = omega (arith, cnt-append q a (x ∷ b), u q, cnt-last p a) in
    let ga : Seg n1 (get_or n1 p 0) a v =
    seg-relink nx p a (get_or nx q 0) v (λ t. omega (arith, u t, cnt-append t a (x ∷ b))) lp (seg-first nx p a (x ∷ b) k g) in
    let gb : Seg n1 v b k = seg-set nx q v v b k zq (seg-second nx p a (x ∷ b) k g).2 in
    seg-join n1 (get_or n1 p 0) a v b k ga gb
