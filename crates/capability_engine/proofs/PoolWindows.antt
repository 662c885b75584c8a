-- A part of the list is worked on by itself: what lies before it and behind it is taken off the ring, and put back.
use Prim.Native.Nat.{ℕ, ◌+◌, ◌≤◌, ◌<◌}
use mathlib.Core.Path.{◌≡◌, subst, ◌≡◌, refl, sym, ap, ap₂, ◌∙◌}
use mathlib.Core.Logic.{◌≢◌}
use mathlib.Core.List.{List, [], ◌∷◌, ◌++◌, append-nil, append_assoc}
use native.Mathlib.Omega.{arith}
use native.Mathlib.Decide.{dec_lt}
use lib.ListN.{get_or, set, length-set, length-append}
use lib.Seq.{get_or-set_same, get_or-set_other}
use Rattle.definitions.specs.declared.region.Region.{Region}
use Rattle.capability_engine.specs.PoolChain.{Seg, cnt, last, slots, records, Listed}
use Rattle.capability_engine.specs.PoolOwn.{Heap, free_of, Own, mine_of, shortened, narrowed, lengthened, widened, Pass}
use Rattle.capability_engine.proofs.PoolLinks.{bit-other, cnt-append, cnt-last, seg-frame, seg-set, seg-join, seg-first, seg-second, seg-relink, slots-are}
use Rattle.capability_engine.proofs.PoolSlots.{records-frame, records-append}
use Rattle.capability_engine.proofs.PoolOwns.{seg-high, seg-low, own-mine, own-last, last-le, ring-once}
use Rattle.capability_engine.proofs.PoolPasses.{pass_of}
use Rattle.capability_engine.proofs.PoolZips.{own-ahead}

pub last-append : (p : ℕ) (a b : List ℕ) → last p (a ++ b) ≡ last (last p a) b
last-append p [] b = refl
last-append p (s ∷ a) b = last-append s a b

-- the last of a list's slots, or what points to its head, is at most 1,024
pub last_fits : {nx : List ℕ} {h : ℕ} {ss : List ℕ} (p q : ℕ) → Listed nx h ss → p ≤ 1024 → q ≡ last p ss → q ≤ 1024
last_fits {nx} {h} {ss} p q g l e = rw e (last-le nx h p ss 1024 g.seg l)

-- a slot that is not among a is not the last of them
not_last : (t : ℕ) (a : List ℕ) → t < 1024 → cnt t a ≡ 0 → t ≢ last 1024 a
not_last t a l z e =
    let w : 1 ≤ cnt t (1024 ∷ a) = subst (λ (z : ℕ). 1 ≤ cnt z (1024 ∷ a)) (sym e) (cnt-last 1024 a) in
    omega (arith, bit-other {t = t} {s = 1024} (λ (q : t ≡ 1024). omega arith))

-- ---- what lies behind

module _ (nx : List ℕ) (fl : Heap) (m c : List ℕ) (o : Own nx (m ++ c) (free_of fl)) where
  short : Own (shortened nx (last 1024 m)) m (free_of fl)
  unfolding shortened
  short =
      record {
        size = simp length-set o.size;
        ring = seg-relink nx 1024 m (get_or nx (last 1024 m) 0) 1024 (λ t. omega (arith, ring-once o t, cnt-append t m c)) (omega (arith, o.size, own-last m c o)) (seg-first nx 1024 m c 1024 o.ring);
        low = o.low;
        once = λ t. omega (arith, o.once t, cnt-append t m c);
        few = omega (arith, o.few, length-append m c);
      }

  module _ (ws nx' ws' : List ℕ) (fl' : Heap) (rs : List Region) (p : Pass (shortened nx (last 1024 m)) ws fl nx' ws' fl' rs) where
    abbrev rest : ℕ
    rest = get_or nx (last 1024 m) 0

    abbrev m' : List ℕ
    m' = mine_of nx'

    abbrev long : List ℕ
    long = set nx' (last 1024 m') rest

    mine-short : mine_of (shortened nx (last 1024 m)) ≡ m
    mine-short = own-mine short

    count-m : (t : ℕ) → cnt t m' + cnt t (free_of fl') ≡ cnt t m + cnt t (free_of fl)
    count-m t = rw mine-short at (p.same t)

    long-link : (t : ℕ) → t < 1024 → cnt t m + cnt t (free_of fl) ≡ 0 → get_or long t 0 ≡ get_or nx t 0
    unfolding shortened
    long-link t l z =
        get_or-set_other nx' (last 1024 m') t rest 0 (not_last t m' l (omega (arith, count-m t)))
        ∙ p.links t l (rw mine-short z) ∙ get_or-set_other nx (last 1024 m) t 1024 0 (not_last t m l (omega arith))

    c-link : (t : ℕ) → 1 ≤ cnt t c → (t < 1024) × (cnt t m + cnt t (free_of fl) ≡ 0)
    c-link t n = (seg-low nx rest c 1024 t (seg-second nx 1024 m c 1024 o.ring) n, omega (arith, o.once t, cnt-append t m c))

    own-long : Own long (m' ++ c) (free_of fl')
    own-long =
        let q = p.ready.own in
        record {
          size = simp length-set q.size;
          ring =
              seg-join long (get_or long 1024 0) m' rest c 1024
              (seg-relink nx' 1024 m' 1024 rest (ring-once q) (omega (arith, q.size, last-low)) q.ring)
              (seg-frame nx long rest c 1024 (λ t n. long-link t (c-link t n).0 (c-link t n).1) (seg-second nx 1024 m c 1024 o.ring));
          low = q.low;
          once = λ t. omega (arith, count-m t, o.once t, cnt-append t m c, cnt-append t m' c);
          few = omega (arith, rw mine-short at p.total, o.few, length-append m c, length-append m' c);
        }
      where
        last-low : last 1024 m' ≤ 1024
        last-low = let w : Own nx' (m' ++ []) (free_of fl') = rw (append-nil m') p.ready.own in own-last m' [] w

    pass-long : Pass nx ws fl long ws' fl' (rs ++ records ws c)
    pass-long =
        pass_of o own-long p.ready.heap ws ws' p.ready.words
        (records-append ws' m' c ∙ ap₂ ◌++◌ p.now (records-frame ws ws' c (λ t n. p.kept t (c-link t n).0 (rw mine-short (c-link t n).1))))
        (λ t. omega (arith, count-m t, cnt-append t m c, cnt-append t m' c))
        (omega (arith, rw mine-short at p.total, length-append m c, length-append m' c))
        (λ t l z. long-link t l (omega (arith, cnt-append t m c)))
        (λ t l z. p.kept t l (rw mine-short (omega (arith, cnt-append t m c))))

-- ---- what lies before

module _ (nx : List ℕ) (fl : Heap) (a b : List ℕ) (o : Own nx (a ++ b) (free_of fl)) where
  abbrev point : ℕ
  point = last 1024 a

  abbrev tail : List ℕ
  tail = set nx 1024 (get_or nx point 0)

  ring-b : Seg nx (get_or nx point 0) b 1024
  ring-b = seg-second nx 1024 a b 1024 o.ring

  -- the last slot before is neither behind nor free
  point-free : cnt point b + cnt point (free_of fl) ≡ 0
  point-free =
      let n = cnt-last 1024 a in
      let c = cnt-append point a b in
      elim (dec_lt point 1024) [
        | yes l ↦ omega (arith, o.once point, bit-other {t = point} {s = 1024} (λ (q : point ≡ 1024). omega arith))
        | no l ↦ omega (arith, o.low point (omega arith), seg-high nx (get_or nx point 0) b 1024 point (omega arith) ring-b)
      ]

  own-tail : Own tail b (free_of fl)
  own-tail =
      let h : get_or tail 1024 0 ≡ get_or nx point 0 = get_or-set_same nx 1024 (get_or nx point 0) 0 (omega (arith, o.size)) in
      record {
        size = simp length-set o.size;
        ring = rw h (seg-set nx 1024 (get_or nx point 0) (get_or nx point 0) b 1024 (seg-high nx (get_or nx point 0) b 1024 1024 (omega arith) ring-b) ring-b);
        low = o.low;
        once = λ t. omega (arith, o.once t, cnt-append t a b);
        few = omega (arith, o.few, length-append a b);
      }

  module _ (ws nx' ws' : List ℕ) (fl' : Heap) (rs : List Region) (p : Pass tail ws fl nx' ws' fl' rs) where
    abbrev b' : List ℕ
    b' = mine_of nx'

    abbrev head : ℕ
    head = get_or nx 1024 0

    mine-tail : mine_of tail ≡ b
    mine-tail = own-mine own-tail

    count-b : (t : ℕ) → cnt t b' + cnt t (free_of fl') ≡ cnt t b + cnt t (free_of fl)
    count-b t = rw mine-tail at (p.same t)

    headed-link : (t : ℕ) → t < 1024 → cnt t b + cnt t (free_of fl) ≡ 0 → get_or (set nx' 1024 head) t 0 ≡ get_or nx t 0
    headed-link t l z =
        get_or-set_other nx' 1024 t head 0 (λ (q : t ≡ 1024). omega arith) ∙ p.links t l (rw mine-tail z)
        ∙ get_or-set_other nx 1024 t (get_or nx point 0) 0 (λ (q : t ≡ 1024). omega arith)

    a-link : (t : ℕ) → 1 ≤ cnt t a → (t < 1024) × (cnt t b + cnt t (free_of fl) ≡ 0)
    a-link t n = (seg-low nx head a (get_or nx point 0) t (seg-first nx 1024 a b 1024 o.ring) n, omega (arith, o.once t, cnt-append t a b))

    own-whole : Own (lengthened nx' point head) (a ++ b') (free_of fl')
    unfolding lengthened
    own-whole =
        let q = p.ready.own in
        let h : get_or (set nx' 1024 head) 1024 0 ≡ head = get_or-set_same nx' 1024 head 0 (omega (arith, q.size)) in
        let u : ℕ = get_or nx' 1024 0 in
        let ga : Seg (set nx' 1024 head) head a (get_or nx point 0) = seg-frame nx (set nx' 1024 head) head a (get_or nx point 0) (λ t n. headed-link t (a-link t n).0 (a-link t n).1) (seg-first nx 1024 a b 1024 o.ring) in
        let gb : Seg (set nx' 1024 head) u b' 1024 = seg-set nx' 1024 head u b' 1024 (seg-high nx' u b' 1024 1024 (omega arith) q.ring) q.ring in
        record {
          size = simp length-set q.size;
          ring =
              seg-join (lengthened nx' point head) (get_or (lengthened nx' point head) 1024 0) a u b' 1024
              (seg-relink (set nx' 1024 head) 1024 a (get_or nx point 0) u (λ t. omega (arith, ring-once o t, cnt-append t a b)) (simp length-set (omega (arith, q.size, own-last a b o))) (rw h ga))
              (seg-set (set nx' 1024 head) point u u b' 1024 (omega (arith, count-b point, point-free)) gb);
          low = q.low;
          once = λ t. omega (arith, count-b t, o.once t, cnt-append t a b, cnt-append t a b');
          few = omega (arith, rw mine-tail at p.total, o.few, length-append a b, length-append a b');
        }

    whole-link : (t : ℕ) → t < 1024 → cnt t (a ++ b) + cnt t (free_of fl) ≡ 0 → get_or (lengthened nx' point head) t 0 ≡ get_or nx t 0
    unfolding lengthened
    whole-link t l z =
        get_or-set_other (set nx' 1024 head) point t (get_or nx' 1024 0) 0 (not_last t a l (omega (arith, cnt-append t a b)))
        ∙ headed-link t l (omega (arith, cnt-append t a b))

    pass-whole : Pass nx ws fl (lengthened nx' point head) ws' fl' (records ws a ++ rs)
    pass-whole =
        pass_of o own-whole p.ready.heap ws ws' p.ready.words
        (records-append ws' a b' ∙ ap₂ ◌++◌ (records-frame ws ws' a (λ t n. p.kept t (a-link t n).0 (rw mine-tail (a-link t n).1))) p.now)
        (λ t. omega (arith, count-b t, cnt-append t a b, cnt-append t a b'))
        (omega (arith, rw mine-tail at p.total, length-append a b, length-append a b'))
        whole-link
        (λ t l z. p.kept t l (rw mine-tail (omega (arith, cnt-append t a b))))

-- ---- both

module _ (nx : List ℕ) (fl : Heap) (a b c : List ℕ) (o : Own nx (a ++ (b ++ c)) (free_of fl)) where
  abbrev upto : ℕ
  upto = last 1024 (a ++ b)

  own_pair : Own nx ((a ++ b) ++ c) (free_of fl)
  own_pair = rw (append_assoc a b c) o

  own-short : Own (shortened nx upto) (a ++ b) (free_of fl)
  own-short = short nx fl (a ++ b) c own_pair

  narrow-here : Own (narrowed nx (last 1024 a) upto) b (free_of fl)
  unfolding narrowed
  narrow-here = own-tail (shortened nx upto) fl a b own-short

  wide-here : (ws nx' ws' : List ℕ) (fl' : Heap) (rs : List Region) → Pass (narrowed nx (last 1024 a) upto) ws fl nx' ws' fl' rs
      → Pass nx ws fl (widened nx' (last 1024 a) (get_or (shortened nx upto) 1024 0) (get_or nx upto 0)) ws' fl' ((records ws a ++ rs) ++ records ws c)
  unfolding narrowed widened
  wide-here ws nx' ws' fl' rs q =
      let n1 : List ℕ = lengthened nx' (last 1024 a) (get_or (shortened nx upto) 1024 0) in
      let q2 : Pass (shortened nx upto) ws fl n1 ws' fl' (records ws a ++ rs) = pass-whole (shortened nx upto) fl a b own-short ws nx' ws' fl' rs q in
      let o2 : Own n1 (a ++ mine_of nx') (free_of fl') = own-whole (shortened nx upto) fl a b own-short ws nx' ws' fl' rs q in
      let y : last 1024 (mine_of n1) ≡ last (last 1024 a) (slots n1 (get_or n1 (last 1024 a) 0)) =
      ap (last 1024) (own-mine o2) ∙ last-append 1024 a (mine_of nx') ∙ ap (last (last 1024 a)) (sym (slots-are (own-ahead a (mine_of nx') o2))) in
      rw (← y) (pass-long nx fl (a ++ b) c own_pair ws n1 ws' fl' (records ws a ++ rs) q2)

  module _ (p z : ℕ) (ep : p ≡ last 1024 a) (ez : z ≡ last p b) where
    z-last : z ≡ upto
    z-last = ez ∙ ap (λ (q : ℕ). last q b) ep ∙ sym (last-append 1024 a b)

    pub own-narrow : Own (narrowed nx p z) b (free_of fl)
    own-narrow = rw (z-last, ep) narrow-here

    pub pass-wide : (ws nx' ws' : List ℕ) (fl' : Heap) (rs : List Region) → Pass (narrowed nx p z) ws fl nx' ws' fl' rs
        → Pass nx ws fl (widened nx' p (get_or (shortened nx z) 1024 0) (get_or nx z 0)) ws' fl' ((records ws a ++ rs) ++ records ws c)
    pass-wide ws nx' ws' fl' rs q = rw (z-last, ep) (wide-here ws nx' ws' fl' rs (rw (z-last, ep) at q))

    pub own-wide : (ws nx' ws' : List ℕ) (fl' : Heap) (rs : List Region) → Pass (narrowed nx p z) ws fl nx' ws' fl' rs
        → Own (lengthened nx' p (get_or (shortened nx z) 1024 0)) (a ++ mine_of nx') (free_of fl')
    unfolding narrowed
    own-wide ws nx' ws' fl' rs q = rw (z-last, ep) (own-whole (shortened nx upto) fl a b own-short ws nx' ws' fl' rs (rw (z-last, ep) at q))

    pub wide-listed : (ws nx' ws' : List ℕ) (fl' : Heap) (rs : List Region) → Pass (narrowed nx p z) ws fl nx' ws' fl' rs
        → Listed (lengthened nx' p (get_or (shortened nx z) 1024 0)) (get_or (lengthened nx' p (get_or (shortened nx z) 1024 0)) p 0) (mine_of nx')
    wide-listed ws nx' ws' fl' rs q =
        let n1 : List ℕ = lengthened nx' p (get_or (shortened nx z) 1024 0) in
        let l : Listed n1 (get_or n1 (last 1024 a) 0) (mine_of nx') = own-ahead a (mine_of nx') (own-wide ws nx' ws' fl' rs q) in
        rw (← ep) at l
