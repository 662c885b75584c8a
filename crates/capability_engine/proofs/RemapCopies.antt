-- The cursor, and one segment more that is copied.
use Rattle.std.specs.Prelude.{None, Some as Found}
use Prim.Native.Nat.{ℕ, zero, suc, ◌+◌, ◌*◌, ◌≤◌, ◌<◌}
use mathlib.Core.Path.{◌≡◌, refl, sym, ap, ap₂, ◌∙◌}
use mathlib.Core.Logic.{◌⊎◌, inl, inr, ⊎_elim}
use mathlib.Core.List.{List, [], ◌∷◌, ◌++◌, append-nil, append_assoc}
use native.Mathlib.Omega.{arith}
use native.Mathlib.Nat.{add-zero, add-suc, suc-add}
use native.Mathlib.Numerals.{add-one}
use lib.ListN.{get_or, length, set, length-set}
use lib.Seq.{sets, length-sets, get_or-set_same, get_or-set_other}
use Rattle.definitions.specs.Pages.{segment_group}
use Rattle.definitions.specs.declared.remapper.Segment.{Segment}
use Rattle.capability_engine.specs.declared.remapper.Remapper.{Remapper}
use Rattle.capability_engine.specs.RemapHeld.{Holds, ahead}
use Rattle.capability_engine.specs.RemapListing.{Some, Comes, Copied}
use Rattle.capability_engine.specs.SegmentWords.{segment_at, segments_from}
use Rattle.capability_engine.proofs.RemapPlaces.{zip-small}
use Rattle.capability_engine.proofs.RemapWalks.{segment-at, next_of, Open, some-start, some_end, some-open, some-less}

-- ---- the cursor

module _ (r : Remapper) (at : ℕ) (ts : List Segment) (w : Some r at ts) where
  pub comes-on : at < 64 → Comes r ts (Found (segment-at r at, record { next_segment = next_of r at }))
  comes-on l = let o = some-open r at ts w l in rw o.are (record { next_segment = next_of r at }, refl, o.on)

  pub comes-end : 64 ≤ at → Comes r ts None
  comes-end l = rw (some_end r at ts w l) refl

-- ---- a run of stores, read outside it and in it

sets-out : (vs ws : List ℕ) (b j : ℕ) → (j < b) ⊎ (b + length vs ≤ j) → get_or (sets ws b vs) j 0 ≡ get_or ws j 0
sets-out [] ws b j n = refl
sets-out (v ∷ vs) ws b j n =
    sets-out vs (set ws b v) (suc b) j (⊎_elim (λ l. inl (omega arith)) (λ l. inr (omega arith)) n)
    ∙ get_or-set_other ws b j v 0 (λ (e : j ≡ b). ⊎_elim (λ (l : j < b). omega arith) (λ (l : b + suc (length vs) ≤ j). omega arith) n)

sets-in : (vs ws : List ℕ) (b d : ℕ) → d < length vs → b + length vs ≤ length ws → get_or (sets ws b vs) (b + d) 0 ≡ get_or vs d 0
sets-in [] ws b d l f = absurd (omega arith)
sets-in (v ∷ vs) ws b zero l f =
    rw (add-zero b) (sets-out vs (set ws b v) (suc b) b (inl (omega arith)) ∙ get_or-set_same ws b v 0 (omega arith))
sets-in (v ∷ vs) ws b (suc d) l f =
    rw (add-suc b d, ← suc-add b d) (sets-in vs (set ws b v) (suc b) d (omega arith) (simp length-set (omega arith)))

module _ (out : List ℕ) (n : ℕ) (s : Segment) where
  near : (d : ℕ) → d < 4 → 4 * n + 4 ≤ length out → get_or (sets out (4 * n) (segment_group s)) (4 * n + d) 0 ≡ get_or (segment_group s) d 0
  unfolding segment_group
  near d l f = sets-in (segment_group s) out (4 * n) d l f

  far : (i d : ℕ) → i < n → d < 4 → get_or (sets out (4 * n) (segment_group s)) (4 * i + d) 0 ≡ get_or out (4 * i + d) 0
  far i d l k = sets-out (segment_group s) out (4 * n) (4 * i + d) (inl (omega arith))

  near_first : 4 * n + 4 ≤ length out → get_or (sets out (4 * n) (segment_group s)) (4 * n) 0 ≡ get_or (segment_group s) 0 0
  near_first f = simp add-zero at (near 0 (omega arith) f)

  far-first : (i : ℕ) → i < n → get_or (sets out (4 * n) (segment_group s)) (4 * i) 0 ≡ get_or out (4 * i) 0
  far-first i l = simp add-zero at (far i 0 l (omega arith))

  at_new : 4 * n + 4 ≤ length out → segment_at (sets out (4 * n) (segment_group s)) n ≡ s
  unfolding segment_group
  at_new f = λ k. record {
    hpa = record { 0 = near_first f k };
    gpa = record { 0 = near 1 (omega arith) f k };
    size = near 2 (omega arith) f k;
    repeat = near 3 (omega arith) f k;
  }

  at_old : (i : ℕ) → i < n → segment_at (sets out (4 * n) (segment_group s)) i ≡ segment_at out i
  at_old i l = λ k. record {
    hpa = record { 0 = far-first i l k };
    gpa = record { 0 = far i 1 l (omega arith) k };
    size = far i 2 l (omega arith) k;
    repeat = far i 3 l (omega arith) k;
  }

  old : (i k : ℕ) → i + k ≤ n → segments_from (sets out (4 * n) (segment_group s)) i k ≡ segments_from out i k
  old i zero l = refl
  old i (suc k) l = ap₂ (λ (x : Segment) (y : List Segment). x ∷ y) (at_old i (omega arith)) (old (suc i) k (omega arith))

snoc : (out : List ℕ) (i k : ℕ) → segments_from out i (suc k) ≡ segments_from out i k ++ (segment_at out (i + k) ∷ [])
snoc out i zero = let e : i + 0 ≡ i = omega arith in rw e
snoc out i (suc k) =
    let e : i + suc k ≡ suc i + k = omega arith in
    rw e (ap (λ (l : List Segment). segment_at out i ∷ l) (snoc out (suc i) k))

one_more : (out : List ℕ) (n : ℕ) (s : Segment) → 4 * n + 4 ≤ length out → segments_from (sets out (4 * n) (segment_group s)) 0 (n + 1) ≡ segments_from out 0 n ++ (s ∷ [])
one_more out n s f =
    let e : 0 + n ≡ n = omega arith in
    rw (add-one n)
    (snoc (sets out (4 * n) (segment_group s)) 0 n
    ∙ ap₂ (λ (x : List Segment) (y : Segment). x ++ (y ∷ [])) (old out n s 0 n (omega arith)) (rw e (at_new out n s f)))

-- ---- the loop: n segments are copied, and those from slot at on are to come
pub record Copying (r : Remapper) (ss : List Segment) (before now : List ℕ) (at n : ℕ) : Type 0 where
  pub left : List Segment
  pub rest : Some r at left
  pub many : n + length left ≡ length ss
  pub few : length ss ≤ 64
  pub same : segments_from now 0 n ++ left ≡ ss
  pub size : length now ≡ length before
  pub room : 256 ≤ length before

pub copying-start : (r : Remapper) (ss : List Segment) (out : List ℕ) → Holds r ss → 256 ≤ length out → Copying r ss out out r.head 0
copying-start r ss out h l =
    let w = some-start r ss h in
    record {
      left = ss;
      rest = w;
      many = omega arith;
      few = omega (arith, zip-small r w.prev r.head w.done ss w.zip);
      same = refl;
      size = refl;
      room = l;
    }

module _ (r : Remapper) (ss : List Segment) (before now : List ℕ) (at n : ℕ) (g : Copying r ss before now at n) where
  module _ (l : at < 64) where
    opened : Open r at g.left
    opened = some-open r at g.left g.rest l

    pub copying-few : n < 64
    copying-few = omega (arith, g.many, g.few, ap length opened.are)

    pub copying-fits : 4 * n + 4 ≤ length now
    copying-fits = omega (arith, copying-few, g.size, g.room)

    pub copying-less : ahead r.links (next_of r at) < ahead r.links at
    copying-less = some-less r at g.left g.rest l

    pub copying-more : (next : List ℕ) → next ≡ sets now (4 * n) (segment_group (segment-at r at)) → Copying r ss before next (next_of r at) (n + 1)
    copying-more next e =
        let x : Segment = segment-at r at in
        let us : List Segment = opened.more in
        rw e
        (record {
          left = us;
          rest = opened.on;
          many = omega (arith, g.many, ap length opened.are);
          few = g.few;
          same = ap (λ (z : List Segment). z ++ us) (one_more now n x copying-fits)
              ∙ append_assoc (segments_from now 0 n) (x ∷ []) us
              ∙ ap (λ (z : List Segment). segments_from now 0 n ++ z) (sym opened.are) ∙ g.same;
          size = length-sets now (4 * n) (segment_group x) ∙ g.size;
          room = g.room;
        })

  pub copying-end : 64 ≤ at → Copied ss before now n
  copying-end l =
      let z : g.left ≡ [] = some_end r at g.left g.rest l in
      record {
        many = omega (arith, g.many, ap length z);
        same = sym (append-nil (segments_from now 0 n)) ∙ ap (λ (y : List Segment). segments_from now 0 n ++ y) (sym z) ∙ g.same;
        size = g.size;
      }
