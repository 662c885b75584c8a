-- What a range leaves of one segment, by the tests that the code makes.
use Rattle.std.specs.Prelude.{None, Some, option_to_list, if◌then◌else◌}
use Prim.Native.Nat.{ℕ, ◌+◌, ◌<◌, ◌≤◌}
use mathlib.Core.Path.{◌≡◌, refl, sym, ap, ap₂, ◌∙◌}
use mathlib.Core.List.{[], ◌∷◌}
use mathlib.Core.Bool.{Bool, true, false, not, ◌&&◌, ◌||◌, true≢false}
use native.Mathlib.Omega.{arith}
use lib.ListN.{length}
use mir.Val.{bool_byte}
use borrow.Author.Tests.{lt-leb, leb-true, ltb-true, eqb-true}
use Rattle.definitions.specs.Tests.{◌<?◌, ◌≤?◌, ◌=?◌, bit, host_up}
use Rattle.definitions.specs.Segments.{host_end, span_end, front, rest, host_touched, touched, span_whole}
use Rattle.definitions.proofs.SegmentLaws.{Good, front-good, rest-good, Single, single-end}
use Rattle.definitions.proofs.WalkLaws.{left_in, rear_in}
use Rattle.definitions.specs.declared.addr.GuestAddr.{GuestAddr}
use Rattle.definitions.specs.declared.remapper.Segment.{Segment}
use Rattle.capability_engine.specs.declared.remapper.Span.{Span}
use Rattle.capability_engine.specs.declared.remapper.Span.TheVariants.{Host, Guest}
use Rattle.capability_engine.specs.declared.remapper.Reach.{Reach}
use Rattle.capability_engine.specs.declared.remapper.Asked.{Asked}
use Rattle.capability_engine.specs.RemapAsking.{reach_of, left_of, rear_of, leaves, stays, moves, repeats, bad_for, last_of, ask_step}

pub both : (s t : Bool) → (s && t) ≡ true → (s ≡ true) × (t ≡ true)
both true t e = (refl, e)
both false t e = absurd (true≢false (sym e))

pub or-none : (b : Bool) → (b || false) ≡ b
or-none true = refl
or-none false = refl

pub not_so : (b : Bool) → not b ≡ true → b ≡ false
not_so true e = absurd (true≢false (sym e))
not_so false e = refl

not-no : (b : Bool) → not b ≡ false → b ≡ true
not-no true e = refl
not-no false e = absurd (true≢false e)

pub or-false : (a b : Bool) → (a || b) ≡ false → (a ≡ false) × (b ≡ false)
or-false true b e = absurd (true≢false e)
or-false false b e = (refl, e)

-- ---- in its place

pub left-listed : (p : Span) (s : Segment) → left_of p s ≡ option_to_list (leaves (reach_of p s) s)
unfolding left_of left_in leaves
left-listed p s = go (reach_of p s).touches (1 ≤? (reach_of p s).from)
  where
    go : (t b : Bool) → (if t then (if b then front (reach_of p s).from s ∷ [] else []) else s ∷ [])
        ≡ option_to_list (if t then (if b then Some (front (reach_of p s).from s) else None) else Some s)
    go true true = refl
    go true false = refl
    go false b = refl

pub left-many : (p : Span) (s : Segment) → length (left_of p s) ≡ bit (stays (reach_of p s))
unfolding left_of left_in stays
left-many p s = go (reach_of p s).touches (1 ≤? (reach_of p s).from)
  where
    go : (t b : Bool) → length (if t then (if b then front (reach_of p s).from s ∷ [] else []) else s ∷ []) ≡ bit (not t || b)
    go true true = refl
    go true false = refl
    go false b = refl

-- question 15 of one segment
pub single : (a e : GuestAddr) (s : Segment) → repeats a e s ≡ false → Single a e s
unfolding repeats
single a e s h t w = go (s.repeat =? 1) refl (simp (t, w) at h)
  where
    go : (b : Bool) → (s.repeat =? 1) ≡ b → not b ≡ false → s.repeat ≡ 1
    go true d n = eqb-true s.repeat 1 d
    go false d n = absurd (true≢false n)

-- what stays is a part
fits_in : (p : Span) (s : Segment) → bad_for p s ≡ false → (reach_of p s).touches ≡ true → 1 ≤ (reach_of p s).from → (reach_of p s).from ≤ s.size
unfolding reach_of bad_for host_touched touched host_end host_up span_whole
fits_in (Host a e) s n t l =
    let b = both (a.0 <? s.hpa.0 + s.size) (s.hpa.0 <? e.0) t in
    omega (arith, ltb-true a.0 (s.hpa.0 + s.size) b.0)
fits_in (Guest a e) s n t l =
    let b = both (a.0 <? (span_end s).0) (s.gpa.0 <? e.0) t in
    let w : span_whole a e s ≡ false = simp (lt-leb a.0 s.gpa.0 (omega arith)) in
    omega (arith, ltb-true a.0 (span_end s).0 b.0, single-end s (single a e s n t w))

pub left-good : (p : Span) (s : Segment) → Good s → bad_for p s ≡ false → (t : Segment) → leaves (reach_of p s) s ≡ Some t → Good t
unfolding leaves
left-good p s g n t e = go (reach_of p s).touches refl (1 ≤? (reach_of p s).from) refl e
  where
    same : (x y : Segment) → Some x ≡ Some y → x ≡ y
    same x y q = cc

    go : (u : Bool) → (reach_of p s).touches ≡ u → (b : Bool) → (1 ≤? (reach_of p s).from) ≡ b
        → (if u then (if b then Some (front (reach_of p s).from s) else None) else Some s) ≡ Some t → Good t
    go true d true f q =
        let l : 1 ≤ (reach_of p s).from = leb-true 1 (reach_of p s).from f in
        rw (same (front (reach_of p s).from s) t q) at (front-good (reach_of p s).from s g l (fits_in p s n d l))
    go true d false f q = absurd (let z : ◌≡◌ {A = ℕ} 0 1 = cc in omega arith)
    go false d b f q = rw (same s t q) at g

-- ---- moved up

pub rear-listed : (p : Span) (s : Segment) → rear_of p s ≡ (if moves (reach_of p s) s then rest (reach_of p s).to s ∷ [] else [])
unfolding rear_of rear_in moves
rear-listed p s = go (reach_of p s).touches ((reach_of p s).to <? s.size)
  where
    go : (t b : Bool) → (if t then (if b then rest (reach_of p s).to s ∷ [] else []) else []) ≡ (if t && b then rest (reach_of p s).to s ∷ [] else [])
    go true true = refl
    go true false = refl
    go false b = refl

pub rear-many : (p : Span) (s : Segment) → length (rear_of p s) ≡ bit (moves (reach_of p s) s)
rear-many p s = rw (rear-listed p s) (go (moves (reach_of p s) s))
  where
    go : (b : Bool) → length (if b then rest (reach_of p s).to s ∷ [] else []) ≡ bit b
    go true = refl
    go false = refl

rear-last : (p : Span) (s : Segment) (d : Segment) → last_of (rear_of p s) d ≡ (if moves (reach_of p s) s then rest (reach_of p s).to s else d)
rear-last p s d = rw (rear-listed p s) (go (moves (reach_of p s) s))
  where
    go : (b : Bool) → last_of (if b then rest (reach_of p s).to s ∷ [] else []) d ≡ (if b then rest (reach_of p s).to s else d)
    go true = refl
    go false = refl

pub moved_by : (r q : Reach) → r ≡ q → (s : Segment) → {b : Bool} → moves r s ≡ b → moves q s ≡ b
moved_by r q e s m = sym (ap (λ t. moves t s) e) ∙ m

pub rear-short : (r q : Reach) → r ≡ q → (s : Segment) → moves q s ≡ true → r.to < s.size
unfolding moves
rear-short r q e s m = rw e (ltb-true q.to s.size (both q.touches (q.to <? s.size) m).1)

pub rear-good : (p : Span) (s : Segment) → Good s → moves (reach_of p s) s ≡ true → Good (rest (reach_of p s).to s)
rear-good p s g m = rest-good (reach_of p s).to s g (rear-short (reach_of p s) (reach_of p s) refl s m)

-- ---- the questions, of one segment more, as the code asks them

asked-one : (p : Span) (k : Asked) (s : Segment) (r : Reach) → r ≡ reach_of p s → (o : Bool) → o ≡ (not r.touches || (1 ≤? r.from))
    → (x : ℕ) → x ≡ bit o + k.left → (b : Bool) → b ≡ (k.bad || bad_for p s) → (m : Bool) → m ≡ moves r s
    → (y : ℕ) → y ≡ bit m + k.moved → (u : Segment) → u ≡ (if m then rest r.to s else k.up) → record { left = x; moved = y; up = u; bad = b } ≡ ask_step p k s
unfolding ask_step stays
asked-one p k s r er o eo x ex b z m em y ey u eu =
    let i : x ≡ length (left_of p s) + k.left
    = ex ∙ ap (λ q. bit q + k.left) (eo ∙ ap stays er) ∙ ap (λ n. n + k.left) (sym (left-many p s)) in
    let moved : m ≡ moves (reach_of p s) s = em ∙ ap (λ q. moves q s) er in
    let j : y ≡ length (rear_of p s) + k.moved = ey ∙ ap (λ q. bit q + k.moved) moved ∙ ap (λ n. n + k.moved) (sym (rear-many p s)) in
    let v : u ≡ last_of (rear_of p s) k.up = eu ∙ ap₂ (λ q f. if q then rest f.to s else k.up) moved er ∙ sym (rear-last p s k.up) in
    λ t. record { left = i t; moved = j t; up = v t; bad = z t }

-- of one that is not touched, and of one that is
far-fine : (p : Span) (s : Segment) → (reach_of p s).touches ≡ false → bad_for p s ≡ false
unfolding reach_of bad_for repeats
far-fine (Host a e) s t = refl
far-fine (Guest a e) s t = rw t

pub asked-far : (p : Span) (k : Asked) (s : Segment) (r : Reach) → r ≡ reach_of p s → not r.touches ≡ true
    → record { left = k.left + 1; moved = k.moved; up = k.up; bad = k.bad } ≡ ask_step p k s
unfolding moves
asked-far p k s r er n =
    let t = not_so r.touches n in
    asked-one p k s r er true (sym (ap (λ q. not q || (1 ≤? r.from)) t)) (k.left + 1) (omega arith)
    k.bad (sym (or-none k.bad) ∙ ap (λ q. k.bad || q) (sym (far-fine p s (ap (λ q. q.touches) (sym er) ∙ t))))
    false (sym (ap (λ q. q && (r.to <? s.size)) t)) k.moved (omega arith) k.up refl

pub bit-byte : (b : Bool) → bool_byte b ≡ bit b
bit-byte true = refl
bit-byte false = refl

pub asked-near : (p : Span) (k : Asked) (s : Segment) (r : Reach) → r ≡ reach_of p s → not r.touches ≡ false
    → (x : ℕ) → x ≡ bool_byte (1 ≤? r.from) → (b : Bool) → b ≡ (k.bad || bad_for p s) → (m : Bool) → m ≡ moves r s
    → (y : ℕ) → y ≡ bit m + k.moved → (u : Segment) → u ≡ (if m then rest r.to s else k.up) → record { left = k.left + x; moved = y; up = u; bad = b } ≡ ask_step p k s
asked-near p k s r er n x ex =
    let t = not-no r.touches n in
    let e = ex ∙ bit-byte (1 ≤? r.from) in
    asked-one p k s r er (1 ≤? r.from) (sym (ap (λ q. not q || (1 ≤? r.from)) t)) (k.left + x) (omega arith)

pub bad_now : (b d : Bool) → b ≡ true → b ≡ (b || d)
bad_now b d e = rw e

pub bad_then : (b d x : Bool) → b ≡ false → x ≡ d → x ≡ (b || d)
bad_then b d x e q = rw e q
