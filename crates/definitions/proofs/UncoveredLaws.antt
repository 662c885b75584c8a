-- The identity runs of the stream: the longest runs in their region that no segment covers, and the subtraction that
-- computes them.
use Rattle.std.specs.Prelude.{if◌then◌else◌}
use Prim.Native.Nat.{ℕ, suc, ◌+◌, ◌^◌, ◌<◌, ◌≤◌, min, max}
use mathlib.Core.Path.{◌≡◌, refl, sym, ap, ap₂, ◌∙◌}
use mathlib.Core.Bool.{Bool, true, false, true≢false, not, ◌&&◌, ◌||◌}
use mathlib.Core.List.{List, [], ◌∷◌, ◌++◌, append_assoc}
use native.Mathlib.Omega.{arith}
use borrow.Author.Tests.{ltb-true, ltb-false, lt-ltb, ne_eqb}
use Rattle.definitions.specs.Tests.{◌<?◌, inside, host, host_up, any, each}
use Rattle.definitions.specs.Values.{nothing, held}
use Rattle.definitions.specs.Regions.{region, has, joins, regions}
use Rattle.definitions.specs.Segments.{covers, host_end}
use Rattle.definitions.specs.Stream.{uncovered_in, uncovered, stream, merge}
use Rattle.definitions.specs.declared.addr.HostAddr.{HostAddr}
use Rattle.definitions.specs.declared.region.Values.{Values}
use Rattle.definitions.specs.declared.region.Region.{Region}
use Rattle.definitions.specs.declared.remapper.Segment.{Segment}
use Rattle.definitions.proofs.Bools.{Where, inn, low, high, where?, in-true, in-low, in-high, in-empty, and-true, and-false, if-same}
use Rattle.definitions.proofs.Lists.{values_at, Ordered, AllHeld, Longest, Runs, Blank, below, above, without, left_over}
use Rattle.definitions.proofs.RunLaws.{EndBy, unique-runs, regions-runs, regions-values}

-- no two runs of a region touch
pub uncovered-runs : (ss : List Segment) (r : Region) → Runs 0 (regions (uncovered_in ss r))
uncovered-runs ss r = regions-runs (uncovered_in ss r)

uncovered-blank : (ss : List Segment) (r : Region) → held r.values ≡ true → Blank (uncovered_in ss r)
unfolding uncovered_in
uncovered-blank ss r h x = go (has r x && not (any (λ s. covers s x) ss))
  where
    go : (b : Bool) → held (if b then r.values else nothing) ≡ false → (if b then r.values else nothing) ≡ nothing
    go true e = absurd (true≢false (sym h ∙ e))
    go false e = refl

-- what the runs of a held region say of an address
pub run-values : (ss : List Segment) (r : Region) → held r.values ≡ true → (x : HostAddr) → x.0 < 2 ^ 64
    → values_at (regions (uncovered_in ss r)) x ≡ uncovered_in ss r x
run-values ss r h x small = regions-values (uncovered_in ss r) (uncovered-blank ss r h) x ∙ simp (lt-ltb x.0 (2 ^ 64) small)

-- an address lies in a region of a table exactly if it is held
pub held-has : (rs : List Region) (x : HostAddr) → AllHeld rs → any (λ r. has r x) rs ≡ held (values_at rs x)
unfolding values_at held nothing
held-has [] x h = refl
held-has (r ∷ rs) x h = go (has r x) refl (held-has rs x h.1) h.0
  where
    go : (t : Bool) → has r x ≡ t → any (λ r. has r x) rs ≡ held (values_at rs x) → held r.values ≡ true
        → any (λ r. has r x) (r ∷ rs) ≡ held (values_at (r ∷ rs) x)
    go true d ih f = simp d (sym f)
    go false d ih f = simp d ih

any_append : {A : Type 0} (p : A → Bool) (xs ys : List A) → any p (xs ++ ys) ≡ (any p xs || any p ys)
any_append p [] ys = refl
any_append p (x ∷ xs) ys = go (p x) (any_append p xs ys)
  where
    go : (b : Bool) → any p (xs ++ ys) ≡ (any p xs || any p ys) → (b || any p (xs ++ ys)) ≡ ((b || any p xs) || any p ys)
    go true ih = refl
    go false ih = ih

-- the runs cover exactly the held addresses that no segment covers
module _ (ss : List Segment) (x : HostAddr) (small : x.0 < 2 ^ 64) where
  run_holds : (r : Region) → held r.values ≡ true
      → any (λ q. has q x) (regions (uncovered_in ss r)) ≡ (has r x && not (any (λ s. covers s x) ss))
  unfolding uncovered_in held nothing
  run_holds r h =
      held-has (regions (uncovered_in ss r)) x (uncovered-runs ss r).full
      ∙ rw (run-values ss r h x small) (go (has r x && not (any (λ s. covers s x) ss)) h)
    where
      go : (b : Bool) → held r.values ≡ true → held (if b then r.values else nothing) ≡ b
      go true e = e
      go false e = refl

  pub uncovered-holds : (rs : List Region) → AllHeld rs
      → any (λ q. has q x) (uncovered ss rs) ≡ (any (λ r. has r x) rs && not (any (λ s. covers s x) ss))
  unfolding uncovered
  uncovered-holds [] f = refl
  uncovered-holds (r ∷ rs) f =
      any_append (λ q. has q x) (regions (uncovered_in ss r)) (uncovered ss rs)
      ∙ rw (run_holds r f.0, uncovered-holds rs f.1) (go (has r x) (any (λ r. has r x) rs) (not (any (λ s. covers s x) ss)))
    where
      go : (a b c : Bool) → ((a && c) || (b && c)) ≡ ((a || b) && c)
      go true true true = refl
      go true false true = refl
      go true b false = and-false b
      go false b c = refl

-- what a segment leaves of a region: two pieces, if they are not empty
abbrev piece : HostAddr → HostAddr → Values → List Region
piece a e v = if a.0 <? e.0 then region a e v ∷ [] else []

piece-values : (x a e : HostAddr) (v : Values) (ys : List Region)
    → values_at (piece a e v ++ ys) x ≡ (if inside a.0 e.0 x.0 then v else values_at ys x)
unfolding values_at has region
piece-values x a e v ys = go (a.0 <? e.0) refl
  where
    go : (t : Bool) → (a.0 <? e.0) ≡ t → values_at (piece a e v ++ ys) x ≡ (if inside a.0 e.0 x.0 then v else values_at ys x)
    go true d = simp d
    go false d = simp (d, in-empty a.0 e.0 x.0 (ltb-false _ _ d))

-- of a range [a, e), what lies below h and what lies from k on
split : (a e h k x : ℕ) (v w : Values) → h ≤ k
    → (if inside a (min h e) x then v else if inside (max k a) e x then v else w)
    ≡ (if inside h k x then w else if inside a e x then v else w)
split a e h k x v w le = go (where? a e x) (where? h k x)
  where
    go : Where a e x → Where h k x
        → (if inside a (min h e) x then v else if inside (max k a) e x then v else w)
        ≡ (if inside h k x then w else if inside a e x then v else w)
    go (inn p i j) (inn q m n) = simp (q, in-high a (min h e) x (omega arith), in-low (max k a) e x (omega arith))
    go (inn p i j) (low q m) = simp (p, q, in-true a (min h e) x i (omega arith))
    go (inn p i j) (high q m n) = simp (p, q, in-high a (min h e) x (omega arith), in-true (max k a) e x (omega arith) j)
    go (low p i) u = simp (p, in-low a (min h e) x i, in-low (max k a) e x (omega arith), if-same)
    go (high p i j) u = simp (p, in-high a (min h e) x (omega arith), in-high (max k a) e x j, if-same)

without-values : (x : HostAddr) (s : Segment) (r : Region) (ys : List Region)
    → values_at (without s r ++ ys) x ≡ (if covers s x then values_at ys x else if has r x then r.values else values_at ys x)
unfolding without below above covers has host_end host_up host
without-values x s r ys =
    let k : ℕ = s.hpa.0 + s.size in
    let later : List Region = piece (host (max k r.start.0)) r.end r.values in
    ap (λ l. values_at l x) (append_assoc (below s.hpa.0 r) later ys)
    ∙ piece-values x r.start (host (min s.hpa.0 r.end.0)) r.values (later ++ ys)
    ∙ rw (piece-values x (host (max k r.start.0)) r.end r.values ys)
    (split r.start.0 r.end.0 s.hpa.0 k x.0 r.values (values_at ys x) (omega arith))

each-values : (x : HostAddr) (s : Segment) (rs : List Region)
    → values_at (each (without s) rs) x ≡ (if covers s x then nothing else values_at rs x)
unfolding values_at
each-values x s [] = sym (if-same (covers s x) nothing)
each-values x s (r ∷ rs) = without-values x s r (each (without s) rs) ∙ rw (each-values x s rs) (go (covers s x))
  where
    go : (c : Bool) → (if c then (if c then nothing else values_at rs x) else if has r x then r.values else if c then nothing else values_at rs x)
        ≡ (if c then nothing else values_at (r ∷ rs) x)
    go true = refl
    go false = refl

left-values : (x : HostAddr) (ss : List Segment) (rs : List Region)
    → values_at (left_over ss rs) x ≡ (if any (λ s. covers s x) ss then nothing else values_at rs x)
unfolding left_over
left-values x [] rs = refl
left-values x (s ∷ ss) rs = left-values x ss (each (without s) rs) ∙ rw (each-values x s rs) (go (covers s x) (any (λ s. covers s x) ss))
  where
    go : (c d : Bool) → (if d then nothing else if c then nothing else values_at rs x) ≡ (if c || d then nothing else values_at rs x)
    go true d = if-same d nothing
    go false d = refl

-- every segment has an address
abbrev pub Sized : List Segment → Type 0
Sized [] = Unit {0}
Sized (s ∷ ss) = (1 ≤ s.size) × Sized ss

-- pieces with one value and an address between any two of them, from an address on
abbrev Apart : Values → ℕ → List Region → Type 0
Apart v lo [] = Unit {0}
Apart v lo (q ∷ qs) = (q.values ≡ v) × (lo ≤ q.start.0) × (q.start.0 < q.end.0) × Apart v (suc q.end.0) qs

module _ (v : Values) where
  apart_from : (lo lo' : ℕ) (qs : List Region) → lo' ≤ lo → Apart v lo qs → Apart v lo' qs
  apart_from lo lo' [] h a = tt
  apart_from lo lo' (q ∷ qs) h a = (a.0, omega arith, a.2, a.3)

  apart-ordered : (lo : ℕ) (qs : List Region) → Apart v lo qs → Ordered lo qs
  apart-ordered lo [] a = tt
  apart-ordered lo (q ∷ qs) a =
      (a.1, a.2, apart-ordered q.end.0 qs (apart_from (suc q.end.0) q.end.0 qs (omega arith) a.3))

  apart-full : (lo : ℕ) (qs : List Region) → held v ≡ true → Apart v lo qs → AllHeld qs
  apart-full lo [] h a = tt
  apart-full lo (q ∷ qs) h a = (ap held a.0 ∙ h, apart-full (suc q.end.0) qs h a.3)

  apart-longest : (lo : ℕ) (qs : List Region) → Apart v lo qs → Longest qs
  unfolding joins
  apart-longest lo [] a = tt
  apart-longest lo (q ∷ []) a = (tt, tt)
  apart-longest lo (q ∷ p ∷ qs) a =
      (simp (ne_eqb q.end.0 p.start.0 (omega arith)), apart-longest (suc q.end.0) (p ∷ qs) a.3)

  -- such pieces are longest runs
  apart-runs : held v ≡ true → (lo : ℕ) (qs : List Region) → Apart v lo qs → Runs lo qs
  apart-runs h lo qs a = record { ordered = apart-ordered lo qs a; full = apart-full lo qs h a; longest = apart-longest lo qs a }

  piece-apart : (lo : ℕ) (a e : HostAddr) (w : Values) (ys : List Region) → w ≡ v → lo ≤ a.0 → Apart v (suc e.0) ys → Apart v lo ys
      → Apart v lo (piece a e w ++ ys)
  unfolding region
  piece-apart lo a e w ys same l p q = go (a.0 <? e.0) refl
    where
      go : (t : Bool) → (a.0 <? e.0) ≡ t → Apart v lo (piece a e w ++ ys)
      go true d = simp d (same, l, ltb-true _ _ d, p)
      go false d = simp d q

  -- a segment that has an address keeps the two pieces it leaves apart
  each-apart : (s : Segment) → 1 ≤ s.size → (lo : ℕ) (rs : List Region) → Apart v lo rs → Apart v lo (each (without s) rs)
  unfolding without below above host_end host_up host
  each-apart s n lo [] a = tt
  each-apart s n lo (r ∷ rs) a =
      let from : HostAddr = host (max (s.hpa.0 + s.size) r.start.0) in
      let to : HostAddr = host (min s.hpa.0 r.end.0) in
      let rest : List Region = each (without s) rs in
      let p : Apart v (suc r.end.0) rest = each-apart s n (suc r.end.0) rs a.3 in
      let more : (lo' : ℕ) → lo' ≤ from.0 → lo' ≤ suc r.end.0 → Apart v lo' (piece from r.end r.values ++ rest)
      = λ lo' l m. piece-apart lo' from r.end r.values rest a.0 l p (apart_from (suc r.end.0) lo' rest m p) in
      rw append_assoc
      (piece-apart lo r.start to r.values (piece from r.end r.values ++ rest) a.0 a.1
      (more (suc to.0) (omega arith) (omega arith)) (more lo (omega arith) (omega arith)))

  left-apart : (ss : List Segment) → Sized ss → (lo : ℕ) (rs : List Region) → Apart v lo rs → Apart v lo (left_over ss rs)
  unfolding left_over
  left-apart [] n lo rs a = a
  left-apart (s ∷ ss) n lo rs a = left-apart ss n.1 lo (each (without s) rs) (each-apart s n.0 lo rs a)

-- of one region the subtraction leaves the runs
module _ (ss : List Segment) (n : Sized ss) (r : Region) (full : held r.values ≡ true) where
  run-left : r.end.0 ≤ 2 ^ 64 → (x : HostAddr) → values_at (regions (uncovered_in ss r)) x ≡ values_at (left_over ss (r ∷ [])) x
  unfolding uncovered_in values_at has
  run-left end x =
      regions-values (uncovered_in ss r) (uncovered-blank ss r full) x
      ∙ go (x.0 <? 2 ^ 64) refl (any (λ s. covers s x) ss) ∙ sym (left-values x ss (r ∷ []))
    where
      go : (t : Bool) → (x.0 <? 2 ^ 64) ≡ t → (c : Bool)
          → (if t then (if has r x && not c then r.values else nothing) else nothing) ≡ (if c then nothing else values_at (r ∷ []) x)
      go true e true = simp and-false
      go true e false = simp and-true
      go false e c = simp (in-high r.start.0 r.end.0 x.0 (omega (arith, ltb-false x.0 (2 ^ 64) e)), if-same)

  run_is : r.start.0 < r.end.0 → r.end.0 ≤ 2 ^ 64 → regions (uncovered_in ss r) ≡ left_over ss (r ∷ [])
  run_is some end =
      let pieces : Apart r.values 0 (left_over ss (r ∷ [])) = left-apart r.values ss n 0 (r ∷ []) (refl, omega arith, some, tt) in
      unique-runs 0 (regions (uncovered_in ss r)) (left_over ss (r ∷ [])) (uncovered-runs ss r)
      (apart-runs r.values full 0 (left_over ss (r ∷ [])) pieces) (run-left end)

-- the subtraction takes the regions one by one
pub each_append : {A B : Type 0} (f : A → List B) (xs ys : List A) → each f (xs ++ ys) ≡ each f xs ++ each f ys
each_append f [] ys = refl
each_append f (x ∷ xs) ys = rw (each_append f xs ys) (sym (append_assoc (f x) (each f xs) (each f ys)))

left-append : (ss : List Segment) (xs ys : List Region) → left_over ss (xs ++ ys) ≡ left_over ss xs ++ left_over ss ys
unfolding left_over
left-append [] xs ys = refl
left-append (s ∷ ss) xs ys = ap (left_over ss) (each_append (without s) xs ys) ∙ left-append ss (each (without s) xs) (each (without s) ys)

left-nil : (ss : List Segment) → left_over ss [] ≡ []
unfolding left_over
left-nil [] = refl
left-nil (s ∷ ss) = left-nil ss

-- the runs of a table are what the segments leave of it
pub uncovered-is : (ss : List Segment) → Sized ss → (lo : ℕ) (rs : List Region) → Ordered lo rs → AllHeld rs → EndBy (2 ^ 64) rs
    → uncovered ss rs ≡ left_over ss rs
unfolding uncovered
uncovered-is ss n lo [] o f e = sym (left-nil ss)
uncovered-is ss n lo (r ∷ rs) o f e =
    ap₂ ◌++◌ (run_is ss n r f.0 o.1 e.0) (uncovered-is ss n r.end.0 rs o.2 f.1 e.1)
    ∙ sym (left-append ss (r ∷ []) rs)

-- the stream, with the runs as the segments leave them
pub stream-is : (ss : List Segment) → Sized ss → (lo : ℕ) (rs : List Region) → Ordered lo rs → AllHeld rs → EndBy (2 ^ 64) rs
    → stream rs ss ≡ merge rs (left_over ss rs) ss
unfolding stream
stream-is ss n lo rs o f e = ap (λ runs. merge rs runs ss) (uncovered-is ss n lo rs o f e)
