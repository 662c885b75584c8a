-- What each call answers, by the tests that the code makes.
use Rattle.std.specs.Prelude.{if◌then◌else◌}
use Prim.Native.Nat.{ℕ, ◌+◌, ◌*◌, ◌^◌, ◌<◌, ◌≤◌}
use mathlib.Core.Path.{◌≡◌, refl, sym, ap, ◌∙◌, subst}
use mathlib.Core.List.{List, [], ◌∷◌}
use mathlib.Core.Bool.{Bool, true, false, not, ◌&&◌, true≢false}
use native.Mathlib.Omega.{arith}
use native.Mathlib.Nat.{mul-le-mul_left}
use lib.ListN.{length}
use mir.Val.{bool_byte}
use borrow.Author.Tests.{lt-ltb, le-ltb, le-leb, leb-true, ltb-true, eq-eqb, ne_eqb}
use Rattle.definitions.specs.Tests.{◌<?◌, ◌≤?◌, fits, host_up, guest_up, any}
use Rattle.definitions.specs.Segments.{segment, span_end, place, touched, overlaps, is_identity, mapped, unmapped}
use Rattle.definitions.specs.Reckoning.{Compartment}
use Rattle.definitions.specs.Values.{nothing}
use Rattle.definitions.specs.Questions.{ask, accepted, on_overlaps, on_map, on_unmap}
use Rattle.definitions.proofs.Passed.{passed}
use Rattle.definitions.proofs.SegmentLaws.{Good}
use Rattle.definitions.specs.declared.addr.HostAddr.{HostAddr}
use Rattle.definitions.specs.declared.addr.GuestAddr.{GuestAddr}
use Rattle.definitions.specs.declared.remapper.Segment.{Segment}
use Rattle.definitions.specs.declared.answer.Refusal.{Refusal}
use Rattle.definitions.specs.declared.answer.Refusal.TheVariants.{EmptySegment, Overflow, AlreadyAliased, NoSlot}
use Rattle.definitions.specs.Answers.{Answer}
use Rattle.std.specs.Prelude.{Ok, Err}
use Rattle.capability_engine.specs.declared.remapper.Remapper.{Remapper}
use Rattle.capability_engine.specs.declared.remapper.Change.{Change}
use Rattle.capability_engine.specs.declared.remapper.Change.TheVariants.{Keep, Put, Cut}
use Rattle.capability_engine.specs.declared.remapper.Span.{Span}
use Rattle.capability_engine.specs.declared.remapper.Span.TheVariants.{Host}
use Rattle.capability_engine.specs.RemapHeld.{Holds, Sound}
use Rattle.capability_engine.specs.RemapAnswers.{Does, ToPut, ToCut, Decides, on_insert, inserted, Inserts, on_host, CutsOut, can_map}
use Rattle.capability_engine.proofs.RemapLaws.{length-segs}
use Rattle.capability_engine.proofs.RemapParts.{both, bit-byte}
use Rattle.capability_engine.proofs.RemapPlaces.{zip_start, zip-small}

-- ---- questions in order

-- with no no the answer is what follows
pub ask-on : (qs : List (Bool × Refusal)) (x : Answer) → accepted (ask qs (Ok 0)) ≡ true → ask qs x ≡ x
unfolding ask
ask-on [] x h = refl
ask-on (q ∷ qs) x h = go q.0 h (ask-on qs x)
  where
    go : (b : Bool) → accepted (if b then ask qs (Ok 0) else Err q.1) ≡ true
        → (accepted (ask qs (Ok 0)) ≡ true → ask qs x ≡ x) → (if b then ask qs x else Err q.1) ≡ x
    go true k ih = ih k
    go false k ih = absurd (true≢false (sym k))

-- a no among the first is the answer of all
pub ask-no : (qs : List (Bool × Refusal)) (x : Answer) (w : Refusal) → ask qs (Ok 0) ≡ Err w → ask qs x ≡ Err w
unfolding ask
ask-no [] x w h = absurd (true≢false (ap accepted h))
ask-no (q ∷ qs) x w h = go q.0 h (ask-no qs x w)
  where
    go : (b : Bool) → (if b then ask qs (Ok 0) else Err q.1) ≡ Err w
        → (ask qs (Ok 0) ≡ Err w → ask qs x ≡ Err w) → (if b then ask qs x else Err q.1) ≡ Err w
    go true k ih = ih k
    go false k ih = k

-- a call that is refused, and one that is accepted
module _ (self : Remapper) (a : Answer) (ss : List Segment) where
  pub refuses : (x : Answer) (w : Refusal) → x ≡ Err w → a ≡ Err w → Does self a ss self x
  refuses x w e f =
      record { answer = e ∙ sym f; after = λ k. absurd (true≢false (sym k ∙ ap accepted f)); kept = λ k. refl }

  pub accepts : (out : Remapper) → a ≡ Ok 0 → Holds out ss → Does self a ss out (Ok 0)
  accepts out f h =
      record { answer = sym f; after = λ k. h; kept = λ k. absurd (true≢false (sym (ap accepted f) ∙ k)) }

pub fits-yes : (x : ℕ) → x < 2 ^ 64 → fits x ≡ true
unfolding fits
fits-yes x h = lt-ltb x (2 ^ 64) h

pub fits-no : (x : ℕ) → 2 ^ 64 ≤ x → fits x ≡ false
unfolding fits
fits-no x h = le-ltb x (2 ^ 64) h

-- as many slots are in use as there are segments
pub used : (r : Remapper) (ss : List Segment) → Holds r ss → r.list.count ≡ length ss
used r ss h = omega (arith, h.owns.room, length-segs r.segments h.slots, ap length h.read)

-- ---- overlaps

pub overlap-none : (c : Compartment) (g : GuestAddr) (n : ℕ) → g.0 + n < 2 ^ 64 → n ≡ 0 → Ok 0 ≡ on_overlaps c g n
unfolding on_overlaps ask overlaps
overlap-none c g n a z = rw (fits-yes (g.0 + n) a, eq-eqb n 0 z)

pub overlap-says : (c : Compartment) (g : GuestAddr) (n : ℕ) → g.0 + n < 2 ^ 64 → (n ≡ 0 → ⊥) → (y : ℕ) → y ≡ g.0 + n → (b : Bool)
    → b ≡ any (touched g (record { 0 = y })) c.segments → (v : ℕ) → v ≡ bool_byte b → Ok v ≡ on_overlaps c g n
unfolding on_overlaps ask overlaps guest_up
overlap-says c g n a z y q b e v f = rw (fits-yes (g.0 + n) a, ne_eqb n 0 z, ← q, ← e, f, bit-byte b)

-- ---- map_range

module _ (h : HostAddr) (g : GuestAddr) (n t : ℕ) where
  abbrev map_asks : List (Bool × Refusal)
  map_asks =
      ((1 ≤? n) && (1 ≤? t), EmptySegment) ∷ (fits (n * t) && fits (g.0 + n * t) && fits (h.0 + n), Overflow) ∷ []

  module _ (x : Answer) (e : x ≡ can_map h g n t) (v : ℕ) (q : x ≡ Ok v) where
    yes-map : accepted (ask map_asks (Ok 0)) ≡ true
    unfolding can_map
    yes-map = ap accepted (sym e ∙ q)

    -- what a map stores is good
    pub map-good : Good (segment h g n t)
    unfolding fits segment
    map-good =
        let p = (passed map_asks (Ok 0) yes-map).0 in
        let some = both (1 ≤? n) (1 ≤? t) p.0 in
        let fit = both ((n * t <? 2 ^ 64) && (g.0 + n * t <? 2 ^ 64)) (h.0 + n <? 2 ^ 64) p.1.0 in
        let spans = both (n * t <? 2 ^ 64) (g.0 + n * t <? 2 ^ 64) fit.0 in
        record {
          some = leb-true 1 n some.0;
          times = leb-true 1 t some.1;
          host = ltb-true (h.0 + n) (2 ^ 64) fit.1;
          product = ltb-true (n * t) (2 ^ 64) spans.0;
          guest = ltb-true (g.0 + n * t) (2 ^ 64) spans.1;
        }

-- what is asked behind the questions that need no walk
abbrev map_then : Compartment → HostAddr → GuestAddr → ℕ → ℕ → Answer
map_then c h g n t =
    ask ((not (overlaps g (n * t) c.segments), AlreadyAliased) ∷ [])
    (if is_identity h g t then Ok 0 else ask ((length c.segments <? 64, NoSlot) ∷ []) (Ok 0))

module _ (self : Remapper) (c : Compartment) (hold : Holds self c.segments) (h : HostAddr) (g : GuestAddr) (n t : ℕ) (x : Answer) (e : x ≡ can_map h g n t) where
  pub map_first : (w : Refusal) → x ≡ Err w → Does self (on_map c h g n t) (mapped h g n t c.segments) self x
  unfolding on_map can_map ask
  map_first w q = refuses self _ _ x w q (ask-no (map_asks h g n t) (map_then c h g n t) w (sym e ∙ q))

  -- the rest is asked of the segment
  pub map-puts : (v : ℕ) → x ≡ Ok v → (s : Segment) → s ≡ segment h g n t → ToPut self (on_map c h g n t) (mapped h g n t c.segments) s
  unfolding on_map ask segment
  map-puts v q s es = rw es (record {
    good = map-good h g n t x e v q;
    before = c.segments;
    held = hold;
    asks = sym (ask-on (map_asks h g n t) (map_then c h g n t) (yes-map h g n t x e v q));
    leaves = refl;
  })

-- ---- a new segment is put in its place

module _ (self : Remapper) (s : Segment) (good : Good s) (ss : List Segment) (hold : Holds self ss) (z : ℕ) (ez : z ≡ (span_end s).0) where
  -- a span is not empty
  same_end : overlaps s.gpa (s.size * s.repeat) ss ≡ any (touched s.gpa (record { 0 = z })) ss
  unfolding overlaps span_end guest_up
  same_end = rw (ez, ne_eqb (s.size * s.repeat) 0 (λ e. omega (arith, mul-le-mul_left s.size good.times)))

  pub insert-aliased : true ≡ any (touched s.gpa (record { 0 = z })) ss
      → Does self (on_insert s ss) (inserted s ss) self (Err AlreadyAliased)
  unfolding ask
  insert-aliased h = refuses self _ _ _ AlreadyAliased refl (simp (same_end ∙ sym h))

  module _ (off : false ≡ any (touched s.gpa (record { 0 = z })) ss) (i : Bool) (ei : i ≡ is_identity s.hpa s.gpa s.repeat) where
    pub insert-same : i ≡ true → Does self (on_insert s ss) (inserted s ss) self (Ok 0)
    unfolding ask mapped
    insert-same q = accepts self _ _ self (simp (same_end ∙ sym off, sym ei ∙ q)) (simp (sym ei ∙ q) hold)

    module _ (q : i ≡ false) where
      pub insert-full : 64 ≤ self.list.count → Does self (on_insert s ss) (inserted s ss) self (Err NoSlot)
      unfolding ask
      insert-full y =
          let o : (length ss <? 64) ≡ false = le-ltb (length ss) 64 (omega (arith, used self ss hold)) in
          refuses self _ _ _ NoSlot refl (simp (same_end ∙ sym off, sym ei ∙ q, o))

      pub insert-puts : self.list.count < 64 → (out : Remapper) → Holds out (place s ss)
          → Does self (on_insert s ss) (inserted s ss) out (Ok 0)
      unfolding ask mapped segment
      insert-puts y out h =
          let o : (length ss <? 64) ≡ true = lt-ltb (length ss) 64 (omega (arith, used self ss hold)) in
          accepts self _ _ out (simp (same_end ∙ sym off, sym ei ∙ q, o)) (simp (sym ei ∙ q) h)

-- ---- unmap_range

module _ (self : Remapper) (c : Compartment) (hold : Sound self c.segments) (h : HostAddr) (n : ℕ) where
  pub unmap-large : 2 ^ 64 ≤ h.0 + n → Does self (on_unmap c h n) (unmapped h n c.segments) self (Err Overflow)
  unfolding on_unmap ask
  unmap-large a = refuses self _ _ _ Overflow refl (rw (fits-no (h.0 + n) a))

  -- an empty range changes nothing
  pub unmap-none : h.0 + n < 2 ^ 64 → n ≡ 0 → Does self (on_unmap c h n) (unmapped h n c.segments) self (Ok 0)
  unfolding on_unmap ask unmapped
  unmap-none a z =
      let few : length c.segments ≤ 64 = omega (arith, zip-small self 64 self.head [] c.segments (zip_start self c.segments hold.held)) in
      accepts self _ _ self (rw (fits-yes (h.0 + n) a, eq-eqb n 0 z, le-leb (length c.segments) 64 few)) (rw (eq-eqb n 0 z) hold.held)

  -- the rest is asked of the range
  pub unmap-cuts : h.0 + n < 2 ^ 64 → (n ≡ 0 → ⊥) → ToCut self (on_unmap c h n) (unmapped h n c.segments) (Host h (host_up h n))
  unfolding on_unmap on_host ask unmapped host_up
  unmap-cuts a z = record {
    range = omega arith;
    before = c.segments;
    sound = hold;
    asks = rw (fits-yes (h.0 + n) a, ne_eqb n 0 z);
    leaves = rw (ne_eqb n 0 z);
  }

-- a compartment that has this list
abbrev pub holding : List Segment → Compartment
holding ss = record { values = λ x. nothing; segments = ss }

-- ---- a change that a call came to

module _ (self : Remapper) (a : Answer) (ss : List Segment) (r : Change) (d : Decides self a ss r) where
  pub as-put : (s : Segment) → r ≡ Put s → ToPut self a ss s
  as-put s e = subst (Decides self a ss) e d

  pub as-cut : (p : Span) → r ≡ Cut p → ToCut self a ss p
  as-cut p e = subst (Decides self a ss) e d

  pub did-put : (s : Segment) → r ≡ Put s → (out : Remapper) (u : Answer) → Inserts self s out u → Does self a ss out u
  did-put s e out u f =
      let w = as-put s e in rw (w.asks, w.leaves) at (f w.before w.held)

  pub did-cut : (p : Span) → r ≡ Cut p → (out : Remapper) (u : Answer) → CutsOut self p out u → Does self a ss out u
  did-cut p e out u f = let w = as-cut p e in rw (w.asks, w.leaves) at (f w.before w.sound)

  pub did-keep : (x : Answer) → r ≡ Keep x → Does self a ss self x
  did-keep x e = subst (Decides self a ss) e d
