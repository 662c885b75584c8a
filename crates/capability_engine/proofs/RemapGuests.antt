-- unmap_gpa_range: what its first questions answer.
use Prim.Native.Nat.{ℕ, ◌+◌, ◌^◌, ◌<◌}
use mathlib.Core.Path.{◌≡◌, sym, ap, ◌∙◌, refl}
use mathlib.Core.List.{List, [], ◌∷◌}
use mathlib.Core.Bool.{Bool, true, false, ◌||◌, true≢false}
use native.Mathlib.Omega.{arith}
use lib.ListN.{length}
use borrow.Author.Tests.{leb-true, leb-false, ltb-true, eq-eqb, ne_eqb, eqb-true, eqb-false}
use Rattle.definitions.specs.Tests.{◌≤?◌, ◌=?◌, fits, guest_up}
use Rattle.definitions.specs.Segments.{place_all, unmapped_gpa}
use Rattle.definitions.specs.Reckoning.{Compartment}
use Rattle.definitions.specs.Questions.{ask, value_of, on_unmap_gpa}
use Rattle.definitions.specs.declared.addr.GuestAddr.{GuestAddr}
use Rattle.definitions.specs.declared.remapper.Segment.{Segment}
use Rattle.definitions.specs.declared.answer.Refusal.TheVariants.{Overflow}
use Rattle.definitions.specs.Answers.{Answer}
use Rattle.std.specs.Prelude.{Ok, Err}
use Rattle.capability_engine.specs.declared.remapper.Remapper.{Remapper}
use Rattle.capability_engine.specs.declared.remapper.Span.TheVariants.{Guest}
use Rattle.capability_engine.specs.RemapHeld.{Holds, Sound}
use Rattle.capability_engine.specs.RemapAnswers.{Does, ToCut, on_span, cut_to, can_start}
use Rattle.capability_engine.proofs.RemapParts.{or-false}
use Rattle.capability_engine.proofs.RemapWalks.{some-start, some_end, some-open}
use Rattle.capability_engine.proofs.RemapCalls.{refuses, accepts, fits-yes}

-- ---- with nothing to do

-- the head tells whether the list is empty
pub empty-list : (r : Remapper) (ss : List Segment) → Holds r ss → (64 ≤? r.head) ≡ (length ss =? 0)
empty-list r ss h = go (64 ≤? r.head) refl
  where
    go : (b : Bool) → (64 ≤? r.head) ≡ b → b ≡ (length ss =? 0)
    go true d = sym (eq-eqb (length ss) 0 (ap length (some_end r r.head ss (some-start r ss h) (leb-true 64 r.head d))))
    go false d =
        let o = some-open r r.head ss (some-start r ss h) (leb-false 64 r.head d) in
        sym (ne_eqb (length ss) 0 (λ q. omega (arith, ap length o.are)))

cut-none : (a e : GuestAddr) (ss : List Segment) → (length ss =? 0) ≡ true → cut_to (Guest a e) ss ≡ ss
unfolding place_all
cut-none a e [] z = refl
cut-none a e (s ∷ ss) z = absurd (omega (arith, eqb-true (length (s ∷ ss)) 0 z))

left : (g : GuestAddr) (n : ℕ) (ss : List Segment) → (n =? 0) ≡ false → unmapped_gpa g n ss ≡ cut_to (Guest g (guest_up g n)) ss
unfolding unmapped_gpa
left g n ss e = rw e

fits_told : (x : ℕ) → fits x ≡ true → x < 2 ^ 64
unfolding fits
fits_told x e = ltb-true x (2 ^ 64) e

-- the questions from 15 on are the rest
gpa-is : (c : Compartment) (g : GuestAddr) (n : ℕ) → ((length c.segments =? 0) || (n =? 0)) ≡ false → g.0 + n < 2 ^ 64
    → unmapped_gpa g n c.segments ≡ cut_to (Guest g (guest_up g n)) c.segments → on_unmap_gpa c g n ≡ on_span c.segments g (guest_up g n)
unfolding on_unmap_gpa on_span ask
gpa-is c g n z a u = rw (z, fits-yes (g.0 + n) a, u)

-- what the start can answer
data Start (empty : Bool) (g : GuestAddr) (n : ℕ) : Type 0 where
  nothing : (empty || (n =? 0)) ≡ true → can_start empty g n ≡ Ok 0 → Start empty g n
  large : (empty || (n =? 0)) ≡ false → fits (g.0 + n) ≡ false → can_start empty g n ≡ Err Overflow → Start empty g n
  goes_on : (empty || (n =? 0)) ≡ false → g.0 + n < 2 ^ 64 → can_start empty g n ≡ Ok 1 → Start empty g n

start? : (empty : Bool) (g : GuestAddr) (n : ℕ) → Start empty g n
unfolding can_start ask
start? empty g n = go (empty || (n =? 0)) refl (fits (g.0 + n)) refl
  where
    go : (b : Bool) → (empty || (n =? 0)) ≡ b → (t : Bool) → fits (g.0 + n) ≡ t → Start empty g n
    go true p t q = nothing p (rw p)
    go false p true q = goes_on p (fits_told (g.0 + n) q) (rw (p, q))
    go false p false q = large p q (rw (p, q))

module _ (self : Remapper) (c : Compartment) (hold : Holds self c.segments) (g : GuestAddr) (n : ℕ) (x : Answer) (q : x ≡ can_start (64 ≤? self.head) g n) (v : ℕ) (y : v ≡ value_of x) where
  asked : (b : Bool) → ((64 ≤? self.head) || (n =? 0)) ≡ b → ((length c.segments =? 0) || (n =? 0)) ≡ b
  asked b e = ap (λ t. t || (n =? 0)) (sym (empty-list self c.segments hold)) ∙ e

  still : ((length c.segments =? 0) || (n =? 0)) ≡ true → unmapped_gpa g n c.segments ≡ c.segments
  unfolding unmapped_gpa
  still t = go (n =? 0) refl (length c.segments =? 0) refl t
    where
      go : (b : Bool) → (n =? 0) ≡ b → (d : Bool) → (length c.segments =? 0) ≡ d → (d || b) ≡ true → unmapped_gpa g n c.segments ≡ c.segments
      go true p d r z = simp p
      go false p true r z = simp p (cut-none g (guest_up g n) c.segments r)
      go false p false r z = absurd (true≢false (sym z))

  -- it answers, and nothing changes
  pub gpa-early : (v ≡ 1 → ⊥) → Does self (on_unmap_gpa c g n) (unmapped_gpa g n c.segments) self x
  unfolding on_unmap_gpa ask
  gpa-early z = go (start? (64 ≤? self.head) g n)
    where
      go : Start (64 ≤? self.head) g n → Does self (on_unmap_gpa c g n) (unmapped_gpa g n c.segments) self x
      go (nothing p e) =
          let t = asked true p in rw (q ∙ e) (accepts self _ _ self (rw t) (rw (still t) hold))
      go (large p f e) = refuses self _ _ x Overflow (q ∙ e) (rw (asked false p, f))
      go (goes_on p a e) = absurd (z (y ∙ ap value_of (q ∙ e)))

  record Going : Type 0 where
    asks : ((length c.segments =? 0) || (n =? 0)) ≡ false
    fit : g.0 + n < 2 ^ 64

  going : v ≡ 1 → Going
  going z = go (start? (64 ≤? self.head) g n)
    where
      go : Start (64 ≤? self.head) g n → Going
      go (nothing p e) = absurd (omega (arith, z, y ∙ ap value_of (q ∙ e)))
      go (large p f e) = absurd (omega (arith, z, y ∙ ap value_of (q ∙ e)))
      go (goes_on p a e) = record { asks = asked false p; fit = a }

  pub gpa-fits : v ≡ 1 → g.0 + n < 2 ^ 64
  gpa-fits z = (going z).fit

  -- or the questions from 15 on are the rest
  pub gpa-cuts : Sound self c.segments → v ≡ 1 → ToCut self (on_unmap_gpa c g n) (unmapped_gpa g n c.segments) (Guest g (guest_up g n))
  unfolding guest_up
  gpa-cuts w z =
      let t = (going z).asks in
      let some : (n =? 0) ≡ false = (or-false (length c.segments =? 0) (n =? 0) t).1 in
      let u : unmapped_gpa g n c.segments ≡ cut_to (Guest g (guest_up g n)) c.segments = left g n c.segments some in
      record {
        range = omega (arith, eqb-false n 0 some);
        before = c.segments;
        sound = w;
        asks = sym (gpa-is c g n t (going z).fit u);
        leaves = sym u;
      }
