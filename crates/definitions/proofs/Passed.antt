-- An accepted call passed each question that it was asked.
use Rattle.std.specs.Prelude.{if◌then◌else◌}
use Prim.Native.Nat.{ℕ, ◌+◌, ◌*◌, ◌^◌, ◌<◌, ◌≤◌}
use mathlib.Core.Path.{◌≡◌, refl, sym}
use mathlib.Core.Bool.{Bool, true, false, true≢false, not, ◌&&◌, ◌||◌}
use mathlib.Core.List.{List, [], ◌∷◌}
use lib.ListN.{length}
use borrow.Author.Tests.{ltb-true, leb-true, lt-ltb, le-leb}
use Rattle.definitions.specs.Tests.{◌<?◌, ◌≤?◌, ◌=?◌, fits, guest_up, any, keep}
use Rattle.definitions.specs.Regions.{regions, new_records}
use Rattle.definitions.specs.Segments.{segment, overlaps, is_identity, unmapped, touched, span_inside, unmapped_gpa}
use Rattle.definitions.specs.Reckoning.{Compartment}
use Rattle.definitions.specs.Questions.{ask, accepted, in_use, can_raise, cuts_fit, begun, last_end, can_lower, ranged, on_add, on_remove, on_map, on_unmap, on_unmap_gpa, on_allow}
use Rattle.definitions.specs.declared.addr.HostAddr.{HostAddr}
use Rattle.definitions.specs.declared.addr.GuestAddr.{GuestAddr}
use Rattle.definitions.specs.declared.answer.Refusal.{Refusal}
use Rattle.definitions.specs.declared.answer.Refusal.TheVariants.{InvalidMemOps, InvalidRange, NoSlot}
use Rattle.definitions.specs.Answers.{Answer}
use Rattle.std.specs.Prelude.{Ok, Err}
use Rattle.definitions.proofs.SegmentLaws.{Good, Singles}
use Rattle.definitions.proofs.Bools.{both}

abbrev pub Passed : List (Bool × Refusal) → Type 0
Passed [] = Unit {0}
Passed (q ∷ qs) = (q.0 ≡ true) × Passed qs

-- the questions, and what the answer is with no no
pub passed : (qs : List (Bool × Refusal)) (x : Answer) → accepted (ask qs x) ≡ true → Passed qs × (accepted x ≡ true)
unfolding ask
passed [] x h = (tt, h)
passed (q ∷ qs) x h = go q.0 refl h (λ k. passed qs x k)
  where
    go : (b : Bool) → q.0 ≡ b → accepted (if b then ask qs x else Err q.1) ≡ true
        → (accepted (ask qs x) ≡ true → Passed qs × (accepted x ≡ true)) → Passed (q ∷ qs) × (accepted x ≡ true)
    go true d k ih = let p = ih k in ((d, p.0), p.1)
    go false d k ih = absurd (true≢false (sym k))

-- and the other way round
pub asked : (qs : List (Bool × Refusal)) (x : Answer) → Passed qs → accepted x ≡ true → accepted (ask qs x) ≡ true
unfolding ask
asked [] x p h = h
asked (q ∷ qs) x p h = simp p.0 (asked qs x p.1 h)

pub ranged-asked : (a e : HostAddr) (r : ℕ) (x : Answer) → r < 64 → a.0 ≤ e.0 → ((a.0 =? e.0) ≡ false → accepted x ≡ true)
    → accepted (ranged a e r x) ≡ true
unfolding ranged
ranged-asked a e r x l i h = asked _ _ (lt-ltb r 64 l, (le-leb a.0 e.0 i, tt)) (go (a.0 =? e.0) refl)
  where
    go : (t : Bool) → (a.0 =? e.0) ≡ t → accepted (if a.0 =? e.0 then Ok 0 else x) ≡ true
    go true d = simp d
    go false d = simp d (h d)

-- What each accepted call that changes something passed, as facts of numbers

module _ (m : ℕ) (c : Compartment) (a e : HostAddr) (r : ℕ) where
  pub record AddPassed : Type 0 where
    pub rights : r < 64
    pub range : a.0 ≤ e.0
    -- not asked of an empty range
    pub counts : (a.0 =? e.0) ≡ false → can_raise a e r c.values ≡ true
    pub records : (a.0 =? e.0) ≡ false → in_use c + new_records a e c.values ≤ m

  pub record RemovePassed : Type 0 where
    pub rights : r < 64
    pub range : a.0 ≤ e.0
    pub begins : (a.0 =? e.0) ≡ false → 1 ≤ length (begun a (regions c.values))
    pub reaches : (a.0 =? e.0) ≡ false → a.0 < last_end 0 (begun a (regions c.values))
    pub records : (a.0 =? e.0) ≡ false → cuts_fit (in_use c) m a e (regions c.values) ≡ true
    pub counts : (a.0 =? e.0) ≡ false → can_lower a e r (regions c.values) ≡ true

  -- the two questions before, and the others unless the range is empty
  ranged-passed : (x : Answer) → accepted (ranged a e r x) ≡ true
      → (r < 64) × (a.0 ≤ e.0) × ((a.0 =? e.0) ≡ false → accepted x ≡ true)
  unfolding ranged
  ranged-passed x h =
      let p = passed ((r <? 64, InvalidMemOps) ∷ (a.0 ≤? e.0, InvalidRange) ∷ []) (if a.0 =? e.0 then Ok 0 else x) h in
      (ltb-true r 64 p.0.0, leb-true a.0 e.0 p.0.1.0, λ d. simp d at p.1)

  pub add-passed : accepted (on_add m c a e r) ≡ true → AddPassed
  unfolding on_add
  add-passed h =
      let p = ranged-passed _ h in
      record {
        rights = p.0;
        range = p.1;
        counts = λ d. (passed _ _ (p.2 d)).0.0;
        records = λ d. leb-true (in_use c + new_records a e c.values) m (passed _ _ (p.2 d)).0.1.0;
      }

  pub remove-passed : accepted (on_remove m c a e r) ≡ true → RemovePassed
  unfolding on_remove
  remove-passed h =
      let p = ranged-passed _ h in
      record {
        rights = p.0;
        range = p.1;
        begins = λ d. leb-true 1 (length (begun a (regions c.values))) (passed _ _ (p.2 d)).0.0;
        reaches = λ d. ltb-true a.0 (last_end 0 (begun a (regions c.values))) (passed _ _ (p.2 d)).0.1.0;
        records = λ d. (passed _ _ (p.2 d)).0.1.1.0;
        counts = λ d. (passed _ _ (p.2 d)).0.1.1.1.0;
      }

pub record MapPassed (c : Compartment) (h : HostAddr) (g : GuestAddr) (n t : ℕ) : Type 0 where
  pub good : Good (segment h g n t)
  pub apart : overlaps g (n * t) c.segments ≡ false
  pub slot : is_identity h g t ≡ false → length c.segments < 64

not-true : (b : Bool) → not b ≡ true → b ≡ false
not-true true z = absurd (true≢false (sym z))
not-true false z = refl

pub map-passed : (c : Compartment) (h : HostAddr) (g : GuestAddr) (n t : ℕ) → accepted (on_map c h g n t) ≡ true
    → MapPassed c h g n t
unfolding on_map fits segment
map-passed c h g n t k =
    let p = passed _ _ k in
    let some = both (1 ≤? n) (1 ≤? t) p.0.0 in
    let fit = both ((n * t <? 2 ^ 64) && (g.0 + n * t <? 2 ^ 64)) (h.0 + n <? 2 ^ 64) p.0.1.0 in
    let spans = both (n * t <? 2 ^ 64) (g.0 + n * t <? 2 ^ 64) fit.0 in
    record {
      good = record {
        some = leb-true 1 n some.0;
        times = leb-true 1 t some.1;
        host = ltb-true (h.0 + n) (2 ^ 64) fit.1;
        product = ltb-true (n * t) (2 ^ 64) spans.0;
        guest = ltb-true (g.0 + n * t) (2 ^ 64) spans.1;
      };
      apart = not-true (overlaps g (n * t) c.segments) p.0.1.1.0;
      slot = λ d.
          let last : accepted (ask ((length c.segments <? 64, NoSlot) ∷ []) (Ok 0)) ≡ true = simp d at p.1 in
          ltb-true (length c.segments) 64 (passed _ _ last).0.0;
    }

pub record UnmapPassed (c : Compartment) (h : HostAddr) (n : ℕ) : Type 0 where
  pub fit : h.0 + n < 2 ^ 64
  pub slot : length (unmapped h n c.segments) ≤ 64

pub unmap-passed : (c : Compartment) (h : HostAddr) (n : ℕ) → accepted (on_unmap c h n) ≡ true → UnmapPassed c h n
unfolding on_unmap fits
unmap-passed c h n k =
    let p = (passed _ _ k).0 in
    record {
      fit = ltb-true (h.0 + n) (2 ^ 64) p.0;
      slot = leb-true (length (unmapped h n c.segments)) 64 p.1.0;
    }

-- not asked with no segment or of size 0
pub record UnmapGpaPassed (c : Compartment) (g : GuestAddr) (n : ℕ) : Type 0 where
  pub fit : g.0 + n < 2 ^ 64
  pub single : Singles g (guest_up g n) c.segments
  pub alone : (not (any (span_inside g (guest_up g n)) c.segments) || (length (keep (touched g (guest_up g n)) c.segments) =? 1)) ≡ true
  pub slot : length (unmapped_gpa g n c.segments) ≤ 64

pub unmap_gpa-passed : (c : Compartment) (g : GuestAddr) (n : ℕ) → accepted (on_unmap_gpa c g n) ≡ true
    → ((length c.segments =? 0) || (n =? 0)) ≡ false → UnmapGpaPassed c g n
unfolding on_unmap_gpa fits
unmap_gpa-passed c g n k d =
    let asked : _ = simp d at k in
    let p = (passed _ _ asked).0 in
    record {
      fit = ltb-true (g.0 + n) (2 ^ 64) p.0;
      single = p.1.0;
      alone = p.1.1.0;
      slot = leb-true (length (unmapped_gpa g n c.segments)) 64 p.1.1.1.0;
    }

pub record AllowPassed (others : ℕ) (c : Compartment) (n : ℕ) : Type 0 where
  pub fit : others + n ≤ 1024
  pub enough : in_use c ≤ n

pub allow-passed : (others : ℕ) (c : Compartment) (n : ℕ) → accepted (on_allow others c n) ≡ true → AllowPassed others c n
unfolding on_allow
allow-passed others c n k =
    let p = (passed _ _ k).0 in
    record { fit = leb-true (others + n) 1024 p.0; enough = leb-true (in_use c) n p.1.0 }
