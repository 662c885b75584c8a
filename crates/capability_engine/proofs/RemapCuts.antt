-- A range is cut out: the loop that asks, the answer, and the loop that puts in the parts that are moved up.
use Rattle.std.specs.Prelude.{Option, None, Some as Kept, option_to_list, if◌then◌else◌}
use Prim.Native.Nat.{ℕ, suc, ◌+◌, ◌<◌, ◌≤◌}
use mathlib.Core.Path.{◌≡◌, refl, sym, ap, ◌∙◌}
use mathlib.Core.List.{List, [], ◌∷◌, ◌++◌, append_assoc, append-nil}
use mathlib.Core.Bool.{Bool, true, false, not, ◌||◌}
use native.Mathlib.Omega.{arith}
use lib.ListN.{length, length-append}
use borrow.Author.Tests.{leb-true}
use Rattle.definitions.specs.Tests.{◌<?◌, ◌≤?◌, ◌=?◌, bit, all, any, keep, each}
use Rattle.definitions.specs.Segments.{in_order, rest, touched, span_whole}
use Rattle.definitions.specs.Questions.{ask, accepted}
use Rattle.definitions.proofs.Passed.{passed}
use Rattle.definitions.proofs.SegmentLaws.{Good, AllGood, Singles}
use Rattle.definitions.proofs.GuestLaws.{others-untouched}
use Rattle.definitions.proofs.WalkLaws.{lead, lead_all, Every, every_more, every-each, Rising, lefts-rising, leads-between, left-stays, host_left, host_rear, span_left, span_rear, host-at, host-led, span-led, one-rear}
use Rattle.definitions.specs.declared.addr.HostAddr.{HostAddr}
use Rattle.definitions.specs.declared.addr.GuestAddr.{GuestAddr}
use Rattle.definitions.specs.declared.remapper.Segment.{Segment}
use Rattle.definitions.specs.declared.answer.Refusal.{Refusal}
use Rattle.definitions.specs.declared.answer.Refusal.TheVariants.{Repeated, NoSlot}
use Rattle.definitions.specs.Answers.{Answer}
use Rattle.std.specs.Prelude.{Ok, Err}
use Rattle.capability_engine.specs.declared.remapper.Remapper.{Remapper}
use Rattle.capability_engine.specs.declared.remapper.Asked.{Asked}
use Rattle.capability_engine.specs.declared.remapper.Span.{Span}
use Rattle.capability_engine.specs.declared.remapper.Span.TheVariants.{Host, Guest}
use Rattle.capability_engine.specs.RemapHeld.{no_segment, Holds, Sound, Zip, behind, ahead}
use Rattle.capability_engine.specs.RemapListing.{Some}
use Rattle.capability_engine.specs.RemapAsking.{in_range, reach_of, left_of, rear_of, leaves, stays, moves, repeats, bad_for, last_of, none_asked, ask_step}
use Rattle.capability_engine.specs.RemapSteps.{ZipOver, HasRoom, Told, Between}
use Rattle.capability_engine.specs.RemapAnswers.{Does, on_host, on_span, on_cut, cut_to, Builds, can_cut}
use Rattle.capability_engine.proofs.RemapPlaces.{zip-small, zip_start, zip-holds, zip-many}
use Rattle.capability_engine.proofs.RemapParts.{or-none, not_so, or-false, left-listed, left-many, left-good, rear-listed, rear-many, rear-good}
use Rattle.capability_engine.proofs.RemapWalks.{segment-at, next_of, Open, some-start, some_end, some-open, some-less, some_next, last_below, below-snoc, between}
use Rattle.capability_engine.proofs.RemapLaws.{good-append}
use Rattle.capability_engine.proofs.RemapCalls.{ask-on, refuses, accepts}

or_assoc : (a b c : Bool) → ((a || b) || c) ≡ (a || (b || c))
or_assoc true b c = refl
or_assoc false b c = refl

bit-small : (b : Bool) → bit b ≤ 1
bit-small true = omega arith
bit-small false = omega arith

-- ---- the walk that asks: those before slot at are counted

pub record Asks (r : Remapper) (p : Span) (k : Asked) (at : ℕ) (ss : List Segment) : Type 0 where
  pub left : List Segment
  pub rest : Some r at left
  pub gone : ℕ
  pub many : gone + length left ≡ length ss
  pub few : length ss ≤ 64
  pub stay : k.left + length (each (left_of p) left) ≡ length (each (left_of p) ss)
  pub stay-few : k.left ≤ gone
  pub moved : k.moved + length (each (rear_of p) left) ≡ length (each (rear_of p) ss)
  pub moved-few : k.moved ≤ gone
  pub up : last_of (each (rear_of p) left) k.up ≡ last_of (each (rear_of p) ss) no_segment
  pub bad : (k.bad || any (bad_for p) left) ≡ any (bad_for p) ss

pub asks-start : (r : Remapper) (p : Span) (ss : List Segment) → Holds r ss → Asks r p none_asked r.head ss
asks-start r p ss h =
    let w = some-start r ss h in
    record {
      left = ss;
      rest = w;
      gone = 0;
      many = omega arith;
      few = omega (arith, zip-small r w.prev r.head w.done ss w.zip);
      stay = omega arith;
      stay-few = omega arith;
      moved = omega arith;
      moved-few = omega arith;
      up = refl;
      bad = refl;
    }

last-append : (ss ts : List Segment) (d : Segment) → last_of (ss ++ ts) d ≡ last_of ts (last_of ss d)
last-append [] ts d = refl
last-append (s ∷ ss) ts d = last-append ss ts s

module _ (r : Remapper) (p : Span) (k : Asked) (at : ℕ) (ss : List Segment) (w : Asks r p k at ss) where
  module _ (l : at < 64) where
    opened : Open r at w.left
    opened = some-open r at w.left w.rest l

    pub asks-good : Good (segment-at r at)
    asks-good = opened.good

    pub asks-left : k.left < 64
    asks-left = omega (arith, w.many, w.few, w.stay-few, ap length opened.are)

    pub asks-moved : k.moved < 64
    asks-moved = omega (arith, w.many, w.few, w.moved-few, ap length opened.are)

    pub asks-on : (k2 : Asked) → k2 ≡ ask_step p k (segment-at r at) → Asks r p k2 (next_of r at) ss
    unfolding ask_step
    asks-on k2 e =
        let s : Segment = segment-at r at in
        let us : List Segment = opened.more in
        rw e (record {
          left = us;
          rest = opened.on;
          gone = suc w.gone;
          many = omega (arith, w.many, ap length opened.are);
          few = w.few;
          stay = omega (arith, w.stay, ap (λ q. length (each (left_of p) q)) opened.are, length-append (left_of p s) (each (left_of p) us));
          stay-few = omega (arith, w.stay-few, left-many p s, bit-small (stays (reach_of p s)));
          moved = omega (arith, w.moved, ap (λ q. length (each (rear_of p) q)) opened.are, length-append (rear_of p s) (each (rear_of p) us));
          moved-few = omega (arith, w.moved-few, rear-many p s, bit-small (moves (reach_of p s) s));
          up = sym (last-append (rear_of p s) (each (rear_of p) us) k.up) ∙ sym (ap (λ q. last_of (each (rear_of p) q) k.up) opened.are) ∙ w.up;
          bad = or_assoc k.bad (bad_for p s) (any (bad_for p) us) ∙ sym (ap (λ q. k.bad || any (bad_for p) q) opened.are) ∙ w.bad;
        })

  pub asks-end : 64 ≤ at → Told p k ss
  asks-end l =
      let e : w.left ≡ [] = some_end r at w.left w.rest l in
      record {
        stay = omega (arith, w.stay, ap (λ q. length (each (left_of p) q)) e);
        stay-few = omega (arith, w.many, w.few, w.stay-few, ap length e);
        moved = omega (arith, w.moved, ap (λ q. length (each (rear_of p) q)) e);
        moved-few = omega (arith, w.many, w.few, w.moved-few, ap length e);
        up = sym (ap (λ q. last_of (each (rear_of p) q) k.up) e) ∙ w.up;
        bad = sym (or-none k.bad) ∙ sym (ap (λ q. k.bad || any (bad_for p) q) e) ∙ w.bad;
      }

-- ---- the answer

length-lead : (s : Segment) (ts : List Segment) → length (lead s ts) ≡ suc (length ts)
unfolding lead
length-lead s [] = refl
length-lead s (t ∷ ts) = go (t.hpa.0 <? s.hpa.0) refl (length-lead s ts)
  where
    go : (b : Bool) → (t.hpa.0 <? s.hpa.0) ≡ b → length (lead s ts) ≡ suc (length ts) → length (lead s (t ∷ ts)) ≡ suc (suc (length ts))
    go true d ih = simp d (omega arith)
    go false d ih = simp d

length-leads : (ss ts : List Segment) → length (lead_all ss ts) ≡ length ss + length ts
unfolding lead_all
length-leads [] ts = omega arith
length-leads (s ∷ ss) ts = omega (arith, length-lead s (lead_all ss ts), length-leads ss ts)

-- what stays, and the moved parts before their equals, the last first
cut-is : (p : Span) (ss : List Segment) → in_order ss ≡ true → cut_to p ss ≡ lead_all (each (rear_of p) ss) (each (left_of p) ss)
unfolding left_of rear_of reach_of host_left host_rear span_left span_rear
cut-is (Host a e) ss o = host-led a e ss o
cut-is (Guest a e) ss o = span-led a e ss o

host-fine : (a e : HostAddr) (ss : List Segment) → any (bad_for (Host a e)) ss ≡ false
unfolding bad_for
host-fine a e [] = refl
host-fine a e (s ∷ ss) = host-fine a e ss

-- question 15
fifteen : (a e : GuestAddr) (ss : List Segment) → all (λ s. span_whole a e s || (s.repeat =? 1)) (keep (touched a e) ss) ≡ not (any (bad_for (Guest a e)) ss)
unfolding bad_for repeats
fifteen a e [] = refl
fifteen a e (s ∷ ss) = go (touched a e s) refl (span_whole a e s) refl (s.repeat =? 1) refl (fifteen a e ss)
  where
    go : (t : Bool) → touched a e s ≡ t → (g : Bool) → span_whole a e s ≡ g → (r : Bool) → (s.repeat =? 1) ≡ r
        → all (λ s. span_whole a e s || (s.repeat =? 1)) (keep (touched a e) ss) ≡ not (any (bad_for (Guest a e)) ss)
        → all (λ s. span_whole a e s || (s.repeat =? 1)) (keep (touched a e) (s ∷ ss)) ≡ not (any (bad_for (Guest a e)) (s ∷ ss))
    go true d true f r h ih = simp (d, f) ih
    go true d false f true h ih = simp (d, f, h) ih
    go true d false f false h ih = simp (d, f, h)
    go false d g f r h ih = simp d ih

module _ (self : Remapper) (ss : List Segment) (sound : Sound self ss) (k : Asked) where
  -- so many remain
  remain : (p : Span) → Told p k ss → length (cut_to p ss) ≡ k.left + k.moved
  remain p w =
      omega
      (arith, w.stay, w.moved, ap length (cut-is p ss sound.order), length-leads (each (rear_of p) ss) (each (left_of p) ss))

  -- behind 15, question 16 gets a yes
  answer-is : (p : Span) → in_range p → Told p k ss → on_cut p ss ≡ can_cut k
  unfolding on_host on_span can_cut ask
  answer-is (Host a e) l w = rw (remain (Host a e) w, w.bad ∙ host-fine a e ss)
  answer-is (Guest a e) l w = go (any (bad_for (Guest a e)) ss) refl
    where
      go : (b : Bool) → any (bad_for (Guest a e)) ss ≡ b → on_cut (Guest a e) ss ≡ can_cut k
      go true d = rw (w.bad, fifteen a e ss, d)
      go false d =
          let o : Singles a e ss = fifteen a e ss ∙ ap not d in
          rw (others-untouched a e l ss sound.held.good sound.unshared o, fifteen a e ss, remain (Guest a e) w, w.bad)

module _ (self : Remapper) (p : Span) (l : in_range p) (ss : List Segment) (sound : Sound self ss) (k : Asked) (w : Told p k ss)
    (x : Answer) (q : x ≡ can_cut k) where
  pub cut-refused : (z : Refusal) → x ≡ Err z → Does self (on_cut p ss) (cut_to p ss) self x
  cut-refused z y = refuses self _ _ x z y (answer-is self ss sound k p l w ∙ sym q ∙ y)

  module _ (v : ℕ) (y : x ≡ Ok v) where
    abbrev asked : List (Bool × Refusal)
    asked = (not k.bad, Repeated) ∷ (k.left + k.moved ≤? 64, NoSlot) ∷ []

    yes-cut : accepted (ask asked (Ok 0)) ≡ true
    unfolding can_cut
    yes-cut = ap accepted (sym q ∙ y)

    pub cut-clean : any (bad_for p) ss ≡ false
    cut-clean = sym w.bad ∙ not_so k.bad (passed asked (Ok 0) yes-cut).0.0

    pub cut-room : k.left + k.moved ≤ 64
    cut-room = leb-true (k.left + k.moved) 64 (passed asked (Ok 0) yes-cut).0.1.0

    pub cut-done : (out : Remapper) → Holds out (cut_to p ss) → Does self (on_cut p ss) (cut_to p ss) out (Ok 0)
    unfolding can_cut
    cut-done out h = accepts self _ _ out (answer-is self ss sound k p l w ∙ ask-on asked (Ok 0) yes-cut) h

-- ---- the moved parts go in, one behind the other

-- what is left is in order
pub lefts-in-order : (p : Span) (ss : List Segment) → in_order ss ≡ true → Rising (each (left_of p) ss)
unfolding left_of
lefts-in-order p = lefts-rising (left_of p) (λ s. left-stays (reach_of p s).touches (reach_of p s).from s)

last-same : (n : ℕ) (us : List Segment) → Every (λ u. u.hpa.0 ≡ n) us → (d : Segment) → d.hpa.0 ≡ n → (last_of us d).hpa.0 ≡ n
last-same n [] h d e = e
last-same n (u ∷ us) h d e = last-same n us h.1 u h.0

all-at : (n : ℕ) (us : List Segment) → Every (λ u. u.hpa.0 ≡ n) us → Every (λ u. u.hpa.0 ≡ (last_of us no_segment).hpa.0) us
all-at n [] h = tt
all-at n (u ∷ us) h = let e = last-same n us h.1 u h.0 in every_more _ _ (λ v q. q ∙ sym e) (u ∷ us) h

one_at : (us : List Segment) → length us ≤ 1 → Every (λ u. u.hpa.0 ≡ (last_of us no_segment).hpa.0) us
one_at [] l = tt
one_at (u ∷ []) l = (refl, tt)
one_at (u ∷ v ∷ us) l = absurd (omega arith)

-- all that one range moves up goes to one address
one_place : (self : Remapper) (p : Span) → in_range p → (ss : List Segment) → Sound self ss → any (bad_for p) ss ≡ false
    → Every (λ u. u.hpa.0 ≡ (last_of (each (rear_of p) ss) no_segment).hpa.0) (each (rear_of p) ss)
unfolding rear_of reach_of host_rear span_rear
one_place self (Host a e) l ss sound n = all-at e.0 (each (host_rear a e) ss) (every-each _ (host_rear a e) (host-at a e) ss)
one_place self (Guest a e) l ss sound n =
    one_at (each (span_rear a e) ss) (one-rear a e l ss sound.held.good sound.unshared (fifteen a e ss ∙ ap not n))

-- so they go between what is below it and what is not
placed : (self : Remapper) (p : Span) → in_range p → (ss : List Segment) → Sound self ss → any (bad_for p) ss ≡ false → (u : Segment)
    → u ≡ last_of (each (rear_of p) ss) no_segment → (r : Remapper) (last : ℕ) (b : Between r u.hpa.0 last (each (left_of p) ss))
    → b.low ++ (each (rear_of p) ss ++ b.high) ≡ cut_to p ss
placed self p l ss sound n u e r last b =
    let rears : List Segment = each (rear_of p) ss in
    let at : Every (λ v. v.hpa.0 ≡ u.hpa.0) rears = every_more _ _ (λ v q. q ∙ sym (ap (λ t. t.hpa.0) e)) rears (one_place self p l ss sound n) in
    sym (leads-between u.hpa.0 rears b.low b.high at b.below b.above) ∙ ap (lead_all rears) (sym b.are) ∙ sym (cut-is p ss sound.order)

none_of : (us : List Segment) → length us ≡ 0 → us ≡ []
none_of [] e = refl
none_of (u ∷ us) e = absurd (omega arith)

one_of : (us : List Segment) (d : Segment) → length us ≡ 1 → us ≡ last_of us d ∷ []
one_of [] d e = absurd (omega arith)
one_of (u ∷ []) d e = refl
one_of (u ∷ v ∷ us) d e = absurd (omega arith)

rears-good : (p : Span) (ss : List Segment) → AllGood ss → AllGood (each (rear_of p) ss)
rears-good p [] g = tt
rears-good p (s ∷ ss) g = good-append (rear_of p s) (each (rear_of p) ss) (rw (rear-listed p s) (go (moves (reach_of p s) s) refl)) (rears-good p ss g.1)
  where
    go : (b : Bool) → moves (reach_of p s) s ≡ b → AllGood (if b then rest (reach_of p s).to s ∷ [] else [])
    go true d = (rear-good p s g.0 d, tt)
    go false d = tt

-- ---- at most one is moved: it goes in behind the last with a lower host address

module _ (self : Remapper) (p : Span) (l : in_range p) (ss : List Segment) (sound : Sound self ss) (k : Asked) (w : Told p k ss)
    (x : Answer) (q : x ≡ can_cut k) (v : ℕ) (y : x ≡ Ok v) where
  pub cut-builds : Builds p k.up ss
  cut-builds =
      record {
        fine = cut-clean self p l ss sound k w x q v y;
        few = omega (arith, cut-room self p l ss sound k w x q v y, remain self ss sound k p w);
        last = w.up;
      }

  module _ (r : Remapper) (last : ℕ) (b : Between r k.up.hpa.0 last (each (left_of p) ss)) where
    in_place : b.low ++ (each (rear_of p) ss ++ b.high) ≡ cut_to p ss
    in_place = placed self p l ss sound (cut-clean self p l ss sound k w x q v y) k.up w.up r last b

    pub cut-none : k.moved < 1 → Does self (on_cut p ss) (cut_to p ss) r (Ok 0)
    cut-none m =
        let e : each (rear_of p) ss ≡ [] = none_of (each (rear_of p) ss) (omega (arith, w.moved)) in
        let h : b.low ++ b.high ≡ cut_to p ss = sym (ap (λ t. b.low ++ (t ++ b.high)) e) ∙ in_place in
        cut-done self p l ss sound k w x q v y r (rw h at (zip-holds r last _ b.low b.high b.zip))

    module _ (m : 1 ≤ k.moved) (f : k.moved ≤ 1) where
      one : each (rear_of p) ss ≡ k.up ∷ []
      one = one_of (each (rear_of p) ss) no_segment (omega (arith, w.moved)) ∙ ap (λ u. u ∷ []) (sym w.up)

      pub one-good : Good k.up
      one-good = (rw one at (rears-good p ss sound.held.good)).0

      pub one-room : length b.low + length b.high < 64
      one-room = omega (arith, w.stay, cut-room self p l ss sound k w x q v y, ap length b.are, length-append b.low b.high)

      pub one-has : HasRoom r last
      one-has = record { at = _; done = b.low; left = b.high; zip = b.zip; few = one-room }

      pub cut-one : (r2 : Remapper) (i : ℕ) → Zip r2 i (behind r.links r.head last) (b.low ++ (k.up ∷ [])) b.high
          → Does self (on_cut p ss) (cut_to p ss) r2 (Ok 0)
      cut-one r2 i z =
          let h : (b.low ++ (k.up ∷ [])) ++ b.high ≡ cut_to p ss
          = append_assoc b.low (k.up ∷ []) b.high ∙ sym (ap (λ t. b.low ++ (t ++ b.high)) one) ∙ in_place in
          cut-done self p l ss sound k w x q v y r2 (rw h at (zip-holds r2 i _ (b.low ++ (k.up ∷ [])) b.high z))

-- ---- several are moved: the list is made anew, first what stays

pub record Lays (self r : Remapper) (p : Span) (n prev last from : ℕ) (ss : List Segment) : Type 0 where
  pub left : List Segment
  pub rest : Some self from left
  pub done : List Segment
  pub at : ℕ
  pub zip : Zip r prev at done []
  pub goal : done ++ each (left_of p) left ≡ each (left_of p) ss
  pub room : length done + length (each (left_of p) left) ≤ 64
  pub noted : last ≡ last_below n zip.passed done 64
  pub fine : any (bad_for p) left ≡ false

left-few : (self : Remapper) (p : Span) (u : Segment) (ss : List Segment) → Sound self ss → Builds p u ss → length (each (rear_of p) ss) + length (each (left_of p) ss) ≤ 64
left-few self p u ss sound h =
    omega (arith, h.few, ap length (cut-is p ss sound.order), length-leads (each (rear_of p) ss) (each (left_of p) ss))

pub lays-start : (self r : Remapper) (p : Span) (u : Segment) (ss : List Segment) → Sound self ss → Builds p u ss → Holds r []
    → Lays self r p u.hpa.0 64 64 self.head ss
unfolding zip_start
lays-start self r p u ss sound h e =
    record {
      left = ss;
      rest = some-start self ss sound.held;
      done = [];
      at = r.head;
      zip = zip_start r [] e;
      goal = refl;
      room = omega (arith, left-few self p u ss sound h);
      noted = refl;
      fine = h.fine;
    }

module _ (self r : Remapper) (p : Span) (n prev last from : ℕ) (ss : List Segment) (w : Lays self r p n prev last from ss) where
  module _ (l : from < 64) where
    here : Open self from w.left
    here = some-open self from w.left w.rest l

    pub lays-good : Good (segment-at self from)
    lays-good = here.good

    pub lays-next : next_of self from ≤ 64
    lays-next = some_next self from w.left w.rest l

    pub lays-less : ahead self.links (next_of self from) < ahead self.links from
    lays-less = some-less self from w.left w.rest l

    fines : (bad_for p (segment-at self from) ≡ false) × (any (bad_for p) here.more ≡ false)
    fines = or-false (bad_for p (segment-at self from)) (any (bad_for p) here.more) (sym (ap (any (bad_for p)) here.are) ∙ w.fine)

    lefts-are : (v : Option Segment) → leaves (reach_of p (segment-at self from)) (segment-at self from) ≡ v → each (left_of p) w.left ≡ option_to_list v ++ each (left_of p) here.more
    lefts-are v e =
        ap (each (left_of p)) here.are ∙ ap (λ t. t ++ each (left_of p) here.more) (left-listed p (segment-at self from) ∙ ap option_to_list e)

    pub lays-gone : leaves (reach_of p (segment-at self from)) (segment-at self from) ≡ None → Lays self r p n prev last (next_of self from) ss
    lays-gone e =
        let h = lefts-are None e in
        record {
          left = here.more;
          rest = here.on;
          done = w.done;
          at = w.at;
          zip = w.zip;
          goal = ap (λ t. w.done ++ t) (sym h) ∙ w.goal;
          room = omega (arith, w.room, ap length h);
          noted = w.noted;
          fine = fines.1;
        }

    module _ (t : Segment) (e : leaves (reach_of p (segment-at self from)) (segment-at self from) ≡ Kept t) where
      pub lays-kept-good : Good t
      lays-kept-good = left-good p (segment-at self from) here.good fines.0 t e

      pub lays-room : length w.done + 0 < 64
      lays-room = omega (arith, w.room, ap length (lefts-are (Kept t) e))

      pub lays-has : HasRoom r prev
      lays-has = record { at = w.at; done = w.done; left = []; zip = w.zip; few = lays-room }

      pub lays-kept : (r2 : Remapper) (i last2 : ℕ) → last2 ≡ (if t.hpa.0 <? n then i else last)
          → ZipOver r2 (w.zip.passed ++ (i ∷ [])) i w.at (w.done ++ (t ∷ [])) [] → Lays self r2 p n i last2 (next_of self from) ss
      lays-kept r2 i last2 q z =
          let h = lefts-are (Kept t) e in
          let m : length w.zip.passed ≡ length w.done = zip-many r prev w.at w.done [] w.zip in
          record {
            left = here.more;
            rest = here.on;
            done = w.done ++ (t ∷ []);
            at = w.at;
            zip = z.0;
            goal = append_assoc w.done (t ∷ []) (each (left_of p) here.more) ∙ ap (λ v. w.done ++ v) (sym h) ∙ w.goal;
            room = omega (arith, w.room, ap length h, length-append w.done (t ∷ []));
            noted = q ∙ ap (λ v. if t.hpa.0 <? n then i else v) w.noted ∙ sym (below-snoc n w.zip.passed w.done 64 i t m)
                ∙ ap (λ v. last_below n v (w.done ++ (t ∷ [])) 64) (sym z.1);
            fine = fines.1;
          }

  pub lays-end : 64 ≤ from → in_order ss ≡ true → Between r n last (each (left_of p) ss)
  lays-end l o =
      let e : w.left ≡ [] = some_end self from w.left w.rest l in
      let q : w.done ≡ each (left_of p) ss = sym (append-nil w.done) ∙ sym (ap (λ v. w.done ++ each (left_of p) v) e) ∙ w.goal in
      rw q at (between r n prev last w.at w.done [] w.zip refl w.noted (rw q (lefts-in-order p ss o)))

-- and then what is moved up, one behind the other

pub record Moves (self r : Remapper) (p : Span) (last from : ℕ) (goal : List Segment) : Type 0 where
  pub left : List Segment
  pub rest : Some self from left
  pub done : List Segment
  pub after : List Segment
  pub at : ℕ
  pub zip : Zip r last at done after
  pub same : done ++ (each (rear_of p) left ++ after) ≡ goal
  pub room : length done + length after + length (each (rear_of p) left) ≤ 64

pub moves-start : (self : Remapper) (p : Span) → in_range p → (u : Segment) (ss : List Segment) → Sound self ss → Builds p u ss
    → (r : Remapper) (prev last from : ℕ) → Lays self r p u.hpa.0 prev last from ss → 64 ≤ from → Moves self r p last self.head (cut_to p ss)
moves-start self p l u ss sound h r prev last from w f =
    let b = lays-end self r p u.hpa.0 prev last from ss w f sound.order in
    record {
      left = ss;
      rest = some-start self ss sound.held;
      done = b.low;
      after = b.high;
      at = behind r.links r.head last;
      zip = b.zip;
      same = placed self p l ss sound h.fine u h.last r last b;
      room = omega (arith, left-few self p u ss sound h, ap length b.are, length-append b.low b.high);
    }

module _ (self r : Remapper) (p : Span) (last from : ℕ) (goal : List Segment) (w : Moves self r p last from goal) where
  module _ (l : from < 64) where
    ahead_of : Open self from w.left
    ahead_of = some-open self from w.left w.rest l

    pub moves-good : Good (segment-at self from)
    moves-good = ahead_of.good

    pub moves_next : next_of self from ≤ 64
    moves_next = some_next self from w.left w.rest l

    pub moves-less : ahead self.links (next_of self from) < ahead self.links from
    moves-less = some-less self from w.left w.rest l

    rears-are : (us : List Segment) → rear_of p (segment-at self from) ≡ us → each (rear_of p) w.left ≡ us ++ each (rear_of p) ahead_of.more
    rears-are us e = ap (each (rear_of p)) ahead_of.are ∙ ap (λ q. q ++ each (rear_of p) ahead_of.more) e

    -- none is moved of this one
    pub moves-past : moves (reach_of p (segment-at self from)) (segment-at self from) ≡ false → Moves self r p last (next_of self from) goal
    moves-past m =
        let e = rears-are [] (rear-listed p (segment-at self from) ∙ rw m) in
        record {
          left = ahead_of.more;
          rest = ahead_of.on;
          done = w.done;
          after = w.after;
          at = w.at;
          zip = w.zip;
          same = ap (λ q. w.done ++ (q ++ w.after)) (sym e) ∙ w.same;
          room = omega (arith, w.room, ap length e);
        }

    module _ (m : moves (reach_of p (segment-at self from)) (segment-at self from) ≡ true) where
      this : each (rear_of p) w.left ≡ rest (reach_of p (segment-at self from)).to (segment-at self from) ∷ each (rear_of p) ahead_of.more
      this = rears-are (rest (reach_of p (segment-at self from)).to (segment-at self from) ∷ []) (rear-listed p (segment-at self from) ∙ rw m)

      pub moves-room : length w.done + length w.after < 64
      moves-room = omega (arith, w.room, ap length this)

      pub moves-has : HasRoom r last
      moves-has = record { at = w.at; done = w.done; left = w.after; zip = w.zip; few = moves-room }

      -- it goes in behind the last
      pub moves-on : (x : ℕ) (r2 : Remapper)
          → Zip r2 x w.at (w.done ++ (rest (reach_of p (segment-at self from)).to (segment-at self from) ∷ [])) w.after
          → Moves self r2 p x (next_of self from) goal
      moves-on x r2 z =
          let s : Segment = segment-at self from in
          let v : Segment = rest (reach_of p s).to s in
          record {
            left = ahead_of.more;
            rest = ahead_of.on;
            done = w.done ++ (v ∷ []);
            after = w.after;
            at = w.at;
            zip = z;
            same = append_assoc w.done (v ∷ []) (each (rear_of p) ahead_of.more ++ w.after)
                ∙ ap (λ q. w.done ++ (q ++ w.after)) (sym this) ∙ w.same;
            room = omega (arith, w.room, ap length this, length-append w.done (v ∷ []));
          }

  pub moves-end : 64 ≤ from → Holds r goal
  moves-end l =
      let e : w.left ≡ [] = some_end self from w.left w.rest l in
      let q : w.done ++ w.after ≡ goal = sym (ap (λ v. w.done ++ (each (rear_of p) v ++ w.after)) e) ∙ w.same in
      rw q at (zip-holds r last w.at w.done w.after w.zip)
