-- What the walks that ask find out is what the definitions say of the list.
use Rattle.std.specs.Prelude.{if◌then◌else◌}
use Prim.Native.Nat.{ℕ, suc, ◌+◌, ◌-◌, ◌≤◌, ◌<◌, max}
use mathlib.Core.Path.{◌≡◌, refl, sym, ap, ap₂, ◌∙◌}
use mathlib.Core.Bool.{Bool, true, false, not, ◌&&◌, ◌||◌}
use mathlib.Core.List.{List, [], ◌∷◌}
use native.Mathlib.Omega.{arith}
use native.Mathlib.Decide.{dec_lt}
use lib.ListN.{length}
use borrow.Author.Tests.{lt-ltb, le-ltb, le-leb, lt-leb, eq-eqb, ne_eqb}
use Rattle.definitions.specs.Tests.{◌<?◌, ◌≤?◌, ◌=?◌, bit, all, any, count, keep}
use Rattle.definitions.specs.Values.{nothing, raise}
use Rattle.definitions.specs.Regions.{region, meets, splits, within, cut, freed, greatest, refcount_of}
use Rattle.definitions.specs.Questions.{ask, ranged, every_named, begun, last_end, cuts_fit, can_lower}
use Rattle.definitions.specs.declared.addr.HostAddr.{HostAddr}
use Rattle.definitions.specs.declared.region.Region.{Region}
use Rattle.definitions.specs.declared.answer.Refusal.{Refusal}
use Rattle.definitions.specs.declared.answer.Refusal.TheVariants.{CountFull, OutOfMemory, InvalidRegion, EndedBefore, CountEmpty}
use Rattle.definitions.specs.Answers.{Answer}
use Rattle.std.specs.Prelude.{Result, Ok, Err}
use Rattle.definitions.proofs.Bools.{and-true}
use Rattle.definitions.proofs.Lists.{Ordered}
use Rattle.definitions.proofs.RegionLaws.{Cuts, splits-it, at_most, past, cuts?}
use Rattle.definitions.proofs.PeakLaws.{hole, gaps}
use Rattle.definitions.proofs.Tables.{can_raise_on, add_change_on, new_records_on, remove_change_on}
use Rattle.capability_engine.specs.declared.region.AddAsk.{AddAsk}
use Rattle.capability_engine.specs.declared.region.RemoveAsk.{RemoveAsk}
use Rattle.capability_engine.specs.RegionAsks.{answer_after, judged_add, judged_remove, fold_from, low_enough, gap_from, gap_here, add_step, add_begin, frees_one, remove_step, remove_begin, most_of}
use Rattle.capability_engine.proofs.PoolOwns.{bit_le}
use Rattle.capability_engine.proofs.RegionSteps.{from-skip, from-stop, from_on, here-skip, here-stop, here_on}

or_assoc : (a b c : Bool) → ((a || b) || c) ≡ (a || (b || c))
or_assoc true b c = refl
or_assoc false b c = refl

and_assoc : (a b c : Bool) → ((a && b) && c) ≡ (a && (b && c))
and_assoc true b c = refl
and_assoc false b c = refl

or-false : (a : Bool) → a ≡ (a || false)
or-false true = refl
or-false false = refl

or-more : (b : Bool) (n : ℕ) → (b || (0 <? n)) ≡ (0 <? (bit b + n))
or-more true n = sym (lt-ltb 0 (1 + n) (omega arith))
or-more false n = ap (λ (m : ℕ). 0 <? m) (let e : n ≡ 0 + n = omega arith in e)

bit_test : (b : Bool) → b ≡ (0 <? bit b)
bit_test true = sym (lt-ltb 0 1 (omega arith))
bit_test false = sym (le-ltb 0 0 (omega arith))

-- ---- the gaps

length-hole : (s e : HostAddr) (rs : List Region) → length (hole s e rs) ≡ bit (s.0 <? e.0) + length rs
unfolding hole
length-hole s e rs = go (s.0 <? e.0)
  where
    go : (b : Bool) → length (if b then region s e (raise 0 nothing) ∷ rs else rs) ≡ bit b + length rs
    go true = omega arith
    go false = omega arith

gaps-past : (s e : HostAddr) (r : Region) (rs : List Region) → r.end.0 ≤ s.0 → gaps s e (r ∷ rs) ≡ gaps s e rs
unfolding gaps
gaps-past s e r rs l = rw (le-leb r.end.0 s.0 l)

gaps-over : (s e : HostAddr) (r : Region) (rs : List Region) → s.0 < r.end.0 → e.0 ≤ r.start.0 → gaps s e (r ∷ rs) ≡ hole s e []
unfolding gaps
gaps-over s e r rs l m = rw (lt-leb r.end.0 s.0 l, le-leb e.0 r.start.0 m)

gaps-in : (s e : HostAddr) (r : Region) (rs : List Region) → s.0 < r.end.0 → r.start.0 < e.0 → gaps s e (r ∷ rs) ≡ hole s r.start (gaps r.end e rs)
unfolding gaps
gaps-in s e r rs l m = rw (lt-leb r.end.0 s.0 l, lt-leb e.0 r.start.0 m)

gaps-nil : (s e : HostAddr) → length (gaps s e []) ≡ bit (s.0 <? e.0)
unfolding gaps
gaps-nil s e = length-hole s e [] ∙ (let w : bit (s.0 <? e.0) + 0 ≡ bit (s.0 <? e.0) = omega arith in w)

none_left : (s e : HostAddr) → e.0 ≤ s.0 → bit (s.0 <? e.0) ≡ 0
none_left s e l = ap bit (le-ltb s.0 e.0 l)

gaps-done : (s e : HostAddr) (rs : List Region) → e.0 ≤ s.0 → length (gaps s e rs) ≡ 0
gaps-done s e [] l = gaps-nil s e ∙ none_left s e l
gaps-done s e (r ∷ rs) l =
    let ih = gaps-done s e rs l in
    elim (dec_lt s.0 r.end.0) [
      | no p ↦ ap length (gaps-past s e r rs (omega arith)) ∙ ih
      | yes p ↦
          elim (dec_lt r.start.0 e.0) [
            | no q ↦ ap length (gaps-over s e r rs p (omega arith)) ∙ (omega (arith, length-hole s e [], none_left s e l))
            | yes q ↦ ap length (gaps-in s e r rs p q) ∙ (omega (arith, length-hole s r.start (gaps r.end e rs), none_left s r.start (omega arith), gaps-done r.end e rs (omega arith)))
          ]
    ]

gap-law : (s e : HostAddr) (r : Region) (rs : List Region) → length (gaps s e (r ∷ rs)) ≡ bit (gap_here e s r) + length (gaps (gap_from e s r) e rs)
gap-law s e r rs =
    elim (dec_lt s.0 r.end.0) [
      | no p ↦
          (let l : r.end.0 ≤ s.0 = omega arith in
          rw (gaps-past s e r rs l, ← here-skip e s r l, ← from-skip e s r l) (omega arith))
      | yes p ↦
          elim (dec_lt r.start.0 e.0) [
            | no q ↦
                (let m : e.0 ≤ r.start.0 = omega arith in
                rw (gaps-over s e r rs p m, ← here-stop e s r p m, ← from-stop e s r p m) (omega (arith, length-hole s e [], gaps-done e e rs (omega arith))))
            | yes q ↦
                rw (gaps-in s e r rs p q, ← here_on e s r p q, ← from_on e s r p q) (length-hole s r.start (gaps r.end e rs))
          ]
    ]

-- ---- an add

abbrev fresh-one : HostAddr → HostAddr → ℕ → Region → Bool
fresh-one a e k q = meets a e q && not (every_named (λ n. 0 <? n) k q.values)

pub record AddFold (a e : HostAddr) (k : ℕ) (ask : AddAsk) (rs : List Region) (w : AddAsk) : Type 0 where
  pub raisable : w.raisable ≡ (ask.raisable && can_raise_on a e k rs)
  pub cuts_start : w.cuts_start ≡ (ask.cuts_start || any (splits a) rs)
  pub cuts_end : w.cuts_end ≡ (ask.cuts_end || any (splits e) rs)
  pub left : w.left - bit (w.from.0 <? e.0) ≡ ask.left - length (gaps ask.from e rs)
  pub gap : (w.gap || (w.from.0 <? e.0)) ≡ (ask.gap || (0 <? length (gaps ask.from e rs)))
  pub fresh : w.fresh ≡ (ask.fresh || any (fresh-one a e k) rs)

add-fold : (a e : HostAddr) (k : ℕ) (rs : List Region) (ask : AddAsk) → AddFold a e k ask rs (fold_from (add_step a e k) ask rs)
unfolding can_raise_on add_step low_enough
add-fold a e k [] ask =
    record {
      raisable = sym (and-true ask.raisable);
      cuts_start = or-false ask.cuts_start;
      cuts_end = or-false ask.cuts_end;
      left = ap (λ (n : ℕ). ask.left - n) (sym (gaps-nil ask.from e));
      gap = ap (λ (b : Bool). ask.gap || b) (bit_test (ask.from.0 <? e.0) ∙ ap (λ (n : ℕ). 0 <? n) (sym (gaps-nil ask.from e)));
      fresh = or-false ask.fresh;
    }
add-fold a e k (r ∷ rs) ask =
    let ih = add-fold a e k rs (add_step a e k ask r) in
    let g = gap-law ask.from e r rs in
    record {
      raisable = ih.raisable ∙ and_assoc ask.raisable _ _;
      cuts_start = ih.cuts_start ∙ or_assoc ask.cuts_start _ _;
      cuts_end = ih.cuts_end ∙ or_assoc ask.cuts_end _ _;
      left = ih.left ∙ (omega (arith, g));
      gap = ih.gap ∙ or_assoc ask.gap (gap_here e ask.from r) _ ∙ ap (λ (b : Bool). ask.gap || b) (or-more (gap_here e ask.from r) _ ∙ ap (λ (n : ℕ). 0 <? n) (sym g));
      fresh = ih.fresh ∙ or_assoc ask.fresh _ _;
    }

room-test : (m room n l : ℕ) (d b c : Bool) → l - bit d ≡ room + 1 - n → (bit d + (bit b + bit c) <? l) ≡ (m + (bit b + bit c + n) ≤? m + room)
room-test m room n l d b c h =
    elim (dec_lt (bit d + (bit b + bit c)) l) [
      | yes p ↦ lt-ltb (bit d + (bit b + bit c)) l p ∙ sym (le-leb (m + (bit b + bit c + n)) (m + room) (omega arith))
      | no p ↦ le-ltb (bit d + (bit b + bit c)) l (omega arith) ∙ sym (lt-leb (m + (bit b + bit c + n)) (m + room) (omega arith))
    ]

pub add-answer : (a e : HostAddr) (k room : ℕ) (rs : List Region) (w : AddAsk) (r : Answer)
    → w ≡ fold_from (add_step a e k) (add_begin room a) rs → r ≡ judged_add e w
    → r ≡ ask ((can_raise_on a e k rs, CountFull) ∷ (length rs + new_records_on a e rs ≤? length rs + room, OutOfMemory) ∷ []) (Ok (add_change_on a e k rs))
unfolding ask judged_add new_records_on add_change_on
add-answer a e k room rs w r ew er =
    let f : AddFold a e k (add_begin room a) rs w = rw ew (add-fold a e k rs (add_begin room a)) in
    let t : (bit (w.from.0 <? e.0) + (bit w.cuts_start + bit w.cuts_end) <? w.left) ≡ (length rs + new_records_on a e rs ≤? length rs + room) =
    rw (f.cuts_start, f.cuts_end) (room-test (length rs) room (length (gaps a e rs)) w.left (w.from.0 <? e.0) (any (splits a) rs) (any (splits e) rs) f.left) in
    er ∙ rw (t, f.raisable, f.gap, f.fresh)

-- ---- a remove

pub record RemoveFold (a e : HostAddr) (k : ℕ) (ask : RemoveAsk) (rs : List Region) (w : RemoveAsk) : Type 0 where
  pub starts : w.begun ≡ (ask.begun || (1 ≤? length (begun a rs)))
  pub last : w.last.0 ≡ last_end ask.last.0 (begun a rs)
  pub cuts_start : w.cuts_start ≡ (ask.cuts_start || any (splits a) rs)
  pub cuts_end : w.cuts_end ≡ (ask.cuts_end || any (splits e) rs)
  pub lack : w.lack ≡ ask.lack - count (frees_one a e) rs
  pub lowerable : w.lowerable ≡ (ask.lowerable && can_lower a e k rs)
  pub gone : w.gone ≡ (ask.gone || any (λ q. meets a e q && ((q.values.refcount =? 1) || not (every_named (λ n. not (n =? 1)) k q.values))) rs)

begun-cons : (a : HostAddr) (r : Region) (rs : List Region) (s : Bool) → ((s || (r.start.0 ≤? a.0)) || (1 ≤? length (begun a rs))) ≡ (s || (1 ≤? length (begun a (r ∷ rs))))
unfolding begun
begun-cons a r rs s = or_assoc s (r.start.0 ≤? a.0) (1 ≤? length (begun a rs)) ∙ ap (λ (b : Bool). s || b) (go (r.start.0 ≤? a.0))
  where
    go : (b : Bool) → (b || (1 ≤? length (keep (λ q. q.start.0 ≤? a.0) rs))) ≡ (1 ≤? length (if b then r ∷ keep (λ q. q.start.0 ≤? a.0) rs else keep (λ q. q.start.0 ≤? a.0) rs))
    go true = sym (le-leb 1 (suc (length (keep (λ q. q.start.0 ≤? a.0) rs))) (omega arith))
    go false = refl

last_cons : (a : HostAddr) (r : Region) (rs : List Region) (n : HostAddr) → last_end (if r.start.0 ≤? a.0 then r.end else n).0 (begun a rs) ≡ last_end n.0 (begun a (r ∷ rs))
unfolding begun last_end
last_cons a r rs n = go (r.start.0 ≤? a.0)
  where
    go : (b : Bool) → last_end (if b then r.end else n).0 (keep (λ q. q.start.0 ≤? a.0) rs)
        ≡ last_end n.0 (if b then r ∷ keep (λ q. q.start.0 ≤? a.0) rs else keep (λ q. q.start.0 ≤? a.0) rs)
    go true = refl
    go false = refl

lower-cons : (a e : HostAddr) (k : ℕ) (r : Region) (rs : List Region) → ((not (meets a e r) || every_named (λ n. 0 <? n) k r.values) && can_lower a e k rs) ≡ can_lower a e k (r ∷ rs)
unfolding can_lower
lower-cons a e k r rs = go (meets a e r)
  where
    go : (b : Bool) → ((not b || every_named (λ n. 0 <? n) k r.values) && all (λ q. every_named (λ n. 0 <? n) k q.values) (keep (meets a e) rs))
        ≡ all (λ q. every_named (λ n. 0 <? n) k q.values) (if b then r ∷ keep (meets a e) rs else keep (meets a e) rs)
    go true = refl
    go false = refl

begun-nil : (a : HostAddr) (s : Bool) → s ≡ (s || (1 ≤? length (begun a [])))
unfolding begun
begun-nil a s = or-false s ∙ ap (λ (b : Bool). s || b) (sym (lt-leb 1 0 (omega arith)))

last-nil : (a : HostAddr) (n : ℕ) → n ≡ last_end n (begun a [])
unfolding begun last_end
last-nil a n = refl

lower-nil : (a e : HostAddr) (k : ℕ) (s : Bool) → s ≡ (s && can_lower a e k [])
unfolding can_lower
lower-nil a e k s = sym (and-true s)

remove-fold : (a e : HostAddr) (k : ℕ) (rs : List Region) (ask : RemoveAsk) → RemoveFold a e k ask rs (fold_from (remove_step a e k) ask rs)
unfolding remove_step
remove-fold a e k [] ask =
    record {
      starts = begun-nil a ask.begun;
      last = last-nil a ask.last.0;
      cuts_start = or-false ask.cuts_start;
      cuts_end = or-false ask.cuts_end;
      lack = omega arith;
      lowerable = lower-nil a e k ask.lowerable;
      gone = or-false ask.gone;
    }
remove-fold a e k (r ∷ rs) ask =
    let ih = remove-fold a e k rs (remove_step a e k ask r) in
    record {
      starts = ih.starts ∙ begun-cons a r rs ask.begun;
      last = ih.last ∙ last_cons a r rs ask.last;
      cuts_start = ih.cuts_start ∙ or_assoc ask.cuts_start _ _;
      cuts_end = ih.cuts_end ∙ or_assoc ask.cuts_end _ _;
      lack = ih.lack ∙ (omega arith);
      lowerable = ih.lowerable ∙ and_assoc ask.lowerable _ _ ∙ ap (λ (b : Bool). ask.lowerable && b) (lower-cons a e k r rs);
      gone = ih.gone ∙ or_assoc ask.gone _ _;
    }

-- the regions that the first pass frees, counted on the list before it is cut
frees-in : HostAddr → HostAddr → Region → Bool
frees-in a e q = within a e q && (q.values.refcount =? 1)

frees-past : (a e : HostAddr) (lo : ℕ) (rs : List Region) → a.0 ≤ lo → Ordered lo rs → count (frees-in a e) rs ≡ count (frees_one a e) rs
unfolding frees-in frees_one within
frees-past a e lo [] l o = refl
frees-past a e lo (r ∷ rs) l o =
    ap₂ ◌+◌ (simp (le-leb a.0 r.start.0 (omega (arith, o.0)), lt-ltb a.0 r.end.0 (omega (arith, o.0, o.1))))
    (frees-past a e r.end.0 rs (omega (arith, o.0, o.1)) o.2)

first-half : (a e : HostAddr) (r : Region) → r.start.0 < a.0 → frees-in a e (region r.start a r.values) ≡ false
unfolding frees-in within region
first-half a e r p = simp (lt-leb a.0 r.start.0 p)

second-half : (a e : HostAddr) (r : Region) → a.0 < r.end.0 → frees-in a e (region a r.end r.values) ≡ frees_one a e r
unfolding frees-in frees_one within region
second-half a e r q = simp (le-leb a.0 a.0 (omega arith), lt-ltb a.0 r.end.0 q)

not-cut : (a e : HostAddr) (r : Region) → a.0 ≤ r.start.0 → r.start.0 < r.end.0 → frees-in a e r ≡ frees_one a e r
unfolding frees-in frees_one within
not-cut a e r p n = simp (le-leb a.0 r.start.0 p, lt-ltb a.0 r.end.0 (omega arith))

before : (a e : HostAddr) (r : Region) → r.end.0 ≤ a.0 → r.start.0 < r.end.0 → frees-in a e r ≡ frees_one a e r
unfolding frees-in frees_one within
before a e r p n = simp (lt-leb a.0 r.start.0 (omega arith), le-ltb a.0 r.end.0 p)

freed-is : (a e : HostAddr) (lo : ℕ) (rs : List Region) → Ordered lo rs → count (frees-in a e) (cut a rs) ≡ count (frees_one a e) rs
unfolding cut
freed-is a e lo [] o = refl
freed-is a e lo (r ∷ rs) o = go (cuts? a r) (freed-is a e r.end.0 rs o.2)
  where
    go : Cuts a r → count (frees-in a e) (cut a rs) ≡ count (frees_one a e) rs → count (frees-in a e) (cut a (r ∷ rs)) ≡ count (frees_one a e) (r ∷ rs)
    go (splits-it d p q) ih =
        rw d (omega (arith, frees-past a e r.end.0 rs (omega arith) o.2, ap bit (first-half a e r p), ap bit (second-half a e r q)))
    go (at_most d p) ih = rw d (ap₂ ◌+◌ (ap bit (not-cut a e r p o.1)) ih)
    go (past d p) ih = rw d (ap₂ ◌+◌ (ap bit (before a e r p o.1)) ih)

frees-total : (a e : HostAddr) (rs : List Region) → Ordered 0 rs → freed a e rs ≡ count (frees_one a e) rs
unfolding freed frees-in
frees-total a e rs o = freed-is a e 0 rs o

count-few : (p : Region → Bool) (rs : List Region) → count p rs ≤ length rs
count-few p [] = omega arith
count-few p (r ∷ rs) = go (p r) (count-few p rs)
  where
    go : (b : Bool) → count p rs ≤ length rs → bit b + count p rs ≤ suc (length rs)
    go true l = omega arith
    go false l = omega arith

first-test : (m room : ℕ) (b : Bool) → (not b || (0 <? room)) ≡ (m + bit b ≤? m + room)
first-test m room false = sym (le-leb (m + 0) (m + room) (omega arith))
first-test m room true =
    elim (dec_lt 0 room) [
      | yes p ↦ lt-ltb 0 room p ∙ sym (le-leb (m + 1) (m + room) (omega arith))
      | no p ↦ le-ltb 0 room (omega arith) ∙ sym (lt-leb (m + 1) (m + room) (omega arith))
    ]

second-test : (m room n : ℕ) (b : Bool) → n ≤ m → m + room ≤ 1024 → ((1025 - room) - n ≤? 1024 - bit b) ≡ (m + bit b - n + 1 ≤? m + room)
second-test m room n b l f = go (bit b) (bit_le b)
  where
    go : (c : ℕ) → c ≤ 1 → ((1025 - room) - n ≤? 1024 - c) ≡ (m + c - n + 1 ≤? m + room)
    go c q =
        elim (dec_lt (1024 - c) ((1025 - room) - n)) [
          | yes p ↦ lt-leb ((1025 - room) - n) (1024 - c) p ∙ sym (lt-leb (m + c - n + 1) (m + room) (omega arith))
          | no p ↦ le-leb ((1025 - room) - n) (1024 - c) (omega arith) ∙ sym (le-leb (m + c - n + 1) (m + room) (omega arith))
        ]

pub remove-answer : (a e : HostAddr) (k room : ℕ) (rs : List Region) (w : RemoveAsk) (r : Answer)
    → Ordered 0 rs → length rs + room ≤ 1024 → w ≡ fold_from (remove_step a e k) (remove_begin room) rs → r ≡ judged_remove room a w
    → r ≡ ask
    ((1 ≤? length (begun a rs), InvalidRegion) ∷ (a.0 <? last_end 0 (begun a rs), EndedBefore)
    ∷ (cuts_fit (length rs) (length rs + room) a e rs, OutOfMemory) ∷ (can_lower a e k rs, CountEmpty) ∷ [])
    (Ok (remove_change_on a e k rs))
unfolding ask judged_remove cuts_fit remove_change_on freed
remove-answer a e k room rs w r o few ew er =
    let f : RemoveFold a e k (remove_begin room) rs w = rw ew (remove-fold a e k rs (remove_begin room)) in
    let fr : freed a e rs ≡ count (frees_one a e) rs = frees-total a e rs o in
    let t1 : (not w.cuts_start || (0 <? room)) ≡ (length rs + bit (any (splits a) rs) ≤? length rs + room) = rw f.cuts_start (first-test (length rs) room (any (splits a) rs)) in
    let t2 : (w.lack ≤? 1024 - bit w.cuts_start) ≡ (length rs + bit (any (splits a) rs) - freed a e rs + 1 ≤? length rs + room) =
    rw (f.lack, f.cuts_start, fr) (second-test (length rs) room (count (frees_one a e) rs) (any (splits a) rs) (count-few (frees_one a e) rs) few) in
    er ∙ rw (t1, t2, f.cuts_end, f.starts, f.last, f.lowerable, f.gone)

-- ---- the most holders

most-from : (a e : HostAddr) (rs : List Region) (n : ℕ) → fold_from (most_of a e) n rs ≡ max n (refcount_of a e rs)
unfolding most_of refcount_of greatest
most-from a e [] n = omega arith
most-from a e (r ∷ rs) n = go (meets a e r) refl (most-from a e rs)
  where
    go : (b : Bool) → meets a e r ≡ b → ((m : ℕ) → fold_from (most_of a e) m rs ≡ max m (refcount_of a e rs)) → fold_from (most_of a e) n (r ∷ rs) ≡ max n (refcount_of a e (r ∷ rs))
    go true d ih = rw d (ih (max n r.values.refcount) ∙ (omega arith))
    go false d ih = rw d (ih n)

pub most-all : (a e : HostAddr) (rs : List Region) (n : ℕ) → n ≡ fold_from (most_of a e) 0 rs → n ≡ refcount_of a e rs
most-all a e rs n h = h ∙ most-from a e rs 0 ∙ (omega arith)

-- ---- questions 2 and 3, and an empty range

module _ (a e : HostAddr) (k : ℕ) (q : Result Unit Refusal) (h : (rest : Answer) → ranged a e k rest ≡ answer_after q a e rest) where
  module _ (rest : Answer) where
    pub ranged-no : (why : Refusal) → q ≡ Err why → Err why ≡ ranged a e k rest
    ranged-no why eq = sym (h rest ∙ ap (λ x. answer_after x a e rest) eq)

    pub ranged-none : (u : Unit) → q ≡ Ok u → a.0 ≡ e.0 → Ok 0 ≡ ranged a e k rest
    ranged-none u eq d = sym (h rest ∙ ap (λ x. answer_after x a e rest) eq ∙ rw (eq-eqb a.0 e.0 d))

    pub ranged_on : (u : Unit) → q ≡ Ok u → (a.0 ≡ e.0 → ⊥) → rest ≡ ranged a e k rest
    ranged_on u eq d = sym (h rest ∙ ap (λ x. answer_after x a e rest) eq ∙ rw (ne_eqb a.0 e.0 d))
