-- The questions of an add and of a remove, and a count, asked of a part of the list: what ends below the range, and what begins above
-- it, changes no answer.
use Rattle.std.specs.Prelude.{if◌then◌else◌}
use Prim.Native.Nat.{ℕ, ◌-◌, ◌≤◌, ◌<◌}
use mathlib.Core.Path.{◌≡◌, refl, sym, ap, ◌∙◌}
use mathlib.Core.Bool.{Bool, true, false, not, ◌&&◌, ◌||◌}
use mathlib.Core.List.{List, [], ◌∷◌, ◌++◌}
use native.Mathlib.Omega.{arith}
use native.Mathlib.Decide.{dec_lt}
use lib.ListN.{get_or}
use borrow.Author.Tests.{lt-ltb, le-ltb, le-leb, lt-leb}
use Rattle.definitions.specs.Tests.{◌<?◌, ◌≤?◌, ◌=?◌, bit}
use Rattle.definitions.specs.Regions.{meets, splits}
use Rattle.definitions.specs.Questions.{every_named}
use Rattle.definitions.specs.declared.addr.HostAddr.{HostAddr}
use Rattle.definitions.specs.declared.region.Region.{Region}
use Rattle.definitions.proofs.Bools.{and-false, or-true}
use Rattle.definitions.proofs.Lists.{Ordered}
use Rattle.definitions.proofs.RegionLaws.{ordered-from}
use Rattle.definitions.proofs.RunLaws.{host-eq}
use Rattle.capability_engine.specs.PoolWords.{region_at}
use Rattle.capability_engine.specs.PoolChain.{last, slots, records, stored_at, Listed, All, SkipsBelow}
use Rattle.capability_engine.specs.RegionAsks.{low_enough, gap_from, gap_here, add_step, frees_one, remove_step, fold_from, add_begin, remove_begin, AskableAt, Countable, most_of}
use Rattle.capability_engine.specs.declared.region.AddAsk.{AddAsk}
use Rattle.capability_engine.specs.declared.region.RemoveAsk.{RemoveAsk}
use Rattle.capability_engine.specs.declared.region.Skipped.{Skipped}
use Rattle.capability_engine.proofs.PoolLinks.{slots-step, listed-step, stored-step}
use Rattle.capability_engine.proofs.PoolSlots.{records-append}
use Rattle.capability_engine.proofs.RegionSteps.{from-skip, from-stop, here-skip, here-stop}
use Rattle.capability_engine.proofs.RegionFinds.{Folding, fold-turn}
use Rattle.capability_engine.proofs.RegionWindows.{ordered-rest, split-past, split-before}

and_yes : (b : Bool) → (b && true) ≡ b
and_yes true = refl
and_yes false = refl

or_no : (b : Bool) → (b || false) ≡ b
or_no true = refl
or_no false = refl

less-not : (n : ℕ) → n - bit false ≡ n
less-not n = omega arith

-- ---- one region

meets-below : (a e : HostAddr) (r : Region) → r.end.0 ≤ a.0 → meets a e r ≡ false
unfolding meets
meets-below a e r l = simp (le-ltb a.0 r.end.0 l)

meets-above : (a e : HostAddr) (r : Region) → e.0 ≤ r.start.0 → meets a e r ≡ false
unfolding meets
meets-above a e r l = simp (le-ltb r.start.0 e.0 l, and-false)

frees-below : (a e : HostAddr) (r : Region) → r.end.0 ≤ a.0 → frees_one a e r ≡ false
unfolding frees_one
frees-below a e r l = simp (le-ltb a.0 r.end.0 l)

frees-above : (a e : HostAddr) (r : Region) → e.0 < r.end.0 → frees_one a e r ≡ false
unfolding frees_one
frees-above a e r l = simp (lt-leb r.end.0 e.0 l, and-false)

-- a region whose gap, cuts and counts do not matter leaves an add's answers as they are
module _ (a e : HostAddr) (k : ℕ) (ask : AddAsk) (r : Region) where
  add_same : meets a e r ≡ false → splits a r ≡ false → splits e r ≡ false → gap_here e ask.from r ≡ false → gap_from e ask.from r ≡ ask.from → add_step a e k ask r ≡ ask
  unfolding add_step
  add_same m sa se g f =
      let p1 : (ask.raisable && (not (meets a e r) || low_enough k r.values)) ≡ ask.raisable = rw m (and_yes ask.raisable) in
      let p2 : (ask.cuts_start || splits a r) ≡ ask.cuts_start = rw sa (or_no ask.cuts_start) in
      let p3 : (ask.cuts_end || splits e r) ≡ ask.cuts_end = rw se (or_no ask.cuts_end) in
      let p4 : ask.left - bit (gap_here e ask.from r) ≡ ask.left = rw g (less-not ask.left) in
      let p6 : (ask.gap || gap_here e ask.from r) ≡ ask.gap = rw g (or_no ask.gap) in
      let p7 : (ask.fresh || (meets a e r && not (every_named (λ n. 0 <? n) k r.values))) ≡ ask.fresh = rw m (or_no ask.fresh) in
      λ i. record { raisable = p1 i; cuts_start = p2 i; cuts_end = p3 i; left = p4 i; from = f i; gap = p6 i; fresh = p7 i }

  add-below : ask.from ≡ a → r.end.0 ≤ a.0 → r.end.0 ≤ e.0 → add_step a e k ask r ≡ ask
  add-below d la le =
      let f : r.end.0 ≤ ask.from.0 = rw d la in
      add_same (meets-below a e r la) (split-past a r la) (split-past e r le) (sym (here-skip e ask.from r f)) (sym (from-skip e ask.from r f))

  add-above : ask.from ≡ e → a.0 ≤ r.start.0 → e.0 ≤ r.start.0 → r.start.0 < r.end.0 → add_step a e k ask r ≡ ask
  add-above d la le l =
      let f : ask.from.0 < r.end.0 = rw d (omega arith) in
      let n : ask.from.0 ≡ e.0 = ap (λ (x : HostAddr). x.0) d in
      add_same (meets-above a e r le) (split-before a r la) (split-before e r le)
      (sym (here-stop e ask.from r f le) ∙ le-ltb ask.from.0 e.0 (omega arith)) (sym (from-stop e ask.from r f le) ∙ sym d)

-- the same of a remove's answers, but for those about the last region that begins at or below the start
module _ (a e : HostAddr) (k : ℕ) (ask : RemoveAsk) (r : Region) (m : meets a e r ≡ false) (sa : splits a r ≡ false) (se : splits e r ≡ false) (fr : frees_one a e r ≡ false) where
  same_start : (ask.cuts_start || splits a r) ≡ ask.cuts_start
  same_start = rw sa (or_no ask.cuts_start)

  same_end : (ask.cuts_end || splits e r) ≡ ask.cuts_end
  same_end = rw se (or_no ask.cuts_end)

  same-lack : ask.lack - bit (frees_one a e r) ≡ ask.lack
  same-lack = rw fr (less-not ask.lack)

  same_low : (ask.lowerable && (not (meets a e r) || every_named (λ n. 0 <? n) k r.values)) ≡ ask.lowerable
  same_low = rw m (and_yes ask.lowerable)

  same-gone : (ask.gone || (meets a e r && ((r.values.refcount =? 1) || not (every_named (λ n. not (n =? 1)) k r.values)))) ≡ ask.gone
  same-gone = rw m (or_no ask.gone)

  remove-same : a.0 < r.start.0 → remove_step a e k ask r ≡ ask
  unfolding remove_step
  remove-same l =
      let d = lt-leb r.start.0 a.0 l in
      let p1 : (ask.begun || (r.start.0 ≤? a.0)) ≡ ask.begun = rw d (or_no ask.begun) in
      let p2 : (if r.start.0 ≤? a.0 then r.end else ask.last) ≡ ask.last = rw d in
      λ i. record { begun = p1 i; last = p2 i; cuts_start = same_start i; cuts_end = same_end i; lack = same-lack i; lowerable = same_low i; gone = same-gone i }

  remove-over : (t : Region) → t.start.0 ≤ a.0 → remove_step a e k (remove_step a e k ask r) t ≡ remove_step a e k ask t
  unfolding remove_step
  remove-over t l =
      let d = le-leb t.start.0 a.0 l in
      let p1 : ((ask.begun || (r.start.0 ≤? a.0)) || (t.start.0 ≤? a.0)) ≡ (ask.begun || (t.start.0 ≤? a.0)) = rw d (or-true (ask.begun || (r.start.0 ≤? a.0)) ∙ sym (or-true ask.begun)) in
      let p2 : (if t.start.0 ≤? a.0 then t.end else (if r.start.0 ≤? a.0 then r.end else ask.last)) ≡ (if t.start.0 ≤? a.0 then t.end else ask.last) = rw d in
      λ i. record {
        begun = p1 i;
        last = p2 i;
        cuts_start = same_start i || splits a t;
        cuts_end = same_end i || splits e t;
        lack = same-lack i - bit (frees_one a e t);
        lowerable = same_low i && (not (meets a e t) || every_named (λ n. 0 <? n) k t.values);
        gone = same-gone i || (meets a e t && ((t.values.refcount =? 1) || not (every_named (λ n. not (n =? 1)) k t.values)));
      }

-- ---- the regions of a list

-- regions that a step passes over, in front of others
fold-past : {A : Type 0} (step : A → Region → A) (P : Region → Type 0) (x : A) → ((r : Region) → P r → step x r ≡ x) → (rs qs : List Region) → All P rs
    → fold_from step x (rs ++ qs) ≡ fold_from step x qs
fold-past step P x h [] qs p = refl
fold-past {A} step P x h (r ∷ rs) qs p =
    ap (λ (y : A). fold_from step y (rs ++ qs)) (h r p.0) ∙ fold-past step P x h rs qs p.1

-- and behind: all of a list that begins at lo or above
fold_over : {A : Type 0} (step : A → Region → A) (x : A) (lo : ℕ) → ((r : Region) → lo ≤ r.start.0 → r.start.0 < r.end.0 → step x r ≡ x)
    → (from : ℕ) (rs : List Region) → lo ≤ from → Ordered from rs → fold_from step x rs ≡ x
fold_over step x lo h from [] l o = refl
fold_over {A} step x lo h from (r ∷ rs) l o =
    ap (λ (y : A). fold_from step y rs) (h r (omega (arith, o.0)) o.1) ∙ fold_over step x lo h r.end.0 rs (omega (arith, o.0, o.1)) o.2

module _ (a e : HostAddr) (k : ℕ) where
  add-front : (ask : AddAsk) (low : HostAddr) (rs qs : List Region) → All (λ r. r.end.0 < low.0) rs → low.0 ≤ a.0 → low.0 ≤ e.0 → ask.from ≡ a
      → fold_from (add_step a e k) ask (rs ++ qs) ≡ fold_from (add_step a e k) ask qs
  add-front ask low rs qs h la le d = fold-past (add_step a e k) (λ r. r.end.0 < low.0) ask (λ r l. add-below a e k ask r d (omega arith) (omega arith)) rs qs h

  add-rest : (ask : AddAsk) (lo : ℕ) (rs : List Region) → Ordered lo rs → a.0 ≤ lo → e.0 ≤ lo → ask.from ≡ e → fold_from (add_step a e k) ask rs ≡ ask
  add-rest ask lo rs o la le d = fold_over (add_step a e k) ask lo (λ r l m. add-above a e k ask r d (omega arith) (omega arith) m) lo rs (omega arith) o

  remove-rest : (ask : RemoveAsk) (lo : ℕ) (rs : List Region) → Ordered lo rs → a.0 < lo → e.0 < lo → fold_from (remove_step a e k) ask rs ≡ ask
  remove-rest ask lo rs o la le =
      fold_over (remove_step a e k) ask lo
      (λ r l m. remove-same a e k ask r (meets-above a e r (omega arith)) (split-before a r (omega arith)) (split-before e r (omega arith)) (frees-above a e r (omega arith)) (omega arith))
      lo rs (omega arith) o

  -- of two regions that end below the range the first does not matter
  remove-skip : (ask : RemoveAsk) (low : HostAddr) (r t : Region) (qs : List Region) → r.end.0 < low.0 → t.start.0 < low.0 → low.0 ≤ a.0 → low.0 ≤ e.0
      → fold_from (remove_step a e k) ask (r ∷ t ∷ qs) ≡ fold_from (remove_step a e k) ask (t ∷ qs)
  remove-skip ask low r t qs lr lt la le =
      ap (λ (x : RemoveAsk). fold_from (remove_step a e k) x qs)
      (remove-over a e k ask r (meets-below a e r (omega arith)) (split-past a r (omega arith)) (split-past e r (omega arith)) (frees-below a e r (omega arith)) t (omega arith))

-- the most holders of a list
module _ (a e : HostAddr) where
  most-out : (n : ℕ) (r : Region) → meets a e r ≡ false → most_of a e n r ≡ n
  unfolding most_of
  most-out n r d = rw d

-- ---- a walk

cons_head : (x : ℕ) (xs : List ℕ) (y : ℕ) (ys : List ℕ) → x ∷ xs ≡ y ∷ ys → x ≡ y
cons_head x xs y ys d = cc

cons_tail : (x : ℕ) (xs : List ℕ) (y : ℕ) (ys : List ℕ) → x ∷ xs ≡ y ∷ ys → xs ≡ ys
cons_tail x xs y ys d = cc

-- a list that has a slot begins with one
first-low : (nx : List ℕ) (h x : ℕ) (xs : List ℕ) → Listed nx h (slots nx h) → slots nx h ≡ x ∷ xs → h < 1024
first-low nx h x xs g w = let q : Listed nx h (x ∷ xs) = rw w at g in omega (arith, q.seg.0, q.seg.1)

module _ (nx ws : List ℕ) (cur : ℕ) (g : Listed nx cur (slots nx cur)) (l : cur < 1024) (o : Ordered 0 (stored_at nx ws cur)) where
  pub later-ordered : Ordered (region_at ws cur).end.0 (stored_at nx ws (get_or nx cur 0))
  later-ordered = let p = rw (stored-step ws g l) at o in p.2

  pub cur-some : (region_at ws cur).start.0 < (region_at ws cur).end.0
  cur-some = let p = rw (stored-step ws g l) at o in p.1

  pub later-zero : Ordered 0 (stored_at nx ws (get_or nx cur 0))
  later-zero = ordered-from (region_at ws cur).end.0 0 (stored_at nx ws (get_or nx cur 0)) (omega arith) later-ordered

-- a walk goes on
fold_on : {A : Type 0} (step : A → Region → A) (nx ws : List ℕ) (cur : ℕ) (x y w : A) (r : Region) → Folding step nx ws cur x w → Ordered 0 (stored_at nx ws cur) → cur < 1024
    → r ≡ region_at ws cur → y ≡ step x r → Folding step nx ws (get_or nx cur 0) y w × Ordered 0 (stored_at nx ws (get_or nx cur 0))
fold_on step nx ws cur x y w r f o l er ey = (fold-turn step nx ws cur x y w r f l er ey, later-zero nx ws cur f.listed l o)

-- what was passed, and what is left
module _ (nx ws : List ℕ) (head : ℕ) (low : HostAddr) (s : Skipped) (c : SkipsBelow nx ws head low s) where
  stored-parts : stored_at nx ws head ≡ records ws c.done ++ stored_at nx ws s.next
  stored-parts = ap (records ws) c.whole ∙ records-append ws c.done (slots nx s.next)

  left-ordered : Ordered 0 (stored_at nx ws head) → Ordered 0 (stored_at nx ws s.next)
  left-ordered o = ordered-rest 0 (records ws c.done) (stored_at nx ws s.next) (rw stored-parts at o)

-- a count
module _ (a e : HostAddr) (nx ws : List ℕ) where
  pub most-walk : (head : ℕ) (s : Skipped) → Countable nx ws head → SkipsBelow nx ws head a s
      → Folding (most_of a e) nx ws s.next 0 (fold_from (most_of a e) 0 (stored_at nx ws head)) × Ordered 0 (stored_at nx ws s.next)
  most-walk head s c p = (
    record {
      listed = p.listed;
      all = sym (ap (fold_from (most_of a e) 0) (stored-parts nx ws head a s p) ∙ fold-past (most_of a e) (λ r. r.end.0 < a.0) 0 (λ r l. most-out a e 0 r (meets-below a e r (omega arith))) (records ws p.done) (stored_at nx ws s.next) p.each);
    },
    left-ordered nx ws head a s p c.ordered,
  )

  module _ (cur n w : ℕ) (r : Region) (f : Folding (most_of a e) nx ws cur n w) (o : Ordered 0 (stored_at nx ws cur)) (l : cur < 1024) (er : r ≡ region_at ws cur) where
    pub most-on : (m : ℕ) → m ≡ most_of a e n r → Folding (most_of a e) nx ws (get_or nx cur 0) m w × Ordered 0 (stored_at nx ws (get_or nx cur 0))
    most-on m em = fold_on (most_of a e) nx ws cur n m w r f o l er em

    pub most-stop : e.0 ≤ r.start.0 → n ≡ w
    most-stop h =
        let ls : (region_at ws cur).start.0 < (region_at ws cur).end.0 = cur-some nx ws cur f.listed l o in
        let i : r.start.0 ≡ (region_at ws cur).start.0 = rw er in
        sym (fold_over (most_of a e) n (region_at ws cur).end.0 (λ q k m. most-out a e n q (meets-above a e q (omega arith))) (region_at ws cur).end.0 (stored_at nx ws (get_or nx cur 0)) (omega arith) (later-ordered nx ws cur f.listed l o))
        ∙ (most-on n (sym (most-out a e n r (meets-above a e r h)))).0.all

module _ (a e : HostAddr) (k : ℕ) (nx ws : List ℕ) where
  module _ (head room : ℕ) (s : Skipped) (c : AskableAt nx ws head room a e s) where
    pub add-walk : Folding (add_step a e k) nx ws s.next (add_begin room a) (fold_from (add_step a e k) (add_begin room a) (stored_at nx ws head)) × Ordered 0 (stored_at nx ws s.next)
    add-walk = (
      record {
        listed = c.skipped.listed;
        all = sym (ap (fold_from (add_step a e k) (add_begin room a)) (stored-parts nx ws head c.low s c.skipped)
            ∙ add-front a e k (add_begin room a) c.low (records ws c.skipped.done) (stored_at nx ws s.next) c.skipped.each c.below c.under refl);
      },
      left-ordered nx ws head c.low s c.skipped c.askable.list.ordered,
    )

  module _ (cur : ℕ) (ask b w : AddAsk) (r : Region) (f : Folding (add_step a e k) nx ws cur ask w) (o : Ordered 0 (stored_at nx ws cur)) (l : cur < 1024) (er : r ≡ region_at ws cur) (eb : b ≡ add_step a e k ask r) where
    pub add-on : Folding (add_step a e k) nx ws (get_or nx cur 0) b w × Ordered 0 (stored_at nx ws (get_or nx cur 0))
    add-on = fold_on (add_step a e k) nx ws cur ask b w r f o l er eb

    pub add-stop : b.from.0 ≡ e.0 → (a.0 ≤ r.start.0) × (e.0 ≤ r.start.0) → b ≡ w
    add-stop d q =
        let ls : r.start.0 < r.end.0 = rw er (cur-some nx ws cur f.listed l o) in
        let i : r.end.0 ≡ (region_at ws cur).end.0 = rw er in
        sym (add-rest a e k b (region_at ws cur).end.0 (stored_at nx ws (get_or nx cur 0)) (later-ordered nx ws cur f.listed l o) (omega (arith, q.0)) (omega (arith, q.1)) (host-eq b.from e d))
        ∙ add-on.0.all

  -- the last slot that was passed, if there is one, is where the walk of a remove begins: the same is found from there
  from_last : (low : HostAddr) (begin : RemoveAsk) (next h lo : ℕ) (done : List ℕ) → Listed nx h (slots nx h) → slots nx h ≡ done ++ slots nx next → last 1024 done < 1024
      → All (λ r. r.end.0 < low.0) (records ws done) → Ordered lo (stored_at nx ws h) → low.0 ≤ a.0 → low.0 ≤ e.0
      → Folding (remove_step a e k) nx ws (last 1024 done) begin (fold_from (remove_step a e k) begin (stored_at nx ws h)) × Ordered 0 (stored_at nx ws (last 1024 done))
  from_last low begin next h lo [] g w l b o la le = absurd (omega arith)
  from_last low begin next h lo (x ∷ []) g w l b o la le =
      let hx : h ≡ x = cons_head h (slots nx (get_or nx h 0)) x (slots nx next) (sym (slots-step nx h g (first-low nx h x (slots nx next) g w)) ∙ w) in
      rw (← hx) (record { listed = g; all = refl }, ordered-from lo 0 (stored_at nx ws h) (omega arith) o)
  from_last low begin next h lo (x ∷ y ∷ done) g w l b o la le =
      let lh : h < 1024 = first-low nx h x (y ∷ (done ++ slots nx next)) g w in
      let st = slots-step nx h g lh in
      let both : h ∷ slots nx (get_or nx h 0) ≡ x ∷ y ∷ (done ++ slots nx next) = sym st ∙ w in
      let hx : h ≡ x = cons_head h (slots nx (get_or nx h 0)) x (y ∷ (done ++ slots nx next)) both in
      let w' : slots nx (get_or nx h 0) ≡ y ∷ (done ++ slots nx next) = cons_tail h (slots nx (get_or nx h 0)) x (y ∷ (done ++ slots nx next)) both in
      let g' = listed-step nx h g lh in
      let ly : get_or nx h 0 < 1024 = first-low nx (get_or nx h 0) y (done ++ slots nx next) g' w' in
      let hy : get_or nx h 0 ≡ y = cons_head (get_or nx h 0) (slots nx (get_or nx (get_or nx h 0) 0)) y (done ++ slots nx next) (sym (slots-step nx (get_or nx h 0) g' ly) ∙ w') in
      let s1 = stored-step ws g lh in
      let s2 = stored-step ws g' ly in
      let p : Ordered lo (region_at ws h ∷ stored_at nx ws (get_or nx h 0)) = rw s1 at o in
      let p2 : Ordered (region_at ws h).end.0 (region_at ws (get_or nx h 0) ∷ stored_at nx ws (get_or nx (get_or nx h 0) 0)) = rw s2 at p.2 in
      let bx : (region_at ws h).end.0 < low.0 = rw hx b.0 in
      let by : (region_at ws (get_or nx h 0)).end.0 < low.0 = rw hy b.1.0 in
      let ih = from_last low begin next (get_or nx h 0) (region_at ws h).end.0 (y ∷ done) g' w' l b.1 p.2 la le in
      let same : fold_from (remove_step a e k) begin (stored_at nx ws h) ≡ fold_from (remove_step a e k) begin (stored_at nx ws (get_or nx h 0)) =
      rw (s1, s2) (remove-skip a e k begin low (region_at ws h) (region_at ws (get_or nx h 0)) (stored_at nx ws (get_or nx (get_or nx h 0) 0)) bx (omega (arith, p2.1)) la le) in
      (record { listed = ih.0.listed; all = ih.0.all ∙ sym same }, ih.1)

  pub remove-walk : (head room : ℕ) (s : Skipped) → AskableAt nx ws head room a e s → (cur : ℕ) → cur ≡ (if s.last <? 1024 then s.last else head)
      → Folding (remove_step a e k) nx ws cur (remove_begin room) (fold_from (remove_step a e k) (remove_begin room) (stored_at nx ws head)) × Ordered 0 (stored_at nx ws cur)
  remove-walk head room s c cur ec =
      elim (dec_lt s.last 1024) [
        | yes l ↦
            (let i : cur ≡ last 1024 c.skipped.done = ec ∙ simp (lt-ltb s.last 1024 l) c.skipped.here in
            rw i
            (from_last c.low (remove_begin room) s.next head 0 c.skipped.done c.askable.list.listed.listed c.skipped.whole (rw c.skipped.here at l) c.skipped.each c.askable.list.ordered c.below c.under))
        | no l ↦
            (let i : cur ≡ head = ec ∙ simp (le-ltb s.last 1024 (omega arith)) in
            rw i (record { listed = c.askable.list.listed.listed; all = refl }, c.askable.list.ordered))
      ]

  module _ (cur : ℕ) (ask b w : RemoveAsk) (r : Region) (f : Folding (remove_step a e k) nx ws cur ask w) (o : Ordered 0 (stored_at nx ws cur)) (l : cur < 1024) (er : r ≡ region_at ws cur) (eb : b ≡ remove_step a e k ask r) where
    pub remove-on : Folding (remove_step a e k) nx ws (get_or nx cur 0) b w × Ordered 0 (stored_at nx ws (get_or nx cur 0))
    remove-on = fold_on (remove_step a e k) nx ws cur ask b w r f o l er eb

    pub remove-stop : (g : Bool) → (g ≡ true → (a.0 ≤ r.start.0) × (e.0 ≤ r.start.0)) → g ≡ true → b ≡ w
    remove-stop g eg d =
        let q = eg d in
        let ls : r.start.0 < r.end.0 = rw er (cur-some nx ws cur f.listed l o) in
        let i : r.end.0 ≡ (region_at ws cur).end.0 = rw er in
        sym (remove-rest a e k b (region_at ws cur).end.0 (stored_at nx ws (get_or nx cur 0)) (later-ordered nx ws cur f.listed l o) (omega (arith, q.0)) (omega (arith, q.1)))
        ∙ remove-on.0.all
