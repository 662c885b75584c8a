-- Document 02, order 8, over every list of calls: an address has a right exactly while, since its holders were last 0, more
-- accepted adds than removes have named it there.
use Rattle.std.specs.Prelude.{if◌then◌else◌}
use Prim.Native.Nat.{ℕ, zero, suc, ◌+◌, ◌-◌, ◌^◌, ◌<◌, ◌≤◌}
use mathlib.Core.Path.{◌≡◌, refl, sym, ap, ◌∙◌, subst}
use mathlib.Core.Bool.{Bool, true, false, true≢false, ◌&&◌, ◌||◌}
use mathlib.Core.List.{List, [], ◌∷◌}
use lib.ListN.{length}
use native.Mathlib.Omega.{arith}
use borrow.Author.Tests.{ltb-true, lt-ltb, le-ltb, leb-false, eqb-true, ne_eqb}
use Rattle.definitions.specs.Tests.{◌<?◌, ◌≤?◌, ◌=?◌, inside, bit, all, keep}
use Rattle.definitions.specs.Rights.{Right, UNCACHEABLE, named, count_of, counters_of}
use Rattle.definitions.specs.Values.{nothing, held, raise, lower, rights_of, changed_in}
use Rattle.definitions.specs.Regions.{has, meets, regions}
use Rattle.definitions.specs.Reckoning.{Compartment, empty, with_values, with_segments, reckon, compartment_of, reckoning}
use Rattle.definitions.specs.Tally.{Tally, no_tally, tallied, tally_from, tally}
use Rattle.definitions.specs.Questions.{accepted, every_named, can_lower}
use Rattle.definitions.specs.Calls.{State, start, compartment, allowance, others, answer_in, answer, next, after_from, after, fed_from, fed}
use Rattle.definitions.specs.declared.addr.HostAddr.{HostAddr}
use Rattle.definitions.specs.declared.region.Values.{Values}
use Rattle.definitions.specs.declared.region.Region.{Region}
use Rattle.definitions.specs.declared.call.Call.{Call}
use Rattle.definitions.specs.declared.call.Call.TheVariants.{Add, Remove, Refcount, Overlaps, Map, Unmap, UnmapGpa, Permissions, Remap, Mappings, Allow}
use Rattle.definitions.proofs.Bools.{Where, inn, low, high, where?, both}
use Rattle.definitions.proofs.RightLaws.{each_right, count-made, named-bit, named-rights}
use Rattle.definitions.proofs.Lists.{values_at}
use Rattle.definitions.proofs.RunLaws.{held-nothing, regions-values}
use Rattle.definitions.proofs.Passed.{remove-passed}
use Rattle.definitions.proofs.Reckoned.{accepted-in, next-at, length-next, start-empty, reckoned}
use Rattle.definitions.proofs.Stored.{Stored, stored_next, start-stored}

-- what all regions that meet [a, e) pass, a held address of the range passes
touched-passes : (p : Values → Bool) (a e x : HostAddr) (rs : List Region) → a.0 ≤ x.0 → x.0 < e.0
    → all (λ q. p q.values) (keep (meets a e) rs) ≡ true → held (values_at rs x) ≡ true → p (values_at rs x) ≡ true
unfolding meets values_at has
touched-passes p a e x [] i j m h = absurd (held-nothing h)
touched-passes p a e x (r ∷ rs) i j m h = go (where? r.start.0 r.end.0 x.0) (meets a e r) refl m h (λ m h. touched-passes p a e x rs i j m h)
  where
    go : Where r.start.0 r.end.0 x.0 → (b : Bool) → meets a e r ≡ b
        → all (λ q. p q.values) (if meets a e r then r ∷ keep (meets a e) rs else keep (meets a e) rs) ≡ true → held (values_at (r ∷ rs) x) ≡ true
        → (all (λ q. p q.values) (keep (meets a e) rs) ≡ true → held (values_at rs x) ≡ true → p (values_at rs x) ≡ true) → p (values_at (r ∷ rs) x) ≡ true
    go (inn d k l) true f m h ih = simp d (both (p r.values) (all (λ q. p q.values) (keep (meets a e) rs)) (simp f at m)).0
    go (inn d k l) false f m h ih =
        absurd (true≢false (sym (simp (lt-ltb a.0 r.end.0 (omega arith), lt-ltb r.start.0 e.0 (omega arith))) ∙ f))
    go (low d k) true f m h ih =
        simp d (ih (both (p r.values) (all (λ q. p q.values) (keep (meets a e) rs)) (simp f at m)).1 (simp d at h))
    go (low d k) false f m h ih = simp d (ih (simp f at m) (simp d at h))
    go (high d k l) true f m h ih =
        simp d (ih (both (p r.values) (all (λ q. p q.values) (keep (meets a e) rs)) (simp f at m)).1 (simp d at h))
    go (high d k l) false f m h ih = simp d (ih (simp f at m) (simp d at h))

-- the tally shows the values
pub record Tallies (t : Right) (v : Values) (n : Tally) : Type 0 where
  pub holders : v.refcount ≡ n.holders
  pub counted : count_of t v + n.removes ≡ n.adds

nothing-tallies : (t : Right) → Tallies t nothing no_tally
unfolding nothing no_tally
nothing-tallies t = record { holders = refl; counted = omega (arith, count-made 0 (λ t. 0) t) }

raise-tallies : (t : Right) (r : ℕ) (v : Values) (n : Tally) → Tallies t v n
    → Tallies t (raise r v) (record { holders = n.holders + 1; adds = n.adds + named t r; removes = n.removes })
unfolding raise
raise-tallies t r v n m = record {
  holders = omega (arith, m.holders);
  counted = omega (arith, m.counted, count-made (v.refcount + 1) (λ t. count_of t v + named t r) t);
}

-- a named count of 0 is not lowered
enough : (t : Right) (r : ℕ) (v : Values) → every_named (λ n. 0 <? n) r v ≡ true → named t r ≤ count_of t v
unfolding every_named
enough t r v h = go (named t r =? 0) refl (each_right (λ t. (named t r =? 0) || (0 <? count_of t v)) h t)
  where
    go : (b : Bool) → (named t r =? 0) ≡ b → (b || (0 <? count_of t v)) ≡ true → named t r ≤ count_of t v
    go true d k = omega (arith, eqb-true (named t r) 0 d)
    go false d k = omega (arith, ltb-true 0 (count_of t v) k, named-bit t r)

lower-tallies : (t : Right) (r : ℕ) (v : Values) (n : Tally) → Tallies t v n → (held v ≡ true → every_named (λ n. 0 <? n) r v ≡ true)
    → Tallies t (lower r v) (if n.holders ≤? 1 then no_tally else record { holders = n.holders - 1; adds = n.adds; removes = n.removes + named t r })
unfolding lower held
lower-tallies t r v n m h = rw (← m.holders) (go (v.refcount ≤? 1) refl)
  where
    go : (b : Bool) → (v.refcount ≤? 1) ≡ b
        → Tallies t (if b then nothing else record { refcount = v.refcount - 1; counters = counters_of (λ t. count_of t v - named t r) })
        (if b then no_tally else record { holders = v.refcount - 1; adds = n.adds; removes = n.removes + named t r })
    go true d = nothing-tallies t
    go false d =
        let l : 1 < v.refcount = leb-false v.refcount 1 d in
        record {
          holders = refl;
          counted = omega (
            arith,
            m.counted,
            enough t r v (h (lt-ltb 0 v.refcount (omega arith))),
            count-made (v.refcount - 1) (λ t. count_of t v - named t r) t,
          );
        }

-- what is left is above 0 exactly if there was more of one
more : (n r a : ℕ) → n + r ≡ a → (0 <? n) ≡ (r <? a)
more zero r a h = sym (le-ltb r a (omega arith))
more (suc n) r a h = lt-ltb 0 (suc n) (omega arith) ∙ sym (lt-ltb r a (omega arith))

-- one accepted call
module _ (t : Right) (x : HostAddr) (small : x.0 < 2 ^ 64) where
  call-tallies : (n l : ℕ) (c : Compartment) (call : Call) → Stored c → accepted (answer_in n l c call) ≡ true → (m : Tally)
      → Tallies t (c.values x) m → Tallies t ((reckon call c).values x) (tallied t x call m)
  unfolding answer_in reckon with_values with_segments tallied changed_in can_lower
  call-tallies n l c (Add k a e r) s h m i = go (inside a.0 e.0 x.0) refl
    where
      go : (b : Bool) → inside a.0 e.0 x.0 ≡ b → Tallies t ((reckon (Add k a e r) c).values x) (tallied t x (Add k a e r) m)
      go true d = simp d (raise-tallies t r (c.values x) m i)
      go false d = simp d i
  call-tallies n l c (Remove k a e r) s h m i = go (where? a.0 e.0 x.0)
    where
      asked : a.0 ≤ x.0 → x.0 < e.0 → held (c.values x) ≡ true → every_named (λ n. 0 <? n) r (c.values x) ≡ true
      asked i j y =
          let v : values_at (regions c.values) x ≡ c.values x =
          regions-values c.values s.blank x ∙ simp (lt-ltb x.0 (2 ^ 64) small) in
          rw v at (touched-passes (every_named (λ n. 0 <? n) r) a e x (regions c.values) i j
          ((remove-passed l c a e r h).counts (ne_eqb a.0 e.0 (λ q. omega arith))) (ap held v ∙ y))

      go : Where a.0 e.0 x.0 → Tallies t ((reckon (Remove k a e r) c).values x) (tallied t x (Remove k a e r) m)
      go (inn d p q) = simp d (lower-tallies t r (c.values x) m i (asked p q))
      go (low d p) = simp d i
      go (high d p q) = simp d i
  call-tallies n l c (Map k h g u r) s p m i = i
  call-tallies n l c (Unmap k h u) s p m i = i
  call-tallies n l c (UnmapGpa k g u) s p m i = i
  call-tallies n l c (Refcount k a e) s p m i = i
  call-tallies n l c (Overlaps k g u) s p m i = i
  call-tallies n l c (Permissions k j u) s p m i = i
  call-tallies n l c (Remap k j u) s p m i = i
  call-tallies n l c (Mappings k) s p m i = i
  call-tallies n l c (Allow k u) s p m i = i

  next-tallies : (s : State) (c : Call) (k : ℕ) → length s.compartments ≡ 8 → ((k : ℕ) → Stored (compartment s k)) → (m : Tally)
      → Tallies t ((compartment s k).values x) m
      → Tallies t ((compartment (next s c) k).values x) (if (compartment_of c =? k) && accepted (answer s c) then tallied t x c m else m)
  next-tallies s c k l h m i = rw (next-at s c k l) (go (compartment_of c =? k) refl (accepted (answer s c)) refl)
    where
      go : (b : Bool) → (compartment_of c =? k) ≡ b → (u : Bool) → accepted (answer s c) ≡ u
          → Tallies t ((if (compartment_of c =? k) && accepted (answer s c) then reckon c (compartment s k) else compartment s k).values x)
          (if (compartment_of c =? k) && accepted (answer s c) then tallied t x c m else m)
      go false e u d = simp e i
      go true e false d = simp (e, d) i
      go true e true d =
          let same : compartment_of c ≡ k = eqb-true (compartment_of c) k e in
          simp (e, d) (call-tallies (others s.allowances k) (allowance s k) (compartment s k) c (h k) (rw same at (accepted-in s c d).1) m i)

  tallies-from : (calls : List Call) (s : State) (k : ℕ) → length s.compartments ≡ 8 → ((k : ℕ) → Stored (compartment s k)) → (m : Tally)
      → Tallies t ((compartment s k).values x) m → Tallies t ((compartment (after_from s calls) k).values x) (tally_from t k x m (fed_from s calls))
  unfolding after_from fed_from tally_from
  tallies-from [] s k l h m i = i
  tallies-from (c ∷ cs) s k l h m i =
      tallies-from cs (next s c) k (length-next s c ∙ l) (stored_next s c l h) _ (next-tallies s c k l h m i)

  -- what the reckoning keeps is what the tally says
  pub tallies : (calls : List Call) (k : ℕ) → Tallies t ((reckoning k (fed calls)).values x) (tally t k x (fed calls))
  unfolding after fed tally start empty
  tallies calls k =
      subst (λ (c : Compartment). Tallies t (c.values x) (tally t k x (fed calls))) (reckoned calls k)
      (tallies-from calls start k refl start-stored no_tally (rw (start-empty k) empty-tallies))
    where
      empty-tallies : Tallies t (empty.values x) no_tally
      empty-tallies = nothing-tallies t

  -- the rights of an address name one exactly while more accepted adds than removes have
  pub while-named : (calls : List Call) (k : ℕ)
      → named t (rights_of ((reckoning k (fed calls)).values x)).0 ≡ bit ((tally t k x (fed calls)).removes <? (tally t k x (fed calls)).adds)
  while-named calls k =
      named-rights t ((reckoning k (fed calls)).values x) ∙ ap bit (more _ _ _ (tallies calls k).counted)

-- order 8's sentence
pub uncacheable-while : (calls : List Call) (k : ℕ) (x : HostAddr) → x.0 < 2 ^ 64
    → named UNCACHEABLE (rights_of ((reckoning k (fed calls)).values x)).0
    ≡ bit ((tally UNCACHEABLE k x (fed calls)).removes <? (tally UNCACHEABLE k x (fed calls)).adds)
uncacheable-while calls k x small = while-named UNCACHEABLE x small calls k
