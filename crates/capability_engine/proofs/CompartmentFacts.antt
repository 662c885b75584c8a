-- What grown tables give to whoever takes one tracker or one remapper out of them, and what they are after it is put back.
use Prim.Native.Nat.{ℕ, zero, suc, ◌<◌, ◌≤◌}
use mathlib.Core.Path.{◌≡◌, refl, sym, ap, ◌∙◌}
use mathlib.Core.Bool.{Bool, true, false, true≢false}
use mathlib.Core.List.{List, [], ◌∷◌, ◌++◌}
use native.Mathlib.Omega.{arith}
use lib.ListN.{length, get_or, set}
use lib.Seq.{set-get_or}
use Rattle.definitions.specs.Regions.{regions}
use Rattle.definitions.specs.Reckoning.{Compartment, empty, compartment_of, with_values, with_segments, reckon}
use Rattle.definitions.specs.Questions.{accepted}
use Rattle.definitions.specs.Calls.{State, compartment, allowance, together, others, next, answer_in, answer, after}
use Rattle.definitions.specs.Answers.{Answer}
use Rattle.definitions.specs.declared.call.Call.{Call}
use Rattle.definitions.specs.declared.call.Call.TheVariants.{Add, Remove, Refcount, Overlaps, Map, Unmap, UnmapGpa, Permissions, Remap, Mappings, Allow}
use Rattle.definitions.specs.Independence.{allows}
use Rattle.definitions.proofs.Independence.{allowances-kept, compartments-kept}
use Rattle.definitions.proofs.Pool.{allowances-bound}
use Rattle.definitions.proofs.Stored.{stored}
use Rattle.definitions.proofs.Reckoned.{after-snoc, next-accepted, next-refused, length-after}
use Rattle.capability_engine.specs.declared.remapper.Remapper.{Remapper}
use Rattle.capability_engine.specs.declared.compartments.Tables.{Tables}
use Rattle.capability_engine.specs.PoolChain.{stored_at}
use Rattle.capability_engine.specs.PoolOwn.{heap}
use Rattle.capability_engine.specs.RegionAsks.{Tracked, Allotted}
use Rattle.capability_engine.specs.RemapHeld.{Holds, Sound}
use Rattle.capability_engine.specs.RemapAnswers.{Does}
use Rattle.capability_engine.specs.RemapListing.{Copied}
use Rattle.capability_engine.specs.StreamCursor.{Whole, Table}
use Rattle.capability_engine.specs.CompartmentGrown.{allowances_of, Trackers, trackers_of, Remapped, Grown}
use Rattle.capability_engine.specs.CompartmentSteps.{on_regions, on_segments, PoolAnswers, no_tracker}
use Rattle.capability_engine.proofs.StreamStarts.{table_of}
use Rattle.capability_engine.proofs.CompartmentLaws.{holds-set, answer-in, eight, repooled, here, grown-tracked, grown-allotted, grown-whole}

-- ---- lists of remappers

remapped-at : (ms : List Remapper) (cs : List Compartment) (k : ℕ) (d : Remapper) → Remapped ms cs → k < length cs → Holds (get_or ms k d) (get_or cs k empty).segments
remapped-at [] [] k d h l = absurd (omega arith)
remapped-at [] (c ∷ cs) k d h l = absurd h
remapped-at (m ∷ ms) [] k d h l = absurd h
remapped-at (m ∷ ms) (c ∷ cs) zero d h l = h.0
remapped-at (m ∷ ms) (c ∷ cs) (suc k) d h l = remapped-at ms cs k d h.1 (omega arith)

-- a compartment and its remapper are replaced
remapped-set : (ms : List Remapper) (cs : List Compartment) (k : ℕ) (m : Remapper) (c : Compartment) → Remapped ms cs → Holds m c.segments → Remapped (set ms k m) (set cs k c)
remapped-set [] [] k m c h n = tt
remapped-set [] (b ∷ cs) k m c h n = absurd h
remapped-set (a ∷ ms) [] k m c h n = absurd h
remapped-set (a ∷ ms) (b ∷ cs) zero m c h n = (n, h.1)
remapped-set (a ∷ ms) (b ∷ cs) (suc k) m c h n = (h.0, remapped-set ms cs k m c h.1 n)

-- a compartment is replaced by one of the same segments
remapped-kept : (ms : List Remapper) (cs : List Compartment) (k : ℕ) (c : Compartment) → Remapped ms cs → c.segments ≡ (get_or cs k empty).segments → Remapped ms (set cs k c)
remapped-kept [] [] k c h e = tt
remapped-kept [] (b ∷ cs) k c h e = absurd h
remapped-kept (a ∷ ms) [] k c h e = absurd h
remapped-kept (a ∷ ms) (b ∷ cs) zero c h e = (rw e h.0, h.1)
remapped-kept (a ∷ ms) (b ∷ cs) (suc k) c h e = (h.0, remapped-kept ms cs k c h.1 e)

-- a call on regions keeps the segments, and one on segments the values
keeps-segments : (call : Call) (c : Compartment) → on_regions call ≡ true → (reckon call c).segments ≡ c.segments
unfolding on_regions reckon with_values
keeps-segments (Add k a e r) c h = refl
keeps-segments (Remove k a e r) c h = refl
keeps-segments (Refcount k a e) c h = refl
keeps-segments (Overlaps k g n) c h = refl
keeps-segments (Map k x g n t) c h = absurd (true≢false (sym h))
keeps-segments (Unmap k x n) c h = absurd (true≢false (sym h))
keeps-segments (UnmapGpa k g n) c h = absurd (true≢false (sym h))
keeps-segments (Permissions k i n) c h = refl
keeps-segments (Remap k i n) c h = refl
keeps-segments (Mappings k) c h = refl
keeps-segments (Allow k n) c h = refl

keeps-values : (call : Call) (c : Compartment) → on_segments call ≡ true → (reckon call c).values ≡ c.values
unfolding on_segments reckon with_segments
keeps-values (Add k a e r) c h = absurd (true≢false (sym h))
keeps-values (Remove k a e r) c h = absurd (true≢false (sym h))
keeps-values (Refcount k a e) c h = refl
keeps-values (Overlaps k g n) c h = refl
keeps-values (Map k x g n t) c h = refl
keeps-values (Unmap k x n) c h = refl
keeps-values (UnmapGpa k g n) c h = refl
keeps-values (Permissions k i n) c h = refl
keeps-values (Remap k i n) c h = refl
keeps-values (Mappings k) c h = refl
keeps-values (Allow k n) c h = refl

not-allows : (call : Call) → on_segments call ≡ true → allows call ≡ false
unfolding on_segments allows
not-allows (Add k a e r) h = refl
not-allows (Remove k a e r) h = refl
not-allows (Refcount k a e) h = refl
not-allows (Overlaps k g n) h = refl
not-allows (Map k x g n t) h = refl
not-allows (Unmap k x n) h = refl
not-allows (UnmapGpa k g n) h = refl
not-allows (Permissions k i n) h = refl
not-allows (Remap k i n) h = refl
not-allows (Mappings k) h = refl
not-allows (Allow k n) h = absurd (true≢false (sym h))

remapped-next : (ms : List Remapper) (s : State) (call : Call) → on_regions call ≡ true → Remapped ms s.compartments → Remapped ms (next s call).compartments
unfolding compartment
remapped-next ms s call o h = go (accepted (answer s call)) refl
  where
    go : (b : Bool) → accepted (answer s call) ≡ b → Remapped ms (next s call).compartments
    go true d = rw (next-accepted s call d) (remapped-kept ms s.compartments (compartment_of call) _ h (keeps-segments call _ o))
    go false d = rw (next-refused s call d) h

module _ (words next links gens : List ℕ) (t : Tables) (calls : List Call) (g : Grown words next links gens t calls) where
  module _ (k : ℕ) (l : k < 8) where
    pub tracked : Tracked next words (heap links gens t.arena) (get_or t.trackers k no_tracker).head
    tracked = grown-tracked words next links gens (trackers_of t) calls g.pooled k l no_tracker

    pub held : (d : Remapper) → Holds (get_or t.remappers k d) (compartment (after calls) k).segments
    unfolding compartment
    held d = remapped-at t.remappers (after calls).compartments k d g.remapped (omega (arith, length-after calls))

    pub allotted : Allotted next words (heap links gens t.arena) (get_or t.trackers k no_tracker)
    allotted = grown-allotted words next links gens (trackers_of t) calls g.pooled k l no_tracker

    pub sound : (d : Remapper) → Sound (get_or t.remappers k d) (compartment (after calls) k).segments
    sound d = let s = stored calls k in record { held = held d; order = s.order; unshared = s.unshared }

    pub whole : Whole next words (get_or t.trackers k no_tracker).head
    whole = grown-whole words next links gens (trackers_of t) calls g.pooled k l no_tracker

    pub stored_is : stored_at next words (get_or t.trackers k no_tracker).head ≡ regions (compartment (after calls) k).values
    stored_is = (here words next links gens (trackers_of t) calls g.pooled k l no_tracker).shown

    -- the segments copied as numbers
    pub table : (before copy : List ℕ) (n : ℕ) → 256 ≤ length before → Copied (compartment (after calls) k).segments before copy n → Table words copy n
    table before copy n room c =
        let s = stored calls k in
        table_of g.pooled.words_size (omega (arith, c.many, s.few)) (omega (arith, c.many, s.few, c.size)) c.same s.good s.order

  -- the tables after a call on regions, with the tracker that it changed put back
  pub regions-grown : (call : Call) (words' next' links' gens' : List ℕ) (t' : Trackers) (r : Answer) → on_regions call ≡ true
      → PoolAnswers calls call words next links gens (trackers_of t) words' next' links' gens' t' r
      → Grown words' next' links' gens' (record { arena = t'.arena; trackers = t'.list; remappers = t.remappers }) (calls ++ (call ∷ []))
  regions-grown call words' next' links' gens' t' r o p =
      record { pooled = p.pooled; remapped = rw (after-snoc calls call) (remapped-next t.remappers (after calls) call o g.remapped) }

  -- the same of another allowance
  pub allow-grown : (k n : ℕ) (t' : Trackers) (r : Answer) → PoolAnswers calls (Allow k n) words next links gens (trackers_of t) words next links gens t' r
      → Grown words next links gens (record { arena = t'.arena; trackers = t'.list; remappers = t.remappers }) (calls ++ (Allow k n ∷ []))
  unfolding allows
  allow-grown k n t' r p =
      let e : (after (calls ++ (Allow k n ∷ []))).compartments ≡ (after calls).compartments = rw (after-snoc calls (Allow k n)) (compartments-kept (after calls) (Allow k n) refl) in
      record { pooled = p.pooled; remapped = rw e g.remapped }

  pub trackers-eight : length t.trackers ≡ 8
  trackers-eight = eight words next links gens (trackers_of t) calls g.pooled

  pub pool-allowed : together (allowances_of t.trackers) ≤ 1024
  pool-allowed = rw g.pooled.allowed (allowances-bound calls)

  -- the same of a call on segments
  module _ (call : Call) (l : compartment_of call < 8) (s : on_segments call ≡ true) (d out : Remapper) (r : Answer)
      (does : Does (get_or t.remappers (compartment_of call) d) (answer_in (others (after calls).allowances (compartment_of call)) (allowance (after calls) (compartment_of call)) (compartment (after calls) (compartment_of call)) call)
      (reckon call (compartment (after calls) (compartment_of call))).segments out r) where
    pub segments-answer : r ≡ answer (after calls) call
    segments-answer = answer-in (after calls) call l r does.answer

    pub segments-kept : accepted r ≡ false → set t.remappers (compartment_of call) out ≡ t.remappers
    segments-kept f = ap (set t.remappers (compartment_of call)) (does.kept (ap accepted (sym does.answer) ∙ f)) ∙ set-get_or t.remappers (compartment_of call) d

    pub segments-grown : Grown words next links gens (record { arena = t.arena; trackers = t.trackers; remappers = set t.remappers (compartment_of call) out }) (calls ++ (call ∷ []))
    unfolding compartment
    segments-grown = go (accepted r) refl
      where
        more : List Call
        more = calls ++ (call ∷ [])

        same : (after more).allowances ≡ (after calls).allowances
        same = rw (after-snoc calls call) (allowances-kept (after calls) call (not-allows call s))

        go : (b : Bool) → accepted r ≡ b → Grown words next links gens (record { arena = t.arena; trackers = t.trackers; remappers = set t.remappers (compartment_of call) out }) more
        go true f =
            let n : (after more).compartments ≡ set (after calls).compartments (compartment_of call) (reckon call (compartment (after calls) (compartment_of call))) =
            ap (λ (x : State). x.compartments) (after-snoc calls call) ∙ next-accepted (after calls) call (ap accepted (sym segments-answer) ∙ f) in
            record {
              pooled = repooled words next links gens (trackers_of t) calls g.pooled more (rw n (holds-set next words t.trackers (after calls).compartments (compartment_of call) _ g.pooled.holds
                  (omega (arith, eight words next links gens (trackers_of t) calls g.pooled)) (ap regions (keeps-values call _ s)))) same;
              remapped = rw n (remapped-set t.remappers (after calls).compartments (compartment_of call) out _ g.remapped (does.after (ap accepted (sym does.answer) ∙ f)));
            }
        go false f =
            let n : after more ≡ after calls = after-snoc calls call ∙ next-refused (after calls) call (ap accepted (sym segments-answer) ∙ f) in
            record {
              pooled = repooled words next links gens (trackers_of t) calls g.pooled more (rw n g.pooled.holds) same;
              remapped = rw (segments-kept f, n) g.remapped;
            }
