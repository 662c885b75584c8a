-- A call that may change one compartment, of all eight.
use Prim.Native.Nat.{ℕ, ◌<◌}
use mathlib.Core.Path.{◌≡◌, refl, sym, ap, subst, ◌∙◌}
use mathlib.Core.Bool.{true}
use mathlib.Core.List.{List}
use native.Mathlib.Omega.{arith}
use lib.ListN.{length, get_or, set}
use lib.Seq.{get_or-set_same, set-get_or}
use Rattle.definitions.specs.Reckoning.{compartment_of, reckon}
use Rattle.definitions.specs.Calls.{compartment, allowance, others, answer_in, after}
use Rattle.definitions.specs.Answers.{Answer}
use Rattle.definitions.specs.declared.remapper.Segment.{Segment}
use Rattle.definitions.specs.declared.call.Call.{Call}
use Rattle.definitions.specs.declared.call.Call.TheVariants.{Allow}
use Rattle.gen_arena.specs.declared.GenArena.{GenArena}
use Rattle.capability_engine.specs.declared.region.RegionTracker.{RegionTracker}
use Rattle.capability_engine.specs.declared.remapper.Remapper.{Remapper}
use Rattle.capability_engine.specs.declared.remapper.Change.{Change}
use Rattle.capability_engine.specs.declared.remapper.Change.TheVariants.{Keep}
use Rattle.capability_engine.specs.declared.compartments.Tables.{Tables}
use Rattle.capability_engine.specs.CompartmentGrown.{trackers_of, Grown, Answers}
use Rattle.capability_engine.specs.CompartmentSteps.{on_regions, on_segments, no_tracker, OnRegions, OnAllow, OnSegments, AsksSegments}
use Rattle.capability_engine.specs.RemapHeld.{IsSound}
use Rattle.capability_engine.specs.RemapAnswers.{Does, Decides}
use Rattle.capability_engine.proofs.RemapCalls.{holding, did-keep}
use Rattle.capability_engine.proofs.CompartmentLaws.{eight}
use Rattle.capability_engine.proofs.CompartmentFacts.{sound, regions-grown, allow-grown, segments-answer, segments-kept, segments-grown}

-- what is read where there is something does not depend on what would be read past the end
pub get_d_any : {A : Type 0} (l : List A) (k : ℕ) (d e : A) → k < length l → get_or l k d ≡ get_or l k e
get_d_any l k d e h = ap (λ x. get_or x k d) (sym (set-get_or l k e)) ∙ get_or-set_same l k (get_or l k e) d h

-- what the first questions of a call on segments come to: it is answered, or a change asks the rest and does it
module _ (call : Call) (remapper : Remapper) (r : Change) (asks : AsksSegments call remapper r) where
  pub settles : (out : Remapper) (u : Answer) → ((a : Answer) (ss : List Segment) → Decides remapper a ss r → Does remapper a ss out u) → OnSegments call remapper out u
  settles out u did = λ n m c h o. did (answer_in n m c call) (reckon call c).segments (asks n m c h o)

  -- the change can be made
  module _ (o : on_segments call ≡ true) (h : IsSound remapper) where
    pub ready : (a : Answer) × (ss : List Segment) × Decides remapper a ss r
    ready = (answer_in 0 0 (holding h.0) call, (reckon call (holding h.0)).segments, asks 0 0 (holding h.0) h.1 o)

module _ (words nx links gens : List ℕ) (t : Tables) (calls : List Call) (g : Grown words nx links gens t calls)
    (call : Call) (k : ℕ) (ek : k ≡ compartment_of call) (lk : k < 8) where
  pub regions-answers : (d : RegionTracker) (ws' nx' links' gens' : List ℕ) (tracker' : RegionTracker) (arena' : GenArena) (r : Answer) → on_regions call ≡ true
      → OnRegions call (get_or t.trackers k d) t.arena words nx links gens ws' nx' links' gens' tracker' arena' r
      → Answers calls call words nx links gens t ws' nx' links' gens' (record { arena = arena'; trackers = set t.trackers k tracker'; remappers = t.remappers }) r
  regions-answers d ws' nx' links' gens' tracker' arena' r o on =
      let e : get_or t.trackers (compartment_of call) no_tracker ≡ get_or t.trackers k d =
      rw (sym ek) (get_d_any t.trackers k no_tracker d (omega (arith, eight words nx links gens (trackers_of t) calls g.pooled))) in
      let p = on (trackers_of t) calls g.pooled o (rw (sym ek) lk) refl e in
      rw ek (record {
        answered = p.answered;
        grown = regions-grown words nx links gens t calls g call ws' nx' links' gens' _ r o p;
        kept = λ f.
            (let s = p.kept f in
            record {
              same_words = s.same_words;
              same_next = s.same_next;
              same_links = s.same_links;
              same_gens = s.same_gens;
              same_tables = λ i. record { arena = (s.same_trackers i).arena; trackers = (s.same_trackers i).list; remappers = t.remappers };
            });
      })

  pub segments-answers : (d out : Remapper) (r : Answer) → on_segments call ≡ true → OnSegments call (get_or t.remappers k d) out r
      → Answers calls call words nx links gens t words nx links gens (record { arena = t.arena; trackers = t.trackers; remappers = set t.remappers k out }) r
  segments-answers d out r s on =
      let l : compartment_of call < 8 = rw (sym ek) lk in
      let does = rw ek at (on (others (after calls).allowances k) (allowance (after calls) k) (compartment (after calls) k) (sound words nx links gens t calls g k lk d) s) in
      rw ek (record {
        answered = segments-answer words nx links gens t calls g call l s d out r does;
        grown = segments-grown words nx links gens t calls g call l s d out r does;
        kept = λ f.
            (let e = segments-kept words nx links gens t calls g call l s d out r does f in
            record {
              same_words = refl;
              same_next = refl;
              same_links = refl;
              same_gens = refl;
              same_tables = λ i. record { arena = t.arena; trackers = t.trackers; remappers = e i };
            });
      })

  -- a call that keeps the remapper as it is leaves all tables as they are
  pub keeps-answers : (d : Remapper) (x : Answer) (r : Change) → on_segments call ≡ true → AsksSegments call (get_or t.remappers k d) r → r ≡ Keep x
      → Answers calls call words nx links gens t words nx links gens t x
  keeps-answers d x r s asks e =
      let self : Remapper = get_or t.remappers k d in
      subst (λ l. Answers calls call words nx links gens t words nx links gens (record { arena = t.arena; trackers = t.trackers; remappers = l }) x) (set-get_or t.remappers k d)
      (segments-answers d self x s (settles call self r asks self x (λ a ss did. did-keep self a ss r did x e)))

pub allows-answers : (words nx links gens : List ℕ) (t : Tables) (calls : List Call) (g : Grown words nx links gens t calls) (k n : ℕ) → k < 8
    → (ts : List RegionTracker) (r : Answer) → OnAllow t.trackers k n ts r
    → Answers calls (Allow k n) words nx links gens t words nx links gens (record { arena = t.arena; trackers = ts; remappers = t.remappers }) r
allows-answers words nx links gens t calls g k n l ts r on =
    let p = on words nx links gens (trackers_of t) calls g.pooled l refl in
    record {
      answered = p.answered;
      grown = allow-grown words nx links gens t calls g k n _ r p;
      kept = λ f.
          (let s = p.kept f in
          record {
            same_words = refl;
            same_next = refl;
            same_links = refl;
            same_gens = refl;
            same_tables = λ i. record { arena = t.arena; trackers = (s.same_trackers i).list; remappers = t.remappers };
          });
    }
