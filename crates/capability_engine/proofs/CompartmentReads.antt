-- Calls that only read, and calls that name no compartment: the tables stay.
use Prim.Native.Nat.{ℕ, ◌≤◌, ◌<◌}
use mathlib.Core.Path.{◌≡◌, refl, sym, ap, ◌∙◌}
use mathlib.Core.List.{List, [], ◌∷◌, ◌++◌, map}
use lib.ListN.{length, get_or}
use borrow.Author.Tests.{lt-ltb, le-ltb}
use Rattle.definitions.specs.Regions.{regions, refcount_of, permission_of}
use Rattle.definitions.specs.Stream.{stream}
use Rattle.definitions.specs.Pages.{page, mapping_group, permission_group, region_group, segment_group, record_len, Filled}
use Rattle.definitions.specs.Reckoning.{Compartment, reckon, compartment_of}
use Rattle.definitions.specs.Questions.{accepted, on_refcount, on_overlaps}
use Rattle.definitions.specs.Calls.{compartment, allowance, others, allowed, stream_of, stream_groups, permission_groups, region_groups, segment_groups, answer_in, answer, after}
use Rattle.definitions.specs.declared.addr.HostAddr.{HostAddr}
use Rattle.definitions.specs.declared.addr.GuestAddr.{GuestAddr}
use Rattle.definitions.specs.declared.region.Region.{Region}
use Rattle.definitions.specs.declared.remapper.Segment.{Segment}
use Rattle.definitions.specs.declared.answer.Refusal.{Refusal}
use Rattle.definitions.specs.declared.answer.Refusal.TheVariants.{NoCompartment}
use Rattle.definitions.specs.Answers.{Answer}
use Rattle.std.specs.Prelude.{Ok, Err, IsErrAnd}
use Rattle.definitions.specs.declared.call.Call.{Call}
use Rattle.definitions.specs.declared.call.Call.TheVariants.{Refcount, Overlaps, Permissions, Remap}
use Rattle.definitions.proofs.Reckoned.{after-snoc, next-refused, next-read}
use Rattle.capability_engine.specs.declared.region.RegionTracker.{RegionTracker}
use Rattle.capability_engine.specs.declared.compartments.Tables.{Tables}
use Rattle.capability_engine.specs.PoolChain.{stored_at}
use Rattle.capability_engine.specs.CompartmentGrown.{trackers_of, Grown, Answers, Reads, page_left, ReadsPage, ReadsList}
use Rattle.capability_engine.proofs.CompartmentLaws.{passed-one, failed-one, answer-in, repooled, here}

-- what `?` hands on of a compartment that there is not
pub handed : (r : Answer) (e : Refusal) → IsErrAnd r (λ y. y ≡ e) → e ≡ NoCompartment → r ≡ Err NoCompartment
handed (Ok x) e h q = absurd h
handed (Err y) e h q = ap Err (h ∙ q)

-- ---- pages

module _ (w : ℕ) (gs : List (List ℕ)) (k from : ℕ) (out : List ℕ) where
  page-left : (out' : List ℕ) (n : ℕ) → k < 8 → Filled w gs from out out' n → out' ≡ page_left w gs k from out
  unfolding page_left
  page-left out' n l f = f.slice ∙ sym (rw (lt-ltb k 8 l))

  no-page : 8 ≤ k → out ≡ page_left w gs k from out
  unfolding page_left
  no-page l = sym (rw (le-ltb k 8 l))

-- of a stored list
module _ (w : ℕ) (groups : Compartment → List (List ℕ)) (calls : List Call) (k from : ℕ) (out : List ℕ) where
  pub past-list : 8 ≤ k → ReadsList w groups calls k from out out (Err NoCompartment)
  past-list l = record { answered = failed-one k l _; slice = no-page w _ k from out l }

  reads-list : (out' : List ℕ) (n : ℕ) → k < 8 → Filled w (groups (compartment (after calls) k)) from out out' n → ReadsList w groups calls k from out out' (Ok n)
  reads-list out' n l f = record { answered = passed-one k l (Ok n) _ (ap Ok f.many); slice = page-left w _ k from out out' n l f }

module _ (words nx links gens : List ℕ) (t : Tables) (calls : List Call) (g : Grown words nx links gens t calls) where
  grown-as : (more : List Call) → after more ≡ after calls → Grown words nx links gens t more
  grown-as more e =
      record {
        pooled = repooled words nx links gens (trackers_of t) calls g.pooled more (rw e g.pooled.holds) (rw e);
        remapped = rw e g.remapped;
      }

  -- ---- any call

  module _ (call : Call) where
    pub past : 8 ≤ compartment_of call → Reads calls call words nx links gens t (Err NoCompartment)
    unfolding answer
    past l =
        let e : Err NoCompartment ≡ answer (after calls) call = failed-one (compartment_of call) l _ in
        record { answered = e; grown = grown-as (calls ++ (call ∷ [])) (after-snoc calls call ∙ next-refused (after calls) call (ap accepted (sym e))) }

    pub past-answers : 8 ≤ compartment_of call → Answers calls call words nx links gens t words nx links gens t (Err NoCompartment)
    past-answers l =
        record {
          answered = (past l).answered;
          grown = (past l).grown;
          kept = λ _. record { same_words = refl; same_next = refl; same_links = refl; same_gens = refl; same_tables = refl };
        }

    pub past-page : (w : ℕ) (groups : Compartment → List (List ℕ)) (from : ℕ) (out : List ℕ) → 8 ≤ compartment_of call
        → ReadsPage w groups from calls call words nx links gens t out out (Err NoCompartment)
    past-page w groups from out l = record { reads = past l; slice = no-page w _ (compartment_of call) from out l }

    module _ (l : compartment_of call < 8) (same : (c : Compartment) → reckon call c ≡ c) (leaves : (m : ℕ) → allowed call m ≡ m) where
      reads : (x : Answer) → x ≡ answer_in (others (after calls).allowances (compartment_of call)) (allowance (after calls) (compartment_of call)) (compartment (after calls) (compartment_of call)) call → Reads calls call words nx links gens t x
      reads x e =
          record { answered = answer-in (after calls) call l x e; grown = grown-as (calls ++ (call ∷ [])) (after-snoc calls call ∙ next-read (after calls) call (same _) (leaves _)) }

      reads-page : (w : ℕ) (groups : Compartment → List (List ℕ)) (from : ℕ) (out out' : List ℕ) (n : ℕ)
          → Filled w (groups (compartment (after calls) (compartment_of call))) from out out' n
          → answer_in (others (after calls).allowances (compartment_of call)) (allowance (after calls) (compartment_of call)) (compartment (after calls) (compartment_of call)) call ≡ Ok (length (page w (groups (compartment (after calls) (compartment_of call))) from (length out)))
          → ReadsPage w groups from calls call words nx links gens t out out' (Ok n)
      reads-page w groups from out out' n f e =
          record { reads = reads (Ok n) (ap Ok f.many ∙ sym e); slice = page-left w _ (compartment_of call) from out out' n l f }

  -- ---- each kind of call

  module _ (k : ℕ) (lk : k < 8) where
    pub overlapped : (a : GuestAddr) (n : ℕ) (r : Answer) → r ≡ on_overlaps (compartment (after calls) k) a n → Reads calls (Overlaps k a n) words nx links gens t r
    unfolding compartment_of reckon allowed answer_in
    overlapped a n r e = reads (Overlaps k a n) lk (λ c. refl) (λ m. refl) r e

    module _ (d : RegionTracker) where
      abbrev stored : List Region
      stored = stored_at nx words (get_or t.trackers k d).head

      stored-are : stored ≡ regions (compartment (after calls) k).values
      stored-are = (here words nx links gens (trackers_of t) calls g.pooled k lk d).shown

      pub counted : (a e : HostAddr) (n : ℕ) → n ≡ refcount_of a e stored → Reads calls (Refcount k a e) words nx links gens t (Ok n)
      unfolding compartment_of reckon allowed answer_in on_refcount
      counted a e n en = reads (Refcount k a e) lk (λ c. refl) (λ m. refl) (Ok n) (ap Ok (en ∙ ap (refcount_of a e) stored-are))

      pub permitted : (from : ℕ) (out out' : List ℕ) (n : ℕ) → Filled 3 (map (λ q. permission_group (permission_of q)) stored) from out out' n
          → ReadsPage 3 permission_groups from calls (Permissions k from (length out)) words nx links gens t out out' (Ok n)
      unfolding compartment_of reckon allowed answer_in permission_groups
      permitted from out out' n f = reads-page (Permissions k from (length out)) lk (λ c. refl) (λ m. refl) 3 permission_groups from out out' n (rw stored-are at f) refl

      pub streamed : (ss : List Segment) → ss ≡ (compartment (after calls) k).segments → (from : ℕ) (out out' : List ℕ) (n : ℕ)
          → Filled 5 (map mapping_group (stream stored ss)) from out out' n
          → ReadsPage 5 stream_groups from calls (Remap k from (length out)) words nx links gens t out out' (Ok n)
      unfolding compartment_of reckon allowed answer_in stream_groups stream_of
      streamed ss es from out out' n f = reads-page (Remap k from (length out)) lk (λ c. refl) (λ m. refl) 5 stream_groups from out out' n (rw (stored-are, es) at f) refl

      pub regions-listed : (from : ℕ) (out out' : List ℕ) (n : ℕ) → Filled record_len (map region_group stored) from out out' n → ReadsList record_len region_groups calls k from out out' (Ok n)
      unfolding region_groups
      regions-listed from out out' n f = reads-list record_len region_groups calls k from out out' n lk (rw stored-are at f)

    pub segments-listed : (ss : List Segment) → ss ≡ (compartment (after calls) k).segments → (from : ℕ) (out out' : List ℕ) (n : ℕ)
        → Filled 4 (map segment_group ss) from out out' n → ReadsList 4 segment_groups calls k from out out' (Ok n)
    unfolding segment_groups
    segments-listed ss es from out out' n f = reads-list 4 segment_groups calls k from out out' n lk (rw es at f)
