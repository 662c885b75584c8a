-- Demand 3 of document 01, "The reckoning", whole: `Statement`, which proofs/WholeStream.antt proves as `whole_stream`; and, at
-- the end, what document 02 says of two runs: order 4, `Independent`, proved as `independent_streams`, order 11, `Loan`, proved as
-- `handed_back`, and order 13, `SamePlans`, `Layout` and `NoLayout`, proved as `same_plans`, `yields_the_wish` and `no_script`.
-- Nothing is assumed but what the functions promise.
use Rattle.std.specs.Prelude.{ℕ, ◌+◌, ◌*◌, ◌/◌, ◌^◌, ◌<◌, ◌≤◌, ◌≡◌, Bool, true, false, ◌&&◌, List, [], ◌∷◌, ◌++◌, map, length, get_or, take, drop, Some, None}
use Rattle.definitions.specs.Tests.{◌=?◌, fits, each, all}
use Rattle.definitions.specs.Rights.{Right}
use Rattle.definitions.specs.Stream.{stream}
use Rattle.definitions.specs.Pages.{mapping_group}
use Rattle.definitions.specs.Reckoning.{Compartment, empty, reckoning, compartment_of}
use Rattle.definitions.specs.Agreement.{AgreesAt, GivesBack}
use Rattle.definitions.specs.Questions.{accepted}
use Rattle.definitions.specs.Calls.{stream_of, stream_groups, permission_groups, allowance}
use Rattle.definitions.specs.Bundles.{Step as RunStep, single, bundle, done, steps_fed}
use Rattle.definitions.specs.Independence.{own, seen}
use Rattle.definitions.specs.Loan.{undisturbed}
use Rattle.definitions.specs.Planner.{wanted, plan, adds, changes}
use Rattle.definitions.specs.declared.addr.HostAddr.{HostAddr}
use Rattle.definitions.specs.declared.remapper.Segment.{Segment}
use Rattle.definitions.specs.declared.remapper.Mapping.{Mapping}
use Rattle.definitions.specs.Answers.{Answer}
use Rattle.definitions.specs.declared.answer.Refusal.TheVariants.{NoScript}
use Rattle.std.specs.Prelude.{Ok, Err}
use Rattle.definitions.specs.declared.call.Call.{Call}
use Rattle.definitions.specs.declared.call.Call.TheVariants.{Add, Remove, Permissions, Remap}
use Rattle.capability_engine.specs.declared.remapper.Remapper.{Remapper}
use Rattle.capability_engine.specs.declared.stream.RemapCursor.{RemapCursor}
use Rattle.capability_engine.specs.declared.compartments.Tables.{Tables}
use Rattle.capability_engine.specs.PoolChain.{stored_at}
use Rattle.capability_engine.specs.RemapHeld.{Holds}
use Rattle.capability_engine.specs.RemapListing.{Copied}
use Rattle.capability_engine.specs.SegmentWords.{segments_from}
use Rattle.capability_engine.specs.StreamCursor.{Table, Whole, Ready, remaining, Step, Says}
use Rattle.capability_engine.specs.CompartmentGrown.{Grown, Creates, Answers, AnswersBundle, Reads, ReadsPage, ReadsPlan}
use Rattle.capability_engine.specs.CompartmentSteps.{no_tracker}

-- the pool's four slices and the tables
pub record Memory : Type 0 where
  pub words : List ℕ
  pub next : List ℕ
  pub links : List ℕ
  pub gens : List ℕ
  pub tables : Tables

abbrev pub GrownBy : Memory → List Call → Type 0
GrownBy m calls = Grown m.words m.next m.links m.gens m.tables calls

-- What the contracts in compartments.rt promise of a call on m that answers a. Add, remove, map, both unmaps and allow leave m';
-- get_refcount, overlaps and the page reads leave m as it is.
abbrev pub Changes : Call → Memory → Memory → Answer → Type 0
Changes call m m' a =
    (calls : List Call) → GrownBy m calls
    → Answers calls call m.words m.next m.links m.gens m.tables
    m'.words m'.next m'.links m'.gens m'.tables a

abbrev pub Asks : Call → Memory → Answer → Type 0
Asks call m a =
    (calls : List Call) → GrownBy m calls → Reads calls call m.words m.next m.links m.gens m.tables a

-- What `bundle` of the crate bundles promises of a bundle for compartment k on m.
abbrev pub Bundles : ℕ → List ℕ → Memory → Memory → Answer → Type 0
Bundles k ns m m' a =
    (calls : List Call) → GrownBy m calls
    → AnswersBundle calls k ns m.words m.next m.links m.gens m.tables
    m'.words m'.next m'.links m'.gens m'.tables a

-- What `plan` of the crate planning promises of a page of the script for a layout that is wanted in compartment k of m.
abbrev pub Plans : ℕ → List ℕ → ℕ → Memory → List ℕ → List ℕ → Answer → Type 0
Plans k ns from m out out' a = (calls : List Call) → GrownBy m calls → ReadsPlan calls k ns from out out' a

-- Any list of calls and bundles, run from `new`, each on what the last one left: what they leave, and they themselves, oldest
-- first, each with whether it was accepted.
pub data Ran : Memory → List (RunStep × Bool) → Type 0 where
  new : {m : Memory} {links gens : List ℕ}
      → Creates m.words m.next links gens m.links m.gens (Some m.tables)
      → Ran m []
  changed : {m m' : Memory} {heard : List (RunStep × Bool)} {call : Call} {a : Answer}
      → Ran m heard → Changes call m m' a → Ran m' (heard ++ ((single call, accepted a) ∷ []))
  asked : {m : Memory} {heard : List (RunStep × Bool)} {call : Call} {a : Answer}
      → Ran m heard → Asks call m a → Ran m (heard ++ ((single call, accepted a) ∷ []))
  bundled : {m m' : Memory} {heard : List (RunStep × Bool)} {k : ℕ} {ns : List ℕ} {a : Answer}
      → Ran m heard → Bundles k ns m m' a → Ran m' (heard ++ ((bundle k ns, accepted a) ∷ []))

-- What Tables::stream promises: a page of compartment k's stream from a mapping on, into the slice out, which is then out'.
abbrev pub Page : Memory → ℕ → ℕ → List ℕ → List ℕ → Answer → Type 0
Page m k from out out' a =
    (calls : List Call) → GrownBy m calls
    → ReadsPage 5 stream_groups from calls (Remap k from (length out)) m.words m.next m.links m.gens m.tables out out' a

-- Pages of whatever lengths start at 0, then at the sum of their answers: that sum, and the numbers read, in order.
pub data Paged (m : Memory) (k : ℕ) : ℕ → List ℕ → Type 0 where
  none : Paged m k 0 []
  more : {from many : ℕ} {got out out' : List ℕ}
      → Paged m k from got → Page m k from out out' (Ok many) → Paged m k (from + many) (got ++ take (5 * many) out')

-- Until one answers fewer than fit its slice.
pub data ByPages (m : Memory) (k : ℕ) : List ℕ → Type 0 where
  last : {from many : ℕ} {got out out' : List ℕ}
      → Paged m k from got → Page m k from out out' (Ok many) → many < length out / 5
      → ByPages m k (got ++ take (5 * many) out')

-- What copy_segments promises: the segments that a remapper holds are n groups of four numbers in a copy.
abbrev pub Copies : Remapper → List ℕ → List ℕ → ℕ → Type 0
Copies remapper slice copy n = (ss : List Segment) → Holds remapper ss → Copied ss slice copy n

-- What start promises: a cursor before the first mapping of the records from head on and of the segments in a copy.
abbrev pub Begins : List ℕ → List ℕ → List ℕ → ℕ → ℕ → RemapCursor → Type 0
Begins next words copy n head c =
    Table words copy n → Whole next words head
    → Ready next words copy n c × (remaining next words copy n c ≡ stream (stored_at next words head) (segments_from copy 0 n))

-- What next_mapping promises.
abbrev pub Steps : List ℕ → List ℕ → List ℕ → ℕ → RemapCursor → Step → Type 0
Steps next words copy n c r = Table words copy n → Ready next words copy n c → Says next words copy n c r

-- The cursor begins at compartment k's records and segments, and goes from mapping to mapping: where it stands, and the
-- mappings found, in order. (A lookup past the eight remappers would give `other`.)
pub data Stepped (m : Memory) (k : ℕ) (copy : List ℕ) (n : ℕ) : RemapCursor → List Mapping → Type 0 where
  none : {c : RemapCursor} {slice : List ℕ} (other : Remapper)
      → 256 ≤ length slice → Copies (get_or m.tables.remappers k other) slice copy n
      → Begins m.next m.words copy n (get_or m.tables.trackers k no_tracker).head c
      → Stepped m k copy n c []
  more : {c d : RemapCursor} {x : Mapping} {found : List Mapping}
      → Stepped m k copy n c found → Steps m.next m.words copy n c (Some (x, d))
      → Stepped m k copy n d (found ++ (x ∷ []))

-- Until none.
pub data ByCursor (m : Memory) (k : ℕ) : List Mapping → Type 0 where
  last : {copy : List ℕ} {n : ℕ} {c : RemapCursor} {found : List Mapping}
      → Stepped m k copy n c found → Steps m.next m.words copy n c None → ByCursor m k found

-- The stream that is read of compartment k is the stream of c, whichever way, and it agrees with c at every host address. So
-- whoever reads it gets each right back exactly where c leaves it (document 02, order 10, of the device right).
pub record StreamIs (m : Memory) (k : ℕ) (c : Compartment) : Type 0 where
  pub by_pages : (got : List ℕ) → ByPages m k got → got ≡ each mapping_group (stream_of c)
  pub by_cursor : (found : List Mapping) → ByCursor m k found → found ≡ stream_of c
  pub agrees : (x : HostAddr) → x.0 < 2 ^ 64 → AgreesAt x c (stream_of c)
  pub back : (x : HostAddr) → x.0 < 2 ^ 64 → (t : Right) → GivesBack t x (c.values x) (stream_of c)
  -- before the end, what is read and what is still to come are the stream: each mapping read is one fewer to come
  pub paged : (from : ℕ) (got : List ℕ) → Paged m k from got
      → (from ≤ length (stream_of c)) × (got ++ each mapping_group (drop from (stream_of c)) ≡ each mapping_group (stream_of c))
  pub stepped : (copy : List ℕ) (n : ℕ) (d : RemapCursor) (found : List Mapping) → Stepped m k copy n d found
      → found ++ drop (length found) (stream_of c) ≡ stream_of c

-- What the reckoning is fed is what was heard: the arguments of each call and bundle, and whether it was accepted. Of a bundle
-- it hears the calls, if that was accepted, and else nothing (document 02, order 9).
pub record WholeStream (m : Memory) (heard : List (RunStep × Bool)) : Type 0 where
  pub reckoned : (k : ℕ) → k < 8 → StreamIs m k (reckoning k (steps_fed heard))
  -- and what these calls leave is what every further call asks for
  pub grown : GrownBy m (map (λ h. h.0) (steps_fed heard))

abbrev pub Statement : Type 0
Statement = (m : Memory) (heard : List (RunStep × Bool)) → Ran m heard → WholeStream m heard

-- the calls and bundles heard, without whether they were accepted
abbrev pub steps_of : List (RunStep × Bool) → List RunStep
steps_of heard = map (λ h. h.0) heard

-- Document 02, order 4: two runs that agree on one compartment's calls and allowance at each of them give it the same answers,
-- lists and streams, whatever the others do. The answers are those to its next call or bundle, so to each in turn; S alone is not
-- `own`.
pub record SameFor (k : ℕ) (m n : Memory) (xs ys : List RunStep) : Type 0 where
  pub changes : (call : Call) (m' n' : Memory) (a b : Answer) → own k (single call) ≡ true
      → allowance (done xs) k ≡ allowance (done ys) k → Changes call m m' a → Changes call n n' b → a ≡ b
  pub asks : (call : Call) (a b : Answer) → own k (single call) ≡ true
      → allowance (done xs) k ≡ allowance (done ys) k → Asks call m a → Asks call n b → a ≡ b
  pub bundles : (ns : List ℕ) (m' n' : Memory) (a b : Answer)
      → allowance (done xs) k ≡ allowance (done ys) k → Bundles k ns m m' a → Bundles k ns n n' b → a ≡ b
  pub regions : stored_at m.next m.words (get_or m.tables.trackers k no_tracker).head
      ≡ stored_at n.next n.words (get_or n.tables.trackers k no_tracker).head
  pub segments : (other : Remapper)
      → (ss : List Segment) × Holds (get_or m.tables.remappers k other) ss × Holds (get_or n.tables.remappers k other) ss
  pub by_pages : (got got' : List ℕ) → ByPages m k got → ByPages n k got' → got ≡ got'
  pub by_cursor : (found found' : List Mapping) → ByCursor m k found → ByCursor n k found' → found ≡ found'

abbrev pub Independent : Type 0
Independent =
    (k : ℕ) → k < 8 → (m n : Memory) (xs ys : List (RunStep × Bool)) → Ran m xs → Ran n ys
    → seen k (steps_of xs) ≡ seen k (steps_of ys) → SameFor k m n (steps_of xs) (steps_of ys)

-- Document 02, order 11: a loan handed back leaves no trace. One run, and the same with a loan behind it: an accepted add for
-- compartment k, then calls and bundles for the others, and reads, then the remove of the same range and rights. That is accepted,
-- and whoever reads compartment k reads what would have been read without the loan; its allowance is as it was, so its later calls
-- are answered alike too. (Ends are 64-bit numbers: a record above them would be in no list.)
pub record HandedBack (k : ℕ) (m n : Memory) (xs ys : List RunStep) (ok : Bool) : Type 0 where
  pub taken : ok ≡ true
  pub allowing : allowance (done xs) k ≡ allowance (done ys) k
  pub same : SameFor k m n xs ys

-- what is heard of a run with a loan behind it
abbrev pub lent : List (RunStep × Bool) → ℕ → HostAddr → HostAddr → ℕ → List (RunStep × Bool) → Bool → List (RunStep × Bool)
lent heard k a e r between ok =
    (heard ++ ((single (Add k a e r), true) ∷ between)) ++ ((single (Remove k a e r), ok) ∷ [])

abbrev pub Loan : Type 0
Loan =
    (m n : Memory) (heard between : List (RunStep × Bool)) (k : ℕ) (a e : HostAddr) (r : ℕ) (ok : Bool) → e.0 ≤ 2 ^ 64
    → Ran m heard → Ran n (lent heard k a e r between ok) → undisturbed k (steps_of between) ≡ true
    → HandedBack k m n (steps_of heard) (steps_of (lent heard k a e r between ok)) ok

-- What Tables::permissions promises, of compartment k.
abbrev pub PermissionsPage : Memory → ℕ → ℕ → List ℕ → List ℕ → Answer → Type 0
PermissionsPage m k from out out' a =
    (calls : List Call) → GrownBy m calls
    → ReadsPage 3 permission_groups from calls (Permissions k from (length out)) m.words m.next m.links m.gens m.tables out out' a

-- The compartment's permission list is read, as numbers: by a page that answers fewer than fit its slice.
pub data Listed (m : Memory) (k : ℕ) : List ℕ → Type 0 where
  whole : {many : ℕ} {out out' : List ℕ} → PermissionsPage m k 0 out out' (Ok many) → many < length out / 3
      → Listed m k (take (3 * many) out')

-- A page of a plan is the same after any two runs that leave compartment k the same allowance: order 4 for plans, and of a loan
-- that was handed back too.
abbrev pub SamePlans : Type 0
SamePlans =
    (k : ℕ) (m n : Memory) (xs ys : List (RunStep × Bool)) (ns : List ℕ) (from : ℕ) (out out' out'' : List ℕ) (a b : Answer)
    → Ran m xs → Ran n ys → allowance (done (steps_of xs)) k ≡ allowance (done (steps_of ys)) k
    → Plans k ns from m out out' a → Plans k ns from n out out'' b → (a ≡ b) × (out' ≡ out'')

-- Document 02, order 13: a run that leaves compartment k empty, and behind it the adds of the script for a wish that `plan` did not
-- refuse. Each of them is accepted, and whoever reads the compartment's permission list reads the wish.
pub record Yields (k : ℕ) (ns : List ℕ) (n : Memory) (added : List (RunStep × Bool)) : Type 0 where
  pub taken : all (λ h. h.1) added ≡ true
  pub listed : (got : List ℕ) → Listed n k got → got ≡ ns

abbrev pub Layout : Type 0
Layout =
    (m n : Memory) (heard added : List (RunStep × Bool)) (k : ℕ) (ns : List ℕ) (from many : ℕ) (out out' : List ℕ) → all fits ns ≡ true
    → Ran m heard → reckoning k (steps_fed heard) ≡ empty → Plans k ns from m out out' (Ok many)
    → Ran n (heard ++ added) → steps_of added ≡ map single (adds k (plan (wanted ns))) → Yields k ns n added

-- is it an add or a remove for compartment k?
unfoldable pub changes_in : ℕ → RunStep → Bool
changes_in k (single c) = (compartment_of c =? k) && changes c
changes_in k (bundle j ns) = false

-- And where `plan` refused it with 25, no adds and removes for the compartment, all of them accepted, lead to tables from which the
-- wish is read.
abbrev pub NoLayout : Type 0
NoLayout =
    (m n : Memory) (heard added : List (RunStep × Bool)) (k : ℕ) (ns : List ℕ) (from : ℕ) (out out' : List ℕ)
    → Ran m heard → reckoning k (steps_fed heard) ≡ empty → Plans k ns from m out out' (Err NoScript)
    → Ran n (heard ++ added) → all (λ h. changes_in k h.0 && h.1) added ≡ true → Listed n k ns → ⊥
