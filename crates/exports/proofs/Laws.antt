-- A script from empty tables: what is read after it, and what is printed of it.
use Rattle.std.specs.Prelude.{if◌then◌else◌}
use Prim.Native.Nat.{ℕ, ◌+◌, ◌-◌, ◌≤◌}
use mathlib.Core.Path.{◌≡◌, refl, sym, ap, ◌∙◌}
use mathlib.Core.Bool.{Bool, true, false}
use mathlib.Core.List.{List, [], ◌∷◌, ◌++◌, map}
use native.Mathlib.Omega.{arith}
use native.Mathlib.Decide.{dec_lt}
use lib.ListN.{length, take, drop, length-take}
use lib.Seq.{sets}
use borrow.Author.Tests.{leb-true}
use Rattle.definitions.specs.Tests.{◌<?◌, ◌≤?◌, each}
use Rattle.definitions.specs.Pages.{page}
use Rattle.definitions.specs.Reckoning.{Compartment, compartment_of}
use Rattle.definitions.specs.Questions.{ask, refusal_number}
use Rattle.definitions.specs.Calls.{State, start, compartment, stream_of, stream_groups, permission_groups, answer_in, answer, after, after_from}
use Rattle.definitions.specs.Script.{Line, call, malformed, line_of, lines_of, heading, mapping_line, mapping_lines, printed, left, output_from, output_of, whole_lines}
use Rattle.definitions.specs.declared.remapper.Mapping.{Mapping}
use Rattle.definitions.specs.declared.answer.Refusal.{Refusal}
use Rattle.definitions.specs.declared.answer.Refusal.TheVariants.{NoCompartment, InvalidMemOps, InvalidRange, CountFull, OutOfMemory, InvalidRegion, EndedBefore, CountEmpty, EmptySegment, Overflow, AlreadyAliased, NoSlot, Repeated, OthersTouched, Malformed, PoolExceeded, StillInUse, BundleTooLong, NoScript}
use Rattle.definitions.specs.Answers.{Answer}
use Rattle.std.specs.Prelude.{Ok, Err, Option, Some, None}
use Rattle.definitions.specs.declared.call.Call.{Call}
use Rattle.definitions.specs.declared.call.Call.TheVariants.{Add, Remove, Refcount, Overlaps, Map, Unmap, UnmapGpa, Permissions, Remap, Mappings, Allow}
use Rattle.columns.specs.Columns as columns
use Rattle.lines.proofs.Written.{length-heading, length-answer, length-mapping}
use Rattle.lines.proofs.Putting.{put-at, put-none, none-whole}
use Rattle.capability_engine.specs.declared.compartments.Tables.{Tables}
use Rattle.capability_engine.specs.declared.script.Script.{Script}
use Rattle.capability_engine.specs.CompartmentGrown as engine
use Rattle.capability_engine.specs.ScriptFeed.{due, comes, begun, held, Feeds, Replays}
use Rattle.capability_engine.proofs.ScriptWhole as whole
use Rattle.exports.specs.Exports.{coded, left_by, Prints, ReadsPage, Leaves}

-- ---- answers as numbers

refusal-from : (r : Refusal) → 1 ≤ refusal_number r
refusal-from NoCompartment = omega arith
refusal-from InvalidMemOps = omega arith
refusal-from InvalidRange = omega arith
refusal-from CountFull = omega arith
refusal-from OutOfMemory = omega arith
refusal-from InvalidRegion = omega arith
refusal-from EndedBefore = omega arith
refusal-from CountEmpty = omega arith
refusal-from EmptySegment = omega arith
refusal-from Overflow = omega arith
refusal-from AlreadyAliased = omega arith
refusal-from NoSlot = omega arith
refusal-from Repeated = omega arith
refusal-from OthersTouched = omega arith
refusal-from Malformed = omega arith
refusal-from PoolExceeded = omega arith
refusal-from StillInUse = omega arith
refusal-from BundleTooLong = omega arith
refusal-from NoScript = omega arith

pub from_one : (r : Refusal) (n : ℕ) → n ≡ refusal_number r → 1 ≤ n
from_one r n e = omega (arith, refusal-from r, e)

pub coded-refused : (a : Answer) (r : Refusal) (n : ℕ) → a ≡ Err r → n ≡ refusal_number r → 18446744073709551615 - (n - 1) ≡ coded a
coded-refused a r n e m = rw e (omega (arith, refusal-from r, m))

-- ---- tables, and what is read from them

-- new tables are grown by no call
pub fresh : (words next links gens links' gens' : List ℕ) (r : Option Tables) → engine.Creates words next links gens links' gens' r
    → (t : Tables) → r ≡ Some t → engine.Grown words next links' gens' t []
fresh words next links gens links' gens' r c t e = (c.made t e).grown

pub leaves : (script words next links gens : List ℕ) (t : Tables) → Replays [] script words next links gens t → Leaves (left_by script) words next links gens t
unfolding left_by after after_from
leaves script words next links gens t q = record { calls = q.later; grown = q.grown; left = q.left }

module _ (s : State) (calls : List Call) (e : after calls ≡ s) (a : Answer) (r : ℕ) (c : r ≡ coded a) where
  pub asked : (q : Call) → a ≡ answer (after calls) q → r ≡ coded (answer s q)
  asked q f = c ∙ ap coded (f ∙ ap (λ (t : State). answer t q) e)

  module _ (k from : ℕ) (out out' : List ℕ) where
    pub list-page : (width : ℕ) (groups : Compartment → List (List ℕ)) → engine.ReadsList width groups calls k from out out' a
        → ReadsPage width groups s k from out out' r
    list-page width groups q = record {
      answered = c ∙ ap coded (q.answered ∙ ap (λ (t : State). ask ((k <? 8, NoCompartment) ∷ []) (Ok (length (page width (groups (compartment t k)) from (length out))))) e);
      slice = q.slice ∙ ap (λ (t : State). engine.page_left width (groups (compartment t k)) k from out) e;
    }

    pub stream-read : (words next links gens : List ℕ) (t : Tables)
        → engine.ReadsPage 5 stream_groups from calls (Remap k from (length out)) words next links gens t out out' a
        → ReadsPage 5 stream_groups s k from out out' r
    unfolding answer answer_in compartment_of
    stream-read words next links gens t q = list-page 5 stream_groups (record { answered = q.reads.answered; slice = q.slice })

    pub permissions-read : (words next links gens : List ℕ) (t : Tables)
        → engine.ReadsPage 3 permission_groups from calls (Permissions k from (length out)) words next links gens t out out' a
        → ReadsPage 3 permission_groups s k from out out' r
    unfolding answer answer_in compartment_of
    permissions-read words next links gens t q = list-page 3 permission_groups (record { answered = q.reads.answered; slice = q.slice })

-- ---- there are no more lines than bytes

abbrev Each : List (List ℕ) → Type 0
Each [] = Unit {0}
Each (l ∷ ls) = (1 ≤ length l) × Each ls

few : (room : ℕ) (ls : List (List ℕ)) → Each ls → length (whole_lines room ls) ≤ room
unfolding whole_lines
few room [] h = omega arith
few room (l ∷ ls) h = go (length l ≤? room) refl (few (room - length l) ls h.1)
  where
    go : (b : Bool) → (length l ≤? room) ≡ b → length (whole_lines (room - length l) ls) ≤ room - length l
        → length (if b then l ∷ whole_lines (room - length l) ls else []) ≤ room
    go true d i = omega (arith, leb-true (length l) room d, h.0, i)
    go false d i = omega arith

each_both : (xs ys : List (List ℕ)) → Each xs → Each ys → Each (xs ++ ys)
each_both [] ys h g = g
each_both (x ∷ xs) ys h g = (h.0, each_both xs ys h.1 g)

each-mapping : (ms : List Mapping) → Each (map mapping_line ms)
each-mapping [] = Prim.tt
each-mapping (m ∷ ms) = (omega (arith, length-mapping m), each-mapping ms)

each-mappings : (s : State) (c : Call) → Each (mapping_lines s c)
unfolding mapping_lines
each-mappings s (Mappings k) = go (k <? 8)
  where
    go : (b : Bool) → Each (if b then map mapping_line (stream_of (compartment s k)) else [])
    go true = each-mapping (stream_of (compartment s k))
    go false = Prim.tt
each-mappings s (Add k a e r) = Prim.tt
each-mappings s (Remove k a e r) = Prim.tt
each-mappings s (Refcount k a e) = Prim.tt
each-mappings s (Overlaps k g n) = Prim.tt
each-mappings s (Map k h g n t) = Prim.tt
each-mappings s (Unmap k h n) = Prim.tt
each-mappings s (UnmapGpa k g n) = Prim.tt
each-mappings s (Permissions k i n) = Prim.tt
each-mappings s (Remap k i n) = Prim.tt
each-mappings s (Allow k n) = Prim.tt

each-printed : (s : State) (l : Line) → Each (printed s l)
each-printed s (call c) = (omega (arith, length-answer (answer s c)), each-mappings s c)
each-printed s malformed = (omega (arith, length-answer (Err Malformed)), Prim.tt)

each-output : (s : State) (ls : List (List ℕ)) → Each (output_from s ls)
unfolding output_from
each-output s [] = Prim.tt
each-output s (l ∷ ls) =
    each_both (printed s (line_of l)) (output_from (left s (line_of l)) ls) (each-printed s (line_of l)) (each-output (left s (line_of l)) ls)

pub counted : (script out out' : List ℕ) (n : ℕ) → Prints script out out' n → n ≤ length out
unfolding output_of
counted script out out' n p =
    omega (arith, p.many, few (length out) (output_of script) (omega (arith, length-heading), each-output start (lines_of script)))

-- ---- what is printed

prints : (script out out' : List ℕ) (n : ℕ) → whole.Wrote script out out' n → Prints script out out' n
prints script out out' n w = record { slice = w.slice; many = w.many }

module _ (script out out' : List ℕ) (put : Option ℕ) (w : columns.Wrote 0 heading out put out') where
  -- the heading does not fit
  pub prints-none : put ≡ None → Prints script out out' 0
  unfolding output_of
  prints-none e =
      let v = put-none 0 heading out out' put w e in
      let none : whole_lines (length out) (output_of script) ≡ [] = none-whole (length out) heading (output_from start (lines_of script)) (omega (arith, v.0)) in
      record { slice = v.1 ∙ ap (λ (x : List (List ℕ)). sets out 0 (each (λ l. l) x)) (sym none); many = ap length (sym none) }

  -- it does, and the script is fed
  module _ (at : ℕ) (e : put ≡ Some at) (c : Script) (b : c ≡ begun) (words next links gens out1 : List ℕ) (t : Tables) (r : Script)
      (f : Feeds [] c script out' at words next links gens out1 t r) where
    room : 25 ≤ length out
    room = omega (arith, (put-at 0 heading out out' put w at e).0, length-heading)

    from : at ≡ 25
    from = omega (arith, (put-at 0 heading out out' put w at e).1, length-heading)

    headed : out' ≡ sets out 0 heading
    headed = (put-at 0 heading out out' put w at e).2

    first : Feeds [] begun script (sets out 0 heading) 25 words next links gens out1 t r
    first = record {
      later = f.later;
      grown = f.grown;
      lines = f.lines;
      prints = λ more. ap (λ (s : Script). due (after []) s (script ++ more)) (sym b) ∙ f.prints more;
      leaves = λ more. ap (λ (s : Script). comes (after []) s (script ++ more)) (sym b) ∙ f.leaves more;
      text = f.text ∙ ap (λ (o : List ℕ). sets o at (each (λ l. l) f.lines)) headed ∙ ap (λ (n : ℕ). sets (sets out 0 heading) n (each (λ l. l) f.lines)) from;
      end = f.end ∙ ap (λ (n : ℕ). n + length (each (λ l. l) f.lines)) from;
      many = f.many;
      fits = λ l. omega (arith, ap length headed, f.fits (omega (arith, ap length headed, from)));
      room = f.room ∙ ap (λ (s : Script). length s.line) b;
      taken = f.taken;
      whole = f.whole;
      stuck = λ g more. ap (λ (o : List ℕ). whole_lines (length o - r.progress.at) (due (after f.later) r (drop r.progress.used script ++ more))) (sym headed) ∙ f.stuck g more;
      ahead = λ k l. f.ahead (omega (arith, ap (λ (s : Script). s.progress.compartment) b)) (omega (arith, ap length headed, from));
    }

    pub prints-full : r.progress.full ≡ true → Prints script out out1 (1 + r.progress.lines)
    prints-full g = prints script out out1 (1 + r.progress.lines) (whole.wrote-full script out words next links gens out1 t r room first g)

    module _ (g : r.progress.full ≡ false) where
      pub prints-all : r.progress.len ≡ 0 → Prints script out out1 (1 + r.progress.lines)
      prints-all z =
          let n : length (held r) ≡ 0 = ap (λ (k : ℕ). length (take k r.line)) z in
          prints script out out1 (1 + r.progress.lines) (whole.wrote-all script out words next links gens out1 t r room first g n)

      -- the last line lacks its end
      module _ (z : r.progress.len ≡ 0 → ⊥) (words' next' links' gens' out2 : List ℕ) (t' : Tables) (q : Script)
          (h : Feeds f.later r (10 ∷ []) out1 r.progress.at words' next' links' gens' out2 t' q) where
        begins : 1 ≤ length (held r)
        begins = elim (dec_lt 0 r.progress.len) [ yes l ↦ omega (arith, length-take r.progress.len r.line, first.room) | no l ↦ absurd (z (omega arith)) ]

        pub prints-last : Prints script out out2 (1 + r.progress.lines + q.progress.lines)
        unfolding first
        prints-last =
            prints script out out2 (1 + r.progress.lines + q.progress.lines)
            (whole.wrote-last script out words next links gens out1 t r room first g begins words' next' links' gens' out2 t' q h)
