-- Lines are written one after the other, as many as fit.
use Prim.Native.Nat.{ℕ, suc, ◌+◌, ◌-◌, ◌<◌, ◌≤◌, ◌^◌}
use mathlib.Core.Path.{◌≡◌, refl, sym, ap, subst, ◌∙◌}
use mathlib.Core.Bool.{true, false, true≢false}
use mathlib.Core.List.{List, [], ◌∷◌, ◌++◌, map, append_assoc, append-nil}
use native.Mathlib.Omega.{arith}
use lib.ListN.{length, drop, set, length-append, length-map, length-drop}
use lib.Seq.{set_comm, sets, length-sets}
use Rattle.definitions.specs.Reckoning.{Compartment}
use Rattle.definitions.specs.Calls.{stream_of}
use Rattle.definitions.specs.Stream.{stream}
use Rattle.definitions.specs.Script.{answer_line, mapping_line}
use Rattle.std.specs.Prelude.{Ok, Option, Some, None}
use Rattle.definitions.specs.declared.remapper.Mapping.{Mapping}
use Rattle.columns.specs.Columns.{Wrote}
use Rattle.columns.proofs.Room.{sets_behind, written}
use Rattle.lines.proofs.Written.{length-answer, length-mapping}
use Rattle.lines.proofs.Putting.{put-at, put-none, none-whole}
use Rattle.capability_engine.specs.declared.region.RegionTracker.{RegionTracker}
use Rattle.capability_engine.specs.declared.remapper.Remapper.{Remapper}
use Rattle.capability_engine.specs.declared.script.Progress.{Progress}
use Rattle.capability_engine.specs.PoolChain.{stored_at}
use Rattle.capability_engine.specs.SegmentWords.{segments_from}
use Rattle.capability_engine.specs.RemapListing.{Copied}
use Rattle.capability_engine.specs.ScriptSteps.{bytes_of, Adds, Prints, lines_on, Shows}
use Rattle.capability_engine.proofs.StreamLists.{each_append}
use Rattle.definitions.proofs.Fills.{map-drop}

-- the next line did not fit; or a P is written to its end
abbrev pub stopped : Progress → Progress
stopped p = record {
  len = p.len;
  compartment = p.compartment;
  from = p.from;
  used = p.used;
  at = p.at;
  lines = p.lines;
  full = true;
}

abbrev pub finished : Progress → Progress
finished p = record {
  len = p.len;
  compartment = 8;
  from = p.from;
  used = p.used;
  at = p.at;
  lines = p.lines;
  full = p.full;
}

-- ---- lines added

module _ (out : List ℕ) (p r : Progress) where
  pub adds_none : r.at ≡ p.at → r.lines ≡ p.lines → p.lines ≤ p.at → Adds [] out out p r
  adds_none a n h = record { text = refl; end = omega arith; many = omega arith; counted = omega arith; fits = λ l. omega arith }

  pub adds_one : (out' line : List ℕ) (n : ℕ) → length line ≡ n → 1 ≤ n → p.lines ≤ p.at → out' ≡ sets out p.at line → r.at ≡ p.at + n
      → r.lines ≡ p.lines + 1 → p.at + n ≤ length out → Adds (line ∷ []) out out' p r
  adds_one out' line n e l h t a m room =
      let z : line ≡ bytes_of (line ∷ []) = sym (append-nil line) in
      record {
        text = t ∙ ap (sets out p.at) z;
        end = a ∙ ap (λ (k : ℕ). p.at + k) (sym e ∙ ap length z);
        many = m;
        counted = omega arith;
        fits = λ q. omega arith;
      }

module _ (ls ls' : List (List ℕ)) (out out' out'' : List ℕ) (p q r : Progress) where
  pub adds-more : Adds ls out out' p q → Adds ls' out' out'' q r → Adds (ls ++ ls') out out'' p r
  adds-more a b =
      let all : bytes_of (ls ++ ls') ≡ bytes_of ls ++ bytes_of ls' = each_append (λ l. l) ls ls' in
      record {
        text = b.text ∙ ap (λ (o : List ℕ). sets o q.at (bytes_of ls')) a.text ∙ ap (λ (k : ℕ). sets (sets out p.at (bytes_of ls)) k (bytes_of ls')) a.end
            ∙ sets_behind p.at (length (bytes_of ls)) (bytes_of ls) (bytes_of ls') out refl ∙ ap (λ (x : List ℕ). sets out p.at x) (sym all);
        end = omega (arith, a.end, b.end, ap length all, length-append (bytes_of ls) (bytes_of ls'));
        many = omega (arith, a.many, b.many, length-append ls ls');
        counted = b.counted;
        fits = λ l.
            (let same : length out' ≡ length out = ap length a.text ∙ length-sets out p.at (bytes_of ls) in
            omega (arith, b.fits (omega (arith, a.fits l, same)), same));
      }

pub adds-length : (ls : List (List ℕ)) (out out' : List ℕ) (p r : Progress) → Adds ls out out' p r → length out' ≡ length out
adds-length ls out out' p r a = ap length a.text ∙ length-sets out p.at (bytes_of ls)

-- ---- the lines of a P, one by one

-- all of these lines but the rest are written
pub record Printing (ls : List (List ℕ)) (out₀ out : List ℕ) (p₀ p : Progress) (rest : List (List ℕ)) : Type 0 where
  pub done : List (List ℕ)
  pub split : ls ≡ done ++ rest
  pub adds : Adds done out₀ out p₀ p
  pub from : p.from ≡ p₀.from + length done
  pub len : p.len ≡ p₀.len
  pub used : p.used ≡ p₀.used
  pub compartment : p.compartment ≡ p₀.compartment
  pub full : p.full ≡ false

pub printing-start : (ls rest : List (List ℕ)) (out : List ℕ) (p : Progress) → ls ≡ rest → p.full ≡ false → p.lines ≤ p.at → Printing ls out out p p rest
printing-start ls rest out p e f h = record {
  done = [];
  split = e;
  adds = adds_none out p p refl refl h;
  from = omega arith;
  len = refl;
  used = refl;
  compartment = refl;
  full = f;
}

module _ (ls : List (List ℕ)) (out₀ out : List ℕ) (p₀ p : Progress) (rest : List (List ℕ)) (i : Printing ls out₀ out p₀ p rest) where
  pub printing-end : rest ≡ [] → Prints ls out₀ out p₀ (finished p)
  printing-end e = record {
    written = i.done;
    left = rest;
    split = i.split;
    adds = record { text = i.adds.text; end = i.adds.end; many = i.adds.many; counted = i.adds.counted; fits = i.adds.fits };
    len = i.len;
    used = i.used;
    whole = λ f. (e, refl);
    stuck = λ f. absurd (true≢false (sym f ∙ i.full));
  }

  module _ (line : List ℕ) (l : 1 ≤ length line) (more : List (List ℕ)) (e : rest ≡ line ∷ more) (out' : List ℕ) (r : Option ℕ) (w : Wrote p.at line out r out') where
    pub printing-full : r ≡ None → Prints ls out₀ out' p₀ (stopped p)
    printing-full q =
        let v = put-none p.at line out out' r w q in
        let same : length out ≡ length out₀ = adds-length i.done out₀ out p₀ p i.adds in
        rw v.1
        (record {
          written = i.done;
          left = rest;
          split = i.split;
          adds = record { text = i.adds.text; end = i.adds.end; many = i.adds.many; counted = i.adds.counted; fits = i.adds.fits };
          len = i.len;
          used = i.used;
          whole = λ f. absurd (true≢false f);
          stuck = λ f. (i.compartment, i.from, λ b. rw e (none-whole (length out₀ - p.at) line (more ++ b) (omega (arith, v.0))));
        })

    pub printing-more : (k : ℕ) → r ≡ Some k → Printing ls out₀ out' p₀ (record {
      len = p.len;
      compartment = p.compartment;
      from = p.from + 1;
      used = p.used;
      at = k;
      lines = p.lines + 1;
      full = p.full;
    }) more
    printing-more k q =
        let v = put-at p.at line out out' r w k q in
        record {
          done = i.done ++ (line ∷ []);
          split = i.split ∙ ap (λ (x : List (List ℕ)). i.done ++ x) e ∙ sym (append_assoc i.done (line ∷ []) more);
          adds = adds-more i.done (line ∷ []) out₀ out out' p₀ p _ i.adds (adds_one out p _ out' line (length line) refl l i.adds.counted v.2 v.1 refl v.0);
          from = omega (arith, i.from, length-append i.done (line ∷ []));
          len = i.len;
          used = i.used;
          compartment = i.compartment;
          full = i.full;
        }

    -- the counts fit: there are no more lines than bytes, and of a P not so many
    pub printing-counts : (k : ℕ) → r ≡ Some k → p.lines + 1 ≤ k
    printing-counts k q = omega (arith, i.adds.counted, (put-at p.at line out out' r w k q).1)

    pub printing-fits : length ls ≤ 140000 - (p₀.from - 1) → p.from + 1 < 2 ^ 64
    printing-fits h =
        omega (arith, i.from, ap length i.split, length-append i.done rest, ap length e)

-- from the first mapping on: the lines written, and the mappings to come, are all
pub printing-left : (out₀ out : List ℕ) (p₀ p : Progress) (k : ℕ) (ms left : List Mapping)
    → Printing (drop (k - 1) (map mapping_line ms)) out₀ out p₀ p (map mapping_line left) → k ≡ 1 → p.lines + length left ≡ p₀.lines + length ms
printing-left out₀ out p₀ p k ms left i e =
    omega (
      arith,
      e,
      i.adds.many,
      ap length i.split,
      length-append i.done (map mapping_line left),
      length-drop (k - 1) (map mapping_line ms),
      length-map ms mapping_line,
      length-map left mapping_line,
    )

-- the lines of the mappings from the k-th on
pub mappings-from : (k : ℕ) (ms all left : List Mapping) → all ≡ ms → left ≡ drop k all → drop k (map mapping_line ms) ≡ map mapping_line left
mappings-from k ms all left e f = sym (map-drop mapping_line k ms) ∙ ap (λ (l : List Mapping). map mapping_line (drop k l)) (sym e) ∙ ap (map mapping_line) (sym f)

pub mappings-few : (k : ℕ) (ms all : List Mapping) → all ≡ ms → length all ≤ 140000 → length (drop k (map mapping_line ms)) ≤ 140000 - k
mappings-few k ms all e h = simp (length-drop, length-map) (omega (arith, ap length e))

pub line-some : (m : Mapping) → 1 ≤ length (mapping_line m)
line-some m = omega (arith, length-mapping m)

-- ---- a P

-- one byte, and then some, are written before others that are written already
set_before : (l : List ℕ) (i v at : ℕ) (xs : List ℕ) → i < at → set (sets l at xs) i v ≡ sets (set l i v) at xs
set_before l i v at [] h = refl
set_before l i v at (x ∷ xs) h = set_before (set l at x) i v (suc at) xs (omega arith) ∙ ap (λ (m : List ℕ). sets m (suc at) xs) (set_comm l at i x v (λ e. omega (arith, e)))

sets-before : (a l : List ℕ) (i at : ℕ) (xs : List ℕ) → i + length a ≤ at → sets (sets l at xs) i a ≡ sets (sets l i a) at xs
sets-before [] l i at xs h = refl
sets-before (v ∷ a) l i at xs h = ap (λ (m : List ℕ). sets m (suc i) a) (set_before l i v at xs (omega arith)) ∙ sets-before a (set l i v) (suc i) at xs (omega arith)

prints-same : {ls ls' : List (List ℕ)} {out out' : List ℕ} {p r : Progress} → ls ≡ ls' → Prints ls out out' p r → Prints ls' out out' p r
prints-same {ls} {ls'} {out} {out'} {p} {r} e i = subst (λ (l : List (List ℕ)). Prints l out out' p r) e i

module _ (words next : List ℕ) (t : RegionTracker) (m : Remapper) (c : Compartment) (s : Shows words next t m c) (before copy : List ℕ) (n : ℕ)
    (k : Copied c.segments before copy n) where
  pub print-stream : stream (stored_at next words t.head) (segments_from copy 0 n) ≡ stream_of c
  unfolding stream_of
  print-stream = rw (s.stored, k.same)

  module _ (out : List ℕ) (p : Progress) where
    -- the answer's line is written already
    pub print-rest : (out' : List ℕ) (r : Progress) → 0 < p.from
        → Prints (drop (p.from - 1) (map mapping_line (stream (stored_at next words t.head) (segments_from copy 0 n)))) out out' p r
        → Prints (drop p.from (lines_on c)) out out' p r
    unfolding lines_on
    print-rest out' r l i =
        let z : p.from ≡ suc (p.from - 1) = omega arith in
        prints-same (ap (λ (ms : List Mapping). drop (p.from - 1) (map mapping_line ms)) print-stream ∙ sym (ap (λ (j : ℕ). drop j (lines_on c)) z)) i

    module _ (z : p.from ≤ 0) where
      all_lines : drop p.from (lines_on c) ≡ lines_on c
      all_lines = let e : p.from ≡ 0 = omega arith in ap (λ (j : ℕ). drop j (lines_on c)) e

      -- it does not fit
      pub print-none : length out < p.at + 25 → p.lines ≤ p.at → Prints (drop p.from (lines_on c)) out out p (stopped p)
      unfolding lines_on
      print-none l h = record {
        written = [];
        left = lines_on c;
        split = all_lines;
        adds = adds_none out p (stopped p) refl refl h;
        len = refl;
        used = refl;
        whole = λ f. absurd (true≢false f);
        stuck = λ f. (refl, omega arith, λ b. none-whole (length out - p.at) (answer_line (Ok (length (stream_of c)))) (map mapping_line (stream_of c) ++ b) (omega (arith, length-answer (Ok (length (stream_of c))))));
      }

      -- as many others as fit are written behind its place, and then it
      abbrev pub begun : Progress
      begun = record {
        len = p.len;
        compartment = p.compartment;
        from = 1;
        used = p.used;
        at = p.at + 25;
        lines = p.lines + 1;
        full = p.full;
      }

      module _ (out' : List ℕ) (r : Progress)
          (i : Prints (drop (1 - 1) (map mapping_line (stream (stored_at next words t.head) (segments_from copy 0 n)))) out out' begun r) where
        pub print-all : (many : ℕ) (out'' : List ℕ) (u : Option ℕ) → p.lines ≤ p.at → p.at + 25 ≤ length out
            → many ≡ length (stream (stored_at next words t.head) (segments_from copy 0 n)) → Wrote p.at (answer_line (Ok many)) out' u out''
            → Prints (drop p.from (lines_on c)) out out'' p r
        unfolding lines_on
        print-all many out'' u h room e w =
            let line : List ℕ = answer_line (Ok (length (stream_of c))) in
            let same : answer_line (Ok many) ≡ line = ap (λ (j : ℕ). answer_line (Ok j)) (e ∙ ap length print-stream) in
            let size : length line ≡ 25 = length-answer (Ok (length (stream_of c))) in
            let first : List ℕ = sets out p.at line in
            let one : Adds (line ∷ []) out first p begun = adds_one out p begun first line 25 size (omega arith) h refl refl refl room in
            let kept : length first ≡ length out = length-sets out p.at line in
            let o : out'' ≡ sets out' p.at line =
            written p.at 25 (answer_line (Ok many)) out' u out'' (length-answer (Ok many)) (omega (arith, adds-length i.written out out' begun r i.adds)) w ∙ ap (sets out' p.at) same in
            let rest : Adds i.written first out'' begun r = record {
              text = o ∙ ap (λ (x : List ℕ). sets x p.at line) i.adds.text ∙ sets-before line out p.at (p.at + 25) (bytes_of i.written) (omega arith);
              end = i.adds.end;
              many = i.adds.many;
              counted = i.adds.counted;
              fits = λ l. omega (arith, i.adds.fits (omega (arith, l, kept)), kept);
            } in
            record {
              written = line ∷ i.written;
              left = i.left;
              split = all_lines ∙ ap (λ (ls : List (List ℕ)). line ∷ ls) (sym (ap (map mapping_line) print-stream) ∙ i.split);
              adds = adds-more (line ∷ []) i.written out first out'' p begun r one rest;
              len = i.len;
              used = i.used;
              whole = i.whole;
              stuck = λ g. ((i.stuck g).0, omega (arith, (i.stuck g).1), (i.stuck g).2);
            }
