-- The texts that are written for the pieces of a script, joined, are its output.
use Prim.Native.Nat.{ℕ, ◌+◌, ◌≤◌}
use mathlib.Core.Path.{◌≡◌, sym, ap, ◌∙◌}
use mathlib.Core.List.{List, ◌++◌}
use native.Mathlib.Omega.{arith}
use lib.ListN.{length, take, drop}
use lib.Seq.{sets-eq, take-append_seam}
use Rattle.definitions.specs.Calls.{start, after, after_from}
use Rattle.definitions.specs.Script.{heading, output_of}
use Rattle.definitions.specs.declared.call.Call.{Call}
use Rattle.capability_engine.specs.declared.script.Script.{Script}
use Rattle.capability_engine.specs.declared.compartments.Tables.{Tables}
use Rattle.capability_engine.specs.ScriptFeed.{due, Feeds}
use Rattle.capability_engine.specs.ScriptPieces.{joined, Writes, fed, arrives, ends, done, Statement}
use Rattle.capability_engine.proofs.StreamLists.{each_append}
use Rattle.capability_engine.proofs.ScriptWhole.{due-last, due-done, due-begun}

-- what a feed has written
written : (calls : List Call) (c : Script) (bytes out words next links gens out' : List ℕ) (t : Tables) (r : Script) (f : Feeds calls c bytes out 0 words next links gens out' t r)
    → take r.progress.at out' ≡ joined f.lines
written calls c bytes out words next links gens out' t r f =
    let n : ℕ = length (joined f.lines) in
    let z : 0 + n ≡ n = omega arith in
    let l : 0 + n ≤ length out = omega (arith, f.end, f.fits (omega arith)) in
    let e : out' ≡ joined f.lines ++ drop (0 + n) out = f.text ∙ sets-eq (joined f.lines) out 0 l in
    ap (λ (k : ℕ). take k out') (f.end ∙ z) ∙ ap (take n) e ∙ take-append_seam (joined f.lines) (drop (0 + n) out)

writes : {calls : List Call} {c : Script} {bytes : List ℕ} {pieces : List (List ℕ)} {text : List ℕ} → Writes calls c bytes pieces text
    → text ≡ joined (due (after calls) c (bytes ++ joined pieces))
writes (fed {calls} {c} {bytes} {pieces} {later} {out} {words} {next} {links} {gens} {out'} {t} {c'} f w) =
    ap (λ (x : List ℕ). x ++ later) (written calls c bytes out words next links gens out' t c' f)
    ∙ ap (λ (x : List ℕ). joined f.lines ++ x) (writes w)
    ∙ sym (each_append (λ l. l) f.lines (due (after f.later) c' (drop c'.progress.used bytes ++ joined pieces)))
    ∙ ap joined (sym (f.prints (joined pieces)))
writes (arrives w) = writes w
writes (ends {calls} {c} e l w) = writes w ∙ ap joined (due-last (after calls) c e l)
writes (done {calls} {c} e z) = ap joined (sym (due-done (after calls) c e z))

pub joined_pieces : Statement
unfolding after after_from output_of
joined_pieces pieces text w = ap (λ (x : List ℕ). heading ++ x) (writes w ∙ ap joined (due-begun start (joined pieces)))
