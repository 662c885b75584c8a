-- Document 02, order 9: bundles worked out.
use Prim.Native.Nat.{ℕ, ◌*◌}
use mathlib.Core.Path.{◌≡◌, refl, ap}
use mathlib.Core.Bool.{true}
use mathlib.Core.List.{List, [], ◌∷◌}
use lib.ListN.{length, replicate}
use Rattle.definitions.specs.Tests.{◌≤?◌, all}
use Rattle.definitions.specs.Questions.{ask}
use Rattle.definitions.specs.Calls.{start, after_from, after}
use Rattle.definitions.specs.Bundles.{bundle_of, calls_in, bundle_answer, bundle_leaves}
use Rattle.definitions.specs.Layouts.{two}
use Rattle.definitions.specs.declared.answer.Refusal.TheVariants.{NoCompartment, OutOfMemory, EndedBefore, Malformed, BundleTooLong}
use Rattle.std.specs.Prelude.{Ok, Err}
use Rattle.definitions.specs.declared.call.Call.{Call}
use Rattle.definitions.specs.declared.call.Call.TheVariants.{Allow}
use Rattle.definitions.proofs.Tables.{start_on, after_on, in_turn_on}
use Rattle.definitions.proofs.TableLaws.{shows-start, after_is, in-turn-is}
use Rattle.definitions.proofs.LayoutProofs.{opened, fits_call, fit_all}
use Rattle.definitions.proofs.Bundles.{refused-bundle-alters-nothing}

-- calls, then a bundle for compartment 0, computed on tables
on-tables : (before : List Call) (ns : List ℕ) → all fits_call before ≡ true → all fits_call (calls_in (bundle_of 0 ns)) ≡ true
    → bundle_answer (after before) 0 (bundle_of 0 ns)
    ≡ ask ((length (bundle_of 0 ns) ≤? 32, BundleTooLong) ∷ []) (in_turn_on (after_on start_on before) (bundle_of 0 ns))
unfolding bundle_answer after ask
on-tables before ns h g =
    ap (ask ((length (bundle_of 0 ns) ≤? 32, BundleTooLong) ∷ []))
    (in-turn-is (bundle_of 0 ns) (after_from start before) (after_on start_on before) (fit_all (calls_in (bundle_of 0 ns)) g) (after_is before start start_on (fit_all before h) shows-start))

-- half a deployment: [40,50) would be added, but [12,25) cannot be removed
half : List ℕ
half = 0 ∷ 40 ∷ 50 ∷ 1 ∷ 1 ∷ 12 ∷ 25 ∷ 1 ∷ []

half-refused : bundle_answer (after two) 0 (bundle_of 0 half) ≡ Err EndedBefore
unfolding opened half bundle_of calls_in in_turn_on
half-refused = on-tables two half refl refl

half-left : bundle_leaves (after two) 0 (bundle_of 0 half) ≡ after two
half-left = refused-bundle-alters-nothing (after two) 0 (bundle_of 0 half) (rw half-refused)

-- each is judged after the ones before it: with an allowance of 1, what is removed first leaves room
moves : List ℕ
moves = 0 ∷ 0 ∷ 10 ∷ 1 ∷ 1 ∷ 0 ∷ 10 ∷ 1 ∷ 0 ∷ 20 ∷ 30 ∷ 1 ∷ []

moves-accepted : bundle_answer (after (Allow 0 1 ∷ [])) 0 (bundle_of 0 moves) ≡ Ok 1
unfolding opened moves bundle_of calls_in in_turn_on
moves-accepted = on-tables (Allow 0 1 ∷ []) moves refl refl

grows-first : List ℕ
grows-first = 0 ∷ 0 ∷ 10 ∷ 1 ∷ 0 ∷ 20 ∷ 30 ∷ 1 ∷ 1 ∷ 0 ∷ 10 ∷ 1 ∷ []

grows-first-refused : bundle_answer (after (Allow 0 1 ∷ [])) 0 (bundle_of 0 grows-first) ≡ Err OutOfMemory
unfolding opened grows-first bundle_of calls_in in_turn_on
grows-first-refused = on-tables (Allow 0 1 ∷ []) grows-first refl refl

-- [40,50) would be added; then a group of a third kind, or one number more: 17, and nothing is altered. What would be refused
-- later is not asked, and what is refused before decides
third-kind : List ℕ
third-kind = 0 ∷ 40 ∷ 50 ∷ 1 ∷ 2 ∷ 0 ∷ 10 ∷ 1 ∷ 1 ∷ 12 ∷ 25 ∷ 1 ∷ []

third-kind-refused : bundle_answer (after two) 0 (bundle_of 0 third-kind) ≡ Err Malformed
unfolding opened third-kind bundle_of calls_in in_turn_on
third-kind-refused = on-tables two third-kind refl refl

third-kind-left : bundle_leaves (after two) 0 (bundle_of 0 third-kind) ≡ after two
third-kind-left = refused-bundle-alters-nothing (after two) 0 (bundle_of 0 third-kind) (rw third-kind-refused)

unfinished : List ℕ
unfinished = 0 ∷ 40 ∷ 50 ∷ 1 ∷ 1 ∷ []

unfinished-refused : bundle_answer (after two) 0 (bundle_of 0 unfinished) ≡ Err Malformed
unfolding opened unfinished bundle_of calls_in in_turn_on
unfinished-refused = on-tables two unfinished refl refl

refused-before : List ℕ
refused-before = 1 ∷ 12 ∷ 25 ∷ 1 ∷ 2 ∷ []

before-refused : bundle_answer (after two) 0 (bundle_of 0 refused-before) ≡ Err EndedBefore
unfolding opened refused-before bundle_of calls_in in_turn_on
before-refused = on-tables two refused-before refl refl

-- 32 adds of nothing are no change; 33 are too many; past the eight compartments that is not asked
many : ℕ → List ℕ
many n = replicate (4 * n) 0

thirty_two : bundle_answer (after []) 0 (bundle_of 0 (many 32)) ≡ Ok 0
unfolding opened many bundle_of calls_in in_turn_on
thirty_two = on-tables [] (many 32) refl refl

thirty-three : bundle_answer (after []) 0 (bundle_of 0 (many 33)) ≡ Err BundleTooLong
unfolding opened many bundle_of calls_in in_turn_on
thirty-three = on-tables [] (many 33) refl refl

-- 24 counts a last group that lacks numbers, and is asked before any call's turn
thirty-two-and-more : bundle_answer (after []) 0 (bundle_of 0 (0 ∷ many 32)) ≡ Err BundleTooLong
unfolding opened many bundle_of calls_in in_turn_on
thirty-two-and-more = on-tables [] (0 ∷ many 32) refl refl

nowhere : bundle_answer (after []) 8 (bundle_of 8 (many 33)) ≡ Err NoCompartment
unfolding bundle_answer ask
nowhere = refl
