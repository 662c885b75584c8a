-- Document 02, order 11: why no call for that compartment may come in between. Its S is one.
use mathlib.Core.Path.{◌≡◌, refl}
use mathlib.Core.Bool.{true}
use mathlib.Core.List.{List, [], ◌∷◌}
use Rattle.definitions.specs.Tests.{host, all}
use Rattle.definitions.specs.Calls.{start, answer, after_from, after}
use Rattle.definitions.specs.declared.answer.Refusal.TheVariants.{OutOfMemory}
use Rattle.std.specs.Prelude.{Ok, Err}
use Rattle.definitions.specs.declared.call.Call.{Call}
use Rattle.definitions.specs.declared.call.Call.TheVariants.{Add, Remove, Allow}
use Rattle.definitions.proofs.Tables.{start_on, asks_on, after_on}
use Rattle.definitions.proofs.TableLaws.{shows-start, asks-is, after_is}
use Rattle.definitions.proofs.LayoutProofs.{opened, fits_call, fit_all}

-- a call after others, computed on tables
on-tables : (before : List Call) (c : Call) → all fits_call (c ∷ before) ≡ true → answer (after before) c ≡ asks_on (after_on start_on before) c
unfolding after
on-tables before c h =
    let fits = fit_all (c ∷ before) h in
    asks-is (after_from start before) (after_on start_on before) (after_is before start start_on fits.1 shows-start) c fits.0

-- [0,5) is held twice and [5,10) once: two records, and an allowance of two
held-so : List Call
held-so = Add 0 (host 0) (host 10) 1 ∷ Add 0 (host 0) (host 5) 1 ∷ Allow 0 2 ∷ []

-- a loan of [5,10) joins them, at a peak of two
lent-at-full : answer (after held-so) (Add 0 (host 5) (host 10) 1) ≡ Ok 0
unfolding opened held-so
lent-at-full = on-tables held-so (Add 0 (host 5) (host 10) 1) refl

-- one record is left, so the allowance may be lowered to one; then the remove lacks the second
shrunk : List Call
shrunk = Add 0 (host 0) (host 10) 1 ∷ Add 0 (host 0) (host 5) 1 ∷ Allow 0 2 ∷ Add 0 (host 5) (host 10) 1 ∷ Allow 0 1 ∷ []

own-allowance-in-between : answer (after shrunk) (Remove 0 (host 5) (host 10) 1) ≡ Err OutOfMemory
unfolding opened shrunk
own-allowance-in-between = on-tables shrunk (Remove 0 (host 5) (host 10) 1) refl
