-- Document 01, "Questions in order, with the number for no": what a call answers, accepted with a value or refused.
use Rattle.std.specs.Prelude.{ℕ, Result}
use Rattle.definitions.specs.declared.answer.Refusal.{Refusal}

abbrev pub Answer : Type 0
Answer = Result ℕ Refusal
