use mathlib.Core.Path.{sym, ap, ◌∙◌}
use Rattle.std.specs.Prelude.{None}
use Rattle.free_list.specs.declared.FreeListIterator.{FreeListIterator}
use Rattle.free_list.proofs.Calls.{next-used, next-skip, next-end}
use Rattle.free_list.proofs.FreeListIterator.next.Goals as goal

pub loop-idx-preserved : goal.loop-idx-preserved
loop-idx-preserved c =
    (c.loop-idx.invariant.0, λ n calls g. next-skip n calls _ _ g _ c.args.self.now (c.loop-idx.invariant.1 n calls g) c.loop-idx-test.true (sym (c.is_free.ensures n calls g) ∙ c.if-not-is_free.false))

pub returns-then-not-is_free : goal.returns-then-not-is_free
returns-then-not-is_free c = λ n calls g. next-used n calls _ _ g _ c.args.self.now (c.loop-idx.invariant.1 n calls g) c.loop-idx-test.true (sym (c.is_free.ensures n calls g) ∙ c.if-not-is_free.true)

pub returns : goal.returns
returns c = λ n calls g. ap (λ (d : FreeListIterator). (None, d)) c.loop-idx.invariant.0 ∙ next-end n calls _ _ g _ c.args.self.now (c.loop-idx.invariant.1 n calls g) c.loop-idx-test.false
