-- That the slices and the segments fit together is a fact: it has one proof at most.
use Prim.Native.Nat.{ℕ}
use mathlib.Core.List.{List, [], ◌∷◌}
use Rattle.std.specs.Coded.{×_prop, Unit-prop}
use Rattle.std.proofs.Props.{props}
use Rattle.definitions.proofs.SegmentLaws.{AllGood}
use Rattle.definitions.specs.declared.remapper.Segment.{Segment}
use Rattle.capability_engine.specs.StreamCursor.{Table}

pub AllGood-prop : (ss : List Segment) → IsProp (AllGood ss)
AllGood-prop [] = Unit-prop
AllGood-prop (s ∷ ss) = ×_prop (Prim.hlevel props) (AllGood-prop ss)

pub Table-prop : (ws sg : List ℕ) (n : ℕ) → IsProp (Table ws sg n)
Table-prop ws sg n = Prim.hlevel (props, AllGood-prop)
